use Rattle.std.proofs.Common.{rules}
use Rattle.std.proofs.lemmas.Bool.Decides.{not_from_Decides}
use Rattle.reflect_tables.specs.Types.{IsWithin}
use Rattle.reflect_tables.specs.Views.{field_of}
use Rattle.reflect_growth.proofs.More.{one_fails}
use Rattle.reflect_growth.proofs.within.fields_within.Goals as goal

-- the field names a type that is not there
pub returns-then-not-is_within : goal.returns-then-not-is_within
returns-then-not-is_within c =
    one_fails (λ f. IsWithin c.args.counts f.kind) field_of c.args.fields.now c.loop-field.field-index c.field-item.result (search) (search) (not_from_Decides c.is_within.result c.is_within.ensures (search rules))
