use Rattle.std.proofs.Common.{rules}
use Rattle.std.proofs.lemmas.Bool.Decides.{not_from_Decides}
use Rattle.reflect_tables.specs.Types.{IsAmong}
use Rattle.reflect_tables.specs.Views.{field_of}
use Rattle.reflect_growth.proofs.More.{one_fails}
use Rattle.reflect_growth.proofs.within.oneofs_within.Goals as goal

-- the field is in a oneof that is not there
pub returns-then-not-is_among : goal.returns-then-not-is_among
returns-then-not-is_among c =
    one_fails (λ f. IsAmong c.args.count f.oneof) field_of c.args.fields.now c.loop-field.field-index c.field-item.result (search) (search) (not_from_Decides c.is_among.result c.is_among.ensures (search rules))
