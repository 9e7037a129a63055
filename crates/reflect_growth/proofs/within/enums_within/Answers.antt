use Rattle.std.proofs.Common.{rules}
use Rattle.std.proofs.lemmas.Bool.Decides.{not_from_Decides}
use Rattle.reflect_tables.specs.Types.{EnumWithin}
use Rattle.reflect_tables.specs.Views.{enum_of}
use Rattle.reflect_growth.proofs.More.{one_fails}
use Rattle.reflect_growth.proofs.within.enums_within.Goals as goal

-- the enumeration is not within
pub returns-then-not-enum_within : goal.returns-then-not-enum_within
returns-then-not-enum_within c =
    one_fails (EnumWithin c.args.counts) enum_of c.args.items.now c.loop-enumeration.enumeration-index c.enumeration-item.result (search) (search) (not_from_Decides c.enum_within.result c.enum_within.ensures (search rules))
