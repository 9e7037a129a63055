use Rattle.std.proofs.Common.{sym, subst}
use Rattle.linked_view.proofs.Stays.{empty_sound}
use Rattle.message_view.specs.Sound.{IsSound}
use Rattle.schema_core.proofs.schema.Schema.bare.Goals as goal

pub invariant_of-result : goal.invariant_of-result
invariant_of-result c = record { sound = subst IsSound (sym c.new.ensures) empty_sound }
