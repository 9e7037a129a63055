-- What steps of filling a message carry along.
use Rattle.reflect_message.specs.Oneofs.{IsExclusive}
use Rattle.reflect_message.specs.Names.{DynamicMessage}
use Rattle.reflect_format.specs.Steps.{StaysExclusive}
use Rattle.reflect_format.specs.declared.target.Target.{Target}
use Rattle.reflect_format.specs.declared.target.Target.TheVariants as targets
use Rattle.text_view.proofs.Owned.{OwnsTarget}

-- a step after which a message stays exclusive
pub stays : (t : Target) (old new : DynamicMessage) → OwnsTarget old.descriptor t → StaysExclusive t old new → IsExclusive old → IsExclusive new
stays (targets.Field f) old new owns keeps = keeps owns
stays (targets.Extension x) old new owns keeps = keeps
