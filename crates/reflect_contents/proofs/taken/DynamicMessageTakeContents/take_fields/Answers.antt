use Rattle.std.proofs.Common.{rules, ◌≡◌, []}
use Rattle.reflect_message.specs.Held.{fields_of, choices_of}
use Rattle.reflect_contents.proofs.Unsetting.{none_held}
use Rattle.reflect_contents.proofs.taken.DynamicMessageTakeContents.take_fields.Goals as goal

pub returns-clause-exclusive : goal.returns-clause-exclusive
returns-clause-exclusive c =
    let old = c.args.self.now in
    let new = c.match-block.self in
    let type : new.descriptor ≡ old.descriptor = search rules in
    let choices : choices_of new ≡ choices_of old = search rules in
    let fields : fields_of new ≡ [] = search rules in
    none_held old new type choices fields
