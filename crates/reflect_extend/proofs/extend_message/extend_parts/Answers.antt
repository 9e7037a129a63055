use Rattle.std.proofs.Common.{refl, sym, subst, ◌∙◌}
use Rattle.reflect_pool.specs.FieldsLeft.{field_type}
use Rattle.reflect_message.specs.Oneofs.{AreChosen}
use Rattle.reflect_message.proofs.Choosing.{chosen_next, makes_room, room_exclusive, room_keeps, unsets_changes}
use Rattle.reflect_extend.proofs.Exclusive.{refused_chosen}
use Rattle.reflect_extend.proofs.Putting.{puts_none_at}
use Rattle.reflect_extend.proofs.Staying.{other_at, refused, rest_at}
use Rattle.reflect_extend.proofs.extend_message.extend_parts.Goals as goal

pub returns-in_err-make_room-clause-part : goal.returns-in_err-make_room-clause-part
returns-in_err-make_room-clause-part c = λ map. let held = c.args.parts.now.fields in
    puts_none_at c.from_residual.result held held (field_type c.args.field.now).number c.args.values.items refl

pub returns-in_err-make_room-clause-other : goal.returns-in_err-make_room-clause-other
returns-in_err-make_room-clause-other c = λ list. let held = c.args.parts.now.fields in
    other_at held held refl (field_type c.args.field.now).number

pub returns-in_err-make_room-clause-rest : goal.returns-in_err-make_room-clause-rest
returns-in_err-make_room-clause-rest c = let held = c.args.parts.now.fields in
    refused c.from_residual.result (rest_at held held refl c.args.field.now)

pub returns-in_err-make_room-clause-chosen : goal.returns-in_err-make_room-clause-chosen
returns-in_err-make_room-clause-chosen c = λ m owns.
    subst (λ l. AreChosen m l c.args.parts.now.fields) (sym c.in_err-make_room.ensures.refused)

pub returns-in_err-extend-clause-rest : goal.returns-in_err-extend-clause-rest
returns-in_err-extend-clause-rest c = refused c.from_residual-in_err-extend.result c.extend.ensures.others

pub returns-in_err-extend-clause-chosen : goal.returns-in_err-extend-clause-chosen
returns-in_err-extend-clause-chosen c = λ m owns chosen.
    let f = c.args.field.now in
    let before = c.args.parts.now in
    let noted = c.make_room.new.self.members in
    let room = c.in_ok-make_room.ensures in
    let made = makes_room f before.choices.members noted room.first room.stays room.others in
    let start = room_exclusive m f before.choices.members noted before.fields owns made chosen in
    refused_chosen f before.fields c.extend.new.content c.extend.ensures.others c.in_err-extend.ensures.absent m noted start

pub returns-clause-chosen : goal.returns-clause-chosen
returns-clause-chosen c = λ m owns chosen.
    let f = c.args.field.now in
    let before = c.args.parts.now in
    let noted = c.make_room.new.self.members in
    let filled = c.extend.new.content in
    let after = c.clear_siblings.new.self in
    let room = c.in_ok-make_room.ensures in
    let cleared = c.clear_siblings.ensures in
    let made = makes_room f before.choices.members noted room.first room.stays room.others in
    let start = room_exclusive m f before.choices.members noted before.fields owns made chosen in
    chosen_next m f owns noted after.choices.members before.fields after.fields start (cleared.chooses room.room)
    (unsets_changes f noted before.fields filled after.fields c.extend.ensures.others cleared.unsets)

pub returns-clause-ascending : goal.returns-clause-ascending
returns-clause-ascending c = λ up. c.clear_siblings.ensures.ascending (c.extend.ensures.ascending up)

pub returns-clause-unset : goal.returns-clause-unset
returns-clause-unset c = λ many n is.
    let f = c.args.field.now in
    let before = c.args.parts.now.choices.members in
    let noted = c.make_room.new.self.members in
    let room = c.in_ok-make_room.ensures in
    let made = makes_room f before noted room.first room.stays room.others in
    c.clear_siblings.ensures.unsets.unset n (room_keeps f before noted made ∙ is)
