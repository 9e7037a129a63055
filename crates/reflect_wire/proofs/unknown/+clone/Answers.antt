use Rattle.std.proofs.Common.{◌≡◌, rules, ap, sym, ◌∙◌, map, arith}
use Rattle.std.proofs.lemmas.Grind.{common_steps}
use Rattle.std.proofs.lemmas.List.Elements.{same_from_all_zip}
use Rattle.reflect_wire.specs.declared.unknown.UnknownFieldValue.{the_lemmas}
use Rattle.reflect_wire.specs.Views.{records_of, field_view, fields_of}
use Rattle.reflect_wire.proofs.Views.{set_view-out, set_view-roll}
use Rattle.reflect_wire.proofs.unknown.+clone.Goals as goal

pub UnknownFieldSet::clone-returns : goal.UnknownFieldSet::clone-returns
UnknownFieldSet::clone-returns t c =
    let same : map field_view c.loop-field.fields.items ≡ map field_view (fields_of c.args.self.now) = grind (arith, common_steps) in
    set_view-roll c.loop-field.fields ∙ ap records_of same ∙ sym (set_view-out c.args.self.now)

pub UnknownFieldValue::clone-returns-in_ok-clone-in-LengthDelimited : goal.UnknownFieldValue::clone-returns-in_ok-clone-in-LengthDelimited
UnknownFieldValue::clone-returns-in_ok-clone-in-LengthDelimited t c = search (rules, the_lemmas, same_from_all_zip)
