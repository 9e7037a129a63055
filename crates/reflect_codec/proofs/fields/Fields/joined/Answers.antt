use Rattle.std.proofs.Common.{◌≡◌, [], ◌∷◌, ◌++◌, ap, sym, ◌∙◌, rules, to_z, of_z, w32, Vec, Global, Some}
use Rattle.std.specs.Prelude.{unsigned_abs}
use Rattle.std.proofs.lemmas.Result.{err_from_is_err_and}
use Rattle.std.specs.Prelude.{option_map}
use Rattle.reflect_codec.specs.declared.fields.RawField.{RawField}
use Rattle.reflect_codec.specs.Faults.{PartFault}
use Rattle.reflect_codec.specs.Raw.{fields_view}
use Rattle.reflect_codec.specs.Reading.{IsPartBelow}
use Rattle.reflect_codec.proofs.Values.{rejects_at, each_hit, each_miss, joined-push, none_is_empty, none_seen, blank}
use Rattle.reflect_codec.proofs.fields.Fields.joined.Goals as goal
use Rattle.reflect_codec.proofs.fields.Fields.joined.Goals.{then-field-wanted+in_ok-with_part, else-field-wanted}

pub returns-in_err-with_part-clause-read : goal.returns-in_err-with_part-clause-read
returns-in_err-with_part-clause-read c =
    let bits : to_z w32 (of_z w32 c.args.number) ≡ c.args.number = search rules in
    let p = err_from_is_err_and c.from_residual.result c.from_residual.ensures.1 in
    rw (p.1, p.2) (rejects_at c.unsigned_abs-wanted.result c.deref-field-items.result.now c.loop-field.field-index blank c.loop-field-test.true (unsigned_abs c.args.number) c.args.self.now.list.items (c.unsigned_abs-wanted.ensures.value ∙ ap unsigned_abs bits) c.deref-field-items.ensures.value
    c.if-field-wanted.true (IsPartBelow c.args.self.now.levels c.args.levels) (PartFault c.args.self.now.levels c.args.levels) _ _ (λ o h. (h.0, h.1)) c.in_err-with_part.ensures)

pub loop-field-preserved : goal.loop-field-preserved
loop-field-preserved c =
    let i = c.loop-field.invariant in
    elim c.if-field-wanted.branch [
      | then-field-wanted+in_ok-with_part w ↦
          let more = w.in_ok-with_part.ensures in
          let found = ap (option_map (λ (v : Vec RawField Global). fields_view v.items)) w.found-is in (
            i.0 ++ more.0 ∷ [],
            each_hit c.unsigned_abs-wanted.result c.deref-field-items.result.now c.loop-field.field-index blank c.loop-field-test.true (IsPartBelow c.args.self.now.levels c.args.levels) i.0 i.1 more.0 w.if-field-wanted.true more.1,
            found ∙ ap Some (more.2 ∙ ap (λ fs. fs ++ more.0) (ap (λ (v : Vec RawField Global). fields_view v.items) w.unwrap_or.ensures ∙ none_seen c.loop-field.found w.new.result w.new.ensures.items ∙ ap none_is_empty i.2)) ∙ sym (joined-push i.0 more.0),
          )
      | else-field-wanted w ↦
          let found = ap (option_map (λ (v : Vec RawField Global). fields_view v.items)) w.found-is in
          (i.0, each_miss c.unsigned_abs-wanted.result c.deref-field-items.result.now c.loop-field.field-index blank c.loop-field-test.true (IsPartBelow c.args.self.now.levels c.args.levels) i.0 i.1 w.if-field-wanted.false, found ∙ i.2)
    ]
