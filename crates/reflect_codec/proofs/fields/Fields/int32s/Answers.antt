use Rattle.std.proofs.Common.{◌≡◌, [], ◌∷◌, ◌++◌, ap, sym, ◌∙◌, rules, to_z, of_z, w32, ℤ, Vec, Global}
use Rattle.std.specs.Prelude.{unsigned_abs}
use Rattle.std.proofs.lemmas.Result.{err_from_is_err_and}
use Rattle.reflect_codec.specs.Faults.{NumbersFault}
use Rattle.reflect_codec.specs.Reading.{IsNumbers}
use Rattle.reflect_codec.proofs.Values.{rejects_at, each_hit, each_miss, joins-push, blank}
use Rattle.reflect_codec.proofs.fields.Fields.int32s.Goals as goal
use Rattle.reflect_codec.proofs.fields.Fields.int32s.Goals.{then-field-wanted+in_ok-list, else-field-wanted}

pub returns-in_err-list : goal.returns-in_err-list
returns-in_err-list c =
    let bits : to_z w32 (of_z w32 c.args.number) ≡ c.args.number = search rules in
    let p = err_from_is_err_and c.from_residual.result c.from_residual.ensures.1 in
    rw (p.1, p.2) (rejects_at c.unsigned_abs-wanted.result c.deref-field-items.result.now c.loop-field.field-index blank c.loop-field-test.true (unsigned_abs c.args.number) c.args.self.now.list.items (c.unsigned_abs-wanted.ensures.value ∙ ap unsigned_abs bits) c.deref-field-items.ensures.value
    c.if-field-wanted.true IsNumbers NumbersFault _ _ (λ o h. (h.0, h.1)) c.in_err-list.ensures)

pub loop-field-preserved : goal.loop-field-preserved
loop-field-preserved c =
    let i = c.loop-field.invariant in
    elim c.if-field-wanted.branch [
      | then-field-wanted+in_ok-list w ↦
          let more = w.in_ok-list.ensures in
          let items = ap (λ (v : Vec ℤ Global). v.items) w.list-is in (
            i.0 ++ more.0 ∷ [],
            each_hit c.unsigned_abs-wanted.result c.deref-field-items.result.now c.loop-field.field-index blank c.loop-field-test.true IsNumbers i.0 i.1 more.0 w.if-field-wanted.true more.1,
            items ∙ more.2 ∙ ap (λ zs. zs ++ more.0) i.2 ∙ sym (joins-push i.0 more.0),
          )
      | else-field-wanted w ↦
          let items = ap (λ (v : Vec ℤ Global). v.items) w.list-is in
          (i.0, each_miss c.unsigned_abs-wanted.result c.deref-field-items.result.now c.loop-field.field-index blank c.loop-field-test.true IsNumbers i.0 i.1 w.if-field-wanted.false, items ∙ i.2)
    ]
