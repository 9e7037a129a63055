use Rattle.std.proofs.Common.{◌≡◌, [], ◌∷◌, ◌++◌, ap, sym, ◌∙◌, rules, to_z, of_z, w32}
use Rattle.std.specs.Prelude.{unsigned_abs}
use Rattle.std.proofs.lemmas.Result.{err_from_is_err_and}
use Rattle.reflect_codec.proofs.Values.{rejects_at, each_hit, each_miss, last-push, blank}
use Rattle.reflect_codec.proofs.fields.Fields.last.Goals as goal
use Rattle.reflect_codec.proofs.fields.Fields.last.Goals.{then-field-wanted+in_ok-from_value, else-field-wanted}

pub returns-in_err-from_value : goal.returns-in_err-from_value
returns-in_err-from_value g c =
    let bits : to_z w32 (of_z w32 c.args.number) ≡ c.args.number = search rules in
    let p = err_from_is_err_and c.from_residual.result c.from_residual.ensures.1 in
    rw (p.1, p.2) (rejects_at c.unsigned_abs-wanted.result c.deref-field-items.result.now c.loop-field.field-index blank c.loop-field-test.true (unsigned_abs c.args.number) c.args.self.now.list.items (c.unsigned_abs-wanted.ensures.value ∙ ap unsigned_abs bits) c.deref-field-items.ensures.value
    c.if-field-wanted.true (g.T.FieldValue.means c.args.self.now.levels) (g.T.FieldValue.faults c.args.self.now.levels) _ _ (λ o h. (h.0, h.1)) c.in_err-from_value.ensures)

pub loop-field-preserved : goal.loop-field-preserved
loop-field-preserved g c =
    let i = c.loop-field.invariant in
    elim c.if-field-wanted.branch [
      | then-field-wanted+in_ok-from_value w ↦
          let x = w.in_ok-from_value.field-0 in
          (i.0 ++ x ∷ [], each_hit c.unsigned_abs-wanted.result c.deref-field-items.result.now c.loop-field.field-index blank c.loop-field-test.true (g.T.FieldValue.means c.args.self.now.levels) i.0 i.1 x w.if-field-wanted.true w.in_ok-from_value.ensures, w.found-is ∙ sym (last-push i.0 x))
      | else-field-wanted w ↦
          (i.0, each_miss c.unsigned_abs-wanted.result c.deref-field-items.result.now c.loop-field.field-index blank c.loop-field-test.true (g.T.FieldValue.means c.args.self.now.levels) i.0 i.1 w.if-field-wanted.false, w.found-is ∙ i.2)
    ]
