use Rattle.std.proofs.Common.{◌≡◌, ap, sym, ◌∙◌, rules, to_z, of_z, w32, Vec, Global, take, ◌+◌, subst}
use Rattle.std.specs.Prelude.{unsigned_abs}
use Rattle.std.proofs.lemmas.Result.{err_from_is_err_and}
use Rattle.std.specs.List.{AllZip}
use Rattle.reflect_codec.specs.Raw.{fields_view}
use Rattle.reflect_codec.specs.Reading.{values_at}
use Rattle.reflect_codec.proofs.Values.{rejects_at, each_hit, each_miss, blank}
use Rattle.reflect_codec.proofs.fields.Fields.list.Goals as goal
use Rattle.reflect_codec.proofs.fields.Fields.list.Goals.{then-field-wanted+in_ok-from_value+in_ok-push, else-field-wanted}

pub returns-in_err-from_value : goal.returns-in_err-from_value
returns-in_err-from_value g c =
    let bits : to_z w32 (of_z w32 c.args.number) ≡ c.args.number = search rules in
    let p = err_from_is_err_and c.from_residual-in_err-from_value.result c.from_residual-in_err-from_value.ensures.1 in
    rw (p.1, p.2) (rejects_at c.unsigned_abs-wanted.result c.deref-field-items.result.now c.loop-field.field-index blank c.loop-field-test.true (unsigned_abs c.args.number) c.args.self.now.list.items (c.unsigned_abs-wanted.ensures.value ∙ ap unsigned_abs bits) c.deref-field-items.ensures.value
    c.if-field-wanted.true (g.T.FieldValue.means c.args.self.now.levels) (g.T.FieldValue.faults c.args.self.now.levels) _ _ (λ ts each. (ts.items, each)) c.in_err-from_value.ensures)

pub loop-field-preserved : goal.loop-field-preserved
loop-field-preserved g c =
    let i = c.loop-field.invariant in
    elim c.if-field-wanted.branch [
      | then-field-wanted+in_ok-from_value+in_ok-push w ↦
          let x = w.in_ok-from_value.field-0 in
          let items = ap (λ (v : Vec _ Global). v.items) w.list-is ∙ w.in_ok-push.ensures.items in
          subst (AllZip (g.T.FieldValue.means c.args.self.now.levels) (values_at c.unsigned_abs-wanted.result (fields_view (take (c.loop-field.field-index + 1) c.deref-field-items.result.now)))) (sym items) (each_hit c.unsigned_abs-wanted.result c.deref-field-items.result.now c.loop-field.field-index blank c.loop-field-test.true (g.T.FieldValue.means c.args.self.now.levels) c.loop-field.list.items i x w.if-field-wanted.true w.in_ok-from_value.ensures)
      | else-field-wanted w ↦
          let items = ap (λ (v : Vec _ Global). v.items) w.list-is in
          subst (AllZip (g.T.FieldValue.means c.args.self.now.levels) (values_at c.unsigned_abs-wanted.result (fields_view (take (c.loop-field.field-index + 1) c.deref-field-items.result.now)))) (sym items) (each_miss c.unsigned_abs-wanted.result c.deref-field-items.result.now c.loop-field.field-index blank c.loop-field-test.true (g.T.FieldValue.means c.args.self.now.levels) c.loop-field.list.items i w.if-field-wanted.false)
    ]
