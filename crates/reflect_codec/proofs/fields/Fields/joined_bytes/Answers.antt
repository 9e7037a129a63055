use Rattle.std.proofs.Common.{◌≡◌, [], ◌∷◌, ◌++◌, ap, sym, ◌∙◌, rules, to_z, of_z, w32, ℕ, Vec, Global}
use Rattle.std.specs.Prelude.{unsigned_abs}
use Rattle.std.proofs.lemmas.Result.{err_from_is_err_and}
use Rattle.reflect_codec.specs.Faults.{PayloadFault}
use Rattle.reflect_codec.specs.Reading.{IsPayload}
use Rattle.reflect_codec.proofs.Values.{rejects_at, each_hit, each_miss, joins-push, blank}
use Rattle.reflect_codec.proofs.fields.Fields.joined_bytes.Goals as goal
use Rattle.reflect_codec.proofs.fields.Fields.joined_bytes.Goals.{then-field-wanted+in_ok-payload+in_ok-extend_from_slice, else-field-wanted}

pub returns-in_err-payload : goal.returns-in_err-payload
returns-in_err-payload c =
    let bits : to_z w32 (of_z w32 c.args.number) ≡ c.args.number = search rules in
    let p = err_from_is_err_and c.from_residual.result c.from_residual.ensures.1 in
    rw (p.1, p.2) (rejects_at c.unsigned_abs-wanted.result c.deref-field-items.result.now c.loop-field.field-index blank c.loop-field-test.true (unsigned_abs c.args.number) c.args.self.now.list.items (c.unsigned_abs-wanted.ensures.value ∙ ap unsigned_abs bits) c.deref-field-items.ensures.value
    c.if-field-wanted.true IsPayload PayloadFault _ _ (λ o h. (h.0, h.1)) c.in_err-payload.ensures.read)

pub loop-field-preserved : goal.loop-field-preserved
loop-field-preserved c =
    let i = c.loop-field.invariant in
    elim c.if-field-wanted.branch [
      | then-field-wanted+in_ok-payload+in_ok-extend_from_slice w ↦
          let p = w.in_ok-payload.field-0.now in
          let items = ap (λ (v : Vec ℕ Global). v.items) w.bytes-is in (
            i.0 ++ p ∷ [],
            each_hit c.unsigned_abs-wanted.result c.deref-field-items.result.now c.loop-field.field-index blank c.loop-field-test.true IsPayload i.0 i.1 p w.if-field-wanted.true w.in_ok-payload.ensures.read,
            items ∙ w.in_ok-extend_from_slice.ensures.items ∙ ap (λ bs. bs ++ p) i.2 ∙ sym (joins-push i.0 p),
          )
      | else-field-wanted w ↦
          let items = ap (λ (v : Vec ℕ Global). v.items) w.bytes-is in
          (i.0, each_miss c.unsigned_abs-wanted.result c.deref-field-items.result.now c.loop-field.field-index blank c.loop-field-test.true IsPayload i.0 i.1 w.if-field-wanted.false, items ∙ i.2)
    ]
