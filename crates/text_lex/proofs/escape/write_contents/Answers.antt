use Rattle.std.proofs.Common.{◌≡◌, ℕ, ◌+◌, ◌≤◌, ◌++◌, ◌∙◌, sym, ap, arith, refl, length, drop, append_assoc, append-nil, length-drop}
use Rattle.std.proofs.lemmas.Grind.{flat_map-append, put_two}
use Rattle.std.proofs.lemmas.List.{drop-drop, take_rest}
use Rattle.text_lex.specs.Printed.{escaped, escaped_byte}
use Rattle.protox_lex.specs.declared.escape.Meaning.{Meaning}
use Rattle.protox_lex.specs.Lex.{unit_of, bytes_of, unescaped}
use Rattle.protox_lex.proofs.Contents.{unescaped_step, unescaped_none}
use Rattle.text_lex.proofs.escape.write_contents.Goals as goal

pub loop-at-preserved : goal.loop-at-preserved
loop-at-preserved g c =
    let at = c.loop-at.at in
    let raw = c.args.raw.now in
    let z = drop at raw in
    let done = c.loop-at.invariant.done in
    let r = c.unit-meaning.result in
    let first : Meaning × ℕ → Meaning = λ u. u.0 in
    let second : Meaning × ℕ → ℕ = λ u. u.1 in
    let v : r ≡ unit_of z = rw take_rest at c.unit-meaning.ensures.value in
    let most : r.1 ≤ length z = rw take_rest at c.unit-meaning.ensures.within.1 in
    let step : unescaped z ≡ bytes_of (unit_of z).0 ++ unescaped (drop r.1 z) = unescaped_step z r.1 (ap second (sym v)) c.unit-meaning.ensures.within.0 most in
    let rest = unescaped (drop (at + r.1) raw) in
    let here : unescaped z ≡ bytes_of r.0 ++ rest =
    step ∙ ap (λ m. bytes_of m ++ unescaped (drop r.1 z)) (ap first (sym v)) ∙ ap (λ t. bytes_of r.0 ++ unescaped t) (drop-drop r.1 at raw) in
    record {
      within = omega (arith, most, length-drop at raw);
      done = done ++ escaped (bytes_of r.0);
      wrote = λ plain.
          let before = c.loop-at.invariant.wrote plain in
          put_two _ _ _ _ done (escaped (bytes_of r.0)) _ before (c.in_ok-write_meaning.ensures before.plain refl) refl;
      same = append_assoc done (escaped (bytes_of r.0)) (escaped rest)
          ∙ ap (λ t. done ++ t) (sym (flat_map-append escaped_byte (bytes_of r.0) rest) ∙ ap escaped (sym here)) ∙ c.loop-at.invariant.same;
    }

pub returns : goal.returns
returns g c plain ok =
    let done = c.loop-at.invariant.done in
    let none = unescaped_none (drop c.loop-at.at c.args.raw.now) (omega (arith, length-drop c.loop-at.at c.args.raw.now)) in
    let all : done ≡ escaped (unescaped c.args.raw.now) = sym (append-nil done) ∙ ap (λ t. done ++ escaped t) (sym none) ∙ c.loop-at.invariant.same in
    rw (← all) (c.loop-at.invariant.wrote plain)
