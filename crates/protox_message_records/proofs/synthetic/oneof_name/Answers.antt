use Rattle.std.proofs.Common.{◌≡◌, ◌∙◌, ◌+◌, ◌∷◌, suc, true, false, length, map, string_bytes, ap, sym, arith, ⊎_elim}
use Rattle.std.proofs.lemmas.Bool.{cases_eq}
use Rattle.protox_message_records.proofs.Taken.{fewer_longer, found}
use Rattle.protox_message_records.specs.SyntheticOneofs.{behind_letters, is_taken}
use Rattle.protox_message_records.proofs.synthetic.oneof_name.Goals as goal

pub letters-smaller : goal.letters-smaller
letters-smaller c =
    let taken = map (λ n. n.now) c.args.taken.now.keys in
    let name = string_bytes c.letters.name in
    let is_in : is_taken taken name ≡ true =
    ap (is_taken taken) (sym c.as_str.ensures.value) ∙ sym (found c.as_str.result.now c.args.taken.now.keys) ∙ sym c.contains.ensures ∙ c.letters-test.true in
    let longer : length (string_bytes c.in_ok-name-2.name) ≡ length name + 1 = ap length c.in_ok-name-2.ensures.ok ∙ omega arith in
    fewer_longer name (length (string_bytes c.in_ok-name-2.name)) taken longer is_in

pub letters-preserved : goal.letters-preserved
letters-preserved c =
    let taken = map (λ n. n.now) c.args.taken.now.keys in
    let word = 95 ∷ c.args.field.now in
    let before = c.letters.invariant in
    let is_in : is_taken taken (string_bytes c.letters.name) ≡ true =
    ap (is_taken taken) (sym c.as_str.ensures.value) ∙ sym (found c.as_str.result.now c.args.taken.now.keys) ∙ sym c.contains.ensures ∙ c.letters-test.true in (
      suc before.0,
      c.in_ok-name-2.ensures.ok ∙ ap (λ ys. 88 ∷ ys) before.1,
      λ fewer lt. ⊎_elim
          (λ e. ap (λ n. is_taken taken (behind_letters n word)) e ∙ ap (is_taken taken) (sym before.1) ∙ is_in)
          (λ ne. before.2 fewer (omega (arith, ne, lt))) (cases_eq fewer before.0),
    )

pub returns : goal.returns
returns c =
    let taken = map (λ n. n.now) c.args.taken.now.keys in
    let before = c.letters.invariant in
    let free : is_taken taken (string_bytes c.letters.name) ≡ false =
    ap (is_taken taken) (sym c.as_str.ensures.value) ∙ sym (found c.as_str.result.now c.args.taken.now.keys) ∙ sym c.contains.ensures ∙ c.letters-test.false in
    (before.0, before.1, free, before.2)
