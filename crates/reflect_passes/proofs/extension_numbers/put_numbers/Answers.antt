use Rattle.std.proofs.Common.{◌≡◌, ◌+◌, ◌||◌, ◌<◌, ◌∙◌, ap, sym, take, length, arith, rules}
use Rattle.reflect_passes.specs.Extensions.{has_key, is_known, is_taken}
use Rattle.reflect_tables.specs.ExtensionNumbers.{numbers_of}
use Rattle.reflect_passes.specs.Linked.{linked_says}
use Rattle.reflect_passes.proofs.Doubled.{taken_more, faults_more}
use Rattle.reflect_passes.proofs.Numbered.{keeps_on, places_more}
use Rattle.reflect_passes.proofs.extension_numbers.put_numbers.Goals as goal

pub turns-preserved : goal.turns-preserved
turns-preserved c =
    let xs = c.as_slice-extensions.result.now in
    let n = c.turns.at in
    let x = c.index-extensions-at.result in
    let known = is_known c.args.numbers.now in
    let now = is_known c.turns.numbers in
    let lt : n < length xs = omega arith in
    let before = c.turns.invariant in
    let olds = length c.args.types.now.old.now.extensions.items in
    let place = c.in_ok-place.place in
    let at : place ≡ olds + n = search rules in
    record {
      faults = faults_more known now (linked_says c.args.types.now) c.args.faults.now c.turns.faults c.put_number.new.faults xs n x lt c.index-extensions-at.is before.numbers before.faults c.in_ok-put_number.ensures.faults;
      numbers = λ k.
          c.in_ok-put_number.ensures.numbers k
          ∙ ap (λ b. b || has_key k x) (before.numbers k)
          ∙ ap (λ y. is_taken known (take n xs) k || has_key k y) c.index-extensions-at.is
          ∙ sym (taken_more known xs n x lt k);
      places = c.in_ok-put_number.ensures.places ∙ places_more (numbers_of c.args.numbers.now) (numbers_of c.turns.numbers) olds place n xs x lt c.index-extensions-at.is at before.places;
      keeps = keeps_on olds place (numbers_of c.args.numbers.now) (numbers_of c.turns.numbers) (numbers_of c.put_number.new.numbers) (omega (arith, at)) before.keeps c.put_number.ensures.keeps;
    }

pub returns-in_err-put_number-clause-keeps : goal.returns-in_err-put_number-clause-keeps
returns-in_err-put_number-clause-keeps c =
    let before = c.turns.invariant in
    let n = c.turns.at in
    let olds = length c.args.types.now.old.now.extensions.items in
    let place = c.in_ok-place.place in
    let at : place ≡ olds + n = search rules in
    keeps_on olds place (numbers_of c.args.numbers.now) (numbers_of c.turns.numbers) (numbers_of c.put_number.new.numbers) (omega (arith, at)) before.keeps c.put_number.ensures.keeps
