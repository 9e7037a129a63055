-- The first of the places that are left, and what stands at all of them.
use Rattle.std.proofs.Common.{◌≡◌, ◌∙◌, ℕ, suc, ◌+◌, ◌-◌, ◌<◌, List, ◌∷◌, map, length, get_or, ap, sym, arith, refl}
use Rattle.std.specs.List.{range_with_len}
use Rattle.std.proofs.lemmas.Simd.{map-map}
use Rattle.std.proofs.lemmas.List.{length-map}
use Rattle.std.proofs.lemmas.List.FromFn.{fill_by_all, length-range_with_len}
use Rattle.reflect_pool.specs.PlacesLeft.{places_in, places_from}

pub one_left : {A : Type 0} (a : A) (k n : ℕ) → k < n → places_from a k n ≡ (a, k) ∷ places_from a (k + 1) n
one_left a k n lt =
    let more : n - k ≡ suc (n - (k + 1)) = omega (arith, lt) in
    ap (λ m. places_in a (range_with_len k m)) more

-- how many are left
pub count_left : {A : Type 0} (a : A) (k n : ℕ) → length (places_from a k n) ≡ n - k
count_left a k n = length-map (range_with_len k (n - k)) (λ k. (a, k)) ∙ length-range_with_len k (n - k)

-- a list whose entries stand at the places of a holder
pub at_places : {A X : Type 0} (a : A) (f : A × ℕ → X) (xs : List X) (d : X) → ((k : ℕ) → get_or xs k d ≡ f (a, k)) → map f (places_from a 0 (length xs)) ≡ xs
at_places a f xs d are =
    let whole : length xs - 0 ≡ length xs = omega arith in
    map-map f (λ k. (a, k)) (range_with_len 0 (length xs - 0))
    ∙ ap (λ n. map (λ k. f (a, k)) (range_with_len 0 n)) whole
    ∙ sym (fill_by_all (λ k. f (a, k)) xs (length xs) d refl (λ k lt. are k))
