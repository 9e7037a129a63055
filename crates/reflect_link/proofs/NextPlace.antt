-- An iterator over places that gives what stands at the next one.
use Rattle.std.proofs.Common.{◌≡◌, ◌∙◌, ℕ, ◌+◌, ◌<◌, [], ◌∷◌, length, Option, Some, None, IsSome, IfSome, IfNone, OnSome, MatchOption, ap, sym, subst, arith}
use Rattle.std.specs.Iterator.{Count, IsFinite, MakesProgress, at_most, size}
use Rattle.reflect_pool.specs.PlacesLeft.{places_from}
use Rattle.reflect_pool.proofs.PlacesLeft.{one_left}

pub gives_next : {A X : Type 0} (holder : X → A) (index : X → ℕ) (a : A) (k n : ℕ) (r : Option X) → k < n → (k < n → IsSome r) → IfSome r (λ x. holder x ≡ a) → IfSome r (λ x. index x ≡ k)
    → MatchOption r ((places_from a k n ≡ []) × (places_from a (k + 1) n ≡ [])) (λ x. places_from a k n ≡ (holder x, index x) ∷ places_from a (k + 1) n)
gives_next holder index a k n None lt there of at = let some = there lt in absurd (cc)
gives_next {A} {X} holder index a k n (Some x) lt there of at =
    let same : (a, k) ≡ (holder x, index x) = ap (λ h. (h, k)) (sym of) ∙ ap (λ i. (holder x, i)) (sym at) in
    one_left a k n lt ∙ ap (λ p. p ∷ places_from a (k + 1) n) same

pub goes_next : {S X A : Type 0} (can : S → Type 0) (left : S → Count) (s t : S) (r : Option X) (a : A) (k n : ℕ) → k < n → can t
    → left s ≡ at_most (length (places_from a k n)) → left t ≡ at_most (length (places_from a (k + 1) n)) → MakesProgress can left s r t
goes_next {S} {X} {A} can left s t r a k n lt may before behind = record { on = λ f. on r; keeps = keeps r; rests = λ f. rests r } where
  finite : IsFinite (left t)
  finite = subst IsFinite (sym behind) tt

  fewer : size (left t) < size (left s)
  fewer = let was = ap size before in let is = ap size behind in let one = ap length (one_left a k n lt) in omega (arith, was, is, one)

  on : (o : Option X) → OnSome o (can t × IsFinite (left t) × (size (left t) < size (left s)))
  on None = tt
  on (Some x) = (may, finite, fewer)

  keeps : (o : Option X) → IfSome o (λ x. can t)
  keeps None = tt
  keeps (Some x) = may

  rests : (o : Option X) → IfNone o (IsFinite (left t))
  rests None = finite
  rests (Some x) = tt
