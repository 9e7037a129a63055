-- Texts with the same first bytes.
use Rattle.std.proofs.Common.{◌≡◌, ℕ, zero, suc, ◌≤◌, ◌<◌, Bool, true, false, [], ◌∷◌, take, get_or, ap, sym, ◌∙◌, arith, refl, min}
use Rattle.std.specs.List.{prefix_len}
use Rattle.std.proofs.lemmas.List.{get_or-take, take-take}
use Rattle.protox_lex.specs.Class.{Text}

pub prefix_len-take : (p : ℕ → Bool) (y : Text) (m : ℕ) → prefix_len p (take m y) ≡ min m (prefix_len p y)
prefix_len-take p y zero = omega arith
prefix_len-take p [] (suc m) = omega arith
prefix_len-take p (b ∷ y) (suc m) = by (p b) refl (prefix_len-take p y m) where
  by : (v : Bool) → p b ≡ v → prefix_len p (take m y) ≡ min m (prefix_len p y) → prefix_len p (b ∷ take m y) ≡ min (suc m) (prefix_len p (b ∷ y))
  by true e h = rw e (omega (arith, h))
  by false e h = rw e (omega arith)

-- the first m bytes are the same
pub record Alike (m : ℕ) (u v : Text) : Type 0 where
  pub same : take m u ≡ take m v

pub alike_back : (m : ℕ) (u v : Text) → Alike m u v → Alike m v u
alike_back m u v a = record { same = sym a.same }

pub alike-take : (m : ℕ) (u : Text) → Alike m (take m u) u
alike-take m u = record { same = take-take m m u (omega arith) }

pub alike_rest : (m b c : ℕ) (u v : Text) → Alike (suc m) (b ∷ u) (c ∷ v) → Alike m u v
alike_rest m b c u v a = record { same = let e : b ∷ take m u ≡ c ∷ take m v = a.same in cc }

pub alike_head : (m b c : ℕ) (u v : Text) → Alike (suc m) (b ∷ u) (c ∷ v) → b ≡ c
alike_head m b c u v a = let e : b ∷ take m u ≡ c ∷ take m v = a.same in cc

pub alike_cons : (m b : ℕ) (u v : Text) → Alike m u v → Alike (suc m) (b ∷ u) (b ∷ v)
alike_cons m b u v a = record { same = ap (λ t. b ∷ t) a.same }

pub alike_none : {P : Type 0} (m b : ℕ) (u : Text) → Alike (suc m) (b ∷ u) [] → P
alike_none m b u a = absurd (let e : ◌≡◌ {A = Text} (b ∷ take m u) [] = a.same in cc)

pub alike_run : (p : ℕ → Bool) (m : ℕ) (u v : Text) → Alike m u v → min m (prefix_len p u) ≡ min m (prefix_len p v)
alike_run p m u v a = sym (prefix_len-take p u m) ∙ ap (prefix_len p) a.same ∙ prefix_len-take p v m

pub alike_front : (d m : ℕ) (u v : Text) → d ≤ m → Alike m u v → take d u ≡ take d v
alike_front d m u v le a = sym (take-take d m u le) ∙ ap (take d) a.same ∙ take-take d m v le

pub alike_at : (k m : ℕ) (u v : Text) → k < m → Alike m u v → get_or u k 0 ≡ get_or v k 0
alike_at k m u v lt a = sym (get_or-take m u k 0 lt) ∙ ap (λ t. get_or t k 0) a.same ∙ get_or-take m v k 0 lt
