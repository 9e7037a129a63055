-- Pieces that are runs of a class, and cuts of them.
use Rattle.std.proofs.Common.{◌≡◌, ℕ, zero, suc, ◌+◌, ◌≤◌, ◌<◌, Bool, true, false, cond, ◌&&◌, [], ◌∷◌, take, length, Some, None, ap, ◌∙◌, arith, refl}
use Rattle.std.specs.List.{prefix_len, list_all}
use Rattle.std.proofs.lemmas.List.Sums.{prefix_len-le-length}
use Rattle.protox_lex.specs.Class.{Text}
use Rattle.protox_lex.specs.Token.{Piece}
use Rattle.protox_lex.proofs.Pieces.{if_all, piece_of, IsCut}

pub all_of_run : (p : ℕ → Bool) (y : Text) → list_all p (take (prefix_len p y) y) ≡ true
all_of_run p [] = refl
all_of_run p (b ∷ y) = elim (p b) as (λ v. p b ≡ v → list_all p (take (cond v (1 + prefix_len p y) 0) (b ∷ y)) ≡ true) [
  | true ↦ λ e. let k : 1 + prefix_len p y ≡ suc (prefix_len p y) = omega arith in rw (k, e) (all_of_run p y)
  | false ↦ λ e. refl
] refl

pub more_than_run : (p : ℕ → Bool) (y : Text) (m : ℕ) → prefix_len p y < m → m ≤ length y → list_all p (take m y) ≡ false
more_than_run p [] m lt le = absurd (omega arith)
more_than_run p (b ∷ y) zero lt le = absurd (omega arith)
more_than_run p (b ∷ y) (suc m) lt le = elim (p b) as (λ v. p b ≡ v → cond v (1 + prefix_len p y) 0 < suc m → (v && list_all p (take m y)) ≡ false) [
  | true ↦ λ e h. more_than_run p y m (omega arith) (omega arith)
  | false ↦ λ e h. refl
] refl lt

-- what begins with b goes on as a run
module _ (p : ℕ → Bool) (y : Text) (what : Text → Piece) where
  abbrev pub GoesOn : (Text → Text) → Type 0
  GoesOn front = (m : ℕ) → prefix_len p y ≤ m → piece_of (front (take m y)) ≡ if_all (list_all p (take m y)) (what (take m y))

  whole : (front : Text → Text) → GoesOn front → piece_of (front (take (prefix_len p y) y)) ≡ Some (what (take (prefix_len p y) y))
  whole front is = is (prefix_len p y) (omega arith) ∙ ap (λ v. if_all v (what (take (prefix_len p y) y))) (all_of_run p y)

  too_long : (front : Text → Text) → GoesOn front → (m : ℕ) → prefix_len p y < m → m ≤ length y → piece_of (front (take m y)) ≡ None
  too_long front is m lt le = is m (omega arith) ∙ ap (λ v. if_all v (what (take m y))) (more_than_run p y m lt le)

  pub longest_run : (b : ℕ) → GoesOn (λ x. b ∷ x) → IsCut (b ∷ y) (what (take (prefix_len p y) y)) (suc (prefix_len p y))
  longest_run b is = record {
    moves = omega arith;
    within = omega (arith, prefix_len-le-length p y);
    is = whole (λ x. b ∷ x) is;
    longest = not_longer;
  } where
    not_longer : (m : ℕ) → suc (prefix_len p y) < m → m ≤ length (b ∷ y) → piece_of (take m (b ∷ y)) ≡ None
    not_longer zero lt le = absurd (omega arith)
    not_longer (suc m) lt le = too_long (λ x. b ∷ x) is m (omega arith) (omega arith)

  pub longest_run_behind : (a b : ℕ) → GoesOn (λ x. a ∷ b ∷ x) → IsCut (a ∷ b ∷ y) (what (take (prefix_len p y) y)) (suc (suc (prefix_len p y)))
  longest_run_behind a b is = record {
    moves = omega arith;
    within = omega (arith, prefix_len-le-length p y);
    is = whole (λ x. a ∷ b ∷ x) is;
    longest = not_longer;
  } where
    not_longer : (m : ℕ) → suc (suc (prefix_len p y)) < m → m ≤ length (a ∷ b ∷ y) → piece_of (take m (a ∷ b ∷ y)) ≡ None
    not_longer zero lt le = absurd (omega arith)
    not_longer (suc zero) lt le = absurd (omega arith)
    not_longer (suc (suc m)) lt le = too_long (λ x. a ∷ b ∷ x) is m (omega arith) (omega arith)
