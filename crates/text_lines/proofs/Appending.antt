-- One text behind another.
use Rattle.std.proofs.Common.{◌≡◌, ℕ, List, ◌++◌, Result, OnOk, ap, ◌∙◌, append_assoc}
use Rattle.std.proofs.lemmas.Result.{on_ok_weaker}

-- one of these texts stands behind the old one
abbrev pub OneBehind : List ℕ → (List ℕ → Type 0) → List ℕ → Type 0
OneBehind old Is new = (text : List ℕ) × Is text × (new ≡ old ++ text)

-- two texts, one behind the other
pub adds_both : {b : List ℕ} (a c x y : List ℕ) → b ≡ a ++ x → c ≡ b ++ y → c ≡ a ++ (x ++ y)
adds_both a c x y p q = q ∙ ap (λ (t : List ℕ). t ++ y) p ∙ append_assoc a x y

-- the same text, put otherwise
pub adds_same : {b : List ℕ} (a x y : List ℕ) → x ≡ y → b ≡ a ++ x → b ≡ a ++ y
adds_same a x y e p = p ∙ ap (λ (t : List ℕ). a ++ t) e

module _ {T E : Type 0} (r : Result T E) where
  -- a last call, after a text
  pub adds_on : {b : List ℕ} (a c x y : List ℕ) → b ≡ a ++ x → OnOk r (c ≡ b ++ y) → OnOk r (c ≡ a ++ (x ++ y))
  adds_on a c x y p = on_ok_weaker r (adds_both a c x y p)

  -- a text that is one of these
  pub one_text : (Is : List ℕ → Type 0) (a b x : List ℕ) → Is x → OnOk r (b ≡ a ++ x) → OnOk r (OneBehind a Is b)
  one_text Is a b x i = on_ok_weaker r (λ q. (x, i, q))

  -- one of these texts is one of those
  pub one_as : (Is Are : List ℕ → Type 0) (a b : List ℕ) → ((y : List ℕ) → Is y → Are y) → OnOk r (OneBehind a Is b) → OnOk r (OneBehind a Are b)
  one_as Is Are a b f = on_ok_weaker r (λ q. (q.0, f q.0 q.1, q.2))

  -- one of the texts of a last call, after a text
  pub one_on : {b : List ℕ} (Is Are : List ℕ → Type 0) (a c x : List ℕ) → ((y : List ℕ) → Is y → Are (x ++ y)) → b ≡ a ++ x → OnOk r (OneBehind b Is c) → OnOk r (OneBehind a Are c)
  one_on Is Are a c x f p = on_ok_weaker r (λ q. (x ++ q.0, f q.0 q.1, adds_both a c x q.0 p q.2))

  -- the text of a last call, after a text, where both are one of these
  pub one_before : {b : List ℕ} (Are : List ℕ → Type 0) (a c x y : List ℕ) → Are (x ++ y) → b ≡ a ++ x → OnOk r (c ≡ b ++ y) → OnOk r (OneBehind a Are c)
  one_before Are a c x y i p q = one_text Are a c (x ++ y) i (adds_on a c x y p q)
