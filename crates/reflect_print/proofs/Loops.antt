-- Elements one behind another, in one form and at one place.
use Rattle.std.proofs.Common.{◌≡◌, ℕ, ◌+◌, ◌<◌, ◌≤◌, Bool, List, [], ◌∷◌, ◌++◌, length, drop, get_or, subst, sym, ap, ◌∙◌, refl, arith, append-nil, length-drop}
use Rattle.std.proofs.lemmas.List.{drop_more}
use Rattle.text_lines.proofs.Appending.{OneBehind}
use Rattle.text_lines.proofs.Fronts.{IsFront, none_yet, one_more}

module _ {X : Type 0} (Row : Bool → List X → List ℕ → Type 0) where
  -- no element stands behind the head yet
  pub begun : (old now head : List ℕ) (start : Bool) (all rest : List X) (any : Bool) → any ≡ start → rest ≡ all → now ≡ old ++ head → IsFront Row old head start all now any rest
  begun old now head start all rest any a r w =
      subst (λ b. IsFront Row old head start all now b rest) (sym a)
      (subst (λ xs. IsFront Row old head start all now start xs) (sym r)
      (none_yet Row old now head start all w))

  -- one more element, in the form of all
  pub next_one : {P Q : Type 0} (One : Q → X → List ℕ → Type 0) (before : P → Bool → List ℕ) (turned : Bool) (p : P) (q : Q)
      → ((any : Bool) (x : X) (xs : List X) (one rest : List ℕ) → One q x one → Row turned xs rest → Row any (x ∷ xs) (before p any ++ (one ++ rest)))
      → (old now mid next head : List ℕ) (start : Bool) (all : List X) (any flag : Bool) (x : X) (xs left : List X) (a : P) (b : Q)
      → a ≡ p → b ≡ q → flag ≡ turned → left ≡ x ∷ xs
      → IsFront Row old head start all now any left → mid ≡ now ++ before a any → OneBehind mid (One b x) next
      → IsFront Row old head start all next flag xs
  next_one One before turned p q more old now mid next head start all any flag x xs left a b ap bq f l front w v =
      subst (λ y. IsFront Row old head start all next y xs) (sym f)
      (one_more Row (One q) (before p) turned more old now mid next head start all any x xs
      (subst (λ ys. IsFront Row old head start all now any ys) l front)
      (subst (λ z. mid ≡ now ++ before z any) ap w)
      (subst (λ z. OneBehind mid (One z x) next) bq v))

  -- all stand there
  pub all_of : (old now head : List ℕ) (start : Bool) (all : List X) (any : Bool) (left : List X)
      → left ≡ [] → Row any [] [] → (front : IsFront Row old head start all now any left) → Row start all front.front
  all_of old now head start all any left e i f =
      let ended = subst (λ xs. (text : List ℕ) → Row any xs text → Row start all (f.front ++ text)) e f.whole in
      subst (Row start all) (append-nil f.front) (ended [] i)

pub none_left : {X : Type 0} (xs : List X) → length xs ≡ 0 → xs ≡ []
none_left [] e = refl
none_left (x ∷ xs) e = absurd (omega arith)

-- the element at a place, and those behind it
pub drop_item : {X : Type 0} (xs : List X) (i : ℕ) (x : X) → i < length xs → x ≡ get_or xs i x → drop i xs ≡ x ∷ drop (i + 1) xs
drop_item {X = X} xs i x lt is = drop_more xs i x lt ∙ ap (λ (y : X). y ∷ drop (i + 1) xs) (sym is)

pub drop_end : {X : Type 0} (xs : List X) (i : ℕ) → length xs ≤ i → drop i xs ≡ []
drop_end xs i past = none_left (drop i xs) (omega (arith, length-drop i xs))
