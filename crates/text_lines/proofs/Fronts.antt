-- Texts of elements in a row, one behind another.
use Rattle.std.proofs.Common.{◌≡◌, ℕ, Bool, List, [], ◌∷◌, ◌++◌, subst, sym, ◌∙◌, ap, append_assoc, append-nil}
use Rattle.text_lines.proofs.Appending.{OneBehind, adds_both, adds_same}

module _ {X : Type 0} (Row : Bool → List X → List ℕ → Type 0) where
  -- Behind a text so much of the row stands that the text of the elements that are left makes it
  -- whole.
  pub record IsFront (old head : List ℕ) (start : Bool) (all : List X) (now : List ℕ) (any : Bool) (rest : List X) : Type 0 where
    pub front : List ℕ
    pub written : now ≡ old ++ (head ++ front)
    pub whole : (text : List ℕ) → Row any rest text → Row start all (front ++ text)

  pub none_yet : (old now head : List ℕ) (start : Bool) (all : List X) → now ≡ old ++ head → IsFront old head start all now start all
  none_yet old now head start all w = record {
    front = [];
    written = adds_same old head (head ++ []) (sym (append-nil head)) w;
    whole = λ text i. i;
  }

  -- one more element, between what stands before it and what is left
  pub one_more : (One : X → List ℕ → Type 0) (before : Bool → List ℕ) (turned : Bool)
      → ((any : Bool) (x : X) (xs : List X) (one rest : List ℕ) → One x one → Row turned xs rest → Row any (x ∷ xs) (before any ++ (one ++ rest)))
      → (old now mid next head : List ℕ) (start : Bool) (all : List X) (any : Bool) (x : X) (xs : List X)
      → IsFront old head start all now any (x ∷ xs) → mid ≡ now ++ before any → OneBehind mid (One x) next
      → IsFront old head start all next turned xs
  one_more One before turned more old now mid next head start all any x xs f w v =
      let added : List ℕ = before any ++ v.0 in
      record {
        front = f.front ++ added;
        written = adds_same old ((head ++ f.front) ++ added) (head ++ (f.front ++ added)) (append_assoc head f.front added)
            (adds_both old next (head ++ f.front) added f.written (adds_both now next (before any) v.0 w v.2));
        whole = λ text i.
            subst (Row start all)
            (ap (λ (y : List ℕ). f.front ++ y) (sym (append_assoc (before any) v.0 text)) ∙ sym (append_assoc f.front added text))
            (f.whole (before any ++ (v.0 ++ text)) (more any x xs v.0 text v.1 i));
      }
