-- The search of what chains of public imports reach.
use Rattle.std.proofs.Common.{◌≡◌, ℕ, ◌<◌, ◌≤◌, ◌+◌, List, [], ◌∷◌, ◌++◌, ◌⊎◌, inl, inr, Bool, true, false, not, take, length, get_or, refl, ap, sym, subst, ◌∙◌, arith, append_assoc}
use Rattle.std.proofs.lemmas.List.{take_more}
use Rattle.std.proofs.Math.ListN.{set, length-set}
use Rattle.std.proofs.lemmas.List.{take-append-le}
use Rattle.std.proofs.lemmas.List.{get_or-set_same, get_or-set_other, length-append, get_or_past, length-map}
use Rattle.std.proofs.lemmas.List.Sums.{sum_by-set}
use Rattle.std.proofs.lemmas.Bool.{cases_eq, cases_lt}
use Rattle.std.proofs.Common.{cond, map}
use Rattle.reflect_scope.specs.declared.seen.Links.{Links}
use Rattle.reflect_scope.specs.Sees.{publics_at}
use Rattle.std.specs.List.{Contains}
use Rattle.std.proofs.lemmas.List.Elements.{Contains-append_left, Contains-append_cases, Contains-push, Contains-push_cases, Contains-get_or}
use Rattle.reflect_scope.specs.Sees.{IsChain, Reached}
use Rattle.reflect_scope.specs.Marks.{IsMarked, Extends}

pub no_elements : {A : Type 0} (x : A) → Contains [] x → ⊥
no_elements x (k, lt, e) = omega arith

pub chain_more : (p : ℕ → List ℕ) (f : ℕ) (ms : List ℕ) (m g : ℕ) → IsChain p f ms m → Contains (p m) g → IsChain p f (ms ++ g ∷ []) g
chain_more p f [] m g e h = (subst (λ x. Contains (p x) g) (sym e) h, refl)
chain_more p f (n ∷ ms) m g c h = (c.0, chain_more p n ms m g c.1 h)

-- among the files below n: what is listed is reached, the starts are listed, and so is what those that are done lead to
pub record Searching (n : ℕ) (p : ℕ → List ℕ) (starts order done : List ℕ) : Type 0 where
  pub sound : (g : ℕ) → Contains order g → Reached p starts g
  pub begun : (g : ℕ) → Contains starts g → g < n → Contains order g
  pub closed : (h : ℕ) → Contains done h → (g : ℕ) → Contains (p h) g → g < n → Contains order g

-- nothing leads on from a file that there is not
abbrev pub IsDead : ℕ → (ℕ → List ℕ) → Type 0
IsDead n p = (f : ℕ) → n ≤ f → (g : ℕ) → Contains (p f) g → ⊥

along : (n : ℕ) (p : ℕ → List ℕ) (order : List ℕ) → IsDead n p → ((h : ℕ) → Contains order h → (g : ℕ) → Contains (p h) g → g < n → Contains order g)
    → (f : ℕ) (ms : List ℕ) (g : ℕ) → IsChain p f ms g → (f < n → Contains order f) → g < n → Contains order g
along n p order dead closed f [] g e h lt = subst (Contains order) e (h (subst (λ x. x < n) (sym e) lt))
along n p order dead closed f (m ∷ ms) g c h lt = along n p order dead closed m ms g c.1 (elim (cases_lt f n) [
  | inl less ↦ closed f (h less) m c.0
  | inr more ↦ absurd (dead f more m c.0)
]) lt

pub found : (n : ℕ) (p : ℕ → List ℕ) (starts order : List ℕ) → IsDead n p → Searching n p starts order order → (g : ℕ) → g < n → Reached p starts g → Contains order g
found n p starts order dead s g lt r = along n p order dead s.closed r.0 r.1 g r.3 (s.begun r.0 r.2) lt

pub search_start : (n : ℕ) (p : ℕ → List ℕ) (starts order : List ℕ) → Extends (Contains starts) [] order → ((g : ℕ) → Contains starts g → g < n → Contains order g) → Searching n p starts order []
search_start n p starts order e there = record {
  sound = λ g h. (g, [], e.each g (subst (λ xs. Contains xs g) e.is h), refl);
  begun = there;
  closed = λ h none. absurd (no_elements h none);
}

pub search_more : (n : ℕ) (p : ℕ → List ℕ) (starts order order' : List ℕ) (k d : ℕ) → k < length order → Searching n p starts order (take k order)
    → Extends (Contains (p (get_or order k d))) order order' → ((g : ℕ) → Contains (p (get_or order k d)) g → g < n → Contains order' g)
    → Searching n p starts order' (take (k + 1) order')
search_more n p starts order order' k d lt s e there =
    let at = get_or order k d in
    let keeps : (g : ℕ) → Contains order g → Contains order' g = λ g h. subst (λ xs. Contains xs g) (sym e.is) (Contains-append_left order e.more g h) in
    let le : k + 1 ≤ length order = omega arith in
    let front : take (k + 1) order' ≡ take k order ++ at ∷ [] = ap (take (k + 1)) e.is ∙ take-append-le (k + 1) order e.more le ∙ take_more order k d lt in
    let here : Reached p starts at = s.sound at (Contains-get_or order k d lt) in
    let sound : (g : ℕ) → Contains order g ⊎ Contains e.more g → Reached p starts g = λ g. elim [ inl h ↦ s.sound g h | inr h ↦ (here.0, here.1 ++ g ∷ [], here.2, chain_more p here.0 here.1 at g here.3 (e.each g h)) ] in
    let closed : (h : ℕ) → Contains (take k order) h ⊎ (at ≡ h) → (g : ℕ) → Contains (p h) g → g < n → Contains order' g = λ h. elim [ inl was ↦ (λ g i l. keeps g (s.closed h was g i l)) | inr is ↦ (λ g i l. there g (subst (λ x. Contains (p x) g) (sym is) i) l) ] in
    record {
      sound = λ g h. sound g (Contains-append_cases order e.more g (subst (λ xs. Contains xs g) e.is h));
      begun = λ g h l. keeps g (s.begun g h l);
      closed = λ h i. closed h (Contains-push_cases (take k order) at h (subst (λ xs. Contains xs h) front i));
    }

-- one more mark
pub mark_one : (seen : List Bool) (order : List ℕ) (f : ℕ) → f < length seen → get_or seen f false ≡ false → IsMarked seen order → IsMarked (set seen f true) (order ++ f ∷ [])
mark_one seen order f lt free m = record {
  free =
      let sums = sum_by-set (λ b. cond (not b) 1 0) seen f true false lt in
      let one : ◌≡◌ {A = ℕ} (cond (not (get_or seen f false)) 1 0) 1 = ap (λ b. cond (not b) 1 0) free in
      let was = m.free in
      let len : length (set seen f true) ≡ length seen = length-set seen f true in
      let more : length (order ++ f ∷ []) ≡ length order + 1 = length-append order (f ∷ []) in
      omega (arith, sums, one, was, len, more);
  listed = λ g h. elim (cases_eq g f) [
    | inl e ↦ subst (Contains (order ++ f ∷ [])) (sym e) (Contains-push order f)
    | inr ne ↦ Contains-append_left order (f ∷ []) g (m.listed g (sym (get_or-set_other seen f g true false ne) ∙ h))
  ];
  marked = λ g h. elim (Contains-push_cases order f g h) [
    | inl was ↦ (elim (cases_eq g f) [
      | inl e ↦ ap (λ x. get_or (set seen f true) x false) e ∙ get_or-set_same seen f true false lt
      | inr ne ↦ get_or-set_other seen f g true false ne ∙ m.marked g was
    ])
    | inr e ↦ ap (λ x. get_or (set seen f true) x false) (sym e) ∙ get_or-set_same seen f true false lt
  ];
  known = λ g h. elim (Contains-push_cases order f g h) [
    | inl was ↦ subst (λ n. g < n) (sym (length-set seen f true)) (m.known g was)
    | inr e ↦ subst (λ n. g < n) (sym (length-set seen f true)) (subst (λ x. x < length seen) e lt)
  ];
}

pub publics_none : (files : List Links) (f : ℕ) → length files ≤ f → publics_at files f ≡ []
publics_none files f le = get_or_past (map (λ l. l.public.items) files) f [] (subst (λ n. n ≤ f) (sym (length-map files (λ l. l.public.items))) le)

pub publics_dead : (files : List Links) (n : ℕ) → length files ≤ n → IsDead n (publics_at files)
publics_dead files n le f more g h = let past : length files ≤ f = omega arith in no_elements g (subst (λ xs. Contains xs g) (publics_none files f past) h)

pub extends_more : (Q : ℕ → Type 0) (a b c : List ℕ) → Extends Q a b → Extends Q b c → Extends Q a c
extends_more Q a b c e f = record {
  more = e.more ++ f.more;
  is = f.is ∙ ap (λ xs. xs ++ f.more) e.is ∙ append_assoc a e.more f.more;
  each = λ g h. elim (Contains-append_cases e.more f.more g h) [ inl x ↦ e.each g x | inr y ↦ f.each g y ];
}

pub extends_as : (P Q : ℕ → Type 0) (a b : List ℕ) → ((g : ℕ) → P g → Q g) → Extends P a b → Extends Q a b
extends_as P Q a b w e = record { more = e.more; is = e.is; each = λ g h. w g (e.each g h) }

pub extends_keeps : (P : ℕ → Type 0) (a b : List ℕ) → Extends P a b → (g : ℕ) → Contains a g → Contains b g
extends_keeps P a b e g h = subst (λ xs. Contains xs g) (sym e.is) (Contains-append_left a e.more g h)
