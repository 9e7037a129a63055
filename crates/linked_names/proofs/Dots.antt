-- Names without dots, and full names.
use Rattle.std.proofs.Common.{◌≡◌, ◌⊎◌, inl, inr, ◌&&◌, ◌||◌, ◌++◌, ℕ, Bool, true, false, cond, eqb, List, [], ◌∷◌, refl, sym, ap, ◌∙◌, subst, arith}
use Rattle.std.proofs.lemmas.Bool.{and_parts}
use Rattle.std.specs.List.{list_all}
use Rattle.protox_lex.specs.Class.{is_in}
use Rattle.protox_lex.specs.declared.class.Class.TheVariants as class
use Rattle.descriptor_records.specs.Content.{Text}
use Rattle.reflect_scope.specs.Means.{join, has_dot, outer}
use Rattle.reflect_scope.proofs.Steps.{has_dot-append}
use Rattle.text_model.specs.Identifiers.{is_identifier, is_full_name}
use Rattle.text_model.specs.Printed.{parts}
use Rattle.text_model.specs.Tree.{FullName}

-- ---- no dot

no_dot_in : (c : _) (b : ℕ) → is_in c 46 ≡ false → is_in c b ≡ true → eqb b 46 ≡ false
no_dot_in c b none e = by (eqb b 46) refl where
  by : (v : Bool) → eqb b 46 ≡ v → eqb b 46 ≡ false
  by false is = is
  by true is = let same : b ≡ 46 = grind (arith, is) in
      absurd (cc (sym (subst (λ n. is_in c n ≡ true) same e) ∙ none))

more_undotted : (b : ℕ) (bs : Text) → eqb b 46 ≡ false → has_dot bs ≡ false
    → has_dot (b ∷ bs) ≡ false
more_undotted b bs first rest = rw (first, rest) refl

pub word_undotted : (n : Text) → list_all (is_in class.Word) n ≡ true → has_dot n ≡ false
word_undotted [] e = refl
word_undotted (b ∷ bs) e =
    let both = and_parts (is_in class.Word b) (list_all (is_in class.Word) bs) e in
    more_undotted b bs (no_dot_in class.Word b refl both.0) (word_undotted bs both.1)

pub identifier_undotted : (n : Text) → is_identifier n ≡ true → has_dot n ≡ false
identifier_undotted [] e = refl
identifier_undotted (b ∷ bs) e =
    let both = and_parts (is_in class.Letter b) (list_all (is_in class.Word) bs) e in
    more_undotted b bs (no_dot_in class.Letter b refl both.0) (word_undotted bs both.1)

identifier_some : (n : Text) → is_identifier n ≡ true → n ≡ [] → ⊥
identifier_some n e none = cc (sym (ap is_identifier none) ∙ e)

no_dot_behind : (b : ℕ) (bs : Text) → has_dot (b ∷ bs) ≡ false → has_dot bs ≡ false
no_dot_behind b bs e = by (eqb b 46) refl where
  by : (v : Bool) → eqb b 46 ≡ v → has_dot bs ≡ false
  by true is = absurd (cc (sym (ap (λ v. v || has_dot bs) is) ∙ e))
  by false is = sym (ap (λ v. v || has_dot bs) is) ∙ e

-- ---- what stands before the last dot

outer_none : (n : Text) → has_dot n ≡ false → outer n ≡ []
outer_none [] e = refl
outer_none (b ∷ bs) e = ap (λ v. cond v (b ∷ outer bs) []) (no_dot_behind b bs e)

outer_dotted : (p n : Text) → has_dot n ≡ false → outer (p ++ (46 ∷ n)) ≡ p
outer_dotted [] n e = ap (λ v. cond v (46 ∷ outer n) []) e
outer_dotted (x ∷ p) n e =
    ap (λ v. cond v (x ∷ outer (p ++ (46 ∷ n))) []) (has_dot-append p n)
    ∙ ap (λ xs. x ∷ xs) (outer_dotted p n e)

pub outer_join : (s n : Text) → has_dot n ≡ false → outer (join s n) ≡ s
outer_join [] n e = outer_none n e
outer_join (c ∷ s) n e = outer_dotted (c ∷ s) n e

join_some : (s n : Text) → (n ≡ [] → ⊥) → join s n ≡ [] → ⊥
join_some [] n some e = some e
join_some (c ∷ s) n some e = cc e

pub called_some : (s n : Text) → is_identifier n ≡ true → join s n ≡ [] → ⊥
called_some s n e none = join_some s n (identifier_some n e) none

-- ---- full names

-- the empty scope, or a full name
abbrev pub IsNaming : Text → Type 0
IsNaming s = (s ≡ []) ⊎ (is_full_name (parts s) ≡ true)

parts_first : (b : ℕ) (bs : Text) → eqb b 46 ≡ false
    → parts (b ∷ bs) ≡ record { first = b ∷ (parts bs).first; others = (parts bs).others }
parts_first b bs e =
    ap (λ v. cond v (record { first = []; others = (parts bs).first ∷ (parts bs).others })
    (record { first = b ∷ (parts bs).first; others = (parts bs).others })) e

parts_plain : (n : Text) → has_dot n ≡ false → parts n ≡ record { first = n; others = [] }
parts_plain [] e = refl
parts_plain (b ∷ bs) e = by (eqb b 46) refl (parts_plain bs) where
  by : (v : Bool) → eqb b 46 ≡ v
      → (has_dot bs ≡ false → parts bs ≡ record { first = bs; others = [] })
      → parts (b ∷ bs) ≡ record { first = b ∷ bs; others = [] }
  by true is rest = absurd (cc (sym (ap (λ v. v || has_dot bs) is) ∙ e))
  by false is rest =
      parts_first b bs is
      ∙ ap {B = FullName} (λ (p : FullName). record { first = b ∷ p.first; others = p.others })
      (rest (no_dot_behind b bs e))

-- one part more
abbrev with_part : FullName → Text → FullName
with_part p n = record { first = p.first; others = p.others ++ n ∷ [] }

parts_more : (s n : Text) → has_dot n ≡ false → parts (s ++ (46 ∷ n)) ≡ with_part (parts s) n
parts_more [] n e = ap {B = FullName}
    (λ (p : FullName). record { first = []; others = p.first ∷ p.others }) (parts_plain n e)
parts_more (b ∷ s) n e = by (eqb b 46) refl (parts_more s n e) where
  by : (v : Bool) → eqb b 46 ≡ v → parts (s ++ (46 ∷ n)) ≡ with_part (parts s) n
      → parts ((b ∷ s) ++ (46 ∷ n)) ≡ with_part (parts (b ∷ s)) n
  by true is rest = rw is
      (ap {B = FullName} (λ (p : FullName). record { first = []; others = p.first ∷ p.others })
      rest)
  by false is rest = rw is
      (ap {B = FullName} (λ (p : FullName). record { first = b ∷ p.first; others = p.others })
      rest)

all_more : (test : Text → Bool) (ws : List Text) (w : Text) → list_all test ws ≡ true
    → test w ≡ true → list_all test (ws ++ w ∷ []) ≡ true
all_more test [] w all e = ap (λ b. b && true) e
all_more test (x ∷ ws) w all e =
    let both = and_parts (test x) (list_all test ws) all in
    ap (λ b. b && list_all test (ws ++ w ∷ [])) both.0 ∙ all_more test ws w both.1 e

full_more : (p : FullName) (n : Text) → is_full_name p ≡ true → is_identifier n ≡ true
    → is_full_name (with_part p n) ≡ true
full_more p n full e =
    let both = and_parts (is_identifier p.first) (list_all is_identifier p.others) full in
    ap (λ b. b && list_all is_identifier (p.others ++ n ∷ [])) both.0
    ∙ all_more is_identifier p.others n both.1 e

pub full_join : (s n : Text) → IsNaming s → is_identifier n ≡ true
    → is_full_name (parts (join s n)) ≡ true
full_join [] n naming e =
    ap is_full_name (parts_plain n (identifier_undotted n e)) ∙ ap (λ b. b && true) e
full_join (c ∷ s) n (inl none) e = absurd (cc none)
full_join (c ∷ s) n (inr full) e =
    ap is_full_name (parts_more (c ∷ s) n (identifier_undotted n e))
    ∙ full_more (parts (c ∷ s)) n full e
