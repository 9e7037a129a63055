-- Fields that a message lists, and the entries that stand for them.
use Rattle.std.proofs.Common.{◌≡◌, ◌∙◌, ℕ, suc, ℤ, pos, negsuc, Bool, true, false, cond, ◌==◌, List, [], ◌∷◌, ◌⊎◌, inl, inr, Option, Some, None, length, map, unwrap_or, ap, sym, refl, arith}
use Rattle.std.specs.List.{AllZip, Contains, filter, find}
use Rattle.std.specs.Ordering.{int_eq}
use Rattle.std.proofs.lemmas.Bool.Decides.{Decides-int_eq}
use Rattle.descriptor_records.specs.Content.{Text}
use Rattle.reflect_fields.specs.Fields.{natural}
use Rattle.reflect_tables.specs.Types.{FieldType, is_member}
use Rattle.schema_view.specs.Declarations.{FieldFacts}
use Rattle.schema_view.specs.Files.{join, text_of}
use Rattle.schema_view.specs.Rules.{HasFieldNumber, is_number}
use Rattle.schema_view.specs.Types.{field_number}
use Rattle.schema_view.specs.Views.{first, or_else, when}
use Rattle.schema_view.proofs.Lists.{contains_here, contains_there}
use Rattle.reflect_entries.specs.Members.{first_number}
use Rattle.types_view.specs.Fields.{IsListed}

pub one_bit : (a b : Bool) → (a ≡ true → b ≡ true) → (b ≡ true → a ≡ true) → a ≡ b
one_bit true true to from = refl
one_bit true false to from = sym (to refl)
one_bit false true to from = from refl
one_bit false false to from = refl

same_natural : (k n : ℕ) → (k == n) ≡ int_eq (pos k) (pos n)
same_natural k n = one_bit (k == n) (int_eq (pos k) (pos n))
    (λ e. let same : k ≡ n = grind (arith, e) in (Decides-int_eq (pos k) (pos n)).1 (ap pos same))
    (λ e. let same : k ≡ n = cc ((Decides-int_eq (pos k) (pos n)).0 e) in grind (arith, same))

-- the number of a record, which is a field's, is told as it is and as the natural number that it is
pub number_same : (o : Option ℤ) → unwrap_or (natural o) 0 ≡ elim o [ Some (pos n) ↦ n | _ ↦ 0 ]
number_same None = refl
number_same (Some (pos n)) = refl
number_same (Some z) = refl

-- a number is that of an entry where it is the one of the record
same_number : (n : ℕ) (f : FieldFacts) (o : Option ℤ) → f.number ≡ o → HasFieldNumber o
    → (field_number f == n) ≡ is_number (pos n) f.number
same_number n f o is (pos k, e, good) =
    ap (λ (x : Option ℤ). elim x [ Some (pos m) ↦ m | _ ↦ 0 ] == n) (is ∙ e)
    ∙ same_natural k n
    ∙ sym (ap (is_number (pos n)) (is ∙ e))
same_number n f o is (negsuc k, e, good) = absurd (search good.least)

module _ (full : Text) where
  abbrev Zipped : List FieldFacts → List FieldType → Type 0
  Zipped xs es = AllZip (IsListed full) xs es

  -- both tests say the same of fields that stand for each other
  abbrev pub Agree : (FieldFacts → Bool) → (FieldType → Bool) → List FieldFacts → List FieldType
      → Type 0
  Agree test own xs es = (f : FieldFacts) (e : FieldType) → Contains xs f → Contains es e
      → IsListed full f e → own e ≡ test f

  pub numbers_agree : (n : ℕ) (xs : List FieldFacts) (es : List FieldType)
      → ((f : FieldFacts) → Contains xs f → HasFieldNumber f.number)
      → Agree (λ f. is_number (pos n) f.number) (λ e. e.number == n) xs es
  numbers_agree n xs es good f e i j stands =
      ap (λ k. k == n) stands.number ∙ same_number n f f.number refl (good f i)

  -- what passes of more passes of these
  fewer : (test : FieldFacts → Bool) (own : FieldType → Bool) (f : FieldFacts) (e : FieldType)
      (xs : List FieldFacts) (es : List FieldType) → Agree test own (f ∷ xs) (e ∷ es)
      → Agree test own xs es
  fewer test own f e xs es agree g h i j =
      agree g h (contains_there f xs g i) (contains_there e es h j)

  module _ (test : FieldFacts → Bool) (own : FieldType → Bool) where
    abbrev named : List FieldFacts → Option Text
    named xs = first (λ (f : FieldFacts). when (test f) (join full (text_of f.name))) xs

    -- the first field that passes is there, or none passes
    pub record HasFirst (xs : List FieldFacts) (es : List FieldType) : Type 0 where
      pub facts : FieldFacts
      pub entry : FieldType
      pub inside : Contains xs facts
      pub there : Contains es entry
      pub stands : IsListed full facts entry
      pub is : test facts ≡ true
      pub found : find own es ≡ Some entry
      pub called : named xs ≡ Some entry.full_name

    pub record HasNone (xs : List FieldFacts) (es : List FieldType) : Type 0 where
      pub found : find own es ≡ None
      pub called : named xs ≡ None

    pub first_or_none : (xs : List FieldFacts) (es : List FieldType) → Zipped xs es
        → Agree test own xs es → HasFirst xs es ⊎ HasNone xs es
    first_or_none [] [] z agree = inr (record { found = refl; called = refl })
    first_or_none [] (e ∷ es) z agree = absurd z
    first_or_none (f ∷ xs) [] z agree = absurd z
    first_or_none (f ∷ xs) (e ∷ es) z agree =
        by (test f) refl (first_or_none xs es z.1 (fewer test own f e xs es agree)) where
          same : own e ≡ test f
          same = agree f e (contains_here f xs) (contains_here e es) z.0

          by : (b : Bool) → test f ≡ b → HasFirst xs es ⊎ HasNone xs es
              → HasFirst (f ∷ xs) (e ∷ es) ⊎ HasNone (f ∷ xs) (e ∷ es)
          by true is rest = inl (record {
            facts = f;
            entry = e;
            inside = contains_here f xs;
            there = contains_here e es;
            stands = z.0;
            is = is;
            found = ap (λ b. cond b (Some e) (find own es)) (same ∙ is);
            called = ap (λ b. or_else (when b (join full (text_of f.name))) (named xs)) is
                ∙ ap Some (sym z.0.full_name);
          })
          by false is (inl h) = inl (record {
            facts = h.facts;
            entry = h.entry;
            inside = contains_there f xs h.facts h.inside;
            there = contains_there e es h.entry h.there;
            stands = h.stands;
            is = h.is;
            found = ap (λ b. cond b (Some e) (find own es)) (same ∙ is) ∙ h.found;
            called = ap (λ b. or_else (when b (join full (text_of f.name))) (named xs)) is ∙ h.called;
          })
          by false is (inr h) = inr (record {
            found = ap (λ b. cond b (Some e) (find own es)) (same ∙ is) ∙ h.found;
            called = ap (λ b. or_else (when b (join full (text_of f.name))) (named xs)) is ∙ h.called;
          })

    -- and those that pass have the same numbers
    pub numbers_kept : (xs : List FieldFacts) (es : List FieldType) → Zipped xs es
        → Agree test own xs es
        → map (λ (e : FieldType). e.number) (filter own es) ≡ map field_number (filter test xs)
    numbers_kept [] [] z agree = refl
    numbers_kept [] (e ∷ es) z agree = absurd z
    numbers_kept (f ∷ xs) [] z agree = absurd z
    numbers_kept (f ∷ xs) (e ∷ es) z agree =
        ap (λ b. numbers_of (cond b (e ∷ filter own es) (filter own es)))
        (agree f e (contains_here f xs) (contains_here e es) z.0)
        ∙ by (test f) (numbers_kept xs es z.1 (fewer test own f e xs es agree)) where
          numbers_of : List FieldType → List ℕ
          numbers_of = map (λ (x : FieldType). x.number)

          by : (b : Bool) → numbers_of (filter own es) ≡ map field_number (filter test xs)
              → numbers_of (cond b (e ∷ filter own es) (filter own es))
              ≡ map field_number (cond b (f ∷ filter test xs) (filter test xs))
          by true h = ap (λ n. n ∷ numbers_of (filter own es)) z.0.number
              ∙ ap (λ ns. field_number f ∷ ns) h
          by false h = h

  -- ---- the members of a oneof

  same_member : (k : ℕ) (e : FieldType) (o : Option ℤ) → e.oneof ≡ natural o
      → is_member k e ≡ is_number (pos k) o
  same_member k e None is = ap (λ (x : Option ℕ). elim x [ None ↦ false | Some j ↦ k == j ]) is
  same_member k e (Some (pos j)) is =
      let same : (k == j) ≡ (j == k) = grind arith in
      ap (λ (x : Option ℕ). elim x [ None ↦ false | Some j ↦ k == j ]) is ∙ same
      ∙ same_natural j k
  same_member k e (Some (negsuc j)) is =
      ap (λ (x : Option ℕ). elim x [ None ↦ false | Some j ↦ k == j ]) is

  pub members : (k : ℕ) (xs : List FieldFacts) (es : List FieldType) → Zipped xs es
      → first_number (filter (is_member k) es)
      ≡ first (λ (f : FieldFacts). when (is_number (pos k) f.oneof) (field_number f)) xs
  members k [] [] z = refl
  members k [] (e ∷ es) z = absurd z
  members k (f ∷ xs) [] z = absurd z
  members k (f ∷ xs) (e ∷ es) z = by (is_number (pos k) f.oneof) refl (members k xs es z.1) where
    test : is_member k e ≡ is_number (pos k) f.oneof
    test = same_member k e f.oneof z.0.oneof

    rest : Option ℕ
    rest = first (λ (f : FieldFacts). when (is_number (pos k) f.oneof) (field_number f)) xs

    by : (b : Bool) → is_number (pos k) f.oneof ≡ b → first_number (filter (is_member k) es) ≡ rest
        → first_number (cond (is_member k e) (e ∷ filter (is_member k) es) (filter (is_member k) es))
        ≡ or_else (when (is_number (pos k) f.oneof) (field_number f)) rest
    by true is later =
        ap (λ b. first_number (cond b (e ∷ filter (is_member k) es) (filter (is_member k) es)))
        (test ∙ is)
        ∙ ap Some z.0.number
        ∙ sym (ap (λ b. or_else (when b (field_number f)) rest) is)
    by false is later =
        ap (λ b. first_number (cond b (e ∷ filter (is_member k) es) (filter (is_member k) es)))
        (test ∙ is)
        ∙ later
        ∙ sym (ap (λ b. or_else (when b (field_number f)) rest) is)

  -- there are as many
  pub member_count : (k : ℕ) (xs : List FieldFacts) (es : List FieldType) → Zipped xs es
      → length (filter (is_member k) es)
      ≡ length (filter (λ (f : FieldFacts). is_number (pos k) f.oneof) xs)
  member_count k [] [] z = refl
  member_count k [] (e ∷ es) z = absurd z
  member_count k (f ∷ xs) [] z = absurd z
  member_count k (f ∷ xs) (e ∷ es) z =
      ap (λ b. length (cond b (e ∷ filter (is_member k) es) (filter (is_member k) es)))
      (same_member k e f.oneof z.0.oneof)
      ∙ by (is_number (pos k) f.oneof) (member_count k xs es z.1) where
        rest : List FieldFacts
        rest = filter (λ (g : FieldFacts). is_number (pos k) g.oneof) xs

        by : (b : Bool) → length (filter (is_member k) es) ≡ length rest
            → length (cond b (e ∷ filter (is_member k) es) (filter (is_member k) es))
            ≡ length (cond b (f ∷ rest) rest)
        by true h = ap suc h
        by false h = h
