-- Where one use of a full name is written, and it is a map's, the name has one use, a map.
use Rattle.std.proofs.Common.{◌≡◌, ◌⊎◌, ◌∙◌, ◌+◌, inl, inr, suc, pos, Bool, true, false, cond, List, [], ◌∷◌, Some, length, sum_by, ap, sym, subst, refl, arith}
use Rattle.std.specs.List.{Contains, filter, flat_map}
use Rattle.std.proofs.lemmas.List.Sums.{sum_by-cons}
use Rattle.descriptor_records.specs.Content.{Text, FieldContent, FileContent}
use Rattle.schema_view.specs.Declarations.{Declaration, declarations, Body, of_field, of_extension}
use Rattle.schema_view.specs.Lawful.{is_dotted, times_by, is_use, IsMap, IsMapUse, IsOneMap}
use Rattle.schema_view.proofs.Lists.{contains_here, contains_there, contains_cases, contains_none, contains_flat, contains_flat_cases, sum_same}
use Rattle.linked_view.proofs.Counts.{one_if}
use Rattle.linked_view.proofs.Extended.{sum_flat}
use Rattle.linked_view.proofs.Used.{WrittenUse, uses_of}

sum_filter : {X : Type 0} (test : X → Bool) (xs : List X)
    → sum_by (λ x. one_if (test x)) xs ≡ length (filter test xs)
sum_filter test [] = refl
sum_filter {X} test (x ∷ xs) =
    by (test x) refl (sum_by-cons (λ y. one_if (test y)) x xs) (sum_filter test xs) where
      by : (b : Bool) → test x ≡ b
          → sum_by (λ y. one_if (test y)) (x ∷ xs)
          ≡ one_if (test x) + sum_by (λ y. one_if (test y)) xs
          → sum_by (λ y. one_if (test y)) xs ≡ length (filter test xs)
          → sum_by (λ y. one_if (test y)) (x ∷ xs) ≡ length (filter test (x ∷ xs))
      by true is sum rest =
          let here : one_if (test x) ≡ 1 = ap one_if is in
          let all : length (filter test (x ∷ xs)) ≡ suc (length (filter test xs)) =
          ap (λ b. length (cond b (x ∷ filter test xs) (filter test xs))) is in
          omega (arith, sum, rest, here, all)
      by false is sum rest =
          let here : one_if (test x) ≡ 0 = ap one_if is in
          let all : length (filter test (x ∷ xs)) ≡ length (filter test xs) =
          ap (λ b. length (cond b (x ∷ filter test xs) (filter test xs))) is in
          omega (arith, sum, rest, here, all)

filter_contains : {X : Type 0} (test : X → Bool) (xs : List X) (x : X) → Contains xs x
    → test x ≡ true → Contains (filter test xs) x
filter_contains test [] x h e = absurd (contains_none x h)
filter_contains {X} test (y ∷ xs) x h e =
    by (test y) refl (contains_cases y xs x h) (λ j. filter_contains test xs x j e) where
      by : (b : Bool) → test y ≡ b → (y ≡ x) ⊎ Contains xs x
          → (Contains xs x → Contains (filter test xs) x) → Contains (filter test (y ∷ xs)) x
      by true is (inl same) rest =
          subst (λ c. Contains (cond c (y ∷ filter test xs) (filter test xs)) x) (sym is)
          (subst (Contains (y ∷ filter test xs)) same (contains_here y (filter test xs)))
      by true is (inr j) rest =
          subst (λ c. Contains (cond c (y ∷ filter test xs) (filter test xs)) x) (sym is)
          (contains_there y (filter test xs) x (rest j))
      by false is (inl same) rest = absurd (cc (sym is ∙ ap test same ∙ e))
      by false is (inr j) rest =
          subst (λ c. Contains (cond c (y ∷ filter test xs) (filter test xs)) x) (sym is) (rest j)

contains_filter : {X : Type 0} (test : X → Bool) (xs : List X) (x : X)
    → Contains (filter test xs) x → Contains xs x × (test x ≡ true)
contains_filter test [] x h = absurd (contains_none x h)
contains_filter {X} test (y ∷ xs) x h = by (test y) refl (contains_filter test xs x) where
  at : (b : Bool) → test y ≡ b → Contains (cond b (y ∷ filter test xs) (filter test xs)) x
  at b is = subst (λ c. Contains (cond c (y ∷ filter test xs) (filter test xs)) x) is h

  by : (b : Bool) → test y ≡ b
      → (Contains (filter test xs) x → Contains xs x × (test x ≡ true))
      → Contains (y ∷ xs) x × (test x ≡ true)
  by true is rest = elim (contains_cases y (filter test xs) x (at true is)) [
    | inl same ↦ (subst (Contains (y ∷ xs)) same (contains_here y xs), sym (ap test same) ∙ is)
    | inr j ↦ (let r = rest j in (contains_there y xs x r.0, r.1))
  ]
  by false is rest = let r = rest (at false is) in (contains_there y xs x r.0, r.1)

abbrev pub written_uses : List FileContent → List WrittenUse
written_uses fs = flat_map (λ f. flat_map uses_of (declarations f)) fs

module _ (full : Text) where
  abbrev pub names_it : WrittenUse → Bool
  names_it u = is_dotted full u.0

  body_uses : (n : Text) (b : Body)
      → sum_by (λ u. one_if (names_it u)) (uses_of (record { name = n; body = b }))
      ≡ cond (is_use full b) 1 0
  body_uses n (of_field x) =
      let sum = sum_by-cons (λ u. one_if (names_it u)) (x.type_name, (x.label, x.field_type)) [] in
      omega (arith, sum)
  body_uses n (of_extension x) =
      let sum = sum_by-cons (λ u. one_if (names_it u)) (x.type_name, (x.label, x.field_type)) [] in
      omega (arith, sum)
  body_uses n b = refl

  pub times_used : (fs : List FileContent) → times_by (is_use full) fs
      ≡ length (filter names_it (written_uses fs))
  times_used fs =
      sym (sum_flat (λ u. one_if (names_it u)) (λ f. flat_map uses_of (declarations f)) fs
      ∙ sum_same (λ f. sum_by (λ u. one_if (names_it u)) (flat_map uses_of (declarations f)))
      (λ f. sum_by (λ d. cond (is_use full d.body) 1 0) (declarations f))
      (λ f. sum_flat (λ u. one_if (names_it u)) uses_of (declarations f)
      ∙ sum_same (λ d. sum_by (λ u. one_if (names_it u)) (uses_of d))
      (λ d. cond (is_use full d.body) 1 0) (λ d. body_uses d.name d.body) (declarations f)) fs)
      ∙ sum_filter names_it (written_uses fs)

  module _ (fs : List FileContent) (u : WrittenUse) (one : filter names_it (written_uses fs) ≡ u ∷ [])
      (label : u.1.0 ≡ Some (pos 3)) (type : u.1.1 ≡ Some (pos 11)) where
    is_it : (v : WrittenUse) → Contains (written_uses fs) v → names_it v ≡ true
        → (v.1.0 ≡ Some (pos 3)) × (v.1.1 ≡ Some (pos 11))
    is_it v h e =
        elim (contains_cases u [] v (subst (λ l. Contains l v) one
        (filter_contains names_it (written_uses fs) v h e))) [
          | inl same ↦ (
            sym (ap (λ (x : WrittenUse). x.1.0) same) ∙ label,
            sym (ap (λ (x : WrittenUse). x.1.1) same) ∙ type,
          )
          | inr none ↦ absurd (contains_none v none)
        ]

    body_map : (n : Text) (b : Body) → ((v : WrittenUse) → Contains (uses_of (record { name = n; body = b })) v
        → Contains (written_uses fs) v) → IsMapUse full b
    body_map n (of_field x) h = λ e.
        let v : WrittenUse = (x.type_name, (x.label, x.field_type)) in
        is_it v (h v (contains_here v [])) e
    body_map n (of_extension x) h = λ e.
        let v : WrittenUse = (x.type_name, (x.label, x.field_type)) in
        is_it v (h v (contains_here v [])) e
    body_map n b h = tt

    pub one_use_map : IsOneMap fs full
    one_use_map = record {
      once = times_used fs ∙ ap length one;
      map = λ f d i j. body_map d.name d.body (λ v k.
          contains_flat (λ f. flat_map uses_of (declarations f)) fs f v i
          (contains_flat uses_of (declarations f) d v j k));
    }

  -- and back: what is written of the name is a map's
  field_used : (x : FieldContent) → (is_dotted full x.type_name ≡ true → IsMap x)
      → (u : WrittenUse) → Contains ((x.type_name, (x.label, x.field_type)) ∷ []) u
      → names_it u ≡ true → (u.1.0 ≡ Some (pos 3)) × (u.1.1 ≡ Some (pos 11))
  field_used x h u i e =
      elim (contains_cases (x.type_name, (x.label, x.field_type)) [] u i) [
        | inl same ↦ (
            let m = h (ap names_it same ∙ e) in (
              sym (ap (λ (y : WrittenUse). y.1.0) same) ∙ m.0,
              sym (ap (λ (y : WrittenUse). y.1.1) same) ∙ m.1,
            ))
        | inr none ↦ absurd (contains_none u none)
      ]

  body_used : (n : Text) (b : Body) → IsMapUse full b → (u : WrittenUse)
      → Contains (uses_of (record { name = n; body = b })) u → names_it u ≡ true
      → (u.1.0 ≡ Some (pos 3)) × (u.1.1 ≡ Some (pos 11))
  body_used n (of_field x) h u i e = field_used x h u i e
  body_used n (of_extension x) h u i e = field_used x h u i e
  body_used n b h u i e = absurd (contains_none u i)

  pub used_as_map : (fs : List FileContent)
      → ((f : FileContent) (d : Declaration) → Contains fs f → Contains (declarations f) d
      → IsMapUse full d.body)
      → (u : WrittenUse) → Contains (filter names_it (written_uses fs)) u
      → (u.1.0 ≡ Some (pos 3)) × (u.1.1 ≡ Some (pos 11))
  used_as_map fs maps u h =
      let r = contains_filter names_it (written_uses fs) u h in
      let f = contains_flat_cases (λ f. flat_map uses_of (declarations f)) fs u r.0 in
      let d = contains_flat_cases uses_of (declarations f.0) u f.2 in
      body_used d.0.name d.0.body (maps f.0 d.0 f.1 d.1) u d.2 r.1
