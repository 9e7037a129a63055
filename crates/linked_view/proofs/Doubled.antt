-- In linked files no two extensions have one message and one number, and so the pass over extensions
-- finds none whose message and number are taken.
use Rattle.std.proofs.Common.{◌≡◌, ◌≤◌, ◌+◌, ◌∙◌, ◌||◌, ◌==◌, inl, inr, ℕ, suc, ℤ, pos, negsuc, Bool, true, false, List, [], ◌∷◌, ◌++◌, Option, Some, map, length, slice_get, unwrap_or, ap, sym, subst, refl, arith}
use Rattle.std.proofs.lemmas.Bool.{and_from, and_parts}
use Rattle.std.specs.List.{AllZip, Contains, flat_map}
use Rattle.std.proofs.lemmas.Bool.Decides.{Decides-int_eq}
use Rattle.descriptor_records.specs.Content.{Text, FileContent}
use Rattle.reflect_build.specs.Refusals.{Linking, IsOf}
use Rattle.reflect_build.proofs.Numbered.{stored_key}
use Rattle.reflect_fields.specs.Fields.{natural}
use Rattle.reflect_names.specs.Names.{Places}
use Rattle.reflect_passes.specs.Extensions.{double_faults, extension_faults}
use Rattle.reflect_passes.specs.Extensions as pass
use Rattle.reflect_passes.specs.Linked.{linked_says}
use Rattle.reflect_passes.specs.NumberFaults.{doubled}
use Rattle.reflect_passes.specs.declared.linked_types.LinkedTypes.{LinkedTypes}
use Rattle.reflect_pool.specs.Linked.{key_of}
use Rattle.reflect_rules.specs.TypesSay.{TypesSay}
use Rattle.reflect_tables.specs.ExtensionNumbers.{KeyType}
use Rattle.reflect_tables.specs.Names.{FullName}
use Rattle.reflect_tables.specs.Types.{PoolType, ExtensionType}
use Rattle.reflect_tables.specs.Views.{extension_of}
use Rattle.reflect_tables.specs.declared.stored.StoredExtension.{StoredExtension}
use Rattle.reflect_tables.proofs.Founds.{front}
use Rattle.schema_view.specs.Declarations.{declarations, Body, of_extension}
use Rattle.schema_view.specs.Lawful.{Key}
use Rattle.schema_view.specs.Rules.{IsFieldNumber, IsSound}
use Rattle.schema_view.specs.Files.{is_proto3}
use Rattle.schema_view.proofs.Lists.{contains_here, contains_there, contains_cases, contains_none, contains_map_cases, contains_flat_cases}
use Rattle.schema_view.proofs.Road.{AreLinked}
use Rattle.linked_view.specs.Extended.{WrittenKey, keys_of, written_keys, HasWritten}
use Rattle.reflect_index.proofs.Behind.{get_behind}
use Rattle.reflect_index.proofs.Among.{get_map, zip_place}
use Rattle.linked_view.proofs.Counts.{bytes_refl}
use Rattle.linked_view.proofs.Extended.{one_place, times_written, writes_key}
use Rattle.linked_view.proofs.Faults.{both_none, when_from}
use Rattle.linked_view.proofs.Places.{contains_get, get_contains, get_less}

natural_number : (z : ℤ) → IsFieldNumber z → (n : ℕ) × (z ≡ pos n)
natural_number (pos n) h = (n, refl)
natural_number (negsuc k) h = let le = h.least in absurd (omega (arith, le))

-- the number that is written of a sound extension
number_in : (n : Text) (proto3 : Bool) (b : Body) → IsSound proto3 b → (k : WrittenKey)
    → Contains (keys_of (record { name = n; body = b })) k → (m : ℕ) × (k.1 ≡ Some (pos m))
number_in n proto3 (of_extension x) h k i = elim (contains_cases (x.extendee, x.number) [] k i) [
  | inl same ↦ (
      let z = h.0.number in
      let m = natural_number z.0 z.2 in
      (m.0, sym (ap (λ (w : WrittenKey). w.1) same) ∙ z.1 ∙ ap Some m.1))
  | inr none ↦ absurd (contains_none k none)
]
number_in n proto3 b h k i = absurd (contains_none k i)

number_written : (fs : List FileContent) → AreLinked fs → (k : WrittenKey)
    → Contains (written_keys fs) k → (m : ℕ) × (k.1 ≡ Some (pos m))
number_written fs linked k h =
    let f = contains_flat_cases (λ f. flat_map keys_of (declarations f)) fs k h in
    let d = contains_flat_cases keys_of (declarations f.0) k f.2 in
    number_in d.0.name (is_proto3 f.0) d.0.body ((linked.each f.0 f.1).sound d.0 d.1) k d.2

abbrev key_by : Text → ℕ → WrittenKey
key_by full n = (Some (46 ∷ full), Some (pos n))

writes_itself : (full : Text) (n : ℕ) → writes_key (full, pos n) (key_by full n) ≡ true
writes_itself full n =
    and_from _ _ (bytes_refl (46 ∷ full)) ((Decides-int_eq (pos n) (pos n)).1 refl)

module _ (names : List FullName) (fs : List FileContent) (linked : AreLinked fs)
    (es : List ExtensionType) (zip : AllZip (HasWritten names) (written_keys fs) es) where
  -- what is written of the entry at a place
  record IsWrittenAt (i : ℕ) (x : ExtensionType) : Type 0 where
    full : Text
    file : ℕ
    message : slice_get names x.extendee ≡ Some (full, file)
    written : slice_get (written_keys fs) i ≡ Some (key_by full x.field.number)

  written_at : (i : ℕ) (x : ExtensionType) → slice_get es i ≡ Some x → IsWrittenAt i x
  written_at i x e =
      let v = zip_place (HasWritten names) (written_keys fs) es i x zip e in
      let m = number_written fs linked v.0 (get_contains (written_keys fs) i v.0 v.1) in
      let number : x.field.number ≡ m.0 =
      v.2.number ∙ ap (λ o. unwrap_or (natural o) 0) m.1 in
      let same : ◌≡◌ {A = WrittenKey} v.0 (key_by v.2.full x.field.number) =
      ap (λ (o : Option Text). (o, v.0.1)) v.2.extendee
      ∙ ap (λ (o : Option ℤ). (Some (46 ∷ v.2.full), o)) m.1
      ∙ ap (key_by v.2.full) (sym number) in
      record {
        full = v.2.full;
        file = v.2.file;
        message = v.2.message;
        written = v.1 ∙ ap Some same;
      }

  keys_apart : (i j : ℕ) (x y : ExtensionType) → slice_get es i ≡ Some x
      → slice_get es j ≡ Some y → key_of x ≡ key_of y → i ≡ j
  keys_apart i j x y e f same =
      let a = written_at i x e in
      let b = written_at j y f in
      let message : x.extendee ≡ y.extendee = ap (λ (k : KeyType). k.0) same in
      let number : x.field.number ≡ y.field.number = ap (λ (k : KeyType). k.1) same in
      let pair : ◌≡◌ {A = FullName} (b.full, b.file) (a.full, a.file) =
      cc (sym b.message ∙ ap (slice_get names) (sym message) ∙ a.message) in
      let second : slice_get (written_keys fs) j ≡ Some (key_by a.full x.field.number) =
      b.written
      ∙ ap (λ (p : FullName). Some (key_by p.0 y.field.number)) pair
      ∙ ap (λ n. Some (key_by a.full n)) (sym number) in
      let k : Key = (a.full, pos x.field.number) in
      let own = key_by a.full x.field.number in
      let itself = writes_itself a.full x.field.number in
      one_place (writes_key k) (written_keys fs) i j own own
      (subst (λ n. n ≤ 1) (times_written k fs) (linked.together.extended k)) a.written second itself
      itself

-- ---- the pass

same_key : (k : KeyType) (x : StoredExtension) → pass.has_key k x ≡ true → stored_key x ≡ k
same_key k x e =
    let both = and_parts (x.extendee == k.0) (x.field.number == k.1) e in
    let extendee = both.0 in
    let number = both.1 in
    let message : x.extendee ≡ k.0 = grind (arith, extendee) in
    let own : x.field.number ≡ k.1 = grind (arith, number) in
    λ i. (message i, own i)

module _ (types : TypesSay) (at : ℕ → Places) where
  none_taken : (known : KeyType → Bool) (xs : List StoredExtension)
      → ((x : StoredExtension) → Contains xs x → known (stored_key x) ≡ false)
      → ((i j : ℕ) (x y : StoredExtension) → slice_get xs i ≡ Some x → slice_get xs j ≡ Some y
      → stored_key x ≡ stored_key y → i ≡ j)
      → extension_faults known types at xs ≡ []
  none_taken known [] new apart = refl
  none_taken known (x ∷ xs) new apart =
      both_none (double_faults known types at x) _
      (when_from (known (stored_key x)) _ (new x (contains_here x xs)))
      (none_taken (λ k. known k || pass.has_key k x) xs later (λ i j y z e f same.
      let place : suc i ≡ suc j = apart (suc i) (suc j) y z e f same in omega (arith, place)))
    where
      later : (y : StoredExtension) → Contains xs y
          → (known (stored_key y) || pass.has_key (stored_key y) x) ≡ false
      later y i = by (pass.has_key (stored_key y) x) refl where
        by : (b : Bool) → pass.has_key (stored_key y) x ≡ b
            → (known (stored_key y) || pass.has_key (stored_key y) x) ≡ false
        by false is =
            ap (λ b. b || pass.has_key (stored_key y) x) (new y (contains_there x xs y i)) ∙ is
        by true is =
            let place = contains_get xs y i in
            let same : 0 ≡ suc place.0 =
            apart 0 (suc place.0) x y refl place.1 (same_key (stored_key y) x is) in
            absurd (omega (arith, same))

-- no new extension has the message and the number of an older one, or of another
module _ (old : PoolType) (w : Linking) (is : IsOf old w) (t : LinkedTypes)
    (names : List FullName) (fs : List FileContent) (linked : AreLinked fs)
    (zip : AllZip (HasWritten names) (written_keys fs)
    (old.extensions ++ map extension_of t.new.now.extensions.items)) where
  abbrev items : List StoredExtension
  items = t.new.now.extensions.items

  abbrev all : List ExtensionType
  all = old.extensions ++ map extension_of items

  stands : (i : ℕ) (x : StoredExtension) → slice_get items i ≡ Some x
      → slice_get all (length old.extensions + i) ≡ Some (extension_of x)
  stands i x e =
      get_behind old.extensions (map extension_of items) i (extension_of x)
      (get_map extension_of items i x e)

  no_older : (x : StoredExtension) → Contains items x → w.numbers (stored_key x) ≡ false
  no_older x h = by (w.numbers (stored_key x)) refl where
    by : (b : Bool) → w.numbers (stored_key x) ≡ b → w.numbers (stored_key x) ≡ false
    by false e = e
    by true e =
        let y = contains_map_cases key_of old.extensions (stored_key x)
        ((is.numbers (stored_key x)).0 e) in
        let i = contains_get old.extensions y.0 y.1 in
        let j = contains_get items x h in
        let place = keys_apart names fs linked all zip i.0 (length old.extensions + j.0) y.0
        (extension_of x) (front old.extensions (map extension_of items) i.0 y.0 i.1)
        (stands j.0 x j.1) y.2 in
        let less = get_less old.extensions i.0 y.0 i.1 in
        absurd (omega (arith, place, less))

  pub none_doubled : (at : ℕ → Places) → doubled w.numbers t at ≡ []
  none_doubled at = none_taken (linked_says t) at w.numbers items no_older (λ i j x y e f same.
      let place = keys_apart names fs linked all zip (length old.extensions + i)
      (length old.extensions + j) (extension_of x) (extension_of y) (stands i x e) (stands j y f) same in
      omega (arith, place))
