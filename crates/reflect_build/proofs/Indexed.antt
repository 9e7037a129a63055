-- The names of a pool's files, as these come and go.
use Rattle.std.proofs.Common.{◌≡◌, ℕ, zero, suc, ◌<◌, ◌+◌, List, [], ◌∷◌, ◌++◌, Bool, true, false, cond, nat_lt, Option, Some, None, is_some, String, Global, string_bytes, bytes_eq, map, take, length, slice_get, append_assoc, ⊎_elim, ap, sym, subst, ◌∙◌, arith, refl}
use Rattle.std.proofs.Math.ListN.{length-map, length-append}
use Rattle.std.proofs.lemmas.List.{append-nil, take-map}
use Rattle.std.proofs.lemmas.Map.Entries.{option_filter}
use Rattle.std.proofs.lemmas.Option.{same_Some, slice_get_within}
use Rattle.std.specs.Cmp.Lexicographic.{bytes_decides}
use Rattle.std.specs.Map.{update}
use Rattle.descriptor_records.specs.declared.file.FileDescriptorProto.{FileDescriptorProto}
use Rattle.reflect_faults.specs.Faults.{Fault}
use Rattle.reflect_scope.specs.FileIndexes.{Indexes, KeepsIndexes}
use Rattle.reflect_names.specs.FileNames.{file_faults, with_file, with_files, files_faults}
use Rattle.reflect_names.specs.Names.{Places}
use Rattle.reflect_names.proofs.FileRuns.{with_new}
use Rattle.reflect_tables.specs.Types.{FileType}
use Rattle.reflect_tables.specs.Views.{record_file, text_of}
use Rattle.reflect_tables.proofs.Founds.{no_some, last, front, either}
use Rattle.reflect_index.proofs.Known.{none_left, none_right}
use Rattle.reflect_pool.specs.Imports.{names_of_files as names}
use Rattle.reflect_pool.specs.Linked.{AreIndexed}

-- what is left of an index where it is below the mark
pub low_some : (mark : ℕ) (o : Option ℕ) (i : ℕ) → (option_filter (λ k. nat_lt k mark) o ≡ Some i → (o ≡ Some i) × (i < mark)) × (o ≡ Some i → i < mark → option_filter (λ k. nat_lt k mark) o ≡ Some i)
low_some mark None i = (λ e. absurd (no_some i e), λ e lt. e)
low_some mark (Some q) i = by (nat_lt q mark) refl where
  by : (b : Bool) → nat_lt q mark ≡ b → (cond (nat_lt q mark) (Some q) None ≡ Some i → (Some q ≡ Some i) × (i < mark)) × (Some q ≡ Some i → i < mark → cond (nat_lt q mark) (Some q) None ≡ Some i)
  by true is =
      let low : q < mark = grind (arith, is) in
      rw is (λ e. (e, subst (λ n. n < mark) (same_Some q i e) low), λ e lt. e)
  by false is = rw is (λ e. absurd (no_some i e), λ e lt. let same : q ≡ i = same_Some q i e in absurd (grind (arith, is, same, lt)))

-- what stands at a place among the first so many
pub taken : {X : Type 0} (mark : ℕ) (xs : List X) (i : ℕ) (x : X)
    → (slice_get (take mark xs) i ≡ Some x → (slice_get xs i ≡ Some x) × (i < mark)) × (slice_get xs i ≡ Some x → i < mark → slice_get (take mark xs) i ≡ Some x)
taken zero xs i x = (λ e. absurd (no_some x e), λ e lt. absurd (omega (arith, lt)))
taken (suc m) [] i x = (λ e. absurd (no_some x e), λ e lt. e)
taken (suc m) (y ∷ ys) zero x = (λ e. (e, omega arith), λ e lt. e)
taken (suc m) (y ∷ ys) (suc k) x =
    let inner = taken m ys k x in
    (λ e. ((inner.0 e).0, let lt = (inner.0 e).1 in omega (arith, lt)), λ e lt. inner.1 e (omega (arith, lt)))

pub indexed_cut : (mark : ℕ) (old new : Indexes) (xs : List FileType) → ((t : List ℕ) → new t ≡ option_filter (λ k. nat_lt k mark) (old t)) → AreIndexed old (names xs) → AreIndexed new (names (take mark xs))
indexed_cut mark old new xs same are =
    subst (AreIndexed new) (take-map (λ (x : FileType). x.name) mark xs) (λ t i. (
      λ e. let low = (low_some mark (old t) i).0 (sym (same t) ∙ e) in (taken mark (names xs) i t).1 ((are t i).0 low.0) low.1,
      λ e. let at = (taken mark (names xs) i t).0 e in same t ∙ (low_some mark (old t) i).1 ((are t i).1 at.0) at.1,
    ))

-- behind a refusal, which may have put in names of further files
pub indexed_back : (mark : ℕ) (old mid new : Indexes) (xs : List FileType) → mark ≡ length xs → KeepsIndexes mark old mid → ((t : List ℕ) → new t ≡ option_filter (λ k. nat_lt k mark) (mid t)) → AreIndexed old (names xs) → AreIndexed new (names xs)
indexed_back mark old mid new xs count keeps same are = λ t i. (
  λ e. let low = (low_some mark (mid t) i).0 (sym (same t) ∙ e) in (are t i).0 ((keeps t i low.1).1 low.0),
  λ e. let long = slice_get_within (names xs) i t e in
      let all = length-map xs (λ (x : FileType). x.name) in
      let lt : i < mark = omega (arith, long, all, count) in
      same t ∙ (low_some mark (mid t) i).1 ((keeps t i lt).0 ((are t i).1 e)) lt,
)

-- one name more
indexed_one : (known : Indexes) (ns : List (List ℕ)) (s : List ℕ) → known s ≡ None → AreIndexed known ns → AreIndexed (update bytes_eq known s (Some (length ns))) (ns ++ s ∷ [])
indexed_one known ns s new are = λ t i. by t i (bytes_eq s t) refl where
  differs : (t : List ℕ) → bytes_eq s t ≡ false → bytes_eq s t ≡ true → ⊥
  differs t a b = absurd (cc)

  by : (t : List ℕ) (i : ℕ) (b : Bool) → bytes_eq s t ≡ b
      → (cond (bytes_eq s t) (Some (length ns)) (known t) ≡ Some i → slice_get (ns ++ s ∷ []) i ≡ Some t) × (slice_get (ns ++ s ∷ []) i ≡ Some t → cond (bytes_eq s t) (Some (length ns)) (known t) ≡ Some i)
  by t i true is =
      let e = (bytes_decides s t).0 is in
      rw is (
        λ q. subst (λ k. slice_get (ns ++ s ∷ []) k ≡ Some t) (same_Some (length ns) i q) (last ns s ∙ ap Some e),
        λ q. ⊎_elim (λ l. absurd (no_some i (sym new ∙ ap known e ∙ (are t i).1 l))) (λ r. ap Some (sym r.0)) (either ns s i t q),
      )
  by t i false is = rw is (
    λ q. front ns (s ∷ []) i t ((are t i).0 q),
    λ q. ⊎_elim (λ l. (are t i).1 l) (λ r. absurd (differs t is ((bytes_decides s t).1 r.1))) (either ns s i t q),
  )

-- a file without a fault of its name
indexed_file : (at : Places) (known : Indexes) (ns : List (List ℕ)) (f : FileDescriptorProto) → file_faults at known f.name ≡ [] → AreIndexed known ns → AreIndexed (with_file known (length ns) f.name) (ns ++ (record_file f).name ∷ [])
indexed_file at known ns f none are = by f.name none where
  fresh : (s : List ℕ) (o : Option ℕ) (x : Fault) → cond (is_some o) (x ∷ []) [] ≡ [] → o ≡ None
  fresh s None x e = refl
  fresh s (Some k) x e = absurd (cc)

  by : (o : Option (String Global)) → file_faults at known o ≡ [] → AreIndexed (with_file known (length ns) o) (ns ++ text_of o ∷ [])
  by None e = absurd (cc)
  by (Some s) e =
      let new = fresh (string_bytes s) (known (string_bytes s)) _ e in
      subst (λ g. AreIndexed g (ns ++ string_bytes s ∷ [])) (sym (with_new known (length ns) s (ap is_some new))) (indexed_one known ns (string_bytes s) new are)

pub indexed_more : (at : ℕ → Places) (known : Indexes) (ns : List (List ℕ)) (fs : List FileDescriptorProto) → files_faults at known (length ns) fs ≡ [] → AreIndexed known ns → AreIndexed (with_files known (length ns) fs) (ns ++ names (map record_file fs))
indexed_more at known ns [] none are = subst (AreIndexed known) (sym (append-nil ns)) are
indexed_more at known ns (f ∷ fs) none are =
    let next = with_file known (length ns) f.name in
    let more = ns ++ (record_file f).name ∷ [] in
    let count : length more ≡ length ns + 1 = length-append ns ((record_file f).name ∷ []) in
    let one = indexed_file (at (length ns)) known ns f (none_left _ _ none) are in
    let rest = none_right (file_faults (at (length ns)) known f.name) _ none in
    let all = indexed_more at next more fs (subst (λ n. files_faults at next n fs ≡ []) (sym count) rest) one in
    subst (λ n. AreIndexed (with_files next n fs) (ns ++ names (map record_file (f ∷ fs)))) count (subst (AreIndexed (with_files next (length more) fs)) (append_assoc ns ((record_file f).name ∷ []) (names (map record_file fs))) all)
