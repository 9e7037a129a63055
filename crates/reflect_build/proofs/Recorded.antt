-- What a pool knows, and the names of its entries, by the records of its files.
use Rattle.std.proofs.Common.{◌≡◌, ◌<◌, ◌≤◌, ◌+◌, ℕ, zero, suc, List, [], ◌∷◌, ◌++◌, map, take, drop, length, Bool, true, false, cond, nat_lt, Some, None, is_some, append_assoc, zero-add, ap, sym, subst, ◌∙◌, arith, refl}
use Rattle.std.proofs.lemmas.List.{append-nil, take-append-drop, take-map}
use Rattle.std.proofs.lemmas.List.Elements.{filter-append}
use Rattle.std.specs.List.{AllByRecursion}
use Rattle.descriptor_records.specs.declared.file.FileDescriptorProto.{FileDescriptorProto}
use Rattle.reflect_scope.specs.Known.{Known, declared, kept_first, KeepsFirst}
use Rattle.reflect_scope.specs.Means.{scopes}
use Rattle.reflect_scope.specs.declared.definition.Definition.{Definition}
use Rattle.reflect_declarations.specs.Batches.{batch_declarations, past_files}
use Rattle.reflect_declarations.specs.Declarations.{Declaration, Body, of_file, of_message, of_field, of_oneof, of_enum, of_enum_value, of_service, of_method, of_extension, file_declarations, past_file}
use Rattle.reflect_declarations.specs.Tree.{text_of}
use Rattle.reflect_declarations.specs.declared.offsets.Offsets.{Offsets}
use Rattle.reflect_known.specs.DeclaredNames.{is_of, with_name, with_names}
use Rattle.reflect_known.specs.KnownNames.{package_of, named, packages, known_after, known_behind, nothing_known, nothing_before, known_of_files, counts_of_files}
use Rattle.reflect_names.proofs.Declared.{at_name}
use Rattle.reflect_known.proofs.GivenNames.{known_told, names_told}
use Rattle.reflect_tables.specs.Names.{Sort, FullName, names_of}
use Rattle.reflect_tables.specs.Names as sorts
use Rattle.reflect_tables.specs.Types.{PoolType}
use Rattle.reflect_tables.specs.Views.{record_file}
use Rattle.reflect_growth.specs.Cut.{cut_to}
use Rattle.reflect_index.proofs.Batched.{known_on, names_on, names_behind}
use Rattle.reflect_index.proofs.Counted.{AreNext, past_one, file_next}
use Rattle.reflect_index.proofs.Known.{offset, counts}
use Rattle.reflect_index.proofs.Orders.{all_push, first_names}
use Rattle.reflect_pool.specs.Linked.{AreRecorded}
use Rattle.reflect_build.specs.Accepted.{AddsRecords}
use Rattle.reflect_build.proofs.Back.{filter_below, filter_from}

-- the declarations of files, and of further ones behind them
pub batch_on : (o : Offsets) (i : ℕ) (fs gs : List FileDescriptorProto)
    → batch_declarations o i (fs ++ gs)
    ≡ batch_declarations o i fs ++ batch_declarations (past_files o fs) (i + length fs) gs
batch_on o i [] gs = let e : i ≡ i + 0 = omega arith in ap (λ n. batch_declarations o n gs) e
batch_on o i (f ∷ fs) gs =
    let here = file_declarations o i f in
    let rest = batch_declarations (past_file o f) (i + 1) fs in
    let later : ℕ → List Declaration = λ n. batch_declarations (past_files o (f ∷ fs)) n gs in
    let count : i + 1 + length fs ≡ i + length (f ∷ fs) = omega arith in
    ap (λ ds. here ++ ds) (batch_on (past_file o f) (i + 1) fs gs ∙ ap (λ n. rest ++ later n) count)
    ∙ sym (append_assoc here rest (later (i + length (f ∷ fs))))

-- those of all files of a pool
abbrev pub all_of : List FileDescriptorProto → List Declaration
all_of fs = batch_declarations nothing_before 0 fs

-- those of files that come behind them
abbrev pub further : List FileDescriptorProto → List FileDescriptorProto → List Declaration
further fs gs = batch_declarations (counts_of_files fs) (length fs) gs

all_on : (fs gs : List FileDescriptorProto) → all_of (fs ++ gs) ≡ all_of fs ++ further fs gs
all_on fs gs =
    batch_on nothing_before 0 fs gs
    ∙ ap (λ n. all_of fs ++ batch_declarations (counts_of_files fs) n gs) (zero-add (length fs))

known_more : (fs gs : List FileDescriptorProto)
    → known_of_files (fs ++ gs) ≡ known_behind (known_of_files fs) (further fs gs)
known_more fs gs =
    ap (known_behind nothing_known) (all_on fs gs)
    ∙ known_on nothing_known (all_of fs) (further fs gs)

pub names_more : (s : Sort) (fs gs : List FileDescriptorProto) → with_names s [] (all_of (fs ++ gs))
    ≡ with_names s [] (all_of fs) ++ with_names s [] (further fs gs)
names_more s fs gs =
    let front = with_names s [] (all_of fs) in
    ap (with_names s []) (all_on fs gs) ∙ names_on s [] (all_of fs) (further fs gs)
    ∙ ap (λ ns. with_names s ns (further fs gs)) (sym (append-nil front))
    ∙ names_behind s front [] (further fs gs)

-- how many names of a sort there are
walk_counted : (s : Sort) (names : List FullName) (file : ℕ) (o p : Offsets) (ds : List Declaration)
    → length names ≡ offset s o → AreNext file o ds p → length (with_names s names ds) ≡ offset s p
walk_counted s names file o p [] len next = len ∙ sym (ap (offset s) next)
walk_counted s names file o p (d ∷ ds) len next =
    let count = counts s names d.name d.file o d.body len in
    walk_counted s (with_name s names d) file (past_one o d.body) p ds count next.1.1

files_counted : (s : Sort) (names : List FullName) (o : Offsets) (i : ℕ)
    (fs : List FileDescriptorProto) → length names ≡ offset s o
    → length (with_names s names (batch_declarations o i fs)) ≡ offset s (past_files o fs)
files_counted s names o i [] len = len
files_counted s names o i (f ∷ fs) len =
    let here = file_declarations o i f in
    let count = walk_counted s names i o (past_file o f) here len (file_next i o f) in
    ap length (names_on s names here (batch_declarations (past_file o f) (i + 1) fs))
    ∙ files_counted s (with_names s names here) (past_file o f) (i + 1) fs count

none_counted : (s : Sort) → length {A = FullName} [] ≡ offset s nothing_before
none_counted sorts.messages = refl
none_counted sorts.enums = refl
none_counted sorts.extensions = refl
none_counted sorts.services = refl

-- as many as the records declare
pub recorded_count : (p : PoolType) → AreRecorded p → (s : Sort)
    → length (names_of p s) ≡ offset s (counts_of_files p.records)
recorded_count p recorded s =
    ap length (recorded s) ∙ files_counted s [] nothing_before 0 p.records (none_counted s)

-- the files of declarations
abbrev pub AllIn : (ℕ → Type 0) → List Declaration → Type 0
AllIn F ds = AllByRecursion (λ d. F d.file) ds

all_behind : (F : ℕ → Type 0) (xs ys : List Declaration) → AllIn F xs → AllIn F ys
    → AllIn F (xs ++ ys)
all_behind F [] ys a b = b
all_behind F (x ∷ xs) ys a b = (a.0, all_behind F xs ys a.1 b)

all_next : (F : ℕ → Type 0) (file : ℕ) (o p : Offsets) (ds : List Declaration)
    → F file → AreNext file o ds p → AllIn F ds
all_next F file o p [] at next = tt
all_next F file o p (d ∷ ds) at next =
    (subst F (sym next.0) at, all_next F file (past_one o d.body) p ds at next.1.1)

all_files : (F : ℕ → Type 0) (o : Offsets) (i : ℕ) (fs : List FileDescriptorProto)
    → ((k : ℕ) → i ≤ k → k < i + length fs → F k) → AllIn F (batch_declarations o i fs)
all_files F o i [] at = tt
all_files F o i (f ∷ fs) at =
    let here = file_declarations o i f in
    let count : i < i + length (f ∷ fs) = omega arith in
    all_behind F here (batch_declarations (past_file o f) (i + 1) fs)
    (all_next F i o (past_file o f) here (at i (omega arith) count) (file_next i o f))
    (all_files F (past_file o f) (i + 1) fs
    (λ k le lt. at k (omega (arith, le)) (omega (arith, lt))))

take_short : {X : Type 0} (mark : ℕ) (xs : List X) → length (take mark xs) ≤ mark
take_short zero xs = omega arith
take_short (suc m) [] = omega arith
take_short (suc m) (x ∷ xs) = let rest = take_short m xs in omega (arith, rest)

-- the first files are below the mark, and the others are not
pub first_below : (mark : ℕ) (fs : List FileDescriptorProto)
    → AllIn (λ k. k < mark) (all_of (take mark fs))
first_below mark fs =
    let short = take_short mark fs in
    all_files (λ k. k < mark) nothing_before 0 (take mark fs) (λ k le lt. omega (arith, lt, short))

beyond : {X : Type 0} (mark : ℕ) (xs : List X) (k : ℕ) → length (take mark xs) ≤ k
    → k < length (take mark xs) + length (drop mark xs) → mark ≤ k
beyond zero xs k le lt = omega arith
beyond (suc m) [] k le lt = absurd (omega (arith, le, lt))
beyond (suc m) (x ∷ xs) zero le lt = absurd (omega (arith, le))
beyond (suc m) (x ∷ xs) (suc k) le lt =
    let rest = beyond m xs k (omega (arith, le)) (omega (arith, lt)) in omega (arith, rest)

pub others_not_below : (mark : ℕ) (fs : List FileDescriptorProto)
    → AllIn (λ k. mark ≤ k) (further (take mark fs) (drop mark fs))
others_not_below mark fs =
    let front = take mark fs in
    all_files (λ k. mark ≤ k) (counts_of_files front) (length front) (drop mark fs) (beyond mark fs)

-- what each declared name keeps, a walk keeps
module _ (F : ℕ → Type 0) (Q : Known → Type 0)
    (one : (known : Known) (name : List ℕ) (d : Definition) → F d.file → Q known
    → Q (declared known name d)) where
  named_keeps : (known : Known) (name : List ℕ) (b : Bool) (d : Definition)
      → F d.file → Q known → Q (named known name b d)
  named_keeps known name true d at h = one known name d at h
  named_keeps known name false d at h = h

  packages_keep : (known : Known) (file : ℕ) (ps : List (List ℕ))
      → F file → Q known → Q (packages known file ps)
  packages_keep known file [] at h = h
  packages_keep known file ([] ∷ ps) at h = packages_keep known file ps at h
  packages_keep known file ((b ∷ bs) ∷ ps) at h =
      let next = one known (b ∷ bs) (package_of file) at h in
      packages_keep (declared known (b ∷ bs) (package_of file)) file ps at next

  body_keeps : (known : Known) (d : Declaration) (body : Body)
      → F d.file → Q known → Q (known_after known (record d { body = body }))
  body_keeps known d (of_file f) at h = packages_keep known d.file (scopes (text_of f.package)) at h
  body_keeps known d (of_message m) at h = named_keeps known d.name (is_some m.name) _ at h
  body_keeps known d (of_field f) at h = named_keeps known d.name (is_some f.name) _ at h
  body_keeps known d (of_oneof o) at h = named_keeps known d.name (is_some o.name) _ at h
  body_keeps known d (of_enum k) at h = named_keeps known d.name (is_some k.name) _ at h
  body_keeps known d (of_enum_value v) at h = named_keeps known d.name (is_some v.name) _ at h
  body_keeps known d (of_service s) at h = named_keeps known d.name (is_some s.name) _ at h
  body_keeps known d (of_method m) at h = named_keeps known d.name (is_some m.name) _ at h
  body_keeps known d (of_extension x) at h = named_keeps known d.name (is_some x.name) _ at h

  walk_keeps : (known : Known) (ds : List Declaration) → AllIn F ds → Q known
      → Q (known_behind known ds)
  walk_keeps known [] all h = h
  walk_keeps known (d ∷ ds) all h =
      walk_keeps (known_after known d) ds all.1 (body_keeps known d d.body all.0 h)

-- all definitions are of the first files
abbrev AreFirst : ℕ → Known → Type 0
AreFirst mark known = (t : List ℕ) → kept_first mark (known t) ≡ known t

declared_first : (mark : ℕ) (known : Known) (name : List ℕ) (d : Definition)
    → d.file < mark → AreFirst mark known → AreFirst mark (declared known name d)
declared_first mark known name d lt h t =
    let low : nat_lt d.file mark ≡ true = grind (arith, lt) in
    let here = ap (λ b. cond b (Some d) None) low in
    at_name known name d (λ o. kept_first mark o ≡ o) t (λ none. here) (h t)

declared_later : (mark : ℕ) (was known : Known) (name : List ℕ) (d : Definition)
    → mark ≤ d.file → KeepsFirst mark was known → KeepsFirst mark was (declared known name d)
declared_later mark was known name d le h t =
    let high : nat_lt d.file mark ≡ false = grind (arith, le) in
    let out = ap (λ b. cond b (Some d) None) high in
    at_name known name d (λ o. kept_first mark o ≡ kept_first mark (was t)) t
    (λ none. out ∙ sym (ap (kept_first mark) none) ∙ h t) (h t)

-- the first files made known what is left where only definitions of theirs are
pub known_cut : (mark : ℕ) (fs : List FileDescriptorProto) (t : List ℕ)
    → kept_first mark (known_of_files fs t) ≡ known_of_files (take mark fs) t
known_cut mark fs t =
    let front = take mark fs in
    let others = further front (drop mark fs) in
    let known = known_of_files front in
    let split : known_of_files fs ≡ known_behind known others =
    ap known_of_files (sym (take-append-drop mark fs)) ∙ known_more front (drop mark fs) in
    let kept = walk_keeps (λ k. mark ≤ k) (KeepsFirst mark known) (declared_later mark known)
    known others (others_not_below mark fs) (λ u. refl) in
    let first = walk_keeps (λ k. k < mark) (AreFirst mark) (declared_first mark)
    nothing_known (all_of front) (first_below mark fs) (λ u. refl) in
    ap (λ (k : Known). kept_first mark (k t)) split ∙ kept t ∙ first t

-- the names of a sort are of the files of their declarations
pub names_in_files : (F : ℕ → Type 0) (s : Sort) (names : List FullName) (ds : List Declaration)
    → AllIn F ds → AllByRecursion (λ (n : FullName). F n.1) names
    → AllByRecursion (λ (n : FullName). F n.1) (with_names s names ds)
names_in_files F s names [] all h = h
names_in_files F s names (d ∷ ds) all h =
    names_in_files F s (with_name s names d) ds all.1 (by (is_of s d.body)) where
      by : (b : Bool) → AllByRecursion (λ (n : FullName). F n.1)
          (cond b (names ++ (d.name, d.file) ∷ []) names)
      by true = all_push (λ (n : FullName). F n.1) names (d.name, d.file) h all.0
      by false = h

names_cut_to : (mark : ℕ) (s : Sort) (fs : List FileDescriptorProto)
    → first_names mark (with_names s [] (all_of fs)) ≡ with_names s [] (all_of (take mark fs))
names_cut_to mark s fs =
    let front = take mark fs in
    let file = λ (n : FullName). n.1 in
    let firsts = with_names s [] (all_of front) in
    let others = with_names s [] (further front (drop mark fs)) in
    let split : with_names s [] (all_of fs) ≡ firsts ++ others =
    ap (λ gs. with_names s [] (all_of gs)) (sym (take-append-drop mark fs))
    ∙ names_more s front (drop mark fs) in
    let low = names_in_files (λ k. k < mark) s [] (all_of front) (first_below mark fs) tt in
    let high = names_in_files (λ k. mark ≤ k) s [] (further front (drop mark fs))
    (others_not_below mark fs) tt in
    ap (first_names mark) split ∙ filter-append (λ e. nat_lt e.1 mark) firsts others
    ∙ ap (λ ns. ns ++ first_names mark others) (filter_below file mark firsts low)
    ∙ ap (λ ns. firsts ++ ns) (filter_from file mark others high) ∙ append-nil firsts

pub recorded_cut : (p : PoolType) (mark : ℕ)
    → ((s : Sort) → names_of (cut_to p mark) s ≡ first_names mark (names_of p s))
    → AreRecorded p → AreRecorded (cut_to p mark)
recorded_cut p mark cut recorded s =
    cut s ∙ ap (first_names mark) (recorded s) ∙ names_cut_to mark s p.records

pub headers_cut : (p : PoolType) (mark : ℕ) → p.files ≡ map record_file p.records
    → (cut_to p mark).files ≡ map record_file (cut_to p mark).records
headers_cut p mark h = ap (take mark) h ∙ take-map record_file mark p.records

-- a pool with the records of further files, whose names were declared behind what it knew
module _ (old new : PoolType) (fs : List FileDescriptorProto) (o : Offsets) (first : ℕ)
    (adds : AddsRecords old fs new) (counted : o ≡ counts_of_files old.records)
    (start : first ≡ length old.records) where
  abbrev before : Offsets
  before = counts_of_files old.records

  abbrev count : ℕ
  count = length old.records

  declared_as : batch_declarations o first fs ≡ further old.records fs
  declared_as =
      ap (λ p. batch_declarations p first fs) counted
      ∙ ap (λ n. batch_declarations before n fs) start

  pub known_added : (were are : Known) → were ≡ known_of_files old.records
      → are ≡ known_behind were (batch_declarations o first fs) → are ≡ known_of_files new.records
  known_added were are was is =
      let known = known_of_files old.records in
      is ∙ ap (λ k. known_behind k (batch_declarations o first fs)) was
      ∙ ap (known_behind known) declared_as
      ∙ sym (known_told known before count adds.more fs adds.names)
      ∙ sym (known_more old.records adds.more) ∙ ap known_of_files (sym adds.records)

  pub recorded_added : AreRecorded old
      → ((s : Sort) → names_of new s ≡ names_of old s
      ++ with_names s [] (batch_declarations o first fs))
      → AreRecorded new
  recorded_added recorded goes s =
      let names = with_names s [] (all_of old.records) in
      goes s ∙ ap (λ ns. ns ++ with_names s [] (batch_declarations o first fs)) (recorded s)
      ∙ ap (λ ds. names ++ with_names s [] ds) declared_as
      ∙ ap (λ ns. names ++ ns) (sym (names_told s [] before count adds.more fs adds.names))
      ∙ sym (names_more s old.records adds.more)
      ∙ ap (λ rs. with_names s [] (all_of rs)) (sym adds.records)
