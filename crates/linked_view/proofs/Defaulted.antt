-- The defaults of accepted files that stand at enums' names are names of the enums' values.
use Rattle.std.proofs.Common.{◌≡◌, ◌∙◌, ◌⊎◌, ◌+◌, ◌-◌, inl, inr, ℕ, zero, suc, Bool, true, false, cond, nat_lt, List, [], ◌∷◌, ◌++◌, Option, Some, None, map, length, slice_get, ap, sym, subst, refl, arith}
use Rattle.std.specs.List.{Contains, flat_map}
use Rattle.std.proofs.lemmas.List.{map-append}
use Rattle.descriptor_records.specs.Content.{Text, EnumContent, EnumValueContent, FileContent, file_view}
use Rattle.descriptor_records.specs.declared.file.FileDescriptorProto.{FileDescriptorProto}
use Rattle.reflect_scope.specs.declared.definition.Definition.{Definition}
use Rattle.reflect_scope.specs.declared.definition.DefinitionKind.TheVariants as kind
use Rattle.reflect_scope.specs.Known.{Known}
use Rattle.reflect_faults.specs.Faults.{batch_places}
use Rattle.reflect_names.specs.ReferencePass.{views_of}
use Rattle.reflect_passes.specs.Linked.{enum_at, HasValue}
use Rattle.reflect_passes.specs.NameFaults.{name_faults}
use Rattle.reflect_passes.specs.declared.linked_types.LinkedTypes.{LinkedTypes}
use Rattle.reflect_tables.specs.Names.{FullName, AreFound, found, place_in, place_of, with_file, enum_name, names_of, enums}
use Rattle.reflect_tables.specs.Types.{PoolType, EnumType, ValueType}
use Rattle.reflect_tables.specs.Views.{enum_of}
use Rattle.reflect_tables.specs.declared.stored.StoredEnum.{StoredEnum}
use Rattle.reflect_tables.specs.declared.tables.Tables.{Tables}
use Rattle.reflect_tables.proofs.Founds.{front}
use Rattle.reflect_declarations.specs.Batches.{batch_declarations}
use Rattle.reflect_build.specs.Accepted.{FaultlessBatch, FaultlessFiles}
use Rattle.reflect_build.specs.Refusals.{Linking, with_declared, IsOf, new_files}
use Rattle.linked_view.specs.Kept.{IsKept}
use Rattle.schema_view.specs.Declarations.{Body, of_enum, declarations}
use Rattle.schema_view.specs.Lawful.{outlines, SuitsEnum}
use Rattle.schema_view.specs.Outlines.{value_name, sort_of, enum_sort, Head, head_of, Outline, outline_of, IsDeclared}
use Rattle.schema_view.specs.References.{linked}
use Rattle.schema_view.proofs.Lists.{contains_here, contains_cases, contains_none, contains_map, contains_map_cases, contains_flat, contains_flat_cases}
use Rattle.schema_view.proofs.Road.{outlines_linked}
use Rattle.linked_view.specs.Alone.{IsWellNamed, AreLawfulAlone}
use Rattle.linked_view.specs.Extended.{IsIndexed}
use Rattle.linked_view.specs.Passed.{facts_of}
use Rattle.schema_view.proofs.Renames.{map_same}
use Rattle.linked_view.specs.Valued.{NamedValues, NumberedValue, called, kept_value, kept_values, numbered_value, values_in, written_values, TellsValues, SuitEnums}
use Rattle.linked_view.proofs.Accepted.{all_met, known, known_all, indexes, names_at, lawful_alone, meanings_alone}
use Rattle.reflect_index.proofs.Behind.{get_behind}
use Rattle.reflect_index.proofs.Among.{get_map, got_map}
use Rattle.linked_view.proofs.Found.{enum_place, found_place}
use Rattle.linked_view.proofs.Linked.{meanings}
use Rattle.linked_view.proofs.Places.{contains_get, get_contains, get_less}
use Rattle.linked_view.proofs.Settling.{all_good, batch_holds}
use Rattle.linked_view.proofs.Suited.{IsValueOf, suits_seen}
use Rattle.linked_view.proofs.Telling.{known_new}
use Rattle.linked_view.proofs.Valued.{values_new}

-- the names of values, by their records and by their entries
called_values : (vs : List EnumValueContent) → called (map numbered_value vs) ≡ map value_name vs
called_values = map_same (λ (v : NumberedValue). v.0) numbered_value value_name (λ v. refl)

called_types : (vs : List ValueType) → called (map kept_value vs)
    ≡ map (λ (v : ValueType). v.name) vs
called_types =
    map_same (λ (v : NumberedValue). v.0) kept_value (λ (v : ValueType). v.name) (λ v. refl)

-- what is declared as an enum with these values
pub record DeclaresValues (n : Text) (b : Body) (w : NamedValues) : Type 0 where
  pub content : EnumContent
  pub body : b ≡ of_enum content
  pub name : n ≡ w.0
  pub values : map numbered_value content.value ≡ w.1

pub enum_declared : (n : Text) (b : Body) (w : NamedValues)
    → Contains (values_in (record { name = n; body = b })) w → DeclaresValues n b w
enum_declared n (of_enum e) w h =
    elim (contains_cases (n, map numbered_value e.value) [] w h) [
      | inl same ↦ record {
        content = e;
        body = refl;
        name = ap (λ (v : NamedValues). v.0) same;
        values = ap (λ (v : NamedValues). v.1) same;
      }
      | inr none ↦ absurd (contains_none w none)
    ]
enum_declared n b w h = absurd (contains_none w h)

-- at a place of two lists, one behind the other
pub at_both : {X : Type 0} (xs ys : List X) (i : ℕ) (x : X)
    → cond (nat_lt i (length xs)) (slice_get xs i) (slice_get ys (i - length xs)) ≡ Some x
    → slice_get (xs ++ ys) i ≡ Some x
at_both {X} xs ys i x e = by (nat_lt i (length xs)) refl where
  at_last : (b : Bool) → nat_lt i (length xs) ≡ b
      → cond b (slice_get xs i) (slice_get ys (i - length xs)) ≡ Some x
  at_last b is = sym (ap (λ c. cond c (slice_get xs i) (slice_get ys (i - length xs))) is) ∙ e

  by : (b : Bool) → nat_lt i (length xs) ≡ b → slice_get (xs ++ ys) i ≡ Some x
  by true is = front xs ys i x (at_last true is)
  by false is =
      let place : length xs + (i - length xs) ≡ i = grind (arith, is) in
      ap (slice_get (xs ++ ys)) (sym place) ∙ get_behind xs ys (i - length xs) x (at_last false is)

pub split_at : {X : Type 0} (xs ys : List X) (i : ℕ) (x : X) → slice_get (xs ++ ys) i ≡ Some x
    → (slice_get xs i ≡ Some x) ⊎ ((k : ℕ) × (i ≡ length xs + k) × (slice_get ys k ≡ Some x))
split_at [] ys i x e = inr (i, omega arith, e)
split_at (y ∷ xs) ys zero x e = inl e
split_at (y ∷ xs) ys (suc i) x e = elim (split_at xs ys i x e) [
  | inl h ↦ inl h
  | inr r ↦ (let place = r.1 in inr (r.0, omega (arith, place), r.2))
]

-- and back
pub both_at : {X : Type 0} (xs ys : List X) (i : ℕ) (x : X) → slice_get (xs ++ ys) i ≡ Some x
    → cond (nat_lt i (length xs)) (slice_get xs i) (slice_get ys (i - length xs)) ≡ Some x
both_at xs ys i x e = elim (split_at xs ys i x e) [
  | inl h ↦ (
      let less = get_less xs i x h in
      let low : nat_lt i (length xs) ≡ true = grind (arith, less) in
      ap (λ b. cond b (slice_get xs i) (slice_get ys (i - length xs))) low ∙ h)
  | inr r ↦ (
      let place = r.1 in
      let high : nat_lt i (length xs) ≡ false = grind (arith, place) in
      let back : i - length xs ≡ r.0 = omega (arith, place) in
      ap (λ b. cond b (slice_get xs i) (slice_get ys (i - length xs))) high
      ∙ ap (slice_get ys) back ∙ r.2)
]

-- an enum's entry that has a value of the name
has_value : (o : Option StoredEnum) (text : Text) → HasValue o text
    → (e : StoredEnum) × (o ≡ Some e) × Contains (map (λ (v : ValueType). v.name) (enum_of e).values) text
has_value None text h = absurd h
has_value (Some e) text (k, v, lt, at, name) = (
  e,
  refl,
  subst (Contains (map (λ (v : ValueType). v.name) (enum_of e).values)) name
      (contains_map (λ (v : ValueType). v.name) (enum_of e).values v (k, lt, at)),
)

written_value : (p : PoolType) → IsIndexed p → TellsValues p → (i : ℕ) (e : EnumType)
    (full : Text) (text : Text) (file : ℕ) → slice_get p.enums i ≡ Some e
    → slice_get (names_of p enums) i ≡ Some (full, file)
    → Contains (map (λ (v : ValueType). v.name) e.values) text
    → IsValueOf (outlines (map file_view p.records)) full text
written_value p index tells i e full text file at named has =
    let fs = map file_view p.records in
    let same : ◌≡◌ {A = FullName} (enum_name e) (full, file) =
    cc (sym (get_map enum_name p.enums i e at) ∙ named) in
    let name : e.full_name ≡ full = ap (λ (n : FullName). n.0) same in
    let there = subst (λ vs. Contains vs (kept_values e)) tells
    (get_contains (map kept_values p.enums) i (kept_values e)
    (get_map kept_values p.enums i e at)) in
    let f = contains_flat_cases (λ f. flat_map values_in (declarations f)) fs (kept_values e) there in
    let d = contains_flat_cases values_in (declarations f.0) (kept_values e) f.2 in
    let v = enum_declared d.0.name d.0.body (kept_values e) d.2 in (
      map value_name v.content.value,
      (
        outline_of f.0,
        head_of d.0,
        contains_map outline_of fs f.0 f.1,
        contains_map head_of (declarations f.0) d.0 d.1,
        v.name ∙ name,
        ap sort_of v.body,
      ),
      subst (λ vs. Contains vs text)
          (sym (sym (called_values v.content.value) ∙ ap called v.values ∙ called_types e.values)) has,
    )

-- and back: an enum that is declared with values has them among what is written
record AreThere (ps : List NamedValues) (full : Text) (values : List Text) : Type 0 where
  numbered : List NumberedValue
  there : Contains ps (full, numbered)
  names : called numbered ≡ values

values_there : (n : Text) (b : Body) (values : List Text) → sort_of b ≡ enum_sort values
    → AreThere (values_in (record { name = n; body = b })) n values
values_there n (of_enum e) values is =
    let same : map value_name e.value ≡ values = cc is in
    record {
      numbered = map numbered_value e.value;
      there = contains_here (n, map numbered_value e.value) [];
      names = called_values e.value ∙ same;
    }
values_there n b values is = absurd (cc is)

values_written : (fs : List FileContent) (full : Text) (values : List Text)
    → IsDeclared (outlines fs) full (enum_sort values) → AreThere (written_values fs) full values
values_written fs full values (o, h, i, j, name, is) =
    let f = contains_map_cases outline_of fs o i in
    let d = contains_map_cases head_of (declarations f.0) h
    (subst (λ (p : Outline). Contains p.heads h) (sym f.2) j) in
    let own : d.0.name ≡ full = ap (λ (x : Head). x.name) d.2 ∙ name in
    let sort : sort_of d.0.body ≡ enum_sort values = ap (λ (x : Head). x.sort) d.2 ∙ is in
    let v = values_there d.0.name d.0.body values sort in
    record {
      numbered = v.numbered;
      there = subst (λ n. Contains (written_values fs) (n, v.numbered)) own
          (contains_flat (λ f. flat_map values_in (declarations f)) fs f.0 (d.0.name, v.numbered) f.1
          (contains_flat values_in (declarations f.0) d.0 (d.0.name, v.numbered) d.1 v.there));
      names = v.names;
    }

-- its entry has them, where entries and names are those of the records
module _ (t : LinkedTypes) (fs : List FileContent) (known : Known) (names : List FullName)
    (stand : AreFound (found enums known) names) where
  abbrev stored : List StoredEnum
  stored = t.old.now.enums.items ++ t.new.now.enums.items

  pub value_told : names ≡ map enum_name (map enum_of stored)
      → map kept_values (map enum_of stored) ≡ written_values fs → (full text : Text)
      (d : Definition) → known full ≡ Some d → IsValueOf (outlines fs) full text
      → (i : ℕ) × (d.kind ≡ kind.Enum i) × HasValue (enum_at t i) text
  value_told named written full text d knows (values, declared, has) =
      let v = values_written fs full values declared in
      let k = contains_get (map kept_values (map enum_of stored)) (full, v.numbered)
      (subst (λ vs. Contains vs (full, v.numbered)) (sym written) v.there) in
      let e = got_map kept_values (map enum_of stored) k.0 (full, v.numbered) k.1 in
      let s = got_map enum_of stored k.0 e.0 e.1 in
      let own : slice_get names k.0 ≡ Some (full, e.0.file) =
      ap (λ ns. slice_get ns k.0) named
      ∙ get_map enum_name (map enum_of stored) k.0 e.0 e.1
      ∙ ap (λ (v : NamedValues). Some (v.0, e.0.file)) e.2 in
      let place = found_place enums (Some d) k.0 e.0.file
      (sym (ap (place_in enums) knows) ∙ (stand full k.0 e.0.file).1 own) in
      let same : d ≡ place.0 = cc place.1 in
      let there : Contains (map (λ (v : ValueType). v.name) (enum_of s.0).values) text =
      subst (λ vs. Contains vs text)
      (sym (ap (λ (x : EnumType). map (λ (v : ValueType). v.name) x.values) s.2
      ∙ sym (called_types e.0.values) ∙ ap (λ (v : NamedValues). called v.1) e.2 ∙ v.names)) has in
      let x = contains_map_cases (λ (v : ValueType). v.name) (enum_of s.0).values text there in (
        k.0,
        ap (λ (x : Definition). x.kind) same ∙ enum_place place.0.kind k.0 place.2,
        subst (λ o. HasValue o text)
            (sym (both_at t.old.now.enums.items t.new.now.enums.items k.0 s.0 s.1))
            (x.1.0, x.0, x.1.1, x.1.2, x.2),
      )

module _ (old new : PoolType) (ns : List FileDescriptorProto) (w : Linking) (is : IsOf old w)
    (has : IsWellNamed old) (names : name_faults w.indexes w.known w.before w.first ns ≡ [])
    (batch : FaultlessBatch (with_declared w ns) ns new) (kept : IsKept new) (index : IsIndexed new)
    (tells : TellsValues old) where
  abbrev given : List FileContent
  given = map file_view old.records

  abbrev more : List FileContent
  more = map file_view ns

  abbrev all_known : Known
  all_known = known old new ns w is has names batch kept

  place_at : (i : ℕ) (e : StoredEnum) → enum_at batch.types i ≡ Some e
      → slice_get new.enums i ≡ Some (enum_of e)
  place_at i e at =
      let olds = batch.types.old.now.enums.items in
      let items = batch.types.new.now.enums.items in
      let here : slice_get (map enum_of (olds ++ items)) i ≡ Some (enum_of e) =
      get_map enum_of (olds ++ items) i e (at_both olds items i e at) in
      let all : new.enums ≡ map enum_of (olds ++ items) =
      batch.added.enums
      ∙ ap (λ (t : Tables). map enum_of t.enums.items ++ map enum_of items) (sym batch.declared.old)
      ∙ sym (map-append enum_of olds items) in
      ap (λ es. slice_get es i) all ∙ here

  value_there : (i : ℕ) (full text : Text) (d : Definition) → all_known full ≡ Some d
      → d.kind ≡ kind.Enum i → HasValue (enum_at batch.types i) text
      → IsValueOf (outlines (given ++ more)) full text
  value_there i full text d knows same h =
      let l = lawful_alone old new ns w is has names batch kept in
      let v = has_value (enum_at batch.types i) text h in
      let named = (index.named.found enums full i d.file).0
      (ap (λ k. found enums k full) (known_new old new ns w is has names batch kept)
      ∙ ap (place_in enums) knows ∙ ap (λ k. with_file d (place_of enums k)) same) in
      subst (λ os. IsValueOf os full text)
      (ap outlines l.stand ∙ outlines_linked given more l.meanings)
      (written_value new index (values_new old new ns w is has names batch kept tells) i (enum_of v.0)
      full text d.file (place_at i v.0 v.1) named v.2)

  pub defaults_suit : SuitEnums given more (lawful_alone old new ns w is has names batch kept).meanings
  defaults_suit =
      let g = facts_of batch.types w.before w.first ns batch.references in
      let views = views_of all_known batch.means.right.sees in
      let ds = batch_declarations w.before w.first ns in
      let at = batch_places ns w.first in
      let met = all_met old new ns w is has names batch kept in
      let all = known_all old new ns w is has names batch kept in
      let named = indexes old new ns w is has names batch kept in
      let good = all_good (old.records ++ ns) all_known all named batch.means.right.sees batch.types g at
      views ds (sym batch.means.right.faults) met in
      subst (SuitEnums given more) (sym (meanings_alone old new ns w is has names batch kept))
      (λ c d i j.
      let f = contains_map_cases file_view ns c i in
      batch_holds (old.records ++ ns) all_known all named batch.means.right.sees batch.types g at
      (SuitsEnum (outlines (given ++ more)))
      (suits_seen (old.records ++ ns) all_known all named batch.means.right.sees batch.types g at
      (outlines (given ++ more)) value_there) w.before w.first ns
      (names_at old new ns w is has names batch kept) good f.0 f.1 d
      (subst (λ x. Contains (declarations (linked (meanings (old.records ++ ns) all_known all named
      batch.means.right.sees x) x)) d) (sym f.2) j))

pub defaults_are : (old new : PoolType) (fs : List FileDescriptorProto) → IsWellNamed old
    → IsIndexed new → IsKept new → TellsValues old → FaultlessFiles old fs new
    → (w : Linking) × IsOf old w
    × (l : AreLawfulAlone (map file_view old.records) (map file_view (new_files w.indexes fs))
    (map file_view new.records))
    × SuitEnums (map file_view old.records) (map file_view (new_files w.indexes fs)) l.meanings
defaults_are old new fs has index kept tells (w, is, (names, batch)) = (
  w,
  is,
  lawful_alone old new (new_files w.indexes fs) w is has names batch kept,
  defaults_suit old new (new_files w.indexes fs) w is has names batch kept index tells,
)
