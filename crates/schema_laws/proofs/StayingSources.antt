-- The files that a schema was made of are those of the sources that stayed.
use Rattle.std.proofs.Common.{◌≡◌, ◌∙◌, ◌++◌, inl, inr, ℕ, List, [], ◌∷◌, Option, None, Some, true, false, not, map, ap, refl, sym, subst}
use Rattle.std.specs.List.{Contains, filter}
use Rattle.std.specs.Prelude.{is_some}
use Rattle.std.proofs.lemmas.List.Elements.{All-contains, All-contains_itself, All-filter, Contains-append_cases, Contains-append_left, Contains-append_right, filter_passes}
use Rattle.descriptor_records.specs.Content.{FileContent, Text, file_view}
use Rattle.descriptor_records.specs.declared.file.FileDescriptorProto.{FileDescriptorProto}
use Rattle.option_parts.specs.TypedOptions.{typed_file}
use Rattle.reflect_build.specs.Refusals.{IsOf, Linking}
use Rattle.reflect_tables.specs.Types.{PoolType}
use Rattle.schema_core.specs.Refusals.{AreFilesOf, IsFileOf}
use Rattle.schema_core.specs.declared.schema.Schema.{Schema}
use Rattle.schema_view.specs.Files.{file_name, text_of}
use Rattle.schema_view.specs.Lawful.{sources}
use Rattle.schema_view.proofs.Lists.{contains_cases, contains_here, contains_map, contains_map_cases, contains_none, contains_there}
use Rattle.types_view.specs.Pools.{IsPool}
use Rattle.types_view.specs.Typed.{IsTyped}
use Rattle.schema_laws.specs.Histories.{AreNewFilesOf, BatchLinked, IsMadeBy, Source, Sources}
use Rattle.schema_laws.specs.SameSources.{Stays, given_in}
use Rattle.schema_laws.proofs.FileNames.{file_named, name_stands}
use Rattle.schema_laws.proofs.Histories.{came_about}
use Rattle.schema_laws.proofs.Lists.{filtered}
use Rattle.schema_laws.proofs.NewFiles.{lacks, new_seen}

-- the file that a source is, as it comes to linking
pub record IsFileFor (s : Source) (c : FileContent) : Type 0 where
  pub file : FileDescriptorProto
  pub answered : IsFileOf s file
  pub is : c ≡ typed_file (file_view file)

-- these files are those of the sources that stay
pub record ComeOf (batches : List Sources) (fs : List FileContent) : Type 0 where
  pub from : (c : FileContent) → Contains fs c → (s : Source) × Stays batches s × IsFileFor s c
  pub to : (s : Source) → Stays batches s → (c : FileContent) × Contains fs c × IsFileFor s c

-- ---- one source

-- its file has its name
named : (s : Source) (c : FileContent) → IsFileFor s c → c.name ≡ Some s.0
named s c for =
    let made = for.answered.3 in
    ap (λ (f : FileContent). f.name) (for.is ∙ ap typed_file made.is) ∙ ap (λ (f : FileContent). f.name) made.bare_is.is

read_one : (given : Sources) (files : List FileDescriptorProto) → AreFilesOf given files → (s : Source) → Contains given s → (f : FileDescriptorProto) × Contains files f × IsFileOf s f
read_one [] files are s i = absurd (contains_none s i)
read_one (g ∷ gs) [] are s i = absurd are
read_one (g ∷ gs) (f ∷ fs) are s i = elim (contains_cases g gs s i) [
  | inl same ↦ (f, contains_here f fs, subst (λ t. IsFileOf t f) same are.0)
  | inr j ↦ (let r = read_one gs fs are.1 s j in (r.0, contains_there f fs r.0 r.1, r.2))
]

given_one : (given : Sources) (files : List FileDescriptorProto) → AreFilesOf given files → (f : FileDescriptorProto) → Contains files f → (s : Source) × Contains given s × IsFileOf s f
given_one given [] are f i = absurd (contains_none f i)
given_one [] (g ∷ gs) are f i = absurd are
given_one (s ∷ ss) (g ∷ gs) are f i = elim (contains_cases g gs f i) [
  | inl same ↦ (s, contains_here s ss, subst (IsFileOf s) same are.0)
  | inr j ↦ (let r = given_one ss gs are.1 f j in (r.0, contains_there s ss r.0 r.1, r.2))
]

-- ---- one batch

module _ (earlier : List Sources) (older : List (List FileContent)) (come : ComeOf earlier (sources older)) (p : PoolType) (typed : IsTyped older p) (pool : IsPool p) (w : Linking) (of : IsOf p w)
    (last : Sources) (files : List FileDescriptorProto) (are : AreFilesOf last files) where
  abbrev written : List FileContent
  written = map typed_file (map file_view files)

  abbrev new : List FileContent
  new = filter (lacks w.indexes) written

  lacked : (s : Source) (c : FileContent) → IsFileFor s c → lacks w.indexes c ≡ not (is_some (w.indexes s.0))
  lacked s c for = ap (λ (o : Option Text). elim o [ None ↦ true | Some n ↦ not (is_some (w.indexes n)) ]) (named s c for)

  -- what is lacked came under no name that was there
  came_new : (s : Source) (c : FileContent) → IsFileFor s c → lacks w.indexes c ≡ true → (t : Source) → Stays earlier t → t.0 ≡ s.0 → ⊥
  came_new s c for lacking t stays same =
      let there = come.to t stays in
      let stands = name_stands older p typed pool w of there.0 there.1 in
      let name : file_name there.0 ≡ s.0 = ap text_of (named t there.0 there.2) ∙ same in
      let known : w.indexes s.0 ≡ Some stands.0 = ap w.indexes (sym name) ∙ stands.1 in
      let no : lacks w.indexes c ≡ false = lacked s c for ∙ ap (λ (o : Option ℕ). not (is_some o)) known in
      absurd (cc (sym lacking ∙ no))

  -- and what came so is lacked
  is_lacked : (s : Source) (c : FileContent) → IsFileFor s c → ((t : Source) → Stays earlier t → t.0 ≡ s.0 → ⊥) → lacks w.indexes c ≡ true
  is_lacked s c for fresh = lacked s c for ∙ by (w.indexes s.0) refl where
    by : (o : Option ℕ) → w.indexes s.0 ≡ o → not (is_some (w.indexes s.0)) ≡ true
    by None e = ap (λ (o : Option ℕ). not (is_some o)) e
    by (Some i) e =
        let f = file_named older p typed pool w of s.0 i e in
        let t = come.from f.0 f.1 in
        let same : t.0.0 ≡ s.0 = sym (ap text_of (named t.0 f.0 t.2)) ∙ f.2 in
        absurd (fresh t.0 t.1 same)

  new_from : (c : FileContent) → Contains new c → (s : Source) × Stays (last ∷ earlier) s × IsFileFor s c
  new_from c i =
      let among : Contains written c = All-contains (Contains written) new c (All-filter (lacks w.indexes) (Contains written) written (All-contains_itself written)) i in
      let lacking : lacks w.indexes c ≡ true = All-contains (λ (f : FileContent). lacks w.indexes f ≡ true) new c (filter_passes (lacks w.indexes) written) i in
      let content = contains_map_cases typed_file (map file_view files) c among in
      let file = contains_map_cases file_view files content.0 content.1 in
      let s = given_one last files are file.0 file.1 in
      let for : IsFileFor s.0 c = record { file = file.0; answered = s.2; is = sym content.2 ∙ ap typed_file (sym file.2) } in
      (s.0, inr (s.1, came_new s.0 c for lacking), for)

  new_to : (s : Source) → Contains last s → ((t : Source) → Stays earlier t → t.0 ≡ s.0 → ⊥) → (c : FileContent) × Contains new c × IsFileFor s c
  new_to s i fresh =
      let f = read_one last files are s i in
      let c = typed_file (file_view f.0) in
      let for : IsFileFor s c = record { file = f.0; answered = f.2; is = refl } in
      let among : Contains written c = contains_map typed_file (map file_view files) (file_view f.0) (contains_map file_view files f.0 f.1) in
      (c, filtered (lacks w.indexes) written c among (is_lacked s c for fresh), for)

  come_more : ComeOf (last ∷ earlier) (new ++ sources older)
  come_more = record {
    from = λ c i. elim (Contains-append_cases new (sources older) c i) [
      | inl j ↦ new_from c j
      | inr j ↦ (let r = come.from c j in (r.0, inl r.1, r.2))
    ];
    to = λ s stays. elim stays [
      | inl before ↦ (let r = come.to s before in (r.0, Contains-append_right new (sources older) r.0 r.1, r.2))
      | inr now ↦ (let r = new_to s now.0 now.1 in (r.0, Contains-append_left new (sources older) r.0 r.1, r.2))
    ];
  }

-- ---- all of a history

none_come : ComeOf [] []
none_come = record { from = λ c i. absurd (contains_none c i); to = λ s stays. absurd stays }

pub come_in : (batches : List (List FileContent)) (s : Schema) (made : IsMadeBy BatchLinked batches s) → ComeOf (given_in batches s made) (sources batches)
come_in [] s made = none_come
come_in (last ∷ earlier) s (old, before, add, pool) = by add.files (come_in earlier old before) where
  by : AreNewFilesOf old.pool add.given last → ComeOf (given_in earlier old before) (sources earlier) → ComeOf (add.given ∷ given_in earlier old before) (last ++ sources earlier)
  by (files, typed, w, are, copied, of, is) come =
      let was = came_about earlier old before in
      let new : filter (lacks w.indexes) (map typed_file (map file_view files)) ≡ last = sym (new_seen w.indexes typed ∙ ap (filter (lacks w.indexes)) copied) ∙ is in
      subst (λ (fs : List FileContent). ComeOf (add.given ∷ given_in earlier old before) (fs ++ sources earlier)) new
      (come_more (given_in earlier old before) earlier come old.pool was.typed was.is w of add.given files are)
