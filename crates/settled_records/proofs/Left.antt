-- Where the options of files are settled, nothing is left to settle in them.
use Rattle.std.proofs.Common.{◌≡◌, ◌⊎◌, ◌<◌, ◌≤◌, ◌-◌, ◌+◌, ◌==◌, ℕ, zero, suc, ℤ, Bool, true, false, ltb, List, [], ◌∷◌, ◌++◌, map, length, take, fold, Option, Some, None, MatchOption, slice_get, ap, ◌∙◌, refl, sym, subst, arith, inl, inr}
use Rattle.std.specs.List.{AllByRecursion}
use Rattle.std.proofs.lemmas.Bool.{ltb-false, ltb-true}
use Rattle.std.proofs.lemmas.Bool.Decides.{eqb_tells}
use Rattle.std.proofs.lemmas.Option.{slice_get_within}
use Rattle.descriptor_records.specs.Content.{FileContent, OptionsContent, file_view, option_view, options_view}
use Rattle.descriptor_records.specs.declared.file.FileDescriptorProto.{FileDescriptorProto}
use Rattle.descriptor_records.specs.declared.options.Options.{Options}
use Rattle.descriptor_records.specs.declared.source_info.Location.{Location}
use Rattle.option_parts.specs.Moves.{EditsLocation, EditsLocations}
use Rattle.option_parts.specs.declared.option_scope.OptionScope.{OptionScope}
use Rattle.option_setter.specs.declared.option_setter.NameScope.{NameScope}
use Rattle.reflect_growth.specs.Put.{edited, file_put, path_put, with_at}
use Rattle.reflect_growth.specs.declared.settle.Edit.{Edit}
use Rattle.reflect_growth.specs.declared.settle.Edit.TheVariants as edits
use Rattle.reflect_faults.specs.Spans.{locations}
use Rattle.reflect_options.specs.Entities.{Entity, file_entities}
use Rattle.reflect_options.specs.Settled.{Settles}
use Rattle.reflect_options.specs.Settling.{IsScopeOf, Move, SettlesAll, SettlesEntity, SettlesFile, SettlesFiles, SettlesIn, SettlesPool, target_in}
use Rattle.reflect_tables.specs.Types.{PoolType}
use Rattle.protobuf_model.proofs.Arranged.{all_append}
use Rattle.message_view.specs.Sound.{IsSound}
use Rattle.plain_records.specs.PlainRecords.{ArePlainFiles, IsPlainFile}
use Rattle.plain_records.specs.SaidOptions.{IsSettled, SaysAndIsSettled, SaysOrWaits}
use Rattle.settled_records.proofs.AllOptions.{InFile, Keeps, Said, file_keeps}
use Rattle.settled_records.proofs.OfEntities.{Meets, file_in}
use Rattle.settled_records.proofs.PlainOptions.{file_of, file_to, said, settled}
use Rattle.settled_records.proofs.PutOptions.{Puts, file_puts, path_keeps}
use Rattle.settled_records.proofs.Settled.{pool_plain}

-- ---- edits to come
abbrev IsPutAt : ℕ → List ℤ → Edit → Type 0
IsPutAt file path (edits.Options in_file at options) = (in_file ≡ file) × (at.items ≡ path)
IsPutAt file path (edits.Location in_file place at) = ⊥

-- one of them puts options at the path of the file
abbrev IsToCome : List Edit → ℕ → List ℤ → Type 0
IsToCome [] file path = ⊥
IsToCome (e ∷ es) file path = IsPutAt file path e ⊎ IsToCome es file path

-- options are settled, or one of the edits replaces them
abbrev Waits : List Edit → ℕ → Said
Waits es file scope path o = IsSettled o ⊎ IsToCome es file path

-- what an edit puts is settled
abbrev PutsSettled : Edit → Type 0
PutsSettled (edits.Options file path options) = IsSettled (options_view options)
PutsSettled (edits.Location file place path) = Unit {0}

-- among more edits
in_front : (es more : List Edit) (file : ℕ) (path : List ℤ) → IsToCome es file path → IsToCome (es ++ more) file path
in_front [] more file path h = absurd h
in_front (e ∷ es) more file path h = elim h [ inl here ↦ inl here | inr there ↦ inr (in_front es more file path there) ]

in_back : (more es : List Edit) (file : ℕ) (path : List ℤ) → IsToCome es file path → IsToCome (more ++ es) file path
in_back [] es file path h = h
in_back (e ∷ more) es file path h = inr (in_back more es file path h)

waits_front : (es more : List Edit) (file : ℕ) → Keeps (Waits es file) (Waits (es ++ more) file)
waits_front es more file scope path o was = elim was [ inl done ↦ inl done | inr h ↦ inr (in_front es more file path h) ]

waits_back : (more es : List Edit) (file : ℕ) → Keeps (Waits es file) (Waits (more ++ es) file)
waits_back more es file scope path o was = elim was [ inl done ↦ inl done | inr h ↦ inr (in_back more es file path h) ]

-- ---- files, the first of which has this place
abbrev FilesWait : List Edit → ℕ → List FileContent → Type 0
FilesWait es k [] = Unit {0}
FilesWait es k (f ∷ fs) = InFile (Waits es k) f × FilesWait es (k + 1) fs

files_keep : (es rest : List Edit) (k : ℕ) → ((j : ℕ) → k ≤ j → Keeps (Waits es j) (Waits rest j)) → (fs : List FileContent) → FilesWait es k fs → FilesWait rest k fs
files_keep es rest k to [] wait = tt
files_keep es rest k to (f ∷ fs) wait = (file_keeps (Waits es k) (Waits rest k) (to k (omega arith)) f wait.0, files_keep es rest (k + 1) (λ j far. to j (omega arith)) fs wait.1)

-- a file in another form
file_changes : (es : List Edit) (change : FileContent → FileContent) → ((Q : Said) (f : FileContent) → InFile Q f → InFile Q (change f)) → (j k : ℕ) (fs : List FileContent)
    → FilesWait es k fs → FilesWait es k (with_at j change fs)
file_changes es change keeps j k [] wait = tt
file_changes es change keeps zero k (f ∷ fs) wait = (keeps (Waits es k) f wait.0, wait.1)
file_changes es change keeps (suc j) k (f ∷ fs) wait = (wait.0, file_changes es change keeps j (k + 1) fs wait.1)

-- an edit puts options into the file at a place
module _ (e : Edit) (es : List Edit) (file : ℕ) (at : List ℤ) (new : OptionsContent) (is_settled : IsSettled new)
    (only : (k : ℕ) (path : List ℤ) → IsPutAt k path e → (file ≡ k) × (at ≡ path)) where
  puts_here : Puts new (Waits (e ∷ es) file) (Waits es file) at
  puts_here = record {
    fresh = λ scope. inl is_settled;
    others = λ scope path o was. elim was [
      | inl done ↦ inr (inl done)
      | inr h ↦ elim h [ inl here ↦ inl (sym (only file path here).1) | inr there ↦ inr (inr there) ]
    ];
  }

  elsewhere : (k : ℕ) → (file ≡ k → ⊥) → Keeps (Waits (e ∷ es) k) (Waits es k)
  elsewhere k other scope path o was = elim was [
    | inl done ↦ inl done
    | inr h ↦ elim h [ inl here ↦ absurd (other (only k path here).0) | inr there ↦ inr there ]
  ]

  put_in_file : (j k : ℕ) → k + j ≡ file → (fs : List FileContent) → FilesWait (e ∷ es) k fs → FilesWait es k (with_at j (file_put at new) fs)
  put_in_file j k is [] wait = tt
  put_in_file zero k is (f ∷ fs) wait =
      let here : file ≡ k = omega arith in (
        file_puts new at (Waits (e ∷ es) k) (Waits es k) (subst (λ n. Puts new (Waits (e ∷ es) n) (Waits es n) at) here puts_here) f wait.0,
        files_keep (e ∷ es) es (k + 1) (λ i far. elsewhere i (λ same. omega arith)) fs wait.1,
      )
  put_in_file (suc j) k is (f ∷ fs) wait =
      (file_keeps (Waits (e ∷ es) k) (Waits es k) (elsewhere k (λ same. omega arith)) f wait.0, put_in_file j (k + 1) (omega arith) fs wait.1)

one_edit : (e : Edit) (es : List Edit) (fs : List FileContent) → PutsSettled e → FilesWait (e ∷ es) 0 fs → FilesWait es 0 (edited fs e)
one_edit (edits.Options file path options) es fs done wait =
    put_in_file (edits.Options file path options) es file path.items (options_view options) done (λ k at is. is) file 0 (omega arith) fs wait
one_edit (edits.Location file place path) es fs done wait =
    file_changes es (path_put place path.items) (λ Q f all. path_keeps Q place path.items f all) file 0 fs
    (files_keep (edits.Location file place path ∷ es) es 0 (λ j far scope at o was. elim was [ inl is ↦ inl is | inr h ↦ elim h [ inl here ↦ absurd here | inr there ↦ inr there ] ]) fs wait)

all_edits : (es : List Edit) (fs : List FileContent) → AllByRecursion PutsSettled es → FilesWait es 0 fs → FilesWait [] 0 (fold edited fs es)
all_edits [] fs done wait = wait
all_edits (e ∷ es) fs done wait = all_edits es (edited fs e) done.1 (one_edit e es fs done.0 wait)

-- where none is to come all options are settled
files_done : (k : ℕ) (fs : List FileContent) → ArePlainFiles SaysOrWaits fs → FilesWait [] k fs → ArePlainFiles SaysAndIsSettled fs
files_done k [] plain wait = tt
files_done k (f ∷ fs) plain wait =
    (file_to 99 f plain.0 (file_keeps (Waits [] k) settled (λ scope path o was. elim was [ inl is ↦ is | inr h ↦ absurd h ]) f wait.0), files_done (k + 1) fs plain.1 wait.1)

-- ---- entities
settles_to : (scope : OptionScope) (s : NameScope) (o : Options) (new : OptionsContent) (paths : List (List ℤ)) → Settles scope s o new paths → IsSettled new
settles_to scope s o new paths (allowed, (d, finds, whole, set, record_of)) = ap (λ c. c.uninterpreted_option) record_of.0

module _ (pool : PoolType) where
  entity_waits : (c : Entity) (es : List Edit) (ms : List Move) → SettlesEntity pool c es ms → Meets (Waits es) c × AllByRecursion PutsSettled es
  entity_waits c es ms settles = by c.options refl settles
    where
      by : (x : Option Options) → c.options ≡ x → MatchOption x ((es ≡ []) × (ms ≡ [])) (λ o. (s : NameScope) × IsScopeOf pool c s × SettlesIn c s o es ms)
          → Meets (Waits es) c × AllByRecursion PutsSettled es
      by None is (none, still) = ((λ r e. absurd (cc (is, e))), subst (AllByRecursion PutsSettled) (sym none) tt)
      by (Some o) is (s, scope, inl (settled, paths, at, settles, placed, one, moves)) = (
        (λ r e. inr (subst (λ es. IsToCome es c.file c.path) (sym one) (inl (refl, placed)))),
        subst (AllByRecursion PutsSettled) (sym one) (settles_to c.scope s o (options_view settled) paths settles, tt),
      )
      by (Some o) is (s, scope, inr (stay, none, still)) = (
        (λ r e. let same : o ≡ r = cc (is, e) in inl (subst (λ x. IsSettled (options_view x)) same (ap (map option_view) stay.1))),
        subst (AllByRecursion PutsSettled) (sym none) tt,
      )

  meets_keep : (es more : List Edit) → ((file : ℕ) → Keeps (Waits es file) (Waits more file)) → (cs : List Entity) → AllByRecursion (Meets (Waits es)) cs → AllByRecursion (Meets (Waits more)) cs
  meets_keep es more to [] all = tt
  meets_keep es more to (c ∷ cs) all = ((λ r e. to c.file c.scope c.path (options_view r) (all.0 r e)), meets_keep es more to cs all.1)

  entities_wait : (cs : List Entity) (es : List Edit) (ms : List Move) → SettlesAll pool cs es ms → AllByRecursion (Meets (Waits es)) cs × AllByRecursion PutsSettled es
  entities_wait [] es ms (none, still) = (tt, subst (AllByRecursion PutsSettled) (sym none) tt)
  entities_wait (c ∷ cs) es ms (own, rest, moved, more, settles, others, is, are) =
      let one = entity_waits c own moved settles in
      let all = entities_wait cs rest more others in (
        subst (λ es. AllByRecursion (Meets (Waits es)) (c ∷ cs)) (sym is)
            ((λ r e. waits_front own rest c.file c.scope c.path (options_view r) (one.0 r e)), meets_keep rest (own ++ rest) (waits_back own rest) cs all.0),
        subst (AllByRecursion PutsSettled) (sym is) (all_append PutsSettled own rest one.1 all.1),
      )

  -- edits of locations put no options
  locations_settled : (ms : List Move) (file place : ℕ) (ls : List Location) (es : List Edit) → EditsLocations (target_in ms) file place ls es → AllByRecursion PutsSettled es
  locations_settled ms file place [] es none = subst (AllByRecursion PutsSettled) (sym none) tt
  locations_settled ms file place (l ∷ ls) es (moved, own, rest, to, edit, others, is) =
      subst (AllByRecursion PutsSettled) (sym is) (all_append PutsSettled own rest (by moved edit) (locations_settled ms file (place + 1) ls rest others))
    where
      by : (moved : Option (List ℤ)) → EditsLocation file place moved own → AllByRecursion PutsSettled own
      by None none = subst (AllByRecursion PutsSettled) (sym none) tt
      by (Some moved) (path, items, is) = subst (AllByRecursion PutsSettled) (sym is) (tt, tt)

  -- ---- files
  file_waits : (file : ℕ) (f : FileDescriptorProto) (es : List Edit) → SettlesFile pool file f es → InFile (Waits es file) (file_view f)
  file_waits file f es (options, moved, ms, settles, locates, is) =
      let all = entities_wait (file_entities file f) options ms settles in
      subst (λ es. InFile (Waits es file) (file_view f)) (sym is)
      (file_keeps (Waits options file) (Waits (options ++ moved) file) (waits_front options moved file) (file_view f) (file_in (Waits options) file f all.0))

  file_settled : (file : ℕ) (f : FileDescriptorProto) (es : List Edit) → SettlesFile pool file f es → AllByRecursion PutsSettled es
  file_settled file f es (options, moved, ms, settles, locates, is) =
      subst (AllByRecursion PutsSettled) (sym is)
      (all_append PutsSettled options moved (entities_wait (file_entities file f) options ms settles).1 (locations_settled ms file 0 (locations f) moved locates))

  files_settled : (first n : ℕ) (es : List Edit) → SettlesFiles pool first n es → AllByRecursion PutsSettled es
  files_settled first zero es none = subst (AllByRecursion PutsSettled) (sym none) tt
  files_settled first (suc n) es (front, own, f, before, there, settles, is) =
      subst (AllByRecursion PutsSettled) (sym is) (all_append PutsSettled front own (files_settled first n front before) (file_settled (first + n) f own settles))

  files_wait : (first n : ℕ) (es : List Edit) → SettlesFiles pool first n es → (k : ℕ) → first ≤ k → k < first + n → (f : FileDescriptorProto) → slice_get pool.records k ≡ Some f
      → InFile (Waits es k) (file_view f)
  files_wait first zero es settles k from to f there = absurd (omega arith)
  files_wait first (suc n) es (front, own, g, before, last, settles, is) k from to f there =
      subst (λ es. InFile (Waits es k) (file_view f)) (sym is) (by (eqb_tells k (first + n)) (λ less. files_wait first n front before k from less f there))
    where
      by : (((k == (first + n)) ≡ true) × (k ≡ first + n)) ⊎ (((k == (first + n)) ≡ false) × (k ≡ first + n → ⊥)) → (k < first + n → InFile (Waits front k) (file_view f))
          → InFile (Waits (front ++ own) k) (file_view f)
      by (inl same) others =
          let place = same.1 in
          let one : g ≡ f = cc (sym last ∙ sym (ap (slice_get pool.records) place) ∙ there) in
          let here = file_waits (first + n) g own settles in
          file_keeps (Waits own k) (Waits (front ++ own) k) (waits_back front own k) (file_view f)
          (subst (λ x. InFile (Waits own k) (file_view x)) one (subst (λ i. InFile (Waits own i) (file_view g)) (sym place) here))
      by (inr other) others = file_keeps (Waits front k) (Waits (front ++ own) k) (waits_front front own k) (file_view f) (others (let apart = other.1 in omega arith))

-- what holds of the first holds of one of them
one_of_first : (P : FileContent → Type 0) (first k : ℕ) (fs : List FileDescriptorProto) (f : FileDescriptorProto) → AllByRecursion P (take first (map file_view fs)) → k < first
    → slice_get fs k ≡ Some f → P (file_view f)
one_of_first P zero k fs f all less there = absurd (omega arith)
one_of_first P (suc first) k [] f all less there = absurd (cc there)
one_of_first P (suc first) zero (x ∷ xs) f all less there = let same : x ≡ f = cc there in subst (λ y. P (file_view y)) same all.0
one_of_first P (suc first) (suc k) (x ∷ xs) f all less there = one_of_first P first k xs f all.1 (omega arith) there

-- each of the files
each_waits : (es : List Edit) (k : ℕ) (fs : List FileDescriptorProto) → ((j : ℕ) (f : FileDescriptorProto) → slice_get fs j ≡ Some f → InFile (Waits es (k + j)) (file_view f))
    → FilesWait es k (map file_view fs)
each_waits es k [] each = tt
each_waits es k (f ∷ fs) each =
    let here : k + 0 ≡ k = omega arith in (
      subst (λ n. InFile (Waits es n) (file_view f)) here (each 0 f refl),
      each_waits es (k + 1) fs (λ j g there. let next : k + suc j ≡ k + 1 + j = omega arith in subst (λ n. InFile (Waits es n) (file_view g)) next (each (suc j) g there)),
    )

-- nothing is left to settle where the files before an index were settled, and those from it on are
pub pool_done : (pool new : PoolType) (first : ℕ) → IsSound pool → length pool.records ≤ length pool.files → ArePlainFiles SaysOrWaits (map file_view pool.records)
    → ArePlainFiles SaysAndIsSettled (take first (map file_view pool.records)) → SettlesPool pool first new → ArePlainFiles SaysAndIsSettled (map file_view new.records)
pool_done pool new first sound many plain before settles =
    let es = settles.edits in
    let each : (k : ℕ) (f : FileDescriptorProto) → slice_get pool.records k ≡ Some f → InFile (Waits es k) (file_view f) = λ k f there. by k f there (ltb k first) refl in
    let wait : FilesWait es 0 (map file_view pool.records) = each_waits es 0 pool.records
    (λ j f there. let same : j ≡ 0 + j = omega arith in subst (λ n. InFile (Waits es n) (file_view f)) same (each j f there)) in
    let done : FilesWait [] 0 (map file_view new.records) = subst (FilesWait [] 0) (sym settles.put)
    (all_edits es (map file_view pool.records) (files_settled pool first (length pool.files - first) es settles.settled) wait) in
    files_done 0 (map file_view new.records) (pool_plain pool new first sound plain settles) done
  where
    by : (k : ℕ) (f : FileDescriptorProto) → slice_get pool.records k ≡ Some f → (b : Bool) → ltb k first ≡ b → InFile (Waits settles.edits k) (file_view f)
    by k f there true e =
        file_keeps (said SaysAndIsSettled) (Waits settles.edits k) (λ scope path o is. inl is.1) (file_view f)
        (file_of SaysAndIsSettled 99 (file_view f) (one_of_first (IsPlainFile SaysAndIsSettled 99) first k pool.records f before (ltb-true k first e) there))
    by k f there false e =
        let from = ltb-false k first e in
        let inside = slice_get_within pool.records k f there in
        files_wait pool first (length pool.files - first) settles.edits settles.settled k (omega arith) (omega arith) f there
