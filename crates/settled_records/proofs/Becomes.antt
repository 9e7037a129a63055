-- What becomes of the entities of a file by the edits that settle it: each edit is at the path of one
-- of them, and leaves the others.
use Rattle.std.proofs.Common.{◌≡◌, ◌∙◌, ◌⊎◌, ◌≤◌, ◌<◌, ◌++◌, ℕ, zero, suc, ℤ, List, [], ◌∷◌, map, length, Option, Some, None, MatchOption, slice_get, inl, inr, ap, refl, sym, subst}
use Rattle.std.specs.List.{AllByRecursion, AllZip}
use Rattle.std.specs.Option.{option_map}
use Rattle.descriptor_records.specs.Content.{FileContent, OptionsContent, file_view, options_view}
use Rattle.descriptor_records.specs.declared.file.FileDescriptorProto.{FileDescriptorProto}
use Rattle.descriptor_records.specs.declared.options.Options.{Options}
use Rattle.option_setter.specs.declared.option_setter.NameScope.{NameScope}
use Rattle.protobuf_model.proofs.Arranged.{all_append}
use Rattle.reflect_growth.specs.declared.settle.Edit.{Edit}
use Rattle.reflect_growth.specs.declared.settle.Edit.TheVariants as edits
use Rattle.reflect_faults.specs.Spans.{locations}
use Rattle.reflect_options.specs.Entities.{Entity, file_entities}
use Rattle.reflect_options.specs.Settled.{Settles, StayAsTheyAre}
use Rattle.reflect_options.specs.Settling.{IsScopeOf, Move, SettlesAll, SettlesEntity, SettlesFile, SettlesIn, SettlesPool}
use Rattle.reflect_tables.specs.Types.{PoolType}
use Rattle.settled_records.proofs.Changes.{change_of, changed}
use Rattle.settled_records.proofs.Edits.{locations_edits}
use Rattle.settled_records.proofs.OwnPaths.{Apart, OnOwnPaths, entities_apart}
use Rattle.settled_records.proofs.Pools.{in_pool}
use Rattle.settled_records.proofs.PutFiles.{file_put_told}
use Rattle.settled_records.proofs.PutTold.{IsPut}
use Rattle.settled_records.proofs.Told.{Told, file_tells, told}
use Rattle.settled_records.proofs.Walk.{file_told}
use Rattle.settled_records.specs.Becoming.{Becomes, OptionsBecome}

-- ---- one entity, before and behind edits
abbrev Step : Edit → Told → Told → Type 0
Step (edits.Options file at options) t u = IsPut (options_view options) at.items t u
Step (edits.Location file place at) t u = u ≡ t

abbrev After : List Edit → Told → Told → Type 0
After [] t u = u ≡ t
After (e ∷ es) t u = (w : Told) × Step e t w × After es w u

-- an edit that puts no options at a path
abbrev IsElse : List ℤ → Edit → Type 0
IsElse path (edits.Options file at options) = at.items ≡ path → ⊥
IsElse path (edits.Location file place at) = Unit {0}

-- such edits leave what stands at the path
stays : (es : List Edit) (t u : Told) → AllByRecursion (IsElse t.path) es → After es t u → u ≡ t
stays [] t u far after = after
stays (edits.Options file at options ∷ es) t u far (w, step, after) =
    let same : w ≡ t = step.1 (λ e. far.0 (sym e)) in
    stays es w u (subst (λ (x : Told). AllByRecursion (IsElse x.path) es) (sym same) far.1) after ∙ same
stays (edits.Location file place at ∷ es) t u far (w, step, after) = stays es w u (subst (λ (x : Told). AllByRecursion (IsElse x.path) es) (sym step) far.1) after ∙ step

-- between edits and others
between : (first then : List Edit) (t u : Told) → After (first ++ then) t u → (w : Told) × After first t w × After then w u
between [] then t u after = (t, refl, after)
between (e ∷ first) then t u (w, step, after) = let r = between first then w u after in (r.0, (w, step, r.1), r.2)

-- ---- all that the content of a file tells of
same_zip : (ts : List Told) → AllZip (λ (t u : Told). u ≡ t) ts ts
same_zip [] = tt
same_zip (t ∷ ts) = (refl, same_zip ts)

zip_through : {A : Type 0} (R S T : A → A → Type 0) → ((x y z : A) → R x y → S y z → T x z) → (xs ys zs : List A) → AllZip R xs ys → AllZip S ys zs → AllZip T xs zs
zip_through R S T both [] [] [] a b = tt
zip_through R S T both [] [] (z ∷ zs) a b = absurd b
zip_through R S T both [] (y ∷ ys) zs a b = absurd a
zip_through R S T both (x ∷ xs) [] zs a b = absurd a
zip_through R S T both (x ∷ xs) (y ∷ ys) [] a b = absurd b
zip_through R S T both (x ∷ xs) (y ∷ ys) (z ∷ zs) a b = (both x y z a.0 b.0, zip_through R S T both xs ys zs a.1 b.1)

step_told : (e : Edit) (y : FileContent) → AllZip (Step e) (file_tells y) (file_tells (change_of e y))
step_told (edits.Options file at options) y = file_put_told (options_view options) at.items y
step_told (edits.Location file place at) y = same_zip (file_tells y)

after_told : (es : List Edit) (y : FileContent) → AllZip (After es) (file_tells y) (file_tells (changed y (map change_of es)))
after_told [] y = same_zip (file_tells y)
after_told (e ∷ es) y =
    zip_through (Step e) (After es) (After (e ∷ es)) (λ t w u step after. (w, step, after)) (file_tells y) (file_tells (change_of e y)) (file_tells (changed (change_of e y) (map change_of es)))
    (step_told e y) (after_told es (change_of e y))

-- edits of locations leave all
past_moved : (options moved : List Edit) → ((path : List ℤ) → AllByRecursion (IsElse path) moved) → (ts us : List Told) → AllZip (After (options ++ moved)) ts us → AllZip (After options) ts us
past_moved options moved far [] [] all = tt
past_moved options moved far [] (u ∷ us) all = absurd all
past_moved options moved far (t ∷ ts) [] all = absurd all
past_moved options moved far (t ∷ ts) (u ∷ us) all =
    let r = between options moved t u all.0 in
    (subst (After options t) (sym (stays moved r.0 u (far r.0.path) r.2)) r.1, past_moved options moved far ts us all.1)

module _ (pool : PoolType) where
  abbrev By : Entity → List Edit → List Move → Option Options → Type 0
  By c es ms x = MatchOption x ((es ≡ []) × (ms ≡ [])) (λ o. (s : NameScope) × IsScopeOf pool c s × SettlesIn c s o es ms)

  -- ---- what settles entities is at their paths
  own_elsewhere : (c : Entity) (es : List Edit) (ms : List Move) → SettlesEntity pool c es ms → (path : List ℤ) → (path ≡ c.path → ⊥) → AllByRecursion (IsElse path) es
  own_elsewhere c es ms settles path apart = by c.options settles where
    by : (x : Option Options) → By c es ms x → AllByRecursion (IsElse path) es
    by None (none, still) = subst (AllByRecursion (IsElse path)) (sym none) tt
    by (Some o) (s, scope, inl (settled, paths, at, settles, placed, one, moves)) = subst (AllByRecursion (IsElse path)) (sym one) ((λ e. apart (sym e ∙ placed)), tt)
    by (Some o) (s, scope, inr (stay, none, still)) = subst (AllByRecursion (IsElse path)) (sym none) tt

  all_elsewhere : (cs : List Entity) (es : List Edit) (ms : List Move) → SettlesAll pool cs es ms → (path : List ℤ) → AllByRecursion (λ (t : Told). path ≡ t.path → ⊥) (map told cs)
      → AllByRecursion (IsElse path) es
  all_elsewhere [] es ms (none, still) path apart = subst (AllByRecursion (IsElse path)) (sym none) tt
  all_elsewhere (c ∷ cs) es ms (own, rest, moved, more, settles, others, is, are) path apart =
      subst (AllByRecursion (IsElse path)) (sym is) (all_append (IsElse path) own rest (own_elsewhere c own moved settles path apart.0) (all_elsewhere cs rest more others path apart.1))

  past_own : (c : Entity) (own : List Edit) (moved : List Move) → SettlesEntity pool c own moved → (rest : List Edit) (ts us : List Told) → AllByRecursion (Apart (told c)) ts
      → AllZip (After (own ++ rest)) ts us → AllZip (After rest) ts us
  past_own c own moved settles rest [] [] apart all = tt
  past_own c own moved settles rest [] (u ∷ us) apart all = absurd all
  past_own c own moved settles rest (t ∷ ts) [] apart all = absurd all
  past_own c own moved settles rest (t ∷ ts) (u ∷ us) apart all =
      let r = between own rest t u all.0 in
      let same : r.0 ≡ t = stays own t r.0 (own_elsewhere c own moved settles t.path (λ e. apart.0 (sym e))) r.1 in
      (subst (λ (x : Told). After rest x u) same r.2, past_own c own moved settles rest ts us apart.1 all.1)

  -- ---- what an entity comes to
  abbrev Come : Entity → Option Options → Option OptionsContent → Type 0
  Come c None v = v ≡ None
  Come c (Some o) None = ⊥
  Come c (Some o) (Some v) = (s : NameScope) × IsScopeOf pool c s × (((paths : List (List ℤ)) × Settles c.scope s o v paths) ⊎ (StayAsTheyAre c.scope s o × (v ≡ options_view o)))

  record Comes (c : Entity) (w : Told) : Type 0 where
    scope : c.scope ≡ w.scope
    path : c.path ≡ w.path
    number : c.number ≡ w.number
    name : c.name ≡ w.name
    options : Come c c.options w.options

  entity_comes : (c : Entity) (es : List Edit) (ms : List Move) (w : Told) → SettlesEntity pool c es ms → After es (told c) w → Comes c w
  entity_comes c es ms w settles after = by c.options refl settles where
    -- it is the entity with these options
    with_options : (x : Option OptionsContent) → w ≡ record (told c) { options = x } → Come c c.options x → Comes c w
    with_options x is come = record {
      scope = sym (ap (λ (t : Told). t.scope) is);
      path = sym (ap (λ (t : Told). t.path) is);
      number = sym (ap (λ (t : Told). t.number) is);
      name = sym (ap (λ (t : Told). t.name) is);
      options = subst (Come c c.options) (sym (ap (λ (t : Told). t.options) is)) come;
    }

    by : (x : Option Options) → c.options ≡ x → By c es ms x → Comes c w
    by None is (none, still) =
        let same : w ≡ told c = subst (λ (xs : List Edit). After xs (told c) w) none after in
        with_options (option_map options_view c.options) same (subst (λ (x : Option Options). Come c x (option_map options_view x)) (sym is) refl)
    by (Some o) is (s, scope, inl (settled, paths, at, put, placed, one, moves)) =
        let last : After (edits.Options c.file at settled ∷ []) (told c) w = subst (λ (xs : List Edit). After xs (told c) w) one after in
        with_options (Some (options_view settled)) (last.2 ∙ last.1.0 (sym placed)) (subst (λ (x : Option Options). Come c x (Some (options_view settled))) (sym is) (s, scope, inl (paths, put)))
    by (Some o) is (s, scope, inr (stay, none, still)) =
        let same : w ≡ told c = subst (λ (xs : List Edit). After xs (told c) w) none after in
        with_options (option_map options_view c.options) same (subst (λ (x : Option Options). Come c x (option_map options_view x)) (sym is) (s, scope, inr (stay, refl)))

  all_come : (cs : List Entity) (es : List Edit) (ms : List Move) (us : List Told) → SettlesAll pool cs es ms → OnOwnPaths (map told cs) → AllZip (After es) (map told cs) us → AllZip Comes cs us
  all_come [] es ms [] settles paths all = tt
  all_come [] es ms (u ∷ us) settles paths all = absurd all
  all_come (c ∷ cs) es ms [] settles paths all = absurd all
  all_come (c ∷ cs) es ms (u ∷ us) (own, rest, moved, more, settles, others, is, are) paths all =
      let each : AllZip (After (own ++ rest)) (told c ∷ map told cs) (u ∷ us) = subst (λ (xs : List Edit). AllZip (After xs) (told c ∷ map told cs) (u ∷ us)) is all in
      let r = between own rest (told c) u each.0 in
      let here : Comes c r.0 = entity_comes c own moved r.0 settles r.1 in
      let far : AllByRecursion (IsElse c.path) rest = all_elsewhere cs rest more others c.path paths.0 in
      let same : u ≡ r.0 = stays rest r.0 u (subst (λ (p : List ℤ). AllByRecursion (IsElse p) rest) here.path far) r.2 in
      (subst (Comes c) (sym same) here, all_come cs rest more us others paths.1 (past_own c own moved settles rest (map told cs) us paths.0 each.1))

  become : (cs ds : List Entity) → AllZip Comes cs (map told ds) → AllZip (Becomes pool) cs ds
  become [] [] all = tt
  become [] (d ∷ ds) all = absurd all
  become (c ∷ cs) [] all = absurd all
  become (c ∷ cs) (d ∷ ds) all =
      let here = all.0 in
      (record { scope = here.scope; path = here.path; number = here.number; name = here.name; options = by c.options d.options here.options }, become cs ds all.1)
    where
      by : (x y : Option Options) → Come c x (option_map options_view y) → OptionsBecome pool c x y
      by None None come = refl
      by None (Some y) come = absurd (cc come)
      by (Some o) None come = absurd come
      by (Some o) (Some x) come = come

  -- ---- files
  file_comes : (i : ℕ) (f g : FileDescriptorProto) (es : List Edit) → SettlesFile pool i f es → file_view g ≡ changed (file_view f) (map change_of es) → AllZip (Becomes pool) (file_entities i f) (file_entities i g)
  file_comes i f g es (options, moved, ms, settles, locates, is) view =
      let told_after : AllZip (After es) (map told (file_entities i f)) (map told (file_entities i g)) =
      subst (λ (ts : List Told). AllZip (After es) ts (map told (file_entities i g))) (sym (file_told i f))
      (subst (λ (us : List Told). AllZip (After es) (file_tells (file_view f)) us) (sym (file_told i g ∙ ap file_tells view)) (after_told es (file_view f))) in
      let all : AllZip (After (options ++ moved)) (map told (file_entities i f)) (map told (file_entities i g)) =
      subst (λ (xs : List Edit). AllZip (After xs) (map told (file_entities i f)) (map told (file_entities i g))) is told_after in
      let still : (path : List ℤ) → AllByRecursion (IsElse path) moved = λ path. locations_edits pool (IsElse path) (λ file place at. tt) ms i 0 (locations f) moved locates in
      become (file_entities i f) (file_entities i g)
      (all_come (file_entities i f) options ms (map told (file_entities i g)) settles (entities_apart i f)
      (past_moved options moved still (map told (file_entities i f)) (map told (file_entities i g)) all))

-- a record by its content
record_at : (fs : List FileDescriptorProto) (i : ℕ) (y : FileContent) → slice_get (map file_view fs) i ≡ Some y → (g : FileDescriptorProto) × (slice_get fs i ≡ Some g) × (file_view g ≡ y)
record_at [] i y there = absurd (cc there)
record_at (f ∷ fs) zero y there = (f, refl, cc there)
record_at (f ∷ fs) (suc i) y there = record_at fs i y there

-- the record of a file of a pool whose options are settled
pub file_becomes : (old new : PoolType) (first i : ℕ) (f : FileDescriptorProto) → SettlesPool old first new → first ≤ i → i < length old.files → slice_get old.records i ≡ Some f
    → (g : FileDescriptorProto) × (slice_get new.records i ≡ Some g) × AllZip (Becomes old) (file_entities i f) (file_entities i g)
file_becomes old new first i f settles far near found =
    let r = in_pool old new first i f settles far near found in
    let g = record_at new.records i (changed (file_view f) (map change_of r.0)) r.2 in
    (g.0, g.1, file_comes old i f g.0 r.0 r.1 g.2)
