-- Where the options of entities settle alike in two pools, a content comes to one by what settles them. What a pool has no
-- type for stays as it is; in the other pool it is put again where it stands, whatever was put at other paths before.
use Rattle.std.specs.declared.alloc.Global.{Global}
use Rattle.std.proofs.Common.{◌≡◌, ◌⊎◌, ◌∙◌, ◌++◌, ℕ, ℤ, List, [], ◌∷◌, map, Option, Some, None, MatchOption, Vec, inl, inr, ap, refl, sym, subst}
use Rattle.std.proofs.lemmas.Option.{same_Some}
use Rattle.std.specs.List.{AllByRecursion, AllZip}
use Rattle.std.specs.Option.{option_map}
use Rattle.descriptor_records.specs.Content.{FileContent, OptionsContent, file_view, options_view}
use Rattle.descriptor_records.specs.declared.file.FileDescriptorProto.{FileDescriptorProto}
use Rattle.descriptor_records.specs.declared.options.Options.{Options}
use Rattle.option_parts.specs.OptionTypes.{type_name}
use Rattle.option_parts.specs.declared.option_scope.OptionScope.{OptionScope}
use Rattle.option_setter.specs.declared.option_setter.NameScope.{NameScope}
use Rattle.reflect_growth.specs.Put.{file_put}
use Rattle.reflect_growth.specs.declared.settle.Edit.{Edit}
use Rattle.reflect_growth.specs.declared.settle.Edit.TheVariants as edits
use Rattle.reflect_options.specs.Entities.{Entity, file_entities}
use Rattle.reflect_options.specs.Settled.{Settles}
use Rattle.reflect_options.specs.Settling.{IsScopeOf, Move, SettlesAll, SettlesEntity, SettlesIn, moves_from, options_path}
use Rattle.reflect_pool.specs.FindsNames.{FindsMessage}
use Rattle.reflect_pool.specs.declared.message.MessageDescriptor.{MessageDescriptor}
use Rattle.reflect_pool.proofs.Grown.{all_through}
use Rattle.reflect_tables.specs.Types.{PoolType, no_type}
use Rattle.settled_records.proofs.AllOptions.{Keeps, Said, file_keeps}
use Rattle.settled_records.proofs.Changes.{change_of, changed, changed_on}
use Rattle.settled_records.proofs.InEntities.{entities_of}
use Rattle.settled_records.proofs.OfEntities.{Meets}
use Rattle.settled_records.proofs.PathScopes.{file_scope}
use Rattle.settled_records.proofs.PutElsewhere.{file_stays}
use Rattle.settled_records.proofs.Standing.{StandsInScope, file_scoped}
use Rattle.settled_records.specs.Alike.{IsSameEntity, SettleAlike}

-- what settles an entity of a pool by its options
abbrev By : PoolType → Entity → List Edit → List Move → Option Options → Type 0
By pool c es ms x = MatchOption x ((es ≡ []) × (ms ≡ [])) (λ o. (s : NameScope) × IsScopeOf pool c s × SettlesIn c s o es ms)

-- ---- the types of a pool
-- it has none for options of the scope
abbrev Lacks : PoolType → OptionScope → Type 0
Lacks p scope = FindsMessage p (type_name scope) None

settled_by : (p : PoolType) (scope : OptionScope) (s : NameScope) (o : Options) (settled : OptionsContent) (paths : List (List ℤ)) → s.pool.now ≡ p → Settles scope s o settled paths → Lacks p scope → ⊥
settled_by p scope s o settled paths is settles none =
    let type : MessageDescriptor = settles.1.0 in
    let found : FindsMessage p (type_name scope) (Some type) = subst (λ (r : PoolType). FindsMessage r (type_name scope) (Some type)) is settles.1.1.1 in
    none type.index no_type found.0 (found.1.0 no_type)

-- ---- what edits do to a content
no_edit : (y : FileContent) (es : List Edit) → es ≡ [] → changed y (map change_of es) ≡ y
no_edit y es none = ap (λ ds. changed y (map change_of ds)) none

one_edit : (y : FileContent) (file : ℕ) (at : Vec ℤ Global) (settled : Options) (es : List Edit) (path : List ℤ) (o : OptionsContent) → es ≡ edits.Options file at settled ∷ [] → at.items ≡ path
    → options_view settled ≡ o → changed y (map change_of es) ≡ file_put path o y
one_edit y file at settled es path o single stands is = ap (λ ds. changed y (map change_of ds)) single ∙ (λ i. file_put (stands i) (is i) y)

module _ (p q : PoolType) where
  -- of options that are left to settle the path tells the scope; and they stand there, where one of the pools has no type for them
  abbrev Left : FileContent → ℕ → Said
  Left y file scope path o = (file_scope path ≡ scope) × (Lacks p scope ⊎ Lacks q scope → file_put path o y ≡ y)

  -- by the edits of both pools a content comes to one, in which this is so of the same options
  abbrev ComeToOne : FileContent → List Edit → List Edit → Type 0
  ComeToOne y es ds = (to : FileContent) × (changed y (map change_of es) ≡ to) × (changed y (map change_of ds) ≡ to) × ((k : ℕ) → Keeps (Left y k) (Left to k))

  both_idle : (y : FileContent) (es ds : List Edit) → changed y (map change_of es) ≡ y → changed y (map change_of ds) ≡ y → ComeToOne y es ds
  both_idle y es ds here there = (y, here, there, λ k scope path o left. left)

  -- options are put at the path of an entity, and both pools have a type for them
  both_put : (c : Entity) (v : OptionsContent) (y : FileContent) (es ds : List Edit) → file_scope c.path ≡ c.scope → (Lacks p c.scope → ⊥) → (Lacks q c.scope → ⊥)
      → changed y (map change_of es) ≡ file_put c.path v y → changed y (map change_of ds) ≡ file_put c.path v y → ComeToOne y es ds
  both_put c v y es ds tells has also here there =
      (file_put c.path v y, here, there, λ k scope path o left. (left.0, λ lacks. file_stays path c.path o v y (apart scope path left.0 lacks) (left.1 lacks)))
    where
      apart : (scope : OptionScope) (path : List ℤ) → file_scope path ≡ scope → Lacks p scope ⊎ Lacks q scope → c.path ≡ path → ⊥
      apart scope path told lacks same =
          let one : scope ≡ c.scope = sym told ∙ sym (ap file_scope same) ∙ tells in
          elim lacks [ inl none ↦ has (subst (Lacks p) one none) | inr none ↦ also (subst (Lacks q) one none) ]

  -- ---- entities
  entity_alike : (c d : Entity) (y : FileContent) (es ds : List Edit) (ms ns : List Move) → IsSameEntity c d → SettleAlike p q c d → Meets (Left y) c → SettlesEntity p c es ms → SettlesEntity q d ds ns
      → ComeToOne y es ds × (ms ≡ ns)
  entity_alike c d y es ds ms ns same agree left settles settled = by c.options d.options refl refl settles settled
    where
      by : (x z : Option Options) → c.options ≡ x → d.options ≡ z → By p c es ms x → By q d ds ns z → ComeToOne y es ds × (ms ≡ ns)
      by None None a b (none, still) (nil, rest) = (both_idle y es ds (no_edit y es none) (no_edit y ds nil), still ∙ sym rest)
      by None (Some z) a b none put =
          let e : None ≡ Some (options_view z) = sym (ap (option_map options_view) a) ∙ same.options ∙ ap (option_map options_view) b in
          absurd (cc e)
      by (Some o) None a b put none =
          let e : Some (options_view o) ≡ None = sym (ap (option_map options_view) a) ∙ same.options ∙ ap (option_map options_view) b in
          absurd (cc e)
      by (Some o) (Some z) a b (s, scope, inr (stay, none, still)) (t, range, inr (remain, nil, rest)) = (both_idle y es ds (no_edit y es none) (no_edit y ds nil), still ∙ sym rest)
      by (Some o) (Some z) a b (s, scope, inr (stay, none, still)) (t, range, inl (other, ways, way, put, lies, sole, moved)) =
          let r : (options_view other ≡ options_view z) × (ways ≡ []) = agree.here o s a scope stay t z other ways b range.pool put in
          let one : options_view o ≡ options_view z =
          same_Some (options_view o) (options_view z) (sym (ap (option_map options_view) a) ∙ same.options ∙ ap (option_map options_view) b) in
          let lacks : Lacks p c.scope = subst (λ (u : PoolType). Lacks u c.scope) scope.pool stay.0 in
          let there : changed y (map change_of ds) ≡ y = one_edit y d.file way other ds c.path (options_view o) sole (lies ∙ sym same.path) (r.0 ∙ sym one) ∙ (left o a).1 (inl lacks) in
          (both_idle y es ds (no_edit y es none) there, still ∙ sym (moved ∙ ap (moves_from (options_path d) 0) r.1))
      by (Some o) (Some z) a b (s, scope, inl (to, paths, at, set, stands, single, moves)) (t, range, inr (remain, nil, rest)) =
          let r : (options_view to ≡ options_view o) × (paths ≡ []) = agree.there z t b range remain s o to paths a scope.pool set in
          let lacks : Lacks q c.scope = subst (Lacks q) (sym same.scope) (subst (λ (u : PoolType). Lacks u d.scope) range.pool remain.0) in
          let here : changed y (map change_of es) ≡ y = one_edit y c.file at to es c.path (options_view o) single stands r.0 ∙ (left o a).1 (inr lacks) in
          (both_idle y es ds here (no_edit y ds nil), moves ∙ ap (moves_from (options_path c) 0) r.1 ∙ sym rest)
      by (Some o) (Some z) a b (s, scope, inl (to, paths, at, set, stands, single, moves)) (t, range, inl (other, ways, way, put, lies, sole, moved)) =
          let r : (options_view to ≡ options_view other) × (paths ≡ ways) = agree.alike o z to other s t paths ways a b scope range set put in
          let options : options_path c ≡ options_path d = λ i. same.path i ++ (same.number i ∷ []) in
          let has : Lacks p c.scope → ⊥ = settled_by p c.scope s o (options_view to) paths scope.pool set in
          let also : Lacks q c.scope → ⊥ = λ none. settled_by q d.scope t z (options_view other) ways range.pool put (subst (Lacks q) same.scope none) in
          let here : changed y (map change_of es) ≡ file_put c.path (options_view to) y = one_edit y c.file at to es c.path (options_view to) single stands refl in
          let there : changed y (map change_of ds) ≡ file_put c.path (options_view to) y = one_edit y d.file way other ds c.path (options_view to) sole (lies ∙ sym same.path) (sym r.0) in
          (both_put c (options_view to) y es ds (left o a).0 has also here there, moves ∙ (λ i. moves_from (options i) 0 (r.1 i)) ∙ sym moved)

  pub entities_alike : (cs ds : List Entity) (y : FileContent) (es xs : List Edit) (ms ns : List Move) → AllZip IsSameEntity cs ds → AllZip (SettleAlike p q) cs ds → AllByRecursion (Meets (Left y)) cs
      → SettlesAll p cs es ms → SettlesAll q ds xs ns → (changed y (map change_of es) ≡ changed y (map change_of xs)) × (ms ≡ ns)
  entities_alike [] [] y es xs ms ns same agree left (none, still) (nil, rest) = (no_edit y es none ∙ sym (no_edit y xs nil), still ∙ sym rest)
  entities_alike [] (d ∷ ds) y es xs ms ns same agree left settles settled = absurd same
  entities_alike (c ∷ cs) [] y es xs ms ns same agree left settles settled = absurd same
  entities_alike (c ∷ cs) (d ∷ ds) y es xs ms ns same agree left (own, rest, moved, more, settles, others, is, are) (mine, further, went, beyond, settled, remain, so, too) =
      let first : ComeToOne y own mine × (moved ≡ went) = entity_alike c d y own mine moved went same.0 agree.0 left.0 settles settled in
      let to : FileContent = first.0.0 in
      let remaining : AllByRecursion (Meets (Left to)) cs =
      all_through (Meets (Left y)) (Meets (Left to)) cs (λ (e : Entity) (meets : Meets (Left y) e) (o : Options) (has : e.options ≡ Some o). first.0.3 e.file e.scope e.path (options_view o) (meets o has)) left.1 in
      let behind : (changed to (map change_of rest) ≡ changed to (map change_of further)) × (more ≡ beyond) = entities_alike cs ds to rest further more beyond same.1 agree.1 remaining others remain in (
        changed_on y es own rest is ∙ ap (λ (z : FileContent). changed z (map change_of rest)) first.0.1 ∙ behind.0
            ∙ sym (ap (λ (z : FileContent). changed z (map change_of further)) first.0.2) ∙ sym (changed_on y xs mine further so),
        are ∙ (λ i. first.1 i ++ behind.1 i) ∙ sym too,
      )

  -- so it is of the entities of a file in a content in which its options stand
  pub all_left : (i : ℕ) (f : FileDescriptorProto) (y : FileContent) → ((path : List ℤ) (o : OptionsContent) → file_put path o (file_view f) ≡ file_view f → file_put path o y ≡ y)
      → AllByRecursion (Meets (Left y)) (file_entities i f)
  all_left i f y stand =
      entities_of (Left y) i f (file_keeps (StandsInScope (file_view f)) (Left y i) (λ scope path o both. (both.1, λ lacks. stand path o both.0)) (file_view f) (file_scoped (file_view f)))
