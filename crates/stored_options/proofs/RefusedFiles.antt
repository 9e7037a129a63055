-- Files whose options are refused are not settled, nor are pools: not those that have the same files and say the same to
-- texts.
use Rattle.std.proofs.Common.{◌≡◌, ◌⊎◌, inl, inr, ◌<◌, ◌+◌, ◌-◌, ◌++◌, ℕ, zero, suc, ℤ, List, [], ◌∷◌, length, map, Option, None, Some, MatchOption, slice_get, refl, sym, ap, ◌∙◌, subst, arith}
use Rattle.std.proofs.lemmas.Bool.{cases_order}
use Rattle.std.proofs.lemmas.List.{length-map}
use Rattle.std.proofs.lemmas.Option.{same_Some}
use Rattle.std.specs.List.{AllByRecursion, AllZip}
use Rattle.std.specs.Option.{option_map}
use Rattle.descriptor_records.specs.Content.{file_view, options_view, unlocated}
use Rattle.descriptor_records.specs.declared.file.FileDescriptorProto.{FileDescriptorProto}
use Rattle.descriptor_records.specs.declared.options.Options.{Options}
use Rattle.linked_view.proofs.Places.{get_less}
use Rattle.option_parts.specs.OptionTypes.{CanRead, scope_at}
use Rattle.option_parts.specs.declared.option_error.OptionErrorKind.{OptionErrorKind}
use Rattle.option_parts.specs.declared.option_scope.OptionScope.{OptionScope}
use Rattle.option_setter.specs.declared.option_setter.NameScope.{NameScope}
use Rattle.reflect_faults.specs.Faults.{Place}
use Rattle.reflect_growth.specs.declared.settle.Edit.{Edit}
use Rattle.reflect_index.proofs.Among.{get_map, got_map}
use Rattle.reflect_options.specs.Entities.{Entity, file_entities}
use Rattle.reflect_options.specs.Settled.{Settles, StayAsTheyAre}
use Rattle.reflect_options.specs.Settling.{IsScopeOf, Move, RefusesAtPlace, RefusesEntity, RefusesFile, RefusesFrom, SettlesAll, SettlesEntity, SettlesFile, SettlesFiles, SettlesIn, SettlesPool}
use Rattle.reflect_tables.specs.Types.{PoolType}
use Rattle.reflect_tables.specs.Views.{record_file}
use Rattle.settled_records.specs.Alike.{IsSameEntity}
use Rattle.settled_records.proofs.AllOptions.{Said, file_keeps}
use Rattle.settled_records.proofs.InEntities.{entities_of}
use Rattle.settled_records.proofs.OfEntities.{Meets}
use Rattle.settled_records.proofs.Standing.{StandsInScope, file_scoped}
use Rattle.settled_records.proofs.Walk.{same_entities}
use Rattle.types_view.specs.Pools.{IsPool}
use Rattle.stored_options.proofs.RefusedOptions.{not_left, not_settled}
use Rattle.stored_options.proofs.Reworded.{settles_same, stay_same}
use Rattle.stored_options.proofs.SameScopes.{entity_alike}
use Rattle.stored_options.proofs.TwinPools.{AreTwinPools, twins_moved}

-- ---- entities of one file

-- they are of the file of this index
abbrev pub Own : ℕ → ℕ → Said
Own i file scope path o = file ≡ i

pub in_its_file : (i : ℕ) (f : FileDescriptorProto) → AllByRecursion (Meets (Own i)) (file_entities i f)
in_its_file i f = entities_of (Own i) i f (file_keeps (StandsInScope (file_view f)) (Own i i) (λ scope path o stands. refl) (file_view f) (file_scoped (file_view f)))

module _ (p q : PoolType) (whole : IsPool p) (whole_too : IsPool q) (twins : AreTwinPools p q) (same : map file_view p.records ≡ map file_view q.records) where
  module _ (can : (scope : OptionScope) → CanRead p scope) (can_too : (scope : OptionScope) → CanRead q scope) where
    -- ---- one entity

    module _ (i : ℕ) (c d : Entity) (like : IsSameEntity c d) (mine : Meets (Own i) c) (its : Meets (Own i) d) where
      pub one_content : (o x : Options) → c.options ≡ Some o → d.options ≡ Some x → options_view x ≡ options_view o
      one_content o x there has =
          same_Some (options_view x) (options_view o) (sym (ap (option_map options_view) has) ∙ sym like.options ∙ ap (option_map options_view) there)

      module _ (path : List ℤ) (e : OptionErrorKind) (refuses : RefusesEntity p c path e) where
        refused_in : (x : Options) → d.options ≡ Some x → (es : List Edit) (ms : List Move) (t : NameScope) → IsScopeOf q d t → SettlesIn d t x es ms → ⊥
        refused_in x has es ms t b settles = by refuses settles where
          by : RefusesEntity p c path e → SettlesIn d t x es ms → ⊥
          by (o, s, at, there, a, why, is) (inl (settled, paths, way, put, placed, single, moves)) =
              let here : Settles c.scope t x (options_view settled) paths = subst (λ v. Settles v t x (options_view settled) paths) (sym like.scope) put in
              not_settled c.scope s t (entity_alike p q whole whole_too same c d (mine o there ∙ sym (its x has)) like.name s t a b) (twins_moved p q s.pool.now t.pool.now a.pool b.pool twins)
              (subst (λ r. CanRead r c.scope) (sym a.pool) (can c.scope)) (subst (λ r. CanRead r c.scope) (sym b.pool) (can_too c.scope)) o at e why (options_view settled) paths
              (settles_same c.scope t o x (one_content o x there has) (options_view settled) paths here)
          by (o, s, at, there, a, why, is) (inr (stay, none, still)) =
              let pools : AreTwinPools s.pool.now t.pool.now = twins_moved p q s.pool.now t.pool.now a.pool b.pool twins in
              not_left c.scope s t pools.messages o at e why (stay_same c.scope t o x (one_content o x there has) (subst (λ v. StayAsTheyAre v t x) (sym like.scope) stay))

        pub entity_refused : (es : List Edit) (ms : List Move) → SettlesEntity q d es ms → ⊥
        entity_refused es ms settles = by d.options refl settles where
          by : (y : Option Options) → d.options ≡ y → MatchOption y ((es ≡ []) × (ms ≡ [])) (λ x. (t : NameScope) × IsScopeOf q d t × SettlesIn d t x es ms) → ⊥
          by None none settled = cc (sym (ap (option_map options_view) refuses.3) ∙ like.options ∙ ap (option_map options_view) none)
          by (Some x) has (t, b, settled) = refused_in x has es ms t b settled

    -- ---- a file

    -- what of the one is refused has one beside it in the other that is settled
    record Beside (i : ℕ) (c : Entity) : Type 0 where
      pub entity : Entity
      pub like : IsSameEntity c entity
      pub mine : Meets (Own i) c
      pub its : Meets (Own i) entity
      pub edits : List Edit
      pub moves : List Move
      pub settles : SettlesEntity q entity edits moves

    beside : (i : ℕ) (front back : List Entity) (c : Entity) (ds : List Entity) (es : List Edit) (ms : List Move) → AllZip IsSameEntity (front ++ (c ∷ back)) ds
        → AllByRecursion (Meets (Own i)) (front ++ (c ∷ back)) → AllByRecursion (Meets (Own i)) ds → SettlesAll q ds es ms → Beside i c
    beside i [] back c [] es ms zip first second all = absurd zip
    beside i [] back c (d ∷ ds) es ms zip first second all = record {
      entity = d;
      like = zip.0;
      mine = first.0;
      its = second.0;
      edits = all.0;
      moves = all.2;
      settles = all.4;
    }
    beside i (x ∷ front) back c [] es ms zip first second all = absurd zip
    beside i (x ∷ front) back c (d ∷ ds) es ms zip first second all = beside i front back c ds all.1 all.3 zip.1 first.1 second.1 all.5

    pub file_refused : (i : ℕ) (f g : FileDescriptorProto) → file_view f ≡ file_view g → (path : List ℤ) (e : OptionErrorKind) (es : List Edit) → RefusesFile p i f path e → SettlesFile q i g es → ⊥
    file_refused i f g content path e es refuses settles =
        let zip = subst (λ cs. AllZip IsSameEntity cs (file_entities i g)) refuses.5 (same_entities i i f g (ap unlocated content)) in
        let first = subst (AllByRecursion (Meets (Own i))) refuses.5 (in_its_file i f) in
        let b = beside i refuses.0 refuses.1 refuses.2 (file_entities i g) settles.0 settles.2 zip first (in_its_file i g) settles.3 in
        entity_refused i refuses.2 b.entity b.like b.mine b.its path e refuses.7 b.edits b.moves b.settles

    -- ---- all files

    -- of so many files each is settled
    pub file_settled : (first n k : ℕ) (es : List Edit) (f : FileDescriptorProto) → k < n → slice_get q.records (first + k) ≡ Some f → SettlesFiles q first n es
        → (own : List Edit) × SettlesFile q (first + k) f own
    file_settled first zero k es f less found all = absurd (omega (arith, less))
    file_settled first (suc n) k es f less found (front, own, g, before, there, settles, is) =
        by (cases_order n k) (λ fewer. file_settled first n k front f fewer found before) where
          by : (n ≡ k) ⊎ ((n < k) ⊎ (k < n)) → (k < n → (own : List Edit) × SettlesFile q (first + k) f own) → (own : List Edit) × SettlesFile q (first + k) f own
          by (inl same) earlier =
              let one : g ≡ f = same_Some g f (sym there ∙ ap (λ i. slice_get q.records (first + i)) same ∙ found) in
              (own, subst (λ (h : FileDescriptorProto). SettlesFile q (first + k) h own) one (subst (λ i. SettlesFile q (first + i) g own) same settles))
          by (inr (inl more)) earlier = absurd (omega (arith, less, more))
          by (inr (inr fewer)) earlier = earlier fewer

    place_refused : (first : ℕ) (at : Place) (e : OptionErrorKind) (new : PoolType) → RefusesAtPlace p first at e → SettlesPool q first new → ⊥
    place_refused first at e new (n, es, f, before, there, refuses, placed) settles =
        let own = got_map file_view q.records (first + n) (file_view f) (ap (λ fs. slice_get fs (first + n)) (sym same) ∙ get_map file_view p.records (first + n) f there) in
        let within = get_less q.records (first + n) own.0 own.1 in
        let many : length q.files ≡ length q.records = ap length whole_too.recorded.headers ∙ length-map q.records record_file in
        let less : n < length q.files - first = omega (arith, within, many) in
        let settled = file_settled first (length q.files - first) n settles.edits own.0 less own.1 settles.settled in
        file_refused (first + n) f own.0 (sym own.2) at.path e settled.0 refuses settled.1

-- a pool whose options are refused, at a place or for a type of options, is not settled, nor is another of the same files
-- that says the same to texts, and that can only read options where this one can
pub pool_refused : (p q new : PoolType) (first : ℕ) (place : Option Place) (e : OptionErrorKind) → IsPool p → IsPool q → AreTwinPools p q → map file_view p.records ≡ map file_view q.records
    → ((scope : OptionScope) → CanRead q scope → CanRead p scope) → RefusesFrom p first place e → SettlesPool q first new → ⊥
pool_refused p q new first None e whole whole_too twins same reads (n, tells, fails, before) settles = fails (reads (scope_at n) (settles.readable (scope_at n)))
pool_refused p q new first (Some at) e whole whole_too twins same reads (can, refuses) settles = place_refused p q whole whole_too twins same can settles.readable first at e new refuses settles
