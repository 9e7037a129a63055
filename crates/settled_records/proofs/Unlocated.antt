-- Where the options of a file settle alike in two pools, and it differs there in lines, columns and comments alone, so do its
-- records afterwards.
use Rattle.std.proofs.Common.{◌≡◌, ◌≤◌, ◌<◌, ◌+◌, ◌++◌, ◌∙◌, ℕ, ℤ, List, [], ◌∷◌, map, length, Option, Some, None, MatchOption, slice_get, inl, inr, ap, refl, sym, subst}
use Rattle.std.specs.List.{AllByRecursion}
use Rattle.std.specs.Option.{option_map}
use Rattle.descriptor_records.specs.Content.{FileContent, OptionsContent, file_view, options_view, unlocated}
use Rattle.descriptor_records.specs.declared.file.FileDescriptorProto.{FileDescriptorProto}
use Rattle.descriptor_records.specs.declared.options.Options.{Options}
use Rattle.descriptor_records.specs.declared.source_info.Location.{Location}
use Rattle.option_parts.specs.Moves.{EditsLocation, EditsLocations, Targets}
use Rattle.option_setter.specs.declared.option_setter.NameScope.{NameScope}
use Rattle.protobuf_model.proofs.Arranged.{all_append}
use Rattle.reflect_growth.specs.Put.{file_put}
use Rattle.reflect_growth.specs.declared.settle.Edit.{Edit}
use Rattle.reflect_growth.specs.declared.settle.Edit.TheVariants as edits
use Rattle.reflect_faults.specs.Spans.{locations}
use Rattle.reflect_options.specs.Entities.{Entity, file_entities}
use Rattle.reflect_options.specs.Settling.{IsScopeOf, Move, SettlesAll, SettlesEntity, SettlesFile, SettlesIn, SettlesPool, target_in}
use Rattle.reflect_tables.specs.Types.{PoolType}
use Rattle.settled_records.proofs.Changes.{Change, change_of, changed, changed_on}
use Rattle.settled_records.proofs.Mixed.{all_left, entities_alike}
use Rattle.settled_records.proofs.Pools.{in_pool}
use Rattle.settled_records.proofs.Walk.{same_entities}
use Rattle.settled_records.specs.Alike.{AllSettleAlike}

-- ---- edits of locations leave all else, and those of options all locations

abbrev OfLocation : Edit → Type 0
OfLocation (edits.Options file path options) = ⊥
OfLocation (edits.Location file place path) = Unit {0}

abbrev OfOptions : Edit → Type 0
OfOptions (edits.Options file path options) = Unit {0}
OfOptions (edits.Location file place path) = ⊥

left_by_locations : (es : List Edit) → AllByRecursion OfLocation es → (x : FileContent) → unlocated (changed x (map change_of es)) ≡ unlocated x
left_by_locations [] all x = refl
left_by_locations (edits.Options file path options ∷ es) all x = absurd all.0
left_by_locations (edits.Location file place path ∷ es) all x = left_by_locations es all.1 (change_of (edits.Location file place path) x)

put_unlocated : (path : List ℤ) (o : OptionsContent) (x : FileContent) → unlocated (file_put path o x) ≡ file_put path o (unlocated x)
put_unlocated [] o x = refl
put_unlocated (number ∷ []) o x = refl
put_unlocated (number ∷ place ∷ rest) o x = refl

by_options : (es : List Edit) → AllByRecursion OfOptions es → (x : FileContent) → unlocated (changed x (map change_of es)) ≡ changed (unlocated x) (map change_of es)
by_options [] all x = refl
by_options (edits.Location file place path ∷ es) all x = absurd all.0
by_options (edits.Options file path options ∷ es) all x =
    let put : Change = file_put path.items (options_view options) in
    by_options es all.1 (put x) ∙ ap (λ (y : FileContent). changed y (map change_of es)) (put_unlocated path.items (options_view options) x)

-- ---- the edits that settle a file

none_are : (P : Edit → Type 0) (es : List Edit) → es ≡ [] → AllByRecursion P es
none_are P es none = subst (AllByRecursion P) (sym none) tt

module _ (pool : PoolType) where
  entity_options : (c : Entity) (es : List Edit) (ms : List Move) → SettlesEntity pool c es ms → AllByRecursion OfOptions es
  entity_options c es ms settles = by c.options settles
    where
      by : (x : Option Options) → MatchOption x ((es ≡ []) × (ms ≡ [])) (λ o. (s : NameScope) × IsScopeOf pool c s × SettlesIn c s o es ms) → AllByRecursion OfOptions es
      by None (none, still) = none_are OfOptions es none
      by (Some o) (s, scope, inl (settled, paths, at, settles, placed, single, moves)) = subst (AllByRecursion OfOptions) (sym single) (tt, tt)
      by (Some o) (s, scope, inr (stay, none, still)) = none_are OfOptions es none

  all_options : (cs : List Entity) (es : List Edit) (ms : List Move) → SettlesAll pool cs es ms → AllByRecursion OfOptions es
  all_options [] es ms (none, still) = none_are OfOptions es none
  all_options (c ∷ cs) es ms (own, rest, moved, more, settles, others, is, are) =
      subst (AllByRecursion OfOptions) (sym is) (all_append OfOptions own rest (entity_options c own moved settles) (all_options cs rest more others))

one_location : (file place : ℕ) (to : Option (List ℤ)) (es : List Edit) → EditsLocation file place to es → AllByRecursion OfLocation es
one_location file place None es none = none_are OfLocation es none
one_location file place (Some to) es (path, items, single) = subst (AllByRecursion OfLocation) (sym single) (tt, tt)

all_locations : (targets : Targets) (file place : ℕ) (ls : List Location) (es : List Edit) → EditsLocations targets file place ls es → AllByRecursion OfLocation es
all_locations targets file place [] es none = none_are OfLocation es none
all_locations targets file place (l ∷ ls) es (to, own, rest, moves, edit, others, is) =
    subst (AllByRecursion OfLocation) (sym is)
    (all_append OfLocation own rest (one_location file place to own edit) (all_locations targets file (place + 1) ls rest others))

-- but for places a file comes to what its options alone make of it
comes_to : (pool : PoolType) (i : ℕ) (f : FileDescriptorProto) (es options moved : List Edit) (ms : List Move) → SettlesAll pool (file_entities i f) options ms
    → EditsLocations (target_in ms) i 0 (locations f) moved → es ≡ options ++ moved → (x : FileContent)
    → unlocated (changed x (map change_of es)) ≡ changed (unlocated x) (map change_of options)
comes_to pool i f es options moved ms settles locates is x =
    ap unlocated (changed_on x es options moved is)
    ∙ left_by_locations moved (all_locations (target_in ms) i 0 (locations f) moved locates) (changed x (map change_of options))
    ∙ by_options options (all_options pool (file_entities i f) options ms settles) x

-- ---- the pools

pub settle_unlocated : (p q new other : PoolType) (first second i j : ℕ) (f g : FileDescriptorProto) → SettlesPool p first new → SettlesPool q second other → first ≤ i → i < length p.files
    → second ≤ j → j < length q.files → slice_get p.records i ≡ Some f → slice_get q.records j ≡ Some g → unlocated (file_view f) ≡ unlocated (file_view g) → AllSettleAlike p q i j f g
    → option_map unlocated (slice_get (map file_view new.records) i) ≡ option_map unlocated (slice_get (map file_view other.records) j)
settle_unlocated p q new other first second i j f g settles settled far near beyond within found there same agree =
    let a = in_pool p new first i f settles far near found in
    let b = in_pool q other second j g settled beyond within there in
    by a.0 b.0 a.1 b.1 a.2 b.2
  where
    by : (es ds : List Edit) → SettlesFile p i f es → SettlesFile q j g ds
        → slice_get (map file_view new.records) i ≡ Some (changed (file_view f) (map change_of es))
        → slice_get (map file_view other.records) j ≡ Some (changed (file_view g) (map change_of ds))
        → option_map unlocated (slice_get (map file_view new.records) i) ≡ option_map unlocated (slice_get (map file_view other.records) j)
    by es ds (options, moved, ms, set, locates, is) (others, went, ns, put, located, are) here its =
        let bare : FileContent = unlocated (file_view f) in
        let left = all_left p q i f bare (λ path o stands. sym (put_unlocated path o (file_view f)) ∙ ap unlocated stands) in
        let changes : changed bare (map change_of options) ≡ changed bare (map change_of others) =
        (entities_alike p q (file_entities i f) (file_entities j g) bare options others ms ns (same_entities i j f g same) agree left set put).0 in
        let content : changed bare (map change_of options) ≡ changed (unlocated (file_view g)) (map change_of others) = changes ∙ ap (λ (y : FileContent). changed y (map change_of others)) same in
        ap (option_map unlocated) here
        ∙ ap Some (comes_to p i f es options moved ms set locates is (file_view f) ∙ content ∙ sym (comes_to q j g ds others went ns put located are (file_view g)))
        ∙ sym (ap (option_map unlocated) its)
