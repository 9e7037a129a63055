-- Where options are settled, plain records stay plain.
use Rattle.std.proofs.Common.{◌≡◌, ◌-◌, ◌+◌, ◌^◌, ℕ, zero, suc, ℤ, pos, negsuc, Bool, true, false, cond, ltb, List, [], ◌∷◌, ◌++◌, map, length, take, drop, fold, if◌then◌else◌, Option, Some, None, MatchOption, Ordering, Less, Equal, Greater, ap, ◌∙◌, refl, sym, subst, arith, inl, inr, slice_get, ◌≤◌}
use mir.Val.{sel}
use Rattle.std.specs.Int.{w32, cast_signed}
use Rattle.std.specs.List.{AllByRecursion}
use Rattle.std.specs.Option.{option_map, option_or}
use Rattle.std.specs.Cmp.Lexicographic.{slice_cmp}
use Rattle.std.specs.Ordering.{int_cmp, is_eq, ordering_then}
use Rattle.std.proofs.lemmas.Bool.{ltb-false, ltb-true}
use Rattle.std.proofs.lemmas.Bool.Decides.{Decides-int_eq}
use Rattle.descriptor_records.specs.Content.{FileContent, OptionContent, OptionsContent, file_view, location_view, option_view, options_view, source_info_view}
use Rattle.descriptor_records.specs.declared.file.FileDescriptorProto.{FileDescriptorProto}
use Rattle.descriptor_records.specs.declared.options.NamePart.{NamePart}
use Rattle.descriptor_records.specs.declared.options.Options.{Options}
use Rattle.descriptor_records.specs.declared.options.UninterpretedOption.{UninterpretedOption}
use Rattle.descriptor_records.specs.declared.source_info.Location.{Location}
use Rattle.descriptor_records.specs.declared.source_info.SourceCodeInfo.{SourceCodeInfo}
use Rattle.message_view.specs.Sound.{IsSound}
use Rattle.option_parts.specs.OptionTypes.{CanRead}
use Rattle.option_parts.specs.Moves.{EditsLocation, EditsLocations, MovesTo}
use Rattle.option_parts.specs.declared.option_scope.OptionScope.{OptionScope}
use Rattle.option_setter.specs.SetOptions.{SetsParts, count_held, next_place, place_of}
use Rattle.option_setter.specs.declared.option_setter.NameScope.{NameScope}
use Rattle.reflect_format.specs.Steps.{held_by}
use Rattle.reflect_format.specs.Takes.{target_pool, target_type}
use Rattle.reflect_format.specs.declared.target.Target.{Target}
use Rattle.reflect_growth.specs.Put.{edited, file_put, path_put}
use Rattle.reflect_growth.specs.declared.settle.Edit.{Edit}
use Rattle.reflect_growth.specs.declared.settle.Edit.TheVariants as edits
use Rattle.reflect_message.specs.Names.{DynamicMessage}
use Rattle.reflect_faults.specs.Spans.{locations, same_path}
use Rattle.reflect_options.specs.Entities.{Entity, file_entities}
use Rattle.reflect_options.specs.Settled.{SetsAll, Settles}
use Rattle.reflect_options.specs.Settling.{IsScopeOf, Move, SettlesAll, SettlesEntity, SettlesFile, SettlesFiles, SettlesIn, SettlesPool, moves_from, options_path, target_in}
use Rattle.reflect_pool.proofs.Places.{all_get}
use Rattle.reflect_pool.specs.Shapes.{holds_list}
use Rattle.reflect_tables.specs.Types.{PoolType}
use Rattle.linked_view.proofs.Completes.{all_mapped}
use Rattle.protobuf_model.proofs.Arranged.{all_append}
use Rattle.plain_records.specs.PlainRecords.{ArePlainFiles, ArePlainLocations, FitsInt32, IfThere, IsInside, IsPlainFile, IsPlainLocation}
use Rattle.plain_records.specs.SaidOptions.{SaysOrWaits}
use Rattle.settled_records.proofs.Entities.{Suited, file_suits}
use Rattle.settled_records.proofs.Said.{view_says}
use Rattle.settled_records.proofs.Put.{SuitsFile, at_plain, file_plain, path_plain}

-- ---- paths
abbrev Fit : List ℤ → Type 0
Fit path = AllByRecursion FitsInt32 path

number_fits : (n : ℕ) → FitsInt32 (cast_signed w32 n)
number_fits n = by (ltb n (2 ^ 31)) refl
  where
    by : (b : Bool) → ltb n (2 ^ 31) ≡ b → FitsInt32 (sel b (pos n) (negsuc (2 ^ 32 - suc n)))
    by true e = let small = ltb-true n (2 ^ 31) e in omega (arith, small)
    by false e = let large = ltb-false n (2 ^ 31) e in omega (arith, large)

place_fits : (n : ℕ) → FitsInt32 (place_of n)
place_fits n = by (ltb n (2 ^ 31)) refl
  where
    by : (b : Bool) → ltb n (2 ^ 31) ≡ b → FitsInt32 (cond b (pos n) (pos (2 ^ 31 - 1)))
    by true e = let small = ltb-true n (2 ^ 31) e in omega (arith, small)
    by false e = omega arith

fits_front : (xs ys : List ℤ) → Fit (xs ++ ys) → Fit xs
fits_front [] ys fits = tt
fits_front (x ∷ xs) ys fits = (fits.0, fits_front xs ys fits.1)

fits_take : (n : ℕ) (xs : List ℤ) → Fit xs → Fit (take n xs)
fits_take zero xs fits = tt
fits_take (suc n) [] fits = tt
fits_take (suc n) (x ∷ xs) fits = (fits.0, fits_take n xs fits.1)

fits_drop : (n : ℕ) (xs : List ℤ) → Fit xs → Fit (drop n xs)
fits_drop zero xs fits = fits
fits_drop (suc n) [] fits = tt
fits_drop (suc n) (x ∷ xs) fits = fits_drop n xs fits.1

is_path : (p q : List ℤ) → same_path p q ≡ true → p ≡ q
is_path [] [] e = refl
is_path [] (y ∷ ys) e = absurd (cc e)
is_path (x ∷ xs) [] e = absurd (cc e)
is_path (x ∷ xs) (y ∷ ys) e = by (is_path xs ys) (int_cmp x y) refl e
  where
    by : (same_path xs ys ≡ true → xs ≡ ys) → (o : Ordering) → int_cmp x y ≡ o → is_eq (ordering_then o (slice_cmp int_cmp xs ys)) ≡ true → x ∷ xs ≡ y ∷ ys
    by rest Less c e = absurd (cc e)
    by rest Equal c e = λ i. (Decides-int_eq x y).0 (ap is_eq c) i ∷ rest e i
    by rest Greater c e = absurd (cc e)

-- ---- where options were set
sets_fit : (s : NameScope) (o : OptionContent) (levels : ℕ) (parts : List NamePart) (old new : DynamicMessage) (path : List ℤ) → SetsParts s o levels parts old new path → Fit path
sets_fit s o levels [] old new path (is, none) = subst Fit (sym none) tt
sets_fit s o levels (part ∷ []) old new path (t, rest, names, sets, is) =
    subst Fit (sym is) (number_fits (target_type t).number, subst Fit (sym sets.placed) (last_fits t old))
  where
    last_fits : (t : Target) (m : DynamicMessage) → Fit (next_place t m)
    last_fits t m = by (holds_list (target_pool t) (target_type t))
      where
        by : (b : Bool) → Fit (if b then place_of (count_held (held_by m t)) ∷ [] else [])
        by true = (place_fits (count_held (held_by m t)), tt)
        by false = tt
sets_fit s o zero (part ∷ next ∷ parts) old new path sets = absurd sets
sets_fit s o (suc levels) (part ∷ next ∷ parts) old new path (t, rest, left, inner, set, names, leads, sets, puts, same, is, exclusive, ascending) =
    subst Fit (sym is) (number_fits (target_type t).number, sets_fit s o levels (next ∷ parts) inner set rest sets)

-- a move puts an option's path behind that of the options, which its own goes on from
abbrev Moves : Move → Type 0
Moves m = (options path : List ℤ) × (place : ℤ) × (m.0 ≡ options ++ (pos 999 ∷ place ∷ [])) × (m.1 ≡ options ++ path) × Fit path

all_fit : (s : NameScope) (os : List UninterpretedOption) (old new : DynamicMessage) (paths : List (List ℤ)) → SetsAll s os old new paths → AllByRecursion Fit paths
all_fit s [] old new paths (is, none) = subst (AllByRecursion Fit) (sym none) tt
all_fit s (o ∷ os) old new paths (next, path, rest, sets, others, is) =
    subst (AllByRecursion Fit) (sym is) (sets_fit s (option_view o) 100 o.name.items old next path sets, all_fit s os next new rest others)

moves_are : (options : List ℤ) (place : ℕ) (paths : List (List ℤ)) → AllByRecursion Fit paths → AllByRecursion Moves (moves_from options place paths)
moves_are options place [] fits = tt
moves_are options place (path ∷ paths) fits = ((options, path, place_of place, refl, refl, fits.0), moves_are options (place + 1) paths fits.1)

-- what fits moves to what fits
target_fits : (ms : List Move) (path target : List ℤ) → AllByRecursion Moves ms → Fit path → target_in ms path ≡ Some target → Fit target
target_fits [] path target moves fits e = absurd (cc e)
target_fits (m ∷ ms) path target moves fits e = by (target_fits ms path target moves.1 fits) (target_in ms path) refl e
  where
    own : (b : Bool) → same_path m.0 path ≡ b → cond b (Some m.1) None ≡ Some target → Fit target
    own true same is =
        let h = moves.0 in
        let alike : m.1 ≡ target = cc is in
        let front : Fit h.0 = fits_front h.0 _ (subst Fit (sym (is_path m.0 path same) ∙ h.3) fits) in
        subst Fit (sym h.4 ∙ alike) (all_append FitsInt32 h.0 h.1 front h.5)
    own false same is = absurd (cc is)

    by : (target_in ms path ≡ Some target → Fit target) → (r : Option (List ℤ)) → target_in ms path ≡ r
        → option_or r (cond (same_path m.0 path) (Some m.1) None) ≡ Some target → Fit target
    by behind None others is = own (same_path m.0 path) refl is
    by behind (Some t) others is = behind (others ∙ is)

moved_fits : (ms : List Move) (path moved : List ℤ) → AllByRecursion Moves ms → Fit path → MovesTo (target_in ms) path (Some moved) → Fit moved
moved_fits ms path moved moves fits (len, target, front, is, first) =
    subst Fit (sym is) (all_append FitsInt32 target (drop len path) (target_fits ms (take len path) target moves (fits_take len path fits) front.2) (fits_drop len path fits))

module _ (Says : OptionScope → OptionsContent → Type 0) where
  -- ---- edits
  -- an edit that leaves plain records plain
  abbrev Good : Edit → Type 0
  Good (edits.Options file path options) = SuitsFile Says 99 path.items (options_view options)
  Good (edits.Location file place path) = Fit path.items

  one_edited : (e : Edit) (fs : List FileContent) → Good e → ArePlainFiles Says fs → ArePlainFiles Says (edited fs e)
  one_edited (edits.Options file path options) fs good plain =
      at_plain (IsPlainFile Says 99) (file_put path.items (options_view options)) (file_plain Says 99 path.items (options_view options) good) file fs plain
  one_edited (edits.Location file place path) fs good plain =
      at_plain (IsPlainFile Says 99) (path_put place path.items) (path_plain Says 99 place path.items good) file fs plain

  all_edited : (es : List Edit) (fs : List FileContent) → AllByRecursion Good es → ArePlainFiles Says fs → ArePlainFiles Says (fold edited fs es)
  all_edited [] fs good plain = plain
  all_edited (e ∷ es) fs good plain = all_edited es (edited fs e) good.1 (one_edited e fs good.0 plain)

  -- ---- locations
  locations_fit : (f : FileDescriptorProto) → IsPlainFile Says 99 (file_view f) → AllByRecursion (λ (l : Location). Fit l.path.items) (locations f)
  locations_fit f plain = by f.source_code_info plain.source_code_info
    where
      each_fits : (ls : List Location) → AllByRecursion (IsInside IsPlainLocation 98) (map location_view ls) → AllByRecursion (λ (l : Location). Fit l.path.items) ls
      each_fits [] all = tt
      each_fits (l ∷ ls) all = (all.0.1.0, each_fits ls all.1)

      by : (i : Option SourceCodeInfo) → IfThere (ArePlainLocations 99) (option_map source_info_view i)
          → AllByRecursion (λ (l : Location). Fit l.path.items) (elim i [ None ↦ [] | Some info ↦ info.location.items ])
      by None plain = tt
      by (Some info) plain = each_fits info.location.items plain.1

  locations_good : (ms : List Move) (file place : ℕ) (ls : List Location) (es : List Edit) → AllByRecursion Moves ms → AllByRecursion (λ (l : Location). Fit l.path.items) ls
      → EditsLocations (target_in ms) file place ls es → AllByRecursion Good es
  locations_good ms file place [] es moves fits none = subst (AllByRecursion Good) (sym none) tt
  locations_good ms file place (l ∷ ls) es moves fits (moved, own, rest, to, edit, others, is) =
      subst (AllByRecursion Good) (sym is) (all_append Good own rest (by moved to edit) (locations_good ms file (place + 1) ls rest moves fits.1 others))
    where
      by : (moved : Option (List ℤ)) → MovesTo (target_in ms) l.path.items moved → EditsLocation file place moved own → AllByRecursion Good own
      by None to none = subst (AllByRecursion Good) (sym none) tt
      by (Some moved) to (path, items, is) =
          subst (AllByRecursion Good) (sym is) (subst Fit (sym items) (moved_fits ms l.path.items moved moves fits.0 to), tt)

  -- ---- entities
  -- what an entity's options settle to in a pool is so
  abbrev pub SettlesToSaid : PoolType → Entity → Type 0
  SettlesToSaid pool c = (s : NameScope) (o settled : Options) (paths : List (List ℤ)) → c.options ≡ Some o → s.pool.now ≡ pool → Settles c.scope s o (options_view settled) paths
      → Says c.scope (options_view settled)

  -- in the files from an index on
  abbrev pub FilesSettleToSaid : PoolType → ℕ → Type 0
  FilesSettleToSaid pool first = (k : ℕ) (f : FileDescriptorProto) → slice_get pool.records k ≡ Some f → first ≤ k → AllByRecursion (SettlesToSaid pool) (file_entities k f)

  module _ (pool : PoolType) where
    paths_fit : (scope : OptionScope) (s : NameScope) (o : Options) (settled : OptionsContent) (paths : List (List ℤ)) → Settles scope s o settled paths → AllByRecursion Fit paths
    paths_fit scope s o settled paths (allowed, (d, finds, whole, (stored, set, is, sets, unsets), record_of)) =
        all_fit s o.uninterpreted_option.items stored set paths sets

    entity_good : (c : Entity) (es : List Edit) (ms : List Move) → SettlesToSaid pool c → Suited Says 99 c → SettlesEntity pool c es ms
        → AllByRecursion Good es × AllByRecursion Moves ms
    entity_good c es ms to suits settles = by c.options refl settles
      where
        by : (x : Option Options) → c.options ≡ x → MatchOption x ((es ≡ []) × (ms ≡ [])) (λ o. (s : NameScope) × IsScopeOf pool c s × SettlesIn c s o es ms)
            → AllByRecursion Good es × AllByRecursion Moves ms
        by None is (none, still) = (subst (AllByRecursion Good) (sym none) tt, subst (AllByRecursion Moves) (sym still) tt)
        by (Some o) is (s, scope, inl (settled, paths, at, settles, placed, one, moves)) =
            let view = options_view settled in
            let good : SuitsFile Says 99 c.path view = suits o is view (to s o settled paths is scope.pool settles) in (
              subst (AllByRecursion Good) (sym one) (subst (λ p. SuitsFile Says 99 p view) (sym placed) good, tt),
              subst (AllByRecursion Moves) (sym moves) (moves_are (options_path c) 0 paths (paths_fit c.scope s o view paths settles)),
            )
        by (Some o) is (s, scope, inr (stay, none, still)) = (subst (AllByRecursion Good) (sym none) tt, subst (AllByRecursion Moves) (sym still) tt)

    entities_good : (cs : List Entity) (es : List Edit) (ms : List Move) → AllByRecursion (SettlesToSaid pool) cs → AllByRecursion (Suited Says 99) cs → SettlesAll pool cs es ms
        → AllByRecursion Good es × AllByRecursion Moves ms
    entities_good [] es ms to suit (none, still) = (subst (AllByRecursion Good) (sym none) tt, subst (AllByRecursion Moves) (sym still) tt)
    entities_good (c ∷ cs) es ms to suit (own, rest, moved, more, settles, others, is, are) =
        let one = entity_good c own moved to.0 suit.0 settles in
        let all = entities_good cs rest more to.1 suit.1 others in
        (subst (AllByRecursion Good) (sym is) (all_append Good own rest one.0 all.0), subst (AllByRecursion Moves) (sym are) (all_append Moves moved more one.1 all.1))

    -- ---- files
    file_good : (file : ℕ) (f : FileDescriptorProto) (es : List Edit) → AllByRecursion (SettlesToSaid pool) (file_entities file f) → IsPlainFile Says 99 (file_view f) → SettlesFile pool file f es → AllByRecursion Good es
    file_good file f es to plain (options, moved, ms, settles, locates, is) =
        let own = entities_good (file_entities file f) options ms to (file_suits Says 99 file f plain) settles in
        subst (AllByRecursion Good) (sym is) (all_append Good options moved own.0 (locations_good ms file 0 (locations f) moved own.1 (locations_fit f plain) locates))

    files_good : (first n : ℕ) (es : List Edit) → FilesSettleToSaid pool first → ArePlainFiles Says (map file_view pool.records) → SettlesFiles pool first n es → AllByRecursion Good es
    files_good first zero es to plain none = subst (AllByRecursion Good) (sym none) tt
    files_good first (suc n) es to plain (front, own, f, before, there, settles, is) =
        let here = all_get (λ f. IsPlainFile Says 99 (file_view f)) pool.records (first + n) f (all_mapped file_view (IsPlainFile Says 99) pool.records plain) there in
        subst (AllByRecursion Good) (sym is) (all_append Good front own (files_good first n front to plain before) (file_good (first + n) f own (to (first + n) f there (omega arith)) here settles))

  -- so it is of all options afterwards, if it was before
  pub pool_says : (old new : PoolType) (first : ℕ) → FilesSettleToSaid old first → ArePlainFiles Says (map file_view old.records) → SettlesPool old first new
      → ArePlainFiles Says (map file_view new.records)
  pool_says old new first to plain settles =
      subst (ArePlainFiles Says) (sym settles.put)
      (all_edited settles.edits (map file_view old.records) (files_good old first (length old.files - first) settles.edits to plain settles.settled) plain)

all_so : {A : Type 0} (P : A → Type 0) → ((x : A) → P x) → (xs : List A) → AllByRecursion P xs
all_so P so [] = tt
all_so P so (x ∷ xs) = (so x, all_so P so xs)

-- in a sound pool that has types to read options by they say what their bytes do
pub pool_plain : (old new : PoolType) (first : ℕ) → IsSound old → ArePlainFiles SaysOrWaits (map file_view old.records) → SettlesPool old first new → ArePlainFiles SaysOrWaits (map file_view new.records)
pool_plain old new first sound plain settles = pool_says SaysOrWaits old new first (λ k f there far. all_so (SettlesToSaid SaysOrWaits old) says (file_entities k f)) plain settles
  where
    says : (c : Entity) → SettlesToSaid SaysOrWaits old c
    says c s o settled paths there is settle =
        inl (view_says c.scope s o (options_view settled) paths (subst IsSound (sym is) sound) (subst (λ p. CanRead p c.scope) (sym is) (settles.readable c.scope)) settle settled refl)
