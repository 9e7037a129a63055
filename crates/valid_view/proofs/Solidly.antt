-- Messages that are decoded, and those into which bytes are merged, are solid at each depth.
use Rattle.std.proofs.Common.{◌≡◌, ◌⊎◌, ◌≤◌, inl, inr, ℕ, zero, suc, Bool, List, ◌∷◌, ◌++◌, map, Option, None, Some, refl, sym, ap, ◌∙◌, subst, arith}
use Rattle.std.specs.List.{AllByRecursion}
use Rattle.std.proofs.lemmas.List.{map-append}
use Rattle.reflect_tables.specs.Types.{PoolType}
use Rattle.reflect_wire.specs.Records.{Payload}
use Rattle.reflect_wire.specs.Written.{AreBytes, FitsPayload}
use Rattle.reflect_pool.specs.FieldsLeft.{field_type}
use Rattle.reflect_pool.specs.declared.extension.ExtensionDescriptor.{ExtensionDescriptor}
use Rattle.reflect_pool.specs.declared.field.FieldDescriptor.{FieldDescriptor}
use Rattle.reflect_pool.specs.declared.message.MessageDescriptor.{MessageDescriptor}
use Rattle.reflect_entries.specs.Entries.{value_at}
use Rattle.reflect_scalar.specs.FieldTypes.{extension_type}
use Rattle.reflect_message.specs.Contents.{Content, content_of, nothing}
use Rattle.reflect_message.specs.Declares.{NoField, Owns, OwnsExtension}
use Rattle.reflect_message.specs.Held.{Same, choices_of, fields_of}
use Rattle.reflect_message.specs.Known.{known_extension}
use Rattle.reflect_message.specs.Names.{DynamicMessage, Value}
use Rattle.reflect_message.specs.Oneofs.{AreChosen}
use Rattle.reflect_copies.proofs.Copying.{chosen_copied}
use Rattle.reflect_decode.specs.Fields.{LeavesField}
use Rattle.reflect_decode.specs.Keeps as keeps
use Rattle.reflect_decode.specs.Levels.{TakenAt, TakesAt}
use Rattle.reflect_decode.specs.Messages.{Takes}
use Rattle.reflect_decode.specs.Spares.{Merges, NoExtension, ReadsMember}
use Rattle.reflect_decode.specs.Spelled.{IsMerged, IsSpelled}
use Rattle.reflect_decode.specs.Suits.{SuitsBelow}
use Rattle.reflect_decode.specs.Taking.{Leaves}
use Rattle.reflect_decode.proofs.Suiting.{nothing_suits}
use Rattle.protobuf_model.specs.Meaning.{payloads}
use Rattle.protobuf_model.proofs.Arranged.{all_append}
use Rattle.protobuf_model.proofs.Lists.{all_map}
use Rattle.message_view.specs.Sound.{IsSound}
use Rattle.message_view.proofs.Fields.{by_number, extension_owned, extension_whole, none_owned, not_declared, owned_whole}
use Rattle.message_view.proofs.Oneofs.{payloads_same}
use Rattle.valid_view.specs.Tidy.{Solid, Tidy}
use Rattle.valid_view.proofs.Behind.{LeftBehind, left_behind}
use Rattle.valid_view.proofs.Bits.{AreFine, IsFine, all_behind, all_inside_fine, entry_fine, fine_at, spelled_fine}
use Rattle.valid_view.proofs.Decoded.{spelled_alone}
use Rattle.valid_view.proofs.Deepening.{payload_deeper}
use Rattle.valid_view.proofs.Filling.{field_firm}
use Rattle.valid_view.proofs.Firm.{Carries, Firm, FirmIn, WasFirm, carries_solid, firm_pool, nothing_carries, solid_firm}
use Rattle.valid_view.proofs.FirmCopies.{copies_firm, copy_carries}
use Rattle.valid_view.proofs.Leaving.{Begins}

-- what stands under a number of no field stood there
abbrev StaysUnowned : MessageDescriptor → Content → Content → Type 0
StaysUnowned d old new = (n : ℕ) → NoField d n → (v : Value) → value_at new.fields n ≡ Some v → value_at old.fields n ≡ Some v

unowned_stay : (takes : Takes) (d : MessageDescriptor) (old new : Content) (rs : List (ℕ × Payload)) → Merges takes d old new rs → StaysUnowned d old new
unowned_stay takes d old new rs merges n none v at = by (merges.fields.spared n (inr none)) where
  by : Same old.fields new.fields n ⊎ ((value_at new.fields n ≡ None) × ReadsMember d rs) → value_at old.fields n ≡ Some v
  by (inl same) = sym same ∙ at
  by (inr goes) = absurd (cc (sym goes.0 ∙ at))

-- ---- one message, of so many levels: records that may nest no deeper are taken in
module _ (takes : Takes) (Q : DynamicMessage → Type 0) (d : MessageDescriptor) (sound : IsSound d.pool.now) (levels depth : ℕ) (le : levels ≤ depth)
    (pooled : (m : DynamicMessage) → Q m → m.descriptor.pool.now ≡ d.pool.now)
    (entry_inside : (p : Payload) (rs : List (ℕ × Payload)) → IsFine levels p → takes.entry p rs → AreFine levels rs)
    (below : (grouped : Bool) (c : Content) (m : DynamicMessage) (ps : List Payload) → m.descriptor.pool.now ≡ d.pool.now → Begins Q m.descriptor c → AllByRecursion (IsFine levels) ps
    → takes.message grouped m.descriptor c (content_of m) ps → Q m)
    (old new : Content) (rs : List (ℕ × Payload)) (left : LeftBehind takes d old new rs) (stays : StaysUnowned d old new) (fine : AreFine levels rs) (was : Carries Q depth old) where
  field_carried : (f : FieldDescriptor) → Owns d f → (v : Value) → value_at new.fields (field_type f).number ≡ Some v → FirmIn Q v
  field_carried f owns v here = told (subst (λ o. LeavesField takes d f (value_at old.fields (field_type f).number) o rs) here (left.fields f owns)) where
    made : (before : Option Value) (ps : List Payload) → WasFirm Q before → AllByRecursion (IsFine levels) ps → Leaves takes f.message.pool.now (field_type f) before (Some v) ps → FirmIn Q v
    made before ps stood all leaves =
        field_firm takes Q d.pool.now sound levels pooled entry_inside below (field_type f) before v ps (owned_whole d f owns) stood all
        (subst (λ p. Leaves takes p (field_type f) before (Some v) ps) owns.0.1 leaves)

    told : LeavesField takes d f (value_at old.fields (field_type f).number) (Some v) rs → FirmIn Q v
    told (inl h) = made (value_at old.fields (field_type f).number) (keeps.payloads (field_type f).number rs) (was.fields (field_type f).number) (fine_at levels (field_type f).number rs fine) h.1
    told (inr (before, behind, r, whole, sibling, alone, leaves)) =
        let later = all_behind (λ (r : ℕ × Payload). IsFine levels r.1) before (r ∷ behind) (subst (AreFine levels) whole fine) in
        made None (keeps.payloads (field_type f).number behind) (λ w no. absurd (cc no)) (fine_at levels (field_type f).number behind later.1) leaves

  extension_carried : (x : ExtensionDescriptor) → OwnsExtension d x → NoField d (extension_type x).number → (v : Value) → value_at new.extensions (extension_type x).number ≡ Some v → FirmIn Q v
  extension_carried x owns free v here =
      let k = (extension_type x).number in
      let before = value_at old.extensions k in
      let ps = keeps.payloads k rs in
      let leaves = subst (λ o. Leaves takes x.pool.now (extension_type x) before o ps) here (left.extensions x owns free) in
      field_firm takes Q d.pool.now sound levels pooled entry_inside below (extension_type x) before v ps (extension_whole d x owns) (was.extensions k) (fine_at levels k rs fine)
      (subst (λ p. Leaves takes p (extension_type x) before (Some v) ps) owns.0.0 leaves)

  none_extends : (n : ℕ) → known_extension d.pool.now d.index n ≡ None → NoExtension d n
  none_extends n also x owns number = cc (sym (extension_owned d x owns) ∙ ap (known_extension d.pool.now d.index) number ∙ also)

  -- the records of a number: those that are declared were kept before, and behind those of others the new ones stand
  abbrev RecordsFit : ℕ → Type 0
  RecordsFit n = AllByRecursion (FitsPayload depth) (payloads n new.unknown)

  still_fit : (n : ℕ) → keeps.numbered n new.unknown ≡ keeps.numbered n old.unknown → RecordsFit n
  still_fit n same =
      let path : payloads n old.unknown ≡ payloads n new.unknown =
      sym (payloads_same n old.unknown) ∙ ap (map (λ (r : ℕ × Payload). r.1)) (sym same) ∙ payloads_same n new.unknown in
      subst (AllByRecursion (FitsPayload depth)) path (was.records n)

  more_fit : (n : ℕ) → keeps.numbered n new.unknown ≡ keeps.numbered n old.unknown ++ keeps.numbered n rs → RecordsFit n
  more_fit n behind =
      let path : payloads n new.unknown ≡ payloads n old.unknown ++ keeps.payloads n rs =
      sym (payloads_same n new.unknown) ∙ ap (map (λ (r : ℕ × Payload). r.1)) behind
      ∙ map-append (λ (r : ℕ × Payload). r.1) (keeps.numbered n old.unknown) (keeps.numbered n rs)
      ∙ ap (λ ps. ps ++ keeps.payloads n rs) (payloads_same n old.unknown) in
      let fit = all_map (IsFine levels) (FitsPayload depth) (keeps.payloads n rs) (λ p fine. payload_deeper levels depth le p fine.0) (fine_at levels n rs fine) in
      subst (AllByRecursion (FitsPayload depth)) (sym path) (all_append (FitsPayload depth) (payloads n old.unknown) (keeps.payloads n rs) (was.records n) fit)

  behind_carries : Carries Q depth new
  behind_carries = record {
    fields = by_number d (λ n. (v : Value) → value_at new.fields n ≡ Some v → FirmIn Q v)
        field_carried
        (λ x owns none v at. was.fields (extension_type x).number v (stays (extension_type x).number (none_owned d (extension_type x).number none) v at))
        (λ n none also v at. was.fields n v (stays n (none_owned d n none) v at));
    extensions = by_number d (λ n. (v : Value) → value_at new.extensions n ≡ Some v → FirmIn Q v)
        (λ f owns v at. was.extensions (field_type f).number v (sym (left.apart f owns) ∙ at))
        (λ x owns none. extension_carried x owns (none_owned d (extension_type x).number none))
        (λ n none also v at. was.extensions n v (sym (left.unextended n (none_extends n also)) ∙ at));
    ordered = left.ordered;
    records = by_number d RecordsFit
        (λ f owns. still_fit (field_type f).number (left.unknown.declared (field_type f).number (inl (f, owns, refl))))
        (λ x owns none. still_fit (extension_type x).number (left.unknown.declared (extension_type x).number (inr (x, owns, refl))))
        (λ n none also. more_fit n (left.unknown.behind n (not_declared d n none also)));
  }

-- ---- at each depth
module _ (pool : PoolType) (sound : IsSound pool) where
  abbrev IsFirmBelow : ℕ → ℕ → Type 0
  IsFirmBelow levels depth = (grouped : Bool) (c : Content) (m : DynamicMessage) (ps : List Payload) → m.descriptor.pool.now ≡ pool → Begins (Firm pool depth) m.descriptor c → AllByRecursion (IsFine levels) ps
      → TakenAt levels grouped m.descriptor c (content_of m) ps → Firm pool depth m

  -- what begins carries what is firm, and is exclusive
  begun : (depth : ℕ) (d : MessageDescriptor) (c : Content) → Begins (Firm pool (suc depth)) d c → Carries (Firm pool depth) depth c × AreChosen d c.choices c.fields
  begun depth d c (inl empty) =
      subst (λ (c : Content). Carries (Firm pool depth) depth c × AreChosen d c.choices c.fields) (sym empty) (nothing_carries (Firm pool depth) depth d, (nothing_suits (SuitsBelow zero) d).chosen)
  begun depth d c (inr (b, same, its, firm)) =
      subst (λ (c : Content). Carries (Firm pool depth) depth c × AreChosen d c.choices c.fields) its
      (firm.2, subst (λ (d : MessageDescriptor). AreChosen d (choices_of b) (fields_of b)) same firm.1)

  level_carries : (levels depth : ℕ) → levels ≤ depth → IsFirmBelow levels depth → (d : MessageDescriptor) → d.pool.now ≡ pool → (old new : Content) (rs : List (ℕ × Payload)) → LeftBehind (TakesAt levels) d old new rs
      → StaysUnowned d old new → AreFine levels rs → Carries (Firm pool depth) depth old → Carries (Firm pool depth) depth new
  level_carries levels depth le below d pooled old new rs left stays fine was =
      behind_carries (TakesAt levels) (Firm pool depth) d (subst IsSound (sym pooled) sound) levels depth le its_pool (entry_fine levels) inner old new rs left stays fine was where
        its_pool : (m : DynamicMessage) → Firm pool depth m → m.descriptor.pool.now ≡ d.pool.now
        its_pool m firm = firm_pool pool depth m firm ∙ sym pooled

        inner : (grouped : Bool) (c : Content) (m : DynamicMessage) (ps : List Payload) → m.descriptor.pool.now ≡ d.pool.now → Begins (Firm pool depth) m.descriptor c → AllByRecursion (IsFine levels) ps
            → TakenAt levels grouped m.descriptor c (content_of m) ps → Firm pool depth m
        inner grouped c m ps same begins all taken = below grouped c m ps (same ∙ pooled) begins all taken

  firm_below : (levels depth : ℕ) → levels ≤ depth → IsFirmBelow levels depth
  unfolding TakenAt
  firm_below zero depth le grouped c m ps pooled begins fine h = absurd h
  firm_below (suc levels) zero le grouped c m ps pooled begins fine h = absurd (omega (arith, le))
  firm_below (suc levels) (suc depth) le grouped c m ps pooled begins fine h =
      let start = begun depth m.descriptor c begins in
      let left = left_behind (TakesAt levels) m.descriptor c (content_of m) h.0 start.0.ordered start.1 h.2 in (
        pooled,
        left.1,
        level_carries levels depth (omega (arith, le)) (firm_below levels depth (omega (arith, le))) m.descriptor pooled c (content_of m) h.0 left.0
            (unowned_stay (TakesAt levels) m.descriptor c (content_of m) h.0 h.2) (all_inside_fine grouped levels ps h.0 fine h.1) start.0,
      )

-- ---- where nothing stood
pub decoded_solid : (d : MessageDescriptor) → IsSound d.pool.now → (bytes : List ℕ) → AreBytes bytes → (m : DynamicMessage) → IsSpelled d bytes m → Solid 101 m
decoded_solid d sound bytes b m spelled =
    let left = spelled_alone d bytes m spelled in
    let stays : StaysUnowned d nothing (content_of m) = λ n none v at. absurd (cc (sym (left.2.unowned n none refl) ∙ at)) in
    carries_solid d.pool.now 100 m
    (level_carries d.pool.now sound 100 100 (omega arith) (firm_below d.pool.now sound 100 100 (omega arith)) d refl nothing (content_of m) left.0 left.2 stays
    (spelled_fine 100 bytes left.0 b left.1) (nothing_carries (Firm d.pool.now 100) 100 d))

-- ---- behind what a message held
module _ (levels : ℕ) (enough : 100 ≤ levels) (pool : PoolType) (sound : IsSound pool) (old new : DynamicMessage) (bytes : List ℕ) (b : AreBytes bytes) where
  pub merged_solid : IsMerged old.descriptor bytes old new → Tidy pool (suc levels) old → Solid (suc levels) old → Solid (suc levels) new
  merged_solid (rs, copy, spelled, copied, sorted, merges, accepts) tidy solid =
      let d = old.descriptor in
      let firm : Firm pool (suc levels) old = solid_firm pool (suc levels) old tidy solid in
      let its = copy_carries (Firm pool levels) (copies_firm pool levels) levels (content_of old) copy copied sorted firm.2 in
      let chosen = chosen_copied d (choices_of old) copy.choices (fields_of old) copy.fields copied.choices copied.fields firm.1 in
      let left = left_behind (TakesAt 100) d copy (content_of new) rs its.ordered chosen merges in
      carries_solid pool levels new
      (level_carries pool sound 100 levels enough (firm_below pool sound 100 levels enough) d firm.0 copy (content_of new) rs left.0 (unowned_stay (TakesAt 100) d copy (content_of new) rs merges)
      (spelled_fine 100 bytes rs b spelled) its)
