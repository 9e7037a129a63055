-- What bytes spell by types of one name in two pools that say the same to texts is seen alike, and what they spell by the one
-- the other does not refuse, whatever the bytes are.
use Rattle.std.proofs.Common.{◌≡◌, ◌≢◌, ◌||◌, not, ℕ, Bool, cond, List, Option, None, Some, option_map, refl, sym, ap, ◌∙◌}
use Rattle.std.specs.Option.{option_and_then}
use Rattle.message_laws.proofs.Excluding.{excluded}
use Rattle.message_view.specs.Singles.{single_view}
use Rattle.message_view.specs.Sound.{IsSound}
use Rattle.message_view.specs.Types.{default_of, name_at, types_of}
use Rattle.message_view.specs.Views.{content_view, held_either, held_in, view, view_of}
use Rattle.message_view.proofs.Left.{AreLeft, leaves_meaning}
use Rattle.message_view.proofs.Seen.{single_seen, view_opened}
use Rattle.message_view.proofs.Sound.{named}
use Rattle.option_parts.specs.OptionTypes.{IsTruthValue}
use Rattle.protobuf_model.specs.Meaning.{meaning, payloads}
use Rattle.protobuf_model.specs.Reader.{list_of}
use Rattle.protobuf_model.specs.Scalars.{same}
use Rattle.protobuf_model.specs.Values.{Held, absent, content, nothing, truth}
use Rattle.protobuf_model.specs.Values as model
use Rattle.protobuf_model.proofs.Reading.{listed_back}
use Rattle.reflect_decode.specs.Levels.{TakesAt}
use Rattle.reflect_decode.specs.Refused.{BodyFault}
use Rattle.reflect_decode.specs.Spelled.{IsSpelled, TellsWhy}
use Rattle.reflect_entries.specs.Entries.{value_at}
use Rattle.reflect_message.specs.Contents.{content_of}
use Rattle.reflect_message.specs.Held.{extensions_of, fields_of, unknown_of}
use Rattle.reflect_message.specs.Known.{known_extension, numbered_field}
use Rattle.reflect_message.specs.Names.{DynamicMessage, Value}
use Rattle.reflect_options.specs.Settled.{truth_in, truth_said}
use Rattle.reflect_pool.specs.declared.message.MessageDescriptor.{MessageDescriptor}
use Rattle.reflect_scalar.specs.Cases.{truth_of}
use Rattle.reflect_scalar.specs.Singles as held
use Rattle.reflect_tables.specs.Types.{FieldType}
use Rattle.reflect_wire.specs.Faults.{TellsTrue}
use Rattle.reflect_wire.specs.Records.{Payload, SpellsRecords}
use Rattle.reflect_wire.specs.Views.{records_of}
use Rattle.reflect_wire.specs.declared.wire_error.WireError.{WireError}
use Rattle.reflect_wire.specs.declared.wire_error.WireError.TheVariants as errors
use Rattle.reflect_wire.proofs.Spelling.{one_list}
use Rattle.settled_records.proofs.Kept.{IsPlain, PlainAt}
use Rattle.text_view.proofs.Puts.{seen_at, shown}
use Rattle.stored_options.proofs.OwnTruth.{said_at}
use Rattle.stored_options.proofs.Scoped.{truth_known}
use Rattle.stored_options.proofs.TwinPools.{AreTwinPools, name_same, types_same}
use Rattle.stored_options.proofs.TwinReading.{accepted_too}

-- ---- one reading

-- bytes spell one list of records
one_rows : (bytes : List ℕ) (rs ts : List (ℕ × Payload)) → SpellsRecords 100 bytes (records_of rs) → SpellsRecords 100 bytes (records_of ts) → rs ≡ ts
one_rows bytes rs ts h k = sym (listed_back rs) ∙ ap list_of (one_list 100 bytes (records_of rs) (records_of ts) h k) ∙ listed_back ts

-- what is seen is what the records mean
read_view : (d : MessageDescriptor) → IsSound d.pool.now → (bytes : List ℕ) (m : DynamicMessage) → m.descriptor ≡ d → (h : IsSpelled d bytes m)
    → view m ≡ meaning 100 (types_of d.pool.now) (name_at d.pool.now d.index) nothing h.0
read_view d sound bytes m type (rs, spelled, keeps, some, also, fields, (extensions, apart), accepts, ordered) =
    let pool = d.pool.now in
    let left : AreLeft (TakesAt 100) d (content_of m) rs = record { unknown = keeps; fields = fields; extensions = extensions } in
    view_opened m ∙ ap (λ (d : MessageDescriptor). view_of d.pool.now d.index (content_of m)) type
    ∙ sym (leaves_meaning pool sound.keys sound.defaults (types_of pool) (named pool sound.names) 100 d refl (content_of m) rs left)

module _ (d e : MessageDescriptor) (twins : AreTwinPools d.pool.now e.pool.now) (index : d.index ≡ e.index) (bytes : List ℕ) where
  -- messages that they spell by two descriptors of one type
  pub spelled_twice : (m n : DynamicMessage) → m.descriptor ≡ d → n.descriptor ≡ e → IsSpelled d bytes m → IsSpelled e bytes n → view m ≡ view n
  spelled_twice m n of also h k =
      let rows = one_rows bytes h.0 k.0 h.1 k.1 in
      read_view d twins.sound bytes m of h
      ∙ (λ i. meaning 100 (types_same d.pool.now e.pool.now twins i) (name_same d.pool.now e.pool.now twins d.index e.index index i) nothing (rows i))
      ∙ sym (read_view e twins.also bytes n also k)

  -- what is told is true of the bytes, but for want of memory
  told_fault : (P : List ℕ → WireError → Type 0) (w : WireError) → w ≢ errors.Memory → TellsTrue P bytes w → P bytes w
  told_fault P errors.Memory other why = absurd (other refl)
  told_fault P w other why = why

  -- what is told of bytes by one descriptor is not so where they spell a message by the other
  pub not_told : (n : DynamicMessage) → IsSpelled e bytes n → (w : WireError) → w ≢ errors.Memory → TellsWhy d bytes w → ⊥
  not_told n (rs, spelled, keeps, some, also, fields, extended, accepts, ordered) w other why =
      excluded d.pool.now twins.sound.keys 100 d.index bytes w (told_fault (BodyFault 100 d.pool.now d.index None) w other why) rs spelled
      (accepted_too 100 d e twins (name_same d.pool.now e.pool.now twins d.index e.index index) rs accepts)

-- ---- the truth value that is seen under a number

abbrev pub seen_truth : Held → Option Bool
seen_truth (content (model.single (truth b))) = Some b
seen_truth h = None

single_truth : (w : held.Single) → truth_of w ≡ seen_truth (content (model.single (single_view w)))
single_truth (held.truth b) = refl
single_truth w = refl

module _ (d : MessageDescriptor) (sound : IsSound d.pool.now) (n : ℕ) (name : List ℕ) (g : FieldType)
    (is : numbered_field d.pool.now d.index n ≡ Some g) (truth_value : IsTruthValue name g) where
  -- a value that is no message, no list and no map
  held_truth : (o : Option Value) → IsPlain o → truth_in o ≡ seen_truth (held_in d.pool.now g (option_map content_view o))
  held_truth None plain = refl
  held_truth (Some v) plain =
      let w = plain v refl in
      ap (option_and_then truth_of) w.1 ∙ single_truth w.0
      ∙ sym (ap (λ c. seen_truth (held_in d.pool.now g (Some c))) (single_seen v w.0 w.1)
      ∙ ap (λ b. seen_truth (cond (b || not (same (single_view w.0) (default_of d.pool.now g))) (content (model.single (single_view w.0))) absent)) truth_value.presence)

  pub truth_seen : (m : DynamicMessage) → m.descriptor ≡ d → PlainAt n m → truth_said n m ≡ seen_truth (view m n)
  truth_seen m own plain =
      said_at d sound n name g is truth_value m own ∙ held_truth (value_at (fields_of m) n) plain
      ∙ sym (ap seen_truth (seen_at m n ∙ ap (λ c. shown c m n) own
      ∙ ap (λ o. held_either d.pool.now o (known_extension d.pool.now d.index n) (option_map content_view (value_at (fields_of m) n)) (option_map content_view (value_at (extensions_of m) n)) (payloads n (unknown_of m)))
      (truth_known d.pool.now sound d.index n name g is truth_value)))
