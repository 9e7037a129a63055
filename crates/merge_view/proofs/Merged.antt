-- What records leave behind what a message holds, number by number and level by level.
use Rattle.std.proofs.Common.{◌≡◌, ◌<◌, ℕ, zero, suc, Bool, true, false, true≢false, cond, List, [], ◌∷◌, ◌++◌, map, length, Option, Some, None, option_map, refl, sym, ap, ◌∙◌, subst}
use Rattle.std.specs.Option.{IsSome}
use Rattle.std.proofs.lemmas.List.{map-append}
use mathlib.Core.Path.{fun_ext}
use Rattle.reflect_tables.specs.Types.{PoolType, FieldType}
use Rattle.reflect_pool.specs.FieldsLeft.{field_type}
use Rattle.reflect_pool.specs.Shapes.{is_repeated, holds_list, holds_map}
use Rattle.reflect_pool.specs.declared.message.MessageDescriptor.{MessageDescriptor}
use Rattle.reflect_pool.specs.declared.field.FieldDescriptor.{FieldDescriptor}
use Rattle.reflect_pool.specs.declared.extension.ExtensionDescriptor.{ExtensionDescriptor}
use Rattle.reflect_wire.specs.Records.{Payload}
use Rattle.reflect_entries.specs.Entries.{value_at}
use Rattle.reflect_scalar.specs.FieldTypes.{extension_type}
use Rattle.reflect_message.specs.Contents.{Content}
use Rattle.reflect_message.specs.Declares.{Owns, OwnsExtension}
use Rattle.reflect_message.specs.Known.{holds_floats, known_field, known_extension}
use Rattle.reflect_message.specs.Lists.{list_items}
use Rattle.reflect_message.specs.Maps.{map_entries}
use Rattle.reflect_message.specs.Names.{Value}
use Rattle.reflect_decode.specs.Keeps as keeps
use Rattle.reflect_decode.specs.Levels.{TakenAt, TakesAt, MergesAt}
use Rattle.reflect_decode.specs.Messages.{Takes}
use Rattle.reflect_decode.specs.Scalars.{LeavesAs}
use Rattle.reflect_decode.specs.Spares.{Merges}
use Rattle.reflect_decode.specs.Suits.{Suiting, SuitsAs, HeldSuits, SuitsBy, SuitsBelow, Suits}
use Rattle.reflect_decode.specs.Taking.{TakesAs, Leaves}
use Rattle.message_laws.specs.MapKeys.{HaveMapKeys}
use Rattle.protobuf_model.specs.Values as model
use Rattle.protobuf_model.specs.Values.{Held, Message, records, absent}
use Rattle.protobuf_model.specs.Types.{Name, Field, Types, one, many, keyed, oneof_of}
use Rattle.protobuf_model.specs.Types as kinds
use Rattle.protobuf_model.specs.Meaning.{Merge, payloads, taken, kept, held_by, held, meaning_by, meaning}
use Rattle.protobuf_model.specs.Typed.{IsHeldOf, IsTyped}
use Rattle.message_view.specs.Sound.{HaveEntryDefaults}
use Rattle.message_view.specs.Types.{name_at, part_of, key_of, entry_part, values_of, label_of, field_of, oneof_at, either_field, field_at}
use Rattle.message_view.specs.Views.{held_in, held_either, content_view, contents_view, view_of}
use Rattle.message_view.proofs.Elements.{Nests}
use Rattle.message_view.proofs.Entries.{Sort, plain, floating, message_type, sort_of}
use Rattle.message_view.proofs.Fields.{by_number, owned, owned_whole, extension_owned, extension_whole, none_owned, not_declared}
use Rattle.message_view.proofs.Left.{Leave, alone, field_stands, list_is, entry_at, field_left, inner_of, joined_at, meaning_at, leaves_meaning, merged_left}
use Rattle.message_view.proofs.Oneofs.{payloads_same, no_oneof}
use Rattle.message_view.proofs.Accepting.{not_float}
use Rattle.message_view.proofs.Seen.{value_at-view}
use Rattle.merge_view.proofs.Elements.{single_behind, list_stays, values_behind, messages_behind, GoesOn, SuitsPart, message_behind}
use Rattle.merge_view.proofs.Entries.{map_stays, map_behind}

module _ (pool : PoolType) (keyed_maps : HaveMapKeys pool) (defaults : HaveEntryDefaults pool) (inner : Merge) (takes : Takes) (nests : Nests pool inner takes)
    (suits : Suiting) (typed : Name → Message → Type 0) (levels : ℕ) (goes_on : GoesOn pool inner takes suits typed) (o : Option ℕ) (x : Bool) where
  abbrev before : FieldType → Value → Held
  before f v = held_in pool f (Some (content_view v))

  -- the records of a field that holds a value, by its label
  abbrev Goal : FieldType → Value → Option Value → List Payload → Bool → Bool → Type 0
  Goal f v new ps map_too repeated =
      held_by inner (part_of pool (cond map_too (entry_part pool f 2) f)) (cond map_too (keyed (key_of pool (entry_part pool f 1))) (cond repeated (many f.packed) one)) (before f v) ps ≡ held_in pool f (option_map content_view new)

  abbrev Typed : FieldType → Value → Bool → Bool → Type 0
  Typed f v map_too repeated =
      SuitsPart typed levels o x (part_of pool (cond map_too (entry_part pool f 2) f)) (cond map_too (keyed (key_of pool (entry_part pool f 1))) (cond repeated (many f.packed) one)) (before f v)

  there : {X : Type 0} (o : Option X) → IsSome o → (y : X) × (o ≡ Some y)
  there None h = absurd (cc h)
  there (Some y) h = (y, refl)

  some_behind : (f : FieldType) (v : Value) (new : Option Value) (p : Payload) (ps : List Payload) → holds_floats pool f ≡ false → SuitsAs suits pool f.kind (holds_map pool f) (holds_list pool f) v
      → Typed f v (holds_map pool f) (is_repeated f.cardinality) → Leaves takes pool f (Some v) new (p ∷ ps) → Goal f v new (p ∷ ps) (holds_map pool f) (is_repeated f.cardinality)
  some_behind f v new p ps whole shape is_typed leaves = by (holds_map pool f) refl where
    listed : holds_map pool f ≡ false → (b : Bool) → holds_list pool f ≡ b → SuitsAs suits pool f.kind false b v → Typed f v false b → Sort f.kind → Goal f v new (p ∷ ps) false b
    listed no_map b list fits is (floating e) = absurd (true≢false (sym e ∙ not_float pool f whole))
    listed no_map true list fits is (plain type) = values_behind inner pool f (Some v) new (p ∷ ps) type (subst (λ b. LeavesAs b pool f.kind (Some v) new (p ∷ ps)) list (leaves.0 type))
    listed no_map false list fits is (plain type) = single_behind inner pool f (before f v) new (p ∷ ps) type (subst (λ b. LeavesAs b pool f.kind (Some v) new (p ∷ ps)) list (leaves.0 type))
    listed no_map true list fits is (message_type type) = messages_behind pool inner takes nests f (Some v) new (p ∷ ps) (subst (λ b. TakesAs b (takes.message f.group) pool f.kind (Some v) new (p ∷ ps)) list (leaves.1 type no_map))
    listed no_map false list fits is (message_type type) =
        message_behind pool inner takes suits typed levels goes_on o x f v new p ps (fits type) is (subst (λ b. TakesAs b (takes.message f.group) pool f.kind (Some v) new (p ∷ ps)) list (leaves.1 type no_map))

    by : (b : Bool) → holds_map pool f ≡ b → Goal f v new (p ∷ ps) (holds_map pool f) (is_repeated f.cardinality)
    by true is =
        subst (λ b. Goal f v new (p ∷ ps) b (is_repeated f.cardinality)) (sym is)
        (map_behind pool keyed_maps defaults inner takes nests f whole is typed levels o x (Some v) new (p ∷ ps) (subst (λ b. Typed f v b (is_repeated f.cardinality)) is is_typed) (leaves.2 is))
    by false is =
        let list = list_is pool f (holds_list pool f) is refl in
        let fits = subst (λ b. SuitsAs suits pool f.kind b (holds_list pool f) v) is shape in
        let types = subst (Typed f v false) list (subst (λ b. Typed f v b (is_repeated f.cardinality)) is is_typed) in
        subst (λ b. Goal f v new (p ∷ ps) b (is_repeated f.cardinality)) (sym is) (subst (Goal f v new (p ∷ ps) false) (sym list) (listed is (holds_list pool f) refl fits types (sort_of f.kind)))

  -- without records what is held stays
  none_behind : (f : FieldType) (v : Value) → SuitsAs suits pool f.kind (holds_map pool f) (holds_list pool f) v → Goal f v (Some v) [] (holds_map pool f) (is_repeated f.cardinality)
  none_behind f v shape = by (holds_map pool f) refl where
    no_records : (k : kinds.Kind) (h : Held) → taken inner (part_of pool f) k h [] ≡ h
    no_records (kinds.scalar k) h = refl
    no_records (kinds.nested frame u) h = refl

    listed : (b : Bool) → SuitsAs suits pool f.kind false b v → Goal f v (Some v) [] false b
    listed true fits = let vs = there (list_items v) fits in list_stays pool f (Some v) vs.0 vs.1
    listed false fits = no_records (part_of pool f).kind (before f v)

    by : (b : Bool) → holds_map pool f ≡ b → Goal f v (Some v) [] (holds_map pool f) (is_repeated f.cardinality)
    by true is =
        let es = there (map_entries v) (subst (λ b. SuitsAs suits pool f.kind b (holds_list pool f) v) is shape) in
        subst (λ b. Goal f v (Some v) [] b (is_repeated f.cardinality)) (sym is) (map_stays pool f (Some v) es.0 es.1)
    by false is =
        let list = list_is pool f (holds_list pool f) is refl in
        let fits = subst (λ b. SuitsAs suits pool f.kind b (holds_list pool f) v) is shape in
        subst (λ b. Goal f v (Some v) [] b (is_repeated f.cardinality)) (sym is) (subst (Goal f v (Some v) [] false) (sym list) (listed (holds_list pool f) fits))

  -- what the records of a field leave behind what it holds
  field_behind : (f : FieldType) (old new : Option Value) (ps : List Payload) → holds_floats pool f ≡ false → HeldSuits suits pool f old → IsHeldOf typed levels (Some (field_of pool o x f)) (held_in pool f (option_map content_view old)) → Leaves takes pool f old new ps
      → held_by inner (part_of pool (values_of pool f)) (label_of pool f) (held_in pool f (option_map content_view old)) ps ≡ held_in pool f (option_map content_view new)
  field_behind f None new ps whole shape is leaves = field_left pool keyed_maps defaults inner takes nests f new ps whole leaves
  field_behind f (Some v) new [] whole shape is leaves = none_behind f v shape ∙ sym (ap (λ o. held_in pool f (option_map content_view o)) leaves)
  field_behind f (Some v) new (p ∷ ps) whole shape is leaves = some_behind f v new p ps whole shape is leaves

-- a message that holds what suits its type
module _ (d : MessageDescriptor) (keyed_maps : HaveMapKeys d.pool.now) (defaults : HaveEntryDefaults d.pool.now) (types : Types) (told : (n : ℕ) → types (name_at d.pool.now d.index) n ≡ field_at d.pool.now d.index n)
    (inner : Merge) (takes : Takes) (nests : Nests d.pool.now inner takes) (suits : Suiting) (typed : Name → Message → Type 0) (levels : ℕ) (goes_on : GoesOn d.pool.now inner takes suits typed)
    (old new : Content) (rs : List (ℕ × Payload)) (merges : Merges takes d old new rs) (suited : SuitsBy suits d old)
    (holds : (n : ℕ) → IsHeldOf typed levels (types (name_at d.pool.now d.index) n) (view_of d.pool.now d.index old n)) where
  abbrev type : ℕ → Option Field
  type = types (name_at d.pool.now d.index)

  abbrev start : ℕ → Held
  start n = view_of d.pool.now d.index old n

  abbrev Stands : ℕ → Type 0
  Stands n = Leave d types told inner takes start rs n (view_of d.pool.now d.index new n)

  abbrev seen : Content → Option FieldType → Option FieldType → ℕ → Held
  seen c f x n = held_either d.pool.now f x (value_at (contents_view c.fields) n) (value_at (contents_view c.extensions) n) (payloads n c.unknown)

  -- under the number of a field
  at_field : (f : FieldDescriptor) → Owns d f → Stands (field_type f).number
  at_field f owns =
      let g = field_type f in
      let n = g.number in
      let pool = d.pool.now in
      let is = owned d f owns in
      let before = value_at old.fields n in
      let after = value_at new.fields n in
      let whole = owned_whole d f owns in
      let field : type n ≡ Some (field_of pool (oneof_at pool d.index g) false g) = told n ∙ ap (λ o. either_field pool d.index o (known_extension pool d.index n)) is in
      let seen_as : (c : Content) → held_in pool g (option_map content_view (value_at c.fields n)) ≡ view_of pool d.index c n = λ c. ap (held_in pool g) (sym (value_at-view c.fields n)) ∙ sym (ap (λ o. seen c o (known_extension pool d.index n) n) is) in
      let fits : HeldSuits suits pool g before = subst (λ p. HeldSuits suits p g before) owns.0.1 (suited.fields f owns) in
      let is_typed : IsHeldOf typed levels (Some (field_of pool (oneof_at pool d.index g) false g)) (held_in pool g (option_map content_view before)) =
      subst (IsHeldOf typed levels (Some (field_of pool (oneof_at pool d.index g) false g))) (sym (seen_as old)) (subst (λ o. IsHeldOf typed levels o (start n)) field (holds n)) in
      field_stands d types told inner takes start rs f owns before after (view_of pool d.index new n)
      (λ ps leaves. ap (λ o. held inner o (start n) ps) field ∙ ap (λ h. held inner (Some (field_of pool (oneof_at pool d.index g) false g)) h ps) (sym (seen_as old))
      ∙ field_behind pool keyed_maps defaults inner takes nests suits typed levels goes_on (oneof_at pool d.index g) false g before after ps whole fits is_typed leaves ∙ seen_as new)
      (λ ps leaves. ap (λ o. held inner o absent ps) field ∙ field_left pool keyed_maps defaults inner takes nests g after ps whole leaves ∙ seen_as new)
      ((merges.filled suited.chosen).each f owns)

  -- of an extension, where no field has it
  at_extension : (x : ExtensionDescriptor) → OwnsExtension d x → known_field d.pool.now d.index (extension_type x).number ≡ None → Stands (extension_type x).number
  at_extension x owns none =
      let g = extension_type x in
      let n = g.number in
      let pool = d.pool.now in
      let free = none_owned d n none in
      let is = extension_owned d x owns in
      let before = value_at old.extensions n in
      let after = value_at new.extensions n in
      let both : either_field pool d.index (known_field pool d.index n) (known_extension pool d.index n) ≡ Some (field_of pool None true g) =
      ap (λ o. either_field pool d.index o (known_extension pool d.index n)) none ∙ ap (either_field pool d.index None) is in
      let field : type n ≡ Some (field_of pool None true g) = told n ∙ both in
      let seen_as : (c : Content) → held_in pool g (option_map content_view (value_at c.extensions n)) ≡ view_of pool d.index c n =
      λ c. ap (held_in pool g) (sym (value_at-view c.extensions n)) ∙ sym (ap (λ o. seen c o (known_extension pool d.index n) n) none ∙ ap (λ o. seen c None o n) is) in
      let fits : HeldSuits suits pool g before = subst (λ p. HeldSuits suits p g before) owns.0.0 (suited.extensions x owns free) in
      let is_typed : IsHeldOf typed levels (Some (field_of pool None true g)) (held_in pool g (option_map content_view before)) =
      subst (IsHeldOf typed levels (Some (field_of pool None true g))) (sym (seen_as old)) (subst (λ o. IsHeldOf typed levels o (start n)) field (holds n)) in
      let leaves = subst (λ p. Leaves takes p g before after (keeps.payloads n rs)) owns.0.0 (merges.extended.each x owns free) in
      alone d types told inner takes start rs n (view_of pool d.index new n) (no_oneof d type told n (ap oneof_of field) rs)
      (ap (held inner (type n) (start n)) (sym (payloads_same n rs)) ∙ ap (λ o. held inner o (start n) (keeps.payloads n rs)) field
      ∙ ap (λ h. held inner (Some (field_of pool None true g)) h (keeps.payloads n rs)) (sym (seen_as old))
      ∙ field_behind pool keyed_maps defaults inner takes nests suits typed levels goes_on None true g before after (keeps.payloads n rs) (extension_whole d x owns) fits is_typed leaves ∙ seen_as new)

  -- and of neither
  at_neither : (n : ℕ) → known_field d.pool.now d.index n ≡ None → known_extension d.pool.now d.index n ≡ None → Stands n
  at_neither n none also =
      let field : type n ≡ None = told n ∙ ap (λ o. either_field d.pool.now d.index o (known_extension d.pool.now d.index n)) none ∙ ap (either_field d.pool.now d.index None) also in
      let seen_as : (c : Content) → records (payloads n c.unknown) ≡ view_of d.pool.now d.index c n = λ c. sym (ap (λ o. seen c o (known_extension d.pool.now d.index n) n) none ∙ ap (λ o. seen c None o n) also) in
      let behind : payloads n new.unknown ≡ payloads n old.unknown ++ payloads n rs =
      sym (payloads_same n new.unknown) ∙ ap (map (λ (r : ℕ × Payload). r.1)) (merges.unknown.behind n (not_declared d n none also))
      ∙ map-append (λ (r : ℕ × Payload). r.1) (keeps.numbered n old.unknown) (keeps.numbered n rs) ∙ ap (λ ps. ps ++ keeps.payloads n rs) (payloads_same n old.unknown) ∙ ap (λ ps. payloads n old.unknown ++ ps) (payloads_same n rs) in
      alone d types told inner takes start rs n (view_of d.pool.now d.index new n) (no_oneof d type told n (ap oneof_of field) rs)
      (ap (λ o. held inner o (start n) (payloads n rs)) field ∙ ap (λ h. records (kept h ++ payloads n rs)) (sym (seen_as old)) ∙ sym (ap records behind) ∙ seen_as new)

  all_behind : meaning_by inner types (name_at d.pool.now d.index) (view_of d.pool.now d.index old) rs ≡ view_of d.pool.now d.index new
  all_behind = fun_ext (by_number d Stands at_field at_extension at_neither)

-- which messages stand one level below
abbrev typed_of : ℕ → Types → Name → Message → Type 0
typed_of zero types = λ u m. ⊥
typed_of (suc levels) types = IsTyped levels types

contents_of : (levels : ℕ) (types : Types) (t : Name) (m : Message) → IsTyped levels types t m → (n : ℕ) → IsHeldOf (typed_of levels types) levels (types t n) (m n)
contents_of zero types t m h = h.contents
contents_of (suc levels) types t m h = h.contents

module _ (pool : PoolType) (keyed_maps : HaveMapKeys pool) (defaults : HaveEntryDefaults pool) (types : Types) (told : (i n : ℕ) → i < length pool.messages → types (name_at pool i) n ≡ field_at pool i n) where
  nests_at : (levels : ℕ) → Nests pool (inner_of levels types) (TakesAt levels)
  unfolding TakenAt
  nests_at zero = record { messages = λ grouped d there c ps h. absurd h; entries = λ p rs h. entry_at zero p rs h }
  nests_at (suc levels) = record {
    messages = λ grouped d there c ps h.
        ap (meaning levels types (name_at pool d.index) model.nothing) (joined_at grouped levels ps h.0 h.1)
        ∙ leaves_meaning pool keyed_maps defaults types told levels d there c h.0 (merged_left (TakesAt levels) d c h.0 h.2);
    entries = λ p rs h. entry_at (suc levels) p rs h;
  }

  -- the message that was held is of any depth
  whole : (levels depth : ℕ) → GoesOn pool (inner_of levels types) (TakesAt levels) (SuitsBelow levels) (typed_of depth types) → (d : MessageDescriptor) → d.pool.now ≡ pool → (old new : Content) (rs : List (ℕ × Payload))
      → Suits levels d old → IsTyped depth types (name_at pool d.index) (view_of pool d.index old) → MergesAt levels d old new rs
      → meaning levels types (name_at pool d.index) (view_of pool d.index old) rs ≡ view_of pool d.index new
  whole levels depth goes_on d there old new rs suited is_typed merges =
      let here = sym there in
      let holds = contents_of depth types (name_at pool d.index) (view_of pool d.index old) is_typed in
      subst (λ p. meaning levels types (name_at p d.index) (view_of p d.index old) rs ≡ view_of p d.index new) there
      (ap (λ (m : Merge). m (name_at d.pool.now d.index) (view_of d.pool.now d.index old) rs) (meaning_at levels types)
      ∙ all_behind d (subst HaveMapKeys here keyed_maps) (subst HaveEntryDefaults here defaults) types
      (λ n. subst (λ p. types (name_at p d.index) n ≡ field_at p d.index n) here (told d.index n (subst (λ p. d.index < length p.messages) there d.in_range)))
      (inner_of levels types) (TakesAt levels) (subst (λ p. Nests p (inner_of levels types) (TakesAt levels)) here (nests_at levels))
      (SuitsBelow levels) (typed_of depth types) depth (subst (λ p. GoesOn p (inner_of levels types) (TakesAt levels) (SuitsBelow levels) (typed_of depth types)) here goes_on)
      old new rs merges suited (subst (λ p. (n : ℕ) → IsHeldOf (typed_of depth types) depth (types (name_at p d.index) n) (view_of p d.index old n)) here holds))

  goes_on_at : (levels depth : ℕ) → GoesOn pool (inner_of levels types) (TakesAt levels) (SuitsBelow levels) (typed_of depth types)
  unfolding TakenAt
  goes_on_at zero depth = record { messages = λ grouped d there old new ps suited is_typed h. absurd h }
  goes_on_at (suc levels) zero = record { messages = λ grouped d there old new ps suited is_typed h. absurd is_typed }
  goes_on_at (suc levels) (suc depth) = record {
    messages = λ grouped d there old new ps suited is_typed h.
        ap (meaning levels types (name_at pool d.index) (view_of pool d.index old)) (joined_at grouped levels ps h.0 h.1)
        ∙ whole levels depth (goes_on_at levels depth) d there old new h.0 suited is_typed h.2;
  }

  -- what records leave is what they mean behind what was held
  pub merged_meaning : (levels depth : ℕ) (d : MessageDescriptor) → d.pool.now ≡ pool → (old new : Content) (rs : List (ℕ × Payload))
      → Suits levels d old → IsTyped depth types (name_at pool d.index) (view_of pool d.index old) → MergesAt levels d old new rs
      → meaning levels types (name_at pool d.index) (view_of pool d.index old) rs ≡ view_of pool d.index new
  merged_meaning levels depth = whole levels depth (goes_on_at levels depth)
