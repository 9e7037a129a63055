-- What records leave in a message, number by number and level by level.
use Rattle.std.proofs.Common.{◌≡◌, ◌<◌, inl, inr, ℕ, zero, suc, Bool, true, false, true≢false, cond, not, ◌&&◌, ◌||◌, List, [], ◌∷◌, ◌++◌, map, length, Option, Some, None, option_map, refl, sym, ap, ◌∙◌, subst}
use mathlib.Core.Path.{fun_ext}
use Rattle.reflect_tables.specs.Types.{PoolType, FieldType}
use Rattle.reflect_pool.specs.FieldsLeft.{field_type}
use Rattle.reflect_pool.specs.Shapes.{is_repeated, holds_list, holds_map}
use Rattle.reflect_pool.specs.declared.message.MessageDescriptor.{MessageDescriptor}
use Rattle.reflect_pool.specs.declared.field.FieldDescriptor.{FieldDescriptor}
use Rattle.reflect_pool.specs.declared.extension.ExtensionDescriptor.{ExtensionDescriptor}
use Rattle.reflect_wire.specs.Records.{Payload, delimited, group}
use Rattle.reflect_entries.specs.Entries.{value_at}
use Rattle.reflect_scalar.specs.FieldTypes.{extension_type}
use Rattle.reflect_message.specs.Contents.{Content, nothing}
use Rattle.reflect_message.specs.Declares.{Owns, OwnsExtension}
use Rattle.reflect_message.specs.Known.{is_float, has_floats, holds_floats, known_field, known_extension}
use Rattle.reflect_message.specs.Oneofs.{AreChosen}
use Rattle.reflect_message.specs.Names.{Value}
use Rattle.reflect_decode.specs.Fields.{LeavesField, LeavesExtension}
use Rattle.reflect_decode.specs.Keeps as keeps
use Rattle.reflect_decode.specs.Keeps.{KeepsUndeclared}
use Rattle.reflect_decode.specs.Levels.{TakenAt, TakesAt}
use Rattle.reflect_decode.specs.Messages.{Takes, AreInside, IsInside, IsEntryBody}
use Rattle.reflect_decode.specs.Spares.{Merges}
use Rattle.reflect_decode.specs.Taking.{TakesAs, Leaves}
use Rattle.reflect_decode.specs.Scalars.{LeavesAs}
use Rattle.message_laws.specs.MapKeys.{HaveMapKeys}
use Rattle.protobuf_model.specs.Values as model
use Rattle.protobuf_model.specs.Values.{Held, records, absent}
use Rattle.protobuf_model.specs.Types.{Field, Types, one, many, keyed, oneof_of, rival}
use Rattle.protobuf_model.specs.Types as kinds
use Rattle.protobuf_model.specs.Reader.{inside_of}
use Rattle.protobuf_model.specs.Meaning.{Merge, is_in, payloads, standing, left_of, joined, taken, held_by, held, meaning_by, meaning}
use Rattle.protobuf_model.proofs.Bridge.{stands_alone, stands_behind, inside_is}
use Rattle.message_view.specs.Sound.{HaveEntryDefaults}
use Rattle.message_view.specs.Types.{name_at, part_of, key_of, entry_part, values_of, label_of, field_of, oneof_at, either_field, field_at}
use Rattle.message_view.specs.Views.{held_in, held_either, content_view, contents_view, view_of}
use Rattle.message_view.proofs.Elements.{single_left, values_left, Nests, messages_left, message_left}
use Rattle.message_view.proofs.Entries.{Sort, plain, floating, message_type, sort_of, map_left}
use Rattle.message_view.proofs.Fields.{by_number, owned, owned_whole, extension_owned, extension_whole, none_owned, not_declared}
use Rattle.message_view.proofs.Oneofs.{payloads_same, sibling_is_rival, no_rivals, no_self, no_oneof}
use Rattle.message_view.proofs.Seen.{value_at-view}

-- a list that is no map is one that repeats
pub list_is : (pool : PoolType) (f : FieldType) (b : Bool) → holds_map pool f ≡ false → holds_list pool f ≡ b → is_repeated f.cardinality ≡ b
list_is pool f b no_map e = sym (with_true (is_repeated f.cardinality)) ∙ sym (ap (λ m. is_repeated f.cardinality && not m) no_map) ∙ e where
  with_true : (b : Bool) → (b && true) ≡ b
  with_true true = refl
  with_true false = refl

none_is_float : (pool : PoolType) (f : FieldType) → holds_floats pool f ≡ false → (e : is_float f.kind ≡ true) → ⊥
none_is_float pool f held e = true≢false (sym (ap (λ b. b || (holds_map pool f && has_floats pool f.kind)) e) ∙ held)

module _ (pool : PoolType) (keyed_maps : HaveMapKeys pool) (defaults : HaveEntryDefaults pool) (inner : Merge) (takes : Takes) (nests : Nests pool inner takes) where
  -- the records of a field, by its label
  abbrev Goal : FieldType → Option Value → Payload → List Payload → Bool → Bool → Type 0
  Goal f new p ps map_too repeated =
      held_by inner (part_of pool (cond map_too (entry_part pool f 2) f)) (cond map_too (keyed (key_of pool (entry_part pool f 1))) (cond repeated (many f.packed) one)) absent (p ∷ ps) ≡ held_in pool f (option_map content_view new)

  some_left : (f : FieldType) (new : Option Value) (p : Payload) (ps : List Payload) → holds_floats pool f ≡ false → Leaves takes pool f None new (p ∷ ps)
      → held_by inner (part_of pool (values_of pool f)) (label_of pool f) absent (p ∷ ps) ≡ held_in pool f (option_map content_view new)
  some_left f new p ps held leaves = by (holds_map pool f) refl where
    listed : holds_map pool f ≡ false → (b : Bool) → holds_list pool f ≡ b → Sort f.kind → Goal f new p ps false b
    listed no_map b list (floating e) = absurd (none_is_float pool f held e)
    listed no_map true list (plain type) = values_left inner pool f new (p ∷ ps) type (subst (λ b. LeavesAs b pool f.kind None new (p ∷ ps)) list (leaves.0 type))
    listed no_map false list (plain type) = single_left inner pool f new (p ∷ ps) type (subst (λ b. LeavesAs b pool f.kind None new (p ∷ ps)) list (leaves.0 type))
    listed no_map true list (message_type type) = messages_left pool inner takes nests f new (p ∷ ps) (subst (λ b. TakesAs b (takes.message f.group) pool f.kind None new (p ∷ ps)) list (leaves.1 type no_map))
    listed no_map false list (message_type type) = message_left pool inner takes nests f new p ps (subst (λ b. TakesAs b (takes.message f.group) pool f.kind None new (p ∷ ps)) list (leaves.1 type no_map))

    by : (b : Bool) → holds_map pool f ≡ b → Goal f new p ps (holds_map pool f) (is_repeated f.cardinality)
    by true is = subst (λ b. Goal f new p ps b (is_repeated f.cardinality)) (sym is) (map_left pool keyed_maps defaults inner takes nests f held is new (p ∷ ps) (leaves.2 is))
    by false is =
        let list = list_is pool f (holds_list pool f) is refl in
        subst (λ b. Goal f new p ps b (is_repeated f.cardinality)) (sym is) (subst (Goal f new p ps false) (sym list) (listed is (holds_list pool f) refl (sort_of f.kind)))

  none_left : (f : FieldType) → held_by inner (part_of pool (values_of pool f)) (label_of pool f) absent [] ≡ absent
  none_left f = by (holds_map pool f) (is_repeated f.cardinality) where
    no_records : (k : kinds.Kind) → taken inner (part_of pool f) k absent [] ≡ absent
    no_records (kinds.scalar k) = refl
    no_records (kinds.nested frame u) = refl

    by : (map_too repeated : Bool) → held_by inner (part_of pool (cond map_too (entry_part pool f 2) f)) (cond map_too (keyed (key_of pool (entry_part pool f 1))) (cond repeated (many f.packed) one)) absent [] ≡ absent
    by true repeated = refl
    by false true = refl
    by false false = no_records (part_of pool f).kind

  pub field_left : (f : FieldType) (new : Option Value) (ps : List Payload) → holds_floats pool f ≡ false → Leaves takes pool f None new ps
      → held_by inner (part_of pool (values_of pool f)) (label_of pool f) absent ps ≡ held_in pool f (option_map content_view new)
  field_left f new [] held leaves = none_left f ∙ sym (ap (λ o. held_in pool f (option_map content_view o)) leaves)
  field_left f new (p ∷ ps) held leaves = some_left f new p ps held leaves

-- what records leave of what was held, number by number
module _ (d : MessageDescriptor) (types : Types) (told : (n : ℕ) → types (name_at d.pool.now d.index) n ≡ field_at d.pool.now d.index n)
    (inner : Merge) (takes : Takes) (start : ℕ → Held) (rs : List (ℕ × Payload)) where
  abbrev declared : ℕ → Option Field
  declared = types (name_at d.pool.now d.index)

  abbrev pub Leave : ℕ → Held → Type 0
  Leave n h = held inner (declared n) (left_of (rival declared n) (start n) rs) (standing (rival declared n) n rs) ≡ h

  -- where no record is a rival's, the records of a number leave what they do
  pub alone : (n : ℕ) (h : Held) → is_in (rival declared n) rs ≡ false → held inner (declared n) (start n) (payloads n rs) ≡ h → Leave n h
  alone n h none e = stands_alone inner (declared n) (rival declared n) n (start n) rs none ∙ e

  -- the records of a field that stand, behind what was held or behind nothing
  pub field_stands : (f : FieldDescriptor) → Owns d f → (before after : Option Value) (h : Held)
      → ((ps : List Payload) → Leaves takes d.pool.now (field_type f) before after ps → held inner (declared (field_type f).number) (start (field_type f).number) ps ≡ h)
      → ((ps : List Payload) → Leaves takes d.pool.now (field_type f) None after ps → held inner (declared (field_type f).number) absent ps ≡ h)
      → LeavesField takes d f before after rs → Leave (field_type f).number h
  field_stands f owns before after h settled fresh (inl (none, leaves)) =
      let n = (field_type f).number in
      alone n h (no_rivals d declared told f owns rs none)
      (ap (held inner (declared n) (start n)) (sym (payloads_same n rs)) ∙ settled (keeps.payloads n rs) (subst (λ p. Leaves takes p (field_type f) before after (keeps.payloads n rs)) owns.0.1 leaves))
  field_stands f owns before after h settled fresh (inr (lead, behind, r, is, sibling, none, leaves)) =
      let n = (field_type f).number in
      ap (λ rs. held inner (declared n) (left_of (rival declared n) (start n) rs) (standing (rival declared n) n rs)) is
      ∙ stands_behind inner (declared n) (rival declared n) n (start n) lead behind r (sibling_is_rival d declared told f owns r.0 sibling) (no_self d declared told n) (no_rivals d declared told f owns behind none)
      ∙ ap (held inner (declared n) absent) (sym (payloads_same n behind))
      ∙ fresh (keeps.payloads n behind) (subst (λ p. Leaves takes p (field_type f) None after (keeps.payloads n behind)) owns.0.1 leaves)

-- what records leave in a message where nothing stood
pub record AreLeft (takes : Takes) (d : MessageDescriptor) (c : Content) (rs : List (ℕ × Payload)) : Type 0 where
  pub unknown : KeepsUndeclared d [] c.unknown rs
  pub fields : (f : FieldDescriptor) → Owns d f → LeavesField takes d f None (value_at c.fields (field_type f).number) rs
  pub extensions : (x : ExtensionDescriptor) → OwnsExtension d x → LeavesExtension takes d x None (value_at c.extensions (extension_type x).number) rs

module _ (d : MessageDescriptor) (keyed_maps : HaveMapKeys d.pool.now) (defaults : HaveEntryDefaults d.pool.now) (types : Types) (told : (n : ℕ) → types (name_at d.pool.now d.index) n ≡ field_at d.pool.now d.index n)
    (inner : Merge) (takes : Takes) (nests : Nests d.pool.now inner takes) (c : Content) (rs : List (ℕ × Payload)) (left : AreLeft takes d c rs) where
  abbrev type : ℕ → Option Field
  type = types (name_at d.pool.now d.index)

  abbrev nothing_held : ℕ → Held
  nothing_held n = absent

  abbrev Stands : ℕ → Type 0
  Stands n = Leave d types told inner takes nothing_held rs n (view_of d.pool.now d.index c n)

  abbrev seen : Option FieldType → Option FieldType → ℕ → Held
  seen f x n = held_either d.pool.now f x (value_at (contents_view c.fields) n) (value_at (contents_view c.extensions) n) (payloads n c.unknown)

  -- under the number of a field
  at_field : (f : FieldDescriptor) → Owns d f → Stands (field_type f).number
  at_field f owns =
      let g = field_type f in
      let n = g.number in
      let is = owned d f owns in
      let new = value_at c.fields n in
      let field : type n ≡ Some (field_of d.pool.now (oneof_at d.pool.now d.index g) false g) = told n ∙ ap (λ o. either_field d.pool.now d.index o (known_extension d.pool.now d.index n)) is in
      let view : held_in d.pool.now g (option_map content_view new) ≡ view_of d.pool.now d.index c n = ap (held_in d.pool.now g) (sym (value_at-view c.fields n)) ∙ sym (ap (λ o. seen o (known_extension d.pool.now d.index n) n) is) in
      let leave = λ (ps : List Payload) (leaves : Leaves takes d.pool.now g None new ps). ap (λ o. held inner o absent ps) field ∙ field_left d.pool.now keyed_maps defaults inner takes nests g new ps (owned_whole d f owns) leaves ∙ view in
      field_stands d types told inner takes nothing_held rs f owns None new (view_of d.pool.now d.index c n) leave leave (left.fields f owns)

  -- of an extension, where no field has it
  at_extension : (x : ExtensionDescriptor) → OwnsExtension d x → known_field d.pool.now d.index (extension_type x).number ≡ None → Stands (extension_type x).number
  at_extension x owns none =
      let g = extension_type x in
      let n = g.number in
      let is = extension_owned d x owns in
      let new = value_at c.extensions n in
      let both : either_field d.pool.now d.index (known_field d.pool.now d.index n) (known_extension d.pool.now d.index n) ≡ Some (field_of d.pool.now None true g) =
      ap (λ o. either_field d.pool.now d.index o (known_extension d.pool.now d.index n)) none ∙ ap (either_field d.pool.now d.index None) is in
      let field : type n ≡ Some (field_of d.pool.now None true g) = told n ∙ both in
      let view : held_in d.pool.now g (option_map content_view new) ≡ view_of d.pool.now d.index c n =
      ap (held_in d.pool.now g) (sym (value_at-view c.extensions n)) ∙ sym (ap (λ o. seen o (known_extension d.pool.now d.index n) n) none ∙ ap (λ o. seen None o n) is) in
      let leaves = subst (λ p. Leaves takes p g None new (keeps.payloads n rs)) owns.0.0 (left.extensions x owns (none_owned d n none)) in
      alone d types told inner takes nothing_held rs n (view_of d.pool.now d.index c n) (no_oneof d type told n (ap oneof_of field) rs)
      (ap (held inner (type n) absent) (sym (payloads_same n rs)) ∙ ap (λ o. held inner o absent (keeps.payloads n rs)) field
      ∙ field_left d.pool.now keyed_maps defaults inner takes nests g new (keeps.payloads n rs) (extension_whole d x owns) leaves ∙ view)

  -- and of neither
  at_neither : (n : ℕ) → known_field d.pool.now d.index n ≡ None → known_extension d.pool.now d.index n ≡ None → Stands n
  at_neither n none also =
      let field : type n ≡ None = told n ∙ ap (λ o. either_field d.pool.now d.index o (known_extension d.pool.now d.index n)) none ∙ ap (either_field d.pool.now d.index None) also in
      let kept : payloads n c.unknown ≡ payloads n rs = sym (payloads_same n c.unknown) ∙ ap (map (λ (r : ℕ × Payload). r.1)) (left.unknown.behind n (not_declared d n none also)) ∙ payloads_same n rs in
      let view : records (payloads n c.unknown) ≡ view_of d.pool.now d.index c n = sym (ap (λ o. seen o (known_extension d.pool.now d.index n) n) none ∙ ap (λ o. seen None o n) also) in
      alone d types told inner takes nothing_held rs n (view_of d.pool.now d.index c n) (no_oneof d type told n (ap oneof_of field) rs) (ap (λ o. held inner o absent (payloads n rs)) field ∙ sym (ap records kept) ∙ view)

  pub all_left : meaning_by inner types (name_at d.pool.now d.index) model.nothing rs ≡ view_of d.pool.now d.index c
  all_left = fun_ext (by_number d Stands at_field at_extension at_neither)

-- where nothing stood nothing is noted
pub nothing_chosen : (d : MessageDescriptor) → AreChosen d [] []
nothing_chosen d = record { member = λ first n e. absurd (cc e); noted = λ f owns first is some. absurd (cc some) }

pub merged_left : (takes : Takes) (d : MessageDescriptor) (c : Content) (rs : List (ℕ × Payload)) → Merges takes d nothing c rs → AreLeft takes d c rs
merged_left takes d c rs h = record { unknown = h.unknown; fields = (h.filled (nothing_chosen d)).each; extensions = h.extended.each }

-- the records inside payloads
inside_at : (grouped : Bool) (levels : ℕ) (p : Payload) (rs : List (ℕ × Payload)) → IsInside grouped levels p rs → inside_of p ≡ rs
inside_at false levels (delimited body) rs h = inside_is levels (delimited body) rs h
inside_at true levels (group within) rs h = inside_is levels (group within) rs h
inside_at grouped levels p rs h = absurd h

pub joined_at : (grouped : Bool) (levels : ℕ) (ps : List Payload) (rs : List (ℕ × Payload)) → AreInside grouped levels ps rs → joined ps ≡ rs
joined_at grouped levels [] rs h = sym h
joined_at grouped levels (p ∷ ps) rs h = ap (λ here. here ++ joined ps) (inside_at grouped levels p h.0 h.2) ∙ ap (λ behind. h.0 ++ behind) (joined_at grouped levels ps h.1 h.3) ∙ sym h.4

pub entry_at : (levels : ℕ) (p : Payload) (rs : List (ℕ × Payload)) → IsEntryBody levels p rs → inside_of p ≡ rs
entry_at levels (delimited body) rs h = inside_is levels (delimited body) rs h
entry_at levels p rs h = absurd h

-- what the records of messages one level below mean
abbrev pub inner_of : ℕ → Types → Merge
inner_of zero types = λ u m rs. m
inner_of (suc levels) types = meaning levels types

pub meaning_at : (levels : ℕ) (types : Types) → meaning levels types ≡ meaning_by (inner_of levels types) types
meaning_at zero types = refl
meaning_at (suc levels) types = refl

module _ (pool : PoolType) (keyed_maps : HaveMapKeys pool) (defaults : HaveEntryDefaults pool) (types : Types) (told : (i n : ℕ) → i < length pool.messages → types (name_at pool i) n ≡ field_at pool i n) where
  whole : (levels : ℕ) → Nests pool (inner_of levels types) (TakesAt levels) → (d : MessageDescriptor) → d.pool.now ≡ pool → (c : Content) (rs : List (ℕ × Payload)) → AreLeft (TakesAt levels) d c rs
      → meaning levels types (name_at pool d.index) model.nothing rs ≡ view_of pool d.index c
  whole levels nests d there c rs left =
      let here = sym there in
      subst (λ p. meaning levels types (name_at p d.index) model.nothing rs ≡ view_of p d.index c) there
      (ap (λ (m : Merge). m (name_at d.pool.now d.index) model.nothing rs) (meaning_at levels types)
      ∙ all_left d (subst HaveMapKeys here keyed_maps) (subst HaveEntryDefaults here defaults) types
      (λ n. subst (λ p. types (name_at p d.index) n ≡ field_at p d.index n) here (told d.index n (subst (λ p. d.index < length p.messages) there d.in_range)))
      (inner_of levels types) (TakesAt levels) (subst (λ p. Nests p (inner_of levels types) (TakesAt levels)) here nests) c rs left)

  nests_at : (levels : ℕ) → Nests pool (inner_of levels types) (TakesAt levels)
  unfolding TakenAt
  nests_at zero = record { messages = λ grouped d there c ps h. absurd h; entries = λ p rs h. entry_at zero p rs h }
  nests_at (suc levels) = record {
    messages = λ grouped d there c ps h.
        ap (meaning levels types (name_at pool d.index) model.nothing) (joined_at grouped levels ps h.0 h.1)
        ∙ whole levels (nests_at levels) d there c h.0 (merged_left (TakesAt levels) d c h.0 h.2);
    entries = λ p rs h. entry_at (suc levels) p rs h;
  }

  -- what records leave is what they mean
  pub leaves_meaning : (levels : ℕ) (d : MessageDescriptor) → d.pool.now ≡ pool → (c : Content) (rs : List (ℕ × Payload)) → AreLeft (TakesAt levels) d c rs
      → meaning levels types (name_at pool d.index) model.nothing rs ≡ view_of pool d.index c
  leaves_meaning levels = whole levels (nests_at levels)
