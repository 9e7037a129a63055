-- What a field of a pool's own types is in the model stays as the types and enums of a batch stand behind them.
use Rattle.std.proofs.Common.{◌≡◌, ◌<◌, ◌&&◌, ◌++◌, not, ℕ, suc, Bool, true, false, cond, List, [], ◌∷◌, map, length, None, Some, bytes_eq, refl, sym, ap, subst, arith}
use Rattle.std.specs.Option.{option_and_then}
use Rattle.std.specs.List.{filter}
use Rattle.reflect_tables.specs.Types.{PoolType, FieldType, KindType, MessageType, IsWithin, counts_of, is_member}
use Rattle.reflect_tables.specs.Types as types
use Rattle.reflect_tables.specs.Views.{message_of, enum_of}
use Rattle.reflect_index.specs.declared.batch.Batch.{Batch}
use Rattle.reflect_pool.specs.Shapes.{is_repeated, holds_map}
use Rattle.reflect_entries.specs.Members.{first_number}
use Rattle.protobuf_model.specs.Types.{Name, Part, Label, nested, one, many, keyed}
use Rattle.protobuf_model.specs.Values as model
use Rattle.text_model.specs.Printed.{lacks_presence}
use Rattle.text_model.specs.Unset.{HasReadDefault, IsOfKind}
use Rattle.message_view.specs.Singles.{single_view}
use Rattle.message_view.specs.Types.{default_of, entry_part, frame_of, key_of, kind_in, label_of, oneof_at, part_of, place_in, values_of}
use Rattle.linked_view.proofs.Grown.{type_stays, entry_stays, default_stays}

-- a name that stands for a place among the first types stands for it there
pub place_stays : (ms more : List MessageType) (t : Name) → place_in (ms ++ more) t < length ms
    → place_in ms t ≡ place_in (ms ++ more) t
place_stays [] more t lt = absurd (omega (arith, lt))
place_stays (m ∷ ms) more t lt = by (bytes_eq m.full_name t) lt (place_stays ms more t) where
  by : (b : Bool) → cond b 0 (suc (place_in (ms ++ more) t)) < suc (length ms)
      → (place_in (ms ++ more) t < length ms → place_in ms t ≡ place_in (ms ++ more) t)
      → cond b 0 (suc (place_in ms t)) ≡ cond b 0 (suc (place_in (ms ++ more) t))
  by true lt later = refl
  by false lt later = ap suc (later (omega (arith, lt)))

module _ (old new : PoolType) (b : Batch)
    (messages : new.messages ≡ old.messages ++ map message_of b.messages.items)
    (enums : new.enums ≡ old.enums ++ map enum_of b.enums.items) where
  pub oneof_stays : (i : ℕ) (f : FieldType) → i < length old.messages
      → oneof_at new i f ≡ oneof_at old i f
  oneof_stays i f lt =
      ap (λ (t : MessageType). option_and_then (λ k. first_number (filter (is_member k) t.fields))
      f.oneof) (type_stays old new b messages enums i lt)

  kind_stays : (group : Bool) (k : KindType) → IsWithin (counts_of old) k
      → kind_in new group k ≡ kind_in old group k
  kind_stays group (types.message i) h =
      ap (λ (t : MessageType). nested (frame_of group) t.full_name)
      (type_stays old new b messages enums i h)
  kind_stays group k h = refl

  module _ (f : FieldType) (within : IsWithin (counts_of old) f.kind) where
    map_stays : holds_map new f ≡ holds_map old f
    map_stays = ap (λ e. e && (is_repeated f.cardinality && not f.group))
        (entry_stays old new b messages enums f.kind within)

    single_stays : default_of new f ≡ default_of old f
    single_stays = ap (λ o. elim o [ None ↦ model.text [] | Some v ↦ single_view v ])
        (default_stays old new b messages enums f within)

    -- the field's part and its label, by whether it is a map, and whether it repeats
    abbrev part_in : PoolType → Bool → Part
    part_in p m = part_of p (cond m (entry_part p f 2) f)

    abbrev label_in : PoolType → Bool → Bool → Label
    label_in p m r = cond m (keyed (key_of p (entry_part p f 1))) (cond r (many f.packed) one)

    abbrev Lacks : PoolType → Bool → Bool → Type 0
    Lacks p m r = lacks_presence (part_in p m) (label_in p m r) ≡ true

    abbrev Reads : PoolType → Bool → Bool → Type 0
    Reads p m r = HasReadDefault (part_in p m) (label_in p m r)

    lacked : (m r : Bool) → Lacks new m r → Lacks old m r
    lacked true r lacks = refl
    lacked false true lacks = refl
    lacked false false lacks = lacks

    read : (m r : Bool) → Reads old m r → Reads new m r
    read true r h = tt
    read false true h = tt
    read false false h =
        subst (λ k. IsOfKind k (default_of new f)) (sym (kind_stays f.group f.kind within))
        (subst (IsOfKind (kind_in old f.group f.kind)) (sym single_stays) h)

    pub lacked_before : lacks_presence (part_of new (values_of new f)) (label_of new f) ≡ true
        → lacks_presence (part_of old (values_of old f)) (label_of old f) ≡ true
    lacked_before lacks =
        lacked (holds_map old f) (is_repeated f.cardinality)
        (subst (λ m. Lacks new m (is_repeated f.cardinality)) map_stays lacks)

    -- so what stands for it is read as it was
    pub read_still : HasReadDefault (part_of old (values_of old f)) (label_of old f)
        → HasReadDefault (part_of new (values_of new f)) (label_of new f)
    read_still h =
        subst (λ m. Reads new m (is_repeated f.cardinality)) (sym map_stays)
        (read (holds_map old f) (is_repeated f.cardinality) h)
