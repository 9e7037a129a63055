-- Records of maps behind the entries that a map held before.
use Rattle.std.proofs.Common.{◌≡◌, ℕ, Bool, true, false, List, [], ◌∷◌, map, Option, Some, option_map, sym, ap, ◌∙◌, subst}
use Rattle.std.specs.List.{AllByRecursion}
use Rattle.reflect_tables.specs.Types.{PoolType, FieldType}
use Rattle.reflect_pool.specs.Shapes.{holds_map}
use Rattle.reflect_wire.specs.Records.{Payload}
use Rattle.reflect_scalar.specs.declared.map_key.MapKey.{MapKey}
use Rattle.reflect_message.specs.Known.{holds_floats}
use Rattle.reflect_message.specs.Maps.{entries_held}
use Rattle.reflect_message.specs.Names.{Value}
use Rattle.reflect_decode.specs.Maps.{ContinuesMap}
use Rattle.reflect_decode.specs.Messages.{Takes}
use Rattle.protobuf_model.specs.Values.{Message, entries_of, pairs_of}
use Rattle.protobuf_model.specs.Types.{Name, Part, Key, keyed}
use Rattle.protobuf_model.specs.Meaning.{Merge, entry, pairs, if_some, put_all}
use Rattle.protobuf_model.specs.Typed.{IsEntryOf}
use Rattle.protobuf_model.proofs.Pieces.{pairs-if_some}
use Rattle.message_laws.specs.MapKeys.{HaveMapKeys}
use Rattle.message_view.specs.Singles.{scalar_of}
use Rattle.message_view.specs.Sound.{HaveEntryDefaults}
use Rattle.message_view.specs.Types.{part_of, key_of, entry_part}
use Rattle.message_view.specs.Views.{held_in, content_view}
use Rattle.message_view.proofs.Elements.{Nests}
use Rattle.message_view.proofs.Entries.{entries_are, form_at, map_held, suited_form}
use Rattle.message_view.proofs.Keys.{form_of, key_single}
use Rattle.message_view.proofs.Seen.{pairs_view}
use Rattle.merge_view.proofs.Elements.{SuitsPart}

pairs_are : (pool : PoolType) (f : FieldType) (old : Option Value) (before : List (MapKey × Value)) → entries_held old ≡ Some before → pairs (held_in pool f (option_map content_view old)) ≡ pairs_view before
pairs_are pool f old before e = ap pairs (sym (map_held pool f old before e)) ∙ pairs-if_some (pairs_view before)

pub map_stays : (pool : PoolType) (f : FieldType) (old : Option Value) (before : List (MapKey × Value)) → entries_held old ≡ Some before → if_some (pairs (held_in pool f (option_map content_view old))) ≡ held_in pool f (option_map content_view old)
map_stays pool f old before at = ap if_some (pairs_are pool f old before at) ∙ map_held pool f old before at

module _ (pool : PoolType) (keyed_maps : HaveMapKeys pool) (defaults : HaveEntryDefaults pool) (inner : Merge) (takes : Takes) (nests : Nests pool inner takes) (f : FieldType) (whole : holds_floats pool f ≡ false) (is_map : holds_map pool f ≡ true) where
  abbrev the_key : Key
  the_key = key_of pool (entry_part pool f 1)

  abbrev the_value : Part
  the_value = part_of pool (entry_part pool f 2)

  abbrev Formed : List (MapKey × Value) → Type 0
  Formed es = AllByRecursion (λ e. form_of (key_single e.0) ≡ form_at (scalar_of (entry_part pool f 1).kind)) es

  -- the keys of a map that suits the field have the form of its keys
  formed_keys : (typed : Name → Message → Type 0) (es : List (MapKey × Value)) → AllByRecursion (IsEntryOf typed the_key the_value) (pairs_of (entries_of (pairs_view es))) → Formed es
  formed_keys typed [] h = tt
  formed_keys typed (e ∷ es) h = (suited_form the_key.kind (key_single e.0) h.0.0, formed_keys typed es h.1)

  formed_by : (typed : Name → Message → Type 0) (levels : ℕ) (o : Option ℕ) (x : Bool) (es : List (MapKey × Value)) → SuitsPart typed levels o x the_value (keyed the_key) (if_some (pairs_view es)) → Formed es
  formed_by typed levels o x [] h = tt
  formed_by typed levels o x (e ∷ es) h = formed_keys typed (e ∷ es) h.0

  -- entries are put over those of a map that suits the field
  pub map_behind : (typed : Name → Message → Type 0) (levels : ℕ) (o : Option ℕ) (x : Bool) (old new : Option Value) (ps : List Payload) → SuitsPart typed levels o x the_value (keyed the_key) (held_in pool f (option_map content_view old)) → ContinuesMap takes pool f.kind old new ps
      → if_some (put_all (pairs (held_in pool f (option_map content_view old))) (map (entry inner the_key the_value) ps)) ≡ held_in pool f (option_map content_view new)
  map_behind typed levels o x old new ps suits (before, after, at, stands, puts) =
      let formed = formed_by typed levels o x before (subst (SuitsPart typed levels o x the_value (keyed the_key)) (sym (map_held pool f old before at)) suits) in
      ap (λ es. if_some (put_all es (map (entry inner the_key the_value) ps))) (pairs_are pool f old before at)
      ∙ ap if_some (entries_are pool keyed_maps defaults inner takes nests f whole is_map before after ps formed puts)
      ∙ map_held pool f new after stands
