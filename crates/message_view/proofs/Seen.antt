-- What is seen of values and of messages, one level at a time.
use Rattle.std.proofs.Common.{◌≡◌, ℕ, ◌==◌, Bool, true, false, cond, List, [], ◌∷◌, map, Option, Some, None, option_map, unwrap_or, string_bytes, refl, ap, ◌∙◌, subst}
use mathlib.Core.Path.{fun_ext}
use Rattle.reflect_tables.specs.Types.{PoolType, FieldType}
use Rattle.reflect_wire.specs.Records.{Payload}
use Rattle.reflect_entries.specs.Entries.{value_at}
use Rattle.reflect_entries.specs.Undeclared.{undeclared}
use Rattle.reflect_scalar.specs.Keys.{key_view}
use Rattle.reflect_scalar.specs.Singles as held
use Rattle.reflect_scalar.specs.declared.map_key.MapKey.{MapKey}
use Rattle.reflect_message.specs.Contents.{content_of}
use Rattle.reflect_message.specs.Held.{fields_in, extensions_in, unknown_in}
use Rattle.reflect_message.specs.Known.{known_field, known_extension}
use Rattle.reflect_message.specs.Lists.{list_items}
use Rattle.reflect_message.specs.Maps.{map_entries}
use Rattle.reflect_message.specs.Messages.{message_in}
use Rattle.reflect_message.specs.Singles as singles
use Rattle.reflect_message.specs.Names.{DynamicMessage, Parts, Value}
use Rattle.reflect_message.specs.declared.parts.HeldOf.{out-HeldOf}
use Rattle.reflect_message.specs.Names as blocks
use Rattle.reflect_message.specs.declared.parts.HeldOf.TheFolds.{map-ValueOf, map-HeldOf, fold-HeldOf, fold-ValueOf, fold-MessageOf, fold-PartsOf, fold_out-ValueOf, fold_out-HeldOf, fold_out-PartsOf, fold_out-MessageOf}
use Rattle.reflect_message.specs.declared.parts.HeldOf.TheOpen.{HeldOf-F, ValueOf-F}
use Rattle.reflect_copies.proofs.Alike.{Open, entries_in, items_in, message_of}
use Rattle.reflect_message.specs.declared.parts.HeldOf.TheViews.{out-ValueOf}
use Rattle.protobuf_model.specs.Values.{Single, Content, single, message, list, dictionary, Message, absent, chain_of, entries_of}
use Rattle.message_view.specs.Singles.{single_view}
use Rattle.message_view.specs.Views.{held_either, held_under, held_step, value_step, message_step, parts_step, content_view, held_view, view, contents_view, view_of}
use Rattle.reflect_pool.specs.declared.message.MessageDescriptor.{MessageDescriptor}

abbrev Placed : Type 0
Placed = PoolType → ℕ → Message

-- one level of a value, with what is inside it seen
abbrev stepped : Open → Content
stepped o = value_step (map-ValueOf MessageDescriptor blocks.Held Value DynamicMessage Parts Placed Content Message Placed
    (fold-HeldOf MessageDescriptor Placed Content Message Placed held_step value_step message_step parts_step)
    (fold-ValueOf MessageDescriptor Placed Content Message Placed held_step value_step message_step parts_step)
    (fold-MessageOf MessageDescriptor Placed Content Message Placed held_step value_step message_step parts_step)
    (fold-PartsOf MessageDescriptor Placed Content Message Placed held_step value_step message_step parts_step) o)

opened : (v : Value) → content_view v ≡ stepped (out-ValueOf MessageDescriptor v)
opened v = fold_out-ValueOf MessageDescriptor Placed Content Message Placed held_step value_step message_step parts_step v

abbrev pub single_in : Open → Option held.Single
single_in o = elim o [
  | ValueOf-F.Bool b ↦ Some (held.truth b)
  | ValueOf-F.I32 z ↦ Some (held.int32 z)
  | ValueOf-F.I64 z ↦ Some (held.int64 z)
  | ValueOf-F.U32 n ↦ Some (held.uint32 n)
  | ValueOf-F.U64 n ↦ Some (held.uint64 n)
  | ValueOf-F.String t ↦ Some (held.text (string_bytes t))
  | ValueOf-F.Bytes b ↦ Some (held.blob b.items)
  | ValueOf-F.EnumNumber z ↦ Some (held.enumerated z)
  | ValueOf-F.Message m ↦ None
  | ValueOf-F.List vs ↦ None
  | ValueOf-F.Map es ↦ None
]

-- what is made of the single value, where there is one; of others nothing is said
abbrev pub IsSeenAs : {X : Type 0} → (held.Single → X) → X → Option held.Single → Type 0
IsSeenAs make x None = x ≡ x
IsSeenAs make x (Some w) = x ≡ make w

pub single_seen : (v : Value) (w : held.Single) → singles.single v ≡ Some w → content_view v ≡ single (single_view w)
single_seen v w e = opened v ∙ subst (IsSeenAs (λ s. single (single_view s)) (stepped (out-ValueOf MessageDescriptor v))) e (by (out-ValueOf MessageDescriptor v)) where
  by : (o : Open) → IsSeenAs (λ s. single (single_view s)) (stepped o) (single_in o)
  by (ValueOf-F.Message m) = refl
  by o = refl

-- a message that is a value is seen as the message that it is
folded : (m : DynamicMessage) → fold-MessageOf MessageDescriptor Placed Content Message Placed held_step value_step message_step parts_step m ≡ view m
folded m = fold_out-MessageOf MessageDescriptor Placed Content Message Placed held_step value_step message_step parts_step m

pub message_seen : (v : Value) (m : DynamicMessage) → message_in v ≡ Some m → content_view v ≡ message (view m)
message_seen v m e = opened v ∙ by (out-ValueOf MessageDescriptor v) e where
  by : (o : Open) → message_of o ≡ Some m → stepped o ≡ message (view m)
  by (ValueOf-F.Message n) e = ap message (folded n) ∙ ap (λ o. message (view (unwrap_or o n))) e
  by o e = absurd (cc e)

pub list_seen : (v : Value) (vs : List Value) → list_items v ≡ Some vs → content_view v ≡ list (chain_of (map content_view vs))
list_seen v vs e = opened v ∙ by (out-ValueOf MessageDescriptor v) e where
  by : (o : Open) → items_in o ≡ Some vs → stepped o ≡ list (chain_of (map content_view vs))
  by (ValueOf-F.List ws) e = ap (λ o. list (chain_of (map content_view (unwrap_or o [])))) e
  by o e = absurd (cc e)

abbrev pub pairs_view : List (MapKey × Value) → List (Single × Content)
pairs_view es = map (λ e. (single_view (key_view e.0), content_view e.1)) es

inside : (es : List (MapKey × Value)) → map (λ (e : MapKey × Content). (single_view (key_view e.0), e.1)) (map (λ (e : MapKey × Value). (e.0, content_view e.1)) es) ≡ pairs_view es
inside [] = refl
inside (e ∷ es) = ap (λ l. (single_view (key_view e.0), content_view e.1) ∷ l) (inside es)

pub map_seen : (v : Value) (es : List (MapKey × Value)) → map_entries v ≡ Some es → content_view v ≡ dictionary (entries_of (pairs_view es))
map_seen v es e = opened v ∙ by (out-ValueOf MessageDescriptor v) e where
  by : (o : Open) → entries_in o ≡ Some es → stepped o ≡ dictionary (entries_of (pairs_view es))
  by (ValueOf-F.Map fs) e = ap (λ l. dictionary (entries_of l)) (inside fs.entries) ∙ ap (λ o. dictionary (entries_of (pairs_view (unwrap_or o [])))) e
  by o e = absurd (cc e)

-- what stands under a number of entries that are seen one by one
pub value_at-view : (es : List (ℕ × Value)) (n : ℕ) → value_at (contents_view es) n ≡ option_map content_view (value_at es n)
value_at-view [] n = refl
value_at-view (e ∷ es) n = by (n == e.0) (value_at-view es n) where
  by : (b : Bool) → value_at (contents_view es) n ≡ option_map content_view (value_at es n) → cond b (Some (content_view e.1)) (value_at (contents_view es) n) ≡ option_map content_view (cond b (Some e.1) (value_at es n))
  by true ih = refl
  by false ih = ih

-- where nothing is held nothing stands
none_held : (pool : PoolType) (i n : ℕ) → absent ≡ held_under pool i [] [] [] n
none_held pool i n = by (known_field pool i n) (known_extension pool i n) where
  by : (f x : Option FieldType) → absent ≡ held_either pool f x None None []
  by (Some f) x = refl
  by None (Some x) = refl
  by None None = refl

abbrev pub entries_opened : HeldOf-F MessageDescriptor blocks.Held Value DynamicMessage Parts → List (ℕ × Value)
entries_opened o = elim o [ HeldOf-F.Nothing ↦ [] | HeldOf-F.Block b ↦ b.value.fields ]

abbrev pub extensions_opened : HeldOf-F MessageDescriptor blocks.Held Value DynamicMessage Parts → List (ℕ × Value)
extensions_opened o = elim o [ HeldOf-F.Nothing ↦ [] | HeldOf-F.Block b ↦ b.value.extensions ]

abbrev pub unknown_opened : HeldOf-F MessageDescriptor blocks.Held Value DynamicMessage Parts → List (ℕ × Payload)
unknown_opened o = elim o [ HeldOf-F.Nothing ↦ [] | HeldOf-F.Block b ↦ undeclared b.value.unknown ]

held_seen : (h : blocks.Held) (pool : PoolType) (i : ℕ) → held_view h pool i ≡ held_under pool i (contents_view (fields_in h)) (contents_view (extensions_in h)) (unknown_in h)
held_seen h pool i = ap (λ s. s pool i) (fold_out-HeldOf MessageDescriptor Placed Content Message Placed held_step value_step message_step parts_step h) ∙ by (out-HeldOf MessageDescriptor h) where
  by : (o : HeldOf-F MessageDescriptor blocks.Held Value DynamicMessage Parts)
      → held_step (map-HeldOf MessageDescriptor blocks.Held Value DynamicMessage Parts Placed Content Message Placed
      (fold-HeldOf MessageDescriptor Placed Content Message Placed held_step value_step message_step parts_step)
      (fold-ValueOf MessageDescriptor Placed Content Message Placed held_step value_step message_step parts_step)
      (fold-MessageOf MessageDescriptor Placed Content Message Placed held_step value_step message_step parts_step)
      (fold-PartsOf MessageDescriptor Placed Content Message Placed held_step value_step message_step parts_step) o) pool i
      ≡ held_under pool i (contents_view (entries_opened o)) (contents_view (extensions_opened o)) (unknown_opened o)
  by HeldOf-F.Nothing = fun_ext (λ n. none_held pool i n)
  by (HeldOf-F.Block b) = ap (λ s. s pool i) (fold_out-PartsOf MessageDescriptor Placed Content Message Placed held_step value_step message_step parts_step b.value)

-- a message is seen by what it holds
pub view_opened : (m : DynamicMessage) → view m ≡ view_of m.descriptor.pool.now m.descriptor.index (content_of m)
view_opened m = held_seen m.held m.descriptor.pool.now m.descriptor.index
