-- Values and messages of one tree hold alike.
use Rattle.std.proofs.Common.{◌≡◌, ℕ, Bool, true, false, List, [], ◌∷◌, map, Option, None, Some, option_map, is_some, unwrap_or, refl, sym, ap, ◌∙◌}
use Rattle.reflect_pool.specs.declared.message.MessageDescriptor.{MessageDescriptor}
use Rattle.reflect_wire.specs.Records.{Payload}
use Rattle.reflect_entries.specs.Undeclared.{undeclared}
use Rattle.reflect_scalar.specs.Keys.{key_view}
use Rattle.reflect_scalar.specs.declared.map_key.MapKey.{MapKey}
use Rattle.reflect_message.specs.Contents.{content_of}
use Rattle.reflect_copies.specs.Copies.{IsCopy}
use Rattle.reflect_message.specs.Held.{fields_in, choices_in, extensions_in, unknown_in}
use Rattle.reflect_message.specs.Lists.{list_items}
use Rattle.reflect_message.specs.Maps.{map_entries}
use Rattle.reflect_message.specs.Messages.{message_in}
use Rattle.reflect_copies.specs.Trees.{ValueTree, MessageTree, Place, branch, row, dictionary, parts, empty, full, place_of, dictionary_of, held_step, parts_step, value_step, message_step, tree, held_tree, places, entry_tree}
use Rattle.reflect_message.specs.Names.{DynamicMessage, Held, Parts, Value}
use Rattle.reflect_message.specs.declared.parts.HeldOf.{out-HeldOf}
use Rattle.reflect_message.specs.declared.parts.HeldOf.TheFolds.{map-ValueOf, map-HeldOf, fold-MessageOf, fold-PartsOf, fold_out-ValueOf, fold_out-HeldOf, fold_out-MessageOf}
use Rattle.reflect_message.specs.declared.parts.HeldOf.TheOpen.{HeldOf-F, ValueOf-F}
use Rattle.reflect_message.specs.declared.parts.HeldOf.TheViews.{out-ValueOf}
use Rattle.reflect_copies.proofs.Trees.{parts_folded}

-- a value, opened
abbrev pub Open : Type 0
Open = ValueOf-F MessageDescriptor Held Value DynamicMessage Parts

abbrev message_folded : DynamicMessage → ValueTree
message_folded =
    fold-MessageOf MessageDescriptor MessageTree ValueTree ValueTree MessageTree
    held_step value_step message_step parts_step

abbrev parts_folded_in : Parts → MessageTree
parts_folded_in =
    fold-PartsOf MessageDescriptor MessageTree ValueTree ValueTree MessageTree
    held_step value_step message_step parts_step

-- one level of its tree
abbrev stepped : Open → ValueTree
stepped o = value_step
    (map-ValueOf MessageDescriptor Held Value DynamicMessage Parts MessageTree ValueTree ValueTree MessageTree
    held_tree tree message_folded parts_folded_in o)

opened : (v : Value) → tree v ≡ stepped (out-ValueOf MessageDescriptor v)
opened v =
    fold_out-ValueOf MessageDescriptor MessageTree ValueTree ValueTree MessageTree
    held_step value_step message_step parts_step v

folded : (m : DynamicMessage) → message_folded m ≡ branch m.descriptor (held_tree m.held)
folded m =
    fold_out-MessageOf MessageDescriptor MessageTree ValueTree ValueTree MessageTree
    held_step value_step message_step parts_step m

-- ---- maps

abbrev pub entries_in : Open → Option (List (MapKey × Value))
entries_in o = elim o [
  | ValueOf-F.Bool b ↦ None
  | ValueOf-F.I32 z ↦ None
  | ValueOf-F.I64 z ↦ None
  | ValueOf-F.U32 n ↦ None
  | ValueOf-F.U64 n ↦ None
  | ValueOf-F.String t ↦ None
  | ValueOf-F.Bytes b ↦ None
  | ValueOf-F.EnumNumber z ↦ None
  | ValueOf-F.Message m ↦ None
  | ValueOf-F.List vs ↦ None
  | ValueOf-F.Map es ↦ Some es.entries
]

inside : (es : List (MapKey × Value))
    → map (λ (e : MapKey × ValueTree). (key_view e.0, e.1)) (map (λ (e : MapKey × Value). (e.0, tree e.1)) es)
    ≡ map entry_tree es
inside [] = refl
inside (e ∷ es) = ap (λ l. entry_tree e ∷ l) (inside es)

pub map_seen : (v : Value) (es : List (MapKey × Value)) → map_entries v ≡ Some es
    → tree v ≡ dictionary (dictionary_of (map entry_tree es))
map_seen v es e = opened v ∙ by (out-ValueOf MessageDescriptor v) e where
  by : (o : Open) → entries_in o ≡ Some es
      → stepped o ≡ dictionary (dictionary_of (map entry_tree es))
  by (ValueOf-F.Map fs) e =
      ap (λ l. dictionary (dictionary_of l)) (inside fs.entries)
      ∙ ap (λ o. dictionary (dictionary_of (map entry_tree (unwrap_or o [])))) e
  by (ValueOf-F.Bool b) e = absurd (cc e)
  by (ValueOf-F.I32 z) e = absurd (cc e)
  by (ValueOf-F.I64 z) e = absurd (cc e)
  by (ValueOf-F.U32 n) e = absurd (cc e)
  by (ValueOf-F.U64 n) e = absurd (cc e)
  by (ValueOf-F.String t) e = absurd (cc e)
  by (ValueOf-F.Bytes b) e = absurd (cc e)
  by (ValueOf-F.EnumNumber z) e = absurd (cc e)
  by (ValueOf-F.Message m) e = absurd (cc e)
  by (ValueOf-F.List vs) e = absurd (cc e)

-- the tree is that of a map
abbrev is_map : ValueTree → Bool
is_map (dictionary es) = true
is_map t = false

map_told : (v : Value) → is_map (tree v) ≡ is_some (map_entries v)
map_told v = ap is_map (opened v) ∙ by (out-ValueOf MessageDescriptor v) where
  by : (o : Open) → is_map (stepped o) ≡ is_some (entries_in o)
  by (ValueOf-F.Bool b) = refl
  by (ValueOf-F.I32 z) = refl
  by (ValueOf-F.I64 z) = refl
  by (ValueOf-F.U32 n) = refl
  by (ValueOf-F.U64 n) = refl
  by (ValueOf-F.String t) = refl
  by (ValueOf-F.Bytes b) = refl
  by (ValueOf-F.EnumNumber z) = refl
  by (ValueOf-F.Message m) = ap is_map (folded m)
  by (ValueOf-F.List vs) = refl
  by (ValueOf-F.Map es) = refl

pub map_alike : (v w : Value) → tree w ≡ tree v → is_some (map_entries w) ≡ is_some (map_entries v)
map_alike v w e = sym (map_told w) ∙ ap is_map e ∙ map_told v

-- ---- lists

abbrev pub items_in : Open → Option (List Value)
items_in o = elim o [
  | ValueOf-F.Bool b ↦ None
  | ValueOf-F.I32 z ↦ None
  | ValueOf-F.I64 z ↦ None
  | ValueOf-F.U32 n ↦ None
  | ValueOf-F.U64 n ↦ None
  | ValueOf-F.String t ↦ None
  | ValueOf-F.Bytes b ↦ None
  | ValueOf-F.EnumNumber z ↦ None
  | ValueOf-F.Message m ↦ None
  | ValueOf-F.List vs ↦ Some vs.items
  | ValueOf-F.Map es ↦ None
]

-- the tree is that of a list
abbrev is_list : ValueTree → Bool
is_list (row vs) = true
is_list t = false

list_told : (v : Value) → is_list (tree v) ≡ is_some (list_items v)
list_told v = ap is_list (opened v) ∙ by (out-ValueOf MessageDescriptor v) where
  by : (o : Open) → is_list (stepped o) ≡ is_some (items_in o)
  by (ValueOf-F.Bool b) = refl
  by (ValueOf-F.I32 z) = refl
  by (ValueOf-F.I64 z) = refl
  by (ValueOf-F.U32 n) = refl
  by (ValueOf-F.U64 n) = refl
  by (ValueOf-F.String t) = refl
  by (ValueOf-F.Bytes b) = refl
  by (ValueOf-F.EnumNumber z) = refl
  by (ValueOf-F.Message m) = ap is_list (folded m)
  by (ValueOf-F.List vs) = refl
  by (ValueOf-F.Map es) = refl

pub list_alike : (v w : Value) → tree w ≡ tree v → is_some (list_items w) ≡ is_some (list_items v)
list_alike v w e = sym (list_told w) ∙ ap is_list e ∙ list_told v

-- ---- messages

abbrev pub message_of : Open → Option DynamicMessage
message_of o = elim o [
  | ValueOf-F.Bool b ↦ None
  | ValueOf-F.I32 z ↦ None
  | ValueOf-F.I64 z ↦ None
  | ValueOf-F.U32 n ↦ None
  | ValueOf-F.U64 n ↦ None
  | ValueOf-F.String t ↦ None
  | ValueOf-F.Bytes b ↦ None
  | ValueOf-F.EnumNumber z ↦ None
  | ValueOf-F.Message m ↦ Some m
  | ValueOf-F.List vs ↦ None
  | ValueOf-F.Map es ↦ None
]

-- the type of a message and what it holds, if the tree is that of one
abbrev message_tree : ValueTree → Option (MessageDescriptor × MessageTree)
message_tree (branch d held) = Some (d, held)
message_tree t = None

abbrev branched : DynamicMessage → MessageDescriptor × MessageTree
branched m = (m.descriptor, held_tree m.held)

message_told : (v : Value) → message_tree (tree v) ≡ option_map branched (message_in v)
message_told v = ap message_tree (opened v) ∙ by (out-ValueOf MessageDescriptor v) where
  by : (o : Open) → message_tree (stepped o) ≡ option_map branched (message_of o)
  by (ValueOf-F.Bool b) = refl
  by (ValueOf-F.I32 z) = refl
  by (ValueOf-F.I64 z) = refl
  by (ValueOf-F.U32 n) = refl
  by (ValueOf-F.U64 n) = refl
  by (ValueOf-F.String t) = refl
  by (ValueOf-F.Bytes b) = refl
  by (ValueOf-F.EnumNumber z) = refl
  by (ValueOf-F.Message m) = ap message_tree (folded m)
  by (ValueOf-F.List vs) = refl
  by (ValueOf-F.Map es) = refl

pub message_alike : (v w : Value) → tree w ≡ tree v → (m : DynamicMessage) → message_in v ≡ Some m
    → (n : DynamicMessage) × (message_in w ≡ Some n) × (n.descriptor ≡ m.descriptor)
    × (held_tree n.held ≡ held_tree m.held)
message_alike v w e m is = by (message_in w) refl where
  same : option_map branched (message_in w) ≡ Some (branched m)
  same = sym (message_told w) ∙ ap message_tree e ∙ message_told v ∙ ap (option_map branched) is

  by : (o : Option DynamicMessage) → message_in w ≡ o
      → (n : DynamicMessage) × (message_in w ≡ Some n) × (n.descriptor ≡ m.descriptor)
      × (held_tree n.held ≡ held_tree m.held)
  by None none = absurd (cc (none, same))
  by (Some n) there =
      let both : Some (branched n) ≡ Some (branched m) =
      sym (ap (option_map branched) there) ∙ same in
      let pair : branched n ≡ branched m = ap (λ o. unwrap_or o (branched n)) both in
      (n, there, ap (λ p. p.0) pair, ap (λ p. p.1) pair)

-- ---- what messages hold

abbrev pub fields_in_block : HeldOf-F MessageDescriptor Held Value DynamicMessage Parts → List (ℕ × Value)
fields_in_block o = elim o [ HeldOf-F.Nothing ↦ [] | HeldOf-F.Block b ↦ b.value.fields ]

abbrev choices_in_block : HeldOf-F MessageDescriptor Held Value DynamicMessage Parts → List (ℕ × ℕ)
choices_in_block o = elim o [ HeldOf-F.Nothing ↦ [] | HeldOf-F.Block b ↦ b.value.choices.members ]

abbrev pub extensions_in_block : HeldOf-F MessageDescriptor Held Value DynamicMessage Parts → List (ℕ × Value)
extensions_in_block o = elim o [ HeldOf-F.Nothing ↦ [] | HeldOf-F.Block b ↦ b.value.extensions ]

abbrev unknown_in_block : HeldOf-F MessageDescriptor Held Value DynamicMessage Parts → List (ℕ × Payload)
unknown_in_block o = elim o [ HeldOf-F.Nothing ↦ [] | HeldOf-F.Block b ↦ undeclared b.value.unknown ]

abbrev seen_held : Held → MessageTree
seen_held h = parts (places (fields_in h)) (choices_in h) (places (extensions_in h)) (unknown_in h)

held_opened : (h : Held) → held_tree h ≡ seen_held h
held_opened h =
    fold_out-HeldOf MessageDescriptor MessageTree ValueTree ValueTree MessageTree
    held_step value_step message_step parts_step h
    ∙ by (out-HeldOf MessageDescriptor h) where
      by : (o : HeldOf-F MessageDescriptor Held Value DynamicMessage Parts)
          → held_step (map-HeldOf MessageDescriptor Held Value DynamicMessage Parts MessageTree ValueTree ValueTree MessageTree
          held_tree tree message_folded parts_folded_in o)
          ≡ parts (places (fields_in_block o)) (choices_in_block o) (places (extensions_in_block o))
          (unknown_in_block o)
      by HeldOf-F.Nothing = refl
      by (HeldOf-F.Block b) = parts_folded b.value

abbrev fields_at : MessageTree → ℕ → Place
fields_at (parts fields choices extensions unknown) = fields

abbrev choices_at : MessageTree → List (ℕ × ℕ)
choices_at (parts fields choices extensions unknown) = choices

abbrev extensions_at : MessageTree → ℕ → Place
extensions_at (parts fields choices extensions unknown) = extensions

abbrev unknown_at : MessageTree → List (ℕ × Payload)
unknown_at (parts fields choices extensions unknown) = unknown

abbrev of_place : Place → Option ValueTree
of_place empty = None
of_place (full t) = Some t

placed : (o : Option ValueTree) → of_place (place_of o) ≡ o
placed None = refl
placed (Some t) = refl

pub content_alike : (m n : DynamicMessage) → held_tree n.held ≡ held_tree m.held
    → IsCopy (content_of m) (content_of n)
content_alike m n e =
    let same : seen_held n.held ≡ seen_held m.held =
    sym (held_opened n.held) ∙ e ∙ held_opened m.held in
    record {
      fields = λ k. sym (placed _) ∙ ap (λ t. of_place (fields_at t k)) same ∙ placed _;
      choices = ap choices_at same;
      extensions = λ k. sym (placed _) ∙ ap (λ t. of_place (extensions_at t k)) same ∙ placed _;
      unknown = ap unknown_at same;
    }
