-- What is seen of a value is told by its tree, so that of a copy the same is seen.
use Rattle.std.proofs.Common.{◌≡◌, ℕ, ◌==◌, Bool, true, false, cond, List, [], ◌∷◌, map, Option, Some, None, option_map, refl, sym, ap, ◌∙◌, subst}
use mathlib.Core.Path.{fun_ext}
use Rattle.reflect_tables.specs.Types.{PoolType, FieldType}
use Rattle.reflect_entries.specs.Entries.{value_at}
use Rattle.reflect_entries.specs.Pairs.{on_value}
use Rattle.reflect_entries.specs.Undeclared.{undeclared}
use Rattle.reflect_scalar.specs.Keys.{key_view}
use Rattle.reflect_scalar.specs.declared.map_key.MapKey.{MapKey}
use Rattle.reflect_message.specs.Contents as contents
use Rattle.reflect_copies.specs.Copies.{AreCopies, IsCopy}
use Rattle.reflect_message.specs.Known.{known_field, known_extension}
use Rattle.reflect_copies.specs.Trees.{ValueTree, MessageTree, Place, Row, Dictionary, leaf, branch, row, parts, empty, full, no_values, more_values, place_of, row_of, dictionary_of, tree}
use Rattle.reflect_copies.specs.Trees as trees
use Rattle.reflect_message.specs.Names.{DynamicMessage, Parts, Value}
use Rattle.reflect_message.specs.Names as blocks
use Rattle.reflect_message.specs.declared.parts.HeldOf.TheFolds.{map-HeldOf, map-ValueOf, map-MessageOf, map-PartsOf, fold-HeldOf, fold-MessageOf, fold-PartsOf, fold-roll-HeldOf, fold-roll-ValueOf, fold-roll-MessageOf, fold-roll-PartsOf, ind-ValueOf}
use Rattle.reflect_message.specs.declared.parts.HeldOf.TheOpen.{HeldOf-F, PartsOf-F, ValueOf-F, MessageOf-F}
use Rattle.protobuf_model.specs.Values.{Content, single, message, list, dictionary, Contents, no_contents, more_contents, Entries, no_entries, more_entries, Message, absent, chain_of, entries_of}
use Rattle.protobuf_model.specs.Meaning.{payloads}
use Rattle.message_view.specs.Singles.{single_view}
use Rattle.message_view.specs.Views.{Placed, held_either, held_step, value_step, message_step, parts_step, content_view, contents_view, view_of}
use Rattle.message_view.proofs.Seen.{value_at-view}
use Rattle.reflect_pool.specs.declared.message.MessageDescriptor.{MessageDescriptor}

-- what is seen of a tree
abbrev mutual
  of_tree : ValueTree → Content
  of_tree (leaf s) = single (single_view s)
  of_tree (branch d held) = message (of_message held d.pool.now d.index)
  of_tree (row vs) = list (of_row vs)
  of_tree (trees.dictionary es) = dictionary (of_entries es)

  of_message : MessageTree → Placed
  of_message (parts fields choices extensions unknown) = λ pool i n. held_either pool (known_field pool i n) (known_extension pool i n) (of_place (fields n)) (of_place (extensions n)) (payloads n unknown)

  of_place : Place → Option Content
  of_place empty = None
  of_place (full t) = Some (of_tree t)

  of_row : Row → Contents
  of_row no_values = no_contents
  of_row (more_values t ts) = more_contents (of_tree t) (of_row ts)

  of_entries : Dictionary → Entries
  of_entries trees.no_entries = no_entries
  of_entries (trees.more_entries k t es) = more_entries (single_view k) (of_tree t) (of_entries es)

abbrev seen_held : blocks.Held → Placed
seen_held = fold-HeldOf MessageDescriptor Placed Content Message Placed held_step value_step message_step parts_step

abbrev seen_message : DynamicMessage → Message
seen_message = fold-MessageOf MessageDescriptor Placed Content Message Placed held_step value_step message_step parts_step

abbrev seen_parts : Parts → Placed
seen_parts = fold-PartsOf MessageDescriptor Placed Content Message Placed held_step value_step message_step parts_step

abbrev pub tree_held : blocks.Held → MessageTree
tree_held = fold-HeldOf MessageDescriptor MessageTree ValueTree ValueTree MessageTree trees.held_step trees.value_step trees.message_step trees.parts_step

abbrev pub tree_message : DynamicMessage → ValueTree
tree_message = fold-MessageOf MessageDescriptor MessageTree ValueTree ValueTree MessageTree trees.held_step trees.value_step trees.message_step trees.parts_step

abbrev pub tree_parts : Parts → MessageTree
tree_parts = fold-PartsOf MessageDescriptor MessageTree ValueTree ValueTree MessageTree trees.held_step trees.value_step trees.message_step trees.parts_step

-- what is to be shown of each
abbrev HeldTold : blocks.Held → Type 0
HeldTold h = (pool : PoolType) (i n : ℕ) → seen_held h pool i n ≡ of_message (tree_held h) pool i n

abbrev ValueTold : Value → Type 0
ValueTold v = content_view v ≡ of_tree (tree v)

abbrev MessageTold : DynamicMessage → Type 0
MessageTold m = message (seen_message m) ≡ of_tree (tree_message m)

abbrev PartsTold : Parts → Type 0
PartsTold p = (pool : PoolType) (i n : ℕ) → seen_parts p pool i n ≡ of_message (tree_parts p) pool i n

abbrev ToldHeld : Type 0
ToldHeld = (h : blocks.Held) × HeldTold h

abbrev ToldValue : Type 0
ToldValue = (v : Value) × ValueTold v

abbrev ToldMessage : Type 0
ToldMessage = (m : DynamicMessage) × MessageTold m

abbrev ToldParts : Type 0
ToldParts = (p : Parts) × PartsTold p

-- a value, from its inside
row_told : (vs : List ToldValue) → list (chain_of (map content_view (map (λ e. e.0) vs))) ≡ list (of_row (row_of (map tree (map (λ e. e.0) vs))))
row_told vs = ap list (by vs) where
  by : (vs : List ToldValue) → chain_of (map content_view (map (λ e. e.0) vs)) ≡ of_row (row_of (map tree (map (λ e. e.0) vs)))
  by [] = refl
  by (v ∷ vs) = ap (λ c. more_contents c (chain_of (map content_view (map (λ e. e.0) vs)))) v.1 ∙ ap (more_contents (of_tree (tree v.0))) (by vs)

entries_told : (es : List (MapKey × ToldValue))
    → entries_of (map (λ (e : MapKey × Content). (single_view (key_view e.0), e.1)) (map (λ (e : MapKey × Value). (e.0, content_view e.1)) (map (λ (e : MapKey × ToldValue). (e.0, e.1.0)) es)))
    ≡ of_entries (dictionary_of (map (λ (e : MapKey × ValueTree). (key_view e.0, e.1)) (map (λ (e : MapKey × Value). (e.0, tree e.1)) (map (λ (e : MapKey × ToldValue). (e.0, e.1.0)) es))))
entries_told [] = refl
entries_told (e ∷ es) =
    ap (λ c. more_entries (single_view (key_view e.0)) c (entries_of (map (λ (e : MapKey × Content). (single_view (key_view e.0), e.1)) (map (λ (e : MapKey × Value). (e.0, content_view e.1)) (map (λ (e : MapKey × ToldValue). (e.0, e.1.0)) es))))) e.1.1
    ∙ ap (more_entries (single_view (key_view e.0)) (of_tree (tree e.1.0))) (entries_told es)

abbrev SeenValue : ValueOf-F MessageDescriptor blocks.Held Value DynamicMessage Parts → Type 0
SeenValue x =
    value_step (map-ValueOf MessageDescriptor blocks.Held Value DynamicMessage Parts Placed Content Message Placed seen_held content_view seen_message seen_parts x)
    ≡ of_tree (trees.value_step (map-ValueOf MessageDescriptor blocks.Held Value DynamicMessage Parts MessageTree ValueTree ValueTree MessageTree tree_held tree tree_message tree_parts x))

value_told : (y : ValueOf-F MessageDescriptor ToldHeld ToldValue ToldMessage ToldParts) → SeenValue (map-ValueOf MessageDescriptor ToldHeld ToldValue ToldMessage ToldParts blocks.Held Value DynamicMessage Parts (λ e. e.0) (λ e. e.0) (λ e. e.0) (λ e. e.0) y)
value_told (ValueOf-F.Message m) = m.1
value_told (ValueOf-F.List vs) = row_told vs.items
value_told (ValueOf-F.Map es) = ap dictionary (entries_told es.entries)
value_told y = refl

abbrev SeenHeld : HeldOf-F MessageDescriptor blocks.Held Value DynamicMessage Parts → Type 0
SeenHeld x = (pool : PoolType) (i n : ℕ)
    → held_step (map-HeldOf MessageDescriptor blocks.Held Value DynamicMessage Parts Placed Content Message Placed seen_held content_view seen_message seen_parts x) pool i n
    ≡ of_message (trees.held_step (map-HeldOf MessageDescriptor blocks.Held Value DynamicMessage Parts MessageTree ValueTree ValueTree MessageTree tree_held tree tree_message tree_parts x)) pool i n

none_told : (pool : PoolType) (i n : ℕ) → absent ≡ of_message trees.nothing_held pool i n
none_told pool i n = by (known_field pool i n) (known_extension pool i n) where
  by : (f x : Option FieldType) → absent ≡ held_either pool f x None None []
  by (Some f) x = refl
  by None (Some x) = refl
  by None None = refl

held_told : (y : HeldOf-F MessageDescriptor ToldHeld ToldValue ToldMessage ToldParts) → SeenHeld (map-HeldOf MessageDescriptor ToldHeld ToldValue ToldMessage ToldParts blocks.Held Value DynamicMessage Parts (λ e. e.0) (λ e. e.0) (λ e. e.0) (λ e. e.0) y)
held_told HeldOf-F.Nothing = none_told
held_told (HeldOf-F.Block b) = b.value.1

abbrev SeenMessage : MessageOf-F MessageDescriptor blocks.Held Value DynamicMessage Parts → Type 0
SeenMessage x =
    message (message_step (map-MessageOf MessageDescriptor blocks.Held Value DynamicMessage Parts Placed Content Message Placed seen_held content_view seen_message seen_parts x))
    ≡ of_tree (trees.message_step (map-MessageOf MessageDescriptor blocks.Held Value DynamicMessage Parts MessageTree ValueTree ValueTree MessageTree tree_held tree tree_message tree_parts x))

message_told : (y : MessageOf-F MessageDescriptor ToldHeld ToldValue ToldMessage ToldParts) → SeenMessage (map-MessageOf MessageDescriptor ToldHeld ToldValue ToldMessage ToldParts blocks.Held Value DynamicMessage Parts (λ e. e.0) (λ e. e.0) (λ e. e.0) (λ e. e.0) y)
message_told y = ap message (fun_ext (λ n. y.held.1 y.descriptor.pool.now y.descriptor.index n))

-- what stands under a number
under_told : (es : List (ℕ × ToldValue)) (n : ℕ) → value_at (map (on_value content_view) (map (on_value (λ (e : ToldValue). e.0)) es)) n ≡ of_place (place_of (value_at (map (on_value tree) (map (on_value (λ (e : ToldValue). e.0)) es)) n))
under_told [] n = refl
under_told (e ∷ es) n = by (n == e.0) (under_told es n) where
  values : List (ℕ × Value)
  values = map (on_value (λ (e : ToldValue). e.0)) es

  by : (b : Bool) → value_at (map (on_value content_view) values) n ≡ of_place (place_of (value_at (map (on_value tree) values) n))
      → cond b (Some (content_view e.1.0)) (value_at (map (on_value content_view) values) n) ≡ of_place (place_of (cond b (Some (tree e.1.0)) (value_at (map (on_value tree) values) n)))
  by true ih = ap Some e.1.1
  by false ih = ih

abbrev SeenParts : PartsOf-F MessageDescriptor blocks.Held Value DynamicMessage Parts → Type 0
SeenParts x = (pool : PoolType) (i n : ℕ)
    → parts_step (map-PartsOf MessageDescriptor blocks.Held Value DynamicMessage Parts Placed Content Message Placed seen_held content_view seen_message seen_parts x) pool i n
    ≡ of_message (trees.parts_step (map-PartsOf MessageDescriptor blocks.Held Value DynamicMessage Parts MessageTree ValueTree ValueTree MessageTree tree_held tree tree_message tree_parts x)) pool i n

parts_told : (y : PartsOf-F MessageDescriptor ToldHeld ToldValue ToldMessage ToldParts) → SeenParts (map-PartsOf MessageDescriptor ToldHeld ToldValue ToldMessage ToldParts blocks.Held Value DynamicMessage Parts (λ e. e.0) (λ e. e.0) (λ e. e.0) (λ e. e.0) y)
parts_told y pool i n =
    let x = map-PartsOf MessageDescriptor ToldHeld ToldValue ToldMessage ToldParts blocks.Held Value DynamicMessage Parts (λ e. e.0) (λ e. e.0) (λ e. e.0) (λ e. e.0) y in
    let s = map-PartsOf MessageDescriptor blocks.Held Value DynamicMessage Parts Placed Content Message Placed seen_held content_view seen_message seen_parts x in
    let t = map-PartsOf MessageDescriptor blocks.Held Value DynamicMessage Parts MessageTree ValueTree ValueTree MessageTree tree_held tree tree_message tree_parts x in
    let f = known_field pool i n in
    let x = known_extension pool i n in
    ap (λ o. held_either pool f x o (value_at s.extensions n) (payloads n (undeclared s.unknown))) (under_told y.fields n)
    ∙ ap (λ o. held_either pool f x (of_place (place_of (value_at t.fields n))) o (payloads n (undeclared s.unknown))) (under_told y.extensions n)

-- a value is seen as its tree tells
told : (v : Value) → content_view v ≡ of_tree (tree v)
told = ind-ValueOf MessageDescriptor HeldTold ValueTold MessageTold PartsTold
    (λ x y is pool i n. ap (λ s. s pool i n) (fold-roll-HeldOf MessageDescriptor Placed Content Message Placed held_step value_step message_step parts_step x) ∙ subst SeenHeld is (held_told y) pool i n ∙ sym (ap (λ t. of_message t pool i n) (fold-roll-HeldOf MessageDescriptor MessageTree ValueTree ValueTree MessageTree trees.held_step trees.value_step trees.message_step trees.parts_step x)))
    (λ x y is. fold-roll-ValueOf MessageDescriptor Placed Content Message Placed held_step value_step message_step parts_step x ∙ subst SeenValue is (value_told y) ∙ sym (ap of_tree (fold-roll-ValueOf MessageDescriptor MessageTree ValueTree ValueTree MessageTree trees.held_step trees.value_step trees.message_step trees.parts_step x)))
    (λ x y is. ap message (fold-roll-MessageOf MessageDescriptor Placed Content Message Placed held_step value_step message_step parts_step x) ∙ subst SeenMessage is (message_told y) ∙ sym (ap of_tree (fold-roll-MessageOf MessageDescriptor MessageTree ValueTree ValueTree MessageTree trees.held_step trees.value_step trees.message_step trees.parts_step x)))
    (λ x y is pool i n. ap (λ s. s pool i n) (fold-roll-PartsOf MessageDescriptor Placed Content Message Placed held_step value_step message_step parts_step x) ∙ subst SeenParts is (parts_told y) pool i n ∙ sym (ap (λ t. of_message t pool i n) (fold-roll-PartsOf MessageDescriptor MessageTree ValueTree ValueTree MessageTree trees.held_step trees.value_step trees.message_step trees.parts_step x)))

option_told : (o : Option Value) → option_map content_view o ≡ option_map of_tree (option_map tree o)
option_told None = refl
option_told (Some v) = ap Some (told v)

copied_at : (old copy : List (ℕ × Value)) → AreCopies old copy → (n : ℕ) → value_at (contents_view copy) n ≡ value_at (contents_view old) n
copied_at old copy copies n =
    value_at-view copy n ∙ option_told (value_at copy n) ∙ ap (option_map of_tree) (copies n) ∙ sym (option_told (value_at old n)) ∙ sym (value_at-view old n)

-- of a copy is seen what is seen of the message
pub copy_seen : (pool : PoolType) (i : ℕ) (old copy : contents.Content) → IsCopy old copy → view_of pool i copy ≡ view_of pool i old
copy_seen pool i old copy h = fun_ext (λ n.
    let f = known_field pool i n in
    let x = known_extension pool i n in
    ap (λ o. held_either pool f x o (value_at (contents_view copy.extensions) n) (payloads n copy.unknown)) (copied_at old.fields copy.fields h.fields n)
    ∙ ap (λ o. held_either pool f x (value_at (contents_view old.fields) n) o (payloads n copy.unknown)) (copied_at old.extensions copy.extensions h.extensions n)
    ∙ ap (λ u. held_either pool f x (value_at (contents_view old.fields) n) (value_at (contents_view old.extensions) n) (payloads n u)) h.unknown)
