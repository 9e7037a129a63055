-- What the tree of a value tells of it: its single value, its items, and its entries.
use Rattle.std.proofs.Common.{◌≡◌, true≢false, List, [], ◌∷◌, map, Option, None, Some, option_map, is_some, unwrap_or, refl, sym, ap, ◌∙◌}
use Rattle.reflect_scalar.specs.Singles.{Single}
use Rattle.reflect_scalar.specs.declared.map_key.MapKey.{MapKey}
use Rattle.reflect_message.specs.Lists.{list_items}
use Rattle.reflect_message.specs.Maps.{map_entries}
use Rattle.reflect_message.specs.Singles.{single}
use Rattle.reflect_copies.specs.Trees.{ValueTree, MessageTree, Row, Dictionary, leaf, branch, row, dictionary, no_values, more_values, no_entries, more_entries, row_of, dictionary_of, held_step, value_step, message_step, parts_step, tree, held_tree, entry_tree}
use Rattle.reflect_message.specs.Names.{DynamicMessage, Held, Parts, Value}
use Rattle.reflect_message.specs.declared.parts.HeldOf.TheFolds.{map-ValueOf, fold_out-MessageOf, fold_out-ValueOf}
use Rattle.reflect_message.specs.declared.parts.HeldOf.TheOpen.{ValueOf-F}
use Rattle.reflect_message.specs.declared.parts.HeldOf.TheViews.{out-ValueOf}
use Rattle.reflect_copies.proofs.Alike.{Open, items_in, map_alike, map_seen}
use Rattle.reflect_pool.specs.declared.message.MessageDescriptor.{MessageDescriptor}
use Rattle.message_view.proofs.Seen.{single_in}
use Rattle.merge_view.proofs.Copied.{tree_held, tree_message, tree_parts}

-- one level of a tree
abbrev stepped : Open → ValueTree
stepped o = value_step
    (map-ValueOf MessageDescriptor Held Value DynamicMessage Parts MessageTree ValueTree ValueTree MessageTree
    tree_held tree tree_message tree_parts o)

opened : (v : Value) → tree v ≡ stepped (out-ValueOf MessageDescriptor v)
opened v =
    fold_out-ValueOf MessageDescriptor MessageTree ValueTree ValueTree MessageTree
    held_step value_step message_step parts_step v

folded : (m : DynamicMessage) → tree_message m ≡ branch m.descriptor (held_tree m.held)
folded m =
    fold_out-MessageOf MessageDescriptor MessageTree ValueTree ValueTree MessageTree
    held_step value_step message_step parts_step m

-- ---- single values

abbrev leaf_in : ValueTree → Option Single
leaf_in (leaf s) = Some s
leaf_in t = None

single_told : (v : Value) → leaf_in (tree v) ≡ single v
single_told v = ap leaf_in (opened v) ∙ by (out-ValueOf MessageDescriptor v) where
  by : (o : Open) → leaf_in (stepped o) ≡ single_in o
  by (ValueOf-F.Message m) = ap leaf_in (folded m)
  by o = refl

pub single_alike : (v w : Value) → tree w ≡ tree v → single w ≡ single v
single_alike v w e = sym (single_told w) ∙ ap leaf_in e ∙ single_told v

-- ---- lists

abbrev values_in : Row → List ValueTree
values_in no_values = []
values_in (more_values t ts) = t ∷ values_in ts

values_back : (ts : List ValueTree) → values_in (row_of ts) ≡ ts
values_back [] = refl
values_back (t ∷ ts) = ap (λ l. t ∷ l) (values_back ts)

abbrev row_in : ValueTree → Option (List ValueTree)
row_in (row vs) = Some (values_in vs)
row_in t = None

items_told : (v : Value) → row_in (tree v) ≡ option_map (map tree) (list_items v)
items_told v = ap row_in (opened v) ∙ by (out-ValueOf MessageDescriptor v) where
  by : (o : Open) → row_in (stepped o) ≡ option_map (map tree) (items_in o)
  by (ValueOf-F.Message m) = ap row_in (folded m)
  by (ValueOf-F.List vs) = ap Some (values_back (map tree vs.items))
  by o = refl

-- the items of lists of one tree have the same trees
pub items_alike : (v w : Value) → tree w ≡ tree v → (vs : List Value) → list_items v ≡ Some vs
    → (ws : List Value) × (list_items w ≡ Some ws) × (map tree ws ≡ map tree vs)
items_alike v w e vs is = by (list_items w) refl where
  same : option_map (map tree) (list_items w) ≡ Some (map tree vs)
  same = sym (items_told w) ∙ ap row_in e ∙ items_told v ∙ ap (option_map (map tree)) is

  by : (o : Option (List Value)) → list_items w ≡ o
      → (ws : List Value) × (list_items w ≡ Some ws) × (map tree ws ≡ map tree vs)
  by None none = absurd (cc (none, same))
  by (Some ws) there =
      let both : Some (map tree ws) ≡ Some (map tree vs) =
      sym (ap (option_map (map tree)) there) ∙ same in
      (ws, there, ap (λ (o : Option (List ValueTree)). unwrap_or o []) both)

-- ---- maps

abbrev entries_in : Dictionary → List (Single × ValueTree)
entries_in no_entries = []
entries_in (more_entries k t es) = (k, t) ∷ entries_in es

entries_back : (es : List (Single × ValueTree)) → entries_in (dictionary_of es) ≡ es
entries_back [] = refl
entries_back (e ∷ es) = ap (λ l. e ∷ l) (entries_back es)

abbrev dictionary_in : ValueTree → List (Single × ValueTree)
dictionary_in (dictionary es) = entries_in es
dictionary_in t = []

-- the entries of maps of one tree have the same keys and trees
pub entries_alike : (v w : Value) → tree w ≡ tree v → (es : List (MapKey × Value))
    → map_entries v ≡ Some es
    → (fs : List (MapKey × Value)) × (map_entries w ≡ Some fs)
    × (map entry_tree fs ≡ map entry_tree es)
entries_alike v w e es is = by (map_entries w) refl where
  by : (o : Option (List (MapKey × Value))) → map_entries w ≡ o
      → (fs : List (MapKey × Value)) × (map_entries w ≡ Some fs)
      × (map entry_tree fs ≡ map entry_tree es)
  by None none =
      absurd (true≢false (sym (ap is_some is) ∙ sym (map_alike v w e) ∙ ap is_some none))
  by (Some fs) there =
      let same = sym (map_seen w fs there) ∙ e ∙ map_seen v es is in (
        fs,
        there,
        sym (entries_back (map entry_tree fs)) ∙ ap dictionary_in same
            ∙ entries_back (map entry_tree es),
      )
