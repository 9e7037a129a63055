-- What is seen of values and messages, one level at a time.
use Rattle.std.proofs.Common.{◌≡◌, ℕ, ◌==◌, Bool, true, false, cond, List, [], ◌∷◌, map, Some, option_map, Box, Global, refl, ap, ◌∙◌}
use Rattle.std.proofs.Math.Path.{fun_ext}
use Rattle.reflect_entries.specs.Entries.{value_at}
use Rattle.reflect_entries.specs.Pairs.{on_value}
use Rattle.reflect_entries.specs.Undeclared.{undeclared}
use Rattle.reflect_copies.specs.Trees.{ValueTree, MessageTree, parts, place_of, held_step, parts_step, value_step, message_step, tree, held_tree, places, parts_tree}
use Rattle.reflect_message.specs.declared.parts.HeldOf.{Block}
use Rattle.reflect_message.specs.declared.parts.HeldOf.TheFolds.{fold-PartsOf, fold-roll-HeldOf, fold_out-PartsOf}
use Rattle.reflect_message.specs.declared.parts.HeldOf.TheOpen.{HeldOf-F}
use Rattle.reflect_message.specs.declared.parts.HeldOf.TheViews.{roll-HeldOf}
use Rattle.reflect_message.specs.Names.{Parts, Value}
use denote.Hole.Carrier.{roll}
use Rattle.reflect_pool.specs.declared.message.MessageDescriptor.{MessageDescriptor}

-- what stands under a number of entries that are seen one by one
value_at-map : (h : Value → ValueTree) (es : List (ℕ × Value)) (n : ℕ) → value_at (map (on_value h) es) n ≡ option_map h (value_at es n)
value_at-map h [] n = refl
value_at-map h (e ∷ es) n = by (n == e.0) (value_at-map h es n) where
  by : (b : Bool) → value_at (map (on_value h) es) n ≡ option_map h (value_at es n) → cond b (Some (h e.1)) (value_at (map (on_value h) es) n) ≡ option_map h (cond b (Some e.1) (value_at es n))
  by true ih = refl
  by false ih = ih

places_seen : (es : List (ℕ × Value)) → (λ n. place_of (value_at (map (on_value tree) es) n)) ≡ places es
places_seen es = fun_ext (λ n. ap place_of (value_at-map tree es n))

pub parts_folded : (p : Parts) → fold-PartsOf MessageDescriptor MessageTree ValueTree ValueTree MessageTree held_step value_step message_step parts_step p ≡ parts_tree p
parts_folded p =
    fold_out-PartsOf MessageDescriptor MessageTree ValueTree ValueTree MessageTree held_step value_step message_step parts_step p
    ∙ ap (λ f. parts f p.choices.members (λ n. place_of (value_at (map (on_value tree) p.extensions) n)) (undeclared p.unknown)) (places_seen p.fields)
    ∙ ap (λ f. parts (places p.fields) p.choices.members f (undeclared p.unknown)) (places_seen p.extensions)

-- what a block holds
pub held_tree-Block : (b : Box Parts Global) → held_tree (Block b) ≡ parts_tree b.value
unfolding roll-HeldOf roll
held_tree-Block b = fold-roll-HeldOf MessageDescriptor MessageTree ValueTree ValueTree MessageTree held_step value_step message_step parts_step (HeldOf-F.Block b) ∙ parts_folded b.value
