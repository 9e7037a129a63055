-- The ranges that the rules see of a message are those of its type in the grown pool.
use Rattle.std.proofs.Common.{◌≡◌, ◌<◌, ◌≤◌, ◌-◌, ℕ, zero, suc, Bool, true, false, cond, nat_lt, List, [], ◌∷◌, ◌++◌, map, length, Option, None, Some, refl, sym, ap, ◌∙◌, arith, slice_get, slice_index_or}
use Rattle.std.proofs.lemmas.List.{length-map}
use Rattle.std.proofs.Math.ListN.{get_or-append}
use Rattle.std.proofs.Math.Seq.{get_or-append_right}
use Rattle.reflect_passes.specs.Linked.{linked_says}
use Rattle.reflect_passes.specs.declared.linked_types.LinkedTypes.{LinkedTypes}
use Rattle.reflect_tables.specs.Ranges.{Range}
use Rattle.reflect_tables.specs.Types.{MessageType, no_type}
use Rattle.reflect_tables.specs.Views.{message_of, ranges_of}
use Rattle.reflect_tables.specs.declared.stored.StoredMessage.{StoredMessage}

abbrev stored_ranges : Option StoredMessage → List Range
stored_ranges o = elim o [ None ↦ [] | Some m ↦ ranges_of m.extension_numbers ]

abbrev type_in : List MessageType → ℕ → MessageType
type_in ts i = slice_index_or ts i no_type

ranges_in : (ms : List StoredMessage) (i : ℕ)
    → stored_ranges (slice_get ms i) ≡ (type_in (map message_of ms) i).extension_ranges
ranges_in [] i = refl
ranges_in (m ∷ ms) zero = refl
ranges_in (m ∷ ms) (suc i) = ranges_in ms i

module _ (t : LinkedTypes) (types : List MessageType)
    (are : types ≡ map message_of t.old.now.messages.items
    ++ map message_of t.new.now.messages.items) where
  abbrev olds : List StoredMessage
  olds = t.old.now.messages.items

  abbrev news : List StoredMessage
  news = t.new.now.messages.items

  count : length (map message_of olds) ≡ length olds
  count = length-map olds message_of

  pub ranges_at : (i : ℕ) → (linked_says t).extensions i ≡ (type_in types i).extension_ranges
  ranges_at i = by (nat_lt i (length olds)) refl where
    there : (k : MessageType) → type_in (map message_of olds ++ map message_of news) i ≡ k
        → k.extension_ranges ≡ (type_in types i).extension_ranges
    there k is = ap (λ (m : MessageType). m.extension_ranges)
        (sym (ap (λ ts. type_in ts i) are ∙ is))

    by : (b : Bool) → nat_lt i (length olds) ≡ b
        → stored_ranges (cond b (slice_get olds i) (slice_get news (i - length olds)))
        ≡ (type_in types i).extension_ranges
    by true is =
        let lt : i < length olds = grind (arith, is) in
        let same = count in
        ranges_in olds i
        ∙ there (type_in (map message_of olds) i)
        (get_or-append (map message_of olds) (map message_of news) no_type i
        (omega (arith, lt, same)))
    by false is =
        let le : length olds ≤ i = grind (arith, is) in
        let same = count in
        ranges_in news (i - length olds)
        ∙ ap (λ n. (type_in (map message_of news) (i - n)).extension_ranges) (sym same)
        ∙ there (type_in (map message_of news) (i - length (map message_of olds)))
        (get_or-append_right (map message_of olds) (map message_of news) i no_type
        (omega (arith, le, same)))
