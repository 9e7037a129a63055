-- A copy of a message that sits does so too, where it is in order.
use Rattle.std.proofs.Common.{◌≡◌, ℕ, zero, suc, true, Option, sym, ap, ◌∙◌, subst}
use Rattle.reflect_tables.specs.Types.{FieldType, KindType, PoolType}
use Rattle.reflect_pool.specs.Kinds.{IsKind}
use Rattle.reflect_pool.specs.declared.kind.Kind.TheVariants as publics
use Rattle.reflect_pool.specs.declared.message.MessageDescriptor.{MessageDescriptor}
use Rattle.reflect_scalar.specs.Singles.{Single}
use Rattle.reflect_scalar.specs.declared.map_key.MapKey.{MapKey}
use Rattle.reflect_message.specs.Contents.{Content, content_of}
use Rattle.reflect_copies.specs.Copies.{IsCopy}
use Rattle.reflect_message.specs.Held.{choices_of, fields_of}
use Rattle.reflect_copies.specs.InOrder.{IsInOrder}
use Rattle.reflect_message.specs.Known.{known_extension, known_field}
use Rattle.reflect_message.specs.Names.{DynamicMessage, Value}
use Rattle.reflect_message.specs.Oneofs.{AreChosen}
use Rattle.reflect_copies.specs.Trees.{ValueTree, entry_tree, tree}
use Rattle.reflect_copies.proofs.Alike.{content_alike, message_alike}
use Rattle.reflect_copies.proofs.Copying.{chosen_copied}
use Rattle.reflect_copies.proofs.InOrder.{entries_below, items_below, message_below}
use Rattle.reflect_decode.specs.Ordered.{HoldsInOrder}
use Rattle.reflect_decode.proofs.InOrder.{message_tells}
use Rattle.reflect_numbered.specs.Fits.{is_one, suits_type}
use Rattle.reflect_numbered.specs.declared.validity.Strictness.TheVariants.{Types}
use Rattle.protobuf_model.specs.Meaning.{payloads}
use Rattle.merge_view.proofs.Shaped.{copy_ordered}
use Rattle.merge_view.proofs.Trees.{entries_alike, items_alike, single_alike}
use Rattle.valid_view.specs.Tidy.{Tidy}
use Rattle.valid_view.proofs.AlikeParts.{Sorted, entries_hold, items_hold, place_holds}
use Rattle.valid_view.proofs.LeftOnes.{EntryLeft, OneLeft, WholeLeft, left_list, left_map, left_one, message_left, single_left}
use Rattle.valid_view.proofs.Sitting.{Both, IsOf, Sits, both_sits, sits_both}

-- what is known of copies of messages inside
abbrev pub Copies : (DynamicMessage → Type 0) → Type 0
Copies Q = (m n : DynamicMessage) → n.descriptor ≡ m.descriptor → IsCopy (content_of m) (content_of n) → IsInOrder n → Q m → Q n

module _ (Q : DynamicMessage → Type 0) (copies : Copies Q) (pool : PoolType) where
  one_copied : (t : KindType) (v w : Value) → tree w ≡ tree v → Sorted w → OneLeft Q pool t v → OneLeft Q pool t w
  one_copied t v w e sorted (single_left s at is) = single_left s (single_alike v w e ∙ at) is
  one_copied t v w e sorted (message_left m at kind q) =
      let n = message_alike v w e m at in
      message_left n.0 n.1 (subst (λ (d : MessageDescriptor). IsKind pool (publics.Message d) t) (sym n.2) kind)
      (copies m n.0 n.2 (content_alike m n.0 n.3) (message_below w sorted n.0 n.1) q)

  entry_copied : (keys values : KindType) (e g : MapKey × Value) → entry_tree g ≡ entry_tree e → Sorted g.1 → EntryLeft Q pool keys values e → EntryLeft Q pool keys values g
  entry_copied keys values e g same sorted was =
      let key = ap (λ (p : Single × ValueTree). is_one keys p.0) same in
      let value : tree g.1 ≡ tree e.1 = ap (λ (p : Single × ValueTree). p.1) same in
      (key ∙ was.0, one_copied values e.1 g.1 value sorted was.1)

  whole_copied : (f : FieldType) (v w : Value) → tree w ≡ tree v → Sorted w → WholeLeft Q pool f v → WholeLeft Q pool f w
  whole_copied f v w e sorted (left_one no_map once one) = left_one no_map once (one_copied f.kind v w e sorted one)
  whole_copied f v w e sorted (left_list no_map repeats vs at all) =
      let its = items_alike v w e vs at in
      left_list no_map repeats its.0 its.1 (items_hold (OneLeft Q pool f.kind) (one_copied f.kind) vs its.0 its.2 (items_below w sorted its.0 its.1) all)
  whole_copied f v w e sorted (left_map is_map es at keys values first second all) =
      let its = entries_alike v w e es at in
      left_map is_map its.0 its.1 keys values first second
      (entries_hold (EntryLeft Q pool keys.kind values.kind) (entry_copied keys.kind values.kind) es its.0 its.2 (entries_below w sorted its.0 its.1) all)

  -- of what stands under a number
  held_copied : (its : Option FieldType) (v w : Value) → tree w ≡ tree v → Sorted w → IsOf Q pool its v → IsOf Q pool its w
  held_copied its v w e sorted was = (was.0, was.1, whole_copied was.0 v w e sorted was.2)

pub copy_sits : (Q : DynamicMessage → Type 0) → Copies Q → (d : MessageDescriptor) (old copy : Content) → IsCopy old copy → HoldsInOrder copy → Sits Q d old → Sits Q d copy
copy_sits Q copies d old copy copied sorted sits = record {
  fields = λ n. place_holds (IsOf Q d.pool.now (known_field d.pool.now d.index n)) (held_copied Q copies d.pool.now (known_field d.pool.now d.index n)) old.fields copy.fields copied.fields sorted.fields n (sits.fields n);
  extensions = λ n. place_holds (IsOf Q d.pool.now (known_extension d.pool.now d.index n)) (held_copied Q copies d.pool.now (known_extension d.pool.now d.index n)) old.extensions copy.extensions copied.extensions sorted.extensions n (sits.extensions n);
  ordered = copy_ordered old copy copied sorted sits.ordered;
  declared = λ n is. ap (payloads n) copied.unknown ∙ sits.declared n is;
}

-- at each depth
pub copies_both : (pool : PoolType) (levels : ℕ) → Copies (Both pool levels)
copies_both pool zero m n same copied sorted h = absurd h.1
copies_both pool (suc levels) m n same copied sorted h =
    let its = copy_sits (Both pool levels) (copies_both pool levels) m.descriptor (content_of m) (content_of n) copied (message_tells n sorted) (both_sits pool levels m h) in
    let chosen = chosen_copied m.descriptor (choices_of m) (choices_of n) (fields_of m) (fields_of n) copied.choices copied.fields h.1.0.exclusive in
    sits_both pool levels n (ap (λ (d : MessageDescriptor). d.pool.now) same ∙ h.1.0.pooled)
    (subst (λ (d : MessageDescriptor). AreChosen d (choices_of n) (fields_of n)) (sym same) chosen)
    (subst (λ (d : MessageDescriptor). Sits (Both pool levels) d (content_of n)) (sym same) its)

pub copied_both : (pool : PoolType) (levels : ℕ) (old copy : DynamicMessage) → copy.descriptor ≡ old.descriptor → IsCopy (content_of old) (content_of copy) → IsInOrder copy → suits_type Types old ≡ true → Tidy pool levels old
    → (suits_type Types copy ≡ true) × Tidy pool levels copy
copied_both pool levels old copy same copied sorted typed tidy = copies_both pool levels old copy same copied sorted (typed, tidy)
