-- A copy of a message that is firm is firm, where it is in order.
use Rattle.std.proofs.Common.{◌≡◌, ℕ, zero, suc, List, Some, sym, ap, ◌∙◌, subst}
use Rattle.std.specs.List.{AllByRecursion}
use Rattle.reflect_tables.specs.Types.{PoolType}
use Rattle.reflect_wire.specs.Records.{Payload}
use Rattle.reflect_wire.specs.Written.{FitsPayload}
use Rattle.reflect_pool.specs.declared.message.MessageDescriptor.{MessageDescriptor}
use Rattle.reflect_scalar.specs.Singles.{Single}
use Rattle.reflect_scalar.specs.Written.{Fits}
use Rattle.reflect_scalar.specs.declared.map_key.MapKey.{MapKey}
use Rattle.reflect_message.specs.Contents.{Content, content_of}
use Rattle.reflect_message.specs.Held.{choices_of, fields_of}
use Rattle.reflect_message.specs.Lists.{list_items}
use Rattle.reflect_message.specs.Maps.{map_entries}
use Rattle.reflect_message.specs.Names.{DynamicMessage, Value}
use Rattle.reflect_message.specs.Oneofs.{AreChosen}
use Rattle.reflect_copies.specs.Copies.{IsCopy}
use Rattle.reflect_copies.specs.InOrder.{IsInOrder}
use Rattle.reflect_copies.specs.Trees.{ValueTree, entry_tree, tree}
use Rattle.reflect_copies.proofs.Alike.{content_alike, message_alike}
use Rattle.reflect_copies.proofs.Copying.{chosen_copied}
use Rattle.reflect_copies.proofs.InOrder.{entries_below, items_below, message_below}
use Rattle.reflect_decode.specs.Ordered.{HoldsInOrder}
use Rattle.reflect_decode.proofs.InOrder.{message_tells}
use Rattle.protobuf_model.specs.Meaning.{payloads}
use Rattle.merge_view.proofs.Shaped.{copy_ordered}
use Rattle.merge_view.proofs.Trees.{entries_alike, items_alike, single_alike}
use Rattle.valid_view.specs.Inside.{AreAscending}
use Rattle.valid_view.specs.Tidy.{Solid, Tidy}
use Rattle.valid_view.proofs.AlikeParts.{Sorted, entries_hold, items_hold, place_holds}
use Rattle.valid_view.proofs.Copied.{Copies}
use Rattle.valid_view.proofs.Firm.{Carries, Firm, FirmEntry, FirmIn, FirmOne, firm_by, firm_entries, firm_items, firm_one, firm_solid, solid_firm}
use Rattle.valid_view.proofs.KeyOrder.{alike_ascend}

module _ (Q : DynamicMessage → Type 0) (copies : Copies Q) where
  one_copied : (v w : Value) → tree w ≡ tree v → Sorted w → FirmOne Q v → FirmOne Q w
  one_copied v w e sorted firm = (
    λ s at. firm.0 s (sym (single_alike v w e) ∙ at),
    λ n at.
        let m = message_alike w v (sym e) n at in
        copies m.0 n (sym m.2) (content_alike m.0 n (sym m.3)) (message_below w sorted n at) (firm.1 m.0 m.1),
  )

  entry_copied : (e g : MapKey × Value) → entry_tree g ≡ entry_tree e → Sorted g.1 → FirmEntry Q e → FirmEntry Q g
  entry_copied e g same sorted firm =
      let value : tree g.1 ≡ tree e.1 = ap (λ (p : Single × ValueTree). p.1) same in
      (subst Fits (sym (ap (λ (p : Single × ValueTree). p.0) same)) firm.0, one_copied e.1 g.1 value sorted firm.1)

  whole_copied : (v w : Value) → tree w ≡ tree v → Sorted w → FirmIn Q v → FirmIn Q w
  whole_copied v w e sorted firm = firm_by Q w (one_copied v w e sorted (firm_one Q v firm)) items entries where
    items : (ws : List Value) → list_items w ≡ Some ws → AllByRecursion (FirmOne Q) ws
    items ws at =
        let its = items_alike w v (sym e) ws at in
        items_hold (FirmOne Q) one_copied its.0 ws (sym its.2) (items_below w sorted ws at) (firm_items Q v its.0 its.1 firm)

    entries : (gs : List (MapKey × Value)) → map_entries w ≡ Some gs → AllByRecursion (FirmEntry Q) gs × AreAscending gs
    entries gs at =
        let its = entries_alike w v (sym e) gs at in (
          entries_hold (FirmEntry Q) entry_copied its.0 gs (sym its.2) (entries_below w sorted gs at) (firm_entries Q v its.0 its.1 firm),
          alike_ascend its.0 gs (sym its.2) (firm.0.ascending its.0 its.1),
        )

  pub copy_carries : (levels : ℕ) (old copy : Content) → IsCopy old copy → HoldsInOrder copy → Carries Q levels old → Carries Q levels copy
  copy_carries levels old copy copied sorted was = record {
    fields = λ n. place_holds (FirmIn Q) whole_copied old.fields copy.fields copied.fields sorted.fields n (was.fields n);
    extensions = λ n. place_holds (FirmIn Q) whole_copied old.extensions copy.extensions copied.extensions sorted.extensions n (was.extensions n);
    ordered = copy_ordered old copy copied sorted was.ordered;
    records = λ n. subst (λ (rs : List (ℕ × Payload)). AllByRecursion (FitsPayload levels) (payloads n rs)) (sym copied.unknown) (was.records n);
  }

-- at each depth
pub copies_firm : (pool : PoolType) (levels : ℕ) → Copies (Firm pool levels)
copies_firm pool zero m n same copied sorted firm = absurd firm
copies_firm pool (suc levels) m n same copied sorted firm =
    let chosen = chosen_copied m.descriptor (choices_of m) (choices_of n) (fields_of m) (fields_of n) copied.choices copied.fields firm.1 in (
      ap (λ (d : MessageDescriptor). d.pool.now) same ∙ firm.0,
      subst (λ (d : MessageDescriptor). AreChosen d (choices_of n) (fields_of n)) (sym same) chosen,
      copy_carries (Firm pool levels) (copies_firm pool levels) levels (content_of m) (content_of n) copied (message_tells n sorted) firm.2,
    )

pub copied_solid : (pool : PoolType) (levels : ℕ) (old copy : DynamicMessage) → copy.descriptor ≡ old.descriptor → IsCopy (content_of old) (content_of copy) → IsInOrder copy → Tidy pool levels old → Solid levels old → Solid levels copy
copied_solid pool levels old copy same copied sorted tidy solid =
    firm_solid pool levels copy (copies_firm pool levels old copy same copied sorted (solid_firm pool levels old tidy solid))
