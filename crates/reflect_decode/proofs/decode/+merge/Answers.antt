use Rattle.std.specs.Prelude.{option_map}
use Rattle.std.proofs.lemmas.Result.{err_from_is_err_and}
use Rattle.std.proofs.Common.{rules, ◌≡◌, ◌≢◌, inl, inr, [], true, false, Some, None, refl, sym, ap, ◌∙◌, subst, arith}
use Rattle.reflect_wire.specs.Reads.{Fronts}
use Rattle.reflect_wire.specs.Key.{IsKey, IsDelimited}
use Rattle.reflect_wire.specs.Records.{delimited}
use Rattle.reflect_wire.specs.declared.wire_key.WireType.TheVariants.{LengthDelimited, EndGroup}
use Rattle.reflect_entries.specs.Undeclared.{undeclared}
use Rattle.reflect_pool.specs.FieldsLeft.{field_type}
use Rattle.reflect_pool.specs.Kinds.{IsKind}
use Rattle.reflect_entries.specs.Entries.{value_at}
use Rattle.reflect_scalar.specs.FieldTypes.{field_pool, extension_pool, extension_type, either_pool, either_type}
use Rattle.reflect_scalar.specs.Kinds.{packs, wire_type}
use Rattle.reflect_scalar.specs.Singles.{scalar_view}
use Rattle.reflect_message.specs.Contents.{content_of, content_in}
use Rattle.reflect_decode.specs.Accepts.{AcceptsElement, AcceptsEntry, AcceptsMessage}
use Rattle.reflect_decode.specs.Levels.{TakenAt, TakesAt}
use Rattle.reflect_decode.specs.Maps.{LeavesSingle}
use Rattle.reflect_message.specs.Maps.{map_entries}
use Rattle.reflect_message.specs.Messages.{message_in}
use Rattle.reflect_decode.specs.Merging.{IsBody, run_records}
use Rattle.reflect_message.specs.Declares.{NoField}
use Rattle.reflect_pool.specs.declared.kind.Kind.TheVariants as kinds
use Rattle.reflect_decode.specs.Refused.{EntryFault, MapFault, Within}
use Rattle.reflect_decode.specs.Keeps.{payloads}
use Rattle.reflect_pool.specs.Shapes.{holds_list, holds_map}
use Rattle.reflect_wire.specs.Faults.{TellsTrue}
use Rattle.reflect_message.specs.KindTypes.{IsMessageType}
use Rattle.reflect_message.specs.MapKeys.{key_of_value}
use Rattle.reflect_decode.specs.Suits.{HeldSuits, SuitsBelow}
use Rattle.reflect_decode.proofs.Accepting.{all_both, all_one, part_accepted, run_of_field}
use Rattle.reflect_message.specs.declared.value.ValueOf.{Message, the_lemmas}
use Rattle.reflect_decode.proofs.Appending.{appends_value, appends_row, appends_message, appends_more, list_done}
use Rattle.reflect_message.proofs.Choosing.{makes_room}
use Rattle.reflect_decode.proofs.Holding.{same_content, merged_in, fault_in}
use Rattle.reflect_decode.proofs.InOrder.{orders_at}
use Rattle.reflect_decode.proofs.Keeping.{kept_if_read, not_declared}
use Rattle.reflect_decode.proofs.Kept.{emptied, no_longer, key_shorter}
use Rattle.reflect_decode.proofs.Nesting.{accepts_at, appends_at, joins_at, value_unset, delimited_taken, group_taken}
use Rattle.reflect_decode.proofs.Mapping.{key_step, value_step, part_single, part_message, put_more, map_put, entry_is_read, entry_accepts, key_read, value_read}
use Rattle.reflect_decode.proofs.Running.{delimited_value, same_value, run_more, run_ends, run_behind, group_ends, whole_body}
use Rattle.reflect_decode.proofs.Sparing.{merges_none, merges_more, merges_field, merges_kept, merges_extension}
use Rattle.reflect_decode.proofs.Refusing.{entry_key_refused, entry_length, entry_refused, extension_refused, field_refused, group_refused, key_part, key_refused, keyless, list_at, list_refused, map_refused, message_fault, nested_refused, no_entries, no_items, no_key, no_message_there, one_refused, other_refused, part_fault, part_refused, record_refused, refused_as, refused_both, run_at, single_refused, sized_refused, slot_is_list, slot_is_map, slot_is_message, value_part}
use Rattle.reflect_decode.proofs.Suiting.{empty_suits, suits_below, part_begins, part_stays_suiting, suits_stay}
use Rattle.reflect_decode.proofs.Taking.{entries_of_slot, map_leaves, message_leaves, list_leaves, single_leaves}
use Rattle.reflect_message.proofs.Lengthening.{items_of_slot}
use Rattle.reflect_decode.proofs.decode.+merge.Goals as goal

pub merge_element-returns-then-is_packable : goal.merge_element-returns-then-is_packable
merge_element-returns-then-is_packable t c =
    let raw = c.args.raw in
    let wire : raw.key.wire ≡ LengthDelimited = search rules in
    let packed : packs (wire_type c.args.kind.now) ≡ true = search rules in
    let read = c.in_ok-body.ensures.read in
    let row = c.in_ok-push_packed.ensures.read in
    record {
      read = appends_row (TakenAt raw.levels c.args.is_group) raw.levels c.args.is_group raw.key c.args.kind.now raw.bytes.now c.in_ok-body.rest.now _ _ c.in_ok-body.body.now row.0 wire packed read row.1 row.2;
      shorter = no_longer IsDelimited raw.bytes.now c.in_ok-body.rest.now c.in_ok-body.body.now read;
      fault = tt;
    }

pub merge_element-returns : goal.merge_element-returns
merge_element-returns t c =
    let raw = c.args.raw in
    let found = c.in_ok-scalar in
    let lt = found.ensures.shorter in
    let value = c.in_ok-from_scalar in
    record {
      read = appends_value (TakenAt raw.levels c.args.is_group) raw.levels c.args.is_group raw.key c.args.kind.now raw.bytes.now found.rest.now _ _ (scalar_view found.scalar) value.field-0 found.ensures.read c.in_ok-push-2.ensures.items value.ensures;
      shorter = omega (arith, lt);
      fault = tt;
    }

pub merge_element-returns-in-Message-clause-read : goal.merge_element-returns-in-Message-clause-read
merge_element-returns-in-Message-clause-read t c =
    let raw = c.args.raw in
    let fresh = c.new-message in
    let found = c.in_ok-rest in
    let read = found.ensures.read in
    appends_message (TakenAt raw.levels c.args.is_group) raw.levels c.args.is_group raw.key c.args.kind.now raw.bytes.now found.rest.now _ _ c.in-Message.inner fresh.result c.merge_message.new.message _ read.0 (search rules) fresh.ensures.same_type fresh.ensures.empty found.ensures.same_type
    (search (rules, the_lemmas)) c.in_ok-push.ensures.items read.1 read.2 read.3

pub merge_field-returns-in-Message-2-clause-read : goal.merge_field-returns-in-Message-2-clause-read
merge_field-returns-in-Message-2-clause-read t c =
    let raw = c.args.raw in
    let pool = either_pool c.args.field in
    let type = either_type c.args.field in
    let kind = c.in-Message in
    let fresh = c.new-in-Message in
    let slot = c.in_ok-message-in-Message in
    let merged = c.merge_message in
    let is = subst (λ k. IsKind pool k type.kind) kind.is c.kind-kind.ensures in
    message_leaves (TakesAt raw.levels) raw.levels raw.key raw.bytes.now pool type _ _ _ (search rules) kind.inner fresh.result c.in-Message-2.message _ merged.new.message (Message fresh.result) slot.field-0.now (Message merged.new.message) merged.result is (search rules) (search rules) (search rules)
    (search (rules, the_lemmas)) fresh.ensures.same_type fresh.ensures.empty (search (rules, the_lemmas)) (search rules) (search (rules, the_lemmas)) c.in-Message-2.message-is merged.ensures.same_type merged.ensures.read

pub merge_field-returns-then-is_map-clause-read : goal.merge_field-returns-then-is_map-clause-read
merge_field-returns-then-is_map-clause-read t c =
    let raw = c.args.raw in
    map_leaves (TakesAt raw.levels) raw.levels raw.key raw.bytes.now (either_pool c.args.field) (either_type c.args.field) _ _ c.kind-kind.result _ _ c.merge_map.result c.kind-kind.ensures (search rules) (entries_of_slot _ _ _ c.in_ok-map.ensures.value (search (rules, the_lemmas))) (search rules) c.merge_map.ensures.read

pub merge_field-returns-then-is_list-clause-read : goal.merge_field-returns-then-is_list-clause-read
merge_field-returns-then-is_list-clause-read t c =
    let raw = c.args.raw in
    list_leaves (TakesAt raw.levels) raw.levels raw.key raw.bytes.now (either_pool c.args.field) (either_type c.args.field) _ _ _ (search rules) c.kind-kind.result _ _ c.merge_list.result c.kind-kind.ensures (search rules) (items_of_slot _ _ _ c.in_ok-list.ensures.value (search (rules, the_lemmas))) (search rules) c.merge_list.ensures.read

pub merge_field-returns-in_ok-set-in_default-clause-read : goal.merge_field-returns-in_ok-set-in_default-clause-read
merge_field-returns-in_ok-set-in_default-clause-read t c =
    let raw = c.args.raw in
    let found = c.in_ok-scalar-in_default in
    let value = c.in_ok-from_scalar-in_default in
    let put = c.in_ok-set-in_default.ensures.updates in
    single_leaves (TakesAt raw.levels) raw.levels raw.key raw.bytes.now (either_pool c.args.field) (either_type c.args.field) _ _ c.kind-kind.result found.rest.now _ (scalar_view found.scalar) c.kind-kind.ensures (search rules) found.ensures.read put.here value.ensures

pub merge_list-returns-in-None-clause-read : goal.merge_list-returns-in-None-clause-read
merge_list-returns-in-None-clause-read t c =
    let raw = c.args.raw in
    let here = c.records.record in
    let inv = c.records.invariant in
    let rest = c.in_ok-rest.rest.now in
    let read = c.in_ok-rest.ensures.read in
    let added = appends_at here.levels raw.levels c.args.is_group c.args.kind.now _ _ read.0 inv.4 read.2 in
    list_done (TakenAt raw.levels c.args.is_group) raw.levels c.args.is_group raw.key c.args.kind.now raw.bytes.now here.bytes.now rest _ _ _ _ _ inv.0 read.0 (search (rules, the_lemmas)) (search (rules, the_lemmas)) inv.1 (same_value raw.levels raw.key here.levels here.key here.bytes.now rest read.0 inv.4 inv.3 read.1) inv.2 added inv.6
    (accepts_at here.levels raw.levels c.args.is_group c.args.kind.now read.0 inv.4 read.3)

pub merge_message-returns-in_ok-merge_body-in-LengthDelimited-clause-read : goal.merge_message-returns-in_ok-merge_body-in-LengthDelimited-clause-read
merge_message-returns-in_ok-merge_body-in-LengthDelimited-clause-read t c =
    let raw = c.args.raw in
    let found = c.in_ok-body-in-LengthDelimited in
    let below = c.in_ok-levels_below-in-LengthDelimited in
    let merged = c.in_ok-merge_body-in-LengthDelimited in
    let form : c.args.is_group ≡ false = search rules in
    delimited_taken below.field-0 raw.levels below.ensures.below _ _ _ raw.key raw.bytes.now c.args.is_group found.body.now merged.field-0.now found.rest.now form c.in-LengthDelimited.is found.ensures.read (merged.ensures.whole refl) merged.ensures.read

pub merge_message-returns-in_ok-levels-in-StartGroup-clause-read : goal.merge_message-returns-in_ok-levels-in-StartGroup-clause-read
merge_message-returns-in_ok-levels-in-StartGroup-clause-read t c =
    let raw = c.args.raw in
    let below = c.in_ok-levels-in-StartGroup in
    let merged = c.merge_body-in-StartGroup in
    let form : c.args.is_group ≡ true = search rules in
    group_taken below.levels raw.levels below.ensures.below _ _ _ raw.key raw.bytes.now c.args.is_group merged.result form c.in-StartGroup.is merged.ensures.read

pub merge_records-returns-in-Some-clause-read : goal.merge_records-returns-in-Some-clause-read
merge_records-returns-in-Some-clause-read t c =
    let inv = c.records.invariant in
    let next = c.in_ok-key in
    let wire : next.key.wire ≡ EndGroup = search rules in
    let is : Some c.in-Some.number ≡ c.args.group = sym c.in-Some.is ∙ inv.3 in
    let ends = group_ends c.args.levels c.args.bytes.now c.records.rest.now inv.0 inv.1 c.in-Some.number next.key next.behind.now next.ensures.read wire (sym c.if-number-key.true) in
    (inv.0, subst (λ g. Fronts (IsBody g c.args.levels) c.args.bytes.now inv.0 next.behind.now) is ends, inv.2, inv.5)

pub merge_records-returns-in-Some-clause-whole : goal.merge_records-returns-in-Some-clause-whole
merge_records-returns-in-Some-clause-whole t c = λ none. absurd (cc (c.in-Some.is, c.records.invariant.3, none))

pub merge_records-returns-in-None-clause-read : goal.merge_records-returns-in-None-clause-read
merge_records-returns-in-None-clause-read t c =
    let inv = c.records.invariant in
    let is : None ≡ c.args.group = sym c.in-None.is ∙ inv.3 in
    (inv.0, subst (λ g. Fronts (IsBody g c.args.levels) c.args.bytes.now inv.0 c.records.rest.now) is inv.1, inv.2, inv.5)

pub merge_list-records-init : goal.merge_list-records-init
merge_list-records-init t c = ([], ([], refl, refl), refl, refl, refl, omega arith, tt)

pub merge_list-records-preserved : goal.merge_list-records-preserved
merge_list-records-preserved t c =
    let raw = c.args.raw in
    let here = c.records.record in
    let inv = c.records.invariant in
    let rest = c.in_ok-rest.rest.now in
    let next = c.in-Some.next in
    let read = c.in_ok-rest.ensures.read in
    let value = same_value raw.levels raw.key here.levels here.key here.bytes.now rest read.0 inv.4 inv.3 read.1 in
    let key = subst (λ k. Fronts IsKey rest k next.bytes.now) inv.3 c.in-Some.ensures.read in
    let before = c.in_ok-rest.ensures.shorter in
    let behind = c.in-Some.ensures.shorter in
    let so_far = inv.5 in (
      _,
      run_more raw.levels raw.key raw.bytes.now here.bytes.now rest next.bytes.now inv.0 read.0 inv.1 value key,
      appends_more (TakenAt raw.levels c.args.is_group) c.args.kind.now _ _ _ inv.0 read.0 inv.2 (appends_at here.levels raw.levels c.args.is_group c.args.kind.now _ _ read.0 inv.4 read.2),
      c.in-Some.ensures.key ∙ inv.3,
      c.in-Some.ensures.levels ∙ inv.4,
      omega (arith, before, behind, so_far),
      all_one (AcceptsElement (AcceptsMessage raw.levels) c.args.is_group c.args.kind.now) inv.0 read.0 inv.6 (accepts_at here.levels raw.levels c.args.is_group c.args.kind.now read.0 inv.4 read.3),
    )

pub merge_record-returns-in-Some-clause-read : goal.merge_record-returns-in-Some-clause-read
merge_record-returns-in-Some-clause-read t c =
    let raw = c.args.raw in
    let type = c.args.descriptor in
    let run = c.in_ok-rest.ensures.read in
    let found = c.in-Some in
    let known : option_map field_type c.declared_field.result ≡ Some (field_type found.field) = search rules in
    let room = c.in_ok-make_room.ensures in
    let cleared = c.clear_siblings.ensures in
    let made = makes_room found.field _ _ room.first room.stays room.others in (
      run.0,
      run.1,
      merges_field (TakesAt raw.levels) type (orders_at raw.levels) found.field found.ensures.owns raw.key.number found.ensures.number _ _ _ _ run.0 made c.in_ok-rest.ensures.others run.2 cleared.unsets (cleared.chooses room.room) cleared.extensions (ap undeclared cleared.unknown) (omega (arith, raw.positive), omega (arith, raw.small))
          (λ ascends. cleared.ascending (c.in_ok-rest.ensures.ascending ascends)),
      λ suits. run_of_field raw.levels type raw.key.number (field_pool found.field) (field_type found.field) run.0 (sym known ∙ c.declared_field.ensures.known) found.ensures.owns.0.1
          (run.3 (subst (λ n. HeldSuits (SuitsBelow raw.levels) (field_pool found.field) (field_type found.field) (value_at c.args.parts.now.fields n)) found.ensures.number (suits.fields found.field found.ensures.owns))),
    )

pub merge_record-returns-in-Some-declared_extension-clause-read : goal.merge_record-returns-in-Some-declared_extension-clause-read
merge_record-returns-in-Some-declared_extension-clause-read t c =
    let raw = c.args.raw in
    let found = c.in-Some-declared_extension in
    let merged = c.merge_field-in-Some-declared_extension in
    let no_field : option_map field_type c.declared_field.result ≡ None = search rules in
    let known : option_map extension_type c.declared_extension.result ≡ Some (extension_type found.extension) = search rules in
    merges_extension (TakesAt raw.levels) c.args.descriptor raw.levels raw.key raw.bytes.now _ _ (orders_at raw.levels) merged.result c.in_default.ensures.none found.extension (sym no_field ∙ c.declared_field.ensures.known) (sym known ∙ c.declared_extension.ensures.known) found.ensures.owns found.ensures.number refl refl refl
    (omega (arith, raw.positive), omega (arith, raw.small)) merged.ensures.ascending merged.ensures.others merged.ensures.read

pub merge_record-returns-clause-read : goal.merge_record-returns-clause-read
merge_record-returns-clause-read t c =
    let raw = c.args.raw in
    let none = not_declared c.args.descriptor raw.key.number c.in_default.ensures.none c.in_default-declared_extension.ensures.none in
    let no_field : option_map field_type c.declared_field.result ≡ None = search rules in
    let no_extension : option_map extension_type c.declared_extension.result ≡ None = search rules in
    let kept = kept_if_read c.args.descriptor raw.levels raw.key raw.bytes.now _ _ c.keep_unknown.result none (omega (arith, raw.positive)) (omega (arith, raw.small)) c.keep_unknown.ensures.kept in
    merges_kept (TakesAt raw.levels) c.args.descriptor raw.levels raw.key raw.bytes.now _ _ c.keep_unknown.result (sym no_field ∙ c.declared_field.ensures.known) (sym no_extension ∙ c.declared_extension.ensures.known) c.in_default.ensures.none c.in_default-declared_extension.ensures.none refl refl refl kept

pub merge_records-records-preserved : goal.merge_records-records-preserved
merge_records-records-preserved t c =
    let inv = c.records.invariant in
    let here = c.records.rest.now in
    let next = c.in_ok-key in
    let rest = c.in_ok-rest.rest.now in
    let merged = c.in_ok-rest.ensures.read in
    let key = no_longer IsKey here next.behind.now next.key next.ensures.read in
    let behind = c.in_ok-rest.ensures.shorter in
    let so_far = inv.4 in (
      _,
      run_behind c.args.levels c.args.bytes.now here inv.0 inv.1 next.key next.behind.now rest merged.0 next.ensures.read merged.1,
      merges_more (TakesAt c.args.levels) c.args.descriptor (joins_at c.args.levels) _ _ _ inv.0 (run_records next.key.number merged.0) inv.2 merged.2,
      inv.3,
      omega (arith, key, behind, so_far),
      λ suits. all_both _ inv.0 (run_records next.key.number merged.0) (inv.5 suits) (merged.3 (suits_stay c.args.levels c.args.descriptor _ _ inv.0 inv.2 suits)),
    )

pub merge_records-records-init : goal.merge_records-records-init
merge_records-records-init t c = ([], ([], refl, refl), merges_none (TakesAt c.args.levels) c.args.descriptor _, refl, omega arith, λ suits. tt)

pub merge_body-returns-clause-read : goal.merge_body-returns-clause-read
merge_body-returns-clause-read t c =
    let old = c.args.message.now in
    let new = c.put_block.new.self in
    let before = c.deref_mut.result.now in
    let after = c.merge_records-outcome.new.parts in
    let was : content_in before ≡ content_of old = same_content old before (search rules) (search rules) (search rules) (search rules) in
    let is : content_in after ≡ content_of new = same_content new after (search rules) (search rules) (search rules) (search rules) in
    merged_in c.args.levels c.args.group c.args.bytes.now old.descriptor _ (content_of old) (content_of new) (content_in before) (content_in after) c.merge_records-outcome.result (search rules) was is c.merge_records-outcome.ensures.read

pub merge_body-returns-then-is_none-clause-read : goal.merge_body-returns-then-is_none-clause-read
merge_body-returns-then-is_none-clause-read t c =
    let none : c.args.group ≡ None = search rules in
    ([], ([], subst (λ g. IsBody g c.args.levels [] []) (sym none) refl, refl), merges_none (TakesAt c.args.levels) _ _, λ suits. tt)

pub merge_part-returns : goal.merge_part-returns
merge_part-returns t c =
    let raw = c.args.raw in
    let found = c.in_ok-scalar in
    let lt = found.ensures.shorter in
    record {
      read = part_single (TakesAt raw.levels) (field_pool c.args.field.now) (field_type c.args.field.now) raw.levels raw.key raw.bytes.now _ _ c.kind-kind.result found.rest.now (scalar_view found.scalar) c.kind-kind.ensures found.ensures.read c.in_ok-held.ensures;
      shorter = omega (arith, lt);
      fault = λ suits. tt;
    }

pub merge_part-returns-in-Message-held-clause-read : goal.merge_part-returns-in-Message-held-clause-read
merge_part-returns-in-Message-held-clause-read t c =
    let raw = c.args.raw in
    let field = c.args.field.now in
    let kind = c.in-Message in
    let held = c.in-Message-held in
    let merged = c.merge_message in
    let is = subst (λ k. IsKind (field_pool field) k (field_type field).kind) kind.is c.kind-kind.ensures in
    let was : message_in c.args.held.now ≡ Some held.message = search (rules, the_lemmas) in
    part_message (TakesAt raw.levels) (field_pool field) (field_type field) raw.levels raw.key raw.bytes.now c.args.held.now _ _ (search rules) kind._inner _ merged.new.message merged.result is (was ∙ ap Some (sym held.message-is)) (search (rules, the_lemmas)) merged.ensures.same_type merged.ensures.read

pub merge_map-returns-in-Map-clause-read : goal.merge_map-returns-in-Map-clause-read
merge_map-returns-in-Map-clause-read t c =
    let raw = c.args.raw in
    let merged = c.merge_entries in
    let was : map_entries c.args.map.now ≡ Some c.in-Map.entries.entries = search (rules, the_lemmas) in
    map_put (TakesAt raw.levels) raw.levels raw.key raw.bytes.now c.args.map.now _ _ merged.new.entries.entries c.args.kind.now merged.result (was ∙ ap (λ m. Some m.entries) (sym c.in-Map.entries-is)) (search (rules, the_lemmas)) merged.ensures.read

pub merge_entries-returns-in-None-clause-read : goal.merge_entries-returns-in-None-clause-read
merge_entries-returns-in-None-clause-read t c =
    let raw = c.args.raw in
    let here = c.records.record in
    let inv = c.records.invariant in
    let rest = c.in_ok-body.rest.now in
    let body = c.in_ok-body.body.now in
    let entry = c.in_ok-key in
    let fields = c.in-Some in
    let wire : raw.key.wire ≡ LengthDelimited = search rules in
    let value = delimited_value raw.levels raw.key here.bytes.now rest body wire c.in_ok-body.ensures.read in (
      (inv.0, delimited body),
      run_ends raw.levels raw.key raw.bytes.now here.bytes.now rest inv.0 (delimited body) inv.1 value,
      λ pool kind is. put_more (TakesAt raw.levels) pool kind _ _ _ inv.0 (delimited body) entry.key entry.value (inv.2 pool kind is)
          (entry_is_read pool kind here.levels raw.levels fields.keys fields.values body entry.key entry.value inv.4 (fields.ensures.some pool kind is) entry.ensures.read) c.in_ok-put_entry.ensures,
      λ pool kind is. all_one (AcceptsEntry raw.levels (AcceptsMessage raw.levels) pool kind) inv.0 (delimited body) (inv.6 pool kind is)
          (entry_accepts pool kind here.levels raw.levels fields.keys fields.values body entry.key entry.value inv.4 (fields.ensures.some pool kind is) entry.ensures.read),
    )

pub merge_entries-records-init : goal.merge_entries-records-init
merge_entries-records-init t c = ([], ([], refl, refl), (λ pool kind is. refl), refl, refl, omega arith, λ pool kind is. tt)

pub merge_entries-records-preserved : goal.merge_entries-records-preserved
merge_entries-records-preserved t c =
    let raw = c.args.raw in
    let here = c.records.record in
    let inv = c.records.invariant in
    let rest = c.in_ok-body.rest.now in
    let body = c.in_ok-body.body.now in
    let entry = c.in_ok-key in
    let fields = c.in-Some in
    let found = c.in-Some-another_at in
    let wire : raw.key.wire ≡ LengthDelimited = search rules in
    let read = c.in_ok-body.ensures.read in
    let value = delimited_value raw.levels raw.key here.bytes.now rest body wire read in
    let key = subst (λ k. Fronts IsKey rest k found.next.bytes.now) inv.3 found.ensures.read in
    let before = no_longer IsDelimited here.bytes.now rest body read in
    let behind = found.ensures.shorter in
    let so_far = inv.5 in (
      _,
      run_more raw.levels raw.key raw.bytes.now here.bytes.now rest found.next.bytes.now inv.0 (delimited body) inv.1 value key,
      (λ pool kind is. put_more (TakesAt raw.levels) pool kind _ _ _ inv.0 (delimited body) entry.key entry.value (inv.2 pool kind is)
          (entry_is_read pool kind here.levels raw.levels fields.keys fields.values body entry.key entry.value inv.4 (fields.ensures.some pool kind is) entry.ensures.read) c.in_ok-put_entry.ensures),
      found.ensures.key ∙ inv.3,
      found.ensures.levels ∙ inv.4,
      omega (arith, before, behind, so_far),
      λ pool kind is. all_one (AcceptsEntry raw.levels (AcceptsMessage raw.levels) pool kind) inv.0 (delimited body) (inv.6 pool kind is)
          (entry_accepts pool kind here.levels raw.levels fields.keys fields.values body entry.key entry.value inv.4 (fields.ensures.some pool kind is) entry.ensures.read),
    )

pub entry_of-records-preserved : goal.entry_of-records-preserved
entry_of-records-preserved t c =
    let inv = c.records.invariant in
    let here = c.records.rest.now in
    let next = c.in_ok-key in
    let rest = c.in_ok-rest.rest.now in
    let read = c.in_ok-rest.ensures.read in
    let p = read.0 in
    let value = read.1 in
    let levels = c.args.levels in
    let keys = c.args.keys in
    let values = c.args.values in
    let key = no_longer IsKey here next.bytes.now next.key next.ensures.read in
    let behind = c.in_ok-rest.ensures.shorter in
    let so_far = inv.4 in (
      _,
      run_behind levels c.args.body.now here inv.0 inv.1 next.key next.bytes.now rest ([], p) next.ensures.read (value.0, ([], value.0, refl, value.1, refl), value.2),
      key_step (TakesAt levels) (field_pool keys) (field_type keys) 1 inv.0 (next.key.number, p) _ _ inv.2 read.2,
      value_step (TakesAt levels) (field_pool values) (field_type values) 2 inv.0 (next.key.number, p) _ _ (joins_at levels) inv.3 read.3,
      omega (arith, key, behind, so_far),
      part_stays_suiting levels (field_pool keys) (field_type keys) _ _ _ read.2 inv.5,
      part_stays_suiting levels (field_pool values) (field_type values) _ _ _ read.3 inv.6,
      part_accepted _ 1 inv.0 (next.key.number, p) inv.7 (read.4 inv.5),
      part_accepted _ 2 inv.0 (next.key.number, p) inv.8 (read.5 inv.6),
    )

pub entry_of-returns-in-Some-clause-read : goal.entry_of-returns-in-Some-clause-read
entry_of-returns-in-Some-clause-read t c =
    let inv = c.records.invariant in
    let keys = c.args.keys in
    let none : c.records.rest.now ≡ [] = search (rules, emptied) in (
      inv.0,
      whole_body c.args.levels c.args.body.now c.records.rest.now inv.0 inv.1 none,
      λ scalar.
          subst (λ o. LeavesSingle (field_pool keys) (field_type keys) o (payloads 1 inv.0))
          c.in-Some.ensures.single (inv.2 scalar),
      inv.3,
      c.in_ok-check_level.ensures.left,
      inv.7,
      inv.8,
    )

pub entry_of-merge_entry-requires : goal.entry_of-merge_entry-requires
entry_of-merge_entry-requires t c =
    let next = c.in_ok-key in
    let key = key_shorter c.records.rest.now next.bytes.now next.key next.ensures.read in
    let so_far = c.records.invariant.4 in
    (omega (arith, key, so_far), tt)

pub entry_of-records-init : goal.entry_of-records-init
entry_of-records-init t c =
    let values = c.args.values in
    let unset = value_unset c.args.levels (field_pool values) (field_type values) c.in_ok-value.value c.in_ok-value.ensures.scalar c.in_ok-value.ensures.message c.in_ok-check_level.ensures.left in
    let keys = c.args.keys in
    let levels = c.args.levels in (
      [],
      ([], refl, refl),
      (λ scalar. c.in_ok-held_key.ensures.scalar scalar),
      unset,
      omega arith,
      part_begins levels (field_pool keys) (field_type keys) c.in_ok-held_key.held_key c.in_ok-held_key.ensures.message,
      part_begins levels (field_pool values) (field_type values) c.in_ok-value.value c.in_ok-value.ensures.message,
      tt,
      tt,
    )

pub merge_entry-returns-in-1-clause-read : goal.merge_entry-returns-in-1-clause-read
merge_entry-returns-in-1-clause-read t c =
    let raw = c.args.raw in
    let keys = c.args.keys.now in
    let values = c.args.values.now in
    let merged = c.merge_part in
    key_read (TakesAt raw.levels) raw.levels raw.key raw.bytes.now (field_pool keys) (field_type keys) (field_pool values) (field_type values) _ _ _ _ merged.result (search rules) refl merged.ensures.read

pub merge_entry-returns-in-2-clause-read : goal.merge_entry-returns-in-2-clause-read
merge_entry-returns-in-2-clause-read t c =
    let raw = c.args.raw in
    let keys = c.args.keys.now in
    let values = c.args.values.now in
    let merged = c.merge_part-in-2 in
    value_read (TakesAt raw.levels) raw.levels raw.key raw.bytes.now (field_pool keys) (field_type keys) (field_pool values) (field_type values) _ _ _ _ merged.result (search rules) refl merged.ensures.read

pub merge_records-returns-in_err-key-clause-fault : goal.merge_records-returns-in_err-key-clause-fault
merge_records-returns-in_err-key-clause-fault t c =
    let r = c.from_residual in
    let p = err_from_is_err_and r.result r.ensures.1 in
    let inv = c.records.invariant in
    let type = c.args.descriptor in
    let some : c.records.rest.now ≢ [] = search rules in
    λ suits. rw (p.1, p.2) (key_refused c.args.levels type.pool.now type.index c.args.group c.args.bytes.now c.records.rest.now inv.0 inv.1 c.in_err-key.field-0.0 some c.in_err-key.ensures.fault)

pub merge_records-returns-in_err-rest-clause-fault : goal.merge_records-returns-in_err-rest-clause-fault
merge_records-returns-in_err-rest-clause-fault t c =
    let r = c.from_residual-in_err-rest in
    let p = err_from_is_err_and r.result r.ensures.1 in
    let inv = c.records.invariant in
    let type = c.args.descriptor in
    let next = c.in_ok-key in
    let other : next.key.wire ≢ EndGroup = search rules in
    λ suits. rw (p.1, p.2) (record_refused c.args.levels type.pool.now type.index c.args.group c.args.bytes.now c.records.rest.now inv.0 inv.1 next.key next.behind.now c.in_err-rest.field-0.0 next.ensures.read other
    (c.in_err-rest.ensures.fault (suits_stay c.args.levels type _ _ inv.0 inv.2 suits)))

pub merge_record-returns-in_err-rest-clause-fault : goal.merge_record-returns-in_err-rest-clause-fault
merge_record-returns-in_err-rest-clause-fault t c =
    let raw = c.args.raw in
    let r = c.from_residual-in_err-rest in
    let p = err_from_is_err_and r.result r.ensures.1 in
    let type = c.args.descriptor in
    let found = c.in-Some in
    let known : option_map field_type c.declared_field.result ≡ Some (field_type found.field) = search rules in
    λ suits. rw (p.1, p.2) (field_refused raw.levels type.pool.now type.index raw.key.number raw.key raw.bytes.now c.in_err-rest.field-0.0 (field_pool found.field) (field_type found.field) found.ensures.owns.0.1 (sym known ∙ c.declared_field.ensures.known)
    (c.in_err-rest.ensures.fault (subst (λ n. HeldSuits (SuitsBelow raw.levels) (field_pool found.field) (field_type found.field) (value_at c.args.parts.now.fields n)) found.ensures.number (suits.fields found.field found.ensures.owns))))

pub merge_record-returns-in-Some-declared_extension-clause-fault : goal.merge_record-returns-in-Some-declared_extension-clause-fault
merge_record-returns-in-Some-declared_extension-clause-fault t c =
    let raw = c.args.raw in
    let type = c.args.descriptor in
    let found = c.in-Some-declared_extension in
    let merged = c.merge_field-in-Some-declared_extension in
    let no_field : option_map field_type c.declared_field.result ≡ None = search rules in
    let known : option_map extension_type c.declared_extension.result ≡ Some (extension_type found.extension) = search rules in
    let free = subst (NoField type) (sym found.ensures.number) c.in_default.ensures.none in
    λ suits. refused_as merged.result _ _ (λ e told. extension_refused raw.levels type.pool.now type.index raw.key.number raw.key raw.bytes.now e (extension_pool found.extension) (extension_type found.extension) found.ensures.owns.0.0 (sym no_field ∙ c.declared_field.ensures.known) (sym known ∙ c.declared_extension.ensures.known) told)
    (merged.ensures.fault (subst (λ n. HeldSuits (SuitsBelow raw.levels) (extension_pool found.extension) (extension_type found.extension) (value_at c.args.parts.now.extensions n)) found.ensures.number (suits.extensions found.extension found.ensures.owns free)))

pub merge_record-returns-clause-fault : goal.merge_record-returns-clause-fault
merge_record-returns-clause-fault t c =
    let raw = c.args.raw in
    let type = c.args.descriptor in
    let kept = c.keep_unknown in
    let no_field : option_map field_type c.declared_field.result ≡ None = search rules in
    let no_extension : option_map extension_type c.declared_extension.result ≡ None = search rules in
    λ suits. refused_both kept.result _ _ _ (λ e none told. other_refused raw.levels type.pool.now type.index raw.key.number raw.key raw.bytes.now e (sym no_field ∙ c.declared_field.ensures.known) (sym no_extension ∙ c.declared_extension.ensures.known) none told) kept.ensures.err kept.ensures.fault

pub merge_body-returns-clause-fault : goal.merge_body-returns-clause-fault
merge_body-returns-clause-fault t c =
    let old = c.args.message.now in
    let before = c.deref_mut.result.now in
    let was : content_in before ≡ content_of old = same_content old before (search rules) (search rules) (search rules) (search rules) in
    fault_in c.args.levels c.args.group c.args.bytes.now old.descriptor _ (content_of old) (content_in before) c.merge_records-outcome.result (search rules) was c.merge_records-outcome.ensures.fault

pub merge_message-returns-in_ok-levels-in-StartGroup-clause-fault : goal.merge_message-returns-in_ok-levels-in-StartGroup-clause-fault
merge_message-returns-in_ok-levels-in-StartGroup-clause-fault t c =
    let raw = c.args.raw in
    let type = c.args.message.now.descriptor in
    let below = c.in_ok-levels-in-StartGroup in
    let merged = c.merge_body-in-StartGroup in
    let form : c.args.is_group ≡ true = search rules in
    λ suits. refused_as merged.result _ _ (λ e told. group_refused raw.levels type.pool.now type.index raw.key raw.bytes.now below.levels below.ensures.below c.args.is_group e form c.in-StartGroup.is told)
    (merged.ensures.fault (suits_below below.levels raw.levels below.ensures.below type _ suits))

pub merge_message-returns-in_err-merge_body-in-LengthDelimited-clause-fault : goal.merge_message-returns-in_err-merge_body-in-LengthDelimited-clause-fault
merge_message-returns-in_err-merge_body-in-LengthDelimited-clause-fault t c =
    let raw = c.args.raw in
    let type = c.args.message.now.descriptor in
    let found = c.in_ok-body-in-LengthDelimited in
    let below = c.in_ok-levels_below-in-LengthDelimited in
    let failed = c.in_err-merge_body-in-LengthDelimited in
    let r = c.from_residual-in_err-merge_body-in-LengthDelimited in
    let p = err_from_is_err_and r.result r.ensures.1 in
    let form : c.args.is_group ≡ false = search rules in
    λ suits. rw (p.1, p.2) (sized_refused raw.levels type.pool.now type.index raw.key raw.bytes.now below.field-0 below.ensures.below c.args.is_group found.body.now found.rest.now failed.field-0.0 form c.in-LengthDelimited.is found.ensures.read
    (failed.ensures.fault (suits_below below.field-0 raw.levels below.ensures.below type _ suits)))

pub merge_element-returns-in_err-rest-clause-fault : goal.merge_element-returns-in_err-rest-clause-fault
merge_element-returns-in_err-rest-clause-fault t c =
    let raw = c.args.raw in
    let fresh = c.new-message in
    let r = c.from_residual in
    let p = err_from_is_err_and r.result r.ensures.1 in
    let is : c.args.kind.now ≡ kinds.Message fresh.result.descriptor = search (rules, fresh.ensures.same_type) in
    rw (p.1, p.2) (nested_refused (Within raw.levels) c.args.is_group c.args.kind.now raw.key raw.bytes.now c.in_err-rest.field-0.0 fresh.result.descriptor is
    (c.in_err-rest.ensures.fault (empty_suits raw.levels fresh.result.descriptor (content_of fresh.result) fresh.ensures.empty)))

pub merge_list-returns-in_err-rest-clause-fault : goal.merge_list-returns-in_err-rest-clause-fault
merge_list-returns-in_err-rest-clause-fault t c =
    let raw = c.args.raw in
    let here = c.records.record in
    let inv = c.records.invariant in
    let failed = c.in_err-rest in
    let r = c.from_residual in
    let p = err_from_is_err_and r.result r.ensures.1 in
    λ listed. rw (p.1, p.2) (list_at raw.levels here.levels c.args.is_group c.args.kind.now raw.key here.key raw.bytes.now here.bytes.now inv.0 failed.field-0.0 inv.4 inv.3 inv.1 failed.ensures.fault)

pub merge_list-returns-in_default : goal.merge_list-returns-in_default
merge_list-returns-in_default t c =
    record {
      read = tt;
      shorter = tt;
      fault = λ listed. absurd (no_items c.args.list.now c.in_default.not-List listed);
    }

pub merge_map-returns-in_default : goal.merge_map-returns-in_default
merge_map-returns-in_default t c =
    record {
      read = tt;
      shorter = tt;
      fault = λ there pool kind is. absurd (no_entries c.args.map.now c.in_default.not-Map there);
    }

pub merge_map-returns-in-Map-clause-fault : goal.merge_map-returns-in-Map-clause-fault
merge_map-returns-in-Map-clause-fault t c = λ there pool kind is. c.merge_entries.ensures.fault pool kind is

pub merge_field-returns-then-is_map-clause-fault : goal.merge_field-returns-then-is_map-clause-fault
merge_field-returns-then-is_map-clause-fault t c =
    let raw = c.args.raw in
    let pool = either_pool c.args.field in
    let type = either_type c.args.field in
    let merged = c.merge_map in
    let map : holds_map pool type ≡ true = search rules in
    λ suits. refused_as merged.result _ _ (λ e told. map_refused raw.levels pool type raw.key raw.bytes.now e map told)
    (merged.ensures.fault (slot_is_map (SuitsBelow raw.levels) pool type _ _ _ c.in_ok-map.ensures.value (search (rules, the_lemmas)) map suits) pool type.kind c.kind-kind.ensures)

pub merge_field-returns-then-is_list-clause-fault : goal.merge_field-returns-then-is_list-clause-fault
merge_field-returns-then-is_list-clause-fault t c =
    let raw = c.args.raw in
    let pool = either_pool c.args.field in
    let type = either_type c.args.field in
    let merged = c.merge_list in
    let list : holds_list pool type ≡ true = search rules in
    λ suits. refused_as merged.result _ _ (λ e told. list_refused raw.levels pool type raw.key raw.bytes.now e _ c.kind-kind.result (search rules) c.kind-kind.ensures list told)
    (merged.ensures.fault (slot_is_list (SuitsBelow raw.levels) pool type _ _ _ c.in_ok-list.ensures.value (search (rules, the_lemmas)) list suits))

pub merge_field-returns-in_err-scalar-in_default : goal.merge_field-returns-in_err-scalar-in_default
merge_field-returns-in_err-scalar-in_default t c =
    let raw = c.args.raw in
    let pool = either_pool c.args.field in
    let type = either_type c.args.field in
    let failed = c.in_err-scalar-in_default in
    let r = c.from_residual-in_err-scalar-in_default in
    let p = err_from_is_err_and r.result r.ensures.1 in
    let no_map : holds_map pool type ≡ false = search rules in
    let no_list : holds_list pool type ≡ false = search rules in
    record {
      ascending = λ ascends. ascends;
      others = λ n other. refl;
      read = rw (p.1) tt;
      shorter = rw (p.1) tt;
      fault = λ suits. rw (p.1, p.2) (one_refused raw.levels pool type raw.key raw.bytes.now failed.field-0.0 no_map no_list
          (single_refused (Within raw.levels) type.group c.kind-kind.result raw.key raw.bytes.now failed.field-0.0 pool type c.kind-kind.ensures refl c.in_default.not-Message failed.ensures.fault));
    }

pub merge_field-returns-in_default-2 : goal.merge_field-returns-in_default-2
merge_field-returns-in_default-2 t c =
    let raw = c.args.raw in
    let pool = either_pool c.args.field in
    let type = either_type c.args.field in
    let kind = c.in-Message in
    let slot = c.in_ok-message-in-Message in
    let no_map : holds_map pool type ≡ false = search rules in
    let no_list : holds_list pool type ≡ false = search rules in
    let is = subst (λ k. IsKind pool k type.kind) kind.is c.kind-kind.ensures in
    record {
      ascending = search rules;
      others = search rules;
      read = tt;
      shorter = tt;
      fault = λ suits. absurd (no_message_there slot.field-0.now c.in_default-2.not-Message (slot_is_message (SuitsBelow raw.levels) pool type _ _ _ slot.ensures.value (search (rules, the_lemmas)) (subst IsMessageType (sym is.1) tt) no_map no_list suits));
    }

pub merge_field-returns-in-Message-2-clause-fault : goal.merge_field-returns-in-Message-2-clause-fault
merge_field-returns-in-Message-2-clause-fault t c =
    let raw = c.args.raw in
    let pool = either_pool c.args.field in
    let type = either_type c.args.field in
    let kind = c.in-Message in
    let fresh = c.new-in-Message in
    let slot = c.in_ok-message-in-Message in
    let merged = c.merge_message in
    let no_map : holds_map pool type ≡ false = search rules in
    let no_list : holds_list pool type ≡ false = search rules in
    let is = subst (λ k. IsKind pool k type.kind) kind.is c.kind-kind.ensures in
    message_fault raw.levels pool type raw.key raw.bytes.now _ (search rules) kind.inner fresh.result c.in-Message-2.message _ _ (Message fresh.result) slot.field-0.now merged.result is no_map no_list slot.ensures.value (search (rules, the_lemmas)) fresh.ensures.same_type fresh.ensures.empty (search (rules, the_lemmas)) c.in-Message-2.message-is merged.ensures.fault

pub merge_part-returns-in-Message-held-clause-fault : goal.merge_part-returns-in-Message-held-clause-fault
merge_part-returns-in-Message-held-clause-fault t c =
    let raw = c.args.raw in
    let field = c.args.field.now in
    let kind = c.in-Message in
    let held = c.in-Message-held in
    let merged = c.merge_message in
    let is = subst (λ k. IsKind (field_pool field) k (field_type field).kind) kind.is c.kind-kind.ensures in
    let was : message_in c.args.held.now ≡ Some held.message = search (rules, the_lemmas) in
    part_fault raw.levels (field_pool field) (field_type field) raw.key raw.bytes.now _ (search rules) kind._inner c.args.held.now _ merged.result is (was ∙ ap Some (sym held.message-is)) merged.ensures.fault

pub merge_entry-returns-in-1-clause-fault : goal.merge_entry-returns-in-1-clause-fault
merge_entry-returns-in-1-clause-fault t c =
    let raw = c.args.raw in
    let keys = c.args.keys.now in
    let values = c.args.values.now in
    let merged = c.merge_part in
    λ key value. refused_as merged.result _ _ (λ e told. key_part raw.levels (Within raw.levels) (field_pool keys) (field_type keys) (field_pool values) (field_type values) raw.bytes.now raw.key e (search rules) told) (merged.ensures.fault key)

pub merge_entry-returns-in-2-clause-fault : goal.merge_entry-returns-in-2-clause-fault
merge_entry-returns-in-2-clause-fault t c =
    let raw = c.args.raw in
    let keys = c.args.keys.now in
    let values = c.args.values.now in
    let merged = c.merge_part-in-2 in
    λ key value. refused_as merged.result _ _ (λ e told. value_part raw.levels (Within raw.levels) (field_pool keys) (field_type keys) (field_pool values) (field_type values) raw.bytes.now raw.key e (search rules) told) (merged.ensures.fault value)

pub merge_entries-returns-then-ne-clause-fault : goal.merge_entries-returns-then-ne-clause-fault
merge_entries-returns-then-ne-clause-fault t c =
    let raw = c.args.raw in
    let wire : raw.key.wire ≢ LengthDelimited = search rules in
    λ pool kind is. ([], raw.bytes.now, ([], refl, refl), inl (wire, tt))

pub merge_entries-returns-in_default-clause-fault : goal.merge_entries-returns-in_default-clause-fault
merge_entries-returns-in_default-clause-fault t c =
    let raw = c.args.raw in
    λ pool kind is. ([], raw.bytes.now, ([], refl, refl), inr (inl (c.in_default.ensures.none pool kind is, tt)))

pub merge_entries-returns-in_err-body-clause-fault : goal.merge_entries-returns-in_err-body-clause-fault
merge_entries-returns-in_err-body-clause-fault t c =
    let raw = c.args.raw in
    let here = c.records.record in
    let inv = c.records.invariant in
    let failed = c.in_err-body in
    let r = c.from_residual in
    let p = err_from_is_err_and r.result r.ensures.1 in
    let wire : raw.key.wire ≡ LengthDelimited = search rules in
    λ pool kind is. rw (p.1, p.2) (run_at raw.levels raw.key (MapFault raw.levels (Within raw.levels) pool kind raw.key) raw.bytes.now here.bytes.now inv.0 failed.field-0.0 inv.1
    (entry_length raw.levels (Within raw.levels) pool kind raw.key here.bytes.now failed.field-0.0 wire failed.ensures.fault))

pub merge_entries-returns-in_err-key-clause-fault : goal.merge_entries-returns-in_err-key-clause-fault
merge_entries-returns-in_err-key-clause-fault t c =
    let raw = c.args.raw in
    let here = c.records.record in
    let inv = c.records.invariant in
    let failed = c.in_err-key in
    let fields = c.in-Some in
    let body = c.in_ok-body in
    let r = c.from_residual-in_err-key in
    let p = err_from_is_err_and r.result r.ensures.1 in
    let wire : raw.key.wire ≡ LengthDelimited = search rules in
    λ pool kind is.
    let parts = fields.ensures.some pool kind is in
    let told = subst (λ l. TellsTrue (EntryFault l (Within l) (field_pool fields.keys) (field_type fields.keys) (field_pool fields.values) (field_type fields.values)) body.body.now failed.field-0.0) inv.4 failed.ensures.fault in
    rw (p.1, p.2) (run_at raw.levels raw.key (MapFault raw.levels (Within raw.levels) pool kind raw.key) raw.bytes.now here.bytes.now inv.0 failed.field-0.0 inv.1
    (entry_refused raw.levels (Within raw.levels) pool kind raw.key here.bytes.now (field_pool fields.keys) (field_pool fields.values) (field_type fields.keys) (field_type fields.values) body.body.now body.rest.now failed.field-0.0 parts.0 parts.1 parts.2 parts.3 wire body.ensures.read told))

pub entry_of-returns-in_err-key-clause-fault : goal.entry_of-returns-in_err-key-clause-fault
entry_of-returns-in_err-key-clause-fault t c =
    let inv = c.records.invariant in
    let keys = c.args.keys in
    let values = c.args.values in
    let failed = c.in_err-key in
    let r = c.from_residual-in_err-key in
    let p = err_from_is_err_and r.result r.ensures.1 in
    let some : c.records.rest.now ≢ [] = search rules in
    rw (p.1, p.2) (entry_key_refused c.args.levels (Within c.args.levels) (field_pool keys) (field_type keys) (field_pool values) (field_type values) c.args.body.now c.records.rest.now inv.0 inv.1 some failed.field-0.0 failed.ensures.fault)

pub entry_of-returns-in_err-rest-clause-fault : goal.entry_of-returns-in_err-rest-clause-fault
entry_of-returns-in_err-rest-clause-fault t c =
    let inv = c.records.invariant in
    let keys = c.args.keys in
    let values = c.args.values in
    let next = c.in_ok-key in
    let failed = c.in_err-rest in
    let r = c.from_residual-in_err-rest in
    let p = err_from_is_err_and r.result r.ensures.1 in
    let some : c.records.rest.now ≢ [] = search rules in
    rw (p.1, p.2) (part_refused c.args.levels (Within c.args.levels) (field_pool keys) (field_type keys) (field_pool values) (field_type values) c.args.body.now c.records.rest.now inv.0 inv.1 some next.key next.bytes.now failed.field-0.0 next.ensures.read (failed.ensures.fault inv.5 inv.6))

pub entry_of-returns-clause-fault : goal.entry_of-returns-clause-fault
entry_of-returns-clause-fault t c =
    let inv = c.records.invariant in
    let keys = c.args.keys in
    let values = c.args.values in
    let none : key_of_value c.records.held_key ≡ None = search rules in
    no_key c.args.levels (Within c.args.levels) (field_pool keys) (field_type keys) (field_pool values) (field_type values) c.args.body.now (keyless c.records.held_key (field_pool keys) (field_type keys) (payloads 1 inv.0) none inv.2)
