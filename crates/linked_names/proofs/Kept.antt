-- The names of a pool's own types stay as the entries of a batch stand behind them.
use Rattle.std.proofs.Common.{◌≡◌, ◌<◌, ◌&&◌, ◌==◌, ◌++◌, not, ℕ, true, cond, List, map, filter, length, Option, None, Some, slice_index_or, refl, sym, ap, ◌∙◌, subst}
use Rattle.std.proofs.Math.ListN.{get_or-append}
use Rattle.std.specs.List.{find}
use Rattle.std.specs.Option.{option_and_then}
use Rattle.reflect_scope.specs.Means.{join}
use Rattle.reflect_tables.specs.Types.{PoolType, FieldType, FileType, MessageType, IsAmong, IsWithin, MessageWithin, ArePooled, counts_of, is_member, no_field, no_type, type_at, type_of_field}
use Rattle.reflect_tables.specs.Views.{message_of, enum_of}
use Rattle.reflect_tables.specs.declared.stored.StoredEntry.{StoredEntry}
use Rattle.reflect_index.specs.declared.batch.Batch.{Batch}
use Rattle.reflect_entries.specs.Members.{first_number}
use Rattle.reflect_message.specs.Known.{if_held, known_field, numbered_field}
use Rattle.reflect_link.specs.FileTypes.{no_file}
use Rattle.std.specs.Char.{to_ascii_lowercase}
use Rattle.text_model.specs.Identifiers.{is_identifier}
use Rattle.protobuf_model.specs.Types.{oneof_of, same_oneof}
use Rattle.message_view.specs.Types.{field_at, oneof_at}
use Rattle.text_view.specs.SourceNames.{IsGroupField, HasPartNames}
use Rattle.reflect_index.proofs.Among.{of_all, of_find, of_place, get_at}
use Rattle.linked_view.proofs.Grown.{type_stays, floats_stay, field_within}
use Rattle.linked_names.specs.SourcePools.{scope_in, scope_of, IsScoped}
use Rattle.linked_names.proofs.Entries.{own_oneof}

module _ (old new : PoolType) (b : Batch) (more : List FileType) (pooled : ArePooled old)
    (files : new.files ≡ old.files ++ more)
    (messages : new.messages ≡ old.messages ++ map message_of b.messages.items)
    (enums : new.enums ≡ old.enums ++ map enum_of b.enums.items) (i : ℕ)
    (lt : i < length old.messages) where
  same : type_at new i ≡ type_at old i
  same = type_stays old new b messages enums i lt

  pub field_same : (j : ℕ) → type_of_field new i j ≡ type_of_field old i j
  field_same j = ap (λ (t : MessageType). slice_index_or t.fields j no_field) same

  there_same : (j : ℕ) → j < length (type_at new i).fields
      → j < length (type_at old i).fields
  there_same j less = subst (λ (t : MessageType). j < length t.fields) same less

  -- ---- scopes

  within : MessageWithin (counts_of old) (type_at old i)
  within = of_all (MessageWithin (counts_of old)) (type_at old i) old.messages pooled.messages
      (of_place (type_at old i) old.messages i (get_at old.messages i no_type lt))

  scope_same : (o : Option ℕ) (n : ℕ) → IsAmong (length old.messages) o → n < length old.files
      → scope_in new o n ≡ scope_in old o n
  scope_same None n here less =
      ap (λ (f : FileType). f.package_name)
      (ap (λ l. slice_index_or l n no_file) files ∙ get_or-append old.files more no_file n less)
  scope_same (Some p) n here less =
      ap (λ (t : MessageType). t.full_name) (type_stays old new b messages enums p here)

  pub scope_stays : IsScoped old (type_at old i) → IsScoped new (type_at new i)
  scope_stays h =
      let t = type_at old i in
      let scope : scope_of new t ≡ scope_of old t =
      scope_same t.parent t.file within.parent within.file in
      subst (IsScoped new) (sym same)
      (record { full = h.full ∙ ap (λ s. join s t.name) (sym scope); own = h.own })

  -- ---- groups

  pub group_stays : (j : ℕ) → j < length (type_at old i).fields
      → IsGroupField old i (type_of_field old i j) → IsGroupField new i (type_of_field new i j)
  group_stays j less h =
      let f = type_of_field old i j in
      let here : IsWithin (counts_of old) f.kind =
      field_within old i f pooled
      (of_place f (type_at old i).fields j (get_at (type_at old i).fields j no_field less)) in
      let place : h.place < length old.messages = subst (IsWithin (counts_of old)) h.kind here in
      let type = type_stays old new b messages enums h.place place in
      let name = ap (λ (t : MessageType). t.name) type in
      subst (IsGroupField new i) (sym (field_same j)) (record {
        place = h.place;
        kind = h.kind;
        spelled = subst (λ (t : MessageType). is_identifier t.name ≡ true) (sym type) h.spelled;
        lower = subst (λ (t : MessageType). f.name ≡ map to_ascii_lowercase t.name) (sym type)
            h.lower;
        own = λ k there plain e. h.own k (there_same k there)
            (sym (ap (λ (g : FieldType). g.group) (field_same k)) ∙ plain)
            (sym (ap (λ (g : FieldType). g.name) (field_same k)) ∙ e ∙ name);
      })

  -- ---- entries

  numbered_same : (n : ℕ) → numbered_field new i n ≡ numbered_field old i n
  numbered_same n =
      ap (λ (t : MessageType). find (λ (f : FieldType). f.number == n) t.fields) same

  pub known_same : (n : ℕ) → known_field new i n ≡ known_field old i n
  known_same n =
      ap (option_and_then (if_held new)) (numbered_same n) ∙ by (numbered_field old i n) refl where
        by : (o : Option FieldType) → numbered_field old i n ≡ o
            → option_and_then (if_held new) o ≡ option_and_then (if_held old) o
        by None is = refl
        by (Some f) is =
            ap (λ v. cond v None (Some f)) (floats_stay old new b messages enums f
            (field_within old i f pooled
            (of_find (λ (g : FieldType). g.number == n) f (type_at old i).fields is).0))

  oneof_same : (n : ℕ) → oneof_of (field_at new i n) ≡ oneof_of (field_at old i n)
  oneof_same n =
      own_oneof new i n
      ∙ ap (λ (t : MessageType). option_and_then (λ (f : FieldType).
      option_and_then (λ k. first_number (filter (is_member k) t.fields)) f.oneof)
      (known_field new i n)) same
      ∙ ap (option_and_then (oneof_at old i)) (known_same n) ∙ sym (own_oneof old i n)

  pub parts_stay : (e : StoredEntry) → HasPartNames old i e → HasPartNames new i e
  parts_stay e h =
      let key = field_same e.key in
      let value = field_same e.value in
      record {
        key = ap (λ (f : FieldType). f.name) key ∙ h.key;
        value = ap (λ (f : FieldType). f.name) value ∙ h.value;
        plain_key = ap (λ (f : FieldType). f.group) key ∙ h.plain_key;
        plain_value = ap (λ (f : FieldType). f.group) value ∙ h.plain_value;
        usual_key = ap (λ (f : FieldType). f.default) key ∙ h.usual_key;
        usual_value = ap (λ (f : FieldType). f.default) value ∙ h.usual_value;
        apart = (λ i. not (1 == 2) && same_oneof (oneof_same 2 i) (oneof_same 1 i)) ∙ h.apart;
      }
