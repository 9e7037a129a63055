-- What the rules that find no fault say of the entries of a batch.
use Rattle.std.proofs.Common.{◌≡◌, ◌+◌, ◌<◌, ℕ, pos, true, false, List, [], map, length, None, Some, unwrap_or, sym, ap, ◌∙◌, refl, subst, slice_get, slice_index_or}
use Rattle.descriptor_records.specs.declared.field.FieldDescriptorProto.{FieldDescriptorProto}
use Rattle.descriptor_records.specs.declared.file.FileDescriptorProto.{FileDescriptorProto}
use Rattle.reflect_declarations.specs.Batches.{batch_declarations}
use Rattle.reflect_declarations.specs.Declarations.{Declaration}
use Rattle.reflect_declarations.specs.Tree.{MessageParts}
use Rattle.reflect_declarations.specs.declared.offsets.Offsets.{Offsets}
use Rattle.reflect_faults.specs.Faults.{duplicate_number}
use Rattle.reflect_names.specs.Names.{Places}
use Rattle.reflect_names.specs.declared.resolve_visitor.Reference.{Reference}
use Rattle.reflect_references.specs.Meanings.{meaning}
use Rattle.reflect_index.specs.Along.{before_files}
use Rattle.reflect_index.specs.BatchEntries.{IsBatchOf}
use Rattle.reflect_index.specs.Entry.{KeepsEntry}
use Rattle.reflect_index.specs.OfDeclarations.{AllDeclared, messages_in, stored_ranges}
use Rattle.reflect_index.specs.declared.batch.Batch.{Batch}
use Rattle.reflect_rules.specs.RulePass.{FaultsAlong}
use Rattle.reflect_rules.specs.Rules.{Values, number_of}
use Rattle.reflect_rules.specs.Walks.{Facts, Place}
use Rattle.reflect_tables.specs.Ranges.{Range, IsRangeOf}
use Rattle.reflect_tables.specs.Types.{FieldType, ExtensionType, no_field}
use Rattle.reflect_tables.specs.Views.{message_of, extension_of}
use Rattle.reflect_tables.specs.declared.stored.StoredEntry.{StoredEntry}
use Rattle.reflect_tables.specs.declared.stored.StoredMessage.{StoredMessage}
use Rattle.reflect_pool.specs.Shapes.{is_repeated}
use Rattle.message_view.specs.Sound.{IsFieldNumber}
use Rattle.reflect_index.proofs.Among.{Among, of_all, of_place, get_at, get_map}
use Rattle.reflect_index.proofs.Declared.{FieldDeclared, field_declared, extension_declared}
use Rattle.reflect_build.proofs.Rules.{rules_met, rules_at, entry_shape}
use Rattle.linked_view.proofs.Apart.{one_place}
use Rattle.linked_view.proofs.Declared.{in_message, declared_at}
use Rattle.linked_view.proofs.Faultless.{repeats_none}
use Rattle.linked_view.proofs.FieldNumbers.{HasNumber, has_number, the_number, field_free, extension_kept}
use Rattle.linked_view.proofs.Parts.{IsPart, entry_part, one_value, HasNumberAt, has_places}

-- a field's number is one of fields, and its message does not keep it for extensions
pub record IsNumbered (ranges : List Range) (f : FieldType) : Type 0 where
  pub is : IsFieldNumber f.number
  pub free : IsRangeOf ranges (pos f.number) None

-- an extension's number is one of fields, and the message that it extends keeps it for extensions
pub record IsKeptIn (ranges : List Range) (x : ExtensionType) : Type 0 where
  pub is : IsFieldNumber x.field.number
  pub range : Range
  pub kept : IsRangeOf ranges (pos x.field.number) (Some range)

-- a field of one value stands at the place, and has the number
pub record HasPart (fs : List FieldType) (n place : ℕ) : Type 0 where
  pub at : HasNumberAt fs n place
  pub one : is_repeated (slice_index_or fs place no_field).cardinality ≡ false

module _ (rs : List Reference) (before : Offsets) (first : ℕ) (files : List FileDescriptorProto)
    (b : Batch) (entries : IsBatchOf rs before first (batch_declarations before first files) b)
    (ranges : AllDeclared (messages_in (batch_declarations before first files))
    (map stored_ranges b.messages.items)) (g : Facts) (values : Values) (spots : ℕ → Places)
    (p : Place) (start : p.rest ≡ rs)
    (ruled : FaultsAlong g values spots p (batch_declarations before first files) []) where
  abbrev ds : List Declaration
  ds = batch_declarations before first files

  -- ---- numbers

  field_number : (i j : ℕ) (f : FieldType) (d : FieldDeclared rs ds i j f)
      → HasNumber d.own f.number × IsNumbered (g.types.extensions i) f
  field_number i j f d =
      let here = d.met.declaration in
      let rule = rules_met g values spots (before_files rs) p ds [] ruled refl start d.met d.here in
      let free = field_free g values rule.0 (spots here.file) here d.own rule.2 d.body in
      let number = has_number d.own f.number d.says.says.number free.number in
      let index : unwrap_or here.parent 0 ≡ i = ap (λ o. unwrap_or o 0) d.parent in (
        number,
        record {
          is = number.is;
          free = subst (λ n. IsRangeOf (g.types.extensions i) n None)
              (the_number d.own f.number number)
              (subst (λ k. IsRangeOf (g.types.extensions k) (number_of d.own) None) index
              free.free);
        },
      )

  pub extension_number : (x : ExtensionType) → Among x (map extension_of b.extensions.items)
      → IsKeptIn (g.types.extensions x.extendee) x
  extension_number x h =
      let d = extension_declared rs before first files b entries x h in
      let here = d.met.declaration in
      let rule = rules_met g values spots (before_files rs) p ds [] ruled refl start d.met d.here in
      let kept = extension_kept g values rule.0 (spots here.file) here d.own x.extendee rule.2
      d.body
      (ap (meaning d.own.extendee) rule.1 ∙ d.by.extendee) in
      let number = has_number d.own x.field.number d.by.field.says.number kept.number in
      record {
        is = number.is;
        range = kept.range;
        kept = subst (λ n. IsRangeOf (g.types.extensions x.extendee) n (Some kept.range))
            (the_number d.own x.field.number number) kept.kept;
      }

  -- ---- the fields of a message of the batch

  module _ (k : ℕ) (m : StoredMessage) (at : slice_get b.messages.items k ≡ Some m) where
    abbrev fields : List FieldType
    fields = (message_of m).fields

    declared : (j : ℕ) → j < length fields
        → FieldDeclared rs ds (before.messages + k) j (slice_index_or fields j no_field)
    declared j lt = field_declared rs before first files b entries k m j
        (slice_index_or fields j no_field) at (get_at fields j no_field lt)

    pub field_numbered : (j : ℕ) → j < length fields
        → IsNumbered (g.types.extensions (before.messages + k)) (slice_index_or fields j no_field)
    field_numbered j lt =
        (field_number (before.messages + k) j (slice_index_or fields j no_field) (declared j lt)).1

    pub fields_apart : (j l : ℕ) → j < length fields → l < length fields
        → (slice_index_or fields j no_field).number ≡ (slice_index_or fields l no_field).number
        → j ≡ l
    fields_apart j l lt less same =
        let d = declared j lt in
        let e = declared l less in
        let f = slice_index_or fields j no_field in
        let h = slice_index_or fields l no_field in
        let one = in_message rs before first files b entries k j f d in
        let two = in_message rs before first files b entries k l h e in
        let message : two.declared.own ≡ one.declared.own = cc (sym two.place ∙ one.place) in
        let first_number = (field_number (before.messages + k) j f d).0.written in
        let second_number = (field_number (before.messages + k) l h e).0.written in
        let here = one.declared.declaration in
        let rule = rules_at g values spots p ds [] ruled refl here one.declared.here in
        let records = one.declared.own.field in
        let number = λ (r : FieldDescriptorProto). r.number in
        one_place duplicate_number (pos 2) (pos 3) here.path (spots here.file) (map number records)
        (repeats_none g values rule.0 (spots here.file) here one.declared.own rule.1
        one.declared.body) j l (pos f.number)
        (get_map number records j d.own one.declared.field ∙ ap Some first_number)
        (get_map number records l e.own
        (ap (λ (o : MessageParts). slice_get o.field l) (sym message) ∙ two.declared.field)
        ∙ ap Some (second_number ∙ ap (λ n. Some (pos n)) (sym same)))

    -- a field of a map's entries is their key or their value
    pub entry_field : (j : ℕ) (f : FieldType) (d : FieldDeclared rs ds (before.messages + k) j f)
        → m.is_entry ≡ true → IsPart d.own
    entry_field j f d says =
        let outer = in_message rs before first files b entries k j f d in
        let here = outer.declared.declaration in
        let own = outer.declared.own in
        let kept = declared_at (messages_in ds) (map stored_ranges b.messages.items) k own
        (stored_ranges m) ranges outer.place (get_map stored_ranges b.messages.items k m at) in
        let rule = rules_at g values spots p ds [] ruled refl here outer.declared.here in
        entry_part own.field d.own
        (entry_shape g values rule.0 (spots here.file) here own rule.1 outer.declared.body
        (sym kept.is_entry ∙ says)) (of_place d.own own.field j outer.declared.field)

    has_part : (n place : ℕ) → HasNumberAt fields n place → m.is_entry ≡ true
        → HasPart fields n place
    has_part n place h says =
        let d = declared place h.there in
        let part = entry_field place (slice_index_or fields place no_field) d says in
        record {
          at = h;
          one = ap is_repeated d.says.says.cardinality ∙ one_value d.own.label part.optional;
        }

    pub entry_places : (e : StoredEntry) → m.entry ≡ Some e → HasPart fields 1 e.key
        × HasPart fields 2 e.value
    entry_places e is =
        let places = has_places m.is_entry fields m.entry e
        (of_all KeepsEntry m b.messages.items entries.entries (of_place m b.messages.items k at))
        is in
        (has_part 1 e.key places.key places.says_so, has_part 2 e.value places.value places.says_so)
