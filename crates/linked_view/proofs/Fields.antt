-- Lists, and the keys of maps' entries, among the fields of a batch's messages.
use Rattle.std.proofs.Common.{◌≡◌, ◌⊎◌, inl, inr, ℕ, ℤ, pos, Bool, true, false, not, cond, ◌==◌, List, [], ◌∷◌, map, Option, None, Some, is_some, unwrap_or, String, refl, sym, ap, ◌∙◌, subst, arith, slice_get, slice_index_or}
use Rattle.std.proofs.lemmas.Option.{same_Some}
use Rattle.std.proofs.lemmas.Bool.{and_parts}
use Rattle.std.specs.declared.alloc.Global.{Global}
use Rattle.std.specs.List.{find}
use Rattle.descriptor_records.specs.declared.field.FieldDescriptorProto.{FieldDescriptorProto}
use Rattle.descriptor_records.specs.declared.field.FieldType.{FieldType as TypeNumber}
use Rattle.descriptor_records.specs.declared.field.FieldType.TheVariants as numbers
use Rattle.descriptor_records.specs.declared.file.FileDescriptorProto.{FileDescriptorProto}
use Rattle.descriptor_records.specs.declared.options.Options.{Options}
use Rattle.descriptor_records.specs.FieldNumbers.{type_number}
use Rattle.reflect_scope.specs.declared.definition.DefinitionKind.{DefinitionKind}
use Rattle.reflect_declarations.specs.Batches.{batch_declarations}
use Rattle.reflect_declarations.specs.Declarations.{Declaration, of_field}
use Rattle.reflect_declarations.specs.declared.offsets.Offsets.{Offsets}
use Rattle.reflect_names.specs.Names.{Places}
use Rattle.reflect_names.specs.References.{View}
use Rattle.reflect_names.specs.ReferencePass.{reference_faults_along}
use Rattle.reflect_names.specs.declared.resolve_visitor.Reference.{Reference}
use Rattle.reflect_references.specs.Meanings.{meaning}
use Rattle.reflect_fields.specs.Fields as fields
use Rattle.reflect_fields.specs.Fields.{label_of, scalar_type, natural, has_presence, is_packed, IsField, IsExtension}
use Rattle.reflect_tables.specs.Types.{FieldType, KindType, ExtensionType, no_field}
use Rattle.reflect_tables.specs.Types as types
use Rattle.reflect_tables.specs.Views.{message_of, extension_of}
use Rattle.reflect_tables.specs.declared.kind.Cardinality.{Cardinality}
use Rattle.reflect_tables.specs.declared.kind.Cardinality.TheVariants.{Optional, Required, Repeated}
use Rattle.reflect_tables.specs.declared.kind.Syntax.{Syntax}
use Rattle.reflect_tables.specs.declared.stored.StoredEntry.{StoredEntry}
use Rattle.reflect_tables.specs.declared.stored.StoredMessage.{StoredMessage}
use Rattle.reflect_pool.specs.Shapes.{is_repeated}
use Rattle.reflect_index.specs.Along.{before_files}
use Rattle.reflect_index.specs.BatchEntries.{IsBatchOf}
use Rattle.reflect_index.specs.Entries.{HasKind}
use Rattle.reflect_index.specs.Entry.{IsFieldAt, IsEntryOf, KeepsEntry}
use Rattle.reflect_index.specs.declared.batch.Batch.{Batch}
use Rattle.reflect_rules.specs.MapEntries.{is_key_type}
use Rattle.reflect_decode.specs.Refused.{IsKeyKind}
use Rattle.reflect_index.proofs.Among.{Among, of_all, of_place, get_at}
use Rattle.reflect_index.proofs.Declared.{FieldDeclared, field_among, extension_declared, of_along}
use Rattle.linked_view.proofs.DefaultValues.{HasType, IsHeld, typed}
use Rattle.linked_view.proofs.Faultless.{references_at, named_suits, key_is_unnamed}
use Rattle.linked_view.proofs.Parts.{IsKey, IsPart}

-- ---- lists

-- a list has no presence, and is packed only where values of its kind can be
pub record IsList (f : FieldType) : Type 0 where
  pub unset : is_repeated f.cardinality ≡ true → f.presence ≡ false
  pub packed : f.packed ≡ true → fields.is_packable f.kind ≡ true

no_presence : (s : Syntax) (c : Cardinality) (k : KindType) (o : Option ℤ) → is_repeated c ≡ true
    → has_presence s c k o ≡ false
no_presence s Repeated k o e = refl
no_presence s Optional k o e = absurd (cc e)
no_presence s Required k o e = absurd (cc e)

never_set : (c : Cardinality) → is_repeated c ≡ true → not (fields.is_repeated c) ≡ false
never_set Repeated e = refl
never_set Optional e = absurd (cc e)
never_set Required e = absurd (cc e)

may_pack : (s : Syntax) (c : Cardinality) (k : KindType) (o : Option Options)
    → is_packed s c k o ≡ true → fields.is_packable k ≡ true
may_pack s c k o e = (and_parts (fields.is_packable k) _ (and_parts (fields.is_repeated c) _ e).1).0

says_packed : (s : Syntax) (at : List ℤ) (full : List ℕ) (holds : KindType)
    (r : FieldDescriptorProto) (f : FieldType) → fields.Says s at full holds r f → f.packed ≡ true
    → fields.is_packable f.kind ≡ true
says_packed s at full holds r f says e =
    subst (λ k. fields.is_packable k ≡ true) (sym says.kind)
    (may_pack s (label_of r.label) holds r.options (sym says.packed ∙ e))

pub field_list : (s : Syntax) (at : List ℤ) (full : List ℕ) (holds : KindType)
    (r : FieldDescriptorProto) (f : FieldType) → IsField s at full holds r f → IsList f
field_list s at full holds r f is = record {
  unset = λ e. is.presence
      ∙ no_presence s (label_of r.label) holds r.oneof_index
      (sym (ap is_repeated is.says.cardinality) ∙ e);
  packed = says_packed s at full holds r f is.says;
}

pub extension_list : (s : Syntax) (at : List ℤ) (full : List ℕ) (holds : KindType)
    (r : FieldDescriptorProto) (f : FieldType) → IsExtension s at full holds r f → IsList f
extension_list s at full holds r f is = record {
  unset = λ e. is.presence
      ∙ never_set (label_of r.label) (sym (ap is_repeated is.says.cardinality) ∙ e);
  packed = says_packed s at full holds r f is.says;
}

-- ---- keys

-- the types of keys hold what keys hold
key_kind : (t : TypeNumber) (k : KindType) → is_key_type (Some (type_number t)) ≡ true
    → scalar_type t ≡ Some k → IsKeyKind k
key_kind numbers.Int64 k e s = subst IsKeyKind (same_Some types.int64 k s) tt
key_kind numbers.Uint64 k e s = subst IsKeyKind (same_Some types.uint64 k s) tt
key_kind numbers.Int32 k e s = subst IsKeyKind (same_Some types.int32 k s) tt
key_kind numbers.Fixed64 k e s = subst IsKeyKind (same_Some types.fixed64 k s) tt
key_kind numbers.Fixed32 k e s = subst IsKeyKind (same_Some types.fixed32 k s) tt
key_kind numbers.Bool k e s = subst IsKeyKind (same_Some types.bool k s) tt
key_kind numbers.String k e s = subst IsKeyKind (same_Some types.string k s) tt
key_kind numbers.Uint32 k e s = subst IsKeyKind (same_Some types.uint32 k s) tt
key_kind numbers.Sfixed32 k e s = subst IsKeyKind (same_Some types.sfixed32 k s) tt
key_kind numbers.Sfixed64 k e s = subst IsKeyKind (same_Some types.sfixed64 k s) tt
key_kind numbers.Sint32 k e s = subst IsKeyKind (same_Some types.sint32 k s) tt
key_kind numbers.Sint64 k e s = subst IsKeyKind (same_Some types.sint64 k s) tt
key_kind t k e s = absurd (cc e)

-- ---- entries

finds_some : (test : FieldType → Bool) (fs : List FieldType) (f : FieldType) → Among f fs
    → test f ≡ true → (g : FieldType) × (find test fs ≡ Some g)
finds_some test [] f h e = absurd h
finds_some test (x ∷ fs) f h e = by (λ k. finds_some test fs f k e) (test x) refl h where
  by : (Among f fs → (g : FieldType) × (find test fs ≡ Some g)) → (b : Bool) → test x ≡ b → (x ≡ f)
      ⊎ Among f fs → (g : FieldType) × (find test (x ∷ fs) ≡ Some g)
  by later true is k = (x, ap (λ b. cond b (Some x) (find test fs)) is)
  by later false is (inl same) = absurd (cc (sym is ∙ ap test same ∙ e))
  by later false is (inr k) = let found = later k in
      (found.0, ap (λ b. cond b (Some x) (find test fs)) is ∙ found.1)

-- the first field of a number, where one has it
has_number : (n : ℕ) (fs : List FieldType) (i : ℕ) → IsFieldAt n fs (Some i) → (g : FieldType)
    × (find (λ (f : FieldType). f.number == n) fs ≡ Some g)
has_number n fs i h = let number : (slice_index_or fs i no_field).number ≡ n = h.1.0 no_field in
    finds_some (λ (f : FieldType). f.number == n) fs (slice_index_or fs i no_field)
    (of_place (slice_index_or fs i no_field) fs i (get_at fs i no_field h.0))
    (grind (arith, number))

-- the type of a map's entries says that it is one, and has a key and a value
pub record HasParts (says : Bool) (fs : List FieldType) : Type 0 where
  pub says_so : says ≡ true
  pub key : (g : FieldType) × (find (λ (f : FieldType). f.number == 1) fs ≡ Some g)
  pub value : (g : FieldType) × (find (λ (f : FieldType). f.number == 2) fs ≡ Some g)

has_parts : (says : Bool) (fs : List FieldType) (o : Option StoredEntry) → IsEntryOf says fs o
    → is_some o ≡ true → HasParts says fs
has_parts false fs o h e = absurd (cc (sym (ap is_some h) ∙ e))
has_parts true fs None h e = absurd (cc e)
has_parts true fs (Some s) h e =
    record { says_so = refl; key = has_number 1 fs s.key h.0; value = has_number 2 fs s.value h.1 }

-- ---- declared entries

module _ (rs : List Reference) (before : Offsets) (first : ℕ) (files : List FileDescriptorProto)
    (b : Batch) (entries : IsBatchOf rs before first (batch_declarations before first files) b)
  where
    abbrev ds : List Declaration
    ds = batch_declarations before first files

    pub list_declared : (k : ℕ) (m : StoredMessage) (f : FieldType)
        → slice_get b.messages.items k ≡ Some m → Among f (message_of m).fields → IsList f
    list_declared k m f at h =
        let d = (field_among rs before first files b entries k m f at h).1 in
        let here = d.met.declaration in
        field_list d.met.hand.syntax here.path here.name d.holds d.own f d.says

    pub extension_listed : (x : ExtensionType) → Among x (map extension_of b.extensions.items)
        → IsList x.field
    extension_listed x h = let d = extension_declared rs before first files b entries x h in
        let here = d.met.declaration in
        extension_list d.met.hand.syntax here.path here.name d.by.holds d.own x.field d.by.field

    pub entry_parts : (k : ℕ) (m : StoredMessage) → slice_get b.messages.items k ≡ Some m
        → is_some m.entry ≡ true → HasParts m.is_entry (message_of m).fields
    entry_parts k m at e =
        has_parts m.is_entry (message_of m).fields m.entry
        (of_all KeepsEntry m b.messages.items entries.entries (of_place m b.messages.items k at)) e

    -- the key's record has no name of a type, and so its number says what it holds
    module _ (spots : ℕ → Places) (views : ℕ → View)
        (referred : reference_faults_along spots views ds ≡ []) where
      key_holds : (d : Declaration) (r : FieldDescriptorProto) (m : Option DefinitionKind)
          (k : KindType) → Among d ds → d.body ≡ of_field r → IsKey r → HasKind r m k → IsKeyKind k
      key_holds d r m k here body key kind = by r.type_name refl kind where
        by : (o : Option (String Global)) → r.type_name ≡ o → IsHeld o r.field_type m k
            → IsKeyKind k
        by None is h = let type : HasType r.field_type k = typed r.field_type k h in
            key_kind type.0 k (subst (λ o. is_key_type o ≡ true) type.1 key.type) type.2
        by (Some s) is h = let meant =
            named_suits (spots d.file) (views d.file) d r s
            (references_at spots views ds referred d here) body is in
            absurd (key_is_unnamed r.field_type meant.0 key.type meant.1)

      -- the key of a map's entries is of a kind that keys have
      pub key_declared : (i j : ℕ) (f : FieldType) (d : FieldDeclared rs ds i j f) → IsPart d.own
          → f.number ≡ 1 → IsKeyKind f.kind
      key_declared i j f d part one = by part.which where
        by : IsKey d.own ⊎ (d.own.number ≡ Some (pos 2)) → IsKeyKind f.kind
        by (inl key) =
            subst IsKeyKind (sym d.says.says.kind)
            (key_holds d.met.declaration d.own (meaning d.own.type_name d.met.hand.rest) d.holds
            (of_along (before_files rs) ds d.met d.here) d.body key d.kind)
        by (inr two) = let number : f.number ≡ 2 =
            d.says.says.number ∙ ap (λ o. unwrap_or (natural o) 0) two in
            absurd (omega (arith, number, one))
