-- A field without presence that a batch without lists in oneofs declares is in no oneof, and what stands for it is a value of its kind.
use Rattle.std.proofs.Common.{◌≡◌, ◌&&◌, ◌||◌, not, ℕ, ℤ, Bool, true, false, true≢false, cond, List, [], Option, None, Some, refl, sym, ap, ◌∙◌, subst}
use Rattle.std.proofs.lemmas.Bool.{not-true, or_parts}
use Rattle.descriptor_records.specs.Content.{field_view}
use Rattle.descriptor_records.specs.FieldNumbers.{label_number}
use Rattle.descriptor_records.specs.declared.field.Label.TheVariants as labels
use Rattle.reflect_declarations.specs.Declarations.{Declaration}
use Rattle.reflect_names.specs.declared.resolve_visitor.Reference.{Reference}
use Rattle.reflect_references.specs.Meanings.{meaning}
use Rattle.reflect_fields.specs.FieldDefaults.{IsDefault}
use Rattle.reflect_fields.specs.Fields.{has_presence, is_message, is_number, is_repeated, label_of, natural}
use Rattle.reflect_index.specs.Along.{before_files}
use Rattle.reflect_index.specs.Entries.{HasKind}
use Rattle.reflect_tables.specs.Types.{PoolType, FieldType, KindType}
use Rattle.reflect_tables.specs.declared.kind.Cardinality.{Cardinality}
use Rattle.reflect_tables.specs.declared.kind.Cardinality.TheVariants.{Optional, Repeated, Required}
use Rattle.reflect_tables.specs.declared.kind.Syntax.{Syntax}
use Rattle.reflect_pool.specs.Shapes as shapes
use Rattle.reflect_pool.specs.Shapes.{holds_map}
use Rattle.reflect_scalar.specs.Singles.{Single}
use Rattle.reflect_message.specs.KindTypes.{IsMessageType, IsScalarType}
use Rattle.reflect_message.specs.Known.{is_float, holds_floats}
use Rattle.protobuf_model.specs.Scalars.{Suits}
use Rattle.protobuf_model.specs.Types.{Part, Label, one, many, keyed}
use Rattle.protobuf_model.specs.Values as model
use Rattle.text_model.specs.Plain.{AreBytes}
use Rattle.text_model.specs.Printed.{lacks_presence}
use Rattle.text_model.specs.Unset.{HasReadDefault, IsOfKind}
use Rattle.message_view.specs.Singles.{scalar_of, single_view}
use Rattle.message_view.specs.Sound.{HaveNumbers}
use Rattle.message_view.specs.Types as described
use Rattle.message_view.specs.Types.{default_of, entry_part, key_of, kind_in, part_of, values_of}
use Rattle.message_view.proofs.Elements.{kind_scalar}
use Rattle.message_view.proofs.Entries.{Sort, plain, floating, message_type, sort_of}
use Rattle.text_view.proofs.Set.{map_repeats}
use Rattle.source_records.specs.LoneLists.{IsLoneList}
use Rattle.reflect_index.proofs.Among.{Among}
use Rattle.reflect_index.proofs.Declared.{FieldDeclared, of_along}
use Rattle.linked_view.proofs.DefaultValues.{default_has}
use Rattle.linked_view.proofs.Extended.{number_is}
use Rattle.linked_names.specs.Presence.{HasMessagePresence}
use Rattle.linked_names.proofs.Accepted.{single_present}
use Rattle.linked_names.proofs.ByteDefaults.{default_bytes, given_bytes}
use Rattle.linked_names.proofs.LoneLists.{IsLone}

-- ---- a field without presence

-- the label of lists is written on lists alone
written_list : (label : Option ℤ) → is_repeated (label_of label) ≡ true
    → label ≡ Some (label_number labels.Repeated)
written_list label e =
    by (is_number (label_number labels.Required) label) refl
    (is_number (label_number labels.Repeated) label) refl where
      by : (b : Bool) → is_number (label_number labels.Required) label ≡ b
          → (c : Bool) → is_number (label_number labels.Repeated) label ≡ c
          → label ≡ Some (label_number labels.Repeated)
      by b required true repeated = number_is (label_number labels.Repeated) label repeated
      by true required false repeated = absurd (cc (sym (ap (λ x. is_repeated
          (cond x Required (cond (is_number (label_number labels.Repeated) label) Repeated
          Optional))) required) ∙ e))
      by false required false repeated = absurd (cc (sym (ap (λ x. is_repeated
          (cond x Required (cond (is_number (label_number labels.Repeated) label) Repeated
          Optional))) required ∙ ap (λ x. is_repeated (cond x Repeated Optional)) repeated) ∙ e))

-- members of oneofs that are no lists have presence
member_present : (b c : Bool) → b ≡ false → (not b && (c || true)) ≡ true
member_present b true e = ap (λ x. not x && true) e
member_present b false e = ap (λ x. not x && true) e

unset_alone : (s : Syntax) (label o : Option ℤ) (k : KindType)
    → (label ≡ Some (label_number labels.Repeated) → o ≡ None)
    → has_presence s (label_of label) k o ≡ false → natural o ≡ None
unset_alone s label None k lone unset = refl
unset_alone s label (Some i) k lone unset = by (is_repeated (label_of label)) refl where
  by : (b : Bool) → is_repeated (label_of label) ≡ b → natural (Some i) ≡ None
  by true is = ap natural (lone (written_list label is))
  by false is =
      absurd (cc (sym (member_present (is_repeated (label_of label)) (is_message k) is) ∙ unset))

-- and lists have none
list_unset : (s : Syntax) (c : Cardinality) (k : KindType) (o : Option ℤ)
    → shapes.is_repeated c ≡ true → has_presence s c k o ≡ false
list_unset s Repeated k o e = refl
list_unset s Optional k o e = absurd (cc e)
list_unset s Required k o e = absurd (cc e)

-- ---- a field that a batch declares

-- a list has no presence, and one message has it; without presence the field is in no oneof, and
-- what stands for one value of it is a value of its kind
pub record IsReadUnset (pool : PoolType) (f : FieldType) : Type 0 where
  pub lists : shapes.is_repeated f.cardinality ≡ true → f.presence ≡ false
  pub messages : HasMessagePresence f
  pub alone : f.presence ≡ false → f.oneof ≡ None
  pub default : IsScalarType f.kind
      → Suits (scalar_of f.kind) (default_of pool f) × AreBytes (default_of pool f)

-- what stands for one value of the kind
abbrev Shown : FieldType → Option Single → Type 0
Shown f o = Suits (scalar_of f.kind) (elim o [ None ↦ model.text [] | Some v ↦ single_view v ])

module _ (rs : List Reference) (ds : List Declaration) (i j : ℕ) (f : FieldType)
    (d : FieldDeclared rs ds i j f) where
  lone_here : ((x : Declaration) → Among x ds → IsLone x) → IsLoneList (field_view d.own)
  lone_here lone =
      subst (λ b. IsLone (record d.met.declaration { body = b })) d.body
      (lone d.met.declaration (of_along (before_files rs) ds d.met d.here))

  pub declared_unset : (pool : PoolType) → HaveNumbers pool
      → ((x : Declaration) → Among x ds → IsLone x) → IsReadUnset pool f
  declared_unset pool numbers lone =
      let meant = meaning d.own.type_name d.met.hand.rest in
      let says = d.says.says in
      record {
        lists = λ e. d.says.presence
            ∙ list_unset d.met.hand.syntax (label_of d.own.label) d.holds d.own.oneof_index
            (sym (ap shapes.is_repeated says.cardinality) ∙ e);
        messages = λ one alone. d.says.presence
            ∙ single_present d.met.hand.syntax (label_of d.own.label) d.holds d.own.oneof_index
            (subst IsMessageType says.kind one)
            (sym (ap shapes.is_repeated says.cardinality) ∙ alone);
        alone = λ unset. d.says.oneof
            ∙ unset_alone d.met.hand.syntax d.own.label d.own.oneof_index d.holds (lone_here lone)
            (sym d.says.presence ∙ unset);
        default = λ scalar.
            let one = default_has pool f.kind d.own meant f.default numbers scalar
            (subst (HasKind d.own meant) (sym says.kind) d.kind)
            (subst (λ k. IsDefault k d.own f.default) (sym says.kind) says.default) in (
              subst (Shown f) (sym one.1) one.2,
              default_bytes pool f
                  (given_bytes d.holds d.own.default_value d.own.field_type f.default
                  says.default),
            );
      }

-- ---- in the words of the model

module _ (pool : PoolType) (f : FieldType) (whole : holds_floats pool f ≡ false)
    (h : IsReadUnset pool f) where
  single_read : shapes.is_repeated f.cardinality ≡ false → f.presence ≡ false
      → IsOfKind (kind_in pool f.group f.kind) (default_of pool f)
  single_read alone unset = by (sort_of f.kind) where
    by : Sort f.kind → IsOfKind (kind_in pool f.group f.kind) (default_of pool f)
    by (plain type) =
        subst (λ k. IsOfKind k (default_of pool f)) (sym (kind_scalar pool f.group f.kind type))
        (h.default type)
    by (floating e) = absurd (true≢false (sym e ∙ (or_parts (is_float f.kind) _ whole).0))
    by (message_type type) = absurd (true≢false (sym (h.messages type alone) ∙ unset))

  -- the field's part and its label, by whether it is a map, and whether it repeats
  abbrev part_in : Bool → Part
  part_in b = part_of pool (cond b (entry_part pool f 2) f)

  abbrev label_in : Bool → Bool → Label
  label_in b c = cond b (keyed (key_of pool (entry_part pool f 1))) (cond c (many f.packed) one)

  read_in : (b : Bool) → holds_map pool f ≡ b → (c : Bool) → shapes.is_repeated f.cardinality ≡ c
      → lacks_presence (part_in b) (label_in b c) ≡ true
      → (f.presence ≡ false) × HasReadDefault (part_in b) (label_in b c)
  read_in true map c repeats lacks = (h.lists (map_repeats pool f map), tt)
  read_in false map true repeats lacks = (h.lists repeats, tt)
  read_in false map false alone lacks =
      let unset = not-true f.presence lacks in (unset, single_read alone unset)

  -- a field that lacks presence there has none, and is read as not set where it has its default
  pub field_read : lacks_presence (part_of pool (values_of pool f)) (described.label_of pool f) ≡ true
      → (f.presence ≡ false)
      × HasReadDefault (part_of pool (values_of pool f)) (described.label_of pool f)
  field_read = read_in (holds_map pool f) refl (shapes.is_repeated f.cardinality) refl
