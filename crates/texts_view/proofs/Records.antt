-- What messages hold under their numbers is of the same records as files come: the values of enums, and the types of entries, stay.
use Rattle.std.proofs.Common.{◌≡◌, ℕ, pos, List, [], Bool, true, false, cond, ◌&&◌, is_some, Option, Some, None, refl, sym, ap, ◌∙◌, subst}
use Rattle.std.specs.Option.{option_and_then, option_map, option_or}
use Rattle.std.proofs.lemmas.Option.{none-some, option_and_then_some}
use Rattle.descriptor_records.specs.Content.{Text, EnumValueContent, FieldContent, FileContent}
use Rattle.protobuf_model.specs.Types.{Name, Part, Key, Label, one, many, keyed, Field}
use Rattle.schema_view.specs.Declarations.{MessageFacts}
use Rattle.schema_view.specs.Fields.{is_repeated, is_packed}
use Rattle.schema_view.specs.Rules.{is_number}
use Rattle.schema_view.specs.Types.{undotted, type_name, message_in, body_at, message_at, field_at, type_at, is_proto3_at, values_of, part_of, name_of_field, is_entry, names_entry, map_field, plain_field, held_field, oneof_in, own_named, extension_named, types_of}
use Rattle.schema_view.specs.Views.{View, Grows, when, view_of}
use Rattle.schema_view.proofs.Road.{AreLinked}
use Rattle.schema_view.proofs.Looking.{Declared}
use Rattle.schema_view.proofs.Standing.{StandsIn, NamesField, stands, found, field_there, extension_there, type_declared}
use Rattle.schema_view.proofs.Growing as growing
use Rattle.texts_view.specs.Named.{message_of, field_under, extension_under, record_under, of_values, enum_values, message_name, entry_type}
use Rattle.texts_view.proofs.FieldNames.{field_same, message_of_same, own_named_same}

-- a name that passes for having a field
where_some : (f : Text → Option Field) (w : Text) (g : Field) → f w ≡ Some g → when (is_some (f w)) w ≡ Some w
where_some f w g e = ap (λ o. when (is_some o) w) e

where_none : (f : Text → Option Field) (o : Option Text) → option_and_then f o ≡ None → option_and_then (λ w. when (is_some (f w)) w) o ≡ None
where_none f None e = refl
where_none f (Some w) e = ap (λ o. when (is_some o) w) e

both_true : (a b : Bool) → (a && b) ≡ true → (a ≡ true) × (b ≡ true)
both_true true b e = (refl, e)
both_true false b e = absurd (cc)

module _ (fs gs : List FileContent) (l : AreLinked fs) (grow : Grows (view_of fs) (view_of gs)) where
  abbrev V : View
  V = view_of fs

  abbrev W : View
  W = view_of gs

  -- ---- the record of what is held under a number

  pub record IsUnder (t : Name) (n : ℕ) (f : Field) : Type 0 where
    pub name : Text
    pub content : FieldContent
    pub there : NamesField fs name content
    pub before : option_or (field_under V t n) (extension_under V t n) ≡ Some name
    pub after : Declared fs t → option_or (field_under W t n) (extension_under W t n) ≡ Some name
    pub proto3 : Bool
    pub extension : Bool
    pub oneof : Option ℕ
    pub held : held_field V proto3 extension oneof content ≡ Some f

  pub under : (t : Name) (n : ℕ) (f : Field) → types_of V t n ≡ Some f → IsUnder t n f
  under t n f e = by (option_and_then (own_named V t) (name_of_field V t n)) refl e where
    by : (o : Option Field) → option_and_then (own_named V t) (name_of_field V t n) ≡ o
        → option_or o (option_and_then (extension_named V) (V.extensions (t, pos n))) ≡ Some f → IsUnder t n f
    by (Some g) i j =
        option_and_then_some (own_named V t) (name_of_field V t n) g i (λ name is own.
        let c = field_there fs l t n name is in
        record {
          name = name;
          content = c.0;
          there = c.1;
          before =
              ap (λ o. option_or (option_and_then (λ w. when (is_some (own_named V t w)) w) o) (extension_under V t n)) is
              ∙ ap (λ o. option_or o (extension_under V t n)) (where_some (own_named V t) name g own);
          after = λ h.
              ap (λ o. option_or (option_and_then (λ w. when (is_some (own_named W t w)) w) o) (extension_under W t n)) (sym (growing.name_same fs gs l grow t n h) ∙ is)
              ∙ ap (λ o. option_or o (extension_under W t n)) (where_some (own_named W t) name g (sym (own_named_same fs gs l grow t h name c.0 c.1) ∙ own));
          proto3 = is_proto3_at V name;
          extension = false;
          oneof = oneof_in (message_at V t) c.0;
          held =
              sym (ap (option_and_then (λ d. held_field V (is_proto3_at V name) false (oneof_in (message_at V t) d) d)) (found fs l name c.0 c.1)) ∙ own ∙ j;
        })
    by None i j =
        option_and_then_some (extension_named V) (V.extensions (t, pos n)) f j (λ name is own.
        let c = extension_there fs l t (pos n) name is in
        let later : extension_named W name ≡ Some f = sym (growing.field_named_same fs gs l grow true (λ d. None) name c.0 c.1) ∙ own in
        let none : field_under V t n ≡ None = where_none (own_named V t) (name_of_field V t n) i in
        record {
          name = name;
          content = c.0;
          there = c.1;
          before =
              ap (λ o. option_or o (extension_under V t n)) none ∙ ap (option_and_then (λ w. when (is_some (extension_named V w)) w)) is
              ∙ where_some (extension_named V) name f own;
          after = λ h.
              ap (λ o. option_or o (extension_under W t n)) (where_none (own_named W t) (name_of_field W t n) (sym (growing.own_same fs gs l grow t n h) ∙ i))
              ∙ ap (option_and_then (λ w. when (is_some (extension_named W w)) w)) (grow.extensions (t, pos n) name is)
              ∙ where_some (extension_named W) name f later;
          proto3 = is_proto3_at V name;
          extension = true;
          oneof = None;
          held = sym (ap (option_and_then (held_field V (is_proto3_at V name) true None)) (found fs l name c.0 c.1)) ∙ own;
        })

  module _ (t : Name) (n : ℕ) (f : Field) (u : IsUnder t n f) where
    record_before : record_under V t n ≡ Some u.content
    record_before = ap (option_and_then (field_at V)) u.before ∙ found fs l u.name u.content u.there

    record_after : Declared fs t → record_under W t n ≡ Some u.content
    record_after h =
        ap (option_and_then (field_at W)) (u.after h) ∙ sym (field_same fs gs l grow u.name u.content u.there) ∙ found fs l u.name u.content u.there

  -- the field of a number that a declared message has
  pub numbered_same : (t : Name) → Declared fs t → (n : ℕ)
      → option_and_then (field_at V) (name_of_field V t n) ≡ option_and_then (field_at W) (name_of_field W t n)
  numbered_same t h n = by (name_of_field V t n) refl ∙ ap (option_and_then (field_at W)) (growing.name_same fs gs l grow t n h) where
    by : (o : Option Text) → name_of_field V t n ≡ o → option_and_then (field_at V) (name_of_field V t n) ≡ option_and_then (field_at W) (name_of_field V t n)
    by None e = ap (option_and_then (field_at V)) e ∙ sym (ap (option_and_then (field_at W)) e)
    by (Some name) e =
        let c = field_there fs l t n name e in
        ap (option_and_then (field_at V)) e ∙ field_same fs gs l grow name c.0 c.1 ∙ sym (ap (option_and_then (field_at W)) e)

  -- ---- maps

  abbrev entry_by : Option MessageFacts → Bool
  entry_by o = elim o [ None ↦ false | Some m ↦ is_entry m ]

  -- the type of a map's entries
  pub record IsMapOf (c : FieldContent) : Type 0 where
    pub declared : Declared fs (type_name c)
    pub facts : MessageFacts
    pub of : message_of V c ≡ Some facts
    pub at : message_at V (type_name c) ≡ Some facts
    pub entry : is_entry facts ≡ true

  pub map_there : (c : FieldContent) → StandsIn fs c → names_entry V c ≡ true → IsMapOf c
  map_there c s e = by c.type_name refl where
    entry : entry_by (message_of V c) ≡ true
    entry = (both_true (is_number (pos 11) c.field_type) (entry_by (message_of V c)) e).1

    by : (o : Option Text) → c.type_name ≡ o → IsMapOf c
    by None i =
        let no : entry_by (message_of V c) ≡ false = ap
        (λ o. entry_by (option_and_then message_in (option_and_then (λ t. body_at V (undotted t)) o))) i in absurd (cc (no, entry))
    by (Some t) i = of (message_of V c) refl entry where
      name : type_name c ≡ undotted t
      name = ap (λ o. elim o [ None ↦ [] | Some t ↦ undotted t ]) i

      there : message_at V (type_name c) ≡ message_of V c
      there = ap (message_at V) name ∙ sym (ap (λ o. option_and_then message_in (option_and_then (λ t. body_at V (undotted t)) o)) i)

      of : (o : Option MessageFacts) → message_of V c ≡ o → entry_by o ≡ true → IsMapOf c
      of None j k = absurd (cc)
      of (Some m) j k = record { declared = subst (Declared fs) (sym name) (type_declared fs l c s t i); facts = m; of = j; at = there ∙ j; entry = k }

  -- a field with keys is one
  pub keyed_is_map : (p x : Bool) (g : Option ℕ) (c : FieldContent) (f : Field) (key : Key) → held_field V p x g c ≡ Some f → f.label ≡ keyed key
      → (names_entry V c ≡ true) × (map_field V x g c ≡ Some f)
  keyed_is_map p x g c f key e is = by (is_repeated c && names_entry V c) refl e where
    label : (b : Bool) → cond b (many (is_packed p c)) one ≡ keyed key → ⊥
    label true e = absurd (cc)
    label false e = absurd (cc)

    plain : (o : Option Part)
        → option_map (λ q. record { part = q; label = cond (is_repeated c) (many (is_packed p c)) one; oneof = g; extension = x }) o ≡ Some f → ⊥
    plain None i = absurd (none-some f i)
    plain (Some q) i = label (is_repeated c) (ap (λ (o : Option Field). elim o as (λ _. Label) [ None ↦ one | Some y ↦ y.label ]) i ∙ is)

    by : (b : Bool) → (is_repeated c && names_entry V c) ≡ b → cond b (map_field V x g c) (plain_field V p x g c) ≡ Some f
        → (names_entry V c ≡ true) × (map_field V x g c ≡ Some f)
    by true i j = ((both_true (is_repeated c) (names_entry V c) i).1, j)
    by false i j = absurd (plain (part_of V p x c) j)

  -- ---- enums

  abbrev values_at : View → Option FieldContent → List EnumValueContent
  values_at v o = elim o as (λ _. List EnumValueContent) [ None ↦ [] | Some f ↦ values_of (type_at v f) ]

  type_values : (c : FieldContent) → StandsIn fs c → values_at V (Some c) ≡ values_at W (Some c)
  type_values c s = ap values_of (growing.type_same fs gs l grow c s)

  numbered_values : (t : Name) → Declared fs t → (n : ℕ)
      → values_at V (option_and_then (field_at V) (name_of_field V t n)) ≡ values_at W (option_and_then (field_at W) (name_of_field W t n))
  numbered_values t h n = by (name_of_field V t n) refl ∙ ap (values_at W) (numbered_same t h n) where
    by : (o : Option Text) → name_of_field V t n ≡ o
        → values_at V (option_and_then (field_at V) (name_of_field V t n)) ≡ values_at W (option_and_then (field_at V) (name_of_field V t n))
    by None e = ap (λ o. values_at V (option_and_then (field_at V) o)) e ∙ sym (ap (λ o. values_at W (option_and_then (field_at V) o)) e)
    by (Some name) e =
        let c = field_there fs l t n name e in
        let at : option_and_then (field_at V) (name_of_field V t n) ≡ Some c.0 = ap (option_and_then (field_at V)) e ∙ found fs l name c.0 c.1 in
        ap (values_at V) at ∙ type_values c.0 (stands fs name c.0 c.1) ∙ sym (ap (values_at W) at)

  values_same : (c : FieldContent) → StandsIn fs c → values_at V (of_values V c) ≡ values_at W (of_values W c)
  values_same c s = by (is_repeated c && names_entry V c) refl where
    values_by : View → Bool → List EnumValueContent
    values_by v b = values_at v (cond b (option_and_then (field_at v) (name_of_field v (type_name c) 2)) (Some c))

    later : (is_repeated c && names_entry V c) ≡ (is_repeated c && names_entry W c)
    later = ap (λ b. is_repeated c && b) (growing.names_same fs gs l grow c s)

    by : (b : Bool) → (is_repeated c && names_entry V c) ≡ b → values_at V (of_values V c) ≡ values_at W (of_values W c)
    by true e =
        let m = map_there c s (both_true (is_repeated c) (names_entry V c) e).1 in
        ap (values_by V) e ∙ numbered_values (type_name c) m.declared 2 ∙ sym (ap (values_by W) (sym later ∙ e))
    by false e = ap (values_by V) e ∙ type_values c s ∙ sym (ap (values_by W) (sym later ∙ e))

  pub enums_same : (t : Name) (n : ℕ) (f : Field) → IsUnder t n f → Declared fs t → enum_values V t n ≡ enum_values W t n
  enums_same t n f u h =
      ap (λ o. values_at V (option_and_then (of_values V) o)) (record_before t n f u)
      ∙ values_same u.content (stands fs u.name u.content u.there)
      ∙ sym (ap (λ o. values_at W (option_and_then (of_values W) o)) (record_after t n f u h))

  -- ---- the types of entries

  abbrev entry_of : View → Option FieldContent → Name
  entry_of v o = elim o as (λ _. Name) [ None ↦ [] | Some f ↦ message_name v f ]

  abbrev name_by : FieldContent → Option MessageFacts → Name
  name_by c o = elim o as (λ _. Name) [ None ↦ [] | Some m ↦ type_name c ]

  pub entry_same : (t : Name) (n : ℕ) (f : Field) → IsUnder t n f → Declared fs t → entry_type V t n ≡ entry_type W t n
  entry_same t n f u h =
      ap (entry_of V) (record_before t n f u) ∙ ap (name_by u.content) (message_of_same fs gs l grow u.name u.content u.there)
      ∙ sym (ap (entry_of W) (record_after t n f u h))

  pub entry_named : (t : Name) (n : ℕ) (f : Field) (u : IsUnder t n f) → IsMapOf u.content → entry_type V t n ≡ type_name u.content
  entry_named t n f u m = ap (entry_of V) (record_before t n f u) ∙ ap (name_by u.content) m.of
