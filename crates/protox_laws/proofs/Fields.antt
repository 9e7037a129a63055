-- Fields that are the same but for their places have one record.
use Rattle.std.proofs.Common.{◌≡◌, ◌∙◌, ◌||◌, ℤ, pos, true, if◌then◌else◌, [], ◌∷◌, Option, Some, None, codes, map, flat_map, option_map, string_bytes, refl, ap, sym}
use Rattle.std.specs.Str.Lossy.{utf8_lossy}
use Rattle.descriptor_records.specs.Content.{message, no_messages}
use Rattle.descriptor_records.specs.FieldNumbers.{label_number}
use Rattle.descriptor_records.specs.declared.field.Label.{Label}
use Rattle.protox_declaration_records.specs.Numbers.{i32_of}
use Rattle.protox_declaration_records.specs.OptionRecords.{listed, options_of}
use Rattle.protox_declaration_records.specs.Texts.{signed_text}
use Rattle.protox_field_records.specs.FieldName.{field_name_of}
use Rattle.protox_field_records.specs.FieldRecords.{default_after, default_of, default_text, entry_name_of, extension_at, extension_in, field_of, int_text, is_bytes, is_group, is_named, json_after, json_name_of, json_text, other_at, type_name_of}
use Rattle.protox_field_records.specs.Layers.{AddedLayer}
use Rattle.protox_field_records.specs.MapEntries.{entry_field, entry_of, entry_options}
use Rattle.protox_laws.proofs.Layers.{added_seen, one_added, same_added}
use Rattle.protox_laws.proofs.Lists.{flat_maps, folds}
use Rattle.protox_laws.proofs.Options.{same_joined, same_listed, same_option, same_text}
use Rattle.protox_laws.proofs.Unplaced.{one_has_name, one_is_bytes, one_is_group, one_label, one_scalar_number, one_type, one_type_name, one_type_text, one_written_name}
use Rattle.protox_laws.specs.Unplaced.{a_body, a_field, a_kind, a_label, a_list_if, a_map, a_name, a_type, a_value, a_word, added_in, an_added, an_extend, an_int, words}
use Rattle.protox_lex.specs.Class.{Text}
use Rattle.protox_lex.specs.Escapes.{escaped}
use Rattle.protox_lex.specs.declared.literal.Int.{Int}
use Rattle.protox_lex.specs.declared.span.Span.{Span}
use Rattle.protox_locate.proofs.Nests.{extend_is, field_is}
use Rattle.protox_tree.specs.Nest as tree
use Rattle.protox_tree.specs.Nest.{added_of, extend, field}
use Rattle.protox_tree.specs.NestView.{added_view, extend_view, field_view, kind_view, map_view}
use Rattle.protox_tree.specs.Tree as trees
use Rattle.protox_tree.specs.Tree.{Word}
use Rattle.protox_tree.specs.View.{body_view, float_view, ident_view, name_view, option_list_view, strings_view, ty_view, type_name_view, value_view}
use Rattle.protox_tree.specs.declared.ident.TypeName.{TypeName}
use Rattle.protox_tree.specs.declared.message.Extend.{Extend}
use Rattle.protox_tree.specs.declared.message.ExtendItem.TheOpen.{ExtendItem-F}
use Rattle.protox_tree.specs.declared.message.ExtendItem.TheViews.{out-ExtendItem}
use Rattle.protox_tree.specs.declared.message.Field.{Field}
use Rattle.protox_tree.specs.declared.message.Map.{Map}
use Rattle.protox_tree.specs.declared.option.OptionBody.{OptionBody}
use Rattle.protox_tree.specs.declared.option.OptionValue.{OptionValue}
use Rattle.protox_tree.specs.declared.option.OptionValue.TheVariants as values
use Rattle.protox_tree.specs.declared.types.Ty.{Ty}

-- ---- options that are fields of the record

same_named : (name : Text) (b c : OptionBody) → a_body (body_view b) ≡ a_body (body_view c) → is_named name b ≡ is_named name c
same_named name b c e = one_has_name name (name_view b.name.items) (name_view c.name.items) (ap (λ (v : trees.Body). v.name) e)

-- of kinds that are bytes or not alike
same_default_text : (k l : tree.Kind) → is_bytes k ≡ is_bytes l → (v w : OptionValue) → a_value (value_view v) ≡ a_value (value_view w) → default_text k v ≡ default_text l w
same_default_text k l bytes (values.Ident i) (values.Ident j) e =
    let word : a_word (ident_view i) ≡ a_word (ident_view j) = cc in
    ap (λ (w : Word). w.text) word
same_default_text k l bytes (values.NegativeWord i) (values.NegativeWord j) e =
    let word : a_word (ident_view i) ≡ a_word (ident_view j) = cc in
    ap (λ (w : Word). signed_text true w.text) word
same_default_text k l bytes (values.Int n) (values.Int m) e =
    let int : an_int n ≡ an_int m = cc in
    ap int_text int
same_default_text k l bytes (values.Float s f) (values.Float t g) e =
    let sign : s ≡ t = cc in
    let float : a_word (float_view f) ≡ a_word (float_view g) = cc in
    λ i. signed_text (sign i) ((float i).text)
same_default_text k l bytes (values.String s) (values.String t) e =
    let literals : words (strings_view s) ≡ words (strings_view t) = cc in
    let text = same_joined s t literals in
    λ i. if bytes i then escaped (text i) else utf8_lossy (text i)
same_default_text k l bytes (values.Aggregate a) (values.Aggregate b) e =
    let text : string_bytes a.text ≡ string_bytes b.text = cc in
    text
same_default_text k l bytes v w e = absurd (cc)

-- the same default after an option
same_default_after : (k l : tree.Kind) → is_bytes k ≡ is_bytes l → (before : Option Text) (b c : OptionBody) → a_body (body_view b) ≡ a_body (body_view c)
    → default_after k before b ≡ default_after l before c
same_default_after k l bytes before b c e =
    let named = same_named (codes "default") b c e in
    let text = same_default_text k l bytes b.value c.value (ap (λ (v : trees.Body). v.value) e) in
    λ i. if named i then Some (text i) else before

same_json_text : (v w : OptionValue) → a_value (value_view v) ≡ a_value (value_view w) → json_text v ≡ json_text w
same_json_text (values.String s) (values.String t) e =
    let literals : words (strings_view s) ≡ words (strings_view t) = cc in
    ap Some (same_text s t literals)
same_json_text (values.Ident i) (values.Ident j) e = refl
same_json_text (values.NegativeWord i) (values.NegativeWord j) e = refl
same_json_text (values.Int n) (values.Int m) e = refl
same_json_text (values.Float s f) (values.Float t g) e = refl
same_json_text (values.Aggregate a) (values.Aggregate b) e = refl
same_json_text v w e = absurd (cc)

same_json_after : (before : Option Text) (b c : OptionBody) → a_body (body_view b) ≡ a_body (body_view c) → json_after before b ≡ json_after before c
same_json_after before b c e =
    let named = same_named (codes "json_name") b c e in
    let text = same_json_text b.value c.value (ap (λ (v : trees.Body). v.value) e) in
    λ i. if named i then text i else before

same_other : (b c : OptionBody) → a_body (body_view b) ≡ a_body (body_view c) → other_at b ≡ other_at c
same_other b c e =
    let default = same_named (codes "default") b c e in
    let json = same_named (codes "json_name") b c e in
    let option = same_option b c e in
    λ i. if default i || json i then [] else option i ∷ []

-- ---- fields

-- what the records of fields read of them is one, but for its places
pub record AreAlike (f g : Field) : Type 0 where
  pub label : a_label f.label ≡ a_label g.label
  pub kind : a_kind (kind_view f.kind) ≡ a_kind (kind_view g.kind)
  pub name : a_word (ident_view f.name) ≡ a_word (ident_view g.name)
  pub number : an_int f.number ≡ an_int g.number
  pub options : a_list_if (option_map option_list_view f.options) ≡ a_list_if (option_map option_list_view g.options)

parts_alike : (l m : Option (Label × Span)) (k j : tree.Kind) (v w : Word) (a b : Int) (o p : Option trees.OptionList) (s t : Span)
    → a_field (field l k v a o s) ≡ a_field (field m j w b p t) → (a_label l ≡ a_label m) × (a_kind k ≡ a_kind j) × (a_word v ≡ a_word w) × (an_int a ≡ an_int b) × (a_list_if o ≡ a_list_if p)
parts_alike l m k j v w a b o p s t e = (cc, cc, cc, cc, cc)

pub are_alike : (f g : Field) → a_field (field_view f) ≡ a_field (field_view g) → AreAlike f g
are_alike f g e =
    let parts = parts_alike f.label g.label (kind_view f.kind) (kind_view g.kind) (ident_view f.name) (ident_view g.name) f.number g.number
    (option_map option_list_view f.options) (option_map option_list_view g.options) f.span g.span (sym (ap a_field (field_is f)) ∙ e ∙ ap a_field (field_is g)) in
    record { label = parts.0; kind = parts.1; name = parts.2; number = parts.3; options = parts.4 }

pub same_field_name : (f g : Field) → AreAlike f g
    → field_name_of (string_bytes f.name.value) (is_group (kind_view f.kind)) ≡ field_name_of (string_bytes g.name.value) (is_group (kind_view g.kind))
same_field_name f g h =
    let grouped = one_is_group (kind_view f.kind) (kind_view g.kind) h.kind in
    λ i. field_name_of ((h.name i).text) (grouped i)

pub same_field : (f g : Field) → AreAlike f g → field_of f ≡ field_of g
same_field f g h =
    let bodies = same_listed f.options g.options h.options in
    let name = same_field_name f g h in
    let labelled = one_label f.label g.label (kind_view f.kind) (kind_view g.kind) h.label h.kind in
    let typed = one_type (kind_view f.kind) (kind_view g.kind) h.kind in
    let type_name : type_name_of (string_bytes f.name.value) (kind_view f.kind) ≡ type_name_of (string_bytes g.name.value) (kind_view g.kind) =
    one_type_name (string_bytes f.name.value) (kind_view f.kind) (kind_view g.kind) h.kind ∙ ap (λ (w : Word). type_name_of w.text (kind_view g.kind)) h.name in
    let bytes = one_is_bytes (kind_view f.kind) (kind_view g.kind) h.kind in
    let default : default_of (kind_view f.kind) (listed f.options) ≡ default_of (kind_view g.kind) (listed g.options) =
    folds body_view a_body (default_after (kind_view f.kind)) (default_after (kind_view g.kind)) (same_default_after (kind_view f.kind) (kind_view g.kind) bytes)
    None (listed f.options) (listed g.options) bodies in
    let json : json_name_of (listed f.options) ≡ json_name_of (listed g.options) = folds body_view a_body json_after json_after same_json_after None (listed f.options) (listed g.options) bodies in
    let others = flat_maps body_view a_body other_at other_at same_other (listed f.options) (listed g.options) bodies in
    λ i. record {
      name = Some (name i);
      number = i32_of (h.number i);
      label = Some (label_number (labelled i));
      field_type = typed i;
      type_name = type_name i;
      extendee = None;
      default_value = default i;
      oneof_index = None;
      json_name = json i;
      options = options_of (others i);
      proto3_optional = None;
    }

-- ---- extensions

same_extension_in : (t u : TypeName) → a_name (type_name_view t) ≡ a_name (type_name_view u) → (a b : AddedLayer) → an_added (added_seen a) ≡ an_added (added_seen b)
    → extension_in t a ≡ extension_in u b
same_extension_in t u extendee (ExtendItem-F.«ExtendItem::Field» f) (ExtendItem-F.«ExtendItem::Field» g) e =
    let seen : a_field (field_view f) ≡ a_field (field_view g) = cc e in
    let made = same_field f g (are_alike f g seen) in
    let text = one_type_text (type_name_view t) (type_name_view u) extendee in
    λ i. record (made i) { extendee = Some (text i) } ∷ []
same_extension_in t u extendee (ExtendItem-F.«ExtendItem::Empty» a) (ExtendItem-F.«ExtendItem::Empty» b) e = refl
same_extension_in t u extendee a b e = absurd (cc e)

extend_alike : (t u : trees.TypeName) (b c : Span) (x y : tree.Added) (s r : Span) → an_extend (extend t b x s) ≡ an_extend (extend u c y r) → (a_name t ≡ a_name u) × (added_in x ≡ added_in y)
extend_alike t u b c x y s r e = (cc, cc)

-- the type that is extended, and what is added to it
pub same_extend : (a b : Extend) → an_extend (extend_view a) ≡ an_extend (extend_view b)
    → (a_name (type_name_view a.extendee) ≡ a_name (type_name_view b.extendee)) × (map an_added (map added_view a.items.items) ≡ map an_added (map added_view b.items.items))
same_extend a b e =
    let parts = extend_alike (type_name_view a.extendee) (type_name_view b.extendee) a.braces b.braces
    (added_of (map added_view a.items.items)) (added_of (map added_view b.items.items)) a.span b.span (sym (ap an_extend (extend_is a)) ∙ e ∙ ap an_extend (extend_is b)) in
    (parts.0, same_added (map added_view a.items.items) (map added_view b.items.items) parts.1)

pub same_extensions : (a b : Extend) → an_extend (extend_view a) ≡ an_extend (extend_view b) → flat_map (extension_at a.extendee) a.items.items ≡ flat_map (extension_at b.extendee) b.items.items
same_extensions a b e =
    let parts = same_extend a b e in
    flat_maps added_view an_added (extension_at a.extendee) (extension_at b.extendee)
    (λ x y h. same_extension_in a.extendee b.extendee parts.0 (out-ExtendItem x) (out-ExtendItem y) (one_added x y h))
    a.items.items b.items.items parts.1

-- ---- maps

same_entry_field : (name : Text) (number : ℤ) (t u : Ty) → a_type (ty_view t) ≡ a_type (ty_view u) → entry_field name number t ≡ entry_field name number u
same_entry_field name number t u e =
    let typed = one_scalar_number (ty_view t) (ty_view u) e in
    let type_name = one_written_name (ty_view t) (ty_view u) e in
    λ i. record (entry_field name number t) { field_type = typed i; type_name = type_name i }

pub same_entry : (n m : Text) (a b : Map) → n ≡ m → a_map (map_view a) ≡ a_map (map_view b) → entry_of n a ≡ entry_of m b
same_entry n m a b name e =
    let key = same_entry_field (codes "key") (pos 1) a.key b.key (ap (λ (v : tree.MapType). v.key) e) in
    let value = same_entry_field (codes "value") (pos 2) a.value b.value (ap (λ (v : tree.MapType). v.value) e) in
    λ i. message (Some (entry_name_of (name i))) (key i ∷ (value i ∷ [])) [] no_messages [] [] [] (Some entry_options) [] []
