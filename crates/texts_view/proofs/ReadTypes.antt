-- The types of messages that a view has are the same where of options only what linking reads is
-- left.
use Rattle.std.proofs.Common.{◌≡◌, ℕ, ℤ, pos, List, [], ◌∷◌, map, Bool, true, false, cond, ◌&&◌, Option, Some, None, refl, ap, ◌∙◌}
use Rattle.std.specs.Option.{option_map, option_and_then, option_or}
use Rattle.std.specs.Str.{bytes_eq}
use Rattle.descriptor_records.specs.Content.{Text, OptionsContent, FieldContent, EnumValueContent, FileContent}
use Rattle.protobuf_model.specs.Values.{enumerated}
use Rattle.protobuf_model.specs.Types.{Kind, scalar, one, many, keyed}
use Rattle.protobuf_model.specs.Types as kinds
use Rattle.schema_view.specs.Files.{text_of}
use Rattle.schema_view.specs.Declarations.{MessageFacts, Body, of_enum, of_message}
use Rattle.schema_view.specs.Rules.{is_number}
use Rattle.schema_view.specs.Views.{FileFacts, Held, View, when, view_of}
use Rattle.schema_view.specs.Fields.{is_repeated, is_packable, packed_option, asks_packed, has_presence}
use Rattle.schema_view.specs.Types.{undotted, type_name, message_in, field_in, body_at, message_at, field_at, type_at, says_proto3, is_proto3_at, number_in, value_number, first_number, values_of, kind_of, zero_of, said_of, default_of, part_of, named_in, name_of_field, is_entry, names_entry, entry_part, key_of, oneof_in, map_field, plain_field, held_field, field_named, own_named, extension_named, types_of}
use Rattle.texts_view.specs.ReadOptions.{read_options, read_field, read_value, read_file}
use Rattle.texts_view.proofs.Reading.{read_facts, read_body}
use Rattle.texts_view.proofs.ReadViews.{read_file_facts, read_held, read_view, first_same, of_views_alike}

-- ---- what does not ask what stands under names

pub and_then_mapped : {X Y A : Type 0} (g : X → Option Y) (f : A → X) (h : A → Option Y)
    → ((x : A) → g (f x) ≡ h x) → (o : Option A)
    → option_and_then g (option_map f o) ≡ option_and_then h o
and_then_mapped g f h e None = refl
and_then_mapped g f h e (Some x) = e x

message_in_read : (b : Body) → message_in (read_body b) ≡ option_map read_facts (message_in b)
message_in_read (of_message m) = refl
message_in_read b = refl

field_in_read : (b : Body) → field_in (read_body b) ≡ option_map read_field (field_in b)
field_in_read (of_message m) = refl
field_in_read b = refl

-- what is in the body that is held, without other options
pub in_held : {Y : Type 0} (g : Body → Option Y) (k : Y → Y)
    → ((b : Body) → g (read_body b) ≡ option_map k (g b)) → (o : Option Body)
    → option_and_then g (option_map read_body o) ≡ option_map k (option_and_then g o)
in_held g k e None = refl
in_held g k e (Some b) = e b

pub value_number_read : (n : Text) (vs : List EnumValueContent)
    → value_number n (map read_value vs) ≡ value_number n vs
value_number_read n vs = first_same
    (λ (v : EnumValueContent). when (bytes_eq (text_of v.name) n) (number_in v)) read_value
    (λ (v : EnumValueContent). when (bytes_eq (text_of v.name) n) (number_in v)) (λ v. refl) vs

first_number_read : (vs : List EnumValueContent) → first_number (map read_value vs) ≡ first_number vs
first_number_read [] = refl
first_number_read (v ∷ vs) = refl

zero_read : (vs : List EnumValueContent) (k : Kind) → zero_of (map read_value vs) k ≡ zero_of vs k
zero_read vs (scalar kinds.enumeration) = ap enumerated (first_number_read vs)
zero_read vs k = refl

said_read : (vs : List EnumValueContent) (k : Kind) (s : Text)
    → said_of (map read_value vs) k s ≡ said_of vs k s
said_read vs (scalar kinds.enumeration) s =
    ap (λ (o : Option ℤ). elim o [ None ↦ enumerated (pos 0) | Some z ↦ enumerated z ])
    (value_number_read s vs)
said_read vs k s = refl

default_read : (vs : List EnumValueContent) (s : Option Text) (k : Kind)
    → default_of (map read_value vs) s k ≡ default_of vs s k
default_read vs None k = zero_read vs k
default_read vs (Some s) k = said_read vs k s

packed_read : (o : Option OptionsContent)
    → packed_option (option_map read_options o) ≡ packed_option o
packed_read None = refl
packed_read (Some o) = refl

entry_by : (o : Option OptionsContent) (m : MessageFacts)
    → is_entry (record m { options = option_map read_options o }) ≡ is_entry (record m { options = o })
entry_by None m = refl
entry_by (Some o) m = refl

is_entry_read : (m : MessageFacts) → is_entry (read_facts m) ≡ is_entry m
is_entry_read m = entry_by m.options m

values_read : (o : Option Body) → values_of (option_map read_body o) ≡ map read_value (values_of o)
values_read None = refl
values_read (Some (of_enum e)) = refl
values_read (Some b) = refl

-- ---- what stands under names

module _ (v : View) where
  -- the view with what linking reads of options alone
  abbrev R : View
  R = read_view v

  pub body_at_read : (n : Text) → body_at R n ≡ option_map read_body (body_at v n)
  body_at_read n = by (v.declared n) where
    by : (o : Option Held) → option_map (λ (h : Held). h.body) (option_map read_held o)
        ≡ option_map read_body (option_map (λ (h : Held). h.body) o)
    by None = refl
    by (Some h) = refl

  pub message_at_read : (n : Text) → message_at R n ≡ option_map read_facts (message_at v n)
  message_at_read n = ap (option_and_then message_in) (body_at_read n)
      ∙ in_held message_in read_facts message_in_read (body_at v n)

  pub field_at_read : (n : Text) → field_at R n ≡ option_map read_field (field_at v n)
  field_at_read n = ap (option_and_then field_in) (body_at_read n)
      ∙ in_held field_in read_field field_in_read (body_at v n)

  type_at_read : (f : FieldContent) → type_at R f ≡ option_map read_body (type_at v f)
  type_at_read f = by f.type_name where
    by : (o : Option Text) → option_and_then (λ t. body_at R (undotted t)) o
        ≡ option_map read_body (option_and_then (λ t. body_at v (undotted t)) o)
    by None = refl
    by (Some t) = body_at_read (undotted t)

  abbrev proto3_in : Option FileFacts → Bool
  proto3_in o = elim o [ None ↦ false | Some f ↦ says_proto3 f ]

  proto3_at_read : (n : Text) → is_proto3_at R n ≡ is_proto3_at v n
  proto3_at_read n = by (v.declared n) where
    facts : (o : Option FileFacts) → proto3_in (option_map read_file_facts o) ≡ proto3_in o
    facts None = refl
    facts (Some f) = refl

    by : (o : Option Held)
        → proto3_in (option_and_then (λ (h : Held). R.files h.file) (option_map read_held o))
        ≡ proto3_in (option_and_then (λ (h : Held). v.files h.file) o)
    by None = refl
    by (Some h) = facts (v.files h.file)

  pub values_at_read : (f : FieldContent)
      → values_of (type_at R f) ≡ map read_value (values_of (type_at v f))
  values_at_read f = ap values_of (type_at_read f) ∙ values_read (type_at v f)

  part_read : (p x : Bool) (f : FieldContent) → part_of R p x (read_field f) ≡ part_of v p x f
  part_read p x f = λ i. option_map (λ k. record {
    kind = k;
    presence = has_presence p x f;
    default = (ap (λ vs. default_of vs f.default_value k) (values_at_read f)
        ∙ default_read (values_of (type_at v f)) f.default_value k) i;
  }) (kind_of f)

  pub name_of_field_read : (t : Text) (n : ℕ) → name_of_field R t n ≡ name_of_field v t n
  name_of_field_read t n = ap (option_and_then (named_in t n)) (message_at_read t)
      ∙ and_then_mapped (named_in t n) read_facts (named_in t n) (λ m. refl) (message_at v t)

  -- the message that is a field's type
  pub message_of_read : (f : FieldContent) → option_and_then message_in (type_at R f)
      ≡ option_map read_facts (option_and_then message_in (type_at v f))
  message_of_read f = ap (option_and_then message_in) (type_at_read f)
      ∙ in_held message_in read_facts message_in_read (type_at v f)

  abbrev entry_of : Option MessageFacts → Bool
  entry_of o = elim o [ None ↦ false | Some m ↦ is_entry m ]

  pub names_entry_read : (f : FieldContent) → names_entry R (read_field f) ≡ names_entry v f
  names_entry_read f =
      ap (λ o. is_number (pos 11) f.field_type && entry_of o) (message_of_read f)
      ∙ ap (λ b. is_number (pos 11) f.field_type && b)
      (by (option_and_then message_in (type_at v f))) where
        by : (o : Option MessageFacts) → entry_of (option_map read_facts o) ≡ entry_of o
        by None = refl
        by (Some m) = is_entry_read m

  entry_part_read : (t : Text) (n : ℕ) → entry_part R t n ≡ entry_part v t n
  entry_part_read t n = λ i. option_and_then (λ name. named name i) (name_of_field_read t n i) where
    named : (name : Text) → option_and_then (part_of R (is_proto3_at R name) false) (field_at R name)
        ≡ option_and_then (part_of v (is_proto3_at v name) false) (field_at v name)
    named name =
        (λ i. option_and_then (part_of R (proto3_at_read name i) false) (field_at_read name i))
        ∙ and_then_mapped (part_of R (is_proto3_at v name) false) read_field
        (part_of v (is_proto3_at v name) false) (part_read (is_proto3_at v name) false)
        (field_at v name)

  map_field_read : (x : Bool) (g : Option ℕ) (f : FieldContent)
      → map_field R x g (read_field f) ≡ map_field v x g f
  map_field_read x g f = λ i. option_and_then (λ part. option_map
      (λ k. record { part = part; label = keyed k; oneof = g; extension = x })
      (option_and_then key_of (entry_part_read (type_name f) 1 i)))
      (entry_part_read (type_name f) 2 i)

  plain_field_read : (p x : Bool) (g : Option ℕ) (f : FieldContent)
      → plain_field R p x g (read_field f) ≡ plain_field v p x g f
  plain_field_read p x g f = λ i. option_map (λ part. record {
    part = part;
    label = cond (is_repeated f) (many (is_repeated f
        && (is_packable f.field_type && asks_packed p (packed_read f.options i)))) one;
    oneof = g;
    extension = x;
  }) (part_read p x f i)

  held_field_read : (p x : Bool) (g : Option ℕ) (f : FieldContent)
      → held_field R p x g (read_field f) ≡ held_field v p x g f
  held_field_read p x g f = λ i. cond (is_repeated f && names_entry_read f i)
      (map_field_read x g f i) (plain_field_read p x g f i)

  field_named_read : (x : Bool) (g h : FieldContent → Option ℕ)
      → ((f : FieldContent) → g (read_field f) ≡ h f) → (name : Text)
      → field_named R x g name ≡ field_named v x h name
  field_named_read x g h e name =
      (λ i. option_and_then (λ f. held_field R (proto3_at_read name i) x (g f) f)
      (field_at_read name i))
      ∙ and_then_mapped (λ f. held_field R (is_proto3_at v name) x (g f) f) read_field
      (λ f. held_field v (is_proto3_at v name) x (h f) f)
      (λ f. ap (λ o. held_field R (is_proto3_at v name) x o (read_field f)) (e f)
      ∙ held_field_read (is_proto3_at v name) x (h f) f) (field_at v name)

  oneof_read : (m : Option MessageFacts) (f : FieldContent)
      → oneof_in (option_map read_facts m) (read_field f) ≡ oneof_in m f
  oneof_read None f = refl
  oneof_read (Some m) f = refl

  pub own_named_read : (t name : Text) → own_named R t name ≡ own_named v t name
  own_named_read t = field_named_read false (oneof_in (message_at R t)) (oneof_in (message_at v t))
      (λ f. ap (λ m. oneof_in m (read_field f)) (message_at_read t) ∙ oneof_read (message_at v t) f)

  pub extension_named_read : (name : Text) → extension_named R name ≡ extension_named v name
  extension_named_read = field_named_read true (λ f. None) (λ f. None) (λ f. refl)

  pub types_read : types_of R ≡ types_of v
  types_read = λ i t n. option_or
      (option_and_then (λ name. own_named_read t name i) (name_of_field_read t n i))
      (option_and_then (λ name. extension_named_read name i) (v.extensions (t, pos n)))

-- ---- the law

pub types_alike : (a b : List FileContent) → map read_file a ≡ map read_file b
    → types_of (view_of a) ≡ types_of (view_of b)
types_alike = of_views_alike types_of types_read
