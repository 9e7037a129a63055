-- What a view says to texts is the same where of options only what linking reads is left.
use Rattle.std.proofs.Common.{◌≡◌, ℕ, ℤ, pos, List, [], map, Bool, true, false, cond, ◌&&◌, not, Option, Some, None, refl, ap, ◌∙◌}
use Rattle.std.specs.Prelude.{is_some, codes}
use Rattle.std.specs.Char.{to_ascii_lowercase}
use Rattle.std.specs.List.{filter}
use Rattle.std.specs.Option.{option_map, option_and_then, option_or}
use Rattle.std.specs.Ordering.{int_eq}
use Rattle.std.specs.Str.{bytes_eq}
use Rattle.descriptor_records.specs.Content.{Text, FieldContent, EnumValueContent, FileContent}
use Rattle.reflect_pool.specs.Dots.{without_dot}
use Rattle.protobuf_model.specs.Types.{Name}
use Rattle.protobuf_model.specs.Values.{Message}
use Rattle.schema_view.specs.Declarations.{Body, of_message, FieldFacts, MessageFacts, facts_of}
use Rattle.schema_view.specs.Fields.{is_group, is_repeated}
use Rattle.schema_view.specs.Files.{join, text_of}
use Rattle.schema_view.specs.Lawful.{is_dotted}
use Rattle.schema_view.specs.Rules.{is_number}
use Rattle.schema_view.specs.Scalars.{scalar_type}
use Rattle.schema_view.specs.Types.{body_at, extension_named, field_at, field_number, message_at, name_of_field, names_entry, number_in, type_at, type_name, value_number, values_of}
use Rattle.schema_view.specs.Views.{View, when, view_of}
use Rattle.texts_view.specs.Named.{called_in, first_called, message_of, is_type_called, if_plain, if_group_called, number_at, held_number, plain_or_group, number_called, extension_in, extension_called, field_under, extension_under, label_of, printed_name, record_under, of_values, enum_values, name_of_value, message_name, entry_type, numbers_in, names_in, type_called, shares, is_lone, is_any, schema_in}
use Rattle.texts_view.specs.ReadOptions.{read_field, read_value, read_file}
use Rattle.texts_view.proofs.Reading.{read_facts, read_body}
use Rattle.texts_view.proofs.ReadViews.{read_view, first_same, of_views_alike}
use Rattle.texts_view.proofs.ReadTypes.{and_then_mapped, in_held, body_at_read, message_at_read, field_at_read, values_at_read, message_of_read, name_of_field_read, names_entry_read, own_named_read, extension_named_read, types_read, value_number_read}

-- ---- values that may be missing

abbrev given : {X Y : Type 0} → Y → (X → Y) → Option X → Y
given d g o = elim o [ None ↦ d | Some x ↦ g x ]

given_mapped : {X Y A : Type 0} (d : Y) (g : X → Y) (f : A → X) (h : A → Y)
    → ((x : A) → g (f x) ≡ h x) → (o : Option A) → given d g (option_map f o) ≡ given d h o
given_mapped d g f h e None = refl
given_mapped d g f h e (Some x) = e x

map_mapped : {X Y A : Type 0} (g : X → Y) (f : A → X) (h : A → Y)
    → ((x : A) → g (f x) ≡ h x) → (o : Option A) → option_map g (option_map f o) ≡ option_map h o
map_mapped g f h e None = refl
map_mapped g f h e (Some x) = ap Some (e x)

-- what is found by a name, without other options
found_mapped : {X Y : Type 0} (g : X → Option Y) (f : Y → Y) (h : X → Option Y)
    → ((x : X) → g x ≡ option_map f (h x)) → (o : Option X)
    → option_and_then g o ≡ option_map f (option_and_then h o)
found_mapped g f h e None = refl
found_mapped g f h e (Some x) = e x

name_of_value_read : (z : ℤ) (vs : List EnumValueContent)
    → name_of_value z (map read_value vs) ≡ name_of_value z vs
name_of_value_read z vs = first_same
    (λ (v : EnumValueContent). when (int_eq (number_in v) z) (text_of v.name)) read_value
    (λ (v : EnumValueContent). when (int_eq (number_in v) z) (text_of v.name)) (λ v. refl) vs

extension_in_read : (b : Body) → extension_in (read_body b) ≡ option_map read_field (extension_in b)
extension_in_read (of_message m) = refl
extension_in_read b = refl

shares_read : (m : Option MessageFacts) (f : FieldContent)
    → shares (option_map read_facts m) (read_field f) ≡ shares m f
shares_read None f = refl
shares_read (Some m) f = refl

module _ (v : View) where
  -- the view with what linking reads of options alone
  abbrev R : View
  R = read_view v

  -- ---- names that texts call fields and extensions

  first_called_read : (t : Name) (w : Text) → first_called R t w ≡ first_called v t w
  first_called_read t w = ap (option_and_then (called_in t w)) (message_at_read v t)
      ∙ and_then_mapped (called_in t w) read_facts (called_in t w) (λ m. refl) (message_at v t)

  type_called_by : (w : Text) (f : FieldContent)
      → is_type_called R w (read_field f) ≡ is_type_called v w f
  type_called_by w f =
      let called : MessageFacts → Bool = λ m. bytes_eq (text_of m.name) w in
      ap (given false called) (message_of_read v f)
      ∙ given_mapped false called read_facts called (λ m. refl) (message_of v f)

  if_plain_read : (n : Text) → if_plain R n ≡ if_plain v n
  if_plain_read n =
      let plain : FieldContent → Option Text = λ f. when (not (is_group f)) n in
      ap (option_and_then plain) (field_at_read v n)
      ∙ and_then_mapped plain read_field plain (λ f. refl) (field_at v n)

  if_group_called_read : (w n : Text) → if_group_called R w n ≡ if_group_called v w n
  if_group_called_read w n =
      let group : View → FieldContent → Option Text
      = λ u f. when (is_group f && is_type_called u w f) n in
      ap (option_and_then (group R)) (field_at_read v n)
      ∙ and_then_mapped (group R) read_field (group v)
      (λ f. ap (λ b. when (is_group f && b) n) (type_called_by w f)) (field_at v n)

  number_at_read : (n : Text) → number_at R n ≡ number_at v n
  number_at_read n =
      let number : FieldContent → ℕ = λ f. field_number (facts_of f) in
      ap (option_map number) (field_at_read v n)
      ∙ map_mapped number read_field number (λ f. refl) (field_at v n)

  held_number_read : (t n : Text) → held_number R t n ≡ held_number v t n
  held_number_read t n =
      λ i. cond (is_some (own_named_read v t n i)) (number_at_read n i) None

  plain_or_group_read : (t : Name) (p g : Option Text)
      → plain_or_group R t p g ≡ plain_or_group v t p g
  plain_or_group_read t (Some n) g = held_number_read t n
  plain_or_group_read t None g = λ i. option_and_then (λ n. number_at_read n i) g

  number_called_read : (t : Name) (w : Text) → number_called R t w ≡ number_called v t w
  number_called_read t w =
      (λ i. plain_or_group R t (option_and_then (λ n. if_plain_read n i) (first_called_read t w i))
      (option_and_then (λ n. if_group_called_read w n i)
      (first_called_read t (map to_ascii_lowercase w) i)))
      ∙ plain_or_group_read t (option_and_then (if_plain v) (first_called v t w))
      (option_and_then (if_group_called v w) (first_called v t (map to_ascii_lowercase w)))

  extension_called_read : (t : Name) (w : Text) → extension_called R t w ≡ extension_called v t w
  extension_called_read t w =
      let number : Bool → FieldContent → Option ℕ
      = λ b x. when (is_dotted t x.extendee && b) (field_number (facts_of x)) in
      (λ i. option_and_then (number (is_some (extension_named_read v w i)))
      (option_and_then extension_in (body_at_read v w i)))
      ∙ ap (option_and_then (number (is_some (extension_named v w))))
      (in_held extension_in read_field extension_in_read (body_at v w))
      ∙ and_then_mapped (number (is_some (extension_named v w))) read_field
      (number (is_some (extension_named v w))) (λ x. refl)
      (option_and_then extension_in (body_at v w))

  -- ---- names that texts are printed with

  field_under_read : (t : Name) (n : ℕ) → field_under R t n ≡ field_under v t n
  field_under_read t n = λ i. option_and_then
      (λ w. when (is_some (own_named_read v t w i)) w) (name_of_field_read v t n i)

  extension_under_read : (t : Name) (n : ℕ) → extension_under R t n ≡ extension_under v t n
  extension_under_read t n = λ i. option_and_then
      (λ w. when (is_some (extension_named_read v w i)) w) (v.extensions (t, pos n))

  abbrev called : MessageFacts → Text
  called m = text_of m.name

  label_read : (f : FieldContent) → label_of R (read_field f) ≡ label_of v f
  label_read f =
      ap (λ o. given (text_of f.name) called (cond (is_group f) o None)) (message_of_read v f)
      ∙ by (is_group f) where
        by : (b : Bool)
            → given (text_of f.name) called (cond b (option_map read_facts (message_of v f)) None)
            ≡ given (text_of f.name) called (cond b (message_of v f) None)
        by false = refl
        by true = given_mapped (text_of f.name) called read_facts called (λ m. refl) (message_of v f)

  printed_name_read : (p x : Option Text) → printed_name R p x ≡ printed_name v p x
  printed_name_read (Some n) x =
      ap (given [] (label_of R)) (field_at_read v n)
      ∙ given_mapped [] (label_of R) read_field (label_of v) label_read (field_at v n)
  printed_name_read None x = refl

  -- ---- what messages hold under a number

  record_under_read : (t : Name) (n : ℕ)
      → record_under R t n ≡ option_map read_field (record_under v t n)
  record_under_read t n =
      (λ i. option_and_then (field_at R)
      (option_or (field_under_read t n i) (extension_under_read t n i)))
      ∙ found_mapped (field_at R) read_field (field_at v) (field_at_read v)
      (option_or (field_under v t n) (extension_under v t n))

  of_values_read : (f : FieldContent)
      → of_values R (read_field f) ≡ option_map read_field (of_values v f)
  of_values_read f =
      (λ i. cond (is_repeated f && names_entry_read v f i)
      (option_and_then (field_at R) (name_of_field_read v (type_name f) 2 i)) (Some (read_field f)))
      ∙ by (is_repeated f && names_entry v f) where
        by : (b : Bool)
            → cond b (option_and_then (field_at R) (name_of_field v (type_name f) 2))
            (Some (read_field f))
            ≡ option_map read_field
            (cond b (option_and_then (field_at v) (name_of_field v (type_name f) 2)) (Some f))
        by false = refl
        by true = found_mapped (field_at R) read_field (field_at v) (field_at_read v)
            (name_of_field v (type_name f) 2)

  under_read : (t : Name) (n : ℕ) → option_and_then (of_values R) (record_under R t n)
      ≡ option_map read_field (option_and_then (of_values v) (record_under v t n))
  under_read t n = ap (option_and_then (of_values R)) (record_under_read t n)
      ∙ by (record_under v t n) where
        by : (o : Option FieldContent) → option_and_then (of_values R) (option_map read_field o)
            ≡ option_map read_field (option_and_then (of_values v) o)
        by None = refl
        by (Some f) = of_values_read f

  enum_values_read : (t : Name) (n : ℕ)
      → enum_values R t n ≡ map read_value (enum_values v t n)
  enum_values_read t n = ap (given [] (λ f. values_of (type_at R f))) (under_read t n)
      ∙ by (option_and_then (of_values v) (record_under v t n)) where
        by : (o : Option FieldContent)
            → given [] (λ f. values_of (type_at R f)) (option_map read_field o)
            ≡ map read_value (given [] (λ f. values_of (type_at v f)) o)
        by None = refl
        by (Some f) = values_at_read v f

  message_name_read : (f : FieldContent) → message_name R (read_field f) ≡ message_name v f
  message_name_read f =
      ap (given {Y = Name} [] (λ m. type_name f)) (message_of_read v f)
      ∙ given_mapped {Y = Name} [] (λ m. type_name f) read_facts (λ m. type_name f) (λ m. refl)
      (message_of v f)

  entry_type_read : (t : Name) (n : ℕ) → entry_type R t n ≡ entry_type v t n
  entry_type_read t n =
      ap (given [] (message_name R)) (record_under_read t n)
      ∙ given_mapped [] (message_name R) read_field (message_name v) message_name_read
      (record_under v t n)

  declared_read : (t : Name)
      → given [] (numbers_in R t) (message_at R t) ≡ given [] (numbers_in v t) (message_at v t)
  declared_read t =
      ap (given [] (numbers_in R t)) (message_at_read v t)
      ∙ given_mapped [] (numbers_in R t) read_facts (numbers_in v t)
      (λ m i. map field_number (filter
      (λ (f : FieldFacts). is_some (own_named_read v t (join t (text_of f.name)) i)) m.fields))
      (message_at v t)

  names_read : (t : Name) → names_in R t ≡ names_in v t
  names_read t = λ i. record {
    field = λ w. number_called_read t w i;
    extension = λ w. extension_called_read t w i;
    name = λ n. ((λ j. printed_name R (field_under_read t n j) (extension_under_read t n j))
        ∙ printed_name_read (field_under v t n) (extension_under v t n)) i;
    declared = declared_read t i;
    enum_number = λ n w. (ap (value_number w) (enum_values_read t n)
        ∙ value_number_read w (enum_values v t n)) i;
    enum_name = λ n z. (ap (name_of_value z) (enum_values_read t n)
        ∙ name_of_value_read z (enum_values v t n)) i;
    entry = λ n. entry_type_read t n i;
  }

  -- ---- messages by their names, and which of them is that of any message

  called_read : (w : Text) → type_called R w ≡ type_called v w
  called_read w = ap (option_map (λ m. without_dot w)) (message_at_read v (without_dot w))
      ∙ map_mapped (λ m. without_dot w) read_facts (λ m. without_dot w) (λ m. refl)
      (message_at v (without_dot w))

  -- a field that is alone: of the scalar type, by the message that declares it
  abbrev lone : Option MessageFacts → ℤ → FieldContent → Bool
  lone m type f = is_number type (scalar_type f.field_type f.type_name)
      && (not (is_repeated f) && not (shares m f))

  lone_read : (t : Name) (n : ℕ) (type : ℤ) → is_lone R t n type ≡ is_lone v t n type
  lone_read t n type =
      (λ i. given false (lone (message_at_read v t i) type)
      (option_and_then (field_at R) (name_of_field_read v t n i)))
      ∙ ap (given false (lone (option_map read_facts (message_at v t)) type))
      (found_mapped (field_at R) read_field (field_at v) (field_at_read v) (name_of_field v t n))
      ∙ given_mapped false (lone (option_map read_facts (message_at v t)) type) read_field
      (lone (message_at v t) type)
      (λ f. ap (λ b. is_number type (scalar_type f.field_type f.type_name)
      && (not (is_repeated f) && not b)) (shares_read (message_at v t) f))
      (option_and_then (field_at v) (name_of_field v t n))

  any_read : (t : Name) → is_any R t ≡ is_any v t
  any_read t = λ i. bytes_eq t (codes "google.protobuf.Any")
      && (lone_read t 1 (pos 9) i && lone_read t 2 (pos 12) i)

  schema_read : (decoded : Name → List ℕ → Option Message)
      → schema_in R decoded ≡ schema_in v decoded
  schema_read decoded = λ i. record {
    types = types_read v i;
    names = λ t. names_read t i;
    message = λ w. called_read w i;
    is_any = λ t. any_read t i;
    decoded = decoded;
  }

-- ---- the law

pub names_alike : (a b : List FileContent) (decoded : Name → List ℕ → Option Message)
    → map read_file a ≡ map read_file b
    → schema_in (view_of a) decoded ≡ schema_in (view_of b) decoded
names_alike a b decoded e =
    of_views_alike (λ v. schema_in v decoded) (λ v. schema_read v decoded) a b e
