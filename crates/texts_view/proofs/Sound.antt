-- The rules that declarations meet ask no more of options than what linking reads: a declaration
-- meets them exactly if it does so without other options.
use Rattle.std.proofs.Common.{◌≡◌, ◌≤◌, ◌⊎◌, inl, inr, ℤ, List, [], ◌∷◌, map, Bool, true, cond, Option, Some, None, refl, sym, ap, ◌∙◌, subst, sum_by}
use Rattle.std.specs.List.{AllByRecursion}
use Rattle.std.specs.Option.{option_map}
use Rattle.descriptor_records.specs.Content.{OptionsContent, FieldContent, EnumValueContent, EnumContent, MethodContent, ExtensionRangeContent}
use Rattle.schema_view.specs.Declarations.{extension_range, MessageFacts, Body, of_message, of_field, of_oneof, of_enum, of_value, of_service, of_method, of_extension}
use Rattle.schema_view.specs.Rules.{is_number, IsIn, HasBounds, IsField, SaysEntry, IsMessage, AllowsAliases, HasFirst, HasValueNumber, IsEnum, IsMethod, IsSound}
use Rattle.schema_view.proofs.Lists.{contains_map, contains_map_cases, sum_map}
use Rattle.texts_view.specs.ReadOptions.{read_options, read_field, read_value, read_enum, read_method, read_range}
use Rattle.texts_view.proofs.Reading.{read_facts, read_body}

-- ---- options

abbrev entry_in : Option OptionsContent → Option Bool
entry_in None = None
entry_in (Some o) = o.map_entry

abbrev alias_in : Option OptionsContent → Option Bool
alias_in None = None
alias_in (Some o) = o.allow_alias

entry_kept : (o : Option OptionsContent) → entry_in (option_map read_options o) ≡ entry_in o
entry_kept None = refl
entry_kept (Some o) = refl

alias_kept : (o : Option OptionsContent) → alias_in (option_map read_options o) ≡ alias_in o
alias_kept None = refl
alias_kept (Some o) = refl

says_by : (o p : Option OptionsContent) → entry_in o ≡ entry_in p → SaysEntry o → SaysEntry p
says_by o None same (x, e, is) = let no : None ≡ Some true = sym same ∙ ap entry_in e ∙ is in absurd (cc)
says_by o (Some y) same (x, e, is) = (y, refl, sym same ∙ ap entry_in e ∙ is)

allows_by : (o p : Option OptionsContent) → alias_in o ≡ alias_in p → AllowsAliases o → AllowsAliases p
allows_by o None same (x, e, is) = let no : None ≡ Some true = sym same ∙ ap alias_in e ∙ is in absurd (cc)
allows_by o (Some y) same (x, e, is) = (y, refl, sym same ∙ ap alias_in e ∙ is)

-- options that say the same of map entries where linking reads them
pub says_alike : (o p : Option OptionsContent) → option_map read_options o ≡ option_map read_options p
    → SaysEntry o → SaysEntry p
says_alike o p e says = says_by o p (sym (entry_kept o) ∙ ap entry_in e ∙ entry_kept p) says

-- ---- messages

bounds_read : (rs : List ExtensionRangeContent)
    → AllByRecursion (λ r. HasBounds (extension_range r)) rs
    → AllByRecursion (λ r. HasBounds (extension_range r)) (map read_range rs)
bounds_read [] all = all
bounds_read (r ∷ rs) (here, rest) = (here, bounds_read rs rest)

bounds_held : (rs : List ExtensionRangeContent)
    → AllByRecursion (λ r. HasBounds (extension_range r)) (map read_range rs)
    → AllByRecursion (λ r. HasBounds (extension_range r)) rs
bounds_held [] all = all
bounds_held (r ∷ rs) (here, rest) = (here, bounds_held rs rest)

message_read : (m : MessageFacts) → IsMessage m → IsMessage (read_facts m)
message_read m is = record {
  name = is.name;
  apart = is.apart;
  unreserved = is.unreserved;
  no_extension = λ f n r i e j there.
      let q = contains_map_cases read_range m.extensions r j in
      is.no_extension f n q.0 i e q.1
      (subst (λ (x : ExtensionRangeContent). IsIn n (extension_range x)) (sym q.2) there);
  oneofs = is.oneofs;
  bounds = (bounds_read m.extensions is.bounds.0, is.bounds.1);
  entry = λ says. is.entry (says_by (option_map read_options m.options) m.options
      (entry_kept m.options) says);
}

message_held : (m : MessageFacts) → IsMessage (read_facts m) → IsMessage m
message_held m is = record {
  name = is.name;
  apart = is.apart;
  unreserved = is.unreserved;
  no_extension = λ f n r i e j there.
      is.no_extension f n (read_range r) i e (contains_map read_range m.extensions r j) there;
  oneofs = is.oneofs;
  bounds = (bounds_held m.extensions is.bounds.0, is.bounds.1);
  entry = λ says. is.entry (says_by m.options (option_map read_options m.options)
      (sym (entry_kept m.options)) says);
}

-- ---- enums

first_read : (proto3 : Bool) (vs : List EnumValueContent)
    → HasFirst proto3 vs → HasFirst proto3 (map read_value vs)
first_read proto3 [] is = is
first_read proto3 (v ∷ vs) is = is

first_held : (proto3 : Bool) (vs : List EnumValueContent)
    → HasFirst proto3 (map read_value vs) → HasFirst proto3 vs
first_held proto3 [] is = is
first_held proto3 (v ∷ vs) is = is

numbers_read : (vs : List EnumValueContent)
    → AllByRecursion (λ (v : EnumValueContent). HasValueNumber v.number) vs
    → AllByRecursion (λ (v : EnumValueContent). HasValueNumber v.number) (map read_value vs)
numbers_read [] all = all
numbers_read (v ∷ vs) (here, rest) = (here, numbers_read vs rest)

numbers_held : (vs : List EnumValueContent)
    → AllByRecursion (λ (v : EnumValueContent). HasValueNumber v.number) (map read_value vs)
    → AllByRecursion (λ (v : EnumValueContent). HasValueNumber v.number) vs
numbers_held [] all = all
numbers_held (v ∷ vs) (here, rest) = (here, numbers_held vs rest)

abbrev values_apart : List EnumValueContent → Type 0
values_apart vs = (n : ℤ) → sum_by (λ (v : EnumValueContent). cond (is_number n v.number) 1 0) vs ≤ 1

count_kept : (n : ℤ) (vs : List EnumValueContent)
    → sum_by (λ (v : EnumValueContent). cond (is_number n v.number) 1 0) (map read_value vs)
    ≡ sum_by (λ (v : EnumValueContent). cond (is_number n v.number) 1 0) vs
count_kept n vs = sum_map (λ (v : EnumValueContent). cond (is_number n v.number) 1 0) read_value vs

apart_read : (o : Option OptionsContent) (vs : List EnumValueContent)
    → AllowsAliases o ⊎ values_apart vs
    → AllowsAliases (option_map read_options o) ⊎ values_apart (map read_value vs)
apart_read o vs (inl allows) =
    inl (allows_by o (option_map read_options o) (sym (alias_kept o)) allows)
apart_read o vs (inr apart) = inr (λ n. subst (λ k. k ≤ 1) (sym (count_kept n vs)) (apart n))

apart_held : (o : Option OptionsContent) (vs : List EnumValueContent)
    → AllowsAliases (option_map read_options o) ⊎ values_apart (map read_value vs)
    → AllowsAliases o ⊎ values_apart vs
apart_held o vs (inl allows) = inl (allows_by (option_map read_options o) o (alias_kept o) allows)
apart_held o vs (inr apart) = inr (λ n. subst (λ k. k ≤ 1) (count_kept n vs) (apart n))

enum_read : (proto3 : Bool) (e : EnumContent) → IsEnum proto3 e → IsEnum proto3 (read_enum e)
enum_read proto3 e is = record {
  name = is.name;
  first = first_read proto3 e.value is.first;
  numbers = numbers_read e.value is.numbers;
  apart = apart_read e.options e.value is.apart;
  bounds = is.bounds;
}

enum_held : (proto3 : Bool) (e : EnumContent) → IsEnum proto3 (read_enum e) → IsEnum proto3 e
enum_held proto3 e is = record {
  name = is.name;
  first = first_held proto3 e.value is.first;
  numbers = numbers_held e.value is.numbers;
  apart = apart_held e.options e.value is.apart;
  bounds = is.bounds;
}

-- ---- fields and methods, of whose options no rule speaks

field_read : (f : FieldContent) → IsField f → IsField (read_field f)
field_read f is = record {
  name = is.name;
  number = is.number;
  label = is.label;
  type = is.type;
  default = is.default;
}

field_held : (f : FieldContent) → IsField (read_field f) → IsField f
field_held f is = record {
  name = is.name;
  number = is.number;
  label = is.label;
  type = is.type;
  default = is.default;
}

method_read : (m : MethodContent) → IsMethod m → IsMethod (read_method m)
method_read m is = record { name = is.name; input = is.input; output = is.output }

method_held : (m : MethodContent) → IsMethod (read_method m) → IsMethod m
method_held m is = record { name = is.name; input = is.input; output = is.output }

-- ---- whatever is declared

sound_read : (proto3 : Bool) (b : Body) → IsSound proto3 b → IsSound proto3 (read_body b)
sound_read proto3 (of_message m) is = message_read m is
sound_read proto3 (of_field f) is = field_read f is
sound_read proto3 (of_oneof o) is = is
sound_read proto3 (of_enum e) is = enum_read proto3 e is
sound_read proto3 (of_value v) is = is
sound_read proto3 (of_service s) is = is
sound_read proto3 (of_method m) is = method_read m is
sound_read proto3 (of_extension x) is = (field_read x is.0, is.1)

sound_held : (proto3 : Bool) (b : Body) → IsSound proto3 (read_body b) → IsSound proto3 b
sound_held proto3 (of_message m) is = message_held m is
sound_held proto3 (of_field f) is = field_held f is
sound_held proto3 (of_oneof o) is = is
sound_held proto3 (of_enum e) is = enum_held proto3 e is
sound_held proto3 (of_value v) is = is
sound_held proto3 (of_service s) is = is
sound_held proto3 (of_method m) is = method_held m is
sound_held proto3 (of_extension x) is = (field_held x is.0, is.1)

pub sound_alike : (proto3 : Bool) (b c : Body) → read_body b ≡ read_body c
    → IsSound proto3 b → IsSound proto3 c
sound_alike proto3 b c e is =
    sound_held proto3 c (subst (IsSound proto3) e (sound_read proto3 b is))
