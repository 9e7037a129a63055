-- What is known of a file from outside, and the names that it gives, are told by its content.
use Rattle.std.proofs.Common.{◌≡◌, ◌∙◌, ℕ, List, [], ◌∷◌, Option, Some, None, String, Global, map, cond, bytes_eq, codes, string_bytes, ap, sym, subst, refl}
use Rattle.descriptor_records.specs.Content.{EnumContent, ServiceContent, MessageContent, message, MessageContents, no_messages, more_messages, messages_of, FileContent, text_view, field_view, oneof_view, enum_value_view, enum_view, method_view, service_view, message_view, file_view}
use Rattle.descriptor_records.specs.declared.enums.EnumDescriptorProto.{EnumDescriptorProto}
use Rattle.descriptor_records.specs.declared.service.ServiceDescriptorProto.{ServiceDescriptorProto}
use Rattle.descriptor_records.specs.declared.file.FileDescriptorProto.{FileDescriptorProto}
use Rattle.descriptor_records.specs.declared.message.DescriptorProto.{DescriptorProto}
use Rattle.descriptor_records.specs.declared.message.DescriptorProto.TheOpen.{DescriptorProto-F}
use Rattle.descriptor_records.specs.declared.message.DescriptorProto.TheFolds.{ind-DescriptorProto}
use Rattle.descriptor_records.proofs.Messages.{level_view, message_view-roll}
use Rattle.reflect_known.specs.GivenNames.{EnumNames, ServiceNames, MessageNames, message_names, NestedNames, no_names, more_names, FileNames, field_name, oneof_name, value_name, enum_names, method_name, service_names, names_of_message, names_of_file}
use Rattle.reflect_known.proofs.MessageNames.{nested_of, each_named, level_names, names-roll}
use Rattle.reflect_tables.specs.Types.{FileType}
use Rattle.reflect_tables.specs.Views.{text_of, syntax_type, record_file}
use Rattle.reflect_tables.specs.declared.kind.Syntax.{Syntax}
use Rattle.reflect_tables.specs.declared.kind.Syntax.TheVariants.{Proto2, Proto3}

abbrev pub enum_told : EnumContent → EnumNames
enum_told e = record { name = e.name; values = map (λ v. v.name) e.value }

abbrev pub service_told : ServiceContent → ServiceNames
service_told s = record { name = s.name; methods = map (λ m. m.name) s.method }

abbrev mutual
  pub message_told : MessageContent → MessageNames
  message_told (message name fields extensions nested enums ranges oneofs options reserved names) =
      message_names name (map (λ f. f.name) fields) (messages_told nested) (map enum_told enums)
      (map (λ f. f.name) extensions) (map (λ x. x.name) oneofs)

  pub messages_told : MessageContents → NestedNames
  messages_told no_messages = no_names
  messages_told (more_messages m ms) = more_names (message_told m) (messages_told ms)

-- the names that a file gives
abbrev pub file_told : FileContent → FileNames
file_told f = record {
  package_name = f.package_name;
  messages = nested_of (map message_told f.message_type);
  enums = map enum_told f.enum_type;
  services = map service_told f.service;
  extensions = map (λ x. x.name) f.extension;
}

abbrev given : Option (List ℕ) → List ℕ
given None = []
given (Some t) = t

abbrev syntax_given : Option (List ℕ) → Syntax
syntax_given None = Proto2
syntax_given (Some t) = cond (bytes_eq t (codes "proto3")) Proto3 Proto2

-- what is known of a file from outside
abbrev pub header_told : FileContent → FileType
header_told f = record {
  name = given f.name;
  package_name = given f.package_name;
  syntax = syntax_given f.syntax_name;
  imports = f.dependency;
  public_imports = f.public_dependency;
}

-- a view that is seen through another one
pub through : {X A B : Type 0} (g : A → B) (f : X → A) (h : X → B) → ((x : X) → h x ≡ g (f x))
    → (xs : List X) → map h xs ≡ map g (map f xs)
through g f h same [] = refl
through g f h same (x ∷ xs) = λ i. same x i ∷ through g f h same xs i

enum_seen : (e : EnumDescriptorProto) → enum_names e ≡ enum_told (enum_view e)
enum_seen e =
    ap {B = EnumNames} (λ vs. record { name = text_view e.name; values = vs })
    (through (λ v. v.name) enum_value_view value_name (λ v. refl) e.value.items)

service_seen : (s : ServiceDescriptorProto) → service_names s ≡ service_told (service_view s)
service_seen s =
    ap {B = ServiceNames} (λ ms. record { name = text_view s.name; methods = ms })
    (through (λ m. m.name) method_view method_name (λ m. refl) s.method.items)

abbrev IsTold : DescriptorProto → Type 0
IsTold m = names_of_message m ≡ message_told (message_view m)

nested_seen : (ms : List ((m : DescriptorProto) × IsTold m))
    → nested_of (map names_of_message (map (λ e. e.0) ms))
    ≡ messages_told (messages_of (map message_view (map (λ e. e.0) ms)))
nested_seen [] = refl
nested_seen (m ∷ ms) = λ i. more_names (m.1 i) (nested_seen ms i)

level_seen : (x : DescriptorProto-F DescriptorProto)
    → nested_of (map names_of_message x.nested_type.items)
    ≡ messages_told (messages_of (map message_view x.nested_type.items))
    → level_names x ≡ message_told (level_view x)
level_seen x nested =
    let fs = through (λ f. f.name) field_view field_name (λ f. refl) x.field.items in
    let xs = through (λ f. f.name) field_view field_name (λ f. refl) x.extension.items in
    let es = through enum_told enum_view enum_names enum_seen x.enum_type.items in
    let os = through (λ o. o.name) oneof_view oneof_name (λ o. refl) x.oneof_decl.items in
    λ i. message_names (text_view x.name) (fs i) (nested i) (es i) (xs i) (os i)

pub message_seen : (m : DescriptorProto) → names_of_message m ≡ message_told (message_view m)
message_seen = ind-DescriptorProto IsTold (λ x y is.
    let nested = subst (λ z. nested_of (map names_of_message z.nested_type.items)
    ≡ messages_told (messages_of (map message_view z.nested_type.items))) is
    (nested_seen y.nested_type.items) in
    names-roll x ∙ level_seen x nested ∙ sym (ap message_told (message_view-roll x)))

pub file_seen : (f : FileDescriptorProto) → names_of_file f ≡ file_told (file_view f)
file_seen f =
    let ms = each_named f.message_type.items
    ∙ ap nested_of (through message_told message_view names_of_message message_seen f.message_type.items) in
    let es = through enum_told enum_view enum_names enum_seen f.enum_type.items in
    let ss = through service_told service_view service_names service_seen f.service.items in
    let xs = through (λ x. x.name) field_view field_name (λ x. refl) f.extension.items in
    λ i. record {
      package_name = text_view f.package;
      messages = ms i;
      enums = es i;
      services = ss i;
      extensions = xs i;
    }

text_seen : (t : Option (String Global)) → text_of t ≡ given (text_view t)
text_seen None = refl
text_seen (Some t) = refl

syntax_seen : (t : Option (String Global)) → syntax_type t ≡ syntax_given (text_view t)
syntax_seen None = refl
syntax_seen (Some t) = refl

pub header_seen : (f : FileDescriptorProto) → record_file f ≡ header_told (file_view f)
header_seen f =
    let name = text_seen f.name in
    let package_name = text_seen f.package in
    let syntax_name = syntax_seen f.syntax in
    λ i. record {
      name = name i;
      package_name = package_name i;
      syntax = syntax_name i;
      imports = map string_bytes f.dependency.items;
      public_imports = f.public_dependency.items;
    }
