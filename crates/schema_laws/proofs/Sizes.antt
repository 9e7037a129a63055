-- How much files declare is told by their contents.
use Rattle.std.proofs.Common.{◌≡◌, ◌∙◌, ◌+◌, ℕ, List, [], ◌∷◌, map, ap, refl, sym, subst, length}
use Rattle.std.proofs.lemmas.List.{length-map}
use Rattle.std.proofs.lemmas.List.Sums.{sum_by-cons}
use Rattle.std.specs.Prelude.{sum, sum_by}
use Rattle.descriptor_records.specs.Content.{EnumContent, FileContent, MessageContent, MessageContents, ServiceContent, enum_value_view, enum_view, field_view, file_view, message, message_view, messages_of, method_view, more_messages, no_messages, oneof_view, service_view}
use Rattle.descriptor_records.specs.declared.enums.EnumDescriptorProto.{EnumDescriptorProto}
use Rattle.descriptor_records.specs.declared.file.FileDescriptorProto.{FileDescriptorProto}
use Rattle.descriptor_records.specs.declared.message.DescriptorProto.{DescriptorProto}
use Rattle.descriptor_records.specs.declared.message.DescriptorProto.TheFolds.{fold-roll-DescriptorProto, ind-DescriptorProto}
use Rattle.descriptor_records.specs.declared.message.DescriptorProto.TheOpen.{DescriptorProto-F}
use Rattle.descriptor_records.specs.declared.service.ServiceDescriptorProto.{ServiceDescriptorProto}
use Rattle.descriptor_records.proofs.Messages.{level_view, message_view-roll}
use Rattle.reflect_build.specs.Many.{in_enum, in_file, in_message, in_service, message_step}

sum_seen : {X C : Type 0} (view : X → C) (f : X → ℕ) (g : C → ℕ) → ((x : X) → f x ≡ g (view x)) → (xs : List X) → sum_by f xs ≡ sum_by g (map view xs)
sum_seen view f g same [] = refl
sum_seen view f g same (x ∷ xs) =
    sum_by-cons f x xs ∙ (λ i. same x i + sum_seen view f g same xs i) ∙ sym (sum_by-cons g (view x) (map view xs))

abbrev enum_size : EnumContent → ℕ
enum_size e = 1 + length e.value

enum_sized : (e : EnumDescriptorProto) → in_enum e ≡ enum_size (enum_view e)
enum_sized e = ap (λ n. 1 + n) (sym (length-map e.value.items enum_value_view))

abbrev service_size : ServiceContent → ℕ
service_size s = 1 + length s.method

service_sized : (s : ServiceDescriptorProto) → in_service s ≡ service_size (service_view s)
service_sized s = ap (λ n. 1 + n) (sym (length-map s.method.items method_view))

-- ---- messages

abbrev mutual
  message_size : MessageContent → ℕ
  message_size (message name fields extensions nested enums ranges oneofs options reserved names) =
      1 + (length fields + (length extensions + (length oneofs + (sum_by enum_size enums + messages_size nested))))

  messages_size : MessageContents → ℕ
  messages_size no_messages = 0
  messages_size (more_messages m ms) = message_size m + messages_size ms

abbrev IsSized : DescriptorProto → Type 0
IsSized m = in_message m ≡ message_size (message_view m)

nested_sized : (ms : List ((m : DescriptorProto) × IsSized m))
    → sum (map in_message (map (λ e. e.0) ms)) ≡ messages_size (messages_of (map message_view (map (λ e. e.0) ms)))
nested_sized [] = refl
nested_sized (m ∷ ms) =
    sum_by-cons (λ n. n) (in_message m.0) (map in_message (map (λ e. e.0) ms)) ∙ (λ i. m.1 i + nested_sized ms i)

level_sized : (x : DescriptorProto-F DescriptorProto) → sum (map in_message x.nested_type.items) ≡ messages_size (messages_of (map message_view x.nested_type.items))
    → 1 + (length x.field.items + (length x.extension.items + (length x.oneof_decl.items + (sum_by in_enum x.enum_type.items + sum (map in_message x.nested_type.items)))))
    ≡ message_size (level_view x)
level_sized x nested =
    let fields = sym (length-map x.field.items field_view) in
    let extensions = sym (length-map x.extension.items field_view) in
    let oneofs = sym (length-map x.oneof_decl.items oneof_view) in
    let enums = sum_seen enum_view in_enum enum_size enum_sized x.enum_type.items in
    λ i. 1 + (fields i + (extensions i + (oneofs i + (enums i + nested i))))

message_sized : (m : DescriptorProto) → IsSized m
message_sized = ind-DescriptorProto IsSized (λ x y is.
    let nested = subst (λ z. sum (map in_message z.nested_type.items) ≡ messages_size (messages_of (map message_view z.nested_type.items))) is
    (nested_sized y.nested_type.items) in
    fold-roll-DescriptorProto ℕ message_step x ∙ level_sized x nested ∙ sym (ap message_size (message_view-roll x)))

-- ---- files

abbrev file_size : FileContent → ℕ
file_size f =
    1 + (sum_by message_size f.message_type + (sum_by enum_size f.enum_type + (length f.extension + sum_by service_size f.service)))

file_sized : (f : FileDescriptorProto) → in_file f ≡ file_size (file_view f)
file_sized f =
    let messages = sum_seen message_view in_message message_size message_sized f.message_type.items in
    let enums = sum_seen enum_view in_enum enum_size enum_sized f.enum_type.items in
    let extensions = sym (length-map f.extension.items field_view) in
    let services = sum_seen service_view in_service service_size service_sized f.service.items in
    λ i. 1 + (messages i + (enums i + (extensions i + services i)))

pub as_many : (fs gs : List FileDescriptorProto) → map file_view fs ≡ map file_view gs → sum_by in_file fs ≡ sum_by in_file gs
as_many fs gs same =
    sum_seen file_view in_file file_size file_sized fs ∙ ap (sum_by file_size) same ∙ sym (sum_seen file_view in_file file_size file_sized gs)
