-- What is said of options in plain records is said of all their options, and plain records in which
-- all are settled.
use Rattle.std.proofs.Common.{◌-◌, ◌+◌, ℕ, ℤ, pos, List, [], ◌∷◌, Option, Some, None, inl, inr}
use Rattle.std.specs.List.{AllByRecursion}
use Rattle.descriptor_records.specs.Content.{EnumContent, EnumValueContent, ExtensionRangeContent, FieldContent, FileContent, MessageContent, message, MessageContents, more_messages, no_messages, messages_of, MethodContent, OneofContent, OptionsContent, ServiceContent}
use Rattle.descriptor_records.specs.declared.message.ReservedRange.{ReservedRange}
use Rattle.option_parts.specs.declared.option_scope.OptionScope.{OptionScope}
use Rattle.option_parts.specs.declared.option_scope.OptionScope.TheVariants as scopes
use Rattle.plain_records.specs.PlainRecords.{ArePlainMessages, ArePlainOptions, HasPlainParts, IsInside, IsPlainEnum, IsPlainEnumValue, IsPlainExtensionRange, IsPlainField, IsPlainFile, IsPlainMessage, IsPlainMethod, IsPlainOneof, IsPlainService}
use Rattle.plain_records.specs.SaidOptions.{IsSettled, SaysAndIsSettled, SaysOrWaits}
use Rattle.settled_records.proofs.AllOptions.{InEnum, InField, InFile, InList, InMessage, InMessages, InMethod, InOneof, InOwn, InParts, InRange, InService, InValue, Said, listed, unlisted}

-- options at any path are settled
abbrev pub settled : Said
settled scope path o = IsSettled o

-- ---- what is said of options in plain records
abbrev pub said : (OptionScope → OptionsContent → Type 0) → Said
said Says scope path = Says scope

module _ (Says : OptionScope → OptionsContent → Type 0) where
  own_of : (scope : OptionScope) (l : ℕ) (x : Option OptionsContent) → ArePlainOptions Says scope l x → InOwn scope (said Says) x
  own_of scope l None plain = tt
  own_of scope l (Some o) plain = plain.1

  list_of : {A : Type 0} (P : ℕ → A → Type 0) (In : Said → A → Type 0) → ((l : ℕ) (x : A) → P l x → In (said Says) x) → (l : ℕ) (number : ℤ) (place : ℕ) (xs : List A)
      → AllByRecursion (IsInside P l) xs → InList In (said Says) number place xs
  list_of P In to l number place [] plain = tt
  list_of P In to l number place (x ∷ xs) plain = (to (l - 1) x plain.0.1, list_of P In to l number (place + 1) xs plain.1)

  field_of : (l : ℕ) (f : FieldContent) → IsPlainField Says l f → InField (said Says) f
  field_of l f plain = own_of scopes.Field l f.options plain.options

  oneof_of : (l : ℕ) (x : OneofContent) → IsPlainOneof Says l x → InOneof (said Says) x
  oneof_of l x plain = own_of scopes.Oneof l x.options plain

  range_of : (l : ℕ) (r : ExtensionRangeContent) → IsPlainExtensionRange Says l r → InRange (said Says) r
  range_of l r plain = own_of scopes.ExtensionRange l r.options plain.options

  value_of : (l : ℕ) (v : EnumValueContent) → IsPlainEnumValue Says l v → InValue (said Says) v
  value_of l v plain = own_of scopes.EnumValue l v.options plain.options

  method_of : (l : ℕ) (m : MethodContent) → IsPlainMethod Says l m → InMethod (said Says) m
  method_of l m plain = own_of scopes.Method l m.options plain

  enum_of : (l : ℕ) (e : EnumContent) → IsPlainEnum Says l e → InEnum (said Says) e
  enum_of l e plain = (own_of scopes.Enum l e.options plain.options, list_of (IsPlainEnumValue Says) InValue value_of l (pos 2) 0 e.value plain.value)

  service_of : (l : ℕ) (s : ServiceContent) → IsPlainService Says l s → InService (said Says) s
  service_of l s plain = (own_of scopes.Service l s.options plain.options, list_of (IsPlainMethod Says) InMethod method_of l (pos 2) 0 s.method plain.method)

  mutual
    message_of : (l : ℕ) (m : MessageContent) → IsPlainMessage Says l m → InMessage (said Says) m
    message_of l (message name fields extensions nested enums ranges oneofs options reserved names) plain =
        let parts = plain.1 in (
          record {
            field = list_of (IsPlainField Says) InField field_of (l - 1) (pos 2) 0 fields parts.fields_are;
            extension = list_of (IsPlainField Says) InField field_of (l - 1) (pos 6) 0 extensions parts.extensions_are;
            enum = list_of (IsPlainEnum Says) InEnum enum_of (l - 1) (pos 4) 0 enums parts.enums_are;
            range = list_of (IsPlainExtensionRange Says) InRange range_of (l - 1) (pos 5) 0 ranges parts.ranges_are;
            oneof = list_of (IsPlainOneof Says) InOneof oneof_of (l - 1) (pos 8) 0 oneofs parts.oneofs_are;
            own = own_of scopes.Message (l - 1) options parts.options_are;
          },
          messages_in_of (l - 1) (pos 3) 0 nested plain.2,
        )

    messages_in_of : (l : ℕ) (number : ℤ) (place : ℕ) (ms : MessageContents) → ArePlainMessages Says l ms → InMessages (said Says) number place ms
    messages_in_of l number place no_messages plain = tt
    messages_in_of l number place (more_messages m ms) plain = (message_of l m plain.0, messages_in_of l number (place + 1) ms plain.1)

  pub file_of : (l : ℕ) (f : FileContent) → IsPlainFile Says l f → InFile (said Says) f
  file_of l f plain = record {
    message_type = listed (said Says) (pos 4) 0 f.message_type (messages_in_of l (pos 4) 0 (messages_of f.message_type) plain.message_type);
    enum_type = list_of (IsPlainEnum Says) InEnum enum_of l (pos 5) 0 f.enum_type plain.enum_type;
    service = list_of (IsPlainService Says) InService service_of l (pos 6) 0 f.service plain.service;
    extension = list_of (IsPlainField Says) InField field_of l (pos 7) 0 f.extension plain.extension;
    own = own_of scopes.File l f.options plain.options;
  }

-- ---- to them, from plain records in which some may wait
own_to : (scope : OptionScope) (l : ℕ) (x : Option OptionsContent) → ArePlainOptions SaysOrWaits scope l x → InOwn scope settled x → ArePlainOptions SaysAndIsSettled scope l x
own_to scope l None plain all = tt
own_to scope l (Some o) plain all = (plain.0, elim plain.1 [ inl says ↦ (says, all) | inr waits ↦ absurd (waits all) ])

list_to : {A : Type 0} (P R : ℕ → A → Type 0) (In : Said → A → Type 0) → ((l : ℕ) (x : A) → P l x → In settled x → R l x) → (l : ℕ) (number : ℤ) (place : ℕ) (xs : List A)
    → AllByRecursion (IsInside P l) xs → InList In settled number place xs → AllByRecursion (IsInside R l) xs
list_to P R In to l number place [] plain all = tt
list_to P R In to l number place (x ∷ xs) plain all = ((plain.0.0, to (l - 1) x plain.0.1 all.0), list_to P R In to l number (place + 1) xs plain.1 all.1)

field_to : (l : ℕ) (f : FieldContent) → IsPlainField SaysOrWaits l f → InField settled f → IsPlainField SaysAndIsSettled l f
field_to l f plain all = record {
  number = plain.number;
  label = plain.label;
  field_type = plain.field_type;
  options = own_to scopes.Field l f.options plain.options all;
  oneof_index = plain.oneof_index;
}

oneof_to : (l : ℕ) (x : OneofContent) → IsPlainOneof SaysOrWaits l x → InOneof settled x → IsPlainOneof SaysAndIsSettled l x
oneof_to l x plain all = own_to scopes.Oneof l x.options plain all

range_to : (l : ℕ) (r : ExtensionRangeContent) → IsPlainExtensionRange SaysOrWaits l r → InRange settled r → IsPlainExtensionRange SaysAndIsSettled l r
range_to l r plain all = record { start = plain.start; end = plain.end; options = own_to scopes.ExtensionRange l r.options plain.options all }

value_to : (l : ℕ) (v : EnumValueContent) → IsPlainEnumValue SaysOrWaits l v → InValue settled v → IsPlainEnumValue SaysAndIsSettled l v
value_to l v plain all = record { number = plain.number; options = own_to scopes.EnumValue l v.options plain.options all }

method_to : (l : ℕ) (m : MethodContent) → IsPlainMethod SaysOrWaits l m → InMethod settled m → IsPlainMethod SaysAndIsSettled l m
method_to l m plain all = own_to scopes.Method l m.options plain all

enum_to : (l : ℕ) (e : EnumContent) → IsPlainEnum SaysOrWaits l e → InEnum settled e → IsPlainEnum SaysAndIsSettled l e
enum_to l e plain all = record {
  value = list_to (IsPlainEnumValue SaysOrWaits) (IsPlainEnumValue SaysAndIsSettled) InValue value_to l (pos 2) 0 e.value plain.value all.1;
  options = own_to scopes.Enum l e.options plain.options all.0;
  reserved_range = plain.reserved_range;
}

service_to : (l : ℕ) (s : ServiceContent) → IsPlainService SaysOrWaits l s → InService settled s → IsPlainService SaysAndIsSettled l s
service_to l s plain all = record {
  method = list_to (IsPlainMethod SaysOrWaits) (IsPlainMethod SaysAndIsSettled) InMethod method_to l (pos 2) 0 s.method plain.method all.1;
  options = own_to scopes.Service l s.options plain.options all.0;
}

parts_to : (l : ℕ) (fields extensions : List FieldContent) (enums : List EnumContent) (ranges : List ExtensionRangeContent) (oneofs : List OneofContent) (options : Option OptionsContent)
    (reserved : List ReservedRange) → HasPlainParts SaysOrWaits l fields extensions enums ranges oneofs options reserved → InParts settled fields extensions enums ranges oneofs options
    → HasPlainParts SaysAndIsSettled l fields extensions enums ranges oneofs options reserved
parts_to l fields extensions enums ranges oneofs options reserved plain all = record {
  fields_are = list_to (IsPlainField SaysOrWaits) (IsPlainField SaysAndIsSettled) InField field_to l (pos 2) 0 fields plain.fields_are all.field;
  extensions_are = list_to (IsPlainField SaysOrWaits) (IsPlainField SaysAndIsSettled) InField field_to l (pos 6) 0 extensions plain.extensions_are all.extension;
  enums_are = list_to (IsPlainEnum SaysOrWaits) (IsPlainEnum SaysAndIsSettled) InEnum enum_to l (pos 4) 0 enums plain.enums_are all.enum;
  ranges_are = list_to (IsPlainExtensionRange SaysOrWaits) (IsPlainExtensionRange SaysAndIsSettled) InRange range_to l (pos 5) 0 ranges plain.ranges_are all.range;
  oneofs_are = list_to (IsPlainOneof SaysOrWaits) (IsPlainOneof SaysAndIsSettled) InOneof oneof_to l (pos 8) 0 oneofs plain.oneofs_are all.oneof;
  options_are = own_to scopes.Message l options plain.options_are all.own;
  reserved_are = plain.reserved_are;
}

mutual
  message_to : (l : ℕ) (m : MessageContent) → IsPlainMessage SaysOrWaits l m → InMessage settled m → IsPlainMessage SaysAndIsSettled l m
  message_to l (message name fields extensions nested enums ranges oneofs options reserved names) plain all =
      (plain.0, parts_to (l - 1) fields extensions enums ranges oneofs options reserved plain.1 all.0, messages_to (l - 1) (pos 3) 0 nested plain.2 all.1)

  messages_to : (l : ℕ) (number : ℤ) (place : ℕ) (ms : MessageContents) → ArePlainMessages SaysOrWaits l ms → InMessages settled number place ms → ArePlainMessages SaysAndIsSettled l ms
  messages_to l number place no_messages plain all = tt
  messages_to l number place (more_messages m ms) plain all = (message_to l m plain.0 all.0, messages_to l number (place + 1) ms plain.1 all.1)

pub file_to : (l : ℕ) (f : FileContent) → IsPlainFile SaysOrWaits l f → InFile settled f → IsPlainFile SaysAndIsSettled l f
file_to l f plain all = record {
  message_type = messages_to l (pos 4) 0 (messages_of f.message_type) plain.message_type (unlisted settled (pos 4) 0 f.message_type all.message_type);
  enum_type = list_to (IsPlainEnum SaysOrWaits) (IsPlainEnum SaysAndIsSettled) InEnum enum_to l (pos 5) 0 f.enum_type plain.enum_type all.enum_type;
  service = list_to (IsPlainService SaysOrWaits) (IsPlainService SaysAndIsSettled) InService service_to l (pos 6) 0 f.service plain.service all.service;
  extension = list_to (IsPlainField SaysOrWaits) (IsPlainField SaysAndIsSettled) InField field_to l (pos 7) 0 f.extension plain.extension all.extension;
  options = own_to scopes.File l f.options plain.options all.own;
  source_code_info = plain.source_code_info;
  public_dependency = plain.public_dependency;
  weak_dependency = plain.weak_dependency;
}
