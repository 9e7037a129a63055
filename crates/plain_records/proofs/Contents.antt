-- Records are plain where what they hold is: what is said of a record, and of its content.
use Rattle.std.proofs.Common.{◌≡◌, ◌∙◌, ◌-◌, ℕ, zero, suc, List, [], ◌∷◌, map, Option, Some, None, ap, refl, sym, subst, arith}
use Rattle.std.specs.List.{AllByRecursion, AllZip}
use Rattle.std.specs.Option.{option_map}
use Rattle.descriptor_records.specs.Content.{enum_value_view, enum_view, extension_range_view, field_view, file_view, location_view, messages_of, message_view, method_view, oneof_view, option_view, options_view, service_view, source_info_view}
use Rattle.descriptor_records.specs.declared.enums.EnumDescriptorProto.{EnumDescriptorProto}
use Rattle.descriptor_records.specs.declared.enums.EnumReservedRange.{EnumReservedRange}
use Rattle.descriptor_records.specs.declared.enums.EnumValueDescriptorProto.{EnumValueDescriptorProto}
use Rattle.descriptor_records.specs.declared.field.FieldDescriptorProto.{FieldDescriptorProto}
use Rattle.descriptor_records.specs.declared.field.OneofDescriptorProto.{OneofDescriptorProto}
use Rattle.descriptor_records.specs.declared.file.FileDescriptorProto.{FileDescriptorProto}
use Rattle.descriptor_records.specs.declared.message.DescriptorProto.{DescriptorProto}
use Rattle.descriptor_records.specs.declared.message.DescriptorProto.TheOpen.{DescriptorProto-F}
use Rattle.descriptor_records.specs.declared.message.DescriptorProto.TheViews.{out-DescriptorProto}
use Rattle.descriptor_records.specs.declared.message.ExtensionRange.{ExtensionRange}
use Rattle.descriptor_records.specs.declared.message.ReservedRange.{ReservedRange}
use Rattle.descriptor_records.specs.declared.options.Options.{Options}
use Rattle.descriptor_records.specs.declared.service.MethodDescriptorProto.{MethodDescriptorProto}
use Rattle.descriptor_records.specs.declared.service.ServiceDescriptorProto.{ServiceDescriptorProto}
use Rattle.descriptor_records.specs.declared.source_info.Location.{Location}
use Rattle.descriptor_records.specs.declared.source_info.SourceCodeInfo.{SourceCodeInfo}
use Rattle.descriptor_records.proofs.Messages.{message_view-out}
use Rattle.reflect_codec.specs.Meaning.{IsUninterpretedOption, is_enum, is_field, is_message}
use Rattle.reflect_codec.specs.Reading.{ArePayloads, IsBool, IsLastIf, IsRecord, payload, values_at}
use Rattle.option_parts.specs.declared.option_scope.OptionScope.{OptionScope}
use Rattle.option_parts.specs.declared.option_scope.OptionScope.TheVariants as scopes
use Rattle.codec_laws.specs.Plain.{IfThere, IsInside}
use Rattle.codec_laws.specs.Plain as records
use Rattle.plain_records.specs.Kinds.{kind_of}
use Rattle.plain_records.specs.PlainRecords.{ArePlainLocations, ArePlainMessages, ArePlainOptions, HasPlainParts, IsPlainEnum, IsPlainEnumRange, IsPlainEnumValue, IsPlainExtensionRange, IsPlainField, IsPlainFile, IsPlainLocation, IsPlainMessage, IsPlainMethod, IsPlainOneof, IsPlainReservedRange, IsPlainService}
use Rattle.plain_records.specs.SaidOptions.{SaysAndIsSettled, SaysItsBytes}

-- ---- lists
each_to : {R C : Type 0} (view : R → C) (P : ℕ → R → Type 0) (Q : ℕ → C → Type 0) (levels : ℕ) → ((l : ℕ) (x : R) → P l x → Q l (view x)) → (xs : List R)
    → AllByRecursion (IsInside P levels) xs → AllByRecursion (IsInside Q levels) (map view xs)
each_to view P Q levels to [] all = tt
each_to view P Q levels to (x ∷ xs) all = ((all.0.0, to (levels - 1) x all.0.1), each_to view P Q levels to xs all.1)

each_from : {R C : Type 0} (view : R → C) (P : ℕ → R → Type 0) (Q : ℕ → C → Type 0) (levels : ℕ) → ((l : ℕ) (x : R) → Q l (view x) → P l x) → (xs : List R)
    → AllByRecursion (IsInside Q levels) (map view xs) → AllByRecursion (IsInside P levels) xs
each_from view P Q levels from [] all = tt
each_from view P Q levels from (x ∷ xs) all = ((all.0.0, from (levels - 1) x all.0.1), each_from view P Q levels from xs all.1)

-- of what is its own content
each_same : {R : Type 0} (P Q : ℕ → R → Type 0) (levels : ℕ) → ((l : ℕ) (x : R) → P l x → Q l x) → (xs : List R)
    → AllByRecursion (IsInside P levels) xs → AllByRecursion (IsInside Q levels) xs
each_same P Q levels to [] all = tt
each_same P Q levels to (x ∷ xs) all = ((all.0.0, to (levels - 1) x all.0.1), each_same P Q levels to xs all.1)

none_mapped : {A B : Type 0} (f : A → B) (xs : List A) → map f xs ≡ [] → xs ≡ []
none_mapped f [] e = refl
none_mapped f (x ∷ xs) e = absurd (cc e)

-- ---- from records to contents
options_to : (scope : OptionScope) (levels : ℕ) (o : Option Options) → records.ArePlainOptions (kind_of scope) levels o → ArePlainOptions SaysItsBytes scope levels (option_map options_view o)
options_to scope levels None plain = tt
options_to scope levels (Some o) plain = (plain.0, record { options = o; is = refl; fields = plain.1.0; spelled = plain.1.1; said = plain.1.2 })

field_to : (levels : ℕ) (f : FieldDescriptorProto) → records.IsPlainField levels f → IsPlainField SaysItsBytes levels (field_view f)
field_to levels f plain = record {
  number = plain.number;
  label = plain.label;
  field_type = plain.field_type;
  options = options_to scopes.Field levels f.options plain.options;
  oneof_index = plain.oneof_index;
}

oneof_to : (levels : ℕ) (o : OneofDescriptorProto) → records.IsPlainOneof levels o → IsPlainOneof SaysItsBytes levels (oneof_view o)
oneof_to levels o plain = options_to scopes.Oneof levels o.options plain.options

value_to : (levels : ℕ) (v : EnumValueDescriptorProto) → records.IsPlainEnumValue levels v → IsPlainEnumValue SaysItsBytes levels (enum_value_view v)
value_to levels v plain = record { number = plain.number; options = options_to scopes.EnumValue levels v.options plain.options }

enum_range_to : (levels : ℕ) (r : EnumReservedRange) → records.IsPlainEnumRange levels r → IsPlainEnumRange levels r
enum_range_to levels r plain = (plain.start, plain.end)

enum_to : (levels : ℕ) (e : EnumDescriptorProto) → records.IsPlainEnum levels e → IsPlainEnum SaysItsBytes levels (enum_view e)
enum_to levels e plain = record {
  value = each_to enum_value_view records.IsPlainEnumValue (IsPlainEnumValue SaysItsBytes) levels value_to e.value.items plain.value;
  options = options_to scopes.Enum levels e.options plain.options;
  reserved_range = each_same records.IsPlainEnumRange IsPlainEnumRange levels enum_range_to e.reserved_range.items plain.reserved_range;
}

method_to : (levels : ℕ) (m : MethodDescriptorProto) → records.IsPlainMethod levels m → IsPlainMethod SaysItsBytes levels (method_view m)
method_to levels m plain = options_to scopes.Method levels m.options plain.options

service_to : (levels : ℕ) (s : ServiceDescriptorProto) → records.IsPlainService levels s → IsPlainService SaysItsBytes levels (service_view s)
service_to levels s plain = record {
  method = each_to method_view records.IsPlainMethod (IsPlainMethod SaysItsBytes) levels method_to s.method.items plain.method;
  options = options_to scopes.Service levels s.options plain.options;
}

location_to : (levels : ℕ) (l : Location) → records.IsPlainLocation levels l → IsPlainLocation levels (location_view l)
location_to levels l plain = (plain.path, plain.span)

locations_to : (levels : ℕ) (i : Option SourceCodeInfo) → IfThere (IsInside records.IsPlainSourceInfo levels) i → IfThere (ArePlainLocations levels) (option_map source_info_view i)
locations_to levels None plain = tt
locations_to levels (Some i) plain = (plain.0, each_to location_view records.IsPlainLocation IsPlainLocation (levels - 1) location_to i.location.items plain.1.location)

extension_range_to : (levels : ℕ) (r : ExtensionRange) → records.IsPlainExtensionRange levels r → IsPlainExtensionRange SaysItsBytes levels (extension_range_view r)
extension_range_to levels r plain = record { start = plain.start; end = plain.end; options = options_to scopes.ExtensionRange levels r.options plain.options }

reserved_range_to : (levels : ℕ) (r : ReservedRange) → records.IsPlainReservedRange levels r → IsPlainReservedRange levels r
reserved_range_to levels r plain = (plain.start, plain.end)

one_less : (n : ℕ) → suc n - 1 ≡ n
one_less n = omega arith

messages_to : (levels : ℕ) → ((m : DescriptorProto) → records.IsPlainMessage levels m → IsPlainMessage SaysItsBytes levels (message_view m)) → (ms : List DescriptorProto)
    → AllByRecursion (records.IsPlainMessage levels) ms → ArePlainMessages SaysItsBytes levels (messages_of (map message_view ms))
messages_to levels to [] all = tt
messages_to levels to (m ∷ ms) all = (to m all.0, messages_to levels to ms all.1)

parts_to : (levels : ℕ) (m : DescriptorProto-F DescriptorProto) → records.IsPlainLevel (records.IsPlainMessage levels) levels m
    → HasPlainParts SaysItsBytes levels (map field_view m.field.items) (map field_view m.extension.items) (map enum_view m.enum_type.items)
    (map extension_range_view m.extension_range.items) (map oneof_view m.oneof_decl.items) (option_map options_view m.options) m.reserved_range.items
parts_to levels m plain = record {
  fields_are = each_to field_view records.IsPlainField (IsPlainField SaysItsBytes) levels field_to m.field.items plain.field;
  extensions_are = each_to field_view records.IsPlainField (IsPlainField SaysItsBytes) levels field_to m.extension.items plain.extension;
  enums_are = each_to enum_view records.IsPlainEnum (IsPlainEnum SaysItsBytes) levels enum_to m.enum_type.items plain.enum_type;
  ranges_are = each_to extension_range_view records.IsPlainExtensionRange (IsPlainExtensionRange SaysItsBytes) levels extension_range_to m.extension_range.items plain.extension_range;
  oneofs_are = each_to oneof_view records.IsPlainOneof (IsPlainOneof SaysItsBytes) levels oneof_to m.oneof_decl.items plain.oneof_decl;
  options_are = options_to scopes.Message levels m.options plain.options;
  reserved_are = each_same records.IsPlainReservedRange IsPlainReservedRange levels reserved_range_to m.reserved_range.items plain.reserved_range;
}

message_to : (levels : ℕ) (m : DescriptorProto) → records.IsPlainMessage levels m → IsPlainMessage SaysItsBytes levels (message_view m)
message_to zero m plain = absurd plain
message_to (suc levels) m plain =
    let x = out-DescriptorProto m in
    let less = sym (one_less levels) in
    let inner : ArePlainMessages SaysItsBytes levels (messages_of (map message_view x.nested_type.items)) = messages_to levels (message_to levels) x.nested_type.items plain.nested_type in
    subst (IsPlainMessage SaysItsBytes (suc levels)) (sym (message_view-out m)) (
      omega arith,
      subst (λ l. HasPlainParts SaysItsBytes l (map field_view x.field.items) (map field_view x.extension.items) (map enum_view x.enum_type.items)
          (map extension_range_view x.extension_range.items) (map oneof_view x.oneof_decl.items) (option_map options_view x.options) x.reserved_range.items) less (parts_to levels x plain),
      subst (λ l. ArePlainMessages SaysItsBytes l (messages_of (map message_view x.nested_type.items))) less inner,
    )

pub file_to : (levels : ℕ) (f : FileDescriptorProto) → records.IsPlainFile levels f → IsPlainFile SaysItsBytes levels (file_view f)
file_to levels f plain = record {
  message_type = messages_to levels (message_to levels) f.message_type.items plain.message_type;
  enum_type = each_to enum_view records.IsPlainEnum (IsPlainEnum SaysItsBytes) levels enum_to f.enum_type.items plain.enum_type;
  service = each_to service_view records.IsPlainService (IsPlainService SaysItsBytes) levels service_to f.service.items plain.service;
  extension = each_to field_view records.IsPlainField (IsPlainField SaysItsBytes) levels field_to f.extension.items plain.extension;
  options = options_to scopes.File levels f.options plain.options;
  source_code_info = locations_to levels f.source_code_info plain.source_code_info;
  public_dependency = plain.public_dependency;
  weak_dependency = plain.weak_dependency;
}

-- ---- from contents to records
options_from : (scope : OptionScope) (levels : ℕ) (o : Option Options) → ArePlainOptions SaysAndIsSettled scope levels (option_map options_view o) → records.ArePlainOptions (kind_of scope) levels o
options_from scope levels None plain = tt
options_from scope levels (Some o) plain =
    let says = plain.1.0 in
    let r = says.options in
    let fs = says.fields in
    let said = says.said in
    let none : r.uninterpreted_option.items ≡ [] = none_mapped option_view r.uninterpreted_option.items (ap (λ c. c.uninterpreted_option) says.is ∙ plain.1.1) in
    let own : o.uninterpreted_option.items ≡ [] = none_mapped option_view o.uninterpreted_option.items plain.1.1 in (
      plain.0,
      (
        fs,
        says.spelled,
        record {
          encoded = subst (ArePayloads (payload o.encoded.items ∷ [])) (ap (λ c. c.encoded) says.is) said.encoded;
          packed = subst (IsLastIf (is_field (kind_of scope)) IsBool (values_at 2 fs)) (ap (λ c. c.packed) says.is) said.packed;
          allow_alias = subst (IsLastIf (is_enum (kind_of scope)) IsBool (values_at 2 fs)) (ap (λ c. c.allow_alias) says.is) said.allow_alias;
          map_entry = subst (IsLastIf (is_message (kind_of scope)) IsBool (values_at 7 fs)) (ap (λ c. c.map_entry) says.is) said.map_entry;
          uninterpreted_option = subst (AllZip (IsRecord IsUninterpretedOption 100) (values_at 999 fs)) (none ∙ sym own) said.uninterpreted_option;
        },
      ),
    )

field_from : (levels : ℕ) (f : FieldDescriptorProto) → IsPlainField SaysAndIsSettled levels (field_view f) → records.IsPlainField levels f
field_from levels f plain = record {
  number = plain.number;
  label = plain.label;
  field_type = plain.field_type;
  options = options_from scopes.Field levels f.options plain.options;
  oneof_index = plain.oneof_index;
}

oneof_from : (levels : ℕ) (o : OneofDescriptorProto) → IsPlainOneof SaysAndIsSettled levels (oneof_view o) → records.IsPlainOneof levels o
oneof_from levels o plain = record { options = options_from scopes.Oneof levels o.options plain }

value_from : (levels : ℕ) (v : EnumValueDescriptorProto) → IsPlainEnumValue SaysAndIsSettled levels (enum_value_view v) → records.IsPlainEnumValue levels v
value_from levels v plain = record { number = plain.number; options = options_from scopes.EnumValue levels v.options plain.options }

enum_range_from : (levels : ℕ) (r : EnumReservedRange) → IsPlainEnumRange levels r → records.IsPlainEnumRange levels r
enum_range_from levels r plain = record { start = plain.0; end = plain.1 }

enum_from : (levels : ℕ) (e : EnumDescriptorProto) → IsPlainEnum SaysAndIsSettled levels (enum_view e) → records.IsPlainEnum levels e
enum_from levels e plain = record {
  value = each_from enum_value_view records.IsPlainEnumValue (IsPlainEnumValue SaysAndIsSettled) levels value_from e.value.items plain.value;
  options = options_from scopes.Enum levels e.options plain.options;
  reserved_range = each_same IsPlainEnumRange records.IsPlainEnumRange levels enum_range_from e.reserved_range.items plain.reserved_range;
}

method_from : (levels : ℕ) (m : MethodDescriptorProto) → IsPlainMethod SaysAndIsSettled levels (method_view m) → records.IsPlainMethod levels m
method_from levels m plain = record { options = options_from scopes.Method levels m.options plain }

service_from : (levels : ℕ) (s : ServiceDescriptorProto) → IsPlainService SaysAndIsSettled levels (service_view s) → records.IsPlainService levels s
service_from levels s plain = record {
  method = each_from method_view records.IsPlainMethod (IsPlainMethod SaysAndIsSettled) levels method_from s.method.items plain.method;
  options = options_from scopes.Service levels s.options plain.options;
}

location_from : (levels : ℕ) (l : Location) → IsPlainLocation levels (location_view l) → records.IsPlainLocation levels l
location_from levels l plain = record { path = plain.0; span = plain.1 }

locations_from : (levels : ℕ) (i : Option SourceCodeInfo) → IfThere (ArePlainLocations levels) (option_map source_info_view i) → IfThere (IsInside records.IsPlainSourceInfo levels) i
locations_from levels None plain = tt
locations_from levels (Some i) plain =
    (plain.0, record { location = each_from location_view records.IsPlainLocation IsPlainLocation (levels - 1) location_from i.location.items plain.1 })

extension_range_from : (levels : ℕ) (r : ExtensionRange) → IsPlainExtensionRange SaysAndIsSettled levels (extension_range_view r) → records.IsPlainExtensionRange levels r
extension_range_from levels r plain = record { start = plain.start; end = plain.end; options = options_from scopes.ExtensionRange levels r.options plain.options }

reserved_range_from : (levels : ℕ) (r : ReservedRange) → IsPlainReservedRange levels r → records.IsPlainReservedRange levels r
reserved_range_from levels r plain = record { start = plain.0; end = plain.1 }

messages_from : (levels : ℕ) → ((m : DescriptorProto) → IsPlainMessage SaysAndIsSettled levels (message_view m) → records.IsPlainMessage levels m) → (ms : List DescriptorProto)
    → ArePlainMessages SaysAndIsSettled levels (messages_of (map message_view ms)) → AllByRecursion (records.IsPlainMessage levels) ms
messages_from levels from [] all = tt
messages_from levels from (m ∷ ms) all = (from m all.0, messages_from levels from ms all.1)

message_from : (levels : ℕ) (m : DescriptorProto) → IsPlainMessage SaysAndIsSettled levels (message_view m) → records.IsPlainMessage levels m
message_from zero m plain = absurd (omega (arith, (subst (IsPlainMessage SaysAndIsSettled zero) (message_view-out m) plain).0))
message_from (suc levels) m plain =
    let x = out-DescriptorProto m in
    let here = subst (IsPlainMessage SaysAndIsSettled (suc levels)) (message_view-out m) plain in
    let parts = subst (λ l. HasPlainParts SaysAndIsSettled l (map field_view x.field.items) (map field_view x.extension.items) (map enum_view x.enum_type.items)
    (map extension_range_view x.extension_range.items) (map oneof_view x.oneof_decl.items) (option_map options_view x.options) x.reserved_range.items) (one_less levels) here.1 in
    let inner = subst (λ l. ArePlainMessages SaysAndIsSettled l (messages_of (map message_view x.nested_type.items))) (one_less levels) here.2 in
    record {
      field = each_from field_view records.IsPlainField (IsPlainField SaysAndIsSettled) levels field_from x.field.items parts.fields_are;
      nested_type = messages_from levels (message_from levels) x.nested_type.items inner;
      enum_type = each_from enum_view records.IsPlainEnum (IsPlainEnum SaysAndIsSettled) levels enum_from x.enum_type.items parts.enums_are;
      extension_range = each_from extension_range_view records.IsPlainExtensionRange (IsPlainExtensionRange SaysAndIsSettled) levels extension_range_from x.extension_range.items parts.ranges_are;
      extension = each_from field_view records.IsPlainField (IsPlainField SaysAndIsSettled) levels field_from x.extension.items parts.extensions_are;
      options = options_from scopes.Message levels x.options parts.options_are;
      oneof_decl = each_from oneof_view records.IsPlainOneof (IsPlainOneof SaysAndIsSettled) levels oneof_from x.oneof_decl.items parts.oneofs_are;
      reserved_range = each_same IsPlainReservedRange records.IsPlainReservedRange levels reserved_range_from x.reserved_range.items parts.reserved_are;
    }

pub file_from : (levels : ℕ) (f : FileDescriptorProto) → IsPlainFile SaysAndIsSettled levels (file_view f) → records.IsPlainFile levels f
file_from levels f plain = record {
  message_type = messages_from levels (message_from levels) f.message_type.items plain.message_type;
  enum_type = each_from enum_view records.IsPlainEnum (IsPlainEnum SaysAndIsSettled) levels enum_from f.enum_type.items plain.enum_type;
  service = each_from service_view records.IsPlainService (IsPlainService SaysAndIsSettled) levels service_from f.service.items plain.service;
  extension = each_from field_view records.IsPlainField (IsPlainField SaysAndIsSettled) levels field_from f.extension.items plain.extension;
  options = options_from scopes.File levels f.options plain.options;
  source_code_info = locations_from levels f.source_code_info plain.source_code_info;
  public_dependency = plain.public_dependency;
  weak_dependency = plain.weak_dependency;
}
