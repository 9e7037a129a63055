-- Records stay plain where the names that their references mean are written into them.
use Rattle.std.proofs.Common.{◌-◌, ℕ, ℤ, pos, List, [], ◌∷◌, map, Option, Some, None, arith}
use Rattle.std.proofs.lemmas.Int.{ints}
use Rattle.std.specs.List.{AllByRecursion}
use Rattle.descriptor_records.specs.Content.{Text, FieldContent, FileContent, MessageContent, message, MessageContents, more_messages, no_messages, messages_of, ServiceContent, OptionsContent}
use Rattle.plain_records.specs.PlainRecords.{FitsInt32, IfThere, IsInside, IsPlainField, IsPlainMethod, IsPlainService, IsPlainMessage, ArePlainMessages, IsPlainFile, ArePlainFiles}
use Rattle.option_parts.specs.declared.option_scope.OptionScope.{OptionScope}
use Rattle.reflect_index.specs.Rewriting.{Rewrites, write_name, filled, write_type, write_extension, write_each, write_message, write_messages, write_method, write_service, write_file, written}
use Rattle.reflect_names.specs.References.{Target}
use Rattle.reflect_names.specs.ReferenceSteps.{target_of}
use Rattle.reflect_names.specs.declared.resolve_visitor.Reference.{Reference}
use Rattle.reflect_scope.specs.declared.definition.DefinitionKind.{DefinitionKind}
use Rattle.reflect_scope.specs.declared.definition.DefinitionKind.TheVariants as kind

-- what holds of each item holds of each when it is written
all_written : {A : Type 0} (P : A → Type 0) (one : Rewrites A)
    → ((ts : List Target) (x : A) → P x → P (one ts x).0) → (ts : List Target) (xs : List A)
    → AllByRecursion P xs → AllByRecursion P (write_each one ts xs).0
all_written P one each ts [] h = tt
all_written P one each ts (x ∷ xs) h =
    (each ts x h.0, all_written P one each (one ts x).1 xs h.1)

-- the numbers of a type that is a message, and of one that is an enum
eleven_fits : FitsInt32 (pos 11)
eleven_fits = omega (arith, ints)

fourteen_fits : FitsInt32 (pos 14)
fourteen_fits = omega (arith, ints)

filled_fits : (o : Option ℤ) (k : DefinitionKind) → IfThere FitsInt32 o
    → IfThere FitsInt32 (filled o k)
filled_fits (Some n) k h = h
filled_fits None (kind.Enum i) h = fourteen_fits
filled_fits None k h = eleven_fits

module _ (Says : OptionScope → OptionsContent → Type 0) where
  -- whatever the field's type is called
  called_plain : (levels : ℕ) (o : Option Text) (ts : List Target) (f : FieldContent)
      → IsPlainField Says levels f
      → IsPlainField Says levels (write_type ts (record f { type_name = o })).0
  called_plain levels (Some name) (t ∷ ts) f h = record {
    number = h.number;
    label = h.label;
    field_type = filled_fits f.field_type t.1.kind h.field_type;
    options = h.options;
    oneof_index = h.oneof_index;
  }
  called_plain levels o ts f h = record {
    number = h.number;
    label = h.label;
    field_type = h.field_type;
    options = h.options;
    oneof_index = h.oneof_index;
  }

  field_plain : (levels : ℕ) (ts : List Target) (f : FieldContent) → IsPlainField Says levels f
      → IsPlainField Says levels (write_type ts f).0
  field_plain levels ts f h = called_plain levels f.type_name ts f h

  extension_plain : (levels : ℕ) (ts : List Target) (x : FieldContent)
      → IsPlainField Says levels x → IsPlainField Says levels (write_extension ts x).0
  extension_plain levels ts x h =
      let named = write_name ts x.extendee in
      field_plain levels named.1 (record x { extendee = named.0 }) (record {
        number = h.number;
        label = h.label;
        field_type = h.field_type;
        options = h.options;
        oneof_index = h.oneof_index;
      })

  fields_plain : (levels : ℕ) (ts : List Target) (fs : List FieldContent)
      → AllByRecursion (IsInside (IsPlainField Says) levels) fs
      → AllByRecursion (IsInside (IsPlainField Says) levels) (write_each write_type ts fs).0
  fields_plain levels = all_written (IsInside (IsPlainField Says) levels) write_type
      (λ ts f h. (h.0, field_plain (levels - 1) ts f h.1))

  extensions_plain : (levels : ℕ) (ts : List Target) (xs : List FieldContent)
      → AllByRecursion (IsInside (IsPlainField Says) levels) xs
      → AllByRecursion (IsInside (IsPlainField Says) levels) (write_each write_extension ts xs).0
  extensions_plain levels = all_written (IsInside (IsPlainField Says) levels) write_extension
      (λ ts x h. (h.0, extension_plain (levels - 1) ts x h.1))

  service_plain : (levels : ℕ) (ts : List Target) (s : ServiceContent)
      → IsPlainService Says levels s → IsPlainService Says levels (write_service ts s).0
  service_plain levels ts s h = record {
    method = all_written (IsInside (IsPlainMethod Says) levels) write_method (λ us m k. (k.0, k.1))
        ts s.method h.method;
    options = h.options;
  }

  services_plain : (levels : ℕ) (ts : List Target) (ss : List ServiceContent)
      → AllByRecursion (IsInside (IsPlainService Says) levels) ss
      → AllByRecursion (IsInside (IsPlainService Says) levels) (write_each write_service ts ss).0
  services_plain levels = all_written (IsInside (IsPlainService Says) levels) write_service
      (λ ts s h. (h.0, service_plain (levels - 1) ts s h.1))

  mutual
    message_plain : (m : MessageContent) (levels : ℕ) (ts : List Target)
        → IsPlainMessage Says levels m → IsPlainMessage Says levels (write_message ts m).0
    message_plain
        (message name fields extensions nested enums ranges oneofs options reserved names) levels
        ts h =
        let behind = (write_each write_type ts fields).1 in (
          h.0,
          record {
            fields_are = fields_plain (levels - 1) ts fields h.1.fields_are;
            extensions_are = extensions_plain (levels - 1) (write_messages behind nested).1
                extensions h.1.extensions_are;
            enums_are = h.1.enums_are;
            ranges_are = h.1.ranges_are;
            oneofs_are = h.1.oneofs_are;
            options_are = h.1.options_are;
            reserved_are = h.1.reserved_are;
          },
          messages_plain nested (levels - 1) behind h.2,
        )

    messages_plain : (ms : MessageContents) (levels : ℕ) (ts : List Target)
        → ArePlainMessages Says levels ms
        → ArePlainMessages Says levels (write_messages ts ms).0
    messages_plain no_messages levels ts h = tt
    messages_plain (more_messages m ms) levels ts h = (
      message_plain m levels ts h.0,
      messages_plain ms levels (write_message ts m).1 h.1,
    )

  -- the message types of a file
  types_plain : (levels : ℕ) (ts : List Target) (ms : List MessageContent)
      → ArePlainMessages Says levels (messages_of ms)
      → ArePlainMessages Says levels (messages_of (write_each write_message ts ms).0)
  types_plain levels ts [] h = tt
  types_plain levels ts (m ∷ ms) h =
      (message_plain m levels ts h.0, types_plain levels (write_message ts m).1 ms h.1)

  file_plain : (levels : ℕ) (ts : List Target) (f : FileContent) → IsPlainFile Says levels f
      → IsPlainFile Says levels (write_file ts f).0
  file_plain levels ts f h =
      let messages = write_each write_message ts f.message_type in
      let services = write_each write_service messages.1 f.service in record {
        message_type = types_plain levels ts f.message_type h.message_type;
        enum_type = h.enum_type;
        service = services_plain levels messages.1 f.service h.service;
        extension = extensions_plain levels services.1 f.extension h.extension;
        options = h.options;
        source_code_info = h.source_code_info;
        public_dependency = h.public_dependency;
        weak_dependency = h.weak_dependency;
      }

  pub written_plain : (rs : List Reference) (fs : List FileContent) → ArePlainFiles Says fs
      → ArePlainFiles Says (written rs fs)
  written_plain rs = all_written (IsPlainFile Says 99) write_file (file_plain 99) (map target_of rs)
