-- Where the bytes of a file's record are bytes, so are those that it stores of each of its options.
use Rattle.std.proofs.Common.{◌≡◌, ◌-◌, ℕ, zero, suc, List, [], ◌∷◌, map, Option, Some, None, sym, subst, arith}
use Rattle.std.specs.List.{concat}
use Rattle.std.specs.Option.{option_map}
use Rattle.descriptor_records.specs.Content.{OptionsContent, enum_value_view, enum_view, extension_range_view, field_view, file_view, messages_of, message_view, method_view, oneof_view, options_view, service_view}
use Rattle.descriptor_records.specs.declared.enums.EnumDescriptorProto.{EnumDescriptorProto}
use Rattle.descriptor_records.specs.declared.enums.EnumValueDescriptorProto.{EnumValueDescriptorProto}
use Rattle.descriptor_records.specs.declared.field.FieldDescriptorProto.{FieldDescriptorProto}
use Rattle.descriptor_records.specs.declared.field.OneofDescriptorProto.{OneofDescriptorProto}
use Rattle.descriptor_records.specs.declared.file.FileDescriptorProto.{FileDescriptorProto}
use Rattle.descriptor_records.specs.declared.message.DescriptorProto.{DescriptorProto}
use Rattle.descriptor_records.specs.declared.message.DescriptorProto.TheOpen.{DescriptorProto-F}
use Rattle.descriptor_records.specs.declared.message.DescriptorProto.TheViews.{out-DescriptorProto}
use Rattle.descriptor_records.specs.declared.message.ExtensionRange.{ExtensionRange}
use Rattle.descriptor_records.specs.declared.options.Options.{Options}
use Rattle.descriptor_records.specs.declared.service.MethodDescriptorProto.{MethodDescriptorProto}
use Rattle.descriptor_records.specs.declared.service.ServiceDescriptorProto.{ServiceDescriptorProto}
use Rattle.descriptor_records.proofs.Messages.{message_view-out}
use Rattle.reflect_codec.specs.Fields.{options_field, payload_field, records_field}
use Rattle.reflect_codec.specs.Written.{enum_bytes, enum_value_bytes, extension_range_bytes, field_bytes, file_bytes, message_bytes, method_bytes, oneof_bytes, service_bytes}
use Rattle.reflect_codec.proofs.Messages.{message_bytes-out}
use Rattle.reflect_wire.specs.Written.{AreBytes}
use Rattle.option_parts.specs.declared.option_scope.OptionScope.{OptionScope}
use Rattle.option_parts.specs.declared.option_scope.OptionScope.TheVariants as scopes
use Rattle.plain_records.specs.PlainRecords.{ArePlainFiles, ArePlainMessages, ArePlainOptions, HasPlainParts, IsPlainEnum, IsPlainEnumValue, IsPlainExtensionRange, IsPlainField, IsPlainFile, IsPlainMessage, IsPlainMethod, IsPlainOneof, IsPlainService}
use Rattle.schema_laws.specs.StoredBytes.{StoresBytes}
use Rattle.message_view.proofs.Plain.{back_bytes, front_bytes}
use Rattle.schema_laws.proofs.Pieces.{each_stored, enum_pieces, enum_value_pieces, extension_range_pieces, field_pieces, file_pieces, message_pieces, method_pieces, oneof_pieces, payload_held, piece_held, service_pieces}

one_less : (n : ℕ) → suc n - 1 ≡ n
one_less n = omega arith

-- what is said of one level of a message type
abbrev HasParts : (OptionScope → OptionsContent → Type 0) → ℕ → DescriptorProto-F DescriptorProto
    → Type 0
HasParts Says levels x = HasPlainParts Says levels (map field_view x.field.items)
    (map field_view x.extension.items) (map enum_view x.enum_type.items)
    (map extension_range_view x.extension_range.items) (map oneof_view x.oneof_decl.items)
    (option_map options_view x.options) x.reserved_range.items

-- whatever else is said of the options
module _ (Says : OptionScope → OptionsContent → Type 0) where
  options_stored : (scope : OptionScope) (n levels : ℕ) (o : Option Options)
      → ArePlainOptions Says scope levels (option_map options_view o)
      → AreBytes (options_field n o)
      → ArePlainOptions StoresBytes scope levels (option_map options_view o)
  options_stored scope n levels None plain all = tt
  options_stored scope n levels (Some o) plain all = (plain.0, payload_held n o.encoded.items all)

  field_stored : (levels : ℕ) (f : FieldDescriptorProto) → IsPlainField Says levels (field_view f)
      → AreBytes (field_bytes f) → IsPlainField StoresBytes levels (field_view f)
  field_stored levels f plain all =
      record {
        number = plain.number;
        label = plain.label;
        field_type = plain.field_type;
        options = options_stored scopes.Field 8 levels f.options plain.options
            (piece_held (field_pieces f) 7 all);
        oneof_index = plain.oneof_index;
      }

  oneof_stored : (levels : ℕ) (o : OneofDescriptorProto) → IsPlainOneof Says levels (oneof_view o)
      → AreBytes (oneof_bytes o) → IsPlainOneof StoresBytes levels (oneof_view o)
  oneof_stored levels o plain all = options_stored scopes.Oneof 2 levels o.options plain
      (piece_held (oneof_pieces o) 1 all)

  value_stored : (levels : ℕ) (v : EnumValueDescriptorProto)
      → IsPlainEnumValue Says levels (enum_value_view v) → AreBytes (enum_value_bytes v)
      → IsPlainEnumValue StoresBytes levels (enum_value_view v)
  value_stored levels v plain all = record {
    number = plain.number;
    options = options_stored scopes.EnumValue 3 levels v.options plain.options
        (piece_held (enum_value_pieces v) 2 all);
  }

  enum_stored : (levels : ℕ) (e : EnumDescriptorProto) → IsPlainEnum Says levels (enum_view e)
      → AreBytes (enum_bytes e) → IsPlainEnum StoresBytes levels (enum_view e)
  enum_stored levels e plain all = record {
    value = each_stored enum_value_view enum_value_bytes (IsPlainEnumValue Says)
        (IsPlainEnumValue StoresBytes) 2 levels value_stored e.value.items plain.value
        (piece_held (enum_pieces e) 1 all);
    options = options_stored scopes.Enum 3 levels e.options plain.options
        (piece_held (enum_pieces e) 2 all);
    reserved_range = plain.reserved_range;
  }

  method_stored : (levels : ℕ) (m : MethodDescriptorProto)
      → IsPlainMethod Says levels (method_view m) → AreBytes (method_bytes m)
      → IsPlainMethod StoresBytes levels (method_view m)
  method_stored levels m plain all = options_stored scopes.Method 4 levels m.options plain
      (piece_held (method_pieces m) 3 all)

  service_stored : (levels : ℕ) (s : ServiceDescriptorProto)
      → IsPlainService Says levels (service_view s) → AreBytes (service_bytes s)
      → IsPlainService StoresBytes levels (service_view s)
  service_stored levels s plain all = record {
    method = each_stored method_view method_bytes (IsPlainMethod Says) (IsPlainMethod StoresBytes)
        2 levels method_stored s.method.items plain.method
        (piece_held (service_pieces s) 1 all);
    options = options_stored scopes.Service 3 levels s.options plain.options
        (piece_held (service_pieces s) 2 all);
  }

  range_stored : (levels : ℕ) (r : ExtensionRange)
      → IsPlainExtensionRange Says levels (extension_range_view r)
      → AreBytes (extension_range_bytes r)
      → IsPlainExtensionRange StoresBytes levels (extension_range_view r)
  range_stored levels r plain all = record {
    start = plain.start;
    end = plain.end;
    options = options_stored scopes.ExtensionRange 3 levels r.options plain.options
        (piece_held (extension_range_pieces r) 2 all);
  }

  -- ---- message types

  messages_stored : (n levels : ℕ)
      → ((m : DescriptorProto) → IsPlainMessage Says levels (message_view m)
      → AreBytes (message_bytes m) → IsPlainMessage StoresBytes levels (message_view m))
      → (ms : List DescriptorProto)
      → ArePlainMessages Says levels (messages_of (map message_view ms))
      → AreBytes (records_field message_bytes n ms)
      → ArePlainMessages StoresBytes levels (messages_of (map message_view ms))
  messages_stored n levels give [] plain all = tt
  messages_stored n levels give (m ∷ ms) plain all = (
    give m plain.0 (payload_held n (message_bytes m)
        (front_bytes (payload_field n (message_bytes m)) (records_field message_bytes n ms) all)),
    messages_stored n levels give ms plain.1
        (back_bytes (payload_field n (message_bytes m)) (records_field message_bytes n ms) all),
  )

  parts_stored : (levels : ℕ) (x : DescriptorProto-F DescriptorProto)
      → HasParts Says levels x → AreBytes (concat (message_pieces x)) → HasParts StoresBytes levels x
  parts_stored levels x plain all =
      record {
        fields_are = each_stored field_view field_bytes (IsPlainField Says)
            (IsPlainField StoresBytes) 2 levels field_stored x.field.items plain.fields_are
            (piece_held (message_pieces x) 1 all);
        extensions_are = each_stored field_view field_bytes (IsPlainField Says)
            (IsPlainField StoresBytes) 6 levels field_stored x.extension.items plain.extensions_are
            (piece_held (message_pieces x) 5 all);
        enums_are = each_stored enum_view enum_bytes (IsPlainEnum Says) (IsPlainEnum StoresBytes)
            4 levels enum_stored x.enum_type.items plain.enums_are
            (piece_held (message_pieces x) 3 all);
        ranges_are = each_stored extension_range_view extension_range_bytes
            (IsPlainExtensionRange Says) (IsPlainExtensionRange StoresBytes) 5 levels range_stored
            x.extension_range.items plain.ranges_are
            (piece_held (message_pieces x) 4 all);
        oneofs_are = each_stored oneof_view oneof_bytes (IsPlainOneof Says)
            (IsPlainOneof StoresBytes) 8 levels oneof_stored x.oneof_decl.items plain.oneofs_are
            (piece_held (message_pieces x) 7 all);
        options_are = options_stored scopes.Message 7 levels x.options plain.options_are
            (piece_held (message_pieces x) 6 all);
        reserved_are = plain.reserved_are;
      }

  message_stored : (levels : ℕ) (m : DescriptorProto) → IsPlainMessage Says levels (message_view m)
      → AreBytes (message_bytes m) → IsPlainMessage StoresBytes levels (message_view m)
  message_stored zero m plain all =
      absurd (omega (arith, (subst (IsPlainMessage Says zero) (message_view-out m) plain).0))
  message_stored (suc levels) m plain all =
      let x = out-DescriptorProto m in
      let here = subst (IsPlainMessage Says (suc levels)) (message_view-out m) plain in
      let whole : AreBytes (concat (message_pieces x)) = subst AreBytes (message_bytes-out m) all in
      let give = subst (λ l. (n : DescriptorProto) → IsPlainMessage Says l (message_view n)
      → AreBytes (message_bytes n) → IsPlainMessage StoresBytes l (message_view n))
      (sym (one_less levels)) (message_stored levels) in
      subst (IsPlainMessage StoresBytes (suc levels)) (sym (message_view-out m)) (
        here.0,
        parts_stored (suc levels - 1) x here.1 whole,
        messages_stored 3 (suc levels - 1) give x.nested_type.items here.2
            (piece_held (message_pieces x) 2 whole),
      )

  -- ---- files

  pub file_stored : (f : FileDescriptorProto) → IsPlainFile Says 99 (file_view f)
      → AreBytes (file_bytes f) → IsPlainFile StoresBytes 99 (file_view f)
  file_stored f plain all =
      record {
        message_type = messages_stored 4 99 (message_stored 99) f.message_type.items
            plain.message_type
            (piece_held (file_pieces f) 3 all);
        enum_type = each_stored enum_view enum_bytes (IsPlainEnum Says) (IsPlainEnum StoresBytes)
            5 99 enum_stored f.enum_type.items plain.enum_type
            (piece_held (file_pieces f) 4 all);
        service = each_stored service_view service_bytes (IsPlainService Says)
            (IsPlainService StoresBytes) 6 99 service_stored f.service.items plain.service
            (piece_held (file_pieces f) 5 all);
        extension = each_stored field_view field_bytes (IsPlainField Says)
            (IsPlainField StoresBytes) 7 99 field_stored f.extension.items plain.extension
            (piece_held (file_pieces f) 6 all);
        options = options_stored scopes.File 8 99 f.options plain.options
            (piece_held (file_pieces f) 7 all);
        source_code_info = plain.source_code_info;
        public_dependency = plain.public_dependency;
        weak_dependency = plain.weak_dependency;
      }

  pub files_stored : (fs : List FileDescriptorProto) → ArePlainFiles Says (map file_view fs)
      → AreBytes (records_field file_bytes 1 fs) → ArePlainFiles StoresBytes (map file_view fs)
  files_stored [] plain all = tt
  files_stored (f ∷ fs) plain all = (
    file_stored f plain.0 (payload_held 1 (file_bytes f)
        (front_bytes (payload_field 1 (file_bytes f)) (records_field file_bytes 1 fs) all)),
    files_stored fs plain.1
        (back_bytes (payload_field 1 (file_bytes f)) (records_field file_bytes 1 fs) all),
  )
