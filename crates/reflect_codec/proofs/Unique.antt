-- Bytes mean one content at most.
use Rattle.std.proofs.Common.{◌≡◌, ℕ, zero, suc, ℤ, ◌-◌, Bool, List, [], ◌∷◌, ◌++◌, map, Option, Some, None, String, Vec, Global, refl, sym, ap, ◌∙◌, subst}
use Rattle.std.specs.Prelude.{string_bytes, option_map, unwrap_or}
use Rattle.std.specs.List.{AllZip}
use Rattle.descriptor_records.specs.Content.{text_view, name_view, double_view, option_view, options_view, field_view, oneof_view, enum_value_view, enum_view, method_view, service_view, location_view, source_info_view, extension_range_view, message_view, file_view, set_view}
use Rattle.descriptor_records.proofs.Messages.{level_view, message_view-out}
use Rattle.descriptor_records.specs.declared.message.DescriptorProto.TheOpen.{DescriptorProto-F}
use Rattle.descriptor_records.specs.declared.message.DescriptorProto.TheViews.{out-DescriptorProto}
use Rattle.descriptor_records.specs.declared.options.Options.{Options}
use Rattle.descriptor_records.specs.declared.options.DoubleValue.{DoubleValue}
use Rattle.descriptor_records.specs.declared.message.DescriptorProto.{DescriptorProto}
use Rattle.reflect_wire.specs.Varint.{IsVarint}
use Rattle.reflect_wire.proofs.Varints.{one_form}
use Rattle.reflect_codec.specs.declared.options.OptionsOf.{OptionsOf}
use Rattle.reflect_codec.specs.declared.options.OptionsOf.TheVariants as of
use Rattle.reflect_codec.specs.Reading.{Value, number, eight_bytes, payload, other, Field, values_at, IsText, IsPayload, IsNumber, IsInt32, IsInt64, IsBool, IsDouble, IsNumbers, SpellsNumbers, int32_of, IsRecord, IsLast, IsLastIf, last, joins, AreNumbers, ArePayloads, AlongOption, IsMerged}
use Rattle.reflect_codec.specs.Meaning.{text_or_empty, IsOptions, AreOptions, IsLevel, IsMessage, IsFileBytes, IsNamePart, IsUninterpretedOption, IsField, IsOneof, IsEnumValue, IsEnumRange, IsEnum, IsMethod, IsService, IsLocation, IsSourceInfo, IsExtensionRange, IsReservedRange, IsFile, IsSet}
use Rattle.reflect_codec.proofs.Parts.{one_payload, one_fields, one_each, one_joined, one_part}
use Rattle.descriptor_records.specs.declared.options.NamePart.{NamePart}
use Rattle.descriptor_records.specs.declared.options.UninterpretedOption.{UninterpretedOption}
use Rattle.descriptor_records.specs.declared.field.FieldDescriptorProto.{FieldDescriptorProto}
use Rattle.descriptor_records.specs.declared.field.OneofDescriptorProto.{OneofDescriptorProto}
use Rattle.descriptor_records.specs.declared.enums.EnumValueDescriptorProto.{EnumValueDescriptorProto}
use Rattle.descriptor_records.specs.declared.enums.EnumReservedRange.{EnumReservedRange}
use Rattle.descriptor_records.specs.declared.enums.EnumDescriptorProto.{EnumDescriptorProto}
use Rattle.descriptor_records.specs.declared.service.MethodDescriptorProto.{MethodDescriptorProto}
use Rattle.descriptor_records.specs.declared.service.ServiceDescriptorProto.{ServiceDescriptorProto}
use Rattle.descriptor_records.specs.declared.source_info.Location.{Location}
use Rattle.descriptor_records.specs.declared.source_info.SourceCodeInfo.{SourceCodeInfo}
use Rattle.descriptor_records.specs.declared.message.ExtensionRange.{ExtensionRange}
use Rattle.descriptor_records.specs.declared.message.ReservedRange.{ReservedRange}
use Rattle.descriptor_records.specs.declared.file.FileDescriptorProto.{FileDescriptorProto}
use Rattle.descriptor_records.specs.declared.file.FileDescriptorSet.{FileDescriptorSet}

each_told : {X C : Type 0} (view : X → C) (R : Value → X → Type 0) → ((v : Value) (x y : X) → R v x → R v y → view x ≡ view y) → (vs : List Value) (xs ys : List X) → AllZip R vs xs → AllZip R vs ys → map view xs ≡ map view ys
each_told view R one [] [] [] h k = refl
each_told view R one [] [] (y ∷ ys) h k = absurd k
each_told view R one [] (x ∷ xs) ys h k = absurd h
each_told view R one (v ∷ vs) [] ys h k = absurd h
each_told view R one (v ∷ vs) (x ∷ xs) [] h k = absurd k
each_told view R one (v ∷ vs) (x ∷ xs) (y ∷ ys) h k = let first = one v x y h.0 k.0 in let rest = each_told view R one vs xs ys h.1 k.1 in cc

last-map : {X C : Type 0} (view : X → C) (xs : List X) → option_map view (last xs) ≡ last (map view xs)
last-map view [] = refl
last-map view (x ∷ xs) = by (last xs) (last-map view xs) where
  by : (o : Option _) → option_map view o ≡ last (map view xs) → option_map view (elim o [ None ↦ Some x | Some y ↦ Some y ]) ≡ elim (last (map view xs)) [ None ↦ Some (view x) | Some y ↦ Some y ]
  by None e = rw (← e) refl
  by (Some y) e = rw (← e) refl

last_told : {X C : Type 0} (view : X → C) (R : Value → X → Type 0) → ((v : Value) (x y : X) → R v x → R v y → view x ≡ view y) → (vs : List Value) (o p : Option X) → IsLast R vs o → IsLast R vs p → option_map view o ≡ option_map view p
last_told view R one vs o p h k =
    ap (option_map view) h.2 ∙ last-map view h.0 ∙ ap last (each_told view R one vs h.0 k.0 h.1 k.1) ∙ sym (last-map view k.0) ∙ ap (option_map view) (sym k.2)

last_same : {X : Type 0} (R : Value → X → Type 0) → ((v : Value) (x y : X) → R v x → R v y → x ≡ y) → (vs : List Value) (o p : Option X) → IsLast R vs o → IsLast R vs p → o ≡ p
last_same R one vs o p h k = h.2 ∙ ap last (one_each R one vs h.0 k.0 h.1 k.1) ∙ sym k.2

text_told : (v : Value) (s t : String Global) → IsText v (string_bytes s) → IsText v (string_bytes t) → string_bytes s ≡ string_bytes t
text_told (payload p) s t h k = h.1 ∙ sym k.1
text_told (number n) s t h k = absurd h
text_told (eight_bytes n) s t h k = absurd h
text_told other s t h k = absurd h

one_text : (vs : List Value) (o p : Option (String Global)) → IsLast (λ v t. IsText v (string_bytes t)) vs o → IsLast (λ v t. IsText v (string_bytes t)) vs p → text_view o ≡ text_view p
one_text = last_told string_bytes (λ v t. IsText v (string_bytes t)) text_told

one_texts : (vs : List Value) (xs ys : List (String Global)) → AllZip (λ v t. IsText v (string_bytes t)) vs xs → AllZip (λ v t. IsText v (string_bytes t)) vs ys → map string_bytes xs ≡ map string_bytes ys
one_texts = each_told string_bytes (λ v t. IsText v (string_bytes t)) text_told

number_same : (v : Value) (m n : ℕ) → IsNumber v m → IsNumber v n → m ≡ n
number_same (number k) m n h e = h ∙ sym e
number_same (payload p) m n h e = absurd h
number_same (eight_bytes k) m n h e = absurd h
number_same other m n h e = absurd h

int32_same : (v : Value) (y z : ℤ) → IsInt32 v y → IsInt32 v z → y ≡ z
int32_same v y z h k = h.2 ∙ ap int32_of (number_same v h.0 k.0 h.1 k.1) ∙ sym k.2

one_int32 : (vs : List Value) (o p : Option ℤ) → IsLast IsInt32 vs o → IsLast IsInt32 vs p → o ≡ p
one_int32 = last_same IsInt32 int32_same

int64_same : (v : Value) (y z : ℤ) → IsInt64 v y → IsInt64 v z → y ≡ z
int64_same v y z h k = let e = number_same v h.0 k.0 h.1 k.1 in cc (h.2, k.2)

one_int64 : (vs : List Value) (o p : Option ℤ) → IsLast IsInt64 vs o → IsLast IsInt64 vs p → o ≡ p
one_int64 = last_same IsInt64 int64_same

one_number : (vs : List Value) (o p : Option ℕ) → IsLast IsNumber vs o → IsLast IsNumber vs p → o ≡ p
one_number = last_same IsNumber number_same

bool_same : (v : Value) (a b : Bool) → IsBool v a → IsBool v b → a ≡ b
bool_same v a b h k = let e = number_same v h.0 k.0 h.1 k.1 in cc (h.2, k.2)

one_bool : (vs : List Value) (o p : Option Bool) → IsLast IsBool vs o → IsLast IsBool vs p → o ≡ p
one_bool = last_same IsBool bool_same

bool_if : (wanted : Bool) (vs : List Value) (o p : Option Bool) → IsLastIf wanted IsBool vs o → IsLastIf wanted IsBool vs p → o ≡ p
bool_if Bool.true vs o p h k = one_bool vs o p h k
bool_if Bool.false vs o p h k = h ∙ sym k

double_same : (v : Value) (a b : DoubleValue) → IsDouble v a → IsDouble v b → a ≡ b
double_same (eight_bytes n) a b h k = h ∙ sym k
double_same (number n) a b h k = absurd h
double_same (payload p) a b h k = absurd h
double_same other a b h k = absurd h

one_double : (vs : List Value) (o p : Option DoubleValue) → IsLast IsDouble vs o → IsLast IsDouble vs p → option_map double_view o ≡ option_map double_view p
one_double vs o p h k = ap (option_map double_view) (last_same IsDouble double_same vs o p h k)

one_bytes : (vs : List Value) (o p : Option (Vec ℕ Global)) → IsLast (λ v b. IsPayload v b.items) vs o → IsLast (λ v b. IsPayload v b.items) vs p
    → option_map (λ (v : Vec ℕ Global). v.items) o ≡ option_map (λ (v : Vec ℕ Global). v.items) p
one_bytes = last_told (λ (v : Vec ℕ Global). v.items) (λ v b. IsPayload v b.items) (λ v a b. one_payload v a.items b.items)

one_spelled : (bytes : List ℕ) (ys zs : List ℤ) → SpellsNumbers bytes ys → SpellsNumbers bytes zs → ys ≡ zs
one_spelled bytes [] [] h k = refl
one_spelled bytes [] (z ∷ zs) h k = absurd (by k.1 k.0 k.3 (sym k.6 ∙ h)) where
  by : (rest f : List ℕ) → IsVarint f k.2 → f ++ rest ≡ [] → ⊥
  by rest [] v e = v.spelled
  by rest (b ∷ bs) v e = cc
one_spelled bytes (y ∷ ys) [] h k = absurd (by h.1 h.0 h.3 (sym h.6 ∙ k)) where
  by : (rest f : List ℕ) → IsVarint f h.2 → f ++ rest ≡ [] → ⊥
  by rest [] v e = v.spelled
  by rest (b ∷ bs) v e = cc
one_spelled bytes (y ∷ ys) (z ∷ zs) h k =
    let one = one_form h.0 k.0 h.1 k.1 _ _ h.3.spelled k.3.spelled (sym h.6 ∙ k.6) in
    let rest = one_spelled h.1 ys zs h.5 (subst (λ r. SpellsNumbers r zs) (sym one.2) k.5) in
    let first : y ≡ z = h.4 ∙ ap int32_of one.1 ∙ sym k.4 in cc

numbers_same : (v : Value) (ys zs : List ℤ) → IsNumbers v ys → IsNumbers v zs → ys ≡ zs
numbers_same (number n) ys zs h k = h ∙ sym k
numbers_same (payload p) ys zs h k = one_spelled p ys zs h k
numbers_same (eight_bytes n) ys zs h k = absurd h
numbers_same other ys zs h k = absurd h

one_numbers : (vs : List Value) (ys zs : List ℤ) → AreNumbers vs ys → AreNumbers vs zs → ys ≡ zs
one_numbers vs ys zs h k = h.2 ∙ ap joins (one_each IsNumbers numbers_same vs h.0 k.0 h.1 k.1) ∙ sym k.2

one_payloads : (vs : List Value) (a b : List ℕ) → ArePayloads vs a → ArePayloads vs b → a ≡ b
one_payloads vs a b h k = h.2 ∙ ap joins (one_each IsPayload one_payload vs h.0 k.0 h.1 k.1) ∙ sym k.2

one_required_text : (vs : List Value) (s t : String Global) → (o : Option (String Global)) × IsLast (λ v t. IsText v (string_bytes t)) vs o × (string_bytes s ≡ text_or_empty o)
    → (o : Option (String Global)) × IsLast (λ v t. IsText v (string_bytes t)) vs o × (string_bytes t ≡ text_or_empty o) → string_bytes s ≡ string_bytes t
one_required_text vs s t h k = h.2 ∙ by h.0 k.0 (one_text vs h.0 k.0 h.1 k.1) ∙ sym k.2 where
  by : (o p : Option (String Global)) → text_view o ≡ text_view p → text_or_empty o ≡ text_or_empty p
  by None None e = refl
  by None (Some t) e = absurd (cc)
  by (Some s) None e = absurd (cc)
  by (Some s) (Some t) e = cc

one_required_bool : (vs : List Value) (a b : Bool) → (o : Option Bool) × IsLast IsBool vs o × (a ≡ unwrap_or o Bool.false) → (o : Option Bool) × IsLast IsBool vs o × (b ≡ unwrap_or o Bool.false) → a ≡ b
one_required_bool vs a b h k = h.2 ∙ ap (λ o. unwrap_or o Bool.false) (one_bool vs h.0 k.0 h.1 k.1) ∙ sym k.2

record_told : {R C : Type 0} (view : R → C) (means : ℕ → List Field → R → Type 0) (levels : ℕ) → ((fs : List Field) (r s : R) → means (levels - 1) fs r → means (levels - 1) fs s → view r ≡ view s)
    → (v : Value) (r s : R) → IsRecord means levels v r → IsRecord means levels v s → view r ≡ view s
record_told view means levels one v r s h k = one h.0 r s h.2 (subst (λ fs. means (levels - 1) fs s) (one_part levels (levels - 1) v k.0 h.0 k.1 h.1) k.2)

records_told : {R C : Type 0} (view : R → C) (means : ℕ → List Field → R → Type 0) (levels : ℕ) → ((fs : List Field) (r s : R) → means (levels - 1) fs r → means (levels - 1) fs s → view r ≡ view s)
    → (vs : List Value) (rs ss : List R) → AllZip (IsRecord means levels) vs rs → AllZip (IsRecord means levels) vs ss → map view rs ≡ map view ss
records_told view means levels one = each_told view (IsRecord means levels) (record_told view means levels one)

records_same : {R : Type 0} (means : ℕ → List Field → R → Type 0) (levels : ℕ) → ((fs : List Field) (r s : R) → means (levels - 1) fs r → means (levels - 1) fs s → r ≡ s)
    → (vs : List Value) (rs ss : List R) → AllZip (IsRecord means levels) vs rs → AllZip (IsRecord means levels) vs ss → rs ≡ ss
records_same means levels one = one_each (IsRecord means levels) (record_told (λ r. r) means levels one)

along_told : {X C : Type 0} (view : X → C) (M : List Field → X → Type 0) → ((fs : List Field) (x y : X) → M fs x → M fs y → view x ≡ view y) → (fs : Option (List Field)) (o p : Option X) → AlongOption M fs o → AlongOption M fs p
    → option_map view o ≡ option_map view p
along_told view M one None None None h k = refl
along_told view M one (Some fs) (Some x) (Some y) h k = ap Some (one fs x y h k)
along_told view M one None (Some x) p h k = absurd h
along_told view M one None None (Some y) h k = absurd k
along_told view M one (Some fs) None p h k = absurd h
along_told view M one (Some fs) (Some x) None h k = absurd k

merged_told : {R C : Type 0} (view : R → C) (means : ℕ → List Field → R → Type 0) (levels : ℕ) → ((fs : List Field) (r s : R) → means (levels - 1) fs r → means (levels - 1) fs s → view r ≡ view s)
    → (vs : List Value) (o p : Option R) → IsMerged means levels vs o → IsMerged means levels vs p → option_map view o ≡ option_map view p
merged_told view means levels one vs o p h k =
    along_told view (means (levels - 1)) one h.0 o p h.2 (subst (λ fs. AlongOption (means (levels - 1)) fs p) (one_joined levels (levels - 1) vs k.0 h.0 k.1 h.1) k.2)

one_name_part : (levels : ℕ) (fs : List Field) (r s : NamePart) → IsNamePart levels fs r → IsNamePart levels fs s → name_view r ≡ name_view s
one_name_part levels fs r s h k = simp (
  one_required_text (values_at 1 fs) r.name_part s.name_part h.name_part k.name_part,
  one_required_bool (values_at 2 fs) r.is_extension s.is_extension h.is_extension k.is_extension,
)

one_uninterpreted_option : (levels : ℕ) (fs : List Field) (r s : UninterpretedOption) → IsUninterpretedOption levels fs r → IsUninterpretedOption levels fs s → option_view r ≡ option_view s
one_uninterpreted_option levels fs r s h k = simp (
  records_told name_view IsNamePart levels (one_name_part (levels - 1)) (values_at 2 fs) r.name.items s.name.items h.name k.name,
  one_text (values_at 3 fs) r.identifier_value s.identifier_value h.identifier_value k.identifier_value,
  one_number (values_at 4 fs) r.positive_int_value s.positive_int_value h.positive_int_value k.positive_int_value,
  one_int64 (values_at 5 fs) r.negative_int_value s.negative_int_value h.negative_int_value k.negative_int_value,
  one_double (values_at 6 fs) r.double_value s.double_value h.double_value k.double_value,
  one_bytes (values_at 7 fs) r.string_value s.string_value h.string_value k.string_value,
  one_text (values_at 8 fs) r.aggregate_value s.aggregate_value h.aggregate_value k.aggregate_value,
)

options_told : (kind : OptionsOf) (vs : List Value) (fs : List Field) (r s : Options) → IsOptions kind vs fs r → IsOptions kind vs fs s → options_view r ≡ options_view s
options_told kind vs fs r s h k = simp (
  one_payloads vs r.encoded.items s.encoded.items h.encoded k.encoded,
  bool_if _ (values_at 2 fs) r.packed s.packed h.packed k.packed,
  bool_if _ (values_at 2 fs) r.allow_alias s.allow_alias h.allow_alias k.allow_alias,
  bool_if _ (values_at 7 fs) r.map_entry s.map_entry h.map_entry k.map_entry,
  records_told option_view IsUninterpretedOption 100 (one_uninterpreted_option 99) (values_at 999 fs) r.uninterpreted_option.items s.uninterpreted_option.items h.uninterpreted_option k.uninterpreted_option,
)

one_options : (kind : OptionsOf) (levels : ℕ) (vs : List Value) (o p : Option Options) → AreOptions kind levels vs o → AreOptions kind levels vs p → option_map options_view o ≡ option_map options_view p
one_options kind levels vs o p h k =
    along_told options_view (IsOptions kind vs) (options_told kind vs) h.0 o p h.2 (subst (λ fs. AlongOption (IsOptions kind vs) fs p) (one_joined levels 100 vs k.0 h.0 k.1 h.1) k.2)

one_field : (levels : ℕ) (fs : List Field) (r s : FieldDescriptorProto) → IsField levels fs r → IsField levels fs s → field_view r ≡ field_view s
one_field levels fs r s h k = simp (
  one_text (values_at 1 fs) r.name s.name h.name k.name,
  one_text (values_at 2 fs) r.extendee s.extendee h.extendee k.extendee,
  one_int32 (values_at 3 fs) r.number s.number h.number k.number,
  one_int32 (values_at 4 fs) r.label s.label h.label k.label,
  one_int32 (values_at 5 fs) r.field_type s.field_type h.field_type k.field_type,
  one_text (values_at 6 fs) r.type_name s.type_name h.type_name k.type_name,
  one_text (values_at 7 fs) r.default_value s.default_value h.default_value k.default_value,
  one_options of.Field levels (values_at 8 fs) r.options s.options h.options k.options,
  one_int32 (values_at 9 fs) r.oneof_index s.oneof_index h.oneof_index k.oneof_index,
  one_text (values_at 10 fs) r.json_name s.json_name h.json_name k.json_name,
  one_bool (values_at 17 fs) r.proto3_optional s.proto3_optional h.proto3_optional k.proto3_optional,
)

one_oneof : (levels : ℕ) (fs : List Field) (r s : OneofDescriptorProto) → IsOneof levels fs r → IsOneof levels fs s → oneof_view r ≡ oneof_view s
one_oneof levels fs r s h k = simp (
  one_text (values_at 1 fs) r.name s.name h.name k.name,
  one_options of.Other levels (values_at 2 fs) r.options s.options h.options k.options,
)

one_enum_value : (levels : ℕ) (fs : List Field) (r s : EnumValueDescriptorProto) → IsEnumValue levels fs r → IsEnumValue levels fs s → enum_value_view r ≡ enum_value_view s
one_enum_value levels fs r s h k = simp (
  one_text (values_at 1 fs) r.name s.name h.name k.name,
  one_int32 (values_at 2 fs) r.number s.number h.number k.number,
  one_options of.Other levels (values_at 3 fs) r.options s.options h.options k.options,
)

one_enum_range : (levels : ℕ) (fs : List Field) (r s : EnumReservedRange) → IsEnumRange levels fs r → IsEnumRange levels fs s → r ≡ s
one_enum_range levels fs r s h k =
    let at : Option ℤ → Option ℤ → EnumReservedRange = λ a b. record { start = a; end = b } in
    ap (λ a. at a r.end) (one_int32 (values_at 1 fs) r.start s.start h.start k.start) ∙ ap (λ b. at s.start b) (one_int32 (values_at 2 fs) r.end s.end h.end k.end)

one_enum : (levels : ℕ) (fs : List Field) (r s : EnumDescriptorProto) → IsEnum levels fs r → IsEnum levels fs s → enum_view r ≡ enum_view s
one_enum levels fs r s h k = simp (
  one_text (values_at 1 fs) r.name s.name h.name k.name,
  records_told enum_value_view IsEnumValue levels (one_enum_value (levels - 1)) (values_at 2 fs) r.value.items s.value.items h.value k.value,
  one_options of.Enum levels (values_at 3 fs) r.options s.options h.options k.options,
  records_same IsEnumRange levels (one_enum_range (levels - 1)) (values_at 4 fs) r.reserved_range.items s.reserved_range.items h.reserved_range k.reserved_range,
  one_texts (values_at 5 fs) r.reserved_name.items s.reserved_name.items h.reserved_name k.reserved_name,
)

one_method : (levels : ℕ) (fs : List Field) (r s : MethodDescriptorProto) → IsMethod levels fs r → IsMethod levels fs s → method_view r ≡ method_view s
one_method levels fs r s h k = simp (
  one_text (values_at 1 fs) r.name s.name h.name k.name,
  one_text (values_at 2 fs) r.input_type s.input_type h.input_type k.input_type,
  one_text (values_at 3 fs) r.output_type s.output_type h.output_type k.output_type,
  one_options of.Other levels (values_at 4 fs) r.options s.options h.options k.options,
  one_bool (values_at 5 fs) r.client_streaming s.client_streaming h.client_streaming k.client_streaming,
  one_bool (values_at 6 fs) r.server_streaming s.server_streaming h.server_streaming k.server_streaming,
)

one_service : (levels : ℕ) (fs : List Field) (r s : ServiceDescriptorProto) → IsService levels fs r → IsService levels fs s → service_view r ≡ service_view s
one_service levels fs r s h k = simp (
  one_text (values_at 1 fs) r.name s.name h.name k.name,
  records_told method_view IsMethod levels (one_method (levels - 1)) (values_at 2 fs) r.method.items s.method.items h.method k.method,
  one_options of.Other levels (values_at 3 fs) r.options s.options h.options k.options,
)

one_location : (levels : ℕ) (fs : List Field) (r s : Location) → IsLocation levels fs r → IsLocation levels fs s → location_view r ≡ location_view s
one_location levels fs r s h k = simp (
  one_numbers (values_at 1 fs) r.path.items s.path.items h.path k.path,
  one_numbers (values_at 2 fs) r.span.items s.span.items h.span k.span,
  one_text (values_at 3 fs) r.leading_comments s.leading_comments h.leading_comments k.leading_comments,
  one_text (values_at 4 fs) r.trailing_comments s.trailing_comments h.trailing_comments k.trailing_comments,
  one_texts (values_at 6 fs) r.leading_detached_comments.items s.leading_detached_comments.items h.leading_detached_comments k.leading_detached_comments,
)

one_source_info : (levels : ℕ) (fs : List Field) (r s : SourceCodeInfo) → IsSourceInfo levels fs r → IsSourceInfo levels fs s → source_info_view r ≡ source_info_view s
one_source_info levels fs r s h k = simp (
    records_told location_view IsLocation levels (one_location (levels - 1)) (values_at 1 fs) r.location.items s.location.items h.location k.location)

one_extension_range : (levels : ℕ) (fs : List Field) (r s : ExtensionRange) → IsExtensionRange levels fs r → IsExtensionRange levels fs s → extension_range_view r ≡ extension_range_view s
one_extension_range levels fs r s h k = simp (
  one_int32 (values_at 1 fs) r.start s.start h.start k.start,
  one_int32 (values_at 2 fs) r.end s.end h.end k.end,
  one_options of.Other levels (values_at 3 fs) r.options s.options h.options k.options,
)

one_reserved_range : (levels : ℕ) (fs : List Field) (r s : ReservedRange) → IsReservedRange levels fs r → IsReservedRange levels fs s → r ≡ s
one_reserved_range levels fs r s h k =
    let at : Option ℤ → Option ℤ → ReservedRange = λ a b. record { start = a; end = b } in
    ap (λ a. at a r.end) (one_int32 (values_at 1 fs) r.start s.start h.start k.start) ∙ ap (λ b. at s.start b) (one_int32 (values_at 2 fs) r.end s.end h.end k.end)

level_told : (inner : Value → DescriptorProto → Type 0) → ((v : Value) (x y : DescriptorProto) → inner v x → inner v y → message_view x ≡ message_view y) → (levels : ℕ) (fs : List Field) (r s : DescriptorProto-F DescriptorProto)
    → IsLevel inner levels fs r → IsLevel inner levels fs s → level_view r ≡ level_view s
level_told inner one levels fs r s h k = simp (
  one_text (values_at 1 fs) r.name s.name h.name k.name,
  records_told field_view IsField levels (one_field (levels - 1)) (values_at 2 fs) r.field.items s.field.items h.field k.field,
  each_told message_view inner one (values_at 3 fs) r.nested_type.items s.nested_type.items h.nested_type k.nested_type,
  records_told enum_view IsEnum levels (one_enum (levels - 1)) (values_at 4 fs) r.enum_type.items s.enum_type.items h.enum_type k.enum_type,
  records_told extension_range_view IsExtensionRange levels (one_extension_range (levels - 1)) (values_at 5 fs) r.extension_range.items s.extension_range.items h.extension_range k.extension_range,
  records_told field_view IsField levels (one_field (levels - 1)) (values_at 6 fs) r.extension.items s.extension.items h.extension k.extension,
  one_options of.Message levels (values_at 7 fs) r.options s.options h.options k.options,
  records_told oneof_view IsOneof levels (one_oneof (levels - 1)) (values_at 8 fs) r.oneof_decl.items s.oneof_decl.items h.oneof_decl k.oneof_decl,
  records_same IsReservedRange levels (one_reserved_range (levels - 1)) (values_at 9 fs) r.reserved_range.items s.reserved_range.items h.reserved_range k.reserved_range,
  one_texts (values_at 10 fs) r.reserved_name.items s.reserved_name.items h.reserved_name k.reserved_name,
)

one_message : (levels : ℕ) (v : Value) (x y : DescriptorProto) → IsMessage levels v x → IsMessage levels v y → message_view x ≡ message_view y
one_message zero v x y h k = absurd h
one_message (suc levels) v x y h k =
    let same = one_part (suc levels) levels v k.0 h.0 k.1 h.1 in
    message_view-out x ∙ level_told (IsMessage levels) (one_message levels) levels h.0 (out-DescriptorProto x) (out-DescriptorProto y) h.2 (subst (λ fs. IsLevel (IsMessage levels) levels fs (out-DescriptorProto y)) same k.2)
    ∙ sym (message_view-out y)

pub one_file : (levels : ℕ) (fs : List Field) (r s : FileDescriptorProto) → IsFile levels fs r → IsFile levels fs s → file_view r ≡ file_view s
one_file levels fs r s h k = simp (
  one_text (values_at 1 fs) r.name s.name h.name k.name,
  one_text (values_at 2 fs) r.package s.package h.package_name k.package_name,
  one_texts (values_at 3 fs) r.dependency.items s.dependency.items h.dependency k.dependency,
  each_told message_view (IsMessage levels) (one_message levels) (values_at 4 fs) r.message_type.items s.message_type.items h.message_type k.message_type,
  records_told enum_view IsEnum levels (one_enum (levels - 1)) (values_at 5 fs) r.enum_type.items s.enum_type.items h.enum_type k.enum_type,
  records_told service_view IsService levels (one_service (levels - 1)) (values_at 6 fs) r.service.items s.service.items h.service k.service,
  records_told field_view IsField levels (one_field (levels - 1)) (values_at 7 fs) r.extension.items s.extension.items h.extension k.extension,
  one_options of.Other levels (values_at 8 fs) r.options s.options h.options k.options,
  merged_told source_info_view IsSourceInfo levels (one_source_info (levels - 1)) (values_at 9 fs) r.source_code_info s.source_code_info h.source_code_info k.source_code_info,
  one_numbers (values_at 10 fs) r.public_dependency.items s.public_dependency.items h.public_dependency k.public_dependency,
  one_numbers (values_at 11 fs) r.weak_dependency.items s.weak_dependency.items h.weak_dependency k.weak_dependency,
  one_text (values_at 12 fs) r.syntax s.syntax h.syntax_name k.syntax_name,
)

pub one_set : (levels : ℕ) (fs : List Field) (r s : FileDescriptorSet) → IsSet levels fs r → IsSet levels fs s → set_view r ≡ set_view s
one_set levels fs r s h k = simp (
    records_told file_view IsFile levels (one_file (levels - 1)) (values_at 1 fs) r.file.items s.file.items h.file k.file)

pub one_file_of : (bytes : List ℕ) (f g : FileDescriptorProto) → IsFileBytes bytes f → IsFileBytes bytes g → file_view f ≡ file_view g
one_file_of bytes f g h k = one_file 100 h.0 f g h.2 (subst (λ fs. IsFile 100 fs g) (one_fields 100 bytes k.0 h.0 k.1 h.1) k.2)
