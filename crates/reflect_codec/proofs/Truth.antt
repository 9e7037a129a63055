-- What is told of bytes that are refused is so of none that mean something.
use Rattle.std.proofs.Common.{◌≡◌, ◌⊎◌, inl, inr, ℕ, zero, suc, ◌-◌, ◌<◌, Bool, true, false, List, [], ◌∷◌, Option, Vec, String, Global, ℤ, refl, sym, subst, arith}
use Rattle.std.specs.Prelude.{◌==◌, ◌||◌, string_bytes}
use Rattle.std.specs.List.{AllZip, AllByRecursion, list_any}
use Rattle.std.specs.Str.{IsUtf8}
use Rattle.descriptor_records.specs.declared.file.FileDescriptorProto.{FileDescriptorProto}
use Rattle.descriptor_records.specs.declared.file.FileDescriptorSet.{FileDescriptorSet}
use Rattle.descriptor_records.specs.declared.message.DescriptorProto.{DescriptorProto}
use Rattle.descriptor_records.specs.declared.message.DescriptorProto.TheViews.{out-DescriptorProto}
use Rattle.descriptor_records.specs.declared.options.DoubleValue.{DoubleValue}
use Rattle.descriptor_records.specs.declared.options.Options.{Options}
use Rattle.reflect_wire.specs.declared.wire_error.WireError.{WireError}
use Rattle.reflect_codec.specs.declared.options.OptionsOf.{OptionsOf}
use Rattle.reflect_codec.specs.declared.options.OptionsOf.TheVariants as of
use Rattle.reflect_codec.specs.Faults.{BytesFault, OneOf, OneIf, InFields, NumberFault, DoubleFault, PayloadFault, TextFault, NumbersFault, PlaceFault, PartFault, RecordFault, JoinedFault, OptionsFault, MessageFault, FileBytesFault, SetBytesFault, InNamePart, InUninterpretedOption, InOptions, InField, InOneof, InEnumValue, InRange, InEnum, InMethod, InService, InLocation, InSourceInfo, InExtensionRange, InLevel, InFile, InSet}
use Rattle.reflect_codec.specs.Meaning.{is_field, is_enum, is_message, IsNamePart, IsUninterpretedOption, IsOptions, AreOptions, IsField, IsOneof, IsEnumValue, IsEnumRange, IsEnum, IsMethod, IsService, IsLocation, IsSourceInfo, IsExtensionRange, IsReservedRange, IsLevel, IsMessage, IsFile, IsSet, IsFileBytes, IsSetBytes}
use Rattle.reflect_codec.specs.Reading.{Value, number, eight_bytes, payload, other, Field, SpellsFields, values_at, IsText, IsPayload, HasPayload, IsNumber, IsInt32, IsInt64, IsBool, IsDouble, IsNumbers, AreNumbers, IsPartBelow, IsRecord, IsLast, IsLastIf, AreJoined, AlongOption}
use Rattle.reflect_codec.proofs.Parts.{one_payload, one_fields, one_part, along_joined}

-- what is refused means nothing
abbrev Apart : {A X : Type 0} → (A → WireError → Type 0) → (A → X → Type 0) → Type 0
Apart {A} {X} F R = (a : A) (e : WireError) (x : X) → F a e → R a x → ⊥

neither : {P Q : Type 0} → (P → ⊥) → (Q → ⊥) → P ⊎ Q → ⊥
neither f g (inl p) = f p
neither f g (inr q) = g q

-- lists and tables

one_apart : {X : Type 0} (F : Value → WireError → Type 0) (R : Value → X → Type 0) → Apart F R → Apart (OneOf F) (AllZip R)
one_apart F R apart [] e xs (k, v, inside, at, fault) h = omega (arith, inside)
one_apart F R apart (w ∷ vs) e [] f h = h
one_apart F R apart (w ∷ vs) e (x ∷ xs) (zero, v, inside, at, fault) h = apart w e x (subst (λ u. F u e) (sym at) fault) h.0
one_apart F R apart (w ∷ vs) e (x ∷ xs) (suc k, v, inside, at, fault) h = one_apart F R apart vs e xs (k, v, omega (arith, inside), at, fault) h.1

last_apart : {X : Type 0} (F : Value → WireError → Type 0) (R : Value → X → Type 0) → Apart F R → Apart (OneOf F) (IsLast R)
last_apart F R apart vs e o f h = one_apart F R apart vs e h.0 f h.1

same : (m n : ℕ) → (m == n) ≡ true → m ≡ n
same m n e = grind arith

either : (a b : Bool) → (a || b) ≡ true → (a ≡ true) ⊎ (b ≡ true)
either true b e = inl refl
either false b e = inr e

pick : (P : ℕ → Type 0) (m n : ℕ) (rest : Type 0) → P m → (rest → P n) → ((m == n) ≡ true) ⊎ rest → P n
pick P m n rest here there (inl is) = subst P (same m n is) here
pick P m n rest here there (inr more) = there more

each_in : (P : ℕ → Type 0) (ns : List ℕ) → AllByRecursion P ns → (n : ℕ) → list_any (λ m. m == n) ns ≡ true → P n
each_in P [] all n e = cc
each_in P (m ∷ ns) all n e = pick P m n (list_any (λ m. m == n) ns ≡ true) all.0 (each_in P ns all.1 n) (either (m == n) (list_any (λ m. m == n) ns) e)

in_fields : (F : Value → WireError → Type 0) (ns : List ℕ) (fs : List Field) (e : WireError) → AllByRecursion (λ n. OneOf F (values_at n fs) e → ⊥) ns → InFields F ns fs e → ⊥
in_fields F ns fs e all f = each_in (λ n. OneOf F (values_at n fs) e → ⊥) ns all f.0 f.1 f.2

-- values

payload_apart : Apart PayloadFault IsPayload
payload_apart (payload p) e bytes f h = f
payload_apart (number n) e bytes f h = h
payload_apart (eight_bytes n) e bytes f h = h
payload_apart other e bytes f h = h

number_apart : Apart NumberFault IsNumber
number_apart (number n) e m f h = f
number_apart (payload p) e m f h = h
number_apart (eight_bytes n) e m f h = h
number_apart other e m f h = h

double_apart : Apart DoubleFault IsDouble
double_apart (eight_bytes n) e d f h = f
double_apart (number n) e d f h = h
double_apart (payload p) e d f h = h
double_apart other e d f h = h

text_apart : Apart TextFault (λ v (t : String Global). IsText v (string_bytes t))
text_apart (payload p) e t (inl f) h = f
text_apart (payload p) e t (inr (bytes, is, bad, told)) h = bad (subst IsUtf8 (sym is) h.0)
text_apart (number n) e t f h = h
text_apart (eight_bytes n) e t f h = h
text_apart other e t f h = h

bytes_apart : Apart PayloadFault (λ v (b : Vec ℕ Global). IsPayload v b.items)
bytes_apart v e b = payload_apart v e b.items

int32_apart : Apart NumberFault IsInt32
int32_apart v e z f h = number_apart v e h.0 f h.1

int64_apart : Apart NumberFault IsInt64
int64_apart v e z f h = number_apart v e h.0 f h.1

bool_apart : Apart NumberFault IsBool
bool_apart v e b f h = number_apart v e h.0 f h.1

numbers_apart : Apart NumbersFault IsNumbers
numbers_apart (number n) e zs f h = f
numbers_apart (payload p) e zs f h = f.none zs h
numbers_apart (eight_bytes n) e zs f h = h
numbers_apart other e zs f h = h

-- what a field of each kind holds

module _ (vs : List Value) (e : WireError) where
  text : (o : Option (String Global)) → IsLast (λ v t. IsText v (string_bytes t)) vs o → OneOf TextFault vs e → ⊥
  text o h f = last_apart TextFault (λ v (t : String Global). IsText v (string_bytes t)) text_apart vs e o f h

  texts : (ts : List (String Global)) → AllZip (λ v t. IsText v (string_bytes t)) vs ts → OneOf TextFault vs e → ⊥
  texts ts h f = one_apart TextFault (λ v (t : String Global). IsText v (string_bytes t)) text_apart vs e ts f h

  bytes : (o : Option (Vec ℕ Global)) → IsLast (λ v b. IsPayload v b.items) vs o → OneOf PayloadFault vs e → ⊥
  bytes o h f = last_apart PayloadFault (λ v (b : Vec ℕ Global). IsPayload v b.items) bytes_apart vs e o f h

  natural : (o : Option ℕ) → IsLast IsNumber vs o → OneOf NumberFault vs e → ⊥
  natural o h f = last_apart NumberFault IsNumber number_apart vs e o f h

  int32 : (o : Option ℤ) → IsLast IsInt32 vs o → OneOf NumberFault vs e → ⊥
  int32 o h f = last_apart NumberFault IsInt32 int32_apart vs e o f h

  int64 : (o : Option ℤ) → IsLast IsInt64 vs o → OneOf NumberFault vs e → ⊥
  int64 o h f = last_apart NumberFault IsInt64 int64_apart vs e o f h

  bool : (o : Option Bool) → IsLast IsBool vs o → OneOf NumberFault vs e → ⊥
  bool o h f = last_apart NumberFault IsBool bool_apart vs e o f h

  double : (o : Option DoubleValue) → IsLast IsDouble vs o → OneOf DoubleFault vs e → ⊥
  double o h f = last_apart DoubleFault IsDouble double_apart vs e o f h

  int32s : (zs : List ℤ) → AreNumbers vs zs → OneOf NumbersFault vs e → ⊥
  int32s zs h f = one_apart NumbersFault IsNumbers numbers_apart vs e h.0 f h.1

  wanted : (b : Bool) (o : Option Bool) → IsLastIf b IsBool vs o → OneIf b NumberFault vs e → ⊥
  wanted true o h f = bool o h f
  wanted false o h f = f

-- records

place_apart : (levels : ℕ) → Apart (PlaceFault levels) (HasPayload levels)
place_apart levels v e bytes (inl form) h = payload_apart v e bytes form h.1
place_apart levels v e bytes (inr (b, is, none, told)) h = let some : 0 < levels = h.0 in omega (arith, some, none)

part_apart : (outside inside : ℕ) → Apart (PartFault outside inside) (IsPartBelow outside inside)
part_apart outside inside v e fs (inl place) h = place_apart outside v e h.0 place h.1
part_apart outside inside v e fs (inr (bytes, has, fault)) h = fault.none fs (subst (λ b. SpellsFields inside b fs) (one_payload v h.0 bytes h.1.1 has.1) h.2)

module _ {R : Type 0} (F : ℕ → List Field → WireError → Type 0) (M : ℕ → List Field → R → Type 0) (apart : (levels : ℕ) → Apart (F levels) (M levels)) (levels : ℕ) where
  record_apart : Apart (RecordFault F levels) (IsRecord M levels)
  record_apart v e r (inl part) h = part_apart levels (levels - 1) v e h.0 part h.1
  record_apart v e r (inr (fs, part, fault)) h = apart (levels - 1) fs e r fault (subst (λ gs. M (levels - 1) gs r) (one_part levels (levels - 1) v h.0 fs h.1 part) h.2)

  records : (vs : List Value) (e : WireError) (rs : List R) → AllZip (IsRecord M levels) vs rs → OneOf (RecordFault F levels) vs e → ⊥
  records vs e rs h f = one_apart (RecordFault F levels) (IsRecord M levels) record_apart vs e rs f h

module _ {R : Type 0} (F : List Field → WireError → Type 0) (M : List Field → R → Type 0) (apart : Apart F M) (outside inside : ℕ) (vs : List Value) (e : WireError) (o : Option R) where
  joined_apart : (fs : Option (List Field)) → AreJoined outside inside vs fs → AlongOption M fs o → JoinedFault F outside inside vs e → ⊥
  joined_apart fs h along (inl one) = one_apart (PartFault outside inside) (IsPartBelow outside inside) (part_apart outside inside) vs e h.0 one h.1
  joined_apart fs h along (inr (gs, found, fault)) = let means = along_joined M outside inside vs gs found o fs h along in apart gs e means.0 fault means.1

name_part : (levels : ℕ) → Apart (InNamePart levels) (IsNamePart levels)
name_part levels fs e r f h = neither (in_fields TextFault (1 ∷ []) fs e (text (values_at 1 fs) e h.name_part.0 h.name_part.1, tt)) (in_fields NumberFault (2 ∷ []) fs e (bool (values_at 2 fs) e h.is_extension.0 h.is_extension.1, tt)) f.why

uninterpreted_option : (levels : ℕ) → Apart (InUninterpretedOption levels) (IsUninterpretedOption levels)
uninterpreted_option levels fs e r f h = neither (in_fields (RecordFault InNamePart levels) (2 ∷ []) fs e (records InNamePart IsNamePart name_part levels (values_at 2 fs) e r.name.items h.name, tt))
    (neither (in_fields TextFault (3 ∷ 8 ∷ []) fs e (text (values_at 3 fs) e r.identifier_value h.identifier_value, (text (values_at 8 fs) e r.aggregate_value h.aggregate_value, tt)))
    (neither (in_fields NumberFault (4 ∷ 5 ∷ []) fs e (natural (values_at 4 fs) e r.positive_int_value h.positive_int_value, (int64 (values_at 5 fs) e r.negative_int_value h.negative_int_value, tt)))
    (neither (in_fields DoubleFault (6 ∷ []) fs e (double (values_at 6 fs) e r.double_value h.double_value, tt)) (in_fields PayloadFault (7 ∷ []) fs e (bytes (values_at 7 fs) e r.string_value h.string_value, tt))))) f.why

in_options : (kind : OptionsOf) (vs : List Value) → Apart (InOptions kind) (IsOptions kind vs)
in_options kind vs fs e r f h = neither (wanted (values_at 2 fs) e (is_field kind) r.packed h.packed) (neither (wanted (values_at 2 fs) e (is_enum kind) r.allow_alias h.allow_alias)
    (neither (wanted (values_at 7 fs) e (is_message kind) r.map_entry h.map_entry) (records InUninterpretedOption IsUninterpretedOption uninterpreted_option 100 (values_at 999 fs) e r.uninterpreted_option.items h.uninterpreted_option))) f.why

options : (kind : OptionsOf) (levels : ℕ) (vs : List Value) (e : WireError) (o : Option Options) → AreOptions kind levels vs o → OptionsFault kind levels vs e → ⊥
options kind levels vs e o h = joined_apart (InOptions kind) (IsOptions kind vs) (in_options kind vs) levels 100 vs e o h.0 h.1 h.2

field : (levels : ℕ) → Apart (InField levels) (IsField levels)
field levels fs e r f h = neither (in_fields TextFault (1 ∷ 2 ∷ 6 ∷ 7 ∷ 10 ∷ []) fs e (text (values_at 1 fs) e r.name h.name, (text (values_at 2 fs) e r.extendee h.extendee, (text (values_at 6 fs) e r.type_name h.type_name, (text (values_at 7 fs) e r.default_value h.default_value, (text (values_at 10 fs) e r.json_name h.json_name, tt))))))
    (neither (in_fields NumberFault (3 ∷ 4 ∷ 5 ∷ 9 ∷ 17 ∷ []) fs e (int32 (values_at 3 fs) e r.number h.number, (int32 (values_at 4 fs) e r.label h.label, (int32 (values_at 5 fs) e r.field_type h.field_type, (int32 (values_at 9 fs) e r.oneof_index h.oneof_index, (bool (values_at 17 fs) e r.proto3_optional h.proto3_optional, tt)))))) (options of.Field levels (values_at 8 fs) e r.options h.options)) f.why

oneof : (levels : ℕ) → Apart (InOneof levels) (IsOneof levels)
oneof levels fs e r f h = neither (in_fields TextFault (1 ∷ []) fs e (text (values_at 1 fs) e r.name h.name, tt)) (options of.Other levels (values_at 2 fs) e r.options h.options) f.why

enum_value : (levels : ℕ) → Apart (InEnumValue levels) (IsEnumValue levels)
enum_value levels fs e r f h = neither (in_fields TextFault (1 ∷ []) fs e (text (values_at 1 fs) e r.name h.name, tt))
    (neither (in_fields NumberFault (2 ∷ []) fs e (int32 (values_at 2 fs) e r.number h.number, tt)) (options of.Other levels (values_at 3 fs) e r.options h.options)) f.why

enum_range : (levels : ℕ) → Apart (InRange levels) (IsEnumRange levels)
enum_range levels fs e r f h = in_fields NumberFault (1 ∷ 2 ∷ []) fs e (int32 (values_at 1 fs) e r.start h.start, (int32 (values_at 2 fs) e r.end h.end, tt)) f.why

reserved_range : (levels : ℕ) → Apart (InRange levels) (IsReservedRange levels)
reserved_range levels fs e r f h = in_fields NumberFault (1 ∷ 2 ∷ []) fs e (int32 (values_at 1 fs) e r.start h.start, (int32 (values_at 2 fs) e r.end h.end, tt)) f.why

enumeration : (levels : ℕ) → Apart (InEnum levels) (IsEnum levels)
enumeration levels fs e r f h = neither (in_fields TextFault (1 ∷ 5 ∷ []) fs e (text (values_at 1 fs) e r.name h.name, (texts (values_at 5 fs) e r.reserved_name.items h.reserved_name, tt)))
    (neither (in_fields (RecordFault InEnumValue levels) (2 ∷ []) fs e (records InEnumValue IsEnumValue enum_value levels (values_at 2 fs) e r.value.items h.value, tt))
    (neither (options of.Enum levels (values_at 3 fs) e r.options h.options) (in_fields (RecordFault InRange levels) (4 ∷ []) fs e (records InRange IsEnumRange enum_range levels (values_at 4 fs) e r.reserved_range.items h.reserved_range, tt)))) f.why

method : (levels : ℕ) → Apart (InMethod levels) (IsMethod levels)
method levels fs e r f h = neither (in_fields TextFault (1 ∷ 2 ∷ 3 ∷ []) fs e (text (values_at 1 fs) e r.name h.name, (text (values_at 2 fs) e r.input_type h.input_type, (text (values_at 3 fs) e r.output_type h.output_type, tt))))
    (neither (in_fields NumberFault (5 ∷ 6 ∷ []) fs e (bool (values_at 5 fs) e r.client_streaming h.client_streaming, (bool (values_at 6 fs) e r.server_streaming h.server_streaming, tt))) (options of.Other levels (values_at 4 fs) e r.options h.options)) f.why

service : (levels : ℕ) → Apart (InService levels) (IsService levels)
service levels fs e r f h = neither (in_fields TextFault (1 ∷ []) fs e (text (values_at 1 fs) e r.name h.name, tt))
    (neither (in_fields (RecordFault InMethod levels) (2 ∷ []) fs e (records InMethod IsMethod method levels (values_at 2 fs) e r.method.items h.method, tt)) (options of.Other levels (values_at 3 fs) e r.options h.options)) f.why

location : (levels : ℕ) → Apart (InLocation levels) (IsLocation levels)
location levels fs e r f h = neither (in_fields NumbersFault (1 ∷ 2 ∷ []) fs e (int32s (values_at 1 fs) e r.path.items h.path, (int32s (values_at 2 fs) e r.span.items h.span, tt))) (in_fields TextFault (3 ∷ 4 ∷ 6 ∷ []) fs e (text (values_at 3 fs) e r.leading_comments h.leading_comments, (text (values_at 4 fs) e r.trailing_comments h.trailing_comments, (texts (values_at 6 fs) e r.leading_detached_comments.items h.leading_detached_comments, tt)))) f.why

source_info : (levels : ℕ) → Apart (InSourceInfo levels) (IsSourceInfo levels)
source_info levels fs e r f h = in_fields (RecordFault InLocation levels) (1 ∷ []) fs e (records InLocation IsLocation location levels (values_at 1 fs) e r.location.items h.location, tt) f.why

extension_range : (levels : ℕ) → Apart (InExtensionRange levels) (IsExtensionRange levels)
extension_range levels fs e r f h = neither (in_fields NumberFault (1 ∷ 2 ∷ []) fs e (int32 (values_at 1 fs) e r.start h.start, (int32 (values_at 2 fs) e r.end h.end, tt))) (options of.Other levels (values_at 3 fs) e r.options h.options) f.why

nested : {X : Type 0} (F : Value → WireError → Type 0) (R : Value → X → Type 0) → Apart F R → (vs : List Value) (e : WireError) (xs : List X) → AllZip R vs xs → OneOf F vs e → ⊥
nested F R apart vs e xs h f = one_apart F R apart vs e xs f h

level : (F : Value → WireError → Type 0) (R : Value → DescriptorProto → Type 0) → Apart F R → (levels : ℕ) → Apart (InLevel F levels) (IsLevel R levels)
level F R apart levels fs e r f h = neither (in_fields TextFault (1 ∷ 10 ∷ []) fs e (text (values_at 1 fs) e r.name h.name, (texts (values_at 10 fs) e r.reserved_name.items h.reserved_name, tt)))
    (neither (in_fields (RecordFault InField levels) (2 ∷ 6 ∷ []) fs e (records InField IsField field levels (values_at 2 fs) e r.field.items h.field, (records InField IsField field levels (values_at 6 fs) e r.extension.items h.extension, tt)))
    (neither (in_fields F (3 ∷ []) fs e (nested F R apart (values_at 3 fs) e r.nested_type.items h.nested_type, tt))
    (neither (in_fields (RecordFault InEnum levels) (4 ∷ []) fs e (records InEnum IsEnum enumeration levels (values_at 4 fs) e r.enum_type.items h.enum_type, tt))
    (neither (in_fields (RecordFault InExtensionRange levels) (5 ∷ []) fs e (records InExtensionRange IsExtensionRange extension_range levels (values_at 5 fs) e r.extension_range.items h.extension_range, tt))
    (neither (options of.Message levels (values_at 7 fs) e r.options h.options)
    (neither (in_fields (RecordFault InOneof levels) (8 ∷ []) fs e (records InOneof IsOneof oneof levels (values_at 8 fs) e r.oneof_decl.items h.oneof_decl, tt)) (in_fields (RecordFault InRange levels) (9 ∷ []) fs e (records InRange IsReservedRange reserved_range levels (values_at 9 fs) e r.reserved_range.items h.reserved_range, tt)))))))) f.why

message_apart : (levels : ℕ) → Apart (MessageFault levels) (IsMessage levels)
message_apart zero v e m f h = h
message_apart (suc levels) v e m (inl part) h = part_apart (suc levels) levels v e h.0 part h.1
message_apart (suc levels) v e m (inr (fs, part, fault)) h =
    level (MessageFault levels) (IsMessage levels) (message_apart levels) levels fs e (out-DescriptorProto m) fault
    (subst (λ gs. IsLevel (IsMessage levels) levels gs (out-DescriptorProto m)) (one_part (suc levels) levels v h.0 fs h.1 part) h.2)

file : (levels : ℕ) → Apart (InFile levels) (IsFile levels)
file levels fs e r f h = neither (in_fields TextFault (1 ∷ 2 ∷ 3 ∷ 12 ∷ []) fs e (text (values_at 1 fs) e r.name h.name, (text (values_at 2 fs) e r.package h.package_name, (texts (values_at 3 fs) e r.dependency.items h.dependency, (text (values_at 12 fs) e r.syntax h.syntax_name, tt)))))
    (neither (in_fields NumbersFault (10 ∷ 11 ∷ []) fs e (int32s (values_at 10 fs) e r.public_dependency.items h.public_dependency, (int32s (values_at 11 fs) e r.weak_dependency.items h.weak_dependency, tt)))
    (neither (in_fields (MessageFault levels) (4 ∷ []) fs e (nested (MessageFault levels) (IsMessage levels) (message_apart levels) (values_at 4 fs) e r.message_type.items h.message_type, tt))
    (neither (in_fields (RecordFault InEnum levels) (5 ∷ []) fs e (records InEnum IsEnum enumeration levels (values_at 5 fs) e r.enum_type.items h.enum_type, tt))
    (neither (in_fields (RecordFault InService levels) (6 ∷ []) fs e (records InService IsService service levels (values_at 6 fs) e r.service.items h.service, tt))
    (neither (in_fields (RecordFault InField levels) (7 ∷ []) fs e (records InField IsField field levels (values_at 7 fs) e r.extension.items h.extension, tt))
    (neither (options of.Other levels (values_at 8 fs) e r.options h.options) (joined_apart (InSourceInfo (levels - 1)) (IsSourceInfo (levels - 1)) (source_info (levels - 1)) levels (levels - 1) (values_at 9 fs) e r.source_code_info h.source_code_info.0 h.source_code_info.1 h.source_code_info.2))))))) f.why

set : (levels : ℕ) → Apart (InSet levels) (IsSet levels)
set levels fs e r f h = in_fields (RecordFault InFile levels) (1 ∷ []) fs e (records InFile IsFile file levels (values_at 1 fs) e r.file.items h.file, tt) f.why

-- bytes

module _ {X : Type 0} (F : ℕ → List Field → WireError → Type 0) (M : ℕ → List Field → X → Type 0) (apart : (levels : ℕ) → Apart (F levels) (M levels)) where
  apart_from : (bytes : List ℕ) (e : WireError) (x : X) → BytesFault 100 bytes e ⊎ ((fs : List Field) × SpellsFields 100 bytes fs × F 100 fs e) → (fs : List Field) × SpellsFields 100 bytes fs × M 100 fs x → ⊥
  apart_from bytes e x (inl fault) h = fault.none h.0 h.1
  apart_from bytes e x (inr (fs, found, fault)) h = apart 100 fs e x fault (subst (λ gs. M 100 gs x) (one_fields 100 bytes h.0 fs h.1 found) h.2)

pub file_apart : (bytes : List ℕ) (e : WireError) (f : FileDescriptorProto) → FileBytesFault bytes e → IsFileBytes bytes f → ⊥
file_apart = apart_from InFile IsFile file

pub set_apart : (bytes : List ℕ) (e : WireError) (s : FileDescriptorSet) → SetBytesFault bytes e → IsSetBytes bytes s → ⊥
set_apart = apart_from InSet IsSet set
