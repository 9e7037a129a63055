-- What bytes say of each kind of record is plain.
use Rattle.std.proofs.Common.{◌≡◌, ℕ, ℤ, zero, suc, ◌<◌, ◌+◌, ◌-◌, ◌%◌, ◌^◌, List, [], ◌∷◌, ◌++◌, Option, Some, None, refl, sym, ap, ◌∙◌, subst, append-nil, arith}
use Rattle.std.specs.Int.{cast_signed, w32}
use Rattle.std.specs.Prelude.{unwrap_or}
use Rattle.std.proofs.lemmas.Int.{SFits-int_wrap, wrapping_add-bits}
use Rattle.std.specs.List.{AllByRecursion, AllZip, flat_map}
use Rattle.descriptor_records.specs.declared.file.FileDescriptorProto.{FileDescriptorProto}
use Rattle.descriptor_records.specs.declared.file.FileDescriptorSet.{FileDescriptorSet}
use Rattle.descriptor_records.specs.declared.message.DescriptorProto.{DescriptorProto}
use Rattle.descriptor_records.specs.declared.message.DescriptorProto.TheViews.{out-DescriptorProto}
use Rattle.descriptor_records.specs.declared.options.Options.{Options}
use Rattle.descriptor_records.specs.declared.source_info.SourceCodeInfo.{SourceCodeInfo}
use Rattle.reflect_wire.specs.Records.{Records, more_records, no_records}
use Rattle.reflect_wire.proofs.Whole.{join, spells_join}
use Rattle.reflect_codec.specs.Meaning.{AreOptions, IsEnum, IsEnumRange, IsEnumValue, IsExtensionRange, IsField, IsFile, IsFileBytes, IsLocation, IsMessage, IsMethod, IsOneof, IsReservedRange, IsService, IsSetBytes, IsSourceInfo}
use Rattle.reflect_codec.specs.Reading.{AreNumbers, Field, IsInt32, IsLast, IsMerged, IsNumbers, IsPartBelow, IsPayload, IsRecord, SpellsFields, SpellsNumbers, Value, eight_bytes, fields_in, int32_of, joined, joins, last, number, other, payload, value_of, values_at}
use Rattle.reflect_codec.specs.declared.options.OptionsOf.{OptionsOf}
use Rattle.reflect_codec.specs.declared.options.OptionsOf.TheVariants as of
use Rattle.codec_laws.specs.Plain.{ArePlainOptions, FitsInt32, IfThere, IsInside, IsPlainEnum, IsPlainEnumRange, IsPlainEnumValue, IsPlainExtensionRange, IsPlainField, IsPlainFile, IsPlainLocation, IsPlainMessage, IsPlainMethod, IsPlainOneof, IsPlainReservedRange, IsPlainService, IsPlainSet, IsPlainSourceInfo}

-- ---- numbers
int32_fits : (n : ℕ) → FitsInt32 (int32_of n)
int32_fits n =
    let low : n % 2 ^ 32 < 2 ^ 32 = omega arith in
    let same : n % 2 ^ 32 ≡ (n % 2 ^ 32 + 0) % 2 ^ 32 = omega (arith, low) in
    subst FitsInt32 (sym (ap (cast_signed w32) same ∙ wrapping_add-bits w32 (n % 2 ^ 32) 0 low (omega arith))) (SFits-int_wrap w32 _)

number_fits : (v : Value) (z : ℤ) → IsInt32 v z → FitsInt32 z
number_fits v z (n, is, e) = subst FitsInt32 (sym e) (int32_fits n)

last_fits : (vs : List Value) (zs : List ℤ) → AllZip IsInt32 vs zs → IfThere FitsInt32 (last zs)
last_fits [] [] h = tt
last_fits [] (z ∷ zs) h = absurd h
last_fits (v ∷ vs) [] h = absurd h
last_fits (v ∷ vs) (z ∷ zs) h = by (last zs) (last_fits vs zs h.1) where
  by : (o : Option ℤ) → IfThere FitsInt32 o → IfThere FitsInt32 (elim o [ None ↦ Some z | Some y ↦ Some y ])
  by None rest = number_fits v z h.0
  by (Some y) rest = rest

int32_plain : (vs : List Value) (o : Option ℤ) → IsLast IsInt32 vs o → IfThere FitsInt32 o
int32_plain vs o (zs, all, is) = subst (IfThere FitsInt32) (sym is) (last_fits vs zs all)

spelled_fit : (bytes : List ℕ) (zs : List ℤ) → SpellsNumbers bytes zs → AllByRecursion FitsInt32 zs
spelled_fit bytes [] h = tt
spelled_fit bytes (z ∷ zs) h = (subst FitsInt32 (sym h.4) (int32_fits h.2), spelled_fit h.1 zs h.5)

numbers_fit : (v : Value) (zs : List ℤ) → IsNumbers v zs → AllByRecursion FitsInt32 zs
numbers_fit (number n) zs h = subst (AllByRecursion FitsInt32) (sym h) (int32_fits n, tt)
numbers_fit (payload p) zs h = spelled_fit p zs h
numbers_fit (eight_bytes n) zs h = absurd h
numbers_fit other zs h = absurd h

all_join : (zs ys : List ℤ) → AllByRecursion FitsInt32 zs → AllByRecursion FitsInt32 ys → AllByRecursion FitsInt32 (zs ++ ys)
all_join [] ys h k = k
all_join (z ∷ zs) ys h k = (h.0, all_join zs ys h.1 k)

parts_fit : (vs : List Value) (parts : List (List ℤ)) → AllZip IsNumbers vs parts → AllByRecursion FitsInt32 (joins parts)
parts_fit [] [] h = tt
parts_fit [] (zs ∷ parts) h = absurd h
parts_fit (v ∷ vs) [] h = absurd h
parts_fit (v ∷ vs) (zs ∷ parts) h = all_join zs (joins parts) (numbers_fit v zs h.0) (parts_fit vs parts h.1)

int32s_plain : (vs : List Value) (zs : List ℤ) → AreNumbers vs zs → AllByRecursion FitsInt32 zs
int32s_plain vs zs (parts, all, is) = subst (AllByRecursion FitsInt32) (sym is) (parts_fit vs parts all)

-- ---- options

fields_in_both : (rs ts : Records) → fields_in rs ++ fields_in ts ≡ fields_in (join rs ts)
fields_in_both no_records ts = refl
fields_in_both (more_records n p rs) ts = ap (λ fs. (n, value_of p) ∷ fs) (fields_in_both rs ts)

-- records behind records spell the fields of both
fields_join : (levels : ℕ) (a b : List ℕ) (fs gs : List Field) → SpellsFields levels a fs → SpellsFields levels b gs → SpellsFields levels (a ++ b) (fs ++ gs)
fields_join levels a b fs gs (rs, h, is) (ts, k, js) =
    (join rs ts, spells_join levels a b rs ts h k, ap (λ fs. fs ++ gs) is ∙ ap (λ gs. fields_in rs ++ gs) js ∙ fields_in_both rs ts)

-- the payloads of one field, and their fields, one behind the other
parts_spelled : (outside : ℕ) (vs : List Value) (parts : List (List Field)) (payloads : List (List ℕ)) → AllZip (IsPartBelow outside 100) vs parts → AllZip IsPayload vs payloads
    → SpellsFields 100 (flat_map (λ p. p) payloads) (joins parts)
parts_spelled outside [] [] [] h k = (no_records, refl, refl)
parts_spelled outside [] [] (p ∷ payloads) h k = absurd k
parts_spelled outside [] (fs ∷ parts) payloads h k = absurd h
parts_spelled outside (v ∷ vs) [] payloads h k = absurd h
parts_spelled outside (v ∷ vs) (fs ∷ parts) [] h k = absurd k
parts_spelled outside (v ∷ vs) (fs ∷ parts) (p ∷ payloads) (part, more) (here, rest) =
    let same = one_bytes v part.0 p part.1.1 here in
    fields_join 100 p (flat_map (λ p. p) payloads) fs (joins parts) (subst (λ b. SpellsFields 100 b fs) same part.2) (parts_spelled outside vs parts payloads more rest) where
      one_bytes : (v : Value) (a b : List ℕ) → IsPayload v a → IsPayload v b → a ≡ b
      one_bytes (payload q) a b h k = h ∙ sym k
      one_bytes (number n) a b h k = absurd h
      one_bytes (eight_bytes n) a b h k = absurd h
      one_bytes other a b h k = absurd h

options_plain : (kind : OptionsOf) (levels : ℕ) (vs : List Value) (o : Option Options) → AreOptions kind levels vs o → ArePlainOptions kind levels o
options_plain kind levels vs None h = tt
options_plain kind levels vs (Some o) (None, joined, along) = absurd along
options_plain kind levels [] (Some o) (Some fs, (parts, all, is), along) = none parts all is where
  none : (parts : List (List Field)) → AllZip (IsPartBelow levels 100) [] parts → Some fs ≡ joined parts → ArePlainOptions kind levels (Some o)
  none [] all is = absurd (cc is)
  none (p ∷ parts) all is = absurd all
options_plain kind levels (v ∷ vs) (Some o) (Some fs, (parts, all, is), along) = some parts all is where
  some : (parts : List (List Field)) → AllZip (IsPartBelow levels 100) (v ∷ vs) parts → Some fs ≡ joined parts → ArePlainOptions kind levels (Some o)
  some [] all is = absurd all
  some (gs ∷ parts) all is =
      let spelled = parts_spelled levels (v ∷ vs) (gs ∷ parts) along.encoded.0 all along.encoded.1 in
      let whole : joins (gs ∷ parts) ≡ fs = ap (λ o. unwrap_or o fs) (sym is) in
      let says = subst (λ b. SpellsFields 100 b fs) (sym along.encoded.2) (subst (SpellsFields 100 (flat_map (λ p. p) along.encoded.0)) whole spelled) in (
        all.0.1.0,
        (
          fs,
          says,
          record {
            encoded = (o.encoded.items ∷ [], (refl, tt), sym (append-nil o.encoded.items));
            packed = along.packed;
            allow_alias = along.allow_alias;
            map_entry = along.map_entry;
            uninterpreted_option = along.uninterpreted_option;
          },
        ),
      )

-- ---- records
abbrev MeansPlain : {R : Type 0} → (ℕ → List Field → R → Type 0) → (ℕ → R → Type 0) → Type 0
MeansPlain {R} means P = (levels : ℕ) (fs : List Field) (x : R) → means levels fs x → P levels x

records_plain : {R : Type 0} (means : ℕ → List Field → R → Type 0) (P : ℕ → R → Type 0) (levels : ℕ) (vs : List Value) (rs : List R) → MeansPlain means P → AllZip (IsRecord means levels) vs rs → AllByRecursion (IsInside P levels) rs
records_plain means P levels [] [] plain h = tt
records_plain means P levels [] (r ∷ rs) plain h = absurd h
records_plain means P levels (v ∷ vs) [] plain h = tt
records_plain means P levels (v ∷ vs) (r ∷ rs) plain h = ((h.0.1.1.0, plain (levels - 1) h.0.0 r h.0.2), records_plain means P levels vs rs plain h.1)

field_plain : MeansPlain IsField IsPlainField
field_plain levels fs x h = record {
  number = int32_plain (values_at 3 fs) x.number h.number;
  label = int32_plain (values_at 4 fs) x.label h.label;
  field_type = int32_plain (values_at 5 fs) x.field_type h.field_type;
  options = options_plain of.Field levels (values_at 8 fs) x.options h.options;
  oneof_index = int32_plain (values_at 9 fs) x.oneof_index h.oneof_index;
}

oneof_plain : MeansPlain IsOneof IsPlainOneof
oneof_plain levels fs x h = record {
  options = options_plain of.Other levels (values_at 2 fs) x.options h.options;
}

enum_value_plain : MeansPlain IsEnumValue IsPlainEnumValue
enum_value_plain levels fs x h = record {
  number = int32_plain (values_at 2 fs) x.number h.number;
  options = options_plain of.Other levels (values_at 3 fs) x.options h.options;
}

enum_range_plain : MeansPlain IsEnumRange IsPlainEnumRange
enum_range_plain levels fs x h = record {
  start = int32_plain (values_at 1 fs) x.start h.start;
  end = int32_plain (values_at 2 fs) x.end h.end;
}

enum_plain : MeansPlain IsEnum IsPlainEnum
enum_plain levels fs x h = record {
  value = records_plain IsEnumValue IsPlainEnumValue levels (values_at 2 fs) x.value.items enum_value_plain h.value;
  options = options_plain of.Enum levels (values_at 3 fs) x.options h.options;
  reserved_range = records_plain IsEnumRange IsPlainEnumRange levels (values_at 4 fs) x.reserved_range.items enum_range_plain h.reserved_range;
}

method_plain : MeansPlain IsMethod IsPlainMethod
method_plain levels fs x h = record {
  options = options_plain of.Other levels (values_at 4 fs) x.options h.options;
}

service_plain : MeansPlain IsService IsPlainService
service_plain levels fs x h = record {
  method = records_plain IsMethod IsPlainMethod levels (values_at 2 fs) x.method.items method_plain h.method;
  options = options_plain of.Other levels (values_at 3 fs) x.options h.options;
}

location_plain : MeansPlain IsLocation IsPlainLocation
location_plain levels fs x h = record {
  path = int32s_plain (values_at 1 fs) x.path.items h.path;
  span = int32s_plain (values_at 2 fs) x.span.items h.span;
}

source_info_plain : MeansPlain IsSourceInfo IsPlainSourceInfo
source_info_plain levels fs x h = record {
  location = records_plain IsLocation IsPlainLocation levels (values_at 1 fs) x.location.items location_plain h.location;
}

extension_range_plain : MeansPlain IsExtensionRange IsPlainExtensionRange
extension_range_plain levels fs x h = record {
  start = int32_plain (values_at 1 fs) x.start h.start;
  end = int32_plain (values_at 2 fs) x.end h.end;
  options = options_plain of.Other levels (values_at 3 fs) x.options h.options;
}

reserved_range_plain : MeansPlain IsReservedRange IsPlainReservedRange
reserved_range_plain levels fs x h = record {
  start = int32_plain (values_at 1 fs) x.start h.start;
  end = int32_plain (values_at 2 fs) x.end h.end;
}

messages_plain : (inner : Value → DescriptorProto → Type 0) (P : DescriptorProto → Type 0) (vs : List Value) (ms : List DescriptorProto) → ((v : Value) (m : DescriptorProto) → inner v m → P m) → AllZip inner vs ms → AllByRecursion P ms
messages_plain inner P [] [] plain h = tt
messages_plain inner P [] (m ∷ ms) plain h = absurd h
messages_plain inner P (v ∷ vs) [] plain h = tt
messages_plain inner P (v ∷ vs) (m ∷ ms) plain h = (plain v m h.0, messages_plain inner P vs ms plain h.1)

message_plain : (levels : ℕ) (v : Value) (m : DescriptorProto) → IsMessage levels v m → IsPlainMessage levels m
message_plain zero v m h = absurd h
message_plain (suc levels) v m (fs, part, h) =
    let x = out-DescriptorProto m in
    record {
      field = records_plain IsField IsPlainField levels (values_at 2 fs) x.field.items field_plain h.field;
      nested_type = messages_plain (IsMessage levels) (IsPlainMessage levels) (values_at 3 fs) x.nested_type.items (message_plain levels) h.nested_type;
      enum_type = records_plain IsEnum IsPlainEnum levels (values_at 4 fs) x.enum_type.items enum_plain h.enum_type;
      extension_range = records_plain IsExtensionRange IsPlainExtensionRange levels (values_at 5 fs) x.extension_range.items extension_range_plain h.extension_range;
      extension = records_plain IsField IsPlainField levels (values_at 6 fs) x.extension.items field_plain h.extension;
      options = options_plain of.Message levels (values_at 7 fs) x.options h.options;
      oneof_decl = records_plain IsOneof IsPlainOneof levels (values_at 8 fs) x.oneof_decl.items oneof_plain h.oneof_decl;
      reserved_range = records_plain IsReservedRange IsPlainReservedRange levels (values_at 9 fs) x.reserved_range.items reserved_range_plain h.reserved_range;
    }

source_info_there : (levels : ℕ) (vs : List Value) (o : Option SourceCodeInfo) → IsMerged IsSourceInfo levels vs o → IfThere (IsInside IsPlainSourceInfo levels) o
source_info_there levels vs None h = tt
source_info_there levels vs (Some s) (None, joined, along) = absurd along
source_info_there levels vs (Some s) (Some fs, (parts, all, is), along) = some vs parts all is where
  some : (vs : List Value) (parts : List (List Field)) → AllZip (IsPartBelow levels (levels - 1)) vs parts → Some fs ≡ joined parts → IfThere (IsInside IsPlainSourceInfo levels) (Some s)
  some vs [] all is = absurd (cc is)
  some [] (gs ∷ parts) all is = absurd all
  some (v ∷ vs) (gs ∷ parts) all is = (all.0.1.0, source_info_plain (levels - 1) fs s along)

file_plain : MeansPlain IsFile IsPlainFile
file_plain levels fs x h = record {
  message_type = messages_plain (IsMessage levels) (IsPlainMessage levels) (values_at 4 fs) x.message_type.items (message_plain levels) h.message_type;
  enum_type = records_plain IsEnum IsPlainEnum levels (values_at 5 fs) x.enum_type.items enum_plain h.enum_type;
  service = records_plain IsService IsPlainService levels (values_at 6 fs) x.service.items service_plain h.service;
  extension = records_plain IsField IsPlainField levels (values_at 7 fs) x.extension.items field_plain h.extension;
  options = options_plain of.Other levels (values_at 8 fs) x.options h.options;
  source_code_info = source_info_there levels (values_at 9 fs) x.source_code_info h.source_code_info;
  public_dependency = int32s_plain (values_at 10 fs) x.public_dependency.items h.public_dependency;
  weak_dependency = int32s_plain (values_at 11 fs) x.weak_dependency.items h.weak_dependency;
}

pub file_says : (bytes : List ℕ) (f : FileDescriptorProto) → IsFileBytes bytes f → IsPlainFile 100 f
file_says bytes f (fs, spelled, means) = file_plain 100 fs f means

pub set_says : (bytes : List ℕ) (s : FileDescriptorSet) → IsSetBytes bytes s → IsPlainSet s
set_says bytes s (fs, spelled, means) = records_plain IsFile IsPlainFile 100 (values_at 1 fs) s.file.items file_plain means.file
