-- The fields of descriptor records, as they are written.
use Rattle.std.specs.Prelude.{ℕ, ℤ, List, [], ◌∷◌, ◌++◌, Option, Some, None, String, string_bytes, Bool, if◌then◌else◌}
use Rattle.std.specs.Int.{w64, cast_unsigned}
use Rattle.std.specs.List.{flat_map}
use Rattle.std.specs.declared.alloc.Global.{Global}
use Rattle.descriptor_records.specs.declared.options.Options.{Options}
use Rattle.reflect_wire.specs.Records.{key_of}
use Rattle.reflect_wire.specs.Encoding.{varint_bytes, key_bytes, delimited_bytes}
use Rattle.reflect_wire.specs.declared.wire_key.WireType.TheVariants.{Varint, LengthDelimited}

abbrev pub payload_field : ℕ → List ℕ → List ℕ
payload_field n payload = key_bytes (key_of n LengthDelimited) ++ delimited_bytes payload

abbrev pub number_field : ℕ → ℕ → List ℕ
number_field n v = key_bytes (key_of n Varint) ++ varint_bytes v

abbrev pub text_field : ℕ → Option (String Global) → List ℕ
text_field n None = []
text_field n (Some t) = payload_field n (string_bytes t)

abbrev pub texts_field : ℕ → List (String Global) → List ℕ
texts_field n = flat_map (λ t. payload_field n (string_bytes t))

-- a negative number is written in the ten bytes of its 64 bits
abbrev pub int32_field : ℕ → Option ℤ → List ℕ
int32_field n None = []
int32_field n (Some v) = number_field n (cast_unsigned w64 v)

abbrev pub int32s_field : ℕ → List ℤ → List ℕ
int32s_field n = flat_map (λ v. number_field n (cast_unsigned w64 v))

abbrev pub packed_field : ℕ → List ℤ → List ℕ
packed_field n [] = []
packed_field n (v ∷ vs) = payload_field n
    (flat_map (λ v. varint_bytes (cast_unsigned w64 v)) (v ∷ vs))

abbrev pub bool_field : ℕ → Option Bool → List ℕ
bool_field n None = []
bool_field n (Some v) = number_field n (if v then 1 else 0)

abbrev pub record_field : {R : Type 0} → (R → List ℕ) → ℕ → Option R → List ℕ
record_field bytes n None = []
record_field bytes n (Some r) = payload_field n (bytes r)

abbrev pub records_field : {R : Type 0} → (R → List ℕ) → ℕ → List R → List ℕ
records_field bytes n = flat_map (λ r. payload_field n (bytes r))

-- the bytes that the options hold
abbrev pub options_field : ℕ → Option Options → List ℕ
options_field n None = []
options_field n (Some o) = payload_field n o.encoded.items
