-- The set that is written of a schema is read as its records.
use denote.RawPtr.{null_ptr}
use Rattle.std.proofs.Common.{◌≡◌, ◌<◌, ◌^◌, ◌∙◌, ◌+◌, ◌≤◌, ℕ, List, [], ◌∷◌, ◌++◌, Bool, true, false, ltb, map, length, ap, refl, sym, arith}
use Rattle.std.proofs.lemmas.Bool.{ltb-false, ltb-true}
use Rattle.std.proofs.lemmas.List.{length-append}
use Rattle.std.specs.List.{AllByRecursion}
use Rattle.descriptor_records.specs.Content.{file_view}
use Rattle.descriptor_records.specs.declared.file.FileDescriptorProto.{FileDescriptorProto}
use Rattle.descriptor_records.specs.declared.file.FileDescriptorSet.{FileDescriptorSet}
use Rattle.reflect_bytes.specs.Spelled.{SpellsSet}
use Rattle.reflect_bytes.specs.Written.{pool_bytes}
use Rattle.reflect_codec.specs.Fields.{payload_field, records_field}
use Rattle.reflect_codec.specs.Written.{file_bytes}
use Rattle.reflect_wire.proofs.Encodings.{varint_bytes-last, varint_bytes-more}
use Rattle.reflect_wire.specs.Encoding.{key_bytes, varint_bytes}
use Rattle.reflect_wire.specs.Records.{key_of}
use Rattle.reflect_wire.specs.Key.{key_code}
use Rattle.reflect_wire.specs.declared.wire_key.WireType.TheVariants.{LengthDelimited}
use Rattle.codec_laws.specs.Plain as records
use Rattle.codec_laws.proofs.Again.{files_read_again}
use Rattle.codec_laws.proofs.Written.{files_read}
use Rattle.plain_records.specs.PlainRecords.{ArePlainFiles, IsInside, IsPlainFile}
use Rattle.plain_records.specs.SaidOptions.{SaysAndIsSettled}
use Rattle.plain_records.proofs.Contents.{file_from}
use Rattle.schema_core.specs.declared.schema.Schema.{Schema}
use Rattle.schema_laws.specs.Records.{HasPlainRecords}
use Rattle.schema_laws.proofs.Lists.{all_from}

-- records that bytes can say
each_plain : (fs : List FileDescriptorProto) → ArePlainFiles SaysAndIsSettled (map file_view fs) → AllByRecursion (IsInside records.IsPlainFile 100) fs
each_plain = all_from file_view (IsPlainFile SaysAndIsSettled 99) (IsInside records.IsPlainFile 100) (λ f is. (omega arith, file_from 99 f is))

-- each file is written in two bytes or more
some_bytes : (n : ℕ) → 1 ≤ length (varint_bytes n)
some_bytes n = by (ltb n 128) refl
  where
    by : (b : Bool) → ltb n 128 ≡ b → 1 ≤ length (varint_bytes n)
    by true e = let small = ltb-true n 128 e in let one = ap length (varint_bytes-last n small) in omega (arith, one)
    by false e = let large = ltb-false n 128 e in let more = ap length (varint_bytes-more n large) in omega (arith, more)

two_bytes : (b : List ℕ) → 2 ≤ length (payload_field 1 b)
two_bytes b =
    let key = key_bytes (key_of 1 LengthDelimited) in
    let whole = length-append key (varint_bytes (length b) ++ b) in
    let inner = length-append (varint_bytes (length b)) b in
    omega (arith, whole, inner, some_bytes (key_code (key_of 1 LengthDelimited)), some_bytes (length b))

no_fewer : (fs : List FileDescriptorProto) → length fs + length fs ≤ length (records_field file_bytes 1 fs)
no_fewer [] = omega arith
no_fewer (f ∷ fs) =
    let long = length-append (payload_field 1 (file_bytes f)) (records_field file_bytes 1 fs) in
    omega (arith, long, two_bytes (file_bytes f), no_fewer fs)

module _ (s : Schema) (plain : HasPlainRecords s.pool) (short : length (pool_bytes s.pool) < 2 ^ 64) where
  -- the set of its files, somewhere in memory
  abbrev own_set : FileDescriptorSet
  own_set = record {
    file = record {
      items = s.pool.records;
      ptr = null_ptr;
      len = length s.pool.records;
      cap = length s.pool.records;
      alloc = s.alloc;
      ok = (refl, omega arith);
      small = omega (arith, short, no_fewer s.pool.records);
    };
  }

  pub own_read : SpellsSet (pool_bytes s.pool) s.pool.records
  own_read =
      let r = files_read s.pool.records (each_plain s.pool.records plain) short in
      (own_set, (r.0, r.1, record { file = r.2 }), refl)

  pub own_same : (files : List FileDescriptorProto) → SpellsSet (pool_bytes s.pool) files → map file_view files ≡ map file_view s.pool.records
  own_same files (t, means, are) =
      ap (map file_view) (sym are) ∙ files_read_again s.pool.records t (each_plain s.pool.records plain) short means
