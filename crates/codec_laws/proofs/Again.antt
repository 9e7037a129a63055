-- Files that are written, and read again.
use Rattle.std.proofs.Common.{◌≡◌, ◌<◌, ◌^◌, List, [], ◌∷◌, map, length, refl, subst}
use Rattle.std.specs.List.{AllByRecursion, AllZip}
use Rattle.descriptor_records.specs.Content.{file_view, set_view}
use Rattle.descriptor_records.specs.declared.file.FileDescriptorSet.{FileDescriptorSet}
use Rattle.descriptor_records.specs.declared.file.FileDescriptorProto.{FileDescriptorProto}
use Rattle.reflect_codec.specs.Fields.{records_field}
use Rattle.reflect_codec.specs.Meaning.{IsFile, IsSet, IsSetBytes}
use Rattle.reflect_codec.specs.Reading.{IsRecord, Value, values_at}
use Rattle.reflect_codec.specs.Written.{file_bytes, set_bytes}
use Rattle.reflect_codec.proofs.Parts.{one_fields, one_part}
use Rattle.reflect_codec.proofs.Unique.{one_file, one_set}
use Rattle.codec_laws.specs.Plain.{IsInside, IsPlainFile, IsPlainSet}
use Rattle.codec_laws.proofs.Written.{files_read, set_read}

pub read_again : (s t : FileDescriptorSet) → IsPlainSet s → length (set_bytes s) < 2 ^ 64 → IsSetBytes (set_bytes s) t → set_view t ≡ set_view s
read_again s t plain short k =
    let h = set_read s plain short in
    one_set 100 k.0 t s k.2 (subst (λ fs. IsSet 100 fs s) (one_fields 100 (set_bytes s) h.0 k.0 h.1 k.1) h.2)

-- records that are read of the same values have one content
one_each : (vs : List Value) (xs ys : List FileDescriptorProto) → AllZip (IsRecord IsFile 100) vs xs → AllZip (IsRecord IsFile 100) vs ys → map file_view xs ≡ map file_view ys
one_each [] [] [] h k = refl
one_each [] [] (y ∷ ys) h k = absurd k
one_each [] (x ∷ xs) ys h k = absurd h
one_each (v ∷ vs) [] ys h k = absurd h
one_each (v ∷ vs) (x ∷ xs) [] h k = absurd k
one_each (v ∷ vs) (x ∷ xs) (y ∷ ys) h k =
    let same = one_file 99 h.0.0 x y h.0.2 (subst (λ fs. IsFile 99 fs y) (one_part 100 99 v k.0.0 h.0.0 k.0.1 h.0.1) k.0.2) in
    λ i. same i ∷ one_each vs xs ys h.1 k.1 i

pub files_read_again : (xs : List FileDescriptorProto) (t : FileDescriptorSet) → AllByRecursion (IsInside IsPlainFile 100) xs → length (records_field file_bytes 1 xs) < 2 ^ 64
    → IsSetBytes (records_field file_bytes 1 xs) t → set_view t ≡ map file_view xs
files_read_again xs t plain short k =
    let h = files_read xs plain short in
    let same = one_fields 100 (records_field file_bytes 1 xs) h.0 k.0 h.1 k.1 in
    one_each (values_at 1 k.0) t.file.items xs k.2.file (subst (λ fs. AllZip (IsRecord IsFile 100) (values_at 1 fs) xs) same h.2)
