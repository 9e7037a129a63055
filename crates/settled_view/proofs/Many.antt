-- A pool has as many files as records, before files are linked into it and afterwards.
use Rattle.std.proofs.Common.{◌≡◌, ◌∙◌, ◌+◌, ◌++◌, List, map, length, ap, sym, arith, length-append}
use Rattle.std.proofs.lemmas.List.{length-map}
use Rattle.descriptor_records.specs.declared.file.FileDescriptorProto.{FileDescriptorProto}
use Rattle.reflect_build.specs.Accepted.{FaultlessFiles}
use Rattle.reflect_build.specs.Refusals.{IsOf, Linking, new_files}
use Rattle.reflect_known.specs.GivenNames.{names_of_file}
use Rattle.reflect_tables.specs.Types.{PoolType}
use Rattle.reflect_tables.specs.Views.{record_file, file_of, record_of}
use Rattle.reflect_tables.specs.declared.stored.StoredFile.{StoredFile}

-- before, since tables hold both together
pub as_many : (p : PoolType) (w : Linking) → IsOf p w → length p.files ≡ length p.records
as_many p w is =
    let stored : List StoredFile = w.tables.files.items in
    sym (ap (λ (q : PoolType). length q.files) is.tables) ∙ length-map stored file_of
    ∙ sym (length-map stored record_of) ∙ ap (λ (q : PoolType). length q.records) is.tables

-- afterwards, since as many records come as files
pub linked_many : (old linked : PoolType) (files : List FileDescriptorProto)
    → FaultlessFiles old files linked → length linked.files ≡ length linked.records
linked_many old linked files (w, is, (names, batch)) =
    let ns = new_files w.indexes files in
    let more : List FileDescriptorProto = batch.added.records.more in
    let of_files : length linked.files ≡ length old.files + length (map record_file ns) =
    ap length batch.added.files
    ∙ ap (λ (p : PoolType). length (p.files ++ map record_file ns)) is.tables
    ∙ length-append old.files (map record_file ns) in
    let of_records : length linked.records ≡ length old.records + length more =
    ap length batch.added.records.records
    ∙ ap (λ (p : PoolType). length (p.records ++ more)) is.tables
    ∙ length-append old.records more in
    let seen = length-map ns record_file in
    let new : length more ≡ length ns =
    sym (length-map more names_of_file) ∙ ap length batch.added.records.names
    ∙ length-map ns names_of_file in
    let many = as_many old w is in
    omega (arith, many, of_files, of_records, seen, new)
