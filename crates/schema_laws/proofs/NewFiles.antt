-- Of the contents of files those are new that a pool lacks.
use Rattle.std.proofs.Common.{◌≡◌, ◌∙◌, List, Bool, true, map, None, Some, not, ap, refl}
use Rattle.std.proofs.Math.Path.{fun_ext}
use Rattle.std.specs.List.{filter}
use Rattle.std.specs.Prelude.{is_some, option_map, string_bytes}
use Rattle.descriptor_records.specs.Content.{FileContent, file_view}
use Rattle.descriptor_records.specs.declared.file.FileDescriptorProto.{FileDescriptorProto}
use Rattle.reflect_build.specs.Refusals.{is_unknown, new_files}
use Rattle.reflect_growth.proofs.Filters.{map-filter}
use Rattle.reflect_scope.specs.FileIndexes.{Indexes}

-- a pool with these files lacks such a file
abbrev pub lacks : Indexes → FileContent → Bool
lacks indexes f = elim f.name [ None ↦ true | Some n ↦ not (is_some (indexes n)) ]

lacked : (indexes : Indexes) (f : FileDescriptorProto) → is_unknown indexes f ≡ lacks indexes (file_view f)
lacked indexes f = elim f.name as (λ o. elim o [ None ↦ true | Some s ↦ not (is_some (indexes (string_bytes s))) ] ≡ elim (option_map string_bytes o) [ None ↦ true | Some n ↦ not (is_some (indexes n)) ])
    [ None ↦ refl | Some s ↦ refl ]

pub new_seen : (indexes : Indexes) (fs : List FileDescriptorProto) → map file_view (new_files indexes fs) ≡ filter (lacks indexes) (map file_view fs)
new_seen indexes fs =
    ap (λ (p : FileDescriptorProto → Bool). map file_view (filter p fs)) (fun_ext (lacked indexes)) ∙ map-filter file_view (lacks indexes) fs
