-- The scalar types, by the word of each.
use Rattle.std.specs.Prelude.{if◌then◌else◌, Option, Some, None, codes}
use Rattle.std.specs.Str.{bytes_eq}
use Rattle.protox_lex.specs.Class.{Text}
use Rattle.descriptor_records.specs.declared.field.FieldType.{FieldType}
use Rattle.descriptor_records.specs.declared.field.FieldType.TheVariants as types
use Rattle.protox_tree.specs.Tree.{Ty, scalar, named, type_text}

abbrev pub scalar_of : Text → Option FieldType
scalar_of t =
    if bytes_eq t (codes "double") then Some types.Double
    else if bytes_eq t (codes "float") then Some types.Float
    else if bytes_eq t (codes "int32") then Some types.Int32
    else if bytes_eq t (codes "int64") then Some types.Int64
    else if bytes_eq t (codes "uint32") then Some types.Uint32
    else if bytes_eq t (codes "uint64") then Some types.Uint64
    else if bytes_eq t (codes "sint32") then Some types.Sint32
    else if bytes_eq t (codes "sint64") then Some types.Sint64
    else if bytes_eq t (codes "fixed32") then Some types.Fixed32
    else if bytes_eq t (codes "fixed64") then Some types.Fixed64
    else if bytes_eq t (codes "sfixed32") then Some types.Sfixed32
    else if bytes_eq t (codes "sfixed64") then Some types.Sfixed64
    else if bytes_eq t (codes "bool") then Some types.Bool
    else if bytes_eq t (codes "string") then Some types.String
    else if bytes_eq t (codes "bytes") then Some types.Bytes
    else None

-- the type, where it has a word of its own
abbrev pub scalar_type : Ty → Option FieldType
scalar_type (scalar t span) = Some t
scalar_type (named name) = None

-- the name as it is written, where the type has none
abbrev pub written_name : Ty → Option Text
written_name (scalar t span) = None
written_name (named name) = Some (type_text name)
