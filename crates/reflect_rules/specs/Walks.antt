-- What a walk over declarations has at hand.
use Rattle.std.specs.Prelude.{ℕ, List, Bool, false, Option, Some, None, string_bytes, codes}
use Rattle.std.specs.Borrow.{Bor}
use Rattle.std.specs.Str.{bytes_eq}
use Rattle.reflect_names.specs.declared.resolve_visitor.Reference.{Reference}
use Rattle.descriptor_records.specs.declared.file.FileDescriptorProto.{FileDescriptorProto}
use Rattle.std.specs.Prelude.{length, []}
use Rattle.reflect_declarations.specs.Declarations.{Declaration, of_file, of_message}
use Rattle.reflect_tables.specs.Ranges.{Range}
use Rattle.reflect_tables.specs.Views.{ranges_of}
use Rattle.reflect_rules.specs.TypesSay.{TypesSay}
use Rattle.reflect_references.specs.Meanings.{rest_behind}
use Rattle.reflect_tables.specs.declared.ranges.NumberRanges.{NumberRanges}
use Rattle.reflect_rules.specs.declared.uses.EntryUse.{EntryUse}

abbrev pub ranges_in : Option (Bor NumberRanges) → List Range
ranges_in None = []
ranges_in (Some r) = ranges_of r.now

-- what stays: the types, how those of maps' entries are used, and the index of the first message of
-- the files
pub record Facts : Type 0 where
  pub types : TypesSay
  pub uses : ℕ → Option EntryUse
  pub first : ℕ

-- what changes: the references that are not met yet, whether the file is of proto3, and how many
-- oneofs the last message has
pub record Place : Type 0 where
  pub rest : List Reference
  pub is_proto3 : Bool
  pub oneofs : ℕ

abbrev pub is_proto3_of : FileDescriptorProto → Bool
is_proto3_of f = elim f.syntax
    [ None ↦ false | Some s ↦ bytes_eq (string_bytes s) (codes "proto3") ]

abbrev pub proto3_behind : Declaration → Bool → Bool
proto3_behind d is_proto3 = elim d.body [ of_file f ↦ is_proto3_of f | _ ↦ is_proto3 ]

abbrev pub oneofs_behind : Declaration → ℕ → ℕ
oneofs_behind d oneofs = elim d.body [ of_message m ↦ length m.oneof_decl | _ ↦ oneofs ]

abbrev pub place_behind : Place → Declaration → Place
place_behind p d = record {
  rest = rest_behind d p.rest;
  is_proto3 = proto3_behind d p.is_proto3;
  oneofs = oneofs_behind d p.oneofs;
}
