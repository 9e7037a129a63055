-- What the fields and extensions of linked files hold (protobuf.dev, "Encoding", Packed Repeated
-- Fields; "Field Presence").
use Rattle.std.specs.Prelude.{ℤ, pos, Bool, false, not, ◌||◌, ◌&&◌, nat_le, is_some, Option, Some, None}
use Rattle.descriptor_records.specs.Content.{OptionsContent, FieldContent}
use Rattle.schema_view.specs.Rules.{is_number}

abbrev pub is_repeated : FieldContent → Bool
is_repeated f = is_number (pos 3) f.label

abbrev pub is_group : FieldContent → Bool
is_group f = is_number (pos 10) f.field_type

-- a message, behind its length or between the tags of a group
abbrev pub holds_message : FieldContent → Bool
holds_message f = is_group f || is_number (pos 11) f.field_type

-- numbers, bools and enums: no string (9), group, message or bytes (10 to 12)
abbrev pub is_packable : Option ℤ → Bool
is_packable (Some (pos n)) = nat_le 1 n && nat_le n 8 || nat_le 13 n && nat_le n 18
is_packable _ = false

abbrev pub packed_option : Option OptionsContent → Option Bool
packed_option None = None
packed_option (Some o) = o.packed

-- in proto3 unless the option says no, in proto2 only where it says yes
abbrev pub asks_packed : Bool → Option Bool → Bool
asks_packed proto3 None = proto3
asks_packed proto3 (Some b) = b

abbrev pub is_packed : Bool → FieldContent → Bool
is_packed proto3 f = is_repeated f
    && (is_packable f.field_type && asks_packed proto3 (packed_option f.options))

-- lists and maps have none; messages, members of oneofs, extensions and what is no field of proto3
-- have it
abbrev pub has_presence : (proto3 extension : Bool) → FieldContent → Bool
has_presence proto3 extension f =
    not (is_repeated f) && (holds_message f || (is_some f.oneof_index || (not proto3 || extension)))
