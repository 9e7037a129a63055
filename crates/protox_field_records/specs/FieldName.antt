-- Names of fields in their records.
--
-- Source: "Groups" of the proto2 language guide on protobuf.dev.
use Rattle.std.specs.Prelude.{ℕ, Bool, if◌then◌else◌, List, map}
use Rattle.std.specs.Char.{to_ascii_lowercase}

-- A group's field is named like its type, in ASCII lower case; any other field is named as it is
-- written.
abbrev pub field_name_of : List ℕ → Bool → List ℕ
field_name_of name is_group = if is_group then map to_ascii_lowercase name else name
