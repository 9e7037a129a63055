-- Message types that say of themselves that they are the types of maps' entries.
use Rattle.std.specs.Prelude.{Bool, false, Option, Some, None}
use Rattle.descriptor_records.specs.declared.options.Options.{Options}

abbrev pub is_true : Option Bool → Bool
is_true None = false
is_true (Some b) = b

abbrev pub says_entry : Option Options → Bool
says_entry None = false
says_entry (Some o) = is_true o.map_entry
