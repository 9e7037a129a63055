-- What the parts of a message that are printed stand for.
use Rattle.std.specs.Prelude.{ℕ, List, [], Option, None, Some}
use Rattle.reflect_wire.specs.Views.{field_view}
use Rattle.reflect_pool.specs.FieldsLeft.{field_type}
use Rattle.reflect_scalar.specs.FieldTypes.{extension_pool, extension_type, field_pool}
use Rattle.reflect_message.specs.Shown.{shown}
use Rattle.reflect_message.specs.Names.{DynamicMessage}
use Rattle.print_parts.specs.Entries.{Entry, field, extension, undeclared}
use Rattle.print_parts.specs.Expands.{text_of, Expands}
use Rattle.print_parts.specs.declared.any.Held.{Held}
use Rattle.print_parts.specs.declared.entries.Declared.{Declared}
use Rattle.print_parts.specs.declared.entries.Other.{Other}
use Rattle.print_parts.specs.declared.entries.Other.TheVariants as others

abbrev pub declared_entry : Declared → Entry
declared_entry d = field (field_pool d.field) (field_type d.field) (shown d.value)

abbrev pub other_entry : Other → Entry
other_entry (others.Extension x v) = extension (extension_pool x) (extension_type x) v.now
other_entry (others.Unknown r) = undeclared (field_view r.now)

abbrev pub url_in : Option (List ℕ) → List ℕ
url_in None = []
url_in (Some url) = url

-- the URL under which a message is printed
abbrev pub url_of : Held → List ℕ
url_of h = url_in (text_of (shown h.type_url))

-- the message that is printed in place of another, or none
abbrev pub HoldsIn : DynamicMessage → Option Held → Type 0
HoldsIn m None = Expands m None
HoldsIn m (Some h) = Expands m (Some (url_of h, h.body))
