-- What edits put into records: options at a path, and the path of a location. A path goes down from
-- a record: each step has the number of a list in `descriptor.proto` and a place in that list. The
-- empty path is the record's own, and one that leads to no record with options changes nothing.
use Rattle.std.specs.Prelude.{ℕ, zero, suc, ℤ, pos, negsuc, List, [], ◌∷◌, cond, option_map, Option, Some, None}
use Rattle.std.specs.Ordering.{int_eq}
use Rattle.descriptor_records.specs.Content.{OptionsContent, FieldContent, OneofContent, EnumValueContent, EnumContent, MethodContent, ServiceContent, LocationContent, ExtensionRangeContent, MessageContent, message, MessageContents, no_messages, more_messages, FileContent, options_view}
use Rattle.reflect_growth.specs.declared.settle.Edit.{Edit}
use Rattle.reflect_growth.specs.declared.settle.Edit.TheVariants as edits

-- the first step of a path, if it has one, and what is left
abbrev pub step_of : List ℤ → Option (ℤ × ℕ × List ℤ)
step_of [] = None
step_of (number ∷ []) = None
step_of (number ∷ pos place ∷ rest) = Some (number, place, rest)
step_of (number ∷ negsuc n ∷ rest) = None

-- the entry at a place, if there is one, in another form
abbrev pub with_at : {A : Type 0} → ℕ → (A → A) → List A → List A
with_at place f [] = []
with_at zero f (x ∷ xs) = f x ∷ xs
with_at (suc place) f (x ∷ xs) = x ∷ with_at place f xs

abbrev pub nested_at : ℕ → (MessageContent → MessageContent) → MessageContents → MessageContents
nested_at place f no_messages = no_messages
nested_at zero f (more_messages m ms) = more_messages (f m) ms
nested_at (suc place) f (more_messages m ms) = more_messages m (nested_at place f ms)

-- a list of the given number behind a step, which may lead to another list
abbrev pub put_in : {A : Type 0} → ℕ → (A → A) → ℤ → ℤ → List A → List A
put_in list f number (pos place) xs = cond (int_eq number (pos list)) (with_at place f xs) xs
put_in list f number (negsuc n) xs = xs

abbrev pub put_nested : (MessageContent → MessageContent) → ℤ → ℤ → MessageContents
    → MessageContents
put_nested f number (pos place) ms = cond (int_eq number (pos 3)) (nested_at place f ms) ms
put_nested f number (negsuc n) ms = ms

-- the options of what the rest of a path has led to
abbrev pub own_put : List ℤ → OptionsContent → Option OptionsContent → Option OptionsContent
own_put [] o was = Some o
own_put (number ∷ rest) o was = was

abbrev pub field_put : List ℤ → OptionsContent → FieldContent → FieldContent
field_put path o f = record f { options = own_put path o f.options }

abbrev pub oneof_put : List ℤ → OptionsContent → OneofContent → OneofContent
oneof_put path o x = record x { options = own_put path o x.options }

abbrev pub range_put : List ℤ → OptionsContent → ExtensionRangeContent → ExtensionRangeContent
range_put path o r = record r { options = own_put path o r.options }

abbrev pub value_put : List ℤ → OptionsContent → EnumValueContent → EnumValueContent
value_put path o v = record v { options = own_put path o v.options }

abbrev pub method_put : List ℤ → OptionsContent → MethodContent → MethodContent
method_put path o m = record m { options = own_put path o m.options }

-- options of an enum, or of one of its values
abbrev pub enum_put : List ℤ → OptionsContent → EnumContent → EnumContent
enum_put [] o e = record e { options = Some o }
enum_put (number ∷ []) o e = e
enum_put (number ∷ place ∷ rest) o e =
    record e { value = put_in 2 (value_put rest o) number place e.value }

-- options of a service, or of one of its methods
abbrev pub service_put : List ℤ → OptionsContent → ServiceContent → ServiceContent
service_put [] o s = record s { options = Some o }
service_put (number ∷ []) o s = s
service_put (number ∷ place ∷ rest) o s =
    record s { method = put_in 2 (method_put rest o) number place s.method }

-- options of a message, or of what is declared in it
abbrev pub message_put : List ℤ → OptionsContent → MessageContent → MessageContent
message_put [] o
    (message name fields extensions nested enums ranges oneofs options reserved names) =
    message name fields extensions nested enums ranges oneofs (Some o) reserved names
message_put (number ∷ []) o m = m
message_put (number ∷ place ∷ rest) o
    (message name fields extensions nested enums ranges oneofs options reserved names) =
    message name
    (put_in 2 (field_put rest o) number place fields)
    (put_in 6 (field_put rest o) number place extensions)
    (put_nested (message_put rest o) number place nested)
    (put_in 4 (enum_put rest o) number place enums)
    (put_in 5 (range_put rest o) number place ranges)
    (put_in 8 (oneof_put rest o) number place oneofs)
    options reserved names

-- options of a file, or of what is declared in it
abbrev pub file_put : List ℤ → OptionsContent → FileContent → FileContent
file_put [] o f = record f { options = Some o }
file_put (number ∷ []) o f = f
file_put (number ∷ place ∷ rest) o f = record f {
  message_type = put_in 4 (message_put rest o) number place f.message_type;
  enum_type = put_in 5 (enum_put rest o) number place f.enum_type;
  service = put_in 6 (service_put rest o) number place f.service;
  extension = put_in 7 (field_put rest o) number place f.extension;
}

abbrev pub location_put : List ℤ → LocationContent → LocationContent
location_put path l = record l { path = path }

-- the path of the location at a place
abbrev pub path_put : ℕ → List ℤ → FileContent → FileContent
path_put place path f = record f {
  source_code_info = option_map (with_at place (location_put path)) f.source_code_info;
}

-- files behind an edit, which names one of them by its place
abbrev pub edited : List FileContent → Edit → List FileContent
edited fs (edits.Options file path options) =
    with_at file (file_put path.items (options_view options)) fs
edited fs (edits.Location file place path) = with_at file (path_put place path.items) fs
