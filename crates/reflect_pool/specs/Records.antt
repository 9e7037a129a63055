-- The record at a path of a file's record. A path goes down from the file: each step has the number
-- of a list in
-- `descriptor.proto` and a place in that list (descriptor.proto, SourceCodeInfo.Location).
use Rattle.std.specs.Prelude.{ℤ, pos, negsuc, ◌-◌, List, [], ◌∷◌, length, take, drop, cond, Option, None, slice_get}
use Rattle.std.specs.Option.{option_and_then}
use Rattle.std.specs.Ordering.{int_eq}
use Rattle.descriptor_records.specs.declared.enums.EnumDescriptorProto.{EnumDescriptorProto}
use Rattle.descriptor_records.specs.declared.enums.EnumValueDescriptorProto.{EnumValueDescriptorProto}
use Rattle.descriptor_records.specs.declared.field.FieldDescriptorProto.{FieldDescriptorProto}
use Rattle.descriptor_records.specs.declared.field.OneofDescriptorProto.{OneofDescriptorProto}
use Rattle.descriptor_records.specs.declared.file.FileDescriptorProto.{FileDescriptorProto}
use Rattle.descriptor_records.specs.declared.message.DescriptorProto.{DescriptorProto}
use Rattle.descriptor_records.specs.declared.message.DescriptorProto.TheViews.{out-DescriptorProto}
use Rattle.descriptor_records.specs.declared.service.MethodDescriptorProto.{MethodDescriptorProto}
use Rattle.descriptor_records.specs.declared.service.ServiceDescriptorProto.{ServiceDescriptorProto}

abbrev pub item_at : {X : Type 0} → List X → ℤ → Option X
item_at xs (pos k) = slice_get xs k
item_at xs (negsuc k) = None

-- what a step leads to in the list of a number; nothing where it goes to another list
abbrev pub entry_of : {X : Type 0} → ℤ → List X → ℤ → ℤ → Option X
entry_of list xs number place = cond (int_eq number list) (item_at xs place) None

abbrev pub nested_of : DescriptorProto → List DescriptorProto
nested_of m = (out-DescriptorProto m).nested_type.items

-- the message at a path that goes on from a message
abbrev pub message_below : Option DescriptorProto → List ℤ → Option DescriptorProto
message_below m [] = m
message_below m (number ∷ []) = None
message_below m (number ∷ place ∷ path) =
    message_below (option_and_then (λ d. entry_of (pos 3) (nested_of d) number place) m) path

-- the message at a path
abbrev pub message_along : FileDescriptorProto → List ℤ → Option DescriptorProto
message_along f [] = None
message_along f (number ∷ []) = None
message_along f (number ∷ place ∷ path) =
    message_below (entry_of (pos 4) f.message_type.items number place) path

-- the path without its last step, and this step
abbrev pub before_last : List ℤ → List ℤ
before_last path = take (length path - 2) path

abbrev pub last_step : List ℤ → List ℤ
last_step path = drop (length path - 2) path

abbrev pub entry_at : {X : Type 0} → ℤ → List X → List ℤ → Option X
entry_at list xs (number ∷ place ∷ []) = entry_of list xs number place
entry_at list xs _ = None

-- an entry of the list of a number in the message that holds it
abbrev pub entry_along : {X : Type 0} → ℤ → (DescriptorProto → List X) → FileDescriptorProto
    → List ℤ → Option X
entry_along list entries f path =
    option_and_then (λ m. entry_at list (entries m) (last_step path))
    (message_along f (before_last path))

abbrev pub field_along : FileDescriptorProto → List ℤ → Option FieldDescriptorProto
field_along = entry_along (pos 2) (λ m. (out-DescriptorProto m).field.items)

abbrev pub oneof_along : FileDescriptorProto → List ℤ → Option OneofDescriptorProto
oneof_along = entry_along (pos 8) (λ m. (out-DescriptorProto m).oneof_decl.items)

-- an entry of a list of the file where the path has one step, and else of a list in a message
abbrev pub held_along : {X : Type 0} → ℤ → List X → ℤ → (DescriptorProto → List X)
    → FileDescriptorProto → List ℤ → Option X
held_along own items list entries f path = elim (before_last path) [
  | [] ↦ entry_at own items (last_step path)
  | _ ↦ entry_along list entries f path
]

abbrev pub enum_along : FileDescriptorProto → List ℤ → Option EnumDescriptorProto
enum_along f = held_along (pos 5) f.enum_type.items (pos 4)
    (λ m. (out-DescriptorProto m).enum_type.items) f

abbrev pub extension_along : FileDescriptorProto → List ℤ → Option FieldDescriptorProto
extension_along f = held_along (pos 7) f.extension.items (pos 6)
    (λ m. (out-DescriptorProto m).extension.items) f

abbrev pub value_along : FileDescriptorProto → List ℤ → Option EnumValueDescriptorProto
value_along f path = option_and_then
    (λ (e : EnumDescriptorProto). entry_at (pos 2) e.value.items (last_step path))
    (enum_along f (before_last path))

abbrev pub service_along : FileDescriptorProto → List ℤ → Option ServiceDescriptorProto
service_along f path = entry_at (pos 6) f.service.items path

abbrev pub method_along : FileDescriptorProto → List ℤ → Option MethodDescriptorProto
method_along f path = option_and_then
    (λ (s : ServiceDescriptorProto). entry_at (pos 2) s.method.items (last_step path))
    (service_along f (before_last path))
