-- Oneofs that no source wrote: those of the fields which tell of presence in proto3.
--
-- Source: "Field Presence" of the language guides on protobuf.dev.
use Rattle.std.specs.Prelude.{◌≡◌, ◌<◌, ◌++◌, ℕ, Bool, true, false, List, [], ◌∷◌, Option, Some, None, replicate}
use Rattle.std.specs.List.{flat_map, list_any}
use Rattle.std.specs.Str.{bytes_eq}
use Rattle.descriptor_records.specs.Content.{EnumContent, FieldContent, MessageContent, message, MessageContents, no_messages, more_messages, OneofContent}
use Rattle.protox_lex.specs.Class.{Text}

-- ---- the names that stand directly in a message

abbrev pub if_named : Option Text → List Text
if_named None = []
if_named (Some name) = name ∷ []

abbrev pub field_names : List FieldContent → List Text
field_names fs = flat_map (λ f. if_named f.name) fs

abbrev pub type_names : MessageContents → List Text
type_names no_messages = []
type_names (more_messages (message name fields extensions nested enums ranges oneofs options
    reserved names) ms) =
    if_named name ++ type_names ms

abbrev pub enum_names : List EnumContent → List Text
enum_names es = flat_map (λ e. if_named e.name) es

abbrev pub oneof_names : List OneofContent → List Text
oneof_names os = flat_map (λ o. if_named o.name) os

-- The names of a message's fields, extensions, types, enums and oneofs. Values of its enums are
-- none of them.
abbrev pub names_of : List FieldContent → List FieldContent → MessageContents → List EnumContent
    → List OneofContent → List Text
names_of fields extensions nested enums oneofs =
    field_names fields ++ (field_names extensions
    ++ (type_names nested ++ (enum_names enums ++ oneof_names oneofs)))

-- those of a message's record
abbrev pub names_in : MessageContent → List Text
names_in (message name fields extensions nested enums ranges oneofs options reserved names) =
    names_of fields extensions nested enums oneofs

-- ---- names that are free

abbrev pub is_taken : List Text → Text → Bool
is_taken names name = list_any (bytes_eq name) names

-- these lists have the same names
abbrev pub AreSame : List Text → List Text → Type 0
AreSame xs ys = (name : Text) → is_taken xs name ≡ is_taken ys name

-- a name with so many letters `X` in front
abbrev pub behind_letters : ℕ → Text → Text
behind_letters count name = replicate count 88 ++ name

-- This is the name with as few letters `X` in front as make it none of those that are taken.
abbrev pub IsFreed : List Text → Text → Text → Type 0
IsFreed taken name made =
    (count : ℕ) × (made ≡ behind_letters count name) × (is_taken taken made ≡ false)
    × ((fewer : ℕ) → fewer < count → is_taken taken (behind_letters fewer name) ≡ true)

-- ---- oneofs

-- The oneof of a field of this name: it has no options, and its name is `_` and the field's, freed
-- of those that are taken.
abbrev pub IsNamedAfter : List Text → Text → OneofContent → Type 0
IsNamedAfter taken name o =
    (made : Text) × IsFreed taken (95 ∷ name) made
    × (o ≡ record { name = Some made; options = None })

-- One oneof for each of these fields, in order.
abbrev pub AreNamedAfter : List Text → List Text → List OneofContent → Type 0
AreNamedAfter taken [] [] = Unit {0}
AreNamedAfter taken [] (o ∷ os) = ⊥
AreNamedAfter taken (name ∷ names) [] = ⊥
AreNamedAfter taken (name ∷ names) (o ∷ os) = IsNamedAfter taken name o
    × AreNamedAfter taken names os
