-- The entities of a file by its content, each without the file that it is in.
use Rattle.std.proofs.Common.{◌≡◌, ◌+◌, ◌++◌, ℕ, ℤ, pos, List, [], ◌∷◌, map, Option, Some, None, ap}
use Rattle.std.specs.List.{AllZip}
use Rattle.std.specs.Option.{option_map}
use Rattle.descriptor_records.specs.Content.{EnumContent, EnumValueContent, ExtensionRangeContent, FieldContent, FileContent, MessageContent, message, MessageContents, more_messages, no_messages, messages_of, MethodContent, OneofContent, OptionsContent, ServiceContent, Text, options_view}
use Rattle.option_parts.specs.declared.option_scope.OptionScope.{OptionScope}
use Rattle.option_parts.specs.declared.option_scope.OptionScope.TheVariants as scopes
use Rattle.reflect_declarations.specs.Declarations.{each, entry}
use Rattle.reflect_options.specs.Entities.{Entity}
use Rattle.reflect_scope.specs.Means.{join}
use Rattle.settled_records.specs.Alike.{IsSameEntity}

-- what is told of an entity, whatever its file
pub record Told : Type 0 where
  pub scope : OptionScope
  pub path : List ℤ
  pub number : ℤ
  pub name : List ℕ
  pub options : Option OptionsContent

abbrev pub told : Entity → Told
told c = record { scope = c.scope; path = c.path; number = c.number; name = c.name; options = option_map options_view c.options }

-- ---- equal lists tell of the same entities
pub head_is : {A : Type 0} (x y : A) (xs ys : List A) → x ∷ xs ≡ y ∷ ys → x ≡ y
head_is x y xs ys e = cc e

pub tail_is : {A : Type 0} (x y : A) (xs ys : List A) → x ∷ xs ≡ y ∷ ys → xs ≡ ys
tail_is x y xs ys e = cc e

told_same : (c d : Entity) → told c ≡ told d → IsSameEntity c d
told_same c d e = record {
  scope = ap (λ (t : Told). t.scope) e;
  path = ap (λ (t : Told). t.path) e;
  number = ap (λ (t : Told). t.number) e;
  name = ap (λ (t : Told). t.name) e;
  options = ap (λ (t : Told). t.options) e;
}

pub all_told_same : (cs ds : List Entity) → map told cs ≡ map told ds → AllZip IsSameEntity cs ds
all_told_same [] [] e = tt
all_told_same [] (d ∷ ds) e = absurd (cc e)
all_told_same (c ∷ cs) [] e = absurd (cc e)
all_told_same (c ∷ cs) (d ∷ ds) e = (
  told_same c d (head_is (told c) (told d) (map told cs) (map told ds) e),
  all_told_same cs ds (tail_is (told c) (told d) (map told cs) (map told ds) e),
)

-- ---- what a content tells of
abbrev pub tells : OptionScope → List ℤ → ℤ → List ℕ → Option OptionsContent → Told
tells scope path number name options = record { scope = scope; path = path; number = number; name = name; options = options }

-- a text that may be missing
abbrev pub text_in : Option Text → List ℕ
text_in None = []
text_in (Some t) = t

abbrev pub field_tells : List ℤ → List ℕ → ℕ → FieldContent → List Told
field_tells path scope k f = tells scopes.Field (entry path (pos 2) k) (pos 8) (join scope (text_in f.name)) f.options ∷ []

abbrev pub oneof_tells : List ℤ → List ℕ → ℕ → OneofContent → List Told
oneof_tells path scope k o = tells scopes.Oneof (entry path (pos 8) k) (pos 2) (join scope (text_in o.name)) o.options ∷ []

abbrev pub value_tells : List ℤ → List ℕ → ℕ → EnumValueContent → List Told
value_tells path scope k v = tells scopes.EnumValue (entry path (pos 2) k) (pos 3) (join scope (text_in v.name)) v.options ∷ []

abbrev pub enum_tells : List ℤ → ℤ → List ℕ → ℕ → EnumContent → List Told
enum_tells path tag scope k e =
    tells scopes.Enum (entry path tag k) (pos 3) (join scope (text_in e.name)) e.options ∷ each (value_tells (entry path tag k) scope) 0 e.value

abbrev pub method_tells : List ℤ → List ℕ → ℕ → MethodContent → List Told
method_tells path scope k m = tells scopes.Method (entry path (pos 2) k) (pos 4) (join scope (text_in m.name)) m.options ∷ []

-- a service of this name
abbrev pub named_service_tells : List ℕ → ℕ → ServiceContent → List Told
named_service_tells name k s = tells scopes.Service (entry [] (pos 6) k) (pos 3) name s.options ∷ each (method_tells (entry [] (pos 6) k) name) 0 s.method

abbrev pub service_tells : List ℕ → ℕ → ServiceContent → List Told
service_tells scope k s = named_service_tells (join scope (text_in s.name)) k s

abbrev pub extension_tells : List ℤ → ℤ → List ℕ → ℕ → FieldContent → List Told
extension_tells path tag scope k x = tells scopes.Field (entry path tag k) (pos 8) (join scope (text_in x.name)) x.options ∷ []

abbrev pub range_tells : List ℤ → List ℕ → ℕ → ExtensionRangeContent → List Told
range_tells path name k r = tells scopes.ExtensionRange (entry path (pos 5) k) (pos 3) name r.options ∷ []

-- a message of this name, with what the messages in it tell of
abbrev pub parts_tell : List ℤ → List ℕ → Option OptionsContent → List ExtensionRangeContent → List FieldContent → List Told → List EnumContent → List FieldContent → List OneofContent → List Told
parts_tell path name options ranges fields inner enums extensions oneofs =
    tells scopes.Message path (pos 7) name options ∷ (each (range_tells path name) 0 ranges
    ++ (each (field_tells path name) 0 fields ++ (inner ++ (each (enum_tells path (pos 4) name) 0 enums
    ++ (each (extension_tells path (pos 6) name) 0 extensions ++ each (oneof_tells path name) 0 oneofs)))))

abbrev mutual
  pub message_tells : List ℤ → List ℕ → MessageContent → List Told
  message_tells path scope (message name fields extensions nested enums ranges oneofs options reserved names) =
      parts_tell path (join scope (text_in name)) options ranges fields (messages_tell path (pos 3) (join scope (text_in name)) 0 nested) enums extensions oneofs

  pub messages_tell : List ℤ → ℤ → List ℕ → ℕ → MessageContents → List Told
  messages_tell path tag scope k no_messages = []
  messages_tell path tag scope k (more_messages m ms) = message_tells (entry path tag k) scope m ++ messages_tell path tag scope (k + 1) ms

-- a file of this package
abbrev pub package_tells : List ℕ → FileContent → List Told
package_tells name f =
    tells scopes.File [] (pos 8) name f.options ∷ (messages_tell [] (pos 4) name 0 (messages_of f.message_type)
    ++ (each (enum_tells [] (pos 5) name) 0 f.enum_type ++ (each (service_tells name) 0 f.service ++ each (extension_tells [] (pos 7) name) 0 f.extension)))

abbrev pub file_tells : FileContent → List Told
file_tells f = package_tells (text_in f.package_name) f
