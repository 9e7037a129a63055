-- Options that are put where they stand already change nothing: all options of a file stand at their
-- paths, which tell their scopes.
use Rattle.std.proofs.Common.{◌≡◌, ◌+◌, ℕ, suc, ℤ, pos, List, [], ◌∷◌, Option, Some, None, ap, refl, subst, arith}
use Rattle.descriptor_records.specs.Content.{EnumContent, EnumValueContent, ExtensionRangeContent, FieldContent, FileContent, MessageContent, message, MessageContents, more_messages, no_messages, MethodContent, OneofContent, OptionsContent, ServiceContent}
use Rattle.option_parts.specs.declared.option_scope.OptionScope.{OptionScope}
use Rattle.option_parts.specs.declared.option_scope.OptionScope.TheVariants as scopes
use Rattle.reflect_growth.specs.Put.{enum_put, field_put, file_put, message_put, method_put, nested_at, oneof_put, own_put, range_put, service_put, value_put, with_at}
use Rattle.settled_records.proofs.AllOptions.{InEnum, InField, InFile, InList, InMessage, InMessages, InMethod, InOneof, InOwn, InRange, InService, InValue, Said, below, file_keeps}
use Rattle.settled_records.proofs.PathScopes.{enum_scope, file_scope, message_scope, service_scope}

-- what is said of options at a path is so of all that change nothing where they are put there; the
-- path tells their scope
abbrev Stand : {A : Type 0} → (List ℤ → OptionScope) → (List ℤ → OptionsContent → A → A) → Said → A → Type 0
Stand scope put Q x = (rest : List ℤ) (o : OptionsContent) → put rest o x ≡ x → Q (scope rest) rest o

-- a part that has no parts is of one scope
abbrev always : OptionScope → List ℤ → OptionScope
always scope rest = scope

-- ---- lists
-- the entries of a list, the first of which has this place
module _ {A : Type 0} (In : Said → A → Type 0) (scope : List ℤ → OptionScope) (put : List ℤ → OptionsContent → A → A) (each : (Q : Said) (x : A) → Stand scope put Q x → In Q x) (Q : Said)
    (number : ℤ) where
  list_stands : (place : ℕ) (xs : List A)
      → ((k j : ℕ) → place + k ≡ j → (rest : List ℤ) (o : OptionsContent) → with_at k (put rest o) xs ≡ xs → Q (scope rest) (number ∷ pos j ∷ rest) o)
      → InList In Q number place xs
  list_stands place [] to = tt
  list_stands place (x ∷ xs) to = (
    each (below Q number place) x (λ rest o e. to 0 place (omega arith) rest o (ap (λ y. y ∷ xs) e)),
    list_stands (place + 1) xs (λ k j is rest o e. to (suc k) j (omega arith) rest o (ap (λ ys. x ∷ ys) e)),
  )

-- a list whose first entry has the place 0
whole_list : {A : Type 0} (In : Said → A → Type 0) (scope : List ℤ → OptionScope) (put : List ℤ → OptionsContent → A → A) → ((Q : Said) (x : A) → Stand scope put Q x → In Q x) → (Q : Said)
    (number : ℤ) (xs : List A) → ((k : ℕ) (rest : List ℤ) (o : OptionsContent) → with_at k (put rest o) xs ≡ xs → Q (scope rest) (number ∷ pos k ∷ rest) o)
    → InList In Q number 0 xs
whole_list In scope put each Q number xs to =
    list_stands In scope put each Q number 0 xs (λ k j is rest o e. let same : k ≡ j = omega arith in to j rest o (subst (λ i. with_at i (put rest o) xs ≡ xs) same e))

-- ---- records
own_stands : (scope : OptionScope) (Q : Said) (x : Option OptionsContent) → ((o : OptionsContent) → own_put [] o x ≡ x → Q scope [] o) → InOwn scope Q x
own_stands scope Q None to = tt
own_stands scope Q (Some o) to = to o refl

field_stands : (Q : Said) (f : FieldContent) → Stand (always scopes.Field) field_put Q f → InField Q f
field_stands Q f to = own_stands scopes.Field Q f.options (λ o e. to [] o (ap (λ y. record f { options = y }) e))

oneof_stands : (Q : Said) (x : OneofContent) → Stand (always scopes.Oneof) oneof_put Q x → InOneof Q x
oneof_stands Q x to = own_stands scopes.Oneof Q x.options (λ o e. to [] o (ap (λ y. record x { options = y }) e))

range_stands : (Q : Said) (r : ExtensionRangeContent) → Stand (always scopes.ExtensionRange) range_put Q r → InRange Q r
range_stands Q r to = own_stands scopes.ExtensionRange Q r.options (λ o e. to [] o (ap (λ y. record r { options = y }) e))

value_stands : (Q : Said) (v : EnumValueContent) → Stand (always scopes.EnumValue) value_put Q v → InValue Q v
value_stands Q v to = own_stands scopes.EnumValue Q v.options (λ o e. to [] o (ap (λ y. record v { options = y }) e))

method_stands : (Q : Said) (m : MethodContent) → Stand (always scopes.Method) method_put Q m → InMethod Q m
method_stands Q m to = own_stands scopes.Method Q m.options (λ o e. to [] o (ap (λ y. record m { options = y }) e))

enum_stands : (Q : Said) (e : EnumContent) → Stand enum_scope enum_put Q e → InEnum Q e
enum_stands Q e to = (
  own_stands scopes.Enum Q e.options (λ o is. to [] o (ap (λ y. record e { options = y }) is)),
  whole_list InValue (always scopes.EnumValue) value_put value_stands Q (pos 2) e.value (λ k rest o is. to (pos 2 ∷ pos k ∷ rest) o (ap (λ vs. record e { value = vs }) is)),
)

service_stands : (Q : Said) (s : ServiceContent) → Stand service_scope service_put Q s → InService Q s
service_stands Q s to = (
  own_stands scopes.Service Q s.options (λ o is. to [] o (ap (λ y. record s { options = y }) is)),
  whole_list InMethod (always scopes.Method) method_put method_stands Q (pos 2) s.method (λ k rest o is. to (pos 2 ∷ pos k ∷ rest) o (ap (λ ms. record s { method = ms }) is)),
)

-- ---- messages
mutual
  message_stands : (Q : Said) (m : MessageContent) → Stand message_scope message_put Q m → InMessage Q m
  message_stands Q (message name fields extensions nested enums ranges oneofs options reserved names) to = (
    record {
      field = whole_list InField (always scopes.Field) field_put field_stands Q (pos 2) fields
          (λ k rest o is. to (pos 2 ∷ pos k ∷ rest) o (ap (λ y. message name y extensions nested enums ranges oneofs options reserved names) is));
      extension = whole_list InField (always scopes.Field) field_put field_stands Q (pos 6) extensions
          (λ k rest o is. to (pos 6 ∷ pos k ∷ rest) o (ap (λ y. message name fields y nested enums ranges oneofs options reserved names) is));
      enum = whole_list InEnum enum_scope enum_put enum_stands Q (pos 4) enums
          (λ k rest o is. to (pos 4 ∷ pos k ∷ rest) o (ap (λ y. message name fields extensions nested y ranges oneofs options reserved names) is));
      range = whole_list InRange (always scopes.ExtensionRange) range_put range_stands Q (pos 5) ranges
          (λ k rest o is. to (pos 5 ∷ pos k ∷ rest) o (ap (λ y. message name fields extensions nested enums y oneofs options reserved names) is));
      oneof = whole_list InOneof (always scopes.Oneof) oneof_put oneof_stands Q (pos 8) oneofs
          (λ k rest o is. to (pos 8 ∷ pos k ∷ rest) o (ap (λ y. message name fields extensions nested enums ranges y options reserved names) is));
      own = own_stands scopes.Message Q options
          (λ o is. to [] o (ap (λ y. message name fields extensions nested enums ranges oneofs y reserved names) is));
    },
    nested_stand Q 0 nested
        (λ k j at rest o is. let same : k ≡ j = omega arith in
        to (pos 3 ∷ pos j ∷ rest) o
        (ap (λ y. message name fields extensions y enums ranges oneofs options reserved names) (subst (λ i. nested_at i (message_put rest o) nested ≡ nested) same is))),
  )

  -- the first of them has this place
  nested_stand : (Q : Said) (place : ℕ) (ms : MessageContents)
      → ((k j : ℕ) → place + k ≡ j → (rest : List ℤ) (o : OptionsContent) → nested_at k (message_put rest o) ms ≡ ms → Q (message_scope rest) (pos 3 ∷ pos j ∷ rest) o)
      → InMessages Q (pos 3) place ms
  nested_stand Q place no_messages to = tt
  nested_stand Q place (more_messages m ms) to = (
    message_stands (below Q (pos 3) place) m (λ rest o e. to 0 place (omega arith) rest o (ap (λ y. more_messages y ms) e)),
    nested_stand Q (place + 1) ms (λ k j is rest o e. to (suc k) j (omega arith) rest o (ap (λ ys. more_messages m ys) e)),
  )

-- ---- files
-- options that are put at the path are there already
abbrev pub Stands : FileContent → Said
Stands f scope path o = file_put path o f ≡ f

-- and are of the scope that the path tells
abbrev pub StandsInScope : FileContent → Said
StandsInScope f scope path o = Stands f scope path o × (file_scope path ≡ scope)

pub file_scoped : (f : FileContent) → InFile (StandsInScope f) f
file_scoped f = record {
  message_type = whole_list InMessage message_scope message_put message_stands (StandsInScope f) (pos 4) f.message_type (λ k rest o is. (ap (λ y. record f { message_type = y }) is, refl));
  enum_type = whole_list InEnum enum_scope enum_put enum_stands (StandsInScope f) (pos 5) f.enum_type (λ k rest o is. (ap (λ y. record f { enum_type = y }) is, refl));
  service = whole_list InService service_scope service_put service_stands (StandsInScope f) (pos 6) f.service (λ k rest o is. (ap (λ y. record f { service = y }) is, refl));
  extension = whole_list InField (always scopes.Field) field_put field_stands (StandsInScope f) (pos 7) f.extension (λ k rest o is. (ap (λ y. record f { extension = y }) is, refl));
  own = own_stands scopes.File (StandsInScope f) f.options (λ o is. (ap (λ y. record f { options = y }) is, refl));
}

pub file_stands : (f : FileContent) → InFile (Stands f) f
file_stands f = file_keeps (StandsInScope f) (Stands f) (λ scope path o both. both.0) f (file_scoped f)
