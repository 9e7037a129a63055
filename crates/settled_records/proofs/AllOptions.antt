-- What is said of all options in a record, each with its path from there.
use Rattle.std.proofs.Common.{◌≤◌, ◌+◌, ℕ, ℤ, pos, List, [], ◌∷◌, Option, Some, None, arith}
use Rattle.descriptor_records.specs.Content.{EnumContent, EnumValueContent, ExtensionRangeContent, FieldContent, FileContent, MessageContent, message, MessageContents, more_messages, no_messages, messages_of, MethodContent, OneofContent, OptionsContent, ServiceContent}
use Rattle.option_parts.specs.declared.option_scope.OptionScope.{OptionScope}
use Rattle.option_parts.specs.declared.option_scope.OptionScope.TheVariants as scopes
use Rattle.plain_records.specs.PlainRecords.{IfThere}

-- what is said of options of a scope at a path
abbrev pub Said : Type 1
Said = OptionScope → List ℤ → OptionsContent → Type 0

-- of those in the entry at a place of a list
abbrev pub below : Said → ℤ → ℕ → Said
below Q number place scope path o = Q scope (number ∷ pos place ∷ path) o

-- ---- of what a record holds
abbrev pub InOwn : OptionScope → Said → Option OptionsContent → Type 0
InOwn scope Q = IfThere (Q scope [])

-- the entries of a list, the first of which has this place
abbrev pub InList : {A : Type 0} → (Said → A → Type 0) → Said → ℤ → ℕ → List A → Type 0
InList In Q number place [] = Unit {0}
InList In Q number place (x ∷ xs) = In (below Q number place) x × InList In Q number (place + 1) xs

abbrev pub InField : Said → FieldContent → Type 0
InField Q f = InOwn scopes.Field Q f.options

abbrev pub InOneof : Said → OneofContent → Type 0
InOneof Q x = InOwn scopes.Oneof Q x.options

abbrev pub InRange : Said → ExtensionRangeContent → Type 0
InRange Q r = InOwn scopes.ExtensionRange Q r.options

abbrev pub InValue : Said → EnumValueContent → Type 0
InValue Q v = InOwn scopes.EnumValue Q v.options

abbrev pub InMethod : Said → MethodContent → Type 0
InMethod Q m = InOwn scopes.Method Q m.options

abbrev pub InEnum : Said → EnumContent → Type 0
InEnum Q e = InOwn scopes.Enum Q e.options × InList InValue Q (pos 2) 0 e.value

abbrev pub InService : Said → ServiceContent → Type 0
InService Q s = InOwn scopes.Service Q s.options × InList InMethod Q (pos 2) 0 s.method

-- what stands in a message, but for the messages in it
pub record InParts (Q : Said) (fields extensions : List FieldContent) (enums : List EnumContent) (ranges : List ExtensionRangeContent) (oneofs : List OneofContent)
    (options : Option OptionsContent) : Type 0 where
  pub field : InList InField Q (pos 2) 0 fields
  pub extension : InList InField Q (pos 6) 0 extensions
  pub enum : InList InEnum Q (pos 4) 0 enums
  pub range : InList InRange Q (pos 5) 0 ranges
  pub oneof : InList InOneof Q (pos 8) 0 oneofs
  pub own : InOwn scopes.Message Q options

abbrev mutual
  pub InMessage : Said → MessageContent → Type 0
  InMessage Q (message name fields extensions nested enums ranges oneofs options reserved names) =
      InParts Q fields extensions enums ranges oneofs options × InMessages Q (pos 3) 0 nested

  pub InMessages : Said → ℤ → ℕ → MessageContents → Type 0
  InMessages Q number place no_messages = Unit {0}
  InMessages Q number place (more_messages m ms) = InMessage (below Q number place) m × InMessages Q number (place + 1) ms

pub record InFile (Q : Said) (f : FileContent) : Type 0 where
  pub message_type : InList InMessage Q (pos 4) 0 f.message_type
  pub enum_type : InList InEnum Q (pos 5) 0 f.enum_type
  pub service : InList InService Q (pos 6) 0 f.service
  pub extension : InList InField Q (pos 7) 0 f.extension
  pub own : InOwn scopes.File Q f.options

-- a list of messages is one
pub listed : (Q : Said) (number : ℤ) (place : ℕ) (ms : List MessageContent) → InMessages Q number place (messages_of ms) → InList InMessage Q number place ms
listed Q number place [] all = tt
listed Q number place (m ∷ ms) all = (all.0, listed Q number (place + 1) ms all.1)

pub unlisted : (Q : Said) (number : ℤ) (place : ℕ) (ms : List MessageContent) → InList InMessage Q number place ms → InMessages Q number place (messages_of ms)
unlisted Q number place [] all = tt
unlisted Q number place (m ∷ ms) all = (all.0, unlisted Q number (place + 1) ms all.1)

-- ---- what else is so of them
abbrev pub Keeps : Said → Said → Type 0
Keeps Q R = (scope : OptionScope) (path : List ℤ) (o : OptionsContent) → Q scope path o → R scope path o

-- in each entry of a list from a place on
abbrev pub KeepsFrom : Said → Said → ℤ → ℕ → Type 0
KeepsFrom Q R number place = (k : ℕ) → place ≤ k → Keeps (below Q number k) (below R number k)

-- what is so of one record of a kind
abbrev pub KeepsAll : {A : Type 0} → (Said → A → Type 0) → Type 1
KeepsAll In = (Q R : Said) → Keeps Q R → (x : _) → In Q x → In R x

pub own_keeps : (scope : OptionScope) (Q R : Said) → ((o : OptionsContent) → Q scope [] o → R scope [] o) → (x : Option OptionsContent) → InOwn scope Q x → InOwn scope R x
own_keeps scope Q R to None all = tt
own_keeps scope Q R to (Some o) all = to o all

pub list_keeps : {A : Type 0} (In : Said → A → Type 0) → KeepsAll In → (Q R : Said) (number : ℤ) (place : ℕ) → KeepsFrom Q R number place → (xs : List A)
    → InList In Q number place xs → InList In R number place xs
list_keeps In keeps Q R number place to [] all = tt
list_keeps In keeps Q R number place to (x ∷ xs) all = (
  keeps (below Q number place) (below R number place) (to place (omega arith)) x all.0,
  list_keeps In keeps Q R number (place + 1) (λ k far. to k (omega arith)) xs all.1,
)

pub field_keeps : (Q R : Said) → Keeps Q R → (f : FieldContent) → InField Q f → InField R f
field_keeps Q R to f all = own_keeps scopes.Field Q R (to scopes.Field []) f.options all

pub oneof_keeps : (Q R : Said) → Keeps Q R → (x : OneofContent) → InOneof Q x → InOneof R x
oneof_keeps Q R to x all = own_keeps scopes.Oneof Q R (to scopes.Oneof []) x.options all

pub range_keeps : (Q R : Said) → Keeps Q R → (r : ExtensionRangeContent) → InRange Q r → InRange R r
range_keeps Q R to r all = own_keeps scopes.ExtensionRange Q R (to scopes.ExtensionRange []) r.options all

pub value_keeps : (Q R : Said) → Keeps Q R → (v : EnumValueContent) → InValue Q v → InValue R v
value_keeps Q R to v all = own_keeps scopes.EnumValue Q R (to scopes.EnumValue []) v.options all

pub method_keeps : (Q R : Said) → Keeps Q R → (m : MethodContent) → InMethod Q m → InMethod R m
method_keeps Q R to m all = own_keeps scopes.Method Q R (to scopes.Method []) m.options all

-- of all entries
abbrev Inside : Said → Said → Type 0
Inside Q R = (number : ℤ) → KeepsFrom Q R number 0

inside : (Q R : Said) → Keeps Q R → Inside Q R
inside Q R to number k far scope path = to scope (number ∷ pos k ∷ path)

pub enum_keeps : (Q R : Said) → Keeps Q R → (e : EnumContent) → InEnum Q e → InEnum R e
enum_keeps Q R to e all = (own_keeps scopes.Enum Q R (to scopes.Enum []) e.options all.0, list_keeps InValue value_keeps Q R (pos 2) 0 (inside Q R to (pos 2)) e.value all.1)

pub service_keeps : (Q R : Said) → Keeps Q R → (s : ServiceContent) → InService Q s → InService R s
service_keeps Q R to s all = (own_keeps scopes.Service Q R (to scopes.Service []) s.options all.0, list_keeps InMethod method_keeps Q R (pos 2) 0 (inside Q R to (pos 2)) s.method all.1)

-- but for a message's own options
pub parts_keep : (Q R : Said) → Inside Q R → (fields extensions : List FieldContent) (enums : List EnumContent) (ranges : List ExtensionRangeContent) (oneofs : List OneofContent)
    (was is : Option OptionsContent) → InOwn scopes.Message R is → InParts Q fields extensions enums ranges oneofs was → InParts R fields extensions enums ranges oneofs is
parts_keep Q R to fields extensions enums ranges oneofs was is own all = record {
  field = list_keeps InField field_keeps Q R (pos 2) 0 (to (pos 2)) fields all.field;
  extension = list_keeps InField field_keeps Q R (pos 6) 0 (to (pos 6)) extensions all.extension;
  enum = list_keeps InEnum enum_keeps Q R (pos 4) 0 (to (pos 4)) enums all.enum;
  range = list_keeps InRange range_keeps Q R (pos 5) 0 (to (pos 5)) ranges all.range;
  oneof = list_keeps InOneof oneof_keeps Q R (pos 8) 0 (to (pos 8)) oneofs all.oneof;
  own = own;
}

mutual
  pub message_keeps : (Q R : Said) → Keeps Q R → (m : MessageContent) → InMessage Q m → InMessage R m
  message_keeps Q R to (message name fields extensions nested enums ranges oneofs options reserved names) all = (
    parts_keep Q R (inside Q R to) fields extensions enums ranges oneofs options options (own_keeps scopes.Message Q R (to scopes.Message []) options all.0.own) all.0,
    messages_keep Q R (pos 3) 0 (inside Q R to (pos 3)) nested all.1,
  )

  pub messages_keep : (Q R : Said) (number : ℤ) (place : ℕ) → KeepsFrom Q R number place → (ms : MessageContents) → InMessages Q number place ms → InMessages R number place ms
  messages_keep Q R number place to no_messages all = tt
  messages_keep Q R number place to (more_messages m ms) all = (
    message_keeps (below Q number place) (below R number place) (to place (omega arith)) m all.0,
    messages_keep Q R number (place + 1) (λ k far. to k (omega arith)) ms all.1,
  )

-- but for a file's own options
pub declared_keep : (Q R : Said) → Inside Q R → (f : FileContent) (is : Option OptionsContent) → InOwn scopes.File R is → InFile Q f → InFile R (record f { options = is })
declared_keep Q R to f is own all = record {
  message_type = list_keeps InMessage message_keeps Q R (pos 4) 0 (to (pos 4)) f.message_type all.message_type;
  enum_type = list_keeps InEnum enum_keeps Q R (pos 5) 0 (to (pos 5)) f.enum_type all.enum_type;
  service = list_keeps InService service_keeps Q R (pos 6) 0 (to (pos 6)) f.service all.service;
  extension = list_keeps InField field_keeps Q R (pos 7) 0 (to (pos 7)) f.extension all.extension;
  own = own;
}

pub file_keeps : (Q R : Said) → Keeps Q R → (f : FileContent) → InFile Q f → InFile R f
file_keeps Q R to f all = declared_keep Q R (inside Q R to) f f.options (own_keeps scopes.File Q R (to scopes.File []) f.options all.own) all
