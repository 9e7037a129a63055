-- What options set in a message of options, in the words of the model of messages and texts
-- (protobuf.dev, "Language Guide (proto 2)", Custom Options).
use Rattle.std.specs.Prelude.{◌≡◌, ℕ, zero, suc, ℤ, List, [], ◌∷◌, length, false, Option, Some, option_map}
use Rattle.std.specs.Int.{w32, cast_signed}
use Rattle.descriptor_records.specs.Content.{NameContent, OptionContent}
use Rattle.option_setter.specs.OptionValues.{scalar_said}
use Rattle.option_setter.specs.SetOptions.{place_of}
use Rattle.protobuf_model.specs.Meaning.{items, message_in}
use Rattle.protobuf_model.specs.Types.{Name, Frame, nested, Label, one, many, Field}
use Rattle.protobuf_model.specs.Values.{Content, single, message, content, Message, nothing}
use Rattle.protox_lex.specs.Class.{Text}
use Rattle.text_model.specs.Schemas.{Schema}
use Rattle.text_model.specs.Texts.{IsText}
use Rattle.text_model.specs.Tree.{Fields}
use Rattle.text_model.specs.Value.{Wanted, of_scalar, of_message, add_all, assign, is_set, settled, value, wanted_of}

-- which number a part of an option's name leads to in a message of the type
abbrev pub Leads : Type 1
Leads = Name → NameContent → ℕ → Type 0

-- the option says this where a scalar is wanted; where a message is, what the text in its braces
-- gives
abbrev pub Says : Schema → OptionContent → Wanted → Content → Type 0
Says w o (of_scalar enum k) c = option_map single (scalar_said enum k o) ≡ Some c
Says w o (of_message s) c = (z : Text) × (tree : Fields) × (m : Message)
    × (o.aggregate_value ≡ Some z) × IsText z tree × (value w s tree nothing ≡ Some m)
    × (c ≡ message m)

-- one value where none is set, in place of what else is set of its oneof; or a further one of a
-- list or of a map
abbrev pub Gets : (ℕ → Option Field) → ℕ → Field → Label → Content → (old new : Message) → Type 0
Gets type n f one c old new =
    (is_set (old n) ≡ false) × (new ≡ assign type n (settled f.part c) old)
Gets type n f l c old new = add_all type n f.part l old (c ∷ []) ≡ Some new

-- where a further value of a list stands; nothing else has places
abbrev pub place_in : Label → ℕ → Message → List ℤ
place_in (many packed) n m = place_of (length (items (m n))) ∷ []
place_in _ n m = []

abbrev pub number : ℕ → ℤ
number n = cast_signed w32 n

-- the last part of the name gets what the option says
abbrev pub SetsLast : Schema → Leads → OptionContent → Name → NameContent → (old new : Message)
    → List ℤ → Type 0
SetsLast w leads o t part old new path =
    (n : ℕ) × (f : Field) × (c : Content) × leads t part n × (w.types t n ≡ Some f)
    × Says w o (wanted_of w (w.names t) n f.part f.label) c
    × Gets (w.types t) n f f.label c old new
    × (path ≡ number n ∷ place_in f.label n old)

-- a part leads to a field that holds one message, of this type
pub record LeadsInto (w : Schema) (leads : Leads) (t : Name) (part : NameContent) (n : ℕ)
    (u : Name) : Type 0 where
  pub field : Field
  pub frame : Frame
  pub led : leads t part n
  pub declared : w.types t n ≡ Some field
  pub alone : field.label ≡ one
  pub kind : field.part.kind ≡ nested frame u

-- the parts lead through messages, below the first of which so many levels may lie, along the path
-- to what the option sets; a message that is not there yet is an empty one
abbrev pub SetsParts : Schema → Leads → OptionContent → ℕ → Name → List NameContent
    → (old new : Message) → List ℤ → Type 0
SetsParts w leads o levels t [] old new path = (new ≡ old) × (path ≡ [])
SetsParts w leads o levels t (part ∷ []) old new path = SetsLast w leads o t part old new path
SetsParts w leads o zero t (part ∷ next ∷ parts) old new path = ⊥
SetsParts w leads o (suc levels) t (part ∷ next ∷ parts) old new path =
    (n : ℕ) × (u : Name) × LeadsInto w leads t part n u × (inner : Message) × (rest : List ℤ)
    × SetsParts w leads o levels u (next ∷ parts) (message_in (old n)) inner rest
    × (new ≡ assign (w.types t) n (content (message inner)) old) × (path ≡ number n ∷ rest)

-- one option after another, each along its path
abbrev pub SetsAll : Schema → Leads → Name → List OptionContent → (old new : Message)
    → List (List ℤ) → Type 0
SetsAll w leads t [] old new paths = (new ≡ old) × (paths ≡ [])
SetsAll w leads t (o ∷ os) old new paths =
    (next : Message) × (path : List ℤ) × (rest : List (List ℤ))
    × SetsParts w leads o 100 t o.name old next path × SetsAll w leads t os next new rest
    × (paths ≡ path ∷ rest)

-- a part leads to one number at most, by the one and by the other
abbrev pub LeadAlike : Leads → Leads → Type 0
LeadAlike a b = (t : Name) (part : NameContent) (n k : ℕ) → a t part n → b t part k → n ≡ k

-- by a function
abbrev pub leads_by : (Name → NameContent → Option ℕ) → Leads
leads_by lead t part n = lead t part ≡ Some n
