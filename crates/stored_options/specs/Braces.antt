-- Where the name of an option leads to a message or to a list of them, which other names keep off
-- what stands there, and which options add to a list.
use Rattle.std.specs.Prelude.{◌≡◌, ◌⊎◌, ℕ, Bool, true, false, List, [], ◌∷◌, ◌++◌, map, Option, Some}
use Rattle.descriptor_records.specs.Content.{NameContent, OptionContent}
use Rattle.protobuf_model.specs.Meaning.{items, message_in}
use Rattle.protobuf_model.specs.Types.{Name, Frame, nested, many, Field, rival}
use Rattle.protobuf_model.specs.Values.{list, message, Held, content, Message, chain_of}
use Rattle.protox_lex.specs.Class.{Text}
use Rattle.stored_options.specs.SetOptions.{Leads, LeadsInto}
use Rattle.text_model.specs.Schemas.{Schema}

-- what stands under the last of the numbers, each in the message that stands under the one before
abbrev pub held_inside : List ℕ → Held → Held
held_inside [] h = h
held_inside (n ∷ ns) h = held_inside ns (message_in h n)

-- the first of them in this message
abbrev pub held_along : List ℕ → Message → Held
held_along ns m = held_inside ns (content (message m))

-- what stands there with these messages behind in its list: with none, what stood there
abbrev pub with_messages : Held → List Message → Held
with_messages h [] = h
with_messages h (x ∷ xs) = content (list (chain_of (items h ++ map message (x ∷ xs))))

-- a part leads to a field that lists messages of this type
pub record ListsInto (w : Schema) (leads : Leads) (t : Name) (part : NameContent) (n : ℕ)
    (u : Name) : Type 0 where
  pub field : Field
  pub frame : Frame
  pub packed : Bool
  pub led : leads t part n
  pub declared : w.types t n ≡ Some field
  pub listed : field.label ≡ many packed
  pub kind : field.part.kind ≡ nested frame u

-- the parts lead along these numbers, through fields that hold one message each; of the last part
-- `ends` says where it leads
abbrev pub LeadsThrough : Schema → (leads ends : Leads) → Name → List NameContent → List ℕ → Type 0
LeadsThrough w leads ends t [] ns = ⊥
LeadsThrough w leads ends t (part ∷ []) ns = (n : ℕ) × ends t part n × (ns ≡ n ∷ [])
LeadsThrough w leads ends t (part ∷ next ∷ parts) ns =
    (n : ℕ) × (v : Name) × (rest : List ℕ) × LeadsInto w leads t part n v
    × LeadsThrough w leads ends v (next ∷ parts) rest × (ns ≡ n ∷ rest)

-- to a field that holds one message of the type
abbrev pub LeadsAlong : Schema → Leads → Name → List NameContent → List ℕ → Name → Type 0
LeadsAlong w leads t parts ns u =
    LeadsThrough w leads (λ v part n. LeadsInto w leads v part n u) t parts ns

-- to one that lists messages of the type
abbrev pub ListsAlong : Schema → Leads → Name → List NameContent → List ℕ → Name → Type 0
ListsAlong w leads t parts ns u =
    LeadsThrough w leads (λ v part n. ListsInto w leads v part n u) t parts ns

-- the numbers are not those of one field, nor of two members of one oneof
abbrev pub IsApart : (ℕ → Option Field) → (k n : ℕ) → Type 0
IsApart type k n = (k ≡ n → ⊥) × (rival type k n ≡ false)

-- the parts lead neither to the field at the end of the numbers, nor into it, nor to another member
-- of a oneof that one of the numbers is of; to a message around it they may lead
abbrev pub KeepsOff : Schema → Leads → Name → List ℕ → List NameContent → Type 0
KeepsOff w leads t [] parts = ⊥
KeepsOff w leads t (n ∷ ns) [] = Unit {0}
KeepsOff w leads t (n ∷ []) (part ∷ parts) = (k : ℕ) → leads t part k → IsApart (w.types t) k n
KeepsOff w leads t (n ∷ q ∷ ns) (part ∷ []) =
    (k : ℕ) → leads t part k → IsApart (w.types t) k n ⊎ (k ≡ n)
KeepsOff w leads t (n ∷ q ∷ ns) (part ∷ next ∷ parts) =
    (k : ℕ) → leads t part k → IsApart (w.types t) k n
    ⊎ ((k ≡ n)
    × ((u : Name) → LeadsInto w leads t part k u → KeepsOff w leads u (q ∷ ns) (next ∷ parts)))

-- the parts lead to a message around what stands under the last of the numbers
abbrev pub LeadsAround : Schema → Leads → Name → List ℕ → List NameContent → Type 0
LeadsAround w leads t (n ∷ q ∷ ns) (part ∷ []) = leads t part n
LeadsAround w leads t (n ∷ q ∷ ns) (part ∷ next ∷ parts) =
    (u : Name) × LeadsInto w leads t part n u × LeadsAround w leads u (q ∷ ns) (next ∷ parts)
LeadsAround w leads t ns parts = ⊥

-- they keep off it; and off the messages around it too, unless an option led there before: behind
-- that one none can be set that leads around it
abbrev pub KeepsClear : Schema → Leads → Name → List ℕ → (begun : Bool) → List NameContent → Type 0
KeepsClear w leads t ns begun parts =
    KeepsOff w leads t ns parts × (LeadsAround w leads t ns parts → begun ≡ true)

-- each of the options leads along the numbers to a list of messages of the type, and is given with
-- the next of these texts in braces, or keeps clear of it; `begun` says that one led there before
abbrev pub ListsEach : Schema → Leads → Name → List ℕ → Name → (begun : Bool)
    → List OptionContent → List Text → Type 0
ListsEach w leads t ns u begun [] zs = zs ≡ []
ListsEach w leads t ns u begun (o ∷ os) zs =
    (KeepsClear w leads t ns begun o.name × ListsEach w leads t ns u begun os zs)
    ⊎ ((z : Text) × (rest : List Text) × ListsAlong w leads t o.name ns u
    × (o.aggregate_value ≡ Some z) × ListsEach w leads t ns u true os rest × (zs ≡ z ∷ rest))
