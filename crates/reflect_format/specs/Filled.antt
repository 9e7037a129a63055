-- What the fields of a text put into a message, one behind the other (protobuf.dev, "Text Format
-- Language Specification", Semantics).
use Rattle.std.specs.Prelude.{◌≡◌, ◌⊎◌, ◌<◌, ◌^◌, true, false, ℕ, length, List, [], ◌∷◌, ◌++◌, Some, All}
use Rattle.protox_lex.specs.Class.{Text}
use Rattle.protobuf_model.specs.Values.{Single, text, blob}
use Rattle.reflect_pool.specs.FieldsLeft.{field_type}
use Rattle.reflect_pool.specs.FindsNames.{FindsMessage}
use Rattle.reflect_pool.specs.Kinds.{IsKind}
use Rattle.reflect_pool.specs.Parts.{members_of}
use Rattle.reflect_pool.specs.declared.kind.Kind.{Kind}
use Rattle.reflect_pool.specs.declared.kind.Kind.TheVariants as values
use Rattle.reflect_pool.specs.declared.message.MessageDescriptor.{MessageDescriptor}
use Rattle.reflect_numbered.specs.Called.{HasNumber, TellsMeant}
use Rattle.reflect_any.specs.Any.{IsAny}
use Rattle.reflect_message.specs.Bytes.{message_bytes}
use Rattle.reflect_message.specs.Contents.{content_of, nothing}
use Rattle.reflect_message.specs.Names.{DynamicMessage}
use Rattle.reflect_message.specs.Names as held
use Rattle.reflect_message.specs.declared.value.ValueOf.TheVariants as held_values
use Rattle.text_model.specs.Tree.{FieldName, plain, extension, expansion, ScalarValue, Value, scalar, braced, Values, no_values, more_values, Given, one_scalar, one_message, listed, Fields, no_fields, more_fields}
use Rattle.text_model.specs.Value.{written}
use Rattle.reflect_format.specs.Kinds.{scalar_given, single_of}
use Rattle.reflect_format.specs.Named.{NamesField, NamesExtension}
use Rattle.reflect_format.specs.Steps.{AddsValues, Puts, SetsNumber, StaysExclusive, StaysAscending, is_set}
use Rattle.reflect_format.specs.Refusals.{Shares, HoldsMember}
use Rattle.reflect_format.specs.Takes.{holds_many, target_pool, target_type}
use Rattle.reflect_format.specs.declared.target.Target.{Target}
use Rattle.reflect_format.specs.declared.target.Target.TheVariants as targets
use Rattle.reflect_pool.specs.declared.oneof.OneofDescriptor.{OneofDescriptor}

-- the value is the one that is given
abbrev pub IsScalar : Kind → ScalarValue → held.Value → Type 0
IsScalar k s v = (x : Single) × (scalar_given k s ≡ Some x) × (single_of v ≡ Some x)

-- how fields fill messages
abbrev pub Filling : Type 1
Filling = DynamicMessage → DynamicMessage → Type 0

-- a message of the type that is so filled from nothing
abbrev pub Makes : MessageDescriptor → Filling → DynamicMessage → Type 0
Makes d fills m = (blank : DynamicMessage) × (blank.descriptor ≡ d) × (content_of blank ≡ nothing)
    × fills blank m

-- the value is such a message, and the kind that of its type
abbrev pub IsMade : Kind → Filling → held.Value → Type 0
IsMade k fills v = (d : MessageDescriptor) × (m : DynamicMessage) × (k ≡ values.Message d)
    × Makes d fills m × (v ≡ held_values.Message m)

-- a member of the target's oneof is set, or none is
abbrev pub HasRival : Target → DynamicMessage → Type 0
HasRival t m = (o : OneofDescriptor) × Shares t o × HoldsMember m o

abbrev pub IsAlone : Target → DynamicMessage → Type 0
IsAlone (targets.Field f) m =
    (k : ℕ) → (field_type f).oneof ≡ Some k
    → All (λ g. TellsMeant (HasNumber g.number) m false)
    (members_of f.message.pool.now f.message.index k)
IsAlone (targets.Extension x) m = Unit {0}

-- one value, where the target has none yet, nor another member of its oneof
pub record PutsOne (t : Target) (v : held.Value) (old new : DynamicMessage) : Type 0 where
  pub one : holds_many t ≡ false
  pub unset : is_set old t ≡ false
  pub alone : IsAlone t old
  pub put : Puts t v old new
  pub exclusive : StaysExclusive t old new
  pub ascending : StaysAscending old new

-- values of a kind of one, or of any number
abbrev pub OfKind : Type 1
OfKind = Kind → held.Value → Type 0

abbrev pub ListOfKind : Type 1
ListOfKind = Kind → List held.Value → Type 0

-- the target takes the one value that is given to it, or, as a list or a map, all of them
abbrev pub Assigns : Target → OfKind → ListOfKind → Filling
Assigns t one all old new =
    (k : Kind) × IsKind (target_pool t) k (target_type t).kind
    × (((v : held.Value) × one k v × PutsOne t v old new)
    ⊎ ((vs : List held.Value) × (holds_many t ≡ true) × all k vs × AddsValues t vs old new))

-- a message is put into a google.protobuf.Any: the name of its type and its bytes
abbrev pub PutsIntoAny : Text → DynamicMessage → Filling
PutsIntoAny url body old new = IsAny old.descriptor
    × (between : DynamicMessage) × SetsNumber 1 (text url) old between
    × SetsNumber 2 (blob (message_bytes body)) between new
    × (between.descriptor ≡ old.descriptor) × (length (message_bytes body) < 2 ^ 64)

-- the URL of a type: a domain and the type's name
abbrev pub url_of : (domain name : Text) → Text
url_of domain name = domain ++ 47 ∷ name

-- an expansion: a message of the type, which the pool has
abbrev pub Expands : (domain name : Text) → (fills : Filling) → Filling
Expands domain name fills old new =
    (d : MessageDescriptor) × (body : DynamicMessage)
    × (d.pool.now ≡ old.descriptor.pool.now) × FindsMessage old.descriptor.pool.now name (Some d)
    × Makes d fills body × PutsIntoAny (url_of domain name) body old new

-- what stands under a name: it fills fields and extensions by the values that are given, and an
-- Any by the message
abbrev pub Names : FieldName → OfKind → ListOfKind → (fills : Filling) → Filling
Names (plain w) one all fills old new =
    (t : Target) × NamesField old.descriptor w t × Assigns t one all old new
Names (extension n) one all fills old new =
    (t : Target) × NamesExtension old.descriptor (written n) t × Assigns t one all old new
Names (expansion domain n) one all fills old new =
    Expands (written domain) (written n) fills old new

abbrev mutual
  -- a value of a list
  pub IsValue : Value → OfKind
  IsValue (scalar s) k v = IsScalar k s v
  IsValue (braced b fs) k v = IsMade k (Fills fs) v

  pub AreValues : Values → ListOfKind
  AreValues no_values k vs = vs ≡ []
  AreValues (more_values given more) k vs =
      (v : held.Value) × (others : List held.Value) × (vs ≡ v ∷ others)
      × IsValue given k v × AreValues more k others

  -- what is given to a field of one value
  pub IsGiven : Given → OfKind
  IsGiven (one_scalar s) k v = IsScalar k s v
  IsGiven (one_message colon b fs) k v = IsMade k (Fills fs) v
  IsGiven (listed vs) k v = ⊥

  -- and to a list or a map
  pub AreGiven : Given → ListOfKind
  AreGiven (one_scalar s) k vs = (v : held.Value) × IsScalar k s v × (vs ≡ v ∷ [])
  AreGiven (one_message colon b fs) k vs =
      (v : held.Value) × IsMade k (Fills fs) v × (vs ≡ v ∷ [])
  AreGiven (listed given) k vs = AreValues given k vs

  -- the message of an expansion
  pub FillsBody : Given → Filling
  FillsBody (one_message colon b fs) old new = Fills fs old new
  FillsBody (one_scalar s) old new = ⊥
  FillsBody (listed vs) old new = ⊥

  -- fields in order
  pub Fills : Fields → Filling
  Fills no_fields old new = new ≡ old
  Fills (more_fields name given s fs) old new =
      (next : DynamicMessage) × (next.descriptor ≡ old.descriptor)
      × Names name (IsGiven given) (AreGiven given) (FillsBody given) old next × Fills fs next new

-- one of them
abbrev pub FillsField : FieldName → Given → Filling
FillsField name given old new =
    (new.descriptor ≡ old.descriptor)
    × Names name (IsGiven given) (AreGiven given) (FillsBody given) old new
