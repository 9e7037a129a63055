-- Fields of a text that a message does not take.
use Rattle.std.specs.Prelude.{◌≡◌, ◌⊎◌, true, false, None, Some}
use Rattle.protox_lex.specs.Class.{Text}
use Rattle.reflect_pool.specs.FindsNames.{FindsMessage}
use Rattle.reflect_pool.specs.Kinds.{IsKind}
use Rattle.reflect_pool.specs.declared.kind.Kind.{Kind}
use Rattle.reflect_pool.specs.declared.kind.Kind.TheVariants as values
use Rattle.reflect_pool.specs.declared.message.MessageDescriptor.{MessageDescriptor}
use Rattle.reflect_any.specs.Any.{IsAny}
use Rattle.reflect_message.specs.Contents.{content_of, nothing}
use Rattle.reflect_message.specs.Names.{DynamicMessage}
use Rattle.text_model.specs.Tree.{FieldName, plain, extension, expansion, Value, scalar, braced, Values, no_values, more_values, Given, one_scalar, one_message, listed, Fields, no_fields, more_fields}
use Rattle.text_model.specs.Value.{written}
use Rattle.reflect_format.specs.Filled.{FillsField, HasRival}
use Rattle.reflect_format.specs.Kinds.{scalar_given}
use Rattle.reflect_format.specs.Named.{NamesField, NamesExtension, NoFieldNamed, NoExtensionNamed}
use Rattle.reflect_format.specs.Steps.{is_set}
use Rattle.reflect_format.specs.Takes.{holds_many, target_pool, target_type}
use Rattle.reflect_format.specs.declared.target.Target.{Target}

-- what messages are refused, by what they hold
abbrev pub Refusal : Type 1
Refusal = DynamicMessage → Type 0

-- a message of the type, in which nothing is set, does not take the fields
abbrev pub CannotMake : MessageDescriptor → Refusal → Type 0
CannotMake d refuses = (blank : DynamicMessage) × (blank.descriptor ≡ d)
    × (content_of blank ≡ nothing) × refuses blank

-- a message in braces where the kind is another, or one that its type does not take
abbrev pub NoMessage : Kind → Refusal → Type 0
NoMessage (values.Message d) refuses = CannotMake d refuses
NoMessage _ refuses = Unit {0}

-- nothing that is given suits the target, or it has its value, or another member of its oneof has
abbrev pub Rejects : Target → (one all : Kind → Type 0) → Refusal
Rejects t one all m =
    (k : Kind) × IsKind (target_pool t) k (target_type t).kind
    × (((holds_many t ≡ true) × all k)
    ⊎ ((holds_many t ≡ false) × (one k ⊎ ((is_set m t ≡ true) ⊎ HasRival t m))))

-- no type has the name, what is given is no message of the type, or the field stands in no
-- google.protobuf.Any
abbrev pub RejectsExpansion : Text → (body : MessageDescriptor → Type 0) → Refusal
RejectsExpansion name body m =
    FindsMessage m.descriptor.pool.now name None
    ⊎ ((IsAny m.descriptor → ⊥)
    ⊎ ((d : MessageDescriptor) × (d.pool.now ≡ m.descriptor.pool.now)
    × FindsMessage m.descriptor.pool.now name (Some d) × body d))

abbrev pub RejectsNamed : FieldName → (one all : Kind → Type 0)
    → (body : MessageDescriptor → Type 0) → Refusal
RejectsNamed (plain w) one all body m =
    NoFieldNamed m.descriptor w
    ⊎ ((t : Target) × NamesField m.descriptor w t × Rejects t one all m)
RejectsNamed (extension n) one all body m =
    NoExtensionNamed m.descriptor (written n)
    ⊎ ((t : Target) × NamesExtension m.descriptor (written n) t × Rejects t one all m)
RejectsNamed (expansion domain n) one all body m = RejectsExpansion (written n) body m

abbrev mutual
  pub IsUnfitValue : Value → Kind → Type 0
  IsUnfitValue (scalar s) k = scalar_given k s ≡ None
  IsUnfitValue (braced b fs) k = NoMessage k (Unfit fs)

  -- one of them is
  pub AreUnfitValues : Values → Kind → Type 0
  AreUnfitValues no_values k = ⊥
  AreUnfitValues (more_values v vs) k = IsUnfitValue v k ⊎ AreUnfitValues vs k

  -- for a field of one value
  pub IsUnfitGiven : Given → Kind → Type 0
  IsUnfitGiven (one_scalar s) k = scalar_given k s ≡ None
  IsUnfitGiven (one_message colon b fs) k = NoMessage k (Unfit fs)
  IsUnfitGiven (listed vs) k = Unit {0}

  -- and for a list or a map
  pub AreUnfitGiven : Given → Kind → Type 0
  AreUnfitGiven (one_scalar s) k = scalar_given k s ≡ None
  AreUnfitGiven (one_message colon b fs) k = NoMessage k (Unfit fs)
  AreUnfitGiven (listed vs) k = AreUnfitValues vs k

  -- an expansion has one message in braces
  pub IsUnfitBody : Given → MessageDescriptor → Type 0
  IsUnfitBody (one_message colon b fs) d = CannotMake d (Unfit fs)
  IsUnfitBody (one_scalar s) d = Unit {0}
  IsUnfitBody (listed vs) d = Unit {0}

  -- one of the fields is, behind those that were taken
  pub Unfit : Fields → Refusal
  Unfit no_fields m = ⊥
  Unfit (more_fields name given s fs) m =
      RejectsNamed name (IsUnfitGiven given) (AreUnfitGiven given) (IsUnfitBody given) m
      ⊎ ((next : DynamicMessage) × FillsField name given m next × Unfit fs next)

-- a field is
abbrev pub IsUnfitField : FieldName → Given → Refusal
IsUnfitField name given m =
    RejectsNamed name (IsUnfitGiven given) (AreUnfitGiven given) (IsUnfitBody given) m
