-- What setting an option does to a message of options, and why it is refused (protobuf.dev,
-- "Language Guide (proto 2)", Custom Options).
use Rattle.std.specs.Prelude.{◌≡◌, ◌⊎◌, ◌-◌, ◌^◌, if◌then◌else◌, nat_lt, ℕ, zero, suc, ℤ, pos, List, [], ◌∷◌, true, false, Option, None, Some, length}
use Rattle.std.specs.Int.{w32, cast_signed}
use Rattle.descriptor_records.specs.Content.{OptionContent}
use Rattle.descriptor_records.specs.declared.options.NamePart.{NamePart}
use Rattle.option_parts.specs.declared.option_error.OptionErrorKind.{OptionErrorKind}
use Rattle.option_parts.specs.declared.option_error.OptionErrorKind.TheVariants as kinds
use Rattle.reflect_format.specs.Steps.{AddsValues, Puts, StaysAscending, StaysExclusive, held_by, is_set}
use Rattle.reflect_format.specs.Takes.{holds_many, target_pool, target_type}
use Rattle.reflect_format.specs.declared.target.Target.{Target}
use Rattle.reflect_format.specs.declared.target.Target.TheVariants as targets
use Rattle.reflect_message.specs.Contents.{content_of, nothing}
use Rattle.reflect_message.specs.Held.{UpdatesExtension, UpdatesField}
use Rattle.reflect_message.specs.Lists.{items_held}
use Rattle.reflect_message.specs.Names.{DynamicMessage, Value}
use Rattle.reflect_message.specs.declared.value.ValueOf.TheVariants as held
use Rattle.reflect_pool.specs.FieldsLeft.{field_type}
use Rattle.reflect_pool.specs.Kinds.{IsKind}
use Rattle.reflect_pool.specs.Shapes.{holds_list}
use Rattle.reflect_pool.specs.declared.kind.Kind.{Kind}
use Rattle.reflect_pool.specs.declared.kind.Kind.TheVariants as values
use Rattle.reflect_pool.specs.declared.message.MessageDescriptor.{MessageDescriptor}
use Rattle.reflect_scalar.specs.FieldTypes.{extension_type}
use Rattle.reflect_scalar.specs.Floats.{HoldsFloats}
use Rattle.option_setter.specs.OptionNames.{LacksTarget, NamesTarget}
use Rattle.option_setter.specs.OptionValues.{IsSaid, SaysNothing}
use Rattle.option_setter.specs.declared.option_setter.NameScope.{NameScope}
use Rattle.option_setter.specs.declared.option_value.ValueFault.TheVariants as faults

-- what the target holds is of the kind
abbrev pub OfKind : Target → Kind → Type 0
OfKind t k = IsKind (target_pool t) k (target_type t).kind

-- how many values a list has
abbrev pub count_held : Option Value → ℕ
count_held o = elim (items_held o) [ None ↦ 0 | Some vs ↦ length vs ]

-- a place as a path has it, as far as 32 bits count
abbrev pub place_of : ℕ → ℤ
place_of n = if nat_lt n (2 ^ 31) then pos n else pos (2 ^ 31 - 1)

-- where the next value of a list stands; nothing else has places
abbrev pub next_place : Target → DynamicMessage → List ℤ
next_place t m = if holds_list (target_pool t) (target_type t)
    then place_of (count_held (held_by m t)) ∷ [] else []

-- the value is put where none is set, behind those of a list, or into a map
abbrev pub PutsSaid : Target → Value → DynamicMessage → DynamicMessage → Type 0
PutsSaid t v old new =
    ((holds_many t ≡ false) × (is_set old t ≡ false) × Puts t v old new)
    ⊎ ((holds_many t ≡ true) × AddsValues t (v ∷ []) old new)

-- the last part of the name gets what the option says, in a message that stays of its type, and in
-- which of each oneof one member at most is set and numbers ascend, if it was so before
pub record SetsLast (t : Target) (o : OptionContent) (old new : DynamicMessage)
    (path : List ℤ) : Type 0 where
  pub no_floats : HoldsFloats (target_pool t) (target_type t) → ⊥
  pub put : (k : Kind) × OfKind t k × (v : Value) × IsSaid k o v × PutsSaid t v old new
  pub same_type : new.descriptor ≡ old.descriptor
  pub placed : path ≡ next_place t old
  pub exclusive : StaysExclusive t old new
  pub ascending : StaysAscending old new

-- the option says nothing to the kind
abbrev pub RefusesValue : Kind → OptionContent → OptionErrorKind → Type 0
RefusesValue k o (kinds.InvalidOptionType name) = SaysNothing k o faults.Unsuited
RefusesValue k o (kinds.InvalidMessageOption name e) = SaysNothing k o (faults.Text e)
RefusesValue k o _ = ⊥

-- the target may take a value: it holds no floating-point numbers, and none is set but in a list or
-- a map
abbrev pub MayTake : Target → DynamicMessage → Type 0
MayTake t m = (HoldsFloats (target_pool t) (target_type t) → ⊥)
    × (holds_many t ≡ false → is_set m t ≡ false)

-- why the last part is refused: it holds floating-point numbers; or else it has a value already;
-- or it may take one, and the option says nothing to it
abbrev pub RefusesLast : Target → OptionContent → DynamicMessage → OptionErrorKind → Type 0
RefusesLast t o m (kinds.FloatOption name) = HoldsFloats (target_pool t) (target_type t)
RefusesLast t o m (kinds.DuplicateOption name) =
    (HoldsFloats (target_pool t) (target_type t) → ⊥)
    × (holds_many t ≡ false) × (is_set m t ≡ true)
RefusesLast t o m e = MayTake t m × ((k : Kind) × OfKind t k × RefusesValue k o e)

-- nothing stands under the number, and nothing else is changed
abbrev pub Unsets : Target → DynamicMessage → DynamicMessage → Type 0
Unsets (targets.Field f) old new = UpdatesField old new (field_type f).number None
Unsets (targets.Extension x) old new = UpdatesExtension old new (extension_type x).number None

-- the message that a part leads into, taken out of the one that holds it, or a new one
pub record LeadsInto (t : Target) (old left inner : DynamicMessage) : Type 0 where
  pub one : holds_many t ≡ false
  pub kind : (d : MessageDescriptor) × OfKind t (values.Message d)
      × ((held_by old t ≡ Some (held.Message inner))
      ⊎ ((is_set old t ≡ false) × (inner.descriptor ≡ d) × (content_of inner ≡ nothing)))
  pub taken : Unsets t old left

-- the value is no message, which is told
abbrev pub IsNoMessage : Value → OptionErrorKind → Type 0
IsNoMessage v (kinds.InvalidOptionType name) = (m : DynamicMessage) → v ≡ held.Message m → ⊥
IsNoMessage v _ = ⊥

-- a part leads into no message: it holds none, or many
abbrev pub LeadsNowhere : Target → DynamicMessage → OptionErrorKind → Type 0
LeadsNowhere t m (kinds.InvalidOptionType name) = (holds_many t ≡ true)
    ⊎ (((d : MessageDescriptor) → OfKind t (values.Message d) → ⊥)
    ⊎ ((v : Value) × (held_by m t ≡ Some v) × IsNoMessage v (kinds.InvalidOptionType name)))
LeadsNowhere t m _ = ⊥

abbrev pub number_of : Target → ℤ
number_of t = cast_signed w32 (target_type t).number

-- the parts lead from a message, below which so many levels may lie, along the path to what the
-- option sets; each message on the way stays of its type
abbrev pub SetsParts : NameScope → OptionContent → ℕ → List NamePart → DynamicMessage
    → DynamicMessage → List ℤ → Type 0
SetsParts s o levels [] old new path = (new ≡ old) × (path ≡ [])
SetsParts s o levels (part ∷ []) old new path =
    (t : Target) × (rest : List ℤ) × NamesTarget s old.descriptor part t
    × SetsLast t o old new rest × (path ≡ number_of t ∷ rest)
SetsParts s o zero (part ∷ next ∷ parts) old new path = ⊥
SetsParts s o (suc levels) (part ∷ next ∷ parts) old new path =
    (t : Target) × (rest : List ℤ) × (left inner set : DynamicMessage)
    × NamesTarget s old.descriptor part t × LeadsInto t old left inner
    × SetsParts s o levels (next ∷ parts) inner set rest
    × Puts t (held.Message set) left new × (new.descriptor ≡ old.descriptor)
    × (path ≡ number_of t ∷ rest) × StaysExclusive t left new × StaysAscending left new

-- why they do not
abbrev pub RefusesParts : NameScope → OptionContent → ℕ → List NamePart → DynamicMessage
    → OptionErrorKind → Type 0
RefusesParts s o levels [] m e = ⊥
RefusesParts s o levels (part ∷ []) m e = LacksTarget s m.descriptor part e
    ⊎ ((t : Target) × NamesTarget s m.descriptor part t × RefusesLast t o m e)
RefusesParts s o zero (part ∷ next ∷ parts) m e = LacksTarget s m.descriptor part e
    ⊎ ((t : Target) × NamesTarget s m.descriptor part t × (e ≡ kinds.OptionTooDeep))
RefusesParts s o (suc levels) (part ∷ next ∷ parts) m e = LacksTarget s m.descriptor part e
    ⊎ ((t : Target) × NamesTarget s m.descriptor part t × (LeadsNowhere t m e
    ⊎ ((left inner : DynamicMessage) × LeadsInto t m left inner
    × RefusesParts s o levels (next ∷ parts) inner e)))
