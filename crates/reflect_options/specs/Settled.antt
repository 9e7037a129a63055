-- What the options of one record settle to (protobuf.dev, "Language Guide (proto 2)", Custom
-- Options): by the schema's type for options of that sort, the stored bytes and then what a source
-- wrote, in order.
use Rattle.std.specs.declared.alloc.Global.{Global}
use Rattle.std.specs.Prelude.{◌≡◌, ◌≢◌, ◌⊎◌, ◌&&◌, ◌||◌, ℕ, ℤ, List, [], ◌∷◌, Bool, true, false, not, Option, None, Some, Vec, codes, map, slice_get, take}
use Rattle.std.specs.Option.{option_and_then, unwrap_or}
use Rattle.std.specs.Str.{bytes_eq}
use Rattle.descriptor_records.specs.Content.{NameContent, OptionsContent, option_view}
use Rattle.descriptor_records.specs.declared.options.Options.{Options}
use Rattle.descriptor_records.specs.declared.options.UninterpretedOption.{UninterpretedOption}
use Rattle.option_parts.specs.OptionTypes.{type_name, typed_option}
use Rattle.option_parts.specs.declared.option_error.OptionErrorKind.{OptionErrorKind}
use Rattle.option_parts.specs.declared.option_error.OptionErrorKind.TheVariants as kinds
use Rattle.option_parts.specs.declared.option_scope.OptionScope.{OptionScope}
use Rattle.option_parts.specs.declared.option_scope.OptionScope.TheVariants as scopes
use Rattle.option_setter.specs.SetOptions.{RefusesParts, SetsParts}
use Rattle.option_setter.specs.WrittenNames.{TellsOption}
use Rattle.option_setter.specs.declared.option_setter.NameScope.{NameScope}
use Rattle.reflect_decode.specs.Spelled.{IsSpelled, TellsWhy}
use Rattle.reflect_message.specs.Bytes.{message_bytes}
use Rattle.reflect_message.specs.Held.{fields_of}
use Rattle.reflect_message.specs.Known.{known_field}
use Rattle.reflect_message.specs.Names.{DynamicMessage, Value}
use Rattle.reflect_message.specs.Oneofs.{IsExclusive}
use Rattle.reflect_message.specs.Present.{held_if_set}
use Rattle.reflect_message.specs.Singles.{single}
use Rattle.reflect_entries.specs.Entries.{value_at}
use Rattle.reflect_numbered.specs.Called.{HasNumber, UnsetsMeant}
use Rattle.reflect_pool.specs.FindsNames.{FindsMessage}
use Rattle.reflect_pool.specs.declared.message.MessageDescriptor.{MessageDescriptor}
use Rattle.reflect_scalar.specs.Cases.{truth_of}
use Rattle.reflect_tables.specs.Finding.{IsFirst}
use Rattle.reflect_wire.specs.declared.wire_error.WireError.{WireError}
use Rattle.reflect_wire.specs.declared.wire_error.WireError.TheVariants.{Memory, TooDeep}

-- the schema's type for the options of a scope
abbrev pub IsType : OptionScope → NameScope → MessageDescriptor → Type 0
IsType scope s d = (d.pool.now ≡ s.pool.now)
    × FindsMessage s.pool.now (type_name scope) (Some d)

-- ---- options that no source may set
-- the list of uninterpreted ones, and what says that a message is the type of a map's entries
abbrev pub is_reserved : OptionScope → List ℕ → Bool
is_reserved scopes.Message name = bytes_eq name (codes "uninterpreted_option")
    || bytes_eq name (codes "map_entry")
is_reserved scope name = bytes_eq name (codes "uninterpreted_option")

-- the name begins with such a field
abbrev pub is_forbidden : OptionScope → List NameContent → Bool
is_forbidden scope [] = false
is_forbidden scope (part ∷ parts) = not part.is_extension && is_reserved scope part.name_part

-- the place of the first of them, or that there is none
abbrev pub FindsForbidden : OptionScope → Options → Option ℕ → Type 0
FindsForbidden scope o = IsFirst (λ x. is_forbidden scope (option_view x).name ≡ true)
    o.uninterpreted_option.items

-- ---- what is stored
-- the truth value that is held
abbrev pub truth_in : Option Value → Option Bool
truth_in held = option_and_then truth_of (option_and_then single held)

-- that of the field of a number, if it is set
abbrev pub truth_said : ℕ → DynamicMessage → Option Bool
truth_said n m = option_and_then
    (λ f. truth_in (held_if_set m.descriptor.pool.now f (value_at (fields_of m) n)))
    (known_field m.descriptor.pool.now m.descriptor.index n)

-- of a message it says as its record does whether it is the type of a map's entries
abbrev pub AgreesOnEntries : OptionScope → Options → DynamicMessage → Type 0
AgreesOnEntries scopes.Message o m =
    unwrap_or (truth_said 7 m) false ≡ unwrap_or o.map_entry false
AgreesOnEntries scope o m = Unit {0}

-- the stored bytes spell a message of the type that agrees with the record, and of each oneof in it
-- one member at most is set
abbrev pub IsStored : OptionScope → MessageDescriptor → Options → DynamicMessage → Type 0
IsStored scope d o m = (m.descriptor ≡ d) × IsSpelled d o.encoded.items m
    × AgreesOnEntries scope o m × IsExclusive m

-- what is told of bytes of options that are refused: want of memory is no fault of theirs
abbrev pub of_wire : WireError → OptionErrorKind
of_wire Memory = kinds.Memory
of_wire e = kinds.UndecodableOptions (Some e)

-- they spell none, or one that does not agree
abbrev pub RefusesStored : OptionScope → MessageDescriptor → Options → OptionErrorKind → Type 0
RefusesStored scope d o (kinds.UndecodableOptions (Some e)) = (e ≢ Memory)
    × TellsWhy d o.encoded.items e
RefusesStored scopes.Message d o (kinds.UndecodableOptions None) =
    (m : DynamicMessage) × (m.descriptor ≡ d) × IsSpelled d o.encoded.items m
    × (unwrap_or (truth_said 7 m) false ≡ unwrap_or o.map_entry false → ⊥)
RefusesStored scope d o e = ⊥

-- ---- what a source wrote
-- one option is set, along a path
abbrev pub SetsOption : NameScope → UninterpretedOption → DynamicMessage → DynamicMessage → List ℤ
    → Type 0
SetsOption s o = SetsParts s (option_view o) 100 o.name.items

-- one after another, each along its path
abbrev pub SetsAll : NameScope → List UninterpretedOption → DynamicMessage → DynamicMessage
    → List (List ℤ) → Type 0
SetsAll s [] old new paths = (new ≡ old) × (paths ≡ [])
SetsAll s (o ∷ os) old new paths =
    (next : DynamicMessage) × (path : List ℤ) × (rest : List (List ℤ))
    × SetsOption s o old next path × SetsAll s os next new rest × (paths ≡ path ∷ rest)

-- their paths, as they lie in memory
abbrev pub lists_of : Vec (Vec ℤ Global) Global → List (List ℤ)
lists_of paths = map (λ (p : Vec ℤ Global). p.items) paths.items

-- the one at a place is refused, behind those in front of it
abbrev pub RefusesAt : NameScope → List UninterpretedOption → DynamicMessage → ℕ
    → OptionErrorKind → Type 0
RefusesAt s os m place e =
    (o : UninterpretedOption) × (front : DynamicMessage) × (paths : List (List ℤ))
    × (slice_get os place ≡ Some o) × SetsAll s (take place os) m front paths
    × RefusesParts s (option_view o) 100 o.name.items front e × TellsOption (option_view o) e

-- ---- what is written
-- what linking reads itself
abbrev pub typed_said : OptionScope → DynamicMessage → Option Bool
typed_said scope m = option_and_then (λ o. truth_said o.1 m) (typed_option scope)

-- a record that has these bytes and says this, and in which nothing is left to settle
abbrev pub settled_record : OptionScope → Option Bool → List ℕ → OptionsContent
settled_record scope said bytes = record {
  encoded = bytes;
  packed = elim scope [ scopes.Field ↦ said | _ ↦ None ];
  allow_alias = elim scope [ scopes.Enum ↦ said | _ ↦ None ];
  map_entry = elim scope [ scopes.Message ↦ said | _ ↦ None ];
  uninterpreted_option = [];
}

-- the bytes are read back: they nest as messages may
abbrev pub IsReadBack : DynamicMessage → Type 0
IsReadBack m = (back : DynamicMessage) × IsSpelled m.descriptor (message_bytes m) back

abbrev pub IsRecordOf : OptionScope → DynamicMessage → OptionsContent → Type 0
IsRecordOf scope m o =
    (o ≡ settled_record scope (typed_said scope m) (message_bytes m)) × IsReadBack m

-- why they are not, most often because they nest too deep
abbrev pub unread : WireError → OptionErrorKind
unread TooDeep = kinds.OptionTooDeep
unread e = of_wire e

-- they are not
abbrev pub RefusesWritten : DynamicMessage → OptionErrorKind → Type 0
RefusesWritten m kinds.OptionTooDeep = TellsWhy m.descriptor (message_bytes m) TooDeep
RefusesWritten m (kinds.UndecodableOptions (Some e)) = (e ≢ Memory) × (e ≢ TooDeep)
    × TellsWhy m.descriptor (message_bytes m) e
RefusesWritten m e = ⊥

-- ---- the whole
-- what is set, but for the list of uninterpreted options, in what is stored
abbrev pub IsWhole : OptionScope → NameScope → MessageDescriptor → Options → DynamicMessage
    → List (List ℤ) → Type 0
IsWhole scope s d o whole paths =
    (stored set : DynamicMessage) × IsStored scope d o stored
    × SetsAll s o.uninterpreted_option.items stored set paths
    × UnsetsMeant (HasNumber 999) set whole

-- the schema has a type for the options, and this is their record, with the paths of those that a
-- source wrote
abbrev pub Settles : OptionScope → NameScope → Options → OptionsContent → List (List ℤ) → Type 0
Settles scope s o settled paths = FindsForbidden scope o None
    × ((d : MessageDescriptor) × IsType scope s d × (whole : DynamicMessage)
    × IsWhole scope s d o whole paths × IsRecordOf scope whole settled)

-- it has none, and there is nothing to settle
abbrev pub StayAsTheyAre : OptionScope → NameScope → Options → Type 0
StayAsTheyAre scope s o = FindsMessage s.pool.now (type_name scope) None
    × (o.uninterpreted_option.items ≡ [])

-- why the type refuses them, and at which of them
abbrev pub RefusesTyped : OptionScope → NameScope → MessageDescriptor → Options → Option ℕ
    → OptionErrorKind → Type 0
RefusesTyped scope s d o None e = RefusesStored scope d o e
    ⊎ ((whole : DynamicMessage) × (paths : List (List ℤ)) × IsWhole scope s d o whole paths
    × RefusesWritten whole e)
RefusesTyped scope s d o (Some place) e = (stored : DynamicMessage) × IsStored scope d o stored
    × RefusesAt s o.uninterpreted_option.items stored place e

-- what is forbidden is told by its name
abbrev pub IsForbiddenAt : OptionScope → Options → Option ℕ → OptionErrorKind → Type 0
IsForbiddenAt scope o (Some place) (kinds.ForbiddenOption name) =
    FindsForbidden scope o (Some place) × ((x : UninterpretedOption)
    × (slice_get o.uninterpreted_option.items place ≡ Some x)
    × TellsOption (option_view x) (kinds.ForbiddenOption name))
IsForbiddenAt scope o at e = ⊥

-- there is no type, for options that a source wrote
abbrev pub LacksType : OptionScope → NameScope → Options → Option ℕ → OptionErrorKind → Type 0
LacksType scope s o at e = FindsMessage s.pool.now (type_name scope) None
    × (o.uninterpreted_option.items ≡ [] → ⊥) × (at ≡ Some 0) × (e ≡ kinds.NoDescriptorProto)

-- why options are refused, and at which of them
abbrev pub RefusesOptions : OptionScope → NameScope → Options → Option ℕ → OptionErrorKind → Type 0
RefusesOptions scope s o at e = IsForbiddenAt scope o at e
    ⊎ (FindsForbidden scope o None × (LacksType scope s o at e
    ⊎ ((d : MessageDescriptor) × IsType scope s d × RefusesTyped scope s d o at e)))
