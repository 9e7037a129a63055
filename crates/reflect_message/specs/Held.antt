-- What messages hold.
use Rattle.std.specs.Prelude.{◌≡◌, ℕ, List, [], Option}
use Rattle.reflect_wire.specs.Records.{Payload}
use Rattle.reflect_entries.specs.Entries.{Updates, value_at}
use Rattle.reflect_entries.specs.Undeclared.{undeclared}
use Rattle.reflect_message.specs.declared.message.MessageOf.{MessageOf}
use Rattle.reflect_message.specs.declared.parts.HeldOf.{HeldOf, out-HeldOf}
use Rattle.reflect_message.specs.declared.parts.HeldOf.TheOpen.{HeldOf-F}
use Rattle.reflect_message.specs.declared.value.ValueOf.{ValueOf}

module _ {D : Type 0} where
  -- what the declared fields hold, with their numbers
  abbrev pub fields_in : HeldOf D → List (ℕ × ValueOf D)
  fields_in h = elim (out-HeldOf D h) [
    | HeldOf-F.Nothing ↦ []
    | HeldOf-F.Block b ↦ b.value.fields
  ]

  abbrev pub fields_of : MessageOf D → List (ℕ × ValueOf D)
  fields_of m = fields_in m.held

  -- what the extensions hold, with their numbers
  abbrev pub extensions_in : HeldOf D → List (ℕ × ValueOf D)
  extensions_in h = elim (out-HeldOf D h) [
    | HeldOf-F.Nothing ↦ []
    | HeldOf-F.Block b ↦ b.value.extensions
  ]

  abbrev pub extensions_of : MessageOf D → List (ℕ × ValueOf D)
  extensions_of m = extensions_in m.held

  -- the records of numbers that the type does not declare, with their numbers
  abbrev pub unknown_in : HeldOf D → List (ℕ × Payload)
  unknown_in h = elim (out-HeldOf D h) [
    | HeldOf-F.Nothing ↦ []
    | HeldOf-F.Block b ↦ undeclared b.value.unknown
  ]

  abbrev pub unknown_of : MessageOf D → List (ℕ × Payload)
  unknown_of m = unknown_in m.held

  -- the member of each oneof that is noted as set last, by the number of the oneof's first member
  abbrev pub choices_in : HeldOf D → List (ℕ × ℕ)
  choices_in h = elim (out-HeldOf D h) [
    | HeldOf-F.Nothing ↦ []
    | HeldOf-F.Block b ↦ b.value.choices.members
  ]

  abbrev pub choices_of : MessageOf D → List (ℕ × ℕ)
  choices_of m = choices_in m.held

  -- under the number stands what stood there
  abbrev pub Same : List (ℕ × ValueOf D) → List (ℕ × ValueOf D) → ℕ → Type 0
  Same old new n = value_at new n ≡ value_at old n

  -- under the number of a declared field stands what is given, or nothing, and nothing else is
  -- changed
  pub record UpdatesField (old new : MessageOf D) (number : ℕ)
      (given : Option (ValueOf D)) : Type 0 where
    pub same_type : new.descriptor ≡ old.descriptor
    pub field : Updates (fields_of old) (fields_of new) number given
    pub choices : choices_of new ≡ choices_of old
    pub extensions : extensions_of new ≡ extensions_of old
    pub unknown : unknown_of new ≡ unknown_of old

  -- the same for the number of an extension
  pub record UpdatesExtension (old new : MessageOf D) (number : ℕ)
      (given : Option (ValueOf D)) : Type 0 where
    pub same_type : new.descriptor ≡ old.descriptor
    pub fields : fields_of new ≡ fields_of old
    pub choices : choices_of new ≡ choices_of old
    pub extension : Updates (extensions_of old) (extensions_of new) number given
    pub unknown : unknown_of new ≡ unknown_of old

  -- nothing that the message holds changes
  pub record Stays (old new : MessageOf D) : Type 0 where
    pub same_type : new.descriptor ≡ old.descriptor
    pub fields : fields_of new ≡ fields_of old
    pub choices : choices_of new ≡ choices_of old
    pub extensions : extensions_of new ≡ extensions_of old
    pub unknown : unknown_of new ≡ unknown_of old
