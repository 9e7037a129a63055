-- What messages hold, apart from their types.
use Rattle.std.specs.Prelude.{ℕ, List, []}
use Rattle.reflect_wire.specs.Records.{Payload}
use Rattle.reflect_entries.specs.Undeclared.{undeclared}
use Rattle.reflect_message.specs.Held.{fields_of, choices_of, extensions_of, unknown_of}
use Rattle.reflect_message.specs.Names.{DynamicMessage, Parts, Value}

pub record Content : Type 0 where
  pub fields : List (ℕ × Value)
  pub choices : List (ℕ × ℕ)
  pub extensions : List (ℕ × Value)
  pub unknown : List (ℕ × Payload)

abbrev pub content_of : DynamicMessage → Content
content_of m = record {
  fields = fields_of m;
  choices = choices_of m;
  extensions = extensions_of m;
  unknown = unknown_of m;
}

abbrev pub content_in : Parts → Content
content_in p = record {
  fields = p.fields;
  choices = p.choices.members;
  extensions = p.extensions;
  unknown = undeclared p.unknown;
}

-- what a message holds in which nothing is set
abbrev pub nothing : Content
nothing = record { fields = []; choices = []; extensions = []; unknown = [] }
