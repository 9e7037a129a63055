-- What copies have of what they are copies of.
use Rattle.std.specs.Prelude.{◌≡◌, ℕ, List, option_map}
use Rattle.reflect_entries.specs.Entries.{value_at}
use Rattle.reflect_message.specs.Contents.{Content}
use Rattle.reflect_copies.specs.Trees.{tree}
use Rattle.reflect_message.specs.Held.{fields_in, choices_in, extensions_in, unknown_in}
use Rattle.reflect_message.specs.Names.{Held, Value}

-- under each number stands a value with the same content, or nothing, as in the old ones
abbrev pub AreCopies : List (ℕ × Value) → List (ℕ × Value) → Type 0
AreCopies old new = (n : ℕ) → option_map tree (value_at new n) ≡ option_map tree (value_at old n)

-- what a message of a type holds is so copied, with what is noted of oneofs, and the other records
pub record IsCopy (old copy : Content) : Type 0 where
  pub fields : AreCopies old.fields copy.fields
  pub choices : copy.choices ≡ old.choices
  pub extensions : AreCopies old.extensions copy.extensions
  pub unknown : copy.unknown ≡ old.unknown

-- what stands in the block of a message, if it has one
abbrev pub content_held : Held → Content
content_held h = record {
  fields = fields_in h;
  choices = choices_in h;
  extensions = extensions_in h;
  unknown = unknown_in h;
}
