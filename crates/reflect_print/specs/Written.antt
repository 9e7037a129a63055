-- What a writer writes, and what its parts add.
use Rattle.std.specs.Prelude.{◌≡◌, ◌⊎◌, ℕ, List, Option, None, Some}
use Rattle.reflect_message.specs.Names.{DynamicMessage}
use Rattle.text_lines.specs.declared.lines.Items.{Items}
use Rattle.text_lines.specs.declared.options.FormatOptions.{FormatOptions}
use Rattle.print_parts.specs.Entries.{Entry}
use Rattle.print_parts.specs.Expands.{Expands}
use Rattle.print_parts.specs.Parts.{url_of}
use Rattle.print_parts.specs.declared.any.Held.{Held}
use Rattle.reflect_print.specs.MessageTexts.{IsRowText, MayExpand, any_behind}

-- one of these texts is what the output took, in one call
abbrev pub WritesOneOf : {W : Type 0} → (W → List ℕ → W → Type 0) → W → (List ℕ → Type 0) → W
    → Type 0
WritesOneOf took old Is new = (text : List ℕ) × Is text × took old text new

-- the message in place of which another is printed, if the form expands it
abbrev pub IsExpansion : FormatOptions → ℕ → DynamicMessage → Option Held → Type 0
IsExpansion form x m None = (MayExpand form x → ⊥) ⊎ Expands m None
IsExpansion form x m (Some h) = MayExpand form x × Expands m (Some (url_of h, h.body))

-- the text of entries in a row, behind the items that were there; these are then all
abbrev pub IsSpan : FormatOptions → ℕ → ℕ → ℕ → Items → Items → (List Entry → Type 0) → List ℕ
    → Type 0
IsSpan form payloads x i old new Are text =
    (es : List Entry) × Are es × IsRowText form payloads x i old.in_braces old.any es text
    × (new ≡ record old { any = any_behind old.any es })
