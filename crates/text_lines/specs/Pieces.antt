-- The small pieces of a printed text.
use Rattle.std.specs.Prelude.{ℕ, ◌-◌, ◌^◌, Bool, false, if◌then◌else◌, List, [], ◌∷◌, ◌++◌, replicate}
use Rattle.std.specs.Fmt.{digits, padded_integral, format_spec}
use Rattle.protox_lex.specs.Escapes.{escaped}

-- the bytes between double quotes
abbrev pub quoted : List ℕ → List ℕ
quoted bs = 34 ∷ (escaped bs ++ 34 ∷ [])

-- `0x` and a number in so many hexadecimal digits
abbrev pub hexadecimal : ℕ → ℕ → List ℕ
hexadecimal width n = 48 ∷ 120
    ∷ padded_integral (format_spec 32 0 4 width (2 ^ 64 - 1)) false [] (digits 16 false n)

-- the name in brackets
abbrev pub bracketed : List ℕ → List ℕ
bracketed name = 91 ∷ (name ++ 93 ∷ [])

-- the space that only the pretty form has
abbrev pub padding : Bool → List ℕ
padding pretty = if pretty then 32 ∷ [] else []

abbrev pub colon : Bool → List ℕ
colon pretty = 58 ∷ padding pretty

-- what stands before an element of a list
abbrev pub before_element : Bool → Bool → List ℕ
before_element pretty first = if first then [] else 44 ∷ padding pretty

-- the end of a line, and the spaces in front of the next
abbrev pub new_line : ℕ → List ℕ
new_line indent = 10 ∷ replicate indent 32

-- what stands before an item, which others may stand before, and which may stand in braces: in the
-- pretty form each item has a line of its own, and a text without braces begins with one
abbrev pub before_item : Bool → Bool → Bool → ℕ → List ℕ
before_item pretty in_braces any indent =
    if pretty then (if any then new_line indent else (if in_braces then new_line indent else []))
    else (if any then 44 ∷ [] else [])

-- the line that the last brace has in the pretty form, behind any item
abbrev pub last_line : Bool → Bool → ℕ → List ℕ
last_line pretty any indent = if any then (if pretty then new_line indent else []) else []

-- items in braces
abbrev pub in_braces : Bool → ℕ → Bool → List ℕ → List ℕ
in_braces pretty indent any items = 123 ∷ (items ++ (last_line pretty any indent ++ 125 ∷ []))
