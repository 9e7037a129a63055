-- Worked texts, as their tokens, and the tree that each spells, if it spells one.
use Rattle.std.specs.Prelude.{ℕ, zero, suc, true, false, List, [], ◌∷◌, map, Option}
use Rattle.text_lex.specs.declared.token.Radix.TheVariants as radix
use Rattle.text_lex.specs.Token.{Token, ident, int, str, sign, token_at}
use Rattle.text_model.specs.Tree.{FullName, plain, extension, expansion, integer, identifier, ScalarValue, signed, strings, curly, angle, no_separator, comma, semicolon, scalar, no_values, more_values, one_scalar, one_message, listed, Fields, no_fields, more_fields}
use Rattle.text_syntax.specs.Syntax.{text_at}

-- where tokens stand is not looked at
abbrev pub tree_of : List Token → Option Fields
tree_of ts = text_at (map (λ t. token_at 0 0 t) ts)

abbrev name : ℕ → Token
name w = ident (w ∷ [])

abbrev digit : ℕ → Token
digit d = int radix.Decimal (d ∷ [])

abbrev number : ℕ → ScalarValue
number d = signed false (integer radix.Decimal (d ∷ []))

abbrev one_part : ℕ → FullName
one_part w = record { first = w ∷ []; others = [] }

-- `a{`, so many times, and as many `}`
abbrev pub nested : ℕ → List Token → List Token
nested zero ts = ts
nested (suc n) ts = name 97 ∷ sign 123 ∷ nested n (sign 125 ∷ ts)

abbrev pub nested_tree : ℕ → Fields
nested_tree zero = no_fields
nested_tree (suc n) =
    more_fields (plain (97 ∷ [])) (one_message false curly (nested_tree n)) no_separator no_fields

abbrev pub read : List (List Token × Fields)
read =  -- `a: 1, b { c: [2, 3] }`
    (
      name 97 ∷ sign 58 ∷ digit 49 ∷ sign 44 ∷ name 98 ∷ sign 123 ∷ name 99 ∷ sign 58 ∷ sign 91
          ∷ digit 50 ∷ sign 44 ∷ digit 51 ∷ sign 93 ∷ sign 125 ∷ [],
      more_fields (plain (97 ∷ [])) (one_scalar (number 49)) comma
          (more_fields (plain (98 ∷ []))
          (one_message false curly
          (more_fields (plain (99 ∷ []))
          (listed (more_values (scalar (number 50)) (more_values (scalar (number 51)) no_values)))
          no_separator no_fields))
          no_separator no_fields),
    )
    -- nothing
    ∷ ([], no_fields)
    -- `a: [] b: <>;`
    ∷ (
      name 97 ∷ sign 58 ∷ sign 91 ∷ sign 93 ∷ name 98 ∷ sign 58 ∷ sign 60 ∷ sign 62 ∷ sign 59 ∷ [],
      more_fields (plain (97 ∷ [])) (listed no_values) no_separator
          (more_fields (plain (98 ∷ [])) (one_message true angle no_fields) semicolon no_fields),
    )
    -- `a: "x" "y" [b.c]: -d [e/f] {}`
    ∷ (
      name 97 ∷ sign 58 ∷ str (120 ∷ []) ∷ str (121 ∷ []) ∷ sign 91 ∷ name 98 ∷ sign 46 ∷ name 99
          ∷ sign 93 ∷ sign 58 ∷ sign 45 ∷ name 100 ∷ sign 91 ∷ name 101 ∷ sign 47 ∷ name 102
          ∷ sign 93 ∷ sign 123 ∷ sign 125 ∷ [],
      more_fields (plain (97 ∷ [])) (one_scalar (strings (120 ∷ []) ((121 ∷ []) ∷ []))) no_separator
          (more_fields (extension (record { first = 98 ∷ []; others = (99 ∷ []) ∷ [] }))
          (one_scalar (signed true (identifier (100 ∷ [])))) no_separator
          (more_fields (expansion (one_part 101) (one_part 102)) (one_message false curly no_fields)
          no_separator no_fields)),
    )
    -- 100 braces open at once
    ∷ (nested 100 [], nested_tree 100)
    ∷ []

abbrev pub refused : List (List Token)
refused =  -- a comma behind the last value: `a: [1,]`
    (name 97 ∷ sign 58 ∷ sign 91 ∷ digit 49 ∷ sign 44 ∷ sign 93 ∷ [])
    -- none between two: `a: [1 2]`
    ∷ (name 97 ∷ sign 58 ∷ sign 91 ∷ digit 49 ∷ digit 50 ∷ sign 93 ∷ [])
    -- a list in a list: `a: [[1]]`
    ∷ (name 97 ∷ sign 58 ∷ sign 91 ∷ sign 91 ∷ digit 49 ∷ sign 93 ∷ sign 93 ∷ [])
    -- no colon before a scalar or a list: `a 1`, `a [1]`
    ∷ (name 97 ∷ digit 49 ∷ [])
    ∷ (name 97 ∷ sign 91 ∷ digit 49 ∷ sign 93 ∷ [])
    -- two signs behind a field: `a: 1,; b: 2`
    ∷ (name 97 ∷ sign 58 ∷ digit 49 ∷ sign 44 ∷ sign 59 ∷ name 98 ∷ sign 58 ∷ digit 50 ∷ [])
    -- another brace, none, or one too many: `a {>`, `a {`, `a {}}`
    ∷ (name 97 ∷ sign 123 ∷ sign 62 ∷ [])
    ∷ (name 97 ∷ sign 123 ∷ [])
    ∷ (name 97 ∷ sign 123 ∷ sign 125 ∷ sign 125 ∷ [])
    -- 101 braces open at once
    ∷ nested 101 []
    ∷ []
