-- The tokens of ranges and reserved statements, by the language specification's sections
-- "Reserved" and "Extensions".
use Rattle.protox_lex.specs.Token.{ident, sign}
use Rattle.protox_tokens.specs.Marks.{spot}
use Rattle.protox_tokens.specs.Parser.{sees}
use Rattle.protox_tokens.specs.Stream.{Stream}
use Rattle.protox_tree.specs.Tree.{ReservedItems, reserved_ranges, reserved_names, Reserved}
use Rattle.protox_tree.specs.declared.range.RangeEnd.{RangeEnd}
use Rattle.protox_tree.specs.declared.range.ReservedRange.{ReservedRange}
use Rattle.source_grammar.specs.Languages.{Language, nothing, one, the, token_at, begins, ends, ◌▸◌, some_by}
use Rattle.source_grammar.specs.Names.{integer, a_string}
use Rattle.std.specs.Prelude.{◌≡◌, false, codes}
use Rattle.protox_lex.specs.declared.token.Sign.TheVariants as s
use Rattle.protox_tree.specs.declared.range.RangeEnd.TheVariants as ranges

-- [ "to" ( intLit | "max" ) ]
abbrev pub a_range_end : RangeEnd → Language
a_range_end ranges.None = nothing
a_range_end (ranges.Int n) = the (ident (codes "to")) ▸ integer n
a_range_end (ranges.Max at) = the (ident (codes "to")) ▸ one (spot at (ident (codes "max")))

-- range = intLit [ "to" ( intLit | "max" ) ]
abbrev pub a_range : ReservedRange → Language
a_range x = integer x.start ▸ a_range_end x.end

-- ranges | strFieldNames
abbrev pub reserved_items : ReservedItems → Language
reserved_items (reserved_ranges xs) = some_by (sign s.Comma) a_range xs
reserved_items (reserved_names ns) = some_by (sign s.Comma) a_string ns

-- reserved = "reserved" ( ranges | strFieldNames ) ";"
abbrev pub a_reserved : Reserved → Language
a_reserved x =
    token_at (ident (codes "reserved")) (begins x.span)
    ▸ reserved_items x.items ▸ token_at (sign s.Semicolon) (ends x.span)

-- A range without an end goes on with the word `to`.
abbrev pub NoTo : RangeEnd → Stream → Type 0
NoTo ranges.None r = sees (ident (codes "to")) r ≡ false
NoTo (ranges.Int n) r = Unit {0}
NoTo (ranges.Max at) r = Unit {0}

abbrev pub NoEnd : ReservedRange → Stream → Type 0
NoEnd x r = NoTo x.end r
