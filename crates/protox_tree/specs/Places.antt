-- Where the parts of a tree stand.
use Rattle.std.specs.Prelude.{List, map, Option, None, Some}
use Rattle.protox_lex.specs.declared.literal.Int.{Int}
use Rattle.protox_lex.specs.Span.{across}
use Rattle.protox_lex.specs.declared.span.Span.{Span}
use Rattle.protox_tree.specs.Tree.{TypeName, Ty, scalar, named, NamePart, plain, extension, Value, word_value, minus_word, int_value, float_value, strings_value, braces_value, Body, spans_cover, words_span}
use Rattle.protox_tree.specs.declared.range.RangeEnd.{RangeEnd}
use Rattle.protox_tree.specs.declared.range.RangeEnd.TheVariants as ends
use Rattle.protox_tree.specs.declared.range.ReservedRange.{ReservedRange}

-- from the start of the first to the end of the last, where there may be no first
abbrev pub across_from : Option Span → Span → Span
across_from None last = last
across_from (Some first) last = across first last

abbrev pub type_name_span : TypeName → Span
type_name_span t = across_from t.leading_dot (words_span t.parts)

abbrev pub ty_span : Ty → Span
ty_span (scalar t span) = span
ty_span (named t) = type_name_span t

-- ---- options

-- an extension's name stands in parentheses
abbrev pub part_span : NamePart → Span
part_span (plain w) = w.span
part_span (extension t span) = span

abbrev pub name_span : List NamePart → Span
name_span parts = spans_cover (map part_span parts)

abbrev pub value_span : Value → Span
value_span (word_value w) = w.span
value_span (minus_word w) = w.span
value_span (int_value n) = n.span
value_span (float_value negative w) = w.span
value_span (strings_value ws) = words_span ws
value_span (braces_value text span) = span

-- from the name to the value
abbrev pub body_span : Body → Span
body_span b = across (name_span b.name) (value_span b.value)

-- ---- ranges

-- that of the last number, or of the first one where no other is written
abbrev pub end_span : Int → RangeEnd → Span
end_span start ends.None = start.span
end_span start (ends.Int n) = n.span
end_span start (ends.Max span) = span

abbrev pub range_span : ReservedRange → Span
range_span r = across r.start.span (end_span r.start r.end)
