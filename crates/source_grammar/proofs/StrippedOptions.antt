-- Names, options and ranges as tokens alone: these spell the tree without its places.
use Rattle.std.proofs.Common.{[], Bool, true, false, List, ◌∷◌, Option, Some, None, refl}
use Rattle.std.specs.Prelude.{codes}
use Rattle.protox_laws.specs.Unplaced as unplaced
use Rattle.protox_laws.specs.Unplaced.{nowhere}
use Rattle.protox_lex.specs.Token.{Token, ident, int, float, str, sign}
use Rattle.protox_lex.specs.declared.literal.Int.{Int}
use Rattle.protox_lex.specs.declared.span.Span.{Span}
use Rattle.protox_lex.specs.declared.token.Sign.TheVariants as s
use Rattle.protox_tokens.specs.Marks.{IsLiteral, literal, spot}
use Rattle.protox_tree.specs.Tree.{Word, TypeName, NamePart, plain, extension, Value, word_value, minus_word, int_value, float_value, strings_value, braces_value, Body, OptionStatement, OptionList, ReservedItems, reserved_ranges, reserved_names, Reserved}
use Rattle.protox_tree.specs.declared.range.RangeEnd.{RangeEnd}
use Rattle.protox_tree.specs.declared.range.RangeEnd.TheVariants as ranges
use Rattle.protox_tree.specs.declared.range.ReservedRange.{ReservedRange}
use Rattle.source_grammar.proofs.Shown.{Shows, shows_one, shows_never, shows_then, shows_behind}
use Rattle.source_grammar.proofs.Stripped.{Strips, strips_one, strips_spot, strips_token, strips_the, strips_nothing, strips_then, strips_if_there, strips_given, strips_some, strips_some_by}
use Rattle.source_grammar.proofs.StrippedTexts.{strips_aggregate}
use Rattle.source_grammar.specs.Languages.{one, ◌▸◌, if_there}
use Rattle.source_grammar.specs.Names.{a_word, full_name, a_type_name, integer_of, integer, a_string}
use Rattle.source_grammar.specs.Options.{a_name_part, minus, a_constant, a_body, an_option, options}
use Rattle.source_grammar.specs.Ranges.{a_range_end, a_range, reserved_items, a_reserved}

-- ---- names, numbers and strings

pub strips_word : (w : Word) → Strips (a_word w) (a_word (unplaced.a_word w))
strips_word w = strips_spot (ident w.text) w.span

pub shows_word : (w : Word) → Shows (a_word w)
shows_word w = shows_one (spot w.span (ident w.text))

pub strips_full : (ws : List Word) → Strips (full_name ws) (full_name (unplaced.words ws))
strips_full ws = strips_some_by (sign s.Dot) a_word unplaced.a_word strips_word ws

shows_full : (ws : List Word) → Shows (full_name ws)
shows_full [] = shows_never
shows_full (w ∷ ws) = shows_then (shows_word w)

pub strips_type_name : (t : TypeName) → Strips (a_type_name t) (a_type_name (unplaced.a_name t))
strips_type_name t = strips_then (strips_if_there (sign s.Dot) t.leading_dot) (strips_full t.parts)

pub shows_type_name : (t : TypeName) → Shows (a_type_name t)
shows_type_name t = by t.leading_dot where
  by : (o : Option Span) → Shows (if_there (sign s.Dot) o ▸ full_name t.parts)
  by None = shows_behind (shows_full t.parts)
  by (Some at) = shows_then (shows_one (spot at (sign s.Dot)))

pub strips_integer : (n : Int) → Strips (integer n) (integer (unplaced.an_int n))
strips_integer n = by n.negative where
  by : (b : Bool) → Strips (integer_of b n) (integer_of b (unplaced.an_int n))
  by true = strips_then (strips_token (sign s.Minus) refl) (strips_token (int n.value) refl)
  by false = strips_spot (int n.value) n.span

literal_fits : (w : Word) (t : Token) (at : Span) → IsLiteral w t at → IsLiteral (unplaced.a_word w) t nowhere
literal_fits w (str raw) at h = (h.0, refl)
literal_fits w t at h = absurd h

pub strips_string : (ws : List Word) → Strips (a_string ws) (a_string (unplaced.words ws))
strips_string ws = strips_some (λ w. one (literal w)) unplaced.a_word (λ w. strips_one (literal w) (literal (unplaced.a_word w)) (literal_fits w)) ws

-- ---- options

strips_part : (p : NamePart) → Strips (a_name_part p) (a_name_part (unplaced.a_part p))
strips_part (plain w) = strips_word w
strips_part (extension t at) = strips_then (strips_token (sign s.LeftParen) refl) (strips_then (strips_type_name t) (strips_token (sign s.RightParen) refl))

strips_minus : (at : Span) (k : Token) → Strips (minus at k) (minus nowhere k)
strips_minus at k = strips_then (strips_token (sign s.Minus) refl) (strips_token k refl)

strips_constant : (v : Value) → Strips (a_constant v) (a_constant (unplaced.a_value v))
strips_constant (word_value w) = strips_word w
strips_constant (minus_word w) = strips_given (λ h. h) (strips_minus w.span (ident w.text))
strips_constant (int_value n) = strips_given (λ h. h) (strips_integer n)
strips_constant (float_value false w) = strips_spot (float w.text) w.span
strips_constant (float_value true w) = strips_minus w.span (float w.text)
strips_constant (strings_value ws) = strips_string ws
strips_constant (braces_value x at) = strips_aggregate x at

strips_body : (b : Body) → Strips (a_body b) (a_body (unplaced.a_body b))
strips_body b = strips_then (strips_some_by (sign s.Dot) a_name_part unplaced.a_part strips_part b.name) (strips_then (strips_the (sign s.Equals)) (strips_constant b.value))

pub strips_option : (o : OptionStatement) → Strips (an_option o) (an_option (unplaced.an_option o))
strips_option o = strips_then (strips_token (ident (codes "option")) refl) (strips_then (strips_body o.body) (strips_token (sign s.Semicolon) refl))

pub strips_options : (o : Option OptionList) → Strips (options o) (options (unplaced.a_list_if o))
strips_options None = strips_nothing
strips_options (Some o) = strips_then (strips_token (sign s.LeftBracket) refl)
    (strips_then (strips_some_by (sign s.Comma) a_body unplaced.a_body strips_body o.options) (strips_token (sign s.RightBracket) refl))

-- ---- ranges

strips_end : (e : RangeEnd) → Strips (a_range_end e) (a_range_end (unplaced.an_end e))
strips_end ranges.None = strips_nothing
strips_end (ranges.Int n) = strips_then (strips_the (ident (codes "to"))) (strips_integer n)
strips_end (ranges.Max at) = strips_then (strips_the (ident (codes "to"))) (strips_spot (ident (codes "max")) at)

pub strips_range : (x : ReservedRange) → Strips (a_range x) (a_range (unplaced.a_range x))
strips_range x = strips_then (strips_integer x.start) (strips_end x.end)

strips_items : (is : ReservedItems) → Strips (reserved_items is) (reserved_items (unplaced.items_reserved is))
strips_items (reserved_ranges xs) = strips_some_by (sign s.Comma) a_range unplaced.a_range strips_range xs
strips_items (reserved_names ns) = strips_some_by (sign s.Comma) a_string unplaced.words strips_string ns

pub strips_reserved : (x : Reserved) → Strips (a_reserved x) (a_reserved (unplaced.a_reserved x))
strips_reserved x = strips_then (strips_token (ident (codes "reserved")) refl) (strips_then (strips_items x.items) (strips_token (sign s.Semicolon) refl))
