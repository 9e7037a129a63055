-- The tree that tokens spell, as a function: where they spell none, its answer says nothing.
use Rattle.std.proofs.Common.{ℕ, zero, suc, ◌==◌, ◌||◌, Bool, true, false, cond, List, [], ◌∷◌}
use Rattle.protox_lex.specs.Class.{Text}
use Rattle.text_lex.specs.Token.{Token, ident, int, float, str, sign}
use Rattle.text_model.specs.Tree.{FullName, FieldName, plain, extension, expansion, Word, integer, floating, identifier, ScalarValue, signed, strings, Brace, curly, angle, Separator, no_separator, comma, semicolon, Value, scalar, braced, Values, no_values, more_values, Given, one_scalar, one_message, listed, Fields, no_fields, more_fields}

abbrev pub Stream : Type 0
Stream = List Token

-- what is read, and what is behind it
abbrev pub got : {X : Type 0} → X → Stream → X × Stream
got x ts = (x, ts)

abbrev pub is_sign : ℕ → Token → Bool
is_sign b (sign c) = c == b
is_sign b _ = false

abbrev pub is_string : Token → Bool
is_string (str s) = true
is_string _ = false

abbrev pub begins_name : Token → Bool
begins_name (ident w) = true
begins_name (sign b) = b == 91
begins_name _ = false

abbrev pub is_at : (Token → Bool) → Stream → Bool
is_at test [] = false
is_at test (t ∷ ts) = test t

abbrev pub rest : Stream → Stream
rest [] = []
rest (t ∷ ts) = ts

-- the text of a word or a string
abbrev pub text_in : Token → Text
text_in (ident w) = w
text_in (str s) = s
text_in _ = []

abbrev pub word_in : Token → Word
word_in (int r digits) = integer r digits
word_in (float s) = floating s
word_in t = identifier (text_in t)

abbrev pub text_at : Stream → Text
text_at [] = []
text_at (t ∷ ts) = text_in t

abbrev pub word_at : Stream → Word
word_at [] = identifier []
word_at (t ∷ ts) = word_in t

abbrev pub with_text : Text → List Text × Stream → List Text × Stream
with_text w p = (w ∷ p.0, p.1)

-- identifiers behind dots
abbrev pub others_front : ℕ → Stream → List Text × Stream
others_front zero ts = got [] ts
others_front (suc k) ts = cond (is_at (is_sign 46) ts) (with_text (text_at (rest ts)) (others_front k (rest (rest ts)))) (got [] ts)

abbrev pub with_first : Text → List Text × Stream → FullName × Stream
with_first w p = (record { first = w; others = p.0 }, p.1)

abbrev pub full_front : ℕ → Stream → FullName × Stream
full_front k ts = with_first (text_at ts) (others_front k (rest ts))

abbrev pub in_expansion : FullName → FullName × Stream → FieldName × Stream
in_expansion d p = (expansion d p.0, rest p.1)

abbrev pub in_brackets : ℕ → FullName × Stream → FieldName × Stream
in_brackets k p = cond (is_at (is_sign 47) p.1) (in_expansion p.0 (full_front k (rest p.1))) (got (extension p.0) (rest p.1))

abbrev pub name_front : ℕ → Stream → FieldName × Stream
name_front k ts = cond (is_at (is_sign 91) ts) (in_brackets k (full_front k (rest ts))) (got (plain (text_at ts)) (rest ts))

abbrev pub strings_front : ℕ → Stream → List Text × Stream
strings_front zero ts = got [] ts
strings_front (suc k) ts = cond (is_at is_string ts) (with_text (text_at ts) (strings_front k (rest ts))) (got [] ts)

abbrev pub in_strings : Text → List Text × Stream → ScalarValue × Stream
in_strings s p = (strings s p.0, p.1)

abbrev pub scalar_front : ℕ → Stream → ScalarValue × Stream
scalar_front k ts =
    cond (is_at (is_sign 45) ts) (got (signed true (word_at (rest ts))) (rest (rest ts)))
    (cond (is_at is_string ts) (in_strings (text_at ts) (strings_front k (rest ts))) (got (signed false (word_at ts)) (rest ts)))

abbrev pub opens : Token → Bool
opens t = is_sign 123 t || is_sign 60 t

abbrev pub brace_at : Stream → Brace
brace_at ts = cond (is_at (is_sign 123) ts) curly angle

-- how fields are read
abbrev pub Inner : Type 0
Inner = Stream → Fields × Stream

abbrev pub in_braces : Brace → Fields × Stream → Value × Stream
in_braces b p = (braced b p.0, rest p.1)

abbrev pub as_scalar : ScalarValue × Stream → Value × Stream
as_scalar p = (scalar p.0, p.1)

abbrev pub value_front : Inner → ℕ → Stream → Value × Stream
value_front inner k ts = cond (is_at opens ts) (in_braces (brace_at ts) (inner (rest ts))) (as_scalar (scalar_front k ts))

abbrev pub with_value : Value → Values × Stream → Values × Stream
with_value v p = (more_values v p.0, p.1)

-- values behind commas
abbrev pub more_front : Inner → ℕ → ℕ → Stream → Values × Stream
more_front inner k zero ts = got no_values ts
more_front inner k (suc j) ts =
    cond (is_at (is_sign 44) ts)
    (with_value (value_front inner k (rest ts)).0 (more_front inner k j (value_front inner k (rest ts)).1)) (got no_values ts)

abbrev pub values_from : Inner → ℕ → Value × Stream → Values × Stream
values_from inner k p = with_value p.0 (more_front inner k k p.1)

abbrev pub values_front : Inner → ℕ → Stream → Values × Stream
values_front inner k ts = cond (is_at (is_sign 93) ts) (got no_values ts) (values_from inner k (value_front inner k ts))

abbrev pub as_list : Values × Stream → Given × Stream
as_list p = (listed p.0, rest p.1)

abbrev pub as_message : Bool → Brace → Fields × Stream → Given × Stream
as_message colon b p = (one_message colon b p.0, rest p.1)

abbrev pub as_one : ScalarValue × Stream → Given × Stream
as_one p = (one_scalar p.0, p.1)

abbrev pub message_front : Inner → Bool → Stream → Given × Stream
message_front inner colon ts = as_message colon (brace_at ts) (inner (rest ts))

abbrev pub behind_colon : Inner → ℕ → Stream → Given × Stream
behind_colon inner k ts =
    cond (is_at (is_sign 91) ts) (as_list (values_front inner k (rest ts)))
    (cond (is_at opens ts) (message_front inner true ts) (as_one (scalar_front k ts)))

abbrev pub given_front : Inner → ℕ → Stream → Given × Stream
given_front inner k ts = cond (is_at (is_sign 58) ts) (behind_colon inner k (rest ts)) (message_front inner false ts)

abbrev pub separator_front : Stream → Separator × Stream
separator_front ts =
    cond (is_at (is_sign 44) ts) (got comma (rest ts)) (cond (is_at (is_sign 59) ts) (got semicolon (rest ts)) (got no_separator ts))

abbrev pub with_fields : FieldName → Given → Separator → Fields × Stream → Fields × Stream
with_fields n g s p = (more_fields n g s p.0, p.1)

abbrev pub behind_separator : Inner → FieldName → Given → Separator × Stream → Fields × Stream
behind_separator inner n g p = with_fields n g p.0 (inner p.1)

abbrev pub behind_given : Inner → FieldName → Given × Stream → Fields × Stream
behind_given inner n p = behind_separator inner n p.0 (separator_front p.1)

abbrev pub behind_name : Inner → ℕ → FieldName × Stream → Fields × Stream
behind_name inner k p = behind_given inner p.0 (given_front inner k p.1)

-- fields up to what begins none; each is at least as deep as the number that is left
abbrev pub fields_front : ℕ → Stream → Fields × Stream
fields_front zero ts = got no_fields ts
fields_front (suc k) ts = cond (is_at begins_name ts) (behind_name (fields_front k) k (name_front k ts)) (got no_fields ts)
