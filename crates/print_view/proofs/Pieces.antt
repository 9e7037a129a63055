-- The pieces of texts, compact and pretty.
use Rattle.std.proofs.Common.{◌≡◌, ℕ, ◌+◌, ◌==◌, Bool, true, false, cond, List, [], ◌∷◌, ◌++◌, refl, sym, ap, ◌∙◌, append-nil, append_assoc, arith}
use Rattle.std.proofs.lemmas.Grind.{flat_map-append}
use Rattle.protox_lex.specs.Class.{Text}
use Rattle.text_lex.specs.Token.{Token, ident, sign}
use Rattle.text_lines.specs.Pieces.{bracketed, padding, colon, before_element, before_item, in_braces}
use Rattle.text_lines.specs.Pieces as pieces
use Rattle.text_model.specs.Forms.{between}
use Rattle.text_model.specs.Printed.{joined, parts}
use Rattle.text_model.specs.Rendered.{run, token_text, line, lines, pretty_value, pretty_more, pretty_values, pretty_given}
use Rattle.text_model.specs.Rendered as rendered
use Rattle.text_model.specs.Tokens.{full_name_tokens, name_tokens, scalar_tokens, given_tokens, value_tokens, values_tokens, more_tokens, fields_tokens}
use Rattle.text_model.specs.Tree.{FullName, FieldName, plain, extension, expansion, ScalarValue, Value, scalar, Given, one_scalar, one_message, listed, Values, no_values, more_values, Fields, braced, curly, no_separator, comma}

pub run_append : (a b : List Token) → run (a ++ b) ≡ run a ++ run b
run_append a b = flat_map-append token_text a b

pub word_said : (w : Text) → run (ident w ∷ []) ≡ w
word_said w = append-nil w

-- ---- names

full_said : (w : Text) → run (full_name_tokens (parts w)) ≡ w
full_said [] = refl
full_said (b ∷ bs) = by (b == 46) refl (full_said bs) where
  of : Bool → FullName
  of c = cond c (record { first = []; others = (parts bs).first ∷ (parts bs).others })
      (record { first = b ∷ (parts bs).first; others = (parts bs).others })

  by : (c : Bool) → (b == 46) ≡ c → run (full_name_tokens (parts bs)) ≡ bs → run (full_name_tokens (of c)) ≡ b ∷ bs
  by true e ih = let dot : 46 ≡ b = grind (arith, e) in ap (λ l. 46 ∷ l) ih ∙ ap (λ k. k ∷ bs) dot
  by false e ih = ap (λ l. b ∷ l) ih

pub name_said : (w : Text) → run (name_tokens (plain w)) ≡ w
name_said w = word_said w

pub bracket_said : (w : Text) → run (name_tokens (extension (parts w))) ≡ bracketed w
bracket_said w = ap (λ l. 91 ∷ l) (run_append (full_name_tokens (parts w)) (sign 93 ∷ []) ∙ ap (λ l. l ++ 93 ∷ []) (full_said w))

-- a URL, by what stands before a slash and behind it
pub url_said : (d n : Text) → run (name_tokens (expansion (parts d) (parts n))) ≡ bracketed (d ++ 47 ∷ n)
url_said d n =
    ap (λ l. 91 ∷ l)
    (run_append (full_name_tokens (parts d)) (sign 47 ∷ (full_name_tokens (parts n) ++ sign 93 ∷ []))
    ∙ ap (λ l. l ++ 47 ∷ run (full_name_tokens (parts n) ++ sign 93 ∷ [])) (full_said d)
    ∙ ap (λ l. d ++ 47 ∷ l) (run_append (full_name_tokens (parts n)) (sign 93 ∷ []) ∙ ap (λ l. l ++ 93 ∷ []) (full_said n))
    ∙ sym (append_assoc d (47 ∷ n) (93 ∷ [])))

-- ---- texts of trees at an indentation, pretty or not

abbrev pub value_shown : Bool → ℕ → Value → Text
value_shown true i v = pretty_value i v
value_shown false i v = run (value_tokens v)

-- what stands behind a name
abbrev pub given_shown : Bool → ℕ → Given → Text
given_shown true i g = pretty_given i g
given_shown false i g = run (given_tokens g)

-- the first values of a list, or those behind others
abbrev pub list_shown : Bool → Bool → ℕ → Values → Text
list_shown true true i vs = pretty_values i vs
list_shown true false i vs = pretty_more i vs
list_shown false true i vs = run (values_tokens vs)
list_shown false false i vs = run (more_tokens vs)

pub scalar_value : (p : Bool) (i : ℕ) (s : ScalarValue) → value_shown p i (scalar s) ≡ run (scalar_tokens s)
scalar_value true i s = refl
scalar_value false i s = refl

pub scalar_given : (p : Bool) (i : ℕ) (s : ScalarValue) → given_shown p i (one_scalar s) ≡ colon p ++ run (scalar_tokens s)
scalar_given true i s = refl
scalar_given false i s = refl

pub message_given : (p : Bool) (i : ℕ) (fs : Fields) → given_shown p i (one_message false curly fs) ≡ padding p ++ value_shown p i (braced curly fs)
message_given true i fs = refl
message_given false i fs = refl

pub list_given : (p : Bool) (i : ℕ) (vs : Values) → given_shown p i (listed vs) ≡ colon p ++ 91 ∷ (list_shown p true i vs ++ 93 ∷ [])
list_given true i vs = refl
list_given false i vs = ap (λ l. 58 ∷ 91 ∷ l) (run_append (values_tokens vs) (sign 93 ∷ []))

pub list_none : (p first : Bool) (i : ℕ) → list_shown p first i no_values ≡ []
list_none true true i = refl
list_none true false i = refl
list_none false true i = refl
list_none false false i = refl

pub list_more : (p first : Bool) (i : ℕ) (v : Value) (vs : Values) → list_shown p first i (more_values v vs) ≡ before_element p first ++ (value_shown p i v ++ list_shown p false i vs)
list_more true true i v vs = refl
list_more true false i v vs = refl
list_more false true i v vs = run_append (value_tokens v) (more_tokens vs)
list_more false false i v vs = ap (λ l. 44 ∷ l) (run_append (value_tokens v) (more_tokens vs))

-- ---- fields with commas between them, or on lines of their own

abbrev pub Pair : Type 0
Pair = FieldName × Given

abbrev pub one : Bool → ℕ → Pair → Text
one p i e = run (name_tokens e.0) ++ given_shown p i e.1

-- in braces or not, behind others or not
abbrev pub row : Bool → Bool → ℕ → Bool → List Pair → Text
row p braces i any [] = []
row p braces i any (e ∷ es) = before_item p braces any i ++ (one p i e ++ row p braces i true es)

on_one_line : (braces : Bool) (i : ℕ) (es : List Pair) → run (fields_tokens (joined comma es)) ≡ row false braces i false es
on_one_line braces i [] = refl
on_one_line braces i (e ∷ []) =
    run_append (name_tokens e.0) (given_tokens e.1 ++ [])
    ∙ ap (λ l. run (name_tokens e.0) ++ l) (ap run (append-nil (given_tokens e.1)))
    ∙ sym (append-nil (one false i e))
on_one_line braces i (e ∷ d ∷ es) =
    let rest = fields_tokens (joined comma (d ∷ es)) in
    run_append (name_tokens e.0) (given_tokens e.1 ++ sign 44 ∷ rest)
    ∙ ap (λ l. run (name_tokens e.0) ++ l) (run_append (given_tokens e.1) (sign 44 ∷ rest) ∙ ap (λ l. run (given_tokens e.1) ++ 44 ∷ l) (on_one_line braces i (d ∷ es)))
    ∙ sym (append_assoc (run (name_tokens e.0)) (run (given_tokens e.1)) (row false braces i true (d ∷ es)))

-- lines behind others
on_lines : (braces : Bool) (i : ℕ) (es : List Pair) → lines i (joined no_separator es) ≡ row true braces i true es
on_lines braces i [] = refl
on_lines braces i (e ∷ []) = ap (λ l. line i ++ l) (sym (append_assoc (run (name_tokens e.0)) (pretty_given i e.1) []))
on_lines braces i (e ∷ d ∷ es) =
    ap (λ l. line i ++ (run (name_tokens e.0) ++ (pretty_given i e.1 ++ l))) (on_lines braces i (d ∷ es))
    ∙ ap (λ l. line i ++ l) (sym (append_assoc (run (name_tokens e.0)) (pretty_given i e.1) (row true braces i true (d ∷ es))))

-- and the first in braces
in_lines : (i : ℕ) (es : List Pair) → lines i (joined no_separator es) ≡ row true true i false es
in_lines i [] = refl
in_lines i (e ∷ es) = on_lines true i (e ∷ es)

-- and those of a whole text
whole_lines : (es : List Pair) → rendered.pretty (joined no_separator es) ≡ row true false 0 false es
whole_lines [] = refl
whole_lines (e ∷ []) = sym (append_assoc (run (name_tokens e.0)) (pretty_given 0 e.1) [])
whole_lines (e ∷ d ∷ es) =
    ap (λ l. run (name_tokens e.0) ++ (pretty_given 0 e.1 ++ l)) (on_lines false 0 (d ∷ es))
    ∙ sym (append_assoc (run (name_tokens e.0)) (pretty_given 0 e.1) (row true false 0 true (d ∷ es)))

pub text_said : (p : Bool) (es : List Pair) → cond p (rendered.pretty (joined (between p) es)) (rendered.compact (joined (between p) es)) ≡ row p false 0 false es
text_said true es = whole_lines es
text_said false es = on_one_line false 0 es

-- whether pairs stand behind others
abbrev pub any_pairs : Bool → List Pair → Bool
any_pairs any [] = any
any_pairs any (e ∷ es) = true

pub any_append : (any : Bool) (es ds : List Pair) → any_pairs (any_pairs any es) ds ≡ any_pairs any (es ++ ds)
any_append any [] ds = refl
any_append any (e ∷ es) [] = refl
any_append any (e ∷ es) (d ∷ ds) = refl

pub row_append : (p braces : Bool) (i : ℕ) (any : Bool) (es ds : List Pair) → row p braces i any (es ++ ds) ≡ row p braces i any es ++ row p braces i (any_pairs any es) ds
row_append p braces i any [] ds = refl
row_append p braces i any (e ∷ []) ds =
    ap (λ l. before_item p braces any i ++ (l ++ row p braces i true ds)) (sym (append-nil (one p i e)))
    ∙ sym (append_assoc (before_item p braces any i) (one p i e ++ []) (row p braces i true ds))
row_append p braces i any (e ∷ d ∷ es) ds =
    ap (λ l. before_item p braces any i ++ (one p i e ++ l)) (row_append p braces i true (d ∷ es) ds)
    ∙ ap (λ l. before_item p braces any i ++ l) (sym (append_assoc (one p i e) (row p braces i true (d ∷ es)) (row p braces i true ds)))
    ∙ sym (append_assoc (before_item p braces any i) (one p i e ++ row p braces i true (d ∷ es)) (row p braces i true ds))

-- ---- braces

no_line : (any : Bool) (i : ℕ) → pieces.last_line false any i ≡ []
no_line true i = refl
no_line false i = refl

last_said : (i : ℕ) (es : List Pair) → pieces.last_line true (any_pairs false es) i ++ 125 ∷ [] ≡ rendered.last_line i (joined no_separator es)
last_said i [] = refl
last_said i (e ∷ []) = refl
last_said i (e ∷ d ∷ es) = refl

pub braced_said : (p : Bool) (i : ℕ) (es : List Pair) → in_braces p i (any_pairs false es) (row p true (i + 2) false es) ≡ value_shown p i (braced curly (joined (between p) es))
braced_said true i es =
    ap (λ l. 123 ∷ (l ++ (pieces.last_line true (any_pairs false es) i ++ 125 ∷ []))) (sym (in_lines (i + 2) es))
    ∙ ap (λ l. 123 ∷ (lines (i + 2) (joined no_separator es) ++ l)) (last_said i es)
braced_said false i es =
    ap (λ l. 123 ∷ (row false true (i + 2) false es ++ (l ++ 125 ∷ []))) (no_line (any_pairs false es) i)
    ∙ ap (λ l. 123 ∷ (l ++ 125 ∷ [])) (sym (on_one_line true (i + 2) es))
    ∙ ap (λ l. 123 ∷ l) (sym (run_append (fields_tokens (joined comma es)) (sign 125 ∷ [])))
