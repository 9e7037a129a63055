-- Texts that tell a record: whatever stands behind them, they are cut into tokens among which a number stands directly before a colon or an opening brace.
use Rattle.std.proofs.Common.{◌≡◌, ℕ, zero, suc, ◌+◌, ◌==◌, Bool, true, false, true≢false, List, [], ◌∷◌, ◌++◌, replicate, refl, sym, ap, ◌∙◌, subst, append_assoc, append-nil}
use Rattle.protox_lex.specs.Class.{Text, is_in}
use Rattle.protox_lex.specs.declared.class.Class.TheVariants as class
use Rattle.text_lex.specs.Lex.{lexemes_from}
use Rattle.text_lex.specs.Token.{Token, sign}
use Rattle.text_lex.proofs.Lexing.{all_longest}
use Rattle.text_lex.proofs.OneReading.{one_list}
use Rattle.text_lex.proofs.Streams.{on_blank}
use Rattle.text_lines.specs.Pieces.{padding, colon, before_element, before_item, in_braces, last_line}
use Rattle.text_model.specs.Rendered.{run}
use Rattle.text_model.specs.Texts.{AreTokens, IsText}
use Rattle.text_model.specs.Tokens.{name_tokens, value_tokens, given_tokens, fields_tokens}
use Rattle.text_model.specs.Tree.{FieldName, curly, angle, Value, Given, one_scalar, one_message, listed, Fields}
use Rattle.text_model.proofs.Leaves.{Rest, Begin, Lexed, ends_number}
use Rattle.text_model.proofs.Pretty.{name_before, value_lexed, given_lexed}
use Rattle.text_model.proofs.Signs.{IsSign, brace_sign, bracket_sign, colon_sign, comma_sign, sign_before}
use Rattle.text_model.proofs.Written.{IsNameShown, IsValueShown, IsGivenShown, value_run, given_run}
use Rattle.print_view.proofs.Pieces.{Pair, value_shown, given_shown, one}
use Rattle.print_view.proofs.TreeTokens.{tells, tells_behind, told_in, tree_quiet}

-- anything may stand behind
abbrev pub Any : Rest
Any ls = Unit {0}

pub anything : (z : Text) → Lexed Any z []
anything z = record { cut = λ at. tt }

pub record TellsRecord (z : Text) : Type 0 where
  pub tokens : List Token
  pub told : tells tokens ≡ true
  pub cut : (w : Text) → Lexed Any (z ++ w) tokens

-- ---- no text of the language does

as_tokens : (z : Text) (ts : List Token) (fs : Fields) → IsText z fs → Lexed Any z ts → tells ts ≡ true → ⊥
as_tokens z ts fs text first told =
    let spelled = text.spelled in
    let cut = subst (λ ls. AreTokens ls (fields_tokens fs)) (one_list 0 z spelled.lexemes (lexemes_from 0 0 z) spelled.cut (all_longest 0 z)) spelled.tokens in
    true≢false (sym (told_in Any (lexemes_from 0 0 z) ts (fields_tokens fs) (first.cut 0) cut told) ∙ tree_quiet fs)

pub no_text : (z : Text) (fs : Fields) → TellsRecord z → IsText z fs → ⊥
no_text z fs t text = as_tokens z t.tokens fs text (subst (λ y. Lexed Any y t.tokens) (append-nil z) (t.cut [])) t.told

no_tokens : (ts : List Token) → Begin Any [] ts → tells ts ≡ true → ⊥
no_tokens [] h e = true≢false (sym e)
no_tokens (t ∷ ts) h e = h

-- nor does no text
pub nothing_told : TellsRecord [] → ⊥
unfolding lexemes_from
nothing_told t = let first = t.cut [] in no_tokens t.tokens (first.cut 0) t.told

-- ---- what stands around a text that does

pub told_behind : (z y : Text) → TellsRecord z → TellsRecord (z ++ y)
told_behind z y t = record {
  tokens = t.tokens;
  told = t.told;
  cut = λ w. subst (λ x. Lexed Any x t.tokens) (sym (append_assoc z y w)) (t.cut (y ++ w));
}

pub told_sign : (b : ℕ) → IsSign b → (b == 46) ≡ false → (z : Text) → TellsRecord z → TellsRecord (b ∷ z)
told_sign b is other z t = record { tokens = sign b ∷ t.tokens; told = t.told; cut = λ w. sign_before b is other (z ++ w) t.tokens (t.cut w) }

pub blank_before : {R : Rest} (b : ℕ) (z : Text) (ts : List Token) → is_in class.Blank b ≡ true → Lexed R z ts → Lexed R (b ∷ z) ts
blank_before {R = R} b z ts blank rest = record { cut = λ at. subst (λ ls. Begin R ls ts) (sym (on_blank at b z blank)) (rest.cut (at + 1)) }

told_blank : (b : ℕ) → is_in class.Blank b ≡ true → (z : Text) → TellsRecord z → TellsRecord (b ∷ z)
told_blank b blank z t = record { tokens = t.tokens; told = t.told; cut = λ w. blank_before b (z ++ w) t.tokens blank (t.cut w) }

told_spaces : (n : ℕ) (z : Text) → TellsRecord z → TellsRecord (replicate n 32 ++ z)
told_spaces zero z t = t
told_spaces (suc n) z t = told_blank 32 refl (replicate n 32 ++ z) (told_spaces n z t)

told_line : (n : ℕ) (z : Text) → TellsRecord z → TellsRecord (10 ∷ (replicate n 32 ++ z))
told_line n z t = told_blank 10 refl (replicate n 32 ++ z) (told_spaces n z t)

pub told_padding : (p : Bool) (z : Text) → TellsRecord z → TellsRecord (padding p ++ z)
told_padding true z t = told_blank 32 refl z t
told_padding false z t = t

pub told_colon : (p : Bool) (z : Text) → TellsRecord z → TellsRecord (colon p ++ z)
told_colon p z t = told_sign 58 colon_sign refl (padding p ++ z) (told_padding p z t)

pub told_element : (p first : Bool) (z : Text) → TellsRecord z → TellsRecord (before_element p first ++ z)
told_element p true z t = t
told_element p false z t = told_sign 44 comma_sign refl (padding p ++ z) (told_padding p z t)

pub told_item : (p braces any : Bool) (i : ℕ) (z : Text) → TellsRecord z → TellsRecord (before_item p braces any i ++ z)
told_item true braces true i z t = told_line i z t
told_item true true false i z t = told_line i z t
told_item true false false i z t = t
told_item false braces true i z t = told_sign 44 comma_sign refl z t
told_item false braces false i z t = t

pub told_braces : (p any : Bool) (i : ℕ) (z : Text) → TellsRecord z → TellsRecord (in_braces p i any z)
told_braces p any i z t =
    let behind = last_line p any i ++ 125 ∷ [] in
    told_sign 123 brace_sign refl (z ++ behind) (told_behind z behind t)

pub told_brackets : (z : Text) → TellsRecord z → TellsRecord (91 ∷ (z ++ 93 ∷ []))
told_brackets z t = told_sign 91 bracket_sign refl (z ++ 93 ∷ []) (told_behind z (93 ∷ []) t)

-- ---- and before it names and values, if it does not lengthen them

-- whatever stands behind it, the text lengthens no word and no number
abbrev pub Ends : Text → Type 0
Ends z = (w : Text) → ends_number (z ++ w) ≡ true

-- the text is cut into the tokens
abbrev pub CutsInto : Text → List Token → Type 0
CutsInto y ts = (w : Text) (us : List Token) → ends_number w ≡ true → Lexed Any w us → Lexed Any (y ++ w) (ts ++ us)

told_after : (y : Text) (ts : List Token) → CutsInto y ts → (z : Text) → Ends z → TellsRecord z → TellsRecord (y ++ z)
told_after y ts cuts z ends t = record {
  tokens = ts ++ t.tokens;
  told = tells_behind ts t.tokens t.told;
  cut = λ w. subst (λ x. Lexed Any x (ts ++ t.tokens)) (sym (append_assoc y z w)) (cuts (z ++ w) t.tokens (ends w) (t.cut w));
}

pub ends_behind : (z y : Text) → Ends z → Ends (z ++ y)
ends_behind z y ends w = ap ends_number (append_assoc z y w) ∙ ends (y ++ w)

pub told_name : (n : FieldName) → IsNameShown n → (z : Text) → Ends z → TellsRecord z → TellsRecord (run (name_tokens n) ++ z)
told_name n shown z ends t = told_after (run (name_tokens n)) (name_tokens n) (λ w us e h. name_before n shown w us e h) z ends t

value_cuts : (p : Bool) (i : ℕ) (v : Value) → IsValueShown p v → CutsInto (value_shown p i v) (value_tokens v)
value_cuts true i v shown w us e h = value_lexed i v shown w us e h
value_cuts false i v shown w us e h = value_run v shown w us e h

pub told_value : (p : Bool) (i : ℕ) (v : Value) → IsValueShown p v → (z : Text) → Ends z → TellsRecord z → TellsRecord (value_shown p i v ++ z)
told_value p i v shown z ends t = told_after (value_shown p i v) (value_tokens v) (value_cuts p i v shown) z ends t

given_cuts : (p : Bool) (i : ℕ) (g : Given) → IsGivenShown p g → CutsInto (given_shown p i g) (given_tokens g)
given_cuts true i g shown w us e h = given_lexed i g shown w us e h
given_cuts false i g shown w us e h = given_run g shown w us e h

-- what stands behind a name begins with a sign or a space
given_ends : (p : Bool) (i : ℕ) (g : Given) (z : Text) → Ends (given_shown p i g ++ z)
given_ends true i (one_scalar s) z w = refl
given_ends true i (one_message colon b fs) z w = refl
given_ends true i (listed vs) z w = refl
given_ends false i (one_scalar s) z w = refl
given_ends false i (one_message true b fs) z w = refl
given_ends false i (one_message false curly fs) z w = refl
given_ends false i (one_message false angle fs) z w = refl
given_ends false i (listed vs) z w = refl

-- a field under its name
abbrev pub IsPairShown : Bool → Pair → Type 0
IsPairShown p e = IsNameShown e.0 × IsGivenShown p e.1

pub told_pair : (p : Bool) (i : ℕ) (e : Pair) → IsPairShown p e → (z : Text) → Ends z → TellsRecord z → TellsRecord (one p i e ++ z)
told_pair p i e shown z ends t =
    let given = given_shown p i e.1 in
    subst TellsRecord (sym (append_assoc (run (name_tokens e.0)) given z))
    (told_name e.0 shown.0 (given ++ z) (given_ends p i e.1 z) (told_after given (given_tokens e.1) (given_cuts p i e.1 shown.1) z ends t))
