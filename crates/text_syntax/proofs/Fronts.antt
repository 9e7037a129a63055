-- Lexemes that begin with tokens.
use Rattle.std.proofs.Common.{◌≡◌, ℕ, Bool, true, false, ◌||◌, List, [], ◌∷◌, ◌++◌, map, Option, Some, None, is_some, refl, sym, ap, subst, ◌∙◌}
use Rattle.protox_lex.specs.declared.span.Span.{Span}
use Rattle.text_lex.specs.Token.{Token, ident, int, float, str, sign, Lexeme, token_at, fault}
use Rattle.text_model.specs.Tree.{integer, floating, identifier, ScalarValue, signed, strings, Brace, curly, angle}
use Rattle.text_model.specs.Texts.{AreTokens}
use Rattle.text_model.specs.Tokens.{word_token, scalar_tokens, opening}
use Rattle.text_scalars.proofs.Named.{is_this}
use Rattle.text_scalars.specs.declared.tokens.Brace as code
use Rattle.text_scalars.specs.declared.tokens.Brace.TheVariants as braces
use Rattle.text_scalars.specs.Braces.{opening_brace}
use Rattle.text_scalars.specs.Front.{behind, is_sign, sees, sign_bytes}
use Rattle.text_scalars.specs.Spelled.{Begin}
use Rattle.text_syntax.specs.Syntax.{brace_of}

-- they begin with these, and the rest stands behind
abbrev pub Front : List Token → List Lexeme → List Lexeme → Type 0
Front [] ls rest = rest ≡ ls
Front (t ∷ ts) (token_at a b u ∷ ls) rest = (u ≡ t) × Front ts ls rest
Front (t ∷ ts) _ rest = ⊥

pub joined : (ts us : List Token) (ls mid rest : List Lexeme) → Front ts ls mid → Front us mid rest
    → Front (ts ++ us) ls rest
joined [] us ls mid rest h k = subst (λ l. Front us l rest) h k
joined (t ∷ ts) us [] mid rest h k = absurd h
joined (t ∷ ts) us (fault e ∷ ls) mid rest h k = absurd h
joined (t ∷ ts) us (token_at a b u ∷ ls) mid rest h k = (h.0, joined ts us ls mid rest h.1 k)

pub record Parted (ts us : List Token) (ls rest : List Lexeme) : Type 0 where
  pub mid : List Lexeme
  pub first : Front ts ls mid
  pub second : Front us mid rest

pub parted : (ts us : List Token) (ls rest : List Lexeme) → Front (ts ++ us) ls rest
    → Parted ts us ls rest
parted [] us ls rest h = record { mid = ls; first = refl; second = h }
parted (t ∷ ts) us [] rest h = absurd h
parted (t ∷ ts) us (fault e ∷ ls) rest h = absurd h
parted (t ∷ ts) us (token_at a b u ∷ ls) rest h =
    let p = parted ts us ls rest h.1 in
    record { mid = p.mid; first = (h.0, p.first); second = p.second }

-- the first of them
pub record Begun (t : Token) (ts : List Token) (ls rest : List Lexeme) : Type 0 where
  pub start : ℕ
  pub end : ℕ
  pub mid : List Lexeme
  pub is : ls ≡ token_at start end t ∷ mid
  pub others : Front ts mid rest

pub begun : (t : Token) (ts : List Token) (ls rest : List Lexeme) → Front (t ∷ ts) ls rest
    → Begun t ts ls rest
begun t ts [] rest h = absurd h
begun t ts (fault e ∷ ls) rest h = absurd h
begun t ts (token_at a b u ∷ ls) rest h =
    record { start = a; end = b; mid = ls; is = ap (λ x. token_at a b x ∷ ls) h.0; others = h.1 }

-- ---- with places, and to the last

pub from_begin : (ts : List Token) (place : ℕ) (ls : List Lexeme) (stop : ℕ) (rest : List Lexeme)
    → Begin ts place ls stop rest → Front ts ls rest
from_begin [] place ls stop rest h = h.1
from_begin (t ∷ ts) place [] stop rest h = absurd h
from_begin (t ∷ ts) place (fault e ∷ ls) stop rest h = absurd h
from_begin (t ∷ ts) place (token_at a b u ∷ ls) stop rest h =
    (h.0, from_begin ts b ls stop rest h.1)

-- where the last of them ends
pub last_end : List Token → ℕ → List Lexeme → ℕ
last_end (t ∷ ts) place (token_at a b u ∷ ls) = last_end ts b ls
last_end _ place ls = place

pub to_begin : (ts : List Token) (place : ℕ) (ls rest : List Lexeme) → Front ts ls rest
    → Begin ts place ls (last_end ts place ls) rest
unfolding last_end
to_begin [] place ls rest h = (refl, h)
to_begin (t ∷ ts) place [] rest h = absurd h
to_begin (t ∷ ts) place (fault e ∷ ls) rest h = absurd h
to_begin (t ∷ ts) place (token_at a b u ∷ ls) rest h = (h.0, to_begin ts b ls rest h.1)

pub are_tokens : (ts : List Token) (ls : List Lexeme) → Front ts ls [] → AreTokens ls ts
are_tokens [] [] h = refl
are_tokens [] (l ∷ ls) h = absurd (cc h)
are_tokens (t ∷ ts) [] h = absurd h
are_tokens (t ∷ ts) (fault e ∷ ls) h = absurd h
are_tokens (t ∷ ts) (token_at a b u ∷ ls) h = (h.0, are_tokens ts ls h.1)

pub all_tokens : (ts : List Token) (ls : List Lexeme) → AreTokens ls ts → Front ts ls []
all_tokens [] [] h = refl
all_tokens (t ∷ ts) [] h = absurd (cc h)
all_tokens ts (fault e ∷ ls) h = absurd h
all_tokens [] (token_at a b u ∷ ls) h = absurd h
all_tokens (t ∷ ts) (token_at a b u ∷ ls) h = (h.0, all_tokens ts ls h.1)

-- ---- signs

pub sign_there : (k : ℕ) (ls : List Lexeme) → sees k ls ≡ true → Front (sign k ∷ []) ls (behind ls)
sign_there k [] e = absurd (cc e)
sign_there k (fault x ∷ ls) e = absurd (cc e)
sign_there k (token_at a b t ∷ ls) e = by (is_sign k t) refl where
  by : (v : Bool) → is_sign k t ≡ v → Front (sign k ∷ []) (token_at a b t ∷ ls) ls
  by true f = (is_this k t f, refl)
  by false f = absurd (cc (rw f at e))

pub sign_front : (k : ℕ) (ls : List Lexeme) (s : Span) → sign_bytes k ls ≡ Some s
    → Front (sign k ∷ []) ls (behind ls)
sign_front k ls s e = sign_there k ls (ap (λ o. is_some o) e)

-- a brace that opens
abbrev BraceThere : List Lexeme → Option (Span × code.Brace) → Type 0
BraceThere ls (Some b) = Front (opening (brace_of b.1) ∷ []) ls (behind ls)
BraceThere ls None = Unit {0}

brace_there : (ls : List Lexeme) (o p : Option Span) → sign_bytes 123 ls ≡ o → sign_bytes 60 ls ≡ p
    → BraceThere ls
    (elim o [
      | Some s ↦ Some (s, braces.Curly)
      | None ↦ elim p [ Some s ↦ Some (s, braces.Angle) | None ↦ None ]
    ])
brace_there ls (Some s) p e f = sign_front 123 ls s e
brace_there ls None (Some s) e f = sign_front 60 ls s f
brace_there ls None None e f = tt

pub brace_front : (ls : List Lexeme) (b : Span × code.Brace) → opening_brace ls ≡ Some b
    → Front (opening (brace_of b.1) ∷ []) ls (behind ls)
brace_front ls b e =
    subst (BraceThere ls) e (brace_there ls (sign_bytes 123 ls) (sign_bytes 60 ls) refl refl)

pub brace_seen : (ls : List Lexeme) → (sees 123 ls || sees 60 ls) ≡ true
    → (b : Brace) × Front (opening b ∷ []) ls (behind ls)
brace_seen ls e = by (sees 123 ls) (sees 60 ls) refl refl e where
  by : (u v : Bool) → sees 123 ls ≡ u → sees 60 ls ≡ v → (u || v) ≡ true
      → (b : Brace) × Front (opening b ∷ []) ls (behind ls)
  by true v f g e = (curly, sign_there 123 ls f)
  by false true f g e = (angle, sign_there 60 ls g)
  by false false f g e = absurd (cc e)

-- ---- how scalar values begin

pub apart : {A : Type 0} (k : ℕ) (t u : Token) → is_sign k t ≡ true → is_sign k u ≡ false → t ≡ u → A
apart k t u h g e = absurd (let x : true ≡ false = sym h ∙ ap (is_sign k) e ∙ g in cc)

-- with no brace and no bracket
pub record Starts (ts : List Token) : Type 0 where
  pub first : Token
  pub others : List Token
  pub are : ts ≡ first ∷ others
  pub no_curly : is_sign 123 first ≡ false
  pub no_angle : is_sign 60 first ≡ false
  pub no_open : is_sign 91 first ≡ false
  pub no_close : is_sign 93 first ≡ false

pub scalar_starts : (s : ScalarValue) → Starts (scalar_tokens s)
scalar_starts (signed true w) =
    record { first = sign 45; others = word_token w ∷ []; are = refl; no_curly = refl; no_angle = refl; no_open = refl; no_close = refl }
scalar_starts (signed false (integer r d)) =
    record { first = int r d; others = []; are = refl; no_curly = refl; no_angle = refl; no_open = refl; no_close = refl }
scalar_starts (signed false (floating f)) =
    record { first = float f; others = []; are = refl; no_curly = refl; no_angle = refl; no_open = refl; no_close = refl }
scalar_starts (signed false (identifier w)) =
    record { first = ident w; others = []; are = refl; no_curly = refl; no_angle = refl; no_open = refl; no_close = refl }
scalar_starts (strings t ts) =
    record { first = str t; others = map str ts; are = refl; no_curly = refl; no_angle = refl; no_open = refl; no_close = refl }
