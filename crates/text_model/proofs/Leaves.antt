-- Tokens as they are written, before a text that does not lengthen them.
use Rattle.std.proofs.Common.{◌≡◌, ℕ, suc, ◌+◌, ◌<◌, Bool, true, false, List, [], ◌∷◌, ◌++◌, length, take, drop, Ok, refl, ap, sym, subst, ◌∙◌, arith, length-append}
use Rattle.std.specs.Prelude.{◌||◌, not, ◌==◌, slice_index, if◌then◌else◌}
use Rattle.std.specs.List.{list_all, prefix_len, AllByRecursion}
use Rattle.std.proofs.lemmas.Bool.{ne_eqb, true≢false}
use Rattle.protox_lex.specs.Class.{Text, is_in, past}
use Rattle.protox_lex.specs.Escapes.{escaped}
use Rattle.protox_lex.specs.Lex as source
use Rattle.protox_lex.specs.Lex.{quoted, closed}
use Rattle.protox_lex.specs.Token as sources
use Rattle.protox_lex.specs.declared.class.Class.TheVariants as class
use Rattle.protox_lex.proofs.FloatSpelling.{run_front}
use Rattle.text_lex.specs.Lex.{front, lexemes_from, as_text}
use Rattle.text_lex.specs.Token.{Token, Lexeme, ident, str, token, token_at, fault}
use Rattle.text_lex.proofs.Streams.{on_token}
use Rattle.text_model.specs.Texts.{AreTokens}
use Rattle.text_model.proofs.Escaping.{escaped_reach}

-- what stands behind tokens
abbrev pub Rest : Type 1
Rest = List Lexeme → Type 0

-- nothing does
abbrev pub IsEnd : Rest
IsEnd ls = ls ≡ []

-- these tokens first, wherever they stand, and then such a rest
abbrev pub Begin : Rest → List Lexeme → List Token → Type 0
Begin R ls [] = R ls
Begin R [] (u ∷ us) = ⊥
Begin R (token_at start end t ∷ ls) (u ∷ us) = (t ≡ u) × Begin R ls us
Begin R (fault e ∷ ls) (u ∷ us) = ⊥

-- the text is cut into these tokens, wherever it begins, and such a rest
pub record Lexed (R : Rest) (z : Text) (ts : List Token) : Type 0 where
  pub cut : (at : ℕ) → Begin R (lexemes_from at 0 z) ts

-- without a rest these are all
pub are_tokens : (ls : List Lexeme) (ts : List Token) → Begin IsEnd ls ts → AreTokens ls ts
are_tokens [] [] h = refl
are_tokens [] (u ∷ us) h = absurd h
are_tokens (token_at start end t ∷ ls) [] h = cc
are_tokens (token_at start end t ∷ ls) (u ∷ us) h = (h.0, are_tokens ls us h.1)
are_tokens (fault e ∷ ls) [] h = cc
are_tokens (fault e ∷ ls) (u ∷ us) h = absurd h

pub lexed_nil : Lexed IsEnd [] []
unfolding lexemes_from
lexed_nil = record { cut = λ at. refl }

drop_front : (w z : Text) → drop (length w) (w ++ z) ≡ z
drop_front [] z = refl
drop_front (b ∷ w) z = drop_front w z

take_front : (w z : Text) → take (length w) (w ++ z) ≡ w
take_front [] z = refl
take_front (b ∷ w) z = ap (λ r. b ∷ r) (take_front w z)

-- a token before a text
pub token_before : {R : Rest} (b : ℕ) (y z : Text) (t : Token) (ts : List Token) → ((at : ℕ) → front at ((b ∷ y) ++ z) ≡ Ok (token t, length (b ∷ y))) → Lexed R z ts → Lexed R ((b ∷ y) ++ z) (t ∷ ts)
token_before {R = R} b y z t ts is rest = record {
  cut = λ at.
      let all : lexemes_from at 0 ((b ∷ y) ++ z) ≡ token_at at (at + length (b ∷ y)) t ∷ lexemes_from (at + length (b ∷ y)) 0 z =
      on_token at (length (b ∷ y)) b t (y ++ z) (is at) (omega arith) (let l = length-append (b ∷ y) z in omega arith)
      ∙ ap (λ (s : Text). token_at at (at + length (b ∷ y)) t ∷ lexemes_from (at + length (b ∷ y)) 0 s) (drop_front (b ∷ y) z) in
      subst (λ ls. Begin R ls (t ∷ ts)) (sym all) (refl, rest.cut (at + length (b ∷ y)));
}

-- nothing that would lengthen a word
abbrev pub ends_word : Text → Bool
ends_word [] = true
ends_word (b ∷ y) = not (is_in class.Word b)

-- nor a number
abbrev pub ends_number : Text → Bool
ends_number [] = true
ends_number (b ∷ y) = not (is_in class.Word b || b == 46)

-- ---- words

-- a byte that passes a test is none that does not
pub apart_by : (test : ℕ → Bool) (b k : ℕ) → test k ≡ false → test b ≡ true → (b == k) ≡ false
apart_by test b k other h = ne_eqb b k (λ e. true≢false (sym h ∙ ap test e ∙ other))

ended_run : (z : Text) → ends_word z ≡ true → prefix_len (is_in class.Word) z ≡ 0
ended_run [] h = refl
ended_run (b ∷ z) h = by (is_in class.Word b) refl where
  by : (t : Bool) → is_in class.Word b ≡ t → prefix_len (is_in class.Word) (b ∷ z) ≡ 0
  by true e = absurd (let x : false ≡ true = sym (ap not e) ∙ h in cc)
  by false e = rw e refl

pub word_front : (at b : ℕ) (y z : Text) → is_in class.Letter b ≡ true → is_in class.Blank b ≡ false → list_all (is_in class.Word) y ≡ true → ends_word z ≡ true → front at ((b ∷ y) ++ z) ≡ Ok (token (ident (b ∷ y)), length (b ∷ y))
unfolding front source.front
word_front at b y z letter blank word ends =
    let run : prefix_len (is_in class.Word) (y ++ z) ≡ length y = run_front (is_in class.Word) y z word (ended_run z ends) in
    let n : past class.Word (b ∷ (y ++ z)) 1 ≡ length (b ∷ y) = one run in
    rw (apart_by (is_in class.Letter) b 47 refl letter, apart_by (is_in class.Letter) b 35 refl letter, blank, letter) (ap (λ k. as_text at (b ∷ (y ++ z)) (Ok (source.word_to (b ∷ (y ++ z)) k))) n ∙ ap (λ w. Ok (token (ident w), length (b ∷ y))) (take_front (b ∷ y) z)) where
      one : prefix_len (is_in class.Word) (y ++ z) ≡ length y → past class.Word (b ∷ (y ++ z)) 1 ≡ length (b ∷ y)
      one e = let x : 1 + prefix_len (is_in class.Word) (y ++ z) ≡ suc (length y) = omega arith in x

-- ---- strings

there : (a z : Text) (b : ℕ) → slice_index (a ++ b ∷ z) (length a) ≡ b
there [] z b = refl
there (c ∷ a) z b = there a z b

pub string_front : (at : ℕ) (s z : Text) → AllByRecursion (λ x. x < 256) s → front at (34 ∷ (escaped s ++ 34 ∷ z)) ≡ Ok (token (str (escaped s)), length (escaped s) + 2)
unfolding front source.front source.quoted
string_front at s z h =
    let all = escaped s ++ 34 ∷ z in
    ap (λ n. as_text at (34 ∷ all) (closed 34 all n)) (escaped_reach s z h)
    ∙ ap (λ b. as_text at (34 ∷ all) (if b then Ok (sources.token (sources.str (take (length (escaped s)) all)), length (escaped s) + 2) else source.unclosed all (length (escaped s))))
    (let e : (slice_index all (length (escaped s)) == 34) ≡ true = ap (λ b. b == 34) (there (escaped s) z 34) in e)
    ∙ ap (λ t. Ok (token (str t), length (escaped s) + 2)) (take_front (escaped s) (34 ∷ z))
