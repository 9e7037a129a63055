-- A text in which each backslash begins an escape, and what is left of it.
use Rattle.std.proofs.Common.{◌≡◌, ◌≢◌, ℕ, suc, ◌+◌, ◌<◌, Result, ◌∷◌, drop, get_or, length, Ok, Err, ap, sym, subst, ◌∙◌, arith, refl, drop-cons}
use Rattle.std.proofs.lemmas.List.{drop-drop}
use Rattle.protox_lex.specs.declared.escape.Meaning.{Meaning}
use Rattle.protox_lex.specs.Class.{Text}
use Rattle.protox_lex.specs.Lex.{escape}
use Rattle.protox_lex.specs.Spelled.{IsEscaped, other_byte, one_escape}
use Rattle.protox_lex.proofs.EscapeForms.{escape_of, escape_spelled}

byte_on : (b : ℕ) (y : Text) → b ≢ 92 → IsEscaped (b ∷ y) → IsEscaped y
byte_on b y other (other_byte c x ne rest) = rest
byte_on b y other (one_escape x n m is rest) = absurd (other refl)

escape_on : (b : ℕ) (y : Text) (e : Meaning × ℕ) → b ≡ 92 → escape y ≡ Ok e → IsEscaped (b ∷ y) → IsEscaped (drop e.1 y)
escape_on b y e slash esc (other_byte c x ne rest) = absurd (ne slash)
escape_on b y e slash esc (one_escape x n m is rest) =
    let same : ◌≡◌ {A = Result (Meaning × ℕ) ℕ} (Ok (m, n)) (Ok e) = sym (escape_of x n m is) ∙ esc in let e1 : (m, n) ≡ e = cc in subst (λ k. IsEscaped (drop k.1 y)) e1 rest

no_escape_on : (b : ℕ) (y : Text) (n : ℕ) → b ≡ 92 → escape y ≡ Err n → IsEscaped (b ∷ y) → ⊥
no_escape_on b y n slash esc (other_byte c x ne rest) = ne slash
no_escape_on b y n slash esc (one_escape x k m is rest) = let wrong : ◌≡◌ {A = Result (Meaning × ℕ) ℕ} (Ok (m, k)) (Err n) = sym (escape_of x k m is) ∙ esc in cc

-- the byte at a place, and what is left behind it
rest_is : (raw : Text) (at b : ℕ) → at < length raw → get_or raw at 0 ≡ b → drop at raw ≡ b ∷ drop (at + 1) raw
rest_is raw at b lt e = let one : suc at ≡ at + 1 = omega arith in drop-cons raw at 0 lt ∙ ap (λ k. get_or raw at 0 ∷ drop k raw) one ∙ ap (λ c. c ∷ drop (at + 1) raw) e

-- the text is one where what is left is, before and behind its first byte or escape
pub record Both (raw : Text) (at : ℕ) : Type 0 where
  pub back : IsEscaped (drop at raw) → IsEscaped raw
  pub on : IsEscaped raw → IsEscaped (drop at raw)

pub past_byte : (raw : Text) (at : ℕ) → at < length raw → get_or raw at 0 ≢ 92 → Both raw at → Both raw (at + 1)
past_byte raw at lt other h =
    let e = rest_is raw at (get_or raw at 0) lt refl in
    record {
      back = λ r. h.back (subst IsEscaped (sym e) (other_byte (get_or raw at 0) (drop (at + 1) raw) other r));
      on = λ r. byte_on (get_or raw at 0) (drop (at + 1) raw) other (subst IsEscaped e (h.on r));
    }

pub past_escape : (raw : Text) (at : ℕ) (e : Meaning × ℕ) → at < length raw → get_or raw at 0 ≡ 92 → escape (drop (at + 1) raw) ≡ Ok e → Both raw at → Both raw (at + (e.1 + 1))
past_escape raw at e lt slash esc h =
    let first = rest_is raw at 92 lt slash in
    let place : at + 1 + e.1 ≡ at + (e.1 + 1) = omega arith in
    let left : drop e.1 (drop (at + 1) raw) ≡ drop (at + (e.1 + 1)) raw = drop-drop e.1 (at + 1) raw ∙ ap (λ k. drop k raw) place in
    record {
      back = λ r. h.back (subst IsEscaped (sym first) (one_escape (drop (at + 1) raw) e.1 e.0 (escape_spelled (drop (at + 1) raw) e esc) (subst IsEscaped (sym left) r)));
      on = λ r. subst IsEscaped left (escape_on 92 (drop (at + 1) raw) e refl esc (subst IsEscaped first (h.on r)));
    }

pub past_none : (raw : Text) (at n : ℕ) → at < length raw → get_or raw at 0 ≡ 92 → escape (drop (at + 1) raw) ≡ Err n → Both raw at → IsEscaped raw → ⊥
past_none raw at n lt slash esc h r = no_escape_on 92 (drop (at + 1) raw) n refl esc (subst IsEscaped (rest_is raw at 92 lt slash) (h.on r))
