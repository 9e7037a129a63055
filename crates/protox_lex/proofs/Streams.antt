-- The turns of a lexer.
use Rattle.std.proofs.Common.{◌≡◌, ℕ, zero, suc, ◌+◌, ◌-◌, ◌≤◌, ◌<◌, [], ◌∷◌, drop, length, Ok, Err, ap, ◌∙◌, arith, refl}
use Rattle.std.proofs.Common.{take, length-drop}
use Rattle.std.proofs.lemmas.List.{drop-drop, take_rest}
use Rattle.protox_lex.specs.Class.{Text}
use Rattle.protox_lex.specs.Token.{Token, gap, token, token_at, fault_at}
use Rattle.protox_lex.specs.declared.front.Flaw.{Flaw}
use Rattle.protox_lex.specs.Lex.{front, emit, lexemes_from}

-- what is left of a piece is passed over
pub passes : (at left : ℕ) (z : Text) → left ≤ length z → lexemes_from at left z ≡ lexemes_from (at + left) 0 (drop left z)
unfolding lexemes_from
passes at zero z h = let e : at + 0 ≡ at = omega arith in rw e
passes at (suc left) [] h = refl
passes at (suc left) (b ∷ z) h = let e : at + suc left ≡ (at + 1) + left = omega arith in rw e (passes (at + 1) left z (omega arith))

-- the text after a piece
pub after : (at n : ℕ) (z : Text) → 1 ≤ n → n ≤ length z → (b : ℕ) (y : Text) → z ≡ b ∷ y → lexemes_from (at + 1) (n - 1) y ≡ lexemes_from (at + n) 0 (drop n z)
after at zero z h le b y e = absurd (omega arith)
after at (suc n) z h le b y e =
    let len : n ≤ length y = omega (arith, ap length e) in
    let k : suc n - 1 ≡ n = omega arith in
    let m : at + suc n ≡ (at + 1) + n = omega arith in
    rw (k, m, e) (passes (at + 1) n y len)

pub on_gap : (at n : ℕ) (z : Text) → front z ≡ Ok (gap, n) → 1 ≤ n → n ≤ length z → lexemes_from at 0 z ≡ lexemes_from (at + n) 0 (drop n z)
unfolding lexemes_from
on_gap at n [] e h le = absurd (omega arith)
on_gap at n (b ∷ y) e h le = ap (λ r. emit at r (λ n. lexemes_from (at + 1) (n - 1) y)) e ∙ after at n (b ∷ y) h le b y refl

pub on_token : (at n : ℕ) (t : Token) (z : Text) → front z ≡ Ok (token t, n) → 1 ≤ n → n ≤ length z → lexemes_from at 0 z ≡ token_at at (at + n) t ∷ lexemes_from (at + n) 0 (drop n z)
unfolding lexemes_from
on_token at n t [] e h le = absurd (omega arith)
on_token at n t (b ∷ y) e h le = ap (λ r. emit at r (λ n. lexemes_from (at + 1) (n - 1) y)) e ∙ ap (λ ts. token_at at (at + n) t ∷ ts) (after at n (b ∷ y) h le b y refl)

pub on_fault : (at : ℕ) (f : Flaw) (z : Text) → 0 < length z → front z ≡ Err f → lexemes_from at 0 z ≡ fault_at f.kind (at + f.start) (at + f.end) ∷ []
unfolding lexemes_from
on_fault at f [] h e = absurd (omega arith)
on_fault at f (b ∷ y) h e = ap (λ r. emit at r (λ n. lexemes_from (at + 1) (n - 1) y)) e

pub at_end : (at : ℕ) (z : Text) → length z ≡ 0 → lexemes_from at 0 z ≡ []
unfolding lexemes_from
at_end at [] h = refl
at_end at (b ∷ z) h = absurd (omega arith)

-- the same of a text that is a part of a source

pub gap_here : (at n : ℕ) (s z : Text) → s ≡ z → front (take (length z - at) (drop at z)) ≡ Ok (gap, n) → 1 ≤ n → n ≤ length (take (length z - at) (drop at z)) → lexemes_from at 0 (drop at s) ≡ lexemes_from (at + n) 0 (drop (at + n) s)
gap_here at n s z same e h le =
    let r = take_rest z at in
    rw same (on_gap at n (drop at z) (rw r at e) h (rw r at le) ∙ ap (lexemes_from (at + n) 0) (drop-drop n at z))

pub token_here : (at n : ℕ) (t : Token) (s z : Text) → s ≡ z → front (take (length z - at) (drop at z)) ≡ Ok (token t, n) → 1 ≤ n → n ≤ length (take (length z - at) (drop at z))
    → lexemes_from at 0 (drop at s) ≡ token_at at (at + n) t ∷ lexemes_from (at + n) 0 (drop (at + n) s)
token_here at n t s z same e h le =
    let r = take_rest z at in
    rw same (on_token at n t (drop at z) (rw r at e) h (rw r at le) ∙ ap (λ y. token_at at (at + n) t ∷ lexemes_from (at + n) 0 y) (drop-drop n at z))

pub fault_here : (at : ℕ) (f : Flaw) (s z : Text) → s ≡ z → at < length z → front (take (length z - at) (drop at z)) ≡ Err f → lexemes_from at 0 (drop at s) ≡ fault_at f.kind (at + f.start) (at + f.end) ∷ []
fault_here at f s z same lt e = rw same (on_fault at f (drop at z) (omega (arith, length-drop at z)) (rw (take_rest z at) at e))

pub end_here : (at : ℕ) (s z : Text) → s ≡ z → length z ≤ at → lexemes_from at 0 (drop at s) ≡ []
end_here at s z same le = rw same (at_end at (drop at z) (omega (arith, length-drop at z)))
