-- Signs are cut where they stand.
use Rattle.std.proofs.Common.{◌≡◌, ◌⊎◌, inl, inr, ℕ, ◌==◌, true, false, [], List, ◌∷◌, Ok, refl, ap, true≢false}
use Rattle.std.specs.Prelude.{slice_index, if◌then◌else◌}
use Rattle.protox_lex.specs.Class.{Text, is_in}
use Rattle.protox_lex.specs.Lex as source
use Rattle.protox_lex.specs.Lex.{number}
use Rattle.protox_lex.specs.Token as sources
use Rattle.protox_lex.specs.declared.class.Class.TheVariants as class
use Rattle.protox_lex.specs.declared.token.Sign.TheVariants as signs
use Rattle.text_lex.specs.Lex.{front, as_text}
use Rattle.text_lex.specs.Token.{Token, sign, token}
use Rattle.text_model.proofs.Leaves.{Rest, Lexed, token_before}

-- a sign is cut where it stands, a dot where no digit follows it
pub record IsSign (b : ℕ) : Type 0 where
  pub front : (at : ℕ) (z : Text) → ((b == 46) ≡ false) ⊎ (is_in class.Digit (slice_index z 0) ≡ false) → front at (b ∷ z) ≡ Ok (token (sign b), 1)
  pub word : is_in class.Word b ≡ false

pub comma_sign : IsSign 44
unfolding front source.front
comma_sign = record { front = λ at z h. refl; word = refl }

pub minus_sign : IsSign 45
unfolding front source.front
minus_sign = record { front = λ at z h. refl; word = refl }

dot_front : (at : ℕ) (z : Text) → is_in class.Digit (slice_index z 0) ≡ false → front at (46 ∷ z) ≡ Ok (token (sign 46), 1)
unfolding front source.front
dot_front at z h = ap (λ t. as_text at (46 ∷ z) (if t then number (46 ∷ z) else Ok (sources.token (sources.sign signs.Dot), 1))) h

pub dot_sign : IsSign 46
dot_sign = record { front = λ at z h. dot_front at z (elim h [ inl e ↦ absurd (true≢false e) | inr e ↦ e ]); word = refl }

pub slash_sign : IsSign 47
unfolding front
slash_sign = record { front = λ at z h. refl; word = refl }

pub colon_sign : IsSign 58
unfolding front source.front
colon_sign = record { front = λ at z h. refl; word = refl }

pub bracket_sign : IsSign 91
unfolding front source.front
bracket_sign = record { front = λ at z h. refl; word = refl }

pub close_bracket_sign : IsSign 93
unfolding front source.front
close_bracket_sign = record { front = λ at z h. refl; word = refl }

pub brace_sign : IsSign 123
unfolding front source.front
brace_sign = record { front = λ at z h. refl; word = refl }

pub close_brace_sign : IsSign 125
unfolding front source.front
close_brace_sign = record { front = λ at z h. refl; word = refl }

pub sign_before : {R : Rest} (b : ℕ) → IsSign b → (b == 46) ≡ false → (z : Text) (ts : List Token) → Lexed R z ts → Lexed R (b ∷ z) (sign b ∷ ts)
sign_before b is other z ts h = token_before b [] z (sign b) ts (λ at. is.front at z (inl other)) h
