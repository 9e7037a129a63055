use Rattle.std.proofs.Common.{◌≡◌, ◌∙◌, ℕ, Bool, true, false, List, Result, Ok, Err, refl, ap, sym, subst, String, string_bytes}
use Rattle.std.specs.Prelude.{MatchResult, is_ok}
use Rattle.std.specs.Str.{IsUtf8, is_utf8}
use Rattle.std.proofs.lemmas.Str.{IsUtf8-from_is_utf8, is_utf8-from_IsUtf8, IsUtf8-string_bytes}
use Rattle.protox_check.proofs.is_text.Goals as goal

-- bytes are text exactly where a string was made of them
text_told : {Z X E : Type 0} (bytes : List ℕ) (P : String Z × X → Type 0) (Q : E → Type 0) (r : Result (String Z × X) E) → MatchResult r P Q
    → ((p : String Z × X) → P p → string_bytes p.0 ≡ bytes) → ((e : E) → Q e → IsUtf8 bytes → ⊥) → is_ok r ≡ is_utf8 bytes
text_told bytes P Q (Ok p) h same other = sym (is_utf8-from_IsUtf8 bytes (subst IsUtf8 (same p h) (IsUtf8-string_bytes p.0)))
text_told bytes P Q (Err e) h same other = by (is_utf8 bytes) refl where
  by : (b : Bool) → is_utf8 bytes ≡ b → false ≡ b
  by true is = absurd (other e h (IsUtf8-from_is_utf8 bytes is))
  by false is = refl

pub returns : goal.returns
returns c =
    let bytes = c.in_ok-joined.joined.value.items in
    c.is_ok.ensures.value ∙ text_told bytes _ _ c.into_utf8.result c.into_utf8.ensures (λ p h. h.0) (λ e h. h.0) ∙ ap is_utf8 c.in_ok-joined.ensures.text
