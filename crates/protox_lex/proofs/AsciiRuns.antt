-- Runs of bytes below 128.
use Rattle.std.proofs.Common.{◌≡◌, ℕ, ◌+◌, ◌-◌, ◌≤◌, ◌<◌, true, ap, sym, ◌∙◌, arith, inl, inr, length, drop, get_or}
use Rattle.std.specs.Str.{IsUtf8}
use Rattle.std.proofs.lemmas.Bool.{cases_lt}
use Rattle.std.proofs.lemmas.Bool.Decides.{nat_tests}
use Rattle.std.proofs.lemmas.List.{get_or-drop}
use Rattle.std.proofs.lemmas.List.Sums.{prefix_len_passes}
use Rattle.std.proofs.lemmas.Str.{IsUtf8-from_ascii}
use Rattle.std.proofs.lemmas.Str.Ascii.{IsAscii-from_reads}
use Rattle.protox_lex.specs.declared.class.Class.{Class}
use Rattle.protox_lex.specs.declared.class.Class.TheVariants as class
use Rattle.protox_lex.specs.Class.{Text, is_in, past}
use Rattle.protox_lex.specs.Ascii.{IsAsciiTo, is_ascii_class}

in_class : (c : Class) (b : ℕ) → is_ascii_class c ≡ true → is_in c b ≡ true → b < 128
in_class class.Blank b a h = grind (arith, nat_tests)
in_class class.Line b a h = absurd (cc)
in_class class.Alphabetic b a h = grind (arith, nat_tests)
in_class class.Letter b a h = grind (arith, nat_tests)
in_class class.Word b a h = grind (arith, nat_tests)
in_class class.Digit b a h = grind (arith, nat_tests)
in_class class.Octal b a h = grind (arith, nat_tests)
in_class class.Hex b a h = grind (arith, nat_tests)

pub ascii_past : (c : Class) (z : Text) (at : ℕ) → is_ascii_class c ≡ true → IsAsciiTo z at → IsAsciiTo z (past c z at)
ascii_past c z at a h = record { each = λ k lt. elim (cases_lt k at) [ inl low ↦ h.each k low | inr le ↦ there k le lt ] } where
  there : (k : ℕ) → at ≤ k → k < past c z at → get_or z k 0 < 128
  there k le lt =
      let j : at + (k - at) ≡ k = omega arith in
      let passes : is_in c (get_or (drop at z) (k - at) 0) ≡ true = prefix_len_passes (is_in c) (drop at z) (k - at) 0 (omega arith) in
      let same : get_or (drop at z) (k - at) 0 ≡ get_or z k 0 = get_or-drop at z (k - at) 0 ∙ ap (λ i. get_or z i 0) j in
      in_class c (get_or z k 0) a (ap (is_in c) (sym same) ∙ passes)

pub ascii_text : (z : Text) → IsAsciiTo z (length z) → IsUtf8 z
ascii_text z h = IsUtf8-from_ascii z (IsAscii-from_reads z (length z) (omega arith) h.each)

pub ascii_less : (z : Text) (n m : ℕ) → IsAsciiTo z n → m ≤ n → IsAsciiTo z m
ascii_less z n m h le = record { each = λ k lt. h.each k (omega arith) }
