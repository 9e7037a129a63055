-- A number is one of fields for the pass over numbers exactly where it is one.
use Rattle.std.proofs.Common.{◌≡◌, ◌∙◌, ◌⊎◌, inl, inr, ◌≤ℤ◌, ◌<ℤ◌, ℤ, pos, negsuc, Bool, true, false, not, ◌&&◌, nat_le, ap, sym, refl, arith}
use Rattle.std.proofs.lemmas.Bool.{and_from, and_parts}
use Rattle.reflect_rules.specs.Numbers.{is_field_number}
use Rattle.schema_view.specs.Rules.{IsFieldNumber}

pub number_to : (n : ℤ) → is_field_number n ≡ true → IsFieldNumber n
number_to (negsuc k) e = absurd (cc e)
number_to (pos k) e = record {
  least = grind (arith, e);
  most = grind (arith, e);
  kept = by (nat_le 19000 k) refl (nat_le k 19999) refl;
} where
  by : (u : Bool) → nat_le 19000 k ≡ u → (v : Bool) → nat_le k 19999 ≡ v
      → (pos k <ℤ pos 19000) ⊎ (pos 20000 ≤ℤ pos k)
  by false is v _ = inl (grind (arith, is))
  by true is false other = inr (grind (arith, other))
  by true is true other =
      let inner : (nat_le 19000 k && nat_le k 19999) ≡ true = and_from _ _ is other in
      let outer = and_parts (nat_le 1 k && nat_le k 536870911) (not (nat_le 19000 k && nat_le k 19999)) e in
      let wrong : not true ≡ true = sym (ap not inner) ∙ outer.1 in
      absurd (cc wrong)

pub number_from : (n : ℤ) → IsFieldNumber n → is_field_number n ≡ true
number_from (negsuc k) h = let le = h.least in absurd (omega (arith, le))
number_from (pos k) h =
    let low = h.least in let high = h.most in
    elim h.kept [
      | inl lt ↦ grind (arith, low, high, lt)
      | inr ge ↦ grind (arith, low, high, ge)
    ]
