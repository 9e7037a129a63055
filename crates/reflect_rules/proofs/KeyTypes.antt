-- Which types of fields the keys of maps have.
use Rattle.std.proofs.Common.{◌≡◌, ◌<◌, ◌==◌, nat_le, ℕ, suc, ℤ, pos, true, false, Some, None, refl, arith}
use Rattle.descriptor_records.specs.FieldNumbers.{IsTypeOf}
use Rattle.descriptor_records.proofs.FieldNumbers.{no_type}
use Rattle.reflect_rules.specs.MapEntries.{is_key_type}

past_keys : (n : ℕ) → 18 < n → is_key_type (Some (pos n)) ≡ false
past_keys n lt =
    let three : nat_le 3 n ≡ true = grind (arith, lt) in
    let nine : nat_le n 9 ≡ false = grind (arith, lt) in
    let thirteen : (n == 13) ≡ false = grind (arith, lt) in
    let fifteen : nat_le 15 n ≡ true = grind (arith, lt) in
    let last : nat_le n 18 ≡ false = grind (arith, lt) in
    rw (three, nine, thirteen, fifteen, last) refl

-- a number of no type is that of no key
pub no_key : (n : ℤ) → IsTypeOf n None → is_key_type (Some n) ≡ false
no_key n h = no_type (λ m. is_key_type (Some m) ≡ false) (λ k. refl) refl (λ k. past_keys (suc (suc (suc (suc (suc (suc (suc (suc (suc (suc (suc (suc (suc (suc (suc (suc (suc (suc (suc k))))))))))))))))))) (omega arith)) n h
