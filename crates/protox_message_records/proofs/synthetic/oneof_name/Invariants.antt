use Rattle.std.proofs.Common.{◌≡◌, ◌<◌, ◌∷◌, ℕ, true, length, map, string_bytes}
use Rattle.protox_message_records.proofs.Taken.{long}
use Rattle.protox_message_records.specs.SyntheticOneofs.{behind_letters, is_taken}
use Rattle.protox_message_records.proofs.synthetic.oneof_name.Given as goal

abbrev pub invariant-letters : goal.invariant-letters
invariant-letters l =
    (count : ℕ) × (string_bytes l.name ≡ behind_letters count (95 ∷ l.field))
    × ((fewer : ℕ) → fewer < count → is_taken (map (λ n. n.now) l.taken.keys) (behind_letters fewer (95 ∷ l.field)) ≡ true)

abbrev pub decreases-letters : goal.decreases-letters
decreases-letters l = long (length (string_bytes l.name)) (map (λ n. n.now) l.taken.keys)
