-- What becomes of records of numbers that a message's type does not declare (protobuf.dev,
-- "Language Guide", Unknown Fields).
use Rattle.std.specs.Prelude.{◌≡◌, ℕ, ◌==◌, List, [], ◌++◌, map}
use Rattle.std.specs.List.{filter}
use Rattle.reflect_pool.specs.declared.message.MessageDescriptor.{MessageDescriptor}
use Rattle.reflect_wire.specs.Records.{Payload}
use Rattle.reflect_message.specs.Declares.{IsDeclared}

-- the records of a number, as they came
abbrev pub numbered : ℕ → List (ℕ × Payload) → List (ℕ × Payload)
numbered n rs = filter (λ r. r.0 == n) rs

-- what stands in the records of a number
abbrev pub payloads : ℕ → List (ℕ × Payload) → List Payload
payloads n rs = map (λ r. r.1) (numbered n rs)

-- behind the old records of each undeclared number stand the read ones; of declared numbers none is
-- put, and of numbers that are not read the old ones stay
pub record KeepsUndeclared (m : MessageDescriptor) (old new read : List (ℕ × Payload))
    : Type 0 where
  pub behind : (n : ℕ) → (IsDeclared m n → ⊥) → numbered n new ≡ numbered n old ++ numbered n read
  pub declared : (n : ℕ) → IsDeclared m n → numbered n new ≡ numbered n old
  pub others : (n : ℕ) → numbered n read ≡ [] → numbered n new ≡ numbered n old
