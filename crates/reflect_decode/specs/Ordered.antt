-- In which order messages keep what they hold.
use Rattle.std.specs.Prelude.{◌≤◌, ◌-◌, ◌^◌, ℕ, List, [], ◌∷◌, IfSome, IsTrue}
use Rattle.std.specs.Option.{IsSome}
use Rattle.reflect_entries.specs.Entries.{IsAscending, value_at}
use Rattle.reflect_wire.specs.Records.{Payload}
use Rattle.reflect_message.specs.Contents.{Content}
use Rattle.reflect_copies.specs.InOrder.{in_order}
use Rattle.reflect_message.specs.Names.{Value}

-- the highest number that a field may have
-- (protobuf.dev, "Language Guide", Assigning Field Numbers)
abbrev pub last : ℕ
last = 2 ^ 29 - 1

-- the numbers ascend, and each is one that a field may have
pub record AreNumbered (entries : List (ℕ × Value)) : Type 0 where
  pub ascending : IsAscending entries
  pub within : (n : ℕ) → IsSome (value_at entries n) → (1 ≤ n) × (n ≤ last)

-- each number is that of the record before it, or above it, from one number up to another
abbrev pub Ascend : ℕ → ℕ → List (ℕ × Payload) → Type 0
Ascend low high [] = low ≤ high
Ascend low high (r ∷ rs) = (low ≤ r.0) × Ascend r.0 high rs

-- the numbers of fields, of extensions and of other records ascend
pub record IsOrdered (c : Content) : Type 0 where
  pub fields : AreNumbered c.fields
  pub extensions : AreNumbered c.extensions
  pub unknown : Ascend 1 last c.unknown

-- the numbers ascend, and what stands under each is in order itself
pub record AreInOrder (entries : List (ℕ × Value)) : Type 0 where
  pub ascending : IsAscending entries
  pub each : (n : ℕ) → IfSome (value_at entries n) (λ v. IsTrue (in_order v))

-- fields and extensions are in order, at each depth
pub record HoldsInOrder (c : Content) : Type 0 where
  pub fields : AreInOrder c.fields
  pub extensions : AreInOrder c.extensions
