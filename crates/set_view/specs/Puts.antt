-- Messages in which one number more is held, or one fewer, in the words of the model.
use Rattle.std.specs.Prelude.{◌≡◌, ◌≢◌, ℕ, Option, true, false}
use Rattle.protobuf_model.specs.Types.{Field, rival}
use Rattle.protobuf_model.specs.Values.{Held, Message, absent}

-- under the number stands what is held, under those of the other members of its oneof nothing, and
-- nothing else is changed
pub record IsPut (type : ℕ → Option Field) (n : ℕ) (held : Held) (old new : Message) : Type 0 where
  pub here : new n ≡ held
  pub rivals : (q : ℕ) → rival type n q ≡ true → new q ≡ absent
  pub others : (q : ℕ) → q ≢ n → rival type n q ≡ false → new q ≡ old q

-- under the number stands nothing, and nothing else is changed
pub record IsUnset (n : ℕ) (old new : Message) : Type 0 where
  pub here : new n ≡ absent
  pub others : (q : ℕ) → q ≢ n → new q ≡ old q
