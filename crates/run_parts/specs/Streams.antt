-- What a stream takes of what is written to it.
use Rattle.std.specs.Io.KnownBytes.{Appends}
use Rattle.std.specs.Prelude.{◌≡◌, ◌++◌, ◌∷◌, ◌<◌, ℕ, List, [], Option, length}

-- a stream before and behind a call, and what is known of its bytes
pub record Stream (S : Type 0) : Type 0 where
  pub known : S → Option (List ℕ)
  pub before : S
  pub behind : S

-- a stream whose bytes are known so, from one state to the other
abbrev pub between : {S : Type 0} → (S → Option (List ℕ)) → S → S → Stream S
between known before behind = record { known = known; before = before; behind = behind }

-- the stream is as it was
abbrev pub IsLeft : {S : Type 0} → Stream S → Type 0
IsLeft s = s.behind ≡ s.before

-- these bytes stand behind those that the stream had, and nothing else does
abbrev pub Gets : {S : Type 0} → Stream S → List ℕ → Type 0
Gets s bytes = Appends (s.known s.before) (s.known s.behind) bytes

-- so do some bytes
abbrev pub GetsSome : {S : Type 0} → Stream S → Type 0
GetsSome s = (bytes : List ℕ) × Gets s bytes

-- so does a beginning of these, or all of them
abbrev pub GetsFront : {S : Type 0} → Stream S → List ℕ → Type 0
GetsFront s bytes = (front : List ℕ) × (rest : List ℕ) × (bytes ≡ front ++ rest) × Gets s front

-- so does a beginning of these, which is not all of them
abbrev pub GetsPart : {S : Type 0} → Stream S → List ℕ → Type 0
GetsPart s bytes = (front : List ℕ) × (rest : List ℕ) × (bytes ≡ front ++ rest)
    × (0 < length rest) × Gets s front

-- a text with its line end
abbrev pub line_of : List ℕ → List ℕ
line_of text = text ++ 10 ∷ []
