-- Types that are older than others: a message may pass through a program that knows only them.
use Rattle.std.specs.Prelude.{◌≡◌, ℕ, List, Contains, Option, None, Some}
use Rattle.protobuf_model.specs.Types.{Name, Kind, scalar, nested, Field, Types, rival}

-- alike in kind, where messages are of types that are paired
abbrev pub AreKinds : (Name → Name → Type 0) → Kind → Kind → Type 0
AreKinds Pair (scalar k) (scalar l) = k ≡ l
AreKinds Pair (nested f t) (nested g u) = (f ≡ g) × Pair t u
AreKinds Pair _ _ = ⊥

pub record AreAlike (Pair : Name → Name → Type 0) (f g : Field) : Type 0 where
  pub kind : AreKinds Pair f.part.kind g.part.kind
  pub presence : f.part.presence ≡ g.part.presence
  pub default : f.part.default ≡ g.part.default
  pub label : f.label ≡ g.label
  pub extension : f.extension ≡ g.extension

-- a field of the older type answers to an alike one of the newer
abbrev pub AnswersTo : (Name → Name → Type 0) → Option Field → Option Field → Type 0
AnswersTo Pair None g = Unit {0}
AnswersTo Pair (Some f) (Some g) = AreAlike Pair f g
AnswersTo Pair (Some f) None = ⊥

-- older and newer types in pairs, so that the types of messages inside are paired too; two numbers
-- share a oneof of the one exactly where they do in the other, so that a oneof has all its members
-- in both, or a single one in the newer
pub record AreOlder (old new : Types) (Pair : Name → Name → Type 0) : Type 0 where
  pub fields : (t u : Name) → Pair t u → (n : ℕ) → AnswersTo Pair (old t n) (new u n)
  pub oneofs : (t u : Name) → Pair t u → (n q : ℕ) → rival (old t) n q ≡ rival (new u) n q

-- a type is older than another where a list of pairs, closed so, has the two
abbrev pub IsOlder : Types → Name → Types → Name → Type 0
IsOlder old t new u =
    (pairs : List (Name × Name)) × AreOlder old new (λ t u. Contains pairs (t, u))
    × Contains pairs (t, u)
