-- Messages that suit their types.
use Rattle.std.specs.Prelude.{◌≡◌, ◌⊎◌, ℕ, zero, suc, ◌<◌, ◌^◌, ◌||◌, not, true, [], Option, None, Some}
use Rattle.std.specs.List.{AllByRecursion}
use Rattle.reflect_wire.specs.Written.{FitsPayload}
use Rattle.protobuf_model.specs.Values.{Single, Content, single, message, list, dictionary, more_contents, more_entries, Held, content, records, Message, absent, list_of, pairs_of}
use Rattle.protobuf_model.specs.Types.{Name, Kind, scalar, nested, Part, Key, Label, one, many, keyed, Field, Types, rival}
use Rattle.protobuf_model.specs.Scalars.{Suits, same}
use Rattle.protobuf_model.specs.Keys.{Ascend}

-- a content of the kind, where `inner` says which messages are
abbrev pub IsOf : (Name → Message → Type 0) → Kind → Content → Type 0
IsOf inner (scalar k) (single v) = Suits k v
IsOf inner (nested frame u) (message m) = inner u m
IsOf inner _ _ = ⊥

-- a default is set only with presence
abbrev pub IsSet : Part → Content → Type 0
IsSet part (single v) = (part.presence || not (same v part.default)) ≡ true
IsSet part _ = Unit {0}

abbrev pub IsEntryOf : (Name → Message → Type 0) → Key → Part → Single × Content → Type 0
IsEntryOf inner key part e = Suits key.kind e.0 × IsOf inner part.kind e.1

abbrev pub IsFieldOf : (Name → Message → Type 0) → Part → Label → Content → Type 0
IsFieldOf inner part one c = IsOf inner part.kind c × IsSet part c
IsFieldOf inner part (many packed) (list (more_contents c cs)) =
    IsOf inner part.kind c × AllByRecursion (IsOf inner part.kind) (list_of cs)
IsFieldOf inner part (keyed key) (dictionary (more_entries k c es)) =
    AllByRecursion (IsEntryOf inner key part) (pairs_of (more_entries k c es))
    × Ascend (pairs_of (more_entries k c es))
IsFieldOf inner part _ _ = ⊥

-- a field holds a content or nothing, a number without a field holds records
abbrev pub IsHeldOf : (Name → Message → Type 0) → ℕ → Option Field → Held → Type 0
IsHeldOf inner levels None (records ps) = AllByRecursion (FitsPayload levels) ps
IsHeldOf inner levels None (content c) = ⊥
IsHeldOf inner levels (Some f) (records ps) = ps ≡ []
IsHeldOf inner levels (Some f) (content c) = IsFieldOf inner f.part f.label c

pub record IsTypedBy (inner : Name → Message → Type 0) (levels : ℕ) (type : ℕ → Option Field)
    (m : Message) : Type 0 where
  pub numbers : (n : ℕ) → (m n ≡ absent) ⊎ ((0 < n) × (n < 2 ^ 29))
  pub contents : (n : ℕ) → IsHeldOf inner levels (type n) (m n)
  pub exclusive : (n q : ℕ) → rival type n q ≡ true → (m n ≡ absent) ⊎ (m q ≡ absent)

-- the message suits the type, with at most so many levels below
abbrev pub IsTyped : ℕ → Types → Name → Message → Type 0
IsTyped zero types t m = IsTypedBy (λ u m. ⊥) zero (types t) m
IsTyped (suc levels) types t m = IsTypedBy (IsTyped levels types) (suc levels) (types t) m

-- the defaults of a map's key and value, which stand where an entry has none, are values of their
-- kinds
abbrev pub HasDefault : Kind → Single → Type 0
HasDefault (scalar k) d = Suits k d
HasDefault (nested frame u) d = Unit {0}

abbrev pub HasEntryDefaults : Part → Label → Type 0
HasEntryDefaults part (keyed key) = Suits key.kind key.default × HasDefault part.kind part.default
HasEntryDefaults part _ = Unit {0}

abbrev pub HasDefaults : Option Field → Type 0
HasDefaults None = Unit {0}
HasDefaults (Some f) = HasEntryDefaults f.part f.label

abbrev pub HaveDefaults : Types → Type 0
HaveDefaults types = (t : Name) (n : ℕ) → HasDefaults (types t n)
