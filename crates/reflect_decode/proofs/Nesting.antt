-- Messages inside records, level by level.
use Rattle.std.proofs.Common.{◌≡◌, ◌<◌, Bool, true, false, ℕ, zero, suc, ◌+◌, List, [], ◌∷◌, ◌++◌, None, Some, Result, Ok, Err, IfOk, refl, sym, ap, ◌∙◌, subst, append_assoc, append-nil, arith}
use Rattle.std.specs.Borrow.{Bor}
use Rattle.reflect_tables.specs.Types.{PoolType, FieldType}
use Rattle.reflect_pool.specs.declared.kind.Kind.{Kind}
use Rattle.reflect_pool.specs.declared.message.MessageDescriptor.{MessageDescriptor}
use Rattle.reflect_wire.specs.Key.{IsDelimited}
use Rattle.reflect_wire.specs.Reads.{Fronts}
use Rattle.reflect_wire.specs.Records.{Payload, delimited, group, IsValue}
use Rattle.reflect_wire.specs.Views.{records_of}
use Rattle.reflect_wire.specs.declared.wire_error.WireError.{WireError}
use Rattle.reflect_wire.specs.declared.wire_key.WireKey.{WireKey}
use Rattle.reflect_wire.specs.declared.wire_key.WireType.TheVariants.{LengthDelimited, StartGroup}
use Rattle.reflect_scalar.specs.Defaults.{default_in}
use Rattle.reflect_message.specs.Contents.{Content, content_of}
use Rattle.reflect_decode.specs.Accepts.{Accepts, AcceptsElement, AcceptsMessage}
use Rattle.reflect_decode.specs.Elements.{Appends}
use Rattle.reflect_decode.specs.Levels.{TakenAt, TakesAt, MergesAt}
use Rattle.reflect_decode.specs.Maps.{LeavesValue}
use Rattle.reflect_decode.specs.Merging.{IsBody}
use Rattle.reflect_decode.specs.Messages.{AreInside}
use Rattle.reflect_decode.specs.Suits.{Suits, SuitsBelow}
use Rattle.reflect_message.specs.Messages.{IsStart, message_in}
use Rattle.reflect_message.specs.KindTypes.{IsScalarType, IsMessageType}
use Rattle.reflect_message.specs.Singles.{single}
use Rattle.reflect_message.specs.Names.{DynamicMessage, Value}
use Rattle.reflect_decode.proofs.Accepting.{inside_accepted}
use Rattle.reflect_decode.proofs.Joining.{Joins}
use Rattle.reflect_decode.proofs.Running.{delimited_value, group_value, whole_body}
use Rattle.reflect_decode.proofs.Sparing.{merges_none, merges_more}

inside_both : (grouped : Bool) (levels : ℕ) (ps qs : List Payload) (rs ts : List (ℕ × Payload)) → AreInside grouped levels ps rs → AreInside grouped levels qs ts → AreInside grouped levels (ps ++ qs) (rs ++ ts)
inside_both grouped levels [] qs rs ts h k = subst (λ l. AreInside grouped levels qs (l ++ ts)) (sym h) k
inside_both grouped levels (p ∷ ps) qs rs ts h k = (h.0, h.1 ++ ts, h.2, inside_both grouped levels ps qs h.1 ts h.3 k, ap (λ l. l ++ ts) h.4 ∙ append_assoc h.0 h.1 ts)

-- what payloads leave, and others behind them, all of them leave
pub joins_at : (levels : ℕ) → Joins (TakesAt levels)
unfolding TakenAt
joins_at zero grouped m a b c ps qs h k = absurd h
joins_at (suc levels) grouped m a b c ps qs h k = (h.0 ++ k.0, inside_both grouped levels ps qs h.0 k.0 h.1 k.1, merges_more (TakesAt levels) m (joins_at levels) a b c h.0 k.0 h.2 k.2)

-- where a level is left, a message may have taken in nothing
pub taken_none : (levels : ℕ) → 0 < levels → (grouped : Bool) (m : MessageDescriptor) (a : Content) → TakenAt levels grouped m a a []
unfolding TakenAt
taken_none zero left grouped m a = absurd (omega (arith, left))
taken_none (suc levels) left grouped m a = ([], refl, merges_none (TakesAt levels) m a)

-- the value of an entry without records of it
pub value_unset : (levels : ℕ) (pool : PoolType) (f : FieldType) (v : Value) → (IsScalarType f.kind → single v ≡ default_in pool f) → (IsMessageType f.kind → (m : DynamicMessage) × (message_in v ≡ Some m) × IsStart pool f.kind None m)
    → (IsMessageType f.kind → 0 < levels) → LeavesValue (TakesAt levels) pool f v []
value_unset levels pool f v scalar empty left = (λ type. scalar type, λ type. let start = empty type in (start.0, start.0, start.2, start.1, refl, taken_none levels (left type) f.group start.0.descriptor (content_of start.0)))

module _ (below levels : ℕ) (e : below + 1 ≡ levels) (m : MessageDescriptor) (a b : Content) where
  one_inside : (grouped : Bool) (p : Payload) (rs : List (ℕ × Payload)) → AreInside grouped below (p ∷ []) rs → MergesAt below m a b rs
      → TakenAt levels grouped m a b (p ∷ [])
  unfolding TakenAt
  one_inside grouped p rs inside merges =
      let above : suc below ≡ levels = omega (arith, e) in
      subst (λ l. TakenAt l grouped m a b (p ∷ [])) above (rs, inside, merges)

  module _ (key : WireKey) (bytes : List ℕ) where
    -- the records inside a length and its bytes
    pub delimited_taken : (grouped : Bool) (body inside rest : List ℕ) → grouped ≡ false → key.wire ≡ LengthDelimited → Fronts IsDelimited bytes body rest → inside ≡ [] → (rs : List (ℕ × Payload)) × Fronts (IsBody None below) body rs inside × MergesAt below m a b rs × (Suits below m a → Accepts below m rs)
        → (p : Payload) × Fronts (IsValue levels key) bytes p rest × TakenAt levels grouped m a b (p ∷ []) × (SuitsBelow levels m a → AcceptsMessage levels grouped m.pool.now m.index p)
    delimited_taken grouped body inside rest form wire h whole (rs, read, merges, accepted) =
        let value = delimited_value levels key bytes rest body wire h in
        let spelled = whole_body below body inside rs read whole in
        let taken = one_inside false (delimited body) rs (rs, [], spelled, refl, sym (append-nil rs)) merges in (
          delimited body,
          value,
          subst (λ g. TakenAt levels g m a b (delimited body ∷ [])) (sym form) taken,
          λ suits. subst (λ g. AcceptsMessage levels g m.pool.now m.index (delimited body)) (sym form) (inside_accepted below levels e m a false (delimited body) rs spelled accepted suits),
        )

    -- the records inside a group
    pub group_taken : (grouped : Bool) (r : Result (Bor (List ℕ)) WireError) → grouped ≡ true → key.wire ≡ StartGroup → IfOk r (λ rest. (rs : List (ℕ × Payload)) × Fronts (IsBody (Some key.number) below) bytes rs rest.now × MergesAt below m a b rs × (Suits below m a → Accepts below m rs))
        → IfOk r (λ rest. (p : Payload) × Fronts (IsValue levels key) bytes p rest.now × TakenAt levels grouped m a b (p ∷ []) × (SuitsBelow levels m a → AcceptsMessage levels grouped m.pool.now m.index p))
    group_taken grouped (Ok rest) form wire (rs, read, merges, accepted) =
        let value = group_value levels key below bytes rest.now rs wire e read in
        let taken = one_inside true (group (records_of rs)) rs (rs, [], refl, refl, sym (append-nil rs)) merges in (
          group (records_of rs),
          value,
          subst (λ g. TakenAt levels g m a b (group (records_of rs) ∷ [])) (sym form) taken,
          λ suits. subst (λ g. AcceptsMessage levels g m.pool.now m.index (group (records_of rs))) (sym form) (inside_accepted below levels e m a true (group (records_of rs)) rs refl accepted suits),
        )
    group_taken grouped (Err f) form wire h = tt

-- what a record adds at the same level
pub appends_at : (here levels : ℕ) (grouped : Bool) (kind : Kind) (old new : List Value) (p : Payload) → here ≡ levels
    → Appends (TakenAt here grouped) kind old new p → Appends (TakenAt levels grouped) kind old new p
appends_at here levels grouped kind old new p e h = subst (λ l. Appends (TakenAt l grouped) kind old new p) e h

pub accepts_at : (here levels : ℕ) (grouped : Bool) (kind : Kind) (p : Payload) → here ≡ levels → AcceptsElement (AcceptsMessage here) grouped kind p → AcceptsElement (AcceptsMessage levels) grouped kind p
accepts_at here levels grouped kind p e h = subst (λ l. AcceptsElement (AcceptsMessage l) grouped kind p) e h
