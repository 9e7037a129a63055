-- What a record adds to a list.
use Rattle.std.proofs.Common.{◌≡◌, inl, inr, ℕ, Bool, true, List, [], ◌∷◌, ◌++◌, Some, refl, sym, ◌∙◌, subst}
use Rattle.std.specs.List.{AllByRecursion}
use Rattle.reflect_wire.specs.Reads.{Fronts}
use Rattle.reflect_wire.specs.Key.{IsDelimited}
use Rattle.reflect_wire.specs.Records.{Payload, delimited, IsValue}
use Rattle.reflect_wire.specs.declared.wire_key.WireKey.{WireKey}
use Rattle.reflect_wire.specs.declared.wire_key.WireType.TheVariants.{LengthDelimited}
use Rattle.reflect_pool.specs.declared.kind.Kind.{Kind}
use Rattle.reflect_pool.specs.declared.kind.Kind.TheVariants as kinds
use Rattle.reflect_pool.specs.declared.message.MessageDescriptor.{MessageDescriptor}
use Rattle.reflect_scalar.specs.Kinds.{wire_type, packs}
use Rattle.reflect_scalar.specs.Meaning.{IsScalar}
use Rattle.reflect_scalar.specs.Singles.{Single}
use Rattle.reflect_message.specs.Contents.{content_of, nothing}
use Rattle.reflect_decode.specs.Accepts.{AcceptsKind, AcceptsElement, AcceptsMessage}
use Rattle.reflect_decode.specs.Elements.{Appends, AppendsAll, ContinuesList}
use Rattle.reflect_message.specs.Lists.{list_items}
use Rattle.reflect_decode.specs.Merging.{LeadsOn, IsRun}
use Rattle.reflect_decode.specs.Messages.{Taken, IsMade}
use Rattle.reflect_message.specs.Messages.{message_in}
use Rattle.reflect_decode.specs.Suits.{SuitsBelow}
use Rattle.reflect_decode.specs.Packed.{IsPacked, Continues}
use Rattle.reflect_message.specs.Singles.{single}
use Rattle.reflect_message.specs.Names.{DynamicMessage, Value}
use Rattle.reflect_decode.proofs.Accepting.{accepts_value, all_one}
use Rattle.reflect_decode.proofs.Suiting.{empty_suits}
use Rattle.reflect_decode.proofs.Running.{plain_spelled, run_ends}

-- one record more
pub appends_more : (inner : Taken) (kind : Kind) (old mid new : List Value) (ps : List Payload) (p : Payload) → AppendsAll inner kind old mid ps → Appends inner kind mid new p → AppendsAll inner kind old new (ps ++ p ∷ [])
appends_more inner kind old mid new [] p h k = (new, subst (λ l. Appends inner kind l new p) h k, refl)
appends_more inner kind old mid new (q ∷ ps) p h k = (h.0, h.1, appends_more inner kind h.0 mid new ps p h.2 k)

module _ (inner : Taken) (levels : ℕ) (grouped : Bool) (key : WireKey) (kind : Kind) (bytes rest : List ℕ) (old new : List Value) where
  abbrev Answers : Type 0
  Answers = (p : Payload) × Fronts (IsValue levels key) bytes p rest × Appends inner kind old new p × AcceptsElement (AcceptsMessage levels) grouped kind p

  pub appends_value : (v : Single) (value : Value) → Fronts (IsScalar kind key.wire) bytes v rest → new ≡ old ++ value ∷ [] → single value ≡ Some v
      → Answers
  appends_value v value h e s = (
    h.1.0,
    (h.0, (h.1.1.0, plain_spelled levels key.number h.0 h.1.0 h.1.1.1), h.2),
    inr (v ∷ [], inl (v, refl, h.1.2), (value ∷ [], e, cc (s))),
    inl (accepts_value (AcceptsMessage levels) grouped kind h.1.0 v h.1.2),
  )

  pub appends_row : (body : List ℕ) (vs : List Single) → key.wire ≡ LengthDelimited → packs (wire_type kind) ≡ true → Fronts IsDelimited bytes body rest → IsPacked kind body vs → Continues old new vs
      → Answers
  appends_row body vs wire packed h row more =
      (delimited body, (h.0, (wire, h.1), h.2), inr (vs, inr (body, refl, packed, row), more), inr (vs, (body, refl, packed, row)))

  -- a message that was made of the record
  pub appends_message : (d : MessageDescriptor) (fresh m : DynamicMessage) (value : Value) (p : Payload) → kind ≡ kinds.Message d → fresh.descriptor ≡ d → content_of fresh ≡ nothing → m.descriptor ≡ fresh.descriptor → message_in value ≡ Some m → new ≡ old ++ value ∷ []
      → Fronts (IsValue levels key) bytes p rest → inner fresh.descriptor (content_of fresh) (content_of m) (p ∷ [])
      → (SuitsBelow levels fresh.descriptor (content_of fresh) → AcceptsMessage levels grouped fresh.descriptor.pool.now fresh.descriptor.index p) → Answers
  appends_message d fresh m value p is type empty same there e h taken accepts =
      let mine = subst (λ c. inner d c (content_of m) (p ∷ [])) empty (subst (λ d. inner d (content_of fresh) (content_of m) (p ∷ [])) type taken) in
      let accepted : AcceptsMessage levels grouped d.pool.now d.index p =
      subst (λ (d : MessageDescriptor). AcceptsMessage levels grouped d.pool.now d.index p) type (accepts (empty_suits levels fresh.descriptor (content_of fresh) empty)) in (
        p,
        h,
        inl (value, subst (λ k. IsMade inner k p value) (sym is) (m, there, same ∙ type, mine), e),
        inl (subst (λ k. AcceptsKind (AcceptsMessage levels) grouped k p) (sym is) accepted),
      )

-- the last record of a list's run
pub list_done : (inner : Taken) (levels : ℕ) (grouped : Bool) (key : WireKey) (kind : Kind) (bytes here rest : List ℕ) (old new : Value) (before mid after : List Value) (ps : List Payload) (p : Payload)
    → list_items old ≡ Some before → list_items new ≡ Some after → Fronts (LeadsOn levels key) bytes ps here → Fronts (IsValue levels key) here p rest → AppendsAll inner kind before mid ps → Appends inner kind mid after p
    → AllByRecursion (AcceptsElement (AcceptsMessage levels) grouped kind) ps → AcceptsElement (AcceptsMessage levels) grouped kind p
    → (run : List Payload × Payload) × Fronts (IsRun levels key) bytes run rest × ContinuesList inner kind (Some old) (Some new) (run.0 ++ run.1 ∷ []) × AllByRecursion (AcceptsElement (AcceptsMessage levels) grouped kind) (run.0 ++ run.1 ∷ [])
list_done inner levels grouped key kind bytes here rest old new before mid after ps p e f h v so_far last accepted accepts = (
  (ps, p),
  run_ends levels key bytes here rest ps p h v,
  (before, after, e, f, appends_more inner kind before mid after ps p so_far last),
  all_one (AcceptsElement (AcceptsMessage levels) grouped kind) ps p accepted accepts,
)
