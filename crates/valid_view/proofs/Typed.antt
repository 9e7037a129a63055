-- At each depth: messages that suit their types by the test suit the model's, where they are tidy
-- and hold what is whole.
use Rattle.std.proofs.Common.{◌≡◌, ℕ, zero, suc, true, List, [], ◌∷◌, sym, subst}
use Rattle.std.specs.List.{AllByRecursion}
use Rattle.protobuf_model.specs.Typed.{IsTyped, IsTypedBy}
use Rattle.protobuf_model.specs.Types.{Name}
use Rattle.protobuf_model.specs.Values.{Message}
use Rattle.reflect_tables.specs.Types.{KindType, PoolType}
use Rattle.reflect_tables.specs.Types as types
use Rattle.reflect_scalar.specs.declared.map_key.MapKey.{MapKey}
use Rattle.reflect_message.specs.Names.{DynamicMessage, Value}
use Rattle.reflect_numbered.specs.Fits.{suits_type}
use Rattle.reflect_numbered.specs.declared.validity.Strictness.TheVariants.{Types}
use Rattle.message_view.specs.Sound.{IsSound}
use Rattle.message_view.specs.Types.{name_at, types_of}
use Rattle.message_view.specs.Views.{view}
use Rattle.valid_view.specs.Inside.{EachMessage, IfMessage}
use Rattle.valid_view.specs.Tidy.{IsSolid, IsTidy, OfHeld, Solid, Tidy}
use Rattle.valid_view.proofs.Deep.{typed_kind}
use Rattle.valid_view.proofs.Meaning.{typed_by}
use Rattle.valid_view.proofs.Opened.{kinds_of}

-- what two facts hold of, both do
module _ (P Q : DynamicMessage → Type 0) where
  abbrev Both : DynamicMessage → Type 0
  Both m = P m × Q m

  both_items : (vs : List Value) → AllByRecursion (IfMessage P) vs → AllByRecursion (IfMessage Q) vs → AllByRecursion (IfMessage Both) vs
  both_items [] p q = tt
  both_items (v ∷ vs) p q = ((λ m at. (p.0 m at, q.0 m at)), both_items vs p.1 q.1)

  both_entries : (es : List (MapKey × Value)) → AllByRecursion (λ (e : MapKey × Value). IfMessage P e.1) es → AllByRecursion (λ (e : MapKey × Value). IfMessage Q e.1) es
      → AllByRecursion (λ (e : MapKey × Value). IfMessage Both e.1) es
  both_entries [] p q = tt
  both_entries (e ∷ es) p q = ((λ m at. (p.0 m at, q.0 m at)), both_entries es p.1 q.1)

  pub both_each : (v : Value) → EachMessage P v → EachMessage Q v → EachMessage Both v
  both_each v p q = record {
    itself = λ m at. (p.itself m at, q.itself m at);
    items = λ vs at. both_items vs (p.items vs at) (q.items vs at);
    entries = λ es at. both_entries es (p.entries es at) (q.entries es at);
  }

  both_inner : (m : DynamicMessage) → OfHeld (EachMessage P) m → OfHeld (EachMessage Q) m → OfHeld (EachMessage Both) m
  both_inner m p q = record {
    fields = λ n v at. both_each v (p.fields n v at) (q.fields n v at);
    extensions = λ n v at. both_each v (p.extensions n v at) (q.extensions n v at);
  }

module _ (pool : PoolType) (sound : IsSound pool) where
  -- one level, by the pool of the message itself
  one_typed : (count : ℕ) (Q : DynamicMessage → Type 0) (inner : Name → Message → Type 0) (m : DynamicMessage) → suits_type Types m ≡ true → IsTidy pool m → IsSolid count m → OfHeld (EachMessage Q) m
      → ((n : DynamicMessage) → suits_type Types n ≡ true → Q n → inner (name_at pool n.descriptor.index) (view n)) → IsTypedBy inner count (types_of pool (name_at pool m.descriptor.index)) (view m)
  one_typed count Q inner m typed tidy solid each below =
      let whole = typed_by count Q inner m (subst IsSound (sym tidy.pooled) sound) typed (subst (λ p. IsTidy p m) (sym tidy.pooled) tidy) solid each told in
      subst (λ p. IsTypedBy inner count (types_of p (name_at p m.descriptor.index)) (view m)) tidy.pooled whole where
        told : (t : KindType) (n : DynamicMessage) → kinds_of n Types m.descriptor.pool.now t ≡ true → Q n → (t ≡ types.message n.descriptor.index) × inner (name_at m.descriptor.pool.now n.descriptor.index) (view n)
        told t n is q =
            let two = typed_kind m.descriptor.pool.now t n is in
            (two.0, subst (λ p. inner (name_at p n.descriptor.index) (view n)) (sym tidy.pooled) (below n two.1 q))

  pub typed_suits : (levels : ℕ) (m : DynamicMessage) → Tidy pool (suc levels) m → Solid (suc levels) m → suits_type Types m ≡ true → IsTyped levels (types_of pool) (name_at pool m.descriptor.index) (view m)
  typed_suits zero m h solid typed = one_typed zero (Tidy pool zero) (λ u n. ⊥) m typed h.0 solid.0 h.1 (λ n is none. none)
  typed_suits (suc levels) m h solid typed =
      one_typed (suc levels) (Both (Tidy pool (suc levels)) (Solid (suc levels))) (IsTyped levels (types_of pool)) m typed h.0 solid.0
      (both_inner (Tidy pool (suc levels)) (Solid (suc levels)) m h.1 solid.1) (λ n is both. typed_suits levels n both.0 both.1 is)
