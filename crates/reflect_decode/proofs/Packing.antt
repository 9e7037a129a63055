-- Values one behind the other.
use Rattle.std.proofs.Common.{◌≡◌, ◌≢◌, inl, inr, ℕ, List, [], ◌∷◌, ◌++◌, Some, refl, sym, ap, ◌∙◌, subst, append_assoc, append-nil}
use Rattle.std.proofs.lemmas.List.{map-append}
use Rattle.reflect_wire.specs.Faults.{VarintFault}
use Rattle.reflect_wire.specs.Reads.{Fronts, NoFront}
use Rattle.reflect_wire.specs.Records.{Payload, varint}
use Rattle.reflect_wire.specs.Varint.{IsVarint}
use Rattle.reflect_wire.specs.declared.wire_error.WireError.{WireError}
use Rattle.reflect_wire.specs.declared.wire_error.WireError.TheVariants.{Truncated, BadVarint, BadWireType, BadUtf8}
use Rattle.reflect_wire.specs.declared.wire_key.WireType.TheVariants.{Varint}
use Rattle.reflect_pool.specs.declared.kind.Kind.{Kind}
use Rattle.reflect_pool.specs.declared.kind.Kind.TheVariants as kinds
use Rattle.reflect_scalar.specs.Kinds.{wire_type}
use Rattle.reflect_scalar.specs.Meaning.{IsNoText, IsPlainPayload, IsScalar, IsUnread, StandsFor, MeaningFault, PlainFault, ScalarFault}
use Rattle.reflect_scalar.specs.Singles.{Single}
use Rattle.reflect_scalar.proofs.ReadBack.{one_value}
use Rattle.reflect_decode.specs.Packed.{IsPacked, Continues}
use Rattle.reflect_message.specs.Singles.{single}
use Rattle.reflect_message.specs.Names.{Value}

pub continued : (old new : List Value) (vs : List Single) (value : Value) (v : Single) → Continues old new vs → single value ≡ Some v → Continues old (new ++ value ∷ []) (vs ++ v ∷ [])
continued old new vs value v h e =
    (h.0 ++ value ∷ [], ap (λ l. l ++ value ∷ []) h.1 ∙ append_assoc old h.0 (value ∷ []), cc (map-append single h.0 (value ∷ []), h.2, e, map-append Some vs (v ∷ [])))

behind_nothing : (a b : List ℕ) → [] ≡ a ++ b → b ≡ []
behind_nothing [] b e = sym e
behind_nothing (x ∷ a) b e = absurd (cc (e))

unread_no_number : (kind : Kind) → IsUnread kind → wire_type kind ≡ Varint → ⊥
unread_no_number kinds.Double unread is = absurd (cc (is))
unread_no_number kinds.Float unread is = absurd (cc (is))
unread_no_number (kinds.Message m) unread is = absurd (cc (is))
unread_no_number kind unread is = absurd unread

numbers_no_text : (kind : Kind) (n : ℕ) → IsNoText kind (varint n) → ⊥
numbers_no_text kinds.String n none = none
numbers_no_text kind n none = absurd none

module _ (kind : Kind) where
  packed_push : (front next : List ℕ) (vs : List Single) (v : Single) → IsPacked kind front vs → IsScalar kind (wire_type kind) next v → IsPacked kind (front ++ next) (vs ++ v ∷ [])
  packed_push front next [] v h s = (next, [], s, refl, ap (λ f. f ++ next) h ∙ sym (append-nil next))
  packed_push front next (w ∷ vs) v h s = (h.0, h.1 ++ next, h.2, packed_push h.1 next vs v h.3 s, ap (λ f. f ++ next) h.4 ∙ append_assoc h.0 h.1 next)

  pub one_more : (bytes rest behind : List ℕ) (vs : List Single) (v : Single) → Fronts (IsPacked kind) bytes vs rest → Fronts (IsScalar kind (wire_type kind)) rest v behind → Fronts (IsPacked kind) bytes (vs ++ v ∷ []) behind
  one_more bytes rest behind vs v found next =
      (found.0 ++ next.0, packed_push found.0 next.0 vs v found.1 next.1, found.2 ∙ ap (λ r. found.0 ++ r) next.2 ∙ sym (append_assoc found.0 next.0 behind))

  -- of a kind that is written as varints, a value stands at the front exactly where a number does
  module _ (is : wire_type kind ≡ Varint) where
    pub scalar_of_varint : (bytes rest : List ℕ) (n : ℕ) (v : Single) → Fronts IsVarint bytes n rest → StandsFor kind (varint n) v → Fronts (IsScalar kind (wire_type kind)) bytes v rest
    scalar_of_varint bytes rest n v found means = (found.0, (varint n, (is, found.1), means), found.2)

    no_payload : (bytes front rest : List ℕ) (p : Payload) → NoFront IsVarint bytes → IsPlainPayload (wire_type kind) front p → bytes ≡ front ++ rest → ⊥
    no_payload bytes front rest (varint n) none h e = none front rest n h.1 e
    no_payload bytes front rest p none h e = absurd (cc (is, h.0))

    pub no_scalar : (bytes : List ℕ) → NoFront IsVarint bytes → NoFront (IsScalar kind (wire_type kind)) bytes
    no_scalar bytes none front rest v h e = no_payload bytes front rest h.0 none h.1 e

    pub number_fault : (bytes : List ℕ) (e : WireError) → VarintFault 10 bytes e → ScalarFault kind (wire_type kind) bytes e
    number_fault bytes Truncated fault = (refl, subst (λ w. PlainFault w bytes Truncated) (sym is) fault)
    number_fault bytes BadVarint fault = (refl, subst (λ w. PlainFault w bytes BadVarint) (sym is) fault)
    number_fault bytes e fault = absurd fault

    -- each number means a value of the kind
    pub means_something : (n : ℕ) (e : WireError) → MeaningFault kind (varint n) e → ⊥
    means_something n BadWireType (inl other) = other (sym is)
    means_something n BadWireType (inr unread) = unread_no_number kind unread is
    means_something n BadUtf8 none = numbers_no_text kind n none
    means_something n e none = absurd none

  none_whole : (front rest bytes : List ℕ) (done vs : List Single) → IsPacked kind front done → rest ≢ [] → NoFront (IsScalar kind (wire_type kind)) rest → bytes ≡ front ++ rest → IsPacked kind bytes vs → ⊥
  none_whole front rest bytes [] [] h some none e k = some (cc (h, k, e))
  none_whole front rest bytes [] (v ∷ vs) h some none e k = none k.0 k.1 v k.2 (cc (h, k.4, e))
  none_whole front rest bytes (w ∷ done) [] h some none e k = some (behind_nothing front rest (sym k ∙ e))
  none_whole front rest bytes (w ∷ done) (v ∷ vs) h some none e k =
      let one = one_value kind (wire_type kind) h.0 k.0 (h.1 ++ rest) k.1 w v h.2 k.2 (cc (h.4, e, k.4, append_assoc h.0 h.1 rest)) in
      none_whole h.1 rest k.1 done vs h.3 some none (sym one.2) k.3

  -- where no value stands behind those that were read, the bytes are no row of values
  pub no_row : (bytes rest : List ℕ) (done : List Single) → Fronts (IsPacked kind) bytes done rest → rest ≢ [] → NoFront (IsScalar kind (wire_type kind)) rest → (vs : List Single) → IsPacked kind bytes vs → ⊥
  no_row bytes rest done found some none vs k = none_whole found.0 rest bytes done vs found.1 some none found.2 k
