-- What a payload means, and what is read where it means nothing.
use Rattle.std.proofs.Common.{◌≡◌, inl, inr, ℕ, List, refl, sym, ◌∙◌, subst}
use Rattle.reflect_wire.specs.Reads.{Fronts, NoFront, RefusesFront}
use Rattle.reflect_wire.specs.Records.{Payload, varint, fixed64, delimited, fixed32, wire_of}
use Rattle.reflect_wire.specs.declared.wire_error.WireError.{WireError}
use Rattle.reflect_wire.specs.declared.wire_error.WireError.TheVariants.{BadWireType, BadUtf8}
use Rattle.reflect_wire.specs.declared.wire_key.WireType.{WireType}
use Rattle.reflect_pool.specs.declared.kind.Kind.{Kind}
use Rattle.reflect_pool.specs.declared.kind.Kind.TheVariants as kinds
use Rattle.reflect_wire.proofs.Unique.{one_payload}
use Rattle.reflect_scalar.specs.Kinds.{wire_type}
use Rattle.reflect_scalar.specs.Singles.{Single}
use Rattle.reflect_scalar.specs.Meaning.{StandsFor, MeaningFault, IsUnread, IsNoText, IsPlainPayload, IsScalar}

pub form_of_meaning : (kind : Kind) (p : Payload) (v : Single) → StandsFor kind p v → wire_of p ≡ wire_type kind
form_of_meaning kinds.Int32 (varint n) v h = refl
form_of_meaning kinds.Int64 (varint n) v h = refl
form_of_meaning kinds.Uint32 (varint n) v h = refl
form_of_meaning kinds.Uint64 (varint n) v h = refl
form_of_meaning kinds.Sint32 (varint n) v h = refl
form_of_meaning kinds.Sint64 (varint n) v h = refl
form_of_meaning kinds.Bool (varint n) v h = refl
form_of_meaning (kinds.Enum e) (varint n) v h = refl
form_of_meaning kinds.Fixed32 (fixed32 n) v h = refl
form_of_meaning kinds.Sfixed32 (fixed32 n) v h = refl
form_of_meaning kinds.Fixed64 (fixed64 n) v h = refl
form_of_meaning kinds.Sfixed64 (fixed64 n) v h = refl
form_of_meaning kinds.String (delimited n) v h = refl
form_of_meaning kinds.Bytes (delimited n) v h = refl
form_of_meaning kind p v h = absurd h

pub unread_means_nothing : (kind : Kind) (p : Payload) (v : Single) → IsUnread kind → StandsFor kind p v → ⊥
unread_means_nothing kinds.Double p v u h = h
unread_means_nothing kinds.Float p v u h = h
unread_means_nothing (kinds.Message m) p v u h = h
unread_means_nothing kind p v u h = absurd u

no_text_means_nothing : (kind : Kind) (p : Payload) (v : Single) → IsNoText kind p → StandsFor kind p v → ⊥
no_text_means_nothing kinds.String (delimited t) v none h = none h.0
no_text_means_nothing kind p v none h = absurd none

means_nothing : (kind : Kind) (p : Payload) (v : Single) (e : WireError) → MeaningFault kind p e → StandsFor kind p v → ⊥
means_nothing kind p v BadWireType (inl other) h = other (form_of_meaning kind p v h)
means_nothing kind p v BadWireType (inr unread) h = unread_means_nothing kind p v unread h
means_nothing kind p v BadUtf8 none h = no_text_means_nothing kind p v none h
means_nothing kind p v e none h = absurd none

module _ (kind : Kind) (wire : WireType) (bytes rest : List ℕ) (p : Payload) (found : Fronts (IsPlainPayload wire) bytes p rest) where
  none_meant : (e : WireError) → MeaningFault kind p e → NoFront (IsScalar kind wire) bytes
  none_meant e fault front more v h is =
      let one = one_payload 0 0 found.0 front rest more p h.0 (sym found.1.0 ∙ h.1.0) found.1.1 h.1.1 (sym found.2 ∙ is) in
      means_nothing kind p v e fault (subst (λ q. StandsFor kind q v) (sym one.1) h.2)

  pub meaning_refused : (e : WireError) → MeaningFault kind p e → RefusesFront (IsScalar kind wire) bytes e
  meaning_refused BadWireType fault = none_meant BadWireType fault
  meaning_refused BadUtf8 fault = none_meant BadUtf8 fault
  meaning_refused e fault = absurd fault
