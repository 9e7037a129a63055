-- Kinds of single values, in the pool's words and in the model's.
use Rattle.std.proofs.Common.{◌≡◌, ℕ, ℤ, pos, negsuc, ◌+◌, ◌-◌, ◌*◌, ◌^◌, ◌<◌, [], ◌∷◌, refl, sym, ap, ◌∙◌, subst, arith}
use Rattle.std.proofs.Math.Facts.{sfits_to_z}
use Rattle.reflect_pool.specs.declared.kind.Kind.{Kind}
use Rattle.reflect_pool.specs.declared.kind.Kind.TheVariants as publics
use Rattle.reflect_wire.specs.Records.{Payload, varint, fixed64, delimited, fixed32}
use Rattle.reflect_wire.specs.Written.{FitsPayload}
use Rattle.reflect_scalar.specs.Kinds.{kind_type}
use Rattle.reflect_scalar.specs.Meaning.{StandsFor}
use Rattle.reflect_scalar.specs.Meaning as means
use Rattle.reflect_scalar.specs.Singles as held
use Rattle.protobuf_model.specs.Values.{int32, int64}
use Rattle.protobuf_model.specs.Types as kinds
use Rattle.protobuf_model.specs.Scalars.{unzigzag, low, meant, Suits}
use Rattle.protobuf_model.specs.Scalars as scalars
use Rattle.protobuf_model.proofs.Singles.{zigzag_back}
use Rattle.message_view.specs.Singles.{scalar_of, single_view}

pub zigzag_same : (z : ℤ) → means.zigzag z ≡ scalars.zigzag z
zigzag_same (pos n) = refl
zigzag_same (negsuc n) = let e : 2 * (n + 1) - 1 ≡ 2 * n + 1 = omega arith in e

signed_back : (n : ℕ) (z : ℤ) → n ≡ means.zigzag z → unzigzag n ≡ z
signed_back n z e = ap unzigzag (e ∙ zigzag_same z) ∙ zigzag_back z

-- what a payload means, in the model's words
pub meant_is : (kind : Kind) (p : Payload) (v : held.Single) → StandsFor kind p v → meant (scalar_of (kind_type kind)) p ≡ single_view v ∷ []
meant_is publics.Int32 (varint n) v h = ap (λ v. single_view v ∷ []) (sym h)
meant_is publics.Int64 (varint n) v h = ap (λ v. single_view v ∷ []) (sym h)
meant_is publics.Uint32 (varint n) v h = ap (λ v. single_view v ∷ []) (sym h)
meant_is publics.Uint64 (varint n) v h = ap (λ v. single_view v ∷ []) (sym h)
meant_is publics.Sint32 (varint n) v h = ap (λ z. int32 z ∷ []) (signed_back (low n) h.0 h.1) ∙ ap (λ v. single_view v ∷ []) (sym h.2)
meant_is publics.Sint64 (varint n) v h = ap (λ z. int64 z ∷ []) (signed_back n h.0 h.1) ∙ ap (λ v. single_view v ∷ []) (sym h.2)
meant_is publics.Bool (varint n) v h = ap (λ v. single_view v ∷ []) (sym h)
meant_is (publics.Enum e) (varint n) v h = ap (λ v. single_view v ∷ []) (sym h)
meant_is publics.Fixed32 (fixed32 n) v h = ap (λ v. single_view v ∷ []) (sym h)
meant_is publics.Sfixed32 (fixed32 n) v h = ap (λ v. single_view v ∷ []) (sym h)
meant_is publics.Fixed64 (fixed64 n) v h = ap (λ v. single_view v ∷ []) (sym h)
meant_is publics.Sfixed64 (fixed64 n) v h = ap (λ v. single_view v ∷ []) (sym h)
meant_is publics.String (delimited t) v h = ap (λ v. single_view v ∷ []) (sym h.1)
meant_is publics.Bytes (delimited b) v h = ap (λ v. single_view v ∷ []) (sym h)
meant_is kind p v h = absurd h

low_small : (n : ℕ) → low n < 2 ^ 32
low_small n = omega arith

-- and the value is one of the kind, where the payload fits its form
pub suits_is : (kind : Kind) (p : Payload) (v : held.Single) (levels : ℕ) → StandsFor kind p v → FitsPayload levels p → Suits (scalar_of (kind_type kind)) (single_view v)
suits_is publics.Int32 (varint n) v levels h f = subst (λ v. Suits kinds.int32 (single_view v)) (sym h) (sfits_to_z (record { fits = low_small n }))
suits_is publics.Int64 (varint n) v levels h f = subst (λ v. Suits kinds.int64 (single_view v)) (sym h) (sfits_to_z (record { fits = f }))
suits_is publics.Uint32 (varint n) v levels h f = subst (λ v. Suits kinds.uint32 (single_view v)) (sym h) (low_small n)
suits_is publics.Uint64 (varint n) v levels h f = subst (λ v. Suits kinds.uint64 (single_view v)) (sym h) f
suits_is publics.Sint32 (varint n) v levels h f = subst (λ v. Suits kinds.sint32 (single_view v)) (sym h.2) (narrow h.0 (subst (λ m. m < 2 ^ 32) h.1 (low_small n))) where
  narrow : (z : ℤ) → means.zigzag z < 2 ^ 32 → Suits kinds.sint32 (int32 z)
  narrow (pos n) lt = record { sfits = omega (arith, lt) }
  narrow (negsuc n) lt = record { sfits = omega (arith, lt) }
suits_is publics.Sint64 (varint n) v levels h f = subst (λ v. Suits kinds.sint64 (single_view v)) (sym h.2) (wide h.0 (subst (λ m. m < 2 ^ 64) h.1 f)) where
  wide : (z : ℤ) → means.zigzag z < 2 ^ 64 → Suits kinds.sint64 (int64 z)
  wide (pos n) lt = record { sfits = omega (arith, lt) }
  wide (negsuc n) lt = record { sfits = omega (arith, lt) }
suits_is publics.Bool (varint n) v levels h f = subst (λ v. Suits kinds.bool (single_view v)) (sym h) tt
suits_is (publics.Enum e) (varint n) v levels h f = subst (λ v. Suits kinds.enumeration (single_view v)) (sym h) (sfits_to_z (record { fits = low_small n }))
suits_is publics.Fixed32 (fixed32 n) v levels h f = subst (λ v. Suits kinds.fixed32 (single_view v)) (sym h) f
suits_is publics.Sfixed32 (fixed32 n) v levels h f = subst (λ v. Suits kinds.sfixed32 (single_view v)) (sym h) (sfits_to_z (record { fits = f }))
suits_is publics.Fixed64 (fixed64 n) v levels h f = subst (λ v. Suits kinds.fixed64 (single_view v)) (sym h) f
suits_is publics.Sfixed64 (fixed64 n) v levels h f = subst (λ v. Suits kinds.sfixed64 (single_view v)) (sym h) (sfits_to_z (record { fits = f }))
suits_is publics.String (delimited t) v levels h f = subst (λ v. Suits kinds.string (single_view v)) (sym h.1) h.0
suits_is publics.Bytes (delimited b) v levels h f = subst (λ v. Suits kinds.bytes (single_view v)) (sym h) tt
suits_is kind p v levels h f = absurd h
