-- What a value is written as means that value, and no other.
use Rattle.std.proofs.Common.{◌≡◌, ℕ, ℤ, pos, negsuc, ◌<◌, ◌^◌, List, ◌++◌, refl, sym, ap, ◌∙◌, subst, arith, IfSome, Option, Some, None, FitsSigned, true, false}
use Rattle.std.specs.Prelude.{option_map, is_some}
use Rattle.std.specs.Int.{w32, w64}
use Rattle.std.proofs.lemmas.Int.{to_z-of_z}
use Rattle.std.proofs.Math.Nat.{mod-eq_of_lt}
use Rattle.reflect_wire.specs.Records.{Payload, varint, fixed64, delimited, group, fixed32, SpellsPayload}
use Rattle.reflect_wire.specs.Written.{FitsPayload}
use Rattle.reflect_wire.specs.declared.wire_key.WireType.{WireType}
use Rattle.reflect_wire.proofs.Signed.{extended_back, extended_fits, fits32, fits64}
use Rattle.reflect_wire.proofs.Spelling.{payload_spelled}
use Rattle.reflect_wire.proofs.Unique.{one_payload}
use Rattle.reflect_pool.specs.declared.kind.Kind.{Kind}
use Rattle.reflect_pool.specs.declared.kind.Kind.TheVariants as kinds
use Rattle.reflect_scalar.specs.declared.scalar.WireScalar.{WireScalar}
use Rattle.reflect_scalar.specs.Kinds.{wire_type, suits}
use Rattle.reflect_scalar.specs.Meaning.{StandsFor, IsScalar, zigzag}
use Rattle.reflect_scalar.specs.Singles.{Single, truth, int32, int64, uint32, uint64, text, blob, enumerated, wire_view}
use Rattle.reflect_scalar.specs.Written.{written, plain_bytes, Fits, IsReadAs}
use Rattle.reflect_scalar.proofs.Meanings.{form_of_meaning}

plain_spelled : (p : Payload) → FitsPayload 0 p → SpellsPayload 0 0 (plain_bytes p) p
plain_spelled (varint n) h = payload_spelled 0 1 (varint n) (omega arith) (omega arith) h
plain_spelled (fixed64 n) h = payload_spelled 0 1 (fixed64 n) (omega arith) (omega arith) h
plain_spelled (delimited p) h = payload_spelled 0 1 (delimited p) (omega arith) (omega arith) h
plain_spelled (group rs) h = absurd (omega (arith, h.0))
plain_spelled (fixed32 n) h = payload_spelled 0 1 (fixed32 n) (omega arith) (omega arith) h

zigzag32_fits : (z : ℤ) → FitsSigned w32 z → zigzag z < 2 ^ 32
zigzag32_fits (pos n) f = let s = f.sfits in omega arith
zigzag32_fits (negsuc n) f = let s = f.sfits in omega arith

zigzag64_fits : (z : ℤ) → FitsSigned w64 z → zigzag z < 2 ^ 64
zigzag64_fits (pos n) f = let s = f.sfits in omega arith
zigzag64_fits (negsuc n) f = let s = f.sfits in omega arith

one_zigzag : (y z : ℤ) → zigzag y ≡ zigzag z → y ≡ z
one_zigzag (pos m) (pos n) e = let same : m ≡ n = omega arith in ap pos same
one_zigzag (pos m) (negsuc n) e = absurd (omega arith)
one_zigzag (negsuc m) (pos n) e = absurd (omega arith)
one_zigzag (negsuc m) (negsuc n) e = let same : m ≡ n = omega arith in ap negsuc same

means_written : (kind : Kind) (v : Single) → Fits v → IfSome (written kind v) (λ p. FitsPayload 0 p × StandsFor kind p v)
means_written kinds.Int32 (int32 z) f = (extended_fits z f, ap int32 (sym (extended_back z f)))
means_written kinds.Int64 (int64 z) f = (fits64 z f, ap int64 (sym (to_z-of_z w64 z f)))
means_written kinds.Uint32 (uint32 n) f = (omega arith, ap uint32 (sym (mod-eq_of_lt f)))
means_written kinds.Uint64 (uint64 n) f = (f, refl)
means_written kinds.Sint32 (int32 z) f = let fits = zigzag32_fits z f in (omega arith, (z, mod-eq_of_lt fits, refl))
means_written kinds.Sint64 (int64 z) f = (zigzag64_fits z f, (z, refl, refl))
means_written kinds.Fixed32 (uint32 n) f = (f, refl)
means_written kinds.Fixed64 (uint64 n) f = (f, refl)
means_written kinds.Sfixed32 (int32 z) f = (fits32 z f, ap int32 (sym (to_z-of_z w32 z f)))
means_written kinds.Sfixed64 (int64 z) f = (fits64 z f, ap int64 (sym (to_z-of_z w64 z f)))
means_written kinds.Bool (truth true) f = (omega arith, refl)
means_written kinds.Bool (truth false) f = (omega arith, refl)
means_written (kinds.Enum e) (enumerated z) f = (extended_fits z f, ap enumerated (sym (extended_back z f)))
means_written kinds.String (text t) f = (f.1, (f.0, refl))
means_written kinds.Bytes (blob b) f = (f, refl)
means_written kind v f = tt

pub read_back : (kind : Kind) (v : Single) → Fits v → IfSome (written kind v) (λ p. IsScalar kind (wire_type kind) (plain_bytes p) v)
read_back kind v f = by (written kind v) (means_written kind v f) where
  by : (o : Option Payload) → IfSome o (λ p. FitsPayload 0 p × StandsFor kind p v) → IfSome o (λ p. IsScalar kind (wire_type kind) (plain_bytes p) v)
  by None h = tt
  by (Some p) h = (p, (sym (form_of_meaning kind p v h.1), plain_spelled p h.0), h.1)

pub read_written : (kind : Kind) (v : Single) (o : Option WireScalar) → Fits v → option_map wire_view o ≡ written kind v → IfSome o (IsReadAs kind v)
read_written kind v None f e = tt
read_written kind v (Some w) f e = subst (λ p. IfSome p (λ p. IsScalar kind (wire_type kind) (plain_bytes p) v)) (sym e) (read_back kind v f)

suits_where_written : (kind : Kind) (v : Single) → is_some (written kind v) ≡ suits kind v
suits_where_written kinds.Int32 (int32 z) = refl
suits_where_written kinds.Int64 (int64 z) = refl
suits_where_written kinds.Uint32 (uint32 n) = refl
suits_where_written kinds.Uint64 (uint64 n) = refl
suits_where_written kinds.Sint32 (int32 z) = refl
suits_where_written kinds.Sint64 (int64 z) = refl
suits_where_written kinds.Fixed32 (uint32 n) = refl
suits_where_written kinds.Fixed64 (uint64 n) = refl
suits_where_written kinds.Sfixed32 (int32 z) = refl
suits_where_written kinds.Sfixed64 (int64 z) = refl
suits_where_written kinds.Bool (truth b) = refl
suits_where_written (kinds.Enum e) (enumerated z) = refl
suits_where_written kinds.String (text t) = refl
suits_where_written kinds.Bytes (blob b) = refl
suits_where_written kind v = refl

pub written_suits : (kind : Kind) (v : Single) (o : Option WireScalar) → option_map wire_view o ≡ written kind v → is_some o ≡ suits kind v
written_suits kind v None e = ap is_some e ∙ suits_where_written kind v
written_suits kind v (Some w) e = ap is_some e ∙ suits_where_written kind v

one_meaning : (kind : Kind) (p : Payload) (v w : Single) → StandsFor kind p v → StandsFor kind p w → v ≡ w
one_meaning kinds.Int32 (varint n) v w h k = h ∙ sym k
one_meaning kinds.Int64 (varint n) v w h k = h ∙ sym k
one_meaning kinds.Uint32 (varint n) v w h k = h ∙ sym k
one_meaning kinds.Uint64 (varint n) v w h k = h ∙ sym k
one_meaning kinds.Sint32 (varint n) v w h k = h.2 ∙ ap int32 (one_zigzag h.0 k.0 (sym h.1 ∙ k.1)) ∙ sym k.2
one_meaning kinds.Sint64 (varint n) v w h k = h.2 ∙ ap int64 (one_zigzag h.0 k.0 (sym h.1 ∙ k.1)) ∙ sym k.2
one_meaning kinds.Bool (varint n) v w h k = h ∙ sym k
one_meaning (kinds.Enum e) (varint n) v w h k = h ∙ sym k
one_meaning kinds.Fixed32 (fixed32 n) v w h k = h ∙ sym k
one_meaning kinds.Sfixed32 (fixed32 n) v w h k = h ∙ sym k
one_meaning kinds.Fixed64 (fixed64 n) v w h k = h ∙ sym k
one_meaning kinds.Sfixed64 (fixed64 n) v w h k = h ∙ sym k
one_meaning kinds.String (delimited t) v w h k = h.1 ∙ sym k.1
one_meaning kinds.Bytes (delimited t) v w h k = h ∙ sym k
one_meaning kind p v w h k = absurd h

pub one_value : (kind : Kind) (wire : WireType) (a b x y : List ℕ) (v w : Single) → IsScalar kind wire a v → IsScalar kind wire b w → a ++ x ≡ b ++ y → (a ≡ b) × (v ≡ w) × (x ≡ y)
one_value kind wire a b x y v w h k e =
    let one = one_payload 0 0 a b x y h.0 k.0 (sym h.1.0 ∙ k.1.0) h.1.1 k.1.1 e in
    (one.0, one_meaning kind k.0 v w (subst (λ p. StandsFor kind p v) one.1 h.2) k.2, one.2)
