-- What two public kinds of one type of the pool read.
use Rattle.std.proofs.Common.{◌≡◌, ℕ, List, [], ◌∷◌, refl, sym, ap, ◌∙◌, subst}
use Rattle.reflect_tables.specs.Types.{PoolType, KindType, double, float, fixed32, fixed64, sfixed32, sfixed64, string, bytes, message}
use Rattle.reflect_pool.specs.Kinds.{IsKind}
use Rattle.reflect_pool.specs.declared.enums.EnumDescriptor.{EnumDescriptor}
use Rattle.reflect_pool.specs.declared.kind.Kind.{Kind}
use Rattle.reflect_pool.specs.declared.kind.Kind.TheVariants as kinds
use Rattle.reflect_wire.specs.Records.{Payload, varint, fixed64, group, fixed32, SpellsPayload}
use Rattle.reflect_wire.specs.declared.wire_key.WireType.{WireType}
use Rattle.reflect_wire.specs.declared.wire_key.WireType.TheVariants as wires
use Rattle.reflect_scalar.specs.Kinds.{kind_type, wire_type}
use Rattle.reflect_scalar.specs.Meaning.{StandsFor, IsScalar}
use Rattle.reflect_scalar.specs.Singles.{Single}
use Rattle.reflect_scalar.proofs.Defaulted.{kind_is}
use Rattle.reflect_scalar.proofs.Meanings.{form_of_meaning}
use Rattle.reflect_decode.specs.Packed.{IsPacked}

pub same_type : (pool : PoolType) (t : KindType) (k l : Kind) → IsKind pool k t → IsKind pool l t → kind_type k ≡ kind_type l
same_type pool t k l is also = sym (kind_is pool k t is) ∙ kind_is pool l t also

-- the form that values of a type are written in
abbrev form_of_type : KindType → WireType
form_of_type double = wires.SixtyFourBit
form_of_type float = wires.ThirtyTwoBit
form_of_type fixed32 = wires.ThirtyTwoBit
form_of_type sfixed32 = wires.ThirtyTwoBit
form_of_type fixed64 = wires.SixtyFourBit
form_of_type sfixed64 = wires.SixtyFourBit
form_of_type string = wires.LengthDelimited
form_of_type bytes = wires.LengthDelimited
form_of_type (message i) = wires.LengthDelimited
form_of_type _ = wires.Varint

form_is : (k : Kind) → wire_type k ≡ form_of_type (kind_type k)
form_is kinds.Double = refl
form_is k = refl

pub same_form : (k l : Kind) → kind_type k ≡ kind_type l → wire_type k ≡ wire_type l
same_form k l e = form_is k ∙ ap form_of_type e ∙ sym (form_is l)

one_enum : (a b : EnumDescriptor) (p : Payload) (v : Single) → StandsFor (kinds.Enum a) p v → StandsFor (kinds.Enum b) p v
one_enum a b (varint n) v h = h
one_enum a b p v h = absurd h

pub same_meaning : (k l : Kind) (p : Payload) (v : Single) → kind_type k ≡ kind_type l → StandsFor l p v → StandsFor k p v
same_meaning kinds.Int32 kinds.Int32 p v e h = h
same_meaning kinds.Int64 kinds.Int64 p v e h = h
same_meaning kinds.Uint32 kinds.Uint32 p v e h = h
same_meaning kinds.Uint64 kinds.Uint64 p v e h = h
same_meaning kinds.Sint32 kinds.Sint32 p v e h = h
same_meaning kinds.Sint64 kinds.Sint64 p v e h = h
same_meaning kinds.Fixed32 kinds.Fixed32 p v e h = h
same_meaning kinds.Fixed64 kinds.Fixed64 p v e h = h
same_meaning kinds.Sfixed32 kinds.Sfixed32 p v e h = h
same_meaning kinds.Sfixed64 kinds.Sfixed64 p v e h = h
same_meaning kinds.Bool kinds.Bool p v e h = h
same_meaning kinds.String kinds.String p v e h = h
same_meaning kinds.Bytes kinds.Bytes p v e h = h
same_meaning kinds.Double kinds.Double p v e h = h
same_meaning kinds.Float kinds.Float p v e h = h
same_meaning (kinds.Enum a) (kinds.Enum b) p v e h = one_enum b a p v h
same_meaning k (kinds.Message m) p v e h = absurd h
same_meaning k l p v e h = absurd (cc e)

same_scalar : (k l : Kind) (w : WireType) (front : List ℕ) (v : Single) → kind_type k ≡ kind_type l → IsScalar l w front v → IsScalar k w front v
same_scalar k l w front v e h = (h.0, h.1, same_meaning k l h.0 v e h.2)

pub same_packed : (k l : Kind) (body : List ℕ) (vs : List Single) → kind_type k ≡ kind_type l → IsPacked l body vs → IsPacked k body vs
same_packed k l body [] e h = h
same_packed k l body (v ∷ vs) e h =
    let here = subst (λ w. IsScalar k w h.0 v) (sym (same_form k l e)) (same_scalar k l (wire_type l) h.0 v e h.2) in
    (h.0, h.1, here, same_packed k l h.1 vs e h.3, h.4)

no_group_form : (k : Kind) → wires.StartGroup ≡ wire_type k → ⊥
no_group_form kinds.Double e = cc
no_group_form kinds.Float e = cc
no_group_form k e = cc

-- what means a value is no group, and so is spelled at each level and under each number
pub plain : (k : Kind) (levels n : ℕ) (front : List ℕ) (p : Payload) (v : Single) → StandsFor k p v → SpellsPayload levels n front p → SpellsPayload 0 0 front p
plain k levels n front (group rs) v means h = absurd (no_group_form k (form_of_meaning k (group rs) v means))
plain k levels n front p v means h = h
