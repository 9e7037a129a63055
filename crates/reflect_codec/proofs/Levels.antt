-- Message types that are read, one level at a time.
use Rattle.std.proofs.Common.{◌≡◌, ◌⊎◌, inl, inr, ℕ, zero, suc, ◌-◌, ◌<◌, List, subst, arith, rules}
use Rattle.descriptor_records.specs.declared.message.DescriptorProto.{DescriptorProto}
use Rattle.descriptor_records.specs.declared.message.DescriptorProto.TheOpen.{DescriptorProto-F}
use Rattle.descriptor_records.specs.declared.message.DescriptorProto.TheViews.{out-DescriptorProto, roll-DescriptorProto, the_lemmas}
use Rattle.reflect_wire.specs.declared.wire_error.WireError.{WireError}
use Rattle.reflect_codec.specs.Faults.{PartFault, InLevel, MessageFault}
use Rattle.reflect_codec.specs.Meaning.{IsLevel, IsMessage}
use Rattle.reflect_codec.specs.Reading.{Value, Field, IsPartBelow}

-- a message type below so many levels, with those that may lie below it
abbrev pub IsOpened : ℕ → Value → DescriptorProto → Type 0
IsOpened levels v m = (fs : List Field) × IsPartBelow levels (levels - 1) v fs × IsLevel (IsMessage (levels - 1)) (levels - 1) fs (out-DescriptorProto m)

pub message_opens : (levels : ℕ) (v : Value) (m : DescriptorProto) → IsMessage levels v m → IsOpened levels v m
message_opens zero v m h = absurd h
message_opens (suc k) v m h =
    let e : k ≡ suc k - 1 = omega arith in
    subst (λ j. (fs : List Field) × IsPartBelow (suc k) j v fs × IsLevel (IsMessage j) j fs (out-DescriptorProto m)) e h

pub message_closes : (levels : ℕ) (v : Value) (m : DescriptorProto) → IsOpened levels v m → IsMessage levels v m
message_closes zero v m h = let none : 0 < 0 = h.1.1.0 in absurd (omega (arith, none))
message_closes (suc k) v m h =
    let e : suc k - 1 ≡ k = omega arith in
    subst (λ j. (fs : List Field) × IsPartBelow (suc k) j v fs × IsLevel (IsMessage j) j fs (out-DescriptorProto m)) e h

-- why a message type is refused below so many levels
abbrev pub OpenedFault : ℕ → Value → WireError → Type 0
OpenedFault levels v e = PartFault levels (levels - 1) v e ⊎ ((fs : List Field) × IsPartBelow levels (levels - 1) v fs × InLevel (MessageFault (levels - 1)) (levels - 1) fs e)

pub fault_closes : (levels : ℕ) (v : Value) (e : WireError) → OpenedFault levels v e → MessageFault levels v e
fault_closes zero v e (inl (inl place)) = place
fault_closes zero v e (inl (inr part)) = let none : 0 < 0 = part.1.0 in absurd (omega (arith, none))
fault_closes zero v e (inr h) = let none : 0 < 0 = h.1.1.0 in absurd (omega (arith, none))
fault_closes (suc k) v e h =
    let less : suc k - 1 ≡ k = omega arith in
    subst (λ j. PartFault (suc k) j v e ⊎ ((fs : List Field) × IsPartBelow (suc k) j v fs × InLevel (MessageFault j) j fs e)) less h

pub level_rolls : (inner : Value → DescriptorProto → Type 0) (levels : ℕ) (fs : List Field) (x : DescriptorProto-F DescriptorProto) → IsLevel inner levels fs x → IsLevel inner levels fs (out-DescriptorProto (roll-DescriptorProto x))
level_rolls inner levels fs x h = let e : x ≡ out-DescriptorProto (roll-DescriptorProto x) = search (rules, the_lemmas) in subst (IsLevel inner levels fs) e h
