-- Keys and lengths at a front.
use Rattle.std.proofs.Common.{◌≡◌, ℕ, ◌<◌, ◌≤◌, ◌+◌, ◌*◌, ◌/◌, ◌%◌, ◌^◌, List, ◌++◌, length, refl, sym, ap, ◌∙◌, subst, append_assoc, length-append, arith}
use Rattle.reflect_wire.specs.Reads.{Fronts, NoFront}
use Rattle.reflect_wire.specs.Varint.{IsVarint}
use Rattle.reflect_wire.specs.Key.{IsKey, IsDelimited, code_of}
use Rattle.reflect_wire.specs.declared.wire_key.WireKey.{WireKey}
use Rattle.reflect_wire.specs.declared.wire_key.WireType.{WireType}
use Rattle.reflect_wire.specs.declared.wire_key.WireType.TheVariants.{Varint, SixtyFourBit, LengthDelimited, StartGroup, EndGroup, ThirtyTwoBit}
use Rattle.reflect_wire.proofs.Varints.{varint_then}

pub code_small : (w : WireType) → code_of w < 6
code_small Varint = omega arith
code_small SixtyFourBit = omega arith
code_small LengthDelimited = omega arith
code_small StartGroup = omega arith
code_small EndGroup = omega arith
code_small ThirtyTwoBit = omega arith

-- a number that is no key's, at the front
pub no_key : (bytes behind : List ℕ) (n : ℕ) → Fronts IsVarint bytes n behind → ((key : WireKey) → 0 < key.number → key.number < 2 ^ 29 → n ≡ 8 * key.number + code_of key.wire → ⊥) → NoFront IsKey bytes
no_key bytes behind n found none front more key h e = none key h.some h.small ((varint_then bytes front behind more n _ 10 found h.spelled e).0)

-- six and seven are no form of a value
pub no_form : (n : ℕ) (key : WireKey) → 6 ≤ n % 8 → n ≡ 8 * key.number + code_of key.wire → ⊥
no_form n key h e = omega (arith, code_small key.wire)

pub number_of : (n : ℕ) (key : WireKey) → n ≡ 8 * key.number + code_of key.wire → n / 8 ≡ key.number
number_of n key e = omega (arith, code_small key.wire)

-- a length that is not there
pub no_payload : (bytes behind : List ℕ) (n : ℕ) → Fronts IsVarint bytes n behind → length behind < n → NoFront IsDelimited bytes
no_payload bytes behind n found short front more payload h e =
    let one = varint_then bytes h.0 behind (payload ++ more) n (length payload) 10 found h.1 (e ∙ ap (λ f. f ++ more) h.2 ∙ append_assoc h.0 payload more) in
    omega (arith, one.0, ap length one.1, length-append payload more)

pub payload_there : (bytes behind payload more : List ℕ) (n : ℕ) → Fronts IsVarint bytes n behind → behind ≡ payload ++ more → length payload ≡ n → Fronts IsDelimited bytes payload more
payload_there bytes behind payload more n found is long =
    (found.0 ++ payload, (found.0, subst (IsVarint found.0) (sym long) found.1, refl), found.2 ∙ ap (λ b. found.0 ++ b) is ∙ sym (append_assoc found.0 payload more))
