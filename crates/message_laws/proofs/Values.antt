-- Where a value is refused, none stands.
use Rattle.std.proofs.Common.{◌≡◌, inl, inr, ℕ, ◌≤◌, List, [], ◌∷◌, ◌++◌, length, sym, ap, ◌∙◌, subst, append_assoc, arith}
use Rattle.std.proofs.lemmas.List.{length-append}
use Rattle.reflect_wire.specs.Faults.{GoOn, VarintFault, KeyFault, DelimitedFault, FixedFault}
use Rattle.reflect_wire.specs.Key.{IsKey, IsDelimited, key_code}
use Rattle.reflect_wire.specs.Reads.{NoFront}
use Rattle.reflect_wire.specs.Records.{Payload, varint, fixed64, delimited, group, fixed32, wire_of, SpellsPayload}
use Rattle.reflect_wire.specs.Varint.{SpellsVarint, IsVarint}
use Rattle.reflect_wire.specs.declared.wire_error.WireError.{WireError}
use Rattle.reflect_wire.specs.declared.wire_error.WireError.TheVariants.{Truncated, BadVarint, BadKey, BadWireType, EndGroupMismatch, TooDeep, BadUtf8, Memory, TooLong}
use Rattle.reflect_wire.specs.declared.wire_key.WireType.{WireType}
use Rattle.reflect_wire.proofs.Keys.{no_key, no_payload}
use Rattle.reflect_wire.proofs.Varints.{one_form}
use Rattle.reflect_pool.specs.declared.kind.Kind.{Kind}
use Rattle.reflect_pool.specs.declared.kind.Kind.TheVariants as kinds
use Rattle.reflect_scalar.specs.Kinds.{wire_type}
use Rattle.reflect_scalar.specs.Meaning.{IsPlainPayload, IsScalar, PlainFault, ScalarFault}
use Rattle.reflect_scalar.specs.Singles.{Single}
use Rattle.reflect_scalar.proofs.Meanings.{form_of_meaning, meaning_refused, unread_means_nothing}
use Rattle.reflect_decode.specs.Packed.{IsPacked, PackedFault}
use Rattle.reflect_decode.proofs.Packing.{no_row}

-- bytes that go on end no number
goes_on : (bytes front rest : List ℕ) (n : ℕ) → GoOn bytes → SpellsVarint front n → bytes ≡ front ++ rest → ⊥
goes_on bytes [] rest n on h e = h
goes_on [] (b ∷ front) rest n on h e = absurd (cc e)
goes_on (c ∷ bytes) (b ∷ front) rest n on (inl last) e = let same : c ≡ b = cc in omega (arith, on.0, last.0, same)
goes_on (c ∷ bytes) (b ∷ front) rest n on (inr more) e = let tails : bytes ≡ front ++ rest = cc in goes_on bytes front rest more.1.0 on.1 more.1.2 tails

overlong : (long front x y : List ℕ) (n : ℕ) → GoOn long → length front ≤ length long → SpellsVarint front n → long ++ x ≡ front ++ y → ⊥
overlong long [] x y n on short h e = h
overlong [] (b ∷ front) x y n on short h e = omega (arith, short)
overlong (c ∷ long) (b ∷ front) x y n on short (inl last) e = let same : c ≡ b = cc in omega (arith, on.0, last.0, same)
overlong (c ∷ long) (b ∷ front) x y n on short (inr more) e = let tails : long ++ x ≡ front ++ y = cc in overlong long front x y more.1.0 on.1 (omega (arith, short)) more.1.2 tails

pub no_varint : (bytes : List ℕ) (e : WireError) → VarintFault 10 bytes e → NoFront IsVarint bytes
no_varint bytes Truncated fault front rest n h is = goes_on bytes front rest n fault.0 h.spelled is
no_varint bytes BadVarint (inl long) front rest n h is = let s = h.short in overlong long.0 front long.1 rest n long.2 (omega (arith, long.3, s)) h.spelled (sym long.4 ∙ is)
no_varint bytes BadVarint (inr large) front rest n h is =
    let one = one_form large.0 front large.1 rest large.2.0 n large.2.1 h.spelled (sym large.2.3 ∙ is) in
    let s = h.fits in
    omega (arith, one.1, large.2.2, s)
no_varint bytes e fault front rest n h is = absurd fault

pub no_key_there : (bytes : List ℕ) (e : WireError) → KeyFault bytes e → NoFront IsKey bytes
no_key_there bytes BadKey fault = no_key bytes fault.1.0 fault.0 fault.1.1 fault.1.2
no_key_there bytes Truncated fault = λ front rest key h is. no_varint bytes Truncated fault front rest (key_code key) h.spelled is
no_key_there bytes BadVarint fault = λ front rest key h is. no_varint bytes BadVarint fault front rest (key_code key) h.spelled is
no_key_there bytes e fault = absurd fault

no_length : (bytes : List ℕ) (e : WireError) → VarintFault 10 bytes e → NoFront IsDelimited bytes
no_length bytes e fault front rest p h is = no_varint bytes e fault h.0 (p ++ rest) (length p) h.1 (is ∙ ap (λ f. f ++ rest) h.2 ∙ append_assoc h.0 p rest)

pub no_delimited_there : (bytes : List ℕ) (e : WireError) → DelimitedFault bytes e → NoFront IsDelimited bytes
no_delimited_there bytes Truncated (inl fault) = no_length bytes Truncated fault
no_delimited_there bytes Truncated (inr short) = no_payload bytes short.1.0 short.0 short.1.1 short.1.2
no_delimited_there bytes BadVarint fault = no_length bytes BadVarint fault
no_delimited_there bytes e fault = absurd fault

too_short : (size : ℕ) (bytes front rest : List ℕ) (e : WireError) → FixedFault size bytes e → length front ≡ size → bytes ≡ front ++ rest → ⊥
too_short size bytes front rest Truncated fault long is = omega (arith, fault, long, ap length is, length-append front rest)
too_short size bytes front rest e fault long is = absurd fault

no_payload_there : (bytes front rest : List ℕ) (e : WireError) (p : Payload) → PlainFault (wire_of p) bytes e → SpellsPayload 0 0 front p → bytes ≡ front ++ rest → ⊥
no_payload_there bytes front rest e (varint n) fault h is = no_varint bytes e fault front rest n h is
no_payload_there bytes front rest e (fixed64 n) fault h is = too_short 8 bytes front rest e fault h.0 is
no_payload_there bytes front rest e (delimited p) fault h is = no_delimited_there bytes e fault front rest p h is
no_payload_there bytes front rest e (group rs) fault h is = omega (arith, h.0)
no_payload_there bytes front rest e (fixed32 n) fault h is = too_short 4 bytes front rest e fault h.0 is

no_plain : (wire : WireType) (bytes : List ℕ) (e : WireError) → PlainFault wire bytes e → NoFront (IsPlainPayload wire) bytes
no_plain wire bytes e fault front rest p h is = no_payload_there bytes front rest e p (subst (λ w. PlainFault w bytes e) h.0 fault) h.1 is

plain_refused : (kind : Kind) (wire : WireType) (bytes : List ℕ) (e : WireError) → PlainFault wire bytes e → NoFront (IsScalar kind wire) bytes
plain_refused kind wire bytes e fault front rest v h is = no_plain wire bytes e fault front rest h.0 h.1 is

pub no_scalar_there : (kind : Kind) (wire : WireType) (bytes : List ℕ) (e : WireError) → ScalarFault kind wire bytes e → NoFront (IsScalar kind wire) bytes
no_scalar_there kind wire bytes BadWireType (inl other) = λ front rest v h is. other (h.1.0 ∙ form_of_meaning kind h.0 v h.2)
no_scalar_there kind wire bytes BadWireType (inr none) = λ front rest v h is. unread_means_nothing kind h.0 v none h.2
no_scalar_there kind wire bytes BadUtf8 fault = meaning_refused kind wire bytes fault.1.1.0 fault.1.0 fault.1.1.1 BadUtf8 fault.1.1.2
no_scalar_there kind wire bytes Truncated fault = plain_refused kind wire bytes Truncated fault.1
no_scalar_there kind wire bytes BadVarint fault = plain_refused kind wire bytes BadVarint fault.1
no_scalar_there kind wire bytes BadKey fault = plain_refused kind wire bytes BadKey fault.1
no_scalar_there kind wire bytes EndGroupMismatch fault = plain_refused kind wire bytes EndGroupMismatch fault.1
no_scalar_there kind wire bytes TooDeep fault = plain_refused kind wire bytes TooDeep fault.1
no_scalar_there kind wire bytes Memory fault = plain_refused kind wire bytes Memory fault.1
no_scalar_there kind wire bytes TooLong fault = plain_refused kind wire bytes TooLong fault.1

pub no_packed_there : (kind : Kind) (body : List ℕ) (e : WireError) → PackedFault kind body e → (vs : List Single) → IsPacked kind body vs → ⊥
no_packed_there kind body e fault vs h = no_row kind body fault.1.0 fault.0 fault.1.1 fault.1.2 (no_scalar_there kind (wire_type kind) fault.1.0 e fault.1.3) vs h
