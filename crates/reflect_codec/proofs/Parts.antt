-- A value holds one payload, with one list of fields.
use Rattle.std.proofs.Common.{◌≡◌, ◌⊎◌, inr, ℕ, ℤ, List, [], ◌∷◌, Option, Some, None, Result, Ok, Err, Vec, Global, refl, sym, ap, ◌∙◌, subst}
use Rattle.std.specs.Prelude.{option_map, unsigned_abs, IfSome}
use Rattle.std.specs.List.{AllZip}
use Rattle.reflect_wire.proofs.Spelling.{one_list}
use Rattle.reflect_wire.specs.declared.wire_error.WireError.{WireError}
use Rattle.reflect_codec.specs.declared.fields.RawField.{RawField}
use Rattle.reflect_codec.specs.declared.fields.Fields.{Fields}
use Rattle.reflect_codec.specs.Faults.{BytesFault, PartFault}
use Rattle.reflect_codec.specs.Raw.{fields_view, MoreFields}
use Rattle.reflect_codec.specs.Reading.{Value, number, eight_bytes, payload, other, Field, fields_in, values_at, ReadsMeant, SpellsFields, IsPayload, HasPayload, IsPartBelow, AreJoined, joined, AlongOption}
use Rattle.reflect_codec.proofs.Values.{rejects}

pub one_payload : (v : Value) (a b : List ℕ) → IsPayload v a → IsPayload v b → a ≡ b
one_payload (payload p) a b h k = h ∙ sym k
one_payload (number n) a b h k = absurd h
one_payload (eight_bytes n) a b h k = absurd h
one_payload other a b h k = absurd h

pub one_fields : (levels : ℕ) (bytes : List ℕ) (fs gs : List Field) → SpellsFields levels bytes fs → SpellsFields levels bytes gs → fs ≡ gs
one_fields levels bytes fs gs h k = h.2 ∙ ap fields_in (one_list levels bytes h.0 k.0 h.1 k.1) ∙ sym k.2

pub one_part : (outside inside : ℕ) (v : Value) (fs gs : List Field) → IsPartBelow outside inside v fs → IsPartBelow outside inside v gs → fs ≡ gs
one_part outside inside v fs gs h k =
    one_fields inside h.0 fs gs h.2 (subst (λ bytes. SpellsFields inside bytes gs) (one_payload v k.0 h.0 k.1.1 h.1.1) k.2)

pub one_each : {A X : Type 0} (R : A → X → Type 0) → ((a : A) (x y : X) → R a x → R a y → x ≡ y) → (vs : List A) (xs ys : List X) → AllZip R vs xs → AllZip R vs ys → xs ≡ ys
one_each R one [] [] [] h k = refl
one_each R one [] [] (y ∷ ys) h k = absurd k
one_each R one [] (x ∷ xs) ys h k = absurd h
one_each R one (a ∷ vs) [] ys h k = absurd h
one_each R one (a ∷ vs) (x ∷ xs) [] h k = absurd k
one_each R one (a ∷ vs) (x ∷ xs) (y ∷ ys) h k = let first = one a x y h.0 k.0 in let rest = one_each R one vs xs ys h.1 k.1 in cc

-- the fields that were joined are the only ones
pub one_joined : (outside inside : ℕ) (vs : List Value) (f g : Option (List Field)) → AreJoined outside inside vs f → AreJoined outside inside vs g → f ≡ g
one_joined outside inside vs f g h k = h.2 ∙ ap joined (one_each (IsPartBelow outside inside) (one_part outside inside) vs h.0 k.0 h.1 k.1) ∙ sym k.2

some_along : {X : Type 0} (M : List Field → X → Type 0) (fs : List Field) (o : Option X) → AlongOption M (Some fs) o → (x : X) × M fs x
some_along M fs None h = absurd h
some_along M fs (Some x) h = (x, h)

-- what joined fields mean, they mean of the only ones there are
pub along_joined : {X : Type 0} (M : List Field → X → Type 0) (outside inside : ℕ) (vs : List Value) (fs : List Field) → AreJoined outside inside vs (Some fs) → (o : Option X) (g : Option (List Field))
    → AreJoined outside inside vs g → AlongOption M g o → (x : X) × M fs x
along_joined M outside inside vs fs found o g h along = some_along M fs o (subst (λ f. AlongOption M f o) (one_joined outside inside vs g (Some fs) h found) along)

-- the fields of a payload are those of the record that the value holds
pub part_read : (outside inside : ℕ) (old : List Field) (v : Value) (bytes : List ℕ) (r : Result (Vec RawField Global) WireError) → HasPayload outside v bytes → MoreFields (SpellsFields inside) (BytesFault inside) old bytes r
    → MoreFields (IsPartBelow outside inside) (PartFault outside inside) old v r
part_read outside inside old v bytes (Ok w) has h = (h.0, (bytes, has, h.1), h.2)
part_read outside inside old v bytes (Err e) has h =
    rejects (λ fs p. (fs, subst (λ b. SpellsFields inside b fs) (one_payload v p.0 bytes p.1.1 has.1) p.2)) (λ fault. inr (bytes, has, fault)) h

-- what is read of the only fields of a value is read of the value
pub whole_read : {X : Type 0} (M : List Field → X → Type 0) (F : List Field → WireError → Type 0) (outside inside : ℕ) (v : Value) (fs : List Field) (r : Result X WireError) → IsPartBelow outside inside v fs → ReadsMeant M F fs r
    → ReadsMeant (λ w x. (gs : List Field) × IsPartBelow outside inside w gs × M gs x) (λ w e. PartFault outside inside w e ⊎ ((gs : List Field) × IsPartBelow outside inside w gs × F gs e)) v r
whole_read M F outside inside v fs (Ok x) part h = (fs, part, h)
whole_read M F outside inside v fs (Err e) part h = rejects (λ x w. (x, subst (λ gs. M gs x) (one_part outside inside v w.0 fs w.1 part) w.2)) (λ fault. inr (fs, part, fault)) h

-- the same of bytes
pub bytes_read : {X : Type 0} (M : List Field → X → Type 0) (F : List Field → WireError → Type 0) (levels : ℕ) (bytes : List ℕ) (fs : List Field) (r : Result X WireError) → SpellsFields levels bytes fs → ReadsMeant M F fs r
    → ReadsMeant (λ b x. (gs : List Field) × SpellsFields levels b gs × M gs x) (λ b e. BytesFault levels b e ⊎ ((gs : List Field) × SpellsFields levels b gs × F gs e)) bytes r
bytes_read M F levels bytes fs (Ok x) found h = (fs, found, h)
bytes_read M F levels bytes fs (Err e) found h = rejects (λ x w. (x, subst (λ gs. M gs x) (one_fields levels bytes w.0 fs w.1 found) w.2)) (λ fault. inr (fs, found, fault)) h

pub payload_fields : (outside inside : ℕ) (v : Value) (bytes : List ℕ) (fs : List Field) → HasPayload outside v bytes → IsPartBelow outside inside v fs → SpellsFields inside bytes fs
payload_fields outside inside v bytes fs has p = subst (λ b. SpellsFields inside b fs) (one_payload v p.0 bytes p.1.1 has.1) p.2

pub takes_as : {A X : Type 0} (R S : A → X → Type 0) (F G : A → WireError → Type 0) (a : A) (r : Result X WireError) → ((x : X) → R a x → S a x) → ((x : X) → S a x → R a x) → ((e : WireError) → F a e → G a e)
    → ReadsMeant R F a r → ReadsMeant S G a r
takes_as R S F G a (Ok x) to from told h = to x h
takes_as R S F G a (Err e) to from told h = rejects (λ x s. (x, from x s)) (told e) h

-- the fields that were joined, at the number and the levels that were asked for
pub found_fields : (outside inside k : ℕ) (z y : ℤ) (fs : List Field) (o : Option Fields) (f : Fields) → y ≡ z → k ≡ inside → o ≡ Some f
    → AreJoined outside k (values_at (unsigned_abs y) fs) (option_map (λ (f : Fields). fields_view f.list.items) o) → IfSome o (λ f. f.levels ≡ k)
    → AreJoined outside inside (values_at (unsigned_abs z) fs) (Some (fields_view f.list.items)) × (f.levels ≡ inside)
found_fields outside inside k z y fs o f asked levels some read kept = (
  subst (λ (p : Option Fields). AreJoined outside inside (values_at (unsigned_abs z) fs) (option_map (λ (f : Fields). fields_view f.list.items) p)) some
      (subst (λ j. AreJoined outside j (values_at (unsigned_abs z) fs) (option_map (λ (f : Fields). fields_view f.list.items) o)) levels
      (subst (λ (w : ℤ). AreJoined outside k (values_at (unsigned_abs w) fs) (option_map (λ (f : Fields). fields_view f.list.items) o)) asked read)),
  let at : f.levels ≡ k = subst (λ (p : Option Fields). IfSome p (λ f. f.levels ≡ k)) some kept in at ∙ levels,
)
