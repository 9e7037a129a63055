-- Bytes that were written of records, whatever these are, and that spell records: those are alike.
use Rattle.std.proofs.Common.{◌≡◌, ◌⊎◌, inl, inr, ℕ, zero, suc, ◌<◌, ◌≤◌, ◌/◌, ◌^◌, ◌-◌, List, [], ◌∷◌, ◌++◌, length, refl, sym, ap, ◌∙◌, subst, append_assoc, arith}
use Rattle.std.proofs.lemmas.Bool.{cases_lt}
use Rattle.std.proofs.lemmas.Grind.{common_steps}
use Rattle.std.specs.Int.{w32, w64, to_le_bytes}
use Rattle.reflect_wire.specs.declared.wire_key.WireKey.{WireKey}
use Rattle.reflect_wire.specs.declared.wire_key.WireType.TheVariants.{EndGroup}
use Rattle.reflect_wire.specs.Encoding.{varint_bytes, key_bytes, payload_bytes, records_bytes}
use Rattle.reflect_wire.specs.Key.{IsKey, key_code}
use Rattle.reflect_wire.specs.Records.{Payload, varint, fixed64, delimited, group, fixed32, Records, no_records, more_records, key_of, wire_of, SpellsPayload, SpellsRecords}
use Rattle.reflect_wire.specs.Varint.{SpellsVarint}
use Rattle.reflect_wire.proofs.Encodings.{varint_bytes-last, varint_bytes-more}
use Rattle.reflect_wire.proofs.Keys.{number_of}
use Rattle.reflect_wire.proofs.Spelling.{key_spelled}
use Rattle.reflect_wire.proofs.Unique.{not_end, one_cut, one_key}
use Rattle.reflect_wire.proofs.Varints.{one_form}

-- what is read of a payload that was written: a number is that number
abbrev pub Alike : Payload → Payload → Type 0
Alike (varint v) q = q ≡ varint v
Alike _ q = Unit {0}

-- the same of records one behind the other, which have the same numbers
abbrev pub AreAlike : Records → Records → Type 0
AreAlike no_records no_records = Unit {0}
AreAlike (more_records n p rs) (more_records m q ss) = (m ≡ n) × Alike p q × AreAlike rs ss
AreAlike _ _ = ⊥

-- the one form of a number spells it, however large it is
spells_within : (k n : ℕ) → n ≤ k → SpellsVarint (varint_bytes n) n
spells_within zero n h = subst (λ bs. SpellsVarint bs n) (sym (varint_bytes-last n (omega arith))) (inl (omega arith, refl, refl))
spells_within (suc k) n h = by (λ small. spells_within k (n / 128) small) (cases_lt n 128) where
  by : (n / 128 ≤ k → SpellsVarint (varint_bytes (n / 128)) (n / 128)) → (n < 128) ⊎ (128 ≤ n) → SpellsVarint (varint_bytes n) n
  by rest (inl lt) = subst (λ bs. SpellsVarint bs n) (sym (varint_bytes-last n lt)) (inl (lt, refl, refl))
  by rest (inr ge) = subst (λ bs. SpellsVarint bs n) (sym (varint_bytes-more n ge)) (inr (omega arith, (n / 128, omega arith, rest (omega arith))))

spells_number : (n : ℕ) → SpellsVarint (varint_bytes n) n
spells_number n = spells_within n n (omega arith)

-- a key that is spelled where one was written is that one
key_front : (key x y : List ℕ) (k j : WireKey) → IsKey key k → key ++ x ≡ key_bytes j ++ y → (k ≡ j) × (x ≡ y)
key_front key x y k j h e =
    let one = one_form key (key_bytes j) x y (key_code k) (key_code j) h.spelled.spelled (spells_number (key_code j)) e in
    let number : k.number ≡ j.number = sym (number_of (key_code k) k refl) ∙ number_of (key_code k) j one.1 in
    let some : 0 < j.number = subst (λ n. 0 < n) number h.some in
    let small : j.number < 2 ^ 29 = subst (λ n. n < 2 ^ 29) number h.small in
    let same = one_key key (key_bytes j) x y k j h (key_spelled j some small) e in
    (same.1, same.2)

-- no key is written in no bytes
some_key : (j : WireKey) (y : List ℕ) → [] ≡ key_bytes j ++ y → ⊥
some_key j y e = by (key_bytes j) (spells_number (key_code j)) e where
  by : (bs : List ℕ) → SpellsVarint bs (key_code j) → [] ≡ bs ++ y → ⊥
  by [] h e = h
  by (b ∷ bs) h e = cc e

some_spelled : (key y : List ℕ) (k : WireKey) → IsKey key k → key ++ y ≡ [] → ⊥
some_spelled [] y k h e = h.spelled.spelled
some_spelled (b ∷ key) y k h e = cc e

-- no record is spelled there: the bytes end, or a group does
abbrev Ends : List ℕ → Type 0
Ends t = (t ≡ []) ⊎ ((n : ℕ) × (key rest : List ℕ) × IsKey key (key_of n EndGroup) × (t ≡ key ++ rest))

-- and none is written there
abbrev Stops : List ℕ → Type 0
Stops u = (u ≡ []) ⊎ ((n : ℕ) × (rest : List ℕ) × (u ≡ key_bytes (key_of n EndGroup) ++ rest))

length-le4 : (n : ℕ) → length (to_le_bytes w32 n) ≡ 4
length-le4 n = grind (arith, common_steps)

length-le8 : (n : ℕ) → length (to_le_bytes w64 n) ≡ 8
length-le8 n = grind (arith, common_steps)

ended : (t y : List ℕ) (n : ℕ) (p : Payload) → Ends t → t ≡ key_bytes (key_of n (wire_of p)) ++ y → ⊥
ended t y n p (inl none) e = some_key (key_of n (wire_of p)) y (sym none ∙ e)
ended t y n p (inr h) e =
    let one = key_front h.1 h.2 y (key_of h.0 EndGroup) (key_of n (wire_of p)) h.3 (sym h.4 ∙ e) in
    not_end p (ap (λ (c : WireKey). c.wire) (sym one.0))

stopped : (u key y : List ℕ) (n : ℕ) (q : Payload) → Stops u → IsKey key (key_of n (wire_of q)) → key ++ y ≡ u → ⊥
stopped u key y n q (inl none) k e = some_spelled key y (key_of n (wire_of q)) k (e ∙ none)
stopped u key y n q (inr h) k e =
    let one = key_front key y h.1 (key_of n (wire_of q)) (key_of h.0 EndGroup) k (e ∙ h.2) in
    not_end q (ap (λ (c : WireKey). c.wire) one.0)

grouped : (key value rest t : List ℕ) → (key ++ (value ++ rest)) ++ t ≡ key ++ (value ++ (rest ++ t))
grouped key value rest t = simp append_assoc

written : (key value rest u : List ℕ) → ((key ++ value) ++ rest) ++ u ≡ key ++ (value ++ (rest ++ u))
written key value rest u = simp append_assoc

mutual
  payload_front : (levels n : ℕ) (value x y : List ℕ) (p q : Payload) → wire_of q ≡ wire_of p → SpellsPayload levels n value q → value ++ x ≡ payload_bytes n p ++ y → Alike p q × (x ≡ y)
  payload_front levels n value x y (varint v) (varint w) same h e =
      let one = one_form value (varint_bytes v) x y w v h.spelled (spells_number v) e in (ap varint one.1, one.2)
  payload_front levels n value x y (fixed64 v) (fixed64 w) same h e =
      let cut = one_cut value (to_le_bytes w64 v) x y (h.0 ∙ sym (length-le8 v)) e in (tt, cut.1)
  payload_front levels n value x y (delimited v) (delimited w) same h e =
      let whole : h.0 ++ (w ++ x) ≡ varint_bytes (length v) ++ (v ++ y) = sym (append_assoc h.0 w x) ∙ ap (λ f. f ++ x) (sym h.2) ∙ e ∙ append_assoc (varint_bytes (length v)) v y in
      let one = one_form h.0 (varint_bytes (length v)) (w ++ x) (v ++ y) (length w) (length v) h.1.spelled (spells_number (length v)) whole in
      let cut = one_cut w v x y one.1 one.2 in
      (tt, cut.1)
  payload_front levels n value x y (fixed32 v) (fixed32 w) same h e =
      let cut = one_cut value (to_le_bytes w32 v) x y (h.0 ∙ sym (length-le4 v)) e in (tt, cut.1)
  payload_front levels n value x y (group rs) (group ss) same h e =
      let end = key_bytes (key_of n EndGroup) in
      let whole : h.1.0 ++ (h.1.1 ++ x) ≡ records_bytes rs ++ (end ++ y) = sym (append_assoc h.1.0 h.1.1 x) ∙ ap (λ f. f ++ x) (sym h.1.4) ∙ e ∙ append_assoc (records_bytes rs) end y in
      let inner = records_front (levels - 1) h.1.0 (h.1.1 ++ x) (end ++ y) rs ss h.1.2 (inr (n, h.1.1, x, h.1.3, refl)) (inr (n, y, refl)) whole in
      let last = key_front h.1.1 x y (key_of n EndGroup) (key_of n EndGroup) h.1.3 inner.1 in
      (tt, last.1)
  payload_front levels n value x y p q same h e = absurd (cc)

  -- records that are spelled up to an end, where records were written up to one, are alike
  records_front : (levels : ℕ) (body t u : List ℕ) (rs ss : Records) → SpellsRecords levels body ss → Ends t → Stops u → body ++ t ≡ records_bytes rs ++ u → AreAlike rs ss × (t ≡ u)
  records_front levels body t u no_records no_records h ends stops e = (tt, ap (λ b. b ++ t) (sym h) ∙ e)
  records_front levels body t u (more_records n p rs) no_records h ends stops e =
      absurd (ended t (payload_bytes n p ++ (records_bytes rs ++ u)) n p ends (ap (λ b. b ++ t) (sym h) ∙ e ∙ written (key_bytes (key_of n (wire_of p))) (payload_bytes n p) (records_bytes rs) u))
  records_front levels body t u no_records (more_records m q ss) h ends stops e =
      absurd (stopped u h.0 (h.1 ++ (h.2 ++ t)) m q stops h.3 (sym (grouped h.0 h.1 h.2 t) ∙ ap (λ b. b ++ t) (sym h.6) ∙ e))
  records_front levels body t u (more_records n p rs) (more_records m q ss) h ends stops e =
      let key = key_bytes (key_of n (wire_of p)) in
      let whole : h.0 ++ (h.1 ++ (h.2 ++ t)) ≡ key ++ (payload_bytes n p ++ (records_bytes rs ++ u)) = sym (grouped h.0 h.1 h.2 t) ∙ ap (λ b. b ++ t) (sym h.6) ∙ e ∙ written key (payload_bytes n p) (records_bytes rs) u in
      let one = key_front h.0 (h.1 ++ (h.2 ++ t)) (payload_bytes n p ++ (records_bytes rs ++ u)) (key_of m (wire_of q)) (key_of n (wire_of p)) h.3 whole in
      let number : m ≡ n = ap (λ (c : WireKey). c.number) one.0 in
      let value = payload_front levels n h.1 (h.2 ++ t) (records_bytes rs ++ u) p q (ap (λ (c : WireKey). c.wire) one.0) (subst (λ k. SpellsPayload levels k h.1 q) number h.4) one.1 in
      let behind = records_front levels h.2 t u rs ss h.5 ends stops value.1 in
      ((number, value.0, behind.0), behind.1)

-- what is read of written bytes, to the last, is like what was written
pub read_alike : (levels : ℕ) (bytes : List ℕ) (rs ss : Records) → SpellsRecords levels bytes ss → bytes ≡ records_bytes rs → AreAlike rs ss
read_alike levels bytes rs ss h e = (records_front levels bytes [] [] rs ss h (inl refl) (inl refl) (ap (λ b. b ++ []) e)).0
