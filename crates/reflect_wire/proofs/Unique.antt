-- Of the bytes at a front, one part spells a key, a payload or a group.
use Rattle.std.proofs.Common.{◌≡◌, ◌⊎◌, inl, inr, ℕ, zero, suc, ◌-◌, List, [], ◌∷◌, ◌++◌, length, refl, sym, ap, ◌∙◌, subst, append_assoc, arith}
use Rattle.reflect_wire.specs.Key.{IsKey, IsDelimited, code_of}
use Rattle.reflect_wire.specs.Records.{Payload, varint, fixed64, delimited, group, fixed32, Records, no_records, more_records, key_of, wire_of, SpellsPayload, SpellsRecords}
use Rattle.reflect_wire.specs.declared.wire_key.WireKey.{WireKey}
use Rattle.reflect_wire.specs.declared.wire_key.WireType.{WireType}
use Rattle.reflect_wire.specs.declared.wire_key.WireType.TheVariants.{Varint, SixtyFourBit, LengthDelimited, StartGroup, EndGroup, ThirtyTwoBit}
use Rattle.reflect_wire.proofs.Varints.{one_form}
use Rattle.reflect_wire.proofs.Keys.{number_of}

abbrev wire_at : ℕ → WireType
wire_at zero = Varint
wire_at (suc zero) = SixtyFourBit
wire_at (suc (suc zero)) = LengthDelimited
wire_at (suc (suc (suc zero))) = StartGroup
wire_at (suc (suc (suc (suc zero)))) = EndGroup
wire_at _ = ThirtyTwoBit

wire_at-code_of : (w : WireType) → wire_at (code_of w) ≡ w
wire_at-code_of Varint = refl
wire_at-code_of SixtyFourBit = refl
wire_at-code_of LengthDelimited = refl
wire_at-code_of StartGroup = refl
wire_at-code_of EndGroup = refl
wire_at-code_of ThirtyTwoBit = refl

pub one_key : (a b x y : List ℕ) (j k : WireKey) → IsKey a j → IsKey b k → a ++ x ≡ b ++ y → (a ≡ b) × (j ≡ k) × (x ≡ y)
one_key a b x y j k h i e =
    let one = one_form a b x y _ _ h.spelled.spelled i.spelled.spelled e in
    let number : j.number ≡ k.number = sym (number_of _ j refl) ∙ number_of _ k one.1 in
    let code : code_of j.wire ≡ code_of k.wire = omega (arith, one.1, number) in
    let wire : j.wire ≡ k.wire = sym (wire_at-code_of j.wire) ∙ ap wire_at code ∙ wire_at-code_of k.wire in
    (one.0, ap (λ n. key_of n j.wire) number ∙ ap (key_of k.number) wire, one.2)

pub one_cut : (a b x y : List ℕ) → length a ≡ length b → a ++ x ≡ b ++ y → (a ≡ b) × (x ≡ y)
one_cut [] [] x y l e = (refl, e)
one_cut [] (c ∷ cs) x y l e = absurd (omega arith)
one_cut (c ∷ cs) [] x y l e = absurd (omega arith)
one_cut (c ∷ cs) (d ∷ ds) x y l e =
    let same : c ≡ d = cc in
    let tails : cs ++ x ≡ ds ++ y = cc in
    let inner = one_cut cs ds x y (omega arith) tails in
    (cc (inner.0, same), inner.1)

pub one_delimited : (a b x y p q : List ℕ) → IsDelimited a p → IsDelimited b q → a ++ x ≡ b ++ y → (a ≡ b) × (p ≡ q) × (x ≡ y)
one_delimited a b x y p q h k e =
    let whole : h.0 ++ (p ++ x) ≡ k.0 ++ (q ++ y) = sym (append_assoc h.0 p x) ∙ ap (λ f. f ++ x) (sym h.2) ∙ e ∙ ap (λ f. f ++ y) k.2 ∙ append_assoc k.0 q y in
    let one = one_form h.0 k.0 (p ++ x) (q ++ y) _ _ h.1.spelled k.1.spelled whole in
    let cut = one_cut p q x y one.1 one.2 in
    (cc (h.2, k.2, one.0, cut.0), cut.0, cut.1)

-- a record, an end and what follows, grouped to the right
pub regrouped : (key value rest end more : List ℕ) → ((key ++ (value ++ rest)) ++ end) ++ more ≡ key ++ (value ++ ((rest ++ end) ++ more))
regrouped key value rest end more = simp append_assoc

pub not_end : (p : Payload) → wire_of p ≡ EndGroup → ⊥
not_end (varint n) e = cc
not_end (fixed64 n) e = cc
not_end (delimited n) e = cc
not_end (group n) e = cc
not_end (fixed32 n) e = cc

mutual
  pub one_payload : (levels n : ℕ) (a b x y : List ℕ) (p q : Payload) → wire_of p ≡ wire_of q → SpellsPayload levels n a p → SpellsPayload levels n b q → a ++ x ≡ b ++ y → (a ≡ b) × (p ≡ q) × (x ≡ y)
  one_payload levels n a b x y (varint v) (varint w) same h k e =
      let one = one_form a b x y v w h.spelled k.spelled e in (one.0, ap varint one.1, one.2)
  one_payload levels n a b x y (fixed64 v) (fixed64 w) same h k e =
      let cut = one_cut a b x y (cc (h.0, k.0)) e in (cut.0, cc (h.1, k.1, cut.0), cut.1)
  one_payload levels n a b x y (delimited v) (delimited w) same h k e =
      let one = one_delimited a b x y v w h k e in (one.0, ap delimited one.1, one.2)
  one_payload levels n a b x y (fixed32 v) (fixed32 w) same h k e =
      let cut = one_cut a b x y (cc (h.0, k.0)) e in (cut.0, cc (h.1, k.1, cut.0), cut.1)
  one_payload levels n a b x y (group rs) (group ts) same h k e =
      let whole : (h.1.0 ++ h.1.1) ++ x ≡ (k.1.0 ++ k.1.1) ++ y = ap (λ f. f ++ x) (sym h.1.4) ∙ e ∙ ap (λ f. f ++ y) k.1.4 in
      let one = one_group (levels - 1) n h.1.0 h.1.1 k.1.0 k.1.1 x y rs ts h.1.2 h.1.3 k.1.2 k.1.3 whole in
      (h.1.4 ∙ one.0 ∙ sym k.1.4, ap group one.1, one.2)
  one_payload levels n a b x y p q same h k e = absurd (cc)

  pub one_group : (levels n : ℕ) (a e b f x y : List ℕ) (rs ts : Records) → SpellsRecords levels a rs → IsKey e (key_of n EndGroup) → SpellsRecords levels b ts → IsKey f (key_of n EndGroup)
      → (a ++ e) ++ x ≡ (b ++ f) ++ y → (a ++ e ≡ b ++ f) × (rs ≡ ts) × (x ≡ y)
  one_group levels n a e b f x y no_records no_records h i k j w =
      let whole : e ++ x ≡ f ++ y = cc (h, k) in
      let one = one_key e f x y _ _ i j whole in
      (cc (h, k, one.0), refl, one.2)
  one_group levels n a e b f x y no_records (more_records m q ts) h i k j w =
      let whole : e ++ x ≡ k.0 ++ (k.1 ++ ((k.2 ++ f) ++ y)) = cc (h, w, regrouped k.0 k.1 k.2 f y, k.6) in
      let one = one_key e k.0 x _ _ _ i k.3 whole in
      absurd (not_end q (ap (λ (c : WireKey). c.wire) (sym one.1)))
  one_group levels n a e b f x y (more_records m p rs) no_records h i k j w =
      let whole : h.0 ++ (h.1 ++ ((h.2 ++ e) ++ x)) ≡ f ++ y = cc (k, w, regrouped h.0 h.1 h.2 e x, h.6) in
      let one = one_key h.0 f _ y _ _ h.3 j whole in
      absurd (not_end p (ap (λ (c : WireKey). c.wire) one.1))
  one_group levels n a e b f x y (more_records m p rs) (more_records o q ts) h i k j w =
      let whole : h.0 ++ (h.1 ++ ((h.2 ++ e) ++ x)) ≡ k.0 ++ (k.1 ++ ((k.2 ++ f) ++ y)) = cc (w, regrouped h.0 h.1 h.2 e x, h.6, regrouped k.0 k.1 k.2 f y, k.6) in
      let one = one_key h.0 k.0 _ _ _ _ h.3 k.3 whole in
      let number : m ≡ o = ap (λ (c : WireKey). c.number) one.1 in
      let value = one_payload levels m h.1 k.1 _ _ p q (ap (λ (c : WireKey). c.wire) one.1) h.4 (subst (λ v. SpellsPayload levels v k.1 q) (sym number) k.4) one.2 in
      let inner = one_group levels n h.2 e k.2 f x y rs ts h.5 i k.5 j value.2 in
      (cc (h.6, k.6, append_assoc h.0 (h.1 ++ h.2) e, append_assoc h.1 h.2 e, append_assoc k.0 (k.1 ++ k.2) f, append_assoc k.1 k.2 f, inner.0, value.0, one.0), cc (number, value.1, inner.1), inner.2)

-- behind the records that were read stand the others
pub after_done : (levels n : ℕ) (front rest body end more : List ℕ) (done rs : Records) → SpellsRecords levels front done → SpellsRecords levels body rs → IsKey end (key_of n EndGroup)
    → front ++ rest ≡ (body ++ end) ++ more → (tail : List ℕ) × (ts : Records) × SpellsRecords levels tail ts × (rest ≡ (tail ++ end) ++ more)
after_done levels n front rest body end more no_records rs h k j w = (body, rs, k, cc (h, w))
after_done levels n front rest body end more (more_records m p done) no_records h k j w =
    let whole : h.0 ++ (h.1 ++ (h.2 ++ rest)) ≡ end ++ more = cc (k, w, h.6, append_assoc h.0 (h.1 ++ h.2) rest, append_assoc h.1 h.2 rest) in
    let one = one_key h.0 end _ more _ _ h.3 j whole in
    absurd (not_end p (ap (λ (c : WireKey). c.wire) one.1))
after_done levels n front rest body end more (more_records m p done) (more_records o q ts) h k j w =
    let whole : h.0 ++ (h.1 ++ (h.2 ++ rest)) ≡ k.0 ++ (k.1 ++ ((k.2 ++ end) ++ more)) = cc (w, h.6, append_assoc h.0 (h.1 ++ h.2) rest, append_assoc h.1 h.2 rest, regrouped k.0 k.1 k.2 end more, k.6) in
    let one = one_key h.0 k.0 _ _ _ _ h.3 k.3 whole in
    let number : m ≡ o = ap (λ (c : WireKey). c.number) one.1 in
    let value = one_payload levels m h.1 k.1 _ _ p q (ap (λ (c : WireKey). c.wire) one.1) h.4 (subst (λ v. SpellsPayload levels v k.1 q) (sym number) k.4) one.2 in
    after_done levels n h.2 rest k.2 end more done ts h.5 k.5 j value.2

-- a group's records and end begin with a key: the end's, or a record's, with its payload behind it
pub begins : (levels n : ℕ) (body end more : List ℕ) (rs : Records) → SpellsRecords levels body rs → IsKey end (key_of n EndGroup)
    → (k : WireKey) × (key behind : List ℕ) × IsKey key k × ((body ++ end) ++ more ≡ key ++ behind)
    × ((k ≡ key_of n EndGroup) ⊎ ((p : Payload) × (k.wire ≡ wire_of p) × ((value rest : List ℕ) × SpellsPayload levels k.number value p × (behind ≡ value ++ rest))))
begins levels n body end more no_records h j = (key_of n EndGroup, end, more, j, cc (h), inl refl)
begins levels n body end more (more_records m p rs) h j =
    (key_of m (wire_of p), h.0, h.1 ++ ((h.2 ++ end) ++ more), h.3, cc (h.6, regrouped h.0 h.1 h.2 end more), inr (p, refl, (h.1, (h.2 ++ end) ++ more, h.4, refl)))
