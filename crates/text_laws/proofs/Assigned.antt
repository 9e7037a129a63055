-- A field that is given a value: the message suits its type as before.
use Rattle.std.proofs.Common.{◌≡◌, ◌⊎◌, inl, inr, ℕ, Bool, true, false, cond, Option, None, Some, refl, sym, ap, ◌∙◌, subst}
use Rattle.std.proofs.lemmas.Bool.Decides.{eqb_tells}
use Rattle.protobuf_model.specs.Values.{Held, Message, absent, nothing}
use Rattle.protobuf_model.specs.Types.{Name, Part, Label, Field, Types, rival}
use Rattle.protobuf_model.specs.Typed.{IsHeldOf, IsTypedBy}
use Rattle.protobuf_model.proofs.Arranged.{InRange}
use Rattle.protobuf_model.proofs.Exclusive.{rival_sym, rival_other}
use Rattle.text_model.specs.Plain.{IsPlainHeld, IsPlain}
use Rattle.text_model.specs.Value.{assign}

abbrev pub field : Part → Label → Option ℕ → Bool → Field
field part l o e = record { part = part; label = l; oneof = o; extension = e }

-- what holds of the value, of nothing and of what stood before
pub assigned : (type : ℕ → Option Field) (n : ℕ) (h : Held) (m : Message) (P : ℕ → Held → Type 0) → P n h → ((q : ℕ) → P q absent) → ((q : ℕ) → P q (m q)) → (q : ℕ) → P q (assign type n h m q)
assigned type n h m P here none before q = elim (eqb_tells q n) [
  | inl k ↦ subst (λ b. P q (cond b h (cond (rival type n q) absent (m q)))) (sym k.0) (subst (λ x. P x h) (sym k.1) here)
  | inr k ↦ subst (λ b. P q (cond b h (cond (rival type n q) absent (m q)))) (sym k.0) (other (rival type n q))
] where
  other : (b : Bool) → P q (cond b absent (m q))
  other true = none q
  other false = before q

absent_held : (typed : Name → Message → Type 0) (levels : ℕ) (o : Option Field) → IsHeldOf typed levels o absent
absent_held typed levels None = tt
absent_held typed levels (Some f) = refl

pub absent_plain : (types : Types) (o : Option Field) → IsPlainHeld types o absent
absent_plain types None = refl
absent_plain types (Some f) = refl

pub nothing_plain : (types : Types) (t : Name) → IsPlain types t nothing
nothing_plain types t n = absent_plain types (types t n)

-- other members of the oneof are unset
unset : (type : ℕ → Option Field) (n : ℕ) (h : Held) (m : Message) (q : ℕ) → rival type n q ≡ true → assign type n h m q ≡ absent
unset type n h m q r = elim (eqb_tells q n) [
  | inl k ↦ absurd (rival_other type n q r k.1)
  | inr k ↦ ap (λ b. cond b h (cond (rival type n q) absent (m q))) k.0 ∙ ap (λ b. cond b absent (m q)) r
]

-- what is not set stays so
still_absent : (type : ℕ → Option Field) (n : ℕ) (h : Held) (m : Message) (q : ℕ) → (q ≡ n → ⊥) → m q ≡ absent → assign type n h m q ≡ absent
still_absent type n h m q apart e = elim (eqb_tells q n) [
  | inl k ↦ absurd (apart k.1)
  | inr k ↦ ap (λ b. cond b h (cond (rival type n q) absent (m q))) k.0 ∙ other (rival type n q)
] where
  other : (b : Bool) → cond b absent (m q) ≡ absent
  other true = refl
  other false = e

still_exclusive : (type : ℕ → Option Field) (n : ℕ) (h : Held) (m : Message) → ((a q : ℕ) → rival type a q ≡ true → (m a ≡ absent) ⊎ (m q ≡ absent))
    → (a q : ℕ) → rival type a q ≡ true → (assign type n h m a ≡ absent) ⊎ (assign type n h m q ≡ absent)
still_exclusive type n h m before a q r = elim (eqb_tells a n) [
  | inl k ↦ inr (unset type n h m q (subst (λ a. rival type a q ≡ true) k.1 r))
  | inr k ↦ elim (eqb_tells q n) [
    | inl l ↦ inl (unset type n h m a (subst (λ q. rival type q a ≡ true) l.1 (rival_sym type a q r)))
    | inr l ↦ elim (before a q r) [ inl e ↦ inl (still_absent type n h m a k.1 e) | inr e ↦ inr (still_absent type n h m q l.1 e) ]
  ]
]

pub assigned_typed : (typed : Name → Message → Type 0) (levels : ℕ) (type : ℕ → Option Field) (n : ℕ) (h : Held) (m : Message) → InRange n → IsHeldOf typed levels (type n) h → IsTypedBy typed levels type m → IsTypedBy typed levels type (assign type n h m)
assigned_typed typed levels type n h m range held t = record {
  numbers = assigned type n h m (λ q x. (x ≡ absent) ⊎ InRange q) (inr range) (λ q. inl refl) t.numbers;
  contents = assigned type n h m (λ q x. IsHeldOf typed levels (type q) x) held (λ q. absent_held typed levels (type q)) t.contents;
  exclusive = still_exclusive type n h m t.exclusive;
}

pub assigned_plain : (types : Types) (t : Name) (n : ℕ) (h : Held) (m : Message) → IsPlainHeld types (types t n) h → IsPlain types t m → IsPlain types t (assign (types t) n h m)
assigned_plain types t n h m held p = assigned (types t) n h m (λ q x. IsPlainHeld types (types t q) x) held (λ q. absent_plain types (types t q)) p
