-- A message that suits its type still does with the accepted records that are merged into it.
use Rattle.std.proofs.Common.{◌≡◌, ◌⊎◌, ◌≤◌, inl, inr, ℕ, zero, suc, Bool, true, false, cond, List, [], ◌∷◌, Option, Some, None, refl, ap, ◌∙◌, subst, arith}
use Rattle.std.specs.List.{AllByRecursion}
use Rattle.reflect_wire.specs.Records.{Payload}
use Rattle.reflect_wire.specs.Written.{FitsPayload}
use Rattle.protobuf_model.specs.Values.{Message, absent, nothing}
use Rattle.protobuf_model.specs.Types.{Name, Frame, Field, Types, rival}
use Rattle.protobuf_model.specs.Reader.{inside_of}
use Rattle.protobuf_model.specs.Meaning.{is_in, standing, left_of, joined, held, meaning_by, meaning}
use Rattle.protobuf_model.specs.Accepts.{Acceptable, IsFramed, AcceptsIn, AcceptsRecord, Accepts}
use Rattle.protobuf_model.specs.Typed.{IsHeldOf, IsTypedBy, IsTyped, HaveDefaults}
use Rattle.protobuf_model.proofs.Pieces.{Inner}
use Rattle.protobuf_model.proofs.Arranged.{InRange, all_append, all_standing}
use Rattle.protobuf_model.proofs.Exclusive.{rival_sym, standing_without, standing_apart}
use Rattle.protobuf_model.proofs.Deeper.{accepted_deeper}
use Rattle.protobuf_model.proofs.Lists.{all_map}
use Rattle.protobuf_model.proofs.Typing.{KeepsTyped, held_typed, held_kept, absent_typed}

nothing_typed_by : (accept : Acceptable) (inner : Inner) (typed : Name → Message → Type 0) (levels : ℕ) → KeepsTyped accept inner typed levels → (type : ℕ → Option Field) → IsTypedBy typed levels type nothing
nothing_typed_by accept inner typed levels keeps type = record {
  numbers = λ n. inl refl;
  contents = λ n. absent_typed accept inner typed levels keeps (type n);
  exclusive = λ n q e. inl refl;
}

module _ (types : Types) (accept : Acceptable) (inner : Inner) (typed : Name → Message → Type 0) (levels : ℕ) (keeps : KeepsTyped accept inner typed levels) (i : Name) (m : Message)
    (t : IsTypedBy typed levels (types i) m) (rs : List (ℕ × Payload)) (a : AllByRecursion (AcceptsRecord accept levels (types i)) rs) where
  abbrev after : Message
  after = meaning_by inner types i m rs

  left_typed : (n : ℕ) (b : Bool) → IsHeldOf typed levels (types i n) (cond b absent (m n))
  left_typed n true = absent_typed accept inner typed levels keeps (types i n)
  left_typed n false = t.contents n

  -- where none of its records stand, a number holds what is left there
  unread : (n : ℕ) → standing (rival (types i) n) n rs ≡ [] → after n ≡ left_of (rival (types i) n) (m n) rs
  unread n e = ap (held inner (types i n) (left_of (rival (types i) n) (m n) rs)) e ∙ held_kept accept inner typed levels keeps (types i n) (left_of (rival (types i) n) (m n) rs) (left_typed n (is_in (rival (types i) n) rs))

  struck : (n : ℕ) → standing (rival (types i) n) n rs ≡ [] → is_in (rival (types i) n) rs ≡ true → after n ≡ absent
  struck n e b = unread n e ∙ ap (λ b. cond b absent (m n)) b

  stays : (n : ℕ) → standing (rival (types i) n) n rs ≡ [] → is_in (rival (types i) n) rs ≡ false → after n ≡ m n
  stays n e b = unread n e ∙ ap (λ b. cond b absent (m n)) b

  numbers_after : (n : ℕ) → (after n ≡ absent) ⊎ InRange n
  numbers_after n = by (standing (rival (types i) n) n rs) refl (all_standing (rival (types i) n) (λ r. InRange r.0) n rs (all_map (AcceptsRecord accept levels (types i)) (λ r. InRange r.0) rs (λ r h. (h.some, h.small)) a)) (is_in (rival (types i) n) rs) refl where
    by : (ps : List Payload) → standing (rival (types i) n) n rs ≡ ps → AllByRecursion (λ p. InRange n) (standing (rival (types i) n) n rs) → (b : Bool) → is_in (rival (types i) n) rs ≡ b → (after n ≡ absent) ⊎ InRange n
    by (p ∷ ps) e h b k = inr (subst (AllByRecursion (λ p. InRange n)) e h).0
    by [] e h true k = inl (struck n e k)
    by [] e h false k = elim (t.numbers n) [ inl o ↦ inl (stays n e k ∙ o) | inr o ↦ inr o ]

  contents_after : HaveDefaults types → (n : ℕ) → IsHeldOf typed levels (types i n) (after n)
  contents_after d n =
      held_typed accept inner typed levels keeps (types i n) (left_of (rival (types i) n) (m n) rs) (standing (rival (types i) n) n rs) (d i n) (left_typed n (is_in (rival (types i) n) rs))
      (all_map (λ p. AcceptsRecord accept levels (types i) (n, p)) (λ p. FitsPayload levels p × AcceptsIn accept levels (types i n) p) (standing (rival (types i) n) n rs) (λ p h. (h.fits, h.suits)) (all_standing (rival (types i) n) (AcceptsRecord accept levels (types i)) n rs a))

  exclusive_after : (n q : ℕ) → rival (types i) n q ≡ true → (after n ≡ absent) ⊎ (after q ≡ absent)
  exclusive_after n q e = by (is_in (rival (types i) n) rs) refl (is_in (rival (types i) q) rs) refl where
    back : rival (types i) q n ≡ true
    back = rival_sym (types i) n q e

    by : (b : Bool) → is_in (rival (types i) n) rs ≡ b → (c : Bool) → is_in (rival (types i) q) rs ≡ c → (after n ≡ absent) ⊎ (after q ≡ absent)
    by true k true l = elim (standing_apart (types i) n q e rs) [ inl s ↦ inl (struck n s k) | inr s ↦ inr (struck q s l) ]
    by true k false l = inl (struck n (standing_without (rival (types i) n) (rival (types i) q) n back rs l) k)
    by false k true l = inr (struck q (standing_without (rival (types i) q) (rival (types i) n) q e rs k) l)
    by false k false l = elim (t.exclusive n q e) [
      | inl o ↦ inl (stays n (standing_without (rival (types i) n) (rival (types i) q) n back rs l) k ∙ o)
      | inr o ↦ inr (stays q (standing_without (rival (types i) q) (rival (types i) n) q e rs k) l ∙ o)
    ]

  pub typed_after : HaveDefaults types → IsTypedBy typed levels (types i) after
  typed_after d = record { numbers = numbers_after; contents = contents_after d; exclusive = exclusive_after }

pub none_keeps : KeepsTyped (λ frame j p. ⊥) (λ j m rs. m) (λ j m. ⊥) zero
none_keeps = record { fresh = λ j h. omega arith; merged = λ frame j m ps t a. absurd t; deeper = λ frame j p h. absurd h }

-- records of some levels leave a message that suits its type with as many below, or more, as it was
abbrev pub Merges : ℕ → ℕ → Types → Type 0
Merges levels depth types = (i : Name) (m : Message) (rs : List (ℕ × Payload)) → IsTyped depth types i m → Accepts levels types i rs → IsTyped depth types i (meaning levels types i m rs)

pub joined_accepted : (levels : ℕ) (types : Types) (frame : Frame) (j : Name) (ps : List Payload) → AllByRecursion (λ p. IsFramed levels frame p × Accepts levels types j (inside_of p)) ps → Accepts levels types j (joined ps)
joined_accepted zero types frame j [] a = tt
joined_accepted (suc levels) types frame j [] a = tt
joined_accepted zero types frame j (p ∷ ps) a = all_append (AcceptsRecord (λ frame j p. ⊥) zero (types j)) (inside_of p) (joined ps) a.0.1 (joined_accepted zero types frame j ps a.1)
joined_accepted (suc levels) types frame j (p ∷ ps) a =
    all_append (AcceptsRecord (λ frame j p. IsFramed levels frame p × Accepts levels types j (inside_of p)) (suc levels) (types j)) (inside_of p) (joined ps) a.0.1 (joined_accepted (suc levels) types frame j ps a.1)

abbrev pub Accept : ℕ → Types → Acceptable
Accept levels types = λ frame j p. IsFramed levels frame p × Accepts levels types j (inside_of p)

-- nothing suits each type
pub nothing_typed : (levels : ℕ) (types : Types) (i : Name) → IsTyped levels types i nothing
nothing_typed zero types i = nothing_typed_by (λ frame j p. ⊥) (λ j m rs. m) (λ j m. ⊥) zero none_keeps (types i)
nothing_typed (suc levels) types i = record {
  numbers = λ n. inl refl;
  contents = λ n. by (types i n);
  exclusive = λ n q e. inl refl;
} where
  by : (o : Option Field) → IsHeldOf (IsTyped levels types) (suc levels) o absent
  by None = tt
  by (Some f) = refl

pub more_keeps : (levels depth : ℕ) (types : Types) → Merges levels depth types → KeepsTyped (Accept levels types) (meaning levels types) (IsTyped depth types) (suc depth)
more_keeps levels depth types each = record {
  fresh = λ j h. nothing_typed depth types j;
  merged = λ frame j m ps t a. each j m (joined ps) t (joined_accepted levels types frame j ps a);
  deeper = λ frame j p h. omega arith;
}

-- no record reaches the messages below
none_reach : (depth : ℕ) (types : Types) → KeepsTyped (λ frame j p. ⊥) (λ j m rs. m) (IsTyped depth types) (suc depth)
none_reach depth types = record { fresh = λ j h. nothing_typed depth types j; merged = λ frame j m ps t a. t; deeper = λ frame j p h. absurd h }

-- records that are accepted, merged into a message that suits the type
pub merged_typed : (levels depth : ℕ) → levels ≤ depth → (types : Types) → HaveDefaults types → Merges levels depth types
merged_typed zero zero le types d i m rs t a = typed_after types (λ frame j p. ⊥) (λ j m rs. m) (λ j m. ⊥) zero none_keeps i m t rs a d
merged_typed zero (suc depth) le types d i m rs t a =
    typed_after types (λ frame j p. ⊥) (λ j m rs. m) (IsTyped depth types) (suc depth) (none_reach depth types) i m t rs
    (accepted_deeper (λ frame j p. ⊥) zero (suc depth) le (types i) rs a) d
merged_typed (suc levels) zero le types d i m rs t a = absurd (omega (arith, le))
merged_typed (suc levels) (suc depth) le types d i m rs t a =
    typed_after types (Accept levels types) (meaning levels types) (IsTyped depth types) (suc depth) (more_keeps levels depth types (merged_typed levels depth (omega (arith, le)) types d)) i m t rs
    (accepted_deeper (Accept levels types) (suc levels) (suc depth) le (types i) rs a) d
