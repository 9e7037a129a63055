-- Messages still suit their types when a number is put or unset.
use Rattle.std.proofs.Common.{◌≡◌, ◌⊎◌, inl, inr, ◌<◌, ◌^◌, ℕ, zero, suc, ◌==◌, ◌&&◌, not, Bool, true, false, true≢false, Option, None, Some, refl, sym, ap, ◌∙◌, subst, arith}
use Rattle.std.proofs.lemmas.Bool.{and_parts}
use Rattle.protobuf_model.specs.Typed.{IsHeldOf, IsTyped, IsTypedBy}
use Rattle.protobuf_model.specs.Types.{Field, Name, Types, oneof_of, rival, same_oneof}
use Rattle.protobuf_model.specs.Values.{Held, Message, absent}
use Rattle.set_view.specs.Puts.{IsPut, IsUnset}

-- ---- oneofs
shared : (o p : Option ℕ) → same_oneof o p ≡ true → same_oneof p o ≡ true
shared (Some a) (Some b) e = let same : a ≡ b = grind (arith, e) in grind (arith, same)
shared (Some a) None e = absurd (cc e)
shared None p e = absurd (cc e)

apart : (a b : ℕ) → not (b == a) ≡ true → not (a == b) ≡ true
apart a b e = by (a == b) refl where
  by : (c : Bool) → (a == b) ≡ c → not c ≡ true
  by false is = refl
  by true is =
      let same : (b == a) ≡ true = grind (arith, is) in absurd (true≢false (sym e ∙ ap not same))

-- a rival of a number has it for a rival
rivals_of : (type : ℕ → Option Field) (a b : ℕ) → rival type a b ≡ true → rival type b a ≡ true
rivals_of type a b e =
    let two = and_parts (not (b == a)) (same_oneof (oneof_of (type a)) (oneof_of (type b))) e in
    ap (λ c. c && same_oneof (oneof_of (type b)) (oneof_of (type a))) (apart a b two.0)
    ∙ shared (oneof_of (type a)) (oneof_of (type b)) two.1

-- ---- messages of one level
module _ (inner : Name → Message → Type 0) (levels : ℕ) (type : ℕ → Option Field) where
  nothing_held : (o : Option Field) → IsHeldOf inner levels o absent
  nothing_held None = tt
  nothing_held (Some f) = refl

  -- nothing is held anywhere
  pub nothing_typed : (m : Message) → ((n : ℕ) → m n ≡ absent) → IsTypedBy inner levels type m
  nothing_typed m none = record {
    numbers = λ n. inl (none n);
    contents = λ n. subst (IsHeldOf inner levels (type n)) (sym (none n)) (nothing_held (type n));
    exclusive = λ n q rivals. inl (none n);
  }

  -- under each number stands what stood there, or nothing
  module _ (old new : Message) (typed : IsTypedBy inner levels type old) where
    abbrev StaysOrGoes : ℕ → Type 0
    StaysOrGoes q = (new q ≡ old q) ⊎ (new q ≡ absent)

    within : (q : ℕ) → StaysOrGoes q → (new q ≡ absent) ⊎ ((0 < q) × (q < 2 ^ 29))
    within q (inr none) = inl none
    within q (inl same) = by (typed.numbers q) where
      by : (old q ≡ absent) ⊎ ((0 < q) × (q < 2 ^ 29)) → (new q ≡ absent) ⊎ ((0 < q) × (q < 2 ^ 29))
      by (inl none) = inl (same ∙ none)
      by (inr number) = inr number

    kept : (q : ℕ) → StaysOrGoes q → IsHeldOf inner levels (type q) (new q)
    kept q (inl same) = subst (IsHeldOf inner levels (type q)) (sym same) (typed.contents q)
    kept q (inr none) = subst (IsHeldOf inner levels (type q)) (sym none) (nothing_held (type q))

    one_of : (a b : ℕ) → rival type a b ≡ true → StaysOrGoes a → StaysOrGoes b → (new a ≡ absent) ⊎ (new b ≡ absent)
    one_of a b rivals (inr none) also = inl none
    one_of a b rivals (inl same) (inr none) = inr none
    one_of a b rivals (inl same) (inl other) = by (typed.exclusive a b rivals) where
      by : (old a ≡ absent) ⊎ (old b ≡ absent) → (new a ≡ absent) ⊎ (new b ≡ absent)
      by (inl none) = inl (same ∙ none)
      by (inr none) = inr (other ∙ none)

    pub left_typed : ((q : ℕ) → StaysOrGoes q) → IsTypedBy inner levels type new
    left_typed each = record {
      numbers = λ q. within q (each q);
      contents = λ q. kept q (each q);
      exclusive = λ a b rivals. one_of a b rivals (each a) (each b);
    }

    -- one number is unset
    unset_typed : (n : ℕ) → IsUnset n old new → IsTypedBy inner levels type new
    unset_typed n unset = left_typed each where
      each : (q : ℕ) → StaysOrGoes q
      each q = by (q == n) refl where
        by : (c : Bool) → (q == n) ≡ c → StaysOrGoes q
        by true is = let same : q ≡ n = grind (arith, is) in inr (ap new same ∙ unset.here)
        by false is = inl (unset.others q (λ same. grind (arith, is, same)))

    -- one is put
    module _ (n : ℕ) (held : Held) (put : IsPut type n held old new) (least : 0 < n) (most : n < 2 ^ 29) (suits : IsHeldOf inner levels (type n) held) where
      others : (q : ℕ) → (q ≡ n → ⊥) → StaysOrGoes q
      others q other = by (rival type n q) refl where
        by : (c : Bool) → rival type n q ≡ c → StaysOrGoes q
        by true is = inr (put.rivals q is)
        by false is = inl (put.others q other is)

      where_is : (q : ℕ) → (q ≡ n) ⊎ (q ≡ n → ⊥)
      where_is q = by (q == n) refl where
        by : (c : Bool) → (q == n) ≡ c → (q ≡ n) ⊎ (q ≡ n → ⊥)
        by true is = inl (grind (arith, is))
        by false is = inr (λ same. grind (arith, is, same))

      put_typed : IsTypedBy inner levels type new
      put_typed = record {
        numbers = λ q. number q (where_is q);
        contents = λ q. content q (where_is q);
        exclusive = λ a b rivals. exclusive a b rivals (where_is a) (where_is b);
      } where
        number : (q : ℕ) → (q ≡ n) ⊎ (q ≡ n → ⊥) → (new q ≡ absent) ⊎ ((0 < q) × (q < 2 ^ 29))
        number q (inl same) = inr (subst (λ k. (0 < k) × (k < 2 ^ 29)) (sym same) (least, most))
        number q (inr other) = within q (others q other)

        content : (q : ℕ) → (q ≡ n) ⊎ (q ≡ n → ⊥) → IsHeldOf inner levels (type q) (new q)
        content q (inl same) = subst (λ k. IsHeldOf inner levels (type k) (new k)) (sym same) (subst (IsHeldOf inner levels (type n)) (sym put.here) suits)
        content q (inr other) = kept q (others q other)

        exclusive : (a b : ℕ) → rival type a b ≡ true → (a ≡ n) ⊎ (a ≡ n → ⊥) → (b ≡ n) ⊎ (b ≡ n → ⊥) → (new a ≡ absent) ⊎ (new b ≡ absent)
        exclusive a b rivals (inl same) also = inr (put.rivals b (ap (λ k. rival type k b) (sym same) ∙ rivals))
        exclusive a b rivals (inr other) (inl same) = inl (put.rivals a (rivals_of type a n (ap (rival type a) (sym same) ∙ rivals)))
        exclusive a b rivals (inr other) (inr also) = one_of a b rivals (others a other) (others b also)

-- ---- messages of a type
pub put_suits : (levels : ℕ) (types : Types) (t : Name) (n : ℕ) (held : Held) (old new : Message) → IsPut (types t) n held old new → 0 < n → n < 2 ^ 29
    → IsHeldOf (IsTyped levels types) (suc levels) (types t n) held → IsTyped (suc levels) types t old → IsTyped (suc levels) types t new
put_suits levels types t n held old new put least most suits typed = put_typed (IsTyped levels types) (suc levels) (types t) old new typed n held put least most suits

pub unset_suits : (levels : ℕ) (types : Types) (t : Name) (n : ℕ) (old new : Message) → IsUnset n old new → IsTyped levels types t old → IsTyped levels types t new
unset_suits zero types t n old new unset typed = unset_typed (λ u m. ⊥) zero (types t) old new typed n unset
unset_suits (suc levels) types t n old new unset typed = unset_typed (IsTyped levels types) (suc levels) (types t) old new typed n unset
