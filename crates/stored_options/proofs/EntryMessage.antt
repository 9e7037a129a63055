-- The message of options that say that their type is the one of a map's entries: it suits its type,
-- which knows all of it and writes it as the bytes 56 1.
use Rattle.std.proofs.Common.{◌≡◌, ◌≢◌, ◌⊎◌, inl, inr, ℕ, zero, suc, ◌<◌, ◌≤◌, ◌+◌, ◌-◌, ◌^◌, ◌==◌, ◌||◌, not, Bool, true, false, true≢false, cond, List, [], ◌∷◌, ◌++◌, Option, None, Some, refl, sym, ap, ◌∙◌, subst, append-nil, arith}
use Rattle.std.proofs.lemmas.Bool.Decides.{eqb_tells}
use Rattle.std.proofs.lemmas.Bool.{and_parts}
use Rattle.reflect_wire.specs.Encoding.{records_bytes, varint_bytes}
use Rattle.reflect_wire.specs.Views.{records_of}
use Rattle.reflect_wire.specs.Records.{Payload, varint}
use Rattle.protobuf_model.specs.Bytes.{arranged, bytes_of, count_from, field_numbers, in_kind, is_declared, numbered, payloads_in, payloads_under, run}
use Rattle.protobuf_model.specs.Coded.{SuitsType}
use Rattle.protobuf_model.specs.Typed.{IsFieldOf, IsHeldOf, IsOf, IsTyped}
use Rattle.protobuf_model.specs.Types.{Field, Name, Types, oneof_of, one, rival, same_oneof, scalar}
use Rattle.protobuf_model.specs.Types as kinds
use Rattle.protobuf_model.specs.Scalars.{same}
use Rattle.known_messages.specs.KnownMessages.{AreFormOf, KnowsHeld}
use Rattle.protobuf_model.specs.Values.{Message, absent, content, single, truth}

-- ---- what is written where one number alone has anything

module _ (under : ℕ → List Payload) where
  run_none : ((q : ℕ) → under q ≡ []) → (qs : List ℕ) → run under qs ≡ []
  run_none none [] = refl
  run_none none (q ∷ qs) = ap (λ ps. numbered q ps ++ run under qs) (none q) ∙ run_none none qs

  module _ (n : ℕ) (others : (q : ℕ) → q ≢ n → under q ≡ []) where
    run_behind : (a k : ℕ) → n < a → run under (count_from a k) ≡ []
    run_behind a zero lt = refl
    run_behind a (suc k) lt = ap (λ ps. numbered a ps ++ run under (count_from (suc a) k)) (others a (λ e. omega (arith, e, lt))) ∙ run_behind (suc a) k (omega (arith, lt))

    run_from : (a k : ℕ) → a ≤ n → n < a + k → run under (count_from a k) ≡ numbered n (under n)
    run_from a zero le lt = absurd (omega (arith, le, lt))
    run_from a (suc k) le lt = by (λ l. run_from (suc a) k l (omega (arith, lt))) (eqb_tells a n) where
      by : {A B : Type 0} → (suc a ≤ n → run under (count_from (suc a) k) ≡ numbered n (under n)) → (A × (a ≡ n)) ⊎ (B × (a ≢ n))
          → numbered a (under a) ++ run under (count_from (suc a) k) ≡ numbered n (under n)
      by later (inl (_, same)) =
          ap (λ q. numbered q (under q) ++ run under (count_from (suc a) k)) same
          ∙ ap (λ rs. numbered n (under n) ++ rs) (run_behind (suc a) k (omega (arith, same)))
          ∙ append-nil (numbered n (under n))
      by later (inr (_, other)) = ap (λ ps. numbered a ps ++ run under (count_from (suc a) k)) (others a other) ∙ later (omega (arith, le, other))

    run_one : 0 < n → n < 2 ^ 29 → run under field_numbers ≡ numbered n (under n)
    unfolding field_numbers
    run_one least most = run_from 1 (2 ^ 29 - 1) (omega (arith, least)) (omega (arith, most))

-- of a number that a field has
module _ (type : ℕ → Option Field) (under : ℕ → List Payload) (n : ℕ) (others : (q : ℕ) → q ≢ n → under q ≡ []) (declared : is_declared (type n) ≡ true) where
  in_front : (q : ℕ) → q ≢ n → cond (is_declared (type q)) (under q) [] ≡ []
  in_front q other = by (is_declared (type q)) where
    by : (b : Bool) → cond b (under q) [] ≡ []
    by true = others q other
    by false = refl

  behind : (q : ℕ) → cond (is_declared (type q)) [] (under q) ≡ []
  behind q = by (eqb_tells q n) where
    by : {A B : Type 0} → (A × (q ≡ n)) ⊎ (B × (q ≢ n)) → cond (is_declared (type q)) [] (under q) ≡ []
    by (inl (_, same)) = ap (λ b. cond b [] (under q)) (ap (λ k. is_declared (type k)) same ∙ declared)
    by (inr (_, other)) = whether (is_declared (type q)) where
      whether : (b : Bool) → cond b [] (under q) ≡ []
      whether true = refl
      whether false = others q other

  arranged_one : 0 < n → n < 2 ^ 29 → arranged type under ≡ numbered n (under n)
  arranged_one least most =
      ap (λ rs. rs ++ run (λ q. cond (is_declared (type q)) [] (under q)) field_numbers) (run_one (λ q. cond (is_declared (type q)) (under q) []) n in_front least most)
      ∙ ap (λ rs. numbered n (cond (is_declared (type n)) (under n) []) ++ rs) (run_none (λ q. cond (is_declared (type q)) [] (under q)) behind field_numbers)
      ∙ append-nil (numbered n (cond (is_declared (type n)) (under n) []))
      ∙ ap (λ b. numbered n (cond b (under n) [])) declared

-- ---- the message

abbrev pub entry_message : Message
entry_message n = cond (n == 7) (content (single (truth true))) absent

others_absent : (n : ℕ) → n ≢ 7 → entry_message n ≡ absent
others_absent n other = by (eqb_tells n 7) where
  by : {A : Type 0} → (A × (n ≡ 7)) ⊎ (((n == 7) ≡ false) × (n ≢ 7)) → entry_message n ≡ absent
  by (inl (_, same)) = absurd (other same)
  by (inr (apart, _)) = ap (λ b. cond b (content (single (truth true))) absent) apart

here_or_absent : (n : ℕ) → (n ≡ 7) ⊎ (entry_message n ≡ absent)
here_or_absent n = by (eqb_tells n 7) where
  by : {A B : Type 0} → (A × (n ≡ 7)) ⊎ (B × (n ≢ 7)) → (n ≡ 7) ⊎ (entry_message n ≡ absent)
  by (inl (_, same)) = inl same
  by (inr (_, other)) = inr (others_absent n other)

one_record : records_bytes (records_of ((7, varint 1) ∷ [])) ≡ 56 ∷ 1 ∷ []
unfolding varint_bytes
one_record = refl

-- a number without a rival
alone_there : (type : ℕ → Option Field) (n q : ℕ) → oneof_of (type n) ≡ None → rival type n q ≡ true → ⊥
alone_there type n q alone e = true≢false (sym (and_parts (not (q == n)) (same_oneof (oneof_of (type n)) (oneof_of (type q))) e).1 ∙ ap (λ o. same_oneof o (oneof_of (type q))) alone)

nothing_held : (inner : Name → Message → Type 0) (levels : ℕ) (o : Option Field) → IsHeldOf inner levels o absent
nothing_held inner levels None = tt
nothing_held inner levels (Some f) = refl

module _ (types : Types) (t : Name) (f : Field) (is : types t 7 ≡ Some f) (kind : f.part.kind ≡ scalar kinds.bool)
    (presence : f.part.presence ≡ true) (label : f.label ≡ one) (alone : f.oneof ≡ None)
    (own : f.extension ≡ false) where
  abbrev under : ℕ → List Payload
  under n = payloads_under types (types t n) (entry_message n)

  under_here : under 7 ≡ varint 1 ∷ []
  under_here =
      ap (λ o. payloads_under types o (content (single (truth true)))) is
      ∙ ap (λ l. payloads_in types f.part l (single (truth true))) label
      ∙ ap (λ k. in_kind k (truth true)) kind

  under_others : (n : ℕ) → n ≢ 7 → under n ≡ []
  under_others n other = ap (payloads_under types (types t n)) (others_absent n other)

  -- its bytes
  entry_bytes : bytes_of types t entry_message ≡ 56 ∷ 1 ∷ []
  entry_bytes =
      ap (λ rs. records_bytes (records_of rs))
      (arranged_one (types t) under 7 under_others (ap is_declared is ∙ ap not own) (omega arith) (omega arith) ∙ ap (numbered 7) under_here)
      ∙ one_record

  truth_typed : (inner : Name → Message → Type 0) (levels : ℕ) → IsHeldOf inner levels (types t 7) (content (single (truth true)))
  truth_typed inner levels =
      subst (λ o. IsHeldOf inner levels o (content (single (truth true)))) (sym is)
      (subst (λ l. IsFieldOf inner f.part l (single (truth true))) (sym label)
      (subst (λ k. IsOf inner k (single (truth true))) (sym kind) tt, ap (λ b. b || not (same (truth true) f.part.default)) presence))

  content_typed : (inner : Name → Message → Type 0) (levels n : ℕ) → (n ≡ 7) ⊎ (entry_message n ≡ absent) → IsHeldOf inner levels (types t n) (entry_message n)
  content_typed inner levels n (inl same) = subst (λ k. IsHeldOf inner levels (types t k) (entry_message k)) (sym same) (truth_typed inner levels)
  content_typed inner levels n (inr none) = subst (IsHeldOf inner levels (types t n)) (sym none) (nothing_held inner levels (types t n))

  number_typed : (n : ℕ) → (n ≡ 7) ⊎ (entry_message n ≡ absent) → (entry_message n ≡ absent) ⊎ ((0 < n) × (n < 2 ^ 29))
  number_typed n (inl same) = inr (omega (arith, same), omega (arith, same))
  number_typed n (inr none) = inl none

  lonely : (n q : ℕ) → rival (types t) n q ≡ true → (n ≡ 7) ⊎ (entry_message n ≡ absent) → (entry_message n ≡ absent) ⊎ (entry_message q ≡ absent)
  lonely n q rivals (inl same) = absurd (alone_there (types t) n q (ap (λ k. oneof_of (types t k)) same ∙ ap oneof_of is ∙ alone) rivals)
  lonely n q rivals (inr none) = inl none

  -- it suits the type
  entry_suits : SuitsType types t entry_message
  entry_suits = record {
    numbers = λ n. number_typed n (here_or_absent n);
    contents = λ n. content_typed (IsTyped 99 types) 100 n (here_or_absent n);
    exclusive = λ n q rivals. lonely n q rivals (here_or_absent n);
  }

  held_known : (n : ℕ) → (n ≡ 7) ⊎ (entry_message n ≡ absent) → KnowsHeld types (types t n) (entry_message n)
  held_known n (inl same) = subst (λ k. KnowsHeld types (types t k) (entry_message k)) (sym same) (subst (λ o. KnowsHeld types o (content (single (truth true)))) (sym is) tt)
  held_known n (inr none) = subst (KnowsHeld types (types t n)) (sym none) refl

  -- and the type knows all of it
  pub entry_formed : AreFormOf types t entry_message (56 ∷ 1 ∷ [])
  entry_formed = record {
    suits = entry_suits;
    known = λ n. held_known n (here_or_absent n);
    written = sym entry_bytes;
  }
