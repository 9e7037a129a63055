-- The truth value that a message says under a number is the one that is read of its bytes.
use Rattle.std.proofs.Common.{◌≡◌, ℕ, Bool, true, false, cond, not, List, [], ◌∷◌, Option, Some, None, refl, sym, ap, ◌∙◌, subst, append-nil}
use Rattle.std.specs.Option.{option_and_then}
use Rattle.std.specs.Prelude.{◌||◌, if◌then◌else◌}
use Rattle.reflect_tables.specs.Types.{FieldType}
use Rattle.reflect_tables.specs.Types as types
use Rattle.reflect_wire.specs.Encoding.{field_bytes}
use Rattle.reflect_wire.specs.Records.{Payload, Records, SpellsRecords}
use Rattle.reflect_codec.specs.Reading.{IsBool, IsLast, Value, fields_in, number, values_at}
use Rattle.reflect_decode.proofs.Keeping.{payloads_own}
use Rattle.reflect_entries.specs.Entries.{IsAscending, value_at}
use Rattle.reflect_scalar.specs.Cases.{truth_of}
use Rattle.reflect_scalar.specs.Singles.{Single, truth, int32, int64, uint32, uint64, text, blob, enumerated}
use Rattle.reflect_message.specs.Bytes.{Form, content_bytes, declared_bytes, form_of, is_default, is_set, message_bytes, payload_in, record_in, single_form}
use Rattle.reflect_message.specs.Held.{fields_of, unknown_of}
use Rattle.reflect_message.specs.Known.{known_field, known_extension}
use Rattle.reflect_message.specs.Names as held
use Rattle.reflect_message.specs.Names.{DynamicMessage}
use Rattle.reflect_message.specs.Present.{held_if_set}
use Rattle.reflect_message.specs.Singles.{single}
use Rattle.reflect_options.specs.Settled.{truth_in, truth_said}
use Rattle.message_view.proofs.Forms.{single_form_seen}
use Rattle.settled_records.proofs.Written.{known_number}
use Rattle.settled_records.proofs.Under.{Lacks, Writes, message_under, none_read, one_read}
use Rattle.settled_records.proofs.Kept.{PlainAt}

-- what a truth value is written as, and nothing else
abbrev truths : Single → List Payload
truths w = elim (payload_in types.bool w) [ None ↦ [] | Some p ↦ p ∷ [] ]

record_truths : (n : ℕ) (w : Single) → Writes n (truths w) (record_in types.bool n (Some w))
record_truths n w = by (payload_in types.bool w) where
  by : (o : Option Payload) → Writes n (elim o [ None ↦ [] | Some p ↦ p ∷ [] ]) (elim o [ None ↦ [] | Some p ↦ field_bytes (n, p) ])
  by None = ([], refl, refl)
  by (Some p) = ((n, p) ∷ [], sym (append-nil (field_bytes (n, p))), payloads_own n (p ∷ []))

last_of : (xs : List Value) (o : Option Bool) → xs ≡ [] → o ≡ None → IsLast IsBool xs o
last_of xs o e f = subst (λ ys. IsLast IsBool ys o) (sym e) ([], tt, f)

last_one : (b : Bool) → IsLast IsBool (number (if b then 1 else 0) ∷ []) (Some b)
last_one true = (true ∷ [], ((1, refl, refl), tt), refl)
last_one false = (false ∷ [], ((0, refl, refl), tt), refl)

module _ (m : DynamicMessage) (n : ℕ) (f : FieldType) (is : known_field m.descriptor.pool.now m.descriptor.index n ≡ Some f) (kind : f.kind ≡ types.bool) (presence : f.presence ≡ true) where
  set : (w : Form) → is_set m.descriptor.pool.now f w ≡ true
  set w = ap (λ b. b || elim w.single [ None ↦ w.filled | Some v ↦ not (is_default m.descriptor.pool.now f (Some v)) ]) presence

  declared_truths : (v : held.Value) (w : Single) → single v ≡ Some w → Writes n (truths w) (declared_bytes m.descriptor.pool.now m.descriptor.index (n, form_of v))
  declared_truths v w e =
      let pool = m.descriptor.pool.now in
      let whole : declared_bytes pool m.descriptor.index (n, form_of v) ≡ record_in types.bool n (Some w) =
      ap (λ o. declared_bytes pool m.descriptor.index (n, o)) (single_form_seen v w e)
      ∙ ap (λ o. elim o [ None ↦ [] | Some f ↦ content_bytes pool f (single_form w) ]) is
      ∙ ap (λ b. cond b (record_in f.kind f.number (Some w)) []) (set (single_form w))
      ∙ ap (λ k. record_in k f.number (Some w)) kind ∙ ap (λ k. record_in types.bool k (Some w)) (known_number pool m.descriptor.index n f is) in
      subst (Writes n (truths w)) (sym whole) (record_truths n w)

  abbrev said : Option held.Value → Option Bool
  said o = truth_in (held_if_set m.descriptor.pool.now f o)

  said_is : truth_said n m ≡ said (value_at (fields_of m) n)
  said_is = ap (option_and_then (λ f. truth_in (held_if_set m.descriptor.pool.now f (value_at (fields_of m) n)))) is

  said_one : (v : held.Value) (w : Single) → single v ≡ Some w → said (Some v) ≡ truth_of w
  said_one v w e = ap (λ b. truth_in (cond b (Some v) None)) (set (form_of v)) ∙ ap (option_and_then truth_of) e

  module _ (up : IsAscending (fields_of m)) (none : known_extension m.descriptor.pool.now m.descriptor.index n ≡ None) (lacks : Lacks n (unknown_of m)) (levels : ℕ) (ss : Records) (spells : SpellsRecords levels (message_bytes m) ss) where
    nothing_there : value_at (fields_of m) n ≡ None → IsLast IsBool (values_at n (fields_in ss)) (truth_said n m)
    nothing_there e =
        let writes : Writes n [] (message_bytes m) = message_under m n [] up none lacks (λ v there. absurd (cc (sym e ∙ there))) (λ gone. refl) in
        last_of (values_at n (fields_in ss)) (truth_said n m) (none_read levels n (message_bytes m) ss writes spells) (said_is ∙ ap said e)

    one_there : (v : held.Value) (w : Single) → value_at (fields_of m) n ≡ Some v → single v ≡ Some w → IsLast IsBool (values_at n (fields_in ss)) (truth_said n m)
    one_there v w e one = by w one (message_under m n (truths w) up none lacks (λ u there. declared_truths u w (same u there)) (λ gone. absurd (cc (sym e ∙ gone)))) where
      same : (u : held.Value) → value_at (fields_of m) n ≡ Some u → single u ≡ Some w
      same u there = ap (λ o. option_and_then single o) (sym there ∙ e) ∙ one

      says : (w : Single) → single v ≡ Some w → truth_said n m ≡ truth_of w
      says w one = said_is ∙ ap said e ∙ said_one v w one

      no_truth : (w : Single) → single v ≡ Some w → truth_of w ≡ None → Writes n [] (message_bytes m) → IsLast IsBool (values_at n (fields_in ss)) (truth_said n m)
      no_truth w one other writes = last_of (values_at n (fields_in ss)) (truth_said n m) (none_read levels n (message_bytes m) ss writes spells) (says w one ∙ other)

      by : (w : Single) → single v ≡ Some w → Writes n (truths w) (message_bytes m) → IsLast IsBool (values_at n (fields_in ss)) (truth_said n m)
      by (truth b) one writes =
          let values : values_at n (fields_in ss) ≡ number (if b then 1 else 0) ∷ [] = one_read levels n (if b then 1 else 0) (message_bytes m) ss writes spells in
          subst (IsLast IsBool (values_at n (fields_in ss))) (sym (says (truth b) one)) (subst (λ xs. IsLast IsBool xs (Some b)) (sym values) (last_one b))
      by (int32 z) one writes = no_truth (int32 z) one refl writes
      by (int64 z) one writes = no_truth (int64 z) one refl writes
      by (uint32 k) one writes = no_truth (uint32 k) one refl writes
      by (uint64 k) one writes = no_truth (uint64 k) one refl writes
      by (text t) one writes = no_truth (text t) one refl writes
      by (blob b) one writes = no_truth (blob b) one refl writes
      by (enumerated z) one writes = no_truth (enumerated z) one refl writes

    -- the last of the number's values is what the message says, and each of them is a truth value
    pub truth_read : PlainAt n m → IsLast IsBool (values_at n (fields_in ss)) (truth_said n m)
    truth_read plain = by (value_at (fields_of m) n) refl where
      by : (o : Option held.Value) → value_at (fields_of m) n ≡ o → IsLast IsBool (values_at n (fields_in ss)) (truth_said n m)
      by None e = nothing_there e
      by (Some v) e = let one = plain v e in one_there v one.0 e one.1
