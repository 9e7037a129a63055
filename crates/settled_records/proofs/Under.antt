-- What the bytes of a message say under one number.
use Rattle.std.proofs.Common.{◌≡◌, ◌≢◌, ℕ, zero, suc, ◌<◌, ◌==◌, Bool, true, false, cond, List, [], ◌∷◌, ◌++◌, map, reverse, length, get_or, Some, None, refl, sym, ap, ◌∙◌, subst, append-nil, arith}
use Rattle.std.specs.List.{AllByRecursion, filter, flat_map}
use Rattle.reflect_tables.specs.Types.{PoolType}
use Rattle.reflect_wire.specs.Encoding.{records_bytes}
use Rattle.reflect_wire.specs.Records.{Payload, varint, Records, no_records, more_records, SpellsRecords}
use Rattle.reflect_wire.specs.Views.{records_of}
use Rattle.reflect_codec.specs.Reading.{Field, Value, fields_in, number, value_of, values_at}
use Rattle.reflect_decode.specs.Keeps.{payloads}
use Rattle.reflect_decode.proofs.Keeping.{payloads_both}
use Rattle.reflect_entries.specs.Entries.{IsAscending, value_at}
use Rattle.reflect_message.specs.Bytes.{declared_bytes, form_of, forms, message_bytes, others_down}
use Rattle.reflect_message.specs.Held.{fields_of, extensions_of, unknown_of}
use Rattle.reflect_message.specs.Known.{known_extension}
use Rattle.reflect_message.specs.Names as held
use Rattle.reflect_message.specs.Names.{DynamicMessage}
use Rattle.message_view.proofs.Forms.{bytes_opened}
use Rattle.protobuf_model.proofs.Bridge.{bytes_join}
use Rattle.settled_records.proofs.Fronts.{Alike, AreAlike, read_alike}
use Rattle.settled_records.proofs.Written.{AllOf, OfExtensions, all_forms, declared_written, one_behind, others, others_written, no_bytes, written}

-- no record is of the number
abbrev pub Lacks : ℕ → List (ℕ × Payload) → Type 0
Lacks n = AllByRecursion (λ r. r.0 ≢ n)

-- the bytes are those of records, of which these are the number's
abbrev pub Writes : ℕ → List Payload → List ℕ → Type 0
Writes n ps bytes = (rs : List (ℕ × Payload)) × (bytes ≡ records_bytes (records_of rs)) × (payloads n rs ≡ ps)

none_numbered : (n : ℕ) (rs : List (ℕ × Payload)) → Lacks n rs → payloads n rs ≡ []
none_numbered n [] h = refl
none_numbered n (r ∷ rs) h = by (r.0 == n) refl (none_numbered n rs h.1) where
  by : (b : Bool) → (r.0 == n) ≡ b → payloads n rs ≡ [] → map (λ (r : ℕ × Payload). r.1) (cond b (r ∷ filter (λ r. r.0 == n) rs) (filter (λ r. r.0 == n) rs)) ≡ []
  by true is e = absurd (h.0 (grind (arith, is)))
  by false is e = e

writes_none : (n : ℕ) (bytes : List ℕ) → AllOf (λ k. k ≢ n) bytes → Writes n [] bytes
writes_none n bytes h = (h.0, h.1, none_numbered n h.0 h.2)

writes_both : (n : ℕ) (ps qs : List Payload) (a b : List ℕ) → Writes n ps a → Writes n qs b → Writes n (ps ++ qs) (a ++ b)
writes_both n ps qs a b h k = (
  h.0 ++ k.0,
  ap (λ x. x ++ b) h.1 ∙ ap (λ x. records_bytes (records_of h.0) ++ x) k.1 ∙ sym (bytes_join h.0 k.0),
  payloads_both n h.0 k.0 ∙ ap (λ x. x ++ payloads n k.0) h.2 ∙ ap (λ x. ps ++ x) k.2,
)

-- in front of records of other numbers, and behind them
writes_before : (n : ℕ) (ps : List Payload) (a b : List ℕ) → Writes n ps a → AllOf (λ k. k ≢ n) b → Writes n ps (a ++ b)
writes_before n ps a b h k = subst (λ qs. Writes n qs (a ++ b)) (append-nil ps) (writes_both n ps [] a b h (writes_none n b k))

writes_behind : (n : ℕ) (ps : List Payload) (a b : List ℕ) → AllOf (λ k. k ≢ n) a → Writes n ps b → Writes n ps (a ++ b)
writes_behind n ps a b h k = writes_both n [] ps a b (writes_none n a h) k

-- ---- fields

other_field : (pool : PoolType) (i n k : ℕ) (v : held.Value) → k ≢ n → AllOf (λ k. k ≢ n) (declared_bytes pool i (k, form_of v))
other_field pool i n k v other = others (λ j. j ≡ k) (λ j. j ≢ n) (λ j same is. other (sym same ∙ is)) (declared_bytes pool i (k, form_of v)) (declared_written pool i k (form_of v) (written v))

fields_above : (pool : PoolType) (i n : ℕ) (es : List (ℕ × held.Value)) → AllByRecursion (λ (e : ℕ × held.Value). n < e.0) es → AllOf (λ k. k ≢ n) (flat_map (declared_bytes pool i) (forms es))
fields_above pool i n [] h = no_bytes (λ k. k ≢ n)
fields_above pool i n (e ∷ es) h =
    let less = h.0 in
    let other : e.0 ≢ n = λ is. omega (arith, is, less) in
    one_behind (λ k. k ≢ n) (declared_bytes pool i (e.0, form_of e.1)) (flat_map (declared_bytes pool i) (forms es)) (other_field pool i n e.0 e.1 other) (fields_above pool i n es h.1)

above_all : (b : ℕ) (es : List (ℕ × held.Value)) → ((k : ℕ) (d : ℕ × held.Value) → k < length es → b < (get_or es k d).0) → AllByRecursion (λ (e : ℕ × held.Value). b < e.0) es
above_all b [] h = tt
above_all b (e ∷ es) h = (h zero e (omega arith), above_all b es (λ k d lt. h (suc k) d (omega arith)))

behind_first : (e : ℕ × held.Value) (es : List (ℕ × held.Value)) → IsAscending (e ∷ es) → AllByRecursion (λ (d : ℕ × held.Value). e.0 < d.0) es
behind_first e es up = above_all e.0 es (λ k d lt. up zero (suc k) d (omega arith) (omega arith))

ascending_behind : (e : ℕ × held.Value) (es : List (ℕ × held.Value)) → IsAscending (e ∷ es) → IsAscending es
ascending_behind e es up i j d less lt = up (suc i) (suc j) d (omega arith) (omega arith)

module _ (pool : PoolType) (i n : ℕ) (ps : List Payload) where
  -- what the value under the number, if there is one, is written in
  abbrev Tells : List (ℕ × held.Value) → Type 0
  Tells es = ((v : held.Value) → value_at es n ≡ Some v → Writes n ps (declared_bytes pool i (n, form_of v))) × (value_at es n ≡ None → ps ≡ [])

  fields_under : (es : List (ℕ × held.Value)) → IsAscending es → Tells es → Writes n ps (flat_map (declared_bytes pool i) (forms es))
  fields_under [] up tells = ([], refl, sym (tells.1 refl))
  fields_under (e ∷ es) up tells = by (n == e.0) refl (λ k. fields_under es (ascending_behind e es up) k) where
    rest : List ℕ
    rest = flat_map (declared_bytes pool i) (forms es)

    by : (b : Bool) → (n == e.0) ≡ b → (Tells es → Writes n ps rest) → Writes n ps (declared_bytes pool i (e.0, form_of e.1) ++ rest)
    by true is behind =
        let same : n ≡ e.0 = grind (arith, is) in
        let here = tells.0 e.1 (ap (λ b. cond b (Some e.1) (value_at es n)) is) in
        writes_before n ps (declared_bytes pool i (e.0, form_of e.1)) rest (subst (λ k. Writes n ps (declared_bytes pool i (k, form_of e.1))) same here)
        (fields_above pool i n es (subst (λ k. AllByRecursion (λ (d : ℕ × held.Value). k < d.0) es) (sym same) (behind_first e es up)))
    by false is behind =
        let other : e.0 ≢ n = λ same. grind (arith, is, same) in
        let found : value_at (e ∷ es) n ≡ value_at es n = ap (λ b. cond b (Some e.1) (value_at es n)) is in
        writes_behind n ps (declared_bytes pool i (e.0, form_of e.1)) rest (other_field pool i n e.0 e.1 other)
        (behind ((λ v there. tells.0 v (found ∙ there)), λ none. tells.1 (found ∙ none)))

-- ---- a message

module _ (m : DynamicMessage) (n : ℕ) (ps : List Payload) where
  -- where nothing but a field may have the number, its value tells what stands under it
  pub message_under : IsAscending (fields_of m) → known_extension m.descriptor.pool.now m.descriptor.index n ≡ None → Lacks n (unknown_of m)
      → ((v : held.Value) → value_at (fields_of m) n ≡ Some v → Writes n ps (declared_bytes m.descriptor.pool.now m.descriptor.index (n, form_of v)))
      → (value_at (fields_of m) n ≡ None → ps ≡ []) → Writes n ps (message_bytes m)
  message_under up none lacks here nothing =
      let p = m.descriptor.pool.now in
      let i = m.descriptor.index in
      let apart : OfExtensions (λ k. k ≢ n) p i = λ k f is same. cc (sym is ∙ ap (known_extension p i) same ∙ none) in
      subst (Writes n ps) (sym (bytes_opened m))
      (writes_before n ps (flat_map (declared_bytes p i) (forms (fields_of m))) (others_down p i (reverse (forms (extensions_of m))) (unknown_of m))
      (fields_under p i n ps (fields_of m) up (here, nothing))
      (others_written (λ k. k ≢ n) p i apart (forms (extensions_of m)) (all_forms (extensions_of m)) (unknown_of m) lacks))

-- ---- what is read of it

-- what is read of payloads that were written
abbrev Said : Payload → Value → Type 0
Said (varint v) x = x ≡ number v
Said _ x = Unit {0}

abbrev AreSaid : List Payload → List Value → Type 0
AreSaid [] [] = Unit {0}
AreSaid (p ∷ ps) (x ∷ xs) = Said p x × AreSaid ps xs
AreSaid _ _ = ⊥

one_said : (p q : Payload) → Alike p q → Said p (value_of q)
one_said (varint v) q h = ap value_of h
one_said p q h = tt

all_said : (n : ℕ) (rs : List (ℕ × Payload)) (ss : Records) → AreAlike (records_of rs) ss → AreSaid (payloads n rs) (values_at n (fields_in ss))
all_said n [] no_records h = tt
all_said n [] (more_records m q ss) h = absurd h
all_said n (r ∷ rs) no_records h = absurd h
all_said n (r ∷ rs) (more_records m q ss) h = subst (λ k. AreSaid (payloads n (r ∷ rs)) (values_at n ((k, value_of q) ∷ fields_in ss))) (sym h.0) (by (r.0 == n) (all_said n rs ss h.2)) where
  by : (b : Bool) → AreSaid (payloads n rs) (values_at n (fields_in ss))
      → AreSaid (map (λ (r : ℕ × Payload). r.1) (cond b (r ∷ filter (λ r. r.0 == n) rs) (filter (λ r. r.0 == n) rs)))
      (map (λ (f : Field). f.1) (cond b ((r.0, value_of q) ∷ filter (λ (f : Field). f.0 == n) (fields_in ss)) (filter (λ (f : Field). f.0 == n) (fields_in ss))))
  by true k = (one_said r.1 q h.1, k)
  by false k = k

under_said : (levels n : ℕ) (bytes : List ℕ) (ps : List Payload) (ss : Records) → Writes n ps bytes → SpellsRecords levels bytes ss → AreSaid ps (values_at n (fields_in ss))
under_said levels n bytes ps ss w h = subst (λ qs. AreSaid qs (values_at n (fields_in ss))) w.2 (all_said n w.0 ss (read_alike levels bytes (records_of w.0) ss h w.1))

no_values : (xs : List Value) → AreSaid [] xs → xs ≡ []
no_values [] h = refl
no_values (x ∷ xs) h = absurd h

one_value : (v : ℕ) (xs : List Value) → AreSaid (varint v ∷ []) xs → xs ≡ number v ∷ []
one_value v [] h = absurd h
one_value v (x ∷ []) h = ap (λ y. y ∷ []) h.0
one_value v (x ∷ y ∷ xs) h = absurd h.1

-- nothing is read under a number that nothing is written under
pub none_read : (levels n : ℕ) (bytes : List ℕ) (ss : Records) → Writes n [] bytes → SpellsRecords levels bytes ss → values_at n (fields_in ss) ≡ []
none_read levels n bytes ss w h = no_values (values_at n (fields_in ss)) (under_said levels n bytes [] ss w h)

-- a number is read where it alone is written
pub one_read : (levels n v : ℕ) (bytes : List ℕ) (ss : Records) → Writes n (varint v ∷ []) bytes → SpellsRecords levels bytes ss → values_at n (fields_in ss) ≡ number v ∷ []
one_read levels n v bytes ss w h = one_value v (values_at n (fields_in ss)) (under_said levels n bytes (varint v ∷ []) ss w h)
