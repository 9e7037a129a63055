-- Where a refusal is true, no accepted records stand.
use Rattle.std.proofs.Common.{◌≡◌, ◌≢◌, ◌⊎◌, inl, inr, ℕ, zero, suc, ◌-◌, ◌==◌, ◌<◌, Bool, true, false, cond, List, [], ◌∷◌, ◌++◌, map, Option, None, Some, refl, sym, not, ◌&&◌, ap, ◌∙◌, subst, append_assoc, arith}
use Rattle.std.specs.List.{AllByRecursion, filter}
use Rattle.reflect_tables.specs.Types.{PoolType, FieldType, KindType}
use Rattle.reflect_tables.specs.Types as types
use Rattle.reflect_pool.specs.Kinds.{IsKind}
use Rattle.reflect_pool.specs.Shapes.{holds_list, holds_map, is_entry, is_repeated}
use Rattle.reflect_pool.specs.declared.kind.Kind.{Kind}
use Rattle.reflect_pool.specs.declared.kind.Kind.TheVariants as kinds
use Rattle.reflect_pool.specs.declared.message.MessageDescriptor.{MessageDescriptor}
use Rattle.reflect_wire.specs.Key.{IsKey, IsDelimited}
use Rattle.reflect_wire.specs.Reads.{Fronts}
use Rattle.reflect_wire.specs.Records.{Payload, delimited, group, wire_of, key_of, SpellsPayload, SpellsRecords, IsValue}
use Rattle.reflect_wire.specs.Views.{records_of}
use Rattle.reflect_wire.specs.declared.wire_error.WireError.{WireError}
use Rattle.reflect_wire.specs.declared.wire_key.WireKey.{WireKey}
use Rattle.reflect_wire.specs.declared.wire_key.WireType.TheVariants as wires
use Rattle.reflect_wire.proofs.Unique.{one_key, one_payload, one_delimited, not_end, regrouped}
use Rattle.reflect_scalar.specs.Kinds.{kind_type, packs}
use Rattle.reflect_wire.specs.Faults.{KeyFault, IsEndMismatch}
use Rattle.reflect_scalar.specs.Meaning.{StandsFor, ScalarFault}
use Rattle.reflect_scalar.specs.Singles.{Single}
use Rattle.reflect_scalar.proofs.Defaulted.{kind_is}
use Rattle.reflect_scalar.proofs.Meanings.{form_of_meaning}
use Rattle.reflect_message.specs.KindTypes.{IsMessageType}
use Rattle.reflect_message.specs.Known.{entry_field}
use Rattle.reflect_decode.specs.Accepts.{Acceptable, AcceptsKind, AcceptsElement, AcceptsOne, AcceptsListed, AcceptsEntry, AcceptsAs, AcceptsIf, AcceptsRecord, AcceptsMessage, declared_at}
use Rattle.reflect_decode.specs.Elements.{IsRow}
use Rattle.reflect_decode.specs.Keeps.{payloads}
use Rattle.reflect_decode.specs.Packed.{IsPacked}
use Rattle.reflect_decode.specs.Refused.{Refusal, MessageFault, KindFault, IsPackedKey, RowFault, ElementFault, OneFault, ListedFault, OtherFault, PartFault, EntryFault, MapFault, FaultAs, RecordFault, IsWrongEnd, BodyBy, Within, BodyFault}
use Rattle.message_laws.specs.MapKeys.{HaveMapKeys}
use Rattle.message_laws.proofs.Alike.{same_type, same_form, same_meaning, same_packed, plain}
use Rattle.message_laws.proofs.Values.{no_key_there, no_delimited_there, no_scalar_there, no_packed_there}

message_of : (l : Kind) (i : ℕ) → kind_type l ≡ types.message i → (d : MessageDescriptor) × (l ≡ kinds.Message d)
message_of (kinds.Message d) i e = (d, refl)
message_of l i e = absurd (cc e)

-- a map's field is one of entries
map_entry : (pool : PoolType) (f : FieldType) → holds_map pool f ≡ true → is_entry pool f.kind ≡ true
map_entry pool f e = by (is_entry pool f.kind) e where
  by : (b : Bool) → (b && (is_repeated f.cardinality && not f.group)) ≡ true → b ≡ true
  by true k = refl
  by false k = absurd (cc k)

no_front_byte : (front rest : List ℕ) (key : WireKey) → IsKey front key → [] ≡ front ++ rest → ⊥
no_front_byte [] rest key k e = k.spelled.spelled
no_front_byte (b ∷ front) rest key k e = absurd (cc e)

-- what the records behind those that were read are: the first of them has its key and its value in front
module _ (levels : ℕ) (P : ℕ × Payload → Type 0) where
  behind : (front rest body : List ℕ) (done rs : List (ℕ × Payload)) → SpellsRecords levels front (records_of done) → SpellsRecords levels body (records_of rs) → front ++ rest ≡ body → AllByRecursion P rs
      → (ts : List (ℕ × Payload)) × SpellsRecords levels rest (records_of ts) × AllByRecursion P ts
  behind front rest body [] rs h k e all = (rs, subst (λ b. SpellsRecords levels b (records_of rs)) (sym e ∙ ap (λ f. f ++ rest) h) k, all)
  behind front rest body (r ∷ done) [] h k e all =
      absurd (no_front_byte h.0 (h.1 ++ (h.2 ++ rest)) _ h.3 (sym k ∙ sym e ∙ ap (λ f. f ++ rest) h.6 ∙ simp append_assoc))
  behind front rest body (r ∷ done) (s ∷ rs) h k e all =
      let whole : h.0 ++ (h.1 ++ (h.2 ++ rest)) ≡ k.0 ++ (k.1 ++ k.2) = sym (simp append_assoc) ∙ ap (λ f. f ++ rest) (sym h.6) ∙ e ∙ k.6 in
      let one = one_key h.0 k.0 _ _ _ _ h.3 k.3 whole in
      let number : r.0 ≡ s.0 = ap (λ (c : WireKey). c.number) one.1 in
      let value = one_payload levels r.0 h.1 k.1 _ _ r.1 s.1 (ap (λ (c : WireKey). c.wire) one.1) h.4 (subst (λ n. SpellsPayload levels n k.1 s.1) (sym number) k.4) one.2 in
      behind h.2 rest k.2 done rs h.5 k.5 value.2 all.1

-- what a refusal one level below is no acceptance of
record Excludes (inner : Refusal) (accepts : Acceptable) (levels : ℕ) (pool : PoolType) : Type 0 where
  sized : (i : ℕ) (body : List ℕ) (e : WireError) → inner pool i None body e → accepts false pool i (delimited body) → ⊥
  tagged : (i n : ℕ) (bytes front rest : List ℕ) (e : WireError) (p : Payload) → inner pool i (Some n) bytes e → wire_of p ≡ wires.StartGroup → SpellsPayload levels n front p → bytes ≡ front ++ rest → accepts true pool i p → ⊥
  forms : (grouped : Bool) (i : ℕ) (p : Payload) → accepts grouped pool i p → wire_of p ≡ cond grouped wires.StartGroup wires.LengthDelimited

module _ (pool : PoolType) (keyed : HaveMapKeys pool) (levels : ℕ) (inner : Refusal) (accepts : Acceptable) (excludes : Excludes inner accepts levels pool) where
  module _ (key : WireKey) (bytes front rest : List ℕ) (e : WireError) (p : Payload) (value : IsValue levels key front p) (is : bytes ≡ front ++ rest) where
    -- of a length and its bytes
    delimited_is : (body : List ℕ) → p ≡ delimited body → IsDelimited front body
    delimited_is body same = subst (SpellsPayload levels key.number front) same value.1

    in_message : (grouped : Bool) (i : ℕ) → MessageFault inner grouped pool i key bytes e → accepts grouped pool i p → ⊥
    in_message false i (inl other) h = other.0 (value.0 ∙ excludes.forms false i p h)
    in_message false i (inr (wire, inl fault)) h = by p refl h where
      by : (q : Payload) → p ≡ q → accepts false pool i q → ⊥
      by (delimited body) same k = no_delimited_there bytes e fault front rest body (delimited_is body same) is
      by q same k = absurd (cc (excludes.forms false i q k))
    in_message false i (inr (wire, inr fault)) h = by p refl h where
      by : (q : Payload) → p ≡ q → accepts false pool i q → ⊥
      by (delimited body) same k =
          let one = one_delimited fault.2.0 front fault.1 rest fault.0 body fault.2.1 (delimited_is body same) (sym fault.2.2 ∙ is) in
          excludes.sized i fault.0 e fault.3 (subst (λ b. accepts false pool i (delimited b)) (sym one.1) k)
      by q same k = absurd (cc (excludes.forms false i q k))
    in_message true i (inl other) h = other.0 (value.0 ∙ excludes.forms true i p h)
    in_message true i (inr (wire, fault)) h = excludes.tagged i key.number bytes front rest e p fault (excludes.forms true i p h) value.1 is h

    accepted_value : (grouped : Bool) (l : Kind) → ((d : MessageDescriptor) → l ≡ kinds.Message d → ⊥) → AcceptsKind accepts grouped l p → (v : Single) × StandsFor l p v
    accepted_value grouped (kinds.Message d) other h = absurd (other d refl)
    accepted_value grouped l other h = h

    -- a value that is single, of either public kind of the type
    in_scalar : (k l : Kind) → kind_type k ≡ kind_type l → ScalarFault k key.wire bytes e → (v : Single) → StandsFor l p v → ⊥
    in_scalar k l same fault v means =
        let meant = same_meaning k l p v same means in
        no_scalar_there k key.wire bytes e fault front rest v (p, (value.0, plain k levels key.number front p v meant value.1), meant) is

    module _ (t : KindType) where
      in_kind : (grouped : Bool) (k l : Kind) → IsKind pool k t → IsKind pool l t → KindFault inner grouped k key bytes e → AcceptsKind accepts grouped l p → ⊥
      in_kind grouped (kinds.Message d) l is_k is_l fault h =
          let found = message_of l d.index (sym (kind_is pool l t is_l) ∙ is_k.1) in
          let of_pool = subst (λ q. MessageFault inner grouped q d.index key bytes e) is_k.0 fault in
          let is_f = subst (λ k. IsKind pool k t) found.1 is_l in
          let same : found.0.index ≡ d.index = cc (sym is_f.1 ∙ is_k.1) in
          let taken = subst (λ k. AcceptsKind accepts grouped k p) found.1 h in
          in_message grouped d.index of_pool (subst (λ i. accepts grouped pool i p) same (subst (λ q. accepts grouped q found.0.index p) is_f.0 taken))
      in_kind grouped k l is_k is_l fault h =
          let same = same_type pool t k l is_k is_l in
          let v = accepted_value grouped l (λ d e. absurd (cc (same, ap kind_type e))) h in
          in_scalar k l same fault v.0 v.1

      -- values that are packed
      in_row : (k l : Kind) (vs : List Single) → IsKind pool k t → IsKind pool l t → RowFault k bytes e → IsRow l p vs → ⊥
      in_row k l vs is_k is_l (inl fault) h = no_delimited_there bytes e fault front rest h.0 (delimited_is h.0 h.1) is
      in_row k l vs is_k is_l (inr fault) h =
          let one = one_delimited fault.2.0 front fault.1 rest fault.0 h.0 fault.2.1 (delimited_is h.0 h.1) (sym fault.2.2 ∙ is) in
          no_packed_there k fault.0 e fault.3 vs (subst (λ b. IsPacked k b vs) (sym one.1) (same_packed k l h.0 vs (same_type pool t k l is_k is_l) h.3))

      packed_key : (k l : Kind) (vs : List Single) → IsKind pool k t → IsKind pool l t → IsRow l p vs → IsPackedKey k key
      packed_key k l vs is_k is_l h = (value.0 ∙ ap wire_of h.1, ap packs (same_form k l (same_type pool t k l is_k is_l)) ∙ h.2)

      -- no single value has the key of packed ones
      not_packed : (k l : Kind) (grouped : Bool) → IsKind pool k t → IsKind pool l t → IsPackedKey k key → AcceptsKind accepts grouped l p → ⊥
      not_packed (kinds.Message d) l grouped is_k is_l packed h = absurd (cc (packed.1))
      not_packed k l grouped is_k is_l packed h =
          let same = same_type pool t k l is_k is_l in
          let v = accepted_value grouped l (λ d e. absurd (cc (same, ap kind_type e))) h in
          let form = form_of_meaning k p v.0 (same_meaning k l p v.0 same v.1) in
          absurd (cc (packed.0, packed.1, value.0, form))

      in_element : (grouped : Bool) (k l : Kind) → IsKind pool k t → IsKind pool l t → ElementFault inner grouped k key bytes e → AcceptsElement accepts grouped l p → ⊥
      in_element grouped k l is_k is_l (inl fault) (inl h) = in_kind grouped k l is_k is_l fault.1 h
      in_element grouped k l is_k is_l (inl fault) (inr h) = fault.0 (packed_key k l h.0 is_k is_l h.1)
      in_element grouped k l is_k is_l (inr fault) (inl h) = not_packed k l grouped is_k is_l fault.0 h
      in_element grouped k l is_k is_l (inr fault) (inr h) = in_row k l h.0 is_k is_l fault.1 h.1

    in_one : (f : FieldType) → OneFault inner pool f key bytes e → AcceptsOne accepts pool f p → ⊥
    in_one f fault h = in_kind f.kind f.group fault.0 h.0 fault.1 h.1 fault.2 h.2

    in_listed : (f : FieldType) → ListedFault inner pool f key bytes e → AcceptsListed accepts pool f p → ⊥
    in_listed f fault h = in_element f.kind f.group fault.0 h.0 fault.1 h.1 fault.2 h.2

    in_other : OtherFault levels key bytes e → ⊥
    in_other fault = fault.0 front rest p value is

  -- a record of an entry: of its key, of its value, or another
  abbrev AcceptsPart : FieldType → FieldType → ℕ × Payload → Type 0
  AcceptsPart keys values r = (r.0 ≡ 1 → AcceptsOne accepts pool keys r.1) × (r.0 ≡ 2 → AcceptsOne accepts pool values r.1)

  abbrev AreOf : ℕ → FieldType → List (ℕ × Payload) → Type 0
  AreOf n f rs = AllByRecursion (AcceptsOne accepts pool f) (payloads n rs)

  first_of : (n : ℕ) (f : FieldType) (r : ℕ × Payload) (rs : List (ℕ × Payload)) → AreOf n f (r ∷ rs) → r.0 ≡ n → AcceptsOne accepts pool f r.1
  first_of n f r rs h is =
      let test : (r.0 == n) ≡ true = grind (arith, is) in
      let all = filter (λ (r : ℕ × Payload). r.0 == n) rs in
      (subst (λ b. AllByRecursion (AcceptsOne accepts pool f) (map (λ (r : ℕ × Payload). r.1) (cond b (r ∷ all) all))) test h).0

  others_of : (n : ℕ) (f : FieldType) (r : ℕ × Payload) (rs : List (ℕ × Payload)) → AreOf n f (r ∷ rs) → AreOf n f rs
  others_of n f r rs h = by (r.0 == n) h where
    by : (b : Bool) → AllByRecursion (AcceptsOne accepts pool f) (map (λ (r : ℕ × Payload). r.1) (cond b (r ∷ filter (λ (r : ℕ × Payload). r.0 == n) rs) (filter (λ (r : ℕ × Payload). r.0 == n) rs))) → AreOf n f rs
    by true k = k.1
    by false k = k

  all_parts : (keys values : FieldType) (rs : List (ℕ × Payload)) → AreOf 1 keys rs → AreOf 2 values rs → AllByRecursion (AcceptsPart keys values) rs
  all_parts keys values [] one two = tt
  all_parts keys values (r ∷ rs) one two =
      (((λ is. first_of 1 keys r rs one is), λ is. first_of 2 values r rs two is), all_parts keys values rs (others_of 1 keys r rs one) (others_of 2 values r rs two))

  -- behind the records that were read stands another, whose key and value are in front
  module _ (bytes rest : List ℕ) (done : List (ℕ × Payload)) (found : Fronts (SpellsRecords levels) bytes (records_of done) rest) (P : ℕ × Payload → Type 0) (rs : List (ℕ × Payload)) (spelled : SpellsRecords levels bytes (records_of rs)) (all : AllByRecursion P rs) where
    abbrev Next : Type 0
    Next = (r : ℕ × Payload) × (key value more : List ℕ) × P r × IsKey key (key_of r.0 (wire_of r.1)) × SpellsPayload levels r.0 value r.1 × (rest ≡ key ++ (value ++ more))

    next : (rest ≡ []) ⊎ Next
    next = by left.0 left.1 left.2 where
      left : (ts : List (ℕ × Payload)) × SpellsRecords levels rest (records_of ts) × AllByRecursion P ts
      left = behind levels P found.0 rest bytes done rs found.1 spelled (sym found.2) all

      by : (ts : List (ℕ × Payload)) → SpellsRecords levels rest (records_of ts) → AllByRecursion P ts → (rest ≡ []) ⊎ Next
      by [] h k = inl h
      by (t ∷ ts) h k = inr (t, h.0, h.1, h.2, k.0, h.3, h.4, h.6)

    no_key_next : (e : WireError) → rest ≢ [] → KeyFault rest e → ⊥
    no_key_next e some fault = by next where
      by : (rest ≡ []) ⊎ Next → ⊥
      by (inl none) = some none
      by (inr r) = no_key_there rest e fault r.1 (r.2 ++ r.3) (key_of r.0.0 (wire_of r.0.1)) r.5 r.7

    -- the key that was read is the next record's
    keyed_next : (key : WireKey) (behind_key : List ℕ) → Fronts IsKey rest key behind_key → (r : ℕ × Payload) × (value more : List ℕ) × P r × (key ≡ key_of r.0 (wire_of r.1)) × IsValue levels key value r.1 × (behind_key ≡ value ++ more)
    keyed_next key behind_key k = by next where
      by : (rest ≡ []) ⊎ Next → (r : ℕ × Payload) × (value more : List ℕ) × P r × (key ≡ key_of r.0 (wire_of r.1)) × IsValue levels key value r.1 × (behind_key ≡ value ++ more)
      by (inl none) = absurd (no_front_byte k.0 behind_key key k.1 (sym none ∙ k.2))
      by (inr r) =
          let one = one_key k.0 r.1 _ _ _ _ k.1 r.5 (sym k.2 ∙ r.7) in (
            r.0,
            r.2,
            r.3,
            r.4,
            one.1,
            (ap (λ (c : WireKey). c.wire) one.1, subst (λ n. SpellsPayload levels n r.2 r.0.1) (sym (ap (λ (c : WireKey). c.number) one.1)) r.6),
            one.2,
          )

  -- an entry of a map
  module _ (keys values : FieldType) where
    in_part : (key : WireKey) (bytes front rest : List ℕ) (e : WireError) (r : ℕ × Payload) → key ≡ key_of r.0 (wire_of r.1) → IsValue levels key front r.1 → bytes ≡ front ++ rest → PartFault levels inner pool keys pool values key bytes e → AcceptsPart keys values r → ⊥
    in_part key bytes front rest e r same value is (inl fault) h =
        in_one key bytes front rest e r.1 value is keys fault.1 (h.0 (sym (ap (λ (c : WireKey). c.number) same) ∙ fault.0))
    in_part key bytes front rest e r same value is (inr (inl fault)) h =
        in_one key bytes front rest e r.1 value is values fault.1 (h.1 (sym (ap (λ (c : WireKey). c.number) same) ∙ fault.0))
    in_part key bytes front rest e r same value is (inr (inr fault)) h = in_other key bytes front rest e r.1 value is fault.2

    in_entry : (t : KindType) (body : List ℕ) (e : WireError) → is_entry pool t ≡ true → entry_field pool t 1 ≡ Some keys → EntryFault levels inner pool keys pool values body e
        → (rs : List (ℕ × Payload)) → SpellsRecords levels body (records_of rs) → (IsMessageType values.kind → 0 < levels) → AreOf 1 keys rs → AreOf 2 values rs → ⊥
    in_entry t body e entry one (inl deep) rs spelled left k v = omega (arith, left deep.0, deep.1)
    in_entry t body e entry one (inr (inl none)) rs spelled left k v = none.0 (keyed t keys entry one)
    in_entry t body e entry one (inr (inr fault)) rs spelled left k v = by fault.4 where
      all : AllByRecursion (AcceptsPart keys values) rs
      all = all_parts keys values rs k v

      by : KeyFault fault.1 e ⊎ ((key : WireKey) × (behind : List ℕ) × Fronts IsKey fault.1 key behind × PartFault levels inner pool keys pool values key behind e) → ⊥
      by (inl none) = no_key_next body fault.1 fault.0 fault.2 (AcceptsPart keys values) rs spelled all e fault.3 none
      by (inr part) =
          let r = keyed_next body fault.1 fault.0 fault.2 (AcceptsPart keys values) rs spelled all part.0 part.1 part.2 in
          in_part part.0 part.1 r.1 r.2 e r.0 r.4 r.5 r.6 part.3 r.3

  in_map : (t : KindType) (key : WireKey) (bytes front rest : List ℕ) (e : WireError) (p : Payload) → is_entry pool t ≡ true → IsValue levels key front p → bytes ≡ front ++ rest → MapFault levels inner pool t key bytes e → AcceptsEntry levels accepts pool t p → ⊥
  in_map t key bytes front rest e (delimited body) entry value is (inl other) h = other.0 value.0
  in_map t key bytes front rest e (delimited body) entry value is (inr (inl (inl none, _))) h = absurd (cc (none, h.3))
  in_map t key bytes front rest e (delimited body) entry value is (inr (inl (inr none, _))) h = absurd (cc (none, h.4))
  in_map t key bytes front rest e (delimited body) entry value is (inr (inr (inl fault))) h = no_delimited_there bytes e fault.1 front rest body value.1 is
  in_map t key bytes front rest e (delimited body) entry value is (inr (inr (inr fault))) h =
      let cut = one_delimited fault.7.0 front fault.3 rest fault.2 body fault.7.1 value.1 (sym fault.7.2 ∙ is) in
      let keys : fault.0 ≡ h.0 = cc (fault.4, h.3) in
      let values : fault.1 ≡ h.1 = cc (fault.5, h.4) in
      let here = subst (λ b. EntryFault levels inner pool h.0 pool h.1 b e) cut.1 (subst (λ f. EntryFault levels inner pool h.0 pool f fault.2 e) values (subst (λ f. EntryFault levels inner pool f pool fault.1 fault.2 e) keys fault.8)) in
      in_entry h.0 h.1 t body e entry h.3 here h.2 h.5 h.6 h.7 h.8
  in_map t key bytes front rest e p entry value is fault h = absurd h.5

  module _ (key : WireKey) (bytes front rest : List ℕ) (e : WireError) (p : Payload) (value : IsValue levels key front p) (is : bytes ≡ front ++ rest) where
    in_field : (f : FieldType) (map list : Bool) → holds_map pool f ≡ map → FaultAs levels inner pool f map list key bytes e → AcceptsAs levels accepts pool f map list p → ⊥
    in_field f true list map fault h = in_map f.kind key bytes front rest e p (map_entry pool f map) value is fault h
    in_field f false true map fault h = in_listed key bytes front rest e p value is f fault h
    in_field f false false map fault h = in_one key bytes front rest e p value is f fault h

    in_record : (o : Option FieldType) → RecordFault levels inner pool o key bytes e → AcceptsIf levels accepts pool o p → ⊥
    in_record None fault h = in_other key bytes front rest e p value is fault
    in_record (Some f) fault h = in_field f (holds_map pool f) (holds_list pool f) refl fault h

  -- a message's bytes
  in_body : (i : ℕ) (bytes : List ℕ) (e : WireError) → BodyBy levels inner pool i None bytes e → (rs : List (ℕ × Payload)) → SpellsRecords levels bytes (records_of rs) → AllByRecursion (AcceptsRecord levels accepts pool i) rs → ⊥
  in_body i bytes e fault rs spelled all = by fault.3 where
    no_end : Option ℕ
    no_end = None

    P : ℕ × Payload → Type 0
    P = AcceptsRecord levels accepts pool i

    by : ((no_end ≡ None → fault.1 ≢ []) × KeyFault fault.1 e) ⊎ ((key : WireKey) × (behind : List ℕ) × Fronts IsKey fault.1 key behind
        × ((IsWrongEnd no_end key × IsEndMismatch e) ⊎ ((key.wire ≢ wires.EndGroup) × RecordFault levels inner pool (declared_at pool i key.number) key behind e))) → ⊥
    by (inl none) = no_key_next bytes fault.1 fault.0 fault.2 P rs spelled all e (none.0 refl) none.1
    by (inr told) = keyed_by told.0 told.1 told.2 told.3 where
      keyed_by : (key : WireKey) (after : List ℕ) → Fronts IsKey fault.1 key after
          → (IsWrongEnd no_end key × IsEndMismatch e) ⊎ ((key.wire ≢ wires.EndGroup) × RecordFault levels inner pool (declared_at pool i key.number) key after e) → ⊥
      keyed_by key after k (inl wrong) =
          let r = keyed_next bytes fault.1 fault.0 fault.2 P rs spelled all key after k in
          not_end r.0.1 (sym r.5.0 ∙ wrong.0)
      keyed_by key after k (inr record_fault) =
          let r = keyed_next bytes fault.1 fault.0 fault.2 P rs spelled all key after k in
          let accepted = subst (λ n. AcceptsIf levels accepts pool (declared_at pool i n) r.0.1) (sym (ap (λ (c : WireKey). c.number) r.4)) r.3 in
          in_record key after r.1 r.2 e r.0.1 r.5 r.6 (declared_at pool i key.number) record_fault.1 accepted

  -- a group's bytes, up to its end
  module _ (n : ℕ) (P : ℕ × Payload → Type 0) where
    behind_in : (front rest body end more : List ℕ) (done rs : List (ℕ × Payload)) → SpellsRecords levels front (records_of done) → SpellsRecords levels body (records_of rs) → IsKey end (key_of n wires.EndGroup) → front ++ rest ≡ (body ++ end) ++ more → AllByRecursion P rs
        → (tail : List ℕ) × (ts : List (ℕ × Payload)) × SpellsRecords levels tail (records_of ts) × AllByRecursion P ts × (rest ≡ (tail ++ end) ++ more)
    behind_in front rest body end more [] rs h k j w all = (body, rs, k, all, cc (h, w))
    behind_in front rest body end more (r ∷ done) [] h k j w all =
        let whole : h.0 ++ (h.1 ++ (h.2 ++ rest)) ≡ end ++ more = cc (k, w, h.6, append_assoc h.0 (h.1 ++ h.2) rest, append_assoc h.1 h.2 rest) in
        let one = one_key h.0 end _ more _ _ h.3 j whole in
        absurd (not_end r.1 (ap (λ (c : WireKey). c.wire) one.1))
    behind_in front rest body end more (r ∷ done) (s ∷ rs) h k j w all =
        let whole : h.0 ++ (h.1 ++ (h.2 ++ rest)) ≡ k.0 ++ (k.1 ++ ((k.2 ++ end) ++ more)) = cc (w, h.6, append_assoc h.0 (h.1 ++ h.2) rest, append_assoc h.1 h.2 rest, regrouped k.0 k.1 k.2 end more, k.6) in
        let one = one_key h.0 k.0 _ _ _ _ h.3 k.3 whole in
        let number : r.0 ≡ s.0 = ap (λ (c : WireKey). c.number) one.1 in
        let value = one_payload levels r.0 h.1 k.1 _ _ r.1 s.1 (ap (λ (c : WireKey). c.wire) one.1) h.4 (subst (λ m. SpellsPayload levels m k.1 s.1) (sym number) k.4) one.2 in
        behind_in h.2 rest k.2 end more done rs h.5 k.5 j value.2 all.1

    -- in front of what is left stands the key of the next record, with its value, or that of the end
    abbrev Front : List ℕ → Type 0
    Front rest =
        (key : WireKey) × (front behind : List ℕ) × IsKey front key × (rest ≡ front ++ behind)
        × ((key ≡ key_of n wires.EndGroup) ⊎ ((r : ℕ × Payload) × (value more : List ℕ) × P r × (key ≡ key_of r.0 (wire_of r.1)) × IsValue levels key value r.1 × (behind ≡ value ++ more)))

    fronted : (tail end more rest : List ℕ) (ts : List (ℕ × Payload)) → SpellsRecords levels tail (records_of ts) → AllByRecursion P ts → IsKey end (key_of n wires.EndGroup) → rest ≡ (tail ++ end) ++ more → Front rest
    fronted tail end more rest [] h all j e = (key_of n wires.EndGroup, end, more, j, e ∙ ap (λ t. (t ++ end) ++ more) h, inl refl)
    fronted tail end more rest (t ∷ ts) h all j e =
        (key_of t.0 (wire_of t.1), h.0, h.1 ++ ((h.2 ++ end) ++ more), h.3, e ∙ cc (h.6, regrouped h.0 h.1 h.2 end more), inr (t, h.1, (h.2 ++ end) ++ more, all.0, refl, (refl, h.4), refl))

  in_group : (i n : ℕ) (bytes : List ℕ) (e : WireError) → BodyBy levels inner pool i (Some n) bytes e → (rs : List (ℕ × Payload)) (body end more : List ℕ) → SpellsRecords levels body (records_of rs) → IsKey end (key_of n wires.EndGroup) → bytes ≡ (body ++ end) ++ more
      → AllByRecursion (AcceptsRecord levels accepts pool i) rs → ⊥
  in_group i n bytes e fault rs body end more spelled j is all = by fault.3 where
    P : ℕ × Payload → Type 0
    P = AcceptsRecord levels accepts pool i

    there : Front n P fault.1
    there =
        let left = behind_in n P fault.2.0 fault.1 body end more fault.0 rs fault.2.1 spelled j (sym fault.2.2 ∙ is) all in
        fronted n P left.0 end more fault.1 left.1 left.2 left.3 j left.4

    by : ((Some n ≡ None → fault.1 ≢ []) × KeyFault fault.1 e) ⊎ ((key : WireKey) × (behind : List ℕ) × Fronts IsKey fault.1 key behind
        × ((IsWrongEnd (Some n) key × IsEndMismatch e) ⊎ ((key.wire ≢ wires.EndGroup) × RecordFault levels inner pool (declared_at pool i key.number) key behind e))) → ⊥
    by (inl none) = no_key_there fault.1 e none.1 there.1 there.2 there.0 there.3 there.4
    by (inr (key, behind, k, told)) = told_of there.5 told where
      one : (k.0 ≡ there.1) × (key ≡ there.0) × (behind ≡ there.2)
      one = one_key k.0 there.1 behind there.2 key there.0 k.1 there.3 (sym k.2 ∙ there.4)

      told_of : (there.0 ≡ key_of n wires.EndGroup) ⊎ ((r : ℕ × Payload) × (value more : List ℕ) × P r × (there.0 ≡ key_of r.0 (wire_of r.1)) × IsValue levels there.0 value r.1 × (there.2 ≡ value ++ more))
          → (IsWrongEnd (Some n) key × IsEndMismatch e) ⊎ ((key.wire ≢ wires.EndGroup) × RecordFault levels inner pool (declared_at pool i key.number) key behind e) → ⊥
      told_of (inl ends) (inl wrong) = wrong.0.1 (ap (λ (c : WireKey). c.number) (one.1 ∙ ends))
      told_of (inl ends) (inr record_fault) = record_fault.0 (ap (λ (c : WireKey). c.wire) (one.1 ∙ ends))
      told_of (inr r) (inl wrong) = not_end r.0.1 (sym (ap (λ (c : WireKey). c.wire) (one.1 ∙ r.4)) ∙ wrong.0.0)
      told_of (inr r) (inr record_fault) =
          let value = subst (λ k. IsValue levels k r.1 r.0.1) (sym one.1) r.5 in
          let accepted = subst (λ m. AcceptsIf levels accepts pool (declared_at pool i m) r.0.1) (sym (ap (λ (c : WireKey). c.number) (one.1 ∙ r.4))) r.3 in
          in_record key behind r.1 r.2 e r.0.1 value (one.2 ∙ r.6) (declared_at pool i key.number) record_fault.1 accepted

module _ (pool : PoolType) (keyed : HaveMapKeys pool) where
  form_taken : (levels : ℕ) (grouped : Bool) (i : ℕ) (p : Payload) → AcceptsMessage levels grouped pool i p → wire_of p ≡ cond grouped wires.StartGroup wires.LengthDelimited
  form_taken zero grouped i p h = absurd h
  form_taken (suc levels) false i (delimited body) h = refl
  form_taken (suc levels) true i (group rs) h = refl
  form_taken (suc levels) grouped i p h = absurd h.1

  excludes_at : (levels : ℕ) → Excludes (Within levels) (AcceptsMessage levels) levels pool
  excludes_at zero = record {
    sized = λ i body e fault h. h;
    tagged = λ i n bytes front rest e p fault form spelled is h. h;
    forms = form_taken zero;
  }
  excludes_at (suc levels) = record {
    sized = λ i body e fault h. in_body pool keyed levels (Within levels) (AcceptsMessage levels) (excludes_at levels) i body e fault h.0 h.1 h.2;
    tagged = in_tags (excludes_at levels);
    forms = form_taken (suc levels);
  } where
    in_tags : Excludes (Within levels) (AcceptsMessage levels) levels pool → (i n : ℕ) (bytes front rest : List ℕ) (e : WireError) (p : Payload) → Within (suc levels) pool i (Some n) bytes e → wire_of p ≡ wires.StartGroup → SpellsPayload (suc levels) n front p → bytes ≡ front ++ rest → AcceptsMessage (suc levels) true pool i p → ⊥
    in_tags below i n bytes front rest e (group inside) fault form spelled is h =
        let one_down : suc levels - 1 ≡ levels = omega arith in
        let body = subst (λ l. SpellsRecords l spelled.1.0 (records_of h.0)) one_down (subst (SpellsRecords (suc levels - 1) spelled.1.0) h.1 spelled.1.2) in
        in_group pool keyed levels (Within levels) (AcceptsMessage levels) below i n bytes e fault h.0 spelled.1.0 spelled.1.1 rest body spelled.1.3 (is ∙ ap (λ f. f ++ rest) spelled.1.4) h.2
    in_tags below i n bytes front rest e p fault form spelled is h = absurd h.1

  -- bytes that are refused spell no records that the type accepts
  pub excluded : (levels i : ℕ) (bytes : List ℕ) (e : WireError) → BodyFault levels pool i None bytes e → (rs : List (ℕ × Payload)) → SpellsRecords levels bytes (records_of rs) → AllByRecursion (AcceptsRecord levels (AcceptsMessage levels) pool i) rs → ⊥
  excluded levels i bytes e fault rs spelled accepted = in_body pool keyed levels (Within levels) (AcceptsMessage levels) (excludes_at levels) i bytes e fault rs spelled accepted
