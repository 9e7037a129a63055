-- What records leave under their field's number.
use Rattle.std.proofs.Common.{◌≡◌, inl, inr, ℕ, Bool, true, false, List, [], ◌∷◌, ◌++◌, map, Option, None, Some, Result, Ok, Err, IfOk, refl, sym, ap, ◌∙◌, subst, unwrap_or, append_assoc, append-nil}
use Rattle.std.proofs.lemmas.List.{map-append}
use Rattle.std.specs.Borrow.{Bor}
use Rattle.std.specs.List.{AllByRecursion}
use Rattle.reflect_tables.specs.Types.{PoolType, FieldType, KindType}
use Rattle.reflect_pool.specs.Kinds.{IsKind}
use Rattle.reflect_pool.specs.Shapes.{holds_list, holds_map}
use Rattle.reflect_pool.specs.declared.kind.Kind.{Kind}
use Rattle.reflect_pool.specs.declared.kind.Kind.TheVariants as kinds
use Rattle.reflect_pool.specs.declared.message.MessageDescriptor.{MessageDescriptor}
use Rattle.reflect_wire.specs.Reads.{Fronts}
use Rattle.reflect_wire.specs.Records.{Payload, IsValue}
use Rattle.reflect_wire.specs.declared.wire_error.WireError.{WireError}
use Rattle.reflect_wire.specs.declared.wire_key.WireKey.{WireKey}
use Rattle.reflect_scalar.specs.Meaning.{IsScalar}
use Rattle.reflect_scalar.specs.Singles.{Single}
use Rattle.reflect_message.specs.Contents.{content_of, nothing}
use Rattle.reflect_decode.specs.Accepts.{AcceptsElement, AcceptsField, AcceptsMessage}
use Rattle.reflect_decode.specs.Elements.{Appends, AppendsAll, ContinuesList}
use Rattle.reflect_message.specs.Lists.{items_held}
use Rattle.reflect_decode.specs.Merging.{IsRun}
use Rattle.reflect_decode.specs.Messages.{Taken, Takes, MergesMessage}
use Rattle.reflect_message.specs.Messages.{message_in, message_held, IsStart}
use Rattle.reflect_decode.specs.Packed.{Continues}
use Rattle.reflect_message.specs.Singles.{single}
use Rattle.reflect_decode.specs.Maps.{ContinuesMap}
use Rattle.reflect_message.specs.Maps.{entries_held}
use Rattle.reflect_message.specs.KindTypes.{IsScalarType, IsMessageType}
use Rattle.reflect_decode.specs.Scalars.{AreValues, LeavesAs}
use Rattle.reflect_decode.specs.Suits.{HeldSuits, SuitsBelow}
use Rattle.reflect_decode.specs.Taking.{AreMade, TakesAs, Leaves}
use Rattle.reflect_message.specs.Names.{DynamicMessage, Value}
use Rattle.reflect_decode.proofs.Accepting.{accepts_value, is_false, list_accepts, map_accepts, one_accepts, message_accepts}
use Rattle.reflect_decode.proofs.Joining.{Joins, merges_both}
use Rattle.reflect_decode.proofs.Mapping.{AcceptEntries, last_behind, map_both}
use Rattle.reflect_decode.proofs.Suiting.{Begins, begun}
use Rattle.reflect_decode.proofs.Telling.{both_kinds, no_message, no_elements, map_is_message, list_no_map}
use Rattle.reflect_decode.proofs.Running.{plain_spelled}

-- where a map is made if nothing stood there, it has the entries that stood there
pub entries_of_slot : (held : Option Value) (empty slot : Value) → slot ≡ unwrap_or held empty → entries_held (Some empty) ≡ Some [] → entries_held (Some slot) ≡ entries_held held
entries_of_slot None empty slot is none = ap (λ v. entries_held (Some v)) is ∙ none
entries_of_slot (Some v) empty slot is none = ap (λ v. entries_held (Some v)) is

continues_both : (a b c : List Value) (vs ws : List Single) → Continues a b vs → Continues b c ws → Continues a c (vs ++ ws)
continues_both a b c vs ws h k = (
  h.0 ++ k.0,
  k.1 ∙ ap (λ l. l ++ k.0) h.1 ∙ append_assoc a h.0 k.0,
  map-append single h.0 k.0 ∙ ap (λ l. l ++ map single k.0) h.2 ∙ ap (λ l. map Some vs ++ l) k.2 ∙ sym (map-append Some vs ws),
)

module _ (pool : PoolType) (t : KindType) where
  values_both : (ps qs : List Payload) (vs ws : List Single) → AreValues pool t ps vs → AreValues pool t qs ws → AreValues pool t (ps ++ qs) (vs ++ ws)
  values_both [] qs vs ws h k = subst (λ l. AreValues pool t qs (l ++ ws)) (sym h) k
  values_both (p ∷ ps) qs vs ws h k = (h.0, h.1, h.2 ++ ws, h.3, h.4, values_both ps qs h.2 ws h.5 k, ap (λ l. l ++ ws) h.6 ∙ append_assoc h.1 h.2 ws)

  -- the values that a list of a scalar kind gets
  appended : (inner : Taken) (kind : Kind) → IsKind pool kind t → IsScalarType t → (old new : List Value) (ps : List Payload) → AppendsAll inner kind old new ps → (vs : List Single) × AreValues pool t ps vs × Continues old new vs
  appended inner kind is scalar old new [] h = ([], refl, ([], h ∙ sym (append-nil old), refl))
  appended inner kind is scalar old new (p ∷ ps) h = by h.1 (appended inner kind is scalar h.0 new ps h.2) where
    by : Appends inner kind old h.0 p → (vs : List Single) × AreValues pool t ps vs × Continues h.0 new vs → (vs : List Single) × AreValues pool t (p ∷ ps) vs × Continues old new vs
    by (inl m) rest = absurd (no_message inner pool t kind p m.0 is scalar m.1)
    by (inr (vs, elements, more)) rest = (vs ++ rest.0, (kind, vs, rest.0, is, elements, rest.1, refl), continues_both old h.0 new vs rest.0 more rest.2)

  made_both : (inner : Taken) (ps qs : List Payload) (vs ws : List Value) → AreMade inner pool t ps vs → AreMade inner pool t qs ws → AreMade inner pool t (ps ++ qs) (vs ++ ws)
  made_both inner [] qs vs ws h k = subst (λ l. AreMade inner pool t qs (l ++ ws)) (sym h) k
  made_both inner (p ∷ ps) qs vs ws h k = (h.0, h.1, h.2 ++ ws, h.3, h.4, made_both inner ps qs h.2 ws h.5 k, ap (λ l. l ++ ws) h.6)

  -- the messages that a list of a message kind gets
  made : (inner : Taken) (kind : Kind) → IsKind pool kind t → IsMessageType t → (old new : List Value) (ps : List Payload) → AppendsAll inner kind old new ps → (vs : List Value) × AreMade inner pool t ps vs × (new ≡ old ++ vs)
  made inner kind is type old new [] h = ([], refl, h ∙ sym (append-nil old))
  made inner kind is type old new (p ∷ ps) h = by h.1 (made inner kind is type h.0 new ps h.2) where
    by : Appends inner kind old h.0 p → (vs : List Value) × AreMade inner pool t ps vs × (new ≡ h.0 ++ vs) → (vs : List Value) × AreMade inner pool t (p ∷ ps) vs × (new ≡ old ++ vs)
    by (inl (v, one, put)) rest = (v ∷ rest.0, (kind, v, rest.0, is, one, rest.1, refl), rest.2 ∙ ap (λ l. l ++ rest.0) put ∙ append_assoc old (v ∷ []) rest.0)
    by (inr (vs, elements, more)) rest = absurd (no_elements pool t kind p vs is type elements)

module _ (inner : Takes) (pool : PoolType) (f : FieldType) where
  leaves_some : (old new : Option Value) (ps : List Payload) (p : Payload) → (IsScalarType f.kind → LeavesAs (holds_list pool f) pool f.kind old new (ps ++ p ∷ []))
      → (IsMessageType f.kind → holds_map pool f ≡ false → TakesAs (holds_list pool f) (inner.message f.group) pool f.kind old new (ps ++ p ∷ [])) → (holds_map pool f ≡ true → ContinuesMap inner pool f.kind old new (ps ++ p ∷ [])) → Leaves inner pool f old new (ps ++ p ∷ [])
  leaves_some old new [] p h k l = (h, k, l)
  leaves_some old new (q ∷ ps) p h k l = (h, k, l)

  -- records behind records
  pub leaves_both : Joins inner → (a b c : Option Value) (ps qs : List Payload) → Leaves inner pool f a b ps → Leaves inner pool f b c qs → Leaves inner pool f a c (ps ++ qs)
  leaves_both joins a b c [] qs h k = subst (λ o. Leaves inner pool f o c qs) h k
  leaves_both joins a b c (p ∷ ps) [] h k = subst (Leaves inner pool f a c) (sym (append-nil (p ∷ ps))) (subst (λ o. Leaves inner pool f a o (p ∷ ps)) (sym k) h)
  leaves_both joins a b c (p ∷ ps) (q ∷ qs) h k = (λ scalar. by (holds_list pool f) (h.0 scalar) (k.0 scalar), λ type none. within (holds_list pool f) (h.1 type none) (k.1 type none), λ map. map_both inner pool f.kind a b c (p ∷ ps) (q ∷ qs) (h.2 map) (k.2 map)) where
    by : (list : Bool) → LeavesAs list pool f.kind a b (p ∷ ps) → LeavesAs list pool f.kind b c (q ∷ qs) → LeavesAs list pool f.kind a c (p ∷ (ps ++ q ∷ qs))
    by true h k =
        let same : k.0 ≡ h.1 = cc in
        (h.0, k.1, h.2 ++ k.2, h.3, k.4, values_both pool f.kind (p ∷ ps) (q ∷ qs) h.2 k.2 h.5 k.5, continues_both h.0 h.1 k.1 h.2 k.2 h.6 (subst (λ l. Continues l k.1 k.2) same k.6))
    by false h k = (k.0, k.1, k.2, k.3, last_behind pool f.kind (p ∷ ps) (q ∷ qs) k.1 k.4)

    within : (list : Bool) → TakesAs list (inner.message f.group) pool f.kind a b (p ∷ ps) → TakesAs list (inner.message f.group) pool f.kind b c (q ∷ qs)
        → TakesAs list (inner.message f.group) pool f.kind a c (p ∷ (ps ++ q ∷ qs))
    within true h k =
        let same : k.0 ≡ h.1 = cc in
        (h.0, k.1, h.2 ++ k.2, h.3, k.4, made_both pool f.kind (inner.message f.group) (p ∷ ps) (q ∷ qs) h.2 k.2 h.5 k.5, k.6 ∙ ap (λ l. l ++ k.2) (same ∙ h.6) ∙ append_assoc h.0 h.2 k.2)
    within false h k = merges_both (inner.message f.group) pool f.kind (joins f.group) a b c (p ∷ ps) (q ∷ qs) h k

module _ (inner : Takes) (levels : ℕ) (key : WireKey) (bytes : List ℕ) (pool : PoolType) (f : FieldType) (old new : Option Value) where
  abbrev Answers : List ℕ → Type 0
  Answers rest = (run : List Payload × Payload) × Fronts (IsRun levels key) bytes run rest × Leaves inner pool f old new (run.0 ++ run.1 ∷ [])
      × (HeldSuits (SuitsBelow levels) pool f old → AllByRecursion (AcceptsField levels (AcceptsMessage levels) pool f) (run.0 ++ run.1 ∷ []))

  -- a map's entries are put
  pub map_leaves : (kind : Kind) (slot filled : Value) (r : Result (Bor (List ℕ)) WireError) → IsKind pool kind f.kind → holds_map pool f ≡ true → entries_held (Some slot) ≡ entries_held old → new ≡ Some filled
      → IfOk r (λ rest. (run : List Payload × Payload) × Fronts (IsRun levels key) bytes run rest.now × ((p : PoolType) (t : KindType) → IsKind p kind t → ContinuesMap inner p t (Some slot) (Some filled) (run.0 ++ run.1 ∷ [])) × AcceptEntries levels kind (run.0 ++ run.1 ∷ []))
      → IfOk r (λ rest. Answers rest.now)
  map_leaves kind slot filled (Ok rest) is map same put h =
      let here = h.2 pool f.kind is in
      (h.0, h.1, leaves_some inner pool f old new h.0.0 h.0.1 (λ scalar. absurd (both_kinds f.kind scalar (map_is_message pool f map))) (λ type none. absurd (cc (map, none))) (λ map. (here.0, here.1, sym same ∙ here.2, ap entries_held put ∙ here.3, here.4)), λ suits. map_accepts levels pool f (h.0.0 ++ h.0.1 ∷ []) map (h.3 pool f.kind is))
  map_leaves kind slot filled (Err e) is map same put h = tt

  -- the message that stood there, or a new one where nothing did, has taken in the record
  pub message_leaves : (grouped : Bool) → grouped ≡ f.group → (d : MessageDescriptor) (fresh before taken after : DynamicMessage) (empty slot filled : Value) (r : Result (Bor (List ℕ)) WireError) → IsKind pool (kinds.Message d) f.kind → holds_list pool f ≡ false → holds_map pool f ≡ false
      → slot ≡ unwrap_or old empty → message_in empty ≡ Some fresh → fresh.descriptor ≡ d → content_of fresh ≡ nothing → message_in slot ≡ Some before → new ≡ Some filled → message_in filled ≡ Some after → taken ≡ before → after.descriptor ≡ taken.descriptor
      → IfOk r (λ rest. (p : Payload) × Fronts (IsValue levels key) bytes p rest.now × inner.message grouped taken.descriptor (content_of taken) (content_of after) (p ∷ []) × (SuitsBelow levels taken.descriptor (content_of taken) → AcceptsMessage levels grouped taken.descriptor.pool.now taken.descriptor.index p))
      → IfOk r (λ rest. Answers rest.now)
  message_leaves grouped form d fresh before taken after empty slot filled (Ok rest) is none no_map there made type holds at put now one same h =
      let run : List Payload × Payload = ([], h.0) in
      let merges : MergesMessage (inner.message grouped) pool f.kind old new (h.0 ∷ []) = (before, after, started old there, ap message_held put ∙ now, same ∙ ap (λ (m : DynamicMessage). m.descriptor) one, subst (λ (m : DynamicMessage). inner.message grouped m.descriptor (content_of m) (content_of after) (h.0 ∷ [])) one h.2) in
      let value = h.1 in
      (run, (value.0, ([], value.0, refl, value.1, refl), value.2), ((λ scalar. absurd (subst IsScalarType is.1 scalar)), (λ type apart. subst (λ g. TakesAs (holds_list pool f) (inner.message g) pool f.kind old new (h.0 ∷ [])) form (subst (λ b. TakesAs b (inner.message grouped) pool f.kind old new (h.0 ∷ [])) (sym none) merges)), λ map. absurd (cc (map, no_map))), accepts) where
        started : (o : Option Value) → slot ≡ unwrap_or o empty → IsStart pool f.kind o before
        started None e =
            let made_now : before ≡ fresh = cc (at, ap message_in e, made) in
            subst (λ m. IsStart pool f.kind None m) (sym made_now) (subst (λ d. IsKind pool (kinds.Message d) f.kind) (sym type) is, holds)
        started (Some v) e = sym (ap message_in e) ∙ at

        accepts : HeldSuits (SuitsBelow levels) pool f old → AllByRecursion (AcceptsField levels (AcceptsMessage levels) pool f) (h.0 ∷ [])
        accepts suits =
            let begins = begun levels pool f old no_map none (subst IsMessageType (sym is.1) tt) suits before (started old there) in
            let here = subst (Begins levels pool f.kind) (sym one) begins in
            one_accepts levels pool f h.0 no_map none (message_accepts levels pool f grouped taken.descriptor h.0 form here.0 (h.3 here.1))
  message_leaves grouped form d fresh before taken after empty slot filled (Err e) is none no_map there made type holds at put now one same h = tt

  pub list_leaves : (grouped : Bool) → grouped ≡ f.group → (kind : Kind) (slot filled : Value) (r : Result (Bor (List ℕ)) WireError) → IsKind pool kind f.kind → holds_list pool f ≡ true
      → items_held (Some slot) ≡ items_held old → new ≡ Some filled
      → IfOk r (λ rest. (run : List Payload × Payload) × Fronts (IsRun levels key) bytes run rest.now × ContinuesList (inner.message grouped) kind (Some slot) (Some filled) (run.0 ++ run.1 ∷ []) × AllByRecursion (AcceptsElement (AcceptsMessage levels) grouped kind) (run.0 ++ run.1 ∷ []))
      → IfOk r (λ rest. Answers rest.now)
  list_leaves grouped form kind slot filled (Ok rest) is list same put h =
      let more = h.2 in
      let run = h.0.0 ++ h.0.1 ∷ [] in
      let values : IsScalarType f.kind → LeavesAs true pool f.kind old new run = λ scalar. let added = appended pool f.kind (inner.message grouped) kind is scalar more.0 more.1 run more.4 in (more.0, more.1, added.0, sym same ∙ more.2, ap items_held put ∙ more.3, added.1, added.2) in
      let messages : IsMessageType f.kind → TakesAs true (inner.message grouped) pool f.kind old new run = λ type. let added = made pool f.kind (inner.message grouped) kind is type more.0 more.1 run more.4 in (more.0, more.1, added.0, sym same ∙ more.2, ap items_held put ∙ more.3, added.1, added.2) in
      (h.0, h.1, leaves_some inner pool f old new h.0.0 h.0.1 (λ scalar. subst (λ b. LeavesAs b pool f.kind old new run) (sym list) (values scalar)) (λ type none. subst (λ g. TakesAs (holds_list pool f) (inner.message g) pool f.kind old new run) form (subst (λ b. TakesAs b (inner.message grouped) pool f.kind old new run) (sym list) (messages type))) (λ map. absurd (list_no_map pool f list map)), λ suits. list_accepts levels pool f grouped kind run form is list h.3)
  list_leaves grouped form kind slot filled (Err e) is list same put h = tt

  pub single_leaves : (kind : Kind) (rest : List ℕ) (v : Value) (w : Single) → IsKind pool kind f.kind → holds_list pool f ≡ false → Fronts (IsScalar kind key.wire) bytes w rest → new ≡ Some v → single v ≡ Some w
      → Answers rest
  single_leaves kind rest v w is none h put means =
      let p = h.1.0 in
      let run : List Payload × Payload = ([], p) in
      let value = plain_spelled levels key.number h.0 p h.1.1.1 in (
        run,
        (h.0, ([], h.0, refl, (h.1.1.0, value), refl), h.2),
        (
          (λ scalar. subst (λ b. LeavesAs b pool f.kind old new (p ∷ [])) (sym none) (v, w, put, means, (kind, [], p, is, refl, h.1.2))),
          (λ type single. absurd (no_elements pool f.kind kind p (w ∷ []) is type (inl (w, refl, h.1.2)))),
          λ map. absurd (no_map map),
        ),
        λ suits. one_accepts levels pool f p (is_false (holds_map pool f) no_map) none (kind, is, accepts_value (AcceptsMessage levels) f.group kind p w h.1.2),
      ) where
        no_map : holds_map pool f ≡ true → ⊥
        no_map map = no_elements pool f.kind kind h.1.0 (w ∷ []) is (map_is_message pool f map) (inl (w, refl, h.1.2))
