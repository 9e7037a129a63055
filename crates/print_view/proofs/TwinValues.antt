-- What the same records leave twice, where nothing stood, is alike: of a message's field, by what is known of the messages inside.
use Rattle.std.proofs.Common.{◌≡◌, ℕ, ◌&&◌, ◌++◌, not, Bool, true, false, true≢false, List, [], ◌∷◌, map, Option, Some, None, refl, sym, ap, ◌∙◌, subst}
use Rattle.std.proofs.lemmas.Bool.{and_parts}
use Rattle.std.specs.BTreeMap.{insert_entry}
use Rattle.reflect_tables.specs.Types.{FieldType, KindType, PoolType}
use Rattle.reflect_wire.specs.Records.{Payload}
use Rattle.reflect_pool.specs.Kinds.{IsKind}
use Rattle.reflect_pool.specs.Shapes.{holds_list, holds_map, is_entry, is_repeated}
use Rattle.reflect_pool.specs.declared.kind.Kind.{Kind}
use Rattle.reflect_pool.specs.declared.kind.Kind.TheVariants as publics
use Rattle.reflect_pool.specs.declared.message.MessageDescriptor.{MessageDescriptor}
use Rattle.reflect_scalar.specs.Keys.{key_view}
use Rattle.reflect_scalar.specs.Singles as held
use Rattle.reflect_scalar.specs.declared.map_key.MapKey.{MapKey}
use Rattle.reflect_message.specs.Contents.{content_of, nothing}
use Rattle.reflect_message.specs.Known.{entry_field, holds_floats, is_float}
use Rattle.reflect_message.specs.Maps.{key_order}
use Rattle.reflect_message.specs.Messages.{message_in}
use Rattle.reflect_message.specs.Names.{DynamicMessage, Value}
use Rattle.reflect_message.specs.Singles as singles
use Rattle.reflect_decode.specs.Keeps.{payloads}
use Rattle.reflect_decode.specs.Maps.{ContinuesMap, IsEntry, LeavesKey, LeavesSingle, LeavesValue, PutEntries}
use Rattle.reflect_decode.specs.Messages.{IsMade, MergesMessage, Takes}
use Rattle.reflect_decode.specs.Scalars.{ContinuesWith, HoldsLast, LeavesAs}
use Rattle.reflect_decode.specs.Taking.{AddsMessages, AreMade, Leaves, TakesAs}
use Rattle.reflect_decode.proofs.Sorts.{Sort, floating, left_single, message_type, no_float_values, not_float, plain, sort_of}
use Rattle.print_parts.specs.Pairwise.{Pairwise}
use Rattle.message_view.specs.Sound.{IsSound}
use Rattle.message_view.proofs.Entries.{entry_of_map, key_scalar}
use Rattle.print_view.proofs.Alike.{AlikeOnes, AlikePairs, FieldAlike, Likeness, alike_messages, alike_ones, lists_alike, maps_alike, one_single, some_alike}
use Rattle.print_view.proofs.OneMeaning.{one_last, one_row}
use Rattle.print_view.proofs.TwinEntries.{put_alike}

-- values of which each is the single one at its place
singles_alike : (A : Likeness) (ws : List held.Single) (us bs : List Value) → map singles.single us ≡ map Some ws → map singles.single bs ≡ map Some ws → Pairwise (AlikeOnes A) us bs
singles_alike A [] [] [] one other = refl
singles_alike A [] [] (b ∷ bs) one other = absurd (cc other)
singles_alike A [] (a ∷ us) bs one other = absurd (cc one)
singles_alike A (w ∷ ws) [] bs one other = absurd (cc one)
singles_alike A (w ∷ ws) (a ∷ us) [] one other = absurd (cc other)
singles_alike A (w ∷ ws) (a ∷ us) (b ∷ bs) one other =
    let here : singles.single a ≡ Some w = cc one in
    let there : singles.single b ≡ Some w = cc other in
    let rest : map singles.single us ≡ map Some ws = cc one in
    let behind : map singles.single bs ≡ map Some ws = cc other in
    (b, bs, one_single w here there, singles_alike A ws us bs rest behind, refl)

module _ (takes : Takes) (A : Likeness) (pool : PoolType) (sound : IsSound pool)
    (inner : (grouped : Bool) (m n : DynamicMessage) (ps : List Payload) → m.descriptor.pool.now ≡ pool → n.descriptor.pool.now ≡ pool → m.descriptor.index ≡ n.descriptor.index
    → takes.message grouped m.descriptor nothing (content_of m) ps → takes.message grouped n.descriptor nothing (content_of n) ps → A.messages m n)
    (one_inside : (p : Payload) (rs ts : List (ℕ × Payload)) → takes.entry p rs → takes.entry p ts → rs ≡ ts) where
  -- ---- messages
  abbrev Took : Bool → KindType → Value → List Payload → Type 0
  Took grouped t v ps = (m : DynamicMessage) × (message_in v ≡ Some m) × IsKind pool (publics.Message m.descriptor) t × takes.message grouped m.descriptor nothing (content_of m) ps

  took : (grouped : Bool) (t : KindType) (v : Value) (ps : List Payload) → MergesMessage (takes.message grouped) pool t None (Some v) ps → Took grouped t v ps
  took grouped t v ps (before, after, (is, empty), stands, same, takes_it) =
      let from_nothing = subst (λ c. takes.message grouped before.descriptor c (content_of after) ps) empty takes_it in
      let its = subst (λ (d : MessageDescriptor). takes.message grouped d nothing (content_of after) ps) (sym same) from_nothing in
      (after, stands, subst (λ (d : MessageDescriptor). IsKind pool (publics.Message d) t) (sym same) is, its)

  made : (grouped : Bool) (t : KindType) (kind : Kind) (p : Payload) (v : Value) → IsKind pool kind t → IsMade (takes.message grouped) kind p v → Took grouped t v (p ∷ [])
  made grouped t (publics.Message d) p v is (m, there, same, takes_it) =
      let its = subst (λ (d : MessageDescriptor). takes.message grouped d nothing (content_of m) (p ∷ [])) (sym same) takes_it in
      (m, there, subst (λ (d : MessageDescriptor). IsKind pool (publics.Message d) t) (sym same) is, its)
  made grouped t kind p v is h = absurd h

  both_took : (grouped : Bool) (t : KindType) (v w : Value) (ps : List Payload) → Took grouped t v ps → Took grouped t w ps → AlikeOnes A v w
  both_took grouped t v w ps (m, at, kind, one) (n, also, sort, other) =
      let place : m.descriptor.index ≡ n.descriptor.index = cc (sym kind.1 ∙ sort.1) in
      alike_messages m n at also (inner grouped m n ps kind.0 sort.0 place one other)

  both_made : (grouped : Bool) (t : KindType) (ps : List Payload) (vs ws : List Value) → AreMade (takes.message grouped) pool t ps vs → AreMade (takes.message grouped) pool t ps ws → Pairwise (AlikeOnes A) vs ws
  both_made grouped t [] vs ws one other = subst (λ l. Pairwise (AlikeOnes A) l ws) (sym one) other
  both_made grouped t (p ∷ ps) vs ws (kind, v, behind, is, one, rest, whole) (sort, w, after, also, other, more, all) =
      subst (λ l. Pairwise (AlikeOnes A) l ws) (sym whole)
      (w, after, both_took grouped t v w (p ∷ []) (made grouped t kind p v is one) (made grouped t sort p w also other), both_made grouped t ps behind after rest more, all)

  -- ---- single values
  last_alike : (t : KindType) (o p : Option Value) (ps : List Payload) → HoldsLast pool t o ps → HoldsLast pool t p ps → (v w : Value) × (o ≡ Some v) × (p ≡ Some w) × AlikeOnes A v w
  last_alike t o p ps (v, x, put, is, last) (w, y, also, there, other) = (v, w, put, also, one_single x is (there ∙ ap Some (sym (one_last pool t ps x y last other))))

  left_once : (g : FieldType) (v w : Option held.Single) (ps : List Payload) → LeavesSingle pool g v ps → LeavesSingle pool g w ps → v ≡ w
  left_once g v w [] one other = one ∙ sym other
  left_once g v w (p ∷ ps) (x, is, last) (y, also, other) = is ∙ ap Some (one_last pool g.kind (p ∷ ps) x y last other) ∙ sym also

  -- ---- the entries of maps
  part_alike : (g : FieldType) → is_float g.kind ≡ false → (v w : Value) (ps : List Payload) → LeavesValue takes pool g v ps → LeavesValue takes pool g w ps → AlikeOnes A v w
  part_alike g whole v w ps one other = by (sort_of g.kind) where
    by : Sort g.kind → AlikeOnes A v w
    by (floating e) = absurd (true≢false (sym e ∙ whole))
    by (plain type) =
        let x = left_single pool g (singles.single v) ps type (one.0 type) in
        one_single x.0 x.1 (left_once g (singles.single w) (singles.single v) ps (other.0 type) (one.0 type) ∙ x.1)
    by (message_type type) = both_took g.group g.kind v w ps (took g.group g.kind v ps (one.1 type)) (took g.group g.kind w ps (other.1 type))

  module _ (t : KindType) (keyed : is_entry pool t ≡ true) (keys values : FieldType) (first : entry_field pool t 1 ≡ Some keys) (second : entry_field pool t 2 ≡ Some values) (whole : is_float values.kind ≡ false) where
    entry_alike : (p : Payload) (k j : MapKey) (v w : Value) → IsEntry takes pool t p k v → IsEntry takes pool t p j w → AlikePairs A (k, v) (j, w)
    entry_alike p k j v w (ks, vs, rs, one, two, inside, key_left, left) (ls, us, ts, three, four, also, other_key, other) =
        let same : rs ≡ ts = one_inside p rs ts inside also in
        let type = key_scalar keys.kind (sound.keys t keys keyed first).0 in
        let here = subst (λ (g : FieldType). LeavesKey pool g k (payloads 1 rs)) (is_part ks keys (sym one ∙ first)) key_left in
        let there = subst (λ (g : FieldType). LeavesKey pool g j (payloads 1 ts)) (is_part ls keys (sym three ∙ first)) other_key in
        let its = subst (λ (g : FieldType). LeavesValue takes pool g v (payloads 2 rs)) (is_part vs values (sym two ∙ second)) left in
        let that = subst (λ (g : FieldType). LeavesValue takes pool g w (payloads 2 ts)) (is_part us values (sym four ∙ second)) other in
        let key : Some (key_view k) ≡ Some (key_view j) = left_once keys (Some (key_view k)) (Some (key_view j)) (payloads 1 ts) (subst (λ rs. LeavesSingle pool keys (Some (key_view k)) (payloads 1 rs)) same (here type)) (there type) in
        (cc key, part_alike values whole v w (payloads 2 ts) (subst (λ rs. LeavesValue takes pool values v (payloads 2 rs)) same its) that) where
          is_part : (g h : FieldType) → Some g ≡ Some h → g ≡ h
          is_part g h e = cc e

    puts_alike : (es gs us bs : List (MapKey × Value)) (ps : List Payload) → Pairwise (AlikePairs A) es gs → PutEntries takes pool t es us ps → PutEntries takes pool t gs bs ps → Pairwise (AlikePairs A) us bs
    puts_alike es gs us bs [] pairs one other = subst (λ l. Pairwise (AlikePairs A) l bs) (sym one) (subst (Pairwise (AlikePairs A) es) (sym other) pairs)
    puts_alike es gs us bs (p ∷ ps) pairs (k, v, one, rest) (j, w, other, more) =
        puts_alike (insert_entry key_order es k v) (insert_entry key_order gs j w) us bs ps (put_alike A es gs k j v w pairs (entry_alike p k j v w one other)) rest more

  -- ---- all of a field, where a list or a map has no presence
  module _ (f : FieldType) (whole : holds_floats pool f ≡ false) (neither : FieldAlike A pool f None None) (unset : is_repeated f.cardinality ≡ true → f.presence ≡ false) where
    map_left : holds_map pool f ≡ true → (o q : Option Value) (ps : List Payload) → ContinuesMap takes pool f.kind None o ps → ContinuesMap takes pool f.kind None q ps → FieldAlike A pool f o q
    map_left is o q ps (before, after, stood, stands, put) (start, end, was, there, other) =
        let keyed = entry_of_map pool f is in
        let parts = sound.entries f.kind keyed in
        let empty : before ≡ [] = cc stood in
        let none : start ≡ [] = cc was in
        let first = subst (λ es. PutEntries takes pool f.kind es after ps) empty put in
        let second = subst (λ es. PutEntries takes pool f.kind es end ps) none other in
        let repeats = (and_parts (is_repeated f.cardinality) (not f.group) (and_parts (is_entry pool f.kind) (is_repeated f.cardinality && not f.group) is).1).0 in
        maps_alike A pool f (unset repeats) neither is o q after end stands there
        (puts_alike f.kind keyed parts.0 parts.1 parts.2 parts.3 (no_float_values pool f parts.1 whole is parts.3) [] [] after end ps refl first second)

    behind_nothing : (before after added : List Value) → Some [] ≡ Some before → after ≡ before ++ added → after ≡ added
    behind_nothing before after added stood is =
        let empty : before ≡ [] = cc stood in
        is ∙ ap (λ l. l ++ added) empty

    row_left : holds_list pool f ≡ true → is_repeated f.cardinality ≡ true → (o q : Option Value) (ps : List Payload) → ContinuesWith pool f.kind None o ps → ContinuesWith pool f.kind None q ps → FieldAlike A pool f o q
    row_left many repeats o q ps (before, after, ws, stood, stands, values, (added, behind, seen)) (start, end, xs, was, there, others, (more, last, also)) =
        let one = behind_nothing before after added stood behind in
        let two = behind_nothing start end more was last in
        let same = one_row pool f.kind ps xs ws others values in
        lists_alike A pool f (unset repeats) neither many o q after end stands there
        (subst (λ l. Pairwise (AlikeOnes A) l end) (sym one) (subst (Pairwise (AlikeOnes A) added) (sym two) (singles_alike A ws added more seen (also ∙ ap (map Some) same))))

    messages_left : holds_list pool f ≡ true → is_repeated f.cardinality ≡ true → (o q : Option Value) (ps : List Payload) → AddsMessages (takes.message f.group) pool f.kind None o ps → AddsMessages (takes.message f.group) pool f.kind None q ps → FieldAlike A pool f o q
    messages_left many repeats o q ps (before, after, added, stood, stands, makes, behind) (start, end, more, was, there, also, last) =
        let one = behind_nothing before after added stood behind in
        let two = behind_nothing start end more was last in
        lists_alike A pool f (unset repeats) neither many o q after end stands there
        (subst (λ l. Pairwise (AlikeOnes A) l end) (sym one) (subst (Pairwise (AlikeOnes A) added) (sym two) (both_made f.group f.kind ps added more makes also)))

    one_left : (o q : Option Value) → ((v w : Value) × (o ≡ Some v) × (q ≡ Some w) × AlikeOnes A v w) → FieldAlike A pool f o q
    one_left o q (v, w, one, two, alike) = subst (λ o. FieldAlike A pool f o q) (sym one) (subst (FieldAlike A pool f (Some v)) (sym two) (some_alike A pool f v w (alike_ones alike)))

    message_left : (o q : Option Value) (ps : List Payload) → MergesMessage (takes.message f.group) pool f.kind None o ps → MergesMessage (takes.message f.group) pool f.kind None q ps → FieldAlike A pool f o q
    message_left None q ps one other = absurd (cc one.3)
    message_left (Some v) None ps one other = absurd (cc other.3)
    message_left (Some v) (Some w) ps one other =
        one_left (Some v) (Some w) (v, w, refl, refl, both_took f.group f.kind v w ps (took f.group f.kind v ps one) (took f.group f.kind w ps other))

    pub field_left : (o q : Option Value) (ps : List Payload) → Leaves takes pool f None o ps → Leaves takes pool f None q ps → FieldAlike A pool f o q
    field_left o q [] one other = subst (λ o. FieldAlike A pool f o q) (sym one) (subst (FieldAlike A pool f None) (sym other) neither)
    field_left o q (p ∷ ps) one other = by (holds_map pool f) refl (is_repeated f.cardinality) refl (sort_of f.kind) where
      a_list : holds_map pool f ≡ false → is_repeated f.cardinality ≡ true → holds_list pool f ≡ true
      a_list no_map repeats = ap (λ b. b && not (holds_map pool f)) repeats ∙ ap not no_map

      no_list : is_repeated f.cardinality ≡ false → holds_list pool f ≡ false
      no_list once = ap (λ b. b && not (holds_map pool f)) once

      as_plain : (b : Bool) → holds_list pool f ≡ b → (o : Option Value) → LeavesAs (holds_list pool f) pool f.kind None o (p ∷ ps) → LeavesAs b pool f.kind None o (p ∷ ps)
      as_plain b is o h = subst (λ b. LeavesAs b pool f.kind None o (p ∷ ps)) is h

      as_message : (b : Bool) → holds_list pool f ≡ b → (o : Option Value) → TakesAs (holds_list pool f) (takes.message f.group) pool f.kind None o (p ∷ ps) → TakesAs b (takes.message f.group) pool f.kind None o (p ∷ ps)
      as_message b is o h = subst (λ b. TakesAs b (takes.message f.group) pool f.kind None o (p ∷ ps)) is h

      by : (keyed : Bool) → holds_map pool f ≡ keyed → (repeated : Bool) → is_repeated f.cardinality ≡ repeated → Sort f.kind → FieldAlike A pool f o q
      by true is repeated e sort = map_left is o q (p ∷ ps) (one.2 is) (other.2 is)
      by false is repeated e (floating k) = absurd (true≢false (sym k ∙ not_float pool f whole))
      by false is true e (plain type) = row_left (a_list is e) e o q (p ∷ ps) (as_plain true (a_list is e) o (one.0 type)) (as_plain true (a_list is e) q (other.0 type))
      by false is false e (plain type) = one_left o q (last_alike f.kind o q (p ∷ ps) (as_plain false (no_list e) o (one.0 type)) (as_plain false (no_list e) q (other.0 type)))
      by false is true e (message_type type) = messages_left (a_list is e) e o q (p ∷ ps) (as_message true (a_list is e) o (one.1 type is)) (as_message true (a_list is e) q (other.1 type is))
      by false is false e (message_type type) = message_left o q (p ∷ ps) (as_message false (no_list e) o (one.1 type is)) (as_message false (no_list e) q (other.1 type is))
