-- Keys of maps stand in the order of what is seen of them: keys that ascend do so with one more entry put in, and so do those that are seen alike.
use Rattle.std.proofs.Common.{◌≡◌, List, [], ◌∷◌, map, Option, None, Some, Ordering, Less, Equal, Greater, refl, sym, ap, ◌∙◌, subst, int_cmp, nat_cmp}
use Rattle.std.specs.BTreeMap.{insert_entry}
use Rattle.std.specs.Cmp.Lexicographic.{slice_cmp}
use Rattle.std.specs.List.{AllByRecursion}
use Rattle.std.specs.List.Sorted.{IsStrictlySortedBy}
use Rattle.std.specs.Map.{keys_of}
use Rattle.std.specs.Ordering.{bool_cmp, match_ordering, ordering_reverse}
use Rattle.reflect_scalar.specs.Keys.{key_view}
use Rattle.reflect_scalar.specs.Singles as held
use Rattle.reflect_scalar.specs.contracts.map_key.MapKeyOrd.TheImpl.Laws.{total-law}
use Rattle.reflect_scalar.specs.declared.map_key.MapKey.{MapKey}
use Rattle.reflect_scalar.specs.declared.map_key.MapKey.TheVariants as keys
use Rattle.reflect_copies.specs.Trees.{ValueTree, entry_tree}
use Rattle.reflect_extend.specs.Gives.{Entry}
use Rattle.reflect_extend.specs.Puts.{PutsAll, with_given}
use Rattle.reflect_message.specs.Maps.{key_order}
use Rattle.reflect_message.specs.Names.{Value}
use Rattle.protobuf_model.specs.Values.{Single, int32, int64, text, truth, uint32, uint64}
use Rattle.message_view.specs.Singles.{single_view}
use Rattle.message_view.proofs.Keys.{form_of, key_single}
use Rattle.valid_view.specs.Inside.{AreAscending}

-- ---- one more entry

-- the key is below those of the entries
abbrev IsBelow : MapKey → List (MapKey × Value) → Type 0
IsBelow k es = AllByRecursion (λ l. key_order k l ≡ Less) (keys_of es)

below_lower : (k l : MapKey) (es : List (MapKey × Value)) → key_order k l ≡ Less → IsBelow l es → IsBelow k es
below_lower k l [] less below = tt
below_lower k l (e ∷ es) less below = (total-law.trans k l e.0 less below.0, below_lower k l es less below.1)

below_put : (k : MapKey) (es : List (MapKey × Value)) (l : MapKey) (v : Value) → key_order k l ≡ Less → IsBelow k es → IsBelow k (insert_entry key_order es l v)
below_put k [] l v less below = (less, tt)
below_put k (e ∷ es) l v less below = by (key_order l e.0) (below_put k es l v less below.1) where
  by : (o : Ordering) → IsBelow k (insert_entry key_order es l v) → IsBelow k (match_ordering o ((l, v) ∷ e ∷ es) ((e.0, v) ∷ es) (e ∷ insert_entry key_order es l v))
  by Less later = (less, below)
  by Equal later = (below.0, below.1)
  by Greater later = (below.0, later)

put_first : (o : Ordering) (e : MapKey × Value) (es : List (MapKey × Value)) (k : MapKey) (v : Value) → key_order k e.0 ≡ o → AreAscending (e ∷ es) → AreAscending (insert_entry key_order es k v)
    → AreAscending (match_ordering o ((k, v) ∷ e ∷ es) ((e.0, v) ∷ es) (e ∷ insert_entry key_order es k v))
unfolding IsStrictlySortedBy
put_first Less e es k v is up later = ((is, below_lower k e.0 es is up.0), up)
put_first Equal e es k v is up later = (up.0, up.1)
put_first Greater e es k v is up later = (below_put e.0 es k v (total-law.antisymm e.0 k ∙ ap ordering_reverse is) up.0, later)

pub none_ascend : AreAscending []
unfolding IsStrictlySortedBy
none_ascend = tt

pub put_ascends : (es : List (MapKey × Value)) (k : MapKey) (v : Value) → AreAscending es → AreAscending (insert_entry key_order es k v)
unfolding IsStrictlySortedBy
put_ascends [] k v up = (tt, tt)
put_ascends (e ∷ es) k v up = put_first (key_order k e.0) e es k v refl up (put_ascends es k v up.1)

-- and so with those that values give
pub puts_ascend : (before after : List Entry) (vs : List Value) → AreAscending before → PutsAll before after vs → AreAscending after
puts_ascend before after [] up h = subst AreAscending (sym h) up
puts_ascend before after (v ∷ vs) up (between, (given, gives, put_so), rest) = puts_ascend between after vs (subst AreAscending (sym put_so) (one_put given)) rest where
  one_put : (given : Option Entry) → AreAscending (with_given before given)
  one_put None = up
  one_put (Some e) = put_ascends before e.0 e.1 up

-- ---- keys that are seen alike

-- the order, by what is seen
abbrev pub seen_order : Single → Single → Ordering
seen_order (truth a) (truth b) = bool_cmp a b
seen_order (int32 y) (int32 z) = int_cmp y z
seen_order (int64 y) (int64 z) = int_cmp y z
seen_order (uint32 m) (uint32 n) = nat_cmp m n
seen_order (uint64 m) (uint64 n) = nat_cmp m n
seen_order (text xs) (text ys) = slice_cmp nat_cmp xs ys
seen_order x y = nat_cmp (form_of x) (form_of y)

pub compared : (a b : MapKey) → key_order a b ≡ seen_order (key_single a) (key_single b)
compared (keys.Bool a) (keys.Bool b) = refl
compared (keys.I32 a) (keys.I32 b) = refl
compared (keys.I64 a) (keys.I64 b) = refl
compared (keys.U32 a) (keys.U32 b) = refl
compared (keys.U64 a) (keys.U64 b) = refl
compared (keys.String a) (keys.String b) = refl
compared a b = refl

same_order : (k l a b : MapKey) → key_view k ≡ key_view a → key_view l ≡ key_view b → key_order k l ≡ key_order a b
same_order k l a b first second = compared k l ∙ (λ i. seen_order (single_view (first i)) (single_view (second i))) ∙ sym (compared a b)

key_alike : (e g : MapKey × Value) → entry_tree g ≡ entry_tree e → key_view g.0 ≡ key_view e.0
key_alike e g same = ap (λ (p : held.Single × ValueTree). p.0) same

below_alike : (k l : MapKey) → key_view l ≡ key_view k → (es gs : List (MapKey × Value)) → map entry_tree gs ≡ map entry_tree es → IsBelow k es → IsBelow l gs
below_alike k l key es [] same below = tt
below_alike k l key [] (g ∷ gs) same below = absurd (cc same)
below_alike k l key (e ∷ es) (g ∷ gs) same below =
    let here : entry_tree g ≡ entry_tree e = cc same in
    let rest : map entry_tree gs ≡ map entry_tree es = cc same in
    (same_order l g.0 k e.0 key (key_alike e g here) ∙ below.0, below_alike k l key es gs rest below.1)

pub alike_ascend : (es gs : List (MapKey × Value)) → map entry_tree gs ≡ map entry_tree es → AreAscending es → AreAscending gs
unfolding IsStrictlySortedBy
alike_ascend es [] same up = tt
alike_ascend [] (g ∷ gs) same up = absurd (cc same)
alike_ascend (e ∷ es) (g ∷ gs) same up =
    let here : entry_tree g ≡ entry_tree e = cc same in
    let rest : map entry_tree gs ≡ map entry_tree es = cc same in
    (below_alike e.0 g.0 (key_alike e g here) es gs rest up.0, alike_ascend es gs rest up.1)
