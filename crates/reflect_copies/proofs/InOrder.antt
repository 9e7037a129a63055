-- What is in order, one level at a time.
use Rattle.std.proofs.Common.{◌≡◌, ◌≢◌, ◌⊎◌, inl, inr, ℕ, zero, suc, ◌<◌, ◌==◌, Bool, true, false, cond, nat_lt, List, [], ◌∷◌, ◌++◌, map, length, get_or, Option, None, Some, unwrap_or, Box, Global, Less, Equal, Greater, refl, sym, ap, ◌∙◌, subst, arith}
use Rattle.std.proofs.lemmas.Bool.{and_parts, and_from}
use Rattle.std.proofs.lemmas.Bool.Decides.{eqb_tells}
use Rattle.std.proofs.lemmas.List.{get_or_default}
use Rattle.std.proofs.lemmas.List.Folds.{list_all-append, list_all-map}
use Rattle.std.proofs.lemmas.List.Sums.{AllPass-from_list_all, list_all-from_AllPass}
use Rattle.std.specs.BTreeMap.{insert_entry}
use Rattle.std.specs.List.{AllByRecursion, list_all}
use Rattle.std.specs.Ordering.{match_ordering}
use Rattle.std.specs.Prelude.{◌&&◌, IfSome, IsTrue}
use Rattle.std.specs.declared.cmp.Ordering.{Ordering}
use Rattle.reflect_entries.specs.Entries.{IsAscending, Updates, value_at}
use Rattle.reflect_entries.specs.Pairs.{on_value}
use Rattle.reflect_entries.proofs.Places.{found}
use Rattle.reflect_pool.specs.declared.message.MessageDescriptor.{MessageDescriptor}
use Rattle.reflect_scalar.specs.declared.map_key.MapKey.{MapKey}
use Rattle.reflect_message.specs.Held.{fields_in, extensions_in, fields_of, extensions_of}
use Rattle.reflect_copies.specs.InOrder.{ascends, entries_order, held_order, parts_order, value_order, message_order, in_order, held_in_order, entries_in_order, parts_in_order, items_in_order, map_in_order, IsInOrder}
use Rattle.reflect_message.specs.Lists.{list_items}
use Rattle.reflect_message.specs.Maps.{key_order, map_entries}
use Rattle.reflect_copies.specs.Maps.{PutsCopy}
use Rattle.reflect_message.specs.Messages.{message_in}
use Rattle.reflect_message.specs.Names.{DynamicMessage, Held, Parts, Value}
use Rattle.reflect_message.specs.declared.parts.HeldOf.{Block, out-HeldOf}
use Rattle.reflect_message.specs.declared.parts.HeldOf.TheFolds.{map-ValueOf, map-HeldOf, fold-MessageOf, fold-PartsOf, fold-roll-HeldOf, fold_out-ValueOf, fold_out-HeldOf, fold_out-MessageOf, fold_out-PartsOf}
use Rattle.reflect_message.specs.declared.parts.HeldOf.TheOpen.{HeldOf-F, ValueOf-F}
use Rattle.reflect_message.specs.declared.parts.HeldOf.TheViews.{out-ValueOf, roll-HeldOf}
use Rattle.reflect_copies.proofs.Alike.{Open, entries_in, extensions_in_block, fields_in_block, items_in, message_of}
use denote.Hole.Carrier.{roll}

abbrev Sorted : Value → Type 0
Sorted v = IsTrue (in_order v)

-- ---- numbers that ascend

less_told : (a b : ℕ) → a < b → nat_lt a b ≡ true
less_told a b lt = grind (arith, lt)

less_from : (a b : ℕ) → nat_lt a b ≡ true → a < b
less_from a b e = grind (arith, e)

ascends_from : (es : List (ℕ × Value)) → IsAscending es → ascends es ≡ true
ascends_from [] up = refl
ascends_from (e ∷ es) up =
    and_from _ _ (list_all-from_AllPass (λ (d : ℕ × Value). nat_lt e.0 d.0) es first)
    (ascends_from es rest) where
      first : (k : ℕ) (d : ℕ × Value) → k < length es → nat_lt e.0 (get_or es k d).0 ≡ true
      first k d lt =
          less_told e.0 (get_or es k d).0 (up zero (suc k) d (omega arith) (omega arith))

      rest : (i j : ℕ) (d : ℕ × Value) → i < j → j < length es
          → (get_or es i d).0 < (get_or es j d).0
      rest i j d less lt = up (suc i) (suc j) d (omega arith) (omega arith)

ascends_tells : (es : List (ℕ × Value)) → ascends es ≡ true → IsAscending es
ascends_tells [] e i j d less lt = absurd (omega arith)
ascends_tells (x ∷ es) e zero zero d less lt = absurd (omega arith)
ascends_tells (x ∷ es) e (suc i) zero d less lt = absurd (omega arith)
ascends_tells (x ∷ es) e zero (suc j) d less lt =
    less_from x.0 (get_or es j d).0
    (AllPass-from_list_all (λ (d : ℕ × Value). nat_lt x.0 d.0) es (and_parts _ _ e).0 j d (omega arith))
ascends_tells (x ∷ es) e (suc i) (suc j) d less lt =
    ascends_tells es (and_parts _ _ e).1 i j d (omega arith) (omega arith)

-- ---- values that are looked up

-- what stands under each number is in order
abbrev pub AllInOrder : List (ℕ × Value) → Type 0
AllInOrder es = (n : ℕ) → IfSome (value_at es n) (λ v. IsTrue (in_order v))

pub filled_in_order : (copy next : List (ℕ × Value)) (k : ℕ) (w : Value)
    → Updates copy next k (Some (unwrap_or (value_at copy k) w)) → IsTrue (in_order w)
    → AllInOrder copy → AllInOrder next
filled_in_order copy next k w updates fine all = λ n. by n (eqb_tells n k) where
  chosen : (o : Option Value) → IfSome o Sorted → Sorted (unwrap_or o w)
  chosen None h = fine
  chosen (Some v) h = h

  by : {A B : Type 0} (n : ℕ) → (A × (n ≡ k)) ⊎ (B × (n ≢ k)) → IfSome (value_at next n) Sorted
  by n (inl (_, is)) =
      subst (λ o. IfSome o Sorted) (sym (ap (value_at next) is ∙ updates.here))
      (chosen (value_at copy k) (all k))
  by n (inr (_, other)) = subst (λ o. IfSome o Sorted) (sym (updates.others n other)) (all n)

pub entries_from : (es : List (ℕ × Value)) → IsAscending es → AllInOrder es
    → IsTrue (entries_in_order es)
entries_from es up all =
    and_from _ _ (ascends_from es up)
    (list_all-from_AllPass (λ (e : ℕ × Value). in_order e.1) es each) where
      each : (k : ℕ) (d : ℕ × Value) → k < length es → in_order (get_or es k d).1 ≡ true
      each k d lt =
          let e : ℕ × Value = get_or es k d in
          subst (λ o. IfSome o Sorted)
          (found es k e.0 lt (λ (c : ℕ × Value). ap (λ (p : ℕ × Value). p.0) (get_or_default es k c d lt)) up e
          (get_or_default es k d e lt))
          (all e.0)

all_under : (es : List (ℕ × Value)) → list_all (λ e. in_order e.1) es ≡ true → AllInOrder es
all_under [] h n = tt
all_under (e ∷ es) h n = by (n == e.0) (all_under es (and_parts _ _ h).1 n) where
  by : (b : Bool) → IfSome (value_at es n) Sorted
      → IfSome (cond b (Some e.1) (value_at es n)) Sorted
  by true rest = (and_parts _ _ h).0
  by false rest = rest

-- ---- what a message holds

ascends_seen : (es : List (ℕ × Value)) → ascends (map (on_value in_order) es) ≡ ascends es
ascends_seen [] = refl
ascends_seen (e ∷ es) =
    ap (λ (b : Bool). b && ascends (map (on_value in_order) es))
    (list_all-map (λ (d : ℕ × Bool). nat_lt e.0 d.0) (on_value in_order) es)
    ∙ ap (λ (b : Bool). list_all (λ (d : ℕ × Value). nat_lt e.0 d.0) es && b) (ascends_seen es)

entries_seen : (es : List (ℕ × Value))
    → entries_order (map (on_value in_order) es) ≡ entries_in_order es
entries_seen es =
    ap (λ (b : Bool). b && list_all (λ (e : ℕ × Bool). e.1) (map (on_value in_order) es))
    (ascends_seen es)
    ∙ ap (λ (b : Bool). ascends es && b)
    (list_all-map (λ (e : ℕ × Bool). e.1) (on_value in_order) es)

abbrev pub parts_folded_in : Parts → Bool
parts_folded_in =
    fold-PartsOf MessageDescriptor Bool Bool Bool Bool held_order value_order message_order parts_order

pub parts_folded : (p : Parts) → parts_folded_in p ≡ parts_in_order p
parts_folded p =
    fold_out-PartsOf MessageDescriptor Bool Bool Bool Bool
    held_order value_order message_order parts_order p
    ∙ ap (λ (b : Bool). b && entries_order (map (on_value in_order) p.extensions))
    (entries_seen p.fields)
    ∙ ap (λ (b : Bool). entries_in_order p.fields && b) (entries_seen p.extensions)

-- what a block holds
pub held_in_order-Block : (b : Box Parts Global) → held_in_order (Block b) ≡ parts_in_order b.value
unfolding roll-HeldOf roll
held_in_order-Block b =
    fold-roll-HeldOf MessageDescriptor Bool Bool Bool Bool
    held_order value_order message_order parts_order (HeldOf-F.Block b)
    ∙ parts_folded b.value

abbrev pub message_folded : DynamicMessage → Bool
message_folded =
    fold-MessageOf MessageDescriptor Bool Bool Bool Bool held_order value_order message_order parts_order

held_opened : (h : Held)
    → held_in_order h ≡ (entries_in_order (fields_in h) && entries_in_order (extensions_in h))
held_opened h =
    fold_out-HeldOf MessageDescriptor Bool Bool Bool Bool
    held_order value_order message_order parts_order h
    ∙ by (out-HeldOf MessageDescriptor h) where
      by : (o : HeldOf-F MessageDescriptor Held Value DynamicMessage Parts)
          → held_order (map-HeldOf MessageDescriptor Held Value DynamicMessage Parts Bool Bool Bool Bool
          held_in_order in_order message_folded parts_folded_in o)
          ≡ (entries_in_order (fields_in_block o) && entries_in_order (extensions_in_block o))
      by HeldOf-F.Nothing = refl
      by (HeldOf-F.Block b) = parts_folded b.value

-- ---- one level of a value

abbrev stepped : Open → Bool
stepped o = value_order
    (map-ValueOf MessageDescriptor Held Value DynamicMessage Parts Bool Bool Bool Bool
    held_in_order in_order message_folded parts_folded_in o)

opened : (v : Value) → in_order v ≡ stepped (out-ValueOf MessageDescriptor v)
opened v =
    fold_out-ValueOf MessageDescriptor Bool Bool Bool Bool
    held_order value_order message_order parts_order v

folded : (m : DynamicMessage) → message_folded m ≡ held_in_order m.held
folded m =
    fold_out-MessageOf MessageDescriptor Bool Bool Bool Bool
    held_order value_order message_order parts_order m

pub order_of_message : (v : Value) (m : DynamicMessage) → message_in v ≡ Some m
    → in_order v ≡ held_in_order m.held
order_of_message v m e = opened v ∙ by (out-ValueOf MessageDescriptor v) e where
  by : (o : Open) → message_of o ≡ Some m → stepped o ≡ held_in_order m.held
  by (ValueOf-F.Message n) e =
      folded n ∙ ap (λ (o : Option DynamicMessage). held_in_order (unwrap_or o n).held) e
  by o e = absurd (cc e)

pub order_of_list : (v : Value) (vs : List Value) → list_items v ≡ Some vs
    → in_order v ≡ items_in_order vs
order_of_list v vs e = opened v ∙ by (out-ValueOf MessageDescriptor v) e where
  by : (o : Open) → items_in o ≡ Some vs → stepped o ≡ items_in_order vs
  by (ValueOf-F.List ws) e =
      list_all-map (λ (b : Bool). b) in_order ws.items
      ∙ ap (λ (o : Option (List Value)). items_in_order (unwrap_or o [])) e
  by o e = absurd (cc e)

pub order_of_map : (v : Value) (es : List (MapKey × Value)) → map_entries v ≡ Some es
    → in_order v ≡ map_in_order es
order_of_map v es e = opened v ∙ by (out-ValueOf MessageDescriptor v) e where
  by : (o : Open) → entries_in o ≡ Some es → stepped o ≡ map_in_order es
  by (ValueOf-F.Map fs) e =
      list_all-map (λ (e : MapKey × Bool). e.1) (λ (e : MapKey × Value). (e.0, in_order e.1)) fs.entries
      ∙ ap (λ (o : Option (List (MapKey × Value))). map_in_order (unwrap_or o [])) e
  by o e = absurd (cc e)

-- ---- a value more

pub item_pushed : (copy new : List Value) (v : Value) → new ≡ copy ++ v ∷ []
    → IsTrue (items_in_order copy) → IsTrue (in_order v) → IsTrue (items_in_order new)
item_pushed copy new v is h fine =
    ap items_in_order is ∙ list_all-append in_order copy (v ∷ [])
    ∙ and_from _ _ h (and_from _ _ fine refl)

entry_put : (es : List (MapKey × Value)) (k : MapKey) (v : Value) → map_in_order es ≡ true
    → in_order v ≡ true → map_in_order (insert_entry key_order es k v) ≡ true
entry_put [] k v h fine = and_from _ _ fine refl
entry_put (e ∷ es) k v h fine =
    by (key_order k e.0) (entry_put es k v (and_parts _ _ h).1 fine) where
      by : (o : Ordering) → map_in_order (insert_entry key_order es k v) ≡ true
          → map_in_order (match_ordering o ((k, v) ∷ e ∷ es) ((e.0, v) ∷ es)
          (e ∷ insert_entry key_order es k v)) ≡ true
      by Less rest = and_from _ _ fine h
      by Equal rest = and_from _ _ fine (and_parts _ _ h).1
      by Greater rest = and_from _ _ (and_parts _ _ h).0 rest

pub copy_put : (k : MapKey) (v : Value) (old new : List (MapKey × Value)) → PutsCopy k v old new
    → IsTrue (map_in_order old) → IsTrue (in_order v) → IsTrue (map_in_order new)
copy_put k v old new (copy, _, put) h fine = ap map_in_order put ∙ entry_put old copy v h fine

-- ---- what a message that is in order tells, level by level

module _ (m : DynamicMessage) (h : IsInOrder m) where
  both : (IsTrue (entries_in_order (fields_of m))) × IsTrue (entries_in_order (extensions_of m))
  both = and_parts _ _ (sym (held_opened m.held) ∙ h)

  pub fields_ascend : IsAscending (fields_of m)
  fields_ascend = ascends_tells (fields_of m) (and_parts _ _ both.0).0

  pub extensions_ascend : IsAscending (extensions_of m)
  extensions_ascend = ascends_tells (extensions_of m) (and_parts _ _ both.1).0

  pub fields_in_order : AllInOrder (fields_of m)
  fields_in_order = all_under (fields_of m) (and_parts _ _ both.0).1

  pub extensions_in_order : AllInOrder (extensions_of m)
  extensions_in_order = all_under (extensions_of m) (and_parts _ _ both.1).1

each_passes : {X : Type 0} (p : X → Bool) (xs : List X) → list_all p xs ≡ true
    → AllByRecursion (λ x. p x ≡ true) xs
each_passes p [] h = tt
each_passes p (x ∷ xs) h = ((and_parts _ _ h).0, each_passes p xs (and_parts _ _ h).1)

module _ (v : Value) (h : IsTrue (in_order v)) where
  pub message_below : (m : DynamicMessage) → message_in v ≡ Some m → IsInOrder m
  message_below m is = sym (order_of_message v m is) ∙ h

  pub items_below : (vs : List Value) → list_items v ≡ Some vs
      → AllByRecursion (λ w. IsTrue (in_order w)) vs
  items_below vs is = each_passes in_order vs (sym (order_of_list v vs is) ∙ h)

  pub entries_below : (es : List (MapKey × Value)) → map_entries v ≡ Some es
      → AllByRecursion (λ e. IsTrue (in_order e.1)) es
  entries_below es is = each_passes (λ e. in_order e.1) es (sym (order_of_map v es is) ∙ h)
