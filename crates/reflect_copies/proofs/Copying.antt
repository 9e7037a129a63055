-- Copies, entry by entry.
use Rattle.std.proofs.Common.{◌≡◌, ◌≢◌, ℕ, ◌+◌, ◌<◌, ◌≤◌, ◌==◌, min, Bool, true, false, cond, List, [], ◌∷◌, ◌++◌, map, take, length, get_or, Option, None, Some, option_map, unwrap_or, is_some, refl, sym, ap, ◌∙◌, subst, arith}
use Rattle.std.specs.Option.{option_or}
use Rattle.std.proofs.lemmas.List.{length-map, get_or-map, take_more, take_all}
use Rattle.reflect_pool.specs.declared.message.MessageDescriptor.{MessageDescriptor}
use Rattle.reflect_entries.specs.Entries.{Updates, value_at}
use Rattle.reflect_copies.specs.Copies.{AreCopies}
use Rattle.reflect_message.specs.Oneofs.{AreChosen}
use Rattle.reflect_copies.specs.Trees.{tree}
use Rattle.reflect_message.specs.Names.{Value}

-- of entries one behind the other the first with a number counts
value_behind : (xs ys : List (ℕ × Value)) (n : ℕ) → value_at (xs ++ ys) n ≡ option_or (value_at xs n) (value_at ys n)
value_behind [] ys n = refl
value_behind (x ∷ xs) ys n = by (n == x.0) (value_behind xs ys n) where
  by : (b : Bool) → value_at (xs ++ ys) n ≡ option_or (value_at xs n) (value_at ys n) → cond b (Some x.1) (value_at (xs ++ ys) n) ≡ option_or (cond b (Some x.1) (value_at xs n)) (value_at ys n)
  by true ih = refl
  by false ih = ih

or_none : (o : Option Value) → option_or o None ≡ o
or_none None = refl
or_none (Some v) = refl

-- an entry more, whose copy is put where nothing stands under its number
pub copies_more : (done copy next : List (ℕ × Value)) (k : ℕ) (v w : Value) → AreCopies done copy → Updates copy next k (Some (unwrap_or (value_at copy k) w)) → tree w ≡ tree v → AreCopies (done ++ (k, v) ∷ []) next
copies_more done copy next k v w copies updates same = λ n. by n (n == k) refl ∙ sym (ap (option_map tree) (value_behind done ((k, v) ∷ []) n)) where
  within : (o p : Option Value) → option_map tree o ≡ option_map tree p → option_map tree (Some (unwrap_or o w)) ≡ option_map tree (option_or p (Some v))
  within None None e = ap Some same
  within (Some u) (Some t) e = e
  within None (Some t) e = absurd (cc e)
  within (Some u) None e = absurd (cc e)

  by : (n : ℕ) (b : Bool) → (n == k) ≡ b → option_map tree (value_at next n) ≡ option_map tree (option_or (value_at done n) (cond (n == k) (Some v) None))
  by n true e =
      let is : n ≡ k = grind (arith, e) in
      ap (λ n. option_map tree (value_at next n)) is ∙ ap (option_map tree) updates.here ∙ within (value_at copy k) (value_at done k) (copies k)
      ∙ sym (ap (λ n. option_map tree (option_or (value_at done n) (Some v))) is) ∙ sym (ap (λ b. option_map tree (option_or (value_at done n) (cond b (Some v) None))) e)
  by n false e =
      let other : n ≢ k = λ is. absurd (grind (arith, e, is)) in
      ap (option_map tree) (updates.others n other) ∙ copies n ∙ sym (ap (option_map tree) (ap (λ b. option_or (value_at done n) (cond b (Some v) None)) e ∙ or_none (value_at done n)))

-- the same of the entry at a place, by the lists of the numbers and of the values
pub copies_next : (entries copy next : List (ℕ × Value)) (i k : ℕ) (v w : Value) (numbers : List ℕ) (values : List Value) → numbers ≡ map (λ (e : ℕ × Value). e.0) entries → values ≡ map (λ (e : ℕ × Value). e.1) entries
    → (i < length numbers) × (i < length values) × ((d : ℕ) → k ≡ get_or numbers i d) × ((d : Value) → v ≡ get_or values i d) → AreCopies (take i entries) copy → Updates copy next k (Some (unwrap_or (value_at copy k) w)) → tree w ≡ tree v
    → AreCopies (take (i + 1) entries) next
copies_next entries copy next i k v w numbers values ns vs (lt, _, number, value) copies updates same =
    let there : i < length entries = omega (arith, lt, ap length ns, length-map entries (λ (e : ℕ × Value). e.0)) in
    let e = get_or entries i (k, v) in
    let its : k ≡ e.0 = number k ∙ ap (λ l. get_or l i k) ns ∙ get_or-map (λ (e : ℕ × Value). e.0) entries i (k, v) k there in
    let held : v ≡ e.1 = value v ∙ ap (λ l. get_or l i v) vs ∙ get_or-map (λ (e : ℕ × Value). e.1) entries i (k, v) v there in
    let put = subst (λ k. Updates copy next k (Some (unwrap_or (value_at copy k) w))) its updates in
    subst (λ l. AreCopies l next) (sym (take_more entries i (k, v) there)) (copies_more (take i entries) copy next e.0 e.1 w copies put (same ∙ ap tree held))

-- all entries are copied
pub copies_all : (entries copy : List (ℕ × Value)) (i : ℕ) (numbers : List ℕ) (values : List Value) → numbers ≡ map (λ (e : ℕ × Value). e.0) entries → values ≡ map (λ (e : ℕ × Value). e.1) entries
    → i ≡ min (length numbers) (length values) → AreCopies (take i entries) copy → AreCopies entries copy
copies_all entries copy i numbers values ns vs ends copies =
    let whole : length entries ≤ i = omega (arith, ends, ap length ns, ap length vs, length-map entries (λ (e : ℕ × Value). e.0), length-map entries (λ (e : ℕ × Value). e.1)) in
    subst (λ l. AreCopies l copy) (take_all i entries whole) copies

some_copied : (o p : Option Value) → option_map tree o ≡ option_map tree p → is_some o ≡ is_some p
some_copied None None e = refl
some_copied (Some u) (Some t) e = refl
some_copied None (Some t) e = absurd (cc e)
some_copied (Some u) None e = absurd (cc e)

-- what is noted of oneofs is noted of the copy
pub chosen_copied : (m : MessageDescriptor) (choices noted : List (ℕ × ℕ)) (old copy : List (ℕ × Value)) → noted ≡ choices → AreCopies old copy → AreChosen m choices old → AreChosen m noted copy
chosen_copied m choices noted old copy same copies h = subst (λ l. AreChosen m l copy) (sym same) (record { member = h.member; noted = λ f owns first is stands. h.noted f owns first is (sym (some_copied _ _ (copies _)) ∙ stands) })
