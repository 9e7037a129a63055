-- Records that are kept in sets by their numbers: how they divide at a number, and how they grow.
use Rattle.std.proofs.Common.{◌≡◌, ◌≢◌, ℕ, ◌<◌, ◌≤◌, List, [], ◌∷◌, ◌++◌, Bool, true, false, cond, map, Some, None, nat_lt, nat_le, arith, ap, sym, ◌∙◌, refl, true≢false, is_some, unwrap_or, length}
use Rattle.std.proofs.lemmas.List.{append_assoc}
use Rattle.std.proofs.lemmas.List.Elements.{filter-append}
use Rattle.std.proofs.lemmas.Map.Keys.{sorted_head, sorted_tail}
use Rattle.std.specs.List.{AllByRecursion}
use Rattle.std.specs.List.Sorted.{IsStrictlySortedBy}
use Rattle.std.specs.BTreeMap.{insert_entry, is_at}
use Rattle.std.specs.Map.{keys_of, lookup, set_value}
use Rattle.std.specs.Ordering.{nat_cmp, match_ordering}
use Rattle.std.specs.declared.cmp.Ordering.{Ordering}
use Rattle.std.specs.declared.cmp.Ordering.TheVariants.{Less, Equal, Greater}
use Rattle.reflect_wire.specs.Records.{Payload}
use Rattle.reflect_wire.specs.declared.unknown.UnknownFieldSet.{UnknownFieldSet}
use Rattle.reflect_entries.specs.Sets.{set_records, records_in, IsSetOf, AreGrouped, up_to, above, with_record}

pub map-append : {X Y : Type 0} (f : X → Y) (xs ys : List X) → map f (xs ++ ys) ≡ map f xs ++ map f ys
map-append f [] ys = refl
map-append f (x ∷ xs) ys = ap (λ l. f x ∷ l) (map-append f xs ys)

pub empty_of : {X : Type 0} (xs : List X) → length xs ≡ 0 → xs ≡ []
empty_of [] e = refl
empty_of (x ∷ xs) e = absurd (omega (arith, e))

-- ---- records divided at a number

pub low : (n : ℕ) (rs : List (ℕ × Payload)) → AllByRecursion (λ r. r.0 ≤ n) rs → up_to n rs ≡ rs
low n [] h = refl
low n (r ∷ rs) h =
    let le = h.0 in
    let is : nat_le r.0 n ≡ true = grind (arith, le) in
    ap (λ b. cond b (r ∷ up_to n rs) (up_to n rs)) is ∙ ap (λ l. r ∷ l) (low n rs h.1)

pub not_above : (n : ℕ) (rs : List (ℕ × Payload)) → AllByRecursion (λ r. r.0 ≤ n) rs → above n rs ≡ []
not_above n [] h = refl
not_above n (r ∷ rs) h =
    let le = h.0 in
    let is : nat_lt n r.0 ≡ false = grind (arith, le) in
    ap (λ b. cond b (r ∷ above n rs) (above n rs)) is ∙ not_above n rs h.1

pub not_low : (n : ℕ) (rs : List (ℕ × Payload)) → AllByRecursion (λ r. n < r.0) rs → up_to n rs ≡ []
not_low n [] h = refl
not_low n (r ∷ rs) h =
    let lt = h.0 in
    let is : nat_le r.0 n ≡ false = grind (arith, lt) in
    ap (λ b. cond b (r ∷ up_to n rs) (up_to n rs)) is ∙ not_low n rs h.1

pub high : (n : ℕ) (rs : List (ℕ × Payload)) → AllByRecursion (λ r. n < r.0) rs → above n rs ≡ rs
high n [] h = refl
high n (r ∷ rs) h =
    let lt = h.0 in
    let is : nat_lt n r.0 ≡ true = grind (arith, lt) in
    ap (λ b. cond b (r ∷ above n rs) (above n rs)) is ∙ ap (λ l. r ∷ l) (high n rs h.1)

-- ---- the same of sets

pub weaken : {X : Type 0} (P Q : X → Type 0) (xs : List X) → ((x : X) → P x → Q x) → AllByRecursion P xs → AllByRecursion Q xs
weaken P Q [] f h = tt
weaken P Q (x ∷ xs) f h = (f x h.0, weaken P Q xs f h.1)

pub all_of_two : {X : Type 0} (P : X → Type 0) (xs ys : List X) → AllByRecursion P xs → AllByRecursion P ys → AllByRecursion P (xs ++ ys)
all_of_two P [] ys h g = g
all_of_two P (x ∷ xs) ys h g = (h.0, all_of_two P xs ys h.1 g)

-- the records of sets whose numbers have a property have it
pub all_in : (P : ℕ → Type 0) (sets : List (ℕ × UnknownFieldSet)) → AreGrouped sets → AllByRecursion P (keys_of sets) → AllByRecursion (λ r. P r.0) (records_in sets)
all_in P [] g h = tt
all_in P (e ∷ sets) g h =
    all_of_two (λ r. P r.0) (set_records e.1) (records_in sets)
    (weaken (λ r. r.0 ≡ e.0) (λ r. P r.0) (set_records e.1) (λ r same. rw same h.0) g.0.1)
    (all_in P sets g.1 h.1)

-- ---- the numbers of ascending sets

below_all : (n m : ℕ) (ns : List ℕ) → n < m → AllByRecursion (λ k. nat_cmp m k ≡ Less) ns → AllByRecursion (λ k. n < k) ns
below_all n m ns lt h = weaken (λ k. nat_cmp m k ≡ Less) (λ k. n < k) ns (λ k less. below_less k less) h
  where
    below_less : (k : ℕ) → nat_cmp m k ≡ Less → n < k
    below_less k less = grind (arith, less, lt)

-- a number below the first is below all
rises : (n : ℕ) (e : ℕ × UnknownFieldSet) (sets : List (ℕ × UnknownFieldSet)) → IsStrictlySortedBy nat_cmp (keys_of (e ∷ sets)) → n < e.0 → AllByRecursion (λ k. n < k) (keys_of (e ∷ sets))
rises n e sets s lt = (lt, below_all n e.0 (keys_of sets) lt (sorted_head nat_cmp e.0 (keys_of sets) s))

not_there : (n : ℕ) (sets : List (ℕ × UnknownFieldSet)) → AllByRecursion (λ k. n < k) (keys_of sets) → lookup (is_at (nat_cmp n)) sets ≡ None
not_there n [] h = refl
not_there n (e ∷ sets) h =
    let lt = h.0 in
    let is : is_at (nat_cmp n) e.0 ≡ false = grind (arith, lt) in
    ap (λ b. cond b (Some e.1) (lookup (is_at (nat_cmp n)) sets)) is ∙ not_there n sets h.1

sorted_above : (n : ℕ) (ns : List ℕ) → IsStrictlySortedBy nat_cmp (n ∷ ns) → AllByRecursion (λ k. n < k) ns
sorted_above n ns s = weaken (λ k. nat_cmp n k ≡ Less) (λ k. n < k) ns (λ k less. grind (arith, less)) (sorted_head nat_cmp n ns s)

-- ---- a record more

-- behind records of lower numbers the others grow
grows : (r : ℕ × Payload) (front rest rest' : List (ℕ × Payload)) → AllByRecursion (λ q. q.0 ≤ r.0) front → rest' ≡ with_record rest r → front ++ rest' ≡ with_record (front ++ rest) r
grows r front rest rest' h e =
    ap (λ l. front ++ l) e
    ∙ sym (append_assoc front (up_to r.0 rest) (r ∷ above r.0 rest))
    ∙ ap (λ l. (l ++ up_to r.0 rest) ++ r ∷ above r.0 rest) (sym (low r.0 front h))
    ∙ ap (λ l. l ++ r ∷ above r.0 rest) (sym (filter-append (λ q. nat_le q.0 r.0) front rest))
    ∙ ap (λ l. up_to r.0 (front ++ rest) ++ r ∷ l) (sym (filter-append (λ q. nat_lt r.0 q.0) front rest ∙ ap (λ l. l ++ above r.0 rest) (not_above r.0 front h)))

-- before records of higher numbers it is the first
leads : (r : ℕ × Payload) (rest : List (ℕ × Payload)) → AllByRecursion (λ q. r.0 < q.0) rest → r ∷ rest ≡ with_record rest r
leads r rest h = ap (λ l. l ++ r ∷ rest) (sym (not_low r.0 rest h)) ∙ ap (λ l. up_to r.0 rest ++ r ∷ l) (sym (high r.0 rest h))

at_most : (n m : ℕ) (rs : List (ℕ × Payload)) → n ≤ m → AllByRecursion (λ q. q.0 ≡ n) rs → AllByRecursion (λ q. q.0 ≤ m) rs
at_most n m rs le h = weaken (λ q. q.0 ≡ n) (λ q. q.0 ≤ m) rs (λ q same. rw same le) h

module _ (r : ℕ × Payload) (s : UnknownFieldSet) where
  -- a set of its own for a number that has none
  pub placed_alone : (sets : List (ℕ × UnknownFieldSet)) → set_records s ≡ r ∷ [] → AreGrouped sets → IsStrictlySortedBy nat_cmp (keys_of sets) → lookup (is_at (nat_cmp r.0)) sets ≡ None
      → records_in (insert_entry nat_cmp sets r.0 s) ≡ with_record (records_in sets) r
  placed_alone [] one g up none = ap (λ l. l ++ []) one
  placed_alone (e ∷ sets) one g up none = by (nat_cmp r.0 e.0) refl none (placed_alone sets one g.1 (sorted_tail nat_cmp e.0 (keys_of sets) up))
    where
      by : (o : Ordering) → nat_cmp r.0 e.0 ≡ o → lookup (is_at (nat_cmp r.0)) (e ∷ sets) ≡ None
          → (lookup (is_at (nat_cmp r.0)) sets ≡ None → records_in (insert_entry nat_cmp sets r.0 s) ≡ with_record (records_in sets) r)
          → records_in (match_ordering o ((r.0, s) ∷ e ∷ sets) ((e.0, s) ∷ sets) (e ∷ insert_entry nat_cmp sets r.0 s)) ≡ with_record (records_in (e ∷ sets)) r
      by Less is none later =
          let lt : r.0 < e.0 = grind (arith, is) in
          ap (λ l. l ++ records_in (e ∷ sets)) one ∙ leads r (records_in (e ∷ sets)) (all_in (λ k. r.0 < k) (e ∷ sets) g (rises r.0 e sets up lt))
      by Equal is none later =
          let here : is_at (nat_cmp r.0) e.0 ≡ true = grind (arith, is) in
          let some : Some e.1 ≡ None = sym (ap (λ b. cond b (Some e.1) (lookup (is_at (nat_cmp r.0)) sets)) here) ∙ none in
          absurd (true≢false (ap is_some some))
      by Greater is none later =
          let le : e.0 ≤ r.0 = grind (arith, is) in
          let not_here : is_at (nat_cmp r.0) e.0 ≡ false = grind (arith, is) in
          grows r (set_records e.1) (records_in sets) (records_in (insert_entry nat_cmp sets r.0 s)) (at_most e.0 r.0 (set_records e.1) le g.0.1)
          (later (sym (ap (λ b. cond b (Some e.1) (lookup (is_at (nat_cmp r.0)) sets)) not_here) ∙ none))

  -- the set that stands under the number, with the record behind
  pub placed_behind : (sets : List (ℕ × UnknownFieldSet)) (t : UnknownFieldSet) → set_records s ≡ set_records t ++ r ∷ [] → AreGrouped sets → IsStrictlySortedBy nat_cmp (keys_of sets) → lookup (is_at (nat_cmp r.0)) sets ≡ Some t
      → records_in (set_value (is_at (nat_cmp r.0)) sets s) ≡ with_record (records_in sets) r
  placed_behind [] t more g up some = absurd (true≢false (sym (ap is_some some)))
  placed_behind (e ∷ sets) t more g up some = by (nat_cmp r.0 e.0) refl some (placed_behind sets t more g.1 (sorted_tail nat_cmp e.0 (keys_of sets) up))
    where
      test : ℕ → Bool
      test = is_at (nat_cmp r.0)

      by : (o : Ordering) → nat_cmp r.0 e.0 ≡ o → lookup test (e ∷ sets) ≡ Some t
          → (lookup test sets ≡ Some t → records_in (set_value test sets s) ≡ with_record (records_in sets) r) → records_in (set_value test (e ∷ sets) s) ≡ with_record (records_in (e ∷ sets)) r
      by Less is some later =
          let lt : r.0 < e.0 = grind (arith, is) in
          absurd (true≢false (ap is_some (sym some ∙ not_there r.0 (e ∷ sets) (rises r.0 e sets up lt))))
      by Equal is some later =
          let here : test e.0 ≡ true = grind (arith, is) in
          let same : e.0 ≡ r.0 = grind (arith, is) in
          let le : e.0 ≤ r.0 = grind (arith, same) in
          let held : e.1 ≡ t = ap (λ o. unwrap_or o e.1) (sym (ap (λ b. cond b (Some e.1) (lookup test sets)) here) ∙ some) in
          let behind : AllByRecursion (λ q. r.0 < q.0) (records_in sets) = all_in (λ k. r.0 < k) sets g.1 (rw (← same) (sorted_above e.0 (keys_of sets) up)) in
          ap (λ b. records_in (cond b ((e.0, s) ∷ sets) (e ∷ set_value test sets s))) here
          ∙ ap (λ l. l ++ records_in sets) more
          ∙ append_assoc (set_records t) (r ∷ []) (records_in sets)
          ∙ ap (λ u. set_records u ++ r ∷ records_in sets) (sym held)
          ∙ grows r (set_records e.1) (records_in sets) (r ∷ records_in sets) (at_most e.0 r.0 (set_records e.1) le g.0.1) (leads r (records_in sets) behind)
      by Greater is some later =
          let le : e.0 ≤ r.0 = grind (arith, is) in
          let not_here : test e.0 ≡ false = grind (arith, is) in
          ap (λ b. records_in (cond b ((e.0, s) ∷ sets) (e ∷ set_value test sets s))) not_here
          ∙ grows r (set_records e.1) (records_in sets) (records_in (set_value test sets s)) (at_most e.0 r.0 (set_records e.1) le g.0.1)
          (later (sym (ap (λ b. cond b (Some e.1) (lookup test sets)) not_here) ∙ some))

-- ---- what stands in the sets' places

module _ (test : ℕ → Bool) (s t : UnknownFieldSet) where
  -- a set with the same records in the place of another
  pub same_records : (sets : List (ℕ × UnknownFieldSet)) → lookup test sets ≡ Some t → set_records s ≡ set_records t → records_in (set_value test sets s) ≡ records_in sets
  same_records [] some same = refl
  same_records (e ∷ sets) some same = by (test e.0) some (λ later. same_records sets later same)
    where
      by : (b : Bool) → cond b (Some e.1) (lookup test sets) ≡ Some t → (lookup test sets ≡ Some t → records_in (set_value test sets s) ≡ records_in sets)
          → records_in (cond b ((e.0, s) ∷ sets) (e ∷ set_value test sets s)) ≡ set_records e.1 ++ records_in sets
      by true some later = ap (λ l. l ++ records_in sets) (same ∙ ap (λ o. set_records (unwrap_or o e.1)) (sym some))
      by false some later = ap (λ l. set_records e.1 ++ l) (later some)

  pub grouped_changed : (sets : List (ℕ × UnknownFieldSet)) → lookup test sets ≡ Some t → ((k : ℕ) → test k ≡ true → IsSetOf k (set_records t) → IsSetOf k (set_records s)) → AreGrouped sets → AreGrouped (set_value test sets s)
  grouped_changed [] some still g = g
  grouped_changed (e ∷ sets) some still g = by (test e.0) refl some (λ later. grouped_changed sets later still g.1)
    where
      by : (b : Bool) → test e.0 ≡ b → cond b (Some e.1) (lookup test sets) ≡ Some t → (lookup test sets ≡ Some t → AreGrouped (set_value test sets s))
          → AreGrouped (cond b ((e.0, s) ∷ sets) (e ∷ set_value test sets s))
      by true is some later = (still e.0 is (rw (← ap (λ o. unwrap_or o e.1) some) g.0), g.1)
      by false is some later = (g.0, later some)

pub grouped_more : (n : ℕ) (s : UnknownFieldSet) (sets : List (ℕ × UnknownFieldSet)) → IsSetOf n (set_records s) → AreGrouped sets → AreGrouped (insert_entry nat_cmp sets n s)
grouped_more n s [] h g = (h, tt)
grouped_more n s (e ∷ sets) h g = by (nat_cmp n e.0) refl (grouped_more n s sets h g.1)
  where
    by : (o : Ordering) → nat_cmp n e.0 ≡ o → AreGrouped (insert_entry nat_cmp sets n s) → AreGrouped (match_ordering o ((n, s) ∷ e ∷ sets) ((e.0, s) ∷ sets) (e ∷ insert_entry nat_cmp sets n s))
    by Less is later = (h, g)
    by Equal is later = let same : n ≡ e.0 = grind (arith, is) in (rw (← same) h, g.1)
    by Greater is later = (g.0, later)

-- a record more of the number
pub set_grows : (n : ℕ) (rs : List (ℕ × Payload)) (r : ℕ × Payload) → r.0 ≡ n → AllByRecursion (λ q. q.0 ≡ n) rs → IsSetOf n (rs ++ r ∷ [])
set_grows n rs r is h = (not_empty rs, all_of_two (λ q. q.0 ≡ n) rs (r ∷ []) h (is, tt))
  where
    not_empty : (qs : List (ℕ × Payload)) → qs ++ r ∷ [] ≢ []
    not_empty [] e = absurd (omega (arith, ap length e))
    not_empty (q ∷ qs) e = absurd (omega (arith, ap length e))

-- no set has records just where there is no set
pub none_in : (sets : List (ℕ × UnknownFieldSet)) → AreGrouped sets → records_in sets ≡ [] → sets ≡ []
none_in [] g h = refl
none_in (e ∷ sets) g h = absurd (g.0.0 (front (set_records e.1) h))
  where
    front : (rs : List (ℕ × Payload)) → rs ++ records_in sets ≡ [] → rs ≡ []
    front [] h = refl
    front (q ∷ rs) h = absurd (omega (arith, ap length h))
