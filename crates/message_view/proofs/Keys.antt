-- The order of keys, in the words of maps and in those of the model.
use Rattle.std.proofs.Common.{◌≡◌, ℕ, ℤ, pos, negsuc, ◌==◌, ◌&&◌, ◌||◌, not, nat_lt, bytes_eq, Bool, true, false, cond, List, [], ◌∷◌, map, Ordering, Less, Equal, Greater, refl, sym, ap, ◌∙◌, subst, arith, string_bytes}
use Rattle.std.specs.BTreeMap.{insert_entry}
use Rattle.std.specs.Cmp.Lexicographic.{slice_cmp}
use Rattle.std.specs.List.{AllByRecursion}
use Rattle.std.specs.Ordering.{nat_cmp, int_cmp, bool_cmp, ordering_then, match_ordering, MatchOrdering}
use Rattle.std.specs.Prelude.{◌<ℤ◌}
use Rattle.std.proofs.lemmas.Cmp.{int_ranked}
use Rattle.std.proofs.lemmas.Int.{ints}
use Rattle.reflect_scalar.specs.Keys.{key_view}
use Rattle.reflect_scalar.specs.declared.map_key.MapKey.{MapKey}
use Rattle.reflect_scalar.specs.declared.map_key.MapKey.TheVariants as keys
use Rattle.reflect_scalar.specs.contracts.map_key.MapKeyOrd.TheImpl.{ghosts}
use Rattle.protobuf_model.specs.Values.{Single, truth, int32, int64, uint32, uint64, text, blob, enumerated, Content}
use Rattle.protobuf_model.specs.Scalars.{same, same_int, same_bool}
use Rattle.protobuf_model.specs.Keys.{below, below_int, below_bytes, put}
use Rattle.protobuf_model.proofs.KeyOrder.{same_true}
use Rattle.message_view.specs.Singles.{single_view}

-- what an order says of whether two are equal, and whether the first is below
abbrev pub Says : Ordering → Bool → Bool → Type 0
Says Less s b = (s ≡ false) × (b ≡ true)
Says Equal s b = s ≡ true
Says Greater s b = (s ≡ false) × (b ≡ false)

nat_says : (a b : ℕ) → Says (nat_cmp a b) (a == b) (nat_lt a b)
nat_says a b = by (nat_lt a b) refl (a == b) refl where
  by : (l : Bool) → nat_lt a b ≡ l → (s : Bool) → (a == b) ≡ s → Says (cond l Less (cond s Equal Greater)) (a == b) (nat_lt a b)
  by true lt s is = (grind (arith, lt), lt)
  by false ge true is = is
  by false ge false is = (is, ge)

lower : (y z : ℤ) → y <ℤ z → (same_int y z ≡ false) × (below_int y z ≡ true)
lower (pos m) (pos n) lt = (grind (arith, ints, lt), grind (arith, ints, lt))
lower (negsuc m) (negsuc n) lt = (grind (arith, ints, lt), grind (arith, ints, lt))
lower (pos m) (negsuc n) lt = absurd (grind (arith, ints, lt))
lower (negsuc m) (pos n) lt = (refl, refl)

higher : (y z : ℤ) → z <ℤ y → (same_int y z ≡ false) × (below_int y z ≡ false)
higher (pos m) (pos n) lt = (grind (arith, ints, lt), grind (arith, ints, lt))
higher (negsuc m) (negsuc n) lt = (grind (arith, ints, lt), grind (arith, ints, lt))
higher (pos m) (negsuc n) lt = (refl, refl)
higher (negsuc m) (pos n) lt = absurd (grind (arith, ints, lt))

self : (z : ℤ) → same_int z z ≡ true
self (pos n) = grind arith
self (negsuc n) = grind arith

pub int_says : (y z : ℤ) → Says (int_cmp y z) (same_int y z) (below_int y z)
int_says y z = by (int_cmp y z) (int_ranked y z (int_cmp y z) refl) where
  by : (o : Ordering) → MatchOrdering o (y <ℤ z) (y ≡ z) (z <ℤ y) → Says o (same_int y z) (below_int y z)
  by Less lt = lower y z lt
  by Equal e = ap (same_int y) (sym e) ∙ self y
  by Greater gt = higher y z gt

bool_says : (a b : Bool) → Says (bool_cmp a b) (same_bool a b) (not a && b)
bool_says true true = refl
bool_says true false = (refl, refl)
bool_says false true = (refl, refl)
bool_says false false = refl

bytes_say : (xs ys : List ℕ) → Says (slice_cmp nat_cmp xs ys) (bytes_eq xs ys) (below_bytes xs ys)
bytes_say [] [] = refl
bytes_say [] (y ∷ ys) = (refl, refl)
bytes_say (x ∷ xs) [] = (refl, refl)
bytes_say (x ∷ xs) (y ∷ ys) = by (bytes_say xs ys) (nat_cmp x y) (nat_says x y) where
  by : Says (slice_cmp nat_cmp xs ys) (bytes_eq xs ys) (below_bytes xs ys) → (o : Ordering) → Says o (x == y) (nat_lt x y) → Says (ordering_then o (slice_cmp nat_cmp xs ys)) (bytes_eq (x ∷ xs) (y ∷ ys)) (below_bytes (x ∷ xs) (y ∷ ys))
  by ih Less t = (ap (λ s. s && bytes_eq xs ys) t.0, ap (λ b. b || (x == y && below_bytes xs ys)) t.1)
  by ih Greater t = (ap (λ s. s && bytes_eq xs ys) t.0, ap (λ b. b || (x == y && below_bytes xs ys)) t.1 ∙ ap (λ s. s && below_bytes xs ys) t.0)
  by ih Equal t =
      let above : nat_lt x y ≡ false = grind (arith, t) in
      subst (λ s. Says (slice_cmp nat_cmp xs ys) s (below_bytes (x ∷ xs) (y ∷ ys))) (sym (ap (λ s. s && bytes_eq xs ys) t))
      (subst (Says (slice_cmp nat_cmp xs ys) (bytes_eq xs ys)) (sym (ap (λ b. b || (x == y && below_bytes xs ys)) above ∙ ap (λ s. s && below_bytes xs ys) t)) ih)

-- of which form a value is
abbrev pub form_of : Single → ℕ
form_of (truth b) = 0
form_of (int32 z) = 1
form_of (int64 z) = 2
form_of (uint32 n) = 3
form_of (uint64 n) = 4
form_of (text t) = 5
form_of (blob b) = 6
form_of (enumerated z) = 7

abbrev pub key_single : MapKey → Single
key_single k = single_view (key_view k)

-- keys of one form
key_says : (a b : MapKey) → form_of (key_single a) ≡ form_of (key_single b) → Says (ghosts.cmp a b) (same (key_single a) (key_single b)) (below (key_single a) (key_single b))
key_says (keys.Bool a) (keys.Bool b) e = bool_says a b
key_says (keys.I32 a) (keys.I32 b) e = int_says a b
key_says (keys.I64 a) (keys.I64 b) e = int_says a b
key_says (keys.U32 a) (keys.U32 b) e = nat_says a b
key_says (keys.U64 a) (keys.U64 b) e = nat_says a b
key_says (keys.String a) (keys.String b) e = bytes_say (string_bytes a) (string_bytes b)
key_says a b e = absurd (omega (arith, e))

module _ {V : Type 0} (value : V → Content) where
  abbrev pub viewed : List (MapKey × V) → List (Single × Content)
  viewed es = map (λ e. (key_single e.0, value e.1)) es

  -- an entry that a map of keys of one form takes is put
  pub entry_put : (n : ℕ) (es : List (MapKey × V)) (k : MapKey) (v : V) → AllByRecursion (λ e. form_of (key_single e.0) ≡ n) es → form_of (key_single k) ≡ n
      → viewed (insert_entry ghosts.cmp es k v) ≡ put (key_single k) (value v) (viewed es)
  entry_put n [] k v all one = refl
  entry_put n (e ∷ es) k v all one = by (entry_put n es k v all.1 one) (ghosts.cmp k e.0) (key_says k e.0 (one ∙ sym all.0)) where
    by : viewed (insert_entry ghosts.cmp es k v) ≡ put (key_single k) (value v) (viewed es) → (o : Ordering) → Says o (same (key_single k) (key_single e.0)) (below (key_single k) (key_single e.0))
        → viewed (match_ordering o ((k, v) ∷ e ∷ es) ((e.0, v) ∷ es) (e ∷ insert_entry ghosts.cmp es k v)) ≡ put (key_single k) (value v) (viewed (e ∷ es))
    by later Less t = rw (t.0, t.1) refl
    by later Equal t = rw t (ap (λ (a : Single). (a, value v) ∷ viewed es) (sym (same_true (key_single k) (key_single e.0) t)))
    by later Greater t = rw (t.0, t.1) (ap (λ ds. (key_single e.0, value e.1) ∷ ds) later)

  -- and they stay of that form
  pub forms_stay : (n : ℕ) (es : List (MapKey × V)) (k : MapKey) (v : V) → AllByRecursion (λ e. form_of (key_single e.0) ≡ n) es → form_of (key_single k) ≡ n
      → AllByRecursion (λ e. form_of (key_single e.0) ≡ n) (insert_entry ghosts.cmp es k v)
  forms_stay n [] k v all one = (one, tt)
  forms_stay n (e ∷ es) k v all one = by (forms_stay n es k v all.1 one) (ghosts.cmp k e.0) where
    by : AllByRecursion (λ e. form_of (key_single e.0) ≡ n) (insert_entry ghosts.cmp es k v) → (o : Ordering) → AllByRecursion (λ e. form_of (key_single e.0) ≡ n) (match_ordering o ((k, v) ∷ e ∷ es) ((e.0, v) ∷ es) (e ∷ insert_entry ghosts.cmp es k v))
    by later Less = (one, all)
    by later Equal = (all.0, all.1)
    by later Greater = (all.0, later)
