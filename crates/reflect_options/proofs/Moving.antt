-- Where options were set, noted in a map one after another.
use Rattle.std.specs.declared.alloc.Global.{Global}
use Rattle.std.proofs.Common.{◌≡◌, ◌∙◌, ◌+◌, ◌<◌, ◌++◌, ℕ, ℤ, List, [], ◌∷◌, Bool, true, false, cond, Option, None, Some, Vec, Ordering, Less, Equal, Greater, length, map, take, option_map, int_cmp, is_eq, ap, sym, subst, refl, arith}
use Rattle.std.proofs.Math.ListN.{length-map}
use Rattle.std.proofs.lemmas.List.{length-take-le, map-append}
use Rattle.std.proofs.Math.Path.{fun_ext}
use Rattle.std.proofs.lemmas.Cmp.{alike_right, eq_by_cmp_equiv, int_cmp_total}
use Rattle.std.specs.BTreeMap.{insert_entry}
use Rattle.std.specs.Cmp.{IsTotalOrder}
use Rattle.std.specs.Cmp.Lexicographic.{slice_cmp, lists_total}
use Rattle.std.specs.Map.{lookup}
use Rattle.std.specs.Option.{option_or}
use Rattle.std.specs.Ordering.{match_ordering}
use Rattle.option_parts.specs.Moves.{targets_of}
use Rattle.reflect_faults.specs.Spans.{same_path}
use Rattle.reflect_options.specs.Settling.{Move, moves_from, target_in, written_path}
use Rattle.reflect_options.specs.Visiting.{Moved, MovesMore, MovesNothing}

abbrev Path : Type 0
Path = Vec ℤ Global

abbrev path_cmp : Path → Path → Ordering
path_cmp p q = slice_cmp int_cmp p.items q.items

-- the path is that of a key
abbrev is_at : List ℤ → Path → Bool
is_at path key = is_eq (slice_cmp int_cmp path key.items)

abbrev found : List ℤ → List (Path × Path) → Option (List ℤ)
found path es = option_map (λ t. t.items) (lookup (is_at path) es)

total : IsTotalOrder (slice_cmp int_cmp)
total = lists_total int_cmp_total

turned : (path : List ℤ) (key : Path) → is_at path key ≡ same_path key.items path
turned path key = (eq_by_cmp_equiv total).symm path key.items

equal : (r : Ordering) → is_eq r ≡ true → r ≡ Equal
equal Less h = absurd (cc h)
equal Equal h = refl
equal Greater h = absurd (cc h)

-- ---- one of two
or_assoc : {X : Type 0} (a b c : Option X) → option_or (option_or a b) c ≡ option_or a (option_or b c)
or_assoc None b c = refl
or_assoc (Some x) b c = refl

or_none : {X : Type 0} (o : Option X) → option_or o None ≡ o
or_none None = refl
or_none (Some x) = refl

pushed : (b : Bool) (t : Path) (o : Option Path) → option_map (λ t. t.items) (cond b (Some t) o) ≡ cond b (Some t.items) (option_map (λ t. t.items) o)
pushed true t o = refl
pushed false t o = refl

twice : {X : Type 0} (b : Bool) (x y z : X) → cond b x z ≡ cond b x (cond b y z)
twice true x y z = refl
twice false x y z = refl

swapped : {X : Type 0} (a b : Bool) → (a ≡ true → b ≡ true → ⊥) → (x y z : X) → cond a x (cond b y z) ≡ cond b y (cond a x z)
swapped true true apart x y z = absurd (apart refl refl)
swapped true false apart x y z = refl
swapped false b apart x y z = refl

first_or : {X : Type 0} (b : Bool) (x : X) (o : Option X) → cond b (Some x) o ≡ option_or (cond b (Some x) None) o
first_or true x o = refl
first_or false x o = refl

-- ---- a path that is put is found, and what was found under others
put : (path : List ℤ) (es : List (Path × Path)) (k t : Path) → found path (insert_entry path_cmp es k t) ≡ cond (same_path k.items path) (Some t.items) (found path es)
put path [] k t = pushed (is_at path k) t None ∙ ap (λ b. cond b (Some t.items) None) (turned path k)
put path (e ∷ es) k t = by (path_cmp k e.0) refl (put path es k t)
  where
    by : (r : Ordering) → path_cmp k e.0 ≡ r → found path (insert_entry path_cmp es k t) ≡ cond (same_path k.items path) (Some t.items) (found path es)
        → found path (match_ordering r ((k, t) ∷ e ∷ es) ((e.0, t) ∷ es) (e ∷ insert_entry path_cmp es k t)) ≡ cond (same_path k.items path) (Some t.items) (found path (e ∷ es))
    by Less h ih = pushed (is_at path k) t (lookup (is_at path) (e ∷ es)) ∙ ap (λ b. cond b (Some t.items) (found path (e ∷ es))) (turned path k)
    by Equal h ih =
        let same : is_at path e.0 ≡ same_path k.items path = ap is_eq (sym (alike_right total k.items e.0.items path h)) ∙ turned path k in
        pushed (is_at path e.0) t (lookup (is_at path) es) ∙ twice (is_at path e.0) (Some t.items) (Some e.1.items) (found path es)
        ∙ ap (cond (is_at path e.0) (Some t.items)) (sym (pushed (is_at path e.0) e.1 (lookup (is_at path) es)))
        ∙ ap (λ b. cond b (Some t.items) (found path (e ∷ es))) same
    by Greater h ih =
        let apart : is_at path e.0 ≡ true → same_path k.items path ≡ true → ⊥ = λ p q.
        let tied : path_cmp k e.0 ≡ Equal = total.congr k.items path e.0.items (equal _ q) ∙ equal _ p in
        absurd (cc (h, tied)) in
        pushed (is_at path e.0) e.1 (lookup (is_at path) (insert_entry path_cmp es k t)) ∙ ap (cond (is_at path e.0) (Some e.1.items)) ih
        ∙ swapped (is_at path e.0) (same_path k.items path) apart (Some e.1.items) (Some t.items) (found path es)
        ∙ ap (cond (same_path k.items path) (Some t.items)) (sym (pushed (is_at path e.0) e.1 (lookup (is_at path) es)))

pub moves_put : (m n : Moved) (k t : Path) → n.entries ≡ insert_entry path_cmp m.entries k t → MovesMore m ((k.items, t.items) ∷ []) n
moves_put m n k t is path = ap (found path) is ∙ put path m.entries k t ∙ first_or (same_path k.items path) t.items (targets_of m path)

-- ---- moves behind others
target_append : (ms ns : List Move) (path : List ℤ) → target_in (ms ++ ns) path ≡ option_or (target_in ns path) (target_in ms path)
target_append [] ns path = sym (or_none (target_in ns path))
target_append (m ∷ ms) ns path =
    ap (λ o. option_or o (cond (same_path m.0 path) (Some m.1) None)) (target_append ms ns path)
    ∙ or_assoc (target_in ns path) (target_in ms path) (cond (same_path m.0 path) (Some m.1) None)

pub moves_none : (m : Moved) → MovesMore m [] m
moves_none m path = refl

pub moves_on : (a b c : Moved) (ms ns : List Move) → MovesMore a ms b → MovesMore b ns c → MovesMore a (ms ++ ns) c
moves_on a b c ms ns p q path =
    q path ∙ ap (option_or (target_in ns path)) (p path)
    ∙ sym (or_assoc (target_in ns path) (target_in ms path) (targets_of a path))
    ∙ ap (λ o. option_or o (targets_of a path)) (sym (target_append ms ns path))

-- where nothing moved before, these moves are all
pub moves_all : (a b : Moved) (ms : List Move) → MovesNothing a → MovesMore a ms b → targets_of b ≡ target_in ms
moves_all a b ms none more = fun_ext (λ path. more path ∙ ap (option_or (target_in ms path)) (none path) ∙ or_none (target_in ms path))

-- one option more was set
pub from_more : (options : List ℤ) (place : ℕ) (paths : List (List ℤ)) (path : List ℤ)
    → moves_from options place (paths ++ path ∷ []) ≡ moves_from options place paths ++ (written_path options (place + length paths), options ++ path) ∷ []
from_more options place [] path = ap (λ n. (written_path options n, options ++ path) ∷ []) (omega arith)
from_more options place (p ∷ paths) path =
    let next : place + 1 + length paths ≡ place + length (p ∷ paths) = omega arith in
    ap (λ l. (written_path options place, options ++ p) ∷ l)
    (from_more options (place + 1) paths path ∙ ap (λ n. moves_from options (place + 1) paths ++ (written_path options n, options ++ path) ∷ []) next)

-- one more of the options that were set is noted
pub moves_more : (a m n : Moved) (options : List ℤ) (ts : List Path) (k : ℕ) (t key target : Path) → k < length ts → take (k + 1) ts ≡ take k ts ++ t ∷ [] → MovesMore a (moves_from options 0 (map (λ (p : Path). p.items) (take k ts))) m
    → n.entries ≡ insert_entry path_cmp m.entries key target → key.items ≡ written_path options k → target.items ≡ options ++ t.items → MovesMore a (moves_from options 0 (map (λ (p : Path). p.items) (take (k + 1) ts))) n
moves_more a m n options ts k t key target below more moved is at to =
    let paths = map (λ (p : Path). p.items) (take k ts) in
    let plus : length paths ≡ 0 + length paths = omega arith in
    let len : k ≡ 0 + length paths = sym (length-map (take k ts) (λ (p : Path). p.items) ∙ length-take-le k ts (omega (arith, below))) ∙ plus in
    let one : (key.items, target.items) ∷ [] ≡ (written_path options (0 + length paths), options ++ t.items) ∷ [] = ap (λ x. (x, target.items) ∷ []) (at ∙ ap (written_path options) len) ∙ ap (λ x. (written_path options (0 + length paths), x) ∷ []) to in
    let all : moves_from options 0 (map (λ (p : Path). p.items) (take (k + 1) ts)) ≡ moves_from options 0 paths ++ (key.items, target.items) ∷ [] =
    ap (λ l. moves_from options 0 (map (λ (p : Path). p.items) l)) more ∙ ap (moves_from options 0) (map-append (λ (p : Path). p.items) (take k ts) (t ∷ [])) ∙ from_more options 0 paths t.items ∙ ap (λ l. moves_from options 0 paths ++ l) (sym one) in
    subst (λ l. MovesMore a l n) (sym all) (moves_on a m n (moves_from options 0 paths) ((key.items, target.items) ∷ []) moved (moves_put m n key target is))
