-- A list whose last element is replaced.
use Rattle.std.proofs.Common.{◌≡◌, ℕ, zero, suc, ◌<◌, Bool, List, [], ◌∷◌, ◌++◌, map, get_or, length, ap, ◌∙◌, arith, Result, Ok, Err, String, Global}
use Rattle.std.specs.Prelude.{if◌then◌else◌}
use Rattle.std.specs.Result.{is_ok, OnOk, OnErr}
use Rattle.std.specs.String.{string_bytes}
use Rattle.std.proofs.Math.ListN.{set}
use Rattle.protox_lex.specs.Class.{Text}
use Rattle.protox_lex.specs.Blocks.{lengthened, Blocks}

pub lengthened_set : {X : Type 0} (f : X → Text) (xs : List X) (k : ℕ) (x d : X) (t : Text) → length xs ≡ suc k → f x ≡ f (get_or xs k d) ++ t → map f (set xs k x) ≡ lengthened (map f xs) t
lengthened_set f [] k x d t len e = absurd (omega (arith, len))
lengthened_set f (y ∷ []) zero x d t len e = ap (λ v. v ∷ []) e
lengthened_set f (y ∷ []) (suc k) x d t len e = absurd (omega (arith, len))
lengthened_set f (y ∷ z ∷ xs) zero x d t len e = absurd (omega (arith, len))
lengthened_set f (y ∷ z ∷ xs) (suc k) x d t len e = ap (λ v. f y ∷ v) (lengthened_set f (z ∷ xs) k x d t (omega (arith, len)) e)

pub map_set_same : {X : Type 0} (f : X → Text) (xs : List X) (k : ℕ) (x d : X) → k < length xs → f x ≡ f (get_or xs k d) → map f (set xs k x) ≡ map f xs
map_set_same f [] k x d lt e = absurd (omega arith)
map_set_same f (y ∷ xs) zero x d lt e = ap (λ v. v ∷ map f xs) e
map_set_same f (y ∷ xs) (suc k) x d lt e = ap (λ v. f y ∷ v) (map_set_same f xs k x d (omega arith) e)

abbrev bytes : String Global → Text
bytes s = string_bytes s

-- the last text was lengthened, or was left
pub on_ok : {T E : Type 0} (Q : Type 0) (r : Result T E) (xs : List (String Global)) (k : ℕ) (x last : String Global) (t : Text) → length xs ≡ suc k → last ≡ get_or xs k last
    → bytes x ≡ (if is_ok r then bytes last ++ t else bytes last) → OnOk r (Q → map bytes (set xs k x) ≡ lengthened (map bytes xs) t)
on_ok Q (Ok v) xs k x last t len is b = λ q. lengthened_set bytes xs k x last t len (b ∙ ap (λ s. bytes s ++ t) is)
on_ok Q (Err v) xs k x last t len is b = tt

pub on_err : {T E : Type 0} (r : Result T E) (xs : List (String Global)) (k : ℕ) (x last : String Global) (t : Text) → length xs ≡ suc k → last ≡ get_or xs k last
    → bytes x ≡ (if is_ok r then bytes last ++ t else bytes last) → OnErr r (map bytes (set xs k x) ≡ map bytes xs)
on_err (Ok v) xs k x last t len is b = tt
on_err (Err v) xs k x last t len is b = map_set_same bytes xs k x last (omega (arith, len)) (b ∙ ap bytes is)

pub blocks_same : {T E : Type 0} (r : Result T E) (a b : List Text) (o p : Bool) → OnErr r (a ≡ b)
    → OnErr r (◌≡◌ {A = Blocks} (record { texts = a; is_open = o; is_parted = p }) (record { texts = b; is_open = o; is_parted = p }))
blocks_same (Ok v) a b o p e = tt
blocks_same (Err v) a b o p e = let make : List Text → Blocks = λ x. record { texts = x; is_open = o; is_parted = p } in ap make e
