-- The types of a pool by their names.
use Rattle.std.proofs.Common.{◌≡◌, ◌<◌, ℕ, zero, suc, Bool, true, false, cond, List, [], ◌∷◌, length, refl, sym, ap, bytes_eq, arith, map, Option, None, Some, ◌∙◌}
use Rattle.std.specs.Cmp.Lexicographic.{bytes_decides}
use Rattle.std.specs.Prelude.{slice_get, slice_index_or}
use Rattle.reflect_scope.specs.Known.{Known}
use Rattle.reflect_tables.specs.Names.{messages, message_name, names_of, found, AreNamed}
use Rattle.reflect_tables.specs.Types.{PoolType, MessageType, no_type, type_at}
use Rattle.protobuf_model.specs.Types.{Name}
use Rattle.message_view.specs.Sound.{HaveNames}
use Rattle.message_view.specs.Types.{name_at, field_at, place_in, types_of}

abbrev pub name_in : List MessageType → ℕ → Name
name_in ms i = (slice_index_or ms i no_type).full_name

-- where no two names are the same, a name stands for its place
pub found_at : (ms : List MessageType) (i : ℕ) → i < length ms → ((k : ℕ) → k < length ms → name_in ms i ≡ name_in ms k → i ≡ k) → place_in ms (name_in ms i) ≡ i
found_at [] i lt apart = absurd (omega (arith, lt))
found_at (m ∷ ms) zero lt apart = ap (λ b. cond b 0 (suc (place_in ms m.full_name))) ((bytes_decides m.full_name m.full_name).1 refl)
found_at (m ∷ ms) (suc i) lt apart = by (bytes_eq m.full_name (name_in ms i)) refl (found_at ms i (omega (arith, lt)) (λ k less e. let same = apart (suc k) (omega (arith, less)) e in omega (arith, same))) where
  by : (b : Bool) → bytes_eq m.full_name (name_in ms i) ≡ b → place_in ms (name_in ms i) ≡ i → cond b 0 (suc (place_in ms (name_in ms i))) ≡ suc i
  by true is later = let same = apart 0 (omega arith) (sym ((bytes_decides m.full_name (name_in ms i)).0 is)) in absurd (omega (arith, same))
  by false is later = ap suc later

pub named : (pool : PoolType) → HaveNames pool → (i n : ℕ) → i < length pool.messages → types_of pool (name_at pool i) n ≡ field_at pool i n
named pool names i n lt = ap (λ i. field_at pool i n) (found_at pool.messages i lt (λ k less e. names i k lt less e))

get_mapped : {X Y : Type 0} (f : X → Y) (xs : List X) (i : ℕ) (d : X) → i < length xs → slice_get (map f xs) i ≡ Some (f (slice_index_or xs i d))
get_mapped f [] i d lt = absurd (omega (arith, lt))
get_mapped f (x ∷ xs) zero d lt = refl
get_mapped f (x ∷ xs) (suc i) d lt = get_mapped f xs i d (omega (arith, lt))

-- full names that stand for one place each are distinct
pub distinct : (pool : PoolType) (known : Known) → AreNamed known (names_of pool) → HaveNames pool
distinct pool known named i k lt less same =
    let at = named.found messages in
    let here : found messages known (name_at pool i) ≡ Some (i, (type_at pool i).file) = (at (name_at pool i) i (type_at pool i).file).1 (get_mapped message_name pool.messages i no_type lt) in
    let there : found messages known (name_at pool k) ≡ Some (k, (type_at pool k).file) = (at (name_at pool k) k (type_at pool k).file).1 (get_mapped message_name pool.messages k no_type less) in
    ap (λ (o : Option (ℕ × ℕ)). elim o [ None ↦ i | Some p ↦ p.0 ]) (sym here ∙ ap (found messages known) same ∙ there)
