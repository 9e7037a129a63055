-- Which front of a path moves, number by number; and the edits of locations, one by one.
use Rattle.std.proofs.Common.{◌≡◌, refl, sym, ap, ◌∙◌, subst, arith, ℕ, suc, ◌<◌, ◌≤◌, ◌+◌, ◌^◌, ◌-◌, nat_lt, nat_le, min, ℤ, pos, Bool, true, false, List, [], ◌∷◌, ◌++◌, take, drop, length, get_or, append_assoc, append-nil, Option, Some, None, is_some, option_map}
use Rattle.std.proofs.Math.Seq.{take-suc, get_or-append_seam}
use Rattle.std.proofs.lemmas.Bool.{false≢true}
use Rattle.std.proofs.lemmas.List.{length-append, length-take-le, get_or-take, drop_more}
use Rattle.descriptor_records.specs.declared.source_info.Location.{Location}
use Rattle.reflect_growth.specs.declared.settle.Edit.{Edit}
use Rattle.option_parts.specs.Moves.{Targets, IsOptionPath, FrontMoves, MovesTo, place_32, EditsLocation, EditsLocations}

-- no front of fewer numbers moves
abbrev pub StaysBelow : Targets → List ℤ → ℕ → Type 0
StaysBelow targets path n = (len : ℕ) (target : List ℤ) → len < n → FrontMoves targets path len target → ⊥

-- so many numbers have no front that moves
abbrev Stays : Targets → List ℤ → ℕ → Type 0
Stays targets path len = (target : List ℤ) → FrontMoves targets path len target → ⊥

-- a front that names an option ends with the option's place
option_long : (path options : List ℤ) (len : ℕ) (place : ℤ) → len ≤ length path → take len path ≡ options ++ (pos 999 ∷ place ∷ []) → len ≡ length options + 2
option_long path options len place le is =
    sym (length-take-le len path le) ∙ ap length is ∙ length-append options (pos 999 ∷ place ∷ [])

-- and has 999 before it
option_number : (path options : List ℤ) (len : ℕ) (place d : ℤ) → len ≤ length path → take len path ≡ options ++ (pos 999 ∷ place ∷ []) → get_or path (length options) d ≡ pos 999
option_number path options len place d le is =
    let long = option_long path options len place le is in
    sym (get_or-take len path (length options) d (omega (arith, long)))
    ∙ ap (λ xs. get_or xs (length options) d) is ∙ get_or-append_seam options (pos 999) (place ∷ []) d

-- 999 with a number behind it ends an option's path
option_path : (path : List ℤ) (at : ℕ) (d : ℤ) → suc (suc at) ≤ length path → get_or path at d ≡ pos 999 → IsOptionPath (take (suc (suc at)) path)
option_path path at d le is =
    let last = get_or path (suc at) d in (
      take at path,
      last,
      take-suc path (suc at) d le
          ∙ ap (λ xs. xs ++ (last ∷ [])) (take-suc path at d (omega (arith, le)) ∙ ap (λ n. take at path ++ (n ∷ [])) is)
          ∙ append_assoc (take at path) (pos 999 ∷ []) (last ∷ []),
    )

-- no front of less than two numbers moves
pub none_below : (targets : Targets) (path : List ℤ) → StaysBelow targets path 2
none_below targets path len target lt moves =
    let long = option_long path moves.1.0 len moves.1.1 moves.0 moves.1.2 in
    absurd (omega (arith, lt, long))

-- nor of one number more, if that front stays
one_more : (targets : Targets) (path : List ℤ) (n : ℕ) → StaysBelow targets path n → Stays targets path n → StaysBelow targets path (suc n)
one_more targets path n below here len target lt = by (nat_lt len n) refl where
  by : (b : Bool) → nat_lt len n ≡ b → FrontMoves targets path len target → ⊥
  by true is = below len target (grind (arith, is))
  by false is = let same : n ≡ len = grind (arith, is, lt) in subst (Stays targets path) same here target

-- another number than 999 ends no front that moves
pub other_number : (targets : Targets) (path : List ℤ) (at : ℕ) (d : ℤ) → (get_or path at d ≡ pos 999 → ⊥) → StaysBelow targets path (suc (suc at)) → StaysBelow targets path (suc (suc (suc at)))
other_number targets path at d other below = one_more targets path (suc (suc at)) below (λ target moves.
    let long = option_long path moves.1.0 (suc (suc at)) moves.1.1 moves.0 moves.1.2 in
    let same : length moves.1.0 ≡ at = omega (arith, long) in
    other (subst (λ n. get_or path n d ≡ pos 999) same (option_number path moves.1.0 (suc (suc at)) moves.1.1 d moves.0 moves.1.2)))

-- what the front up to the number behind 999 moves to
abbrev pub MovesFront : Targets → List ℤ → ℕ → Option (List ℤ) → Type 0
MovesFront targets path len found =
    (len ≤ length path → found ≡ option_map (λ target. target ++ drop len path) (targets (take len path)))
    × (length path < len → found ≡ None)

-- that front moves nowhere
pub front_stays : (targets : Targets) (path : List ℤ) (at : ℕ) (found : Option (List ℤ)) → MovesFront targets path (suc (suc at)) found → is_some found ≡ false → StaysBelow targets path (suc (suc at)) → StaysBelow targets path (suc (suc (suc at)))
front_stays targets path at found is none below = one_more targets path (suc (suc at)) below (λ target moves.
    absurd (false≢true (sym none ∙ ap is_some (is.0 moves.0 ∙ ap (option_map (λ target. target ++ drop (suc (suc at)) path)) moves.2))))

-- the path moves with that front
pub front_moves : (targets : Targets) (path : List ℤ) (at : ℕ) (d : ℤ) (found : Option (List ℤ)) → get_or path at d ≡ pos 999 → MovesFront targets path (suc (suc at)) found → is_some found ≡ true → StaysBelow targets path (suc (suc at)) → MovesTo targets path found
front_moves targets path at d found number is some below = within (nat_le (suc (suc at)) (length path)) refl where
  moved : List ℤ → List ℤ
  moved target = target ++ drop (suc (suc at)) path

  to : (o : Option (List ℤ)) → suc (suc at) ≤ length path → targets (take (suc (suc at)) path) ≡ o → found ≡ option_map moved o → MovesTo targets path found
  to None le at is = absurd (false≢true (sym (ap is_some is) ∙ some))
  to (Some target) le here is = subst (MovesTo targets path) (sym is)
      (suc (suc at), target, (le, option_path path at d le number, here), refl, λ less other lt. below less other lt)

  within : (b : Bool) → nat_le (suc (suc at)) (length path) ≡ b → MovesTo targets path found
  within true e = let le : suc (suc at) ≤ length path = grind (arith, e) in to (targets (take (suc (suc at)) path)) le refl (is.0 le)
  within false e = absurd (false≢true (sym (ap is_some (is.1 (grind (arith, e)))) ∙ some))

-- behind the last number no front moves
pub none_moves : (targets : Targets) (path : List ℤ) (n : ℕ) → length path < n → StaysBelow targets path n → MovesTo targets path None
none_moves targets path n lt below len target moves = below len target (let le = moves.0 in omega (arith, le, lt)) moves

-- the place of the next location
pub next_place : (n : ℕ) → place_32 (n + 1) ≡ min (place_32 n + 1) (2 ^ 32 - 1)
next_place n = by (nat_lt n (2 ^ 32)) refl (nat_lt (n + 1) (2 ^ 32)) refl where
  by : (b : Bool) → nat_lt n (2 ^ 32) ≡ b → (c : Bool) → nat_lt (n + 1) (2 ^ 32) ≡ c → place_32 (n + 1) ≡ min (place_32 n + 1) (2 ^ 32 - 1)
  by true low true next = rw (low, next) (grind (arith, low, next))
  by true low false next = rw (low, next) (grind (arith, low, next))
  by false low true next = absurd (grind (arith, low, next))
  by false low false next = rw (low, next) (grind (arith, low, next))

-- so many locations give these edits
abbrev pub EditsFirst : Targets → ℕ → List Location → ℕ → List Edit → Type 0
EditsFirst targets file ls n es =
    (rest : List Edit) → EditsLocations targets file n (drop n ls) rest → EditsLocations targets file 0 ls (es ++ rest)

-- the edits of one location more
pub edits_more : (targets : Targets) (file : ℕ) (ls : List Location) (n : ℕ) (d : Location) (es own : List Edit) (moved : Option (List ℤ)) → n < length ls → MovesTo targets (get_or ls n d).path.items moved → EditsLocation file n moved own → EditsFirst targets file ls n es → EditsFirst targets file ls (n + 1) (es ++ own)
edits_more targets file ls n d es own moved lt moves edit first rest more =
    subst (EditsLocations targets file 0 ls) (sym (append_assoc es own rest))
    (first (own ++ rest) (subst (λ xs. EditsLocations targets file n xs (own ++ rest)) (sym (drop_more ls n d lt)) (moved, own, rest, moves, edit, more, refl)))

-- the edits of all
pub edits_all : (targets : Targets) (file : ℕ) (ls : List Location) (n : ℕ) (es : List Edit) → drop n ls ≡ [] → EditsFirst targets file ls n es → EditsLocations targets file 0 ls es
edits_all targets file ls n es none first =
    subst (EditsLocations targets file 0 ls) (append-nil es)
    (first [] (subst (λ xs. EditsLocations targets file n xs []) (sym none) refl))
