-- What suits a kind or a field passes the tests, and so does a message of whose values that is so.
use Rattle.std.proofs.Common.{◌≡◌, ◌<◌, ◌==◌, ◌&&◌, ℕ, zero, suc, not, Bool, true, false, cond, List, [], ◌∷◌, map, Option, None, Some, refl, sym, ap, ◌∙◌, subst, arith}
use Rattle.std.specs.List.{AllByRecursion, list_all}
use Rattle.reflect_pool.specs.Shapes.{holds_list, holds_map}
use Rattle.reflect_tables.specs.Types.{FieldType, KindType, PoolType}
use Rattle.reflect_entries.specs.Entries.{IsAscending, value_at}
use Rattle.reflect_scalar.specs.Keys.{key_view}
use Rattle.reflect_scalar.specs.declared.map_key.MapKey.{MapKey}
use Rattle.reflect_message.specs.Held.{extensions_of, fields_of}
use Rattle.reflect_message.specs.Known.{entry_field, known_extension, known_field}
use Rattle.reflect_message.specs.Names.{DynamicMessage, Value}
use Rattle.reflect_numbered.specs.Fits.{Fit, all_fit, entries_fit, entry_fits, extension_fits, field_fits, fit_of, fits_of, holds_one, is_one, suits_type, under_fits}
use Rattle.reflect_numbered.specs.declared.validity.Strictness.{Strictness}
use Rattle.valid_view.proofs.Opened.{fits_in, kinds_of, list_told, map_told, message_told, single_told}
use Rattle.valid_view.proofs.Testing.{held_told}
use Rattle.valid_view.proofs.Valid.{IsEntry, One, Whole, one_message, one_single, whole_list, whole_map, whole_one}

pub both : (a b : Bool) → a ≡ true → b ≡ true → (a && b) ≡ true
both a b p q = ap (λ c. c && b) p ∙ q

module _ (how : Strictness) (pool : PoolType) where
  one_passes : (t : KindType) (v : Value) → One how pool t v → (fit_of v).one how pool t ≡ true
  one_passes t v (one_single w at is) = ap (λ (w : Fit). w.one how pool t) (single_told v w at) ∙ is
  one_passes t v (one_message m at is) = ap (λ (w : Fit). w.one how pool t) (message_told v m at) ∙ is

  all_pass : (t : KindType) (vs : List Value) → AllByRecursion (One how pool t) vs → all_fit how pool t (map fit_of vs) ≡ true
  all_pass t [] all = refl
  all_pass t (v ∷ vs) all = both ((fit_of v).one how pool t) (all_fit how pool t (map fit_of vs)) (one_passes t v all.0) (all_pass t vs all.1)

  entries_pass : (keys values : KindType) (es : List (MapKey × Value)) → AllByRecursion (IsEntry how pool keys values) es → list_all (entry_fits how pool keys values) (fits_in es) ≡ true
  entries_pass keys values [] all = refl
  entries_pass keys values (e ∷ es) all =
      both (is_one keys (key_view e.0) && (fit_of e.1).one how pool values) (list_all (entry_fits how pool keys values) (fits_in es))
      (both (is_one keys (key_view e.0)) ((fit_of e.1).one how pool values) all.0.0 (one_passes values e.1 all.0.1))
      (entries_pass keys values es all.1)

  -- a value of a field
  pub whole_passes : (f : FieldType) (v : Value) → Whole how pool f v → (fit_of v).whole how pool f ≡ true
  whole_passes f v (whole_one no_map once one) = by one where
    alone : holds_one pool f ≡ true
    alone = ap (λ b. not (b && not (holds_map pool f)) && not (holds_map pool f)) once ∙ ap not no_map

    by : One how pool f.kind v → (fit_of v).whole how pool f ≡ true
    by (one_single w at is) = ap (λ (w : Fit). w.whole how pool f) (single_told v w at) ∙ both (holds_one pool f) (is_one f.kind w) alone is
    by (one_message m at is) = ap (λ (w : Fit). w.whole how pool f) (message_told v m at) ∙ both (holds_one pool f) (kinds_of m how pool f.kind) alone is
  whole_passes f v (whole_list no_map repeats vs at all) =
      ap (λ (w : Fit). w.whole how pool f) (list_told v vs at)
      ∙ both (holds_list pool f) (all_fit how pool f.kind (map fit_of vs)) (ap (λ b. b && not (holds_map pool f)) repeats ∙ ap not no_map) (all_pass f.kind vs all)
  whole_passes f v (whole_map is_map es at keys values first second all) =
      ap (λ (w : Fit). w.whole how pool f) (map_told v es at)
      ∙ both (holds_map pool f) (entries_fit how pool f.kind (fits_in es)) is_map
      (subst (λ a. Pass a (entry_field pool f.kind 2)) (sym first) (subst (Pass (Some keys)) (sym second) (entries_pass keys.kind values.kind es all))) where
        Pass : Option FieldType → Option FieldType → Type 0
        Pass a b = ◌≡◌ {A = Bool} (elim a [ None ↦ false | Some k ↦ elim b [ None ↦ false | Some w ↦ list_all (entry_fits how pool k.kind w.kind) (fits_in es) ] ]) true

-- ---- messages

-- each of some values under numbers is the one that is found under its own
abbrev IsFoundIn : List (ℕ × Value) → List (ℕ × Value) → Type 0
IsFoundIn all es = AllByRecursion (λ (e : ℕ × Value). value_at all e.0 ≡ Some e.1) es

-- so it is where the numbers ascend
pub found : (es : List (ℕ × Value)) → IsAscending es → IsFoundIn es es
found [] up = tt
found (e ∷ es) up = (ap (λ b. cond b (Some e.1) (value_at es e.0)) itself, later es above (found es behind)) where
  itself : (e.0 == e.0) ≡ true
  itself = grind arith

  behind : IsAscending es
  behind i j d lt less = up (suc i) (suc j) d (omega (arith, lt)) (omega (arith, less))

  Above : List (ℕ × Value) → Type 0
  Above fs = AllByRecursion (λ (f : ℕ × Value). e.0 < f.0) fs

  higher : (fs : List (ℕ × Value)) → IsAscending (e ∷ fs) → Above fs
  higher [] up = tt
  higher (f ∷ fs) up = (up 0 1 e (omega arith) (omega arith), higher fs without) where
    without : IsAscending (e ∷ fs)
    without zero zero d lt less = absurd (omega (arith, lt))
    without zero (suc j) d lt less = up 0 (suc (suc j)) d (omega arith) (omega (arith, less))
    without (suc i) zero d lt less = absurd (omega (arith, lt))
    without (suc i) (suc j) d lt less = up (suc (suc i)) (suc (suc j)) d (omega (arith, lt)) (omega (arith, less))

  above : Above es
  above = higher es up

  other : (f : ℕ × Value) → e.0 < f.0 → (f.0 == e.0) ≡ false
  other f lt = by (f.0 == e.0) refl where
    by : (b : Bool) → (f.0 == e.0) ≡ b → b ≡ false
    by true is = let same : f.0 ≡ e.0 = grind (arith, is) in absurd (omega (arith, same, lt))
    by false is = refl

  later : (fs : List (ℕ × Value)) → Above fs → IsFoundIn es fs → IsFoundIn (e ∷ es) fs
  later [] up all = tt
  later (f ∷ fs) up all = (ap (λ b. cond b (Some e.1) (value_at es f.0)) (other f up.0) ∙ all.0, later fs up.1 all.1)

pub each_passes : (p : ℕ × Fit → Bool) (all es : List (ℕ × Value)) → IsFoundIn all es → ((n : ℕ) (v : Value) → value_at all n ≡ Some v → p (n, fit_of v) ≡ true) → list_all p (fits_of es) ≡ true
each_passes p all [] at passes = refl
each_passes p all (e ∷ es) at passes = both (p (e.0, fit_of e.1)) (list_all p (fits_of es)) (passes e.0 e.1 at.0) (each_passes p all es at.1 passes)

module _ (how : Strictness) (m : DynamicMessage) where
  abbrev pool : PoolType
  pool = m.descriptor.pool.now

  abbrev i : ℕ
  i = m.descriptor.index

  pub all_pass_again : list_all (field_fits how pool i) (fits_of (fields_of m)) ≡ true → list_all (extension_fits how pool i) (fits_of (extensions_of m)) ≡ true → suits_type how m ≡ true
  all_pass_again fields extensions =
      held_told how pool i m.held
      ∙ both (list_all (field_fits how pool i) (fits_of (fields_of m))) (list_all (extension_fits how pool i) (fits_of (extensions_of m))) fields extensions

  -- of what stands under each number
  pub message_passes : IsAscending (fields_of m) → ((n : ℕ) (v : Value) → value_at (fields_of m) n ≡ Some v → under_fits how pool (known_field pool i n) (fit_of v) ≡ true)
      → IsAscending (extensions_of m) → ((n : ℕ) (v : Value) → value_at (extensions_of m) n ≡ Some v → under_fits how pool (known_extension pool i n) (fit_of v) ≡ true)
      → suits_type how m ≡ true
  message_passes up fields over extensions =
      all_pass_again
      (each_passes (field_fits how pool i) (fields_of m) (fields_of m) (found (fields_of m) up) fields)
      (each_passes (extension_fits how pool i) (extensions_of m) (extensions_of m) (found (extensions_of m) over) extensions)
