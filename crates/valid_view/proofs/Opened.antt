-- What a value is, and which fields it suits by that, one level at a time.
use Rattle.std.proofs.Common.{◌≡◌, ℕ, Bool, List, [], map, Some, unwrap_or, refl, sym, ap, ◌∙◌, subst, string_bytes}
use Rattle.reflect_pool.specs.declared.message.MessageDescriptor.{MessageDescriptor}
use Rattle.reflect_tables.specs.Types.{KindType, PoolType}
use Rattle.reflect_scalar.specs.Singles as held
use Rattle.reflect_scalar.specs.declared.map_key.MapKey.{MapKey}
use Rattle.reflect_message.specs.Lists.{list_items}
use Rattle.reflect_message.specs.Maps.{map_entries}
use Rattle.reflect_message.specs.Messages.{message_in}
use Rattle.reflect_message.specs.Names as blocks
use Rattle.reflect_message.specs.Names.{DynamicMessage, Parts, Value}
use Rattle.reflect_message.specs.Singles as singles
use Rattle.reflect_message.specs.declared.parts.HeldOf.TheFolds.{map-ValueOf, fold-HeldOf, fold-ValueOf, fold-MessageOf, fold-PartsOf, fold_out-ValueOf, fold_out-MessageOf}
use Rattle.reflect_message.specs.declared.parts.HeldOf.TheOpen.{ValueOf-F}
use Rattle.reflect_message.specs.declared.parts.HeldOf.TheViews.{out-ValueOf}
use Rattle.reflect_copies.proofs.Alike.{Open, entries_in, items_in, message_of}
use Rattle.reflect_numbered.specs.Fits.{Fit, fit_of, held_step, list_fit, map_fit, message_fit, message_fits, message_step, parts_step, single_fit, value_step}
use Rattle.reflect_numbered.specs.declared.validity.Strictness.{Strictness}
use Rattle.message_view.proofs.Seen.{IsSeenAs, single_in}

abbrev pub Placed : Type 0
Placed = Strictness → PoolType → ℕ → Bool

abbrev pub Kinded : Type 0
Kinded = Strictness → PoolType → KindType → Bool

-- one level of a value, with what is inside it told
abbrev stepped : Open → Fit
stepped o = value_step (map-ValueOf MessageDescriptor blocks.Held Value DynamicMessage Parts Placed Fit Kinded Placed
    (fold-HeldOf MessageDescriptor Placed Fit Kinded Placed held_step value_step message_step parts_step)
    (fold-ValueOf MessageDescriptor Placed Fit Kinded Placed held_step value_step message_step parts_step)
    (fold-MessageOf MessageDescriptor Placed Fit Kinded Placed held_step value_step message_step parts_step)
    (fold-PartsOf MessageDescriptor Placed Fit Kinded Placed held_step value_step message_step parts_step) o)

opened : (v : Value) → fit_of v ≡ stepped (out-ValueOf MessageDescriptor v)
opened v = fold_out-ValueOf MessageDescriptor Placed Fit Kinded Placed held_step value_step message_step parts_step v

-- what a message holds suits the type at a place
abbrev pub held_fits : blocks.Held → Placed
held_fits = fold-HeldOf MessageDescriptor Placed Fit Kinded Placed held_step value_step message_step parts_step

-- the kinds that a message suits
abbrev pub kinds_of : DynamicMessage → Kinded
kinds_of m = λ how pool kind. message_fits how pool kind m.descriptor (held_fits m.held)

folded : (m : DynamicMessage) → fold-MessageOf MessageDescriptor Placed Fit Kinded Placed held_step value_step message_step parts_step m ≡ kinds_of m
folded m = fold_out-MessageOf MessageDescriptor Placed Fit Kinded Placed held_step value_step message_step parts_step m

abbrev pub fits_in : List (MapKey × Value) → List (MapKey × Fit)
fits_in es = map (λ e. (e.0, fit_of e.1)) es

-- an opened value is a single one, a message, a list or a map, and suits fields so
pub data Sorted (o : Open) (w : Fit) : Type 0 where
  a_single : (s : held.Single) → single_in o ≡ Some s → w ≡ single_fit s → Sorted o w
  a_message : (m : DynamicMessage) → message_of o ≡ Some m → w ≡ message_fit (kinds_of m) → Sorted o w
  a_list : (vs : List Value) → items_in o ≡ Some vs → w ≡ list_fit (map fit_of vs) → Sorted o w
  a_map : (es : List (MapKey × Value)) → entries_in o ≡ Some es → w ≡ map_fit (fits_in es) → Sorted o w

step_sorted : (o : Open) → Sorted o (stepped o)
step_sorted (ValueOf-F.Bool b) = a_single (held.truth b) refl refl
step_sorted (ValueOf-F.I32 z) = a_single (held.int32 z) refl refl
step_sorted (ValueOf-F.I64 z) = a_single (held.int64 z) refl refl
step_sorted (ValueOf-F.U32 n) = a_single (held.uint32 n) refl refl
step_sorted (ValueOf-F.U64 n) = a_single (held.uint64 n) refl refl
step_sorted (ValueOf-F.String t) = a_single (held.text (string_bytes t)) refl refl
step_sorted (ValueOf-F.Bytes b) = a_single (held.blob b.items) refl refl
step_sorted (ValueOf-F.EnumNumber z) = a_single (held.enumerated z) refl refl
step_sorted (ValueOf-F.Message m) = a_message m refl (ap message_fit (folded m))
step_sorted (ValueOf-F.List vs) = a_list vs.items refl refl
step_sorted (ValueOf-F.Map es) = a_map es.entries refl refl

pub sorted : (v : Value) → Sorted (out-ValueOf MessageDescriptor v) (fit_of v)
sorted v = subst (Sorted (out-ValueOf MessageDescriptor v)) (sym (opened v)) (step_sorted (out-ValueOf MessageDescriptor v))

-- which fields a value of each sort suits
pub single_told : (v : Value) (w : held.Single) → singles.single v ≡ Some w → fit_of v ≡ single_fit w
single_told v w e = opened v ∙ subst (IsSeenAs single_fit (stepped (out-ValueOf MessageDescriptor v))) e (by (out-ValueOf MessageDescriptor v)) where
  by : (o : Open) → IsSeenAs single_fit (stepped o) (single_in o)
  by (ValueOf-F.Message m) = refl
  by o = refl

pub message_told : (v : Value) (m : DynamicMessage) → message_in v ≡ Some m → fit_of v ≡ message_fit (kinds_of m)
message_told v m e = opened v ∙ by (out-ValueOf MessageDescriptor v) e where
  by : (o : Open) → message_of o ≡ Some m → stepped o ≡ message_fit (kinds_of m)
  by (ValueOf-F.Message n) e = ap message_fit (folded n) ∙ ap (λ o. message_fit (kinds_of (unwrap_or o n))) e
  by o e = absurd (cc e)

pub list_told : (v : Value) (vs : List Value) → list_items v ≡ Some vs → fit_of v ≡ list_fit (map fit_of vs)
list_told v vs e = opened v ∙ by (out-ValueOf MessageDescriptor v) e where
  by : (o : Open) → items_in o ≡ Some vs → stepped o ≡ list_fit (map fit_of vs)
  by (ValueOf-F.List ws) e = ap (λ o. list_fit (map fit_of (unwrap_or o []))) e
  by o e = absurd (cc e)

pub map_told : (v : Value) (es : List (MapKey × Value)) → map_entries v ≡ Some es → fit_of v ≡ map_fit (fits_in es)
map_told v es e = opened v ∙ by (out-ValueOf MessageDescriptor v) e where
  by : (o : Open) → entries_in o ≡ Some es → stepped o ≡ map_fit (fits_in es)
  by (ValueOf-F.Map fs) e = ap (λ o. map_fit (fits_in (unwrap_or o []))) e
  by o e = absurd (cc e)
