-- The span of a path among locations, and what one file more adds: its edits, or its fault with
-- the place.
use Rattle.std.proofs.Common.{◌≡◌, ◌∙◌, ◌≤◌, ◌+◌, ◌-◌, ◌++◌, suc, arith, ℕ, ℤ, List, ◌∷◌, Bool, true, false, cond, Option, None, Some, IfSome, Result, IfErr, IsErrAnd, slice_get, int_cmp, int_eq, ap, sym, subst, refl}
use Rattle.std.proofs.lemmas.Result.{err_from_is_err_and}
use Rattle.std.specs.Cmp.Lexicographic.{pointwise, lists_ties}
use Rattle.std.specs.Option.{option_or}
use Rattle.descriptor_records.specs.declared.source_info.Location.{Location}
use Rattle.descriptor_records.specs.declared.file.FileDescriptorProto.{FileDescriptorProto}
use Rattle.reflect_faults.specs.Faults.{Place}
use Rattle.reflect_faults.specs.Spans.{same_path, span_among, span_of}
use Rattle.reflect_faults.specs.declared.label.SourceSpan.{SourceSpan}
use Rattle.option_parts.specs.OptionTypes.{CanRead}
use Rattle.option_parts.specs.Places.{IsPlaceIn, StandsFrom}
use Rattle.option_parts.specs.declared.option_error.OptionError.{OptionError}
use Rattle.option_parts.specs.declared.option_error.OptionErrorKind.{OptionErrorKind}
use Rattle.option_parts.specs.declared.option_scope.OptionScope.{OptionScope}
use Rattle.reflect_growth.specs.declared.settle.Edit.{Edit}
use Rattle.reflect_link.specs.declared.file.FileDescriptor.{FileDescriptor}
use Rattle.reflect_tables.specs.Types.{PoolType}
use Rattle.reflect_options.specs.Settling.{RefusesFile, RefusesFrom, SettlesFile, SettlesFiles}

as_path : (xs ys : List ℤ) → pointwise int_eq xs ys ≡ same_path xs ys
as_path = lists_ties int_cmp (λ x y. refl)

own : (l : Location) (ls : List Location) (path : List ℤ) (b : Bool) → pointwise int_eq l.path.items path ≡ b → span_among (l ∷ ls) path ≡ option_or (cond b (span_of l.span.items) None) (span_among ls path)
own l ls path b is = ap (λ t. option_or (cond t (span_of l.span.items) None) (span_among ls path)) (sym (as_path l.path.items path) ∙ is)

-- the first location has the path and a span
pub here : (l : Location) (ls : List Location) (path : List ℤ) (s : SourceSpan) → pointwise int_eq l.path.items path ≡ true → span_of l.span.items ≡ Some s → span_among (l ∷ ls) path ≡ Some s
here l ls path s is told = own l ls path true is ∙ ap (λ o. option_or o (span_among ls path)) told

-- it has another path
pub further : (l : Location) (ls : List Location) (path : List ℤ) → pointwise int_eq l.path.items path ≡ false → span_among ls path ≡ span_among (l ∷ ls) path
further l ls path is = sym (own l ls path false is)

-- a place in a file at an index is one from each index before it on
pub in_file : (files : List FileDescriptorProto) (first i : ℕ) (f : FileDescriptorProto) → first ≤ i → slice_get files i ≡ Some f → (p : Option Place) → IfSome p (IsPlaceIn f) → IfSome p (StandsFrom files first)
in_file files first i f from at None place = tt
in_file files first i f from at (Some p) place = (i, f, from, at, place)

-- what holds of a fault holds of the refusal that passes it on
pub passed : {T : Type 0} (r : Result T OptionError) (Q : OptionError → Type 0) (fault : OptionError) → IsErrAnd r (λ e. e ≡ fault) → Q fault → IfErr r Q
passed r Q fault err q = let p = err_from_is_err_and r err in rw p.1 (subst Q (sym p.2) q)

-- the record of the file at an index
pub record_at : (pool : PoolType) (file : FileDescriptor) (i : ℕ) (f : FileDescriptorProto) → file.pool.now ≡ pool → file.index ≡ i → slice_get file.pool.now.records file.index ≡ Some f → slice_get pool.records i ≡ Some f
record_at pool file i f is at stands = subst (λ n. slice_get pool.records n ≡ Some f) at (subst (λ (p : PoolType). slice_get p.records file.index ≡ Some f) is stands)

back_at : (first i : ℕ) → first ≤ i → first + (i - first) ≡ i
back_at first i from = omega (arith, from)

one_further : (first i : ℕ) → first ≤ i → suc (i - first) ≡ i + 1 - first
one_further first i from = omega (arith, from)

-- behind the edits of the files before it those of the file at an index
pub settles_next : (pool : PoolType) (first i : ℕ) (front own new : List Edit) (f : FileDescriptorProto) → first ≤ i → SettlesFiles pool first (i - first) front → slice_get pool.records i ≡ Some f → SettlesFile pool i f own → new ≡ front ++ own → SettlesFiles pool first (i + 1 - first) new
settles_next pool first i front own new f from before at settles is =
    let e = sym (back_at first i from) in
    subst (λ n. SettlesFiles pool first n new) (one_further first i from)
    (front, own, f, before, subst (λ n. slice_get pool.records n ≡ Some f) e at, subst (λ n. SettlesFile pool n f own) e settles, is)

-- the file at an index is refused, behind those before it
pub refuses_next : (pool : PoolType) (first i : ℕ) (front : List Edit) (f : FileDescriptorProto) (place : Option Place) → first ≤ i → SettlesFiles pool first (i - first) front → slice_get pool.records i ≡ Some f → IfSome place (IsPlaceIn f) → ((scope : OptionScope) → CanRead pool scope) → (kind : OptionErrorKind) → (p : Place) × (place ≡ Some p) × RefusesFile pool i f p.path kind → RefusesFrom pool first place kind
refuses_next pool first i front f place from before at stands readable kind (p, is, refuses) =
    let e = sym (back_at first i from) in
    subst (λ o. RefusesFrom pool first o kind) (sym is)
    (readable, (i - first, front, f, before, subst (λ n. slice_get pool.records n ≡ Some f) e at, subst (λ n. RefusesFile pool n f p.path kind) e refuses, subst (λ o. IfSome o (IsPlaceIn f)) is stands))
