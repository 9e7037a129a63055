-- Spans by paths, location by location.
use Rattle.std.proofs.Common.{◌≡◌, refl, sym, ap, ◌∙◌, ℤ, Bool, true, false, cond, List, [], ◌∷◌, ◌++◌, Option, Some, None, is_some, BTreeMap, Vec, Global}
use Rattle.std.proofs.Math.Path.{fun_ext}
use Rattle.std.proofs.lemmas.Bool.{true≢false, false≢true}
use Rattle.std.specs.Ordering.{is_eq, int_cmp}
use Rattle.std.specs.declared.cmp.Ordering.{Ordering}
use Rattle.std.specs.declared.cmp.Ordering.TheVariants.{Less, Equal, Greater}
use Rattle.std.specs.Cmp.{int_cmp_total}
use Rattle.std.specs.Cmp.Lexicographic.{slice_cmp, lists_total}
use Rattle.std.specs.Option.{option_or}
use Rattle.std.specs.BTreeMap.{get, is_at}
use Rattle.std.specs.Map.{lookup}
use Rattle.descriptor_records.specs.declared.source_info.Location.{Location}
use Rattle.reflect_faults.specs.Spans.{AreSpans, span_among, span_of, same_path}
use Rattle.reflect_faults.specs.declared.label.SourceSpan.{SourceSpan}

abbrev pub Spans : Type 0
Spans = BTreeMap (Vec ℤ Global) SourceSpan

abbrev pub path_cmp : Vec ℤ Global → Vec ℤ Global → Ordering
path_cmp p q = slice_cmp int_cmp p.items q.items

or_assoc : {X : Type 0} (a b c : Option X) → option_or (option_or a b) c ≡ option_or a (option_or b c)
or_assoc None b c = refl
or_assoc (Some x) b c = refl

option_or-none : {X : Type 0} (o : Option X) → option_or o None ≡ o
option_or-none None = refl
option_or-none (Some x) = refl

-- what a location tells of a path
abbrev pub own : Location → List ℤ → Option SourceSpan
own l path = cond (same_path l.path.items path) (span_of l.span.items) None

pub among_more : (ls : List Location) (l : Location) (path : List ℤ) → span_among (ls ++ l ∷ []) path ≡ option_or (span_among ls path) (own l path)
among_more [] l path = option_or-none (own l path)
among_more (x ∷ ls) l path = ap (option_or (own x path)) (among_more ls l path) ∙ sym (or_assoc (own x path) (span_among ls path) (own l path))

equal : (r : Ordering) → is_eq r ≡ true → r ≡ Equal
equal Less h = absurd (false≢true h)
equal Equal h = refl
equal Greater h = absurd (false≢true h)

-- equal paths find the same
same_found : (m : Spans) (p q : Vec ℤ Global) → same_path p.items q.items ≡ true → get path_cmp m p ≡ get path_cmp m q
same_found m p q h = ap (λ F. lookup (is_at F) m.entries) (fun_ext (λ k. (lists_total int_cmp_total).congr p.items q.items k.items (equal _ h)))

kept : (o : Option SourceSpan) (b : Option SourceSpan) → is_some o ≡ true → o ≡ option_or o b
kept (Some s) b h = refl
kept None b h = absurd (false≢true h)

absent : (o : Option SourceSpan) → is_some o ≡ false → o ≡ None
absent (Some s) h = absurd (true≢false h)
absent None h = refl

-- a location without a span adds nothing
pub spans_untold : (m : Spans) (ls : List Location) (l : Location) → AreSpans m ls → span_of l.span.items ≡ None → AreSpans m (ls ++ l ∷ [])
spans_untold m ls l told none p = told p ∙ sym (among_more ls l p.items ∙ ap (option_or (span_among ls p.items)) (nothing (same_path l.path.items p.items)) ∙ option_or-none _)
  where
    nothing : (b : Bool) → cond b (span_of l.span.items) None ≡ None
    nothing true = none
    nothing false = refl

-- the first span of a path stays
pub spans_kept : (m : Spans) (ls : List Location) (l : Location) → AreSpans m ls → is_some (get path_cmp m l.path) ≡ true → AreSpans m (ls ++ l ∷ [])
spans_kept m ls l told known p = told p ∙ by (same_path l.path.items p.items) refl ∙ sym (among_more ls l p.items)
  where
    by : (b : Bool) → same_path l.path.items p.items ≡ b → span_among ls p.items ≡ option_or (span_among ls p.items) (cond b (span_of l.span.items) None)
    by true e = kept (span_among ls p.items) (span_of l.span.items) (ap is_some (sym (told p) ∙ sym (same_found m l.path p e)) ∙ known)
    by false e = sym (option_or-none (span_among ls p.items))

-- a new path has its span
pub spans_put : (m n : Spans) (ls : List Location) (l : Location) (key : Vec ℤ Global) (s : SourceSpan) → AreSpans m ls → is_some (get path_cmp m l.path) ≡ false
    → key.items ≡ l.path.items → span_of l.span.items ≡ Some s → ((q : Vec ℤ Global) → get path_cmp n q ≡ cond (same_path key.items q.items) (Some s) (get path_cmp m q)) → AreSpans n (ls ++ l ∷ [])
spans_put m n ls l key s told new is span puts p =
    puts p ∙ ap (λ k. cond (same_path k p.items) (Some s) (get path_cmp m p)) is ∙ by (same_path l.path.items p.items) refl ∙ sym (among_more ls l p.items)
  where
    by : (b : Bool) → same_path l.path.items p.items ≡ b → cond b (Some s) (get path_cmp m p) ≡ option_or (span_among ls p.items) (cond b (span_of l.span.items) None)
    by true e = sym (ap (λ o. option_or o (span_of l.span.items)) (sym (told p) ∙ sym (same_found m l.path p e) ∙ absent _ new) ∙ span)
    by false e = told p ∙ sym (option_or-none (span_among ls p.items))
