-- The declared fields that are printed, chosen one after another.
use Rattle.std.proofs.Common.{◌≡◌, Bool, true, false, List, [], ◌∷◌, ◌++◌, map, cond, Option, Some, sym, ap, ◌∙◌, refl, subst, append-nil}
use Rattle.std.specs.List.{cons_option, filter, filter_map}
use Rattle.std.specs.Ordering.{nat_cmp, is_lt}
use Rattle.std.specs.List.Sorted.{IsSortedByKey, IsStableByKey}
use Rattle.std.proofs.lemmas.Cmp.{nat_cmp_total}
use Rattle.std.proofs.lemmas.List.{append_assoc}
use Rattle.reflect_tables.specs.Types.{FieldType, type_at}
use Rattle.reflect_message.specs.Known.{known_field}
use Rattle.reflect_message.specs.Names.{DynamicMessage}
use Rattle.text_lines.specs.declared.options.FormatOptions.{FormatOptions}
use Rattle.print_parts.specs.Pairwise.{Pairwise}
use Rattle.print_parts.specs.Entries.{Entry, IsByNumber, IsFieldOf, PutsField, is_printed, number_of, pool_of, printed_fields}
use Rattle.protox_lex.proofs.Sorting.{ascend_viewed, stable_viewed}

abbrev known_in : DynamicMessage → FieldType → Option FieldType
known_in m f = known_field (pool_of m) m.descriptor.index f.number

-- the entries so far, and any of the fields that are left, are those of all
pub record IsChosen (form : FormatOptions) (m : DynamicMessage) (done : List Entry) (left : List FieldType) : Type 0 where
  pub whole : (rest : List Entry) → Pairwise (IsFieldOf m) (filter (is_printed form m) (filter_map (known_in m) left)) rest
      → Pairwise (IsFieldOf m) (printed_fields form m) (done ++ rest)

-- of all fields none so far
pub none_chosen : (form : FormatOptions) (m : DynamicMessage) (left : List FieldType) → left ≡ (type_at (pool_of m) m.descriptor.index).fields → IsChosen form m [] left
none_chosen form m left e = record { whole = λ rest h. subst (λ ls. Pairwise (IsFieldOf m) (filter (is_printed form m) (filter_map (known_in m) ls)) rest) e h }

pub all_chosen : (form : FormatOptions) (m : DynamicMessage) (done : List Entry) (left : List FieldType) → left ≡ [] → IsChosen form m done left → Pairwise (IsFieldOf m) (printed_fields form m) done
all_chosen form m done left e f =
    subst (Pairwise (IsFieldOf m) (printed_fields form m)) (append-nil done)
    (f.whole [] (subst (λ ls. Pairwise (IsFieldOf m) (filter (is_printed form m) (filter_map (known_in m) ls)) []) (sym e) refl))

-- one that they hold, which is put if it is printed
pub one_put : (form : FormatOptions) (m : DynamicMessage) (old new : List Entry) (g x : FieldType) (gs left : List FieldType) → left ≡ g ∷ gs → Some x ≡ known_in m g → PutsField form m x old new → IsChosen form m old left → IsChosen form m new gs
one_put form m old new g x gs left l k put f = record { whole = λ rest h. by (is_printed form m x) rest h put whole } where
  whole : (rest : List Entry) → Pairwise (IsFieldOf m) (cond (is_printed form m x) (x ∷ filter (is_printed form m) (filter_map (known_in m) gs)) (filter (is_printed form m) (filter_map (known_in m) gs))) rest
      → Pairwise (IsFieldOf m) (printed_fields form m) (old ++ rest)
  whole rest h = f.whole rest (subst (λ ls. Pairwise (IsFieldOf m) (filter (is_printed form m) (filter_map (known_in m) ls)) rest) (sym l)
      (subst (λ o. Pairwise (IsFieldOf m) (filter (is_printed form m) (cons_option o (filter_map (known_in m) gs))) rest) k h))

  by : (b : Bool) (rest : List Entry) → Pairwise (IsFieldOf m) (filter (is_printed form m) (filter_map (known_in m) gs)) rest
      → cond b ((e : Entry) × IsFieldOf m x e × (new ≡ old ++ e ∷ [])) (new ≡ old)
      → ((rest : List Entry) → Pairwise (IsFieldOf m) (cond b (x ∷ filter (is_printed form m) (filter_map (known_in m) gs)) (filter (is_printed form m) (filter_map (known_in m) gs))) rest → Pairwise (IsFieldOf m) (printed_fields form m) (old ++ rest))
      → Pairwise (IsFieldOf m) (printed_fields form m) (new ++ rest)
  by true rest h (e, is, n) whole =
      subst (Pairwise (IsFieldOf m) (printed_fields form m))
      (sym (append_assoc old (e ∷ []) rest) ∙ ap (λ (es : List Entry). es ++ rest) (sym n))
      (whole (e ∷ rest) (e, rest, is, h, refl))
  by false rest h n whole = subst (λ es. Pairwise (IsFieldOf m) (printed_fields form m) (es ++ rest)) (sym n) (whole rest h)

-- what is sorted by the numbers of what it stands for
pub by_number : {X : Type 0} (view : X → Entry) (found sorted : List X) → IsSortedByKey (λ x. number_of (view x)) nat_cmp sorted → IsStableByKey (λ x. number_of (view x)) nat_cmp found sorted → IsByNumber (map view found) (map view sorted)
by_number view found sorted a s = record {
  ascend = ascend_viewed view (λ a b. is_lt (nat_cmp (number_of a) (number_of b))) sorted a;
  same = stable_viewed view nat_cmp nat_cmp_total number_of found sorted s;
}
