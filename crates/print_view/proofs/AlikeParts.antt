-- What is printed of two messages is alike, entry by entry, where what is set of them is, what is printed of each field, and their extensions and other records.
use Rattle.std.proofs.Common.{◌≡◌, ◌&&◌, ◌++◌, not, Bool, true, false, cond, List, [], ◌∷◌, map, sym, subst}
use Rattle.std.specs.List.{AllByRecursion}
use Rattle.reflect_tables.specs.Types.{FieldType}
use Rattle.reflect_message.specs.Held.{unknown_of}
use Rattle.reflect_message.specs.Names.{DynamicMessage}
use Rattle.print_parts.specs.Entries.{AreChosen, AreDeclared, AreOthers, ArePrinted, Entry, IsArranged, IsByNumber, IsFieldOf, extension_entries, set_entries, undeclared}
use Rattle.print_parts.specs.Pairwise.{Pairwise}
use Rattle.text_lines.specs.declared.options.FormatOptions.{FormatOptions}
use Rattle.print_view.proofs.Alike.{Likeness}
use Rattle.print_view.proofs.AlikeRows.{AlikeEntries, AreAlike, both_rows, by_number, records_alike}

module _ (A : Likeness) where
  -- rows that are others
  pub row_alike : (xs ys ds es : List Entry) → AreAlike A xs ys → ds ≡ xs → es ≡ ys → AreAlike A ds es
  row_alike xs ys ds es h one two = subst (λ l. AreAlike A l es) (sym one) (subst (AreAlike A xs) (sym two) h)

  module _ (form : FormatOptions) (m n : DynamicMessage) where
    -- of the same fields, of each of which something is known
    pub fields_alike : (K : FieldType → Type 0) → ((f : FieldType) → K f → (d e : Entry) → IsFieldOf m f d → IsFieldOf n f e → AlikeEntries A d e)
        → (fs : List FieldType) → AllByRecursion K fs → (ds es : List Entry) → Pairwise (IsFieldOf m) fs ds → Pairwise (IsFieldOf n) fs es → AreAlike A ds es
    fields_alike K alike [] known ds es none also = subst (λ l. AreAlike A l es) (sym none) also
    fields_alike K alike (f ∷ fs) known ds es (d, rest, one, more, is) (e, others, two, later, also) =
        subst (λ l. AreAlike A l es) (sym is) (e, others, alike f known.0 d e one two, fields_alike K alike fs known.1 rest others more later, also)

    -- the fields that are printed
    pub all_declared : AreAlike A (set_entries m) (set_entries n) → ((ds es : List Entry) → ArePrinted form m ds → ArePrinted form n es → AreAlike A ds es)
        → (ds es : List Entry) → AreDeclared form m ds → AreDeclared form n es → AreAlike A ds es
    all_declared sets printed ds es = by (form.skip_default_fields && not form.in_index_order) where
      arranged : (b : Bool) (found others : List Entry) → AreAlike A found others → IsArranged b found ds → IsArranged b others es → AreAlike A ds es
      arranged true found others h one two = row_alike found others ds es h one two
      arranged false found others h one two = by_number A found ds others es h one two

      by : (b : Bool) → cond b (ds ≡ set_entries m) (AreChosen form m ds) → cond b (es ≡ set_entries n) (AreChosen form n es) → AreAlike A ds es
      by true one two = row_alike (set_entries m) (set_entries n) ds es sets one two
      by false (found, one, here) (others, two, there) = arranged form.in_index_order found others (printed found others one two) here there

    -- the extensions, and the other records
    pub all_others : AreAlike A (extension_entries m) (extension_entries n) → unknown_of m ≡ unknown_of n → (ds es : List Entry) → AreOthers form m ds → AreOthers form n es → AreAlike A ds es
    all_others extensions records ds es = by form.skip_unknown_fields where
      by : (b : Bool) → cond b (ds ≡ extension_entries m) (IsByNumber (extension_entries m ++ map undeclared (unknown_of m)) ds)
          → cond b (es ≡ extension_entries n) (IsByNumber (extension_entries n ++ map undeclared (unknown_of n)) es) → AreAlike A ds es
      by true one two = row_alike (extension_entries m) (extension_entries n) ds es extensions one two
      by false one two =
          by_number A (extension_entries m ++ map undeclared (unknown_of m)) ds (extension_entries n ++ map undeclared (unknown_of n)) es
          (subst (λ us. AreAlike A (extension_entries m ++ map undeclared (unknown_of m)) (extension_entries n ++ map undeclared us)) records
          (both_rows A (extension_entries m) (extension_entries n) (map undeclared (unknown_of m)) (map undeclared (unknown_of m)) extensions (records_alike A (unknown_of m)))) one two
