-- Messages of one type that hold the same, wherever they lie in memory: what is printed of them is alike, entry by entry, whatever they hold.
use Rattle.std.proofs.Common.{◌≡◌, ◌&&◌, ◌||◌, ℕ, not, false, List, [], ◌∷◌, Option, Some, None, refl, sym, ap, ◌∙◌, subst}
use Rattle.std.specs.List.{AllByRecursion, cons_option, filter, filter_map}
use Rattle.reflect_tables.specs.Types.{FieldType, PoolType, type_at}
use Rattle.reflect_pool.specs.declared.message.MessageDescriptor.{MessageDescriptor}
use Rattle.reflect_entries.specs.Entries.{value_at}
use Rattle.reflect_message.specs.Contents.{Content}
use Rattle.reflect_message.specs.Held.{extensions_of, fields_of, unknown_of}
use Rattle.reflect_message.specs.Known.{holds_floats, known_field}
use Rattle.reflect_message.specs.Names.{DynamicMessage, Value}
use Rattle.reflect_message.specs.Present.{is_held}
use Rattle.reflect_message.specs.Shown.{IsHeldOrDefault}
use Rattle.print_parts.specs.Entries.{AreDeclared, AreOthers, ArePrinted, Entry, IsFieldOf, extension, extension_entries, field, held_under, is_printed, known_fields, pool_of, printed_fields, set_entries, undeclared}
use Rattle.print_parts.specs.Pairwise.{Pairwise}
use Rattle.text_lines.specs.declared.options.FormatOptions.{FormatOptions}
use Rattle.message_view.proofs.Accepting.{known_whole}
use Rattle.print_view.proofs.Alike.{AlikeValues, AreBare, FieldAlike, Likeness, alike_ones, none_alike, one_value, some_alike}
use Rattle.print_view.proofs.AlikeParts.{all_declared, all_others, fields_alike}
use Rattle.print_view.proofs.AlikeRows.{AlikeEntries, AreAlike, extends, one_extension, one_field, one_record, sets}
use Rattle.print_view.proofs.Sorting.{all_filtered}

pub record AreSame (m n : DynamicMessage) : Type 0 where
  pub pool : m.descriptor.pool.now ≡ n.descriptor.pool.now
  pub index : m.descriptor.index ≡ n.descriptor.index
  pub fields : fields_of m ≡ fields_of n
  pub extensions : extensions_of m ≡ extensions_of n
  pub unknown : unknown_of m ≡ unknown_of n

pub same_message : (m : DynamicMessage) → AreSame m m
same_message m = record { pool = refl; index = refl; fields = refl; extensions = refl; unknown = refl }

-- so are values that are one
abbrev pub Same : Likeness
Same = record { same = Unit {0}; messages = AreSame }

itself : (v : Value) → AlikeValues Same v v
itself v = alike_ones (one_value tt refl)

bare_same : (pool : PoolType) (m n : DynamicMessage) → AreBare pool m n → AreSame m n
bare_same pool m n h =
    let both = h.one ∙ sym h.other in
    record {
      pool = h.first ∙ sym h.second;
      index = h.index;
      fields = ap (λ (c : Content). c.fields) both;
      extensions = ap (λ (c : Content). c.extensions) both;
      unknown = ap (λ (c : Content). c.unknown) both;
    }

field_same : (pool : PoolType) (f : FieldType) → holds_floats pool f ≡ false → (o : Option Value) → FieldAlike Same pool f o o
field_same pool f whole None = none_alike Same pool (bare_same pool) f whole
field_same pool f whole (Some v) = some_alike Same pool f v v (itself v)

themselves : (es : List Entry) → AreAlike Same es es
themselves [] = refl
themselves (e ∷ es) = (e, es, by e, themselves es, refl) where
  by : (e : Entry) → AlikeEntries Same e e
  by (field pool f v) = one_field pool f v v refl refl (itself v)
  by (extension pool f v) = one_extension pool f v v refl refl (itself v)
  by (undeclared r) = one_record r refl refl

one_row : (ds es : List Entry) → ds ≡ es → AreAlike Same ds es
one_row ds es same = subst (AreAlike Same ds) same (themselves ds)

-- what is printed of the fields, by a type and by what is held
abbrev prints : FormatOptions → PoolType → ℕ → List (ℕ × Value) → List FieldType
prints form pool i es =
    filter (λ (f : FieldType). (not form.skip_default_fields && not f.presence) || is_held pool f (value_at es f.number))
    (filter_map (λ (f : FieldType). known_field pool i f.number) (type_at pool i).fields)

all_whole : (d : MessageDescriptor) (fs : List FieldType) → AllByRecursion (λ (f : FieldType). holds_floats d.pool.now f ≡ false) (filter_map (λ (f : FieldType). known_field d.pool.now d.index f.number) fs)
all_whole d [] = tt
all_whole d (f ∷ fs) = by (known_field d.pool.now d.index f.number) refl (all_whole d fs) where
  by : (o : Option FieldType) → known_field d.pool.now d.index f.number ≡ o → AllByRecursion (λ (f : FieldType). holds_floats d.pool.now f ≡ false) (filter_map (λ (f : FieldType). known_field d.pool.now d.index f.number) fs)
      → AllByRecursion (λ (f : FieldType). holds_floats d.pool.now f ≡ false) (cons_option o (filter_map (λ (f : FieldType). known_field d.pool.now d.index f.number) fs))
  by None is rest = rest
  by (Some g) is rest = (known_whole d f.number g is, rest)

module _ (form : FormatOptions) (m n : DynamicMessage) (alike : AreSame m n) where
  one_set : set_entries m ≡ set_entries n
  one_set = λ i. sets (alike.pool i) (alike.index i) (alike.fields i)

  one_choice : printed_fields form m ≡ printed_fields form n
  one_choice = λ i. prints form (alike.pool i) (alike.index i) (alike.fields i)

  one_extended : extension_entries m ≡ extension_entries n
  one_extended = λ i. extends (alike.pool i) (alike.index i) (alike.extensions i)

  whole_choice : AllByRecursion (λ (f : FieldType). holds_floats (pool_of m) f ≡ false) (printed_fields form m)
  whole_choice = all_filtered (λ (f : FieldType). holds_floats (pool_of m) f ≡ false) (is_printed form m) (known_fields m) (all_whole m.descriptor (type_at (pool_of m) m.descriptor.index).fields)

  field_alike : (f : FieldType) → holds_floats (pool_of m) f ≡ false → (d e : Entry) → IsFieldOf m f d → IsFieldOf n f e → AlikeEntries Same d e
  field_alike f whole d e (v, one, is) (w, two, also) =
      let there = subst (λ p. IsHeldOrDefault p f (held_under n f) w) (sym alike.pool) two in
      let its = subst (λ es. IsHeldOrDefault (pool_of m) f (value_at es f.number) w) (sym alike.fields) there in
      one_field (pool_of m) f v w is (also ∙ ap (λ p. field p f w) (sym alike.pool)) ((field_same (pool_of m) f whole (held_under m f)).values v w one its)

  chosen_same : (ds es : List Entry) → ArePrinted form m ds → ArePrinted form n es → AreAlike Same ds es
  chosen_same ds es one two =
      fields_alike Same form m n (λ (f : FieldType). holds_floats (pool_of m) f ≡ false) field_alike (printed_fields form m) whole_choice ds es one (subst (λ fs. Pairwise (IsFieldOf n) fs es) (sym one_choice) two)

  pub same_declared : (ds es : List Entry) → AreDeclared form m ds → AreDeclared form n es → AreAlike Same ds es
  same_declared = all_declared Same form m n (one_row (set_entries m) (set_entries n) one_set) chosen_same

  pub same_others : (ds es : List Entry) → AreOthers form m ds → AreOthers form n es → AreAlike Same ds es
  same_others = all_others Same form m n (one_row (extension_entries m) (extension_entries n) one_extended) alike.unknown
