-- What is printed of messages that are alike is alike, entry by entry.
use Rattle.std.proofs.Common.{◌≡◌, ◌&&◌, ◌||◌, ℕ, not, Bool, cond, List, [], ◌∷◌, Option, Some, None, refl, sym, ap, ◌∙◌, subst}
use Rattle.std.specs.List.{AllByRecursion, cons_option, filter, filter_map}
use Rattle.protobuf_model.proofs.Lists.{all_map}
use Rattle.reflect_tables.specs.Types.{FieldType, PoolType, type_at}
use Rattle.reflect_pool.specs.declared.message.MessageDescriptor.{MessageDescriptor}
use Rattle.reflect_message.specs.Held.{extensions_of, fields_of}
use Rattle.reflect_message.specs.Known.{known_field}
use Rattle.reflect_message.specs.Names.{DynamicMessage}
use Rattle.reflect_message.specs.Present.{is_held}
use Rattle.reflect_message.specs.Shown.{IsHeldOrDefault}
use Rattle.print_parts.specs.Entries.{AreDeclared, AreOthers, ArePrinted, Entry, IsFieldOf, extension_entries, field, held_under, printed_fields, set_entries}
use Rattle.print_parts.specs.Pairwise.{Pairwise}
use Rattle.text_lines.specs.declared.options.FormatOptions.{FormatOptions}
use Rattle.message_view.proofs.Fields.{known}
use Rattle.print_view.proofs.Alike.{AlikeHeld, Likeness, Within}
use Rattle.print_view.proofs.AlikeParts.{all_declared, all_others, fields_alike, row_alike}
use Rattle.print_view.proofs.AlikeRows.{AlikeEntries, AreAlike, extends, extends_alike, one_field, sets, sets_alike}
use Rattle.print_view.proofs.Sorting.{all_filtered}

-- the fields that are printed, by which of them are held
abbrev has : FormatOptions → (FieldType → Bool) → FieldType → Bool
has form holds f = (not form.skip_default_fields && not f.presence) || holds f

abbrev knows : PoolType → ℕ → List FieldType
knows pool i = filter_map (λ (f : FieldType). known_field pool i f.number) (type_at pool i).fields

abbrev prints : FormatOptions → PoolType → ℕ → (FieldType → Bool) → List FieldType
prints form pool i holds = filter (has form holds) (knows pool i)

-- each of them is found under its number
abbrev IsKnown : PoolType → ℕ → FieldType → Type 0
IsKnown pool i f = known_field pool i f.number ≡ Some f

all_known : (d : MessageDescriptor) (fs : List FieldType) → AllByRecursion (IsKnown d.pool.now d.index) (filter_map (λ (f : FieldType). known_field d.pool.now d.index f.number) fs)
all_known d [] = tt
all_known d (f ∷ fs) = by (known_field d.pool.now d.index f.number) refl (all_known d fs) where
  by : (o : Option FieldType) → known_field d.pool.now d.index f.number ≡ o → AllByRecursion (IsKnown d.pool.now d.index) (filter_map (λ (f : FieldType). known_field d.pool.now d.index f.number) fs)
      → AllByRecursion (IsKnown d.pool.now d.index) (cons_option o (filter_map (λ (f : FieldType). known_field d.pool.now d.index f.number) fs))
  by None is rest = rest
  by (Some g) is rest = (ap (known_field d.pool.now d.index) (known d f.number g is).3 ∙ is, rest)

same_filter : (p q : FieldType → Bool) (fs : List FieldType) → AllByRecursion (λ (f : FieldType). p f ≡ q f) fs → filter p fs ≡ filter q fs
same_filter p q [] all = refl
same_filter p q (f ∷ fs) all = ap (λ b. cond b (f ∷ filter p fs) (filter p fs)) all.0 ∙ ap (λ l. cond (q f) (f ∷ l) l) (same_filter p q fs all.1)

-- ---- what is printed of messages that are alike
module _ (form : FormatOptions) (pool : PoolType) (levels : ℕ) (m n : DynamicMessage) (alike : AlikeHeld (Within pool levels) pool m n) where
  abbrev A : Likeness
  A = Within pool levels

  abbrev i : ℕ
  i = m.descriptor.index

  abbrev holds : DynamicMessage → FieldType → Bool
  holds a f = is_held pool f (held_under a f)

  known_each : AllByRecursion (IsKnown pool i) (knows pool i)
  known_each = subst (λ p. AllByRecursion (IsKnown p m.descriptor.index) (knows p m.descriptor.index)) alike.first (all_known m.descriptor (type_at m.descriptor.pool.now m.descriptor.index).fields)

  first_choice : printed_fields form m ≡ prints form pool i (holds m)
  first_choice = ap (λ p. prints form p m.descriptor.index (λ f. is_held p f (held_under m f))) alike.first

  second_choice : printed_fields form n ≡ prints form pool i (holds m)
  second_choice =
      ap (λ p. prints form p n.descriptor.index (λ f. is_held p f (held_under n f))) alike.second
      ∙ ap (λ k. prints form pool k (holds n)) (sym alike.index)
      ∙ same_filter (has form (holds n)) (has form (holds m)) (knows pool i)
      (all_map (IsKnown pool i) (λ f. has form (holds n) f ≡ has form (holds m) f) (knows pool i)
      (λ f there. ap (λ b. (not form.skip_default_fields && not f.presence) || b) (sym (alike.fields f.number f there).held)) known_each)

  field_alike : (f : FieldType) → IsKnown pool i f → (d e : Entry) → IsFieldOf m f d → IsFieldOf n f e → AlikeEntries A d e
  field_alike f there d e (v, one, is) (w, two, also) =
      one_field pool f v w (is ∙ ap (λ p. field p f v) alike.first) (also ∙ ap (λ p. field p f w) alike.second)
      ((alike.fields f.number f there).values v w (subst (λ p. IsHeldOrDefault p f (held_under m f) v) alike.first one) (subst (λ p. IsHeldOrDefault p f (held_under n f) w) alike.second two))

  chosen_alike : (ds es : List Entry) → ArePrinted form m ds → ArePrinted form n es → AreAlike A ds es
  chosen_alike ds es one two =
      fields_alike A form m n (IsKnown pool i) field_alike (prints form pool i (holds m)) (all_filtered (IsKnown pool i) (has form (holds m)) (knows pool i) known_each) ds es
      (subst (λ fs. Pairwise (IsFieldOf m) fs ds) first_choice one) (subst (λ fs. Pairwise (IsFieldOf n) fs es) second_choice two)

  set_rows : AreAlike A (set_entries m) (set_entries n)
  set_rows =
      row_alike A (sets pool i (fields_of m)) (sets pool i (fields_of n)) (set_entries m) (set_entries n)
      (sets_alike A pool i (fields_of m) (fields_of n) alike.ordered.fields alike.order.fields alike.fields alike.unowned)
      (ap (λ p. sets p m.descriptor.index (fields_of m)) alike.first)
      (ap (λ p. sets p n.descriptor.index (fields_of n)) alike.second ∙ ap (λ k. sets pool k (fields_of n)) (sym alike.index))

  pub declared_alike : (ds es : List Entry) → AreDeclared form m ds → AreDeclared form n es → AreAlike A ds es
  declared_alike = all_declared A form m n set_rows chosen_alike

  extension_rows : AreAlike A (extension_entries m) (extension_entries n)
  extension_rows =
      row_alike A (extends pool i (extensions_of m)) (extends pool i (extensions_of n)) (extension_entries m) (extension_entries n)
      (extends_alike A pool i (extensions_of m) (extensions_of n) alike.ordered.extensions alike.order.extensions alike.extensions)
      (ap (λ p. extends p m.descriptor.index (extensions_of m)) alike.first)
      (ap (λ p. extends p n.descriptor.index (extensions_of n)) alike.second ∙ ap (λ k. extends pool k (extensions_of n)) (sym alike.index))

  pub others_alike : (ds es : List Entry) → AreOthers form m ds → AreOthers form n es → AreAlike A ds es
  others_alike = all_others A form m n extension_rows alike.unknown
