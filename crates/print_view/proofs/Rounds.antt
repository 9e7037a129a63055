-- What is printed of a message, with expansions in one another.
use Rattle.std.proofs.Common.{◌≡◌, ◌∷◌, ◌++◌, ◌⊎◌, ◌-◌, inl, inr, ℕ, zero, suc, Bool, true, true≢false, false, List, Option, Some, None, map, option_map, refl, sym, ap, ◌∙◌, subst, arith}
use Rattle.std.specs.List.{AllByRecursion}
use Rattle.protox_lex.specs.Class.{Text}
use Rattle.reflect_tables.specs.Types.{PoolType}
use Rattle.reflect_message.specs.Names.{DynamicMessage}
use Rattle.print_parts.specs.Entries.{Entry, extension_entries}
use Rattle.print_parts.specs.Expands.{Expands}
use Rattle.reflect_print.specs.MessageTexts.{IsBracedText, IsItemsText, MayExpand}
use Rattle.text_lines.specs.declared.options.FormatOptions.{FormatOptions}
use Rattle.protobuf_model.specs.Types.{Name}
use Rattle.protobuf_model.specs.Values.{Message}
use Rattle.text_model.specs.Forms.{Form}
use Rattle.text_model.specs.Printed.{Inner, expanded_as, in_any, printed_by, printed_within}
use Rattle.text_model.specs.Schemas.{Schema}
use Rattle.text_model.specs.Tree.{braced, curly}
use Rattle.text_model.proofs.Expansions.{no_expansion}
use Rattle.message_view.specs.Shaped.{Shaped}
use Rattle.message_view.specs.Sound.{AreApart, HaveFieldNumbers, HaveNames, HaveEntryFields, HaveLists, IsSound}
use Rattle.message_view.specs.Types.{name_at}
use Rattle.message_view.specs.Views.{view}
use Rattle.text_view.specs.Schemas.{schema_of}
use Rattle.print_view.specs.Expansions.{DecodesIn, HasUsualAny}
use Rattle.print_view.specs.Forms.{form_of, HaveMessagePresence}
use Rattle.print_view.proofs.Anys.{expanded_in, held_at, not_expanded}
use Rattle.print_view.proofs.Entries.{all_printed}
use Rattle.print_view.proofs.Parts.{HaveValues, have_values}
use Rattle.print_view.proofs.Pieces.{value_shown}
use Rattle.print_view.proofs.Printer.{Printer, own_options}
use Rattle.print_view.proofs.Values.{EntryFits, Expansion, Printed, ShowsItems, Unexpanded, braced_text, items_said, pair_of, pairs_in}

module _ (p skip as_declared expand : Bool) (decoded : Name → Text → Option Message) (inner : Inner) (rounds : ℕ) where
  abbrev by_pool : (pool : PoolType) → HaveEntryFields pool → HaveValues pool → Printer
  by_pool pool fields values = record { pretty = p; skip = skip; as_declared = as_declared; expand = expand; pool = pool; fields_of = fields; values = values; decoded = decoded; inner = inner; payloads = rounds }

  -- what is printed of a message, by the pool that it is of
  abbrev Each : ℕ → DynamicMessage → List Entry → (pool : PoolType) → HaveEntryFields pool → HaveValues pool → Type 0
  Each levels m ds pool fields values =
      AllByRecursion (EntryFits (by_pool pool fields values) levels) ds
      × AllByRecursion (EntryFits (by_pool pool fields values) levels) (extension_entries m)
      × (pairs_in (by_pool pool fields values) m ≡ map (pair_of (by_pool pool fields values)) ds ++ map (pair_of (by_pool pool fields values)) (extension_entries m))

  each_printed : (pool : PoolType) → (skip ≡ false → HaveMessagePresence pool) → AreApart pool → HaveFieldNumbers pool → (fields : HaveEntryFields pool) (values : HaveValues pool) → HaveLists pool → HaveNames pool → Printed (by_pool pool fields values)
  each_printed pool told apart ranged fields values lists names levels m there shaped ds are =
      subst (λ q. (skip ≡ false → HaveMessagePresence q) → AreApart q → HaveFieldNumbers q → (f : HaveEntryFields q) (v : HaveValues q) → HaveLists q → HaveNames q → Each levels m ds q f v) there
      (λ s a r f v l n. all_printed p skip as_declared expand m s a r f v l n decoded inner rounds levels shaped ds are) told apart ranged fields values lists names

-- what is asked where Anys are expanded
abbrev pub IsExpandable : PoolType → (Name → Text → Option Message) → Type 0
IsExpandable pool decoded = DecodesIn pool decoded × HasUsualAny pool

module _ (p skip as_declared expand : Bool) (pool : PoolType) (sound : IsSound pool) (told : skip ≡ false → HaveMessagePresence pool) (decoded : Name → Text → Option Message) (expandable : expand ≡ true → IsExpandable pool decoded) where
  abbrev options : FormatOptions
  options = own_options p skip as_declared expand

  abbrev own : Form
  own = form_of (own_options p skip as_declared expand)

  abbrev w : Schema
  w = schema_of pool decoded

  abbrev values : HaveValues pool
  values = have_values pool sound

  -- what is printed in an Any, with so many expansions left
  abbrev pub inner_at : ℕ → Inner
  inner_at zero = λ t m. None
  inner_at (suc more) = λ t m. Some (printed_within more own w t m)

  -- so the printer
  abbrev pub printer_at : ℕ → Printer
  printer_at x = record { pretty = p; skip = skip; as_declared = as_declared; expand = expand; pool = pool; fields_of = sound.entries; values = values; decoded = decoded; inner = inner_at x; payloads = 100 }

  pub within_is : (x : ℕ) (t : Name) (m : Message) → printed_within x own w t m ≡ printed_by own w (inner_at x) t m
  within_is zero t m = refl
  within_is (suc more) t m = refl

  pub printed_at : (x : ℕ) → Printed (printer_at x)
  printed_at x = each_printed p skip as_declared expand decoded (inner_at x) 100 pool told sound.apart sound.numbers sound.entries values sound.lists sound.names

  -- the Any is none that is expanded
  none_at : (inner : Inner) (levels : ℕ) (m : DynamicMessage) → m.descriptor.pool.now ≡ pool → Shaped (suc levels) m → expand ≡ true → Expands m None → in_any own w inner (name_at pool m.descriptor.index) (view m) ≡ None
  none_at inner levels m there shaped e none =
      subst (λ q. IsSound q → HasUsualAny q → DecodesIn q decoded → in_any own (schema_of q decoded) inner (name_at q m.descriptor.index) (view m) ≡ None) there
      (λ s u d. not_expanded decoded m s u d levels shaped own inner none) sound (expandable e).1 (expandable e).0

  pub unexpanded_at : (x : ℕ) → Unexpanded (printer_at x) x
  unexpanded_at zero levels m there shaped either = no_expansion own w (inner_at zero) (name_at pool m.descriptor.index) (view m) (λ fs e. cc e.inside)
  unexpanded_at (suc more) levels m there shaped either = by expand refl either where
    by : (e : Bool) → expand ≡ e → ((MayExpand options (suc more) → ⊥) ⊎ Expands m None) → in_any own w (inner_at (suc more)) (name_at pool m.descriptor.index) (view m) ≡ None
    by false e either = no_expansion own w (inner_at (suc more)) (name_at pool m.descriptor.index) (view m) (λ fs x. true≢false (sym x.expands ∙ e))
    by true e (inl none) = absurd (none (e, omega arith))
    by true e (inr none) = none_at (inner_at (suc more)) levels m there shaped e none

  -- an Any that is
  pub some_at : (inner : Inner) (levels : ℕ) (m : DynamicMessage) → m.descriptor.pool.now ≡ pool → Shaped (suc levels) m → expand ≡ true → (url : Text) (body : DynamicMessage) → Expands m (Some (url, body))
      → (u : Text × Text) × (u.0 ++ 47 ∷ u.1 ≡ url) × (body.descriptor.pool.now ≡ pool) × Shaped 101 body
      × (in_any own w inner (name_at pool m.descriptor.index) (view m) ≡ option_map (expanded_as u) (inner (name_at pool body.descriptor.index) (view body)))
  some_at inner levels m there shaped e url body some =
      let h = held_at pool decoded levels m there shaped sound (expandable e) url body some in
      (h.0, h.1, h.2, h.3, expanded_in own w inner (name_at pool m.descriptor.index) (view m) h.0 (name_at pool body.descriptor.index) (view body) e h.4)

  -- a message in braces, if expansions are as the model prints them
  in_braces_at : (x : ℕ) → Expansion (printer_at x) x → (i : ℕ) (m : DynamicMessage) (z : Text) → IsBracedText options 100 x i m z → m.descriptor.pool.now ≡ pool → Shaped 101 m
      → z ≡ value_shown p i (braced curly (printed_within x own w (name_at pool m.descriptor.index) (view m)))
  in_braces_at x expansion i m z text there shaped =
      braced_text (printer_at x) x (printed_at x) (unexpanded_at x) expansion text 101 there shaped
      ∙ ap (λ fs. value_shown p i (braced curly fs)) (sym (within_is x (name_at pool m.descriptor.index) (view m)))

  pub expansion_at : (x : ℕ) → Expansion (printer_at x) x
  expansion_at zero levels m there shaped url body may some i z text = let none = may.1 in absurd (omega (arith, none))
  expansion_at (suc more) levels m there shaped url body may some i z text =
      let its = some_at (inner_at (suc more)) levels m there shaped may.0 url body some in
      let less : suc more - 1 ≡ more = omega arith in (
        its.0,
        printed_within more own w (name_at pool body.descriptor.index) (view body),
        its.1,
        its.4,
        in_braces_at more (expansion_at more) i body z (subst (λ k. IsBracedText options 100 k i body z) less text) its.2 its.3,
      )

  -- a whole message
  pub whole_said : (x i : ℕ) (braces any : Bool) (m : DynamicMessage) (z : Text) → IsItemsText options 100 x i braces m any z → m.descriptor.pool.now ≡ pool → Shaped 101 m
      → ShowsItems (printer_at x) braces i m any z
  whole_said x i braces any m z text there shaped =
      items_said (printer_at x) x (printed_at x) (unexpanded_at x) (expansion_at x) text 101 there shaped
