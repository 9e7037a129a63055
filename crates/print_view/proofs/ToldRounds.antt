-- A printed message tells an unknown record, or it is printed without any and keeps none, with expansions in one another.
use Rattle.std.proofs.Common.{◌≡◌, ◌⊎◌, ◌-◌, ℕ, zero, suc, Bool, true, false, Option, Some, sym, subst, arith}
use Rattle.protox_lex.specs.Class.{Text}
use Rattle.reflect_tables.specs.Types.{PoolType}
use Rattle.reflect_message.specs.Names.{DynamicMessage}
use Rattle.print_parts.specs.Expands.{Expands}
use Rattle.reflect_print.specs.MessageTexts.{IsBracedText, IsItemsText}
use Rattle.text_lines.specs.declared.options.FormatOptions.{FormatOptions}
use Rattle.protobuf_model.specs.Types.{Name}
use Rattle.protobuf_model.specs.Values.{Message}
use Rattle.text_model.specs.Forms.{Form, between}
use Rattle.text_model.specs.Printed.{Inner, expanded_as, joined, or_fields, printed_within}
use Rattle.text_model.specs.Schemas.{Schema}
use Rattle.text_model.proofs.Written.{AreShown}
use Rattle.message_view.specs.Shaped.{Shaped}
use Rattle.message_view.specs.Sound.{IsSound}
use Rattle.message_view.specs.Types.{name_at, types_of}
use Rattle.message_view.specs.Views.{view}
use Rattle.text_view.specs.Schemas.{schema_of}
use Rattle.print_view.specs.Forms.{form_of, HaveMessagePresence}
use Rattle.print_view.proofs.Anys.{held_at}
use Rattle.print_view.proofs.Contents.{Forms}
use Rattle.print_view.proofs.Gathered.{gathered}
use Rattle.print_view.proofs.KeepsNone.{MessageKeepsNone, any_keeps_none}
use Rattle.print_view.proofs.Printer.{Printer, own_options, telling_options}
use Rattle.print_view.proofs.Rounds.{IsExpandable, expansion_at, inner_at, printed_at, printer_at, some_at, unexpanded_at, within_is}
use Rattle.print_view.proofs.Telling.{Gathered, ToldExpansion, braced_told, items_told}
use Rattle.print_view.proofs.ToldParts.{carried}
use Rattle.print_view.proofs.ToldTokens.{TellsRecord}
use Rattle.print_view.proofs.Values.{pairs_in}

module _ (p skip as_declared expand : Bool) (pool : PoolType) (sound : IsSound pool) (told : skip ≡ false → HaveMessagePresence pool) (decoded : Name → Text → Option Message) (expandable : expand ≡ true → IsExpandable pool decoded) where
  abbrev telling : FormatOptions
  telling = telling_options p skip as_declared expand

  abbrev own : FormatOptions
  own = own_options p skip as_declared expand

  abbrev form : Form
  form = form_of own

  abbrev w : Schema
  w = schema_of pool decoded

  abbrev inner : ℕ → Inner
  inner x = inner_at p skip as_declared expand pool sound told decoded expandable x

  abbrev printer : ℕ → Printer
  printer x = printer_at p skip as_declared expand pool sound told decoded expandable x

  -- what the model prints of a message with so many expansions left can be told in a text
  abbrev IsTold : ℕ → DynamicMessage → Type 0
  IsTold x m = AreShown p (printed_within x form w (name_at pool m.descriptor.index) (view m))

  -- and in the message no record is kept
  abbrev KeepsNone : ℕ → ℕ → DynamicMessage → Type 0
  KeepsNone x levels m = MessageKeepsNone (types_of pool) (Forms w expand x levels) (name_at pool m.descriptor.index) (view m)

  gathered_at : (x : ℕ) → Gathered (printer x) x
  gathered_at x levels m there shaped ds declared fields extensions none = gathered telling decoded expand x pool sound levels m there shaped ds declared fields extensions none

  -- an Any that is expanded keeps none
  expanded_keeps_none : (more levels : ℕ) (m : DynamicMessage) → m.descriptor.pool.now ≡ pool → Shaped (suc levels) m → expand ≡ true → (url : Text) (body : DynamicMessage) → Expands m (Some (url, body)) → KeepsNone (suc more) (suc levels) m
  expanded_keeps_none more levels m there shaped expands url body some =
      let its = held_at pool decoded levels m there shaped sound (expandable expands) url body some in
      subst (λ e. MessageKeepsNone (types_of pool) (Forms w e (suc more) (suc levels)) (name_at pool m.descriptor.index) (view m)) (sym expands)
      (any_keeps_none w more levels (name_at pool m.descriptor.index) (view m) its.0 (name_at pool body.descriptor.index) (view body) its.4)

  abbrev ToldAt : ℕ → Type 0
  ToldAt x = ToldExpansion (printer x) x

  braced_at : (x : ℕ) → ToldAt x → (i : ℕ) (m : DynamicMessage) (z : Text) → IsBracedText telling 100 x i m z → m.descriptor.pool.now ≡ pool → Shaped 101 m → IsTold x m → TellsRecord z ⊎ (IsBracedText own 100 x i m z × KeepsNone x 101 m)
  braced_at x expansion i m z text there shaped shown =
      braced_told (printer x) x (printed_at p skip as_declared expand pool sound told decoded expandable x) (unexpanded_at p skip as_declared expand pool sound told decoded expandable x)
      (expansion_at p skip as_declared expand pool sound told decoded expandable x) (gathered_at x) expansion text 101 there shaped
      (subst (AreShown p) (within_is p skip as_declared expand pool sound told decoded expandable x (name_at pool m.descriptor.index) (view m)) shown)

  told_at : (x : ℕ) → ToldAt x
  told_at zero levels m there shaped shown url body may some i z text = let none = may.1 in absurd (omega (arith, none))
  told_at (suc more) levels m there shaped shown url body may some i z text =
      let its = some_at p skip as_declared expand pool sound told decoded expandable (inner (suc more)) levels m there shaped may.0 url body some in
      let inside : AreShown p (expanded_as its.0 (printed_within more form w (name_at pool body.descriptor.index) (view body))) =
      subst (λ o. AreShown p (or_fields o (joined (between p) (pairs_in (printer (suc more)) m)))) its.4 shown in
      let less : suc more - 1 ≡ more = omega arith in (
        its.0,
        its.1,
        inside.0,
        subst (λ k. TellsRecord z ⊎ IsBracedText own 100 k i body z) (sym less) (carried (braced_at more (told_at more) i body z (subst (λ k. IsBracedText telling 100 k i body z) less text) its.2 its.3 inside.1) (λ t. t) (λ o. o.0)),
        expanded_keeps_none more levels m there shaped may.0 url body some,
      )

  -- a whole message
  pub whole_told : (x i : ℕ) (braces any : Bool) (m : DynamicMessage) (z : Text) → IsItemsText telling 100 x i braces m any z → m.descriptor.pool.now ≡ pool → Shaped 101 m → IsTold x m → TellsRecord z ⊎ (IsItemsText own 100 x i braces m any z × KeepsNone x 101 m)
  whole_told x i braces any m z text there shaped shown =
      items_told (printer x) x (printed_at p skip as_declared expand pool sound told decoded expandable x) (unexpanded_at p skip as_declared expand pool sound told decoded expandable x)
      (expansion_at p skip as_declared expand pool sound told decoded expandable x) (gathered_at x) (told_at x) text 101 there shaped
      (subst (AreShown p) (within_is p skip as_declared expand pool sound told decoded expandable x (name_at pool m.descriptor.index) (view m)) shown)
