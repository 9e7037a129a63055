-- What is printed of a message in shape, as a decoded one is, is what the model prints.
use Rattle.std.proofs.Common.{◌≡◌, ℕ, Bool, true, List, Option, refl, sym, ap, ◌∙◌, subst, true≢false, false}
use Rattle.protox_lex.specs.Class.{Text}
use Rattle.reflect_pool.specs.declared.message.MessageDescriptor.{MessageDescriptor}
use Rattle.reflect_message.specs.Names.{DynamicMessage}
use Rattle.reflect_decode.specs.Spelled.{IsSpelled}
use Rattle.text_lines.specs.declared.options.FormatOptions.{FormatOptions}
use Rattle.reflect_print.specs.MessageTexts.{IsMessageText}
use Rattle.protobuf_model.specs.Types.{Name}
use Rattle.protobuf_model.specs.Values.{Message}
use Rattle.text_model.specs.Expansions.{HasOneForm}
use Rattle.text_model.specs.Plain.{IsPlain}
use Rattle.text_model.specs.Printed.{printed}
use Rattle.text_model.specs.Rendered.{compact, text_of}
use Rattle.text_model.specs.Schemas.{Schema}
use Rattle.message_view.specs.Shaped.{IsInShape}
use Rattle.message_view.specs.Sound.{IsSound}
use Rattle.message_view.specs.Types.{name_at, types_of}
use Rattle.message_view.specs.Views.{view}
use Rattle.message_view.proofs.Recoded.{decoded_shaped}
use Rattle.text_view.specs.Schemas.{schema_of}
use Rattle.print_view.specs.Forms.{compact_form, form_of, own_form, HaveMessagePresence}
use Rattle.print_view.proofs.Pieces.{text_said}
use Rattle.print_view.proofs.Printer.{own_options}
use Rattle.print_view.proofs.Rounds.{IsExpandable, whole_said}
use Rattle.print_view.proofs.Untold.{told_alike, untold}

-- what a message of a type is printed as under options, in the model's words
abbrev pub tree_text : FormatOptions → Schema → Name → Message → Text
tree_text options w t v = text_of (form_of options) (printed (form_of options) w t v)

own_printed : (p skip as_declared expand : Bool) (d : MessageDescriptor) → (skip ≡ false → HaveMessagePresence d.pool.now) → IsSound d.pool.now → (m : DynamicMessage) → m.descriptor ≡ d → IsInShape m
    → (decoded : Name → Text → Option Message) → (expand ≡ true → IsExpandable d.pool.now decoded)
    → (z : Text) → IsMessageText (own_options p skip as_declared expand) m z → z ≡ tree_text (own_options p skip as_declared expand) (schema_of d.pool.now decoded) (name_at d.pool.now d.index) (view m)
own_printed p skip as_declared expand d told sound m type shape decoded expandable z (any, text) =
    let pool = d.pool.now in
    let options = own_options p skip as_declared expand in
    let said = whole_said p skip as_declared expand pool sound told decoded expandable 100 0 false any m z text (ap (λ (d : MessageDescriptor). d.pool.now) type) shape in
    said.2
    ∙ sym (text_said p said.0)
    ∙ ap (text_of (form_of options)) (sym said.1)
    ∙ ap (λ (d : MessageDescriptor). tree_text options (schema_of pool decoded) (name_at pool d.index) (view m)) type

pub fields_printed : (options : FormatOptions) (decoded : Name → Text → Option Message) (d : MessageDescriptor) → IsSound d.pool.now → (options.skip_default_fields ≡ false → HaveMessagePresence d.pool.now)
    → (options.expand_any ≡ true → IsExpandable d.pool.now decoded) → (m : DynamicMessage) → m.descriptor ≡ d → IsInShape m
    → (options.skip_unknown_fields ≡ false → IsPlain (types_of d.pool.now) (name_at d.pool.now d.index) (view m) × (options.expand_any ≡ true → HasOneForm 100 (schema_of d.pool.now decoded) (name_at d.pool.now d.index) (view m)))
    → (z : Text) → IsMessageText options m z → z ≡ tree_text options (schema_of d.pool.now decoded) (name_at d.pool.now d.index) (view m)
fields_printed options decoded d sound told expandable m type shape plain z text =
    own_printed options.pretty options.skip_default_fields options.in_index_order options.expand_any d told sound m type shape decoded expandable z (by options.skip_unknown_fields refl) where
      -- the text in which no unknown records are told
      by : (b : Bool) → options.skip_unknown_fields ≡ b → IsMessageText (untold options) m z
      by true is = subst (λ b. IsMessageText (record options { skip_unknown_fields = b }) m z) is text
      by false is = let its = plain is in told_alike options decoded d sound told expandable m type shape its.0 its.1 z text

-- the compact form of a decoded message
pub decoded_printed : (d : MessageDescriptor) → IsSound d.pool.now → (bytes : List ℕ) (m : DynamicMessage) → m.descriptor ≡ d → IsSpelled d bytes m
    → (decoded : Name → Text → Option Message) (z : Text) → IsMessageText compact_form m z → z ≡ compact (printed own_form (schema_of d.pool.now decoded) (name_at d.pool.now d.index) (view m))
decoded_printed d sound bytes m type spelled decoded =
    fields_printed compact_form decoded d sound (λ e. absurd (true≢false e)) (λ e. absurd (true≢false (sym e))) m type (decoded_shaped d bytes m type spelled) (λ e. absurd (true≢false e))
