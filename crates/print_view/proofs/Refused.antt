-- A text in which an unknown record is told is no text of the language; so of a message of which a text is printed no record is kept, at whatever depth.
use Rattle.std.proofs.Common.{◌≡◌, ◌⊎◌, inl, inr, Bool, true, false, Option, sym, ap, subst}
use Rattle.std.proofs.lemmas.Bool.{not-true}
use Rattle.protox_lex.specs.Class.{Text}
use Rattle.reflect_pool.specs.declared.message.MessageDescriptor.{MessageDescriptor}
use Rattle.reflect_message.specs.Names.{DynamicMessage}
use Rattle.text_lines.specs.declared.options.FormatOptions.{FormatOptions}
use Rattle.reflect_print.specs.MessageTexts.{IsMessageText}
use Rattle.protobuf_model.specs.Coded.{SuitsType}
use Rattle.protobuf_model.specs.Types.{Name}
use Rattle.protobuf_model.specs.Values.{Message}
use Rattle.text_model.specs.Expansions.{HasOneForm}
use Rattle.text_model.specs.Plain.{IsPlain}
use Rattle.text_model.specs.Printed.{printed}
use Rattle.text_model.specs.Schemas.{Schema}
use Rattle.text_model.specs.Texts.{IsText}
use Rattle.text_model.specs.Tree.{Fields}
use Rattle.text_model.specs.Unset.{HaveReadDefaults}
use Rattle.text_model.proofs.InBytes.{IsInBytes}
use Rattle.text_model.proofs.Shown.{tree_shown}
use Rattle.text_model.proofs.Written.{AreShown}
use Rattle.message_view.specs.Shaped.{IsInShape}
use Rattle.message_view.specs.Sound.{IsSound}
use Rattle.message_view.specs.Types.{name_at, types_of}
use Rattle.message_view.specs.Views.{view}
use Rattle.text_view.specs.Schemas.{schema_of}
use Rattle.text_view.specs.SourceNames.{HasSourceNames}
use Rattle.text_view.proofs.HaveNames.{have_identifiers}
use Rattle.print_view.specs.Expansions.{DecodesIn, HasUsualAny}
use Rattle.print_view.specs.Forms.{form_of}
use Rattle.print_view.specs.Readable.{HasNoUnknown, IsReadable, IsSuited}
use Rattle.print_view.proofs.Contents.{Forms, have_forms}
use Rattle.print_view.proofs.Presence.{have_presence}
use Rattle.print_view.proofs.Printer.{own_options, telling_options}
use Rattle.print_view.proofs.StandsIn.{bytes_inside}
use Rattle.print_view.proofs.ToldParts.{carried}
use Rattle.print_view.proofs.ToldRounds.{whole_told}
use Rattle.print_view.proofs.ToldTokens.{TellsRecord, no_text}
use Rattle.print_view.proofs.Untold.{untold}

module _ (p skip as_declared expand : Bool) (decoded : Name → Text → Option Message) (d : MessageDescriptor) (sound : IsSound d.pool.now) (named : HasSourceNames d.pool.now) (told : skip ≡ false → HaveReadDefaults (types_of d.pool.now))
    (expandable : expand ≡ true → DecodesIn d.pool.now decoded × HasUsualAny d.pool.now) (m : DynamicMessage) (type : m.descriptor ≡ d) (shape : IsInShape m)
    (suits : SuitsType (types_of d.pool.now) (name_at d.pool.now d.index) (view m)) (in_bytes : IsInBytes (view m)) where
  abbrev own : FormatOptions
  own = own_options p skip as_declared expand

  abbrev w : Schema
  w = schema_of d.pool.now decoded

  module _ (forms : expand ≡ true → HasOneForm 100 w (name_at d.pool.now d.index) (view m)) where
    -- all that is printed of the message without its records can be told in a text
    shown : AreShown p (printed (form_of own) w (name_at d.pool.now d.index) (view m))
    shown = tree_shown (form_of own) w (have_identifiers d.pool.now sound named decoded) (λ e. told (not-true skip e)) (name_at d.pool.now d.index) (view m) suits in_bytes forms

    its_forms : Forms w expand 100 101 (name_at d.pool.now m.descriptor.index) (view m)
    its_forms = subst (λ (e : MessageDescriptor). Forms w expand 100 101 (name_at d.pool.now e.index) (view m)) (sym type) (have_forms w expand 100 (name_at d.pool.now d.index) (view m) forms)

    -- the text of the message without unknown records, of which it then keeps none
    abbrev TellsNone : Text → Type 0
    TellsNone z = IsMessageText own m z × IsPlain (types_of d.pool.now) (name_at d.pool.now d.index) (view m)

    told_or_not : (z : Text) → IsMessageText (telling_options p skip as_declared expand) m z → TellsRecord z ⊎ TellsNone z
    told_or_not z (any, text) =
        carried
        (whole_told p skip as_declared expand d.pool.now sound (λ e. have_presence d.pool.now sound (told e)) decoded expandable 100 0 false any m z text (ap (λ (d : MessageDescriptor). d.pool.now) type) shape
        (subst (λ (e : MessageDescriptor). AreShown p (printed (form_of own) w (name_at d.pool.now e.index) (view m))) (sym type) shown))
        (λ t. t) (λ o. ((any, o.0), subst (λ (e : MessageDescriptor). IsPlain (types_of d.pool.now) (name_at d.pool.now e.index) (view m)) type (o.1 in_bytes its_forms)))

    none_told : (z : Text) → IsMessageText (telling_options p skip as_declared expand) m z → (fs : Fields) → IsText z fs → TellsNone z
    none_told z text fs is = by (told_or_not z text) where
      by : TellsRecord z ⊎ TellsNone z → TellsNone z
      by (inl t) = absurd (no_text z fs t is)
      by (inr o) = o

pub told_refused : (options : FormatOptions) → options.skip_unknown_fields ≡ false → (decoded : Name → Text → Option Message) (d : MessageDescriptor) → IsReadable options decoded d → (m : DynamicMessage) → IsSuited options decoded d m
    → (z : Text) → IsMessageText options m z → (fs : Fields) → IsText z fs → IsMessageText (untold options) m z × HasNoUnknown d m
told_refused options tells decoded d its m suited z text fs is =
    none_told options.pretty options.skip_default_fields options.in_index_order options.expand_any decoded d its.sound its.names its.defaults its.anys m suited.type suited.shape suited.suits (bytes_inside (view m) suited.bytes) suited.forms z
    (subst (λ b. IsMessageText (record options { skip_unknown_fields = b }) m z) tells text) fs is
