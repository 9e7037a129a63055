-- What is printed of a message whose values suit their fields is read back as it.
use Rattle.std.proofs.Common.{◌≡◌, ◌≤◌, true, Option, sym, ap, ◌∙◌, subst}
use Rattle.std.proofs.lemmas.Bool.{not-true}
use Rattle.protox_lex.specs.Class.{Text}
use Rattle.protobuf_model.specs.Bytes.{bytes_of}
use Rattle.protobuf_model.specs.Types.{Name}
use Rattle.protobuf_model.specs.Values.{Message, nothing}
use Rattle.reflect_pool.specs.declared.message.MessageDescriptor.{MessageDescriptor}
use Rattle.reflect_message.specs.Bytes.{message_bytes}
use Rattle.reflect_message.specs.Names.{DynamicMessage}
use Rattle.reflect_format.specs.Filled.{Fills, Makes}
use Rattle.reflect_format.specs.Unfit.{CannotMake, Unfit}
use Rattle.reflect_print.specs.MessageTexts.{IsMessageText}
use Rattle.text_lines.specs.declared.options.FormatOptions.{FormatOptions}
use Rattle.text_model.specs.Forms.{Form}
use Rattle.text_model.specs.Schemas.{Schema}
use Rattle.text_model.specs.Texts.{Gives, IsText}
use Rattle.text_model.specs.Tokens.{open_braces}
use Rattle.text_model.specs.Tree.{Fields}
use Rattle.text_model.specs.Unset.{HaveReadDefaults}
use Rattle.text_model.proofs.Back.{printed_text_back}
use Rattle.text_model.proofs.Merging.{one_message}
use Rattle.message_view.specs.Types.{name_at, types_of}
use Rattle.message_view.specs.Views.{view}
use Rattle.message_view.proofs.Encoded.{shape_written}
use Rattle.text_view.specs.Schemas.{schema_of}
use Rattle.text_view.proofs.HaveNames.{have_identifiers, have_names}
use Rattle.text_view.proofs.Made.{made_given, none_given}
use Rattle.print_view.specs.Forms.{form_of}
use Rattle.print_view.specs.Readable.{HasNoUnknown, IsReadable, IsSuited, tree_of}
use Rattle.print_view.proofs.Presence.{have_presence}
use Rattle.print_view.proofs.Printed.{fields_printed}

module _ (options : FormatOptions) (decoded : Name → Text → Option Message) (d : MessageDescriptor) (its : IsReadable options decoded d) (m : DynamicMessage) (suited : IsSuited options decoded d m) where
  abbrev w : Schema
  w = schema_of d.pool.now decoded

  -- the form that the options are
  abbrev form : Form
  form = form_of options

  -- what it prints of fields that are not set is read so
  reads : form.defaults ≡ true → HaveReadDefaults w.types
  reads e = its.defaults (not-true options.skip_default_fields e)

  abbrev t : Name
  t = name_at d.pool.now d.index

  module _ (plain : HasNoUnknown d m) (shallow : open_braces (tree_of options decoded d m) ≤ 100) (z : Text) (text : IsMessageText options m z) where
    -- the text gives what is seen of the message
    gives : Gives w t z (view m)
    gives = subst (λ z. Gives w t z (view m)) (sym (fields_printed options decoded d its.sound (λ e. have_presence d.pool.now its.sound (its.defaults e)) its.anys m suited.type suited.shape (λ e. (plain, suited.forms)) z text))
        (printed_text_back form w (have_names d.pool.now its.sound its.names decoded) (have_identifiers d.pool.now its.sound its.names decoded) reads t (view m) suited.suits plain suited.forms shallow)

    -- so what it makes is written as the message is
    pub same_written : (fs : Fields) → IsText z fs → (n : DynamicMessage) → Makes d (Fills fs) n → message_bytes n ≡ message_bytes m
    same_written fs spells n makes =
        let made = made_given d its.sound decoded z fs spells n makes in
        made.1
        ∙ ap (bytes_of (types_of d.pool.now) t) (one_message w t nothing z (view n) (view m) made.0 gives)
        ∙ sym (shape_written d its.sound m suited.type 101 suited.shape)

    -- and it is not refused as one that the type does not take
    pub is_taken : ((fs : Fields) → IsText z fs → CannotMake d (Unfit fs)) → ⊥
    is_taken none = none_given d its.sound decoded z none (view m) gives
