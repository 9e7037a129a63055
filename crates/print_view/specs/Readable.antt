-- Types and messages of which what is printed is read back.
use Rattle.std.specs.Prelude.{◌≡◌, ℕ, false, true, List, Option}
use Rattle.protox_lex.specs.Class.{Text}
use Rattle.protobuf_model.specs.Coded.{SuitsType}
use Rattle.protobuf_model.specs.Types.{Name}
use Rattle.protobuf_model.specs.Values.{Message}
use Rattle.reflect_pool.specs.declared.message.MessageDescriptor.{MessageDescriptor}
use Rattle.reflect_wire.specs.Written.{AreBytes}
use Rattle.reflect_decode.specs.Spelled.{IsSpelled}
use Rattle.reflect_message.specs.Names.{DynamicMessage}
use Rattle.text_lines.specs.declared.options.FormatOptions.{FormatOptions}
use Rattle.text_model.specs.Expansions.{HasOneForm}
use Rattle.text_model.specs.Plain.{IsPlain}
use Rattle.text_model.specs.Printed.{printed}
use Rattle.text_model.specs.Tree.{Fields}
use Rattle.text_model.specs.Unset.{HaveReadDefaults}
use Rattle.message_view.specs.Shaped.{IsInShape}
use Rattle.message_view.specs.Sound.{IsSound}
use Rattle.message_view.specs.Types.{name_at, types_of}
use Rattle.message_view.specs.Views.{view}
use Rattle.text_view.specs.Schemas.{schema_of}
use Rattle.text_view.specs.SourceNames.{HasSourceNames}
use Rattle.print_view.specs.Expansions.{DecodesIn, HasUsualAny}
use Rattle.print_view.specs.Forms.{form_of}
use Rattle.print_view.specs.InBytes.{HoldsBytes}

-- the tree that the model prints of a message in the form that the options are
abbrev pub tree_of : FormatOptions → (Name → Text → Option Message) → MessageDescriptor
    → DynamicMessage → Fields
tree_of options decoded d m =
    printed (form_of options) (schema_of d.pool.now decoded) (name_at d.pool.now d.index) (view m)

-- all that the message holds is printed and read back: no unknown record is in it, nor in those in
-- it
abbrev pub HasNoUnknown : MessageDescriptor → DynamicMessage → Type 0
HasNoUnknown d m = IsPlain (types_of d.pool.now) (name_at d.pool.now d.index) (view m)

-- where Anys are expanded, each in it holds the one form of a message and nothing else
abbrev pub HasOneForms : FormatOptions → (Name → Text → Option Message) → MessageDescriptor
    → DynamicMessage → Type 0
HasOneForms options decoded d m =
    options.expand_any ≡ true
    → HasOneForm 100 (schema_of d.pool.now decoded) (name_at d.pool.now d.index) (view m)

-- a type of a sound pool, whose names are spelled as in sources; where defaults are printed they
-- are read as not set; where Anys are expanded their bytes are decoded as the printer does, and
-- their fields have no defaults
pub record IsReadable (options : FormatOptions) (decoded : Name → Text → Option Message)
    (d : MessageDescriptor) : Type 0 where
  pub sound : IsSound d.pool.now
  pub names : HasSourceNames d.pool.now
  pub defaults : options.skip_default_fields ≡ false → HaveReadDefaults (types_of d.pool.now)
  pub anys : options.expand_any ≡ true → DecodesIn d.pool.now decoded × HasUsualAny d.pool.now

-- a message of the type, however it was made, whose values suit their fields and stand in order, of
-- 100 levels at most, with the one form in each Any that is expanded
pub record IsSuited (options : FormatOptions) (decoded : Name → Text → Option Message)
    (d : MessageDescriptor) (m : DynamicMessage) : Type 0 where
  pub type : m.descriptor ≡ d
  pub shape : IsInShape m
  pub suits : SuitsType (types_of d.pool.now) (name_at d.pool.now d.index) (view m)
  pub bytes : HoldsBytes (view m)
  pub forms : HasOneForms options decoded d m

-- a message of the type that bytes spell, with the one form in each Any that is expanded
pub record IsDecoded (options : FormatOptions) (decoded : Name → Text → Option Message)
    (d : MessageDescriptor) (m : DynamicMessage) : Type 0 where
  pub type : m.descriptor ≡ d
  pub input : List ℕ
  pub bytes : AreBytes input
  pub spelled : IsSpelled d input m
  pub forms : HasOneForms options decoded d m
