-- Schemas that say the same to texts encode and print alike.
use Rattle.std.proofs.Common.{◌≡◌, ◌∙◌, ℕ, List, Option, None, ap, sym, subst}
use Rattle.protobuf_model.specs.Bytes.{bytes_of}
use Rattle.protobuf_model.specs.Coded.{Mean}
use Rattle.protobuf_model.specs.Types.{Name}
use Rattle.protobuf_model.specs.Values.{Message, nothing}
use Rattle.protobuf_model.proofs.Bytewise.{one_meaning}
use Rattle.reflect_pool.specs.Dots.{without_dot}
use Rattle.reflect_tables.specs.Types.{PoolType}
use Rattle.reflect_wire.specs.Written.{AreBytes}
use Rattle.text_error.specs.declared.error.ParseErrorKind.{ParseErrorKind}
use Rattle.text_model.specs.Printed.{printed}
use Rattle.text_model.specs.Rendered.{compact}
use Rattle.text_model.specs.Schemas.{Schema}
use Rattle.text_model.specs.Texts.{Gives}
use Rattle.text_model.proofs.Merging.{one_message}
use Rattle.message_view.specs.Sound.{IsSound}
use Rattle.text_view.specs.Schemas.{schema_of}
use Rattle.print_view.specs.Forms.{own_form}
use Rattle.schema_core.specs.Payloads.{Decoded, Encoded}
use Rattle.schema_core.specs.Refusals.{IsNoText}
use Rattle.schema_laws.proofs.Encoding.{encoded, refused, shown}

-- what an Any holds is not read in what follows
abbrev pub no_message : Name → List ℕ → Option Message
no_message t bytes = None

module _ (p q : PoolType) (sound : IsSound p) (also : IsSound q)
    (same : schema_of p no_message ≡ schema_of q no_message) where
  abbrev w : Schema
  w = schema_of q no_message

  module _ (name : List ℕ) where
    abbrev t : Name
    t = without_dot name

    -- the message that a text gives, and its bytes
    abbrev IsGiven : Schema → (text out : List ℕ) → Type 0
    IsGiven v text out = (m : Message) × Gives v t text m × (out ≡ bytes_of v.types t m)

    given : (text out : List ℕ) → Encoded p name text out → IsGiven w text out
    given text out first =
        subst (λ v. IsGiven v text out) same (encoded p sound no_message name text out first)

    pub encoded_alike : (text a b : List ℕ) → Encoded p name text a → Encoded q name text b → a ≡ b
    encoded_alike text a b first second =
        let x = given text a first in
        let y = encoded q also no_message name text b second in
        x.2
        ∙ ap (bytes_of w.types t) (one_message w t nothing text x.0 y.0 x.1 y.1)
        ∙ sym y.2

    pub taken_alike : (text out : List ℕ) (kind : ParseErrorKind)
        → Encoded p name text out → IsNoText q name text kind → ⊥
    taken_alike text out kind first none =
        let x = given text out first in
        refused q also no_message name text kind none x.0 x.1

    -- the message that bytes mean, and its text
    abbrev IsShown : Schema → (bytes text : List ℕ) → Type 0
    IsShown v bytes text = (m : Message) × Mean v.types t bytes m
        × (text ≡ compact (printed own_form v t m))

    pub decoded_alike : (bytes a b : List ℕ) → AreBytes bytes → Decoded p name bytes a
        → Decoded q name bytes b → a ≡ b
    decoded_alike bytes a b small first second =
        let x = subst (λ v. IsShown v bytes a) same (shown p sound no_message name bytes a small first) in
        let y = shown q also no_message name bytes b small second in
        x.2
        ∙ ap (λ m. compact (printed own_form w t m)) (one_meaning w.types t nothing bytes x.0 y.0 x.1 y.1)
        ∙ sym y.2
