-- Messages whose Anys are given back where they are printed as the messages that they hold.
use Rattle.std.specs.Prelude.{◌≡◌, ℕ, zero, suc, ◌<◌, ◌^◌, true, length, Some}
use Rattle.protox_lex.specs.Class.{Text}
use Rattle.protobuf_model.specs.Bytes.{bytes_of}
use Rattle.protobuf_model.specs.Coded.{SuitsType}
use Rattle.protobuf_model.specs.Typed.{IsTypedBy}
use Rattle.protobuf_model.specs.Types.{Name, Types}
use Rattle.protobuf_model.specs.Values.{Message, nothing}
use Rattle.text_model.specs.Identifiers.{is_full_name}
use Rattle.text_model.specs.Plain.{IsPlain}
use Rattle.text_model.specs.Printed.{bytes_in, last_slash, parts, text_in}
use Rattle.text_model.specs.Schemas.{Schema, shape_of}
use Rattle.text_model.specs.Value.{hold}

-- the message is an Any whose URL names a type, and whose bytes mean a message of it
pub record HoldsMessage (w : Schema) (t : Name) (m : Message) (url : Text × Text) (u : Name)
    (held : Message) : Type 0 where
  pub any : w.is_any t ≡ true
  pub slash : last_slash (text_in (m 1)) ≡ Some url
  pub known : w.message url.1 ≡ Some u
  pub bytes : Text
  pub there : bytes_in (m 2) ≡ Some bytes
  pub decoded : w.decoded u bytes ≡ Some held

-- a text can spell the URL, the bytes are those that are written of the message, which is plain, no
-- more than a length can say, and the Any has nothing else
pub record HoldsOneForm (w : Schema) (t : Name) (m : Message) (url : Text × Text) (u : Name)
    (held : Message) : Type 0 where
  pub domain : is_full_name (parts url.0) ≡ true
  pub name : is_full_name (parts url.1) ≡ true
  pub plain : IsPlain w.types u held
  pub small : length (bytes_of w.types u held) < 2 ^ 64
  pub alone : hold (shape_of w t) (text_in (m 1)) (bytes_of w.types u held) nothing ≡ Some m

-- the message and those in it, of at most so many levels, suit their types and have the property
abbrev pub EachSuits : (Name → Message → Type 0) → ℕ → Types → Name → Message → Type 0
EachSuits P zero types t m = P t m × IsTypedBy (λ u m. ⊥) zero (types t) m
EachSuits P (suc levels) types t m =
    P t m × IsTypedBy (EachSuits P levels types) (suc levels) (types t) m

-- each Any among the message and those in it, at whatever depth, holds the one form of what it
-- holds, and so do the Anys in that, with at most so many in one another
abbrev pub HasOneForm : ℕ → Schema → Name → Message → Type 0
HasOneForm zero w t m = SuitsType w.types t m
HasOneForm (suc more) w t m =
    EachSuits (λ u n. (url : Text × Text) (v : Name) (held : Message)
    → HoldsMessage w u n url v held → HoldsOneForm w u n url v held × HasOneForm more w v held)
    100 w.types t m
