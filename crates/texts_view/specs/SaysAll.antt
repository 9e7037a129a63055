-- When one schema says to texts all that an older one does, of the types that the older declares.
use Rattle.std.specs.Prelude.{◌≡◌, ℕ, Bool, true, None, Some}
use Rattle.protox_lex.specs.Class.{Text}
use Rattle.protobuf_model.specs.Types.{Name, Frame, nested, Key, keyed, Field, oneof_of}
use Rattle.text_model.specs.Schemas.{Schema, HoldsOne}

pub record SaysAll (old new : Schema) (declared : Name → Bool) : Type 0 where
  -- a field stays as it is, and the messages in it are of declared types
  pub fields : (t : Name) (n : ℕ) (f : Field) → declared t ≡ true
      → old.types t n ≡ Some f → new.types t n ≡ Some f
  pub inside : (t : Name) (n : ℕ) (f : Field) (frame : Frame) (u : Name) → declared t ≡ true
      → old.types t n ≡ Some f → f.part.kind ≡ nested frame u → declared u ≡ true
  -- a number without a field gets none that is in a oneof
  pub apart : (t : Name) (n : ℕ) → declared t ≡ true
      → old.types t n ≡ None → oneof_of (new.types t n) ≡ None
  -- the names of fields and of extensions find what they found
  pub named : (t : Name) (x : Text) (n : ℕ) → declared t ≡ true
      → (old.names t).field x ≡ Some n → (new.names t).field x ≡ Some n
  pub extended : (t : Name) (x : Text) (n : ℕ) → declared t ≡ true
      → (old.names t).extension x ≡ Some n → (new.names t).extension x ≡ Some n
  -- the values of a field's enum have the same names
  pub enums : (t : Name) (n : ℕ) (f : Field) (x : Text) → declared t ≡ true
      → old.types t n ≡ Some f
      → (new.names t).enum_number n x ≡ (old.names t).enum_number n x
  -- the entries of a map are of the same type, a declared one
  pub entries : (t : Name) (n : ℕ) (f : Field) (key : Key) → declared t ≡ true
      → old.types t n ≡ Some f → f.label ≡ keyed key
      → ((new.names t).entry n ≡ (old.names t).entry n)
      × (declared ((old.names t).entry n) ≡ true)
  -- the full name of a type finds the same type, a declared one
  pub messages : (x : Text) (u : Name) → old.message x ≡ Some u
      → (new.message x ≡ Some u) × (declared u ≡ true)
  -- a type that keeps messages of any type still does
  pub any : (t : Name) → declared t ≡ true → old.is_any t ≡ true → new.is_any t ≡ true

-- the type of a map's entries has the map's values under 2, as `HasSoundTypes` asks too
abbrev pub HaveEntryValues : Schema → Type 0
HaveEntryValues w =
    (t : Name) (n : ℕ) (f : Field) (key : Key) → w.types t n ≡ Some f → f.label ≡ keyed key
    → HoldsOne f.part (w.types ((w.names t).entry n) 2)
