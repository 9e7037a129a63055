-- Messages in which all that is of bytes is bytes, at whatever depth.
use Rattle.std.specs.Prelude.{◌≡◌, ◌⊎◌, ℕ}
use Rattle.protobuf_model.specs.Values.{Single, Content, single, message, list, dictionary, Contents, no_contents, more_contents, Entries, no_entries, more_entries, Held, content, records, Message}
use Rattle.text_model.specs.Plain.{AreBytes}

-- a single value stands in a content that it is, and in a message, a list or a map, there as a key
-- too, in whose contents it stands
abbrev mutual
  pub StandsIn : Single → Content → Type 0
  StandsIn v (single w) = v ≡ w
  StandsIn v (message m) = (n : ℕ) × StandsInHeld v (m n)
  StandsIn v (list cs) = StandsInContents v cs
  StandsIn v (dictionary es) = StandsInEntries v es

  pub StandsInContents : Single → Contents → Type 0
  StandsInContents v no_contents = ⊥
  StandsInContents v (more_contents c cs) = StandsIn v c ⊎ StandsInContents v cs

  pub StandsInEntries : Single → Entries → Type 0
  StandsInEntries v no_entries = ⊥
  StandsInEntries v (more_entries key c es) = (v ≡ key) ⊎ (StandsIn v c ⊎ StandsInEntries v es)

  pub StandsInHeld : Single → Held → Type 0
  StandsInHeld v (records ps) = ⊥
  StandsInHeld v (content c) = StandsIn v c

-- each string of bytes that stands in the message is of bytes
abbrev pub HoldsBytes : Message → Type 0
HoldsBytes m = (v : Single) → StandsIn v (message m) → AreBytes v
