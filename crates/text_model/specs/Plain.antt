-- Messages of which all that they hold is printed and read back.
use Rattle.std.specs.Prelude.{◌≡◌, ℕ, ◌<◌, [], Option, None, Some}
use Rattle.std.specs.List.{AllByRecursion}
use Rattle.protobuf_model.specs.Values.{Single, blob, Content, single, message, list, dictionary, Contents, no_contents, more_contents, Entries, no_entries, more_entries, Held, content, records, Message}
use Rattle.protobuf_model.specs.Types.{Name, Kind, Field, Types}
use Rattle.protobuf_model.specs.Bytes.{type_of}

-- a byte is below 256
abbrev pub AreBytes : Single → Type 0
AreBytes (blob b) = AllByRecursion (λ x. x < 256) b
AreBytes _ = Unit {0}

abbrev mutual
  pub IsPlainContent : Types → Kind → Content → Type 0
  IsPlainContent types k (single v) = AreBytes v
  IsPlainContent types k (message m) = (n : ℕ) → IsPlainHeld types (types (type_of k) n) (m n)
  IsPlainContent types k (list cs) = ArePlainContents types k cs
  IsPlainContent types k (dictionary es) = ArePlainEntries types k es

  pub ArePlainContents : Types → Kind → Contents → Type 0
  ArePlainContents types k no_contents = Unit {0}
  ArePlainContents types k (more_contents c cs) =
      IsPlainContent types k c × ArePlainContents types k cs

  pub ArePlainEntries : Types → Kind → Entries → Type 0
  ArePlainEntries types k no_entries = Unit {0}
  ArePlainEntries types k (more_entries key c es) =
      AreBytes key × IsPlainContent types k c × ArePlainEntries types k es

  -- a number that no field has keeps no record
  pub IsPlainHeld : Types → Option Field → Held → Type 0
  IsPlainHeld types o (records ps) = ps ≡ []
  IsPlainHeld types None (content c) = ⊥
  IsPlainHeld types (Some f) (content c) = IsPlainContent types f.part.kind c

abbrev pub IsPlain : Types → Name → Message → Type 0
IsPlain types t m = (n : ℕ) → IsPlainHeld types (types t n) (m n)
