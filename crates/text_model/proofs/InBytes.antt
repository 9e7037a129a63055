-- Messages that hold bytes where they hold any, as plain ones do.
use Rattle.std.proofs.Common.{ℕ, Option, None, Some}
use Rattle.protobuf_model.specs.Values.{Content, single, message, list, dictionary, Contents, no_contents, more_contents, Entries, no_entries, more_entries, Held, content, records, Message}
use Rattle.protobuf_model.specs.Types.{Name, Kind, Field, Types}
use Rattle.protobuf_model.specs.Bytes.{type_of}
use Rattle.text_model.specs.Plain.{AreBytes, IsPlainContent, ArePlainContents, ArePlainEntries, IsPlainHeld, IsPlain}

-- all that is of bytes is bytes, at whatever depth, whatever records are kept
abbrev mutual
  pub HasBytes : Content → Type 0
  HasBytes (single v) = AreBytes v
  HasBytes (message m) = (n : ℕ) → IsHeldInBytes (m n)
  HasBytes (list cs) = HaveBytes cs
  HasBytes (dictionary es) = EntriesHaveBytes es

  pub HaveBytes : Contents → Type 0
  HaveBytes no_contents = Unit {0}
  HaveBytes (more_contents c cs) = HasBytes c × HaveBytes cs

  pub EntriesHaveBytes : Entries → Type 0
  EntriesHaveBytes no_entries = Unit {0}
  EntriesHaveBytes (more_entries key c es) = AreBytes key × HasBytes c × EntriesHaveBytes es

  pub IsHeldInBytes : Held → Type 0
  IsHeldInBytes (records ps) = Unit {0}
  IsHeldInBytes (content c) = HasBytes c

abbrev pub IsInBytes : Message → Type 0
IsInBytes m = (n : ℕ) → IsHeldInBytes (m n)

module _ (types : Types) where
  mutual
    has_bytes : (k : Kind) (c : Content) → IsPlainContent types k c → HasBytes c
    has_bytes k (single v) h = h
    has_bytes k (message m) h = λ n. held_in_bytes (types (type_of k) n) (m n) (h n)
    has_bytes k (list cs) h = have_bytes k cs h
    has_bytes k (dictionary es) h = entries_have_bytes k es h

    have_bytes : (k : Kind) (cs : Contents) → ArePlainContents types k cs → HaveBytes cs
    have_bytes k no_contents h = tt
    have_bytes k (more_contents c cs) h = (has_bytes k c h.0, have_bytes k cs h.1)

    entries_have_bytes : (k : Kind) (es : Entries) → ArePlainEntries types k es → EntriesHaveBytes es
    entries_have_bytes k no_entries h = tt
    entries_have_bytes k (more_entries key c es) h = (h.0, has_bytes k c h.1, entries_have_bytes k es h.2)

    held_in_bytes : (o : Option Field) (h : Held) → IsPlainHeld types o h → IsHeldInBytes h
    held_in_bytes o (records ps) h = tt
    held_in_bytes None (content c) h = absurd h
    held_in_bytes (Some f) (content c) h = has_bytes f.part.kind c h

  pub plain_in_bytes : (t : Name) (m : Message) → IsPlain types t m → IsInBytes m
  plain_in_bytes t m h = λ n. held_in_bytes (types t n) (m n) (h n)
