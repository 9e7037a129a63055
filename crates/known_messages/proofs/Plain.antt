-- Of what is plain to texts its type knows all.
use Rattle.std.proofs.Common.{Option, Some, None}
use Rattle.protobuf_model.specs.Values.{Content, single, message, list, dictionary, Contents, no_contents, more_contents, Entries, no_entries, more_entries, Held, content, records, Message}
use Rattle.protobuf_model.specs.Types.{Name, Kind, Field, Types}
use Rattle.protobuf_model.specs.Bytes.{type_of}
use Rattle.text_model.specs.Plain.{IsPlainContent, ArePlainContents, ArePlainEntries, IsPlainHeld, IsPlain}
use Rattle.known_messages.specs.KnownMessages.{KnowsContent, KnowsContents, KnowsEntries, KnowsHeld, KnowsAll}

mutual
  content_known : (types : Types) (k : Kind) (c : Content) → IsPlainContent types k c → KnowsContent types k c
  content_known types k (single v) h = tt
  content_known types k (message m) h = λ n. held_known types (types (type_of k) n) (m n) (h n)
  content_known types k (list cs) h = contents_known types k cs h
  content_known types k (dictionary es) h = entries_known types k es h

  contents_known : (types : Types) (k : Kind) (cs : Contents) → ArePlainContents types k cs → KnowsContents types k cs
  contents_known types k no_contents h = tt
  contents_known types k (more_contents c cs) h = (content_known types k c h.0, contents_known types k cs h.1)

  entries_known : (types : Types) (k : Kind) (es : Entries) → ArePlainEntries types k es → KnowsEntries types k es
  entries_known types k no_entries h = tt
  entries_known types k (more_entries key c es) h = (content_known types k c h.1, entries_known types k es h.2)

  held_known : (types : Types) (o : Option Field) (h : Held) → IsPlainHeld types o h → KnowsHeld types o h
  held_known types o (records ps) h = h
  held_known types None (content c) h = absurd h
  held_known types (Some f) (content c) h = content_known types f.part.kind c h

pub plain_known : (types : Types) (t : Name) (m : Message) → IsPlain types t m → KnowsAll types t m
plain_known types t m h n = held_known types (types t n) (m n) (h n)
