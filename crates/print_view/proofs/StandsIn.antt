-- All that is of bytes in a message is bytes exactly where each single value that stands in it is.
use Rattle.std.proofs.Common.{inl, inr, refl, sym, subst}
use Rattle.protobuf_model.specs.Values.{Single, Content, single, message, list, dictionary, Contents, no_contents, more_contents, Entries, no_entries, more_entries, Held, content, records, Message}
use Rattle.text_model.specs.Plain.{AreBytes}
use Rattle.text_model.proofs.InBytes.{HasBytes, HaveBytes, EntriesHaveBytes, IsHeldInBytes, IsInBytes}
use Rattle.print_view.specs.InBytes.{StandsIn, StandsInContents, StandsInEntries, StandsInHeld, HoldsBytes}

mutual
  content_small : (c : Content) → ((v : Single) → StandsIn v c → AreBytes v) → HasBytes c
  content_small (single w) h = h w refl
  content_small (message m) h = λ n. held_small (m n) (λ v s. h v (n, s))
  content_small (list cs) h = contents_small cs h
  content_small (dictionary es) h = entries_small es h

  contents_small : (cs : Contents) → ((v : Single) → StandsInContents v cs → AreBytes v) → HaveBytes cs
  contents_small no_contents h = tt
  contents_small (more_contents c cs) h = (content_small c (λ v s. h v (inl s)), contents_small cs (λ v s. h v (inr s)))

  entries_small : (es : Entries) → ((v : Single) → StandsInEntries v es → AreBytes v) → EntriesHaveBytes es
  entries_small no_entries h = tt
  entries_small (more_entries key c es) h = (h key (inl refl), content_small c (λ v s. h v (inr (inl s))), entries_small es (λ v s. h v (inr (inr s))))

  held_small : (x : Held) → ((v : Single) → StandsInHeld v x → AreBytes v) → IsHeldInBytes x
  held_small (records ps) h = tt
  held_small (content c) h = content_small c h

pub bytes_inside : (m : Message) → HoldsBytes m → IsInBytes m
bytes_inside m h = content_small (message m) h

mutual
  stands_small : (v : Single) (c : Content) → HasBytes c → StandsIn v c → AreBytes v
  stands_small v (single w) h s = subst AreBytes (sym s) h
  stands_small v (message m) h s = stands_small_held v (m s.0) (h s.0) s.1
  stands_small v (list cs) h s = stands_small_among v cs h s
  stands_small v (dictionary es) h s = stands_small_entries v es h s

  stands_small_among : (v : Single) (cs : Contents) → HaveBytes cs → StandsInContents v cs → AreBytes v
  stands_small_among v no_contents h s = absurd s
  stands_small_among v (more_contents c cs) h (inl s) = stands_small v c h.0 s
  stands_small_among v (more_contents c cs) h (inr s) = stands_small_among v cs h.1 s

  stands_small_entries : (v : Single) (es : Entries) → EntriesHaveBytes es → StandsInEntries v es → AreBytes v
  stands_small_entries v no_entries h s = absurd s
  stands_small_entries v (more_entries key c es) h (inl s) = subst AreBytes (sym s) h.0
  stands_small_entries v (more_entries key c es) h (inr (inl s)) = stands_small v c h.1 s
  stands_small_entries v (more_entries key c es) h (inr (inr s)) = stands_small_entries v es h.2 s

  stands_small_held : (v : Single) (x : Held) → IsHeldInBytes x → StandsInHeld v x → AreBytes v
  stands_small_held v (records ps) h s = absurd s
  stands_small_held v (content c) h s = stands_small v c h s

pub inside_bytes : (m : Message) → IsInBytes m → HoldsBytes m
inside_bytes m h = λ v s. stands_small v (message m) h s
