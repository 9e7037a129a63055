-- A message that suits a type which knows all of it suits each newer type, which writes it alike.
use Rattle.std.proofs.Common.{◌≡◌, ℕ, zero, suc, List, sym, ◌∙◌, Contains}
use Rattle.protobuf_model.specs.Values.{Message}
use Rattle.protobuf_model.specs.Types.{Name, Types}
use Rattle.protobuf_model.specs.Typed.{IsTypedBy, IsTyped}
use Rattle.protobuf_model.specs.Coded.{SuitsType}
use Rattle.protobuf_model.specs.Bytes.{bytes_of}
use Rattle.protobuf_model.specs.Older.{AreOlder, IsOlder}
use Rattle.known_messages.specs.KnownMessages.{KnowsAll, AreFormOf}
use Rattle.known_messages.proofs.Contents.{Grows, IsKept, held_kept}
use Rattle.known_messages.proofs.Written.{known_alike}

module _ (old new : Types) (Pair : Name → Name → Type 0) (older : AreOlder old new Pair) where
  one_level : (before after : Name → Message → Type 0) → Grows old new Pair before after → (levels : ℕ) (t u : Name) → Pair t u → (m : Message)
      → IsTypedBy before levels (old t) m → KnowsAll old t m
      → IsTypedBy after levels (new u) m × KnowsAll new u m
  one_level before after grows levels t u pair m h a =
      let held : (n : ℕ) → IsKept old new Pair before after grows levels (new u n) (m n) = λ n. held_kept old new Pair before after grows levels (old t n) (new u n) (m n) (older.fields t u pair n) (h.contents n) (a n) in
      (record { numbers = h.numbers; contents = λ n. (held n).0; exclusive = λ n q e. h.exclusive n q (older.oneofs t u pair n q ∙ e) }, λ n. (held n).1)

  grown : (levels : ℕ) → Grows old new Pair (IsTyped levels old) (IsTyped levels new)
  grown zero t u pair m h a = one_level (λ u m. ⊥) (λ u m. ⊥) (λ t u p m h b. absurd h) zero t u pair m h a
  grown (suc levels) t u pair m h a = one_level (IsTyped levels old) (IsTyped levels new) (grown levels) (suc levels) t u pair m h a

pub newer_write_alike : (old new : Types) (t u : Name) (m : Message) → IsOlder old t new u → SuitsType old t m → KnowsAll old t m
    → SuitsType new u m × KnowsAll new u m × (bytes_of new u m ≡ bytes_of old t m)
newer_write_alike old new t u m older h a =
    let Pair : Name → Name → Type 0 = λ t u. Contains older.0 (t, u) in
    let grows = grown old new Pair older.1 100 t u older.2 m h a in
    (grows.0, grows.1, known_alike old new Pair older.1 t u older.2 m a)

pub forms_stay : (old new : Types) (t u : Name) (m : Message) (bytes : List ℕ) → IsOlder old t new u → AreFormOf old t m bytes → AreFormOf new u m bytes
forms_stay old new t u m bytes older f =
    let r = newer_write_alike old new t u m older f.suits f.known in
    record { suits = r.0; known = r.1; written = f.written ∙ sym r.2 }
