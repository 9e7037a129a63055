-- Messages that take in records, and others behind them.
use Rattle.std.proofs.Common.{◌≡◌, Bool, List, ◌++◌, Option, None, Some, ap, ◌∙◌, subst}
use Rattle.reflect_tables.specs.Types.{PoolType, KindType}
use Rattle.reflect_pool.specs.declared.message.MessageDescriptor.{MessageDescriptor}
use Rattle.reflect_wire.specs.Records.{Payload}
use Rattle.reflect_message.specs.Contents.{Content, content_of}
use Rattle.reflect_decode.specs.Messages.{Taken, Takes, MergesMessage}
use Rattle.reflect_message.specs.Messages.{message_held, IsStart}
use Rattle.reflect_message.specs.Names.{DynamicMessage, Value}

-- payloads behind payloads leave what all of them do
abbrev pub JoinsOn : Taken → Type 0
JoinsOn inner = (m : MessageDescriptor) (a b c : Content) (ps qs : List Payload) → inner m a b ps → inner m b c qs → inner m a c (ps ++ qs)

abbrev pub Joins : Takes → Type 0
Joins inner = (grouped : Bool) → JoinsOn (inner.message grouped)

module _ (inner : Taken) (pool : PoolType) (t : KindType) where
  -- where a message was left, the one that stands there is it
  still_there : (held : Option Value) (m n : DynamicMessage) → message_held held ≡ Some m → IsStart pool t held n → n ≡ m
  still_there None m n is start = absurd (cc (is))
  still_there (Some v) m n is start = cc (is, start)

  pub merges_both : JoinsOn inner → (a b c : Option Value) (ps qs : List Payload) → MergesMessage inner pool t a b ps → MergesMessage inner pool t b c qs → MergesMessage inner pool t a c (ps ++ qs)
  merges_both joins a b c ps qs h k =
      let same : k.0 ≡ h.1 = still_there b h.1 k.0 h.3 k.2 in
      let type : k.0.descriptor ≡ h.0.descriptor = ap (λ (m : DynamicMessage). m.descriptor) same ∙ h.4 in
      let behind = subst (λ d. inner d (content_of k.0) (content_of k.1) qs) type k.5 in
      let there = subst (λ m. inner h.0.descriptor (content_of m) (content_of k.1) qs) same behind in
      (h.0, k.1, h.2, k.3, k.4 ∙ type, joins h.0.descriptor (content_of h.0) (content_of h.1) (content_of k.1) ps qs h.5 there)
