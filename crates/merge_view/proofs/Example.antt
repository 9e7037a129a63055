-- That what the laws ask of a merge can be met: no bytes leave a message in order as it was.
use Rattle.std.proofs.Common.{inl, [], refl, sym, append-nil}
use Rattle.reflect_pool.specs.declared.message.MessageDescriptor.{MessageDescriptor}
use Rattle.reflect_message.specs.Contents.{Content, content_of}
use Rattle.reflect_copies.specs.InOrder.{IsInOrder}
use Rattle.reflect_message.specs.Names.{DynamicMessage}
use Rattle.reflect_decode.specs.Keeps.{numbered}
use Rattle.reflect_decode.specs.Levels.{MergesAt}
use Rattle.reflect_decode.specs.Spelled.{IsMerged}
use Rattle.reflect_decode.proofs.InOrder.{message_tells}

none_merged : (d : MessageDescriptor) (c : Content) → MergesAt 100 d c c []
none_merged d c = record {
  fields = record { spared = λ n spared. inl refl };
  filled = λ chosen. record { each = λ f owns. inl ((λ n is. refl), refl); chosen = chosen };
  extensions = record { spared = λ n spared. refl };
  extended = record { each = λ x owns free. refl; behind = λ f owns. refl };
  unknown = record { behind = λ n none. sym (append-nil (numbered n c.unknown)); declared = λ n is. refl; others = λ n none. refl };
  ordered = λ h. h;
  in_order = λ h. h;
}

nothing_is_merged : (d : MessageDescriptor) (m : DynamicMessage) → IsInOrder m → IsMerged d [] m m
nothing_is_merged d m ordered = (
  [],
  content_of m,
  refl,
  record { fields = λ n. refl; choices = refl; extensions = λ n. refl; unknown = refl },
  message_tells m ordered,
  none_merged d (content_of m),
  λ suits. tt,
)
