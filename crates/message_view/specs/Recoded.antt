-- Bytes that are decoded and encoded again.
use Rattle.std.specs.Prelude.{◌≡◌, ◌<◌, ◌^◌, ℕ, List, [], ◌∷◌, length}
use Rattle.reflect_pool.specs.declared.message.MessageDescriptor.{MessageDescriptor}
use Rattle.reflect_wire.specs.Written.{AreBytes}
use Rattle.reflect_message.specs.Bytes.{message_bytes}
use Rattle.reflect_message.specs.Names.{DynamicMessage}
use Rattle.reflect_decode.specs.Spelled.{IsSpelled}
use Rattle.protobuf_model.specs.Types.{Name, Types}
use Rattle.message_view.specs.Types.{name_at, types_of}

-- `decode` gives a message of the bytes, and `encode` writes these of it
pub record Recodes (d : MessageDescriptor) (bytes out : List ℕ) : Type 0 where
  pub message : DynamicMessage
  pub type : message.descriptor ≡ d
  pub decoded : IsSpelled d bytes message
  pub encoded : message_bytes message ≡ out

-- the type of a descriptor, and its name
abbrev pub type_of : MessageDescriptor → Types × Name
type_of d = (types_of d.pool.now, name_at d.pool.now d.index)

-- by one type after the other, each time in no more bytes than a length can say
abbrev pub RecodesThrough : List MessageDescriptor → List ℕ → List ℕ → Type 0
RecodesThrough [] bytes out = bytes ≡ out
RecodesThrough (d ∷ ds) bytes out =
    (next : List ℕ) × Recodes d bytes next × AreBytes next × (length next < 2 ^ 64)
    × RecodesThrough ds next out
