-- A decoded message holds what suits the fields of its type.
use Rattle.std.proofs.Common.{Option}
use Rattle.protox_lex.specs.Class.{Text}
use Rattle.protobuf_model.specs.Types.{Name}
use Rattle.protobuf_model.specs.Values.{Message}
use Rattle.reflect_pool.specs.declared.message.MessageDescriptor.{MessageDescriptor}
use Rattle.reflect_message.specs.Names.{DynamicMessage}
use Rattle.text_lines.specs.declared.options.FormatOptions.{FormatOptions}
use Rattle.message_view.specs.Views.{view}
use Rattle.message_view.proofs.Decoded.{decoded_suits}
use Rattle.message_view.proofs.Recoded.{decoded_shaped}
use Rattle.print_view.specs.Readable.{IsDecoded, IsReadable, IsSuited}
use Rattle.print_view.proofs.DecodedBytes.{decoded_in_bytes}
use Rattle.print_view.proofs.StandsIn.{inside_bytes}

pub decoded_suited : (options : FormatOptions) (decoded : Name → Text → Option Message) (d : MessageDescriptor) → IsReadable options decoded d → (m : DynamicMessage) → IsDecoded options decoded d m → IsSuited options decoded d m
decoded_suited options decoded d its m read = record {
  type = read.type;
  shape = decoded_shaped d read.input m read.type read.spelled;
  suits = decoded_suits d its.sound read.input read.bytes m read.type read.spelled;
  bytes = inside_bytes (view m) (decoded_in_bytes d its.sound its.names read.input read.bytes m read.type read.spelled);
  forms = read.forms;
}
