-- The forms in which messages are printed, in the words of `text_model`.
use Rattle.std.specs.Prelude.{◌≡◌, ℕ, not, true, false, Some}
use Rattle.reflect_tables.specs.Types.{PoolType, FieldType}
use Rattle.reflect_pool.specs.Shapes.{is_repeated}
use Rattle.reflect_message.specs.Known.{known_field}
use Rattle.reflect_message.specs.KindTypes.{IsMessageType}
use Rattle.text_lines.specs.Forms.{usual_form}
use Rattle.text_lines.specs.declared.options.FormatOptions.{FormatOptions}
use Rattle.text_model.specs.Forms.{Form}

-- what the printer's options say of the model's form
abbrev pub form_of : FormatOptions → Form
form_of options = record {
  pretty = options.pretty;
  defaults = not options.skip_default_fields;
  as_declared = options.in_index_order;
  expands = options.expand_any;
}

-- a field of one message has presence
abbrev pub HaveMessagePresence : PoolType → Type 0
HaveMessagePresence pool =
    (i n : ℕ) (f : FieldType) → known_field pool i n ≡ Some f → IsMessageType f.kind
    → is_repeated f.cardinality ≡ false → f.presence ≡ true

-- by ascending number, on one line: in the printer's words
abbrev pub compact_form : FormatOptions
compact_form = record usual_form { expand_any = false }

-- and in the model's
abbrev pub own_form : Form
own_form = record { pretty = false; defaults = false; as_declared = false; expands = false }
