-- The forms in which messages are printed.
use Rattle.std.specs.Prelude.{true, false}
use Rattle.text_lines.specs.declared.options.FormatOptions.{FormatOptions}

-- one line without spaces, of the fields that are set, by ascending number, with each
-- `google.protobuf.Any` expanded
abbrev pub usual_form : FormatOptions
usual_form = record {
  pretty = false;
  skip_unknown_fields = true;
  skip_default_fields = true;
  in_index_order = false;
  expand_any = true;
}
