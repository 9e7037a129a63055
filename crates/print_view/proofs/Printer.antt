-- What messages are printed by, with unknown records and without.
use Rattle.std.proofs.Common.{ℕ, Bool, true, false, Option}
use Rattle.protox_lex.specs.Class.{Text}
use Rattle.reflect_tables.specs.Types.{PoolType}
use Rattle.text_lines.specs.declared.options.FormatOptions.{FormatOptions}
use Rattle.protobuf_model.specs.Types.{Name}
use Rattle.protobuf_model.specs.Values.{Message}
use Rattle.text_model.specs.Printed.{Inner}
use Rattle.message_view.specs.Sound.{HaveEntryFields}
use Rattle.print_view.proofs.Parts.{HaveValues}

-- the options that tell fields and no unknown records
abbrev pub own_options : (p skip as_declared expand : Bool) → FormatOptions
own_options p skip as_declared expand = record {
  pretty = p;
  skip_unknown_fields = true;
  skip_default_fields = skip;
  in_index_order = as_declared;
  expand_any = expand;
}

-- the options that tell fields and unknown records
abbrev pub telling_options : (p skip as_declared expand : Bool) → FormatOptions
telling_options p skip as_declared expand = record {
  pretty = p;
  skip_unknown_fields = false;
  skip_default_fields = skip;
  in_index_order = as_declared;
  expand_any = expand;
}

-- the options, the pool, whose maps have their parts, what bytes are decoded as, what is printed in an Any, and how many payloads are read in one another
pub record Printer : Type 0 where
  pub pretty : Bool
  pub skip : Bool
  pub as_declared : Bool
  pub expand : Bool
  pub pool : PoolType
  pub fields_of : HaveEntryFields pool
  pub values : HaveValues pool
  pub decoded : Name → Text → Option Message
  pub inner : Inner
  pub payloads : ℕ

abbrev pub own_of : Printer → FormatOptions
own_of printer = own_options printer.pretty printer.skip printer.as_declared printer.expand

abbrev pub telling_of : Printer → FormatOptions
telling_of printer = telling_options printer.pretty printer.skip printer.as_declared printer.expand
