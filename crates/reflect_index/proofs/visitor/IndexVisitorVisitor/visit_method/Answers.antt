-- A service has one method more.
use Rattle.std.proofs.Common.{◌∙◌, sym, ap, string_bytes, rules, refl}
use Rattle.reflect_references.specs.Meanings.{meaning}
use Rattle.reflect_tables.specs.Types.{MethodType}
use Rattle.reflect_index.proofs.visitor.IndexVisitorVisitor.visit_method.Goals as goal

pub returns-clause-step : goal.returns-clause-step
returns-clause-step c =
    let x : MethodType = record {
      path = c.in_ok-from_slice.field-0.items;
      name = string_bytes c.in_ok-text_copy.field-0;
      full_name = string_bytes c.in_ok-from_str.field-0;
      input = c.in_ok-input.input;
      output = c.in_ok-output.output;
      client_streaming = c.unwrap_or.result;
      server_streaming = c.unwrap_or-2.result;
    } in
    record {
      messages = refl;
      enums = refl;
      extensions = refl;
      services = c.in_ok-push_method.ensures.names;
      ranges = refl;
      values = refl;
      value_types = refl;
      fields = refl;
      oneofs = refl;
      methods = (
        x,
        record {
          path = search rules;
          name = search rules;
          full_name = search rules;
          input = sym c.meaning_of.ensures.meaning ∙ c.in_ok-input.ensures;
          output = ap (meaning c.args.method.now.output_type) (sym c.meaning_of.ensures.rest) ∙ sym c.meaning_of-2.ensures.meaning ∙ c.in_ok-output.ensures;
          client_streaming = search rules;
          server_streaming = search rules;
        },
        c.in_ok-push_method.ensures.methods,
      );
      declared = refl;
      message_heads = refl;
      enum_heads = refl;
      service_heads = c.in_ok-push_method.ensures.heads;
      nested = refl;
      outside = refl;
      syntax = refl;
      rest = search rules;
      first = refl;
      before = refl;
    }
