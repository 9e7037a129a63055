-- The records of services.
--
-- Source: "Defining Services" of the language guide on protobuf.dev.
use Rattle.std.specs.Prelude.{true, List, [], ◌∷◌, Option, Some, None, string_bytes}
use Rattle.std.specs.Option.{option_map}
use Rattle.std.specs.List.{flat_map}
use Rattle.descriptor_records.specs.Content.{MethodContent, OptionContent, ServiceContent}
use Rattle.protox_declaration_records.specs.OptionRecords.{option_of, options_of}
use Rattle.protox_tree.specs.Tree.{type_text}
use Rattle.protox_tree.specs.View.{type_name_view}
use Rattle.protox_tree.specs.declared.service.Method.{Method}
use Rattle.protox_tree.specs.declared.service.MethodBody.{MethodBody}
use Rattle.protox_tree.specs.declared.service.MethodItem.{MethodItem}
use Rattle.protox_tree.specs.declared.service.MethodItem.TheVariants as method_items
use Rattle.protox_tree.specs.declared.service.Service.{Service}
use Rattle.protox_tree.specs.declared.service.ServiceItem.{ServiceItem}
use Rattle.protox_tree.specs.declared.service.ServiceItem.TheVariants as items

abbrev pub method_option_at : MethodItem → List OptionContent
method_option_at (method_items.Option o) = option_of o.body ∷ []
method_option_at _ = []

-- the options in a method's braces, if it has braces
abbrev pub method_options : Option MethodBody → List OptionContent
method_options None = []
method_options (Some body) = flat_map method_option_at body.items.items

-- A method with the names of its types as they are written; the word `stream` is told where it
-- stands.
abbrev pub method_of : Method → MethodContent
method_of m = record {
  name = Some (string_bytes m.name.value);
  input_type = Some (type_text (type_name_view m.input.name));
  output_type = Some (type_text (type_name_view m.output.name));
  options = options_of (method_options m.body);
  client_streaming = option_map (λ span. true) m.input.stream;
  server_streaming = option_map (λ span. true) m.output.stream;
}

-- what stands between the braces, one by one

abbrev pub method_at : ServiceItem → List MethodContent
method_at (items.Method m) = method_of m ∷ []
method_at _ = []

abbrev pub option_at : ServiceItem → List OptionContent
option_at (items.Option o) = option_of o.body ∷ []
option_at _ = []

-- Of each kind all that stands there, in order.
abbrev pub service_of : Service → ServiceContent
service_of s = record {
  name = Some (string_bytes s.name.value);
  method = flat_map method_at s.items.items;
  options = options_of (flat_map option_at s.items.items);
}
