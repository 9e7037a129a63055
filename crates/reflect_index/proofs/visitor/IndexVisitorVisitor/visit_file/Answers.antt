-- There is one file more, which has declared nothing yet.
use Rattle.std.proofs.Common.{◌∙◌, ◌++◌, ◌∷◌, [], List, map, ap, refl}
use Rattle.std.proofs.lemmas.List.{map-append}
use Rattle.reflect_tables.specs.Types.{FilePlaces, no_children}
use Rattle.reflect_tables.specs.Views.{declared_of}
use Rattle.reflect_index.proofs.visitor.IndexVisitorVisitor.visit_file.Goals as goal

pub returns-clause-step : goal.returns-clause-step
returns-clause-step c =
    let old = c.args.self.now.drafts.files.items in
    record {
      messages = refl;
      enums = refl;
      extensions = refl;
      services = refl;
      ranges = refl;
      values = refl;
      value_types = refl;
      fields = refl;
      oneofs = refl;
      methods = refl;
      declared = refl;
      message_heads = refl;
      enum_heads = refl;
      service_heads = refl;
      nested = refl;
      outside =
          ap (map declared_of) c.in_ok-push.ensures.items
          ∙ map-append declared_of old _
          ∙ ap {B = List FilePlaces} (λ p. map declared_of old ++ record { children = p; services = c.new.result.items } ∷ []) c.no_children.ensures
          ∙ ap {B = List FilePlaces} (λ l. map declared_of old ++ record { children = no_children; services = l } ∷ []) c.new.ensures.items;
      syntax = c.syntax_of-self.ensures;
      rest = refl;
      first = refl;
      before = refl;
    }
