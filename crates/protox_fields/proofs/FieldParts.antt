-- A field, seen as the tree.
use Rattle.protox_tree.specs.Nest.{field}
use Rattle.protox_tree.specs.NestView.{field_view, kind_view}
use Rattle.protox_tree.specs.View.{ident_view, option_list_view}
use Rattle.protox_tree.specs.declared.message.Field.{Field, the_lemmas}
use Rattle.std.proofs.Common.{◌≡◌, rules}
use Rattle.std.specs.Prelude.{option_map}

pub field_parts : (f : Field) → field_view f ≡ field f.label (kind_view f.kind) (ident_view f.name) f.number (option_map option_list_view f.options) f.span
field_parts f = search (rules, the_lemmas)
