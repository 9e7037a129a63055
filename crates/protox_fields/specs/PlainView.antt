-- The types that the values of `PlainKind` stand for.
use Rattle.protox_fields.specs.declared.field.PlainKind.{PlainKind}
use Rattle.protox_fields.specs.declared.field.PlainKind.TheVariants as kinds
use Rattle.protox_tree.specs.Nest.{Kind, normal, map_kind}
use Rattle.protox_tree.specs.NestView.{map_view}
use Rattle.protox_tree.specs.View.{ty_view}

abbrev pub plain_view : PlainKind → Kind
plain_view (kinds.Normal t) = normal (ty_view t)
plain_view (kinds.Map m) = map_kind (map_view m)
