-- The names that a view's files declare.
use Rattle.std.specs.Prelude.{Bool, is_some}
use Rattle.protobuf_model.specs.Types.{Name}
use Rattle.schema_view.specs.Views.{View}

abbrev pub is_declared : View → Name → Bool
is_declared v t = is_some (v.declared t)
