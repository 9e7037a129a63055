use Rattle.std.proofs.Common.{◌≡◌, [], drop, fold, map}
use Rattle.std.specs.Prelude.{string_bytes}
use Rattle.descriptor_records.specs.Content.{name_view}
use Rattle.option_setter.specs.WrittenNames.{behind_dot}
use Rattle.option_setter.proofs.option_setter.option_name.Given as goal

abbrev pub invariant-parts : goal.invariant-parts
invariant-parts l = fold behind_dot (string_bytes l.name) (map name_view (drop l.part-index l.part-items)) ≡ fold behind_dot [] (map name_view l.part-items)
