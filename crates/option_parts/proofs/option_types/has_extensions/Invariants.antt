use Rattle.std.proofs.Common.{◌≡◌}
use Rattle.std.specs.List.{list_any}
use Rattle.reflect_link.specs.Reserved.{ranges_left}
use Rattle.option_parts.specs.OptionTypes.{is_custom}
use Rattle.option_parts.proofs.option_types.has_extensions.Given as goal

abbrev pub invariant-loop-range : goal.invariant-loop-range
invariant-loop-range l = list_any is_custom (ranges_left l.initial.range-iterator) ≡ list_any is_custom (ranges_left l.range-iterator)
