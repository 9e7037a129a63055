use Rattle.std.proofs.Common.{◌≡◌, map, drop}
use Rattle.descriptor_records.specs.Content.{option_view}
use Rattle.option_parts.specs.TypedOptions.{written_truth}
use Rattle.option_parts.proofs.typed_options.written_truth.Given as goal

abbrev pub invariant-loop-option : goal.invariant-loop-option
invariant-loop-option l = written_truth l.name (map option_view (drop l.option-index l.option-items)) ≡ written_truth l.name (map option_view l.option-items)
