use Rattle.std.proofs.Common.{◌≡◌, ◌++◌, List}
use Rattle.option_parts.specs.Moves.{targets_of, place_32}
use Rattle.option_parts.proofs.Moves.{EditsFirst}
use Rattle.option_parts.proofs.moved_locations.move_locations.Given as goal
use Rattle.reflect_growth.specs.declared.settle.Edit.{Edit}

abbrev pub invariant-locations : goal.invariant-locations
invariant-locations l = record {
  place : l.place ≡ place_32 l.location-index;
  edits : (es : List Edit) × EditsFirst (targets_of l.moved) l.file l.location-items l.location-index es
      × (l.edits.items ≡ l.initial.edits.items ++ es);
}
