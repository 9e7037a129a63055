use Rattle.std.proofs.Common.{◌≡◌, fold, map}
use Rattle.reflect_tables.specs.Views.{places_of}
use Rattle.reflect_growth.specs.Put.{edited}
use Rattle.reflect_growth.specs.Settled.{stored_view}
use Rattle.reflect_growth.proofs.settle.settle_edits.Given as goal

abbrev pub invariant-loop-edit : goal.invariant-loop-edit
invariant-loop-edit l = record {
  declared : map places_of l.files.items ≡ map places_of l.initial.files.items;
  put : map stored_view l.files.items
      ≡ fold edited (map stored_view l.initial.files.items) l.yielded;
}
