use Rattle.std.proofs.Common.{◌≡◌, ◌++◌, map}
use Rattle.std.specs.Vec.Iter.{into_iter_items}
use Rattle.reflect_tables.specs.Views.{file_of, record_file, record_of, declared_of, places_of}
use Rattle.reflect_index.proofs.batch.stored_files.Given as goal

abbrev pub invariant-loop-record : goal.invariant-loop-record
invariant-loop-record l = record {
  files : map file_of l.stored.items ≡ map record_file l.yielded;
  records : map record_of l.stored.items ≡ l.yielded;
  declared : map places_of l.stored.items ++ map declared_of (into_iter_items l.rest) ≡ map declared_of (into_iter_items l.initial.rest);
}
