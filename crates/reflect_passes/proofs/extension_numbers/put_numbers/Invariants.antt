use Rattle.std.proofs.Common.{◌≡◌, take, length}
use Rattle.reflect_faults.specs.Faults.{Adds, place_at}
use Rattle.reflect_tables.specs.ExtensionNumbers.{KeyType, KeepsNumbers, numbers_of}
use Rattle.reflect_passes.specs.Extensions.{is_known, is_taken, with_numbers, extension_faults}
use Rattle.reflect_passes.specs.Linked.{linked_says}
use Rattle.reflect_passes.proofs.extension_numbers.put_numbers.Given as goal

abbrev pub invariant-turns : goal.invariant-turns
invariant-turns l = record {
  faults : Adds l.initial.faults l.faults (extension_faults (is_known l.initial.numbers) (linked_says l.types) (place_at l.initial.faults) (take l.at l.extensions));
  numbers : (k : KeyType) → is_known l.numbers k ≡ is_taken (is_known l.initial.numbers) (take l.at l.extensions) k;
  places : numbers_of l.numbers ≡ with_numbers (numbers_of l.initial.numbers) (length l.types.old.now.extensions.items) (take l.at l.extensions);
  keeps : KeepsNumbers (length l.types.old.now.extensions.items) (numbers_of l.initial.numbers) (numbers_of l.numbers);
}
