use Rattle.std.proofs.Common.{◌≡◌, ◌<◌, ℕ, [], map, length, get_or}
use Rattle.reflect_tables.specs.Types.{no_oneof}
use Rattle.reflect_tables.specs.Views.{oneof_of}
use Rattle.reflect_index.specs.Grown.{oneof_name}
use Rattle.reflect_index.proofs.finish.forget_members.Given as goal

abbrev pub invariant-turns : goal.invariant-turns
invariant-turns l = record {
  count : length l.oneofs.items ≡ length l.initial.oneofs.items;
  lists : (k : ℕ) → k < l.place → (get_or (map oneof_of l.oneofs.items) k no_oneof).fields ≡ [];
  names : map oneof_name l.oneofs.items ≡ map oneof_name l.initial.oneofs.items;
}
