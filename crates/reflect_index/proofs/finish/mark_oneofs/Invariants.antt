use Rattle.std.proofs.Common.{◌≡◌, ◌<◌, ℕ, map, length, get_or}
use Rattle.reflect_tables.specs.declared.stored.StoredOneof.{StoredOneof}
use Rattle.reflect_index.specs.Grown.{oneof_name}
use Rattle.reflect_index.specs.Members.{IsMarked, oneof_members}
use Rattle.reflect_index.proofs.finish.mark_oneofs.Given as goal

abbrev pub invariant-turns : goal.invariant-turns
invariant-turns l = record {
  count : length l.oneofs.items ≡ length l.initial.oneofs.items;
  marked : (k : ℕ) (d : StoredOneof) → k < l.place → IsMarked l.fields (get_or l.oneofs.items k d);
  members : map oneof_members l.oneofs.items ≡ map oneof_members l.initial.oneofs.items;
  names : map oneof_name l.oneofs.items ≡ map oneof_name l.initial.oneofs.items;
}
