use Rattle.std.proofs.Common.{◌≡◌, map, take}
use Rattle.reflect_tables.specs.Types.{AreListed}
use Rattle.reflect_tables.specs.Views.{field_of, oneof_of}
use Rattle.reflect_index.specs.Grown.{oneof_name}
use Rattle.reflect_index.proofs.finish.list_members.Given as goal

abbrev pub invariant-turns : goal.invariant-turns
invariant-turns l = record {
  listed : AreListed (map oneof_of l.oneofs.items) (map field_of (take l.field-index l.fields));
  place : l.place ≡ l.field-index;
  names : map oneof_name l.oneofs.items ≡ map oneof_name l.initial.oneofs.items;
}
