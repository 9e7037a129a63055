use Rattle.std.proofs.Common.{◌≡◌, map, length, take, drop}
use Rattle.descriptor_records.specs.Content.{service_view}
use Rattle.reflect_known.specs.GivenNames.{service_names}
use Rattle.reflect_index.specs.Rewriting.{names_left, write_each, write_service}
use Rattle.reflect_index.proofs.Writing.{with_front}
use Rattle.reflect_index.proofs.rewrite.rewrite_services.Given as goal

abbrev pub invariant-services : goal.invariant-services
invariant-services l = record {
  names : map service_names l.services.items ≡ map service_names l.initial.services.items;
  written : write_each write_service (names_left l.initial.rest)
      (map service_view l.initial.services.items)
      ≡ with_front (take l.place (map service_view l.services.items))
      (write_each write_service (names_left l.rest)
      (drop l.place (map service_view l.services.items)));
  count : length l.services.items ≡ length l.initial.services.items;
}
