use Rattle.std.proofs.Common.{◌≡◌, ◌<◌, ◌∙◌, [], map, length, get_or, ap, arith, rules}
use Rattle.std.proofs.Math.ListN.{length-map}
use Rattle.std.proofs.Math.Seq.{map-set_same}
use Rattle.std.proofs.lemmas.List.{map-set}
use Rattle.reflect_index.specs.Grown.{oneof_name}
use Rattle.reflect_tables.specs.Types.{no_oneof}
use Rattle.reflect_tables.specs.Views.{oneof_of}
use Rattle.reflect_tables.specs.declared.stored.StoredOneof.{StoredOneof}
use Rattle.reflect_index.proofs.Members.{emptied}
use Rattle.reflect_index.proofs.finish.forget_members.Goals as goal

pub turns-preserved : goal.turns-preserved
turns-preserved c =
    let items = c.turns.oneofs.items in
    let p = c.turns.place in
    let was = c.index_mut.result.now in
    let now : StoredOneof = record { path = was.path; name = was.name; full_name = was.full_name; fields = c.clear.new.self; is_synthetic = was.is_synthetic } in
    let before = c.turns.invariant in
    let all : length (map oneof_of items) ≡ length items = length-map items oneof_of in
    let inside : p < length items = search rules in
    let none : (oneof_of now).fields ≡ [] = search rules in
    record {
      count = search rules;
      lists = λ k lt. ap (λ os. (get_or os k no_oneof).fields) (map-set oneof_of items p now) ∙ emptied (map oneof_of items) p (oneof_of now) (omega (arith, inside, all)) none before.lists k lt;
      names = map-set_same oneof_name items p now was (ap oneof_name c.index_mut.ensures.value) ∙ before.names;
    }
