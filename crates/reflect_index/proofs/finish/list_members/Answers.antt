use Rattle.std.proofs.Common.{◌≡◌, ◌<◌, ◌+◌, ◌++◌, ◌∷◌, [], ◌∙◌, map, take, length, ap, sym, subst, arith, rules}
use Rattle.std.proofs.Math.ListN.{length-map}
use Rattle.std.proofs.lemmas.List.{map_more, length-take-le}
use Rattle.reflect_tables.specs.Types.{AreListed}
use Rattle.reflect_tables.specs.Views.{field_of, oneof_of}
use Rattle.reflect_index.proofs.Members.{listed_more}
use Rattle.reflect_index.proofs.finish.list_members.Goals as goal

pub turns-preserved : goal.turns-preserved
turns-preserved c =
    let fs = c.args.fields.now in
    let i = c.turns.field-index in
    let f = c.field-item.result in
    let before = c.turns.invariant in
    let lt : i < length fs = c.turns-test.true in
    let long : length (take i fs) ≡ i = length-take-le i fs (omega (arith, lt)) in
    let at : c.turns.place ≡ length (map field_of (take i fs)) = before.place ∙ sym (length-map (take i fs) field_of ∙ long) in
    let more : map field_of (take i fs) ++ field_of f ∷ [] ≡ map field_of (take (i + 1) fs) = ap (λ x. map field_of (take i fs) ++ field_of x ∷ []) c.field-item.is ∙ sym (map_more field_of fs i f lt) in
    record {
      listed = subst (AreListed (map oneof_of c.add_member.new.oneofs.items)) more (listed_more (map oneof_of c.turns.oneofs.items) (map oneof_of c.add_member.new.oneofs.items) (map field_of (take i fs)) (field_of f) c.turns.place at before.listed c.in_ok-add_member.ensures.joins);
      place = search rules;
      names = search rules;
    }
