use Rattle.std.proofs.Common.{◌≡◌, ◌==◌, ◌<◌, ◌≤◌, ◌++◌, [], ◌∷◌, false, None, Some, map, length, get_or, ap, sym, subst, ◌∙◌, arith, rules}
use Rattle.std.proofs.Math.ListN.{length-map}
use Rattle.std.proofs.Math.Seq.{map-set_same}
use Rattle.std.proofs.lemmas.List.{map-set}
use Rattle.std.proofs.lemmas.List as lists
use Rattle.reflect_index.specs.Members.{Joins}
use Rattle.reflect_index.specs.Grown.{oneof_name}
use Rattle.reflect_tables.specs.Types.{OneofType, no_oneof}
use Rattle.reflect_tables.specs.Views.{field_of, oneof_of}
use Rattle.reflect_tables.specs.declared.stored.StoredOneof.{StoredOneof}
use Rattle.reflect_index.proofs.Members.{joins_none, joins_one}
use Rattle.reflect_index.proofs.finish.add_member.Goals as goal

pub returns-in_default-clause-joins : goal.returns-in_default-clause-joins
returns-in_default-clause-joins c =
    let f = field_of c.args.field.now in
    let none : f.oneof ≡ None = search rules in
    joins_none f c.args.place (map oneof_of c.args.oneofs.now.items) (λ k lt. ap (λ o. elim o [ None ↦ false | Some j ↦ k == j ]) none)

pub returns-else-index-len-clause-joins : goal.returns-else-index-len-clause-joins
returns-else-index-len-clause-joins c =
    let f = field_of c.args.field.now in
    let os = map oneof_of c.args.oneofs.now.items in
    let i = c.in-Some.index in
    let is : f.oneof ≡ Some i = search rules in
    let all : length os ≡ length c.args.oneofs.now.items = length-map c.args.oneofs.now.items oneof_of in
    let past : length c.args.oneofs.now.items ≤ i = search rules in
    joins_none f c.args.place os (λ k lt. ap (λ o. elim o [ None ↦ false | Some j ↦ k == j ]) is ∙ let other : (k == i) ≡ false = grind (arith, lt, all, past) in other)

pub returns-in_ok-push-clause-joins : goal.returns-in_ok-push-clause-joins
returns-in_ok-push-clause-joins c =
    let f = field_of c.args.field.now in
    let items = c.args.oneofs.now.items in
    let i = c.in-Some.index in
    let was = c.index_mut.result.now in
    let now : StoredOneof = record { path = was.path; name = was.name; full_name = was.full_name; fields = c.push.new.self; is_synthetic = was.is_synthetic } in
    let is : f.oneof ≡ Some i = search rules in
    let all : length (map oneof_of items) ≡ length items = length-map items oneof_of in
    let inside : i < length items = search rules in
    let pushed : c.push.new.self.items ≡ was.fields.items ++ c.args.place ∷ [] = search rules in
    let here : oneof_of was ≡ get_or (map oneof_of items) i no_oneof = ap oneof_of c.index_mut.ensures.value ∙ sym (lists.get_or-map oneof_of items i was no_oneof inside) in
    let more : (oneof_of now).fields ≡ (get_or (map oneof_of items) i no_oneof).fields ++ c.args.place ∷ [] = pushed ∙ ap (λ (o : OneofType). o.fields ++ c.args.place ∷ []) here in
    subst (Joins f c.args.place (map oneof_of items)) (sym (map-set oneof_of items i now)) (joins_one f c.args.place i (map oneof_of items) (oneof_of now) is (omega (arith, inside, all)) more)

pub returns-in_ok-push-clause-names : goal.returns-in_ok-push-clause-names
returns-in_ok-push-clause-names c = map-set_same oneof_name c.args.oneofs.now.items c.in-Some.index _ c.index_mut.result.now (ap oneof_name c.index_mut.ensures.value)
