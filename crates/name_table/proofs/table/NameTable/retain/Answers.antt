use Rattle.std.proofs.Common.{rules}
use Rattle.std.proofs.lemmas.Map.Made.{filter_same_pairs}
use Rattle.name_table.specs.Known.{known_in}
use Rattle.name_table.proofs.Keeps.{slots_kept, texts_kept, both_kept, apart_kept}
use Rattle.name_table.proofs.table.NameTable.retain.Goals as goal

pub invariant_of-self : goal.invariant_of-self
invariant_of-self g c =
    let test = g.T.ValueTest.keeps c.args.test.now in
    let t = c.args.self.now in
    let slots = filter_same_pairs _ (λ e. test e.1.value) _ (λ k v b w f h. search rules) _ _ c.retain.ensures.filtered in
    let crowded = filter_same_pairs _ (λ e. test e.1) _ (λ k v b w f h. search rules) _ _ c.retain-2.ensures.filtered in
    record {
      apart = apart_kept test t.slots c.retain.new.self t.crowded c.retain-2.new.self t.apart
          (slots_kept test t.slots c.retain.new.self c.retain.ensures.was_ordered slots)
          (texts_kept test t.crowded c.retain-2.new.self c.retain-2.ensures.was_ordered crowded);
    }

pub returns : goal.returns
unfolding known_in
returns g c =
    let test = g.T.ValueTest.keeps c.args.test.now in
    let t = c.args.self.now in
    let slots = filter_same_pairs _ (λ e. test e.1.value) _ (λ k v b w f h. search rules) _ _ c.retain.ensures.filtered in
    let crowded = filter_same_pairs _ (λ e. test e.1) _ (λ k v b w f h. search rules) _ _ c.retain-2.ensures.filtered in
    both_kept test t.slots c.retain.new.self t.crowded c.retain-2.new.self t.apart
    (slots_kept test t.slots c.retain.new.self c.retain.ensures.was_ordered slots)
    (texts_kept test t.crowded c.retain-2.new.self c.retain-2.ensures.was_ordered crowded)
