-- Where a list stands it is lengthened, and where nothing does the values are the list.
use Rattle.std.proofs.Common.{◌≡◌, rules, is_some, List, Option, None, Some, ap, ◌∙◌, subst}
use Rattle.std.proofs.lemmas.Result.{on_err_weaker}
use Rattle.reflect_entries.specs.Entries.{value_at}
use Rattle.reflect_message.specs.Lists.{items_held, list_items, Lengthens}
use Rattle.reflect_message.specs.Names.{Value}
use Rattle.reflect_message.specs.declared.value.ValueOf.{the_lemmas}
use Rattle.reflect_message.specs.declared.value.ValueOf as values
use Rattle.reflect_message.proofs.Lengthening.{lengthens_slot}
use Rattle.reflect_extend.proofs.Staying.{absent_there, other_none, other_there, refused}
use Rattle.reflect_extend.proofs.extend.extend_list.Goals as goal

made : (old new : Option Value) (list : Value) (vs : List Value) → None ≡ old → list_items list ≡ Some vs → new ≡ Some list → Lengthens old new vs
made old new list vs none is put = subst (λ o. Lengthens o new vs) none (ap items_held put ∙ is)

pub returns-in-Some-clause-list : goal.returns-in-Some-clause-list
returns-in-Some-clause-list c =
    lengthens_slot (value_at c.args.content.now c.args.number) _ c.in-Some.list.now c.append.new.list (ap items_held c.in-Some.ensures.value)
    (c.get_mut.follows.holds c.append.new.list (ap is_some c.in-Some.is)).here c.append.result c.args.values.items c.append.ensures.more

pub returns-in-Some-clause-left : goal.returns-in-Some-clause-left
returns-in-Some-clause-left c =
    let put = (c.get_mut.follows.holds c.append.new.list (ap is_some c.in-Some.is)).here in
    on_err_weaker c.append.result (λ same. ap items_held put ∙ same ∙ ap items_held c.in-Some.ensures.value) c.append.ensures.left

pub returns-in-Some-clause-other : goal.returns-in-Some-clause-other
returns-in-Some-clause-other c =
    other_there (value_at c.args.content.now c.args.number) _ c.in-Some.list.now c.append.new.list c.in-Some.ensures.value
    (c.get_mut.follows.holds c.append.new.list (ap is_some c.in-Some.is)).here c.append.ensures.other

pub returns-in-Some-clause-absent : goal.returns-in-Some-clause-absent
returns-in-Some-clause-absent c = refused c.append.result (absent_there (value_at c.args.content.now c.args.number) _ c.in-Some.list.now c.in-Some.ensures.value)

pub returns-clause-list : goal.returns-clause-list
returns-clause-list c =
    made (value_at c.args.content.now c.args.number) _ (values.List c.args.values) c.args.values.items c.in_default.ensures.value (search (rules, the_lemmas)) c.in_ok-set.ensures.updates.here

pub returns-clause-other : goal.returns-clause-other
returns-clause-other c = other_none (value_at c.args.content.now c.args.number) _ c.in_default.ensures.value

pub returns-in_err-set-clause-other : goal.returns-in_err-set-clause-other
returns-in_err-set-clause-other c = other_none (value_at c.args.content.now c.args.number) _ c.in_default.ensures.value
