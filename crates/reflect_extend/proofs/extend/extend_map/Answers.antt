-- Where a map stands the entries are put into it, and where nothing does into one that is made.
use Rattle.std.proofs.Common.{rules, is_some, ap, ◌∙◌}
use Rattle.std.proofs.lemmas.Result.{on_err_weaker, on_ok_weaker}
use Rattle.reflect_entries.specs.Entries.{value_at}
use Rattle.reflect_message.specs.declared.value.ValueOf.{the_lemmas}
use Rattle.reflect_message.specs.declared.value.ValueOf as values
use Rattle.reflect_extend.proofs.Putting.{changes_made, changes_there, puts_none_at}
use Rattle.reflect_extend.proofs.Staying.{absent_there, refused}
use Rattle.reflect_extend.specs.Puts.{PutsAll, PutsFront}
use Rattle.reflect_extend.proofs.extend.extend_map.Goals as goal

pub returns-in-Some-clause-map : goal.returns-in-Some-clause-map
returns-in-Some-clause-map c =
    let put = (c.get_mut.follows.holds c.insert.new.map (ap is_some c.in-Some.is)).here in
    on_ok_weaker c.insert.result
    (changes_there (λ before after. PutsAll before after c.args.entries.items) (value_at c.args.content.now c.args.number) _ c.in-Some.map.now c.insert.new.map put c.in-Some.ensures.value)
    c.insert.ensures.puts

pub returns-in-Some-clause-part : goal.returns-in-Some-clause-part
returns-in-Some-clause-part c =
    let put = (c.get_mut.follows.holds c.insert.new.map (ap is_some c.in-Some.is)).here in
    on_err_weaker c.insert.result
    (changes_there (λ before after. PutsFront before after c.args.entries.items) (value_at c.args.content.now c.args.number) _ c.in-Some.map.now c.insert.new.map put c.in-Some.ensures.value)
    c.insert.ensures.part

pub returns-in-Some-clause-absent : goal.returns-in-Some-clause-absent
returns-in-Some-clause-absent c = refused c.insert.result (absent_there (value_at c.args.content.now c.args.number) _ c.in-Some.map.now c.in-Some.ensures.value)

pub returns-clause-map : goal.returns-clause-map
returns-clause-map c =
    changes_made (λ before after. PutsAll before after c.args.entries.items) (value_at c.args.content.now c.args.number) _ (values.Map c.new.result) c.insert-2.new.map
    c.in_ok-set.ensures.updates.here c.in_default.ensures.value (search (rules, the_lemmas)) c.in_ok-insert.ensures.puts

pub returns-in_err-insert-clause-part : goal.returns-in_err-insert-clause-part
returns-in_err-insert-clause-part c = puts_none_at c.from_residual.result c.args.content.now _ c.args.number c.args.entries.items c.get_mut.follows.holds-at-none

pub returns-in_err-set-clause-part : goal.returns-in_err-set-clause-part
returns-in_err-set-clause-part c =
    puts_none_at c.from_residual-in_err-set.result c.args.content.now _ c.args.number c.args.entries.items (c.in_err-set.ensures.refused ∙ c.get_mut.follows.holds-at-none)
