use Rattle.std.proofs.Common.{◌++◌, ◌∷◌, [], sym, ap, ◌∙◌, append_assoc}
use Rattle.std.specs.Vec.Iter.{into_iter_items}
use Rattle.reflect_extend.proofs.Putting.{puts_more, puts_front}
use Rattle.reflect_extend.proofs.extend.insert_all.Goals as goal

pub loop-entry-preserved : goal.loop-entry-preserved
loop-entry-preserved c =
    let l = c.loop-entry in
    let entry = c.in-Some.entry in
    record {
      puts = puts_more c.args.held.now.entries l.held.entries c.insert_one.new.held.entries l.yielded entry l.invariant.puts c.in_ok-insert_one.ensures.puts;
      left = l.invariant.left ∙ ap (λ vs. l.yielded ++ vs) c.in-Some.ensures.steps.0 ∙ sym (append_assoc l.yielded (entry ∷ []) (into_iter_items c.next.new.self));
    }

pub returns-in_err-insert_one-clause-part : goal.returns-in_err-insert_one-clause-part
returns-in_err-insert_one-clause-part c =
    let l = c.loop-entry in
    puts_front c.from_residual.result c.args.held.now.entries l.held.entries c.insert_one.new.held.entries c.args.entries.items l.yielded (c.in-Some.entry ∷ into_iter_items c.next.new.self)
    (l.invariant.left ∙ ap (λ vs. l.yielded ++ vs) c.in-Some.ensures.steps.0) c.in_err-insert_one.ensures.left l.invariant.puts
