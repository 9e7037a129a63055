use Rattle.std.proofs.Common.{◌≡◌, pos, [], ap, subst, ◌∙◌, None, length}
use Rattle.std.proofs.lemmas.Result.{err_from_is_err_and}
use Rattle.reflect_declarations.specs.Tree.{text_of}
use Rattle.reflect_declarations.specs.Declarations.{Runs, trees_declarations, trees_of, past_trees, past_enums, past_extensions, past_services}
use Rattle.reflect_walk.specs.Items.{file_items}
use Rattle.reflect_walk.proofs.Walks.{runs_append, trees_services}
use Rattle.reflect_walk.proofs.visit_parts.visit.Goals as goal

pub returns-clause-runs : goal.returns-clause-runs
returns-clause-runs g c =
    let R = g.V.Visitor.steps in
    let f = c.args.file.now in
    let file = c.args.file_index in
    let o = c.args.offsets in
    let given = c.text_of-scope.result.now in
    let scope : given ≡ text_of f.package = c.text_of-scope.ensures in
    let trees = trees_of f in
    let behind : c.visit_messages.new.offsets ≡ past_trees o trees = c.in_ok-visit_messages.ensures.counts in
    let v0 = c.args.visitor.now in
    let v1 = c.visit_file.new.self in
    let v2 = c.visit_messages.new.visitor in
    let v3 = c.visit_file_items.new.visitor in
    let messages = subst (λ n. Runs R v1 (trees_declarations [] (pos 4) n file None 0 o trees) v2) scope c.in_ok-visit_messages.ensures.runs in
    let items = subst (λ n. Runs R v2 (file_items n file (record (past_trees o trees) { services = o.services }) f) v3) scope
    (subst (λ k. Runs R v2 (file_items given file (record (past_trees o trees) { services = k }) f) v3) (trees_services o trees)
    (subst (λ x. Runs R v2 (file_items given file x f) v3) behind c.in_ok-visit_file_items.ensures.runs)) in
    (v1, (c.in_ok-visit_file.ensures.step, runs_append R _ _ v1 v2 v3 messages items))

pub returns-clause-counts : goal.returns-clause-counts
returns-clause-counts g c =
    let f = c.args.file.now in
    c.in_ok-visit_file_items.ensures.counts
    ∙ ap (λ x. past_extensions (past_services (past_enums x (length f.enum_type.items)) (length f.service.items)) (length f.extension.items)) c.in_ok-visit_messages.ensures.counts

pub returns-clause-keeps : goal.returns-clause-keeps
returns-clause-keeps g c =
    let on = g.met.V.Visitor.kept_on c.args.file_index in
    on _ _ _ (on _ _ _ c.visit_file.ensures.keeps c.visit_messages.ensures.keeps) c.visit_file_items.ensures.keeps

pub returns-in_err-visit_file : goal.returns-in_err-visit_file
returns-in_err-visit_file g c =
    let r = c.from_residual in
    let p = err_from_is_err_and r.result r.ensures.1 in
    rw p.1 (record { runs = tt; counts = tt; keeps = c.visit_file.ensures.keeps })

pub returns-in_err-visit_messages : goal.returns-in_err-visit_messages
returns-in_err-visit_messages g c =
    let r = c.from_residual-in_err-visit_messages in
    let p = err_from_is_err_and r.result r.ensures.1 in
    let on = g.met.V.Visitor.kept_on c.args.file_index in
    rw p.1 (record { runs = tt; counts = tt; keeps = on _ _ _ c.visit_file.ensures.keeps c.visit_messages.ensures.keeps })

pub returns-in_err-visit_file_items : goal.returns-in_err-visit_file_items
returns-in_err-visit_file_items g c =
    let r = c.from_residual-in_err-visit_file_items in
    let p = err_from_is_err_and r.result r.ensures.1 in
    let on = g.met.V.Visitor.kept_on c.args.file_index in
    rw p.1 (record { runs = tt; counts = tt; keeps = on _ _ _ (on _ _ _ c.visit_file.ensures.keeps c.visit_messages.ensures.keeps) c.visit_file_items.ensures.keeps })
