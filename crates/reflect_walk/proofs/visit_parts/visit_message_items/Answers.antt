use Rattle.std.proofs.Common.{ℕ, ap, ◌∙◌, length}
use Rattle.std.proofs.lemmas.Result.{err_from_is_err_and}
use Rattle.reflect_declarations.specs.Tree.{parts_of}
use Rattle.reflect_declarations.specs.Declarations.{past_extensions}
use Rattle.reflect_walk.proofs.Walks.{runs_append}
use Rattle.reflect_walk.proofs.visit_parts.visit_message_items.Goals as goal

pub returns-clause-runs : goal.returns-clause-runs
returns-clause-runs g c =
    runs_append g.V.Visitor.steps _ _ c.args.visitor.now c.visit_items.new.visitor c.visit_items-2.new.visitor c.in_ok-visit_items.ensures.runs c.in_ok-visit_items-2.ensures.runs

pub returns-clause-counts : goal.returns-clause-counts
returns-clause-counts g c =
    let own = parts_of c.args.message.now in
    let o = c.args.offsets.now in
    ap {A = ℕ} (λ n. record o { enums = c.visit_items.new.count; extensions = n }) c.in_ok-visit_items-2.ensures.counts
    ∙ ap {A = ℕ} (λ n. past_extensions (record o { enums = n }) (length own.extension)) c.in_ok-visit_items.ensures.counts

pub returns-clause-keeps : goal.returns-clause-keeps
returns-clause-keeps g c = g.met.V.Visitor.kept_on c.args.file _ _ _ c.visit_items.ensures.keeps c.visit_items-2.ensures.keeps

pub returns-in_err-visit_items : goal.returns-in_err-visit_items
returns-in_err-visit_items g c =
    let r = c.from_residual in
    let p = err_from_is_err_and r.result r.ensures.1 in
    rw p.1 (record { runs = tt; counts = tt; keeps = c.visit_items.ensures.keeps })

pub returns-in_err-visit_items-2 : goal.returns-in_err-visit_items-2
returns-in_err-visit_items-2 g c =
    let r = c.from_residual-in_err-visit_items-2 in
    let p = err_from_is_err_and r.result r.ensures.1 in
    let on = g.met.V.Visitor.kept_on c.args.file in
    rw p.1 (record { runs = tt; counts = tt; keeps = on _ _ _ c.visit_items.ensures.keeps c.visit_items-2.ensures.keeps })
