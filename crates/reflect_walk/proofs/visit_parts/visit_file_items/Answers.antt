use Rattle.std.proofs.Common.{ℕ, ap, ◌∙◌, length}
use Rattle.std.proofs.lemmas.Result.{err_from_is_err_and}
use Rattle.reflect_declarations.specs.Declarations.{past_extensions, past_services}
use Rattle.reflect_walk.proofs.Walks.{runs_append}
use Rattle.reflect_walk.proofs.visit_parts.visit_file_items.Goals as goal

pub returns-clause-runs : goal.returns-clause-runs
returns-clause-runs g c =
    let R = g.V.Visitor.steps in
    let v0 = c.args.visitor.now in
    let v1 = c.visit_items.new.visitor in
    let v2 = c.visit_items-2.new.visitor in
    let v3 = c.visit_items-3.new.visitor in
    runs_append R _ _ v0 v1 v3 c.in_ok-visit_items.ensures.runs (runs_append R _ _ v1 v2 v3 c.in_ok-visit_items-2.ensures.runs c.in_ok-visit_items-3.ensures.runs)

pub returns-clause-counts : goal.returns-clause-counts
returns-clause-counts g c =
    let f = c.args.file.now in
    let o = c.args.offsets.now in
    let enums = c.visit_items.new.count in
    let services = c.visit_items-2.new.count in
    ap {A = ℕ} (λ n. record o { enums = enums; services = services; extensions = n }) c.in_ok-visit_items-3.ensures.counts
    ∙ ap {A = ℕ} (λ n. past_extensions (record o { enums = enums; services = n }) (length f.extension.items)) c.in_ok-visit_items-2.ensures.counts
    ∙ ap {A = ℕ} (λ n. past_extensions (past_services (record o { enums = n }) (length f.service.items)) (length f.extension.items)) c.in_ok-visit_items.ensures.counts

pub returns-clause-keeps : goal.returns-clause-keeps
returns-clause-keeps g c =
    let on = g.met.V.Visitor.kept_on c.args.file_index in
    on _ _ _ (on _ _ _ c.visit_items.ensures.keeps c.visit_items-2.ensures.keeps) c.visit_items-3.ensures.keeps

pub returns-in_err-visit_items : goal.returns-in_err-visit_items
returns-in_err-visit_items g c =
    let r = c.from_residual in
    let p = err_from_is_err_and r.result r.ensures.1 in
    rw p.1 (record { runs = tt; counts = tt; keeps = c.visit_items.ensures.keeps })

pub returns-in_err-visit_items-2 : goal.returns-in_err-visit_items-2
returns-in_err-visit_items-2 g c =
    let r = c.from_residual-in_err-visit_items-2 in
    let p = err_from_is_err_and r.result r.ensures.1 in
    let on = g.met.V.Visitor.kept_on c.args.file_index in
    rw p.1 (record { runs = tt; counts = tt; keeps = on _ _ _ c.visit_items.ensures.keeps c.visit_items-2.ensures.keeps })

pub returns-in_err-visit_items-3 : goal.returns-in_err-visit_items-3
returns-in_err-visit_items-3 g c =
    let r = c.from_residual-in_err-visit_items-3 in
    let p = err_from_is_err_and r.result r.ensures.1 in
    let on = g.met.V.Visitor.kept_on c.args.file_index in
    rw p.1 (record { runs = tt; counts = tt; keeps = on _ _ _ (on _ _ _ c.visit_items.ensures.keeps c.visit_items-2.ensures.keeps) c.visit_items-3.ensures.keeps })
