use Rattle.std.proofs.lemmas.Result.{err_from_is_err_and, IfErr-weaker, on_ok_weaker}
use Rattle.schema_core.specs.Refusals.{FilesRefused, SourcesRefused, sources_of}
use Rattle.schema_core.proofs.Refused.{lent, all_read, one_read, of_parse, of_refused, of_sources}
use Rattle.schema_core.proofs.schema.Schema.add_sources.Goals as goal

pub returns-in_err-parse-clause-err : goal.returns-in_err-parse-clause-err
returns-in_err-parse-clause-err c =
    let p = err_from_is_err_and c.from_residual.result c.from_residual.ensures.1 in
    let i = c.loop-source.source-index in
    rw (p.1, p.2) (of_refused c.args.self.now.pool c.args.sources.now i _ c.loop-source.files.items c.in_err-parse.field-0.0 (lent c.args.sources.now i _ c.loop-source-test.true) c.loop-source.invariant.0 c.in_err-parse.ensures.refused c.in_err-parse.ensures.too_large c.in_err-parse.ensures.answered)

pub returns-clause-linked : goal.returns-clause-linked
returns-clause-linked c =
    let read = all_read c.args.sources.now c.loop-source.source-index c.loop-source.files.items c.loop-source-test.false c.loop-source.invariant in
    on_ok_weaker c.add_batch.result (λ l. (c.loop-source.files.items, read.0, l)) c.add_batch.ensures.linked

pub returns-clause-small : goal.returns-clause-small
returns-clause-small c =
    let read = all_read c.args.sources.now c.loop-source.source-index c.loop-source.files.items c.loop-source-test.false c.loop-source.invariant in
    on_ok_weaker c.add_batch.result (λ l. read.1) c.add_batch.ensures.linked

pub returns-clause-err : goal.returns-clause-err
returns-clause-err c =
    let p = c.args.self.now.pool in
    let files = c.loop-source.files.items in
    let batch = sources_of c.args.sources.now in
    let read = all_read c.args.sources.now c.loop-source.source-index files c.loop-source-test.false c.loop-source.invariant in
    IfErr-weaker c.add_batch.result (FilesRefused p files) (SourcesRefused p batch) (λ e. of_sources p batch files e read.0) c.add_batch.ensures.err

pub loop-source-preserved : goal.loop-source-preserved
loop-source-preserved c =
    let i = c.loop-source.source-index in
    let parsed = c.in_ok-parse in
    one_read c.args.sources.now i _ _ _ parsed.field-0 c.loop-source-test.true c.loop-source.invariant (of_parse _ _ parsed.field-0 parsed.ensures.answered parsed.ensures.too_large) c.in_ok-push.ensures.items
