use Rattle.descriptor_records.specs.Content.{file_view, source_info_view}
use Rattle.protox_check.specs.Faults.{faults_of}
use Rattle.protox_lex.specs.Resolver.{feeds}
use Rattle.protox_parse.proofs.Answered.{named, none_there, placed, refused_there}
use Rattle.std.proofs.Common.{◌≡◌, ◌∙◌, [], inl, inr, arith, refl, sym}
use Rattle.std.proofs.lemmas.Result.{err_from_is_err_and}
use Rattle.protox_tree.specs.FileView as trees
use Rattle.protox_parse.proofs.source.described.Goals as goal

pub returns-in_err-faults : goal.returns-in_err-faults
returns-in_err-faults c =
    let p = err_from_is_err_and c.from_residual.result c.from_residual.ensures.1 in
    rw (p.1, p.2) (record { named = tt; refused = inl refl; recorded = tt; faultless = tt; faulty = inl refl })

pub returns-in_err-new : goal.returns-in_err-new
returns-in_err-new c =
    let p = err_from_is_err_and c.from_residual-in_err-new.result c.from_residual-in_err-new.ensures.1 in
    rw (p.1, p.2) (record { named = tt; refused = inl refl; recorded = tt; faultless = tt; faulty = inl refl })

pub returns-in_err-info : goal.returns-in_err-info
returns-in_err-info c =
    let p = err_from_is_err_and c.from_residual-in_err-info.result c.from_residual-in_err-info.ensures.1 in
    rw (p.1, p.2) (record { named = tt; refused = inl refl; recorded = tt; faultless = tt; faulty = inl refl })

pub returns-in_err-record : goal.returns-in_err-record
returns-in_err-record c =
    let p = err_from_is_err_and c.from_residual-in_err-record.result c.from_residual-in_err-record.ensures.1 in
    rw (p.1, p.2) (record { named = tt; refused = inl refl; recorded = tt; faultless = tt; faulty = inl refl })

pub returns-then-not-is_empty : goal.returns-then-not-is_empty
returns-then-not-is_empty c =
    let r = c.in_ok-new.field-0 in
    let made = c.in_ok-new.ensures in
    let all : r.faults.items ≡ faults_of (trees.file_view c.args.file.now) = rw made.faults c.in_ok-faults.ensures in
    record {
      named = tt;
      refused = inr (refused_there c.args.name.now c.args.source.now (feeds c.args.lines.now) r c.requires made.file made.position);
      recorded = tt;
      faultless = tt;
      faulty = inr (all, omega (arith, r.some, r.faults.ok.0));
    }

pub returns : goal.returns
returns c =
    let none : c.in_ok-faults.faults.items ≡ [] =
    none_there c.in_ok-faults.faults c.is_empty.result c.is_empty.ensures c.if-not-is_empty.false in
    record {
      named = named c.args.name.now c.args.file.now (file_view c.in_ok-record.record) c.in_ok-record.ensures;
      refused = tt;
      recorded = placed c.args.name.now c.args.source.now (feeds c.args.lines.now) c.args.file.now
          (file_view c.in_ok-record.record) (source_info_view c.in_ok-info.info) c.requires c.in_ok-record.ensures c.in_ok-info.ensures;
      faultless = sym c.in_ok-faults.ensures ∙ none;
      faulty = tt;
    }
