use Rattle.std.proofs.Common.{rules, ℕ, List, Bor, Vec, Global, map, get_or, ap, ◌∙◌, Ok}
use Rattle.std.proofs.lemmas.List.{drop_all, map_push}
use Rattle.run_parts.specs.Reads.{path_under}
use Rattle.run_parts.proofs.Reading.{next_name, no_text, read_more, refused_more, no_place, read_all}
use Rattle.run_parts.proofs.files.read_sources.Goals as goal

pub names-preserved : goal.names-preserved
names-preserved g c =
    let gives = g.F.SourceFiles.read_gives in
    let root = c.args.wanted.root.now in
    let names = c.args.wanted.names.now in
    let n = (get_or names c.names.name-index no_text).now in
    let bytes = c.in_ok-read_file.field-0 in
    let is = next_name names c.names.name-index c.names-test.true in
    let step : gives c.names.files (path_under root n) (Ok bytes.items) c.read_file.new.files = search rules in
    let grown = ap (map (λ (b : Vec ℕ Global). b.items)) c.in_ok-push.ensures.items ∙ map_push (λ (b : Vec ℕ Global). b.items) c.names.contents.items bytes in
    record {
      read = read_more gives root _ _ _ _ n bytes.items is _ _ step _ _ grown c.names.invariant.read;
      refused = refused_more gives root _ _ _ _ n bytes.items is _ _ step c.names.invariant.refused;
    }

pub returns-in_err-push-clause-refused : goal.returns-in_err-push-clause-refused
returns-in_err-push-clause-refused g c =
    let gives = g.F.SourceFiles.read_gives in
    let root = c.args.wanted.root.now in
    let names = c.args.wanted.names.now in
    let n = (get_or names c.names.name-index no_text).now in
    let bytes = c.in_ok-read_file.field-0 in
    let is = next_name names c.names.name-index c.names-test.true in
    let step : gives c.names.files (path_under root n) (Ok bytes.items) c.read_file.new.files = search rules in
    let told = no_place gives root _ _ _ _ n bytes.items is _ _ step c.names.invariant.refused in
    search rules

pub returns-clause-read : goal.returns-clause-read
returns-clause-read g c =
    let names = c.args.wanted.names.now in
    let none = ap (map (λ (n : Bor (List ℕ)). n.now)) (drop_all c.names.name-index names (search rules)) in
    read_all g.F.SourceFiles.read_gives c.args.wanted.root.now _ _ _ _ _ none c.names.invariant.read
