use Rattle.std.proofs.Common.{List, ℕ, Bor, Option, option_map, subst, sym}
use Rattle.reflect_schema.specs.Runs.{AddsSet}
use Rattle.schema_core.specs.Refusals.{SetLinked}
use Rattle.reflect_schema.proofs.program.add_set.Goals as goal

pub returns-clause-added : goal.returns-clause-added
returns-clause-added g c =
    let gives = g.F.SourceFiles.read_gives in
    let bytes = c.in_ok-bytes.bytes.items in
    let new = c.add_descriptor_set.new.self.pool in
    let linked : SetLinked c.args.schema.now.pool bytes new = subst (λ bs. SetLinked c.args.schema.now.pool bs new) c.as_slice.ensures.value c.in_ok-add_descriptor_set.ensures.linked in
    subst (λ (o : Option (Bor (List ℕ))). AddsSet gives (option_map (λ (p : Bor (List ℕ)). p.now) o) c.args.files.now c.args.schema.now.pool c.read_file.new.files new) (sym c.in-Some.is)
    (bytes, c.in_ok-bytes.ensures.read, linked)
