use Rattle.std.proofs.Common.{◌≡◌, ◌∙◌, List, ℕ, Bor, Option, option_map, subst, sym}
use Rattle.std.specs.Str.{IsUtf8}
use Rattle.reflect_pool.specs.Linked.{empty_pool}
use Rattle.reflect_schema.specs.Runs.{Begins, first_source}
use Rattle.schema_core.specs.Refusals.{SourcesLinked}
use Rattle.reflect_schema.proofs.program.first_schema.Goals as goal

pub returns-clause-begins : goal.returns-clause-begins
returns-clause-begins g c =
    let gives = g.F.SourceFiles.read_gives in
    let text = c.in_ok-bytes.bytes.items in
    let made = c.in_ok-new.field-0.pool in
    let whole : c.in_ok-text.text.now ≡ text = c.in_ok-text.ensures.text.0 ∙ c.as_slice.ensures.value in
    let utf8 : IsUtf8 text = subst IsUtf8 c.as_slice.ensures.value c.in_ok-text.ensures.text.1 in
    let linked : SourcesLinked empty_pool (first_source text) made = subst (λ t. SourcesLinked empty_pool (first_source t) made) whole c.in_ok-new.ensures.linked in
    subst (λ (o : Option (Bor (List ℕ))). Begins gives (option_map (λ (p : Bor (List ℕ)). p.now) o) c.args.files.now made c.read_file.new.files) (sym c.in-Some.is)
    (text, c.in_ok-bytes.ensures.read, utf8, linked, c.in_ok-new.ensures.types)
