use Rattle.std.proofs.Common.{rules, ◌≡◌, ◌∙◌, List, ℕ, Vec, Global, ap, map, subst}
use Rattle.std.specs.List.{zip}
use Rattle.reflect_schema.specs.Runs.{RefusesNamed, source_names}
use Rattle.reflect_schema.specs.declared.program.RunFault.TheVariants as run
use Rattle.run_parts.specs.Refusals.{AreTexts}
use Rattle.schema_core.specs.Refusals.{SourcesLinked, SourcesRefused, sources_of}
use Rattle.reflect_schema.proofs.program.add_named.Goals as goal

pub returns-clause-added : goal.returns-clause-added
returns-clause-added g c =
    let names = source_names c.args.wanted in
    let texts : List (List ℕ) = map (λ (b : Vec ℕ Global). b.items) c.in_ok-contents.contents.items in
    let read = ap (λ (bs : List (Vec ℕ Global)). zip names (map (λ (b : Vec ℕ Global). b.items) bs)) c.as_slice.ensures.value in
    let named : sources_of c.as_slice-2.result.now ≡ zip names texts = ap sources_of c.as_slice-2.ensures.value ∙ c.in_ok-sources.ensures.texts ∙ read in
    let are : AreTexts (zip names texts) = subst AreTexts read c.in_ok-sources.ensures.utf8 in
    let linked : SourcesLinked c.args.schema.now.pool (zip names texts) c.add_sources.new.self.pool =
    subst (λ s. SourcesLinked c.args.schema.now.pool s c.add_sources.new.self.pool) named c.in_ok-add_sources.ensures.linked in
    (texts, c.in_ok-contents.ensures.read, are, linked)

pub returns-in_err-add_sources-clause-refused : goal.returns-in_err-add_sources-clause-refused
returns-in_err-add_sources-clause-refused g c =
    let gives = g.F.SourceFiles.read_gives in
    let names = source_names c.args.wanted in
    let e = c.in_err-add_sources.field-0.0 in
    let texts : List (List ℕ) = map (λ (b : Vec ℕ Global). b.items) c.in_ok-contents.contents.items in
    let read = ap (λ (bs : List (Vec ℕ Global)). zip names (map (λ (b : Vec ℕ Global). b.items) bs)) c.as_slice.ensures.value in
    let named : sources_of c.as_slice-2.result.now ≡ zip names texts = ap sources_of c.as_slice-2.ensures.value ∙ c.in_ok-sources.ensures.texts ∙ read in
    let are : AreTexts (zip names texts) = subst AreTexts read c.in_ok-sources.ensures.utf8 in
    let refused : SourcesRefused c.args.schema.now.pool (zip names texts) e = subst (λ s. SourcesRefused c.args.schema.now.pool s e) named c.in_err-add_sources.ensures.err in
    let told : RefusesNamed gives c.args.wanted.root.now names c.args.files.now c.args.schema.now.pool (run.Schema e) c.read_sources.new.files =
    (texts, c.in_ok-contents.ensures.read, are, refused) in
    search rules
