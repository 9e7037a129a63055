use Rattle.std.proofs.Common.{ap, ◌∙◌, sym, map}
use Rattle.std.proofs.lemmas.Slice.Zip.{firsts-zip}
use Rattle.reflect_entries.proofs.entries.Entries.numbers.Goals as goal

pub returns : goal.returns
returns g c = c.as_slice.ensures.value ∙ (sym (firsts-zip c.self.inside.numbers.items c.self.inside.values.items c.self.invariant.0) ∙ ap (λ es. map (λ e. e.0) es) c.self.view_is)
