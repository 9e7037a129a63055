use Rattle.std.proofs.Common.{ap, ◌∙◌, sym, map}
use Rattle.std.proofs.lemmas.Slice.Zip.{seconds-zip}
use Rattle.reflect_entries.proofs.entries.Entries.values.Goals as goal

pub returns : goal.returns
returns g c = c.as_slice.ensures.value ∙ (sym (seconds-zip c.self.inside.numbers.items c.self.inside.values.items c.self.invariant.0) ∙ ap (λ es. map (λ e. e.1) es) c.self.view_is)
