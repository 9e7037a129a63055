-- What was added to the parts of the pool was added to the pool.
use Rattle.std.proofs.Common.{◌≡◌, IsErrAnd, OnOk, subst, sym, true}
use Rattle.reflect_passes.specs.Errors.{is_too_many}
use Rattle.reflect_build.specs.Accepted.{FaultlessFiles, AddsFiles}
use Rattle.reflect_build.specs.Parts.{StaysOrGrows}
use Rattle.reflect_build.specs.Refusals.{AreTooMany}
use Rattle.reflect_build.proofs.build.DescriptorPoolBuildFiles.build_files.Goals as goal

-- what holds of what the parts were and are holds of what the pool was and is
carried : {A : Type 0} (P : A → A → Type 0) {was old is new : A} → was ≡ old → new ≡ is → P was is
    → P old new
carried P {was} {old} {is} {new} before after holds =
    subst (λ p. P p new) before (subst (P was) (sym after) holds)

pub returns-clause-unchanged : goal.returns-clause-unchanged
returns-clause-unchanged c =
    (carried (StaysOrGrows c.add_files-outcome.result) c.take_parts-parts.ensures.holds
    c.from_parts.ensures c.add_files-outcome.ensures.held).unchanged

pub returns-clause-grown : goal.returns-clause-grown
returns-clause-grown c =
    (carried (StaysOrGrows c.add_files-outcome.result) c.take_parts-parts.ensures.holds
    c.from_parts.ensures c.add_files-outcome.ensures.held).grown

pub returns-clause-can_cut : goal.returns-clause-can_cut
returns-clause-can_cut c =
    (carried (StaysOrGrows c.add_files-outcome.result) c.take_parts-parts.ensures.holds
    c.from_parts.ensures c.add_files-outcome.ensures.held).can_cut

pub returns-clause-too_many : goal.returns-clause-too_many
returns-clause-too_many c =
    subst (λ p. AreTooMany p c.args.files.items
    → IsErrAnd c.add_files-outcome.result (λ e. is_too_many e.first ≡ true))
    c.take_parts-parts.ensures.holds c.add_files-outcome.ensures.too_many

pub returns-clause-added : goal.returns-clause-added
returns-clause-added c =
    carried (λ p q. OnOk c.add_files-outcome.result (AddsFiles p c.args.files.items q))
    c.take_parts-parts.ensures.holds c.from_parts.ensures c.add_files-outcome.ensures.added

pub returns-clause-accepted : goal.returns-clause-accepted
returns-clause-accepted c =
    carried (λ p q. OnOk c.add_files-outcome.result (FaultlessFiles p c.args.files.items q))
    c.take_parts-parts.ensures.holds c.from_parts.ensures c.add_files-outcome.ensures.accepted
