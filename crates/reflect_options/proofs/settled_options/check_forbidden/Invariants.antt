use Rattle.std.proofs.Common.{◌≡◌, true}
use Rattle.std.specs.List.{AllWithin}
use Rattle.descriptor_records.specs.Content.{option_view}
use Rattle.reflect_options.specs.Settled.{is_forbidden}
use Rattle.reflect_options.proofs.settled_options.check_forbidden.Given as goal

abbrev pub invariant-options : goal.invariant-options
invariant-options l = AllWithin (λ x. is_forbidden l.scope (option_view x).name ≡ true → ⊥) l.option-items 0 l.place
