-- A part of a name leads to one number in scopes of one pool in which names mean the same
-- extensions.
use Rattle.std.proofs.Common.{◌≡◌, ◌∙◌, sym, subst}
use Rattle.message_view.specs.Sound.{IsSound}
use Rattle.option_setter.specs.OptionNames.{NamesTarget}
use Rattle.option_setter.specs.declared.option_setter.NameScope.{NameScope}
use Rattle.reflect_pool.specs.declared.message.MessageDescriptor.{MessageDescriptor}
use Rattle.stored_options.specs.NamedNumbers.{numbers_named}
use Rattle.stored_options.specs.SetOptions.{LeadAlike}
use Rattle.stored_options.proofs.Led.{Names}
use Rattle.stored_options.proofs.OneTarget.{NameAlike, one_target}
use Rattle.stored_options.proofs.TwinPools.{AreTwinPools, one_place, twins_itself, twins_moved}

pub one_number : (s t : NameScope) → NameAlike s t → s.pool.now ≡ t.pool.now → IsSound s.pool.now
    → LeadAlike (numbers_named s) (numbers_named t)
one_number s t alike pool sound u part n k x y =
    let d : MessageDescriptor = x.of_type in
    let e : MessageDescriptor = y.of_type in
    let twins : AreTwinPools d.pool.now e.pool.now =
    twins_moved s.pool.now s.pool.now d.pool.now e.pool.now x.in_pool (y.in_pool ∙ sym pool)
    (twins_itself s.pool.now sound) in
    let index : d.index ≡ e.index =
    one_place d.pool.now e.pool.now twins d.index e.index d.in_range e.in_range
    (x.called ∙ sym y.called) in
    let named : NamesTarget t e x.written y.target =
    subst (λ c. Names t e c y.target) (y.same_part ∙ sym x.same_part) y.named in
    sym x.number ∙ one_target s t alike d e twins index x.written x.target y.target x.named named
    ∙ y.number
