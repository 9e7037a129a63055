-- What is written goes over what the field was set to.
use Rattle.std.proofs.Common.{◌≡◌, Some, IfSome, refl, sym, ap, is_some, subst}
use Rattle.reflect_entries.specs.Entries.{value_at}
use Rattle.reflect_message.specs.Held.{fields_of}
use Rattle.reflect_message.proofs.message.MessageOf.get_field_mut.Goals as goal

pub returns : goal.returns
returns g c =
    let field = c.args.field.now in
    let old = c.args.self.now in
    let new = c.fill.new.message in
    let n = g.F.FieldOf.number_of field in
    let at : value_at (fields_of new) n ≡ Some c.in-Some.value.now = sym (rw (c.in-Some.is, c.number.ensures) at c.field_value_mut.ensures.value) in
    let filled = subst (λ o. IfSome o (λ v. g.F.FieldOf.shows field (value_at (fields_of old) n) v × g.F.FieldOf.sets field old new v)) at c.in_ok-fill.ensures.filled in (
      (
        refl,
        (λ w ok. g.met.F.FieldOf.sets_again field old new _ c.in-Some.value.now w filled.1
            (rw c.number.ensures at c.field_value_mut.follows.holds w (ap is_some c.in-Some.is))),
        tt,
      ),
      record { writes_back = tt; value = filled.0 },
    )
