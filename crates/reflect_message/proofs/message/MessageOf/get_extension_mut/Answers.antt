-- What is written goes over what the extension was set to.
use Rattle.std.proofs.Common.{◌≡◌, Some, IfSome, refl, sym, ap, is_some, subst}
use Rattle.reflect_entries.specs.Entries.{value_at}
use Rattle.reflect_message.specs.Held.{extensions_of, UpdatesExtension}
use Rattle.reflect_message.proofs.Blocks.{extension_again}
use Rattle.reflect_message.proofs.message.MessageOf.get_extension_mut.Goals as goal

pub returns : goal.returns
returns g c =
    let extension = c.args.extension.now in
    let old = c.args.self.now in
    let new = c.fill.new.message in
    let n = g.X.ExtensionOf.number_of extension in
    let at : value_at (extensions_of new) n ≡ Some c.in-Some.value.now = sym (rw (c.in-Some.is, c.number.ensures) at c.extension_value_mut.ensures.value) in
    let filled = subst (λ o. IfSome o (λ v. g.X.ExtensionOf.shows extension (value_at (extensions_of old) n) v × UpdatesExtension old new n (Some v))) at c.in_ok-fill.ensures.filled in (
      (
        refl,
        (λ w ok. extension_again filled.1 (rw c.number.ensures at c.extension_value_mut.follows.holds w (ap is_some c.in-Some.is))),
        tt,
      ),
      record { writes_back = tt; value = filled.0 },
    )
