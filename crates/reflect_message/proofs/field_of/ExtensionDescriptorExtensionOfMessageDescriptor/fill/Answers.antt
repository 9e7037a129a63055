use Rattle.std.proofs.Common.{Some, IfSome, sym, subst}
use Rattle.reflect_scalar.specs.FieldTypes.{extension_pool, extension_type}
use Rattle.reflect_entries.specs.Entries.{value_at}
use Rattle.reflect_message.specs.Held.{extensions_of, UpdatesExtension}
use Rattle.reflect_message.specs.Names.{Value}
use Rattle.reflect_message.specs.Shown.{IsHeldOrDefault}
use Rattle.reflect_message.proofs.Defaulting.{held_or_default}
use Rattle.reflect_message.proofs.field_of.ExtensionDescriptorExtensionOfMessageDescriptor.fill.Goals as goal

pub returns-clause-filled : goal.returns-clause-filled
returns-clause-filled c =
    let extension = c.args.self.now in
    let old = c.args.message.now in
    let new = c.fill_extension.new.self in
    let n = (extension_type extension).number in
    let held = value_at (extensions_of old) n in
    let default = c.in_ok-default.default in
    let put = c.in_ok-fill_extension.ensures in
    subst (λ o. IfSome o (λ (v : Value). IsHeldOrDefault (extension_pool extension) (extension_type extension) held v × UpdatesExtension old new n (Some v))) (sym put.ok.extension.here)
    (held_or_default (extension_pool extension) (extension_type extension) held default c.in_ok-default.ensures, put.ok)
