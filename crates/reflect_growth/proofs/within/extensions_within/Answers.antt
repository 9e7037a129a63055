use Rattle.std.proofs.Common.{rules}
use Rattle.std.proofs.lemmas.Bool.Decides.{not_from_Decides}
use Rattle.reflect_tables.specs.Types.{ExtensionWithin}
use Rattle.reflect_tables.specs.Views.{extension_of}
use Rattle.reflect_growth.proofs.More.{one_fails}
use Rattle.reflect_growth.proofs.within.extensions_within.Goals as goal

-- the extension is not within
pub returns-then-not-extension_within : goal.returns-then-not-extension_within
returns-then-not-extension_within c =
    one_fails (ExtensionWithin c.args.counts) extension_of c.args.items.now c.loop-extension.extension-index c.extension-item.result (search) (search) (not_from_Decides c.extension_within.result c.extension_within.ensures (search rules))
