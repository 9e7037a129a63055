use Rattle.std.proofs.Common.{rules, ◌≡◌, ◌++◌, map, ap, ◌∙◌}
use Rattle.std.specs.List.{filter_map}
use Rattle.reflect_contents.specs.Walked.{extensions_left, in_pool, set_extensions_of}
use Rattle.print_parts.specs.Entries.{given_entry, pool_of}
use Rattle.print_parts.specs.Parts.{other_entry}
use Rattle.print_parts.proofs.Giving.{given_all}
use Rattle.print_parts.proofs.entries.push_extensions.Goals as goal

pub loop-extension-init : goal.loop-extension-init
loop-extension-init c =
    let m = c.args.message.now in
    let all : extensions_left c.into_iter-extension-iterator.result ≡ in_pool (pool_of m) (set_extensions_of m) = search rules in
    ap (λ es. map other_entry c.args.others.now.items ++ es) (ap (filter_map given_entry) all ∙ given_all m)
