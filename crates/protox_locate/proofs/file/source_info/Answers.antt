use Rattle.std.proofs.Common.{map, ap, subst, ◌∙◌}
use Rattle.descriptor_records.specs.Content.{location_view}
use Rattle.protox_lex.specs.Resolver.{feeds}
use Rattle.protox_locate.specs.Collected.{meets}
use Rattle.protox_locate.specs.Files.{AreByPath, file_events}
use Rattle.protox_tree.specs.FileView.{file_view}
use Rattle.protox_locate.proofs.Collects.{all_collected, ended}
use Rattle.protox_locate.proofs.file.source_info.Goals as goal

pub returns : goal.returns
returns c =
    let events = file_events (file_view c.args.file.now) in
    subst (λ ls. AreByPath ls (map location_view c.in_ok-location.location.items))
    (ap ended (c.in_ok-statements.ensures ∙ ap (λ s. meets s events) c.new-locator.ensures) ∙ all_collected c.args.source.now (feeds c.args.lines.now) events)
    c.in_ok-location.ensures
