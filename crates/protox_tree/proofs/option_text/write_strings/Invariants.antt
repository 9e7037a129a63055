use Rattle.std.proofs.Common.{map, take, ◌∷◌}
use Rattle.std.specs.Fmt.{HasWritten, IsPlainFormatter}
use Rattle.std.specs.List.{flat_map}
use Rattle.protox_tree.specs.TreeTexts as texts
use Rattle.protox_tree.specs.View.{literals_view}
use Rattle.protox_tree.proofs.option_text.write_strings.Given as goal

abbrev pub invariant-others : goal.invariant-others
invariant-others g l =
    IsPlainFormatter l.initial.f
    → HasWritten g.W.Write.write_str_gives l.initial.f (flat_map (λ s. 32 ∷ s) (map texts.literal_text (literals_view (take l.literal-index l.others)))) l.f
