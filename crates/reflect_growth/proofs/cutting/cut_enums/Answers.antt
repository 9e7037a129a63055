use Rattle.std.proofs.Common.{map, nat_lt, ap, ◌∙◌, rules}
use Rattle.std.proofs.lemmas.Fn.{filter_same}
use Rattle.reflect_tables.specs.Views.{enum_of}
use Rattle.reflect_growth.proofs.Filters.{map-filter}
use Rattle.reflect_growth.proofs.cutting.cut_enums.Goals as goal

pub returns : goal.returns
returns c =
    ap (map enum_of) (filter_same _ (λ x. nat_lt x.file c.args.mark) _ (λ x b g h. search rules) _ _ c.retain.ensures.filtered)
    ∙ map-filter enum_of (λ y. nat_lt y.file c.args.mark) c.args.items.now.items
