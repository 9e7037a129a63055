use Rattle.std.proofs.Common.{nat_lt, rules}
use Rattle.std.proofs.lemmas.Fn.{filter_same}
use Rattle.reflect_growth.proofs.cutting.cut_messages.Goals as goal

pub returns : goal.returns
returns c =
    filter_same _ (λ x. nat_lt x.file c.args.mark) _ (λ x b g h. search rules) _ _ c.retain.ensures.filtered
