use Rattle.std.proofs.Common.{◌∙◌, map, ap, sym, subst}
use Rattle.descriptor_records.specs.Content.{OptionsContent, option_view}
use Rattle.plain_records.specs.SourceOptions.{AreAsRead}
use Rattle.stored_options.proofs.Unwritten.{unwritten_again}
use Rattle.stored_options.proofs.orders.options_without_a_type_settle_to_what_they_are_in_another_order.Goals as goal

pub returns : goal.returns
returns c = λ s t scope o x settled paths sound can given same stay settles.
    unwritten_again scope t x settled paths sound can (subst (AreAsRead scope) (sym same) given.0)
    (ap (λ (v : OptionsContent). v.uninterpreted_option) same ∙ ap (map option_view) stay.1) settles
