use Rattle.std.proofs.Common.{rules, ◌≡◌, ◌∙◌, ◌+◌, ◌++◌, ◌∷◌, [], Some, IsSome, ℤ, Vec, Global, length, map, slice_get, take, ap, sym, refl, subst}
use Rattle.std.proofs.lemmas.List.{map-append, take_more}
use Rattle.std.proofs.lemmas.Option.{slice_get_read}
use Rattle.descriptor_records.specs.declared.options.UninterpretedOption.{UninterpretedOption}
use Rattle.descriptor_records.specs.Content.{option_view}
use Rattle.option_setter.proofs.Refusals.{unless_then}
use Rattle.option_setter.specs.OptionNames.{UnlessMemory}
use Rattle.option_setter.specs.SetOptions.{RefusesParts}
use Rattle.option_setter.specs.WrittenNames.{TellsOption}
use Rattle.reflect_options.specs.Settled.{RefusesAt, SetsAll, SetsOption, lists_of}
use Rattle.reflect_options.proofs.Setting.{refused_at, set_more}
use Rattle.reflect_options.proofs.settled_options.set_all.Goals as goal

pub returns-in-Err-clause-refused : goal.returns-in-Err-clause-refused
returns-in-Err-clause-refused c =
    let os = c.args.options.now in
    let x = c.index-options-place.result in
    let at : slice_get os c.options.place ≡ Some x = slice_get_read os (length os) c.options.place x refl (search rules) c.index-options-place.is in
    let front = c.options.message in
    let kind = c.in-Err.kind in
    let refused = subst (λ s. UnlessMemory (RefusesParts s (option_view x) 100 x.name.items front) kind) c.new.ensures.scope
    (subst (λ (o : UninterpretedOption). UnlessMemory (RefusesParts c.new.result.scope (option_view o) 100 o.name.items front) kind) c.new.ensures.option c.in-Err.ensures.refused) in
    let named = subst (λ (o : UninterpretedOption). TellsOption (option_view o) kind) c.new.ensures.option c.in-Err.ensures.named in
    unless_then (λ e. RefusesAt c.args.names os c.args.message.now c.options.place e) (λ e. RefusesAt c.args.names os c.args.message.now c.options.place e × IsSome (Some c.options.place)) (λ e h. (h, refl)) kind
    (refused_at c.args.names os c.args.message.now front c.options.place (lists_of c.options.targets) x kind at c.options.invariant.set refused named)

pub options-preserved : goal.options-preserved
options-preserved c =
    let os = c.args.options.now in
    let k = c.options.place in
    let x = c.index-options-place.result in
    let more : take (k + 1) os ≡ take k os ++ x ∷ [] = take_more os k x c.options-test.true ∙ ap (λ o. take k os ++ o ∷ []) (sym c.index-options-place.is) in
    let path = c.in-Ok.target.items in
    let sets : SetsOption c.args.names x c.options.message c.set.new.message path = subst (λ s. SetsOption s x c.options.message c.set.new.message path) c.new.ensures.scope
    (subst (λ o. SetsOption c.new.result.scope o c.options.message c.set.new.message path) c.new.ensures.option c.in-Ok.ensures.set) in
    let pushed : lists_of c.push.new.self ≡ lists_of c.options.targets ++ path ∷ [] =
    ap (map (λ (p : Vec ℤ Global). p.items)) c.in_ok-push-in-Ok.ensures.items ∙ map-append (λ (p : Vec ℤ Global). p.items) c.options.targets.items (c.in-Ok.target ∷ []) in
    record {
      kind = c.set.ensures.type_stays ∙ c.options.invariant.kind;
      set = subst (λ l. SetsAll c.args.names l c.args.message.now c.set.new.message (lists_of c.push.new.self)) (sym more)
          (subst (λ l. SetsAll c.args.names (take k os ++ x ∷ []) c.args.message.now c.set.new.message l) (sym pushed)
          (set_more c.args.names (take k os) x c.args.message.now c.options.message c.set.new.message (lists_of c.options.targets) path c.options.invariant.set sets));
    }
