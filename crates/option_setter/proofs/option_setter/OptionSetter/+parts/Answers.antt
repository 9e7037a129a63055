use Rattle.std.proofs.Common.{rules, ◌≡◌, ◌++◌, ◌∷◌, [], suc, ◌-◌, subst, ap, ◌∙◌, append_assoc, length, to_z, of_z, w32}
use Rattle.std.specs.Int.{cast_signed}
use Rattle.std.proofs.lemmas.Result.{err_from_is_err_and}
use Rattle.descriptor_records.specs.Content.{option_view}
use Rattle.option_setter.specs.OptionNames.{LacksTarget, NamesTarget}
use Rattle.option_setter.specs.SetOptions.{LeadsNowhere, RefusesLast, RefusesParts, number_of}
use Rattle.option_setter.proofs.Parts.{empty, lacks_target, leads_nowhere, refuses_inner, refuses_last, set_inner_part, set_last_part, too_deep}
use Rattle.option_setter.proofs.Refusals.{err_unless, on_ok, unless_then}
use Rattle.option_setter.proofs.option_setter.OptionSetter.+parts.Goals as goal

-- src/option_setter.rt:113:22
pub returns-in_err-target-clause-refused : goal.returns-in_err-target-clause-refused
returns-in_err-target-clause-refused t c =
    let s = c.args.self.now.scope in
    let o = option_view c.args.self.now.option.now in
    let m = c.args.message.now in
    let part = c.in-Some.part.now in
    let rest = c.in-Some.rest.now in
    let is = c.in-Some.ensures.cases.0 in
    let r = c.from_residual in
    let p = err_from_is_err_and r.result r.ensures.1 in
    rw (p.1, p.2) (unless_then (LacksTarget s c.descriptor.result part) (RefusesParts s o c.args.levels c.args.parts.now m)
    (λ e h. lacks_target s o part m e c.args.levels c.args.parts.now rest is (subst (λ d. LacksTarget s d part e) c.descriptor.ensures h))
    c.in_err-target.field-0.0 c.in_err-target.ensures.refused)

-- src/option_setter.rt:116:13
pub returns-then-is_empty-clause-set : goal.returns-then-is_empty-clause-set
returns-then-is_empty-clause-set t c =
    let s = c.args.self.now.scope in
    let o = option_view c.args.self.now.option.now in
    let m = c.args.message.now in
    let part = c.in-Some.part.now in
    let rest = c.in-Some.rest.now in
    let is = c.in-Some.ensures.cases.0 in
    let target = c.in_ok-target.target in
    let named = subst (λ d. NamesTarget s d part target) c.descriptor.ensures c.in_ok-target.ensures.found in
    let none : rest ≡ [] = empty rest (let n : length rest ≡ 0 = search rules in n) in
    let bits : to_z w32 (of_z w32 c.cast_signed.result) ≡ c.cast_signed.result = search rules in
    let pushed : c.push.new.self.items ≡ c.args.path.now.items ++ number_of target ∷ [] =
    c.in_ok-push.ensures.items ∙ ap (λ z. c.args.path.now.items ++ z ∷ []) (bits ∙ c.cast_signed.ensures ∙ ap (cast_signed w32) c.number_of.ensures) in
    on_ok _ _ (λ w. (
      number_of target ∷ w.0,
      set_last_part s o part target c.args.levels c.args.parts.now rest is none m c.set_last.new.message w.0 named w.1,
      w.2 ∙ ap (λ l. l ++ w.0) pushed ∙ append_assoc c.args.path.now.items (number_of target ∷ []) w.0,
    )) c.set_last.result c.set_last.ensures.set

-- src/option_setter.rt:116:13
pub returns-then-is_empty-clause-refused : goal.returns-then-is_empty-clause-refused
returns-then-is_empty-clause-refused t c =
    let s = c.args.self.now.scope in
    let o = option_view c.args.self.now.option.now in
    let m = c.args.message.now in
    let part = c.in-Some.part.now in
    let rest = c.in-Some.rest.now in
    let is = c.in-Some.ensures.cases.0 in
    let target = c.in_ok-target.target in
    let named = subst (λ d. NamesTarget s d part target) c.descriptor.ensures c.in_ok-target.ensures.found in
    let none : rest ≡ [] = empty rest (let n : length rest ≡ 0 = search rules in n) in
    err_unless (RefusesLast target o m) (RefusesParts s o c.args.levels c.args.parts.now m)
    (λ e h. refuses_last s o part target m e c.args.levels c.args.parts.now rest is none named h)
    c.set_last.result c.set_last.ensures.refused

-- src/option_setter.rt:119:13
pub returns-then-levels-eq0-clause-refused : goal.returns-then-levels-eq0-clause-refused
returns-then-levels-eq0-clause-refused t c =
    let s = c.args.self.now.scope in
    let o = option_view c.args.self.now.option.now in
    let m = c.args.message.now in
    let part = c.in-Some.part.now in
    let rest = c.in-Some.rest.now in
    let is = c.in-Some.ensures.cases.0 in
    let target = c.in_ok-target.target in
    let named = subst (λ d. NamesTarget s d part target) c.descriptor.ensures c.in_ok-target.ensures.found in
    let some : rest ≡ [] → ⊥ = search rules in
    let none : c.args.levels ≡ 0 = search rules in
    too_deep s o part target c.args.levels none c.args.parts.now rest is some m named

-- src/option_setter.rt:121:25
pub returns-in_err-inner-clause-refused : goal.returns-in_err-inner-clause-refused
returns-in_err-inner-clause-refused t c =
    let s = c.args.self.now.scope in
    let o = option_view c.args.self.now.option.now in
    let m = c.args.message.now in
    let part = c.in-Some.part.now in
    let rest = c.in-Some.rest.now in
    let is = c.in-Some.ensures.cases.0 in
    let target = c.in_ok-target.target in
    let named = subst (λ d. NamesTarget s d part target) c.descriptor.ensures c.in_ok-target.ensures.found in
    let some : rest ≡ [] → ⊥ = search rules in
    let one : c.args.levels ≡ suc (c.args.levels - 1) = search rules in
    let r = c.from_residual-in_err-inner in
    let p = err_from_is_err_and r.result r.ensures.1 in
    rw (p.1, p.2) (unless_then (LeadsNowhere target m) (RefusesParts s o c.args.levels c.args.parts.now m)
    (λ e h. leads_nowhere s o part target m e c.args.levels (c.args.levels - 1) one c.args.parts.now rest is some named h)
    c.in_err-inner.field-0.0 c.in_err-inner.ensures.refused)

-- src/option_setter.rt:122:9
pub returns-in_err-set_parts-clause-refused : goal.returns-in_err-set_parts-clause-refused
returns-in_err-set_parts-clause-refused t c =
    let s = c.args.self.now.scope in
    let o = option_view c.args.self.now.option.now in
    let m = c.args.message.now in
    let part = c.in-Some.part.now in
    let rest = c.in-Some.rest.now in
    let is = c.in-Some.ensures.cases.0 in
    let target = c.in_ok-target.target in
    let named = subst (λ d. NamesTarget s d part target) c.descriptor.ensures c.in_ok-target.ensures.found in
    let some : rest ≡ [] → ⊥ = search rules in
    let one : c.args.levels ≡ suc (c.args.levels - 1) = search rules in
    let r = c.from_residual-in_err-set_parts in
    let p = err_from_is_err_and r.result r.ensures.1 in
    rw (p.1, p.2) (unless_then (RefusesParts s o (c.args.levels - 1) rest c.in_ok-inner.inner) (RefusesParts s o c.args.levels c.args.parts.now m)
    (λ e h. refuses_inner s o part target m e c.args.levels (c.args.levels - 1) one c.args.parts.now rest is some named c.inner.new.message c.in_ok-inner.inner c.in_ok-inner.ensures.led h)
    c.in_err-set_parts.field-0.0 c.in_err-set_parts.ensures.refused)

-- src/option_setter.rt:96:5
pub returns-clause-set : goal.returns-clause-set
returns-clause-set t c =
    let s = c.args.self.now.scope in
    let o = option_view c.args.self.now.option.now in
    let m = c.args.message.now in
    let part = c.in-Some.part.now in
    let rest = c.in-Some.rest.now in
    let is = c.in-Some.ensures.cases.0 in
    let target = c.in_ok-target.target in
    let named = subst (λ d. NamesTarget s d part target) c.descriptor.ensures c.in_ok-target.ensures.found in
    let some : rest ≡ [] → ⊥ = search rules in
    let one : c.args.levels ≡ suc (c.args.levels - 1) = search rules in
    let bits : to_z w32 (of_z w32 c.cast_signed.result) ≡ c.cast_signed.result = search rules in
    let pushed : c.push.new.self.items ≡ c.args.path.now.items ++ number_of target ∷ [] =
    c.in_ok-push.ensures.items ∙ ap (λ z. c.args.path.now.items ++ z ∷ []) (bits ∙ c.cast_signed.ensures ∙ ap (cast_signed w32) c.number_of.ensures) in
    let w = c.in_ok-set_parts.ensures.set in (
      number_of target ∷ w.0,
      set_inner_part s o part target c.args.levels (c.args.levels - 1) one c.args.parts.now rest is some m c.inner.new.message c.in_ok-inner.inner c.set_parts.new.message c.set.new.message w.0
          named c.in_ok-inner.ensures.led w.1 c.in_ok-set.ensures.ok (search rules) c.in_ok-set.ensures.exclusive c.in_ok-set.ensures.ascending,
      w.2 ∙ ap (λ l. l ++ w.0) pushed ∙ append_assoc c.args.path.now.items (number_of target ∷ []) w.0,
    )
