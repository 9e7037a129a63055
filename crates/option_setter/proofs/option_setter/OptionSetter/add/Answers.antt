use Rattle.std.proofs.Common.{rules, ◌≡◌, ◌++◌, ◌∷◌, [], ℤ, Vec, Global, if◌then◌else◌, refl, inr, sym, ap, ◌∙◌, append-nil, to_z, of_z, w32}
use Rattle.std.proofs.lemmas.Result.{err_from_is_err_and}
use Rattle.descriptor_records.specs.Content.{option_view}
use Rattle.reflect_format.specs.Steps.{held_by}
use Rattle.option_setter.specs.SetOptions.{RefusesLast, RefusesValue, count_held, next_place, place_of}
use Rattle.option_setter.proofs.Parts.{refuses_last_value}
use Rattle.option_setter.proofs.Refusals.{unless_then}
use Rattle.option_setter.proofs.option_setter.OptionSetter.add.Goals as goal
use Rattle.option_setter.proofs.option_setter.OptionSetter.add.Goals.{then-is_list+in_ok-place+in_ok-push, else-is_list}

-- src/option_setter.rt:248:5
pub returns-clause-set : goal.returns-clause-set
returns-clause-set c =
    let t = c.args.target in
    let path : c.if-is_list.path.items ≡ c.args.path.now.items ++ next_place t c.args.message.now = elim c.if-is_list.branch [
      | then-is_list+in_ok-place+in_ok-push w ↦
          let bits : to_z w32 (of_z w32 w.place_of.result) ≡ w.place_of.result = search rules in
          let count : w.in_ok-place.place ≡ count_held (held_by c.args.message.now t) = w.in_ok-place.ensures (sym w.if-is_list.ensures) in
          let number = bits ∙ w.place_of.ensures ∙ ap place_of count in
          ap (λ (p : Vec ℤ Global). p.items) w.path-is ∙ w.in_ok-push.ensures.items ∙ ap (λ z. c.args.path.now.items ++ z ∷ []) number
          ∙ ap (λ b. c.args.path.now.items ++ (if b then place_of (count_held (held_by c.args.message.now t)) ∷ [] else [])) w.if-is_list.ensures
      | else-is_list w ↦
          ap (λ (p : Vec ℤ Global). p.items) w.path-is ∙ sym (append-nil c.args.path.now.items)
          ∙ ap (λ b. c.args.path.now.items ++ (if b then place_of (count_held (held_by c.args.message.now t)) ∷ [] else [])) w.if-is_list.ensures
    ] in (
      next_place t c.args.message.now,
      record {
        no_floats = c.requires.no_floats;
        put = (c.kind.result, c.kind.ensures, c.in_ok-value.value, c.in_ok-value.ensures.said, inr (c.requires.many, search rules));
        same_type = search rules;
        placed = refl;
        exclusive = search rules;
        ascending = search rules;
      },
      path,
    )

-- src/option_setter.rt:248:5
pub returns-in_err-value-clause-refused : goal.returns-in_err-value-clause-refused
returns-in_err-value-clause-refused c =
    let t = c.args.target in
    let m = c.args.message.now in
    let o = option_view c.args.self.now.option.now in
    let k = c.kind.result in
    let r = c.from_residual in
    let p = err_from_is_err_and r.result r.ensures.1 in
    rw (p.1, p.2) (unless_then (RefusesValue k o) (RefusesLast t o m)
    (refuses_last_value t o m (c.requires.no_floats, λ one. absurd (cc (sym one ∙ c.requires.many))) k c.kind.ensures)
    c.in_err-value.field-0.0 c.in_err-value.ensures.refused)
