-- The files that a pool has not yet are added, and are too many exactly where this is told.
use Rattle.std.proofs.Common.{rules, of_calls, ◌∙◌, Err, ap, false, inl, subst, sym, true}
use Rattle.std.proofs.lemmas.Fn.{filter_same}
use Rattle.reflect_passes.specs.Errors.{is_too_many}
use Rattle.reflect_build.specs.Accepted.{AddsNames, Faultless}
use Rattle.reflect_build.specs.Parts.{StaysOrGrows, holds_of, linking_of}
use Rattle.reflect_build.specs.Refusals.{FaultyFiles, is_unknown}
use Rattle.reflect_build.proofs.Parted.{is_of_parts, many_told, told_many}
use Rattle.reflect_build.proofs.Refused.{refused_files, still_refused}
use Rattle.reflect_build.proofs.build.add_files.Goals as goal

pub returns-then-are_too_many-clause-refused : goal.returns-then-are_too_many-clause-refused
returns-then-are_too_many-clause-refused c =
    let self = c.args.parts.now in
    let w = linking_of self in
    let news = filter_same _ (is_unknown w.indexes) _ (λ x b g h. search (rules, of_calls)) _ _ c.retain.ensures.filtered in (
      inl c.new.ensures.faults,
      λ told. told_many self c.requires.fit c.args.files.items c.as_slice.result.now c.are_too_many.result
          (c.as_slice.ensures.value ∙ news) c.are_too_many.ensures c.if-are_too_many.true,
    )

pub returns-then-are_too_many-clause-too_many : goal.returns-then-are_too_many-clause-too_many
returns-then-are_too_many-clause-too_many c = λ many. ap is_too_many c.new.ensures.first

pub returns-in-Ok-clause-held : goal.returns-in-Ok-clause-held
returns-in-Ok-clause-held c =
    let old = holds_of c.args.parts.now in
    let held = subst (λ r. StaysOrGrows r old (holds_of c.add_new.new.parts)) c.in-Ok.is c.add_new.ensures.held in
    record { unchanged = tt; grown = held.grown; can_cut = held.can_cut }

pub returns-in-Ok-clause-added : goal.returns-in-Ok-clause-added
returns-in-Ok-clause-added c =
    let self = c.args.parts.now in
    let w = linking_of self in
    let news = filter_same _ (is_unknown w.indexes) _ (λ x b g h. search (rules, of_calls)) _ _ c.retain.ensures.filtered in
    (w, is_of_parts self c.requires.fit, subst (λ l. AddsNames w l (holds_of c.add_new.new.parts)) news c.in-Ok.ensures.added)

pub returns-in-Ok-clause-accepted : goal.returns-in-Ok-clause-accepted
returns-in-Ok-clause-accepted c =
    let self = c.args.parts.now in
    let w = linking_of self in
    let news = filter_same _ (is_unknown w.indexes) _ (λ x b g h. search (rules, of_calls)) _ _ c.retain.ensures.filtered in
    (w, is_of_parts self c.requires.fit, subst (λ l. Faultless w l (holds_of c.add_new.new.parts)) news c.in-Ok.ensures.accepted)

pub returns-in-Ok-clause-too_many : goal.returns-in-Ok-clause-too_many
returns-in-Ok-clause-too_many c = λ many.
    let self = c.args.parts.now in
    let w = linking_of self in
    let news = filter_same _ (is_unknown w.indexes) _ (λ x b g h. search (rules, of_calls)) _ _ c.retain.ensures.filtered in
    let told = many_told self c.requires.fit c.args.files.items c.as_slice.result.now c.are_too_many.result
    (c.as_slice.ensures.value ∙ news) c.are_too_many.ensures many in
    absurd (cc (sym told ∙ c.if-are_too_many.false))

pub returns-in-Err-clause-held : goal.returns-in-Err-clause-held
returns-in-Err-clause-held c =
    let old = holds_of c.args.parts.now in
    let held = subst (λ r. StaysOrGrows r old (holds_of c.add_new.new.parts)) c.in-Err.is c.add_new.ensures.held in
    record { unchanged = held.unchanged; grown = tt; can_cut = tt }

pub returns-in-Err-clause-refused : goal.returns-in-Err-clause-refused
returns-in-Err-clause-refused c =
    let self = c.args.parts.now in
    let w = linking_of self in
    let news = filter_same _ (is_unknown w.indexes) _ (λ x b g h. search (rules, of_calls)) _ _ c.retain.ensures.filtered in
    let refused = refused_files {T = Unit {0}} (holds_of self) w c.args.files.items c.retain.new.self.items (Err c.in-Err.error) (is_of_parts self c.requires.fit) news c.in-Err.ensures.refused in (
      still_refused (FaultyFiles (holds_of self) c.args.files.items) c.in-Err.error c.not_of_many.result
          c.not_of_many.ensures.kept refused,
      λ many. absurd (cc (sym many ∙ c.not_of_many.ensures.few)),
    )

pub returns-in-Err-clause-too_many : goal.returns-in-Err-clause-too_many
returns-in-Err-clause-too_many c = λ many.
    let self = c.args.parts.now in
    let w = linking_of self in
    let news = filter_same _ (is_unknown w.indexes) _ (λ x b g h. search (rules, of_calls)) _ _ c.retain.ensures.filtered in
    let told = many_told self c.requires.fit c.args.files.items c.as_slice.result.now c.are_too_many.result
    (c.as_slice.ensures.value ∙ news) c.are_too_many.ensures many in
    absurd (cc (sym told ∙ c.if-are_too_many.false))
