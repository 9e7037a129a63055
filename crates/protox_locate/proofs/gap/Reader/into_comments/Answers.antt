use Rattle.std.proofs.Common.{◌≡◌, ◌∷◌, [], ◌&&◌, false, None, MatchOption, map, ap, sym, subst, ◌∙◌, string_bytes}
use Rattle.std.specs.Prelude.{option_map}
use Rattle.protox_lex.specs.Blocks.{Blocks, blocks}
use Rattle.protox_locate.specs.Gap.{notes_of, read_view, trails}
use Rattle.protox_locate.specs.declared.gap.Reader.{Reader}
use Rattle.protox_locate.proofs.Belonging.{all_are, first_taken, notes}
use Rattle.protox_locate.proofs.gap.Reader.into_comments.Goals.{then-may_trail, else-may_trail, then-is_taken, else-is_taken}
use Rattle.protox_locate.proofs.gap.Reader.into_comments.Goals as goal

pub returns : goal.returns
returns c =
    let read = read_view c.args.self in
    let is : c.if-may_trail.is_taken ≡ (c.args.may_trail && trails c.args.behind read) = elim c.if-may_trail.branch [
      | then-may_trail w ↦ rw w.if-may_trail.true (w.is_taken-is ∙ w.is_first_trailing-is_taken.ensures)
      | else-may_trail w ↦ rw w.if-may_trail.false (w.is_taken-is ∙ w.if-may_trail.false)
    ] in
    let old = blocks c.args.self.comments in
    let left = blocks c.if-is_taken.self.comments in
    let apart = map string_bytes c.take_leading-detached.result.0.items in
    let last = c.take_leading-detached.result.1 in
    let taken = c.take_leading-detached.ensures in
    elim c.if-is_taken.branch [
      | then-is_taken w ↦
          let took = w.take_trailing-trailing in
          let after : left ≡ blocks took.new.self = ap (λ (r : Reader). blocks r.comments) w.self-is in
          let first = subst (λ b. MatchOption took.result ((old.texts ≡ []) × (b ≡ old)) (λ t. old.texts ≡ string_bytes t ∷ b.texts)) (sym after) took.ensures.first in
          ap (λ t. notes (option_map string_bytes t) apart (option_map string_bytes last)) w.trailing-is
          ∙ first_taken string_bytes old left took.result apart last first (ap (λ (b : Blocks). b.is_parted) after ∙ took.ensures.parted) taken.all taken.parted taken.last
          ∙ ap (λ b. notes_of b old) (sym w.if-is_taken.true ∙ is)
      | else-is_taken w ↦
          let after : left ≡ old = ap (λ (r : Reader). blocks r.comments) w.self-is in
          ap (λ t. notes (option_map string_bytes t) apart (option_map string_bytes last)) w.trailing-is
          ∙ all_are string_bytes None left.is_parted left.texts apart last taken.all taken.parted taken.last
          ∙ ap (λ b. notes_of false b) after ∙ ap (λ b. notes_of b old) (sym w.if-is_taken.false ∙ is)
    ]
