use Rattle.std.proofs.Common.{◌≡◌, ◌+◌, ℕ, zero, suc, List, arith, ap, sym, ◌∙◌, get_or, pos, w32, refl}
use Rattle.std.proofs.lemmas.Int.{to_z_pos}
use Rattle.protox_lex.specs.Lines.{column_at}
use Rattle.protox_lex.proofs.Feeds.{Parts, line_is, start_none, start_some}
use Rattle.protox_lex.proofs.lines.LineResolver.resolve.Goals as goal

parts : (c : goal.After-column) → Parts c.args.self.now.ends.items c.args.offset c.line-line.result
parts c = record { within = c.line-line.ensures.within; before = c.line-line.ensures.before; behind = c.line-line.ensures.behind }

-- the column, from what `column` says of no line and of later ones
column_is : (es : List ℕ) (offset k r : ℕ) → Parts es offset k → (k ≡ 0 → r ≡ offset) → ((j : ℕ) → k ≡ j + 1 → r + (get_or es j 0 + 1) ≡ offset) → r ≡ column_at es offset
column_is es offset zero r h first later = omega (arith, first refl, start_none es offset h)
column_is es offset (suc k) r h first later = omega (arith, later k (omega arith), start_some es offset k h)

pub returns-clause-line : goal.returns-clause-line
returns-clause-line c = to_z_pos w32 c.line-line.result (omega arith) ∙ ap pos (sym (line_is _ _ _ (parts c)))

pub returns-clause-column : goal.returns-clause-column
returns-clause-column c =
    let e = column_is _ _ _ _ (parts c) c.column.ensures.first c.column.ensures.later in
    to_z_pos w32 c.column.result (omega arith) ∙ ap pos e
