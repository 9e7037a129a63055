use Rattle.std.proofs.Common.{rules, map, sym, subst, ⊎_elim, arith}
use Rattle.std.proofs.lemmas.Bool.Decides.{eqb_tells}
use Rattle.reflect_tables.specs.Index.{IsListed}
use Rattle.reflect_index.proofs.index.are_listed.Goals as goal

pub loop-place-preserved : goal.loop-place-preserved
loop-place-preserved g c = λ place lt.
    ⊎_elim
    (λ t. subst (λ q. IsListed (map (g.T.Keyed.key_of c.args.by) c.args.items.now) c.args.places.now q) (sym t.1) (c.if-not-is_listed.ensures (search rules)))
    (λ t. c.loop-place.invariant place (omega (arith, lt, t.1)))
    (eqb_tells place c.loop-place.place)
