use Rattle.std.proofs.Common.{◌≡◌, ◌+◌, ◌∷◌, ◌++◌, [], ℕ, List, rules, replicate, ap}
use Rattle.std.proofs.lemmas.List.{replicate_more}
use Rattle.text_lines.proofs.Appending.{adds_both, adds_same}
use Rattle.text_lines.proofs.lines.Lines.line.Goals as goal

one_more : (n : ℕ) → ◌≡◌ {A = List ℕ} (10 ∷ (replicate n 32 ++ 32 ∷ [])) (10 ∷ replicate (n + 1) 32)
one_more n = let extended : List ℕ → List ℕ = λ t. 10 ∷ t in ap extended (replicate_more n 32)

pub loop-preserved : goal.loop-preserved
loop-preserved c = record {
  written = adds_same _ _ _ (one_more _) (adds_both _ _ _ _ c.loop.invariant.written c.in_ok-put-2.ensures);
  form = search rules;
}
