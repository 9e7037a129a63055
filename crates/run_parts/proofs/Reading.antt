-- The loop that reads the named sources, by what it has still to read.
use Rattle.std.proofs.Common.{◌≡◌, ℕ, ◌+◌, ◌<◌, List, [], ◌∷◌, ◌++◌, length, map, drop, get_or, Bor, Ok, refl, sym, ap, ◌∙◌, subst, inl, inr, append_assoc, append-nil}
use Rattle.std.proofs.lemmas.List.{drop_more}
use Rattle.run_parts.specs.Reads.{ReadsEach, RefusesSources, Reply, path_under}
use Rattle.run_parts.specs.declared.files.FileFault.{FileFault}
use Rattle.run_parts.specs.declared.files.FileFault.TheVariants as files

-- what stands for an element where there is none
abbrev pub no_text : Bor (List ℕ)
no_text = record { ref_ptr = (0, 0); now = [] }

-- those that are left are the next one and the others
pub next_name : (names : List (Bor (List ℕ))) (k : ℕ) → k < length names → map (λ n. n.now) (drop k names) ≡ (get_or names k no_text).now ∷ map (λ n. n.now) (drop (k + 1) names)
next_name names k short = ap (map (λ (n : Bor (List ℕ)). n.now)) (drop_more names k no_text short)

module _ {F : Type 0} (gives : F → List ℕ → Reply → F → Type 0) (root : List ℕ) (all : List (List ℕ)) (f : F) where
  -- with the contents of those that are left, the contents so far are those of all
  abbrev pub ReadSoFar : List (List ℕ) → List (List ℕ) → F → Type 0
  ReadSoFar done left m = (cs : List (List ℕ)) (g : F) → ReadsEach gives root left cs m g → ReadsEach gives root all (done ++ cs) f g

  -- a refusal of those that are left is a refusal of all
  abbrev pub RefusedSoFar : List (List ℕ) → F → Type 0
  RefusedSoFar left m = (e : FileFault) (g : F) → RefusesSources gives root left m e g → RefusesSources gives root all f e g

  module _ (left rest : List (List ℕ)) (n c : List ℕ) (is : left ≡ n ∷ rest) (m h : F) (step : gives m (path_under root n) (Ok c) h) where
    -- the next one is read
    pub read_more : (done more : List (List ℕ)) → more ≡ done ++ c ∷ [] → ReadSoFar done left m → ReadSoFar more rest h
    read_more done more grown before cs g reads =
        subst (λ x. ReadsEach gives root all x f g) (sym (append_assoc done (c ∷ []) cs) ∙ ap (λ x. x ++ cs) (sym grown))
        (before (c ∷ cs) g (subst (λ l. ReadsEach gives root l (c ∷ cs) m g) (sym is) (h, step, reads)))

    -- and so a refusal is one of those behind it
    pub refused_more : RefusedSoFar left m → RefusedSoFar rest h
    refused_more before e g r =
        before e g (subst (λ l. RefusesSources gives root l m e g) (sym is) (inr (inr (c, h, step, inr r))))

    -- memory runs out for what was read of it
    pub no_place : RefusedSoFar left m → RefusesSources gives root all f files.Memory h
    no_place before = before files.Memory h (subst (λ l. RefusesSources gives root l m files.Memory h) (sym is) (inr (inr (c, h, step, inl (refl, refl)))))

  -- none is left
  pub read_all : (done left : List (List ℕ)) (m : F) → left ≡ [] → ReadSoFar done left m → ReadsEach gives root all done f m
  read_all done left m none before =
      subst (λ x. ReadsEach gives root all x f m) (append-nil done)
      (before [] m (subst (λ l. ReadsEach gives root l [] m m) (sym none) refl))
