-- A loop is a step, and then the loop.
use Rattle.std.proofs.Common.{◌≡◌, ℕ, zero, suc, ◌<◌, Bool, true, false, List, [], ◌∷◌, ◌++◌, length, Option, Some, None, Ok, Err, refl, ap, sym, ◌∙◌, arith, append_assoc}
use Rattle.std.specs.Prelude.{if◌then◌else◌}
use Rattle.std.proofs.lemmas.List.{append-nil}
use Rattle.protox_lex.specs.Token.{Token}
use Rattle.protox_tokens.specs.declared.fault.Stop.{Stop}
use Rattle.protox_tokens.specs.declared.fault.Stop.TheVariants.{Memory, Refused}
use Rattle.protox_tokens.specs.Parser.{many, done, behind, when}
use Rattle.protox_tokens.specs.Reads.{Fails}
use Rattle.protox_tokens.specs.Parser.{pass, Outcome, Parser, and_then, ◌<$>◌, pure, goes_on, loop_from, loop}
use Rattle.protox_tokens.specs.Stream.{Stream}

-- a step that gives a value takes a token
abbrev pub Shortens : {A : Type 0} → Parser (Option A) → Type 0
Shortens {A} step = (ts r : Stream) (x : A) → step ts ≡ Ok (Some x, r) → length r < length ts

-- values before those that are read
abbrev pub with_front : {A : Type 0} → List A → Outcome (List A) → Outcome (List A)
with_front front o = and_then o (λ xs. pure (front ++ xs))

pub none_before : {A : Type 0} (o : Outcome (List A)) → with_front [] o ≡ o
none_before (Ok x) = refl
none_before (Err f) = refl

regrouped : {A : Type 0} (front : List A) (x : A) (o : Outcome (List A)) → with_front front (and_then o (λ xs. pure (x ∷ xs))) ≡ with_front (front ++ x ∷ []) o
regrouped front x (Ok y) = ap (λ xs. Ok (xs, y.1)) (sym (append_assoc front (x ∷ []) y.0))
regrouped front x (Err f) = refl

module _ {A : Type 0} (step : Parser (Option A)) (shortens : Shortens step) where
  more : (n m : ℕ) → ((ts : Stream) → length ts < n → length ts < m → loop_from step n ts ≡ loop_from step m ts) → (ts : Stream) → length ts < suc n → length ts < suc m
      → (o : Outcome (Option A)) → step ts ≡ o → and_then o (λ o. goes_on o (loop_from step n)) ≡ and_then o (λ o. goes_on o (loop_from step m))
  more n m same ts a b (Err f) e = refl
  more n m same ts a b (Ok (None, r)) e = refl
  more n m same ts a b (Ok (Some x, r)) e = let less = shortens ts r x e in ap (λ o. and_then o (λ xs. pure (x ∷ xs))) (same r (omega arith) (omega arith))

  enough : (n m : ℕ) (ts : Stream) → length ts < n → length ts < m → loop_from step n ts ≡ loop_from step m ts
  unfolding loop_from
  enough zero m ts a b = absurd (omega arith)
  enough (suc n) zero ts a b = absurd (omega arith)
  enough (suc n) (suc m) ts a b = more n m (λ us. enough n m us) ts a b (step ts) refl

  unrolled : (ts : Stream) (o : Outcome (Option A)) → step ts ≡ o → and_then o (λ o. goes_on o (loop_from step (length ts))) ≡ and_then o (λ o. goes_on o (loop step))
  unfolding loop
  unrolled ts (Err f) e = refl
  unrolled ts (Ok (None, r)) e = refl
  unrolled ts (Ok (Some x, r)) e = let less = shortens ts r x e in ap (λ o. and_then o (λ xs. pure (x ∷ xs))) (enough (length ts) (suc (length r)) r (omega arith) (omega arith))

  pub loop-is : (ts : Stream) → loop step ts ≡ and_then (step ts) (λ o. goes_on o (loop step))
  unfolding loop loop_from
  loop-is ts = unrolled ts (step ts) refl

  -- a turn of a loop that keeps what it read before

  pub goes_on_at : (front : List A) (s r : Stream) (x : A) (total : Outcome (List A)) → step s ≡ Ok (Some x, r) → with_front front (loop step s) ≡ total → with_front (front ++ x ∷ []) (loop step r) ≡ total
  goes_on_at front s r x total e so_far = sym (ap (with_front front) (loop-is s ∙ ap (λ o. and_then o (λ o. goes_on o (loop step))) e) ∙ regrouped front x (loop step r)) ∙ so_far

  pub ends_at : (front : List A) (s r : Stream) (total : Outcome (List A)) → step s ≡ Ok (None, r) → with_front front (loop step s) ≡ total → total ≡ Ok (front, r)
  ends_at front s r total e so_far = sym so_far ∙ ap (with_front front) (loop-is s ∙ ap (λ o. and_then o (λ o. goes_on o (loop step))) e) ∙ ap (λ xs. Ok (xs, r)) (append-nil front)

  pub fails_at : (e : Stop) (front : List A) (s : Stream) (total : Outcome (List A)) → Fails e (step s) → with_front front (loop step s) ≡ total → Fails e total
  fails_at Memory front s total e so_far = tt
  fails_at (Refused f) front s total e so_far = sym so_far ∙ ap (with_front front) (loop-is s ∙ ap (λ o. and_then o (λ o. goes_on o (loop step))) e)

-- ---- the two kinds of steps

module _ {A : Type 0} (k : Token) (p : Parser A) (s r : Stream) where
  pub behind_more : (u : Stream) (x : A) → pass k s ≡ Ok (true, r) → p r ≡ Ok (x, u) → behind k p s ≡ Ok (Some x, u)
  behind_more u x e f = ap (λ o. and_then o (λ b. if b then Some <$> p else pure None)) e ∙ ap (λ o. and_then o (λ x. pure (Some x))) f

  pub behind_none : pass k s ≡ Ok (false, r) → behind k p s ≡ Ok (None, r)
  behind_none e = ap (λ o. and_then o (λ b. if b then Some <$> p else pure None)) e

  pub behind_fails : (e : Stop) → pass k s ≡ Ok (true, r) → Fails e (p r) → Fails e (behind k p s)
  behind_fails Memory e f = tt
  behind_fails (Refused g) e f = ap (λ o. and_then o (λ b. if b then Some <$> p else pure None)) e ∙ ap (λ o. and_then o (λ x. pure (Some x))) f

module _ {A : Type 0} (f : Stream → Bool) (p : Parser A) (s : Stream) where
  pub when_more : (u : Stream) (x : A) → f s ≡ true → p s ≡ Ok (x, u) → when f p s ≡ Ok (Some x, u)
  when_more u x e g = ap (λ b. if b then (Some <$> p) s else Ok (None, s)) e ∙ ap (λ o. and_then o (λ x. pure (Some x))) g

  pub when_none : f s ≡ false → when f p s ≡ Ok (None, s)
  when_none e = ap (λ b. if b then (Some <$> p) s else Ok (None, s)) e

  pub when_fails : (e : Stop) → f s ≡ true → Fails e (p s) → Fails e (when f p s)
  when_fails Memory e g = tt
  when_fails (Refused h) e g = ap (λ b. if b then (Some <$> p) s else Ok (None, s)) e ∙ ap (λ o. and_then o (λ x. pure (Some x))) g

-- ---- what a turn of a loop of the code does, what it has read being in front

module _ {A : Type 0} (k : Token) (p : Parser A) (short : Shortens (behind k p)) (front : List A) (s r : Stream) (total : Outcome (List A)) (so_far : with_front front (loop (behind k p) s) ≡ total) where
  pub behind_goes : (u : Stream) (x : A) → pass k s ≡ Ok (true, r) → p r ≡ Ok (x, u) → with_front (front ++ x ∷ []) (loop (behind k p) u) ≡ total
  behind_goes u x e f = goes_on_at (behind k p) short front s u x total (behind_more k p s r u x e f) so_far

  pub behind_ends : pass k s ≡ Ok (false, r) → total ≡ Ok (front, r)
  behind_ends e = ends_at (behind k p) short front s r total (behind_none k p s r e) so_far

  pub behind_stops : (e : Stop) → pass k s ≡ Ok (true, r) → Fails e (p r) → Fails e total
  behind_stops e h f = fails_at (behind k p) short e front s total (behind_fails k p s r e h f) so_far

module _ {A : Type 0} (f : Stream → Bool) (p : Parser A) (short : Shortens (when f p)) (front : List A) (s : Stream) (total : Outcome (List A)) (so_far : with_front front (loop (when f p) s) ≡ total) where
  pub when_goes : (u : Stream) (x : A) → f s ≡ true → p s ≡ Ok (x, u) → with_front (front ++ x ∷ []) (loop (when f p) u) ≡ total
  when_goes u x e g = goes_on_at (when f p) short front s u x total (when_more f p s u x e g) so_far

  pub when_ends : f s ≡ false → total ≡ Ok (front, s)
  when_ends e = ends_at (when f p) short front s s total (when_none f p s e) so_far

  pub when_stops : (e : Stop) → f s ≡ true → Fails e (p s) → Fails e total
  when_stops e h g = fails_at (when f p) short e front s total (when_fails f p s e h g) so_far

pub pushed_some : {A : Type 0} (xs : List A) (x : A) → 0 < length (xs ++ x ∷ [])
pushed_some [] x = omega arith
pushed_some (y ∷ xs) x = omega arith

-- ---- loops that keep no value

module _ (step : Parser (Option (Unit {0}))) (short : Shortens step) where
  dropped : (x : Unit {0}) (o : Outcome (List (Unit {0}))) → and_then (and_then o (λ xs. pure (x ∷ xs))) (λ _. done) ≡ and_then o (λ _. done)
  dropped x (Ok y) = refl
  dropped x (Err f) = refl

  pub many_goes : (s r : Stream) (x : Unit {0}) → step s ≡ Ok (Some x, r) → many step s ≡ many step r
  many_goes s r x e = ap (λ o. and_then o (λ _. done)) (loop-is step short s ∙ ap (λ o. and_then o (λ o. goes_on o (loop step))) e) ∙ dropped x (loop step r)

  pub many_ends : (s r : Stream) → step s ≡ Ok (None, r) → many step s ≡ Ok (tt, r)
  many_ends s r e = ap (λ o. and_then o (λ _. done)) (loop-is step short s ∙ ap (λ o. and_then o (λ o. goes_on o (loop step))) e)

  pub many_stops : (e : Stop) (s : Stream) → Fails e (step s) → Fails e (many step s)
  many_stops Memory s f = tt
  many_stops (Refused g) s f = ap (λ o. and_then o (λ _. done)) (loop-is step short s ∙ ap (λ o. and_then o (λ o. goes_on o (loop step))) f)
