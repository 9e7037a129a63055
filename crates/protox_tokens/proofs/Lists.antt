-- Loops, in both directions.
use Rattle.std.proofs.Common.{◌≡◌, ℕ, Bool, true, false, List, [], ◌∷◌, ◌++◌, length, ◌<◌, zero, suc, Option, Some, None, Ok, Err, refl, ap, sym, subst, ◌∙◌, arith}
use Rattle.std.specs.Prelude.{if◌then◌else◌}
use Rattle.protox_lex.specs.Token.{Token}
use Rattle.protox_lex.specs.declared.span.Span.{Span}
use Rattle.protox_tokens.specs.Stream.{Stream}
use Rattle.protox_tokens.specs.Parser.{Outcome, Parser, and_then, ◌>>=◌, ◌<$>◌, pure, goes_on, loop, sees, eat, pass}
use Rattle.std.specs.Prelude.{is_some}
use Rattle.protox_tokens.specs.Parser.{behind, when, some_by}
use Rattle.protox_tokens.specs.Marks.{Mark, SpellsMarks, any, if_there, each, Each, listed, IsAny, IsSome_of, anywhere}
use Rattle.protox_tokens.proofs.Loops.{Shortens, loop-is}
use Rattle.protox_tokens.proofs.Local.{bound, good, none_is, none_not, same_ok, some_not, some_of}
use Rattle.protox_tokens.proofs.Both.{Both, Always, IsNamed, spells-append, spells-split, then_ok}
use Rattle.protox_tokens.proofs.Steps.{eat_none, eat_some, eat_sound, placed, Absent, sees_first}

arrive : {A : Type 0} (P : A × Stream → Type 0) (x y : A × Stream) → good x ≡ good y → P x → P y
arrive P x y e h = subst P (same_ok x y e) h

-- ---- what a loop reads: values up to where a step gives none

-- what follows the last of the values
abbrev pub Lastly : {A : Type 0} → (A → Stream → Type 0) → List A → Stream → Type 0
Lastly F [] r = Unit {0}
Lastly F (x ∷ []) r = F x r
Lastly F (x ∷ y ∷ ys) r = Lastly F (y ∷ ys) r

pub lastly_all : {A : Type 0} (F : A → Stream → Type 0) (xs : List A) (r : Stream) → ((x : A) → F x r) → Lastly F xs r
lastly_all F [] r h = tt
lastly_all F (x ∷ []) r h = h x
lastly_all F (x ∷ y ∷ ys) r h = lastly_all F (y ∷ ys) r h

module _ {A : Type 0} (m : A → List Mark) (P : A → Type 0) (F : A → Stream → Type 0) (E : Stream → Type 0) where
  abbrev pub Step : Stream → Option A × Stream → Type 0
  Step ts (Some x, r) = SpellsMarks (m x) ts r × P x × F x r
  Step ts (None, r) = (ts ≡ r) × E r

  -- values, and what comes behind them
  abbrev pub Read : Stream → List A × Stream → Type 0
  Read ts x = SpellsMarks (each m x.0) ts x.1 × Each P x.0 × E x.1

  module _ (step : Parser (Option A)) (short : Shortens step) (sound : (ts r : Stream) (o : Option A) → step ts ≡ Ok (o, r) → Step ts (o, r)) where
    -- B is what holds before each turn
    module _ (B : Stream → Type 0) (goes : (x : A) (r : Stream) → F x r → B r) where
      turn : (n : ℕ) (ts : Stream) → length ts < suc n → ((us r : Stream) (xs : List A) → length us < n → loop step us ≡ Ok (xs, r) → Read us (xs, r)) → (o : Outcome (Option A)) → step ts ≡ o
          → (xs : List A) (r : Stream) → and_then o (λ o. goes_on o (loop step)) ≡ Ok (xs, r) → Read ts (xs, r)
      turn n ts lt later (Err f) is xs r e = absurd cc
      turn n ts lt later (Ok (None, u)) is xs r e = arrive (Read ts) ([], u) (xs, r) e (let last = sound ts u None is in (last.0, tt, last.1))
      turn n ts lt later (Ok (Some x, u)) is xs r e =
          let less = short ts u x is in
          let b = bound (loop step u) (λ xs. pure (x ∷ xs)) (xs, r) e in
          let rest = later u b.0.1 b.0.0 (omega arith) b.1 in
          let first = sound ts u (Some x) is in
          arrive (Read ts) (x ∷ b.0.0, b.0.1) (xs, r) b.2 (spells-append (m x) (each m b.0.0) ts u b.0.1 first.0 rest.0, (first.1, rest.1), rest.2)

      all : (n : ℕ) (ts r : Stream) (xs : List A) → length ts < n → loop step ts ≡ Ok (xs, r) → Read ts (xs, r)
      all zero ts r xs lt e = absurd (omega arith)
      all (suc n) ts r xs lt e = turn n ts lt (all n) (step ts) refl xs r (sym (loop-is step short ts) ∙ e)

    pub loop_sound : (ts r : Stream) (xs : List A) → loop step ts ≡ Ok (xs, r) → Read ts (xs, r)
    loop_sound ts r xs e = all (λ _. Unit {0}) (λ x r f. tt) (suc (length ts)) ts r xs (omega arith) e

    -- what follows the last value, where there is one
    last_at : (n : ℕ) (ts r : Stream) (xs : List A) → length ts < n → loop step ts ≡ Ok (xs, r) → Lastly F xs r
    last_at zero ts r xs lt e = absurd (omega arith)
    last_at (suc n) ts r xs lt e = by (last_at n) (step ts) refl (sym (loop-is step short ts) ∙ e) where
      one_last : (x : A) (ys : List A) (u v : Stream) → F x u → Read u (ys, v) → Lastly F ys v → Lastly F (x ∷ ys) v
      one_last x [] u v f read l = subst (F x) read.0 f
      one_last x (y ∷ ys) u v f read l = l

      by : ((us v : Stream) (ys : List A) → length us < n → loop step us ≡ Ok (ys, v) → Lastly F ys v) → (o : Outcome (Option A)) → step ts ≡ o → and_then o (λ o. goes_on o (loop step)) ≡ Ok (xs, r) → Lastly F xs r
      by later (Err f) is e = absurd cc
      by later (Ok (None, u)) is e = arrive (λ (y : List A × Stream). Lastly F y.0 y.1) ([], u) (xs, r) e tt
      by later (Ok (Some x, u)) is e =
          let less = short ts u x is in
          let b = bound (loop step u) (λ xs. pure (x ∷ xs)) (xs, r) e in
          arrive (λ (y : List A × Stream). Lastly F y.0 y.1) (x ∷ b.0.0, b.0.1) (xs, r) b.2 (one_last x b.0.0 u b.0.1 (sound ts u (Some x) is).2 (loop_sound u b.0.1 b.0.0 b.1) (later u b.0.1 b.0.0 (omega arith) b.1))

    pub loop_last : (ts r : Stream) (xs : List A) → loop step ts ≡ Ok (xs, r) → Lastly F xs r
    loop_last ts r xs e = last_at (suc (length ts)) ts r xs (omega arith) e

  module _ (step : Parser (Option A)) (short : Shortens step) (more : (ts r : Stream) (x : A) → SpellsMarks (m x) ts r → P x → F x r → step ts ≡ Ok (Some x, r)) (ends : (ts : Stream) → E ts → step ts ≡ Ok (None, ts))
      (next : (x y : A) (ts r : Stream) → SpellsMarks (m y) ts r → P y → F x ts) where
    turned : (ts : Stream) {o : Outcome (List A)} → and_then (step ts) (λ o. goes_on o (loop step)) ≡ o → loop step ts ≡ o
    turned ts e = loop-is step short ts ∙ e

    follows : (x : A) (xs : List A) (ts r : Stream) → SpellsMarks (each m xs) ts r → Each P xs → Lastly F (x ∷ xs) r → F x ts
    follows x [] ts r h all l = subst (F x) (sym h) l
    follows x (y ∷ ys) ts r h all l = let s = spells-split (m y) (each m ys) ts r h in next x y ts s.0 s.1 all.0

    lastly_rest : (x : A) (xs : List A) (r : Stream) → Lastly F (x ∷ xs) r → Lastly F xs r
    lastly_rest x [] r l = tt
    lastly_rest x (y ∷ ys) r l = l

    pub loop_complete : (xs : List A) (ts r : Stream) → SpellsMarks (each m xs) ts r → Each P xs → E r → Lastly F xs r → loop step ts ≡ Ok (xs, r)
    loop_complete [] ts r h all e l = turned ts (then_ok (λ o. goes_on o (loop step)) (ends ts (subst E (sym h) e)) (ap (λ s. Ok ([], s)) h))
    loop_complete (x ∷ xs) ts r h all e l =
        let s = spells-split (m x) (each m xs) ts r h in
        turned ts (then_ok (λ o. goes_on o (loop step)) (more ts s.0 x s.1 all.0 (follows x xs s.0 r s.2 all.1 l))
        (then_ok (λ xs. pure (x ∷ xs)) (loop_complete xs s.0 r s.2 all.1 e (lastly_rest x xs r l)) refl))

-- ---- steps

module _ {A : Type 0} (f : Stream → Bool) (p : Parser A) (m : A → List Mark) (P : A → Type 0) (F : A → Stream → Type 0) (rule : Both (λ ts. f ts ≡ true) p m IsAny P F) where
  when_sound : (ts r : Stream) (o : Option A) → when f p ts ≡ Ok (o, r) → Step m P F (λ r. f r ≡ false) ts (o, r)
  when_sound ts r o e = by (f ts) refl o e where
    by : (b : Bool) → f ts ≡ b → (o : Option A) → (if b then (Some <$> p) ts else Ok (None, ts)) ≡ Ok (o, r) → Step m P F (λ r. f r ≡ false) ts (o, r)
    by true h (Some x) e = let y = rule.sound ts r x h (some_of p ts r x e) in (y.0, y.1.1, y.2)
    by true h None e = some_not p ts r e
    by false h (Some x) e = none_not ts r x e
    by false h None e = let same = none_is {A = A} ts r e in (same, subst (λ s. f s ≡ false) same h)

  when_more : ((x : A) (ts r : Stream) → SpellsMarks (m x) ts r → P x → f ts ≡ true) → (ts r : Stream) (x : A) → SpellsMarks (m x) ts r → P x → F x r → when f p ts ≡ Ok (Some x, r)
  when_more starts ts r x h is g = ap (λ b. if b then (Some <$> p) ts else Ok (None, ts)) (starts x ts r h is) ∙ then_ok (λ x. pure (Some x)) (rule.complete ts r x h tt is g) refl

  when_ends : (ts : Stream) → f ts ≡ false → when f p ts ≡ Ok (None, ts)
  when_ends ts e = ap (λ b. if b then (Some <$> p) ts else Ok (None, ts)) e

  -- values, as long as what is ahead is so
  pub both_while : Shortens (when f p) → ((x : A) (ts r : Stream) → SpellsMarks (m x) ts r → P x → f ts ≡ true) → ((x y : A) (ts r : Stream) → SpellsMarks (m y) ts r → P y → F x ts) → {H : Stream → Type 0}
      → Both H (loop (when f p)) (λ xs. each m xs) IsAny (Each P) (λ xs r. (f r ≡ false) × Lastly F xs r)
  both_while short starts next = record {
    sound = λ ts r xs h e. let x = loop_sound m P F (λ r. f r ≡ false) (when f p) short when_sound ts r xs e in (x.0, (tt, x.1), (x.2, loop_last m P F (λ r. f r ≡ false) (when f p) short when_sound ts r xs e));
    complete = λ ts r xs h known all g. loop_complete m P F (λ r. f r ≡ false) (when f p) short (when_more starts) when_ends next xs ts r h all g.0 g.1;
  }

pass_sound : (k : Token) (ts r : Stream) (b : Bool) → pass k ts ≡ Ok (b, r) → (o : Option Span) × (b ≡ is_some o) × (SpellsMarks (if_there o k) ts r × Absent k o r)
pass_sound k ts r b e =
    let x = bound (eat k ts) (λ o. pure (is_some o)) (b, r) e in
    let y = same_ok (is_some x.0.0, x.0.1) (b, r) x.2 in
    (x.0.0, sym (ap (λ (z : Bool × Stream). z.0) y), subst (λ s. SpellsMarks (if_there x.0.0 k) ts s × Absent k x.0.0 s) (ap (λ (z : Bool × Stream). z.1) y) (eat_sound k ts x.0.1 x.0.0 x.1))

pass_true : (k : Token) (ts r : Stream) → pass k ts ≡ Ok (true, r) → SpellsMarks (any k ∷ []) ts r
pass_true k ts r e = let x = pass_sound k ts r true e in by x.0 x.1 x.2.0 where
  by : (o : Option Span) → true ≡ is_some o → SpellsMarks (if_there o k) ts r → SpellsMarks (any k ∷ []) ts r
  by None e h = absurd cc
  by (Some p) e h = placed k p anywhere ts r tt h

pass_false : (k : Token) (ts r : Stream) → pass k ts ≡ Ok (false, r) → (ts ≡ r) × (sees k r ≡ false)
pass_false k ts r e = let x = pass_sound k ts r false e in by x.0 x.1 x.2 where
  by : (o : Option Span) → false ≡ is_some o → SpellsMarks (if_there o k) ts r × Absent k o r → (ts ≡ r) × (sees k r ≡ false)
  by None e h = h
  by (Some p) e h = absurd cc

pass_some : (k : Token) → IsNamed k → (ts r : Stream) → SpellsMarks (any k ∷ []) ts r → pass k ts ≡ Ok (true, r)
pass_some k named ts r h = let x = eat_some k named anywhere ts r h in then_ok (λ o. pure (is_some o)) x.1 refl

pass_none : (k : Token) (ts : Stream) → sees k ts ≡ false → pass k ts ≡ Ok (false, ts)
pass_none k ts e = then_ok (λ o. pure (is_some o)) (eat_none k ts e) refl

-- the value behind the token
module _ {A : Type 0} (k : Token) (named : IsNamed k) (p : Parser A) (m : A → List Mark) (P : A → Type 0) (F : A → Stream → Type 0) (rule : Both Always p m IsAny P F) where
  abbrev more_marks : A → List Mark
  more_marks x = any k ∷ m x

  abbrev Ended : Stream → Type 0
  Ended r = sees k r ≡ false

  behind_sound : (ts r : Stream) (o : Option A) → behind k p ts ≡ Ok (o, r) → Step more_marks P F Ended ts (o, r)
  behind_sound ts r o e = let x = bound (pass k ts) (λ b. if b then Some <$> p else pure None) (o, r) e in by x.0.0 x.0.1 x.1 o x.2 where
    by : (b : Bool) (u : Stream) → pass k ts ≡ Ok (b, u) → (o : Option A) → (if b then Some <$> p else pure None) u ≡ Ok (o, r) → Step more_marks P F Ended ts (o, r)
    by true u h (Some x) g = let y = rule.sound u r x tt (some_of p u r x g) in (spells-append (any k ∷ []) (m x) ts u r (pass_true k ts u h) y.0, y.1.1, y.2)
    by true u h None g = some_not p u r g
    by false u h (Some x) g = none_not u r x g
    by false u h None g = let same = none_is {A = A} u r g in let y = pass_false k ts u h in (y.0 ∙ same, subst Ended same y.1)

  behind_more : (ts r : Stream) (x : A) → SpellsMarks (more_marks x) ts r → P x → F x r → behind k p ts ≡ Ok (Some x, r)
  behind_more ts r x h is g =
      let s = spells-split (any k ∷ []) (m x) ts r h in
      then_ok (λ b. if b then Some <$> p else pure None) (pass_some k named ts s.0 s.1) (then_ok (λ x. pure (Some x)) (rule.complete s.0 r x s.2 tt is g) refl)

  behind_ends : (ts : Stream) → Ended ts → behind k p ts ≡ Ok (None, ts)
  behind_ends ts e = then_ok (λ b. if b then Some <$> p else pure None) (pass_none k ts e) refl

  behind_next : ((x : A) (r : Stream) → sees k r ≡ true → F x r) → (x y : A) (ts r : Stream) → SpellsMarks (more_marks y) ts r → P y → F x ts
  behind_next next x y ts r h is = next x ts (sees_first k (any k) (m y) ts r h ∙ named)

  pub both_behind : Shortens (behind k p) → ((x : A) (r : Stream) → sees k r ≡ true → F x r) → {H : Stream → Type 0} → Both H (loop (behind k p)) (λ xs. each more_marks xs) IsAny (Each P) (λ xs r. (sees k r ≡ false) × Lastly F xs r)
  both_behind short next = record {
    sound = λ ts r xs h e. let x = loop_sound more_marks P F Ended (behind k p) short behind_sound ts r xs e in (x.0, (tt, x.1), (x.2, loop_last more_marks P F Ended (behind k p) short behind_sound ts r xs e));
    complete = λ ts r xs h known all g. loop_complete more_marks P F Ended (behind k p) short behind_more behind_ends (behind_next next) xs ts r h all g.0 g.1;
  }

  -- one or more, with the token between them
  pub both_some_by : (H : Stream → Type 0) → Shortens (behind k p) → ((x : A) (r : Stream) → sees k r ≡ true → F x r)
      → Both H (some_by k p) (listed k m) IsAny (IsSome_of P) (λ xs r. (sees k r ≡ false) × Lastly F xs r)
  both_some_by H short next = record { sound = forth; complete = λ ts r xs h known all g. back ts r xs h all g } where
    rest : Both Always (loop (behind k p)) (λ xs. each more_marks xs) IsAny (Each P) (λ xs r. (sees k r ≡ false) × Lastly F xs r)
    rest = both_behind short next

    last_of : (x : A) (xs : List A) (u r : Stream) → F x u → SpellsMarks (each more_marks xs) u r → Lastly F xs r → Lastly F (x ∷ xs) r
    last_of x [] u r f h l = subst (F x) h f
    last_of x (y ∷ ys) u r f h l = l

    forth : (ts r : Stream) (xs : List A) → H ts → some_by k p ts ≡ Ok (xs, r) → SpellsMarks (listed k m xs) ts r × (Unit {0} × IsSome_of P xs) × ((sees k r ≡ false) × Lastly F xs r)
    forth ts r xs h e =
        let a = bound (p ts) (λ x. loop (behind k p) >>= (λ xs. pure (x ∷ xs))) (xs, r) e in
        let b = bound (loop (behind k p) a.0.1) (λ xs. pure (a.0.0 ∷ xs)) (xs, r) a.2 in
        let first = rule.sound ts a.0.1 a.0.0 tt a.1 in
        let others = rest.sound a.0.1 b.0.1 b.0.0 tt b.1 in
        arrive (λ (y : List A × Stream). SpellsMarks (listed k m y.0) ts y.1 × (Unit {0} × IsSome_of P y.0) × ((sees k y.1 ≡ false) × Lastly F y.0 y.1)) (a.0.0 ∷ b.0.0, b.0.1) (xs, r) b.2
        (spells-append (m a.0.0) (each more_marks b.0.0) ts a.0.1 b.0.1 first.0 others.0, (tt, (first.1.1, others.1.1)), (others.2.0, last_of a.0.0 b.0.0 a.0.1 b.0.1 first.2 others.0 others.2.1))

    first_follow : (x : A) (xs : List A) (ts r : Stream) → SpellsMarks (each more_marks xs) ts r → Lastly F (x ∷ xs) r → F x ts
    first_follow x [] ts r h l = subst (F x) (sym h) l
    first_follow x (y ∷ ys) ts r h l = next x ts (sees_first k (any k) (m y ++ each more_marks ys) ts r h ∙ named)

    rest_lastly : (x : A) (xs : List A) (r : Stream) → Lastly F (x ∷ xs) r → Lastly F xs r
    rest_lastly x [] r l = tt
    rest_lastly x (y ∷ ys) r l = l

    back : (ts r : Stream) (xs : List A) → SpellsMarks (listed k m xs) ts r → IsSome_of P xs → (sees k r ≡ false) × Lastly F xs r → some_by k p ts ≡ Ok (xs, r)
    back ts r [] h all g = absurd all
    back ts r (x ∷ xs) h all g =
        let s = spells-split (m x) (each more_marks xs) ts r h in
        then_ok (λ x. loop (behind k p) >>= (λ xs. pure (x ∷ xs))) (rule.complete ts s.0 x s.1 tt all.0 (first_follow x xs s.0 r s.2 g.1))
        (then_ok (λ xs. pure (x ∷ xs)) (rest.complete s.0 r xs s.2 tt all.1 (g.0, rest_lastly x xs r g.1)) refl)
