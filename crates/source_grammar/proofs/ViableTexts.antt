-- The text of what a rule takes is kept with no other fault than the rule's.
use Rattle.std.proofs.Common.{[], ◌≡◌, ◌-◌, ◌++◌, ◌∷◌, length, take, Ok, Err, refl, ap, sym, ◌∙◌, arith, append_assoc, ◌⊎◌, inl, inr}
use Rattle.std.proofs.Math.Seq.{take-append_seam}
use Rattle.std.proofs.lemmas.List.{length-append}
use Rattle.protox_aggregates.specs.BraceTexts.{text_by, text_of, text_up_to}
use Rattle.protox_lex.specs.Class.{Text}
use Rattle.protox_tokens.specs.Parser.{Outcome, Parser}
use Rattle.protox_tokens.specs.Refusal.{Fault}
use Rattle.protox_tokens.specs.Stream.{Piece, Stream}
use Rattle.source_grammar.proofs.Viable.{Goes, Doomed, Took, Stops, Went, map_token, Viable}

front_of : (xs r : Stream) → take (length (xs ++ r) - length r) (xs ++ r) ≡ xs
front_of xs r =
    let count : length (xs ++ r) - length r ≡ length xs = omega (arith, length-append xs r) in
    rw count (take-append_seam xs r)

text_of_front : (ts xs r : Stream) → ts ≡ xs ++ r → text_of (take (length ts - length r) ts) ≡ text_of xs
text_of_front ts xs r e = rw e (ap text_of (front_of xs r))

module _ {I : Type 0} (W : Piece → Type 0) (H : Stream → Type 0) (p : Parser (Unit {0})) (F : I → Stream → Type 0) where
  abbrev After : {A : Type 0} → I → A → Stream → Type 0
  After i a = F i

  goes_text : (front : Stream) → Goes H p After front → Goes H (text_by p) After front
  goes_text front c = record {
    more = c.more;
    stand = c.stand;
    kind = c.kind;
    value = text_of (front ++ c.more);
    reads = λ s g.
        let x = c.reads s g in
        (x.0, ap (text_up_to (front ++ (c.more ++ s))) x.1 ∙ ap (λ o. Ok (o, s)) (text_of_front (front ++ (c.more ++ s)) (front ++ c.more) s (sym (append_assoc front c.more s))));
  }

  not_read : (ts : Stream) (o : Outcome (Unit {0})) → ((x : Unit {0} × Stream) → o ≡ Ok x → ⊥) → (y : Text × Stream) → text_up_to ts o ≡ Ok y → ⊥
  not_read ts (Ok x) never y e = never x refl
  not_read ts (Err f) never y e = absurd cc

  fate_text : (front : Stream) → Goes H p After front ⊎ Doomed W H p After front → Goes H (text_by p) After front ⊎ Doomed W H (text_by p) After front
  fate_text front (inl c) = inl (goes_text front c)
  fate_text front (inr c) = inr (record {
    before = c.before;
    word = c.word;
    between = c.between;
    whole = c.whole;
    is_word = c.is_word;
    alive = goes_text c.before c.alive;
    dead = λ s. let x = c.dead s in (x.0, λ y e. not_read (c.before ++ (c.word ∷ s)) (p (c.before ++ (c.word ∷ s))) x.1 y e);
  })

  took_text : (ts r : Stream) (u : Unit {0}) → Took H p After ts r u → Took H (text_by p) After ts r (text_of (take (length ts - length r) ts))
  took_text ts r u c = record {
    front = c.front;
    whole = c.whole;
    kind = c.kind;
    told = c.told;
    reads = λ s g.
        let x = c.reads s g in
        (x.0, ap (text_up_to (c.front ++ s)) x.1 ∙ ap (λ o. Ok (o, s)) (text_of_front (c.front ++ s) c.front s refl ∙ sym (text_of_front ts c.front r c.whole)));
  }

  stops_text : (ts : Stream) (f : Fault) → Stops W H p After ts f → Stops W H (text_by p) After ts f
  stops_text ts f c = record {
    front = c.front;
    rest = c.rest;
    whole = c.whole;
    ahead = c.ahead;
    dead = λ s h. let x = c.dead s h in (x.0, ap (text_up_to (c.front ++ s)) x.1);
    alive = fate_text c.front c.alive;
  }

  went_text : (ts : Stream) (o : Outcome (Unit {0})) → Went W H p After ts o → Went W H (text_by p) After ts (text_up_to ts o)
  went_text ts (Ok x) c = took_text ts x.1 x.0 c
  went_text ts (Err f) c = map_token f {X = Stops W H p After ts f} {Y = Stops W H (text_by p) After ts f} (stops_text ts f) c

pub viable_text : {I : Type 0} {W : Piece → Type 0} {H : Stream → Type 0} {p : Parser (Unit {0})} (F : I → Stream → Type 0) → Viable W H p (λ i a. F i) → Viable W H (text_by p) (λ i a. F i)
viable_text {W = W} {H = H} {p = p} F rule = record { begin = goes_text W H p F [] rule.begin; held = record { at = λ ts h. went_text W H p F ts (p ts) (rule.held.at ts h) } }
