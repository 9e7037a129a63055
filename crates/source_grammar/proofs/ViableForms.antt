-- Rules in other words, and choices by what is ahead, tell their faults at the first token with which nothing goes on.
use Rattle.std.proofs.Common.{[], ◌≡◌, ◌++◌, ◌∷◌, Bool, true, false, Ok, Err, refl, ap, sym, ◌∙◌, subst, ◌⊎◌, inl, inr}
use Rattle.std.specs.Prelude.{if◌then◌else◌}
use Rattle.protox_tokens.specs.Stream.{Piece, Stream}
use Rattle.protox_tokens.specs.Parser.{Outcome, Parser, ◌<$>◌, choose}
use Rattle.protox_tokens.specs.Refusal.{Fault}
use Rattle.source_grammar.proofs.Viable.{Goes, Doomed, Took, Stops, map_token, Went, Held, Viable, Any, viable_made}

-- ---- the same rule in other words

module _ {A I : Type 0} (W : Piece → Type 0) {H K : Stream → Type 0} {p q : Parser A} (F : I → A → Stream → Type 0) (same : (s : Stream) → H s → K s × (q s ≡ p s)) where
  pub goes_as : (front : Stream) → Goes H p F front → Goes K q F front
  goes_as front c = record {
    more = c.more;
    stand = c.stand;
    kind = c.kind;
    value = c.value;
    reads = λ s g. let x = c.reads s g in let y = same (front ++ (c.more ++ s)) x.0 in (y.0, y.1 ∙ x.1);
  }

  fate_as : (front : Stream) → Goes H p F front ⊎ Doomed W H p F front → Goes K q F front ⊎ Doomed W K q F front
  fate_as front (inl c) = inl (goes_as front c)
  fate_as front (inr c) = inr (record {
    before = c.before;
    word = c.word;
    between = c.between;
    whole = c.whole;
    is_word = c.is_word;
    alive = goes_as c.before c.alive;
    dead = λ s. let x = c.dead s in let y = same (c.before ++ (c.word ∷ s)) x.0 in (y.0, λ z e. x.1 z (sym y.1 ∙ e));
  })

  took_as : (ts r : Stream) (a : A) → Took H p F ts r a → Took K q F ts r a
  took_as ts r a c = record {
    front = c.front;
    whole = c.whole;
    kind = c.kind;
    told = c.told;
    reads = λ s g. let x = c.reads s g in let y = same (c.front ++ s) x.0 in (y.0, y.1 ∙ x.1);
  }

  stops_as : (ts : Stream) (f : Fault) → Stops W H p F ts f → Stops W K q F ts f
  stops_as ts f c = record {
    front = c.front;
    rest = c.rest;
    whole = c.whole;
    ahead = c.ahead;
    dead = λ s h. let x = c.dead s h in let y = same (c.front ++ s) x.0 in (y.0, y.1 ∙ x.1);
    alive = fate_as c.front c.alive;
  }

  pub went_as : (ts : Stream) (o : Outcome A) → Went W H p F ts o → Went W K q F ts o
  went_as ts (Ok x) c = took_as ts x.1 x.0 c
  went_as ts (Err f) c = map_token f {X = Stops W H p F ts f} {Y = Stops W K q F ts f} (stops_as ts f) c

pub viable_equal : {A I : Type 0} {W : Piece → Type 0} {H : Stream → Type 0} {p q : Parser A} {F : I → A → Stream → Type 0} → ((s : Stream) → q s ≡ p s) → Viable W H p F → Viable W H q F
viable_equal {W = W} {H = H} {p = p} {q = q} {F = F} e rule = record {
  begin = goes_as W F (λ s h. (h, e s)) [] rule.begin;
  held = record { at = λ ts h. subst (Went W H q F ts) (sym (e ts)) (went_as W F (λ s h. (h, e s)) ts (p ts) (rule.held.at ts h)) };
}

-- ---- the same of what follows, in other words

module _ {A I J : Type 0} (W : Piece → Type 0) (H : Stream → Type 0) (p : Parser A) (F : I → A → Stream → Type 0) (G : J → A → Stream → Type 0) (to : I → A → J)
    (forth : (i : I) (a : A) (s : Stream) → F i a s → G (to i a) a s) (back : (i : I) (a : A) (s : Stream) → G (to i a) a s → F i a s) where
  goes_kind : (front : Stream) → Goes H p F front → Goes H p G front
  goes_kind front c = record { more = c.more; stand = c.stand; kind = to c.kind c.value; value = c.value; reads = λ s g. c.reads s (back c.kind c.value s g) }

  fate_kind : (front : Stream) → Goes H p F front ⊎ Doomed W H p F front → Goes H p G front ⊎ Doomed W H p G front
  fate_kind front (inl c) = inl (goes_kind front c)
  fate_kind front (inr c) = inr (record { before = c.before; word = c.word; between = c.between; whole = c.whole; is_word = c.is_word; alive = goes_kind c.before c.alive; dead = c.dead })

  took_kind : (ts r : Stream) (a : A) → Took H p F ts r a → Took H p G ts r a
  took_kind ts r a c = record { front = c.front; whole = c.whole; kind = to c.kind a; told = forth c.kind a r c.told; reads = λ s g. c.reads s (back c.kind a s g) }

  stops_kind : (ts : Stream) (f : Fault) → Stops W H p F ts f → Stops W H p G ts f
  stops_kind ts f c = record { front = c.front; rest = c.rest; whole = c.whole; ahead = c.ahead; dead = c.dead; alive = fate_kind c.front c.alive }

  went_kind : (ts : Stream) (o : Outcome A) → Went W H p F ts o → Went W H p G ts o
  went_kind ts (Ok x) c = took_kind ts x.1 x.0 c
  went_kind ts (Err f) c = map_token f {X = Stops W H p F ts f} {Y = Stops W H p G ts f} (stops_kind ts f) c

pub held_kind : {A I J : Type 0} {W : Piece → Type 0} {H : Stream → Type 0} {p : Parser A} {F : I → A → Stream → Type 0} {G : J → A → Stream → Type 0} (to : I → A → J) → ((i : I) (a : A) (s : Stream) → F i a s → G (to i a) a s) → ((i : I) (a : A) (s : Stream) → G (to i a) a s → F i a s)
    → Held W H p F → Held W H p G
held_kind {W = W} {H = H} {p = p} {F = F} {G = G} to forth back rule = record { at = λ ts h. went_kind W H p F G to forth back ts (p ts) (rule.at ts h) }

pub viable_kind : {A I J : Type 0} {W : Piece → Type 0} {H : Stream → Type 0} {p : Parser A} {F : I → A → Stream → Type 0} {G : J → A → Stream → Type 0} (to : I → A → J) → ((i : I) (a : A) (s : Stream) → F i a s → G (to i a) a s) → ((i : I) (a : A) (s : Stream) → G (to i a) a s → F i a s)
    → Viable W H p F → Viable W H p G
viable_kind {W = W} {H = H} {p = p} {F = F} {G = G} to forth back rule = record { begin = goes_kind W H p F G to forth back [] rule.begin; held = held_kind to forth back rule.held }

-- ---- a choice by what is ahead

abbrev pub If : (Stream → Type 0) → (Stream → Bool) → Stream → Type 0
If H f s = H s × (f s ≡ true)

abbrev pub Else : (Stream → Type 0) → (Stream → Bool) → Stream → Type 0
Else H f s = H s × (f s ≡ false)

module _ {B : Type 0} (f : Stream → Bool) (H : Stream → Type 0) (p q : Parser B) where
  pub chosen : (s : Stream) → If H f s → H s × (choose f p q s ≡ p s)
  chosen s h = (h.0, ap (λ c. if c then p s else q s) h.1)

  pub not_chosen : (s : Stream) → Else H f s → H s × (choose f p q s ≡ q s)
  not_chosen s h = (h.0, ap (λ c. if c then p s else q s) h.1)

pub viable_choose : {B J : Type 0} {W : Piece → Type 0} (f : Stream → Bool) {H : Stream → Type 0} {p q : Parser B} {G : J → B → Stream → Type 0} → Held W (If H f) p G → Viable W (Else H f) q G → Viable W H (choose f p q) G
viable_choose {W = W} f {H = H} {p = p} {q = q} {G = G} first second = record { begin = goes_as W G (not_chosen f H p q) [] second.begin; held = record { at = λ ts h. by ts h (f ts) refl } } where
  by : (ts : Stream) → H ts → (c : Bool) → f ts ≡ c → Went W H (choose f p q) G ts (if c then p ts else q ts)
  by ts h true e = went_as W G (chosen f H p q) ts (p ts) (first.at ts (h, e))
  by ts h false e = went_as W G (not_chosen f H p q) ts (q ts) (second.held.at ts (h, e))

-- by the word that begins values of one kind
pub viable_kinds : {A B : Type 0} {W : Piece → Type 0} (f : Stream → Bool) (c : A → B) {H : Stream → Type 0} {p : Parser A} {q : Parser B} → Viable W (If H f) p Any → Viable W (Else H f) q Any → Viable W H (choose f (c <$> p) q) Any
viable_kinds f c first second = viable_choose f (viable_made c first).held second
