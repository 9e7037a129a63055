-- That rules tell a fault at the first token with which nothing goes on, and how this is put together from their parts.
--
-- Which form: of each rule it is said at once what it took (`Took`) and where it stopped (`Stops`), both for all that
-- could stand behind what was taken. A condition H on the start of the input, and one F on what follows a value, of a
-- kind, take the place of the token ahead: a step that was read stays read before all that F holds of, and the start of
-- the next step has to meet F, for the tokens that stand there as for those that are put there. So a part that is refused
-- at its first token is completed with a token before which the part in front is read in the same way.
use Rattle.std.proofs.Common.{[], ◌≡◌, ◌++◌, ◌∷◌, Ok, Err, refl, ap, sym, ◌∙◌, subst, append_assoc, ◌⊎◌, inl, inr}
use Rattle.protox_tokens.specs.Stream.{Piece, Stream}
use Rattle.protox_tokens.specs.Parser.{Outcome, Parser, and_then, ◌>>=◌, ◌<$>◌, pure}
use Rattle.protox_tokens.specs.Refusal.{Fault, unexpected, eof, lexical, unknown_syntax, too_deep}
use Rattle.protox_tokens.proofs.Local.{SameHead, IsAhead, bound}
use Rattle.protox_tokens.proofs.Both.{Always, then_ok}
use Rattle.source_grammar.specs.Refusals.{AllStand}

pub stand_behind : (xs ys : Stream) → AllStand xs → AllStand ys → AllStand (xs ++ ys)
stand_behind [] ys a b = b
stand_behind (x ∷ xs) ys a b = (a.0, stand_behind xs ys a.1 b)

-- Tokens can be put behind these with which the rule reads a value, before all that F holds of.
pub record Goes {A I : Type 0} (H : Stream → Type 0) (p : Parser A) (F : I → A → Stream → Type 0) (front : Stream) : Type 0 where
  pub more : Stream
  pub stand : AllStand more
  pub kind : I
  pub value : A
  pub reads : (s : Stream) → F kind value s → H (front ++ (more ++ s)) × (p (front ++ (more ++ s)) ≡ Ok (value, s))

-- One of these tokens, of which W holds, is already the first with which nothing goes on.
pub record Doomed {A I : Type 0} (W : Piece → Type 0) (H : Stream → Type 0) (p : Parser A) (F : I → A → Stream → Type 0) (front : Stream) : Type 0 where
  pub before : Stream
  pub word : Piece
  pub between : Stream
  pub whole : front ≡ before ++ (word ∷ between)
  pub is_word : W word
  pub alive : Goes H p F before
  pub dead : (s : Stream) → H (before ++ (word ∷ s)) × ((x : A × Stream) → p (before ++ (word ∷ s)) ≡ Ok x → ⊥)

-- The first tokens are read as the value before all that F holds of, as it does of those that are left.
pub record Took {A I : Type 0} (H : Stream → Type 0) (p : Parser A) (F : I → A → Stream → Type 0) (ts r : Stream) (a : A) : Type 0 where
  pub front : Stream
  pub whole : ts ≡ front ++ r
  pub kind : I
  pub told : F kind a r
  pub reads : (s : Stream) → F kind a s → H (front ++ s) × (p (front ++ s) ≡ Ok (a, s))

-- The fault is told at a token that is refused behind the first ones whatever follows it, and these can be gone on with,
-- but for a token of which W holds.
pub record Stops {A I : Type 0} (W : Piece → Type 0) (H : Stream → Type 0) (p : Parser A) (F : I → A → Stream → Type 0) (ts : Stream) (f : Fault) : Type 0 where
  pub front : Stream
  pub rest : Stream
  pub whole : ts ≡ front ++ rest
  pub ahead : IsAhead f rest
  pub dead : (s : Stream) → SameHead rest s → H (front ++ s) × (p (front ++ s) ≡ Err f)
  pub alive : Goes H p F front ⊎ Doomed W H p F front

-- Of a fault that is not of tokens that stand in a wrong place nothing is said.
abbrev pub IfToken : Fault → Type 0 → Type 0
IfToken (unexpected e t at) X = X
IfToken (eof e) X = X
IfToken (lexical e) X = Unit {0}
IfToken (unknown_syntax at) X = Unit {0}
IfToken (too_deep at) X = Unit {0}

pub if_token : (f : Fault) {X : Type 0} → X → IfToken f X
if_token (unexpected e t at) x = x
if_token (eof e) x = x
if_token (lexical e) x = tt
if_token (unknown_syntax at) x = tt
if_token (too_deep at) x = tt

pub map_token : (f : Fault) {X Y : Type 0} → (X → Y) → IfToken f X → IfToken f Y
map_token (unexpected e t at) g x = g x
map_token (eof e) g x = g x
map_token (lexical e) g x = tt
map_token (unknown_syntax at) g x = tt
map_token (too_deep at) g x = tt

abbrev pub Went : {A I : Type 0} → (Piece → Type 0) → (Stream → Type 0) → Parser A → (I → A → Stream → Type 0) → Stream → Outcome A → Type 0
Went W H p F ts (Ok x) = Took H p F ts x.1 x.0
Went W H p F ts (Err f) = IfToken f (Stops W H p F ts f)

-- what the rule does on an input that has H
pub record Held {A I : Type 0} (W : Piece → Type 0) (H : Stream → Type 0) (p : Parser A) (F : I → A → Stream → Type 0) : Type 0 where
  pub at : (ts : Stream) → H ts → Went W H p F ts (p ts)

-- And it reads some tokens.
pub record Viable {A I : Type 0} (W : Piece → Type 0) (H : Stream → Type 0) (p : Parser A) (F : I → A → Stream → Type 0) : Type 0 where
  pub begin : Goes H p F []
  pub held : Held W H p F

-- ---- one after the other

module _ {A B I J : Type 0} (W : Piece → Type 0) (H : Stream → Type 0) (p : Parser A) (F : I → A → Stream → Type 0) (q : A → Parser B) (G : J → B → Stream → Type 0) where
  pub goes_then : (front : Stream) (c : Goes H p F front) → Goes (F c.kind c.value) (q c.value) G [] → Goes H (p >>= q) G front
  goes_then front c d = record {
    more = c.more ++ d.more;
    stand = stand_behind c.more d.more c.stand d.stand;
    kind = d.kind;
    value = d.value;
    reads = λ s g.
        let two = d.reads s g in
        let one = c.reads (d.more ++ s) two.0 in
        subst (λ v. H (front ++ v) × ((p >>= q) (front ++ v) ≡ Ok (d.value, s))) (sym (append_assoc c.more d.more s)) (one.0, then_ok q one.1 two.1);
  }

  doomed_first : (front : Stream) (c : Doomed W H p F front) → Goes (F c.alive.kind c.alive.value) (q c.alive.value) G [] → Doomed W H (p >>= q) G front
  doomed_first front c d = record {
    before = c.before;
    word = c.word;
    between = c.between;
    whole = c.whole;
    is_word = c.is_word;
    alive = goes_then c.before c.alive d;
    dead = λ s. let one = c.dead s in (one.0, λ x e. let b = bound (p (c.before ++ (c.word ∷ s))) q x e in one.1 b.0 b.1);
  }

  fate_first : (begins : (i : I) (a : A) → Goes (F i a) (q a) G []) → (front : Stream) → Goes H p F front ⊎ Doomed W H p F front → Goes H (p >>= q) G front ⊎ Doomed W H (p >>= q) G front
  fate_first begins front (inl c) = inl (goes_then front c (begins c.kind c.value))
  fate_first begins front (inr c) = inr (doomed_first front c (begins c.alive.kind c.alive.value))

  module _ (ts r : Stream) (a : A) (c : Took H p F ts r a) where
    took_then : (u : Stream) (b : B) → Took (F c.kind a) (q a) G r u b → Took H (p >>= q) G ts u b
    took_then u b d = record {
      front = c.front ++ d.front;
      whole = c.whole ∙ ap (λ x. c.front ++ x) d.whole ∙ sym (append_assoc c.front d.front u);
      kind = d.kind;
      told = d.told;
      reads = λ s g.
          let two = d.reads s g in
          let one = c.reads (d.front ++ s) two.0 in
          subst (λ v. H v × ((p >>= q) v ≡ Ok (b, s))) (sym (append_assoc c.front d.front s)) (one.0, then_ok q one.1 two.1);
    }

    goes_behind : (front : Stream) → Goes (F c.kind a) (q a) G front → Goes H (p >>= q) G (c.front ++ front)
    goes_behind front d = record {
      more = d.more;
      stand = d.stand;
      kind = d.kind;
      value = d.value;
      reads = λ s g.
          let two = d.reads s g in
          let one = c.reads (front ++ (d.more ++ s)) two.0 in
          subst (λ v. H v × ((p >>= q) v ≡ Ok (d.value, s))) (sym (append_assoc c.front front (d.more ++ s))) (one.0, then_ok q one.1 two.1);
    }

    doomed_behind : (front : Stream) → Doomed W (F c.kind a) (q a) G front → Doomed W H (p >>= q) G (c.front ++ front)
    doomed_behind front d = record {
      before = c.front ++ d.before;
      word = d.word;
      between = d.between;
      whole = ap (λ x. c.front ++ x) d.whole ∙ sym (append_assoc c.front d.before (d.word ∷ d.between));
      is_word = d.is_word;
      alive = goes_behind d.before d.alive;
      dead = λ s.
          let two = d.dead s in
          let one = c.reads (d.before ++ (d.word ∷ s)) two.0 in
          subst (λ v. H v × ((x : B × Stream) → (p >>= q) v ≡ Ok x → ⊥)) (sym (append_assoc c.front d.before (d.word ∷ s))) (one.0, λ x e. two.1 x (sym (then_ok q one.1 refl) ∙ e));
    }

    fate_behind : (front : Stream) → Goes (F c.kind a) (q a) G front ⊎ Doomed W (F c.kind a) (q a) G front → Goes H (p >>= q) G (c.front ++ front) ⊎ Doomed W H (p >>= q) G (c.front ++ front)
    fate_behind front (inl d) = inl (goes_behind front d)
    fate_behind front (inr d) = inr (doomed_behind front d)

    stops_then : (f : Fault) → Stops W (F c.kind a) (q a) G r f → Stops W H (p >>= q) G ts f
    stops_then f d = record {
      front = c.front ++ d.front;
      rest = d.rest;
      whole = c.whole ∙ ap (λ x. c.front ++ x) d.whole ∙ sym (append_assoc c.front d.front d.rest);
      ahead = d.ahead;
      dead = λ s h.
          let two = d.dead s h in
          let one = c.reads (d.front ++ s) two.0 in
          subst (λ v. H v × ((p >>= q) v ≡ Err f)) (sym (append_assoc c.front d.front s)) (one.0, then_ok q one.1 two.1);
      alive = fate_behind d.front d.alive;
    }

    -- the first part was read
    pub then_at : (o : Outcome B) → Went W (F c.kind a) (q a) G r o → Went W H (p >>= q) G ts o
    then_at (Ok y) d = took_then y.1 y.0 d
    then_at (Err f) d = map_token f {X = Stops W (F c.kind a) (q a) G r f} {Y = Stops W H (p >>= q) G ts f} (stops_then f) d

  stops_first : ((i : I) (a : A) → Goes (F i a) (q a) G []) → (ts : Stream) (f : Fault) → Stops W H p F ts f → Stops W H (p >>= q) G ts f
  stops_first begins ts f c = record {
    front = c.front;
    rest = c.rest;
    whole = c.whole;
    ahead = c.ahead;
    dead = λ s h. let one = c.dead s h in (one.0, ap (λ o. and_then o q) one.1);
    alive = fate_first begins c.front c.alive;
  }

  -- the first part was refused
  pub fail_at : ((i : I) (a : A) → Goes (F i a) (q a) G []) → (ts : Stream) (f : Fault) → IfToken f (Stops W H p F ts f) → IfToken f (Stops W H (p >>= q) G ts f)
  fail_at begins ts f d = map_token f {X = Stops W H p F ts f} {Y = Stops W H (p >>= q) G ts f} (stops_first begins ts f) d

  pub bind_at : ((i : I) (a : A) → Viable W (F i a) (q a) G) → (ts : Stream) (o : Outcome A) → Went W H p F ts o → Went W H (p >>= q) G ts (and_then o q)
  bind_at later ts (Ok x) c = then_at ts x.1 x.0 c (q x.0 x.1) ((later c.kind x.0).held.at x.1 c.told)
  bind_at later ts (Err f) c = fail_at (λ i a. (later i a).begin) ts f c

pub viable_then : {A B I J : Type 0} {W : Piece → Type 0} {H : Stream → Type 0} {p : Parser A} {F : I → A → Stream → Type 0} {q : A → Parser B} {G : J → B → Stream → Type 0}
    → Viable W H p F → ((i : I) (a : A) → Viable W (F i a) (q a) G) → Viable W H (p >>= q) G
viable_then {W = W} {H = H} {p = p} {F = F} {q = q} {G = G} first later = record {
  begin = goes_then W H p F q G [] first.begin ((later first.begin.kind first.begin.value).begin);
  held = record { at = λ ts h. bind_at W H p F q G later ts (p ts) (first.held.at ts h) };
}

-- ---- values that take nothing

pub viable_pure : {B J : Type 0} {W : Piece → Type 0} {H : Stream → Type 0} {G : J → B → Stream → Type 0} (j : J) (b : B) → ((s : Stream) → H s → G j b s) → ((s : Stream) → G j b s → H s) → Viable W H (pure b) G
viable_pure j b to back = record {
  begin = record { more = []; stand = tt; kind = j; value = b; reads = λ s g. (back s g, refl) };
  held = record { at = λ ts h. record { front = []; whole = refl; kind = j; told = to ts h; reads = λ s g. (back s g, refl) } };
}

-- whatever may follow
abbrev pub Any : {A : Type 0} → Unit {0} → A → Stream → Type 0
Any i a = λ s. Unit {0}

pub viable_end : {B : Type 0} {W : Piece → Type 0} (b : B) → Viable W Always (pure b) Any
viable_end b = viable_pure tt b (λ s h. tt) (λ s g. tt)

-- a value that is made of another one
pub viable_map : {A B I J : Type 0} {W : Piece → Type 0} {H : Stream → Type 0} {p : Parser A} {F : I → A → Stream → Type 0} {G : J → B → Stream → Type 0} (g : A → B) (to : I → A → J)
    → ((i : I) (a : A) (s : Stream) → F i a s → G (to i a) (g a) s) → ((i : I) (a : A) (s : Stream) → G (to i a) (g a) s → F i a s) → Viable W H p F → Viable W H (g <$> p) G
viable_map g to forth back rule = viable_then rule (λ i a. viable_pure (to i a) (g a) (forth i a) (back i a))

pub viable_made : {A B : Type 0} {W : Piece → Type 0} {H : Stream → Type 0} {p : Parser A} (g : A → B) → Viable W H p Any → Viable W H (g <$> p) Any
viable_made g rule = viable_map g (λ i a. tt) (λ i a s h. tt) (λ i a s h. tt) rule
