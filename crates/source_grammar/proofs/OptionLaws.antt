-- What the rules of options read.
use Rattle.std.proofs.Common.{[], ◌≡◌, ◌≤◌, ◌^◌, ℕ, nat_le, Bool, true, false, ◌||◌, List, ◌∷◌, Option, Some, None, Ok, Err, refl, ap, sym, subst, ◌∙◌, inl, inr, ◌⊎◌, arith}
use Rattle.std.specs.Prelude.{if◌then◌else◌, codes}
use Rattle.std.specs.Str.{bytes_eq}
use Rattle.std.proofs.lemmas.Slice.Eq.{bytes_eq-Decides}
use Rattle.protox_lex.specs.Class.{Text}
use Rattle.protox_lex.specs.Token.{Token, ident, int, float, str, sign, comment}
use Rattle.protox_lex.specs.declared.error.LexErrorKind.TheVariants as kinds
use Rattle.protox_lex.specs.declared.literal.Int.{Int}
use Rattle.protox_lex.specs.declared.span.Span.{Span}
use Rattle.protox_lex.specs.declared.token.Sign.TheVariants as s
use Rattle.protox_options.specs.OptionGrammar.{in_parens, part_after, name_part, name, plain_of, negative_of, in_range, negative, plain_value, signed_or_plain, value, body, option, bodies, in_brackets, options_after, options as options_rule}
use Rattle.protox_options.proofs.OptionLaws.{name_turns, body_turns}
use Rattle.protox_tree.specs.Tree.{Word, TypeName, NamePart, plain, extension, Value, word_value, minus_word, int_value, float_value, strings_value, braces_value, Body, OptionStatement, OptionList}
use Rattle.protox_tokens.specs.Stream.{Stream, Piece, Seen, source, look}
use Rattle.protox_tokens.specs.Parser.{◌>>=◌, pure, same, sees, value_of, taken, one as one_by, is_string}
use Rattle.protox_tokens.specs.Refusal.{Expected, an_option_value, a_number, lex_fault}
use Rattle.protox_tokens.specs.Span.{across}
use Rattle.protox_tokens.specs.Marks.{FitsMark, spot, IsAny}
use Rattle.protox_tokens.proofs.Local.{good, same_ok, bound}
use Rattle.protox_tokens.proofs.Both.{Always, Free, then_ok}
use Rattle.protox_tokens.proofs.Steps.{sees_first}
use Rattle.protox_tokens.proofs.Lists.{Lastly, lastly_all}
use Rattle.source_grammar.specs.Aggregates.{an_aggregate}
use Rattle.source_grammar.specs.Languages.{Language, one, token_at, begins, ends, ◌▸◌, some_by}
use Rattle.source_grammar.specs.Names.{a_word, a_type_name, integer_of, a_string}
use Rattle.source_grammar.specs.Options.{a_name_part, an_option_name, IsNoDigits, IsInRange, a_constant, a_body, an_option, options, ConstantEnds, NoBracket}
use Rattle.source_grammar.proofs.Rules.{Rule, rule_as, rule_then, rule_made, rule_last, rule_token, rule_close, rule_choose, rule_branch, rule_some_by}
use Rattle.source_grammar.proofs.NameLaws.{rule_word, rule_type_name, rule_strings, string_seen, no_string, word_misses}
use Rattle.source_grammar.proofs.RangeLaws.{ListEnds}
use Rattle.source_grammar.proofs.AggregateLaws.{rule_aggregate}
use Rattle.source_grammar.proofs.Ahead.{seen_no_string, begins_misses, begins_no_string}

-- ---- names

abbrev Parens : TypeName × Span → Language
Parens x = a_type_name x.0 ▸ token_at (sign s.RightParen) (ends x.1)

made_paren : (t : TypeName) (p q : Span) (x : TypeName × Span) → x.0 ≡ t → begins x.1 p → ends x.1 q → (t, across p q) ≡ x
made_paren t p q x e f g = rw (← e, ← f, ← g) refl

rule_parens : (p : Span) → Rule Always (in_parens p) Parens (λ x. begins x.1 p) Free
unfolding in_parens
rule_parens p = rule_then (λ (x : TypeName × Span). x.0) rule_type_name (λ x ts r h g. begins_misses (sign s.Dot) (sign s.RightParen) (ends x.1) ts r refl h) (λ t.
    rule_close (sign s.RightParen) refl (λ q. (t, across p q)) (λ (x : TypeName × Span). ends x.1) (λ q. (refl, (refl, refl))) (λ x q e k. made_paren t p q x k.0 k.1 e))

-- what stands behind the parenthesis
abbrev Extended : NamePart → Language
Extended b ts r = (x : TypeName × Span) × (b ≡ extension x.0 x.1) × Parens x ts r

abbrev Plain : NamePart → Language
Plain b ts r = (w : Word) × (b ≡ plain w) × a_word w ts r

abbrev part_begins : NamePart → Span → Type 0
part_begins (plain w) at = Unit {0}
part_begins (extension t p) at = begins p at

rule_part : {H : Stream → Type 0} → Rule H name_part a_name_part IsAny Free
unfolding name_part
rule_part = rule_as (rule_branch (sign s.LeftParen) refl part_after part_begins (λ p. extended p) (rule_made plain rule_word (λ w. tt) (λ w r f. f) (λ w r f. f)) (λ b ts r h g. word_misses (sign s.LeftParen) h.0 ts r refl h.2))
    (λ b ts r h f. (forth b ts r h, tt)) (λ b ts r h f. (back b ts r h, tt)) where
      extended : (p : Span) → Rule Always (part_after (Some p)) Extended (λ b. part_begins b p) Free
      extended p = record {
        sound = λ ts r b h e.
            let x = bound (in_parens p ts) (λ x. pure (extension x.0 x.1)) (b, r) e in
            let y = (rule_parens p).sound ts x.0.1 x.0.0 h x.1 in
            subst (λ (z : NamePart × Stream). Extended z.0 ts z.1 × part_begins z.0 p × Unit {0}) (same_ok (extension x.0.0.0 x.0.0.1, x.0.1) (b, r) x.2) ((x.0.0, refl, y.0), y.1, tt);
        complete = λ ts r b h k f. then_ok (λ x. pure (extension x.0 x.1)) ((rule_parens p).complete ts r h.0 h.2 (subst (λ b. part_begins b p) h.1 k) tt) (ap (λ b. Ok (b, r)) (sym h.1));
      }

      forth : (b : NamePart) (ts r : Stream) → (token_at (sign s.LeftParen) (part_begins b) ▸ Extended b) ts r ⊎ Plain b ts r → a_name_part b ts r
      forth b ts r (inl h) = subst (λ b. a_name_part b ts r) (sym h.2.1) (h.0, (h.1.0, h.1.1, subst (λ b. part_begins b h.1.0) h.2.1 h.1.2), h.2.2)
      forth b ts r (inr h) = subst (λ b. a_name_part b ts r) (sym h.1) h.2

      back : (b : NamePart) (ts r : Stream) → a_name_part b ts r → (token_at (sign s.LeftParen) (part_begins b) ▸ Extended b) ts r ⊎ Plain b ts r
      back (plain w) ts r h = inr (w, refl, h)
      back (extension t p) ts r h = inl (h.0, h.1, ((t, p), refl, h.2))

rule_name : {H : Stream → Type 0} → Rule H name an_option_name IsAny (λ ps r. (sees (sign s.Dot) r ≡ false) × Lastly {A = NamePart} Free ps r)
unfolding name
rule_name = rule_some_by (sign s.Dot) refl rule_part name_turns (λ x r h. tt)

-- ---- one token that stands for a value

abbrev Taken : {A : Type 0} → (Token → Span → Option A) → A → Language
Taken f a ts r = (t : Token) × (p : Span) × one (spot p t) ts r × (f t p ≡ Some a)

module _ {A : Type 0} (e : Expected) (f : Token → Span → Option A) where
  taken_at : (l : Piece) (ts r : Stream) (a : A) (x : Seen) → look source l ≡ x → taken source e (value_of f x) (l ∷ ts) ≡ Ok (a, r) → Taken f a (l ∷ ts) r
  taken_at l ts r a None i g = absurd cc
  taken_at l ts r a (Some x) i g = by (f x.0 x.1) refl g where
    by : (o : Option A) → f x.0 x.1 ≡ o → taken source e o (l ∷ ts) ≡ Ok (a, r) → Taken f a (l ∷ ts) r
    by None j g = absurd cc
    by (Some b) j g = let y = same_ok (b, ts) (a, r) g in (x.0, x.1, (subst (FitsMark (spot x.1 x.0)) (sym i) (refl, refl), ap (λ (z : A × Stream). z.1) y), j ∙ ap (λ (z : A × Stream). Some z.0) y)

  taken_sound : (ts r : Stream) (a : A) → one_by source e f ts ≡ Ok (a, r) → Taken f a ts r
  taken_sound [] r a g = absurd cc
  taken_sound (l ∷ ts) r a g = taken_at l ts r a (look source l) refl g

  taken_complete : (ts r : Stream) (a : A) → Taken f a ts r → one_by source e f ts ≡ Ok (a, r)
  taken_complete [] r a h = absurd h.2
  taken_complete (l ∷ ts) r a h = by (look source l) h.2.0 where
    by : (x : Seen) → FitsMark (spot h.1 h.0) x → taken source e (value_of f x) (l ∷ ts) ≡ Ok (a, r)
    by None i = absurd i
    by (Some x) i = ap (λ t. taken source e (f t x.1) (l ∷ ts)) (sym i.1) ∙ ap (λ p. taken source e (f h.0 p) (l ∷ ts)) (sym i.0) ∙ ap (λ o. taken source e o (l ∷ ts)) h.3 ∙ ap (λ s. Ok (a, s)) h.2.1

  rule_taken : {H : Stream → Type 0} → Rule H (one_by source e f) (Taken f) IsAny Free
  rule_taken = record { sound = λ ts r a h g. (taken_sound ts r a g, tt, tt); complete = λ ts r a h k g. taken_complete ts r a h }

-- ---- values without a sign

abbrev Unsigned : Value → Language
Unsigned (word_value w) ts r = a_word w ts r
Unsigned (int_value n) ts r = (n.negative ≡ false) × one (spot n.span (int n.value)) ts r
Unsigned (float_value false w) ts r = one (spot w.span (float w.text)) ts r
Unsigned (float_value true w) ts r = ⊥
Unsigned (minus_word w) ts r = ⊥
Unsigned (strings_value ws) ts r = ⊥
Unsigned (braces_value x at) ts r = ⊥

unsigned_to : (t : Token) (p : Span) (v : Value) (ts r : Stream) → one (spot p t) ts r → plain_of t p ≡ Some v → Unsigned v ts r
unsigned_to (ident t) p v ts r h e = let is : word_value (record { text = t; span = p }) ≡ v = cc in subst (λ v. Unsigned v ts r) is h
unsigned_to (int n) p v ts r h e = let is : int_value (record { negative = false; value = n; span = p }) ≡ v = cc in subst (λ v. Unsigned v ts r) is (refl, h)
unsigned_to (float t) p v ts r h e = let is : float_value false (record { text = t; span = p }) ≡ v = cc in subst (λ v. Unsigned v ts r) is h
unsigned_to (str t) p v ts r h e = absurd cc
unsigned_to (sign t) p v ts r h e = absurd cc
unsigned_to comment p v ts r h e = absurd cc

made_int : (b : Bool) (n : Int) → n.negative ≡ b → int_value (record { negative = b; value = n.value; span = n.span }) ≡ int_value n
made_int b n e = ap (λ b. int_value (record { negative = b; value = n.value; span = n.span })) (sym e)

unsigned_from : (v : Value) (ts r : Stream) → Unsigned v ts r → Taken plain_of v ts r
unsigned_from (word_value w) ts r h = (ident w.text, w.span, h, refl)
unsigned_from (int_value n) ts r h = (int n.value, n.span, h.1, ap Some (made_int false n h.0))
unsigned_from (float_value false w) ts r h = (float w.text, w.span, h, refl)
unsigned_from (float_value true w) ts r h = absurd h
unsigned_from (minus_word w) ts r h = absurd h
unsigned_from (strings_value ws) ts r h = absurd h
unsigned_from (braces_value x at) ts r h = absurd h

unsigned_ends : (v : Value) (ts r : Stream) → Unsigned v ts r → ConstantEnds v r
unsigned_ends (word_value w) ts r h = tt
unsigned_ends (int_value n) ts r h = tt
unsigned_ends (float_value b w) ts r h = tt
unsigned_ends (minus_word w) ts r h = tt
unsigned_ends (strings_value ws) ts r h = absurd h
unsigned_ends (braces_value x at) ts r h = tt

rule_unsigned : {H : Stream → Type 0} → Rule H plain_value Unsigned IsAny ConstantEnds
unfolding plain_value
rule_unsigned = rule_as (rule_taken an_option_value plain_of) (λ v ts r h f. let x = unsigned_to h.0 h.1 v ts r h.2 h.3 in (x, unsigned_ends v ts r x)) (λ v ts r h f. (unsigned_from v ts r h, tt))

-- a value without a sign is one token, which is neither of these
unsigned_misses : (k : Token) → ((x : Text) → same (ident x) k ≡ false) → ((n : ℕ) → same (int n) k ≡ false) → ((x : Text) → same (float x) k ≡ false) → (v : Value) (ts r : Stream) → Unsigned v ts r → sees k ts ≡ false
unsigned_misses k a b c (word_value w) ts r h = sees_first k (spot w.span (ident w.text)) [] ts r h ∙ a w.text
unsigned_misses k a b c (int_value n) ts r h = sees_first k (spot n.span (int n.value)) [] ts r h.1 ∙ b n.value
unsigned_misses k a b c (float_value false w) ts r h = sees_first k (spot w.span (float w.text)) [] ts r h ∙ c w.text
unsigned_misses k a b c (float_value true w) ts r h = absurd h
unsigned_misses k a b c (minus_word w) ts r h = absurd h
unsigned_misses k a b c (strings_value ws) ts r h = absurd h
unsigned_misses k a b c (braces_value x at) ts r h = absurd h

unsigned_no_string : (v : Value) (ts r : Stream) → Unsigned v ts r → is_string ts ≡ false
unsigned_no_string (word_value w) ts r h = no_string (ident w.text) w.span ts r refl h
unsigned_no_string (int_value n) ts r h = no_string (int n.value) n.span ts r refl h.1
unsigned_no_string (float_value false w) ts r h = no_string (float w.text) w.span ts r refl h
unsigned_no_string (float_value true w) ts r h = absurd h
unsigned_no_string (minus_word w) ts r h = absurd h
unsigned_no_string (strings_value ws) ts r h = absurd h
unsigned_no_string (braces_value x at) ts r h = absurd h

-- ---- values behind a minus

abbrev Behind : Value → Language
Behind (int_value n) ts r = (n.negative ≡ true) × IsInRange n × token_at (int n.value) (ends n.span) ts r
Behind (float_value true w) ts r = token_at (float w.text) (ends w.span) ts r
Behind (float_value false w) ts r = ⊥
Behind (minus_word w) ts r = IsNoDigits w.text × token_at (ident w.text) (ends w.span) ts r
Behind (word_value w) ts r = ⊥
Behind (strings_value ws) ts r = ⊥
Behind (braces_value x at) ts r = ⊥

-- where its minus stands
abbrev value_begins : Value → Span → Type 0
value_begins (int_value n) at = begins n.span at
value_begins (float_value b w) at = begins w.span at
value_begins (minus_word w) at = begins w.span at
value_begins (word_value w) at = Unit {0}
value_begins (strings_value ws) at = Unit {0}
value_begins (braces_value x p) at = Unit {0}

abbrev SmallEnough : Value → Type 0
SmallEnough (int_value n) = n.value ≤ 2 ^ 63
SmallEnough (float_value b w) = Unit {0}
SmallEnough (minus_word w) = Unit {0}
SmallEnough (word_value w) = Unit {0}
SmallEnough (strings_value ws) = Unit {0}
SmallEnough (braces_value x p) = Unit {0}

le_of : (a b : ℕ) → nat_le a b ≡ true → a ≤ b
le_of a b e = grind (arith, e)

of_le : (a b : ℕ) → a ≤ b → nat_le a b ≡ true
of_le a b e = grind (arith, e)

kept : (v : Value) (u : Stream) (y : Value × Stream) → in_range v u ≡ good y → ((v, u) ≡ y) × SmallEnough v
kept (int_value n) u y e = by (nat_le n.value (2 ^ 63)) refl e where
  by : (b : Bool) → nat_le n.value (2 ^ 63) ≡ b → (if b then pure (int_value n) else (λ ts. Err (lex_fault kinds.IntegerOutOfRange n.span))) u ≡ good y → ((int_value n, u) ≡ y) × (n.value ≤ 2 ^ 63)
  by true i e = (same_ok (int_value n, u) y e, le_of n.value (2 ^ 63) i)
  by false i e = absurd cc
kept (word_value w) u y e = (same_ok (word_value w, u) y e, tt)
kept (float_value b w) u y e = (same_ok (float_value b w, u) y e, tt)
kept (minus_word w) u y e = (same_ok (minus_word w, u) y e, tt)
kept (strings_value ws) u y e = (same_ok (strings_value ws, u) y e, tt)
kept (braces_value x p) u y e = (same_ok (braces_value x p, u) y e, tt)

keeps : (v : Value) (u : Stream) → SmallEnough v → in_range v u ≡ Ok (v, u)
keeps (int_value n) u is = ap (λ b. (if b then pure (int_value n) else (λ ts. Err (lex_fault kinds.IntegerOutOfRange n.span))) u) (of_le n.value (2 ^ 63) is)
keeps (word_value w) u is = refl
keeps (float_value b w) u is = refl
keeps (minus_word w) u is = refl
keeps (strings_value ws) u is = refl
keeps (braces_value x p) u is = refl

abbrev no_digits : Text → Bool
no_digits t = bytes_eq t (codes "inf") || bytes_eq t (codes "nan")

no_digits_to : (t : Text) → no_digits t ≡ true → IsNoDigits t
no_digits_to t e = by (bytes_eq t (codes "inf")) refl (bytes_eq t (codes "nan")) refl e where
  by : (b : Bool) → bytes_eq t (codes "inf") ≡ b → (c : Bool) → bytes_eq t (codes "nan") ≡ c → (b || c) ≡ true → IsNoDigits t
  by true i c j e = inl ((bytes_eq-Decides t (codes "inf")).0 i)
  by false i true j e = inr ((bytes_eq-Decides t (codes "nan")).0 j)
  by false i false j e = absurd cc

no_digits_from : (t : Text) → IsNoDigits t → no_digits t ≡ true
no_digits_from t (inl e) = ap no_digits e
no_digits_from t (inr e) = ap no_digits e

module _ (m : Span) where
  abbrev after_minus : Token → Span → Option Value
  after_minus t p = negative_of t (across m p)

  abbrev Minded : Value → Language
  Minded v ts r = Behind v ts r × value_begins v m

  word_to : (t : Text) (p : Span) (v : Value) (ts r : Stream) → one (spot p (ident t)) ts r → (b : Bool) → no_digits t ≡ b → (if b then Some (minus_word (record { text = t; span = across m p })) else None) ≡ Some v → Minded v ts r
  word_to t p v ts r h true i e = let is : minus_word (record { text = t; span = across m p }) ≡ v = cc in subst (λ v. Minded v ts r) is ((no_digits_to t i, (p, h, refl)), refl)
  word_to t p v ts r h false i e = absurd (let wrong : ◌≡◌ {A = Option Value} None (Some v) = e in cc)

  behind_to : (t : Token) (p : Span) (v : Value) (ts r : Stream) → one (spot p t) ts r → after_minus t p ≡ Some v → SmallEnough v → Minded v ts r
  behind_to (int n) p v ts r h e = let is : int_value (record { negative = true; value = n; span = across m p }) ≡ v = cc in
      subst (λ v. SmallEnough v → Minded v ts r) is (λ small. ((refl, (λ x. small), (p, h, refl)), refl))
  behind_to (float t) p v ts r h e = let is : float_value true (record { text = t; span = across m p }) ≡ v = cc in subst (λ v. SmallEnough v → Minded v ts r) is (λ small. ((p, h, refl), refl))
  behind_to (ident t) p v ts r h e = λ small. word_to t p v ts r h (no_digits t) refl e
  behind_to (str t) p v ts r h e = absurd cc
  behind_to (sign t) p v ts r h e = absurd cc
  behind_to comment p v ts r h e = absurd cc

  made_span : (p q : Span) → begins p m → ends p q → across m q ≡ p
  made_span p q e f = rw (← e, ← f) refl

  made_word : (w : Word) (q : Span) → begins w.span m → ends w.span q → record { text = w.text; span = across m q } ≡ w
  made_word w q e f = ap (λ p. record { text = w.text; span = p }) (made_span w.span q e f)

  behind_from : (v : Value) (ts r : Stream) → Behind v ts r → value_begins v m → Taken after_minus v ts r × SmallEnough v
  behind_from (int_value n) ts r h k =
      ((int n.value, h.2.0, h.2.1, ap (λ p. Some (int_value (record { negative = true; value = n.value; span = p }))) (made_span n.span h.2.0 k h.2.2) ∙ ap Some (made_int true n h.0)), h.1 h.0)
  behind_from (float_value true w) ts r h k = ((float w.text, h.0, h.1, ap (λ w. Some (float_value true w)) (made_word w h.0 k h.2)), tt)
  behind_from (float_value false w) ts r h k = absurd h
  behind_from (minus_word w) ts r h k =
      ((ident w.text, h.1.0, h.1.1, ap (λ b. if b then Some (minus_word (record { text = w.text; span = across m h.1.0 })) else None) (no_digits_from w.text h.0) ∙ ap (λ w. Some (minus_word w)) (made_word w h.1.0 k h.1.2)), tt)
  behind_from (word_value w) ts r h k = absurd h
  behind_from (strings_value ws) ts r h k = absurd h
  behind_from (braces_value x at) ts r h k = absurd h

behind_ends : (v : Value) (ts r : Stream) → Behind v ts r → ConstantEnds v r
behind_ends (word_value w) ts r h = tt
behind_ends (int_value n) ts r h = tt
behind_ends (float_value b w) ts r h = tt
behind_ends (minus_word w) ts r h = tt
behind_ends (strings_value ws) ts r h = absurd h
behind_ends (braces_value x at) ts r h = tt

rule_behind : (m : Span) → Rule Always (signed_or_plain (Some m)) Behind (λ v. value_begins v m) ConstantEnds
unfolding negative
rule_behind m = record { sound = λ ts r v h e. forth ts r v e; complete = λ ts r v h k g. let x = behind_from m v ts r h k in then_ok in_range (taken_complete a_number (after_minus m) ts r v x.0) (keeps v r x.1) } where
  forth : (ts r : Stream) (v : Value) → (one_by source a_number (after_minus m) >>= in_range) ts ≡ Ok (v, r) → Behind v ts r × value_begins v m × ConstantEnds v r
  forth ts r v e =
      let x = bound (one_by source a_number (after_minus m) ts) in_range (v, r) e in
      let y = taken_sound a_number (after_minus m) ts x.0.1 x.0.0 x.1 in
      let z = kept x.0.0 x.0.1 (v, r) x.2 in
      let w = behind_to m y.0 y.1 x.0.0 ts x.0.1 y.2 y.3 z.1 in
      subst (λ (u : Value × Stream). Behind u.0 ts u.1 × value_begins u.0 m × ConstantEnds u.0 u.1) z.0 (w.0, w.1, behind_ends x.0.0 ts x.0.1 w.0)

-- ---- values

abbrev Braced : Value → Language
Braced v ts r = (x : Text × Span) × (v ≡ braces_value x.0 x.1) × an_aggregate x.0 x.1 ts r

abbrev Stringed : Value → Language
Stringed v ts r = (ws : List Word) × (v ≡ strings_value ws) × a_string ws ts r

abbrev Bare : Value → Language
Bare v ts r = Braced v ts r ⊎ Unsigned v ts r

abbrev Signed : Value → Language
Signed v = token_at (sign s.Minus) (value_begins v) ▸ Behind v

strings_seen : (ws : List Word) (ts r : Stream) → a_string ws ts r → is_string ts ≡ true
strings_seen [] ts r h = absurd h
strings_seen (w ∷ ws) ts r h = string_seen w ts h.0 h.1

bare_no_string : (v : Value) (ts r : Stream) → Bare v ts r → is_string ts ≡ false
bare_no_string v ts r (inl h) = begins_no_string (sign s.LeftBrace) (begins h.0.1) ts h.2.0 refl h.2.1
bare_no_string v ts r (inr h) = unsigned_no_string v ts r h

rule_bare : Rule (λ ts. sees (sign s.Minus) ts ≡ false) (signed_or_plain None) Bare IsAny ConstantEnds
rule_bare = rule_choose (sees (sign s.LeftBrace)) (rule_made (λ (x : Text × Span). braces_value x.0 x.1) rule_aggregate (λ x. tt) (λ x r f. tt) (λ x r f. tt)) rule_unsigned
    (λ v ts r h. sees_first (sign s.LeftBrace) (spot h.2.1.0 (sign s.LeftBrace)) [] ts h.2.0 h.2.1.1) (unsigned_misses (sign s.LeftBrace) (λ x. refl) (λ n. refl) (λ x. refl))

bare_no_minus : (v : Value) (ts r : Stream) → Bare v ts r → ConstantEnds v r → sees (sign s.Minus) ts ≡ false
bare_no_minus v ts r (inl h) g = begins_misses (sign s.Minus) (sign s.LeftBrace) (begins h.0.1) ts h.2.0 refl h.2.1
bare_no_minus v ts r (inr h) g = unsigned_misses (sign s.Minus) (λ x. refl) (λ n. refl) (λ x. refl) v ts r h

signed_no_string : (v : Value) (ts r : Stream) → Signed v ts r ⊎ Bare v ts r → is_string ts ≡ false
signed_no_string v ts r (inl h) = begins_no_string (sign s.Minus) (value_begins v) ts h.0 refl h.1
signed_no_string v ts r (inr h) = bare_no_string v ts r h

never_negative : (n : Int) → n.negative ≡ false → IsInRange n
never_negative n e i = absurd (let wrong : false ≡ true = sym e ∙ i in cc)

unsigned_is : (v : Value) (ts r : Stream) → Unsigned v ts r → a_constant v ts r
unsigned_is (word_value w) ts r h = h
unsigned_is (int_value n) ts r h = (never_negative n h.0, subst (λ b. integer_of b n ts r) (sym h.0) h.1)
unsigned_is (float_value false w) ts r h = h
unsigned_is (float_value true w) ts r h = absurd h
unsigned_is (minus_word w) ts r h = absurd h
unsigned_is (strings_value ws) ts r h = absurd h
unsigned_is (braces_value x at) ts r h = absurd h

signed_is : (v : Value) (ts r : Stream) → Signed v ts r → a_constant v ts r
signed_is (int_value n) ts r h = (h.2.1, subst (λ b. integer_of b n ts r) (sym h.2.0) (h.0, h.1, h.2.2))
signed_is (float_value true w) ts r h = h
signed_is (float_value false w) ts r h = absurd h.2
signed_is (minus_word w) ts r h = (h.2.0, (h.0, h.1, h.2.1))
signed_is (word_value w) ts r h = absurd h.2
signed_is (strings_value ws) ts r h = absurd h.2
signed_is (braces_value x at) ts r h = absurd h.2

constant_to : (v : Value) (ts r : Stream) → Stringed v ts r ⊎ (Signed v ts r ⊎ Bare v ts r) → a_constant v ts r
constant_to v ts r (inl h) = subst (λ v. a_constant v ts r) (sym h.1) h.2
constant_to v ts r (inr (inl h)) = signed_is v ts r h
constant_to v ts r (inr (inr (inl h))) = subst (λ v. a_constant v ts r) (sym h.1) h.2
constant_to v ts r (inr (inr (inr h))) = unsigned_is v ts r h

int_from : (n : Int) (ts r : Stream) → IsInRange n → (b : Bool) → n.negative ≡ b → integer_of b n ts r → Signed (int_value n) ts r ⊎ Bare (int_value n) ts r
int_from n ts r small true e h = inl (h.0, h.1, (e, small, h.2))
int_from n ts r small false e h = inr (inr (e, h))

constant_from : (v : Value) (ts r : Stream) → a_constant v ts r → Stringed v ts r ⊎ (Signed v ts r ⊎ Bare v ts r)
constant_from (word_value w) ts r h = inr (inr (inr h))
constant_from (int_value n) ts r h = inr (int_from n ts r h.0 n.negative refl h.1)
constant_from (float_value false w) ts r h = inr (inr (inr h))
constant_from (float_value true w) ts r h = inr (inl h)
constant_from (minus_word w) ts r h = inr (inl (h.1.0, h.1.1, (h.0, h.1.2)))
constant_from (strings_value ws) ts r h = inl (ws, refl, h)
constant_from (braces_value x at) ts r h = inr (inr (inl ((x, at), refl, h)))

pub rule_value : {H : Stream → Type 0} → Rule H value a_constant IsAny ConstantEnds
unfolding value
rule_value = rule_as (rule_choose is_string (rule_made strings_value rule_strings (λ ws. tt) (λ ws r f. f) (λ ws r f. f))
    (rule_branch (sign s.Minus) refl signed_or_plain value_begins rule_behind rule_bare bare_no_minus) (λ v ts r h. strings_seen h.0 ts r h.2) signed_no_string)
    (λ v ts r h f. (constant_to v ts r h, f)) (λ v ts r h f. (constant_from v ts r h, f))

-- ---- statements and lists

pub constant_ends : (v : Value) (r : Stream) → is_string r ≡ false → ConstantEnds v r
constant_ends (word_value w) r h = tt
constant_ends (int_value n) r h = tt
constant_ends (float_value b w) r h = tt
constant_ends (minus_word w) r h = tt
constant_ends (strings_value ws) r h = h
constant_ends (braces_value x at) r h = tt

abbrev BodyEnds : Body → Stream → Type 0
BodyEnds b r = ConstantEnds b.value r

rule_body : {H : Stream → Type 0} → Rule H body a_body IsAny BodyEnds
unfolding body
rule_body = rule_then (λ (b : Body). b.name) rule_name (λ b ts r h g. (begins_misses (sign s.Dot) (sign s.Equals) (λ at. Unit {0}) ts h.0 refl h.1, lastly_all Free b.name ts (λ x. tt))) (λ n.
    rule_token (sign s.Equals) refl (λ b at. Unit {0}) (λ at.
    rule_last (λ (b : Body). b.value) (λ v. record { name = n; value = v }) rule_value (λ v. (refl, (tt, (refl, tt)))) (λ b k. rw (← k.1.0) refl) (λ b r f. f) (λ b r f. f)))

abbrev statement : Body → Span → Span → OptionStatement
statement b p q = record { body = b; span = across p q }

made_option : (b : Body) (p q : Span) (x : OptionStatement) → x.body ≡ b → begins x.span p → ends x.span q → statement b p q ≡ x
made_option b p q x e f g = rw (← e, ← f, ← g) refl

pub rule_option : {H : Stream → Type 0} → Rule H option an_option IsAny Free
unfolding option
rule_option = rule_token (ident (codes "option")) refl (λ (x : OptionStatement). begins x.span) (λ p.
    rule_then (λ (x : OptionStatement). x.body) rule_body (λ x ts r h g. constant_ends x.body.value ts (begins_no_string (sign s.Semicolon) (ends x.span) ts r refl h)) (λ b.
    rule_close (sign s.Semicolon) refl (statement b p) (λ (x : OptionStatement). ends x.span) (λ q. (refl, (refl, (refl, tt)))) (λ x q e k. made_option b p q x k.0 k.1.0 e)))

rule_bodies : {H : Stream → Type 0} → Rule H bodies (some_by (sign s.Comma) a_body) IsAny (ListEnds BodyEnds)
unfolding bodies
rule_bodies = rule_some_by (sign s.Comma) refl rule_body body_turns (λ b r h. constant_ends b.value r (seen_no_string source (sign s.Comma) r refl h))

abbrev bracketed : List Body → Span → Span → OptionList
bracketed bs p q = record { options = bs; span = across p q }

made_list : (bs : List Body) (p q : Span) (x : OptionList) → x.options ≡ bs → begins x.span p → ends x.span q → bracketed bs p q ≡ x
made_list bs p q x e f g = rw (← e, ← f, ← g) refl

abbrev Bodies : OptionList → Language
Bodies o = some_by (sign s.Comma) a_body o.options ▸ token_at (sign s.RightBracket) (ends o.span)

bodies_end : (o : OptionList) (ts r : Stream) → token_at (sign s.RightBracket) (ends o.span) ts r → ListEnds BodyEnds o.options ts
bodies_end o ts r h = (begins_misses (sign s.Comma) (sign s.RightBracket) (ends o.span) ts r refl h, lastly_all BodyEnds o.options ts (λ b. constant_ends b.value ts (begins_no_string (sign s.RightBracket) (ends o.span) ts r refl h)))

rule_brackets : (p : Span) → Rule Always (in_brackets p) Bodies (λ o. begins o.span p) Free
unfolding in_brackets
rule_brackets p = rule_then (λ (o : OptionList). o.options) rule_bodies (λ o ts r h g. bodies_end o ts r h) (λ bs.
    rule_close (sign s.RightBracket) refl (bracketed bs p) (λ (o : OptionList). ends o.span) (λ q. (refl, (refl, refl))) (λ o q e k. made_list bs p q o k.0 k.1 e))

abbrev list_begins : Option OptionList → Span → Type 0
list_begins None at = Unit {0}
list_begins (Some o) at = begins o.span at

abbrev Listed : Option OptionList → Language
Listed x ts r = (o : OptionList) × (x ≡ Some o) × Bodies o ts r

abbrev Unlisted : Option OptionList → Language
Unlisted x ts r = (x ≡ None) × (ts ≡ r)

rule_listed : (p : Span) → Rule Always (options_after (Some p)) Listed (λ x. list_begins x p) NoBracket
rule_listed p = record {
  sound = λ ts r x h e.
      let y = bound (in_brackets p ts) (λ o. pure (Some o)) (x, r) e in
      let z = (rule_brackets p).sound ts y.0.1 y.0.0 h y.1 in
      subst (λ (u : Option OptionList × Stream). Listed u.0 ts u.1 × list_begins u.0 p × NoBracket u.0 u.1) (same_ok (Some y.0.0, y.0.1) (x, r) y.2) ((y.0.0, refl, z.0), z.1, tt);
  complete = λ ts r x h k f. then_ok (λ o. pure (Some o)) ((rule_brackets p).complete ts r h.0 h.2 (subst (λ x. list_begins x p) h.1 k) tt) (ap (λ x. Ok (x, r)) (sym h.1));
}

rule_unlisted : Rule (λ ts. sees (sign s.LeftBracket) ts ≡ false) (pure None) Unlisted IsAny NoBracket
rule_unlisted = record {
  sound = λ ts r x h e. subst (λ (y : Option OptionList × Stream). Unlisted y.0 ts y.1 × Unit {0} × NoBracket y.0 y.1) (same_ok (None, ts) (x, r) e) ((refl, refl), tt, h);
  complete = λ ts r x h k f. ap (λ x. Ok (x, ts)) (sym h.0) ∙ ap (λ s. Ok (x, s)) h.1;
}

pub rule_options : {H : Stream → Type 0} → Rule H options_rule options IsAny NoBracket
unfolding options_rule
rule_options = rule_as (rule_branch (sign s.LeftBracket) refl options_after list_begins rule_listed rule_unlisted (λ x ts r h g. subst (λ u. sees (sign s.LeftBracket) u ≡ false) (sym h.1) (subst (λ x. NoBracket x r) h.0 g)))
    (λ x ts r h f. (forth x ts r h, f)) (λ x ts r h f. (back x ts r h, f)) where
      forth : (x : Option OptionList) (ts r : Stream) → (token_at (sign s.LeftBracket) (list_begins x) ▸ Listed x) ts r ⊎ Unlisted x ts r → options x ts r
      forth x ts r (inl h) = subst (λ x. options x ts r) (sym h.2.1) (h.0, (h.1.0, h.1.1, subst (λ x. list_begins x h.1.0) h.2.1 h.1.2), h.2.2)
      forth x ts r (inr h) = subst (λ x. options x ts r) (sym h.0) h.1

      back : (x : Option OptionList) (ts r : Stream) → options x ts r → (token_at (sign s.LeftBracket) (list_begins x) ▸ Listed x) ts r ⊎ Unlisted x ts r
      back None ts r h = inr (refl, h)
      back (Some o) ts r h = inl (h.0, h.1, (o, refl, h.2))
