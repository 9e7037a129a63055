-- What the rules of ranges and reserved statements read.
use Rattle.std.proofs.Common.{[], ◌≡◌, true, false, List, ◌∷◌, Ok, refl, ap, sym, subst, ◌∙◌, inl, inr, ◌⊎◌}
use Rattle.std.specs.Prelude.{codes}
use Rattle.protox_lex.specs.Token.{Token, ident, sign}
use Rattle.protox_lex.specs.declared.literal.Int.{Int}
use Rattle.protox_lex.specs.declared.span.Span.{Span}
use Rattle.protox_lex.specs.declared.token.Sign.TheVariants as s
use Rattle.protox_options.specs.RangeGrammar.{max_or_int, end_behind, range_end, range, ranges, names, reserved_items as items_rule, reserved}
use Rattle.protox_options.proofs.RangeLaws.{range_turns, names_turns}
use Rattle.protox_tree.specs.Tree.{Word, ReservedItems, reserved_ranges, reserved_names, Reserved}
use Rattle.protox_tree.specs.declared.range.RangeEnd.{RangeEnd}
use Rattle.protox_tree.specs.declared.range.ReservedRange.{ReservedRange}
use Rattle.protox_tree.specs.declared.range.RangeEnd.TheVariants as bounds
use Rattle.protox_tokens.specs.Stream.{Stream, source}
use Rattle.protox_tokens.specs.Parser.{◌>>=◌, pure, sees, eat, is_string}
use Rattle.protox_tokens.specs.Span.{across}
use Rattle.protox_tokens.specs.Marks.{spot, IsAny}
use Rattle.protox_tokens.proofs.Local.{same_ok}
use Rattle.protox_tokens.proofs.Both.{Always, Free}
use Rattle.protox_tokens.proofs.Lists.{Lastly, lastly_all}
use Rattle.source_grammar.specs.Languages.{Language, nothing, one, the, token_at, begins, ends, ◌▸◌, some_by}
use Rattle.source_grammar.specs.Names.{integer, a_string, NoString}
use Rattle.source_grammar.specs.Ranges.{a_range_end, a_range, reserved_items, a_reserved, NoTo, NoEnd}
use Rattle.source_grammar.proofs.Rules.{Rule, rule_as, rule_then, rule_made, rule_last, rule_pure, rule_token, rule_close, rule_choose, rule_branch, rule_some_by}
use Rattle.source_grammar.proofs.NameLaws.{rule_int, rule_strings, string_seen}
use Rattle.source_grammar.proofs.Ahead.{one_seen, seen_no_string, int_misses, int_no_string, begins_misses, begins_no_string}

abbrev to : Token
to = ident (codes "to")

abbrev max : Token
max = ident (codes "max")

-- ---- ranges

abbrev Highest : RangeEnd → Language
Highest e = token_at max (λ at. e ≡ bounds.Max at) ▸ nothing

abbrev Numbered : RangeEnd → Language
Numbered e ts r = (n : Int) × (e ≡ bounds.Int n) × integer n ts r

abbrev Bounded : RangeEnd → Language
Bounded e ts r = Highest e ts r ⊎ Numbered e ts r

abbrev Unbounded : RangeEnd → Language
Unbounded e ts r = (e ≡ bounds.None) × (ts ≡ r)

rule_bound : Rule Always (eat max >>= max_or_int) Bounded IsAny Free
rule_bound = rule_branch max refl max_or_int (λ e at. e ≡ bounds.Max at) (λ at. rule_pure (bounds.Max at) refl (λ e k. sym k) (λ r h. tt))
    (rule_made (λ n. bounds.Int n) rule_int (λ n. tt) (λ n r f. f) (λ n r f. f)) (λ e ts r h g. int_misses max h.0 ts r refl refl h.2)

bounded_to : (e : RangeEnd) (ts r : Stream) → Bounded e ts r → NoTo e r
bounded_to e ts r (inl h) = subst (λ e. NoTo e r) (sym h.1.2) tt
bounded_to e ts r (inr h) = subst (λ e. NoTo e r) (sym h.1) tt

rule_unbounded : Rule (λ ts. sees to ts ≡ false) (pure bounds.None) Unbounded IsAny NoTo
rule_unbounded = record {
  sound = λ ts r e h g. subst (λ (y : RangeEnd × Stream). Unbounded y.0 ts y.1 × Unit {0} × NoTo y.0 y.1) (same_ok (bounds.None, ts) (e, r) g) ((refl, refl), tt, h);
  complete = λ ts r e h k f. ap (λ x. Ok (x, ts)) (sym h.0) ∙ ap (λ s. Ok (e, s)) h.1;
}

rule_end : {H : Stream → Type 0} → Rule H range_end a_range_end IsAny NoTo
unfolding range_end
rule_end = rule_as (rule_branch to refl end_behind (λ e at. Unit {0}) (λ at. rule_as rule_bound (λ e ts r h f. (h, bounded_to e ts r h)) (λ e ts r h f. (h, tt))) rule_unbounded
    (λ e ts r h g. subst (λ u. sees to u ≡ false) (sym h.1) (subst (λ e. NoTo e r) h.0 g))) (λ e ts r h f. (forth e ts r h, f)) (λ e ts r h f. (back e ts r h, f)) where
      forth : (e : RangeEnd) (ts r : Stream) → (the to ▸ Bounded e) ts r ⊎ Unbounded e ts r → a_range_end e ts r
      forth e ts r (inl (u, t, inl h)) = subst (λ e. a_range_end e ts r) (sym h.1.2) (u, t, subst (one (spot h.1.0 max) u) h.2 h.1.1)
      forth e ts r (inl (u, t, inr h)) = subst (λ e. a_range_end e ts r) (sym h.1) (u, t, h.2)
      forth e ts r (inr h) = subst (λ e. a_range_end e ts r) (sym h.0) h.1

      back : (e : RangeEnd) (ts r : Stream) → a_range_end e ts r → (the to ▸ Bounded e) ts r ⊎ Unbounded e ts r
      back bounds.None ts r h = inr (refl, h)
      back (bounds.Int n) ts r h = inl (h.0, h.1, inr (n, refl, h.2))
      back (bounds.Max at) ts r h = inl (h.0, h.1, inl (r, (at, h.2, refl), refl))

pub rule_range : {H : Stream → Type 0} → Rule H range a_range IsAny NoEnd
unfolding range
rule_range = rule_then (λ (x : ReservedRange). x.start) rule_int (λ x ts r h g. tt) (λ start.
    rule_last (λ (x : ReservedRange). x.end) (λ e. record { start = start; end = e }) rule_end (λ e. (refl, (refl, tt))) (λ x k. rw (← k.0) refl) (λ x r f. f) (λ x r f. f))

comma_no_to : (e : RangeEnd) (r : Stream) → sees (sign s.Comma) r ≡ true → NoTo e r
comma_no_to bounds.None r h = one_seen source (sign s.Comma) to r refl h
comma_no_to (bounds.Int n) r h = tt
comma_no_to (bounds.Max p) r h = tt

pub no_to : (e : RangeEnd) (r : Stream) → sees to r ≡ false → NoTo e r
no_to bounds.None r h = h
no_to (bounds.Int n) r h = tt
no_to (bounds.Max p) r h = tt

-- what follows a list that commas stand in
abbrev pub ListEnds : {A : Type 0} → (A → Stream → Type 0) → List A → Stream → Type 0
ListEnds F xs r = (sees (sign s.Comma) r ≡ false) × Lastly F xs r

pub rule_ranges : {H : Stream → Type 0} → Rule H ranges (some_by (sign s.Comma) a_range) IsAny (ListEnds NoEnd)
unfolding ranges
rule_ranges = rule_some_by (sign s.Comma) refl rule_range range_turns (λ x r h. comma_no_to x.end r h)

rule_names : {H : Stream → Type 0} → Rule H names (some_by (sign s.Comma) a_string) IsAny (ListEnds NoString)
unfolding names
rule_names = rule_some_by (sign s.Comma) refl rule_strings names_turns (λ ws r h. seen_no_string source (sign s.Comma) r refl h)

-- ---- reserved statements

abbrev ItemsEnd : ReservedItems → Stream → Type 0
ItemsEnd (reserved_ranges xs) r = ListEnds NoEnd xs r
ItemsEnd (reserved_names ns) r = ListEnds NoString ns r

names_seen : (ns : List (List Word)) (ts r : Stream) → some_by (sign s.Comma) a_string ns ts r → is_string ts ≡ true
names_seen [] ts r h = absurd h
names_seen ([] ∷ ns) ts r h = absurd h.1
names_seen ((w ∷ ws) ∷ ns) ts r h = string_seen w ts h.1.0 h.1.1

ranges_seen : (xs : List ReservedRange) (ts r : Stream) → some_by (sign s.Comma) a_range xs ts r → is_string ts ≡ false
ranges_seen [] ts r h = absurd h
ranges_seen (x ∷ xs) ts r h = int_no_string x.start ts h.1.0 h.1.1

abbrev Names : ReservedItems → Language
Names i ts r = (ns : List (List Word)) × (i ≡ reserved_names ns) × some_by (sign s.Comma) a_string ns ts r

abbrev Numbers : ReservedItems → Language
Numbers i ts r = (xs : List ReservedRange) × (i ≡ reserved_ranges xs) × some_by (sign s.Comma) a_range xs ts r

rule_items : {H : Stream → Type 0} → Rule H items_rule reserved_items IsAny ItemsEnd
unfolding items_rule
rule_items = rule_as (rule_choose is_string (rule_made reserved_names rule_names (λ ns. tt) (λ ns r f. f) (λ ns r f. f)) (rule_made reserved_ranges rule_ranges (λ xs. tt) (λ xs r f. f) (λ xs r f. f))
    (λ i ts r h. names_seen h.0 ts r h.2) (λ i ts r h. ranges_seen h.0 ts r h.2)) (λ i ts r h f. (forth i ts r h, f)) (λ i ts r h f. (back i ts r h, f)) where
      forth : (i : ReservedItems) (ts r : Stream) → Names i ts r ⊎ Numbers i ts r → reserved_items i ts r
      forth i ts r (inl h) = subst (λ i. reserved_items i ts r) (sym h.1) h.2
      forth i ts r (inr h) = subst (λ i. reserved_items i ts r) (sym h.1) h.2

      back : (i : ReservedItems) (ts r : Stream) → reserved_items i ts r → Names i ts r ⊎ Numbers i ts r
      back (reserved_names ns) ts r h = inl (ns, refl, h)
      back (reserved_ranges xs) ts r h = inr (xs, refl, h)

items_end : (i : ReservedItems) (P : Span → Type 0) (ts r : Stream) → token_at (sign s.Semicolon) P ts r → ItemsEnd i ts
items_end (reserved_names ns) P ts r h = (begins_misses (sign s.Comma) (sign s.Semicolon) P ts r refl h, lastly_all NoString ns ts (λ ws. begins_no_string (sign s.Semicolon) P ts r refl h))
items_end (reserved_ranges xs) P ts r h = (begins_misses (sign s.Comma) (sign s.Semicolon) P ts r refl h, lastly_all NoEnd xs ts (λ x. no_to x.end ts (begins_misses to (sign s.Semicolon) P ts r refl h)))

abbrev statement : ReservedItems → Span → Span → Reserved
statement items first last = record { items = items; span = across first last }

made : (items : ReservedItems) (p q : Span) (x : Reserved) → x.items ≡ items → begins x.span p → ends x.span q → statement items p q ≡ x
made items p q x e f g = rw (← e, ← f, ← g) refl

pub rule_reserved : {H : Stream → Type 0} → Rule H reserved a_reserved IsAny Free
unfolding reserved
rule_reserved =
    rule_token (ident (codes "reserved")) refl (λ (x : Reserved). begins x.span) (λ p.
    rule_then (λ (x : Reserved). x.items) rule_items (λ x ts r h g. items_end x.items (ends x.span) ts r h) (λ items.
    rule_close (sign s.Semicolon) refl (statement items p) (λ (x : Reserved). ends x.span) (λ q. (refl, (refl, (refl, tt)))) (λ x q e k. made items p q x k.0 k.1.0 e)))
