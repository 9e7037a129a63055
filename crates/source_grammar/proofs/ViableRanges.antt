-- Ranges and `reserved` statements tell their faults at the first token with which nothing goes on.
use Rattle.std.proofs.Common.{◌≡◌, Bool, true, false, ◌∷◌, Option, Some, None, refl}
use Rattle.std.specs.Prelude.{codes}
use Rattle.protox_lex.specs.Token.{ident, sign}
use Rattle.protox_lex.specs.declared.token.Sign.TheVariants as signs
use Rattle.protox_options.specs.RangeGrammar.{max_or_int, end_behind, range_end, range, ranges, names, reserved_items, reserved}
use Rattle.protox_options.proofs.RangeLaws.{range_turns, names_turns}
use Rattle.protox_tokens.specs.Stream.{Piece, Stream, source}
use Rattle.protox_tokens.specs.Parser.{sees, is_string}
use Rattle.protox_tokens.proofs.Both.{Always}
use Rattle.protox_tree.specs.Tree.{reserved_ranges, reserved_names}
use Rattle.protox_tree.specs.declared.range.RangeEnd.TheVariants as ends
use Rattle.protox_tree.specs.declared.range.ReservedRange.{ReservedRange}
use Rattle.source_grammar.proofs.ViableTokens.{reserved_written, sign_written}
use Rattle.source_grammar.proofs.Viable.{Viable, viable_then, viable_pure, Any, viable_end, viable_map}
use Rattle.source_grammar.proofs.ViableForms.{viable_choose}
use Rattle.source_grammar.proofs.ViableSteps.{Heads, made, viable_expect, viable_branch}
use Rattle.source_grammar.proofs.ViableLoops.{Listed, viable_some_by}
use Rattle.source_grammar.proofs.ViableNames.{some_int, NoString, viable_int, viable_strings, May, Unless, may_heads, may_start}

-- the word `to` comes next
abbrev pub goes_to : Stream → Bool
goes_to s = sees (ident (codes "to")) s

-- A range without an end goes on with `to`.
pub viable_range_end : {W : Piece → Type 0} → Viable W Always range_end (Unless goes_to)
unfolding range_end
viable_range_end = viable_branch _ source (ident (codes "to")) Always (λ x t u h. h) end_behind
    (λ to. viable_branch _ source (ident (codes "max")) Always (λ x t u h. h) max_or_int
    (λ at. viable_pure false (ends.Max at) (λ s h. tt) (λ s h. tt))
    (viable_map (λ n. ends.Int n) (λ i a. false) (λ i a s h. tt) (λ i a s h. tt) (viable_int (λ s. Unit {0} × (sees (ident (codes "max")) s ≡ false)) (λ x t u h. h) (λ s. (tt, refl)))))
    (viable_pure true ends.None (λ s h. h.1) (λ s h. (tt, h)))

module _ (H : Stream → Type 0) (heads : Heads H) (starts : (s : Stream) → H (made some_int ∷ s)) where
  viable_range : {W : Piece → Type 0} → Viable W H range (Unless goes_to)
  unfolding range
  viable_range = viable_then (viable_int H heads starts) (λ i n. viable_then viable_range_end (λ j e. viable_pure j _ (λ s h. h) (λ s h. h)))

abbrev pub SomeRanges : {A : Type 0} → Bool × ReservedRange → A → Stream → Type 0
SomeRanges i xs = λ s. May goes_to i.0 s × (sees (sign signs.Comma) s ≡ false)

module _ (H : Stream → Type 0) (heads : Heads H) (starts : (s : Stream) → H (made some_int ∷ s)) where
  pub viable_ranges : {W : Piece → Type 0} → Viable W H ranges SomeRanges
  unfolding ranges
  viable_ranges = viable_some_by (sign signs.Comma) (λ j a. may_heads goes_to (λ x t u. refl) j) range_turns
      (viable_range H heads starts) (viable_range Always (λ x t u h. h) (λ s. tt))

pub ranges_heads : (i : Bool) → Heads (λ s. May goes_to i s × (sees (sign signs.Comma) s ≡ false))
ranges_heads true = λ x t u h. h
ranges_heads false = λ x t u h. h

pub ranges_start : (k : Piece) → ((s : Stream) → goes_to (k ∷ s) ≡ false) → ((s : Stream) → sees (sign signs.Comma) (k ∷ s) ≡ false) → (i : Bool) (s : Stream) → May goes_to i (k ∷ s) × (sees (sign signs.Comma) (k ∷ s) ≡ false)
ranges_start k no_to no_comma i s = (may_start goes_to k no_to i s, no_comma s)

-- behind names, and behind ranges
abbrev Listing : Option Bool → Stream → Type 0
Listing None = λ s. (is_string s ≡ false) × (sees (sign signs.Comma) s ≡ false)
Listing (Some i) = λ s. May goes_to i s × (sees (sign signs.Comma) s ≡ false)

abbrev Items : {A : Type 0} → Option Bool → A → Stream → Type 0
Items i a = Listing i

listing_heads : (i : Option Bool) → Heads (Listing i)
listing_heads None = λ x t u h. h
listing_heads (Some i) = ranges_heads i

listing_start : (i : Option Bool) (s : Stream) → Listing i (made (sign signs.Semicolon) ∷ s)
listing_start None s = (refl, refl)
listing_start (Some i) s = ranges_start (made (sign signs.Semicolon)) (λ s. refl) (λ s. refl) i s

viable_names : {W : Piece → Type 0} → Viable W (λ s. Unit {0} × (is_string s ≡ true)) names (Listed (sign signs.Comma) NoString)
unfolding names
viable_names = viable_some_by (sign signs.Comma) (λ j a x t u h. h) names_turns
    (viable_strings (λ s. Unit {0} × (is_string s ≡ true)) (λ x t u h. h) (λ s. (tt, refl))) (viable_strings Always (λ x t u h. h) (λ s. tt))

viable_reserved_items : {W : Piece → Type 0} → Viable W Always reserved_items Items
unfolding reserved_items
viable_reserved_items = viable_choose is_string
    (viable_map reserved_names (λ i a. None) (λ i a s h. h) (λ i a s h. h) viable_names).held
    (viable_map reserved_ranges (λ i a. Some i.0) (λ i a s h. h) (λ i a s h. h) (viable_ranges (λ s. Unit {0} × (is_string s ≡ false)) (λ x t u h. h) (λ s. (tt, refl))))

pub viable_reserved : {W : Piece → Type 0} (H : Stream → Type 0) → Heads H → ((s : Stream) → H (made (ident (codes "reserved")) ∷ s)) → Viable W H reserved Any
unfolding reserved
viable_reserved H heads starts = viable_then (viable_expect (ident (codes "reserved")) reserved_written H heads refl starts) (λ i p.
    viable_then viable_reserved_items (λ j x. viable_then (viable_expect (sign signs.Semicolon) (sign_written signs.Semicolon) (Listing j) (listing_heads j) refl (listing_start j)) (λ k q. viable_end _)))
