-- What lies from the first of a list to the last, by the places of these two.
use Rattle.std.proofs.Common.{◌≡◌, ℕ, ◌-◌, ◌<◌, List, length, Some, ap, ◌∙◌, arith}
use Rattle.std.specs.Prelude.{map, option_map, slice_get, get_or}
use Rattle.std.proofs.lemmas.List.{length-map}
use Rattle.std.proofs.lemmas.Option.{slice_get-map, slice_get-get_or}
use Rattle.protox_lex.specs.declared.span.Span.{Span}
use Rattle.protox_lex.specs.Span.{across}
use Rattle.protox_tree.specs.Tree.{span_between, spans_cover}

-- parts as they are seen in the tree, each with its place
module _ {A W : Type 0} (view : A → W) (place : W → Span) where
  at_index : (xs : List A) (k : ℕ) (d : A) → k < length xs → slice_get (map place (map view xs)) k ≡ Some (place (view (get_or xs k d)))
  at_index xs k d h = slice_get-map place (map view xs) k ∙ ap (option_map place) (slice_get-map view xs k ∙ ap (option_map view) (slice_get-get_or xs k d h))

  pub cover : (xs : List A) (d e : A) → 0 < length xs → spans_cover (map place (map view xs)) ≡ across (place (view (get_or xs 0 d))) (place (view (get_or xs (length xs - 1) e)))
  cover xs d e h =
      let spans = map place (map view xs) in
      let same : length spans ≡ length xs = length-map (map view xs) place ∙ length-map xs view in
      ap (λ n. span_between (slice_get spans 0) (slice_get spans (n - 1))) same
      ∙ ap (λ o. span_between o (slice_get spans (length xs - 1))) (at_index xs 0 d h)
      ∙ ap (λ o. span_between (Some (place (view (get_or xs 0 d)))) o) (at_index xs (length xs - 1) e (omega (arith, h)))
