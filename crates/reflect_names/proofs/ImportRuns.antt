-- One more import of a file.
use Rattle.std.proofs.Common.{◌≡◌, ℕ, ◌+◌, ◌<◌, List, [], ◌++◌, Option, take, length, get_or, ap, sym, ◌∙◌}
use Rattle.std.specs.List.{cons_option, filter_map}
use Rattle.std.proofs.lemmas.List.{take_more}
use Rattle.std.proofs.lemmas.List.Elements.{filter_map-append}

pub found_more : {X : Type 0} (h : X → Option ℕ) (xs : List X) (k : ℕ) (d : X) (old new : List ℕ) → k < length xs
    → old ≡ filter_map h (take k xs) → new ≡ old ++ cons_option (h (get_or xs k d)) [] → new ≡ filter_map h (take (k + 1) xs)
found_more h xs k d old new lt before now =
    now ∙ ap (λ l. l ++ cons_option (h (get_or xs k d)) []) before ∙ sym (ap (filter_map h) (take_more xs k d lt) ∙ filter_map-append h (take k xs) _)
