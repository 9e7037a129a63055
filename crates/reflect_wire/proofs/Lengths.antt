-- Lengths of what is written, where they pass the largest length.
use Rattle.std.proofs.Common.{◌≡◌, ℕ, ◌<◌, ◌≤◌, ◌+◌, ◌^◌, List, length, take, get_or, Option, Some, None, ap, sym, ◌∙◌, arith}
use Rattle.std.specs.Option.{SomeIff}
use Rattle.std.specs.List.{flat_map}
use Rattle.std.proofs.lemmas.List.Folds.{length-flat_map-take}
use Rattle.reflect_wire.specs.Encoding.{field_bytes, records_bytes}
use Rattle.reflect_wire.specs.Views.{field_view, set_view, fields_of}
use Rattle.reflect_wire.specs.declared.unknown.UnknownField.{UnknownField}
use Rattle.reflect_wire.specs.declared.unknown.UnknownFieldSet.{UnknownFieldSet}
use Rattle.reflect_wire.proofs.Views.{set_bytes}

-- no length is told of bytes that are more than a length can say
pub none_told : (n : ℕ) (r : Option ℕ) → r ≡ None → 2 ^ 64 ≤ n → SomeIff r (n < 2 ^ 64) n
none_told n None e h = λ (lt : n < 2 ^ 64). omega arith
none_told n (Some x) e h = absurd (cc)

-- the records up to one, and that one, are no longer than all
pub set_longer : (s : UnknownFieldSet) (fs : List UnknownField) (i : ℕ) (d : UnknownField) → fs ≡ fields_of s → i < length fs
    → length (flat_map (λ f. field_bytes (field_view f)) (take i fs)) + length (field_bytes (field_view (get_or fs i d))) ≤ length (records_bytes (set_view s))
set_longer s fs i d e h =
    let whole : length (records_bytes (set_view s)) ≡ length (flat_map (λ f. field_bytes (field_view f)) fs) = ap length (set_bytes s) ∙ ap (λ fs. length (flat_map (λ f. field_bytes (field_view f)) fs)) (sym e) in
    omega (arith, whole, length-flat_map-take (λ f. field_bytes (field_view f)) fs i d h)
