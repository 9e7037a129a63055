-- The extensions of a pool by their messages and numbers.
use Rattle.std.proofs.Common.{◌≡◌, ℕ, ◌<◌, List, Bool, false, Option, Some, None, is_some, map, length, get_or, ap, sym, ◌∙◌, arith, refl}
use Rattle.std.proofs.Math.ListN.{length-map}
use Rattle.std.proofs.lemmas.List as lists
use Rattle.std.proofs.lemmas.Cmp.{nat_cmp_total, then_total, on_total}
use Rattle.std.proofs.lemmas.Option.{same_Some, slice_get_within, slice_get-get_or, get_or_from_slice_get}
use Rattle.std.specs.Bool.{Decides}
use Rattle.std.specs.Cmp.{IsTotalOrder}
use Rattle.std.specs.List.{Contains}
use Rattle.reflect_tables.specs.Finding.{IsFirst}
use Rattle.reflect_tables.specs.Types.{ExtensionType}
use Rattle.reflect_tables.proofs.Founds.{no_some}
use Rattle.reflect_tables.specs.ExtensionNumbers.{KeyType, Numbers, key_cmp}
use Rattle.reflect_pool.specs.Linked.{AreNumbered, key_of}

pub key_total : IsTotalOrder key_cmp
key_total = then_total (on_total (λ (k : KeyType). k.0) nat_cmp_total) (on_total (λ (k : KeyType). k.1) nat_cmp_total)

-- the extension of a message and a number is the first of them
module _ (numbers : Numbers) (xs : List ExtensionType) (are : AreNumbered numbers (map key_of xs)) (k : KeyType) where
  pub here : (i : ℕ) (d : ExtensionType) → i < length xs → key_of (get_or xs i d) ≡ k → numbers k ≡ Some i
  here i d lt same =
      let all : length (map key_of xs) ≡ length xs = length-map xs key_of in
      (are k i).1 (slice_get-get_or (map key_of xs) i (key_of d) (omega (arith, lt, all)) ∙ ap Some (lists.get_or-map key_of xs i d (key_of d) lt ∙ same))

  pub numbered_at : (i : ℕ) → numbers k ≡ Some i → (i < length xs) × ((d : ExtensionType) → key_of (get_or xs i d) ≡ k)
  numbered_at i e =
      let at = (are k i).0 e in
      let all : length (map key_of xs) ≡ length xs = length-map xs key_of in
      let long = slice_get_within (map key_of xs) i k at in
      let lt : i < length xs = omega (arith, long, all) in
      (lt, λ d. sym (lists.get_or-map key_of xs i d (key_of d) lt) ∙ get_or_from_slice_get (map key_of xs) i k (key_of d) at)

  pub first_numbered : (o : Option ℕ) → numbers k ≡ o → IsFirst (λ x. (x.extendee ≡ k.0) × (x.field.number ≡ k.1)) xs o
  first_numbered None e = λ i d lt same. absurd (no_some i (sym e ∙ here i d lt (λ j. (same.0 j, same.1 j))))
  first_numbered (Some i) e =
      let there = numbered_at i e in (
        there.0,
        (
          λ d. (ap (λ (q : KeyType). q.0) (there.1 d), ap (λ (q : KeyType). q.1) (there.1 d)),
          λ j d low less same.
              let lt = there.0 in
              let inside : j < length xs = omega (arith, less, lt) in
              let one : j ≡ i = same_Some j i (sym (here j d inside (λ n. (same.0 n, same.1 n))) ∙ e) in
              absurd (omega (arith, one, less)),
        ),
      )

  pub has_number : (r : Bool) → r ≡ is_some (numbers k) → Decides r (Contains (map key_of xs) k)
  has_number r e = by (numbers k) refl where
    by : (o : Option ℕ) → numbers k ≡ o → Decides r (Contains (map key_of xs) k)
    by None is =
        let no : r ≡ false = e ∙ ap is_some is in
        (λ yes. absurd (cc), λ h. absurd (no_some h.0 (sym is ∙ (are k h.0).1 (slice_get-get_or (map key_of xs) h.0 k h.1 ∙ ap Some h.2))))
    by (Some i) is =
        let at = (are k i).0 is in
        (λ yes. (i, slice_get_within (map key_of xs) i k at, get_or_from_slice_get (map key_of xs) i k k at), λ h. e ∙ ap is_some is)
