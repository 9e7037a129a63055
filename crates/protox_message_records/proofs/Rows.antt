-- Rows of fields, with one item more.
use Rattle.std.proofs.Common.{◌≡◌, ◌∙◌, ◌+◌, ◌-◌, ◌^◌, ◌++◌, ℕ, List, [], ◌∷◌, length, min, refl, ap, sym, append_assoc, arith}
use Rattle.std.proofs.lemmas.Bool.Decides.{nat_tests}
use Rattle.std.proofs.lemmas.List.{append-nil, length-append}
use Rattle.std.proofs.Math.Nat.{add-zero}
use Rattle.std.specs.List.{flat_map}
use Rattle.protox_field_records.specs.Layers.{ItemLayer}
use Rattle.protox_message_records.specs.MessageRecords.{alone_at, fields_at, fields_from, fields_in, oneof_at, own_field}
use Rattle.protox_field_records.specs.Places.{place_of}
use Rattle.protox_tree.specs.declared.message.ExtendItem.TheOpen.{MessageItem-F}
use Rattle.protox_tree.specs.declared.message.ExtendItem.TheViews.{out-MessageItem}
use Rattle.protox_tree.specs.declared.message.MessageItem.{MessageItem}
use Rattle.protox_tree.specs.declared.types.Syntax.{Syntax}

pub fields_more : (s : Syntax) (n k : ℕ) (xs : List MessageItem) (x : MessageItem) → fields_from s n k (xs ++ x ∷ []) ≡ fields_from s n k xs ++ fields_at s (n + length (flat_map oneof_at xs)) (k + length (flat_map (alone_at s) xs)) x
fields_more s n k [] x = append-nil (fields_at s n k x) ∙ ap (λ m. fields_at s m k x) (sym (add-zero n)) ∙ ap (λ m. fields_at s (n + 0) m x) (sym (add-zero k))
fields_more s n k (y ∷ ys) x =
    let here = n + length (oneof_at y) in
    let there = k + length (alone_at s y) in
    let e : here + length (flat_map oneof_at ys) ≡ n + length (flat_map oneof_at (y ∷ ys)) = omega (arith, length-append (oneof_at y) (flat_map oneof_at ys)) in
    let f : there + length (flat_map (alone_at s) ys) ≡ k + length (flat_map (alone_at s) (y ∷ ys)) = omega (arith, length-append (alone_at s y) (flat_map (alone_at s) ys)) in
    ap (λ zs. fields_at s n k y ++ zs)
    (fields_more s here there ys x ∙ ap (λ m. fields_from s here there ys ++ fields_at s m (there + length (flat_map (alone_at s) ys)) x) e
    ∙ ap (λ m. fields_from s here there ys ++ fields_at s (n + length (flat_map oneof_at (y ∷ ys))) m x) f)
    ∙ sym (append_assoc (fields_at s n k y) (fields_from s here there ys) (fields_at s (n + length (flat_map oneof_at (y ∷ ys))) (k + length (flat_map (alone_at s) (y ∷ ys))) x))

-- a count that stands still at its limit tells the same place
same_place : (k : ℕ) → place_of (min k (2 ^ 64 - 1)) ≡ place_of k
same_place k = grind (arith, nat_tests)

same_fields : (s : Syntax) (n a b : ℕ) (y : ItemLayer) → place_of a ≡ place_of b → fields_in s n a y ≡ fields_in s n b y
same_fields s n a b (MessageItem-F.«MessageItem::Field» f) e = ap (λ p. own_field s p f ∷ []) e
same_fields s n a b (MessageItem-F.Oneof o) e = refl
same_fields s n a b (MessageItem-F.Message m) e = refl
same_fields s n a b (MessageItem-F.Enum v) e = refl
same_fields s n a b (MessageItem-F.Extend v) e = refl
same_fields s n a b (MessageItem-F.Extensions v) e = refl
same_fields s n a b (MessageItem-F.Reserved v) e = refl
same_fields s n a b (MessageItem-F.«MessageItem::Option» v) e = refl
same_fields s n a b (MessageItem-F.«MessageItem::Empty» v) e = refl

pub fields_at_limit : (s : Syntax) (n k : ℕ) (x : MessageItem) → fields_at s n (min k (2 ^ 64 - 1)) x ≡ fields_at s n k x
fields_at_limit s n k x = same_fields s n (min k (2 ^ 64 - 1)) k (out-MessageItem x) (same_place k)
