-- What is put from the last to the first.
use Rattle.std.proofs.Common.{◌≡◌, ◌⊎◌, inl, inr, ℕ, List, [], ◌∷◌, ◌++◌, map, reverse, length, Option, None, Some, refl, sym, ap, ◌∙◌, append_assoc, append-nil, arith, length-append}
use Rattle.std.specs.List.{flat_map, zip}
use Rattle.std.proofs.lemmas.List.{map-append, reverse-append}
use Rattle.std.proofs.lemmas.List.Concat.{flat_map-append}
use Rattle.reflect_tables.specs.Types.{PoolType, FieldType}
use Rattle.reflect_wire.specs.Records.{Payload}
use Rattle.reflect_wire.specs.Views.{records_of}
use Rattle.reflect_wire.specs.Encoding.{records_bytes}
use Rattle.reflect_entries.specs.Pairs.{on_value}
use Rattle.reflect_entries.specs.Sets.{up_to, above}
use Rattle.reflect_scalar.specs.Keys.{key_view}
use Rattle.reflect_scalar.specs.declared.map_key.MapKey.{MapKey}
use Rattle.reflect_codec.specs.Fields.{payload_field}
use Rattle.reflect_message.specs.Known.{entry_field}
use Rattle.reflect_message.specs.Bytes.{Form, form_of, forms, content_bytes, extension_bytes, others_down, key_part, entry_bytes, map_bytes}
use Rattle.reflect_message.specs.Names.{Value}

module _ {A B : Type 0} (g : A → B) (f : B → List ℕ) where
  -- the last of what is left is put
  pub before : (left front : List A) (x : A) (old new all : List ℕ) → left ≡ front ++ x ∷ [] → flat_map f (map g left) ++ old ≡ all → new ≡ f (g x) ++ old → flat_map f (map g front) ++ new ≡ all
  before left front x old new all e h put =
      let start = flat_map f (map g front) in
      let whole : flat_map f (map g left) ≡ start ++ f (g x) =
      ap (λ l. flat_map f (map g l)) e ∙ ap (flat_map f) (map-append g front (x ∷ [])) ∙ flat_map-append f (map g front) (g x ∷ []) ∙ ap (λ l. start ++ l) (append-nil (f (g x))) in
      ap (λ l. start ++ l) put ∙ sym (append_assoc start (f (g x)) old) ∙ ap (λ l. l ++ old) (sym whole) ∙ h

zip_back : {A B : Type 0} → (xs : List A) (ys : List B) (x : A) (y : B) → length xs ≡ length ys → zip (xs ++ x ∷ []) (ys ++ y ∷ []) ≡ zip xs ys ++ (x, y) ∷ []
zip_back [] [] x y e = refl
zip_back [] (w ∷ ys) x y e = absurd (omega (arith, e))
zip_back (v ∷ xs) [] x y e = absurd (omega (arith, e))
zip_back (v ∷ xs) (w ∷ ys) x y e = ap (λ l. (v, w) ∷ l) (zip_back xs ys x y (omega (arith, e)))

module _ {A B : Type 0} (left front : List A) (x : A) (mine fore : List B) (y : B) (e : left ≡ front ++ x ∷ []) (k : mine ≡ fore ++ y ∷ []) (same : length left ≡ length mine) where
  pub shorter : length front ≡ length fore
  shorter = omega (arith, same, ap length e, ap length k, length-append front (x ∷ []), length-append fore (y ∷ []))

  -- the last pair of lists side by side
  pub zip_ends : zip left mine ≡ zip front fore ++ (x, y) ∷ []
  zip_ends = ap (λ l. zip l mine) e ∙ ap (zip (front ++ x ∷ [])) k ∙ zip_back front fore x y shorter

-- what stands under a number is put, where it is known
pub known_put : (pool : PoolType) (o known : Option FieldType) (f : FieldType) (w : Form) (old new : List ℕ) → o ≡ known → o ≡ Some f → new ≡ content_bytes pool f w ++ old
    → new ≡ elim known [ None ↦ [] | Some f ↦ content_bytes pool f w ] ++ old
known_put pool o known f w old new e is put = put ∙ ap (λ o. elim o [ None ↦ [] | Some f ↦ content_bytes pool f w ] ++ old) (sym is ∙ e)

pub nothing_put : (pool : PoolType) (o known : Option FieldType) (w : Form) (old : List ℕ) → o ≡ known → o ≡ None → old ≡ elim known [ None ↦ [] | Some f ↦ content_bytes pool f w ] ++ old
nothing_put pool o known w old e is = ap (λ o. elim o [ None ↦ [] | Some f ↦ content_bytes pool f w ] ++ old) (sym is ∙ e)

reverse_last : {A : Type 0} → (xs : List A) (x : A) → reverse (xs ++ x ∷ []) ≡ x ∷ reverse xs
reverse_last xs x = reverse-append xs (x ∷ [])

-- an extension is put in front of the records above its number
pub others_before : (pool : PoolType) (i n : ℕ) (v : Value) (left front : List (ℕ × Value)) (us later : List (ℕ × Payload)) (old mid new all : List ℕ)
    → left ≡ front ++ (n, v) ∷ [] → others_down pool i (reverse (forms left)) us ++ old ≡ all → mid ≡ records_bytes (records_of (above n us)) ++ old → later ≡ up_to n us → new ≡ extension_bytes pool i (n, form_of v) ++ mid
    → others_down pool i (reverse (forms front)) later ++ new ≡ all
others_before pool i n v left front us later old mid new all e h above_put rest put =
    let whole : others_down pool i (reverse (forms left)) us ≡ others_down pool i ((n, form_of v) ∷ reverse (forms front)) us =
    ap (λ l. others_down pool i (reverse (forms l)) us) e ∙ ap (λ l. others_down pool i (reverse l) us) (map-append (on_value form_of) front ((n, v) ∷ [])) ∙ ap (λ l. others_down pool i l us) (reverse_last (forms front) (n, form_of v)) in
    let start = others_down pool i (reverse (forms front)) (up_to n us) in
    let one = extension_bytes pool i (n, form_of v) in
    ap (λ u. others_down pool i (reverse (forms front)) u ++ new) rest ∙ ap (λ l. start ++ l) (put ∙ ap (λ l. one ++ l) above_put)
    ∙ ap (λ l. start ++ l) (sym (append_assoc one (records_bytes (records_of (above n us))) old)) ∙ sym (append_assoc start (one ++ records_bytes (records_of (above n us))) old) ∙ ap (λ l. l ++ old) (sym whole) ∙ h

module _ (pool : PoolType) (f : FieldType) where
  -- an entry is put, whose key and value are fields of the pool
  pub entry_put : (p q : PoolType) (keys values : FieldType) (key : MapKey) (w : Form) (old new : List ℕ) → p ≡ pool → q ≡ pool → new ≡ payload_field f.number (key_part p keys (key_view key) ++ content_bytes q values w) ++ old
      → new ≡ entry_bytes pool f keys values (key, w) ++ old
  entry_put p q keys values key w old new a b put =
      put ∙ ap (λ p. payload_field f.number (key_part p keys (key_view key) ++ content_bytes q values w) ++ old) a ∙ ap (λ q. payload_field f.number (key_part pool keys (key_view key) ++ content_bytes q values w) ++ old) b

  -- the fields of a map's entries
  pub map_known : (keys values : FieldType) (es : List (MapKey × Form)) → entry_field pool f.kind 1 ≡ Some keys → entry_field pool f.kind 2 ≡ Some values → flat_map (entry_bytes pool f keys values) es ≡ map_bytes pool f es
  map_known keys values es a b =
      ap (λ o. elim o [ None ↦ [] | Some values ↦ flat_map (entry_bytes pool f keys values) es ]) (sym b)
      ∙ ap (λ o. elim o [ None ↦ [] | Some keys ↦ elim (entry_field pool f.kind 2) [ None ↦ [] | Some values ↦ flat_map (entry_bytes pool f keys values) es ] ]) (sym a)

  pub map_unknown : (es : List (MapKey × Form)) → (entry_field pool f.kind 1 ≡ None) ⊎ (entry_field pool f.kind 2 ≡ None) → map_bytes pool f es ≡ []
  map_unknown es (inl a) = ap (λ o. elim o [ None ↦ [] | Some keys ↦ elim (entry_field pool f.kind 2) [ None ↦ [] | Some values ↦ flat_map (entry_bytes pool f keys values) es ] ]) a
  map_unknown es (inr b) = by (entry_field pool f.kind 1) where
    by : (o : Option FieldType) → ◌≡◌ {A = List ℕ} (elim o [ None ↦ [] | Some keys ↦ elim (entry_field pool f.kind 2) [ None ↦ [] | Some values ↦ flat_map (entry_bytes pool f keys values) es ] ]) []
    by None = refl
    by (Some keys) = ap (λ o. elim o [ None ↦ [] | Some values ↦ flat_map (entry_bytes pool f keys values) es ]) b
