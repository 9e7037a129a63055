-- Lengths of what is put, counted part by part.
use Rattle.std.proofs.Common.{◌≡◌, ℕ, zero, suc, ◌+◌, ◌*◌, ◌/◌, ◌<◌, ◌≤◌, nat_lt, nat_le, Bool, true, false, List, [], ◌∷◌, ◌++◌, length, map, take, get_or, reverse, cond, Option, None, Some, refl, sym, ap, ◌∙◌, arith, length-append, append-nil, subst, ◌^◌}
use Rattle.std.specs.List.{filter, flat_map}
use Rattle.std.specs.Option.{SomeIff}
use Rattle.std.proofs.lemmas.Bool.{lt-ltb, le-ltb, ltb-true, ltb-false, leb-true, leb-false}
use Rattle.std.proofs.lemmas.List.{reverse-append, take_more}
use Rattle.std.proofs.lemmas.List.Concat.{flat_map-append}
use Rattle.std.proofs.lemmas.List.Folds.{flat_map-map}
use Rattle.reflect_tables.specs.Types.{PoolType, FieldType}
use Rattle.reflect_wire.proofs.Encodings.{varint_bytes-last, varint_bytes-more}
use Rattle.reflect_wire.proofs.Keys.{code_small}
use Rattle.reflect_wire.specs.Encoding.{field_bytes, key_bytes, records_bytes, varint_bytes}
use Rattle.reflect_wire.specs.Key.{code_of}
use Rattle.reflect_wire.specs.Records.{Payload, key_of}
use Rattle.reflect_wire.specs.Views.{records_of}
use Rattle.reflect_wire.specs.declared.wire_key.WireType.{WireType}
use Rattle.reflect_wire.specs.declared.wire_key.WireType.TheVariants.{EndGroup, LengthDelimited, StartGroup}
use Rattle.reflect_codec.specs.Fields.{payload_field}
use Rattle.reflect_pool.specs.declared.kind.Kind.{Kind}
use Rattle.reflect_scalar.specs.Kinds.{wire_type}
use Rattle.reflect_scalar.specs.Singles.{Single}
use Rattle.reflect_scalar.specs.Written.{plain_bytes}
use Rattle.reflect_encode.specs.Puts.{form, single_bytes}
use Rattle.reflect_entries.specs.Sets.{above, up_to}
use Rattle.reflect_message.specs.Bytes.{Form, content, content_bytes, declared_bytes, extension_bytes, others_down, framed}

-- ---- keys

code_length : (n x y : ℕ) → x < 8 → y < 8 → length (varint_bytes (8 * n + x)) ≡ length (varint_bytes (8 * n + y))
code_length n x y a b = by (nat_lt n 16) refl where
  by : (small : Bool) → nat_lt n 16 ≡ small → length (varint_bytes (8 * n + x)) ≡ length (varint_bytes (8 * n + y))
  by true e =
      let lt = ltb-true n 16 e in
      ap length (varint_bytes-last (8 * n + x) (omega (arith, lt, a))) ∙ sym (ap length (varint_bytes-last (8 * n + y) (omega (arith, lt, b))))
  by false e =
      let ge = ltb-false n 16 e in
      let same : (8 * n + x) / 128 ≡ (8 * n + y) / 128 = omega (arith, ge, a, b) in
      omega (arith, ap length (varint_bytes-more (8 * n + x) (omega (arith, ge, a))), ap length (varint_bytes-more (8 * n + y) (omega (arith, ge, b))), ap (λ m. length (varint_bytes m)) same)

-- a key is as long for each wire type
pub key_length : (n : ℕ) (a b : WireType) → length (key_bytes (key_of n a)) ≡ length (key_bytes (key_of n b))
key_length n a b = code_length n (code_of a) (code_of b) (omega (arith, code_small a)) (omega (arith, code_small b))

-- ---- lists

module _ {A B : Type 0} (g : A → B) (f : B → List ℕ) where
  -- the next of what is left is counted
  pub next_length : (left rest : List A) (x : A) → left ≡ x ∷ rest → length (flat_map f (map g left)) ≡ length (f (g x)) + length (flat_map f (map g rest))
  next_length left rest x e = ap (λ l. length (flat_map f (map g l))) e ∙ length-append (f (g x)) (flat_map f (map g rest))

  pub none_length : (left : List A) → left ≡ [] → length (flat_map f (map g left)) ≡ 0
  none_length left e = ap (λ l. length (flat_map f (map g l))) e

  -- one more of those that were counted
  pub more_length : (xs : List A) (i : ℕ) (x : A) → i < length xs → x ≡ get_or xs i x
      → length (flat_map f (map g (take (i + 1) xs))) ≡ length (flat_map f (map g (take i xs))) + length (f (g x))
  more_length xs i x lt is =
      ap length (flat_map-map f g (take (i + 1) xs)) ∙ ap (λ l. length (flat_map (λ y. f (g y)) l)) (take_more xs i x lt)
      ∙ ap length (flat_map-append (λ y. f (g y)) (take i xs) (get_or xs i x ∷ []))
      ∙ length-append (flat_map (λ y. f (g y)) (take i xs)) (f (g (get_or xs i x)) ++ [])
      ∙ ap (λ l. length (flat_map (λ y. f (g y)) (take i xs)) + length l) (append-nil (f (g (get_or xs i x))))
      ∙ ap (λ y. length (flat_map (λ y. f (g y)) (take i xs)) + length (f (g y))) (sym is)
      ∙ ap (λ l. length l + length (f (g x))) (sym (flat_map-map f g (take i xs)))

  -- those up to one, and that one, are no longer than all
  pub most_length : (xs : List A) (i : ℕ) → length (flat_map f (map g (take i xs))) ≤ length (flat_map f (map g xs))
  most_length xs zero = omega arith
  most_length [] (suc i) = omega arith
  most_length (x ∷ xs) (suc i) = omega (arith, most_length xs i, length-append (f (g x)) (flat_map f (map g (take i xs))), length-append (f (g x)) (flat_map f (map g xs)))

-- ---- what stands under a number

module _ (pool : PoolType) (w : Form) where
  abbrev under : Option FieldType → List ℕ
  under known = elim known [ None ↦ [] | Some f ↦ content_bytes pool f w ]

  pub known_length : (o known : Option FieldType) (p : PoolType) (f : FieldType) → o ≡ known → o ≡ Some f → p ≡ pool → length (under known) ≡ length (content_bytes p f w)
  known_length o known p f e is same = ap (λ k. length (under k)) (sym e ∙ is) ∙ ap (λ p. length (content_bytes p f w)) (sym same)

  pub unknown_length : (o known : Option FieldType) → o ≡ known → o ≡ None → length (under known) ≡ 0
  unknown_length o known e is = ap (λ k. length (under k)) (sym e ∙ is)

-- ---- extensions among records of undeclared numbers

size : List (ℕ × Payload) → ℕ
size us = length (records_bytes (records_of us))

size_more : (r : ℕ × Payload) (us : List (ℕ × Payload)) → size (r ∷ us) ≡ length (field_bytes r) + size us
unfolding size
size_more r us = length-append (field_bytes r) (records_bytes (records_of us))

kept_size : (t : ℕ × Payload → Bool) (r : ℕ × Payload) (us : List (ℕ × Payload)) → t r ≡ true → size (filter t (r ∷ us)) ≡ length (field_bytes r) + size (filter t us)
kept_size t r us e = ap (λ b. size (cond b (r ∷ filter t us) (filter t us))) e ∙ size_more r (filter t us)

left_size : (t : ℕ × Payload → Bool) (r : ℕ × Payload) (us : List (ℕ × Payload)) → t r ≡ false → size (filter t (r ∷ us)) ≡ size (filter t us)
left_size t r us e = ap (λ b. size (cond b (r ∷ filter t us) (filter t us))) e

-- the records up to a number and those above it are all; those of the number 0 count for nothing
parted : (n : ℕ) (us : List (ℕ × Payload)) → size (above 0 (up_to n us)) + size (above n us) ≡ size (above 0 us)
unfolding size
parted n [] = omega arith
parted n (r ∷ us) = by (parted n us) (nat_le r.0 n) (nat_lt 0 r.0) (nat_lt n r.0) refl refl refl where
  by : size (above 0 (up_to n us)) + size (above n us) ≡ size (above 0 us) → (low some high : Bool) → nat_le r.0 n ≡ low → nat_lt 0 r.0 ≡ some → nat_lt n r.0 ≡ high
      → size (above 0 (up_to n (r ∷ us))) + size (above n (r ∷ us)) ≡ size (above 0 (r ∷ us))
  by all true true false a b d = omega (
    arith,
    all,
    ap (λ l. size (above 0 (cond l (r ∷ up_to n us) (up_to n us)))) a ∙ kept_size (λ r. nat_lt 0 r.0) r (up_to n us) b,
    left_size (λ r. nat_lt n r.0) r us d,
    kept_size (λ r. nat_lt 0 r.0) r us b,
  )
  by all true false false a b d = omega (
    arith,
    all,
    ap (λ l. size (above 0 (cond l (r ∷ up_to n us) (up_to n us)))) a ∙ left_size (λ r. nat_lt 0 r.0) r (up_to n us) b,
    left_size (λ r. nat_lt n r.0) r us d,
    left_size (λ r. nat_lt 0 r.0) r us b,
  )
  by all false true true a b d = omega (
    arith,
    all,
    ap (λ l. size (above 0 (cond l (r ∷ up_to n us) (up_to n us)))) a,
    kept_size (λ r. nat_lt n r.0) r us d,
    kept_size (λ r. nat_lt 0 r.0) r us b,
  )
  by all true some true a b d = absurd (omega (arith, leb-true r.0 n a, ltb-true n r.0 d))
  by all false false high a b d = absurd (omega (arith, leb-false r.0 n a, ltb-false 0 r.0 b))
  by all false true false a b d = absurd (omega (arith, leb-false r.0 n a, ltb-false n r.0 d))

others_length : (pool : PoolType) (i : ℕ) (es : List (ℕ × Form)) (us : List (ℕ × Payload)) → length (others_down pool i es us) ≡ length (flat_map (extension_bytes pool i) es) + size (above 0 us)
unfolding size
others_length pool i [] us = omega arith
others_length pool i (e ∷ es) us = omega (
  arith,
  others_length pool i es (up_to e.0 us),
  parted e.0 us,
  length-append (others_down pool i es (up_to e.0 us)) (extension_bytes pool i e ++ records_bytes (records_of (above e.0 us))),
  length-append (extension_bytes pool i e) (records_bytes (records_of (above e.0 us))),
  length-append (extension_bytes pool i e) (flat_map (extension_bytes pool i) es),
)

reversed_length : {A : Type 0} (f : A → List ℕ) (xs : List A) → length (flat_map f (reverse xs)) ≡ length (flat_map f xs)
reversed_length f [] = refl
reversed_length f (x ∷ xs) = omega (
  arith,
  reversed_length f xs,
  ap (λ l. length (flat_map f l)) (reverse-append (x ∷ []) xs),
  ap length (flat_map-append f (reverse xs) (x ∷ [])),
  length-append (flat_map f (reverse xs)) (f x ++ []),
  ap length (append-nil (f x)),
  length-append (f x) (flat_map f xs),
)

-- the parts of a message are as long as its fields, its extensions and its other records
pub parts_length : (pool : PoolType) (i : ℕ) (fields extensions : List (ℕ × Form)) (us : List (ℕ × Payload))
    → length (content pool i fields extensions us) ≡ length (flat_map (declared_bytes pool i) fields) + length (flat_map (extension_bytes pool i) extensions) + length (records_bytes (records_of (above 0 us)))
unfolding size
parts_length pool i fields extensions us = omega (
  arith,
  others_length pool i (reverse extensions) us,
  reversed_length (extension_bytes pool i) extensions,
  length-append (flat_map (declared_bytes pool i) fields) (others_down pool i (reverse extensions) us),
)

-- ---- records

pub told : (r : Option ℕ) (m n : ℕ) → m ≡ n → SomeIff r (m < 2 ^ 64) m → SomeIff r (n < 2 ^ 64) n
told r m n e h = subst (λ n. SomeIff r (n < 2 ^ 64) n) e h

pub payload_length : (n : ℕ) (payload : List ℕ) (len : ℕ) → length payload ≡ len → length (payload_field n payload) ≡ length (key_bytes (key_of n LengthDelimited)) + (length (varint_bytes len) + len)
payload_length n payload len is =
    let key = key_bytes (key_of n LengthDelimited) in
    let whole : length (payload_field n payload) ≡ length key + length (varint_bytes (length payload) ++ payload) = length-append key (varint_bytes (length payload) ++ payload) in
    whole ∙ ap (λ m. length key + m) (length-append (varint_bytes (length payload)) payload ∙ ap (λ m. length (varint_bytes m) + m) is)

pub single_length : (kind : Kind) (n : ℕ) (v : Option Single) (p : Payload) → form kind v ≡ Some p → length (single_bytes kind n v) ≡ length (key_bytes (key_of n (wire_type kind))) + length (plain_bytes p)
single_length kind n v p e = ap (λ o. length {A = ℕ} (elim o [ None ↦ [] | Some p ↦ key_bytes (key_of n (wire_type kind)) ++ plain_bytes p ])) e ∙ length-append (key_bytes (key_of n (wire_type kind))) (plain_bytes p)

-- a message is written between two tags, or behind its length
pub group_length : (f : FieldType) (body : List ℕ) (key : ℕ) → f.group ≡ true → ((wire : WireType) → key ≡ length (key_bytes (key_of f.number wire))) → length (framed f body) ≡ length body + key + key
group_length f body key e keys = omega (
  arith,
  ap (λ b. length (cond b (key_bytes (key_of f.number StartGroup) ++ (body ++ key_bytes (key_of f.number EndGroup))) (payload_field f.number body))) e,
  length-append (key_bytes (key_of f.number StartGroup)) (body ++ key_bytes (key_of f.number EndGroup)),
  length-append body (key_bytes (key_of f.number EndGroup)),
  keys StartGroup,
  keys EndGroup,
)

pub framed_length : (f : FieldType) (body : List ℕ) → f.group ≡ false → length (framed f body) ≡ length (payload_field f.number body)
framed_length f body e = ap (λ b. length (cond b (key_bytes (key_of f.number StartGroup) ++ (body ++ key_bytes (key_of f.number EndGroup))) (payload_field f.number body))) e

-- ---- records of undeclared numbers, one by one

module _ (left rest : List (ℕ × Payload)) (r : ℕ × Payload) (e : left ≡ r ∷ rest) where
  pub next_record : 0 < r.0 → length (records_bytes (records_of (above 0 left))) ≡ length (field_bytes r) + length (records_bytes (records_of (above 0 rest)))
  unfolding size
  next_record some = ap (λ l. size (above 0 l)) e ∙ kept_size (λ r. nat_lt 0 r.0) r rest (lt-ltb 0 r.0 some)

  pub next_zero : r.0 ≡ 0 → length (records_bytes (records_of (above 0 left))) ≡ length (records_bytes (records_of (above 0 rest)))
  unfolding size
  next_zero none = ap (λ l. size (above 0 l)) e ∙ left_size (λ r. nat_lt 0 r.0) r rest (le-ltb 0 r.0 (omega (arith, none)))

pub no_record : (left : List (ℕ × Payload)) → left ≡ [] → length (records_bytes (records_of (above 0 left))) ≡ 0
no_record left e = ap (λ l. length (records_bytes (records_of (above 0 l)))) e
