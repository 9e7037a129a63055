-- The kinds of fields: the payloads that are written of each, and what they mean.
use Rattle.std.proofs.Common.{◌≡◌, ℕ, ℤ, ◌<◌, ◌≤◌, ◌-◌, ◌^◌, ◌==◌, not, Bool, true, false, List, [], ◌∷◌, ◌++◌, map, length, Option, Some, None, String, Vec, Global, refl, sym, ap, subst, append-nil, length-append, arith, if◌then◌else◌}
use Rattle.std.specs.Prelude.{string_bytes}
use Rattle.std.specs.Int.{w64, cast_unsigned}
use Rattle.std.specs.List.{AllByRecursion, AllZip, flat_map}
use Rattle.std.proofs.lemmas.Str.{IsUtf8-string_bytes}
use Rattle.descriptor_records.specs.declared.options.Options.{Options}
use Rattle.reflect_wire.specs.Encoding.{delimited_bytes, key_bytes, varint_bytes}
use Rattle.reflect_wire.specs.Records.{Payload, delimited, key_of, varint}
use Rattle.reflect_wire.specs.Written.{FitsPayload}
use Rattle.reflect_wire.specs.declared.wire_key.WireType.TheVariants.{LengthDelimited}
use Rattle.reflect_wire.proofs.Signed.{extended_back, extended_fits}
use Rattle.reflect_wire.proofs.Spelling.{varint_spelled}
use Rattle.reflect_codec.specs.Fields.{bool_field, int32_field, int32s_field, number_field, options_field, packed_field, payload_field, record_field, records_field, text_field, texts_field}
use Rattle.reflect_codec.specs.Meaning.{AreOptions, IsOptions, OptionsAt}
use Rattle.reflect_codec.specs.Reading.{AreNumbers, BoolAt, Field, Int32At, Int32sAt, IsBool, IsInt32, IsLast, IsMerged, IsNumbers, IsRecord, IsText, MergedAt, RecordsAt, SpellsFields, SpellsNumbers, TextAt, TextsAt, Value, joins, payload, value_of, values_at}
use Rattle.reflect_codec.specs.declared.options.OptionsOf.{OptionsOf}
use Rattle.codec_laws.specs.Plain.{ArePlainOptions, FitsInt32, IfThere}
use Rattle.codec_laws.proofs.Parts.{IsRow, Part, row_bytes}

-- ---- payloads
abbrev pub text_payloads : Option (String Global) → List Payload
text_payloads None = []
text_payloads (Some t) = delimited (string_bytes t) ∷ []

abbrev pub each_payload : {X : Type 0} → (X → List ℕ) → List X → List Payload
each_payload f xs = map (λ x. delimited (f x)) xs

abbrev pub int32_payloads : Option ℤ → List Payload
int32_payloads None = []
int32_payloads (Some z) = varint (cast_unsigned w64 z) ∷ []

abbrev pub int32s_payloads : List ℤ → List Payload
int32s_payloads zs = map (λ z. varint (cast_unsigned w64 z)) zs

abbrev pub numbers_bytes : List ℤ → List ℕ
numbers_bytes zs = flat_map (λ z. varint_bytes (cast_unsigned w64 z)) zs

abbrev pub packed_payloads : List ℤ → List Payload
packed_payloads [] = []
packed_payloads (z ∷ zs) = delimited (numbers_bytes (z ∷ zs)) ∷ []

abbrev pub bool_payloads : Option Bool → List Payload
bool_payloads None = []
bool_payloads (Some b) = varint (if b then 1 else 0) ∷ []

abbrev pub record_payloads : {R : Type 0} → (R → List ℕ) → Option R → List Payload
record_payloads bytes None = []
record_payloads bytes (Some r) = delimited (bytes r) ∷ []

abbrev pub options_payloads : Option Options → List Payload
options_payloads None = []
options_payloads (Some o) = delimited o.encoded.items ∷ []

pub inside_short : (n : ℕ) (b : List ℕ) → length b ≤ length (payload_field n b)
inside_short n b =
    let outer = length-append (key_bytes (key_of n LengthDelimited)) (delimited_bytes b) in
    let inner = length-append (varint_bytes (length b)) b in
    omega (arith, outer, inner)

bool_fits : (b : Bool) → (if b then 1 else 0) < 2 ^ 64
bool_fits true = omega arith
bool_fits false = omega arith

-- ---- parts: each is written as its payloads are
module _ (n : ℕ) (some : 0 < n) (small : n < 2 ^ 29) where
  each_row : {X : Type 0} (f : X → List ℕ) (xs : List X) → flat_map (λ x. payload_field n (f x)) xs ≡ row_bytes n (each_payload f xs)
  each_row f [] = refl
  each_row f (x ∷ xs) = ap (λ bs. payload_field n (f x) ++ bs) (each_row f xs)

  each_fits : {X : Type 0} (f : X → List ℕ) (levels : ℕ) (xs : List X) → length (flat_map (λ x. payload_field n (f x)) xs) < 2 ^ 64 → AllByRecursion (FitsPayload levels) (each_payload f xs)
  each_fits f levels [] h = tt
  each_fits f levels (x ∷ xs) h =
      let long = length-append (payload_field n (f x)) (flat_map (λ x. payload_field n (f x)) xs) in
      let short : length (f x) < 2 ^ 64 = omega (arith, h, long, inside_short n (f x)) in
      (short, each_fits f levels xs (omega (arith, h, long)))

  numbers_row : (zs : List ℤ) → int32s_field n zs ≡ row_bytes n (int32s_payloads zs)
  numbers_row [] = refl
  numbers_row (z ∷ zs) = ap (λ bs. number_field n (cast_unsigned w64 z) ++ bs) (numbers_row zs)

  numbers_fit : (levels : ℕ) (zs : List ℤ) → AllByRecursion FitsInt32 zs → AllByRecursion (FitsPayload levels) (int32s_payloads zs)
  numbers_fit levels [] h = tt
  numbers_fit levels (z ∷ zs) h = (extended_fits z h.0, numbers_fit levels zs h.1)

  one_row : (b : List ℕ) → IsRow n (payload_field n b) (delimited b ∷ [])
  one_row b = record {
    some = some;
    small = small;
    same = sym (append-nil (payload_field n b));
    fits = λ levels h. let short : length b < 2 ^ 64 = omega (arith, h, inside_short n b) in (short, tt);
  }

  none_row : IsRow n [] []
  none_row = record { some = some; small = small; same = refl; fits = λ levels h. tt }

  number_row : (v : ℕ) → v < 2 ^ 64 → IsRow n (number_field n v) (varint v ∷ [])
  number_row v fits = record { some = some; small = small; same = sym (append-nil (number_field n v)); fits = λ levels h. (fits, tt) }

  pub text_row : (o : Option (String Global)) → IsRow n (text_field n o) (text_payloads o)
  text_row None = none_row
  text_row (Some t) = one_row (string_bytes t)

  abbrev pub text_part : Option (String Global) → Part
  text_part o = record { number = n; bytes = text_field n o; payloads = text_payloads o; is_row = text_row o }

  pub texts_row : (ts : List (String Global)) → IsRow n (texts_field n ts) (each_payload string_bytes ts)
  texts_row ts = record { some = some; small = small; same = each_row string_bytes ts; fits = λ levels h. each_fits string_bytes levels ts h }

  abbrev pub texts_part : List (String Global) → Part
  texts_part ts = record { number = n; bytes = texts_field n ts; payloads = each_payload string_bytes ts; is_row = texts_row ts }

  pub int32_row : (o : Option ℤ) → IfThere FitsInt32 o → IsRow n (int32_field n o) (int32_payloads o)
  int32_row None h = none_row
  int32_row (Some z) h = number_row (cast_unsigned w64 z) (extended_fits z h)

  abbrev pub int32_part : (o : Option ℤ) → IfThere FitsInt32 o → Part
  int32_part o h = record { number = n; bytes = int32_field n o; payloads = int32_payloads o; is_row = int32_row o h }

  pub int32s_row : (zs : List ℤ) → AllByRecursion FitsInt32 zs → IsRow n (int32s_field n zs) (int32s_payloads zs)
  int32s_row zs all = record { some = some; small = small; same = numbers_row zs; fits = λ levels h. numbers_fit levels zs all }

  abbrev pub int32s_part : (zs : List ℤ) → AllByRecursion FitsInt32 zs → Part
  int32s_part zs h = record { number = n; bytes = int32s_field n zs; payloads = int32s_payloads zs; is_row = int32s_row zs h }

  pub packed_row : (zs : List ℤ) → IsRow n (packed_field n zs) (packed_payloads zs)
  packed_row [] = none_row
  packed_row (z ∷ zs) = one_row (numbers_bytes (z ∷ zs))

  abbrev pub packed_part : List ℤ → Part
  packed_part zs = record { number = n; bytes = packed_field n zs; payloads = packed_payloads zs; is_row = packed_row zs }

  pub bool_row : (o : Option Bool) → IsRow n (bool_field n o) (bool_payloads o)
  bool_row None = none_row
  bool_row (Some b) = number_row (if b then 1 else 0) (bool_fits b)

  abbrev pub bool_part : Option Bool → Part
  bool_part o = record { number = n; bytes = bool_field n o; payloads = bool_payloads o; is_row = bool_row o }

  pub record_row : {R : Type 0} (bytes : R → List ℕ) (o : Option R) → IsRow n (record_field bytes n o) (record_payloads bytes o)
  record_row bytes None = none_row
  record_row bytes (Some r) = one_row (bytes r)

  abbrev pub record_part : {R : Type 0} → (R → List ℕ) → Option R → Part
  record_part bytes o = record { number = n; bytes = record_field bytes n o; payloads = record_payloads bytes o; is_row = record_row bytes o }

  pub records_row : {R : Type 0} (bytes : R → List ℕ) (rs : List R) → IsRow n (records_field bytes n rs) (each_payload bytes rs)
  records_row bytes rs = record { some = some; small = small; same = each_row bytes rs; fits = λ levels h. each_fits bytes levels rs h }

  abbrev pub records_part : {R : Type 0} → (R → List ℕ) → List R → Part
  records_part bytes rs = record { number = n; bytes = records_field bytes n rs; payloads = each_payload bytes rs; is_row = records_row bytes rs }

  pub options_row : (o : Option Options) → IsRow n (options_field n o) (options_payloads o)
  options_row None = none_row
  options_row (Some o) = one_row o.encoded.items

  abbrev pub options_part : Option Options → Part
  options_part o = record { number = n; bytes = options_field n o; payloads = options_payloads o; is_row = options_row o }

-- ---- what they mean

-- the bytes of a record mean it
abbrev pub Reads : {R : Type 0} → (ℕ → List Field → R → Type 0) → (R → List ℕ) → ℕ → R → Type 0
Reads means bytes levels r = (fs : List Field) × SpellsFields levels (bytes r) fs × means levels fs r

-- under the number stand these payloads, and no others
abbrev pub Holds : ℕ → List Field → List Payload → Type 0
Holds n fs ps = values_at n fs ≡ map value_of (ps ++ [])

one_each : (zs : List ℤ) → zs ≡ joins (map (λ z. z ∷ []) zs)
one_each [] = refl
one_each (z ∷ zs) = ap (λ ys. z ∷ ys) (one_each zs)

numbers_zip : (zs : List ℤ) → AllByRecursion FitsInt32 zs → AllZip IsNumbers (map value_of (int32s_payloads zs ++ [])) (map (λ z. z ∷ []) zs)
numbers_zip [] h = tt
numbers_zip (z ∷ zs) h = (ap (λ y. y ∷ []) (sym (extended_back z h.0)), numbers_zip zs h.1)

numbers_spelled : (zs : List ℤ) → AllByRecursion FitsInt32 zs → SpellsNumbers (numbers_bytes zs) zs
numbers_spelled [] h = refl
numbers_spelled (z ∷ zs) h =
    let n = cast_unsigned w64 z in
    (varint_bytes n, numbers_bytes zs, n, varint_spelled n (extended_fits z h.0), sym (extended_back z h.0), numbers_spelled zs h.1, refl)

abbrev Spells : Value → String Global → Type 0
Spells v t = IsText v (string_bytes t)

texts_zip : (ts : List (String Global)) → AllZip Spells (map value_of (each_payload string_bytes ts ++ [])) ts
texts_zip [] = tt
texts_zip (t ∷ ts) = ((IsUtf8-string_bytes t, refl), texts_zip ts)

bool_back : (b : Bool) → b ≡ not ((if b then 1 else 0) == 0)
bool_back true = refl
bool_back false = refl

-- so does one that stands in another, which takes a level
abbrev pub ReadsInside : {R : Type 0} → (ℕ → List Field → R → Type 0) → (R → List ℕ) → ℕ → R → Type 0
ReadsInside means bytes levels r = (0 < levels) × Reads means bytes (levels - 1) r

records_zip : {R : Type 0} (means : ℕ → List Field → R → Type 0) (bytes : R → List ℕ) (levels : ℕ) (rs : List R) → AllByRecursion (ReadsInside means bytes levels) rs
    → AllZip (IsRecord means levels) (map value_of (each_payload bytes rs ++ [])) rs
records_zip means bytes levels [] h = tt
records_zip means bytes levels (r ∷ rs) h = ((h.0.1.0, (bytes r, (h.0.0, refl), h.0.1.1), h.0.1.2), records_zip means bytes levels rs h.1)

module _ (n : ℕ) (fs : List Field) where
  pub text_at : (o : Option (String Global)) → Holds n fs (text_payloads o) → TextAt n fs o
  text_at None e = subst (λ vs. IsLast Spells vs None) (sym e) ([], tt, refl)
  text_at (Some t) e = subst (λ vs. IsLast Spells vs (Some t)) (sym e) (t ∷ [], ((IsUtf8-string_bytes t, refl), tt), refl)

  pub texts_at : (ts : Vec (String Global) Global) → Holds n fs (each_payload string_bytes ts.items) → TextsAt n fs ts
  texts_at ts e = subst (λ vs. AllZip Spells vs ts.items) (sym e) (texts_zip ts.items)

  pub int32_at : (o : Option ℤ) → IfThere FitsInt32 o → Holds n fs (int32_payloads o) → Int32At n fs o
  int32_at None f e = subst (λ vs. IsLast IsInt32 vs None) (sym e) ([], tt, refl)
  int32_at (Some z) f e = subst (λ vs. IsLast IsInt32 vs (Some z)) (sym e) (z ∷ [], ((cast_unsigned w64 z, refl, sym (extended_back z f)), tt), refl)

  pub int32s_at : (zs : Vec ℤ Global) → AllByRecursion FitsInt32 zs.items → Holds n fs (int32s_payloads zs.items) → Int32sAt n fs zs
  int32s_at zs f e = subst (λ vs. AreNumbers vs zs.items) (sym e) (map (λ z. z ∷ []) zs.items, numbers_zip zs.items f, one_each zs.items)

  packed : (zs : List ℤ) → AllByRecursion FitsInt32 zs → AreNumbers (map value_of (packed_payloads zs ++ [])) zs
  packed [] f = ([], tt, refl)
  packed (z ∷ zs) f = ((z ∷ zs) ∷ [], (numbers_spelled (z ∷ zs) f, tt), sym (append-nil (z ∷ zs)))

  pub packed_at : (zs : Vec ℤ Global) → AllByRecursion FitsInt32 zs.items → Holds n fs (packed_payloads zs.items) → Int32sAt n fs zs
  packed_at zs f e = subst (λ vs. AreNumbers vs zs.items) (sym e) (packed zs.items f)

  pub bool_at : (o : Option Bool) → Holds n fs (bool_payloads o) → BoolAt n fs o
  bool_at None e = subst (λ vs. IsLast IsBool vs None) (sym e) ([], tt, refl)
  bool_at (Some b) e = subst (λ vs. IsLast IsBool vs (Some b)) (sym e) (b ∷ [], ((if b then 1 else 0, refl, bool_back b), tt), refl)

  pub records_among : {R : Type 0} (means : ℕ → List Field → R → Type 0) (bytes : R → List ℕ) (levels : ℕ) (rs : List R) → AllByRecursion (ReadsInside means bytes levels) rs
      → Holds n fs (each_payload bytes rs) → AllZip (IsRecord means levels) (values_at n fs) rs
  records_among means bytes levels rs all e = subst (λ vs. AllZip (IsRecord means levels) vs rs) (sym e) (records_zip means bytes levels rs all)

  pub records_at : {R : Type 0} (means : ℕ → List Field → R → Type 0) (bytes : R → List ℕ) (levels : ℕ) (rs : Vec R Global) → AllByRecursion (ReadsInside means bytes levels) rs.items
      → Holds n fs (each_payload bytes rs.items) → RecordsAt means levels n fs rs
  records_at means bytes levels rs = records_among means bytes levels rs.items

  pub merged_at : {R : Type 0} (means : ℕ → List Field → R → Type 0) (bytes : R → List ℕ) (levels : ℕ) (o : Option R) → IfThere (ReadsInside means bytes levels) o
      → Holds n fs (record_payloads bytes o) → MergedAt means levels n fs o
  merged_at means bytes levels None h e = subst (λ vs. IsMerged means levels vs None) (sym e) (None, ([], tt, refl), tt)
  merged_at means bytes levels (Some r) h e = subst (λ vs. IsMerged means levels vs (Some r)) (sym e) (
    Some (h.1.0 ++ []),
    (h.1.0 ∷ [], ((bytes r, (h.0, refl), h.1.1), tt), refl),
    subst (λ gs. means (levels - 1) gs r) (sym (append-nil h.1.0)) h.1.2,
  )

  pub options_at : (kind : OptionsOf) (levels : ℕ) (o : Option Options) → ArePlainOptions kind levels o → Holds n fs (options_payloads o) → OptionsAt kind levels n fs o
  options_at kind levels None h e = subst (λ vs. AreOptions kind levels vs None) (sym e) (None, ([], tt, refl), tt)
  options_at kind levels (Some o) h e = subst (λ vs. AreOptions kind levels vs (Some o)) (sym e) (
    Some (h.1.0 ++ []),
    (h.1.0 ∷ [], ((o.encoded.items, (h.0, refl), h.1.1), tt), refl),
    subst (λ gs. IsOptions kind (payload o.encoded.items ∷ []) gs o) (sym (append-nil h.1.0)) h.1.2,
  )
