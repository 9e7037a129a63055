-- What a single value is printed as stands for it.
use Rattle.std.proofs.Common.{◌≡◌, ℕ, ℤ, pos, negsuc, suc, ◌+◌, ◌-◌, ◌*◌, ◌<◌, ◌≤◌, ◌^◌, nat_lt, Bool, true, false, [], ◌++◌, fold, decimal, Option, Some, None, option_map, refl, ap, ◌∙◌, append-nil, arith, FitsSigned}
use Rattle.std.specs.Prelude.{if◌then◌else◌, nat_le}
use Rattle.std.specs.Int.{w32, w64}
use Rattle.std.specs.List.{AllByRecursion}
use Rattle.std.specs.Str.{is_utf8}
use Rattle.std.specs.Str.Parse.{AllDigits}
use Rattle.std.proofs.lemmas.Bool.{le-leb, lt-ltb, ltb-true}
use Rattle.std.proofs.lemmas.Fmt.{digits_value-decimal}
use Rattle.std.proofs.lemmas.Str.{is_utf8-from_IsUtf8}
use Rattle.std.proofs.lemmas.Str.Parse.{FoldsDigits, numerals_by_fold, tells_digits}
use Rattle.protox_lex.specs.Class.{Text}
use Rattle.protox_lex.specs.Lex.{digit, value, unescaped}
use Rattle.protox_lex.specs.Escapes.{escaped}
use Rattle.protobuf_model.specs.Values.{Single, truth, int32, int64, uint32, uint64, text, blob, enumerated}
use Rattle.protobuf_model.specs.Types.{Scalar}
use Rattle.protobuf_model.specs.Types as kinds
use Rattle.protobuf_model.specs.Scalars.{Suits}
use Rattle.text_model.specs.Scalars.{number, is_within, only_if, integer_in, string_in, scalar_in}
use Rattle.text_model.specs.Printed.{natural, whole, named, printed_single}
use Rattle.text_model.specs.Plain.{AreBytes}
use Rattle.text_model.proofs.Escaping.{escaped_means}
use Rattle.text_model.proofs.Utf8.{utf8_small}

digit_is : (c : ℕ) → c ≤ 57 → digit c ≡ c - 48
digit_is c h = ap (λ t. if t then c - 48 else if nat_le c 70 then c - 55 else c - 87) (le-leb c 57 h)

abbrev read_on : ℕ → Text → ℕ
read_on n ds = fold (λ n b. 10 * n + digit b) n ds

folds : FoldsDigits read_on
folds = record {
  empty = λ n. refl;
  more = λ n c cs h. let e : 10 * n + digit c ≡ n * 10 + (c - 48) = omega (arith, digit_is c h.1) in ap (λ m. read_on m cs) e;
}

pub decimal_value : (n : ℕ) → n < 2 ^ 64 → value 10 (decimal n) ≡ n
decimal_value n h = digits_value-decimal (numerals_by_fold (AllDigits 10) tells_digits read_on folds) n h

only_true : (b : Bool) (v : Single) → b ≡ true → only_if b v ≡ Some v
only_true true v e = refl
only_true false v e = cc

natural_back : (enum : Text → Option ℤ) (k : Scalar) (n : ℕ) (v : Single) → n < 2 ^ 64 → integer_in k false n ≡ Some v → scalar_in enum k (natural false n) ≡ Some v
natural_back enum k n v h e = ap (integer_in k false) (decimal_value n h) ∙ e

negative_back : (enum : Text → Option ℤ) (k : Scalar) (n : ℕ) (v : Single) → suc n < 2 ^ 64 → integer_in k true (suc n) ≡ Some v → scalar_in enum k (natural true (suc n)) ≡ Some v
negative_back enum k n v h e = ap (integer_in k true) (decimal_value (suc n) h) ∙ e

abbrev Both : Scalar → (ℤ → Single) → ℕ → Type 0
Both k f limit = (minus : Bool) (n : ℕ) → integer_in k minus n ≡ only_if (is_within limit (number minus n)) (f (number minus n))

-- a number of a signed kind
signed_back : (enum : Text → Option ℤ) (k : Scalar) (f : ℤ → Single) (limit : ℕ) (z : ℤ) → Both k f limit → limit < 2 ^ 64 → is_within limit z ≡ true → scalar_in enum k (whole z) ≡ Some (f z)
signed_back enum k f limit (pos n) both small h =
    let below = ltb-true n limit h in
    natural_back enum k n (f (pos n)) (omega arith) (both false n ∙ only_true (nat_lt n limit) (f (pos n)) h)
signed_back enum k f limit (negsuc n) both small h =
    let below = ltb-true n limit h in
    negative_back enum k n (f (negsuc n)) (omega arith) (both true (suc n) ∙ only_true (nat_lt n limit) (f (negsuc n)) h)

within_32 : (z : ℤ) → FitsSigned w32 z → is_within (2 ^ 31) z ≡ true
within_32 (pos n) h = lt-ltb n (2 ^ 31) h.sfits
within_32 (negsuc n) h = lt-ltb n (2 ^ 31) h.sfits

within_64 : (z : ℤ) → FitsSigned w64 z → is_within (2 ^ 63) z ≡ true
within_64 (pos n) h = lt-ltb n (2 ^ 63) h.sfits
within_64 (negsuc n) h = lt-ltb n (2 ^ 63) h.sfits

string_back : (k : Scalar) (s : Text) (v : Single) → AllByRecursion (λ x. x < 256) s → string_in k s ≡ Some v → string_in k (unescaped (escaped s) ++ []) ≡ Some v
string_back k s v h e = ap (string_in k) (append-nil (unescaped (escaped s)) ∙ escaped_means s h) ∙ e

-- names of an enum's values are found again
abbrev pub AreFound : (Text → Option ℤ) → (ℤ → Option Text) → Type 0
AreFound number name = (z : ℤ) (w : Text) → name z ≡ Some w → number w ≡ Some z

named_back : (number : Text → Option ℤ) (name : ℤ → Option Text) (z : ℤ) → AreFound number name → FitsSigned w32 z → scalar_in number kinds.enumeration (printed_single name (enumerated z)) ≡ Some (enumerated z)
named_back number name z found h = by (name z) refl where
  by : (o : Option Text) → name z ≡ o → scalar_in number kinds.enumeration (elim o [ None ↦ whole z | Some w ↦ named w ]) ≡ Some (enumerated z)
  by None e = signed_back number kinds.enumeration enumerated (2 ^ 31) z (λ m n. refl) (omega arith) (within_32 z h)
  by (Some w) e = ap (option_map enumerated) (found z w e)

pub single_back : (number : Text → Option ℤ) (name : ℤ → Option Text) (k : Scalar) (v : Single) → AreFound number name → AreBytes v → Suits k v → scalar_in number k (printed_single name v) ≡ Some v
single_back number name kinds.int32 (int32 z) f b h = signed_back number kinds.int32 int32 (2 ^ 31) z (λ m n. refl) (omega arith) (within_32 z h)
single_back number name kinds.sint32 (int32 z) f b h = signed_back number kinds.sint32 int32 (2 ^ 31) z (λ m n. refl) (omega arith) (within_32 z h)
single_back number name kinds.sfixed32 (int32 z) f b h = signed_back number kinds.sfixed32 int32 (2 ^ 31) z (λ m n. refl) (omega arith) (within_32 z h)
single_back number name kinds.int64 (int64 z) f b h = signed_back number kinds.int64 int64 (2 ^ 63) z (λ m n. refl) (omega arith) (within_64 z h)
single_back number name kinds.sint64 (int64 z) f b h = signed_back number kinds.sint64 int64 (2 ^ 63) z (λ m n. refl) (omega arith) (within_64 z h)
single_back number name kinds.sfixed64 (int64 z) f b h = signed_back number kinds.sfixed64 int64 (2 ^ 63) z (λ m n. refl) (omega arith) (within_64 z h)
single_back number name kinds.uint32 (uint32 n) f b h = natural_back number kinds.uint32 n (uint32 n) (omega arith) (only_true (nat_lt n (2 ^ 32)) (uint32 n) (lt-ltb n (2 ^ 32) h))
single_back number name kinds.fixed32 (uint32 n) f b h = natural_back number kinds.fixed32 n (uint32 n) (omega arith) (only_true (nat_lt n (2 ^ 32)) (uint32 n) (lt-ltb n (2 ^ 32) h))
single_back number name kinds.uint64 (uint64 n) f b h = natural_back number kinds.uint64 n (uint64 n) h (only_true (nat_lt n (2 ^ 64)) (uint64 n) (lt-ltb n (2 ^ 64) h))
single_back number name kinds.fixed64 (uint64 n) f b h = natural_back number kinds.fixed64 n (uint64 n) h (only_true (nat_lt n (2 ^ 64)) (uint64 n) (lt-ltb n (2 ^ 64) h))
single_back number name kinds.bool (truth true) f b h = refl
single_back number name kinds.bool (truth false) f b h = refl
single_back number name kinds.string (text s) f b h = string_back kinds.string s (text s) (utf8_small s h) (only_true (is_utf8 s) (text s) (is_utf8-from_IsUtf8 s h))
single_back number name kinds.bytes (blob s) f b h = string_back kinds.bytes s (blob s) b refl
single_back number name kinds.enumeration (enumerated z) f b h = named_back number name z f h
single_back number name k v f b h = absurd h

-- a value that is no enum's has one text, whatever the names are
unnamed : (name : ℤ → Option Text) (k : Scalar) (v : Single) → (k ≡ kinds.enumeration → ⊥) → Suits k v → printed_single name v ≡ printed_single (λ z. None) v
unnamed name kinds.enumeration (enumerated z) none h = absurd (none refl)
unnamed name k (enumerated z) none h = absurd h
unnamed name k v none h = refl

none_found : (number : Text → Option ℤ) → AreFound number (λ z. None)
none_found number z w e = cc

pub unnamed_back : (number : Text → Option ℤ) (name : ℤ → Option Text) (k : Scalar) (v : Single) → (k ≡ kinds.enumeration → ⊥) → AreBytes v → Suits k v → scalar_in number k (printed_single name v) ≡ Some v
unnamed_back number name k v none b h = ap (scalar_in number k) (unnamed name k v none h) ∙ single_back number (λ z. None) k v (none_found number) b h
