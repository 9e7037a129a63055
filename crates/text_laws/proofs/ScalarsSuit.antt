-- What a scalar value stands for suits its kind.
use Rattle.std.proofs.Common.{◌≡◌, ℕ, ℤ, pos, negsuc, ◌<◌, ◌^◌, ◌==◌, nat_lt, cond, Bool, true, false, List, [], ◌∷◌, ◌++◌, map, drop, Option, Some, None, option_map, refl, subst, arith, FitsSigned}
use Rattle.std.specs.Int.{w32, w64}
use Rattle.std.specs.List.{flat_map}
use Rattle.std.specs.Str.{is_utf8}
use Rattle.std.proofs.lemmas.Bool.{ltb-true}
use Rattle.std.proofs.lemmas.Option.{cond_some, none-some}
use Rattle.std.proofs.lemmas.Str.{IsUtf8-from_is_utf8}
use Rattle.protox_lex.specs.Class.{Text}
use Rattle.protox_lex.specs.declared.escape.Meaning.{Meaning}
use Rattle.protox_lex.specs.declared.escape.Meaning.TheVariants as meaning
use Rattle.protox_lex.specs.Lex.{value, bytes_of, unescaped}
use Rattle.protox_lex.specs.Spelled.{IsMeant}
use Rattle.protox_lex.specs.StringMeaning.{Means, no_bytes, same_byte, escape_means, slash_means}
use Rattle.protox_lex.proofs.StringMeaning.{means_its_bytes}
use Rattle.text_lex.specs.Token.{str}
use Rattle.protobuf_model.specs.Values.{Single, truth, int32, int64, uint32, uint64, text, blob, enumerated}
use Rattle.protobuf_model.specs.Types.{Scalar}
use Rattle.protobuf_model.specs.Types as kinds
use Rattle.protobuf_model.specs.Scalars.{Suits}
use Rattle.protobuf_model.proofs.Arranged.{all_append}
use Rattle.text_model.specs.Tree.{integer, floating, identifier, ScalarValue, signed, strings}
use Rattle.text_model.specs.Tokens.{scalar_tokens}
use Rattle.text_model.specs.Scalars.{base, number, is_within, only_if, natural_in, signed_32, signed_64, integer_in, is_true, is_false, identifier_in, string_in, scalar_in}
use Rattle.text_model.specs.Plain.{AreBytes}
use Rattle.text_laws.proofs.CutTokens.{AreFine, rest_small}
use Rattle.text_laws.proofs.Small.{AreSmall, encode_small}

within_32 : (z : ℤ) → is_within (2 ^ 31) z ≡ true → FitsSigned w32 z
within_32 (pos n) h = record { sfits = ltb-true n (2 ^ 31) h }
within_32 (negsuc n) h = record { sfits = ltb-true n (2 ^ 31) h }

within_64 : (z : ℤ) → is_within (2 ^ 63) z ≡ true → FitsSigned w64 z
within_64 (pos n) h = record { sfits = ltb-true n (2 ^ 63) h }
within_64 (negsuc n) h = record { sfits = ltb-true n (2 ^ 63) h }

-- numbers that an enum's names find
abbrev pub AreOf32Bits : (Text → Option ℤ) → Type 0
AreOf32Bits enum = (v : Text) (z : ℤ) → enum v ≡ Some z → FitsSigned w32 z

-- what the contents of a string mean are bytes
meaning_small : (m : Meaning) (s : Text) → IsMeant m → AreSmall s → AreSmall (bytes_of m ++ s)
meaning_small (meaning.Byte b) s h k = (h, k)
meaning_small (meaning.Char c) s h k = all_append (λ b. b < 256) (bytes_of (meaning.Char c)) s (encode_small c h) k

means_small : (y s : Text) → Means y s → AreSmall y → AreSmall s
means_small y s no_bytes h = tt
means_small y s (same_byte b rest others plain more) h = (h.0, means_small rest others more h.1)
means_small y s (escape_means rest n m others is more) h = meaning_small m others is.1 (means_small (drop n rest) others more (rest_small n rest h.1))
means_small y s (slash_means rest n others is more) h = (omega arith, means_small rest others more h.1)

unescaped_small : (s : Text) → AreSmall s → AreSmall (unescaped s)
unescaped_small s h = means_small s (unescaped s) (means_its_bytes s) h

module _ (P : Type 0) where
  -- a value that suits the kind and holds bytes
  abbrev pub IsRight : Scalar → Single → Type 0
  IsRight k v = Suits k v × (P → AreBytes v)

  right_32 : (k : Scalar) (f : ℤ → Single) (z : ℤ) (v : Single) → ((z : ℤ) → FitsSigned w32 z → IsRight k (f z)) → signed_32 f z ≡ Some v → IsRight k v
  right_32 k f z v h e = let c = cond_some (is_within (2 ^ 31) z) (f z) v e in subst (IsRight k) c.1 (h z (within_32 z c.0))

  right_64 : (k : Scalar) (f : ℤ → Single) (z : ℤ) (v : Single) → ((z : ℤ) → FitsSigned w64 z → IsRight k (f z)) → signed_64 f z ≡ Some v → IsRight k v
  right_64 k f z v h e = let c = cond_some (is_within (2 ^ 63) z) (f z) v e in subst (IsRight k) c.1 (h z (within_64 z c.0))

  right_below : (k : Scalar) (f : ℕ → Single) (n limit : ℕ) (v : Single) → (n < limit → IsRight k (f n)) → only_if (nat_lt n limit) (f n) ≡ Some v → IsRight k v
  right_below k f n limit v h e = let c = cond_some (nat_lt n limit) (f n) v e in subst (IsRight k) c.1 (h (ltb-true n limit c.0))

  right_truth : (b c : Bool) (v : Single) (o : Option Single) → ((w : Single) → o ≡ Some w → IsRight kinds.bool w) → cond b (Some (truth c)) o ≡ Some v → IsRight kinds.bool v
  right_truth true c v o h e = subst (IsRight kinds.bool) (some_same (truth c) v e) (tt, λ p. tt) where
    some_same : (a b : Single) → ◌≡◌ {A = Option Single} (Some a) (Some b) → a ≡ b
    some_same a b e = cc
  right_truth false c v o h e = h v e

  right_natural : (k : Scalar) (n : ℕ) (v : Single) → natural_in k n ≡ Some v → IsRight k v
  right_natural kinds.uint32 n v e = right_below kinds.uint32 uint32 n (2 ^ 32) v (λ h. (h, λ p. tt)) e
  right_natural kinds.fixed32 n v e = right_below kinds.fixed32 uint32 n (2 ^ 32) v (λ h. (h, λ p. tt)) e
  right_natural kinds.uint64 n v e = right_below kinds.uint64 uint64 n (2 ^ 64) v (λ h. (h, λ p. tt)) e
  right_natural kinds.fixed64 n v e = right_below kinds.fixed64 uint64 n (2 ^ 64) v (λ h. (h, λ p. tt)) e
  right_natural kinds.bool n v e = right_truth (n == 0) false v _ (λ u e. right_truth (n == 1) true u None (λ x e. absurd (none-some x e)) e) e
  right_natural k n v e = absurd (none-some v e)

  right_integer : (k : Scalar) (minus : Bool) (n : ℕ) (v : Single) → integer_in k minus n ≡ Some v → IsRight k v
  right_integer kinds.int32 minus n v e = right_32 kinds.int32 int32 (number minus n) v (λ z h. (h, λ p. tt)) e
  right_integer kinds.sint32 minus n v e = right_32 kinds.sint32 int32 (number minus n) v (λ z h. (h, λ p. tt)) e
  right_integer kinds.sfixed32 minus n v e = right_32 kinds.sfixed32 int32 (number minus n) v (λ z h. (h, λ p. tt)) e
  right_integer kinds.enumeration minus n v e = right_32 kinds.enumeration enumerated (number minus n) v (λ z h. (h, λ p. tt)) e
  right_integer kinds.int64 minus n v e = right_64 kinds.int64 int64 (number minus n) v (λ z h. (h, λ p. tt)) e
  right_integer kinds.sint64 minus n v e = right_64 kinds.sint64 int64 (number minus n) v (λ z h. (h, λ p. tt)) e
  right_integer kinds.sfixed64 minus n v e = right_64 kinds.sfixed64 int64 (number minus n) v (λ z h. (h, λ p. tt)) e
  right_integer k true n v e = absurd (none-some v e)
  right_integer k false n v e = right_natural k n v e

  right_enum : (o : Option ℤ) (v : Single) → ((z : ℤ) → o ≡ Some z → FitsSigned w32 z) → option_map enumerated o ≡ Some v → IsRight kinds.enumeration v
  right_enum (Some z) v h e = subst (IsRight kinds.enumeration) (let s : enumerated z ≡ v = cc in s) (h z refl, λ p. tt)
  right_enum None v h e = absurd (none-some v e)

  right_word : (enum : Text → Option ℤ) → AreOf32Bits enum → (k : Scalar) (w : Text) (v : Single) → identifier_in enum k w ≡ Some v → IsRight k v
  right_word enum few kinds.bool w v e = right_truth (is_true w) true v _ (λ u e. right_truth (is_false w) false u None (λ x e. absurd (none-some x e)) e) e
  right_word enum few kinds.enumeration w v e = right_enum (enum w) v (few w) e
  right_word enum few k w v e = absurd (none-some v e)

  right_string : (k : Scalar) (s : Text) (v : Single) → (P → AreSmall s) → string_in k s ≡ Some v → IsRight k v
  right_string kinds.string s v h e = let c = cond_some (is_utf8 s) (text s) v e in subst (IsRight kinds.string) c.1 (IsUtf8-from_is_utf8 s c.0, λ p. tt)
  right_string kinds.bytes s v h e = subst (IsRight kinds.bytes) (let same : blob s ≡ v = cc in same) (tt, h)
  right_string k s v h e = absurd (none-some v e)

  all_unescaped : (ss : List Text) → AreFine P (map str ss) → P → AreSmall (flat_map unescaped ss)
  all_unescaped [] h p = tt
  all_unescaped (s ∷ ss) h p = all_append (λ b. b < 256) (unescaped s) (flat_map unescaped ss) (unescaped_small s (h.0 p)) (all_unescaped ss h.1 p)

  pub scalar_right : (enum : Text → Option ℤ) → AreOf32Bits enum → (k : Scalar) (s : ScalarValue) (v : Single) → AreFine P (scalar_tokens s) → scalar_in enum k s ≡ Some v → IsRight k v
  scalar_right enum few k (signed minus (integer r digits)) v h e = right_integer k minus (value (base r) digits) v e
  scalar_right enum few k (signed false (identifier w)) v h e = right_word enum few k w v e
  scalar_right enum few k (signed true (identifier w)) v h e = absurd (none-some v e)
  scalar_right enum few k (signed minus (floating s)) v h e = absurd (none-some v e)
  scalar_right enum few k (strings s ss) v h e =
      right_string k (unescaped s ++ flat_map unescaped ss) v (λ p. all_append (λ b. b < 256) (unescaped s) (flat_map unescaped ss) (unescaped_small s (h.0 p)) (all_unescaped ss h.1 p)) e
