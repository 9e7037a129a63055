-- The single value that an option says to a kind suits it.
use Rattle.std.proofs.Common.{◌≡◌, ℕ, zero, suc, ℤ, pos, negsuc, ◌^◌, ◌==◌, nat_lt, cond, Bool, true, false, List, [], ◌∷◌, Option, None, Some, option_map, unwrap_or, refl, sym, ap, ◌∙◌, subst, FitsSigned}
use Rattle.std.proofs.lemmas.Bool.{ltb-true}
use Rattle.std.proofs.lemmas.Option.{cond_some}
use Rattle.std.proofs.lemmas.Str.{IsUtf8-from_is_utf8}
use Rattle.std.specs.Int.{w32, w64}
use Rattle.std.specs.List.{AllByRecursion, find}
use Rattle.std.specs.Option.{option_and_then}
use Rattle.std.specs.Prelude.{slice_index_or}
use Rattle.std.specs.Str.{bytes_eq, is_utf8}
use Rattle.descriptor_records.specs.Content.{OptionContent}
use Rattle.message_view.specs.Singles as views
use Rattle.message_view.specs.Sound.{HasNumbers, HaveNumbers}
use Rattle.option_parts.specs.TypedOptions.{truth_of}
use Rattle.option_setter.specs.OptionValues.{number, number_64, said, scalar_said, without_sign}
use Rattle.protobuf_model.specs.Scalars.{Suits}
use Rattle.protobuf_model.specs.Types.{Scalar}
use Rattle.protobuf_model.specs.Types as kinds
use Rattle.protobuf_model.specs.Values.{Single, enumerated, int32, int64, text, truth, uint32, uint64}
use Rattle.protox_lex.specs.Class.{Text}
use Rattle.reflect_format.specs.Enums.{number_named}
use Rattle.reflect_pool.specs.Kinds.{IsKind}
use Rattle.reflect_pool.specs.declared.kind.Kind.{Kind}
use Rattle.reflect_pool.specs.declared.kind.Kind.TheVariants as values
use Rattle.reflect_tables.specs.Types.{KindType, PoolType, ValueType, enum_at, no_enum}
use Rattle.text_model.specs.Scalars.{is_within, natural_in, signed_32, string_in}
use Rattle.text_scalars.specs.Number.{nameless}

-- ---- what an option is made of

mapped : {X Y P : Type 0} (f : X → Y) (o : Option X) (y : Y) → option_map f o ≡ Some y → ((x : X) → o ≡ Some x → f x ≡ y → P) → P
mapped f (Some x) y e give = give x refl (ap (λ o. unwrap_or o y) e)
mapped f None y e give = absurd (cc e)

chained : {X Y P : Type 0} (f : X → Option Y) (o : Option X) (y : Y) → option_and_then f o ≡ Some y → ((x : X) → o ≡ Some x → f x ≡ Some y → P) → P
chained f (Some x) y e give = give x refl e
chained f None y e give = absurd (cc e)

found_has : {X : Type 0} (P : X → Type 0) (test : X → Bool) (xs : List X) (x : X) → AllByRecursion P xs → find test xs ≡ Some x → P x
found_has P test [] x all e = absurd (cc e)
found_has P test (y ∷ ys) x all e = by (test y) refl (found_has P test ys x all.1) where
  by : (b : Bool) → test y ≡ b → (find test ys ≡ Some x → P x) → P x
  by true is later = subst P (ap (λ o. unwrap_or o y) (sym (ap (λ b. cond b (Some y) (find test ys)) is) ∙ e)) all.0
  by false is later = later (sym (ap (λ b. cond b (Some y) (find test ys)) is) ∙ e)

at_place : {X : Type 0} (P : X → Type 0) (xs : List X) (i : ℕ) (d : X) → AllByRecursion P xs → P d → P (slice_index_or xs i d)
at_place P [] i d all p = p
at_place P (x ∷ xs) zero d all p = all.0
at_place P (x ∷ xs) (suc i) d all p = at_place P xs i d all.1 p

-- an enum's numbers have 32 bits
named_fits : (pool : PoolType) (i : ℕ) → HaveNumbers pool → (w : Text) (z : ℤ)
    → option_map (λ (v : ValueType). v.number) (find (λ v. bytes_eq v.name w) (enum_at pool i).values) ≡ Some z → FitsSigned w32 z
named_fits pool i numbers w z e =
    mapped (λ (v : ValueType). v.number) (find (λ v. bytes_eq v.name w) (enum_at pool i).values) z e
    (λ v found same. subst (FitsSigned w32) same (found_has (λ (v : ValueType). FitsSigned w32 v.number) (λ v. bytes_eq v.name w) (enum_at pool i).values v (at_place HasNumbers pool.enums i no_enum numbers tt) found))

within_32 : (z : ℤ) → is_within (2 ^ 31) z ≡ true → FitsSigned w32 z
within_32 (pos n) h = record { sfits = ltb-true n (2 ^ 31) h }
within_32 (negsuc n) h = record { sfits = ltb-true n (2 ^ 31) h }

-- 0 and 1 are truth values
truth_only : (n : ℕ) (x : Single) → natural_in kinds.bool n ≡ Some x → Suits kinds.bool x
truth_only n x e = by (n == 0) (n == 1) e where
  by : (a b : Bool) → cond a (Some (truth false)) (cond b (Some (truth true)) None) ≡ Some x → Suits kinds.bool x
  by true b e = subst (Suits kinds.bool) (ap (λ o. unwrap_or o x) e) tt
  by false true e = subst (Suits kinds.bool) (ap (λ o. unwrap_or o x) e) tt
  by false false e = absurd (cc e)

-- ---- by the kind

-- numbers are of 64 bits
abbrev pub HasFewBits : OptionContent → Type 0
HasFewBits o = (z : ℤ) → number_64 o ≡ Some z → FitsSigned w64 z

module _ (o : OptionContent) (few : HasFewBits o) where
  suits_32 : (k : Scalar) → ((z : ℤ) → FitsSigned w32 z → Suits k (int32 z)) → (x : Single) → option_and_then (signed_32 int32) (number_64 o) ≡ Some x → Suits k x
  suits_32 k h x e = chained (signed_32 int32) (number_64 o) x e (λ z is same. let c = cond_some (is_within (2 ^ 31) z) (int32 z) x same in subst (Suits k) c.1 (h z (within_32 z c.0)))

  suits_64 : (k : Scalar) → ((z : ℤ) → FitsSigned w64 z → Suits k (int64 z)) → (x : Single) → option_map int64 (number_64 o) ≡ Some x → Suits k x
  suits_64 k h x e = mapped int64 (number_64 o) x e (λ z is same. subst (Suits k) same (h z (few z is)))

  suits_natural : (k : Scalar) (n : ℕ) (x : Single) → natural_in k n ≡ Some x → Suits k x
  suits_natural kinds.uint32 n x e = let c = cond_some (nat_lt n (2 ^ 32)) (uint32 n) x e in subst (Suits kinds.uint32) c.1 (ltb-true n (2 ^ 32) c.0)
  suits_natural kinds.fixed32 n x e = let c = cond_some (nat_lt n (2 ^ 32)) (uint32 n) x e in subst (Suits kinds.fixed32) c.1 (ltb-true n (2 ^ 32) c.0)
  suits_natural kinds.uint64 n x e = let c = cond_some (nat_lt n (2 ^ 64)) (uint64 n) x e in subst (Suits kinds.uint64) c.1 (ltb-true n (2 ^ 64) c.0)
  suits_natural kinds.fixed64 n x e = let c = cond_some (nat_lt n (2 ^ 64)) (uint64 n) x e in subst (Suits kinds.fixed64) c.1 (ltb-true n (2 ^ 64) c.0)
  suits_natural kinds.bool n x e = truth_only n x e
  suits_natural k n x e = absurd (cc e)

  suits_unsigned : (k : Scalar) (x : Single) → option_and_then (natural_in k) (option_and_then without_sign (number o)) ≡ Some x → Suits k x
  suits_unsigned k x e = chained (natural_in k) (option_and_then without_sign (number o)) x e (λ n is same. suits_natural k n x same)

  scalar_suits : (enum : Text → Option ℤ) → ((w : Text) (z : ℤ) → enum w ≡ Some z → FitsSigned w32 z) → (k : Scalar) (x : Single)
      → scalar_said enum k o ≡ Some x → Suits k x
  scalar_suits enum bits kinds.bool x e = mapped truth (truth_of o.identifier_value) x e (λ b is same. subst (Suits kinds.bool) same tt)
  scalar_suits enum bits kinds.enumeration x e =
      chained (λ w. option_map enumerated (enum w)) o.identifier_value x e (λ w is same. mapped enumerated (enum w) x same (λ z found that. subst (Suits kinds.enumeration) that (bits w z found)))
  scalar_suits enum bits kinds.string x e =
      chained (string_in kinds.string) o.string_value x e (λ s is same. let c = cond_some (is_utf8 s) (text s) x same in subst (Suits kinds.string) c.1 (IsUtf8-from_is_utf8 s c.0))
  scalar_suits enum bits kinds.bytes x e = chained (string_in kinds.bytes) o.string_value x e (λ s is same. subst (Suits kinds.bytes) (ap (λ o. unwrap_or o x) same) tt)
  scalar_suits enum bits kinds.int32 x e = suits_32 kinds.int32 (λ z h. h) x e
  scalar_suits enum bits kinds.sint32 x e = suits_32 kinds.sint32 (λ z h. h) x e
  scalar_suits enum bits kinds.sfixed32 x e = suits_32 kinds.sfixed32 (λ z h. h) x e
  scalar_suits enum bits kinds.int64 x e = suits_64 kinds.int64 (λ z h. h) x e
  scalar_suits enum bits kinds.sint64 x e = suits_64 kinds.sint64 (λ z h. h) x e
  scalar_suits enum bits kinds.sfixed64 x e = suits_64 kinds.sfixed64 (λ z h. h) x e
  scalar_suits enum bits kinds.uint32 x e = suits_unsigned kinds.uint32 x e
  scalar_suits enum bits kinds.uint64 x e = suits_unsigned kinds.uint64 x e
  scalar_suits enum bits kinds.fixed32 x e = suits_unsigned kinds.fixed32 x e
  scalar_suits enum bits kinds.fixed64 x e = suits_unsigned kinds.fixed64 x e

  none_named : (w : Text) (z : ℤ) → nameless w ≡ Some z → FitsSigned w32 z
  none_named w z e = absurd (cc e)

  pub said_suits : (pool : PoolType) → HaveNumbers pool → (k : Kind) (t : KindType) → IsKind pool k t → (x : Single) → said k o ≡ Some x
      → Suits (views.scalar_of t) x
  said_suits pool numbers values.Int32 t is x e = subst (λ t. Suits (views.scalar_of t) x) (sym is) (scalar_suits nameless none_named kinds.int32 x e)
  said_suits pool numbers values.Int64 t is x e = subst (λ t. Suits (views.scalar_of t) x) (sym is) (scalar_suits nameless none_named kinds.int64 x e)
  said_suits pool numbers values.Uint32 t is x e = subst (λ t. Suits (views.scalar_of t) x) (sym is) (scalar_suits nameless none_named kinds.uint32 x e)
  said_suits pool numbers values.Uint64 t is x e = subst (λ t. Suits (views.scalar_of t) x) (sym is) (scalar_suits nameless none_named kinds.uint64 x e)
  said_suits pool numbers values.Sint32 t is x e = subst (λ t. Suits (views.scalar_of t) x) (sym is) (scalar_suits nameless none_named kinds.sint32 x e)
  said_suits pool numbers values.Sint64 t is x e = subst (λ t. Suits (views.scalar_of t) x) (sym is) (scalar_suits nameless none_named kinds.sint64 x e)
  said_suits pool numbers values.Fixed32 t is x e = subst (λ t. Suits (views.scalar_of t) x) (sym is) (scalar_suits nameless none_named kinds.fixed32 x e)
  said_suits pool numbers values.Fixed64 t is x e = subst (λ t. Suits (views.scalar_of t) x) (sym is) (scalar_suits nameless none_named kinds.fixed64 x e)
  said_suits pool numbers values.Sfixed32 t is x e = subst (λ t. Suits (views.scalar_of t) x) (sym is) (scalar_suits nameless none_named kinds.sfixed32 x e)
  said_suits pool numbers values.Sfixed64 t is x e = subst (λ t. Suits (views.scalar_of t) x) (sym is) (scalar_suits nameless none_named kinds.sfixed64 x e)
  said_suits pool numbers values.Bool t is x e = subst (λ t. Suits (views.scalar_of t) x) (sym is) (scalar_suits nameless none_named kinds.bool x e)
  said_suits pool numbers values.String t is x e = subst (λ t. Suits (views.scalar_of t) x) (sym is) (scalar_suits nameless none_named kinds.string x e)
  said_suits pool numbers values.Bytes t is x e = subst (λ t. Suits (views.scalar_of t) x) (sym is) (scalar_suits nameless none_named kinds.bytes x e)
  said_suits pool numbers (values.Enum d) t is x e =
      subst (λ t. Suits (views.scalar_of t) x) (sym is.1) (scalar_suits (number_named d) (named_fits d.pool.now d.index (subst HaveNumbers (sym is.0) numbers)) kinds.enumeration x e)
  said_suits pool numbers k t is x e = absurd (cc e)
