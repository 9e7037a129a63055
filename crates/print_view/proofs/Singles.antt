-- The text of single values.
use Rattle.std.proofs.Common.{◌≡◌, ℕ, ℤ, pos, negsuc, suc, true, false, ◌∷◌, Option, Some, None, option_map, codes, decimal, refl, sym, ap, ◌∙◌, append-nil, arith}
use Rattle.std.specs.Fmt.{signed_decimal}
use Rattle.std.specs.Ordering.{int_eq}
use Rattle.protox_lex.specs.Class.{Text}
use Rattle.reflect_tables.specs.Finding.{IsFirst}
use Rattle.reflect_tables.specs.Types.{PoolType, KindType, ValueType, enum_at}
use Rattle.reflect_tables.specs.Types as types
use Rattle.reflect_pool.specs.Parts.{no_value, type_of_value}
use Rattle.reflect_scalar.specs.Singles as held
use Rattle.reflect_scalar.proofs.First.{Tells, find_none, find_some}
use Rattle.reflect_print.specs.MessageTexts.{IsSingleText}
use Rattle.reflect_print.specs.Named.{IsEnumText, named, value_name}
use Rattle.protobuf_model.specs.Values.{enumerated}
use Rattle.text_model.specs.Printed as model
use Rattle.text_model.specs.Printed.{printed_single, whole}
use Rattle.text_model.specs.Rendered.{run}
use Rattle.text_model.specs.Tokens.{scalar_tokens}
use Rattle.text_lines.specs.Pieces.{quoted}
use Rattle.message_view.specs.Singles.{single_view}
use Rattle.text_view.specs.Names.{name_in}

numbered : (z : ℤ) → Tells (λ (v : ValueType). v.number ≡ z) (λ v. int_eq v.number z)
numbered z = record { says = λ v e. grind (arith, e); passes = λ v e. grind (arith, e) }

whole_said : (z : ℤ) → signed_decimal z ≡ run (scalar_tokens (whole z))
whole_said (pos n) = sym (append-nil (decimal n))
whole_said (negsuc n) = ap (λ l. 45 ∷ l) (sym (append-nil (decimal (suc n))))

module _ (pool : PoolType) where
  abbrev enum_text : Option Text → ℤ → Text
  enum_text o z = run (scalar_tokens (elim o [ None ↦ whole z | Some w ↦ model.named w ]))

  name_said : (i : ℕ) (z : ℤ) (found : Option ℕ) → IsFirst (λ (v : ValueType). v.number ≡ z) (enum_at pool i).values found → value_name pool i z found ≡ enum_text (name_in pool (types.enumeration i) z) z
  name_said i z None h =
      whole_said z ∙ sym (ap (λ o. enum_text (option_map (λ (v : ValueType). v.name) o) z) (find_none (λ (v : ValueType). v.number ≡ z) (λ v. int_eq v.number z) (numbered z) (enum_at pool i).values h))
  name_said i z (Some k) h =
      sym (append-nil (type_of_value pool i k).name)
      ∙ sym (ap (λ o. enum_text (option_map (λ (v : ValueType). v.name) o) z) (find_some (λ (v : ValueType). v.number ≡ z) (λ v. int_eq v.number z) (numbered z) (enum_at pool i).values no_value k h))

  enum_said : (t : KindType) (z : ℤ) (text : Text) → IsEnumText (named pool t) z text → text ≡ run (scalar_tokens (printed_single (name_in pool t) (enumerated z)))
  enum_said (types.enumeration i) z text (found, first, is) = is ∙ name_said i z found first
  enum_said (types.message i) z text is = is ∙ whole_said z
  enum_said t z text is = is ∙ whole_said z

  pub single_said : (t : KindType) (s : held.Single) (z : Text) → IsSingleText (named pool t) s z → z ≡ run (scalar_tokens (printed_single (name_in pool t) (single_view s)))
  single_said t (held.truth true) z h = h ∙ sym (append-nil (codes "true"))
  single_said t (held.truth false) z h = h ∙ sym (append-nil (codes "false"))
  single_said t (held.int32 n) z h = h ∙ whole_said n
  single_said t (held.int64 n) z h = h ∙ whole_said n
  single_said t (held.uint32 n) z h = h ∙ sym (append-nil (decimal n))
  single_said t (held.uint64 n) z h = h ∙ sym (append-nil (decimal n))
  single_said t (held.text s) z h = h ∙ sym (append-nil (quoted s))
  single_said t (held.blob s) z h = h ∙ sym (append-nil (quoted s))
  single_said t (held.enumerated n) z h = enum_said t n z h

  -- a key, which is no value of an enum
  pub key_said : (t : KindType) (s : held.Single) (z : Text) → ((n : ℤ) → s ≡ held.enumerated n → ⊥) → IsSingleText None s z → z ≡ run (scalar_tokens (printed_single (name_in pool t) (single_view s)))
  key_said t (held.enumerated n) z none h = absurd (none n refl)
  key_said t (held.truth true) z none h = h ∙ sym (append-nil (codes "true"))
  key_said t (held.truth false) z none h = h ∙ sym (append-nil (codes "false"))
  key_said t (held.int32 n) z none h = h ∙ whole_said n
  key_said t (held.int64 n) z none h = h ∙ whole_said n
  key_said t (held.uint32 n) z none h = h ∙ sym (append-nil (decimal n))
  key_said t (held.uint64 n) z none h = h ∙ sym (append-nil (decimal n))
  key_said t (held.text s) z none h = h ∙ sym (append-nil (quoted s))
  key_said t (held.blob s) z none h = h ∙ sym (append-nil (quoted s))
