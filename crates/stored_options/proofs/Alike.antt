-- Options of which linking reads what their bytes say are one where the bytes are.
use Rattle.std.proofs.Common.{◌≡◌, ◌==◌, ℕ, not, Bool, true, false, List, Option, sym, ap, ◌∙◌, subst}
use Rattle.descriptor_records.specs.Content.{OptionsContent}
use Rattle.reflect_codec.specs.Meaning.{is_enum, is_field, is_message}
use Rattle.reflect_codec.specs.Reading.{IsBool, IsLast, IsLastIf, SpellsFields, Value, eight_bytes, last, number, other, payload, values_at}
use Rattle.option_parts.specs.declared.option_scope.OptionScope.{OptionScope}
use Rattle.plain_records.specs.Kinds.{kind_of}
use Rattle.reflect_codec.proofs.Parts.{one_each, one_fields}
use Rattle.stored_options.specs.CopiedOptions.{ReadsItsBytes}

pub one_truth : (v : Value) (a b : Bool) → IsBool v a → IsBool v b → a ≡ b
one_truth (number n) a b h k = h.2 ∙ ap (λ n. not (n == 0)) (h.1 ∙ sym k.1) ∙ sym k.2
one_truth (eight_bytes n) a b h k = absurd h.1
one_truth (payload p) a b h k = absurd h.1
one_truth other a b h k = absurd h.1

one_last : (vs : List Value) (o p : Option Bool) → IsLast IsBool vs o → IsLast IsBool vs p → o ≡ p
one_last vs o p h k = h.2 ∙ ap last (one_each IsBool one_truth vs h.0 k.0 h.1 k.1) ∙ sym k.2

one_if : (b : Bool) (vs : List Value) (o p : Option Bool) → IsLastIf b IsBool vs o → IsLastIf b IsBool vs p → o ≡ p
one_if true vs o p h k = one_last vs o p h k
one_if false vs o p h k = h ∙ sym k

module _ (scope : OptionScope) (a b : OptionsContent) (reads : ReadsItsBytes scope a) (also : ReadsItsBytes scope b) (same : a.encoded ≡ b.encoded) where
  one_reading : reads.fields ≡ also.fields
  one_reading = one_fields 100 b.encoded reads.fields also.fields (subst (λ bytes. SpellsFields 100 bytes reads.fields) same reads.spelled) also.spelled

  -- what the fields under a number say, if it is read, is one
  one_said : (read : Bool) (n : ℕ) (o p : Option Bool) → IsLastIf read IsBool (values_at n reads.fields) o → IsLastIf read IsBool (values_at n also.fields) p → o ≡ p
  one_said read n o p h k = one_if read (values_at n also.fields) o p (subst (λ fs. IsLastIf read IsBool (values_at n fs) o) one_reading h) k

  packed : a.packed ≡ b.packed
  packed = one_said (is_field (kind_of scope)) 2 a.packed b.packed reads.packed also.packed

  allow_alias : a.allow_alias ≡ b.allow_alias
  allow_alias = one_said (is_enum (kind_of scope)) 2 a.allow_alias b.allow_alias reads.allow_alias also.allow_alias

  map_entry : a.map_entry ≡ b.map_entry
  map_entry = one_said (is_message (kind_of scope)) 7 a.map_entry b.map_entry reads.map_entry also.map_entry

  pub one_record : a.uninterpreted_option ≡ b.uninterpreted_option → a ≡ b
  one_record left = λ i. record { encoded = same i; packed = packed i; allow_alias = allow_alias i; map_entry = map_entry i; uninterpreted_option = left i }
