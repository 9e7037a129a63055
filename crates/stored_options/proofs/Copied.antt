-- Options that a set gives, and those that a source gives, are such that linking reads of them what
-- their stored bytes say.
use Rattle.std.proofs.Common.{◌≡◌, ◌∙◌, inl, inr, Bool, true, false, List, [], ◌∷◌, Option, None, Some, refl, sym, ap, subst, arith}
use Rattle.std.specs.Prelude.{codes}
use Rattle.descriptor_records.specs.Content.{OptionContent, OptionsContent}
use Rattle.option_parts.specs.TypedOptions.{typed_alias, typed_packed, written_or, written_truth}
use Rattle.option_parts.specs.declared.option_scope.OptionScope.{OptionScope}
use Rattle.option_parts.specs.declared.option_scope.OptionScope.TheVariants as scopes
use Rattle.plain_records.specs.Kinds.{kind_of}
use Rattle.plain_records.specs.SaidOptions.{SaysItsBytes}
use Rattle.plain_records.specs.SourceOptions.{AreAsRead, AreAsWritten, as_read, as_written, of_entries}
use Rattle.reflect_codec.specs.Meaning.{is_enum, is_field, is_message}
use Rattle.reflect_codec.specs.Reading.{IsBool, IsLastIf, number, values_at}
use Rattle.reflect_wire.specs.Records.{more_records, no_records, varint}
use Rattle.stored_options.specs.CopiedOptions.{AreCopied, ReadsItsBytes}

-- ---- of a set
pub set_reads : (scope : OptionScope) (o : OptionsContent) → SaysItsBytes scope o → ReadsItsBytes scope o
set_reads scope o says = record {
  fields = says.fields;
  spelled = says.spelled;
  packed = subst (IsLastIf (is_field (kind_of scope)) IsBool (values_at 2 says.fields)) (ap (λ (c : OptionsContent). c.packed) says.is) says.said.packed;
  allow_alias = subst (IsLastIf (is_enum (kind_of scope)) IsBool (values_at 2 says.fields)) (ap (λ (c : OptionsContent). c.allow_alias) says.is) says.said.allow_alias;
  map_entry = subst (IsLastIf (is_message (kind_of scope)) IsBool (values_at 7 says.fields)) (ap (λ (c : OptionsContent). c.map_entry) says.is) says.said.map_entry;
}

-- ---- of a source
nothing_read : (b : Bool) → IsLastIf b IsBool [] None
nothing_read true = ([], tt, refl)
nothing_read false = refl

-- nothing is stored of what it wrote
written_reads : (scope : OptionScope) (os : List OptionContent) → ReadsItsBytes scope (as_written os)
written_reads scope os = record {
  fields = [];
  spelled = (no_records, refl, refl);
  packed = nothing_read (is_field (kind_of scope));
  allow_alias = nothing_read (is_enum (kind_of scope));
  map_entry = nothing_read (is_message (kind_of scope));
}

-- 56 is the key of a number in the field 7, and 1 is true
entries_read : ReadsItsBytes scopes.Message of_entries
entries_read = record {
  fields = (7, number 1) ∷ [];
  spelled = (
    more_records 7 (varint 1) no_records,
    (
      56 ∷ [],
      1 ∷ [],
      [],
      record { some = omega arith; small = omega arith; spelled = record { short = omega arith; fits = omega arith; spelled = inl (omega arith, refl, refl) } },
      record { short = omega arith; fits = omega arith; spelled = inl (omega arith, refl, refl) },
      refl,
      refl,
    ),
    refl,
  );
  packed = refl;
  allow_alias = refl;
  map_entry = (true ∷ [], ((1, refl, refl), tt), refl);
}

pub source_reads : (scope : OptionScope) (o : OptionsContent) → AreAsWritten scope o → ReadsItsBytes scope o
source_reads scope o (inl is) = subst (ReadsItsBytes scope) (sym is) (written_reads scope o.uninterpreted_option)
source_reads scope o (inr (message, is)) = subst (λ c. ReadsItsBytes c o) (sym message) (subst (ReadsItsBytes scopes.Message) (sym is) entries_read)

or_nothing : (said : Option Bool) → written_or said None ≡ said
or_nothing None = refl
or_nothing (Some b) = refl

-- what linking reads of it stands where it is copied to
read_over : (scope : OptionScope) (os : List OptionContent) → as_read scope os ≡ elim scope [ scopes.Field ↦ typed_packed (as_written os) | scopes.Enum ↦ typed_alias (as_written os) | _ ↦ as_written os ]
read_over scopes.Field os = let said = sym (or_nothing (written_truth (codes "packed") os)) in λ i. record (as_written os) { packed = said i }
read_over scopes.Enum os = let said = sym (or_nothing (written_truth (codes "allow_alias") os)) in λ i. record (as_written os) { allow_alias = said i }
read_over scope os = refl

pub read_copied : (scope : OptionScope) (o : OptionsContent) → AreAsRead scope o → AreCopied scope o
read_copied scope o (inl is) = (as_written o.uninterpreted_option, written_reads scope o.uninterpreted_option, is ∙ read_over scope o.uninterpreted_option)
read_copied scope o (inr (message, is)) = subst (λ c. AreCopied c o) (sym message) (of_entries, entries_read, is)
