-- Options that a source writes are left to settle, those of the entries of maps say what their bytes
-- do, and there are no others.
use Rattle.std.proofs.Common.{map, ℕ, ◌<◌, true, List, [], ◌∷◌, Some, None, refl, arith, inl, inr}
use Rattle.std.specs.declared.alloc.Global.{Global}
use Rattle.std.specs.declared.vec.Vec.{Vec}
use denote.RawPtr.{null_ptr}
use Rattle.descriptor_records.specs.Content.{OptionContent, OptionsContent}
use Rattle.descriptor_records.specs.declared.options.Options.{Options}
use Rattle.descriptor_records.specs.declared.options.UninterpretedOption.{UninterpretedOption}
use Rattle.plain_records.specs.Kinds.{kind_of}
use Rattle.plain_records.specs.PlainRecords.{ArePlainOptions}
use Rattle.plain_records.specs.SaidOptions.{SaysItsBytes, SaysOrWaits}
use Rattle.plain_records.specs.SourceOptions.{AreOfSource}
use Rattle.protox_declaration_records.specs.OptionRecords.{option_of, options_of}
use Rattle.protox_field_records.specs.MapEntries.{entry_options}
use Rattle.reflect_codec.specs.Meaning.{IsOptions}
use Rattle.reflect_codec.specs.Reading.{Field, SpellsFields, number, payload}
use Rattle.option_parts.specs.declared.option_scope.OptionScope.{OptionScope}
use Rattle.option_parts.specs.declared.option_scope.OptionScope.TheVariants as scopes
use Rattle.reflect_wire.specs.Records.{more_records, no_records, varint}
use Rattle.reflect_wire.specs.Varint.{IsVarint}
use Rattle.protox_tree.specs.declared.option.OptionBody.{OptionBody}
use Rattle.source_laws.proofs.Lists.{all_mapped}
use Rattle.source_laws.proofs.SmallNumbers.{IsSmall, option_small}
use Rattle.std.specs.List.{AllByRecursion}

-- what is said of the options in the record of a source
abbrev pub SourceSays : OptionScope → OptionsContent → Type 0
SourceSays scope o = SaysOrWaits scope o × AreOfSource scope o

-- ---- options that a source writes

pub written_plain : (scope : OptionScope) (levels : ℕ) → 0 < levels → (os : List OptionContent)
    → AllByRecursion IsSmall os → ArePlainOptions SourceSays scope levels (options_of os)
written_plain scope levels lt [] small = tt
written_plain scope levels lt (o ∷ os) small = (lt, (inr (λ e. cc e), (inl refl, small)))

-- in brackets
pub listed_plain : (scope : OptionScope) (levels : ℕ) → 0 < levels → (bs : List OptionBody)
    → ArePlainOptions SourceSays scope levels (options_of (map option_of bs))
listed_plain scope levels lt bs =
    written_plain scope levels lt (map option_of bs) (all_mapped IsSmall option_of option_small bs)

-- ---- options of the types of entries

-- 56 is the key of a number in field 7, and 1 is true
flag_fields : List Field
flag_fields = (7, number 1) ∷ []

one_byte : (n : ℕ) → n < 128 → IsVarint (n ∷ []) n
one_byte n lt = record {
  short = omega arith;
  fits = omega arith;
  spelled = inl (lt, refl, refl);
}

flag_spelled : SpellsFields 100 (56 ∷ 1 ∷ []) flag_fields
unfolding flag_fields
flag_spelled = (
  more_records 7 (varint 1) no_records,
  (
    56 ∷ [],
    1 ∷ [],
    [],
    record { some = omega arith; small = omega arith; spelled = one_byte 56 (omega arith) },
    one_byte 1 (omega arith),
    refl,
    refl,
  ),
  refl,
)

module _ (memory : Global) where
  -- the two bytes, and an empty list, somewhere in memory

  abbrev flag_bytes : Vec ℕ Global
  flag_bytes = record {
    items = 56 ∷ 1 ∷ [];
    ptr = null_ptr;
    len = 2;
    cap = 2;
    alloc = memory;
    ok = (refl, omega arith);
    small = omega arith;
  }

  abbrev none_left : Vec UninterpretedOption Global
  none_left = record {
    items = [];
    ptr = null_ptr;
    len = 0;
    cap = 0;
    alloc = memory;
    ok = (refl, omega arith);
    small = omega arith;
  }

  abbrev flagged : Options
  flagged = record {
    encoded = flag_bytes;
    packed = None;
    allow_alias = None;
    map_entry = Some true;
    uninterpreted_option = none_left;
  }

  flag_said : IsOptions (kind_of scopes.Message) (payload (56 ∷ 1 ∷ []) ∷ []) flag_fields flagged
  unfolding flag_fields
  flag_said = record {
    encoded = ((56 ∷ 1 ∷ []) ∷ [], (refl, tt), refl);
    packed = refl;
    allow_alias = refl;
    map_entry = (true ∷ [], ((1, refl, refl), tt), refl);
    uninterpreted_option = tt;
  }

  entry_says : SaysItsBytes scopes.Message entry_options
  entry_says = record {
    options = flagged;
    is = refl;
    fields = flag_fields;
    spelled = flag_spelled;
    said = flag_said;
  }

  pub entry_plain : (levels : ℕ) → 0 < levels
      → ArePlainOptions SourceSays scopes.Message levels (Some entry_options)
  entry_plain levels lt = (lt, (inl entry_says, (inr (refl, refl), tt)))
