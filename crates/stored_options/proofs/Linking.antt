-- Of options linking reads afterwards what it read before they were settled.
use Rattle.std.proofs.Common.{◌≡◌, ◌≢◌, ℕ, ℤ, zero, suc, ◌&&◌, ◌||◌, not, Bool, true, false, cond, List, [], ◌∷◌, map, Option, None, refl, sym, ap, ◌∙◌, subst, arith}
use Rattle.std.proofs.lemmas.Bool.{and_parts}
use Rattle.std.specs.List.{All}
use Rattle.std.specs.Prelude.{codes}
use Rattle.std.specs.Str.{bytes_eq}
use Rattle.descriptor_records.specs.Content.{NameContent, OptionsContent, option_view, options_view}
use Rattle.descriptor_records.specs.declared.options.Options.{Options}
use Rattle.descriptor_records.specs.declared.options.UninterpretedOption.{UninterpretedOption}
use Rattle.message_view.specs.Sound.{IsSound}
use Rattle.message_view.proofs.Written.{or_true}
use Rattle.option_parts.specs.OptionTypes.{CanRead, HasField, IsOptionType, IsTruthValue}
use Rattle.option_parts.specs.TypedOptions.{is_named, is_plain, truth_of, written_or, written_truth}
use Rattle.option_parts.specs.declared.option_scope.OptionScope.{OptionScope}
use Rattle.option_parts.specs.declared.option_scope.OptionScope.TheVariants as scopes
use Rattle.option_setter.specs.declared.option_setter.NameScope.{NameScope}
use Rattle.plain_records.specs.SourceOptions.{AreAsRead}
use Rattle.reflect_codec.specs.Reading.{Field, IsBool, IsLast, SpellsFields, values_at}
use Rattle.reflect_decode.specs.Spelled.{IsSpelled}
use Rattle.reflect_message.specs.Held.{UpdatesField}
use Rattle.reflect_message.specs.Names.{DynamicMessage}
use Rattle.reflect_options.specs.Settled.{IsType, Settles, is_forbidden, truth_in, truth_said}
use Rattle.text_view.specs.SourceNames.{HaveOwnNames}
use Rattle.settled_records.proofs.Kept.{type_kept}
use Rattle.settled_records.proofs.Stored.{list_unset}
use Rattle.stored_options.proofs.OwnTruth.{all_tell, said_at, truth_at}
use Rattle.stored_options.proofs.Copied.{read_copied}
use Rattle.stored_options.proofs.Scoped.{option_type, type_sound}
use Rattle.stored_options.proofs.StoredTruths.{stored_at}
use Rattle.stored_options.specs.CopiedOptions.{AreCopied}

-- ---- what no source may set

forbidden_so : (parts : List NameContent) → is_plain (codes "map_entry") parts ≡ true → is_forbidden scopes.Message parts ≡ true
forbidden_so [] e = absurd (cc e)
forbidden_so (part ∷ []) e =
    let two = and_parts (not part.is_extension) (bytes_eq part.name_part (codes "map_entry")) e in
    ap (λ b. b && (bytes_eq part.name_part (codes "uninterpreted_option") || bytes_eq part.name_part (codes "map_entry"))) two.0
    ∙ ap (λ b. bytes_eq part.name_part (codes "uninterpreted_option") || b) two.1 ∙ or_true (bytes_eq part.name_part (codes "uninterpreted_option"))
forbidden_so (part ∷ next ∷ parts) e = absurd (cc e)

none_written : (os : List UninterpretedOption) → All (λ x. is_forbidden scopes.Message (option_view x).name ≡ true → ⊥) os
    → written_truth (codes "map_entry") (map option_view os) ≡ None
none_written [] h = refl
none_written (o ∷ os) h = by (none_written os (λ k d lt. h (suc k) d (omega (arith, lt)))) (is_named (codes "map_entry") (option_view o)) refl where
  by : written_truth (codes "map_entry") (map option_view os) ≡ None → (b : Bool) → is_named (codes "map_entry") (option_view o) ≡ b
      → written_truth (codes "map_entry") (map option_view (o ∷ os)) ≡ None
  by rest true e = absurd (h zero o (omega arith) (forbidden_so (option_view o).name e))
  by rest false e = ap (λ b. cond b (truth_of (option_view o).identifier_value) (written_truth (codes "map_entry") (map option_view os))) e ∙ rest

-- ---- the truth value that is read

module _ (scope : OptionScope) (s : NameScope) (o settled : Options) (paths : List (List ℤ)) (sound : IsSound s.pool.now)
    (names : HaveOwnNames s.pool.now) (can : CanRead s.pool.now scope) (is : Settles scope s o (options_view settled) paths) where
  abbrev stored : DynamicMessage
  stored = is.1.3.0

  abbrev set : DynamicMessage
  set = is.1.3.1

  abbrev whole : DynamicMessage
  whole = is.1.2

  type : IsType scope s stored.descriptor
  type = subst (IsType scope s) (sym is.1.3.2.0) is.1.1

  spelled : IsSpelled stored.descriptor o.encoded.items stored
  spelled = subst (λ d. IsSpelled d o.encoded.items stored) (sym is.1.3.2.0) is.1.3.2.1

  its_sound : IsSound stored.descriptor.pool.now
  its_sound = type_sound scope s stored.descriptor type sound

  option : IsOptionType stored.descriptor.pool.now scope stored.descriptor.index
  option = option_type scope s stored.descriptor type can

  set_type : set.descriptor ≡ stored.descriptor
  set_type = type_kept s o.uninterpreted_option.items stored set paths is.1.3.3

  unset : UpdatesField set whole 999 None
  unset = list_unset stored.descriptor 999 option.uninterpreted.0 option.uninterpreted.1 option.uninterpreted.2 set whole set_type is.1.3.4

  module _ (n : ℕ) (name : List ℕ) (has : HasField stored.descriptor.pool.now stored.descriptor.index n (IsTruthValue name)) (other : n ≢ 999) where
    -- it is the one that is set
    whole_says : truth_said n whole ≡ truth_at n set
    whole_says = said_at stored.descriptor its_sound n name has.0 has.1 has.2 whole (unset.same_type ∙ set_type) ∙ ap truth_in (unset.field.others n other)

    -- it is what is written, else what the stored bytes say
    written_said : (fs : List Field) → SpellsFields 100 o.encoded.items fs → (b : Option Bool) → IsLast IsBool (values_at n fs) b
        → truth_said n whole ≡ written_or (written_truth name (map option_view o.uninterpreted_option.items)) b
    written_said fs reads b read =
        whole_says
        ∙ (all_tell stored.descriptor its_sound n name has.0 has.1 has.2 (subst HaveOwnNames (sym type.0) names) s o.uninterpreted_option.items stored set paths is.1.3.3 refl is.1.3.2.3).0
        ∙ ap (written_or (written_truth name (map option_view o.uninterpreted_option.items))) (stored_at stored its_sound o.encoded.items spelled n name has fs reads b read)

-- what linking reads of them is what is read of the bytes, over which stands what is written
pub copied_as_before : (scope : OptionScope) (s : NameScope) (o settled : Options) (paths : List (List ℤ)) → IsSound s.pool.now
    → HaveOwnNames s.pool.now → CanRead s.pool.now scope
    → AreCopied scope (options_view o) → Settles scope s o (options_view settled) paths → (settled.packed ≡ o.packed) × (settled.allow_alias ≡ o.allow_alias) × (settled.map_entry ≡ o.map_entry)
copied_as_before scopes.Field s o settled paths sound names can (before, reads, same) is = (
  ap (λ (c : OptionsContent). c.packed) is.1.4.0
      ∙ written_said scopes.Field s o settled paths sound names can is 2 (codes "packed") (option scopes.Field s o settled paths sound names can is).typed (λ e. omega (arith, e))
      reads.fields (subst (λ bytes. SpellsFields 100 bytes reads.fields) (sym (ap (λ (c : OptionsContent). c.encoded) same)) reads.spelled) before.packed reads.packed
      ∙ ap (λ os. written_or (written_truth (codes "packed") os) before.packed) (ap (λ (c : OptionsContent). c.uninterpreted_option) same)
      ∙ sym (ap (λ (c : OptionsContent). c.packed) same),
  ap (λ (c : OptionsContent). c.allow_alias) is.1.4.0 ∙ sym (ap (λ (c : OptionsContent). c.allow_alias) same ∙ reads.allow_alias),
  ap (λ (c : OptionsContent). c.map_entry) is.1.4.0 ∙ sym (ap (λ (c : OptionsContent). c.map_entry) same ∙ reads.map_entry),
)
copied_as_before scopes.Enum s o settled paths sound names can (before, reads, same) is = (
  ap (λ (c : OptionsContent). c.packed) is.1.4.0 ∙ sym (ap (λ (c : OptionsContent). c.packed) same ∙ reads.packed),
  ap (λ (c : OptionsContent). c.allow_alias) is.1.4.0
      ∙ written_said scopes.Enum s o settled paths sound names can is 2 (codes "allow_alias") (option scopes.Enum s o settled paths sound names can is).typed (λ e. omega (arith, e))
      reads.fields (subst (λ bytes. SpellsFields 100 bytes reads.fields) (sym (ap (λ (c : OptionsContent). c.encoded) same)) reads.spelled) before.allow_alias reads.allow_alias
      ∙ ap (λ os. written_or (written_truth (codes "allow_alias") os) before.allow_alias) (ap (λ (c : OptionsContent). c.uninterpreted_option) same)
      ∙ sym (ap (λ (c : OptionsContent). c.allow_alias) same),
  ap (λ (c : OptionsContent). c.map_entry) is.1.4.0 ∙ sym (ap (λ (c : OptionsContent). c.map_entry) same ∙ reads.map_entry),
)
copied_as_before scopes.Message s o settled paths sound names can (before, reads, same) is = (
  ap (λ (c : OptionsContent). c.packed) is.1.4.0 ∙ sym (ap (λ (c : OptionsContent). c.packed) same ∙ reads.packed),
  ap (λ (c : OptionsContent). c.allow_alias) is.1.4.0 ∙ sym (ap (λ (c : OptionsContent). c.allow_alias) same ∙ reads.allow_alias),
  ap (λ (c : OptionsContent). c.map_entry) is.1.4.0
      ∙ written_said scopes.Message s o settled paths sound names can is 7 (codes "map_entry") (option scopes.Message s o settled paths sound names can is).typed (λ e. omega (arith, e))
      reads.fields (subst (λ bytes. SpellsFields 100 bytes reads.fields) (sym (ap (λ (c : OptionsContent). c.encoded) same)) reads.spelled) before.map_entry reads.map_entry
      ∙ ap (λ t. written_or t before.map_entry) (none_written o.uninterpreted_option.items is.0)
      ∙ sym (ap (λ (c : OptionsContent). c.map_entry) same),
)
copied_as_before scope s o settled paths sound names can (before, reads, same) is = (
  ap (λ (c : OptionsContent). c.packed) is.1.4.0 ∙ sym (ap (λ (c : OptionsContent). c.packed) same ∙ reads.packed),
  ap (λ (c : OptionsContent). c.allow_alias) is.1.4.0 ∙ sym (ap (λ (c : OptionsContent). c.allow_alias) same ∙ reads.allow_alias),
  ap (λ (c : OptionsContent). c.map_entry) is.1.4.0 ∙ sym (ap (λ (c : OptionsContent). c.map_entry) same ∙ reads.map_entry),
)

-- so it is of options of sources
pub said_as_before : (scope : OptionScope) (s : NameScope) (o settled : Options) (paths : List (List ℤ)) → IsSound s.pool.now
    → HaveOwnNames s.pool.now → CanRead s.pool.now scope
    → AreAsRead scope (options_view o) → Settles scope s o (options_view settled) paths → (settled.packed ≡ o.packed) × (settled.allow_alias ≡ o.allow_alias) × (settled.map_entry ≡ o.map_entry)
said_as_before scope s o settled paths sound names can given is = copied_as_before scope s o settled paths sound names can (read_copied scope (options_view o) given) is
