-- A part of an option's name that leads to nothing does so for one reason, in types of one name of two pools that say the
-- same to texts.
use Rattle.std.proofs.Common.{◌≡◌, ◌⊎◌, inl, inr, Bool, true, false, map, None, Some, refl, sym, ◌∙◌, subst}
use Rattle.std.specs.Prelude.{MatchBool, string_bytes}
use Rattle.descriptor_records.specs.declared.options.NamePart.{NamePart}
use Rattle.option_parts.specs.declared.option_error.OptionErrorKind.{OptionErrorKind}
use Rattle.option_parts.specs.declared.option_error.OptionErrorKind.TheVariants as kinds
use Rattle.option_setter.specs.OptionNames.{FindsOwn, LacksExtension, LacksField, LacksTarget, MeansExtension, MeansNone}
use Rattle.option_setter.specs.declared.option_setter.NameScope.{NameScope}
use Rattle.protox_lex.specs.Class.{Text}
use Rattle.reflect_pool.specs.Dots.{without_dot}
use Rattle.reflect_pool.specs.FindsNames.{FindsExtension}
use Rattle.reflect_pool.specs.declared.extension.ExtensionDescriptor.{ExtensionDescriptor}
use Rattle.reflect_pool.specs.declared.message.MessageDescriptor.{MessageDescriptor}
use Rattle.reflect_tables.specs.Finding.{IsFirst}
use Rattle.reflect_tables.specs.Types.{ExtensionType, PoolType, no_extension}
use Rattle.stored_options.proofs.OneTarget.{NameAlike}
use Rattle.stored_options.proofs.TwinPools.{AreTwinPools, Outside, first_there, outside}
use Rattle.stored_options.specs.ToldAlike.{extends_another, not_found, sort_of}

-- the extension of a full name is found in both
extension_there : (p q : PoolType) → map outside p.extensions ≡ map outside q.extensions → (name : Text)
    → IsFirst (λ (x : ExtensionType). x.field.full_name ≡ name) p.extensions None → IsFirst (λ (x : ExtensionType). x.field.full_name ≡ name) q.extensions None
extension_there p q same name none = first_there outside (λ (x : Outside). x.full_name ≡ name) p.extensions q.extensions same None none

-- ---- why a name leads to no extension: it means none that the pool has, or one of another type

abbrev IsNowhere : NameScope → MessageDescriptor → Text → Type 0
IsNowhere s d name = MeansNone s name ⊎ ((full : Text) × MeansExtension s name full × FindsOwn d full None × FindsExtension s.pool.now full None)

abbrev IsElsewhere : NameScope → MessageDescriptor → Text → Type 0
IsElsewhere s d name = (full : Text) × (x : ExtensionDescriptor) × MeansExtension s name full × FindsOwn d full None × FindsExtension s.pool.now full (Some x)

by_sort : (s : NameScope) (d : MessageDescriptor) (name : Text) (k : OptionErrorKind) → LacksExtension s d name k
    → ((sort_of k ≡ not_found) × IsNowhere s d name) ⊎ ((sort_of k ≡ extends_another) × IsElsewhere s d name)
by_sort s d name (kinds.OptionNotFound n) lacks = inl (refl, lacks)
by_sort s d name (kinds.InvalidOptionExtendee n) lacks = inr (refl, lacks)
by_sort s d name k lacks = absurd lacks

field_sort : (d : MessageDescriptor) (name : Text) (k : OptionErrorKind) → LacksField d name k → sort_of k ≡ not_found
field_sort d name (kinds.OptionNotFound n) lacks = refl
field_sort d name k lacks = absurd lacks

-- it is not so in the one and so in the other
not_elsewhere : (s t : NameScope) → NameAlike s t → AreTwinPools s.pool.now t.pool.now → (d e : MessageDescriptor) (name : Text) → IsNowhere s d name → IsElsewhere t e name → ⊥
not_elsewhere s t alike twins d e name (inl none) (other, x, means, own, there) = alike.none name other none means
not_elsewhere s t alike twins d e name (inr (full, means, own, nowhere)) (other, x, means_too, own_too, there) =
    let same : full ≡ other = alike.one name full other means means_too in
    let none = subst (λ n. IsFirst (λ (y : ExtensionType). y.field.full_name ≡ without_dot n) t.pool.now.extensions None) same
    (extension_there s.pool.now t.pool.now twins.extensions (without_dot full) nowhere) in
    none x.index no_extension there.0 (there.1.0 no_extension)

module _ (s t : NameScope) (alike : NameAlike s t) (back : NameAlike t s) (twins : AreTwinPools s.pool.now t.pool.now) (again : AreTwinPools t.pool.now s.pool.now) (d e : MessageDescriptor) where
  one_extension : (name : Text) (k l : OptionErrorKind) → LacksExtension s d name k → LacksExtension t e name l → sort_of k ≡ sort_of l
  one_extension name k l lacks also = by (by_sort s d name k lacks) (by_sort t e name l also) where
    by : ((sort_of k ≡ not_found) × IsNowhere s d name) ⊎ ((sort_of k ≡ extends_another) × IsElsewhere s d name)
        → ((sort_of l ≡ not_found) × IsNowhere t e name) ⊎ ((sort_of l ≡ extends_another) × IsElsewhere t e name) → sort_of k ≡ sort_of l
    by (inl h) (inl j) = h.0 ∙ sym j.0
    by (inl h) (inr j) = absurd (not_elsewhere s t alike twins d e name h.1 j.1)
    by (inr h) (inl j) = absurd (not_elsewhere t s back again e d name j.1 h.1)
    by (inr h) (inr j) = h.0 ∙ sym j.0

  one_of_name : (b : Bool) (name : Text) (k l : OptionErrorKind) → MatchBool b (LacksExtension s d name k) (LacksField d name k)
      → MatchBool b (LacksExtension t e name l) (LacksField e name l) → sort_of k ≡ sort_of l
  one_of_name true name k l lacks also = one_extension name k l lacks also
  one_of_name false name k l lacks also = field_sort d name k lacks ∙ sym (field_sort e name l also)

  pub one_lack : (part : NamePart) (k l : OptionErrorKind) → LacksTarget s d part k → LacksTarget t e part l → sort_of k ≡ sort_of l
  one_lack part k l lacks also = one_of_name part.is_extension (string_bytes part.name_part) k l lacks also
