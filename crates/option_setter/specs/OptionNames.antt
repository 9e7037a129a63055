-- What a part of an option's name leads to in a message (protobuf.dev, "Language Guide (proto 2)",
-- Custom Options): a field by its name, or in parentheses an extension by what the name means where
-- the option stands.
use Rattle.std.specs.Prelude.{◌≡◌, ◌⊎◌, MatchBool, Option, None, Some, string_bytes}
use Rattle.descriptor_records.specs.declared.options.NamePart.{NamePart}
use Rattle.option_parts.specs.declared.option_error.OptionErrorKind.{OptionErrorKind}
use Rattle.option_parts.specs.declared.option_error.OptionErrorKind.TheVariants as kinds
use Rattle.protox_lex.specs.Class.{Text}
use Rattle.reflect_format.specs.declared.target.Target.{Target}
use Rattle.reflect_format.specs.declared.target.Target.TheVariants as targets
use Rattle.reflect_known.specs.KnownNames.{known_of_files}
use Rattle.reflect_pool.specs.Finds.{FindsAny, FindsField}
use Rattle.reflect_pool.specs.FindsNames.{FindsExtension}
use Rattle.reflect_pool.specs.declared.extension.ExtensionDescriptor.{ExtensionDescriptor}
use Rattle.reflect_pool.specs.declared.field.FieldDescriptor.{FieldDescriptor}
use Rattle.reflect_pool.specs.declared.message.MessageDescriptor.{MessageDescriptor}
use Rattle.reflect_scope.specs.Means.{Meaning, means}
use Rattle.reflect_scope.specs.Says.{NameMeans}
use Rattle.reflect_scope.specs.Seen.{tells}
use Rattle.reflect_scope.specs.declared.definition.Definition.{Definition}
use Rattle.reflect_scope.specs.declared.definition.ResolveNameFilter.TheVariants as filters
use Rattle.option_setter.specs.declared.option_setter.NameScope.{NameScope}

-- what is told, unless memory ran out
abbrev pub UnlessMemory : (OptionErrorKind → Type 0) → OptionErrorKind → Type 0
UnlessMemory P kinds.Memory = Unit {0}
UnlessMemory P e = P e

-- where the option stands, the name means this as that of an extension, by what the files of the
-- pool declare
abbrev pub MeansThere : NameScope → Text → Meaning → Type 0
MeansThere s name m = NameMeans (known_of_files s.pool.now.records) (tells s.seen.now)
    filters.Extension s.name.now name m

-- an extension of this full name
abbrev pub MeansExtension : NameScope → Text → Text → Type 0
MeansExtension s name full = (d : Definition) × MeansThere s name (means full d)

-- none at all
abbrev pub MeansNone : NameScope → Text → Type 0
MeansNone s name = (m : Meaning) × MeansThere s name m
    × ((full : Text) (d : Definition) → m ≡ means full d → ⊥)

-- of the type's fields this is the first of the name, or there is none
abbrev pub FindsCalled : MessageDescriptor → Text → Option FieldDescriptor → Type 0
FindsCalled d name f = FindsField (λ f. f.name ≡ name) d f

-- of the type's extensions this is the first of the full name, or there is none
abbrev pub FindsOwn : MessageDescriptor → Text → Option ExtensionDescriptor → Type 0
FindsOwn d full x =
    FindsAny (λ x. (x.extendee ≡ d.index) × (x.field.full_name ≡ full)) d.pool.now x

-- the field that a name leads to in a message of the type
abbrev pub NamesField : MessageDescriptor → Text → Target → Type 0
NamesField d name (targets.Field f) = (f.message ≡ d) × FindsCalled d name (Some f)
NamesField d name (targets.Extension x) = ⊥

-- the extension that a name in parentheses leads to
abbrev pub NamesExtension : NameScope → MessageDescriptor → Text → Target → Type 0
NamesExtension s d name (targets.Field f) = ⊥
NamesExtension s d name (targets.Extension x) = (x.pool.now ≡ d.pool.now)
    × (full : Text) × MeansExtension s name full × FindsOwn d full (Some x)

-- why a name leads to no field
abbrev pub LacksField : MessageDescriptor → Text → OptionErrorKind → Type 0
LacksField d name (kinds.OptionNotFound n) = FindsCalled d name None
LacksField d name _ = ⊥

-- and to no extension: it means none, or one of another type
abbrev pub LacksExtension : NameScope → MessageDescriptor → Text → OptionErrorKind → Type 0
LacksExtension s d name (kinds.OptionNotFound n) = MeansNone s name
    ⊎ ((full : Text) × MeansExtension s name full × FindsOwn d full None
    × FindsExtension s.pool.now full None)
LacksExtension s d name (kinds.InvalidOptionExtendee n) =
    (full : Text) × (x : ExtensionDescriptor) × MeansExtension s name full
    × FindsOwn d full None × FindsExtension s.pool.now full (Some x)
LacksExtension s d name _ = ⊥

-- what a part leads to
abbrev pub NamesTarget : NameScope → MessageDescriptor → NamePart → Target → Type 0
NamesTarget s d part t = MatchBool part.is_extension
    (NamesExtension s d (string_bytes part.name_part) t)
    (NamesField d (string_bytes part.name_part) t)

-- why it leads to nothing
abbrev pub LacksTarget : NameScope → MessageDescriptor → NamePart → OptionErrorKind → Type 0
LacksTarget s d part e = MatchBool part.is_extension
    (LacksExtension s d (string_bytes part.name_part) e)
    (LacksField d (string_bytes part.name_part) e)
