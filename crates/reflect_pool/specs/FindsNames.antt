-- What a lookup by a full name answers, which may have one leading dot: the type of this name, or
-- none where no type has it.
use Rattle.std.specs.Prelude.{◌≡◌, ℕ, List, Option, None, Some}
use Rattle.reflect_tables.specs.Finding.{IsFirst}
use Rattle.reflect_tables.specs.Types.{PoolType}
use Rattle.reflect_pool.specs.Dots.{without_dot}
use Rattle.reflect_pool.specs.declared.message.MessageDescriptor.{MessageDescriptor}
use Rattle.reflect_pool.specs.declared.enums.EnumDescriptor.{EnumDescriptor}
use Rattle.reflect_pool.specs.declared.extension.ExtensionDescriptor.{ExtensionDescriptor}

abbrev pub FindsMessage : PoolType → List ℕ → Option MessageDescriptor → Type 0
FindsMessage p name None = IsFirst (λ m. m.full_name ≡ without_dot name) p.messages None
FindsMessage p name (Some d) =
    IsFirst (λ m. m.full_name ≡ without_dot name) p.messages (Some d.index)

abbrev pub FindsEnum : PoolType → List ℕ → Option EnumDescriptor → Type 0
FindsEnum p name None = IsFirst (λ e. e.full_name ≡ without_dot name) p.enums None
FindsEnum p name (Some d) = IsFirst (λ e. e.full_name ≡ without_dot name) p.enums (Some d.index)

abbrev pub FindsExtension : PoolType → List ℕ → Option ExtensionDescriptor → Type 0
FindsExtension p name None = IsFirst (λ x. x.field.full_name ≡ without_dot name) p.extensions None
FindsExtension p name (Some d) =
    IsFirst (λ x. x.field.full_name ≡ without_dot name) p.extensions (Some d.index)
