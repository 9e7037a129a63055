-- What a lookup of a file by its name, or of a service by its full name, answers: the one of this
-- name, or none where none has it.
use Rattle.std.specs.Prelude.{◌≡◌, ℕ, List, Option, None, Some}
use Rattle.reflect_tables.specs.Finding.{IsFirst}
use Rattle.reflect_tables.specs.Types.{PoolType}
use Rattle.reflect_pool.specs.Dots.{without_dot}
use Rattle.reflect_link.specs.declared.file.FileDescriptor.{FileDescriptor}
use Rattle.reflect_link.specs.declared.service.ServiceDescriptor.{ServiceDescriptor}

abbrev pub FindsFile : PoolType → List ℕ → Option FileDescriptor → Type 0
FindsFile p name None = IsFirst (λ f. f.name ≡ name) p.files None
FindsFile p name (Some d) = IsFirst (λ f. f.name ≡ name) p.files (Some d.index)

-- a full name may have one leading dot
abbrev pub FindsService : PoolType → List ℕ → Option ServiceDescriptor → Type 0
FindsService p name None = IsFirst (λ s. s.full_name ≡ without_dot name) p.services None
FindsService p name (Some d) =
    IsFirst (λ s. s.full_name ≡ without_dot name) p.services (Some d.index)
