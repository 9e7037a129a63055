-- Pools whose names are as sources give them.
use Rattle.std.specs.Prelude.{◌≡◌, ◌<◌, ℕ, List, length, false, Option, None, Some}
use Rattle.reflect_scope.specs.Means.{join, has_dot}
use Rattle.reflect_tables.specs.Types.{PoolType, MessageType, type_at}
use Rattle.reflect_link.specs.FileTypes.{file_type_at}
use Rattle.text_view.specs.SourceNames.{HasSourceNames}

-- the full name of what stands in this message or, where there is none, in this file's package
abbrev pub scope_in : PoolType → Option ℕ → ℕ → List ℕ
scope_in pool None file = (file_type_at pool file).package_name
scope_in pool (Some i) file = (type_at pool i).full_name

-- that of what a message type is declared in
abbrev pub scope_of : PoolType → MessageType → List ℕ
scope_of pool t = scope_in pool t.parent t.file

-- its full name is its own behind that, and its own has no dot
pub record IsScoped (pool : PoolType) (t : MessageType) : Type 0 where
  pub full : t.full_name ≡ join (scope_of pool t) t.name
  pub own : has_dot t.name ≡ false

-- so it is of all message types, so that none stands in a field by its name: what a group's field
-- means by the name of its type is the type that its own message declares
pub record IsSourcePool (pool : PoolType) : Type 0 where
  pub scoped : (i : ℕ) → i < length pool.messages → IsScoped pool (type_at pool i)
  pub names : HasSourceNames pool
