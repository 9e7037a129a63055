-- What the iterators over the types and extensions of a file or a message, over a file's services
-- and over the files that it imports, have left: each by its pool and its place there.
use Rattle.std.specs.Prelude.{ℕ, List}
use Rattle.reflect_tables.specs.Types.{PoolType}
use Rattle.reflect_pool.specs.PlacesLeft.{places_in}
use Rattle.reflect_link.specs.declared.file.Files.{Files}
use Rattle.reflect_link.specs.declared.lists.Messages.{Messages}
use Rattle.reflect_link.specs.declared.lists.Enums.{Enums}
use Rattle.reflect_link.specs.declared.lists.Extensions.{Extensions}
use Rattle.reflect_link.specs.declared.service.Services.{Services}

abbrev pub messages_left : Messages → List (PoolType × ℕ)
messages_left s = places_in s.pool.now s.places.now

abbrev pub enums_left : Enums → List (PoolType × ℕ)
enums_left s = places_in s.pool.now s.places.now

abbrev pub extensions_left : Extensions → List (PoolType × ℕ)
extensions_left s = places_in s.pool.now s.places.now

abbrev pub services_left : Services → List (PoolType × ℕ)
services_left s = places_in s.pool.now s.places.now

abbrev pub files_left : Files → List (PoolType × ℕ)
files_left s = places_in s.pool.now s.places.now
