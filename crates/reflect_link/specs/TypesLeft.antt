-- What the iterators over a pool's types, extensions and services have left: each by its pool and
-- its place there.
use Rattle.std.specs.Prelude.{ℕ, List, length}
use Rattle.reflect_tables.specs.Types.{PoolType}
use Rattle.reflect_pool.specs.PlacesLeft.{places_from}
use Rattle.reflect_pool.specs.declared.message.MessageDescriptor.{MessageDescriptor}
use Rattle.reflect_pool.specs.declared.enums.EnumDescriptor.{EnumDescriptor}
use Rattle.reflect_link.specs.declared.service.ServiceDescriptor.{ServiceDescriptor}
use Rattle.reflect_link.specs.declared.pool_readers.AllMessages.{AllMessages}
use Rattle.reflect_link.specs.declared.pool_readers.AllEnums.{AllEnums}
use Rattle.reflect_link.specs.declared.pool_readers.AllExtensions.{AllExtensions}
use Rattle.reflect_link.specs.declared.pool_readers.AllServices.{AllServices}

abbrev pub message_place : MessageDescriptor → PoolType × ℕ
message_place m = (m.pool.now, m.index)

abbrev pub messages_left : AllMessages → List (PoolType × ℕ)
messages_left s = places_from s.pool.now s.next (length s.pool.now.messages)

abbrev pub enum_place : EnumDescriptor → PoolType × ℕ
enum_place e = (e.pool.now, e.index)

abbrev pub enums_left : AllEnums → List (PoolType × ℕ)
enums_left s = places_from s.pool.now s.next (length s.pool.now.enums)

abbrev pub extensions_left : AllExtensions → List (PoolType × ℕ)
extensions_left s = places_from s.pool.now s.next (length s.pool.now.extensions)

abbrev pub service_place : ServiceDescriptor → PoolType × ℕ
service_place s = (s.pool.now, s.index)

abbrev pub services_left : AllServices → List (PoolType × ℕ)
services_left s = places_from s.pool.now s.next (length s.pool.now.services)
