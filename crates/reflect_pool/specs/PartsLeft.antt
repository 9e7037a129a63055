-- What the iterators over oneofs, over their members and over values have left: each by its type
-- and its place there.
use Rattle.std.specs.Prelude.{ℕ, List, length}
use Rattle.reflect_tables.specs.Types.{type_at, enum_at}
use Rattle.reflect_pool.specs.PlacesLeft.{places_from, places_in}
use Rattle.reflect_pool.specs.declared.enums.EnumDescriptor.{EnumDescriptor}
use Rattle.reflect_pool.specs.declared.enums.EnumValueDescriptor.{EnumValueDescriptor}
use Rattle.reflect_pool.specs.declared.enums.EnumValues.{EnumValues}
use Rattle.reflect_pool.specs.declared.message.MessageDescriptor.{MessageDescriptor}
use Rattle.reflect_pool.specs.declared.oneof.OneofDescriptor.{OneofDescriptor}
use Rattle.reflect_pool.specs.declared.oneof.OneofFields.{OneofFields}
use Rattle.reflect_pool.specs.declared.oneof.Oneofs.{Oneofs}

abbrev pub oneof_place : OneofDescriptor → MessageDescriptor × ℕ
oneof_place o = (o.message, o.index)

abbrev pub oneofs_left : Oneofs → List (MessageDescriptor × ℕ)
oneofs_left s =
    places_from s.message s.next (length (type_at s.message.pool.now s.message.index).oneofs)

abbrev pub members_left : OneofFields → List (MessageDescriptor × ℕ)
members_left s = places_in s.message s.places.now

abbrev pub value_place : EnumValueDescriptor → EnumDescriptor × ℕ
value_place v = (v.enumeration, v.index)

abbrev pub values_left : EnumValues → List (EnumDescriptor × ℕ)
values_left s = places_from s.enumeration s.next
    (length (enum_at s.enumeration.pool.now s.enumeration.index).values)
