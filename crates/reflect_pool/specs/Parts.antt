-- The parts of types at their places.
use Rattle.std.specs.Prelude.{ℕ, pos, false, List, [], filter, slice_index_or}
use Rattle.reflect_tables.specs.Types.{PoolType, FieldType, OneofType, ValueType, type_at, enum_at, is_member, no_oneof, MethodType, service_at}

-- what stands for a value that is not there
abbrev pub no_value : ValueType
no_value = record {
  path = [];
  name = [];
  full_name = [];
  number = pos 0;
}

-- the oneof at a place of a type
abbrev pub type_of_oneof : PoolType → ℕ → ℕ → OneofType
type_of_oneof pool i k = slice_index_or (type_at pool i).oneofs k no_oneof

-- the members of the oneof at a place of a type: the fields that name it, as they were declared
abbrev pub members_of : PoolType → ℕ → ℕ → List FieldType
members_of pool i k = filter (is_member k) (type_at pool i).fields

-- the value at a place of an enum
abbrev pub type_of_value : PoolType → ℕ → ℕ → ValueType
type_of_value pool i k = slice_index_or (enum_at pool i).values k no_value

-- what stands for a method that is not there
abbrev pub no_method : MethodType
no_method = record {
  path = [];
  name = [];
  full_name = [];
  input = 0;
  output = 0;
  client_streaming = false;
  server_streaming = false;
}

-- the method at a place of a service
abbrev pub type_of_method : PoolType → ℕ → ℕ → MethodType
type_of_method pool i k = slice_index_or (service_at pool i).methods k no_method
