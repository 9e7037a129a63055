-- What single values are written as.
use Rattle.std.specs.Prelude.{ℕ, List, [], ◌++◌, Option, None, Some}
use Rattle.std.specs.List.{flat_map}
use Rattle.std.specs.Option.{option_and_then}
use Rattle.reflect_wire.specs.Encoding.{key_bytes}
use Rattle.reflect_wire.specs.Records.{Payload, key_of}
use Rattle.reflect_pool.specs.declared.kind.Kind.{Kind}
use Rattle.reflect_scalar.specs.Kinds.{wire_type}
use Rattle.reflect_scalar.specs.Singles.{Single}
use Rattle.reflect_scalar.specs.Written.{written, plain_bytes}

-- the payload of the value, where there is one that suits the kind
abbrev pub form : Kind → Option Single → Option Payload
form kind v = option_and_then (written kind) v

-- its bytes, none where it does not suit
abbrev pub bare_bytes : Kind → Option Single → List ℕ
bare_bytes kind v = elim (form kind v) [ None ↦ [] | Some p ↦ plain_bytes p ]

-- the bytes of its record, none where it does not suit
abbrev pub single_bytes : Kind → ℕ → Option Single → List ℕ
single_bytes kind n v = elim (form kind v)
    [ None ↦ [] | Some p ↦ key_bytes (key_of n (wire_type kind)) ++ plain_bytes p ]

-- the bytes of values, one behind the other
abbrev pub row_bytes : Kind → List (Option Single) → List ℕ
row_bytes kind vs = flat_map (bare_bytes kind) vs
