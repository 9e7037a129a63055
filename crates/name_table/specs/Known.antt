-- A table as a finite map: what each name stands for.
use Rattle.std.specs.Prelude.{ℕ, List, Bool, cond, Option, Some, None}
use Rattle.std.specs.Map.{update}
use Rattle.std.specs.Str.{bytes_eq}
use Rattle.name_table.specs.Slots.{in_both}
use Rattle.name_table.specs.declared.table.NameTable.{NameTable}

-- what a name stands for in a table
unfoldable pub known_in : {V : Type 0} → NameTable V → List ℕ → Option V
known_in table t = in_both table.slots table.crowded t

-- the first value of a name stays
abbrev pub first_stays : {V : Type 0} → (List ℕ → Option V) → List ℕ → V → List ℕ → Option V
first_stays known name v = elim (known name)
    [ None ↦ update bytes_eq known name (Some v) | Some e ↦ known ]

-- the value, if the test keeps it
abbrev pub kept : {V : Type 0} → (V → Bool) → Option V → Option V
kept test None = None
kept test (Some v) = cond (test v) (Some v) None
