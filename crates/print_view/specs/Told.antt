-- Worked records, and what they are printed as under their numbers: on one line, or pretty where
-- the flag says so.
use Rattle.std.specs.Prelude.{ℕ, Bool, true, false, List, [], ◌∷◌, codes}
use Rattle.protox_lex.specs.Class.{Text}
use Rattle.reflect_wire.specs.Records.{Payload, varint, fixed64, delimited, group, fixed32, more_records, no_records}

abbrev pub told : List (Bool × (ℕ × Payload) × Text)
told =  -- numbers
    (false, (1, varint 150), codes "1:150")
    ∷ (true, (1, varint 150), codes "1: 150")
    ∷ (false, (5, fixed32 42), codes "5:0x0000002a")
    ∷ (false, (5, fixed64 42), codes "5:0x000000000000002a")
    -- bytes that spell a record
    ∷ (false, (3, delimited (16 ∷ 66 ∷ [])), codes "3{2:66}")
    ∷ (true, (3, delimited (16 ∷ 66 ∷ [])), codes "3 {\n  2: 66\n}")
    -- bytes that spell none: no record has the number 0
    ∷ (false, (4, delimited []), codes "4:\"\"")
    ∷ (false, (4, delimited (0 ∷ [])), codes "4:\"\\000\"")
    -- groups
    ∷ (false, (2, group no_records), codes "2{}")
    ∷ (
      true,
      (2, group (more_records 7 (varint 1) (more_records 8 (varint 2) no_records))),
      codes "2 {\n  7: 1\n  8: 2\n}",
    )
    ∷ (
      false,
      (2, group (more_records 7 (varint 1) (more_records 8 (varint 2) no_records))),
      codes "2{7:1,8:2}",
    )
    ∷ []
