-- Where the faults of files stand that are refused for how they link.
use Rattle.std.specs.Prelude.{◌≡◌, ℕ, ℤ, List, IfSome}
use Rattle.descriptor_records.specs.declared.file.FileDescriptorProto.{FileDescriptorProto}
use Rattle.reflect_faults.specs.Faults.{Fault, batch_places, place_of_fault}

-- Of files, the first of which has this index: the fault stands, if anywhere, at a path of one of
-- them, under its name, and there where the first of its locations for that path says, if it has
-- one. It is not yet told in which bytes.
abbrev pub StandsIn : List FileDescriptorProto → ℕ → Fault → Type 0
StandsIn files first x = IfSome (place_of_fault x) (λ q. (i : ℕ) × (path : List ℤ)
    × (q ≡ batch_places files first i path))
