-- Single values by their cases: what stands there, if it is of the case.
use Rattle.std.specs.Prelude.{ℕ, ℤ, Bool, List, Option, Some, None}
use Rattle.reflect_scalar.specs.Singles.{Single, truth, int32, int64, uint32, uint64, text, blob, enumerated}

abbrev pub truth_of : Single → Option Bool
truth_of (truth b) = Some b
truth_of _ = None

abbrev pub int32_of : Single → Option ℤ
int32_of (int32 z) = Some z
int32_of _ = None

abbrev pub int64_of : Single → Option ℤ
int64_of (int64 z) = Some z
int64_of _ = None

abbrev pub uint32_of : Single → Option ℕ
uint32_of (uint32 n) = Some n
uint32_of _ = None

abbrev pub uint64_of : Single → Option ℕ
uint64_of (uint64 n) = Some n
uint64_of _ = None

abbrev pub text_of : Single → Option (List ℕ)
text_of (text t) = Some t
text_of _ = None

abbrev pub blob_of : Single → Option (List ℕ)
blob_of (blob b) = Some b
blob_of _ = None

abbrev pub number_of : Single → Option ℤ
number_of (enumerated z) = Some z
number_of _ = None
