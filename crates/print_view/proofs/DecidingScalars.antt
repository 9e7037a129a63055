-- Whether a value, a payload and a record are what a kind, and what numbers ask for.
use Rattle.std.proofs.Common.{inl, ℕ, ◌-◌, ◌^◌, List, length, IsUtf8}
use Rattle.std.proofs.lemmas.Str.{IsUtf8-from_is_utf8, is_utf8-from_IsUtf8}
use Rattle.std.specs.Str.{is_utf8}
use lib.Signed.{mag}
use mir.Val.{hbits}
use Rattle.reflect_wire.specs.Records.{Payload, varint, fixed64, delimited, group, fixed32, Records, no_records, more_records}
use Rattle.reflect_wire.specs.Written.{FitsPayload, FitsRecords}
use Rattle.protobuf_model.specs.Types as kinds
use Rattle.print_view.proofs.Deciding.{Decided, both_or_not, all_four_or_not, as_or_not, less_or_not, true_or_not}

pub utf8_or_not : (t : List ℕ) → Decided (IsUtf8 t)
utf8_or_not t = as_or_not (IsUtf8-from_is_utf8 t) (is_utf8-from_IsUtf8 t) (true_or_not (is_utf8 t))

mutual
  pub fits_or_not : (levels : ℕ) (p : Payload) → Decided (FitsPayload levels p)
  fits_or_not levels (varint v) = less_or_not v (2 ^ 64)
  fits_or_not levels (fixed64 v) = less_or_not v (2 ^ 64)
  fits_or_not levels (delimited p) = less_or_not (length p) (2 ^ 64)
  fits_or_not levels (group rs) = both_or_not (less_or_not 0 levels) (all_fit_or_not (levels - 1) rs)
  fits_or_not levels (fixed32 v) = less_or_not v (2 ^ 32)

  all_fit_or_not : (levels : ℕ) (rs : Records) → Decided (FitsRecords levels rs)
  all_fit_or_not levels no_records = inl tt
  all_fit_or_not levels (more_records n p rs) = all_four_or_not (less_or_not 0 n) (less_or_not n (2 ^ 29)) (fits_or_not levels p) (all_fit_or_not levels rs)
