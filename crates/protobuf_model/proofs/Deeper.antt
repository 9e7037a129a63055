-- What records of some levels spell, and how they fit a type, holds where more levels are allowed.
use Rattle.std.proofs.Common.{ℕ, ◌≤◌, ◌-◌, List, Option, Some, None, arith}
use Rattle.std.specs.List.{AllByRecursion}
use Rattle.reflect_wire.specs.Records.{Payload, varint, fixed64, delimited, group, fixed32, Records, no_records, more_records, SpellsPayload, SpellsRecords}
use Rattle.reflect_wire.specs.Views.{records_of}
use Rattle.reflect_wire.specs.Written.{FitsPayload, FitsRecords}
use Rattle.protobuf_model.specs.Types.{Kind, scalar, nested, Part, Key, Label, one, many, keyed, Field}
use Rattle.protobuf_model.specs.Reader.{inside}
use Rattle.protobuf_model.specs.Accepts.{Acceptable, HasLevel, AcceptsEntry, AcceptsField, AcceptsIn, AcceptsRecord}
use Rattle.protobuf_model.proofs.Lists.{all_map}

mutual
  payload_deeper : (low high : ℕ) → low ≤ high → (n : ℕ) (bytes : List ℕ) (p : Payload) → SpellsPayload low n bytes p → SpellsPayload high n bytes p
  payload_deeper low high le n bytes (varint v) h = h
  payload_deeper low high le n bytes (fixed64 v) h = h
  payload_deeper low high le n bytes (delimited p) h = h
  payload_deeper low high le n bytes (group rs) h =
      (omega (arith, le, h.0), (h.1.0, h.1.1, spelled_deeper (low - 1) (high - 1) (omega (arith, le)) h.1.0 rs h.1.2, h.1.3, h.1.4))
  payload_deeper low high le n bytes (fixed32 v) h = h

  spelled_deeper : (low high : ℕ) → low ≤ high → (bytes : List ℕ) (rs : Records) → SpellsRecords low bytes rs → SpellsRecords high bytes rs
  spelled_deeper low high le bytes no_records h = h
  spelled_deeper low high le bytes (more_records n p rs) h =
      (h.0, h.1, h.2, h.3, payload_deeper low high le n h.1 p h.4, spelled_deeper low high le h.2 rs h.5, h.6)

mutual
  fit_deeper : (low high : ℕ) → low ≤ high → (p : Payload) → FitsPayload low p → FitsPayload high p
  fit_deeper low high le (varint v) h = h
  fit_deeper low high le (fixed64 v) h = h
  fit_deeper low high le (delimited p) h = h
  fit_deeper low high le (group rs) h = (omega (arith, le, h.0), fits_deeper (low - 1) (high - 1) (omega (arith, le)) rs h.1)
  fit_deeper low high le (fixed32 v) h = h

  fits_deeper : (low high : ℕ) → low ≤ high → (rs : Records) → FitsRecords low rs → FitsRecords high rs
  fits_deeper low high le no_records h = tt
  fits_deeper low high le (more_records n p rs) h = (h.0, h.1, fit_deeper low high le p h.2, fits_deeper low high le rs h.3)

module _ (accept : Acceptable) (low high : ℕ) (le : low ≤ high) where
  level_deeper : (k : Kind) → HasLevel low k → HasLevel high k
  level_deeper (scalar k) h = tt
  level_deeper (nested frame u) h = omega (arith, le, h)

  entry_deeper : (key : Key) (part : Part) (p : Payload) → AcceptsEntry accept low key part p → AcceptsEntry accept high key part p
  entry_deeper key part (delimited body) h = (level_deeper part.kind h.0, spelled_deeper low high le body (records_of (inside body)) h.1, h.2)
  entry_deeper key part p h = absurd h

  field_deeper : (part : Part) (label : Label) (p : Payload) → AcceptsField accept low part label p → AcceptsField accept high part label p
  field_deeper part one p h = h
  field_deeper part (many packed) p h = h
  field_deeper part (keyed key) p h = entry_deeper key part p h

  in_deeper : (o : Option Field) (p : Payload) → AcceptsIn accept low o p → AcceptsIn accept high o p
  in_deeper None p h = tt
  in_deeper (Some f) p h = field_deeper f.part f.label p h

  -- records that a type accepts
  pub accepted_deeper : (type : ℕ → Option Field) (rs : List (ℕ × Payload)) → AllByRecursion (AcceptsRecord accept low type) rs → AllByRecursion (AcceptsRecord accept high type) rs
  accepted_deeper type rs h =
      all_map (AcceptsRecord accept low type) (AcceptsRecord accept high type) rs
      (λ r a. record { some = a.some; small = a.small; fits = fit_deeper low high le r.1 a.fits; suits = in_deeper (type r.0) r.1 a.suits }) h
