-- Records that are written part by part, each of one number with its payloads.
use Rattle.std.proofs.Common.{◌≡◌, ℕ, ◌<◌, ◌^◌, ◌==◌, Bool, true, false, cond, List, [], ◌∷◌, ◌++◌, map, length, refl, sym, ap, ◌∙◌, subst, append_assoc, length-append, arith}
use Rattle.std.specs.List.{AllByRecursion, concat, filter}
use Rattle.reflect_wire.specs.Encoding.{field_bytes, records_bytes}
use Rattle.reflect_wire.specs.Records.{Payload}
use Rattle.reflect_wire.specs.Views.{records_of}
use Rattle.reflect_wire.specs.Written.{FitsPayload, FitsRecords}
use Rattle.reflect_wire.proofs.Spelling.{records_spelled}
use Rattle.reflect_wire.specs.Records.{SpellsRecords}
use Rattle.reflect_codec.specs.Reading.{Field, SpellsFields, fields_in, value_of, values_at}

abbrev pub row_bytes : ℕ → List Payload → List ℕ
row_bytes n [] = []
row_bytes n (p ∷ ps) = field_bytes (n, p) ++ row_bytes n ps

-- the bytes are those of the payloads under the number
pub record IsRow (n : ℕ) (bytes : List ℕ) (payloads : List Payload) : Type 0 where
  pub some : 0 < n
  pub small : n < 2 ^ 29
  pub same : bytes ≡ row_bytes n payloads
  pub fits : (levels : ℕ) → length bytes < 2 ^ 64 → AllByRecursion (FitsPayload levels) payloads

-- what is written of a field, and the payloads that this spells
pub record Part : Type 0 where
  pub number : ℕ
  pub bytes : List ℕ
  pub payloads : List Payload
  pub is_row : IsRow number bytes payloads

abbrev row : ℕ → List Payload → List (ℕ × Payload)
row n ps = map (λ p. (n, p)) ps

abbrev pub rows : List Part → List (ℕ × Payload)
rows [] = []
rows (p ∷ ps) = row p.number p.payloads ++ rows ps

abbrev pub written : List Part → List ℕ
written ps = concat (map (λ (p : Part). p.bytes) ps)

abbrev pub fields : List Part → List Field
fields ps = fields_in (records_of (rows ps))

row_written : (n : ℕ) (ps : List Payload) (more : List (ℕ × Payload)) → records_bytes (records_of (row n ps ++ more)) ≡ row_bytes n ps ++ records_bytes (records_of more)
row_written n [] more = refl
row_written n (p ∷ ps) more = ap (λ bs. field_bytes (n, p) ++ bs) (row_written n ps more) ∙ sym (append_assoc (field_bytes (n, p)) (row_bytes n ps) (records_bytes (records_of more)))

all_written : (ps : List Part) → records_bytes (records_of (rows ps)) ≡ written ps
all_written [] = refl
all_written (p ∷ ps) =
    row_written p.number p.payloads (rows ps) ∙ ap (λ bs. bs ++ records_bytes (records_of (rows ps))) (sym p.is_row.same) ∙ ap (λ bs. p.bytes ++ bs) (all_written ps)

row_fits : (levels n : ℕ) (ps : List Payload) (more : List (ℕ × Payload)) → 0 < n → n < 2 ^ 29 → AllByRecursion (FitsPayload levels) ps → FitsRecords levels (records_of more) → FitsRecords levels (records_of (row n ps ++ more))
row_fits levels n [] more some small h k = k
row_fits levels n (p ∷ ps) more some small h k = (some, small, h.0, row_fits levels n ps more some small h.1 k)

all_fit : (levels : ℕ) (ps : List Part) → length (written ps) < 2 ^ 64 → FitsRecords levels (records_of (rows ps))
all_fit levels [] short = tt
all_fit levels (p ∷ ps) short =
    let long = length-append p.bytes (written ps) in
    row_fits levels p.number p.payloads (rows ps) p.is_row.some p.is_row.small (p.is_row.fits levels (omega (arith, short, long))) (all_fit levels ps (omega (arith, short, long)))

-- the parts spell their fields
pub spelled : (levels : ℕ) (ps : List Part) → length (written ps) < 2 ^ 64 → SpellsFields levels (written ps) (fields ps)
spelled levels ps short = (
  records_of (rows ps),
  subst (λ bs. SpellsRecords levels bs (records_of (rows ps))) (all_written ps) (records_spelled levels (records_of (rows ps)) (all_fit levels ps short)),
  refl,
)

-- the payloads of a number
abbrev pub at : ℕ → List Part → List Payload
at n [] = []
at n (p ∷ ps) = cond (p.number == n) p.payloads [] ++ at n ps

map_append : {X Y : Type 0} (f : X → Y) (xs ys : List X) → map f (xs ++ ys) ≡ map f xs ++ map f ys
map_append f [] ys = refl
map_append f (x ∷ xs) ys = ap (λ zs. f x ∷ zs) (map_append f xs ys)

row_values : (n m : ℕ) (b : Bool) → (m == n) ≡ b → (ps : List Payload) (more : List (ℕ × Payload))
    → values_at n (fields_in (records_of (row m ps ++ more))) ≡ map value_of (cond b ps []) ++ values_at n (fields_in (records_of more))
row_values n m true e [] more = refl
row_values n m false e [] more = refl
row_values n m true e (p ∷ ps) more =
    ap (λ b. map (λ (f : Field). f.1) (cond b ((m, value_of p) ∷ filter (λ (f : Field). f.0 == n) (fields_in (records_of (row m ps ++ more)))) (filter (λ (f : Field). f.0 == n) (fields_in (records_of (row m ps ++ more)))))) e
    ∙ ap (λ vs. value_of p ∷ vs) (row_values n m true e ps more)
row_values n m false e (p ∷ ps) more =
    ap (λ b. map (λ (f : Field). f.1) (cond b ((m, value_of p) ∷ filter (λ (f : Field). f.0 == n) (fields_in (records_of (row m ps ++ more)))) (filter (λ (f : Field). f.0 == n) (fields_in (records_of (row m ps ++ more)))))) e
    ∙ row_values n m false e ps more

-- what the fields have under a number
pub values : (n : ℕ) (ps : List Part) → values_at n (fields ps) ≡ map value_of (at n ps)
values n [] = refl
values n (p ∷ ps) =
    row_values n p.number (p.number == n) refl p.payloads (rows ps) ∙ ap (λ vs. map value_of (cond (p.number == n) p.payloads []) ++ vs) (values n ps)
    ∙ sym (map_append value_of (cond (p.number == n) p.payloads []) (at n ps))
