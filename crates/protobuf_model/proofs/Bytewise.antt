-- The laws of records as laws of bytes.
use Rattle.std.proofs.Common.{◌≡◌, ◌↔◌, ℕ, zero, suc, ◌<◌, ◌≤◌, ◌^◌, List, [], ◌∷◌, ◌++◌, length, refl, sym, ap, ◌∙◌, subst, arith}
use Rattle.std.specs.List.{AllByRecursion}
use Rattle.reflect_wire.specs.Records.{Payload, Records, no_records, more_records, SpellsRecords}
use Rattle.reflect_wire.specs.Views.{records_of}
use Rattle.reflect_wire.proofs.Spelling.{one_list, records_spelled}
use Rattle.reflect_wire.proofs.Whole.{join, spells_join, spells_rest}
use Rattle.protobuf_model.specs.Values.{Message, nothing}
use Rattle.protobuf_model.specs.Types.{Name, Types}
use Rattle.protobuf_model.specs.Reader.{inside_of, list_of}
use Rattle.protobuf_model.specs.Meaning.{meaning}
use Rattle.protobuf_model.specs.Accepts.{IsFramed, AcceptsRecord, Accepts}
use Rattle.protobuf_model.specs.Typed.{HaveDefaults, IsTyped}
use Rattle.protobuf_model.specs.Bytes.{written, bytes_of}
use Rattle.protobuf_model.specs.Coded.{AreRead, IsAccepted, AreMerged, Mean, SuitsType}
use Rattle.protobuf_model.proofs.Pieces.{meaning_in_pieces}
use Rattle.protobuf_model.proofs.Arranged.{all_append}
use Rattle.protobuf_model.proofs.Reading.{listed_back, records_back}
use Rattle.protobuf_model.proofs.RoundTrip.{accepted_fits, round_trip}
use Rattle.protobuf_model.proofs.Merging.{merged_typed}

join_lists : (rs ts : List (ℕ × Payload)) → records_of (rs ++ ts) ≡ join (records_of rs) (records_of ts)
join_lists [] ts = refl
join_lists (r ∷ rs) ts = ap (more_records r.0 r.1) (join_lists rs ts)

listed_join : (rs us : Records) → list_of (join rs us) ≡ list_of rs ++ list_of us
listed_join no_records us = refl
listed_join (more_records n p rs) us = ap (λ ts. (n, p) ∷ ts) (listed_join rs us)

second_all : {X : Type 0} (P : X → Type 0) (a b : List X) → AllByRecursion P (a ++ b) → AllByRecursion P b
second_all P [] b h = h
second_all P (x ∷ a) b h = second_all P a b h.1

accepts_join : (levels : ℕ) (types : Types) (i : Name) (a b : List (ℕ × Payload)) → Accepts levels types i a → Accepts levels types i b → Accepts levels types i (a ++ b)
accepts_join zero types i a b h k = all_append (AcceptsRecord (λ frame j p. ⊥) zero (types i)) a b h k
accepts_join (suc levels) types i a b h k = all_append (AcceptsRecord (λ frame j p. IsFramed levels frame p × Accepts levels types j (inside_of p)) (suc levels) (types i)) a b h k

accepts_second : (levels : ℕ) (types : Types) (i : Name) (a b : List (ℕ × Payload)) → Accepts levels types i (a ++ b) → Accepts levels types i b
accepts_second zero types i a b h = second_all (AcceptsRecord (λ frame j p. ⊥) zero (types i)) a b h
accepts_second (suc levels) types i a b h = second_all (AcceptsRecord (λ frame j p. IsFramed levels frame p × Accepts levels types j (inside_of p)) (suc levels) (types i)) a b h

read_both : (types : Types) (i : Name) (a b : List ℕ) (rs ts : List (ℕ × Payload)) → AreRead types i a rs → AreRead types i b ts → AreRead types i (a ++ b) (rs ++ ts)
read_both types i a b rs ts h k = record {
  spelled = subst (SpellsRecords 100 (a ++ b)) (sym (join_lists rs ts)) (spells_join 100 a b (records_of rs) (records_of ts) h.spelled k.spelled);
  accepted = accepts_join 100 types i rs ts h.accepted k.accepted;
}

read_second : (types : Types) (i : Name) (a b : List ℕ) (rs ts : List (ℕ × Payload)) → AreRead types i a rs → AreRead types i (a ++ b) ts → IsAccepted types i b
read_second types i a b rs ts h k =
    let rest = spells_rest 100 a b (a ++ b) (records_of rs) (records_of ts) h.spelled k.spelled refl in
    let split : ts ≡ rs ++ list_of rest.0 = sym (listed_back ts) ∙ ap list_of rest.2 ∙ listed_join (records_of rs) rest.0 ∙ ap (λ xs. xs ++ list_of rest.0) (listed_back rs) in (
      list_of rest.0,
      record {
        spelled = subst (SpellsRecords 100 b) (sym (records_back rest.0)) rest.1;
        accepted = accepts_second 100 types i rs (list_of rest.0) (subst (Accepts 100 types i) split k.accepted);
      },
    )

pub accepted_in_pieces : (types : Types) (i : Name) (a b : List ℕ) → IsAccepted types i a → IsAccepted types i (a ++ b) ↔ IsAccepted types i b
accepted_in_pieces types i a b h = ((λ k. read_second types i a b h.0 k.0 h.1 k.1), (λ k. (h.0 ++ k.0, read_both types i a b h.0 k.0 h.1 k.1)))

pub merged_in_pieces : (types : Types) (i : Name) (a b : List ℕ) (start m n : Message) → AreMerged types i start a m → AreMerged types i m b n → AreMerged types i start (a ++ b) n
merged_in_pieces types i a b start m n h k =
    (h.0 ++ k.0, read_both types i a b h.0 k.0 h.1 k.1, sym ((meaning_in_pieces 100 types).pieces i start h.0 k.0) ∙ ap (λ s. meaning 100 types i s k.0) h.2 ∙ k.2)

pub one_reading : (types : Types) (i : Name) (bytes : List ℕ) (rs ts : List (ℕ × Payload)) → AreRead types i bytes rs → AreRead types i bytes ts → rs ≡ ts
one_reading types i bytes rs ts h k = sym (listed_back rs) ∙ ap list_of (one_list 100 bytes (records_of rs) (records_of ts) h.spelled k.spelled) ∙ listed_back ts

pub one_meaning : (types : Types) (i : Name) (start : Message) (bytes : List ℕ) (m n : Message) → AreMerged types i start bytes m → AreMerged types i start bytes n → m ≡ n
one_meaning types i start bytes m n h k = sym h.2 ∙ ap (meaning 100 types i start) (one_reading types i bytes h.0 k.0 h.1 k.1) ∙ k.2

pub bytes_mean : (types : Types) (i : Name) (m : Message) → SuitsType types i m → length (bytes_of types i m) < 2 ^ 64 → Mean types i (bytes_of types i m) m
bytes_mean types i m t z =
    let r = round_trip 100 types i m t z in
    (written types i m, record { spelled = records_spelled 100 (records_of (written types i m)) (accepted_fits 100 types i (written types i m) r.accepted); accepted = r.accepted }, r.means)

pub one_form : (types : Types) (i : Name) (m n : Message) → SuitsType types i m → SuitsType types i n → length (bytes_of types i m) < 2 ^ 64 → length (bytes_of types i n) < 2 ^ 64 → (bytes_of types i m ≡ bytes_of types i n) ↔ (m ≡ n)
one_form types i m n s t y z = (
  (λ e. one_meaning types i nothing (bytes_of types i m) m n (bytes_mean types i m s y) (subst (λ b. Mean types i b n) (sym e) (bytes_mean types i n t z))),
  (λ e. ap (bytes_of types i) e),
)

pub merged_deep : (types : Types) → HaveDefaults types → (i : Name) (start m : Message) (bytes : List ℕ) (levels : ℕ) → 100 ≤ levels → IsTyped levels types i start → AreMerged types i start bytes m → IsTyped levels types i m
merged_deep types d i start m bytes levels le t h = subst (IsTyped levels types i) h.2 (merged_typed 100 levels le types d i start h.0 t h.1.accepted)

pub merged_well : (types : Types) → HaveDefaults types → (i : Name) (start m : Message) (bytes : List ℕ) → SuitsType types i start → AreMerged types i start bytes m → SuitsType types i m
merged_well types d i start m bytes = merged_deep types d i start m bytes 100 (omega arith)
