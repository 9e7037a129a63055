-- The truth value that stored bytes leave under a number is the last that is read of them.
use Rattle.std.proofs.Common.{◌≡◌, ◌∙◌, ◌&&◌, not, Bool, true, false, cond, inl, inr, ℕ, ◌==◌, List, [], ◌∷◌, ◌++◌, map, Option, None, Some, refl, sym, ap, subst}
use Rattle.std.specs.List.{AllZip, filter}
use Rattle.std.specs.Option.{option_and_then}
use Rattle.message_view.specs.Sound.{IsSound}
use Rattle.message_view.proofs.Fields.{known}
use Rattle.option_parts.specs.OptionTypes.{HasField, IsTruthValue}
use Rattle.reflect_codec.specs.Reading.{Field, IsBool, IsLast, SpellsFields, fields_in, last, value_of, values_at}
use Rattle.reflect_codec.proofs.Parts.{one_fields}
use Rattle.reflect_decode.specs.Fields.{LeavesField}
use Rattle.reflect_decode.specs.Keeps.{payloads}
use Rattle.reflect_decode.specs.Levels.{TakesAt}
use Rattle.reflect_decode.specs.Scalars.{HoldsLast, LeavesAs}
use Rattle.reflect_decode.specs.Spelled.{IsSpelled}
use Rattle.reflect_decode.specs.Taking.{Leaves}
use Rattle.reflect_entries.specs.Entries.{value_at}
use Rattle.reflect_entries.specs.Members.{first_number}
use Rattle.reflect_message.specs.Declares.{Owns}
use Rattle.reflect_message.specs.Held.{fields_of}
use Rattle.reflect_message.specs.KindTypes.{IsScalarType}
use Rattle.reflect_message.specs.Names.{DynamicMessage, Value}
use Rattle.reflect_message.specs.Oneofs.{IsSibling}
use Rattle.reflect_options.specs.Settled.{truth_in, truth_said}
use Rattle.reflect_pool.specs.FieldsLeft.{field_type}
use Rattle.reflect_pool.specs.Kinds.{IsKind}
use Rattle.reflect_pool.specs.Parts.{members_of}
use Rattle.reflect_pool.specs.Shapes.{holds_list, holds_map, is_repeated}
use Rattle.reflect_pool.specs.declared.field.FieldDescriptor.{FieldDescriptor}
use Rattle.reflect_pool.specs.declared.kind.Kind.{Kind}
use Rattle.reflect_pool.specs.declared.kind.Kind.TheVariants as values
use Rattle.reflect_scalar.specs.Cases as cases
use Rattle.reflect_scalar.specs.FieldTypes.{field_pool}
use Rattle.reflect_scalar.specs.Meaning.{StandsFor}
use Rattle.reflect_scalar.specs.Singles.{Single}
use Rattle.reflect_tables.specs.Types.{FieldType, PoolType}
use Rattle.reflect_tables.specs.Types as types
use Rattle.reflect_wire.specs.Records.{Payload, varint}
use Rattle.reflect_wire.specs.Views.{records_of}
use Rattle.settled_records.proofs.Fields.{field_known, holds_one, truth_whole}
use Rattle.stored_options.proofs.Alike.{one_truth}
use Rattle.stored_options.proofs.OwnTruth.{said_at, truth_at}

-- ---- payloads, and what is read of them

-- what is read under a number is read of its payloads
read_under : (n : ℕ) (rs : List (ℕ × Payload)) → values_at n (fields_in (records_of rs)) ≡ map value_of (payloads n rs)
read_under n [] = refl
read_under n (r ∷ rs) = by (r.0 == n) (read_under n rs) where
  by : (b : Bool) → values_at n (fields_in (records_of rs)) ≡ map value_of (payloads n rs)
      → map (λ (f : Field). f.1) (cond b ((r.0, value_of r.1) ∷ filter (λ (f : Field). f.0 == n) (fields_in (records_of rs))) (filter (λ (f : Field). f.0 == n) (fields_in (records_of rs))))
      ≡ map value_of (map (λ (r : ℕ × Payload). r.1) (cond b (r ∷ filter (λ (r : ℕ × Payload). r.0 == n) rs) (filter (λ (r : ℕ × Payload). r.0 == n) rs)))
  by true e = ap (λ vs. value_of r.1 ∷ vs) e
  by false e = e

none_last : (bs : List Bool) → AllZip IsBool [] bs → last bs ≡ None
none_last [] all = refl
none_last (b ∷ bs) all = absurd all

-- where each is a truth value, the last is what the last payload says
last_truth : (lead : List Payload) (p : Payload) (b : Bool) → IsBool (value_of p) b → (bs : List Bool) → AllZip IsBool (map value_of (lead ++ (p ∷ []))) bs → last bs ≡ Some b
last_truth [] p b is [] all = absurd all
last_truth [] p b is (c ∷ []) all = ap Some (one_truth (value_of p) c b all.0 is)
last_truth [] p b is (c ∷ d ∷ bs) all = absurd all.1
last_truth (q ∷ lead) p b is [] all = absurd all
last_truth (q ∷ lead) p b is (c ∷ bs) all = ap (λ (o : Option Bool). elim o [ None ↦ Some c | Some y ↦ Some y ]) (last_truth lead p b is bs all.1)

-- what a payload stands for in a field of truth values
stands_truth : (pool : PoolType) (k : Kind) (p : Payload) (w : Single) → IsKind pool k types.bool → StandsFor k p w → (b : Bool) × IsBool (value_of p) b × (cases.truth_of w ≡ Some b)
stands_truth pool values.Bool (varint n) w is s = (not (n == 0), (n, refl, refl), ap cases.truth_of s)
stands_truth pool values.Bool p w is s = absurd s
stands_truth pool (values.Message d) p w is s = absurd (cc (is.1))
stands_truth pool (values.Enum d) p w is s = absurd (cc (is.1))
stands_truth pool k p w is s = absurd (cc is)

-- ---- a message that bytes spell, of whose fields one is read of them
module _ (stored : DynamicMessage) (sound : IsSound stored.descriptor.pool.now) (bytes : List ℕ) (spelled : IsSpelled stored.descriptor bytes stored)
    (n : ℕ) (name : List ℕ) (has : HasField stored.descriptor.pool.now stored.descriptor.index n (IsTruthValue name))
    (fs : List Field) (reads : SpellsFields 100 bytes fs) (o : Option Bool) (read : IsLast IsBool (values_at n fs) o) where
  its_field : (f : FieldDescriptor) × Owns stored.descriptor f × (field_type f ≡ has.0) × (has.0.number ≡ n)
  its_field = known stored.descriptor n has.0 (field_known stored.descriptor n has.0 has.1 (truth_whole stored.descriptor.pool.now has.0 has.2.truth))

  abbrev f : FieldDescriptor
  f = its_field.0

  number : (field_type f).number ≡ n
  number = ap (λ (t : FieldType). t.number) its_field.2 ∙ its_field.3

  kind : (field_type f).kind ≡ types.bool
  kind = ap (λ (t : FieldType). t.kind) its_field.2 ∙ has.2.truth

  no_list : holds_list (field_pool f) (field_type f) ≡ false
  no_list =
      ap (λ b. b && not (holds_map (field_pool f) (field_type f)))
      (ap (λ (t : FieldType). is_repeated t.cardinality) its_field.2 ∙ holds_one stored.descriptor n has.0 has.1 sound (truth_whole stored.descriptor.pool.now has.0 has.2.truth) has.2.presence)

  abbrev those : List Payload
  those = payloads n spelled.0

  -- each payload is a truth value
  truths : AllZip IsBool (map value_of those) read.0
  truths =
      subst (λ vs. AllZip IsBool vs read.0)
      (ap (values_at n) (one_fields 100 bytes fs (fields_in (records_of spelled.0)) reads (records_of spelled.0, spelled.1, refl)) ∙ read_under n spelled.0) read.1

  left : (ps : List Payload) → those ≡ ps → (new : Option Value) → Leaves (TakesAt 100) (field_pool f) (field_type f) None new ps → truth_in new ≡ o
  left [] is new leaves = ap truth_in leaves ∙ sym (read.2 ∙ none_last read.0 (subst (λ ps. AllZip IsBool (map value_of ps) read.0) is truths))
  left (p ∷ ps) is new leaves =
      let held : HoldsLast (field_pool f) (field_type f).kind new (p ∷ ps) =
      subst (λ b. LeavesAs b (field_pool f) (field_type f).kind None new (p ∷ ps)) no_list (leaves.0 (subst IsScalarType (sym kind) tt)) in
      let said = stands_truth (field_pool f) held.4.0 held.4.2 held.1 (subst (IsKind (field_pool f) held.4.0) kind held.4.3) held.4.5 in
      let same : last read.0 ≡ Some said.0 = last_truth held.4.1 held.4.2 said.0 said.1 read.0 (subst (λ ps. AllZip IsBool (map value_of ps) read.0) (is ∙ held.4.4) truths) in
      let truth : truth_in new ≡ Some said.0 = ap truth_in held.2 ∙ ap (option_and_then cases.truth_of) held.3 ∙ said.2 in
      truth ∙ sym same ∙ sym read.2

  -- it has no siblings
  alone : (k : ℕ) → IsSibling stored.descriptor f k → ⊥
  alone k sibling =
      cc (sym sibling.5 ∙ ap (option_and_then (λ oneof. first_number (members_of f.message.pool.now f.message.index oneof))) (ap (λ (t : FieldType). t.oneof) its_field.2 ∙ has.2.alone))

  pub stored_at : truth_at n stored ≡ o
  stored_at = by (spelled.5 f its_field.1) where
    by : LeavesField (TakesAt 100) stored.descriptor f None (value_at (fields_of stored) (field_type f).number) spelled.0 → truth_at n stored ≡ o
    by (inl (none, leaves)) = left those refl (value_at (fields_of stored) n) (subst (λ k. Leaves (TakesAt 100) (field_pool f) (field_type f) None (value_at (fields_of stored) k) (payloads k spelled.0)) number leaves)
    by (inr (before, behind, r, at, sibling, none, leaves)) = absurd (alone r.0 sibling)

  pub stored_truth : truth_said n stored ≡ o
  stored_truth = said_at stored.descriptor sound n name has.0 has.1 has.2 stored refl ∙ stored_at
