-- What is left of a field suits it by the test of types, and in it are the messages that it is made of.
use Rattle.std.proofs.Common.{◌≡◌, ◌==◌, true, List, [], ◌∷◌, Some, unwrap_or, refl, sym, ap, ◌∙◌, subst, bytes_eq, arith}
use Rattle.std.proofs.lemmas.Slice.Eq.{bytes_eq-Decides}
use Rattle.std.specs.List.{AllByRecursion}
use Rattle.reflect_tables.specs.Types.{FieldType, KindType, PoolType, type_at}
use Rattle.reflect_tables.specs.Types as types
use Rattle.reflect_pool.specs.declared.message.MessageDescriptor.{MessageDescriptor}
use Rattle.reflect_scalar.specs.declared.map_key.MapKey.{MapKey}
use Rattle.reflect_message.specs.Lists.{list_items}
use Rattle.reflect_message.specs.Maps.{map_entries}
use Rattle.reflect_message.specs.Names.{DynamicMessage, Value}
use Rattle.reflect_numbered.specs.Fits.{has_type, suits_type}
use Rattle.reflect_numbered.specs.declared.validity.Strictness.TheVariants.{Types}
use Rattle.message_view.proofs.Seen.{list_seen, map_seen, message_seen, single_seen}
use Rattle.valid_view.specs.Inside.{EachMessage, IfMessage}
use Rattle.valid_view.proofs.LeftOnes.{EntryLeft, OneLeft, WholeLeft, left_list, left_map, left_one, message_left, single_left}
use Rattle.valid_view.proofs.Opened.{held_fits}
use Rattle.valid_view.proofs.Passing.{both}
use Rattle.valid_view.proofs.Valid.{IsEntry, One, Whole, one_message, one_single, whole_list, whole_map, whole_one}

-- a message of a kind is of its type
pub its_type : (pool : PoolType) (t : KindType) (d : MessageDescriptor) → d.pool.now ≡ pool → t ≡ types.message d.index → has_type pool t d ≡ true
its_type pool t d pooled is =
    ap (λ t. has_type pool t d) is
    ∙ both (d.index == d.index) (bytes_eq (type_at d.pool.now d.index).full_name (type_at pool d.index).full_name) place
    (ap (λ p. bytes_eq (type_at d.pool.now d.index).full_name (type_at p d.index).full_name) (sym pooled)
    ∙ (bytes_eq-Decides (type_at d.pool.now d.index).full_name (type_at d.pool.now d.index).full_name).1 refl) where
      place : (d.index == d.index) ≡ true
      place = grind arith

-- what holds of each in a list, or in a map, holds of each in the value that this is
module _ (P : DynamicMessage → Type 0) (v : Value) where
  pub list_each : (vs : List Value) → list_items v ≡ Some vs → AllByRecursion (IfMessage P) vs → EachMessage P v
  list_each vs at all = record {
    itself = λ m other. absurd (cc (sym (list_seen v vs at) ∙ message_seen v m other));
    items = λ us there. subst (AllByRecursion (IfMessage P)) (ap (λ o. unwrap_or o us) (sym at ∙ there)) all;
    entries = λ es other. absurd (cc (sym (list_seen v vs at) ∙ map_seen v es other));
  }

  pub map_each : (es : List (MapKey × Value)) → map_entries v ≡ Some es → AllByRecursion (λ (e : MapKey × Value). IfMessage P e.1) es → EachMessage P v
  map_each es at all = record {
    itself = λ m other. absurd (cc (sym (map_seen v es at) ∙ message_seen v m other));
    items = λ vs other. absurd (cc (sym (map_seen v es at) ∙ list_seen v vs other));
    entries = λ fs there. subst (AllByRecursion (λ (e : MapKey × Value). IfMessage P e.1)) (ap (λ o. unwrap_or o fs) (sym at ∙ there)) all;
  }

module _ (Q : DynamicMessage → Type 0) (pool : PoolType) where
  module _ (typed : (m : DynamicMessage) → Q m → suits_type Types m ≡ true) where
    one_typed : (t : KindType) (v : Value) → OneLeft Q pool t v → One Types pool t v
    one_typed t v (single_left w at is) = one_single w at is
    one_typed t v (message_left m at kind q) =
        one_message m at (both (has_type pool t m.descriptor) (held_fits m.held Types m.descriptor.pool.now m.descriptor.index) (its_type pool t m.descriptor kind.0 kind.1) (typed m q))

    all_typed : (t : KindType) (vs : List Value) → AllByRecursion (OneLeft Q pool t) vs → AllByRecursion (One Types pool t) vs
    all_typed t [] all = tt
    all_typed t (v ∷ vs) all = (one_typed t v all.0, all_typed t vs all.1)

    entries_typed : (keys values : KindType) (es : List (MapKey × Value)) → AllByRecursion (EntryLeft Q pool keys values) es → AllByRecursion (IsEntry Types pool keys values) es
    entries_typed keys values [] all = tt
    entries_typed keys values (e ∷ es) all = ((all.0.0, one_typed values e.1 all.0.1), entries_typed keys values es all.1)

    pub left_typed : (f : FieldType) (v : Value) → WholeLeft Q pool f v → Whole Types pool f v
    left_typed f v (left_one no_map once one) = whole_one no_map once (one_typed f.kind v one)
    left_typed f v (left_list no_map repeats vs at all) = whole_list no_map repeats vs at (all_typed f.kind vs all)
    left_typed f v (left_map is_map es at keys values first second all) = whole_map is_map es at keys values first second (entries_typed keys.kind values.kind es all)

  -- what holds of each message of which Q does, holds of each in what is left
  module _ (P : DynamicMessage → Type 0) (so : (m : DynamicMessage) → Q m → P m) where
    one_each : (t : KindType) (v : Value) → OneLeft Q pool t v → IfMessage P v
    one_each t v (single_left w at is) m other = absurd (cc (sym (single_seen v w at) ∙ message_seen v m other))
    one_each t v (message_left n at kind q) m other = subst P (ap (λ o. unwrap_or o m) (sym at ∙ other)) (so n q)

    all_each : (t : KindType) (vs : List Value) → AllByRecursion (OneLeft Q pool t) vs → AllByRecursion (IfMessage P) vs
    all_each t [] all = tt
    all_each t (v ∷ vs) all = (one_each t v all.0, all_each t vs all.1)

    entries_each : (keys values : KindType) (es : List (MapKey × Value)) → AllByRecursion (EntryLeft Q pool keys values) es → AllByRecursion (λ (e : MapKey × Value). IfMessage P e.1) es
    entries_each keys values [] all = tt
    entries_each keys values (e ∷ es) all = (one_each values e.1 all.0.1, entries_each keys values es all.1)

    no_items : (t : KindType) (v : Value) → OneLeft Q pool t v → (vs : List Value) → list_items v ≡ Some vs → ⊥
    no_items t v (single_left w at is) vs other = cc (sym (single_seen v w at) ∙ list_seen v vs other)
    no_items t v (message_left m at kind q) vs other = cc (sym (message_seen v m at) ∙ list_seen v vs other)

    no_entries : (t : KindType) (v : Value) → OneLeft Q pool t v → (es : List (MapKey × Value)) → map_entries v ≡ Some es → ⊥
    no_entries t v (single_left w at is) es other = cc (sym (single_seen v w at) ∙ map_seen v es other)
    no_entries t v (message_left m at kind q) es other = cc (sym (message_seen v m at) ∙ map_seen v es other)

    pub left_each : (f : FieldType) (v : Value) → WholeLeft Q pool f v → EachMessage P v
    left_each f v (left_one no_map once one) = record {
      itself = one_each f.kind v one;
      items = λ vs other. absurd (no_items f.kind v one vs other);
      entries = λ es other. absurd (no_entries f.kind v one es other);
    }
    left_each f v (left_list no_map repeats vs at all) = list_each P v vs at (all_each f.kind vs all)
    left_each f v (left_map is_map es at keys values first second all) = map_each P v es at (entries_each keys.kind values.kind es all)
