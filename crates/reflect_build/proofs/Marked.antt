-- The messages of a batch in which no rule of numbers finds a fault say that they are the types of
-- maps' entries exactly where they have the parts of one.
use Rattle.std.proofs.Common.{◌≡◌, ◌⊎◌, inl, inr, ◌+◌, ◌&&◌, ◌==◌, ℕ, zero, suc, pos, Bool, true, false, cond, List, [], ◌∷◌, map, Option, None, Some, is_some, unwrap_or, refl, sym, ap, ◌∙◌, subst, arith, slice_get}
use Rattle.std.proofs.lemmas.List.Elements.{recursion_from_All}
use Rattle.std.specs.List.{AllByRecursion, AllZip, filter}
use Rattle.descriptor_records.specs.declared.field.FieldDescriptorProto.{FieldDescriptorProto}
use Rattle.descriptor_records.specs.declared.file.FileDescriptorProto.{FileDescriptorProto}
use Rattle.reflect_declarations.specs.Batches.{batch_declarations}
use Rattle.reflect_declarations.specs.Declarations.{Declaration, Body, of_field}
use Rattle.reflect_walk.specs.MapEntries.{says_entry}
use Rattle.reflect_declarations.specs.Tree.{MessageParts}
use Rattle.reflect_declarations.specs.declared.offsets.Offsets.{Offsets}
use Rattle.reflect_faults.specs.Faults.{batch_places}
use Rattle.reflect_names.specs.declared.resolve_visitor.Reference.{Reference}
use Rattle.reflect_fields.specs.Fields.{natural}
use Rattle.reflect_tables.specs.Types.{FieldType}
use Rattle.reflect_tables.specs.Views.{field_of}
use Rattle.reflect_tables.specs.declared.stored.StoredEntry.{StoredEntry}
use Rattle.reflect_tables.specs.declared.stored.StoredMessage.{StoredMessage}
use Rattle.reflect_index.specs.Along.{Met, along, before_files, is_field, is_parent, is_part, parts}
use Rattle.reflect_index.specs.BatchEntries.{IsBatchOf}
use Rattle.reflect_index.specs.Entries.{DeclaredField, IsFieldBy, IsFieldOf}
use Rattle.reflect_index.specs.Entry.{IsEntryOf, KeepsEntry}
use Rattle.reflect_index.specs.Grown.{declared_field, list_at, stored_fields}
use Rattle.reflect_index.specs.OfDeclarations.{RangesType, AreDeclared, AllDeclared, messages_in, stored_ranges}
use Rattle.reflect_index.specs.declared.batch.Batch.{Batch}
use Rattle.reflect_passes.specs.Linked.{linked_says, linked_values}
use Rattle.reflect_passes.specs.NumberFaults.{NumberFaults}
use Rattle.reflect_passes.specs.declared.linked_types.LinkedTypes.{LinkedTypes}
use Rattle.reflect_pool.specs.Stored.{SaysEntry}
use Rattle.reflect_rules.specs.RulePass.{batch_use}
use Rattle.reflect_rules.specs.Walks.{Facts, Place}
use Rattle.reflect_index.proofs.Among.{Among, of_all, all_of, of_map, in_map, place_of, get_map}
use Rattle.reflect_index.proofs.Declared.{list_of}
use Rattle.reflect_build.specs.Refusals.{Linking, AreTypes}
use Rattle.reflect_build.proofs.Paths.{IsFieldIn, HasFields, each_declared}
use Rattle.reflect_build.proofs.Rules.{is_met, rules_at, entry_shape}
use Rattle.reflect_build.proofs.Shaped.{entry_shaped}
use Rattle.reflect_build.proofs.Wholes.{DeclaresMessage, batch_counted, message_declared}

-- ---- lists

in_filter : {X : Type 0} (test : X → Bool) (x : X) (xs : List X) → Among x xs → test x ≡ true
    → Among x (filter test xs)
in_filter test x [] h e = absurd h
in_filter test x (y ∷ xs) h e = by (λ k. in_filter test x xs k e) (test y) refl h where
  by : (Among x xs → Among x (filter test xs)) → (b : Bool) → test y ≡ b → (y ≡ x) ⊎ Among x xs
      → Among x (filter test (y ∷ xs))
  by later true is (inl same) =
      subst (λ b. Among x (cond b (y ∷ filter test xs) (filter test xs))) (sym is) (inl same)
  by later true is (inr k) =
      subst (λ b. Among x (cond b (y ∷ filter test xs) (filter test xs))) (sym is) (inr (later k))
  by later false is (inl same) = absurd (cc (sym is ∙ ap test same ∙ e))
  by later false is (inr k) =
      subst (λ b. Among x (cond b (y ∷ filter test xs) (filter test xs))) (sym is) (later k)

-- what stands on the left of a pairing has its part on the right
in_zip : {X Y : Type 0} (R : X → Y → Type 0) (x : X) (xs : List X) (ys : List Y) → AllZip R xs ys
    → Among x xs → (y : Y) × Among y ys × R x y
in_zip R x [] ys h k = absurd k
in_zip R x (z ∷ xs) [] h k = absurd h
in_zip R x (z ∷ xs) (y ∷ ys) h (inl e) = (y, inl refl, subst (λ w. R w y) e h.0)
in_zip R x (z ∷ xs) (y ∷ ys) h (inr k) = let rest = in_zip R x xs ys h.1 k in
    (rest.0, inr rest.1, rest.2)

-- what is kept at a place is of what is declared there
kept_of : (ms : List MessageParts) (rs : List RangesType) (k : ℕ) (r : RangesType)
    → AllDeclared ms rs → slice_get rs k ≡ Some r
    → (m : MessageParts) × (slice_get ms k ≡ Some m) × AreDeclared m r
kept_of [] [] k r h at = absurd (cc at)
kept_of [] (y ∷ rs) k r h at = absurd h
kept_of (x ∷ ms) [] k r h at = absurd h
kept_of (x ∷ ms) (y ∷ rs) zero r h at = let same : y ≡ r = cc at in
    (x, refl, subst (AreDeclared x) same h.0)
kept_of (x ∷ ms) (y ∷ rs) (suc k) r h at = kept_of ms rs k r h.1 at

-- ---- fields

-- one of the fields has the number
abbrev HasNumber : List FieldType → ℕ → Type 0
HasNumber fs n = (f : FieldType) × Among f fs × (f.number ≡ n)

-- an entry is that of a record
abbrev IsFieldFrom : Met → DeclaredField → Body → Type 0
IsFieldFrom m f b = elim b [ of_field r ↦ IsFieldBy m r f | _ ↦ ⊥ ]

module _ (rs : List Reference) (before : Offsets) (first : ℕ) (ds : List Declaration) (b : Batch)
    (entries : IsBatchOf rs before first ds b) (k : ℕ) (m : StoredMessage)
    (at : slice_get b.messages.items k ≡ Some m) where
  -- a field that is declared in the message at a place is kept there, with its number
  field_kept : (r : FieldDescriptorProto) → IsFieldIn ds (before.messages + k) r
      → (f : DeclaredField) × Among f (stored_fields m)
      × (f.field.number ≡ unwrap_or (natural r.number) 0)
  field_kept r d =
      let hand = before_files rs in
      let its = is_met hand ds d.declaration d.among in
      let body : its.0.declaration.body ≡ of_field r =
      ap (λ (x : Declaration). x.body) its.2 ∙ d.body in
      let parent : its.0.declaration.parent ≡ Some (before.messages + k) =
      ap (λ (x : Declaration). x.parent) its.2 ∙ d.parent in
      let equal : ((before.messages + k) == (before.messages + k)) ≡ true = grind arith in
      let test : is_part is_field (before.messages + k) its.0 ≡ true =
      ap (λ c. is_field c && is_parent (before.messages + k) its.0.declaration.parent) body
      ∙ ap (is_parent (before.messages + k)) parent ∙ equal in
      let kept = in_zip IsFieldOf its.0 (parts is_field (before.messages + k) (along hand ds))
      (list_at (map stored_fields b.messages.items) k) (entries.fields k)
      (in_filter (is_part is_field (before.messages + k)) its.0 (along hand ds) its.1 test) in
      let read : IsFieldBy its.0 r kept.0 = subst (IsFieldFrom its.0 kept.0) body kept.2 in
      let listed : list_at (map stored_fields b.messages.items) k ≡ stored_fields m =
      list_of stored_fields b.messages.items k m at in
      (kept.0, subst (Among kept.0) listed kept.1, read.2.says.number)

  field_stored : (r : FieldDescriptorProto) (n : ℕ) → r.number ≡ Some (pos n)
      → IsFieldIn ds (before.messages + k) r → HasNumber (map field_of m.fields.list.items) n
  field_stored r n number d =
      let kept = field_kept r d in
      let stored = of_map declared_field kept.0 m.fields.list.items kept.1 in (
        field_of stored.0,
        in_map field_of stored.0 m.fields.list.items stored.1,
        ap (λ (f : DeclaredField). f.field.number) stored.2 ∙ kept.2
            ∙ ap (λ o. unwrap_or (natural o) 0) number,
      )

-- what has a key and a value where it says that it is the type of a map's entries has the parts of
-- one exactly there
is_parted : (says : Bool) (fs : List FieldType) (e : Option StoredEntry) → IsEntryOf says fs e
    → (says ≡ true → HasNumber fs 1 × HasNumber fs 2) → says ≡ is_some e
is_parted false fs e h both = sym (ap is_some h)
is_parted true fs (Some e) h both = refl
is_parted true fs None (inl none) both = let key = (both refl).0 in
    absurd (of_all (λ (f : FieldType). f.number ≡ 1 → ⊥) key.0 fs
    (recursion_from_All (λ (f : FieldType). f.number ≡ 1 → ⊥) fs none) key.1 key.2)
is_parted true fs None (inr none) both = let value = (both refl).1 in
    absurd (of_all (λ (f : FieldType). f.number ≡ 2 → ⊥) value.0 fs
    (recursion_from_All (λ (f : FieldType). f.number ≡ 2 → ⊥) fs none) value.1 value.2)

-- ---- messages

module _ (w : Linking) (files : List FileDescriptorProto) (rs : List Reference) (t : LinkedTypes)
    (types : AreTypes w files rs t) where
  abbrev all : List Declaration
  all = batch_declarations w.before w.first files

  abbrev items : List StoredMessage
  items = t.new.now.messages.items

  -- the declaration of the message at a place says whether it is the type of a map's entries
  pub record IsMarked (k : ℕ) (m : StoredMessage) : Type 0 where
    pub own : MessageParts
    pub declared : DeclaresMessage all (w.before.messages + k) own
    pub says : m.is_entry ≡ says_entry own.options

  pub marked : (k : ℕ) (m : StoredMessage) → slice_get items k ≡ Some m → IsMarked k m
  marked k m at =
      let kept = kept_of (messages_in all) (map stored_ranges items) k (stored_ranges m)
      types.ranges (get_map stored_ranges items k m at) in
      let counted = batch_counted w.before w.first files in
      record {
        own = kept.0;
        declared = message_declared w.before all counted.0 counted.1 k kept.0 kept.1;
        says = kept.2.is_entry;
      }

  module _ (none : NumberFaults t w.before w.first files rs []) where
    abbrev facts : Facts
    facts = record {
      types = linked_says t;
      uses = batch_use (linked_says t) w.before w.first files rs;
      first = w.before.messages;
    }

    -- where the rules begin
    abbrev start : Place
    start = record { rest = rs; is_proto3 = false; oneofs = 0 }

    both_numbers : (k : ℕ) (m : StoredMessage) → slice_get items k ≡ Some m → m.is_entry ≡ true
        → HasNumber (map field_of m.fields.list.items) 1
        × HasNumber (map field_of m.fields.list.items) 2
    both_numbers k m at is =
        let its = marked k m at in
        let own = its.own in
        let d = its.declared.declaration in
        let spots = batch_places files w.first in
        let rule = rules_at facts (linked_values t) spots start all [] none refl d
        its.declared.among in
        let both = entry_shaped own.field
        (entry_shape facts (linked_values t) rule.0 (spots d.file) d own rule.1 its.declared.body
        (sym its.says ∙ is)) in
        let fields = subst (HasFields all d.index) its.declared.body
        (each_declared w.before w.first files d its.declared.among).placed.fields in
        let stored = λ (r : FieldDescriptorProto) (n : ℕ) (number : r.number ≡ Some (pos n))
        (i : Among r own.field).
        field_stored rs w.before w.first all t.new.now types.entries k m at r n number
        (subst (λ j. IsFieldIn all j r) its.declared.is (fields r i)) in (
          stored both.key 1 both.are.first.number both.key_among,
          stored both.value 2 both.are.second.number both.value_among,
        )

    pub all_say : AllByRecursion SaysEntry items
    all_say = all_of SaysEntry items (λ m h.
        let place = place_of m items h in
        is_parted m.is_entry (map field_of m.fields.list.items) m.entry
        (of_all KeepsEntry m items types.entries.entries h) (both_numbers place.0 m place.1))
