-- A fine message into which a value is put that suits its target, or which loses a field, is fine
-- still.
use Rattle.std.proofs.Common.{◌≡◌, ◌⊎◌, inl, inr, ℕ, suc, true, false, [], ◌∷◌, Some, refl, sym, ap, ◌∙◌, subst}
use Rattle.std.proofs.lemmas.Bool.Decides.{eqb_tells}
use Rattle.texts_view.proofs.Known.{add_all_known, set_known, settled_known}
use Rattle.known_messages.specs.KnownMessages.{KnowsAll, KnowsContent, KnowsHeld}
use Rattle.message_view.specs.Shaped.{Exclusive, FitsOne}
use Rattle.message_view.specs.Sound.{IsSound}
use Rattle.message_view.specs.Types.{field_at, kind_in, name_at, part_of, types_of}
use Rattle.message_view.specs.Views.{content_view, view}
use Rattle.message_view.proofs.Sound.{named}
use Rattle.option_setter.specs.SetOptions.{Unsets}
use Rattle.protobuf_model.specs.Typed.{IsOf, IsTyped}
use Rattle.protobuf_model.specs.Types.{Name, Types, many, one}
use Rattle.reflect_format.specs.Steps.{AddsValues, Puts, StaysAscending, StaysExclusive, held_by}
use Rattle.reflect_format.specs.Takes.{holds_many, target_type}
use Rattle.reflect_format.specs.declared.target.Target.{Target}
use Rattle.reflect_message.specs.Names.{DynamicMessage, Value}
use Rattle.reflect_pool.specs.Shapes.{holds_list, holds_map}
use Rattle.reflect_pool.specs.declared.message.MessageDescriptor.{MessageDescriptor}
use Rattle.reflect_tables.specs.Types.{FieldType, PoolType}
use Rattle.set_view.specs.Puts.{IsUnset}
use Rattle.set_view.proofs.Suited.{unset_suits}
use Rattle.text_laws.proofs.Assigned.{field}
use Rattle.text_laws.proofs.FieldsSuit.{add_all_keeps, settled_keeps}
use Rattle.text_model.specs.Value.{add_all, assign, settled}
use Rattle.text_view.specs.Targets.{target_field}
use Rattle.text_view.specs.Values.{IsOne}
use Rattle.text_view.proofs.Adds.{label_many, label_one, list_all, list_of_many, target_label, types_are}
use Rattle.text_view.proofs.Given.{target_part}
use Rattle.text_view.proofs.Once.{one_of, put_assigned}
use Rattle.text_view.proofs.Owned.{OwnsTarget, target_there}
use Rattle.text_view.proofs.Puts.{one_part}
use Rattle.text_view.proofs.Shaped.{list_before, target_number}
use Rattle.stored_options.proofs.Fine.{IsFine}
use Rattle.stored_options.proofs.Shapes.{left_shape, list_shape, put_shape, stood, unset_so}

-- a value that suits a field as one value, of at most so many levels
pub record IsSuited (levels : ℕ) (pool : PoolType) (f : FieldType) (v : Value) : Type 0 where
  pub fits : FitsOne (Exclusive levels) pool f v
  pub typed : IsOf (IsTyped levels (types_of pool)) (kind_in pool f.group f.kind) (content_view v)
  pub known : KnowsContent (types_of pool) (kind_in pool f.group f.kind) (content_view v)

module _ (levels : ℕ) (old : DynamicMessage) (sound : IsSound old.descriptor.pool.now) (fine : IsFine levels old) where
  abbrev d : MessageDescriptor
  d = old.descriptor

  abbrev types : Types
  types = types_of d.pool.now

  abbrev name : Name
  name = name_at d.pool.now d.index

  module _ (new : DynamicMessage) (type : new.descriptor ≡ d) where
    -- what is fine as a message of the old one's type
    pub fine_so : Exclusive (suc levels) new → IsTyped (suc levels) types name (view new) → KnowsAll types name (view new) → IsFine levels new
    fine_so shape typed known = record {
      shape = shape;
      typed = subst (λ (c : MessageDescriptor). IsTyped (suc levels) (types_of c.pool.now) (name_at c.pool.now c.index) (view new)) (sym type) typed;
      known = subst (λ (c : MessageDescriptor). KnowsAll (types_of c.pool.now) (name_at c.pool.now c.index) (view new)) (sym type) known;
    }

    module _ (t : Target) (owns : OwnsTarget d t) where
      pub has : types name (target_type t).number ≡ Some (target_field d t)
      has = named d.pool.now sound.names d.index (target_type t).number d.in_range ∙ target_there d sound.apart t owns

      -- a field of values that are no entries is of their kind
      plain_part : holds_map d.pool.now (target_type t) ≡ false → (target_field d t).part ≡ part_of d.pool.now (target_type t)
      plain_part no_map = target_part d t ∙ one_part d.pool.now (target_type t) no_map

      -- ---- one value

      pub put_fine : holds_many t ≡ false → (v : Value) → IsSuited levels d.pool.now (target_type t) v → IsOne v → Puts t v old new
          → StaysExclusive t old new → StaysAscending old new → IsFine levels new
      put_fine of_one v suited is_one puts exclusive ascending =
          let none = one_of d sound.apart t owns of_one in
          let part = plain_part none.0 in
          let label : (target_field d t).label ≡ one = target_label d t ∙ label_one d.pool.now (target_type t) none.0 none.1 in
          let single : types name (target_type t).number ≡ Some (field (part_of d.pool.now (target_type t)) one (target_field d t).oneof (target_field d t).extension) =
          has ∙ ap (λ p. Some (field p (target_field d t).label (target_field d t).oneof (target_field d t).extension)) part ∙ ap (λ l. Some (field (part_of d.pool.now (target_type t)) l (target_field d t).oneof (target_field d t).extension)) label in
          let seen : Some (assign (types name) (target_type t).number (settled (part_of d.pool.now (target_type t)) (content_view v)) (view old)) ≡ Some (view new) =
          ap Some (sym (put_assigned old new sound.apart t owns none.0 v is_one fine.shape.1 type puts
          ∙ ap (λ p. assign (field_at d.pool.now d.index) (target_type t).number (settled p (content_view v)) (view old)) part
          ∙ ap (λ fs. assign fs (target_type t).number (settled (part_of d.pool.now (target_type t)) (content_view v)) (view old)) (sym (types_are d.pool.now sound.names d refl)))) in
          let f = field (part_of d.pool.now (target_type t)) one (target_field d t).oneof (target_field d t).extension in
          fine_so (put_shape levels old sound fine.shape new type t owns of_one v suited.fits puts exclusive ascending)
          ((settled_keeps ⊥ (IsTyped levels types) (suc levels) types name (target_type t).number (part_of d.pool.now (target_type t)) (target_field d t).oneof (target_field d t).extension single
          (target_number d sound.numbers t owns) (view old) (view new) (content_view v) suited.typed (λ never. absurd never) seen).typed fine.typed)
          (set_known types name (target_type t).number f single (view old) (view new) fine.known (settled (part_of d.pool.now (target_type t)) (content_view v)) (settled_known types f (content_view v) suited.known) seen)

      -- ---- a list

      pub list_fine : holds_list d.pool.now (target_type t) ≡ true → (v : Value) → IsSuited levels d.pool.now (target_type t) v
          → AddsValues t (v ∷ []) old new → IsFine levels new
      list_fine is_list v suited adds =
          let two = list_of_many d.pool.now (target_type t) is_list in
          let held = list_before (Exclusive levels) d.pool.now (target_type t) two.1 is_list (held_by old t) (stood levels old sound fine.shape t owns) in
          let part = plain_part two.1 in
          let label : (target_field d t).label ≡ many (target_type t).packed = target_label d t ∙ label_many d.pool.now (target_type t) is_list in
          let listed : types name (target_type t).number ≡ Some (field (part_of d.pool.now (target_type t)) (many (target_type t).packed) (target_field d t).oneof (target_field d t).extension) =
          has ∙ ap (λ p. Some (field p (target_field d t).label (target_field d t).oneof (target_field d t).extension)) part ∙ ap (λ l. Some (field (part_of d.pool.now (target_type t)) l (target_field d t).oneof (target_field d t).extension)) label in
          let seen : add_all (types name) (target_type t).number (part_of d.pool.now (target_type t)) (many (target_type t).packed) (view old) (content_view v ∷ []) ≡ Some (view new) =
          ap (λ fs. add_all fs (target_type t).number (part_of d.pool.now (target_type t)) (many (target_type t).packed) (view old) (content_view v ∷ [])) (types_are d.pool.now sound.names d refl)
          ∙ ap (λ p. add_all (field_at d.pool.now d.index) (target_type t).number p (many (target_type t).packed) (view old) (content_view v ∷ [])) (sym part)
          ∙ ap (λ l. add_all (field_at d.pool.now d.index) (target_type t).number (target_field d t).part l (view old) (content_view v ∷ [])) (sym label)
          ∙ list_all old new sound.apart type fine.shape.1 t owns is_list (v ∷ []) held.0 held.1 adds in
          let f = field (part_of d.pool.now (target_type t)) (many (target_type t).packed) (target_field d t).oneof (target_field d t).extension in
          fine_so (list_shape levels old sound fine.shape new type t owns is_list v suited.fits adds)
          ((add_all_keeps ⊥ (IsTyped levels types) (suc levels) types name (target_type t).number (part_of d.pool.now (target_type t)) (many (target_type t).packed) (target_field d t).oneof (target_field d t).extension listed
          (target_number d sound.numbers t owns) (view old) (view new) (content_view v ∷ []) ((suited.typed, λ never. absurd never), tt) seen).typed fine.typed)
          (add_all_known types name (target_type t).number f listed (view old) (view new) fine.known (many (target_type t).packed) (content_view v ∷ []) (suited.known, tt) seen)

  -- ---- what is left where a target is taken out

  unset_known : (left : DynamicMessage) (n : ℕ) → IsUnset n (view old) (view left) → KnowsAll types name (view left)
  unset_known left n unset q = by (eqb_tells q n) where
    by : {A B : Type 0} → (A × (q ≡ n)) ⊎ (B × (q ≡ n → ⊥)) → KnowsHeld types (types name q) (view left q)
    by (inl (_, same)) = subst (KnowsHeld types (types name q)) (sym (ap (view left) same ∙ unset.here)) refl
    by (inr (_, other)) = subst (KnowsHeld types (types name q)) (sym (unset.others q other)) (fine.known q)

  pub left_fine : (left : DynamicMessage) (t : Target) → left.descriptor ≡ d → OwnsTarget d t → Unsets t old left → IsFine levels left
  left_fine left t type owns unsets =
      let unset = unset_so levels old sound fine.shape left t owns unsets in
      record {
        shape = left_shape levels old sound fine.shape left t owns unsets;
        typed = subst (λ (c : MessageDescriptor). IsTyped (suc levels) (types_of c.pool.now) (name_at c.pool.now c.index) (view left)) (sym type)
            (unset_suits (suc levels) types name (target_type t).number (view old) (view left) unset fine.typed);
        known = subst (λ (c : MessageDescriptor). KnowsAll (types_of c.pool.now) (name_at c.pool.now c.index) (view left)) (sym type) (unset_known left (target_type t).number unset);
      }
