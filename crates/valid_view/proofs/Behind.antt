-- What records leave of a message that sits, as one in which nothing stands does: it sits again, at each depth.
use Rattle.std.proofs.Common.{◌≡◌, ◌⊎◌, ◌≤◌, inl, inr, ℕ, zero, suc, Bool, List, [], map, Option, None, Some, refl, sym, ap, ◌∙◌, subst, arith}
use Rattle.reflect_tables.specs.Types.{FieldType, PoolType}
use Rattle.reflect_wire.specs.Records.{Payload}
use Rattle.reflect_pool.specs.FieldsLeft.{field_type}
use Rattle.reflect_pool.specs.declared.extension.ExtensionDescriptor.{ExtensionDescriptor}
use Rattle.reflect_pool.specs.declared.field.FieldDescriptor.{FieldDescriptor}
use Rattle.reflect_pool.specs.declared.message.MessageDescriptor.{MessageDescriptor}
use Rattle.reflect_entries.specs.Entries.{value_at}
use Rattle.reflect_scalar.specs.FieldTypes.{extension_type}
use Rattle.reflect_message.specs.Contents.{Content, content_of}
use Rattle.reflect_message.specs.Declares.{IsDeclared, NoField, Owns, OwnsExtension}
use Rattle.reflect_message.specs.Held.{Same, choices_of, fields_of}
use Rattle.reflect_message.specs.Known.{known_extension, known_field}
use Rattle.reflect_message.specs.Names.{DynamicMessage, Value}
use Rattle.reflect_message.specs.Oneofs.{AreChosen}
use Rattle.reflect_decode.specs.Fields.{LeavesExtension, LeavesField}
use Rattle.reflect_decode.specs.Keeps as keeps
use Rattle.reflect_decode.specs.Keeps.{KeepsUndeclared}
use Rattle.reflect_decode.specs.Levels.{TakenAt, TakesAt}
use Rattle.reflect_decode.specs.Messages.{Takes}
use Rattle.reflect_decode.specs.Ordered.{IsOrdered}
use Rattle.reflect_decode.specs.Spares.{FillsFields, Merges, NoExtension, ReadsMember}
use Rattle.reflect_decode.specs.Suits.{SuitsBelow}
use Rattle.reflect_decode.specs.Taking.{Leaves}
use Rattle.reflect_decode.proofs.Suiting.{nothing_suits}
use Rattle.protobuf_model.specs.Meaning.{payloads}
use Rattle.message_view.specs.Sound.{IsSound}
use Rattle.message_view.proofs.Fields.{extension_owned, extension_whole, known, known_extension_is, none_owned, owned, owned_whole}
use Rattle.message_view.proofs.Oneofs.{payloads_same}
use Rattle.valid_view.proofs.LeftOnes.{WholeLeft}
use Rattle.valid_view.proofs.Leaving.{Begins, WasLeft, field_left}
use Rattle.valid_view.proofs.Sitting.{Both, IsOf, Sits, both_sits, nothing_sits, sits_both}

-- what records leave of what a message of a type held
pub record LeftBehind (takes : Takes) (d : MessageDescriptor) (old new : Content) (rs : List (ℕ × Payload)) : Type 0 where
  pub fields : (f : FieldDescriptor) → Owns d f → LeavesField takes d f (value_at old.fields (field_type f).number) (value_at new.fields (field_type f).number) rs
  pub extensions : (x : ExtensionDescriptor) → OwnsExtension d x → LeavesExtension takes d x (value_at old.extensions (extension_type x).number) (value_at new.extensions (extension_type x).number) rs
  pub apart : (f : FieldDescriptor) → Owns d f → Same old.extensions new.extensions (field_type f).number
  pub unowned : (n : ℕ) → NoField d n → value_at old.fields n ≡ None → value_at new.fields n ≡ None
  pub unextended : (n : ℕ) → NoExtension d n → Same old.extensions new.extensions n
  pub unknown : KeepsUndeclared d old.unknown new.unknown rs
  pub ordered : IsOrdered new

pub left_behind : (takes : Takes) (d : MessageDescriptor) (old new : Content) (rs : List (ℕ × Payload)) → IsOrdered old → AreChosen d old.choices old.fields → Merges takes d old new rs
    → LeftBehind takes d old new rs × AreChosen d new.choices new.fields
left_behind takes d old new rs ordered chosen h = (
  record {
    fields = filled.each;
    extensions = h.extended.each;
    apart = h.extended.behind;
    unowned = λ n none unset. by n unset (h.fields.spared n (inr none));
    unextended = λ n none. h.extensions.spared n (inr none);
    unknown = h.unknown;
    ordered = h.ordered ordered;
  },
  filled.chosen,
) where
  filled : FillsFields takes d old new rs
  filled = h.filled chosen

  by : (n : ℕ) → value_at old.fields n ≡ None → Same old.fields new.fields n ⊎ ((value_at new.fields n ≡ None) × ReadsMember d rs) → value_at new.fields n ≡ None
  by n unset (inl same) = same ∙ unset
  by n unset (inr goes) = goes.0

module _ (takes : Takes) (Q : DynamicMessage → Type 0) (d : MessageDescriptor) (sound : IsSound d.pool.now)
    (below : (grouped : Bool) (c : Content) (m : DynamicMessage) (ps : List Payload) → m.descriptor.pool.now ≡ d.pool.now → Begins Q m.descriptor c → takes.message grouped m.descriptor c (content_of m) ps → Q m)
    (old new : Content) (rs : List (ℕ × Payload)) (left : LeftBehind takes d old new rs) (sits : Sits Q d old) where
  abbrev pool : PoolType
  pool = d.pool.now

  abbrev i : ℕ
  i = d.index

  abbrev Its : Option FieldType → Value → Type 0
  Its o v = IsOf Q d.pool.now o v

  -- what a field or an extension held before is of its kind
  was_left : (o : Option FieldType) (g : FieldType) → o ≡ Some g → (before : Option Value) → ((w : Value) → before ≡ Some w → Its o w) → WasLeft Q d.pool.now g before
  was_left o g its before held w at =
      let is = held w at in
      let same : is.0 ≡ g = cc (sym is.1 ∙ its) in
      subst (λ (t : FieldType). WholeLeft Q d.pool.now t w) same is.2

  field_sits : (n : ℕ) (v : Value) → value_at new.fields n ≡ Some v → Its (known_field pool i n) v
  field_sits n v at = by (known_field pool i n) refl where
    of_field : (f : FieldDescriptor) → Owns d f → value_at new.fields (field_type f).number ≡ Some v → WholeLeft Q d.pool.now (field_type f) v
    of_field f owns here = told (subst (λ o. LeavesField takes d f (value_at old.fields (field_type f).number) o rs) here (left.fields f owns)) where
      made : (before : Option Value) (ps : List Payload) → WasLeft Q d.pool.now (field_type f) before → Leaves takes f.message.pool.now (field_type f) before (Some v) ps → WholeLeft Q d.pool.now (field_type f) v
      made before ps was leaves =
          field_left takes Q d.pool.now sound below (field_type f) before v ps (owned_whole d f owns) was
          (subst (λ p. Leaves takes p (field_type f) before (Some v) ps) owns.0.1 leaves)

      held : WasLeft Q d.pool.now (field_type f) (value_at old.fields (field_type f).number)
      held = was_left (known_field pool i (field_type f).number) (field_type f) (owned d f owns) (value_at old.fields (field_type f).number) (sits.fields (field_type f).number)

      told : LeavesField takes d f (value_at old.fields (field_type f).number) (Some v) rs → WholeLeft Q d.pool.now (field_type f) v
      told (inl h) = made (value_at old.fields (field_type f).number) (keeps.payloads (field_type f).number rs) held h.1
      told (inr h) = made None (keeps.payloads (field_type f).number h.1) (λ w no. absurd (cc no)) h.6

    -- where no field has the number
    unset : known_field pool i n ≡ None → (o : Option Value) → value_at old.fields n ≡ o → o ≡ None
    unset none None was = refl
    unset none (Some w) was = absurd (cc (sym none ∙ (sits.fields n w was).1))

    by : (o : Option FieldType) → known_field pool i n ≡ o → Its (known_field pool i n) v
    by None none = absurd (cc (sym at ∙ left.unowned n (none_owned d n none) (unset none (value_at old.fields n) refl)))
    by (Some g) is =
        let f = known d n g is in
        let number : (field_type f.0).number ≡ n = ap (λ (t : FieldType). t.number) f.2 ∙ f.3 in
        (g, is, subst (λ t. WholeLeft Q d.pool.now t v) f.2 (of_field f.0 f.1 (ap (value_at new.fields) number ∙ at)))

  extension_sits : (n : ℕ) (v : Value) → value_at new.extensions n ≡ Some v → Its (known_extension pool i n) v
  extension_sits n v at = by (known_field pool i n) refl (known_extension pool i n) refl where
    of_extension : (x : ExtensionDescriptor) → OwnsExtension d x → NoField d (extension_type x).number → value_at new.extensions (extension_type x).number ≡ Some v
        → WholeLeft Q d.pool.now (extension_type x) v
    of_extension x owns free here =
        let k = (extension_type x).number in
        let before = value_at old.extensions k in
        let ps = keeps.payloads k rs in
        let was = was_left (known_extension pool i k) (extension_type x) (extension_owned d x owns) before (sits.extensions k) in
        let leaves = subst (λ o. Leaves takes x.pool.now (extension_type x) before o ps) here (left.extensions x owns free) in
        field_left takes Q d.pool.now sound below (extension_type x) before v ps (extension_whole d x owns) was
        (subst (λ p. Leaves takes p (extension_type x) before (Some v) ps) owns.0.0 leaves)

    by : (o : Option FieldType) → known_field pool i n ≡ o → (e : Option FieldType) → known_extension pool i n ≡ e → Its (known_extension pool i n) v
    by (Some g) is e also =
        let f = known d n g is in
        let number : (field_type f.0).number ≡ n = ap (λ (t : FieldType). t.number) f.2 ∙ f.3 in
        let same : value_at new.extensions n ≡ value_at old.extensions n = subst (Same old.extensions new.extensions) number (left.apart f.0 f.1) in
        sits.extensions n v (sym same ∙ at)
    by None none None also = sits.extensions n v (sym (left.unextended n none_extends) ∙ at) where
      none_extends : NoExtension d n
      none_extends x owns number = cc (sym (extension_owned d x owns) ∙ ap (known_extension pool i) number ∙ also)
    by None none (Some g) also =
        let x = known_extension_is d n g also in
        let number : (extension_type x.0).number ≡ n = ap (λ (t : FieldType). t.number) x.2 ∙ x.3 in
        let free = none_owned d (extension_type x.0).number (ap (known_field pool i) number ∙ none) in
        (g, also, subst (λ t. WholeLeft Q d.pool.now t v) x.2 (of_extension x.0 x.1 free (ap (value_at new.extensions) number ∙ at)))

  pub behind_sits : Sits Q d new
  behind_sits = record {
    fields = field_sits;
    extensions = extension_sits;
    ordered = left.ordered;
    declared = none_declared;
  } where
    none_declared : (n : ℕ) → IsDeclared d n → payloads n new.unknown ≡ []
    none_declared n is =
        sym (payloads_same n new.unknown) ∙ ap (map (λ (r : ℕ × Payload). r.1)) (left.unknown.declared n is)
        ∙ payloads_same n old.unknown ∙ sits.declared n is

-- ---- at each depth
module _ (pool : PoolType) (sound : IsSound pool) where
  abbrev IsBelow : ℕ → ℕ → Type 0
  IsBelow levels depth = (grouped : Bool) (c : Content) (m : DynamicMessage) (ps : List Payload) → m.descriptor.pool.now ≡ pool → Begins (Both pool depth) m.descriptor c → TakenAt levels grouped m.descriptor c (content_of m) ps → Both pool depth m

  -- what begins sits
  begun : (depth : ℕ) (d : MessageDescriptor) (c : Content) → Begins (Both pool (suc depth)) d c → Sits (Both pool depth) d c × AreChosen d c.choices c.fields
  begun depth d c (inl empty) =
      subst (λ (c : Content). Sits (Both pool depth) d c × AreChosen d c.choices c.fields) (sym empty) (nothing_sits (Both pool depth) d, (nothing_suits (SuitsBelow zero) d).chosen)
  begun depth d c (inr (b, same, its, both)) =
      subst (λ (c : Content). Sits (Both pool depth) d c × AreChosen d c.choices c.fields) its
      (subst (λ (d : MessageDescriptor). Sits (Both pool depth) d (content_of b) × AreChosen d (choices_of b) (fields_of b)) same (both_sits pool depth b both, both.1.0.exclusive))

  pub level_sits : (levels depth : ℕ) → IsBelow levels depth → (d : MessageDescriptor) → d.pool.now ≡ pool → (old new : Content) (rs : List (ℕ × Payload)) → LeftBehind (TakesAt levels) d old new rs → Sits (Both pool depth) d old → Sits (Both pool depth) d new
  level_sits levels depth below d pooled old new rs left sits =
      behind_sits (TakesAt levels) (Both pool depth) d (subst IsSound (sym pooled) sound) inner old new rs left sits where
        inner : (grouped : Bool) (c : Content) (m : DynamicMessage) (ps : List Payload) → m.descriptor.pool.now ≡ d.pool.now → Begins (Both pool depth) m.descriptor c → TakenAt levels grouped m.descriptor c (content_of m) ps → Both pool depth m
        inner grouped c m ps same begins taken = below grouped c m ps (same ∙ pooled) begins taken

  pub below_all : (levels depth : ℕ) → levels ≤ depth → IsBelow levels depth
  unfolding TakenAt
  below_all zero depth le grouped c m ps pooled begins h = absurd h
  below_all (suc levels) zero le grouped c m ps pooled begins h = absurd (omega (arith, le))
  below_all (suc levels) (suc depth) le grouped c m ps pooled begins h =
      let start = begun depth m.descriptor c begins in
      let left = left_behind (TakesAt levels) m.descriptor c (content_of m) h.0 start.0.ordered start.1 h.2 in
      sits_both pool depth m pooled left.1 (level_sits levels depth (below_all levels depth (omega (arith, le))) m.descriptor pooled c (content_of m) h.0 left.0 start.0)
