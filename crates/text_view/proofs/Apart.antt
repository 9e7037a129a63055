-- Where numbers are apart, what a text names has the records of its number.
use Rattle.std.proofs.Common.{◌≡◌, inl, inr, ℕ, ◌<◌, ◌≤◌, ◌==◌, suc, zero, ◌&&◌, not, Bool, true, false, true≢false, List, [], ◌∷◌, Option, Some, None, refl, sym, ap, ◌∙◌, subst, arith}
use Rattle.std.specs.Prelude.{slice_index_or, length}
use Rattle.std.specs.List.{find}
use Rattle.std.specs.Option.{option_and_then}
use Rattle.protox_lex.specs.Class.{Text}
use Rattle.reflect_tables.specs.Types.{PoolType, FieldType, ExtensionType, KindType, type_at, type_of_field, no_field, no_extension, extension_at}
use Rattle.reflect_tables.specs.Types as types
use Rattle.reflect_pool.specs.FieldsLeft.{field_type}
use Rattle.reflect_pool.specs.Finds.{FindsField, FindsAny}
use Rattle.reflect_pool.specs.Shapes.{is_entry, is_repeated}
use Rattle.reflect_pool.specs.declared.extension.ExtensionDescriptor.{ExtensionDescriptor}
use Rattle.reflect_pool.specs.declared.field.FieldDescriptor.{FieldDescriptor}
use Rattle.reflect_pool.specs.declared.message.MessageDescriptor.{MessageDescriptor}
use Rattle.reflect_scalar.specs.FieldTypes.{field_pool, extension_type}
use Rattle.reflect_scalar.specs.Floats.{IsFloat, HoldsFloats}
use Rattle.reflect_message.specs.Declares.{Owns, OwnsExtension}
use Rattle.reflect_scalar.proofs.First.{Tells, find_place, find_some}
use Rattle.reflect_message.specs.Known.{if_held, known_field, known_extension, numbered_field}
use Rattle.reflect_numbered.specs.Called.{HasName, OwnsMeant}
use Rattle.reflect_format.specs.Named.{NamesField, NamesExtension}
use Rattle.reflect_format.specs.declared.target.Target.TheVariants as targets
use Rattle.message_view.specs.Types.{either_field, field_at}
use Rattle.message_view.proofs.Fields.{owned, extension_owned}
use Rattle.message_view.specs.Sound.{AreApart, IsNotKept}
use Rattle.text_view.specs.Targets.{target_field}
use Rattle.reflect_message.proofs.Known.{numbered}

any_default : {X : Type 0} (xs : List X) (k : ℕ) (d e : X) → k < length xs → slice_index_or xs k d ≡ slice_index_or xs k e
any_default [] k d e lt = absurd (omega (arith, lt))
any_default (x ∷ xs) zero d e lt = refl
any_default (x ∷ xs) (suc k) d e lt = any_default xs k d e (omega (arith, lt))

-- what one element alone has is found there
pub only_one : {X : Type 0} (P : X → Type 0) (test : X → Bool) → Tells P test → (xs : List X) (d : X) (k : ℕ) → k < length xs → P (slice_index_or xs k d)
    → ((j : ℕ) → j < length xs → P (slice_index_or xs j d) → j ≡ k) → find test xs ≡ Some (slice_index_or xs k d)
only_one P test tells xs d k lt has only = find_some P test tells xs d k (lt, ((λ c. subst P (any_default xs k d c lt) has), before)) where
  before : (j : ℕ) (c : _) → 0 ≤ j → j < k → P (slice_index_or xs j c) → ⊥
  before j c low below h =
      let in_list : j < length xs = omega (arith, lt, below) in
      let same : j ≡ k = only j in_list (subst P (any_default xs j c d in_list) h) in
      omega (arith, below, same)

no_float : (k : KindType) (i : ℕ) → k ≡ types.message i → IsFloat k → ⊥
no_float types.double i e h = cc e
no_float types.float i e h = cc e
no_float k i e h = h

-- a group holds no floating-point numbers
group_whole : (pool : PoolType) (f : FieldType) (i : ℕ) → f.group ≡ true → f.kind ≡ types.message i → HoldsFloats pool f → ⊥
group_whole pool f i group kind (inl h) = no_float f.kind i kind h
group_whole pool f i group kind (inr h) = true≢false (sym h.0 ∙ ap (λ b. is_entry pool f.kind && (is_repeated f.cardinality && not b)) group ∙ never (is_entry pool f.kind) (is_repeated f.cardinality)) where
  never : (a b : Bool) → (a && (b && false)) ≡ false
  never true true = refl
  never true false = refl
  never false b = refl

module _ (m : MessageDescriptor) (apart : AreApart m.pool.now) where
  pub field_first : (f : FieldDescriptor) → f.message ≡ m → f.index < length (type_at m.pool.now m.index).fields → FindsField (λ g. g.number ≡ (field_type f).number) m (Some f)
  field_first f is lt = (lt, ((λ d. ap (λ (t : FieldType). t.number) (any_default fields f.index d no_field lt ∙ here)), before)) where
    fields : List FieldType
    fields = (type_at m.pool.now m.index).fields

    here : type_of_field m.pool.now m.index f.index ≡ field_type f
    here = sym (ap (λ (d : MessageDescriptor). type_of_field d.pool.now d.index f.index) is)

    before : (k : ℕ) (d : FieldType) → 0 ≤ k → k < f.index → (slice_index_or fields k d).number ≡ (field_type f).number → ⊥
    before k d low below e =
        let in_list : k < length fields = omega (arith, lt, below) in
        let same : k ≡ f.index = apart.fields m.index k f.index in_list lt (ap (λ (t : FieldType). t.number) (any_default fields k no_field d in_list) ∙ e ∙ sym (ap (λ (t : FieldType). t.number) here)) in
        omega (arith, below, same)

  field_owns : (f : FieldDescriptor) → f.message ≡ m → f.index < length (type_at m.pool.now m.index).fields → (HoldsFloats (field_pool f) (field_type f) → ⊥) → Owns m f
  field_owns f is lt whole =
      ((ap (λ (d : MessageDescriptor). d.index) is, ap (λ (d : MessageDescriptor). d.pool.now) is), field_first f is lt, whole)

  pub named_owns : (w : Text) (f : FieldDescriptor) → NamesField m w (targets.Field f) → Owns m f
  named_owns w f (inl h) = field_owns f h.0.0 h.0.1.0 h.1
  named_owns w f (inr h) = field_owns f h.0 h.2.0 (group_whole (field_pool f) (field_type f) h.3.1 h.3.0 h.3.2)

  -- and what a call by name means
  pub called_owns : (w : Text) → OwnsMeant (HasName w) m
  called_owns w f meant = field_owns f meant.message meant.first.0 meant.held

  pub extension_first : (x : ExtensionDescriptor) → x.pool.now ≡ m.pool.now → (extension_at x.pool.now x.index).extendee ≡ m.index → x.index < length m.pool.now.extensions
      → FindsAny (λ y. (y.extendee ≡ m.index) × (y.field.number ≡ (extension_type x).number)) m.pool.now (Some x)
  extension_first x pool of lt = (lt, ((λ d. (ap (λ (y : ExtensionType). y.extendee) (there d) ∙ of, ap (λ (y : ExtensionType). y.field.number) (there d))), before)) where
    there : (d : ExtensionType) → slice_index_or m.pool.now.extensions x.index d ≡ extension_at x.pool.now x.index
    there d = any_default m.pool.now.extensions x.index d no_extension lt ∙ ap (λ p. extension_at p x.index) (sym pool)

    before : (k : ℕ) (d : ExtensionType) → 0 ≤ k → k < x.index
        → ((slice_index_or m.pool.now.extensions k d).extendee ≡ m.index) × ((slice_index_or m.pool.now.extensions k d).field.number ≡ (extension_type x).number) → ⊥
    before k d low below e =
        let in_list : k < length m.pool.now.extensions = omega (arith, lt, below) in
        let at = any_default m.pool.now.extensions k no_extension d in_list in
        let same : k ≡ x.index =
        apart.extensions k x.index in_list lt
        (ap (λ (y : ExtensionType). y.extendee) at ∙ e.0 ∙ sym of ∙ ap (λ (y : ExtensionType). y.extendee) (sym (there no_extension)))
        (ap (λ (y : ExtensionType). y.field.number) at ∙ e.1 ∙ ap (λ (y : ExtensionType). y.field.number) (sym (there no_extension))) in
        omega (arith, below, same)

  pub named_extension_owns : (w : Text) (x : ExtensionDescriptor) → NamesExtension m w (targets.Extension x) → OwnsExtension m x
  named_extension_owns w x h = (h.0.0, extension_first x h.0.0.0 h.0.0.1 h.0.1.0, h.1)

  -- the number of an extension is kept for it, and so is that of no field
  between : (k : ℕ) → k < length m.pool.now.extensions → numbered_field m.pool.now (extension_at m.pool.now k).extendee (extension_at m.pool.now k).field.number ≡ None
  between k lt = by (numbered_field m.pool.now i n) refl where
    i : ℕ
    i = (extension_at m.pool.now k).extendee

    n : ℕ
    n = (extension_at m.pool.now k).field.number

    by : (o : Option FieldType) → numbered_field m.pool.now i n ≡ o → numbered_field m.pool.now i n ≡ None
    by None e = e
    by (Some f) e =
        let place = find_place (λ (g : FieldType). g.number ≡ n) (λ g. g.number == n) (numbered n) (type_at m.pool.now i).fields f e in
        let same : (type_of_field m.pool.now i place.0).number ≡ n = place.1.1.0 no_field in
        absurd (apart.kept k lt (subst (IsNotKept m.pool.now i) same (apart.free i place.0 place.1.0)))

  -- no field has the number of an extension
  pub no_field_there : (x : ExtensionDescriptor) → OwnsExtension m x → known_field m.pool.now m.index (extension_type x).number ≡ None
  no_field_there x h =
      let of : (extension_at m.pool.now x.index).extendee ≡ m.index = ap (λ p. (extension_at p x.index).extendee) (sym h.0.0) ∙ h.0.1 in
      let at : (extension_at m.pool.now x.index).field.number ≡ (extension_type x).number = ap (λ p. (extension_at p x.index).field.number) (sym h.0.0) in
      ap (λ n. known_field m.pool.now m.index n) (sym at) ∙ ap (λ i. known_field m.pool.now i (extension_at m.pool.now x.index).field.number) (sym of)
      ∙ ap (option_and_then (if_held m.pool.now)) (between x.index h.1.0)

  pub field_there : (f : FieldDescriptor) → Owns m f → field_at m.pool.now m.index (field_type f).number ≡ Some (target_field m (targets.Field f))
  field_there f h = ap (λ o. either_field m.pool.now m.index o (known_extension m.pool.now m.index (field_type f).number)) (owned m f h)

  pub extension_there : (x : ExtensionDescriptor) → OwnsExtension m x → field_at m.pool.now m.index (extension_type x).number ≡ Some (target_field m (targets.Extension x))
  extension_there x h =
      ap (λ o. either_field m.pool.now m.index o (known_extension m.pool.now m.index (extension_type x).number)) (no_field_there x h)
      ∙ ap (either_field m.pool.now m.index None) (extension_owned m x h)
