-- What is given under one name and does not suit a message gives none in the model.
use Rattle.std.proofs.Common.{◌≡◌, ◌⊎◌, inl, inr, ◌^◌, ℕ, nat_lt, Bool, true, false, cond, ◌∷◌, ◌++◌, length, Option, Some, None, option_and_then, refl, sym, ap, ◌∙◌, subst}
use Rattle.protox_lex.specs.Class.{Text}
use Rattle.protobuf_model.specs.Bytes.{bytes_of}
use Rattle.protobuf_model.specs.Types.{Name}
use Rattle.protobuf_model.specs.Values.{Message}
use Rattle.reflect_tables.specs.Types.{PoolType}
use Rattle.reflect_pool.specs.Kinds.{IsKind}
use Rattle.reflect_pool.specs.Shapes.{holds_list, holds_map}
use Rattle.reflect_pool.specs.declared.kind.Kind.{Kind}
use Rattle.reflect_pool.specs.declared.message.MessageDescriptor.{MessageDescriptor}
use Rattle.reflect_message.specs.Names.{DynamicMessage}
use Rattle.reflect_format.specs.Filled.{HasRival}
use Rattle.reflect_format.specs.Steps as steps
use Rattle.reflect_format.specs.Takes.{holds_many, target_pool, target_type}
use Rattle.reflect_format.specs.Unfit.{AreUnfitGiven, IsUnfitBody, IsUnfitGiven, Rejects, RejectsExpansion, RejectsNamed}
use Rattle.reflect_format.specs.declared.target.Target.{Target}
use Rattle.text_model.specs.Schemas.{Schema, Shape}
use Rattle.text_model.specs.Tree.{FullName, FieldName, plain, extension, expansion, Given}
use Rattle.text_model.specs.Value.{Wanted, add_all, body_value, expanded, field_value, hold, named_value, set_one, with_field, written}
use Rattle.message_view.specs.Types.{name_at, types_of}
use Rattle.message_view.specs.Views.{view}
use Rattle.text_view.specs.Holds.{HoldsKinds}
use Rattle.message_view.specs.Sound.{IsSound}
use Rattle.text_view.specs.Schemas.{schema_of, shape_at}
use Rattle.text_view.specs.Targets.{target_field}
use Rattle.text_view.proofs.Adds.{label_keyed, label_many, label_one, target_label}
use Rattle.text_view.proofs.Any.{told_any}
use Rattle.text_view.proofs.Given.{IsMany, Wants, all_contents, field_many, field_one, none_then, one_content, target_wants, wanted}
use Rattle.text_view.proofs.Named.{extensions_found, fields_found, none_found, none_found_extension}
use Rattle.text_view.proofs.Once.{one_of, refused, second}
use Rattle.text_view.proofs.Owned.{OwnsTarget, named_target, pool_is, target_there}
use Rattle.text_view.proofs.Wanted.{type_found, type_missing}

-- what is known of what is given and suits no kind: it has no contents
pub record GivenUnfit (decoded : Name → Text → Option Message) (pool : PoolType) (g : Given) : Type 0 where
  pub one : (k : Kind) (a : Wanted) → Wants pool (schema_of pool decoded) k a → IsUnfitGiven g k → one_content (schema_of pool decoded) a g ≡ None
  pub all : (k : Kind) (a : Wanted) → Wants pool (schema_of pool decoded) k a → AreUnfitGiven g k → all_contents (schema_of pool decoded) a g ≡ None
  pub body : (d : MessageDescriptor) → d.pool.now ≡ pool → IsUnfitBody g d → body_value (schema_of pool decoded) (name_at pool d.index) g ≡ None

either_none : (b : Bool) → ◌≡◌ {A = Option Message} (cond b None None) None
either_none true = refl
either_none false = refl

module _ (decoded : Name → Text → Option Message) (m : DynamicMessage) (kinds : HoldsKinds m) (sound : IsSound m.descriptor.pool.now) (g : Given) (unfit : GivenUnfit decoded m.descriptor.pool.now g) where
  abbrev d : MessageDescriptor
  d = m.descriptor

  abbrev pool : PoolType
  pool = m.descriptor.pool.now

  abbrev w : Schema
  w = schema_of m.descriptor.pool.now decoded

  abbrev s : Shape
  s = shape_at m.descriptor.pool.now m.descriptor.index

  abbrev given_to : Target → Option Message
  given_to t = field_value w s g (view m) (target_type t).number (target_field d t)

  -- a target of many values
  many_label : (t : Target) → OwnsTarget d t → holds_many t ≡ true → IsMany (target_field d t).label
  many_label t owns many = by (holds_map pool (target_type t)) refl where
    its_pool : target_pool t ≡ pool
    its_pool = pool_is d sound.apart t owns

    by : (b : Bool) → holds_map pool (target_type t) ≡ b → IsMany (target_field d t).label
    by true is_map = subst IsMany (sym (target_label d t ∙ label_keyed pool (target_type t) is_map)) tt
    by false no_map =
        let is_list = second (holds_list (target_pool t) (target_type t)) (holds_map (target_pool t) (target_type t)) many (ap (λ p. holds_map p (target_type t)) its_pool ∙ no_map) in
        subst IsMany (sym (target_label d t ∙ label_many pool (target_type t) (subst (λ p. holds_list p (target_type t) ≡ true) its_pool is_list))) tt

  many_refused : (t : Target) → OwnsTarget d t → holds_many t ≡ true → (k : Kind) → IsKind pool k (target_type t).kind → AreUnfitGiven g k → given_to t ≡ None
  many_refused t owns many k kind bad =
      field_many w s g (view m) (target_type t).number (target_field d t) (many_label t owns many)
      ∙ ap (option_and_then (add_all s.fields (target_type t).number (target_field d t).part (target_field d t).label (view m))) (unfit.all k (wanted d sound decoded t owns) (target_wants d sound decoded t owns k kind) bad)

  one_refused : (t : Target) → OwnsTarget d t → holds_many t ≡ false → (k : Kind) → IsKind pool k (target_type t).kind → IsUnfitGiven g k ⊎ ((steps.is_set m t ≡ true) ⊎ HasRival t m) → given_to t ≡ None
  one_refused t owns one k kind bad =
      let none = one_of d sound.apart t owns one in
      field_one w s g (view m) (target_type t).number (target_field d t) (target_label d t ∙ label_one pool (target_type t) none.0 none.1) ∙ by bad where
        a : Wanted
        a = wanted d sound decoded t owns

        by : IsUnfitGiven g k ⊎ ((steps.is_set m t ≡ true) ⊎ HasRival t m) → option_and_then (set_one s.fields (target_type t).number (target_field d t).part (view m)) (one_content w a g) ≡ None
        by (inl h) = ap (option_and_then (set_one s.fields (target_type t).number (target_field d t).part (view m))) (unfit.one k a (target_wants d sound decoded t owns k kind) h)
        by (inr h) = none_then (one_content w a g) (set_one s.fields (target_type t).number (target_field d t).part (view m)) (λ c. refused m sound kinds t owns one h c)

  target_refused : (t : Target) → OwnsTarget d t → Rejects t (IsUnfitGiven g) (AreUnfitGiven g) m → given_to t ≡ None
  target_refused t owns (k, is, choice) = by choice where
    kind : IsKind pool k (target_type t).kind
    kind = subst (λ p. IsKind p k (target_type t).kind) (pool_is d sound.apart t owns) is

    by : ((holds_many t ≡ true) × AreUnfitGiven g k) ⊎ ((holds_many t ≡ false) × (IsUnfitGiven g k ⊎ ((steps.is_set m t ≡ true) ⊎ HasRival t m))) → given_to t ≡ None
    by (inl (many, bad)) = many_refused t owns many k kind bad
    by (inr (one, bad)) = one_refused t owns one k kind bad

  found_refused : (o : Option ℕ) (t : Target) → OwnsTarget d t → o ≡ Some (target_type t).number → given_to t ≡ None → with_field s o (field_value w s g (view m)) ≡ None
  found_refused o t owns found none =
      ap (λ o. with_field s o (field_value w s g (view m))) found
      ∙ ap (option_and_then (field_value w s g (view m) (target_type t).number)) (target_there d sound.apart t owns) ∙ none

  expansion_refused : (domain name : FullName) → RejectsExpansion (written name) (IsUnfitBody g) m → expanded w s domain name (view m) (λ t. body_value w t g) ≡ None
  expansion_refused domain name h = by h where
    taken : Name → Message → Option Message
    taken t b = cond (nat_lt (length (bytes_of (types_of pool) t b)) (2 ^ 64)) (hold s (written domain ++ 47 ∷ written name) (bytes_of (types_of pool) t b) (view m)) None

    of_type : Option Name → Option Message
    of_type o = option_and_then (λ t. option_and_then (taken t) (body_value w t g)) o

    by : RejectsExpansion (written name) (IsUnfitBody g) m → cond s.is_any (of_type (w.message (written name))) None ≡ None
    by (inl none) = ap (λ o. cond s.is_any (of_type o) None) (type_missing pool (written name) none) ∙ either_none s.is_any
    by (inr (inl no_any)) = with s.is_any refl where
      with : (b : Bool) → s.is_any ≡ b → cond s.is_any (of_type (w.message (written name))) None ≡ None
      with true e = absurd (no_any (told_any d e))
      with false e = ap (λ b. cond b (of_type (w.message (written name))) None) e
    by (inr (inr (c, at, finds, bad))) =
        ap (λ o. cond s.is_any (of_type o) None) (type_found pool (written name) c finds)
        ∙ ap (λ o. cond s.is_any (option_and_then (taken (name_at pool c.index)) o) None) (unfit.body c at bad) ∙ either_none s.is_any

  name_refused : (name : FieldName) → RejectsNamed name (IsUnfitGiven g) (AreUnfitGiven g) (IsUnfitBody g) m
      → named_value w s name (view m) (field_value w s g (view m)) (λ t. body_value w t g) ≡ None
  name_refused (plain v) (inl none) = ap (λ o. with_field s o (field_value w s g (view m))) (none_found d v none)
  name_refused (plain v) (inr (t, named, rejects)) =
      let owns = named_target d sound.apart v t (inl named) in
      found_refused (s.names.field v) t owns (fields_found d v t named) (target_refused t owns rejects)
  name_refused (extension v) (inl none) = ap (λ o. with_field s o (field_value w s g (view m))) (none_found_extension d (written v) none)
  name_refused (extension v) (inr (t, named, rejects)) =
      let owns = named_target d sound.apart (written v) t (inr named) in
      found_refused (s.names.extension (written v)) t owns (extensions_found d (written v) t named) (target_refused t owns rejects)
  name_refused (expansion domain v) h = expansion_refused domain v h

pub refused_at : (decoded : Name → Text → Option Message) (m : DynamicMessage) → HoldsKinds m → (name : FieldName) (g : Given)
    → RejectsNamed name (IsUnfitGiven g) (AreUnfitGiven g) (IsUnfitBody g) m → (pool : PoolType) → m.descriptor.pool.now ≡ pool → IsSound pool → GivenUnfit decoded pool g
    → named_value (schema_of pool decoded) (shape_at pool m.descriptor.index) name (view m)
    (field_value (schema_of pool decoded) (shape_at pool m.descriptor.index) g (view m)) (λ t. body_value (schema_of pool decoded) t g) ≡ None
refused_at decoded m kinds name g rejects q at =
    subst (λ (p : PoolType). IsSound p → GivenUnfit decoded p g
    → named_value (schema_of p decoded) (shape_at p m.descriptor.index) name (view m)
    (field_value (schema_of p decoded) (shape_at p m.descriptor.index) g (view m)) (λ t. body_value (schema_of p decoded) t g) ≡ None) at
    (λ sound unfit. name_refused decoded m kinds sound g unfit name rejects)
