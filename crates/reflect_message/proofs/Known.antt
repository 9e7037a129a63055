-- The fields that are looked up are those that messages hold.
use Rattle.std.proofs.Common.{◌≡◌, ◌⊎◌, inl, inr, ℕ, ◌==◌, Bool, true, false, cond, ◌&&◌, ◌||◌, Option, Some, None, refl, sym, ap, ◌∙◌, arith}
use Rattle.std.proofs.lemmas.Bool.{and_parts}
use Rattle.std.specs.Option.{option_and_then}
use Rattle.reflect_tables.specs.Finding.{IsFirst}
use Rattle.reflect_tables.specs.Types.{PoolType, FieldType, ExtensionType, KindType, type_at, no_field, no_extension, extension_at}
use Rattle.reflect_tables.specs.Types as types
use Rattle.reflect_pool.specs.FieldsLeft.{field_type}
use Rattle.reflect_pool.specs.Finds.{FindsField, FindsAny}
use Rattle.reflect_pool.specs.Shapes.{holds_map}
use Rattle.reflect_pool.specs.declared.message.MessageDescriptor.{MessageDescriptor}
use Rattle.reflect_pool.specs.declared.field.FieldDescriptor.{FieldDescriptor}
use Rattle.reflect_pool.specs.declared.extension.ExtensionDescriptor.{ExtensionDescriptor}
use Rattle.reflect_scalar.specs.FieldTypes.{field_pool, extension_pool, extension_type}
use Rattle.reflect_scalar.specs.Floats.{IsFloat, HasFloats, HoldsFloats}
use Rattle.reflect_scalar.proofs.First.{Tells, find_none, find_some, find_place}
use Rattle.reflect_message.specs.Known.{is_float, numbered_field, entry_field, has_floats, holds_floats, if_held, known_field, known_extension}

float_kind : (k : KindType) → IsFloat k → is_float k ≡ true
float_kind types.double h = refl
float_kind types.float h = refl
float_kind k h = absurd h

pub kind_float : (k : KindType) → is_float k ≡ true → IsFloat k
kind_float types.double e = tt
kind_float types.float e = tt
kind_float k e = absurd (cc e)

pub numbered : (n : ℕ) → Tells (λ (f : FieldType). f.number ≡ n) (λ f. f.number == n)
numbered n = record { says = λ f e. grind (arith, e); passes = λ f e. grind (arith, e) }

pub field_found : (pool : PoolType) (i n k : ℕ) → IsFirst (λ f. f.number ≡ n) (type_at pool i).fields (Some k) → numbered_field pool i n ≡ Some (types.type_of_field pool i k)
field_found pool i n k h = find_some (λ (f : FieldType). f.number ≡ n) (λ f. f.number == n) (numbered n) (type_at pool i).fields no_field k h

pub field_missing : (pool : PoolType) (i n : ℕ) → IsFirst (λ f. f.number ≡ n) (type_at pool i).fields None → numbered_field pool i n ≡ None
field_missing pool i n h = find_none (λ (f : FieldType). f.number ≡ n) (λ f. f.number == n) (numbered n) (type_at pool i).fields h

floats_told : (pool : PoolType) (k : KindType) → HasFloats pool k → has_floats pool k ≡ true
floats_told pool (types.message i) h = ap (λ o. elim o [ None ↦ false | Some v ↦ is_float v.kind ]) (field_found pool i 2 h.0 h.1) ∙ float_kind (types.type_of_field pool i h.0).kind h.2
floats_told pool k h = absurd h

told_floats : (pool : PoolType) (k : KindType) → has_floats pool k ≡ true → HasFloats pool k
told_floats pool (types.message i) e = by (numbered_field pool i 2) refl e where
  by : (o : Option FieldType) → numbered_field pool i 2 ≡ o → elim o [ None ↦ false | Some v ↦ is_float v.kind ] ≡ true → HasFloats pool (types.message i)
  by None is f = absurd (cc f)
  by (Some v) is f =
      let place = find_place (λ (g : FieldType). g.number ≡ 2) (λ g. g.number == 2) (numbered 2) (type_at pool i).fields v is in
      let same : Some v ≡ Some (types.type_of_field pool i place.0) = sym is ∙ place.2 no_field in
      (place.0, place.1, kind_float (types.type_of_field pool i place.0).kind (sym (ap (λ o. elim o [ None ↦ false | Some v ↦ is_float v.kind ]) same) ∙ f))
told_floats pool k e = absurd (cc e)

pub either : (a b : Bool) → a || b ≡ true → (a ≡ true) ⊎ (b ≡ true)
either true b e = inl refl
either false b e = inr e

pub floats_held : (pool : PoolType) (f : FieldType) → HoldsFloats pool f → holds_floats pool f ≡ true
floats_held pool f (inl h) = ap (λ b. b || (holds_map pool f && has_floats pool f.kind)) (float_kind f.kind h)
floats_held pool f (inr h) = ap (λ b. is_float f.kind || (b && has_floats pool f.kind)) h.0 ∙ ap (λ b. is_float f.kind || b) (floats_told pool f.kind h.1) ∙ whole (is_float f.kind) where
  whole : (b : Bool) → b || true ≡ true
  whole true = refl
  whole false = refl

held_floats : (pool : PoolType) (f : FieldType) → holds_floats pool f ≡ true → HoldsFloats pool f
held_floats pool f e = by (either (is_float f.kind) (holds_map pool f && has_floats pool f.kind) e) where
  by : (is_float f.kind ≡ true) ⊎ (holds_map pool f && has_floats pool f.kind ≡ true) → HoldsFloats pool f
  by (inl h) = inl (kind_float f.kind h)
  by (inr h) = let two = and_parts (holds_map pool f) (has_floats pool f.kind) h in inr (two.0, told_floats pool f.kind two.1)

no_floats : (pool : PoolType) (f : FieldType) → (HoldsFloats pool f → ⊥) → holds_floats pool f ≡ false
no_floats pool f h = by (holds_floats pool f) refl where
  by : (b : Bool) → holds_floats pool f ≡ b → b ≡ false
  by true e = absurd (h (held_floats pool f e))
  by false e = refl

pub kept : (pool : PoolType) (f : FieldType) → (HoldsFloats pool f → ⊥) → if_held pool f ≡ Some f
kept pool f h = ap (λ b. cond b None (Some f)) (no_floats pool f h)

pub dropped : (pool : PoolType) (f : FieldType) → HoldsFloats pool f → if_held pool f ≡ None
dropped pool f h = ap (λ b. cond b None (Some f)) (floats_held pool f h)

module _ (m : MessageDescriptor) (n : ℕ) where
  pub no_field_known : FindsField (λ f. f.number ≡ n) m None → known_field m.pool.now m.index n ≡ None
  no_field_known h = ap (option_and_then (if_held m.pool.now)) (field_missing m.pool.now m.index n h)

  module _ (f : FieldDescriptor) (is : f.message ≡ m) (h : FindsField (λ g. g.number ≡ n) m (Some f)) where
    pub here : numbered_field m.pool.now m.index n ≡ Some (field_type f)
    here = field_found m.pool.now m.index n f.index h ∙ sym (ap (λ (d : MessageDescriptor). Some (types.type_of_field d.pool.now d.index f.index)) is)

    pub field_known : (HoldsFloats (field_pool f) (field_type f) → ⊥) → known_field m.pool.now m.index n ≡ Some (field_type f)
    field_known none = ap (option_and_then (if_held m.pool.now)) here ∙ ap (λ (d : MessageDescriptor). if_held d.pool.now (field_type f)) (sym is) ∙ kept (field_pool f) (field_type f) none

    pub float_unknown : HoldsFloats (field_pool f) (field_type f) → known_field m.pool.now m.index n ≡ None
    float_unknown some = ap (option_and_then (if_held m.pool.now)) here ∙ ap (λ (d : MessageDescriptor). if_held d.pool.now (field_type f)) (sym is) ∙ dropped (field_pool f) (field_type f) some

  told : Tells (λ (x : ExtensionType). (x.extendee ≡ m.index) × (x.field.number ≡ n)) (λ x. (x.extendee == m.index) && (x.field.number == n))
  told = record {
    says = λ x e. let two = and_parts (x.extendee == m.index) (x.field.number == n) e in (grind (arith, two.0), grind (arith, two.1));
    passes = λ x h. grind (arith, h.0, h.1);
  }

  pub no_extension_known : FindsAny (λ x. (x.extendee ≡ m.index) × (x.field.number ≡ n)) m.pool.now None → known_extension m.pool.now m.index n ≡ None
  no_extension_known h = ap (option_and_then (λ (x : ExtensionType). if_held m.pool.now x.field))
      (find_none (λ (x : ExtensionType). (x.extendee ≡ m.index) × (x.field.number ≡ n)) (λ x. (x.extendee == m.index) && (x.field.number == n)) told m.pool.now.extensions h)

  module _ (x : ExtensionDescriptor) (is : x.pool.now ≡ m.pool.now) (h : FindsAny (λ x. (x.extendee ≡ m.index) × (x.field.number ≡ n)) m.pool.now (Some x)) where
    there : known_extension m.pool.now m.index n ≡ if_held (extension_pool x) (extension_type x)
    there = ap (option_and_then (λ (x : ExtensionType). if_held m.pool.now x.field))
        (find_some (λ (x : ExtensionType). (x.extendee ≡ m.index) × (x.field.number ≡ n)) (λ x. (x.extendee == m.index) && (x.field.number == n)) told m.pool.now.extensions no_extension x.index h)
        ∙ ap (λ p. if_held p (extension_at p x.index).field) (sym is)

    pub extension_known : (HoldsFloats (extension_pool x) (extension_type x) → ⊥) → known_extension m.pool.now m.index n ≡ Some (extension_type x)
    extension_known none = there ∙ kept (extension_pool x) (extension_type x) none

    pub float_extension : HoldsFloats (extension_pool x) (extension_type x) → known_extension m.pool.now m.index n ≡ None
    float_extension some = there ∙ dropped (extension_pool x) (extension_type x) some

-- a field of a map's entries
pub entry_is : (pool : PoolType) (k : KindType) (m : MessageDescriptor) (n : ℕ) (o : Option FieldType) → (m.pool.now ≡ pool) × (k ≡ types.message m.index) → numbered_field m.pool.now m.index n ≡ o → entry_field pool k n ≡ o
entry_is pool k m n o h e = ap (λ k. entry_field pool k n) h.1 ∙ ap (λ p. numbered_field p m.index n) (sym h.0) ∙ e
