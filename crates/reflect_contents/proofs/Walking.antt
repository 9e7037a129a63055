-- One step of a walk over what a message holds.
use Rattle.std.proofs.Common.{◌≡◌, ℕ, ◌==◌, ◌&&◌, not, Bool, true, false, true≢false, cond, List, [], ◌∷◌, map, MatchOption, Option, None, Some, is_some, option_map, refl, sym, ap, ◌∙◌, arith}
use Rattle.std.proofs.lemmas.Bool.{and_parts}
use Rattle.std.specs.List.{filter_map}
use Rattle.std.specs.Option.{option_and_then}
use Rattle.reflect_tables.specs.Types.{ExtensionType, no_extension}
use Rattle.reflect_pool.specs.FieldsLeft.{field_type}
use Rattle.reflect_pool.specs.Finds.{FindsField, FindsAny}
use Rattle.reflect_pool.specs.declared.extension.ExtensionDescriptor.{ExtensionDescriptor}
use Rattle.reflect_pool.specs.declared.field.FieldDescriptor.{FieldDescriptor}
use Rattle.reflect_pool.specs.declared.message.MessageDescriptor.{MessageDescriptor}
use Rattle.reflect_scalar.proofs.First.{Tells, find_none, find_some}
use Rattle.reflect_scalar.specs.FieldTypes.{field_pool, extension_pool, extension_type}
use Rattle.reflect_message.proofs.Known.{field_missing, here}
use Rattle.reflect_message.specs.Bytes.{form_of, is_set}
use Rattle.reflect_message.specs.Names.{Value}
use Rattle.reflect_contents.specs.Walked.{if_set, set_field, set_extension}

module _ {X Y : Type 0} (h : X → Option Y) where
  -- what gives nothing is passed over
  pub passed_over : (x : X) (xs : List X) → h x ≡ None → filter_map h (x ∷ xs) ≡ filter_map h xs
  passed_over x xs e = rw e refl

  -- what gives something comes first
  pub comes_first : (x : X) (y : Y) (xs : List X) → h x ≡ Some y → filter_map h (x ∷ xs) ≡ y ∷ filter_map h xs
  comes_first x y xs e = rw e refl

-- where a walk gives nothing, nothing was ahead, and where nothing was, it gives nothing
module _ {A B : Type 0} (view : A → B) (ahead left : List B) where
  pub nothing_ahead : (r : Option A) → MatchOption r ((ahead ≡ []) × (left ≡ [])) (λ x. ahead ≡ view x ∷ left) → is_some r ≡ false → ahead ≡ []
  nothing_ahead None h e = h.0
  nothing_ahead (Some x) h e = absurd (true≢false e)

  pub nothing_given : (r : Option A) → MatchOption r ((ahead ≡ []) × (left ≡ [])) (λ x. ahead ≡ view x ∷ left) → ahead ≡ [] → is_some r ≡ false
  nothing_given None h e = refl
  nothing_given (Some x) h e = absurd (cc (h, e))

pub nothing_held : {A B : Type 0} (view : A → B) → (xs : List A) → map view xs ≡ [] → xs ≡ []
nothing_held view [] e = refl
nothing_held view (x ∷ xs) e = absurd (cc e)

pub not_false : (b : Bool) → not b ≡ false → b ≡ true
not_false true e = refl
not_false false e = absurd (true≢false e)

module _ (m : MessageDescriptor) (n : ℕ) (v : Value) where
  pub no_field_set : FindsField (λ g. g.number ≡ n) m None → set_field m.pool.now m.index (n, v) ≡ None
  no_field_set none = ap (option_and_then (if_set m.pool.now v)) (field_missing m.pool.now m.index n none)

  -- a field is set where the value is, in it
  pub field_set : (f : FieldDescriptor) → f.message ≡ m → FindsField (λ g. g.number ≡ n) m (Some f)
      → (b : Bool) → b ≡ is_set (field_pool f) (field_type f) (form_of v)
      → set_field m.pool.now m.index (n, v) ≡ cond b (Some (field_type f, v)) None
  field_set f is first b told =
      ap (option_and_then (if_set m.pool.now v)) (here m n f is first)
      ∙ ap (λ (d : MessageDescriptor). if_set d.pool.now v (field_type f)) (sym is)
      ∙ ap (λ b. cond b (Some (field_type f, v)) None) (sym told)

  told : Tells (λ (x : ExtensionType). (x.extendee ≡ m.index) × (x.field.number ≡ n)) (λ x. (x.extendee == m.index) && (x.field.number == n))
  told = record {
    says = λ x e. let two = and_parts (x.extendee == m.index) (x.field.number == n) e in (grind (arith, two.0), grind (arith, two.1));
    passes = λ x h. grind (arith, h.0, h.1);
  }

  pub no_extension_set : FindsAny (λ x. (x.extendee ≡ m.index) × (x.field.number ≡ n)) m.pool.now None → set_extension m.pool.now m.index (n, v) ≡ None
  no_extension_set none =
      ap (λ o. option_and_then (if_set m.pool.now v) (option_map (λ (x : ExtensionType). x.field) o))
      (find_none (λ (x : ExtensionType). (x.extendee ≡ m.index) × (x.field.number ≡ n)) (λ x. (x.extendee == m.index) && (x.field.number == n)) told m.pool.now.extensions none)

  pub extension_set : (x : ExtensionDescriptor) → x.pool.now ≡ m.pool.now → FindsAny (λ x. (x.extendee ≡ m.index) × (x.field.number ≡ n)) m.pool.now (Some x)
      → (b : Bool) → b ≡ is_set (extension_pool x) (extension_type x) (form_of v)
      → set_extension m.pool.now m.index (n, v) ≡ cond b (Some (extension_type x, v)) None
  extension_set x is first b told_set =
      ap (λ o. option_and_then (if_set m.pool.now v) (option_map (λ (x : ExtensionType). x.field) o))
      (find_some (λ (x : ExtensionType). (x.extendee ≡ m.index) × (x.field.number ≡ n)) (λ x. (x.extendee == m.index) && (x.field.number == n)) told m.pool.now.extensions no_extension x.index first)
      ∙ ap (λ p. if_set p v (Rattle.reflect_tables.specs.Types.extension_at p x.index).field) (sym is)
      ∙ ap (λ b. cond b (Some (extension_type x, v)) None) (sym told_set)
