-- Which field has the records of a number.
use Rattle.std.proofs.Common.{◌≡◌, ℕ, Some, sym, ap, ◌∙◌, subst}
use Rattle.std.specs.Option.{option_and_then}
use Rattle.reflect_tables.proofs.Firsts.{one_first}
use Rattle.reflect_tables.specs.Types.{PoolType, type_at, type_of_field, no_field, no_extension}
use Rattle.reflect_pool.specs.FieldsLeft.{field_type}
use Rattle.reflect_pool.specs.Finds.{FindsField, FindsAny}
use Rattle.reflect_pool.specs.Parts.{members_of}
use Rattle.reflect_pool.specs.declared.message.MessageDescriptor.{MessageDescriptor}
use Rattle.reflect_pool.specs.declared.field.FieldDescriptor.{FieldDescriptor}
use Rattle.reflect_entries.specs.Members.{first_number, first_member_of}
use Rattle.reflect_pool.specs.declared.extension.ExtensionDescriptor.{ExtensionDescriptor}
use Rattle.reflect_scalar.specs.FieldTypes.{extension_pool, extension_type}
use Rattle.reflect_message.specs.Declares.{Declares, Owns, OwnsExtension}

module _ (m : MessageDescriptor) where
  -- two fields of the type that are the first of their numbers, at one number
  module _ (f g : FieldDescriptor) (df : Declares m f) (dg : Declares m g) (n : ℕ) (first : FindsField (λ h. h.number ≡ n) m (Some f)) (other : FindsField (λ h. h.number ≡ n) m (Some g)) where
    one_place : f.index ≡ g.index
    one_place = one_first (λ h. h.number ≡ n) (type_at m.pool.now m.index).fields no_field f.index g.index first other

    same_part : {X : Type 0} (P : PoolType → ℕ → ℕ → X) → P f.message.pool.now f.message.index f.index ≡ P g.message.pool.now g.message.index g.index
    same_part P =
        ap (λ p. P p f.message.index f.index) (df.1 ∙ sym dg.1) ∙ ap (λ i. P g.message.pool.now i f.index) (df.0 ∙ sym dg.0) ∙ ap (λ k. P g.message.pool.now g.message.index k) one_place

  -- a field has the records of its number alone
  module _ (f g : FieldDescriptor) (owns : Owns m f) (other : Owns m g) (same : (field_type f).number ≡ (field_type g).number) where
    pub alike : {X : Type 0} (P : PoolType → ℕ → ℕ → X) → P f.message.pool.now f.message.index f.index ≡ P g.message.pool.now g.message.index g.index
    alike P = same_part f g owns.0 other.0 (field_type g).number (subst (λ n. FindsField (λ h. h.number ≡ n) m (Some f)) same owns.1) other.1 P

    pub same_first : first_member_of f ≡ first_member_of g
    same_first = alike (λ p i k. option_and_then (λ oneof. first_number (members_of p i oneof)) (type_of_field p i k).oneof)

  -- and so does an extension
  module _ (x y : ExtensionDescriptor) (owns : OwnsExtension m x) (other : OwnsExtension m y) (same : (extension_type x).number ≡ (extension_type y).number) where
    pub one_extension : x.index ≡ y.index
    one_extension =
        let first = subst (λ n. FindsAny (λ z. (z.extendee ≡ m.index) × (z.field.number ≡ n)) m.pool.now (Some x)) same owns.1 in
        one_first (λ z. (z.extendee ≡ m.index) × (z.field.number ≡ (extension_type y).number)) m.pool.now.extensions no_extension x.index y.index first other.1

    pub one_pool : extension_pool x ≡ extension_pool y
    one_pool = owns.0.0 ∙ sym other.0.0
