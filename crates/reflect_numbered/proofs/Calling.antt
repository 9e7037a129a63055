-- The field that is found by a number is the one that is meant; what is so of any field that is.
use Rattle.std.proofs.Common.{◌≡◌, ◌≢◌, ℕ, Result, Ok, Err, OnOk, OnErr, IfErr, Some, sym, ap, subst}
use Rattle.reflect_tables.specs.Types.{no_field}
use Rattle.reflect_pool.specs.FieldsLeft.{field_type}
use Rattle.reflect_pool.specs.Finds.{FindsField}
use Rattle.reflect_pool.specs.declared.field.FieldDescriptor.{FieldDescriptor}
use Rattle.reflect_pool.specs.declared.message.MessageDescriptor.{MessageDescriptor}
use Rattle.reflect_scalar.specs.FieldTypes.{field_pool}
use Rattle.reflect_message.specs.Declares.{Declares, Owns}
use Rattle.reflect_message.specs.Names.{Value}
use Rattle.reflect_numbered.specs.Called.{Asked, HasNumber, IsMeant, NoneMeant}
use Rattle.reflect_numbered.specs.Fits.{IsValidFor}
use Rattle.reflect_numbered.specs.Refused.{HandsBack, RefusesSet}
use Rattle.reflect_numbered.specs.declared.set_field_error.SetFieldError.{SetFieldError}
use Rattle.reflect_numbered.specs.declared.set_field_error.SetFieldError.TheVariants as errors

-- what follows of a fact, follows of it where it holds of an answer
pub if_ok : {T E P Q : Type 0} (r : Result T E) → (P → Q) → OnOk r P → OnOk r Q
if_ok (Ok x) f h = f h
if_ok (Err e) f h = tt

-- a fact is so where an answer is refused
pub if_err : {T E P : Type 0} (r : Result T E) → P → OnErr r P
if_err (Ok x) h = tt
if_err (Err e) h = h

-- field and value that are handed back are those that were meant
pub hands_back : (P : Asked) (m : MessageDescriptor) (f : FieldDescriptor) (v : Value) → IsMeant P m f
    → (r : Result (Unit {0}) SetFieldError) → IfErr r (HandsBack f v) → IfErr r (RefusesSet P m v)
hands_back P m f v meant (Ok x) h = tt
hands_back P m f v meant (Err errors.NotFound) h = absurd h
hands_back P m f v meant (Err (errors.InvalidType g w)) h = (subst (IsMeant P m) (sym h.0) meant, h.1, subst (λ x. IsValidFor (field_pool x) (field_type x) v → ⊥) (sym h.0) h.2)
hands_back P m f v meant (Err errors.Memory) h = (f, meant, h)

-- a field of the type is declared in it
pub declares : (m : MessageDescriptor) (f : FieldDescriptor) → f.message ≡ m → Declares m f
declares m f is = (ap (λ (d : MessageDescriptor). d.index) is, ap (λ (d : MessageDescriptor). d.pool.now) is)

module _ (m : MessageDescriptor) (n : ℕ) where
  pub meant_by_number : (f : FieldDescriptor) → f.message ≡ m → (field_type f).number ≡ n → Owns m f → IsMeant (HasNumber n) m f
  meant_by_number f is number owns = record {
    message = is;
    first = subst (λ k. FindsField (HasNumber k) m (Some f)) number owns.1;
    held = owns.2;
  }

  number_of : (f : FieldDescriptor) → IsMeant (HasNumber n) m f → (field_type f).number ≡ n
  number_of f meant =
      let there = subst (λ (d : MessageDescriptor). FindsField (HasNumber n) d (Some f)) (sym meant.message) meant.first in
      there.1.0 no_field

  owned : (f : FieldDescriptor) → IsMeant (HasNumber n) m f → Owns m f
  owned f meant = (
    declares m f meant.message,
    subst (λ k. FindsField (HasNumber k) m (Some f)) (sym (number_of f meant)) meant.first,
    meant.held,
  )

  pub none_by_number : ((f : FieldDescriptor) → Owns m f → (field_type f).number ≢ n) → NoneMeant (HasNumber n) m
  none_by_number none f meant = none f (owned f meant) (number_of f meant)
