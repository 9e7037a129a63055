-- Why a value is not set.
use Rattle.std.specs.Prelude.{◌≡◌}
use Rattle.reflect_pool.specs.FieldsLeft.{field_type}
use Rattle.reflect_pool.specs.declared.field.FieldDescriptor.{FieldDescriptor}
use Rattle.reflect_pool.specs.declared.message.MessageDescriptor.{MessageDescriptor}
use Rattle.reflect_scalar.specs.FieldTypes.{field_pool}
use Rattle.reflect_message.specs.Names.{Value}
use Rattle.reflect_numbered.specs.Called.{Asked, IsMeant, NoneMeant}
use Rattle.reflect_numbered.specs.Fits.{IsValidFor}
use Rattle.reflect_numbered.specs.declared.set_field_error.SetFieldError.{SetFieldError}
use Rattle.reflect_numbered.specs.declared.set_field_error.SetFieldError.TheVariants as errors

-- field and value are handed back, since the value does not suit the field; or it does, and memory
-- ran out
abbrev pub HandsBack : FieldDescriptor → Value → SetFieldError → Type 0
HandsBack f v errors.NotFound = ⊥
HandsBack f v (errors.InvalidType g w) = (g ≡ f) × (w ≡ v)
    × (IsValidFor (field_pool f) (field_type f) v → ⊥)
HandsBack f v errors.Memory = IsValidFor (field_pool f) (field_type f) v

-- no field is meant; or the one that is meant and the value are handed back, which do not suit; or
-- they do, and memory ran out
abbrev pub RefusesSet : Asked → MessageDescriptor → Value → SetFieldError → Type 0
RefusesSet P m v errors.NotFound = NoneMeant P m
RefusesSet P m v (errors.InvalidType f w) = IsMeant P m f × (w ≡ v)
    × (IsValidFor (field_pool f) (field_type f) v → ⊥)
RefusesSet P m v errors.Memory = (f : FieldDescriptor) × IsMeant P m f
    × IsValidFor (field_pool f) (field_type f) v
