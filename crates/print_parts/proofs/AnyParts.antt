-- What an Any has under its two numbers.
use Rattle.std.proofs.Common.{◌≡◌, ℕ, List, Some, subst, sym, ap}
use Rattle.reflect_pool.specs.FieldsLeft.{field_type}
use Rattle.reflect_pool.specs.declared.field.FieldDescriptor.{FieldDescriptor}
use Rattle.reflect_pool.specs.declared.message.MessageDescriptor.{MessageDescriptor}
use Rattle.reflect_scalar.specs.FieldTypes.{field_pool}
use Rattle.reflect_entries.specs.Entries.{value_at}
use Rattle.reflect_message.specs.Declares.{Declares}
use Rattle.reflect_message.specs.Held.{fields_of}
use Rattle.reflect_message.specs.Shown.{Shows, shown}
use Rattle.reflect_message.specs.declared.field_ref.FieldRef.{FieldRef}
use Rattle.reflect_message.specs.Names.{DynamicMessage}
use Rattle.reflect_decode.specs.Spelled.{IsSpelled}
use Rattle.print_parts.specs.Expands.{Expands, holds, FindsByUrl, IsUnder, bytes_of, text_of}
use Rattle.print_parts.specs.Parts.{url_in}
use Rattle.reflect_any.specs.Any.{IsAny}

pub under : (m : DynamicMessage) (d : MessageDescriptor) (f : FieldDescriptor) (n : ℕ) (r : FieldRef) → d ≡ m.descriptor
    → Declares d f × ((field_type f).number ≡ n) → Shows (field_pool f) (field_type f) (value_at (fields_of m) (field_type f).number) r → IsUnder m n (shown r)
under m d f n r e declared shows = record { field = f; declared = subst (λ k. Declares k f) e declared.0; number = declared.1; value = shows }

-- the message that is held, under the URL that is shown
pub held_under_url : (m : DynamicMessage) (u b : FieldRef) (url bytes : List ℕ) (d : MessageDescriptor) (body : DynamicMessage)
    → IsAny m.descriptor → IsUnder m 1 (shown u) → text_of (shown u) ≡ Some url → FindsByUrl m.descriptor.pool.now url (Some d) → d.pool.now ≡ m.descriptor.pool.now
    → IsUnder m 2 (shown b) → bytes_of (shown b) ≡ Some bytes → body.descriptor ≡ d → IsSpelled d bytes body
    → Expands m (Some (url_in (text_of (shown u)), body))
held_under_url m u b url bytes d body any uu ut finds p bu bt same read =
    subst (λ z. Expands m (Some (z, body))) (sym (ap url_in ut))
    (holds (shown u) (shown b) url bytes d body any uu ut finds p bu bt same read)
