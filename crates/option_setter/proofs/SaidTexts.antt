-- Which bytes are a text that an option says.
use Rattle.std.proofs.Common.{◌≡◌, ℕ, List, Bool, true, false, Some, None, refl}
use Rattle.std.specs.Str.{IsUtf8, is_utf8}
use Rattle.std.proofs.lemmas.Str.{IsUtf8-from_is_utf8, is_utf8-from_IsUtf8}
use Rattle.protobuf_model.specs.Types.{string}
use Rattle.protobuf_model.specs.Values.{text}
use Rattle.text_error.specs.declared.error.ParseErrorKind.{ParseErrorKind}
use Rattle.text_error.specs.declared.error.ParseErrorKind.TheVariants as kinds
use Rattle.text_model.specs.Scalars.{string_in}
use Rattle.reflect_format.specs.Reads.{IsCause}

pub text_said : (b : List ℕ) → IsUtf8 b → string_in string b ≡ Some (text b)
text_said b h = rw (is_utf8-from_IsUtf8 b h) refl

no_text_by : (b : List ℕ) → (IsUtf8 b → ⊥) → (v : Bool) → is_utf8 b ≡ v → string_in string b ≡ None
no_text_by b h true e = absurd (h (IsUtf8-from_is_utf8 b e))
no_text_by b h false e = rw e refl

pub no_text_said : (b : List ℕ) → (IsUtf8 b → ⊥) → string_in string b ≡ None
no_text_said b h = no_text_by b h (is_utf8 b) refl

-- memory was there, so that this is why
pub there : {P : Type 0} (kind : ParseErrorKind) → (kind ≡ kinds.Memory → ⊥) → IsCause P kind → P
there kinds.Memory other h = absurd (other refl)
there kind other h = h
