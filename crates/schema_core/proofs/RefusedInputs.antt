-- How bytes and texts of a type are refused, and inputs that they are the payload of.
use Rattle.std.proofs.Common.{◌≡◌, ◌⊎◌, inl, inr, ℕ, Bool, List, Option, None, Some, IfSome, Result, Ok, Err, IfErr, sym, subst}
use Rattle.reflect_wire.specs.declared.wire_error.WireError.{WireError}
use Rattle.reflect_wire.specs.declared.wire_error.WireError.TheVariants as wire
use Rattle.reflect_tables.specs.Types.{PoolType}
use Rattle.text_error.specs.declared.error.ParseError as text
use Rattle.text_error.specs.declared.error.ParseErrorKind.{ParseErrorKind}
use Rattle.text_error.specs.declared.error.ParseErrorKind.TheVariants as texts
use Rattle.schema_core.specs.declared.payload.Fault.{Fault}
use Rattle.schema_core.specs.declared.payload.Fault.TheVariants as faults
use Rattle.schema_core.specs.declared.error.SchemaError.{SchemaError}
use Rattle.schema_core.specs.declared.error.SchemaError.TheVariants.{Parse, Link, Options, Wire, Text, UnknownType, Memory, TooLong}
use Rattle.reflect_decode.specs.Spelled.{TellsWhy}
use Rattle.reflect_format.specs.Reads.{IsCause}
use Rattle.reflect_format.specs.Told.{Told}
use Rattle.reflect_format.specs.Truth.{TrueOf}
use Rattle.text_format.specs.Texts.{IsFaultOf, MakesNone}
use Rattle.reflect_pool.specs.declared.message.MessageDescriptor.{MessageDescriptor}
use Rattle.schema_core.specs.Payloads.{IsType}
use Rattle.schema_core.proofs.Apart.{NoLength, NoMemory, NoSchemaMemory, NoTextMemory}
use Rattle.schema_words.specs.declared.request.Action.TheVariants.{Decode, Encode, Recode}
use Rattle.schema_core.specs.Serving.{IsPayload, RefusesInput, of_schema}
use Rattle.schema_core.specs.Refusals.{of_wire, of_text, IsNoText, BytesRefused, TextRefused, TypeRefused}

-- bytes and texts of a type that is not known
pub unknown_bytes : (p : PoolType) (name bytes : List ℕ) (e : SchemaError) → TypeRefused p name e → BytesRefused p name bytes e
unknown_bytes p name bytes (UnknownType n) h = h
unknown_bytes p name bytes Memory h = tt
unknown_bytes p name bytes (Parse e) h = absurd h
unknown_bytes p name bytes (Link e) h = absurd h
unknown_bytes p name bytes (Options e) h = absurd h
unknown_bytes p name bytes (Wire e) h = absurd h
unknown_bytes p name bytes (Text e) h = absurd h
unknown_bytes p name bytes TooLong h = absurd h

pub unknown_text : (p : PoolType) (name z : List ℕ) (e : SchemaError) → TypeRefused p name e → TextRefused p name z e
unknown_text p name z (UnknownType n) h = h
unknown_text p name z Memory h = tt
unknown_text p name z (Parse e) h = absurd h
unknown_text p name z (Link e) h = absurd h
unknown_text p name z (Options e) h = absurd h
unknown_text p name z (Wire e) h = absurd h
unknown_text p name z (Text e) h = absurd h
unknown_text p name z TooLong h = absurd h

-- a text of a known type is refused with what is true of its pool
pub of_text_kind : (p : PoolType) (name z : List ℕ) (e : text.ParseError) (kind : ParseErrorKind)
    → e.kind ≡ kind → (d : MessageDescriptor) × IsType p name d × IsCause (MakesNone d z) kind × TrueOf p kind × Told (IsFaultOf d z) kind
    → TextRefused p name z (of_text e kind)
of_text_kind p name z e texts.Memory is h = tt
of_text_kind p name z e (texts.TooLong span) is h = absurd h.3
of_text_kind p name z e kind is h = subst (IsNoText p name z) (sym is) (h.0, h.1, (λ q. subst NoTextMemory q tt), h.2, h.3, h.4)

-- bytes that spell no message of a known type
pub of_message : (p : PoolType) (name bytes : List ℕ) (d : MessageDescriptor) (e : WireError) → IsType p name d → TellsWhy d bytes e → BytesRefused p name bytes (of_wire e)
of_message p name bytes d wire.Memory type told = tt
of_message p name bytes d wire.TooLong type told = (d, type, (λ q. subst NoMemory q tt), told)
of_message p name bytes d e type told = ((λ q. subst NoLength q tt), (d, type, (λ q. subst NoMemory q tt), told))

-- and so an input that they are the payload of
pub of_decoded : (p : PoolType) (name : List ℕ) (is_hex : Bool) (input bytes : List ℕ) (e : SchemaError) → IsPayload is_hex input bytes → BytesRefused p name bytes e → RefusesInput Decode p name is_hex input (of_schema e)
of_decoded p name is_hex input bytes Memory payload refused = tt
of_decoded p name is_hex input bytes e payload refused = (bytes, payload, (λ q. subst NoSchemaMemory q tt), refused)

pub of_recoded : (p : PoolType) (name : List ℕ) (is_hex : Bool) (input bytes : List ℕ) (e : SchemaError) → IsPayload is_hex input bytes → BytesRefused p name bytes e → RefusesInput Recode p name is_hex input (of_schema e)
of_recoded p name is_hex input bytes Memory payload refused = tt
of_recoded p name is_hex input bytes e payload refused = (bytes, payload, (λ q. subst NoSchemaMemory q tt), refused)

-- a text that is none of a known type, and so an input that is it
pub of_input : (p : PoolType) (name : List ℕ) (is_hex : Bool) (input : List ℕ) (e : SchemaError) → TextRefused p name input e → RefusesInput Encode p name is_hex input (of_schema e)
of_input p name is_hex input Memory refused = tt
of_input p name is_hex input e refused = ((λ q. subst NoSchemaMemory q tt), refused)

-- an input that is read whole is what was given
pub refused_input : (F : List ℕ → Fault → Type 0) (given : Option (List ℕ)) (input : List ℕ) (f : Fault) → IfSome given (λ xs. input ≡ xs) → F input f → IfSome given (λ xs. F xs f)
refused_input F None input f is refused = tt
refused_input F (Some xs) input f is refused = subst (λ i. F i f) is refused

-- what is not written of an answer: the output is faulty, or memory runs out
pub unwritten : (F : List ℕ → Fault → Type 0) (r : Result Unit Fault) (given : Option (List ℕ)) (input : List ℕ) (X : Type 0) → IfSome given (λ xs. input ≡ xs) → F input faults.Write → F input faults.Memory
    → IfErr r (λ f. (f ≡ faults.Write) ⊎ ((f ≡ faults.Memory) × X)) → IfErr r (λ f. IfSome given (λ xs. F xs f))
unwritten F (Ok u) given input X is write memory h = tt
unwritten F (Err f) given input X is write memory (inl e) = refused_input F given input f is (subst (F input) (sym e) write)
unwritten F (Err f) given input X is write memory (inr e) = refused_input F given input f is (subst (F input) (sym e.0) memory)

pub unprinted : (F : List ℕ → Fault → Type 0) (r : Result Unit Fault) (given : Option (List ℕ)) (input : List ℕ) → IfSome given (λ xs. input ≡ xs) → F input faults.Write
    → IfErr r (λ f. f ≡ faults.Write) → IfErr r (λ f. IfSome given (λ xs. F xs f))
unprinted F (Ok u) given input is write h = tt
unprinted F (Err f) given input is write e = refused_input F given input f is (subst (F input) (sym e) write)
