-- What calls do with what a slot holds.
use Rattle.std.specs.Prelude.{◌≡◌, ◌⊎◌, ◌<◌, ◌≤◌, ◌++◌, ◌∷◌, [], ℕ, List, Option, None, Some, IsUtf8, length, drop}
use Rattle.std.specs.Option.{option_and_then}
use Rattle.reflect_bytes.specs.Written.{pool_bytes}
use Rattle.reflect_pool.specs.Linked.{empty_pool}
use Rattle.schema_core.specs.Payloads.{Encoded, Decoded, Recoded}
use Rattle.schema_core.specs.Places.{told_position}
use Rattle.schema_core.specs.Refusals.{BytesRefused, TextRefused, SourcesLinked, SourcesRefused, SetLinked, SetRefused}
use Rattle.schema_core.specs.Texts.{said}
use Rattle.schema_core.specs.declared.error.SchemaError.{SchemaError}
use Rattle.schema_core.specs.declared.error.SchemaError.TheVariants as error
use Rattle.text_error.specs.Places as text
use Rattle.schema_slot.specs.Codes.{code_of, number_of}
use Rattle.schema_slot.specs.Held.{pool, waiting, answer, position, place_of, IsFaultless, KeepsSession}
use Rattle.schema_slot.specs.declared.code.Code.{Code}
use Rattle.schema_slot.specs.declared.code.Code.TheVariants as code
use Rattle.schema_slot.specs.declared.session.Session.{Session}

-- A call: what it finds, how it ends, and what it leaves.
abbrev pub Call : Type 1
Call = Session → Code → Session → Type 0

-- Where a refusal stands: line and column from 1, where they are known.
abbrev pub Placing : Type 0
Placing = SchemaError → Option (ℕ × ℕ)

-- Of a text that is refused, those in this text.
abbrev pub place_in : List ℕ → Placing
place_in payload (error.Text e) = option_and_then (text.begins_in payload) (text.place_of e.kind)
place_in payload e = told_position e

-- A refusal of the schema: its code, the refusal itself, from which its file is told, and its
-- place. The answer is its text, or nothing where memory runs out for it.
abbrev pub TellsRefusal : Placing → SchemaError → Code → Session → Type 0
TellsRefusal place e c new = (c ≡ code_of e) × (new.fault ≡ Some e) × (position new ≡ place e)
    × ((answer new ≡ said e) ⊎ (answer new ≡ []))

-- so it is unless the call is done
abbrev pub Unless : Code → Type 0 → Type 0
Unless code.Done P = Unit {0}
Unless _ P = P

-- How a call ends that reads texts: they are no UTF-8; or it is done, with no fault; or the schema
-- refuses.
abbrev pub EndsAt : Placing → Type 0 → (Session → Type 0) → (SchemaError → Type 0) → Code → Session
    → Type 0
EndsAt place Read Done Refused code.Done new = Read × IsFaultless new × Done new
EndsAt place Read Done Refused code.NotUtf8 new = (¬ Read) × IsFaultless new × (answer new ≡ [])
EndsAt place Read Done Refused code.Closed new = ⊥
EndsAt place Read Done Refused code.Room new = ⊥
EndsAt place Read Done Refused c new =
    (e : SchemaError) × TellsRefusal place e c new × Read × Refused e

-- A refusal that is of no text stands where the schema tells it.
abbrev pub Ends : Type 0 → (Session → Type 0) → (SchemaError → Type 0) → Code → Session → Type 0
Ends = EndsAt told_position

-- ---- the schema

-- A source waits behind the others; refused, nothing changes but the answer.
abbrev pub Waits : List ℕ → List ℕ → Call
Waits name text old c new =
    (pool new ≡ pool old) × Unless c (waiting new ≡ waiting old)
    × Ends (IsUtf8 name × IsUtf8 text)
    (λ s. (waiting s ≡ waiting old ++ (name, text) ∷ []) × (answer s ≡ []))
    (λ e. e ≡ error.Memory) c new

-- The sources that wait are linked as one batch, or refused so, which leaves the schema; none waits
-- then.
abbrev pub Links : Call
Links old c new =
    (waiting new ≡ []) × Unless c (pool new ≡ pool old)
    × Ends (Unit {0}) (λ s. SourcesLinked (pool old) (waiting old) (pool s) × (answer s ≡ []))
    (SourcesRefused (pool old) (waiting old)) c new

-- No source waits any more.
abbrev pub Forgets : Call
Forgets old c new = (c ≡ code.Done) × (pool new ≡ pool old) × (waiting new ≡ []) × (answer new ≡ [])
    × IsFaultless new

-- The files of a descriptor set are linked as one batch, or refused so, which leaves the schema.
abbrev pub AddsSet : List ℕ → Call
AddsSet bytes old c new =
    (waiting new ≡ waiting old) × Unless c (pool new ≡ pool old)
    × Ends (Unit {0}) (λ s. SetLinked (pool old) bytes (pool s) × (answer s ≡ []))
    (SetRefused (pool old) bytes) c new

-- The descriptor set of all files is the answer.
abbrev pub GivesSet : Call
GivesSet old c new = KeepsSession old new
    × Ends (Unit {0}) (λ s. answer s ≡ pool_bytes (pool old)) (λ e. e ≡ error.Memory) c new

-- ---- payloads

-- Text to bytes, bytes to text, bytes to bytes, of the type of a name.
abbrev pub Encodes : List ℕ → List ℕ → Call
Encodes name text old c new =
    KeepsSession old new × EndsAt (place_in text) (IsUtf8 name × IsUtf8 text)
    (λ s. Encoded (pool old) name text (answer s)) (TextRefused (pool old) name text) c new

abbrev pub Decodes : List ℕ → List ℕ → Call
Decodes name bytes old c new =
    KeepsSession old new × Ends (IsUtf8 name) (λ s. Decoded (pool old) name bytes (answer s))
    (BytesRefused (pool old) name bytes) c new

abbrev pub Recodes : List ℕ → List ℕ → Call
Recodes name bytes old c new =
    KeepsSession old new × Ends (IsUtf8 name) (λ s. Recoded (pool old) name bytes (answer s))
    (BytesRefused (pool old) name bytes) c new

-- ---- slots

-- A call on a slot answers the number of how it ends with the session there; a slot that holds none
-- stays closed, which is told.
abbrev pub On : Call → Option Session → ℕ → Option Session → Type 0
On Does None n new = (n ≡ number_of code.Closed) × (new ≡ None)
On Does (Some old) n new = (c : Code) × (s : Session) × (n ≡ number_of c) × (new ≡ Some s)
    × Does old c s

-- A slot that is opened holds a schema without files, for which nothing waits and of which nothing
-- was asked, or, where memory runs out, nothing.
abbrev pub Opens : ℕ → Option Session → Type 0
Opens n None = n ≡ number_of code.Memory
Opens n (Some s) = (n ≡ number_of code.Done) × (pool s ≡ empty_pool) × (waiting s ≡ [])
    × (answer s ≡ []) × IsFaultless s

-- A text is copied to the front of a buffer where it fits; else nothing is.
abbrev pub Copied : List ℕ → Code → List ℕ → List ℕ → Type 0
Copied text c old new =
    ((c ≡ code.Done) × (length text ≤ length old) × (new ≡ text ++ drop (length text) old))
    ⊎ ((c ≡ code.Room) × (length old < length text) × (new ≡ old))

-- A text of what the slot holds is so copied.
abbrev pub Copies : (Session → List ℕ) → Option Session → ℕ → List ℕ → List ℕ → Type 0
Copies text None n old new = (n ≡ number_of code.Closed) × (new ≡ old)
Copies text (Some s) n old new = (c : Code) × (n ≡ number_of c) × Copied (text s) c old new

-- How long such a text is: 0 where the slot holds nothing.
abbrev pub length_in : (Session → List ℕ) → Option Session → ℕ
length_in text None = 0
length_in text (Some s) = length (text s)

-- The place of the fault is told; a closed slot tells none.
abbrev pub Places : Option Session → ℕ → ℕ × ℕ → ℕ × ℕ → Type 0
Places None n old new = (n ≡ number_of code.Closed) × (new ≡ old)
Places (Some s) n old new = (n ≡ number_of code.Done) × (new ≡ place_of (position s))
