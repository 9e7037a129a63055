-- What a message holds is what its parts hold.
use Rattle.std.proofs.Common.{◌≡◌, ℕ, List, Option, Result, Ok, Err, IfOk, IfErr, sym, ap, ◌∙◌, subst}
use Rattle.std.specs.Borrow.{Bor}
use Rattle.reflect_pool.specs.declared.message.MessageDescriptor.{MessageDescriptor}
use Rattle.reflect_wire.specs.Faults.{TellsTrue}
use Rattle.reflect_wire.specs.Reads.{Fronts}
use Rattle.reflect_wire.specs.Records.{Payload}
use Rattle.reflect_wire.specs.declared.wire_error.WireError.{WireError}
use Rattle.reflect_entries.specs.Undeclared.{undeclared}
use Rattle.reflect_message.specs.Contents.{Content, content_of, content_in}
use Rattle.reflect_message.specs.Held.{fields_of, choices_of, extensions_of, unknown_of}
use Rattle.reflect_decode.specs.Accepts.{Accepts}
use Rattle.reflect_decode.specs.Levels.{MergesAt}
use Rattle.reflect_decode.specs.Merging.{IsBody}
use Rattle.reflect_decode.specs.Refused.{BodyFault}
use Rattle.reflect_decode.specs.Suits.{Suits}
use Rattle.reflect_message.specs.Names.{DynamicMessage, Parts, Value}

abbrev holding : List (ℕ × Value) → List (ℕ × ℕ) → List (ℕ × Value) → List (ℕ × Payload) → Content
holding fields choices extensions unknown = record { fields = fields; choices = choices; extensions = extensions; unknown = unknown }

pub same_content : (m : DynamicMessage) (p : Parts) → p.fields ≡ fields_of m → p.choices.members ≡ choices_of m → p.extensions ≡ extensions_of m → undeclared p.unknown ≡ unknown_of m → content_in p ≡ content_of m
same_content m p fields choices extensions unknown =
    ap (λ l. holding l p.choices.members p.extensions (undeclared p.unknown)) fields
    ∙ (ap (λ l. holding (fields_of m) l p.extensions (undeclared p.unknown)) choices
    ∙ (ap (λ l. holding (fields_of m) (choices_of m) l (undeclared p.unknown)) extensions ∙ ap (λ l. holding (fields_of m) (choices_of m) (extensions_of m) l) unknown))

pub merged_in : (levels : ℕ) (group : Option ℕ) (bytes : List ℕ) (m type : MessageDescriptor) (old new before after : Content) (r : Result (Bor (List ℕ)) WireError) → type ≡ m → before ≡ old → after ≡ new
    → IfOk r (λ rest. (rs : List (ℕ × Payload)) × Fronts (IsBody group levels) bytes rs rest.now × MergesAt levels type before after rs × (Suits levels type before → Accepts levels type rs))
    → IfOk r (λ rest. (rs : List (ℕ × Payload)) × Fronts (IsBody group levels) bytes rs rest.now × MergesAt levels m old new rs × (Suits levels m old → Accepts levels m rs))
merged_in levels group bytes m type old new before after (Ok rest) same was is h = (
  h.0,
  h.1,
  subst (λ t. MergesAt levels t old new h.0) same (subst (λ c. MergesAt levels type c new h.0) was (subst (λ c. MergesAt levels type before c h.0) is h.2)),
  λ suits. subst (λ t. Accepts levels t h.0) same (h.3 (subst (λ t. Suits levels t before) (sym same) (subst (Suits levels m) (sym was) suits))),
)
merged_in levels group bytes m type old new before after (Err e) same was is h = tt

pub fault_in : (levels : ℕ) (group : Option ℕ) (bytes : List ℕ) (m type : MessageDescriptor) (old before : Content) (r : Result (Bor (List ℕ)) WireError) → type ≡ m → before ≡ old
    → (Suits levels type before → IfErr r (TellsTrue (BodyFault levels type.pool.now type.index group) bytes)) → Suits levels m old → IfErr r (TellsTrue (BodyFault levels m.pool.now m.index group) bytes)
fault_in levels group bytes m type old before r same was h suits =
    let told = h (subst (λ t. Suits levels t before) (sym same) (subst (Suits levels m) (sym was) suits)) in
    subst (λ (t : MessageDescriptor). IfErr r (TellsTrue (BodyFault levels t.pool.now t.index group) bytes)) same told
