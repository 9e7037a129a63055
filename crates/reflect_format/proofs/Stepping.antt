-- What the fields of a text do to a message, from what the calls that they come down to do.
use Rattle.std.proofs.Common.{◌≡◌, inl, inr, Result, Ok, Err, IfErr, IsErrAnd, refl, sym, subst}
use Rattle.reflect_message.specs.Held.{fields_of, choices_of}
use Rattle.reflect_message.specs.Oneofs.{AreChosen, IsExclusive}
use Rattle.reflect_message.specs.Names.{DynamicMessage}
use Rattle.reflect_format.specs.Reads.{StaysUnless}
use Rattle.text_error.specs.declared.error.ParseErrorKind.{ParseErrorKind}
use Rattle.text_error.specs.declared.error.ParseErrorKind.TheVariants as kinds

module _ (P : Type 0) where
  -- a refusal of what was not begun
  pub untouched : {T : Type 0} (m : DynamicMessage) (r : Result T ParseErrorKind) → IfErr r (λ k. StaysUnless P k m m)
  untouched m (Ok x) = tt
  untouched m (Err e) = inl refl

  -- want of memory within a step
  pub unfinished : {T : Type 0} (old new : DynamicMessage) (r : Result T ParseErrorKind) → IsErrAnd r (λ e. e ≡ kinds.Memory) → P → IfErr r (λ k. StaysUnless P k old new)
  unfinished old new (Ok x) memory begun = tt
  unfinished old new (Err e) memory begun = inr (memory, begun)

-- what follows of a part is passed on
pub begun_so : (P Q : Type 0) (k : ParseErrorKind) (old new : DynamicMessage) → (P → Q) → StaysUnless P k old new → StaysUnless Q k old new
begun_so P Q k old new f (inl same) = inl same
begun_so P Q k old new f (inr (memory, begun)) = inr (memory, f begun)

-- an extension is no member of a oneof
pub extension_alone : (old new : DynamicMessage) → new.descriptor ≡ old.descriptor → choices_of new ≡ choices_of old → fields_of new ≡ fields_of old → IsExclusive old → IsExclusive new
extension_alone old new type choices fields exclusive =
    subst (λ d. AreChosen d (choices_of new) (fields_of new)) (sym type)
    (subst (λ l. AreChosen old.descriptor l (fields_of new)) (sym choices)
    (subst (λ l. AreChosen old.descriptor (choices_of old) l) (sym fields) exclusive))
