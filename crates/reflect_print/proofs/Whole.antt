-- A text that is made whole, and written then or not at all.
use Rattle.std.proofs.Common.{◌≡◌, ℕ, List, [], ◌++◌, Result, Ok, Err, IfErr, IsErrAnd, subst, sym, ap, ◌∙◌}
use Rattle.text_lines.specs.declared.options.FormatOptions.{FormatOptions}
use Rattle.text_lines.proofs.Appending.{OneBehind}
use Rattle.reflect_print.specs.declared.error.WriteError.{WriteError}
use Rattle.reflect_print.specs.declared.error.WriteError.TheVariants as errors

-- what stands behind nothing is the whole text
pub whole_text : (Is : FormatOptions → List ℕ → Type 0) (form second : FormatOptions) (start now : List ℕ) → second ≡ form → start ≡ []
    → OneBehind start (Is second) now → Is form now
whole_text Is form second start now f e w =
    subst (λ o. Is o now) f (subst (Is second) (sym (w.2 ∙ ap (λ (t : List ℕ). t ++ w.0) e)) w.1)

-- an output that refuses is no want of memory
pub output_refused : {T : Type 0} (r : Result T WriteError) (P : Type 0) → IsErrAnd r (λ e. e ≡ errors.Format) → IfErr r (λ e. e ≡ errors.Memory → P)
output_refused (Ok x) P f = tt
output_refused (Err e) P f = λ m. absurd (cc (sym f ∙ m))
