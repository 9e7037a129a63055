-- What records leave in extensions, run by run.
use Rattle.std.proofs.Common.{◌≡◌, ◌≢◌, ℕ, ◌==◌, Bool, true, false, List, [], ◌∷◌, ◌++◌, refl, sym, ap, ◌∙◌, subst, arith}
use Rattle.reflect_pool.specs.FieldsLeft.{field_type}
use Rattle.reflect_pool.specs.declared.message.MessageDescriptor.{MessageDescriptor}
use Rattle.reflect_pool.specs.declared.extension.ExtensionDescriptor.{ExtensionDescriptor}
use Rattle.reflect_wire.specs.Records.{Payload}
use Rattle.reflect_entries.specs.Entries.{value_at}
use Rattle.reflect_scalar.specs.FieldTypes.{extension_pool, extension_type}
use Rattle.reflect_message.specs.Declares.{OwnsExtension, NoField}
use Rattle.reflect_decode.specs.Fields.{HoldExtensions}
use Rattle.reflect_decode.specs.Keeps.{payloads}
use Rattle.reflect_decode.specs.Merging.{run_records}
use Rattle.reflect_decode.specs.Messages.{Takes}
use Rattle.reflect_message.specs.Held.{Same}
use Rattle.reflect_decode.specs.Spares.{FillsExtensions}
use Rattle.reflect_decode.specs.Taking.{Leaves}
use Rattle.reflect_message.specs.Names.{Value}
use Rattle.reflect_decode.proofs.Filling.{under_both, under_other, under_own}
use Rattle.reflect_decode.proofs.Joining.{Joins}
use Rattle.reflect_decode.proofs.Owning.{extension_same}

module _ (inner : Takes) (m : MessageDescriptor) where
  pub extended_none : (a : List (ℕ × Value)) → FillsExtensions inner m a a []
  extended_none a = record { each = λ x owns free. refl; behind = λ f owns. refl }

  pub extended_both : Joins inner → (a b c : List (ℕ × Value)) (rs ts : List (ℕ × Payload)) → FillsExtensions inner m a b rs → FillsExtensions inner m b c ts → FillsExtensions inner m a c (rs ++ ts)
  extended_both joins a b c rs ts h k = record {
    each = λ x owns free. let n = (extension_type x).number in under_both inner (extension_pool x) (extension_type x) (value_at a n) (value_at b n) joins (value_at c n) rs ts (h.each x owns free) (k.each x owns free);
    behind = λ f owns. k.behind f owns ∙ h.behind f owns;
  }

  -- records of a number whose records no extension has
  pub extended_apart : (a b : List (ℕ × Value)) (n : ℕ) (run : List Payload × Payload) → ((x : ExtensionDescriptor) → OwnsExtension m x → NoField m (extension_type x).number → (extension_type x).number ≢ n) → b ≡ a
      → FillsExtensions inner m a b (run_records n run)
  extended_apart a b n run none same = record {
    each = λ x owns free. under_other inner (extension_pool x) (extension_type x) _ _ n run (λ e. none x owns free (sym e)) (ap (λ l. value_at l (extension_type x).number) same);
    behind = λ f owns. ap (λ l. value_at l (field_type f).number) same;
  }

  -- records of an extension
  module _ (y : ExtensionDescriptor) (owns : OwnsExtension m y) (n : ℕ) (is : (extension_type y).number ≡ n) (none : NoField m n) (a b : List (ℕ × Value)) (run : List Payload × Payload)
      (others : (k : ℕ) → k ≢ n → Same a b k) (leaves : Leaves inner (extension_pool y) (extension_type y) (value_at a n) (value_at b n) (run.0 ++ run.1 ∷ [])) where
    extended_each : (x : ExtensionDescriptor) → OwnsExtension m x → Leaves inner (extension_pool x) (extension_type x) (value_at a (extension_type x).number) (value_at b (extension_type x).number) (payloads (extension_type x).number (run_records n run))
    extended_each x owned = by ((extension_type x).number == n) refl where
      result : ℕ → ℕ → Type 0
      result k n = Leaves inner (extension_pool x) (extension_type x) (value_at a k) (value_at b k) (payloads (extension_type x).number (run_records n run))

      by : (t : Bool) → ((extension_type x).number == n) ≡ t → result (extension_type x).number n
      by true e =
          let same : (extension_type x).number ≡ n = grind (arith, e) in
          let mine = extension_same m x y owned owns (same ∙ sym is) inner _ _ (run.0 ++ run.1 ∷ []) leaves in
          subst (λ k. result k n) (sym same) (subst (result n) same (under_own inner (extension_pool x) (extension_type x) _ _ run mine))
      by false e =
          let other : (extension_type x).number ≢ n = λ same. absurd (grind (arith, e, same)) in
          under_other inner (extension_pool x) (extension_type x) _ _ n run (λ e. other (sym e)) (others (extension_type x).number other)

    pub extended_run : FillsExtensions inner m a b (run_records n run)
    extended_run = record { each = λ x owned free. extended_each x owned; behind = λ f owned. others (field_type f).number (none f owned) }

-- extensions that held nothing hold what the records leave
pub extended_empty : (inner : Takes) (m : MessageDescriptor) (a b : List (ℕ × Value)) (rs : List (ℕ × Payload)) → a ≡ [] → FillsExtensions inner m a b rs → HoldExtensions inner m b rs
extended_empty inner m a b rs none h = let held = subst (λ l. FillsExtensions inner m l b rs) none h in (λ x owns. held.each x owns, λ f owns. held.behind f owns)
