-- What is read of a record's options, and why they are refused, is so of the declaration's.
use Rattle.std.specs.Prelude.{IfErr, IfOk, Option, Result, Ok, Err}
use Rattle.descriptor_records.specs.declared.options.Options.{Options}
use Rattle.reflect_dynamic.specs.StoredOptions.{OfItsOptions}

module _ {X E : Type 0} (has : Option Options → Type 0) (o : Option Options) (own : has o) where
  pub read_of : (P : Option Options → X → Type 0) (r : Result X E) → IfOk r (P o)
      → IfOk r (λ x. OfItsOptions has (λ options. P options x))
  read_of P (Ok x) p = (o, own, p)
  read_of P (Err e) p = p

  pub refused_of : (P : Option Options → E → Type 0) (r : Result X E) → IfErr r (P o)
      → IfErr r (λ e. OfItsOptions has (λ options. P options e))
  refused_of P (Ok x) p = p
  refused_of P (Err e) p = (o, own, p)
