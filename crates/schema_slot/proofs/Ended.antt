-- A call that is done ends as it is to.
use Rattle.std.proofs.Common.{◌≡◌, sym, subst}
use Rattle.schema_core.specs.declared.error.SchemaError.{SchemaError}
use Rattle.schema_slot.specs.Calls.{EndsAt, Placing, Unless}
use Rattle.schema_slot.specs.Held.{IsFaultless}
use Rattle.schema_slot.specs.declared.code.Code.{Code}
use Rattle.schema_slot.specs.declared.code.Code.TheVariants as code
use Rattle.schema_slot.specs.declared.session.Session.{Session}

pub ends_done : (place : Placing) (Read : Type 0) (Done : Session → Type 0) (Refused : SchemaError → Type 0) (c : Code) (new : Session)
    → c ≡ code.Done → Read → IsFaultless new → Done new → EndsAt place Read Done Refused c new
ends_done place Read Done Refused c new e read whole done = subst (λ c. EndsAt place Read Done Refused c new) (sym e) (read, whole, done)

pub unless_done : (c : Code) (P : Type 0) → c ≡ code.Done → Unless c P
unless_done c P e = subst (λ c. Unless c P) (sym e) tt
