-- A call on the session that a slot holds is a call on the slot.
use Rattle.std.proofs.Common.{◌≡◌, ℕ, sym, subst}
use Rattle.std.specs.Prelude.{Option, Some}
use Rattle.schema_slot.specs.Calls.{Call, On}
use Rattle.schema_slot.specs.Codes.{number_of}
use Rattle.schema_slot.specs.declared.code.Code.{Code}
use Rattle.schema_slot.specs.declared.session.Session.{Session}

pub on_session : (Does : Call) (before : Option Session) (n : ℕ) (after : Option Session) (old : Session) (c : Code) (new : Session)
    → before ≡ Some old → n ≡ number_of c → after ≡ Some new → Does old c new → On Does before n after
on_session Does before n after old c new was told is does = subst (λ before. On Does before n after) (sym was) (c, new, told, is, does)
