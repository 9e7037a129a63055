-- Refusals that are told as others, unless memory ran out.
use Rattle.std.proofs.Common.{Result, Ok, Err, IfErr, OnOk}
use Rattle.option_parts.specs.declared.option_error.OptionErrorKind.{OptionErrorKind}
use Rattle.option_parts.specs.declared.option_error.OptionErrorKind.TheVariants as kinds
use Rattle.option_setter.specs.OptionNames.{UnlessMemory}

pub unless_then : (P Q : OptionErrorKind → Type 0) → ((e : OptionErrorKind) → P e → Q e) → (e : OptionErrorKind) → UnlessMemory P e → UnlessMemory Q e
unless_then P Q f kinds.Memory h = tt
unless_then P Q f e h = f e h

pub err_unless : {A : Type 0} (P Q : OptionErrorKind → Type 0) → ((e : OptionErrorKind) → P e → Q e) → (r : Result A OptionErrorKind) → IfErr r (UnlessMemory P) → IfErr r (UnlessMemory Q)
err_unless P Q f (Ok a) h = tt
err_unless P Q f (Err e) h = unless_then P Q f e h

pub on_ok : {A E : Type 0} (P Q : Type 0) → (P → Q) → (r : Result A E) → OnOk r P → OnOk r Q
on_ok P Q f (Ok a) h = f h
on_ok P Q f (Err e) h = tt
