-- The value of what stands behind a minus.
use Rattle.protox_lex.specs.declared.error.LexErrorKind.TheVariants as kinds
use Rattle.protox_lex.specs.declared.literal.Int.{Int}
use Rattle.protox_lex.specs.declared.span.Span.{Span}
use Rattle.protox_options.specs.declared.option_rules.Negated.{Negated}
use Rattle.protox_options.specs.declared.option_rules.Negated.TheVariants as negates
use Rattle.protox_tokens.specs.Refusal.{fault_view, lex_fault}
use Rattle.protox_tokens.specs.declared.fault.Stop.{Stop}
use Rattle.protox_tokens.specs.declared.fault.Stop.TheVariants.{Memory, Refused}
use Rattle.protox_tree.specs.Tree.{Value, int_value, float_value, minus_word}
use Rattle.protox_tree.specs.View.{value_view}
use Rattle.protox_tree.specs.declared.option.OptionValue.{OptionValue}
use Rattle.std.specs.Prelude.{◌≡◌, ◌^◌, nat_le, true, false, Result, Ok, Err}

-- The value, of which the place is known from the minus on.
abbrev pub negated_value : Negated → Span → Value
negated_value (negates.Int n) at = int_value (record { negative = true; value = n; span = at })
negated_value (negates.Float t) at = float_value true (record { text = t.now; span = at })
negated_value (negates.Word t) at = minus_word (record { text = t.now; span = at })

-- This value, unless memory ran out.
abbrev pub IsValue : Value → Result OptionValue Stop → Type 0
IsValue v (Ok x) = value_view x ≡ v
IsValue v (Err e) = e ≡ Memory

-- This integer where it is at least -2^63, and the fault that it is not elsewhere.
abbrev pub IsInt : Int → Result OptionValue Stop → Type 0
IsInt n (Ok x) = (nat_le n.value (2 ^ 63) ≡ true) × (value_view x ≡ int_value n)
IsInt n (Err Memory) = ⊥
IsInt n (Err (Refused f)) =
    (nat_le n.value (2 ^ 63) ≡ false) × (fault_view f ≡ lex_fault kinds.IntegerOutOfRange n.span)

abbrev pub IsNegative : Negated → Span → Result OptionValue Stop → Type 0
IsNegative (negates.Int n) at r = IsInt (record { negative = true; value = n; span = at }) r
IsNegative (negates.Float t) at r = IsValue (negated_value (negates.Float t) at) r
IsNegative (negates.Word t) at r = IsValue (negated_value (negates.Word t) at) r
