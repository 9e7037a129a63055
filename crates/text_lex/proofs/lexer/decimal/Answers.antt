use Rattle.std.proofs.Common.{rules, arith, ◌≡◌, ◌||◌, ◌==◌, ◌∙◌, ap, sym, subst, true, false, take, slice_index, IsCharBoundary, Ok}
use Rattle.protox_lex.specs.Class.{is_in, past}
use Rattle.protox_lex.specs.declared.class.Class.TheVariants as class
use Rattle.text_lex.specs.Lex.{int_of}
use Rattle.text_lex.specs.Token.{token}
use Rattle.text_lex.proofs.Direct.{decimal_front, digits_boundary}
use Rattle.text_lex.proofs.lexer.decimal.Goals as goal

pub integer_to-requires : goal.integer_to-requires
integer_to-requires c =
    let z = c.args.rest.now in
    let digit : is_in class.Digit (slice_index z 0) ≡ true = search rules in
    let is : c.past-end.result ≡ past class.Digit z 0 = c.past-end.ensures.value ∙ ap (λ t. past class.Digit t 0) c.as_bytes-bytes.ensures.value in
    subst (IsCharBoundary z) (sym is) (digits_boundary z c.utf8.rest digit)

pub returns : goal.returns
returns c at =
    let z = c.args.rest.now in
    let end = c.past-end.result in
    let same = c.as_bytes-bytes.ensures.value in
    let is : end ≡ past class.Digit z 0 = c.past-end.ensures.value ∙ ap (λ t. past class.Digit t 0) same in
    let digit : is_in class.Digit (slice_index z 0) ≡ true = search rules in
    let first : (slice_index z 0 == 48) ≡ false = search (rules, arith) in
    let here = subst (λ t. (is_in class.Letter (slice_index t end) || slice_index t end == 46) ≡ false) same (sym c.is_at_letter_or_point.ensures ∙ c.if-is_at_letter_or_point.false) in
    decimal_front at z digit first (subst (λ n. (is_in class.Letter (slice_index z n) || slice_index z n == 46) ≡ false) is here)
    ∙ ap (λ n. Ok (token (int_of (take n z)), n)) (sym is) ∙ ap (λ t. Ok (token t, end)) (sym c.integer_to.ensures)
