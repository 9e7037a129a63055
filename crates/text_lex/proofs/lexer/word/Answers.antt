use Rattle.std.proofs.Common.{rules, ◌≡◌, ◌∙◌, ap, sym, subst, true, take, slice_index, IsCharBoundary, Ok}
use Rattle.protox_lex.specs.Class.{is_in, past}
use Rattle.protox_lex.specs.declared.class.Class.TheVariants as class
use Rattle.text_lex.specs.Token.{ident, token}
use Rattle.text_lex.proofs.Direct.{word_boundary, word_front}
use Rattle.text_lex.proofs.lexer.word.Goals as goal

pub range-requires-clause-end_boundary : goal.range-requires-clause-end_boundary
range-requires-clause-end_boundary c =
    let z = c.args.rest.now in
    let letter : is_in class.Letter (slice_index z 0) ≡ true = search rules in
    let is : c.past-end.result ≡ past class.Word z 1 = c.past-end.ensures.value ∙ ap (λ t. past class.Word t 1) c.as_bytes-bytes.ensures.value in
    subst (IsCharBoundary z) (sym is) (word_boundary z c.utf8.rest c.requires.some letter)

pub returns : goal.returns
returns c at =
    let z = c.args.rest.now in
    let letter : is_in class.Letter (slice_index z 0) ≡ true = search rules in
    let is : c.past-end.result ≡ past class.Word z 1 = c.past-end.ensures.value ∙ ap (λ t. past class.Word t 1) c.as_bytes-bytes.ensures.value in
    word_front at z c.requires.begins letter ∙ ap (λ n. Ok (token (ident (take n z)), n)) (sym is) ∙ search rules
