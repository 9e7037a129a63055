use Rattle.std.proofs.Common.{rules, ◌≡◌, sym, ap, ◌∙◌, to_z, of_z, w32, Some, List, Option}
use Rattle.protox_lex.specs.declared.span.Span.{Span}
use Rattle.text_lex.specs.Token.{Lexeme}
use Rattle.protobuf_model.specs.Values.{Single, enumerated}
use Rattle.reflect_pool.specs.Parts.{type_of_value}
use Rattle.text_scalars.specs.Remaining.{remaining}
use Rattle.reflect_format.proofs.Enumerated.{name_read, name_unread}
use Rattle.reflect_format.proofs.scalar.enum_number.Goals as goal

pub returns-in-Some-get_value_by_name-clause-read :
    goal.returns-in-Some-get_value_by_name-clause-read
returns-in-Some-get_value_by_name-clause-read c =
    let e = c.args.descriptor in
    let v = c.in-Some-get_value_by_name.value in
    let same : (type_of_value e.pool.now e.index v.index).number ≡ to_z w32 (of_z w32 c.number.result) = search rules in
    name_read e c.in-Some.name.now c.in-Some.span v.index (remaining c.args.tokens.now) (remaining c.ident.new.self) (sym c.in-Some.ensures.found) c.in-Some.ensures.behind c.in-Some-get_value_by_name.ensures.first
    ∙ ap (λ z. let it : Option (Single × Span × List Lexeme) = Some (enumerated z, c.in-Some.span, remaining c.ident.new.self) in it) same

pub returns-in_ok-unknown_enum_value-in-None-clause-read :
    goal.returns-in_ok-unknown_enum_value-in-None-clause-read
returns-in_ok-unknown_enum_value-in-None-clause-read c =
    name_unread c.args.descriptor c.in-Some.name.now c.in-Some.span (remaining c.args.tokens.now) (remaining c.ident.new.self) c.in_ok-unknown_enum_value-in-None.field-0 (sym c.in-Some.ensures.found) c.in-None.ensures.first
