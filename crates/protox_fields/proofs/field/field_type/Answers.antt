use Rattle.protox_fields.proofs.FieldLaws.{Moves-field_type}
use Rattle.protox_fields.specs.FieldGrammar.{ty, field_type}
use Rattle.protox_fields.specs.PlainView.{plain_view}
use Rattle.protox_lex.specs.Token.{ident}
use Rattle.protox_options.proofs.Behind.{Answers, behind, refused, last}
use Rattle.protox_options.proofs.Choices.{chosen, passed}
use Rattle.protox_tokens.specs.Parser.{sees}
use Rattle.protox_tokens.specs.Reads.{Fails, Reads}
use Rattle.protox_tokens.specs.Stream.{stream}
use Rattle.protox_tree.specs.Nest.{normal}
use Rattle.protox_tree.specs.View.{ty_view}
use Rattle.std.proofs.Common.{◌≡◌, ◌∙◌, Ok, refl, sym}
use Rattle.std.proofs.lemmas.Result.{err_from_is_err_and}
use Rattle.std.specs.Prelude.{codes}
use Rattle.protox_fields.proofs.field.field_type.Goals as goal

pub returns-then-sees : goal.returns-then-sees
unfolding field_type
returns-then-sees c =
    let h : Answers (λ o. Reads plain_view o c.map_or_name.result c.map_or_name.new.tokens) field_type (stream c.args.tokens.now) =
    chosen (sees (ident (codes "map"))) _ _ (sym c.sees.ensures ∙ c.if-sees.true) (record { so = c.map_or_name.ensures.reads }) in
    record { reads = h.so; moves = c.map_or_name.ensures.moves }

pub returns-in_err-ty : goal.returns-in_err-ty
unfolding field_type
returns-in_err-ty c =
    let p = err_from_is_err_and c.from_residual.result c.from_residual.ensures.1 in
    let e = c.in_err-ty.field-0.0 in
    let h : Answers (Fails e) field_type (stream c.args.tokens.now) =
    passed (sees (ident (codes "map"))) _ _ (sym c.sees.ensures ∙ c.if-sees.false) (refused ty _ e c.in_err-ty.ensures.reads) in
    rw (p.1, p.2) (record { reads = h.so; moves = tt })

pub returns : goal.returns
unfolding field_type
returns c =
    let h : Answers (λ o. o ≡ Ok (normal (ty_view c.in_ok-ty.ty), stream c.ty.new.tokens)) field_type (stream c.args.tokens.now) =
    passed (sees (ident (codes "map"))) _ _ (sym c.sees.ensures ∙ c.if-sees.false) (behind ty _ c.in_ok-ty.ensures.reads (last _ refl)) in
    record { reads = h.so; moves = Moves-field_type.at _ _ _ h.so }
