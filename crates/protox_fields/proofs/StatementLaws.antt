-- What flat statements and heads take of the tokens.
use Rattle.protox_fields.proofs.FieldLaws.{Local-extensions}
use Rattle.protox_fields.specs.StatementGrammar.{flat_item, oneof_head, extend_head}
use Rattle.protox_options.proofs.NameLaws.{Local-type_name}
use Rattle.protox_options.proofs.OptionLaws.{Local-option}
use Rattle.protox_options.proofs.RangeLaws.{Local-reserved}
use Rattle.protox_tokens.proofs.Local.{Local-bind, Local-pure, Local-choose, Local-expect, Local-word, of_head-sees, Keeps, Keeps-local, Moves, Moves-first, Moves-expect}

pub Keeps-flat : Keeps flat_item
unfolding flat_item
Keeps-flat = Keeps-local
    (Local-choose _ (of_head-sees _) _ _ (Local-bind Local-extensions (λ x. Local-pure _))
    (Local-choose _ (of_head-sees _) _ _ (Local-bind Local-reserved (λ x. Local-pure _))
    (Local-choose _ (of_head-sees _) _ _ (Local-bind Local-option (λ x. Local-pure _)) (Local-pure _))))

pub Moves-oneof_head : Moves oneof_head
unfolding oneof_head
Moves-oneof_head = Moves-first (Moves-expect _) (λ p. Keeps-local (Local-bind Local-word (λ w.
    Local-bind (Local-expect _) (λ b. Local-pure _))))

pub Moves-extend_head : Moves extend_head
unfolding extend_head
Moves-extend_head = Moves-first (Moves-expect _) (λ p. Keeps-local (Local-bind Local-type_name (λ t.
    Local-bind (Local-expect _) (λ b. Local-pure _))))
