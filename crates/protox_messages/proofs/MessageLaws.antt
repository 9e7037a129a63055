-- The rules of messages look one token ahead, and each turn of their loops takes one.
use Rattle.protox_declarations.proofs.EnumLaws.{Local-enumeration, Moves-enumeration}
use Rattle.protox_fields.proofs.FieldLaws.{Local-here, Local-extensions, Moves-extensions, Local-label, Local-plain, Moves-plain}
use Rattle.protox_fields.specs.FieldGrammar.{Labelled}
use Rattle.protox_lex.specs.Token.{ident, sign}
use Rattle.protox_lex.specs.declared.span.Span.{Span}
use Rattle.protox_messages.specs.MessageGrammar.{Block, group_with, group_if, field_with, message_with, member_unless, member_with, members_with, oneof_with, added_unless, added_with, all_added_with, extend_with, item_unless, item_with, items_with, inside_with, block}
use Rattle.protox_options.proofs.NameLaws.{Local-type_name, Local-int}
use Rattle.protox_options.proofs.OptionLaws.{Local-option, Moves-option, Local-options}
use Rattle.protox_options.proofs.RangeLaws.{Local-reserved, Moves-reserved}
use Rattle.protox_tokens.proofs.Local.{Local, Local-bind, Local-pure, Local-choose, Local-until, Local-expect, Local-word, Local-eat, Local-loop, Local-too_deep, of_head-sees, Keeps-local, Moves, Moves-first, Moves-later, Moves-expect, Moves-word, Moves-eat, Moves-choose, Moves-map, Shortens-when}
use Rattle.protox_tokens.proofs.Loops.{Shortens}
use Rattle.protox_tokens.specs.Parser.{Parser, until}
use Rattle.std.proofs.Common.{ℕ, zero, suc, Option, Some, None}
use Rattle.std.specs.Prelude.{codes}
use Rattle.protox_lex.specs.declared.token.Sign.TheVariants as s

module _ (inner : Parser Block) (local : Local inner) where
  Local-group : (p : Span) (l : Labelled) (w : Span) → Local (group_with inner p l w)
  unfolding group_with
  Local-group p l w = Local-bind Local-word (λ n. Local-bind (Local-expect _) (λ e. Local-bind Local-int (λ i.
      Local-bind Local-options (λ os. Local-bind local (λ b. Local-pure _)))))

  pub Moves-group : (p : Span) (l : Labelled) (w : Span) → Moves (group_with inner p l w)
  unfolding group_with
  Moves-group p l w = Moves-first Moves-word (λ n. Keeps-local (Local-bind (Local-expect _) (λ e. Local-bind Local-int (λ i.
      Local-bind Local-options (λ os. Local-bind local (λ b. Local-pure _))))))

  Local-group_if : (p : Span) (l : Labelled) (o : Option Span) → Local (group_if inner p l o)
  Local-group_if p l (Some w) = Local-group p l w
  Local-group_if p l None = Local-plain p l

  Local-field : Local (field_with inner)
  unfolding field_with
  Local-field = Local-bind Local-here (λ p. Local-bind Local-label (λ l.
      Local-bind (Local-eat (ident (codes "group"))) (Local-group_if p l)))

  pub Moves-field : Moves (field_with inner)
  unfolding field_with
  Moves-field = Moves-later (Keeps-local Local-here) (λ p. Moves-later (Keeps-local Local-label) (λ l.
      Moves-eat (ident (codes "group")) (group_if inner p l) (λ w. Keeps-local (Local-group p l w)) (Moves-plain p l)))

  pub Local-message : Local (message_with inner)
  unfolding message_with
  Local-message =
      Local-bind (Local-expect _) (λ p. Local-bind Local-word (λ w. Local-bind local (λ b. Local-pure _)))

  pub Moves-message : Moves (message_with inner)
  unfolding message_with
  Moves-message = Moves-first (Moves-expect _) (λ p.
      Keeps-local (Local-bind Local-word (λ w. Local-bind local (λ b. Local-pure _))))

  Local-member_unless : (o : Option Span) → Local (member_unless inner o)
  Local-member_unless (Some p) = Local-pure _
  Local-member_unless None = Local-choose _ (of_head-sees _) _ _
      (Local-bind Local-option (λ o. Local-pure _)) (Local-bind Local-field (λ f. Local-pure _))

  Local-member : Local (member_with inner)
  unfolding member_with
  Local-member = Local-bind (Local-eat _) Local-member_unless

  pub Moves-member : Moves (member_with inner)
  unfolding member_with
  Moves-member = Moves-eat _ (member_unless inner) (λ p. Keeps-local (Local-pure _))
      (Moves-choose _ (Moves-map _ Moves-option) (Moves-map _ Moves-field))

  pub member_turns : Shortens (until (sign s.RightBrace) (member_with inner))
  member_turns = Shortens-when _ Moves-member

  Local-members : Local (members_with inner)
  unfolding members_with
  Local-members = Local-loop _ (Local-until _ Local-member) member_turns

  Local-oneof : Local (oneof_with inner)
  unfolding oneof_with
  Local-oneof = Local-bind (Local-expect _) (λ p. Local-bind Local-word (λ w. Local-bind (Local-expect _) (λ b.
      Local-bind Local-members (λ ms. Local-bind (Local-expect _) (λ q. Local-pure _)))))

  pub Moves-oneof : Moves (oneof_with inner)
  unfolding oneof_with
  Moves-oneof = Moves-first (Moves-expect _) (λ p. Keeps-local (Local-bind Local-word (λ w.
      Local-bind (Local-expect _) (λ b. Local-bind Local-members (λ ms.
      Local-bind (Local-expect _) (λ q. Local-pure _))))))

  Local-added_unless : (o : Option Span) → Local (added_unless inner o)
  Local-added_unless (Some p) = Local-pure _
  Local-added_unless None = Local-bind Local-field (λ f. Local-pure _)

  Local-added : Local (added_with inner)
  unfolding added_with
  Local-added = Local-bind (Local-eat _) Local-added_unless

  pub Moves-added : Moves (added_with inner)
  unfolding added_with
  Moves-added = Moves-eat _ (added_unless inner) (λ p. Keeps-local (Local-pure _)) (Moves-map _ Moves-field)

  pub added_turns : Shortens (until (sign s.RightBrace) (added_with inner))
  added_turns = Shortens-when _ Moves-added

  Local-all_added : Local (all_added_with inner)
  unfolding all_added_with
  Local-all_added = Local-loop _ (Local-until _ Local-added) added_turns

  pub Local-extend : Local (extend_with inner)
  unfolding extend_with
  Local-extend = Local-bind (Local-expect _) (λ p. Local-bind Local-type_name (λ t.
      Local-bind (Local-expect _) (λ b. Local-bind Local-all_added (λ fs.
      Local-bind (Local-expect _) (λ q. Local-pure _)))))

  pub Moves-extend : Moves (extend_with inner)
  unfolding extend_with
  Moves-extend = Moves-first (Moves-expect _) (λ p. Keeps-local (Local-bind Local-type_name (λ t.
      Local-bind (Local-expect _) (λ b. Local-bind Local-all_added (λ fs.
      Local-bind (Local-expect _) (λ q. Local-pure _))))))

  Local-item_unless : (o : Option Span) → Local (item_unless inner o)
  Local-item_unless (Some p) = Local-pure _
  Local-item_unless None =
      Local-choose _ (of_head-sees _) _ _ (Local-bind Local-message (λ x. Local-pure _))
      (Local-choose _ (of_head-sees _) _ _ (Local-bind Local-enumeration (λ x. Local-pure _))
      (Local-choose _ (of_head-sees _) _ _ (Local-bind Local-extend (λ x. Local-pure _))
      (Local-choose _ (of_head-sees _) _ _ (Local-bind Local-extensions (λ x. Local-pure _))
      (Local-choose _ (of_head-sees _) _ _ (Local-bind Local-reserved (λ x. Local-pure _))
      (Local-choose _ (of_head-sees _) _ _ (Local-bind Local-option (λ x. Local-pure _))
      (Local-choose _ (of_head-sees _) _ _ (Local-bind Local-oneof (λ x. Local-pure _))
      (Local-bind Local-field (λ x. Local-pure _))))))))

  Local-item : Local (item_with inner)
  unfolding item_with
  Local-item = Local-bind (Local-eat _) Local-item_unless

  pub Moves-item : Moves (item_with inner)
  unfolding item_with
  Moves-item = Moves-eat _ (item_unless inner) (λ p. Keeps-local (Local-pure _))
      (Moves-choose _ (Moves-map _ Moves-message)
      (Moves-choose _ (Moves-map _ Moves-enumeration)
      (Moves-choose _ (Moves-map _ Moves-extend)
      (Moves-choose _ (Moves-map _ Moves-extensions)
      (Moves-choose _ (Moves-map _ Moves-reserved)
      (Moves-choose _ (Moves-map _ Moves-option)
      (Moves-choose _ (Moves-map _ Moves-oneof) (Moves-map _ Moves-field))))))))

  pub item_turns : Shortens (until (sign s.RightBrace) (item_with inner))
  item_turns = Shortens-when _ Moves-item

  Local-items : Local (items_with inner)
  unfolding items_with
  Local-items = Local-loop _ (Local-until _ Local-item) item_turns

  Local-inside : Local (inside_with inner)
  unfolding inside_with
  Local-inside = Local-bind Local-items (λ is. Local-bind (Local-expect _) (λ q. Local-pure _))

pub Local-block : (levels : ℕ) → Local (block levels)
unfolding block
Local-block zero = Local-bind (Local-expect _) (λ p. Local-too_deep p)
Local-block (suc levels) =
    Local-bind (Local-expect _) (λ p. Local-bind (Local-inside (block levels) (Local-block levels)) (λ x. Local-pure _))

pub Moves-block : (levels : ℕ) → Moves (block levels)
unfolding block
Moves-block zero = Moves-first (Moves-expect _) (λ p. Keeps-local (Local-too_deep p))
Moves-block (suc levels) = Moves-first (Moves-expect _) (λ p.
    Keeps-local (Local-bind (Local-inside (block levels) (Local-block levels)) (λ x. Local-pure _)))
