-- A statement that nothing nests in, read by one rule or by the choices of a message.
use Rattle.protox_fields.specs.FieldGrammar.{extensions}
use Rattle.protox_lex.specs.Token.{ident}
use Rattle.protox_fields.specs.StatementGrammar.{flat_item}
use Rattle.protox_options.proofs.Behind.{Answers, behind, refused}
use Rattle.protox_options.specs.OptionGrammar.{option}
use Rattle.protox_options.specs.RangeGrammar.{reserved}
use Rattle.protox_tokens.specs.Parser.{Outcome, Parser, and_then, ◌>>=◌, ◌<$>◌, pure, sees, choose}
use Rattle.protox_tokens.specs.Reads.{Fails}
use Rattle.protox_tokens.specs.Stream.{Stream}
use Rattle.protox_tokens.specs.declared.fault.Stop.{Stop}
use Rattle.protox_tree.specs.Nest.{Item, item_extensions, item_reserved, item_option}
use Rattle.protox_tree.specs.NestView.{item_view}
use Rattle.protox_tree.specs.declared.message.MessageItem.{MessageItem}
use Rattle.std.proofs.Common.{◌≡◌, ◌∙◌, Bool, true, false, Option, Some, None, Ok, Err, ap, refl, subst}
use Rattle.std.specs.Prelude.{codes, if◌then◌else◌, option_map}

-- q reads what is no such statement
module _ (q : Parser Item) where
  abbrev pub unless : Option Item → Parser Item
  unless (Some i) = pure i
  unless None = q

  abbrev pub choices : Parser Item
  choices =
      choose (sees (ident (codes "extensions"))) (item_extensions <$> extensions)
      (choose (sees (ident (codes "reserved"))) (item_reserved <$> reserved)
      (choose (sees (ident (codes "option"))) (item_option <$> option) q))

  mapped : {A : Type 0} (f : A → Item) (o : Outcome A) → and_then (and_then o (λ x. pure (Some (f x)))) unless ≡ and_then o (λ x. pure (f x))
  mapped f (Ok x) = refl
  mapped f (Err e) = refl

  same : (ts : Stream) → (flat_item >>= unless) ts ≡ choices ts
  unfolding flat_item
  same ts = by (sees (ident (codes "extensions")) ts) (sees (ident (codes "reserved")) ts) (sees (ident (codes "option")) ts) where
    by : (a b c : Bool) → and_then (if a then ((λ x. Some (item_extensions x)) <$> extensions) ts else if b then ((λ x. Some (item_reserved x)) <$> reserved) ts else if c then ((λ x. Some (item_option x)) <$> option) ts else Ok (None, ts)) unless
        ≡ (if a then (item_extensions <$> extensions) ts else if b then (item_reserved <$> reserved) ts else if c then (item_option <$> option) ts else q ts)
    by true b c = mapped item_extensions (extensions ts)
    by false true c = mapped item_reserved (reserved ts)
    by false false true = mapped item_option (option ts)
    by false false false = refl

  pub flat_behind : {P : Outcome Item → Type 0} {ts r : Stream} {found o : Option MessageItem} → found ≡ o → flat_item ts ≡ Ok (option_map item_view found, r) → Answers P (unless (option_map item_view o)) r → Answers P choices ts
  flat_behind {P = P} {ts = ts} {r = r} e f h =
      record { so = subst P (same ts) (behind flat_item unless (f ∙ ap (λ o. Ok (option_map item_view o, r)) e) h).so }

  pub flat_refused : {ts : Stream} (e : Stop) → Fails e (flat_item ts) → Answers (Fails e) choices ts
  flat_refused {ts = ts} e h = record { so = subst (Fails e) (same ts) (refused flat_item unless e h).so }
