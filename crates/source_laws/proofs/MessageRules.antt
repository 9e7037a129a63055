-- Messages, as they are read, have identifiers for names.
use Rattle.std.proofs.Common.{ℕ, zero, suc, codes, List, [], ◌∷◌, Option, Some, None}
use Rattle.protox_fields.proofs.FieldLaws.{Local-extensions, Local-here, Local-label}
use Rattle.protox_fields.specs.FieldGrammar.{Labelled, plain_field}
use Rattle.protox_lex.specs.Token.{ident, sign}
use Rattle.protox_lex.specs.declared.span.Span.{Span}
use Rattle.protox_lex.specs.declared.token.Sign.TheVariants as s
use Rattle.protox_messages.specs.MessageGrammar.{Block, added_unless, added_with, all_added_with, block, extend_with, field_with, group_if, group_with, inside_with, item_unless, item_with, items_with, member_unless, member_with, members_with, message_with, oneof_with}
use Rattle.protox_options.proofs.NameLaws.{Local-int, Local-type_name}
use Rattle.protox_options.proofs.OptionLaws.{Local-option, Local-options}
use Rattle.protox_options.proofs.RangeLaws.{Local-reserved}
use Rattle.protox_tokens.proofs.Local.{Local-eat, Local-expect}
use Rattle.protox_tokens.specs.Marks.{Each}
use Rattle.protox_tokens.specs.Parser.{Parser}
use Rattle.protox_tokens.specs.Refusal.{too_deep}
use Rattle.protox_tree.specs.Nest.{AddedItem, Item, Member, added_of, items_of, members_of}
use Rattle.source_laws.proofs.Giving.{Gives, gives-after, gives-any, gives-bind, gives-choose, gives-map, gives-none, gives-pure, gives-until, gives-word}
use Rattle.source_laws.proofs.NameRules.{gives-enum, gives-type}
use Rattle.source_laws.specs.TreeNames.{AreNamedAdded, AreNamedItems, AreNamedMembers, IsNamedAdded, IsNamedExtend, IsNamedField, IsNamedItem, IsNamedMember, IsNamedMessage, IsNamedOneof}

-- ---- chains

items_named : (is : List Item) → Each IsNamedItem is → AreNamedItems (items_of is)
items_named [] h = tt
items_named (i ∷ is) h = (h.0, items_named is h.1)

members_named : (ms : List Member) → Each IsNamedMember ms → AreNamedMembers (members_of ms)
members_named [] h = tt
members_named (m ∷ ms) h = (h.0, members_named ms h.1)

added_named : (fs : List AddedItem) → Each IsNamedAdded fs → AreNamedAdded (added_of fs)
added_named [] h = tt
added_named (f ∷ fs) h = (h.0, added_named fs h.1)

-- ---- rules

gives-plain : (p : Span) (l : Labelled) → Gives IsNamedField (plain_field p l)
unfolding plain_field
gives-plain p l = gives-bind gives-type (λ k kind. gives-bind gives-word (λ w named.
    gives-after (Local-expect _) (λ e.
    gives-after Local-int (λ n. gives-after Local-options (λ os.
    gives-after (Local-expect _) (λ q. gives-pure _ (named, kind)))))))

abbrev IsNamedBlock : Block → Type 0
IsNamedBlock b = Each IsNamedItem b.0

module _ (inner : Parser Block) (inside : Gives IsNamedBlock inner) where
  gives-group : (p : Span) (l : Labelled) (w : Span) → Gives IsNamedField (group_with inner p l w)
  unfolding group_with
  gives-group p l w = gives-bind gives-word (λ n named. gives-after (Local-expect _) (λ e.
      gives-after Local-int (λ i. gives-after Local-options (λ os.
      gives-bind inside (λ b hs. gives-pure _ (named, items_named b.0 hs))))))

  gives-group_if : (p : Span) (l : Labelled) (o : Option Span)
      → Gives IsNamedField (group_if inner p l o)
  gives-group_if p l (Some w) = gives-group p l w
  gives-group_if p l None = gives-plain p l

  gives-field : Gives IsNamedField (field_with inner)
  unfolding field_with
  gives-field = gives-after Local-here (λ p. gives-after Local-label (λ l.
      gives-after (Local-eat (ident (codes "group"))) (λ o. gives-group_if p l o)))

  pub gives-message : Gives IsNamedMessage (message_with inner)
  unfolding message_with
  gives-message = gives-after (Local-expect _) (λ p. gives-bind gives-word (λ w named.
      gives-bind inside (λ b hs. gives-pure _ (named, items_named b.0 hs))))

  gives-member_unless : (o : Option Span) → Gives IsNamedMember (member_unless inner o)
  gives-member_unless (Some p) = gives-pure _ tt
  gives-member_unless None =
      gives-choose _ (gives-map _ (gives-any Local-option) (λ x any. tt))
      (gives-map _ gives-field (λ f h. h))

  gives-member : Gives IsNamedMember (member_with inner)
  unfolding member_with
  gives-member = gives-after (Local-eat _) gives-member_unless

  gives-members : Gives (Each IsNamedMember) (members_with inner)
  unfolding members_with
  gives-members = gives-until (sign s.RightBrace) gives-member

  gives-oneof : Gives IsNamedOneof (oneof_with inner)
  unfolding oneof_with
  gives-oneof = gives-after (Local-expect _) (λ p. gives-bind gives-word (λ w named.
      gives-after (Local-expect _) (λ b. gives-bind gives-members (λ ms hs.
      gives-after (Local-expect _) (λ q. gives-pure _ (named, members_named ms hs))))))

  gives-added_unless : (o : Option Span) → Gives IsNamedAdded (added_unless inner o)
  gives-added_unless (Some p) = gives-pure _ tt
  gives-added_unless None = gives-map _ gives-field (λ f h. h)

  gives-added : Gives IsNamedAdded (added_with inner)
  unfolding added_with
  gives-added = gives-after (Local-eat _) gives-added_unless

  gives-all_added : Gives (Each IsNamedAdded) (all_added_with inner)
  unfolding all_added_with
  gives-all_added = gives-until (sign s.RightBrace) gives-added

  pub gives-extend : Gives IsNamedExtend (extend_with inner)
  unfolding extend_with
  gives-extend = gives-after (Local-expect _) (λ p. gives-after Local-type_name (λ t.
      gives-after (Local-expect _) (λ e. gives-bind gives-all_added (λ fs hs.
      gives-after (Local-expect _) (λ q. gives-pure _ (added_named fs hs))))))

  gives-item_unless : (o : Option Span) → Gives IsNamedItem (item_unless inner o)
  gives-item_unless (Some p) = gives-pure _ tt
  gives-item_unless None =
      gives-choose _ (gives-map _ gives-message (λ x h. h))
      (gives-choose _ (gives-map _ gives-enum (λ x h. h))
      (gives-choose _ (gives-map _ gives-extend (λ x h. h))
      (gives-choose _ (gives-map _ (gives-any Local-extensions) (λ x any. tt))
      (gives-choose _ (gives-map _ (gives-any Local-reserved) (λ x any. tt))
      (gives-choose _ (gives-map _ (gives-any Local-option) (λ x any. tt))
      (gives-choose _ (gives-map _ gives-oneof (λ x h. h))
      (gives-map _ gives-field (λ x h. h))))))))

  gives-item : Gives IsNamedItem (item_with inner)
  unfolding item_with
  gives-item = gives-after (Local-eat _) gives-item_unless

  gives-items : Gives (Each IsNamedItem) (items_with inner)
  unfolding items_with
  gives-items = gives-until (sign s.RightBrace) gives-item

  gives-inside : Gives IsNamedBlock (inside_with inner)
  unfolding inside_with
  gives-inside =
      gives-bind gives-items (λ is hs. gives-after (Local-expect _) (λ q. gives-pure _ hs))

pub gives-block : (levels : ℕ) → Gives IsNamedBlock (block levels)
unfolding block
gives-block zero = gives-after (Local-expect _) (λ brace. gives-none (λ ts. too_deep brace))
gives-block (suc levels) = gives-after (Local-expect _) (λ brace.
    gives-bind (gives-inside (block levels) (gives-block levels)) (λ x hs. gives-pure _ hs))
