-- Messages tell their faults at the first token with which nothing goes on; where no brace may be opened any more, that
-- is the word `message` or `group`, and the fault is told behind it.
use Rattle.std.proofs.Common.{[], ◌≡◌, ℕ, zero, suc, Bool, true, false, ◌∷◌, Ok, Err, refl, inl, inr}
use Rattle.std.specs.Prelude.{codes}
use Rattle.protox_fields.specs.FieldGrammar.{Labelled, plain_field}
use Rattle.protox_lex.specs.Token.{Token, ident, sign}
use Rattle.protox_lex.specs.declared.span.Span.{Span}
use Rattle.protox_lex.specs.declared.token.Sign.TheVariants as signs
use Rattle.protox_messages.specs.MessageGrammar.{Block, group_with, group_if, field_with, message_with, member_unless, member_with, members_with, oneof_with, added_unless, added_with, all_added_with, extend_with, item_unless, item_with, items_with, inside_with, block}
use Rattle.protox_messages.proofs.MessageLaws.{member_turns, added_turns, item_turns, Local-block}
use Rattle.protox_options.specs.NameGrammar.{an_int}
use Rattle.protox_options.specs.OptionGrammar.{options}
use Rattle.protox_options.proofs.NameLaws.{Local-int}
use Rattle.protox_options.proofs.OptionLaws.{Local-options}
use Rattle.protox_tokens.specs.Stream.{Piece, Stream, source, peek, span_of}
use Rattle.protox_tokens.specs.Parser.{Outcome, Parser, ◌>>=◌, ◌<$>◌, sees, eat, expect, word, choose}
use Rattle.protox_tokens.specs.Refusal.{too_deep}
use Rattle.protox_tokens.proofs.Local.{Local, Local-bind, Local-pure, Local-expect, Local-word}
use Rattle.protox_tokens.proofs.Both.{Always}
use Rattle.protox_tree.specs.Nest.{Item, item_field, item_oneof, item_message, item_enum, item_extend, item_extensions, item_reserved, item_option, item_empty, member_field, member_option, member_empty, added_field, added_empty}
use Rattle.source_grammar.specs.Refusals.{OpensBlock}
use Rattle.source_grammar.proofs.ViableTokens.{extend_written, message_written, oneof_written, sign_written}
use Rattle.source_grammar.proofs.Viable.{Viable, viable_then, Any, viable_end, viable_made}
use Rattle.source_grammar.proofs.ViableForms.{If, Else, viable_kinds}
use Rattle.source_grammar.proofs.ViableSteps.{Heads, made_at, made, viable_expect, viable_branch}
use Rattle.source_grammar.proofs.ViableDoomed.{Never, never_first, never_later, doomed_eat, doomed_expect}
use Rattle.source_grammar.proofs.ViableLoops.{Open, viable_items, viable_close}
use Rattle.source_grammar.proofs.ViableNames.{some_word, any_word, viable_type_name, viable_int}
use Rattle.source_grammar.proofs.ViableRanges.{viable_reserved}
use Rattle.source_grammar.proofs.ViableOptions.{Bare, bare_heads, viable_option, viable_options}
use Rattle.source_grammar.proofs.ViableFields.{viable_extensions, NoLabel, label_heads, viable_label, From, viable_here, viable_plain_field}
use Rattle.source_grammar.proofs.ViableDeclarations.{viable_enum}

-- the words before which a field of a message may be put
abbrev Startable : (Stream → Type 0) → Token → Type 0
Startable H k = (at : Span) (s : Stream) → H (made_at at k ∷ s)

-- messages, or else other statements
abbrev pub Messages : Parser Block → Type 1
Messages inner = (H : Stream → Type 0) → Heads H → ((s : Stream) → H (made (ident (codes "message")) ∷ s)) → (q : Parser Item) → Viable OpensBlock (Else H (sees (ident (codes "message")))) q Any
    → Viable OpensBlock H (choose (sees (ident (codes "message"))) (item_message <$> message_with inner) q) Any

-- groups, or else other fields
abbrev pub Groups : Parser Block → Type 1
Groups inner = (H : Stream → Type 0) → Heads H → (first : Span) (l : Labelled) → Viable OpensBlock (Else H (sees (ident (codes "group")))) (plain_field first l) Any → Viable OpensBlock H (eat (ident (codes "group")) >>= group_if inner first l) Any

-- ---- messages and groups, where their blocks go on

module _ (inner : Parser Block) (rule : (i : Bool) → Viable OpensBlock (Bare Always i) inner Any) where
  viable_group : (first : Span) (l : Labelled) (w : Span) → Viable OpensBlock Always (group_with inner first l w) Any
  unfolding group_with
  viable_group first l w =
      viable_then any_word (λ i name. viable_then (viable_expect (sign signs.Equals) (sign_written signs.Equals) Always (λ x t u h. h) refl (λ s. tt)) (λ j e.
      viable_then (viable_int Always (λ x t u h. h) (λ s. tt)) (λ k n. viable_then (viable_options Always (λ x t u h. h)) (λ l os. viable_then (rule l) (λ m b. viable_end _)))))

  pub viable_message : (H : Stream → Type 0) → Heads H → ((s : Stream) → H (made (ident (codes "message")) ∷ s)) → Viable OpensBlock H (message_with inner) Any
  unfolding message_with
  viable_message H heads starts = viable_then (viable_expect (ident (codes "message")) message_written H heads refl starts) (λ i p. viable_then any_word (λ j name. viable_then (rule false) (λ k b. viable_end _)))

  pub open_messages : Messages inner
  open_messages H heads starts q other = viable_kinds (sees (ident (codes "message"))) item_message (viable_message (If H (sees (ident (codes "message")))) (λ x t u h. (heads x t u h.0, h.1)) (λ s. (starts s, refl))) other

  pub open_groups : Groups inner
  open_groups H heads first l other = viable_branch _ source (ident (codes "group")) H heads (group_if inner first l) (viable_group first l) other

-- ---- and where they do not

names_message : (l : Piece) → sees (ident (codes "message")) (l ∷ []) ≡ true → OpensBlock l
names_message l h = inl h

names_group : (l : Piece) → sees (ident (codes "group")) (l ∷ []) ≡ true → OpensBlock l
names_group l h = inr h

module _ (inner : Parser Block) (local : Local inner) (never : Never inner) where
  no_messages : Messages inner
  unfolding message_with
  no_messages H heads starts q other = doomed_expect (ident (codes "message")) item_message _ OpensBlock H heads
      (λ at. Local-bind Local-word (λ w. Local-bind local (λ b. Local-pure _))) (λ at. never_later word (λ w. never_first _ never)) names_message other

  no_groups : Groups inner
  unfolding group_with
  no_groups H heads first l other = doomed_eat (ident (codes "group")) (group_if inner first l) OpensBlock H heads
      (λ w. Local-bind Local-word (λ n. Local-bind (Local-expect (sign signs.Equals)) (λ e. Local-bind Local-int (λ i. Local-bind Local-options (λ os. Local-bind local (λ b. Local-pure _))))))
      (λ w. never_later word (λ n. never_later (expect (sign signs.Equals)) (λ e. never_later an_int (λ i. never_later options (λ os. never_first _ never))))) names_group other

-- ---- what holds such blocks

module _ (inner : Parser Block) (local : Local inner) (messages : Messages inner) (groups : Groups inner) where
  label_start : (H : Stream → Type 0) (w : Token) (at : Span) (s : Stream) → H (made_at at w ∷ s) → (sees (ident (codes "optional")) (made_at at w ∷ s) ≡ false) → (sees (ident (codes "required")) (made_at at w ∷ s) ≡ false) → (sees (ident (codes "repeated")) (made_at at w ∷ s) ≡ false)
      → (span_of (peek source (made_at at w ∷ s)) ≡ at) → (i : Bool) → NoLabel (From H at) i (made_at at w ∷ s)
  label_start H w at s h a b c e true = ((((h, e), a), b), c)
  label_start H w at s h a b c e false = tt

  viable_field : (H : Stream → Type 0) → Heads H → Startable H (ident (codes "map")) → Startable H some_word → Viable OpensBlock H (field_with inner) Any
  unfolding field_with
  viable_field H heads map_starts starts = viable_then (viable_here H) (λ i first. viable_then (viable_label (From H first) (λ x t u h. (heads x t u h.0, h.1))) (λ j l.
      groups (NoLabel (From H first) j) (label_heads (From H first) (λ x t u h. (heads x t u h.0, h.1)) j) first l
      (viable_plain_field (Else (NoLabel (From H first) j) (sees (ident (codes "group")))) (λ x t u h. (label_heads (From H first) (λ x t u h. (heads x t u h.0, h.1)) j x t u h.0, h.1)) first
      (λ s. (label_start H (ident (codes "map")) first s (map_starts first s) refl refl refl refl j, refl)) (λ s. (label_start H some_word first s (starts first s) refl refl refl refl j, refl)) first l)))

  abbrev empty_open : Stream → Type 0
  empty_open = Else Open (sees (sign signs.Semicolon))

  -- ---- oneofs

  viable_member : Viable OpensBlock Open (member_with inner) Any
  unfolding member_with
  viable_member = viable_branch _ source (sign signs.Semicolon) Open (λ x t u h. h) (member_unless inner) (λ at. viable_end (member_empty at))
      (viable_kinds (sees (ident (codes "option"))) member_option (viable_option (If empty_open (sees (ident (codes "option")))) (λ x t u h. h) (λ s. (((tt, refl), refl), refl)))
      (viable_made member_field (viable_field (Else empty_open (sees (ident (codes "option")))) (λ x t u h. h) (λ at s. (((tt, refl), refl), refl)) (λ at s. (((tt, refl), refl), refl)))))

  viable_oneof : (H : Stream → Type 0) → Heads H → ((s : Stream) → H (made (ident (codes "oneof")) ∷ s)) → Viable OpensBlock H (oneof_with inner) Any
  unfolding oneof_with members_with
  viable_oneof H heads starts =
      viable_then (viable_expect (ident (codes "oneof")) oneof_written H heads refl starts) (λ i p. viable_then any_word (λ j name.
      viable_then (viable_expect (sign signs.LeftBrace) (sign_written signs.LeftBrace) Always (λ x t u h. h) refl (λ s. tt)) (λ k brace.
      viable_then (viable_items (member_turns inner local) viable_member) (λ l ms. viable_then viable_close (λ m q. viable_end _)))))

  -- ---- extends

  viable_added : Viable OpensBlock Open (added_with inner) Any
  unfolding added_with
  viable_added = viable_branch _ source (sign signs.Semicolon) Open (λ x t u h. h) (added_unless inner) (λ at. viable_end (added_empty at))
      (viable_made added_field (viable_field empty_open (λ x t u h. h) (λ at s. ((tt, refl), refl)) (λ at s. ((tt, refl), refl))))

  pub viable_extend : (H : Stream → Type 0) → Heads H → ((s : Stream) → H (made (ident (codes "extend")) ∷ s)) → Viable OpensBlock H (extend_with inner) Any
  unfolding extend_with all_added_with
  viable_extend H heads starts =
      viable_then (viable_expect (ident (codes "extend")) extend_written H heads refl starts) (λ i p. viable_then (viable_type_name Always (λ x t u h. h) (λ s. tt)) (λ j name.
      viable_then (viable_expect (sign signs.LeftBrace) (sign_written signs.LeftBrace) (λ s. sees (sign signs.Dot) s ≡ false) (λ x t u h. h) refl (λ s. refl)) (λ k brace.
      viable_then (viable_items (added_turns inner local) viable_added) (λ l fs. viable_then viable_close (λ m q. viable_end _)))))

  -- ---- what may stand in messages

  abbrev no_message : Stream → Type 0
  no_message = Else empty_open (sees (ident (codes "message")))

  abbrev no_enum : Stream → Type 0
  no_enum = Else no_message (sees (ident (codes "enum")))

  abbrev no_extend : Stream → Type 0
  no_extend = Else no_enum (sees (ident (codes "extend")))

  abbrev no_extensions : Stream → Type 0
  no_extensions = Else no_extend (sees (ident (codes "extensions")))

  abbrev no_reserved : Stream → Type 0
  no_reserved = Else no_extensions (sees (ident (codes "reserved")))

  abbrev no_option : Stream → Type 0
  no_option = Else no_reserved (sees (ident (codes "option")))

  abbrev no_oneof : Stream → Type 0
  no_oneof = Else no_option (sees (ident (codes "oneof")))

  viable_item : Viable OpensBlock Open (item_with inner) Any
  unfolding item_with
  viable_item = viable_branch _ source (sign signs.Semicolon) Open (λ x t u h. h) (item_unless inner) (λ at. viable_end (item_empty at))
      (messages empty_open (λ x t u h. h) (λ s. ((tt, refl), refl)) _
      (viable_kinds (sees (ident (codes "enum"))) item_enum (viable_enum (If no_message (sees (ident (codes "enum")))) (λ x t u h. h) (λ s. ((((tt, refl), refl), refl), refl)))
      (viable_kinds (sees (ident (codes "extend"))) item_extend (viable_extend (If no_enum (sees (ident (codes "extend")))) (λ x t u h. h) (λ s. (((((tt, refl), refl), refl), refl), refl)))
      (viable_kinds (sees (ident (codes "extensions"))) item_extensions (viable_extensions (If no_extend (sees (ident (codes "extensions")))) (λ x t u h. h) (λ s. ((((((tt, refl), refl), refl), refl), refl), refl)))
      (viable_kinds (sees (ident (codes "reserved"))) item_reserved (viable_reserved (If no_extensions (sees (ident (codes "reserved")))) (λ x t u h. h) (λ s. (((((((tt, refl), refl), refl), refl), refl), refl), refl)))
      (viable_kinds (sees (ident (codes "option"))) item_option (viable_option (If no_reserved (sees (ident (codes "option")))) (λ x t u h. h) (λ s. ((((((((tt, refl), refl), refl), refl), refl), refl), refl), refl)))
      (viable_kinds (sees (ident (codes "oneof"))) item_oneof (viable_oneof (If no_option (sees (ident (codes "oneof")))) (λ x t u h. h) (λ s. (((((((((tt, refl), refl), refl), refl), refl), refl), refl), refl), refl)))
      (viable_made item_field (viable_field no_oneof (λ x t u h. h) (λ at s. (((((((((tt, refl), refl), refl), refl), refl), refl), refl), refl), refl)) (λ at s. (((((((((tt, refl), refl), refl), refl), refl), refl), refl), refl), refl)))))))))))

  viable_inside : Viable OpensBlock Always (inside_with inner) Any
  unfolding inside_with items_with
  viable_inside = viable_then (viable_items (item_turns inner local) viable_item) (λ i is. viable_then viable_close (λ j q. viable_end _))

brace_start : (i : Bool) (s : Stream) → Bare Always i (made (sign signs.LeftBrace) ∷ s)
brace_start true s = (tt, refl)
brace_start false s = tt

-- No brace may be opened.
never_deep : (at : Span) → Never {A = Block} (λ ts. Err (too_deep at))
never_deep at = record { at = λ ts x e. let wrong : ◌≡◌ {A = Outcome Block} (Err (too_deep at)) (Ok x) = e in absurd cc }

never_block : Never (block 0)
unfolding block
never_block = never_later (expect (sign signs.LeftBrace)) never_deep

-- A block in which some more may be open goes on, also where nothing may be opened in it any more.
pub viable_block : (levels : ℕ) (i : Bool) → Viable OpensBlock (Bare Always i) (block (suc levels)) Any
unfolding block
viable_block zero i = viable_then (viable_expect (sign signs.LeftBrace) (sign_written signs.LeftBrace) (Bare Always i) (bare_heads Always (λ x t u h. h) i) refl (brace_start i)) (λ j brace.
    viable_then (viable_inside (block zero) (Local-block zero) (no_messages (block zero) (Local-block zero) never_block) (no_groups (block zero) (Local-block zero) never_block)) (λ k x. viable_end _))
viable_block (suc levels) i = viable_then (viable_expect (sign signs.LeftBrace) (sign_written signs.LeftBrace) (Bare Always i) (bare_heads Always (λ x t u h. h) i) refl (brace_start i)) (λ j brace.
    viable_then (viable_inside (block (suc levels)) (Local-block (suc levels)) (open_messages (block (suc levels)) (viable_block levels)) (open_groups (block (suc levels)) (viable_block levels))) (λ k x. viable_end _))
