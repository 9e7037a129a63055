-- What the older grammar reads is read in the same way.
use Rattle.protox_declarations.specs.EnumGrammar.{enumeration}
use Rattle.protox_fields.specs.FieldGrammar.{Labelled, extensions, label}
use Rattle.protox_file.specs.FileGrammar.{file_item_unless, file_item, file_items, file, syntax}
use Rattle.protox_file.specs.OlderGrammar.{last_has_end, options_behind, older_extensions, older_item, older_items, older_inside, older_block, older_file_item, older_file_items, older_file, SpellsOlder}
use Rattle.protox_file.specs.Sources.{Spells}
use Rattle.protox_lex.specs.Class.{Text}
use Rattle.protox_lex.specs.Token.{Token, ident, sign}
use Rattle.protox_lex.specs.declared.span.Span.{Span}
use Rattle.protox_messages.specs.MessageGrammar.{Block, group_with, group_if, field_with, message_with, member_unless, member_with, members_with, oneof_with, added_unless, added_with, all_added_with, extend_with, item_unless, item_with, items_with, inside_with, block}
use Rattle.protox_options.specs.NameGrammar.{type_name, an_int}
use Rattle.protox_options.specs.OptionGrammar.{option, options_after, options}
use Rattle.protox_options.specs.RangeGrammar.{ranges, reserved}
use Rattle.protox_tokens.specs.Parser.{Outcome, Parser, and_then, ◌>>=◌, ◌<$>◌, pure, same, is, value_of, sees, eat, taken, expect_in, expect, goes_on, loop_from, loop, when, choose, word, here}
use Rattle.protox_tokens.specs.Refusal.{this}
use Rattle.protox_tokens.specs.Stream.{Stream, Seen, source, peek, is_over}
use Rattle.protox_tokens.specs.Span.{across}
use Rattle.protox_tokens.proofs.Steps.{same_is, eat_none}
use Rattle.protox_tree.specs.FileTree.{FileItem, file_message, file_extend, File}
use Rattle.protox_tree.specs.Nest.{Extensions, Item, item_message, item_extend, item_extensions, item_oneof, item_field, item_enum, item_reserved, item_option, member_field, member_option, added_field}
use Rattle.protox_tree.specs.Tree.{OptionList}
use Rattle.protox_tree.specs.declared.range.ReservedRange.{ReservedRange}
use Rattle.std.proofs.Common.{◌≡◌, ℕ, zero, suc, Bool, true, false, not, List, [], ◌∷◌, length, Option, Some, None, Ok, Err, refl, ap, sym, ◌∙◌}
use Rattle.std.specs.Prelude.{if◌then◌else◌, codes, is_some}
use Rattle.protox_lex.specs.declared.token.Sign.TheVariants as s

-- ---- a parser that reads all that another one reads

pub record Extends {A : Type 0} (p q : Parser A) : Type 0 where
  pub at : (ts : Stream) (x : A × Stream) → p ts ≡ Ok x → q ts ≡ Ok x

Extends-refl : {A : Type 0} (p : Parser A) → Extends p p
Extends-refl p = record { at = λ ts x h. h }

read_first : {A B : Type 0} (o : Outcome A) (f : A → Parser B) (x : B × Stream) → and_then o f ≡ Ok x → (y : A × Stream) × (o ≡ Ok y) × (f y.0 y.1 ≡ Ok x)
read_first (Ok y) f x h = (y, refl, h)
read_first (Err e) f x h = absurd cc

Extends-bind : {A B : Type 0} {p q : Parser A} {f g : A → Parser B} → Extends p q → ((a : A) → Extends (f a) (g a)) → Extends (p >>= f) (q >>= g)
Extends-bind {p = p} {q = q} {f = f} {g = g} e more = record {
  at = λ ts x h.
      let first = read_first (p ts) f x h in
      ap (λ o. and_then o g) (e.at ts first.0 first.1) ∙ (more first.0.0).at first.0.1 x first.2;
}

Extends-then : {A B : Type 0} (p : Parser A) {f g : A → Parser B} → ((a : A) → Extends (f a) (g a)) → Extends (p >>= f) (p >>= g)
Extends-then p more = Extends-bind (Extends-refl p) more

Extends-pure : {A : Type 0} (a : A) → Extends (pure a) (pure a)
Extends-pure a = Extends-refl (pure a)

Extends-map : {A B : Type 0} (c : A → B) {p q : Parser A} → Extends p q → Extends (c <$> p) (c <$> q)
Extends-map c e = Extends-bind e (λ a. Extends-pure (c a))

Extends-choose : {A : Type 0} (f : Stream → Bool) {p q u v : Parser A} → Extends p u → Extends q v → Extends (choose f p q) (choose f u v)
Extends-choose {A = A} f {p = p} {q = q} {u = u} {v = v} e d = record { at = λ ts x h. by ts x (f ts) refl h } where
  by : (ts : Stream) (x : A × Stream) (b : Bool) → f ts ≡ b → choose f p q ts ≡ Ok x → choose f u v ts ≡ Ok x
  by ts x true is h = rw is (e.at ts x (rw is at h))
  by ts x false is h = rw is (d.at ts x (rw is at h))

Extends-when : {A : Type 0} (f : Stream → Bool) {p q : Parser A} → Extends p q → Extends (when f p) (when f q)
Extends-when f e = Extends-choose f (Extends-map Some e) (Extends-refl (λ ts. Ok (None, ts)))

Extends-goes : {A : Type 0} (o : Option A) {p q : Parser (List A)} → Extends p q → Extends (goes_on o p) (goes_on o q)
Extends-goes None e = Extends-refl (pure [])
Extends-goes (Some x) e = Extends-map (λ xs. x ∷ xs) e

Extends-loop_from : {A : Type 0} {p q : Parser (Option A)} → Extends p q → (n : ℕ) → Extends (loop_from p n) (loop_from q n)
unfolding loop_from
Extends-loop_from e zero = Extends-refl _
Extends-loop_from e (suc n) = Extends-bind e (λ o. Extends-goes o (Extends-loop_from e n))

Extends-loop : {A : Type 0} {p q : Parser (Option A)} → Extends p q → Extends (loop p) (loop q)
unfolding loop
Extends-loop e = record { at = λ ts x h. (Extends-loop_from e (suc (length ts))).at ts x h }

-- ---- messages, whose blocks read more

module _ (inner outer : Parser Block) (e : Extends inner outer) where
  Extends-group_if : (p : Span) (l : Labelled) (o : Option Span) → Extends (group_if inner p l o) (group_if outer p l o)
  unfolding group_with
  Extends-group_if p l (Some w) = Extends-then word (λ n. Extends-then (expect (sign s.Equals)) (λ d. Extends-then an_int (λ i. Extends-then options (λ os. Extends-bind e (λ b. Extends-pure _)))))
  Extends-group_if p l None = Extends-refl _

  Extends-field : Extends (field_with inner) (field_with outer)
  unfolding field_with
  Extends-field = Extends-then here (λ p. Extends-then label (λ l. Extends-then (eat (ident (codes "group"))) (Extends-group_if p l)))

  pub Extends-message : Extends (message_with inner) (message_with outer)
  unfolding message_with
  Extends-message = Extends-then (expect (ident (codes "message"))) (λ p. Extends-then word (λ w. Extends-bind e (λ b. Extends-pure _)))

  Extends-member_unless : (o : Option Span) → Extends (member_unless inner o) (member_unless outer o)
  Extends-member_unless (Some p) = Extends-refl _
  Extends-member_unless None = Extends-choose (sees (ident (codes "option"))) (Extends-refl (member_option <$> option)) (Extends-map member_field Extends-field)

  Extends-members : Extends (members_with inner) (members_with outer)
  unfolding members_with member_with
  Extends-members = Extends-loop (Extends-when (λ ts. not (sees (sign s.RightBrace) ts)) (Extends-then (eat (sign s.Semicolon)) Extends-member_unless))

  Extends-oneof : Extends (oneof_with inner) (oneof_with outer)
  unfolding oneof_with
  Extends-oneof = Extends-then (expect (ident (codes "oneof"))) (λ p. Extends-then word (λ w. Extends-then (expect (sign s.LeftBrace)) (λ b.
      Extends-bind Extends-members (λ ms. Extends-then (expect (sign s.RightBrace)) (λ q. Extends-pure _)))))

  Extends-added_unless : (o : Option Span) → Extends (added_unless inner o) (added_unless outer o)
  Extends-added_unless (Some p) = Extends-refl _
  Extends-added_unless None = Extends-map added_field Extends-field

  Extends-all_added : Extends (all_added_with inner) (all_added_with outer)
  unfolding all_added_with added_with
  Extends-all_added = Extends-loop (Extends-when (λ ts. not (sees (sign s.RightBrace) ts)) (Extends-then (eat (sign s.Semicolon)) Extends-added_unless))

  pub Extends-extend : Extends (extend_with inner) (extend_with outer)
  unfolding extend_with
  Extends-extend = Extends-then (expect (ident (codes "extend"))) (λ p. Extends-then type_name (λ t. Extends-then (expect (sign s.LeftBrace)) (λ b.
      Extends-bind Extends-all_added (λ fs. Extends-then (expect (sign s.RightBrace)) (λ q. Extends-pure _)))))

  Extends-item_unless : (o : Option Span) → Extends (item_unless inner o) (item_unless outer o)
  Extends-item_unless (Some p) = Extends-refl _
  Extends-item_unless None =
      Extends-choose (sees (ident (codes "message"))) (Extends-map item_message Extends-message)
      (Extends-choose (sees (ident (codes "enum"))) (Extends-refl (item_enum <$> enumeration))
      (Extends-choose (sees (ident (codes "extend"))) (Extends-map item_extend Extends-extend)
      (Extends-choose (sees (ident (codes "extensions"))) (Extends-refl (item_extensions <$> extensions))
      (Extends-choose (sees (ident (codes "reserved"))) (Extends-refl (item_reserved <$> reserved))
      (Extends-choose (sees (ident (codes "option"))) (Extends-refl (item_option <$> option))
      (Extends-choose (sees (ident (codes "oneof"))) (Extends-map item_oneof Extends-oneof) (Extends-map item_field Extends-field)))))))

  Extends-item : Extends (item_with inner) (item_with outer)
  unfolding item_with
  Extends-item = Extends-then (eat (sign s.Semicolon)) Extends-item_unless

-- ---- what comes next

-- a token that is seen is the one ahead
ahead_is : (k : Token) (o : Seen) → is_some (value_of (is k) o) ≡ true → (at : Span) × (o ≡ Some (k, at))
ahead_is k None e = absurd cc
ahead_is k (Some (t, p)) e = by (same t k) refl e where
  by : (b : Bool) → same t k ≡ b → is_some (if b then Some p else None) ≡ true → (at : Span) × (◌≡◌ {A = Seen} (Some (t, p)) (Some (k, at)))
  by true h e = (p, ap (λ x. Some (x, p)) (same_is t k h))
  by false h e = absurd cc

seen_if : (k : Token) (o : Seen) (ts : Stream) → peek source ts ≡ o → sees k ts ≡ is_some (value_of (is k) o)
seen_if k o ts e = ap (λ x. is_some (value_of (is k) x)) e

-- what is expected and read was seen
was_seen : (k : Token) (ts : Stream) (x : Span × Stream) → expect k ts ≡ Ok x → sees k ts ≡ true
unfolding expect_in
was_seen k ts x h = by (value_of (is k) (peek source ts)) refl h where
  by : (o : Option Span) → value_of (is k) (peek source ts) ≡ o → taken source (this k) o ts ≡ Ok x → sees k ts ≡ true
  by (Some at) e h = ap is_some e
  by None e h = absurd cc

-- ---- statements of extension ranges

-- where one sign is read, another is not eaten
no_bracket : (ts : Stream) (x : Span × Stream) → expect (sign s.Semicolon) ts ≡ Ok x → options ts ≡ Ok (None, ts)
unfolding options
no_bracket ts x h =
    let a = ahead_is (sign s.Semicolon) (peek source ts) (was_seen (sign s.Semicolon) ts x h) in
    let none : sees (sign s.LeftBracket) ts ≡ false = seen_if (sign s.LeftBracket) (Some (sign s.Semicolon, a.0)) ts a.1 in
    ap (λ o. and_then o options_after) (eat_none (sign s.LeftBracket) ts none)

abbrev close_with : Span → List ReservedRange → Option OptionList → Parser Extensions
close_with first rs os = expect (sign s.Semicolon) >>= (λ close. pure (record { ranges = rs; options = os; span = across first close }))

Extends-options : (first : Span) (rs : List ReservedRange) → Extends (options_behind rs >>= close_with first rs) (options >>= close_with first rs)
Extends-options first rs = record { at = λ ts x h. by ts x (last_has_end rs) refl h } where
  by : (ts : Stream) (x : Extensions × Stream) (b : Bool) → last_has_end rs ≡ b → ((if b then options else pure None) >>= close_with first rs) ts ≡ Ok x
      → (options >>= close_with first rs) ts ≡ Ok x
  by ts x true e h = h
  by ts x false e h =
      let first_read = read_first (expect (sign s.Semicolon) ts) _ x h in
      ap (λ o. and_then o (close_with first rs)) (no_bracket ts first_read.0 first_read.1) ∙ h

Extends-extensions : Extends older_extensions extensions
unfolding older_extensions extensions
Extends-extensions = Extends-then (expect (ident (codes "extensions"))) (λ first. Extends-then ranges (λ rs. Extends-options first rs))

-- ---- messages

unless_extensions : (outer : Parser Block) (ts : Stream) → sees (ident (codes "message")) ts ≡ false → sees (ident (codes "enum")) ts ≡ false → sees (ident (codes "extend")) ts ≡ false
    → sees (ident (codes "extensions")) ts ≡ true → item_unless outer None ts ≡ (item_extensions <$> extensions) ts
unless_extensions outer ts a b c d = rw (a, b, c, d) refl

at_extensions : (outer : Parser Block) (ts : Stream) → sees (ident (codes "extensions")) ts ≡ true → item_with outer ts ≡ (item_extensions <$> extensions) ts
unfolding item_with
at_extensions outer ts h =
    let a = ahead_is (ident (codes "extensions")) (peek source ts) h in
    let not_seen : (k : Token) → is_some (value_of (is k) (Some (ident (codes "extensions"), a.0))) ≡ false → sees k ts ≡ false = λ k e. seen_if k (Some (ident (codes "extensions"), a.0)) ts a.1 ∙ e in
    ap (λ o. and_then o (item_unless outer)) (eat_none (sign s.Semicolon) ts (not_seen (sign s.Semicolon) refl))
    ∙ unless_extensions outer ts (not_seen (ident (codes "message")) refl) (not_seen (ident (codes "enum")) refl) (not_seen (ident (codes "extend")) refl) h

older_at : (inner : Parser Block) (ts : Stream) (b : Bool) → sees (ident (codes "extensions")) ts ≡ b
    → older_item inner ts ≡ (if b then (item_extensions <$> older_extensions) ts else item_with inner ts)
older_at inner ts b is = rw is refl

Extends-older_item : (inner outer : Parser Block) → Extends inner outer → Extends (older_item inner) (item_with outer)
Extends-older_item inner outer e = record { at = λ ts x h. by ts x (sees (ident (codes "extensions")) ts) refl h } where
  by : (ts : Stream) (x : Item × Stream) (b : Bool) → sees (ident (codes "extensions")) ts ≡ b → older_item inner ts ≡ Ok x → item_with outer ts ≡ Ok x
  by ts x true is h = at_extensions outer ts is ∙ (Extends-map item_extensions Extends-extensions).at ts x (sym (older_at inner ts true is) ∙ h)
  by ts x false is h = (Extends-item inner outer e).at ts x (sym (older_at inner ts false is) ∙ h)

Extends-inside : (inner outer : Parser Block) → Extends inner outer → Extends (older_inside inner) (inside_with outer)
unfolding older_inside older_items inside_with items_with
Extends-inside inner outer e = Extends-bind (Extends-loop (Extends-when (λ ts. not (sees (sign s.RightBrace) ts)) (Extends-older_item inner outer e))) (λ is. Extends-then (expect (sign s.RightBrace)) (λ close. Extends-pure _))

Extends-block : (levels : ℕ) → Extends (older_block levels) (block levels)
unfolding older_block block
Extends-block zero = Extends-refl _
Extends-block (suc levels) =
    Extends-then (expect (sign s.LeftBrace)) (λ brace. Extends-bind (Extends-inside (older_block levels) (block levels) (Extends-block levels)) (λ x. Extends-pure _))

-- ---- files

unless_message : (ts : Stream) → sees (ident (codes "import")) ts ≡ false → sees (ident (codes "package")) ts ≡ false → sees (ident (codes "message")) ts ≡ true
    → file_item_unless None ts ≡ (file_message <$> message_with (block 31)) ts
unless_message ts a b c = rw (a, b, c) refl

at_message : (ts : Stream) → sees (ident (codes "message")) ts ≡ true → file_item ts ≡ (file_message <$> message_with (block 31)) ts
unfolding file_item
at_message ts h =
    let a = ahead_is (ident (codes "message")) (peek source ts) h in
    let not_seen : (k : Token) → is_some (value_of (is k) (Some (ident (codes "message"), a.0))) ≡ false → sees k ts ≡ false = λ k e. seen_if k (Some (ident (codes "message"), a.0)) ts a.1 ∙ e in
    ap (λ o. and_then o file_item_unless) (eat_none (sign s.Semicolon) ts (not_seen (sign s.Semicolon) refl))
    ∙ unless_message ts (not_seen (ident (codes "import")) refl) (not_seen (ident (codes "package")) refl) h

unless_extend : (ts : Stream) → sees (ident (codes "import")) ts ≡ false → sees (ident (codes "package")) ts ≡ false → sees (ident (codes "message")) ts ≡ false
    → sees (ident (codes "enum")) ts ≡ false → sees (ident (codes "service")) ts ≡ false → sees (ident (codes "extend")) ts ≡ true
    → file_item_unless None ts ≡ (file_extend <$> extend_with (block 31)) ts
unless_extend ts a b c d e f = rw (a, b, c, d, e, f) refl

at_extend : (ts : Stream) → sees (ident (codes "extend")) ts ≡ true → file_item ts ≡ (file_extend <$> extend_with (block 31)) ts
unfolding file_item
at_extend ts h =
    let a = ahead_is (ident (codes "extend")) (peek source ts) h in
    let not_seen : (k : Token) → is_some (value_of (is k) (Some (ident (codes "extend"), a.0))) ≡ false → sees k ts ≡ false = λ k e. seen_if k (Some (ident (codes "extend"), a.0)) ts a.1 ∙ e in
    ap (λ o. and_then o file_item_unless) (eat_none (sign s.Semicolon) ts (not_seen (sign s.Semicolon) refl))
    ∙ unless_extend ts (not_seen (ident (codes "import")) refl) (not_seen (ident (codes "package")) refl) (not_seen (ident (codes "message")) refl)
    (not_seen (ident (codes "enum")) refl) (not_seen (ident (codes "service")) refl) h

older_file_at : (ts : Stream) (b c : Bool) → sees (ident (codes "message")) ts ≡ b → sees (ident (codes "extend")) ts ≡ c
    → older_file_item ts ≡ (if b then (file_message <$> message_with (older_block 31)) ts else if c then (file_extend <$> extend_with (older_block 31)) ts else file_item ts)
older_file_at ts b c is has = rw (is, has) refl

Extends-file_item : Extends older_file_item file_item
Extends-file_item = record { at = λ ts x h. by ts x (sees (ident (codes "message")) ts) refl (sees (ident (codes "extend")) ts) refl h } where
  by : (ts : Stream) (x : FileItem × Stream) (b : Bool) → sees (ident (codes "message")) ts ≡ b → (c : Bool) → sees (ident (codes "extend")) ts ≡ c → older_file_item ts ≡ Ok x → file_item ts ≡ Ok x
  by ts x true is c has h =
      at_message ts is ∙ (Extends-map file_message (Extends-message (older_block 31) (block 31) (Extends-block 31))).at ts x (sym (older_file_at ts true c is has) ∙ h)
  by ts x false is true has h =
      at_extend ts has ∙ (Extends-map file_extend (Extends-extend (older_block 31) (block 31) (Extends-block 31))).at ts x (sym (older_file_at ts false true is has) ∙ h)
  by ts x false is false has h = sym (older_file_at ts false false is has) ∙ h

Extends-file : Extends older_file file
unfolding older_file older_file_items file file_items
Extends-file = Extends-then syntax (λ statement. Extends-bind (Extends-loop (Extends-when (λ ts. not (is_over ts)) Extends-file_item)) (λ is. Extends-pure _))

pub older_spells : (z : Text) (tree : File) → SpellsOlder z tree → Spells z tree
older_spells z tree h = (h.0, h.1, Extends-file.at h.0 (tree, []) h.2)
