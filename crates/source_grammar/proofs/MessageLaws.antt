-- What the rules of messages read: from what the braces inside are to those of one level more.
use Rattle.std.proofs.Common.{[], ◌≡◌, ℕ, zero, suc, true, false, List, ◌∷◌, Option, Some, None, Ok, Err, refl, ap, sym, subst, ◌∙◌, inl, inr, ◌⊎◌}
use Rattle.std.specs.Prelude.{codes}
use Rattle.protox_fields.specs.FieldGrammar.{Labelled}
use Rattle.protox_lex.specs.Class.{Text}
use Rattle.protox_lex.specs.Token.{Token, ident, sign}
use Rattle.protox_lex.specs.declared.literal.Int.{Int}
use Rattle.protox_lex.specs.declared.span.Span.{Span}
use Rattle.protox_lex.specs.declared.token.Sign.TheVariants as s
use Rattle.protox_messages.specs.MessageGrammar.{Block, group_with, group_if, field_with, message_with, member_unless, member_with, members_with, oneof_with, added_unless, added_with, all_added_with, extend_with, item_unless, item_with, items_with, inside_with, block as block_rule}
use Rattle.protox_messages.proofs.MessageLaws.{member_turns, added_turns, item_turns, Local-block}
use Rattle.protox_tree.specs.Nest.{Message, message, Items, no_items, more_items, items_of, Item, item_field, item_oneof, item_message, item_enum, item_extend, item_extensions, item_reserved, item_option, item_empty, Field, field, Kind, normal, group, map_kind, a_group, Oneof, oneof, Members, no_members, more_members, members_of, Member, member_field, member_option, member_empty, Extend, extend, Added, none_added, more_added, added_of, AddedItem, added_field, added_empty}
use Rattle.protox_tree.specs.Tree.{Word, TypeName, scalar, named, OptionList}
use Rattle.protox_tokens.specs.Stream.{Stream, source, peek, span_of}
use Rattle.protox_tokens.specs.Parser.{Parser, ◌>>=◌, pure, same, sees, eat, expect, here}
use Rattle.protox_tokens.specs.Refusal.{Fault, too_deep}
use Rattle.protox_tokens.specs.Span.{across}
use Rattle.protox_tokens.specs.Marks.{spot, IsAny}
use Rattle.protox_tokens.proofs.Local.{Local, good, bound}
use Rattle.protox_tokens.proofs.Both.{IsNamed, Always, Free, then_ok}
use Rattle.protox_tokens.proofs.Steps.{Absent, sees_first, eat_none}
use Rattle.source_grammar.specs.Languages.{Language, never, one, token_at, begins, ends, ◌▸◌, ◌∪◌, if_there, each, given, FirstIsNoneOf, unless, starts}
use Rattle.source_grammar.specs.Names.{a_word, full_name, a_type_name}
use Rattle.source_grammar.specs.Options.{an_option, NoBracket}
use Rattle.source_grammar.specs.Ranges.{a_reserved}
use Rattle.source_grammar.specs.Enums.{an_enum}
use Rattle.source_grammar.specs.Fields.{scalar_word, a_word_if, a_kind, label_word, a_label, label_words, a_numbered, an_extensions}
use Rattle.source_grammar.specs.Messages.{items_in, members_in, added_in, item_words, a_declared, a_field, a_message, a_member, a_oneof, an_added, an_extend, an_item, block}
use Rattle.source_grammar.proofs.Rules.{Rule, rule_as, rule_then, rule_map, rule_last, rule_expect, rule_token, rule_close, rule_eat, first_is}
use Rattle.source_grammar.proofs.NameLaws.{rule_word, rule_int, rule_type_name}
use Rattle.source_grammar.proofs.OptionLaws.{rule_option, rule_options}
use Rattle.source_grammar.proofs.RangeLaws.{rule_reserved}
use Rattle.source_grammar.proofs.EnumLaws.{rule_enum, whole, option_starts, reserved_starts}
use Rattle.source_grammar.proofs.FieldLaws.{LabelEnds, rule_label, rule_plain, rule_extensions, label_in, kind_in, name_in, number_in, options_in, span_in}
use Rattle.source_grammar.proofs.Ahead.{one_seen, begins_misses}
use Rattle.source_grammar.proofs.Choices.{Made, Empty, Choice, choice_word, choice_empty, choice_last, rule_unless, none_misses, rule_under, rule_items}

-- ---- what nests, as lists

items_again : (is : Items) → items_of (items_in is) ≡ is
items_again no_items = refl
items_again (more_items i is) = ap (more_items i) (items_again is)

members_again : (ms : Members) → members_of (members_in ms) ≡ ms
members_again no_members = refl
members_again (more_members m ms) = ap (more_members m) (members_again ms)

added_again : (is : Added) → added_of (added_in is) ≡ is
added_again none_added = refl
added_again (more_added i is) = ap (more_added i) (added_again is)

in_items : (is : List Item) → items_in (items_of is) ≡ is
in_items [] = refl
in_items (i ∷ is) = ap (λ is. i ∷ is) (in_items is)

in_members : (ms : List Member) → members_in (members_of ms) ≡ ms
in_members [] = refl
in_members (m ∷ ms) = ap (λ ms. m ∷ ms) (in_members ms)

in_added : (is : List AddedItem) → added_in (added_of is) ≡ is
in_added [] = refl
in_added (i ∷ is) = ap (λ is. i ∷ is) (in_added is)

-- ---- signs that no field begins with

scalar_no_sign : (k : Token) → ((x : Text) → same (ident x) k ≡ false) → (o : Option Text) (at : Span) (ts r : Stream) → a_word_if o at ts r → sees k ts ≡ false
scalar_no_sign k d None at ts r h = absurd h
scalar_no_sign k d (Some x) at ts r h = sees_first k (spot at (ident x)) [] ts r h ∙ d x

name_no_sign : (k : Token) → ((x : Text) → same (ident x) k ≡ false) → same (sign s.Dot) k ≡ false → (o : Option Span) (ps : List Word) (ts u r : Stream) → if_there (sign s.Dot) o ts u → full_name ps u r → sees k ts ≡ false
name_no_sign k d e None [] ts u r h f = absurd f
name_no_sign k d e None (w ∷ ws) ts u r h f = subst (λ u. sees k u ≡ false) (sym h) (sees_first k (spot w.span (ident w.text)) [] u f.0 f.1 ∙ d w.text)
name_no_sign k d e (Some at) ps ts u r h f = sees_first k (spot at (sign s.Dot)) [] ts u h ∙ e

kind_no_sign : (k : Token) → ((x : Text) → same (ident x) k ≡ false) → same (sign s.Dot) k ≡ false → (t : Kind) (ts r : Stream) → a_kind t ts r → sees k ts ≡ false
kind_no_sign k d e (normal (scalar t at)) ts r h = scalar_no_sign k d (scalar_word t) at ts r h
kind_no_sign k d e (normal (named n)) ts r h = name_no_sign k d e n.leading_dot n.parts ts h.1.0 r h.1.1 h.1.2
kind_no_sign k d e (map_kind m) ts r h = sees_first k (spot h.1.0 (ident (codes "map"))) [] ts h.0 h.1.1 ∙ d (codes "map")
kind_no_sign k d e (group g) ts r h = absurd h

module _ (B : Items → Span → Language) where
  declared_no_sign : (k : Token) → ((x : Text) → same (ident x) k ≡ false) → same (sign s.Dot) k ≡ false → (t : Kind) (n : Word) (i : Int) (os : Option OptionList) (at : Span) (ts r : Stream) → a_declared B t n i os at ts r → sees k ts ≡ false
  declared_no_sign k d e (group (a_group w braces items)) n i os at ts r h = sees_first k (spot w (ident (codes "group"))) [] ts h.0 h.1 ∙ d (codes "group")
  declared_no_sign k d e (normal t) n i os at ts r h = kind_no_sign k d e (normal t) ts h.1.0 h.1.1
  declared_no_sign k d e (map_kind m) n i os at ts r h = kind_no_sign k d e (map_kind m) ts h.1.0 h.1.1

  field_no_sign : (k : Token) → ((x : Text) → same (ident x) k ≡ false) → same (sign s.Dot) k ≡ false → (f : Field) (ts r : Stream) → a_field B f ts r → sees k ts ≡ false
  field_no_sign k d e (field None t n i os at) ts r h = subst (λ u. sees k u ≡ false) (sym h.1.1) (declared_no_sign k d e t n i os at h.1.0 r h.1.2.1)
  field_no_sign k d e (field (Some x) t n i os at) ts r h = sees_first k (spot x.1 (ident (label_word x.0))) [] ts h.1.0 h.1.1 ∙ d (label_word x.0)

module _ (B : Items → Span → Language) where
  pub message_starts : (m : Message) (ts r : Stream) → a_message B m ts r → sees (ident (codes "message")) ts ≡ true
  message_starts (message n braces items at) ts r h = first_is (ident (codes "message")) (ident (codes "message")) (begins at) ts h.0 h.1

  pub extend_starts : (o : Extend) (ts r : Stream) → an_extend B o ts r → sees (ident (codes "extend")) ts ≡ true
  extend_starts (extend n braces ms at) ts r h = first_is (ident (codes "extend")) (ident (codes "extend")) (begins at) ts h.0 h.1

-- ---- fields

-- which kind of field a keyword begins, and with which place
abbrev group_at : Kind → Span → Type 0
group_at (group (a_group w braces items)) at = w ≡ at
group_at (normal t) at = ⊥
group_at (map_kind m) at = ⊥

module _ (B : Items → Span → Language) where
  abbrev GroupRest : Kind → Span → Language
  GroupRest (group (a_group w braces items)) at = given (ends at braces) (B items braces)
  GroupRest (normal t) at = never
  GroupRest (map_kind m) at = never

  abbrev Grouped : Field → Language
  Grouped f = a_numbered (name_in f) (number_in f) (options_in f) (GroupRest (kind_in f) (span_in f))

  abbrev Plain : Field → Language
  Plain f = unless (codes "group" ∷ []) (a_kind (kind_in f) ▸ a_numbered (name_in f) (number_in f) (options_in f) (token_at (sign s.Semicolon) (ends (span_in f))))

  abbrev Declared : Field → Language
  Declared f ts r = (token_at (ident (codes "group")) (group_at (kind_in f)) ▸ Grouped f) ts r ⊎ Plain f ts r

  declared_to : (f : Field) (ts r : Stream) → Declared f ts r → a_declared B (kind_in f) (name_in f) (number_in f) (options_in f) (span_in f) ts r
  declared_to (field l (group (a_group w braces items)) n i os at) ts r (inl h) = (h.0, subst (λ p. one (spot p (ident (codes "group"))) ts h.0) (sym h.1.2) h.1.1, h.2)
  declared_to (field l (group (a_group w braces items)) n i os at) ts r (inr h) = absurd h.1.1
  declared_to (field l (normal t) n i os at) ts r (inl h) = absurd h.1.2
  declared_to (field l (normal t) n i os at) ts r (inr h) = h
  declared_to (field l (map_kind m) n i os at) ts r (inl h) = absurd h.1.2
  declared_to (field l (map_kind m) n i os at) ts r (inr h) = h

  declared_from : (f : Field) (ts r : Stream) → a_declared B (kind_in f) (name_in f) (number_in f) (options_in f) (span_in f) ts r → Declared f ts r
  declared_from (field l (group (a_group w braces items)) n i os at) ts r h = inl (h.0, (w, h.1, refl), h.2)
  declared_from (field l (normal t) n i os at) ts r h = inr h
  declared_from (field l (map_kind m) n i os at) ts r h = inr h

-- ---- steps

-- by a token that begins values of one kind, where more is known of the value
rule_either : {B : Type 0} (k : Token) → IsNamed k → (f : Option Span → Parser B) (P : B → Span → Type 0) {H : Stream → Type 0} {L M : B → Language} {K : B → Type 0} {G : B → Stream → Type 0}
    → ((at : Span) → Rule Always (f (Some at)) L (λ b. P b at × K b) G) → Rule (λ ts. sees k ts ≡ false) (f None) M K G → ((b : B) (ts r : Stream) → M b ts r → sees k ts ≡ false)
    → Rule H (eat k >>= f) (λ b ts r. (token_at k (P b) ▸ L b) ts r ⊎ M b ts r) K G
rule_either {B = B} k is_named f P {H = H} {L = L} {M = M} {K = K} {G = G} first other tails = record {
  sound = λ ts r b h e. let x = bound (eat k ts) f (b, r) e in by ts r b x.0.0 x.0.1 ((rule_eat k is_named {H = H}).sound ts x.0.1 x.0.0 h x.1) x.2;
  complete = λ ts r b h known g. back ts r b h known g;
} where
  by : (ts r : Stream) (b : B) (o : Option Span) (u : Stream) → if_there k o ts u × Unit {0} × Absent k o u → f o u ≡ Ok (b, r) → ((token_at k (P b) ▸ L b) ts r ⊎ M b ts r) × K b × G b r
  by ts r b (Some at) u x e = let y = (first at).sound u r b tt e in (inl (u, (at, x.0, y.1.0), y.0), y.1.1, y.2)
  by ts r b None u x e = let y = other.sound u r b x.2 e in (inr (subst (λ t. M b t r) (sym x.0) y.0), y.1, y.2)

  back : (ts r : Stream) (b : B) → (token_at k (P b) ▸ L b) ts r ⊎ M b ts r → K b → G b r → (eat k >>= f) ts ≡ Ok (b, r)
  back ts r b (inl h) known g = then_ok f ((rule_eat k is_named {H = H}).complete ts h.0 (Some h.1.0) h.1.1 tt tt) ((first h.1.0).complete h.0 r b h.2 (h.1.2, known) g)
  back ts r b (inr h) known g = then_ok f (eat_none k ts (tails b ts r h)) (other.complete ts r b h known g)

-- where what is read begins
rule_here : {B : Type 0} (at : B → Span) {H : Stream → Type 0} {q : Span → Parser B} {L : B → Language} {G : B → Stream → Type 0} → ((p : Span) → Rule Always (q p) L (λ b. begins (at b) p) G) → Rule H (here >>= q) (λ b. starts (at b) (L b)) IsAny G
rule_here at rule = record {
  sound = λ ts r b h e. let x = (rule (span_of (peek source ts))).sound ts r b tt e in ((x.1, x.0), tt, x.2);
  complete = λ ts r b h k g. (rule (span_of (peek source ts))).complete ts r b h.1 h.0 g;
}

abbrev FieldKnown : Span → Labelled → Field → Type 0
FieldKnown p l f = (label_in f ≡ l) × begins (span_in f) p

module _ (inner : Parser Block) (local : Local inner) (B : Items → Span → Language) (law : Rule Always inner (λ b. B (items_of b.0) b.1) IsAny Free)
    (opens : (items : Items) (at : Span) (ts r : Stream) → B items at ts r → sees (sign s.LeftBrace) ts ≡ true) where
  abbrev group_field : Span → Labelled → Span → Word → Int → Option OptionList → Block → Field
  group_field p l w n i os b = field l (group (a_group w b.1 (items_of b.0))) n i os (across p b.1)

  -- a group's braces, which end it
  rule_group_end : (p : Span) (l : Labelled) (w : Span) (n : Word) (i : Int) (os : Option OptionList) → Rule (λ r. NoBracket os r) (inner >>= (λ b. pure (group_field p l w n i os b))) (λ f. GroupRest B (kind_in f) (span_in f))
      (λ f. (options_in f ≡ os) × ((number_in f ≡ i) × (Unit {0} × ((name_in f ≡ n) × (group_at (kind_in f) w × FieldKnown p l f))))) Free
  rule_group_end p l w n i os = rule_map (group_field p l w n i os) (rule_under law) (λ b ts r h f. ((refl, h), (refl, (refl, (tt, (refl, (refl, (refl, refl)))))), tt)) back where
    back : (f : Field) (ts r : Stream) → GroupRest B (kind_in f) (span_in f) ts r → (options_in f ≡ os) × ((number_in f ≡ i) × (Unit {0} × ((name_in f ≡ n) × (group_at (kind_in f) w × FieldKnown p l f)))) → Unit {0}
        → (b : Block) × (group_field p l w n i os b ≡ f) × B (items_of b.0) b.1 ts r × Unit {0}
    back (field m (normal t) o j ps at) ts r h k g = absurd h
    back (field m (map_kind t) o j ps at) ts r h k g = absurd h
    back (field m (group (a_group v braces items)) o j ps at) ts r h k g =
        ((items_in items, braces), made, subst (λ is. B is braces ts r) (sym (items_again items)) h.1, tt) where
          made : group_field p l w n i os (items_in items, braces) ≡ field m (group (a_group v braces items)) o j ps at
          made = ap (λ is. field l (group (a_group w braces is)) n i os (across p braces)) (items_again items)
              ∙ ap (λ q. field l (group (a_group w braces items)) n i os q) (whole at p braces k.1.1.1.1.1.1 h.0)
              ∙ rw (← k.0, ← k.1.0, ← k.1.1.1.0, ← k.1.1.1.1.0, ← k.1.1.1.1.1.0) refl

  group_ends : (f : Field) (ts r : Stream) → GroupRest B (kind_in f) (span_in f) ts r → NoBracket (options_in f) ts
  group_ends (field l (normal t) n i os at) ts r h = absurd h
  group_ends (field l (map_kind m) n i os at) ts r h = absurd h
  group_ends (field l (group (a_group w braces items)) n i None at) ts r h = one_seen source (sign s.LeftBrace) (sign s.LeftBracket) ts refl (opens items braces ts r h.1)
  group_ends (field l (group (a_group w braces items)) n i (Some o) at) ts r h = tt

  rule_group : (p : Span) (l : Labelled) (w : Span) → Rule Always (group_with inner p l w) (Grouped B) (λ f. group_at (kind_in f) w × FieldKnown p l f) Free
  unfolding group_with
  rule_group p l w = rule_then name_in rule_word (λ f ts r h g. tt) (λ n.
      rule_token (sign s.Equals) refl (λ f at. Unit {0}) (λ at.
      rule_then number_in rule_int (λ f ts r h g. tt) (λ i.
      rule_then options_in rule_options (λ f ts r h g. group_ends f ts r h) (λ os. rule_group_end p l w n i os))))

  rule_declared : (p : Span) (l : Labelled) → Rule Always (eat (ident (codes "group")) >>= group_if inner p l) (λ f. a_declared B (kind_in f) (name_in f) (number_in f) (options_in f) (span_in f)) (FieldKnown p l) Free
  rule_declared p l = rule_as (rule_either (ident (codes "group")) refl (group_if inner p l) (λ f. group_at (kind_in f)) (rule_group p l) (rule_unless (codes "group" ∷ []) (rule_plain p l) (λ ts h. (h, tt))) (λ f ts r h. h.0.0))
      (λ f ts r h g. (declared_to B f ts r h, g)) (λ f ts r h g. (declared_from B f ts r h, g))

  abbrev Labelless : Field → Language
  Labelless f = unless (label_words (label_in f)) (a_declared B (kind_in f) (name_in f) (number_in f) (options_in f) (span_in f))

  rule_labelled : (p : Span) (l : Labelled) → Rule (LabelEnds l) (eat (ident (codes "group")) >>= group_if inner p l) Labelless (FieldKnown p l) Free
  rule_labelled p l = record {
    sound = λ ts r f h e. let x = (rule_declared p l).sound ts r f tt e in ((subst (λ l. FirstIsNoneOf (label_words l) ts) (sym x.1.0) h, x.0), x.1, x.2);
    complete = λ ts r f h k g. (rule_declared p l).complete ts r f h.1 k g;
  }

  rule_field : {H : Stream → Type 0} → Rule H (field_with inner) (a_field B) IsAny Free
  unfolding field_with
  rule_field = rule_as (rule_here span_in (λ p. rule_then label_in rule_label (λ f ts r h g. h.0) (λ l. rule_labelled p l))) (λ f ts r h g. (to f ts r h, g)) (λ f ts r h g. (from f ts r h, g)) where
    to : (f : Field) (ts r : Stream) → starts (span_in f) (a_label (label_in f) ▸ Labelless f) ts r → a_field B f ts r
    to (field l k n i os at) ts r h = h

    from : (f : Field) (ts r : Stream) → a_field B f ts r → starts (span_in f) (a_label (label_in f) ▸ Labelless f) ts r
    from (field l k n i os at) ts r h = h

  -- ---- messages

  abbrev message_name : Message → Word
  message_name (message n braces items at) = n

  abbrev message_span : Message → Span
  message_span (message n braces items at) = at

  abbrev MessageRest : Message → Language
  MessageRest (message n braces items at) = given (ends at braces) (B items braces)

  abbrev message_of : Span → Word → Block → Message
  message_of p n b = message n b.1 (items_of b.0) (across p b.1)

  abbrev MessageKnown : Span → Word → Message → Type 0
  MessageKnown p n m = (message_name m ≡ n) × (begins (message_span m) p × IsAny m)

  rule_message_end : (p : Span) (n : Word) {H : Stream → Type 0} → Rule H (inner >>= (λ b. pure (message_of p n b))) MessageRest (MessageKnown p n) Free
  rule_message_end p n = rule_map (message_of p n) (rule_under law) (λ b ts r h f. ((refl, h), (refl, (refl, tt)), tt)) back where
    back : (m : Message) (ts r : Stream) → MessageRest m ts r → MessageKnown p n m → Unit {0} → (b : Block) × (message_of p n b ≡ m) × B (items_of b.0) b.1 ts r × Unit {0}
    back (message o braces items at) ts r h k g = ((items_in items, braces), made, subst (λ is. B is braces ts r) (sym (items_again items)) h.1, tt) where
      made : message_of p n (items_in items, braces) ≡ message o braces items at
      made = ap (λ is. message n braces is (across p braces)) (items_again items) ∙ ap (λ q. message n braces items q) (whole at p braces k.1.0 h.0) ∙ rw (← k.0) refl

  pub rule_message : {H : Stream → Type 0} → Rule H (message_with inner) (a_message B) IsAny Free
  unfolding message_with
  rule_message = rule_as (rule_token (ident (codes "message")) refl (λ m. begins (message_span m)) (λ p. rule_then message_name rule_word (λ m ts r h g. tt) (λ n. rule_message_end p n)))
      (λ m ts r h g. (to m ts r h, g)) (λ m ts r h g. (from m ts r h, g)) where
        to : (m : Message) (ts r : Stream) → (token_at (ident (codes "message")) (begins (message_span m)) ▸ (a_word (message_name m) ▸ MessageRest m)) ts r → a_message B m ts r
        to (message n braces items at) ts r h = h

        from : (m : Message) (ts r : Stream) → a_message B m ts r → (token_at (ident (codes "message")) (begins (message_span m)) ▸ (a_word (message_name m) ▸ MessageRest m)) ts r
        from (message n braces items at) ts r h = h

  -- no field begins with a semicolon or the closing brace
  no_semicolon : (f : Field) (ts r : Stream) → a_field B f ts r → sees (sign s.Semicolon) ts ≡ false
  no_semicolon f ts r h = field_no_sign B (sign s.Semicolon) (λ x. refl) refl f ts r h

  no_brace : (f : Field) (ts r : Stream) → a_field B f ts r → sees (sign s.RightBrace) ts ≡ false
  no_brace f ts r h = field_no_sign B (sign s.RightBrace) (λ x. refl) refl f ts r h

  -- ---- oneofs

  abbrev MemberField : Field → Language
  MemberField f = unless (codes "option" ∷ []) (a_field B f)

  abbrev MemberItem : Member → Language
  MemberItem m = Empty member_empty m ∪ (Made member_option an_option m ∪ Made member_field MemberField m)

  member_choice : Choice (sign s.RightBrace ∷ []) Always (member_with inner) MemberItem
  unfolding member_with
  member_choice = choice_empty member_empty (member_unless inner) (λ at. refl) (refl, tt)
      (choice_word (ident (codes "option")) refl member_option rule_option option_starts (refl, (refl, tt))
      (choice_last member_field (rule_unless (codes "option" ∷ []) rule_field (λ ts h. (h.1, tt))) (λ f ts r h. (h.0.0, (no_semicolon f ts r h.1, (no_brace f ts r h.1, tt))))))

  member_to : (m : Member) (ts r : Stream) → MemberItem m ts r → a_member B m ts r
  member_to m ts r (inl h) = subst (λ m. a_member B m ts r) (sym h.2) h.1
  member_to m ts r (inr (inl h)) = subst (λ m. a_member B m ts r) (sym h.1) h.2
  member_to m ts r (inr (inr h)) = subst (λ m. a_member B m ts r) (sym h.1) h.2

  member_from : (m : Member) (ts r : Stream) → a_member B m ts r → MemberItem m ts r
  member_from (member_empty at) ts r h = inl (at, h, refl)
  member_from (member_option o) ts r h = inr (inl (o, refl, h))
  member_from (member_field f) ts r h = inr (inr (f, refl, h))

  rule_members : {H : Stream → Type 0} → Rule H (members_with inner) (each (a_member B)) IsAny (λ ms r. sees (sign s.RightBrace) r ≡ true)
  unfolding members_with
  rule_members = rule_items (rule_as member_choice.rule (λ m ts r h f. (member_to m ts r h, f)) (λ m ts r h f. (member_from m ts r h, f))) (member_turns inner local) (λ m ts r h. (member_choice.misses m ts r (member_from m ts r h)).0)

  abbrev oneof_name : Oneof → Word
  oneof_name (oneof n braces ms at) = n

  abbrev oneof_braces : Oneof → Span
  oneof_braces (oneof n braces ms at) = braces

  abbrev oneof_members : Oneof → List Member
  oneof_members (oneof n braces ms at) = members_in ms

  abbrev oneof_span : Oneof → Span
  oneof_span (oneof n braces ms at) = at

  abbrev oneof_ends : Oneof → Span → Type 0
  oneof_ends o at = ends (oneof_braces o) at × ends (oneof_span o) at

  made_oneof : (p b q : Span) (n : Word) (ms : List Member) (o : Oneof) → oneof_ends o q → oneof_members o ≡ ms → begins (oneof_braces o) b → oneof_name o ≡ n → begins (oneof_span o) p → oneof n (across b q) (members_of ms) (across p q) ≡ o
  made_oneof p b q n ms (oneof m braces is at) e f g h i =
      ap (λ ms. oneof n (across b q) (members_of ms) (across p q)) (sym f) ∙ ap (λ is. oneof n (across b q) is (across p q)) (members_again is)
      ∙ ap (λ b. oneof n b is (across p q)) (whole braces b q g e.0) ∙ ap (λ p. oneof n braces is p) (whole at p q i e.1) ∙ rw (← h) refl

  abbrev OneofLanguage : Oneof → Language
  OneofLanguage o = token_at (ident (codes "oneof")) (begins (oneof_span o)) ▸ (a_word (oneof_name o) ▸ (token_at (sign s.LeftBrace) (begins (oneof_braces o)) ▸ (each (a_member B) (oneof_members o) ▸ token_at (sign s.RightBrace) (oneof_ends o))))

  rule_oneof_open : Rule Always (oneof_with inner) OneofLanguage IsAny Free
  unfolding oneof_with
  rule_oneof_open = rule_token (ident (codes "oneof")) refl (λ o. begins (oneof_span o)) (λ p.
      rule_then oneof_name rule_word (λ o ts r h g. tt) (λ n.
      rule_token (sign s.LeftBrace) refl (λ o. begins (oneof_braces o)) (λ b.
      rule_then oneof_members rule_members (λ o ts r h g. first_is (sign s.RightBrace) (sign s.RightBrace) (oneof_ends o) ts r h) (λ ms.
      rule_close (sign s.RightBrace) refl (λ q. oneof n (across b q) (members_of ms) (across p q)) oneof_ends (λ q. ((refl, refl), (in_members ms, (refl, (refl, (refl, tt)))))) (λ o q e k. made_oneof p b q n ms o e k.0 k.1.0 k.1.1.0 k.1.1.1.0)))))

  rule_oneof : Rule Always (oneof_with inner) (a_oneof B) IsAny Free
  rule_oneof = rule_as rule_oneof_open (λ o ts r h g. (to o ts r h, g)) (λ o ts r h g. (from o ts r h, g)) where
    to : (o : Oneof) (ts r : Stream) → OneofLanguage o ts r → a_oneof B o ts r
    to (oneof n braces ms at) ts r h = h

    from : (o : Oneof) (ts r : Stream) → a_oneof B o ts r → OneofLanguage o ts r
    from (oneof n braces ms at) ts r h = h

  oneof_starts : (o : Oneof) (ts r : Stream) → a_oneof B o ts r → sees (ident (codes "oneof")) ts ≡ true
  oneof_starts (oneof n braces ms at) ts r h = first_is (ident (codes "oneof")) (ident (codes "oneof")) (begins at) ts h.0 h.1

  -- ---- extends

  abbrev AddedLanguage : AddedItem → Language
  AddedLanguage i = Empty added_empty i ∪ Made added_field (a_field B) i

  added_choice : Choice (sign s.RightBrace ∷ []) Always (added_with inner) AddedLanguage
  unfolding added_with
  added_choice = choice_empty added_empty (added_unless inner) (λ at. refl) (refl, tt) (choice_last added_field rule_field (λ f ts r h. (no_semicolon f ts r h, (no_brace f ts r h, tt))))

  added_to : (i : AddedItem) (ts r : Stream) → AddedLanguage i ts r → an_added B i ts r
  added_to i ts r (inl h) = subst (λ i. an_added B i ts r) (sym h.2) h.1
  added_to i ts r (inr h) = subst (λ i. an_added B i ts r) (sym h.1) h.2

  added_from : (i : AddedItem) (ts r : Stream) → an_added B i ts r → AddedLanguage i ts r
  added_from (added_empty at) ts r h = inl (at, h, refl)
  added_from (added_field f) ts r h = inr (f, refl, h)

  rule_all_added : {H : Stream → Type 0} → Rule H (all_added_with inner) (each (an_added B)) IsAny (λ is r. sees (sign s.RightBrace) r ≡ true)
  unfolding all_added_with
  rule_all_added = rule_items (rule_as added_choice.rule (λ i ts r h f. (added_to i ts r h, f)) (λ i ts r h f. (added_from i ts r h, f))) (added_turns inner local) (λ i ts r h. (added_choice.misses i ts r (added_from i ts r h)).0)

  abbrev extend_name : Extend → TypeName
  extend_name (extend n braces is at) = n

  abbrev extend_braces : Extend → Span
  extend_braces (extend n braces is at) = braces

  abbrev extend_items : Extend → List AddedItem
  extend_items (extend n braces is at) = added_in is

  abbrev extend_span : Extend → Span
  extend_span (extend n braces is at) = at

  abbrev extend_ends : Extend → Span → Type 0
  extend_ends o at = ends (extend_braces o) at × ends (extend_span o) at

  made_extend : (p b q : Span) (n : TypeName) (ms : List AddedItem) (o : Extend) → extend_ends o q → extend_items o ≡ ms → begins (extend_braces o) b → extend_name o ≡ n → begins (extend_span o) p → extend n (across b q) (added_of ms) (across p q) ≡ o
  made_extend p b q n ms (extend m braces is at) e f g h i =
      ap (λ ms. extend n (across b q) (added_of ms) (across p q)) (sym f) ∙ ap (λ is. extend n (across b q) is (across p q)) (added_again is)
      ∙ ap (λ b. extend n b is (across p q)) (whole braces b q g e.0) ∙ ap (λ p. extend n braces is p) (whole at p q i e.1) ∙ rw (← h) refl

  abbrev ExtendLanguage : Extend → Language
  ExtendLanguage o = token_at (ident (codes "extend")) (begins (extend_span o)) ▸ (a_type_name (extend_name o) ▸ (token_at (sign s.LeftBrace) (begins (extend_braces o)) ▸ (each (an_added B) (extend_items o) ▸ token_at (sign s.RightBrace) (extend_ends o))))

  rule_extend_open : {H : Stream → Type 0} → Rule H (extend_with inner) ExtendLanguage IsAny Free
  unfolding extend_with
  rule_extend_open = rule_token (ident (codes "extend")) refl (λ o. begins (extend_span o)) (λ p.
      rule_then extend_name rule_type_name (λ o ts r h g. begins_misses (sign s.Dot) (sign s.LeftBrace) (begins (extend_braces o)) ts h.0 refl h.1) (λ n.
      rule_token (sign s.LeftBrace) refl (λ o. begins (extend_braces o)) (λ b.
      rule_then extend_items rule_all_added (λ o ts r h g. first_is (sign s.RightBrace) (sign s.RightBrace) (extend_ends o) ts r h) (λ ms.
      rule_close (sign s.RightBrace) refl (λ q. extend n (across b q) (added_of ms) (across p q)) extend_ends (λ q. ((refl, refl), (in_added ms, (refl, (refl, (refl, tt)))))) (λ o q e k. made_extend p b q n ms o e k.0 k.1.0 k.1.1.0 k.1.1.1.0)))))

  pub rule_extend : {H : Stream → Type 0} → Rule H (extend_with inner) (an_extend B) IsAny Free
  rule_extend = rule_as rule_extend_open (λ o ts r h g. (to o ts r h, g)) (λ o ts r h g. (from o ts r h, g)) where
    to : (o : Extend) (ts r : Stream) → ExtendLanguage o ts r → an_extend B o ts r
    to (extend n braces ms at) ts r h = h

    from : (o : Extend) (ts r : Stream) → an_extend B o ts r → ExtendLanguage o ts r
    from (extend n braces ms at) ts r h = h

  -- ---- items

  abbrev ItemField : Field → Language
  ItemField f = unless item_words (a_field B f)

  abbrev ItemLanguage : Item → Language
  ItemLanguage i = Empty item_empty i ∪ (Made item_message (a_message B) i ∪ (Made item_enum an_enum i ∪ (Made item_extend (an_extend B) i ∪ (Made item_extensions an_extensions i
      ∪ (Made item_reserved a_reserved i ∪ (Made item_option an_option i ∪ (Made item_oneof (a_oneof B) i ∪ Made item_field ItemField i)))))))

  item_choice : Choice (sign s.RightBrace ∷ []) Always (item_with inner) ItemLanguage
  unfolding item_with
  item_choice = choice_empty item_empty (item_unless inner) (λ at. refl) (refl, tt)
      (choice_word (ident (codes "message")) refl item_message rule_message (message_starts B) (refl, (refl, tt))
      (choice_word (ident (codes "enum")) refl item_enum rule_enum (λ e ts r h. first_is (ident (codes "enum")) (ident (codes "enum")) (begins e.span) ts h.0 h.1) (refl, (refl, (refl, tt)))
      (choice_word (ident (codes "extend")) refl item_extend rule_extend (extend_starts B) (refl, (refl, (refl, (refl, tt))))
      (choice_word (ident (codes "extensions")) refl item_extensions rule_extensions (λ e ts r h. first_is (ident (codes "extensions")) (ident (codes "extensions")) (begins e.span) ts h.0 h.1) (refl, (refl, (refl, (refl, (refl, tt)))))
      (choice_word (ident (codes "reserved")) refl item_reserved rule_reserved reserved_starts (refl, (refl, (refl, (refl, (refl, (refl, tt))))))
      (choice_word (ident (codes "option")) refl item_option rule_option option_starts (refl, (refl, (refl, (refl, (refl, (refl, (refl, tt)))))))
      (choice_word (ident (codes "oneof")) refl item_oneof rule_oneof oneof_starts (refl, (refl, (refl, (refl, (refl, (refl, (refl, (refl, tt))))))))
      (choice_last item_field (rule_unless item_words rule_field (λ ts h. (h.1, (h.0.1, (h.0.0.1, (h.0.0.0.1, (h.0.0.0.0.1, (h.0.0.0.0.0.1, (h.0.0.0.0.0.0.1, tt)))))))))
      (λ f ts r h. let m = none_misses item_words ts h.0 in (m.0, (m.1.0, (m.1.1.0, (m.1.1.1.0, (m.1.1.1.1.0, (m.1.1.1.1.1.0, (m.1.1.1.1.1.1.0, (no_semicolon f ts r h.1, (no_brace f ts r h.1, tt))))))))))))))))))

  item_to : (i : Item) (ts r : Stream) → ItemLanguage i ts r → an_item B i ts r
  item_to i ts r (inl h) = subst (λ i. an_item B i ts r) (sym h.2) h.1
  item_to i ts r (inr (inl h)) = subst (λ i. an_item B i ts r) (sym h.1) h.2
  item_to i ts r (inr (inr (inl h))) = subst (λ i. an_item B i ts r) (sym h.1) h.2
  item_to i ts r (inr (inr (inr (inl h)))) = subst (λ i. an_item B i ts r) (sym h.1) h.2
  item_to i ts r (inr (inr (inr (inr (inl h))))) = subst (λ i. an_item B i ts r) (sym h.1) h.2
  item_to i ts r (inr (inr (inr (inr (inr (inl h)))))) = subst (λ i. an_item B i ts r) (sym h.1) h.2
  item_to i ts r (inr (inr (inr (inr (inr (inr (inl h))))))) = subst (λ i. an_item B i ts r) (sym h.1) h.2
  item_to i ts r (inr (inr (inr (inr (inr (inr (inr (inl h)))))))) = subst (λ i. an_item B i ts r) (sym h.1) h.2
  item_to i ts r (inr (inr (inr (inr (inr (inr (inr (inr h)))))))) = subst (λ i. an_item B i ts r) (sym h.1) h.2

  item_from : (i : Item) (ts r : Stream) → an_item B i ts r → ItemLanguage i ts r
  item_from (item_empty at) ts r h = inl (at, h, refl)
  item_from (item_message m) ts r h = inr (inl (m, refl, h))
  item_from (item_enum e) ts r h = inr (inr (inl (e, refl, h)))
  item_from (item_extend e) ts r h = inr (inr (inr (inl (e, refl, h))))
  item_from (item_extensions x) ts r h = inr (inr (inr (inr (inl (x, refl, h)))))
  item_from (item_reserved x) ts r h = inr (inr (inr (inr (inr (inl (x, refl, h))))))
  item_from (item_option o) ts r h = inr (inr (inr (inr (inr (inr (inl (o, refl, h)))))))
  item_from (item_oneof o) ts r h = inr (inr (inr (inr (inr (inr (inr (inl (o, refl, h))))))))
  item_from (item_field f) ts r h = inr (inr (inr (inr (inr (inr (inr (inr (f, refl, h))))))))

  rule_all_items : {H : Stream → Type 0} → Rule H (items_with inner) (each (an_item B)) IsAny (λ is r. sees (sign s.RightBrace) r ≡ true)
  unfolding items_with
  rule_all_items = rule_items (rule_as item_choice.rule (λ i ts r h f. (item_to i ts r h, f)) (λ i ts r h f. (item_from i ts r h, f))) (item_turns inner local) (λ i ts r h. (item_choice.misses i ts r (item_from i ts r h)).0)

  -- ---- braces

  abbrev Inside : Block → Language
  Inside x = each (an_item B) x.0 ▸ one (spot x.1 (sign s.RightBrace))

  abbrev pair_of : List Item → Span → Block
  pair_of is q = (is, q)

  rule_inside : {H : Stream → Type 0} → Rule H (inside_with inner) Inside IsAny Free
  unfolding inside_with
  rule_inside = rule_then (λ (x : Block). x.0) rule_all_items (λ x ts r h g. sees_first (sign s.RightBrace) (spot x.1 (sign s.RightBrace)) [] ts r h) (λ is.
      rule_last (λ (x : Block). x.1) (pair_of is) (rule_expect (sign s.RightBrace) refl) (λ q. (refl, (refl, tt))) (λ x k. ap (λ is. pair_of is x.1) (sym k.0)) (λ x r f. f) (λ x r f. f))

  abbrev Closed : Block → Language
  Closed b = each (an_item B) b.0 ▸ token_at (sign s.RightBrace) (ends b.1)

  rule_closed : (p : Span) → Rule Always (inside_with inner >>= (λ x. pure (pair_of x.0 (across p x.1)))) Closed (λ b. begins b.1 p × IsAny b) Free
  rule_closed p = rule_map (λ (x : Block). pair_of x.0 (across p x.1)) rule_inside (λ x ts r h f. ((h.0, h.1, (x.1, h.2, refl)), (refl, tt), tt))
      (λ b ts r h k g. ((b.0, h.2.0), ap (pair_of b.0) (whole b.1 p h.2.0 k.0 h.2.2), (h.0, h.1, h.2.1), tt))

  rule_level : Rule Always (expect (sign s.LeftBrace) >>= (λ p. inside_with inner >>= (λ x. pure (pair_of x.0 (across p x.1))))) (λ b. token_at (sign s.LeftBrace) (begins b.1) ▸ Closed b) IsAny Free
  rule_level = rule_token (sign s.LeftBrace) refl (λ (b : Block). begins b.1) rule_closed

pub block_opens : (n : ℕ) (items : Items) (at : Span) (ts r : Stream) → block n items at ts r → sees (sign s.LeftBrace) ts ≡ true
block_opens zero items at ts r h = absurd h
block_opens (suc n) items at ts r h = first_is (sign s.LeftBrace) (sign s.LeftBrace) (begins at) ts h.0 h.1

pub rule_block : (n : ℕ) → Rule Always (block_rule n) (λ b. block n (items_of b.0) b.1) IsAny Free
unfolding block_rule
rule_block zero = record { sound = λ ts r b h e. never_opens (bound (expect (sign s.LeftBrace) ts) (λ brace. (λ (ts : Stream). Err (too_deep brace))) (b, r) e).2; complete = λ ts r b h k g. absurd h } where
  never_opens : {X : Type 0} {f : Fault} {y : Block × Stream} → Err f ≡ good y → X
  never_opens e = absurd cc
rule_block (suc n) = rule_as (rule_level (block_rule n) (Local-block n) (block n) (rule_block n) (block_opens n))
    (λ b ts r h g. (subst (λ is. (token_at (sign s.LeftBrace) (begins b.1) ▸ (each (an_item (block n)) is ▸ token_at (sign s.RightBrace) (ends b.1))) ts r) (sym (in_items b.0)) h, g))
    (λ b ts r h g. (subst (λ is. (token_at (sign s.LeftBrace) (begins b.1) ▸ (each (an_item (block n)) is ▸ token_at (sign s.RightBrace) (ends b.1))) ts r) (in_items b.0) h, g))

-- ---- the laws

pub message_law : (n : ℕ) → Rule Always (message_with (block_rule n)) (a_message (block n)) IsAny Free
message_law n = rule_message (block_rule n) (Local-block n) (block n) (rule_block n) (block_opens n)

pub extend_law : (n : ℕ) → Rule Always (extend_with (block_rule n)) (an_extend (block n)) IsAny Free
extend_law n = rule_extend (block_rule n) (Local-block n) (block n) (rule_block n) (block_opens n)
