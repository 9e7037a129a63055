-- A type that is declared has one record.
use Rattle.std.proofs.Common.{◌≡◌, ◌∙◌, ◌<◌, ◌++◌, true, false, List, [], ◌∷◌, Some, None, length, refl, ap, sym, subst, ⊎_elim}
use Rattle.std.proofs.lemmas.Bool.{cases_order}
use Rattle.std.specs.List.{flat_map}
use Rattle.std.specs.Prelude.{Option}
use Rattle.descriptor_records.specs.Content.{EnumContent, ExtensionRangeContent, FieldContent, MessageContent, message, MessageContents, no_messages, more_messages, OneofContent, OptionsContent}
use Rattle.descriptor_records.specs.declared.message.ReservedRange.{ReservedRange}
use Rattle.protox_declaration_records.specs.OptionRecords.{options_of}
use Rattle.protox_lex.specs.Class.{Text}
use Rattle.protox_message_records.specs.MessageRecords.{AreTypes, Declared, IsOfItems, IsType, alone_at, enum_at, extension_ranges_at, extensions_at, fields_from, of_items, of_map, oneof_at, option_at, reserved_names_at, reserved_ranges_at, types_at}
use Rattle.protox_message_records.specs.SyntheticOneofs.{AreNamedAfter, IsFreed, IsNamedAfter, behind_letters, is_taken, names_of}
use Rattle.protox_tree.specs.declared.message.MessageItem.{MessageItem}
use Rattle.protox_tree.specs.declared.types.Syntax.{Syntax}

-- a name that is free is not that of fewer letters than another which is
not_fewer : (taken : List Text) (name a b : Text) (h : IsFreed taken name a) (k : IsFreed taken name b) → h.0 < k.0 → a ≡ b
not_fewer taken name a b h k lt =
    let here : true ≡ false = sym (k.3 h.0 lt) ∙ ap (is_taken taken) (sym h.1) ∙ h.2 in
    absurd (cc)

same_freed : (taken : List Text) (name a b : Text) → IsFreed taken name a → IsFreed taken name b → a ≡ b
same_freed taken name a b h k = ⊎_elim
    (λ e. h.1 ∙ ap (λ n. behind_letters n name) e ∙ sym k.1)
    (λ ne. ⊎_elim (not_fewer taken name a b h k) (λ gt. sym (not_fewer taken name b a k h gt)) ne)
    (cases_order h.0 k.0)

same_named : (taken : List Text) (name : Text) (o p : OneofContent) → IsNamedAfter taken name o → IsNamedAfter taken name p → o ≡ p
same_named taken name o p h k = h.2 ∙ ap (λ n. record { name = Some n; options = None }) (same_freed taken _ h.0 k.0 h.1 k.1) ∙ sym k.2

same_oneofs : (taken names : List Text) (os ps : List OneofContent) → AreNamedAfter taken names os → AreNamedAfter taken names ps → os ≡ ps
same_oneofs taken [] [] [] h k = refl
same_oneofs taken [] [] (p ∷ ps) h k = absurd k
same_oneofs taken [] (o ∷ os) ps h k = absurd h
same_oneofs taken (name ∷ names) [] ps h k = absurd h
same_oneofs taken (name ∷ names) (o ∷ os) [] h k = absurd k
same_oneofs taken (name ∷ names) (o ∷ os) (p ∷ ps) h k =
    ap (λ q. q ∷ os) (same_named taken name o p h.0 k.0) ∙ ap (λ qs. p ∷ qs) (same_oneofs taken names os ps h.1 k.1)

-- ---- messages

module _ (s : Syntax) (name : Text) (items : List MessageItem) where
  taken_in : MessageContents → List Text
  taken_in nested =
      names_of (fields_from s 0 (length (flat_map oneof_at items)) items) (flat_map extensions_at items) nested
      (flat_map enum_at items) (flat_map oneof_at items)

  -- a message of these items, in which these types are, with these oneofs behind its own
  made_of : MessageContents → List OneofContent → MessageContent
  made_of nested more =
      message (Some name) (fields_from s 0 (length (flat_map oneof_at items)) items) (flat_map extensions_at items) nested
      (flat_map enum_at items) (flat_map extension_ranges_at items) (flat_map oneof_at items ++ more)
      (options_of (flat_map option_at items)) (flat_map reserved_ranges_at items) (flat_map reserved_names_at items)

  module _ (given : Option Text) (fields extensions : List FieldContent) (nested : MessageContents) (enums : List EnumContent)
      (ranges : List ExtensionRangeContent) (oneofs : List OneofContent) (options : Option OptionsContent)
      (reserved : List ReservedRange) (names : List Text)
      (h : IsOfItems s name items given fields extensions nested enums ranges oneofs options reserved names) where
    is_made : message given fields extensions nested enums ranges oneofs options reserved names ≡ made_of nested h.oneofs_are.0
    unfolding made_of
    is_made =
        rw (h.named, h.fields_are, h.extensions_are, h.enums_are, h.ranges_are, h.oneofs_are.1, h.options_are, h.reserved_are, h.names_are) refl

    is_named : AreNamedAfter (taken_in nested) (flat_map (alone_at s) items) h.oneofs_are.0
    unfolding taken_in
    is_named = rw (← h.fields_are, ← h.extensions_are, ← h.enums_are) h.oneofs_are.2

  same_made : (a b : MessageContents) (xs ys : List OneofContent) → a ≡ b → AreNamedAfter (taken_in a) (flat_map (alone_at s) items) xs
      → AreNamedAfter (taken_in b) (flat_map (alone_at s) items) ys → made_of a xs ≡ made_of b ys
  same_made a b xs ys e h k =
      ap (made_of a) (same_oneofs (taken_in a) (flat_map (alone_at s) items) xs ys h (subst (λ n. AreNamedAfter (taken_in n) (flat_map (alone_at s) items) ys) (sym e) k))
      ∙ ap (λ n. made_of n ys) e

mutual
  pub one_type : (s : Syntax) (t : Declared) (m n : MessageContent) → IsType s t m → IsType s t n → m ≡ n
  one_type s (of_items name items) (message g1 f1 x1 n1 e1 r1 o1 p1 v1 w1) (message g2 f2 x2 n2 e2 r2 o2 p2 v2 w2) h k =
      is_made s name items g1 f1 x1 n1 e1 r1 o1 p1 v1 w1 h.0
      ∙ same_made s name items n1 n2 h.0.oneofs_are.0 k.0.oneofs_are.0 (one_types s (flat_map types_at items) n1 n2 h.1 k.1)
      (is_named s name items g1 f1 x1 n1 e1 r1 o1 p1 v1 w1 h.0) (is_named s name items g2 f2 x2 n2 e2 r2 o2 p2 v2 w2 k.0)
      ∙ sym (is_made s name items g2 f2 x2 n2 e2 r2 o2 p2 v2 w2 k.0)
  one_type s (of_map name m) (message g1 f1 x1 n1 e1 r1 o1 p1 v1 w1) (message g2 f2 x2 n2 e2 r2 o2 p2 v2 w2) h k = h ∙ sym k

  pub one_types : (s : Syntax) (ts : List Declared) (ms ns : MessageContents) → AreTypes s ts ms → AreTypes s ts ns → ms ≡ ns
  one_types s [] no_messages no_messages h k = refl
  one_types s [] no_messages (more_messages n ns) h k = absurd k
  one_types s [] (more_messages m ms) ns h k = absurd h
  one_types s (t ∷ ts) no_messages ns h k = absurd h
  one_types s (t ∷ ts) (more_messages m ms) no_messages h k = absurd k
  one_types s (t ∷ ts) (more_messages m ms) (more_messages n ns) h k =
      ap (λ x. more_messages x ms) (one_type s t m n h.0 k.0) ∙ ap (λ xs. more_messages n xs) (one_types s ts ms ns h.1 k.1)
