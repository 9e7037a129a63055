-- What names of fields and of extensions find stays as files come.
use Rattle.std.proofs.Common.{◌≡◌, ℕ, List, Bool, true, false, cond, ◌&&◌, not, is_some, bytes_eq, map, Option, Some, None, refl, sym, ap, ◌∙◌, subst}
use Rattle.std.specs.Char.{to_ascii_lowercase}
use Rattle.std.specs.Option.{option_and_then, option_map}
use Rattle.std.proofs.lemmas.Option.{none-some, option_and_then_some}
use Rattle.descriptor_records.specs.Content.{Text, FieldContent, FileContent}
use Rattle.protobuf_model.specs.Types.{Name}
use Rattle.schema_view.specs.Declarations.{Body, FieldFacts, MessageFacts, facts_of, of_field, of_extension}
use Rattle.schema_view.specs.Fields.{is_group}
use Rattle.schema_view.specs.Files.{join, text_of}
use Rattle.schema_view.specs.Lawful.{is_dotted}
use Rattle.schema_view.specs.Types.{message_in, field_in, body_at, message_at, field_at, field_number, oneof_in, field_named, own_named, extension_named}
use Rattle.schema_view.specs.Views.{Held, View, Grows, when, view_of}
use Rattle.schema_view.proofs.Lists.{first_from}
use Rattle.schema_view.proofs.Road.{AreLinked}
use Rattle.schema_view.proofs.Looking.{Declared, from_there, fields_declared}
use Rattle.schema_view.proofs.Standing.{NamesField, stands, found, message_there}
use Rattle.schema_view.proofs.Growing as growing
use Rattle.texts_view.specs.Named.{called_in, first_called, message_of, is_type_called, if_plain, if_group_called, number_at, plain_or_group, number_called, extension_in, extension_called}

-- what passes a test is what was given
pub when_same : {X : Type 0} (b : Bool) (x y : X) → when b x ≡ Some y → x ≡ y
when_same true x y e = cc
when_same false x y e = absurd (none-some y e)

module _ (fs gs : List FileContent) (l : AreLinked fs) (grow : Grows (view_of fs) (view_of gs)) where
  abbrev V : View
  V = view_of fs

  abbrev W : View
  W = view_of gs

  body_same : (n : Text) → Declared fs n → body_at V n ≡ body_at W n
  body_same = growing.body_same fs gs l grow

  pub message_same : (t : Text) → Declared fs t → message_at V t ≡ message_at W t
  message_same t h = ap (option_and_then message_in) (body_same t h)

  named : (n : Text) (c : FieldContent) → NamesField fs n c → Declared fs n
  named n c (f, d, i, j, e, is) = (f, d, i, j, e)

  pub field_same : (n : Text) (c : FieldContent) → NamesField fs n c → field_at V n ≡ field_at W n
  field_same n c s = ap (option_and_then field_in) (body_same n (named n c s))

  pub message_of_same : (n : Text) (c : FieldContent) → NamesField fs n c → message_of V c ≡ message_of W c
  message_of_same n c s = ap (option_and_then message_in) (growing.type_same fs gs l grow c (stands fs n c s))

  -- ---- a field of a declared message

  -- the name is that of a field, where it is one at all
  abbrev Stands : Option Text → Type 0
  Stands o = (n : Text) → o ≡ Some n → (c : FieldContent) × NamesField fs n c

  called_stands : (t : Name) (w : Text) → Stands (first_called V t w)
  called_stands t w n e =
      option_and_then_some (called_in t w) (message_at V t) n e (λ m is found.
      let x = first_from (λ (f : FieldFacts). when (bytes_eq (text_of f.name) w) (join t (text_of f.name))) m.fields n found in
      let at = message_there fs l t m is in
      let c = fields_declared at.0 t m at.2 x.0 x.1 in
      (c.0, (at.0, record { name = join t (text_of x.0.name); body = of_field c.0 }, at.1, c.1, when_same (bytes_eq (text_of x.0.name) w) (join t (text_of x.0.name)) n x.2, refl)))

  called_same : (t : Name) → Declared fs t → (w : Text) → first_called V t w ≡ first_called W t w
  called_same t h w = ap (option_and_then (called_in t w)) (message_same t h)

  -- a test of what stands under a name keeps the name
  abbrev tested : View → (FieldContent → Bool) → Text → Option Text
  tested v test n = option_and_then (λ f. when (test f) n) (field_at v n)

  tested_stands : (test : FieldContent → Bool) (o : Option Text) → Stands o → Stands (option_and_then (tested V test) o)
  tested_stands test o s n e =
      option_and_then_some (tested V test) o n e (λ m is found.
      option_and_then_some (λ f. when (test f) m) (field_at V m) n found (λ f there passes.
      subst (λ x. (c : FieldContent) × NamesField fs x c) (when_same (test f) m n passes) (s m is)))

  tested_same : (before after : FieldContent → Bool) → ((n : Text) (c : FieldContent) → NamesField fs n c → before c ≡ after c) → (o : Option Text) → Stands o
      → option_and_then (tested V before) o ≡ option_and_then (tested W after) o
  tested_same before after same None s = refl
  tested_same before after same (Some n) s =
      let c = s n refl in
      let here = found fs l n c.0 c.1 in
      ap (option_and_then (λ f. when (before f) n)) here
      ∙ ap (λ b. when b n) (same n c.0 c.1)
      ∙ sym (ap (option_and_then (λ f. when (after f) n)) (sym (field_same n c.0 c.1) ∙ here))

  number_at_same : (n : Text) (c : FieldContent) → NamesField fs n c → number_at V n ≡ number_at W n
  number_at_same n c s = ap (option_map (λ f. field_number (facts_of f))) (field_same n c s)

  pub own_named_same : (t : Name) → Declared fs t → (n : Text) (c : FieldContent) → NamesField fs n c → own_named V t n ≡ own_named W t n
  own_named_same t h n c s =
      growing.field_named_same fs gs l grow false (oneof_in (message_at V t)) n c s
      ∙ ap (λ m. field_named W false (oneof_in m) n) (message_same t h)

  either_same : (t : Name) → Declared fs t → (plain group : Option Text) → Stands plain → Stands group
      → plain_or_group V t plain group ≡ plain_or_group W t plain group
  either_same t h (Some n) g s k =
      let c = s n refl in
      ap (λ o. cond (is_some o) (number_at V n) None) (own_named_same t h n c.0 c.1)
      ∙ ap (λ x. cond (is_some (own_named W t n)) x None) (number_at_same n c.0 c.1)
  either_same t h None None s k = refl
  either_same t h None (Some n) s k = let c = k n refl in number_at_same n c.0 c.1

  pub number_called_same : (t : Name) → Declared fs t → (w : Text) → number_called V t w ≡ number_called W t w
  number_called_same t h w =
      let lower = map to_ascii_lowercase w in
      let plain = tested_same (λ f. not (is_group f)) (λ f. not (is_group f)) (λ n c s. refl) (first_called V t w) (called_stands t w) in
      let group = tested_same (λ f. is_group f && is_type_called V w f) (λ f. is_group f && is_type_called W w f)
      (λ n c s. ap (λ o. is_group c && by_name w o) (message_of_same n c s)) (first_called V t lower) (called_stands t lower) in
      either_same t h (option_and_then (if_plain V) (first_called V t w)) (option_and_then (if_group_called V w) (first_called V t lower))
      (tested_stands (λ f. not (is_group f)) (first_called V t w) (called_stands t w)) (tested_stands (λ f. is_group f && is_type_called V w f) (first_called V t lower) (called_stands t lower))
      ∙ ap (λ p. plain_or_group W t p (option_and_then (if_group_called V w) (first_called V t lower))) (plain ∙ ap (option_and_then (if_plain W)) (called_same t h w))
      ∙ ap (plain_or_group W t (option_and_then (if_plain W) (first_called W t w))) (group ∙ ap (option_and_then (if_group_called W w)) (called_same t h lower)) where
        by_name : Text → Option MessageFacts → Bool
        by_name w o = elim o [ None ↦ false | Some m ↦ bytes_eq (text_of m.name) w ]

  -- ---- an extension

  is_field : (b : Body) (x : FieldContent) → extension_in b ≡ Some x → field_in b ≡ Some x
  is_field (of_extension x) y e = e
  is_field b y e = absurd (none-some y e)

  extension_stands : (n : Text) (b : Body) (x : FieldContent) → body_at V n ≡ Some b → extension_in b ≡ Some x → NamesField fs n x
  extension_stands n b x e is = by (V.declared n) refl e where
    by : (o : Option Held) → V.declared n ≡ o → option_map (λ (h : Held). h.body) o ≡ Some b → NamesField fs n x
    by None i j = absurd (none-some b j)
    by (Some h) i j =
        let at = from_there fs n h i in
        let same : at.1.body ≡ b = cc (at.5, j) in
        (at.0, at.1, at.2, at.3, at.4, subst (λ b. field_in b ≡ Some x) (sym same) (is_field b x is))

  pub extension_called_stays : (t : Name) (w : Text) (n : ℕ) → extension_called V t w ≡ Some n → extension_called W t w ≡ Some n
  extension_called_stays t w n e =
      option_and_then_some (number_in V) (option_and_then extension_in (body_at V w)) n e (λ x is found.
      option_and_then_some extension_in (body_at V w) x is (λ b at inside.
      let s = extension_stands w b x at inside in
      let there : body_at W w ≡ Some b = sym (body_same w (named w x s)) ∙ at in
      ap (λ o. option_and_then (number_in W) (option_and_then extension_in o)) there
      ∙ ap (option_and_then (number_in W)) inside
      ∙ sym (ap (λ o. when (is_dotted t x.extendee && is_some o) (field_number (facts_of x))) (growing.field_named_same fs gs l grow true (λ f. None) w x s))
      ∙ found)) where
        number_in : View → FieldContent → Option ℕ
        number_in v x = when (is_dotted t x.extendee && is_some (extension_named v w)) (field_number (facts_of x))
