-- Messages that are alike are printed in one text, whatever their unknown records spell.
use Rattle.std.proofs.Common.{◌≡◌, ◌⊎◌, inl, inr, ◌+◌, ◌-◌, ℕ, Bool, true, false, List, [], ◌∷◌, ◌++◌, Some, None, sym, ap, ◌∙◌, subst}
use Rattle.std.specs.Prelude.{codes}
use Rattle.protox_lex.specs.Class.{Text}
use Rattle.reflect_scalar.specs.Keys.{key_view}
use Rattle.reflect_scalar.specs.declared.map_key.MapKey.{MapKey}
use Rattle.reflect_message.specs.Messages.{message_in}
use Rattle.reflect_message.specs.Names.{DynamicMessage, Value}
use Rattle.print_parts.specs.Entries.{AreDeclared, AreOthers, Entry}
use Rattle.print_parts.specs.Expands.{Expands}
use Rattle.print_parts.specs.Pairwise.{Pairwise}
use Rattle.text_lines.specs.Pieces.{before_element, before_item, bracketed, in_braces, padding}
use Rattle.text_lines.specs.declared.options.FormatOptions.{FormatOptions}
use Rattle.reflect_print.specs.MessageTexts.{MayExpand, IsBracedText, IsEntryText, IsItemsText, IsListText, IsMapText, IsMessageText, IsPairText, IsRowText, IsSingleText, IsValueText, any_behind, before_value, braced, expanded, extension_text, field_text, key_text, list_text, listed, map_text, message_text, more_entries, more_pairs, more_values, no_entries, no_pairs, no_values, pair_text, record_text, single_text, value_text}
use Rattle.reflect_print.specs.Named.{Named, label_of}
use Rattle.print_view.proofs.Alike.{AlikeOnes, AlikePairs, AlikeValues, Likeness, alike_ones}
use Rattle.print_view.proofs.AlikeRows.{AlikeEntries, AreAlike}
use Rattle.print_view.proofs.AlikeSorts.{any_alike, as_extension, as_field, as_list, as_map, as_message, as_record, as_single, one_before}
use Rattle.print_view.proofs.TextParts.{ExpandedParts, ListedParts, braced_parts, entry_parts, items_parts, list_inside, list_parts, map_inside, map_parts, message_inside, pair_parts, row_parts, single_inside, single_once}
use Rattle.print_view.proofs.ToldOnce.{record_once}

-- what is printed of messages that are alike is alike, and where they are expanded, what they are expanded as
pub record PrintsAlike (form : FormatOptions) (A : Likeness) : Type 0 where
  pub declared : (m n : DynamicMessage) → A.messages m n → (ds es : List Entry) → AreDeclared form m ds → AreDeclared form n es → AreAlike A ds es
  pub others : (m n : DynamicMessage) → A.messages m n → (ds es : List Entry) → AreOthers form m ds → AreOthers form n es → AreAlike A ds es
  pub one : (m n : DynamicMessage) → A.messages m n → form.expand_any ≡ true → (url link : Text) (body inner : DynamicMessage) → Expands m (Some (url, body)) → Expands n (Some (link, inner)) → (url ≡ link) × A.messages body inner
  pub not_both : (m n : DynamicMessage) → A.messages m n → form.expand_any ≡ true → (url : Text) (body : DynamicMessage) → Expands m (Some (url, body)) → Expands n None → ⊥
  pub nor_both : (m n : DynamicMessage) → A.messages m n → form.expand_any ≡ true → (url : Text) (body : DynamicMessage) → Expands n (Some (url, body)) → Expands m None → ⊥

module _ (form : FormatOptions) (payloads : ℕ) where
  -- ---- so it is one

  -- where what is printed of messages that are alike is alike, and so is what they are expanded as, if they are
  module _ (A : Likeness) (itself : A.same → (m : DynamicMessage) → A.messages m m) (likeness : PrintsAlike form A) where
    -- of a message that is expanded, and of one that is not, where what is inside is told in one text
    expanded_both : (x i : ℕ) (braces : Bool) (m n : DynamicMessage) → A.messages m n → MayExpand form x → (url : Text) (body : DynamicMessage) (z : Text) → Expands m (Some (url, body))
        → ((held : DynamicMessage) (y : Text) → A.messages body held → IsBracedText form payloads (x - 1) i held y → z ≡ y)
        → (some : Bool) (w : Text) → ExpandedParts form payloads x i braces n some w ⊎ ListedParts form payloads x i braces n some w → (true ≡ some) × (before_item form.pretty braces false i ++ (bracketed url ++ (padding form.pretty ++ z)) ≡ w)
    expanded_both x i braces m n alike may url body z stands inside some w (inl (link, held, y, also, there, more, any, whole)) =
        let one = likeness.one m n alike may.0 url link body held stands there in (
          sym any,
          ap (λ a. before_item form.pretty braces false i ++ (bracketed a ++ (padding form.pretty ++ z))) one.0
              ∙ ap (λ a. before_item form.pretty braces false i ++ (bracketed link ++ (padding form.pretty ++ a))) (inside held y one.1 more) ∙ sym whole,
        )
    expanded_both x i braces m n alike may url body z stands inside some w (inr (inl never, items)) = absurd (never may)
    expanded_both x i braces m n alike may url body z stands inside some w (inr (inr none, items)) = absurd (likeness.not_both m n alike may.0 url body stands none)

    listed_both : (x i : ℕ) (braces : Bool) (m n : DynamicMessage) → A.messages m n → (ds os : List Entry) (y z : Text) → (MayExpand form x → ⊥) ⊎ Expands m None → AreDeclared form m ds → AreOthers form m os
        → ((es : List Entry) (a : Text) → AreAlike A ds es → IsRowText form payloads x i braces false es a → y ≡ a)
        → ((es : List Entry) (a : Text) → AreAlike A os es → IsRowText form payloads x i braces (any_behind false ds) es a → z ≡ a)
        → (some : Bool) (w : Text) → ExpandedParts form payloads x i braces n some w ⊎ ListedParts form payloads x i braces n some w → (any_behind (any_behind false ds) os ≡ some) × (y ++ z ≡ w)
    listed_both x i braces m n alike ds os y z (inl never) declared others first second some w (inl (link, held, inner, also, there, more, any, whole)) = absurd (never also)
    listed_both x i braces m n alike ds os y z (inr none) declared others first second some w (inl (link, held, inner, also, there, more, any, whole)) = absurd (likeness.nor_both m n alike also.0 link held there none)
    listed_both x i braces m n alike ds os y z either declared others first second some w (inr (reason, its)) =
        let fields = likeness.declared m n alike ds its.ds declared its.declared in
        let behind = likeness.others m n alike os its.os others its.others in
        let any = any_alike A itself false ds its.ds fields in
        let front = first its.ds its.y fields its.first in
        let back = second its.os its.z behind (subst (λ a. IsRowText form payloads x i braces a its.os its.z) (sym any) its.second) in
        (ap (λ a. any_behind a os) any ∙ any_alike A itself (any_behind false its.ds) os its.os behind ∙ sym its.some, ap (λ a. a ++ z) front ∙ ap (λ a. its.y ++ a) back ∙ sym its.whole)

    mutual
      value_once : {x i : ℕ} {kind : Named} {v : Value} {z : Text} → IsValueText form payloads x i kind v z → (w : Value) (y : Text) → AlikeValues A v w → IsValueText form payloads x i kind w y → z ≡ y
      value_once {kind = kind} {v = v} {z = z} (single_text s is text) w y alike other = single_once kind s z y text (single_inside form payloads other s (as_single A itself v w alike s is))
      value_once {v = v} (message_text m is text) w y alike other =
          let n = as_message A itself v w alike m is in
          braced_once text n.0 y n.2 (message_inside form payloads other n.0 n.1)
      value_once {v = v} (list_text vs z is text) w y alike other =
          let us = as_list A itself v w alike vs is in
          let its = list_inside form payloads other us.0 us.1 in
          ap (λ a. 91 ∷ (a ++ 93 ∷ [])) (list_once text us.0 its.0 us.2 its.1) ∙ sym its.2
      value_once {v = v} (map_text es z is text) w y alike other =
          let gs = as_map A itself v w alike es is in
          let its = map_inside form payloads other gs.0 gs.1 in
          ap (λ a. 91 ∷ (a ++ 93 ∷ [])) (map_once text gs.0 its.0 gs.2 its.1) ∙ sym its.2

      list_once : {x i : ℕ} {kind : Named} {first : Bool} {vs : List Value} {z : Text} → IsListText form payloads x i kind first vs z → (ws : List Value) (y : Text) → Pairwise (AlikeOnes A) vs ws → IsListText form payloads x i kind first ws y → z ≡ y
      list_once {x = x} {i = i} {kind = kind} {first = first} no_values ws y none other = sym (list_parts form payloads (subst (λ l. IsListText form payloads x i kind first l y) none other))
      list_once {x = x} {i = i} {kind = kind} {first = first} (more_values {v = v} one rest text texts) ws y (w, behind, alike, more, is) other =
          let its = list_parts form payloads (subst (λ l. IsListText form payloads x i kind first l y) is other) in
          ap (λ a. before_element form.pretty first ++ (a ++ rest)) (value_once text w its.0 (alike_ones alike) its.2)
          ∙ ap (λ a. before_element form.pretty first ++ (its.0 ++ a)) (list_once texts behind its.1 more its.3) ∙ sym its.4

      pair_once : {x i : ℕ} {kind : Named} {e : MapKey × Value} {z : Text} → IsPairText form payloads x i kind e z → (g : MapKey × Value) (y : Text) → AlikePairs A e g → IsPairText form payloads x i kind g y → z ≡ y
      pair_once {i = i} {e = e} (pair_text key value keyed text) g y alike other =
          let its = pair_parts form payloads other in
          let its_key = single_once None (key_view g.0) key its.0 (subst (λ s. IsSingleText None s key) alike.0 keyed) its.2 in
          ap (λ a. in_braces form.pretty i true (key_text form.pretty (i + 2) a ++ value_text form.pretty (i + 2) e.1 value)) its_key
          ∙ ap (λ a. in_braces form.pretty i true (key_text form.pretty (i + 2) its.0 ++ value_text form.pretty (i + 2) e.1 a)) (value_once text g.1 its.1 (alike_ones alike.1) its.3)
          ∙ ap (λ a. in_braces form.pretty i true (key_text form.pretty (i + 2) its.0 ++ (before_item form.pretty true true (i + 2) ++ (codes "value" ++ (a ++ its.1))))) (one_before A itself form.pretty e.1 g.1 (alike_ones alike.1))
          ∙ sym its.4

      map_once : {x i : ℕ} {kind : Named} {first : Bool} {es : List (MapKey × Value)} {z : Text} → IsMapText form payloads x i kind first es z → (gs : List (MapKey × Value)) (y : Text) → Pairwise (AlikePairs A) es gs → IsMapText form payloads x i kind first gs y → z ≡ y
      map_once {x = x} {i = i} {kind = kind} {first = first} no_pairs gs y none other = sym (map_parts form payloads (subst (λ l. IsMapText form payloads x i kind first l y) none other))
      map_once {x = x} {i = i} {kind = kind} {first = first} (more_pairs one rest text texts) gs y (g, behind, alike, more, is) other =
          let its = map_parts form payloads (subst (λ l. IsMapText form payloads x i kind first l y) is other) in
          ap (λ a. before_element form.pretty first ++ (a ++ rest)) (pair_once text g its.0 alike its.2)
          ∙ ap (λ a. before_element form.pretty first ++ (its.0 ++ a)) (map_once texts behind its.1 more its.3) ∙ sym its.4

      braced_once : {x i : ℕ} {m : DynamicMessage} {z : Text} → IsBracedText form payloads x i m z → (n : DynamicMessage) (y : Text) → A.messages m n → IsBracedText form payloads x i n y → z ≡ y
      braced_once {i = i} (braced any z text) n y alike other =
          let its = braced_parts form payloads other in
          let both = items_once text n its.0 its.1 alike its.2 in
          ap (λ a. in_braces form.pretty i a z) both.0 ∙ ap (in_braces form.pretty i its.0) both.1 ∙ sym its.3

      items_once : {x i : ℕ} {braces any : Bool} {m : DynamicMessage} {z : Text} → IsItemsText form payloads x i braces m any z → (n : DynamicMessage) (some : Bool) (y : Text) → A.messages m n
          → IsItemsText form payloads x i braces n some y → (any ≡ some) × (z ≡ y)
      items_once {x = x} {i = i} {braces = braces} {m = m} (expanded url body z may stands text) n some w alike other =
          expanded_both x i braces m n alike may url body z stands (λ held y one more. braced_once text held y one more) some w (items_parts form payloads other)
      items_once {x = x} {i = i} {braces = braces} {m = m} (listed ds os y z either declared others first second) n some w alike other =
          listed_both x i braces m n alike ds os y z either declared others (λ es z one more. row_once first es z one more) (λ es z one more. row_once second es z one more) some w (items_parts form payloads other)

      row_once : {x i : ℕ} {braces any : Bool} {es : List Entry} {z : Text} → IsRowText form payloads x i braces any es z → (ds : List Entry) (y : Text) → AreAlike A es ds → IsRowText form payloads x i braces any ds y → z ≡ y
      row_once {x = x} {i = i} {braces = braces} {any = any} no_entries ds y none other = sym (row_parts form payloads (subst (λ l. IsRowText form payloads x i braces any l y) none other))
      row_once {x = x} {i = i} {braces = braces} {any = any} (more_entries one rest text texts) ds y (d, behind, alike, more, is) other =
          let its = row_parts form payloads (subst (λ l. IsRowText form payloads x i braces any l y) is other) in
          ap (λ a. before_item form.pretty braces any i ++ (a ++ rest)) (entry_once text d its.0 alike its.2)
          ∙ ap (λ a. before_item form.pretty braces any i ++ (its.0 ++ a)) (row_once texts behind its.1 more its.3) ∙ sym its.4

      entry_once : {x i : ℕ} {e : Entry} {z : Text} → IsEntryText form payloads x i e z → (d : Entry) (y : Text) → AlikeEntries A e d → IsEntryText form payloads x i d y → z ≡ y
      entry_once {x = x} {i = i} (field_text {pool = p} {f = f} {v = v} z text) d y alike other =
          let w = as_field A itself p f v d alike in
          let its = entry_parts form payloads (subst (λ e. IsEntryText form payloads x i e y) w.1 other) in
          ap (λ a. label_of p f ++ (before_value form.pretty (message_in v) ++ a)) (value_once text w.0 its.0 w.2 its.1)
          ∙ ap (λ a. label_of p f ++ (a ++ its.0)) (one_before A itself form.pretty v w.0 w.2) ∙ sym its.2
      entry_once {x = x} {i = i} (extension_text {pool = p} {f = f} {v = v} z text) d y alike other =
          let w = as_extension A itself p f v d alike in
          let its = entry_parts form payloads (subst (λ e. IsEntryText form payloads x i e y) w.1 other) in
          ap (λ a. bracketed f.full_name ++ (before_value form.pretty (message_in v) ++ a)) (value_once text w.0 its.0 w.2 its.1)
          ∙ ap (λ a. bracketed f.full_name ++ (a ++ its.0)) (one_before A itself form.pretty v w.0 w.2) ∙ sym its.2
      entry_once {x = x} {i = i} {z = z} (record_text {r = r} text) d y alike other =
          record_once form.pretty payloads i r z y text (entry_parts form payloads (subst (λ e. IsEntryText form payloads x i e y) (as_record A itself r d alike) other))

-- so is a message that is alike to itself
pub printed_once : (form : FormatOptions) (A : Likeness) (itself : A.same → (m : DynamicMessage) → A.messages m m) → PrintsAlike form A → (m : DynamicMessage) → A.messages m m → (a b : Text) → IsMessageText form m a → IsMessageText form m b → a ≡ b
printed_once form A itself likeness m alike a b (any, text) (other, also) = (items_once form 100 A itself likeness text m other b alike also).1
