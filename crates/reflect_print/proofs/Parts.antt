-- The parts of messages' texts, put together.
use Rattle.std.proofs.Common.{◌≡◌, ◌⊎◌, ℕ, ◌+◌, ◌-◌, Bool, true, false, List, [], ◌∷◌, ◌++◌, None, Some, codes, Result, IfOk, subst, sym, ap, ap₂, ◌∙◌, refl}
use Rattle.std.proofs.lemmas.List.{append_assoc}
use Rattle.std.proofs.lemmas.Result.{IfOk-weaker}
use Rattle.reflect_tables.specs.Types.{PoolType, FieldType}
use Rattle.reflect_scalar.specs.Keys.{key_view}
use Rattle.reflect_scalar.specs.Singles.{Single}
use Rattle.reflect_scalar.specs.declared.map_key.MapKey.{MapKey}
use Rattle.reflect_message.specs.Lists.{list_items}
use Rattle.reflect_message.specs.Maps.{map_entries}
use Rattle.reflect_message.specs.Messages.{message_in}
use Rattle.reflect_message.specs.Names.{DynamicMessage, Value}
use Rattle.text_lines.specs.Pieces.{before_item, bracketed, colon, last_line, padding}
use Rattle.text_lines.specs.declared.options.FormatOptions.{FormatOptions}
use Rattle.text_lines.specs.declared.place.Place.{Place}
use Rattle.text_lines.proofs.Appending.{OneBehind}
use Rattle.print_parts.specs.Entries.{field, extension}
use Rattle.print_parts.specs.Expands.{Expands}
use Rattle.reflect_print.specs.Named.{Named, named, label_of, value_kind}
use Rattle.reflect_print.specs.MessageTexts.{AreItems, IsBracedText, IsEntryText, IsInBrackets, IsItemsText, IsKeyText, IsListText, IsMapText, IsNamedText, IsPairText, IsSingleText, IsUrlText, IsValueText, IsValueUnder, MayExpand, any_behind, before_value, braced, expanded, extension_text, field_text, key_text, list_text, listed, map_text, pair_text, value_text}

pub key_parts : (pretty first second : Bool) (i : ℕ) (s : Single) (braces any : Bool) → first ≡ pretty → second ≡ pretty → braces ≡ true → any ≡ false
    → (y : List ℕ) → IsSingleText None s y → IsKeyText pretty i s ((before_item first braces any i ++ (codes "key" ++ colon second)) ++ y)
key_parts pretty first second i s braces any a b c d y is = (
  y,
  is,
  append_assoc (before_item first braces any i) (codes "key" ++ colon second) y
      ∙ ap (λ (t : List ℕ). before_item first braces any i ++ t) (append_assoc (codes "key") (colon second) y)
      ∙ ap (λ (p : Bool). before_item p braces any i ++ (codes "key" ++ (colon second ++ y))) a
      ∙ ap (λ (p : Bool). before_item pretty braces any i ++ (codes "key" ++ (colon p ++ y))) b
      ∙ ap (λ (p : Bool). before_item pretty p any i ++ (codes "key" ++ (colon pretty ++ y))) c
      ∙ ap (λ (p : Bool). before_item pretty true p i ++ (codes "key" ++ (colon pretty ++ y))) d,
)

-- a value that stands in another form, which is the same one
in_form : (form second : FormatOptions) (payloads x i : ℕ) (kind : Named) (v : Value) (y : List ℕ) → second ≡ form → IsNamedText second payloads x i kind v y → IsNamedText form payloads x i kind v y
in_form form second payloads x i kind v y e = subst (λ f. IsNamedText f payloads x i kind v y) e

-- what stands between a name and a value, and the value
pub named_parts : (form second : FormatOptions) (payloads x i : ℕ) (kind : Named) (v : Value) → second ≡ form
    → (y : List ℕ) → IsValueText second payloads x i kind v y → IsNamedText form payloads x i kind v (before_value form.pretty (message_in v) ++ y)
named_parts form second payloads x i kind v e y is = (y, subst (λ f. IsValueText f payloads x i kind v y) e is, refl)

-- the name of a map's value, and the value
pub under_parts : (form first second : FormatOptions) (payloads x i : ℕ) (kind : Named) (v : Value) (braces any : Bool) → first ≡ form → second ≡ form → braces ≡ true → any ≡ true
    → (y : List ℕ) → IsNamedText second payloads x i kind v y → IsValueUnder form payloads x i kind v ((before_item first.pretty braces any i ++ codes "value") ++ y)
under_parts form first second payloads x i kind v braces any a b c d y is =
    let n = in_form form second payloads x i kind v y b is in (
      n.0,
      n.1,
      append_assoc (before_item first.pretty braces any i) (codes "value") y
          ∙ ap (λ (t : List ℕ). before_item first.pretty braces any i ++ (codes "value" ++ t)) n.2
          ∙ ap (λ (p : FormatOptions). before_item p.pretty braces any i ++ (codes "value" ++ (before_value form.pretty (message_in v) ++ n.0))) a
          ∙ ap (λ (p : Bool). before_item form.pretty p any i ++ (codes "value" ++ (before_value form.pretty (message_in v) ++ n.0))) c
          ∙ ap (λ (p : Bool). before_item form.pretty true p i ++ (codes "value" ++ (before_value form.pretty (message_in v) ++ n.0))) d,
    )

-- a field under its name
pub field_parts : (form second : FormatOptions) (payloads x i : ℕ) (pool : PoolType) (f : FieldType) (v : Value) (kind : Named) (name : List ℕ)
    → second ≡ form → kind ≡ named pool f.kind → name ≡ label_of pool f
    → (y : List ℕ) → IsNamedText second payloads x i kind v y → IsEntryText form payloads x i (field pool f v) (name ++ y)
field_parts form second payloads x i pool f v kind name e k l y is =
    let n = subst (λ q. IsNamedText form payloads x i q v y) k (in_form form second payloads x i kind v y e is) in
    subst (IsEntryText form payloads x i (field pool f v)) (ap₂ (λ (a b : List ℕ). a ++ b) (sym l) (sym n.2)) (field_text n.0 n.1)

-- an extension under its full name
pub extension_parts : (form second : FormatOptions) (payloads x i : ℕ) (pool : PoolType) (f : FieldType) (v : Value) (kind : Named) (name : List ℕ)
    → second ≡ form → kind ≡ named pool f.kind → name ≡ f.full_name
    → (y : List ℕ) → IsNamedText second payloads x i kind v y → IsEntryText form payloads x i (extension pool f v) (bracketed name ++ y)
extension_parts form second payloads x i pool f v kind name e k l y is =
    let n = subst (λ q. IsNamedText form payloads x i q v y) k (in_form form second payloads x i kind v y e is) in
    subst (IsEntryText form payloads x i (extension pool f v)) (ap₂ (λ (a b : List ℕ). bracketed a ++ b) (sym l) (sym n.2)) (extension_text n.0 n.1)

-- a list in brackets
pub list_value : (form : FormatOptions) (payloads x i : ℕ) (kind : Named) (v : Value) (vs : List Value) → list_items v ≡ Some vs
    → (y : List ℕ) → IsInBrackets (IsListText form payloads x i kind true vs) y → IsValueText form payloads x i kind v y
list_value form payloads x i kind v vs e y b = subst (IsValueText form payloads x i kind v) (sym b.2) (list_text vs b.0 e b.1)

pub map_value : (form : FormatOptions) (payloads x i : ℕ) (kind : Named) (v : Value) (es : List (MapKey × Value)) → map_entries v ≡ Some es
    → (y : List ℕ) → IsInBrackets (IsMapText form payloads x i (value_kind kind) true es) y → IsValueText form payloads x i kind v y
map_value form payloads x i kind v es e y b = subst (IsValueText form payloads x i kind v) (sym b.2) (map_text es b.0 e b.1)

-- a map's entry in braces
pub pair_parts : (form first second third : FormatOptions) (at inner : Place) (kind : Named) (key : MapKey) (v : Value) (k value : List ℕ)
    → first ≡ form → second ≡ form → third ≡ form → inner ≡ record at { indent = at.indent + 2; levels = inner.levels }
    → IsKeyText first.pretty inner.indent (key_view key) k → IsValueUnder second inner.payloads inner.expansions inner.indent kind v value
    → IsPairText form at.payloads at.expansions at.indent kind (key, v) ((123 ∷ (k ++ value)) ++ (last_line third.pretty true at.indent ++ 125 ∷ []))
pair_parts form first second third at inner kind key v k value a b c p is under =
    let ks = subst (λ (f : FormatOptions). IsKeyText f.pretty (at.indent + 2) (key_view key) k) a (subst (λ (j : ℕ). IsKeyText first.pretty j (key_view key) k) (ap (λ q. q.indent) p) is) in
    let vs = subst (λ (f : FormatOptions). IsValueUnder f at.payloads at.expansions (at.indent + 2) kind v value) b (subst (λ (q : Place). IsValueUnder second q.payloads q.expansions q.indent kind v value) p under) in
    subst (IsPairText form at.payloads at.expansions at.indent kind (key, v))
    (ap (λ (f : FormatOptions). (123 ∷ (key_text form.pretty (at.indent + 2) ks.0 ++ value_text form.pretty (at.indent + 2) v vs.0)) ++ (last_line f.pretty true at.indent ++ 125 ∷ [])) (sym c)
    ∙ ap₂ (λ (s t : List ℕ). (123 ∷ (s ++ t)) ++ (last_line third.pretty true at.indent ++ 125 ∷ [])) (sym ks.2) (sym vs.2))
    (pair_text ks.0 vs.0 ks.1 vs.1)

-- a message in braces
pub braced_parts : (form second third : FormatOptions) (at inner : Place) (m : DynamicMessage) (any : Bool) (z : List ℕ)
    → second ≡ form → third ≡ form → inner ≡ record at { indent = at.indent + 2; levels = inner.levels }
    → IsItemsText second inner.payloads inner.expansions inner.indent true m any z
    → IsBracedText form at.payloads at.expansions at.indent m ((123 ∷ z) ++ (last_line third.pretty any at.indent ++ 125 ∷ []))
braced_parts form second third at inner m any z s d p is =
    let items = subst (λ (f : FormatOptions). IsItemsText f at.payloads at.expansions (at.indent + 2) true m any z) s (subst (λ (q : Place). IsItemsText second q.payloads q.expansions q.indent true m any z) p is) in
    subst (IsBracedText form at.payloads at.expansions at.indent m)
    (ap (λ (f : FormatOptions). (123 ∷ z) ++ (last_line f.pretty any at.indent ++ 125 ∷ [])) (sym d)) (braced any z items)

-- a message that another holds, under the URL
url_parts : (form first second third : FormatOptions) (payloads x less i : ℕ) (braces : Bool) (url : List ℕ) (body : DynamicMessage) (before : Bool) (any : Bool)
    → first ≡ form → second ≡ form → third ≡ form → before ≡ braces → any ≡ false → less ≡ x - 1
    → (y : List ℕ) → IsBracedText third payloads less i body y
    → IsUrlText form payloads x i braces url body ((before_item first.pretty before any i ++ (bracketed url ++ padding second.pretty)) ++ y)
url_parts form first second third payloads x less i braces url body before any a b c f n l y is = (
  y,
  subst (λ k. IsBracedText form payloads k i body y) l (subst (λ q. IsBracedText q payloads less i body y) c is),
  append_assoc (before_item first.pretty before any i) (bracketed url ++ padding second.pretty) y
      ∙ ap (λ (t : List ℕ). before_item first.pretty before any i ++ t) (append_assoc (bracketed url) (padding second.pretty) y)
      ∙ ap (λ (p : FormatOptions). before_item p.pretty before any i ++ (bracketed url ++ (padding second.pretty ++ y))) a
      ∙ ap (λ (p : FormatOptions). before_item form.pretty before any i ++ (bracketed url ++ (padding p.pretty ++ y))) b
      ∙ ap (λ (p : Bool). before_item form.pretty p any i ++ (bracketed url ++ (padding form.pretty ++ y))) f
      ∙ ap (λ (p : Bool). before_item form.pretty braces p i ++ (bracketed url ++ (padding form.pretty ++ y))) n,
)

-- the URL as it is written
pub url_named : (form first second third : FormatOptions) (payloads x less i : ℕ) (braces : Bool) (url name : List ℕ) (body : DynamicMessage) (before : Bool) (any : Bool)
    → name ≡ url → first ≡ form → second ≡ form → third ≡ form → before ≡ braces → any ≡ false → less ≡ x - 1
    → (y : List ℕ) → IsBracedText third payloads less i body y
    → IsUrlText form payloads x i braces url body ((before_item first.pretty before any i ++ (bracketed name ++ padding second.pretty)) ++ y)
url_named form first second third payloads x less i braces url name body before any e a b c f n l y is =
    subst (λ u. IsUrlText form payloads x i braces u body ((before_item first.pretty before any i ++ (bracketed name ++ padding second.pretty)) ++ y)) e
    (url_parts form first second third payloads x less i braces name body before any a b c f n l y is)

-- texts that go with an answer, each one of those
pub answer_as : {T E : Type 0} (r : Result T E) (Is Are : T → List ℕ → Type 0) (a b : List ℕ) → ((x : T) (y : List ℕ) → Is x y → Are x y)
    → IfOk r (λ x. OneBehind a (Is x) b) → IfOk r (λ x. OneBehind a (Are x) b)
answer_as r Is Are a b f = IfOk-weaker r (λ x. OneBehind a (Is x) b) (λ x. OneBehind a (Are x) b) (λ x q. (q.0, f x q.0 q.1, q.2))

-- the one or the other
pub items_expanded : (form : FormatOptions) (payloads x i : ℕ) (braces : Bool) (m : DynamicMessage) (url : List ℕ) (body : DynamicMessage) → MayExpand form x → Expands m (Some (url, body))
    → (y : List ℕ) → IsUrlText form payloads x i braces url body y → IsItemsText form payloads x i braces m true y
items_expanded form payloads x i braces m url body may e y u = subst (IsItemsText form payloads x i braces m true) (sym u.2) (expanded url body u.0 may e u.1)

pub items_listed : (form : FormatOptions) (payloads x i : ℕ) (braces : Bool) (m : DynamicMessage) → (MayExpand form x → ⊥) ⊎ Expands m None
    → (any : Bool) (y : List ℕ) → AreItems form payloads x i braces m any y → IsItemsText form payloads x i braces m any y
items_listed form payloads x i braces m none any y are =
    subst (λ a. IsItemsText form payloads x i braces m a y) (sym are.some)
    (subst (IsItemsText form payloads x i braces m (any_behind (any_behind false are.ds) are.os)) (sym are.whole)
    (listed are.ds are.os are.y are.z none are.declared are.others are.first are.second))
