-- What is printed of a message without unknown records is the same whether unknown records are told or not.
use Rattle.std.proofs.Common.{◌≡◌, ◌-◌, ℕ, zero, suc, Bool, true, false, List, Option, Some, sym, ap, subst, arith}
use Rattle.std.specs.List.{AllByRecursion}
use Rattle.protox_lex.specs.Class.{Text}
use Rattle.reflect_tables.specs.Types.{PoolType}
use Rattle.reflect_pool.specs.declared.message.MessageDescriptor.{MessageDescriptor}
use Rattle.reflect_scalar.specs.declared.map_key.MapKey.{MapKey}
use Rattle.reflect_message.specs.Names.{DynamicMessage, Value}
use Rattle.print_parts.specs.Entries.{Entry, AreDeclared, AreOthers, extension_entries}
use Rattle.print_parts.specs.Expands.{Expands}
use Rattle.reflect_print.specs.MessageTexts.{MayExpand, IsMessageText, IsValueText, single_text, message_text, list_text, map_text, IsListText, no_values, more_values, IsPairText, pair_text, IsMapText, no_pairs, more_pairs, IsBracedText, braced, IsItemsText, expanded, listed, IsRowText, no_entries, more_entries, IsEntryText, field_text, extension_text, record_text}
use Rattle.reflect_print.specs.Named.{Named}
use Rattle.text_lines.specs.declared.options.FormatOptions.{FormatOptions}
use Rattle.protobuf_model.specs.Types.{Name}
use Rattle.protobuf_model.specs.Values.{Message}
use Rattle.text_model.specs.Expansions.{HasOneForm}
use Rattle.text_model.specs.Plain.{IsPlain}
use Rattle.message_view.specs.Shaped.{IsInShape}
use Rattle.message_view.specs.Sound.{IsSound}
use Rattle.message_view.specs.Types.{name_at, types_of}
use Rattle.message_view.specs.Views.{view}
use Rattle.text_view.specs.Schemas.{schema_of}
use Rattle.print_view.specs.Expansions.{DecodesIn, HasUsualAny}
use Rattle.print_view.specs.Forms.{HaveMessagePresence}
use Rattle.print_view.proofs.AllKnown.{AllKnown}
use Rattle.print_view.proofs.Anys.{held_at}
use Rattle.print_view.proofs.Contents.{Forms, form_here, have_forms}
use Rattle.print_view.proofs.Inside.{OneValue, EachValue, EachEntry, by_itself}
use Rattle.print_view.proofs.KnownEntries.{are_printed}

-- the same options, which tell no unknown records
abbrev pub untold : FormatOptions → FormatOptions
untold options = record options { skip_unknown_fields = true }

module _ (options : FormatOptions) (payloads x : ℕ) (Known : ℕ → DynamicMessage → Type 0) (none : (m : DynamicMessage) → Known zero m → ⊥)
    (printed : (levels : ℕ) (m : DynamicMessage) → Known (suc levels) m → (ds os : List Entry) → AreDeclared options m ds → AreOthers options m os
    → AllByRecursion (EachEntry (Known levels)) ds × AllByRecursion (EachEntry (Known levels)) os × (os ≡ extension_entries m))
    (expansion : (levels : ℕ) (m : DynamicMessage) → Known (suc levels) m → (url : Text) (body : DynamicMessage) → MayExpand options x → Expands m (Some (url, body))
    → (i : ℕ) (z : Text) → IsBracedText options payloads (x - 1) i body z → IsBracedText (untold options) payloads (x - 1) i body z) where
  mutual
    value_untold : {i : ℕ} {kind : Named} {v : Value} {z : Text} → IsValueText options payloads x i kind v z → (levels : ℕ) → EachValue (Known levels) v → IsValueText (untold options) payloads x i kind v z
    value_untold (single_text s is text) levels h = single_text s is text
    value_untold (message_text m is text) levels h = message_text m is (braced_untold text levels (h.message m is))
    value_untold (list_text vs z is text) levels h = list_text vs z is (list_untold text levels (h.items vs is))
    value_untold (map_text es z is text) levels h = map_text es z is (map_untold text levels (h.entries es is))

    list_untold : {i : ℕ} {kind : Named} {first : Bool} {vs : List Value} {z : Text} → IsListText options payloads x i kind first vs z → (levels : ℕ) → AllByRecursion (OneValue (Known levels)) vs
        → IsListText (untold options) payloads x i kind first vs z
    list_untold no_values levels h = no_values
    list_untold (more_values {v = v} y rest text texts) levels h = more_values y rest (value_untold text levels (by_itself (Known levels) v h.0)) (list_untold texts levels h.1)

    pair_untold : {i : ℕ} {kind : Named} {e : MapKey × Value} {z : Text} → IsPairText options payloads x i kind e z → (levels : ℕ) → OneValue (Known levels) e.1 → IsPairText (untold options) payloads x i kind e z
    pair_untold {e = e} (pair_text key value keyed text) levels h = pair_text key value keyed (value_untold text levels (by_itself (Known levels) e.1 h))

    map_untold : {i : ℕ} {kind : Named} {first : Bool} {es : List (MapKey × Value)} {z : Text} → IsMapText options payloads x i kind first es z → (levels : ℕ)
        → AllByRecursion (λ (e : MapKey × Value). OneValue (Known levels) e.1) es → IsMapText (untold options) payloads x i kind first es z
    map_untold no_pairs levels h = no_pairs
    map_untold (more_pairs y rest text texts) levels h = more_pairs y rest (pair_untold text levels h.0) (map_untold texts levels h.1)

    pub braced_untold : {i : ℕ} {m : DynamicMessage} {z : Text} → IsBracedText options payloads x i m z → (levels : ℕ) → Known levels m → IsBracedText (untold options) payloads x i m z
    braced_untold (braced any z text) levels h = braced any z (items_untold text levels h)

    pub items_untold : {i : ℕ} {braces any : Bool} {m : DynamicMessage} {z : Text} → IsItemsText options payloads x i braces m any z → (levels : ℕ) → Known levels m → IsItemsText (untold options) payloads x i braces m any z
    items_untold {m = m} (expanded url body z may stands text) zero h = absurd (none m h)
    items_untold {i = i} {m = m} (expanded url body z may stands text) (suc levels) h = expanded url body z may stands (expansion levels m h url body may stands i z text)
    items_untold {m = m} (listed ds os y z either declared others first second) zero h = absurd (none m h)
    items_untold {m = m} (listed ds os y z either declared others first second) (suc levels) h =
        let all = printed levels m h ds os declared others in
        listed ds os y z either declared all.2 (row_untold first levels all.0) (row_untold second levels all.1)

    row_untold : {i : ℕ} {braces any : Bool} {es : List Entry} {z : Text} → IsRowText options payloads x i braces any es z → (levels : ℕ) → AllByRecursion (EachEntry (Known levels)) es
        → IsRowText (untold options) payloads x i braces any es z
    row_untold no_entries levels h = no_entries
    row_untold (more_entries y rest text texts) levels h = more_entries y rest (entry_untold text levels h.0) (row_untold texts levels h.1)

    entry_untold : {i : ℕ} {e : Entry} {z : Text} → IsEntryText options payloads x i e z → (levels : ℕ) → EachEntry (Known levels) e → IsEntryText (untold options) payloads x i e z
    entry_untold (field_text z text) levels h = field_text z (value_untold text levels h)
    entry_untold (extension_text z text) levels h = extension_text z (value_untold text levels h)
    entry_untold (record_text text) levels h = absurd h

-- ---- expansions in one another

module _ (options : FormatOptions) (decoded : Name → Text → Option Message) (pool : PoolType) (sound : IsSound pool) (present : options.skip_default_fields ≡ false → HaveMessagePresence pool)
    (expandable : options.expand_any ≡ true → DecodesIn pool decoded × HasUsualAny pool) where
  abbrev Known : ℕ → ℕ → DynamicMessage → Type 0
  Known x levels = AllKnown options decoded pool x levels

  -- the message that an Any is expanded as
  body_known : (more levels : ℕ) (m : DynamicMessage) → Known (suc more) (suc levels) m → (url : Text) (body : DynamicMessage) → options.expand_any ≡ true → Expands m (Some (url, body)) → Known more 101 body
  body_known more levels m h url body expands stands =
      let w = schema_of pool decoded in
      let t = name_at pool m.descriptor.index in
      let its = held_at pool decoded levels m h.there h.shaped sound (expandable expands) url body stands in
      let form = form_here w more levels t (view m) (subst (λ e. Forms w e (suc more) (suc levels) t (view m)) expands h.known.1) in
      let one = form its.0 (name_at pool body.descriptor.index) (view body) its.4 in
      record { there = its.2; shaped = its.3; known = (one.0.plain, have_forms w options.expand_any more (name_at pool body.descriptor.index) (view body) (λ e. one.1)) }

  abbrev Expansion : ℕ → Type 0
  Expansion x = (levels : ℕ) (m : DynamicMessage) → Known x (suc levels) m → (url : Text) (body : DynamicMessage) → MayExpand options x → Expands m (Some (url, body))
      → (i : ℕ) (z : Text) → IsBracedText options 100 (x - 1) i body z → IsBracedText (untold options) 100 (x - 1) i body z

  expansion_at : (x : ℕ) → Expansion x
  expansion_at zero levels m h url body may stands i z text = let none = may.1 in absurd (omega (arith, none))
  expansion_at (suc more) levels m h url body may stands i z text =
      let less : suc more - 1 ≡ more = omega arith in
      subst (λ k. IsBracedText (untold options) 100 k i body z) (sym less)
      (braced_untold options 100 more (Known more) (λ m h. h.shaped) (are_printed options decoded pool sound present more) (expansion_at more)
      (subst (λ k. IsBracedText options 100 k i body z) less text) 101 (body_known more levels m h url body may.0 stands))

  pub items_told : (x i : ℕ) (braces any : Bool) (m : DynamicMessage) (z : Text) → IsItemsText options 100 x i braces m any z → Known x 101 m → IsItemsText (untold options) 100 x i braces m any z
  items_told x i braces any m z text h = items_untold options 100 x (Known x) (λ m h. h.shaped) (are_printed options decoded pool sound present x) (expansion_at x) text 101 h

-- a whole message
pub told_alike : (options : FormatOptions) (decoded : Name → Text → Option Message) (d : MessageDescriptor) → IsSound d.pool.now → (options.skip_default_fields ≡ false → HaveMessagePresence d.pool.now)
    → (options.expand_any ≡ true → DecodesIn d.pool.now decoded × HasUsualAny d.pool.now) → (m : DynamicMessage) → m.descriptor ≡ d → IsInShape m
    → IsPlain (types_of d.pool.now) (name_at d.pool.now d.index) (view m) → (options.expand_any ≡ true → HasOneForm 100 (schema_of d.pool.now decoded) (name_at d.pool.now d.index) (view m))
    → (z : Text) → IsMessageText options m z → IsMessageText (untold options) m z
told_alike options decoded d sound present expandable m type shape plain forms z (any, text) =
    let pool = d.pool.now in
    let name = ap (λ (e : MessageDescriptor). name_at d.pool.now e.index) (sym type) in
    let known : AllKnown options decoded pool 100 101 m = record {
      there = ap (λ (e : MessageDescriptor). e.pool.now) type;
      shaped = shape;
      known = (
        subst (λ t. IsPlain (types_of d.pool.now) t (view m)) name plain,
        subst (λ t. Forms (schema_of d.pool.now decoded) options.expand_any 100 101 t (view m)) name
            (have_forms (schema_of d.pool.now decoded) options.expand_any 100 (name_at d.pool.now d.index) (view m) forms),
      );
    } in
    (any, items_told options decoded pool sound present expandable 100 0 false any m z text known)
