-- A text with the unknown records of a message tells one of them, or it is the text without them, and no record is kept in the message.
use Rattle.std.proofs.Common.{◌≡◌, ◌⊎◌, inl, inr, ℕ, zero, suc, ◌-◌, Bool, true, false, true≢false, List, [], ◌∷◌, ◌++◌, map, Option, Some, unwrap_or, refl, sym, ap, ◌∙◌, subst, append_assoc}
use Rattle.std.specs.List.{AllByRecursion}
use Rattle.protox_lex.specs.Class.{Text}
use Rattle.reflect_tables.specs.Types.{PoolType, FieldType}
use Rattle.reflect_tables.specs.Types as types
use Rattle.reflect_pool.specs.Shapes.{holds_list, holds_map}
use Rattle.reflect_scalar.specs.Keys.{key_view}
use Rattle.reflect_scalar.specs.declared.map_key.MapKey.{MapKey}
use Rattle.reflect_message.specs.Held.{unknown_of}
use Rattle.reflect_message.specs.Known.{entry_field, is_float}
use Rattle.reflect_message.specs.Messages.{message_in}
use Rattle.reflect_message.specs.Names.{DynamicMessage, Value}
use Rattle.print_parts.specs.Entries.{Entry, undeclared, AreDeclared, extension_entries}
use Rattle.print_parts.specs.Expands.{Expands}
use Rattle.reflect_print.specs.MessageTexts.{MayExpand, before_value, any_behind, IsValueText, single_text, message_text, list_text, map_text, IsListText, no_values, more_values, IsPairText, pair_text, IsMapText, no_pairs, more_pairs, IsBracedText, braced, IsItemsText, expanded, listed, IsRowText, no_entries, more_entries, IsEntryText, field_text, extension_text, record_text}
use Rattle.reflect_print.specs.Named.{Named, named, value_kind, label_of}
use Rattle.text_lines.specs.Pieces.{bracketed, padding, before_item}
use Rattle.text_lines.specs.declared.options.FormatOptions.{FormatOptions}
use Rattle.protobuf_model.specs.Types.{Name, Kind}
use Rattle.protobuf_model.specs.Values as model
use Rattle.protobuf_model.specs.Values.{Message, chain_of, entries_of}
use Rattle.protobuf_model.proofs.Arranged.{all_append}
use Rattle.text_model.specs.Forms.{Form, between}
use Rattle.text_model.specs.Printed.{Inner, joined, or_fields, parts, printed_content, printed_list, printed_entry, printed_entries, printed_single, value_in}
use Rattle.text_model.specs.Schemas.{Schema}
use Rattle.text_model.specs.Tree as tree
use Rattle.text_model.specs.Tree.{Given, Fields}
use Rattle.text_model.proofs.Written.{IsNameShown, IsValueShown, AreValuesShown, IsGivenShown, AreShown}
use Rattle.message_view.specs.Shaped.{FitsAs, FitsOne, Shaped}
use Rattle.message_view.specs.Singles.{single_view}
use Rattle.message_view.specs.Types.{kind_in, name_at, types_of, values_of}
use Rattle.message_view.specs.Views.{content_view, view}
use Rattle.message_view.proofs.Entries.{Sort, plain, floating, message_type, sort_of}
use Rattle.message_view.proofs.Seen.{single_seen, message_seen, list_seen, map_seen, pairs_view}
use Rattle.text_view.specs.Names.{name_in}
use Rattle.text_view.specs.Schemas.{schema_of}
use Rattle.print_view.specs.Forms.{form_of}
use Rattle.print_view.proofs.Ascending.{as_they_stand, each_other, no_records}
use Rattle.print_view.proofs.Contents.{Forms}
use Rattle.print_view.proofs.KeepsNone.{EntryKeepsNone, ListKeepsNone, MapKeepsNone, MessageKeepsNone, OneKeepsNone, KeepsNone, ValueKeepsNone, single_keeps_none}
use Rattle.print_view.proofs.Pieces.{Pair, value_shown, one, bracket_said, name_said, url_said}
use Rattle.print_view.proofs.Printer.{Printer, own_of, telling_of}
use Rattle.print_view.proofs.Singles.{key_said}
use Rattle.print_view.proofs.ToldEntries as entries
use Rattle.print_view.proofs.ToldEntries.{all_fine, held_told, own_fine, records_fine}
use Rattle.print_view.proofs.ToldNumbers.{record_told}
use Rattle.print_view.proofs.ToldParts.{all_parts, before_ends, braced_ends, carried, carried_two, list_ends, map_ends, row_ends, shown_pairs, shown_value, small_numbers, told_behind_colon, told_ends, told_entry, told_under, value_ends}
use Rattle.print_view.proofs.ToldTokens.{TellsRecord, Ends, IsPairShown, told_behind, told_braces, told_brackets, told_element, told_item, told_padding, told_pair, told_value}
use Rattle.print_view.proofs.Values.{given, given_message, pairs_in, tree_of, EntryFits, Expansion, Printed, Unexpanded, Whole, each_value, entry_text, map_values, no_enum, pair_of, pair_said, value_said, values_not_float}

module _ (printer : Printer) (x : ℕ) where
  -- its parts
  abbrev p : Bool
  p = printer.pretty

  abbrev expand : Bool
  expand = printer.expand

  abbrev pool : PoolType
  pool = printer.pool

  abbrev decoded : Name → Text → Option Message
  decoded = printer.decoded

  abbrev inner : Inner
  inner = printer.inner

  abbrev payloads : ℕ
  payloads = printer.payloads

  abbrev telling : FormatOptions
  telling = telling_of printer

  abbrev own : FormatOptions
  own = own_of printer

  abbrev form : Form
  form = form_of own

  abbrev schema : Schema
  schema = schema_of pool decoded

  abbrev give : FieldType → Value → Given
  give f v = given printer f v

  abbrev pair : Entry → Pair
  pair e = pair_of printer e

  abbrev tree_in : DynamicMessage → Fields
  tree_in m = tree_of printer m

  abbrev pairs : DynamicMessage → List Pair
  pairs m = pairs_in printer m

  abbrev IsWhole : Bool → FieldType → Type 0
  IsWhole b f = Whole printer b f

  abbrev fits : ℕ → Entry → Type 0
  fits levels e = EntryFits printer levels e

  abbrev IsShown : (map_too repeated : Bool) → FieldType → Value → Type 0
  IsShown b c f v = entries.IsShown printer b c f v

  abbrev Fine : ℕ → Entry → Type 0
  Fine levels e = entries.Fine printer levels e

  -- what is asked of the Anys in a message of so many levels
  abbrev forms : ℕ → Name → Message → Type 0
  forms levels = Forms (schema_of pool decoded) expand x levels

  abbrev pub TellsNone : ℕ → DynamicMessage → Type 0
  TellsNone levels m = MessageKeepsNone (types_of pool) (forms levels) (name_at pool m.descriptor.index) (view m)

  abbrev EntryTellsNone : ℕ → Entry → Type 0
  EntryTellsNone levels e = EntryKeepsNone pool (forms levels) e

  abbrev ValueTellsNone : (map_too repeated : Bool) → ℕ → FieldType → Value → Type 0
  ValueTellsNone b c levels f v = ValueKeepsNone pool (forms levels) b c f v

  abbrev kind_of : FieldType → Kind
  kind_of f = kind_in pool f.group f.kind

  -- what has to be shown of a message: it keeps no record where none is kept in what is printed of it
  abbrev pub Gathered : Type 0
  Gathered = (levels : ℕ) (m : DynamicMessage) → m.descriptor.pool.now ≡ pool → Shaped (suc levels) m → (ds : List Entry) → AreDeclared telling m ds
      → AllByRecursion (EntryTellsNone levels) ds → AllByRecursion (EntryTellsNone levels) (extension_entries m) → unknown_of m ≡ [] → TellsNone (suc levels) m

  -- and of an Any with so many expansions left, of which all that is printed can be told in a text: its URL can be, the message that it holds tells a record, or is printed without any, and the Any keeps none
  abbrev pub ToldExpansion : Type 0
  ToldExpansion = (levels : ℕ) (m : DynamicMessage) → m.descriptor.pool.now ≡ pool → Shaped (suc levels) m → AreShown p (tree_in m) → (url : Text) (body : DynamicMessage) → MayExpand telling x → Expands m (Some (url, body))
      → (i : ℕ) (z : Text) → IsBracedText telling payloads (x - 1) i body z
      → (u : Text × Text) × (u.0 ++ 47 ∷ u.1 ≡ url) × IsNameShown (tree.expansion (parts u.0) (parts u.1)) × (TellsRecord z ⊎ IsBracedText own payloads (x - 1) i body z) × TellsNone (suc levels) m

  module _ (printed : Printed printer) (unexpanded : Unexpanded printer x)
      (expansion : Expansion printer x) (gathers : Gathered) (expansion_told : ToldExpansion) where
    -- what is printed without unknown records
    value_is : {i : ℕ} {kind : Named} {v : Value} {z : Text} → IsValueText own payloads x i kind v z → (levels : ℕ) (f : FieldType) → kind ≡ named pool f.kind → is_float f.kind ≡ false → FitsOne (Shaped levels) pool f v → z ≡ value_shown p i (value_in (give f v))
    value_is text levels f kind whole fit = (value_said printer x printed unexpanded expansion text levels f false false kind whole fit).0

    abbrev shown_entry : FieldType → MapKey × Value → tree.Value
    shown_entry f e = printed_entry (between p) (printed_single (name_in pool f.kind) (single_view (key_view e.0))) (give f e.1)

    pair_is : {i : ℕ} {kind : Named} {e : MapKey × Value} {z : Text} → IsPairText own payloads x i kind e z → (levels : ℕ) (f : FieldType) → kind ≡ named pool f.kind → is_float f.kind ≡ false → FitsOne (Shaped levels) pool f e.1 → z ≡ value_shown p i (shown_entry f e)
    pair_is text levels f kind whole fit = pair_said printer x printed unexpanded expansion text levels f kind whole fit

    entry_is : {i : ℕ} {e : Entry} {z : Text} → IsEntryText own payloads x i e z → (levels : ℕ) → fits levels e → z ≡ one p i (pair e)
    entry_is text levels fit = entry_text printer x printed unexpanded expansion text levels fit

    -- entries without unknown records, before a text in which one is told
    entry_before : {i : ℕ} {e : Entry} {y : Text} → IsEntryText own payloads x i e y → (levels : ℕ) → Fine levels e → EntryTellsNone levels e → (z : Text) → Ends z → TellsRecord z → TellsRecord (y ++ z)
    entry_before {i = i} {e = e} text levels fine is z ends t =
        let its = own_fine printer (forms levels) levels e fine is in
        subst (λ y. TellsRecord (y ++ z)) (sym (entry_is text levels its.0)) (told_pair p i (pair e) its.1 z ends t)

    row_before : {i : ℕ} {braces any : Bool} {es : List Entry} {y : Text} → IsRowText own payloads x i braces any es y → (levels : ℕ) → AllByRecursion (Fine levels) es → AllByRecursion (EntryTellsNone levels) es → (z : Text) → (any_behind any es ≡ true → Ends z) → TellsRecord z → TellsRecord (y ++ z)
    row_before no_entries levels fine is z ends t = t
    row_before {i = i} {braces = braces} {any = any} (more_entries {es = es} y rest text texts) levels fine is z ends t =
        subst TellsRecord (sym (append_assoc (before_item p braces any i) (y ++ rest) z ∙ ap (λ l. before_item p braces any i ++ l) (append_assoc y rest z)))
        (told_item p braces any i (y ++ (rest ++ z))
        (entry_before text levels fine.0 is.0 (rest ++ z) (before_ends rest z (row_ends own payloads x texts refl) (ends refl)) (row_before texts levels fine.1 is.1 z (λ e. ends refl) t)))

    mutual
      value_told : {i : ℕ} {kind : Named} {v : Value} {z : Text} → IsValueText telling payloads x i kind v z → (levels : ℕ) (f : FieldType) (b c : Bool) → kind ≡ named pool f.kind → IsWhole b f → FitsAs (Shaped levels) pool f b c v → IsShown b c f v → TellsRecord z ⊎ (IsValueText own payloads x i kind v z × ValueTellsNone b c levels f v)
      value_told {v = v} (single_text s is text) levels f b c kind whole fit shown = inr (single_text s is text, single_keeps_none pool (forms levels) b c f v (single_view s) (single_seen v s is))
      value_told {v = v} (message_text m is text) levels f true c kind whole fit shown = absurd (cc (sym (message_seen v m is) ∙ map_seen v fit.0 fit.1))
      value_told {v = v} (message_text m is text) levels f false true kind whole fit shown = absurd (cc (sym (message_seen v m is) ∙ list_seen v fit.0 fit.1))
      value_told {i = i} {kind = k} {v = v} {z = z} (message_text m is text) levels f false false kind whole fit shown = by (sort_of f.kind) (braced_told text levels) where
        by : Sort f.kind → (m.descriptor.pool.now ≡ pool → Shaped levels m → AreShown p (tree_in m) → TellsRecord z ⊎ (IsBracedText own payloads x i m z × TellsNone levels m)) → TellsRecord z ⊎ (IsValueText own payloads x i k v z × ValueTellsNone false false levels f v)
        by (floating e) deeper = absurd (true≢false (sym e ∙ whole))
        by (plain type) deeper = let w = fit.plain type in absurd (cc (sym (single_seen v w.0 w.1) ∙ message_seen v m is))
        by (message_type type) deeper =
            let n = fit.nested type in
            let same : n.0 ≡ m = ap (λ o. unwrap_or o m) (sym n.1 ∙ is) in
            let type_is : f.kind ≡ types.message m.descriptor.index = n.2.1 ∙ ap (λ (m : DynamicMessage). types.message m.descriptor.index) same in
            let its = given_message printer f v m is type_is in
            carried (deeper (sym (ap (λ (m : DynamicMessage). m.descriptor.pool.now) same) ∙ n.2.0) (subst (Shaped levels) same n.3) (subst (λ g. IsValueShown p (value_in g)) its shown)) (λ t. t)
            (λ o. (message_text m is o.0, subst (OneKeepsNone (types_of pool) (forms levels) (kind_of f)) (sym (message_seen v m is)) (subst (λ k. OneKeepsNone (types_of pool) (forms levels) (kind_in pool f.group k) (model.message (view m))) (sym type_is) o.1)))
      value_told {v = v} (list_text vs y is text) levels f true c kind whole fit shown = absurd (cc (sym (list_seen v vs is) ∙ map_seen v fit.0 fit.1))
      value_told {v = v} (list_text vs y is text) levels f false true kind whole fit shown =
          let same : fit.0 ≡ vs = ap (λ o. unwrap_or o vs) (sym fit.1 ∙ is) in
          carried (list_told text levels f kind whole (subst (AllByRecursion (FitsOne (Shaped levels) pool f)) same fit.2)
          (subst (λ c. IsGivenShown p (printed_content form schema inner (name_in pool f.kind) (kind_in pool f.group f.kind) c)) (list_seen v vs is) shown)) (told_brackets y) (λ o. (list_text vs y is o.0, subst (KeepsNone (types_of pool) (forms levels) (kind_of f)) (sym (list_seen v vs is)) o.1))
      value_told {i = i} {kind = k} {v = v} (list_text vs y is text) levels f false false kind whole fit shown = by (sort_of f.kind) where
        by : Sort f.kind → TellsRecord (91 ∷ (y ++ 93 ∷ [])) ⊎ (IsValueText own payloads x i k v (91 ∷ (y ++ 93 ∷ [])) × ValueTellsNone false false levels f v)
        by (floating e) = absurd (true≢false (sym e ∙ whole))
        by (plain type) = let w = fit.plain type in absurd (cc (sym (single_seen v w.0 w.1) ∙ list_seen v vs is))
        by (message_type type) = let n = fit.nested type in absurd (cc (sym (message_seen v n.0 n.1) ∙ list_seen v vs is))
      value_told {v = v} (map_text es y is text) levels f true c kind whole fit shown =
          let same : fit.0 ≡ es = ap (λ o. unwrap_or o es) (sym fit.1 ∙ is) in
          let g = values_of pool f in
          let every = subst (λ es. AllByRecursion (λ (e : MapKey × Value). (values : FieldType) → entry_field pool f.kind 2 ≡ Some values → FitsOne (Shaped levels) pool values e.1) es) same fit.2 in
          carried (map_told text levels g (ap value_kind kind ∙ map_values printer f whole.1) (values_not_float printer f whole.0 whole.1)
          (each_value printer f levels whole.1 es every)
          (subst (λ c. IsGivenShown p (printed_content form schema inner (name_in pool g.kind) (kind_in pool g.group g.kind) c)) (map_seen v es is) shown)) (told_brackets y) (λ o. (map_text es y is o.0, subst (KeepsNone (types_of pool) (forms levels) (kind_of g)) (sym (map_seen v es is)) o.1))
      value_told {v = v} (map_text es y is text) levels f false true kind whole fit shown = absurd (cc (sym (map_seen v es is) ∙ list_seen v fit.0 fit.1))
      value_told {i = i} {kind = k} {v = v} (map_text es y is text) levels f false false kind whole fit shown = by (sort_of f.kind) where
        by : Sort f.kind → TellsRecord (91 ∷ (y ++ 93 ∷ [])) ⊎ (IsValueText own payloads x i k v (91 ∷ (y ++ 93 ∷ [])) × ValueTellsNone false false levels f v)
        by (floating e) = absurd (true≢false (sym e ∙ whole))
        by (plain type) = let w = fit.plain type in absurd (cc (sym (single_seen v w.0 w.1) ∙ map_seen v es is))
        by (message_type type) = let n = fit.nested type in absurd (cc (sym (message_seen v n.0 n.1) ∙ map_seen v es is))

      list_told : {i : ℕ} {kind : Named} {first : Bool} {vs : List Value} {z : Text} → IsListText telling payloads x i kind first vs z → (levels : ℕ) (f : FieldType) → kind ≡ named pool f.kind → is_float f.kind ≡ false → AllByRecursion (FitsOne (Shaped levels) pool f) vs
          → AreValuesShown p (printed_list form schema inner (name_in pool f.kind) (kind_in pool f.group f.kind) (chain_of (map content_view vs))) → TellsRecord z ⊎ (IsListText own payloads x i kind first vs z × ListKeepsNone (types_of pool) (forms levels) (kind_of f) (chain_of (map content_view vs)))
      list_told no_values levels f kind whole fit shown = inr (no_values, λ bytes held. tt)
      list_told {i = i} {first = first} (more_values {v = v} {vs = vs} y rest text texts) levels f kind whole fit shown =
          carried_two (value_told text levels f false false kind whole fit.0 shown.0) (list_told texts levels f kind whole fit.1 shown.1)
          (λ t. told_element p first (y ++ rest) (told_behind y rest t))
          (λ o t. told_element p first (y ++ rest) (subst (λ y. TellsRecord (y ++ rest)) (sym (value_is o.0 levels f kind whole fit.0)) (told_value p i (value_in (give f v)) shown.0 rest (told_ends rest (list_ends telling payloads x texts refl) t) t)))
          (λ o os. (more_values y rest o.0 os.0, λ bytes held. (o.1 bytes.0 held.0, os.1 bytes.1 held.1)))

      pair_told : {i : ℕ} {kind : Named} {e : MapKey × Value} {z : Text} → IsPairText telling payloads x i kind e z → (levels : ℕ) (f : FieldType) → kind ≡ named pool f.kind → is_float f.kind ≡ false → FitsOne (Shaped levels) pool f e.1 → IsValueShown p (shown_entry f e) → TellsRecord z ⊎ (IsPairText own payloads x i kind e z × ValueTellsNone false false levels f e.1)
      pair_told {i = i} {e = e} (pair_text key value keyed text) levels f kind whole fit shown =
          carried (value_told text levels f false false kind whole fit (shown_value p (give f e.1) shown.3.1))
          (told_entry p i (printed_single (name_in pool f.kind) (single_view (key_view e.0))) e.1 key value (key_said pool f.kind (key_view e.0) key (no_enum e.0) keyed) shown.1 (value_ends telling payloads x text))
          (λ o. (pair_text key value keyed o.0, o.1))

      map_told : {i : ℕ} {kind : Named} {first : Bool} {es : List (MapKey × Value)} {z : Text} → IsMapText telling payloads x i kind first es z → (levels : ℕ) (f : FieldType) → kind ≡ named pool f.kind → is_float f.kind ≡ false → AllByRecursion (λ (e : MapKey × Value). FitsOne (Shaped levels) pool f e.1) es
          → AreValuesShown p (printed_entries form schema inner (name_in pool f.kind) (kind_in pool f.group f.kind) (entries_of (pairs_view es))) → TellsRecord z ⊎ (IsMapText own payloads x i kind first es z × MapKeepsNone (types_of pool) (forms levels) (kind_of f) (entries_of (pairs_view es)))
      map_told no_pairs levels f kind whole fit shown = inr (no_pairs, λ bytes held. tt)
      map_told {i = i} {first = first} (more_pairs {e = e} {es = es} y rest text texts) levels f kind whole fit shown =
          carried_two (pair_told text levels f kind whole fit.0 shown.0) (map_told texts levels f kind whole fit.1 shown.1)
          (λ t. told_element p first (y ++ rest) (told_behind y rest t))
          (λ o t. told_element p first (y ++ rest) (subst (λ y. TellsRecord (y ++ rest)) (sym (pair_is o.0 levels f kind whole fit.0)) (told_value p i (shown_entry f e) shown.0 rest (told_ends rest (map_ends telling payloads x texts refl) t) t)))
          (λ o os. (more_pairs y rest o.0 os.0, λ bytes held. (bytes.0, o.1 bytes.1 held.0, os.1 bytes.2 held.1)))

      pub braced_told : {i : ℕ} {m : DynamicMessage} {z : Text} → IsBracedText telling payloads x i m z → (levels : ℕ) → m.descriptor.pool.now ≡ pool → Shaped levels m → AreShown p (tree_in m) → TellsRecord z ⊎ (IsBracedText own payloads x i m z × TellsNone levels m)
      braced_told {i = i} (braced any y text) levels there shaped shown = carried (items_told text levels there shaped shown) (told_braces p any i y) (λ o. (braced any y o.0, o.1))

      pub items_told : {i : ℕ} {braces any : Bool} {m : DynamicMessage} {z : Text} → IsItemsText telling payloads x i braces m any z → (levels : ℕ) → m.descriptor.pool.now ≡ pool → Shaped levels m → AreShown p (tree_in m) → TellsRecord z ⊎ (IsItemsText own payloads x i braces m any z × TellsNone levels m)
      items_told (expanded url body y may stands text) zero there shaped shown = absurd shaped
      items_told {i = i} {braces = braces} {m = m} (expanded url body y may stands text) (suc levels) there shaped shown =
          let its = expansion_told levels m there shaped shown url body may stands i y text in
          carried its.3
          (λ t. told_item p braces false i (bracketed url ++ (padding p ++ y))
          (told_under (tree.expansion (parts its.0.0) (parts its.0.1)) (bracketed url) (url_said its.0.0 its.0.1 ∙ ap bracketed its.1) its.2 (padding p ++ y) (braced_ends telling payloads (x - 1) text) (told_padding p y t)))
          (λ o. (expanded url body y may stands o, its.4))
      items_told (listed ds os y rest either declared others first second) zero there shaped shown = absurd shaped
      items_told {m = m} (listed ds os y rest either declared others first second) (suc levels) there shaped shown =
          let fit = printed levels m there shaped ds declared in
          let each = all_parts (IsPairShown p) pair ds (extension_entries m) (subst (AllByRecursion (IsPairShown p)) fit.2 (shown_pairs p (pairs m) (subst (λ o. AreShown p (or_fields o (joined (between p) (pairs m)))) (unexpanded levels m there shaped either) shown))) in
          let fields : AllByRecursion (Fine levels) ds = all_fine printer levels ds fit.0 each.0 in
          let found : AllByRecursion (Fine levels) (extension_entries m ++ map undeclared (unknown_of m)) =
          all_append (Fine levels) (extension_entries m) (map undeclared (unknown_of m)) (all_fine printer levels (extension_entries m) fit.1 each.1) (records_fine printer levels (unknown_of m) (small_numbers 1 (unknown_of m) shaped.ordered.unknown)) in
          carried_two (row_told first levels fields) (row_told second levels (each_other m shaped.ordered.extensions (unknown_of m) os others (Fine levels) found))
          (told_behind y rest)
          (λ o t. row_before o.0 levels fields o.1 rest (λ e. told_ends rest (row_ends telling payloads x second e) t) t)
          (λ o others_too.
          let all = no_records m shaped.ordered.extensions (unknown_of m) os others (EntryTellsNone levels) (λ r record_kept. record_kept) others_too.1 in
          (listed ds os y rest either declared (as_they_stand m shaped.ordered.extensions (unknown_of m) os others all.1) o.0 others_too.0, gathers levels m there shaped ds declared o.1 all.0 all.1))

      row_told : {i : ℕ} {braces any : Bool} {es : List Entry} {z : Text} → IsRowText telling payloads x i braces any es z → (levels : ℕ) → AllByRecursion (Fine levels) es → TellsRecord z ⊎ (IsRowText own payloads x i braces any es z × AllByRecursion (EntryTellsNone levels) es)
      row_told no_entries levels fine = inr (no_entries, tt)
      row_told {i = i} {braces = braces} {any = any} (more_entries {e = e} {es = es} y rest text texts) levels fine =
          carried_two (entry_told text levels fine.0) (row_told texts levels fine.1)
          (λ t. told_item p braces any i (y ++ rest) (told_behind y rest t))
          (λ o t. told_item p braces any i (y ++ rest) (entry_before o.0 levels fine.0 o.1 rest (told_ends rest (row_ends telling payloads x texts refl) t) t))
          (λ o os. (more_entries y rest o.0 os.0, (o.1, os.1)))

      entry_told : {i : ℕ} {e : Entry} {z : Text} → IsEntryText telling payloads x i e z → (levels : ℕ) → Fine levels e → TellsRecord z ⊎ (IsEntryText own payloads x i e z × EntryTellsNone levels e)
      entry_told {i = i} (field_text {pool = q} {f = f} {v = v} y text) levels fine =
          carried (held_told printer (forms levels) f v levels (holds_map pool f) (holds_list pool f) refl fine.0.1 (λ b c whole fit shown. value_told text levels f b c (ap (λ q. named q f.kind) fine.0.0) whole fit shown) fine.0.2 fine.1.1)
          (λ t. told_under (tree.plain (label_of q f)) (label_of q f) (name_said (label_of q f)) (subst (λ q. IsNameShown (tree.plain (label_of q f))) (sym fine.0.0) fine.1.0) (before_value p (message_in v) ++ y) (value_ends telling payloads x text) (told_behind_colon p (message_in v) y t))
          (λ o. (field_text y o.0, o.1))
      entry_told {i = i} (extension_text {pool = q} {f = f} {v = v} y text) levels fine =
          carried (held_told printer (forms levels) f v levels (holds_map pool f) (holds_list pool f) refl fine.0.1 (λ b c whole fit shown. value_told text levels f b c (ap (λ q. named q f.kind) fine.0.0) whole fit shown) fine.0.2 fine.1.1)
          (λ t. told_under (tree.extension (parts f.full_name)) (bracketed f.full_name) (bracket_said f.full_name) fine.1.0 (before_value p (message_in v) ++ y) (value_ends telling payloads x text) (told_behind_colon p (message_in v) y t))
          (λ o. (extension_text y o.0, o.1))
      entry_told {i = i} (record_text {r = r} {z = z} text) levels fine = inl (record_told payloads p i r z fine text)
