-- The text of values and messages is that of their trees.
use Rattle.std.proofs.Common.{◌≡◌, ◌⊎◌, ℕ, ℤ, zero, suc, ◌+◌, ◌-◌, ◌&&◌, ◌||◌, Bool, true, false, true≢false, cond, not, List, [], ◌∷◌, ◌++◌, map, Option, Some, None, unwrap_or, codes, refl, sym, ap, ◌∙◌, subst, append-nil, append_assoc}
use Rattle.std.specs.List.{AllByRecursion}
use Rattle.protox_lex.specs.Class.{Text}
use Rattle.reflect_tables.specs.Types.{PoolType, FieldType, KindType, type_at, type_of_field, no_field}
use Rattle.reflect_tables.specs.Types as types
use Rattle.reflect_tables.specs.declared.stored.StoredEntry.{StoredEntry}
use Rattle.reflect_pool.specs.Shapes.{is_entry, is_repeated, holds_list, holds_map}
use Rattle.reflect_scalar.specs.Keys.{key_view}
use Rattle.reflect_scalar.specs.Singles as held
use Rattle.reflect_scalar.specs.declared.map_key.MapKey.{MapKey}
use Rattle.reflect_scalar.specs.declared.map_key.MapKey.TheVariants as keys
use Rattle.reflect_message.specs.Known.{is_float, entry_field, has_floats, holds_floats}
use Rattle.reflect_message.specs.Messages.{message_in}
use Rattle.reflect_message.specs.Singles as singles
use Rattle.reflect_message.specs.Names.{DynamicMessage, Value}
use Rattle.print_parts.specs.Expands.{Expands}
use Rattle.print_parts.specs.Entries.{Entry, field, extension, undeclared, AreDeclared, extension_entries}
use Rattle.reflect_print.specs.MessageTexts.{MayExpand, before_value, any_behind, key_text, value_text, IsSingleText, IsValueText, single_text, message_text, list_text, map_text, IsListText, no_values, more_values, IsPairText, pair_text, IsMapText, no_pairs, more_pairs, IsBracedText, braced, IsItemsText, expanded, listed, IsRowText, no_entries, more_entries, IsEntryText, field_text, extension_text, record_text}
use Rattle.reflect_print.specs.Named.{Named, named, value_kind, label_of}
use Rattle.text_lines.specs.Pieces.{bracketed, padding, colon, before_element, before_item}
use Rattle.text_lines.specs.declared.options.FormatOptions.{FormatOptions}
use Rattle.text_lines.specs.Pieces as pieces
use Rattle.protobuf_model.specs.Types.{Name}
use Rattle.protobuf_model.specs.Values as model
use Rattle.protobuf_model.specs.Values.{Content, Message, chain_of, entries_of}
use Rattle.text_model.specs.Forms.{Form, between}
use Rattle.text_model.specs.Printed.{Inner, expanded_as, in_any, joined, or_fields, parts, printed_by, printed_content, printed_list, printed_entry, printed_entries, printed_fields, printed_single, value_in}
use Rattle.text_model.specs.Rendered.{run}
use Rattle.text_model.specs.Schemas.{Schema}
use Rattle.text_model.specs.Tokens.{scalar_tokens}
use Rattle.text_model.specs.Tree as tree
use Rattle.text_model.specs.Tree.{Given, Fields, Values, curly}
use Rattle.message_view.specs.Singles.{single_view}
use Rattle.message_view.specs.Sound.{HaveEntryFields}
use Rattle.message_view.specs.Types.{name_at, kind_in, entry_part, values_of}
use Rattle.message_view.specs.Views.{content_view, view}
use Rattle.message_view.proofs.Entries.{Sort, plain, floating, message_type, sort_of}
use Rattle.message_view.proofs.Seen.{single_seen, message_seen, list_seen, map_seen, pairs_view}
use Rattle.message_view.specs.Shaped.{FitsAs, FitsOne, Shaped}
use Rattle.text_view.specs.Names.{name_in}
use Rattle.text_view.specs.Schemas.{schema_of}
use Rattle.print_view.specs.Forms.{form_of}
use Rattle.print_view.proofs.Parts.{HaveValues}
use Rattle.print_view.proofs.Pieces.{Pair, value_shown, given_shown, list_shown, scalar_value, scalar_given, message_given, list_given, list_none, list_more, one, row, word_said, name_said, bracket_said, url_said, row_append, any_pairs, any_append, braced_said}
use Rattle.print_view.proofs.Printer.{Printer, own_of}
use Rattle.print_view.proofs.Singles.{single_said, key_said}

-- what is seen of a value is of one sort
pub no_message : (v : Value) (c : Content) → content_view v ≡ c → ((m : Message) → c ≡ model.message m → ⊥) → message_in v ≡ None
no_message v c is other = by (message_in v) refl where
  by : (o : Option DynamicMessage) → message_in v ≡ o → o ≡ None
  by None e = refl
  by (Some m) e = absurd (other (view m) (sym is ∙ message_seen v m e))

-- a key is no value of an enum
pub no_enum : (k : MapKey) (n : ℤ) → key_view k ≡ held.enumerated n → ⊥
no_enum (keys.Bool b) n e = cc e
no_enum (keys.I32 z) n e = cc e
no_enum (keys.I64 z) n e = cc e
no_enum (keys.U32 m) n e = cc e
no_enum (keys.U64 m) n e = cc e
no_enum (keys.String t) n e = cc e

-- the key of a map's entry under its name
pub key_said_one : (p : Bool) (i : ℕ) (k : tree.ScalarValue) (key : Text) → key ≡ run (scalar_tokens k) → codes "key" ++ (colon p ++ key) ≡ one p i (tree.plain (codes "key"), tree.one_scalar k)
key_said_one p i k key h =
    ap (λ l. codes "key" ++ (colon p ++ l)) h ∙ ap (λ l. codes "key" ++ l) (sym (scalar_given p i k))
    ∙ ap (λ l. l ++ given_shown p i (tree.one_scalar k)) (sym (word_said (codes "key")))

module _ (printer : Printer) where
  -- its parts
  abbrev p : Bool
  p = printer.pretty

  abbrev pool : PoolType
  pool = printer.pool

  abbrev fields_of : HaveEntryFields printer.pool
  fields_of = printer.fields_of

  abbrev values : HaveValues printer.pool
  values = printer.values

  abbrev decoded : Name → Text → Option Message
  decoded = printer.decoded

  abbrev inner : Inner
  inner = printer.inner

  abbrev payloads : ℕ
  payloads = printer.payloads

  -- the options, and the form that they are
  abbrev pub options : FormatOptions
  options = own_of printer

  abbrev pub own : Form
  own = form_of options

  abbrev pub schema : Schema
  schema = schema_of pool decoded

  -- what is given to a field whose values are of the type of this one
  abbrev pub given : FieldType → Value → Given
  given f v = printed_content own schema inner (name_in pool f.kind) (kind_in pool f.group f.kind) (content_view v)

  -- the fields of a message, and what is printed of it
  abbrev pub pairs_in : DynamicMessage → List Pair
  pairs_in m = printed_fields own schema inner (name_at pool m.descriptor.index) (view m)

  abbrev pub tree_of : DynamicMessage → Fields
  tree_of m = printed_by own schema inner (name_at pool m.descriptor.index) (view m)

  -- as an Any
  abbrev pub of_any : DynamicMessage → Option Fields
  of_any m = in_any own schema inner (name_at pool m.descriptor.index) (view m)

  -- a text is that of a value in a list, and behind a name, at an indentation
  abbrev pub Said : ℕ → FieldType → Value → Text → Type 0
  Said i f v z = (z ≡ value_shown p i (value_in (given f v))) × (before_value p (message_in v) ++ z ≡ given_shown p i (given f v))

  said_single : (i : ℕ) (f : FieldType) (v : Value) (s : held.Single) (z : Text) → singles.single v ≡ Some s → z ≡ run (scalar_tokens (printed_single (name_in pool f.kind) (single_view s))) → Said i f v z
  said_single i f v s z is h =
      let seen = single_seen v s is in
      let word = printed_single (name_in pool f.kind) (single_view s) in
      let same = ap (λ c. printed_content own schema inner (name_in pool f.kind) (kind_in pool f.group f.kind) c) seen in (
        h ∙ sym (scalar_value p i word) ∙ sym (ap (λ g. value_shown p i (value_in g)) same),
        ap (λ o. before_value p o ++ z) (no_message v (model.single (single_view s)) seen (λ m e. cc e)) ∙ ap (λ l. colon p ++ l) h ∙ sym (scalar_given p i word) ∙ sym (ap (given_shown p i) same),
      )

  pub given_message : (f : FieldType) (v : Value) (m : DynamicMessage) → message_in v ≡ Some m → f.kind ≡ types.message m.descriptor.index → given f v ≡ tree.one_message false curly (tree_of m)
  given_message f v m is kind =
      ap (λ c. printed_content own schema inner (name_in pool f.kind) (kind_in pool f.group f.kind) c) (message_seen v m is)
      ∙ ap (λ k. printed_content own schema inner (name_in pool f.kind) (kind_in pool f.group k) (model.message (view m))) kind

  said_message : (i : ℕ) (f : FieldType) (v : Value) (m : DynamicMessage) (z : Text) → message_in v ≡ Some m → f.kind ≡ types.message m.descriptor.index → z ≡ value_shown p i (tree.braced curly (tree_of m)) → Said i f v z
  said_message i f v m z is kind h =
      let same = given_message f v m is kind in (
        h ∙ sym (ap (λ g. value_shown p i (value_in g)) same),
        ap (λ o. before_value p o ++ z) is ∙ ap (λ l. padding p ++ l) h ∙ sym (message_given p i (tree_of m)) ∙ sym (ap (given_shown p i) same),
      )

  -- a list and a map behind a name
  abbrev pub Behind : ℕ → FieldType → Value → Text → Type 0
  Behind i f v z = before_value p (message_in v) ++ z ≡ given_shown p i (given f v)

  behind_list : (i : ℕ) (f : FieldType) (v : Value) (c : Content) (vs : Values) (z : Text) → content_view v ≡ c → ((m : Message) → c ≡ model.message m → ⊥)
      → printed_content own schema inner (name_in pool f.kind) (kind_in pool f.group f.kind) c ≡ tree.listed vs → z ≡ list_shown p true i vs → Behind i f v (91 ∷ (z ++ 93 ∷ []))
  behind_list i f v c vs z seen other is h =
      ap (λ o. before_value p o ++ (91 ∷ (z ++ 93 ∷ []))) (no_message v c seen other)
      ∙ ap (λ l. colon p ++ 91 ∷ (l ++ 93 ∷ [])) h
      ∙ sym (list_given p i vs)
      ∙ sym (ap (λ c. given_shown p i (printed_content own schema inner (name_in pool f.kind) (kind_in pool f.group f.kind) c)) seen ∙ ap (given_shown p i) is)

  -- what may be printed of a message
  abbrev pub FitsField : ℕ → PoolType → FieldType → Value → Type 0
  FitsField levels q f v = (q ≡ pool) × (holds_floats pool f ≡ false) × FitsAs (Shaped levels) pool f (holds_map pool f) (holds_list pool f) v

  abbrev pub EntryFits : ℕ → Entry → Type 0
  EntryFits levels (field q f v) = FitsField levels q f v
  EntryFits levels (extension q f v) = FitsField levels q f v
  EntryFits levels (undeclared r) = ⊥

  -- an entry under its name
  abbrev pub pair_of : Entry → Pair
  pair_of (field q f v) = (tree.plain (label_of pool f), given (values_of pool f) v)
  pair_of (extension q f v) = (tree.extension (parts f.full_name), given (values_of pool f) v)
  pair_of (undeclared r) = (tree.plain [], tree.listed tree.no_values)

  -- what has to be shown of a message at each depth: what is printed of it are its entries
  abbrev pub Printed : Type 0
  Printed = (levels : ℕ) (m : DynamicMessage) → m.descriptor.pool.now ≡ pool → Shaped (suc levels) m → (ds : List Entry) → AreDeclared options m ds
      → AllByRecursion (EntryFits levels) ds × AllByRecursion (EntryFits levels) (extension_entries m)
      × (pairs_in m ≡ map pair_of ds ++ map pair_of (extension_entries m))

  -- the values of a map are those of its entries' type
  pub map_values : (f : FieldType) → holds_map pool f ≡ true → value_kind (named pool f.kind) ≡ named pool (values_of pool f).kind
  map_values f is = by f.kind refl where
    entry_too : (t : KindType) → is_entry pool t && (is_repeated f.cardinality && not f.group) ≡ true → is_entry pool t ≡ true
    entry_too t e = first (is_entry pool t) (is_repeated f.cardinality && not f.group) e where
      first : (a b : Bool) → a && b ≡ true → a ≡ true
      first true b e = refl
      first false b e = absurd (cc e)

    within : (i : ℕ) → f.kind ≡ types.message i → (o : Option StoredEntry) → (type_at pool i).entry ≡ o → value_kind (named pool (types.message i)) ≡ named pool (values_of pool f).kind
    within i kind None none =
        let entry = entry_too f.kind is in
        absurd (true≢false (sym entry ∙ ap (is_entry pool) kind ∙ ap (λ o. elim o [ None ↦ false | Some x ↦ true ]) none))
    within i kind (Some e) some =
        ap (λ o. elim o [ None ↦ None | Some e ↦ named pool (type_of_field pool i e.value).kind ]) some
        ∙ sym (ap (λ b. named pool (cond b (entry_part pool f 2) f).kind) is
        ∙ ap (λ o. named pool (unwrap_or o no_field).kind) (ap (λ t. entry_field pool t 2) kind ∙ values i e some))

    by : (t : KindType) → f.kind ≡ t → value_kind (named pool f.kind) ≡ named pool (values_of pool f).kind
    by (types.message i) kind = ap (λ t. value_kind (named pool t)) kind ∙ within i kind (type_at pool i).entry refl
    by t kind = absurd (true≢false (sym (entry_too f.kind is) ∙ ap (is_entry pool) kind))

  pub one_of : (f : FieldType) → holds_map pool f ≡ false → values_of pool f ≡ f
  one_of f is = ap (λ b. cond b (entry_part pool f 2) f) is

  -- neither are floating-point numbers
  pub not_float : (f : FieldType) → holds_floats pool f ≡ false → holds_map pool f ≡ false → is_float f.kind ≡ false
  not_float f whole is = by (is_float f.kind) refl where
    by : (b : Bool) → is_float f.kind ≡ b → b ≡ false
    by false e = refl
    by true e = absurd (true≢false (sym (ap (λ b. b || (holds_map pool f && has_floats pool f.kind)) e) ∙ whole))

  values_there : (f : FieldType) → holds_map pool f ≡ true → (g : FieldType) × (entry_field pool f.kind 2 ≡ Some g) × (values_of pool f ≡ g)
  values_there f is =
      let there = fields_of f.kind (first (is_entry pool f.kind) (is_repeated f.cardinality && not f.group) is) in
      (there.1, there.3, ap (λ b. cond b (entry_part pool f 2) f) is ∙ ap (λ o. unwrap_or o no_field) there.3) where
        first : (a b : Bool) → a && b ≡ true → a ≡ true
        first true b e = refl
        first false b e = absurd (cc e)

  pub values_not_float : (f : FieldType) → holds_floats pool f ≡ false → holds_map pool f ≡ true → is_float (values_of pool f).kind ≡ false
  values_not_float f whole is =
      let there = values_there f is in
      ap (λ (g : FieldType). is_float g.kind) there.2
      ∙ sym (ap (λ o. elim o [ None ↦ false | Some v ↦ is_float v.kind ]) there.1)
      ∙ second (is_float f.kind) (has_floats pool f.kind) (sym (ap (λ b. is_float f.kind || (b && has_floats pool f.kind)) is) ∙ whole) where
        second : (a b : Bool) → a || (true && b) ≡ false → b ≡ false
        second true b e = absurd (cc e)
        second false b e = e

  pub each_value : (f : FieldType) (levels : ℕ) (is : holds_map pool f ≡ true) (es : List (MapKey × Value))
      → AllByRecursion (λ (e : MapKey × Value). (values : FieldType) → entry_field pool f.kind 2 ≡ Some values → FitsOne (Shaped levels) pool values e.1) es
      → AllByRecursion (λ (e : MapKey × Value). FitsOne (Shaped levels) pool (values_of pool f) e.1) es
  each_value f levels is [] all = tt
  each_value f levels is (e ∷ es) all =
      let there = values_there f is in
      (subst (λ g. FitsOne (Shaped levels) pool g e.1) (sym there.2) (all.0 there.0 there.1), each_value f levels is es all.1)

  -- one value more of a list
  more_said : (first : Bool) (i : ℕ) (v : tree.Value) (vs : Values) (y rest : Text) → y ≡ value_shown p i v → rest ≡ list_shown p false i vs → before_element p first ++ (y ++ rest) ≡ list_shown p first i (tree.more_values v vs)
  more_said first i v vs y rest h k =
      ap (λ l. before_element p first ++ (l ++ rest)) h ∙ ap (λ l. before_element p first ++ (value_shown p i v ++ l)) k
      ∙ sym (list_more p first i v vs)

  -- an entry of a map
  entry_said : (f : FieldType) (v : Value) (k : tree.ScalarValue) (i : ℕ) (key value : Text) → key ≡ run (scalar_tokens k) → before_value p (message_in v) ++ value ≡ given_shown p (i + 2) (given f v)
      → pieces.in_braces p i true (key_text p (i + 2) key ++ value_text p (i + 2) v value) ≡ value_shown p i (printed_entry (between p) k (given f v))
  entry_said f v k i key value h said =
      let a : Pair = (tree.plain (codes "key"), tree.one_scalar k) in
      let b : Pair = (tree.plain (codes "value"), given f v) in
      let second : codes "value" ++ (before_value p (message_in v) ++ value) ≡ one p (i + 2) b =
      ap (λ l. codes "value" ++ l) said ∙ ap (λ l. l ++ given_shown p (i + 2) (given f v)) (sym (word_said (codes "value"))) in
      ap (λ l. pieces.in_braces p i true ((before_item p true false (i + 2) ++ l) ++ value_text p (i + 2) v value)) (key_said_one p (i + 2) k key h)
      ∙ ap (λ l. pieces.in_braces p i true ((before_item p true false (i + 2) ++ one p (i + 2) a) ++ (before_item p true true (i + 2) ++ l))) (second ∙ sym (append-nil (one p (i + 2) b)))
      ∙ ap (pieces.in_braces p i true) (append_assoc (before_item p true false (i + 2)) (one p (i + 2) a) (before_item p true true (i + 2) ++ (one p (i + 2) b ++ [])))
      ∙ braced_said p i (a ∷ b ∷ [])

  same_any : (any : Bool) (es : List Entry) → any_behind any es ≡ any_pairs any (map pair_of es)
  same_any any [] = refl
  same_any any (e ∷ es) = refl

  -- what a message holds, one behind the other, and whether it holds anything
  rows_said : (braces : Bool) (i : ℕ) (m : DynamicMessage) (ds os : List Entry) (y rest : Text) → os ≡ extension_entries m → y ≡ row p braces i false (map pair_of ds) → rest ≡ row p braces i (any_behind false ds) (map pair_of os)
      → pairs_in m ≡ map pair_of ds ++ map pair_of (extension_entries m) → (y ++ rest ≡ row p braces i false (pairs_in m)) × (any_behind (any_behind false ds) os ≡ any_pairs false (pairs_in m))
  rows_said braces i m ds os y rest others fields extensions all =
      let whole : map pair_of ds ++ map pair_of os ≡ pairs_in m = ap (λ es. map pair_of ds ++ map pair_of es) others ∙ sym all in (
        ap (λ l. l ++ rest) fields ∙ ap (λ l. row p braces i false (map pair_of ds) ++ l) (extensions ∙ ap (λ b. row p braces i b (map pair_of os)) (same_any false ds))
            ∙ sym (row_append p braces i false (map pair_of ds) (map pair_of os)) ∙ ap (row p braces i false) whole,
        same_any (any_behind false ds) os ∙ ap (λ b. any_pairs b (map pair_of os)) (same_any false ds)
            ∙ any_append false (map pair_of ds) (map pair_of os) ∙ ap (any_pairs false) whole,
      )

  -- what a value is, by whether its field is a map, and whether it is a list
  abbrev pub Whole : Bool → FieldType → Type 0
  Whole true f = (holds_floats pool f ≡ false) × (holds_map pool f ≡ true)
  Whole false f = is_float f.kind ≡ false

  abbrev pub Shows : (map_too repeated : Bool) → ℕ → FieldType → Value → Text → Type 0
  Shows true repeated i f v z = Behind i (values_of pool f) v z
  Shows false true i f v z = Behind i f v z
  Shows false false i f v z = Said i f v z

  -- what a field holds, behind its name
  held_said : (i : ℕ) (f : FieldType) (v : Value) (z : Text) (b c : Bool) → holds_map pool f ≡ b → holds_floats pool f ≡ false
      → ((b c : Bool) → holds_map pool f ≡ b → Whole b f → (levels : ℕ) → FitsAs (Shaped levels) pool f b c v → Shows b c i f v z)
      → (levels : ℕ) → FitsAs (Shaped levels) pool f b c v → Behind i (values_of pool f) v z
  held_said i f v z true c is whole shows levels fits = shows true c is (whole, is) levels fits
  held_said i f v z false true is whole shows levels fits = subst (λ g. Behind i g v z) (sym (one_of f is)) (shows false true is (not_float f whole is) levels fits)
  held_said i f v z false false is whole shows levels fits = subst (λ g. Behind i g v z) (sym (one_of f is)) (shows false false is (not_float f whole is) levels fits).1

  -- a text is that of what is printed of a message, without braces, and tells whether that is anything
  abbrev pub ShowsItems : Bool → ℕ → DynamicMessage → Bool → Text → Type 0
  ShowsItems braces i m any z = (ps : List Pair) × (tree_of m ≡ joined (between p) ps) × (z ≡ row p braces i false ps) × (any ≡ any_pairs false ps)

  -- what has to be shown of an Any with so many expansions left, that is not expanded and that is
  abbrev pub Unexpanded : ℕ → Type 0
  Unexpanded x = (levels : ℕ) (m : DynamicMessage) → m.descriptor.pool.now ≡ pool → Shaped (suc levels) m → ((MayExpand options x → ⊥) ⊎ Expands m None) → of_any m ≡ None

  abbrev pub Expansion : ℕ → Type 0
  Expansion x = (levels : ℕ) (m : DynamicMessage) → m.descriptor.pool.now ≡ pool → Shaped (suc levels) m → (url : Text) (body : DynamicMessage) → MayExpand options x → Expands m (Some (url, body))
      → (i : ℕ) (z : Text) → IsBracedText options payloads (x - 1) i body z
      → (u : Text × Text) × (fs : Fields) × (u.0 ++ 47 ∷ u.1 ≡ url) × (of_any m ≡ Some (expanded_as u fs)) × (z ≡ value_shown p i (tree.braced curly fs))

  -- an expansion under its URL
  expansion_row : (braces : Bool) (i : ℕ) (u : Text × Text) (fs : Fields) (url y : Text) → u.0 ++ 47 ∷ u.1 ≡ url → y ≡ value_shown p i (tree.braced curly fs)
      → before_item p braces false i ++ (bracketed url ++ (padding p ++ y)) ≡ row p braces i false ((tree.expansion (parts u.0) (parts u.1), tree.one_message false curly fs) ∷ [])
  expansion_row braces i u fs url y whole said =
      ap (λ l. before_item p braces false i ++ l)
      (ap (λ l. bracketed url ++ (padding p ++ l)) said
      ∙ ap (λ l. bracketed url ++ l) (sym (message_given p i fs))
      ∙ ap (λ l. l ++ given_shown p i (tree.one_message false curly fs)) (ap bracketed (sym whole) ∙ sym (url_said u.0 u.1))
      ∙ sym (append-nil (one p i (tree.expansion (parts u.0) (parts u.1), tree.one_message false curly fs))))

  module _ (x : ℕ) (printed : Printed) (unexpanded : Unexpanded x) (expansion : Expansion x) where
    mutual
      pub value_said : {i : ℕ} {kind : Named} {v : Value} {z : Text} → IsValueText options payloads x i kind v z → (levels : ℕ) (f : FieldType) (b c : Bool) → kind ≡ named pool f.kind → Whole b f → FitsAs (Shaped levels) pool f b c v → Shows b c i f v z
      value_said {i = i} {v = v} (single_text s is text) levels f true c kind whole fits = absurd (cc (sym (single_seen v s is) ∙ map_seen v fits.0 fits.1))
      value_said {i = i} {v = v} (single_text s is text) levels f false true kind whole fits = absurd (cc (sym (single_seen v s is) ∙ list_seen v fits.0 fits.1))
      value_said {i = i} {v = v} {z = z} (single_text s is text) levels f false false kind whole fits =
          said_single i f v s z is (single_said pool f.kind s z (subst (λ k. IsSingleText k s z) kind text))
      value_said {i = i} {v = v} (message_text m is text) levels f true c kind whole fits = absurd (cc (sym (message_seen v m is) ∙ map_seen v fits.0 fits.1))
      value_said {i = i} {v = v} (message_text m is text) levels f false true kind whole fits = absurd (cc (sym (message_seen v m is) ∙ list_seen v fits.0 fits.1))
      value_said {i = i} {v = v} {z = z} (message_text m is text) levels f false false kind whole fits = by (sort_of f.kind) (braced_text text levels) where
        by : Sort f.kind → (m.descriptor.pool.now ≡ pool → Shaped levels m → z ≡ value_shown p i (tree.braced curly (tree_of m))) → Said i f v z
        by (floating e) deeper = absurd (true≢false (sym e ∙ whole))
        by (plain type) deeper = let w = fits.plain type in absurd (cc (sym (single_seen v w.0 w.1) ∙ message_seen v m is))
        by (message_type type) deeper =
            let n = fits.nested type in
            let same : n.0 ≡ m = ap (λ o. unwrap_or o m) (sym n.1 ∙ is) in
            said_message i f v m z is (n.2.1 ∙ ap (λ (m : DynamicMessage). types.message m.descriptor.index) same)
            (deeper (sym (ap (λ (m : DynamicMessage). m.descriptor.pool.now) same) ∙ n.2.0) (subst (Shaped levels) same n.3))
      value_said {i = i} {v = v} (list_text vs y is text) levels f true c kind whole fits = absurd (cc (sym (list_seen v vs is) ∙ map_seen v fits.0 fits.1))
      value_said {i = i} {v = v} (list_text vs y is text) levels f false true kind whole fits =
          let same : fits.0 ≡ vs = ap (λ o. unwrap_or o vs) (sym fits.1 ∙ is) in
          behind_list i f v (model.list (chain_of (map content_view vs))) (printed_list own schema inner (name_in pool f.kind) (kind_in pool f.group f.kind) (chain_of (map content_view vs))) y (list_seen v vs is) (λ m e. cc e) refl
          (list_said text levels f kind whole (subst (AllByRecursion (FitsOne (Shaped levels) pool f)) same fits.2))
      value_said {i = i} {v = v} (list_text vs y is text) levels f false false kind whole fits = by (sort_of f.kind) where
        by : Sort f.kind → Said i f v (91 ∷ (y ++ 93 ∷ []))
        by (floating e) = absurd (true≢false (sym e ∙ whole))
        by (plain type) = let w = fits.plain type in absurd (cc (sym (single_seen v w.0 w.1) ∙ list_seen v vs is))
        by (message_type type) = let n = fits.nested type in absurd (cc (sym (message_seen v n.0 n.1) ∙ list_seen v vs is))
      value_said {i = i} {v = v} (map_text es y is text) levels f true c kind whole fits =
          let same : fits.0 ≡ es = ap (λ o. unwrap_or o es) (sym fits.1 ∙ is) in
          let g = values_of pool f in
          let every = subst (λ es. AllByRecursion (λ (e : MapKey × Value). (values : FieldType) → entry_field pool f.kind 2 ≡ Some values → FitsOne (Shaped levels) pool values e.1) es) same fits.2 in
          behind_list i g v (model.dictionary (entries_of (pairs_view es))) (printed_entries own schema inner (name_in pool g.kind) (kind_in pool g.group g.kind) (entries_of (pairs_view es))) y (map_seen v es is) (λ m e. cc e) refl
          (map_said text levels g (ap value_kind kind ∙ map_values f whole.1) (values_not_float f whole.0 whole.1) (each_value f levels whole.1 es every))
      value_said {i = i} {v = v} (map_text es y is text) levels f false true kind whole fits = absurd (cc (sym (map_seen v es is) ∙ list_seen v fits.0 fits.1))
      value_said {i = i} {v = v} (map_text es y is text) levels f false false kind whole fits = by (sort_of f.kind) where
        by : Sort f.kind → Said i f v (91 ∷ (y ++ 93 ∷ []))
        by (floating e) = absurd (true≢false (sym e ∙ whole))
        by (plain type) = let w = fits.plain type in absurd (cc (sym (single_seen v w.0 w.1) ∙ map_seen v es is))
        by (message_type type) = let n = fits.nested type in absurd (cc (sym (message_seen v n.0 n.1) ∙ map_seen v es is))

      list_said : {i : ℕ} {kind : Named} {first : Bool} {vs : List Value} {z : Text} → IsListText options payloads x i kind first vs z → (levels : ℕ) (f : FieldType) → kind ≡ named pool f.kind → is_float f.kind ≡ false → AllByRecursion (FitsOne (Shaped levels) pool f) vs
          → z ≡ list_shown p first i (printed_list own schema inner (name_in pool f.kind) (kind_in pool f.group f.kind) (chain_of (map content_view vs)))
      list_said {i = i} {first = first} no_values levels f kind whole fits = sym (list_none p first i)
      list_said {i = i} {first = first} (more_values {v = v} {vs = vs} y rest text texts) levels f kind whole fits =
          more_said first i (value_in (given f v)) (printed_list own schema inner (name_in pool f.kind) (kind_in pool f.group f.kind) (chain_of (map content_view vs))) y rest (value_said text levels f false false kind whole fits.0).0 (list_said texts levels f kind whole fits.1)

      pub pair_said : {i : ℕ} {kind : Named} {e : MapKey × Value} {z : Text} → IsPairText options payloads x i kind e z → (levels : ℕ) (f : FieldType) → kind ≡ named pool f.kind → is_float f.kind ≡ false → FitsOne (Shaped levels) pool f e.1
          → z ≡ value_shown p i (printed_entry (between p) (printed_single (name_in pool f.kind) (single_view (key_view e.0))) (given f e.1))
      pair_said {i = i} {e = e} (pair_text key value keyed text) levels f kind whole fits =
          entry_said f e.1 (printed_single (name_in pool f.kind) (single_view (key_view e.0))) i key value (key_said pool f.kind (key_view e.0) key (no_enum e.0) keyed) (value_said text levels f false false kind whole fits).1

      map_said : {i : ℕ} {kind : Named} {first : Bool} {es : List (MapKey × Value)} {z : Text} → IsMapText options payloads x i kind first es z → (levels : ℕ) (f : FieldType) → kind ≡ named pool f.kind → is_float f.kind ≡ false → AllByRecursion (λ (e : MapKey × Value). FitsOne (Shaped levels) pool f e.1) es
          → z ≡ list_shown p first i (printed_entries own schema inner (name_in pool f.kind) (kind_in pool f.group f.kind) (entries_of (pairs_view es)))
      map_said {i = i} {first = first} no_pairs levels f kind whole fits = sym (list_none p first i)
      map_said {i = i} {first = first} (more_pairs {e = e} {es = es} y rest text texts) levels f kind whole fits =
          more_said first i (printed_entry (between p) (printed_single (name_in pool f.kind) (single_view (key_view e.0))) (given f e.1)) (printed_entries own schema inner (name_in pool f.kind) (kind_in pool f.group f.kind) (entries_of (pairs_view es))) y rest (pair_said text levels f kind whole fits.0) (map_said texts levels f kind whole fits.1)

      pub braced_text : {i : ℕ} {m : DynamicMessage} {z : Text} → IsBracedText options payloads x i m z → (levels : ℕ) → m.descriptor.pool.now ≡ pool → Shaped levels m → z ≡ value_shown p i (tree.braced curly (tree_of m))
      braced_text {i = i} {m = m} (braced any y text) levels there shaped =
          let h = items_said text levels there shaped in
          ap (λ b. pieces.in_braces p i b y) h.3 ∙ ap (pieces.in_braces p i (any_pairs false h.0)) h.2
          ∙ braced_said p i h.0 ∙ ap (λ fs. value_shown p i (tree.braced curly fs)) (sym h.1)

      pub items_said : {i : ℕ} {braces any : Bool} {m : DynamicMessage} {z : Text} → IsItemsText options payloads x i braces m any z → (levels : ℕ) → m.descriptor.pool.now ≡ pool → Shaped levels m → ShowsItems braces i m any z
      items_said (expanded url body y may stands text) zero there shaped = absurd shaped
      items_said {i = i} {braces = braces} {m = m} (expanded url body y may stands text) (suc levels) there shaped =
          let h = expansion levels m there shaped url body may stands i y text in (
            (tree.expansion (parts h.0.0) (parts h.0.1), tree.one_message false curly h.1) ∷ [],
            ap (λ o. or_fields o (joined (between p) (pairs_in m))) h.3,
            expansion_row braces i h.0 h.1 url y h.2 h.4,
            refl,
          )
      items_said (listed ds os y rest either declared others first second) zero there shaped = absurd shaped
      items_said {i = i} {braces = braces} {m = m} (listed ds os y rest either declared others first second) (suc levels) there shaped =
          let all = printed levels m there shaped ds declared in
          let rows = rows_said braces i m ds os y rest others
          (row_said first levels all.0)
          (row_said second levels (subst (AllByRecursion (EntryFits levels)) (sym others) all.1)) all.2 in
          (pairs_in m, ap (λ o. or_fields o (joined (between p) (pairs_in m))) (unexpanded levels m there shaped either), rows.0, rows.1)

      row_said : {i : ℕ} {braces any : Bool} {es : List Entry} {z : Text} → IsRowText options payloads x i braces any es z → (levels : ℕ) → AllByRecursion (EntryFits levels) es → z ≡ row p braces i any (map pair_of es)
      row_said no_entries levels fits = refl
      row_said {i = i} {braces = braces} {any = any} (more_entries {e = e} {es = es} y rest text texts) levels fits =
          ap (λ l. before_item p braces any i ++ (l ++ rest)) (entry_text text levels fits.0)
          ∙ ap (λ l. before_item p braces any i ++ (one p i (pair_of e) ++ l)) (row_said texts levels fits.1)

      pub entry_text : {i : ℕ} {e : Entry} {z : Text} → IsEntryText options payloads x i e z → (levels : ℕ) → EntryFits levels e → z ≡ one p i (pair_of e)
      entry_text {i = i} (field_text {pool = q} {f = f} {v = v} y text) levels fits =
          ap (λ q. label_of q f ++ (before_value p (message_in v) ++ y)) fits.0
          ∙ ap (λ l. label_of pool f ++ l) (held_said i f v y (holds_map pool f) (holds_list pool f) refl fits.1 (λ b c is whole levels. value_said text levels f b c (ap (λ q. named q f.kind) fits.0) whole) levels fits.2)
          ∙ ap (λ l. l ++ given_shown p i (given (values_of pool f) v)) (sym (name_said (label_of pool f)))
      entry_text {i = i} (extension_text {pool = q} {f = f} {v = v} y text) levels fits =
          ap (λ l. (91 ∷ (f.full_name ++ 93 ∷ [])) ++ l) (held_said i f v y (holds_map pool f) (holds_list pool f) refl fits.1 (λ b c is whole levels. value_said text levels f b c (ap (λ q. named q f.kind) fits.0) whole) levels fits.2)
          ∙ ap (λ l. l ++ given_shown p i (given (values_of pool f) v)) (sym (bracket_said f.full_name))
      entry_text (record_text text) levels fits = absurd fits
