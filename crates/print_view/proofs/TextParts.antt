-- Of which texts the text of a value, of an entry and of a message consists.
use Rattle.std.proofs.Common.{◌≡◌, ◌⊎◌, inl, inr, ◌+◌, ◌-◌, ℕ, ℤ, Bool, true, false, List, [], ◌∷◌, ◌++◌, Option, Some, None, unwrap_or, refl, sym, ap, ◌∙◌, subst}
use Rattle.protox_lex.specs.Class.{Text}
use Rattle.reflect_tables.specs.Finding.{IsFirst}
use Rattle.reflect_tables.specs.Types.{KindType, PoolType, ValueType, enum_at}
use Rattle.reflect_tables.specs.Types as types
use Rattle.reflect_tables.proofs.Firsts.{one_first}
use Rattle.reflect_pool.specs.Parts.{type_of_value}
use Rattle.reflect_scalar.specs.Keys.{key_view}
use Rattle.reflect_scalar.specs.Singles as scalars
use Rattle.reflect_scalar.specs.Singles.{Single}
use Rattle.reflect_scalar.specs.declared.map_key.MapKey.{MapKey}
use Rattle.reflect_message.specs.Lists.{list_items}
use Rattle.reflect_message.specs.Maps.{map_entries}
use Rattle.reflect_message.specs.Messages.{message_in}
use Rattle.reflect_message.specs.Names.{DynamicMessage, Value}
use Rattle.reflect_message.specs.Singles as singles
use Rattle.print_parts.specs.Entries.{Entry, extension, field, undeclared}
use Rattle.print_parts.specs.Expands.{Expands}
use Rattle.text_lines.specs.Pieces.{before_element, before_item, bracketed, in_braces, padding}
use Rattle.text_lines.specs.UnknownTexts.{IsPayloadText, IsRecordText}
use Rattle.text_lines.specs.declared.options.FormatOptions.{FormatOptions}
use Rattle.reflect_print.specs.MessageTexts.{AreItems, MayExpand, IsBracedText, IsEntryText, IsItemsText, IsListText, IsMapText, IsPairText, IsRowText, IsSingleText, IsValueText, before_value, braced, expanded, extension_text, field_text, key_text, list_text, listed, map_text, message_text, more_entries, more_pairs, more_values, no_entries, no_pairs, no_values, pair_text, record_text, single_text, value_text}
use Rattle.reflect_print.specs.Named.{IsEnumText, IsNameIn, Named, label_of, named, value_kind, value_name}
use Rattle.message_view.proofs.Seen.{list_seen, map_seen, message_seen, single_seen}

-- ---- single values

pub first_once : {X : Type 0} (P : X → Type 0) (xs : List X) (d : X) (a b : Option ℕ) → IsFirst P xs a → IsFirst P xs b → a ≡ b
first_once P xs d None None g h = refl
first_once P xs d None (Some j) g h = absurd (g j d h.0 (h.1.0 d))
first_once P xs d (Some i) None g h = absurd (h i d g.0 (g.1.0 d))
first_once P xs d (Some i) (Some j) g h = ap Some (one_first P xs d i j g h)

name_once : (pool : PoolType) (t : KindType) (n : ℤ) (a b : Text) → IsNameIn pool t n a → IsNameIn pool t n b → a ≡ b
name_once pool (types.enumeration i) n a b (found, first, is) (other, second, also) =
    is ∙ ap (value_name pool i n) (first_once (λ (v : ValueType). v.number ≡ n) (enum_at pool i).values (type_of_value pool i 0) found other first second) ∙ sym also
name_once pool t n a b g h = g ∙ sym h

enum_once : (kind : Named) (n : ℤ) (a b : Text) → IsEnumText kind n a → IsEnumText kind n b → a ≡ b
enum_once None n a b g h = g ∙ sym h
enum_once (Some k) n a b g h = name_once k.0 k.1 n a b g h

pub single_once : (kind : Named) (s : Single) (a b : Text) → IsSingleText kind s a → IsSingleText kind s b → a ≡ b
single_once kind (scalars.truth t) a b g h = g ∙ sym h
single_once kind (scalars.int32 n) a b g h = g ∙ sym h
single_once kind (scalars.int64 n) a b g h = g ∙ sym h
single_once kind (scalars.uint32 n) a b g h = g ∙ sym h
single_once kind (scalars.uint64 n) a b g h = g ∙ sym h
single_once kind (scalars.text s) a b g h = g ∙ sym h
single_once kind (scalars.blob s) a b g h = g ∙ sym h
single_once kind (scalars.enumerated n) a b g h = enum_once kind n a b g h

module _ (form : FormatOptions) (payloads : ℕ) where
  -- ---- of what a text consists

  pub single_inside : {x i : ℕ} {kind : Named} {v : Value} {z : Text} → IsValueText form payloads x i kind v z → (s : Single) → singles.single v ≡ Some s → IsSingleText kind s z
  single_inside {kind = kind} {z = z} (single_text t at text) s is = subst (λ a. IsSingleText kind a z) (ap (λ o. unwrap_or o t) (sym at ∙ is)) text
  single_inside {v = v} (message_text m at text) s is = absurd (cc (sym (single_seen v s is) ∙ message_seen v m at))
  single_inside {v = v} (list_text vs z at text) s is = absurd (cc (sym (single_seen v s is) ∙ list_seen v vs at))
  single_inside {v = v} (map_text es z at text) s is = absurd (cc (sym (single_seen v s is) ∙ map_seen v es at))

  pub message_inside : {x i : ℕ} {kind : Named} {v : Value} {z : Text} → IsValueText form payloads x i kind v z → (m : DynamicMessage) → message_in v ≡ Some m → IsBracedText form payloads x i m z
  message_inside {v = v} (single_text s at text) m is = absurd (cc (sym (single_seen v s at) ∙ message_seen v m is))
  message_inside {x = x} {i = i} {z = z} (message_text n at text) m is = subst (λ a. IsBracedText form payloads x i a z) (ap (λ o. unwrap_or o n) (sym at ∙ is)) text
  message_inside {v = v} (list_text vs z at text) m is = absurd (cc (sym (list_seen v vs at) ∙ message_seen v m is))
  message_inside {v = v} (map_text es z at text) m is = absurd (cc (sym (map_seen v es at) ∙ message_seen v m is))

  pub list_inside : {x i : ℕ} {kind : Named} {v : Value} {z : Text} → IsValueText form payloads x i kind v z → (vs : List Value) → list_items v ≡ Some vs
      → (y : Text) × IsListText form payloads x i kind true vs y × (z ≡ 91 ∷ (y ++ 93 ∷ []))
  list_inside {v = v} (single_text s at text) vs is = absurd (cc (sym (single_seen v s at) ∙ list_seen v vs is))
  list_inside {v = v} (message_text m at text) vs is = absurd (cc (sym (message_seen v m at) ∙ list_seen v vs is))
  list_inside {x = x} {i = i} {kind = kind} (list_text us y at text) vs is = (y, subst (λ a. IsListText form payloads x i kind true a y) (ap (λ o. unwrap_or o us) (sym at ∙ is)) text, refl)
  list_inside {v = v} (map_text es y at text) vs is = absurd (cc (sym (map_seen v es at) ∙ list_seen v vs is))

  pub map_inside : {x i : ℕ} {kind : Named} {v : Value} {z : Text} → IsValueText form payloads x i kind v z → (es : List (MapKey × Value)) → map_entries v ≡ Some es
      → (y : Text) × IsMapText form payloads x i (value_kind kind) true es y × (z ≡ 91 ∷ (y ++ 93 ∷ []))
  map_inside {v = v} (single_text s at text) es is = absurd (cc (sym (single_seen v s at) ∙ map_seen v es is))
  map_inside {v = v} (message_text m at text) es is = absurd (cc (sym (message_seen v m at) ∙ map_seen v es is))
  map_inside {v = v} (list_text vs y at text) es is = absurd (cc (sym (list_seen v vs at) ∙ map_seen v es is))
  map_inside {x = x} {i = i} {kind = kind} (map_text ds y at text) es is = (y, subst (λ a. IsMapText form payloads x i (value_kind kind) true a y) (ap (λ o. unwrap_or o ds) (sym at ∙ is)) text, refl)

  abbrev pub ListParts : ℕ → ℕ → Named → Bool → List Value → Text → Type 0
  ListParts x i kind first [] z = z ≡ []
  ListParts x i kind first (v ∷ vs) z = (one rest : Text) × IsValueText form payloads x i kind v one × IsListText form payloads x i kind false vs rest × (z ≡ before_element form.pretty first ++ (one ++ rest))

  pub list_parts : {x i : ℕ} {kind : Named} {first : Bool} {vs : List Value} {z : Text} → IsListText form payloads x i kind first vs z → ListParts x i kind first vs z
  list_parts no_values = refl
  list_parts (more_values one rest text texts) = (one, rest, text, texts, refl)

  abbrev pub PairParts : ℕ → ℕ → Named → MapKey × Value → Text → Type 0
  PairParts x i kind e z =
      (key value : Text) × IsSingleText None (key_view e.0) key × IsValueText form payloads x (i + 2) kind e.1 value
      × (z ≡ in_braces form.pretty i true (key_text form.pretty (i + 2) key ++ value_text form.pretty (i + 2) e.1 value))

  pub pair_parts : {x i : ℕ} {kind : Named} {e : MapKey × Value} {z : Text} → IsPairText form payloads x i kind e z → PairParts x i kind e z
  pair_parts (pair_text key value keyed text) = (key, value, keyed, text, refl)

  abbrev pub MapParts : ℕ → ℕ → Named → Bool → List (MapKey × Value) → Text → Type 0
  MapParts x i kind first [] z = z ≡ []
  MapParts x i kind first (e ∷ es) z = (one rest : Text) × IsPairText form payloads x i kind e one × IsMapText form payloads x i kind false es rest × (z ≡ before_element form.pretty first ++ (one ++ rest))

  pub map_parts : {x i : ℕ} {kind : Named} {first : Bool} {es : List (MapKey × Value)} {z : Text} → IsMapText form payloads x i kind first es z → MapParts x i kind first es z
  map_parts no_pairs = refl
  map_parts (more_pairs one rest text texts) = (one, rest, text, texts, refl)

  pub braced_parts : {x i : ℕ} {m : DynamicMessage} {z : Text} → IsBracedText form payloads x i m z → (any : Bool) × (y : Text) × IsItemsText form payloads x (i + 2) true m any y × (z ≡ in_braces form.pretty i any y)
  braced_parts (braced any y text) = (any, y, text, refl)

  -- a message is printed as the one that it holds, or as what it holds
  abbrev pub ExpandedParts : ℕ → ℕ → Bool → DynamicMessage → Bool → Text → Type 0
  ExpandedParts x i braces m any z =
      (url : Text) × (body : DynamicMessage) × (y : Text) × MayExpand form x × Expands m (Some (url, body)) × IsBracedText form payloads (x - 1) i body y
      × (any ≡ true) × (z ≡ before_item form.pretty braces false i ++ (bracketed url ++ (padding form.pretty ++ y)))

  abbrev pub ListedParts : ℕ → ℕ → Bool → DynamicMessage → Bool → Text → Type 0
  ListedParts x i braces m any z = ((MayExpand form x → ⊥) ⊎ Expands m None) × AreItems form payloads x i braces m any z

  pub items_parts : {x i : ℕ} {braces any : Bool} {m : DynamicMessage} {z : Text} → IsItemsText form payloads x i braces m any z → ExpandedParts x i braces m any z ⊎ ListedParts x i braces m any z
  items_parts (expanded url body z may stands text) = inl (url, body, z, may, stands, text, refl, refl)
  items_parts (listed ds os y z either declared others first second) = inr (
    either,
    record {
      ds = ds;
      os = os;
      y = y;
      z = z;
      declared = declared;
      others = others;
      first = first;
      second = second;
      whole = refl;
      some = refl;
    },
  )

  abbrev pub RowParts : ℕ → ℕ → Bool → Bool → List Entry → Text → Type 0
  RowParts x i braces any [] z = z ≡ []
  RowParts x i braces any (e ∷ es) z = (one rest : Text) × IsEntryText form payloads x i e one × IsRowText form payloads x i braces true es rest × (z ≡ before_item form.pretty braces any i ++ (one ++ rest))

  pub row_parts : {x i : ℕ} {braces any : Bool} {es : List Entry} {z : Text} → IsRowText form payloads x i braces any es z → RowParts x i braces any es z
  row_parts no_entries = refl
  row_parts (more_entries one rest text texts) = (one, rest, text, texts, refl)

  abbrev pub EntryParts : ℕ → ℕ → Entry → Text → Type 0
  EntryParts x i (field pool f v) z = (y : Text) × IsValueText form payloads x i (named pool f.kind) v y × (z ≡ label_of pool f ++ (before_value form.pretty (message_in v) ++ y))
  EntryParts x i (extension pool f v) z = (y : Text) × IsValueText form payloads x i (named pool f.kind) v y × (z ≡ bracketed f.full_name ++ (before_value form.pretty (message_in v) ++ y))
  EntryParts x i (undeclared r) z = IsRecordText form.pretty (IsPayloadText payloads form.pretty) i r z

  pub entry_parts : {x i : ℕ} {e : Entry} {z : Text} → IsEntryText form payloads x i e z → EntryParts x i e z
  entry_parts (field_text y text) = (y, text, refl)
  entry_parts (extension_text y text) = (y, text, refl)
  entry_parts (record_text text) = text
