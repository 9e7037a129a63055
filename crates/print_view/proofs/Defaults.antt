-- What is printed of a field that is not set, where defaults are printed too.
use Rattle.std.proofs.Common.{◌≡◌, ℕ, ◌&&◌, ◌||◌, Bool, true, false, true≢false, cond, not, List, [], ◌∷◌, Option, refl, sym, ap, ◌∙◌}
use Rattle.std.proofs.Common as common
use Rattle.protox_lex.specs.Class.{Text}
use Rattle.reflect_tables.specs.Types.{PoolType, FieldType, KindType}
use Rattle.reflect_tables.specs.Types as types
use Rattle.reflect_pool.specs.Shapes.{is_repeated, holds_list, holds_map}
use Rattle.reflect_scalar.specs.declared.map_key.MapKey.{MapKey}
use Rattle.reflect_message.specs.Defaults.{IsDefault}
use Rattle.reflect_message.specs.KindTypes.{IsScalarType, IsMessageType}
use Rattle.reflect_message.specs.Known.{is_float}
use Rattle.reflect_message.specs.Names.{Value}
use Rattle.protobuf_model.specs.Types.{Name, Label, one, many, keyed}
use Rattle.protobuf_model.specs.Scalars.{same}
use Rattle.protobuf_model.proofs.KeyOrder.{same_true}
use Rattle.protobuf_model.specs.Values as model
use Rattle.protobuf_model.specs.Values.{Single, Message, chain_of, entries_of}
use Rattle.text_model.specs.Printed.{Inner, default_given, lacks_presence, printed_content, printed_single}
use Rattle.text_model.specs.Tree as tree
use Rattle.text_model.specs.Tree.{Given}
use Rattle.message_view.specs.Singles.{single_view}
use Rattle.message_view.specs.Types.{default_of, entry_part, key_of, kind_in, label_of, part_of, values_of}
use Rattle.message_view.specs.Views.{content_view, is_set}
use Rattle.message_view.proofs.Entries.{Sort, plain, floating, message_type, sort_of, some_default, default_is}
use Rattle.message_view.proofs.Seen.{single_seen, message_seen, list_seen, map_seen, pairs_view}
use Rattle.message_view.specs.Shaped.{FitsAs, FitsOne, Shaped}
use Rattle.text_view.specs.Names.{name_in}
use Rattle.text_view.proofs.Set.{list_repeats, map_repeats}
use Rattle.text_view.specs.Schemas.{schema_of}
use Rattle.print_view.specs.Forms.{form_of}
use Rattle.print_view.proofs.Printer.{Printer, own_of}
use Rattle.print_view.proofs.Values.{given}

no_message_type : (t : KindType) → IsScalarType t → IsMessageType t → ⊥
no_message_type (types.message i) s m = s
no_message_type t s m = m

-- nothing is set of what has no presence and is its default
pub is_same : (a b : Bool) → a || not b ≡ false → b ≡ true
is_same true b e = absurd (cc e)
is_same false true e = refl
is_same false false e = absurd (cc e)

-- a field that is no map and no list does not repeat
pub single_field : (pool : PoolType) (f : FieldType) → holds_map pool f ≡ false → holds_list pool f ≡ false → is_repeated f.cardinality ≡ false
single_field pool f is list = by (is_repeated f.cardinality) (sym (ap (λ b. is_repeated f.cardinality && not b) is) ∙ list) where
  by : (c : Bool) → c && true ≡ false → c ≡ false
  by true e = absurd (cc e)
  by false e = refl

module _ (printer : Printer) where
  -- its parts
  abbrev pool : PoolType
  pool = printer.pool

  abbrev decoded : Name → Text → Option Message
  decoded = printer.decoded

  abbrev inner : Inner
  inner = printer.inner

  abbrev give : FieldType → Value → Given
  give f v = given printer (values_of pool f) v

  -- what the model prints of the field's default
  abbrev pub standing : FieldType → Given
  standing f = default_given (name_in pool (values_of pool f).kind) (part_of pool (values_of pool f)) (label_of pool f)

  abbrev labelled : Bool → Bool → FieldType → Label
  labelled b c f = cond b (keyed (key_of pool (entry_part pool f 1))) (cond c (many f.packed) one)

  -- a field lacks presence in the model exactly if it does
  pub lacks_same : (f : FieldType) → (is_repeated f.cardinality ≡ true → f.presence ≡ false) → lacks_presence (part_of pool (values_of pool f)) (label_of pool f) ≡ not f.presence
  lacks_same f repeats = by (holds_map pool f) refl (is_repeated f.cardinality) refl where
    by : (b : Bool) → holds_map pool f ≡ b → (c : Bool) → is_repeated f.cardinality ≡ c → lacks_presence (part_of pool (cond b (entry_part pool f 2) f)) (labelled b c f) ≡ not f.presence
    by true is c k = sym (ap not (repeats (map_repeats pool f is)))
    by false is true k = sym (ap not (repeats k))
    by false is false k = refl

  map_stands : (f : FieldType) → holds_map pool f ≡ true → standing f ≡ tree.listed tree.no_values
  map_stands f is = ap (λ b. default_given (name_in pool (values_of pool f).kind) (part_of pool (values_of pool f)) (labelled b (is_repeated f.cardinality) f)) is

  list_stands : (f : FieldType) → holds_map pool f ≡ false → holds_list pool f ≡ true → standing f ≡ tree.listed tree.no_values
  list_stands f is list =
      ap (λ b. default_given (name_in pool (values_of pool f).kind) (part_of pool (values_of pool f)) (labelled b (is_repeated f.cardinality) f)) is
      ∙ ap (λ c. default_given (name_in pool (values_of pool f).kind) (part_of pool (values_of pool f)) (labelled false c f)) (list_repeats pool f list)

  one_stands : (f : FieldType) → holds_map pool f ≡ false → holds_list pool f ≡ false → standing f ≡ tree.one_scalar (printed_single (name_in pool f.kind) (default_of pool f))
  one_stands f is list =
      ap (λ b. default_given (name_in pool (cond b (entry_part pool f 2) f).kind) (part_of pool (cond b (entry_part pool f 2) f)) (labelled b (is_repeated f.cardinality) f)) is
      ∙ ap (λ c. default_given (name_in pool f.kind) (part_of pool f) (labelled false c f)) (single_field pool f is list)

  -- what is given to a field of one value
  one_given : (f : FieldType) (v : Value) (s : Single) → holds_map pool f ≡ false → content_view v ≡ model.single s → give f v ≡ tree.one_scalar (printed_single (name_in pool f.kind) s)
  one_given f v s is seen =
      ap (λ b. given printer (cond b (entry_part pool f 2) f) v) is
      ∙ ap (λ c. printed_content (form_of (own_of printer)) (schema_of pool decoded) inner (name_in pool f.kind) (kind_in pool f.group f.kind) c) seen

  -- and to one of no values
  none_given : (f : FieldType) (v : Value) → content_view v ≡ model.list model.no_contents → give f v ≡ tree.listed tree.no_values
  none_given f v seen = ap (λ c. printed_content (form_of (own_of printer)) (schema_of pool decoded) inner (name_in pool (values_of pool f).kind) (kind_in pool (values_of pool f).group (values_of pool f).kind) c) seen

  no_entries_given : (f : FieldType) (v : Value) → content_view v ≡ model.dictionary model.no_entries → give f v ≡ tree.listed tree.no_values
  no_entries_given f v seen = ap (λ c. printed_content (form_of (own_of printer)) (schema_of pool decoded) inner (name_in pool (values_of pool f).kind) (kind_in pool (values_of pool f).group (values_of pool f).kind) c) seen

  abbrev pub Stands : ℕ → FieldType → Value → Type 0
  Stands levels f v = (give f v ≡ standing f) × FitsAs (Shaped levels) pool f (holds_map pool f) (holds_list pool f) v

  -- a field's default is printed as the model prints it, if each message that stands alone has presence
  pub default_stands : (levels : ℕ) (f : FieldType) (v : Value) → is_float f.kind ≡ false → (IsMessageType f.kind → is_repeated f.cardinality ≡ false → ⊥) → IsDefault pool f v → Stands levels f v
  default_stands levels f v whole no_message is = by (holds_map pool f) refl (holds_list pool f) refl where
    by : (b : Bool) → holds_map pool f ≡ b → (c : Bool) → holds_list pool f ≡ c → (give f v ≡ standing f) × FitsAs (Shaped levels) pool f b c v
    by true map c k =
        let empty = is.1 map in
        (no_entries_given f v (map_seen v [] empty) ∙ sym (map_stands f map), ([], empty, tt))
    by false map true list =
        let empty = is.0 list in
        (none_given f v (list_seen v [] empty) ∙ sym (list_stands f map list), ([], empty, tt))
    by false map false list = within (sort_of f.kind) where
      within : Sort f.kind → (give f v ≡ standing f) × FitsOne (Shaped levels) pool f v
      within (floating e) = absurd (true≢false (sym e ∙ whole))
      within (message_type type) = absurd (no_message type (single_field pool f map list))
      within (plain type) =
          let d = some_default pool f type in
          let here = (is.2 list map).0 type ∙ d.1 in (
            one_given f v (single_view d.0) map (single_seen v d.0 here)
                ∙ ap (λ s. tree.one_scalar (printed_single (name_in pool f.kind) s)) (sym (default_is pool f d.0 d.1))
                ∙ sym (one_stands f map list),
            record { plain = λ t. (d.0, here); nested = λ t. absurd (no_message_type f.kind type t) },
          )

  -- so is what is held and not set
  pub unset_stands : (levels : ℕ) (f : FieldType) (v : Value) → is_float f.kind ≡ false → is_set pool f (content_view v) ≡ false → FitsAs (Shaped levels) pool f (holds_map pool f) (holds_list pool f) v → give f v ≡ standing f
  unset_stands levels f v whole unset fits = by (holds_map pool f) refl (holds_list pool f) refl fits where
    by : (b : Bool) → holds_map pool f ≡ b → (c : Bool) → holds_list pool f ≡ c → FitsAs (Shaped levels) pool f b c v → give f v ≡ standing f
    by true map c k (es, is, all) = empty es (map_seen v es is) where
      empty : (es : List (MapKey × Value)) → content_view v ≡ model.dictionary (entries_of (pairs_view es)) → give f v ≡ standing f
      empty [] seen = no_entries_given f v seen ∙ sym (map_stands f map)
      empty (e ∷ es) seen = absurd (true≢false (sym (ap (is_set pool f) seen) ∙ unset))
    by false map true list (vs, is, all) = empty vs (list_seen v vs is) where
      empty : (vs : List Value) → content_view v ≡ model.list (chain_of (common.map content_view vs)) → give f v ≡ standing f
      empty [] seen = none_given f v seen ∙ sym (list_stands f map list)
      empty (u ∷ us) seen = absurd (true≢false (sym (ap (is_set pool f) seen) ∙ unset))
    by false map false list fits = within (sort_of f.kind) where
      within : Sort f.kind → give f v ≡ standing f
      within (floating e) = absurd (true≢false (sym e ∙ whole))
      within (message_type type) = let m = fits.nested type in absurd (true≢false (sym (ap (is_set pool f) (message_seen v m.0 m.1)) ∙ unset))
      within (plain type) =
          let w = fits.plain type in
          let seen = single_seen v w.0 w.1 in
          let default : single_view w.0 ≡ default_of pool f = same_true (single_view w.0) (default_of pool f)
          (is_same f.presence (same (single_view w.0) (default_of pool f)) (sym (ap (is_set pool f) seen) ∙ unset)) in
          one_given f v (single_view w.0) map seen
          ∙ ap (λ s. tree.one_scalar (printed_single (name_in pool f.kind) s)) default ∙ sym (one_stands f map list)
