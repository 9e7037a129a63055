-- What stands in the fields of an Any, in the words of the printer and of the model.
use Rattle.std.proofs.Common.{◌≡◌, ◌⊎◌, inl, inr, ℕ, Bool, true, false, cond, [], Option, Some, None, option_map, option_and_then, refl, sym, ap, ap₂, ◌∙◌, subst}
use Rattle.std.specs.Option.{option_or}
use Rattle.reflect_tables.specs.Types.{PoolType, FieldType, KindType, DefaultType}
use Rattle.reflect_tables.specs.Types as types
use Rattle.reflect_pool.specs.FieldsLeft.{field_type}
use Rattle.reflect_pool.specs.Shapes.{holds_list, holds_map}
use Rattle.reflect_entries.specs.Entries.{value_at}
use Rattle.reflect_any.specs.Any.{IsLone}
use Rattle.reflect_scalar.specs.Defaults.{declared_in, kind_default}
use Rattle.reflect_scalar.specs.Singles as held
use Rattle.reflect_message.specs.Contents.{content_of}
use Rattle.reflect_message.specs.Defaults.{IsDefault}
use Rattle.reflect_message.specs.Held.{fields_of, extensions_of, unknown_of}
use Rattle.reflect_message.specs.KindTypes.{IsScalarType}
use Rattle.reflect_message.specs.Known.{if_held, is_float, known_field, known_extension, numbered_field}
use Rattle.reflect_message.specs.Names.{DynamicMessage, Value}
use Rattle.reflect_message.specs.Shown.{IsHeldOrDefault}
use Rattle.reflect_message.specs.Singles as singles
use Rattle.print_parts.specs.Expands as any
use Rattle.print_parts.specs.Expands.{IsUnder}
use Rattle.print_parts.specs.Parts.{url_in}
use Rattle.protobuf_model.specs.Meaning.{payloads}
use Rattle.protobuf_model.specs.Scalars.{same}
use Rattle.protobuf_model.specs.Values as model
use Rattle.protobuf_model.specs.Values.{Message, absent, content, single}
use Rattle.protobuf_model.proofs.KeyOrder.{same_true}
use Rattle.text_model.specs.Printed.{bytes_in, text_in}
use Rattle.message_view.specs.Shaped.{FitsAs, FitsOne, IsShaped, Shaped}
use Rattle.message_view.specs.Singles.{single_view}
use Rattle.message_view.specs.Sound.{AreApart}
use Rattle.message_view.specs.Types.{default_of}
use Rattle.message_view.specs.Views as views
use Rattle.message_view.specs.Views.{content_view, contents_view, held_either, is_set, view}
use Rattle.message_view.proofs.Entries.{default_is, some_default}
use Rattle.message_view.proofs.Fields.{known}
use Rattle.message_view.proofs.Seen.{single_seen, value_at-view, view_opened}
use Rattle.text_view.proofs.Entries.{whole_field}
use Rattle.print_view.proofs.Defaults.{is_same}
use Rattle.print_view.proofs.UnderNumbers.{under_found, under_value}

shown_text : (w : held.Single) → text_in (content (single (single_view w))) ≡ url_in (any.text_in (Some w))
shown_text (held.truth b) = refl
shown_text (held.int32 z) = refl
shown_text (held.int64 z) = refl
shown_text (held.uint32 n) = refl
shown_text (held.uint64 n) = refl
shown_text (held.text t) = refl
shown_text (held.blob b) = refl
shown_text (held.enumerated z) = refl

shown_bytes : (w : held.Single) → bytes_in (content (single (single_view w))) ≡ any.bytes_in (Some w)
shown_bytes (held.truth b) = refl
shown_bytes (held.int32 z) = refl
shown_bytes (held.int64 z) = refl
shown_bytes (held.uint32 n) = refl
shown_bytes (held.uint64 n) = refl
shown_bytes (held.text t) = refl
shown_bytes (held.blob b) = refl
shown_bytes (held.enumerated z) = refl

-- the default of a kind, where the field gives none
default_none : (pool : PoolType) (g : FieldType) (kind : KindType) → g.default ≡ None → g.kind ≡ kind → default_of pool g ≡ elim (kind_default pool kind) [ None ↦ model.text [] | Some v ↦ single_view v ]
default_none pool g kind none is =
    ap₂ (λ (d : Option DefaultType) (k : KindType). elim (option_or (option_and_then (declared_in pool k) d) (kind_default pool k)) [ None ↦ model.text [] | Some v ↦ single_view v ]) none is

module _ (m : DynamicMessage) (apart : AreApart m.descriptor.pool.now) (levels : ℕ) (shaped : IsShaped (Shaped levels) m.descriptor (content_of m)) where
  abbrev pool : PoolType
  pool = m.descriptor.pool.now

  abbrev i : ℕ
  i = m.descriptor.index

  -- of a field that holds one value of a kind
  module _ (n : ℕ) (v : Value) (under : IsUnder m n v) (kind : KindType) (plain_kind : IsScalarType kind) (whole : is_float kind ≡ false) (lone : IsLone m.descriptor.pool.now m.descriptor.index kind (numbered_field m.descriptor.pool.now m.descriptor.index n)) where
    abbrev g : FieldType
    g = field_type under.field

    found : numbered_field pool i n ≡ Some g
    found = under_found m apart n v under

    its_lone : IsLone pool i kind (Some g)
    its_lone = subst (IsLone pool i kind) found lone

    its_known : known_field pool i n ≡ Some g
    its_known = ap (option_and_then (if_held pool)) found ∙ whole_field pool g (ap is_float its_lone.0 ∙ whole) its_lone.1.1

    its_plain : IsScalarType g.kind
    its_plain = subst IsScalarType (sym its_lone.0) plain_kind

    seen : view m n ≡ views.held_in pool g (option_map content_view (value_at (fields_of m) n))
    seen =
        ap (λ (s : Message). s n) (view_opened m)
        ∙ ap (λ o. held_either pool o (known_extension pool i n) (value_at (contents_view (fields_of m)) n) (value_at (contents_view (extensions_of m)) n) (payloads n (unknown_of m))) its_known
        ∙ ap (views.held_in pool g) (value_at-view (fields_of m) n)

    value : IsHeldOrDefault pool g (value_at (fields_of m) n) v
    value = under_value m apart n v under

    -- the value is there, or it is the default and is not set
    abbrev Seen : held.Single → Type 0
    Seen w = (view m n ≡ content (single (single_view w))) ⊎ ((view m n ≡ absent) × (single_view w ≡ default_of pool g))

    set_or_not : (h : Value) → value_at (fields_of m) n ≡ Some h → (w : held.Single) → singles.single h ≡ Some w → (b : Bool) → is_set pool g (single (single_view w)) ≡ b → Seen w
    set_or_not h at w is b set = by b set where
      there : view m n ≡ cond (is_set pool g (single (single_view w))) (content (single (single_view w))) absent
      there = seen ∙ ap (λ o. views.held_in pool g (option_map content_view o)) at ∙ ap (λ c. cond (is_set pool g c) (content c) absent) (single_seen h w is)

      by : (b : Bool) → is_set pool g (single (single_view w)) ≡ b → Seen w
      by true e = inl (there ∙ ap (λ b. cond b (content (single (single_view w))) absent) e)
      by false e = inr (there ∙ ap (λ b. cond b (content (single (single_view w))) absent) e, same_true (single_view w) (default_of pool g) (is_same g.presence (same (single_view w) (default_of pool g)) e))

    its_single : (w : held.Single) × (singles.single v ≡ Some w) × Seen w
    its_single = by (value_at (fields_of m) n) refl where
      by : (o : Option Value) → value_at (fields_of m) n ≡ o → (w : held.Single) × (singles.single v ≡ Some w) × Seen w
      by None at =
          let d = some_default pool g its_plain in
          let unset : IsDefault pool g v = subst (λ o. IsHeldOrDefault pool g o v) at value in
          (d.0, (unset.2 its_lone.1.0 its_lone.1.1).0 its_plain ∙ d.1, inr (seen ∙ ap (λ o. views.held_in pool g (option_map content_view o)) at, sym (default_is pool g d.0 d.1)))
      by (Some h) at =
          let same_value : v ≡ h = subst (λ o. IsHeldOrDefault pool g o v) at value in
          let own = known m.descriptor n g its_known in
          let fit = subst (λ t. FitsAs (Shaped levels) pool t (holds_map pool t) (holds_list pool t) h) own.2 (shaped.fields own.0 own.1 h (ap (λ (t : FieldType). value_at (fields_of m) t.number) own.2 ∙ ap (value_at (fields_of m)) own.3 ∙ at)) in
          let fits : FitsOne (Shaped levels) pool g h = subst (λ b. FitsAs (Shaped levels) pool g false b h) its_lone.1.0 (subst (λ b. FitsAs (Shaped levels) pool g b (holds_list pool g) h) its_lone.1.1 fit) in
          let w = fits.plain its_plain in
          (w.0, ap singles.single same_value ∙ w.1, set_or_not h at w.0 w.1 (is_set pool g (single (single_view w.0))) refl)

  -- the URL and the bytes, where the type gives no defaults
  abbrev IsUsual : ℕ → Type 0
  IsUsual n = (g : FieldType) → known_field pool i n ≡ Some g → g.default ≡ None

  pub text_under : (v : Value) → IsUnder m 1 v → IsLone pool i types.string (numbered_field pool i 1) → IsUsual 1 → text_in (view m 1) ≡ url_in (any.text_of v)
  text_under v under lone usual = by its.0 its.2 ∙ shown_text its.0 ∙ sym (ap (λ o. url_in (any.text_in o)) its.1) where
    its : (w : held.Single) × (singles.single v ≡ Some w) × Seen 1 v under types.string tt refl lone w
    its = its_single 1 v under types.string tt refl lone

    none : default_of pool (field_type under.field) ≡ model.text []
    none = default_none pool (field_type under.field) types.string (usual (field_type under.field) (its_known 1 v under types.string tt refl lone)) (its_lone 1 v under types.string tt refl lone).0

    by : (w : held.Single) → Seen 1 v under types.string tt refl lone w → text_in (view m 1) ≡ text_in (content (single (single_view w)))
    by w (inl e) = ap text_in e
    by w (inr (e, d)) = ap text_in e ∙ sym (ap (λ x. text_in (content (single x))) (d ∙ none))

  pub bytes_under : (v : Value) → IsUnder m 2 v → IsLone pool i types.bytes (numbered_field pool i 2) → IsUsual 2 → bytes_in (view m 2) ≡ any.bytes_of v
  bytes_under v under lone usual = by its.0 its.2 ∙ shown_bytes its.0 ∙ sym (ap (λ o. any.bytes_in o) its.1) where
    its : (w : held.Single) × (singles.single v ≡ Some w) × Seen 2 v under types.bytes tt refl lone w
    its = its_single 2 v under types.bytes tt refl lone

    none : default_of pool (field_type under.field) ≡ model.blob []
    none = default_none pool (field_type under.field) types.bytes (usual (field_type under.field) (its_known 2 v under types.bytes tt refl lone)) (its_lone 2 v under types.bytes tt refl lone).0

    by : (w : held.Single) → Seen 2 v under types.bytes tt refl lone w → bytes_in (view m 2) ≡ bytes_in (content (single (single_view w)))
    by w (inl e) = ap bytes_in e
    by w (inr (e, d)) = ap bytes_in e ∙ sym (ap (λ x. bytes_in (content (single x))) (d ∙ none))
