-- Messages that hold no unknown records, nor do those in them, at whatever depth and in the Anys that are expanded.
use Rattle.std.proofs.Common.{◌≡◌, ℕ, Bool, true, false, true≢false, cond, List, [], ◌∷◌, map, Option, Some, refl, sym, ap, ◌∙◌, subst}
use Rattle.std.proofs.lemmas.Bool.{or_parts}
use Rattle.std.specs.List.{AllByRecursion}
use Rattle.protox_lex.specs.Class.{Text}
use Rattle.reflect_tables.specs.Types.{PoolType, FieldType}
use Rattle.reflect_pool.specs.Shapes.{holds_list, holds_map}
use Rattle.reflect_scalar.specs.declared.map_key.MapKey.{MapKey}
use Rattle.reflect_message.specs.Known.{entry_field, is_float, holds_floats}
use Rattle.reflect_message.specs.Names.{DynamicMessage, Value}
use Rattle.text_lines.specs.declared.options.FormatOptions.{FormatOptions}
use Rattle.protobuf_model.specs.Bytes.{type_of}
use Rattle.protobuf_model.specs.Types.{Name, Kind}
use Rattle.protobuf_model.specs.Values.{Content, Single, single, message, list, dictionary, no_contents, more_contents, no_entries, more_entries, Message, list_of, chain_of, pairs_of, entries_of}
use Rattle.text_model.specs.Plain.{IsPlain}
use Rattle.message_view.specs.Shaped.{FitsAs, FitsEntry, FitsOne, Shaped}
use Rattle.message_view.specs.Sound.{HaveEntryFields}
use Rattle.message_view.specs.Types.{entry_part, kind_in, name_at, types_of, values_of}
use Rattle.message_view.specs.Views.{content_view, is_set, view}
use Rattle.message_view.proofs.Entries.{Sort, plain, floating, message_type, sort_of, entry_of_map, no_float_values, part_is}
use Rattle.message_view.proofs.Seen.{message_seen, list_seen, map_seen, pairs_view}
use Rattle.text_view.specs.Schemas.{schema_of}
use Rattle.print_view.proofs.Contents.{OneContent, EachContent, Forms, one_of_each}
use Rattle.print_view.proofs.Inside.{OneValue, EachValue, by_itself, single_value, message_value, list_value, map_value}

-- what is not set holds no message
pub each_unset : (Q : Name → Message → Type 0) (pool : PoolType) (f : FieldType) (k : Kind) (c : Content) → is_set pool f c ≡ false → EachContent Q k c
each_unset Q pool f k (single v) unset = tt
each_unset Q pool f k (message m) unset = absurd (cc unset)
each_unset Q pool f k (list no_contents) unset = tt
each_unset Q pool f k (list (more_contents c cs)) unset = absurd (cc unset)
each_unset Q pool f k (dictionary no_entries) unset = tt
each_unset Q pool f k (dictionary (more_entries q c es)) unset = absurd (cc unset)

-- what is asked of what is seen of a message, of so many levels, with so many expansions left
abbrev pub Wholly : FormatOptions → (Name → Text → Option Message) → PoolType → ℕ → ℕ → Name → Message → Type 0
Wholly options decoded pool x levels = λ t m. IsPlain (types_of pool) t m × Forms (schema_of pool decoded) options.expand_any x levels t m

-- such a message, of the pool
pub record AllKnown (options : FormatOptions) (decoded : Name → Text → Option Message) (pool : PoolType) (x levels : ℕ) (m : DynamicMessage) : Type 0 where
  pub there : m.descriptor.pool.now ≡ pool
  pub shaped : Shaped levels m
  pub known : Wholly options decoded pool x levels (name_at pool m.descriptor.index) (view m)

-- ---- values that hold such messages

module _ (options : FormatOptions) (decoded : Name → Text → Option Message) (pool : PoolType) (fields_of : HaveEntryFields pool) (x levels : ℕ) where
  abbrev Q : Name → Message → Type 0
  Q = Wholly options decoded pool x levels

  abbrev Has : DynamicMessage → Type 0
  Has = AllKnown options decoded pool x levels

  -- by what the field holds, whose values these are
  abbrev kind : FieldType → Kind
  kind f = kind_in pool f.group f.kind

  one_known : (f : FieldType) (v : Value) → is_float f.kind ≡ false → FitsOne (Shaped levels) pool f v → OneContent Q (kind f) (content_view v) → OneValue Has v
  one_known f v whole fits inside = by (sort_of f.kind) where
    by : Sort f.kind → OneValue Has v
    by (floating e) = absurd (true≢false (sym e ∙ whole))
    by (plain type) = let s = fits.plain type in single_value Has v s.0 s.1
    by (message_type type) =
        let n = fits.nested type in
        let here : Q (type_of (kind f)) (view n.0) = subst (OneContent Q (kind f)) (message_seen v n.0 n.1) inside in
        message_value Has v n.0 n.1 (record { there = n.2.0; shaped = n.3; known = subst (λ k. Q (type_of (kind_in pool f.group k)) (view n.0)) n.2.1 here })

  all_items : (f : FieldType) → is_float f.kind ≡ false → (vs : List Value) → AllByRecursion (FitsOne (Shaped levels) pool f) vs
      → AllByRecursion (OneContent Q (kind f)) (list_of (chain_of (map content_view vs))) → AllByRecursion (OneValue Has) vs
  all_items f whole [] fits inside = tt
  all_items f whole (v ∷ vs) fits inside = (one_known f v whole fits.0 inside.0, all_items f whole vs fits.1 inside.1)

  -- with values of the type of another field
  all_entries : (f g : FieldType) → entry_field pool f.kind 2 ≡ Some g → is_float g.kind ≡ false → (es : List (MapKey × Value)) → AllByRecursion (FitsEntry (Shaped levels) pool f) es
      → AllByRecursion (λ (e : Single × Content). OneContent Q (kind g) e.1) (pairs_of (entries_of (pairs_view es))) → AllByRecursion (λ (e : MapKey × Value). OneValue Has e.1) es
  all_entries f g there whole [] fits inside = tt
  all_entries f g there whole (e ∷ es) fits inside = (one_known g e.1 whole (fits.0 g there) inside.0, all_entries f g there whole es fits.1 inside.1)

  -- what suits a field holds them, if what is seen of it does
  pub value_known : (f : FieldType) (v : Value) → holds_floats pool f ≡ false → FitsAs (Shaped levels) pool f (holds_map pool f) (holds_list pool f) v → EachContent Q (kind (values_of pool f)) (content_view v)
      → EachValue Has v
  value_known f v whole fits inside = by (holds_map pool f) refl (holds_list pool f) fits where
    unfloated : is_float f.kind ≡ false
    unfloated = (or_parts (is_float f.kind) _ whole).0

    own : holds_map pool f ≡ false → EachContent Q (kind f) (content_view v)
    own is = subst (λ g. EachContent Q (kind g) (content_view v)) (ap (λ b. cond b (entry_part pool f 2) f) is) inside

    by : (b : Bool) → holds_map pool f ≡ b → (c : Bool) → FitsAs (Shaped levels) pool f b c v → EachValue Has v
    by true is c (es, there, all) =
        let part = fields_of f.kind (entry_of_map pool f is) in
        let same : values_of pool f ≡ part.1 = ap (λ b. cond b (entry_part pool f 2) f) is ∙ part_is pool f 2 part.1 part.3 in
        map_value Has v es there (all_entries f part.1 part.3 (no_float_values pool f part.1 whole is part.3) es all
        (subst (λ g. EachContent Q (kind g) (dictionary (entries_of (pairs_view es)))) same (subst (EachContent Q (kind (values_of pool f))) (map_seen v es there) inside)))
    by false is true (vs, there, all) = list_value Has v vs there (all_items f unfloated vs all (subst (EachContent Q (kind f)) (list_seen v vs there) (own is)))
    by false is false fits = by_itself Has v (one_known f v unfloated fits (one_of_each Q (kind f) (content_view v) (own is)))
