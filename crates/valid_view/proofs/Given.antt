-- Values that are given to a map put entries of the map's kinds there, where each message suits its type, and tidy messages, where each message is tidy.
use Rattle.std.proofs.Common.{◌≡◌, ℕ, suc, true, false, true≢false, Bool, cond, Option, None, Some, refl, sym, ap, ◌∙◌, subst}
use Rattle.std.specs.List.{list_all}
use Rattle.std.specs.Option.{option_and_then}
use Rattle.reflect_tables.specs.Types.{FieldType, KindType, PoolType, type_at, type_of_field}
use Rattle.reflect_tables.specs.Types as types
use Rattle.reflect_tables.specs.declared.stored.StoredEntry.{StoredEntry}
use Rattle.reflect_pool.specs.Shapes.{is_entry, is_repeated}
use Rattle.reflect_entries.specs.Entries.{value_at}
use Rattle.reflect_scalar.specs.Keys.{key_view}
use Rattle.reflect_scalar.specs.Singles as held
use Rattle.reflect_extend.specs.Gives.{Entry, GivesAs, GivesIn, GivesOneEntry, GivesPair}
use Rattle.reflect_message.specs.Contents.{Content, content_of, nothing}
use Rattle.reflect_message.specs.Defaults.{IsDefaultOne}
use Rattle.reflect_message.specs.Held.{fields_of}
use Rattle.reflect_message.specs.KindTypes.{IsScalarType}
use Rattle.reflect_message.specs.Known.{entry_field, holds_floats, if_held, is_float, numbered_field}
use Rattle.reflect_message.specs.Messages.{message_in}
use Rattle.reflect_message.specs.Names.{DynamicMessage, Value}
use Rattle.reflect_message.specs.Singles as singles
use Rattle.reflect_decode.proofs.Sorts.{Sort, floating, message_type, plain, some_default, sort_of}
use Rattle.reflect_numbered.specs.Fits.{extension_fits, field_fits, fit_of, fits_of, is_one, suits_type, under_fits}
use Rattle.reflect_numbered.specs.declared.validity.Strictness.{Strictness}
use Rattle.reflect_numbered.specs.declared.validity.Strictness.TheVariants.{Surface}
use Rattle.protobuf_model.specs.Scalars.{Suits}
use Rattle.message_view.specs.Singles.{scalar_of}
use Rattle.message_view.specs.Sound.{IsSound}
use Rattle.message_view.proofs.Entries.{default_is, key_scalar}
use Rattle.message_view.proofs.Seen.{message_seen, single_seen}
use Rattle.valid_view.specs.Given.{IsGiven, IsSuitedIn}
use Rattle.valid_view.specs.Inside.{IfMessage}
use Rattle.valid_view.specs.Tidy.{Tidy}
use Rattle.valid_view.proofs.Fitting.{of_type}
use Rattle.valid_view.proofs.Kept.{empty_tidy}
use Rattle.valid_view.proofs.LeftOnes.{suits_one}
use Rattle.valid_view.proofs.LeftValues.{its_type}
use Rattle.valid_view.proofs.Parts.{first_once, one_no_map, pair_key, pair_value, second_once}
use Rattle.valid_view.proofs.Passing.{all_pass_again}
use Rattle.valid_view.proofs.Setting.{kind_deep}
use Rattle.valid_view.proofs.Testing.{under_field}
use Rattle.valid_view.proofs.Valid.{IsEntry, One, Whole, one_message, one_of, one_single, whole_list, whole_map, whole_of, whole_one}

-- a value of a kind that is a single one is that one
single_is : (how : Strictness) (pool : PoolType) (t : KindType) (v : Value) (w : held.Single) → One how pool t v → singles.single v ≡ Some w → is_one t w ≡ true
single_is how pool t v w (one_single x at is) seen =
    let same : x ≡ w = cc (sym at ∙ seen) in
    subst (λ x. is_one t x ≡ true) same is
single_is how pool t v w (one_message m at is) seen = absurd (cc (sym (single_seen v w seen) ∙ message_seen v m at))

-- a message of a kind that suits it on the surface is of the kind's type
message_is : (pool : PoolType) (t : KindType) (v : Value) (m : DynamicMessage) → One Surface pool t v → message_in v ≡ Some m → t ≡ types.message m.descriptor.index
message_is pool t v m (one_single w at is) there = absurd (cc (sym (single_seen v w at) ∙ message_seen v m there))
message_is pool t v m (one_message n at is) there =
    let same : n ≡ m = cc (sym at ∙ there) in
    subst (λ (m : DynamicMessage). t ≡ types.message m.descriptor.index) same (of_type pool t n.descriptor is)

-- a message in which nothing is set suits its type
empty_typed : (how : Strictness) (m : DynamicMessage) → content_of m ≡ nothing → suits_type how m ≡ true
empty_typed how m empty =
    all_pass_again how m
    (ap (λ (c : Content). list_all (field_fits how m.descriptor.pool.now m.descriptor.index) (fits_of c.fields)) empty)
    (ap (λ (c : Content). list_all (extension_fits how m.descriptor.pool.now m.descriptor.index) (fits_of c.extensions)) empty)

-- a default of one value is of its kind
default_one : (how : Strictness) (pool : PoolType) → IsSound pool → (t : KindType) (n : ℕ) (g : FieldType) → is_entry pool t ≡ true → entry_field pool t n ≡ Some g → is_float g.kind ≡ false → (v : Value) → IsDefaultOne pool g v → One how pool g.kind v
default_one how pool sound t n g keyed there whole v h = by (sort_of g.kind) where
  by : Sort g.kind → One how pool g.kind v
  by (floating e) = absurd (true≢false (sym e ∙ whole))
  by (plain type) =
      let w = some_default pool g type in
      one_single w.0 (h.0 type ∙ w.1) (suits_one g.kind w.0 type (subst (Suits (scalar_of g.kind)) (default_is pool g w.0 w.1) (sound.defaults t n g keyed there type)))
  by (message_type type) =
      let m = h.1 type in
      one_message m.0 m.1 (kind_deep how pool how g.kind m.0 (its_type pool g.kind m.0.descriptor m.2.0.0 m.2.0.1) (empty_typed how m.0 m.2.1))

pub scalar_whole : (t : KindType) → IsScalarType t → is_float t ≡ false
scalar_whole types.double h = absurd h
scalar_whole types.float h = absurd h
scalar_whole t h = refl

-- what is held under the number of a field of one value is one of its kind
held_one : (how : Strictness) (m : DynamicMessage) → suits_type how m ≡ true → (n : ℕ) (g : FieldType) → numbered_field m.descriptor.pool.now m.descriptor.index n ≡ Some g → is_repeated g.cardinality ≡ false
    → (u : Value) → value_at (fields_of m) n ≡ Some u → One how m.descriptor.pool.now g.kind u
held_one how m typed n g there once u at =
    one (whole_of how m.descriptor.pool.now g u (by (holds_floats m.descriptor.pool.now g) (subst (λ o. under_fits how m.descriptor.pool.now o (fit_of u) ≡ true) (ap (option_and_then (if_held m.descriptor.pool.now)) there) (under_field how m typed n u at)))) where
      by : (b : Bool) → under_fits how m.descriptor.pool.now (cond b None (Some g)) (fit_of u) ≡ true → (fit_of u).whole how m.descriptor.pool.now g ≡ true
      by true h = absurd (true≢false (sym h))
      by false h = h

      one : Whole how m.descriptor.pool.now g u → One how m.descriptor.pool.now g.kind u
      one (whole_one no_map single is) = is
      one (whole_list no_map repeats vs here all) = absurd (true≢false (sym repeats ∙ once))
      one (whole_map is_map es here keys values first second all) = absurd (true≢false (sym is_map ∙ one_no_map m.descriptor.pool.now g once))

-- ---- the entries of a map of a sound pool
module _ (pool : PoolType) (sound : IsSound pool) (f : FieldType) (keyed : is_entry pool f.kind ≡ true) (keys values : FieldType) (first : entry_field pool f.kind 1 ≡ Some keys) (second : entry_field pool f.kind 2 ≡ Some values)
    (whole : is_float values.kind ≡ false) where
  -- what holds of the entry of each message of the entries' type
  pub of_pair : (P : Entry → Type 0) (v : Value) → (fit_of v).one Surface pool f.kind ≡ true
      → ((m : DynamicMessage) → message_in v ≡ Some m → f.kind ≡ types.message m.descriptor.index → (s : StoredEntry) → (type_at m.descriptor.pool.now m.descriptor.index).entry ≡ Some s
      → (e : Entry) → GivesPair m.descriptor.pool.now (type_of_field m.descriptor.pool.now m.descriptor.index s.key) (type_of_field m.descriptor.pool.now m.descriptor.index s.value) (fields_of m) (Some e) → P e)
      → (e : Entry) → GivesOneEntry v (Some e) → P e
  of_pair P v valid each e gives = by (message_in v) refl gives where
    by : (o : Option DynamicMessage) → message_in v ≡ o → GivesIn o (Some e) → P e
    by None none h = absurd (cc h)
    by (Some m) there h = told (type_at m.descriptor.pool.now m.descriptor.index).entry refl h where
      told : (o : Option StoredEntry) → (type_at m.descriptor.pool.now m.descriptor.index).entry ≡ o → GivesAs m.descriptor.pool.now m.descriptor.index o (fields_of m) (Some e) → P e
      told None is h = absurd (cc h)
      told (Some s) is h = each m there (message_is pool f.kind v m (one_of Surface pool f.kind v valid) there) s is e h

  -- a field of the entries' type as a message of it has it
  pub as_part : (m : DynamicMessage) → m.descriptor.pool.now ≡ pool → f.kind ≡ types.message m.descriptor.index → (n : ℕ) (g : FieldType)
      → entry_field pool f.kind n ≡ Some g → numbered_field m.descriptor.pool.now m.descriptor.index n ≡ Some g
  as_part m pooled kind n g there = ap (λ p. numbered_field p m.descriptor.index n) pooled ∙ sym (ap (λ t. entry_field pool t n) kind) ∙ there

  default_of : (how : Strictness) (m : DynamicMessage) → m.descriptor.pool.now ≡ pool → (n : ℕ) (g : FieldType) → entry_field pool f.kind n ≡ Some g → is_float g.kind ≡ false → (v : Value) → IsDefaultOne m.descriptor.pool.now g v → One how m.descriptor.pool.now g.kind v
  default_of how m pooled n g there floats v d =
      subst (λ p. One how p g.kind v) (sym pooled) (default_one how pool sound f.kind n g keyed there floats v (subst (λ p. IsDefaultOne p g v) pooled d))

  pub given_typed : (how : Strictness) (v : Value) → IsGiven pool f v → IfMessage (IsSuitedIn how pool) v → (e : Entry) → GivesOneEntry v (Some e) → IsEntry how pool keys.kind values.kind e
  given_typed how v valid typed = of_pair (IsEntry how pool keys.kind values.kind) v valid (λ m there kind s is e h.
      let its = typed m there in
      let one = as_part m its.0 kind 1 keys first in
      let two = as_part m its.0 kind 2 values second in
      let its_sound = subst IsSound (sym its.0) sound in
      let key_type = key_scalar keys.kind (sound.keys f.kind keys keyed first).0 in
      let key = pair_key m its_sound s is keys values one two (One how m.descriptor.pool.now keys.kind)
      (held_one how m its.1 1 keys one (first_once m its_sound s is keys values one two)) (default_of how m its.0 1 keys first (scalar_whole keys.kind key_type)) e h in
      let value = pair_value m its_sound s is keys values one two (One how m.descriptor.pool.now values.kind)
      (held_one how m its.1 2 values two (second_once m its_sound s is keys values one two)) (default_of how m its.0 2 values second whole) e h in
      (single_is how m.descriptor.pool.now keys.kind key.0 (key_view e.0) key.1 key.2, subst (λ p. One how p values.kind e.1) its.0 value))

  -- the value of an entry holds a tidy message, one level below
  pub given_tidy : (levels : ℕ) (v : Value) → IsGiven pool f v → IfMessage (Tidy pool (suc (suc levels))) v → (e : Entry) → GivesOneEntry v (Some e) → IfMessage (Tidy pool (suc levels)) e.1
  given_tidy levels v valid tidy = of_pair (λ e. IfMessage (Tidy pool (suc levels)) e.1) v valid (λ m there kind s is e h.
      let its = tidy m there in
      let one = as_part m its.0.pooled kind 1 keys first in
      let two = as_part m its.0.pooled kind 2 values second in
      pair_value m (subst IsSound (sym its.0.pooled) sound) s is keys values one two (IfMessage (Tidy pool (suc levels)))
      (λ u at. (its.1.fields 2 u at).itself) (λ u d. unset m its.0.pooled u d) e h) where
        unset : (m : DynamicMessage) → m.descriptor.pool.now ≡ pool → (u : Value) → IsDefaultOne m.descriptor.pool.now values u → IfMessage (Tidy pool (suc levels)) u
        unset m pooled u d n there = by (sort_of values.kind) where
          by : Sort values.kind → Tidy pool (suc levels) n
          by (floating e) = absurd (true≢false (sym e ∙ whole))
          by (plain type) =
              let w = some_default m.descriptor.pool.now values type in
              absurd (cc (sym (single_seen u w.0 (d.0 type ∙ w.1)) ∙ message_seen u n there))
          by (message_type type) =
              let empty = d.1 type in
              let same : empty.0 ≡ n = cc (sym empty.1 ∙ there) in
              empty_tidy pool levels n (ap (λ (m : DynamicMessage). m.descriptor.pool.now) (sym same) ∙ empty.2.0.0 ∙ pooled) (ap content_of (sym same) ∙ empty.2.1)
