-- What is given to a field, as contents of the model, and what a field wants of it.
use Rattle.std.proofs.Common.{◌≡◌, ℕ, Bool, true, false, List, [], ◌∷◌, Option, Some, None, option_map, option_and_then, refl, sym, ap, ◌∙◌, subst, ◌<◌, length, is_some}
use Rattle.protox_lex.specs.Class.{Text}
use Rattle.protobuf_model.specs.Types.{Name, Field, Label, one, many, keyed}
use Rattle.protobuf_model.specs.Values.{Content, single, message, Message, nothing}
use Rattle.reflect_tables.specs.Types.{PoolType, FieldType, KindType, type_at}
use Rattle.reflect_tables.specs.Types as types
use Rattle.reflect_tables.specs.declared.stored.StoredEntry.{StoredEntry}
use Rattle.reflect_pool.specs.Kinds.{IsKind}
use Rattle.reflect_pool.specs.Shapes.{is_entry, holds_map}
use Rattle.reflect_pool.specs.declared.kind.Kind.{Kind}
use Rattle.reflect_pool.specs.declared.kind.Kind.TheVariants as publics
use Rattle.reflect_pool.specs.declared.message.MessageDescriptor.{MessageDescriptor}
use Rattle.reflect_message.specs.Known.{is_float, entry_field, holds_floats}
use Rattle.reflect_format.specs.Kinds.{scalar_given}
use Rattle.reflect_format.specs.Takes.{target_type}
use Rattle.reflect_format.specs.declared.target.Target.{Target}
use Rattle.reflect_format.specs.declared.target.Target.TheVariants as targets
use Rattle.text_model.specs.Schemas.{Schema, Shape, shape_of}
use Rattle.text_model.specs.Tree.{ScalarValue, Given, one_scalar, one_message, listed, Fields}
use Rattle.text_model.specs.Value.{Wanted, of_message, add_all, add_one, field_value, message_content, scalar_content, set_one, value, values_contents, wanted_in, wanted_of}
use Rattle.message_view.specs.Sound.{HaveNames, IsSound}
use Rattle.message_view.specs.Types.{kind_in, name_at, part_of, values_of}
use Rattle.message_view.proofs.Accepting.{not_float}
use Rattle.message_view.proofs.Entries.{entry_of_map, no_float_values}
use Rattle.text_view.specs.Names.{names_of, number_in, kind_name}
use Rattle.text_view.specs.Schemas.{schema_of, shape_at}
use Rattle.text_view.specs.Targets.{target_field}
use Rattle.text_view.proofs.Adds.{label_keyed, target_label}
use Rattle.text_view.proofs.Entries.{value_numbered, values}
use Rattle.text_view.proofs.Owned.{OwnsTarget, target_whole}
use Rattle.text_view.proofs.Scalars.{told}
use Rattle.text_view.proofs.Shapes.{shape_is}
use Rattle.text_view.proofs.Wanted.{entry_under, wanted_target}

-- one value, which a list is not, and any number of them
abbrev pub one_content : Schema → Wanted → Given → Option Content
one_content w a (one_scalar s) = scalar_content a s
one_content w a (one_message colon b fs) = message_content a (λ s. value w s fs nothing)
one_content w a (listed vs) = None

abbrev pub all_contents : Schema → Wanted → Given → Option (List Content)
all_contents w a (one_scalar s) = option_map (λ c. c ∷ []) (scalar_content a s)
all_contents w a (one_message colon b fs) = option_map (λ c. c ∷ []) (message_content a (λ s. value w s fs nothing))
all_contents w a (listed vs) = values_contents w a vs

pub none_then : {A B : Type 0} (o : Option A) (f : A → Option B) → ((x : A) → f x ≡ None) → option_and_then f o ≡ None
none_then None f h = refl
none_then (Some x) f h = h x

-- what a field of one value takes
pub field_one : (w : Schema) (s : Shape) (g : Given) (m : Message) (n : ℕ) (f : Field) → f.label ≡ one
    → field_value w s g m n f ≡ option_and_then (set_one s.fields n f.part m) (one_content w (wanted_of w s.names n f.part f.label) g)
field_one w s (one_scalar v) m n f e = ap (λ l. option_and_then (add_one s.fields n f.part l m) (scalar_content (wanted_of w s.names n f.part f.label) v)) e
field_one w s (one_message c b fs) m n f e = ap (λ l. option_and_then (add_one s.fields n f.part l m) (message_content (wanted_of w s.names n f.part f.label) (λ s. value w s fs nothing))) e
field_one w s (listed vs) m n f e =
    ap (λ l. option_and_then (add_all s.fields n f.part l m) (values_contents w (wanted_of w s.names n f.part f.label) vs)) e
    ∙ none_then (values_contents w (wanted_of w s.names n f.part f.label) vs) (add_all s.fields n f.part one m) (λ cs. refl)

abbrev pub IsMany : Label → Type 0
IsMany one = ⊥
IsMany _ = Unit {0}

one_added : (type : ℕ → Option Field) (n : ℕ) (f : Field) (l : Label) (m : Message) → IsMany l → (o : Option Content)
    → option_and_then (add_one type n f.part l m) o ≡ option_and_then (add_all type n f.part l m) (option_map (λ c. c ∷ []) o)
one_added type n f one m h o = absurd h
one_added type n f (many p) m h None = refl
one_added type n f (many p) m h (Some c) = refl
one_added type n f (keyed k) m h None = refl
one_added type n f (keyed k) m h (Some c) = refl

-- and what one of many takes
pub field_many : (w : Schema) (s : Shape) (g : Given) (m : Message) (n : ℕ) (f : Field) → IsMany f.label
    → field_value w s g m n f ≡ option_and_then (add_all s.fields n f.part f.label m) (all_contents w (wanted_of w s.names n f.part f.label) g)
field_many w s (one_scalar v) m n f h = one_added s.fields n f f.label m h (scalar_content (wanted_of w s.names n f.part f.label) v)
field_many w s (one_message c b fs) m n f h = one_added s.fields n f f.label m h (message_content (wanted_of w s.names n f.part f.label) (λ s. value w s fs nothing))
field_many w s (listed vs) m n f h = refl

-- ---- what is wanted of values of a kind

abbrev pub message_told : Schema → PoolType → Kind → Fields → Option Content
message_told w pool (publics.Message d) fs = option_map message (value w (shape_at pool d.index) fs nothing)
message_told w pool _ fs = None

abbrev pub IsPooled : PoolType → Kind → Type 0
IsPooled pool (publics.Message d) = d.pool.now ≡ pool
IsPooled pool _ = Unit {0}

pub kind_pooled : (pool : PoolType) (k : Kind) (t : KindType) → IsKind pool k t → IsPooled pool k
kind_pooled pool (publics.Message d) t is = is.0
kind_pooled pool k t is = tt

-- what the model wants is what the kind is
pub record Wants (pool : PoolType) (w : Schema) (k : Kind) (a : Wanted) : Type 0 where
  pub told : (s : ScalarValue) → scalar_content a s ≡ option_map single (scalar_given k s)
  pub braced : (fs : Fields) → message_content a (λ s. value w s fs nothing) ≡ message_told w pool k fs
  pub pooled : IsPooled pool k

module _ (pool : PoolType) (names : HaveNames pool) (decoded : Name → Text → Option Message) (group : Bool) where
  abbrev w : Schema
  w = schema_of pool decoded

  kind_braced : (k : Kind) (t : KindType) → IsKind pool k t → (fs : Fields)
      → message_content (wanted_in w (number_in pool t) (kind_in pool group t)) (λ s. value w s fs nothing) ≡ message_told w pool k fs
  kind_braced (publics.Message d) t is fs =
      ap (λ t. message_content (wanted_in w (number_in pool t) (kind_in pool group t)) (λ s. value w s fs nothing)) is.1
      ∙ ap (λ s. option_map message (value w s fs nothing)) (shape_is pool names decoded d.index (subst (λ (p : PoolType). d.index < length p.messages) is.0 d.in_range))
  kind_braced (publics.Enum e) t is fs = ap (λ t. message_content (wanted_in w (number_in pool t) (kind_in pool group t)) (λ s. value w s fs nothing)) is.1
  kind_braced k t is fs = ap (λ t. message_content (wanted_in w (number_in pool t) (kind_in pool group t)) (λ s. value w s fs nothing)) is

  kind_wants : (k : Kind) (t : KindType) → IsKind pool k t → is_float t ≡ false → Wants pool w k (wanted_in w (number_in pool t) (kind_in pool group t))
  kind_wants k t is whole = record {
    told = λ s. told w pool group s k t is whole;
    braced = kind_braced k t is;
    pooled = kind_pooled pool k t is;
  }

-- ---- maps

-- a kind of entries is one of messages
pub entry_kind : (pool : PoolType) (k : Kind) (t : KindType) → IsKind pool k t → is_entry pool t ≡ true → (d : MessageDescriptor) × (k ≡ publics.Message d) × (d.pool.now ≡ pool) × (t ≡ types.message d.index)
entry_kind pool (publics.Message d) t is e = (d, refl, is.0, is.1)
entry_kind pool (publics.Enum d) t is e = absurd (cc (sym (ap (is_entry pool) is.1) ∙ e))
entry_kind pool k t is e = absurd (cc (sym (ap (is_entry pool) is) ∙ e))

entry_there : (o : Option StoredEntry) → is_some o ≡ true → (e : StoredEntry) × (o ≡ Some e)
entry_there None h = absurd (cc h)
entry_there (Some e) h = (e, refl)

-- the parts of the entries of a map
module _ (d : MessageDescriptor) (f : FieldType) (kind : f.kind ≡ types.message d.index) (sound : IsSound d.pool.now) (is_map : holds_map d.pool.now f ≡ true) (whole : holds_floats d.pool.now f ≡ false) where
  pub the_entry : (e : StoredEntry) × ((type_at d.pool.now d.index).entry ≡ Some e)
  the_entry = entry_there (type_at d.pool.now d.index).entry (ap (is_entry d.pool.now) (sym kind) ∙ entry_of_map d.pool.now f is_map)

  pub value_there : entry_field d.pool.now f.kind 2 ≡ Some (values d sound the_entry.0 the_entry.1)
  value_there = ap (λ k. entry_field d.pool.now k 2) kind ∙ value_numbered d sound the_entry.0 the_entry.1

  pub value_no_float : is_float (values d sound the_entry.0 the_entry.1).kind ≡ false
  value_no_float = no_float_values d.pool.now f (values d sound the_entry.0 the_entry.1) whole is_map value_there

-- messages of a type are wanted by its name
type_wants : (pool : PoolType) → HaveNames pool → (decoded : Name → Text → Option Message) (d : MessageDescriptor) → d.pool.now ≡ pool
    → Wants pool (schema_of pool decoded) (publics.Message d) (of_message (shape_of (schema_of pool decoded) (name_at pool d.index)))
type_wants pool names decoded d at = record {
  told = λ s. refl;
  braced = λ fs. ap (λ s. option_map message (value (schema_of pool decoded) s fs nothing))
      (shape_is pool names decoded d.index (subst (λ (p : PoolType). d.index < length p.messages) at d.in_range));
  pooled = at;
}

-- ---- targets

pub target_part : (d : MessageDescriptor) (t : Target) → (target_field d t).part ≡ part_of d.pool.now (values_of d.pool.now (target_type t))
target_part d (targets.Field f) = refl
target_part d (targets.Extension x) = refl

-- what a target wants is what its kind is
module _ (d : MessageDescriptor) (sound : IsSound d.pool.now) (decoded : Name → Text → Option Message) (t : Target) (owns : OwnsTarget d t) where
  abbrev its_pool : PoolType
  its_pool = d.pool.now

  abbrev its_schema : Schema
  its_schema = schema_of d.pool.now decoded

  abbrev f : FieldType
  f = target_type t

  abbrev pub wanted : Wanted
  wanted = wanted_of (schema_of d.pool.now decoded) (names_of d.pool.now d.index) (target_type t).number (target_field d t).part (target_field d t).label

  -- entries of a map are wanted by the name of their type
  pub map_wanted : (c : MessageDescriptor) → f.kind ≡ types.message c.index → holds_map its_pool f ≡ true → wanted ≡ of_message (shape_of its_schema (name_at its_pool c.index))
  map_wanted c kind is_map =
      ap (λ l. wanted_of its_schema (names_of its_pool d.index) f.number (target_field d t).part l) (target_label d t ∙ label_keyed its_pool f is_map)
      ∙ ap (λ u. of_message (shape_of its_schema u)) (entry_under d sound.apart t owns ∙ ap (kind_name its_pool) kind)

  pub target_wants : (k : Kind) → IsKind its_pool k f.kind → Wants its_pool its_schema k wanted
  target_wants k is = by (holds_map its_pool f) refl where
    by : (b : Bool) → holds_map its_pool f ≡ b → Wants its_pool its_schema k wanted
    by false no_map =
        subst (Wants its_pool its_schema k) (sym (wanted_target d sound.apart its_schema t owns no_map))
        (kind_wants its_pool sound.names decoded f.group k f.kind is (not_float its_pool f (target_whole d sound.apart t owns)))
    by true is_map =
        let e = entry_kind its_pool k f.kind is (entry_of_map its_pool f is_map) in
        subst (λ k. Wants its_pool its_schema k wanted) (sym e.1) (subst (Wants its_pool its_schema (publics.Message e.0)) (sym (map_wanted e.0 e.3 is_map))
        (type_wants its_pool sound.names decoded e.0 e.2))
