-- What setting options keeps of a message: its other records, and that a single value stands under
-- the number of a truth value.
use Rattle.std.proofs.Common.{◌≡◌, ◌≢◌, ◌⊎◌, inl, inr, ℕ, ℤ, zero, suc, Bool, true, false, true≢false, not, ◌&&◌, ◌||◌, List, [], ◌∷◌, Option, Some, None, option_map, unwrap_or, refl, sym, ap, ◌∙◌, subst, rules}
use Rattle.std.proofs.lemmas.Bool.Decides.{eqb_tells}
use Rattle.std.specs.Prelude.{MatchBool, string_bytes}
use Rattle.descriptor_records.specs.Content.{OptionContent, option_view}
use Rattle.descriptor_records.specs.declared.options.NamePart.{NamePart}
use Rattle.descriptor_records.specs.declared.options.UninterpretedOption.{UninterpretedOption}
use Rattle.reflect_tables.specs.Types.{FieldType, PoolType}
use Rattle.reflect_tables.specs.Types as types
use Rattle.reflect_pool.specs.FieldsLeft.{field_type}
use Rattle.reflect_pool.specs.Kinds.{IsKind}
use Rattle.reflect_pool.specs.Shapes.{holds_list, holds_map, is_entry, is_repeated}
use Rattle.reflect_pool.specs.declared.field.FieldDescriptor.{FieldDescriptor}
use Rattle.reflect_pool.specs.declared.kind.Kind.{Kind}
use Rattle.reflect_pool.specs.declared.kind.Kind.TheVariants as values
use Rattle.reflect_pool.specs.declared.message.MessageDescriptor.{MessageDescriptor}
use Rattle.reflect_entries.specs.Entries.{value_at}
use Rattle.reflect_scalar.specs.FieldTypes.{field_pool}
use Rattle.reflect_scalar.specs.Singles as scalars
use Rattle.reflect_message.specs.Held.{UpdatesField, choices_of, fields_of, unknown_of}
use Rattle.reflect_message.specs.Known.{numbered_field}
use Rattle.reflect_message.specs.Names.{DynamicMessage, Value}
use Rattle.reflect_message.specs.Oneofs.{SetsField, sibling}
use Rattle.reflect_message.specs.Singles as singles
use Rattle.reflect_message.specs.declared.value.ValueOf.{the_lemmas}
use Rattle.reflect_message.specs.declared.value.ValueOf.TheVariants as held
use Rattle.reflect_message.proofs.Choosing.{is_or_not}
use Rattle.reflect_format.specs.Kinds.{single_of}
use Rattle.reflect_format.specs.Steps.{AddsValues, Puts}
use Rattle.reflect_format.specs.Takes.{holds_many}
use Rattle.reflect_format.specs.declared.target.Target.{Target}
use Rattle.reflect_format.specs.declared.target.Target.TheVariants as targets
use Rattle.option_setter.specs.OptionNames.{NamesExtension, NamesField, NamesTarget}
use Rattle.option_setter.specs.OptionValues.{IsSaid}
use Rattle.option_setter.specs.SetOptions.{LeadsInto, PutsSaid, SetsLast, SetsParts}
use Rattle.option_setter.specs.declared.option_setter.NameScope.{NameScope}
use Rattle.protobuf_model.specs.Values.{Single}
use Rattle.message_view.specs.Singles.{single_view}
use Rattle.message_view.specs.Sound.{IsSound}
use Rattle.reflect_options.specs.Settled.{SetsAll}
use Rattle.settled_records.proofs.Fields.{holds_one, same_field, truth_whole}

-- what stands there, if anything does, is no message, no list and no map
abbrev pub IsPlain : Option Value → Type 0
IsPlain o = (v : Value) → o ≡ Some v → (w : scalars.Single) × (singles.single v ≡ Some w)

abbrev pub PlainAt : ℕ → DynamicMessage → Type 0
PlainAt n m = IsPlain (value_at (fields_of m) n)

pub none_plain : IsPlain None
none_plain v e = absurd (cc e)

-- the single value of a value, by one word and by another
one_value : (v : Value) → single_of v ≡ option_map single_view (singles.single v)
one_value (held.Bool b) = search (rules, the_lemmas)
one_value v = search (rules, the_lemmas)

pub some_plain : (v : Value) (w : scalars.Single) → singles.single v ≡ Some w → IsPlain (Some v)
some_plain v w is u e = (w, ap singles.single (ap (λ o. unwrap_or o v) (sym e)) ∙ is)

singled : (v : Value) (x : Single) → single_of v ≡ Some x → IsPlain (Some v)
singled v x e = by (singles.single v) refl where
  by : (o : Option scalars.Single) → singles.single v ≡ o → IsPlain (Some v)
  by None is = absurd (cc (sym e ∙ one_value v ∙ ap (option_map single_view) is))
  by (Some w) is = some_plain v w is

-- what an option says to a truth value
said_plain : (pool : PoolType) (k : Kind) (o : OptionContent) (v : Value) → IsKind pool k types.bool → IsSaid k o v → IsPlain (Some v)
said_plain pool values.Bool o v h s = singled v s.0 s.2
said_plain pool (values.Message d) o v h s = absurd (cc (h.1))
said_plain pool (values.Enum d) o v h s = absurd (cc (h.1))
said_plain pool k o v h s = absurd (cc h)

pub none_many : (pool : PoolType) (f : FieldType) → is_repeated f.cardinality ≡ false → (holds_list pool f || holds_map pool f) ≡ false
none_many pool f one = ap (λ b. (b && not (is_entry pool f.kind && (b && not f.group))) || (is_entry pool f.kind && (b && not f.group))) one ∙ by (is_entry pool f.kind) where
  by : (b : Bool) → b && false ≡ false
  by true = refl
  by false = refl

own_field : (s : NameScope) (d : MessageDescriptor) (name : List ℕ) (f : FieldDescriptor) (b : Bool) → MatchBool b (NamesExtension s d name (targets.Field f)) (NamesField d name (targets.Field f)) → f.message ≡ d
own_field s d name f true h = absurd h
own_field s d name f false h = h.0

-- ---- other records, and the type

last_others : (o : OptionContent) (old new : DynamicMessage) (path : List ℤ) (t : Target) → SetsLast t o old new path → unknown_of new ≡ unknown_of old
last_others o old new path (targets.Field f) sets = by sets.put.4 where
  by : PutsSaid (targets.Field f) sets.put.2 old new → unknown_of new ≡ unknown_of old
  by (inl (one, unset, puts)) = puts.unknown
  by (inr (many, adds)) = adds.0.2
last_others o old new path (targets.Extension x) sets = by sets.put.4 where
  by : PutsSaid (targets.Extension x) sets.put.2 old new → unknown_of new ≡ unknown_of old
  by (inl (one, unset, puts)) = puts.unknown
  by (inr (many, adds)) = adds.0.2

inner_others : (old left inner set new : DynamicMessage) (t : Target) → LeadsInto t old left inner → Puts t (held.Message set) left new → unknown_of new ≡ unknown_of old
inner_others old left inner set new (targets.Field f) leads puts = puts.unknown ∙ leads.taken.unknown
inner_others old left inner set new (targets.Extension x) leads puts = puts.unknown ∙ leads.taken.unknown

parts_others : (s : NameScope) (o : OptionContent) (levels : ℕ) (parts : List NamePart) (old new : DynamicMessage) (path : List ℤ) → SetsParts s o levels parts old new path → unknown_of new ≡ unknown_of old
parts_others s o levels [] old new path sets = ap unknown_of sets.0
parts_others s o levels (part ∷ []) old new path sets = last_others o old new sets.1 sets.0 sets.3
parts_others s o zero (part ∷ next ∷ parts) old new path sets = absurd sets
parts_others s o (suc levels) (part ∷ next ∷ parts) old new path sets = inner_others old sets.2 sets.3 sets.4 new sets.0 sets.6 sets.8

-- the other records stay
pub all_others : (s : NameScope) (os : List UninterpretedOption) (old new : DynamicMessage) (paths : List (List ℤ)) → SetsAll s os old new paths → unknown_of new ≡ unknown_of old
all_others s [] old new paths sets = ap unknown_of sets.0
all_others s (o ∷ os) old new paths sets = all_others s os sets.0 new sets.2 sets.4 ∙ parts_others s (option_view o) 100 o.name.items old sets.0 sets.1 sets.3

-- and so does the type
pub parts_type : (s : NameScope) (o : OptionContent) (levels : ℕ) (parts : List NamePart) (old new : DynamicMessage) (path : List ℤ) → SetsParts s o levels parts old new path → new.descriptor ≡ old.descriptor
parts_type s o levels [] old new path sets = ap (λ (m : DynamicMessage). m.descriptor) sets.0
parts_type s o levels (part ∷ []) old new path sets = sets.3.same_type
parts_type s o zero (part ∷ next ∷ parts) old new path sets = absurd sets
parts_type s o (suc levels) (part ∷ next ∷ parts) old new path sets = sets.9

pub type_kept : (s : NameScope) (os : List UninterpretedOption) (old new : DynamicMessage) (paths : List (List ℤ)) → SetsAll s os old new paths → new.descriptor ≡ old.descriptor
type_kept s [] old new paths sets = ap (λ (m : DynamicMessage). m.descriptor) sets.0
type_kept s (o ∷ os) old new paths sets = type_kept s os sets.0 new sets.2 sets.4 ∙ parts_type s (option_view o) 100 o.name.items old sets.0 sets.1 sets.3

-- ---- the value under a number

-- fields are the same
same_fields : (n : ℕ) (old new : DynamicMessage) → fields_of new ≡ fields_of old → PlainAt n old → PlainAt n new
same_fields n old new e h = subst (λ es. IsPlain (value_at es n)) (sym e) h

-- a field is set
put_field : (n : ℕ) (old new : DynamicMessage) (f : FieldDescriptor) (v : Value) → SetsField old new f v → ((field_type f).number ≡ n → IsPlain (Some v)) → PlainAt n old → PlainAt n new
put_field n old new f v sets here h = by (eqb_tells n (field_type f).number) (is_or_not (sibling f (choices_of old)) n) where
  by : {A B : Type 0} → (A × (n ≡ (field_type f).number)) ⊎ (B × (n ≢ (field_type f).number)) → (sibling f (choices_of old) ≡ Some n) ⊎ (sibling f (choices_of old) ≢ Some n) → PlainAt n new
  by (inl (_, same)) either = subst IsPlain (sym (ap (value_at (fields_of new)) same ∙ sets.here)) (here (sym same))
  by (inr (_, other)) (inl is) = subst IsPlain (sym (sets.changes.unset n is)) none_plain
  by (inr (_, other)) (inr not) = subst IsPlain (sym (sets.changes.others n other not)) h

-- values are put into a list or a map under another number
add_field : (n : ℕ) (old new : DynamicMessage) (f : FieldDescriptor) (vs : List Value) → AddsValues (targets.Field f) vs old new → holds_many (targets.Field f) ≡ true → ((field_type f).number ≡ n → ⊥) → PlainAt n old → PlainAt n new
add_field n old new f vs adds many other h = by (is_or_not (sibling f (choices_of old)) n) where
  by : (sibling f (choices_of old) ≡ Some n) ⊎ (sibling f (choices_of old) ≢ Some n) → PlainAt n new
  by (inl is) = subst IsPlain (sym (adds.5 many n is)) none_plain
  by (inr not) = subst IsPlain (sym (adds.0.0 n (λ same. other (sym same)) not)) h

-- a field is unset
pub unset_field : (n : ℕ) (old new : DynamicMessage) (number : ℕ) → UpdatesField old new number None → PlainAt n old → PlainAt n new
unset_field n old new number unset h = by (eqb_tells n number) where
  by : {A B : Type 0} → (A × (n ≡ number)) ⊎ (B × (n ≢ number)) → PlainAt n new
  by (inl (_, same)) = subst IsPlain (sym (ap (value_at (fields_of new)) same ∙ unset.field.here)) none_plain
  by (inr (_, other)) = subst IsPlain (sym (unset.field.others n other)) h

module _ (d : MessageDescriptor) (sound : IsSound d.pool.now) (n : ℕ) (g : FieldType) (is : numbered_field d.pool.now d.index n ≡ Some g) (kind : g.kind ≡ types.bool) (presence : g.presence ≡ true) where
  module _ (f : FieldDescriptor) (own : f.message ≡ d) (number : (field_type f).number ≡ n) where
    same : field_type f ≡ g
    same = same_field d n g is sound f own number

    not_many : holds_many (targets.Field f) ≡ true → ⊥
    not_many many =
        let one : is_repeated (field_type f).cardinality ≡ false = ap (λ (t : FieldType). is_repeated t.cardinality) same ∙ holds_one d n g is sound (truth_whole d.pool.now g kind) presence in
        true≢false (sym many ∙ none_many (field_pool f) (field_type f) one)

    is_truth : (field_type f).kind ≡ types.bool
    is_truth = ap (λ (t : FieldType). t.kind) same ∙ kind

  last_kept : (s : NameScope) (part : NamePart) (o : OptionContent) (old new : DynamicMessage) (path : List ℤ) (t : Target) → old.descriptor ≡ d → NamesTarget s old.descriptor part t → SetsLast t o old new path → PlainAt n old → PlainAt n new
  last_kept s part o old new path (targets.Field f) there names sets h = by sets.put.0 sets.put.1 sets.put.2 sets.put.3 sets.put.4 where
    own : f.message ≡ d
    own = own_field s old.descriptor (string_bytes part.name_part) f part.is_extension names ∙ there

    by : (k : Kind) → IsKind (field_pool f) k (field_type f).kind → (v : Value) → IsSaid k o v → PutsSaid (targets.Field f) v old new → PlainAt n new
    by k of_kind v said (inl (one, unset, puts)) = put_field n old new f v puts (λ number. said_plain (field_pool f) k o v (subst (IsKind (field_pool f) k) (is_truth f own number) of_kind) said) h
    by k of_kind v said (inr (many, adds)) = add_field n old new f (v ∷ []) adds many (λ number. not_many f own number many) h
  last_kept s part o old new path (targets.Extension x) there names sets h = by sets.put.4 where
    by : PutsSaid (targets.Extension x) sets.put.2 old new → PlainAt n new
    by (inl (one, unset, puts)) = same_fields n old new puts.fields h
    by (inr (many, adds)) = same_fields n old new adds.0.1 h

  -- a part leads into a message, and it is put back
  inner_kept : (s : NameScope) (part : NamePart) (old left inner set new : DynamicMessage) (t : Target) → old.descriptor ≡ d → NamesTarget s old.descriptor part t → LeadsInto t old left inner → Puts t (held.Message set) left new → PlainAt n old → PlainAt n new
  inner_kept s part old left inner set new (targets.Field f) there names leads puts h = put_field n left new f (held.Message set) puts no_message (unset_field n old left (field_type f).number leads.taken h) where
    own : f.message ≡ d
    own = own_field s old.descriptor (string_bytes part.name_part) f part.is_extension names ∙ there

    no_message : (field_type f).number ≡ n → IsPlain (Some (held.Message set))
    no_message number = absurd (cc (is_truth f own number, leads.kind.1.1))
  inner_kept s part old left inner set new (targets.Extension x) there names leads puts h = same_fields n old new (puts.fields ∙ leads.taken.fields) h

  parts_kept : (s : NameScope) (o : OptionContent) (levels : ℕ) (parts : List NamePart) (old new : DynamicMessage) (path : List ℤ) → old.descriptor ≡ d → SetsParts s o levels parts old new path → PlainAt n old → PlainAt n new
  parts_kept s o levels [] old new path there sets h = subst (PlainAt n) (sym sets.0) h
  parts_kept s o levels (part ∷ []) old new path there sets h = last_kept s part o old new sets.1 sets.0 there sets.2 sets.3 h
  parts_kept s o zero (part ∷ next ∷ parts) old new path there sets h = absurd sets
  parts_kept s o (suc levels) (part ∷ next ∷ parts) old new path there sets h = inner_kept s part old sets.2 sets.3 sets.4 new sets.0 there sets.5 sets.6 sets.8 h

  -- a single value stands there still
  pub all_kept : (s : NameScope) (os : List UninterpretedOption) (old new : DynamicMessage) (paths : List (List ℤ)) → SetsAll s os old new paths → old.descriptor ≡ d → PlainAt n old → PlainAt n new
  all_kept s [] old new paths sets there h = subst (PlainAt n) (sym sets.0) h
  all_kept s (o ∷ os) old new paths sets there h =
      all_kept s os sets.0 new sets.2 sets.4 (parts_type s (option_view o) 100 o.name.items old sets.0 sets.1 sets.3 ∙ there) (parts_kept s (option_view o) 100 o.name.items old sets.0 sets.1 there sets.3 h)
