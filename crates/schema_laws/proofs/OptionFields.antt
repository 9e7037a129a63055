-- The fields that a type of options has to have, in types of two pools that say the same to texts.
use Rattle.std.proofs.Common.{◌≡◌, ◌∙◌, inl, ℕ, Bool, true, false, true≢false, cond, not, ◌&&◌, List, Some, ap, refl, sym}
use Rattle.std.specs.Option.{option_and_then}
use Rattle.message_view.specs.Sound.{HaveLists}
use Rattle.message_view.specs.Types.{entry_part, key_of, kind_in, label_of, name_at, values_of}
use Rattle.option_parts.specs.OptionTypes.{HasField, IsOfMessages, IsTruthValue, ListsMessages}
use Rattle.schema_laws.proofs.Members.{in_no_oneof}
use Rattle.schema_laws.proofs.SameFields.{SameField, same_field, whole_known}
use Rattle.protobuf_model.specs.Types.{keyed, many, nested, one, scalar, sized}
use Rattle.protobuf_model.specs.Types as model
use Rattle.reflect_message.specs.Known.{known_field}
use Rattle.reflect_entries.specs.Members.{first_number}
use Rattle.reflect_pool.specs.Parts.{members_of}
use Rattle.reflect_pool.specs.Shapes.{holds_map, is_entry, is_repeated}
use Rattle.reflect_print.specs.Named.{type_name}
use Rattle.reflect_print.specs.Named as print
use Rattle.reflect_tables.specs.Types.{FieldType, KindType, PoolType, bool, message}
use Rattle.settled_records.proofs.Fields.{listed_whole, truth_whole}
use Rattle.text_view.proofs.Places.{plain_label}
use Rattle.text_view.specs.Schemas.{shape_at}

-- ---- what a field's label says of it
label_by : (pool : PoolType) (g : FieldType) (m r : Bool) → holds_map pool g ≡ m → is_repeated g.cardinality ≡ r
    → label_of pool g ≡ cond m (keyed (key_of pool (entry_part pool g 1))) (cond r (many g.packed) one)
label_by pool g m r e also =
    ap (λ m. cond m (keyed (key_of pool (entry_part pool g 1))) (cond (is_repeated g.cardinality) (many g.packed) one)) e
    ∙ ap (λ r. cond m (keyed (key_of pool (entry_part pool g 1))) (cond r (many g.packed) one)) also

-- what is labelled as a list repeats and is no map, nor is what is labelled as one value
labelled_many : (pool : PoolType) (g : FieldType) (packed : Bool) → label_of pool g ≡ many packed → (holds_map pool g ≡ false) × (is_repeated g.cardinality ≡ true)
labelled_many pool g packed label = by (holds_map pool g) refl (is_repeated g.cardinality) refl where
  by : (m : Bool) → holds_map pool g ≡ m → (r : Bool) → is_repeated g.cardinality ≡ r → (holds_map pool g ≡ false) × (is_repeated g.cardinality ≡ true)
  by true e r also = absurd (cc (sym (label_by pool g true r e also) ∙ label))
  by false e true also = (e, also)
  by false e false also = absurd (cc (sym (label_by pool g false false e also) ∙ label))

labelled_one : (pool : PoolType) (g : FieldType) → label_of pool g ≡ one → holds_map pool g ≡ false
labelled_one pool g label = by (holds_map pool g) refl where
  by : (m : Bool) → holds_map pool g ≡ m → holds_map pool g ≡ false
  by true e = absurd (cc (sym (label_by pool g true (is_repeated g.cardinality) e refl) ∙ label))
  by false e = e

-- the part of what is no map is its own
own_part : (pool : PoolType) (g : FieldType) → holds_map pool g ≡ false → values_of pool g ≡ g
own_part pool g e = ap (λ m. cond m (entry_part pool g 2) g) e

part_kind : (pool : PoolType) (g : FieldType) → holds_map pool g ≡ false → kind_in pool (values_of pool g).group (values_of pool g).kind ≡ kind_in pool g.group g.kind
part_kind pool g e = ap (λ (h : FieldType). kind_in pool h.group h.kind) (own_part pool g e)

-- ---- what a kind says of a field
-- messages that stand behind their length are of a kind that only a field of messages has, which is no group
of_messages : (pool : PoolType) (k : KindType) → IsOfMessages k → (t : List ℕ) × (kind_in pool false k ≡ nested sized t)
of_messages pool (message j) h = (name_at pool j, refl)
of_messages pool k h = absurd h

kind_nested : (pool : PoolType) (group : Bool) (k : KindType) (t : List ℕ) → kind_in pool group k ≡ nested sized t → (group ≡ false) × IsOfMessages k
kind_nested pool true (message j) t e = absurd (cc e)
kind_nested pool false (message j) t e = (refl, tt)
kind_nested pool group k t e = absurd (cc e)

-- and truth values are of one that no other field has
kind_truth : (pool : PoolType) (group : Bool) (k : KindType) → kind_in pool group k ≡ scalar model.bool → k ≡ bool
kind_truth pool group bool e = refl
kind_truth pool group k e = absurd (cc e)

-- a truth value bears its own name
truth_name : (pool : PoolType) (f : FieldType) → f.kind ≡ bool → print.label_of pool f ≡ f.name
truth_name pool f kind = by f.group refl where
  by : (b : Bool) → f.group ≡ b → print.label_of pool f ≡ f.name
  by true e = ap (λ b. cond b (type_name pool f.kind f.name) f.name) e ∙ ap (λ t. type_name pool t f.name) kind
  by false e = plain_label pool f e

-- ---- the two fields
-- a list repeats and is no map
list_parts : (repeated map : Bool) → repeated && not map ≡ true → (repeated ≡ true) × (map ≡ false)
list_parts true true e = absurd (cc e)
list_parts true false e = (refl, refl)
list_parts false map e = absurd (cc e)

module _ (p q : PoolType) (i k n : ℕ) (alike : shape_at p i ≡ shape_at q k) where
  -- a list of messages that the one type has under a number the other has too
  pub lists_alike : HasField p i n (ListsMessages p) → HasField q k n (ListsMessages q)
  lists_alike (f, is, lists) =
      let same : SameField p q i k n f = same_field p q i k n alike f (whole_known p i n f is (listed_whole p f lists)) in
      let g : FieldType = same.field in
      let shape = list_parts (is_repeated f.cardinality) (holds_map p f) lists.listed in
      let its = labelled_many q g f.packed (ap (λ (h : model.Field). h.label) same.said ∙ label_by p f false true shape.1 shape.0) in
      let type = of_messages p f.kind lists.messages in
      let kind : kind_in q g.group g.kind ≡ nested sized type.0 =
      sym (part_kind q g its.0) ∙ ap (λ (h : model.Field). h.part.kind) same.said ∙ part_kind p f shape.1 ∙ ap (λ b. kind_in p b f.kind) lists.by_length ∙ type.1 in
      let framed = kind_nested q g.group g.kind type.0 kind in (
        g,
        same.there,
        record {
          named = sym (plain_label q g framed.0) ∙ same.name ∙ plain_label p f lists.by_length ∙ lists.named;
          listed = ap (λ r. r && not (holds_map q g)) its.1 ∙ ap not its.0;
          by_length = framed.0;
          messages = framed.1;
        },
      )

  -- and so it is with a truth value
  pub truth_alike : HaveLists p → (name : List ℕ) → HasField p i n (IsTruthValue name) → HasField q k n (IsTruthValue name)
  truth_alike lists name (f, is, truth) =
      let known : known_field p i n ≡ Some f = whole_known p i n f is (truth_whole p f truth.truth) in
      let same : SameField p q i k n f = same_field p q i k n alike f known in
      let g : FieldType = same.field in
      let no_map : holds_map p f ≡ false = ap (λ t. is_entry p t && (is_repeated f.cardinality && not f.group)) truth.truth in
      let label : label_of p f ≡ one = label_by p f false false no_map (holds_one known truth.presence (is_repeated f.cardinality) refl) in
      let its : holds_map q g ≡ false = labelled_one q g (ap (λ (h : model.Field). h.label) same.said ∙ label) in
      let kind : kind_in q g.group g.kind ≡ scalar model.bool =
      sym (part_kind q g its) ∙ ap (λ (h : model.Field). h.part.kind) same.said ∙ part_kind p f no_map ∙ ap (kind_in p f.group) truth.truth in
      let its_kind : g.kind ≡ bool = kind_truth q g.group g.kind kind in (
        g,
        same.there,
        record {
          named = sym (truth_name q g its_kind) ∙ same.name ∙ truth_name p f truth.truth ∙ truth.named;
          truth = its_kind;
          presence =
              sym (ap (λ (h : FieldType). h.presence) (own_part q g its)) ∙ ap (λ (h : model.Field). h.part.presence) same.said
              ∙ ap (λ (h : FieldType). h.presence) (own_part p f no_map) ∙ truth.presence;
          alone = in_no_oneof q k n g same.there (ap (λ (h : model.Field). h.oneof) same.said ∙ ap (option_and_then (λ j. first_number (members_of p i j))) truth.alone);
        },
      ) where
        -- what has presence holds one value
        holds_one : known_field p i n ≡ Some f → f.presence ≡ true → (r : Bool) → is_repeated f.cardinality ≡ r → is_repeated f.cardinality ≡ false
        holds_one known set true e = absurd (true≢false (sym set ∙ lists.unset i n f (inl known) e))
        holds_one known set false e = e
