-- Which fields are set, in the program's words and in the model's.
use Rattle.std.proofs.Common.{◌≡◌, ◌||◌, ◌&&◌, not, Bool, true, false, true≢false, cond, List, [], ◌∷◌, map, Option, Some, None, option_map, unwrap_or, refl, sym, ap, ◌∙◌, subst}
use Rattle.protobuf_model.specs.Scalars.{same}
use Rattle.protobuf_model.specs.Values.{Single, Content, single, list, dictionary, chain_of, entries_of, content, absent}
use Rattle.reflect_tables.specs.Types.{PoolType, FieldType, KindType}
use Rattle.reflect_pool.specs.Shapes.{is_entry, is_repeated, holds_list, holds_map}
use Rattle.reflect_scalar.specs.Singles as scalars
use Rattle.reflect_scalar.specs.declared.map_key.MapKey.{MapKey}
use Rattle.reflect_message.specs.Bytes as bytes
use Rattle.reflect_message.specs.Bytes.{form_of}
use Rattle.reflect_message.specs.Lists.{list_items}
use Rattle.reflect_message.specs.Maps.{map_entries}
use Rattle.reflect_message.specs.Known.{is_float}
use Rattle.reflect_message.specs.Present.{is_held}
use Rattle.reflect_message.specs.Singles as singles
use Rattle.reflect_message.specs.Names.{Value}
use Rattle.reflect_format.specs.Kinds.{single_of}
use Rattle.text_model.specs.Value.{is_set}
use Rattle.message_view.specs.Singles.{single_view}
use Rattle.message_view.specs.Types.{default_of}
use Rattle.message_view.specs.Views.{held_in, content_view}
use Rattle.message_view.specs.Views as views
use Rattle.message_view.proofs.Entries.{Sort, plain, floating, message_type, sort_of}
use Rattle.message_view.proofs.Forms.{single_form_seen, message_form_seen, list_form_seen, forms_of, map_form_seen}
use Rattle.message_view.proofs.Seen.{single_seen, message_seen, list_seen, map_seen, pairs_view}
use Rattle.message_view.proofs.Written.{default_same, or_true}
use Rattle.text_view.specs.Holds.{IsOfKind, IsHeldAs, HoldsAs}
use Rattle.text_view.proofs.Scalars.{one_value}

-- a single value, without where it lies in memory
pub singled : (v : Value) (x : Single) → single_of v ≡ Some x → (w : scalars.Single) × (singles.single v ≡ Some w) × (single_view w ≡ x)
singled v x e = by (singles.single v) refl where
  by : (o : Option scalars.Single) → singles.single v ≡ o → (w : scalars.Single) × (singles.single v ≡ Some w) × (single_view w ≡ x)
  by None is = absurd (cc (sym e ∙ one_value v ∙ ap (option_map single_view) is))
  by (Some w) is = (w, is, ap (λ o. unwrap_or o (single_view w)) (sym (ap (option_map single_view) is) ∙ sym (one_value v) ∙ e))

kept : (b : Bool) (c : Content) → is_set (cond b (content c) absent) ≡ b
kept true c = refl
kept false c = refl

-- what a field of one value holds
abbrev pub OfKindIfHeld : KindType → Option Value → Type 0
OfKindIfHeld t None = Unit {0}
OfKindIfHeld t (Some v) = IsOfKind t v

pub one_held : (pool : PoolType) (f : FieldType) → holds_map pool f ≡ false → holds_list pool f ≡ false → (o : Option Value) → IsHeldAs pool f o → OfKindIfHeld f.kind o
one_held pool f no_map no_list None h = tt
one_held pool f no_map no_list (Some v) h = subst (λ b. HoldsAs pool f false b v) no_list (subst (λ b. HoldsAs pool f b (holds_list pool f) v) no_map h)

pub held_one : (pool : PoolType) (f : FieldType) → holds_map pool f ≡ false → holds_list pool f ≡ false → (v : Value) → IsOfKind f.kind v → IsHeldAs pool f (Some v)
held_one pool f no_map no_list v h = subst (λ b. HoldsAs pool f b (holds_list pool f) v) (sym no_map) (subst (λ b. HoldsAs pool f false b v) (sym no_list) h)

-- a field of one value is set exactly where the model says so
pub set_same : (pool : PoolType) (f : FieldType) → is_float f.kind ≡ false → (o : Option Value) → OfKindIfHeld f.kind o
    → is_held pool f o ≡ is_set (held_in pool f (option_map content_view o))
set_same pool f whole None h = refl
set_same pool f whole (Some v) h = by (sort_of f.kind) where
  by : Sort f.kind → is_held pool f (Some v) ≡ is_set (held_in pool f (Some (content_view v)))
  by (floating e) = absurd (true≢false (sym e ∙ whole))
  by (plain type) =
      let x = h.1 type in
      let w = singled v x.0 x.1 in
      ap (bytes.is_set pool f) (single_form_seen v w.0 w.1)
      ∙ ap (λ b. f.presence || not b) (default_same pool f w.0 type)
      ∙ sym (ap (λ c. is_set (held_in pool f (Some c))) (single_seen v w.0 w.1) ∙ kept (f.presence || not (same (single_view w.0) (default_of pool f))) (single (single_view w.0)))
  by (message_type type) =
      let m = h.0 type in
      ap (bytes.is_set pool f) (message_form_seen v m.0 m.1) ∙ or_true f.presence
      ∙ sym (ap (λ c. is_set (held_in pool f (Some c))) (message_seen v m.0 m.1))

-- so is a list, and a map, exactly where anything stands in it
pub list_set : (pool : PoolType) (f : FieldType) (v : Value) (vs : List Value) → f.presence ≡ false → list_items v ≡ Some vs → bytes.is_set pool f (form_of v) ≡ views.is_set pool f (content_view v)
list_set pool f v vs unset is = ap (bytes.is_set pool f) (list_form_seen v vs is) ∙ by vs ∙ sym (ap (views.is_set pool f) (list_seen v vs is)) where
  by : (vs : List Value) → bytes.is_set pool f (bytes.list_form (map form_of vs)) ≡ views.is_set pool f (list (chain_of (map content_view vs)))
  by [] = ap (λ b. b || false) unset
  by (u ∷ us) = or_true f.presence

pub map_set : (pool : PoolType) (f : FieldType) (v : Value) (es : List (MapKey × Value)) → f.presence ≡ false → map_entries v ≡ Some es → bytes.is_set pool f (form_of v) ≡ views.is_set pool f (content_view v)
map_set pool f v es unset is = ap (bytes.is_set pool f) (map_form_seen v es is) ∙ by es ∙ sym (ap (views.is_set pool f) (map_seen v es is)) where
  by : (es : List (MapKey × Value)) → bytes.is_set pool f (bytes.map_form (forms_of es)) ≡ views.is_set pool f (dictionary (entries_of (pairs_view es)))
  by [] = ap (λ b. b || false) unset
  by (e ∷ es) = or_true f.presence

pub map_repeats : (pool : PoolType) (f : FieldType) → holds_map pool f ≡ true → is_repeated f.cardinality ≡ true
map_repeats pool f e = by (is_entry pool f.kind) (is_repeated f.cardinality) e where
  by : (a b : Bool) → (a && (b && not f.group)) ≡ true → b ≡ true
  by true true h = refl
  by true false h = absurd (true≢false (sym h))
  by false b h = absurd (true≢false (sym h))

pub list_repeats : (pool : PoolType) (f : FieldType) → holds_list pool f ≡ true → is_repeated f.cardinality ≡ true
list_repeats pool f e = by (is_repeated f.cardinality) e where
  by : (b : Bool) → (b && not (holds_map pool f)) ≡ true → b ≡ true
  by true h = refl
  by false h = absurd (true≢false (sym h))

-- and each field, of whatever values
pub any_set : (pool : PoolType) (f : FieldType) → is_float f.kind ≡ false → (is_repeated f.cardinality ≡ true → f.presence ≡ false) → (o : Option Value) → IsHeldAs pool f o
    → is_held pool f o ≡ is_set (held_in pool f (option_map content_view o))
any_set pool f whole unset None h = refl
any_set pool f whole unset (Some v) h = by (holds_map pool f) refl (holds_list pool f) refl h where
  by : (b : Bool) → holds_map pool f ≡ b → (c : Bool) → holds_list pool f ≡ c → HoldsAs pool f b c v → is_held pool f (Some v) ≡ is_set (held_in pool f (Some (content_view v)))
  by true is_map c k h = map_set pool f v h.0 (unset (map_repeats pool f is_map)) h.1 ∙ sym (kept (views.is_set pool f (content_view v)) (content_view v))
  by false no_map true is_list h = list_set pool f v h.0 (unset (list_repeats pool f is_list)) h.1 ∙ sym (kept (views.is_set pool f (content_view v)) (content_view v))
  by false no_map false no_list h = set_same pool f whole (Some v) h

-- what is not set is absent, and what is set is held
pub unset_absent : (pool : PoolType) (f : FieldType) (o : Option Content) → is_set (held_in pool f o) ≡ false → held_in pool f o ≡ absent
unset_absent pool f None e = refl
unset_absent pool f (Some c) e = by (views.is_set pool f c) e where
  by : (b : Bool) → is_set (cond b (content c) absent) ≡ false → cond b (content c) absent ≡ absent
  by true k = absurd (true≢false k)
  by false k = refl

pub set_held : (pool : PoolType) (f : FieldType) (c : Content) → is_set (held_in pool f (Some c)) ≡ true → held_in pool f (Some c) ≡ content c
set_held pool f c e = by (views.is_set pool f c) e where
  by : (b : Bool) → is_set (cond b (content c) absent) ≡ true → cond b (content c) absent ≡ content c
  by true k = refl
  by false k = absurd (true≢false (sym k))
