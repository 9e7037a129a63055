-- What a target holds, in the program's words and in the model's: whether it is set, and how many
-- values its list has.
use Rattle.std.proofs.Common.{◌≡◌, ℕ, suc, ◌||◌, not, Bool, true, false, true≢false, cond, List, [], ◌∷◌, length, map, Option, None, Some, option_map, unwrap_or, refl, sym, ap, ◌∙◌}
use Rattle.std.specs.Prelude.{if◌then◌else◌}
use Rattle.message_view.specs.Shaped.{Exclusive, FitsOne, FitsShaped}
use Rattle.message_view.specs.Singles.{single_view}
use Rattle.message_view.specs.Sound.{IsSound}
use Rattle.message_view.specs.Types.{default_of}
use Rattle.message_view.specs.Views.{content_view, held_in, view}
use Rattle.message_view.proofs.Accepting.{not_float}
use Rattle.message_view.proofs.Entries.{Sort, plain, floating, message_type, sort_of}
use Rattle.message_view.proofs.Forms.{single_form_seen, message_form_seen}
use Rattle.message_view.proofs.Seen.{single_seen, message_seen, list_seen}
use Rattle.message_view.proofs.Written.{default_same, or_true}
use Rattle.stored_options.specs.SetOptions.{place_in}
use Rattle.option_setter.specs.SetOptions.{count_held, next_place, place_of}
use Rattle.protobuf_model.specs.Meaning.{items}
use Rattle.protobuf_model.specs.Scalars.{same}
use Rattle.protobuf_model.specs.Values.{Content, absent, chain_of, content, list, list_of, single}
use Rattle.reflect_format.specs.Steps as steps
use Rattle.reflect_format.specs.Steps.{held_by}
use Rattle.reflect_format.specs.Takes.{holds_many, target_type}
use Rattle.reflect_format.specs.declared.target.Target.{Target}
use Rattle.reflect_message.specs.Bytes as bytes
use Rattle.reflect_message.specs.Known.{is_float}
use Rattle.reflect_message.specs.Lists.{items_held}
use Rattle.reflect_message.specs.Names.{DynamicMessage, Value}
use Rattle.reflect_message.specs.Present.{is_held}
use Rattle.reflect_pool.specs.Shapes.{holds_list, holds_map}
use Rattle.reflect_pool.specs.declared.message.MessageDescriptor.{MessageDescriptor}
use Rattle.reflect_tables.specs.Types.{FieldType, PoolType}
use Rattle.text_model.specs.Value.{is_set}
use Rattle.text_view.specs.Targets.{target_field}
use Rattle.text_view.proofs.Adds.{label_keyed, label_many, label_one, list_of_many, target_label}
use Rattle.text_view.proofs.Once.{one_of}
use Rattle.text_view.proofs.Owned.{OwnsTarget, pool_is, target_whole, under_target}
use Rattle.text_view.proofs.Shaped.{list_before, single_fits}
use Rattle.stored_options.proofs.Shapes.{stood}

-- ---- whether it is set

kept : (b : Bool) (c : Content) → is_set (cond b (content c) absent) ≡ b
kept true c = refl
kept false c = refl

-- a value that suits its field as one is set exactly where the model says so
one_set : (inner : DynamicMessage → Type 0) (pool : PoolType) (f : FieldType) → is_float f.kind ≡ false → (v : Value) → FitsOne inner pool f v
    → is_held pool f (Some v) ≡ is_set (held_in pool f (Some (content_view v)))
one_set inner pool f whole v fits = by (sort_of f.kind) where
  by : Sort f.kind → is_held pool f (Some v) ≡ is_set (held_in pool f (Some (content_view v)))
  by (floating e) = absurd (true≢false (sym e ∙ whole))
  by (plain type) =
      let w = fits.plain type in
      ap (bytes.is_set pool f) (single_form_seen v w.0 w.1)
      ∙ ap (λ b. f.presence || not b) (default_same pool f w.0 type)
      ∙ sym (ap (λ c. is_set (held_in pool f (Some c))) (single_seen v w.0 w.1) ∙ kept (f.presence || not (same (single_view w.0) (default_of pool f))) (single (single_view w.0)))
  by (message_type type) =
      let m = fits.nested type in
      ap (bytes.is_set pool f) (message_form_seen v m.0 m.1) ∙ or_true f.presence
      ∙ sym (ap (λ c. is_set (held_in pool f (Some c))) (message_seen v m.0 m.1))

-- ---- how many values there are

chained : (vs : List Value) → length (list_of (chain_of (map content_view vs))) ≡ length vs
chained [] = refl
chained (v ∷ vs) = ap suc (chained vs)

counted : (pool : PoolType) (f : FieldType) (o : Option Value) (vs : List Value) → items_held o ≡ Some vs
    → length (items (held_in pool f (option_map content_view o))) ≡ length vs
counted pool f None vs e = ap (λ o. length (unwrap_or o vs)) e
counted pool f (Some v) vs e = ap (λ c. length (items (held_in pool f (Some c)))) (list_seen v vs e) ∙ by vs where
  by : (vs : List Value) → length (items (held_in pool f (Some (list (chain_of (map content_view vs)))))) ≡ length vs
  by [] = refl
  by (u ∷ us) = ap suc (chained us)

-- ---- of a target in a message of which all suits its type

module _ (levels : ℕ) (old : DynamicMessage) (sound : IsSound old.descriptor.pool.now) (shape : Exclusive (suc levels) old) (t : Target)
    (owns : OwnsTarget old.descriptor t) where
  abbrev d : MessageDescriptor
  d = old.descriptor

  abbrev pool : PoolType
  pool = old.descriptor.pool.now

  abbrev f : FieldType
  f = target_type t

  seen_set : holds_many t ≡ false → (o : Option Value) → ((v : Value) → o ≡ Some v → FitsShaped (Exclusive levels) pool f v)
      → is_held pool f o ≡ is_set (held_in pool f (option_map content_view o))
  seen_set one None h = refl
  seen_set one (Some v) h =
      let none = one_of d sound.apart t owns one in
      one_set (Exclusive levels) pool f (not_float pool f (target_whole d sound.apart t owns)) v (single_fits (Exclusive levels) pool f v none.0 none.1 (h v refl))

  pub set_seen : holds_many t ≡ false → steps.is_set old t ≡ is_set (view old f.number)
  set_seen one =
      ap (λ p. is_held p f (held_by old t)) (pool_is d sound.apart t owns)
      ∙ seen_set one (held_by old t) (stood levels old sound shape t owns)
      ∙ sym (ap is_set (under_target d sound.apart t owns old refl))

  -- the place of a further value
  listed : holds_list pool f ≡ true → count_held (held_by old t) ≡ length (items (view old f.number))
  listed is_list =
      let two = list_of_many pool f is_list in
      let held = list_before (Exclusive levels) pool f two.1 is_list (held_by old t) (stood levels old sound shape t owns) in
      ap (λ (o : Option (List Value)). elim o [ None ↦ 0 | Some vs ↦ length vs ]) held.1
      ∙ sym (ap (λ h. length (items h)) (under_target d sound.apart t owns old refl) ∙ counted pool f (held_by old t) held.0 held.1)

  placed : (b : Bool) → holds_list pool f ≡ b → (if b then place_of (count_held (held_by old t)) ∷ [] else []) ≡ place_in (target_field d t).label f.number (view old)
  placed true is_list =
      ap (λ n. place_of n ∷ []) (listed is_list)
      ∙ sym (ap (λ l. place_in l f.number (view old)) (target_label d t ∙ label_many pool f is_list))
  placed false no_list = sym (by (holds_map pool f) refl) where
    by : (b : Bool) → holds_map pool f ≡ b → place_in (target_field d t).label f.number (view old) ≡ []
    by true is_map = ap (λ l. place_in l f.number (view old)) (target_label d t ∙ label_keyed pool f is_map)
    by false no_map = ap (λ l. place_in l f.number (view old)) (target_label d t ∙ label_one pool f no_map no_list)

  pub place_seen : next_place t old ≡ place_in (target_field d t).label f.number (view old)
  place_seen =
      ap (λ p. if holds_list p f then place_of (count_held (held_by old t)) ∷ [] else []) (pool_is d sound.apart t owns)
      ∙ placed (holds_list pool f) refl
