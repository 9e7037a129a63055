-- What putting one value into a message does, where it is refused, and where it is not.
use Rattle.std.proofs.Common.{◌≡◌, ◌⊎◌, inl, inr, ℕ, ◌||◌, ◌&&◌, Bool, true, false, true≢false, cond, Option, Some, None, refl, sym, ap, ◌∙◌}
use Rattle.std.specs.List.{list_any}
use Rattle.protobuf_model.specs.Bytes.{field_numbers}
use Rattle.protobuf_model.specs.Types.{Field, oneof_of, rival}
use Rattle.protobuf_model.specs.Values.{Content}
use Rattle.reflect_pool.specs.FieldsLeft.{field_type}
use Rattle.reflect_pool.specs.Shapes.{holds_list, holds_map}
use Rattle.reflect_pool.specs.declared.message.MessageDescriptor.{MessageDescriptor}
use Rattle.reflect_scalar.specs.FieldTypes.{extension_type}
use Rattle.reflect_message.specs.Oneofs.{IsExclusive}
use Rattle.reflect_message.specs.Present.{is_held}
use Rattle.reflect_message.specs.Names.{DynamicMessage, Value}
use Rattle.reflect_format.specs.Filled.{HasRival, PutsOne}
use Rattle.reflect_format.specs.Steps as steps
use Rattle.reflect_format.specs.Steps.{Puts, held_by}
use Rattle.reflect_format.specs.Takes.{holds_many, target_pool, target_type}
use Rattle.reflect_format.specs.declared.target.Target.{Target}
use Rattle.reflect_format.specs.declared.target.Target.TheVariants as targets
use Rattle.text_model.specs.Value.{assign, has_rival, is_set, set_one, settled}
use Rattle.text_model.proofs.Rivals.{no_rival}
use Rattle.message_view.specs.Types.{field_at}
use Rattle.message_view.specs.Views.{content_view, view}
use Rattle.message_view.proofs.Accepting.{not_float}
use Rattle.message_view.proofs.Fields.{owned, extension_owned}
use Rattle.message_view.specs.Sound.{AreApart, IsSound}
use Rattle.text_view.specs.Holds.{HoldsKinds, IsHeldAs}
use Rattle.text_view.specs.Targets.{target_field}
use Rattle.text_view.specs.Values.{IsOne}
use Rattle.text_view.proofs.Apart.{extension_there, no_field_there}
use Rattle.text_view.proofs.Owned.{OwnsTarget, pool_is, target_whole, under_target}
use Rattle.text_view.proofs.Puts.{field_put, extension_put, one_part}
use Rattle.text_view.proofs.Rivals.{alone_seen, rival_seen}
use Rattle.text_view.proofs.Set.{one_held, set_same}

-- a target of one value is no list and no map
neither : (a b : Bool) → (a || b) ≡ false → (a ≡ false) × (b ≡ false)
neither false b e = (refl, e)
neither true b e = absurd (cc e)

pub one_of : (d : MessageDescriptor) → AreApart d.pool.now → (t : Target) → OwnsTarget d t → holds_many t ≡ false
    → (holds_map d.pool.now (target_type t) ≡ false) × (holds_list d.pool.now (target_type t) ≡ false)
one_of d apart t owns one =
    let none = neither (holds_list (target_pool t) (target_type t)) (holds_map (target_pool t) (target_type t)) one in
    let pool = pool_is d apart t owns in
    (ap (λ p. holds_map p (target_type t)) (sym pool) ∙ none.1, ap (λ p. holds_list p (target_type t)) (sym pool) ∙ none.0)

pub held_kind : (m : DynamicMessage) → AreApart m.descriptor.pool.now → HoldsKinds m → (t : Target) → OwnsTarget m.descriptor t → IsHeldAs m.descriptor.pool.now (target_type t) (held_by m t)
held_kind m apart kinds (targets.Field f) owns = kinds.fields (field_type f).number (field_type f) (owned m.descriptor f owns)
held_kind m apart kinds (targets.Extension x) owns = kinds.extensions (extension_type x).number (extension_type x) (extension_owned m.descriptor x owns)

-- what is put is assigned, by the place of the type
pub put_assigned : (old new : DynamicMessage) → AreApart old.descriptor.pool.now → (t : Target) → OwnsTarget old.descriptor t → holds_map old.descriptor.pool.now (target_type t) ≡ false → (v : Value) → IsOne v → IsExclusive old
    → new.descriptor ≡ old.descriptor → Puts t v old new
    → view new ≡ assign (field_at old.descriptor.pool.now old.descriptor.index) (target_type t).number (settled (target_field old.descriptor t).part (content_view v)) (view old)
put_assigned old new apart (targets.Field f) owns no_map v one exclusive same puts =
    let d = old.descriptor in
    field_put old new same f v owns exclusive puts one (field_at d.pool.now d.index) (λ n. refl)
    ∙ ap (λ p. assign (field_at d.pool.now d.index) (field_type f).number (settled p (content_view v)) (view old)) (sym (one_part d.pool.now (field_type f) no_map))
put_assigned old new apart (targets.Extension x) owns no_map v one exclusive same puts =
    let d = old.descriptor in
    extension_put old new x v owns puts one (field_at d.pool.now d.index) (ap oneof_of (extension_there d apart x owns)) (no_field_there d apart x owns)
    ∙ ap (λ p. assign (field_at d.pool.now d.index) (extension_type x).number (settled p (content_view v)) (view old)) (sym (one_part d.pool.now (extension_type x) no_map))

module _ (m : DynamicMessage) (sound : IsSound m.descriptor.pool.now) (kinds : HoldsKinds m) (t : Target) (owns : OwnsTarget m.descriptor t) (one : holds_many t ≡ false) where
  abbrev type : ℕ → Option Field
  type = field_at m.descriptor.pool.now m.descriptor.index

  abbrev n : ℕ
  n = (target_type t).number

  none : (holds_map m.descriptor.pool.now (target_type t) ≡ false) × (holds_list m.descriptor.pool.now (target_type t) ≡ false)
  none = one_of m.descriptor sound.apart t owns one

  -- whether the target is set is seen
  target_set : steps.is_set m t ≡ is_set (view m n)
  target_set =
      let pool = m.descriptor.pool.now in
      ap (λ p. is_held p (target_type t) (held_by m t)) (pool_is m.descriptor sound.apart t owns)
      ∙ set_same pool (target_type t) (not_float pool (target_type t) (target_whole m.descriptor sound.apart t owns)) (held_by m t)
      (one_held pool (target_type t) none.0 none.1 (held_by m t) (held_kind m sound.apart kinds t owns))
      ∙ sym (ap is_set (under_target m.descriptor sound.apart t owns m refl))

  -- what is set, or has a rival that is, takes no value
  pub refused : (steps.is_set m t ≡ true) ⊎ HasRival t m → (c : Content) → set_one type n (target_field m.descriptor t).part (view m) c ≡ None
  refused h c = ap (λ b. cond b None (Some (assign type n (settled (target_field m.descriptor t).part c) (view m)))) (by h) where
    of_rival : (u : Target) → OwnsTarget m.descriptor u → HasRival u m → (is_set (view m (target_type u).number) || has_rival type (target_type u).number (view m)) ≡ true
    of_rival (targets.Field f) own (o, shares, holds) = rival_seen m sound kinds f own (o, shares, holds)
    of_rival (targets.Extension x) own (o, shares, holds) = absurd shares

    by : (steps.is_set m t ≡ true) ⊎ HasRival t m → (is_set (view m n) || has_rival type n (view m)) ≡ true
    by (inl e) = ap (λ b. b || has_rival type n (view m)) (sym target_set ∙ e)
    by (inr h) = of_rival t owns h

-- what is put where nothing is set is set
pub put_once : (old new : DynamicMessage) → IsSound old.descriptor.pool.now → IsExclusive old → HoldsKinds old → (t : Target) → OwnsTarget old.descriptor t → (v : Value) → IsOne v
    → new.descriptor ≡ old.descriptor → PutsOne t v old new
    → set_one (field_at old.descriptor.pool.now old.descriptor.index) (target_type t).number (target_field old.descriptor t).part (view old) (content_view v) ≡ Some (view new)
put_once old new sound exclusive kinds t owns v one same puts =
    let type = field_at old.descriptor.pool.now old.descriptor.index in
    let n = (target_type t).number in
    let set = assign type n (settled (target_field old.descriptor t).part (content_view v)) (view old) in
    ap (λ b. cond (b || has_rival type n (view old)) None (Some set)) (sym (target_set old sound kinds t owns puts.one) ∙ puts.unset)
    ∙ ap (λ b. cond b None (Some set)) (by t owns puts)
    ∙ ap Some (sym (put_assigned old new sound.apart t owns (one_of old.descriptor sound.apart t owns puts.one).0 v one exclusive same puts.put)) where
      by : (u : Target) → OwnsTarget old.descriptor u → PutsOne u v old new → has_rival (field_at old.descriptor.pool.now old.descriptor.index) (target_type u).number (view old) ≡ false
      by (targets.Field f) own p = no_rival (field_at old.descriptor.pool.now old.descriptor.index) (field_type f).number (view old) (λ q r. alone_seen old sound kinds f own p.alone q r)
      by (targets.Extension x) own p =
          ap (λ o. elim o [ None ↦ false | Some k ↦ list_any (λ q. rival (field_at old.descriptor.pool.now old.descriptor.index) (extension_type x).number q && is_set (view old q)) field_numbers ])
          (ap oneof_of (extension_there old.descriptor sound.apart x own))

pub put_here : (t : Target) (v : Value) (old new : DynamicMessage) → Puts t v old new → held_by new t ≡ Some v
put_here (targets.Field f) v old new puts = puts.here
put_here (targets.Extension x) v old new puts = puts.extension.here

pub second : (a b : Bool) → (a || b) ≡ true → b ≡ false → a ≡ true
second true b e f = refl
second false b e f = absurd (true≢false (sym e ∙ f))
