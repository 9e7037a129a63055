-- Fields that a pool tells to hold floating-point numbers do.
use Rattle.std.proofs.Common.{◌≡◌, ◌⊎◌, inl, inr, ◌==◌, ◌&&◌, Bool, true, false, true≢false, Option, Some, None, refl, sym, ap, ◌∙◌}
use Rattle.std.proofs.lemmas.Bool.{and_parts}
use Rattle.reflect_tables.specs.Types.{PoolType, FieldType, KindType, type_at, type_of_field, no_field}
use Rattle.reflect_tables.specs.Types as types
use Rattle.reflect_pool.specs.Shapes.{holds_map}
use Rattle.reflect_scalar.specs.Floats.{HasFloats, HoldsFloats}
use Rattle.reflect_scalar.proofs.First.{find_place}
use Rattle.reflect_message.specs.Known.{is_float, numbered_field, has_floats, holds_floats, if_held}
use Rattle.reflect_message.proofs.Known.{either, floats_held, kept, dropped, kind_float, numbered}

told_floats : (pool : PoolType) (k : KindType) → has_floats pool k ≡ true → HasFloats pool k
told_floats pool (types.message i) e = by (numbered_field pool i 2) refl e where
  by : (o : Option FieldType) → numbered_field pool i 2 ≡ o → elim o [ None ↦ false | Some v ↦ is_float v.kind ] ≡ true → HasFloats pool (types.message i)
  by None is f = absurd (cc f)
  by (Some v) is f =
      let place = find_place (λ (g : FieldType). g.number ≡ 2) (λ g. g.number == 2) (numbered 2) (type_at pool i).fields v is in
      let same : Some v ≡ Some (type_of_field pool i place.0) = sym is ∙ place.2 no_field in
      (place.0, place.1, kind_float (type_of_field pool i place.0).kind (sym (ap (λ o. elim o [ None ↦ false | Some v ↦ is_float v.kind ]) same) ∙ f))
told_floats pool k e = absurd (cc e)

held_floats : (pool : PoolType) (f : FieldType) → holds_floats pool f ≡ true → HoldsFloats pool f
held_floats pool f e = by (either (is_float f.kind) (holds_map pool f && has_floats pool f.kind) e) where
  by : (is_float f.kind ≡ true) ⊎ (holds_map pool f && has_floats pool f.kind ≡ true) → HoldsFloats pool f
  by (inl h) = inl (kind_float f.kind h)
  by (inr h) = let two = and_parts (holds_map pool f) (has_floats pool f.kind) h in inr (two.0, told_floats pool f.kind two.1)

abbrev pub WholeOrFloat : PoolType → FieldType → Type 0
WholeOrFloat pool f =
    ((HoldsFloats pool f → ⊥) × (if_held pool f ≡ Some f)) ⊎ (HoldsFloats pool f × (if_held pool f ≡ None))

-- messages hold a field exactly where it holds no floating-point numbers
pub whole_or_float : (pool : PoolType) (f : FieldType) → WholeOrFloat pool f
whole_or_float pool f = by (holds_floats pool f) refl where
  by : (b : Bool) → holds_floats pool f ≡ b → WholeOrFloat pool f
  by true is = let h = held_floats pool f is in inr (h, dropped pool f h)
  by false is = let h : HoldsFloats pool f → ⊥ = λ h. true≢false (sym (floats_held pool f h) ∙ is) in inl (h, kept pool f h)
