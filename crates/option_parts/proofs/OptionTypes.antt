-- What is found of a type says whether options can be read by it.
use Rattle.std.proofs.Common.{◌≡◌, ◌⊎◌, inl, inr, ℕ, ◌≤◌, ◌+◌, ◌==◌, ◌&&◌, ◌||◌, is_some, Result, Ok, Err, Bool, true, false, List, ◌∷◌, Option, Some, None, refl, sym, ap, ◌∙◌, subst, map, nat_lt, arith}
use Rattle.std.specs.Bool.{Decides}
use Rattle.std.specs.Option.{IfSome, IfNone}
use Rattle.std.specs.Result.{IfOk}
use Rattle.std.specs.List.{list_any}
use Rattle.descriptor_records.specs.declared.message.DescriptorProto.{DescriptorProto}
use Rattle.descriptor_records.specs.declared.message.DescriptorProto.TheViews.{out-DescriptorProto}
use Rattle.reflect_tables.specs.Finding.{IsFirst}
use Rattle.reflect_tables.proofs.Firsts.{one_first}
use Rattle.reflect_tables.specs.Types.{PoolType, FieldType, MessageType, no_type, type_at}
use Rattle.reflect_pool.specs.Dots.{without_dot}
use Rattle.reflect_pool.specs.FindsNames.{FindsMessage}
use Rattle.reflect_pool.specs.declared.message.MessageDescriptor.{MessageDescriptor}
use Rattle.reflect_pool.specs.Records.{message_along}
use Rattle.reflect_link.specs.Lent.{IsMessageOf}
use Rattle.reflect_link.specs.Reserved.{extension_bounds}
use Rattle.reflect_message.specs.Known.{numbered_field}
use Rattle.option_parts.specs.OptionTypes.{HasField, HoldsBefore, KeepsExtensions, is_custom, type_name, IsNamedType, IsOptionType, IsThere, CanRead, ReadsOptions, TellsRequired, TellsType, scope_at}
use Rattle.option_parts.specs.declared.option_error.OptionErrorKind.{OptionErrorKind}
use Rattle.option_parts.specs.declared.option_scope.OptionScope.{OptionScope}
use Rattle.option_parts.specs.declared.option_scope.OptionScope.TheVariants as each

abbrev given : {X : Type 0} → X → Option X → X
given d None = d
given d (Some x) = x

-- what the field of the number is decides it
pub one_decides : (pool : PoolType) (m n : ℕ) (Is : FieldType → Type 0) (f : FieldType) (b : Bool) → numbered_field pool m n ≡ Some f → Decides b (Is f) → Decides b (HasField pool m n Is)
one_decides pool m n Is f b here d =
    (λ e. (f, here, d.0 e), λ h. d.1 (subst Is (ap (given f) (sym h.1 ∙ here)) h.2))

pub none_decides : (pool : PoolType) (m n : ℕ) (Is : FieldType → Type 0) → numbered_field pool m n ≡ None → Decides false (HasField pool m n Is)
none_decides pool m n Is here = (λ e. cc, λ h. absurd (cc (sym here ∙ h.1)))

-- a type has one record
one_record : (pool : PoolType) (m : ℕ) (r s : DescriptorProto) → IsMessageOf pool m r → IsMessageOf pool m s → r ≡ s
one_record pool m r s a b =
    let path = (type_at pool m).path in
    let files : a.0.of_file ≡ b.0.of_file = ap (given a.0.of_file) (sym a.0.there ∙ b.0.there) in
    let along : Some a.0.own ≡ Some b.0.own = sym a.0.at ∙ ap (λ f. message_along f path) files ∙ b.0.at in
    sym a.1 ∙ ap (given a.0.own) along ∙ b.1

-- its ranges decide it
pub ranges_decide : (pool : PoolType) (m : ℕ) (r : DescriptorProto) (ranges : List (ℕ × ℕ)) (b : Bool) → IsMessageOf pool m r → ranges ≡ map extension_bounds (out-DescriptorProto r).extension_range.items → list_any is_custom ranges ≡ b → Decides b (KeepsExtensions pool m)
ranges_decide pool m r ranges b own same here =
    let all = λ (x : DescriptorProto). list_any is_custom (map extension_bounds (out-DescriptorProto x).extension_range.items) in
    let told : all r ≡ b = ap (list_any is_custom) (sym same) ∙ here in
    (λ e. (r, own, told ∙ e), λ h. sym told ∙ ap all (one_record pool m r h.0 own h.1) ∙ h.2)

nothing : (b : Bool) → b && false ≡ false
nothing true = refl
nothing false = refl

-- a range that is not that of all numbers from 1000 on is passed over
pub other_passed : (start end : ℕ) (rest : List (ℕ × ℕ)) → (start ≡ 1000 × (end ≡ 536870912 → ⊥)) ⊎ (start ≡ 1000 → ⊥) → list_any is_custom ((start, end) ∷ rest) ≡ list_any is_custom rest
other_passed start end rest h = ap (λ b. b || list_any is_custom rest) (other h) where
  other : (start ≡ 1000 × (end ≡ 536870912 → ⊥)) ⊎ (start ≡ 1000 → ⊥) → is_custom (start, end) ≡ false
  other (inl h) = by (end == 536870912) refl where
    by : (b : Bool) → (end == 536870912) ≡ b → is_custom (start, end) ≡ false
    by true e = absurd (h.1 (grind (arith, e)))
    by false e = ap (λ b. (start == 1000) && b) e ∙ nothing (start == 1000)
  other (inr h) = by (start == 1000) refl where
    by : (b : Bool) → (start == 1000) ≡ b → is_custom (start, end) ≡ false
    by true e = absurd (h (grind (arith, e)))
    by false e = ap (λ b. b && (end == 536870912)) e

pub one_more : (P : OptionScope → Type 0) (n : ℕ) → HoldsBefore P n → P (scope_at n) → HoldsBefore P (n + 1)
one_more P n before here i lt = by (nat_lt i n) refl where
  by : (b : Bool) → nat_lt i n ≡ b → P (scope_at i)
  by true e = before i (grind (arith, e))
  by false e = subst (λ k. P (scope_at k)) (grind (arith, e, lt)) here

pub every_scope : (P : OptionScope → Type 0) (n : ℕ) → 9 ≤ n → HoldsBefore P n → (s : OptionScope) → P s
every_scope P n le all each.File = all 0 (omega (arith, le))
every_scope P n le all each.Message = all 1 (omega (arith, le))
every_scope P n le all each.Field = all 2 (omega (arith, le))
every_scope P n le all each.Oneof = all 3 (omega (arith, le))
every_scope P n le all each.Enum = all 4 (omega (arith, le))
every_scope P n le all each.EnumValue = all 5 (omega (arith, le))
every_scope P n le all each.Service = all 6 (omega (arith, le))
every_scope P n le all each.Method = all 7 (omega (arith, le))
every_scope P n le all each.ExtensionRange = all 8 (omega (arith, le))

-- the names have no dot before them
no_dot : (s : OptionScope) → without_dot (type_name s) ≡ type_name s
no_dot each.File = refl
no_dot each.Message = refl
no_dot each.Field = refl
no_dot each.Oneof = refl
no_dot each.Enum = refl
no_dot each.EnumValue = refl
no_dot each.Service = refl
no_dot each.Method = refl
no_dot each.ExtensionRange = refl

module _ (pool : PoolType) (s : OptionScope) (name : List ℕ) (is : name ≡ type_name s) where
  abbrev Named : Option ℕ → Type 0
  Named = IsFirst (λ m. m.full_name ≡ type_name s) pool.messages

  named : (r : Option ℕ) → IsFirst (λ m. m.full_name ≡ without_dot name) pool.messages r → Named r
  named r h = subst (λ n. IsFirst (λ m. m.full_name ≡ n) pool.messages r) (ap without_dot is ∙ no_dot s) h

  -- no type has the name
  module _ (none : IsFirst (λ m. m.full_name ≡ without_dot name) pool.messages None) where
    never : (m : ℕ) → IsNamedType pool s m → ⊥
    never m h = named None none m no_type h.0 (h.1.0 no_type)

    pub none_can_read : CanRead pool s
    none_can_read m h = absurd (never m h)

    pub none_there : IsThere pool s → ⊥
    none_there t = never t.0 t.1

  -- this type has it
  module _ (i : ℕ) (first : IsFirst (λ m. m.full_name ≡ without_dot name) pool.messages (Some i)) where
    pub one_can_read : IsOptionType pool s i → CanRead pool s
    one_can_read good m h = subst (IsOptionType pool s) (one_first (λ (t : MessageType). t.full_name ≡ type_name s) pool.messages no_type i m (named (Some i) first) h) good

    pub one_cannot : (IsOptionType pool s i → ⊥) → CanRead pool s → ⊥
    one_cannot bad all = bad (all i (named (Some i) first))

    one_named : IsNamedType pool s i
    one_named = named (Some i) first

there_reads : (pool : PoolType) (s : OptionScope) → IsThere pool s → CanRead pool s → ReadsOptions pool s
there_reads pool s t all = (t.0, t.1, all t.0 t.1)

-- one that is found is there
pub there : (pool : PoolType) (s : OptionScope) (name : List ℕ) (found : Option MessageDescriptor) → name ≡ type_name s → FindsMessage pool name found → is_some found ≡ true → IsThere pool s
there pool s name None is h e = absurd (cc e)
there pool s name (Some d) is h e = (d.index, one_named pool s name is d.index h)

pub fails : {P : Type 0} (b : Bool) → Decides b P → b ≡ false → P → ⊥
fails true d f p = cc f
fails false d f p = cc (d.1 p)

-- where all are there, what is said of each that is there is said of all
module _ {E : Type 0} (pool : PoolType) (r : Result (Option OptionErrorKind) E) where
  pub all_good : ((s : OptionScope) → IsThere pool s) → IfOk r (λ fault. IfNone fault ((s : OptionScope) → CanRead pool s)) → IfOk r (λ fault. IfNone fault ((s : OptionScope) → ReadsOptions pool s))
  all_good all = by r where
    by : (r : Result (Option OptionErrorKind) E) → IfOk r (λ fault. IfNone fault ((s : OptionScope) → CanRead pool s)) → IfOk r (λ fault. IfNone fault ((s : OptionScope) → ReadsOptions pool s))
    by (Ok None) h = λ s. there_reads pool s (all s) (h s)
    by (Ok (Some kind)) h = tt
    by (Err e) h = tt

  pub one_told : ((s : OptionScope) → IsThere pool s) → IfOk r (λ fault. IfSome fault (TellsType (CanRead pool))) → IfOk r (λ fault. IfSome fault (TellsRequired pool))
  one_told all = by r where
    by : (r : Result (Option OptionErrorKind) E) → IfOk r (λ fault. IfSome fault (TellsType (CanRead pool))) → IfOk r (λ fault. IfSome fault (TellsRequired pool))
    by (Ok None) h = tt
    by (Ok (Some kind)) h = inr (all, h)
    by (Err e) h = tt
