-- Values that suit kinds and fields, one by one.
use Rattle.std.proofs.Common.{◌≡◌, ℕ, ◌+◌, ◌<◌, ◌&&◌, Bool, true, false, List, [], ◌∷◌, length, map, take, get_or, Option, None, Some, refl, sym, ap, ◌∙◌, string_bytes}
use Rattle.std.proofs.lemmas.List.Folds.{list_all-map, list_all_at, list_all_more}
use Rattle.std.specs.List.{list_all}
use Rattle.reflect_tables.specs.Types.{PoolType, FieldType, KindType}
use Rattle.reflect_pool.specs.Kinds.{IsKind}
use Rattle.reflect_pool.specs.declared.kind.Kind.{Kind}
use Rattle.reflect_pool.specs.declared.kind.Kind.TheVariants as kinds
use Rattle.reflect_scalar.proofs.Defaulted.{kind_is}
use Rattle.reflect_scalar.specs.Kinds.{kind_type, suits}
use Rattle.reflect_scalar.specs.Singles.{Single, truth, int32, int64, uint32, uint64, text, blob, enumerated}
use Rattle.reflect_scalar.specs.declared.map_key.MapKey.{MapKey}
use Rattle.reflect_message.specs.Known.{entry_field}
use Rattle.reflect_message.specs.Singles.{single}
use Rattle.reflect_message.specs.Names.{DynamicMessage, Held, Parts, Value}
use Rattle.reflect_message.specs.declared.parts.HeldOf.TheFolds.{map-ValueOf, fold-HeldOf, fold-ValueOf, fold-MessageOf, fold-PartsOf, fold_out-ValueOf}
use Rattle.reflect_message.specs.declared.parts.HeldOf.TheOpen.{ValueOf-F}
use Rattle.reflect_message.specs.declared.parts.HeldOf.TheViews.{out-ValueOf}
use Rattle.reflect_numbered.specs.Fits.{Fit, all_fit, entries_fit, entry_fits, fit_of, held_step, is_one, message_step, parts_step, under_fits, value_step}
use Rattle.reflect_numbered.specs.declared.validity.Strictness.{Strictness}
use Rattle.reflect_pool.specs.declared.message.MessageDescriptor.{MessageDescriptor}

suits_is : (kind : Kind) (v : Single) → suits kind v ≡ is_one (kind_type kind) v
suits_is kinds.Int32 (int32 z) = refl
suits_is kinds.Int64 (int64 z) = refl
suits_is kinds.Uint32 (uint32 n) = refl
suits_is kinds.Uint64 (uint64 n) = refl
suits_is kinds.Sint32 (int32 z) = refl
suits_is kinds.Sint64 (int64 z) = refl
suits_is kinds.Fixed32 (uint32 n) = refl
suits_is kinds.Fixed64 (uint64 n) = refl
suits_is kinds.Sfixed32 (int32 z) = refl
suits_is kinds.Sfixed64 (int64 z) = refl
suits_is kinds.Bool (truth b) = refl
suits_is kinds.String (text t) = refl
suits_is kinds.Bytes (blob b) = refl
suits_is (kinds.Enum e) (enumerated z) = refl
suits_is kind v = refl

-- a single value suits a kind of the code exactly where it is one of the pool's kind
pub suits_one : (pool : PoolType) (kind : Kind) (k : KindType) (v : Single) → IsKind pool kind k → suits kind v ≡ is_one k v
suits_one pool kind k v is = suits_is kind v ∙ ap (λ k. is_one k v) (sym (kind_is pool kind k is))

module _ (how : Strictness) (pool : PoolType) (k : KindType) where
  -- a value that is a single one suits as that does
  pub one_single : (v : Value) (s : Single) → single v ≡ Some s → (fit_of v).one how pool k ≡ is_one k s
  one_single v s h = ap (λ w. w.one how pool k) (fold_out-ValueOf MessageDescriptor (Strictness → PoolType → ℕ → Bool) Fit (Strictness → PoolType → KindType → Bool) (Strictness → PoolType → ℕ → Bool) held_step value_step message_step parts_step v) ∙ by (out-ValueOf MessageDescriptor v) h where
    by : (o : ValueOf-F MessageDescriptor Held Value DynamicMessage Parts)
        → ◌≡◌ {A = Option Single} (elim o [
          | ValueOf-F.Bool b ↦ Some (truth b)
          | ValueOf-F.I32 z ↦ Some (int32 z)
          | ValueOf-F.I64 z ↦ Some (int64 z)
          | ValueOf-F.U32 n ↦ Some (uint32 n)
          | ValueOf-F.U64 n ↦ Some (uint64 n)
          | ValueOf-F.String t ↦ Some (text (string_bytes t))
          | ValueOf-F.Bytes b ↦ Some (blob b.items)
          | ValueOf-F.EnumNumber z ↦ Some (enumerated z)
          | ValueOf-F.Message m ↦ None
          | ValueOf-F.List vs ↦ None
          | ValueOf-F.Map es ↦ None
        ]) (Some s)
        → (value_step (map-ValueOf MessageDescriptor Held Value DynamicMessage Parts (Strictness → PoolType → ℕ → Bool) Fit (Strictness → PoolType → KindType → Bool) (Strictness → PoolType → ℕ → Bool)
        (fold-HeldOf MessageDescriptor (Strictness → PoolType → ℕ → Bool) Fit (Strictness → PoolType → KindType → Bool) (Strictness → PoolType → ℕ → Bool) held_step value_step message_step parts_step)
        (fold-ValueOf MessageDescriptor (Strictness → PoolType → ℕ → Bool) Fit (Strictness → PoolType → KindType → Bool) (Strictness → PoolType → ℕ → Bool) held_step value_step message_step parts_step)
        (fold-MessageOf MessageDescriptor (Strictness → PoolType → ℕ → Bool) Fit (Strictness → PoolType → KindType → Bool) (Strictness → PoolType → ℕ → Bool) held_step value_step message_step parts_step)
        (fold-PartsOf MessageDescriptor (Strictness → PoolType → ℕ → Bool) Fit (Strictness → PoolType → KindType → Bool) (Strictness → PoolType → ℕ → Bool) held_step value_step message_step parts_step) o)).one how pool k
        ≡ is_one k s
    by (ValueOf-F.Bool b) e = ap (λ o. elim o [ None ↦ false | Some x ↦ is_one k x ]) e
    by (ValueOf-F.I32 z) e = ap (λ o. elim o [ None ↦ false | Some x ↦ is_one k x ]) e
    by (ValueOf-F.I64 z) e = ap (λ o. elim o [ None ↦ false | Some x ↦ is_one k x ]) e
    by (ValueOf-F.U32 n) e = ap (λ o. elim o [ None ↦ false | Some x ↦ is_one k x ]) e
    by (ValueOf-F.U64 n) e = ap (λ o. elim o [ None ↦ false | Some x ↦ is_one k x ]) e
    by (ValueOf-F.String t) e = ap (λ o. elim o [ None ↦ false | Some x ↦ is_one k x ]) e
    by (ValueOf-F.Bytes b) e = ap (λ o. elim o [ None ↦ false | Some x ↦ is_one k x ]) e
    by (ValueOf-F.EnumNumber z) e = ap (λ o. elim o [ None ↦ false | Some x ↦ is_one k x ]) e
    by (ValueOf-F.Message m) e = absurd (cc e)
    by (ValueOf-F.List vs) e = absurd (cc e)
    by (ValueOf-F.Map es) e = absurd (cc e)

  -- a value of a list that does not suit, one more that does, and all of them
  pub one_bad : (vs : List Value) (i : ℕ) (v : Value) (r : Bool) → i < length vs → v ≡ get_or vs i v → r ≡ (fit_of v).one how pool k → r ≡ false → false ≡ all_fit how pool k (map fit_of vs)
  one_bad vs i v r lt is told bad = sym (list_all-map (λ (w : Fit). w.one how pool k) fit_of vs ∙ list_all_at (λ v. (fit_of v).one how pool k) vs i v lt (ap (λ v. (fit_of v).one how pool k) (sym is) ∙ sym told ∙ bad))

  pub one_more : (vs : List Value) (i : ℕ) (v : Value) (r : Bool) → i < length vs → v ≡ get_or vs i v → r ≡ (fit_of v).one how pool k → r ≡ true → list_all (λ v. (fit_of v).one how pool k) (take i vs) ≡ true → list_all (λ v. (fit_of v).one how pool k) (take (i + 1) vs) ≡ true
  one_more vs i v r lt is told good before = list_all_more (λ v. (fit_of v).one how pool k) vs i v lt ∙ ap (λ b. b && (fit_of (get_or vs i v)).one how pool k) before ∙ ap (λ v. (fit_of v).one how pool k) (sym is) ∙ sym told ∙ good

  pub all_good : (vs front : List Value) → front ≡ vs → list_all (λ v. (fit_of v).one how pool k) front ≡ true → true ≡ all_fit how pool k (map fit_of vs)
  all_good vs front is h = sym (list_all-map (λ (w : Fit). w.one how pool k) fit_of vs ∙ ap (list_all (λ v. (fit_of v).one how pool k)) (sym is) ∙ h)

  -- the entries of a map whose keys and values have these types
  pub entries_known : (keys values : FieldType) (es : List (MapKey × Fit)) → entry_field pool k 1 ≡ Some keys → entry_field pool k 2 ≡ Some values → entries_fit how pool k es ≡ list_all (entry_fits how pool keys.kind values.kind) es
  entries_known keys values es a b =
      ap (λ o. elim o [ None ↦ false | Some keys ↦ elim (entry_field pool k 2) [ None ↦ false | Some values ↦ list_all (entry_fits how pool keys.kind values.kind) es ] ]) a
      ∙ ap (λ o. elim o [ None ↦ false | Some values ↦ list_all (entry_fits how pool keys.kind values.kind) es ]) b

-- the next of what is left suits, or does not, or nothing is left
module _ {A B : Type 0} (g : A → B) (p : B → Bool) where
  pub next_good : (left rest : List A) (x : A) (all : Bool) → left ≡ x ∷ rest → list_all p (map g left) ≡ all → p (g x) ≡ true → list_all p (map g rest) ≡ all
  next_good left rest x all e h good = sym (ap (λ b. b && list_all p (map g rest)) good) ∙ sym (ap (λ l. list_all p (map g l)) e) ∙ h

  pub next_bad : (left rest : List A) (x : A) (all : Bool) → left ≡ x ∷ rest → list_all p (map g left) ≡ all → p (g x) ≡ false → false ≡ all
  next_bad left rest x all e h bad = sym (ap (λ b. b && list_all p (map g rest)) bad) ∙ sym (ap (λ l. list_all p (map g l)) e) ∙ h

  pub none_left : (left : List A) (all : Bool) → left ≡ [] → list_all p (map g left) ≡ all → true ≡ all
  none_left left all e h = sym (ap (λ l. list_all p (map g l)) e) ∙ h

-- what stands under a number, of a field that is known or not
module _ (how : Strictness) (pool : PoolType) (w : Fit) where
  pub known_fits : (o known : Option FieldType) (p : PoolType) (f : FieldType) (r : Bool) → o ≡ known → o ≡ Some f → p ≡ pool → r ≡ w.whole how p f → under_fits how pool known w ≡ r
  known_fits o known p f r e is same told = ap (λ k. under_fits how pool k w) (sym e ∙ is) ∙ ap (λ p. w.whole how p f) (sym same) ∙ sym told

  pub unknown_fits : (o known : Option FieldType) → o ≡ known → o ≡ None → under_fits how pool known w ≡ false
  unknown_fits o known e is = ap (λ k. under_fits how pool k w) (sym e ∙ is)
