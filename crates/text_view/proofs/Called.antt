-- The fields and extensions that a text names are those of the names of a pool's types.
use Rattle.std.proofs.Common.{◌≡◌, inl, inr, ℕ, ◌<◌, suc, zero, [], ◌∷◌, ◌==◌, ◌&&◌, Bool, true, false, true≢false, cond, List, map, Option, Some, None, unwrap_or, refl, sym, ap, ◌∙◌, subst, arith}
use Rattle.std.proofs.lemmas.Bool.{and_parts}
use Rattle.std.proofs.lemmas.Slice.Eq.{bytes_eq-Decides}
use Rattle.std.specs.Prelude.{slice_index_or, length}
use Rattle.std.specs.Char.{to_ascii_lowercase}
use Rattle.std.specs.List.{find}
use Rattle.std.specs.Option.{option_and_then}
use Rattle.std.specs.Str.{bytes_eq}
use Rattle.protox_lex.specs.Class.{Text}
use Rattle.reflect_tables.specs.Finding.{IsFirst}
use Rattle.reflect_tables.specs.Types.{PoolType, FieldType, ExtensionType, KindType, type_at, type_of_field, no_field, no_extension, extension_at}
use Rattle.reflect_tables.specs.Types as types
use Rattle.reflect_pool.specs.FieldsLeft.{field_type}
use Rattle.reflect_pool.specs.Finds.{FindsField}
use Rattle.reflect_pool.specs.declared.extension.ExtensionDescriptor.{ExtensionDescriptor}
use Rattle.reflect_pool.specs.declared.field.FieldDescriptor.{FieldDescriptor}
use Rattle.reflect_pool.specs.declared.message.MessageDescriptor.{MessageDescriptor}
use Rattle.reflect_scalar.specs.FieldTypes.{field_pool, extension_pool, extension_type}
use Rattle.reflect_scalar.specs.Floats.{HoldsFloats}
use Rattle.reflect_scalar.proofs.First.{Tells, find_none, find_some, find_place}
use Rattle.reflect_message.specs.Known.{if_held}
use Rattle.reflect_message.proofs.Known.{kept, dropped}
use Rattle.reflect_format.specs.Lacks.{FindsPlain, IsGroupCalled, LacksField, LacksGroup}
use Rattle.reflect_format.specs.Named.{FindsGroup, FindsExtension, NamesField, NoFieldNamed, NamesExtension, NoExtensionNamed}
use Rattle.reflect_format.specs.Takes.{target_type}
use Rattle.reflect_format.specs.declared.target.Target.{Target}
use Rattle.reflect_format.specs.declared.target.Target.TheVariants as targets
use Rattle.text_view.proofs.Floats.{WholeOrFloat, whole_or_float}
use Rattle.text_view.specs.Names.{first_called, if_plain, is_type_called, if_group_called, held_or, field_called, extension_called}

pub called : (w : Text) → Tells (λ (f : FieldType). f.name ≡ w) (λ f. bytes_eq f.name w)
called w = record {
  says = λ f e. (bytes_eq-Decides f.name w).0 e;
  passes = λ f e. (bytes_eq-Decides f.name w).1 e;
}

-- where nothing is found no element has it
module _ {X : Type 0} (P : X → Type 0) (test : X → Bool) (t : Tells P test) where
  none_first : (xs : List X) → find test xs ≡ None → IsFirst P xs None
  none_first [] e = λ k d lt h. absurd (omega (arith, lt))
  none_first (x ∷ xs) e = by (test x) refl (none_first xs) where
    by : (b : Bool) → test x ≡ b → (find test xs ≡ None → IsFirst P xs None) → IsFirst P (x ∷ xs) None
    by true f more = absurd (cc (sym (ap (λ b. cond b (Some x) (find test xs)) f) ∙ e))
    by false f more = λ k d lt h. at f (more (sym (ap (λ b. cond b (Some x) (find test xs)) f) ∙ e)) k d lt h where
      at : test x ≡ false → IsFirst P xs None → (k : ℕ) (d : X) → k < suc (length xs) → P (slice_index_or (x ∷ xs) k d) → ⊥
      at f rest zero d lt h = true≢false (sym (t.passes x h) ∙ f)
      at f rest (suc k) d lt h = rest k d (omega (arith, lt)) h

-- a kind that is a message type of the name
type_called : (pool : PoolType) (w : Text) (k : KindType) (i : ℕ) → k ≡ types.message i → (type_at pool i).name ≡ w → is_type_called pool w k ≡ true
type_called pool w k i is e = ap (is_type_called pool w) is ∙ (bytes_eq-Decides (type_at pool i).name w).1 e

called_type : (pool : PoolType) (w : Text) (k : KindType) → is_type_called pool w k ≡ true → (i : ℕ) × (k ≡ types.message i) × ((type_at pool i).name ≡ w)
called_type pool w (types.message i) e = (i, refl, (bytes_eq-Decides (type_at pool i).name w).0 e)
called_type pool w k e = absurd (cc e)

plain : (f : FieldType) → f.group ≡ false → if_plain f ≡ Some f
plain f e = ap (λ b. cond b None (Some f)) e

not_plain : (f : FieldType) → f.group ≡ true → if_plain f ≡ None
not_plain f e = ap (λ b. cond b None (Some f)) e

group : (pool : PoolType) (w : Text) (f : FieldType) → f.group && is_type_called pool w f.kind ≡ true → if_group_called pool w f ≡ Some f
group pool w f e = ap (λ b. cond b (Some f) None) e

no_group : (pool : PoolType) (w : Text) (f : FieldType) → f.group && is_type_called pool w f.kind ≡ false → if_group_called pool w f ≡ None
no_group pool w f e = ap (λ b. cond b (Some f) None) e

module _ (m : MessageDescriptor) (w : Text) where
  first_here : (v : Text) (f : FieldDescriptor) → f.message ≡ m → FindsField (λ g. g.name ≡ v) m (Some f) → first_called m.pool.now m.index v ≡ Some (field_type f)
  first_here v f is h =
      find_some (λ (g : FieldType). g.name ≡ v) (λ g. bytes_eq g.name v) (called v) (type_at m.pool.now m.index).fields no_field f.index h
      ∙ sym (ap (λ (d : MessageDescriptor). Some (type_of_field d.pool.now d.index f.index)) is)

  first_missing : (v : Text) → FindsField (λ g. g.name ≡ v) m None → first_called m.pool.now m.index v ≡ None
  first_missing v h = find_none (λ (g : FieldType). g.name ≡ v) (λ g. bytes_eq g.name v) (called v) (type_at m.pool.now m.index).fields h

  -- a first field is one of a descriptor
  first_is : (v : Text) (g : FieldType) → first_called m.pool.now m.index v ≡ Some g → (f : FieldDescriptor) × (f.message ≡ m) × FindsField (λ g. g.name ≡ v) m (Some f) × (field_type f ≡ g)
  first_is v g e =
      let place = find_place (λ (g : FieldType). g.name ≡ v) (λ g. bytes_eq g.name v) (called v) (type_at m.pool.now m.index).fields g e in
      (record { message = m; index = place.0; in_range = place.1.0 }, refl, place.1, ap (λ o. unwrap_or o g) (sym (place.2 no_field) ∙ e))

  first_none : (v : Text) → first_called m.pool.now m.index v ≡ None → FindsField (λ g. g.name ≡ v) m None
  first_none v e = none_first (λ (g : FieldType). g.name ≡ v) (λ g. bytes_eq g.name v) (called v) (type_at m.pool.now m.index).fields e

  abbrev plain_field : Option FieldType
  plain_field = option_and_then if_plain (first_called m.pool.now m.index w)

  abbrev group_field : Option FieldType
  group_field = option_and_then (if_group_called m.pool.now w) (first_called m.pool.now m.index (map to_ascii_lowercase w))

  plain_found : (f : FieldDescriptor) → FindsPlain m w f → plain_field ≡ Some (field_type f)
  plain_found f h = ap (option_and_then if_plain) (first_here w f h.0 h.1) ∙ plain (field_type f) h.2

  plain_lacks : LacksField m w → plain_field ≡ None
  plain_lacks (None, h, other) = ap (option_and_then if_plain) (first_missing w h)
  plain_lacks (Some f, h, other) = ap (option_and_then if_plain) (first_here w f other.0 h) ∙ not_plain (field_type f) other.1

  found_plain : (g : FieldType) → plain_field ≡ Some g → (f : FieldDescriptor) × FindsPlain m w f × (field_type f ≡ g)
  found_plain g e = by (first_called m.pool.now m.index w) refl e where
    by : (o : Option FieldType) → first_called m.pool.now m.index w ≡ o → option_and_then if_plain o ≡ Some g → (f : FieldDescriptor) × FindsPlain m w f × (field_type f ≡ g)
    by None is h = absurd (cc h)
    by (Some x) is h = with x.group refl where
      with : (b : Bool) → x.group ≡ b → (f : FieldDescriptor) × FindsPlain m w f × (field_type f ≡ g)
      with true in_tags = absurd (cc (sym (not_plain x in_tags) ∙ h))
      with false in_tags =
          let f = first_is w x is in
          (f.0, (f.1, f.2, ap (λ (t : FieldType). t.group) f.3 ∙ in_tags), f.3 ∙ ap (λ o. unwrap_or o x) (sym (plain x in_tags) ∙ h))

  lacks_plain : plain_field ≡ None → LacksField m w
  lacks_plain e = by (first_called m.pool.now m.index w) refl e where
    by : (o : Option FieldType) → first_called m.pool.now m.index w ≡ o → option_and_then if_plain o ≡ None → LacksField m w
    by None is h = (None, first_none w is, tt)
    by (Some x) is h = with x.group refl where
      with : (b : Bool) → x.group ≡ b → LacksField m w
      with false in_tags = absurd (cc (sym (plain x in_tags) ∙ h))
      with true in_tags =
          let f = first_is w x is in
          (Some f.0, f.2, (f.1, ap (λ (t : FieldType). t.group) f.3 ∙ in_tags))

  group_called : (f : FieldDescriptor) → f.message ≡ m → IsGroupCalled f w → (field_type f).group && is_type_called m.pool.now w (field_type f).kind ≡ true
  group_called f is h =
      ap (λ b. b && is_type_called m.pool.now w (field_type f).kind) h.0
      ∙ type_called m.pool.now w (field_type f).kind h.1 h.2 (ap (λ (d : MessageDescriptor). (type_at d.pool.now h.1).name) (sym is) ∙ h.3)

  called_group : (f : FieldDescriptor) → f.message ≡ m → (field_type f).group && is_type_called m.pool.now w (field_type f).kind ≡ true → IsGroupCalled f w
  called_group f is e =
      let two = and_parts (field_type f).group (is_type_called m.pool.now w (field_type f).kind) e in
      let type = called_type m.pool.now w (field_type f).kind two.1 in
      (two.0, type.0, type.1, ap (λ (d : MessageDescriptor). (type_at d.pool.now type.0).name) is ∙ type.2)

  group_found : (f : FieldDescriptor) → FindsGroup m w f → group_field ≡ Some (field_type f)
  group_found f h =
      ap (option_and_then (if_group_called m.pool.now w)) (first_here (map to_ascii_lowercase w) f h.0 h.2)
      ∙ group m.pool.now w (field_type f) (group_called f h.0 h.3)

  group_lacks : LacksGroup m w → group_field ≡ None
  group_lacks (None, h, other) = ap (option_and_then (if_group_called m.pool.now w)) (first_missing (map to_ascii_lowercase w) h)
  group_lacks (Some f, h, other) =
      ap (option_and_then (if_group_called m.pool.now w)) (first_here (map to_ascii_lowercase w) f other.0 h)
      ∙ no_group m.pool.now w (field_type f) (by ((field_type f).group && is_type_called m.pool.now w (field_type f).kind) refl) where
        by : (b : Bool) → (field_type f).group && is_type_called m.pool.now w (field_type f).kind ≡ b → b ≡ false
        by true e = absurd (other.1 (called_group f other.0 e))
        by false e = refl

  found_group : LacksField m w → (g : FieldType) → group_field ≡ Some g → (f : FieldDescriptor) × FindsGroup m w f × (field_type f ≡ g)
  found_group lacks g e = by (first_called m.pool.now m.index (map to_ascii_lowercase w)) refl e where
    by : (o : Option FieldType) → first_called m.pool.now m.index (map to_ascii_lowercase w) ≡ o → option_and_then (if_group_called m.pool.now w) o ≡ Some g → (f : FieldDescriptor) × FindsGroup m w f × (field_type f ≡ g)
    by None is h = absurd (cc h)
    by (Some x) is h = with (x.group && is_type_called m.pool.now w x.kind) refl where
      with : (b : Bool) → x.group && is_type_called m.pool.now w x.kind ≡ b → (f : FieldDescriptor) × FindsGroup m w f × (field_type f ≡ g)
      with false in_tags = absurd (cc (sym (no_group m.pool.now w x in_tags) ∙ h))
      with true in_tags =
          let f = first_is (map to_ascii_lowercase w) x is in
          (f.0, (f.1, lacks, f.2, called_group f.0 f.1 (ap (λ (t : FieldType). t.group && is_type_called m.pool.now w t.kind) f.3 ∙ in_tags)), f.3 ∙ ap (λ o. unwrap_or o x) (sym (group m.pool.now w x in_tags) ∙ h))

  lacks_group : group_field ≡ None → LacksGroup m w
  lacks_group e = by (first_called m.pool.now m.index (map to_ascii_lowercase w)) refl e where
    by : (o : Option FieldType) → first_called m.pool.now m.index (map to_ascii_lowercase w) ≡ o → option_and_then (if_group_called m.pool.now w) o ≡ None → LacksGroup m w
    by None is h = (None, first_none (map to_ascii_lowercase w) is, tt)
    by (Some x) is h =
        let f = first_is (map to_ascii_lowercase w) x is in
        (Some f.0, f.2, (f.1, λ also. cc (sym (group m.pool.now w x (ap (λ (t : FieldType). t.group && is_type_called m.pool.now w t.kind) (sym f.3) ∙ group_called f.0 f.1 also)) ∙ h)))

  in_pool : (f : FieldDescriptor) → f.message ≡ m → if_held m.pool.now (field_type f) ≡ if_held (field_pool f) (field_type f)
  in_pool f is = ap (λ (d : MessageDescriptor). if_held d.pool.now (field_type f)) (sym is)

  -- the field that a text names
  pub field_named : (t : Target) → NamesField m w t → field_called m.pool.now m.index w ≡ Some (target_type t)
  field_named (targets.Field f) (inl h) =
      ap (λ o. held_or m.pool.now o group_field) (plain_found f h.0) ∙ in_pool f h.0.0 ∙ kept (field_pool f) (field_type f) h.1
  field_named (targets.Field f) (inr h) =
      ap (λ o. held_or m.pool.now o group_field) (plain_lacks h.1) ∙ group_found f h
  field_named (targets.Extension x) h = absurd h

  pub no_field_named : NoFieldNamed m w → field_called m.pool.now m.index w ≡ None
  no_field_named (inl h) = ap (λ o. held_or m.pool.now o group_field) (plain_lacks h.0) ∙ group_lacks h.1
  no_field_named (inr h) =
      ap (λ o. held_or m.pool.now o group_field) (plain_found h.0 h.1) ∙ in_pool h.0 h.1.0 ∙ dropped (field_pool h.0) (field_type h.0) h.2

  -- a field that is called so is one that the text names
  pub named_field : (g : FieldType) → field_called m.pool.now m.index w ≡ Some g → (t : Target) × NamesField m w t × (target_type t ≡ g)
  named_field g e = by plain_field refl e where
    by : (o : Option FieldType) → plain_field ≡ o → held_or m.pool.now o group_field ≡ Some g → (t : Target) × NamesField m w t × (target_type t ≡ g)
    by None is h =
        let f = found_group (lacks_plain is) g h in
        (targets.Field f.0, inr f.1, f.2)
    by (Some x) is h = with (whole_or_float m.pool.now x) where
      with : WholeOrFloat m.pool.now x → (t : Target) × NamesField m w t × (target_type t ≡ g)
      with (inr f) = absurd (cc (sym f.1 ∙ h))
      with (inl whole) =
          let f = found_plain x is in
          (targets.Field f.0, inl (f.1, subst (λ (d : MessageDescriptor). HoldsFloats d.pool.now (field_type f.0) → ⊥) (sym f.1.0) (subst (λ t. HoldsFloats m.pool.now t → ⊥) (sym f.2) whole.0)), f.2 ∙ ap (λ o. unwrap_or o x) (sym whole.1 ∙ h))

  pub none_named : field_called m.pool.now m.index w ≡ None → NoFieldNamed m w
  none_named e = by plain_field refl e where
    by : (o : Option FieldType) → plain_field ≡ o → held_or m.pool.now o group_field ≡ None → NoFieldNamed m w
    by None is h = inl (lacks_plain is, lacks_group h)
    by (Some x) is h = with (whole_or_float m.pool.now x) where
      with : WholeOrFloat m.pool.now x → NoFieldNamed m w
      with (inl whole) = absurd (cc (sym whole.1 ∙ h))
      with (inr float) =
          let f = found_plain x is in
          inr (f.0, f.1, subst (λ (d : MessageDescriptor). HoldsFloats d.pool.now (field_type f.0)) (sym f.1.0) (subst (HoldsFloats m.pool.now) (sym f.2) float.0))

  -- ---- extensions

  named_so : Tells (λ (x : ExtensionType). (x.extendee ≡ m.index) × (x.field.full_name ≡ w)) (λ x. (x.extendee == m.index) && bytes_eq x.field.full_name w)
  named_so = record {
    says = λ x e. let two = and_parts (x.extendee == m.index) (bytes_eq x.field.full_name w) e in (grind (arith, two.0), (bytes_eq-Decides x.field.full_name w).0 two.1);
    passes = λ x h. let a : (x.extendee == m.index) ≡ true = grind (arith, h.0) in ap (λ b. b && bytes_eq x.field.full_name w) a ∙ (bytes_eq-Decides x.field.full_name w).1 h.1;
  }

  abbrev first_extension : Option ExtensionType
  first_extension = find (λ x. (x.extendee == m.index) && bytes_eq x.field.full_name w) m.pool.now.extensions

  abbrev held_extension : Option ExtensionType → Option FieldType
  held_extension o = option_and_then (λ (x : ExtensionType). if_held m.pool.now x.field) o

  there : (x : ExtensionDescriptor) → FindsExtension m w x → extension_called m.pool.now m.index w ≡ if_held (extension_pool x) (extension_type x)
  there x h =
      ap held_extension (find_some (λ (x : ExtensionType). (x.extendee ≡ m.index) × (x.field.full_name ≡ w)) (λ x. (x.extendee == m.index) && bytes_eq x.field.full_name w) named_so m.pool.now.extensions no_extension x.index h.1)
      ∙ ap (λ p. if_held p (extension_at p x.index).field) (sym h.0.0)

  pub extension_named : (t : Target) → NamesExtension m w t → extension_called m.pool.now m.index w ≡ Some (target_type t)
  extension_named (targets.Field f) h = absurd h
  extension_named (targets.Extension x) h = there x h.0 ∙ kept (extension_pool x) (extension_type x) h.1

  pub no_extension_named : NoExtensionNamed m w → extension_called m.pool.now m.index w ≡ None
  no_extension_named (inl h) = ap held_extension (find_none (λ (x : ExtensionType). (x.extendee ≡ m.index) × (x.field.full_name ≡ w)) (λ x. (x.extendee == m.index) && bytes_eq x.field.full_name w) named_so m.pool.now.extensions h)
  no_extension_named (inr h) = there h.0 h.1 ∙ dropped (extension_pool h.0) (extension_type h.0) h.2

  -- a first extension is one of a descriptor
  extension_is : (y : ExtensionType) → first_extension ≡ Some y → (x : ExtensionDescriptor) × FindsExtension m w x × (x.pool.now ≡ m.pool.now) × (extension_type x ≡ y.field)
  extension_is y e =
      let place = find_place (λ (x : ExtensionType). (x.extendee ≡ m.index) × (x.field.full_name ≡ w)) (λ x. (x.extendee == m.index) && bytes_eq x.field.full_name w) named_so m.pool.now.extensions y e in
      (record { pool = m.pool; index = place.0; in_range = place.1.0 }, ((refl, (place.1.1.0 no_extension).0), place.1), refl, ap (λ o. (unwrap_or o y).field) (sym (place.2 no_extension) ∙ e))

  pub named_extension : (g : FieldType) → extension_called m.pool.now m.index w ≡ Some g → (t : Target) × NamesExtension m w t × (target_type t ≡ g)
  named_extension g e = by first_extension refl e where
    by : (o : Option ExtensionType) → first_extension ≡ o → held_extension o ≡ Some g → (t : Target) × NamesExtension m w t × (target_type t ≡ g)
    by None is h = absurd (cc h)
    by (Some y) is h = with (whole_or_float m.pool.now y.field) where
      with : WholeOrFloat m.pool.now y.field → (t : Target) × NamesExtension m w t × (target_type t ≡ g)
      with (inr f) = absurd (cc (sym f.1 ∙ h))
      with (inl whole) =
          let x = extension_is y is in
          (targets.Extension x.0, (x.1, subst (λ p. HoldsFloats p (extension_type x.0) → ⊥) (sym x.2) (subst (λ t. HoldsFloats m.pool.now t → ⊥) (sym x.3) whole.0)), x.3 ∙ ap (λ o. unwrap_or o y.field) (sym whole.1 ∙ h))

  pub none_named_extension : extension_called m.pool.now m.index w ≡ None → NoExtensionNamed m w
  none_named_extension e = by first_extension refl e where
    by : (o : Option ExtensionType) → first_extension ≡ o → held_extension o ≡ None → NoExtensionNamed m w
    by None is h = inl (none_first (λ (x : ExtensionType). (x.extendee ≡ m.index) × (x.field.full_name ≡ w)) (λ x. (x.extendee == m.index) && bytes_eq x.field.full_name w) named_so m.pool.now.extensions is)
    by (Some y) is h = with (whole_or_float m.pool.now y.field) where
      with : WholeOrFloat m.pool.now y.field → NoExtensionNamed m w
      with (inl whole) = absurd (cc (sym whole.1 ∙ h))
      with (inr float) =
          let x = extension_is y is in
          inr (x.0, x.1, subst (λ p. HoldsFloats p (extension_type x.0)) (sym x.2) (subst (HoldsFloats m.pool.now) (sym x.3) float.0))
