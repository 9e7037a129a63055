-- Messages that hold values of the kinds of their fields still do, with a value more.
use Rattle.std.proofs.Common.{◌≡◌, ◌≢◌, ◌⊎◌, inl, inr, ℕ, ◌==◌, ◌||◌, Bool, true, false, true≢false, List, [], Option, Some, None, unwrap_or, is_some, refl, sym, ap, ◌∙◌, subst}
use Rattle.reflect_tables.specs.Types.{PoolType, FieldType}
use Rattle.reflect_entries.specs.Entries.{value_at}
use Rattle.reflect_pool.specs.FieldsLeft.{field_type}
use Rattle.reflect_pool.specs.Shapes.{holds_list, holds_map}
use Rattle.reflect_pool.specs.declared.field.FieldDescriptor.{FieldDescriptor}
use Rattle.reflect_pool.specs.declared.message.MessageDescriptor.{MessageDescriptor}
use Rattle.reflect_scalar.specs.FieldTypes.{extension_type}
use Rattle.reflect_scalar.specs.declared.map_key.MapKey.{MapKey}
use Rattle.reflect_message.specs.Contents.{content_of, nothing}
use Rattle.reflect_message.specs.Held.{fields_of, choices_of, extensions_of}
use Rattle.reflect_message.specs.Known.{known_field, known_extension}
use Rattle.reflect_message.specs.Lists.{items_held}
use Rattle.reflect_message.specs.Maps.{entries_held}
use Rattle.reflect_message.specs.Oneofs.{IsExclusive, IsSibling, AreChosen, Changes, sibling}
use Rattle.reflect_message.proofs.Choosing.{is_or_not, sibling_is, sibling_of}
use Rattle.reflect_message.specs.Names.{DynamicMessage, Value}
use Rattle.reflect_format.specs.Steps.{ChangesOnly, Frees, Puts, held_by}
use Rattle.reflect_format.specs.Takes.{holds_many, target_pool, target_type}
use Rattle.reflect_format.specs.declared.target.Target.{Target}
use Rattle.reflect_format.specs.declared.target.Target.TheVariants as targets
use Rattle.message_view.specs.Singles.{scalar_of}
use Rattle.message_view.specs.Types.{entry_part}
use Rattle.message_view.specs.Views.{held_either, held_under, view, view_of}
use Rattle.message_view.proofs.Fields.{owned, extension_owned}
use Rattle.message_view.proofs.Seen.{view_opened}
use mathlib.Core.Path.{fun_ext}
use Rattle.protobuf_model.specs.Values as model
use Rattle.text_view.specs.Holds.{AreHeldAs, HaveKeys, HoldsAs, HoldsKinds, IsHeldAs}
use Rattle.message_view.proofs.Written.{or_true}
use Rattle.text_view.proofs.Owned.{OwnsTarget}
use Rattle.text_view.proofs.Puts.{is_number, number_is}

-- under a number stands what stood there, or nothing
abbrev pub StaysOrGoes : List (ℕ × Value) → List (ℕ × Value) → ℕ → Type 0
StaysOrGoes old new n = (value_at new n ≡ value_at old n) ⊎ (value_at new n ≡ None)

-- under other numbers than the target's it does
abbrev pub LeavesOthers : Target → DynamicMessage → DynamicMessage → Type 0
LeavesOthers (targets.Field f) old new =
    ((n : ℕ) → n ≢ (field_type f).number → StaysOrGoes (fields_of old) (fields_of new) n) × (extensions_of new ≡ extensions_of old)
LeavesOthers (targets.Extension x) old new =
    ((n : ℕ) → n ≢ (extension_type x).number → StaysOrGoes (extensions_of old) (extensions_of new) n) × (fields_of new ≡ fields_of old)

-- lists and maps hold many values
pub many_list : (t : Target) → holds_list (target_pool t) (target_type t) ≡ true → holds_many t ≡ true
many_list t e = ap (λ b. b || holds_map (target_pool t) (target_type t)) e

pub many_map : (t : Target) → holds_map (target_pool t) (target_type t) ≡ true → holds_many t ≡ true
many_map t e = ap (λ b. holds_list (target_pool t) (target_type t) || b) e ∙ or_true (holds_list (target_pool t) (target_type t))

-- a field's values are changed, and other members of its oneof unset
pub added_changes : (f : FieldDescriptor) (old new : DynamicMessage) → ChangesOnly (targets.Field f) old new → Frees (targets.Field f) old new → Changes f (choices_of old) (fields_of old) (fields_of new)
added_changes f old new only frees = record { unset = frees; others = only.0 }

module _ (m : MessageDescriptor) (f : FieldDescriptor) (choices : List (ℕ × ℕ)) (before after : List (ℕ × Value)) (chosen : AreChosen m choices before) (changes : Changes f choices before after) where
  -- other members hold nothing, since the one that was noted is unset, and no other held anything
  pub gone : (q : ℕ) → IsSibling m f q → value_at after q ≡ None
  gone q s = by (is_or_not (sibling f choices) q) where
    unheld : sibling f choices ≢ Some q → (o : Option Value) → value_at before q ≡ o → value_at before q ≡ None
    unheld not None e = e
    unheld not (Some v) e =
        let noted = chosen.noted s.1 s.2 s.0 s.6 (ap is_some (ap (value_at before) s.3 ∙ e)) in
        absurd (not (sibling_of f choices q s.0 s.5 (noted ∙ ap Some s.3) s.4))

    by : (sibling f choices ≡ Some q) ⊎ (sibling f choices ≢ Some q) → value_at after q ≡ None
    by (inl is) = changes.unset q is
    by (inr not) = changes.others q s.4 not ∙ unheld not (value_at before q) refl

  -- under numbers that are not those of other members nothing changes
  pub others_stay : (q : ℕ) → q ≢ (field_type f).number → (IsSibling m f q → ⊥) → value_at after q ≡ value_at before q
  others_stay q other apart = changes.others q other kept where
    kept : sibling f choices ≢ Some q
    kept e =
        let is = sibling_is f choices q e in
        let member = chosen.member is.0 q is.2 in
        apart (is.0, member.0, member.1, member.2, other, is.1, member.3)

leaves_others : (f : FieldDescriptor) (choices : List (ℕ × ℕ)) (before after : List (ℕ × Value)) → Changes f choices before after → (n : ℕ) → n ≢ (field_type f).number → StaysOrGoes before after n
leaves_others f choices before after changes n other = by (is_or_not (sibling f choices) n) where
  by : (sibling f choices ≡ Some n) ⊎ (sibling f choices ≢ Some n) → StaysOrGoes before after n
  by (inl is) = inr (changes.unset n is)
  by (inr not) = inl (changes.others n other not)

pub put_leaves : (t : Target) (v : Value) (old new : DynamicMessage) → Puts t v old new → LeavesOthers t old new
put_leaves (targets.Field f) v old new puts = (leaves_others f (choices_of old) (fields_of old) (fields_of new) puts.changes, puts.extensions)
put_leaves (targets.Extension x) v old new puts = ((λ n other. inl (puts.extension.others n other)), puts.fields)

pub add_leaves : (t : Target) (old new : DynamicMessage) → ChangesOnly t old new → Frees t old new → LeavesOthers t old new
add_leaves (targets.Field f) old new only frees = (leaves_others f (choices_of old) (fields_of old) (fields_of new) (added_changes f old new only frees), only.1)
add_leaves (targets.Extension x) old new only frees = ((λ n other. inl (only.0 n other)), only.1)

left : (pool : PoolType) (f : FieldType) (old new : List (ℕ × Value)) (n : ℕ) → StaysOrGoes old new n → IsHeldAs pool f (value_at old n) → IsHeldAs pool f (value_at new n)
left pool f old new n (inl e) h = subst (IsHeldAs pool f) (sym e) h
left pool f old new n (inr e) h = subst (IsHeldAs pool f) (sym e) tt

-- so a message holds values of the kinds of its fields, if the target does
module _ (d : MessageDescriptor) where
  abbrev its_pool : PoolType
  its_pool = d.pool.now

  pub kinds_kept : (t : Target) (old new : DynamicMessage) → OwnsTarget d t → LeavesOthers t old new → IsHeldAs its_pool (target_type t) (held_by new t)
      → AreHeldAs its_pool d.index (fields_of old) (extensions_of old) → AreHeldAs its_pool d.index (fields_of new) (extensions_of new)
  kinds_kept (targets.Field f) old new owns leaves here kinds = record {
    fields = at;
    extensions = λ n g known. subst (λ es. IsHeldAs its_pool g (value_at es n)) (sym leaves.1) (kinds.extensions n g known);
  } where
    at : (n : ℕ) (g : FieldType) → known_field its_pool d.index n ≡ Some g → IsHeldAs its_pool g (value_at (fields_of new) n)
    at n g known = by (n == (field_type f).number) refl where
      by : (b : Bool) → (n == (field_type f).number) ≡ b → IsHeldAs its_pool g (value_at (fields_of new) n)
      by true is =
          let same = is_number n (field_type f).number is in
          let one : field_type f ≡ g = ap (λ o. unwrap_or o g) (sym (owned d f owns) ∙ ap (known_field its_pool d.index) (sym same) ∙ known) in
          subst (λ q. IsHeldAs its_pool g (value_at (fields_of new) q)) (sym same) (subst (λ h. IsHeldAs its_pool h (value_at (fields_of new) (field_type f).number)) one here)
      by false is = left its_pool g (fields_of old) (fields_of new) n (leaves.0 n (λ e. true≢false (sym (number_is n (field_type f).number e) ∙ is))) (kinds.fields n g known)
  kinds_kept (targets.Extension x) old new owns leaves here kinds = record {
    fields = λ n g known. subst (λ es. IsHeldAs its_pool g (value_at es n)) (sym leaves.1) (kinds.fields n g known);
    extensions = at;
  } where
    at : (n : ℕ) (g : FieldType) → known_extension its_pool d.index n ≡ Some g → IsHeldAs its_pool g (value_at (extensions_of new) n)
    at n g known = by (n == (extension_type x).number) refl where
      by : (b : Bool) → (n == (extension_type x).number) ≡ b → IsHeldAs its_pool g (value_at (extensions_of new) n)
      by true is =
          let same = is_number n (extension_type x).number is in
          let one : extension_type x ≡ g = ap (λ o. unwrap_or o g) (sym (extension_owned d x owns) ∙ ap (known_extension its_pool d.index) (sym same) ∙ known) in
          subst (λ q. IsHeldAs its_pool g (value_at (extensions_of new) q)) (sym same) (subst (λ h. IsHeldAs its_pool h (value_at (extensions_of new) (extension_type x).number)) one here)
      by false is = left its_pool g (extensions_of old) (extensions_of new) n (leaves.0 n (λ e. true≢false (sym (number_is n (extension_type x).number e) ∙ is))) (kinds.extensions n g known)

-- the type of a message stays
pub same_kinds : (old new : DynamicMessage) → new.descriptor ≡ old.descriptor
    → AreHeldAs old.descriptor.pool.now old.descriptor.index (fields_of new) (extensions_of new) → HoldsKinds new
same_kinds old new same h = subst (λ (d : MessageDescriptor). AreHeldAs d.pool.now d.index (fields_of new) (extensions_of new)) (sym same) h

-- what lists and maps hold
pub list_kind : (pool : PoolType) (f : FieldType) → holds_map pool f ≡ false → holds_list pool f ≡ true → (o : Option Value) (vs : List Value) → items_held o ≡ Some vs → IsHeldAs pool f o
list_kind pool f no_map is_list None vs e = tt
list_kind pool f no_map is_list (Some v) vs e =
    subst (λ b. HoldsAs pool f b (holds_list pool f) v) (sym no_map) (subst (λ b. HoldsAs pool f false b v) (sym is_list) (vs, e))

pub list_of_kind : (pool : PoolType) (f : FieldType) → holds_map pool f ≡ false → holds_list pool f ≡ true → (o : Option Value) → IsHeldAs pool f o → (vs : List Value) × (items_held o ≡ Some vs)
list_of_kind pool f no_map is_list None h = ([], refl)
list_of_kind pool f no_map is_list (Some v) h =
    subst (λ b. HoldsAs pool f false b v) is_list (subst (λ b. HoldsAs pool f b (holds_list pool f) v) no_map h)

pub map_kind : (pool : PoolType) (f : FieldType) → holds_map pool f ≡ true → (o : Option Value) (es : List (MapKey × Value)) → entries_held o ≡ Some es
    → HaveKeys (scalar_of (entry_part pool f 1).kind) es → IsHeldAs pool f o
map_kind pool f is_map None es e keys = tt
map_kind pool f is_map (Some v) es e keys = subst (λ b. HoldsAs pool f b (holds_list pool f) v) (sym is_map) (es, e, keys)

pub map_of_kind : (pool : PoolType) (f : FieldType) → holds_map pool f ≡ true → (o : Option Value) → IsHeldAs pool f o
    → (es : List (MapKey × Value)) × (entries_held o ≡ Some es) × HaveKeys (scalar_of (entry_part pool f 1).kind) es
map_of_kind pool f is_map None h = ([], refl, tt)
map_of_kind pool f is_map (Some v) h = subst (λ b. HoldsAs pool f b (holds_list pool f) v) is_map h

-- ---- a message in which nothing is set

none_under : (pool : PoolType) (i n : ℕ) → held_under pool i [] [] [] n ≡ model.absent
none_under pool i n = by (known_field pool i n) (known_extension pool i n) where
  by : (f x : Option FieldType) → held_either pool f x None None [] ≡ model.absent
  by (Some f) x = refl
  by None (Some x) = refl
  by None None = refl

pub blank_view : (m : DynamicMessage) → content_of m ≡ nothing → view m ≡ model.nothing
blank_view m empty =
    view_opened m ∙ ap (view_of m.descriptor.pool.now m.descriptor.index) empty ∙ fun_ext (λ n. none_under m.descriptor.pool.now m.descriptor.index n)

pub blank_exclusive : (m : DynamicMessage) → content_of m ≡ nothing → IsExclusive m
blank_exclusive m empty = subst (λ c. AreChosen m.descriptor c.choices c.fields) (sym empty) (record { member = λ first n e. absurd (cc e); noted = λ f owns first e some. absurd (cc some) })

pub blank_kinds : (m : DynamicMessage) → content_of m ≡ nothing → HoldsKinds m
blank_kinds m empty =
    subst (λ c. AreHeldAs m.descriptor.pool.now m.descriptor.index c.fields c.extensions) (sym empty) (record { fields = λ n f known. tt; extensions = λ n f known. tt })
