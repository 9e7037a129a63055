-- What says that it is the type of a map's entries has their shape for the pass over numbers exactly
-- where it has it.
use Rattle.std.proofs.Common.{◌≡◌, ◌∙◌, ◌⊎◌, inl, inr, ℤ, pos, negsuc, Bool, true, false, not, ◌&&◌, ◌||◌, List, [], ◌∷◌, Option, Some, None, option_map, String, Global, string_bytes, bytes_eq, codes, map, ap, sym, refl}
use Rattle.std.proofs.lemmas.Bool.{and_from, and_parts}
use Rattle.std.specs.List.{AllByRecursion}
use Rattle.std.specs.Ordering.{int_eq}
use Rattle.std.specs.Cmp.Lexicographic.{bytes_decides}
use Rattle.std.proofs.lemmas.Bool.Decides.{Decides-int_eq}
use Rattle.descriptor_records.specs.Content.{Text, text_view, options_view, field_view}
use Rattle.descriptor_records.specs.declared.field.FieldDescriptorProto.{FieldDescriptorProto}
use Rattle.descriptor_records.specs.declared.options.Options.{Options}
use Rattle.reflect_walk.specs.MapEntries.{says_entry}
use Rattle.reflect_rules.specs.MapEntries.{has_name, is_optional, is_equal, is_part, is_key_type, share_oneof, are_key_and_value, has_entry_shape}
use Rattle.schema_view.specs.Declarations.{FieldFacts, facts_of}
use Rattle.schema_view.specs.Scalars.{scalar_type}
use Rattle.schema_view.specs.Scalars as view
use Rattle.schema_view.specs.Rules.{HasType, SaysEntry, IsPart, IsEntry, IsEntryType}
use Rattle.linked_view.proofs.Counts.{bytes_same}
use Rattle.linked_view.proofs.Enums.{equal_to, equal_from, said, said_back}

abbrev seen : FieldDescriptorProto → FieldFacts
seen f = facts_of (field_view f)

-- a field's type, by its number and its name
abbrev pub IsTypedField : FieldDescriptorProto → Type 0
IsTypedField f = HasType f.field_type (text_view f.type_name)

pub entry_to : (o : Option Options) → says_entry o ≡ true → SaysEntry (option_map options_view o)
entry_to None e = absurd (cc e)
entry_to (Some o) e = (options_view o, refl, said o.map_entry e)

pub entry_from : (o : Option Options) → SaysEntry (option_map options_view o) → says_entry o ≡ true
entry_from None (x, e, is) = absurd (cc e)
entry_from (Some o) (x, e, is) = said_back (λ y. y.map_entry) o x e is

name_to : (o : Option (String Global)) (f : FieldDescriptorProto) (t : Text) → f.name ≡ o
    → has_name f t ≡ true → text_view f.name ≡ Some t
name_to None f t is e = absurd (cc (sym (ap (λ (o : Option (String Global)).
    elim o [ None ↦ false | Some s ↦ bytes_eq (string_bytes s) t ]) is) ∙ e))
name_to (Some s) f t is e =
    ap text_view is ∙ ap Some (bytes_same (string_bytes s) t (sym (ap (λ (o : Option (String Global)).
    elim o [ None ↦ false | Some s ↦ bytes_eq (string_bytes s) t ]) is) ∙ e))

name_from : (o : Option (String Global)) (f : FieldDescriptorProto) (t : Text) → f.name ≡ o
    → text_view f.name ≡ Some t → has_name f t ≡ true
name_from None f t is e = absurd (cc (sym (ap text_view is) ∙ e))
name_from (Some s) f t is e =
    let same : Some (string_bytes s) ≡ Some t = sym (ap text_view is) ∙ e in
    let bytes : string_bytes s ≡ t = cc same in
    ap (λ (o : Option (String Global)).
    elim o [ None ↦ false | Some s ↦ bytes_eq (string_bytes s) t ]) is
    ∙ (bytes_decides (string_bytes s) t).1 bytes

label_to : (o : Option ℤ) → is_optional o ≡ true → (o ≡ None) ⊎ (o ≡ Some (pos 1))
label_to None e = inl refl
label_to (Some z) e = inr (ap Some ((Decides-int_eq z (pos 1)).0 e))

label_from : (o : Option ℤ) → (o ≡ None) ⊎ (o ≡ Some (pos 1)) → is_optional o ≡ true
label_from None h = refl
label_from (Some z) (inl e) = absurd (cc e)
label_from (Some z) (inr e) = let same : z ≡ pos 1 = cc e in (Decides-int_eq z (pos 1)).1 same

part_to : (f : FieldDescriptorProto) (t : Text) (n : ℤ) → is_part f t n ≡ true → IsPart (seen f) t n
part_to f t n e =
    let rest = and_parts (has_name f t && is_equal f.number n) (is_optional f.label) e in
    let first = and_parts (has_name f t) (is_equal f.number n) rest.0 in
    record {
      name = name_to f.name f t refl first.0;
      number = equal_to f.number n first.1;
      label = label_to f.label rest.1;
    }

part_from : (f : FieldDescriptorProto) (t : Text) (n : ℤ) → IsPart (seen f) t n → is_part f t n ≡ true
part_from f t n h =
    and_from (has_name f t && is_equal f.number n) (is_optional f.label)
    (and_from (has_name f t) (is_equal f.number n) (name_from f.name f t refl h.name)
    (equal_from f.number n h.number)) (label_from f.label h.label)

key_same : (o : Option ℤ) → is_key_type o ≡ view.is_key_type o
key_same None = refl
key_same (Some (pos n)) = refl
key_same (Some (negsuc n)) = refl

key_unnamed : (t : Option ℤ) (o : Option Text) → HasType t o → is_key_type t ≡ true → o ≡ None
key_unnamed None o h e = absurd (cc e)
key_unnamed (Some z) None h e = refl
key_unnamed (Some z) (Some s) (inl is) e =
    absurd (cc (sym (ap (λ y. is_key_type (Some y)) is) ∙ e))
key_unnamed (Some z) (Some s) (inr (inl is)) e =
    absurd (cc (sym (ap (λ y. is_key_type (Some y)) is) ∙ e))
key_unnamed (Some z) (Some s) (inr (inr is)) e =
    absurd (cc (sym (ap (λ y. is_key_type (Some y)) is) ∙ e))

key_to : (f : FieldDescriptorProto) → IsTypedField f → is_key_type f.field_type ≡ true
    → view.is_key_type (seen f).scalar ≡ true
key_to f typed e =
    ap (λ o. view.is_key_type (scalar_type f.field_type o))
    (key_unnamed f.field_type (text_view f.type_name) typed e)
    ∙ sym (key_same f.field_type) ∙ e

key_from : (t : Option ℤ) (o : Option Text) → view.is_key_type (scalar_type t o) ≡ true
    → is_key_type t ≡ true
key_from t None e = key_same t ∙ e
key_from t (Some s) e = absurd (cc e)

oneof_to : (a b : Option ℤ) → not (share_oneof a b) ≡ true → (i : ℤ) → a ≡ Some i → b ≡ Some i → ⊥
oneof_to None b e i f g = cc f
oneof_to (Some x) None e i f g = cc g
oneof_to (Some x) (Some y) e i f g =
    let p : x ≡ i = cc f in
    let q : y ≡ i = cc g in
    let same = (Decides-int_eq x y).1 (p ∙ sym q) in
    let wrong : not true ≡ true = sym (ap not same) ∙ e in
    cc wrong

oneof_from : (a b : Option ℤ) → ((i : ℤ) → a ≡ Some i → b ≡ Some i → ⊥)
    → not (share_oneof a b) ≡ true
oneof_from None b h = refl
oneof_from (Some x) None h = refl
oneof_from (Some x) (Some y) h = by (int_eq x y) refl where
  by : (b : Bool) → int_eq x y ≡ b → not (int_eq x y) ≡ true
  by false is = ap not is
  by true is = absurd (h x refl (ap Some (sym ((Decides-int_eq x y).0 is))))

both_to : (k v : FieldDescriptorProto) → IsTypedField k → are_key_and_value k v ≡ true
    → IsEntry (seen k) (seen v)
both_to k v typed e =
    let key = is_part k (codes "key") (pos 1) in
    let value = is_part v (codes "value") (pos 2) in
    let last = and_parts (key && value && is_key_type k.field_type)
    (not (share_oneof k.oneof_index v.oneof_index)) e in
    let third = and_parts (key && value) (is_key_type k.field_type) last.0 in
    let first = and_parts key value third.0 in
    record {
      key = part_to k (codes "key") (pos 1) first.0;
      value = part_to v (codes "value") (pos 2) first.1;
      key_type = key_to k typed third.1;
      apart = oneof_to k.oneof_index v.oneof_index last.1;
    }

both_from : (k v : FieldDescriptorProto) → IsEntry (seen k) (seen v) → are_key_and_value k v ≡ true
both_from k v h =
    let key = is_part k (codes "key") (pos 1) in
    let value = is_part v (codes "value") (pos 2) in
    and_from (key && value && is_key_type k.field_type)
    (not (share_oneof k.oneof_index v.oneof_index))
    (and_from (key && value) (is_key_type k.field_type)
    (and_from key value (part_from k (codes "key") (pos 1) h.key)
    (part_from v (codes "value") (pos 2) h.value))
    (key_from k.field_type (text_view k.type_name) h.key_type))
    (oneof_from k.oneof_index v.oneof_index h.apart)

or_to : (a b : Bool) → (a || b) ≡ true → (a ≡ true) ⊎ (b ≡ true)
or_to true b e = inl refl
or_to false b e = inr e

or_from : (a b : Bool) → (a ≡ true) ⊎ (b ≡ true) → (a || b) ≡ true
or_from true b h = refl
or_from false b (inl e) = absurd (cc e)
or_from false b (inr e) = e

pub shape_to : (fs : List FieldDescriptorProto) → AllByRecursion IsTypedField fs
    → has_entry_shape fs ≡ true → IsEntryType (map facts_of (map field_view fs))
shape_to [] typed e = absurd (cc e)
shape_to (a ∷ []) typed e = absurd (cc e)
shape_to (a ∷ b ∷ []) typed e = elim (or_to (are_key_and_value a b) _ e) [
  | inl is ↦ inl (both_to a b typed.0 is)
  | inr is ↦ inr (both_to b a typed.1.0 is)
]
shape_to (a ∷ b ∷ c ∷ fs) typed e = absurd (cc e)

pub shape_from : (fs : List FieldDescriptorProto) → IsEntryType (map facts_of (map field_view fs))
    → has_entry_shape fs ≡ true
shape_from [] h = absurd h
shape_from (a ∷ []) h = absurd h
shape_from (a ∷ b ∷ []) (inl h) =
    or_from (are_key_and_value a b) (are_key_and_value b a) (inl (both_from a b h))
shape_from (a ∷ b ∷ []) (inr h) =
    or_from (are_key_and_value a b) (are_key_and_value b a) (inr (both_from b a h))
shape_from (a ∷ b ∷ c ∷ fs) h = absurd h
