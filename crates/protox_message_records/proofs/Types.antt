-- Types that are put behind others.
use Rattle.std.proofs.Common.{◌≡◌, ◌∙◌, ◌<◌, ◌+◌, ◌++◌, ℕ, List, [], ◌∷◌, map, take, length, get_or, refl, ap, sym, subst, append_assoc}
use Rattle.std.proofs.lemmas.List.{append-nil, map_push}
use Rattle.std.specs.List.{flat_map}
use Rattle.descriptor_records.specs.Content.{MessageContent, message_view, messages_of}
use Rattle.descriptor_records.specs.declared.message.DescriptorProto.{DescriptorProto}
use Rattle.protox_field_records.proofs.Loops.{next}
use Rattle.protox_message_records.specs.MessageRecords.{AddsTypes, AreTypes, Declared, IsType}
use Rattle.protox_tree.specs.declared.types.Syntax.{Syntax}

types_more : (s : Syntax) (ts us : List Declared) (xs ys : List MessageContent) → AreTypes s ts (messages_of xs) → AreTypes s us (messages_of ys) → AreTypes s (ts ++ us) (messages_of (xs ++ ys))
types_more s [] us [] ys a b = b
types_more s [] us (x ∷ xs) ys a b = absurd a
types_more s (t ∷ ts) us [] ys a b = absurd a
types_more s (t ∷ ts) us (x ∷ xs) ys a b = (a.0, types_more s ts us xs ys a.1 b)

pub adds_one : (s : Syntax) (t : Declared) (xs : List MessageContent) (x : MessageContent) → IsType s t x → AddsTypes s (t ∷ []) xs (xs ++ x ∷ [])
adds_one s t xs x is = (x ∷ [], refl, (is, tt))

-- a type whose record is pushed
pub adds_pushed : (s : Syntax) (t : Declared) (ts : List Declared) (old new : List DescriptorProto) (x : DescriptorProto) → new ≡ old ++ x ∷ [] → ts ≡ t ∷ [] → IsType s t (message_view x) → AddsTypes s ts (map message_view old) (map message_view new)
adds_pushed s t ts old new x pushed one is =
    subst (AddsTypes s ts (map message_view old)) (sym (ap (map message_view) pushed ∙ map_push message_view old x))
    (subst (λ us. AddsTypes s us (map message_view old) (map message_view old ++ message_view x ∷ [])) (sym one) (adds_one s t (map message_view old) (message_view x) is))

pub adds_next : (s : Syntax) (ts us : List Declared) (xs ys zs : List MessageContent) → AddsTypes s ts xs ys → AddsTypes s us ys zs → AddsTypes s (ts ++ us) xs zs
adds_next s ts us xs ys zs a b =
    (a.0 ++ b.0, b.1 ∙ ap (λ l. l ++ b.0) a.1 ∙ append_assoc xs a.0 b.0, types_more s ts us a.0 b.0 a.2 b.2)

-- types that are added behind those whose records were there
pub adds_behind : (s : Syntax) (ts us : List Declared) (xs ys : List MessageContent) → AreTypes s ts (messages_of xs) → AddsTypes s us xs ys → AreTypes s (ts ++ us) (messages_of ys)
adds_behind s ts us xs ys a b = subst (λ l. AreTypes s (ts ++ us) (messages_of l)) (sym b.1) (types_more s ts us xs b.0 a b.2)

-- items whose types are added, one more of them, and one that declares none
module _ {A : Type 0} (s : Syntax) (f : A → List Declared) (xs : List A) (i : ℕ) (x : A) where
  pub adds_item : (us : List Declared) → i < length xs → x ≡ get_or xs i x → f x ≡ us → (old made new : List MessageContent) → AddsTypes s (flat_map f (take i xs)) old made → AddsTypes s us made new → AddsTypes s (flat_map f (take (i + 1) xs)) old new
  adds_item us lt is at old made new before adds =
      subst (λ ts. AddsTypes s ts old new) (sym (next f xs i x lt is ∙ ap (λ ys. flat_map f (take i xs) ++ ys) at))
      (adds_next s (flat_map f (take i xs)) us old made new before adds)

  pub passes_item : i < length xs → x ≡ get_or xs i x → f x ≡ [] → (old new : List MessageContent) → AddsTypes s (flat_map f (take i xs)) old new → AddsTypes s (flat_map f (take (i + 1) xs)) old new
  passes_item lt is at old new =
      subst (λ ts. AddsTypes s ts old new) (sym (next f xs i x lt is ∙ ap (λ ys. flat_map f (take i xs) ++ ys) at ∙ append-nil (flat_map f (take i xs))))
