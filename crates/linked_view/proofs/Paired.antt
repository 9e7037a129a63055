-- An enum's values are declared behind it, and each declared value is one of a declared enum.
use Rattle.std.proofs.Common.{◌≡◌, ◌∙◌, inl, inr, List, [], ◌∷◌, ◌++◌, map, ap, sym, subst, refl}
use Rattle.std.specs.List.{Contains, flat_map}
use Rattle.std.proofs.lemmas.List.Concat.{flat_map-cons}
use Rattle.std.proofs.lemmas.List.Elements.{Contains-append_left, Contains-append_right, Contains-append_cases}
use Rattle.descriptor_records.specs.Content.{Text, EnumContent, EnumValueContent, ServiceContent, MessageContent, message, MessageContents, no_messages, more_messages, FileContent}
use Rattle.schema_view.specs.Files.{text_of, join, package_of}
use Rattle.schema_view.specs.Declarations.{Body, of_enum, of_value, Declaration, one_field, one_oneof, one_extension, one_value, one_enum, one_method, one_service, in_message, in_messages, declarations}
use Rattle.schema_view.proofs.Lists.{contains_here, contains_there, contains_cases, contains_none, contains_map, contains_map_cases}

pub record IsPaired (ds : List Declaration) : Type 0 where
  pub values : (d : Declaration) (e : EnumContent) (v : EnumValueContent) → Contains ds d
      → d.body ≡ of_enum e → Contains e.value v
      → (x : Declaration) × Contains ds x × (x.body ≡ of_value v)
  pub enums : (d : Declaration) (v : EnumValueContent) → Contains ds d → d.body ≡ of_value v
      → (x : Declaration) × (e : EnumContent) × Contains ds x × (x.body ≡ of_enum e)
      × Contains e.value v

none_paired : IsPaired []
none_paired = record {
  values = λ d e v h is i. absurd (contains_none d h);
  enums = λ d v h is. absurd (contains_none d h);
}

both_paired : (a b : List Declaration) → IsPaired a → IsPaired b → IsPaired (a ++ b)
both_paired a b p q = record {
  values = λ d e v h is i. elim (Contains-append_cases a b d h) [
    | inl j ↦ (let x = p.values d e v j is i in (x.0, Contains-append_left a b x.0 x.1, x.2))
    | inr j ↦ (let x = q.values d e v j is i in (x.0, Contains-append_right a b x.0 x.1, x.2))
  ];
  enums = λ d v h is. elim (Contains-append_cases a b d h) [
    | inl j ↦ (let x = p.enums d v j is in
        (x.0, x.1, Contains-append_left a b x.0 x.2, x.3, x.4))
    | inr j ↦ (let x = q.enums d v j is in
        (x.0, x.1, Contains-append_right a b x.0 x.2, x.3, x.4))
  ];
}

flat_paired : {A : Type 0} (g : A → List Declaration) → ((a : A) → IsPaired (g a)) → (xs : List A)
    → IsPaired (flat_map g xs)
flat_paired g h [] = none_paired
flat_paired g h (x ∷ xs) =
    subst IsPaired (sym (flat_map-cons g x xs))
    (both_paired (g x) (flat_map g xs) (h x) (flat_paired g h xs))

-- neither an enum nor a value
abbrev IsOther : Body → Type 0
IsOther (of_enum e) = ⊥
IsOther (of_value v) = ⊥
IsOther _ = Unit {0}

others_paired : {A : Type 0} (g : A → Declaration) → ((a : A) → IsOther (g a).body) → (xs : List A)
    → IsPaired (map g xs)
others_paired g h xs = record {
  values = λ d e v i is j.
      let x = contains_map_cases g xs d i in
      absurd (subst IsOther (ap (λ (y : Declaration). y.body) x.2 ∙ is) (h x.0));
  enums = λ d v i is.
      let x = contains_map_cases g xs d i in
      absurd (subst IsOther (ap (λ (y : Declaration). y.body) x.2 ∙ is) (h x.0));
}

more_paired : (d : Declaration) (ds : List Declaration) → IsOther d.body → IsPaired ds
    → IsPaired (d ∷ ds)
more_paired d ds other p = record {
  values = λ c e v h is i. elim (contains_cases d ds c h) [
    | inl same ↦ absurd (subst IsOther (ap (λ (y : Declaration). y.body) same ∙ is) other)
    | inr j ↦ (let x = p.values c e v j is i in (x.0, contains_there d ds x.0 x.1, x.2))
  ];
  enums = λ c v h is. elim (contains_cases d ds c h) [
    | inl same ↦ absurd (subst IsOther (ap (λ (y : Declaration). y.body) same ∙ is) other)
    | inr j ↦ (let x = p.enums c v j is in
        (x.0, x.1, contains_there d ds x.0 x.2, x.3, x.4))
  ];
}

same_enum : (e f : EnumContent) → of_enum e ≡ of_enum f → e ≡ f
same_enum e f is = cc is

same_value : (v w : EnumValueContent) → of_value v ≡ of_value w → v ≡ w
same_value v w is = cc is

no_value : (e : EnumContent) (v : EnumValueContent) → of_enum e ≡ of_value v → ⊥
no_value e v is = cc is

enum_paired : (scope : Text) (e : EnumContent) → IsPaired (one_enum scope e)
enum_paired scope e = record { values = values; enums = enums } where
  head : Declaration
  head = record { name = join scope (text_of e.name); body = of_enum e }

  tail : List Declaration
  tail = map (one_value scope) e.value

  values : (d : Declaration) (f : EnumContent) (v : EnumValueContent) → Contains (head ∷ tail) d
      → d.body ≡ of_enum f → Contains f.value v
      → (x : Declaration) × Contains (head ∷ tail) x × (x.body ≡ of_value v)
  values d f v h is i = elim (contains_cases head tail d h) [
    | inl same ↦ (
        let own : e ≡ f = same_enum e f (ap (λ (y : Declaration). y.body) same ∙ is) in
        let there = subst (λ (c : EnumContent). Contains c.value v) (sym own) i in (
          one_value scope v,
          contains_there head tail (one_value scope v) (contains_map (one_value scope) e.value v there),
          refl,
        ))
    | inr j ↦ (
        let x = contains_map_cases (one_value scope) e.value d j in
        absurd (no_value f x.0 (sym is ∙ sym (ap (λ (y : Declaration). y.body) x.2))))
  ]

  enums : (d : Declaration) (v : EnumValueContent) → Contains (head ∷ tail) d → d.body ≡ of_value v
      → (x : Declaration) × (f : EnumContent) × Contains (head ∷ tail) x × (x.body ≡ of_enum f)
      × Contains f.value v
  enums d v h is = elim (contains_cases head tail d h) [
    | inl same ↦ absurd (no_value e v (ap (λ (y : Declaration). y.body) same ∙ is))
    | inr j ↦ (
        let x = contains_map_cases (one_value scope) e.value d j in
        let own : x.0 ≡ v = same_value x.0 v (ap (λ (y : Declaration). y.body) x.2 ∙ is) in
        (head, e, contains_here head tail, refl, subst (Contains e.value) own x.1))
  ]

service_paired : (scope : Text) (s : ServiceContent) → IsPaired (one_service scope s)
service_paired scope s =
    more_paired _ _ tt
    (others_paired (one_method (join scope (text_of s.name))) (λ m. tt) s.method)

mutual
  message_paired : (scope : Text) (m : MessageContent) → IsPaired (in_message scope m)
  message_paired scope (message name fs xs nested es rs os o rr rn) =
      let n = join scope (text_of name) in
      more_paired _ _ tt
      (both_paired _ _ (others_paired (one_field n) (λ f. tt) fs)
      (both_paired _ _ (messages_paired n nested)
      (both_paired _ _ (flat_paired (one_enum n) (enum_paired n) es)
      (both_paired _ _ (others_paired (one_extension n) (λ x. tt) xs)
      (others_paired (one_oneof n) (λ o. tt) os)))))

  messages_paired : (scope : Text) (ms : MessageContents) → IsPaired (in_messages scope ms)
  messages_paired scope no_messages = none_paired
  messages_paired scope (more_messages m ms) =
      both_paired _ _ (message_paired scope m) (messages_paired scope ms)

pub file_paired : (f : FileContent) → IsPaired (declarations f)
file_paired f =
    let n = package_of f in
    both_paired _ _ (flat_paired (in_message n) (message_paired n) f.message_type)
    (both_paired _ _ (flat_paired (one_enum n) (enum_paired n) f.enum_type)
    (both_paired _ _ (flat_paired (one_service n) (service_paired n) f.service)
    (others_paired (one_extension n) (λ x. tt) f.extension)))
