-- What a full name finds in a pool.
use Rattle.std.proofs.Common.{◌≡◌, ◌<◌, ℕ, zero, suc, List, [], ◌∷◌, map, length, get_or, slice_get, Option, Some, None, refl, ap, sym, ◌∙◌, arith}
use Rattle.std.proofs.Math.ListN.{length-map}
use Rattle.std.proofs.lemmas.List as lists
use Rattle.std.proofs.lemmas.Option.{some_pair_parts, slice_get-get_or, get_or_from_slice_get}
use Rattle.reflect_tables.specs.Finding.{IsFirst}
use Rattle.reflect_pool.specs.Finds.{IsOnly}
use Rattle.reflect_tables.specs.Names.{FullName, AreFound, Sort, messages, enums, extensions, services, place_of, place_in, found, with_file}
use Rattle.reflect_scope.specs.Known.{Known}
use Rattle.reflect_scope.specs.declared.definition.Definition.{Definition}
use Rattle.reflect_scope.specs.declared.definition.DefinitionKind.{DefinitionKind}
use Rattle.reflect_scope.specs.declared.definition.DefinitionKind.TheVariants as kind
use Rattle.std.specs.Option.{option_map, option_and_then}

within : {X : Type 0} (xs : List X) (i : ℕ) (x : X) → slice_get xs i ≡ Some x → i < length xs
within [] i x e = absurd (cc)
within (y ∷ xs) zero x e = omega arith
within (y ∷ xs) (suc i) x e = let lt = within xs i x e in omega (arith, lt)

module _ {Y : Type 0} (name : Y → FullName) (ys : List Y) (g : List ℕ → Option (ℕ × ℕ)) (are : AreFound g (map name ys)) (t : List ℕ) where
  here : (k : ℕ) (d : Y) → k < length ys → (name (get_or ys k d)).0 ≡ t → g t ≡ Some (k, (name (get_or ys k d)).1)
  here k d lt same =
      let y = get_or ys k d in
      let long : k < length (map name ys) = let l : length (map name ys) ≡ length ys = length-map ys name in omega (arith, lt, l) in
      let at : slice_get (map name ys) k ≡ Some (name y) = slice_get-get_or (map name ys) k (name d) long ∙ ap Some (lists.get_or-map name ys k d (name d) lt) in
      (are t k (name y).1).1 (at ∙ ap (λ n. Some (n, (name y).1)) same)

  pub finds : (i f : ℕ) → g t ≡ Some (i, f) → IsFirst (λ y. (name y).0 ≡ t) ys (Some i)
  finds i f e =
      let at = (are t i f).0 e in
      let l : length (map name ys) ≡ length ys = length-map ys name in
      let long = within (map name ys) i (t, f) at in
      let lt : i < length ys = omega (arith, long, l) in (
        lt,
        (
          λ d. ap (λ (p : FullName). p.0) (sym (lists.get_or-map name ys i d (name d) lt) ∙ get_or_from_slice_get (map name ys) i (t, f) (name d) at),
          λ k d low less same. let inside : k < length ys = omega (arith, less, lt) in
              let one : k ≡ i = (some_pair_parts k i (name (get_or ys k d)).1 f (sym (here k d inside same) ∙ e)).0 in
              absurd (omega (arith, one, less)),
        ),
      )

  pub finds_only : (i f : ℕ) → g t ≡ Some (i, f) → IsOnly (λ y. (name y).0 ≡ t) ys (Some i)
  finds_only i f e =
      let first = finds i f e in
      (first.0, (first.1.0, λ k d lt same. (some_pair_parts k i (name (get_or ys k d)).1 f (sym (here k d lt same) ∙ e)).0))

  pub finds_none : ((i f : ℕ) → g t ≡ Some (i, f) → ⊥) → IsFirst (λ y. (name y).0 ≡ t) ys None
  finds_none none = λ k d lt same. none k (name (get_or ys k d)).1 (here k d lt same)

-- the first of a sort with a full name, by what the name stands for
module _ {Y : Type 0} (sort : Sort) (name : Y → FullName) (ys : List Y) (known : Known) (are : AreFound (found sort known) (map name ys)) (t : List ℕ) where
  pub stands : (k : DefinitionKind) (i : ℕ) → place_of sort k ≡ Some i → option_map (λ d. d.kind) (known t) ≡ Some k → IsFirst (λ y. (name y).0 ≡ t) ys (Some i)
  stands k i place kind = by (known t) refl kind where
    by : (o : Option Definition) → known t ≡ o → option_map (λ d. d.kind) o ≡ Some k → IsFirst (λ y. (name y).0 ≡ t) ys (Some i)
    by None is e = absurd (cc)
    by (Some d) is e =
        let same : d.kind ≡ k = cc in
        finds name ys (found sort known) are t i d.file (ap (place_in sort) is ∙ ap (with_file d) (ap (place_of sort) same ∙ place))

  pub stands_only : (k : DefinitionKind) (i : ℕ) → place_of sort k ≡ Some i → option_map (λ d. d.kind) (known t) ≡ Some k → IsOnly (λ y. (name y).0 ≡ t) ys (Some i)
  stands_only k i place kind = by (known t) refl kind where
    by : (o : Option Definition) → known t ≡ o → option_map (λ d. d.kind) o ≡ Some k → IsOnly (λ y. (name y).0 ≡ t) ys (Some i)
    by None is e = absurd (cc)
    by (Some d) is e =
        let same : d.kind ≡ k = cc in
        finds_only name ys (found sort known) are t i d.file (ap (place_in sort) is ∙ ap (with_file d) (ap (place_of sort) same ∙ place))

  pub stands_not : (o : Option DefinitionKind) → option_and_then (place_of sort) o ≡ None → option_map (λ d. d.kind) (known t) ≡ o → IsFirst (λ y. (name y).0 ≡ t) ys None
  stands_not o place kind = by (known t) refl kind where
    by : (d : Option Definition) → known t ≡ d → option_map (λ d. d.kind) d ≡ o → IsFirst (λ y. (name y).0 ≡ t) ys None
    by None is e = finds_none name ys (found sort known) are t (λ i f h. let no : None ≡ Some (i, f) = sym (ap (place_in sort) is) ∙ h in absurd (cc))
    by (Some d) is e =
        let none : place_of sort d.kind ≡ None = ap (option_and_then (place_of sort)) e ∙ place in
        finds_none name ys (found sort known) are t (λ i f h. let no : None ≡ Some (i, f) = sym (ap (place_in sort) is ∙ ap (with_file d) none) ∙ h in absurd (cc))

pub not_messages : (k : DefinitionKind) → ((i : ℕ) → k ≡ kind.Message i → ⊥) → place_of messages k ≡ None
not_messages kind.Package n = refl
not_messages (kind.Message i) n = absurd (n i refl)
not_messages kind.Field n = refl
not_messages kind.Oneof n = refl
not_messages (kind.Enum i) n = refl
not_messages kind.EnumValue n = refl
not_messages (kind.Service i) n = refl
not_messages kind.Method n = refl
not_messages (kind.Extension i) n = refl

pub not_enums : (k : DefinitionKind) → ((i : ℕ) → k ≡ kind.Enum i → ⊥) → place_of enums k ≡ None
not_enums kind.Package n = refl
not_enums (kind.Message i) n = refl
not_enums kind.Field n = refl
not_enums kind.Oneof n = refl
not_enums (kind.Enum i) n = absurd (n i refl)
not_enums kind.EnumValue n = refl
not_enums (kind.Service i) n = refl
not_enums kind.Method n = refl
not_enums (kind.Extension i) n = refl

pub not_extensions : (k : DefinitionKind) → ((i : ℕ) → k ≡ kind.Extension i → ⊥) → place_of extensions k ≡ None
not_extensions kind.Package n = refl
not_extensions (kind.Message i) n = refl
not_extensions kind.Field n = refl
not_extensions kind.Oneof n = refl
not_extensions (kind.Enum i) n = refl
not_extensions kind.EnumValue n = refl
not_extensions (kind.Service i) n = refl
not_extensions kind.Method n = refl
not_extensions (kind.Extension i) n = absurd (n i refl)

pub not_services : (k : DefinitionKind) → ((i : ℕ) → k ≡ kind.Service i → ⊥) → place_of services k ≡ None
not_services kind.Package n = refl
not_services (kind.Message i) n = refl
not_services kind.Field n = refl
not_services kind.Oneof n = refl
not_services (kind.Enum i) n = refl
not_services kind.EnumValue n = refl
not_services (kind.Service i) n = absurd (n i refl)
not_services kind.Method n = refl
not_services (kind.Extension i) n = refl
