-- A declaration has no fault of names exactly where what must be there is there, and its name is
-- not taken.
use Rattle.std.proofs.Common.{◌≡◌, ◌∙◌, inl, inr, ◌+◌, eqb, ℕ, ℤ, pos, negsuc, Bool, true, false, cond, not, ◌||◌, List, [], ◌∷◌, ◌++◌, Option, Some, None, is_some, String, Global, string_bytes, codes, map, length, ap, sym, refl, arith}
use Rattle.std.specs.List.{Contains, AllByRecursion}
use Rattle.descriptor_records.specs.Content.{Text, text_view, extension_range_view}
use Rattle.descriptor_records.specs.declared.enums.EnumReservedRange.{EnumReservedRange}
use Rattle.descriptor_records.specs.declared.field.FieldDescriptorProto.{FieldDescriptorProto}
use Rattle.descriptor_records.specs.declared.file.FileDescriptorProto.{FileDescriptorProto}
use Rattle.descriptor_records.specs.declared.message.ExtensionRange.{ExtensionRange}
use Rattle.descriptor_records.specs.declared.message.ReservedRange.{ReservedRange}
use Rattle.descriptor_records.specs.Content.{field_view}
use Rattle.reflect_scope.specs.declared.definition.Definition.{Definition}
use Rattle.reflect_scope.specs.FileIndexes.{Indexes, is_index}
use Rattle.reflect_scope.specs.Known.{Known, declared, is_taken}
use Rattle.reflect_scope.specs.Means.{scopes}
use Rattle.reflect_declarations.specs.Tree.{text_of}
use Rattle.reflect_declarations.specs.Declarations.{Declaration, Body, of_file, of_message, of_field, of_oneof, of_enum, of_enum_value, of_service, of_method, of_extension, each, entry}
use Rattle.reflect_known.specs.KnownNames.{definition_of, package_of, named, known_after}
use Rattle.reflect_known.specs.KnownNames as known_names
use Rattle.reflect_names.specs.Names.{Places, lacks, taken, name_faults, package_faults, is_named_type, field_faults, bound_faults, extension_range_faults, reserved_range_faults, enum_range_faults, import_faults, syntax_faults, faults_at}
use Rattle.schema_view.specs.Files.{IsThere}
use Rattle.schema_view.specs.Declarations as view
use Rattle.schema_view.specs.Rules.{HasBounds}
use Rattle.linked_view.specs.Complete.{IsNamedType, GivesType, IsGivenField, IsComplete}
use Rattle.linked_view.proofs.Faults.{none_both, both_none, when_to, when_from}
use Rattle.linked_view.proofs.Given.{Giving, known_by, Free}
use Rattle.linked_view.proofs.NamedFiles.{name_to, name_from, syntax_to, syntax_from, one_import, one_public, all_imports}
use Rattle.linked_view.proofs.Walked.{seen_body}

lacks_to : (at : Places) (path : List ℤ) (tag : ℤ) (field : Text) (b : Bool)
    → lacks at path tag field b ≡ [] → b ≡ true
lacks_to at path tag field true e = refl
lacks_to at path tag field false e = absurd (cc e)

lacks_from : (at : Places) (path : List ℤ) (tag : ℤ) (field : Text) (b : Bool) → b ≡ true
    → lacks at path tag field b ≡ []
lacks_from at path tag field true e = refl
lacks_from at path tag field false e = absurd (cc e)

there_to : {A : Type 0} (o : Option A) → is_some o ≡ true → IsThere o
there_to None e = absurd (cc e)
there_to (Some a) e = (a, refl)

there_from : {A : Type 0} (o : Option A) → IsThere o → is_some o ≡ true
there_from None (a, e) = absurd (cc e)
there_from (Some a) h = refl

-- what holds of each entry of a list where none has a fault
each_all : {A X : Type 0} (one : ℕ → A → List X) (P : A → Type 0)
    → ((k : ℕ) (x : A) → one k x ≡ [] → P x) → (k : ℕ) (xs : List A) → each one k xs ≡ []
    → AllByRecursion P xs
each_all one P h k [] e = tt
each_all one P h k (x ∷ xs) e =
    let parts = none_both (one k x) (each one (k + 1) xs) e in
    (h k x parts.0, each_all one P h (k + 1) xs parts.1)

all_each : {A X : Type 0} (one : ℕ → A → List X) (P : A → Type 0)
    → ((k : ℕ) (x : A) → P x → one k x ≡ []) → (k : ℕ) (xs : List A) → AllByRecursion P xs
    → each one k xs ≡ []
all_each one P h k [] all = refl
all_each one P h k (x ∷ xs) all =
    both_none (one k x) (each one (k + 1) xs) (h k x all.0) (all_each one P h (k + 1) xs all.1)

pub mapped_all : {A B : Type 0} (v : A → B) (P : B → Type 0) (xs : List A)
    → AllByRecursion (λ x. P (v x)) xs → AllByRecursion P (map v xs)
mapped_all v P [] all = tt
mapped_all v P (x ∷ xs) all = (all.0, mapped_all v P xs all.1)

pub all_mapped : {A B : Type 0} (v : A → B) (P : B → Type 0) (xs : List A)
    → AllByRecursion P (map v xs) → AllByRecursion (λ x. P (v x)) xs
all_mapped v P [] all = tt
all_mapped v P (x ∷ xs) all = (all.0, all_mapped v P xs all.1)

bounds_to : (at : Places) (path : List ℤ) (start end : Option ℤ)
    → bound_faults at path start end ≡ [] → IsThere start × IsThere end
bounds_to at path start end e =
    let parts = none_both (lacks at path (pos 1) (codes "start") (is_some start)) _ e in (
      there_to start (lacks_to at path (pos 1) (codes "start") _ parts.0),
      there_to end (lacks_to at path (pos 2) (codes "end") _ parts.1),
    )

bounds_from : (at : Places) (path : List ℤ) (start end : Option ℤ) → IsThere start × IsThere end
    → bound_faults at path start end ≡ []
bounds_from at path start end h =
    both_none (lacks at path (pos 1) (codes "start") (is_some start))
    (lacks at path (pos 2) (codes "end") (is_some end))
    (lacks_from at path (pos 1) (codes "start") _ (there_from start h.0))
    (lacks_from at path (pos 2) (codes "end") _ (there_from end h.1))

named_type : (z : ℤ) → IsNamedType z → is_named_type (Some z) ≡ true
named_type z (inl e) = ap (λ n. is_named_type (Some n)) e
named_type z (inr (inl e)) = ap (λ n. is_named_type (Some n)) e
named_type z (inr (inr e)) = ap (λ n. is_named_type (Some n)) e

type_named : (z : ℤ) → is_named_type (Some z) ≡ true → IsNamedType z
type_named (negsuc k) e = absurd (cc e)
type_named (pos k) e = by (eqb k 10) refl (eqb k 11) refl where
  by : (u : Bool) → eqb k 10 ≡ u → (v : Bool) → eqb k 11 ≡ v → IsNamedType (pos k)
  by true is v _ = let same : k ≡ 10 = grind (arith, is) in inl (ap pos same)
  by false is true other = let same : k ≡ 11 = grind (arith, other) in inr (inl (ap pos same))
  by false is false other =
      let last : eqb k 14 ≡ true =
      sym (ap (λ u. u || (eqb k 11 || eqb k 14)) is ∙ ap (λ v. v || eqb k 14) other) ∙ e in
      let same : k ≡ 14 = grind (arith, last) in inr (inr (ap pos same))

not_true : (b : Bool) → not b ≡ true → b ≡ true → ⊥
not_true true e f = cc e
not_true false e f = cc f

true_not : (b : Bool) → (b ≡ true → ⊥) → not b ≡ true
true_not true h = absurd (h refl)
true_not false h = refl

type_to : (t : Option ℤ) (o : Option (String Global)) → (is_some o || is_some t) ≡ true
    → (is_some o || not (is_named_type t)) ≡ true → GivesType t (text_view o)
type_to None None e f = absurd (cc e)
type_to None (Some s) e f = (string_bytes s, refl)
type_to (Some z) None e f = λ is. not_true (is_named_type (Some z)) f (named_type z is)
type_to (Some z) (Some s) e f = tt

type_from : (t : Option ℤ) (o : Option (String Global)) → GivesType t (text_view o)
    → ((is_some o || is_some t) ≡ true) × ((is_some o || not (is_named_type t)) ≡ true)
type_from None None (s, e) = absurd (cc e)
type_from None (Some s) h = (refl, refl)
type_from (Some z) None h = (
  refl,
  true_not (is_named_type (Some z)) (λ e. h (type_named z e)),
)
type_from (Some z) (Some s) h = (refl, refl)

-- a name that is given
abbrev pub given_by : Bool → Text → Definition → List Giving
given_by named name d = cond named ((name, d) ∷ []) []

named_to : (at : Places) (known : Known) (path : List ℤ) (name : Text) (b : Bool) (d : Definition)
    → name_faults at known path name b d ≡ [] → (b ≡ true) × Free known (given_by b name d)
named_to at known path name true d e = (refl, (when_to (is_taken known name d) _ e, tt))
named_to at known path name false d e = absurd (cc e)

named_from : (at : Places) (known : Known) (path : List ℤ) (name : Text) (b : Bool) (d : Definition)
    → b ≡ true → Free known (given_by b name d) → name_faults at known path name b d ≡ []
named_from at known path name true d e h = when_from (is_taken known name d) _ h.0
named_from at known path name false d e h = absurd (cc e)

abbrev pub packages_given : ℕ → List Text → List Giving
packages_given file [] = []
packages_given file ([] ∷ ss) = packages_given file ss
packages_given file ((b ∷ bs) ∷ ss) = (b ∷ bs, package_of file) ∷ packages_given file ss

packages_to : (at : Places) (known : Known) (file : ℕ) (ss : List Text)
    → package_faults at known file ss ≡ [] → Free known (packages_given file ss)
packages_to at known file [] e = tt
packages_to at known file ([] ∷ ss) e = packages_to at known file ss e
packages_to at known file ((b ∷ bs) ∷ ss) e =
    let next = declared known (b ∷ bs) (package_of file) in
    let parts = none_both (taken at known [] (pos 2) (b ∷ bs) (package_of file))
    (package_faults at next file ss) e in
    (when_to (is_taken known (b ∷ bs) (package_of file)) _ parts.0, packages_to at next file ss parts.1)

packages_from : (at : Places) (known : Known) (file : ℕ) (ss : List Text)
    → Free known (packages_given file ss) → package_faults at known file ss ≡ []
packages_from at known file [] h = refl
packages_from at known file ([] ∷ ss) h = packages_from at known file ss h
packages_from at known file ((b ∷ bs) ∷ ss) h =
    let next = declared known (b ∷ bs) (package_of file) in
    both_none (taken at known [] (pos 2) (b ∷ bs) (package_of file)) (package_faults at next file ss)
    (when_from (is_taken known (b ∷ bs) (package_of file)) _ h.0) (packages_from at next file ss h.1)

packages_known : (known : Known) (file : ℕ) (ss : List Text)
    → known_names.packages known file ss ≡ known_by known (packages_given file ss)
packages_known known file [] = refl
packages_known known file ([] ∷ ss) = packages_known known file ss
packages_known known file ((b ∷ bs) ∷ ss) =
    packages_known (declared known (b ∷ bs) (package_of file)) file ss

-- the names that a declaration gives
abbrev pub gives : Declaration → List Giving
gives d = elim d.body [
  | of_file f ↦ packages_given d.file (scopes (text_of f.package))
  | of_message m ↦ given_by (is_some m.name) d.name (definition_of d)
  | of_field f ↦ given_by (is_some f.name) d.name (definition_of d)
  | of_oneof o ↦ given_by (is_some o.name) d.name (definition_of d)
  | of_enum e ↦ given_by (is_some e.name) d.name (definition_of d)
  | of_enum_value v ↦ given_by (is_some v.name) d.name (definition_of d)
  | of_service s ↦ given_by (is_some s.name) d.name (definition_of d)
  | of_method m ↦ given_by (is_some m.name) d.name (definition_of d)
  | of_extension x ↦ given_by (is_some x.name) d.name (definition_of d)
]

named_known : (known : Known) (name : Text) (b : Bool) (d : Definition)
    → named known name b d ≡ known_by known (given_by b name d)
named_known known name true d = refl
named_known known name false d = refl

known_is : (known : Known) (d : Declaration) (b : Body)
    → known_after known (record d { body = b }) ≡ known_by known (gives (record d { body = b }))
known_is known d (of_file f) = packages_known known d.file (scopes (text_of f.package))
known_is known d (of_message m) = named_known known d.name (is_some m.name) _
known_is known d (of_field f) = named_known known d.name (is_some f.name) _
known_is known d (of_oneof o) = named_known known d.name (is_some o.name) _
known_is known d (of_enum k) = named_known known d.name (is_some k.name) _
known_is known d (of_enum_value v) = named_known known d.name (is_some v.name) _
known_is known d (of_service s) = named_known known d.name (is_some s.name) _
known_is known d (of_method m) = named_known known d.name (is_some m.name) _
known_is known d (of_extension x) = named_known known d.name (is_some x.name) _

pub known_gives : (known : Known) (d : Declaration) → known_after known d ≡ known_by known (gives d)
known_gives known d = known_is known d d.body

-- imports and syntax of a file are as they should be
pub record IsOwn (files : Indexes) (f : FileDescriptorProto) : Type 0 where
  pub imports : (s : String Global) → Contains f.dependency.items s
      → is_some (files (string_bytes s)) ≡ true
  pub publics : (z : ℤ) → Contains f.public_dependency.items z
      → is_index z (length f.dependency.items) ≡ true
  pub syntax : (at : Places) → syntax_faults at f.syntax ≡ []

abbrev pub IsOwnBody : Indexes → Body → Type 0
IsOwnBody files (of_file f) = IsOwn files f
IsOwnBody files _ = Unit {0}

abbrev pub IsCompleteBody : Option view.Body → Type 0
IsCompleteBody None = Unit {0}
IsCompleteBody (Some b) = IsComplete b

pub record IsGood (files : Indexes) (known : Known) (d : Declaration) : Type 0 where
  pub own : IsOwnBody files d.body
  pub complete : IsCompleteBody (seen_body d.body)
  pub free : Free known (gives d)

field_to : (at : Places) (path : List ℤ) (f : FieldDescriptorProto) → is_some f.name ≡ true
    → field_faults at path f ≡ [] → IsGivenField (field_view f)
field_to at path f named e =
    let number = none_both (lacks at path (pos 3) (codes "number") (is_some f.number)) _ e in
    let types = none_both
    (lacks at path (pos 5) (codes "type") (is_some f.type_name || is_some f.field_type)) _
    number.1 in
    record {
      name = name_to f.name named;
      number = there_to f.number (lacks_to at path (pos 3) (codes "number") _ number.0);
      type = type_to f.field_type f.type_name (lacks_to at path (pos 5) (codes "type") _ types.0)
          (lacks_to at path (pos 6) (codes "type_name") _ types.1);
    }

field_from : (at : Places) (path : List ℤ) (f : FieldDescriptorProto) → IsGivenField (field_view f)
    → field_faults at path f ≡ []
field_from at path f h =
    let types = type_from f.field_type f.type_name h.type in
    both_none (lacks at path (pos 3) (codes "number") (is_some f.number)) _
    (lacks_from at path (pos 3) (codes "number") _ (there_from f.number h.number))
    (both_none
    (lacks at path (pos 5) (codes "type") (is_some f.type_name || is_some f.field_type)) _
    (lacks_from at path (pos 5) (codes "type") _ types.0)
    (lacks_from at path (pos 6) (codes "type_name") _ types.1))

module _ (at : Places) (known : Known) (files : Indexes) (d : Declaration) where
  abbrev with_body : Body → Declaration
  with_body b = record d { body = b }

  abbrev IsNone : Body → Type 0
  IsNone b = faults_at at known files (with_body b) ≡ []

  -- the name, and the rest
  named_first : (b : Bool) (e : Definition) (xs : List _)
      → name_faults at known d.path d.name b e ++ xs ≡ []
      → ((b ≡ true) × Free known (given_by b d.name e)) × (xs ≡ [])
  named_first b e xs none =
      let parts = none_both (name_faults at known d.path d.name b e) xs none in
      (named_to at known d.path d.name b e parts.0, parts.1)

  body_to : (b : Body) → IsNone b → IsGood files known (with_body b)
  body_to (of_file f) none =
      let first = none_both (import_faults at files f) _ none in
      let rest = none_both (syntax_faults at f.syntax) _ first.1 in
      record {
        own = record {
          imports = one_import (λ k. at) 0 files f first.0;
          publics = one_public (λ k. at) 0 files f first.0;
          syntax = λ other. syntax_from other f.syntax (syntax_to at f.syntax rest.0);
        };
        complete = tt;
        free = packages_to at known d.file (scopes (text_of f.package)) rest.1;
      }
  body_to (of_message m) none =
      let first = named_first (is_some m.name) _ _ none in
      let ranges = none_both (each (extension_range_faults at d.path) 0 m.extension_range) _ first.1 in
      let extensions = each_all (extension_range_faults at d.path)
      (λ (r : ExtensionRange). IsThere r.start × IsThere r.end)
      (λ k r. bounds_to at (entry d.path (pos 5) k) r.start r.end) 0 m.extension_range ranges.0 in
      let reserved = each_all (reserved_range_faults at d.path)
      (λ (r : ReservedRange). IsThere r.start × IsThere r.end)
      (λ k r. bounds_to at (entry d.path (pos 9) k) r.start r.end) 0 m.reserved_range ranges.1 in
      record {
        own = tt;
        complete = (
          name_to m.name first.0.0,
          mapped_all extension_range_view (λ r. HasBounds (view.extension_range r)) m.extension_range
              extensions,
          reserved,
        );
        free = first.0.1;
      }
  body_to (of_field f) none =
      let first = named_first (is_some f.name) _ _ none in
      record { own = tt; complete = field_to at d.path f first.0.0 first.1; free = first.0.1 }
  body_to (of_oneof o) none =
      let first = named_to at known d.path d.name (is_some o.name) _ none in
      record { own = tt; complete = name_to o.name first.0; free = first.1 }
  body_to (of_enum e) none =
      let first = named_first (is_some e.name) _ _ none in
      let reserved = each_all (enum_range_faults at d.path)
      (λ (r : EnumReservedRange). IsThere r.start × IsThere r.end)
      (λ k r. bounds_to at (entry d.path (pos 4) k) r.start r.end) 0 e.reserved_range.items first.1 in
      record { own = tt; complete = (name_to e.name first.0.0, reserved); free = first.0.1 }
  body_to (of_enum_value v) none =
      let first = named_first (is_some v.name) _ _ none in
      record {
        own = tt;
        complete = (
          name_to v.name first.0.0,
          there_to v.number (lacks_to at d.path (pos 2) (codes "number") _ first.1),
        );
        free = first.0.1;
      }
  body_to (of_service s) none =
      let first = named_to at known d.path d.name (is_some s.name) _ none in
      record { own = tt; complete = name_to s.name first.0; free = first.1 }
  body_to (of_method m) none =
      let first = named_first (is_some m.name) _ _ none in
      let types = none_both (lacks at d.path (pos 2) (codes "input_type") (is_some m.input_type)) _
      first.1 in
      record {
        own = tt;
        complete = record {
          name = name_to m.name first.0.0;
          input = name_to m.input_type (lacks_to at d.path (pos 2) (codes "input_type") _ types.0);
          output =
              name_to m.output_type (lacks_to at d.path (pos 3) (codes "output_type") _ types.1);
        };
        free = first.0.1;
      }
  body_to (of_extension x) none =
      let first = named_first (is_some x.name) _ _ none in
      let parts = none_both (field_faults at d.path x) _ first.1 in
      record {
        own = tt;
        complete = (
          field_to at d.path x first.0.0 parts.0,
          name_to x.extendee (lacks_to at d.path (pos 2) (codes "extendee") _ parts.1),
        );
        free = first.0.1;
      }

  body_from : (b : Body) → IsGood files known (with_body b) → IsNone b
  body_from (of_file f) h =
      both_none (import_faults at files f) _
      (all_imports (λ k. at) 0 files f h.own.imports h.own.publics)
      (both_none (syntax_faults at f.syntax) _ (h.own.syntax at)
      (packages_from at known d.file (scopes (text_of f.package)) h.free))
  body_from (of_message m) h =
      let extensions = all_mapped extension_range_view (λ r. HasBounds (view.extension_range r))
      m.extension_range h.complete.1 in
      both_none (name_faults at known d.path d.name (is_some m.name)
      (definition_of (with_body (of_message m)))) _
      (named_from at known d.path d.name (is_some m.name) _ (name_from m.name h.complete.0) h.free)
      (both_none (each (extension_range_faults at d.path) 0 m.extension_range) _
      (all_each (extension_range_faults at d.path)
      (λ (r : ExtensionRange). IsThere r.start × IsThere r.end)
      (λ k r. bounds_from at (entry d.path (pos 5) k) r.start r.end) 0 m.extension_range extensions)
      (all_each (reserved_range_faults at d.path)
      (λ (r : ReservedRange). IsThere r.start × IsThere r.end)
      (λ k r. bounds_from at (entry d.path (pos 9) k) r.start r.end) 0 m.reserved_range
      h.complete.2))
  body_from (of_field f) h =
      both_none (name_faults at known d.path d.name (is_some f.name)
      (definition_of (with_body (of_field f)))) _
      (named_from at known d.path d.name (is_some f.name) _ (name_from f.name h.complete.name) h.free)
      (field_from at d.path f h.complete)
  body_from (of_oneof o) h =
      named_from at known d.path d.name (is_some o.name) _ (name_from o.name h.complete) h.free
  body_from (of_enum e) h =
      both_none (name_faults at known d.path d.name (is_some e.name)
      (definition_of (with_body (of_enum e)))) _
      (named_from at known d.path d.name (is_some e.name) _ (name_from e.name h.complete.0) h.free)
      (all_each (enum_range_faults at d.path)
      (λ (r : EnumReservedRange). IsThere r.start × IsThere r.end)
      (λ k r. bounds_from at (entry d.path (pos 4) k) r.start r.end) 0 e.reserved_range.items
      h.complete.1)
  body_from (of_enum_value v) h =
      both_none (name_faults at known d.path d.name (is_some v.name)
      (definition_of (with_body (of_enum_value v)))) _
      (named_from at known d.path d.name (is_some v.name) _ (name_from v.name h.complete.0) h.free)
      (lacks_from at d.path (pos 2) (codes "number") _ (there_from v.number h.complete.1))
  body_from (of_service s) h =
      named_from at known d.path d.name (is_some s.name) _ (name_from s.name h.complete) h.free
  body_from (of_method m) h =
      both_none (name_faults at known d.path d.name (is_some m.name)
      (definition_of (with_body (of_method m)))) _
      (named_from at known d.path d.name (is_some m.name) _ (name_from m.name h.complete.name) h.free)
      (both_none (lacks at d.path (pos 2) (codes "input_type") (is_some m.input_type)) _
      (lacks_from at d.path (pos 2) (codes "input_type") _
      (name_from m.input_type h.complete.input))
      (lacks_from at d.path (pos 3) (codes "output_type") _
      (name_from m.output_type h.complete.output)))
  body_from (of_extension x) h =
      both_none (name_faults at known d.path d.name (is_some x.name)
      (definition_of (with_body (of_extension x)))) _
      (named_from at known d.path d.name (is_some x.name) _ (name_from x.name h.complete.0.name)
      h.free)
      (both_none (field_faults at d.path x) _ (field_from at d.path x h.complete.0)
      (lacks_from at d.path (pos 2) (codes "extendee") _ (name_from x.extendee h.complete.1)))

pub good_to : (at : Places) (known : Known) (files : Indexes) (d : Declaration)
    → faults_at at known files d ≡ [] → IsGood files known d
good_to at known files d = body_to at known files d d.body

pub good_from : (at : Places) (known : Known) (files : Indexes) (d : Declaration)
    → IsGood files known d → faults_at at known files d ≡ []
good_from at known files d = body_from at known files d d.body
