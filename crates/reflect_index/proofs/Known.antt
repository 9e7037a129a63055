-- The names that a walk without faults makes known, and the places that they stand for.
use Rattle.std.proofs.Common.{◌≡◌, ℕ, ℤ, ◌+◌, List, [], ◌∷◌, ◌++◌, length, Bool, true, false, cond, Option, Some, None, ap, sym, subst, ◌∙◌, arith, refl, bytes_eq}
use Rattle.std.proofs.lemmas.List.{append-nil}
use Rattle.std.proofs.Math.ListN.{length-append}
use Rattle.std.specs.Map.{update}
use Rattle.std.specs.Cmp.Lexicographic.{bytes_decides}
use Rattle.reflect_scope.specs.Means.{scopes}
use Rattle.reflect_scope.specs.declared.definition.Definition.{Definition}
use Rattle.reflect_declarations.specs.Tree.{text_of}
use Rattle.reflect_declarations.specs.declared.offsets.Offsets.{Offsets}
use Rattle.reflect_declarations.specs.Declarations.{Declaration, Body, of_file, of_message, of_field, of_oneof, of_enum, of_enum_value, of_service, of_method, of_extension}
use Rattle.reflect_scope.specs.Known.{Known, declared, is_taken, is_package, may_repeat}
use Rattle.reflect_faults.specs.Faults.{Fault}
use Rattle.reflect_known.specs.KnownNames.{named, packages, package_of, known_after, known_behind}
use Rattle.reflect_names.specs.Names.{Places, name_faults, faults_at}
use Rattle.reflect_names.specs.NamePass.{faults_along}
use Rattle.reflect_tables.specs.Names.{Sort, messages, enums, extensions, services, FullName, AreFound, found, with_file, place_in, place_of}
use Rattle.reflect_known.specs.DeclaredNames.{is_of, with_name, with_names}
use Rattle.reflect_tables.proofs.Founds.{found_same, found_more}
use Rattle.reflect_index.proofs.Counted.{past_one, IsNext, AreNext}

pub none_left : {X : Type 0} (xs ys : List X) → xs ++ ys ≡ [] → xs ≡ []
none_left [] ys e = refl
none_left (x ∷ xs) ys e = absurd (cc)

pub none_right : {X : Type 0} (xs ys : List X) → xs ++ ys ≡ [] → ys ≡ []
none_right [] ys e = e
none_right (x ∷ xs) ys e = absurd (cc)

-- what is looked up behind an update
module _ (s : Sort) (known : Known) (name : List ℕ) (d : Definition) where
  at_update : (t : List ℕ) → name ≡ t → found s (update bytes_eq known name (Some d)) t ≡ place_in s (Some d)
  at_update t e = let same : bytes_eq name t ≡ true = (bytes_decides name t).1 e in ap (λ b. place_in s (cond b (Some d) (known t))) same

  off_update : (t : List ℕ) → (name ≡ t → ⊥) → found s (update bytes_eq known name (Some d)) t ≡ found s known t
  off_update t n = by (bytes_eq name t) refl where
    by : (b : Bool) → bytes_eq name t ≡ b → found s (update bytes_eq known name (Some d)) t ≡ found s known t
    by true is = absurd (n ((bytes_decides name t).0 is))
    by false is = ap (λ b. place_in s (cond b (Some d) (known t))) is

  looked_none : known name ≡ None → found s known name ≡ None
  looked_none none = ap (place_in s) none

  -- a definition of another sort
  pub update_other : (names : List FullName) → known name ≡ None → place_of s d.kind ≡ None → AreFound (found s known) names → AreFound (found s (update bytes_eq known name (Some d))) names
  update_other names none kind are = found_same (found s known) (found s (update bytes_eq known name (Some d))) names same are where
    here : (t : List ℕ) → name ≡ t → found s (update bytes_eq known name (Some d)) t ≡ found s known t
    here t e = at_update t e ∙ ap (with_file d) kind ∙ sym (ap (found s known) (sym e) ∙ looked_none none)

    same : (t : List ℕ) → found s (update bytes_eq known name (Some d)) t ≡ found s known t
    same t = by (bytes_eq name t) refl where
      by : (b : Bool) → bytes_eq name t ≡ b → found s (update bytes_eq known name (Some d)) t ≡ found s known t
      by true is = here t ((bytes_decides name t).0 is)
      by false is = ap (λ b. place_in s (cond b (Some d) (known t))) is

  -- a definition of the sort
  pub update_own : (names : List FullName) → known name ≡ None → place_of s d.kind ≡ Some (length names) → AreFound (found s known) names
      → AreFound (found s (update bytes_eq known name (Some d))) (names ++ (name, d.file) ∷ [])
  update_own names none kind are =
      found_more (found s known) (found s (update bytes_eq known name (Some d))) names name d.file are (looked_none none)
      (λ t e. at_update t e ∙ ap (with_file d) kind)
      off_update

-- a name that may not repeat, and that is not faulty, is new
module _ (at : Places) (known : Known) (path : List ℤ) (name : List ℕ) (d : Definition) (single : is_package d.kind ≡ false) where
  untaken : (o : Option Definition) → elim o [ None ↦ false | Some e ↦ elim (may_repeat e.kind d.kind) [ true ↦ false | false ↦ true ] ] ≡ false → o ≡ None
  untaken None e = refl
  untaken (Some x) e = by (is_package x.kind) refl where
    by : (b : Bool) → is_package x.kind ≡ b → Some x ≡ None
    by true is = absurd (cc)
    by false is = absurd (cc)

  pub fresh : (b : Bool) → name_faults at known path name b d ≡ [] → (b ≡ true) × (known name ≡ None)
  fresh true e = (refl, untaken (known name) (by (is_taken known name d) refl)) where
    by : (v : Bool) → is_taken known name d ≡ v → is_taken known name d ≡ false
    by true is = absurd (cc)
    by false is = is
  fresh false e = absurd (cc)

  pub named_new : (b : Bool) → b ≡ true → known name ≡ None → named known name b d ≡ update bytes_eq known name (Some d)
  named_new b has none = ap (λ v. cond v (declared known name d) known) has ∙ ap (λ o. elim o [ None ↦ update bytes_eq known name (Some d) | Some e ↦ known ]) none

-- packages leave the places
module _ (s : Sort) (names : List FullName) where
  one_package : (known : Known) (file : ℕ) (p : List ℕ) → AreFound (found s known) names → AreFound (found s (declared known p (package_of file))) names
  one_package known file p are = by (known p) refl where
    by : (o : Option Definition) → known p ≡ o → AreFound (found s (elim o [ None ↦ update bytes_eq known p (Some (package_of file)) | Some e ↦ known ])) names
    by None is = update_other s known p (package_of file) names is refl are
    by (Some e) is = are

  pub with_packages : (known : Known) (file : ℕ) (ps : List (List ℕ)) → AreFound (found s known) names → AreFound (found s (packages known file ps)) names
  with_packages known file [] are = are
  with_packages known file ([] ∷ ps) are = with_packages known file ps are
  with_packages known file ((b ∷ bs) ∷ ps) are = with_packages (declared known (b ∷ bs) (package_of file)) file ps (one_package known file (b ∷ bs) are)

-- how many of a sort there are
abbrev pub offset : Sort → Offsets → ℕ
offset messages o = o.messages
offset enums o = o.enums
offset extensions o = o.extensions
offset services o = o.services

-- a declaration that is not faulty
module _ (s : Sort) (at : Places) (files : List ℕ → Option ℕ) (known : Known) (names : List FullName) (are : AreFound (found s known) names) where
  other : (path : List ℤ) (name : List ℕ) (b : Bool) (d : Definition) (rest : List Fault) → is_package d.kind ≡ false → place_of s d.kind ≡ None
      → name_faults at known path name b d ++ rest ≡ [] → AreFound (found s (named known name b d)) names
  other path name b d rest single kind none =
      let new = fresh at known path name d single b (none_left (name_faults at known path name b d) rest none) in
      subst (λ k. AreFound (found s k) names) (sym (named_new at known path name d single b new.0 new.1)) (update_other s known name d names new.1 kind are)

  own : (path : List ℤ) (name : List ℕ) (b : Bool) (d : Definition) (rest : List Fault) → is_package d.kind ≡ false → place_of s d.kind ≡ Some (length names)
      → name_faults at known path name b d ++ rest ≡ [] → AreFound (found s (named known name b d)) (names ++ (name, d.file) ∷ [])
  own path name b d rest single kind none =
      let new = fresh at known path name d single b (none_left (name_faults at known path name b d) rest none) in
      subst (λ k. AreFound (found s k) (names ++ (name, d.file) ∷ [])) (sym (named_new at known path name d single b new.0 new.1)) (update_own s known name d names new.1 kind are)

abbrev declaration : List ℤ → List ℕ → ℕ → Option ℕ → ℕ → Body → Declaration
declaration path name file parent index body = record { path = path; name = name; file = file; parent = parent; index = index; body = body }

abbrev Step : Sort → Places → (List ℕ → Option ℕ) → Known → List FullName → Offsets → Declaration → Type 0
Step s at files known names o d = AreFound (found s known) names → length names ≡ offset s o → IsNext o d.index d.body → faults_at at known files d ≡ [] → AreFound (found s (known_after known d)) (with_name s names d)

module _ (at : Places) (files : List ℕ → Option ℕ) (known : Known) (names : List FullName) (o : Offsets) (path : List ℤ) (name : List ℕ) (file : ℕ) (parent : Option ℕ) (index : ℕ) where
  one : (s : Sort) (body : Body) → Step s at files known names o (declaration path name file parent index body)
  one s (of_file f) are len next none = with_packages s names known file (scopes (text_of f.package)) are
  one s (of_field f) are len next none = other s at files known names are path name _ _ _ refl refl none
  one s (of_oneof f) are len next none = other s at files known names are path name _ _ [] refl refl (append-nil _ ∙ none)
  one s (of_enum_value f) are len next none = other s at files known names are path name _ _ _ refl refl none
  one s (of_method f) are len next none = other s at files known names are path name _ _ _ refl refl none
  one messages (of_message m) are len next none = own messages at files known names are path name _ _ _ refl (ap Some (next ∙ sym len)) none
  one enums (of_message m) are len next none = other enums at files known names are path name _ _ _ refl refl none
  one extensions (of_message m) are len next none = other extensions at files known names are path name _ _ _ refl refl none
  one services (of_message m) are len next none = other services at files known names are path name _ _ _ refl refl none
  one messages (of_enum m) are len next none = other messages at files known names are path name _ _ _ refl refl none
  one enums (of_enum m) are len next none = own enums at files known names are path name _ _ _ refl (ap Some (next ∙ sym len)) none
  one extensions (of_enum m) are len next none = other extensions at files known names are path name _ _ _ refl refl none
  one services (of_enum m) are len next none = other services at files known names are path name _ _ _ refl refl none
  one messages (of_service m) are len next none = other messages at files known names are path name _ _ [] refl refl (append-nil _ ∙ none)
  one enums (of_service m) are len next none = other enums at files known names are path name _ _ [] refl refl (append-nil _ ∙ none)
  one extensions (of_service m) are len next none = other extensions at files known names are path name _ _ [] refl refl (append-nil _ ∙ none)
  one services (of_service m) are len next none = own services at files known names are path name _ _ [] refl (ap Some (next ∙ sym len)) (append-nil _ ∙ none)
  one messages (of_extension m) are len next none = other messages at files known names are path name _ _ _ refl refl none
  one enums (of_extension m) are len next none = other enums at files known names are path name _ _ _ refl refl none
  one extensions (of_extension m) are len next none = own extensions at files known names are path name _ _ _ refl (ap Some (next ∙ sym len)) none
  one services (of_extension m) are len next none = other services at files known names are path name _ _ _ refl refl none

longer : (names : List FullName) (x : FullName) (n m : ℕ) → length names ≡ n → m ≡ n + 1 → length (names ++ x ∷ []) ≡ m
longer names x n m len e = length-append names (x ∷ []) ∙ omega (arith, len, e)

-- the counts go on with the names
pub counts : (s : Sort) (names : List FullName) (name : List ℕ) (file : ℕ) (o : Offsets)
    (body : Body) → length names ≡ offset s o
    → length (cond (is_of s body) (names ++ (name, file) ∷ []) names) ≡ offset s (past_one o body)
counts messages names name file o (of_message m) len = longer names (name, file) _ _ len refl
counts enums names name file o (of_message m) len = len
counts extensions names name file o (of_message m) len = len
counts services names name file o (of_message m) len = len
counts messages names name file o (of_enum m) len = len
counts enums names name file o (of_enum m) len = longer names (name, file) _ _ len refl
counts extensions names name file o (of_enum m) len = len
counts services names name file o (of_enum m) len = len
counts messages names name file o (of_service m) len = len
counts enums names name file o (of_service m) len = len
counts extensions names name file o (of_service m) len = len
counts services names name file o (of_service m) len = longer names (name, file) _ _ len refl
counts messages names name file o (of_extension m) len = len
counts enums names name file o (of_extension m) len = len
counts extensions names name file o (of_extension m) len = longer names (name, file) _ _ len refl
counts services names name file o (of_extension m) len = len
counts s names name file o (of_file f) len = len
counts s names name file o (of_field f) len = len
counts s names name file o (of_oneof f) len = len
counts s names name file o (of_enum_value f) len = len
counts s names name file o (of_method f) len = len

-- so after declarations of one file, one after another
pub walked : (s : Sort) (at : ℕ → Places) (files : List ℕ → Option ℕ) (known : Known) (names : List FullName) (file : ℕ) (o p : Offsets) (ds : List Declaration)
    → AreFound (found s known) names → length names ≡ offset s o → AreNext file o ds p → faults_along at files known ds ≡ []
    → AreFound (found s (known_behind known ds)) (with_names s names ds) × (length (with_names s names ds) ≡ offset s p)
walked s at files known names file o p [] are len next none = (are, len ∙ sym (ap (offset s) next))
walked s at files known names file o p (d ∷ ds) are len next none =
    let here : faults_at (at d.file) known files d ≡ [] = none_left _ _ none in
    let later : faults_along at files (known_after known d) ds ≡ [] = none_right (faults_at (at d.file) known files d) _ none in
    walked s at files (known_after known d) (with_name s names d) file (past_one o d.body) p ds
    (one (at d.file) files known names o d.path d.name d.file d.parent d.index s d.body are len next.1.0 here)
    (counts s names d.name d.file o d.body len)
    next.1.1 later
