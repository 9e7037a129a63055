-- What the content of a record tells of its entities where options are put at a path: they are those
-- of the entity at the path, and all else that is told stays.
use Rattle.std.proofs.Common.{◌≡◌, ◌∙◌, ◌≤◌, ◌+◌, ◌++◌, ℕ, zero, suc, ℤ, pos, negsuc, Bool, true, false, cond, List, [], ◌∷◌, Option, Some, append_assoc, refl, sym, subst, arith}
use Rattle.std.specs.Ordering.{int_eq}
use Rattle.std.proofs.lemmas.Bool.Decides.{Decides-int_eq}
use Rattle.std.proofs.lemmas.List.{append-nil}
use Rattle.std.specs.List.{AllByRecursion, AllZip}
use Rattle.descriptor_records.specs.Content.{EnumContent, EnumValueContent, ExtensionRangeContent, FieldContent, MethodContent, OneofContent, OptionsContent, ServiceContent}
use Rattle.option_parts.specs.declared.option_scope.OptionScope.{OptionScope}
use Rattle.option_parts.specs.declared.option_scope.OptionScope.TheVariants as scopes
use Rattle.reflect_declarations.specs.Declarations.{each, entry}
use Rattle.reflect_growth.specs.Put.{enum_put, field_put, method_put, oneof_put, own_put, put_in, range_put, service_put, value_put, with_at}
use Rattle.reflect_pool.proofs.Grown.{all_through}
use Rattle.reflect_scope.specs.Means.{join}
use Rattle.settled_records.proofs.OwnPaths.{Beyond, From, Group, Under, Whole, each_group, in_entry, is_longer, method_whole, same_behind, same_number, same_place, value_whole}
use Rattle.settled_records.proofs.Told.{Told, enum_tells, extension_tells, field_tells, method_tells, oneof_tells, range_tells, service_tells, tells, text_in, value_tells}

-- an entity with these options
abbrev pub given : OptionsContent → Told → Told
given o t = record t { options = Some o }

-- one before and behind the putting of options at a path
abbrev pub IsPut : OptionsContent → List ℤ → Told → Told → Type 0
IsPut o at t u = (t.path ≡ at → u ≡ given o t) × ((t.path ≡ at → ⊥) → u ≡ t)

pub zip_append : {A B : Type 0} (R : A → B → Type 0) (xs : List A) (ys : List B) (more : List A) (others : List B) → AllZip R xs ys → AllZip R more others → AllZip R (xs ++ more) (ys ++ others)
zip_append R [] [] more others all rest = rest
zip_append R [] (y ∷ ys) more others all rest = absurd all
zip_append R (x ∷ xs) [] more others all rest = absurd all
zip_append R (x ∷ xs) (y ∷ ys) more others all rest = (all.0, zip_append R xs ys more others all.1 rest)

-- a path of fewer than two steps
pub no_steps : (tag place : ℤ) (more : List ℤ) → tag ∷ place ∷ more ≡ [] → ⊥
no_steps tag place more e = absurd (cc e)

pub one_step : (number tag place : ℤ) (more : List ℤ) → tag ∷ place ∷ more ≡ number ∷ [] → ⊥
one_step number tag place more e = absurd (cc e)

module _ (o : OptionsContent) where
  -- nothing is put
  idle_one : (at : List ℤ) (t : Told) → (t.path ≡ at → ⊥) → IsPut o at t t
  idle_one at t apart = (λ e. absurd (apart e), λ other. refl)

  idle : (at : List ℤ) (ts : List Told) → AllByRecursion (λ (t : Told). t.path ≡ at → ⊥) ts → AllZip (IsPut o at) ts ts
  idle at [] apart = tt
  idle at (t ∷ ts) apart = (idle_one at t apart.0, idle at ts apart.1)

  past_list : (P : Told → Type 0) (at : List ℤ) (ts : List Told) → ((t : Told) → P t → t.path ≡ at → ⊥) → AllByRecursion P ts → AllZip (IsPut o at) ts ts
  past_list P at ts apart all = idle at ts (all_through P (λ (t : Told). t.path ≡ at → ⊥) ts apart all)

  -- so it is of all that is told
  abbrev pub Puts : List ℤ → List Told → List Told → Type 0
  Puts at ts us = AllZip (IsPut o at) ts us

  -- ---- the entries of a list
  pub into_entry : (base : List ℤ) (tag : ℤ) (k : ℕ) (rest : List ℤ) (ts us : List Told) → Puts (entry base tag k ++ rest) ts us → Puts (base ++ (tag ∷ pos k ∷ rest)) ts us
  into_entry base tag k rest ts us = subst (λ (p : List ℤ). AllZip (IsPut o p) ts us) (append_assoc base (tag ∷ pos k ∷ []) rest)

  pub past_entry : (base : List ℤ) (tag : ℤ) (k at : ℕ) (rest : List ℤ) (ts : List Told) → (k ≡ at → ⊥) → Whole (entry base tag k) ts → Puts (base ++ (tag ∷ pos at ∷ rest)) ts ts
  past_entry base tag k at rest ts other whole =
      past_list (Under (entry base tag k)) (base ++ (tag ∷ pos at ∷ rest)) ts
      (λ (t : Told) (u : Under (entry base tag k) t) (e : t.path ≡ base ++ (tag ∷ pos at ∷ rest)). other (same_place base tag tag k at u.0 rest (sym (in_entry base tag k t u) ∙ e))) whole.under

  pub past_rest : (base : List ℤ) (tag : ℤ) (k at : ℕ) (rest : List ℤ) (ts : List Told) → at + 1 ≤ k → Group base tag k ts → Puts (base ++ (tag ∷ pos at ∷ rest)) ts ts
  past_rest base tag k at rest ts far group =
      past_list (From base tag k) (base ++ (tag ∷ pos at ∷ rest)) ts
      (λ (t : Told) (f : From base tag k t) (e : t.path ≡ base ++ (tag ∷ pos at ∷ rest)).
      let same : f.0 ≡ at = same_place base tag tag f.0 at f.1 rest (sym f.3 ∙ e) in let near = f.2 in omega arith) group.from

  pub past_other : (base : List ℤ) (tag number place : ℤ) (rest : List ℤ) (ts : List Told) → (tag ≡ number → ⊥) → Group base tag 0 ts → Puts (base ++ (number ∷ place ∷ rest)) ts ts
  past_other base tag number place rest ts other group =
      past_list (From base tag 0) (base ++ (number ∷ place ∷ rest)) ts
      (λ (t : Told) (f : From base tag 0 t) (e : t.path ≡ base ++ (number ∷ place ∷ rest)). other (same_number base tag number (pos f.0) place f.1 rest (sym f.3 ∙ e))) group.from

  pub past_none : (base : List ℤ) (tag number : ℤ) (n : ℕ) (rest : List ℤ) (ts : List Told) → Group base tag 0 ts → Puts (base ++ (number ∷ negsuc n ∷ rest)) ts ts
  past_none base tag number n rest ts group =
      past_list (From base tag 0) (base ++ (number ∷ negsuc n ∷ rest)) ts
      (λ (t : Told) (f : From base tag 0 t) (e : t.path ≡ base ++ (number ∷ negsuc n ∷ rest)).
      no_place f.0 f.1 (same_behind base (tag ∷ pos f.0 ∷ f.1) (number ∷ negsuc n ∷ rest) (sym f.3 ∙ e))) group.from
    where
      no_place : (k : ℕ) (more : List ℤ) → tag ∷ pos k ∷ more ≡ number ∷ negsuc n ∷ rest → ⊥
      no_place k more e = absurd (cc e)

  -- a path of fewer than two steps behind that of a record leads to none of its entries
  pub past_short : (base path : List ℤ) (ts : List Told) → ((tag place : ℤ) (more : List ℤ) → tag ∷ place ∷ more ≡ path → ⊥) → AllByRecursion (Beyond base) ts → Puts (base ++ path) ts ts
  past_short base path ts short all =
      past_list (Beyond base) (base ++ path) ts
      (λ (t : Told) (b : Beyond base t) (e : t.path ≡ base ++ path). short b.0 (pos b.1) b.2 (same_behind base (b.0 ∷ pos b.1 ∷ b.2) path (sym b.3 ∙ e))) all

  module _ {A : Type 0} (base : List ℤ) (list : ℕ) (one : ℕ → A → List Told) (whole : (k : ℕ) (x : A) → Whole (entry base (pos list) k) (one k x)) (f : A → A) (rest : List ℤ)
      (there : (k : ℕ) (x : A) → Puts (entry base (pos list) k ++ rest) (one k x) (one k (f x))) where
    at_told : (at n k : ℕ) → k + n ≡ at → (xs : List A) → Puts (base ++ (pos list ∷ pos at ∷ rest)) (each one k xs) (each one k (with_at n f xs))
    at_told at n k is [] = tt
    at_told at zero k is (x ∷ xs) =
        let here : k ≡ at = omega arith in
        zip_append (IsPut o (base ++ (pos list ∷ pos at ∷ rest))) (one k x) (one k (f x)) (each one (k + 1) xs) (each one (k + 1) xs)
        (subst (λ (j : ℕ). Puts (base ++ (pos list ∷ pos j ∷ rest)) (one k x) (one k (f x))) here (into_entry base (pos list) k rest (one k x) (one k (f x)) (there k x)))
        (past_rest base (pos list) (k + 1) at rest (each one (k + 1) xs) (omega arith) (each_group base (pos list) one whole (k + 1) xs))
    at_told at (suc n) k is (x ∷ xs) =
        zip_append (IsPut o (base ++ (pos list ∷ pos at ∷ rest))) (one k x) (one k x) (each one (k + 1) xs) (each one (k + 1) (with_at n f xs))
        (past_entry base (pos list) k at rest (one k x) (λ same. omega arith) (whole k x))
        (at_told at n (k + 1) (omega arith) xs)

    pub in_told : (number place : ℤ) (xs : List A) → Puts (base ++ (number ∷ place ∷ rest)) (each one 0 xs) (each one 0 (put_in list f number place xs))
    in_told number (negsuc n) xs = past_none base (pos list) number n rest (each one 0 xs) (each_group base (pos list) one whole 0 xs)
    in_told number (pos at) xs = by (int_eq number (pos list)) refl where
      by : (b : Bool) → int_eq number (pos list) ≡ b → Puts (base ++ (number ∷ pos at ∷ rest)) (each one 0 xs) (each one 0 (cond b (with_at at f xs) xs))
      by true e =
          subst (λ (n : ℤ). Puts (base ++ (n ∷ pos at ∷ rest)) (each one 0 xs) (each one 0 (with_at at f xs))) (sym ((Decides-int_eq number (pos list)).0 e)) (at_told at at 0 (omega arith) xs)
      by false e = past_other base (pos list) number (pos at) rest (each one 0 xs) (λ same. cc ((Decides-int_eq number (pos list)).1 (sym same), e)) (each_group base (pos list) one whole 0 xs)

  -- ---- records
  -- the options of a record itself
  pub own_told : (scope : OptionScope) (path : List ℤ) (number : ℤ) (name : List ℕ) (x : Option OptionsContent) (rest : List ℤ)
      → IsPut o (path ++ rest) (tells scope path number name x) (tells scope path number name (own_put rest o x))
  own_told scope path number name x [] = (λ e. refl, λ other. absurd (other (sym (append-nil path))))
  own_told scope path number name x (n ∷ rest) = idle_one (path ++ (n ∷ rest)) (tells scope path number name x) (is_longer path n rest)

  pub field_told : (base : List ℤ) (scope : List ℕ) (rest : List ℤ) (k : ℕ) (f : FieldContent) → Puts (entry base (pos 2) k ++ rest) (field_tells base scope k f) (field_tells base scope k (field_put rest o f))
  field_told base scope rest k f = (own_told scopes.Field (entry base (pos 2) k) (pos 8) (join scope (text_in f.name)) f.options rest, tt)

  pub oneof_told : (base : List ℤ) (scope : List ℕ) (rest : List ℤ) (k : ℕ) (x : OneofContent) → Puts (entry base (pos 8) k ++ rest) (oneof_tells base scope k x) (oneof_tells base scope k (oneof_put rest o x))
  oneof_told base scope rest k x = (own_told scopes.Oneof (entry base (pos 8) k) (pos 2) (join scope (text_in x.name)) x.options rest, tt)

  value_told : (base : List ℤ) (scope : List ℕ) (rest : List ℤ) (k : ℕ) (v : EnumValueContent) → Puts (entry base (pos 2) k ++ rest) (value_tells base scope k v) (value_tells base scope k (value_put rest o v))
  value_told base scope rest k v = (own_told scopes.EnumValue (entry base (pos 2) k) (pos 3) (join scope (text_in v.name)) v.options rest, tt)

  method_told : (base : List ℤ) (scope : List ℕ) (rest : List ℤ) (k : ℕ) (m : MethodContent) → Puts (entry base (pos 2) k ++ rest) (method_tells base scope k m) (method_tells base scope k (method_put rest o m))
  method_told base scope rest k m = (own_told scopes.Method (entry base (pos 2) k) (pos 4) (join scope (text_in m.name)) m.options rest, tt)

  pub range_told : (base : List ℤ) (name : List ℕ) (rest : List ℤ) (k : ℕ) (r : ExtensionRangeContent) → Puts (entry base (pos 5) k ++ rest) (range_tells base name k r) (range_tells base name k (range_put rest o r))
  range_told base name rest k r = (own_told scopes.ExtensionRange (entry base (pos 5) k) (pos 3) name r.options rest, tt)

  pub extension_told : (base : List ℤ) (tag : ℤ) (scope : List ℕ) (rest : List ℤ) (k : ℕ) (x : FieldContent)
      → Puts (entry base tag k ++ rest) (extension_tells base tag scope k x) (extension_tells base tag scope k (field_put rest o x))
  extension_told base tag scope rest k x = (own_told scopes.Field (entry base tag k) (pos 8) (join scope (text_in x.name)) x.options rest, tt)

  -- a list of entries behind a path of fewer than two steps
  pub short_list : {A : Type 0} (base path : List ℤ) (tag : ℤ) (one : ℕ → A → List Told) → ((k : ℕ) (x : A) → Whole (entry base tag k) (one k x))
      → ((tag place : ℤ) (more : List ℤ) → tag ∷ place ∷ more ≡ path → ⊥) → (xs : List A) → Puts (base ++ path) (each one 0 xs) (each one 0 xs)
  short_list base path tag one whole short xs =
      past_short base path (each one 0 xs) short
      (all_through (From base tag 0) (Beyond base) (each one 0 xs) (λ (t : Told) (f : From base tag 0 t). (tag, f.0, f.1, f.3)) (each_group base tag one whole 0 xs).from)

  pub enum_told : (base : List ℤ) (tag : ℤ) (scope : List ℕ) (rest : List ℤ) (k : ℕ) (e : EnumContent) → Puts (entry base tag k ++ rest) (enum_tells base tag scope k e) (enum_tells base tag scope k (enum_put rest o e))
  enum_told base tag scope [] k e =
      let at = entry base tag k in
      (own_told scopes.Enum at (pos 3) (join scope (text_in e.name)) e.options [], short_list at [] (pos 2) (value_tells at scope) (value_whole at scope) no_steps e.value)
  enum_told base tag scope (number ∷ []) k e =
      let at = entry base tag k in
      (own_told scopes.Enum at (pos 3) (join scope (text_in e.name)) e.options (number ∷ []), short_list at (number ∷ []) (pos 2) (value_tells at scope) (value_whole at scope) (one_step number) e.value)
  enum_told base tag scope (number ∷ place ∷ rest) k e =
      let at = entry base tag k in (
        own_told scopes.Enum at (pos 3) (join scope (text_in e.name)) e.options (number ∷ place ∷ rest),
        in_told at 2 (value_tells at scope) (value_whole at scope) (value_put rest o) rest (value_told at scope rest) number place e.value,
      )

  pub service_told : (scope : List ℕ) (rest : List ℤ) (k : ℕ) (s : ServiceContent) → Puts (entry [] (pos 6) k ++ rest) (service_tells scope k s) (service_tells scope k (service_put rest o s))
  service_told scope [] k s =
      let at = entry [] (pos 6) k in
      let name = join scope (text_in s.name) in
      (own_told scopes.Service at (pos 3) name s.options [], short_list at [] (pos 2) (method_tells at name) (method_whole at name) no_steps s.method)
  service_told scope (number ∷ []) k s =
      let at = entry [] (pos 6) k in
      let name = join scope (text_in s.name) in
      (own_told scopes.Service at (pos 3) name s.options (number ∷ []), short_list at (number ∷ []) (pos 2) (method_tells at name) (method_whole at name) (one_step number) s.method)
  service_told scope (number ∷ place ∷ rest) k s =
      let at = entry [] (pos 6) k in
      let name = join scope (text_in s.name) in (
        own_told scopes.Service at (pos 3) name s.options (number ∷ place ∷ rest),
        in_told at 2 (method_tells at name) (method_whole at name) (method_put rest o) rest (method_told at name rest) number place s.method,
      )
