-- What the view of linked files gives under the name of a declaration, and what stays so when files come.
use Rattle.std.proofs.Common.{◌≡◌, ◌≤◌, ℕ, List, ◌∷◌, ◌++◌, inl, inr, map, length, Bool, true, false, cond, Some, refl, sym, ap, ◌∙◌, subst, sum_by, arith}
use Rattle.std.specs.List.{Contains, flat_map}
use Rattle.std.specs.Str.{bytes_eq}
use Rattle.std.proofs.lemmas.Slice.Eq.{bytes_eq-Decides}
use Rattle.std.proofs.lemmas.List.Elements.{Contains-append_left, Contains-append_right, Contains-append_cases}
use Rattle.descriptor_records.specs.Content.{Text, FieldContent, EnumContent, ServiceContent, MessageContent, message, MessageContents, no_messages, more_messages, FileContent}
use Rattle.schema_view.specs.Files.{text_of, join, file_name, package_of}
use Rattle.schema_view.specs.Declarations.{FieldFacts, facts_of, MessageFacts, Body, of_message, of_field, Declaration, one_field, one_oneof, one_extension, one_value, one_enum, one_method, one_service, in_message, in_messages, declarations}
use Rattle.schema_view.specs.Outlines.{Outline, outline_of, Head, head_of, times}
use Rattle.schema_view.specs.Lawful.{outlines}
use Rattle.schema_view.specs.Views as views
use Rattle.schema_view.specs.Views.{FileFacts, Held, when, file_at, declared_at, view_of}
use Rattle.schema_view.proofs.Lists.{contains_none, contains_there, contains_cases, contains_map, contains_map_cases, contains_flat, contains_flat_cases, sum_map, sum_some, sum_same, one_of, first_from, first_some}
use Rattle.schema_view.proofs.Orders.{when_true}
use Rattle.schema_view.proofs.Road.{AreLinked}

same_name : (m n : Text) → m ≡ n → bytes_eq m n ≡ true
same_name m n e = (bytes_eq-Decides m n).1 e

one_where : (b : Bool) → b ≡ true → 1 ≤ cond b 1 0
one_where true e = omega arith
one_where false e = absurd (cc)

-- how often the declarations of a file have the name
abbrev named_in : Text → FileContent → ℕ
named_in n f = sum_by (λ d. cond (bytes_eq d.name n) 1 0) (declarations f)

named_once : (fs : List FileContent) → AreLinked fs → (n : Text) → sum_by (named_in n) fs ≤ 1
named_once fs l n =
    let le = l.apart.names n in
    let is : sum_by (λ o. times n (map (λ h. h.name) o.heads)) (outlines fs) ≡ sum_by (named_in n) fs = sum_map (λ (o : Outline). times n (map (λ h. h.name) o.heads)) outline_of fs ∙ each fs in
    omega arith where
      one : (f : FileContent) → times n (map (λ h. h.name) (outline_of f).heads) ≡ named_in n f
      one f = sum_map (λ (x : Text). cond (bytes_eq x n) 1 0) (λ (h : Head). h.name) (map head_of (declarations f)) ∙ sum_map (λ (h : Head). cond (bytes_eq h.name n) 1 0) head_of (declarations f)

      each : (gs : List FileContent) → sum_by (λ f. times n (map (λ h. h.name) (outline_of f).heads)) gs ≡ sum_by (named_in n) gs
      each gs = sum_same (λ f. times n (map (λ h. h.name) (outline_of f).heads)) (named_in n) one gs

counted : (f : FileContent) (d : Declaration) (n : Text) → Contains (declarations f) d → d.name ≡ n → 1 ≤ named_in n f
counted f d n i e =
    let one = one_where (bytes_eq d.name n) (same_name d.name n e) in
    let some = sum_some (λ (d : Declaration). cond (bytes_eq d.name n) 1 0) (declarations f) d i in
    omega arith

-- declarations of one name are one, in one file
pub one_declaration : (fs : List FileContent) → AreLinked fs → (f g : FileContent) (d e : Declaration) → Contains fs f → Contains fs g → Contains (declarations f) d → Contains (declarations g) e → d.name ≡ e.name → (f ≡ g) × (d ≡ e)
one_declaration fs l f g d e i j k m is =
    let file : f ≡ g = one_of (named_in e.name) fs f g (named_once fs l e.name) i j (counted f d e.name k is) (counted g e e.name m refl) in
    let here : Contains (declarations f) e = subst (λ x. Contains (declarations x) e) (sym file) m in
    let few : named_in e.name f ≤ 1 = (let some = sum_some (named_in e.name) fs f i in let all = named_once fs l e.name in omega arith) in
    (file, one_of (λ (x : Declaration). cond (bytes_eq x.name e.name) 1 0) (declarations f) d e few k here (one_where (bytes_eq d.name e.name) (same_name d.name e.name is)) (one_where (bytes_eq e.name e.name) (same_name e.name e.name refl)))

abbrev pub held_by : FileContent → Declaration → Held
held_by f d = record { body = d.body; file = file_name f }

-- under a name stands its declaration
pub looked_up : (fs : List FileContent) → AreLinked fs → (f : FileContent) (d : Declaration) → Contains fs f → Contains (declarations f) d → (view_of fs).declared d.name ≡ Some (held_by f d)
looked_up fs l f d i j =
    let inside = first_some (λ e. when (bytes_eq e.name d.name) (held_by f e)) (declarations f) d (held_by f d) j (ap (λ b. when b (held_by f d)) (same_name d.name d.name refl)) in
    let found = first_some (declared_at d.name) fs f inside.0 i inside.1 in
    let g = first_from (declared_at d.name) fs found.0 found.1 in
    let e = first_from (λ e. when (bytes_eq e.name d.name) (held_by g.0 e)) (declarations g.0) found.0 g.2 in
    let named : e.0.name ≡ d.name = (bytes_eq-Decides e.0.name d.name).0 (when_true (bytes_eq e.0.name d.name) _ found.0 e.2) in
    let same = one_declaration fs l g.0 f e.0 d g.1 i e.1 j named in
    let is : held_by g.0 e.0 ≡ found.0 = some_is (held_by g.0 e.0) found.0 (sym (ap (λ b. when b (held_by g.0 e.0)) (same_name e.0.name d.name named)) ∙ e.2) in
    found.1 ∙ ap Some (sym is ∙ ap (λ x. held_by x e.0) same.0 ∙ ap (held_by f) same.1) where
      some_is : (x y : Held) → Some x ≡ Some y → x ≡ y
      some_is x y e = cc

-- what stands under a name is a declaration of it
pub from_there : (fs : List FileContent) (n : Text) (h : Held) → (view_of fs).declared n ≡ Some h
    → (f : FileContent) × (d : Declaration) × Contains fs f × Contains (declarations f) d × (d.name ≡ n) × (h ≡ held_by f d)
from_there fs n h e =
    let f = first_from (declared_at n) fs h e in
    let d = first_from (λ d. when (bytes_eq d.name n) (held_by f.0 d)) (declarations f.0) h f.2 in
    let named : d.0.name ≡ n = (bytes_eq-Decides d.0.name n).0 (when_true (bytes_eq d.0.name n) _ h d.2) in
    let is : Some (held_by f.0 d.0) ≡ Some h = sym (ap (λ b. when b (held_by f.0 d.0)) (same_name d.0.name n named)) ∙ d.2 in
    (f.0, d.0, f.1, d.1, named, cc)

-- a file stands under its name
pub file_there : (fs : List FileContent) (f : FileContent) → Contains fs f → (x : FileFacts) × ((view_of fs).files (file_name f) ≡ Some x)
file_there fs f i = first_some (file_at (file_name f)) fs f (views.facts_of f) i (ap (λ b. when b (views.facts_of f)) (same_name (file_name f) (file_name f) refl))

-- a name is that of a declaration
abbrev pub Declared : List FileContent → Text → Type 0
Declared fs n = (f : FileContent) × (d : Declaration) × Contains fs f × Contains (declarations f) d × (d.name ≡ n)

abbrev is_message : Body → Bool
is_message (of_message m) = true
is_message _ = false

abbrev NoMessage : List Declaration → Type 0
NoMessage ds = (d : Declaration) → Contains ds d → is_message d.body ≡ false

no_message : (ds : List Declaration) (t : Text) (m : MessageFacts) → NoMessage ds → Contains ds (record { name = t; body = of_message m }) → ⊥
no_message ds t m none i = let no : true ≡ false = none (record { name = t; body = of_message m }) i in absurd (cc)

each_other : {X : Type 0} (one : X → Declaration) → ((x : X) → is_message (one x).body ≡ false) → (xs : List X) → NoMessage (map one xs)
each_other one is xs d i = let x = contains_map_cases one xs d i in subst (λ (e : Declaration). is_message e.body ≡ false) x.2 (is x.0)

enums_other : (n : Text) (es : List EnumContent) → NoMessage (flat_map (one_enum n) es)
enums_other n es d i =
    let e = contains_flat_cases (one_enum n) es d i in
    elim (contains_cases _ (map (one_value n) e.0.value) d e.2) [
      | inl is ↦ subst (λ (x : Declaration). is_message x.body ≡ false) is refl
      | inr j ↦ each_other (one_value n) (λ v. refl) e.0.value d j
    ]

services_other : (n : Text) (ss : List ServiceContent) → NoMessage (flat_map (one_service n) ss)
services_other n ss d i =
    let s = contains_flat_cases (one_service n) ss d i in
    elim (contains_cases _ (map (one_method (join n (text_of s.0.name))) s.0.method) d s.2) [
      | inl is ↦ subst (λ (x : Declaration). is_message x.body ≡ false) is refl
      | inr j ↦ each_other (one_method (join n (text_of s.0.name))) (λ m. refl) s.0.method d j
    ]

-- the fields of a declared message are declared
abbrev HasFields : List Declaration → Text → MessageFacts → Type 0
HasFields ds t m = (x : FieldFacts) → Contains m.fields x → (f : FieldContent) × Contains ds (record { name = join t (text_of x.name); body = of_field f }) × (facts_of f ≡ x)

wider : (ds es : List Declaration) → ((d : Declaration) → Contains ds d → Contains es d) → (t : Text) (m : MessageFacts) → HasFields ds t m → HasFields es t m
wider ds es there t m h x i = let f = h x i in (f.0, there _ f.1, f.2)

own_fields : (n : Text) (fs : List FieldContent) (m : MessageFacts) → m.fields ≡ map facts_of fs → HasFields (map (one_field n) fs) n m
own_fields n fs m is x i =
    let f = contains_map_cases facts_of fs x (subst (λ xs. Contains xs x) is i) in
    (f.0, subst (λ (y : FieldFacts). Contains (map (one_field n) fs) (record { name = join n (text_of y.name); body = of_field f.0 })) f.2 (contains_map (one_field n) fs f.0 f.1), f.2)

same_facts : (n t : Text) (p m : MessageFacts) → ◌≡◌ {A = Declaration} (record { name = n; body = of_message p }) (record { name = t; body = of_message m }) → (n ≡ t) × (p ≡ m)
same_facts n t p m e =
    let body : of_message p ≡ of_message m = ap (λ (d : Declaration). d.body) e in
    (ap (λ (d : Declaration). d.name) e, facts body) where
      facts : of_message p ≡ of_message m → p ≡ m
      facts e = cc

mutual
  message_fields : (scope : Text) (g : MessageContent) (t : Text) (m : MessageFacts) → Contains (in_message scope g) (record { name = t; body = of_message m }) → HasFields (in_message scope g) t m
  message_fields scope (message name fs xs nested es rs os o rr rn) t m i =
      let n : Text = join scope (text_of name) in
      let own : MessageFacts = record { name = name; fields = map facts_of fs; oneofs = length os; extensions = rs; reserved = rr; reserved_names = rn; options = o } in
      let head : Declaration = record { name = n; body = of_message own } in
      let oneofs : List Declaration = map (one_oneof n) os in
      let extensions : List Declaration = map (one_extension n) xs in
      let enums : List Declaration = flat_map (one_enum n) es in
      let inner : List Declaration = in_messages n nested in
      let fields : List Declaration = map (one_field n) fs in
      let rest : List Declaration = fields ++ (inner ++ (enums ++ (extensions ++ oneofs))) in
      elim (contains_cases head rest (record { name = t; body = of_message m }) i) [
        | inl e ↦ (let s = same_facts n t own m e in
            wider fields (head ∷ rest) (λ d j. contains_there head rest d (Contains-append_left fields (inner ++ (enums ++ (extensions ++ oneofs))) d j)) t m
            (subst (λ u. HasFields fields u m) s.0 (own_fields n fs m (ap (λ (p : MessageFacts). p.fields) (sym s.1)))))
        | inr j ↦ (elim (Contains-append_cases fields (inner ++ (enums ++ (extensions ++ oneofs))) _ j) [
          | inl k ↦ absurd (no_message fields t m (each_other (one_field n) (λ f. refl) fs) k)
          | inr k ↦ (elim (Contains-append_cases inner (enums ++ (extensions ++ oneofs)) _ k) [
            | inl p ↦ wider inner (head ∷ rest) (λ d q. contains_there head rest d (Contains-append_right fields (inner ++ (enums ++ (extensions ++ oneofs))) d (Contains-append_left inner (enums ++ (extensions ++ oneofs)) d q))) t m (messages_fields n nested t m p)
            | inr p ↦ (elim (Contains-append_cases enums (extensions ++ oneofs) _ p) [
              | inl q ↦ absurd (no_message enums t m (enums_other n es) q)
              | inr q ↦ (elim (Contains-append_cases extensions oneofs _ q) [
                | inl r ↦ absurd (no_message extensions t m (each_other (one_extension n) (λ x. refl) xs) r)
                | inr r ↦ absurd (no_message oneofs t m (each_other (one_oneof n) (λ x. refl) os) r)
              ])
            ])
          ])
        ])
      ]

  messages_fields : (scope : Text) (gs : MessageContents) (t : Text) (m : MessageFacts) → Contains (in_messages scope gs) (record { name = t; body = of_message m }) → HasFields (in_messages scope gs) t m
  messages_fields scope no_messages t m i = absurd (contains_none _ i)
  messages_fields scope (more_messages g gs) t m i =
      elim (Contains-append_cases (in_message scope g) (in_messages scope gs) _ i) [
        | inl j ↦ wider (in_message scope g) (in_message scope g ++ in_messages scope gs) (λ d k. Contains-append_left (in_message scope g) (in_messages scope gs) d k) t m (message_fields scope g t m j)
        | inr j ↦ wider (in_messages scope gs) (in_message scope g ++ in_messages scope gs) (λ d k. Contains-append_right (in_message scope g) (in_messages scope gs) d k) t m (messages_fields scope gs t m j)
      ]

pub fields_declared : (f : FileContent) (t : Text) (m : MessageFacts) → Contains (declarations f) (record { name = t; body = of_message m }) → HasFields (declarations f) t m
fields_declared f t m i =
    let p : Text = package_of f in
    let messages : List Declaration = flat_map (in_message p) f.message_type in
    let enums : List Declaration = flat_map (one_enum p) f.enum_type in
    let services : List Declaration = flat_map (one_service p) f.service in
    let extensions : List Declaration = map (one_extension p) f.extension in
    elim (Contains-append_cases messages (enums ++ (services ++ extensions)) _ i) [
      | inl j ↦ (let g = contains_flat_cases (in_message p) f.message_type _ j in
          wider (in_message p g.0) (declarations f) (λ d k. Contains-append_left messages (enums ++ (services ++ extensions)) d (contains_flat (in_message p) f.message_type g.0 d g.1 k)) t m (message_fields p g.0 t m g.2))
      | inr j ↦ (elim (Contains-append_cases enums (services ++ extensions) _ j) [
        | inl k ↦ absurd (no_message enums t m (enums_other p f.enum_type) k)
        | inr k ↦ (elim (Contains-append_cases services extensions _ k) [
          | inl q ↦ absurd (no_message services t m (services_other p f.service) q)
          | inr q ↦ absurd (no_message extensions t m (each_other (one_extension p) (λ x. refl) f.extension) q)
        ])
      ])
    ]
