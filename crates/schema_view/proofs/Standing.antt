-- The fields and extensions that stand in linked files, and how a view finds them.
use Rattle.std.proofs.Common.{◌≡◌, ℕ, ℤ, pos, negsuc, List, [], ◌∷◌, ◌++◌, ◌⊎◌, inl, inr, Bool, true, false, cond, ◌&&◌, ◌==◌, Option, Some, None, refl, sym, ap, ◌∙◌, subst, arith}
use Rattle.std.specs.List.{Contains}
use Rattle.std.specs.Option.{option_and_then, option_map}
use Rattle.std.proofs.lemmas.List.Elements.{Contains-append_right}
use Rattle.descriptor_records.specs.Content.{Text, FieldContent, FileContent}
use Rattle.protobuf_model.specs.Types.{Scalar, Frame, sized, tagged, scalar, nested, Part, Key, one, many, keyed, Field, oneof_of}
use Rattle.schema_view.specs.Files.{join, text_of, is_proto3}
use Rattle.schema_view.specs.Declarations.{MessageFacts, Body, of_message, of_field, of_oneof, of_enum, of_value, of_service, of_method, of_extension, Declaration, declarations}
use Rattle.schema_view.specs.References.{a_type, Reference, to_message, to_type, references_of, references}
use Rattle.schema_view.specs.Outlines.{Sort, Outline, outline_of, head_of, IsDeclared}
use Rattle.schema_view.specs.Means.{HasType as HasSortType}
use Rattle.schema_view.specs.Rules.{IsField, HasType, IsSound}
use Rattle.schema_view.specs.Lawful.{outlines, has_key}
use Rattle.schema_view.specs.Views.{Held, View, when, extension_at, view_of}
use Rattle.schema_view.specs.Fields.{is_repeated, is_packed}
use Rattle.schema_view.specs.Types.{undotted, type_name, message_in, field_in, message_at, field_at, is_proto3_at, scalar_of, kind_by, part_of, named_in, name_of_field, names_entry, entry_part, key_of, map_field, plain_field, held_field, extension_named}
use Rattle.schema_view.proofs.Lists.{contains_here, contains_map_cases, contains_flat, first_from}
use Rattle.schema_view.proofs.Agreeing.{IsTyped}
use Rattle.schema_view.proofs.Targets.{type_in}
use Rattle.schema_view.proofs.Road.{AreLinked, after_dot}
use Rattle.schema_view.proofs.Orders.{when_true}
use Rattle.schema_view.proofs.Looking.{Declared, looked_up, from_there, fields_declared}

pub after_is : (t : Text) → after_dot t ≡ undotted t
after_is [] = refl
after_is (b ∷ t) = refl

-- what is declared in the outlines is so in the files
pub declared_in : (fs : List FileContent) (n : Text) (s : Sort) → IsDeclared (outlines fs) n s → Declared fs n
declared_in fs n s (o, h, i, j, e, is) =
    let f = contains_map_cases outline_of fs o i in
    let d = contains_map_cases head_of (declarations f.0) h (subst (λ (x : Outline). Contains x.heads h) (sym f.2) j) in
    (f.0, d.0, f.1, d.1, ap (λ (x : _). x.name) d.2 ∙ e)

-- a field or an extension that stands in one of the files
pub record StandsIn (fs : List FileContent) (c : FieldContent) : Type 0 where
  pub file : FileContent
  pub declaration : Declaration
  pub there : Contains fs file
  pub inside : Contains (declarations file) declaration
  pub is : field_in declaration.body ≡ Some c

to_type_there : (n : Text) (type : Option ℤ) (name : Option Text) (t : Text) → name ≡ Some t → Contains (to_type n type name) (record { want = a_type type; scope = n; name = t })
to_type_there n type None t e = let no : None ≡ Some t = e in absurd (cc)
to_type_there n type (Some s) t e =
    let same : s ≡ t = cc in
    subst (λ x. Contains (to_type n type (Some s)) (record { want = a_type type; scope = n; name = x })) same (contains_here (record { want = a_type type; scope = n; name = s }) [])

same_content : (b c : FieldContent) → Some b ≡ Some c → b ≡ c
same_content b c e = cc

refers : (n : Text) (b : Body) (c : FieldContent) (t : Text) → field_in b ≡ Some c → c.type_name ≡ Some t
    → Contains (references_of (record { name = n; body = b })) (record { want = a_type c.field_type; scope = n; name = t })
refers n (of_field f) c t e h =
    subst (λ (x : FieldContent). Contains (to_type n f.field_type f.type_name) (record { want = a_type x.field_type; scope = n; name = t })) (same_content f c e)
    (to_type_there n f.field_type f.type_name t (ap (λ (x : FieldContent). x.type_name) (same_content f c e) ∙ h))
refers n (of_extension f) c t e h =
    subst (λ (x : FieldContent). Contains (to_message n f.extendee ++ to_type n f.field_type f.type_name) (record { want = a_type x.field_type; scope = n; name = t })) (same_content f c e)
    (Contains-append_right (to_message n f.extendee) (to_type n f.field_type f.type_name) _ (to_type_there n f.field_type f.type_name t (ap (λ (x : FieldContent). x.type_name) (same_content f c e) ∙ h)))
refers n (of_message m) c t e h = let no : None ≡ Some c = e in absurd (cc)
refers n (of_oneof o) c t e h = let no : None ≡ Some c = e in absurd (cc)
refers n (of_enum m) c t e h = let no : None ≡ Some c = e in absurd (cc)
refers n (of_value v) c t e h = let no : None ≡ Some c = e in absurd (cc)
refers n (of_service s) c t e h = let no : None ≡ Some c = e in absurd (cc)
refers n (of_method m) c t e h = let no : None ≡ Some c = e in absurd (cc)

-- the type of a field is declared, where it has a name, as one of the number that the field gives
pub record IsTypeOf (fs : List FileContent) (c : FieldContent) (full : Text) : Type 0 where
  pub sort : Sort
  pub declared : IsDeclared (outlines fs) full sort
  pub number : HasSortType sort (type_in (a_type c.field_type))
  pub typed : IsTyped (a_type c.field_type)

pub type_there : (fs : List FileContent) → AreLinked fs → (c : FieldContent) → StandsIn fs c → (t : Text) → c.type_name ≡ Some t → IsTypeOf fs c (undotted t)
type_there fs l c s t e =
    let r : Reference = record { want = a_type c.field_type; scope = s.declaration.name; name = t } in
    let i : Contains (references s.file) r = contains_flat references_of (declarations s.file) s.declaration r s.inside (refers s.declaration.name s.declaration.body c t s.is e) in
    let own = l.each s.file s.there in
    let n = own.numbers r i in
    subst (IsTypeOf fs c) (after_is t) (record { sort = n.0; declared = n.1; number = n.2; typed = own.typed r i })

pub type_declared : (fs : List FileContent) → AreLinked fs → (c : FieldContent) → StandsIn fs c → (t : Text) → c.type_name ≡ Some t → Declared fs (undotted t)
type_declared fs l c s t e = let x = type_there fs l c s t e in declared_in fs (undotted t) x.sort x.declared

pub and_false : (b : Bool) → (b && false) ≡ false
and_false true = refl
and_false false = refl

-- extensions are in no oneof
pub plain_none : (p : Bool) (c : FieldContent) (o : Option Part) → oneof_of (option_map (λ q. record { part = q; label = cond (is_repeated c) (many (is_packed p c)) one; oneof = None; extension = true }) o) ≡ None
plain_none p c None = refl
plain_none p c (Some q) = refl

pub keyed_none : (q : Part) (o : Option Key) → oneof_of (option_map (λ k. record { part = q; label = keyed k; oneof = None; extension = true }) o) ≡ None
keyed_none q None = refl
keyed_none q (Some k) = refl

pub map_none : (key value : Option Part) → oneof_of (option_and_then (λ q. option_map (λ k. record { part = q; label = keyed k; oneof = None; extension = true }) (option_and_then key_of key)) value) ≡ None
map_none key None = refl
map_none key (Some q) = keyed_none q (option_and_then key_of key)

pub either_none : (b : Bool) (f g : Option Field) → oneof_of f ≡ None → oneof_of g ≡ None → oneof_of (cond b f g) ≡ None
either_none true f g e h = e
either_none false f g e h = h

pub named_none : (v : View) (name : Text) → oneof_of (extension_named v name) ≡ None
named_none v name = by (field_at v name) where
  by : (o : Option FieldContent) → oneof_of (option_and_then (held_field v (is_proto3_at v name) true None) o) ≡ None
  by None = refl
  by (Some c) = either_none (is_repeated c && names_entry v c) (map_field v true None c) (plain_field v (is_proto3_at v name) true None c)
      (map_none (entry_part v (type_name c) 1) (entry_part v (type_name c) 2)) (plain_none (is_proto3_at v name) c (part_of v (is_proto3_at v name) true c))

-- a message is named by the type's name, and its number is 10 or 11
abbrev pub IsMessageType : Option ℤ → Type 0
IsMessageType o = (o ≡ Some (pos 10)) ⊎ (o ≡ Some (pos 11))

pub no_nested : (o : Option Scalar) (frame : Frame) (u : Text) → option_map scalar o ≡ Some (nested frame u) → ⊥
no_nested None frame u e = let no : None ≡ Some (nested frame u) = e in absurd (cc)
no_nested (Some k) frame u e = absurd (cc)

pub nested_name : (type : Option ℤ) (name : Text) (frame : Frame) (u : Text) → kind_by type name ≡ Some (nested frame u) → (name ≡ u) × IsMessageType type
nested_name None name frame u e = let no : None ≡ Some (nested frame u) = e in absurd (cc)
nested_name (Some (negsuc n)) name frame u e = let no : None ≡ Some (nested frame u) = e in absurd (cc)
nested_name (Some (pos n)) name frame u e = by (n == 10) refl (n == 11) refl e where
  by : (b : Bool) → (n == 10) ≡ b → (c : Bool) → (n == 11) ≡ c → cond b (Some (nested tagged name)) (cond c (Some (nested sized name)) (option_map scalar (scalar_of n))) ≡ Some (nested frame u) → (name ≡ u) × IsMessageType (Some (pos n))
  by true is c isnt h = let same : n ≡ 10 = grind (arith, is) in (cc, inl (ap (λ k. Some (pos k)) same))
  by false is true so h = let same : n ≡ 11 = grind (arith, so) in (cc, inr (ap (λ k. Some (pos k)) same))
  by false is false so h = absurd (no_nested (scalar_of n) frame u h)

pub no_message_type : (type : Option ℤ) → IsMessageType type → HasType type None → ⊥
no_message_type type (inl e) h = let no : false ≡ true = subst (λ o. HasType o None) e h in absurd (cc)
no_message_type type (inr e) h = let no : false ≡ true = subst (λ o. HasType o None) e h in absurd (cc)

-- what stands in linked files keeps the rules
sound_in : (proto3 : Bool) (b : Body) (c : FieldContent) → field_in b ≡ Some c → IsSound proto3 b → IsField c
sound_in proto3 (of_field f) c e h = subst IsField (same_content f c e) h
sound_in proto3 (of_extension f) c e h = subst IsField (same_content f c e) h.0
sound_in proto3 (of_message m) c e h = let no : None ≡ Some c = e in absurd (cc)
sound_in proto3 (of_oneof m) c e h = let no : None ≡ Some c = e in absurd (cc)
sound_in proto3 (of_enum m) c e h = let no : None ≡ Some c = e in absurd (cc)
sound_in proto3 (of_value m) c e h = let no : None ≡ Some c = e in absurd (cc)
sound_in proto3 (of_service m) c e h = let no : None ≡ Some c = e in absurd (cc)
sound_in proto3 (of_method m) c e h = let no : None ≡ Some c = e in absurd (cc)

pub field_sound : (fs : List FileContent) → AreLinked fs → (c : FieldContent) → StandsIn fs c → IsField c
field_sound fs l c s = sound_in (is_proto3 s.file) s.declaration.body c s.is ((l.each s.file s.there).sound s.declaration s.inside)

-- a name under which a field stands
abbrev pub NamesField : List FileContent → Text → FieldContent → Type 0
NamesField fs n c = (f : FileContent) × (d : Declaration) × Contains fs f × Contains (declarations f) d × (d.name ≡ n) × (field_in d.body ≡ Some c)

pub stands : (fs : List FileContent) (n : Text) (c : FieldContent) → NamesField fs n c → StandsIn fs c
stands fs n c (f, d, i, j, e, is) = record { file = f; declaration = d; there = i; inside = j; is = is }

module _ (fs : List FileContent) (l : AreLinked fs) where
  abbrev V : View
  V = view_of fs

  pub found : (n : Text) (c : FieldContent) → NamesField fs n c → field_at V n ≡ Some c
  found n c (f, d, i, j, e, is) =
      subst (λ m. field_at V m ≡ Some c) e (ap (λ o. option_and_then field_in (option_map (λ (x : Held). x.body) o)) (looked_up fs l f d i j) ∙ is)

  -- the name of a message's field is that of a declared one
  pub message_there : (t : Text) (m : MessageFacts) → message_at V t ≡ Some m → (f : FileContent) × Contains fs f × Contains (declarations f) (record { name = t; body = of_message m })
  message_there t m e = by (V.declared t) refl e where
    is_message : (b : Body) → message_in b ≡ Some m → b ≡ of_message m
    is_message (of_message k) e = cc
    is_message (of_field f) e = let no : None ≡ Some m = e in absurd (cc)
    is_message (of_oneof f) e = let no : None ≡ Some m = e in absurd (cc)
    is_message (of_enum f) e = let no : None ≡ Some m = e in absurd (cc)
    is_message (of_value f) e = let no : None ≡ Some m = e in absurd (cc)
    is_message (of_service f) e = let no : None ≡ Some m = e in absurd (cc)
    is_message (of_method f) e = let no : None ≡ Some m = e in absurd (cc)
    is_message (of_extension f) e = let no : None ≡ Some m = e in absurd (cc)

    by : (o : Option Held) → V.declared t ≡ o → option_and_then message_in (option_map (λ (h : Held). h.body) o) ≡ Some m
        → (f : FileContent) × Contains fs f × Contains (declarations f) (record { name = t; body = of_message m })
    by None e h = let no : None ≡ Some m = h in absurd (cc)
    by (Some h) e k =
        let x = from_there fs t h e in
        let body : x.1.body ≡ of_message m = is_message x.1.body (ap (λ (y : Held). message_in y.body) (sym x.5) ∙ k) in
        (x.0, x.2, subst (λ b. Contains (declarations x.0) (record { name = t; body = b })) body (subst (λ n. Contains (declarations x.0) (record { name = n; body = x.1.body })) x.4 x.3))

  pub field_there : (t : Text) (n : ℕ) (name : Text) → name_of_field V t n ≡ Some name → (c : FieldContent) × NamesField fs name c
  field_there t n name e = by (message_at V t) refl e where
    by : (o : Option MessageFacts) → message_at V t ≡ o → option_and_then (named_in t n) o ≡ Some name → (c : FieldContent) × NamesField fs name c
    by None is h = let no : None ≡ Some name = h in absurd (cc)
    by (Some m) is h =
        let x = first_from (λ f. when (_) (join t (text_of f.name))) m.fields name h in
        let at = message_there t m is in
        let c = fields_declared at.0 t m at.2 x.0 x.1 in
        (c.0, (at.0, record { name = join t (text_of x.0.name); body = of_field c.0 }, at.1, c.1, when_is _ (join t (text_of x.0.name)) name x.2, refl)) where
          when_is : (b : Bool) (x y : Text) → when b x ≡ Some y → x ≡ y
          when_is true x y e = cc
          when_is false x y e = let no : None ≡ Some y = e in absurd (cc)

  pub extension_there : (t : Text) (n : ℤ) (name : Text) → V.extensions (t, n) ≡ Some name → (c : FieldContent) × NamesField fs name c
  extension_there t n name e =
      let f = first_from (extension_at (t, n)) fs name e in
      let d = first_from (λ d. when (has_key (t, n) d.body) d.name) (declarations f.0) name f.2 in
      let c = is_extension d.0.body (when_true (has_key (t, n) d.0.body) d.0.name name d.2) in
      (c.0, (f.0, d.0, f.1, d.1, when_is (has_key (t, n) d.0.body) d.0.name name d.2, c.1)) where
        when_is : (b : Bool) (x y : Text) → when b x ≡ Some y → x ≡ y
        when_is true x y e = cc
        when_is false x y e = let no : None ≡ Some y = e in absurd (cc)

        is_extension : (b : Body) → has_key (t, n) b ≡ true → (c : FieldContent) × (field_in b ≡ Some c)
        is_extension (of_extension x) e = (x, refl)
        is_extension (of_message m) e = let no : false ≡ true = e in absurd (cc)
        is_extension (of_field f) e = let no : false ≡ true = e in absurd (cc)
        is_extension (of_oneof o) e = let no : false ≡ true = e in absurd (cc)
        is_extension (of_enum m) e = let no : false ≡ true = e in absurd (cc)
        is_extension (of_value m) e = let no : false ≡ true = e in absurd (cc)
        is_extension (of_service m) e = let no : false ≡ true = e in absurd (cc)
        is_extension (of_method m) e = let no : false ≡ true = e in absurd (cc)
