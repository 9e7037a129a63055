-- The type of a map's entries has the map's values under 2.
use Rattle.std.proofs.Common.{◌≡◌, ℕ, pos, List, [], ◌∷◌, inl, inr, ◌⊎◌, ◌&&◌, Bool, true, false, cond, Option, Some, None, refl, sym, ap, ◌∙◌, subst}
use Rattle.std.specs.List.{Contains}
use Rattle.std.specs.Option.{option_and_then, option_map, option_or}
use Rattle.std.proofs.lemmas.Option.{same_Some, option_and_then_some}
use Rattle.descriptor_records.specs.Content.{Text, OptionsContent, FieldContent, FileContent}
use Rattle.protobuf_model.specs.Types.{Name, Part, Key, one, many, keyed, Field}
use Rattle.text_model.specs.Schemas.{HoldsOne}
use Rattle.schema_view.specs.Declarations.{FieldFacts, MessageFacts, facts_of, of_message, of_field}
use Rattle.schema_view.specs.Fields.{is_repeated, is_packed}
use Rattle.schema_view.specs.Files.{join, text_of}
use Rattle.schema_view.specs.Rules.{is_number, SaysEntry, IsEntry, IsEntryType, IsMessage}
use Rattle.schema_view.specs.Types.{type_name, message_at, field_at, is_proto3_at, part_of, named_in, name_of_field, is_entry, names_entry, entry_part, key_of, map_field, plain_field, held_field, oneof_in, own_named, extension_named, types_of}
use Rattle.schema_view.specs.Views.{View, when, view_of}
use Rattle.schema_view.proofs.Lists.{contains_cases, contains_none, first_from}
use Rattle.schema_view.proofs.Orders.{when_true}
use Rattle.schema_view.proofs.Road.{AreLinked}
use Rattle.schema_view.proofs.Looking.{fields_declared}
use Rattle.schema_view.proofs.Standing.{NamesField, found, message_there}
use Rattle.texts_view.proofs.Wanted.{mapped}
use Rattle.texts_view.proofs.FieldNames.{when_same}

-- a message that is for entries says so in its options
says_entry : (m : MessageFacts) → is_entry m ≡ true → SaysEntry m.options
says_entry m e = by m.options refl e where
  entry_by : Option Bool → Bool
  entry_by o = elim o [ None ↦ false | Some b ↦ b ]

  says : (o : OptionsContent) (b : Option Bool) → o.map_entry ≡ b → entry_by b ≡ true → m.options ≡ Some o → SaysEntry m.options
  says o None i k at = absurd (cc)
  says o (Some b) i k at = (o, at, i ∙ ap Some k)

  by : (o : Option OptionsContent) → m.options ≡ o → elim o [ None ↦ false | Some o ↦ entry_by o.map_entry ] ≡ true → SaysEntry m.options
  by None i k = absurd (cc)
  by (Some o) i k = says o o.map_entry refl k i

-- of a key and a value what has the number 2 is not repeated
single : (xs : List FieldFacts) → IsEntryType xs → (x : FieldFacts) → Contains xs x → is_number (pos 2) x.number ≡ true → is_number (pos 3) x.label ≡ false
single (a ∷ b ∷ []) e x i two = among e (contains_cases a (b ∷ []) x i) where
  value : (k v : FieldFacts) → IsEntry k v → is_number (pos 3) v.label ≡ false
  value k v e = elim e.value.label [ inl none ↦ ap (is_number (pos 3)) none | inr optional ↦ ap (is_number (pos 3)) optional ]

  no_key : (k v : FieldFacts) → IsEntry k v → is_number (pos 2) k.number ≡ true → ⊥
  no_key k v e t = let no : false ≡ true = sym (ap (is_number (pos 2)) e.key.number) ∙ t in absurd (cc)

  second : IsEntry a b ⊎ IsEntry b a → Contains (b ∷ []) x → is_number (pos 3) x.label ≡ false
  second e i = elim (contains_cases b [] x i) [
    | inl is ↦ elim e [ inl h ↦ subst (λ (x : FieldFacts). is_number (pos 3) x.label ≡ false) is (value a b h) | inr h ↦ absurd (no_key b a h (subst (λ (x : FieldFacts). is_number (pos 2) x.number ≡ true) (sym is) two)) ]
    | inr j ↦ absurd (contains_none x j)
  ]

  among : IsEntry a b ⊎ IsEntry b a → (a ≡ x) ⊎ Contains (b ∷ []) x → is_number (pos 3) x.label ≡ false
  among e (inr j) = second e j
  among (inl h) (inl is) = absurd (no_key a b h (subst (λ (x : FieldFacts). is_number (pos 2) x.number ≡ true) (sym is) two))
  among (inr h) (inl is) = subst (λ (x : FieldFacts). is_number (pos 3) x.label ≡ false) is (value b a h)
single [] e x i two = absurd e
single (a ∷ []) e x i two = absurd e
single (a ∷ b ∷ c ∷ xs) e x i two = absurd e

module _ (fs : List FileContent) (l : AreLinked fs) where
  abbrev V : View
  V = view_of fs

  -- the part is that of the values
  pub value_part : (x : Bool) (g : Option ℕ) (c : FieldContent) (f : Field) → map_field V x g c ≡ Some f → entry_part V (type_name c) 2 ≡ Some f.part
  value_part x g c f e =
      option_and_then_some _ (entry_part V (type_name c) 2) f e (λ q is found.
      mapped (λ (k : Key). record { part = q; label = keyed k; oneof = g; extension = x }) (option_and_then key_of (entry_part V (type_name c) 1)) f found
      (λ k here same.
      is ∙ ap (λ (f : Field). Some f.part) same))

  not_repeated : (t : Name) (m : MessageFacts) → message_at V t ≡ Some m → is_entry m ≡ true → (name : Text) → name_of_field V t 2 ≡ Some name
      → (c : FieldContent) → field_at V name ≡ Some c → is_repeated c ≡ false
  not_repeated t m at entry name is c here =
      let there = message_there fs l t m at in
      let sound : IsMessage m = (l.each there.0 there.1).sound (record { name = t; body = of_message m }) there.2 in
      let x =
      first_from (λ (f : FieldFacts). when (is_number (pos 2) f.number) (join t (text_of f.name))) m.fields name (sym (ap (option_and_then (named_in t 2)) at) ∙ is) in
      let d = fields_declared there.0 t m there.2 x.0 x.1 in
      let named : NamesField fs name d.0 = (there.0, record { name = join t (text_of x.0.name); body = of_field d.0 }, there.1, d.1, when_same (is_number (pos 2) x.0.number) (join t (text_of x.0.name)) name x.2, refl) in
      let same : d.0 ≡ c = same_Some d.0 c (sym (found fs l name d.0 named) ∙ here) in
      let facts : facts_of c ≡ x.0 = ap facts_of (sym same) ∙ d.2 in
      ap (λ (x : FieldFacts). is_number (pos 3) x.label) facts
      ∙ single m.fields (sound.entry (says_entry m entry)) x.0 x.1 (when_true (is_number (pos 2) x.0.number) (join t (text_of x.0.name)) name x.2)

  pub holds_value : (t : Name) (m : MessageFacts) → message_at V t ≡ Some m → is_entry m ≡ true → (q : Part) → entry_part V t 2 ≡ Some q
      → HoldsOne q (types_of V t 2)
  holds_value t m at entry q e =
      option_and_then_some (part_in V) (name_of_field V t 2) q e (λ name is found.
      option_and_then_some (part_of V (is_proto3_at V name) false) (field_at V name) q found (λ c here part.
      let p = is_proto3_at V name in
      let o = oneof_in (message_at V t) c in
      let once = not_repeated t m at entry name is c here in (
        o,
        false,
        ap (λ x. option_or (option_and_then (own_named V t) x) (option_and_then (extension_named V) (V.extensions (t, pos 2)))) is
            ∙ ap (λ x. option_or x (option_and_then (extension_named V) (V.extensions (t, pos 2))))
            (ap (option_and_then (λ d. held_field V p false (oneof_in (message_at V t) d) d)) here
            ∙ ap (λ b. cond (b && names_entry V c) (map_field V false o c) (plain_field V p false o c)) once
            ∙ ap (option_map (λ r. record { part = r; label = cond (is_repeated c) (many (is_packed p c)) one; oneof = o; extension = false })) part
            ∙ ap (λ b. Some (record { part = q; label = cond b (many (is_packed p c)) one; oneof = o; extension = false })) once),
      ))) where
        part_in : View → Text → Option Part
        part_in v name = option_and_then (part_of v (is_proto3_at v name) false) (field_at v name)
