-- What a pool's entries are in the view of its records.
use Rattle.std.proofs.Common.{◌≡◌, ◌∙◌, ◌⊎◌, inl, inr, ℕ, ℤ, pos, Bool, true, false, cond, List, [], ◌∷◌, Option, Some, None, map, slice_get, ap, sym, subst, refl}
use Rattle.std.specs.List.{AllZip, Contains, flat_map}
use Rattle.std.specs.Option.{option_and_then}
use Rattle.std.specs.Ordering.{int_eq}
use Rattle.std.proofs.lemmas.Bool.Decides.{Decides-int_eq}
use Rattle.descriptor_records.specs.Content.{Text, EnumContent, FieldContent, FileContent, file_view}
use Rattle.reflect_tables.specs.Names.{FullName, enum_name, enums, message_name, messages, names_of}
use Rattle.reflect_tables.specs.Types.{EnumType, MessageType, PoolType, ValueType}
use Rattle.reflect_index.proofs.Among.{get_map, got_map, zip_place}
use Rattle.schema_view.specs.Declarations.{Body, Declaration, MessageFacts, declarations, of_message, of_enum}
use Rattle.schema_view.specs.Files.{text_of}
use Rattle.schema_view.specs.Lawful.{outlines}
use Rattle.schema_view.specs.Means.{HasType}
use Rattle.schema_view.specs.Outlines.{Head, IsDeclared, Outline, Sort, head_of, outline_of, sort_of}
use Rattle.schema_view.specs.References.{a_type}
use Rattle.schema_view.specs.Types.{body_at, type_at, undotted}
use Rattle.schema_view.specs.Views.{View, view_of}
use Rattle.schema_view.proofs.Agreeing.{IsTyped}
use Rattle.schema_view.proofs.Lists.{contains_cases, contains_flat_cases, contains_map_cases, contains_none}
use Rattle.schema_view.proofs.Road.{AreLinked}
use Rattle.schema_view.proofs.Standing.{StandsIn, type_there}
use Rattle.schema_view.proofs.Targets.{type_in}
use Rattle.linked_view.specs.Valued.{TellsValues, kept_values, numbered_value, values_in, written_values}
use Rattle.linked_view.proofs.Defaulted.{enum_declared}
use Rattle.linked_view.proofs.Places.{get_contains}
use Rattle.types_view.specs.Fields.{IsListed, IsWrittenAt, ListsFields, NamedMessage, TellsFields, messages_in, written_messages}
use Rattle.types_view.proofs.Found.{body_found}

-- ---- what is written is declared

pub message_declared : (n : Text) (b : Body) (w : NamedMessage)
    → Contains (messages_in (record { name = n; body = b })) w
    → ◌≡◌ {A = Declaration} (record { name = n; body = b })
    (record { name = w.0; body = of_message w.1 })
message_declared n (of_message m) w h = elim (contains_cases (n, m) [] w h) [
  | inl same ↦ ap (λ (v : NamedMessage). record { name = v.0; body = of_message v.1 }) same
  | inr none ↦ absurd (contains_none w none)
]
message_declared n b w h = absurd (contains_none w h)

-- ---- numbers of types

abbrev pub IsMessageNumber : Option ℤ → Type 0
IsMessageNumber o = (o ≡ Some (pos 10)) ⊎ (o ≡ Some (pos 11))

pub message_number : (o : Option ℤ) → IsTyped (a_type o) → type_in (a_type o) ≡ pos 11
    → IsMessageNumber o
message_number None t e = absurd t
message_number (Some n) t e = by (int_eq n (pos 10)) refl where
  by : (b : Bool) → int_eq n (pos 10) ≡ b → IsMessageNumber (Some n)
  by true is = inl (ap Some ((Decides-int_eq n (pos 10)).0 is))
  by false is = inr (ap Some (sym (ap (λ b. cond b (pos 11) n) is) ∙ e))

pub enum_number : (o : Option ℤ) → IsTyped (a_type o) → type_in (a_type o) ≡ pos 14
    → o ≡ Some (pos 14)
enum_number None t e = absurd t
enum_number (Some n) t e = by (int_eq n (pos 10)) refl where
  by : (b : Bool) → int_eq n (pos 10) ≡ b → Some n ≡ Some (pos 14)
  by true is =
      let no : false ≡ true = ap (int_eq (pos 14)) (sym (ap (λ b. cond b (pos 11) n) is) ∙ e) in
      absurd (cc)
  by false is = ap Some (sym (ap (λ b. cond b (pos 11) n) is) ∙ e)

module _ (p : PoolType) (l : AreLinked (map file_view p.records)) where
  abbrev fs : List FileContent
  fs = map file_view p.records

  abbrev pub V : View
  V = view_of fs

  -- the records declare the name so
  pub record IsDeclaredAs (full : Text) (b : Body) : Type 0 where
    pub file : FileContent
    pub there : Contains fs file
    pub inside : Contains (declarations file) (record { name = full; body = b })

  pub body_is : (full : Text) (b : Body) → IsDeclaredAs full b → body_at V full ≡ Some b
  body_is full b h = body_found fs l h.file (record { name = full; body = b }) h.there h.inside

  pub one_body : (full : Text) (b c : Body) → IsDeclaredAs full b → IsDeclaredAs full c → b ≡ c
  one_body full b c h k = cc (sym (body_is full b h) ∙ body_is full c k)

  pub type_is : (c : FieldContent) (full : Text) (b : Body) → c.type_name ≡ Some (46 ∷ full)
      → IsDeclaredAs full b → type_at V c ≡ Some b
  type_is c full b e h =
      ap (option_and_then (λ t. body_at V (undotted t))) e ∙ body_is full b h

  -- what is declared as of a sort has a body of it
  pub record IsDeclaredOf (full : Text) (s : Sort) : Type 0 where
    pub body : Body
    pub declared : IsDeclaredAs full body
    pub sort : sort_of body ≡ s

  pub of_sort : (full : Text) (s : Sort) → IsDeclared (outlines fs) full s → IsDeclaredOf full s
  of_sort full s (o, h, i, j, name, is) =
      let f = contains_map_cases outline_of fs o i in
      let d = contains_map_cases head_of (declarations f.0) h
      (subst (λ (q : Outline). Contains q.heads h) (sym f.2) j) in
      let named : d.0.name ≡ full = ap (λ (x : Head). x.name) d.2 ∙ name in
      record {
        body = d.0.body;
        declared = record {
          file = f.0;
          there = f.1;
          inside = subst (λ n. Contains (declarations f.0) (record { name = n; body = d.0.body }))
              named d.1;
        };
        sort = ap (λ (x : Head). x.sort) d.2 ∙ is;
      }

  -- the number of a field's type is that of what its name means
  pub record IsTypedBy (c : FieldContent) (b : Body) : Type 0 where
    pub number : HasType (sort_of b) (type_in (a_type c.field_type))
    pub typed : IsTyped (a_type c.field_type)

  pub typed_by : (c : FieldContent) → StandsIn fs c → (full : Text) (b : Body)
      → c.type_name ≡ Some (46 ∷ full) → IsDeclaredAs full b → IsTypedBy c b
  typed_by c s full b e h =
      let x = type_there fs l c s (46 ∷ full) e in
      let d = of_sort full x.sort x.declared in
      let same = one_body full d.body b d.declared h in
      record {
        number = subst (λ s. HasType s (type_in (a_type c.field_type)))
            (sym d.sort ∙ ap sort_of same) x.number;
        typed = x.typed;
      }

  -- ---- messages

  pub record MessageTold (m : MessageType) : Type 0 where
    pub facts : MessageFacts
    pub declared : IsDeclaredAs m.full_name (of_message facts)
    pub name : m.name ≡ text_of facts.name
    pub fields : AllZip (IsListed m.full_name) facts.fields m.fields

  pub message_told : TellsFields p → (i : ℕ) (m : MessageType) → slice_get p.messages i ≡ Some m
      → MessageTold m
  message_told tells i m at =
      let w = zip_place ListsFields (written_messages fs) p.messages i m tells.listed at in
      let f = contains_flat_cases (λ f. flat_map messages_in (declarations f)) fs w.0
      (get_contains (written_messages fs) i w.0 w.1) in
      let d = contains_flat_cases messages_in (declarations f.0) w.0 f.2 in
      let declared : IsDeclaredAs w.0.0 (of_message w.0.1) = record {
        file = f.0;
        there = f.1;
        inside = subst (Contains (declarations f.0))
            (message_declared d.0.name d.0.body w.0 d.2) d.1;
      } in
      record {
        facts = w.0.1;
        declared = subst (λ n. IsDeclaredAs n (of_message w.0.1)) (sym w.2.full_name) declared;
        name = w.2.name;
        fields = subst (λ n. AllZip (IsListed n) w.0.1.fields m.fields) (sym w.2.full_name)
            w.2.fields;
      }

  -- ---- enums

  pub record EnumTold (e : EnumType) : Type 0 where
    pub content : EnumContent
    pub declared : IsDeclaredAs e.full_name (of_enum content)
    pub values : map numbered_value content.value
        ≡ map (λ (v : ValueType). (v.name, v.number)) e.values

  pub enum_told : TellsValues p → (i : ℕ) (e : EnumType) → slice_get p.enums i ≡ Some e
      → EnumTold e
  enum_told values i e at =
      let w = kept_values e in
      let f = contains_flat_cases (λ f. flat_map values_in (declarations f)) fs w
      (get_contains (written_values fs) i w
      (ap (λ ws. slice_get ws i) (sym values) ∙ get_map kept_values p.enums i e at)) in
      let d = contains_flat_cases values_in (declarations f.0) w f.2 in
      let x = enum_declared d.0.name d.0.body w d.2 in
      record {
        content = x.content;
        declared = record {
          file = f.0;
          there = f.1;
          inside = subst (λ n. Contains (declarations f.0) (record { name = n; body = of_enum x.content }))
              x.name (subst (λ b. Contains (declarations f.0) (record { name = d.0.name; body = b }))
              x.body d.1);
        };
        values = x.values;
      }

-- ---- names that are written

-- the name is written of the entry at the place
pub record Writes {X : Type 0} (name : X → FullName) (items : List X) (o : Option Text) (i : ℕ) : Type 0 where
  pub type : X
  pub at : slice_get items i ≡ Some type
  pub written : o ≡ Some (46 ∷ (name type).0)

entry_at : {X : Type 0} (name : X → FullName) (items : List X) (o : Option Text) (i : ℕ)
    → IsWrittenAt (map name items) o i → Writes name items o i
entry_at name items o i w =
    let x = got_map name items i (w.full, w.file) w.there in
    record {
      type = x.0;
      at = x.1;
      written = w.written ∙ ap (λ (n : FullName). Some (46 ∷ n.0)) (sym x.2);
    }

pub message_at : (p : PoolType) (o : Option Text) (i : ℕ) → IsWrittenAt (names_of p messages) o i
    → Writes message_name p.messages o i
message_at p = entry_at message_name p.messages

pub enum_at : (p : PoolType) (o : Option Text) (i : ℕ) → IsWrittenAt (names_of p enums) o i
    → Writes enum_name p.enums o i
enum_at p = entry_at enum_name p.enums
