-- The types of a pool are those that the view of its records has.
use Rattle.std.proofs.Common.{◌≡◌, ◌∙◌, ◌⊎◌, inl, inr, ℕ, suc, ℤ, pos, negsuc, Bool, true, false, ◌==◌, cond, List, [], ◌∷◌, Option, Some, None, length, map, slice_get, slice_index_or, ap, sym, subst, refl, arith}
use Rattle.std.specs.List.{Contains, filter, find, flat_map}
use Rattle.std.specs.Option.{option_and_then, option_map, option_or}
use Rattle.descriptor_records.specs.Content.{FieldContent, FileContent, file_view}
use Rattle.protobuf_model.specs.Types.{Field, Name}
use Rattle.reflect_fields.specs.Fields.{natural}
use Rattle.reflect_tables.specs.Types.{ExtensionType, FieldType, MessageType, PoolType, is_member, no_type, type_at}
use Rattle.schema_view.specs.Declarations.{MessageFacts, declarations, of_message}
use Rattle.schema_view.specs.Types as said
use Rattle.schema_view.specs.Types.{extension_named, field_at, first_member, held_field, is_proto3_at, message_at, name_of_field, oneof_in, own_named}
use Rattle.schema_view.specs.Views.{View, view_of}
use Rattle.schema_view.proofs.Lists.{contains_flat, contains_here}
use Rattle.schema_view.proofs.Road.{AreLinked}
use Rattle.schema_view.proofs.Standing.{message_there}
use Rattle.linked_view.specs.Entries.{HasDeclaredEntries, TellsEntries}
use Rattle.linked_view.specs.Extended.{TellsExtensions}
use Rattle.reflect_message.specs.Known.{if_held, known_extension, known_field}
use Rattle.reflect_entries.specs.Members.{first_number}
use Rattle.reflect_pool.specs.Parts.{members_of}
use Rattle.message_view.specs.Sound.{HaveNames}
use Rattle.message_view.specs.Types as pool
use Rattle.message_view.specs.Types.{either_field, field_of, oneof_at, place_in}
use Rattle.linked_view.specs.Valued.{TellsValues}
use Rattle.linked_view.proofs.Extended.{zip_at}
use Rattle.linked_view.proofs.Places.{contains_get, get_contains}
use Rattle.reflect_index.proofs.Among.{index_is}
use Rattle.types_view.specs.Fields.{ListsFields, NamedMessage, TellsFields, messages_in, written_messages}
use Rattle.types_view.proofs.Extended.{extension_same, named_same, no_extension_same}
use Rattle.types_view.proofs.Found.{StandsAt, StandsNowhere, stands}
use Rattle.types_view.proofs.Held.{NoNumber, NumberedField, held_same, message_is, own, own_field}
use Rattle.types_view.proofs.Listed.{members}

pub behind_last : (ms : List MessageType) → slice_index_or ms (length ms) no_type ≡ no_type
behind_last [] = refl
behind_last (m ∷ ms) = ap (λ n. slice_index_or (m ∷ ms) n no_type) (length-suc m ms) ∙ behind_last ms
  where
    length-suc : (m : MessageType) (ms : List MessageType) → length (m ∷ ms) ≡ suc (length ms)
    length-suc m ms = omega arith

module _ (p : PoolType) (l : AreLinked (map file_view p.records)) (tells : TellsFields p)
    (values : TellsValues p) (entries : TellsEntries p) (declared : HasDeclaredEntries p)
    (names : HaveNames p) (extensions : TellsExtensions p) where
  abbrev fs : List FileContent
  fs = map file_view p.records

  abbrev W : View
  W = view_of fs

  either_is : (i : ℕ) (f x : Option FieldType) → either_field p i f x
      ≡ option_or (option_map (λ g. field_of p (oneof_at p i g) false g) f)
      (option_map (λ g. field_of p None true g) x)
  either_is i (Some f) x = refl
  either_is i None (Some x) = refl
  either_is i None None = refl

  named : (x : ExtensionType) → Contains p.extensions x → extension_named W x.field.full_name
      ≡ option_map (λ g. field_of p None true g) (if_held p x.field)
  named = named_same p l tells values entries declared names extensions

  abbrev of_own : ℕ → FieldType → Field
  of_own i g = field_of p (oneof_at p i g) false g

  module _ (i : ℕ) (m : MessageType) (at : slice_get p.messages i ≡ Some m) where
    abbrev facts : MessageFacts
    facts = (own p l tells values i m at).facts

    type_there : type_at p i ≡ m
    type_there = index_is p.messages i m no_type at

    -- a oneof is told by one number
    oneof_by : (o : Option ℤ)
        → elim o as (λ _. Option ℕ) [
          | Some (pos k) ↦ option_and_then (first_member k) (Some facts)
          | _ ↦ None
        ] ≡ option_and_then (λ k. first_number (members_of p i k)) (natural o)
    oneof_by None = refl
    oneof_by (Some (negsuc k)) = refl
    oneof_by (Some (pos k)) =
        sym (ap (λ (x : MessageType). first_number (filter (is_member k) x.fields)) type_there
        ∙ members m.full_name k facts.fields m.fields (own p l tells values i m at).fields)

    oneof_same : (c : FieldContent) (e : FieldType) → e.oneof ≡ natural c.oneof_index
        → oneof_in (Some facts) c ≡ oneof_at p i e
    oneof_same c e is =
        oneof_by c.oneof_index
        ∙ sym (ap (option_and_then (λ k. first_number (members_of p i k))) is)

    own_same : (n : ℕ) → option_and_then (own_named W m.full_name) (name_of_field W m.full_name n)
        ≡ option_map (of_own i) (known_field p i n)
    own_same n = by (own_field p l tells values i m at n) where
      held : (b : Bool) (e : FieldType)
          → option_map (field_of p (oneof_at p i e) false) (cond b None (Some e))
          ≡ option_map (of_own i) (cond b None (Some e))
      held true e = refl
      held false e = refl

      by : NumberedField p l tells values i m facts.fields n ⊎ NoNumber p l tells values i m n
          → option_and_then (own_named W m.full_name) (name_of_field W m.full_name n)
          ≡ option_map (of_own i) (known_field p i n)
      by (inr none) =
          ap (option_and_then (own_named W m.full_name)) none.called
          ∙ sym (ap (λ o. option_map (of_own i) (option_and_then (if_held p) o)) none.found)
      by (inl o) =
          let name = o.entry.full_name in
          let t = m.full_name in
          ap (option_and_then (own_named W t)) o.called
          ∙ ap (option_and_then (λ c. held_field W (is_proto3_at W name) false
          (oneof_in (message_at W t) c) c)) o.at
          ∙ ap (λ b. held_field W b false (oneof_in (message_at W t) o.content) o.content) o.syntax
          ∙ ap (λ g. held_field W o.proto3 false (oneof_in g o.content) o.content)
          (message_is p l tells values i m at)
          ∙ ap (λ g. held_field W o.proto3 false g o.content)
          (oneof_same o.content o.entry o.both.entry.oneof)
          ∙ held_same p l tells values entries declared names o.proto3 false o.content o.entry o.both
          (oneof_at p i o.entry)
          ∙ held _ o.entry
          ∙ sym (ap (λ x. option_map (of_own i) (option_and_then (if_held p) x)) o.found)

    place_same : (n : ℕ) → pool.field_at p i n ≡ said.types_of W m.full_name n
    place_same n =
        either_is i (known_field p i n) (known_extension p i n)
        ∙ ap (λ o. option_or o (option_map (λ g. field_of p None true g) (known_extension p i n)))
        (sym (own_same n))
        ∙ ap (option_or (option_and_then (own_named W m.full_name) (name_of_field W m.full_name n)))
        (sym (extension_same p l tells values entries declared names extensions (extension_named W)
        (λ g. field_of p None true g) named i m n at))

  -- a name of no message
  module _ (t : Name) (s : StandsNowhere p.messages t) where
    pub no_message : (o : Option MessageFacts) → message_at W t ≡ o → o ≡ None
    no_message None e = refl
    no_message (Some m) e =
        let d = message_there fs l t m e in
        let w : NamedMessage = (t, m) in
        let there = contains_flat (λ f. flat_map messages_in (declarations f)) fs d.0 w d.1
        (contains_flat messages_in (declarations d.0) (record { name = t; body = of_message m }) w d.2
        (contains_here w [])) in
        let j = contains_get (written_messages fs) w there in
        let z = zip_at ListsFields (written_messages fs) p.messages j.0 w tells.listed j.1 in
        absurd (s.none z.0 (get_contains p.messages j.0 z.0 z.1) z.2.full_name)

    no_field : (n : ℕ) → known_field p (place_in p.messages t) n ≡ None
    no_field n = ap (λ (x : MessageType). option_and_then (if_held p)
        (find (λ (f : FieldType). f.number == n) x.fields))
        (ap (λ k. slice_index_or p.messages k no_type) s.end ∙ behind_last p.messages)

    nowhere_same : (n : ℕ) → pool.types_of p t n ≡ said.types_of W t n
    nowhere_same n =
        let i = place_in p.messages t in
        either_is i (known_field p i n) (known_extension p i n)
        ∙ ap (λ o. option_or (option_map (of_own i) o)
        (option_map (λ g. field_of p None true g) (known_extension p i n))) (no_field n)
        ∙ sym (no_extension_same p l tells values entries declared names extensions (extension_named W)
        (λ g. field_of p None true g) named t i n s.end s.none)
        ∙ sym (ap (λ o. option_or (option_and_then (own_named W t)
        (option_and_then (said.named_in t n) o))
        (option_and_then (extension_named W) (W.extensions (t, pos n))))
        (no_message (message_at W t) refl))

  pub types_same : (t : Name) (n : ℕ) → pool.types_of p t n ≡ said.types_of W t n
  types_same t n = by (stands p.messages t) where
    by : StandsAt p.messages t ⊎ StandsNowhere p.messages t
        → pool.types_of p t n ≡ said.types_of W t n
    by (inl s) = subst (λ u. pool.field_at p (place_in p.messages t) n ≡ said.types_of W u n) s.name
        (place_same (place_in p.messages t) s.type s.at n)
    by (inr s) = nowhere_same t s n
