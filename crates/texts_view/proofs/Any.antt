-- A type that keeps messages of any type, by a pool and by the view of its records.
use Rattle.std.proofs.Common.{◌≡◌, ◌∙◌, ◌⊎◌, inl, inr, ℕ, ℤ, pos, negsuc, Bool, true, false, not, ◌&&◌, ◌==◌, Option, Some, None, bytes_eq, codes, map, slice_get, slice_index_or, ap, sym, refl}
use Rattle.std.specs.Option.{option_and_then}
use Rattle.descriptor_records.specs.Content.{FieldContent, file_view}
use Rattle.protobuf_model.specs.Types.{Name}
use Rattle.reflect_any.specs.Any as any
use Rattle.reflect_fields.specs.Fields.{natural}
use Rattle.reflect_index.proofs.Among.{index_is}
use Rattle.reflect_message.specs.Known.{numbered_field}
use Rattle.reflect_pool.specs.Shapes.{is_entry}
use Rattle.reflect_pool.specs.Shapes as shapes
use Rattle.reflect_tables.specs.Names.{enums, messages, names_of}
use Rattle.reflect_tables.specs.Types.{KindType, MessageType, PoolType, no_oneof, no_type, type_at}
use Rattle.schema_view.specs.Declarations.{MessageFacts}
use Rattle.schema_view.specs.Fields.{is_repeated}
use Rattle.schema_view.specs.Rules.{is_number}
use Rattle.schema_view.specs.Scalars.{scalar_type}
use Rattle.schema_view.specs.Types.{field_at, message_at, named_in}
use Rattle.schema_view.specs.Views.{View, view_of}
use Rattle.schema_view.proofs.Road.{AreLinked}
use Rattle.linked_view.specs.Valued.{TellsValues}
use Rattle.text_view.specs.Schemas.{is_any_at, is_bytes, is_string}
use Rattle.text_view.specs.Schemas as pool
use Rattle.types_view.specs.Fields.{TellsFields, is_optional}
use Rattle.types_view.proofs.Held.{NoNumber, NumberedField, message_is, own, own_field}
use Rattle.types_view.proofs.KindNumbers.{Sorted, sorted}
use Rattle.types_view.proofs.Listed as listed
use Rattle.texts_view.specs.Named.{is_any, is_lone, member_count, shares}
use Rattle.texts_view.proofs.FieldKinds.{bytes_same, string_same}

-- what is no list and no map is not repeated
alone : (repeated entry plain shared : Bool)
    → (not (repeated && not (entry && (repeated && plain)))
    && (not (entry && (repeated && plain)) && not shared))
    ≡ (not repeated && not shared)
alone true true true s = refl
alone true true false s = refl
alone true false g s = refl
alone false true g s = refl
alone false false g s = refl

module _ (p : PoolType) (l : AreLinked (map file_view p.records)) (tells : TellsFields p)
    (values : TellsValues p) where
  abbrev V : View
  V = view_of (map file_view p.records)

  module _ (i : ℕ) (m : MessageType) (at : slice_get p.messages i ≡ Some m) where
    abbrev t : Name
    t = m.full_name

    abbrev facts : MessageFacts
    facts = (own p l tells values i m at).facts

    abbrev Field : ℕ → Type 0
    Field n = NumberedField p l tells values i m facts.fields n

    there : type_at p i ≡ m
    there = index_is p.messages i m no_type at

    -- ---- oneofs

    module _ (n : ℕ) (o : Field n) where
      abbrev shared_by : Option ℤ → Bool
      shared_by x = elim x as (λ _. Bool) [
        | Some (pos k) ↦ not (is_optional o.content && (member_count k (message_at V t) == 1))
        | _ ↦ false
      ]

      abbrev of_place : Option ℕ → Bool
      of_place x = elim x as (λ _. Bool) [
        | None ↦ false
        | Some k ↦ not (slice_index_or (type_at p i).oneofs k no_oneof).synthetic
      ]

      shared_in : (x : Option ℤ) → o.entry.oneof ≡ natural x → shared_by x ≡ any.shares p i o.entry
      shared_in None e = sym (ap of_place e)
      shared_in (Some (negsuc k)) e = sym (ap of_place e)
      shared_in (Some (pos k)) e =
          ap (λ g. not (is_optional o.content && (member_count k g == 1)))
          (message_is p l tells values i m at)
          ∙ ap (λ c. not (is_optional o.content && (c == 1)))
          (sym (listed.member_count t k facts.fields m.fields (own p l tells values i m at).fields))
          ∙ ap not (sym (o.synthetic k e))
          ∙ sym (ap (λ (x : MessageType). not (slice_index_or x.oneofs k no_oneof).synthetic) there)
          ∙ sym (ap of_place e)

      shared_same : shares (message_at V t) o.content ≡ any.shares p i o.entry
      shared_same = shared_in o.content.oneof_index o.both.entry.oneof

    -- ---- a field that holds one value of a kind

    abbrev lone : ℤ → Option FieldContent → Bool
    lone z c = elim c as (λ _. Bool) [
      | None ↦ false
      | Some f ↦ is_number z (scalar_type f.field_type f.type_name)
          && (not (is_repeated f) && not (shares (message_at V t) f))
    ]

    lone_same : (n : ℕ) (z : ℤ) (test : KindType → Bool)
        → ((c : FieldContent) (k : KindType)
        → Sorted (names_of p messages) (names_of p enums) c k
        → is_number z (scalar_type c.field_type c.type_name) ≡ test k)
        → is_lone V t n z ≡ pool.is_lone p i test (numbered_field p i n)
    lone_same n z test kinds = by (own_field p l tells values i m at n) where
      by : Field n ⊎ NoNumber p l tells values i m n
          → is_lone V t n z ≡ pool.is_lone p i test (numbered_field p i n)
      by (inr none) =
          ap (λ o. lone z (option_and_then (field_at V) o)) none.called
          ∙ sym (ap (pool.is_lone p i test) none.found)
      by (inl o) =
          let c = o.content in
          let e = o.entry in
          ap (λ x. lone z (option_and_then (field_at V) x)) o.called
          ∙ ap (lone z) o.at
          ∙ ap (λ b. b && (not (is_repeated c) && not (shares (message_at V t) c)))
          (kinds c e.kind (sorted (names_of p messages) (names_of p enums) c e.kind o.both.entry.holds))
          ∙ ap (λ b. test e.kind && (not b && not (shares (message_at V t) c)))
          (sym o.both.entry.repeated)
          ∙ ap (λ b. test e.kind && (not (shapes.is_repeated e.cardinality) && not b))
          (shared_same n o)
          ∙ ap (λ b. test e.kind && b)
          (sym (alone (shapes.is_repeated e.cardinality) (is_entry p e.kind) (not e.group)
          (any.shares p i e)))
          ∙ sym (ap (pool.is_lone p i test) o.found)

    pub any_same : is_any V t ≡ is_any_at p i
    any_same =
        ap (λ b. bytes_eq t (codes "google.protobuf.Any") && (b && is_lone V t 2 (pos 12)))
        (lone_same 1 (pos 9) is_string (λ c. string_same p l tells values c))
        ∙ ap (λ b. bytes_eq t (codes "google.protobuf.Any")
        && (pool.is_lone p i is_string (numbered_field p i 1) && b))
        (lone_same 2 (pos 12) is_bytes (λ c. bytes_same p l tells values c))
        ∙ sym (ap (λ (x : MessageType). bytes_eq x.full_name (codes "google.protobuf.Any")
        && (pool.is_lone p i is_string (numbered_field p i 1)
        && pool.is_lone p i is_bytes (numbered_field p i 2))) there)

  -- a name of no message
  pub no_any : (s : Name) → message_at V s ≡ None → is_any V s ≡ false
  no_any s none =
      ap (λ o. bytes_eq s (codes "google.protobuf.Any") && (first_lone o && is_lone V s 2 (pos 12)))
      none
      ∙ last (bytes_eq s (codes "google.protobuf.Any")) where
        first_lone : Option MessageFacts → Bool
        first_lone o = elim (option_and_then (field_at V) (option_and_then (named_in s 1) o))
            as (λ _. Bool) [
              | None ↦ false
              | Some f ↦ is_number (pos 9) (scalar_type f.field_type f.type_name)
                  && (not (is_repeated f) && not (shares (message_at V s) f))
            ]

        last : (b : Bool) → (b && false) ≡ false
        last true = refl
        last false = refl
