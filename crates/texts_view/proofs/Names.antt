-- A pool says to texts what the view of its records says.
use Rattle.std.proofs.Common.{◌≡◌, ◌∙◌, ◌⊎◌, inl, inr, ℕ, Bool, not, ◌&&◌, ◌==◌, List, [], Option, Some, None, bytes_eq, codes, is_some, map, slice_get, slice_index_or, ap, sym, subst, refl}
use Rattle.std.specs.Char.{to_ascii_lowercase}
use Rattle.std.specs.List.{filter, find}
use Rattle.std.specs.Option.{option_and_then, option_map}
use Rattle.std.proofs.lemmas.Slice.Eq.{bytes_eq-Decides}
use Rattle.descriptor_records.specs.Content.{Text, file_view}
use Rattle.protobuf_model.specs.Types.{Name}
use Rattle.protobuf_model.specs.Values.{Message}
use Rattle.reflect_index.proofs.Among.{index_is}
use Rattle.reflect_message.specs.Known.{holds_floats, if_held, known_field, numbered_field}
use Rattle.reflect_pool.specs.Dots.{without_dot}
use Rattle.reflect_tables.specs.Types.{FieldType, MessageType, PoolType, no_type, type_at}
use Rattle.schema_view.specs.Declarations.{MessageFacts}
use Rattle.schema_view.specs.Files.{join, text_of}
use Rattle.schema_view.specs.Types.{extension_named, message_at, named_in, own_named}
use Rattle.schema_view.specs.Views.{View, view_of, when}
use Rattle.schema_view.proofs.Road.{AreLinked}
use Rattle.linked_view.specs.Entries.{HasDeclaredEntries, TellsEntries}
use Rattle.linked_view.specs.Extended.{TellsExtensions}
use Rattle.linked_view.specs.Valued.{TellsValues}
use Rattle.linked_view.proofs.Places.{contains_get, get_contains}
use Rattle.message_view.specs.Sound.{HaveNames}
use Rattle.message_view.specs.Types.{place_in}
use Rattle.text_view.specs.Names as pool
use Rattle.text_view.specs.Schemas as pools
use Rattle.text_view.specs.Schemas.{is_any_at, schema_of}
use Rattle.types_view.specs.Fields.{TellsFields}
use Rattle.types_view.proofs.Extended.{found_there, no_extension_same, none_found}
use Rattle.types_view.proofs.Found.{StandsAt, StandsNowhere, stands}
use Rattle.types_view.proofs.Held.{listed_as, message_is, own}
use Rattle.types_view.proofs.Listed.{Agree, numbers_kept}
use Rattle.types_view.proofs.Types.{behind_last, no_message, types_same}
use Rattle.texts_view.specs.Named.{extension_called, if_group_called, if_plain, called_in, is_any, names_in, number_called, numbers_in, plain_or_group, schema_in, type_called}
use Rattle.texts_view.proofs.Any.{any_same, no_any}
use Rattle.texts_view.proofs.Called as called
use Rattle.texts_view.proofs.Called.{extension_number, no_extension_number}
use Rattle.texts_view.proofs.Fields.{extended_under, field_same, full, held_as, held_under, under_same}
use Rattle.texts_view.proofs.Under.{AreAlike, number_same, printed_same, type_same, value_same}

module _ (p : PoolType) (l : AreLinked (map file_view p.records)) (tells : TellsFields p)
    (values : TellsValues p) (entries : TellsEntries p) (declared : HasDeclaredEntries p)
    (names : HaveNames p) (extensions : TellsExtensions p) where
  abbrev V : View
  V = view_of (map file_view p.records)

  abbrev Alike : Name → ℕ → Type 0
  Alike = AreAlike p l tells values entries declared names extensions

  -- ---- names, from their parts

  abbrev declared_at : ℕ → List ℕ
  declared_at i = map (λ (f : FieldType). f.number)
      (filter (λ f. not (holds_floats p f)) (type_at p i).fields)

  abbrev declared_by : Name → Option MessageFacts → List ℕ
  declared_by t o = elim o as (λ _. List ℕ) [ None ↦ [] | Some x ↦ numbers_in V t x ]

  together : (t : Name) (i : ℕ) → Alike t i
      → ((w : Text) → number_called V t w ≡ option_map (λ f. f.number) (pool.field_called p i w))
      → ((w : Text) → extension_called V t w
      ≡ option_map (λ f. f.number) (pool.extension_called p i w))
      → declared_by t (message_at V t) ≡ declared_at i
      → names_in V t ≡ pool.names_of p i
  together t i alike fields others all = λ k. record {
    field = λ w. fields w k;
    extension = λ w. others w k;
    name = λ n. printed_same p l tells values entries declared names extensions t i alike n k;
    declared = all k;
    enum_number = λ n w.
        number_same p l tells values entries declared names extensions t i alike n w k;
    enum_name = λ n z.
        value_same p l tells values entries declared names extensions t i alike n z k;
    entry = λ n. type_same p l tells values entries declared names extensions t i alike n k;
  }

  -- ---- a message

  module _ (i : ℕ) (m : MessageType) (at : slice_get p.messages i ≡ Some m) where
    alike_here : Alike m.full_name i
    alike_here = record {
      fields = field_same p l tells values entries declared names extensions i m at;
      extended = λ n. under_same p l tells values entries declared names extensions i m n at;
      known = λ n e is.
          let h = held_under p l tells values entries declared names extensions i m at n e is in
          record { known = h.known; name = h.listed.name };
    }

    abbrev facts : MessageFacts
    facts = (own p l tells values i m at).facts

    held_alike : Agree m.full_name
        (λ f. is_some (own_named V m.full_name (join m.full_name (text_of f.name))))
        (λ e. not (holds_floats p e)) facts.fields m.fields
    held_alike f e inside there listed =
        let o = listed_as p l tells values i m at f e inside there listed in
        sym (ap (λ n. is_some (own_named V m.full_name n)) (sym listed.full_name)
        ∙ held_as p l tells values entries declared names extensions i m at o.proto3 o.content e o.both
        o.here o.syntax)

    declared_same : declared_by m.full_name (message_at V m.full_name) ≡ declared_at i
    declared_same =
        ap (declared_by m.full_name) (message_is p l tells values i m at)
        ∙ sym (numbers_kept m.full_name
        (λ f. is_some (own_named V m.full_name (join m.full_name (text_of f.name))))
        (λ e. not (holds_floats p e)) facts.fields m.fields (own p l tells values i m at).fields
        held_alike)
        ∙ sym (ap (λ (x : MessageType). map (λ (f : FieldType). f.number)
        (filter (λ f. not (holds_floats p f)) x.fields)) (index_is p.messages i m no_type at))

    names_here : names_in V m.full_name ≡ pool.names_of p i
    names_here =
        together m.full_name i alike_here
        (called.number_same p l tells values entries declared names extensions i m at)
        (extension_number p l tells values entries declared names extensions i m at) declared_same

  -- ---- a name of no message

  module _ (t : Name) (s : StandsNowhere p.messages t) where
    abbrev end : ℕ
    end = place_in p.messages t

    none : message_at V t ≡ None
    none = no_message p l tells values entries declared names extensions t s (message_at V t) refl

    no_type_there : type_at p end ≡ no_type
    no_type_there = ap (λ k. slice_index_or p.messages k no_type) s.end ∙ behind_last p.messages

    no_field : (n : ℕ) → known_field p end n ≡ None
    no_field n = ap (λ (x : MessageType). option_and_then (if_held p)
        (find (λ (f : FieldType). f.number == n) x.fields)) no_type_there

    alike_nowhere : Alike t end
    alike_nowhere = record {
      fields = λ n. ap (λ o. option_and_then (λ w. when (is_some (own_named V t w)) w)
          (option_and_then (named_in t n) o)) none
          ∙ sym (ap (option_map full) (no_field n));
      extended = λ n. no_extension_same p l tells values entries declared names extensions
          (λ w. when (is_some (extension_named V w)) w) full
          (extended_under p l tells values entries declared names extensions) t end n s.end s.none;
      known = λ n e is. absurd (cc (sym (no_field n) ∙ is));
    }

    no_number : (w : Text) → number_called V t w
        ≡ option_map (λ f. f.number) (pool.field_called p end w)
    no_number w =
        ap (λ o. plain_or_group V t (option_and_then (if_plain V) (option_and_then (called_in t w) o))
        (option_and_then (if_group_called V w)
        (option_and_then (called_in t (map to_ascii_lowercase w)) o))) none
        ∙ sym (ap (λ (x : MessageType). option_map (λ (f : FieldType). f.number)
        (pool.held_or p (option_and_then pool.if_plain
        (find (λ (f : FieldType). bytes_eq f.name w) x.fields))
        (option_and_then (pool.if_group_called p w)
        (find (λ (f : FieldType). bytes_eq f.name (map to_ascii_lowercase w)) x.fields))))
        no_type_there)

    names_nowhere : names_in V t ≡ pool.names_of p end
    names_nowhere =
        together t end alike_nowhere no_number
        (no_extension_number p l tells values entries declared names extensions t end s.end s.none)
        (ap (declared_by t) none
        ∙ sym (ap (λ (x : MessageType). map (λ (f : FieldType). f.number)
        (filter (λ f. not (holds_floats p f)) x.fields)) no_type_there))

    any_nowhere : is_any V t ≡ is_any_at p end
    any_nowhere =
        no_any p l tells values t none
        ∙ sym (ap (λ (x : MessageType). bytes_eq x.full_name (codes "google.protobuf.Any")
        && (pools.is_lone p end pools.is_string (numbered_field p end 1)
        && pools.is_lone p end pools.is_bytes (numbered_field p end 2))) no_type_there)

  -- ---- each name

  names_same : (t : Name) → names_in V t ≡ pool.names_of p (place_in p.messages t)
  names_same t = by (stands p.messages t) where
    by : StandsAt p.messages t ⊎ StandsNowhere p.messages t
        → names_in V t ≡ pool.names_of p (place_in p.messages t)
    by (inl s) = subst (λ u. names_in V u ≡ pool.names_of p (place_in p.messages t)) s.name
        (names_here (place_in p.messages t) s.type s.at)
    by (inr s) = names_nowhere t s

  any_at : (t : Name) → is_any V t ≡ is_any_at p (place_in p.messages t)
  any_at t = by (stands p.messages t) where
    by : StandsAt p.messages t ⊎ StandsNowhere p.messages t
        → is_any V t ≡ is_any_at p (place_in p.messages t)
    by (inl s) = subst (λ u. is_any V u ≡ is_any_at p (place_in p.messages t)) s.name
        (any_same p l tells values (place_in p.messages t) s.type s.at)
    by (inr s) = any_nowhere t s

  -- ---- the type of a full name

  message_same : (w : Text) → type_called V w ≡ pools.type_called p w
  message_same w = by (find bears p.messages) refl (stands p.messages (without_dot w)) where
    bears : MessageType → Bool
    bears m = bytes_eq m.full_name (without_dot w)

    found : Option MessageType → Option Name
    found o = option_map (λ (m : MessageType). m.full_name) o

    by : (o : Option MessageType) → find bears p.messages ≡ o
        → StandsAt p.messages (without_dot w) ⊎ StandsNowhere p.messages (without_dot w)
        → type_called V w ≡ pools.type_called p w
    by (Some m) e s =
        let h = found_there bears p.messages m e in
        let j = contains_get p.messages m h.0 in
        let name = (bytes_eq-Decides m.full_name (without_dot w)).0 h.1 in
        ap (option_map (λ x. without_dot w))
        (subst (λ n. message_at V n ≡ Some (own p l tells values j.0 m j.1).facts) name
        (message_is p l tells values j.0 m j.1))
        ∙ ap Some (sym name)
        ∙ sym (ap found e)
    by None e (inl s) =
        absurd (none_found bears p.messages s.type e
        (get_contains p.messages (place_in p.messages (without_dot w)) s.type s.at)
        ((bytes_eq-Decides s.type.full_name (without_dot w)).1 s.name))
    by None e (inr s) =
        ap (option_map (λ x. without_dot w))
        (no_message p l tells values entries declared names extensions (without_dot w) s
        (message_at V (without_dot w)) refl)
        ∙ sym (ap found e)

  -- ---- all

  pub schema_same : (decoded : Name → Text → Option Message)
      → schema_of p decoded ≡ schema_in V decoded
  schema_same decoded = λ k. record {
    types = λ t n. types_same p l tells values entries declared names extensions t n k;
    names = λ t. sym (names_same t) k;
    message = λ w. sym (message_same w) k;
    is_any = λ t. sym (any_at t) k;
    decoded = decoded;
  }
