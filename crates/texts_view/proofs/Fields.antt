-- Fields of a pool's messages and their extensions, each by its record and by its entry.
use Rattle.std.proofs.Common.{◌≡◌, ◌∙◌, ◌⊎◌, inl, inr, ℕ, Bool, true, false, not, ◌&&◌, ◌==◌, cond, List, Option, Some, None, is_some, map, slice_get, ap, sym, subst, refl}
use Rattle.std.specs.List.{Contains, find}
use Rattle.std.specs.Option.{option_and_then, option_map}
use Rattle.descriptor_records.specs.Content.{Text, FieldContent, FileContent, file_view}
use Rattle.reflect_tables.specs.Names.{enums, messages, names_of}
use Rattle.reflect_tables.specs.Types.{ExtensionType, FieldType, MessageType, PoolType}
use Rattle.schema_view.specs.Declarations.{FieldFacts, MessageFacts, facts_of}
use Rattle.schema_view.specs.Files.{is_proto3}
use Rattle.schema_view.specs.Types.{extension_named, field_at, field_in, field_number, held_field, is_proto3_at, message_at, oneof_in, own_named}
use Rattle.schema_view.specs.Views.{View, view_of, when}
use Rattle.schema_view.proofs.Road.{AreLinked}
use Rattle.linked_view.specs.Entries.{HasDeclaredEntries, TellsEntries}
use Rattle.linked_view.specs.Extended.{TellsExtensions}
use Rattle.linked_view.specs.Valued.{TellsValues}
use Rattle.reflect_message.specs.Known.{holds_floats, if_held, known_extension, known_field}
use Rattle.message_view.specs.Sound.{HaveNames}
use Rattle.message_view.specs.Types.{field_of}
use Rattle.types_view.specs.Fields.{IsListed, IsToldExtension, TellsFields}
use Rattle.types_view.proofs.Extended as extended
use Rattle.types_view.proofs.Extended.{extension_same, found_there, named_same}
use Rattle.types_view.proofs.Found.{body_found}
use Rattle.types_view.proofs.Held.{IsBoth, NoNumber, NumberedField, OwnField, held_same, own, own_field}
use Rattle.types_view.proofs.Listed.{number_same}
use Rattle.texts_view.specs.Named.{extension_under, field_under, number_at}

-- what is held is there
some_held : {Y : Type 0} (b : Bool) (h : FieldType → Y) (e : FieldType)
    → is_some (option_map h (cond b None (Some e))) ≡ not b
some_held true h e = refl
some_held false h e = refl

-- and what is there so
when_held : {Y : Type 0} (b : Bool) (h : FieldType → Y) (e : FieldType)
    → when (not b) (h e) ≡ option_map h (cond b None (Some e))
when_held true h e = refl
when_held false h e = refl

held_is : (b : Bool) (e f : FieldType) → cond b None (Some e) ≡ Some f → e ≡ f
held_is true e f h = absurd (cc h)
held_is false e f h = cc h

abbrev pub full : FieldType → Text
full e = e.full_name

module _ (p : PoolType) (l : AreLinked (map file_view p.records)) (tells : TellsFields p)
    (values : TellsValues p) (entries : TellsEntries p) (declared : HasDeclaredEntries p)
    (names : HaveNames p) (extensions : TellsExtensions p) where
  abbrev pub fs : List FileContent
  fs = map file_view p.records

  abbrev pub W : View
  W = view_of fs

  abbrev Both : (proto3 extension : Bool) → FieldContent → FieldType → Type 0
  Both = IsBoth p l tells values

  -- a field or an extension by its record and by its entry
  pub record IsKnown (extension : Bool) (e : FieldType) : Type 0 where
    pub content : FieldContent
    pub proto3 : Bool
    pub both : Both proto3 extension content e
    pub at : field_at W e.full_name ≡ Some content

  pub known_number : (extension : Bool) (e : FieldType) (k : IsKnown extension e)
      → e.number ≡ field_number (facts_of k.content)
  known_number extension e k = k.both.entry.number ∙ number_same k.content.number

  pub number_known : (extension : Bool) (e : FieldType) → IsKnown extension e
      → number_at W e.full_name ≡ Some e.number
  number_known extension e k =
      ap (option_map (λ c. field_number (facts_of c))) k.at
      ∙ ap Some (sym (known_number extension e k))

  -- ---- extensions

  module _ (x : ExtensionType) (there : Contains p.extensions x) where
    abbrev pub told : IsToldExtension (names_of p messages) (names_of p enums) fs x
    told = extended.own p l tells values entries declared names extensions x there

    abbrev pub known_extended : IsKnown true x.field
    known_extended = record {
      content = told.field.content;
      proto3 = is_proto3 told.field.file;
      both = record {
        stands = extended.stands p l tells values entries declared names extensions x there;
        entry = told.field.entry;
      };
      at = ap (option_and_then field_in) (body_found fs l told.field.file
          (extended.declaration p l tells values entries declared names extensions x there)
          told.field.there told.field.inside);
    }

    pub extended_held : is_some (extension_named W x.field.full_name) ≡ not (holds_floats p x.field)
    extended_held =
        ap is_some (named_same p l tells values entries declared names extensions x there)
        ∙ some_held (holds_floats p x.field) (λ f. field_of p None true f) x.field

    pub extended_under : option_and_then (λ w. when (is_some (extension_named W w)) w) (Some x.field.full_name)
        ≡ option_map full (if_held p x.field)
    extended_under =
        ap (λ b. when b x.field.full_name) extended_held
        ∙ when_held (holds_floats p x.field) full x.field

  abbrev sought : ℕ → ℕ → ExtensionType → Bool
  sought i n x = (x.extendee == i) && (x.field.number == n)

  pub known_under : (i n : ℕ) (e : FieldType) → known_extension p i n ≡ Some e → IsKnown true e
  known_under i n e is = by (find (sought i n) p.extensions) refl where
    by : (o : Option ExtensionType) → find (sought i n) p.extensions ≡ o → IsKnown true e
    by None f =
        absurd (cc (sym (ap (option_and_then (λ (x : ExtensionType). if_held p x.field)) f) ∙ is))
    by (Some x) f =
        let h = found_there (sought i n) p.extensions x f in
        let same : x.field ≡ e = held_is (holds_floats p x.field) x.field e
        (sym (ap (option_and_then (λ (y : ExtensionType). if_held p y.field)) f) ∙ is) in
        subst (IsKnown true) same (known_extended x h.0)

  pub under_same : (i : ℕ) (m : MessageType) (n : ℕ) → slice_get p.messages i ≡ Some m
      → extension_under W m.full_name n ≡ option_map full (known_extension p i n)
  under_same i m n at =
      extension_same p l tells values entries declared names extensions
      (λ w. when (is_some (extension_named W w)) w) full extended_under i m n at

  -- ---- the fields of a message

  module _ (i : ℕ) (m : MessageType) (at : slice_get p.messages i ≡ Some m) where
    abbrev pub facts : MessageFacts
    facts = (own p l tells values i m at).facts

    pub held_as : (proto3 : Bool) (c : FieldContent) (e : FieldType) → Both proto3 false c e
        → field_at W e.full_name ≡ Some c → is_proto3_at W e.full_name ≡ proto3
        → is_some (own_named W m.full_name e.full_name) ≡ not (holds_floats p e)
    held_as proto3 c e both here syntax =
        let w = e.full_name in
        let oneof = oneof_in (message_at W m.full_name) in
        ap (λ o. is_some (option_and_then (λ f. held_field W (is_proto3_at W w) false (oneof f) f) o))
        here
        ∙ ap (λ b. is_some (held_field W b false (oneof c) c)) syntax
        ∙ ap is_some (held_same p l tells values entries declared names proto3 false c e both (oneof c))
        ∙ some_held (holds_floats p e) (field_of p (oneof c) false) e

    module _ (test : FieldFacts → Bool) (passes : FieldType → Bool) where
      abbrev Own : Type 0
      Own = OwnField p l tells values i m facts.fields test passes

      abbrev pub own_known : (o : Own) → IsKnown false o.entry
      own_known o = record { content = o.content; proto3 = o.proto3; both = o.both; at = o.at }

      pub own_held : (o : Own)
          → is_some (own_named W m.full_name o.entry.full_name) ≡ not (holds_floats p o.entry)
      own_held o = held_as o.proto3 o.content o.entry o.both o.at o.syntax

    -- by their numbers
    pub field_same : (n : ℕ) → field_under W m.full_name n ≡ option_map full (known_field p i n)
    field_same n = by (own_field p l tells values i m at n) where
      by : NumberedField p l tells values i m facts.fields n ⊎ NoNumber p l tells values i m n
          → field_under W m.full_name n ≡ option_map full (known_field p i n)
      by (inr none) =
          ap (option_and_then (λ w. when (is_some (own_named W m.full_name w)) w)) none.called
          ∙ sym (ap (λ o. option_map full (option_and_then (if_held p) o)) none.found)
      by (inl o) =
          ap (option_and_then (λ w. when (is_some (own_named W m.full_name w)) w)) o.called
          ∙ ap (λ b. when b o.entry.full_name) (own_held _ _ o)
          ∙ when_held (holds_floats p o.entry) full o.entry
          ∙ sym (ap (λ x. option_map full (option_and_then (if_held p) x)) o.found)

    -- a field that messages hold under a number
    pub record HeldField (e : FieldType) : Type 0 where
      pub known : IsKnown false e
      pub listed : IsListed m.full_name (facts_of known.content) e

    pub held_under : (n : ℕ) (e : FieldType) → known_field p i n ≡ Some e → HeldField e
    held_under n e is = by (own_field p l tells values i m at n) where
      by : NumberedField p l tells values i m facts.fields n ⊎ NoNumber p l tells values i m n
          → HeldField e
      by (inr none) = absurd (cc (sym (ap (option_and_then (if_held p)) none.found) ∙ is))
      by (inl o) =
          let same : o.entry ≡ e = held_is (holds_floats p o.entry) o.entry e
          (sym (ap (option_and_then (if_held p)) o.found) ∙ is) in
          subst HeldField same (record { known = own_known _ _ o; listed = o.stands })
