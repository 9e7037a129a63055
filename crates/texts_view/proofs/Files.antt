-- What linked files say to texts they say when more files come, and so texts give the same messages.
use Rattle.std.proofs.Common.{◌≡◌, ℕ, ℤ, pos, List, inl, inr, Bool, true, false, ◌&&◌, not, bytes_eq, codes, is_some, Option, Some, None, refl, sym, ap, ◌∙◌, subst, option_map}
use Rattle.std.specs.Option.{option_and_then}
use Rattle.std.proofs.lemmas.Option.{none-some}
use Rattle.descriptor_records.specs.Content.{Text, FieldContent, FileContent}
use Rattle.protobuf_model.specs.Bytes.{bytes_of}
use Rattle.protobuf_model.specs.Types.{Name}
use Rattle.protobuf_model.specs.Values.{Message}
use Rattle.text_model.specs.Schemas.{HoldsOne}
use Rattle.text_model.specs.Texts.{Gives}
use Rattle.schema_view.specs.Declarations.{MessageFacts, of_message}
use Rattle.schema_view.specs.Fields.{is_repeated}
use Rattle.schema_view.specs.Lawful.{Builds}
use Rattle.schema_view.specs.Rules.{is_number}
use Rattle.schema_view.specs.Scalars.{scalar_type}
use Rattle.schema_view.specs.Types.{type_name, message_at, field_at, name_of_field, value_number, types_of}
use Rattle.schema_view.specs.Views.{Held, View, Grows, view_of}
use Rattle.schema_view.proofs.Road.{AreLinked, built_linked}
use Rattle.schema_view.proofs.Looking.{Declared, from_there, looked_up}
use Rattle.schema_view.proofs.Standing.{stands, message_there}
use Rattle.schema_view.proofs.Growing.{kept, joins_no_oneof, kinds_declared}
use Rattle.texts_view.specs.Named.{shares, is_lone, is_any, type_called, schema_in}
use Rattle.reflect_pool.specs.Dots.{without_dot}
use Rattle.texts_view.specs.Declared.{is_declared}
use Rattle.texts_view.specs.SaysAll.{HaveEntryValues, SaysAll}
use Rattle.texts_view.proofs.Wanted.{mapped}
use Rattle.texts_view.proofs.Grown.{given_again, written_again}
use Rattle.texts_view.proofs.FieldNames.{message_same, number_called_same, extension_called_stays}
use Rattle.texts_view.proofs.Records.{under, numbered_same, map_there, keyed_is_map, enums_same, entry_same, entry_named}
use Rattle.texts_view.proofs.EntryValues.{value_part, holds_value}

module _ (fs gs : List FileContent) (l : AreLinked fs) (grow : Grows (view_of fs) (view_of gs)) where
  abbrev V : View
  V = view_of fs

  abbrev W : View
  W = view_of gs

  -- ---- names that are declared

  there : (t : Name) → is_declared V t ≡ true → Declared fs t
  there t e = by (V.declared t) refl e where
    by : (o : Option Held) → V.declared t ≡ o → is_some o ≡ true → Declared fs t
    by None i j = absurd (cc)
    by (Some h) i j = let at = from_there fs t h i in (at.0, at.1, at.2, at.3, at.4)

  pub back : (t : Name) → Declared fs t → is_declared V t ≡ true
  back t (f, d, i, j, e) = subst (λ n. is_declared V n ≡ true) e (ap is_some (looked_up fs l f d i j))

  pub message_declared : (t : Name) (m : MessageFacts) → message_at V t ≡ Some m → Declared fs t
  message_declared t m e = let at = message_there fs l t m e in (at.0, record { name = t; body = of_message m }, at.1, at.2, refl)

  -- ---- types by their full names, and google.protobuf.Any

  type_stays : (x : Text) (u : Name) → type_called V x ≡ Some u → (type_called W x ≡ Some u) × (is_declared V u ≡ true)
  type_stays x u e =
      mapped (λ (m : MessageFacts). without_dot x) (message_at V (without_dot x)) u e (λ m here same.
      let at = message_declared (without_dot x) m here in (
        ap (option_map (λ (m : MessageFacts). without_dot x)) (sym (message_same fs gs l grow (without_dot x) at) ∙ here) ∙ ap Some same,
        subst (λ n. is_declared V n ≡ true) same (back (without_dot x) at),
      ))

  abbrev lone_by : ℤ → Option MessageFacts → Option FieldContent → Bool
  lone_by z m o = elim o as (λ _. Bool) [
    | None ↦ false
    | Some f ↦ is_number z (scalar_type f.field_type f.type_name) && (not (is_repeated f) && not (shares m f))
  ]

  lone_same : (t : Name) → Declared fs t → (n : ℕ) (z : ℤ) → is_lone V t n z ≡ is_lone W t n z
  lone_same t h n z =
      ap (lone_by z (message_at V t)) (numbered_same fs gs l grow t h n)
      ∙ ap (λ m. lone_by z m (option_and_then (field_at W) (name_of_field W t n))) (message_same fs gs l grow t h)

  any_same : (t : Name) → Declared fs t → is_any V t ≡ is_any W t
  any_same t h =
      ap (λ b. bytes_eq t (codes "google.protobuf.Any") && (b && is_lone V t 2 (pos 12))) (lone_same t h 1 (pos 9))
      ∙ ap (λ b. bytes_eq t (codes "google.protobuf.Any") && (is_lone W t 1 (pos 9) && b)) (lone_same t h 2 (pos 12))

  -- ---- all

  pub files_say_all : (decoded later : Name → Text → Option Message) → SaysAll (schema_in V decoded) (schema_in W later) (is_declared V)
  files_say_all decoded later = record {
    fields = λ t n f h e. elim (kept fs gs l grow t n (there t h)) [ inl none ↦ absurd (none-some f (sym none ∙ e)) | inr same ↦ sym same ∙ e ];
    inside = λ t n f frame u h e k. back u (kinds_declared fs gs l grow t n f e frame u k);
    apart = λ t n h e. joins_no_oneof fs gs l grow t n (there t h) e;
    named = λ t x n h e. sym (number_called_same fs gs l grow t (there t h) x) ∙ e;
    extended = λ t x n h e. extension_called_stays fs gs l grow t x n e;
    enums = λ t n f x h e. ap (value_number x) (sym (enums_same fs gs l grow t n f (under fs gs l grow t n f e) (there t h)));
    entries = λ t n f key h e is.
        let u = under fs gs l grow t n f e in
        let map = keyed_is_map fs gs l grow u.proto3 u.extension u.oneof u.content f key u.held is in
        let m = map_there fs gs l grow u.content (stands fs u.name u.content u.there) map.0 in (
          sym (entry_same fs gs l grow t n f u (there t h)),
          subst (λ x. is_declared V x ≡ true) (sym (entry_named fs gs l grow t n f u m)) (back (type_name u.content) m.declared),
        );
    messages = type_stays;
    any = λ t h e. sym (any_same t (there t h)) ∙ e;
  }

still : (before after : Name → Option Held) → ((n : Name) (x : Held) → before n ≡ Some x → after n ≡ Some x) → (t : Name) → is_some (before t) ≡ true
    → is_some (after t) ≡ true
still before after grow t = by (before t) refl where
  by : (o : Option Held) → before t ≡ o → is_some o ≡ true → is_some (after t) ≡ true
  by None i j = absurd (cc)
  by (Some x) i j = ap is_some (grow t x i)

-- the view as it is
pub stays : (v : View) → Grows v v
stays v = record { files = λ n x e. e; declared = λ n x e. e; extensions = λ k x e. e }

entries_have : (fs : List FileContent) → AreLinked fs → (decoded : Name → Text → Option Message) → HaveEntryValues (schema_in (view_of fs) decoded)
entries_have fs l decoded t n f key e is =
    let grow = stays (view_of fs) in
    let u = under fs fs l grow t n f e in
    let map = keyed_is_map fs fs l grow u.proto3 u.extension u.oneof u.content f key u.held is in
    let m = map_there fs fs l grow u.content (stands fs u.name u.content u.there) map.0 in
    subst (λ x. HoldsOne f.part (types_of (view_of fs) x 2)) (sym (entry_named fs fs l grow t n f u m))
    (holds_value fs l (type_name u.content) m.facts m.at m.entry f.part (value_part fs l u.extension u.oneof u.content f map.1))

pub built_entries : (batches : List (List FileContent)) (fs : List FileContent) (decoded : Name → Text → Option Message) → Builds batches fs
    → HaveEntryValues (schema_in (view_of fs) decoded)
built_entries batches fs decoded built = entries_have fs (built_linked batches fs built) decoded

-- ---- what the older files say, the newer say after them

-- of names that are declared
pub record IsAsBefore (old new : List FileContent) (decoded later : Name → Text → Option Message) : Type 0 where
  pub declared : (t : Name) → is_declared (view_of old) t ≡ true → is_declared (view_of new) t ≡ true
  pub called : (w : Text) (t : Name) → type_called (view_of old) w ≡ Some t → type_called (view_of new) w ≡ Some t
  pub given : (t : Name) → is_declared (view_of old) t ≡ true → (z : Text) (x : Message) → Gives (schema_in (view_of old) decoded) t z x
      → Gives (schema_in (view_of new) later) t z x
  pub written : (t : Name) → is_declared (view_of old) t ≡ true → (z : Text) (x : Message) → Gives (schema_in (view_of old) decoded) t z x
      → bytes_of (types_of (view_of new)) t x ≡ bytes_of (types_of (view_of old)) t x

pub grown_files : (fs gs : List FileContent) → AreLinked fs → Grows (view_of fs) (view_of gs) → (decoded later : Name → Text → Option Message)
    → IsAsBefore fs gs decoded later
grown_files fs gs l grow decoded later =
    let old = schema_in (view_of fs) decoded in
    let new = schema_in (view_of gs) later in
    let all = files_say_all fs gs l grow decoded later in
    let entries = entries_have fs l decoded in
    record {
      declared = still ((view_of fs).declared) ((view_of gs).declared) grow.declared;
      called = λ w t e. (all.messages w t e).0;
      given = given_again old new (is_declared (view_of fs)) all entries;
      written = written_again old new (is_declared (view_of fs)) all entries;
    }
