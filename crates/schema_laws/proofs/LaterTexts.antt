-- What a schema encoded a text to, a schema of further batches encodes it to.
use Rattle.std.proofs.Common.{◌≡◌, ◌∙◌, ℕ, List, ◌++◌, Bool, true, Option, Some, None, bytes_eq, map, option_map, ap, sym, subst, refl, get_or}
use Rattle.std.specs.List.{find}
use Rattle.std.proofs.lemmas.Option.{slice_get-get_or}
use Rattle.std.proofs.lemmas.Slice.Eq.{bytes_eq-Decides}
use Rattle.descriptor_records.specs.Content.{FileContent, file_view}
use Rattle.protobuf_model.specs.Bytes.{bytes_of}
use Rattle.protobuf_model.specs.Types.{Name}
use Rattle.protobuf_model.specs.Values.{nothing}
use Rattle.reflect_pool.specs.Dots.{without_dot}
use Rattle.reflect_tables.specs.Types.{MessageType, PoolType, no_type}
use Rattle.text_error.specs.declared.error.ParseErrorKind.{ParseErrorKind}
use Rattle.text_model.specs.Schemas.{Schema}
use Rattle.text_model.specs.Texts.{Gives}
use Rattle.text_model.proofs.Merging.{one_message}
use Rattle.message_view.specs.Sound.{IsSound}
use Rattle.message_view.specs.Types.{types_of}
use Rattle.schema_view.specs.Declarations.{MessageFacts}
use Rattle.schema_view.specs.Types.{message_at}
use Rattle.schema_view.specs.Views.{view_of}
use Rattle.text_view.specs.Schemas.{schema_of, type_called}
use Rattle.linked_view.proofs.Places.{get_contains}
use Rattle.types_view.specs.Pools.{IsKept}
use Rattle.types_view.specs.Typed.{IsTyped}
use Rattle.types_view.proofs.Extended.{found_there, none_found}
use Rattle.texts_view.specs.Named as named
use Rattle.texts_view.specs.Named.{schema_in}
use Rattle.texts_view.proofs.Settled.{settled_names}
use Rattle.texts_view.specs.Declared.{is_declared}
use Rattle.texts_view.proofs.Batches.{further, is_there}
use Rattle.texts_view.proofs.Files.{IsAsBefore}
use Rattle.texts_view.proofs.Wanted.{mapped}
use Rattle.schema_core.specs.Payloads.{Encoded}
use Rattle.schema_core.specs.Refusals.{IsKnown, IsNoText, IsUnknown}
use Rattle.schema_laws.proofs.Encoding.{IsGiven, encoded, refused}
use Rattle.schema_laws.proofs.TextsAlike.{no_message}

module _ (name : List ℕ) where
  abbrev bears : MessageType → Bool
  bears m = bytes_eq m.full_name (without_dot name)

  -- a type that is known is that of the name, and what no type has is found by none
  pub called : (p : PoolType) → IsKnown p name → type_called p name ≡ Some (without_dot name)
  called p (i, found) = by (find bears p.messages) refl where
    by : (o : Option MessageType) → find bears p.messages ≡ o → option_map (λ (m : MessageType). m.full_name) o ≡ Some (without_dot name)
    by (Some m) e = ap Some ((bytes_eq-Decides m.full_name (without_dot name)).0 (found_there bears p.messages m e).1)
    by None e =
        let m = get_or p.messages i no_type in
        absurd (none_found bears p.messages m e (get_contains p.messages i m (slice_get-get_or p.messages i no_type found.0)) ((bytes_eq-Decides m.full_name (without_dot name)).1 (found.1.0 no_type)))

  pub known : (p : PoolType) → type_called p name ≡ Some (without_dot name) → IsUnknown p name → ⊥
  known p e none =
      mapped (λ (m : MessageType). m.full_name) (find bears p.messages) (without_dot name) e (λ m here same.
      let at = (found_there bears p.messages m here).0 in
      none at.0 m at.1 (ap (λ (m : MessageType). m.full_name) at.2 ∙ same))

module _ (earlier more : List (List FileContent)) (p q : PoolType) (typed : IsTyped earlier p) (also : IsTyped (more ++ earlier) q) (kept : IsKept p) (too : IsKept q) where
  abbrev old : List FileContent
  old = map file_view typed.but.linked.records

  abbrev new : List FileContent
  new = map file_view also.but.linked.records

  before : schema_of p no_message ≡ schema_in (view_of old) no_message
  before = settled_names earlier p typed kept no_message

  after : schema_of q no_message ≡ schema_in (view_of new) no_message
  after = settled_names (more ++ earlier) q also too no_message

  grown : IsAsBefore old new no_message no_message
  grown = further more earlier old new no_message no_message typed.but.built.built also.but.built.built

  module _ (sound : IsSound p) (so : IsSound q) (name : List ℕ) where
    abbrev t : Name
    t = without_dot name

    -- the type of the name, in the words of the view
    viewed : type_called p name ≡ Some t → named.type_called (view_of old) name ≡ Some t
    viewed e = sym (ap (λ (w : Schema). w.message name) before) ∙ e

    declared : type_called p name ≡ Some t → is_declared (view_of old) t ≡ true
    declared e =
        mapped (λ (m : MessageFacts). t) (message_at (view_of old) t) t (viewed e) (λ m here same. is_there earlier old typed.but.built.built t m here)

    given : (text out : List ℕ) → Encoded p name text out → IsGiven q no_message t text out
    given text out encodes =
        let x = encoded p sound no_message name text out encodes in
        let there = declared (called name p (encodes.0.index, encodes.1.1)) in
        let gives : Gives (schema_in (view_of old) no_message) t text x.0 = subst (λ w. Gives w t text x.0) before x.1 in
        let same : bytes_of (types_of q) t x.0 ≡ bytes_of (types_of p) t x.0 =
        ap (λ (w : Schema). bytes_of w.types t x.0) after ∙ grown.written t there text x.0 gives ∙ sym (ap (λ (w : Schema). bytes_of w.types t x.0) before) in
        (x.0, subst (λ w. Gives w t text x.0) (sym after) (grown.given t there text x.0 gives), x.2 ∙ sym same)

    pub encoded_before : (text a b : List ℕ) → Encoded p name text a → Encoded q name text b → a ≡ b
    encoded_before text a b first second =
        let x = given text a first in
        let y = encoded q so no_message name text b second in
        x.2 ∙ ap (bytes_of (types_of q) t) (one_message (schema_of q no_message) t nothing text x.0 y.0 x.1 y.1) ∙ sym y.2

    pub taken_after : (text out : List ℕ) (kind : ParseErrorKind) → Encoded p name text out → IsNoText q name text kind → ⊥
    taken_after text out kind encodes none =
        let x = given text out encodes in
        refused q so no_message name text kind none x.0 x.1

    pub known_after : (text out : List ℕ) → Encoded p name text out → IsUnknown q name → ⊥
    known_after text out encodes none =
        known name q (ap (λ (w : Schema). w.message name) after ∙ grown.called name t (viewed (called name p (encodes.0.index, encodes.1.1)))) none
