-- Texts give the same messages, in the same bytes, after any number of further batches.
use Rattle.std.proofs.Common.{◌≡◌, ◌∙◌, List, [], ◌∷◌, ◌++◌, true, Option, Some, subst}
use Rattle.descriptor_records.specs.Content.{Text, FileContent}
use Rattle.protobuf_model.specs.Bytes.{bytes_of}
use Rattle.protobuf_model.specs.Types.{Name}
use Rattle.protobuf_model.specs.Values.{Message}
use Rattle.text_model.specs.Texts.{Gives}
use Rattle.schema_view.specs.Declarations.{MessageFacts}
use Rattle.schema_view.specs.Lawful.{AddsLawful, Builds}
use Rattle.schema_view.specs.Types.{message_at, types_of}
use Rattle.schema_view.specs.Views.{view_of}
use Rattle.schema_view.proofs.Batches.{one_built}
use Rattle.schema_view.proofs.Orders.{views_stay}
use Rattle.schema_view.proofs.Road.{built_linked}
use Rattle.texts_view.specs.Named.{schema_in}
use Rattle.texts_view.specs.Declared.{is_declared}
use Rattle.texts_view.specs.SaysAll.{SaysAll}
use Rattle.texts_view.proofs.Files.{IsAsBefore, back, files_say_all, grown_files, message_declared, stays}

pub further : (more earlier : List (List FileContent)) (old after : List FileContent) (decoded later : Name → Text → Option Message) → Builds earlier old
    → Builds (more ++ earlier) after → IsAsBefore old after decoded later
further [] earlier old after decoded later built also =
    subst (λ fs. IsAsBefore old fs decoded later) (one_built earlier old after built also)
    (grown_files old old (built_linked earlier old built) (stays (view_of old)) decoded later)
further (new ∷ more) earlier old after decoded later built (between, also, adds) =
    let before = further more earlier old between decoded decoded built also in
    let last = grown_files between after (built_linked (more ++ earlier) between also) (views_stay between new after adds) decoded later in
    record {
      declared = λ t h. last.declared t (before.declared t h);
      called = λ w t e. last.called w t (before.called w t e);
      given = λ t h z x g. last.given t (before.declared t h) z x (before.given t h z x g);
      written = λ t h z x g. last.written t (before.declared t h) z x (before.given t h z x g) ∙ before.written t h z x g;
    }

-- a message type of the schema that the batches build
pub is_there : (batches : List (List FileContent)) (fs : List FileContent) → Builds batches fs → (t : Name) (m : MessageFacts)
    → message_at (view_of fs) t ≡ Some m → is_declared (view_of fs) t ≡ true
is_there batches fs built t m e =
    let l = built_linked batches fs built in
    back fs fs l (stays (view_of fs)) t (message_declared fs fs l (stays (view_of fs)) t m e)

module _ (earlier more : List (List FileContent)) (old after : List FileContent) (decoded later : Name → Text → Option Message) (built : Builds earlier old) (also : Builds (more ++ earlier) after)
    (t : Name) (m : MessageFacts) (there : message_at (view_of old) t ≡ Some m) (z : Text) (x : Message) (gives : Gives (schema_in (view_of old) decoded) t z x) where
  pub given_further : Gives (schema_in (view_of after) later) t z x
  given_further = (further more earlier old after decoded later built also).given t (is_there earlier old built t m there) z x gives

  pub written_further : bytes_of (types_of (view_of after)) t x ≡ bytes_of (types_of (view_of old)) t x
  written_further = (further more earlier old after decoded later built also).written t (is_there earlier old built t m there) z x gives

module _ (earlier : List (List FileContent)) (old new after : List FileContent) (decoded later : Name → Text → Option Message) (built : Builds earlier old) (adds : AddsLawful old new after) where
  pub schemas_grow : SaysAll (schema_in (view_of old) decoded) (schema_in (view_of after) later) (is_declared (view_of old))
  schemas_grow = files_say_all old after (built_linked earlier old built) (views_stay old new after adds) decoded later

  pub given_stays : (t : Name) (m : MessageFacts) → message_at (view_of old) t ≡ Some m → (z : Text) (x : Message)
      → Gives (schema_in (view_of old) decoded) t z x → Gives (schema_in (view_of after) later) t z x
  given_stays = given_further earlier (new ∷ []) old after decoded later built (old, built, adds)

  pub bytes_stay : (t : Name) (m : MessageFacts) → message_at (view_of old) t ≡ Some m → (z : Text) (x : Message)
      → Gives (schema_in (view_of old) decoded) t z x
      → bytes_of (types_of (view_of after)) t x ≡ bytes_of (types_of (view_of old)) t x
  bytes_stay = written_further earlier (new ∷ []) old after decoded later built (old, built, adds)
