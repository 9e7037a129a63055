-- What batches of files say stays as further ones come.
use Rattle.std.proofs.Common.{◌≡◌, List, [], ◌∷◌, ◌++◌, Some, subst}
use Rattle.descriptor_records.specs.Content.{FileContent, Text}
use Rattle.texts_view.proofs.Files.{message_declared, stays}
use Rattle.texts_view.proofs.Wanted.{mapped}
use Rattle.protobuf_model.specs.Types.{Name}
use Rattle.reflect_pool.specs.Dots.{without_dot}
use Rattle.schema_view.specs.Declarations.{MessageFacts}
use Rattle.schema_view.specs.Lawful.{Builds}
use Rattle.schema_view.specs.Types.{message_at}
use Rattle.schema_view.specs.Views.{Grows, View, view_of}
use Rattle.schema_view.proofs.Batches.{one_built}
use Rattle.schema_view.proofs.Looking.{Declared}
use Rattle.schema_view.proofs.Orders.{views_stay}
use Rattle.schema_view.proofs.Road.{AreLinked, built_linked}
use Rattle.texts_view.specs.Named.{type_called}

-- ---- views, batch by batch

grows_on : (old between new : View) → Grows old between → Grows between new → Grows old new
grows_on old between new first then = record {
  files = λ n x e. then.files n x (first.files n x e);
  declared = λ n x e. then.declared n x (first.declared n x e);
  extensions = λ k x e. then.extensions k x (first.extensions k x e);
}

pub grows_further : (more earlier : List (List FileContent)) (old after : List FileContent) → Builds earlier old → Builds (more ++ earlier) after
    → Grows (view_of old) (view_of after)
grows_further [] earlier old after built also = subst (λ fs. Grows (view_of old) (view_of fs)) (one_built earlier old after built also) (stays (view_of old))
grows_further (new ∷ more) earlier old after built (between, also, adds) =
    grows_on (view_of old) (view_of between) (view_of after) (grows_further more earlier old between built also) (views_stay between new after adds)

-- ---- by a view that has grown

module _ (batches : List (List FileContent)) (fs gs : List FileContent) (built : Builds batches fs) (grow : Grows (view_of fs) (view_of gs)) where
  abbrev linked : AreLinked fs
  linked = built_linked batches fs built

  -- a type that is found by a name is declared
  pub called_declared : (w : Text) (t : Name) → type_called (view_of fs) w ≡ Some t → Declared fs t
  called_declared w t e =
      mapped (λ (m : MessageFacts). without_dot w) (message_at (view_of fs) (without_dot w)) t e (λ m here same.
      subst (Declared fs) same (message_declared fs gs linked grow (without_dot w) m here))
