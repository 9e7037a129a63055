-- What payloads mean as single values is one.
use Rattle.std.proofs.Common.{◌≡◌, false, List, [], ◌∷◌, map, refl, sym, ap, ◌∙◌}
use Rattle.std.specs.List.{flat_map}
use Rattle.reflect_tables.specs.Types.{KindType, PoolType}
use Rattle.reflect_wire.specs.Records.{Payload}
use Rattle.reflect_scalar.specs.Singles as held
use Rattle.reflect_decode.specs.Scalars.{AreValues, IsLast}
use Rattle.protobuf_model.specs.Meaning.{Merge, last_or}
use Rattle.protobuf_model.specs.Scalars.{meant}
use Rattle.protobuf_model.specs.Values as model
use Rattle.message_view.specs.Singles.{scalar_of, single_view}
use Rattle.message_view.proofs.Elements.{last_or_is, meant_in, singly, values_are}

-- ---- a single value is told by what is seen of it
abbrev back : model.Single → held.Single
back (model.truth b) = held.truth b
back (model.int32 z) = held.int32 z
back (model.int64 z) = held.int64 z
back (model.uint32 n) = held.uint32 n
back (model.uint64 n) = held.uint64 n
back (model.text t) = held.text t
back (model.blob b) = held.blob b
back (model.enumerated z) = held.enumerated z

back_is : (w : held.Single) → back (single_view w) ≡ w
back_is (held.truth b) = refl
back_is (held.int32 z) = refl
back_is (held.int64 z) = refl
back_is (held.uint32 n) = refl
back_is (held.uint64 n) = refl
back_is (held.text t) = refl
back_is (held.blob b) = refl
back_is (held.enumerated z) = refl

abbrev back_in : model.Content → held.Single
back_in (model.single s) = back s
back_in c = held.truth false

all_back : (ws : List held.Single) → map back_in (map singly ws) ≡ ws
all_back [] = refl
all_back (w ∷ ws) = ap (λ x. x ∷ map back_in (map singly ws)) (back_is w) ∙ ap (λ l. w ∷ l) (all_back ws)

module _ (pool : PoolType) (t : KindType) (ps : List Payload) where
  last_means : (w : held.Single) → IsLast pool t ps w → last_or (model.truth false) (flat_map (meant (scalar_of t)) ps) ≡ single_view w
  last_means w (kind, lead, p, is, ends, means) =
      ap (λ l. last_or (model.truth false) (flat_map (meant (scalar_of t)) l)) ends
      ∙ last_or_is t (model.truth false) lead p (single_view w) (meant_in pool kind t p w is means)

  -- the last value is one
  pub one_last : (v w : held.Single) → IsLast pool t ps v → IsLast pool t ps w → v ≡ w
  one_last v w one other = sym (back_is v) ∙ ap back (sym (last_means v one) ∙ last_means w other) ∙ back_is w

  abbrev taken : Merge
  taken = λ u m rs. m

  -- and so are the values of a list
  pub one_row : (vs ws : List held.Single) → AreValues pool t ps vs → AreValues pool t ps ws → vs ≡ ws
  one_row vs ws one other = sym (all_back vs) ∙ ap (map back_in) (sym (values_are taken pool t ps vs one) ∙ values_are taken pool t ps ws other) ∙ all_back ws
