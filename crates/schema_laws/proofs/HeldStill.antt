-- What options are held as they are still held as when a batch of files is added.
use Rattle.std.proofs.Common.{◌≡◌, ◌∙◌, List, ◌∷◌, map, Option, Some, None, inl, inr, ap, refl, sym, subst}
use Rattle.std.specs.List.{find}
use Rattle.std.specs.Option.{option_map}
use Rattle.std.specs.Str.{bytes_eq}
use Rattle.descriptor_records.specs.Content.{FileContent, OptionsContent, Text, file_view}
use Rattle.known_messages.proofs.Grown.{forms_stay}
use Rattle.message_view.specs.Types as pool
use Rattle.option_parts.specs.OptionTypes.{type_name}
use Rattle.option_parts.specs.declared.option_scope.OptionScope.{OptionScope}
use Rattle.protobuf_model.specs.Older.{IsOlder}
use Rattle.protobuf_model.specs.Types.{Name}
use Rattle.protobuf_model.specs.Values.{Message}
use Rattle.reflect_tables.specs.Types.{MessageType, PoolType}
use Rattle.schema_view.specs.Declarations.{MessageFacts}
use Rattle.schema_view.specs.Lawful.{AddsLawful}
use Rattle.schema_view.specs.Types.{message_at}
use Rattle.schema_view.specs.Types as view
use Rattle.schema_view.specs.Views.{Grows, Held, View, view_of}
use Rattle.schema_view.proofs.Batches.{one_built}
use Rattle.schema_view.proofs.Growing.{grown_types}
use Rattle.schema_view.proofs.Orders.{views_stay}
use Rattle.text_view.specs.Schemas.{type_called}
use Rattle.texts_view.proofs.Settled.{settled_names}
use Rattle.types_view.specs.Pools.{IsKept}
use Rattle.types_view.specs.Typed.{IsTyped}
use Rattle.types_view.proofs.Settled.{settled_types}
use Rattle.settled_records.proofs.Said.{no_dot}
use Rattle.settled_records.proofs.ScopeTypes.{found_named, is_named, named_found}
use Rattle.schema_laws.specs.HeldOptions.{AreHeld, HasType}

-- ---- types of options that a pool has
-- nothing is read of the messages that bytes mean
abbrev unread : Name → Text → Option Message
unread t bytes = None

module _ (p : PoolType) (scope : OptionScope) where
  called_so : type_called p (type_name scope) ≡ option_map (λ (m : MessageType). m.full_name) (find (is_named scope) p.messages)
  called_so = ap (λ n. option_map (λ (m : MessageType). m.full_name) (find (λ (m : MessageType). bytes_eq m.full_name n) p.messages)) (no_dot scope)

  -- the first of the name is found by it
  type_called_so : HasType p scope → (t : Name) × (type_called p (type_name scope) ≡ Some t)
  type_called_so (i, first) = (_, called_so ∙ ap (option_map (λ (m : MessageType). m.full_name)) (named_found scope p i first))

  -- and what is found by it is there
  type_there : (t : Name) → type_called p (type_name scope) ≡ Some t → HasType p scope
  type_there t e = by (find (is_named scope) p.messages) refl (sym called_so ∙ e)
    where
      by : (o : Option MessageType) → find (is_named scope) p.messages ≡ o → option_map (λ (m : MessageType). m.full_name) (find (is_named scope) p.messages) ≡ Some t → HasType p scope
      by None none is = absurd (cc (none, is))
      by (Some m) found is = found_named scope p m found

module _ (batches : List (List FileContent)) (p : PoolType) (is : IsTyped batches p) (kept : IsKept p) (scope : OptionScope) where
  abbrev facts : View
  facts = view_of (map file_view is.but.linked.records)

  seen : type_called p (type_name scope) ≡ option_map (λ (m : MessageFacts). type_name scope) (message_at facts (type_name scope))
  seen =
      ap (λ w. w.message (type_name scope)) (settled_names batches p is kept unread)
      ∙ ap (λ n. option_map (λ (m : MessageFacts). n) (message_at facts n)) (no_dot scope)

  -- what a pool has a type for its records declare one for
  pub type_declared : HasType p scope → (m : MessageFacts) × (message_at facts (type_name scope) ≡ Some m)
  type_declared has = let r = type_called_so p scope has in by (message_at facts (type_name scope)) refl r.0 (sym seen ∙ r.1)
    where
      by : (o : Option MessageFacts) → message_at facts (type_name scope) ≡ o → (t : Name) → option_map (λ (m : MessageFacts). type_name scope) (message_at facts (type_name scope)) ≡ Some t
          → (m : MessageFacts) × (message_at facts (type_name scope) ≡ Some m)
      by None none t is = absurd (cc (none, is))
      by (Some m) some t is = (m, some)

  -- and the other way round
  pub declared_type : (m : MessageFacts) → message_at facts (type_name scope) ≡ Some m → HasType p scope
  declared_type m e = type_there p scope (type_name scope) (seen ∙ ap (option_map (λ (m : MessageFacts). type_name scope)) e)

-- a message that a view has a greater one has
message_stays : (old new : View) → Grows old new → (t : Name) (m : MessageFacts) → message_at old t ≡ Some m → message_at new t ≡ Some m
message_stays old new grows t m e = by (old.declared t) refl
  where
    by : (o : Option Held) → old.declared t ≡ o → message_at new t ≡ Some m
    by None none = absurd (cc (none, e))
    by (Some h) some = cc (grows.declared t h some, some, e)

-- ---- a batch more
module _ (earlier : List (List FileContent)) (batch : List FileContent) (old new : PoolType) (was : IsTyped earlier old) (is : IsTyped (batch ∷ earlier) new) (kept : IsKept old) (also : IsKept new) where
  abbrev before : List FileContent
  before = map file_view was.but.linked.records

  abbrev after : List FileContent
  after = map file_view is.but.linked.records

  adds : AddsLawful before batch after
  adds = subst (λ fs. AddsLawful fs batch after) (one_built earlier is.but.built.built.0 before is.but.built.built.1 was.but.built.built) is.but.built.built.2

  types_grow : (t : Name) (m : MessageFacts) → message_at (view_of before) t ≡ Some m → IsOlder (pool.types_of old) t (pool.types_of new) t
  types_grow t m e =
      subst (λ types. IsOlder types t (pool.types_of new) t) (sym (settled_types earlier old was kept))
      (subst (λ types. IsOlder (view.types_of (view_of before)) t types t) (sym (settled_types (batch ∷ earlier) new is also))
      (grown_types earlier before batch after was.but.built.built adds t m e))

  type_stays : (scope : OptionScope) → HasType old scope → HasType new scope
  type_stays scope has =
      let d = type_declared earlier old was kept scope has in
      declared_type (batch ∷ earlier) new is also scope d.0 (message_stays (view_of before) (view_of after) (views_stay before batch after adds) (type_name scope) d.0 d.1)

  pub held_stay : (scope : OptionScope) (o : OptionsContent) → AreHeld old scope o → AreHeld new scope o
  held_stay scope o held bytes = elim (held bytes) [
    | inl stored ↦
        let d = type_declared earlier old was kept scope stored.0 in
        inl (
          type_stays scope stored.0,
          (stored.1.0, (forms_stay (pool.types_of old) (pool.types_of new) (type_name scope) (type_name scope) stored.1.0 o.encoded (types_grow (type_name scope) d.0 d.1) stored.1.1.0, stored.1.1.1)),
        )
    | inr given ↦ inr given
  ]
