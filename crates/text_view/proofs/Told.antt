-- The steps of texts by the names of their targets.
use Rattle.std.proofs.Common.{◌≡◌, ◌⊎◌, ◌<◌, ◌∙◌, true, false, List, map, length, Option, Some, None, ap, subst}
use Rattle.std.specs.List.{AllByRecursion}
use Rattle.protox_lex.specs.Class.{Text}
use Rattle.protobuf_model.specs.Types.{Name}
use Rattle.protobuf_model.specs.Values.{Content, Message}
use Rattle.reflect_tables.specs.Types.{PoolType}
use Rattle.reflect_tables.specs.Types as types
use Rattle.reflect_pool.specs.Shapes.{holds_map}
use Rattle.reflect_pool.specs.declared.message.MessageDescriptor.{MessageDescriptor}
use Rattle.reflect_message.specs.Oneofs.{IsExclusive}
use Rattle.reflect_message.specs.Names.{DynamicMessage, Value}
use Rattle.reflect_format.specs.Filled.{HasRival, PutsOne}
use Rattle.reflect_format.specs.Named.{NamesField, NamesExtension}
use Rattle.reflect_format.specs.Steps.{AddsValues, is_set}
use Rattle.reflect_format.specs.Takes.{holds_many, target_pool, target_type}
use Rattle.reflect_format.specs.declared.target.Target.{Target}
use Rattle.text_model.specs.Value.{add_all, of_message, set_one, wanted_of}
use Rattle.message_view.specs.Types.{field_at}
use Rattle.message_view.specs.Views.{content_view, view}
use Rattle.text_view.specs.Holds.{HoldsKinds}
use Rattle.text_view.specs.Names.{names_of}
use Rattle.message_view.specs.Sound.{IsSound}
use Rattle.text_view.specs.Schemas.{schema_of, shape_at}
use Rattle.text_view.specs.Targets.{target_field}
use Rattle.text_view.specs.Values.{IsMessageOf, IsOne}
use Rattle.text_view.proofs.Given.{map_wanted}
use Rattle.text_view.proofs.Shapes.{shape_is}
use Rattle.text_view.proofs.Once.{put_once, refused}
use Rattle.text_view.proofs.Owned.{named_target, pool_is}
use Rattle.text_view.proofs.Stepping.{map_all}

pub put_alone : (old new : DynamicMessage) → IsSound old.descriptor.pool.now → (w : Text) (t : Target) → NamesField old.descriptor w t ⊎ NamesExtension old.descriptor w t
    → (v : Value) → IsOne v → IsExclusive old → HoldsKinds old → new.descriptor ≡ old.descriptor → PutsOne t v old new
    → set_one (field_at old.descriptor.pool.now old.descriptor.index) (target_type t).number (target_field old.descriptor t).part (view old) (content_view v) ≡ Some (view new)
put_alone old new sound w t named v one exclusive kinds same puts =
    put_once old new sound exclusive kinds t (named_target old.descriptor sound.apart w t named) v one same puts

pub no_second : (m : DynamicMessage) → IsSound m.descriptor.pool.now → (w : Text) (t : Target) → NamesField m.descriptor w t ⊎ NamesExtension m.descriptor w t
    → holds_many t ≡ false → HoldsKinds m → (is_set m t ≡ true) ⊎ HasRival t m → (c : Content)
    → set_one (field_at m.descriptor.pool.now m.descriptor.index) (target_type t).number (target_field m.descriptor t).part (view m) c ≡ None
no_second m sound w t named one kinds h c = refused m sound kinds t (named_target m.descriptor sound.apart w t named) one h c

pub entries_read : (m : MessageDescriptor) → IsSound m.pool.now → (decoded : Name → Text → Option Message) (w : Text) (t : Target) → NamesField m w t ⊎ NamesExtension m w t
    → holds_map (target_pool t) (target_type t) ≡ true → (d : MessageDescriptor) → d.pool.now ≡ m.pool.now → (target_type t).kind ≡ types.message d.index
    → wanted_of (schema_of m.pool.now decoded) (names_of m.pool.now m.index) (target_type t).number (target_field m t).part (target_field m t).label ≡ of_message (shape_at m.pool.now d.index)
entries_read m sound decoded w t named is_map d at kind =
    let owns = named_target m sound.apart w t named in
    map_wanted m sound decoded t owns d kind (subst (λ p. holds_map p (target_type t) ≡ true) (pool_is m sound.apart t owns) is_map)
    ∙ ap of_message (shape_is m.pool.now sound.names decoded d.index (subst (λ (p : PoolType). d.index < length p.messages) at d.in_range))

pub map_put : (old new : DynamicMessage) → IsSound old.descriptor.pool.now → (w : Text) (t : Target) → NamesField old.descriptor w t ⊎ NamesExtension old.descriptor w t
    → holds_map (target_pool t) (target_type t) ≡ true → IsExclusive old → HoldsKinds old → (d : MessageDescriptor) → d.pool.now ≡ old.descriptor.pool.now → (target_type t).kind ≡ types.message d.index
    → (vs : List Value) → AllByRecursion (IsMessageOf d) vs → new.descriptor ≡ old.descriptor → AddsValues t vs old new
    → add_all (field_at old.descriptor.pool.now old.descriptor.index) (target_type t).number (target_field old.descriptor t).part (target_field old.descriptor t).label (view old) (map content_view vs) ≡ Some (view new)
map_put old new sound w t named is_map exclusive kinds d at kind vs entries same adds =
    let owns = named_target old.descriptor sound.apart w t named in
    (map_all old new sound exclusive kinds same t owns (subst (λ p. holds_map p (target_type t) ≡ true) (pool_is old.descriptor sound.apart t owns) is_map) d at kind vs entries adds).0
