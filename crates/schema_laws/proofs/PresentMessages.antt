-- Presence of messages in schemas that files are added to.
use Rattle.std.proofs.Common.{rules, ◌≡◌, ◌<◌, ℕ, List, [], ◌∷◌, length, Option, None, Some, sym, ap, ◌∙◌, subst, refl, ◌==◌}
use Rattle.std.specs.Option.{option_and_then}
use Rattle.descriptor_records.specs.declared.file.FileDescriptorProto.{FileDescriptorProto}
use Rattle.reflect_message.specs.Known.{if_held, known_field, numbered_field}
use Rattle.reflect_pool.specs.Linked.{empty_pool}
use Rattle.reflect_tables.specs.Types.{PoolType, FieldType, no_field, type_at, type_of_field}
use Rattle.message_view.proofs.Fields.{held_is}
use Rattle.message_view.specs.Sound.{IsSound}
use Rattle.print_view.specs.Forms.{HaveMessagePresence}
use Rattle.reflect_index.proofs.Among.{of_find, place_of, index_is}
use Rattle.linked_names.proofs.Accepted.{accepted_present}
use Rattle.reflect_index.proofs.Behind.{get_in}
use Rattle.linked_names.proofs.Stays.{settled_present}
use Rattle.linked_names.specs.Presence.{HasMessagePresence, HasPresentMessages}
use Rattle.schema_core.specs.Refusals.{FilesLinked, SourcesLinked}
use Rattle.schema_core.specs.declared.schema.Schema.{Schema}
use Rattle.schema_laws.specs.Histories.{IsMadeBy, Sources}

empty_present : HasPresentMessages empty_pool
empty_present = search rules

pub linked_present : (old new : PoolType) (files : List FileDescriptorProto) → IsSound old → FilesLinked old files new → HasPresentMessages old → HasPresentMessages new
linked_present old new files sound (linked, fit, options, settled, bare) has =
    settled_present linked new settled (accepted_present old linked fit.0 sound fit.2.1 has)

-- a field that is known by its number stands among those of its type
module _ (P : FieldType → Type 0) (pool : PoolType)
    (has : (i j : ℕ) → j < length (type_at pool i).fields → P (type_of_field pool i j)) where
  pub known_has : (i n : ℕ) (f : FieldType) → known_field pool i n ≡ Some f → P f
  known_has i n f known = by (numbered_field pool i n) refl where
    by : (o : Option FieldType) → numbered_field pool i n ≡ o → P f
    by None is = absurd (cc (sym (ap (option_and_then (if_held pool)) is) ∙ known))
    by (Some h) is =
        let fields = (type_at pool i).fields in
        let kept = held_is pool h f (sym (ap (option_and_then (if_held pool)) is) ∙ known) in
        let spot = place_of h fields (of_find (λ (g : FieldType). g.number == n) h fields is).0 in
        subst P (index_is fields spot.0 h no_field spot.1 ∙ kept.1) (has i spot.0 (get_in fields spot.0 h spot.1))

pub printed_present : (pool : PoolType) → HasPresentMessages pool → HaveMessagePresence pool
printed_present pool has i n f known = known_has HasMessagePresence pool has i n f known

-- a schema that sources made begins without files
pub made_present : (batches : List Sources) (s : Schema) → IsMadeBy SourcesLinked batches s → HasPresentMessages s.pool
made_present [] s is = subst HasPresentMessages (sym is) empty_present
made_present (sources ∷ earlier) s (old, before, linked, pool) = linked_present old.pool s.pool linked.0 old.sound linked.2 (made_present earlier old before)
