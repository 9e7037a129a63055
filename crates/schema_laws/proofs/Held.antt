-- The options of files of sources are held where the files are linked and their options are settled.
use Rattle.std.proofs.Common.{◌≡◌, ◌⊎◌, ◌≤◌, ℕ, List, map, length, Some, slice_get, inl, inr, ap, sym, subst}
use Rattle.reflect_wire.specs.Written.{AreBytes}
use Rattle.option_parts.specs.OptionTypes.{CanRead}
use Rattle.descriptor_records.specs.Content.{OptionsContent, file_view}
use Rattle.descriptor_records.specs.declared.file.FileDescriptorProto.{FileDescriptorProto}
use Rattle.settled_records.proofs.Accepted.{fresh_plain}
use Rattle.message_view.specs.Sound.{IsSound}
use Rattle.message_view.specs.Types.{types_of}
use Rattle.option_parts.specs.declared.option_scope.OptionScope.{OptionScope}
use Rattle.plain_records.specs.PlainRecords.{ArePlainFiles, IsPlainFile}
use Rattle.plain_records.specs.SaidOptions.{SaysAndIsSettled}
use Rattle.plain_records.specs.SourceOptions.{AreGiven}
use Rattle.plain_records.proofs.Both.{files_both, files_weaker}
use Rattle.protobuf_model.specs.Values.{Message}
use Rattle.reflect_build.specs.Accepted.{FaultlessFiles}
use Rattle.reflect_options.specs.Entities.{Entity, file_entities}
use Rattle.reflect_options.specs.Settling.{SettlesPool}
use Rattle.reflect_pool.proofs.Grown.{all_behind, all_through}
use Rattle.reflect_tables.specs.Types.{IsSettled, PoolType}
use Rattle.settled_records.proofs.OfEntities.{Meets}
use Rattle.settled_records.proofs.PlainOptions.{said}
use Rattle.settled_records.proofs.Settled.{SettlesToSaid, pool_says}
use Rattle.stored_options.specs.StoredOptions.{AreStored}
use Rattle.stored_options.proofs.Sources.{sources_stored}
use Rattle.schema_laws.proofs.Said.{batch_says, entities_say, type_of_scope}
use Rattle.schema_laws.specs.HeldOptions.{AreHeld, HasType, HoldsOptions}

-- a pool whose options were settled has the types that it had
settled_type : (linked new : PoolType) (scope : OptionScope) → IsSettled linked new → HasType linked scope → HasType new scope
settled_type linked new scope settled has = subst (λ p. HasType p scope) (sym settled) has

module _ (old linked new : PoolType) (typed : List FileDescriptorProto) (faultless : FaultlessFiles old typed linked) (settles : SettlesPool linked (length old.files) new) (settled : IsSettled linked new)
    (sound : IsSound linked) (given : ArePlainFiles AreGiven (map file_view typed)) where
  -- options as they were given, or as the new pool holds them
  abbrev Either : OptionScope → OptionsContent → Type 0
  Either scope o = AreHeld new scope o ⊎ AreGiven scope o

  -- those of the files that were linked are as they were given
  pub new_given : (k : ℕ) (f : FileDescriptorProto) → slice_get linked.records k ≡ Some f → length old.files ≤ k → IsPlainFile AreGiven 99 (file_view f)
  new_given = batch_says AreGiven old linked typed faultless given

  one_held : (c : Entity) → Meets (λ file. said AreGiven) c → SettlesToSaid Either linked c
  one_held c meets s o out paths there is settle = inl (λ bytes. inl (settled_type linked new c.scope settled has, stored bytes))
    where
      has : HasType linked c.scope
      has = type_of_scope linked c.scope s is settle.1.0 settle.1.1

      stored : AreBytes out.encoded.items → (m : Message) × AreStored (types_of new) c.scope m out.encoded.items
      stored bytes =
          let given = meets o there in
          let r = sources_stored c.scope s o out paths (subst IsSound (sym is) sound) (subst (λ p. CanRead p c.scope) (sym is) (settles.readable c.scope)) given.0 given.1 settle bytes in (
            r.0,
            subst (λ types. AreStored types c.scope r.0 out.encoded.items) (sym (ap types_of settled))
                (subst (λ p. AreStored (types_of p) c.scope r.0 out.encoded.items) is r.1),
          )

  -- so all are held
  pub held_after : ArePlainFiles (AreHeld new) (map file_view old.records) → ArePlainFiles SaysAndIsSettled (map file_view new.records) → HoldsOptions new
  held_after before done =
      let r = fresh_plain Either old linked typed (files_weaker AreGiven Either (λ scope o is. inr is) (map file_view typed) given) faultless in
      let all = subst (ArePlainFiles Either) (sym r.1)
      (all_behind (IsPlainFile Either 99) (map file_view old.records) r.0 (files_weaker (AreHeld new) Either (λ scope o is. inl is) (map file_view old.records) before) r.2) in
      let each = λ (k : ℕ) (f : FileDescriptorProto) (there : slice_get linked.records k ≡ Some f) (far : length old.files ≤ k).
      all_through (Meets (λ file. said AreGiven)) (SettlesToSaid Either linked) (file_entities k f) one_held (entities_say AreGiven k f (new_given k f there far)) in
      let either = pool_says Either linked new (length old.files) each all settles in
      files_both Either SaysAndIsSettled (AreHeld new) (λ scope o is says. elim is [ inl held ↦ held | inr as_given ↦ λ bytes. inr (as_given, says.1) ]) (map file_view new.records) either done
