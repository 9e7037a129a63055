-- A batch that is accepted keeps a pool sound.
use Rattle.std.proofs.Common.{◌≡◌, ◌+◌, ◌==◌, ◌++◌, ℕ, false, List, Some, map, length, refl, sym, ap, ◌∙◌, subst, arith, slice_get, slice_index_or}
use Rattle.std.proofs.Math.Seq.{get_or-append-add}
use Rattle.descriptor_records.specs.declared.file.FileDescriptorProto.{FileDescriptorProto}
use Rattle.reflect_faults.specs.Faults.{batch_places}
use Rattle.reflect_names.specs.declared.resolve_visitor.Reference.{Reference}
use Rattle.reflect_declarations.specs.Batches.{batch_declarations}
use Rattle.reflect_references.specs.Meanings.{meaning}
use Rattle.reflect_passes.specs.Linked.{linked_says}
use Rattle.reflect_rules.specs.TypesSay.{TypesSay}
use Rattle.reflect_rules.specs.Walks.{Place}
use Rattle.reflect_index.specs.BatchEntries.{IsBatchOf}
use Rattle.reflect_tables.specs.declared.tables.Tables.{Tables}
use Rattle.reflect_names.specs.ReferencePass.{views_of}
use Rattle.reflect_fields.specs.FieldDefaults.{IsDefault}
use Rattle.reflect_index.specs.Entries.{HasKind}
use Rattle.reflect_tables.specs.Types.{PoolType, FieldType, MessageType, no_field, no_type, type_at}
use Rattle.reflect_tables.specs.Views.{message_of, enum_of, extension_of, pool_of}
use Rattle.reflect_tables.specs.declared.stored.StoredMessage.{StoredMessage}
use Rattle.reflect_index.specs.declared.batch.Batch.{Batch}
use Rattle.reflect_message.specs.KindTypes.{IsScalarType}
use Rattle.reflect_scalar.specs.Defaults.{default_in}
use Rattle.reflect_build.specs.Refusals.{Linking, new_files, with_declared}
use Rattle.reflect_build.specs.Accepted.{FaultlessBatch, FaultlessFiles}
use Rattle.message_view.specs.Sound.{IsSound, HaveNumbers}
use Rattle.linked_view.specs.Kept.{IsKept}
use Rattle.reflect_index.proofs.Among.{Among, of_find, get_map, index_is}
use Rattle.reflect_index.proofs.Declared.{field_among}
use Rattle.linked_view.proofs.DefaultValues.{HasOne, default_has}
use Rattle.linked_view.proofs.Ranges.{ranges_at}
use Rattle.linked_view.proofs.RuledEntries.{IsNumbered, IsKeptIn, field_numbered, fields_apart, entry_field, entry_places, extension_number}
use Rattle.linked_view.proofs.Fields.{list_declared, extension_listed, entry_parts, key_declared}
use Rattle.linked_view.proofs.SoundPools.{BringsWell, grown_sound}

module _ (w : Linking) (files : List FileDescriptorProto) (new : PoolType)
    (faultless : FaultlessBatch w files new) (numbers : HaveNumbers new)
    (count : w.before.messages ≡ length (pool_of w.tables).messages) where
  abbrev rs : List Reference
  rs = faultless.references

  abbrev b : Batch
  b = faultless.types.new.now

  abbrev entries : IsBatchOf rs w.before w.first (batch_declarations w.before w.first files) b
  entries = faultless.declared.entries

  -- where the rules begin
  abbrev start : Place
  start = record { rest = rs; is_proto3 = false; oneofs = 0 }

  abbrev says : TypesSay
  says = linked_says faultless.types

  defaults : (k : ℕ) (m : StoredMessage) (f : FieldType) → slice_get b.messages.items k ≡ Some m
      → Among f (message_of m).fields → IsScalarType f.kind → HasOne f.kind (default_in new f)
  defaults k m f at h scalar =
      let d = (field_among rs w.before w.first files b entries k m f at h).1 in
      let meant = meaning d.own.type_name d.met.hand.rest in
      default_has new f.kind d.own meant f.default numbers scalar
      (subst (HasKind d.own meant) (sym d.says.says.kind) d.kind)
      (subst (λ k. IsDefault k d.own f.default) (sym d.says.says.kind) d.says.says.default)

  -- the ranges that the rules see are those of the pool's types
  ranges : (i : ℕ) → says.extensions i ≡ (type_at new i).extension_ranges
  ranges = ranges_at faultless.types new.messages
      (subst (λ (t : Tables). new.messages ≡ map message_of t.messages.items
      ++ map message_of b.messages.items) (sym faultless.declared.old) faultless.added.messages)

  new_type : (k : ℕ) (m : StoredMessage) → slice_get b.messages.items k ≡ Some m
      → type_at new (w.before.messages + k) ≡ message_of m
  new_type k m at =
      let olds = (pool_of w.tables).messages in
      let news = map message_of b.messages.items in
      ap (λ n. type_at new (n + k)) count
      ∙ ap (λ ts. slice_index_or ts (length olds + k) no_type) faultless.added.messages
      ∙ get_or-append-add olds news k no_type
      ∙ index_is news k (message_of m) no_type (get_map message_of b.messages.items k m at)

  pub brings_well : BringsWell new faultless.types.new.now
  brings_well =
      let right = faultless.means.right in
      let spots = batch_places files w.first in
      let kept = faultless.declared.ranges in
      let rules = faultless.numbers in
      record {
        parts = entry_parts rs w.before w.first files b entries;
        keys = λ k m f at so found.
            let stands = of_find (λ (f : FieldType). f.number == 1) f (message_of m).fields found in
            let test = stands.1 in
            let d = field_among rs w.before w.first files b entries k m f at stands.0 in
            key_declared rs w.before w.first files b entries spots (views_of w.known right.sees)
            (sym right.faults) (w.before.messages + k) d.0 f d.1
            (entry_field rs w.before w.first files b entries kept _ _ spots start refl rules k m at
            d.0 f d.1 so) (grind (arith, test));
        lists = list_declared rs w.before w.first files b entries;
        defaults = defaults;
        places = λ k m e at is.
            entry_places rs w.before w.first files b entries kept _ _ spots start refl rules k m at
            e is;
        fields = λ k m at. record {
          numbered = λ j lt.
              subst (λ r. IsNumbered r (slice_index_or (message_of m).fields j no_field))
              (ranges (w.before.messages + k)
              ∙ ap (λ (t : MessageType). t.extension_ranges) (new_type k m at))
              (field_numbered rs w.before w.first files b entries kept _ _ spots start refl rules k
              m at j lt);
          apart = fields_apart rs w.before w.first files b entries kept _ _ spots start refl rules
              k m at;
        };
        extensions = λ x h. (
          extension_listed rs w.before w.first files b entries x h,
          subst (λ r. IsKeptIn r x) (ranges x.extendee)
              (extension_number rs w.before w.first files b entries kept _ _ spots start refl rules
              x h),
        );
      }

-- the entries of a batch without faults stand behind those of a sound pool, which so stays sound
pub accepted_sound : (old new : PoolType) (files : List FileDescriptorProto) → IsSound old
    → IsKept new → FaultlessFiles old files new → IsSound new
accepted_sound old new files sound kept (w, of, (named, faultless)) =
    let added = faultless.added in
    let before : pool_of w.tables ≡ old = of.tables in
    grown_sound old new faultless.types.new.now
    (added.messages ∙ ap
    (λ (p : PoolType). p.messages ++ map message_of faultless.types.new.now.messages.items)
    before)
    (added.enums ∙ ap (λ (p : PoolType). p.enums ++ map enum_of faultless.types.new.now.enums.items)
    before)
    (added.extensions ∙ ap
    (λ (p : PoolType). p.extensions ++ map extension_of
    faultless.types.new.now.extensions.items) before)
    sound (brings_well (with_declared w (new_files w.indexes files)) (new_files w.indexes files) new
    faultless kept.numbers
    (of.before.messages ∙ ap (λ (p : PoolType). length p.messages) (sym before))) kept.pooled
    kept.names kept.extensions kept.numbers
