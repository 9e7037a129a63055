-- A pool without files has names as sources give them, and so it stays where options are settled.
use Rattle.std.proofs.Common.{ℕ, List, sym, subst}
use Rattle.descriptor_records.specs.declared.file.FileDescriptorProto.{FileDescriptorProto}
use Rattle.reflect_tables.specs.Types.{PoolType, FieldType, IsSettled}
use Rattle.reflect_tables.specs.declared.stored.StoredEntry.{StoredEntry}
use Rattle.reflect_pool.specs.Linked.{empty_pool}
use Rattle.text_model.specs.Unset.{HaveReadDefaults}
use Rattle.message_view.specs.Types.{types_of}
use Rattle.text_view.specs.SourceNames.{IsGroupField, HasPartNames}
use Rattle.linked_names.specs.Presence.{HasPresentMessages}
use Rattle.linked_names.specs.SourcePools.{IsSourcePool}

same_group : (old : PoolType) (records : List FileDescriptorProto) (i : ℕ) (f : FieldType)
    → IsGroupField old i f → IsGroupField (record old { records = records }) i f
same_group old records i f h = record {
  place = h.place;
  kind = h.kind;
  spelled = h.spelled;
  lower = h.lower;
  own = h.own;
}

same_parts : (old : PoolType) (records : List FileDescriptorProto) (i : ℕ) (e : StoredEntry)
    → HasPartNames old i e → HasPartNames (record old { records = records }) i e
same_parts old records i e h = record {
  key = h.key;
  value = h.value;
  plain_key = h.plain_key;
  plain_value = h.plain_value;
  usual_key = h.usual_key;
  usual_value = h.usual_value;
  apart = h.apart;
}

-- records of files say nothing of names
with_records : (old : PoolType) (records : List FileDescriptorProto) → IsSourcePool old
    → IsSourcePool (record old { records = records })
with_records old records h = record {
  scoped = λ i lt. (let s = h.scoped i lt in record { full = s.full; own = s.own });
  names = record {
    distinct = record {
      fields = h.names.distinct.fields;
      values = h.names.distinct.values;
      extensions = h.names.distinct.extensions;
    };
    fields = h.names.fields;
    values = h.names.values;
    extensions = h.names.extensions;
    groups = λ i j lt group. same_group old records i _ (h.names.groups i j lt group);
    entries = λ i e is. same_parts old records i e (h.names.entries i e is);
  };
}

pub settled_sources : (old new : PoolType) → IsSettled old new → IsSourcePool old
    → IsSourcePool new
settled_sources old new settled pool =
    subst IsSourcePool (sym settled) (with_records old new.records pool)

pub settled_present : (old new : PoolType) → IsSettled old new → HasPresentMessages old
    → HasPresentMessages new
settled_present old new settled has = subst HasPresentMessages (sym settled) has

pub settled_unset : (old new : PoolType) → IsSettled old new → HaveReadDefaults (types_of old)
    → HaveReadDefaults (types_of new)
settled_unset old new settled has = subst (λ p. HaveReadDefaults (types_of p)) (sym settled) has

pub empty_unset : HaveReadDefaults (types_of empty_pool)
empty_unset t n f e declared lacks = absurd (cc e)
