-- The empty pool is sound, and so is a sound one whose options are settled.
use Rattle.std.proofs.Common.{inl, inr, ℕ, List, sym, subst, arith}
use Rattle.descriptor_records.specs.declared.file.FileDescriptorProto.{FileDescriptorProto}
use Rattle.reflect_tables.specs.Types.{PoolType, IsSettled}
use Rattle.reflect_tables.specs.Types as types
use Rattle.reflect_pool.specs.Linked.{empty_pool}
use Rattle.message_laws.specs.MapKeys.{HaveMapKeys}
use Rattle.message_view.specs.Sound.{HaveEntryFields, IsPartAt, HaveEntryDefaults, HasField, IsSound}

empty_keys : HaveMapKeys empty_pool
empty_keys (types.message i) f is found = absurd (cc is)
empty_keys t f is found = absurd (cc is)

empty_entries : HaveEntryFields empty_pool
empty_entries (types.message i) is = absurd (cc is)
empty_entries t is = absurd (cc is)

empty_defaults : HaveEntryDefaults empty_pool
empty_defaults (types.message i) n f is found scalar = absurd (cc is)
empty_defaults t n f is found scalar = absurd (cc is)

no_fields : (i n : _) (f : _) → HasField empty_pool i n f → ⊥
no_fields i n f (inl known) = absurd (cc known)
no_fields i n f (inr known) = absurd (cc known)

pub empty_sound : IsSound empty_pool
empty_sound = record {
  pooled = record {
    declared = tt;
    messages = tt;
    children = tt;
    listed = tt;
    enums = tt;
    extensions = tt;
    services = tt;
    few = record {
      files = omega arith;
      messages = omega arith;
      enums = omega arith;
      extensions =
          omega arith;
      services = omega arith;
    };
  };
  names = λ i k lt less e. absurd (omega (arith, lt));
  keys = empty_keys;
  entries = empty_entries;
  parts = λ i e is. absurd (cc is);
  defaults = empty_defaults;
  lists = record {
    unset = λ i n f has. absurd (no_fields i n f has);
    packed =
        λ i n f has. absurd (no_fields i n f has);
  };
  values = tt;
  numbers = record {
    fields = λ i j lt. absurd (omega (arith, lt));
    extensions = λ k lt. absurd (omega (arith, lt));
  };
  apart = record {
    fields = λ i j k lt less e. absurd (omega (arith, lt));
    extensions = λ j k lt less to e. absurd (omega (arith, lt));
    kept = λ k lt none. absurd (omega (arith, lt));
    free = λ i j lt. absurd (omega (arith, lt));
  };
}

same_part : (old : PoolType) (records : List FileDescriptorProto) (i n place : ℕ)
    → IsPartAt old i n place → IsPartAt (record old { records = records }) i n place
same_part old records i n place h = record { there = h.there; number = h.number; one = h.one }

-- records of files say nothing of messages
with_records : (old : PoolType) (records : List FileDescriptorProto) → IsSound old
    → IsSound (record old { records = records })
with_records old records h = record {
  pooled = record {
    declared = h.pooled.declared;
    messages = h.pooled.messages;
    children = h.pooled.children;
    listed = h.pooled.listed;
    enums = h.pooled.enums;
    extensions = h.pooled.extensions;
    services = h.pooled.services;
    few = h.pooled.few;
  };
  names = h.names;
  keys = h.keys;
  entries = h.entries;
  parts = λ i e is. (let both = h.parts i e is in
      (same_part old records i 1 e.key both.0, same_part old records i 2 e.value both.1));
  defaults = h.defaults;
  lists = record { unset = h.lists.unset; packed = h.lists.packed };
  values = h.values;
  numbers = record { fields = h.numbers.fields; extensions = h.numbers.extensions };
  apart = record {
    fields = h.apart.fields;
    extensions = h.apart.extensions;
    kept = h.apart.kept;
    free = h.apart.free;
  };
}

pub settled_sound : (old new : PoolType) → IsSettled old new → IsSound old → IsSound new
settled_sound old new settled sound =
    subst IsSound (sym settled) (with_records old new.records sound)
