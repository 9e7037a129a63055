-- A pool that is sound: a message with a number, a packed list and a map.
use Rattle.std.proofs.Common.{◌≡◌, inl, inr, ◌<◌, ℕ, pos, zero, suc, cond, length, ◌==◌, true, false, [], ◌∷◌, Option, Some, None, refl, sym, ap, ◌∙◌, subst, arith}
use Rattle.std.specs.List.{AllByRecursion}
use Rattle.std.specs.Option.{option_and_then}
use Rattle.std.specs.Prelude.{slice_index_or}
use Rattle.reflect_tables.specs.Types.{PoolType, FieldType, MessageType, ChildrenWithin, MessageWithin, ArePooled, counts_of, no_children, no_field, no_type, type_at, type_of_field}
use Rattle.reflect_tables.specs.Types as types
use Rattle.reflect_tables.specs.declared.stored.StoredEntry.{StoredEntry}
use Rattle.reflect_tables.specs.declared.kind.Cardinality.TheVariants.{Repeated}
use Rattle.reflect_tables.specs.declared.kind.Syntax.TheVariants.{Proto3}
use Rattle.reflect_pool.specs.Shapes.{is_repeated}
use Rattle.reflect_message.specs.Known.{if_held, numbered_field}
use Rattle.reflect_decode.specs.Refused.{HoldsKeys}
use Rattle.message_laws.specs.MapKeys.{HaveMapKeys}
use Rattle.protobuf_model.specs.Types.{one, many, keyed, scalar}
use Rattle.protobuf_model.specs.Types as kinds
use Rattle.protobuf_model.specs.Values as model
use Rattle.protobuf_model.specs.Scalars.{Suits}
use Rattle.protobuf_model.specs.Bytes.{is_packable}
use Rattle.message_view.specs.Singles.{scalar_of}
use Rattle.message_view.specs.Sound.{HaveNames, HaveEntryFields, HaveEntryParts, IsPartAt, HaveEntryDefaults, HasField, IsFieldNumber, IsNotKept, IsSound}
use Rattle.message_view.specs.Types.{kind_in, default_of, types_of}
use Rattle.message_view.proofs.Admitting.{found_holds}
use Rattle.message_view.proofs.Fields.{held_is}

-- message M { int32 id = 1; repeated int32 marks = 4; map<int32, int64> sums = 5; }
abbrev the_id : FieldType
the_id = record no_field { number = 1 }

abbrev the_marks : FieldType
the_marks = record no_field { number = 4; cardinality = Repeated; packed = true }

abbrev the_sums : FieldType
the_sums = record no_field { number = 5; kind = types.message 1; cardinality = Repeated }

abbrev the_key : FieldType
the_key = record no_field { number = 1 }

abbrev the_value : FieldType
the_value = record no_field { number = 2; kind = types.int64 }

abbrev the_message : MessageType
the_message = record no_type { full_name = 77 ∷ []; fields = the_id ∷ the_marks ∷ the_sums ∷ [] }

abbrev the_entry : MessageType
the_entry = record no_type { full_name = 77 ∷ 46 ∷ 69 ∷ []; fields = the_key ∷ the_value ∷ []; entry = Some (record { key = 0; value = 1 }) }

abbrev the_pool : PoolType
the_pool = record {
  files = record { name = []; package_name = []; syntax = Proto3; imports = []; public_imports = [] } ∷ [];
  records = [];
  declared = [];
  messages = the_message ∷ the_entry ∷ [];
  enums = [];
  extensions = [];
  services = [];
}

-- its types are those that one expects
id_field : types_of the_pool (77 ∷ []) 1 ≡ Some (record { part = record { kind = scalar kinds.int32; presence = false; default = model.int32 (pos 0) }; label = one; oneof = None; extension = false })
id_field = refl

marks_field : types_of the_pool (77 ∷ []) 4 ≡ Some (record { part = record { kind = scalar kinds.int32; presence = false; default = model.int32 (pos 0) }; label = many true; oneof = None; extension = false })
marks_field = refl

sums_field : types_of the_pool (77 ∷ []) 5
    ≡ Some (record { part = record { kind = scalar kinds.int64; presence = false; default = model.int64 (pos 0) }; label = keyed (record { kind = kinds.int32; presence = false; default = model.int32 (pos 0) }); oneof = None; extension = false })
sums_field = refl

no_field_two : types_of the_pool (77 ∷ []) 2 ≡ None
no_field_two = refl

nothing_there : {X : Type 0} (P : X → Type 0) (i : ℕ) (d : X) → i < 0 → P (slice_index_or [] i d)
nothing_there P i d lt = absurd (omega (arith, lt))

pooled : ArePooled the_pool
pooled = record {
  declared = tt;
  messages = (within_first, (within_second, tt));
  children = (no_children_within, (no_children_within, tt));
  listed = ((λ k lt. absurd (omega (arith, lt))), ((λ k lt. absurd (omega (arith, lt))), tt));
  enums = tt;
  extensions = tt;
  services = tt;
  few = record { files = omega arith; messages = omega arith; enums = omega arith; extensions = omega arith; services = omega arith };
} where
  no_children_within : ChildrenWithin (counts_of the_pool) no_children
  no_children_within = record { messages = nothing_there (λ place. place < 2); enums = nothing_there (λ place. place < 0); extensions = nothing_there (λ place. place < 0) }

  within_first : MessageWithin (counts_of the_pool) the_message
  within_first = record { file = omega arith; parent = tt; fields = (tt, (tt, (omega arith, tt))); oneofs = (tt, (tt, (tt, tt))); members = tt; parts = tt; few = omega arith; few_oneofs = omega arith }

  within_second : MessageWithin (counts_of the_pool) the_entry
  within_second = record { file = omega arith; parent = tt; fields = (tt, (tt, tt)); oneofs = (tt, (tt, tt)); members = tt; parts = (omega arith, omega arith); few = omega arith; few_oneofs = omega arith }

names : HaveNames the_pool
names zero zero i_in k_in e = refl
names (suc zero) (suc zero) i_in k_in e = refl
names zero (suc zero) i_in k_in e = absurd (cc e)
names (suc zero) zero i_in k_in e = absurd (cc e)
names (suc (suc i)) k i_in k_in e = absurd (omega (arith, i_in))
names i (suc (suc k)) i_in k_in e = absurd (omega (arith, k_in))

map_keys : HaveMapKeys the_pool
map_keys (types.message (suc zero)) keys is found = (let same : the_key ≡ keys = cc found in subst (HoldsKeys the_pool) same (tt, tt))
map_keys (types.message zero) keys is found = absurd (cc is)
map_keys (types.message (suc (suc i))) keys is found = absurd (cc is)
map_keys t keys is found = absurd (cc is)

entry_parts : HaveEntryFields the_pool
entry_parts (types.message (suc zero)) is = (the_key, the_value, refl, refl)
entry_parts (types.message zero) is = absurd (cc is)
entry_parts (types.message (suc (suc i))) is = absurd (cc is)
entry_parts t is = absurd (cc is)

zero_suits : Suits kinds.int32 (model.int32 (pos 0))
zero_suits = record { sfits = omega arith }

long_zero_suits : Suits kinds.int64 (model.int64 (pos 0))
long_zero_suits = record { sfits = omega arith }

abbrev HasZero : FieldType → Type 0
HasZero f = Suits (scalar_of f.kind) (default_of the_pool f)

entry_defaults : HaveEntryDefaults the_pool
entry_defaults (types.message (suc zero)) n f is found type = found_holds HasZero (λ (f : FieldType). f.number == n) (the_key ∷ the_value ∷ []) f (zero_suits, (long_zero_suits, tt)) found
entry_defaults (types.message zero) n f is found type = absurd (cc is)
entry_defaults (types.message (suc (suc i))) n f is found type = absurd (cc is)
entry_defaults t n f is found type = absurd (cc is)

abbrev IsPlainList : FieldType → Type 0
IsPlainList f = (is_repeated f.cardinality ≡ true → f.presence ≡ false) × (is_repeated f.cardinality ≡ true → f.packed ≡ true → is_packable (kind_in the_pool f.group f.kind) ≡ true)

plain_lists : (i : ℕ) → AllByRecursion IsPlainList (type_at the_pool i).fields
plain_lists zero = (((λ r. refl), λ r p. refl), (((λ r. refl), λ r p. refl), (((λ r. refl), λ r p. absurd (cc p)), tt)))
plain_lists (suc zero) = (((λ r. refl), λ r p. refl), (((λ r. refl), λ r p. refl), tt))
plain_lists (suc (suc i)) = tt

of_field : (i n : ℕ) (f : FieldType) → HasField the_pool i n f → IsPlainList f
of_field i n f (inr e) = absurd (cc e)
of_field i n f (inl e) = by (numbered_field the_pool i n) refl where
  by : (o : Option FieldType) → numbered_field the_pool i n ≡ o → IsPlainList f
  by None is = absurd (cc (sym (ap (option_and_then (if_held the_pool)) is) ∙ e))
  by (Some h) is = subst IsPlainList (held_is the_pool h f (sym (ap (option_and_then (if_held the_pool)) is) ∙ e)).1 (found_holds IsPlainList (λ (f : FieldType). f.number == n) (type_at the_pool i).fields h (plain_lists i) is)

-- the entries of the map tell where their key and their value stand
places : HaveEntryParts the_pool
places zero e is = absurd (cc is)
places (suc zero) e is =
    let same : record { key = 0; value = 1 } ≡ e = cc is in
    subst (λ (e : StoredEntry). IsPartAt the_pool 1 1 e.key × IsPartAt the_pool 1 2 e.value) same (
      record { there = omega arith; number = refl; one = refl },
      record { there = omega arith; number = refl; one = refl },
    )
places (suc (suc i)) e is = absurd (cc is)

numbers : (i j : ℕ) → j < length (type_at the_pool i).fields
    → IsFieldNumber (type_of_field the_pool i j).number
numbers zero zero lt = (omega arith, omega arith)
numbers zero (suc zero) lt = (omega arith, omega arith)
numbers zero (suc (suc zero)) lt = (omega arith, omega arith)
numbers zero (suc (suc (suc j))) lt = absurd (omega (arith, lt))
numbers (suc zero) zero lt = (omega arith, omega arith)
numbers (suc zero) (suc zero) lt = (omega arith, omega arith)
numbers (suc zero) (suc (suc j)) lt = absurd (omega (arith, lt))
numbers (suc (suc i)) j lt = absurd (omega (arith, lt))

-- a number tells where its field stands
abbrev place_of : ℕ → ℕ → ℕ
place_of zero n = cond (n == 1) 0 (cond (n == 4) 1 2)
place_of (suc i) n = cond (n == 1) 0 1

found_back : (i j : ℕ) → j < length (type_at the_pool i).fields
    → place_of i (type_of_field the_pool i j).number ≡ j
found_back zero zero lt = refl
found_back zero (suc zero) lt = refl
found_back zero (suc (suc zero)) lt = refl
found_back zero (suc (suc (suc j))) lt = absurd (omega (arith, lt))
found_back (suc zero) zero lt = refl
found_back (suc zero) (suc zero) lt = refl
found_back (suc zero) (suc (suc j)) lt = absurd (omega (arith, lt))
found_back (suc (suc i)) j lt = absurd (omega (arith, lt))

-- no number is kept for extensions
none_kept : (i n : ℕ) → IsNotKept the_pool i n
none_kept zero n k d lt = absurd (omega (arith, lt))
none_kept (suc zero) n k d lt = absurd (omega (arith, lt))
none_kept (suc (suc i)) n k d lt = absurd (omega (arith, lt))

sound : IsSound the_pool
sound = record {
  pooled = pooled;
  names = names;
  keys = map_keys;
  entries = entry_parts;
  parts = places;
  defaults = entry_defaults;
  lists = record { unset = λ i n f has. (of_field i n f has).0; packed = λ i n f has. (of_field i n f has).1 };
  values = tt;
  numbers = record { fields = numbers; extensions = λ k lt. absurd (omega (arith, lt)) };
  apart = record {
    fields = λ i j k lt less e. sym (found_back i j lt) ∙ ap (place_of i) e ∙ found_back i k less;
    extensions = λ j k lt less to e. absurd (omega (arith, lt));
    kept = λ k lt none. absurd (omega (arith, lt));
    free = λ i j lt. none_kept i (type_of_field the_pool i j).number;
  };
}
