-- The fields of a map's entries: a key and a value, each of one value, and where they stand.
use Rattle.std.proofs.Common.{◌≡◌, ◌⊎◌, inl, inr, ◌<◌, ℕ, ℤ, pos, Bool, true, false, List, length, Option, None, Some, refl, sym, ◌∙◌, subst, slice_index_or}
use Rattle.std.proofs.lemmas.Bool.Decides.{Decides-int_eq}
use Rattle.descriptor_records.specs.declared.field.FieldDescriptorProto.{FieldDescriptorProto}
use Rattle.reflect_fields.specs.Fields.{label_of}
use Rattle.reflect_index.specs.Entry.{IsFieldAt, IsEntryOf}
use Rattle.reflect_pool.specs.Shapes.{is_repeated}
use Rattle.reflect_rules.specs.MapEntries.{is_optional, is_key_type, has_entry_shape}
use Rattle.reflect_tables.specs.Types.{FieldType, no_field}
use Rattle.reflect_tables.specs.declared.stored.StoredEntry.{StoredEntry}
use Rattle.reflect_index.proofs.Among.{Among}
use Rattle.reflect_build.proofs.Shaped.{entry_shaped}

-- ---- records

-- the key's record
pub record IsKey (r : FieldDescriptorProto) : Type 0 where
  pub number : r.number ≡ Some (pos 1)
  pub type : is_key_type r.field_type ≡ true

-- the key's record or the value's, which has the label of one value if any
pub record IsPart (r : FieldDescriptorProto) : Type 0 where
  pub optional : is_optional r.label ≡ true
  pub which : IsKey r ⊎ (r.number ≡ Some (pos 2))

pub entry_part : (rs : List FieldDescriptorProto) (r : FieldDescriptorProto)
    → has_entry_shape rs ≡ true → Among r rs → IsPart r
entry_part rs r e h = let both = entry_shaped rs e in
    elim (both.only r h) [
      | inl same ↦ subst IsPart same (record {
        optional = both.are.first.optional;
        which = inl (record { number = both.are.first.number; type = both.are.type });
      })
      | inr same ↦ subst IsPart same (record {
        optional = both.are.second.optional;
        which = inr both.are.second.number;
      })
    ]

-- such a record is of no list
pub one_value : (label : Option ℤ) → is_optional label ≡ true → is_repeated (label_of label) ≡ false
one_value None e = refl
one_value (Some n) e =
    let one : pos 1 ≡ n = sym ((Decides-int_eq n (pos 1)).0 e) in
    subst (λ z. is_repeated (label_of (Some z)) ≡ false) one refl

-- ---- entries

-- a field stands at the place, and has the number
pub record HasNumberAt (fs : List FieldType) (n place : ℕ) : Type 0 where
  pub there : place < length fs
  pub number : (slice_index_or fs place no_field).number ≡ n

number_at : (fs : List FieldType) (n place : ℕ) → IsFieldAt n fs (Some place)
    → HasNumberAt fs n place
number_at fs n place h = record { there = h.0; number = h.1.0 no_field }

-- a type that has a place of a key and one of a value says that it is of a map's entries
pub record HasPlaces (says : Bool) (fs : List FieldType) (e : StoredEntry) : Type 0 where
  pub says_so : says ≡ true
  pub key : HasNumberAt fs 1 e.key
  pub value : HasNumberAt fs 2 e.value

pub has_places : (says : Bool) (fs : List FieldType) (o : Option StoredEntry) (e : StoredEntry)
    → IsEntryOf says fs o → o ≡ Some e → HasPlaces says fs e
has_places false fs o e h is = absurd (cc (sym h ∙ is))
has_places true fs None e h is = absurd (cc is)
has_places true fs (Some s) e h is =
    let same : s ≡ e = cc is in
    subst (HasPlaces true fs) same (record {
      says_so = refl;
      key = number_at fs 1 s.key h.0;
      value = number_at fs 2 s.value h.1;
    })
