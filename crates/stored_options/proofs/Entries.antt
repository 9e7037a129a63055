-- Each extension that a pool's records declare has an entry of its full name.
use Rattle.std.proofs.Common.{◌≡◌, ◌∙◌, ℕ, ℤ, pos, negsuc, List, [], ◌∷◌, map, Some, slice_get, unwrap_or, ap, sym, refl}
use Rattle.std.specs.List.{Contains, flat_map}
use Rattle.descriptor_records.specs.Content.{FieldContent, FileContent, Text, file_view}
use Rattle.message_view.specs.Sound.{HaveNames}
use Rattle.reflect_fields.specs.Fields.{natural}
use Rattle.reflect_index.proofs.Among.{got_map}
use Rattle.reflect_tables.specs.Names.{FullName, message_name, messages, names_of}
use Rattle.reflect_tables.specs.Types.{ExtensionType, PoolType}
use Rattle.schema_view.specs.Declarations.{declarations, of_extension}
use Rattle.schema_view.specs.Rules.{HasFieldNumber, IsFieldNumber}
use Rattle.schema_view.specs.Views.{view_of}
use Rattle.schema_view.proofs.Lists.{contains_flat, contains_here}
use Rattle.schema_view.proofs.Road.{AreLinked}
use Rattle.schema_view.proofs.Standing.{StandsIn, field_sound}
use Rattle.linked_view.specs.Entries.{HasDeclaredEntries, TellsEntries}
use Rattle.linked_view.specs.Extended.{HasWritten, TellsExtensions, WrittenKey, keys_of, written_keys}
use Rattle.linked_view.specs.Valued.{TellsValues}
use Rattle.linked_view.proofs.Extended.{zip_at}
use Rattle.linked_view.proofs.Places.{contains_get, get_contains}
use Rattle.types_view.specs.Fields.{TellsFields}
use Rattle.types_view.proofs.Extended.{called, is_key, key_found}

abbrev key_in : FieldContent → WrittenKey
key_in c = (c.extendee, c.number)

module _ (p : PoolType) (l : AreLinked (map file_view p.records)) (tells : TellsFields p)
    (values : TellsValues p) (entries : TellsEntries p) (declared : HasDeclaredEntries p)
    (names : HaveNames p) (extensions : TellsExtensions p) where
  abbrev fs : List FileContent
  fs = map file_view p.records

  -- an entry of a pool's extensions has the full name
  pub record HasEntry (n : Text) : Type 0 where
    pub place : ℕ
    pub entry : ExtensionType
    pub at : slice_get p.extensions place ≡ Some entry
    pub name : entry.field.full_name ≡ n

  pub entry_of : (f : FileContent) (n : Text) (c : FieldContent) → Contains fs f
      → Contains (declarations f) (record { name = n; body = of_extension c }) → HasEntry n
  entry_of f n c i j = by number.0 (number.1, number.2) where
    own : StandsIn fs c
    own = record {
      file = f;
      declaration = record { name = n; body = of_extension c };
      there = i;
      inside = j;
      is = refl;
    }

    number : HasFieldNumber c.number
    number = (field_sound fs l c own).number

    written : Contains (written_keys fs) (key_in c)
    written = contains_flat (λ f. flat_map keys_of (declarations f)) fs f (key_in c) i
        (contains_flat keys_of (declarations f) (record { name = n; body = of_extension c })
        (key_in c) j (contains_here (key_in c) []))

    entry : (y : ExtensionType) × (k : ℕ) × (slice_get p.extensions k ≡ Some y)
        × HasWritten (names_of p messages) (key_in c) y
    entry =
        let k = contains_get (written_keys fs) (key_in c) written in
        let z = zip_at (HasWritten (names_of p messages)) (written_keys fs) p.extensions k.0
        (key_in c) extensions k.1 in
        (z.0, k.0, z.1, z.2)

    by : (z : ℤ) → (c.number ≡ Some z) × IsFieldNumber z → HasEntry n
    by (negsuc k) h = absurd (search h.1.least)
    by (pos k) h =
        let y : ExtensionType = entry.0 in
        let has : HasWritten (names_of p messages) (key_in c) y = entry.3 in
        let m = got_map message_name p.messages y.extendee (has.full, has.file) has.message in
        let full : m.0.full_name ≡ has.full = ap (λ (x : FullName). x.0) m.2 in
        let extendee : c.extendee ≡ Some (46 ∷ m.0.full_name) =
        has.extendee ∙ ap (λ t. Some (46 ∷ t)) (sym full) in
        let told : y.field.number ≡ k = has.number ∙ ap (λ o. unwrap_or (natural o) 0) h.0 in
        let by_entry : (view_of fs).extensions (m.0.full_name, pos k) ≡ Some y.field.full_name =
        called p l tells values entries declared names extensions y
        (get_contains p.extensions entry.1 y entry.2) y.extendee m.0 k m.1 refl told in
        let by_record : (view_of fs).extensions (m.0.full_name, pos k) ≡ Some n =
        key_found fs l (m.0.full_name, pos k) f (record { name = n; body = of_extension c }) i j
        (is_key (m.0.full_name, pos k) c extendee h.0) in
        record {
          place = entry.1;
          entry = y;
          at = entry.2;
          name = cc (sym by_entry ∙ by_record);
        }
