-- What is printed of a message, one entry after another.
use Rattle.std.specs.Prelude.{◌≡◌, ℕ, Bool, true, false, not, ◌&&◌, ◌||◌, List, [], ◌∷◌, ◌++◌, map, cond, Option, None, Some, option_map}
use Rattle.std.specs.List.{filter, filter_map}
use Rattle.std.specs.List.Sorted.{IsSortedByKey, IsStableByKey}
use Rattle.std.specs.Ordering.{nat_cmp}
use Rattle.reflect_wire.specs.Records.{Payload}
use Rattle.reflect_entries.specs.Entries.{value_at}
use Rattle.reflect_tables.specs.Types.{PoolType, FieldType, type_at}
use Rattle.reflect_message.specs.Held.{fields_of, unknown_of}
use Rattle.reflect_message.specs.Known.{if_held, known_field, known_extension}
use Rattle.reflect_message.specs.Present.{is_held}
use Rattle.reflect_message.specs.Shown.{IsHeldOrDefault}
use Rattle.reflect_message.specs.Names.{DynamicMessage, Value}
use Rattle.reflect_contents.specs.Walked.{ExtensionGiven, Holding, set_fields_of, set_extensions_of}
use Rattle.text_lines.specs.declared.options.FormatOptions.{FormatOptions}
use Rattle.print_parts.specs.Pairwise.{Pairwise}

-- a declared field or an extension with its value, and the pool that it stands in; or a record of
-- an undeclared number
pub data Entry : Type 0 where
  field : PoolType → FieldType → Value → Entry
  extension : PoolType → FieldType → Value → Entry
  undeclared : ℕ × Payload → Entry

abbrev pub number_of : Entry → ℕ
number_of (field pool f v) = f.number
number_of (extension pool f v) = f.number
number_of (undeclared r) = r.0

-- by ascending number, those of a number as they were
pub record IsByNumber (found sorted : List Entry) : Type 0 where
  pub ascend : IsSortedByKey number_of nat_cmp sorted
  pub same : IsStableByKey number_of nat_cmp found sorted

-- as they were, or by ascending number
abbrev pub IsArranged : Bool → List Entry → List Entry → Type 0
IsArranged true found es = es ≡ found
IsArranged false found es = IsByNumber found es

abbrev pub pool_of : DynamicMessage → PoolType
pool_of m = m.descriptor.pool.now

abbrev pub held_under : DynamicMessage → FieldType → Option Value
held_under m f = value_at (fields_of m) f.number

-- the fields that messages of the type hold, as they are declared
abbrev pub known_fields : DynamicMessage → List FieldType
known_fields m =
    filter_map (λ f. known_field (pool_of m) m.descriptor.index f.number)
    (type_at (pool_of m) m.descriptor.index).fields

-- a field that is set; where defaults are not left out, also one that cannot differ from its
-- default
abbrev pub is_printed : FormatOptions → DynamicMessage → FieldType → Bool
is_printed form m f =
    (not form.skip_default_fields && not f.presence) || is_held (pool_of m) f (held_under m f)

abbrev pub printed_fields : FormatOptions → DynamicMessage → List FieldType
printed_fields form m = filter (is_printed form m) (known_fields m)

-- the field with what it holds, or its default
abbrev pub IsFieldOf : DynamicMessage → FieldType → Entry → Type 0
IsFieldOf m f e =
    (v : Value) × IsHeldOrDefault (pool_of m) f (held_under m f) v × (e ≡ field (pool_of m) f v)

abbrev pub set_entry : DynamicMessage → Holding → Entry
set_entry m h = field (pool_of m) h.0 h.1

-- behind others stands the field's entry, if it is printed
abbrev pub PutsField : FormatOptions → DynamicMessage → FieldType → List Entry → List Entry → Type 0
PutsField form m f old new =
    cond (is_printed form m f) ((e : Entry) × IsFieldOf m f e × (new ≡ old ++ e ∷ [])) (new ≡ old)

abbrev pub option_list : {X : Type 0} → Option X → List X
option_list None = []
option_list (Some x) = x ∷ []

-- the fields that are set, by ascending number
abbrev pub set_entries : DynamicMessage → List Entry
set_entries m = map (set_entry m) (set_fields_of m)

-- the fields that are printed, as they are declared
abbrev pub ArePrinted : FormatOptions → DynamicMessage → List Entry → Type 0
ArePrinted form m es = Pairwise (IsFieldOf m) (printed_fields form m) es

-- these fields as they are declared, or by ascending number
abbrev pub AreChosen : FormatOptions → DynamicMessage → List Entry → Type 0
AreChosen form m es =
    (found : List Entry) × ArePrinted form m found
    × IsArranged form.in_index_order found es

-- the declared fields that are printed: where only those that are set are, by ascending number,
-- they come as the walk over the message gives them
abbrev pub AreDeclared : FormatOptions → DynamicMessage → List Entry → Type 0
AreDeclared form m es =
    cond (form.skip_default_fields && not form.in_index_order)
    (es ≡ set_entries m) (AreChosen form m es)

-- an extension with what it holds, if messages of the type hold it
abbrev pub known_entry : DynamicMessage → ℕ → Value → Option Entry
known_entry m n v =
    option_map (λ f. extension (pool_of m) f v) (known_extension (pool_of m) m.descriptor.index n)

-- the same of an extension that is given with its pool and what it holds
abbrev pub given_entry : ExtensionGiven → Option Entry
given_entry g = option_map (λ f. extension g.0 f g.1.1) (if_held g.0 g.1.0)

-- the extensions that are set, by ascending number
abbrev pub extension_entries : DynamicMessage → List Entry
extension_entries m = filter_map (λ h. known_entry m h.0.number h.1) (set_extensions_of m)

-- extensions, and with these the undeclared records, if the form has them, all by ascending number
abbrev pub AreOthers : FormatOptions → DynamicMessage → List Entry → Type 0
AreOthers form m es =
    cond form.skip_unknown_fields (es ≡ extension_entries m)
    (IsByNumber (extension_entries m ++ map undeclared (unknown_of m)) es)
