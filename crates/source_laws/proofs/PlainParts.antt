-- Records of fields, enums and services that a source declares are plain.
use Rattle.std.proofs.Common.{◌≡◌, ℕ, ℤ, pos, negsuc, ◌-◌, ◌^◌, ◌<◌, Bool, true, false, cond, Some, None, nat_lt, nat_le, refl, arith, flat_map}
use Rattle.std.specs.List.{AllByRecursion}
use Rattle.descriptor_records.specs.FieldNumbers.{label_number, type_number}
use Rattle.descriptor_records.specs.declared.field.FieldType.{FieldType}
use Rattle.descriptor_records.specs.declared.field.FieldType.TheVariants as types
use Rattle.descriptor_records.specs.declared.field.Label.{Label}
use Rattle.descriptor_records.specs.declared.field.Label.TheVariants as labels
use Rattle.plain_records.specs.PlainRecords.{FitsInt32, IfThere, IsInside, IsPlainEnum, IsPlainEnumRange, IsPlainEnumValue, IsPlainField, IsPlainMethod, IsPlainService}
use Rattle.protox_declaration_records.specs.EnumRecords.{enum_of, enum_range_of, ranges_in, ranges_at, value_at}
use Rattle.protox_declaration_records.specs.Numbers.{held_by, i32_of, last_from, last_of}
use Rattle.protox_declaration_records.specs.ServiceRecords.{method_at, service_of}
use Rattle.protox_field_records.specs.FieldRecords.{extension_at, extension_in, field_of, label_of, scalar_number, type_of}
use Rattle.protox_field_records.specs.Layers.{AddedLayer}
use Rattle.protox_field_records.specs.Places.{place_of}
use Rattle.protox_lex.specs.Signed.{signed}
use Rattle.protox_lex.specs.declared.literal.Int.{Int}
use Rattle.protox_tree.specs.Nest.{Kind, group, map_kind, normal}
use Rattle.protox_tree.specs.NestView.{kind_view}
use Rattle.protox_tree.specs.Tree.{Ty, named, scalar}
use Rattle.protox_tree.specs.declared.enumeration.Enum.{Enum}
use Rattle.protox_tree.specs.declared.enumeration.EnumItem.{EnumItem}
use Rattle.protox_tree.specs.declared.enumeration.EnumItem.TheVariants as enum_items
use Rattle.protox_tree.specs.declared.ident.TypeName.{TypeName}
use Rattle.protox_tree.specs.declared.message.ExtendItem.TheOpen.{ExtendItem-F}
use Rattle.protox_tree.specs.declared.message.ExtendItem.TheViews.{out-ExtendItem}
use Rattle.protox_tree.specs.declared.message.Extend.{Extend}
use Rattle.protox_tree.specs.declared.message.Field.{Field}
use Rattle.protox_tree.specs.declared.range.RangeEnd.{RangeEnd}
use Rattle.protox_tree.specs.declared.range.RangeEnd.TheVariants as ends
use Rattle.protox_tree.specs.declared.range.ReservedRange.{ReservedRange}
use Rattle.protox_tree.specs.declared.service.Service.{Service}
use Rattle.protox_tree.specs.declared.service.ServiceItem.{ServiceItem}
use Rattle.protox_tree.specs.declared.service.ServiceItem.TheVariants as service_items
use Rattle.option_parts.specs.declared.option_scope.OptionScope.TheVariants as scopes
use Rattle.source_laws.proofs.Lists.{all_each, all_mapped}
use Rattle.source_laws.proofs.PlainOptions.{SourceSays, listed_plain, written_plain}
use Rattle.protox_field_records.specs.FieldRecords.{other_at}
use Rattle.protox_declaration_records.specs.OptionRecords.{listed}
use Rattle.source_laws.proofs.SmallNumbers.{IsSmall, body_small, enum_small, other_small, service_small}
use Rattle.protox_declaration_records.specs.EnumRecords as enums
use Rattle.protox_declaration_records.specs.ServiceRecords as services

-- ---- numbers

pub small_fits : (n : ℕ) → n < 2 ^ 31 → FitsInt32 (pos n)
small_fits n lt = record { sfits = omega (arith, lt) }

pub held_fits : (z : ℤ) → IfThere FitsInt32 (held_by (2 ^ 31) z)
held_fits (pos n) = by (nat_lt n (2 ^ 31)) refl where
  by : (b : Bool) → nat_lt n (2 ^ 31) ≡ b → IfThere FitsInt32 (cond b (Some (pos n)) None)
  by true is = let lt : n < 2 ^ 31 = grind (arith, is) in small_fits n lt
  by false is = tt
held_fits (negsuc n) = by (nat_lt n (2 ^ 31)) refl where
  by : (b : Bool) → nat_lt n (2 ^ 31) ≡ b → IfThere FitsInt32 (cond b (Some (negsuc n)) None)
  by true is = let lt : n < 2 ^ 31 = grind (arith, is) in record { sfits = omega (arith, lt) }
  by false is = tt

pub number_fits : (n : Int) → IfThere FitsInt32 (i32_of n)
number_fits n = held_fits (signed n)

end_fits : (start : Int) (greatest : ℤ) → FitsInt32 greatest → (end : RangeEnd)
    → IfThere FitsInt32 (last_from start greatest end)
end_fits start greatest fits ends.None = number_fits start
end_fits start greatest fits (ends.Int n) = number_fits n
end_fits start greatest fits (ends.Max span) = fits

pub last_fits : (range : ReservedRange) (greatest : ℤ) → FitsInt32 greatest
    → IfThere FitsInt32 (last_of range greatest)
last_fits range greatest fits = end_fits range.start greatest fits range.end

pub place_fits : (n : ℕ) → FitsInt32 (place_of n)
place_fits n = by (nat_le n 2147483647) refl where
  by : (b : Bool) → nat_le n 2147483647 ≡ b → FitsInt32 (cond b (pos n) (pos 2147483647))
  by true is = let le : n < 2 ^ 31 = grind (arith, is) in small_fits n le
  by false is = small_fits 2147483647 (omega arith)

label_fits : (l : Label) → FitsInt32 (label_number l)
label_fits labels.Optional = small_fits 1 (omega arith)
label_fits labels.Required = small_fits 2 (omega arith)
label_fits labels.Repeated = small_fits 3 (omega arith)

type_fits : (t : FieldType) → FitsInt32 (type_number t)
type_fits types.Double = small_fits 1 (omega arith)
type_fits types.Float = small_fits 2 (omega arith)
type_fits types.Int64 = small_fits 3 (omega arith)
type_fits types.Uint64 = small_fits 4 (omega arith)
type_fits types.Int32 = small_fits 5 (omega arith)
type_fits types.Fixed64 = small_fits 6 (omega arith)
type_fits types.Fixed32 = small_fits 7 (omega arith)
type_fits types.Bool = small_fits 8 (omega arith)
type_fits types.String = small_fits 9 (omega arith)
type_fits types.Group = small_fits 10 (omega arith)
type_fits types.Message = small_fits 11 (omega arith)
type_fits types.Bytes = small_fits 12 (omega arith)
type_fits types.Uint32 = small_fits 13 (omega arith)
type_fits types.Enum = small_fits 14 (omega arith)
type_fits types.Sfixed32 = small_fits 15 (omega arith)
type_fits types.Sfixed64 = small_fits 16 (omega arith)
type_fits types.Sint32 = small_fits 17 (omega arith)
type_fits types.Sint64 = small_fits 18 (omega arith)

pub scalar_fits : (ty : Ty) → IfThere FitsInt32 (scalar_number ty)
scalar_fits (scalar t span) = type_fits t
scalar_fits (named name) = tt

kind_fits : (k : Kind) → IfThere FitsInt32 (type_of k)
kind_fits (normal ty) = scalar_fits ty
kind_fits (group g) = type_fits types.Group
kind_fits (map_kind m) = type_fits types.Message

-- ---- fields

pub field_plain : (levels : ℕ) → 0 < levels → (f : Field)
    → IsPlainField SourceSays levels (field_of f)
field_plain levels lt f = record {
  number = number_fits f.number;
  label = label_fits (label_of f.label (kind_view f.kind));
  field_type = kind_fits (kind_view f.kind);
  options = written_plain scopes.Field levels lt _
      (all_each IsSmall other_at other_small (listed f.options));
  oneof_index = tt;
}

added_plain : (levels : ℕ) → 1 < levels → (t : TypeName) (o : AddedLayer)
    → AllByRecursion (IsInside (IsPlainField SourceSays) levels) (extension_in t o)
added_plain levels lt t (ExtendItem-F.«ExtendItem::Field» f) =
    let h = field_plain (levels - 1) (omega arith) f in (
      (
        omega arith,
        record {
          number = h.number;
          label = h.label;
          field_type = h.field_type;
          options = h.options;
          oneof_index = tt;
        },
      ),
      tt,
    )
added_plain levels lt t o = tt

pub extend_plain : (levels : ℕ) → 1 < levels → (e : Extend)
    → AllByRecursion (IsInside (IsPlainField SourceSays) levels)
    (flat_map (extension_at e.extendee) e.items.items)
extend_plain levels lt e =
    all_each (IsInside (IsPlainField SourceSays) levels) (extension_at e.extendee)
    (λ i. added_plain levels lt e.extendee (out-ExtendItem i)) e.items.items

-- ---- enums

value_plain : (levels : ℕ) → 1 < levels → (i : EnumItem)
    → AllByRecursion (IsInside (IsPlainEnumValue SourceSays) levels) (value_at i)
value_plain levels lt (enum_items.Value v) = (
  (
    omega arith,
    record {
      number = number_fits v.number;
      options = listed_plain scopes.EnumValue (levels - 1) (omega arith) _;
    },
  ),
  tt,
)
value_plain levels lt i = tt

ranges_plain : (levels : ℕ) → 0 < levels → (i : EnumItem)
    → AllByRecursion (IsInside IsPlainEnumRange levels) (ranges_at i)
ranges_plain levels lt (enum_items.Reserved r) =
    all_mapped (IsInside IsPlainEnumRange levels) enum_range_of
    (λ range. (
      lt,
      (
        number_fits range.start,
        last_fits range (pos 2147483647) (small_fits 2147483647 (omega arith)),
      ),
    ))
    (ranges_in r.items)
ranges_plain levels lt i = tt

pub enum_plain : (levels : ℕ) → 1 < levels → (e : Enum)
    → IsPlainEnum SourceSays levels (enum_of e)
enum_plain levels lt e = record {
  value = all_each (IsInside (IsPlainEnumValue SourceSays) levels) value_at
      (value_plain levels lt) e.items.items;
  options = written_plain scopes.Enum levels (omega arith) _
      (all_each IsSmall enums.option_at enum_small e.items.items);
  reserved_range = all_each (IsInside IsPlainEnumRange levels) ranges_at
      (ranges_plain levels (omega arith)) e.items.items;
}

-- ---- services

method_plain : (levels : ℕ) → 1 < levels → (i : ServiceItem)
    → AllByRecursion (IsInside (IsPlainMethod SourceSays) levels) (method_at i)
method_plain levels lt (service_items.Method m) = (
  (
    omega arith,
    written_plain scopes.Method (levels - 1) (omega arith) _ (body_small m.body),
  ),
  tt,
)
method_plain levels lt i = tt

pub service_plain : (levels : ℕ) → 1 < levels → (s : Service)
    → IsPlainService SourceSays levels (service_of s)
service_plain levels lt s = record {
  method = all_each (IsInside (IsPlainMethod SourceSays) levels) method_at
      (method_plain levels lt) s.items.items;
  options = written_plain scopes.Service levels (omega arith) _
      (all_each IsSmall services.option_at service_small s.items.items);
}
