-- Records of message types that a source declares are plain, where no deeper than levels are left.
use Rattle.std.proofs.Common.{◌+◌, ◌+ℤ◌, ◌-◌, ◌^◌, ◌<◌, ◌≤◌, ℕ, ℤ, zero, suc, pred, pos, Bool, true, false, cond, List, [], ◌∷◌, length, map, Option, Some, None, flat_map, string_bytes, subst, sym, arith}
use Rattle.std.specs.List.{AllByRecursion}
use Rattle.std.specs.Option.{option_and_then}
use Rattle.std.specs.declared.alloc.Global.{Global}
use Rattle.descriptor_records.specs.Content.{EnumContent, ExtensionRangeContent, FieldContent, MessageContent, message, MessageContents, no_messages, more_messages, OneofContent, OptionsContent}
use Rattle.descriptor_records.specs.declared.message.ReservedRange.{ReservedRange}
use Rattle.plain_records.specs.PlainRecords.{ArePlainMessages, ArePlainOptions, FitsInt32, HasPlainParts, IfThere, IsInside, IsPlainEnum, IsPlainExtensionRange, IsPlainField, IsPlainMessage, IsPlainOneof, IsPlainReservedRange}
use Rattle.protox_declaration_records.specs.EnumRecords.{ranges_in}
use Rattle.protox_declaration_records.specs.Numbers.{held_by, last_of}
use Rattle.protox_field_records.specs.Layers.{AddedLayer, ItemLayer, KindLayer, MemberLayer}
use Rattle.protox_field_records.specs.MapEntries.{entry_of}
use Rattle.protox_field_records.specs.Places.{place_of}
use Rattle.protox_laws.proofs.Layers.{added_is, added_seen, item_is, item_seen, kind_is, kind_seen, member_is, member_seen}
use Rattle.protox_lex.specs.Class.{Text}
use Rattle.protox_locate.proofs.Nests.{extend_is, field_is, group_is, message_is, oneof_is}
use Rattle.protox_message_records.specs.MessageRecords.{member_option_at, AreTypes, Declared, IsOfItems, IsType, alone_at, end_of, enum_at, enum_in, extension_range_of, extension_ranges_at, extension_ranges_in, extensions_at, extensions_in, field_in, fields_at, fields_from, fields_in, member_at, member_in, of_items, of_map, oneof_at, oneof_in, option_at, reserved_range_of, reserved_ranges_at, reserved_ranges_in, tells_presence, type_of_message, types_at, types_in, types_of_added, types_of_added_item, types_of_extend, types_of_field, types_of_kind, types_of_member, types_of_member_item}
use Rattle.protox_message_records.specs.SyntheticOneofs.{AreNamedAfter}
use Rattle.protox_tokens.specs.Marks.{Each}
use Rattle.protox_tree.specs.Nest.{added_of, items_of, members_of}
use Rattle.protox_tree.specs.NestView.{added_view, extend_view, field_view, item_view, member_view, message_view}
use Rattle.protox_tree.specs.View.{ty_view}
use Rattle.protox_tree.specs.declared.message.Extend.{Extend}
use Rattle.protox_tree.specs.declared.message.ExtendItem.{ExtendItem}
use Rattle.protox_tree.specs.declared.message.ExtendItem.TheOpen.{ExtendItem-F, FieldKind-F, MessageItem-F, OneofItem-F}
use Rattle.protox_tree.specs.declared.message.ExtendItem.TheViews.{out-ExtendItem, out-FieldKind, out-MessageItem, out-OneofItem}
use Rattle.protox_tree.specs.declared.message.Field.{Field}
use Rattle.protox_tree.specs.declared.message.Map.{Map}
use Rattle.protox_tree.specs.declared.message.Message.{Message}
use Rattle.protox_tree.specs.declared.message.MessageItem.{MessageItem}
use Rattle.protox_tree.specs.declared.message.OneofItem.{OneofItem}
use Rattle.protox_tree.specs.declared.range.ReservedRange as ranges
use Rattle.protox_tree.specs.declared.types.Syntax.{Syntax}
use Rattle.option_parts.specs.declared.option_scope.OptionScope.TheVariants as scopes
use Rattle.source_laws.proofs.Depth.{AreAddedWithin, AreItemsWithin, AreMembersWithin, IsAddedWithin, IsExtendWithin, IsFieldWithin, IsGroupWithin, IsItemWithin, IsKindWithin, IsMemberWithin, IsMessageWithin, IsOneofWithin}
use Rattle.source_laws.proofs.Lists.{all_append, all_each, all_made, all_mapped}
use Rattle.source_laws.proofs.PlainOptions.{SourceSays, entry_plain, listed_plain, written_plain}
use Rattle.source_laws.proofs.SmallNumbers.{IsSmall, item_small, member_small}
use Rattle.source_laws.proofs.PlainParts.{enum_plain, extend_plain, field_plain, held_fits, number_fits, place_fits, scalar_fits, small_fits}

-- ---- what stands in a message, but for types

if_there_fits : (b : Bool) (z : ℤ) → FitsInt32 z → IfThere FitsInt32 (cond b (Some z) None)
if_there_fits true z fits = fits
if_there_fits false z fits = tt

next_fits : (o : Option ℤ)
    → IfThere FitsInt32 (option_and_then (λ z. held_by (2 ^ 31) (z +ℤ pos 1)) o)
next_fits None = tt
next_fits (Some z) = held_fits (z +ℤ pos 1)

behind_fits : (range : ranges.ReservedRange) → IfThere FitsInt32 (end_of range)
behind_fits range = next_fits (last_of range (pos 536870911))

module _ (levels : ℕ) (enough : 2 < levels) where
  in_plain : (s : Syntax) (o : Option ℤ) → IfThere FitsInt32 o → (f : Field)
      → IsInside (IsPlainField SourceSays) levels (field_in s o f)
  in_plain s o fits f =
      let h = field_plain (levels - 1) (omega arith) f in (
        omega arith,
        record {
          number = h.number;
          label = h.label;
          field_type = h.field_type;
          options = h.options;
          oneof_index = fits;
        },
      )

  member_plain : (s : Syntax) (place : ℤ) → FitsInt32 place → (o : MemberLayer)
      → AllByRecursion (IsInside (IsPlainField SourceSays) levels) (member_in s place o)
  member_plain s place fits (OneofItem-F.«OneofItem::Field» f) =
      (in_plain s (Some place) fits f, tt)
  member_plain s place fits o = tt

  item_fields : (s : Syntax) (next behind : ℕ) (o : ItemLayer)
      → AllByRecursion (IsInside (IsPlainField SourceSays) levels) (fields_in s next behind o)
  item_fields s next behind (MessageItem-F.«MessageItem::Field» f) = (
    in_plain s (cond (tells_presence s f.label) (Some (place_of behind)) None)
        (if_there_fits (tells_presence s f.label) (place_of behind) (place_fits behind)) f,
    tt,
  )
  item_fields s next behind (MessageItem-F.Oneof o) =
      all_each (IsInside (IsPlainField SourceSays) levels) (member_at s (place_of next))
      (λ i. member_plain s (place_of next) (place_fits next) (out-OneofItem i)) o.items.items
  item_fields s next behind o = tt

  fields_plain : (s : Syntax) (next behind : ℕ) (is : List MessageItem)
      → AllByRecursion (IsInside (IsPlainField SourceSays) levels) (fields_from s next behind is)
  fields_plain s next behind [] = tt
  fields_plain s next behind (i ∷ is) =
      all_append (IsInside (IsPlainField SourceSays) levels) (fields_at s next behind i)
      (fields_from s (next + length (oneof_at i)) (behind + length (alone_at s i)) is)
      (item_fields s next behind (out-MessageItem i))
      (fields_plain s (next + length (oneof_at i)) (behind + length (alone_at s i)) is)

  item_extensions : (o : ItemLayer)
      → AllByRecursion (IsInside (IsPlainField SourceSays) levels) (extensions_in o)
  item_extensions (MessageItem-F.Extend e) = extend_plain levels (omega arith) e
  item_extensions o = tt

  item_enums : (o : ItemLayer)
      → AllByRecursion (IsInside (IsPlainEnum SourceSays) levels) (enum_in o)
  item_enums (MessageItem-F.Enum e) =
      ((omega arith, enum_plain (levels - 1) (omega arith) e), tt)
  item_enums o = tt

  item_oneofs : (o : ItemLayer)
      → AllByRecursion (IsInside (IsPlainOneof SourceSays) levels) (oneof_in o)
  item_oneofs (MessageItem-F.Oneof o) = (
    (
      omega arith,
      written_plain scopes.Oneof (levels - 1) (omega arith) _
          (all_each IsSmall member_option_at (λ i. member_small (out-OneofItem i)) o.items.items),
    ),
    tt,
  )
  item_oneofs o = tt

  own_oneofs : (taken names : List Text) (os : List OneofContent) → AreNamedAfter taken names os
      → AllByRecursion (IsInside (IsPlainOneof SourceSays) levels) os
  own_oneofs taken [] [] h = tt
  own_oneofs taken [] (o ∷ os) h = absurd h
  own_oneofs taken (name ∷ names) [] h = absurd h
  own_oneofs taken (name ∷ names) (o ∷ os) h = (
    (omega arith, subst (IsPlainOneof SourceSays (levels - 1)) (sym h.0.2) tt),
    own_oneofs taken names os h.1,
  )

  item_ranges : (o : ItemLayer)
      → AllByRecursion (IsInside (IsPlainExtensionRange SourceSays) levels)
      (extension_ranges_in o)
  item_ranges (MessageItem-F.Extensions e) =
      all_mapped (IsInside (IsPlainExtensionRange SourceSays) levels)
      (extension_range_of e.options) range e.ranges.items where
        range : (r : ranges.ReservedRange)
            → IsInside (IsPlainExtensionRange SourceSays) levels (extension_range_of e.options r)
        range r = (
          omega arith,
          record {
            start = number_fits r.start;
            end = behind_fits r;
            options = listed_plain scopes.ExtensionRange (levels - 1) (omega arith) _;
          },
        )
  item_ranges o = tt

  item_reserved : (o : ItemLayer)
      → AllByRecursion (IsInside IsPlainReservedRange levels) (reserved_ranges_in o)
  item_reserved (MessageItem-F.Reserved r) =
      all_mapped (IsInside IsPlainReservedRange levels) reserved_range_of
      (λ range. (omega arith, (number_fits range.start, behind_fits range))) (ranges_in r.items)
  item_reserved o = tt

  own_plain : (s : Syntax) (name : Text) (items : List MessageItem) (given : Option Text)
      (fields extensions : List FieldContent) (nested : MessageContents) (enums : List EnumContent)
      (ranges : List ExtensionRangeContent) (oneofs : List OneofContent)
      (options : Option OptionsContent) (reserved : List ReservedRange) (names : List Text)
      → IsOfItems s name items given fields extensions nested enums ranges oneofs options reserved names
      → HasPlainParts SourceSays levels fields extensions enums ranges oneofs options reserved
  own_plain s name items given fields extensions nested enums ranges oneofs options reserved names own =
      record {
        fields_are = subst (AllByRecursion (IsInside (IsPlainField SourceSays) levels))
            (sym own.fields_are)
            (fields_plain s 0 (length (flat_map oneof_at items)) items);
        extensions_are = subst (AllByRecursion (IsInside (IsPlainField SourceSays) levels))
            (sym own.extensions_are)
            (all_each (IsInside (IsPlainField SourceSays) levels) extensions_at
            (λ i. item_extensions (out-MessageItem i)) items);
        enums_are = subst (AllByRecursion (IsInside (IsPlainEnum SourceSays) levels))
            (sym own.enums_are)
            (all_each (IsInside (IsPlainEnum SourceSays) levels) enum_at
            (λ i. item_enums (out-MessageItem i)) items);
        ranges_are = subst (AllByRecursion (IsInside (IsPlainExtensionRange SourceSays) levels))
            (sym own.ranges_are)
            (all_each (IsInside (IsPlainExtensionRange SourceSays) levels) extension_ranges_at
            (λ i. item_ranges (out-MessageItem i)) items);
        oneofs_are = subst (AllByRecursion (IsInside (IsPlainOneof SourceSays) levels))
            (sym own.oneofs_are.1)
            (all_append (IsInside (IsPlainOneof SourceSays) levels) (flat_map oneof_at items)
            own.oneofs_are.0
            (all_each (IsInside (IsPlainOneof SourceSays) levels) oneof_at
            (λ i. item_oneofs (out-MessageItem i)) items)
            (own_oneofs _ _ own.oneofs_are.0 own.oneofs_are.2));
        options_are = subst (ArePlainOptions SourceSays scopes.Message levels)
            (sym own.options_are)
            (written_plain scopes.Message levels (omega arith) (flat_map option_at items)
            (all_each IsSmall option_at (λ i. item_small (out-MessageItem i)) items));
        reserved_are = subst (AllByRecursion (IsInside IsPlainReservedRange levels))
            (sym own.reserved_are)
            (all_each (IsInside IsPlainReservedRange levels) reserved_ranges_at
            (λ i. item_reserved (out-MessageItem i)) items);
      }

-- ---- the entries of maps

entry_message : (memory : Global) (levels : ℕ) → 2 < levels → (name : Text) (m : Map)
    → IsPlainMessage SourceSays levels (entry_of name m)
entry_message memory levels enough name m = (
  omega arith,
  record {
    fields_are = (
      (
        omega arith,
        record {
          number = small_fits 1 (omega arith);
          label = small_fits 1 (omega arith);
          field_type = scalar_fits (ty_view m.key);
          options = tt;
          oneof_index = tt;
        },
      ),
      (
        (
          omega arith,
          record {
            number = small_fits 2 (omega arith);
            label = small_fits 1 (omega arith);
            field_type = scalar_fits (ty_view m.value);
            options = tt;
            oneof_index = tt;
          },
        ),
        tt,
      ),
    );
    extensions_are = tt;
    enums_are = tt;
    ranges_are = tt;
    oneofs_are = tt;
    options_are = entry_plain memory (levels - 1) (omega arith);
    reserved_are = tt;
  },
  tt,
)

-- ---- the depth of the types that are declared

abbrev HasItemWithin : ℕ → MessageItem → Type 0
HasItemWithin n i = IsItemWithin n (item_seen (out-MessageItem i))

abbrev HasMemberWithin : ℕ → OneofItem → Type 0
HasMemberWithin n i = IsMemberWithin n (member_seen (out-OneofItem i))

abbrev HasAddedWithin : ℕ → ExtendItem → Type 0
HasAddedWithin n i = IsAddedWithin n (added_seen (out-ExtendItem i))

module _ (n : ℕ) where
  each_item : (is : List MessageItem) → AreItemsWithin n (items_of (map item_view is))
      → Each (HasItemWithin n) is
  each_item [] h = tt
  each_item (i ∷ is) h = (subst (IsItemWithin n) (item_is i) h.0, each_item is h.1)

  each_member : (is : List OneofItem) → AreMembersWithin n (members_of (map member_view is))
      → Each (HasMemberWithin n) is
  each_member [] h = tt
  each_member (i ∷ is) h = (subst (IsMemberWithin n) (member_is i) h.0, each_member is h.1)

  each_added : (is : List ExtendItem) → AreAddedWithin n (added_of (map added_view is))
      → Each (HasAddedWithin n) is
  each_added [] h = tt
  each_added (i ∷ is) h = (subst (IsAddedWithin n) (added_is i) h.0, each_added is h.1)

-- a type that is declared by items is one level of so many
abbrev pub IsTypeWithin : ℕ → Declared → Type 0
IsTypeWithin n (of_items name items) = (0 < n) × Each (HasItemWithin (pred n)) items
IsTypeWithin n (of_map name m) = Unit {0}

abbrev pub AreTypesWithin : ℕ → List Declared → Type 0
AreTypesWithin n ts = AllByRecursion (IsTypeWithin n) ts

module _ (n : ℕ) where
  kind_types : (name : Text) (k : KindLayer) → IsKindWithin n (kind_seen k)
      → AreTypesWithin n (types_of_kind name k)
  kind_types name (FieldKind-F.Normal t) h = tt
  kind_types name (FieldKind-F.Group g) h =
      let parts = subst (IsGroupWithin n) (group_is g) h in
      ((parts.0, each_item (pred n) g.items.items parts.1), tt)
  kind_types name (FieldKind-F.Map m) h = (tt, tt)

  field_types : (f : Field) → IsFieldWithin n (field_view f) → AreTypesWithin n (types_of_field f)
  field_types f h =
      let kind = subst (IsFieldWithin n) (field_is f) h in
      kind_types (string_bytes f.name.value) (out-FieldKind f.kind)
      (subst (IsKindWithin n) (kind_is f.kind) kind)

  member_types : (o : MemberLayer) → IsMemberWithin n (member_seen o)
      → AreTypesWithin n (types_of_member o)
  member_types (OneofItem-F.«OneofItem::Field» f) h = field_types f h
  member_types o h = tt

  added_types : (o : AddedLayer) → IsAddedWithin n (added_seen o)
      → AreTypesWithin n (types_of_added o)
  added_types (ExtendItem-F.«ExtendItem::Field» f) h = field_types f h
  added_types o h = tt

  pub extend_types : (e : Extend) → IsExtendWithin n (extend_view e)
      → AreTypesWithin n (types_of_extend e)
  extend_types e h =
      all_made (HasAddedWithin n) (IsTypeWithin n) types_of_added_item
      (λ i. added_types (out-ExtendItem i)) e.items.items
      (each_added n e.items.items (subst (IsExtendWithin n) (extend_is e) h))

  pub message_type : (m : Message) → IsMessageWithin n (message_view m)
      → IsTypeWithin n (type_of_message m)
  message_type m h =
      let parts = subst (IsMessageWithin n) (message_is m) h in
      (parts.0, each_item (pred n) m.items.items parts.1)

  item_types : (o : ItemLayer) → IsItemWithin n (item_seen o) → AreTypesWithin n (types_in o)
  item_types (MessageItem-F.«MessageItem::Field» f) h = field_types f h
  item_types (MessageItem-F.Oneof o) h =
      all_made (HasMemberWithin n) (IsTypeWithin n) types_of_member_item
      (λ i. member_types (out-OneofItem i)) o.items.items
      (each_member n o.items.items (subst (IsOneofWithin n) (oneof_is o) h))
  item_types (MessageItem-F.Message m) h = (message_type m h, tt)
  item_types (MessageItem-F.Extend e) h = extend_types e h
  item_types o h = tt

  items_types : (is : List MessageItem) → Each (HasItemWithin n) is
      → AreTypesWithin n (flat_map types_at is)
  items_types is h =
      all_made (HasItemWithin n) (IsTypeWithin n) types_at
      (λ i. item_types (out-MessageItem i)) is h

-- ---- messages

mutual
  type_plain : (memory : Global) (s : Syntax) (n levels : ℕ) → n + 3 ≤ levels → (t : Declared)
      (m : MessageContent) → IsTypeWithin n t → IsType s t m
      → IsPlainMessage SourceSays levels m
  type_plain memory s zero levels enough (of_items name items)
      (message given fields extensions nested enums ranges oneofs options reserved names) h is =
      absurd (omega (arith, h.0))
  type_plain memory s (suc n) levels enough (of_items name items)
      (message given fields extensions nested enums ranges oneofs options reserved names) h is = (
        omega arith,
        own_plain (levels - 1) (omega arith) s name items given fields extensions nested enums ranges
            oneofs options reserved names is.0,
        types_plain memory s n (levels - 1) (omega arith) (flat_map types_at items) nested
            (items_types n items h.1) is.1,
      )
  type_plain memory s n levels enough (of_map name m)
      (message given fields extensions nested enums ranges oneofs options reserved names) h is =
      subst (IsPlainMessage SourceSays levels) (sym is)
      (entry_message memory levels (omega arith) name m)

  pub types_plain : (memory : Global) (s : Syntax) (n levels : ℕ) → n + 3 ≤ levels
      → (ts : List Declared) (ms : MessageContents) → AreTypesWithin n ts → AreTypes s ts ms
      → ArePlainMessages SourceSays levels ms
  types_plain memory s n levels enough [] no_messages h are = tt
  types_plain memory s n levels enough [] (more_messages m ms) h are = absurd are
  types_plain memory s n levels enough (t ∷ ts) no_messages h are = absurd are
  types_plain memory s n levels enough (t ∷ ts) (more_messages m ms) h are = (
    type_plain memory s n levels enough t m h.0 are.0,
    types_plain memory s n levels enough ts ms h.1 are.1,
  )
