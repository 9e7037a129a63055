-- What is met in options, ranges, enums and services.
--
-- Source: the comments of `Location` in protobuf's `descriptor.proto`.
use Rattle.std.specs.Prelude.{ℕ, ◌-◌, ◌+ℤ◌, ℤ, pos, if◌then◌else◌, List, [], ◌∷◌, ◌++◌, length, Option, None, Some, codes, slice_get}
use Rattle.std.specs.Int.{saturate_signed, w32}
use Rattle.std.specs.List.{fold}
use Rattle.descriptor_records.specs.declared.tag.TheConstants.{UNINTERPRETED_OPTION}
use Rattle.descriptor_records.specs.declared.tag.enum_value.TheConstants as enum_values
use Rattle.descriptor_records.specs.declared.tag.enumeration.TheConstants as enums
use Rattle.descriptor_records.specs.declared.tag.field.TheConstants as fields
use Rattle.descriptor_records.specs.declared.tag.method.TheConstants as methods
use Rattle.descriptor_records.specs.declared.tag.reserved_range.TheConstants as ranges
use Rattle.descriptor_records.specs.declared.tag.service.TheConstants as services
use Rattle.protox_lex.specs.Span.{across}
use Rattle.protox_lex.specs.declared.span.Span.{Span}
use Rattle.protox_locate.specs.Located.{Event, Path, closing, empty, inside, part, statement}
use Rattle.protox_locate.specs.declared.enums.EnumCounts.{EnumCounts}
use Rattle.protox_locate.specs.declared.slot.Count.{Count}
use Rattle.protox_locate.specs.declared.services.ServiceCounts.{ServiceCounts}
use Rattle.protox_locate.specs.declared.ranges.ReservedLists.{ReservedLists}
use Rattle.protox_tree.specs.Places.{body_span, end_span, range_span, type_name_span, value_span}
use Rattle.protox_tree.specs.Tree.{Body, Enum, EnumItem, EnumValue, Method, MethodBody, MethodItem, MethodType, OptionList, OptionStatement, Reserved, ReservedItems, Service, ServiceItem, Word, enum_value, enum_option, enum_reserved, enum_empty, has_name, method_option, method_empty, reserved_ranges, reserved_names, service_method, service_option, service_empty, words_span}
use Rattle.protox_tree.specs.declared.range.ReservedRange.{ReservedRange}

-- ---- lists

abbrev pub none : Count
none = record { entries = pos 0 }

-- one more entry, as far as an `int32` counts
abbrev pub more : Count → Count
more c = record { entries = saturate_signed w32 (c.entries +ℤ pos 1) }

-- the path of the next entry of a list in the record at a path
abbrev pub entry : Path → ℤ → Count → Path
entry path tag count = path ++ tag ∷ count.entries ∷ []

-- What is met in the items of a list, each at its place among those that are counted as it is.
abbrev pub each : {C I : Type 0} → (C → I → List Event) → (C → I → C) → C → List I → List Event
each met after c [] = []
each met after c (i ∷ is) = met c i ++ each met after (after c i) is

-- a part that may be left out
abbrev pub part_if : Path → Path → Option Span → List Event
part_if path tail None = []
part_if path tail (Some span) = part path tail span ∷ []

-- ---- options

-- An option stands in the list of those that are not interpreted yet, and where all options stand.
abbrev pub option_events : Path → ℤ → Count → OptionStatement → List Event
option_events path options count o =
    statement path (options ∷ UNINTERPRETED_OPTION ∷ count.entries ∷ []) o.span o.span.end
    ∷ (part path (options ∷ []) o.span ∷ [])

abbrev pub across_bodies : Option Body → Option Body → Span → Span
across_bodies (Some first) (Some last) span = across (body_span first) (body_span last)
across_bodies first last span = span

-- from the first name in brackets to the last value
abbrev pub inner_span : OptionList → Span
inner_span list = across_bodies (slice_get list.options 0)
    (slice_get list.options (length list.options - 1)) list.span

abbrev pub body_events : Path → ℤ → Count → Body → List Event
body_events path options count body =
    part path (options ∷ UNINTERPRETED_OPTION ∷ count.entries ∷ []) (body_span body) ∷ []

abbrev pub after_body : Count → Body → Count
after_body count body = more count

abbrev pub list_events : Path → ℤ → Option OptionList → List Event
list_events path options None = []
list_events path options (Some list) =
    part path (options ∷ []) (inner_span list)
    ∷ each (body_events path options) after_body none list.options

-- Of a field's options two are fields of its record.
abbrev pub field_option_events : Path → Count → Body → List Event
field_option_events path count body =
    if has_name (codes "default") body.name
    then part path (fields.DEFAULT_VALUE ∷ []) (value_span body.value) ∷ []
    else if has_name (codes "json_name") body.name
    then part path (fields.JSON_NAME ∷ []) (value_span body.value) ∷ []
    else body_events path fields.OPTIONS count body

abbrev pub after_field_option : Count → Body → Count
after_field_option count body =
    if has_name (codes "default") body.name then count
    else if has_name (codes "json_name") body.name then count
    else more count

abbrev pub field_list_events : Path → Option OptionList → List Event
field_list_events path None = []
field_list_events path (Some list) =
    part path (fields.OPTIONS ∷ []) (inner_span list)
    ∷ each (field_option_events path) after_field_option none list.options

-- ---- ranges and names

abbrev pub range_events : Path → ReservedRange → List Event
range_events path r =
    part path [] (range_span r) ∷ (part path (ranges.START ∷ []) r.start.span
    ∷ (part path (ranges.END ∷ []) (end_span r.start r.end) ∷ []))

abbrev pub entry_events : Path → ℤ → Count → ReservedRange → List Event
entry_events path tag count r = range_events (entry path tag count) r

abbrev pub after_entry : Count → ReservedRange → Count
after_entry count r = more count

abbrev pub name_events : Path → ℤ → Count → List Word → List Event
name_events path tag count name = part path (tag ∷ count.entries ∷ []) (words_span name) ∷ []

abbrev pub after_name : Count → List Word → Count
after_name count name = more count

-- A statement that lists ranges or names stands at the path of the list.
abbrev pub reserved_items_events : Path → ReservedLists → Span → ReservedItems → List Event
reserved_items_events path lists span (reserved_ranges rs) =
    statement path (lists.ranges_tag ∷ []) span span.end
    ∷ each (entry_events path lists.ranges_tag) after_entry lists.ranges rs
reserved_items_events path lists span (reserved_names ns) =
    statement path (lists.names_tag ∷ []) span span.end
    ∷ each (name_events path lists.names_tag) after_name lists.names ns

abbrev pub reserved_events : Path → ReservedLists → Reserved → List Event
reserved_events path lists r = reserved_items_events path lists r.span r.items

abbrev pub after_reserved_items : ReservedLists → ReservedItems → ReservedLists
after_reserved_items lists (reserved_ranges rs) =
    record lists { ranges = fold after_entry lists.ranges rs }
after_reserved_items lists (reserved_names ns) =
    record lists { names = fold after_name lists.names ns }

abbrev pub after_reserved : ReservedLists → Reserved → ReservedLists
after_reserved lists r = after_reserved_items lists r.items

-- without entries so far
abbrev pub no_lists : ℤ → ℤ → ReservedLists
no_lists ranges_tag names_tag =
    record { ranges_tag = ranges_tag; names_tag = names_tag; ranges = none; names = none }

-- ---- enums

abbrev pub no_values : EnumCounts
no_values = record {
  values = none;
  options = none;
  lists =
      no_lists enums.RESERVED_RANGE enums.RESERVED_NAME;
}

abbrev pub value_events : Path → EnumValue → List Event
value_events path v =
    statement path [] v.span v.span.end
    ∷ (part path (enum_values.NAME ∷ []) v.name.span
    ∷ (part path (enum_values.NUMBER ∷ []) v.number.span
    ∷ list_events path enum_values.OPTIONS v.options))

abbrev pub enum_item_events : Path → EnumCounts → EnumItem → List Event
enum_item_events path counts (enum_value v) = value_events (entry path enums.VALUE counts.values) v
enum_item_events path counts (enum_option o) = option_events path enums.OPTIONS counts.options o
enum_item_events path counts (enum_reserved r) = reserved_events path counts.lists r
enum_item_events path counts (enum_empty span) = empty span ∷ []

abbrev pub after_enum_item : EnumCounts → EnumItem → EnumCounts
after_enum_item counts (enum_value v) = record counts { values = more counts.values }
after_enum_item counts (enum_option o) = record counts { options = more counts.options }
after_enum_item counts (enum_reserved r) = record counts { lists = after_reserved counts.lists r }
after_enum_item counts (enum_empty span) = counts

-- an enum whose record stands at this path
abbrev pub enum_events : Path → Enum → List Event
enum_events path e =
    (statement path [] e.span (inside e.braces) ∷ (part path (enums.NAME ∷ []) e.name.span ∷ []))
    ++ each (enum_item_events path) after_enum_item no_values e.items
    ++ closing e.braces ∷ []

-- ---- services

abbrev pub method_type_events : Path → ℤ → ℤ → MethodType → List Event
method_type_events path name_tag stream_tag t = part_if path (stream_tag ∷ []) t.stream
    ++ part path (name_tag ∷ []) (type_name_span t.name) ∷ []

abbrev pub method_item_events : Path → Count → MethodItem → List Event
method_item_events path options (method_option o) = option_events path methods.OPTIONS options o
method_item_events path options (method_empty span) = empty span ∷ []

abbrev pub after_method_item : Count → MethodItem → Count
after_method_item options (method_option o) = more options
after_method_item options (method_empty span) = options

-- where the semicolon or the opening brace of a method ends
abbrev pub end_in : Span → Option MethodBody → ℕ
end_in span None = span.end
end_in span (Some b) = inside b.braces

abbrev pub method_body_events : Path → Option MethodBody → List Event
method_body_events path None = []
method_body_events path (Some b) = each (method_item_events path) after_method_item none b.items
    ++ closing b.braces ∷ []

abbrev pub method_events : Path → Method → List Event
method_events path m =
    (statement path [] m.span (end_in m.span m.body)
    ∷ (part path (methods.NAME ∷ []) m.name.span ∷ []))
    ++ method_type_events path methods.INPUT_TYPE methods.CLIENT_STREAMING m.input
    ++ method_type_events path methods.OUTPUT_TYPE methods.SERVER_STREAMING m.output
    ++ method_body_events path m.body

abbrev pub service_item_events : Path → ServiceCounts → ServiceItem → List Event
service_item_events path counts (service_method m) =
    method_events (entry path services.METHOD counts.methods) m
service_item_events path counts (service_option o) =
    option_events path services.OPTIONS counts.options o
service_item_events path counts (service_empty span) = empty span ∷ []

abbrev pub after_service_item : ServiceCounts → ServiceItem → ServiceCounts
after_service_item counts (service_method m) = record counts { methods = more counts.methods }
after_service_item counts (service_option o) = record counts { options = more counts.options }
after_service_item counts (service_empty span) = counts

abbrev pub no_methods : ServiceCounts
no_methods = record { methods = none; options = none }

-- a service whose record stands at this path
abbrev pub service_events : Path → Service → List Event
service_events path s =
    (statement path [] s.span (inside s.braces) ∷ (part path (services.NAME ∷ []) s.name.span ∷ []))
    ++ each (service_item_events path) after_service_item no_methods s.items
    ++ closing s.braces ∷ []
