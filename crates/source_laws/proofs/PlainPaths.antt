-- The paths of what is met in options, ranges, enums and services are numbers of 32 bits.
use Rattle.std.proofs.Common.{◌+ℤ◌, ℤ, pos, negsuc, Bool, true, false, cond, codes, List, [], ◌∷◌, ◌++◌, Option, Some, None, fold, arith}
use Rattle.std.specs.Int.{saturate_signed, w32}
use Rattle.descriptor_records.specs.declared.tag.enum_value.TheConstants as enum_values
use Rattle.descriptor_records.specs.declared.tag.enumeration.TheConstants as enums
use Rattle.descriptor_records.specs.declared.tag.field.TheConstants as fields
use Rattle.descriptor_records.specs.declared.tag.method.TheConstants as methods
use Rattle.descriptor_records.specs.declared.tag.service.TheConstants as services
use Rattle.plain_records.specs.PlainRecords.{FitsInt32}
use Rattle.protox_lex.specs.declared.span.Span.{Span}
use Rattle.protox_locate.specs.Declarations.{after_body, after_entry, after_enum_item, after_field_option, after_method_item, after_name, after_reserved, after_reserved_items, after_service_item, body_events, each, entry, entry_events, enum_events, enum_item_events, field_list_events, field_option_events, list_events, method_body_events, method_events, method_item_events, method_type_events, more, name_events, no_lists, no_methods, no_values, none, option_events, part_if, range_events, reserved_events, reserved_items_events, service_events, service_item_events, value_events}
use Rattle.protox_locate.specs.Located.{Event, Path, closing, part}
use Rattle.protox_tree.specs.Places.{type_name_span, value_span}
use Rattle.protox_tree.specs.Tree.{Body, Enum, EnumItem, EnumValue, Method, MethodBody, MethodItem, MethodType, OptionList, OptionStatement, Reserved, ReservedItems, Service, ServiceItem, Word, enum_empty, enum_option, enum_reserved, enum_value, has_name, method_empty, method_option, reserved_names, reserved_ranges, service_empty, service_method, service_option}
use Rattle.protox_tree.specs.declared.range.ReservedRange.{ReservedRange}
use Rattle.source_laws.proofs.Lists.{all_append}
use Rattle.source_laws.proofs.PlainParts.{small_fits}
use Rattle.source_laws.proofs.PlainPlaces.{AreFitting, Fits, IsFitting}

-- ---- the types of counts, which protox_locate keeps to itself

abbrev pub TypeOf : {A : Type 0} → A → Type 0
TypeOf {A = A} a = A

abbrev pub Count : Type 0
Count = TypeOf none

abbrev pub ReservedLists : Type 0
ReservedLists = TypeOf (no_lists (pos 0) (pos 0))

abbrev EnumCounts : Type 0
EnumCounts = TypeOf no_values

abbrev ServiceCounts : Type 0
ServiceCounts = TypeOf no_methods

-- ---- the numbers of fields

pub fits_1 : FitsInt32 (pos 1)
fits_1 = small_fits 1 (omega arith)

pub fits_2 : FitsInt32 (pos 2)
fits_2 = small_fits 2 (omega arith)

pub fits_3 : FitsInt32 (pos 3)
fits_3 = small_fits 3 (omega arith)

pub fits_4 : FitsInt32 (pos 4)
fits_4 = small_fits 4 (omega arith)

pub fits_5 : FitsInt32 (pos 5)
fits_5 = small_fits 5 (omega arith)

pub fits_6 : FitsInt32 (pos 6)
fits_6 = small_fits 6 (omega arith)

pub fits_7 : FitsInt32 (pos 7)
fits_7 = small_fits 7 (omega arith)

pub fits_8 : FitsInt32 (pos 8)
fits_8 = small_fits 8 (omega arith)

pub fits_9 : FitsInt32 (pos 9)
fits_9 = small_fits 9 (omega arith)

pub fits_10 : FitsInt32 (pos 10)
fits_10 = small_fits 10 (omega arith)

pub fits_11 : FitsInt32 (pos 11)
fits_11 = small_fits 11 (omega arith)

pub fits_12 : FitsInt32 (pos 12)
fits_12 = small_fits 12 (omega arith)

fits_999 : FitsInt32 (pos 999)
fits_999 = small_fits 999 (omega arith)

-- ---- lists

abbrev pub FitsCount : Count → Type 0
FitsCount c = FitsInt32 c.entries

pub none_fits : FitsCount none
none_fits = small_fits 0 (omega arith)

saturated_fits : (z : ℤ) → FitsInt32 (saturate_signed w32 z)
saturated_fits (pos n) = record { sfits = omega arith }
saturated_fits (negsuc n) = record { sfits = omega arith }

pub more_fits : (c : Count) → FitsCount (more c)
more_fits c = saturated_fits (c.entries +ℤ pos 1)

pub joined : (es fs : List Event) → AreFitting es → AreFitting fs → AreFitting (es ++ fs)
joined es fs h k = all_append IsFitting es fs h k

pub entry_fits : (path : Path) (tag : ℤ) (c : Count) → Fits path → FitsInt32 tag → FitsCount c
    → Fits (entry path tag c)
entry_fits path tag c p t k = all_append FitsInt32 path (tag ∷ c.entries ∷ []) p (t, (k, tt))

-- counts that are so stay so, and what is met with such counts fits
pub each_fits : {C I : Type 0} (Good : C → Type 0) (met : C → I → List Event) (after : C → I → C)
    → ((c : C) (i : I) → Good c → AreFitting (met c i))
    → ((c : C) (i : I) → Good c → Good (after c i)) → (c : C) → Good c → (is : List I)
    → AreFitting (each met after c is)
each_fits Good met after fits keeps c good [] = tt
each_fits Good met after fits keeps c good (i ∷ is) =
    joined (met c i) (each met after (after c i) is) (fits c i good)
    (each_fits Good met after fits keeps (after c i) (keeps c i good) is)

pub all_counted : {C I : Type 0} (Good : C → Type 0) (after : C → I → C)
    → ((c : C) (i : I) → Good c → Good (after c i)) → (c : C) → Good c → (is : List I)
    → Good (fold after c is)
all_counted Good after keeps c good [] = good
all_counted Good after keeps c good (i ∷ is) =
    all_counted Good after keeps (after c i) (keeps c i good) is

pub part_if_fits : (path tail : Path) → Fits path → Fits tail → (o : Option Span)
    → AreFitting (part_if path tail o)
part_if_fits path tail p t None = tt
part_if_fits path tail p t (Some span) = ((p, t), tt)

-- ---- options

pub option_fits : (path : Path) → Fits path → (options : ℤ) → FitsInt32 options → (c : Count)
    → FitsCount c → (o : OptionStatement) → AreFitting (option_events path options c o)
option_fits path p options t c k o = ((p, (t, (fits_999, (k, tt)))), ((p, (t, tt)), tt))

body_fits : (path : Path) → Fits path → (options : ℤ) → FitsInt32 options → (c : Count) (b : Body)
    → FitsCount c → AreFitting (body_events path options c b)
body_fits path p options t c b k = ((p, (t, (fits_999, (k, tt)))), tt)

pub list_fits : (path : Path) → Fits path → (options : ℤ) → FitsInt32 options
    → (o : Option OptionList) → AreFitting (list_events path options o)
list_fits path p options t None = tt
list_fits path p options t (Some list) = (
  (p, (t, tt)),
  each_fits FitsCount (body_events path options) after_body (body_fits path p options t)
      (λ c b k. more_fits c) none none_fits list.options,
)

field_option_fits : (path : Path) → Fits path → (c : Count) (b : Body) → FitsCount c
    → AreFitting (field_option_events path c b)
field_option_fits path p c b k =
    by (has_name (codes "default") b.name) (has_name (codes "json_name") b.name) where
      by : (u v : Bool) → AreFitting
          (cond u (part path (fields.DEFAULT_VALUE ∷ []) (value_span b.value) ∷ [])
          (cond v (part path (fields.JSON_NAME ∷ []) (value_span b.value) ∷ [])
          (body_events path fields.OPTIONS c b)))
      by true v = ((p, (fits_7, tt)), tt)
      by false true = ((p, (fits_10, tt)), tt)
      by false false = body_fits path p fields.OPTIONS fits_8 c b k

after_field_option_fits : (c : Count) (b : Body) → FitsCount c → FitsCount (after_field_option c b)
after_field_option_fits c b k =
    by (has_name (codes "default") b.name) (has_name (codes "json_name") b.name) where
      by : (u v : Bool) → FitsCount (cond u c (cond v c (more c)))
      by true v = k
      by false true = k
      by false false = more_fits c

pub field_list_fits : (path : Path) → Fits path → (o : Option OptionList)
    → AreFitting (field_list_events path o)
field_list_fits path p None = tt
field_list_fits path p (Some list) = (
  (p, (fits_8, tt)),
  each_fits FitsCount (field_option_events path) after_field_option (field_option_fits path p)
      after_field_option_fits none none_fits list.options,
)

-- ---- ranges and names

pub range_fits : (path : Path) → Fits path → (r : ReservedRange) → AreFitting (range_events path r)
range_fits path p r = ((p, tt), ((p, (fits_1, tt)), ((p, (fits_2, tt)), tt)))

pub record FitsLists (l : ReservedLists) : Type 0 where
  pub ranges_tag : FitsInt32 l.ranges_tag
  pub names_tag : FitsInt32 l.names_tag
  pub ranges : FitsCount l.ranges
  pub names : FitsCount l.names

pub no_lists_fits : (ranges_tag names_tag : ℤ) → FitsInt32 ranges_tag → FitsInt32 names_tag
    → FitsLists (no_lists ranges_tag names_tag)
no_lists_fits ranges_tag names_tag r n = record {
  ranges_tag = r;
  names_tag = n;
  ranges = none_fits;
  names = none_fits;
}

entry_range_fits : (path : Path) → Fits path → (tag : ℤ) → FitsInt32 tag → (c : Count)
    (r : ReservedRange) → FitsCount c → AreFitting (entry_events path tag c r)
entry_range_fits path p tag t c r k = range_fits (entry path tag c) (entry_fits path tag c p t k) r

name_fits : (path : Path) → Fits path → (tag : ℤ) → FitsInt32 tag → (c : Count) (n : List Word)
    → FitsCount c → AreFitting (name_events path tag c n)
name_fits path p tag t c n k = ((p, (t, (k, tt))), tt)

reserved_items_fits : (path : Path) → Fits path → (l : ReservedLists) → FitsLists l → (span : Span)
    (r : ReservedItems) → AreFitting (reserved_items_events path l span r)
reserved_items_fits path p l good span (reserved_ranges rs) = (
  (p, (good.ranges_tag, tt)),
  each_fits FitsCount (entry_events path l.ranges_tag) after_entry
      (entry_range_fits path p l.ranges_tag good.ranges_tag) (λ c r k. more_fits c) l.ranges
      good.ranges rs,
)
reserved_items_fits path p l good span (reserved_names ns) = (
  (p, (good.names_tag, tt)),
  each_fits FitsCount (name_events path l.names_tag) after_name
      (name_fits path p l.names_tag good.names_tag) (λ c n k. more_fits c) l.names good.names ns,
)

pub reserved_fits : (path : Path) → Fits path → (l : ReservedLists) → FitsLists l → (r : Reserved)
    → AreFitting (reserved_events path l r)
reserved_fits path p l good r = reserved_items_fits path p l good r.span r.items

after_reserved_items_fits : (l : ReservedLists) → FitsLists l → (r : ReservedItems)
    → FitsLists (after_reserved_items l r)
after_reserved_items_fits l good (reserved_ranges rs) = record {
  ranges_tag = good.ranges_tag;
  names_tag = good.names_tag;
  ranges = all_counted FitsCount after_entry (λ c r k. more_fits c) l.ranges good.ranges rs;
  names = good.names;
}
after_reserved_items_fits l good (reserved_names ns) = record {
  ranges_tag = good.ranges_tag;
  names_tag = good.names_tag;
  ranges = good.ranges;
  names = all_counted FitsCount after_name (λ c n k. more_fits c) l.names good.names ns;
}

pub after_reserved_fits : (l : ReservedLists) → FitsLists l → (r : Reserved)
    → FitsLists (after_reserved l r)
after_reserved_fits l good r = after_reserved_items_fits l good r.items

-- ---- enums

record FitsEnumCounts (c : EnumCounts) : Type 0 where
  values : FitsCount c.values
  options : FitsCount c.options
  lists : FitsLists c.lists

value_fits : (path : Path) → Fits path → (v : EnumValue) → AreFitting (value_events path v)
value_fits path p v = (
  (p, tt),
  (
    (p, (fits_1, tt)),
    ((p, (fits_2, tt)), list_fits path p enum_values.OPTIONS fits_3 v.options),
  ),
)

enum_item_fits : (path : Path) → Fits path → (c : EnumCounts) (i : EnumItem) → FitsEnumCounts c
    → AreFitting (enum_item_events path c i)
enum_item_fits path p c (enum_value v) good =
    value_fits (entry path enums.VALUE c.values)
    (entry_fits path enums.VALUE c.values p fits_2 good.values) v
enum_item_fits path p c (enum_option o) good =
    option_fits path p enums.OPTIONS fits_3 c.options good.options o
enum_item_fits path p c (enum_reserved r) good = reserved_fits path p c.lists good.lists r
enum_item_fits path p c (enum_empty span) good = (tt, tt)

after_enum_item_fits : (c : EnumCounts) (i : EnumItem) → FitsEnumCounts c
    → FitsEnumCounts (after_enum_item c i)
after_enum_item_fits c (enum_value v) good =
    record { values = more_fits c.values; options = good.options; lists = good.lists }
after_enum_item_fits c (enum_option o) good =
    record { values = good.values; options = more_fits c.options; lists = good.lists }
after_enum_item_fits c (enum_reserved r) good = record {
  values = good.values;
  options = good.options;
  lists = after_reserved_fits c.lists good.lists r;
}
after_enum_item_fits c (enum_empty span) good = good

no_values_fit : FitsEnumCounts no_values
no_values_fit = record {
  values = none_fits;
  options = none_fits;
  lists = no_lists_fits enums.RESERVED_RANGE enums.RESERVED_NAME fits_4 fits_5;
}

pub enum_fits : (path : Path) → Fits path → (e : Enum) → AreFitting (enum_events path e)
enum_fits path p e = (
  (p, tt),
  (
    (p, (fits_1, tt)),
    joined (each (enum_item_events path) after_enum_item no_values e.items) (closing e.braces ∷ [])
        (each_fits FitsEnumCounts (enum_item_events path) after_enum_item (enum_item_fits path p)
        after_enum_item_fits no_values no_values_fit e.items) (tt, tt),
  ),
)

-- ---- services

method_type_fits : (path : Path) → Fits path → (name stream : ℤ) → FitsInt32 name
    → FitsInt32 stream → (t : MethodType) → AreFitting (method_type_events path name stream t)
method_type_fits path p name stream n s t =
    joined (part_if path (stream ∷ []) t.stream)
    (part path (name ∷ []) (type_name_span t.name) ∷ [])
    (part_if_fits path (stream ∷ []) p (s, tt) t.stream) ((p, (n, tt)), tt)

method_item_fits : (path : Path) → Fits path → (c : Count) (i : MethodItem) → FitsCount c
    → AreFitting (method_item_events path c i)
method_item_fits path p c (method_option o) k = option_fits path p methods.OPTIONS fits_4 c k o
method_item_fits path p c (method_empty span) k = (tt, tt)

after_method_item_fits : (c : Count) (i : MethodItem) → FitsCount c
    → FitsCount (after_method_item c i)
after_method_item_fits c (method_option o) k = more_fits c
after_method_item_fits c (method_empty span) k = k

method_body_fits : (path : Path) → Fits path → (b : Option MethodBody)
    → AreFitting (method_body_events path b)
method_body_fits path p None = tt
method_body_fits path p (Some b) =
    joined (each (method_item_events path) after_method_item none b.items) (closing b.braces ∷ [])
    (each_fits FitsCount (method_item_events path) after_method_item (method_item_fits path p)
    after_method_item_fits none none_fits b.items) (tt, tt)

method_fits : (path : Path) → Fits path → (m : Method) → AreFitting (method_events path m)
method_fits path p m =
    let input = method_type_events path methods.INPUT_TYPE methods.CLIENT_STREAMING m.input in
    let output = method_type_events path methods.OUTPUT_TYPE methods.SERVER_STREAMING m.output in
    let body = method_body_events path m.body in (
      (p, tt),
      (
        (p, (fits_1, tt)),
        joined (input ++ output) body
            (joined input output
            (method_type_fits path p methods.INPUT_TYPE methods.CLIENT_STREAMING fits_2 fits_5
            m.input)
            (method_type_fits path p methods.OUTPUT_TYPE methods.SERVER_STREAMING fits_3 fits_6
            m.output))
            (method_body_fits path p m.body),
      ),
    )

record FitsServiceCounts (c : ServiceCounts) : Type 0 where
  methods : FitsCount c.methods
  options : FitsCount c.options

service_item_fits : (path : Path) → Fits path → (c : ServiceCounts) (i : ServiceItem)
    → FitsServiceCounts c → AreFitting (service_item_events path c i)
service_item_fits path p c (service_method m) good =
    method_fits (entry path services.METHOD c.methods)
    (entry_fits path services.METHOD c.methods p fits_2 good.methods) m
service_item_fits path p c (service_option o) good =
    option_fits path p services.OPTIONS fits_3 c.options good.options o
service_item_fits path p c (service_empty span) good = (tt, tt)

after_service_item_fits : (c : ServiceCounts) (i : ServiceItem) → FitsServiceCounts c
    → FitsServiceCounts (after_service_item c i)
after_service_item_fits c (service_method m) good =
    record { methods = more_fits c.methods; options = good.options }
after_service_item_fits c (service_option o) good =
    record { methods = good.methods; options = more_fits c.options }
after_service_item_fits c (service_empty span) good = good

pub service_fits : (path : Path) → Fits path → (s : Service) → AreFitting (service_events path s)
service_fits path p s = (
  (p, tt),
  (
    (p, (fits_1, tt)),
    joined (each (service_item_events path) after_service_item no_methods s.items)
        (closing s.braces ∷ [])
        (each_fits FitsServiceCounts (service_item_events path) after_service_item
        (service_item_fits path p) after_service_item_fits no_methods
        (record { methods = none_fits; options = none_fits }) s.items)
        (tt, tt),
  ),
)
