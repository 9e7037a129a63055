-- Enums and services that are the same but for their places have one record.
use Rattle.std.proofs.Common.{◌≡◌, [], ◌∷◌, Option, Some, None, map, option_map, refl, ap}
use Rattle.protox_declaration_records.specs.EnumRecords as enums
use Rattle.protox_declaration_records.specs.EnumRecords.{enum_of, names_in, ranges_in, value_of}
use Rattle.protox_declaration_records.specs.Numbers.{i32_of}
use Rattle.protox_declaration_records.specs.OptionRecords.{options_of}
use Rattle.protox_declaration_records.specs.ServiceRecords as services
use Rattle.protox_declaration_records.specs.ServiceRecords.{method_of, method_option_at, method_options, service_of}
use Rattle.protox_declaration_records.specs.Texts.{text_of}
use Rattle.protox_laws.proofs.Lists.{flat_maps, maps}
use Rattle.protox_laws.proofs.Options.{same_list, same_statement, same_text}
use Rattle.protox_laws.proofs.Unplaced.{one_enum_ranges, one_stream, one_type_text}
use Rattle.protox_laws.specs.Unplaced.{a_method, a_method_body, a_method_item, a_range, a_reserved, a_service, a_service_item, an_enum, an_enum_item, an_enum_value, an_option, items_reserved, words}
use Rattle.protox_tree.specs.Tree as tree
use Rattle.protox_tree.specs.View.{enum_item_view, enum_value_view, enum_view, method_body_view, method_item_view, method_view, option_view, reserved_items_view, reserved_view, service_item_view, service_view, strings_view, type_name_view}
use Rattle.protox_tree.specs.declared.enumeration.Enum.{Enum}
use Rattle.protox_tree.specs.declared.enumeration.EnumItem.{EnumItem}
use Rattle.protox_tree.specs.declared.enumeration.EnumItem.TheVariants as enum_items
use Rattle.protox_tree.specs.declared.enumeration.EnumValue.{EnumValue}
use Rattle.protox_tree.specs.declared.range.Reserved.{Reserved}
use Rattle.protox_tree.specs.declared.range.ReservedItems.{ReservedItems}
use Rattle.protox_tree.specs.declared.range.ReservedItems.TheVariants as reserves
use Rattle.protox_tree.specs.declared.service.Method.{Method}
use Rattle.protox_tree.specs.declared.service.MethodBody.{MethodBody}
use Rattle.protox_tree.specs.declared.service.MethodItem.{MethodItem}
use Rattle.protox_tree.specs.declared.service.MethodItem.TheVariants as method_items
use Rattle.protox_tree.specs.declared.service.Service.{Service}
use Rattle.protox_tree.specs.declared.service.ServiceItem.{ServiceItem}
use Rattle.protox_tree.specs.declared.service.ServiceItem.TheVariants as service_items

-- ---- what is reserved

same_ranges_in : (r s : ReservedItems) → items_reserved (reserved_items_view r) ≡ items_reserved (reserved_items_view s) → map a_range (ranges_in r) ≡ map a_range (ranges_in s)
same_ranges_in (reserves.Ranges a) (reserves.Ranges b) e =
    let ranges : map a_range a.items ≡ map a_range b.items = cc in
    ranges
same_ranges_in (reserves.Names a) (reserves.Names b) e = refl
same_ranges_in r s e = absurd (cc)

same_names_in : (r s : ReservedItems) → items_reserved (reserved_items_view r) ≡ items_reserved (reserved_items_view s) → names_in r ≡ names_in s
same_names_in (reserves.Ranges a) (reserves.Ranges b) e = refl
same_names_in (reserves.Names a) (reserves.Names b) e =
    let names : map words (map strings_view a.items) ≡ map words (map strings_view b.items) = cc in
    maps strings_view words text_of same_text a.items b.items names
same_names_in r s e = absurd (cc)

pub same_ranges : (r s : Reserved) → a_reserved (reserved_view r) ≡ a_reserved (reserved_view s) → map a_range (ranges_in r.items) ≡ map a_range (ranges_in s.items)
same_ranges r s e = same_ranges_in r.items s.items (ap (λ (v : tree.Reserved). v.items) e)

pub same_names : (r s : Reserved) → a_reserved (reserved_view r) ≡ a_reserved (reserved_view s) → names_in r.items ≡ names_in s.items
same_names r s e = same_names_in r.items s.items (ap (λ (v : tree.Reserved). v.items) e)

-- ---- enums

same_value : (v w : EnumValue) → an_enum_value (enum_value_view v) ≡ an_enum_value (enum_value_view w) → value_of v ≡ value_of w
same_value v w e =
    let options = same_list v.options w.options (ap (λ (x : tree.EnumValue). x.options) e) in
    λ k. record { name = Some ((e k).name.text); number = i32_of ((e k).number); options = options k }

-- what an item of an enum tells
record SameItem (a b : EnumItem) : Type 0 where
  values : enums.value_at a ≡ enums.value_at b
  options : enums.option_at a ≡ enums.option_at b
  ranges : enums.ranges_at a ≡ enums.ranges_at b
  names : enums.names_at a ≡ enums.names_at b

same_item : (a b : EnumItem) → an_enum_item (enum_item_view a) ≡ an_enum_item (enum_item_view b) → SameItem a b
same_item (enum_items.Value v) (enum_items.Value w) e =
    let seen : an_enum_value (enum_value_view v) ≡ an_enum_value (enum_value_view w) = cc in
    let values = ap (λ x. x ∷ []) (same_value v w seen) in
    search values
same_item (enum_items.Option o) (enum_items.Option p) e =
    let seen : an_option (option_view o) ≡ an_option (option_view p) = cc in
    let options = ap (λ x. x ∷ []) (same_statement o p seen) in
    search options
same_item (enum_items.Reserved r) (enum_items.Reserved s) e =
    let seen : a_reserved (reserved_view r) ≡ a_reserved (reserved_view s) = cc in
    let ranges = one_enum_ranges (ranges_in r.items) (ranges_in s.items) (same_ranges r s seen) in
    let names = same_names r s seen in
    search (ranges, names)
same_item (enum_items.Empty a) (enum_items.Empty b) e = search
same_item a b e = absurd (cc)

pub same_enum : (a b : Enum) → an_enum (enum_view a) ≡ an_enum (enum_view b) → enum_of a ≡ enum_of b
same_enum a b e =
    let items : map an_enum_item (map enum_item_view a.items.items) ≡ map an_enum_item (map enum_item_view b.items.items) = ap (λ (v : tree.Enum). v.items) e in
    let values = flat_maps enum_item_view an_enum_item enums.value_at enums.value_at (λ x y h. (same_item x y h).values) a.items.items b.items.items items in
    let options = flat_maps enum_item_view an_enum_item enums.option_at enums.option_at (λ x y h. (same_item x y h).options) a.items.items b.items.items items in
    let ranges = flat_maps enum_item_view an_enum_item enums.ranges_at enums.ranges_at (λ x y h. (same_item x y h).ranges) a.items.items b.items.items items in
    let names = flat_maps enum_item_view an_enum_item enums.names_at enums.names_at (λ x y h. (same_item x y h).names) a.items.items b.items.items items in
    λ k. record { name = Some ((e k).name.text); value = values k; options = options_of (options k); reserved_range = ranges k; reserved_name = names k }

-- ---- services

same_method_option : (a b : MethodItem) → a_method_item (method_item_view a) ≡ a_method_item (method_item_view b) → method_option_at a ≡ method_option_at b
same_method_option (method_items.Option o) (method_items.Option p) e =
    let option : an_option (option_view o) ≡ an_option (option_view p) = cc in
    ap (λ x. x ∷ []) (same_statement o p option)
same_method_option (method_items.Empty a) (method_items.Empty b) e = refl
same_method_option a b e = absurd (cc)

same_method_options : (a b : Option MethodBody) → option_map a_method_body (option_map method_body_view a) ≡ option_map a_method_body (option_map method_body_view b)
    → method_options a ≡ method_options b
same_method_options None None e = refl
same_method_options (Some a) (Some b) e =
    let body : a_method_body (method_body_view a) ≡ a_method_body (method_body_view b) = cc in
    flat_maps method_item_view a_method_item method_option_at method_option_at same_method_option a.items.items b.items.items (ap (λ (v : tree.MethodBody). v.items) body)
same_method_options a b e = absurd (cc)

same_method : (a b : Method) → a_method (method_view a) ≡ a_method (method_view b) → method_of a ≡ method_of b
same_method a b e =
    let options = same_method_options a.body b.body (ap (λ (v : tree.Method). v.body) e) in
    let input = one_type_text (type_name_view a.input.name) (type_name_view b.input.name) (ap (λ (v : tree.Method). v.input.name) e) in
    let output = one_type_text (type_name_view a.output.name) (type_name_view b.output.name) (ap (λ (v : tree.Method). v.output.name) e) in
    let taken = one_stream a.input.stream b.input.stream (ap (λ (v : tree.Method). v.input.stream) e) in
    let given = one_stream a.output.stream b.output.stream (ap (λ (v : tree.Method). v.output.stream) e) in
    λ k. record {
      name = Some ((e k).name.text);
      input_type = Some (input k);
      output_type = Some (output k);
      options = options_of (options k);
      client_streaming = taken k;
      server_streaming = given k;
    }

same_service_method : (a b : ServiceItem) → a_service_item (service_item_view a) ≡ a_service_item (service_item_view b) → services.method_at a ≡ services.method_at b
same_service_method (service_items.Method m) (service_items.Method n) e =
    let method : a_method (method_view m) ≡ a_method (method_view n) = cc in
    ap (λ x. x ∷ []) (same_method m n method)
same_service_method (service_items.Option o) (service_items.Option p) e = refl
same_service_method (service_items.Empty a) (service_items.Empty b) e = refl
same_service_method a b e = absurd (cc)

same_service_option : (a b : ServiceItem) → a_service_item (service_item_view a) ≡ a_service_item (service_item_view b) → services.option_at a ≡ services.option_at b
same_service_option (service_items.Method m) (service_items.Method n) e = refl
same_service_option (service_items.Option o) (service_items.Option p) e =
    let option : an_option (option_view o) ≡ an_option (option_view p) = cc in
    ap (λ x. x ∷ []) (same_statement o p option)
same_service_option (service_items.Empty a) (service_items.Empty b) e = refl
same_service_option a b e = absurd (cc)

pub same_service : (a b : Service) → a_service (service_view a) ≡ a_service (service_view b) → service_of a ≡ service_of b
same_service a b e =
    let items : map a_service_item (map service_item_view a.items.items) ≡ map a_service_item (map service_item_view b.items.items) = ap (λ (v : tree.Service). v.items) e in
    let methods = flat_maps service_item_view a_service_item services.method_at services.method_at same_service_method a.items.items b.items.items items in
    let options = flat_maps service_item_view a_service_item services.option_at services.option_at same_service_option a.items.items b.items.items items in
    λ k. record { name = Some ((e k).name.text); method = methods k; options = options_of (options k) }
