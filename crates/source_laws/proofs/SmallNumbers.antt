-- The numbers of options that a source writes are those of 64 bits.
use Rattle.std.proofs.Common.{◌≡◌, ◌^◌, ℤ, pos, negsuc, Bool, true, false, ltb, if◌then◌else◌, ◌||◌, List, [], ◌∷◌, Option, Some, None, refl, arith, w64}
use Rattle.std.proofs.lemmas.Bool.{ltb-true}
use Rattle.std.specs.List.{AllByRecursion}
use Rattle.std.specs.Prelude.{FitsSigned, IfSome, codes}
use Rattle.descriptor_records.specs.Content.{OptionContent}
use Rattle.protox_declaration_records.specs.EnumRecords as enums
use Rattle.protox_declaration_records.specs.Numbers.{held_by, i64_of}
use Rattle.protox_declaration_records.specs.OptionRecords.{option_of, with_value, without_value}
use Rattle.protox_declaration_records.specs.ServiceRecords as services
use Rattle.protox_lex.specs.Signed.{signed}
use Rattle.protox_field_records.specs.FieldRecords.{is_named, other_at}
use Rattle.protox_field_records.specs.Layers.{ItemLayer, MemberLayer}
use Rattle.protox_message_records.specs.MessageRecords.{member_option_in, option_in}
use Rattle.protox_record.specs.FileRecords as files
use Rattle.protox_tree.specs.declared.enumeration.EnumItem.{EnumItem}
use Rattle.protox_tree.specs.declared.enumeration.EnumItem.TheVariants as enum_items
use Rattle.protox_tree.specs.declared.message.ExtendItem.TheOpen.{MessageItem-F, OneofItem-F}
use Rattle.protox_tree.specs.declared.file.FileItem.{FileItem}
use Rattle.protox_tree.specs.declared.file.FileItem.TheVariants as file_items
use Rattle.protox_tree.specs.declared.option.OptionBody.{OptionBody}
use Rattle.protox_tree.specs.declared.option.OptionNamePart.{OptionNamePart}
use Rattle.protox_tree.specs.declared.option.OptionValue.{OptionValue}
use Rattle.protox_tree.specs.declared.option.OptionValue.TheVariants as values
use Rattle.protox_tree.specs.declared.service.MethodBody.{MethodBody}
use Rattle.protox_tree.specs.declared.service.MethodItem.{MethodItem}
use Rattle.protox_tree.specs.declared.service.MethodItem.TheVariants as method_items
use Rattle.protox_tree.specs.declared.service.ServiceItem.{ServiceItem}
use Rattle.protox_tree.specs.declared.service.ServiceItem.TheVariants as service_items
use Rattle.source_laws.proofs.Lists.{all_each}

abbrev pub IsSmall : OptionContent → Type 0
IsSmall x = IfSome x.negative_int_value (FitsSigned w64)

-- what 64 bits hold fits them
held_small : (z : ℤ) → IfSome (held_by (2 ^ 63) z) (FitsSigned w64)
held_small (pos n) = by (ltb n (2 ^ 63)) refl where
  by : (b : Bool) → ltb n (2 ^ 63) ≡ b
      → IfSome (if b then Some (pos n) else None) (FitsSigned w64)
  by true e = let small = ltb-true n (2 ^ 63) e in omega (arith, small)
  by false e = tt
held_small (negsuc n) = by (ltb n (2 ^ 63)) refl where
  by : (b : Bool) → ltb n (2 ^ 63) ≡ b
      → IfSome (if b then Some (negsuc n) else None) (FitsSigned w64)
  by true e = let small = ltb-true n (2 ^ 63) e in omega (arith, small)
  by false e = tt

value_small : (v : OptionValue) (ps : List OptionNamePart)
    → IsSmall (with_value v (without_value ps))
value_small (values.Int n) ps = by n.negative where
  by : (b : Bool) → IsSmall (if b then record (without_value ps) { negative_int_value = i64_of n }
      else record (without_value ps) { positive_int_value = Some n.value })
  by true = held_small (signed n)
  by false = tt
value_small (values.Ident i) ps = tt
value_small (values.NegativeWord i) ps = tt
value_small (values.Float negative f) ps = tt
value_small (values.String s) ps = tt
value_small (values.Aggregate a) ps = tt

pub option_small : (b : OptionBody) → IsSmall (option_of b)
option_small b = value_small b.value b.name.items

-- ---- options that are statements

pub enum_small : (i : EnumItem) → AllByRecursion IsSmall (enums.option_at i)
enum_small (enum_items.Option o) = (option_small o.body, tt)
enum_small i = tt

pub method_small : (i : MethodItem) → AllByRecursion IsSmall (services.method_option_at i)
method_small (method_items.Option o) = (option_small o.body, tt)
method_small i = tt

pub service_small : (i : ServiceItem) → AllByRecursion IsSmall (services.option_at i)
service_small (service_items.Option o) = (option_small o.body, tt)
service_small i = tt

pub member_small : (o : MemberLayer) → AllByRecursion IsSmall (member_option_in o)
member_small (OneofItem-F.«OneofItem::Option» o) = (option_small o.body, tt)
member_small o = tt

pub item_small : (o : ItemLayer) → AllByRecursion IsSmall (option_in o)
item_small (MessageItem-F.«MessageItem::Option» o) = (option_small o.body, tt)
item_small o = tt

pub statement_small : (i : FileItem) → AllByRecursion IsSmall (files.option_at i)
statement_small (file_items.Option o) = (option_small o.body, tt)
statement_small i = tt

-- those of a method, between its braces
pub body_small : (b : Option MethodBody) → AllByRecursion IsSmall (services.method_options b)
body_small None = tt
body_small (Some b) = all_each IsSmall services.method_option_at method_small b.items.items

-- ---- options in brackets that are no fields of the record
pub other_small : (b : OptionBody) → AllByRecursion IsSmall (other_at b)
other_small b = by (is_named (codes "default") b || is_named (codes "json_name") b) where
  by : (x : Bool) → AllByRecursion IsSmall (if x then [] else option_of b ∷ [])
  by true = tt
  by false = (option_small b, tt)
