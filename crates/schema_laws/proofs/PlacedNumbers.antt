-- The faults by the rules of numbers, defaults, oneofs and map entries stand at paths of their files.
use Rattle.std.specs.declared.alloc.Global.{Global}
use Rattle.std.proofs.Common.{◌≡◌, ℕ, ℤ, pos, Bool, true, false, not, cond, ◌&&◌, ◌||◌, List, [], ◌∷◌, ◌++◌, Option, None, Some, String, map, nat_lt, refl, subst, sym}
use Rattle.std.specs.Int.{w32, cast_signed}
use Rattle.std.specs.Prelude.{string_bytes}
use Rattle.descriptor_records.specs.declared.enums.EnumDescriptorProto.{EnumDescriptorProto}
use Rattle.descriptor_records.specs.declared.enums.EnumValueDescriptorProto.{EnumValueDescriptorProto}
use Rattle.descriptor_records.specs.declared.field.FieldDescriptorProto.{FieldDescriptorProto}
use Rattle.reflect_declarations.specs.Declarations.{Body, Declaration, entry, of_enum, of_enum_value, of_extension, of_field, of_file, of_message, of_method, of_oneof, of_service}
use Rattle.reflect_declarations.specs.Tree.{MessageParts}
use Rattle.reflect_faults.specs.Faults.{Fault, bad_default, bad_first_value, bad_map_entry, bad_oneof_index, duplicate_enum_number, duplicate_extension, duplicate_number, empty_enum, invalid_number, no_extension_number, number_of_extensions, place_of_fault, reserved_number}
use Rattle.reflect_faults.specs.Faults as faults
use Rattle.reflect_names.specs.Names.{Places}
use Rattle.reflect_passes.specs.Extensions.{double_faults, extension_faults, has_key}
use Rattle.reflect_references.specs.Meanings.{behind, meaning}
use Rattle.reflect_rules.specs.EnumRules.{alias_faults, allows_aliases, enum_faults, first_faults, value_faults}
use Rattle.reflect_rules.specs.MapEntries.{has_entry_shape, is_equal}
use Rattle.reflect_rules.specs.Numbers.{is_field_number, kept_faults, number_faults, oneof_faults, outside_faults, reserved_faults}
use Rattle.reflect_rules.specs.Repeats.{repeat_fault, repeat_faults, repeats}
use Rattle.reflect_rules.specs.RulePass.{FaultsAlong}
use Rattle.reflect_rules.specs.Rules.{ExtensionFaults, ExtensionNumber, FaultsOf, FieldFaults, Values, default_faults, entry_faults, is_one_map, message_faults, message_of, number_of, older_faults, parent_of}
use Rattle.reflect_rules.specs.TypesSay.{TypesSay}
use Rattle.reflect_rules.specs.Walks.{Facts, Place, place_behind}
use Rattle.reflect_rules.specs.declared.uses.EntryUse.{EntryUse}
use Rattle.reflect_scope.specs.FileIndexes.{is_index}
use Rattle.reflect_scope.specs.declared.definition.DefinitionKind.{DefinitionKind}
use Rattle.reflect_tables.specs.ExtensionNumbers.{KeyType}
use Rattle.reflect_tables.specs.Ranges.{Range}
use Rattle.reflect_tables.specs.declared.stored.StoredExtension.{StoredExtension}
use Rattle.reflect_walk.specs.MapEntries.{says_entry}
use Rattle.schema_laws.proofs.Placed.{AllStand, AreIn, both, each_in, joined, no_fault, none, of_file_at, one, unless_so, where_so}

module _ (at : Places) where
  number_in : (path : List ℤ) (n : ℤ) → AreIn at (number_faults at path n)
  number_in path n = unless_so at (is_field_number n) (invalid_number n (at (path ++ (pos 3 ∷ [])))) (path ++ (pos 3 ∷ [])) refl

  reserved_in : (path : List ℤ) (n : ℤ) (r : Option Range) → AreIn at (reserved_faults at path n r)
  reserved_in path n None = none at
  reserved_in path n (Some r) = one at (reserved_number n r (at (path ++ (pos 3 ∷ [])))) (path ++ (pos 3 ∷ [])) refl

  kept_in : (path : List ℤ) (n : ℤ) (r : Option Range) → AreIn at (kept_faults at path n r)
  kept_in path n None = none at
  kept_in path n (Some r) = one at (number_of_extensions n r (at (path ++ (pos 3 ∷ [])))) (path ++ (pos 3 ∷ [])) refl

  outside_in : (path : List ℤ) (n : ℤ) (message : List ℕ) (r : Option Range) → AreIn at (outside_faults at path n message r)
  outside_in path n message None = one at (no_extension_number n message (at (path ++ (pos 3 ∷ [])))) (path ++ (pos 3 ∷ [])) refl
  outside_in path n message (Some r) = none at

  oneof_in : (path : List ℤ) (count : ℕ) (i : Option ℤ) → AreIn at (oneof_faults at path count i)
  oneof_in path count None = none at
  oneof_in path count (Some i) = unless_so at (is_index i count) (bad_oneof_index i (at (path ++ (pos 9 ∷ [])))) (path ++ (pos 9 ∷ [])) refl

  older_in : (path : List ℤ) (types : TypesSay) (first : ℕ) (m : Option ℕ) → AreIn at (older_faults at path types first m)
  older_in path types first None = none at
  older_in path types first (Some i) = where_so at (nat_lt i first && types.is_entry i) (bad_map_entry (types.name i) (at path)) path refl

  default_in : (path : List ℤ) (value : Option (String Global)) (suits : Bool) → AreIn at (default_faults at path value suits)
  default_in path None suits = none at
  default_in path (Some value) suits = unless_so at suits (bad_default (string_bytes value) (at (path ++ (pos 7 ∷ [])))) (path ++ (pos 7 ∷ [])) refl

  -- numbers that stand earlier in a list
  repeats_in : (fault : ℤ → faults.Place → Fault) → ((n : ℤ) (p : faults.Place) → place_of_fault (fault n p) ≡ Some p) → (tag number : ℤ) (path : List ℤ) (ns : List (Option ℤ))
      → AreIn at (repeat_faults fault tag number path at ns)
  repeats_in fault is tag number path ns = each_in at (λ k r. repeat_fault fault tag number path at r) one_repeat 0 (repeats ns) where
    one_repeat : (k : ℕ) (r : ℕ × ℤ) → AreIn at (repeat_fault fault tag number path at r)
    one_repeat k r =
        one at (fault r.1 (at (entry path tag r.0 ++ (number ∷ [])))) (entry path tag r.0 ++ (number ∷ [])) (is r.1 (at (entry path tag r.0 ++ (number ∷ []))))

  message_in : (path : List ℤ) (name : List ℕ) (used : Option EntryUse) (m : MessageParts) → AreIn at (message_faults at path name used m)
  message_in path name used m =
      both at (entry_faults at path name used m) (repeat_faults duplicate_number (pos 2) (pos 3) path at (map (λ f. f.number) m.field))
      (where_so at (says_entry m.options && not (has_entry_shape m.field && is_one_map used)) (bad_map_entry name (at path)) path refl)
      (repeats_in duplicate_number (λ n p. refl) (pos 2) (pos 3) path (map (λ f. f.number) m.field))

  enum_in : (path : List ℤ) (is_proto3 : Bool) (e : EnumDescriptorProto) → AreIn at (enum_faults at path is_proto3 e)
  enum_in path is_proto3 e = by e.value.items where
    aliases : (b : Bool) → AreIn at (cond b [] (repeat_faults duplicate_enum_number (pos 2) (pos 2) path at (map (λ v. v.number) e.value.items)))
    aliases true = none at
    aliases false = repeats_in duplicate_enum_number (λ n p. refl) (pos 2) (pos 2) path (map (λ v. v.number) e.value.items)

    first : (n : Option ℤ) → AreIn at (first_faults at path is_proto3 n)
    first n =
        where_so at (is_proto3 && not (is_equal n (pos 0))) (bad_first_value (at (entry path (pos 2) 0 ++ (pos 2 ∷ [])))) (entry path (pos 2) 0 ++ (pos 2 ∷ [])) refl

    by : (vs : List EnumValueDescriptorProto) → AreIn at (value_faults at path is_proto3 e vs)
    by [] = one at (empty_enum (at path)) path refl
    by (v ∷ vs) = both at (first_faults at path is_proto3 v.number) (alias_faults at path e) (first v.number) (aliases (allows_aliases e.options))

  module _ (g : Facts) (values : Values) where
    field_in : (oneofs : ℕ) (path : List ℤ) (message : ℕ) (f : FieldDescriptorProto) (n : ℤ) (m : Option DefinitionKind) (xs : List Fault)
        → FieldFaults g values oneofs at path message f n m xs → AreIn at xs
    field_in oneofs path message f n m xs (r, is) =
        let a = number_faults at path n ++ reserved_faults at path n r.reserved in
        let b = a ++ kept_faults at path n r.kept in
        let c = b ++ oneof_faults at path oneofs f.oneof_index in
        let d = c ++ older_faults at path g.types g.first (message_of m) in
        subst (AreIn at) (sym is)
        (both at d (default_faults at path f.default_value r.suits)
        (both at c (older_faults at path g.types g.first (message_of m))
        (both at b (oneof_faults at path oneofs f.oneof_index)
        (both at a (kept_faults at path n r.kept)
        (both at (number_faults at path n) (reserved_faults at path n r.reserved) (number_in path n) (reserved_in path n r.reserved))
        (kept_in path n r.kept))
        (oneof_in path oneofs f.oneof_index))
        (older_in path g.types g.first (message_of m)))
        (default_in path f.default_value r.suits))

    extension_number_in : (path : List ℤ) (n : ℤ) (m : Option ℕ) (xs : List Fault) → ExtensionNumber g.types at path n m xs → AreIn at xs
    extension_number_in path n None xs is = subst (AreIn at) (sym is) (none at)
    extension_number_in path n (Some i) xs (reserved, kept, is_reserved, is_kept, is) =
        subst (AreIn at) (sym is)
        (both at (reserved_faults at path n reserved) (outside_faults at path n (g.types.name i) kept) (reserved_in path n reserved) (outside_in path n (g.types.name i) kept))

    extension_in : (path : List ℤ) (x : FieldDescriptorProto) (n : ℤ) (extendee m : Option DefinitionKind) (xs : List Fault)
        → ExtensionFaults g values at path x n extendee m xs → AreIn at xs
    extension_in path x n extendee m xs (r, is) =
        let a = number_faults at path n ++ r.numbers in
        let b = a ++ older_faults at path g.types g.first (message_of m) in
        subst (AreIn at) (sym is)
        (both at b (default_faults at path x.default_value r.suits)
        (both at a (older_faults at path g.types g.first (message_of m))
        (both at (number_faults at path n) r.numbers (number_in path n) (extension_number_in path n (message_of extendee) r.numbers r.is_number))
        (older_in path g.types g.first (message_of m)))
        (default_in path x.default_value r.suits))

    declaration_in : (p : Place) (d : Declaration) (xs : List Fault) → FaultsOf g values p at d xs → AreIn at xs
    declaration_in p d xs = by d.body where
      by : (b : Body) → FaultsOf g values p at (record d { body = b }) xs → AreIn at xs
      by (of_file f) is = subst (AreIn at) (sym is) (none at)
      by (of_message m) is = subst (AreIn at) (sym is) (message_in d.path d.name (g.uses d.index) m)
      by (of_field f) are = field_in p.oneofs d.path (parent_of d) f (number_of f) (meaning f.type_name p.rest) xs are
      by (of_oneof o) is = subst (AreIn at) (sym is) (none at)
      by (of_enum e) is = subst (AreIn at) (sym is) (enum_in d.path p.is_proto3 e)
      by (of_enum_value v) is = subst (AreIn at) (sym is) (none at)
      by (of_service s) is = subst (AreIn at) (sym is) (none at)
      by (of_method m) is = subst (AreIn at) (sym is) (none at)
      by (of_extension x) are =
          extension_in d.path x (number_of x) (meaning x.extendee p.rest) (meaning x.type_name (behind x.extendee p.rest)) xs are

module _ (at : ℕ → Places) where
  pub numbers_stand : (g : Facts) (values : Values) (p : Place) (ds : List Declaration) (xs : List Fault) → FaultsAlong g values at p ds xs → AllStand at xs
  numbers_stand g values p [] xs is = subst (AllStand at) (sym is) (no_fault at)
  numbers_stand g values p (d ∷ ds) xs (ys, zs, of, along, is) =
      subst (AllStand at) (sym is)
      (joined at ys zs (of_file_at at d.file ys (declaration_in (at d.file) g values p d ys of)) (numbers_stand g values (place_behind p d) ds zs along))

  pub doubles_stand : (known : KeyType → Bool) (types : TypesSay) (xs : List StoredExtension) → AllStand at (extension_faults known types at xs)
  doubles_stand known types [] = no_fault at
  doubles_stand known types (x ∷ xs) =
      let path = x.field.path.items ++ (pos 3 ∷ []) in
      let fault = duplicate_extension (cast_signed w32 x.field.number) (types.name x.extendee) (at x.file path) in
      joined at (double_faults known types at x) (extension_faults (λ k. known k || has_key k x) types at xs)
      (of_file_at at x.file (double_faults known types at x) (where_so (at x.file) (known (x.extendee, x.field.number)) fault path refl))
      (doubles_stand (λ k. known k || has_key k x) types xs)
