-- The index of a declaration goes on from what is declared before it.
use Rattle.std.proofs.Common.{◌≡◌, ℕ, ℤ, pos, ◌+◌, List, [], ◌∷◌, ◌++◌, length, Option, Some, None, ap, sym, subst, arith, refl}
use Rattle.descriptor_records.specs.declared.enums.EnumDescriptorProto.{EnumDescriptorProto}
use Rattle.descriptor_records.specs.declared.enums.EnumValueDescriptorProto.{EnumValueDescriptorProto}
use Rattle.descriptor_records.specs.declared.field.FieldDescriptorProto.{FieldDescriptorProto}
use Rattle.descriptor_records.specs.declared.field.OneofDescriptorProto.{OneofDescriptorProto}
use Rattle.descriptor_records.specs.declared.file.FileDescriptorProto.{FileDescriptorProto}
use Rattle.descriptor_records.specs.declared.service.ServiceDescriptorProto.{ServiceDescriptorProto}
use Rattle.descriptor_records.specs.declared.service.MethodDescriptorProto.{MethodDescriptorProto}
use Rattle.reflect_scope.specs.Means.{join}
use Rattle.reflect_declarations.specs.Tree.{text_of, Message, message, Messages, no_messages, more_messages}
use Rattle.reflect_declarations.specs.declared.offsets.Offsets.{Offsets}
use Rattle.reflect_walk.proofs.Walks.{trees_services}
use Rattle.reflect_declarations.specs.Declarations.{Declaration, Body, of_file, of_message, of_field, of_oneof, of_enum, of_enum_value, of_service, of_method, of_extension, each, entry, one_field, one_oneof, one_value, one_enum, one_method, one_service, one_extension, past_message, past_enums, past_extensions, past_services, past_tree, past_trees, past_file, trees_of, tree_declarations, trees_declarations, file_declarations}

-- the counts behind a declaration
abbrev pub past_one : Offsets → Body → Offsets
past_one o (of_file f) = o
past_one o (of_message m) = past_message o
past_one o (of_field f) = o
past_one o (of_oneof f) = o
past_one o (of_enum e) = past_enums o 1
past_one o (of_enum_value v) = o
past_one o (of_service s) = past_services o 1
past_one o (of_method m) = o
past_one o (of_extension x) = past_extensions o 1

-- the index is the count of those before it
abbrev pub IsNext : Offsets → ℕ → Body → Type 0
IsNext o i (of_file f) = Unit {0}
IsNext o i (of_message m) = i ≡ o.messages
IsNext o i (of_field f) = Unit {0}
IsNext o i (of_oneof f) = Unit {0}
IsNext o i (of_enum e) = i ≡ o.enums
IsNext o i (of_enum_value v) = Unit {0}
IsNext o i (of_service s) = i ≡ o.services
IsNext o i (of_method m) = Unit {0}
IsNext o i (of_extension x) = i ≡ o.extensions

-- so for declarations of one file, one after another
abbrev pub AreNext : ℕ → Offsets → List Declaration → Offsets → Type 0
AreNext file o [] p = p ≡ o
AreNext file o (d ∷ ds) p = (d.file ≡ file) × (IsNext o d.index d.body × AreNext file (past_one o d.body) ds p)

pub next_on : (file : ℕ) (o : Offsets) (xs : List Declaration) (p : Offsets) (ys : List Declaration) (q : Offsets)
    → AreNext file o xs p → AreNext file p ys q → AreNext file o (xs ++ ys) q
next_on file o [] p ys q a b = subst (λ r. AreNext file r ys q) a b
next_on file o (x ∷ xs) p ys q a b = (a.0, (a.1.0, next_on file (past_one o x.body) xs p ys q a.1.1 b))

module _ (file : ℕ) where
  fields : (path : List ℤ) (scope : List ℕ) (parent k : ℕ) (o : Offsets) (xs : List FieldDescriptorProto) → AreNext file o (each (one_field path scope file parent) k xs) o
  fields path scope parent k o [] = refl
  fields path scope parent k o (x ∷ xs) = (refl, (tt, fields path scope parent (k + 1) o xs))

  oneofs : (path : List ℤ) (scope : List ℕ) (parent k : ℕ) (o : Offsets) (xs : List OneofDescriptorProto) → AreNext file o (each (one_oneof path scope file parent) k xs) o
  oneofs path scope parent k o [] = refl
  oneofs path scope parent k o (x ∷ xs) = (refl, (tt, oneofs path scope parent (k + 1) o xs))

  values : (path : List ℤ) (scope : List ℕ) (parent k : ℕ) (o : Offsets) (xs : List EnumValueDescriptorProto) → AreNext file o (each (one_value path scope file parent) k xs) o
  values path scope parent k o [] = refl
  values path scope parent k o (x ∷ xs) = (refl, (tt, values path scope parent (k + 1) o xs))

  methods : (path : List ℤ) (scope : List ℕ) (parent k : ℕ) (o : Offsets) (xs : List MethodDescriptorProto) → AreNext file o (each (one_method path scope file parent) k xs) o
  methods path scope parent k o [] = refl
  methods path scope parent k o (x ∷ xs) = (refl, (tt, methods path scope parent (k + 1) o xs))

  extensions : (path : List ℤ) (tag : ℤ) (scope : List ℕ) (parent : Option ℕ) (first k : ℕ) (o : Offsets) (xs : List FieldDescriptorProto)
      → o.extensions ≡ first + k → AreNext file o (each (one_extension path tag scope file parent first) k xs) (past_extensions o (length xs))
  extensions path tag scope parent first k o [] at = ap (λ n. record o { extensions = n }) (omega arith)
  extensions path tag scope parent first k o (x ∷ xs) at =
      let behind : past_extensions (past_extensions o 1) (length xs) ≡ past_extensions o (length (x ∷ xs)) = ap (λ n. record o { extensions = n }) (omega arith) in
      (refl, (sym at, subst (AreNext file (past_extensions o 1) (each (one_extension path tag scope file parent first) (k + 1) xs)) behind (extensions path tag scope parent first (k + 1) (past_extensions o 1) xs (omega (arith, at)))))

  enums : (path : List ℤ) (tag : ℤ) (scope : List ℕ) (parent : Option ℕ) (first k : ℕ) (o : Offsets) (xs : List EnumDescriptorProto)
      → o.enums ≡ first + k → AreNext file o (each (one_enum path tag scope file parent first) k xs) (past_enums o (length xs))
  enums path tag scope parent first k o [] at = ap (λ n. record o { enums = n }) (omega arith)
  enums path tag scope parent first k o (x ∷ xs) at =
      let behind : past_enums (past_enums o 1) (length xs) ≡ past_enums o (length (x ∷ xs)) = ap (λ n. record o { enums = n }) (omega arith) in
      let rest = subst (AreNext file (past_enums o 1) (each (one_enum path tag scope file parent first) (k + 1) xs)) behind (enums path tag scope parent first (k + 1) (past_enums o 1) xs (omega (arith, at))) in
      (refl, (sym at, next_on file (past_enums o 1) _ (past_enums o 1) _ (past_enums o (length (x ∷ xs))) (values (entry path tag k) scope (first + k) 0 (past_enums o 1) x.value.items) rest))

  services : (scope : List ℕ) (first k : ℕ) (o : Offsets) (xs : List ServiceDescriptorProto)
      → o.services ≡ first + k → AreNext file o (each (one_service scope file first) k xs) (past_services o (length xs))
  services scope first k o [] at = ap (λ n. record o { services = n }) (omega arith)
  services scope first k o (x ∷ xs) at =
      let behind : past_services (past_services o 1) (length xs) ≡ past_services o (length (x ∷ xs)) = ap (λ n. record o { services = n }) (omega arith) in
      let rest = subst (AreNext file (past_services o 1) (each (one_service scope file first) (k + 1) xs)) behind (services scope first (k + 1) (past_services o 1) xs (omega (arith, at))) in
      (refl, (sym at, next_on file (past_services o 1) _ (past_services o 1) _ (past_services o (length (x ∷ xs))) (methods (entry [] (pos 6) k) (join scope (text_of x.name)) (first + k) 0 (past_services o 1) x.method.items) rest))

  mutual
    tree : (path : List ℤ) (scope : List ℕ) (parent : Option ℕ) (o : Offsets) (m : Message) → AreNext file o (tree_declarations path scope file parent o m) (past_tree o m)
    tree path scope parent o (message own nested) =
        let name = join scope (text_of own.name) in
        let p = past_message o in
        let q = past_trees p nested in
        let r = past_enums q (length own.enum_type) in
        let s = past_extensions r (length own.extension) in (
          refl,
          (
            refl,
            next_on file p _ p _ s (fields path name o.messages 0 p own.field)
                (next_on file p _ q _ s (trees path (pos 3) name (Some o.messages) 0 p nested)
                (next_on file q _ r _ s (enums path (pos 4) name (Some o.messages) q.enums 0 q own.enum_type (omega arith))
                (next_on file r _ s _ s (extensions path (pos 6) name (Some o.messages) q.extensions 0 r own.extension (omega arith))
                (oneofs path name o.messages 0 s own.oneof_decl)))),
          ),
        )

    trees : (path : List ℤ) (tag : ℤ) (scope : List ℕ) (parent : Option ℕ) (k : ℕ) (o : Offsets) (ms : Messages) → AreNext file o (trees_declarations path tag scope file parent k o ms) (past_trees o ms)
    trees path tag scope parent k o no_messages = refl
    trees path tag scope parent k o (more_messages m ms) =
        next_on file o _ (past_tree o m) _ (past_trees (past_tree o m) ms) (tree (entry path tag k) scope parent o m) (trees path tag scope parent (k + 1) (past_tree o m) ms)

pub file_next : (file : ℕ) (o : Offsets) (f : FileDescriptorProto) → AreNext file o (file_declarations o file f) (past_file o f)
file_next file o f =
    let scope = text_of f.package in
    let q = past_trees o (trees_of f) in
    let r = past_enums q (length f.enum_type.items) in
    let s = past_services r (length f.service.items) in
    let t = past_extensions s (length f.extension.items) in
    let served : r.services ≡ o.services = trees_services o (trees_of f) in (
      refl,
      (
        tt,
        next_on file o _ q _ t (trees file [] (pos 4) scope None 0 o (trees_of f))
            (next_on file q _ r _ t (enums file [] (pos 5) scope None q.enums 0 q f.enum_type.items (omega arith))
            (next_on file r _ s _ t (services file scope o.services 0 r f.service.items (omega (arith, served)))
            (extensions file [] (pos 7) scope None q.extensions 0 s f.extension.items (omega arith)))),
      ),
    )
