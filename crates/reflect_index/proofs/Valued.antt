-- The values of a batch's enums, each of which has those of its declaration.
use Rattle.std.proofs.Common.{◌≡◌, ℕ, ℤ, pos, ◌+◌, ◌-◌, List, [], ◌∷◌, ◌++◌, map, length, Option, Some, None, ap, sym, subst, ◌∙◌, append_assoc, arith, refl}
use Rattle.std.proofs.lemmas.List.{append-nil, map-append, length-append}
use Rattle.std.proofs.Math.ListN.{length-map}
use Rattle.descriptor_records.specs.declared.enums.EnumDescriptorProto.{EnumDescriptorProto}
use Rattle.descriptor_records.specs.declared.enums.EnumValueDescriptorProto.{EnumValueDescriptorProto}
use Rattle.descriptor_records.specs.declared.field.FieldDescriptorProto.{FieldDescriptorProto}
use Rattle.descriptor_records.specs.declared.field.OneofDescriptorProto.{OneofDescriptorProto}
use Rattle.descriptor_records.specs.declared.file.FileDescriptorProto.{FileDescriptorProto}
use Rattle.descriptor_records.specs.declared.service.ServiceDescriptorProto.{ServiceDescriptorProto}
use Rattle.descriptor_records.specs.declared.service.MethodDescriptorProto.{MethodDescriptorProto}
use Rattle.reflect_scope.specs.Means.{join}
use Rattle.reflect_declarations.specs.Tree.{text_of, Message, message, Messages, no_messages, more_messages}
use Rattle.reflect_declarations.specs.declared.offsets.Offsets.{Offsets}
use Rattle.reflect_declarations.specs.Declarations.{Declaration, each, entry, one_field, one_oneof, one_value, one_enum, one_method, one_service, one_extension, past_message, past_tree, past_trees, past_file, trees_of, tree_declarations, trees_declarations, file_declarations}
use Rattle.reflect_declarations.specs.Batches.{batch_declarations, past_files}
use Rattle.reflect_index.specs.OfDeclarations.{NamedNumber, declared_value, declared_values, add_value, with_value, enum_in, enums_in}

abbrev pub with_values : ℕ → List (List NamedNumber) → List Declaration → List (List NamedNumber)
with_values b vs [] = vs
with_values b vs (d ∷ ds) = with_values b (with_value b vs d) ds

-- declarations whose enums have the numbers from k, below n: behind them stand the values of these
abbrev pub Adds : ℕ → ℕ → List Declaration → ℕ → Type 0
Adds b k ds n = ((vs : List (List NamedNumber)) → b + length vs ≡ k → with_values b vs ds ≡ vs ++ map declared_values (enums_in ds)) × (k + length (enums_in ds) ≡ n)

values_on : (b : ℕ) (vs : List (List NamedNumber)) (xs ys : List Declaration) → with_values b vs (xs ++ ys) ≡ with_values b (with_values b vs xs) ys
values_on b vs [] ys = refl
values_on b vs (x ∷ xs) ys = values_on b (with_value b vs x) xs ys

enums_on : (xs ys : List Declaration) → enums_in (xs ++ ys) ≡ enums_in xs ++ enums_in ys
enums_on [] ys = refl
enums_on (x ∷ xs) ys = ap (λ l. enum_in x.body ++ l) (enums_on xs ys) ∙ sym (append_assoc (enum_in x.body) (enums_in xs) (enums_in ys))

nothing : (b k : ℕ) → Adds b k [] k
nothing b k = (λ vs e. sym (append-nil vs), omega arith)

adds_on : (b k : ℕ) (xs : List Declaration) (n : ℕ) (ys : List Declaration) (m : ℕ) → Adds b k xs n → Adds b n ys m → Adds b k (xs ++ ys) m
adds_on b k xs n ys m p q =
    let both : map declared_values (enums_in (xs ++ ys)) ≡ map declared_values (enums_in xs) ++ map declared_values (enums_in ys) =
    ap (map declared_values) (enums_on xs ys) ∙ map-append declared_values (enums_in xs) (enums_in ys) in
    let count : length (enums_in (xs ++ ys)) ≡ length (enums_in xs) + length (enums_in ys) = ap length (enums_on xs ys) ∙ length-append (enums_in xs) (enums_in ys) in
    let long : length (map declared_values (enums_in xs)) ≡ length (enums_in xs) = length-map (enums_in xs) declared_values in (
      λ vs e.
          let news = map declared_values (enums_in xs) in
          let more : length (vs ++ news) ≡ length vs + length news = length-append vs news in
          let first = p.1 in
          values_on b vs xs ys
          ∙ ap (λ ws. with_values b ws ys) (p.0 vs e)
          ∙ q.0 (vs ++ news) (omega (arith, more, long, e, first))
          ∙ append_assoc vs news (map declared_values (enums_in ys))
          ∙ ap (λ l. vs ++ l) (sym both),
      let first = p.1 in let second = q.1 in omega (arith, count, first, second),
    )

at_last : (vs : List (List NamedNumber)) (ws : List NamedNumber) (v : NamedNumber) → add_value (vs ++ ws ∷ []) (length vs) v ≡ vs ++ (ws ++ v ∷ []) ∷ []
at_last [] ws v = refl
at_last (x ∷ vs) ws v = ap (λ l. x ∷ l) (at_last vs ws v)

module _ (b file : ℕ) where
  fields : (path : List ℤ) (scope : List ℕ) (parent j k : ℕ) (xs : List FieldDescriptorProto) → Adds b k (each (one_field path scope file parent) j xs) k
  fields path scope parent j k [] = nothing b k
  fields path scope parent j k (x ∷ xs) = fields path scope parent (j + 1) k xs

  oneofs : (path : List ℤ) (scope : List ℕ) (parent j k : ℕ) (xs : List OneofDescriptorProto) → Adds b k (each (one_oneof path scope file parent) j xs) k
  oneofs path scope parent j k [] = nothing b k
  oneofs path scope parent j k (x ∷ xs) = oneofs path scope parent (j + 1) k xs

  methods : (path : List ℤ) (scope : List ℕ) (parent j k : ℕ) (xs : List MethodDescriptorProto) → Adds b k (each (one_method path scope file parent) j xs) k
  methods path scope parent j k [] = nothing b k
  methods path scope parent j k (x ∷ xs) = methods path scope parent (j + 1) k xs

  extensions : (path : List ℤ) (tag : ℤ) (scope : List ℕ) (parent : Option ℕ) (first j k : ℕ) (xs : List FieldDescriptorProto) → Adds b k (each (one_extension path tag scope file parent first) j xs) k
  extensions path tag scope parent first j k [] = nothing b k
  extensions path tag scope parent first j k (x ∷ xs) = extensions path tag scope parent first (j + 1) k xs

  services : (scope : List ℕ) (first j k : ℕ) (xs : List ServiceDescriptorProto) → Adds b k (each (one_service scope file first) j xs) k
  services scope first j k [] = nothing b k
  services scope first j k (x ∷ xs) =
      adds_on b k (each (one_method (entry [] (pos 6) j) (join scope (text_of x.name)) file (first + j)) 0 x.method.items) k (each (one_service scope file first) (j + 1) xs) k
      (methods (entry [] (pos 6) j) (join scope (text_of x.name)) (first + j) 0 k x.method.items) (services scope first (j + 1) k xs)

  no_enums : (path : List ℤ) (scope : List ℕ) (parent j : ℕ) (xs : List EnumValueDescriptorProto) → enums_in (each (one_value path scope file parent) j xs) ≡ []
  no_enums path scope parent j [] = refl
  no_enums path scope parent j (x ∷ xs) = no_enums path scope parent (j + 1) xs

  -- the values of the last enum
  last_values : (path : List ℤ) (scope : List ℕ) (k j : ℕ) (vs : List (List NamedNumber)) (ws : List NamedNumber) (xs : List EnumValueDescriptorProto) → b + length vs ≡ k
      → with_values b (vs ++ ws ∷ []) (each (one_value path scope file k) j xs) ≡ vs ++ (ws ++ map declared_value xs) ∷ []
  last_values path scope k j vs ws [] e = ap (λ l. vs ++ l ∷ []) (sym (append-nil ws))
  last_values path scope k j vs ws (x ∷ xs) e =
      let v = declared_value x in
      let rest = each (one_value path scope file k) (j + 1) xs in
      let place : k - b ≡ length vs = omega (arith, e) in
      ap (λ l. with_values b l rest) (ap (λ p. add_value (vs ++ ws ∷ []) p v) place ∙ at_last vs ws v)
      ∙ last_values path scope k (j + 1) vs (ws ++ v ∷ []) xs e
      ∙ ap (λ l. vs ++ l ∷ []) (append_assoc ws (v ∷ []) (map declared_value xs))

  enums : (path : List ℤ) (tag : ℤ) (scope : List ℕ) (parent : Option ℕ) (first j : ℕ) (xs : List EnumDescriptorProto)
      → Adds b (first + j) (each (one_enum path tag scope file parent first) j xs) (first + j + length xs)
  enums path tag scope parent first j [] = subst (Adds b (first + j) []) (omega arith) (nothing b (first + j))
  enums path tag scope parent first j (x ∷ xs) =
      let k = first + j in
      let values = each (one_value (entry path tag j) scope file k) 0 x.value.items in
      let none = no_enums (entry path tag j) scope k 0 x.value.items in
      let rest = each (one_enum path tag scope file parent first) (j + 1) xs in
      let here : Adds b k (one_enum path tag scope file parent first j x) (k + 1) = (
        λ vs e. last_values (entry path tag j) scope k 0 vs [] x.value.items e ∙ ap (λ es. vs ++ declared_values x ∷ map declared_values es) (sym none),
        let count : length (enums_in values) ≡ 0 = ap length none in omega (arith, count),
      ) in
      let next : first + (j + 1) ≡ k + 1 = omega arith in
      let end : k + 1 + length xs ≡ k + length (x ∷ xs) = omega arith in
      adds_on b k (one_enum path tag scope file parent first j x) (k + 1) rest (k + length (x ∷ xs)) here
      (subst (Adds b (k + 1) rest) end (subst (λ n. Adds b n rest (n + length xs)) next (enums path tag scope parent first (j + 1) xs)))

  all_enums : (path : List ℤ) (tag : ℤ) (scope : List ℕ) (parent : Option ℕ) (first : ℕ) (xs : List EnumDescriptorProto) → Adds b first (each (one_enum path tag scope file parent first) 0 xs) (first + length xs)
  all_enums path tag scope parent first xs =
      let start : first + 0 ≡ first = omega arith in
      subst (λ n. Adds b n (each (one_enum path tag scope file parent first) 0 xs) (n + length xs)) start (enums path tag scope parent first 0 xs)

  mutual
    tree : (path : List ℤ) (scope : List ℕ) (parent : Option ℕ) (o : Offsets) (m : Message) → Adds b o.enums (tree_declarations path scope file parent o m) (past_tree o m).enums
    tree path scope parent o (message own nested) =
        let name = join scope (text_of own.name) in
        let k = o.enums in
        let q = past_trees (past_message o) nested in
        let n = q.enums + length own.enum_type in
        let fs = each (one_field path name file o.messages) 0 own.field in
        let ms = trees_declarations path (pos 3) name file (Some o.messages) 0 (past_message o) nested in
        let es = each (one_enum path (pos 4) name file (Some o.messages) q.enums) 0 own.enum_type in
        let xs = each (one_extension path (pos 6) name file (Some o.messages) q.extensions) 0 own.extension in
        let os = each (one_oneof path name file o.messages) 0 own.oneof_decl in
        adds_on b k fs k (ms ++ (es ++ (xs ++ os))) n (fields path name o.messages 0 k own.field)
        (adds_on b k ms q.enums (es ++ (xs ++ os)) n (trees path (pos 3) name (Some o.messages) 0 (past_message o) nested)
        (adds_on b q.enums es n (xs ++ os) n (all_enums path (pos 4) name (Some o.messages) q.enums own.enum_type)
        (adds_on b n xs n os n (extensions path (pos 6) name (Some o.messages) q.extensions 0 n own.extension)
        (oneofs path name o.messages 0 n own.oneof_decl))))

    trees : (path : List ℤ) (tag : ℤ) (scope : List ℕ) (parent : Option ℕ) (j : ℕ) (o : Offsets) (ms : Messages) → Adds b o.enums (trees_declarations path tag scope file parent j o ms) (past_trees o ms).enums
    trees path tag scope parent j o no_messages = nothing b o.enums
    trees path tag scope parent j o (more_messages m ms) =
        adds_on b o.enums (tree_declarations (entry path tag j) scope file parent o m) (past_tree o m).enums (trees_declarations path tag scope file parent (j + 1) (past_tree o m) ms) (past_trees (past_tree o m) ms).enums (tree (entry path tag j) scope parent o m) (trees path tag scope parent (j + 1) (past_tree o m) ms)

  one_file : (o : Offsets) (f : FileDescriptorProto) → Adds b o.enums (file_declarations o file f) (past_file o f).enums
  one_file o f =
      let scope = text_of f.package in
      let q = past_trees o (trees_of f) in
      let n = q.enums + length f.enum_type.items in
      let ms = trees_declarations [] (pos 4) scope file None 0 o (trees_of f) in
      let es = each (one_enum [] (pos 5) scope file None q.enums) 0 f.enum_type.items in
      let ss = each (one_service scope file o.services) 0 f.service.items in
      let xs = each (one_extension [] (pos 7) scope file None q.extensions) 0 f.extension.items in
      adds_on b o.enums ms q.enums (es ++ (ss ++ xs)) n (trees [] (pos 4) scope None 0 o (trees_of f))
      (adds_on b q.enums es n (ss ++ xs) n (all_enums [] (pos 5) scope None q.enums f.enum_type.items)
      (adds_on b n ss n xs n (services scope o.services 0 n f.service.items)
      (extensions [] (pos 7) scope None q.extensions 0 n f.extension.items)))

batch : (b : ℕ) (o : Offsets) (i : ℕ) (fs : List FileDescriptorProto) → Adds b o.enums (batch_declarations o i fs) (past_files o fs).enums
batch b o i [] = nothing b o.enums
batch b o i (f ∷ fs) = adds_on b o.enums (file_declarations o i f) (past_file o f).enums (batch_declarations (past_file o f) (i + 1) fs) (past_files o (f ∷ fs)).enums (one_file b i o f) (batch b (past_file o f) (i + 1) fs)

-- the enums of a batch have the declared values
pub all_values : (o : Offsets) (i : ℕ) (fs : List FileDescriptorProto) → with_values o.enums [] (batch_declarations o i fs) ≡ map declared_values (enums_in (batch_declarations o i fs))
all_values o i fs = (batch o.enums o i fs).0 [] (omega arith)
