-- Where no name is given twice, no two fields of a message have one, nor two values of an enum.
use Rattle.std.proofs.Common.{◌≡◌, ◌∙◌, ◌+◌, ◌≤◌, ◌<◌, ◌⊎◌, inl, inr, ◌++◌, ℕ, zero, suc, ℤ, pos, true, not, cond, List, [], ◌∷◌, Option, None, Some, is_some, sum_by, slice_get, refl, sym, ap, subst, arith}
use Rattle.std.proofs.lemmas.Bool.{cases_lt}
use Rattle.std.proofs.lemmas.List.Sums.{sum_by-cons, sum_by-append}
use Rattle.std.specs.List.{AllByRecursion}
use Rattle.descriptor_records.specs.Content.{Text}
use Rattle.descriptor_records.specs.declared.enums.EnumDescriptorProto.{EnumDescriptorProto}
use Rattle.descriptor_records.specs.declared.enums.EnumValueDescriptorProto.{EnumValueDescriptorProto}
use Rattle.descriptor_records.specs.declared.field.FieldDescriptorProto.{FieldDescriptorProto}
use Rattle.descriptor_records.specs.declared.file.FileDescriptorProto.{FileDescriptorProto}
use Rattle.descriptor_records.specs.declared.service.ServiceDescriptorProto.{ServiceDescriptorProto}
use Rattle.reflect_scope.specs.Means.{join}
use Rattle.reflect_declarations.specs.Batches.{batch_declarations}
use Rattle.reflect_declarations.specs.Declarations.{Declaration, of_message, of_enum, each, entry, field_declaration, enum_value_declaration, one_field, one_oneof, one_value, one_enum, one_method, one_service, one_extension, past_message, past_tree, past_trees, past_file, trees_of, tree_declarations, trees_declarations, file_declaration, file_declarations}
use Rattle.reflect_declarations.specs.Tree.{text_of, Message, message, Messages, no_messages, more_messages}
use Rattle.reflect_declarations.specs.declared.offsets.Offsets.{Offsets}
use Rattle.reflect_known.specs.KnownNames.{definition_of}
use Rattle.reflect_pool.proofs.Grown.{all_behind}
use Rattle.reflect_index.proofs.Among.{Among, in_first, in_second, of_all}
use Rattle.linked_view.proofs.Completes.{IsCompleteBody}
use Rattle.linked_view.proofs.Counts.{one_if, bytes_refl}
use Rattle.linked_view.proofs.Given.{other_in, other_at, others}
use Rattle.linked_view.proofs.Walked.{seen_body}
use Rattle.linked_names.proofs.Known.{gives_name, weight}

-- no two of them are called alike
abbrev pub Apart : {A : Type 0} → (A → Text) → List A → Type 0
Apart {A} called xs = (j l : ℕ) (a b : A) → slice_get xs j ≡ Some a → slice_get xs l ≡ Some b
    → called a ≡ called b → j ≡ l

abbrev pub field_text : FieldDescriptorProto → Text
field_text f = text_of f.name

abbrev pub value_text : EnumValueDescriptorProto → Text
value_text v = text_of v.name

abbrev pub IsApart : Declaration → Type 0
IsApart d = elim d.body [
  | of_message own ↦ Apart field_text own.field
  | of_enum e ↦ Apart value_text e.value.items
  | _ ↦ Unit {0}
]

abbrev AreApart : List Declaration → Type 0
AreApart ds = AllByRecursion IsApart ds

join_apart : (a b : List Declaration) → AreApart a → AreApart b → AreApart (a ++ b)
join_apart a b h k = all_behind IsApart a b h k

each_plain : {A : Type 0} (one : ℕ → A → List Declaration) → ((k : ℕ) (x : A) → AreApart (one k x))
    → (k : ℕ) (xs : List A) → AreApart (each one k xs)
each_plain one h k [] = tt
each_plain one h k (x ∷ xs) =
    join_apart (one k x) (each one (k + 1) xs) (h k x) (each_plain one h (k + 1) xs)

services_apart : (scope : Text) (file n : ℕ) (ss : List ServiceDescriptorProto)
    → AreApart (each (one_service scope file n) 0 ss)
services_apart scope file n ss =
    each_plain (one_service scope file n) (λ k s. (
      tt,
      each_plain (one_method (entry [] (pos 6) k) (join scope (text_of s.name)) file (n + k))
          (λ i x. (tt, tt)) 0 s.method.items,
    )) 0 ss

module _ (ds : List Declaration)
    (complete : (x : Declaration) → Among x ds → IsCompleteBody (seen_body x.body)) where
  -- they are some of the declarations, and give no name twice
  record Spread (sub : List Declaration) : Type 0 where
    here : (x : Declaration) → Among x sub → Among x ds
    once : (n : Text) → sum_by (weight n) sub ≤ 1

  spread_first : (a b : List Declaration) → Spread (a ++ b) → Spread a
  spread_first a b h = record {
    here = λ x k. h.here x (in_first x a b k);
    once = λ n.
        let sum = sum_by-append (weight n) a b in
        let le = h.once n in omega (arith, sum, le);
  }

  spread_second : (a b : List Declaration) → Spread (a ++ b) → Spread b
  spread_second a b h = record {
    here = λ x k. h.here x (in_second x a b k);
    once = λ n.
        let sum = sum_by-append (weight n) a b in
        let le = h.once n in omega (arith, sum, le);
  }

  spread_behind : (d : Declaration) (a : List Declaration) → Spread (d ∷ a) → Spread a
  spread_behind d a h = record {
    here = λ x k. h.here x (inr k);
    once = λ n.
        let sum = sum_by-cons (weight n) d a in
        let le = h.once n in omega (arith, sum, le);
  }

  -- a declaration gives its name
  heavy : (d : Declaration) → is_some (seen_body d.body) ≡ true → Among d ds
      → 1 ≤ sum_by (weight d.name) (d ∷ [])
  heavy d seen h =
      let n = d.name in
      let e = definition_of d in
      let one = gives_name d seen (complete d h) in
      let here : other_at n (n, e) ≡ 1 =
      ap (λ b. cond b (other_in (Some e)) 0) (bytes_refl n) ∙ ap (λ b. one_if (not b)) one.plain in
      let whole : weight n d ≡ sum_by (other_at n) ((n, e) ∷ []) = ap (others n) one.one in
      let inner = sum_by-cons (other_at n) (n, e) [] in
      let outer = sum_by-cons (weight n) d [] in
      omega (arith, here, whole, inner, outer)

  module _ {A : Type 0} (one : ℕ → A → List Declaration) (called : A → Text)
      (heavy_one : (k : ℕ) (a : A) → Spread (one k a) → 1 ≤ sum_by (weight (called a)) (one k a))
    where
      there : (k : ℕ) (xs : List A) (j : ℕ) (a : A) → Spread (each one k xs)
          → slice_get xs j ≡ Some a → 1 ≤ sum_by (weight (called a)) (each one k xs)
      there k [] j a h at = absurd (cc at)
      there k (x ∷ xs) zero a h at =
          let same : x ≡ a = cc at in
          let rest = each one (k + 1) xs in
          let some : 1 ≤ sum_by (weight (called a)) (one k x) =
          subst (λ (z : A). 1 ≤ sum_by (weight (called z)) (one k x)) same
          (heavy_one k x (spread_first (one k x) rest h)) in
          let sum = sum_by-append (weight (called a)) (one k x) rest in
          omega (arith, some, sum)
      there k (x ∷ xs) (suc j) a h at =
          let rest = each one (k + 1) xs in
          let some = there (k + 1) xs j a (spread_second (one k x) rest h) at in
          let sum = sum_by-append (weight (called a)) (one k x) rest in
          omega (arith, some, sum)

      never : (k : ℕ) (xs : List A) (j l : ℕ) (a b : A) → Spread (each one k xs)
          → slice_get xs j ≡ Some a → slice_get xs l ≡ Some b → called a ≡ called b → j < l → ⊥
      never k [] j l a b h e f same lt = cc e
      never k (x ∷ xs) zero (suc l) a b h e f same lt =
          let own : x ≡ a = cc e in
          let rest = each one (k + 1) xs in
          let some : 1 ≤ sum_by (weight (called a)) (one k x) =
          subst (λ (z : A). 1 ≤ sum_by (weight (called z)) (one k x)) own
          (heavy_one k x (spread_first (one k x) rest h)) in
          let more : 1 ≤ sum_by (weight (called a)) rest =
          subst (λ n. 1 ≤ sum_by (weight n) rest) (sym same)
          (there (k + 1) xs l b (spread_second (one k x) rest h) f) in
          let sum = sum_by-append (weight (called a)) (one k x) rest in
          let le : sum_by (weight (called a)) (one k x ++ rest) ≤ 1 = h.once (called a) in
          omega (arith, some, more, sum, le)
      never k (x ∷ xs) (suc j) (suc l) a b h e f same lt =
          never (k + 1) xs j l a b (spread_second (one k x) (each one (k + 1) xs) h) e f same
          (omega (arith, lt))
      never k (x ∷ xs) j zero a b h e f same lt = omega (arith, lt)

      each_apart : (k : ℕ) (xs : List A) → Spread (each one k xs) → Apart called xs
      each_apart k xs h j l a b e f same = by (cases_lt j l) (cases_lt l j) where
        by : (j < l) ⊎ (l ≤ j) → (l < j) ⊎ (j ≤ l) → j ≡ l
        by (inl lt) other = absurd (never k xs j l a b h e f same lt)
        by (inr le) (inl lt) = absurd (never k xs l j b a h f e (sym same) lt)
        by (inr le) (inr ge) = omega (arith, le, ge)

  fields_apart : (path : List ℤ) (scope : Text) (file parent : ℕ) (fs : List FieldDescriptorProto)
      → Spread (each (one_field path scope file parent) 0 fs) → Apart field_text fs
  fields_apart path scope file parent fs h j l a b e f same =
      each_apart (one_field path scope file parent) (λ (f : FieldDescriptorProto).
      join scope (text_of f.name)) (λ k f s.
      heavy (field_declaration (entry path (pos 2) k) (join scope (text_of f.name)) file parent k f)
      refl (s.here _ (inl refl))) 0 fs h j l a b e f (ap (join scope) same)

  values_apart : (path : List ℤ) (scope : Text) (file parent : ℕ)
      (vs : List EnumValueDescriptorProto) → Spread (each (one_value path scope file parent) 0 vs)
      → Apart value_text vs
  values_apart path scope file parent vs h j l a b e f same =
      each_apart (one_value path scope file parent) (λ (v : EnumValueDescriptorProto).
      join scope (text_of v.name)) (λ k v s.
      heavy (enum_value_declaration (entry path (pos 2) k) (join scope (text_of v.name)) file parent
      k v) refl (s.here _ (inl refl))) 0 vs h j l a b e f (ap (join scope) same)

  enums_apart : (path : List ℤ) (tag : ℤ) (scope : Text) (file : ℕ) (parent : Option ℕ) (n k : ℕ)
      (es : List EnumDescriptorProto) → Spread (each (one_enum path tag scope file parent n) k es)
      → AreApart (each (one_enum path tag scope file parent n) k es)
  enums_apart path tag scope file parent n k [] h = tt
  enums_apart path tag scope file parent n k (e ∷ es) h =
      let here = one_enum path tag scope file parent n k e in
      let rest = each (one_enum path tag scope file parent n) (k + 1) es in
      let values = each (one_value (entry path tag k) scope file (n + k)) 0 e.value.items in
      let own = spread_behind _ values (spread_first here rest h) in
      join_apart here rest (
        values_apart (entry path tag k) scope file (n + k) e.value.items own,
        each_plain (one_value (entry path tag k) scope file (n + k)) (λ i x. (tt, tt)) 0
            e.value.items,
      ) (enums_apart path tag scope file parent n (k + 1) es (spread_second here rest h))

  mutual
    tree_apart : (path : List ℤ) (scope : Text) (file : ℕ) (parent : Option ℕ) (o : Offsets)
        (m : Message) → Spread (tree_declarations path scope file parent o m)
        → AreApart (tree_declarations path scope file parent o m)
    tree_apart path scope file parent o (message own nested) h =
        let n = join scope (text_of own.name) in
        let up = Some o.messages in
        let behind = past_trees (past_message o) nested in
        let fields = each (one_field path n file o.messages) 0 own.field in
        let inner = trees_declarations path (pos 3) n file up 0 (past_message o) nested in
        let enums = each (one_enum path (pos 4) n file up behind.enums) 0 own.enum_type in
        let extensions = each (one_extension path (pos 6) n file up behind.extensions) 0
        own.extension in
        let oneofs = each (one_oneof path n file o.messages) 0 own.oneof_decl in
        let last = extensions ++ oneofs in
        let all = spread_behind _ (fields ++ (inner ++ (enums ++ last))) h in
        let later = spread_second fields (inner ++ (enums ++ last)) all in
        let types = spread_second inner (enums ++ last) later in (
          fields_apart path n file o.messages own.field
              (spread_first fields (inner ++ (enums ++ last)) all),
          join_apart fields (inner ++ (enums ++ last))
              (each_plain (one_field path n file o.messages) (λ k x. (tt, tt)) 0 own.field)
              (join_apart inner (enums ++ last)
              (trees_apart path (pos 3) n file up 0 (past_message o) nested
              (spread_first inner (enums ++ last) later))
              (join_apart enums last
              (enums_apart path (pos 4) n file up behind.enums 0 own.enum_type
              (spread_first enums last types))
              (join_apart extensions oneofs
              (each_plain (one_extension path (pos 6) n file up behind.extensions)
              (λ k x. (tt, tt)) 0 own.extension)
              (each_plain (one_oneof path n file o.messages) (λ k x. (tt, tt)) 0
              own.oneof_decl)))),
        )

    trees_apart : (path : List ℤ) (tag : ℤ) (scope : Text) (file : ℕ) (parent : Option ℕ) (k : ℕ)
        (o : Offsets) (ms : Messages)
        → Spread (trees_declarations path tag scope file parent k o ms)
        → AreApart (trees_declarations path tag scope file parent k o ms)
    trees_apart path tag scope file parent k o no_messages h = tt
    trees_apart path tag scope file parent k o (more_messages m ms) h =
        let xs = tree_declarations (entry path tag k) scope file parent o m in
        let ys = trees_declarations path tag scope file parent (k + 1) (past_tree o m) ms in
        join_apart xs ys
        (tree_apart (entry path tag k) scope file parent o m (spread_first xs ys h))
        (trees_apart path tag scope file parent (k + 1) (past_tree o m) ms (spread_second xs ys h))

  file_apart : (o : Offsets) (i : ℕ) (f : FileDescriptorProto) → Spread (file_declarations o i f)
      → AreApart (file_declarations o i f)
  file_apart o i f h =
      let n = text_of f.package in
      let past = past_trees o (trees_of f) in
      let inner = trees_declarations [] (pos 4) n i None 0 o (trees_of f) in
      let enums = each (one_enum [] (pos 5) n i None past.enums) 0 f.enum_type.items in
      let services = each (one_service n i o.services) 0 f.service.items in
      let extensions = each (one_extension [] (pos 7) n i None past.extensions) 0 f.extension.items
      in
      let last = services ++ extensions in
      let all = spread_behind (file_declaration [] i f) (inner ++ (enums ++ last)) h in (
        tt,
        join_apart inner (enums ++ last)
            (trees_apart [] (pos 4) n i None 0 o (trees_of f)
            (spread_first inner (enums ++ last) all))
            (join_apart enums last
            (enums_apart [] (pos 5) n i None past.enums 0 f.enum_type.items
            (spread_first enums last (spread_second inner (enums ++ last) all)))
            (join_apart services extensions (services_apart n i o.services f.service.items)
            (each_plain (one_extension [] (pos 7) n i None past.extensions) (λ k x. (tt, tt)) 0
            f.extension.items))),
      )

  files_apart : (o : Offsets) (i : ℕ) (fs : List FileDescriptorProto)
      → Spread (batch_declarations o i fs) → AreApart (batch_declarations o i fs)
  files_apart o i [] h = tt
  files_apart o i (f ∷ fs) h =
      let xs = file_declarations o i f in
      let ys = batch_declarations (past_file o f) (i + 1) fs in
      join_apart xs ys (file_apart o i f (spread_first xs ys h))
      (files_apart (past_file o f) (i + 1) fs (spread_second xs ys h))

-- so in each declaration of a batch
pub batch_apart : (o : Offsets) (i : ℕ) (fs : List FileDescriptorProto)
    → ((x : Declaration) → Among x (batch_declarations o i fs)
    → IsCompleteBody (seen_body x.body))
    → ((n : Text) → sum_by (weight n) (batch_declarations o i fs) ≤ 1)
    → (d : Declaration) → Among d (batch_declarations o i fs) → IsApart d
batch_apart o i fs complete once d h =
    let ds = batch_declarations o i fs in
    of_all IsApart d ds
    (files_apart ds complete o i fs (record { here = λ x k. k; once = once })) h
