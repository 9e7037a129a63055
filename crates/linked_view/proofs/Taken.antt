-- What is written into records, one name after another, is what each reference means.
use Rattle.std.proofs.Common.{◌≡◌, ◌∙◌, ℤ, List, [], ◌∷◌, ◌++◌, Option, Some, None, map, append_assoc, ap, sym, refl}
use Rattle.std.specs.List.{flat_map}
use Rattle.std.proofs.lemmas.List.{map-append, append-nil}
use Rattle.std.proofs.lemmas.List.Concat.{flat_map-cons}
use Rattle.std.proofs.lemmas.List.Folds.{flat_map-map}
use Rattle.std.proofs.lemmas.Grind.{flat_map-append}
use Rattle.descriptor_records.specs.Content.{Text, FieldContent, OneofContent, EnumContent, MethodContent, ServiceContent, MessageContent, message, MessageContents, no_messages, more_messages, FileContent}
use Rattle.reflect_scope.specs.declared.definition.DefinitionKind.{DefinitionKind}
use Rattle.reflect_scope.specs.declared.definition.DefinitionKind.TheVariants as kind
use Rattle.reflect_names.specs.References as pass
use Rattle.reflect_index.specs.Rewriting.{Rewrites, write_name, filled, write_type, write_extension, write_each, write_message, write_messages, write_method, write_service, write_file}
use Rattle.schema_view.specs.Files.{text_of, join, package_of}
use Rattle.schema_view.specs.Declarations.{Declaration, one_field, one_oneof, one_extension, one_value, one_enum, one_method, one_service, in_message, in_messages}
use Rattle.schema_view.specs.References.{a_type, Reference, to_message, to_type, references_of, references, Target, fill_type, rename_message_type, rename_type, rename_field, rename_extension, rename_method, rename_service, rename_message, rename_messages, rename_references}
use Rattle.linked_view.specs.Taken.{type_of, names_of, in_order}

filled_is : (k : DefinitionKind) → filled None k ≡ Some (type_of k)
filled_is kind.Package = refl
filled_is k = refl

-- references of several declarations
abbrev refs_in : List Declaration → List Reference
refs_in ds = flat_map references_of ds

none_mapped : {A : Type 0} (h : A → Declaration) → ((x : A) → references_of (h x) ≡ []) → (xs : List A)
    → refs_in (map h xs) ≡ []
none_mapped h e [] = refl
none_mapped h e (x ∷ xs) =
    flat_map-cons references_of (h x) (map h xs) ∙ ap (λ rs. rs ++ refs_in (map h xs)) (e x)
    ∙ none_mapped h e xs

flat_flat : {A : Type 0} (g : A → List Declaration) (xs : List A)
    → refs_in (flat_map g xs) ≡ flat_map (λ x. refs_in (g x)) xs
flat_flat g [] = refl
flat_flat g (x ∷ xs) =
    ap refs_in (flat_map-cons g x xs) ∙ flat_map-append references_of (g x) (flat_map g xs)
    ∙ ap (λ rs. refs_in (g x) ++ rs) (flat_flat g xs) ∙ sym (flat_map-cons (λ y. refs_in (g y)) x xs)

flat_none : {A : Type 0} (g : A → List Reference) → ((x : A) → g x ≡ []) → (xs : List A)
    → flat_map g xs ≡ []
flat_none g e [] = refl
flat_none g e (x ∷ xs) =
    flat_map-cons g x xs ∙ ap (λ rs. rs ++ flat_map g xs) (e x) ∙ flat_none g e xs

-- enums refer to nothing
enum_none : (scope : Text) (e : EnumContent) → refs_in (one_enum scope e) ≡ []
enum_none scope e = none_mapped (one_value scope) (λ v. refl) e.value

enums_none : (scope : Text) (es : List EnumContent) → refs_in (flat_map (one_enum scope) es) ≡ []
enums_none scope es = flat_flat (one_enum scope) es
    ∙ flat_none (λ e. refs_in (one_enum scope e)) (enum_none scope) es

module _ (targets : Reference → pass.Target) where
  abbrev names : Reference → Target
  names = names_of targets

  -- one after another
  each_written : {A : Type 0} (one : Rewrites A) (refs : A → List Reference) (written : A → A)
      → ((x : A) (rest : List pass.Target)
      → one (map targets (refs x) ++ rest) x ≡ (written x, rest))
      → (xs : List A) (rest : List pass.Target)
      → write_each one (map targets (flat_map refs xs) ++ rest) xs ≡ (map written xs, rest)
  each_written one refs written h [] rest = refl
  each_written one refs written h (x ∷ xs) rest =
      let later = map targets (flat_map refs xs) ++ rest in
      let split : map targets (flat_map refs (x ∷ xs)) ++ rest ≡ map targets (refs x) ++ later =
      ap (λ rs. map targets rs ++ rest) (flat_map-cons refs x xs)
      ∙ ap (λ ts. ts ++ rest) (map-append targets (refs x) (flat_map refs xs))
      ∙ append_assoc (map targets (refs x)) (map targets (flat_map refs xs)) rest in
      ap (λ ts. write_each one ts (x ∷ xs)) split
      ∙ ap (λ (p : _ × List pass.Target).
      (p.0 ∷ (write_each one p.1 xs).0, (write_each one p.1 xs).1)) (h x later)
      ∙ ap (λ (p : List _ × List pass.Target). (written x ∷ p.0, p.1))
      (each_written one refs written h xs rest)

  name_written : (n : Text) (o : Option Text) (rest : List pass.Target)
      → write_name (map targets (to_message n o) ++ rest) o
      ≡ (rename_message_type names n o, rest)
  name_written n None rest = refl
  name_written n (Some s) rest = refl

  type_written : (n : Text) (t : Option ℤ) (o : Option Text) (f : FieldContent)
      (rest : List pass.Target)
      → write_type (map targets (to_type n t o) ++ rest) (record f { field_type = t; type_name = o })
      ≡ (record f { field_type = fill_type names n t o; type_name = rename_type names n t o }, rest)
  type_written n None None f rest = refl
  type_written n (Some z) None f rest = refl
  type_written n (Some z) (Some s) f rest = refl
  type_written n None (Some s) f rest =
      let r : Reference = record { want = a_type None; scope = n; name = s } in
      ap (λ t. (record f { field_type = t; type_name = Some (targets r).0 }, rest))
      (filled_is (targets r).1.kind)

  field_written : (scope : Text) (f : FieldContent) (rest : List pass.Target)
      → write_type (map targets (references_of (one_field scope f)) ++ rest) f
      ≡ (rename_field names scope f, rest)
  field_written scope f rest = type_written (join scope (text_of f.name)) f.field_type f.type_name f rest

  extension_written : (scope : Text) (x : FieldContent) (rest : List pass.Target)
      → write_extension (map targets (references_of (one_extension scope x)) ++ rest) x
      ≡ (rename_extension names scope x, rest)
  extension_written scope x rest =
      let n = join scope (text_of x.name) in
      let first = to_message n x.extendee in
      let second = to_type n x.field_type x.type_name in
      let later = map targets second ++ rest in
      let split : map targets (first ++ second) ++ rest ≡ map targets first ++ later =
      ap (λ ts. ts ++ rest) (map-append targets first second)
      ∙ append_assoc (map targets first) (map targets second) rest in
      ap (λ ts. write_extension ts x) split
      ∙ ap (λ (p : Option Text × List pass.Target). write_type p.1 (record x { extendee = p.0 }))
      (name_written n x.extendee later)
      ∙ type_written n x.field_type x.type_name
      (record x { extendee = rename_message_type names n x.extendee }) rest

  method_written : (scope : Text) (m : MethodContent) (rest : List pass.Target)
      → write_method (map targets (references_of (one_method scope m)) ++ rest) m
      ≡ (rename_method names scope m, rest)
  method_written scope m rest =
      let n = join scope (text_of m.name) in
      let first = to_message n m.input_type in
      let second = to_message n m.output_type in
      let later = map targets second ++ rest in
      let split : map targets (first ++ second) ++ rest ≡ map targets first ++ later =
      ap (λ ts. ts ++ rest) (map-append targets first second)
      ∙ append_assoc (map targets first) (map targets second) rest in
      ap (λ ts. write_method ts m) split
      ∙ ap (λ (p : Option Text × List pass.Target). (
        record m { input_type = p.0; output_type = (write_name p.1 m.output_type).0 },
        (write_name p.1 m.output_type).1,
      )) (name_written n m.input_type later)
      ∙ ap (λ (p : Option Text × List pass.Target). (
        record m { input_type = rename_message_type names n m.input_type; output_type = p.0 },
        p.1,
      )) (name_written n m.output_type rest)

  service_refs : (scope : Text) (s : ServiceContent) → refs_in (one_service scope s)
      ≡ flat_map (λ m. references_of (one_method (join scope (text_of s.name)) m)) s.method
  service_refs scope s = flat_map-map references_of (one_method (join scope (text_of s.name))) s.method

  service_written : (scope : Text) (s : ServiceContent) (rest : List pass.Target)
      → write_service (map targets (refs_in (one_service scope s)) ++ rest) s
      ≡ (rename_service names scope s, rest)
  service_written scope s rest =
      let n = join scope (text_of s.name) in
      ap (λ rs. write_service (map targets rs ++ rest) s) (service_refs scope s)
      ∙ ap (λ (p : List MethodContent × List pass.Target). (record s { method = p.0 }, p.1))
      (each_written write_method (λ m. references_of (one_method n m)) (rename_method names n)
      (method_written n) s.method rest)

  -- what a message refers to
  abbrev parts : Text → List FieldContent → MessageContents → List FieldContent → List Reference
  parts n fs nested xs =
      flat_map (λ f. references_of (one_field n f)) fs
      ++ (refs_in (in_messages n nested) ++ flat_map (λ x. references_of (one_extension n x)) xs)

  parts_are : (n : Text) (fs : List FieldContent) (nested : MessageContents) (es : List EnumContent)
      (xs : List FieldContent) (os : List OneofContent)
      → refs_in (map (one_field n) fs ++ (in_messages n nested ++ (flat_map (one_enum n) es
      ++ (map (one_extension n) xs ++ map (one_oneof n) os))))
      ≡ parts n fs nested xs
  parts_are n fs nested es xs os =
      let oneofs = map (one_oneof n) os in
      let others = map (one_extension n) xs in
      let enums = flat_map (one_enum n) es in
      let inner = in_messages n nested in
      let behind : refs_in (others ++ oneofs) ≡ flat_map (λ x. references_of (one_extension n x)) xs =
      flat_map-append references_of others oneofs
      ∙ ap (λ rs. refs_in others ++ rs) (none_mapped (one_oneof n) (λ o. refl) os)
      ∙ append-nil (refs_in others)
      ∙ flat_map-map references_of (one_extension n) xs in
      let tail : refs_in (enums ++ (others ++ oneofs))
      ≡ flat_map (λ x. references_of (one_extension n x)) xs =
      flat_map-append references_of enums (others ++ oneofs)
      ∙ ap (λ rs. rs ++ refs_in (others ++ oneofs)) (enums_none n es) ∙ behind in
      flat_map-append references_of (map (one_field n) fs) (inner ++ (enums ++ (others ++ oneofs)))
      ∙ ap (λ rs. rs ++ refs_in (inner ++ (enums ++ (others ++ oneofs))))
      (flat_map-map references_of (one_field n) fs)
      ∙ ap (λ rs. flat_map (λ f. references_of (one_field n f)) fs ++ rs)
      (flat_map-append references_of inner (enums ++ (others ++ oneofs))
      ∙ ap (λ rs. refs_in inner ++ rs) tail)

  mutual
    message_written : (scope : Text) (m : MessageContent) (rest : List pass.Target)
        → write_message (map targets (refs_in (in_message scope m)) ++ rest) m
        ≡ (rename_message names scope m, rest)
    message_written scope (message name fs xs nested es rs os o rr rn) rest =
        let n = join scope (text_of name) in
        let m = message name fs xs nested es rs os o rr rn in
        let first = flat_map (λ f. references_of (one_field n f)) fs in
        let second = refs_in (in_messages n nested) in
        let third = flat_map (λ x. references_of (one_extension n x)) xs in
        let last = map targets third ++ rest in
        let later = map targets second ++ last in
        let split : map targets (refs_in (in_message scope m)) ++ rest ≡ map targets first ++ later =
        ap (λ ts. map targets ts ++ rest) (parts_are n fs nested es xs os)
        ∙ ap (λ ts. ts ++ rest) (map-append targets first (second ++ third)
        ∙ ap (λ ts. map targets first ++ ts) (map-append targets second third))
        ∙ append_assoc (map targets first) (map targets second ++ map targets third) rest
        ∙ ap (λ ts. map targets first ++ ts) (append_assoc (map targets second) (map targets third) rest) in
        ap (λ ts. write_message ts m) split
        ∙ ap (λ (p : List FieldContent × List pass.Target). (
          message name p.0 (write_each write_extension (write_messages p.1 nested).1 xs).0
              (write_messages p.1 nested).0 es rs os o rr rn,
          (write_each write_extension (write_messages p.1 nested).1 xs).1,
        )) (each_written write_type (λ f. references_of (one_field n f)) (rename_field names n)
        (field_written n) fs later)
        ∙ ap (λ (p : MessageContents × List pass.Target). (
          message name (map (rename_field names n) fs) (write_each write_extension p.1 xs).0 p.0 es rs os o
              rr rn,
          (write_each write_extension p.1 xs).1,
        )) (messages_written n nested last)
        ∙ ap (λ (p : List FieldContent × List pass.Target). (
          message name (map (rename_field names n) fs) p.0 (rename_messages names n nested) es rs os o rr
              rn,
          p.1,
        )) (each_written write_extension (λ x. references_of (one_extension n x))
        (rename_extension names n) (extension_written n) xs rest)

    messages_written : (scope : Text) (ms : MessageContents) (rest : List pass.Target)
        → write_messages (map targets (refs_in (in_messages scope ms)) ++ rest) ms
        ≡ (rename_messages names scope ms, rest)
    messages_written scope no_messages rest = refl
    messages_written scope (more_messages m ms) rest =
        let first = refs_in (in_message scope m) in
        let second = refs_in (in_messages scope ms) in
        let later = map targets second ++ rest in
        let split : map targets (refs_in (in_messages scope (more_messages m ms))) ++ rest
        ≡ map targets first ++ later =
        ap (λ rs. map targets rs ++ rest)
        (flat_map-append references_of (in_message scope m) (in_messages scope ms))
        ∙ ap (λ ts. ts ++ rest) (map-append targets first second)
        ∙ append_assoc (map targets first) (map targets second) rest in
        ap (λ ts. write_messages ts (more_messages m ms)) split
        ∙ ap (λ (p : MessageContent × List pass.Target).
        (more_messages p.0 (write_messages p.1 ms).0, (write_messages p.1 ms).1))
        (message_written scope m later)
        ∙ ap (λ (p : MessageContents × List pass.Target).
        (more_messages (rename_message names scope m) p.0, p.1)) (messages_written scope ms rest)

  file_written : (f : FileContent) (rest : List pass.Target)
      → write_file (in_order targets f ++ rest) f ≡ (rename_references names f, rest)
  file_written f rest =
      let n = package_of f in
      let messages = flat_map (in_message n) f.message_type in
      let enums = flat_map (one_enum n) f.enum_type in
      let services = flat_map (one_service n) f.service in
      let others = map (one_extension n) f.extension in
      let first = flat_map (λ m. refs_in (in_message n m)) f.message_type in
      let second = flat_map (λ s. refs_in (one_service n s)) f.service in
      let third = flat_map (λ x. references_of (one_extension n x)) f.extension in
      let last = map targets third ++ rest in
      let later = map targets second ++ last in
      let whole : references f ≡ first ++ (second ++ third) =
      flat_map-append references_of messages (enums ++ (services ++ others))
      ∙ ap (λ rs. rs ++ refs_in (enums ++ (services ++ others))) (flat_flat (in_message n) f.message_type)
      ∙ ap (λ rs. first ++ rs) (flat_map-append references_of enums (services ++ others)
      ∙ ap (λ rs. rs ++ refs_in (services ++ others)) (enums_none n f.enum_type)
      ∙ flat_map-append references_of services others
      ∙ ap (λ rs. rs ++ refs_in others) (flat_flat (one_service n) f.service)
      ∙ ap (λ rs. second ++ rs) (flat_map-map references_of (one_extension n) f.extension)) in
      let split : in_order targets f ++ rest ≡ map targets first ++ later =
      ap (λ rs. map targets rs ++ rest) whole
      ∙ ap (λ ts. ts ++ rest) (map-append targets first (second ++ third)
      ∙ ap (λ ts. map targets first ++ ts) (map-append targets second third))
      ∙ append_assoc (map targets first) (map targets second ++ map targets third) rest
      ∙ ap (λ ts. map targets first ++ ts) (append_assoc (map targets second) (map targets third) rest) in
      ap (λ ts. write_file ts f) split
      ∙ ap (λ (p : List MessageContent × List pass.Target). (
        record f {
          message_type = p.0;
          service = (write_each write_service p.1 f.service).0;
          extension = (write_each write_extension (write_each write_service p.1 f.service).1 f.extension).0;
        },
        (write_each write_extension (write_each write_service p.1 f.service).1 f.extension).1,
      )) (each_written write_message (λ m. refs_in (in_message n m)) (rename_message names n)
      (message_written n) f.message_type later)
      ∙ ap (λ (p : List ServiceContent × List pass.Target). (
        record f {
          message_type = map (rename_message names n) f.message_type;
          service = p.0;
          extension = (write_each write_extension p.1 f.extension).0;
        },
        (write_each write_extension p.1 f.extension).1,
      )) (each_written write_service (λ s. refs_in (one_service n s)) (rename_service names n)
      (service_written n) f.service last)
      ∙ ap (λ (p : List FieldContent × List pass.Target). (
        record f {
          message_type = map (rename_message names n) f.message_type;
          service = map (rename_service names n) f.service;
          extension = p.0;
        },
        p.1,
      )) (each_written write_extension (λ x. references_of (one_extension n x))
      (rename_extension names n) (extension_written n) f.extension rest)

-- the files of a batch, each with what its own references mean
pub files_written : (targets : FileContent → Reference → pass.Target) (fs : List FileContent)
    → write_each write_file (flat_map (λ f. in_order (targets f) f) fs) fs
    ≡ (map (λ f. rename_references (names_of (targets f)) f) fs, [])
files_written targets [] = refl
files_written targets (f ∷ fs) =
    ap (λ ts. write_each write_file ts (f ∷ fs)) (flat_map-cons (λ g. in_order (targets g) g) f fs)
    ∙ ap (λ (p : FileContent × List pass.Target).
    (p.0 ∷ (write_each write_file p.1 fs).0, (write_each write_file p.1 fs).1))
    (file_written (targets f) f (flat_map (λ g. in_order (targets g) g) fs))
    ∙ ap (λ (p : List FileContent × List pass.Target).
    (rename_references (names_of (targets f)) f ∷ p.0, p.1)) (files_written targets fs)
