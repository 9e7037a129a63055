-- Other names in references: what a file declares is the same but for them.
use Rattle.std.proofs.Common.{◌≡◌, ℤ, List, [], ◌∷◌, ◌++◌, map, length, Option, Some, None, refl, sym, ap, ◌∙◌}
use Rattle.std.specs.List.{flat_map}
use Rattle.std.proofs.lemmas.List.{map-append}
use Rattle.std.proofs.lemmas.List.Concat.{flat_map-cons}
use Rattle.descriptor_records.specs.Content.{Text, FieldContent, OneofContent, EnumValueContent, EnumContent, ServiceContent, MessageContent, message, MessageContents, no_messages, more_messages, FileContent}
use Rattle.schema_view.specs.Files.{text_of, join, imports_of, file_name, package_of}
use Rattle.schema_view.specs.Scalars.{scalar_type}
use Rattle.schema_view.specs.Declarations.{facts_of, service_facts, Body, of_message, of_field, of_oneof, of_enum, of_value, of_service, of_method, of_extension, Declaration, one_field, one_oneof, one_extension, one_value, one_enum, one_method, one_service, in_message, in_messages, declarations}
use Rattle.schema_view.specs.References.{Want, a_message, a_type, Reference, to_message, to_type, references_of, references, Target, rename_message_type, rename_type, fill_type, rename_field, rename_extension, rename_method, rename_service, rename_message, rename_messages, rename_references}
use Rattle.schema_view.specs.Outlines.{sort_of, head_of, outline_of}

pub map_same : {X Y Z : Type 0} (g : Y → Z) (f : X → Y) (h : X → Z) → ((x : X) → g (f x) ≡ h x) → (xs : List X) → map g (map f xs) ≡ map h xs
map_same g f h e [] = refl
map_same g f h e (x ∷ xs) = ap (λ z. z ∷ map g (map f xs)) (e x) ∙ ap (λ zs. h x ∷ zs) (map_same g f h e xs)

map_maps : {X Y Z A : Type 0} (g : Y → Z) (f : X → Y) (k : A → Z) (h : X → A) → ((x : X) → g (f x) ≡ k (h x)) → (xs : List X) → map g (map f xs) ≡ map k (map h xs)
map_maps g f k h e [] = refl
map_maps g f k h e (x ∷ xs) = ap (λ z. z ∷ map g (map f xs)) (e x) ∙ ap (λ zs. k (h x) ∷ zs) (map_maps g f k h e xs)

flat_maps : {X Y : Type 0} (g : X → List Y) (f : X → X) (k : Y → Y) → ((x : X) → g (f x) ≡ map k (g x)) → (xs : List X) → flat_map g (map f xs) ≡ map k (flat_map g xs)
flat_maps g f k e [] = refl
flat_maps g f k e (x ∷ xs) =
    flat_map-cons g (f x) (map f xs)
    ∙ ap (λ ys. ys ++ flat_map g (map f xs)) (e x)
    ∙ ap (λ ys. map k (g x) ++ ys) (flat_maps g f k e xs)
    ∙ sym (map-append k (g x) (flat_map g xs))
    ∙ ap (map k) (sym (flat_map-cons g x xs))

both : {X : Type 0} (a b c d : List X) → a ≡ c → b ≡ d → a ++ b ≡ c ++ d
both a b c d e f = ap (λ xs. xs ++ b) e ∙ ap (λ xs. c ++ xs) f

module _ (names : Reference → Target) where
  abbrev pub rename_body : Text → Body → Body
  rename_body n (of_message m) = of_message m
  rename_body n (of_field f) = of_field (record f { field_type = fill_type names n f.field_type f.type_name; type_name = rename_type names n f.field_type f.type_name })
  rename_body n (of_oneof o) = of_oneof o
  rename_body n (of_enum e) = of_enum e
  rename_body n (of_value v) = of_value v
  rename_body n (of_service s) = of_service s
  rename_body n (of_method m) = of_method (record m { input_type = rename_message_type names n m.input_type; output_type = rename_message_type names n m.output_type })
  rename_body n (of_extension x) =
      of_extension (record x { extendee = rename_message_type names n x.extendee; field_type = fill_type names n x.field_type x.type_name; type_name = rename_type names n x.field_type x.type_name })

  abbrev pub renamed : Declaration → Declaration
  renamed d = record { name = d.name; body = rename_body d.name d.body }

  values_stay : (scope : Text) (vs : List EnumValueContent) → map renamed (map (one_value scope) vs) ≡ map (one_value scope) vs
  values_stay scope vs = map_same renamed (one_value scope) (one_value scope) (λ v. refl) vs

  enum_stays : (scope : Text) (e : EnumContent) → map renamed (one_enum scope e) ≡ one_enum scope e
  enum_stays scope e = ap (λ ds. record { name = join scope (text_of e.name); body = of_enum e } ∷ ds) (values_stay scope e.value)

  enums_stay : (scope : Text) (es : List EnumContent) → flat_map (one_enum scope) es ≡ map renamed (flat_map (one_enum scope) es)
  enums_stay scope [] = refl
  enums_stay scope (e ∷ es) =
      flat_map-cons (one_enum scope) e es
      ∙ both (one_enum scope e) (flat_map (one_enum scope) es) (map renamed (one_enum scope e)) (map renamed (flat_map (one_enum scope) es)) (sym (enum_stays scope e)) (enums_stay scope es)
      ∙ sym (map-append renamed (one_enum scope e) (flat_map (one_enum scope) es))
      ∙ ap (map renamed) (sym (flat_map-cons (one_enum scope) e es))

  fields_renamed : (n : Text) (fs : List FieldContent) → map (one_field n) (map (rename_field names n) fs) ≡ map renamed (map (one_field n) fs)
  fields_renamed n fs = map_maps (one_field n) (rename_field names n) renamed (one_field n) (λ f. refl) fs

  extensions_renamed : (n : Text) (xs : List FieldContent) → map (one_extension n) (map (rename_extension names n) xs) ≡ map renamed (map (one_extension n) xs)
  extensions_renamed n xs = map_maps (one_extension n) (rename_extension names n) renamed (one_extension n) (λ x. refl) xs

  oneofs_stay : (n : Text) (os : List OneofContent) → map (one_oneof n) os ≡ map renamed (map (one_oneof n) os)
  oneofs_stay n os = sym (map_same renamed (one_oneof n) (one_oneof n) (λ o. refl) os)

  service_renamed : (scope : Text) (s : ServiceContent) → one_service scope (rename_service names scope s) ≡ map renamed (one_service scope s)
  service_renamed scope s =
      ap (λ ds. record { name = join scope (text_of s.name); body = of_service (service_facts s) } ∷ ds)
      (map_maps (one_method (join scope (text_of s.name))) (rename_method names (join scope (text_of s.name))) renamed (one_method (join scope (text_of s.name))) (λ m. refl) s.method)

  scalar_stays : (n : Text) (t : Option ℤ) (name : Option Text) → scalar_type (fill_type names n t name) (rename_type names n t name) ≡ scalar_type t name
  scalar_stays n None None = refl
  scalar_stays n (Some t) None = refl
  scalar_stays n t (Some name) = refl

  facts_stay : (n : Text) (f : FieldContent) → facts_of (rename_field names n f) ≡ facts_of f
  facts_stay n f = ap (λ s. record { name = f.name; number = f.number; label = f.label; scalar = s; oneof = f.oneof_index }) (scalar_stays (join n (text_of f.name)) f.field_type f.type_name)

  -- what stands behind the parts that have no reference
  tail_renamed : (n : Text) (es : List EnumContent) (xs : List FieldContent) (os : List OneofContent)
      → flat_map (one_enum n) es ++ (map (one_extension n) (map (rename_extension names n) xs) ++ map (one_oneof n) os)
      ≡ map renamed (flat_map (one_enum n) es ++ (map (one_extension n) xs ++ map (one_oneof n) os))
  tail_renamed n es xs os =
      both _ _ (map renamed (flat_map (one_enum n) es)) (map renamed (map (one_extension n) xs ++ map (one_oneof n) os)) (enums_stay n es)
      (both _ _ (map renamed (map (one_extension n) xs)) (map renamed (map (one_oneof n) os)) (extensions_renamed n xs) (oneofs_stay n os)
      ∙ sym (map-append renamed (map (one_extension n) xs) (map (one_oneof n) os)))
      ∙ sym (map-append renamed (flat_map (one_enum n) es) (map (one_extension n) xs ++ map (one_oneof n) os))

  abbrev parts : Text → List FieldContent → MessageContents → List EnumContent → List FieldContent → List OneofContent → List Declaration
  parts n fs nested es xs os = map (one_field n) fs ++ (in_messages n nested ++ (flat_map (one_enum n) es ++ (map (one_extension n) xs ++ map (one_oneof n) os)))

  parts_renamed : (n : Text) (fs : List FieldContent) (nested : MessageContents) (es : List EnumContent) (xs : List FieldContent) (os : List OneofContent)
      → in_messages n (rename_messages names n nested) ≡ map renamed (in_messages n nested)
      → parts n (map (rename_field names n) fs) (rename_messages names n nested) es (map (rename_extension names n) xs) os ≡ map renamed (parts n fs nested es xs os)
  parts_renamed n fs nested es xs os inner =
      let tail : List Declaration = flat_map (one_enum n) es ++ (map (one_extension n) xs ++ map (one_oneof n) os) in
      both _ _ (map renamed (map (one_field n) fs)) (map renamed (in_messages n nested ++ tail)) (fields_renamed n fs)
      (both _ _ (map renamed (in_messages n nested)) (map renamed tail) inner (tail_renamed n es xs os)
      ∙ sym (map-append renamed (in_messages n nested) tail))
      ∙ sym (map-append renamed (map (one_field n) fs) (in_messages n nested ++ tail))

  mutual
    message_renamed : (scope : Text) (m : MessageContent) → in_message scope (rename_message names scope m) ≡ map renamed (in_message scope m)
    message_renamed scope (message name fs xs nested es rs os o rr rn) =
        ap (λ facts. record {
          name = join scope (text_of name);
          body = of_message (record { name = name; fields = facts; oneofs = length os; extensions = rs; reserved = rr; reserved_names = rn; options = o });
        } ∷ parts (join scope (text_of name)) (map (rename_field names (join scope (text_of name))) fs) (rename_messages names (join scope (text_of name)) nested) es (map (rename_extension names (join scope (text_of name))) xs) os)
        (map_same facts_of (rename_field names (join scope (text_of name))) facts_of (facts_stay (join scope (text_of name))) fs)
        ∙ ap (λ ds. record {
          name = join scope (text_of name);
          body = of_message (record { name = name; fields = map facts_of fs; oneofs = length os; extensions = rs; reserved = rr; reserved_names = rn; options = o });
        } ∷ ds) (parts_renamed (join scope (text_of name)) fs nested es xs os (messages_renamed (join scope (text_of name)) nested))

    messages_renamed : (scope : Text) (ms : MessageContents) → in_messages scope (rename_messages names scope ms) ≡ map renamed (in_messages scope ms)
    messages_renamed scope no_messages = refl
    messages_renamed scope (more_messages m ms) =
        both _ _ (map renamed (in_message scope m)) (map renamed (in_messages scope ms)) (message_renamed scope m) (messages_renamed scope ms)
        ∙ sym (map-append renamed (in_message scope m) (in_messages scope ms))

  pub declarations_renamed : (f : FileContent) → declarations (rename_references names f) ≡ map renamed (declarations f)
  declarations_renamed f =
      let p : Text = package_of f in
      both _ _ (map renamed (flat_map (in_message p) f.message_type)) (map renamed (flat_map (one_enum p) f.enum_type ++ (flat_map (one_service p) f.service ++ map (one_extension p) f.extension))) (flat_maps (in_message p) (rename_message names p) renamed (message_renamed p) f.message_type)
      (both _ _ (map renamed (flat_map (one_enum p) f.enum_type)) (map renamed (flat_map (one_service p) f.service ++ map (one_extension p) f.extension)) (enums_stay p f.enum_type)
      (both _ _ (map renamed (flat_map (one_service p) f.service)) (map renamed (map (one_extension p) f.extension)) (flat_maps (one_service p) (rename_service names p) renamed (service_renamed p) f.service) (extensions_renamed p f.extension)
      ∙ sym (map-append renamed (flat_map (one_service p) f.service) (map (one_extension p) f.extension)))
      ∙ sym (map-append renamed (flat_map (one_enum p) f.enum_type) (flat_map (one_service p) f.service ++ map (one_extension p) f.extension)))
      ∙ sym (map-append renamed (flat_map (in_message p) f.message_type) (flat_map (one_enum p) f.enum_type ++ (flat_map (one_service p) f.service ++ map (one_extension p) f.extension)))

  sort_stays : (n : Text) (b : Body) → sort_of (rename_body n b) ≡ sort_of b
  sort_stays n (of_message m) = refl
  sort_stays n (of_field f) = refl
  sort_stays n (of_oneof o) = refl
  sort_stays n (of_enum e) = refl
  sort_stays n (of_value v) = refl
  sort_stays n (of_service s) = refl
  sort_stays n (of_method m) = refl
  sort_stays n (of_extension x) = refl

  pub outline_renamed : (f : FileContent) → outline_of (rename_references names f) ≡ outline_of f
  outline_renamed f =
      let heads : map head_of (declarations (rename_references names f)) ≡ map head_of (declarations f) =
      ap (map head_of) (declarations_renamed f) ∙ map_same head_of renamed head_of (λ d. ap (λ s. record { name = d.name; sort = s }) (sort_stays d.name d.body)) (declarations f) in
      ap (λ hs. record { name = file_name f; package_name = package_of f; imports = imports_of f; heads = hs }) heads

  -- a reference in the file with other names
  abbrev pub filled_want : Want → ℤ → Want
  filled_want a_message type = a_message
  filled_want (a_type None) type = a_type (Some type)
  filled_want (a_type (Some n)) type = a_type (Some n)

  abbrev pub rename_reference : Reference → Reference
  rename_reference r = record { want = filled_want r.want (names r).type; scope = r.scope; name = (names r).name }

  to_message_renamed : (n : Text) (t : Option Text) → to_message n (rename_message_type names n t) ≡ map rename_reference (to_message n t)
  to_message_renamed n None = refl
  to_message_renamed n (Some t) = refl

  to_type_renamed : (n : Text) (type : Option ℤ) (t : Option Text) → to_type n (fill_type names n type t) (rename_type names n type t) ≡ map rename_reference (to_type n type t)
  to_type_renamed n type None = refl
  to_type_renamed n None (Some t) = refl
  to_type_renamed n (Some k) (Some t) = refl

  two_renamed : (a b c d : List Reference) → a ≡ map rename_reference c → b ≡ map rename_reference d → a ++ b ≡ map rename_reference (c ++ d)
  two_renamed a b c d e f = both a b (map rename_reference c) (map rename_reference d) e f ∙ sym (map-append rename_reference c d)

  references_of_renamed : (n : Text) (b : Body) → references_of (record { name = n; body = rename_body n b }) ≡ map rename_reference (references_of (record { name = n; body = b }))
  references_of_renamed n (of_message m) = refl
  references_of_renamed n (of_field f) = to_type_renamed n f.field_type f.type_name
  references_of_renamed n (of_oneof o) = refl
  references_of_renamed n (of_enum e) = refl
  references_of_renamed n (of_value v) = refl
  references_of_renamed n (of_service s) = refl
  references_of_renamed n (of_method m) = two_renamed _ _ (to_message n m.input_type) (to_message n m.output_type) (to_message_renamed n m.input_type) (to_message_renamed n m.output_type)
  references_of_renamed n (of_extension x) = two_renamed _ _ (to_message n x.extendee) (to_type n x.field_type x.type_name) (to_message_renamed n x.extendee) (to_type_renamed n x.field_type x.type_name)

  flat_renamed : (ds : List Declaration) → flat_map references_of (map renamed ds) ≡ map rename_reference (flat_map references_of ds)
  flat_renamed [] = refl
  flat_renamed (d ∷ ds) =
      flat_map-cons references_of (renamed d) (map renamed ds)
      ∙ both _ _ (map rename_reference (references_of d)) (map rename_reference (flat_map references_of ds)) (references_of_renamed d.name d.body) (flat_renamed ds)
      ∙ sym (map-append rename_reference (references_of d) (flat_map references_of ds))
      ∙ ap (map rename_reference) (sym (flat_map-cons references_of d ds))

  pub references_renamed : (f : FileContent) → references (rename_references names f) ≡ map rename_reference (references f)
  references_renamed f = ap (flat_map references_of) (declarations_renamed f) ∙ flat_renamed (declarations f)
