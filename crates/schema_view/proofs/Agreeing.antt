-- Ways to name references that agree on those of a file give the same file, and one that leaves them gives the file itself.
use Rattle.std.proofs.Common.{◌≡◌, ℤ, List, [], ◌∷◌, ◌++◌, map, length, Option, Some, None, refl, sym, ap, ◌∙◌, subst}
use Rattle.std.specs.List.{Contains, flat_map}
use Rattle.std.proofs.lemmas.List.Elements.{Contains-append_left, Contains-append_right}
use Rattle.std.proofs.lemmas.Grind.{flat_map-append}
use Rattle.std.proofs.lemmas.List.Concat.{flat_map-cons}
use Rattle.descriptor_records.specs.Content.{Text, FieldContent, MethodContent, ServiceContent, MessageContent, message, MessageContents, no_messages, more_messages, FileContent}
use Rattle.schema_view.specs.Files.{text_of, join, package_of}
use Rattle.schema_view.specs.Declarations.{Declaration, one_field, one_oneof, one_extension, one_enum, one_method, one_service, in_message, in_messages, of_message, of_service, facts_of, service_facts}
use Rattle.schema_view.specs.References.{Want, a_message, a_type, Reference, to_message, to_type, references_of, references, Target, rename_message_type, rename_type, fill_type, rename_field, rename_extension, rename_method, rename_service, rename_message, rename_messages, rename_references}
use Rattle.schema_view.proofs.Lists.{contains_here}

-- a property of each reference of declarations
abbrev pub Each : (Reference → Type 0) → List Declaration → Type 0
Each P ds = (r : Reference) → Contains (flat_map references_of ds) r → P r

module _ (P : Reference → Type 0) where
  left : (ds es : List Declaration) → Each P (ds ++ es) → Each P ds
  left ds es a r i = a r (subst (λ rs. Contains rs r) (sym (flat_map-append references_of ds es)) (Contains-append_left (flat_map references_of ds) (flat_map references_of es) r i))

  right : (ds es : List Declaration) → Each P (ds ++ es) → Each P es
  right ds es a r i = a r (subst (λ rs. Contains rs r) (sym (flat_map-append references_of ds es)) (Contains-append_right (flat_map references_of ds) (flat_map references_of es) r i))

  here : (d : Declaration) (ds : List Declaration) → Each P (d ∷ ds) → (r : Reference) → Contains (references_of d) r → P r
  here d ds a r i = a r (subst (λ rs. Contains rs r) (sym (flat_map-cons references_of d ds)) (Contains-append_left (references_of d) (flat_map references_of ds) r i))

  there : (d : Declaration) (ds : List Declaration) → Each P (d ∷ ds) → Each P ds
  there d ds a r i = a r (subst (λ rs. Contains rs r) (sym (flat_map-cons references_of d ds)) (Contains-append_right (references_of d) (flat_map references_of ds) r i))

  split_flat : {X : Type 0} (g : X → List Declaration) (x : X) (xs : List X) → Each P (flat_map g (x ∷ xs)) → Each P (g x) × Each P (flat_map g xs)
  split_flat g x xs a =
      let b : Each P (g x ++ flat_map g xs) = subst (Each P) (flat_map-cons g x xs) a in
      (left (g x) (flat_map g xs) b, right (g x) (flat_map g xs) b)

  one_left : (rs qs : List Reference) → ((r : Reference) → Contains (rs ++ qs) r → P r) → (r : Reference) → Contains rs r → P r
  one_left rs qs a r i = a r (Contains-append_left rs qs r i)

  one_right : (rs qs : List Reference) → ((r : Reference) → Contains (rs ++ qs) r → P r) → (r : Reference) → Contains qs r → P r
  one_right rs qs a r i = a r (Contains-append_right rs qs r i)

message_cong : (name : Option Text) (fs gs xs ys : List FieldContent) (ms ns : MessageContents) (rest : List FieldContent → List FieldContent → MessageContents → MessageContent) → fs ≡ gs → xs ≡ ys → ms ≡ ns → rest fs xs ms ≡ rest gs ys ns
message_cong name fs gs xs ys ms ns rest e f g = ap (λ a. rest a xs ms) e ∙ ap (λ a. rest gs a ms) f ∙ ap (λ a. rest gs ys a) g

field_cong : (f : FieldContent) (s t : Option ℤ) (a b : Option Text) → s ≡ t → a ≡ b → (record f { field_type = s; type_name = a }) ≡ record f { field_type = t; type_name = b }
field_cong f s t a b e g = ap (λ x. record f { field_type = x; type_name = a }) e ∙ ap (λ x. record f { field_type = t; type_name = x }) g

extension_cong : (f : FieldContent) (c d : Option Text) (s t : Option ℤ) (a b : Option Text) → c ≡ d → s ≡ t → a ≡ b
    → (record f { extendee = c; field_type = s; type_name = a }) ≡ record f { extendee = d; field_type = t; type_name = b }
extension_cong f c d s t a b h e g =
    ap (λ x. record f { extendee = x; field_type = s; type_name = a }) h
    ∙ ap (λ x. record f { extendee = d; field_type = x; type_name = a }) e
    ∙ ap (λ x. record f { extendee = d; field_type = t; type_name = x }) g

method_cong : (m : MethodContent) (a b c d : Option Text) → a ≡ b → c ≡ d → (record m { input_type = a; output_type = c }) ≡ record m { input_type = b; output_type = d }
method_cong m a b c d e f = ap (λ x. record m { input_type = x; output_type = c }) e ∙ ap (λ x. record m { input_type = b; output_type = x }) f

file_cong : (f : FileContent) (ms ns : List MessageContent) (ss ts : List ServiceContent) (xs ys : List FieldContent) → ms ≡ ns → ss ≡ ts → xs ≡ ys
    → (record f { message_type = ms; service = ss; extension = xs }) ≡ record f { message_type = ns; service = ts; extension = ys }
file_cong f ms ns ss ts xs ys e g h =
    ap (λ x. record f { message_type = x; service = ss; extension = xs }) e
    ∙ ap (λ x. record f { message_type = ns; service = x; extension = xs }) g
    ∙ ap (λ x. record f { message_type = ns; service = ts; extension = x }) h

cons_cong : {X : Type 0} (x y : X) (xs ys : List X) → x ≡ y → xs ≡ ys → x ∷ xs ≡ y ∷ ys
cons_cong x y xs ys e f = ap (λ a. a ∷ xs) e ∙ ap (λ bs. y ∷ bs) f

-- parts with other names in their references, given how each name and each type is replaced
module _ (to_m : Text → Option Text → Option Text) (to_t : Text → Option ℤ → Option Text → Option Text) (fill : Text → Option ℤ → Option Text → Option ℤ) where
  abbrev new_field : Text → FieldContent → FieldContent
  new_field n f = record f { field_type = fill (join n (text_of f.name)) f.field_type f.type_name; type_name = to_t (join n (text_of f.name)) f.field_type f.type_name }

  abbrev new_extension : Text → FieldContent → FieldContent
  new_extension n x = record x { extendee = to_m (join n (text_of x.name)) x.extendee; field_type = fill (join n (text_of x.name)) x.field_type x.type_name; type_name = to_t (join n (text_of x.name)) x.field_type x.type_name }

  abbrev new_method : Text → MethodContent → MethodContent
  new_method n m = record m { input_type = to_m (join n (text_of m.name)) m.input_type; output_type = to_m (join n (text_of m.name)) m.output_type }

  abbrev new_service : Text → ServiceContent → ServiceContent
  new_service n s = record s { method = map (new_method (join n (text_of s.name))) s.method }

  abbrev mutual
    new_message : Text → MessageContent → MessageContent
    new_message scope (message name fs xs nested es rs os o rr rn) =
        message name (map (new_field (join scope (text_of name))) fs) (map (new_extension (join scope (text_of name))) xs) (new_messages (join scope (text_of name)) nested) es rs os o rr rn

    new_messages : Text → MessageContents → MessageContents
    new_messages scope no_messages = no_messages
    new_messages scope (more_messages m ms) = more_messages (new_message scope m) (new_messages scope ms)

  abbrev new_file : FileContent → FileContent
  new_file f = record f { message_type = map (new_message (package_of f)) f.message_type; service = map (new_service (package_of f)) f.service; extension = map (new_extension (package_of f)) f.extension }

module _ (names : Reference → Target) where
  -- how each part is named anew, given what is known of its references
  pub record Leads (P : Reference → Type 0) (to_m : Text → Option Text → Option Text) (to_t : Text → Option ℤ → Option Text → Option Text) (fill : Text → Option ℤ → Option Text → Option ℤ) : Type 0 where
    pub messages : (n : Text) (t : Option Text) → ((r : Reference) → Contains (to_message n t) r → P r) → rename_message_type names n t ≡ to_m n t
    pub types : (n : Text) (type : Option ℤ) (t : Option Text) → ((r : Reference) → Contains (to_type n type t) r → P r) → rename_type names n type t ≡ to_t n type t
    pub fills : (n : Text) (type : Option ℤ) (t : Option Text) → ((r : Reference) → Contains (to_type n type t) r → P r) → fill_type names n type t ≡ fill n type t

  module _ (P : Reference → Type 0) (to_m : Text → Option Text → Option Text) (to_t : Text → Option ℤ → Option Text → Option Text) (fill : Text → Option ℤ → Option Text → Option ℤ) (leads : Leads P to_m to_t fill) where
    fields_lead : (n : Text) (fs : List FieldContent) → Each P (map (one_field n) fs) → map (rename_field names n) fs ≡ map (new_field to_m to_t fill n) fs
    fields_lead n [] a = refl
    fields_lead n (f ∷ fs) a =
        let own : (r : Reference) → Contains (to_type (join n (text_of f.name)) f.field_type f.type_name) r → P r = here P (one_field n f) (map (one_field n) fs) a in
        cons_cong _ _ _ _ (field_cong f _ _ _ _ (leads.fills _ f.field_type f.type_name own) (leads.types _ f.field_type f.type_name own)) (fields_lead n fs (there P (one_field n f) (map (one_field n) fs) a))

    extensions_lead : (n : Text) (xs : List FieldContent) → Each P (map (one_extension n) xs) → map (rename_extension names n) xs ≡ map (new_extension to_m to_t fill n) xs
    extensions_lead n [] a = refl
    extensions_lead n (x ∷ xs) a =
        let k : Text = join n (text_of x.name) in
        let own : (r : Reference) → Contains (to_message k x.extendee ++ to_type k x.field_type x.type_name) r → P r = here P (one_extension n x) (map (one_extension n) xs) a in
        let first : (r : Reference) → Contains (to_message k x.extendee) r → P r = one_left P (to_message k x.extendee) (to_type k x.field_type x.type_name) own in
        let second : (r : Reference) → Contains (to_type k x.field_type x.type_name) r → P r = one_right P (to_message k x.extendee) (to_type k x.field_type x.type_name) own in
        cons_cong _ _ _ _ (extension_cong x _ _ _ _ _ _ (leads.messages _ x.extendee first) (leads.fills _ x.field_type x.type_name second) (leads.types _ x.field_type x.type_name second)) (extensions_lead n xs (there P (one_extension n x) (map (one_extension n) xs) a))

    methods_lead : (n : Text) (ms : List MethodContent) → Each P (map (one_method n) ms) → map (rename_method names n) ms ≡ map (new_method to_m to_t fill n) ms
    methods_lead n [] a = refl
    methods_lead n (m ∷ ms) a =
        let k : Text = join n (text_of m.name) in
        let own : (r : Reference) → Contains (to_message k m.input_type ++ to_message k m.output_type) r → P r = here P (one_method n m) (map (one_method n) ms) a in
        cons_cong _ _ _ _ (method_cong m _ _ _ _
        (leads.messages _ m.input_type (one_left P (to_message k m.input_type) (to_message k m.output_type) own))
        (leads.messages _ m.output_type (one_right P (to_message k m.input_type) (to_message k m.output_type) own))) (methods_lead n ms (there P (one_method n m) (map (one_method n) ms) a))

    services_lead : (n : Text) (ss : List ServiceContent) → Each P (flat_map (one_service n) ss) → map (rename_service names n) ss ≡ map (new_service to_m to_t fill n) ss
    services_lead n [] a = refl
    services_lead n (s ∷ ss) a =
        let b = split_flat P (one_service n) s ss a in
        let own : Each P (map (one_method (join n (text_of s.name))) s.method) = there P (record { name = join n (text_of s.name); body = of_service (service_facts s) }) (map (one_method (join n (text_of s.name))) s.method) b.0 in
        cons_cong _ _ _ _ (ap (λ x. record s { method = x }) (methods_lead (join n (text_of s.name)) s.method own)) (services_lead n ss b.1)

    mutual
      message_leads : (scope : Text) (m : MessageContent) → Each P (in_message scope m) → rename_message names scope m ≡ new_message to_m to_t fill scope m
      message_leads scope (message name fs xs nested es rs os o rr rn) a =
          let n : Text = join scope (text_of name) in
          let oneofs : List Declaration = map (one_oneof n) os in
          let extensions : List Declaration = map (one_extension n) xs in
          let enums : List Declaration = flat_map (one_enum n) es in
          let inner : List Declaration = in_messages n nested in
          let fields : List Declaration = map (one_field n) fs in
          let all : Each P (fields ++ (inner ++ (enums ++ (extensions ++ oneofs)))) = there P (record { name = n; body = of_message (record { name = name; fields = map facts_of fs; oneofs = length os; extensions = rs; reserved = rr; reserved_names = rn; options = o }) }) (fields ++ (inner ++ (enums ++ (extensions ++ oneofs)))) a in
          let b : Each P (inner ++ (enums ++ (extensions ++ oneofs))) = right P fields (inner ++ (enums ++ (extensions ++ oneofs))) all in
          let c : Each P (enums ++ (extensions ++ oneofs)) = right P inner (enums ++ (extensions ++ oneofs)) b in
          let d : Each P (extensions ++ oneofs) = right P enums (extensions ++ oneofs) c in
          message_cong name _ _ _ _ _ _ (λ p q ms. message name p q ms es rs os o rr rn)
          (fields_lead n fs (left P fields (inner ++ (enums ++ (extensions ++ oneofs))) all))
          (extensions_lead n xs (left P extensions oneofs d))
          (messages_lead n nested (left P inner (enums ++ (extensions ++ oneofs)) b))

      messages_lead : (scope : Text) (ms : MessageContents) → Each P (in_messages scope ms) → rename_messages names scope ms ≡ new_messages to_m to_t fill scope ms
      messages_lead scope no_messages a = refl
      messages_lead scope (more_messages m ms) a =
          ap (λ x. more_messages x (rename_messages names scope ms)) (message_leads scope m (left P (in_message scope m) (in_messages scope ms) a))
          ∙ ap (λ xs. more_messages (new_message to_m to_t fill scope m) xs) (messages_lead scope ms (right P (in_message scope m) (in_messages scope ms) a))

    all_lead : (scope : Text) (ms : List MessageContent) → Each P (flat_map (in_message scope) ms) → map (rename_message names scope) ms ≡ map (new_message to_m to_t fill scope) ms
    all_lead scope [] a = refl
    all_lead scope (m ∷ ms) a =
        let b = split_flat P (in_message scope) m ms a in
        cons_cong _ _ _ _ (message_leads scope m b.0) (all_lead scope ms b.1)

    pub file_leads : (f : FileContent) → ((r : Reference) → Contains (references f) r → P r) → rename_references names f ≡ new_file to_m to_t fill f
    file_leads f a =
        let p : Text = package_of f in
        let messages : List Declaration = flat_map (in_message p) f.message_type in
        let enums : List Declaration = flat_map (one_enum p) f.enum_type in
        let services : List Declaration = flat_map (one_service p) f.service in
        let extensions : List Declaration = map (one_extension p) f.extension in
        let b : Each P (enums ++ (services ++ extensions)) = right P messages (enums ++ (services ++ extensions)) a in
        let c : Each P (services ++ extensions) = right P enums (services ++ extensions) b in
        file_cong f _ _ _ _ _ _
        (all_lead p f.message_type (left P messages (enums ++ (services ++ extensions)) a))
        (services_lead p f.service (left P services extensions c))
        (extensions_lead p f.extension (right P services extensions c))

-- two ways to name the references that agree on them
pub file_same : (names others : Reference → Target) (f : FileContent) → ((r : Reference) → Contains (references f) r → names r ≡ others r) → rename_references names f ≡ rename_references others f
file_same names others f a =
    file_leads names (λ r. names r ≡ others r) (rename_message_type others) (rename_type others) (fill_type others) leads f a where
      leads : Leads names (λ r. names r ≡ others r) (rename_message_type others) (rename_type others) (fill_type others)
      leads = record { messages = messages; types = types; fills = fills } where
        messages : (n : Text) (t : Option Text) → ((r : Reference) → Contains (to_message n t) r → names r ≡ others r) → rename_message_type names n t ≡ rename_message_type others n t
        messages n None h = refl
        messages n (Some t) h = ap (λ (x : Target). Some x.name) (h (record { want = a_message; scope = n; name = t }) (contains_here (record { want = a_message; scope = n; name = t }) []))

        types : (n : Text) (type : Option ℤ) (t : Option Text) → ((r : Reference) → Contains (to_type n type t) r → names r ≡ others r) → rename_type names n type t ≡ rename_type others n type t
        types n type None h = refl
        types n type (Some t) h = ap (λ (x : Target). Some x.name) (h (record { want = a_type type; scope = n; name = t }) (contains_here (record { want = a_type type; scope = n; name = t }) []))

        fills : (n : Text) (type : Option ℤ) (t : Option Text) → ((r : Reference) → Contains (to_type n type t) r → names r ≡ others r) → fill_type names n type t ≡ fill_type others n type t
        fills n (Some k) t h = refl
        fills n None None h = refl
        fills n None (Some t) h = ap (λ (x : Target). Some x.type) (h (record { want = a_type None; scope = n; name = t }) (contains_here (record { want = a_type None; scope = n; name = t }) []))

map_is : {X : Type 0} (g : X → X) → ((x : X) → g x ≡ x) → (xs : List X) → map g xs ≡ xs
map_is g e [] = refl
map_is g e (x ∷ xs) = cons_cong _ _ _ _ (e x) (map_is g e xs)

-- where each name and type is replaced by itself
abbrev own_m : Text → Option Text → Option Text
own_m n t = t

abbrev own_t : Text → Option ℤ → Option Text → Option Text
own_t n type t = t

abbrev own_type : Text → Option ℤ → Option Text → Option ℤ
own_type n type t = type

service_is : (n : Text) (s : ServiceContent) → new_service own_m own_t own_type n s ≡ s
service_is n s = ap (λ x. record s { method = x }) (map_is (new_method own_m own_t own_type (join n (text_of s.name))) (λ m. refl) s.method)

mutual
  message_is : (scope : Text) (m : MessageContent) → new_message own_m own_t own_type scope m ≡ m
  message_is scope (message name fs xs nested es rs os o rr rn) =
      message_cong name _ _ _ _ _ _ (λ p q ms. message name p q ms es rs os o rr rn)
      (map_is (new_field own_m own_t own_type (join scope (text_of name))) (λ f. refl) fs)
      (map_is (new_extension own_m own_t own_type (join scope (text_of name))) (λ x. refl) xs)
      (messages_are (join scope (text_of name)) nested)

  messages_are : (scope : Text) (ms : MessageContents) → new_messages own_m own_t own_type scope ms ≡ ms
  messages_are scope no_messages = refl
  messages_are scope (more_messages m ms) =
      ap (λ x. more_messages x (new_messages own_m own_t own_type scope ms)) (message_is scope m) ∙ ap (λ xs. more_messages m xs) (messages_are scope ms)

file_is : (f : FileContent) → new_file own_m own_t own_type f ≡ f
file_is f =
    file_cong f _ _ _ _ _ _
    (map_is (new_message own_m own_t own_type (package_of f)) (message_is (package_of f)) f.message_type)
    (map_is (new_service own_m own_t own_type (package_of f)) (service_is (package_of f)) f.service)
    (map_is (new_extension own_m own_t own_type (package_of f)) (λ x. refl) f.extension)

-- a reference with the number of its type
abbrev pub IsTyped : Want → Type 0
IsTyped a_message = Unit {0}
IsTyped (a_type None) = ⊥
IsTyped (a_type (Some n)) = Unit {0}

abbrev Stays : (Reference → Target) → Reference → Type 0
Stays names r = ((names r).name ≡ r.name) × IsTyped r.want

-- a way that leaves the names of references with types
pub file_stays : (names : Reference → Target) (f : FileContent) → ((r : Reference) → Contains (references f) r → ((names r).name ≡ r.name) × IsTyped r.want) → rename_references names f ≡ f
file_stays names f a = file_leads names (Stays names) own_m own_t own_type leads f a ∙ file_is f where
  leads : Leads names (Stays names) own_m own_t own_type
  leads = record { messages = messages; types = types; fills = fills } where
    messages : (n : Text) (t : Option Text) → ((r : Reference) → Contains (to_message n t) r → Stays names r) → rename_message_type names n t ≡ t
    messages n None h = refl
    messages n (Some t) h = ap Some (h (record { want = a_message; scope = n; name = t }) (contains_here (record { want = a_message; scope = n; name = t }) [])).0

    types : (n : Text) (type : Option ℤ) (t : Option Text) → ((r : Reference) → Contains (to_type n type t) r → Stays names r) → rename_type names n type t ≡ t
    types n type None h = refl
    types n type (Some t) h = ap Some (h (record { want = a_type type; scope = n; name = t }) (contains_here (record { want = a_type type; scope = n; name = t }) [])).0

    fills : (n : Text) (type : Option ℤ) (t : Option Text) → ((r : Reference) → Contains (to_type n type t) r → Stays names r) → fill_type names n type t ≡ type
    fills n (Some k) t h = refl
    fills n None None h = refl
    fills n None (Some t) h = absurd (h (record { want = a_type None; scope = n; name = t }) (contains_here (record { want = a_type None; scope = n; name = t }) [])).1
