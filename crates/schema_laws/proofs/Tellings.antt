-- Files whose messages keep the same declare the same messages, each with the same numbers.
use Rattle.std.proofs.Common.{◌≡◌, List, [], ◌∷◌, ◌++◌, map, length, refl, sym, ap, ◌∙◌, subst}
use Rattle.std.specs.List.{Contains, flat_map}
use Rattle.std.proofs.lemmas.List.{append-nil}
use Rattle.std.proofs.lemmas.List.Concat.{flat_map-append, flat_map-cons}
use Rattle.descriptor_records.specs.Content.{Text, EnumContent, ServiceContent, MessageContent, message, MessageContents, no_messages, more_messages, FileContent}
use Rattle.schema_view.specs.Declarations.{MessageFacts, Range, extension_range, facts_of, service_facts, Body, of_message, of_enum, of_service, Declaration, one_field, one_oneof, one_extension, one_value, one_enum, one_method, one_service, in_message, in_messages, declarations}
use Rattle.schema_view.specs.Files.{text_of, join, package_of}
use Rattle.schema_view.proofs.Lists.{contains_here, contains_flat, contains_flat_cases, contains_map_cases}
use Rattle.types_view.specs.Fields.{NamedMessage, messages_in}
use Rattle.types_view.proofs.Told.{message_declared}
use Rattle.schema_laws.proofs.Keepings.{Keeping, keeping, Keepings, no_keepings, more_keepings, kept_by, kept_by_all, FileKeeping, kept_in}

-- a message's full name, and the numbers that it keeps
abbrev Told : Type 0
Told = Text × List Range

-- what a message that is written tells
abbrev kept : NamedMessage → Told
kept w = (w.0, map extension_range w.1.extensions)

abbrev told_by : Declaration → List Told
told_by d = map kept (messages_in d)

abbrev tell : List Declaration → List Told
tell ds = flat_map told_by ds

abbrev mutual
  told_in : Text → Keeping → List Told
  told_in scope (keeping name ranges nested) =
      (join scope name, ranges) ∷ told_in_all (join scope name) nested

  told_in_all : Text → Keepings → List Told
  told_in_all scope no_keepings = []
  told_in_all scope (more_keepings k ks) = told_in scope k ++ told_in_all scope ks

abbrev told_file : FileKeeping → List Told
told_file k = flat_map (told_in k.package_name) k.messages

-- ---- lists

both : (xs ys : List Declaration) (a b : List Told) → tell xs ≡ a → tell ys ≡ b
    → tell (xs ++ ys) ≡ a ++ b
both xs ys a b e f =
    flat_map-append told_by xs ys ∙ ap (λ l. l ++ tell ys) e ∙ ap (λ l. a ++ l) f

-- what declares no message
none : {X : Type 0} (g : X → Declaration) → ((x : X) → told_by (g x) ≡ []) → (xs : List X)
    → tell (map g xs) ≡ []
none g quiet [] = refl
none g quiet (x ∷ xs) =
    flat_map-cons told_by (g x) (map g xs) ∙ ap (λ l. l ++ tell (map g xs)) (quiet x)
    ∙ none g quiet xs

none_each : {X : Type 0} (g : X → List Declaration) → ((x : X) → tell (g x) ≡ [])
    → (xs : List X) → tell (flat_map g xs) ≡ []
none_each g quiet [] = refl
none_each g quiet (x ∷ xs) =
    ap tell (flat_map-cons g x xs)
    ∙ both (g x) (flat_map g xs) [] [] (quiet x) (none_each g quiet xs)

enum_quiet : (scope : Text) (e : EnumContent) → tell (one_enum scope e) ≡ []
enum_quiet scope e =
    flat_map-cons told_by (record { name = join scope (text_of e.name); body = of_enum e })
    (map (one_value scope) e.value)
    ∙ none (one_value scope) (λ v. refl) e.value

service_quiet : (scope : Text) (s : ServiceContent) → tell (one_service scope s) ≡ []
service_quiet scope s =
    let n = join scope (text_of s.name) in
    flat_map-cons told_by (record { name = n; body = of_service (service_facts s) })
    (map (one_method n) s.method)
    ∙ none (one_method n) (λ m. refl) s.method

-- ---- what files declare

mutual
  message_tells : (scope : Text) (m : MessageContent)
      → tell (in_message scope m) ≡ told_in scope (kept_by m)
  message_tells scope (message name fs xs nested es rs os o rr rn) =
      let n : Text = join scope (text_of name) in
      let fields : List Declaration = map (one_field n) fs in
      let inner : List Declaration = in_messages n nested in
      let enums : List Declaration = flat_map (one_enum n) es in
      let others : List Declaration = map (one_extension n) xs in
      let oneofs : List Declaration = map (one_oneof n) os in
      let own : Declaration = record {
        name = n;
        body = of_message (record {
          name = name;
          fields = map facts_of fs;
          oneofs = length os;
          extensions = rs;
          reserved = rr;
          reserved_names = rn;
          options = o;
        });
      } in
      let told : List Told = told_in_all n (kept_by_all nested) in
      flat_map-cons told_by own (fields ++ (inner ++ (enums ++ (others ++ oneofs))))
      ∙ ap (λ l. (n, map extension_range rs) ∷ l)
      (both fields (inner ++ (enums ++ (others ++ oneofs))) [] (told ++ [])
      (none (one_field n) (λ f. refl) fs)
      (both inner (enums ++ (others ++ oneofs)) told [] (messages_tell n nested)
      (both enums (others ++ oneofs) [] [] (none_each (one_enum n) (enum_quiet n) es)
      (both others oneofs [] [] (none (one_extension n) (λ x. refl) xs)
      (none (one_oneof n) (λ x. refl) os))))
      ∙ append-nil told)

  messages_tell : (scope : Text) (ms : MessageContents)
      → tell (in_messages scope ms) ≡ told_in_all scope (kept_by_all ms)
  messages_tell scope no_messages = refl
  messages_tell scope (more_messages m ms) =
      both (in_message scope m) (in_messages scope ms) (told_in scope (kept_by m))
      (told_in_all scope (kept_by_all ms)) (message_tells scope m) (messages_tell scope ms)

all_tell : (scope : Text) (ms : List MessageContent)
    → tell (flat_map (in_message scope) ms) ≡ flat_map (told_in scope) (map kept_by ms)
all_tell scope [] = refl
all_tell scope (m ∷ ms) =
    ap tell (flat_map-cons (in_message scope) m ms)
    ∙ both (in_message scope m) (flat_map (in_message scope) ms) (told_in scope (kept_by m))
    (flat_map (told_in scope) (map kept_by ms)) (message_tells scope m) (all_tell scope ms)
    ∙ sym (flat_map-cons (told_in scope) (kept_by m) (map kept_by ms))

file_tells : (f : FileContent) → tell (declarations f) ≡ told_file (kept_in f)
file_tells f =
    let n : Text = package_of f in
    let messages : List Declaration = flat_map (in_message n) f.message_type in
    let enums : List Declaration = flat_map (one_enum n) f.enum_type in
    let services : List Declaration = flat_map (one_service n) f.service in
    let others : List Declaration = map (one_extension n) f.extension in
    let told : List Told = told_file (kept_in f) in
    both messages (enums ++ (services ++ others)) told [] (all_tell n f.message_type)
    (both enums (services ++ others) [] [] (none_each (one_enum n) (enum_quiet n) f.enum_type)
    (both services others [] [] (none_each (one_service n) (service_quiet n) f.service)
    (none (one_extension n) (λ x. refl) f.extension)))
    ∙ append-nil told

-- ---- messages that files declare

-- a message of the full name is declared, which keeps these numbers
pub record IsTold (f : FileContent) (full : Text) (ranges : List Range) : Type 0 where
  pub facts : MessageFacts
  pub inside : Contains (declarations f) (record { name = full; body = of_message facts })
  pub keeps : map extension_range facts.extensions ≡ ranges

-- what is told is declared
told_body : (n : Text) (b : Body) (t : Told) → Contains (told_by (record { name = n; body = b })) t
    → (m : MessageFacts)
    × (◌≡◌ {A = Declaration} (record { name = n; body = b })
    (record { name = t.0; body = of_message m }))
    × (map extension_range m.extensions ≡ t.1)
told_body n b t h =
    let w = contains_map_cases kept (messages_in (record { name = n; body = b })) t h in
    let named : Told → Declaration = λ x. record { name = x.0; body = of_message w.0.1 } in (
      w.0.1,
      message_declared n b w.0 w.1 ∙ ap named w.2,
      ap (λ (x : Told). x.1) w.2,
    )

pub told_alike : (f g : FileContent) → kept_in f ≡ kept_in g → (full : Text) (m : MessageFacts)
    → Contains (declarations f) (record { name = full; body = of_message m })
    → IsTold g full (map extension_range m.extensions)
told_alike f g same full m h =
    let t : Told = (full, map extension_range m.extensions) in
    let d : Declaration = record { name = full; body = of_message m } in
    let there : Contains (tell (declarations f)) t =
    contains_flat told_by (declarations f) d t h (contains_here t []) in
    let also : Contains (tell (declarations g)) t =
    subst (λ l. Contains l t) (file_tells f ∙ ap told_file same ∙ sym (file_tells g)) there in
    let x = contains_flat_cases told_by (declarations g) t also in
    let own = told_body x.0.name x.0.body t x.2 in
    record {
      facts = own.0;
      inside = subst (Contains (declarations g)) own.1 x.1;
      keeps = own.2;
    }
