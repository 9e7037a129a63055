-- The entries that a walk leaves are those of the declarations along it.
use Rattle.std.proofs.Common.{◌≡◌, ℕ, ◌+◌, List, [], ◌∷◌, Bool, true, false, map, ap, sym, subst, ◌∙◌, refl}
use Rattle.std.specs.List.{filter, AllZip}
use Rattle.std.proofs.lemmas.List.Elements.{filter-append}
use Rattle.reflect_names.specs.declared.resolve_visitor.Reference.{Reference}
use Rattle.reflect_declarations.specs.Declarations.{Declaration, Body, of_field, of_oneof, of_enum_value, of_method, Runs}
use Rattle.reflect_declarations.specs.declared.offsets.Offsets.{Offsets}
use Rattle.reflect_tables.specs.Types.{ValueType, MethodType, ExtensionType}
use Rattle.reflect_tables.specs.Views.{extension_of, declared_of}
use Rattle.reflect_index.specs.Along.{AtHand, Met, before_files, syntax_behind, hand_behind, along, is_message, is_field, is_oneof, is_enum, is_value, is_service, is_method, is_extension, is_part, all_of}
use Rattle.reflect_index.specs.Entries.{DeclaredField, OneofName, Head, IsHeadOf, IsFieldOf, IsOneofOf, IsValueOf, IsMethodOf, IsExtensionOf}
use Rattle.reflect_index.specs.Children.{in_message, in_file, child_places, file_places, draft_children, children_at, places_at}
use Rattle.reflect_index.specs.Finished.{AreFinished}
use Rattle.reflect_index.specs.Grown.{draft_head, enum_draft_head, service_head, draft_fields, draft_oneofs, draft_value_types, stored_methods, list_at, Behind}
use Rattle.reflect_index.specs.BatchEntries.{IsBatchOf}
use Rattle.reflect_index.specs.IndexSteps.{Lists, hand_of, met_by}
use Rattle.reflect_index.specs.declared.batch.Batch.{Batch}
use Rattle.reflect_index.specs.declared.visitor.IndexVisitor.{IndexVisitor}
use Rattle.reflect_index.proofs.Listed.{both, both_places, all_children, all_places}
use Rattle.reflect_index.proofs.Grown.{none_behind, behind_on, part_behind, each_behind, head_behind, there}

-- a message is no field and no oneof, an enum no value, a service no method
no_field : (b : Body) → is_message b ≡ true → is_field b ≡ false
no_field (of_field f) e = absurd (cc)
no_field _ e = refl

no_oneof : (b : Body) → is_message b ≡ true → is_oneof b ≡ false
no_oneof (of_oneof o) e = absurd (cc)
no_oneof _ e = refl

no_value : (b : Body) → is_enum b ≡ true → is_value b ≡ false
no_value (of_enum_value v) e = absurd (cc)
no_value _ e = refl

no_method : (b : Body) → is_service b ≡ true → is_method b ≡ false
no_method (of_method m) e = absurd (cc)
no_method _ e = refl

handed : (s : IndexVisitor) (d : Declaration) (t : IndexVisitor) → Lists s d t → hand_of t ≡ hand_behind (hand_of s) d
handed s d t l =
    ap {B = AtHand} (λ x. record { syntax = x; rest = t.references.rest.now }) l.syntax
    ∙ ap {B = AtHand} (λ r. record { syntax = syntax_behind d s.syntax; rest = r }) l.rest

module _ {X : Type 0} (IsOf : Met → X → Type 0) (test : Met → Bool) (list : IndexVisitor → List X) (before : Offsets)
    (one : (s : IndexVisitor) (d : Declaration) (t : IndexVisitor) → s.before ≡ before → Lists s d t → Behind IsOf (list s) (filter test (met_by s d ∷ [])) (list t)) where
  all_behind : (s : IndexVisitor) (ds : List Declaration) (t : IndexVisitor) → s.before ≡ before → Runs Lists s ds t → Behind IsOf (list s) (filter test (along (hand_of s) ds)) (list t)
  all_behind s [] t at e = none_behind IsOf (list s) (list t) (ap list e)
  all_behind s (d ∷ ds) t at (m, (step, rest)) =
      let more = subst (λ h. Behind IsOf (list m) (filter test (along h ds)) (list t)) (handed s d m step) (all_behind m ds t (step.before ∙ at) rest) in
      let later = along (hand_behind (hand_of s) d) ds in
      subst (λ l. Behind IsOf (list s) l (list t)) (sym (filter-append test (met_by s d ∷ []) later))
      (behind_on IsOf (list s) (list m) (list t) (filter test (met_by s d ∷ [])) (filter test later) (one s d m at step) more)

abbrev fields_by : ℕ → IndexVisitor → List DeclaredField
fields_by k v = list_at (map draft_fields v.drafts.messages.items) k

abbrev oneofs_by : ℕ → IndexVisitor → List OneofName
oneofs_by k v = list_at (map draft_oneofs v.drafts.messages.items) k

abbrev values_by : ℕ → IndexVisitor → List ValueType
values_by k v = list_at (map draft_value_types v.drafts.enums.items) k

abbrev methods_by : ℕ → IndexVisitor → List MethodType
methods_by k v = list_at (map stored_methods v.drafts.services.items) k

abbrev extensions_by : IndexVisitor → List ExtensionType
extensions_by v = map extension_of v.drafts.extensions.items

one_field : (before : Offsets) (k : ℕ) (s : IndexVisitor) (d : Declaration) (t : IndexVisitor) → s.before ≡ before → Lists s d t
    → Behind IsFieldOf (fields_by k s) (filter (is_part is_field (before.messages + k)) (met_by s d ∷ [])) (fields_by k t)
one_field before k s d t at l =
    subst (λ (o : Offsets). Behind IsFieldOf (fields_by k s) (filter (is_part is_field (o.messages + k)) (met_by s d ∷ [])) (fields_by k t)) at
    (part_behind IsFieldOf is_message is_field no_field s.before.messages (map draft_fields s.drafts.messages.items) (met_by s d) (map draft_fields t.drafts.messages.items) l.fields k)

one_oneof : (before : Offsets) (k : ℕ) (s : IndexVisitor) (d : Declaration) (t : IndexVisitor) → s.before ≡ before → Lists s d t
    → Behind IsOneofOf (oneofs_by k s) (filter (is_part is_oneof (before.messages + k)) (met_by s d ∷ [])) (oneofs_by k t)
one_oneof before k s d t at l =
    subst (λ (o : Offsets). Behind IsOneofOf (oneofs_by k s) (filter (is_part is_oneof (o.messages + k)) (met_by s d ∷ [])) (oneofs_by k t)) at
    (part_behind IsOneofOf is_message is_oneof no_oneof s.before.messages (map draft_oneofs s.drafts.messages.items) (met_by s d) (map draft_oneofs t.drafts.messages.items) l.oneofs k)

one_value : (before : Offsets) (k : ℕ) (s : IndexVisitor) (d : Declaration) (t : IndexVisitor) → s.before ≡ before → Lists s d t
    → Behind IsValueOf (values_by k s) (filter (is_part is_value (before.enums + k)) (met_by s d ∷ [])) (values_by k t)
one_value before k s d t at l =
    subst (λ (o : Offsets). Behind IsValueOf (values_by k s) (filter (is_part is_value (o.enums + k)) (met_by s d ∷ [])) (values_by k t)) at
    (part_behind IsValueOf is_enum is_value no_value s.before.enums (map draft_value_types s.drafts.enums.items) (met_by s d) (map draft_value_types t.drafts.enums.items) l.value_types k)

one_method : (before : Offsets) (k : ℕ) (s : IndexVisitor) (d : Declaration) (t : IndexVisitor) → s.before ≡ before → Lists s d t
    → Behind IsMethodOf (methods_by k s) (filter (is_part is_method (before.services + k)) (met_by s d ∷ [])) (methods_by k t)
one_method before k s d t at l =
    subst (λ (o : Offsets). Behind IsMethodOf (methods_by k s) (filter (is_part is_method (o.services + k)) (met_by s d ∷ [])) (methods_by k t)) at
    (part_behind IsMethodOf is_service is_method no_method s.before.services (map stored_methods s.drafts.services.items) (met_by s d) (map stored_methods t.drafts.services.items) l.methods k)

one_extension : (s : IndexVisitor) (d : Declaration) (t : IndexVisitor) → Lists s d t
    → Behind IsExtensionOf (extensions_by s) (all_of is_extension (met_by s d ∷ [])) (extensions_by t)
one_extension s d t l = each_behind IsExtensionOf is_extension (extensions_by s) (met_by s d) (extensions_by t) l.declared

abbrev message_heads : IndexVisitor → List Head
message_heads v = map draft_head v.drafts.messages.items

abbrev enum_heads : IndexVisitor → List Head
enum_heads v = map enum_draft_head v.drafts.enums.items

abbrev service_heads : IndexVisitor → List Head
service_heads v = map service_head v.drafts.services.items

-- the heads of a sort that a walk from nothing leaves
heads_there : (sort : Body → Bool) (list : IndexVisitor → List Head) → ((s : IndexVisitor) (d : Declaration) (t : IndexVisitor) → Lists s d t → Behind IsHeadOf (list s) (all_of sort (met_by s d ∷ [])) (list t))
    → (rs : List Reference) (ds : List Declaration) (s v : IndexVisitor) (made : List Head) → hand_of s ≡ before_files rs → list s ≡ [] → Runs Lists s ds v → made ≡ list v
    → AllZip IsHeadOf (all_of sort (along (before_files rs) ds)) made
heads_there sort list one rs ds s v made hand none runs same =
    let test : Met → Bool = λ m. sort m.declaration.body in
    let all = all_behind IsHeadOf test list s.before (λ s d t at l. one s d t l) s ds v refl runs in
    there IsHeadOf (filter test (along (before_files rs) ds)) (list s) (list v) made none (subst (λ h. Behind IsHeadOf (list s) (filter test (along h ds)) (list v)) hand all) same

-- a visitor that has met nothing
pub record Begins (rs : List Reference) (o : Offsets) (file : ℕ) (s : IndexVisitor) : Type 0 where
  pub hand : hand_of s ≡ before_files rs
  pub before : s.before ≡ o
  pub first : s.first ≡ file
  pub files : s.drafts.files.items ≡ []
  pub messages : s.drafts.messages.items ≡ []
  pub enums : s.drafts.enums.items ≡ []
  pub services : s.drafts.services.items ≡ []
  pub extensions : s.drafts.extensions.items ≡ []

-- the entries that a walk from nothing leaves
pub batch_of : (rs : List Reference) (before : Offsets) (first : ℕ) (ds : List Declaration) (s v : IndexVisitor) (b : Batch)
    → Begins rs before first s → Runs Lists s ds v → AreFinished v.drafts b → IsBatchOf rs before first ds b
batch_of rs before first ds s v b begun runs made = record {
  messages = heads_there is_message message_heads (λ s d t l. head_behind is_message (message_heads s) (met_by s d) (message_heads t) l.message_heads) rs ds s v _ begun.hand (ap (map draft_head) begun.messages) runs made.messages.heads;
  enums = heads_there is_enum enum_heads (λ s d t l. head_behind is_enum (enum_heads s) (met_by s d) (enum_heads t) l.enum_heads) rs ds s v _ begun.hand (ap (map enum_draft_head) begun.enums) runs made.enums.heads;
  services = heads_there is_service service_heads (λ s d t l. head_behind is_service (service_heads s) (met_by s d) (service_heads t) l.service_heads) rs ds s v _ begun.hand (ap (map service_head) begun.services) runs (ap (map service_head) made.services);
  fields = λ k.
      let test = is_part is_field (before.messages + k) in
      let all = all_behind IsFieldOf test (fields_by k) before (one_field before k) s ds v begun.before runs in
      there IsFieldOf (filter test (along (before_files rs) ds)) (fields_by k s) (fields_by k v) _ (ap (λ ms. list_at (map draft_fields ms) k) begun.messages)
      (subst (λ h. Behind IsFieldOf (fields_by k s) (filter test (along h ds)) (fields_by k v)) begun.hand all) (ap (λ l. list_at l k) made.messages.fields);
  oneofs = λ k.
      let test = is_part is_oneof (before.messages + k) in
      let all = all_behind IsOneofOf test (oneofs_by k) before (one_oneof before k) s ds v begun.before runs in
      there IsOneofOf (filter test (along (before_files rs) ds)) (oneofs_by k s) (oneofs_by k v) _ (ap (λ ms. list_at (map draft_oneofs ms) k) begun.messages)
      (subst (λ h. Behind IsOneofOf (oneofs_by k s) (filter test (along h ds)) (oneofs_by k v)) begun.hand all) (ap (λ l. list_at l k) made.messages.oneofs);
  values = λ k.
      let test = is_part is_value (before.enums + k) in
      let all = all_behind IsValueOf test (values_by k) before (one_value before k) s ds v begun.before runs in
      there IsValueOf (filter test (along (before_files rs) ds)) (values_by k s) (values_by k v) _ (ap (λ es. list_at (map draft_value_types es) k) begun.enums)
      (subst (λ h. Behind IsValueOf (values_by k s) (filter test (along h ds)) (values_by k v)) begun.hand all) (ap (λ l. list_at l k) made.enums.value_types);
  methods = λ k.
      let test = is_part is_method (before.services + k) in
      let all = all_behind IsMethodOf test (methods_by k) before (one_method before k) s ds v begun.before runs in
      there IsMethodOf (filter test (along (before_files rs) ds)) (methods_by k s) (methods_by k v) _ (ap (λ ss. list_at (map stored_methods ss) k) begun.services)
      (subst (λ h. Behind IsMethodOf (methods_by k s) (filter test (along h ds)) (methods_by k v)) begun.hand all) (ap (λ ss. list_at (map stored_methods ss) k) made.services);
  extensions =
      let test : Met → Bool = λ m. is_extension m.declaration.body in
      let all = all_behind IsExtensionOf test extensions_by before (λ s d t at l. one_extension s d t l) s ds v begun.before runs in
      there IsExtensionOf (filter test (along (before_files rs) ds)) (extensions_by s) (extensions_by v) _ (ap (map extension_of) begun.extensions)
      (subst (λ h. Behind IsExtensionOf (extensions_by s) (filter test (along h ds)) (extensions_by v)) begun.hand all) (ap (map extension_of) made.extensions);
  children = λ k.
      ap (λ l. children_at l k) made.messages.children
      ∙ all_children before k s ds v begun.before runs
      ∙ ap (λ ms. both (children_at (map draft_children ms) k) (child_places (in_message (before.messages + k) ds))) begun.messages;
  declared = λ k.
      ap (λ fs. places_at (map declared_of fs) k) made.files
      ∙ all_places first k s ds v begun.first runs
      ∙ ap (λ fs. both_places (places_at (map declared_of fs) k) (file_places (in_file (first + k) ds))) begun.files;
  members = made.messages.listed;
  synthetic = made.messages.marked;
  entries = made.messages.entries;
}
