-- No field that a batch declares is a list in a oneof, where the records of its files have none.
use Rattle.std.proofs.Common.{◌≡◌, ◌++◌, inl, inr, ℕ, List, [], ◌∷◌, map, Option, None, Some, refl, subst}
use Rattle.std.specs.List.{AllByRecursion, Contains, flat_map}
use Rattle.std.proofs.lemmas.List.Elements.{Contains-append_cases}
use Rattle.descriptor_records.specs.Content.{Text, EnumContent, FileContent, MessageContent, MessageContents, ServiceContent, file_view, message, messages_of, more_messages, no_messages}
use Rattle.descriptor_records.specs.declared.file.FileDescriptorProto.{FileDescriptorProto}
use Rattle.reflect_declarations.specs.Batches.{batch_declarations}
use Rattle.reflect_declarations.specs.Declarations.{Declaration}
use Rattle.reflect_declarations.specs.declared.offsets.Offsets.{Offsets}
use Rattle.reflect_index.proofs.Among.{Among, of_all, place_of}
use Rattle.schema_view.specs.Declarations as view
use Rattle.schema_view.specs.Declarations.{of_field, declarations, in_message, in_messages, one_enum, one_extension, one_field, one_method, one_oneof, one_service, one_value}
use Rattle.schema_view.specs.Files.{join, package_of, text_of}
use Rattle.schema_view.proofs.Lists.{contains_cases, contains_flat_cases, contains_map_cases, contains_none}
use Rattle.source_records.specs.LoneLists.{IsLoneList, HasLoneLists, HaveLoneLists, GivesLoneLists}
use Rattle.linked_view.proofs.Indexed.{among}
use Rattle.linked_view.proofs.Places.{get_contains}
use Rattle.linked_view.proofs.Shown.{IsShown, shown_in}
use Rattle.linked_view.proofs.Walked.{seen_body}

-- it is no such field
abbrev IsLoneBody : view.Body → Type 0
IsLoneBody b = elim b [ of_field f ↦ IsLoneList f | _ ↦ Unit {0} ]

abbrev IsLoneSeen : Option view.Body → Type 0
IsLoneSeen None = Unit {0}
IsLoneSeen (Some b) = IsLoneBody b

abbrev pub IsLone : Declaration → Type 0
IsLone d = IsLoneSeen (seen_body d.body)

-- ---- what the content of a file declares

record AreLone (ds : List view.Declaration) : Type 0 where
  at : (d : view.Declaration) → Contains ds d → IsLoneBody d.body

one_more : (d : view.Declaration) (ds : List view.Declaration) → IsLoneBody d.body → AreLone ds
    → AreLone (d ∷ ds)
one_more d ds here h = record {
  at = λ e i. elim (contains_cases d ds e i) [
    | inl same ↦ subst (λ (x : view.Declaration). IsLoneBody x.body) same here
    | inr j ↦ h.at e j
  ];
}

both_lone : (a b : List view.Declaration) → AreLone a → AreLone b → AreLone (a ++ b)
both_lone a b h k = record {
  at = λ e i. elim (Contains-append_cases a b e i) [ inl j ↦ h.at e j | inr j ↦ k.at e j ];
}

-- one declaration of each of a list, or several
each_lone : {A : Type 0} (one : A → view.Declaration) (xs : List A)
    → ((x : A) → Contains xs x → IsLoneBody (one x).body) → AreLone (map one xs)
each_lone one xs h = record {
  at = λ e i. (
      let x = contains_map_cases one xs e i in
      subst (λ (d : view.Declaration). IsLoneBody d.body) x.2 (h x.0 x.1));
}

all_lone : {A : Type 0} (some : A → List view.Declaration) (xs : List A)
    → ((x : A) → Contains xs x → AreLone (some x)) → AreLone (flat_map some xs)
all_lone some xs h = record {
  at = λ e i. (let x = contains_flat_cases some xs e i in (h x.0 x.1).at e x.2);
}

enum_lone : (scope : Text) (e : EnumContent) → AreLone (one_enum scope e)
enum_lone scope e = one_more _ _ tt (each_lone (one_value scope) e.value (λ v i. tt))

service_lone : (scope : Text) (s : ServiceContent) → AreLone (one_service scope s)
service_lone scope s =
    one_more _ _ tt (each_lone (one_method (join scope (text_of s.name))) s.method (λ m i. tt))

mutual
  message_lone : (scope : Text) (m : MessageContent) → HasLoneLists m
      → AreLone (in_message scope m)
  message_lone scope (message name fs xs nested es rs os o rr rn) h =
      let n = join scope (text_of name) in
      one_more _ _ tt
      (both_lone _ _
      (each_lone (one_field n) fs (λ f i. of_all IsLoneList f fs h.0 (among fs f i)))
      (both_lone _ _ (messages_lone n nested h.1)
      (both_lone _ _ (all_lone (one_enum n) es (λ e i. enum_lone n e))
      (both_lone _ _ (each_lone (one_extension n) xs (λ x i. tt))
      (each_lone (one_oneof n) os (λ o i. tt))))))

  messages_lone : (scope : Text) (ms : MessageContents) → HaveLoneLists ms
      → AreLone (in_messages scope ms)
  messages_lone scope no_messages h = record { at = λ e i. absurd (contains_none e i) }
  messages_lone scope (more_messages m ms) h =
      both_lone _ _ (message_lone scope m h.0) (messages_lone scope ms h.1)

one_of : (ms : List MessageContent) → HaveLoneLists (messages_of ms) → (m : MessageContent)
    → Contains ms m → HasLoneLists m
one_of [] h m i = absurd (contains_none m i)
one_of (x ∷ ms) h m i = elim (contains_cases x ms m i)
    [ inl same ↦ subst HasLoneLists same h.0 | inr j ↦ one_of ms h.1 m j ]

file_lone : (f : FileContent) → GivesLoneLists f → AreLone (declarations f)
file_lone f h =
    let n = package_of f in
    both_lone _ _
    (all_lone (in_message n) f.message_type (λ m i.
    message_lone n m (one_of f.message_type h m i)))
    (both_lone _ _ (all_lone (one_enum n) f.enum_type (λ e i. enum_lone n e))
    (both_lone _ _ (all_lone (one_service n) f.service (λ s i. service_lone n s))
    (each_lone (one_extension n) f.extension (λ x i. tt))))

-- ---- what a batch declares

pub batch_lone : (o : Offsets) (i : ℕ) (fs : List FileDescriptorProto)
    → AllByRecursion (λ (f : FileDescriptorProto). GivesLoneLists (file_view f)) fs
    → (d : Declaration) → Among d (batch_declarations o i fs) → IsLone d
batch_lone o i fs all d h = by (seen_body d.body) refl where
  shown : IsShown i fs d
  shown =
      let spot = place_of d (batch_declarations o i fs) h in
      shown_in o i fs d (get_contains (batch_declarations o i fs) spot.0 d spot.1)

  gives : GivesLoneLists (file_view shown.own)
  gives = of_all (λ (f : FileDescriptorProto). GivesLoneLists (file_view f)) shown.own fs all
      (among fs shown.own (get_contains fs shown.place shown.own shown.at))

  by : (o : Option view.Body) → seen_body d.body ≡ o → IsLoneSeen o
  by None is = tt
  by (Some b) is =
      let v = shown.shown b is in
      subst IsLoneBody v.3 ((file_lone (file_view shown.own) gives).at v.0 v.1)
