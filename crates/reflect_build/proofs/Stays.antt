-- Entries keep their records where each record of a pool stays, or one that gives the same names
-- stands in its place.
use Rattle.std.proofs.Common.{◌≡◌, ℕ, ℤ, List, map, Option, Some, refl, sym, ap, ◌∙◌, slice_get}
use Rattle.descriptor_records.specs.Content.{FieldContent, OneofContent, EnumValueContent, EnumContent, MethodContent, ServiceContent, MessageContent, message, MessageContents, no_messages, more_messages, FileContent, file_view}
use Rattle.descriptor_records.specs.declared.file.FileDescriptorProto.{FileDescriptorProto}
use Rattle.reflect_known.specs.GivenNames.{EnumNames, ServiceNames, message_names, more_names, names_of_file}
use Rattle.reflect_known.proofs.MessageNames.{nested_of}
use Rattle.reflect_growth.specs.Settled.{bare_field, bare_oneof, bare_value, bare_enum, bare_method, bare_service, bare_message, bare_messages, bare_file, bare_of}
use Rattle.reflect_growth.proofs.Told.{enum_told, service_told, message_told, messages_told, file_told, file_seen}
use Rattle.reflect_tables.specs.Types.{PoolType}
use Rattle.reflect_index.proofs.Among.{get_map, got_map}
use Rattle.reflect_index.proofs.Behind.{mapped}
use Rattle.reflect_pool.specs.AtPaths.{Stands, HaveRecords}
use Rattle.reflect_build.proofs.Alike.{Moves, AllMove, all_move}

-- for each record of the first pool there is one in the second that gives the same names
pub record IsKeptFile (new : PoolType) (n : ℕ) (f : FileDescriptorProto) : Type 0 where
  pub own : FileDescriptorProto
  pub at : slice_get new.records n ≡ Some own
  pub moves : AllMove f own

abbrev pub KeepFiles : PoolType → PoolType → Type 0
KeepFiles old new = (n : ℕ) (f : FileDescriptorProto) → slice_get old.records n ≡ Some f
    → IsKeptFile new n f

-- a record of the one pool stands in the other, whatever sort it is of
module _ (old new : PoolType) (kept : KeepFiles old new) where
  pub stays : {X : Type 0} (along : FileDescriptorProto → List ℤ → Option X) (name_of : X → List ℕ)
      → ((f g : FileDescriptorProto) → AllMove f g → Moves along name_of f g)
      → (n : ℕ) (path : List ℤ) (name : List ℕ) → Stands along name_of old n path name
      → Stands along name_of new n path name
  stays along name_of moves n path name s =
      let f = kept n s.of_file s.there in
      let found = moves s.of_file f.own f.moves path s.own s.at in
      record {
        of_file = f.own;
        own = found.0;
        there = f.at;
        at = found.1;
        named = found.2 ∙ s.named;
      }

-- ---- settled options, of which the names that a file gives say nothing

enum_bare : (e : EnumContent) → enum_told (bare_enum e) ≡ enum_told e
enum_bare e = ap {B = EnumNames} (λ vs. record { name = e.name; values = vs })
    (mapped (λ (v : EnumValueContent). v.name) bare_value (λ v. v.name) (λ v. refl) e.value)

service_bare : (s : ServiceContent) → service_told (bare_service s) ≡ service_told s
service_bare s = ap {B = ServiceNames} (λ ms. record { name = s.name; methods = ms })
    (mapped (λ (m : MethodContent). m.name) bare_method (λ m. m.name) (λ m. refl) s.method)

mutual
  message_bare : (m : MessageContent) → message_told (bare_message m) ≡ message_told m
  message_bare (message name fields others nested enums ranges oneofs options reserved names) =
      let fs = mapped (λ (f : FieldContent). f.name) bare_field (λ f. f.name) (λ f. refl) fields in
      let xs = mapped (λ (f : FieldContent). f.name) bare_field (λ f. f.name) (λ f. refl) others in
      let es = mapped enum_told bare_enum enum_told enum_bare enums in
      let os = mapped (λ (o : OneofContent). o.name) bare_oneof (λ o. o.name) (λ o. refl) oneofs in
      let inner = messages_bare nested in
      λ i. message_names name (fs i) (inner i) (es i) (xs i) (os i)

  messages_bare : (ms : MessageContents) → messages_told (bare_messages ms) ≡ messages_told ms
  messages_bare no_messages = refl
  messages_bare (more_messages m ms) = λ i. more_names (message_bare m i) (messages_bare ms i)

file_bare : (f : FileContent) → file_told (bare_file f) ≡ file_told f
file_bare f =
    let ms = ap nested_of (mapped message_told bare_message message_told message_bare f.message_type)
    in
    let es = mapped enum_told bare_enum enum_told enum_bare f.enum_type in
    let ss = mapped service_told bare_service service_told service_bare f.service in
    let xs = mapped (λ (x : FieldContent). x.name) bare_field (λ x. x.name) (λ x. refl) f.extension
    in
    λ i. record {
      package_name = f.package_name;
      messages = ms i;
      enums = es i;
      services = ss i;
      extensions = xs i;
    }

pub names_bare : (f g : FileDescriptorProto) → bare_of g ≡ bare_of f
    → names_of_file g ≡ names_of_file f
names_bare f g e =
    file_seen g ∙ sym (file_bare (file_view g)) ∙ ap file_told e ∙ file_bare (file_view f)
    ∙ sym (file_seen f)

settled_files : (old new : PoolType) → map bare_of new.records ≡ map bare_of old.records
    → KeepFiles old new
settled_files old new same n f at =
    let found = got_map bare_of new.records n (bare_of f)
    (ap (λ l. slice_get l n) same ∙ get_map bare_of old.records n f at) in
    record {
      own = found.0;
      at = found.1;
      moves = all_move f found.0 (names_bare f found.0 found.2);
    }

pub settled_has : (old : PoolType) (records : List FileDescriptorProto)
    → map bare_of records ≡ map bare_of old.records → HaveRecords old
    → HaveRecords (record old { records = records })
settled_has old records same has =
    let new : PoolType = record old { records = records } in
    let kept = settled_files old new same in
    record {
      messages = λ i lt. stays old new kept _ _ (λ f g m. m.messages) _ _ _ (has.messages i lt);
      fields = λ i j lt less. stays old new kept _ _ (λ f g m. m.fields) _ _ _ (has.fields i j lt less);
      oneofs = λ i j lt less. stays old new kept _ _ (λ f g m. m.oneofs) _ _ _ (has.oneofs i j lt less);
      enums = λ i lt. stays old new kept _ _ (λ f g m. m.enums) _ _ _ (has.enums i lt);
      values = λ i j lt less. stays old new kept _ _ (λ f g m. m.values) _ _ _ (has.values i j lt less);
      extensions = λ i lt. stays old new kept _ _ (λ f g m. m.extensions) _ _ _ (has.extensions i lt);
      services = λ i lt. stays old new kept _ _ (λ f g m. m.services) _ _ _ (has.services i lt);
      methods = λ i j lt less. stays old new kept _ _ (λ f g m. m.methods) _ _ _ (has.methods i j lt less);
    }
