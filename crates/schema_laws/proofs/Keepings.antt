-- What the records of messages say of their names and of the numbers that they keep for extensions,
-- each with what those in it say. Neither linking nor settling changes it.
use Rattle.std.proofs.Common.{◌≡◌, List, [], ◌∷◌, map, refl, sym, ap, ◌∙◌}
use Rattle.descriptor_records.specs.Content.{Text, MessageContent, message, MessageContents, no_messages, more_messages, FileContent, file_view}
use Rattle.descriptor_records.specs.declared.file.FileDescriptorProto.{FileDescriptorProto}
use Rattle.reflect_growth.specs.Settled.{bare_range, bare_message, bare_messages, bare_file, bare_of}
use Rattle.reflect_index.specs.Rewriting.{Rewrites, write_each, write_type, write_message, write_messages, write_file, written}
use Rattle.reflect_names.specs.References.{Target}
use Rattle.reflect_names.specs.ReferenceSteps.{target_of}
use Rattle.reflect_names.specs.declared.resolve_visitor.Reference.{Reference}
use Rattle.schema_view.specs.Declarations.{Range, extension_range}
use Rattle.schema_view.specs.Files.{text_of, package_of}
use Rattle.schema_view.proofs.Renames.{map_same}

mutual
  pub data Keeping : Type 0 where
    keeping : (name : Text) (ranges : List Range) (nested : Keepings) → Keeping

  pub data Keepings : Type 0 where
    no_keepings : Keepings
    more_keepings : Keeping → Keepings → Keepings

abbrev mutual
  pub kept_by : MessageContent → Keeping
  kept_by (message name fields others nested enums ranges oneofs options reserved names) =
      keeping (text_of name) (map extension_range ranges) (kept_by_all nested)

  pub kept_by_all : MessageContents → Keepings
  kept_by_all no_messages = no_keepings
  kept_by_all (more_messages m ms) = more_keepings (kept_by m) (kept_by_all ms)

-- a file's package, and what its messages keep
pub record FileKeeping : Type 0 where
  pub package_name : Text
  pub messages : List Keeping

abbrev pub kept_in : FileContent → FileKeeping
kept_in f = record { package_name = package_of f; messages = map kept_by f.message_type }

abbrev pub kept_of : FileDescriptorProto → FileKeeping
kept_of f = kept_in (file_view f)

-- ---- where options are settled

mutual
  message_bare : (m : MessageContent) → kept_by (bare_message m) ≡ kept_by m
  message_bare (message name fields others nested enums ranges oneofs options reserved names) =
      let rs = map_same extension_range bare_range extension_range (λ r. refl) ranges in
      let inner = messages_bare nested in
      λ i. keeping (text_of name) (rs i) (inner i)

  messages_bare : (ms : MessageContents) → kept_by_all (bare_messages ms) ≡ kept_by_all ms
  messages_bare no_messages = refl
  messages_bare (more_messages m ms) = λ i. more_keepings (message_bare m i) (messages_bare ms i)

file_bare : (f : FileContent) → kept_in (bare_file f) ≡ kept_in f
file_bare f =
    ap {B = FileKeeping} (λ ms. record { package_name = package_of f; messages = ms })
    (map_same kept_by bare_message kept_by message_bare f.message_type)

pub settled_keep : (fs gs : List FileDescriptorProto) → map bare_of fs ≡ map bare_of gs
    → map kept_of fs ≡ map kept_of gs
settled_keep fs gs same =
    sym (map_same kept_in bare_of kept_of (λ f. file_bare (file_view f)) fs)
    ∙ ap (map kept_in) same
    ∙ map_same kept_in bare_of kept_of (λ f. file_bare (file_view f)) gs

-- ---- where references are written

each_keeps : {A B : Type 0} (N : A → B) (one : Rewrites A)
    → ((ts : List Target) (x : A) → N (one ts x).0 ≡ N x) → (ts : List Target) (xs : List A)
    → map N (write_each one ts xs).0 ≡ map N xs
each_keeps N one same ts [] = refl
each_keeps N one same ts (x ∷ xs) = λ i. same ts x i ∷ each_keeps N one same (one ts x).1 xs i

mutual
  message_written : (ts : List Target) (m : MessageContent)
      → kept_by (write_message ts m).0 ≡ kept_by m
  message_written ts (message name fields others nested enums ranges oneofs options reserved names) =
      ap (λ ks. keeping (text_of name) (map extension_range ranges) ks)
      (messages_written (write_each write_type ts fields).1 nested)

  messages_written : (ts : List Target) (ms : MessageContents)
      → kept_by_all (write_messages ts ms).0 ≡ kept_by_all ms
  messages_written ts no_messages = refl
  messages_written ts (more_messages m ms) =
      λ i. more_keepings (message_written ts m i) (messages_written (write_message ts m).1 ms i)

file_written : (ts : List Target) (f : FileContent) → kept_in (write_file ts f).0 ≡ kept_in f
file_written ts f =
    ap {B = FileKeeping} (λ ms. record { package_name = package_of f; messages = ms })
    (each_keeps kept_by write_message message_written ts f.message_type)

pub written_keep : (rs : List Reference) (fs : List FileContent)
    → map kept_in (written rs fs) ≡ map kept_in fs
written_keep rs fs = each_keeps kept_in write_file file_written (map target_of rs) fs
