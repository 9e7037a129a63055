-- The files of sources have names without dots, as they come to linking.
use Rattle.std.proofs.Common.{◌∙◌, List, [], ◌∷◌, map, inl, inr, subst, sym}
use Rattle.std.proofs.lemmas.List.Elements.{All-contains, All-filter, All-from_recursion, Contains-append_cases}
use Rattle.std.specs.List.{All, AllByRecursion, Contains}
use Rattle.descriptor_records.specs.Content.{EnumContent, FieldContent, FileContent, MessageContent, message, MessageContents, no_messages, more_messages, file_view}
use Rattle.option_parts.specs.TypedOptions.{typed_enum, typed_field, typed_file, typed_message, typed_messages}
use Rattle.reflect_tables.specs.Types.{PoolType}
use Rattle.schema_view.specs.Lawful.{sources}
use Rattle.schema_view.specs.Plain.{ArePlainMessages, HasPlainName, IsPlainEnum, IsPlainFile, IsPlainMessage}
use Rattle.schema_view.proofs.Lists.{contains_none}
use Rattle.schema_core.specs.declared.schema.Schema.{Schema}
use Rattle.schema_laws.specs.Histories.{AreNewFilesOf, BatchLinked, IsMadeBy, Sources}
use Rattle.schema_laws.proofs.Lists.{all_turned}
use Rattle.schema_laws.proofs.NewFiles.{lacks, new_seen}
use Rattle.schema_laws.proofs.SourceFiles.{undotted_of}

-- ---- the options that linking reads itself say nothing of names

abbrev HasUndottedName : FieldContent → Type 0
HasUndottedName f = HasPlainName f.name

fields_stay : (fs : List FieldContent) → AllByRecursion HasUndottedName fs → AllByRecursion HasUndottedName (map typed_field fs)
fields_stay = all_turned typed_field HasUndottedName HasUndottedName (λ f h. h)

enum_stays : (e : EnumContent) → IsPlainEnum e → IsPlainEnum (typed_enum e)
enum_stays e h = record { name = h.name; values = h.values }

enums_stay : (es : List EnumContent) → AllByRecursion IsPlainEnum es → AllByRecursion IsPlainEnum (map typed_enum es)
enums_stay = all_turned typed_enum IsPlainEnum IsPlainEnum enum_stays

mutual
  message_stays : (m : MessageContent) → IsPlainMessage m → IsPlainMessage (typed_message m)
  message_stays (message name fields extensions nested enums ranges oneofs options reserved names) h =
      (h.0, fields_stay fields h.1, messages_stay nested h.2, enums_stay enums h.3, fields_stay extensions h.4, h.5)

  messages_stay : (ms : MessageContents) → ArePlainMessages ms → ArePlainMessages (typed_messages ms)
  messages_stay no_messages h = tt
  messages_stay (more_messages m ms) h = (message_stays m h.0, messages_stay ms h.1)

file_stays : (f : FileContent) → IsPlainFile f → IsPlainFile (typed_file f)
file_stays f h = record {
  messages = all_turned typed_message IsPlainMessage IsPlainMessage message_stays f.message_type h.messages;
  enums = enums_stay f.enum_type h.enums;
  services = h.services;
  extensions = fields_stay f.extension h.extensions;
}

-- ---- the files of a history

batch_undotted : (p : PoolType) (given : Sources) (batch : List FileContent) → AreNewFilesOf p given batch → All IsPlainFile batch
batch_undotted p given batch (files, typed, w, are, copied, of, is) =
    let written : AllByRecursion IsPlainFile (map typed_file (map file_view files)) = all_turned typed_file IsPlainFile IsPlainFile file_stays (map file_view files) (undotted_of given files are) in
    let all : AllByRecursion IsPlainFile (map file_view typed) = subst (AllByRecursion IsPlainFile) (sym copied) written in
    let new = All-filter (lacks w.indexes) IsPlainFile (map file_view typed) (All-from_recursion IsPlainFile (map file_view typed) all) in
    subst (All IsPlainFile) (sym (new_seen w.indexes typed) ∙ is) new

pub undotted : (batches : List (List FileContent)) (s : Schema) → IsMadeBy BatchLinked batches s → (f : FileContent) → Contains (sources batches) f → IsPlainFile f
undotted [] s made f i = absurd (contains_none f i)
undotted (last ∷ earlier) s (old, before, add, pool) f i = elim (Contains-append_cases last (sources earlier) f i) [
  | inl j ↦ All-contains IsPlainFile last f (batch_undotted old.pool add.given last add.files) j
  | inr j ↦ undotted earlier old before f j
]
