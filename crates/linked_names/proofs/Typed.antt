-- The options that linking reads itself say nothing of names, and nothing of what is in a oneof.
use Rattle.std.proofs.Common.{◌≡◌, inl, inr, ℤ, List, [], ◌∷◌, map, refl, ap, sym, subst}
use Rattle.std.specs.List.{AllByRecursion}
use Rattle.descriptor_records.specs.Content.{Text, FieldContent, EnumContent, MessageContent, message, MessageContents, no_messages, more_messages, messages_of, FileContent, file_view}
use Rattle.descriptor_records.specs.declared.file.FileDescriptorProto.{FileDescriptorProto}
use Rattle.option_parts.specs.TypedOptions.{typed_field, typed_enum, typed_message, typed_messages, typed_file, TypedFiles}
use Rattle.source_records.specs.LoneLists.{IsLoneList, HasLoneLists, HaveLoneLists, GivesLoneLists}
use Rattle.source_records.specs.SourceNames.{IsSpelled, AreSpelled, HasSpelledValues, Declares, HaveGroupNames, IsPart, AreParts, IsSourceMessage, AreSourceMessages, IsSourceFile}
use Rattle.linked_view.proofs.Completes.{mapped_all, all_mapped}

typed_spelled : (fs : List FieldContent) → AreSpelled fs → AreSpelled (map typed_field fs)
typed_spelled = mapped_all typed_field (λ f. IsSpelled f.name)

typed_values : (es : List EnumContent) → AllByRecursion HasSpelledValues es
    → AllByRecursion HasSpelledValues (map typed_enum es)
typed_values = mapped_all typed_enum HasSpelledValues

typed_declares : (ms : MessageContents) (t : Text) → Declares ms t
    → Declares (typed_messages ms) t
typed_declares no_messages t h = h
typed_declares (more_messages (message name fields extensions nested enums ranges oneofs options
    reserved names) ms) t (inl e) = inl e
typed_declares (more_messages (message name fields extensions nested enums ranges oneofs options
    reserved names) ms) t (inr h) = inr (typed_declares ms t h)

typed_groups : (nested : MessageContents) (fs : List FieldContent) → HaveGroupNames nested fs
    → HaveGroupNames (typed_messages nested) (map typed_field fs)
typed_groups nested [] h = tt
typed_groups nested (f ∷ fs) h = (
  λ is.
      let group = h.0 is in
      record {
        type = group.type;
        typed = group.typed;
        spelled = group.spelled;
        there = typed_declares nested group.type group.there;
        lower = group.lower;
      },
  typed_groups nested fs h.1,
)

typed_part : (name : Text) (n : ℤ) (f : FieldContent) → IsPart name n f
    → IsPart name n (typed_field f)
typed_part name n f h = record {
  named = h.named;
  numbered = h.numbered;
  plain = h.plain;
  usual = h.usual;
  alone = h.alone;
}

typed_parts : (fs : List FieldContent) → AreParts fs → AreParts (map typed_field fs)
typed_parts [] h = h
typed_parts (a ∷ []) h = h
typed_parts (a ∷ b ∷ []) h = (typed_part _ _ a h.0, typed_part _ _ b h.1)
typed_parts (a ∷ b ∷ c ∷ fs) h = h

mutual
  typed_source : (m : MessageContent) → IsSourceMessage m → IsSourceMessage (typed_message m)
  typed_source (message name fields extensions nested enums ranges oneofs options reserved names) h =
      let own = h.0 in (
        record {
          named = own.named;
          fields_are = typed_spelled fields own.fields_are;
          extensions_are = typed_spelled extensions own.extensions_are;
          values = typed_values enums own.values;
          groups = typed_groups nested fields own.groups;
          parts = λ is. typed_parts fields (own.parts is);
          none_extended = λ is. ap (map typed_field) (own.none_extended is);
          none_nested = λ is. ap typed_messages (own.none_nested is);
        },
        typed_sources nested h.1,
      )

  typed_sources : (ms : MessageContents) → AreSourceMessages ms
      → AreSourceMessages (typed_messages ms)
  typed_sources no_messages h = h
  typed_sources (more_messages m ms) h = (typed_source m h.0, typed_sources ms h.1)

typed_list : (ms : List MessageContent)
    → typed_messages (messages_of ms) ≡ messages_of (map typed_message ms)
typed_list [] = refl
typed_list (m ∷ ms) = ap (more_messages (typed_message m)) (typed_list ms)

typed_file_named : (f : FileContent) → IsSourceFile f → IsSourceFile (typed_file f)
typed_file_named f h = record {
  packaged = h.packaged;
  messages = subst AreSourceMessages (typed_list f.message_type)
      (typed_sources (messages_of f.message_type) h.messages);
  enums = typed_values f.enum_type h.enums;
  extensions = typed_spelled f.extension h.extensions;
}

-- ---- lists

mutual
  typed_lone : (m : MessageContent) → HasLoneLists m → HasLoneLists (typed_message m)
  typed_lone (message name fields extensions nested enums ranges oneofs options reserved names) h =
      (mapped_all typed_field IsLoneList fields h.0, typed_lones nested h.1)

  typed_lones : (ms : MessageContents) → HaveLoneLists ms → HaveLoneLists (typed_messages ms)
  typed_lones no_messages h = h
  typed_lones (more_messages m ms) h = (typed_lone m h.0, typed_lones ms h.1)

typed_file_lone : (f : FileContent) → GivesLoneLists f → GivesLoneLists (typed_file f)
typed_file_lone f h =
    subst HaveLoneLists (typed_list f.message_type) (typed_lones (messages_of f.message_type) h)

-- ---- files

module _ (P : FileContent → Type 0) (kept : (f : FileContent) → P f → P (typed_file f)) where
  all_typed : (fs : List FileContent) → AllByRecursion P fs
      → AllByRecursion P (map typed_file fs)
  all_typed [] h = tt
  all_typed (f ∷ fs) h = (kept f h.0, all_typed fs h.1)

  -- what these options say nothing of stays
  typed_keep : (files typed : List FileDescriptorProto) → TypedFiles files typed
      → AllByRecursion (λ (f : FileDescriptorProto). P (file_view f)) files
      → AllByRecursion (λ (f : FileDescriptorProto). P (file_view f)) typed
  typed_keep files typed same all =
      all_mapped file_view P typed
      (subst (AllByRecursion P) (sym same)
      (all_typed (map file_view files) (mapped_all file_view P files all)))

pub typed_files : (files typed : List FileDescriptorProto) → TypedFiles files typed
    → AllByRecursion (λ (f : FileDescriptorProto). IsSourceFile (file_view f)) files
    → AllByRecursion (λ (f : FileDescriptorProto). IsSourceFile (file_view f)) typed
typed_files = typed_keep IsSourceFile typed_file_named

pub typed_lists : (files typed : List FileDescriptorProto) → TypedFiles files typed
    → AllByRecursion (λ (f : FileDescriptorProto). GivesLoneLists (file_view f)) files
    → AllByRecursion (λ (f : FileDescriptorProto). GivesLoneLists (file_view f)) typed
typed_lists = typed_keep GivesLoneLists typed_file_lone
