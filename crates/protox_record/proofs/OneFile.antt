-- A file has one record.
use Rattle.std.proofs.Common.{◌≡◌, ◌∙◌, List, [], ◌∷◌, refl, ap, sym}
use Rattle.std.specs.List.{flat_map}
use Rattle.descriptor_records.specs.Content.{FileContent, MessageContent, MessageContents, messages_of, more_messages, no_messages}
use Rattle.protox_lex.specs.Class.{Text}
use Rattle.protox_message_records.proofs.OneRecord.{one_types}
use Rattle.protox_record.specs.FileRecords.{IsFile, file_with, types_at}
use Rattle.protox_tree.specs.FileTree.{syntax_of}
use Rattle.protox_tree.specs.FileView.{file_view}
use Rattle.protox_tree.specs.declared.file.File.{File}

listed : MessageContents → List MessageContent
listed no_messages = []
listed (more_messages m ms) = m ∷ listed ms

listed_is : (ms : List MessageContent) → listed (messages_of ms) ≡ ms
unfolding listed
listed_is [] = refl
listed_is (m ∷ ms) = ap (λ xs. m ∷ xs) (listed_is ms)

pub same_file : (name : Text) (f : File) (a b : FileContent) → IsFile name f a → IsFile name f b → a ≡ b
same_file name f a b h k =
    let types : messages_of a.message_type ≡ messages_of b.message_type =
    one_types (syntax_of (file_view f).syntax) (flat_map types_at f.items.items) (messages_of a.message_type) (messages_of b.message_type) h.types_are k.types_are in
    let same : a.message_type ≡ b.message_type = sym (listed_is a.message_type) ∙ ap listed types ∙ listed_is b.message_type in
    h.is ∙ ap (file_with name f) same ∙ sym k.is
