-- A message of which one in it is put into.
use Rattle.std.proofs.Common.{◌≡◌, ◌∙◌, ℕ, zero, suc, ℤ, pos, negsuc, List, [], ◌∷◌, Some, map, ap, sym, refl}
use Rattle.std.proofs.lemmas.Option.{same_Some}
use Rattle.std.specs.Option.{option_map}
use Rattle.descriptor_records.specs.Content.{OptionsContent, MessageContent, message, more_messages, messages_of, text_view, texts_view, options_view, field_view, oneof_view, enum_view, extension_range_view, message_view}
use Rattle.descriptor_records.specs.declared.message.DescriptorProto.{DescriptorProto}
use Rattle.descriptor_records.specs.declared.message.DescriptorProto.TheOpen.{DescriptorProto-F}
use Rattle.descriptor_records.specs.declared.message.DescriptorProto.TheViews.{roll-DescriptorProto, out-DescriptorProto}
use Rattle.descriptor_records.proofs.Messages.{level_view, message_view-roll, message_view-out}
use Rattle.reflect_growth.specs.Put.{step_of, with_at, nested_at, message_put}

each_put : (k : ℕ) (f : MessageContent → MessageContent) (ms : List MessageContent)
    → messages_of (with_at k f ms) ≡ nested_at k f (messages_of ms)
each_put k f [] = refl
each_put zero f (m ∷ ms) = refl
each_put (suc k) f (m ∷ ms) = ap (λ ns. more_messages m ns) (each_put k f ms)

path_of : (path : List ℤ) (number : ℤ) (k : ℕ) (rest : List ℤ)
    → step_of path ≡ Some (number, k, rest) → path ≡ number ∷ pos k ∷ rest
path_of [] number k rest e = absurd (cc)
path_of (n ∷ []) number k rest e = absurd (cc)
path_of (n ∷ pos place ∷ more) number k rest e =
    let same = same_Some (n, place, more) (number, k, rest) e in
    ap (λ (s : ℤ × ℕ × List ℤ). s.0 ∷ pos s.1 ∷ s.2) same
path_of (n ∷ negsuc m ∷ more) number k rest e = absurd (cc)

-- a level with other messages in it
abbrev pub level_with : DescriptorProto-F DescriptorProto → List MessageContent → MessageContent
level_with m nested =
    message (text_view m.name) (map field_view m.field.items) (map field_view m.extension.items)
    (messages_of nested) (map enum_view m.enum_type.items)
    (map extension_range_view m.extension_range.items) (map oneof_view m.oneof_decl.items)
    (option_map options_view m.options) m.reserved_range.items (texts_view m.reserved_name)

level_put : (m : DescriptorProto-F DescriptorProto) (k : ℕ) (rest : List ℤ) (o : OptionsContent)
    → level_with m (with_at k (message_put rest o) (map message_view m.nested_type.items))
    ≡ message_put (pos 3 ∷ pos k ∷ rest) o (level_view m)
level_put m k rest o =
    ap (λ ns. message (text_view m.name) (map field_view m.field.items)
    (map field_view m.extension.items) ns (map enum_view m.enum_type.items)
    (map extension_range_view m.extension_range.items) (map oneof_view m.oneof_decl.items)
    (option_map options_view m.options) m.reserved_range.items (texts_view m.reserved_name))
    (each_put k (message_put rest o) (map message_view m.nested_type.items))

pub nested_put : (m : DescriptorProto) (x : DescriptorProto-F DescriptorProto) (path : List ℤ)
    (number : ℤ) (k : ℕ) (rest : List ℤ) (o : OptionsContent) → number ≡ pos 3
    → step_of path ≡ Some (number, k, rest)
    → level_view x ≡ level_with (out-DescriptorProto m)
    (with_at k (message_put rest o) (map message_view (out-DescriptorProto m).nested_type.items))
    → message_view (roll-DescriptorProto x) ≡ message_put path o (message_view m)
nested_put m x path number k rest o three step e =
    let at = path_of path number k rest step ∙ ap (λ n. n ∷ pos k ∷ rest) three in
    message_view-roll x ∙ e ∙ level_put (out-DescriptorProto m) k rest o
    ∙ ap (λ p. message_put p o (level_view (out-DescriptorProto m))) (sym at)
    ∙ sym (ap (message_put path o) (message_view-out m))
