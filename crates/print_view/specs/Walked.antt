-- What walks over messages give, in the words of the model: what stands under one number behind the
-- other, by ascending number.
use Rattle.std.specs.Prelude.{ℕ, not, cond, Bool, List, [], ◌∷◌}
use Rattle.std.specs.List.{filter, flat_map}
use Rattle.reflect_wire.specs.Records.{Payload}
use Rattle.reflect_message.specs.Known.{holds_floats}
use Rattle.reflect_message.specs.Names.{DynamicMessage}
use Rattle.reflect_contents.specs.Walked.{Holding, set_extensions_of}
use Rattle.protobuf_model.specs.Bytes.{field_numbers, is_declared, numbered}
use Rattle.protobuf_model.specs.Values.{Content, Held, content, records, Message}
use Rattle.message_view.specs.Types.{field_at}
use Rattle.message_view.specs.Views.{content_view}

-- a field or an extension by its number, with what is seen of its value
abbrev pub seen_as : Holding → ℕ × Content
seen_as h = (h.0.number, content_view h.1)

-- what a message holds in extensions that are set and that messages hold, which are those of no
-- floating-point numbers
abbrev pub held_extensions_of : DynamicMessage → List Holding
held_extensions_of m =
    filter (λ (h : Holding). not (holds_floats m.descriptor.pool.now h.0)) (set_extensions_of m)

-- the number is that of a field of the message's type, not of an extension
abbrev pub is_field : DynamicMessage → ℕ → Bool
is_field m n = is_declared (field_at m.descriptor.pool.now m.descriptor.index n)

-- what stands under a number, where it is a content, and where it is records
abbrev pub content_at : ℕ → Held → List (ℕ × Content)
content_at n (content c) = (n, c) ∷ []
content_at n (records ps) = []

abbrev pub records_at : ℕ → Held → List (ℕ × Payload)
records_at n (content c) = []
records_at n (records ps) = numbered n ps

-- the contents of a message under the numbers that pass, and all its records
abbrev pub contents_under : (ℕ → Bool) → Message → List (ℕ × Content)
contents_under test m = flat_map (λ n. cond (test n) (content_at n (m n)) []) field_numbers

abbrev pub kept_records : Message → List (ℕ × Payload)
kept_records m = flat_map (λ n. records_at n (m n)) field_numbers
