-- The message that a text's fields give, one behind the other, from one that there is before
-- (protobuf.dev, "Text Format Language Specification", Semantics).
use Rattle.std.specs.Prelude.{ℕ, ℤ, ◌==◌, ◌^◌, ◌||◌, ◌&&◌, nat_lt, cond, Bool, true, false, List, [], ◌∷◌, ◌++◌, length, map, Option, None, Some, option_map, option_and_then}
use Rattle.std.specs.List.{flat_map, list_any}
use Rattle.protox_lex.specs.Class.{Text}
use Rattle.protobuf_model.specs.Values.{Single, text, blob, Content, single, message, Held, content, records, Message, absent, nothing}
use Rattle.protobuf_model.specs.Types.{Name, Scalar, Kind, nested, Part, Key, Label, one, many, keyed, Field, oneof_of, rival}
use Rattle.protobuf_model.specs.Types as kinds
use Rattle.protobuf_model.specs.Meaning.{settle, items, if_any, pairs, if_some, put_all}
use Rattle.protobuf_model.specs.Bytes.{field_numbers, bytes_of}
use Rattle.text_model.specs.Tree.{FullName, FieldName, plain, extension, expansion, ScalarValue, Value, scalar, braced, Values, no_values, more_values, Given, one_scalar, one_message, listed, Fields, no_fields, more_fields}
use Rattle.text_model.specs.Schemas.{Names, Schema, Shape, shape_of}
use Rattle.text_model.specs.Scalars.{scalar_in}

-- what a value is read as: a scalar, with the numbers of an enum's names, or a message
pub data Wanted : Type 0 where
  of_scalar : (Text → Option ℤ) → Scalar → Wanted
  of_message : Shape → Wanted

abbrev pub wanted_in : Schema → (Text → Option ℤ) → Kind → Wanted
wanted_in w enum (kinds.scalar k) = of_scalar enum k
wanted_in w enum (nested frame u) = of_message (shape_of w u)

-- of the values of a field: a map's are its entries
abbrev pub wanted_of : Schema → Names → ℕ → Part → Label → Wanted
wanted_of w names n part (keyed key) = of_message (shape_of w (names.entry n))
wanted_of w names n part _ = wanted_in w (names.enum_number n) part.kind

abbrev pub scalar_content : Wanted → ScalarValue → Option Content
scalar_content (of_scalar enum k) s = option_map single (scalar_in enum k s)
scalar_content (of_message s) v = None

abbrev pub message_content : Wanted → (Shape → Option Message) → Option Content
message_content (of_message s) fill = option_map message (fill s)
message_content (of_scalar enum k) fill = None

-- the key and the value of an entry; each is its default where the entry has none
abbrev pub key_of : Key → Held → Single
key_of key (content (single v)) = v
key_of key _ = key.default

abbrev pub default_of : Part → Kind → Content
default_of part (kinds.scalar k) = single part.default
default_of part (nested frame u) = message nothing

abbrev pub value_of : Part → Held → Content
value_of part (content c) = c
value_of part (records ps) = default_of part part.kind

abbrev pub entry_of : Key → Part → Content → Single × Content
entry_of key part (message m) = (key_of key (m 1), value_of part (m 2))
entry_of key part c = (key.default, c)

abbrev pub is_set : Held → Bool
is_set (content c) = true
is_set (records ps) = false

-- another member of the field's oneof is set
abbrev pub has_rival : (ℕ → Option Field) → ℕ → Message → Bool
has_rival type n m =
    elim (oneof_of (type n)) [
      | None ↦ false
      | Some o ↦ list_any (λ q. rival type n q && is_set (m q)) field_numbers
    ]

-- the message with this under a number, and nothing under the other members of its oneof
abbrev pub assign : (ℕ → Option Field) → ℕ → Held → Message → Message
assign type n h m = λ q. cond (q == n) h (cond (rival type n q) absent (m q))

-- a content as a field's value: a default without presence is not set
abbrev pub settled : Part → Content → Held
settled part (single v) = settle part v
settled part c = content c

-- one value, where neither the field nor another member of its oneof is set
abbrev pub set_one : (ℕ → Option Field) → ℕ → Part → Message → Content → Option Message
set_one type n part m c =
    cond (is_set (m n) || has_rival type n m) None (Some (assign type n (settled part c) m))

-- values behind those of a list, or entries over those of equal keys
abbrev pub add_all : (ℕ → Option Field) → ℕ → Part → Label → Message → List Content → Option Message
add_all type n part one m cs = None
add_all type n part (many packed) m cs = Some (assign type n (if_any (items (m n) ++ cs)) m)
add_all type n part (keyed key) m cs =
    Some (assign type n (if_some (put_all (pairs (m n)) (map (entry_of key part) cs))) m)

-- what is given by itself to a field
abbrev pub add_one : (ℕ → Option Field) → ℕ → Part → Label → Message → Content → Option Message
add_one type n part one m c = set_one type n part m c
add_one type n part l m c = add_all type n part l m (c ∷ [])

-- words with dots between them
abbrev pub written : FullName → Text
written n = n.first ++ flat_map (λ w. 46 ∷ w) n.others

-- a field, which the shape has
abbrev pub with_field : Shape → Option ℕ → (ℕ → Field → Option Message) → Option Message
with_field s o give = option_and_then (λ n. option_and_then (give n) (s.fields n)) o

-- a type's URL and a message's bytes, in an Any, over what stood there
abbrev pub hold : Shape → Text → Text → Message → Option Message
hold s url bytes m =
    with_field s (Some 1) (λ n f. with_field s (Some 2) (λ q g.
    Some (assign s.fields q (settle g.part (blob bytes))
    (assign s.fields n (settle f.part (text url)) m))))

-- in an Any the message of a known type, of no more bytes than a length can say
abbrev pub expanded : Schema → Shape → (domain name : FullName) → Message → (Name → Option Message)
    → Option Message
expanded w s domain name m fill =
    cond s.is_any
    (option_and_then (λ t. option_and_then (λ b.
    cond (nat_lt (length (bytes_of w.types t b)) (2 ^ 64))
    (hold s (written domain ++ 47 ∷ written name) (bytes_of w.types t b) m) None)
    (fill t)) (w.message (written name))) None

-- what stands under a name, given how fields are set and how the message of an expansion is filled
abbrev pub named_value : Schema → Shape → FieldName → Message
    → (ℕ → Field → Option Message) → (Name → Option Message) → Option Message
named_value w s (plain name) m give fill = with_field s (s.names.field name) give
named_value w s (extension name) m give fill = with_field s (s.names.extension (written name)) give
named_value w s (expansion domain name) m give fill = expanded w s domain name m fill

abbrev mutual
  pub value_content : Schema → Wanted → Value → Option Content
  value_content w wanted (scalar s) = scalar_content wanted s
  value_content w wanted (braced b fs) = message_content wanted (λ s. value w s fs nothing)

  pub values_contents : Schema → Wanted → Values → Option (List Content)
  values_contents w wanted no_values = Some []
  values_contents w wanted (more_values v vs) =
      option_and_then (λ c. option_map (λ cs. c ∷ cs) (values_contents w wanted vs))
      (value_content w wanted v)

  -- what is given to the field of a number
  pub field_value : Schema → Shape → Given → Message → ℕ → Field → Option Message
  field_value w s (one_scalar v) m n f =
      option_and_then (add_one s.fields n f.part f.label m)
      (scalar_content (wanted_of w s.names n f.part f.label) v)
  field_value w s (one_message colon b fs) m n f =
      option_and_then (add_one s.fields n f.part f.label m)
      (message_content (wanted_of w s.names n f.part f.label) (λ s. value w s fs nothing))
  field_value w s (listed vs) m n f =
      option_and_then (add_all s.fields n f.part f.label m)
      (values_contents w (wanted_of w s.names n f.part f.label) vs)

  -- the message of an expansion
  pub body_value : Schema → Name → Given → Option Message
  body_value w t (one_message colon b fs) = value w (shape_of w t) fs nothing
  body_value w t _ = None

  -- fields in order
  pub value : Schema → Shape → Fields → Message → Option Message
  value w s no_fields m = Some m
  value w s (more_fields name g sep fs) m =
      option_and_then (value w s fs)
      (named_value w s name m (field_value w s g m) (λ t. body_value w t g))
