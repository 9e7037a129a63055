-- The tree that a message is printed as.
use Rattle.std.specs.Prelude.{◌≡◌, ◌⊎◌, ◌<◌, ℕ, zero, ◌&&◌, option_map, option_and_then, ℤ, pos, negsuc, suc, ◌==◌, cond, not, Bool, true, false, List, [], ◌∷◌, ◌++◌, Option, None, Some, codes, decimal}
use Rattle.std.specs.List.{AllByRecursion, flat_map, filter}
use Rattle.protox_lex.specs.Class.{Text}
use Rattle.protox_lex.specs.Escapes.{escaped}
use Rattle.text_lex.specs.declared.token.Radix.TheVariants as radix
use Rattle.protobuf_model.specs.Values.{Single, truth, int32, int64, uint32, uint64, text, blob, enumerated, Content, single, message, list, dictionary, Contents, no_contents, more_contents, Entries, no_entries, more_entries, Held, content, records, Message}
use Rattle.protobuf_model.specs.Types.{Name, Kind, Part, Label, one, Field}
use Rattle.protobuf_model.specs.Bytes.{field_numbers, is_declared, type_of}
use Rattle.text_model.specs.Tree.{FullName, FieldName, plain, extension, expansion, integer, identifier, ScalarValue, signed, strings, curly, Separator, no_separator, Value, scalar, braced, Values, no_values, more_values, Given, one_scalar, one_message, listed, Fields, no_fields, more_fields}
use Rattle.text_model.specs.Forms.{Form, between}
use Rattle.text_model.specs.Schemas.{Names, Schema}

-- fields with this sign between each two
abbrev pub joined : Separator → List (FieldName × Given) → Fields
joined s [] = no_fields
joined s (e ∷ []) = more_fields e.0 e.1 no_separator no_fields
joined s (e ∷ d ∷ es) = more_fields e.0 e.1 s (joined s (d ∷ es))

-- the identifiers of a full name
abbrev pub parts : Text → FullName
parts [] = record { first = []; others = [] }
parts (b ∷ bs) =
    cond (b == 46) (record { first = []; others = (parts bs).first ∷ (parts bs).others })
    (record { first = b ∷ (parts bs).first; others = (parts bs).others })

abbrev pub field_name : Names → ℕ → Field → FieldName
field_name names n f = cond f.extension (extension (parts (names.name n))) (plain (names.name n))

abbrev pub natural : Bool → ℕ → ScalarValue
natural minus n = signed minus (integer radix.Decimal (decimal n))

-- `negsuc n` is -(n + 1)
abbrev pub whole : ℤ → ScalarValue
whole (pos n) = natural false n
whole (negsuc n) = natural true (suc n)

abbrev pub named : Text → ScalarValue
named w = signed false (identifier w)

-- an enum's value by its name, or by its number where it has none
abbrev pub printed_single : (ℤ → Option Text) → Single → ScalarValue
printed_single enum (truth true) = named (codes "true")
printed_single enum (truth false) = named (codes "false")
printed_single enum (int32 z) = whole z
printed_single enum (int64 z) = whole z
printed_single enum (uint32 n) = natural false n
printed_single enum (uint64 n) = natural false n
printed_single enum (text s) = strings (escaped s) []
printed_single enum (blob s) = strings (escaped s) []
printed_single enum (enumerated z) = elim (enum z) [ None ↦ whole z | Some w ↦ named w ]

-- declared fields by ascending number, or as they are declared, then extensions by ascending number
abbrev pub printing_order : Form → Names → (ℕ → Option Field) → List ℕ
printing_order form names type =
    cond form.as_declared names.declared (filter (λ n. is_declared (type n)) field_numbers)
    ++ filter (λ n. not (is_declared (type n))) field_numbers

-- one number comes before another: that of a declared field before others, else the smaller one
abbrev pub ComesBefore : (ℕ → Option Field) → ℕ → ℕ → Type 0
ComesBefore type n q =
    ((is_declared (type n) ≡ true) × (is_declared (type q) ≡ false))
    ⊎ ((is_declared (type n) ≡ is_declared (type q)) × (n < q))

abbrev pub IsInOrder : (ℕ → Option Field) → List ℕ → Type 0
IsInOrder type [] = Unit {0}
IsInOrder type (n ∷ ns) = AllByRecursion (ComesBefore type n) ns × IsInOrder type ns

-- a field that cannot differ from its default where it is not set
abbrev pub lacks_presence : Part → Label → Bool
lacks_presence part one = not part.presence
lacks_presence part _ = true

-- its default
abbrev pub default_given : (ℤ → Option Text) → Part → Label → Given
default_given enum part one = one_scalar (printed_single enum part.default)
default_given enum part _ = listed no_values

abbrev pub unset : Form → Names → ℕ → Option Field → List (FieldName × Given)
unset form names n None = []
unset form names n (Some f) =
    cond (form.defaults && (not f.extension && lacks_presence f.part f.label))
    ((field_name names n f, default_given (names.enum_name n) f.part f.label) ∷ []) []

-- in a list, what is given by itself to a field
abbrev pub value_in : Given → Value
value_in (one_scalar s) = scalar s
value_in (one_message colon b fs) = braced b fs
value_in (listed vs) = braced curly no_fields

-- an entry of a map as a message
abbrev pub printed_entry : Separator → ScalarValue → Given → Value
printed_entry s key value =
    braced curly
    (joined s ((plain (codes "key"), one_scalar key) ∷ (plain (codes "value"), value) ∷ []))

-- ---- google.protobuf.Any

-- what stands before the last `/`, and behind it
abbrev pub last_slash : Text → Option (Text × Text)
last_slash [] = None
last_slash (b ∷ bs) =
    elim (last_slash bs) [
      | Some p ↦ Some (b ∷ p.0, p.1)
      | None ↦ cond (b == 47) (Some ([], bs)) None
    ]

abbrev pub text_in : Held → Text
text_in (content (single (text s))) = s
text_in _ = []

-- bytes that are not set are none; what is no bytes means no message
abbrev pub bytes_in : Held → Option Text
bytes_in (content (single (blob s))) = Some s
bytes_in (content c) = None
bytes_in (records ps) = Some []

-- what messages of a type are printed as in an Any
abbrev pub Inner : Type 0
Inner = Name → Message → Option Fields

-- the field under a type's URL, and the fields of the message of a known type that bytes mean
abbrev pub expanded_as : Text × Text → Fields → Fields
expanded_as url fs =
    more_fields (expansion (parts url.0) (parts url.1)) (one_message false curly fs) no_separator
    no_fields

abbrev pub held_in : Schema → Inner → Text → Text → Option Fields
held_in w inner name bytes =
    option_and_then (λ u. option_and_then (inner u) (w.decoded u bytes)) (w.message name)

-- what an Any of a known type is printed as, whose bytes mean a message of it
abbrev pub in_any : Form → Schema → Inner → Name → Message → Option Fields
in_any form w inner t m =
    cond (form.expands && w.is_any t)
    (option_and_then
    (λ (url : Text × Text). option_map (expanded_as url)
    (option_and_then (held_in w inner url.1) (bytes_in (m 2))))
    (last_slash (text_in (m 1)))) None

abbrev pub or_fields : Option Fields → Fields → Fields
or_fields (Some fs) gs = fs
or_fields None gs = gs

-- ---- messages

abbrev mutual
  -- what is given to a field of the kind, which has a content
  pub printed_content : Form → Schema → Inner → (ℤ → Option Text) → Kind → Content → Given
  printed_content form w inner enum k (single v) = one_scalar (printed_single enum v)
  printed_content form w inner enum k (message m) =
      one_message false curly
      (or_fields (in_any form w inner (type_of k) m) (joined (between form.pretty) (flat_map
      (λ n. printed_held form w inner (w.names (type_of k)) n (w.types (type_of k) n) (m n))
      (printing_order form (w.names (type_of k)) (w.types (type_of k))))))
  printed_content form w inner enum k (list cs) = listed (printed_list form w inner enum k cs)
  printed_content form w inner enum k (dictionary es) =
      listed (printed_entries form w inner enum k es)

  pub printed_list : Form → Schema → Inner → (ℤ → Option Text) → Kind → Contents → Values
  printed_list form w inner enum k no_contents = no_values
  printed_list form w inner enum k (more_contents c cs) =
      more_values (value_in (printed_content form w inner enum k c))
      (printed_list form w inner enum k cs)

  pub printed_entries : Form → Schema → Inner → (ℤ → Option Text) → Kind → Entries → Values
  printed_entries form w inner enum k no_entries = no_values
  printed_entries form w inner enum k (more_entries key c es) =
      more_values
      (printed_entry (between form.pretty) (printed_single enum key)
      (printed_content form w inner enum k c))
      (printed_entries form w inner enum k es)

  -- a field under its name
  pub printed_held : Form → Schema → Inner → Names → ℕ → Option Field → Held
      → List (FieldName × Given)
  printed_held form w inner names n o (records ps) = unset form names n o
  printed_held form w inner names n None (content c) = []
  printed_held form w inner names n (Some f) (content c) =
      (field_name names n f, printed_content form w inner (names.enum_name n) f.part.kind c) ∷ []

abbrev pub printed_fields : Form → Schema → Inner → Name → Message → List (FieldName × Given)
printed_fields form w inner t m =
    flat_map (λ n. printed_held form w inner (w.names t) n (w.types t n) (m n))
    (printing_order form (w.names t) (w.types t))

abbrev pub printed_by : Form → Schema → Inner → Name → Message → Fields
printed_by form w inner t m =
    or_fields (in_any form w inner t m)
    (joined (between form.pretty) (printed_fields form w inner t m))

-- with at most so many expansions in one another
abbrev pub printed_within : ℕ → Form → Schema → Name → Message → Fields
printed_within zero form w = printed_by form w (λ t m. None)
printed_within (suc more) form w = printed_by form w (λ t m. Some (printed_within more form w t m))

abbrev pub printed : Form → Schema → Name → Message → Fields
printed form w t m = printed_within 100 form w t m
