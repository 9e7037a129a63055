-- Worked cases: the definitions compute what the text format's documentation says.
use Rattle.std.proofs.Common.{sym, nat_lt, length, ◌++◌, ◌≡◌, inl, inr, ℕ, pos, negsuc, ◌-◌, ◌<◌, ◌^◌, ◌==◌, ◌&&◌, not, Bool, true, false, cond, List, [], ◌∷◌, Option, Some, None, option_and_then, bytes_eq, codes, refl, ap, ◌∙◌, arith}
use Rattle.std.specs.Char.{encode_utf8}
use Rattle.std.specs.Fmt.{digits}
use Rattle.std.specs.Str.{is_utf8, chars}
use Rattle.std.specs.List.{flat_map, filter}
use Rattle.std.proofs.lemmas.Bool.{ne_eqb}
use Rattle.std.proofs.lemmas.Bool.Decides.{eqb_tells}
use Rattle.std.proofs.lemmas.Grind.{flat_map-append}
use Rattle.protox_lex.specs.Class.{Text}
use Rattle.protox_lex.specs.Lex.{unescaped_from, escape, hex}
use Rattle.text_lex.specs.declared.token.Radix.TheVariants as radix
use Rattle.reflect_wire.specs.Records.{Payload}
use Rattle.reflect_wire.specs.Views.{records_of}
use Rattle.reflect_wire.specs.Encoding.{records_bytes, varint_bytes}
use Rattle.protobuf_model.specs.Values.{Single, truth, int32, uint32, text, blob, enumerated, single, message, list, dictionary, more_contents, no_contents, more_entries, no_entries, Held, content, Message, absent, nothing}
use Rattle.protobuf_model.specs.Types.{Name, Scalar, nested, sized, one, many, keyed, Field, Types, rival}
use Rattle.protobuf_model.specs.Types as kinds
use Rattle.protobuf_model.specs.Bytes.{count_from, field_numbers, is_declared, bytes_of, numbered, payloads_under}
use Rattle.text_model.specs.Tree.{expansion, no_separator, comma, FieldName, plain, integer, floating, identifier, ScalarValue, signed, strings, curly, scalar, no_values, more_values, Given, one_scalar, one_message, listed, Fields, no_fields, more_fields}
use Rattle.text_model.specs.Schemas.{Schema, shape_of, AreNames, IsEntryType, Names}
use Rattle.text_model.specs.Scalars.{scalar_in}
use Rattle.text_model.specs.Tokens.{open_braces}
use Rattle.text_model.specs.Value.{hold, is_set, assign, value}
use Rattle.text_model.specs.Printed.{Inner, joined, lacks_presence, default_given, unset, field_name, printed_held, printed_fields, printed_within, printed, parts}
use Rattle.text_model.specs.Identifiers.{is_identifier, is_full_name, AreIdentifiers}
use Rattle.text_model.specs.Forms.{Form, between}
use Rattle.text_model.specs.Rendered.{compact, pretty, text_of}
use Rattle.text_model.proofs.Numbers.{first_few, of_those, any_there}
use Rattle.text_model.proofs.Orders.{in_numbers}
use Rattle.text_model.proofs.Rivals.{no_rival}

-- the names M and N
abbrev type_m : Name
type_m = codes "M"

abbrev pub type_n : Name
type_n = codes "N"

-- that of the entries of M's map
abbrev type_entry : Name
type_entry = codes "M.MEntry"

abbrev pub number : Bool → Option ℕ → Option Field
number presence oneof = Some (record { part = record { kind = kinds.scalar kinds.int32; presence = presence; default = int32 (pos 0) }; label = one; oneof = oneof; extension = false })

abbrev sub : Option Field
sub = Some (record { part = record { kind = nested sized type_n; presence = true; default = int32 (pos 0) }; label = one; oneof = None; extension = false })

abbrev numbers : Option Field
numbers = Some (record { part = record { kind = kinds.scalar kinds.int32; presence = false; default = int32 (pos 0) }; label = many true; oneof = None; extension = false })

abbrev holds : Scalar → Single → Option Field
holds k d = Some (record { part = record { kind = kinds.scalar k; presence = false; default = d }; label = one; oneof = None; extension = false })

abbrev texts : Option Field
texts = Some (record {
  part = record { kind = kinds.scalar kinds.string; presence = false; default = text [] };
  label = keyed (record { kind = kinds.int32; presence = false; default = int32 (pos 0) });
  oneof = None;
  extension = false;
})

-- message M { int32 foo = 1; N nested = 3; repeated int32 xs = 4; map<int32, string> m = 5; oneof o { int32 a = 6; int32 b = 7; } } message N { int32 bar = 2; }
-- message Any { string type_url = 1; bytes value = 2; }
abbrev pub types : Types
types t n = cond (bytes_eq t type_m) (cond (n == 1) (number false None) (cond (n == 3) sub (cond (n == 4) numbers (cond (n == 5) texts (cond (n == 6) (number true (Some 0)) (cond (n == 7) (number true (Some 0)) None))))))
    (cond (bytes_eq t type_n) (cond (n == 2) (number false None) None)
    (cond (bytes_eq t type_entry) (cond (n == 1) (number false None) (cond (n == 2) (holds kinds.string (text [])) None))
    (cond (n == 1) (holds kinds.string (text [])) (cond (n == 2) (holds kinds.bytes (blob [])) None))))

abbrev found : Name → Text → Option ℕ
found t w = cond (bytes_eq t type_m)
    (cond (bytes_eq w (codes "foo")) (Some 1) (cond (bytes_eq w (codes "nested")) (Some 3) (cond (bytes_eq w (codes "xs")) (Some 4) (cond (bytes_eq w (codes "m")) (Some 5) (cond (bytes_eq w (codes "a")) (Some 6) (cond (bytes_eq w (codes "b")) (Some 7) None))))))
    (cond (bytes_eq t type_entry) (cond (bytes_eq w (codes "key")) (Some 1) (cond (bytes_eq w (codes "value")) (Some 2) None))
    (cond (bytes_eq w (codes "bar")) (Some 2) None))

abbrev called : Name → ℕ → Text
called t n = cond (bytes_eq t type_m) (cond (n == 1) (codes "foo") (cond (n == 3) (codes "nested") (cond (n == 4) (codes "xs") (codes "m")))) (codes "bar")

-- the message that holds 66 under 2
abbrev pub n_message : Message
n_message = λ n. cond (n == 2) (content (single (int32 (pos 66)))) absent

abbrev pub schema : Schema
schema = record {
  types = types;
  names = λ t. record { field = found t; extension = λ w. None; name = called t; declared = []; enum_number = λ n w. None; enum_name = λ n z. None; entry = λ n. type_entry };
  message = λ w. cond (bytes_eq w type_n) (Some type_n) None;
  is_any = λ t. bytes_eq t (codes "Any");
  decoded = λ t bytes. cond (bytes_eq bytes (16 ∷ 66 ∷ [])) (Some n_message) None;
}

-- an integer, and a field that is given one
abbrev int : Text → ScalarValue
int digits = signed false (integer radix.Decimal digits)

abbrev with_int : Text → Text → Fields → Fields
with_int name digits fs = more_fields (plain name) (one_scalar (int digits)) no_separator fs

-- what the fields give under a number, from nothing
abbrev under : Option Message → ℕ → Held
under (Some m) n = m n
under None n = absent

abbrev inside : Held → ℕ → Held
inside (content (message m)) n = m n
inside h n = absent

abbrev given : Fields → Option Message
given fs = value schema (shape_of schema type_m) fs nothing

-- foo: 150 nested { bar: 66 }
abbrev first : Fields
first = with_int (codes "foo") (codes "150") (more_fields (plain (codes "nested")) (one_message false curly (with_int (codes "bar") (codes "66") no_fields)) no_separator no_fields)

foo_given : under (given first) 1 ≡ content (single (int32 (pos 150)))
foo_given = refl

bar_given : inside (under (given first) 3) 2 ≡ content (single (int32 (pos 66)))
bar_given = refl

-- foo: 0 foo: 5, where a zero is not set; and foo: 1 foo: 5, which is refused
behind_zero : under (given (with_int (codes "foo") (codes "0") (with_int (codes "foo") (codes "5") no_fields))) 1 ≡ content (single (int32 (pos 5)))
behind_zero = refl

twice : given (with_int (codes "foo") (codes "1") (with_int (codes "foo") (codes "5") no_fields)) ≡ None
twice = refl

-- foo: -2147483648, and one less; foo: 0x10, foo: 010, foo: 1.0
least : under (given (more_fields (plain (codes "foo")) (one_scalar (signed true (integer radix.Decimal (codes "2147483648")))) no_separator no_fields)) 1 ≡ content (single (int32 (negsuc 2147483647)))
least = refl

below_least : given (more_fields (plain (codes "foo")) (one_scalar (signed true (integer radix.Decimal (codes "2147483649")))) no_separator no_fields) ≡ None
below_least = refl

hexadecimal : under (given (more_fields (plain (codes "foo")) (one_scalar (signed false (integer radix.Hexadecimal (codes "10")))) no_separator no_fields)) 1 ≡ content (single (int32 (pos 16)))
hexadecimal = refl

octal : under (given (more_fields (plain (codes "foo")) (one_scalar (signed false (integer radix.Octal (codes "10")))) no_separator no_fields)) 1 ≡ content (single (int32 (pos 8)))
octal = refl

float : given (more_fields (plain (codes "foo")) (one_scalar (signed false (floating (codes "1.0")))) no_separator no_fields) ≡ None
float = refl

-- xs: [1, 2] xs: 150
listed_and_one : under (given (more_fields (plain (codes "xs")) (listed (more_values (scalar (int (codes "1"))) (more_values (scalar (int (codes "2"))) no_values))) no_separator (with_int (codes "xs") (codes "150") no_fields))) 4
    ≡ content (list (more_contents (single (int32 (pos 1))) (more_contents (single (int32 (pos 2))) (more_contents (single (int32 (pos 150))) no_contents))))
listed_and_one = refl

-- foo: [1] is refused: a list is given to repeated fields and maps alone
one_listed : given (more_fields (plain (codes "foo")) (listed (more_values (scalar (int (codes "1"))) no_values)) no_separator no_fields) ≡ None
one_listed = refl

-- m { key: 2 value: "b" } m { value: "a" }: entries in the order of keys, and a key that is missing is zero
abbrev entry : Fields → Fields → Fields
entry inner fs = more_fields (plain (codes "m")) (one_message false curly inner) no_separator fs

abbrev with_value : Text → Fields
with_value s = more_fields (plain (codes "value")) (one_scalar (strings s [])) no_separator no_fields

in_order : under (given (entry (with_int (codes "key") (codes "2") (with_value (codes "b"))) (entry (with_value (codes "a")) no_fields))) 5
    ≡ content (dictionary (more_entries (int32 (pos 0)) (single (text (codes "a"))) (more_entries (int32 (pos 2)) (single (text (codes "b"))) no_entries)))
unfolding is_utf8 chars unescaped_from encode_utf8
in_order = refl

-- a: 1 b: 2 is refused: the oneof has another member that is set
abbrev a_set : Message
a_set = assign (types type_m) 6 (content (single (int32 (pos 1)))) nothing

two_members : given (with_int (codes "a") (codes "1") (with_int (codes "b") (codes "2") no_fields)) ≡ None
two_members =
    ap (λ b. option_and_then (value schema (shape_of schema type_m) (with_int (codes "b") (codes "2") no_fields)) (cond b None (Some a_set))) (no_rival (types type_m) 6 nothing (λ q e. refl))
    ∙ ap (λ b. option_and_then (λ m. Some m) (cond b None (Some (assign (types type_m) 7 (content (single (int32 (pos 2)))) a_set)))) (any_there (λ q. rival (types type_m) 7 q && is_set (a_set q)) field_numbers 6 (in_numbers 6 (omega arith, omega arith)) refl)

-- a value that is set unsets another member
sibling_unset : assign (types type_m) 7 (content (single (int32 (pos 2)))) a_set 6 ≡ absent
sibling_unset = refl

-- values of other kinds
abbrev read : Scalar → ScalarValue → Option Single
read k v = scalar_in (λ w. cond (bytes_eq w (codes "RED")) (Some (pos 3)) None) k v

unsigned : (read kinds.uint32 (int (codes "4294967295")) ≡ Some (uint32 4294967295)) × (read kinds.uint32 (int (codes "4294967296")) ≡ None) × (read kinds.uint32 (signed true (integer radix.Decimal (codes "0"))) ≡ None)
unsigned = (refl, refl, refl)

truths : (read kinds.bool (signed false (identifier (codes "t"))) ≡ Some (truth true)) × (read kinds.bool (int (codes "0")) ≡ Some (truth false)) × (read kinds.bool (int (codes "2")) ≡ None)
truths = (refl, refl, refl)

enums : (read kinds.enumeration (signed false (identifier (codes "RED"))) ≡ Some (enumerated (pos 3))) × (read kinds.enumeration (signed false (identifier (codes "BLUE"))) ≡ None) × (read kinds.enumeration (int (codes "7")) ≡ Some (enumerated (pos 7)))
enums = (refl, refl, refl)

-- 'a' 'b' is one value, with its escapes
joined_strings : read kinds.bytes (strings (codes "a\\n") (codes "\\x62" ∷ [])) ≡ Some (blob (codes "a\nb"))
unfolding unescaped_from escape hex
joined_strings = refl

-- the message that holds 150 under 1 and, under 3, 66 under 2
abbrev m_message : Message
m_message = λ n. cond (n == 1) (content (single (int32 (pos 150)))) (cond (n == 3) (content (message n_message)) absent)

pub other_number : (n q : ℕ) → q < n → (n == q) ≡ false
other_number n q h = ne_eqb n q (λ e. omega (arith, e))

-- in this form, and in one that expands
abbrev plainly : Form
plainly = record { pretty = false; defaults = false; as_declared = false; expands = false }

abbrev expanding : Form
expanding = record { pretty = false; defaults = false; as_declared = false; expands = true }

-- of fields below 4 those that are declared
module _ (form : Form) (set : form.defaults ≡ false) (by_number : form.as_declared ≡ false) (inner : Inner) where
  abbrev held : Name → Message → ℕ → List (FieldName × Given)
  held t m n = printed_held form schema inner (schema.names t) n (types t n) (m n)

  none_held : (t : Name) (m : Message) (n : ℕ) → m n ≡ absent → held t m n ≡ []
  none_held t m n e = ap (printed_held form schema inner (schema.names t) n (types t n)) e ∙ by (types t n) where
    by : (o : Option Field) → unset form (schema.names t) n o ≡ []
    by None = refl
    by (Some f) = ap (λ b. cond (b && (not f.extension && lacks_presence f.part f.label)) ((field_name (schema.names t) n f, default_given ((schema.names t).enum_name n) f.part f.label) ∷ []) []) set

  few_printed : (t : Name) (m : Message) → ((n : ℕ) → 3 < n → m n ≡ absent)
      → printed_fields form schema inner t m
      ≡ flat_map (λ n. cond (is_declared (types t n)) (held t m n) []) (count_from 1 3) ++ flat_map (λ n. cond (not (is_declared (types t n))) (held t m n) []) (count_from 1 3)
  few_printed t m h =
      let declared = λ (n : ℕ). is_declared (types t n) in
      let none : (b : Bool) (n : ℕ) → 3 < n → cond b (held t m n) [] ≡ [] = λ b n l. ap (λ xs. cond b xs []) (none_held t m n (h n l)) ∙ both b in
      ap (λ b. flat_map (held t m) (cond b [] (filter declared field_numbers) ++ filter (λ n. not (declared n)) field_numbers)) by_number
      ∙ flat_map-append (held t m) (filter declared field_numbers) (filter (λ n. not (declared n)) field_numbers)
      ∙ ap (λ xs. xs ++ flat_map (held t m) (filter (λ n. not (declared n)) field_numbers)) (of_those (held t m) declared field_numbers ∙ first_few (λ n. cond (declared n) (held t m n) []) 3 (2 ^ 29 - 4) (omega arith) (λ n l. none (declared n) n l))
      ∙ ap (λ xs. flat_map (λ n. cond (declared n) (held t m n) []) (count_from 1 3) ++ xs) (of_those (held t m) (λ n. not (declared n)) field_numbers ∙ first_few (λ n. cond (not (declared n)) (held t m n) []) 3 (2 ^ 29 - 4) (omega arith) (λ n l. none (not (declared n)) n l)) where
        both : (b : Bool) → ◌≡◌ {A = List (FieldName × Given)} (cond b [] []) []
        both true = refl
        both false = refl

n_above : (n : ℕ) → 3 < n → n_message n ≡ absent
n_above n h = ap (λ b. cond b (content (single (int32 (pos 66)))) absent) (other_number n 2 (omega arith))

m_above : (n : ℕ) → 3 < n → m_message n ≡ absent
m_above n h =
    ap (λ b. cond b (content (single (int32 (pos 150)))) (cond (n == 3) (content (message n_message)) absent)) (other_number n 1 (omega arith))
    ∙ ap (λ b. cond b (content (message n_message)) absent) (other_number n 3 h)

abbrev inner : Inner
inner = λ u m. Some (printed_within 99 plainly schema u m)

-- and what it is printed as
n_printed : (form : Form) → form.pretty ≡ false → form.defaults ≡ false → form.as_declared ≡ false → (inner : Inner) → joined (between form.pretty) (printed_fields form schema inner type_n n_message) ≡ with_int (codes "bar") (codes "66") no_fields
unfolding digits
n_printed form line set by_number inner = ap (joined (between form.pretty)) (few_printed form set by_number inner type_n n_message n_above)

abbrev m_tree : Fields → Fields
m_tree fs = more_fields (plain (codes "foo")) (one_scalar (int (codes "150"))) comma (more_fields (plain (codes "nested")) (one_message false curly fs) no_separator no_fields)

m_printed : printed plainly schema type_m m_message ≡ m_tree (with_int (codes "bar") (codes "66") no_fields)
unfolding digits
m_printed = ap (joined comma) (few_printed plainly refl refl inner type_m m_message m_above) ∙ ap m_tree (n_printed plainly refl refl refl inner)

on_one_line : text_of plainly (printed plainly schema type_m m_message) ≡ codes "foo:150,nested{bar:66}"
on_one_line = ap compact m_printed

on_lines : pretty first ≡ codes "foo: 150\nnested {\n  bar: 66\n}"
on_lines = refl

one_brace : open_braces first ≡ 1
one_brace = refl

-- ---- google.protobuf.Any

-- [x.y/N] { bar: 66 }, whose bytes are 10 42
abbrev expansion_tree : Fields → Fields
expansion_tree fs = more_fields (expansion (record { first = codes "x"; others = codes "y" ∷ [] }) (record { first = codes "N"; others = [] })) (one_message false curly fs) no_separator no_fields

abbrev pub url : Text
url = codes "x.y/N"

abbrev pub any_message : Message
any_message = assign (types (codes "Any")) 2 (content (single (blob (16 ∷ 66 ∷ [])))) (assign (types (codes "Any")) 1 (content (single (text url))) nothing)

-- what its fields give
abbrev pub n_given : Message
n_given = assign (types type_n) 2 (content (single (int32 (pos 66)))) nothing

n_given_above : (n : ℕ) → 3 < n → n_given n ≡ absent
n_given_above n h = ap (λ b. cond b (content (single (int32 (pos 66)))) (cond (rival (types type_n) 2 n) absent absent)) (other_number n 2 (omega arith)) ∙ both (rival (types type_n) 2 n) where
  both : (b : Bool) → cond b absent absent ≡ absent
  both true = refl
  both false = refl

pub n_bytes : bytes_of types type_n n_given ≡ 16 ∷ 66 ∷ []
unfolding varint_bytes
n_bytes =
    let declared = λ (n : ℕ). is_declared (types type_n n) in
    let payloads = λ (n : ℕ). payloads_under types (types type_n n) (n_given n) in
    let none : (n : ℕ) → 3 < n → payloads n ≡ [] = λ n l. ap (payloads_under types (types type_n n)) (n_given_above n l) in
    let first = first_few (λ n. numbered n (cond (declared n) (payloads n) [])) 3 (2 ^ 29 - 4) (omega arith) (λ n l. ap (λ ps. numbered n (cond (declared n) ps [])) (none n l) ∙ ap (numbered n) (none_or (declared n))) in
    let others = first_few (λ n. numbered n (cond (declared n) [] (payloads n))) 3 (2 ^ 29 - 4) (omega arith) (λ n l. ap (λ ps. numbered n (cond (declared n) [] ps)) (none n l) ∙ ap (numbered n) (none_or (declared n))) in
    ap (λ rs. records_bytes (records_of (rs ++ flat_map (λ n. numbered n (cond (declared n) [] (payloads n))) field_numbers))) first
    ∙ ap (λ rs. records_bytes (records_of (flat_map (λ n. numbered n (cond (declared n) (payloads n) [])) (count_from 1 3) ++ rs))) others where
      none_or : (b : Bool) → ◌≡◌ {A = List Payload} (cond b [] []) []
      none_or true = refl
      none_or false = refl

any_given : value schema (shape_of schema (codes "Any")) (expansion_tree (with_int (codes "bar") (codes "66") no_fields)) nothing ≡ Some any_message
any_given = ap (λ bytes. option_and_then (λ m. Some m) (cond (nat_lt (length bytes) (2 ^ 64)) (hold (shape_of schema (codes "Any")) url bytes nothing) None)) n_bytes

-- no other message is given one
no_any : value schema (shape_of schema type_m) (expansion_tree (with_int (codes "bar") (codes "66") no_fields)) nothing ≡ None
no_any = refl

-- and as what it is printed
any_printed : printed expanding schema (codes "Any") any_message ≡ expansion_tree (printed_within 99 expanding schema type_n n_message)
any_printed = refl

any_on_one_line : text_of expanding (printed expanding schema (codes "Any") any_message) ≡ codes "[x.y/N]{bar:66}"
any_on_one_line = ap (λ fs. compact (expansion_tree fs)) (n_printed expanding refl refl refl (λ u m. Some (printed_within 98 expanding schema u m)))

-- ---- the premises of the laws can be met

-- message N { int32 bar = 2; }
abbrev n_type : ℕ → Option Field
n_type n = cond (n == 2) (number false None) None

abbrev n_names : Names
n_names = record {
  field = λ w. cond (bytes_eq w (codes "bar")) (Some 2) None;
  extension = λ w. None;
  name = λ n. codes "bar";
  declared = 2 ∷ [];
  enum_number = λ n w. None;
  enum_name = λ n z. None;
  entry = λ n. [];
}

abbrev is_extension : Option Field → Bool
is_extension None = true
is_extension (Some f) = f.extension

no_field : (f : Field) → ◌≡◌ {A = Option Field} None (Some f) → ⊥
no_field f e = cc

-- no field of the type is an extension, and its number is 2
its_field : (n : ℕ) (f : Field) → n_type n ≡ Some f → (f.extension ≡ false) × (n ≡ 2)
its_field n f h = elim (eqb_tells n 2) [
  | inl k ↦ (sym (ap is_extension (sym (ap (λ b. cond b (number false None) None) k.0) ∙ h)), k.1)
  | inr k ↦ absurd (no_field f (sym (ap (λ b. cond b (number false None) None) k.0) ∙ h))
]

n_declared : (n : ℕ) → filter (λ q. q == n) n_names.declared ≡ cond (is_declared (n_type n)) (n ∷ []) []
n_declared n = elim (eqb_tells 2 n) [
  | inl a ↦ elim (eqb_tells n 2) [
    | inl k ↦ ap (λ b. cond b (2 ∷ []) []) a.0 ∙ ap (λ m. m ∷ []) a.1 ∙ sym (ap (λ b. cond (is_declared (cond b (number false None) None)) (n ∷ []) []) k.0)
    | inr k ↦ absurd (k.1 (sym a.1))
  ]
  | inr a ↦ elim (eqb_tells n 2) [
    | inl k ↦ absurd (a.1 (sym k.1))
    | inr k ↦ ap (λ b. cond b (2 ∷ []) []) a.0 ∙ sym (ap (λ b. cond (is_declared (cond b (number false None) None)) (n ∷ []) []) k.0)
  ]
]

no_name : (w : Text) → ◌≡◌ {A = Option Text} None (Some w) → ⊥
no_name w e = cc

n_found : AreNames n_type n_names
n_found = record {
  fields = λ n f h. let k = its_field n f h in ap (λ b. cond {A = Option ℕ} b None (Some 2)) k.0 ∙ ap Some (sym k.1);
  enums = λ n z w h. absurd (no_name w h);
  declared = n_declared;
}

n_spelled : AreIdentifiers n_type n_names
n_spelled = record {
  fields = λ n f h. ap (λ b. cond b (is_full_name (parts (codes "bar"))) (is_identifier (codes "bar"))) (its_field n f h).0;
  enums = λ n z w h. absurd (no_name w h);
}

-- and the type of the entries of M's map is one
map_entry : IsEntryType schema type_entry (record { kind = kinds.int32; presence = false; default = int32 (pos 0) })
    (record { kind = kinds.scalar kinds.string; presence = false; default = text [] }) (λ z. None)
map_entry = record {
  key_named = refl;
  value_named = refl;
  holds_key = (None, false, refl);
  holds_value = (None, false, refl);
  apart = refl;
  no_enum = λ e. cc;
  enums = λ z v h. absurd (no_name v h);
}
