-- Whatever a message holds, it is written in records: those of a field have its number.
use Rattle.std.proofs.Common.{◌≡◌, ℕ, ◌==◌, Bool, true, false, cond, List, [], ◌∷◌, ◌++◌, map, reverse, Option, Some, None, unwrap_or, string_bytes, ◌&&◌, refl, sym, ap, ◌∙◌, subst, append-nil, arith}
use Rattle.std.proofs.lemmas.Bool.{and_parts}
use Rattle.std.proofs.lemmas.Grind.{reverse_onto}
use Rattle.std.specs.List.{AllByRecursion, find, flat_map, filter}
use Rattle.std.specs.Option.{option_and_then}
use Rattle.std.specs.Prelude.{nat_le, nat_lt}
use Rattle.reflect_tables.specs.Types.{PoolType, FieldType, KindType, ExtensionType, type_at}
use Rattle.reflect_wire.specs.Records.{Payload, delimited, group}
use Rattle.reflect_wire.specs.Views.{records_of}
use Rattle.reflect_wire.specs.Encoding.{field_bytes, records_bytes}
use Rattle.reflect_entries.specs.Pairs.{on_value}
use Rattle.reflect_entries.specs.Sets.{up_to, above}
use Rattle.reflect_entries.specs.Undeclared.{undeclared}
use Rattle.reflect_codec.specs.Fields.{payload_field}
use Rattle.reflect_scalar.specs.Singles.{Single}
use Rattle.reflect_scalar.specs.Singles as held
use Rattle.reflect_scalar.specs.declared.map_key.MapKey.{MapKey}
use Rattle.reflect_message.specs.Bytes.{Form, single_form, message_form, list_form, map_form, form_of, forms, content, content_bytes, declared_bytes, entry_bytes, extension_bytes, framed, held_bytes, is_set, list_bytes, others_down, payload_in, record_in, row_in, value_step, message_step, held_step, parts_step}
use Rattle.reflect_message.specs.Known.{entry_field, if_held, holds_floats, known_field, known_extension, numbered_field}
use Rattle.reflect_message.specs.Names.{DynamicMessage, Parts, Value}
use Rattle.reflect_message.specs.Names as blocks
use Rattle.reflect_message.specs.declared.parts.HeldOf.TheFolds.{map-HeldOf, map-ValueOf, map-MessageOf, map-PartsOf, fold-MessageOf, fold-PartsOf, fold-roll-HeldOf, fold-roll-ValueOf, fold-roll-MessageOf, fold-roll-PartsOf, ind-ValueOf}
use Rattle.reflect_message.specs.declared.parts.HeldOf.TheOpen.{HeldOf-F, PartsOf-F, ValueOf-F, MessageOf-F}
use Rattle.reflect_pool.specs.declared.message.MessageDescriptor.{MessageDescriptor}
use Rattle.protobuf_model.proofs.Bridge.{bytes_join}

-- ---- bytes that records are written in

-- of numbers with P
abbrev pub AllOf : (ℕ → Type 0) → List ℕ → Type 0
AllOf P bytes = (rs : List (ℕ × Payload)) × (bytes ≡ records_bytes (records_of rs)) × AllByRecursion (λ r. P r.0) rs

-- of one number
abbrev pub AreOf : ℕ → List ℕ → Type 0
AreOf n = AllOf (λ k. k ≡ n)

all_append : {X : Type 0} (P : X → Type 0) (xs ys : List X) → AllByRecursion P xs → AllByRecursion P ys → AllByRecursion P (xs ++ ys)
all_append P [] ys a b = b
all_append P (x ∷ xs) ys a b = (a.0, all_append P xs ys a.1 b)

all_reversed : {X : Type 0} (P : X → Type 0) (xs : List X) → AllByRecursion P xs → AllByRecursion P (reverse xs)
all_reversed P [] a = tt
all_reversed P (x ∷ xs) a = subst (AllByRecursion P) (sym (reverse_onto xs x [])) (all_append P (reverse xs) (x ∷ []) (all_reversed P xs a.1) (a.0, tt))

all_filtered : {X : Type 0} (P : X → Type 0) (test : X → Bool) (xs : List X) → AllByRecursion P xs → AllByRecursion P (filter test xs)
all_filtered P test [] a = tt
all_filtered {X} P test (x ∷ xs) a = by (test x) (all_filtered P test xs a.1) where
  by : (b : Bool) → AllByRecursion P (filter test xs) → AllByRecursion P (cond b (x ∷ filter test xs) (filter test xs))
  by true h = (a.0, h)
  by false h = h

all_mapped : {X : Type 0} (P Q : X → Type 0) → ((x : X) → P x → Q x) → (xs : List X) → AllByRecursion P xs → AllByRecursion Q xs
all_mapped P Q h [] a = tt
all_mapped P Q h (x ∷ xs) a = (h x a.0, all_mapped P Q h xs a.1)

pub no_bytes : (P : ℕ → Type 0) → AllOf P []
no_bytes P = ([], refl, tt)

pub one_behind : (P : ℕ → Type 0) (a b : List ℕ) → AllOf P a → AllOf P b → AllOf P (a ++ b)
one_behind P a b h k =
    (h.0 ++ k.0, ap (λ x. x ++ b) h.1 ∙ ap (λ x. records_bytes (records_of h.0) ++ x) k.1 ∙ sym (bytes_join h.0 k.0), all_append (λ r. P r.0) h.0 k.0 h.2 k.2)

pub others : (P Q : ℕ → Type 0) → ((n : ℕ) → P n → Q n) → (bytes : List ℕ) → AllOf P bytes → AllOf Q bytes
others P Q h bytes a = (a.0, a.1, all_mapped (λ r. P r.0) (λ r. Q r.0) (λ r p. h r.0 p) a.0 a.2)

one_record : (n : ℕ) (p : Payload) → AreOf n (field_bytes (n, p))
one_record n p = ((n, p) ∷ [], sym (append-nil (field_bytes (n, p))), (refl, tt))

given_records : (P : ℕ → Type 0) (rs : List (ℕ × Payload)) → AllByRecursion (λ r. P r.0) rs → AllOf P (records_bytes (records_of rs))
given_records P rs h = (rs, refl, h)

-- each part is so
each_part : {X : Type 0} (P : ℕ → Type 0) (f : X → List ℕ) (xs : List X) → AllByRecursion (λ x. AllOf P (f x)) xs → AllOf P (flat_map f xs)
each_part P f [] a = no_bytes P
each_part P f (x ∷ xs) a = one_behind P (f x) (flat_map f xs) a.0 (each_part P f xs a.1)

-- ---- values

abbrev AreRecords : List ℕ → Type 0
AreRecords = AllOf (λ k. Unit {0})

-- however it stands in a field, the value is written in records of its number
pub record IsWritten (w : Form) : Type 0 where
  pub one : (f : FieldType) → AreOf f.number (w.one f)
  pub whole : (pool : PoolType) (f : FieldType) → AreOf f.number (w.whole pool f)

single_record : (kind : KindType) (n : ℕ) (v : Single) → AreOf n (record_in kind n (Some v))
single_record kind n v = by (payload_in kind v) where
  by : (o : Option Payload) → AreOf n (elim o [ None ↦ [] | Some p ↦ field_bytes (n, p) ])
  by None = no_bytes (λ k. k ≡ n)
  by (Some p) = one_record n p

single_written : (v : Single) → IsWritten (single_form v)
single_written v = record { one = λ f. single_record f.kind f.number v; whole = λ pool f. single_record f.kind f.number v }

framed_written : (f : FieldType) (body : List ℕ) → AreRecords body → AreOf f.number (framed f body)
framed_written f body h = by f.group where
  between : AreOf f.number (field_bytes (f.number, group (records_of h.0)))
  between = one_record f.number (group (records_of h.0))

  by : (b : Bool) → AreOf f.number (framed (record f { group = b }) body)
  by true = subst (λ x. AreOf f.number (framed (record f { group = true }) x)) (sym h.1) between
  by false = one_record f.number (delimited body)

message_written : (body : List ℕ) → AreRecords body → IsWritten (message_form body)
message_written body h = record { one = λ f. framed_written f body h; whole = λ pool f. framed_written f body h }

list_written : (ws : List Form) → AllByRecursion IsWritten ws → IsWritten (list_form ws)
list_written ws h = record { one = λ f. no_bytes (λ k. k ≡ f.number); whole = λ pool f. by f f.packed } where
  by : (f : FieldType) (b : Bool) → AreOf f.number (cond b (payload_field f.number (row_in f.kind ws)) (list_bytes f ws))
  by f true = one_record f.number (delimited (row_in f.kind ws))
  by f false = each_part (λ k. k ≡ f.number) (λ (w : Form). w.one f) ws (all_mapped IsWritten (λ w. AreOf f.number (w.one f)) (λ w k. k.one f) ws h)

entries_written : (pool : PoolType) (f keys values : FieldType) (es : List (MapKey × Form)) → AreOf f.number (flat_map (entry_bytes pool f keys values) es)
entries_written pool f keys values [] = no_bytes (λ k. k ≡ f.number)
entries_written pool f keys values (e ∷ es) =
    one_behind (λ k. k ≡ f.number) (entry_bytes pool f keys values e) (flat_map (entry_bytes pool f keys values) es) (one_record f.number (delimited _)) (entries_written pool f keys values es)

map_written : (es : List (MapKey × Form)) → IsWritten (map_form es)
map_written es = record { one = λ f. no_bytes (λ k. k ≡ f.number); whole = λ pool f. by pool f (entry_field pool f.kind 1) (entry_field pool f.kind 2) } where
  by : (pool : PoolType) (f : FieldType) (keys values : Option FieldType) → AreOf f.number (elim keys [
    | None ↦ []
    | Some keys ↦ elim values [ None ↦ [] | Some values ↦ flat_map (entry_bytes pool f keys values) es ]
  ])
  by pool f None values = no_bytes (λ k. k ≡ f.number)
  by pool f (Some keys) None = no_bytes (λ k. k ≡ f.number)
  by pool f (Some keys) (Some values) = entries_written pool f keys values es

-- ---- what a message holds

found_number : (n : ℕ) (fs : List FieldType) (g : FieldType) → find (λ f. f.number == n) fs ≡ Some g → g.number ≡ n
found_number n [] g e = absurd (cc e)
found_number n (f ∷ fs) g e = by (f.number == n) refl e (found_number n fs g) where
  by : (b : Bool) → (f.number == n) ≡ b → cond b (Some f) (find (λ f. f.number == n) fs) ≡ Some g → (find (λ f. f.number == n) fs ≡ Some g → g.number ≡ n) → g.number ≡ n
  by true is e h =
      let same : f.number ≡ n = grind (arith, is) in
      sym (ap (λ (o : Option FieldType). (unwrap_or o f).number) e) ∙ same
  by false is e h = h e

found_extension : (i n : ℕ) (xs : List ExtensionType) (x : ExtensionType) → find (λ x. (x.extendee == i) && (x.field.number == n)) xs ≡ Some x → x.field.number ≡ n
found_extension i n [] x e = absurd (cc e)
found_extension i n (y ∷ ys) x e = by ((y.extendee == i) && (y.field.number == n)) refl e (found_extension i n ys x) where
  by : (b : Bool) → ((y.extendee == i) && (y.field.number == n)) ≡ b → cond b (Some y) (find (λ x. (x.extendee == i) && (x.field.number == n)) ys) ≡ Some x
      → (find (λ x. (x.extendee == i) && (x.field.number == n)) ys ≡ Some x → x.field.number ≡ n) → x.field.number ≡ n
  by true is e h =
      let two = and_parts (y.extendee == i) (y.field.number == n) is in
      let same : y.field.number ≡ n = grind (arith, two.1) in
      sym (ap (λ (o : Option ExtensionType). (unwrap_or o y).field.number) e) ∙ same
  by false is e h = h e

held_number : (pool : PoolType) (f g : FieldType) → if_held pool f ≡ Some g → g.number ≡ f.number
held_number pool f g e = by (holds_floats pool f) e where
  by : (b : Bool) → cond b None (Some f) ≡ Some g → g.number ≡ f.number
  by true e = absurd (cc e)
  by false e = sym (ap (λ (o : Option FieldType). (unwrap_or o f).number) e)

-- a field that messages hold has the number that it is known by
pub known_number : (pool : PoolType) (i n : ℕ) (g : FieldType) → known_field pool i n ≡ Some g → g.number ≡ n
known_number pool i n g e = by (numbered_field pool i n) refl e where
  by : (o : Option FieldType) → numbered_field pool i n ≡ o → option_and_then (if_held pool) o ≡ Some g → g.number ≡ n
  by None is e = absurd (cc e)
  by (Some f) is e = held_number pool f g e ∙ found_number n (type_at pool i).fields f is

-- so has an extension
extension_number : (pool : PoolType) (i n : ℕ) (g : FieldType) → known_extension pool i n ≡ Some g → g.number ≡ n
extension_number pool i n g e = by (find (λ x. (x.extendee == i) && (x.field.number == n)) pool.extensions) refl e where
  by : (o : Option ExtensionType) → find (λ x. (x.extendee == i) && (x.field.number == n)) pool.extensions ≡ o → option_and_then (λ x. if_held pool x.field) o ≡ Some g → g.number ≡ n
  by None is e = absurd (cc e)
  by (Some x) is e = held_number pool x.field g e ∙ found_extension i n pool.extensions x is

set_written : (pool : PoolType) (f : FieldType) (w : Form) → IsWritten w → AreOf f.number (content_bytes pool f w)
set_written pool f w h = by (is_set pool f w) where
  by : (b : Bool) → AreOf f.number (cond b (w.whole pool f) [])
  by true = h.whole pool f
  by false = no_bytes (λ k. k ≡ f.number)

-- what a field holds is written in records of its number, and so is what an extension holds
pub declared_written : (pool : PoolType) (i n : ℕ) (w : Form) → IsWritten w → AreOf n (declared_bytes pool i (n, w))
declared_written pool i n w h = by (known_field pool i n) refl where
  by : (o : Option FieldType) → known_field pool i n ≡ o → AreOf n (elim o [ None ↦ [] | Some f ↦ content_bytes pool f w ])
  by None is = no_bytes (λ k. k ≡ n)
  by (Some f) is = subst (λ k. AreOf k (content_bytes pool f w)) (known_number pool i n f is) (set_written pool f w h)

module _ (P : ℕ → Type 0) (pool : PoolType) (i : ℕ) where
  -- where P holds of the number of each extension
  abbrev pub OfExtensions : Type 0
  OfExtensions = (n : ℕ) (f : FieldType) → known_extension pool i n ≡ Some f → P n

  extension_written : OfExtensions → (e : ℕ × Form) → IsWritten e.1 → AllOf P (extension_bytes pool i e)
  extension_written all e h = by (known_extension pool i e.0) refl where
    by : (o : Option FieldType) → known_extension pool i e.0 ≡ o → AllOf P (elim o [ None ↦ [] | Some f ↦ content_bytes pool f e.1 ])
    by None is = no_bytes P
    by (Some f) is =
        let number : f.number ≡ e.0 = extension_number pool i e.0 f is in
        let here : P e.0 = all e.0 f is in
        others (λ k. k ≡ f.number) P (λ k same. subst P (sym (same ∙ number)) here) (content_bytes pool f e.1) (set_written pool f e.1 h)

  down_written : OfExtensions → (es : List (ℕ × Form)) → AllByRecursion (λ e. IsWritten e.1) es → (records : List (ℕ × Payload)) → AllByRecursion (λ r. P r.0) records → AllOf P (others_down pool i es records)
  down_written all [] h records k = given_records P (above 0 records) (all_filtered (λ r. P r.0) (λ r. nat_lt 0 r.0) records k)
  down_written all (e ∷ es) h records k =
      one_behind P (others_down pool i es (up_to e.0 records)) (extension_bytes pool i e ++ records_bytes (records_of (above e.0 records)))
      (down_written all es h.1 (up_to e.0 records) (all_filtered (λ r. P r.0) (λ r. nat_le r.0 e.0) records k))
      (one_behind P (extension_bytes pool i e) (records_bytes (records_of (above e.0 records))) (extension_written all e h.0) (given_records P (above e.0 records) (all_filtered (λ r. P r.0) (λ r. nat_lt e.0 r.0) records k)))

  -- what extensions hold, and the records of other numbers
  pub others_written : OfExtensions → (es : List (ℕ × Form)) → AllByRecursion (λ e. IsWritten e.1) es → (records : List (ℕ × Payload)) → AllByRecursion (λ r. P r.0) records → AllOf P (others_down pool i (reverse es) records)
  others_written all es h records k = down_written all (reverse es) (all_reversed (λ e. IsWritten e.1) es h) records k

fields_written : (pool : PoolType) (i : ℕ) (es : List (ℕ × Form)) → AllByRecursion (λ e. IsWritten e.1) es → AreRecords (flat_map (declared_bytes pool i) es)
fields_written pool i [] h = no_bytes (λ k. Unit {0})
fields_written pool i (e ∷ es) h =
    one_behind (λ k. Unit {0}) (declared_bytes pool i e) (flat_map (declared_bytes pool i) es) (others (λ k. k ≡ e.0) (λ k. Unit {0}) (λ k same. tt) (declared_bytes pool i e) (declared_written pool i e.0 e.1 h.0)) (fields_written pool i es h.1)

any_number : (rs : List (ℕ × Payload)) → AllByRecursion (λ r. Unit {0}) rs
any_number [] = tt
any_number (r ∷ rs) = (tt, any_number rs)

content_written : (pool : PoolType) (i : ℕ) (fields extensions : List (ℕ × Form)) (records : List (ℕ × Payload)) → AllByRecursion (λ e. IsWritten e.1) fields → AllByRecursion (λ e. IsWritten e.1) extensions → AreRecords (content pool i fields extensions records)
content_written pool i fields extensions records h k =
    one_behind (λ k. Unit {0}) (flat_map (declared_bytes pool i) fields) (others_down pool i (reverse extensions) records) (fields_written pool i fields h)
    (others_written (λ k. Unit {0}) pool i (λ n f is. tt) extensions k records (any_number records))

-- ---- at each depth

abbrev Placed : Type 0
Placed = PoolType → ℕ → List ℕ

abbrev seen_message : DynamicMessage → List ℕ
seen_message = fold-MessageOf MessageDescriptor Placed Form (List ℕ) Placed held_step value_step message_step parts_step

abbrev seen_parts : Parts → Placed
seen_parts = fold-PartsOf MessageDescriptor Placed Form (List ℕ) Placed held_step value_step message_step parts_step

abbrev HeldTold : blocks.Held → Type 0
HeldTold h = (pool : PoolType) (i : ℕ) → AreRecords (held_bytes h pool i)

abbrev ValueTold : Value → Type 0
ValueTold v = IsWritten (form_of v)

abbrev MessageTold : DynamicMessage → Type 0
MessageTold m = AreRecords (seen_message m)

abbrev PartsTold : Parts → Type 0
PartsTold p = (pool : PoolType) (i : ℕ) → AreRecords (seen_parts p pool i)

abbrev ToldHeld : Type 0
ToldHeld = (h : blocks.Held) × HeldTold h

abbrev ToldValue : Type 0
ToldValue = (v : Value) × ValueTold v

abbrev ToldMessage : Type 0
ToldMessage = (m : DynamicMessage) × MessageTold m

abbrev ToldParts : Type 0
ToldParts = (p : Parts) × PartsTold p

items_told : (vs : List ToldValue) → AllByRecursion IsWritten (map form_of (map (λ e. e.0) vs))
items_told [] = tt
items_told (v ∷ vs) = (v.1, items_told vs)

entries_told : (es : List (ℕ × ToldValue)) → AllByRecursion (λ (e : ℕ × Form). IsWritten e.1) (map (on_value form_of) (map (on_value (λ (e : ToldValue). e.0)) es))
entries_told [] = tt
entries_told (e ∷ es) = (e.1.1, entries_told es)

abbrev SeenValue : ValueOf-F MessageDescriptor blocks.Held Value DynamicMessage Parts → Type 0
SeenValue x = IsWritten (value_step (map-ValueOf MessageDescriptor blocks.Held Value DynamicMessage Parts Placed Form (List ℕ) Placed held_bytes form_of seen_message seen_parts x))

value_told : (y : ValueOf-F MessageDescriptor ToldHeld ToldValue ToldMessage ToldParts) → SeenValue (map-ValueOf MessageDescriptor ToldHeld ToldValue ToldMessage ToldParts blocks.Held Value DynamicMessage Parts (λ e. e.0) (λ e. e.0) (λ e. e.0) (λ e. e.0) y)
value_told (ValueOf-F.Bool b) = single_written (held.truth b)
value_told (ValueOf-F.I32 z) = single_written (held.int32 z)
value_told (ValueOf-F.I64 z) = single_written (held.int64 z)
value_told (ValueOf-F.U32 n) = single_written (held.uint32 n)
value_told (ValueOf-F.U64 n) = single_written (held.uint64 n)
value_told (ValueOf-F.String t) = single_written (held.text (string_bytes t))
value_told (ValueOf-F.Bytes b) = single_written (held.blob b.items)
value_told (ValueOf-F.EnumNumber z) = single_written (held.enumerated z)
value_told (ValueOf-F.Message m) = message_written (seen_message m.0) m.1
value_told (ValueOf-F.List vs) = list_written (map form_of (map (λ e. e.0) vs.items)) (items_told vs.items)
value_told (ValueOf-F.Map es) = map_written (map (λ (e : MapKey × Value). (e.0, form_of e.1)) (map (λ (e : MapKey × ToldValue). (e.0, e.1.0)) es.entries))

abbrev SeenHeld : HeldOf-F MessageDescriptor blocks.Held Value DynamicMessage Parts → Type 0
SeenHeld x = (pool : PoolType) (i : ℕ) → AreRecords (held_step (map-HeldOf MessageDescriptor blocks.Held Value DynamicMessage Parts Placed Form (List ℕ) Placed held_bytes form_of seen_message seen_parts x) pool i)

held_told : (y : HeldOf-F MessageDescriptor ToldHeld ToldValue ToldMessage ToldParts) → SeenHeld (map-HeldOf MessageDescriptor ToldHeld ToldValue ToldMessage ToldParts blocks.Held Value DynamicMessage Parts (λ e. e.0) (λ e. e.0) (λ e. e.0) (λ e. e.0) y)
held_told HeldOf-F.Nothing = λ pool i. no_bytes (λ k. Unit {0})
held_told (HeldOf-F.Block b) = b.value.1

abbrev SeenMessage : MessageOf-F MessageDescriptor blocks.Held Value DynamicMessage Parts → Type 0
SeenMessage x = AreRecords (message_step (map-MessageOf MessageDescriptor blocks.Held Value DynamicMessage Parts Placed Form (List ℕ) Placed held_bytes form_of seen_message seen_parts x))

message_told : (y : MessageOf-F MessageDescriptor ToldHeld ToldValue ToldMessage ToldParts) → SeenMessage (map-MessageOf MessageDescriptor ToldHeld ToldValue ToldMessage ToldParts blocks.Held Value DynamicMessage Parts (λ e. e.0) (λ e. e.0) (λ e. e.0) (λ e. e.0) y)
message_told y = y.held.1 y.descriptor.pool.now y.descriptor.index

abbrev SeenParts : PartsOf-F MessageDescriptor blocks.Held Value DynamicMessage Parts → Type 0
SeenParts x = (pool : PoolType) (i : ℕ) → AreRecords (parts_step (map-PartsOf MessageDescriptor blocks.Held Value DynamicMessage Parts Placed Form (List ℕ) Placed held_bytes form_of seen_message seen_parts x) pool i)

parts_told : (y : PartsOf-F MessageDescriptor ToldHeld ToldValue ToldMessage ToldParts) → SeenParts (map-PartsOf MessageDescriptor ToldHeld ToldValue ToldMessage ToldParts blocks.Held Value DynamicMessage Parts (λ e. e.0) (λ e. e.0) (λ e. e.0) (λ e. e.0) y)
parts_told y pool i =
    content_written pool i (map (on_value form_of) (map (on_value (λ (e : ToldValue). e.0)) y.fields)) (map (on_value form_of) (map (on_value (λ (e : ToldValue). e.0)) y.extensions)) (undeclared y.unknown)
    (entries_told y.fields) (entries_told y.extensions)

-- each value is written in records of its field's number
pub written : (v : Value) → IsWritten (form_of v)
written = ind-ValueOf MessageDescriptor HeldTold ValueTold MessageTold PartsTold
    (λ x y is pool i. subst AreRecords (sym (ap (λ s. s pool i) (fold-roll-HeldOf MessageDescriptor Placed Form (List ℕ) Placed held_step value_step message_step parts_step x))) (subst SeenHeld is (held_told y) pool i))
    (λ x y is. subst IsWritten (sym (fold-roll-ValueOf MessageDescriptor Placed Form (List ℕ) Placed held_step value_step message_step parts_step x)) (subst SeenValue is (value_told y)))
    (λ x y is. subst AreRecords (sym (fold-roll-MessageOf MessageDescriptor Placed Form (List ℕ) Placed held_step value_step message_step parts_step x)) (subst SeenMessage is (message_told y)))
    (λ x y is pool i. subst AreRecords (sym (ap (λ s. s pool i) (fold-roll-PartsOf MessageDescriptor Placed Form (List ℕ) Placed held_step value_step message_step parts_step x))) (subst SeenParts is (parts_told y) pool i))

pub all_forms : (es : List (ℕ × Value)) → AllByRecursion (λ e. IsWritten e.1) (forms es)
all_forms [] = tt
all_forms (e ∷ es) = (written e.1, all_forms es)
