-- What linking reads of files behind an edit of options is what it reads of the files, with what it
-- reads of the options put there.
use Rattle.std.proofs.Common.{◌≡◌, ◌∙◌, ℕ, zero, suc, ℤ, pos, negsuc, Bool, true, false, cond, List, [], ◌∷◌, map, fold, Option, ap, refl}
use Rattle.std.specs.List.{AllByRecursion}
use Rattle.std.specs.Option.{option_map}
use Rattle.std.specs.Ordering.{int_eq}
use Rattle.descriptor_records.specs.Content.{EnumContent, EnumValueContent, ExtensionRangeContent, FieldContent, FileContent, MessageContent, message, MessageContents, more_messages, no_messages, MethodContent, OneofContent, OptionsContent, ServiceContent, options_view}
use Rattle.texts_view.specs.ReadOptions.{read_enum, read_field, read_file, read_message, read_messages, read_method, read_oneof, read_options, read_range, read_service, read_value}
use Rattle.reflect_growth.specs.Put.{edited, enum_put, field_put, file_put, message_put, method_put, nested_at, oneof_put, own_put, path_put, put_in, put_nested, range_put, service_put, value_put, with_at}
use Rattle.reflect_growth.specs.declared.settle.Edit.{Edit}
use Rattle.reflect_growth.specs.declared.settle.Edit.TheVariants as edits

-- ---- lists
module _ {A B : Type 0} (view : A → B) (change : A → A) (changed : B → B) (same : (x : A) → view (change x) ≡ changed (view x)) where
  map_at : (k : ℕ) (xs : List A) → map view (with_at k change xs) ≡ with_at k changed (map view xs)
  map_at k [] = refl
  map_at zero (x ∷ xs) = ap (λ y. y ∷ map view xs) (same x)
  map_at (suc k) (x ∷ xs) = ap (λ ys. view x ∷ ys) (map_at k xs)

  map_in : (list : ℕ) (number place : ℤ) (xs : List A) → map view (put_in list change number place xs) ≡ put_in list changed number place (map view xs)
  map_in list number (negsuc n) xs = refl
  map_in list number (pos k) xs = by (int_eq number (pos list))
    where
      by : (b : Bool) → map view (cond b (with_at k change xs) xs) ≡ cond b (with_at k changed (map view xs)) (map view xs)
      by true = map_at k xs
      by false = refl

-- ---- records
own_read : (path : List ℤ) (o : OptionsContent) (x : Option OptionsContent) → option_map read_options (own_put path o x) ≡ own_put path (read_options o) (option_map read_options x)
own_read [] o x = refl
own_read (number ∷ path) o x = refl

field_read : (path : List ℤ) (o : OptionsContent) (f : FieldContent) → read_field (field_put path o f) ≡ field_put path (read_options o) (read_field f)
field_read path o f = ap (λ y. record f { options = y }) (own_read path o f.options)

oneof_read : (path : List ℤ) (o : OptionsContent) (x : OneofContent) → read_oneof (oneof_put path o x) ≡ oneof_put path (read_options o) (read_oneof x)
oneof_read path o x = ap (λ y. record x { options = y }) (own_read path o x.options)

range_read : (path : List ℤ) (o : OptionsContent) (r : ExtensionRangeContent) → read_range (range_put path o r) ≡ range_put path (read_options o) (read_range r)
range_read path o r = ap (λ y. record r { options = y }) (own_read path o r.options)

value_read : (path : List ℤ) (o : OptionsContent) (v : EnumValueContent) → read_value (value_put path o v) ≡ value_put path (read_options o) (read_value v)
value_read path o v = ap (λ y. record v { options = y }) (own_read path o v.options)

method_read : (path : List ℤ) (o : OptionsContent) (m : MethodContent) → read_method (method_put path o m) ≡ method_put path (read_options o) (read_method m)
method_read path o m = ap (λ y. record m { options = y }) (own_read path o m.options)

enum_read : (path : List ℤ) (o : OptionsContent) (e : EnumContent) → read_enum (enum_put path o e) ≡ enum_put path (read_options o) (read_enum e)
enum_read [] o e = refl
enum_read (number ∷ []) o e = refl
enum_read (number ∷ place ∷ rest) o e =
    ap (λ vs. record (read_enum e) { value = vs }) (map_in read_value (value_put rest o) (value_put rest (read_options o)) (value_read rest o) 2 number place e.value)

service_read : (path : List ℤ) (o : OptionsContent) (s : ServiceContent) → read_service (service_put path o s) ≡ service_put path (read_options o) (read_service s)
service_read [] o s = refl
service_read (number ∷ []) o s = refl
service_read (number ∷ place ∷ rest) o s =
    ap (λ ms. record (read_service s) { method = ms }) (map_in read_method (method_put rest o) (method_put rest (read_options o)) (method_read rest o) 2 number place s.method)

-- ---- messages
module _ (change changed : MessageContent → MessageContent) (same : (m : MessageContent) → read_message (change m) ≡ changed (read_message m)) where
  nested_at_read : (k : ℕ) (ms : MessageContents) → read_messages (nested_at k change ms) ≡ nested_at k changed (read_messages ms)
  nested_at_read k no_messages = refl
  nested_at_read zero (more_messages m ms) = ap (λ y. more_messages y (read_messages ms)) (same m)
  nested_at_read (suc k) (more_messages m ms) = ap (λ ys. more_messages (read_message m) ys) (nested_at_read k ms)

  nested_read : (number place : ℤ) (ms : MessageContents) → read_messages (put_nested change number place ms) ≡ put_nested changed number place (read_messages ms)
  nested_read number (negsuc n) ms = refl
  nested_read number (pos k) ms = by (int_eq number (pos 3))
    where
      by : (b : Bool) → read_messages (cond b (nested_at k change ms) ms) ≡ cond b (nested_at k changed (read_messages ms)) (read_messages ms)
      by true = nested_at_read k ms
      by false = refl

message_read : (path : List ℤ) (o : OptionsContent) (m : MessageContent) → read_message (message_put path o m) ≡ message_put path (read_options o) (read_message m)
message_read [] o (message name fields extensions nested enums ranges oneofs options reserved names) = refl
message_read (number ∷ []) o m = refl
message_read (number ∷ place ∷ rest) o (message name fields extensions nested enums ranges oneofs options reserved names) =
    let p = read_options o in
    let one = map_in read_field (field_put rest o) (field_put rest p) (field_read rest o) in
    let fs = one 2 number place fields in
    let xs = one 6 number place extensions in
    let ns = nested_read (message_put rest o) (message_put rest p) (message_read rest o) number place nested in
    let es = map_in read_enum (enum_put rest o) (enum_put rest p) (enum_read rest o) 4 number place enums in
    let rs = map_in read_range (range_put rest o) (range_put rest p) (range_read rest o) 5 number place ranges in
    let os = map_in read_oneof (oneof_put rest o) (oneof_put rest p) (oneof_read rest o) 8 number place oneofs in
    λ i. message name (fs i) (xs i) (ns i) (es i) (rs i) (os i) (option_map read_options options) reserved names

-- ---- files
pub file_read : (path : List ℤ) (o : OptionsContent) (f : FileContent) → read_file (file_put path o f) ≡ file_put path (read_options o) (read_file f)
file_read [] o f = refl
file_read (number ∷ []) o f = refl
file_read (number ∷ place ∷ rest) o f =
    let p = read_options o in
    let ms = map_in read_message (message_put rest o) (message_put rest p) (message_read rest o) 4 number place f.message_type in
    let es = map_in read_enum (enum_put rest o) (enum_put rest p) (enum_read rest o) 5 number place f.enum_type in
    let ss = map_in read_service (service_put rest o) (service_put rest p) (service_read rest o) 6 number place f.service in
    let xs = map_in read_field (field_put rest o) (field_put rest p) (field_read rest o) 7 number place f.extension in
    λ i. record (read_file f) { message_type = ms i; enum_type = es i; service = ss i; extension = xs i }

-- an edit of what linking reads: the path of a location is nothing of it
abbrev pub edited_read : List FileContent → Edit → List FileContent
edited_read fs (edits.Options file path options) = with_at file (file_put path.items (read_options (options_view options))) fs
edited_read fs (edits.Location file place path) = fs

one_read : (fs : List FileContent) (e : Edit) → map read_file (edited fs e) ≡ edited_read (map read_file fs) e
one_read fs (edits.Options file path options) =
    map_at read_file (file_put path.items (options_view options)) (file_put path.items (read_options (options_view options))) (file_read path.items (options_view options)) file fs
one_read fs (edits.Location file place path) = by file fs
  where
    by : (k : ℕ) (fs : List FileContent) → map read_file (with_at k (path_put place path.items) fs) ≡ map read_file fs
    by k [] = refl
    by zero (f ∷ fs) = refl
    by (suc k) (f ∷ fs) = ap (λ ys. read_file f ∷ ys) (by k fs)

all_read : (es : List Edit) (fs : List FileContent) → map read_file (fold edited fs es) ≡ fold edited_read (map read_file fs) es
all_read [] fs = refl
all_read (e ∷ es) fs = all_read es (edited fs e) ∙ ap (λ gs. fold edited_read gs es) (one_read fs e)

-- where each edit leaves what linking reads, all of them do
pub read_stays : (es : List Edit) (fs : List FileContent) → AllByRecursion (λ e. edited_read (map read_file fs) e ≡ map read_file fs) es → map read_file (fold edited fs es) ≡ map read_file fs
read_stays es fs idle = all_read es fs ∙ by es idle
  where
    by : (es : List Edit) → AllByRecursion (λ e. edited_read (map read_file fs) e ≡ map read_file fs) es → fold edited_read (map read_file fs) es ≡ map read_file fs
    by [] idle = refl
    by (e ∷ es) idle = ap (λ gs. fold edited_read gs es) idle.0 ∙ by es idle.1
