-- What edits leave of a file's content: what is known of it from outside, the names that it gives,
-- and all but options and paths.
use Rattle.std.proofs.Common.{◌≡◌, ◌∙◌, ℕ, zero, suc, ℤ, pos, negsuc, List, [], ◌∷◌, Bool, true, false, cond, map, fold, ap, refl}
use Rattle.std.specs.Ordering.{int_eq}
use Rattle.descriptor_records.specs.Content.{OptionsContent, EnumContent, ServiceContent, MessageContent, message, MessageContents, no_messages, more_messages, FileContent, options_view}
use Rattle.reflect_known.specs.GivenNames.{EnumNames, ServiceNames, message_names, more_names}
use Rattle.reflect_growth.specs.declared.settle.Edit.{Edit}
use Rattle.reflect_growth.specs.declared.settle.Edit.TheVariants as edits
use Rattle.reflect_growth.specs.Put.{with_at, nested_at, put_in, put_nested, field_put, oneof_put, value_put, method_put, enum_put, service_put, message_put, file_put, path_put, edited}
use Rattle.reflect_known.proofs.MessageNames.{nested_of}
use Rattle.reflect_growth.proofs.Told.{enum_told, service_told, message_told, messages_told, file_told, header_told}

pub at_kept : {A B : Type 0} (g : A → B) (f : A → A) → ((a : A) → g (f a) ≡ g a) → (k : ℕ)
    (xs : List A) → map g (with_at k f xs) ≡ map g xs
at_kept g f same k [] = refl
at_kept g f same zero (x ∷ xs) = ap (λ y. y ∷ map g xs) (same x)
at_kept g f same (suc k) (x ∷ xs) = ap (λ ys. g x ∷ ys) (at_kept g f same k xs)

pub chosen : {A B : Type 0} (g : A → B) (b : Bool) (y x : A) → g y ≡ g x → g (cond b y x) ≡ g x
chosen g true y x e = e
chosen g false y x e = refl

pub in_kept : {A B : Type 0} (g : A → B) (f : A → A) → ((a : A) → g (f a) ≡ g a) → (list : ℕ)
    (number place : ℤ) (xs : List A) → map g (put_in list f number place xs) ≡ map g xs
in_kept g f same list number (pos k) xs =
    chosen (map g) (int_eq number (pos list)) (with_at k f xs) xs (at_kept g f same k xs)
in_kept g f same list number (negsuc n) xs = refl

enum_same : (path : List ℤ) (o : OptionsContent) (e : EnumContent)
    → enum_told (enum_put path o e) ≡ enum_told e
enum_same [] o e = refl
enum_same (number ∷ []) o e = refl
enum_same (number ∷ place ∷ rest) o e =
    ap {B = EnumNames} (λ vs. record { name = e.name; values = vs })
    (in_kept (λ v. v.name) (value_put rest o) (λ x. refl) 2 number place e.value)

service_same : (path : List ℤ) (o : OptionsContent) (s : ServiceContent)
    → service_told (service_put path o s) ≡ service_told s
service_same [] o s = refl
service_same (number ∷ []) o s = refl
service_same (number ∷ place ∷ rest) o s =
    ap {B = ServiceNames} (λ ms. record { name = s.name; methods = ms })
    (in_kept (λ m. m.name) (method_put rest o) (λ x. refl) 2 number place s.method)

nested_same : (f : MessageContent → MessageContent)
    → ((m : MessageContent) → message_told (f m) ≡ message_told m) → (k : ℕ)
    (ms : MessageContents) → messages_told (nested_at k f ms) ≡ messages_told ms
nested_same f same k no_messages = refl
nested_same f same zero (more_messages m ms) = ap (λ x. more_names x (messages_told ms)) (same m)
nested_same f same (suc k) (more_messages m ms) =
    ap (λ xs. more_names (message_told m) xs) (nested_same f same k ms)

put_nested_same : (f : MessageContent → MessageContent)
    → ((m : MessageContent) → message_told (f m) ≡ message_told m) → (number place : ℤ)
    (ms : MessageContents) → messages_told (put_nested f number place ms) ≡ messages_told ms
put_nested_same f same number (pos k) ms =
    chosen messages_told (int_eq number (pos 3)) (nested_at k f ms) ms (nested_same f same k ms)
put_nested_same f same number (negsuc n) ms = refl

message_same : (path : List ℤ) (o : OptionsContent) (m : MessageContent)
    → message_told (message_put path o m) ≡ message_told m
message_same [] o (message name fields extensions nested enums ranges oneofs options reserved names) = refl
message_same (number ∷ []) o m = refl
message_same (number ∷ place ∷ rest) o (message name fields extensions nested enums ranges oneofs options reserved names) =
    let fs = in_kept (λ f. f.name) (field_put rest o) (λ x. refl) 2 number place fields in
    let xs = in_kept (λ f. f.name) (field_put rest o) (λ x. refl) 6 number place extensions in
    let ns = put_nested_same (message_put rest o) (message_same rest o) number place nested in
    let es = in_kept enum_told (enum_put rest o) (enum_same rest o) 4 number place enums in
    let os = in_kept (λ x. x.name) (oneof_put rest o) (λ x. refl) 8 number place oneofs in
    λ i. message_names name (fs i) (ns i) (es i) (xs i) (os i)

pub names_kept : (path : List ℤ) (o : OptionsContent) (f : FileContent)
    → file_told (file_put path o f) ≡ file_told f
names_kept [] o f = refl
names_kept (number ∷ []) o f = refl
names_kept (number ∷ place ∷ rest) o f =
    let ms = in_kept message_told (message_put rest o) (message_same rest o) 4 number place f.message_type in
    let es = in_kept enum_told (enum_put rest o) (enum_same rest o) 5 number place f.enum_type in
    let ss = in_kept service_told (service_put rest o) (service_same rest o) 6 number place f.service in
    let xs = in_kept (λ x. x.name) (field_put rest o) (λ x. refl) 7 number place f.extension in
    λ i. record {
      package_name = f.package_name;
      messages = nested_of (ms i);
      enums = es i;
      services = ss i;
      extensions = xs i;
    }

pub header_kept : (path : List ℤ) (o : OptionsContent) (f : FileContent)
    → header_told (file_put path o f) ≡ header_told f
header_kept [] o f = refl
header_kept (number ∷ []) o f = refl
header_kept (number ∷ place ∷ rest) o f = refl

-- what no edit changes in a file, none changes in a list of files
pub edits_kept : {B : Type 0} (g : FileContent → B)
    → ((path : List ℤ) (o : OptionsContent) (f : FileContent) → g (file_put path o f) ≡ g f)
    → ((k : ℕ) (path : List ℤ) (f : FileContent) → g (path_put k path f) ≡ g f) → (es : List Edit)
    (fs : List FileContent) → map g (fold edited fs es) ≡ map g fs
edits_kept g puts moves [] fs = refl
edits_kept g puts moves (edits.Options file path options ∷ es) fs =
    let put = file_put path.items (options_view options) in
    edits_kept g puts moves es (with_at file put fs)
    ∙ at_kept g put (puts path.items (options_view options)) file fs
edits_kept g puts moves (edits.Location file place path ∷ es) fs =
    let put = path_put place path.items in
    edits_kept g puts moves es (with_at file put fs)
    ∙ at_kept g put (moves place path.items) file fs
