-- What stands at a path of a record stands there still when other options are put at another path.
use Rattle.std.proofs.Common.{◌≡◌, ◌∙◌, ℕ, zero, suc, ℤ, pos, negsuc, Bool, true, false, cond, List, [], ◌∷◌, Option, ap, refl, sym}
use Rattle.std.specs.Ordering.{int_eq}
use Rattle.std.proofs.lemmas.Bool.Decides.{Decides-int_eq}
use Rattle.descriptor_records.specs.Content.{EnumContent, EnumValueContent, ExtensionRangeContent, FieldContent, FileContent, MessageContent, message, MessageContents, more_messages, no_messages, MethodContent, OneofContent, OptionsContent, ServiceContent}
use Rattle.reflect_growth.specs.Put.{enum_put, field_put, file_put, message_put, method_put, nested_at, oneof_put, own_put, put_in, put_nested, range_put, service_put, value_put, with_at}
use Rattle.settled_records.proofs.Told.{head_is, tail_is}

-- options that change nothing where they are put change nothing there behind others at another path
abbrev Stays : {A : Type 0} → (List ℤ → OptionsContent → A → A) → Type 0
Stays {A} put = (at way : List ℤ) (o v : OptionsContent) (x : A) → (way ≡ at → ⊥) → put at o x ≡ x → put at o (put way v x) ≡ put way v x

-- ---- lists
-- what leaves the entry at a place leaves it behind a change of another
with_stays : {A : Type 0} (f g : A → A) (k j : ℕ) → (j ≡ k → (x : A) → f x ≡ x → f (g x) ≡ g x) → (xs : List A) → with_at k f xs ≡ xs → with_at k f (with_at j g xs) ≡ with_at j g xs
with_stays f g k j both [] e = refl
with_stays f g zero zero both (x ∷ xs) e = ap (λ y. y ∷ xs) (both refl x (head_is (f x) x xs xs e))
with_stays f g zero (suc j) both (x ∷ xs) e = ap (λ y. y ∷ with_at j g xs) (head_is (f x) x xs xs e)
with_stays f g (suc k) zero both (x ∷ xs) e = ap (λ ys. g x ∷ ys) (tail_is x x (with_at k f xs) xs e)
with_stays f g (suc k) (suc j) both (x ∷ xs) e = ap (λ ys. x ∷ ys) (with_stays f g k j (λ same. both (ap suc same)) xs (tail_is x x (with_at k f xs) xs e))

first_is : (m n : MessageContent) (ms ns : MessageContents) → more_messages m ms ≡ more_messages n ns → m ≡ n
first_is m n ms ns e = cc e

others_are : (m n : MessageContent) (ms ns : MessageContents) → more_messages m ms ≡ more_messages n ns → ms ≡ ns
others_are m n ms ns e = cc e

nested_at_stays : (f g : MessageContent → MessageContent) (k j : ℕ) → (j ≡ k → (m : MessageContent) → f m ≡ m → f (g m) ≡ g m) → (ms : MessageContents) → nested_at k f ms ≡ ms
    → nested_at k f (nested_at j g ms) ≡ nested_at j g ms
nested_at_stays f g k j both no_messages e = refl
nested_at_stays f g zero zero both (more_messages m ms) e = ap (λ n. more_messages n ms) (both refl m (first_is (f m) m ms ms e))
nested_at_stays f g zero (suc j) both (more_messages m ms) e = ap (λ n. more_messages n (nested_at j g ms)) (first_is (f m) m ms ms e)
nested_at_stays f g (suc k) zero both (more_messages m ms) e = ap (λ ns. more_messages (g m) ns) (others_are m m (nested_at k f ms) ms e)
nested_at_stays f g (suc k) (suc j) both (more_messages m ms) e =
    ap (λ ns. more_messages m ns) (nested_at_stays f g k j (λ same. both (ap suc same)) ms (others_are m m (nested_at k f ms) ms e))

-- one by the number of a list and a place in it, and so is the other
number_same : (list : ℕ) (number other : ℤ) → int_eq number (pos list) ≡ true → int_eq other (pos list) ≡ true → other ≡ number
number_same list number other is also = (Decides-int_eq other (pos list)).0 also ∙ sym ((Decides-int_eq number (pos list)).0 is)

in_stays : {A : Type 0} (list : ℕ) (f g : A → A) (number place other to : ℤ) → (other ≡ number → to ≡ place → (x : A) → f x ≡ x → f (g x) ≡ g x) → (xs : List A)
    → put_in list f number place xs ≡ xs → put_in list f number place (put_in list g other to xs) ≡ put_in list g other to xs
in_stays list f g number (negsuc n) other to both xs e = refl
in_stays list f g number (pos k) other (negsuc n) both xs e = e
in_stays list f g number (pos k) other (pos j) both xs e = by (int_eq number (pos list)) refl e (int_eq other (pos list)) refl
  where
    by : (b : Bool) → int_eq number (pos list) ≡ b → cond b (with_at k f xs) xs ≡ xs → (c : Bool) → int_eq other (pos list) ≡ c
        → cond b (with_at k f (cond c (with_at j g xs) xs)) (cond c (with_at j g xs) xs) ≡ cond c (with_at j g xs) xs
    by false is here c also = refl
    by true is here false also = here
    by true is here true also = with_stays f g k j (λ same. both (number_same list number other is also) (ap pos same)) xs here

nested_stays : (f g : MessageContent → MessageContent) (number place other to : ℤ) → (other ≡ number → to ≡ place → (m : MessageContent) → f m ≡ m → f (g m) ≡ g m) → (ms : MessageContents)
    → put_nested f number place ms ≡ ms → put_nested f number place (put_nested g other to ms) ≡ put_nested g other to ms
nested_stays f g number (negsuc n) other to both ms e = refl
nested_stays f g number (pos k) other (negsuc n) both ms e = e
nested_stays f g number (pos k) other (pos j) both ms e = by (int_eq number (pos 3)) refl e (int_eq other (pos 3)) refl
  where
    by : (b : Bool) → int_eq number (pos 3) ≡ b → cond b (nested_at k f ms) ms ≡ ms → (c : Bool) → int_eq other (pos 3) ≡ c
        → cond b (nested_at k f (cond c (nested_at j g ms) ms)) (cond c (nested_at j g ms) ms) ≡ cond c (nested_at j g ms) ms
    by false is here c also = refl
    by true is here false also = here
    by true is here true also = nested_at_stays f g k j (λ same. both (number_same 3 number other is also) (ap pos same)) ms here

list_stays : {A : Type 0} (put : List ℤ → OptionsContent → A → A) → Stays put → (list : ℕ) (number place : ℤ) (at : List ℤ) (other to : ℤ) (way : List ℤ) (o v : OptionsContent)
    → (other ∷ to ∷ way ≡ number ∷ place ∷ at → ⊥) → (xs : List A) → put_in list (put at o) number place xs ≡ xs
    → put_in list (put at o) number place (put_in list (put way v) other to xs) ≡ put_in list (put way v) other to xs
list_stays put stays list number place at other to way o v apart xs e =
    in_stays list (put at o) (put way v) number place other to (λ n p x is. stays at way o v x (λ same. apart (λ i. n i ∷ p i ∷ same i)) is) xs e

-- ---- records
own_stays : Stays own_put
own_stays [] [] o v x apart e = absurd (apart refl)
own_stays [] (number ∷ way) o v x apart e = e
own_stays (number ∷ at) way o v x apart e = refl

field_stays : Stays field_put
field_stays at way o v f apart e = ap (λ y. record f { options = y }) (own_stays at way o v f.options apart (ap (λ (g : FieldContent). g.options) e))

oneof_stays : Stays oneof_put
oneof_stays at way o v x apart e = ap (λ y. record x { options = y }) (own_stays at way o v x.options apart (ap (λ (z : OneofContent). z.options) e))

range_stays : Stays range_put
range_stays at way o v r apart e = ap (λ y. record r { options = y }) (own_stays at way o v r.options apart (ap (λ (s : ExtensionRangeContent). s.options) e))

value_stays : Stays value_put
value_stays at way o v x apart e = ap (λ y. record x { options = y }) (own_stays at way o v x.options apart (ap (λ (z : EnumValueContent). z.options) e))

method_stays : Stays method_put
method_stays at way o v m apart e = ap (λ y. record m { options = y }) (own_stays at way o v m.options apart (ap (λ (n : MethodContent). n.options) e))

enum_stays : Stays enum_put
enum_stays [] [] o v e apart is = absurd (apart refl)
enum_stays [] (other ∷ []) o v e apart is = is
enum_stays [] (other ∷ to ∷ way) o v e apart is =
    ap (λ (y : Option OptionsContent). record (enum_put (other ∷ to ∷ way) v e) { options = y }) (ap (λ (x : EnumContent). x.options) is)
enum_stays (number ∷ []) way o v e apart is = refl
enum_stays (number ∷ place ∷ at) [] o v e apart is = ap (enum_put [] v) is
enum_stays (number ∷ place ∷ at) (other ∷ []) o v e apart is = is
enum_stays (number ∷ place ∷ at) (other ∷ to ∷ way) o v e apart is =
    ap (λ vs. record e { value = vs }) (list_stays value_put value_stays 2 number place at other to way o v apart e.value (ap (λ (x : EnumContent). x.value) is))

service_stays : Stays service_put
service_stays [] [] o v s apart is = absurd (apart refl)
service_stays [] (other ∷ []) o v s apart is = is
service_stays [] (other ∷ to ∷ way) o v s apart is =
    ap (λ (y : Option OptionsContent). record (service_put (other ∷ to ∷ way) v s) { options = y }) (ap (λ (x : ServiceContent). x.options) is)
service_stays (number ∷ []) way o v s apart is = refl
service_stays (number ∷ place ∷ at) [] o v s apart is = ap (service_put [] v) is
service_stays (number ∷ place ∷ at) (other ∷ []) o v s apart is = is
service_stays (number ∷ place ∷ at) (other ∷ to ∷ way) o v s apart is =
    ap (λ ms. record s { method = ms }) (list_stays method_put method_stays 2 number place at other to way o v apart s.method (ap (λ (x : ServiceContent). x.method) is))

-- ---- messages
-- the parts of a message, but for those in which nothing is put
abbrev fields_of : MessageContent → List FieldContent
fields_of (message name fields extensions nested enums ranges oneofs options reserved names) = fields

abbrev extensions_of : MessageContent → List FieldContent
extensions_of (message name fields extensions nested enums ranges oneofs options reserved names) = extensions

abbrev nested_of : MessageContent → MessageContents
nested_of (message name fields extensions nested enums ranges oneofs options reserved names) = nested

abbrev enums_of : MessageContent → List EnumContent
enums_of (message name fields extensions nested enums ranges oneofs options reserved names) = enums

abbrev ranges_of : MessageContent → List ExtensionRangeContent
ranges_of (message name fields extensions nested enums ranges oneofs options reserved names) = ranges

abbrev oneofs_of : MessageContent → List OneofContent
oneofs_of (message name fields extensions nested enums ranges oneofs options reserved names) = oneofs

abbrev options_of : MessageContent → Option OptionsContent
options_of (message name fields extensions nested enums ranges oneofs options reserved names) = options

-- a message with these options of its own
abbrev with_options : MessageContent → Option OptionsContent → MessageContent
with_options (message name fields extensions nested enums ranges oneofs was reserved names) options = message name fields extensions nested enums ranges oneofs options reserved names

message_stays : Stays message_put
message_stays [] [] o v m apart is = absurd (apart refl)
message_stays [] (other ∷ []) o v m apart is = is
message_stays [] (other ∷ to ∷ way) o v (message name fields extensions nested enums ranges oneofs options reserved names) apart is =
    ap (with_options (message_put (other ∷ to ∷ way) v (message name fields extensions nested enums ranges oneofs options reserved names))) (ap options_of is)
message_stays (number ∷ []) way o v m apart is = refl
message_stays (number ∷ place ∷ at) [] o v (message name fields extensions nested enums ranges oneofs options reserved names) apart is = ap (message_put [] v) is
message_stays (number ∷ place ∷ at) (other ∷ []) o v m apart is = is
message_stays (number ∷ place ∷ at) (other ∷ to ∷ way) o v (message name fields extensions nested enums ranges oneofs options reserved names) apart is =
    let fs = list_stays field_put field_stays 2 number place at other to way o v apart fields (ap fields_of is) in
    let xs = list_stays field_put field_stays 6 number place at other to way o v apart extensions (ap extensions_of is) in
    let ms = nested_stays (message_put at o) (message_put way v) number place other to (λ n p m same. message_stays at way o v m (λ e. apart (λ i. n i ∷ p i ∷ e i)) same) nested (ap nested_of is) in
    let es = list_stays enum_put enum_stays 4 number place at other to way o v apart enums (ap enums_of is) in
    let rs = list_stays range_put range_stays 5 number place at other to way o v apart ranges (ap ranges_of is) in
    let os = list_stays oneof_put oneof_stays 8 number place at other to way o v apart oneofs (ap oneofs_of is) in
    (λ i. message name (fs i) (xs i) (ms i) (es i) (rs i) (os i) options reserved names)

-- ---- files
pub file_stays : (at way : List ℤ) (o v : OptionsContent) (f : FileContent) → (way ≡ at → ⊥) → file_put at o f ≡ f → file_put at o (file_put way v f) ≡ file_put way v f
file_stays [] [] o v f apart is = absurd (apart refl)
file_stays [] (other ∷ []) o v f apart is = is
file_stays [] (other ∷ to ∷ way) o v f apart is =
    ap (λ (y : Option OptionsContent). record (file_put (other ∷ to ∷ way) v f) { options = y }) (ap (λ (x : FileContent). x.options) is)
file_stays (number ∷ []) way o v f apart is = refl
file_stays (number ∷ place ∷ at) [] o v f apart is = ap (file_put [] v) is
file_stays (number ∷ place ∷ at) (other ∷ []) o v f apart is = is
file_stays (number ∷ place ∷ at) (other ∷ to ∷ way) o v f apart is =
    let ms = list_stays message_put message_stays 4 number place at other to way o v apart f.message_type (ap (λ (x : FileContent). x.message_type) is) in
    let es = list_stays enum_put enum_stays 5 number place at other to way o v apart f.enum_type (ap (λ (x : FileContent). x.enum_type) is) in
    let ss = list_stays service_put service_stays 6 number place at other to way o v apart f.service (ap (λ (x : FileContent). x.service) is) in
    let xs = list_stays field_put field_stays 7 number place at other to way o v apart f.extension (ap (λ (x : FileContent). x.extension) is) in
    (λ i. record f { message_type = ms i; enum_type = es i; service = ss i; extension = xs i })
