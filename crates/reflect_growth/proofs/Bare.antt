-- All but options, and the paths of locations, stays where edits are put into a file's content.
use Rattle.std.proofs.Common.{◌≡◌, ℕ, zero, suc, ℤ, pos, negsuc, List, [], ◌∷◌, Option, Some, None, map, ap, refl}
use Rattle.std.specs.Option.{option_map}
use Rattle.std.specs.Ordering.{int_eq}
use Rattle.descriptor_records.specs.Content.{OptionsContent, EnumContent, ServiceContent, LocationContent, MessageContent, message, MessageContents, no_messages, more_messages, FileContent}
use Rattle.reflect_growth.specs.Put.{with_at, nested_at, put_nested, field_put, oneof_put, range_put, value_put, method_put, enum_put, service_put, message_put, file_put, location_put, path_put}
use Rattle.reflect_growth.specs.Settled.{bare_field, bare_oneof, bare_value, bare_enum, bare_method, bare_service, bare_range, bare_location, bare_message, bare_messages, bare_file}
use Rattle.reflect_growth.proofs.Kept.{at_kept, chosen, in_kept}

bare_enum_kept : (path : List ℤ) (o : OptionsContent) (e : EnumContent)
    → bare_enum (enum_put path o e) ≡ bare_enum e
bare_enum_kept [] o e = refl
bare_enum_kept (number ∷ []) o e = refl
bare_enum_kept (number ∷ place ∷ rest) o e =
    ap {B = EnumContent} (λ vs. record (bare_enum e) { value = vs })
    (in_kept bare_value (value_put rest o) (λ x. refl) 2 number place e.value)

bare_service_kept : (path : List ℤ) (o : OptionsContent) (s : ServiceContent)
    → bare_service (service_put path o s) ≡ bare_service s
bare_service_kept [] o s = refl
bare_service_kept (number ∷ []) o s = refl
bare_service_kept (number ∷ place ∷ rest) o s =
    ap {B = ServiceContent} (λ ms. record (bare_service s) { method = ms })
    (in_kept bare_method (method_put rest o) (λ x. refl) 2 number place s.method)

nested_kept : (f : MessageContent → MessageContent)
    → ((m : MessageContent) → bare_message (f m) ≡ bare_message m) → (k : ℕ)
    (ms : MessageContents) → bare_messages (nested_at k f ms) ≡ bare_messages ms
nested_kept f same k no_messages = refl
nested_kept f same zero (more_messages m ms) =
    ap (λ x. more_messages x (bare_messages ms)) (same m)
nested_kept f same (suc k) (more_messages m ms) =
    ap (λ xs. more_messages (bare_message m) xs) (nested_kept f same k ms)

put_nested_kept : (f : MessageContent → MessageContent)
    → ((m : MessageContent) → bare_message (f m) ≡ bare_message m) → (number place : ℤ)
    (ms : MessageContents) → bare_messages (put_nested f number place ms) ≡ bare_messages ms
put_nested_kept f same number (pos k) ms =
    chosen bare_messages (int_eq number (pos 3)) (nested_at k f ms) ms (nested_kept f same k ms)
put_nested_kept f same number (negsuc n) ms = refl

bare_message_kept : (path : List ℤ) (o : OptionsContent) (m : MessageContent)
    → bare_message (message_put path o m) ≡ bare_message m
bare_message_kept [] o
    (message name fields extensions nested enums ranges oneofs options reserved names) = refl
bare_message_kept (number ∷ []) o m = refl
bare_message_kept (number ∷ place ∷ rest) o
    (message name fields extensions nested enums ranges oneofs options reserved names) =
    let field = field_put rest o in
    let fs = in_kept bare_field field (λ x. refl) 2 number place fields in
    let xs = in_kept bare_field field (λ x. refl) 6 number place extensions in
    let ns = put_nested_kept (message_put rest o) (bare_message_kept rest o) number place nested in
    let es = in_kept bare_enum (enum_put rest o) (bare_enum_kept rest o) 4 number place enums in
    let rs = in_kept bare_range (range_put rest o) (λ x. refl) 5 number place ranges in
    let os = in_kept bare_oneof (oneof_put rest o) (λ x. refl) 8 number place oneofs in
    λ i. message name (fs i) (xs i) (ns i) (es i) (rs i) (os i) None reserved names

pub bare_kept : (path : List ℤ) (o : OptionsContent) (f : FileContent)
    → bare_file (file_put path o f) ≡ bare_file f
bare_kept [] o f = refl
bare_kept (number ∷ []) o f = refl
bare_kept (number ∷ place ∷ rest) o f =
    let ms = in_kept bare_message (message_put rest o) (bare_message_kept rest o) 4 number place
    f.message_type in
    let es = in_kept bare_enum (enum_put rest o) (bare_enum_kept rest o) 5 number place
    f.enum_type in
    let ss = in_kept bare_service (service_put rest o) (bare_service_kept rest o) 6 number place
    f.service in
    let xs = in_kept bare_field (field_put rest o) (λ x. refl) 7 number place
    f.extension in
    λ i. record (bare_file f) {
      message_type = ms i;
      enum_type = es i;
      service = ss i;
      extension = xs i;
    }

paths_kept : (k : ℕ) (path : List ℤ) (ls : Option (List LocationContent))
    → option_map (map bare_location) (option_map (with_at k (location_put path)) ls)
    ≡ option_map (map bare_location) ls
paths_kept k path None = refl
paths_kept k path (Some ls) = ap Some (at_kept bare_location (location_put path) (λ l. refl) k ls)

pub bare_moved : (k : ℕ) (path : List ℤ) (f : FileContent)
    → bare_file (path_put k path f) ≡ bare_file f
bare_moved k path f =
    ap {B = FileContent} (λ ls. record (bare_file f) { source_code_info = ls })
    (paths_kept k path f.source_code_info)
