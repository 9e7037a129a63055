-- A pool that grew, cut back to where it was.
use Rattle.std.proofs.Common.{◌≡◌, ℕ, ◌<◌, ◌≤◌, List, [], ◌∷◌, ◌++◌, Bool, true, false, cond, map, take, length, nat_lt, arith, ap, sym, subst, ◌∙◌, refl}
use Rattle.std.proofs.Math.ListN.{length-map}
use Rattle.std.proofs.Math.Seq.{take-append_seam}
use Rattle.std.proofs.lemmas.List.{append-nil}
use Rattle.std.proofs.lemmas.List.Elements.{filter-append}
use Rattle.std.specs.List.{AllByRecursion, filter}
use Rattle.reflect_tables.specs.Types.{ArePooled, MessageWithin, EnumWithin, ExtensionWithin, ServiceWithin, counts_of}
use Rattle.reflect_tables.specs.Views.{file_of, record_of, places_of, message_of, enum_of, extension_of, service_of, pool_of}
use Rattle.reflect_growth.specs.Growth.{Appended}
use Rattle.reflect_growth.specs.Cut.{cut_to}
use Rattle.reflect_growth.specs.Tested.{AreFrom}
use Rattle.reflect_tables.specs.declared.stored.StoredFile.{StoredFile}
use Rattle.reflect_tables.specs.declared.tables.Tables.{Tables}
use Rattle.reflect_pool.proofs.Grown.{all_through}
use Rattle.reflect_build.proofs.Pooled.{map-append}

-- all pass whose places are below
pub filter_below : {Y : Type 0} (file : Y → ℕ) (n : ℕ) (ys : List Y)
    → AllByRecursion (λ y. file y < n) ys → filter (λ y. nat_lt (file y) n) ys ≡ ys
filter_below file n [] h = refl
filter_below file n (y ∷ ys) h =
    let below = h.0 in
    let is : nat_lt (file y) n ≡ true = grind (arith, below) in
    ap (λ b. cond b (y ∷ filter (λ z. nat_lt (file z) n) ys) (filter (λ z. nat_lt (file z) n) ys)) is ∙ ap (λ zs. y ∷ zs) (filter_below file n ys h.1)

-- none passes whose place is not below
pub filter_from : {Y : Type 0} (file : Y → ℕ) (n : ℕ) (ys : List Y) → AllByRecursion (λ y. n ≤ file y) ys → filter (λ y. nat_lt (file y) n) ys ≡ []
filter_from file n [] h = refl
filter_from file n (y ∷ ys) h =
    let above = h.0 in
    let is : nat_lt (file y) n ≡ false = grind (arith, above) in
    ap (λ b. cond b (y ∷ filter (λ z. nat_lt (file z) n) ys) (filter (λ z. nat_lt (file z) n) ys)) is ∙ filter_from file n ys h.1

-- of the views of a list and another behind, those below are those of the first
back : {X Y : Type 0} (f : X → Y) (file : Y → ℕ) (n : ℕ) (olds mores news : List X) → news ≡ olds ++ mores
    → AllByRecursion (λ y. file y < n) (map f olds) → AllByRecursion (λ y. n ≤ file y) (map f mores)
    → filter (λ y. nat_lt (file y) n) (map f news) ≡ map f olds
back {Y = Y} f file n olds mores news e below above =
    let test : Y → Bool = λ y. nat_lt (file y) n in
    ap (λ xs. filter test (map f xs)) e ∙ ap (filter test) (map-append f olds mores) ∙ filter-append test (map f olds) (map f mores)
    ∙ ap (λ ys. ys ++ filter test (map f mores)) (filter_below file n (map f olds) below)
    ∙ ap (λ ys. map f olds ++ ys) (filter_from file n (map f mores) above) ∙ append-nil (map f olds)

files_back : {Y : Type 0} (f : StoredFile → Y) (old more new : Tables) → Appended old more new → take (length (map f old.files.items)) (map f new.files.items) ≡ map f old.files.items
files_back f old more new e =
    ap (λ xs. take (length (map f old.files.items)) (map f xs)) e.files ∙ ap (take (length (map f old.files.items))) (map-append f old.files.items more.files.items)
    ∙ take-append_seam (map f old.files.items) (map f more.files.items)

pub cut_back : (old more new : Tables) → Appended old more new → AreFrom (length (map file_of old.files.items)) more → ArePooled (pool_of old)
    → cut_to (pool_of new) (length (map file_of old.files.items)) ≡ pool_of old
cut_back old more new e w h =
    let n = length (map file_of old.files.items) in
    let c = counts_of (pool_of old) in
    let files = files_back file_of old more new e in
    let count : length (map places_of old.files.items) ≡ n = length-map old.files.items places_of ∙ sym (length-map old.files.items file_of) in
    let many : length (map record_of old.files.items) ≡ n = length-map old.files.items record_of ∙ sym (length-map old.files.items file_of) in
    let records = subst (λ k. take k (map record_of new.files.items) ≡ map record_of old.files.items) many (files_back record_of old more new e) in
    let declared = subst (λ k. take k (map places_of new.files.items) ≡ map places_of old.files.items) count (files_back places_of old more new e) in
    let messages = back message_of (λ m. m.file) n old.messages.items more.messages.items new.messages.items e.messages
    (all_through (MessageWithin c) (λ m. m.file < n) (map message_of old.messages.items) (λ m k. k.file) h.messages) w.messages in
    let enums = back enum_of (λ m. m.file) n old.enums.items more.enums.items new.enums.items e.enums
    (all_through (EnumWithin c) (λ m. m.file < n) (map enum_of old.enums.items) (λ m k. k.file) h.enums) w.enums in
    let extensions = back extension_of (λ m. m.file) n old.extensions.items more.extensions.items new.extensions.items e.extensions
    (all_through (ExtensionWithin c) (λ m. m.file < n) (map extension_of old.extensions.items) (λ m k. k.file) h.extensions) w.extensions in
    let services = back service_of (λ m. m.file) n old.services.items more.services.items new.services.items e.services
    (all_through (ServiceWithin c) (λ m. m.file < n) (map service_of old.services.items) (λ m k. k.file) h.services) w.services in
    λ i. record { files = files i; records = records i; declared = declared i; messages = messages i; enums = enums i; extensions = extensions i; services = services i }
