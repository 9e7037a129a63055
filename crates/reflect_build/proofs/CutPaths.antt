-- The entries of a pool that is cut back to its first files keep their records.
use Rattle.std.proofs.Common.{◌≡◌, ◌<◌, ℕ, zero, suc, ℤ, Bool, true, List, [], ◌∷◌, length, nat_lt, Option, Some, sym, subst, arith, slice_get, slice_index_or, take}
use Rattle.std.specs.List.{filter}
use Rattle.descriptor_records.specs.declared.file.FileDescriptorProto.{FileDescriptorProto}
use Rattle.reflect_tables.specs.Types.{PoolType, MessageType, EnumType, ServiceType, no_type, no_field, no_oneof, no_enum, no_extension, no_service}
use Rattle.reflect_growth.specs.Cut.{cut_to}
use Rattle.reflect_index.proofs.Among.{get_at, index_is, of_filter, of_place, place_of}
use Rattle.reflect_index.proofs.Behind.{get_in}
use Rattle.reflect_pool.specs.AtPaths.{Stands, HaveRecords, message_name, field_name, oneof_name, enum_name, value_name, service_name, method_name}
use Rattle.reflect_pool.specs.Parts.{no_value, no_method}
use Rattle.reflect_pool.specs.Records.{message_along, field_along, oneof_along, enum_along, value_along, extension_along, service_along, method_along}

get_first : {X : Type 0} (mark : ℕ) (xs : List X) (n : ℕ) (x : X) → n < mark
    → slice_get xs n ≡ Some x → slice_get (take mark xs) n ≡ Some x
get_first zero xs n x lt e = absurd (omega (arith, lt))
get_first (suc m) [] n x lt e = absurd (cc e)
get_first (suc m) (y ∷ xs) zero x lt e = e
get_first (suc m) (y ∷ xs) (suc n) x lt e = get_first m xs n x (omega (arith, lt)) e

-- an element that passes a test stands in the whole list
record IsKept {X : Type 0} (test : X → Bool) (xs : List X) (d x : X) : Type 0 where
  place : ℕ
  within : place < length xs
  at : slice_index_or xs place d ≡ x
  passes : test x ≡ true

kept : {X : Type 0} (test : X → Bool) (xs : List X) (i : ℕ) (d : X) → i < length (filter test xs)
    → IsKept test xs d (slice_index_or (filter test xs) i d)
kept test xs i d lt =
    let x = slice_index_or (filter test xs) i d in
    let found = of_filter test x xs (of_place x (filter test xs) i (get_at (filter test xs) i d lt)) in
    let there = place_of x xs found.0 in
    record {
      place = there.0;
      within = get_in xs there.0 x there.1;
      at = index_is xs there.0 x d there.1;
      passes = found.1;
    }

module _ (p : PoolType) (mark : ℕ) (has : HaveRecords p) where
  -- what holds of each entry of the first files holds of those that are left
  each : {X : Type 0} (file : X → ℕ) (xs : List X) (d : X) (P : X → Type 0)
      → ((j : ℕ) → j < length xs → file (slice_index_or xs j d) < mark → P (slice_index_or xs j d))
      → (i : ℕ) → i < length (filter (λ x. nat_lt (file x) mark) xs)
      → P (slice_index_or (filter (λ x. nat_lt (file x) mark) xs) i d)
  each {X} file xs d P step i lt =
      let k = kept (λ (x : X). nat_lt (file x) mark) xs i d lt in
      let passes = k.passes in
      let low : file (slice_index_or (filter (λ (x : X). nat_lt (file x) mark) xs) i d) < mark =
      grind (arith, passes) in
      subst P k.at (step k.place k.within (subst (λ (x : X). file x < mark) (sym k.at) low))

  -- the record of an entry of one of the first files is still there
  first : {X : Type 0} (along : FileDescriptorProto → List ℤ → Option X) (name_of : X → List ℕ)
      (file : ℕ) (path : List ℤ) (name : List ℕ) → file < mark
      → Stands along name_of p file path name → Stands along name_of (cut_to p mark) file path name
  first along name_of file path name lt s = record {
    of_file = s.of_file;
    own = s.own;
    there = get_first mark p.records file s.of_file lt s.there;
    at = s.at;
    named = s.named;
  }

  abbrev cut : PoolType
  cut = cut_to p mark

  of_messages : (P : MessageType → Type 0)
      → ((j : ℕ) → j < length p.messages → (slice_index_or p.messages j no_type).file < mark
      → P (slice_index_or p.messages j no_type))
      → (i : ℕ) → i < length cut.messages → P (slice_index_or cut.messages i no_type)
  of_messages = each (λ m. m.file) p.messages no_type

  of_enums : (P : EnumType → Type 0)
      → ((j : ℕ) → j < length p.enums → (slice_index_or p.enums j no_enum).file < mark
      → P (slice_index_or p.enums j no_enum))
      → (i : ℕ) → i < length cut.enums → P (slice_index_or cut.enums i no_enum)
  of_enums = each (λ e. e.file) p.enums no_enum

  of_services : (P : ServiceType → Type 0)
      → ((j : ℕ) → j < length p.services → (slice_index_or p.services j no_service).file < mark
      → P (slice_index_or p.services j no_service))
      → (i : ℕ) → i < length cut.services → P (slice_index_or cut.services i no_service)
  of_services = each (λ s. s.file) p.services no_service

  pub cut_has : HaveRecords (cut_to p mark)
  cut_has = record {
    messages = of_messages (λ t. Stands message_along message_name cut t.file t.path t.name)
        (λ j lt low. first _ _ _ _ _ low (has.messages j lt));
    fields = λ i j lt less. of_messages (λ t. (k : ℕ) → k < length t.fields
        → Stands field_along field_name cut t.file (slice_index_or t.fields k no_field).path
        (slice_index_or t.fields k no_field).name)
        (λ m within low k short. first _ _ _ _ _ low (has.fields m k within short)) i lt j less;
    oneofs = λ i j lt less. of_messages (λ t. (k : ℕ) → k < length t.oneofs
        → Stands oneof_along oneof_name cut t.file (slice_index_or t.oneofs k no_oneof).path
        (slice_index_or t.oneofs k no_oneof).name)
        (λ m within low k short. first _ _ _ _ _ low (has.oneofs m k within short)) i lt j less;
    enums = of_enums (λ e. Stands enum_along enum_name cut e.file e.path e.name)
        (λ j lt low. first _ _ _ _ _ low (has.enums j lt));
    values = λ i j lt less. of_enums (λ e. (k : ℕ) → k < length e.values
        → Stands value_along value_name cut e.file (slice_index_or e.values k no_value).path
        (slice_index_or e.values k no_value).name)
        (λ m within low k short. first _ _ _ _ _ low (has.values m k within short)) i lt j less;
    extensions = each (λ x. x.file) p.extensions no_extension
        (λ x. Stands extension_along field_name cut x.file x.field.path x.field.name)
        (λ j lt low. first _ _ _ _ _ low (has.extensions j lt));
    services = of_services (λ s. Stands service_along service_name cut s.file s.path s.name)
        (λ j lt low. first _ _ _ _ _ low (has.services j lt));
    methods = λ i j lt less. of_services (λ s. (k : ℕ) → k < length s.methods
        → Stands method_along method_name cut s.file (slice_index_or s.methods k no_method).path
        (slice_index_or s.methods k no_method).name)
        (λ m within low k short. first _ _ _ _ _ low (has.methods m k within short)) i lt j less;
  }
