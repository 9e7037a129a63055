-- What the entries at places of a pool name is there.
use Rattle.std.proofs.Common.{◌≡◌, ℕ, ◌<◌, length, get_or, arith, sym, subst}
use Rattle.std.proofs.Math.ListN.{length-map}
use Rattle.std.specs.List.{All}
use Rattle.reflect_tables.specs.Types.{PoolType, FieldType, MessageType, OneofType, ServiceType, ArePooled, IsAmong, IsWithin, ChildrenWithin, HoldsWithin, FileWithin, MessageWithin, EnumWithin, ExtensionWithin, MethodWithin, ServiceWithin, counts_of, no_type, no_service}
use Rattle.reflect_tables.specs.Views.{pool_of, file_of, places_of, children_of, message_of, enum_of, extension_of, service_of, method_of, field_of, oneof_of, kind_of}
use Rattle.reflect_tables.specs.declared.tables.Tables.{Tables}
use Rattle.reflect_tables.specs.declared.stored.StoredFile.{StoredFile}
use Rattle.reflect_tables.specs.declared.stored.StoredMessage.{StoredMessage}
use Rattle.reflect_tables.specs.declared.stored.StoredField.{StoredField}
use Rattle.reflect_tables.specs.declared.stored.StoredOneof.{StoredOneof}
use Rattle.reflect_tables.specs.declared.stored.StoredEnum.{StoredEnum}
use Rattle.reflect_tables.specs.declared.stored.StoredExtension.{StoredExtension}
use Rattle.reflect_tables.specs.declared.stored.StoredService.{StoredService}
use Rattle.reflect_tables.specs.declared.stored.StoredMethod.{StoredMethod}
use Rattle.reflect_pool.proofs.Places.{at_view, view_there}

pub message_within : (t : Tables) (pool : PoolType) (i : ℕ) (m : StoredMessage) → pool_of t ≡ pool → ArePooled (pool_of t)
    → i < length pool.messages → m ≡ get_or t.messages.items i m → MessageWithin (counts_of pool) (message_of m)
message_within t pool i m e h lt is =
    subst (λ p. i < length p.messages → MessageWithin (counts_of p) (message_of m)) e
    (λ below. at_view message_of (MessageWithin (counts_of (pool_of t))) t.messages.items i m h.messages below is) lt

pub enum_within : (t : Tables) (pool : PoolType) (i : ℕ) (m : StoredEnum) → pool_of t ≡ pool → ArePooled (pool_of t)
    → i < length pool.enums → m ≡ get_or t.enums.items i m → EnumWithin (counts_of pool) (enum_of m)
enum_within t pool i m e h lt is =
    subst (λ p. i < length p.enums → EnumWithin (counts_of p) (enum_of m)) e
    (λ below. at_view enum_of (EnumWithin (counts_of (pool_of t))) t.enums.items i m h.enums below is) lt

pub extension_within : (t : Tables) (pool : PoolType) (i : ℕ) (m : StoredExtension) → pool_of t ≡ pool → ArePooled (pool_of t)
    → i < length pool.extensions → m ≡ get_or t.extensions.items i m → ExtensionWithin (counts_of pool) (extension_of m)
extension_within t pool i m e h lt is =
    subst (λ p. i < length p.extensions → ExtensionWithin (counts_of p) (extension_of m)) e
    (λ below. at_view extension_of (ExtensionWithin (counts_of (pool_of t))) t.extensions.items i m h.extensions below is) lt

pub service_within : (t : Tables) (pool : PoolType) (i : ℕ) (m : StoredService) → pool_of t ≡ pool → ArePooled (pool_of t)
    → i < length pool.services → m ≡ get_or t.services.items i m → ServiceWithin (counts_of pool) (service_of m)
service_within t pool i m e h lt is =
    subst (λ p. i < length p.services → ServiceWithin (counts_of p) (service_of m)) e
    (λ below. at_view service_of (ServiceWithin (counts_of (pool_of t))) t.services.items i m h.services below is) lt

-- the type at a place is what the message there stands for
pub type_there : (t : Tables) (pool : PoolType) (i : ℕ) (m : StoredMessage) → pool_of t ≡ pool → i < length pool.messages → m ≡ get_or t.messages.items i m → get_or pool.messages i no_type ≡ message_of m
type_there t pool i m e lt is =
    subst (λ (p : PoolType). i < length p.messages → get_or p.messages i no_type ≡ message_of m) e (λ below. view_there message_of t.messages.items i m no_type below is) lt

-- the type that a field names is there
pub kind_within : (t : Tables) (pool : PoolType) (i k : ℕ) (m : StoredMessage) (f : StoredField) → pool_of t ≡ pool → ArePooled (pool_of t)
    → i < length pool.messages → m ≡ get_or t.messages.items i m
    → k < length (get_or pool.messages i no_type).fields → f ≡ get_or m.fields.list.items k f
    → IsWithin (counts_of pool) (kind_of f.kind)
kind_within t pool i k m f e h lt is inner was =
    let here = message_within t pool i m e h lt is in
    let there = type_there t pool i m e lt is in
    at_view field_of (λ g. IsWithin (counts_of pool) g.kind) m.fields.list.items k f here.fields (subst (λ (n : MessageType). k < length n.fields) there inner) was

-- so is the oneof that it is a member of
pub oneof_within : (t : Tables) (pool : PoolType) (i k : ℕ) (m : StoredMessage) (f : StoredField) → pool_of t ≡ pool → ArePooled (pool_of t)
    → i < length pool.messages → m ≡ get_or t.messages.items i m
    → k < length (get_or pool.messages i no_type).fields → f ≡ get_or m.fields.list.items k f
    → IsAmong (length (get_or pool.messages i no_type).oneofs) f.oneof
oneof_within t pool i k m f e h lt is inner was =
    let here = message_within t pool i m e h lt is in
    let there = type_there t pool i m e lt is in
    let among : FieldType → Type 0 = λ g. IsAmong (length (message_of m).oneofs) g.oneof in
    subst (λ (n : MessageType). IsAmong (length n.oneofs) f.oneof) (sym there)
    (at_view field_of among m.fields.list.items k f here.oneofs (subst (λ (n : MessageType). k < length n.fields) there inner) was)

-- the message types that a method names are there
pub method_within : (t : Tables) (pool : PoolType) (i k : ℕ) (m : StoredService) (f : StoredMethod) → pool_of t ≡ pool → ArePooled (pool_of t)
    → i < length pool.services → m ≡ get_or t.services.items i m
    → k < length (get_or pool.services i no_service).methods → f ≡ get_or m.methods.items k f
    → MethodWithin (counts_of pool) (method_of f)
method_within t pool i k m f e h lt is inner was =
    let here = service_within t pool i m e h lt is in
    let there : get_or pool.services i no_service ≡ service_of m =
    subst (λ (p : PoolType). i < length p.services → get_or p.services i no_service ≡ service_of m) e (λ below. view_there service_of t.services.items i m no_service below is) lt in
    at_view method_of (MethodWithin (counts_of pool)) m.methods.items k f here.methods (subst (λ (n : ServiceType). k < length n.methods) there inner) was

-- what a message declares is there
pub children_within : (t : Tables) (pool : PoolType) (i : ℕ) (m : StoredMessage) → pool_of t ≡ pool → ArePooled (pool_of t)
    → i < length pool.messages → m ≡ get_or t.messages.items i m → ChildrenWithin (counts_of pool) (children_of m.children)
children_within t pool i m e h lt is =
    subst (λ p. i < length p.messages → ChildrenWithin (counts_of p) (children_of m.children)) e
    (λ below. at_view message_of (HoldsWithin (counts_of (pool_of t))) t.messages.items i m h.children below is) lt

-- so is what a file declares
pub declared_within : (t : Tables) (pool : PoolType) (i : ℕ) (f : StoredFile) → pool_of t ≡ pool → ArePooled (pool_of t)
    → i < length pool.files → f ≡ get_or t.files.items i f → FileWithin (counts_of pool) (places_of f)
declared_within t pool i f e h lt is =
    subst (λ p. i < length p.files → FileWithin (counts_of p) (places_of f)) e
    (λ below. let one = length-map t.files.items file_of in let other = length-map t.files.items places_of in
    at_view places_of (FileWithin (counts_of (pool_of t))) t.files.items i f h.declared (omega (arith, below, one, other)) is) lt

-- the members of a oneof are there
pub members_within : (t : Tables) (pool : PoolType) (i k : ℕ) (m : StoredMessage) (o : StoredOneof) → pool_of t ≡ pool → ArePooled (pool_of t)
    → i < length pool.messages → m ≡ get_or t.messages.items i m
    → k < length (get_or pool.messages i no_type).oneofs → o ≡ get_or m.oneofs.items k o
    → All (λ place. place < length (get_or pool.messages i no_type).fields) o.fields.items
members_within t pool i k m o e h lt is inner was =
    let here = message_within t pool i m e h lt is in
    let there = type_there t pool i m e lt is in
    let inside : OneofType → Type 0 = λ p. All (λ place. place < length (message_of m).fields) p.fields in
    subst (λ (n : MessageType). All (λ place. place < length n.fields) o.fields.items) (sym there)
    (at_view oneof_of inside m.oneofs.items k o here.members (subst (λ (n : MessageType). k < length n.oneofs) there inner) was)
