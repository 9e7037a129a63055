-- A pool stays one as entries are put behind the others.
use Rattle.std.proofs.Common.{◌≡◌, ℕ, ◌<◌, ◌≤◌, ◌+◌, List, [], ◌∷◌, ◌++◌, Option, Some, None, map, length, arith, sym, ap, ◌∙◌, subst}
use Rattle.std.proofs.Math.ListN.{length-map}
use Rattle.std.proofs.lemmas.List.{length-append}
use Rattle.std.specs.List.{All, AllByRecursion}
use Rattle.reflect_tables.specs.Types.{KindType, MessageType, FieldType, EnumType, ExtensionType, MethodType, ServiceType, message, enumeration, ArePooled, AreFew, ListsMembers, IsAmong, IsWithin, ChildPlaces, FilePlaces, ChildrenWithin, HoldsWithin, FileWithin, MessageWithin, EnumWithin, ExtensionWithin, MethodWithin, ServiceWithin, counts_of}
use Rattle.reflect_tables.specs.Views.{file_of, places_of, message_of, enum_of, extension_of, service_of, pool_of}
use Rattle.reflect_growth.specs.Growth.{Appended, Together}
use Rattle.reflect_growth.specs.Tested.{AreWithin}
use Rattle.reflect_tables.specs.declared.tables.Counts.{Counts}
use Rattle.reflect_tables.specs.declared.tables.Tables.{Tables}
use Rattle.reflect_pool.proofs.Grown.{all_behind, all_through}

-- there is at least as much of what entries name
pub record IsMore (a b : Counts) : Type 0 where
  pub files : a.files ≤ b.files
  pub messages : a.messages ≤ b.messages
  pub enums : a.enums ≤ b.enums
  pub extensions : a.extensions ≤ b.extensions
  pub services : a.services ≤ b.services

within_more : (a b : Counts) → IsMore a b → (k : KindType) → IsWithin a k → IsWithin b k
within_more a b le (message i) h = let more = le.messages in omega (arith, h, more)
within_more a b le (enumeration i) h = let more = le.enums in omega (arith, h, more)
within_more a b le _ h = tt

among_more : (m n : ℕ) → m ≤ n → (place : Option ℕ) → IsAmong m place → IsAmong n place
among_more m n le None h = tt
among_more m n le (Some i) h = omega (arith, h, le)

below_more : (m n : ℕ) → m ≤ n → (places : List ℕ) → All (λ place. place < m) places → All (λ place. place < n) places
below_more m n le places h = λ k d lt. let was = h k d lt in omega (arith, was, le)

children_more : (a b : Counts) → IsMore a b → (p : ChildPlaces) → ChildrenWithin a p → ChildrenWithin b p
children_more a b le p h = record {
  messages = below_more a.messages b.messages le.messages p.messages h.messages;
  enums = below_more a.enums b.enums le.enums p.enums h.enums;
  extensions = below_more a.extensions b.extensions le.extensions p.extensions h.extensions;
}

file_more : (a b : Counts) → IsMore a b → (f : FilePlaces) → FileWithin a f → FileWithin b f
file_more a b le f h = record {
  children = children_more a b le f.children h.children;
  services = below_more a.services b.services le.services f.services h.services;
}

message_more : (a b : Counts) → IsMore a b → (m : MessageType) → MessageWithin a m → MessageWithin b m
message_more a b le m h = record {
  file = let was = h.file in let more = le.files in omega (arith, was, more);
  parent = among_more a.messages b.messages le.messages m.parent h.parent;
  fields = all_through (λ (f : FieldType). IsWithin a f.kind) (λ (f : FieldType). IsWithin b f.kind) m.fields (λ f k. within_more a b le f.kind k) h.fields;
  oneofs = h.oneofs;
  members = h.members;
  parts = h.parts;
  few = h.few;
  few_oneofs = h.few_oneofs;
}

enum_more : (a b : Counts) → IsMore a b → (e : EnumType) → EnumWithin a e → EnumWithin b e
enum_more a b le e h = record {
  file = let was = h.file in let more = le.files in omega (arith, was, more);
  parent = among_more a.messages b.messages le.messages e.parent h.parent;
  some = h.some;
  few = h.few;
}

extension_more : (a b : Counts) → IsMore a b → (x : ExtensionType) → ExtensionWithin a x → ExtensionWithin b x
extension_more a b le x h = record {
  file = let was = h.file in let more = le.files in omega (arith, was, more);
  parent = among_more a.messages b.messages le.messages x.parent h.parent;
  extendee = let was = h.extendee in let more = le.messages in omega (arith, was, more);
  kind = within_more a b le x.field.kind h.kind;
}

method_more : (a b : Counts) → IsMore a b → (m : MethodType) → MethodWithin a m → MethodWithin b m
method_more a b le m h = let input = h.0 in let output = h.1 in let more = le.messages in (omega (arith, input, more), omega (arith, output, more))

service_more : (a b : Counts) → IsMore a b → (s : ServiceType) → ServiceWithin a s → ServiceWithin b s
service_more a b le s h = record {
  file = let was = h.file in let more = le.files in omega (arith, was, more);
  methods = all_through (MethodWithin a) (MethodWithin b) s.methods (method_more a b le) h.methods;
  few = h.few;
}

pub map-append : {X Y : Type 0} (f : X → Y) (xs ys : List X) → map f (xs ++ ys) ≡ map f xs ++ map f ys
map-append f [] ys = λ _. map f ys
map-append f (x ∷ xs) ys = ap (λ zs. f x ∷ zs) (map-append f xs ys)

-- how many views there are of a list and another behind
long : {X Y : Type 0} (f : X → Y) (olds mores news : List X) (total : ℕ) → news ≡ olds ++ mores → total ≡ length olds + length mores → length (map f news) ≡ total
long f olds mores news total e is = length-map news f ∙ ap length e ∙ length-append olds mores ∙ sym is

fits : {X Y : Type 0} (f : X → Y) (olds mores : List X) (total : ℕ) → total ≡ length olds + length mores → length (map f olds) ≤ total
fits f olds mores total is = let same : length (map f olds) ≡ length olds = length-map olds f in omega (arith, same, is)

-- a fact of the old entries and of the further ones holds of all
joined : {X Y : Type 0} (f : X → Y) (P Q : Y → Type 0) (olds mores news : List X) → news ≡ olds ++ mores → ((y : Y) → P y → Q y)
    → AllByRecursion P (map f olds) → AllByRecursion Q (map f mores) → AllByRecursion Q (map f news)
joined f P Q olds mores news e step old more =
    let split : map f news ≡ map f olds ++ map f mores = ap (map f) e ∙ map-append f olds mores in
    subst (λ ys. AllByRecursion Q ys) (sym split) (all_behind Q (map f olds) (map f mores) (all_through P Q (map f olds) step old) more)

pub counted : (old more new : Tables) (c : Counts) → Appended old more new → Together old more c → counts_of (pool_of new) ≡ c
counted old more new c e t =
    let files : length (map file_of new.files.items) ≡ c.files = long file_of old.files.items more.files.items new.files.items c.files e.files t.files in
    let messages : length (map message_of new.messages.items) ≡ c.messages = long message_of old.messages.items more.messages.items new.messages.items c.messages e.messages t.messages in
    let enums : length (map enum_of new.enums.items) ≡ c.enums = long enum_of old.enums.items more.enums.items new.enums.items c.enums e.enums t.enums in
    let extensions : length (map extension_of new.extensions.items) ≡ c.extensions = long extension_of old.extensions.items more.extensions.items new.extensions.items c.extensions e.extensions t.extensions in
    let services : length (map service_of new.services.items) ≡ c.services = long service_of old.services.items more.services.items new.services.items c.services e.services t.services in
    λ i. record { files = files i; messages = messages i; enums = enums i; extensions = extensions i; services = services i }

pub pooled_more : (old more new : Tables) (c : Counts) → Appended old more new → Together old more c → AreFew c → ArePooled (pool_of old)
    → AreWithin c more → AllByRecursion ListsMembers (map message_of more.messages.items) → ArePooled (pool_of new)
pooled_more old more new c e t small h w listed =
    let a = counts_of (pool_of old) in
    let le : IsMore a c = record {
      files = fits file_of old.files.items more.files.items c.files t.files;
      messages = fits message_of old.messages.items more.messages.items c.messages t.messages;
      enums = fits enum_of old.enums.items more.enums.items c.enums t.enums;
      extensions = fits extension_of old.extensions.items more.extensions.items c.extensions t.extensions;
      services = fits service_of old.services.items more.services.items c.services t.services;
    } in
    let same : c ≡ counts_of (pool_of new) = sym (counted old more new c e t) in
    record {
      declared = subst (λ d. AllByRecursion (FileWithin d) (map places_of new.files.items)) same
          (joined places_of (FileWithin a) (FileWithin c) old.files.items more.files.items new.files.items e.files (file_more a c le) h.declared w.files);
      children = subst (λ d. AllByRecursion (HoldsWithin d) (map message_of new.messages.items)) same
          (joined message_of (HoldsWithin a) (HoldsWithin c) old.messages.items more.messages.items new.messages.items e.messages (λ m k. children_more a c le m.children k) h.children w.children);
      messages = subst (λ d. AllByRecursion (MessageWithin d) (map message_of new.messages.items)) same
          (joined message_of (MessageWithin a) (MessageWithin c) old.messages.items more.messages.items new.messages.items e.messages (message_more a c le) h.messages w.messages);
      listed = joined message_of ListsMembers ListsMembers old.messages.items more.messages.items new.messages.items e.messages (λ m l. l) h.listed listed;
      enums = subst (λ d. AllByRecursion (EnumWithin d) (map enum_of new.enums.items)) same
          (joined enum_of (EnumWithin a) (EnumWithin c) old.enums.items more.enums.items new.enums.items e.enums (enum_more a c le) h.enums w.enums);
      extensions = subst (λ d. AllByRecursion (ExtensionWithin d) (map extension_of new.extensions.items)) same
          (joined extension_of (ExtensionWithin a) (ExtensionWithin c) old.extensions.items more.extensions.items new.extensions.items e.extensions (extension_more a c le) h.extensions w.extensions);
      services = subst (λ d. AllByRecursion (ServiceWithin d) (map service_of new.services.items)) same
          (joined service_of (ServiceWithin a) (ServiceWithin c) old.services.items more.services.items new.services.items e.services (service_more a c le) h.services w.services);
      few = subst AreFew same small;
    }
