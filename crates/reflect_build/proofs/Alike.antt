-- Files that give the same names have records at the same paths, which are called alike.
use Rattle.std.proofs.Common.{◌≡◌, ℕ, zero, suc, ℤ, pos, negsuc, Bool, true, false, cond, List, [], ◌∷◌, map, Option, None, Some, option_map, String, Global, refl, sym, ap, ◌∙◌, slice_get}
use Rattle.std.specs.Option.{option_and_then}
use Rattle.std.specs.Ordering.{int_eq}
use Rattle.descriptor_records.specs.Content.{text_view}
use Rattle.descriptor_records.specs.declared.enums.EnumDescriptorProto.{EnumDescriptorProto}
use Rattle.descriptor_records.specs.declared.file.FileDescriptorProto.{FileDescriptorProto}
use Rattle.descriptor_records.specs.declared.message.DescriptorProto.{DescriptorProto}
use Rattle.descriptor_records.specs.declared.message.DescriptorProto.TheViews.{out-DescriptorProto}
use Rattle.descriptor_records.specs.declared.service.ServiceDescriptorProto.{ServiceDescriptorProto}
use Rattle.reflect_declarations.specs.Tree.{text_of}
use Rattle.reflect_known.specs.GivenNames.{Given, MessageNames, message_names, NestedNames, no_names, more_names, EnumNames, ServiceNames, FileNames, enum_names, service_names, names_of_message, names_of_file}
use Rattle.reflect_known.specs.GivenNames as given
use Rattle.reflect_known.proofs.MessageNames.{each_named, level_names, names-out}
use Rattle.reflect_known.proofs.MessageNames as level
use Rattle.reflect_pool.specs.Records.{item_at, entry_of, entry_at, nested_of, message_below, message_along, before_last, last_step, entry_along, field_along, oneof_along, held_along, enum_along, value_along, extension_along, service_along, method_along}
use Rattle.reflect_pool.specs.AtPaths.{message_name, field_name, oneof_name, enum_name, value_name, service_name, method_name}

-- ---- what is seen of a list's entries

abbrev Same : {X A : Type 0} → (X → A) → Option X → Option X → Type 0
Same N o p = option_map N o ≡ option_map N p

get_mapped : {X A : Type 0} (N : X → A) (xs : List X) (k : ℕ)
    → option_map N (slice_get xs k) ≡ slice_get (map N xs) k
get_mapped N [] k = refl
get_mapped N (x ∷ xs) zero = refl
get_mapped N (x ∷ xs) (suc k) = get_mapped N xs k

-- entries of lists of which the same is seen
module _ {X A : Type 0} (N : X → A) (xs ys : List X) (same : map N xs ≡ map N ys) where
  get_same : (k : ℕ) → Same N (slice_get xs k) (slice_get ys k)
  get_same k = get_mapped N xs k ∙ ap (λ l. slice_get l k) same ∙ sym (get_mapped N ys k)

  item_same : (z : ℤ) → Same N (item_at xs z) (item_at ys z)
  item_same (pos k) = get_same k
  item_same (negsuc k) = refl

  entry_same : (list number place : ℤ)
      → Same N (entry_of list xs number place) (entry_of list ys number place)
  entry_same list number place = by (int_eq number list) where
    by : (b : Bool) → Same N (cond b (item_at xs place) None) (cond b (item_at ys place) None)
    by true = item_same place
    by false = refl

  step_same : (list : ℤ) (path : List ℤ) → Same N (entry_at list xs path) (entry_at list ys path)
  step_same list [] = refl
  step_same list (number ∷ []) = refl
  step_same list (number ∷ place ∷ []) = entry_same list number place
  step_same list (number ∷ place ∷ more ∷ path) = refl

-- what is looked for in what is seen as the same
module _ {X Y A B : Type 0} (N : X → A) (M : Y → B) (look : X → Option Y)
    (alike : (a b : X) → N a ≡ N b → Same M (look a) (look b)) where
  then_same : (o p : Option X) → Same N o p
      → Same M (option_and_then look o) (option_and_then look p)
  then_same None None e = refl
  then_same None (Some b) e = absurd (cc e)
  then_same (Some a) None e = absurd (cc e)
  then_same (Some a) (Some b) e = let same : N a ≡ N b = cc e in alike a b same

-- ---- what is seen of a message

abbrev field_names : MessageNames → List Given
field_names (message_names name fields nested enums extensions oneofs) = fields

abbrev enums_named : MessageNames → List EnumNames
enums_named (message_names name fields nested enums extensions oneofs) = enums

abbrev extension_names : MessageNames → List Given
extension_names (message_names name fields nested enums extensions oneofs) = extensions

abbrev oneof_names : MessageNames → List Given
oneof_names (message_names name fields nested enums extensions oneofs) = oneofs

abbrev own_name : MessageNames → Given
own_name (message_names name fields nested enums extensions oneofs) = name

abbrev listed : NestedNames → List MessageNames
listed no_names = []
listed (more_names m ms) = m ∷ listed ms

abbrev nested_names : MessageNames → List MessageNames
nested_names (message_names name fields nested enums extensions oneofs) = listed nested

listed_back : (ms : List MessageNames) → listed (level.nested_of ms) ≡ ms
listed_back [] = refl
listed_back (m ∷ ms) = ap (λ l. m ∷ l) (listed_back ms)

module _ (a b : DescriptorProto) (same : names_of_message a ≡ names_of_message b) where
  levels : level_names (out-DescriptorProto a) ≡ level_names (out-DescriptorProto b)
  levels = sym (names-out a) ∙ same ∙ names-out b

  nested_same : map names_of_message (nested_of a) ≡ map names_of_message (nested_of b)
  nested_same =
      sym (listed_back (map names_of_message (nested_of a))) ∙ ap nested_names levels
      ∙ listed_back (map names_of_message (nested_of b))

-- ---- what stands at paths of two files that give the same names

module _ (f g : FileDescriptorProto) (same : names_of_file f ≡ names_of_file g) where
  messages_same : map names_of_message f.message_type.items
      ≡ map names_of_message g.message_type.items
  messages_same =
      sym (listed_back (map names_of_message f.message_type.items))
      ∙ ap listed (sym (each_named f.message_type.items)
      ∙ ap (λ (n : FileNames). n.messages) same ∙ each_named g.message_type.items)
      ∙ listed_back (map names_of_message g.message_type.items)

  below_same : (o p : Option DescriptorProto) (path : List ℤ) → Same names_of_message o p
      → Same names_of_message (message_below o path) (message_below p path)
  below_same o p [] e = e
  below_same o p (number ∷ []) e = refl
  below_same o p (number ∷ place ∷ path) e =
      below_same (option_and_then (λ d. entry_of (pos 3) (nested_of d) number place) o)
      (option_and_then (λ d. entry_of (pos 3) (nested_of d) number place) p) path
      (then_same names_of_message names_of_message
      (λ d. entry_of (pos 3) (nested_of d) number place)
      (λ a b alike. entry_same names_of_message (nested_of a) (nested_of b)
      (nested_same a b alike) (pos 3) number place) o p e)

  message_same : (path : List ℤ)
      → Same names_of_message (message_along f path) (message_along g path)
  message_same [] = refl
  message_same (number ∷ []) = refl
  message_same (number ∷ place ∷ path) =
      below_same (entry_of (pos 4) f.message_type.items number place)
      (entry_of (pos 4) g.message_type.items number place) path
      (entry_same names_of_message f.message_type.items g.message_type.items messages_same (pos 4)
      number place)

  -- entries of a list in each message
  module _ {X A : Type 0} (N : X → A) (list : ℤ) (entries : DescriptorProto → List X)
      (alike : (a b : DescriptorProto) → names_of_message a ≡ names_of_message b
      → map N (entries a) ≡ map N (entries b)) where
    along_same : (path : List ℤ)
        → Same N (entry_along list entries f path) (entry_along list entries g path)
    along_same path =
        then_same names_of_message N (λ m. entry_at list (entries m) (last_step path))
        (λ a b e. step_same N (entries a) (entries b) (alike a b e) list (last_step path))
        (message_along f (before_last path)) (message_along g (before_last path))
        (message_same (before_last path))

    held_same : (own : ℤ) (xs ys : List X) → map N xs ≡ map N ys → (path : List ℤ)
        → Same N (held_along own xs list entries f path) (held_along own ys list entries g path)
    held_same own xs ys e path = by (before_last path) where
      by : (q : List ℤ) → Same N
          (elim q [ [] ↦ entry_at own xs (last_step path) | _ ↦ entry_along list entries f path ])
          (elim q [ [] ↦ entry_at own ys (last_step path) | _ ↦ entry_along list entries g path ])
      by [] = step_same N xs ys e own (last_step path)
      by (number ∷ q) = along_same path

  field_same : (path : List ℤ) → Same given.field_name (field_along f path) (field_along g path)
  field_same = along_same given.field_name (pos 2) (λ m. (out-DescriptorProto m).field.items)
      (λ a b e. ap field_names (levels a b e))

  oneof_same : (path : List ℤ) → Same given.oneof_name (oneof_along f path) (oneof_along g path)
  oneof_same = along_same given.oneof_name (pos 8) (λ m. (out-DescriptorProto m).oneof_decl.items)
      (λ a b e. ap oneof_names (levels a b e))

  enum_same : (path : List ℤ) → Same enum_names (enum_along f path) (enum_along g path)
  enum_same = held_same enum_names (pos 4) (λ m. (out-DescriptorProto m).enum_type.items)
      (λ a b e. ap enums_named (levels a b e)) (pos 5) f.enum_type.items g.enum_type.items
      (ap (λ (n : FileNames). n.enums) same)

  extension_same : (path : List ℤ)
      → Same given.field_name (extension_along f path) (extension_along g path)
  extension_same = held_same given.field_name (pos 6)
      (λ m. (out-DescriptorProto m).extension.items) (λ a b e. ap extension_names (levels a b e))
      (pos 7) f.extension.items g.extension.items (ap (λ (n : FileNames). n.extensions) same)

  value_same : (path : List ℤ) → Same given.value_name (value_along f path) (value_along g path)
  value_same path =
      then_same enum_names given.value_name
      (λ (e : EnumDescriptorProto). entry_at (pos 2) e.value.items (last_step path))
      (λ a b e. step_same given.value_name a.value.items b.value.items
      (ap (λ (n : EnumNames). n.values) e) (pos 2) (last_step path))
      (enum_along f (before_last path)) (enum_along g (before_last path))
      (enum_same (before_last path))

  service_same : (path : List ℤ) → Same service_names (service_along f path) (service_along g path)
  service_same = step_same service_names f.service.items g.service.items
      (ap (λ (n : FileNames). n.services) same) (pos 6)

  method_same : (path : List ℤ)
      → Same given.method_name (method_along f path) (method_along g path)
  method_same path =
      then_same service_names given.method_name
      (λ (s : ServiceDescriptorProto). entry_at (pos 2) s.method.items (last_step path))
      (λ a b e. step_same given.method_name a.method.items b.method.items
      (ap (λ (n : ServiceNames). n.methods) e) (pos 2) (last_step path))
      (service_along f (before_last path)) (service_along g (before_last path))
      (service_same (before_last path))

-- ---- so a record of the one has one of the other at its path, which is called so

abbrev text : Given → List ℕ
text None = []
text (Some t) = t

text_given : (o : Option (String Global)) → text_of o ≡ text (text_view o)
text_given None = refl
text_given (Some s) = refl

texts_same : (o p : Option (String Global)) → text_view o ≡ text_view p → text_of o ≡ text_of p
texts_same o p e = text_given o ∙ ap text e ∙ sym (text_given p)

found_same : {X A : Type 0} (N : X → A) (o p : Option X) → Same N o p → (x : X) → p ≡ Some x
    → (y : X) × (o ≡ Some y) × (N y ≡ N x)
found_same N None p e x at = absurd (cc (e ∙ ap (option_map N) at))
found_same N (Some y) p e x at = let same : N y ≡ N x = cc (e ∙ ap (option_map N) at) in
    (y, refl, same)

-- what stands at a path of the first file stands at it in the second, and is called so
abbrev pub Moves : {X : Type 0} → (FileDescriptorProto → List ℤ → Option X) → (X → List ℕ)
    → FileDescriptorProto → FileDescriptorProto → Type 0
Moves {X} along name_of f g = (path : List ℤ) (x : X) → along f path ≡ Some x
    → (y : X) × (along g path ≡ Some y) × (name_of y ≡ name_of x)

module _ {X A : Type 0} (along : FileDescriptorProto → List ℤ → Option X) (name_of : X → List ℕ)
    (N : X → A) (called : (a b : X) → N a ≡ N b → name_of a ≡ name_of b)
    (f g : FileDescriptorProto) where
  moves_by : ((path : List ℤ) → Same N (along g path) (along f path)) → Moves along name_of f g
  moves_by same path x at =
      let found = found_same N (along g path) (along f path) (same path) x at in
      (found.0, found.1, called found.0 x found.2)

-- each record of a file stands in one that gives the same names
pub record AllMove (f g : FileDescriptorProto) : Type 0 where
  pub messages : Moves message_along message_name f g
  pub fields : Moves field_along field_name f g
  pub oneofs : Moves oneof_along oneof_name f g
  pub enums : Moves enum_along enum_name f g
  pub values : Moves value_along value_name f g
  pub extensions : Moves extension_along field_name f g
  pub services : Moves service_along service_name f g
  pub methods : Moves method_along method_name f g

pub all_move : (f g : FileDescriptorProto) → names_of_file g ≡ names_of_file f → AllMove f g
all_move f g same = record {
  messages = moves_by message_along message_name names_of_message
      (λ a b e. texts_same (out-DescriptorProto a).name (out-DescriptorProto b).name
      (ap own_name (levels a b e))) f g (message_same g f same);
  fields = moves_by field_along field_name given.field_name (λ a b e. texts_same a.name b.name e)
      f g (field_same g f same);
  oneofs = moves_by oneof_along oneof_name given.oneof_name (λ a b e. texts_same a.name b.name e)
      f g (oneof_same g f same);
  enums = moves_by enum_along enum_name enum_names
      (λ a b e. texts_same a.name b.name (ap (λ (n : EnumNames). n.name) e)) f g
      (enum_same g f same);
  values = moves_by value_along value_name given.value_name
      (λ a b e. texts_same a.name b.name e) f g (value_same g f same);
  extensions = moves_by extension_along field_name given.field_name
      (λ a b e. texts_same a.name b.name e) f g (extension_same g f same);
  services = moves_by service_along service_name service_names
      (λ a b e. texts_same a.name b.name (ap (λ (n : ServiceNames). n.name) e)) f g
      (service_same g f same);
  methods = moves_by method_along method_name given.method_name
      (λ a b e. texts_same a.name b.name e) f g (method_same g f same);
}
