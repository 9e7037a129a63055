-- What files declare stands at its path in the record of its file, and in what declares it; and the
-- fields of each message are declared.
use Rattle.std.proofs.Common.{◌≡◌, ◌⊎◌, inl, inr, ◌+◌, ◌-◌, ℕ, suc, ℤ, pos, Bool, true, cond, List, [], ◌∷◌, ◌++◌, map, length, length-append, take_at, drop_at, Option, None, Some, refl, sym, ap, ◌∙◌, subst, arith, slice_get}
use Rattle.std.specs.Option.{option_and_then}
use Rattle.std.specs.Ordering.{int_eq}
use Rattle.descriptor_records.specs.declared.enums.EnumDescriptorProto.{EnumDescriptorProto}
use Rattle.descriptor_records.specs.declared.field.FieldDescriptorProto.{FieldDescriptorProto}
use Rattle.descriptor_records.specs.declared.file.FileDescriptorProto.{FileDescriptorProto}
use Rattle.descriptor_records.specs.declared.message.DescriptorProto.{DescriptorProto}
use Rattle.descriptor_records.specs.declared.message.DescriptorProto.TheFolds.{fold_out-DescriptorProto}
use Rattle.descriptor_records.specs.declared.message.DescriptorProto.TheViews.{out-DescriptorProto}
use Rattle.descriptor_records.specs.declared.service.ServiceDescriptorProto.{ServiceDescriptorProto}
use Rattle.reflect_scope.specs.Means.{join}
use Rattle.reflect_declarations.specs.Batches.{batch_declarations}
use Rattle.reflect_declarations.specs.Declarations.{Declaration, Body, of_file, of_message, of_field, of_oneof, of_enum, of_enum_value, of_service, of_method, of_extension, each, entry, file_declaration, field_declaration, one_field, one_oneof, one_value, one_enum, one_method, one_service, one_extension, message_declaration, enum_declaration, service_declaration, past_message, past_tree, past_trees, past_file, trees_of, tree_declarations, trees_declarations, file_declarations}
use Rattle.reflect_declarations.specs.Tree.{text_of, MessageParts, Message, message, Messages, no_messages, more_messages, messages_of, message_step, parts_of, tree_of}
use Rattle.reflect_declarations.specs.declared.offsets.Offsets.{Offsets}
use Rattle.reflect_index.specs.Along.{is_message, is_enum, is_service}
use Rattle.reflect_pool.specs.Records.{entry_of, entry_at, nested_of, message_below, message_along, before_last, last_step, entry_along, field_along, oneof_along, held_along, enum_along, value_along, extension_along, service_along, method_along}
use Rattle.reflect_index.proofs.Among.{Among, in_first, in_second}

-- ---- lists

pub split : {X : Type 0} (x : X) (xs ys : List X) → Among x (xs ++ ys) → Among x xs ⊎ Among x ys
split x [] ys h = inr h
split x (y ∷ xs) ys (inl e) = inl (inl e)
split x (y ∷ xs) ys (inr h) = elim (split x xs ys h) [ inl a ↦ inl (inr a) | inr b ↦ inr b ]

-- what is so of all declarations of a list is so of those of two, one behind the other
both : (P : Declaration → Type 0) (xs ys : List Declaration)
    → ((d : Declaration) → Among d xs → P d) → ((d : Declaration) → Among d ys → P d)
    → (d : Declaration) → Among d (xs ++ ys) → P d
both P xs ys h g d k = elim (split d xs ys k) [ inl a ↦ h d a | inr b ↦ g d b ]

next : (k j : ℕ) → k + suc j ≡ k + 1 + j
next k j = omega arith

here : (k : ℕ) → k + 0 ≡ k
here k = omega arith

start : (j : ℕ) → j ≡ 0 + j
start j = omega arith

-- ---- paths

abbrev step : ℤ → ℕ → List ℤ
step tag k = tag ∷ pos k ∷ []

counted : (path : List ℤ) (tag : ℤ) (k : ℕ) → length path ≡ length (entry path tag k) - 2
counted path tag k = let sum = length-append path (step tag k) in omega (arith, sum)

before_entry : (path : List ℤ) (tag : ℤ) (k : ℕ) → before_last (entry path tag k) ≡ path
before_entry path tag k =
    take_at path (step tag k) (length (entry path tag k) - 2) (counted path tag k)

last_entry : (path : List ℤ) (tag : ℤ) (k : ℕ) → last_step (entry path tag k) ≡ step tag k
last_entry path tag k =
    drop_at path (step tag k) (length (entry path tag k) - 2) (counted path tag k)

-- a step leads on from where a path leads
below_more : (o : Option DescriptorProto) (path : List ℤ) (m : DescriptorProto) (k : ℕ)
    (x : DescriptorProto) → message_below o path ≡ Some m → slice_get (nested_of m) k ≡ Some x
    → message_below o (entry path (pos 3) k) ≡ Some x
below_more o [] m k x e at =
    ap (option_and_then (λ d. entry_of (pos 3) (nested_of d) (pos 3) (pos k))) e ∙ at
below_more o (n ∷ []) m k x e at = absurd (cc e)
below_more o (n ∷ p ∷ path) m k x e at =
    below_more (option_and_then (λ d. entry_of (pos 3) (nested_of d) n p) o) path m k x e at

along_more : (f : FileDescriptorProto) (path : List ℤ) (m : DescriptorProto) (k : ℕ)
    (x : DescriptorProto) → message_along f path ≡ Some m → slice_get (nested_of m) k ≡ Some x
    → message_along f (entry path (pos 3) k) ≡ Some x
along_more f [] m k x e at = absurd (cc e)
along_more f (n ∷ []) m k x e at = absurd (cc e)
along_more f (n ∷ p ∷ path) m k x e at =
    below_more (entry_of (pos 4) f.message_type.items n p) path m k x e at

abbrev IsSame : ℤ → Type 0
IsSame tag = int_eq tag tag ≡ true

found_at : {X : Type 0} (tag : ℤ) (xs : List X) (k : ℕ) (x : X) → IsSame tag
    → slice_get xs k ≡ Some x → entry_at tag xs (step tag k) ≡ Some x
found_at tag xs k x same at = ap (λ b. cond b (slice_get xs k) None) same ∙ at

module _ {X : Type 0} (f : FileDescriptorProto) (tag : ℤ) (entries : DescriptorProto → List X)
    (path : List ℤ) (m : DescriptorProto) (k : ℕ) (x : X) (same : IsSame tag)
    (here : message_along f path ≡ Some m) (at : slice_get (entries m) k ≡ Some x) where
  entry_leads : entry_along tag entries f (entry path tag k) ≡ Some x
  entry_leads =
      (λ i. option_and_then (λ d. entry_at tag (entries d) (last_entry path tag k i))
      (message_along f (before_entry path tag k i)))
      ∙ ap (option_and_then (λ d. entry_at tag (entries d) (step tag k))) here
      ∙ found_at tag (entries m) k x same at

  -- what stands in a message stands in none of the file's own lists
  held_leads : (own : ℤ) (items : List X)
      → held_along own items tag entries f (entry path tag k) ≡ Some x
  held_leads own items = by path here (before_entry path tag k) where
    by : (q : List ℤ) → message_along f q ≡ Some m → before_last (entry path tag k) ≡ q
        → held_along own items tag entries f (entry path tag k) ≡ Some x
    by [] none e = absurd (cc none)
    by (n ∷ q) some e =
        ap (λ (r : List ℤ). elim r [
          | [] ↦ entry_at own items (last_step (entry path tag k))
          | _ ↦ entry_along tag entries f (entry path tag k)
        ]) e ∙ entry_leads

-- ---- what stands at a path

-- the record of what is declared stands at the path
abbrev pub Leads : FileDescriptorProto → List ℤ → Body → Type 0
Leads f path body = elim body [
  | of_file g ↦ Unit {0}
  | of_message own ↦ (m : DescriptorProto) × (message_along f path ≡ Some m) × (parts_of m ≡ own)
  | of_field r ↦ field_along f path ≡ Some r
  | of_oneof r ↦ oneof_along f path ≡ Some r
  | of_enum r ↦ enum_along f path ≡ Some r
  | of_enum_value r ↦ value_along f path ≡ Some r
  | of_service r ↦ service_along f path ≡ Some r
  | of_method r ↦ method_along f path ≡ Some r
  | of_extension r ↦ extension_along f path ≡ Some r
]

-- the index that a part tells is that of a declaration of the sort, in the same file
pub record IsPartOf (sort : Body → Bool) (in_file : ℕ) (all : List Declaration)
    (up : Option ℕ) : Type 0 where
  pub whole : Declaration
  pub among : Among whole all
  pub is : sort whole.body ≡ true
  pub file : whole.file ≡ in_file
  pub parent : up ≡ Some whole.index

abbrev pub HasWhole : ℕ → List Declaration → Option ℕ → Body → Type 0
HasWhole file all parent body = elim body [
  | of_field r ↦ IsPartOf is_message file all parent
  | of_oneof r ↦ IsPartOf is_message file all parent
  | of_enum_value r ↦ IsPartOf is_enum file all parent
  | of_method r ↦ IsPartOf is_service file all parent
  | _ ↦ Unit {0}
]

-- a field is declared in the message of the index
pub record IsFieldIn (all : List Declaration) (index : ℕ) (r : FieldDescriptorProto) : Type 0 where
  pub declaration : Declaration
  pub among : Among declaration all
  pub body : declaration.body ≡ of_field r
  pub parent : declaration.parent ≡ Some index

-- so are all fields of a message
abbrev pub HasFields : List Declaration → ℕ → Body → Type 0
HasFields all index body = elim body [
  | of_message own ↦ (r : FieldDescriptorProto) → Among r own.field → IsFieldIn all index r
  | _ ↦ Unit {0}
]

pub record IsPlaced (f : FileDescriptorProto) (file : ℕ) (all : List Declaration)
    (d : Declaration) : Type 0 where
  pub file_is : d.file ≡ file
  pub leads : Leads f d.path d.body
  pub whole : HasWhole file all d.parent d.body
  pub fields : HasFields all d.index d.body

-- ---- the declarations of a file

module _ (f : FileDescriptorProto) (i : ℕ) (all : List Declaration) where
  abbrev Placed : Declaration → Type 0
  Placed d = IsPlaced f i all d

  abbrev AllPlaced : List Declaration → Type 0
  AllPlaced ds = (d : Declaration) → Among d ds → Placed d

  abbrev AreAll : List Declaration → Type 0
  AreAll ds = (d : Declaration) → Among d ds → Among d all

  one : (d : Declaration) → Placed d → AllPlaced (d ∷ [])
  one d p e (inl same) = subst Placed same p
  one d p e (inr none) = absurd none

  first : (d : Declaration) (ds : List Declaration) → Placed d → AllPlaced ds
      → AllPlaced (d ∷ ds)
  first d ds p rest e (inl same) = subst Placed same p
  first d ds p rest e (inr later) = rest e later

  in_left : (xs ys : List Declaration) → AreAll (xs ++ ys) → AreAll xs
  in_left xs ys all d h = all d (in_first d xs ys h)

  in_right : (xs ys : List Declaration) → AreAll (xs ++ ys) → AreAll ys
  in_right xs ys all d h = all d (in_second d xs ys h)

  -- of the declarations of an entry of a list, which stands at this place
  abbrev OfEntry : {A : Type 0} → (ℕ → A → List Declaration) → A → ℕ → Type 0
  OfEntry one x k = AreAll (one k x) → AllPlaced (one k x)

  each_from : {A : Type 0} (one : ℕ → A → List Declaration) (k : ℕ) (xs : List A)
      → ((j : ℕ) (x : A) → slice_get xs j ≡ Some x → OfEntry one x (k + j))
      → AreAll (each one k xs) → AllPlaced (each one k xs)
  each_from one k [] step inside = λ d h. absurd h
  each_from one k (x ∷ xs) step inside =
      both Placed (one k x) (each one (k + 1) xs)
      (subst (OfEntry one x) (here k) (step 0 x refl)
      (in_left (one k x) (each one (k + 1) xs) inside))
      (each_from one (k + 1) xs (λ j y at. subst (OfEntry one y) (next k j) (step (suc j) y at))
      (in_right (one k x) (each one (k + 1) xs) inside))

  each_placed : {A : Type 0} (one : ℕ → A → List Declaration) (xs : List A)
      → ((j : ℕ) (x : A) → slice_get xs j ≡ Some x → OfEntry one x j)
      → AreAll (each one 0 xs) → AllPlaced (each one 0 xs)
  each_placed one xs step =
      each_from one 0 xs (λ j x at. subst (OfEntry one x) (start j) (step j x at))

  -- what has parts
  record IsWhole (sort : Body → Bool) (n : ℕ) : Type 0 where
    whole : Declaration
    among : Among whole all
    is : sort whole.body ≡ true
    file : whole.file ≡ i
    index : whole.index ≡ n

  part_of : (sort : Body → Bool) (index : ℕ) → IsWhole sort index
      → IsPartOf sort i all (Some index)
  part_of sort index w = record {
    whole = w.whole;
    among = w.among;
    is = w.is;
    file = w.file;
    parent = ap Some (sym w.index);
  }

  values_placed : (path : List ℤ) (scope : List ℕ) (e : EnumDescriptorProto) (index : ℕ)
      → IsWhole is_enum index → enum_along f path ≡ Some e
      → AreAll (each (one_value path scope i index) 0 e.value.items)
      → AllPlaced (each (one_value path scope i index) 0 e.value.items)
  values_placed path scope e index w leads =
      each_placed (one_value path scope i index) e.value.items (λ j v at inside.
      one _ (record {
        file_is = refl;
        leads = (λ k. option_and_then
            (λ (x : EnumDescriptorProto). entry_at (pos 2) x.value.items
            (last_entry path (pos 2) j k))
            (enum_along f (before_entry path (pos 2) j k)))
            ∙ ap (option_and_then
            (λ (x : EnumDescriptorProto). entry_at (pos 2) x.value.items (step (pos 2) j))) leads
            ∙ found_at (pos 2) e.value.items j v refl at;
        whole = part_of is_enum index w;
        fields = tt;
      }))

  methods_placed : (path : List ℤ) (scope : List ℕ) (s : ServiceDescriptorProto) (index : ℕ)
      → IsWhole is_service index → service_along f path ≡ Some s
      → AreAll (each (one_method path scope i index) 0 s.method.items)
      → AllPlaced (each (one_method path scope i index) 0 s.method.items)
  methods_placed path scope s index w leads =
      each_placed (one_method path scope i index) s.method.items (λ j m at inside.
      one _ (record {
        file_is = refl;
        leads = (λ k. option_and_then
            (λ (x : ServiceDescriptorProto). entry_at (pos 2) x.method.items
            (last_entry path (pos 2) j k))
            (service_along f (before_entry path (pos 2) j k)))
            ∙ ap (option_and_then
            (λ (x : ServiceDescriptorProto). entry_at (pos 2) x.method.items (step (pos 2) j)))
            leads
            ∙ found_at (pos 2) s.method.items j m refl at;
        whole = part_of is_service index w;
        fields = tt;
      }))

  -- enums with their values
  enums_placed : (path : List ℤ) (tag : ℤ) (scope : List ℕ) (parent : Option ℕ) (start : ℕ)
      (es : List EnumDescriptorProto)
      → ((j : ℕ) (e : EnumDescriptorProto) → slice_get es j ≡ Some e
      → enum_along f (entry path tag j) ≡ Some e)
      → AreAll (each (one_enum path tag scope i parent start) 0 es)
      → AllPlaced (each (one_enum path tag scope i parent start) 0 es)
  enums_placed path tag scope parent start es leads =
      each_placed (one_enum path tag scope i parent start) es (λ j e at inside.
      let at_path = entry path tag j in
      let d = enum_declaration at_path (join scope (text_of e.name)) i parent (start + j) e in
      first d (each (one_value at_path scope i (start + j)) 0 e.value.items)
      (record { file_is = refl; leads = leads j e at; whole = tt; fields = tt })
      (values_placed at_path scope e (start + j)
      (record { whole = d; among = inside d (inl refl); is = refl; file = refl; index = refl })
      (leads j e at) (λ x h. inside x (inr h))))

  services_placed : (scope : List ℕ) (start : ℕ) (ss : List ServiceDescriptorProto)
      → ((j : ℕ) (s : ServiceDescriptorProto) → slice_get ss j ≡ Some s
      → service_along f (entry [] (pos 6) j) ≡ Some s)
      → AreAll (each (one_service scope i start) 0 ss)
      → AllPlaced (each (one_service scope i start) 0 ss)
  services_placed scope start ss leads =
      each_placed (one_service scope i start) ss (λ j s at inside.
      let path = entry [] (pos 6) j in
      let full = join scope (text_of s.name) in
      let d = service_declaration path full i (start + j) s in
      first d (each (one_method path full i (start + j)) 0 s.method.items)
      (record { file_is = refl; leads = leads j s at; whole = tt; fields = tt })
      (methods_placed path full s (start + j)
      (record { whole = d; among = inside d (inl refl); is = refl; file = refl; index = refl })
      (leads j s at) (λ x h. inside x (inr h))))

  extensions_placed : (path : List ℤ) (tag : ℤ) (scope : List ℕ) (parent : Option ℕ) (start : ℕ)
      (xs : List FieldDescriptorProto)
      → ((j : ℕ) (x : FieldDescriptorProto) → slice_get xs j ≡ Some x
      → extension_along f (entry path tag j) ≡ Some x)
      → AreAll (each (one_extension path tag scope i parent start) 0 xs)
      → AllPlaced (each (one_extension path tag scope i parent start) 0 xs)
  extensions_placed path tag scope parent start xs leads =
      each_placed (one_extension path tag scope i parent start) xs (λ j x at inside.
      one _ (record { file_is = refl; leads = leads j x at; whole = tt; fields = tt }))

  -- ---- messages

  fields_declared : (path : List ℤ) (scope : List ℕ) (index k : ℕ)
      (rs : List FieldDescriptorProto) → AreAll (each (one_field path scope i index) k rs)
      → (r : FieldDescriptorProto) → Among r rs → IsFieldIn all index r
  fields_declared path scope index k [] inside r h = absurd h
  fields_declared path scope index k (x ∷ rs) inside r (inl same) =
      let d = field_declaration (entry path (pos 2) k) (join scope (text_of x.name)) i index k x in
      record {
        declaration = d;
        among = inside d (inl refl);
        body = ap of_field same;
        parent = refl;
      }
  fields_declared path scope index k (x ∷ rs) inside r (inr later) =
      fields_declared path scope index (k + 1) rs (λ d h. inside d (inr h)) r later

  mutual
    tree_placed : (path : List ℤ) (scope : List ℕ) (parent : Option ℕ) (o : Offsets) (t : Message)
        (m : DescriptorProto) → tree_of m ≡ t → message_along f path ≡ Some m
        → AreAll (tree_declarations path scope i parent o t)
        → AllPlaced (tree_declarations path scope i parent o t)
    tree_placed path scope parent o (message own nested) m is leads inside =
        let full = join scope (text_of own.name) in
        let behind = past_trees (past_message o) nested in
        let d = message_declaration path full i parent o.messages own in
        let shown : message (parts_of m) (messages_of (map tree_of (nested_of m)))
        ≡ message own nested = sym (fold_out-DescriptorProto Message message_step m) ∙ is in
        let parts : parts_of m ≡ own = cc shown in
        let below : messages_of (map tree_of (nested_of m)) ≡ nested = cc shown in
        let fields = each (one_field path full i o.messages) 0 own.field in
        let inner = trees_declarations path (pos 3) full i (Some o.messages) 0 (past_message o)
        nested in
        let enums = each (one_enum path (pos 4) full i (Some o.messages) behind.enums) 0
        own.enum_type in
        let others = each (one_extension path (pos 6) full i (Some o.messages) behind.extensions) 0
        own.extension in
        let oneofs = each (one_oneof path full i o.messages) 0 own.oneof_decl in
        let rest : AreAll (fields ++ (inner ++ (enums ++ (others ++ oneofs)))) =
        λ x h. inside x (inr h) in
        let behind_fields = in_right fields (inner ++ (enums ++ (others ++ oneofs))) rest in
        let behind_inner = in_right inner (enums ++ (others ++ oneofs)) behind_fields in
        let behind_enums = in_right enums (others ++ oneofs) behind_inner in
        let w : IsWhole is_message o.messages = record {
          whole = d;
          among = inside d (inl refl);
          is = refl;
          file = refl;
          index = refl;
        } in
        first d (fields ++ (inner ++ (enums ++ (others ++ oneofs))))
        (record {
          file_is = refl;
          leads = (m, leads, parts);
          whole = tt;
          fields = fields_declared path full o.messages 0 own.field
              (in_left fields (inner ++ (enums ++ (others ++ oneofs))) rest);
        })
        (both Placed fields (inner ++ (enums ++ (others ++ oneofs)))
        (each_placed (one_field path full i o.messages) own.field (λ j r at all_in. one _ (record {
          file_is = refl;
          leads = entry_leads f (pos 2) (λ x. (out-DescriptorProto x).field.items) path m j r refl
              leads (subst (λ (p : MessageParts). slice_get p.field j ≡ Some r) (sym parts) at);
          whole = part_of is_message o.messages w;
          fields = tt;
        })) (in_left fields (inner ++ (enums ++ (others ++ oneofs))) rest))
        (both Placed inner (enums ++ (others ++ oneofs))
        (trees_placed path (pos 3) full (Some o.messages) 0 (past_message o) nested (nested_of m)
        below (λ j x at. along_more f path m (0 + j) x leads
        (subst (λ n. slice_get (nested_of m) n ≡ Some x) (start j) at))
        (in_left inner (enums ++ (others ++ oneofs)) behind_fields))
        (both Placed enums (others ++ oneofs)
        (enums_placed path (pos 4) full (Some o.messages) behind.enums own.enum_type
        (λ j e at. held_leads f (pos 4) (λ x. (out-DescriptorProto x).enum_type.items) path m j e
        refl leads (subst (λ (p : MessageParts). slice_get p.enum_type j ≡ Some e) (sym parts) at)
        (pos 5) f.enum_type.items) (in_left enums (others ++ oneofs) behind_inner))
        (both Placed others oneofs
        (extensions_placed path (pos 6) full (Some o.messages) behind.extensions own.extension
        (λ j x at. held_leads f (pos 6) (λ y. (out-DescriptorProto y).extension.items) path m j x
        refl leads (subst (λ (p : MessageParts). slice_get p.extension j ≡ Some x) (sym parts) at)
        (pos 7) f.extension.items) (in_left others oneofs behind_enums))
        (each_placed (one_oneof path full i o.messages) own.oneof_decl (λ j r at all_in.
        one _ (record {
          file_is = refl;
          leads = entry_leads f (pos 8) (λ x. (out-DescriptorProto x).oneof_decl.items) path m j r
              refl leads
              (subst (λ (p : MessageParts). slice_get p.oneof_decl j ≡ Some r) (sym parts) at);
          whole = part_of is_message o.messages w;
          fields = tt;
        })) (in_right others oneofs behind_enums))))))

    trees_placed : (path : List ℤ) (tag : ℤ) (scope : List ℕ) (parent : Option ℕ) (k : ℕ)
        (o : Offsets) (ts : Messages) (ms : List DescriptorProto)
        → messages_of (map tree_of ms) ≡ ts
        → ((j : ℕ) (m : DescriptorProto) → slice_get ms j ≡ Some m
        → message_along f (entry path tag (k + j)) ≡ Some m)
        → AreAll (trees_declarations path tag scope i parent k o ts)
        → AllPlaced (trees_declarations path tag scope i parent k o ts)
    trees_placed path tag scope parent k o no_messages ms is leads inside = λ d h. absurd h
    trees_placed path tag scope parent k o (more_messages t ts) [] is leads inside =
        absurd (cc is)
    trees_placed path tag scope parent k o (more_messages t ts) (m ∷ ms) is leads inside =
        let own : tree_of m ≡ t = cc is in
        let rest : messages_of (map tree_of ms) ≡ ts = cc is in
        let xs = tree_declarations (entry path tag k) scope i parent o t in
        let ys = trees_declarations path tag scope i parent (k + 1) (past_tree o t) ts in
        both Placed xs ys
        (tree_placed (entry path tag k) scope parent o t m own
        (subst (λ n. message_along f (entry path tag n) ≡ Some m) (here k) (leads 0 m refl))
        (in_left xs ys inside))
        (trees_placed path tag scope parent (k + 1) (past_tree o t) ts ms rest
        (λ j x at. subst (λ n. message_along f (entry path tag n) ≡ Some x) (next k j)
        (leads (suc j) x at)) (in_right xs ys inside))

  file_placed : (o : Offsets) → AreAll (file_declarations o i f)
      → AllPlaced (file_declarations o i f)
  file_placed o inside =
      let scope = text_of f.package in
      let behind = past_trees o (trees_of f) in
      let types = trees_declarations [] (pos 4) scope i None 0 o (trees_of f) in
      let enums = each (one_enum [] (pos 5) scope i None behind.enums) 0 f.enum_type.items in
      let services = each (one_service scope i o.services) 0 f.service.items in
      let others = each (one_extension [] (pos 7) scope i None behind.extensions) 0
      f.extension.items in
      let rest : AreAll (types ++ (enums ++ (services ++ others))) = λ x h. inside x (inr h) in
      let behind_types = in_right types (enums ++ (services ++ others)) rest in
      let behind_enums = in_right enums (services ++ others) behind_types in
      first (file_declaration [] i f) (types ++ (enums ++ (services ++ others)))
      (record { file_is = refl; leads = tt; whole = tt; fields = tt })
      (both Placed types (enums ++ (services ++ others))
      (trees_placed [] (pos 4) scope None 0 o (trees_of f) f.message_type.items refl
      (λ j m at. subst (λ n. slice_get f.message_type.items n ≡ Some m) (start j) at)
      (in_left types (enums ++ (services ++ others)) rest))
      (both Placed enums (services ++ others)
      (enums_placed [] (pos 5) scope None behind.enums f.enum_type.items (λ j e at. at)
      (in_left enums (services ++ others) behind_types))
      (both Placed services others
      (services_placed scope o.services f.service.items (λ j s at. at)
      (in_left services others behind_enums))
      (extensions_placed [] (pos 7) scope None behind.extensions f.extension.items
      (λ j x at. at) (in_right services others behind_enums)))))

-- ---- the declarations of a batch

-- a declaration of one of the files, the first of which has this index
pub record IsDeclared (all : List Declaration) (fs : List FileDescriptorProto) (first : ℕ)
    (d : Declaration) : Type 0 where
  pub place : ℕ
  pub own : FileDescriptorProto
  pub at : slice_get fs place ≡ Some own
  pub placed : IsPlaced own (first + place) all d

batch_placed : (all : List Declaration) (o : Offsets) (i : ℕ) (fs : List FileDescriptorProto)
    → ((d : Declaration) → Among d (batch_declarations o i fs) → Among d all)
    → (d : Declaration) → Among d (batch_declarations o i fs) → IsDeclared all fs i d
batch_placed all o i [] inside = λ d h. absurd h
batch_placed all o i (f ∷ fs) inside =
    let xs = file_declarations o i f in
    let ys = batch_declarations (past_file o f) (i + 1) fs in
    both (IsDeclared all (f ∷ fs) i) xs ys
    (λ d h. record {
      place = 0;
      own = f;
      at = refl;
      placed = subst (λ n. IsPlaced f n all d) (sym (here i))
          (file_placed f i all o (λ x k. inside x (in_first x xs ys k)) d h);
    })
    (λ d h. later d (batch_placed all (past_file o f) (i + 1) fs
    (λ x k. inside x (in_second x xs ys k)) d h)) where
      later : (d : Declaration) → IsDeclared all fs (i + 1) d → IsDeclared all (f ∷ fs) i d
      later d r = record {
        place = suc r.place;
        own = r.own;
        at = r.at;
        placed = subst (λ n. IsPlaced r.own n all d) (sym (next i r.place)) r.placed;
      }

pub each_declared : (o : Offsets) (i : ℕ) (fs : List FileDescriptorProto) (d : Declaration)
    → Among d (batch_declarations o i fs) → IsDeclared (batch_declarations o i fs) fs i d
each_declared o i fs d h = batch_placed (batch_declarations o i fs) o i fs (λ x k. k) d h
