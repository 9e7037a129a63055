-- The order of a batch's declarations: messages follow one another, and behind each come its fields,
-- in their order.
use Rattle.std.proofs.Common.{◌≡◌, ◌⊎◌, inl, inr, ◌+◌, ◌≤◌, ◌==◌, ℕ, zero, suc, ℤ, pos, Bool, true, false, cond, List, [], ◌∷◌, ◌++◌, Option, None, Some, refl, sym, ap, ◌∙◌, subst, arith, slice_get}
use Rattle.std.specs.List.{AllByRecursion}
use Rattle.descriptor_records.specs.declared.enums.EnumDescriptorProto.{EnumDescriptorProto}
use Rattle.descriptor_records.specs.declared.field.FieldDescriptorProto.{FieldDescriptorProto}
use Rattle.descriptor_records.specs.declared.file.FileDescriptorProto.{FileDescriptorProto}
use Rattle.descriptor_records.specs.declared.service.ServiceDescriptorProto.{ServiceDescriptorProto}
use Rattle.reflect_scope.specs.Means.{join}
use Rattle.reflect_declarations.specs.Batches.{batch_declarations}
use Rattle.reflect_declarations.specs.Tree.{text_of, MessageParts, Message, message, Messages, no_messages, more_messages}
use Rattle.reflect_declarations.specs.declared.offsets.Offsets.{Offsets}
use Rattle.reflect_declarations.specs.Declarations.{Declaration, Body, of_message, of_field, each, entry, one_field, one_oneof, one_value, one_enum, one_method, one_service, one_extension, past_message, past_tree, past_trees, past_file, trees_of, tree_declarations, trees_declarations, file_declarations}
use Rattle.reflect_pool.proofs.Grown.{all_behind}
use Rattle.reflect_index.specs.Along.{AtHand, Met, along, met, hand_behind, is_message, is_field, is_parent, parts}
use Rattle.reflect_index.specs.OfDeclarations.{message_in, messages_in}
use Rattle.reflect_index.proofs.Among.{Among}

-- ---- what is neither a message nor a field

record IsOther (b : Body) : Type 0 where
  message : is_message b ≡ false
  field : is_field b ≡ false

abbrev AreOther : List Declaration → Type 0
AreOther ds = AllByRecursion (λ (d : Declaration). IsOther d.body) ds

each_other : {A : Type 0} (one : ℕ → A → List Declaration) → ((k : ℕ) (x : A) → AreOther (one k x))
    → (i : ℕ) (xs : List A) → AreOther (each one i xs)
each_other one h i [] = tt
each_other one h i (x ∷ xs) =
    all_behind (λ (d : Declaration). IsOther d.body) (one i x) (each one (i + 1) xs) (h i x)
    (each_other one h (i + 1) xs)

both_other : (xs ys : List Declaration) → AreOther xs → AreOther ys → AreOther (xs ++ ys)
both_other xs ys h g = all_behind (λ (d : Declaration). IsOther d.body) xs ys h g

abbrev other : {b : Body} → is_message b ≡ false → is_field b ≡ false → IsOther b
other m f = record { message = m; field = f }

enums_other : (path : List ℤ) (tag : ℤ) (scope : List ℕ) (file : ℕ) (parent : Option ℕ) (first : ℕ)
    (es : List EnumDescriptorProto)
    → AreOther (each (one_enum path tag scope file parent first) 0 es)
enums_other path tag scope file parent first es =
    each_other (one_enum path tag scope file parent first) (λ k e. (
      other refl refl,
      each_other (one_value (entry path tag k) scope file (first + k))
          (λ i x. (other refl refl, tt)) 0 e.value.items,
    )) 0 es

services_other : (scope : List ℕ) (file first : ℕ) (ss : List ServiceDescriptorProto)
    → AreOther (each (one_service scope file first) 0 ss)
services_other scope file first ss =
    each_other (one_service scope file first) (λ k s. (
      other refl refl,
      each_other (one_method (entry [] (pos 6) k) (join scope (text_of s.name)) file (first + k))
          (λ i x. (other refl refl, tt)) 0 s.method.items,
    )) 0 ss

extensions_other : (path : List ℤ) (tag : ℤ) (scope : List ℕ) (file : ℕ) (parent : Option ℕ)
    (first : ℕ) (xs : List FieldDescriptorProto)
    → AreOther (each (one_extension path tag scope file parent first) 0 xs)
extensions_other path tag scope file parent first xs =
    each_other (one_extension path tag scope file parent first) (λ k x. (other refl refl, tt)) 0 xs

-- ---- the order of messages and fields

-- where so many messages were before, and these fields of the last one are still to come: each
-- message has the next index, its fields come next, and so many messages were behind them all
abbrev Follow : ℕ → List FieldDescriptorProto → List Declaration → ℕ → Type 0
Follow n fs [] k = (k ≡ n) × (fs ≡ [])
Follow n fs (d ∷ ds) k = elim d.body [
  | of_message m ↦ (d.index ≡ n) × Follow (n + 1) m.field ds k
  | of_field r ↦ (rest : List FieldDescriptorProto) × (i : ℕ) × (fs ≡ r ∷ rest)
      × (d.parent ≡ Some i) × (n ≡ i + 1) × Follow n rest ds k
  | _ ↦ Follow n fs ds k
]

follow_on : (n : ℕ) (fs : List FieldDescriptorProto) (xs : List Declaration) (k : ℕ)
    (ys : List Declaration) (l : ℕ) → Follow n fs xs k → Follow k [] ys l → Follow n fs (xs ++ ys) l
follow_on n fs [] k ys l a b =
    subst (λ m. Follow m fs ys l) a.0 (subst (λ gs. Follow k gs ys l) (sym a.1) b)
follow_on n fs (d ∷ xs) k ys l a b = by (λ m gs h. follow_on m gs xs k ys l h b) d.body a where
  by : ((m : ℕ) (gs : List FieldDescriptorProto) → Follow m gs xs k → Follow m gs (xs ++ ys) l)
      → (body : Body) → Follow n fs (record d { body = body } ∷ xs) k
      → Follow n fs (record d { body = body } ∷ (xs ++ ys)) l
  by rest (of_message m) h = (h.0, rest (n + 1) m.field h.1)
  by rest (of_field r) h = (h.0, h.1, h.2, h.3, h.4, rest n h.0 h.5)
  by rest body h = rest n fs h

fields_follow : (path : List ℤ) (scope : List ℕ) (file i k : ℕ) (fs : List FieldDescriptorProto)
    → Follow (i + 1) fs (each (one_field path scope file i) k fs) (i + 1)
fields_follow path scope file i k [] = (refl, refl)
fields_follow path scope file i k (f ∷ fs) =
    (fs, i, refl, refl, refl, fields_follow path scope file i (k + 1) fs)

others_follow : (n : ℕ) (ds : List Declaration) → AreOther ds → Follow n [] ds n
others_follow n [] h = (refl, refl)
others_follow n (d ∷ ds) h = by (others_follow n ds h.1) d.body h.0 where
  by : Follow n [] ds n → (body : Body) → IsOther body
      → Follow n [] (record d { body = body } ∷ ds) n
  by rest (of_message m) is = absurd (cc is.message)
  by rest (of_field r) is = absurd (cc is.field)
  by rest body is = rest

mutual
  tree_follow : (path : List ℤ) (scope : List ℕ) (file : ℕ) (parent : Option ℕ) (o : Offsets)
      (m : Message)
      → Follow o.messages [] (tree_declarations path scope file parent o m)
      (past_tree o m).messages
  tree_follow path scope file parent o (message own nested) =
      let full = join scope (text_of own.name) in
      let behind = past_trees (past_message o) nested in
      let fields = each (one_field path full file o.messages) 0 own.field in
      let inner = trees_declarations path (pos 3) full file (Some o.messages) 0 (past_message o)
      nested in
      let enums = each (one_enum path (pos 4) full file (Some o.messages) behind.enums) 0
      own.enum_type in
      let extensions =
      each (one_extension path (pos 6) full file (Some o.messages) behind.extensions) 0
      own.extension in
      let oneofs = each (one_oneof path full file o.messages) 0 own.oneof_decl in
      let others = enums ++ (extensions ++ oneofs) in (
        refl,
        follow_on (o.messages + 1) own.field fields (o.messages + 1) (inner ++ others)
            behind.messages (fields_follow path full file o.messages 0 own.field)
            (follow_on (o.messages + 1) [] inner behind.messages others behind.messages
            (trees_follow path (pos 3) full file (Some o.messages) 0 (past_message o) nested)
            (others_follow behind.messages others (both_other enums (extensions ++ oneofs)
            (enums_other path (pos 4) full file (Some o.messages) behind.enums own.enum_type)
            (both_other extensions oneofs
            (extensions_other path (pos 6) full file (Some o.messages) behind.extensions
            own.extension)
            (each_other (one_oneof path full file o.messages) (λ k x. (other refl refl, tt)) 0
            own.oneof_decl))))),
      )

  trees_follow : (path : List ℤ) (tag : ℤ) (scope : List ℕ) (file : ℕ) (parent : Option ℕ) (k : ℕ)
      (o : Offsets) (ms : Messages)
      → Follow o.messages [] (trees_declarations path tag scope file parent k o ms)
      (past_trees o ms).messages
  trees_follow path tag scope file parent k o no_messages = (refl, refl)
  trees_follow path tag scope file parent k o (more_messages m ms) =
      follow_on o.messages [] (tree_declarations (entry path tag k) scope file parent o m)
      (past_tree o m).messages
      (trees_declarations path tag scope file parent (k + 1) (past_tree o m) ms)
      (past_trees (past_tree o m) ms).messages
      (tree_follow (entry path tag k) scope file parent o m)
      (trees_follow path tag scope file parent (k + 1) (past_tree o m) ms)

file_follow : (o : Offsets) (file : ℕ) (f : FileDescriptorProto)
    → Follow o.messages [] (file_declarations o file f) (past_file o f).messages
file_follow o file f =
    let scope = text_of f.«package» in
    let behind = past_trees o (trees_of f) in
    let enums = each (one_enum [] (pos 5) scope file None behind.enums) 0 f.enum_type.items in
    let services = each (one_service scope file o.services) 0 f.service.items in
    let extensions = each (one_extension [] (pos 7) scope file None behind.extensions) 0
    f.extension.items in
    let others = enums ++ (services ++ extensions) in
    follow_on o.messages [] (trees_declarations [] (pos 4) scope file None 0 o (trees_of f))
    behind.messages others behind.messages
    (trees_follow [] (pos 4) scope file None 0 o (trees_of f))
    (others_follow behind.messages others (both_other enums (services ++ extensions)
    (enums_other [] (pos 5) scope file None behind.enums f.enum_type.items)
    (both_other services extensions
    (services_other scope file o.services f.service.items)
    (extensions_other [] (pos 7) scope file None behind.extensions f.extension.items))))

pub batch_follow : (o : Offsets) (i : ℕ) (fs : List FileDescriptorProto) → (k : ℕ)
    × Follow o.messages [] (batch_declarations o i fs) k
batch_follow o i [] = (o.messages, (refl, refl))
batch_follow o i (f ∷ fs) =
    let rest = batch_follow (past_file o f) (i + 1) fs in (
      rest.0,
      follow_on o.messages [] (file_declarations o i f) (past_file o f).messages
          (batch_declarations (past_file o f) (i + 1) fs) rest.0 (file_follow o i f) rest.1,
    )

-- ---- fields

-- the record of the message of the index has the field at the place
pub record DeclaresAt (ds : List Declaration) (i j : ℕ) (r : FieldDescriptorProto) : Type 0 where
  pub declaration : Declaration
  pub own : MessageParts
  pub here : Among declaration ds
  pub body : declaration.body ≡ of_message own
  pub index : declaration.index ≡ i
  pub field : slice_get own.field j ≡ Some r

-- of the message of the index the field is the one at the place: of what is still to come of the
-- last message, or of the record of a later one
abbrev IsComing : ℕ → List FieldDescriptorProto → List Declaration → ℕ → ℕ → FieldDescriptorProto
    → Type 0
IsComing n fs ds i j r = ((n ≡ i + 1) × (slice_get fs j ≡ Some r)) ⊎ ((n ≤ i) × DeclaresAt ds i j r)

abbrev AreComing : ℕ → List FieldDescriptorProto → AtHand → List Declaration → Type 0
AreComing n fs h ds =
    (i j : ℕ) (m : Met) (r : FieldDescriptorProto)
    → slice_get (parts is_field i (along h ds)) j ≡ Some m
    → m.declaration.body ≡ of_field r → IsComing n fs ds i j r

later : (d : Declaration) (ds : List Declaration) (i j : ℕ) (r : FieldDescriptorProto)
    → DeclaresAt ds i j r → DeclaresAt (d ∷ ds) i j r
later d ds i j r h = record {
  declaration = h.declaration;
  own = h.own;
  here = inr h.here;
  body = h.body;
  index = h.index;
  field = h.field;
}

coming_later : (d : Declaration) (n : ℕ) (fs : List FieldDescriptorProto) (ds : List Declaration)
    (i j : ℕ) (r : FieldDescriptorProto) → IsComing n fs ds i j r → IsComing n fs (d ∷ ds) i j r
coming_later d n fs ds i j r (inl h) = inl h
coming_later d n fs ds i j r (inr h) = inr (h.0, later d ds i j r h.1)

-- behind a message its fields are to come
behind_message : (d : Declaration) (own : MessageParts) (n : ℕ) (fs : List FieldDescriptorProto)
    (ds : List Declaration) (i j : ℕ) (r : FieldDescriptorProto) → d.body ≡ of_message own
    → d.index ≡ n
    → IsComing (n + 1) own.field ds i j r → IsComing n fs (d ∷ ds) i j r
behind_message d own n fs ds i j r body index (inl h) = let next = h.0 in inr (
  omega (arith, next),
  record {
    declaration = d;
    own = own;
    here = inl refl;
    body = body;
    index = omega (arith, index, next);
    field = h.1;
  },
)
behind_message d own n fs ds i j r body index (inr h) = let le = h.0 in
    inr (omega (arith, le), later d ds i j r h.1)

one_record : (f r : FieldDescriptorProto) → of_field f ≡ of_field r → f ≡ r
one_record f r e = cc e

-- a field that is to come comes first, and behind it the rest; those of other messages come later
module _ (d : Declaration) (f : FieldDescriptorProto) (n : ℕ) (fs rest : List FieldDescriptorProto)
    (first : fs ≡ f ∷ rest) (p : ℕ) (parent : d.parent ≡ Some p) (next : n ≡ p + 1)
    (ds : List Declaration) (h : AtHand)
    (coming : AreComing n rest (hand_behind h (record d { body = of_field f })) ds) where
  abbrev here : Declaration
  here = record d { body = of_field f }

  abbrev behind : List Declaration → ℕ → List Met
  behind ds i = parts is_field i (along (hand_behind h here) ds)

  own_field : (i j : ℕ) (m : Met) (r : FieldDescriptorProto) → is_parent i d.parent ≡ true
      → slice_get (met h here ∷ behind ds i) j ≡ Some m → m.declaration.body ≡ of_field r
      → IsComing n fs (here ∷ ds) i j r
  own_field i zero m r is at body =
      let same : ◌≡◌ {A = Met} (met h here) m = cc at in
      let field : f ≡ r = one_record f r (ap (λ (x : Met). x.declaration.body) same ∙ body) in
      let equal : (p == i) ≡ true = sym (ap (is_parent i) parent) ∙ is in
      inl (grind (arith, next, equal), ap (λ l. slice_get l 0) first ∙ ap Some field)
  own_field i (suc j) m r is at body = by (coming i j m r at body) where
    by : IsComing n rest ds i j r → IsComing n fs (here ∷ ds) i (suc j) r
    by (inl k) = inl (k.0, ap (λ l. slice_get l (suc j)) first ∙ k.1)
    by (inr k) =
        let equal : (p == i) ≡ true = sym (ap (is_parent i) parent) ∙ is in
        let le = k.0 in absurd (grind (arith, next, equal, le))

  other_field : (i j : ℕ) (r : FieldDescriptorProto) → is_parent i d.parent ≡ false
      → IsComing n rest ds i j r → IsComing n fs (here ∷ ds) i j r
  other_field i j r not (inl k) =
      let equal : (p == i) ≡ false = sym (ap (is_parent i) parent) ∙ not in
      let also = k.0 in absurd (grind (arith, next, equal, also))
  other_field i j r not (inr k) = inr (k.0, later here ds i j r k.1)

  field_coming : AreComing n fs h (here ∷ ds)
  field_coming i j m r at body = by (is_parent i d.parent) refl where
    by : (b : Bool) → is_parent i d.parent ≡ b → IsComing n fs (here ∷ ds) i j r
    by true is = own_field i j m r is
        (subst (λ b. slice_get (cond b (met h here ∷ behind ds i) (behind ds i)) j ≡ Some m) is at)
        body
    by false is = other_field i j r is (coming i j m r
        (subst (λ b. slice_get (cond b (met h here ∷ behind ds i) (behind ds i)) j ≡ Some m) is at)
        body)

-- so one declaration on
one_coming : (n : ℕ) (fs : List FieldDescriptorProto) (h : AtHand) (d : Declaration)
    (ds : List Declaration) (k : ℕ)
    → ((m : ℕ) (gs : List FieldDescriptorProto) (hand : AtHand) → Follow m gs ds k
    → AreComing m gs hand ds)
    → (body : Body) → Follow n fs (record d { body = body } ∷ ds) k
    → AreComing n fs h (record d { body = body } ∷ ds)
one_coming n fs h d ds k rest (of_message own) a i j m r at is =
    let here = record d { body = of_message own } in
    behind_message here own n fs ds i j r refl a.0
    (rest (n + 1) own.field (hand_behind h here) a.1 i j m r at is)
one_coming n fs h d ds k rest (of_field f) a i j m r at is =
    field_coming d f n fs a.0 a.2 a.1 a.3 a.4 ds h
    (rest n a.0 (hand_behind h (record d { body = of_field f })) a.5) i j m r at is
one_coming n fs h d ds k rest body a i j m r at is =
    let here = record d { body = body } in
    coming_later here n fs ds i j r (rest n fs (hand_behind h here) a i j m r at is)

all_coming : (n : ℕ) (fs : List FieldDescriptorProto) (h : AtHand) (ds : List Declaration) (k : ℕ)
    → Follow n fs ds k → AreComing n fs h ds
all_coming n fs h [] k a i j m r at is = absurd (cc at)
all_coming n fs h (d ∷ ds) k a i j m r at is =
    one_coming n fs h d ds k (λ m gs hand b. all_coming m gs hand ds k b) d.body a i j m r at is

-- of the fields of a message, as a walk over a batch meets them, each is declared at its place
pub declared_in : (o : Offsets) (first : ℕ) (files : List FileDescriptorProto) (h : AtHand)
    (i j : ℕ) (m : Met) (r : FieldDescriptorProto)
    → slice_get (parts is_field i (along h (batch_declarations o first files))) j ≡ Some m
    → m.declaration.body ≡ of_field r → DeclaresAt (batch_declarations o first files) i j r
declared_in o first files h i j m r at is =
    let a = batch_follow o first files in
    by (all_coming o.messages [] h (batch_declarations o first files) a.0 a.1 i j m r at is) where
      by : IsComing o.messages [] (batch_declarations o first files) i j r
          → DeclaresAt (batch_declarations o first files) i j r
      by (inl none) = absurd (cc none.1)
      by (inr found) = found.1

-- ---- messages

-- the message is the one at a place, which is as far behind the first as its index says
abbrev pub StandsAt : ℕ → Declaration → MessageParts → List MessageParts → Type 0
StandsAt n d own ms = (j : ℕ) × (d.index ≡ n + j) × (slice_get ms j ≡ Some own)

one_stands : (n : ℕ) (fs : List FieldDescriptorProto) (e : Declaration) (ds : List Declaration)
    (k : ℕ) (d : Declaration) (own : MessageParts) → d.body ≡ of_message own
    → ((m : ℕ) (gs : List FieldDescriptorProto) → Follow m gs ds k → Among d ds
    → StandsAt m d own (messages_in ds))
    → (body : Body) → Follow n fs (record e { body = body } ∷ ds) k
    → Among d (record e { body = body } ∷ ds)
    → StandsAt n d own (message_in body ++ messages_in ds)
one_stands n fs e ds k d own is rest (of_message m) a (inl same) =
    let own_is : m ≡ own = cc (ap (λ (x : Declaration). x.body) same ∙ is) in
    let index : e.index ≡ d.index = ap (λ (x : Declaration). x.index) same in
    let first = a.0 in (0, omega (arith, index, first), ap Some own_is)
one_stands n fs e ds k d own is rest (of_message m) a (inr more) =
    let found = rest (n + 1) m.field a.1 more in let index = found.1 in
    (suc found.0, omega (arith, index), found.2)
one_stands n fs e ds k d own is rest (of_field r) a (inr more) = rest n a.0 a.5 more
one_stands n fs e ds k d own is rest body a (inl same) =
    absurd (cc (ap (λ (x : Declaration). x.body) same ∙ is))
one_stands n fs e ds k d own is rest body a (inr more) = rest n fs a more

pub all_stand : (n : ℕ) (fs : List FieldDescriptorProto) (ds : List Declaration) (k : ℕ)
    (d : Declaration) (own : MessageParts) → d.body ≡ of_message own → Follow n fs ds k → Among d ds
    → StandsAt n d own (messages_in ds)
all_stand n fs [] k d own is a h = absurd h
all_stand n fs (e ∷ ds) k d own is a h =
    one_stands n fs e ds k d own is (λ m gs b. all_stand m gs ds k d own is b) e.body a h
