-- What a walk over a batch meets: behind each message its fields, in their order and under its name;
-- at each declaration the syntax of its file and its references.
use Rattle.std.proofs.Common.{◌≡◌, ◌∙◌, ◌⊎◌, inl, inr, ◌+◌, ◌<◌, ◌≤◌, ◌==◌, ℕ, suc, ℤ, pos, Bool, true, false, cond, List, [], ◌∷◌, ◌++◌, Option, Some, None, is_some, map, slice_get, ap, sym, subst, refl, arith}
use Rattle.std.specs.List.{AllByRecursion, AllZip, Contains}
use Rattle.descriptor_records.specs.declared.field.FieldDescriptorProto.{FieldDescriptorProto}
use Rattle.descriptor_records.specs.declared.file.FileDescriptorProto.{FileDescriptorProto}
use Rattle.reflect_index.specs.Along.{AtHand, Met, along, hand_behind, is_field, is_parent, is_part, met, parts, syntax_behind}
use Rattle.reflect_index.proofs.Among.{Among}
use Rattle.reflect_index.proofs.Counted.{file_next}
use Rattle.reflect_index.proofs.Declared.{of_along}
use Rattle.reflect_names.specs.Names.{Places}
use Rattle.reflect_names.specs.ReferencePass.{reference_faults_along, targets_along, views_of}
use Rattle.reflect_names.specs.ReferenceSteps.{target_of}
use Rattle.reflect_names.specs.References.{Target, View, reference_faults_at, targets_of}
use Rattle.reflect_scope.specs.Known.{Known}
use Rattle.reflect_scope.specs.Means.{join}
use Rattle.reflect_tables.specs.Names.{AreFound, FullName, found, messages}
use Rattle.reflect_tables.specs.Views.{syntax_type}
use Rattle.reflect_tables.specs.declared.kind.Syntax.{Syntax}
use Rattle.reflect_declarations.specs.Batches.{batch_declarations}
use Rattle.reflect_declarations.specs.Declarations.{Body, Declaration, each, entry, of_file, of_message, of_field, file_declaration, file_declarations, one_enum, one_extension, one_field, one_oneof, one_service, past_file, past_message, past_tree, past_trees, tree_declarations, trees_declarations, trees_of}
use Rattle.reflect_declarations.specs.Tree.{Message, MessageParts, Messages, message, more_messages, no_messages, text_of}
use Rattle.reflect_declarations.specs.declared.offsets.Offsets.{Offsets}
use Rattle.schema_view.proofs.Lists.{contains_here, contains_there}
use Rattle.linked_view.proofs.AtHand.{left_behind}
use Rattle.linked_view.proofs.Faults.{none_both}
use Rattle.linked_view.proofs.Known.{next_file}
use Rattle.linked_view.proofs.Messages.{ArePlain, IsPlain, enum_plain, plain_both, plain_each, service_plain}
use Rattle.linked_view.proofs.Named.{inner_declared}
use Rattle.linked_view.proofs.Walked.{inner_declarations, seen_body}

-- ---- the order of fields

-- where so many messages were before, the last of which has this name, and these fields of it are
-- still to come: each message has the next index, its fields come next, under its name, and so many
-- messages were behind them all
abbrev pub Pending : ℕ → List ℕ → List FieldDescriptorProto → List Declaration → ℕ → Type 0
Pending n full fs [] k = (k ≡ n) × (fs ≡ [])
Pending n full fs (d ∷ ds) k = elim d.body [
  | of_message m ↦ (fs ≡ []) × (d.index ≡ n) × Pending (n + 1) d.name m.field ds k
  | of_field r ↦ (rest : List FieldDescriptorProto) × (i : ℕ) × (fs ≡ r ∷ rest)
      × (d.parent ≡ Some i) × (n ≡ i + 1) × (d.name ≡ join full (text_of r.name))
      × Pending n full rest ds k
  | _ ↦ Pending n full fs ds k
]

pending_on : (n : ℕ) (full : List ℕ) (fs : List FieldDescriptorProto) (xs : List Declaration)
    (k : ℕ) (ys : List Declaration) (l : ℕ) → Pending n full fs xs k
    → ((f : List ℕ) → Pending k f [] ys l) → Pending n full fs (xs ++ ys) l
pending_on n full fs [] k ys l a b =
    subst (λ m. Pending m full fs ys l) a.0
    (subst (λ gs. Pending k full gs ys l) (sym a.1) (b full))
pending_on n full fs (d ∷ xs) k ys l a b =
    by (λ m f gs h. pending_on m f gs xs k ys l h b) d.body a where
      by : ((m : ℕ) (f : List ℕ) (gs : List FieldDescriptorProto) → Pending m f gs xs k
          → Pending m f gs (xs ++ ys) l) → (body : Body)
          → Pending n full fs (record d { body = body } ∷ xs) k
          → Pending n full fs (record d { body = body } ∷ (xs ++ ys)) l
      by rest (of_message m) h = (h.0, h.1, rest (n + 1) d.name m.field h.2)
      by rest (of_field r) h = (h.0, h.1, h.2, h.3, h.4, h.5, rest n full h.0 h.6)
      by rest body h = rest n full fs h

fields_pending : (path : List ℤ) (full : List ℕ) (file i k : ℕ) (fs : List FieldDescriptorProto)
    → Pending (i + 1) full fs (each (one_field path full file i) k fs) (i + 1)
fields_pending path full file i k [] = (refl, refl)
fields_pending path full file i k (f ∷ fs) =
    (fs, i, refl, refl, refl, refl, fields_pending path full file i (k + 1) fs)

plain_pending : (n : ℕ) (full : List ℕ) (ds : List Declaration) → ArePlain ds
    → Pending n full [] ds n
plain_pending n full [] h = (refl, refl)
plain_pending n full (d ∷ ds) h = by (plain_pending n full ds h.1) d.body h.0 where
  by : Pending n full [] ds n → (body : Body) → IsPlain body
      → Pending n full [] (record d { body = body } ∷ ds) n
  by rest (of_message m) is = absurd is
  by rest (of_field r) is = absurd is
  by rest body is = rest

mutual
  tree_pending : (path : List ℤ) (scope : List ℕ) (file : ℕ) (parent : Option ℕ) (o : Offsets)
      (f : List ℕ) (m : Message)
      → Pending o.messages f [] (tree_declarations path scope file parent o m)
      (past_tree o m).messages
  tree_pending path scope file parent o f (message own nested) =
      let full = join scope (text_of own.name) in
      let behind = past_trees (past_message o) nested in
      let fields = each (one_field path full file o.messages) 0 own.field in
      let inner =
      trees_declarations path (pos 3) full file (Some o.messages) 0 (past_message o) nested in
      let enums = one_enum path (pos 4) full file (Some o.messages) behind.enums in
      let extensions = one_extension path (pos 6) full file (Some o.messages) behind.extensions in
      let oneofs = one_oneof path full file o.messages in
      let others = each enums 0 own.enum_type
      ++ (each extensions 0 own.extension ++ each oneofs 0 own.oneof_decl) in
      let plain : ArePlain others =
      plain_both (each enums 0 own.enum_type) _
      (plain_each enums (enum_plain path (pos 4) full file (Some o.messages) behind.enums) 0
      own.enum_type)
      (plain_both (each extensions 0 own.extension) (each oneofs 0 own.oneof_decl)
      (plain_each extensions (λ k x. (tt, tt)) 0 own.extension)
      (plain_each oneofs (λ k x. (tt, tt)) 0 own.oneof_decl)) in (
        refl,
        refl,
        pending_on (o.messages + 1) full own.field fields (o.messages + 1) (inner ++ others)
            behind.messages (fields_pending path full file o.messages 0 own.field)
            (λ g. pending_on (o.messages + 1) g [] inner behind.messages others behind.messages
            (trees_pending path (pos 3) full file (Some o.messages) 0 (past_message o) g nested)
            (λ j. plain_pending behind.messages j others plain)),
      )

  trees_pending : (path : List ℤ) (tag : ℤ) (scope : List ℕ) (file : ℕ) (parent : Option ℕ)
      (k : ℕ) (o : Offsets) (f : List ℕ) (ms : Messages)
      → Pending o.messages f [] (trees_declarations path tag scope file parent k o ms)
      (past_trees o ms).messages
  trees_pending path tag scope file parent k o f no_messages = (refl, refl)
  trees_pending path tag scope file parent k o f (more_messages m ms) =
      pending_on o.messages f [] (tree_declarations (entry path tag k) scope file parent o m)
      (past_tree o m).messages
      (trees_declarations path tag scope file parent (k + 1) (past_tree o m) ms)
      (past_trees (past_tree o m) ms).messages
      (tree_pending (entry path tag k) scope file parent o f m)
      (λ g. trees_pending path tag scope file parent (k + 1) (past_tree o m) g ms)

file_pending : (o : Offsets) (file : ℕ) (g : List ℕ) (f : FileDescriptorProto)
    → Pending o.messages g [] (file_declarations o file f) (past_file o f).messages
file_pending o file g f =
    let scope = text_of f.«package» in
    let behind = past_trees o (trees_of f) in
    let enums = one_enum [] (pos 5) scope file None behind.enums in
    let services = one_service scope file o.services in
    let extensions = one_extension [] (pos 7) scope file None behind.extensions in
    let others = each enums 0 f.enum_type.items
    ++ (each services 0 f.service.items ++ each extensions 0 f.extension.items) in
    let plain : ArePlain others =
    plain_both (each enums 0 f.enum_type.items) _
    (plain_each enums (enum_plain [] (pos 5) scope file None behind.enums) 0 f.enum_type.items)
    (plain_both (each services 0 f.service.items) (each extensions 0 f.extension.items)
    (plain_each services (service_plain scope file o.services) 0 f.service.items)
    (plain_each extensions (λ k x. (tt, tt)) 0 f.extension.items)) in
    pending_on o.messages g [] (trees_declarations [] (pos 4) scope file None 0 o (trees_of f))
    behind.messages others behind.messages
    (trees_pending [] (pos 4) scope file None 0 o g (trees_of f))
    (λ j. plain_pending behind.messages j others plain)

abbrev pub past_files : Offsets → List FileDescriptorProto → Offsets
past_files o [] = o
past_files o (f ∷ fs) = past_files (past_file o f) fs

pub batch_pending : (o : Offsets) (i : ℕ) (g : List ℕ) (fs : List FileDescriptorProto)
    → Pending o.messages g [] (batch_declarations o i fs) (past_files o fs).messages
batch_pending o i g [] = (refl, refl)
batch_pending o i g (f ∷ fs) =
    pending_on o.messages g [] (file_declarations o i f) (past_file o f).messages
    (batch_declarations (past_file o f) (i + 1) fs) (past_files (past_file o f) fs).messages
    (file_pending o i g f) (λ j. batch_pending (past_file o f) (i + 1) j fs)

-- ---- the fields that are met

-- it is that of the record, under the name of the message
pub record IsOwn (full : List ℕ) (r : FieldDescriptorProto) (m : Met) : Type 0 where
  pub body : m.declaration.body ≡ of_field r
  pub name : m.declaration.name ≡ join full (text_of r.name)

abbrev Owns : List ℕ → List FieldDescriptorProto → List Met → Type 0
Owns full fs ms = AllZip (IsOwn full) fs ms

-- those that are still to come of the last message come next, those of later messages stand behind
-- these, and no others do
record AreOwn (n : ℕ) (full : List ℕ) (fs : List FieldDescriptorProto) (h : AtHand)
    (ds : List Declaration) : Type 0 where
  now : (i : ℕ) → n ≡ i + 1 → Owns full fs (parts is_field i (along h ds))
  later : (d : Declaration) (own : MessageParts) → Among d ds → d.body ≡ of_message own
      → (n ≤ d.index) × Owns d.name own.field (parts is_field d.index (along h ds))
  before : (i : ℕ) → i + 1 < n → parts is_field i (along h ds) ≡ []

module _ (n : ℕ) (full : List ℕ) (fs : List FieldDescriptorProto) (h : AtHand) (d : Declaration)
    (ds : List Declaration) where
  abbrev Later : Body → Type 0
  Later b = (e : Declaration) (x : MessageParts) → Among e (record d { body = b } ∷ ds)
      → e.body ≡ of_message x
      → (n ≤ e.index) × Owns e.name x.field (parts is_field e.index (along h (record d { body = b } ∷ ds)))

  -- a message
  message_own : (own : MessageParts) → fs ≡ [] → d.index ≡ n
      → AreOwn (n + 1) d.name own.field (hand_behind h (record d { body = of_message own })) ds
      → AreOwn n full fs h (record d { body = of_message own } ∷ ds)
  message_own own none index r = record {
    now = λ i e. subst (λ gs. Owns full gs (parts is_field i (along h (here ∷ ds)))) (sym none)
        (subst (Owns full []) (sym (r.before i (omega (arith, e)))) tt);
    later = later;
    before = λ i lt. r.before i (omega (arith, lt));
  } where
    here : Declaration
    here = record d { body = of_message own }

    later : Later (of_message own)
    later e x (inr more) is = let q = r.later e x more is in
        let le = q.0 in (omega (arith, le), q.1)
    later e x (inl same) is =
        let own_is : own ≡ x = cc (ap (λ (y : Declaration). y.body) same ∙ is) in
        let at = index in
        let first : (n ≤ d.index) × Owns d.name own.field (parts is_field d.index (along h (here ∷ ds))) =
        (omega (arith, at), r.now d.index (omega (arith, at))) in
        subst (λ (y : Declaration). (n ≤ y.index)
        × Owns y.name x.field (parts is_field y.index (along h (here ∷ ds)))) same
        (subst (λ (z : MessageParts). (n ≤ d.index)
        × Owns d.name z.field (parts is_field d.index (along h (here ∷ ds)))) own_is first)

  -- a field
  module _ (r : FieldDescriptorProto) (rest : List FieldDescriptorProto) (p : ℕ)
      (first : fs ≡ r ∷ rest) (parent : d.parent ≡ Some p) (next : n ≡ p + 1)
      (name : d.name ≡ join full (text_of r.name))
      (q : AreOwn n full rest (hand_behind h (record d { body = of_field r })) ds) where
    abbrev own_field : Declaration
    own_field = record d { body = of_field r }

    abbrev behind : ℕ → List Met
    behind i = parts is_field i (along (hand_behind h own_field) ds)

    abbrev with_test : ℕ → Bool → List Met
    with_test i b = cond b (met h own_field ∷ behind i) (behind i)

    tested : (i : ℕ) (b : Bool) → (p == i) ≡ b → is_parent i d.parent ≡ b
    tested i b e = ap (is_parent i) parent ∙ e

    field_own : AreOwn n full fs h (own_field ∷ ds)
    field_own = record {
      now = λ i e.
          let test : (p == i) ≡ true = grind (arith, next, e) in
          subst (λ gs. Owns full gs (with_test i (is_parent i d.parent))) (sym first)
          (subst (λ b. Owns full (r ∷ rest) (with_test i b)) (sym (tested i true test))
          (record { body = refl; name = name }, q.now i e));
      later = later;
      before = λ i lt.
          let test : (p == i) ≡ false = grind (arith, next, lt) in
          ap (with_test i) (tested i false test) ∙ q.before i lt;
    } where
      later : Later (of_field r)
      later e x (inl same) is = absurd (cc (ap (λ (y : Declaration). y.body) same ∙ is))
      later e x (inr more) is =
          let z = q.later e x more is in
          let le = z.0 in
          let test : (p == e.index) ≡ false = grind (arith, next, le) in (
            le,
            subst (λ b. Owns e.name x.field (with_test e.index b))
                (sym (tested e.index false test)) z.1,
          )

-- what is neither is passed over
passed : (n : ℕ) (full : List ℕ) (fs : List FieldDescriptorProto) (h : AtHand) (d : Declaration)
    (ds : List Declaration) (b : Body) → ((own : MessageParts) → b ≡ of_message own → ⊥)
    → ((i : ℕ) → is_part is_field i (met h (record d { body = b })) ≡ false)
    → AreOwn n full fs (hand_behind h (record d { body = b })) ds
    → AreOwn n full fs h (record d { body = b } ∷ ds)
passed n full fs h d ds b none skips q = record {
  now = λ i e. subst (λ c. Owns full fs (with_test i c)) (sym (skips i)) (q.now i e);
  later = later;
  before = λ i lt. ap (with_test i) (skips i) ∙ q.before i lt;
} where
  with_test : ℕ → Bool → List Met
  with_test i c =
      let more = parts is_field i (along (hand_behind h (record d { body = b })) ds) in
      cond c (met h (record d { body = b }) ∷ more) more

  later : (e : Declaration) (x : MessageParts) → Among e (record d { body = b } ∷ ds)
      → e.body ≡ of_message x → (n ≤ e.index)
      × Owns e.name x.field (parts is_field e.index (along h (record d { body = b } ∷ ds)))
  later e x (inl same) is = absurd (none x (ap (λ (y : Declaration). y.body) same ∙ is))
  later e x (inr more) is = let z = q.later e x more is in
      (z.0, subst (λ c. Owns e.name x.field (with_test e.index c)) (sym (skips e.index)) z.1)

are_own : (n : ℕ) (full : List ℕ) (fs : List FieldDescriptorProto) (h : AtHand)
    (ds : List Declaration) (k : ℕ) → Pending n full fs ds k → AreOwn n full fs h ds
are_own n full fs h [] k a = record {
  now = λ i e. subst (λ gs. Owns full gs []) (sym a.1) tt;
  later = λ d own i e. absurd i;
  before = λ i lt. refl;
}
are_own n full fs h (d ∷ ds) k a =
    by (λ m g gs hand b. are_own m g gs hand ds k b) d.body a where
      by : ((m : ℕ) (g : List ℕ) (gs : List FieldDescriptorProto) (hand : AtHand)
          → Pending m g gs ds k → AreOwn m g gs hand ds) → (body : Body)
          → Pending n full fs (record d { body = body } ∷ ds) k
          → AreOwn n full fs h (record d { body = body } ∷ ds)
      by rest (of_message own) a =
          message_own n full fs h d ds own a.0 a.1
          (rest (n + 1) d.name own.field (hand_behind h (record d { body = of_message own })) a.2)
      by rest (of_field r) a =
          field_own n full fs h d ds r a.0 a.1 a.2 a.3 a.4 a.5
          (rest n full a.0 (hand_behind h (record d { body = of_field r })) a.6)
      by rest b a =
          passed n full fs h d ds b (λ own e. cc e) (λ i. refl)
          (rest n full fs (hand_behind h (record d { body = b })) a)

-- the fields of a message of a batch
pub fields_own : (o : Offsets) (i : ℕ) (fs : List FileDescriptorProto) (h : AtHand)
    (d : Declaration) (own : MessageParts) → Among d (batch_declarations o i fs)
    → d.body ≡ of_message own
    → AllZip (IsOwn d.name) own.field (parts is_field d.index (along h (batch_declarations o i fs)))
fields_own o i fs h d own among is =
    ((are_own o.messages [] [] h (batch_declarations o i fs) (past_files o fs).messages
    (batch_pending o i [] fs)).later d own among is).1

-- ---- references at hand

module _ (full_names : List FullName) (known : Known)
    (are : AreFound (found messages known) full_names) (sees : ℕ → ℕ → Bool) (at : ℕ → Places) where
  abbrev views : ℕ → View
  views = views_of known sees

  -- none of a declaration's references is faulty, and they are the next
  pub record HasNext (m : Met) : Type 0 where
    pub none : reference_faults_at (at m.declaration.file) (views m.declaration.file) m.declaration
        ≡ []
    pub more : List Target
    pub next : map target_of m.hand.rest
        ≡ targets_of (views m.declaration.file) m.declaration ++ more

  pub has_next : (h : AtHand) (ds : List Declaration) → reference_faults_along at views ds ≡ []
      → map target_of h.rest ≡ targets_along views ds → (m : Met) → Among m (along h ds)
      → HasNext m
  has_next h [] none e m k = absurd k
  has_next h (d ∷ ds) none e m k =
      by k (has_next (hand_behind h d) ds parts.1
      (left_behind views at h.rest d d.body (targets_along views ds) parts.0 e) m)
    where
      parts : (reference_faults_at (at d.file) (views d.file) d ≡ [])
          × (reference_faults_along at views ds ≡ [])
      parts = none_both (reference_faults_at (at d.file) (views d.file) d)
          (reference_faults_along at views ds) none

      by : (met h d ≡ m) ⊎ Among m (along (hand_behind h d) ds)
          → (Among m (along (hand_behind h d) ds) → HasNext m) → HasNext m
      by (inl same) later =
          subst HasNext same (record { none = parts.0; more = targets_along views ds; next = e })
      by (inr j) later = later j

-- ---- the syntax at hand

hand_after : AtHand → List Declaration → AtHand
hand_after h [] = h
hand_after h (d ∷ ds) = hand_after (hand_behind h d) ds

among_both : (h : AtHand) (a b : List Declaration) (m : Met) → Among m (along h (a ++ b))
    → Among m (along h a) ⊎ Among m (along (hand_after h a) b)
unfolding hand_after
among_both h [] b m k = inr k
among_both h (d ∷ a) b m (inl same) = inl (inl same)
among_both h (d ∷ a) b m (inr k) = elim (among_both (hand_behind h d) a b m k)
    [ inl j ↦ inl (inr j) | inr j ↦ inr j ]

pub contains_among : {X : Type 0} (xs : List X) (x : X) → Among x xs → Contains xs x
contains_among [] x h = absurd h
contains_among (y ∷ xs) x (inl same) = subst (Contains (y ∷ xs)) same (contains_here y xs)
contains_among (y ∷ xs) x (inr more) = contains_there y xs x (contains_among xs x more)

-- it is no file
abbrev pub IsInner : Declaration → Type 0
IsInner d = is_some (seen_body d.body) ≡ true

stays : (d : Declaration) (b : Body) (s : Syntax) → IsInner (record d { body = b })
    → syntax_behind (record d { body = b }) s ≡ s
stays d (of_file f) s h = absurd (cc h)
stays d b s h = refl

inner_hand : (h : AtHand) (ds : List Declaration) → AllByRecursion IsInner ds → (m : Met)
    → Among m (along h ds) → m.hand.syntax ≡ h.syntax
inner_hand h [] all m k = absurd k
inner_hand h (d ∷ ds) all m (inl same) = sym (ap (λ (x : Met). x.hand.syntax) same)
inner_hand h (d ∷ ds) all m (inr k) =
    inner_hand (hand_behind h d) ds all.1 m k ∙ stays d d.body h.syntax all.0

-- the file that declares it, whose syntax is at hand
pub record HasSyntax (i : ℕ) (fs : List FileDescriptorProto) (m : Met) : Type 0 where
  pub place : ℕ
  pub own : FileDescriptorProto
  pub at : slice_get fs place ≡ Some own
  pub file : m.declaration.file ≡ i + place
  pub syntax : m.hand.syntax ≡ syntax_type own.syntax

pub has_syntax : (o : Offsets) (i : ℕ) (fs : List FileDescriptorProto) (h : AtHand) (m : Met)
    → Among m (along h (batch_declarations o i fs)) → IsInner m.declaration → HasSyntax i fs m
has_syntax o i [] h m k is = absurd k
has_syntax o i (f ∷ fs) h m k is =
    by (among_both h (file_declarations o i f) rest m k)
    (λ j. has_syntax (past_file o f) (i + 1) fs (hand_after h (file_declarations o i f)) m j is) where
      rest : List Declaration
      rest = batch_declarations (past_file o f) (i + 1) fs

      inner : List Declaration
      inner = inner_declarations o i f

      of_own : (met h (file_declaration [] i f) ≡ m)
          ⊎ Among m (along (hand_behind h (file_declaration [] i f)) (inner_declarations o i f))
          → HasSyntax i (f ∷ fs) m
      of_own (inl same) =
          let no : false ≡ true =
          ap (λ (x : Met). is_some (seen_body x.declaration.body)) same ∙ is in absurd (cc no)
      of_own (inr j) =
          let behind = hand_behind h (file_declaration [] i f) in
          let d = of_along behind (inner_declarations o i f) m j in
          let file = next_file i o (past_file o f) (file_declarations o i f) m.declaration
          (file_next i o f) (contains_there (file_declaration [] i f) (inner_declarations o i f)
          m.declaration (contains_among (inner_declarations o i f) m.declaration d)) in
          record {
            place = 0;
            own = f;
            at = refl;
            file = omega (arith, file);
            syntax = inner_hand behind (inner_declarations o i f) (inner_declared o i f) m j;
          }

      by : Among m (along h (file_declarations o i f))
          ⊎ Among m (along (hand_after h (file_declarations o i f))
          (batch_declarations (past_file o f) (i + 1) fs))
          → (Among m (along (hand_after h (file_declarations o i f))
          (batch_declarations (past_file o f) (i + 1) fs)) → HasSyntax (i + 1) fs m)
          → HasSyntax i (f ∷ fs) m
      by (inl j) later = of_own j
      by (inr j) later =
          let r = later j in
          let file = r.file in
          record {
            place = suc r.place;
            own = r.own;
            at = r.at;
            file = omega (arith, file);
            syntax = r.syntax;
          }
