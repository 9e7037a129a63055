-- The fields of a message stand behind its declaration: what is asked of each field by the message
-- that was declared last is asked of the fields of each message.
use Rattle.std.proofs.Common.{◌+◌, ℕ, ℤ, pos, List, [], ◌∷◌, ◌++◌, Option, Some, None, length}
use Rattle.std.specs.List.{AllByRecursion}
use Rattle.descriptor_records.specs.declared.enums.EnumDescriptorProto.{EnumDescriptorProto}
use Rattle.descriptor_records.specs.declared.field.FieldDescriptorProto.{FieldDescriptorProto}
use Rattle.descriptor_records.specs.declared.file.FileDescriptorProto.{FileDescriptorProto}
use Rattle.descriptor_records.specs.declared.service.ServiceDescriptorProto.{ServiceDescriptorProto}
use Rattle.reflect_scope.specs.Means.{join}
use Rattle.reflect_declarations.specs.declared.offsets.Offsets.{Offsets}
use Rattle.reflect_declarations.specs.Tree.{text_of, MessageParts, Message, message, Messages, no_messages, more_messages}
use Rattle.reflect_declarations.specs.Declarations.{Declaration, Body, of_file, of_message, of_field, of_oneof, of_enum, of_enum_value, of_service, of_method, of_extension, each, entry, one_field, one_oneof, one_value, one_enum, one_method, one_service, one_extension, past_message, past_tree, past_trees, trees_of, tree_declarations, trees_declarations}
use Rattle.reflect_rules.specs.Rules.{parent_of}
use Rattle.reflect_rules.specs.Walks.{oneofs_behind}
use Rattle.linked_view.proofs.Walked.{inner_declarations}

-- neither a message nor a field
abbrev pub IsPlain : Body → Type 0
IsPlain (of_message m) = ⊥
IsPlain (of_field f) = ⊥
IsPlain _ = Unit {0}

abbrev pub ArePlain : List Declaration → Type 0
ArePlain ds = AllByRecursion (λ (d : Declaration). IsPlain d.body) ds

pub plain_both : (a b : List Declaration) → ArePlain a → ArePlain b → ArePlain (a ++ b)
plain_both [] b h k = k
plain_both (d ∷ a) b h k = (h.0, plain_both a b h.1 k)

pub plain_each : {A : Type 0} (one : ℕ → A → List Declaration) → ((k : ℕ) (x : A) → ArePlain (one k x))
    → (k : ℕ) (xs : List A) → ArePlain (each one k xs)
plain_each one h k [] = tt
plain_each one h k (x ∷ xs) = plain_both (one k x) (each one (k + 1) xs) (h k x) (plain_each one h (k + 1) xs)

pub enum_plain : (path : List ℤ) (tag : ℤ) (scope : List ℕ) (file : ℕ) (parent : Option ℕ) (first k : ℕ)
    (e : EnumDescriptorProto) → ArePlain (one_enum path tag scope file parent first k e)
enum_plain path tag scope file parent first k e = (
  tt,
  plain_each (one_value (entry path tag k) scope file (first + k)) (λ j v. (tt, tt)) 0 e.value.items,
)

pub service_plain : (scope : List ℕ) (file first k : ℕ) (s : ServiceDescriptorProto)
    → ArePlain (one_service scope file first k s)
service_plain scope file first k s = (
  tt,
  plain_each (one_method (entry [] (pos 6) k) (join scope (text_of s.name)) file (first + k))
      (λ j m. (tt, tt)) 0 s.method.items,
)

-- by the oneofs and the index of the message
module _ (Q : ℕ → ℕ → FieldDescriptorProto → Type 0) where
  abbrev pub IsIn : ℕ → Declaration → Type 0
  IsIn oneofs d = elim d.body [
    | of_file f ↦ Unit {0}
    | of_message m ↦ Unit {0}
    | of_field f ↦ Q oneofs (parent_of d) f
    | of_oneof o ↦ Unit {0}
    | of_enum e ↦ Unit {0}
    | of_enum_value v ↦ Unit {0}
    | of_service s ↦ Unit {0}
    | of_method m ↦ Unit {0}
    | of_extension x ↦ Unit {0}
  ]

  -- of each field where it is met
  abbrev pub AreIn : ℕ → List Declaration → Type 0
  AreIn oneofs [] = Unit {0}
  AreIn oneofs (d ∷ ds) = IsIn oneofs d × AreIn (oneofs_behind d oneofs) ds

  -- of the fields of a message
  abbrev pub HasFields : Declaration → Type 0
  HasFields d = elim d.body [
    | of_file f ↦ Unit {0}
    | of_message m ↦ AllByRecursion (Q (length m.oneof_decl) d.index) m.field
    | of_field f ↦ Unit {0}
    | of_oneof o ↦ Unit {0}
    | of_enum e ↦ Unit {0}
    | of_enum_value v ↦ Unit {0}
    | of_service s ↦ Unit {0}
    | of_method m ↦ Unit {0}
    | of_extension x ↦ Unit {0}
  ]

  abbrev pub HaveFields : List Declaration → Type 0
  HaveFields ds = AllByRecursion HasFields ds

  abbrev pub oneofs_after : ℕ → List Declaration → ℕ
  oneofs_after k [] = k
  oneofs_after k (d ∷ ds) = oneofs_after (oneofs_behind d k) ds

  pub in_split : (k : ℕ) (a b : List Declaration) → AreIn k (a ++ b)
      → AreIn k a × AreIn (oneofs_after k a) b
  in_split k [] b h = (tt, h)
  in_split k (d ∷ a) b h = let rest = in_split (oneofs_behind d k) a b h.1 in ((h.0, rest.0), rest.1)

  pub in_joined : (k : ℕ) (a b : List Declaration) → AreIn k a → AreIn (oneofs_after k a) b
      → AreIn k (a ++ b)
  in_joined k [] b h i = i
  in_joined k (d ∷ a) b h i = (h.0, in_joined (oneofs_behind d k) a b h.1 i)

  have_split : (a b : List Declaration) → HaveFields (a ++ b) → HaveFields a × HaveFields b
  have_split [] b h = (tt, h)
  have_split (d ∷ a) b h = let rest = have_split a b h.1 in ((h.0, rest.0), rest.1)

  have_joined : (a b : List Declaration) → HaveFields a → HaveFields b → HaveFields (a ++ b)
  have_joined [] b h i = i
  have_joined (d ∷ a) b h i = (h.0, have_joined a b h.1 i)

  plain_in_one : (k : ℕ) (d : Declaration) (b : Body) → IsPlain b → IsIn k (record d { body = b })
  plain_in_one k d (of_message m) h = absurd h
  plain_in_one k d (of_field f) h = absurd h
  plain_in_one k d b h = tt

  plain_in : (k : ℕ) (ds : List Declaration) → ArePlain ds → AreIn k ds
  plain_in k [] h = tt
  plain_in k (d ∷ ds) h = (plain_in_one k d d.body h.0, plain_in (oneofs_behind d k) ds h.1)

  plain_has_one : (d : Declaration) (b : Body) → IsPlain b → HasFields (record d { body = b })
  plain_has_one d (of_message m) h = absurd h
  plain_has_one d (of_field f) h = absurd h
  plain_has_one d b h = tt

  plain_has : (ds : List Declaration) → ArePlain ds → HaveFields ds
  plain_has [] h = tt
  plain_has (d ∷ ds) h = (plain_has_one d d.body h.0, plain_has ds h.1)

  -- the fields of one message
  fields_to : (path : List ℤ) (scope : List ℕ) (file parent k oneofs : ℕ)
      (fs : List FieldDescriptorProto)
      → AreIn oneofs (each (one_field path scope file parent) k fs)
      → AllByRecursion (Q oneofs parent) fs
  fields_to path scope file parent k oneofs [] h = tt
  fields_to path scope file parent k oneofs (f ∷ fs) h =
      (h.0, fields_to path scope file parent (k + 1) oneofs fs h.1)

  fields_from : (path : List ℤ) (scope : List ℕ) (file parent k oneofs : ℕ)
      (fs : List FieldDescriptorProto) → AllByRecursion (Q oneofs parent) fs
      → AreIn oneofs (each (one_field path scope file parent) k fs)
  fields_from path scope file parent k oneofs [] h = tt
  fields_from path scope file parent k oneofs (f ∷ fs) h =
      (h.0, fields_from path scope file parent (k + 1) oneofs fs h.1)

  fields_have : (path : List ℤ) (scope : List ℕ) (file parent k : ℕ) (fs : List FieldDescriptorProto)
      → HaveFields (each (one_field path scope file parent) k fs)
  fields_have path scope file parent k [] = tt
  fields_have path scope file parent k (f ∷ fs) =
      (tt, fields_have path scope file parent (k + 1) fs)

  -- what stands in a message behind its fields and messages
  module _ (path : List ℤ) (file : ℕ) (o : Offsets) (own : MessageParts) (nested : Messages)
      (scope : List ℕ) where
    abbrev full : List ℕ
    full = join scope (text_of own.name)

    abbrev fields : List Declaration
    fields = each (one_field path full file o.messages) 0 own.field

    abbrev inner : List Declaration
    inner = trees_declarations path (pos 3) full file (Some o.messages) 0 (past_message o) nested

    abbrev others : List Declaration
    others =
        each (one_enum path (pos 4) full file (Some o.messages)
        (past_trees (past_message o) nested).enums) 0 own.enum_type
        ++ (each (one_extension path (pos 6) full file (Some o.messages)
        (past_trees (past_message o) nested).extensions) 0 own.extension
        ++ each (one_oneof path full file o.messages) 0 own.oneof_decl)

    others_plain : ArePlain others
    others_plain =
        plain_both _ _ (plain_each (one_enum path (pos 4) full file (Some o.messages)
        (past_trees (past_message o) nested).enums)
        (enum_plain path (pos 4) full file (Some o.messages) (past_trees (past_message o) nested).enums)
        0 own.enum_type)
        (plain_both _ _ (plain_each (one_extension path (pos 6) full file (Some o.messages)
        (past_trees (past_message o) nested).extensions) (λ k x. (tt, tt)) 0 own.extension)
        (plain_each (one_oneof path full file o.messages) (λ k x. (tt, tt)) 0 own.oneof_decl))

  mutual
    tree_to : (path : List ℤ) (scope : List ℕ) (file : ℕ) (parent : Option ℕ) (o : Offsets)
        (k : ℕ) (m : Message) → AreIn k (tree_declarations path scope file parent o m)
        → HaveFields (tree_declarations path scope file parent o m)
    tree_to path scope file parent o k (message own nested) h =
        let n = length own.oneof_decl in
        let fs = fields path file o own nested scope in
        let ms = inner path file o own nested scope in
        let rest = others path file o own nested scope in
        let first = in_split n fs (ms ++ rest) h.1 in
        let second = in_split (oneofs_after n fs) ms rest first.1 in (
          fields_to path (full path file o own nested scope) file o.messages 0 n own.field first.0,
          have_joined fs (ms ++ rest)
              (fields_have path (full path file o own nested scope) file o.messages 0 own.field)
              (have_joined ms rest (trees_to path (pos 3) (full path file o own nested scope) file
              (Some o.messages) 0 (past_message o) (oneofs_after n fs) nested second.0)
              (plain_has rest (others_plain path file o own nested scope))),
        )

    trees_to : (path : List ℤ) (tag : ℤ) (scope : List ℕ) (file : ℕ) (parent : Option ℕ) (i : ℕ)
        (o : Offsets) (k : ℕ) (ms : Messages)
        → AreIn k (trees_declarations path tag scope file parent i o ms)
        → HaveFields (trees_declarations path tag scope file parent i o ms)
    trees_to path tag scope file parent i o k no_messages h = tt
    trees_to path tag scope file parent i o k (more_messages m ms) h =
        let here = tree_declarations (entry path tag i) scope file parent o m in
        let rest = trees_declarations path tag scope file parent (i + 1) (past_tree o m) ms in
        let parts = in_split k here rest h in
        have_joined here rest (tree_to (entry path tag i) scope file parent o k m parts.0)
        (trees_to path tag scope file parent (i + 1) (past_tree o m) (oneofs_after k here) ms parts.1)

  mutual
    tree_from : (path : List ℤ) (scope : List ℕ) (file : ℕ) (parent : Option ℕ) (o : Offsets)
        (k : ℕ) (m : Message) → HaveFields (tree_declarations path scope file parent o m)
        → AreIn k (tree_declarations path scope file parent o m)
    tree_from path scope file parent o k (message own nested) h =
        let n = length own.oneof_decl in
        let fs = fields path file o own nested scope in
        let ms = inner path file o own nested scope in
        let rest = others path file o own nested scope in
        let first = have_split fs (ms ++ rest) h.1 in
        let second = have_split ms rest first.1 in (
          tt,
          in_joined n fs (ms ++ rest)
              (fields_from path (full path file o own nested scope) file o.messages 0 n own.field h.0)
              (in_joined (oneofs_after n fs) ms rest
              (trees_from path (pos 3) (full path file o own nested scope) file (Some o.messages) 0
              (past_message o) (oneofs_after n fs) nested second.0)
              (plain_in (oneofs_after (oneofs_after n fs) ms) rest
              (others_plain path file o own nested scope))),
        )

    trees_from : (path : List ℤ) (tag : ℤ) (scope : List ℕ) (file : ℕ) (parent : Option ℕ) (i : ℕ)
        (o : Offsets) (k : ℕ) (ms : Messages)
        → HaveFields (trees_declarations path tag scope file parent i o ms)
        → AreIn k (trees_declarations path tag scope file parent i o ms)
    trees_from path tag scope file parent i o k no_messages h = tt
    trees_from path tag scope file parent i o k (more_messages m ms) h =
        let here = tree_declarations (entry path tag i) scope file parent o m in
        let rest = trees_declarations path tag scope file parent (i + 1) (past_tree o m) ms in
        let parts = have_split here rest h in
        in_joined k here rest (tree_from (entry path tag i) scope file parent o k m parts.0)
        (trees_from path tag scope file parent (i + 1) (past_tree o m) (oneofs_after k here) ms parts.1)

  module _ (o : Offsets) (file : ℕ) (f : FileDescriptorProto) where
    abbrev trees : List Declaration
    trees = trees_declarations [] (pos 4) (text_of f.package) file None 0 o (trees_of f)

    abbrev outer : List Declaration
    outer =
        each (one_enum [] (pos 5) (text_of f.package) file None (past_trees o (trees_of f)).enums) 0
        f.enum_type.items
        ++ (each (one_service (text_of f.package) file o.services) 0 f.service.items
        ++ each (one_extension [] (pos 7) (text_of f.package) file None
        (past_trees o (trees_of f)).extensions) 0 f.extension.items)

    outer_plain : ArePlain outer
    outer_plain =
        plain_both _ _ (plain_each (one_enum [] (pos 5) (text_of f.package) file None
        (past_trees o (trees_of f)).enums) (enum_plain [] (pos 5) (text_of f.package) file None
        (past_trees o (trees_of f)).enums) 0 f.enum_type.items)
        (plain_both _ _ (plain_each (one_service (text_of f.package) file o.services)
        (service_plain (text_of f.package) file o.services) 0 f.service.items)
        (plain_each (one_extension [] (pos 7) (text_of f.package) file None
        (past_trees o (trees_of f)).extensions) (λ k x. (tt, tt)) 0 f.extension.items))

    pub inner_to : (k : ℕ) → AreIn k (inner_declarations o file f)
        → HaveFields (inner_declarations o file f)
    inner_to k h =
        let parts = in_split k trees outer h in
        have_joined trees outer
        (trees_to [] (pos 4) (text_of f.package) file None 0 o k (trees_of f) parts.0)
        (plain_has outer outer_plain)

    pub inner_from : (k : ℕ) → HaveFields (inner_declarations o file f)
        → AreIn k (inner_declarations o file f)
    inner_from k h =
        let parts = have_split trees outer h in
        in_joined k trees outer
        (trees_from [] (pos 4) (text_of f.package) file None 0 o k (trees_of f) parts.0)
        (plain_in (oneofs_after k trees) outer outer_plain)
