-- Each of the entities of a file stands at a path of its own: so it is of what its content tells of.
use Rattle.std.proofs.Common.{◌≡◌, ◌∙◌, ◌≤◌, ◌+◌, ◌++◌, ◌==◌, ℕ, zero, suc, ℤ, pos, false, List, [], ◌∷◌, map, Some, slice_get, append_assoc, ap, refl, sym, subst, arith}
use Rattle.std.proofs.lemmas.Bool.Decides.{Decides-eqb}
use Rattle.std.proofs.lemmas.List.{append-nil}
use Rattle.std.specs.List.{AllByRecursion}
use Rattle.descriptor_records.specs.Content.{EnumContent, EnumValueContent, ExtensionRangeContent, FieldContent, FileContent, MessageContent, message, MessageContents, more_messages, no_messages, messages_of, MethodContent, OneofContent, ServiceContent, file_view}
use Rattle.descriptor_records.specs.declared.file.FileDescriptorProto.{FileDescriptorProto}
use Rattle.protobuf_model.proofs.Arranged.{all_append}
use Rattle.reflect_declarations.specs.Declarations.{each, entry}
use Rattle.reflect_options.specs.Entities.{Entity, file_entities}
use Rattle.reflect_pool.proofs.Grown.{all_through}
use Rattle.reflect_scope.specs.Means.{join}
use Rattle.settled_records.proofs.Told.{Told, enum_tells, extension_tells, field_tells, file_tells, message_tells, messages_tell, method_tells, oneof_tells, range_tells, service_tells, tail_is, text_in, told, value_tells}
use Rattle.settled_records.proofs.Walk.{file_told}

-- ---- paths
pub same_behind : (base x y : List ℤ) → base ++ x ≡ base ++ y → x ≡ y
same_behind [] x y e = e
same_behind (n ∷ base) x y e = same_behind base x y (tail_is n n (base ++ x) (base ++ y) e)

pub is_longer : (base : List ℤ) (n : ℤ) (rest : List ℤ) → base ≡ base ++ (n ∷ rest) → ⊥
is_longer base n rest e = absurd (cc (same_behind base [] (n ∷ rest) (append-nil base ∙ e)))

pub same_number : (base : List ℤ) (number other place to : ℤ) (rest more : List ℤ) → base ++ (number ∷ place ∷ rest) ≡ base ++ (other ∷ to ∷ more) → number ≡ other
same_number base number other place to rest more e = by (same_behind base (number ∷ place ∷ rest) (other ∷ to ∷ more) e) where
  by : number ∷ place ∷ rest ≡ other ∷ to ∷ more → number ≡ other
  by is = cc is

pub same_place : (base : List ℤ) (number other : ℤ) (k j : ℕ) (rest more : List ℤ) → base ++ (number ∷ pos k ∷ rest) ≡ base ++ (other ∷ pos j ∷ more) → k ≡ j
same_place base number other k j rest more e = by (same_behind base (number ∷ pos k ∷ rest) (other ∷ pos j ∷ more) e) where
  by : number ∷ pos k ∷ rest ≡ other ∷ pos j ∷ more → k ≡ j
  by is = cc is

-- ---- where entities stand
-- at a path or below it, and below it
abbrev pub Under : List ℤ → Told → Type 0
Under path t = (rest : List ℤ) × (t.path ≡ path ++ rest)

abbrev pub Beyond : List ℤ → Told → Type 0
Beyond path t = (tag : ℤ) × (k : ℕ) × (rest : List ℤ) × (t.path ≡ path ++ (tag ∷ pos k ∷ rest))

-- in a list, from a place on
abbrev pub From : List ℤ → ℤ → ℕ → Told → Type 0
From path tag k t = (j : ℕ) × (rest : List ℤ) × (k ≤ j) × (t.path ≡ path ++ (tag ∷ pos j ∷ rest))

-- ---- apart
abbrev pub Apart : Told → Told → Type 0
Apart t u = t.path ≡ u.path → ⊥

abbrev AllApart : List Told → List Told → Type 0
AllApart ts us = AllByRecursion (λ (t : Told). AllByRecursion (Apart t) us) ts

-- each from those behind it
abbrev pub OnOwnPaths : List Told → Type 0
OnOwnPaths [] = Unit {0}
OnOwnPaths (t ∷ ts) = AllByRecursion (Apart t) ts × OnOwnPaths ts

together : (ts us : List Told) → OnOwnPaths ts → OnOwnPaths us → AllApart ts us → OnOwnPaths (ts ++ us)
together [] us a b apart = b
together (t ∷ ts) us a b apart = (all_append (Apart t) ts us a.0 apart.0, together ts us a.1 b apart.1)

beside : (ts us vs : List Told) → AllApart ts us → AllApart ts vs → AllApart ts (us ++ vs)
beside [] us vs a b = tt
beside (t ∷ ts) us vs a b = (all_append (Apart t) us vs a.0 b.0, beside ts us vs a.1 b.1)

all_apart : (P R : Told → Type 0) → ((t u : Told) → P t → R u → Apart t u) → (ts us : List Told) → AllByRecursion P ts → AllByRecursion R us → AllApart ts us
all_apart P R h [] us a b = tt
all_apart P R h (t ∷ ts) us a b = (all_through R (Apart t) us (λ (u : Told) (r : R u). h t u a.0 r) b, all_apart P R h ts us a.1 b)

-- ---- those of one record, and those of a list from a place on
pub record Whole (path : List ℤ) (ts : List Told) : Type 0 where
  pub under : AllByRecursion (Under path) ts
  pub own : OnOwnPaths ts

pub record Group (path : List ℤ) (tag : ℤ) (k : ℕ) (ts : List Told) : Type 0 where
  pub from : AllByRecursion (From path tag k) ts
  pub own : OnOwnPaths ts

-- a record's own, and those of its parts
own_whole : (t : Told) (ts : List Told) → AllByRecursion (Beyond t.path) ts → OnOwnPaths ts → Whole t.path (t ∷ ts)
own_whole t ts beyond own = record {
  under = (([], sym (append-nil t.path)), all_through (Beyond t.path) (Under t.path) ts (λ (u : Told) (b : Beyond t.path u). (b.0 ∷ pos b.1 ∷ b.2, b.3)) beyond);
  own = (all_through (Beyond t.path) (Apart t) ts (λ (u : Told) (b : Beyond t.path u) (e : t.path ≡ u.path). is_longer t.path b.0 (pos b.1 ∷ b.2) (e ∙ b.3)) beyond, own);
}

pub single_whole : (t : Told) → Whole t.path (t ∷ [])
single_whole t = own_whole t [] tt tt

pub in_entry : (base : List ℤ) (tag : ℤ) (k : ℕ) (t : Told) → (u : Under (entry base tag k) t) → t.path ≡ base ++ (tag ∷ pos k ∷ u.0)
in_entry base tag k t u = u.1 ∙ append_assoc base (tag ∷ pos k ∷ []) u.0

one_more : (base : List ℤ) (tag : ℤ) (k : ℕ) (ts us : List Told) → Whole (entry base tag k) ts → Group base tag (k + 1) us → Group base tag k (ts ++ us)
one_more base tag k ts us whole group = record {
  from = all_append (From base tag k) ts us (all_through (Under (entry base tag k)) (From base tag k) ts (λ (t : Told) (u : Under (entry base tag k) t). (k, u.0, omega arith, in_entry base tag k t u)) whole.under)
      (all_through (From base tag (k + 1)) (From base tag k) us (λ (u : Told) (f : From base tag (k + 1) u). (f.0, f.1, (let far = f.2 in omega arith), f.3)) group.from);
  own = together ts us whole.own group.own (all_apart (Under (entry base tag k)) (From base tag (k + 1)) apart ts us whole.under group.from);
}
  where
    apart : (t u : Told) → Under (entry base tag k) t → From base tag (k + 1) u → Apart t u
    apart t u under from e =
        let same : k ≡ from.0 = same_place base tag tag k from.0 under.0 from.1 (sym (in_entry base tag k t under) ∙ e ∙ from.3) in
        let far = from.2 in
        omega arith

pub each_group : {A : Type 0} (base : List ℤ) (tag : ℤ) (one : ℕ → A → List Told) → ((k : ℕ) (x : A) → Whole (entry base tag k) (one k x)) → (k : ℕ) (xs : List A)
    → Group base tag k (each one k xs)
each_group base tag one whole k [] = record { from = tt; own = tt }
each_group base tag one whole k (x ∷ xs) = one_more base tag k (one k x) (each one (k + 1) xs) (whole k x) (each_group base tag one whole (k + 1) xs)

group_beyond : (base : List ℤ) (tag : ℤ) (k : ℕ) (ts : List Told) → Group base tag k ts → AllByRecursion (Beyond base) ts
group_beyond base tag k ts group = all_through (From base tag k) (Beyond base) ts (λ (t : Told) (f : From base tag k t). (tag, f.0, f.1, f.3)) group.from

-- lists of two numbers
abbrev number_of : ℤ → ℕ
number_of (pos n) = n
number_of z = 0

groups_apart : (base : List ℤ) (a b : ℕ) → (a == b) ≡ false → (ts us : List Told) → Group base (pos a) 0 ts → Group base (pos b) 0 us → AllApart ts us
groups_apart base a b other ts us one two = all_apart (From base (pos a) 0) (From base (pos b) 0) apart ts us one.from two.from where
  apart : (t u : Told) → From base (pos a) 0 t → From base (pos b) 0 u → Apart t u
  apart t u f g e =
      let same : pos a ≡ pos b = same_number base (pos a) (pos b) (pos f.0) (pos g.0) f.1 g.1 (sym f.3 ∙ e ∙ g.3) in
      let number : a ≡ b = λ i. number_of (same i) in
      cc (sym ((Decides-eqb a b).1 number) ∙ other)

-- ---- records
pub field_whole : (path : List ℤ) (scope : List ℕ) (k : ℕ) (f : FieldContent) → Whole (entry path (pos 2) k) (field_tells path scope k f)
field_whole path scope k f = single_whole _

pub oneof_whole : (path : List ℤ) (scope : List ℕ) (k : ℕ) (x : OneofContent) → Whole (entry path (pos 8) k) (oneof_tells path scope k x)
oneof_whole path scope k x = single_whole _

pub value_whole : (path : List ℤ) (scope : List ℕ) (k : ℕ) (v : EnumValueContent) → Whole (entry path (pos 2) k) (value_tells path scope k v)
value_whole path scope k v = single_whole _

pub method_whole : (path : List ℤ) (scope : List ℕ) (k : ℕ) (m : MethodContent) → Whole (entry path (pos 2) k) (method_tells path scope k m)
method_whole path scope k m = single_whole _

pub range_whole : (path : List ℤ) (name : List ℕ) (k : ℕ) (r : ExtensionRangeContent) → Whole (entry path (pos 5) k) (range_tells path name k r)
range_whole path name k r = single_whole _

pub extension_whole : (path : List ℤ) (tag : ℤ) (scope : List ℕ) (k : ℕ) (x : FieldContent) → Whole (entry path tag k) (extension_tells path tag scope k x)
extension_whole path tag scope k x = single_whole _

pub enum_whole : (path : List ℤ) (tag : ℤ) (scope : List ℕ) (k : ℕ) (e : EnumContent) → Whole (entry path tag k) (enum_tells path tag scope k e)
enum_whole path tag scope k e =
    let at = entry path tag k in
    let values = each_group at (pos 2) (value_tells at scope) (value_whole at scope) 0 e.value in
    own_whole _ _ (group_beyond at (pos 2) 0 _ values) values.own

pub service_whole : (scope : List ℕ) (k : ℕ) (s : ServiceContent) → Whole (entry [] (pos 6) k) (service_tells scope k s)
service_whole scope k s =
    let at = entry [] (pos 6) k in
    let name = join scope (text_in s.name) in
    let methods = each_group at (pos 2) (method_tells at name) (method_whole at name) 0 s.method in
    own_whole _ _ (group_beyond at (pos 2) 0 _ methods) methods.own

-- ---- messages
mutual
  pub message_whole : (path : List ℤ) (scope : List ℕ) (m : MessageContent) → Whole path (message_tells path scope m)
  message_whole path scope (message name fields extensions nested enums ranges oneofs options reserved names) =
      let n = join scope (text_in name) in
      let r = each_group path (pos 5) (range_tells path n) (range_whole path n) 0 ranges in
      let f = each_group path (pos 2) (field_tells path n) (field_whole path n) 0 fields in
      let m = messages_group path (pos 3) n 0 nested in
      let e = each_group path (pos 4) (enum_tells path (pos 4) n) (enum_whole path (pos 4) n) 0 enums in
      let x = each_group path (pos 6) (extension_tells path (pos 6) n) (extension_whole path (pos 6) n) 0 extensions in
      let o = each_group path (pos 8) (oneof_tells path n) (oneof_whole path n) 0 oneofs in
      let xo = together _ _ x.own o.own (groups_apart path 6 8 refl _ _ x o) in
      let eo = together _ _ e.own xo (beside _ _ _ (groups_apart path 4 6 refl _ _ e x) (groups_apart path 4 8 refl _ _ e o)) in
      let mo = together _ _ m.own eo (beside _ _ _ (groups_apart path 3 4 refl _ _ m e) (beside _ _ _ (groups_apart path 3 6 refl _ _ m x) (groups_apart path 3 8 refl _ _ m o))) in
      let fo = together _ _ f.own mo
      (beside _ _ _ (groups_apart path 2 3 refl _ _ f m) (beside _ _ _ (groups_apart path 2 4 refl _ _ f e) (beside _ _ _ (groups_apart path 2 6 refl _ _ f x) (groups_apart path 2 8 refl _ _ f o)))) in
      let ro = together _ _ r.own fo
      (beside _ _ _ (groups_apart path 5 2 refl _ _ r f) (beside _ _ _ (groups_apart path 5 3 refl _ _ r m) (beside _ _ _ (groups_apart path 5 4 refl _ _ r e)
      (beside _ _ _ (groups_apart path 5 6 refl _ _ r x) (groups_apart path 5 8 refl _ _ r o))))) in
      own_whole _ _
      (all_append (Beyond path) _ _ (group_beyond path (pos 5) 0 _ r) (all_append (Beyond path) _ _ (group_beyond path (pos 2) 0 _ f) (all_append (Beyond path) _ _ (group_beyond path (pos 3) 0 _ m)
      (all_append (Beyond path) _ _ (group_beyond path (pos 4) 0 _ e) (all_append (Beyond path) _ _ (group_beyond path (pos 6) 0 _ x) (group_beyond path (pos 8) 0 _ o))))))
      ro

  pub messages_group : (path : List ℤ) (tag : ℤ) (scope : List ℕ) (k : ℕ) (ms : MessageContents) → Group path tag k (messages_tell path tag scope k ms)
  messages_group path tag scope k no_messages = record { from = tt; own = tt }
  messages_group path tag scope k (more_messages m ms) =
      one_more path tag k (message_tells (entry path tag k) scope m) (messages_tell path tag scope (k + 1) ms) (message_whole (entry path tag k) scope m) (messages_group path tag scope (k + 1) ms)

-- ---- files
file_whole : (f : FileContent) → Whole [] (file_tells f)
file_whole f =
    let n = text_in f.package_name in
    let m = messages_group [] (pos 4) n 0 (messages_of f.message_type) in
    let e = each_group [] (pos 5) (enum_tells [] (pos 5) n) (enum_whole [] (pos 5) n) 0 f.enum_type in
    let s = each_group [] (pos 6) (service_tells n) (service_whole n) 0 f.service in
    let x = each_group [] (pos 7) (extension_tells [] (pos 7) n) (extension_whole [] (pos 7) n) 0 f.extension in
    let sx = together _ _ s.own x.own (groups_apart [] 6 7 refl _ _ s x) in
    let ex = together _ _ e.own sx (beside _ _ _ (groups_apart [] 5 6 refl _ _ e s) (groups_apart [] 5 7 refl _ _ e x)) in
    let mx = together _ _ m.own ex (beside _ _ _ (groups_apart [] 4 5 refl _ _ m e) (beside _ _ _ (groups_apart [] 4 6 refl _ _ m s) (groups_apart [] 4 7 refl _ _ m x))) in
    own_whole _ _
    (all_append (Beyond []) _ _ (group_beyond [] (pos 4) 0 _ m) (all_append (Beyond []) _ _ (group_beyond [] (pos 5) 0 _ e) (all_append (Beyond []) _ _ (group_beyond [] (pos 6) 0 _ s) (group_beyond [] (pos 7) 0 _ x))))
    mx

-- ---- entities
at_place : (t : Told) (cs : List Entity) (j : ℕ) (d : Entity) → AllByRecursion (Apart t) (map told cs) → slice_get cs j ≡ Some d → t.path ≡ d.path → ⊥
at_place t [] j d apart there same = absurd (cc there)
at_place t (c ∷ cs) zero d apart there same = let is : c ≡ d = cc there in apart.0 (same ∙ ap (λ (x : Entity). x.path) (sym is))
at_place t (c ∷ cs) (suc j) d apart there same = at_place t cs j d apart.1 there same

one_place : (cs : List Entity) → OnOwnPaths (map told cs) → (k j : ℕ) (c d : Entity) → slice_get cs k ≡ Some c → slice_get cs j ≡ Some d → c.path ≡ d.path → k ≡ j
one_place [] own k j c d here there same = absurd (cc here)
one_place (e ∷ cs) own zero zero c d here there same = refl
one_place (e ∷ cs) own zero (suc j) c d here there same = let is : e ≡ c = cc here in absurd (at_place (told e) cs j d own.0 there (ap (λ (x : Entity). x.path) is ∙ same))
one_place (e ∷ cs) own (suc k) zero c d here there same = let is : e ≡ d = cc there in absurd (at_place (told e) cs k c own.0 here (ap (λ (x : Entity). x.path) is ∙ sym same))
one_place (e ∷ cs) own (suc k) (suc j) c d here there same = ap suc (one_place cs own.1 k j c d here there same)

pub entities_apart : (i : ℕ) (f : FileDescriptorProto) → OnOwnPaths (map told (file_entities i f))
entities_apart i f = subst OnOwnPaths (sym (file_told i f)) (file_whole (file_view f)).own

pub one_at_a_path : (i k j : ℕ) (f : FileDescriptorProto) (c d : Entity) → slice_get (file_entities i f) k ≡ Some c → slice_get (file_entities i f) j ≡ Some d → c.path ≡ d.path → k ≡ j
one_at_a_path i k j f = one_place (file_entities i f) (entities_apart i f) k j
