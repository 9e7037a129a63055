-- The pass over numbers finds nothing wrong with a batch exactly where its declarations meet the
-- rules.
use Rattle.std.proofs.Common.{◌≡◌, ◌∙◌, ◌+◌, ◌≤ℤ◌, ◌<ℤ◌, ℕ, ℤ, pos, Bool, true, false, List, [], ◌∷◌, ◌++◌, Option, Some, None, is_some, String, Global, string_bytes, bytes_eq, codes, unwrap_or, map, length, ap, sym, subst, refl}
use Rattle.std.specs.Prelude.{IsPermutation}
use Rattle.std.specs.List.{Contains, AllByRecursion}
use Rattle.std.proofs.lemmas.List.{length-map}
use Rattle.std.proofs.lemmas.List.Elements.{All-contains, All-from_recursion}
use Rattle.std.proofs.lemmas.List.Sorted.{Contains-permutation, IsPermutation-sym}
use Rattle.descriptor_records.specs.Content.{ExtensionRangeContent, oneof_view, text_view, field_view, extension_range_view, file_view}
use Rattle.descriptor_records.specs.declared.field.FieldDescriptorProto.{FieldDescriptorProto}
use Rattle.descriptor_records.specs.declared.file.FileDescriptorProto.{FileDescriptorProto}
use Rattle.descriptor_records.specs.declared.message.ReservedRange.{ReservedRange}
use Rattle.reflect_declarations.specs.declared.offsets.Offsets.{Offsets}
use Rattle.reflect_declarations.specs.Tree.{MessageParts}
use Rattle.reflect_declarations.specs.Declarations.{Declaration, Body, of_file, of_message, of_field, of_extension, file_declarations, past_file}
use Rattle.reflect_declarations.specs.Batches.{batch_declarations}
use Rattle.reflect_faults.specs.Faults.{Fault}
use Rattle.reflect_names.specs.Names.{Places}
use Rattle.reflect_tables.specs.Ranges.{Range, IsRangeOf}
use Rattle.reflect_tables.specs.Ranges as pool
use Rattle.reflect_index.specs.OfDeclarations.{AreDeclared}
use Rattle.reflect_rules.specs.TypesSay.{TypesSay}
use Rattle.reflect_rules.specs.RulePass.{FaultsAlong}
use Rattle.reflect_rules.specs.Rules.{Values, number_of, FaultsOf}
use Rattle.reflect_rules.specs.Walks.{Facts, Place, place_behind, is_proto3_of, proto3_behind, oneofs_behind}
use Rattle.schema_view.specs.Files.{text_of, IsThere, is_proto3}
use Rattle.schema_view.specs.Declarations as view
use Rattle.schema_view.specs.Rules.{IsIn, HasOneof, HasBounds}
use Rattle.schema_view.proofs.Lists.{contains_map, contains_map_cases}
use Rattle.linked_view.specs.Complete.{IsComplete}
use Rattle.linked_view.specs.Ruled.{IsRuled, IsRangedMessage, IsRanged, IsTyped, IsPlacedField, TellsOf, AreMet}
use Rattle.linked_view.proofs.Completes.{IsCompleteBody}
use Rattle.linked_view.proofs.Faults.{none_both, both_none}
use Rattle.linked_view.proofs.Messages as fields
use Rattle.linked_view.proofs.Messages.{AreIn, HasFields, HaveFields, oneofs_after, in_split, in_joined, inner_to, inner_from}
use Rattle.linked_view.proofs.Named.{in_all, all_in, all_split, all_joined, inner_declared, content_to, content_from}
use Rattle.linked_view.proofs.Ruled.{IsDecided, IsTypedBody, IsRuledBody, clean_only, clean_to, clean_from}
use Rattle.linked_view.proofs.Shapes.{IsTypedField}
use Rattle.linked_view.proofs.Walked.{Seen, seen_body, facts_in, inner_declarations}

-- what is asked of each declaration, by what is behind those before it
abbrev OwnAlong : Bool → List Declaration → Type 0
OwnAlong proto3 [] = Unit {0}
OwnAlong proto3 (d ∷ ds) = IsRuledBody proto3 (seen_body d.body) × OwnAlong (proto3_behind d proto3) ds

abbrev pub AreComplete : List Declaration → Type 0
AreComplete ds = AllByRecursion (λ (d : Declaration). IsCompleteBody (seen_body d.body)) ds

abbrev AreTyped : List Declaration → Type 0
AreTyped ds = AllByRecursion (λ (d : Declaration). IsTypedBody d.body) ds

module _ (g : Facts) (values : Values) (at : ℕ → Places) where
  pub record AreClean (p : Place) (ds : List Declaration) : Type 0 where
    pub own : OwnAlong p.is_proto3 ds
    pub placed : AreIn (IsPlacedField g.types) p.oneofs ds
    pub met : AreMet g values p ds

  along_to : (p : Place) (ds : List Declaration) (xs : List Fault) → AreComplete ds → AreTyped ds
      → FaultsAlong g values at p ds xs → xs ≡ [] → AreClean p ds
  along_to p [] xs complete typed h none = record { own = tt; placed = tt; met = tt }
  along_to p (d ∷ ds) xs complete typed (ys, zs, here, rest, is) none =
      let parts = none_both ys zs (sym is ∙ none) in
      let clean = clean_to g values p (at d.file) d complete.0 typed.0
      (subst (FaultsOf g values p (at d.file) d) parts.0 here) in
      let later = along_to (place_behind p d) ds zs complete.1 typed.1 rest parts.1 in
      record {
        own = (clean.own, later.own);
        placed = (clean.placed, later.placed);
        met = (clean.met, later.met);
      }

  along_from : (p : Place) (ds : List Declaration) → AreTyped ds → AreClean p ds
      → FaultsAlong g values at p ds []
  along_from p [] typed h = refl
  along_from p (d ∷ ds) typed h = (
    [],
    [],
    clean_from g values p (at d.file) d typed.0
        (record { own = h.own.0; placed = h.placed.0; met = h.met.0 }),
    along_from (place_behind p d) ds typed.1
        (record { own = h.own.1; placed = h.placed.1; met = h.met.1 }),
    refl,
  )

  along_only : IsDecided values → (p : Place) (ds : List Declaration) (xs : List Fault)
      → AreTyped ds → AreClean p ds → FaultsAlong g values at p ds xs → xs ≡ []
  along_only decided p [] xs typed h is = is
  along_only decided p (d ∷ ds) xs typed h (ys, zs, here, rest, is) =
      is ∙ both_none ys zs
      (clean_only g values p (at d.file) d decided typed.0
      (record { own = h.own.0; placed = h.placed.0; met = h.met.0 }) ys here)
      (along_only decided (place_behind p d) ds zs typed.1
      (record { own = h.own.1; placed = h.placed.1; met = h.met.1 }) rest)

abbrev proto3_after : Bool → List Declaration → Bool
proto3_after b [] = b
proto3_after b (d ∷ ds) = proto3_after (proto3_behind d b) ds

own_split : (b : Bool) (xs ys : List Declaration) → OwnAlong b (xs ++ ys)
    → OwnAlong b xs × OwnAlong (proto3_after b xs) ys
own_split b [] ys h = (tt, h)
own_split b (d ∷ xs) ys h =
    let rest = own_split (proto3_behind d b) xs ys h.1 in ((h.0, rest.0), rest.1)

own_joined : (b : Bool) (xs ys : List Declaration) → OwnAlong b xs → OwnAlong (proto3_after b xs) ys
    → OwnAlong b (xs ++ ys)
own_joined b [] ys h k = k
own_joined b (d ∷ xs) ys h k = (h.0, own_joined (proto3_behind d b) xs ys h.1 k)

-- only a file changes the syntax
proto3_same : (d : Declaration) (body : Body) (b : Bool) → is_some (seen_body body) ≡ true
    → proto3_behind (record d { body = body }) b ≡ b
proto3_same d (of_file f) b e = absurd (cc e)
proto3_same d body b e = refl

abbrev AreDeclaredHere : List Declaration → Type 0
AreDeclaredHere ds = AllByRecursion (λ (d : Declaration). is_some (seen_body d.body) ≡ true) ds

own_to : (b : Bool) (ds : List Declaration) → AreDeclaredHere ds → OwnAlong b ds
    → AllByRecursion (λ (d : Declaration). IsRuledBody b (seen_body d.body)) ds
own_to b [] some h = tt
own_to b (d ∷ ds) some h = (
  h.0,
  own_to b ds some.1 (subst (λ c. OwnAlong c ds) (proto3_same d d.body b some.0) h.1),
)

own_from : (b : Bool) (ds : List Declaration) → AreDeclaredHere ds
    → AllByRecursion (λ (d : Declaration). IsRuledBody b (seen_body d.body)) ds → OwnAlong b ds
own_from b [] some h = tt
own_from b (d ∷ ds) some h = (
  h.0,
  subst (λ c. OwnAlong c ds) (sym (proto3_same d d.body b some.0)) (own_from b ds some.1 h.1),
)

syntax_same : (o : Option (String Global)) → bytes_eq (text_of (text_view o))
    (codes "proto3") ≡ elim o as (λ _. Bool)
    [ None ↦ false | Some s ↦ bytes_eq (string_bytes s) (codes "proto3") ]
syntax_same None = refl
syntax_same (Some s) = refl

abbrev OnContent : (Bool → view.Body → Type 0) → FileDescriptorProto → Type 0
OnContent P f = AllByRecursion (λ (v : view.Declaration). P (is_proto3 (file_view f)) v.body)
    (view.declarations (file_view f))

own_batch_to : (b : Bool) (o : Offsets) (i : ℕ) (fs : List FileDescriptorProto)
    → OwnAlong b (batch_declarations o i fs) → AllByRecursion (OnContent IsRuled) fs
own_batch_to b o i [] h = tt
own_batch_to b o i (f ∷ fs) h =
    let parts = own_split b (file_declarations o i f) (batch_declarations (past_file o f) (i + 1) fs) h in
    let inner = inner_declarations o i f in
    let proto3 = is_proto3_of f in
    let own = own_to proto3 inner (inner_declared o i f) parts.0.1 in
    let here = content_to o i f (λ (s : Seen). IsRuledBody proto3 s.1) own in (
      subst (λ c. AllByRecursion (λ (v : view.Declaration). IsRuled c v.body)
          (view.declarations (file_view f))) (sym (syntax_same f.syntax)) here,
      own_batch_to (proto3_after b (file_declarations o i f)) (past_file o f) (i + 1) fs parts.1,
    )

own_batch_from : (b : Bool) (o : Offsets) (i : ℕ) (fs : List FileDescriptorProto)
    → AllByRecursion (OnContent IsRuled) fs → OwnAlong b (batch_declarations o i fs)
own_batch_from b o i [] h = tt
own_batch_from b o i (f ∷ fs) h =
    let inner = inner_declarations o i f in
    let proto3 = is_proto3_of f in
    let here = subst (λ c. AllByRecursion (λ (v : view.Declaration). IsRuled c v.body)
    (view.declarations (file_view f))) (syntax_same f.syntax) h.0 in
    let own = own_from proto3 inner (inner_declared o i f)
    (content_from o i f (λ (s : Seen). IsRuledBody proto3 s.1) here) in
    own_joined b (file_declarations o i f) (batch_declarations (past_file o f) (i + 1) fs) (tt, own)
    (own_batch_from (proto3_after b (file_declarations o i f)) (past_file o f) (i + 1) fs h.1)

-- ranges of the types are those of the declaration
pub range_in : (n : ℤ) (start end : Option ℤ) → IsIn n (record { start = start; end = end })
    → pool.IsIn n (unwrap_or start (pos 0), unwrap_or end (pos 0))
range_in n start end (s, e, is, are, low, high) = (
  subst (λ o. unwrap_or o (pos 0) ≤ℤ n) (sym is) low,
  subst (λ o. n <ℤ unwrap_or o (pos 0)) (sym are) high,
)

pub in_range : (n : ℤ) (start end : Option ℤ) → IsThere start × IsThere end
    → pool.IsIn n (unwrap_or start (pos 0), unwrap_or end (pos 0))
    → IsIn n (record { start = start; end = end })
in_range n start end ((s, is), (e, are)) h = (
  s,
  e,
  is,
  are,
  subst (λ o. unwrap_or o (pos 0) ≤ℤ n) is h.0,
  subst (λ o. n <ℤ unwrap_or o (pos 0)) are h.1,
)

numbered : (f : FieldDescriptorProto) (n : ℤ) → f.number ≡ Some n → number_of f ≡ n
numbered f n e = ap (λ o. unwrap_or o (pos 0)) e

field_of : (fs : List FieldDescriptorProto) (x : view.FieldFacts)
    → Contains (map view.facts_of (map field_view fs)) x
    → (f : FieldDescriptorProto) × Contains fs f × (view.facts_of (field_view f) ≡ x)
field_of fs x h =
    let c = contains_map_cases view.facts_of (map field_view fs) x h in
    let f = contains_map_cases field_view fs c.0 c.1 in
    (f.0, f.1, ap view.facts_of f.2 ∙ c.2)

-- a number that no reserved range of a record has is in none of those that are kept of it
pub none_reserved : (xs : List ReservedRange) (rs : List Range) (n : ℤ)
    → IsPermutation (map pool.reserved_range xs) rs
    → AllByRecursion (λ r. HasBounds (view.reserved_range r)) xs
    → ((r : ReservedRange) → Contains xs r → IsIn n (view.reserved_range r) → ⊥)
    → IsRangeOf rs n None
none_reserved xs rs n same bounds none =
    All-from_recursion (λ q. pool.IsIn n q → ⊥) rs
    (all_in (λ q. pool.IsIn n q → ⊥) rs (λ q k is.
    let back = Contains-permutation rs (map pool.reserved_range xs) q
    (IsPermutation-sym (map pool.reserved_range xs) rs same) k in
    let r = contains_map_cases pool.reserved_range xs q back in
    let there = in_all (λ (x : ReservedRange). HasBounds (view.reserved_range x)) xs bounds r.0 r.1 in
    none r.0 r.1 (in_range n r.0.start r.0.end there (subst (pool.IsIn n) (sym r.2) is))))

module _ (types : TypesSay) (i : ℕ) (m : MessageParts) (told_of : AreDeclared m (record {
  reserved = types.reserved i;
  extensions = types.extensions i;
  is_entry = types.is_entry i;
})) where
  abbrev Placed : FieldDescriptorProto → Type 0
  Placed f = IsPlacedField types (length m.oneof_decl) i f

  oneofs_there : (fs : List FieldDescriptorProto) → AllByRecursion Placed fs
      → AllByRecursion (λ (x : view.FieldFacts).
      HasOneof (length (map oneof_view m.oneof_decl)) x.oneof)
      (map view.facts_of (map field_view fs))
  oneofs_there [] h = tt
  oneofs_there (f ∷ fs) h = (
    subst (λ n. HasOneof n f.oneof_index)
        (sym (length-map m.oneof_decl oneof_view)) h.0.oneof,
    oneofs_there fs h.1,
  )

  ranged_to : AllByRecursion Placed m.field → IsRangedMessage (facts_in m)
  ranged_to h = record {
    unreserved = λ x n r j e k is.
        let f = field_of m.field x j in
        let number : f.0.number ≡ Some n = ap (λ (y : view.FieldFacts). y.number) f.2 ∙ e in
        let there = Contains-permutation (map pool.reserved_range m.reserved_range) (types.reserved i)
        (pool.reserved_range r) told_of.reserved
        (contains_map pool.reserved_range m.reserved_range r k) in
        let out = All-contains (λ q. pool.IsIn (number_of f.0) q → ⊥) (types.reserved i)
        (pool.reserved_range r) (in_all Placed m.field h f.0 f.1).unreserved there in
        out (subst (λ z. pool.IsIn z (pool.reserved_range r)) (sym (numbered f.0 n number))
        (range_in n r.start r.end is));
    no_extension = λ x n c j e k is.
        let f = field_of m.field x j in
        let number : f.0.number ≡ Some n = ap (λ (y : view.FieldFacts). y.number) f.2 ∙ e in
        let r = contains_map_cases extension_range_view m.extension_range c k in
        let is' : IsIn n (view.extension_range (extension_range_view r.0)) =
        subst (λ q. IsIn n (view.extension_range q)) (sym r.2) is in
        let there = Contains-permutation (map pool.extension_range m.extension_range)
        (types.extensions i) (pool.extension_range r.0) told_of.extensions
        (contains_map pool.extension_range m.extension_range r.0 r.1) in
        let out = All-contains (λ q. pool.IsIn (number_of f.0) q → ⊥) (types.extensions i)
        (pool.extension_range r.0) (in_all Placed m.field h f.0 f.1).no_extension there in
        out (subst (λ z. pool.IsIn z (pool.extension_range r.0)) (sym (numbered f.0 n number))
        (range_in n r.0.start r.0.end is'));
    oneofs = oneofs_there m.field h;
  }

  -- back, where bounds and numbers are there
  module _ (complete : IsComplete (view.of_message (facts_in m)))
      (numbers : AllByRecursion (λ (f : FieldDescriptorProto). IsThere f.number) m.field)
      (h : IsRangedMessage (facts_in m)) where
    oneof_at : (fs : List FieldDescriptorProto) → AllByRecursion (λ (x : view.FieldFacts).
        HasOneof (length (map oneof_view m.oneof_decl)) x.oneof)
        (map view.facts_of (map field_view fs))
        → AllByRecursion (λ (f : FieldDescriptorProto). HasOneof (length m.oneof_decl) f.oneof_index) fs
    oneof_at [] all = tt
    oneof_at (f ∷ fs) all = (
      subst (λ n. HasOneof n f.oneof_index)
          (length-map m.oneof_decl oneof_view) all.0,
      oneof_at fs all.1,
    )

    facts_there : (f : FieldDescriptorProto) → Contains m.field f
        → Contains (map view.facts_of (map field_view m.field)) (view.facts_of (field_view f))
    facts_there f j = contains_map view.facts_of (map field_view m.field) (field_view f)
        (contains_map field_view m.field f j)

    number_at : (f : FieldDescriptorProto) → Contains m.field f → f.number ≡ Some (number_of f)
    number_at f j =
        let z = in_all (λ (x : FieldDescriptorProto). IsThere x.number) m.field numbers f j in
        z.1 ∙ ap Some (sym (numbered f z.0 z.1))

    out_of_reserved : (f : FieldDescriptorProto) → Contains m.field f
        → IsRangeOf (types.reserved i) (number_of f) None
    out_of_reserved f j =
        none_reserved m.reserved_range (types.reserved i) (number_of f) told_of.reserved complete.2
        (λ r k is. h.unreserved (view.facts_of (field_view f)) (number_of f) r (facts_there f j)
        (number_at f j) k is)

    out_of_extensions : (f : FieldDescriptorProto) → Contains m.field f
        → IsRangeOf (types.extensions i) (number_of f) None
    out_of_extensions f j =
        All-from_recursion (λ q. pool.IsIn (number_of f) q → ⊥) (types.extensions i)
        (all_in (λ q. pool.IsIn (number_of f) q → ⊥) (types.extensions i) (λ q k is.
        let back = Contains-permutation (types.extensions i)
        (map pool.extension_range m.extension_range) q
        (IsPermutation-sym (map pool.extension_range m.extension_range) (types.extensions i)
        told_of.extensions) k in
        let r = contains_map_cases pool.extension_range m.extension_range q back in
        let bounds = in_all (λ (x : ExtensionRangeContent). HasBounds (view.extension_range x))
        (map extension_range_view m.extension_range) complete.1 (extension_range_view r.0)
        (contains_map extension_range_view m.extension_range r.0 r.1) in
        h.no_extension (view.facts_of (field_view f)) (number_of f) (extension_range_view r.0)
        (facts_there f j) (number_at f j) (contains_map extension_range_view m.extension_range r.0 r.1)
        (in_range (number_of f) r.0.start r.0.end bounds
        (subst (pool.IsIn (number_of f)) (sym r.2) is))))

    ranged_from : AllByRecursion Placed m.field
    ranged_from =
        let oneofs = oneof_at m.field h.oneofs in
        all_in Placed m.field (λ f j. record {
          unreserved = out_of_reserved f j;
          no_extension = out_of_extensions f j;
          oneof = in_all (λ (x : FieldDescriptorProto). HasOneof (length m.oneof_decl) x.oneof_index)
              m.field oneofs f j;
        })

abbrev IsRangedBody : Option view.Body → Type 0
IsRangedBody None = Unit {0}
IsRangedBody (Some b) = IsRanged b

abbrev IsThereNumber : ℕ → ℕ → FieldDescriptorProto → Type 0
IsThereNumber k i f = IsThere f.number

module _ (types : TypesSay) where
  ranged_one : (d : Declaration) (b : Body) → TellsOf types (record d { body = b })
      → HasFields (IsPlacedField types) (record d { body = b }) → IsRangedBody (seen_body b)
  ranged_one d (of_message m) tells h = ranged_to types d.index m tells h
  ranged_one d b tells h = tt

  one_ranged : (d : Declaration) (b : Body) → TellsOf types (record d { body = b })
      → IsCompleteBody (seen_body b) → HasFields IsThereNumber (record d { body = b })
      → IsRangedBody (seen_body b) → HasFields (IsPlacedField types) (record d { body = b })
  one_ranged d (of_message m) tells complete numbers h =
      ranged_from types d.index m tells complete numbers h
  one_ranged d b tells complete numbers h = tt

  ranged_all : (ds : List Declaration) → AllByRecursion (TellsOf types) ds
      → HaveFields (IsPlacedField types) ds
      → AllByRecursion (λ (d : Declaration). IsRangedBody (seen_body d.body)) ds
  ranged_all [] tells h = tt
  ranged_all (d ∷ ds) tells h = (ranged_one d d.body tells.0 h.0, ranged_all ds tells.1 h.1)

  all_ranged : (ds : List Declaration) → AllByRecursion (TellsOf types) ds → AreComplete ds
      → HaveFields IsThereNumber ds
      → AllByRecursion (λ (d : Declaration). IsRangedBody (seen_body d.body)) ds
      → HaveFields (IsPlacedField types) ds
  all_ranged [] tells complete numbers h = tt
  all_ranged (d ∷ ds) tells complete numbers h = (
    one_ranged d d.body tells.0 complete.0 numbers.0 h.0,
    all_ranged ds tells.1 complete.1 numbers.1 h.1,
  )

-- what fields are complete with, each where it is met
number_one : (k : ℕ) (d : Declaration) (b : Body) → IsCompleteBody (seen_body b)
    → fields.IsIn IsThereNumber k (record d { body = b })
number_one k d (of_field f) h = h.number
number_one k d b h = tt

numbers_in : (k : ℕ) (ds : List Declaration) → AreComplete ds → AreIn IsThereNumber k ds
numbers_in k [] h = tt
numbers_in k (d ∷ ds) h = (number_one k d d.body h.0, numbers_in (oneofs_behind d k) ds h.1)

abbrev IsTypedSeen : Option view.Body → Type 0
IsTypedSeen None = Unit {0}
IsTypedSeen (Some b) = IsTyped b

abbrev IsTypedOne : ℕ → ℕ → FieldDescriptorProto → Type 0
IsTypedOne k i f = IsTypedField f

typed_one : (k : ℕ) (d : Declaration) (b : Body) → IsTypedSeen (seen_body b)
    → fields.IsIn IsTypedOne k (record d { body = b })
typed_one k d (of_field f) h = h
typed_one k d b h = tt

typed_in : (k : ℕ) (ds : List Declaration)
    → AllByRecursion (λ (d : Declaration). IsTypedSeen (seen_body d.body)) ds → AreIn IsTypedOne k ds
typed_in k [] h = tt
typed_in k (d ∷ ds) h = (typed_one k d d.body h.0, typed_in (oneofs_behind d k) ds h.1)

one_typed : (d : Declaration) (b : Body) → IsTypedSeen (seen_body b)
    → HasFields IsTypedOne (record d { body = b }) → IsTypedBody b
one_typed d (of_message m) h k = k
one_typed d (of_field f) h k = h
one_typed d (of_extension x) h k = h
one_typed d b h k = tt

all_typed : (ds : List Declaration)
    → AllByRecursion (λ (d : Declaration). IsTypedSeen (seen_body d.body)) ds
    → HaveFields IsTypedOne ds → AreTyped ds
all_typed [] h k = tt
all_typed (d ∷ ds) h k = (one_typed d d.body h.0 k.0, all_typed ds h.1 k.1)

-- a batch is complete and typed where its content is
abbrev pub On : (view.Body → Type 0) → FileDescriptorProto → Type 0
On P f = AllByRecursion (λ (v : view.Declaration). P v.body) (view.declarations (file_view f))

pub batch_complete : (o : Offsets) (i : ℕ) (fs : List FileDescriptorProto)
    → AllByRecursion (On IsComplete) fs → AreComplete (batch_declarations o i fs)
batch_complete o i [] h = tt
batch_complete o i (f ∷ fs) h =
    all_joined (λ (d : Declaration). IsCompleteBody (seen_body d.body)) (file_declarations o i f)
    (batch_declarations (past_file o f) (i + 1) fs)
    (tt, content_from o i f (λ (s : Seen). IsCompleteBody s.1) h.0)
    (batch_complete (past_file o f) (i + 1) fs h.1)

batch_typed : (o : Offsets) (i : ℕ) (fs : List FileDescriptorProto) → AllByRecursion (On IsTyped) fs
    → AreTyped (batch_declarations o i fs)
batch_typed o i [] h = tt
batch_typed o i (f ∷ fs) h =
    let inner = inner_declarations o i f in
    let typed = content_from o i f (λ (s : Seen). IsTypedSeen s.1) h.0 in
    all_joined (λ (d : Declaration). IsTypedBody d.body) (file_declarations o i f)
    (batch_declarations (past_file o f) (i + 1) fs)
    (tt, all_typed inner typed (inner_to IsTypedOne o i f 0 (typed_in 0 inner typed)))
    (batch_typed (past_file o f) (i + 1) fs h.1)

module _ (types : TypesSay) where
  placed_to : (k : ℕ) (o : Offsets) (i : ℕ) (fs : List FileDescriptorProto)
      → AllByRecursion (TellsOf types) (batch_declarations o i fs)
      → AreIn (IsPlacedField types) k (batch_declarations o i fs) → AllByRecursion (On IsRanged) fs
  placed_to k o i [] tells h = tt
  placed_to k o i (f ∷ fs) tells h =
      let rest = batch_declarations (past_file o f) (i + 1) fs in
      let parts = in_split (IsPlacedField types) k (file_declarations o i f) rest h in
      let said = all_split (TellsOf types) (file_declarations o i f) rest tells in
      let inner = inner_declarations o i f in (
        content_to o i f (λ (s : Seen). IsRangedBody s.1) (ranged_all types inner said.0.1
            (inner_to (IsPlacedField types) o i f k parts.0.1)),
        placed_to (oneofs_after (IsPlacedField types) k (file_declarations o i f)) (past_file o f)
            (i + 1) fs said.1 parts.1,
      )

  placed_from : (k : ℕ) (o : Offsets) (i : ℕ) (fs : List FileDescriptorProto)
      → AllByRecursion (TellsOf types) (batch_declarations o i fs)
      → AllByRecursion (On IsComplete) fs → AllByRecursion (On IsRanged) fs
      → AreIn (IsPlacedField types) k (batch_declarations o i fs)
  placed_from k o i [] tells complete h = tt
  placed_from k o i (f ∷ fs) tells complete h =
      let rest = batch_declarations (past_file o f) (i + 1) fs in
      let said = all_split (TellsOf types) (file_declarations o i f) rest tells in
      let inner = inner_declarations o i f in
      let whole = content_from o i f (λ (s : Seen). IsCompleteBody s.1) complete.0 in
      let ranged = content_from o i f (λ (s : Seen). IsRangedBody s.1) h.0 in
      let fields = all_ranged types inner said.0.1 whole
      (inner_to IsThereNumber o i f 0 (numbers_in 0 inner whole)) ranged in
      in_joined (IsPlacedField types) k (file_declarations o i f) rest
      (tt, inner_from (IsPlacedField types) o i f k fields)
      (placed_from (oneofs_after (IsPlacedField types) k (file_declarations o i f)) (past_file o f)
      (i + 1) fs said.1 complete.1 h.1)

-- of each file and each of its declarations
pub each_on : (P : view.Body → Type 0) (fs : List FileDescriptorProto)
    → ((c : _) (v : view.Declaration) → Contains (map file_view fs) c
    → Contains (view.declarations c) v → P v.body)
    → AllByRecursion (On P) fs
each_on P fs h = all_in (On P) fs (λ f i. all_in (λ (v : view.Declaration). P v.body)
    (view.declarations (file_view f)) (λ v j. h (file_view f) v (contains_map file_view fs f i) j))

module _ (g : Facts) (values : Values) (at : ℕ → Places) (p : Place) (o : Offsets) (i : ℕ)
    (fs : List FileDescriptorProto)
    (complete : (c : _) (v : view.Declaration) → Contains (map file_view fs) c
    → Contains (view.declarations c) v → IsComplete v.body)
    (typed : (c : _) (v : view.Declaration) → Contains (map file_view fs) c
    → Contains (view.declarations c) v → IsTyped v.body)
    (tells : AllByRecursion (TellsOf g.types) (batch_declarations o i fs)) where
  abbrev ds : List Declaration
  ds = batch_declarations o i fs

  pub ruled_to : FaultsAlong g values at p ds []
      → ((c : _) (v : view.Declaration) → Contains (map file_view fs) c
      → Contains (view.declarations c) v → IsRuled (is_proto3 c) v.body × IsRanged v.body)
      × AreMet g values p ds
  ruled_to h =
      let clean = along_to g values at p ds [] (batch_complete o i fs (each_on IsComplete fs complete))
      (batch_typed o i fs (each_on IsTyped fs typed)) h refl in
      let own = own_batch_to p.is_proto3 o i fs clean.own in
      let ranged = placed_to g.types p.oneofs o i fs tells clean.placed in (
        λ c v j k.
            let f = contains_map_cases file_view fs c j in
            let k' : Contains (view.declarations (file_view f.0)) v =
            subst (λ x. Contains (view.declarations x) v) (sym f.2) k in
            subst (λ x. IsRuled (is_proto3 x) v.body × IsRanged v.body) f.2 (
              in_all (λ (w : view.Declaration). IsRuled (is_proto3 (file_view f.0)) w.body)
                  (view.declarations (file_view f.0)) (in_all (OnContent IsRuled) fs own f.0 f.1) v k',
              in_all (λ (w : view.Declaration). IsRanged w.body) (view.declarations (file_view f.0))
                  (in_all (On IsRanged) fs ranged f.0 f.1) v k',
            ),
        clean.met,
      )

  ruled_clean : ((c : _) (v : view.Declaration) → Contains (map file_view fs) c
      → Contains (view.declarations c) v → IsRuled (is_proto3 c) v.body × IsRanged v.body)
      × AreMet g values p ds
      → AreClean g values at p ds
  ruled_clean (h, met) =
      let own = all_in (OnContent IsRuled) fs (λ f j.
      all_in (λ (v : view.Declaration). IsRuled (is_proto3 (file_view f)) v.body)
      (view.declarations (file_view f))
      (λ v k. (h (file_view f) v (contains_map file_view fs f j) k).0)) in
      let ranged = each_on IsRanged fs (λ c v j k. (h c v j k).1) in
      record {
        own = own_batch_from p.is_proto3 o i fs own;
        placed = placed_from g.types p.oneofs o i fs tells (each_on IsComplete fs complete) ranged;
        met = met;
      }

  pub ruled_from : ((c : _) (v : view.Declaration) → Contains (map file_view fs) c
      → Contains (view.declarations c) v → IsRuled (is_proto3 c) v.body × IsRanged v.body)
      × AreMet g values p ds
      → FaultsAlong g values at p ds []
  ruled_from rules =
      along_from g values at p ds (batch_typed o i fs (each_on IsTyped fs typed)) (ruled_clean rules)

  -- and no other answer
  pub ruled_only : IsDecided values → ((c : _) (v : view.Declaration) → Contains (map file_view fs) c
      → Contains (view.declarations c) v → IsRuled (is_proto3 c) v.body × IsRanged v.body)
      × AreMet g values p ds
      → (xs : List Fault) → FaultsAlong g values at p ds xs → xs ≡ []
  ruled_only decided rules xs h =
      along_only g values at decided p ds xs (batch_typed o i fs (each_on IsTyped fs typed))
      (ruled_clean rules) h
