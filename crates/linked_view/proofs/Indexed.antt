-- A message that is known by a name is declared under it, and has its place among the messages.
use Rattle.std.proofs.Common.{◌≡◌, ◌∙◌, ◌+◌, inl, inr, ℕ, List, [], ◌∷◌, Some, map, slice_get, ap, sym, subst, refl, arith}
use Rattle.std.specs.List.{Contains}
use Rattle.descriptor_records.specs.Content.{Text, FileContent, file_view}
use Rattle.descriptor_records.specs.declared.file.FileDescriptorProto.{FileDescriptorProto}
use Rattle.reflect_scope.specs.declared.definition.Definition.{Definition}
use Rattle.reflect_scope.specs.declared.definition.DefinitionKind.TheVariants as kind
use Rattle.reflect_scope.specs.Means.{scopes}
use Rattle.reflect_declarations.specs.Tree.{MessageParts, text_of}
use Rattle.reflect_declarations.specs.Declarations.{Declaration, Body, of_message, file_declaration, file_declarations}
use Rattle.reflect_declarations.specs.Batches.{batch_declarations}
use Rattle.reflect_known.specs.KnownNames.{kind_of, definition_of, nothing_before, known_of_files}
use Rattle.reflect_index.specs.OfDeclarations.{messages_in}
use Rattle.reflect_index.proofs.Among.{Among}
use Rattle.linked_view.proofs.Declared.{stands_in_batch}
use Rattle.schema_view.specs.Declarations as view
use Rattle.schema_view.specs.Lawful.{outlines}
use Rattle.schema_view.specs.Outlines.{sort_of, head_of, outline_of, IsDeclared}
use Rattle.schema_view.proofs.Lists.{contains_here, contains_cases, contains_none, contains_map, contains_map_cases}
use Rattle.linked_view.specs.Complete.{IsComplete}
use Rattle.linked_view.specs.Named.{AreWellNamed}
use Rattle.linked_view.proofs.Completes.{gives}
use Rattle.linked_view.proofs.Given.{Giving}
use Rattle.linked_view.proofs.Known.{given_in, known_where, single, one_given, batch_file, package_in}
use Rattle.linked_view.proofs.Places.{get_contains}
use Rattle.linked_view.proofs.Walked.{Seen, seen, seen_body, told, facts_in, inner_declarations, file_seen}

pub among : {X : Type 0} (xs : List X) (x : X) → Contains xs x → Among x xs
among [] x h = absurd (contains_none x h)
among (y ∷ xs) x h = elim (contains_cases y xs x h) [ inl e ↦ inl e | inr j ↦ inr (among xs x j) ]

message_kind : (x : Declaration) (b : Body) (i : ℕ)
    → kind_of (record x { body = b }) ≡ kind.Message i
    → (own : MessageParts) × (b ≡ of_message own) × (x.index ≡ i)
message_kind x (of_message m) i e = (m, refl, cc e)
message_kind x b i e = absurd (cc e)

module _ (files : List FileDescriptorProto) (named : AreWellNamed [] (map file_view files)) where
  pub record IsMessageAt (n : Text) (i : ℕ) : Type 0 where
    pub own : MessageParts
    pub place : slice_get (messages_in (batch_declarations nothing_before 0 files)) i ≡ Some own
    pub declared : IsDeclared (outlines (map file_view files)) n
        (sort_of (view.of_message (facts_in own)))
    pub complete : IsComplete (view.of_message (facts_in own))
    pub file : FileContent
    pub message : view.Declaration
    pub there : Contains (map file_view files) file
    pub inside : Contains (view.declarations file) message
    pub name : message.name ≡ n
    pub body : message.body ≡ view.of_message (facts_in own)

  pub message_known : (n : Text) (d : Definition) (i : ℕ) → known_of_files files n ≡ Some d
      → d.kind ≡ kind.Message i → IsMessageAt n i
  message_known n d i e is =
      let x = given_in files named n d e in
      let r = batch_file nothing_before 0 files x.0 x.1 in
      let place : 0 + r.1 ≡ r.1 = omega arith in
      let inside = subst (λ m. Contains (file_declarations r.0 m r.2) x.0) place r.4 in
      elim (contains_cases (file_declaration [] r.1 r.2) (inner_declarations r.0 r.1 r.2) x.0 inside) [
        | inl same ↦ (
            let given_here = subst (λ (y : Declaration). Contains (gives y) (n, d)) (sym same) x.2 in
            let p = package_in r.1 (scopes (text_of r.2.package)) n d given_here in
            absurd (cc (sym (ap (λ (y : Definition). y.kind) p.2) ∙ is)))
        | inr j ↦ (
            let one = one_given files named r.0 r.1 r.2 r.3 x.0 j in
            let own = single files named (x.0.name, definition_of x.0) (n, d)
            (subst (λ l. Contains l (n, d)) one.0 x.2) in
            let name : x.0.name ≡ n = ap (λ (y : Giving). y.0) own in
            let def : definition_of x.0 ≡ d = ap (λ (y : Giving). y.1) own in
            let m = message_kind x.0 x.0.body i (ap (λ (y : Definition). y.kind) def ∙ is) in
            let stands = stands_in_batch nothing_before 0 files x.0 m.0
            (among (batch_declarations nothing_before 0 files) x.0 x.1) m.1 in
            let index : stands.0 ≡ i = (let at = stands.1 in let also = m.2 in omega (arith, at, also)) in
            let c = file_view r.2 in
            let there = contains_map file_view files r.2 (get_contains files r.1 r.2 r.3) in
            let v = contains_map_cases told (view.declarations c) (seen x.0)
            (subst (λ l. Contains l (seen x.0)) (file_seen r.0 r.1 r.2)
            (contains_map seen (inner_declarations r.0 r.1 r.2) x.0 j)) in
            let full : v.0.name ≡ n = ap (λ (y : Seen). y.0) v.2 ∙ name in
            let body : Some v.0.body ≡ Some (view.of_message (facts_in m.0)) =
            ap (λ (y : Seen). y.1) v.2 ∙ ap seen_body m.1 in
            let same : v.0.body ≡ view.of_message (facts_in m.0) = cc body in
            record {
              own = m.0;
              place = subst (λ k. slice_get (messages_in (batch_declarations nothing_before 0 files)) k
                  ≡ Some m.0) index stands.2;
              declared = (
                outline_of c,
                head_of v.0,
                contains_map outline_of (map file_view files) c there,
                contains_map head_of (view.declarations c) v.0 v.1,
                full,
                ap sort_of same,
              );
              complete = subst IsComplete same (named.complete c v.0 there v.1);
              file = c;
              message = v.0;
              there = there;
              inside = v.1;
              name = full;
              body = same;
            })
      ]

  -- and back: what is declared as a message is known by its name for its index
  pub message_index : (x : Declaration) (own : MessageParts)
      → Contains (batch_declarations nothing_before 0 files) x → x.body ≡ of_message own
      → known_of_files files x.name ≡ Some (definition_of x)
  message_index x own h is =
      let r = batch_file nothing_before 0 files x h in
      let place : 0 + r.1 ≡ r.1 = omega arith in
      let inside = subst (λ m. Contains (file_declarations r.0 m r.2) x) place r.4 in
      elim (contains_cases (file_declaration [] r.1 r.2) (inner_declarations r.0 r.1 r.2) x inside) [
        | inl same ↦ absurd (cc (ap (λ (y : Declaration). y.body) same ∙ is))
        | inr j ↦ (
            let one = one_given files named r.0 r.1 r.2 r.3 x j in
            let here = subst (λ l. Contains l (x.name, definition_of x)) (sym one.0)
            (contains_here (x.name, definition_of x) []) in
            let k = known_where files named x x.name (definition_of x) h here in
            let same : k.0 ≡ definition_of x = elim k.2 [
              | inl e ↦ e
              | inr both ↦ absurd (cc (sym both.1 ∙ one.1))
            ] in
            k.1 ∙ ap Some same)
      ]
