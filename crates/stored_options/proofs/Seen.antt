-- What a file sees among some of the files of a schema it sees among others of them, where it is one
-- of these and what they import is there.
use Rattle.std.proofs.Common.{◌≡◌, ◌≤◌, ◌∙◌, inl, inr, ℕ, true, cond, bytes_eq, List, [], ◌∷◌, ap, sym, subst}
use Rattle.std.specs.List.{Contains}
use Rattle.descriptor_records.specs.Content.{FieldContent, FileContent, Text}
use Rattle.schema_view.specs.Declarations.{declarations, of_extension}
use Rattle.schema_view.specs.Files.{Import, file_name}
use Rattle.schema_view.specs.Lawful.{outlines}
use Rattle.schema_view.specs.Outlines.{IsChain, IsNamed, Outline, Sees, outline_of}
use Rattle.schema_view.proofs.Lists.{contains_map_cases, one_of, sum_map}
use Rattle.schema_view.proofs.Road.{AreLinked}
use Rattle.linked_view.proofs.Counts.{bytes_refl, weighs}
use Rattle.stored_options.proofs.Built.{built_closed}

-- files declare an extension of the full name, where the file of this outline sees it
pub record IsSeenExtension (fs : List FileContent) (from : Outline) (n : Text) : Type 0 where
  pub file : FileContent
  pub content : FieldContent
  pub there : Contains fs file
  pub inside : Contains (declarations file) (record { name = n; body = of_extension content })
  pub seen : Sees (outlines fs) from (file_name file)

-- files of one name are one
pub one_file : (all : List FileContent) → AreLinked all → (f g : FileContent) → Contains all f
    → Contains all g → file_name f ≡ file_name g → f ≡ g
one_file all l f g i j e =
    let n : Text = file_name g in
    let weight : FileContent → ℕ = λ x. cond (bytes_eq (file_name x) n) 1 0 in
    let few = l.apart.files n in
    let sum = sum_map (λ (o : Outline). cond (bytes_eq o.name n) 1 0) outline_of all in
    let first : bytes_eq (file_name f) n ≡ true = ap (λ x. bytes_eq x n) e ∙ bytes_refl n in
    one_of weight all f g (subst (λ k. k ≤ 1) sum few) i j (weighs (bytes_eq (file_name f) n) first)
    (weighs (bytes_eq n n) (bytes_refl n))

module _ (all : List FileContent) (l : AreLinked all) (fs gs : List FileContent)
    (left : (f : FileContent) → Contains fs f → Contains all f)
    (right : (g : FileContent) → Contains gs g → Contains all g) (own : AreLinked gs) where
  abbrev os : List Outline
  os = outlines fs

  abbrev ps : List Outline
  ps = outlines gs

  one_outline : (o p : Outline) → Contains os o → Contains ps p → o.name ≡ p.name → o ≡ p
  one_outline o p i j e =
      let f = contains_map_cases outline_of fs o i in
      let g = contains_map_cases outline_of gs p j in
      let name : file_name f.0 ≡ file_name g.0 =
      ap (λ (x : Outline). x.name) f.2 ∙ e ∙ sym (ap (λ (x : Outline). x.name) g.2) in
      let same = one_file all l f.0 g.0 (left f.0 f.1) (right g.0 g.1) name in
      sym f.2 ∙ ap outline_of same ∙ g.2

  chain_to : (ks : List Text) (m n : Text) → IsNamed ps m → IsChain os m ks n
      → IsChain ps m ks n × IsNamed ps n
  chain_to [] m n named e = (e, subst (IsNamed ps) e named)
  chain_to (k ∷ ks) m n (q, j, f) ((o, i, e, c), rest) =
      let import : Import = record { file = k; is_public = true } in
      let same = one_outline o q i j (e ∙ sym f) in
      let c' : Contains q.imports import =
      subst (λ (x : Outline). Contains x.imports import) same c in
      let more = chain_to ks k n (built_closed gs own q import j c') rest in
      (((q, j, f, c'), more.0), more.1)

  sees_to : (from : Outline) (n : Text) → Contains ps from → Sees os from n
      → Sees ps from n × IsNamed ps n
  sees_to from n i (inl e) = (inl e, (from, i, sym e))
  sees_to from n i (inr (k, ks, c, h)) =
      let r = chain_to ks k.file n (built_closed gs own from k i c) h in (inr (k, ks, c, r.0), r.1)

  -- so it is with the extensions that it sees
  pub seen_there : (from : Outline) → Contains ps from → (n : Text) → IsSeenExtension fs from n
      → IsSeenExtension gs from n
  seen_there from home n h =
      let r = sees_to from (file_name h.file) home h.seen in
      let g = contains_map_cases outline_of gs r.1.0 r.1.1 in
      let name : file_name g.0 ≡ file_name h.file =
      ap (λ (x : Outline). x.name) g.2 ∙ r.1.2 in
      let same = one_file all l g.0 h.file (right g.0 g.1) (left h.file h.there) name in
      record {
        file = h.file;
        content = h.content;
        there = subst (Contains gs) same g.1;
        inside = h.inside;
        seen = r.0;
      }
