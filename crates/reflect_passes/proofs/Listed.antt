-- The faults that a batch's walks list.
use Rattle.std.proofs.Common.{◌≡◌, ℕ, List, [], ◌++◌, inr, map, Result, Err, IfErr, ap, sym, subst, ◌∙◌}
use Rattle.std.proofs.Math.Path.{fun_ext}
use Rattle.std.proofs.lemmas.Result.{IfErr-weaker}
use Rattle.descriptor_records.specs.declared.file.FileDescriptorProto.{FileDescriptorProto}
use Rattle.reflect_scope.specs.declared.seen.Links.{Links}
use Rattle.reflect_declarations.specs.Batches.{batch_declarations}
use Rattle.reflect_declarations.specs.declared.offsets.Offsets.{Offsets}
use Rattle.reflect_faults.specs.Faults.{Fault, Adds, batch_places, list_of, place_at}
use Rattle.reflect_scope.specs.FileIndexes.{Indexes}
use Rattle.reflect_names.specs.FileNames.{with_files, files_faults}
use Rattle.reflect_scope.specs.Known.{Known, known_of}
use Rattle.reflect_names.specs.NamePass.{faults_along}
use Rattle.reflect_names.specs.Names.{Places}
use Rattle.reflect_names.specs.ReferencePass.{BatchReferences}
use Rattle.reflect_names.specs.ReferenceSteps.{ResolvesFiles, target_of}
use Rattle.reflect_faults.specs.declared.faults.Faults.{Faults}
use Rattle.reflect_names.specs.declared.resolve_visitor.Reference.{Reference}
use Rattle.reflect_names.specs.declared.resolve_visitor.ResolveVisitor.{ResolveVisitor}
use Rattle.reflect_faults.proofs.Added.{adds_on, same_places}
use Rattle.reflect_passes.specs.Errors.{faults_of, ListsFaults}
use Rattle.reflect_passes.specs.NameFaults.{name_faults}
use Rattle.reflect_passes.specs.declared.error.DescriptorError.{DescriptorError}

-- the error lists these faults
pub refused_by : {T : Type 0} (r : Result T DescriptorError) (xs : List Fault) (Are : List Fault → Type 0) → Are xs → IfErr r (λ e. faults_of e ≡ xs) → IfErr r (λ e. ListsFaults Are e)
refused_by r xs Are are err = IfErr-weaker r (λ e. faults_of e ≡ xs) (λ e. ListsFaults Are e) (λ e is. inr (subst Are (sym is) are)) err

pub refused_as : {T : Type 0} (r : Result T DescriptorError) (e : DescriptorError) (Are : List Fault → Type 0) → r ≡ Err e → Are (faults_of e) → IfErr r (λ e. ListsFaults Are e)
refused_as r e Are is are = subst (λ x. IfErr x (λ e. ListsFaults Are e)) (sym is) (inr are)

-- the places of the faults of these files
pub places : (f : Faults) (files : List FileDescriptorProto) (first : ℕ) → f.files.now ≡ files → f.first ≡ first → place_at f ≡ batch_places files first
places f files first same index = ap {B = ℕ → Places} (λ xs. batch_places xs f.first) same ∙ ap {B = ℕ → Places} (batch_places files) index

module _ (f : Faults) (files : List FileDescriptorProto) (first : ℕ) (before : Offsets) (none : list_of f ≡ []) (same : f.files.now ≡ files) (index : f.first ≡ first) where
  pub names_listed : (g h : Faults) (indexes now : Indexes) (known : Known) → Adds f g (files_faults (place_at f) indexes first files) → now ≡ with_files indexes first files
      → Adds g h (faults_along (place_at g) now known (batch_declarations before first files)) → list_of h ≡ name_faults indexes known before first files
  names_listed g h indexes now known own are theirs =
      let ds = batch_declarations before first files in
      let at = batch_places files first in
      let begun = places f files first same index in
      let kept : place_at g ≡ at = fun_ext (same_places f g _ own) ∙ begun in
      let one = subst (λ p. Adds f g (files_faults p indexes first files)) begun own in
      let two = subst (λ n. Adds g h (faults_along at n known ds)) are (subst (λ p. Adds g h (faults_along p now known ds)) kept theirs) in
      (adds_on f g h _ _ one two).added ∙ ap (λ l. l ++ name_faults indexes known before first files) none

  pub references_listed : (known : Known) (links : List Links) (s t : ResolveVisitor) (rs : List Reference) (ws : List Fault) → known_of s.names.now ≡ known → s.links.now ≡ links → s.faults ≡ f → s.references.items ≡ []
      → ResolvesFiles s before first files t → rs ≡ t.references.items → ws ≡ list_of t.faults → BatchReferences known links (batch_places files first) before first files (map target_of rs) ws
  references_listed known links s t rs ws names imports from empty r gives lists =
      let at : place_at s.faults ≡ batch_places files first = ap place_at from ∙ places f files first same index in
      let means : r.means ≡ map target_of rs = sym (ap (map target_of) gives ∙ r.finds.references ∙ ap (λ xs. map target_of xs ++ r.means) empty) in
      let wrong : r.wrong ≡ ws = sym (lists ∙ r.finds.faults.added ∙ ap (λ l. l ++ r.wrong) (ap list_of from ∙ none)) in
      subst (λ x. BatchReferences known links (batch_places files first) before first files (map target_of rs) x) wrong
      (subst (λ ms. BatchReferences known links (batch_places files first) before first files ms r.wrong) means
      (subst (λ p. BatchReferences known links p before first files r.means r.wrong) at
      (subst (λ l. BatchReferences known l (place_at s.faults) before first files r.means r.wrong) imports
      (subst (λ k. BatchReferences k s.links.now (place_at s.faults) before first files r.means r.wrong) names r.right))))
