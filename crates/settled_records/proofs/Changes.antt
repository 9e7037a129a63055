-- What an edit does to the content of its file; edits of one file, one after another.
use Rattle.std.proofs.Common.{◌≡◌, ◌++◌, ℕ, zero, suc, List, [], ◌∷◌, map, fold, Some, slice_get, ap, refl, ◌∙◌}
use Rattle.std.proofs.lemmas.List.{map-append}
use Rattle.std.proofs.lemmas.List.Sums.{fold-append}
use Rattle.std.specs.List.{AllByRecursion}
use Rattle.descriptor_records.specs.Content.{FileContent, options_view}
use Rattle.reflect_growth.specs.Put.{edited, file_put, path_put, with_at}
use Rattle.reflect_growth.specs.declared.settle.Edit.{Edit}
use Rattle.reflect_growth.specs.declared.settle.Edit.TheVariants as edits

abbrev pub Change : Type 0
Change = FileContent → FileContent

-- what an edit does to the content of its file
abbrev pub change_of : Edit → Change
change_of (edits.Options file path options) = file_put path.items (options_view options)
change_of (edits.Location file place path) = path_put place path.items

-- the file that an edit is of
abbrev pub index_of : Edit → ℕ
index_of (edits.Options file path options) = file
index_of (edits.Location file place path) = file

-- a content behind changes
abbrev pub changed : FileContent → List Change → FileContent
changed = fold (λ (f : FileContent) (c : Change). c f)

-- behind edits of which some come first
pub changed_on : (f : FileContent) (es first then : List Edit) → es ≡ first ++ then → changed f (map change_of es) ≡ changed (changed f (map change_of first)) (map change_of then)
changed_on f es first then is =
    ap (λ ds. changed f (map change_of ds)) is ∙ ap (changed f) (map-append change_of first then)
    ∙ fold-append (λ (g : FileContent) (c : Change). c g) f (map change_of first) (map change_of then)

-- ---- a list in which the entry at a place is put in another form: that entry, and each other
put_there : {A : Type 0} (k : ℕ) (f : A → A) (xs : List A) (x : A) → slice_get xs k ≡ Some x → slice_get (with_at k f xs) k ≡ Some (f x)
put_there k f [] x there = absurd (cc there)
put_there zero f (y ∷ ys) x there =
    let is : y ≡ x = cc there in
    ap (λ z. Some (f z)) is
put_there (suc k) f (y ∷ ys) x there = put_there k f ys x there

put_elsewhere : {A : Type 0} (k n : ℕ) (f : A → A) (xs : List A) → (n ≡ k → ⊥) → slice_get (with_at n f xs) k ≡ slice_get xs k
put_elsewhere k n f [] apart = refl
put_elsewhere zero zero f (y ∷ ys) apart = absurd (apart refl)
put_elsewhere zero (suc n) f (y ∷ ys) apart = refl
put_elsewhere (suc k) zero f (y ∷ ys) apart = refl
put_elsewhere (suc k) (suc n) f (y ∷ ys) apart = put_elsewhere k n f ys (λ e. apart (ap suc e))

-- ---- one edit
edit_there : (e : Edit) (k : ℕ) (fs : List FileContent) (f : FileContent) → index_of e ≡ k → slice_get fs k ≡ Some f → slice_get (edited fs e) k ≡ Some (change_of e f)
edit_there (edits.Options file path options) k fs f is there =
    ap (λ n. slice_get (with_at n (file_put path.items (options_view options)) fs) k) is ∙ put_there k (file_put path.items (options_view options)) fs f there
edit_there (edits.Location file place path) k fs f is there =
    ap (λ n. slice_get (with_at n (path_put place path.items) fs) k) is ∙ put_there k (path_put place path.items) fs f there

edit_elsewhere : (e : Edit) (k : ℕ) (fs : List FileContent) → (index_of e ≡ k → ⊥) → slice_get (edited fs e) k ≡ slice_get fs k
edit_elsewhere (edits.Options file path options) k fs apart = put_elsewhere k file (file_put path.items (options_view options)) fs apart
edit_elsewhere (edits.Location file place path) k fs apart = put_elsewhere k file (path_put place path.items) fs apart

-- ---- several edits
-- an edit of the file of this index, and one of another
abbrev pub IsOf : ℕ → Edit → Type 0
IsOf k e = index_of e ≡ k

abbrev pub IsElsewhere : ℕ → Edit → Type 0
IsElsewhere k e = index_of e ≡ k → ⊥

-- edits of a file change its content one after another
pub edits_there : (k : ℕ) (es : List Edit) (fs : List FileContent) (f : FileContent) → AllByRecursion (IsOf k) es → slice_get fs k ≡ Some f
    → slice_get (fold edited fs es) k ≡ Some (changed f (map change_of es))
edits_there k [] fs f all there = there
edits_there k (e ∷ es) fs f all there = edits_there k es (edited fs e) (change_of e f) all.1 (edit_there e k fs f all.0 there)

-- those of other files leave it
pub edits_elsewhere : (k : ℕ) (es : List Edit) (fs : List FileContent) → AllByRecursion (IsElsewhere k) es → slice_get (fold edited fs es) k ≡ slice_get fs k
edits_elsewhere k [] fs all = refl
edits_elsewhere k (e ∷ es) fs all = edits_elsewhere k es (edited fs e) all.1 ∙ edit_elsewhere e k fs all.0
