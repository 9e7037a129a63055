-- The place of a file of a name is the first of the name, which is the only one where names of files
-- are apart.
use Rattle.std.proofs.Common.{◌≡◌, ◌≤◌, ◌<◌, ◌∙◌, ℕ, Bool, true, false, cond, nat_lt, List, Some, None, bytes_eq, length, slice_get, get_or, map, ap, sym, subst, refl, arith}
use Rattle.std.specs.Cmp.Lexicographic.{bytes_decides}
use Rattle.std.specs.List.{position, position_or_len}
use Rattle.std.proofs.lemmas.List.Sums.{fails_before_first, passes_at_first}
use Rattle.std.proofs.lemmas.Option.{slice_get_within, slice_get-get_or, get_or_from_slice_get}
use Rattle.descriptor_records.specs.Content.{Text, file_view}
use Rattle.descriptor_records.specs.declared.file.FileDescriptorProto.{FileDescriptorProto}
use Rattle.reflect_declarations.specs.Tree.{text_of}
use Rattle.reflect_index.proofs.Among.{get_map, got_map}
use Rattle.schema_view.specs.Lawful.{outlines}
use Rattle.schema_view.specs.Outlines.{AreApart, Outline, outline_of}
use Rattle.linked_view.proofs.Counts.{IsPlaced, bytes_refl}
use Rattle.linked_view.proofs.Extended.{one_place}
use Rattle.linked_view.proofs.NamedFiles.{names_in}
use Rattle.linked_view.proofs.Walked.{text_seen}

module _ (names : List Text) (t : Text) where
  abbrev first : ℕ
  first = position_or_len (bytes_eq t) names

  there : first < length names → slice_get names first ≡ Some t
  there lt =
      let same = (bytes_decides t (get_or names first t)).0 (passes_at_first (bytes_eq t) names t lt) in
      slice_get-get_or names first t lt ∙ ap Some (sym same)

  place_has : (i : ℕ) → position (bytes_eq t) names ≡ Some i → slice_get names i ≡ Some t
  place_has i e = by (nat_lt first (length names)) refl where
    by : (b : Bool) → nat_lt first (length names) ≡ b → slice_get names i ≡ Some t
    by true is =
        let at : Some first ≡ Some i = sym (ap (λ b. cond b (Some first) None) is) ∙ e in
        let same : first ≡ i = cc at in
        subst (λ k. slice_get names k ≡ Some t) same (there (grind (arith, is)))
    by false is =
        let no : None ≡ Some i = sym (ap (λ b. cond b (Some first) None) is) ∙ e in absurd (cc no)

  has_place : (i : ℕ) → slice_get names i ≡ Some t
      → ((j : ℕ) → slice_get names j ≡ Some t → j ≡ i) → position (bytes_eq t) names ≡ Some i
  has_place i e one = by (nat_lt first (length names)) refl where
    by : (b : Bool) → nat_lt first (length names) ≡ b → position (bytes_eq t) names ≡ Some i
    by true is =
        ap (λ b. cond b (Some first) None) is ∙ ap Some (one first (there (grind (arith, is))))
    by false is =
        let past : length names ≤ first = grind (arith, is) in
        let within = slice_get_within names i t e in
        let fails = fails_before_first (bytes_eq t) names i t (omega (arith, within, past)) in
        let no : true ≡ false =
        sym (ap (bytes_eq t) (get_or_from_slice_get names i t t e) ∙ bytes_refl t) ∙ fails in
        absurd (cc no)

-- names of files stand for their places
module _ (files : List FileDescriptorProto) (apart : AreApart (outlines (map file_view files))) where
  abbrev is_called : Text → Outline → Bool
  is_called t o = bytes_eq o.name t

  named_at : (t : Text) (i : ℕ) → slice_get (names_in files) i ≡ Some t
      → (o : Outline) × (slice_get (outlines (map file_view files)) i ≡ Some o)
      × (is_called t o ≡ true)
  named_at t i e =
      let f = got_map (λ (f : FileDescriptorProto). text_of f.name) files i t e in (
        outline_of (file_view f.0),
        get_map outline_of (map file_view files) i (file_view f.0)
            (get_map file_view files i f.0 f.1),
        ap (λ n. bytes_eq n t) (text_seen f.0.name ∙ f.2) ∙ bytes_refl t,
      )

  one_name : (t : Text) (i j : ℕ) → slice_get (names_in files) i ≡ Some t
      → slice_get (names_in files) j ≡ Some t → i ≡ j
  one_name t i j e f =
      let a = named_at t i e in
      let b = named_at t j f in
      one_place (is_called t) (outlines (map file_view files)) i j a.0 b.0 (apart.files t) a.1 b.1
      a.2 b.2

  pub names_placed : IsPlaced (λ t. position (bytes_eq t) (names_in files)) (names_in files)
  names_placed t i = (
    place_has (names_in files) t i,
    λ e. has_place (names_in files) t i e (λ j f. one_name t j i f e),
  )
