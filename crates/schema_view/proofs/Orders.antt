-- Files in another order: they are as lawful, and the view is the same.
use Rattle.std.proofs.Common.{◌≡◌, ◌≤◌, ℕ, List, ◌++◌, map, Bool, true, false, cond, Some, refl, sym, ap, ◌∙◌, subst, sum_by, arith}
use Rattle.std.proofs.Math.Path.{fun_ext}
use Rattle.std.specs.Prelude.{IsPermutation}
use Rattle.std.specs.List.{Contains}
use Rattle.std.specs.Str.{bytes_eq}
use Rattle.std.proofs.lemmas.List.Sorted.{IsPermutation-sym, IsPermutation-map, IsPermutation-append_right, Contains-permutation, sum_by-IsPermutation}
use Rattle.descriptor_records.specs.Content.{Text, FileContent}
use Rattle.schema_view.specs.Files.{file_name}
use Rattle.schema_view.specs.Declarations.{Body, declarations}
use Rattle.schema_view.specs.Outlines.{Outline, outline_of, Head, head_of, times, AreApart}
use Rattle.schema_view.specs.Lawful.{outlines, Meanings, all_linked, Key, has_key, is_use, times_by, AreSettled, IsLawful, AddsLawful}
use Rattle.schema_view.specs.Views.{FileFacts, Held, when, file_at, declared_at, extension_at, view_of, Grows}
use Rattle.schema_view.proofs.Lists.{sum_map, sum_some, first_from, first_same, first_stays}
use Rattle.schema_view.proofs.Within.{Within, package_within, named_within, means_same, settled_within}
use Rattle.schema_view.proofs.Road.{outlines_linked}

pub when_true : {Y : Type 0} (b : Bool) (x y : Y) → when b x ≡ Some y → b ≡ true
when_true true x y e = refl
when_true false x y e = absurd (cc)

one_if : (b : Bool) → b ≡ true → 1 ≤ cond b 1 0
one_if true e = omega arith
one_if false e = absurd (cc)

file_weighs : (n : Text) (f : FileContent) (y : FileFacts) → file_at n f ≡ Some y → 1 ≤ cond (bytes_eq (file_name f) n) 1 0
file_weighs n f y e = one_if _ (when_true (bytes_eq (file_name f) n) _ y e)

abbrev named_in : Text → FileContent → ℕ
named_in n f = times n (map (λ h. h.name) (outline_of f).heads)

declared_weighs : (n : Text) (f : FileContent) (y : Held) → declared_at n f ≡ Some y → 1 ≤ named_in n f
declared_weighs n f y e =
    let d = first_from (λ d. when (bytes_eq d.name n) (record { body = d.body; file = file_name f })) (declarations f) y e in
    let is : sum_by (λ d. cond (bytes_eq d.name n) 1 0) (declarations f) ≡ named_in n f = sym (sum_map (λ (h : Head). cond (bytes_eq h.name n) 1 0) head_of (declarations f)) ∙ sym (sum_map (λ (x : Text). cond (bytes_eq x n) 1 0) (λ (h : Head). h.name) (map head_of (declarations f))) in
    let some = sum_some (λ d. cond (bytes_eq d.name n) 1 0) (declarations f) d.0 d.1 in
    let one = one_if (bytes_eq d.0.name n) (when_true _ _ y d.2) in
    omega arith

extension_weighs : (k : Key) (f : FileContent) (y : Text) → extension_at k f ≡ Some y → 1 ≤ sum_by (λ d. cond (has_key k d.body) 1 0) (declarations f)
extension_weighs k f y e =
    let d = first_from (λ d. when (has_key k d.body) d.name) (declarations f) y e in
    let some = sum_some (λ d. cond (has_key k d.body) 1 0) (declarations f) d.0 d.1 in
    let one = one_if (has_key k d.0.body) (when_true _ _ y d.2) in
    omega arith

-- lists of the same files have one view, where names and keys are apart
pub one_view : (fs gs : List FileContent) → ((f : FileContent) → Contains fs f → Contains gs f) → ((f : FileContent) → Contains gs f → Contains fs f)
    → AreApart (outlines gs) → ((k : Key) → times_by (has_key k) gs ≤ 1) → view_of fs ≡ view_of gs
one_view fs gs there back apart keys =
    let files : (view_of fs).files ≡ (view_of gs).files = fun_ext (λ n. first_same (file_at n) (λ f. cond (bytes_eq (file_name f) n) 1 0) (file_weighs n) fs gs there back
    (let le = apart.files n in let is = sum_map (λ o. cond (bytes_eq o.name n) 1 0) outline_of gs in omega arith)) in
    let declared : (view_of fs).declared ≡ (view_of gs).declared = fun_ext (λ n. first_same (declared_at n) (named_in n) (declared_weighs n) fs gs there back
    (let le = apart.names n in let is = sum_map (λ o. times n (map (λ h. h.name) o.heads)) outline_of gs in omega arith)) in
    let extensions : (view_of fs).extensions ≡ (view_of gs).extensions = fun_ext (λ k. first_same (extension_at k) (λ f. sum_by (λ d. cond (has_key k d.body) 1 0) (declarations f)) (extension_weighs k) fs gs there back (keys k)) in
    (λ i. record { files = files i; declared = declared i; extensions = extensions i })

apart_in_order : (os ps : List Outline) → IsPermutation os ps → AreApart os → AreApart ps
apart_in_order os ps p a = record {
  files = λ n. let le = a.files n in let is = sum_by-IsPermutation (λ o. cond (bytes_eq o.name n) 1 0) os ps p in omega arith;
  names = λ n. let le = a.names n in let is = sum_by-IsPermutation (λ o. times n (map (λ h. h.name) o.heads)) os ps p in omega arith;
  packages = λ n o h i j e is. a.packages n o h (Contains-permutation ps os o (IsPermutation-sym os ps p) i) j e
      (package_within ps os (λ q k. Contains-permutation ps os q (IsPermutation-sym os ps p) k) n is);
}

times_in_order : (test : Body → Bool) (fs gs : List FileContent) → IsPermutation fs gs → times_by test fs ≡ times_by test gs
times_in_order test fs gs p = sym (sum_by-IsPermutation (λ f. sum_by (λ d. cond (test d.body) 1 0) (declarations f)) fs gs p)

settled_in_order : (fs gs : List FileContent) → IsPermutation fs gs → AreSettled fs → AreSettled gs
settled_in_order fs gs p s =
    let home : (f : FileContent) → Contains gs f → Contains fs f = λ f i. Contains-permutation gs fs f (IsPermutation-sym fs gs p) i in
    record {
      extended = λ k. let le = s.extended k in let is = times_in_order (has_key k) fs gs p in omega arith;
      entries = λ f d m i j e says.
          let one = s.entries f d m (home f i) j e says in
          record { once = sym (times_in_order (is_use d.name) fs gs p) ∙ one.once; map = λ g c k l. one.map g c (home g k) l };
    }

lawful_in_order : (old new other : List FileContent) (meanings : Meanings) → IsPermutation new other → IsLawful old new meanings → IsLawful old other meanings
lawful_in_order old new other meanings p l =
    let both : IsPermutation (outlines (old ++ new)) (outlines (old ++ other)) = IsPermutation-map outline_of _ _ (IsPermutation-append_right old new other p) in
    let after : IsPermutation (old ++ all_linked meanings new) (old ++ all_linked meanings other) = IsPermutation-append_right old _ _ (IsPermutation-map _ new other p) in
    let there : Within (outlines (old ++ new)) (outlines (old ++ other)) = λ o i. Contains-permutation _ _ o both i in
    let back : Within (outlines (old ++ other)) (outlines (old ++ new)) = λ o i. Contains-permutation _ _ o (IsPermutation-sym _ _ both) i in
    let home : (f : FileContent) → Contains other f → Contains new f = λ f i. Contains-permutation other new f (IsPermutation-sym new other p) i in
    record {
      apart = apart_in_order _ _ both l.apart;
      files = λ f j. l.files f (home f j);
      imports = λ f i j k. named_within _ _ there i.file (l.imports f i (home f j) k);
      means = λ f r j k. means_same _ _ there back (outline_of f) r _ (l.means f r (home f j) k);
      sound = λ f d j k. l.sound f d (home f j) k;
      settled = λ f d j k. settled_within _ _ there d.body (l.settled f d (home f j) k);
      together = settled_in_order _ _ after l.together;
    }

pub in_another_order : (old new other after : List FileContent) → IsPermutation new other → AddsLawful old new after → (last : List FileContent) × AddsLawful old other last × (view_of last ≡ view_of after)
in_another_order old new other after p (m, l, is) =
    let moved : IsPermutation (old ++ all_linked m new) (old ++ all_linked m other) = IsPermutation-append_right old _ _ (IsPermutation-map _ new other p) in (
      old ++ all_linked m other,
      (m, lawful_in_order old new other m p l, refl),
      one_view (old ++ all_linked m other) (old ++ all_linked m new)
          (λ f i. Contains-permutation _ _ f (IsPermutation-sym _ _ moved) i) (λ f i. Contains-permutation _ _ f moved i)
          (subst AreApart (sym (outlines_linked old new m)) l.apart) l.together.extended ∙ ap view_of (sym is),
    )

pub views_stay : (old new after : List FileContent) → AddsLawful old new after → Grows (view_of old) (view_of after)
views_stay old new after (m, l, is) = subst (λ fs. Grows (view_of old) (view_of fs)) (sym is) (record {
  files = λ n x e. first_stays (file_at n) old (all_linked m new) x e;
  declared = λ n x e. first_stays (declared_at n) old (all_linked m new) x e;
  extensions = λ k x e. first_stays (extension_at k) old (all_linked m new) x e;
})
