-- The view of files where of options only what linking reads is left, and what is the same of views
-- with it.
use Rattle.std.proofs.Common.{◌≡◌, List, [], ◌∷◌, map, Bool, true, false, Option, Some, None, refl, sym, ap, ◌∙◌}
use Rattle.std.specs.Option.{option_map}
use Rattle.std.specs.Str.{bytes_eq}
use Rattle.descriptor_records.specs.Content.{Text, FileContent}
use Rattle.schema_view.specs.Files.{file_name}
use Rattle.schema_view.specs.Declarations.{Declaration, declarations}
use Rattle.schema_view.specs.Lawful.{Key, has_key}
use Rattle.schema_view.specs.Views.{FileFacts, facts_of, Held, View, or_else, first, when, file_at, declared_at, extension_at, view_of}
use Rattle.texts_view.specs.ReadOptions.{read_options, read_file}
use Rattle.texts_view.proofs.Reading.{read_body, read_declaration, declarations_read}
use Rattle.texts_view.proofs.Alike.{key_read}

-- ---- the view

abbrev pub read_file_facts : FileFacts → FileFacts
read_file_facts f = record f { options = option_map read_options f.options }

abbrev pub read_held : Held → Held
read_held h = record h { body = read_body h.body }

abbrev pub read_view : View → View
read_view v = record {
  files = λ n. option_map read_file_facts (v.files n);
  declared = λ n. option_map read_held (v.declared n);
  extensions = v.extensions;
}

or_else_mapped : {Y Z : Type 0} (k : Y → Z) (o p : Option Y)
    → or_else (option_map k o) (option_map k p) ≡ option_map k (or_else o p)
or_else_mapped k None p = refl
or_else_mapped k (Some y) p = refl

when_mapped : {Y Z : Type 0} (k : Y → Z) (b : Bool) (y : Y)
    → when b (k y) ≡ option_map k (when b y)
when_mapped k true y = refl
when_mapped k false y = refl

first_mapped : {X Y Z A : Type 0} (g : X → Option Y) (f : A → X) (k : Z → Y) (h : A → Option Z)
    → ((x : A) → g (f x) ≡ option_map k (h x)) → (xs : List A)
    → first g (map f xs) ≡ option_map k (first h xs)
first_mapped g f k h e [] = refl
first_mapped g f k h e (x ∷ xs) =
    (λ i. or_else (e x i) (first_mapped g f k h e xs i)) ∙ or_else_mapped k (h x) (first h xs)

pub first_same : {X Y A : Type 0} (g : X → Option Y) (f : A → X) (h : A → Option Y)
    → ((x : A) → g (f x) ≡ h x) → (xs : List A) → first g (map f xs) ≡ first h xs
first_same g f h e [] = refl
first_same g f h e (x ∷ xs) = λ i. or_else (e x i) (first_same g f h e xs i)

file_at_read : (n : Text) (f : FileContent)
    → file_at n (read_file f) ≡ option_map read_file_facts (file_at n f)
file_at_read n f = when_mapped read_file_facts (bytes_eq (file_name f) n) (facts_of f)

declared_at_read : (n : Text) (f : FileContent)
    → declared_at n (read_file f) ≡ option_map read_held (declared_at n f)
declared_at_read n f =
    let held : Declaration → Option Held
    = λ d. when (bytes_eq d.name n) (record { body = d.body; file = file_name f }) in
    ap (first held) (declarations_read f)
    ∙ first_mapped held read_declaration read_held held
    (λ d. when_mapped read_held (bytes_eq d.name n)
    (record { body = d.body; file = file_name f })) (declarations f)

extension_at_read : (k : Key) (f : FileContent) → extension_at k (read_file f) ≡ extension_at k f
extension_at_read k f =
    let name : Declaration → Option Text = λ d. when (has_key k d.body) d.name in
    ap (first name) (declarations_read f)
    ∙ first_same name read_declaration name (λ d. ap (λ b. when b d.name) (key_read k d.body))
    (declarations f)

view_read : (fs : List FileContent) → view_of (map read_file fs) ≡ read_view (view_of fs)
view_read fs = λ i. record {
  files = λ n. first_mapped (file_at n) read_file read_file_facts (file_at n)
      (file_at_read n) fs i;
  declared = λ n. first_mapped (declared_at n) read_file read_held (declared_at n)
      (declared_at_read n) fs i;
  extensions = λ k. first_same (extension_at k) read_file (extension_at k)
      (extension_at_read k) fs i;
}

-- what is the same of a view without other options is the same of files that differ in these
pub of_views_alike : {X : Type 0} (g : View → X) → ((v : View) → g (read_view v) ≡ g v)
    → (a b : List FileContent) → map read_file a ≡ map read_file b → g (view_of a) ≡ g (view_of b)
of_views_alike g same a b e =
    sym (same (view_of a)) ∙ ap g (sym (view_read a)) ∙ ap (λ fs. g (view_of fs)) e
    ∙ ap g (view_read b) ∙ same (view_of b)
