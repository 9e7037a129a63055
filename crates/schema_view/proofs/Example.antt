-- The file is lawful.
use Rattle.std.proofs.Common.{◌≡◌, ◌≤◌, ◌+◌, pos, List, [], ◌∷◌, ◌++◌, ◌⊎◌, inl, inr, length, Bool, true, false, cond, Some, None, refl, sym, ap, ◌∙◌, subst, arith}
use Rattle.std.specs.Prelude.{codes}
use Rattle.std.specs.List.{Contains}
use Rattle.std.specs.Str.{bytes_eq}
use Rattle.std.proofs.lemmas.List.{length-append}
use Rattle.std.proofs.lemmas.Slice.Eq.{bytes_eq-Decides}
use Rattle.descriptor_records.specs.Content.{Text, FileContent}
use Rattle.schema_view.specs.Files.{Import, imports_of, is_proto3}
use Rattle.schema_view.specs.Declarations.{FieldFacts, MessageFacts, of_message, of_field, Declaration, declarations}
use Rattle.schema_view.specs.References.{a_type, Reference, references, linked}
use Rattle.schema_view.specs.Outlines.{Outline, outline_of, Head, message_sort, other_sort, IsScope, IsNamed, IsPackage, AreApart, times_declared}
use Rattle.schema_view.specs.Means.{IsWanted, ReferenceMeans}
use Rattle.schema_view.specs.Rules.{is_number, IsFieldNumber, IsMessage, IsField, SaysEntry, IsSound}
use Rattle.schema_view.specs.Lawful.{outlines, Meanings, IsSettled, IsFile, IsLawful, AddsLawful}
use Rattle.schema_view.specs.Example.{field_f, file_p}
use Rattle.schema_view.proofs.Lists.{contains_none, contains_here, contains_cases}

abbrev os : List Outline
os = outlines (file_p ∷ [])

abbrev means : Meanings
means f r = record { name = codes "p.M"; type = pos 11 }

-- one test, or two of different texts
one : (b : Bool) → 0 + cond b 1 0 ≤ 1
one true = omega arith
one false = omega arith

two : (b c : Bool) → (b ≡ true → c ≡ true → ⊥) → 0 + (0 + cond b 1 0 + cond c 1 0) ≤ 1
two true true no_both = absurd (no_both refl refl)
two true false no_both = omega arith
two false true no_both = omega arith
two false false no_both = omega arith

apart_names : (n : Text) → times_declared n os ≤ 1
apart_names n = two (bytes_eq (codes "p.M") n) (bytes_eq (codes "p.M.f") n) (λ e f. different ((bytes_eq-Decides (codes "p.M") n).0 e ∙ sym ((bytes_eq-Decides (codes "p.M.f") n).0 f))) where
  different : codes "p.M" ≡ codes "p.M.f" → ⊥
  different e = cc

long : (n : Text) → 3 ≤ length n → IsPackage os n → ⊥
long n le (o, i, s) = by (contains_cases (outline_of file_p) [] o i) s where
  short : IsScope (codes "p") n → ⊥
  short (inl e) = let l : length n ≡ 1 = ap length e in omega arith
  short (inr (inl e)) = let l : length n ≡ 0 = ap length e in omega arith
  short (inr (inr (rest, e))) = let l : 1 ≡ length (n ++ (46 ∷ rest)) = ap length e in let m = length-append n (46 ∷ rest) in omega arith

  by : (outline_of file_p ≡ o) ⊎ Contains [] o → IsScope o.package_name n → ⊥
  by (inl e) s = short (subst (λ (x : Outline). IsScope x.package_name n) (sym e) s)
  by (inr j) s = contains_none o j

head_long : (o : Outline) (h : Head) → Contains os o → Contains o.heads h → 3 ≤ length h.name
head_long o h i j = by (contains_cases (outline_of file_p) [] o i) where
  first : Head
  first = record { name = codes "p.M"; sort = message_sort [] [] }

  second : Head
  second = record { name = codes "p.M.f"; sort = other_sort }

  at : (first ≡ h) ⊎ Contains (second ∷ []) h → 3 ≤ length h.name
  at (inl e) = let l : 3 ≡ length h.name = ap (λ (x : Head). length x.name) e in omega arith
  at (inr k) = elim (contains_cases second [] h k) [ inl e ↦ (let l : 5 ≡ length h.name = ap (λ (x : Head). length x.name) e in omega arith) | inr l ↦ absurd (contains_none h l) ]

  by : (outline_of file_p ≡ o) ⊎ Contains [] o → 3 ≤ length h.name
  by (inl e) = at (contains_cases first (second ∷ []) h (subst (λ (x : Outline). Contains x.heads h) (sym e) j))
  by (inr k) = absurd (contains_none o k)

apart : AreApart os
apart = record {
  files = λ n. one (bytes_eq (codes "p.proto") n);
  names = apart_names;
  packages = λ n o h i j e p. absurd (long n (let l = head_long o h i j in let m = ap length e in omega arith) p);
}

only_file : (P : FileContent → Type 0) → P file_p → (f : FileContent) → Contains (file_p ∷ []) f → P f
only_file P p f i = elim (contains_cases file_p [] f i) [ inl e ↦ subst P e p | inr j ↦ absurd (contains_none f j) ]

abbrev the_reference : Reference
the_reference = record { want = a_type (Some (pos 11)); scope = codes "p.M.f"; name = codes ".p.M" }

only_reference : (P : Reference → Type 0) → P the_reference → (r : Reference) → Contains (references file_p) r → P r
only_reference P p r i = elim (contains_cases the_reference [] r i) [ inl e ↦ subst P e p | inr j ↦ absurd (contains_none r j) ]

abbrev facts_f : FieldFacts
facts_f = record { name = Some (codes "f"); number = Some (pos 1); label = Some (pos 1); scalar = None; oneof = None }

abbrev facts_m : MessageFacts
facts_m = record { name = Some (codes "M"); fields = facts_f ∷ []; oneofs = 0; extensions = []; reserved = []; reserved_names = []; options = None }

abbrev message_declared : Declaration
message_declared = record { name = codes "p.M"; body = of_message facts_m }

abbrev field_declared : Declaration
field_declared = record { name = codes "p.M.f"; body = of_field field_f }

each_declaration : (P : Declaration → Type 0) → P message_declared → P field_declared → (d : Declaration) → Contains (declarations file_p) d → P d
each_declaration P p q d i = elim (contains_cases message_declared (field_declared ∷ []) d i) [
  | inl e ↦ subst P e p
  | inr j ↦ (elim (contains_cases field_declared [] d j) [ inl e ↦ subst P e q | inr k ↦ absurd (contains_none d k) ])
]

wanted : IsWanted os (outline_of file_p) (a_type (Some (pos 11))) (codes "p.M")
wanted = (outline_of file_p, record { name = codes "p.M"; sort = message_sort [] [] }, contains_here (outline_of file_p) [], contains_here (record { name = codes "p.M"; sort = message_sort [] [] }) (record { name = codes "p.M.f"; sort = other_sort } ∷ []), refl, refl, inl refl)

mean : (f : FileContent) → Contains (file_p ∷ []) f → (r : Reference) → Contains (references f) r → ReferenceMeans os (outline_of f) r (means f r)
mean = only_file (λ g. (r : Reference) → Contains (references g) r → ReferenceMeans os (outline_of g) r (means g r)) (only_reference (λ r. ReferenceMeans os (outline_of file_p) r (means file_p r)) (record {
  named = (refl, wanted);
  typed = (message_sort [] [], (outline_of file_p, record { name = codes "p.M"; sort = message_sort [] [] }, contains_here (outline_of file_p) [], contains_here (record { name = codes "p.M"; sort = message_sort [] [] }) (record { name = codes "p.M.f"; sort = other_sort } ∷ []), refl, refl), refl);
  suits = inl refl;
}))

number_one : IsFieldNumber (pos 1)
number_one = record { least = omega arith; most = omega arith; kept = inl (omega arith) }

field_sound : IsField field_f
field_sound = record {
  name = (codes "f", refl);
  number = (pos 1, refl, number_one);
  label = inr (pos 1, refl, omega arith, omega arith);
  type = inr (inl refl);
  default = λ text n e f t. absurd (cc);
}

message_sound : IsMessage facts_m
message_sound = record {
  name = (codes "M", refl);
  apart = λ n. one (is_number n (Some (pos 1)));
  unreserved = λ f n r i e j k. contains_none r j;
  no_extension = λ f n r i e j k. contains_none r j;
  oneofs = (inl refl, tt);
  bounds = (tt, tt);
  entry = λ s. let no : None ≡ Some s.0 = s.1 in absurd (cc);
}

no_entry : (f : FileContent) → Contains (file_p ∷ []) f → (d : Declaration) → Contains (declarations f) d → (m : MessageFacts) → d.body ≡ of_message m → SaysEntry m.options → ⊥
no_entry = only_file (λ g. (d : Declaration) → Contains (declarations g) d → (m : MessageFacts) → d.body ≡ of_message m → SaysEntry m.options → ⊥)
    (each_declaration (λ d. (m : MessageFacts) → d.body ≡ of_message m → SaysEntry m.options → ⊥) not_m (λ m e s. absurd (cc))) where
      not_m : (m : MessageFacts) → of_message facts_m ≡ of_message m → SaysEntry m.options → ⊥
      not_m m e s = let none : None ≡ m.options = cc in let no : None ≡ Some s.0 = none ∙ s.1 in absurd (cc)

lawful : IsLawful [] (file_p ∷ []) means
lawful = record {
  apart = apart;
  files = only_file IsFile (record { name = (codes "p.proto", refl); syntax = inr (inr refl); publics = λ i j. absurd (contains_none i j) });
  imports = λ f i j k. only_file (λ g. (i : Import) → Contains (imports_of g) i → IsNamed os i.file) (λ i k. absurd (contains_none i k)) f j i k;
  means = λ f r j k. mean f j r k;
  sound = λ f d j k. only_file (λ g. (d : Declaration) → Contains (declarations g) d → IsSound (is_proto3 g) d.body) (each_declaration (λ e. IsSound true e.body) message_sound field_sound) f j d k;
  settled = λ f d j k. only_file (λ g. (d : Declaration) → Contains (declarations (linked (means g) g)) d → IsSettled os d.body)
      (each_declaration (λ e. IsSettled os e.body) (record { numbers = tt; defaults = tt }) (record { numbers = tt; defaults = λ text full e. absurd (cc) })) f j d k;
  together = record {
    extended = λ k. omega arith;
    entries = λ f d m i j e s. absurd (no_entry f i d j m e s);
  };
}

pub example_adds : AddsLawful [] (file_p ∷ []) (file_p ∷ [])
example_adds = (means, lawful, refl)
