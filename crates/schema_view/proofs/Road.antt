-- Linked files are lawful among themselves, and linking them again leaves them.
use Rattle.std.proofs.Common.{◌≡◌, ℤ, List, [], ◌∷◌, ◌++◌, ◌⊎◌, inl, inr, map, Bool, true, false, eqb, Option, Some, None, refl, sym, ap, ◌∙◌, subst, arith}
use Rattle.std.specs.Prelude.{MatchBool}
use Rattle.std.specs.List.{Contains}
use Rattle.std.proofs.lemmas.List.{map-append}
use Rattle.std.proofs.lemmas.List.Elements.{Contains-append_left, Contains-append_right, Contains-append_cases}
use Rattle.descriptor_records.specs.Content.{Text, FieldContent, FileContent}
use Rattle.schema_view.specs.Files.{Import, imports_of, is_proto3}
use Rattle.schema_view.specs.Scalars.{is_scalar, IsScalarDefault}
use Rattle.schema_view.specs.Declarations.{Body, of_message, of_field, of_oneof, of_enum, of_value, of_service, of_method, of_extension, Declaration, declarations}
use Rattle.schema_view.specs.References.{Reference, Target, a_type, to_message, to_type, references_of, references, fill_type, rename_type, rename_message_type, dotted, linked}
use Rattle.schema_view.specs.Outlines.{Sort, Outline, outline_of, IsNamed, IsDeclared, AreApart}
use Rattle.schema_view.specs.Means.{IsWanted, HoldsNames, has_dot, MeansDotted, MeansUndotted, MeansPlain, MeansBy, HasType, SuitsWant}
use Rattle.schema_view.specs.Rules.{HasType as HasFieldType, IsField, IsSound}
use Rattle.schema_view.specs.Lawful.{outlines, Meanings, all_linked, IsSettled, AreSettled, IsFile, IsLawful, AddsLawful, Builds}
use Rattle.schema_view.proofs.Lists.{contains_none, contains_here, contains_there, contains_map_cases, contains_flat}
use Rattle.schema_view.proofs.Within.{Within, named_within, wanted_within, declared_within, settled_within}
use Rattle.schema_view.proofs.Renames.{map_same, rename_body, renamed, rename_reference, declarations_renamed, outline_renamed, references_renamed}
use Rattle.schema_view.proofs.Agreeing.{IsTyped, file_stays}
use Rattle.schema_view.proofs.Targets.{IsTypeNumber, has_number, type_in, type_is, suits_filled, filled_typed, wanted_filled}

pub outlines_linked : (old new : List FileContent) (meanings : Meanings) → outlines (old ++ all_linked meanings new) ≡ outlines (old ++ new)
outlines_linked old new meanings =
    map-append outline_of old (all_linked meanings new)
    ∙ ap (λ os. outlines old ++ os) (map_same outline_of (λ (f : FileContent). linked (meanings f) f) outline_of (λ f. outline_renamed (λ r. dotted (meanings f r)) f) new)
    ∙ sym (map-append outline_of old new)

pub outlines_left : (old new : List FileContent) → Within (outlines old) (outlines (old ++ new))
outlines_left old new o i = subst (λ os. Contains os o) (sym (map-append outline_of old new)) (Contains-append_left (outlines old) (outlines new) o i)

abbrev pub after_dot : Text → Text
after_dot [] = []
after_dot (b ∷ bs) = bs

module _ (W H : Text → Type 0) where
  wanted_of : (b : Bool) (scope name full : Text) → MatchBool b (MeansDotted W H scope name full) (MeansUndotted W H scope name full) → W full
  wanted_of true scope name full h = h.3
  wanted_of false scope name full h = h.3

  rooted_or : (b : Bool) (scope name rest full : Text) → MatchBool b ((full ≡ rest) × W rest) (MeansPlain W H scope name full) → W full
  rooted_or true scope name rest full h = subst W (sym h.0) h.1
  rooted_or false scope name rest full h = wanted_of (has_dot name) scope name full h

  pub means_wanted : (scope name full : Text) → MeansBy W H scope name full → W full
  means_wanted scope [] full h = wanted_of false scope [] full h
  means_wanted scope (b ∷ name) full h = rooted_or (eqb b 46) scope (b ∷ name) name full h

  pub means_rooted : (scope name n : Text) → name ≡ 46 ∷ n → W n → MeansBy W H scope name n
  means_rooted scope name n e w = subst (λ x. MeansBy W H scope x n) (sym e) (refl, w)

  pub rooted_means : (scope name n full : Text) → name ≡ 46 ∷ n → MeansBy W H scope name full → full ≡ n
  rooted_means scope name n full e h = let r : (full ≡ n) × W n = subst (λ x. MeansBy W H scope x full) e h in r.0

-- what a reference of a linked file means
abbrev pub target_in : Reference → Target
target_in r = record { name = after_dot r.name; type = type_in r.want }

-- a file of the schema, whose references are full names behind dots, with the numbers of their types
pub record FileLinked (os : List Outline) (f : FileContent) : Type 0 where
  pub file : IsFile f
  pub imports : (i : Import) → Contains (imports_of f) i → IsNamed os i.file
  pub rooted : (r : Reference) → Contains (references f) r → r.name ≡ 46 ∷ after_dot r.name
  pub typed : (r : Reference) → Contains (references f) r → IsTyped r.want
  pub wanted : (r : Reference) → Contains (references f) r → IsWanted os (outline_of f) r.want (after_dot r.name)
  pub numbers : (r : Reference) → Contains (references f) r → (s : Sort) × IsDeclared os (after_dot r.name) s × HasType s (type_in r.want)
  pub suits : (r : Reference) → Contains (references f) r → SuitsWant r.want (type_in r.want)
  pub sound : (d : Declaration) → Contains (declarations f) d → IsSound (is_proto3 f) d.body
  pub settled : (d : Declaration) → Contains (declarations f) d → IsSettled os d.body

pub record AreLinked (fs : List FileContent) : Type 0 where
  pub apart : AreApart (outlines fs)
  pub each : (f : FileContent) → Contains fs f → FileLinked (outlines fs) f
  pub together : AreSettled fs

linked_within : (os ps : List Outline) → Within os ps → (f : FileContent) → FileLinked os f → FileLinked ps f
linked_within os ps there f l = record {
  file = l.file;
  imports = λ i j. named_within os ps there i.file (l.imports i j);
  rooted = l.rooted;
  typed = l.typed;
  wanted = λ r j. wanted_within os ps there (outline_of f) r.want (after_dot r.name) (l.wanted r j);
  numbers = λ r j. let n = l.numbers r j in (n.0, declared_within os ps there (after_dot r.name) n.0 n.1, n.2);
  suits = l.suits;
  sound = l.sound;
  settled = λ d j. settled_within os ps there d.body (l.settled d j);
}

-- names and types of fields stay what the rules ask, where types are filled with numbers of messages and enums
type_renamed : (names : Reference → Target) (n : Text) (type : Option ℤ) (name : Option Text) → ((r : Reference) → Contains (to_type n type name) r → IsTypeNumber (names r).type)
    → HasFieldType type name → HasFieldType (fill_type names n type name) (rename_type names n type name)
type_renamed names n None None numbers h = let no : None ≡ Some h.0 = h.1 in absurd (cc)
type_renamed names n (Some k) None numbers h = h
type_renamed names n (Some k) (Some name) numbers h = h
type_renamed names n None (Some name) numbers h = elim (numbers (record { want = a_type None; scope = n; name = name }) (contains_here (record { want = a_type None; scope = n; name = name }) [])) [ inl e ↦ inr (inl e) | inr e ↦ inr (inr e) ]

no_scalar : (n : ℤ) → IsTypeNumber n → is_scalar n ≡ true → ⊥
no_scalar n (inl e) t = let no : false ≡ true = ap is_scalar (sym e) ∙ t in absurd (cc)
no_scalar n (inr e) t = let no : false ≡ true = ap is_scalar (sym e) ∙ t in absurd (cc)

default_renamed : (names : Reference → Target) (n : Text) (default : Option Text) (type : Option ℤ) (name : Option Text) → ((r : Reference) → Contains (to_type n type name) r → IsTypeNumber (names r).type)
    → ((text : Text) (k : ℤ) → default ≡ Some text → type ≡ Some k → is_scalar k ≡ true → IsScalarDefault k text)
    → (text : Text) (k : ℤ) → default ≡ Some text → fill_type names n type name ≡ Some k → is_scalar k ≡ true → IsScalarDefault k text
default_renamed names n default (Some m) name numbers h text k e f t = h text k e f t
default_renamed names n default None None numbers h text k e f t = let no : None ≡ Some k = f in absurd (cc)
default_renamed names n default None (Some name) numbers h text k e f t =
    let r : Reference = record { want = a_type None; scope = n; name = name } in
    let is : (names r).type ≡ k = cc in
    absurd (no_scalar k (subst IsTypeNumber is (numbers r (contains_here r []))) t)

field_renamed : (names : Reference → Target) (n : Text) (f : FieldContent) (to : Option Text) → ((r : Reference) → Contains (to_type n f.field_type f.type_name) r → IsTypeNumber (names r).type)
    → IsField f → IsField (record f { extendee = to; field_type = fill_type names n f.field_type f.type_name; type_name = rename_type names n f.field_type f.type_name })
field_renamed names n f to numbers h = record {
  name = h.name;
  number = h.number;
  label = h.label;
  type = type_renamed names n f.field_type f.type_name numbers h.type;
  default = default_renamed names n f.default_value f.field_type f.type_name numbers h.default;
}

there_renamed : (names : Reference → Target) (n : Text) (t : Option Text) → ((a : Text) × (t ≡ Some a)) → (a : Text) × (rename_message_type names n t ≡ Some a)
there_renamed names n None h = let no : None ≡ Some h.0 = h.1 in absurd (cc)
there_renamed names n (Some t) h = (_, refl)

sound_renamed : (names : Reference → Target) (proto3 : Bool) (n : Text) (b : Body) → ((r : Reference) → Contains (references_of (record { name = n; body = b })) r → IsTypeNumber (names r).type)
    → IsSound proto3 b → IsSound proto3 (rename_body names n b)
sound_renamed names proto3 n (of_message m) numbers h = h
sound_renamed names proto3 n (of_field f) numbers h = field_renamed names n f f.extendee numbers h
sound_renamed names proto3 n (of_oneof o) numbers h = h
sound_renamed names proto3 n (of_enum e) numbers h = h
sound_renamed names proto3 n (of_value v) numbers h = h
sound_renamed names proto3 n (of_service s) numbers h = h
sound_renamed names proto3 n (of_method m) numbers h = record { name = h.name; input = there_renamed names n m.input_type h.input; output = there_renamed names n m.output_type h.output }
sound_renamed names proto3 n (of_extension x) numbers h = (
  field_renamed names n x (rename_message_type names n x.extendee)
      (λ r i. numbers r (Contains-append_right (to_message n x.extendee) (to_type n x.field_type x.type_name) r i)) h.0,
  there_renamed names n x.extendee h.1,
)

linked_file : (old new : List FileContent) (meanings : Meanings) → IsLawful old new meanings → (f : FileContent) → Contains new f → FileLinked (outlines (old ++ new)) (linked (meanings f) f)
linked_file old new meanings l f i =
    let os : List Outline = outlines (old ++ new) in
    let names : Reference → Target = λ r. dotted (meanings f r) in
    let home : (r : Reference) → Contains (references (linked (meanings f) f)) r → (q : Reference) × Contains (references f) q × (rename_reference names q ≡ r)
    = λ r j. contains_map_cases (rename_reference names) (references f) r (subst (λ rs. Contains rs r) (references_renamed names f) j) in
    let place : (d : Declaration) → Contains (declarations (linked (meanings f) f)) d → (q : Declaration) × Contains (declarations f) q × (renamed names q ≡ d)
    = λ d j. contains_map_cases (renamed names) (declarations f) d (subst (λ ds. Contains ds d) (declarations_renamed names f) j) in
    let number : (q : Reference) → Contains (references f) q → IsTypeNumber (meanings f q).type = λ q j. let m = l.means f q i j in has_number m.typed.0 (meanings f q).type m.typed.2 in
    let there : (q : Reference) → Contains (references f) q → type_in (rename_reference names q).want ≡ (meanings f q).type
    = λ q j. type_is names q.want (meanings f q).type (number q j) (l.means f q i j).suits in
    record {
      file = record { name = (l.files f i).name; syntax = (l.files f i).syntax; publics = (l.files f i).publics };
      imports = λ k j. l.imports f k i j;
      rooted = λ r j. let q = home r j in subst (λ (x : Reference). x.name ≡ 46 ∷ after_dot x.name) q.2 refl;
      typed = λ r j. let q = home r j in subst (λ (x : Reference). IsTyped x.want) q.2 (filled_typed names q.0.want (meanings f q.0).type);
      wanted = λ r j. let q = home r j in subst (λ (x : Reference). IsWanted os (outline_of (linked (meanings f) f)) x.want (after_dot x.name)) q.2
          (wanted_filled names q.0.want (meanings f q.0).type os (outline_of (linked (meanings f) f)) (meanings f q.0).name
          (subst (λ o. IsWanted os o q.0.want (meanings f q.0).name) (sym (outline_renamed names f))
          (means_wanted (IsWanted os (outline_of f) q.0.want) (HoldsNames os) q.0.scope q.0.name (meanings f q.0).name (l.means f q.0 i q.1).named)));
      numbers = λ r j. let q = home r j in subst (λ (x : Reference). (s : Sort) × IsDeclared os (after_dot x.name) s × HasType s (type_in x.want)) q.2
          (let m = l.means f q.0 i q.1 in (m.typed.0, m.typed.1, subst (HasType m.typed.0) (sym (there q.0 q.1)) m.typed.2));
      suits = λ r j. let q = home r j in subst (λ (x : Reference). SuitsWant x.want (type_in x.want)) q.2
          (subst (SuitsWant (rename_reference names q.0).want) (sym (there q.0 q.1)) (suits_filled names q.0.want (meanings f q.0).type (l.means f q.0 i q.1).suits));
      sound = λ d j. let q = place d j in subst (λ (x : Declaration). IsSound (is_proto3 f) x.body) q.2
          (sound_renamed names (is_proto3 f) q.0.name q.0.body (λ r k. number r (contains_flat references_of (declarations f) q.0 r q.1 k)) (l.sound f q.0 i q.1));
      settled = λ d j. l.settled f d i j;
    }

adds_linked : (old new after : List FileContent) → AreLinked old → AddsLawful old new after → AreLinked after
adds_linked old new after l (meanings, lawful, is) = subst AreLinked (sym is) (record {
  apart = subst AreApart (sym (outlines_linked old new meanings)) lawful.apart;
  each = λ f i. subst (λ os. FileLinked os f) (sym (outlines_linked old new meanings)) (by f (Contains-append_cases old (all_linked meanings new) f i));
  together = lawful.together;
}) where
  by : (f : FileContent) → Contains old f ⊎ Contains (all_linked meanings new) f → FileLinked (outlines (old ++ new)) f
  by f (inl i) = linked_within (outlines old) (outlines (old ++ new)) (outlines_left old new) f (l.each f i)
  by f (inr i) = let q = contains_map_cases (λ (g : FileContent). linked (meanings g) g) new f i in subst (FileLinked (outlines (old ++ new))) q.2 (linked_file old new meanings lawful q.0 q.1)

none_linked : AreLinked []
none_linked = record {
  apart = record { files = λ n. omega arith; names = λ n. omega arith; packages = λ n o h i j e p. absurd (contains_none o i) };
  each = λ f i. absurd (contains_none f i);
  together = record { extended = λ k. omega arith; entries = λ f d m i j e s. absurd (contains_none f i) };
}

pub built_linked : (batches : List (List FileContent)) (after : List FileContent) → Builds batches after → AreLinked after
built_linked [] after is = subst AreLinked (sym is) none_linked
built_linked (new ∷ earlier) after (old, before, adds) = adds_linked old new after (built_linked earlier old before) adds

-- each reference as it is written, without its dot
abbrev written : Meanings
written f r = target_in r

map_fixed : {X : Type 0} (g : X → X) (xs : List X) → ((x : X) → Contains xs x → g x ≡ x) → map g xs ≡ xs
map_fixed g [] fixed = refl
map_fixed g (x ∷ xs) fixed = ap (λ y. y ∷ map g xs) (fixed x (contains_here x xs)) ∙ ap (λ ys. x ∷ ys) (map_fixed g xs (λ y i. fixed y (contains_there x xs y i)))

file_fixed : (os : List Outline) (f : FileContent) → FileLinked os f → linked (written f) f ≡ f
file_fixed os f l = file_stays (λ r. dotted (written f r)) f (λ r j. (sym (l.rooted r j), l.typed r j))

stays_linked : (fs : List FileContent) → AreLinked fs → all_linked written fs ≡ fs
stays_linked fs l = map_fixed (λ (f : FileContent). linked (written f) f) fs (λ f i. file_fixed (outlines fs) f (l.each f i))

linked_lawful : (fs : List FileContent) → AreLinked fs → IsLawful [] fs written
linked_lawful fs l = record {
  apart = l.apart;
  files = λ f i. (l.each f i).file;
  imports = λ f i j k. (l.each f j).imports i k;
  means = λ f r j k. record {
    named = means_rooted (IsWanted (outlines fs) (outline_of f) r.want) (HoldsNames (outlines fs)) r.scope r.name (after_dot r.name) ((l.each f j).rooted r k) ((l.each f j).wanted r k);
    typed = (l.each f j).numbers r k;
    suits = (l.each f j).suits r k;
  };
  sound = λ f d j k. (l.each f j).sound d k;
  settled = λ f d j k. (l.each f j).settled d (subst (λ g. Contains (declarations g) d) (file_fixed (outlines fs) f (l.each f j)) k);
  together = subst AreSettled (sym (stays_linked fs l)) l.together;
}

-- linked once more, by themselves and all at once, they are what they were
pub again : (fs : List FileContent) → AreLinked fs → AddsLawful [] fs fs
again fs l = (written, linked_lawful fs l, sym (stays_linked fs l))

-- however their references are read
pub only_again : (fs after : List FileContent) → AreLinked fs → AddsLawful [] fs after → after ≡ fs
only_again fs after l (meanings, lawful, is) = is ∙ map_fixed (λ (f : FileContent). linked (meanings f) f) fs (λ f i. file_stays (λ r. dotted (meanings f r)) f (λ r j. (
  ap (λ n. 46 ∷ n) (rooted_means (IsWanted (outlines fs) (outline_of f) r.want) (HoldsNames (outlines fs)) r.scope r.name (after_dot r.name) (meanings f r).name ((l.each f i).rooted r j) (lawful.means f r i j).named)
      ∙ sym ((l.each f i).rooted r j),
  (l.each f i).typed r j,
)))
