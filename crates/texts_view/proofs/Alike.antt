-- Files that differ alone in options that linking does not read, and in locations, are linked
-- together.
use Rattle.std.proofs.Common.{◌≡◌, ◌≤◌, ℕ, List, [], map, Bool, cond, Option, None, refl, sym, ap, ◌∙◌, subst, sum_by}
use Rattle.std.specs.List.{Contains}
use Rattle.descriptor_records.specs.Content.{Text, OptionsContent, FileContent}
use Rattle.schema_view.specs.Files.{imports_of, is_proto3}
use Rattle.schema_view.specs.Declarations.{MessageFacts, Body, of_message, Declaration, declarations}
use Rattle.schema_view.specs.References.{Reference, references}
use Rattle.schema_view.specs.Outlines.{Outline, outline_of, AreApart}
use Rattle.schema_view.specs.Means.{IsWanted}
use Rattle.schema_view.specs.Rules.{SaysEntry, IsSound}
use Rattle.schema_view.specs.Lawful.{outlines, Key, has_key, times_by, is_use, IsMapUse, IsOneMap, KeepsNumber, SuitsEnum, IsSettled, AreSettled, IsFile, AddsLawful, Builds}
use Rattle.schema_view.proofs.Lists.{contains_map, contains_map_cases, sum_map, sum_same}
use Rattle.schema_view.proofs.Renames.{map_same}
use Rattle.schema_view.proofs.Road.{after_dot, FileLinked, AreLinked, built_linked, again, only_again}
use Rattle.texts_view.specs.ReadOptions.{read_file}
use Rattle.texts_view.proofs.Reading.{read_body, read_declaration, declarations_read, references_read, outline_read}
use Rattle.texts_view.proofs.Sound.{says_alike, sound_alike}

-- ---- what linked files say of each other

keeps_read : (os : List Outline) (b : Body) → KeepsNumber os (read_body b) ≡ KeepsNumber os b
keeps_read os (of_message m) = refl
keeps_read os b = refl

suits_read : (os : List Outline) (b : Body) → SuitsEnum os (read_body b) ≡ SuitsEnum os b
suits_read os (of_message m) = refl
suits_read os b = refl

map_use_read : (full : Text) (b : Body) → IsMapUse full (read_body b) ≡ IsMapUse full b
map_use_read full (of_message m) = refl
map_use_read full b = refl

-- what holds of bodies whatever their other options holds of bodies that differ in these
carried : (P : Body → Type 0) → ((b : Body) → P (read_body b) ≡ P b) → (b c : Body)
    → read_body b ≡ read_body c → P b → P c
carried P read b c e p = subst (λ X. X) (sym (read b) ∙ ap P e ∙ read c) p

settled_alike : (os : List Outline) (b c : Body) → read_body b ≡ read_body c
    → IsSettled os b → IsSettled os c
settled_alike os b c e is = record {
  numbers = carried (KeepsNumber os) (keeps_read os) b c e is.numbers;
  defaults = carried (SuitsEnum os) (suits_read os) b c e is.defaults;
}

pub key_read : (k : Key) (b : Body) → has_key k (read_body b) ≡ has_key k b
key_read k (of_message m) = refl
key_read k b = refl

use_read : (full : Text) (b : Body) → is_use full (read_body b) ≡ is_use full b
use_read full (of_message m) = refl
use_read full b = refl

-- the types of map entries
abbrev message_options : Body → Option OptionsContent
message_options (of_message m) = m.options
message_options _ = None

entry_alike : (b c : Body) (m : MessageFacts) → read_body b ≡ read_body c → c ≡ of_message m
    → SaysEntry m.options → (k : MessageFacts) × (b ≡ of_message k) × SaysEntry k.options
entry_alike (of_message k) c m e is says =
    let same : read_body (of_message k) ≡ read_body (of_message m) = e ∙ ap read_body is in
    (k, refl, says_alike m.options k.options (sym (ap message_options same)) says)
entry_alike b c m e is says =
    let no : read_body b ≡ read_body (of_message m) = e ∙ ap read_body is in absurd (cc)

-- ---- counts

times_read : (test : Body → Bool) → ((b : Body) → test (read_body b) ≡ test b)
    → (fs : List FileContent) → times_by test (map read_file fs) ≡ times_by test fs
times_read test same fs =
    let weight : Declaration → ℕ = λ d. cond (test d.body) 1 0 in
    sum_map (λ (f : FileContent). sum_by weight (declarations f)) read_file fs
    ∙ sum_same (λ (f : FileContent). sum_by weight (declarations (read_file f)))
    (λ (f : FileContent). sum_by weight (declarations f))
    (λ f. ap (sum_by weight) (declarations_read f)
    ∙ sum_map weight read_declaration (declarations f)
    ∙ sum_same (λ (d : Declaration). weight (read_declaration d)) weight
    (λ d. ap (λ b. cond b 1 0) (same d.body)) (declarations f)) fs

-- ---- one file

module _ (g f : FileContent) (e : read_file g ≡ read_file f) where
  outline_alike : outline_of g ≡ outline_of f
  outline_alike = sym (outline_read g) ∙ ap outline_of e ∙ outline_read f

  references_alike : references f ≡ references g
  references_alike = sym (references_read f) ∙ ap references (sym e) ∙ references_read g

  declared_alike : (d : Declaration) → Contains (declarations f) d
      → (c : Declaration) × Contains (declarations g) c × (read_declaration c ≡ read_declaration d)
  declared_alike d i = contains_map_cases read_declaration (declarations g) (read_declaration d)
      (subst (λ ds. Contains ds (read_declaration d))
      (sym (declarations_read f) ∙ ap declarations (sym e) ∙ declarations_read g)
      (contains_map read_declaration (declarations f) d i))

  proto3_alike : is_proto3 g ≡ is_proto3 f
  proto3_alike = ap is_proto3 e

  file_read : (h : FileContent) → IsFile h → IsFile (read_file h)
  file_read h is = record { name = is.name; syntax = is.syntax; publics = is.publics }

  file_held : (h : FileContent) → IsFile (read_file h) → IsFile h
  file_held h is = record { name = is.name; syntax = is.syntax; publics = is.publics }

  file_alike : (os : List Outline) → FileLinked os g → FileLinked os f
  file_alike os l =
      let back : (r : Reference) → Contains (references f) r → Contains (references g) r
      = λ r i. subst (λ rs. Contains rs r) references_alike i in
      record {
        file = file_held f (subst IsFile e (file_read g l.file));
        imports = λ k i. l.imports k (subst (λ is. Contains is k) (ap imports_of (sym e)) i);
        rooted = λ r i. l.rooted r (back r i);
        typed = λ r i. l.typed r (back r i);
        wanted = λ r i. subst (λ o. IsWanted os o r.want (after_dot r.name)) outline_alike
            (l.wanted r (back r i));
        numbers = λ r i. l.numbers r (back r i);
        suits = λ r i. l.suits r (back r i);
        sound = λ d i. let q = declared_alike d i in
            sound_alike (is_proto3 f) q.0.body d.body (ap (λ (x : Declaration). x.body) q.2)
            (subst (λ p. IsSound p q.0.body) proto3_alike (l.sound q.0 q.1));
        settled = λ d i. let q = declared_alike d i in
            settled_alike os q.0.body d.body (ap (λ (x : Declaration). x.body) q.2)
            (l.settled q.0 q.1);
      }

-- ---- all files together

module _ (fs gs : List FileContent) (e : map read_file fs ≡ map read_file gs) where
  outlines_alike : outlines fs ≡ outlines gs
  outlines_alike =
      sym (map_same outline_of read_file outline_of outline_read fs)
      ∙ ap (map outline_of) e
      ∙ map_same outline_of read_file outline_of outline_read gs

  times_alike : (test : Body → Bool) → ((b : Body) → test (read_body b) ≡ test b)
      → times_by test fs ≡ times_by test gs
  times_alike test same =
      sym (times_read test same fs) ∙ ap (times_by test) e ∙ times_read test same gs

  found : (f : FileContent) → Contains gs f
      → (g : FileContent) × Contains fs g × (read_file g ≡ read_file f)
  found f i = contains_map_cases read_file fs (read_file f)
      (subst (λ hs. Contains hs (read_file f)) (sym e) (contains_map read_file gs f i))

  one_map_alike : (n m : Text) → n ≡ m → IsOneMap fs n → IsOneMap gs m
  one_map_alike n m same is = record {
    once = sym (times_alike (is_use m) (use_read m)) ∙ ap (λ t. times_by (is_use t) fs) (sym same)
        ∙ is.once;
    map = λ f d i j.
        let p = found f i in
        let q = declared_alike p.0 f p.2 d j in
        subst (λ t. IsMapUse t d.body) same
        (carried (IsMapUse n) (map_use_read n) q.0.body d.body
        (ap (λ (x : Declaration). x.body) q.2) (is.map p.0 q.0 p.1 q.1));
  }

  settled_together : AreSettled fs → AreSettled gs
  settled_together is = record {
    extended = λ k. subst (λ n. n ≤ 1) (times_alike (has_key k) (key_read k)) (is.extended k);
    entries = λ f d m i j body says.
        let p = found f i in
        let q = declared_alike p.0 f p.2 d j in
        let k = entry_alike q.0.body d.body m (ap (λ (x : Declaration). x.body) q.2) body says in
        one_map_alike q.0.name d.name (ap (λ (x : Declaration). x.name) q.2)
        (is.entries p.0 q.0 k.0 p.1 q.1 k.1 k.2);
  }

  linked_alike : AreLinked fs → AreLinked gs
  linked_alike l = record {
    apart = subst AreApart outlines_alike l.apart;
    each = λ f i. let p = found f i in
        subst (λ os. FileLinked os f) outlines_alike
        (file_alike p.0 f p.2 (outlines fs) (l.each p.0 p.1));
    together = settled_together l.together;
  }

-- ---- the law

built_alike : (batches : List (List FileContent)) (after files : List FileContent)
    → Builds batches after → map read_file files ≡ map read_file after → AreLinked files
built_alike batches after files built e =
    linked_alike after files (sym e) (built_linked batches after built)

pub stand_again : (batches : List (List FileContent)) (after files : List FileContent)
    → Builds batches after → map read_file files ≡ map read_file after
    → AddsLawful [] files files
stand_again batches after files built e = again files (built_alike batches after files built e)

pub only_stand : (batches : List (List FileContent)) (after files last : List FileContent)
    → Builds batches after → map read_file files ≡ map read_file after
    → AddsLawful [] files last → last ≡ files
only_stand batches after files last built e adds =
    only_again files last (built_alike batches after files built e) adds
