-- What names of options lead to reads nothing of lines, columns and comments.
use Rattle.std.proofs.Common.{Bool, true, false, List, ℕ, map, subst, sym}
use Rattle.std.specs.Prelude.{MatchBool}
use Rattle.std.specs.List.{Contains}
use Rattle.descriptor_records.specs.Content.{FileContent, NameContent, Text, unlocated}
use Rattle.option_setter.specs.declared.option_setter.NameScope.{NameScope}
use Rattle.reflect_scope.specs.Known.{Known}
use Rattle.schema_view.specs.Declarations.{declarations, of_extension}
use Rattle.schema_view.specs.Files.{file_name}
use Rattle.schema_view.specs.Lawful.{outlines}
use Rattle.schema_view.specs.Means.{HoldsNames}
use Rattle.schema_view.specs.Outlines.{Outline, Sees}
use Rattle.schema_view.proofs.Lists.{contains_map, contains_map_cases}
use Rattle.stored_options.proofs.Led.{LeadsOutside, LeadsTo}
use Rattle.stored_options.proofs.LooksUp.{LooksUp, StandsAmong}
use Rattle.stored_options.proofs.Numbers.{NumbersExtension, NumbersField}
use Rattle.stored_options.proofs.Seen.{IsSeenExtension}
use Rattle.stored_options.proofs.Unlocated.{outlines_unlocated}

module _ (fs : List FileContent) where
  abbrev bare : List FileContent
  bare = map unlocated fs

  bare_there : (f : FileContent) → Contains fs f → Contains bare (unlocated f)
  bare_there f i = contains_map unlocated fs f i

  -- ---- what is looked up

  seen_bare : (from : Outline) (n : Text) → IsSeenExtension fs from n → IsSeenExtension bare from n
  seen_bare from n is = record {
    file = unlocated is.file;
    content = is.content;
    there = bare_there is.file is.there;
    inside = is.inside;
    seen = subst (λ os. Sees os from (file_name is.file)) (sym (outlines_unlocated fs)) is.seen;
  }

  bare_seen : (from : Outline) (n : Text) → IsSeenExtension bare from n → IsSeenExtension fs from n
  bare_seen from n is =
      let f = contains_map_cases unlocated fs is.file is.there in
      let seen : Sees (outlines fs) from (file_name is.file) = subst (λ os. Sees os from (file_name is.file)) (outlines_unlocated fs) is.seen in
      subst (λ (g : FileContent). (Contains (declarations g) (record { name = n; body = of_extension is.content }) → IsSeenExtension fs from n)) f.2
      (λ inside. record { file = f.0; content = is.content; there = f.1; inside = inside; seen = subst (λ (g : FileContent). Sees (outlines fs) from (file_name g)) (sym f.2) seen })
      is.inside

  looks_up_bare : (from : Outline) (known : Known) (sees : ℕ → Bool) → LooksUp fs from known sees → LooksUp bare from known sees
  looks_up_bare from known sees is = record {
    to = λ n wanted. seen_bare from n (is.to n wanted);
    back = λ n seen. is.back n (bare_seen from n seen);
    holds = λ n some holds. is.holds n some (subst (λ os. HoldsNames os n) (outlines_unlocated fs) holds);
  }

  pub stands_bare : (s : NameScope) (file : Text) → StandsAmong fs s file → StandsAmong bare s file
  stands_bare s file is = record {
    home = unlocated is.home;
    there = bare_there is.home is.there;
    name = is.name;
    looks_up = looks_up_bare _ _ _ is.looks_up;
  }

  -- ---- what a name leads to

  extension_bare : (full : Text) (n : ℕ) → NumbersExtension fs full n → NumbersExtension bare full n
  extension_bare full n is = record {
    file = unlocated is.file;
    content = is.content;
    there = bare_there is.file is.there;
    inside = is.inside;
    number = is.number;
  }

  field_bare : (t name : Text) (n : ℕ) → NumbersField fs t name n → NumbersField bare t name n
  field_bare t name n is = record {
    file = unlocated is.file;
    facts = is.facts;
    there = bare_there is.file is.there;
    inside = is.inside;
    entries = is.entries;
    listed = is.listed;
    index = is.index;
    first = is.first;
    number = is.number;
  }

  pub leads_bare : (s : NameScope) (t : Text) (part : NameContent) (n : ℕ) → LeadsTo fs s t part n → LeadsTo bare s t part n
  leads_bare s t part n = by part.is_extension where
    by : (b : Bool) → MatchBool b (LeadsOutside fs s part.name_part n) (NumbersField fs t part.name_part n)
        → MatchBool b (LeadsOutside bare s part.name_part n) (NumbersField bare t part.name_part n)
    by true is = record { full = is.full; means = is.means; has = extension_bare is.full n is.has }
    by false is = field_bare t part.name_part n is
