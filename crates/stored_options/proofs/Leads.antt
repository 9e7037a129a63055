-- What names of options lead to in a file and a scope, by pools whose batches have one end.
use Rattle.std.proofs.Common.{◌≡◌, ◌∙◌, ◌++◌, ℕ, Bool, true, false, List, map, sym, subst}
use Rattle.std.specs.Prelude.{MatchBool}
use Rattle.std.specs.List.{Contains}
use Rattle.descriptor_records.specs.Content.{FileContent, Text, file_view, unlocated}
use Rattle.stored_options.specs.SetOptions.{LeadAlike}
use Rattle.option_setter.specs.OptionNames.{MeansExtension}
use Rattle.option_setter.specs.declared.option_setter.NameScope.{NameScope}
use Rattle.stored_options.specs.NamedNumbers.{numbers_named}
use Rattle.reflect_known.specs.KnownNames.{known_of_files}
use Rattle.reflect_scope.specs.Seen.{tells}
use Rattle.reflect_scope.specs.declared.definition.ResolveNameFilter.TheVariants as filters
use Rattle.reflect_tables.specs.Types.{PoolType}
use Rattle.schema_view.specs.Lawful.{outlines, sources}
use Rattle.schema_view.specs.Means.{MeansBy}
use Rattle.schema_view.specs.Outlines.{Outline, outline_of}
use Rattle.schema_view.specs.Plain.{IsPlainFile}
use Rattle.schema_view.proofs.Batches.{files_there}
use Rattle.schema_view.proofs.Lists.{contains_map, contains_map_cases}
use Rattle.schema_view.proofs.Nested.{AreNested}
use Rattle.schema_view.proofs.Road.{AreLinked, built_linked}
use Rattle.linked_view.proofs.Means.{Holding, Wanted, means_to}
use Rattle.stored_options.specs.Standing.{HaveOneEnd, StandsIn}
use Rattle.stored_options.proofs.Built.{built_nested, earlier_sources, earlier_there}
use Rattle.stored_options.proofs.Numbers.{NumbersExtension, NumbersField, one_extension, one_field}
use Rattle.stored_options.proofs.OneName.{one_meaning}
use Rattle.stored_options.proofs.LooksUp.{LooksUp, StandsAmong}
use Rattle.stored_options.proofs.Pool.{stands_among}
use Rattle.stored_options.proofs.Seen.{one_file, seen_there}
use Rattle.stored_options.proofs.Led.{LeadsOutside, leads_to}
use Rattle.stored_options.proofs.Unlocated.{builds_unlocated, outlines_unlocated, plain_placed, plain_there, plain_unlocated, same_there}
use Rattle.stored_options.proofs.UnlocatedNames.{leads_bare, stands_bare}

-- what is among others is so without places
maps_within : (xs ys : List FileContent) → ((f : FileContent) → Contains xs f → Contains ys f)
    → (f : FileContent) → Contains (map unlocated xs) f → Contains (map unlocated ys) f
maps_within xs ys within f i =
    let g = contains_map_cases unlocated xs f i in
    subst (Contains (map unlocated ys)) g.2 (contains_map unlocated ys g.0 (within g.0 g.1))

module _ (batches others : List (List FileContent)) (p q : PoolType) (s t : NameScope)
    (file scope : Text) (ends : HaveOneEnd batches others) (a : StandsIn batches p s file scope)
    (b : StandsIn others q t file scope) where
  -- the files without places, in which both pools agree
  abbrev here : List FileContent
  here = map file_view a.typed.but.linked.records

  abbrev there : List FileContent
  there = map file_view b.typed.but.linked.records

  abbrev fs : List FileContent
  fs = map unlocated here

  abbrev gs : List FileContent
  gs = map unlocated there

  abbrev every : List FileContent
  every = map unlocated ends.after

  all : AreLinked every
  all = built_linked (map (map unlocated) (ends.more ++ batches)) every
      (builds_unlocated (ends.more ++ batches) ends.after ends.built)

  left : (f : FileContent) → Contains fs f → Contains every f
  left = maps_within here ends.after
      (earlier_there ends.more batches here ends.after a.typed.but.built.built ends.built)

  plain_too : (f : FileContent) → Contains (sources (ends.further ++ others)) f → IsPlainFile f
  plain_too f i =
      let g = contains_map_cases unlocated (sources (ends.more ++ batches)) (unlocated f)
      ((ends.same (unlocated f)).1 (contains_map unlocated (sources (ends.further ++ others)) f i)) in
      plain_placed f (subst IsPlainFile g.2 (plain_unlocated g.0 (ends.plain g.0 g.1)))

  right : (g : FileContent) → Contains gs g → Contains every g
  right g i =
      files_there (map (map unlocated) (ends.further ++ others))
      (map (map unlocated) (ends.more ++ batches)) (map unlocated ends.last) every
      (plain_there (ends.further ++ others) plain_too)
      (same_there (ends.further ++ others) (ends.more ++ batches)
      (λ f. ((ends.same f).1, (ends.same f).0)))
      (builds_unlocated (ends.further ++ others) ends.last ends.also)
      (builds_unlocated (ends.more ++ batches) ends.after ends.built) g
      (maps_within there ends.last
      (earlier_there ends.further others there ends.last b.typed.but.built.built ends.also) g i)

  linked_here : AreLinked fs
  linked_here = built_linked (map (map unlocated) batches) fs
      (builds_unlocated batches here a.typed.but.built.built)

  linked_there : AreLinked gs
  linked_there = built_linked (map (map unlocated) others) gs
      (builds_unlocated others there b.typed.but.built.built)

  nested : AreNested (outlines fs)
  nested = subst AreNested (sym (outlines_unlocated here))
      (built_nested batches here a.typed.but.built.built
      (λ f i. ends.plain f (earlier_sources ends.more batches f i)))

  nested_too : AreNested (outlines gs)
  nested_too = subst AreNested (sym (outlines_unlocated there))
      (built_nested others there b.typed.but.built.built
      (λ f i. plain_too f (earlier_sources ends.further others f i)))

  first : StandsAmong fs s file
  first = stands_bare here s file (stands_among batches p s file scope a)

  second : StandsAmong gs t file
  second = stands_bare there t file (stands_among others q t file scope b)

  -- the options stand in the same file
  same_home : first.home ≡ second.home
  same_home =
      one_file every all first.home second.home (left first.home first.there)
      (right second.home second.there) (first.name ∙ sym second.name)

  abbrev from : Outline
  from = outline_of first.home

  looks_up_too : LooksUp gs from (known_of_files t.pool.now.records) (tells t.seen.now)
  looks_up_too =
      subst (λ (h : FileContent). LooksUp gs (outline_of h) (known_of_files t.pool.now.records)
      (tells t.seen.now)) (sym same_home) second.looks_up

  home_here : Contains (outlines fs) from
  home_here = contains_map outline_of fs first.home first.there

  home_there : Contains (outlines gs) from
  home_there = contains_map outline_of gs first.home
      (subst (Contains gs) (sym same_home) second.there)

  -- a name in parentheses means one extension
  one_full : (name x y : Text) → MeansExtension s name x → MeansExtension t name y → x ≡ y
  one_full name x y (d, m) (e, n) =
      let ours = (means_to (known_of_files s.pool.now.records) (tells s.seen.now) filters.Extension
      s.name.now name x d m).0 in
      let theirs = (means_to (known_of_files t.pool.now.records) (tells t.seen.now) filters.Extension
      t.name.now name y e n).0 in
      one_meaning fs gs from (known_of_files s.pool.now.records) (known_of_files t.pool.now.records)
      (tells s.seen.now) (tells t.seen.now) first.looks_up looks_up_too nested nested_too
      (seen_there every all fs gs left right linked_there from home_there)
      (seen_there every all gs fs right left linked_here from home_here)
      scope name x y
      (subst (λ around. MeansBy (Wanted (known_of_files s.pool.now.records) (tells s.seen.now)
      filters.Extension) (Holding (known_of_files s.pool.now.records) (tells s.seen.now)
      filters.Extension) around name x) a.name ours)
      (subst (λ around. MeansBy (Wanted (known_of_files t.pool.now.records) (tells t.seen.now)
      filters.Extension) (Holding (known_of_files t.pool.now.records) (tells t.seen.now)
      filters.Extension) around name y) b.name theirs)

  one_outside : (name : Text) (n k : ℕ) → LeadsOutside fs s name n → LeadsOutside gs t name k
      → n ≡ k
  one_outside name n k x y =
      let full : x.full ≡ y.full = one_full name x.full y.full x.means y.means in
      one_extension every all fs gs left right y.full n k
      (subst (λ m. NumbersExtension fs m n) full x.has) y.has

  pub lead_alike : LeadAlike (numbers_named s) (numbers_named t)
  lead_alike u part n k x y =
      by part.is_extension (leads_bare here s u part n (leads_to batches p s file scope a u part n x))
      (leads_bare there t u part k (leads_to others q t file scope b u part k y)) where
        by : (c : Bool) → MatchBool c (LeadsOutside fs s part.name_part n)
            (NumbersField fs u part.name_part n)
            → MatchBool c (LeadsOutside gs t part.name_part k) (NumbersField gs u part.name_part k)
            → n ≡ k
        by true v w = one_outside part.name_part n k v w
        by false v w = one_field every all fs gs left right u part.name_part n k v w
