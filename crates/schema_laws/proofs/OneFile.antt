-- A file that was linked to one content in two pools of the same files in the end settled to one content; and where it
-- differs in lines, columns and comments alone, so does what it settled to.
use Rattle.std.proofs.Common.{◌≡◌, ◌<◌, ◌++◌, ◌∙◌, ℕ, List, [], ◌∷◌, map, length, Some, slice_get, ap, refl, sym, subst, arith, Contains}
use Rattle.std.proofs.lemmas.List.{length-map}
use Rattle.std.proofs.lemmas.Option.{same_Some}
use Rattle.std.specs.List.{AllByRecursion, AllZip}
use Rattle.std.specs.Option.{option_map}
use Rattle.descriptor_records.specs.Content.{FileContent, OptionsContent, Text, file_view, option_view, options_view, unlocated}
use Rattle.descriptor_records.specs.declared.file.FileDescriptorProto.{FileDescriptorProto}
use Rattle.descriptor_records.specs.declared.options.Options.{Options}
use Rattle.linked_view.proofs.Places.{get_less}
use Rattle.stored_options.proofs.InOrders.{given_alike}
use Rattle.stored_options.proofs.Leads.{lead_alike}
use Rattle.stored_options.proofs.Unwritten.{unwritten_again}
use Rattle.stored_options.specs.Standing.{HaveOneEnd, StandsIn}
use Rattle.message_view.specs.Sound.{IsSound}
use Rattle.option_parts.specs.OptionTypes.{CanRead}
use Rattle.option_parts.specs.declared.option_scope.OptionScope.{OptionScope}
use Rattle.option_setter.specs.declared.option_setter.NameScope.{NameScope}
use Rattle.plain_records.specs.PlainRecords.{IsPlainFile}
use Rattle.plain_records.specs.SaidOptions.{IsSettled}
use Rattle.plain_records.specs.SourceOptions.{AreGiven}
use Rattle.reflect_growth.proofs.Told.{header_seen, header_told}
use Rattle.reflect_index.proofs.Among.{get_map}
use Rattle.reflect_options.specs.Entities.{Entity, file_entities}
use Rattle.reflect_options.specs.Settled.{Settles}
use Rattle.reflect_options.specs.Settling.{IsScopeOf, SeesFrom}
use Rattle.reflect_pool.specs.Imports.{names_of_files}
use Rattle.reflect_tables.specs.Types.{FileType, PoolType}
use Rattle.reflect_tables.specs.Views.{record_file}
use Rattle.schema_view.specs.Lawful.{Builds, SameFiles, sources}
use Rattle.schema_view.specs.Plain.{IsPlainFile as HasPlainName}
use Rattle.settled_records.specs.Alike.{AllSettleAlike, IsSameEntity, SettleAlike}
use Rattle.settled_records.specs.Themselves.{SettlesToItself}
use Rattle.settled_records.proofs.Pools.{settle_alike}
use Rattle.settled_records.proofs.Unlocated.{settle_unlocated}
use Rattle.settled_records.proofs.Walk.{same_entities}
use Rattle.settled_records.proofs.AllOptions.{Said, file_keeps}
use Rattle.settled_records.proofs.InEntities.{entities_of}
use Rattle.settled_records.proofs.OfEntities.{Meets}
use Rattle.settled_records.proofs.PlainOptions.{file_of, said}
use Rattle.schema_laws.proofs.BatchFiles.{IsOfLast, IsOneOf}

-- ---- options of a file as sources gave it
-- of the file of an index, and as a source gives them
abbrev Own : ℕ → ℕ → Said
Own k file scope path o = (file ≡ k) × AreGiven scope o

own_entities : (k : ℕ) (f : FileDescriptorProto) → IsPlainFile AreGiven 99 (file_view f) → AllByRecursion (Meets (Own k)) (file_entities k f)
own_entities k f given = entities_of (Own k) k f (file_keeps (said AreGiven) (Own k k) (λ scope path o as_given. (refl, as_given)) (file_view f) (file_of AreGiven 99 (file_view f) given))

-- ---- the file's place
module _ (batches : List (List FileContent)) (x y : FileContent) (a : IsOfLast batches x y) where
  near : a.index < length a.pool.files
  near =
      let less : a.index < length a.pool.records = get_less a.pool.records a.index a.stood.file a.stood.there in
      let many : length a.pool.files ≡ length a.pool.records = ap length a.linked.is.recorded.headers ∙ length-map a.pool.records record_file in
      omega (arith, less, many)

  named : slice_get (names_of_files a.pool.files) a.index ≡ Some (header_told x).name
  named =
      let f = a.stood.file in
      ap (λ (fs : List FileType). slice_get (names_of_files fs) a.index) a.linked.is.recorded.headers
      ∙ get_map (λ (f : FileType). f.name) (map record_file a.pool.records) a.index (record_file f) (get_map record_file a.pool.records a.index f a.stood.there)
      ∙ ap (λ (f : FileType). Some f.name) (header_seen f) ∙ ap (λ (c : FileContent). Some (header_told c).name) a.stood.content

  -- names in the options of its entities are looked up there
  stands : (s : NameScope) (c : Entity) → c.file ≡ a.index → IsScopeOf a.pool c s → StandsIn batches a.pool s (header_told x).name c.name
  stands s c own scope = record {
    typed = a.linked.typed;
    whole = a.linked.is;
    index = a.index;
    there = named;
    in_pool = scope.pool;
    seen = subst (λ k. SeesFrom a.pool k s.seen.now) own scope.seen;
    name = scope.name;
  }

  -- where nothing is left to settle in its options, they settle to what they are
  settles_again : (c : Entity) → Meets (Own a.index) c → ((o : Options) → c.options ≡ Some o → IsSettled (options_view o)) → SettlesToItself a.pool c
  settles_again c own left s o settled paths has in_pool settles =
      let sound : IsSound s.pool.now = subst IsSound (sym in_pool) a.linked.sound in
      let can : CanRead s.pool.now c.scope = subst (λ (p : PoolType). CanRead p c.scope) (sym in_pool) (a.settles.readable c.scope) in
      let mine : (c.file ≡ a.index) × AreGiven c.scope (options_view o) = own o has in
      unwritten_again c.scope s o settled paths sound can mine.1.0 (left o has) settles

-- options of one content, of which nothing is left in one of the two
nothing_left : (o w : Options) → options_view w ≡ options_view o → o.uninterpreted_option.items ≡ [] → IsSettled (options_view w)
nothing_left o w same none = ap (λ (c : OptionsContent). c.uninterpreted_option) same ∙ ap (map option_view) none

same_options : (c d : Entity) → IsSameEntity c d → (o w : Options) → c.options ≡ Some o → d.options ≡ Some w → options_view w ≡ options_view o
same_options c d same o w has have =
    same_Some (options_view w) (options_view o) (sym (ap (option_map options_view) have) ∙ sym same.options ∙ ap (option_map options_view) has)

-- ---- in both pools, where it may differ in lines, columns and comments
module _ (batches others : List (List FileContent)) (after last : List FileContent) (plain : (f : FileContent) → Contains (sources batches) f → HasPlainName f)
    (same : SameFiles (map unlocated (sources batches)) (map unlocated (sources others))) (built : Builds batches after) (also : Builds others last)
    (x u y z : FileContent) (one : IsOneOf batches x y) (other : IsOneOf others u z) (like : unlocated x ≡ unlocated u) where
  abbrev a : IsOfLast one.own x y
  a = one.last

  abbrev b : IsOfLast other.own u z
  b = other.last

  ends : HaveOneEnd one.own other.own
  ends = record {
    more = one.more;
    further = other.more;
    after = after;
    last = last;
    built = subst (λ (bs : List (List FileContent)). Builds bs after) (sym one.behind) built;
    also = subst (λ (bs : List (List FileContent)). Builds bs last) (sym other.behind) also;
    plain = subst (λ (bs : List (List FileContent)). (f : FileContent) → Contains (sources bs) f → HasPlainName f) (sym one.behind) plain;
    same = subst (λ (bs : List (List FileContent)). SameFiles (map unlocated (sources bs)) (map unlocated (sources (other.more ++ other.own)))) (sym one.behind)
        (subst (λ (bs : List (List FileContent)). SameFiles (map unlocated (sources batches)) (map unlocated (sources bs))) (sym other.behind) same);
  }

  content : unlocated (file_view a.stood.file) ≡ unlocated (file_view b.stood.file)
  content = ap unlocated a.stood.content ∙ like ∙ sym (ap unlocated b.stood.content)

  one_name : (header_told u).name ≡ (header_told x).name
  one_name = sym (ap (λ (c : FileContent). (header_told c).name) like)

  entity_settles : (c d : Entity) → IsSameEntity c d → Meets (Own a.index) c → Meets (Own b.index) d → SettleAlike a.pool b.pool c d
  entity_settles c d e own its = record {
    here = λ o s has scope stay. settles_again other.own u z b d its (λ w have. nothing_left o w (same_options c d e o w has have) stay.1);
    there = λ w s have scope stay. settles_again one.own x y a c own (λ o has. nothing_left w o (sym (same_options c d e o w has have)) stay.1);
    alike = λ o w settled differs s t paths ways has have scope range settles also_settles. (
        let mine : (c.file ≡ a.index) × AreGiven c.scope (options_view o) = own o has in
        let theirs : (d.file ≡ b.index) × AreGiven d.scope (options_view w) = its w have in
        let one_view : options_view w ≡ options_view o = same_options c d e o w has have in
        let here : StandsIn one.own a.pool s (header_told x).name c.name = stands one.own x y a s c mine.0 scope in
        let there : StandsIn other.own b.pool t (header_told x).name c.name =
        subst (λ (n : Text). StandsIn other.own b.pool t (header_told x).name n) (sym e.name)
        (subst (λ (file : Text). StandsIn other.own b.pool t file d.name) one_name (stands other.own u z b t d theirs.0 range)) in
        let second : Settles c.scope t w (options_view differs) ways = subst (λ (v : OptionScope). Settles v t w (options_view differs) ways) (sym e.scope) also_settles in
        given_alike one.own other.own a.pool b.pool s t (header_told x).name c.name c.scope o w settled differs paths ways ends here there
        (lead_alike one.own other.own a.pool b.pool s t (header_told x).name c.name ends here there)
        a.linked.sound b.linked.sound a.linked.names b.linked.names (a.settles.readable c.scope) (b.settles.readable c.scope) mine.1 one_view settles second);
  }

  entities_settle : (cs ds : List Entity) → AllZip IsSameEntity cs ds → AllByRecursion (Meets (Own a.index)) cs → AllByRecursion (Meets (Own b.index)) ds → AllZip (SettleAlike a.pool b.pool) cs ds
  entities_settle [] [] es own its = tt
  entities_settle [] (d ∷ ds) es own its = absurd es
  entities_settle (c ∷ cs) [] es own its = absurd es
  entities_settle (c ∷ cs) (d ∷ ds) es own its = (entity_settles c d es.0 own.0 its.0, entities_settle cs ds es.1 own.1 its.1)

  all_settle : AllSettleAlike a.pool b.pool a.index b.index a.stood.file b.stood.file
  all_settle =
      entities_settle (file_entities a.index a.stood.file) (file_entities b.index b.stood.file) (same_entities a.index b.index a.stood.file b.stood.file content)
      (own_entities a.index a.stood.file a.stood.given) (own_entities b.index b.stood.file b.stood.given)

  pub one_but_for_places : unlocated y ≡ unlocated z
  one_but_for_places =
      let r : option_map unlocated (slice_get (map file_view a.new.records) a.index) ≡ option_map unlocated (slice_get (map file_view b.new.records) b.index) =
      settle_unlocated a.pool b.pool a.new b.new a.first b.first a.index b.index a.stood.file b.stood.file a.settles b.settles
      a.far (near one.own x y a) b.far (near other.own u z b) a.stood.there b.stood.there content all_settle in
      same_Some (unlocated y) (unlocated z) (sym (ap (option_map unlocated) a.comes) ∙ r ∙ ap (option_map unlocated) b.comes)

  pub one_content : x ≡ u → y ≡ z
  one_content is =
      let r : slice_get (map file_view a.new.records) a.index ≡ slice_get (map file_view b.new.records) b.index =
      settle_alike a.pool b.pool a.new b.new a.first b.first a.index b.index a.stood.file b.stood.file a.settles b.settles
      a.far (near one.own x y a) b.far (near other.own u z b) a.stood.there b.stood.there (a.stood.content ∙ is ∙ sym b.stood.content) all_settle in
      same_Some y z (sym a.comes ∙ r ∙ b.comes)
