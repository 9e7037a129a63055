-- Files are refused at one place for their options: where two pools of the same files say the same to texts, both refuse the
-- same options of the same entity of the same file.
use Rattle.std.proofs.Common.{◌≡◌, ◌∙◌, ◌<◌, ◌⊎◌, inl, inr, ◌+◌, ◌++◌, ℕ, ℤ, List, [], ◌∷◌, map, cond, Option, None, Some, String, Global, option_map, unwrap_or, slice_get, refl, sym, ap, subst}
use Rattle.std.proofs.lemmas.Bool.{cases_order}
use Rattle.std.proofs.lemmas.Option.{same_Some}
use Rattle.std.specs.List.{AllByRecursion, AllZip}
use Rattle.std.specs.Option.{option_or}
use Rattle.descriptor_records.specs.Content.{FileContent, LocationContent, file_view, location_view, options_view, source_info_view, text_of, text_view, unlocated}
use Rattle.descriptor_records.specs.declared.file.FileDescriptorProto.{FileDescriptorProto}
use Rattle.descriptor_records.specs.declared.source_info.Location.{Location}
use Rattle.descriptor_records.specs.declared.source_info.SourceCodeInfo.{SourceCodeInfo}
use Rattle.descriptor_records.specs.declared.options.Options.{Options}
use Rattle.option_parts.specs.OptionTypes.{CanRead, scope_at}
use Rattle.option_parts.specs.declared.option_error.OptionErrorKind.{OptionErrorKind}
use Rattle.option_parts.specs.declared.option_scope.OptionScope.{OptionScope}
use Rattle.option_setter.specs.declared.option_setter.NameScope.{NameScope}
use Rattle.reflect_faults.specs.Faults.{Place}
use Rattle.reflect_faults.specs.Spans.{locations, same_path, span_among, span_of}
use Rattle.reflect_faults.specs.declared.label.SourceSpan.{SourceSpan}
use Rattle.reflect_growth.specs.declared.settle.Edit.{Edit}
use Rattle.reflect_index.proofs.Among.{get_map, got_map}
use Rattle.reflect_options.specs.Entities.{Entity, file_entities}
use Rattle.reflect_options.specs.Settled.{RefusesOptions}
use Rattle.reflect_options.specs.Settling.{Move, RefusesAtPlace, RefusesEntity, RefusesFile, RefusesFrom, SettlesAll, fault_path, options_path, written_path}
use Rattle.reflect_tables.specs.Types.{PoolType}
use Rattle.settled_records.specs.Alike.{IsSameEntity}
use Rattle.settled_records.proofs.OfEntities.{Meets}
use Rattle.settled_records.proofs.Walk.{same_entities}
use Rattle.types_view.specs.Pools.{IsPool}
use Rattle.stored_options.proofs.RefusedAt.{TwinScopes, refused_at}
use Rattle.stored_options.proofs.RefusedFiles.{Own, entity_refused, file_refused, file_settled, in_its_file, one_content}
use Rattle.stored_options.proofs.RefusedReworded.{refused_same}
use Rattle.stored_options.proofs.SameScopes.{entity_alike}
use Rattle.stored_options.proofs.TwinPools.{AreTwinPools, twins_back, twins_moved}

-- ---- names and spans of files of one content

named : (o : Option (String Global)) → text_of o ≡ unwrap_or (text_view o) []
named None = refl
named (Some s) = refl

name_same : (f g : FileDescriptorProto) → file_view f ≡ file_view g → text_of f.name ≡ text_of g.name
name_same f g same = named f.name ∙ ap (λ (c : FileContent). unwrap_or c.name []) same ∙ sym (named g.name)

-- the first span of a path, by what is told of locations
abbrev span_told : List LocationContent → List ℤ → Option SourceSpan
span_told [] path = None
span_told (l ∷ ls) path = option_or (cond (same_path l.path path) (span_of l.span) None) (span_told ls path)

spans : (ls : List Location) (path : List ℤ) → span_among ls path ≡ span_told (map location_view ls) path
spans [] path = refl
spans (l ∷ ls) path = ap (option_or (cond (same_path l.path.items path) (span_of l.span.items) None)) (spans ls path)

located : (o : Option SourceCodeInfo) → map location_view (elim o [ None ↦ [] | Some info ↦ info.location.items ]) ≡ unwrap_or (option_map source_info_view o) []
located None = refl
located (Some info) = refl

span_same : (f g : FileDescriptorProto) → file_view f ≡ file_view g → (path : List ℤ) → span_among (locations f) path ≡ span_among (locations g) path
span_same f g same path =
    spans (locations f) path
    ∙ ap (λ ls. span_told ls path) (located f.source_code_info ∙ ap (λ (c : FileContent). unwrap_or c.source_code_info []) same ∙ sym (located g.source_code_info))
    ∙ sym (spans (locations g) path)

-- ---- two pools of the same files, all of whose options can be read

pub record TwinFiles (p q : PoolType) : Type 0 where
  pub whole : IsPool p
  pub whole_too : IsPool q
  pub twins : AreTwinPools p q
  pub same : map file_view p.records ≡ map file_view q.records
  pub can : (scope : OptionScope) → CanRead p scope
  pub can_too : (scope : OptionScope) → CanRead q scope

pub turned_files : (p q : PoolType) → TwinFiles p q → TwinFiles q p
turned_files p q w = record {
  whole = w.whole_too;
  whole_too = w.whole;
  twins = twins_back p q w.twins;
  same = sym w.same;
  can = w.can_too;
  can_too = w.can;
}

entity_back : (c d : Entity) → IsSameEntity c d → IsSameEntity d c
entity_back c d like = record {
  scope = sym like.scope;
  path = sym like.path;
  number = sym like.number;
  name = sym like.name;
  options = sym like.options;
}

-- an entity of a file that the one refuses, and the same one in the other
pub record AtOneEntity (p q : PoolType) (path way : List ℤ) (e k : OptionErrorKind) : Type 0 where
  pub file : ℕ
  pub here : Entity
  pub there : Entity
  pub like : IsSameEntity here there
  pub mine : Meets (Own file) here
  pub its : Meets (Own file) there
  pub refuses : RefusesEntity p here path e
  pub also : RefusesEntity q there way k

-- an entity that is refused in the one is not settled in the other
not_settled : (p q : PoolType) → TwinFiles p q → (i : ℕ) (c d : Entity) → IsSameEntity c d → Meets (Own i) c → Meets (Own i) d → (path : List ℤ) (e : OptionErrorKind)
    → RefusesEntity p c path e → (back : List Entity) (es : List Edit) (ms : List Move) → SettlesAll q (d ∷ back) es ms → ⊥
not_settled p q w i c d like mine its path e refuses back es ms all =
    entity_refused p q w.whole w.whole_too w.twins w.same w.can w.can_too i c d like mine its path e refuses all.0 all.2 all.4

module _ (p q : PoolType) (w : TwinFiles p q) where
  -- the first that the one refuses is the first that the other does
  one_entity : (i : ℕ) (path way : List ℤ) (e k : OptionErrorKind) (front : List Entity) (c : Entity) (back others : List Entity) (d : Entity) (rest : List Entity)
      → AllZip IsSameEntity (front ++ (c ∷ back)) (others ++ (d ∷ rest)) → AllByRecursion (Meets (Own i)) (front ++ (c ∷ back)) → AllByRecursion (Meets (Own i)) (others ++ (d ∷ rest))
      → (es : List Edit) (ms : List Move) → SettlesAll p front es ms → (fs : List Edit) (ns : List Move) → SettlesAll q others fs ns
      → RefusesEntity p c path e → RefusesEntity q d way k → AtOneEntity p q path way e k
  one_entity i path way e k [] c back [] d rest zip mine its es ms before fs ns ahead refuses also =
      record { file = i; here = c; there = d; like = zip.0; mine = mine.0; its = its.0; refuses = refuses; also = also }
  one_entity i path way e k [] c back (x ∷ others) d rest zip mine its es ms before fs ns ahead refuses also =
      absurd (not_settled p q w i c x zip.0 mine.0 its.0 path e refuses others fs ns ahead)
  one_entity i path way e k (x ∷ front) c back [] d rest zip mine its es ms before fs ns ahead refuses also =
      absurd (not_settled q p (turned_files p q w) i d x (entity_back x d zip.0) its.0 mine.0 way k also front es ms before)
  one_entity i path way e k (x ∷ front) c back (y ∷ others) d rest zip mine its es ms before fs ns ahead refuses also =
      one_entity i path way e k front c back others d rest zip.1 mine.1 its.1 before.1 before.3 before.5 ahead.1 ahead.3 ahead.5 refuses also

  one_in_file : (i : ℕ) (f g : FileDescriptorProto) → file_view f ≡ file_view g → (path way : List ℤ) (e k : OptionErrorKind) → RefusesFile p i f path e → RefusesFile q i g way k
      → AtOneEntity p q path way e k
  one_in_file i f g content path way e k refuses also =
      let all = subst (λ cs. AllZip IsSameEntity cs (file_entities i g)) refuses.5 (same_entities i i f g (ap unlocated content)) in
      let zip = subst (λ ds. AllZip IsSameEntity (refuses.0 ++ (refuses.2 ∷ refuses.1)) ds) also.5 all in
      let mine = subst (AllByRecursion (Meets (Own i))) refuses.5 (in_its_file i f) in
      let its = subst (AllByRecursion (Meets (Own i))) also.5 (in_its_file i g) in
      one_entity i path way e k refuses.0 refuses.2 refuses.1 also.0 also.2 also.1 zip mine its refuses.3 refuses.4 refuses.6 also.3 also.4 also.6 refuses.7 also.7

-- ---- the options of one entity

-- options of one content, and where names in them are looked up
pub record OneRecord (p q : PoolType) (path way : List ℤ) (e k : OptionErrorKind) : Type 0 where
  pub scope : OptionScope
  pub options : Options
  pub first : NameScope
  pub second : NameScope
  pub twins : TwinScopes scope first second
  pub at : Option ℕ
  pub on : Option ℕ
  pub refuses : RefusesOptions scope first options at e
  pub also : RefusesOptions scope second options on k
  pub here : Entity
  pub there : Entity
  pub like : IsSameEntity here there
  pub path_is : path ≡ fault_path here at
  pub way_is : way ≡ fault_path there on

module _ (p q : PoolType) (w : TwinFiles p q) where
  pub one_record : (path way : List ℤ) (e k : OptionErrorKind) → AtOneEntity p q path way e k → OneRecord p q path way e k
  one_record path way e k one = by one.refuses one.also where
    by : RefusesEntity p one.here path e → RefusesEntity q one.there way k → OneRecord p q path way e k
    by (o, s, at, there, a, why, is) (x, t, on, has, b, also, so) =
        let file : one.here.file ≡ one.there.file = one.mine o there ∙ sym (one.its x has) in
        let content : options_view x ≡ options_view o = one_content p q w.whole w.whole_too w.twins w.same w.can w.can_too one.file one.here one.there one.like one.mine one.its o x there has in
        let moved : RefusesOptions one.here.scope t x on k = subst (λ v. RefusesOptions v t x on k) (sym one.like.scope) also in
        record {
          scope = one.here.scope;
          options = o;
          first = s;
          second = t;
          twins = record {
            alike = entity_alike p q w.whole w.whole_too w.same one.here one.there file one.like.name s t a b;
            back = entity_alike q p w.whole_too w.whole (sym w.same) one.there one.here (sym file) (sym one.like.name) t s b a;
            twins = twins_moved p q s.pool.now t.pool.now a.pool b.pool w.twins;
            can = subst (λ r. CanRead r one.here.scope) (sym a.pool) (w.can one.here.scope);
            can_too = subst (λ r. CanRead r one.here.scope) (sym b.pool) (w.can_too one.here.scope);
          };
          at = at;
          on = on;
          refuses = why;
          also = refused_same one.here.scope t o x content on k moved;
          here = one.here;
          there = one.there;
          like = one.like;
          path_is = is;
          way_is = so;
        }

  one_path : (path way : List ℤ) (e k : OptionErrorKind) → OneRecord p q path way e k → path ≡ way
  one_path path way e k r =
      let at : r.at ≡ r.on = refused_at r.scope r.options r.first r.second r.twins r.at r.on e k r.refuses r.also in
      r.path_is ∙ ap (fault_path r.here) at ∙ paths r.on ∙ sym r.way_is where
        same : options_path r.here ≡ options_path r.there
        same = λ i. r.like.path i ++ (r.like.number i ∷ [])

        paths : (at : Option ℕ) → fault_path r.here at ≡ fault_path r.there at
        paths None = same
        paths (Some place) = ap (λ o. written_path o place) same

  -- ---- files

  pub record AtOnePlace (at on : Place) (e k : OptionErrorKind) : Type 0 where
    pub entity : AtOneEntity p q at.path on.path e k
    pub file : at.file ≡ on.file
    pub span : at.path ≡ on.path → at.span ≡ on.span
    pub bytes : at.bytes ≡ on.bytes

  pub one_place : (first : ℕ) (at on : Place) (e k : OptionErrorKind) → RefusesAtPlace p first at e → RefusesAtPlace q first on k → AtOnePlace at on e k
  one_place first at on e k (n, es, f, before, there, refuses, placed) (m, fs, g, ahead, has, also, put) = by (cases_order n m) where
    -- a file of the one stands in the other
    in_second : (h : FileDescriptorProto) × (slice_get q.records (first + n) ≡ Some h) × (file_view h ≡ file_view f)
    in_second = got_map file_view q.records (first + n) (file_view f) (ap (λ fs. slice_get fs (first + n)) (sym w.same) ∙ get_map file_view p.records (first + n) f there)

    in_first : (h : FileDescriptorProto) × (slice_get p.records (first + m) ≡ Some h) × (file_view h ≡ file_view g)
    in_first = got_map file_view p.records (first + m) (file_view g) (ap (λ fs. slice_get fs (first + m)) w.same ∙ get_map file_view q.records (first + m) g has)

    by : (n ≡ m) ⊎ ((n < m) ⊎ (m < n)) → AtOnePlace at on e k
    by (inl one) =
        let content : file_view f ≡ file_view g =
        same_Some (file_view f) (file_view g)
        (sym (get_map file_view p.records (first + n) f there) ∙ (λ i. slice_get (w.same i) (first + one i)) ∙ get_map file_view q.records (first + m) g has) in
        record {
          entity = one_in_file p q w (first + n) f g content at.path on.path e k refuses (subst (λ i. RefusesFile q (first + i) g on.path k) (sym one) also);
          file = placed.0 ∙ name_same f g content ∙ sym put.0;
          span = λ way. placed.1 ∙ span_same f g content at.path ∙ ap (span_among (locations g)) way ∙ sym put.1;
          bytes = placed.2 ∙ sym put.2;
        }
    by (inr (inl less)) =
        let settled = file_settled p q w.whole w.whole_too w.twins w.same w.can w.can_too first m n fs in_second.0 less in_second.1 ahead in
        absurd (file_refused p q w.whole w.whole_too w.twins w.same w.can w.can_too (first + n) f in_second.0 (sym in_second.2) at.path e settled.0 refuses settled.1)
    by (inr (inr more)) =
        let v = turned_files p q w in
        let settled = file_settled q p v.whole v.whole_too v.twins v.same v.can v.can_too first n m es in_first.0 more in_first.1 before in
        absurd (file_refused q p v.whole v.whole_too v.twins v.same v.can v.can_too (first + m) g in_first.0 (sym in_first.2) on.path k settled.0 also settled.1)

  place_is : (first : ℕ) (at on : Place) (e k : OptionErrorKind) → RefusesAtPlace p first at e → RefusesAtPlace q first on k → at ≡ on
  place_is first at on e k refuses also =
      let one : AtOnePlace at on e k = one_place first at on e k refuses also in
      let path : at.path ≡ on.path = one_path at.path on.path e k (one_record at.path on.path e k one.entity) in
      let span : at.span ≡ on.span = one.span path in
      λ i. record { file = one.file i; path = path i; span = span i; bytes = one.bytes i }

-- ---- pools

-- two pools of the same files, of which the one can read options where the other can, are refused at one place, or both for a
-- type of options
pub one_place_told : (p q : PoolType) → IsPool p → IsPool q → AreTwinPools p q → map file_view p.records ≡ map file_view q.records
    → ((scope : OptionScope) → CanRead p scope → CanRead q scope) → ((scope : OptionScope) → CanRead q scope → CanRead p scope)
    → (first : ℕ) (place other : Option Place) (e k : OptionErrorKind) → RefusesFrom p first place e → RefusesFrom q first other k → place ≡ other
one_place_told p q whole whole_too twins same to back first None None e k refuses also = refl
one_place_told p q whole whole_too twins same to back first None (Some on) e k (n, tells, fails, before) (can, also) = absurd (fails (back (scope_at n) (can (scope_at n))))
one_place_told p q whole whole_too twins same to back first (Some at) None e k (can, refuses) (n, tells, fails, before) = absurd (fails (to (scope_at n) (can (scope_at n))))
one_place_told p q whole whole_too twins same to back first (Some at) (Some on) e k (can, refuses) (can_too, also) =
    let w : TwinFiles p q = record { whole = whole; whole_too = whole_too; twins = twins; same = same; can = can; can_too = can_too } in
    ap Some (place_is p q w first at on e k refuses also)
