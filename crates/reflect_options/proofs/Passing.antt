-- What becomes of entities that are passed one after another, and of declarations.
use Rattle.std.proofs.Common.{◌≡◌, ◌∙◌, ◌+◌, ◌++◌, ℕ, List, [], ◌∷◌, Option, None, Some, MatchOption, Result, Ok, Err, OnOk, append_assoc, append-nil, ap, sym, refl, subst}
use Rattle.std.specs.List.{AllByRecursion, flat_map}
use Rattle.descriptor_records.specs.declared.file.FileDescriptorProto.{FileDescriptorProto}
use Rattle.descriptor_records.specs.declared.message.ExtensionRange.{ExtensionRange}
use Rattle.option_setter.specs.OptionNames.{UnlessMemory}
use Rattle.reflect_declarations.specs.Declarations.{Body, Declaration, Runs, each, file_declaration, file_declarations, past_file, of_enum, of_enum_value, of_extension, of_field, of_file, of_message, of_method, of_oneof, of_service}
use Rattle.reflect_declarations.specs.declared.offsets.Offsets.{Offsets}
use Rattle.reflect_growth.specs.declared.settle.Edit.{Edit}
use Rattle.reflect_index.proofs.Counted.{AreNext, file_next, past_one}
use Rattle.reflect_tables.specs.Types.{PoolType}
use Rattle.reflect_options.specs.Entities.{Entity, entities, range_at}
use Rattle.reflect_options.specs.Settling.{Move, RefusesEntity, SeesFrom, SettlesAll}
use Rattle.reflect_options.specs.Visiting.{Does, Fault, IsSame, Looks, MovesMore, Passes, SeesBehind, Settled, Visits}
use Rattle.reflect_options.specs.declared.options_visitor.OptionsVisitor.{OptionsVisitor}
use Rattle.reflect_options.proofs.Moving.{moves_none, moves_on}

-- ---- one of two cases
case_none : {A : Type 0} (P : Type 0) (Q : A → Type 0) (o : Option A) → o ≡ None → MatchOption o P Q → P
case_none P Q None e h = h
case_none P Q (Some x) e h = absurd (cc e)

case_some : {A : Type 0} (P : Type 0) (Q : A → Type 0) (o : Option A) (x : A) → o ≡ Some x → MatchOption o P Q → Q x
case_some P Q None x e h = absurd (cc e)
case_some P Q (Some y) x e h = let same : y ≡ x = cc e in subst Q same h

-- ---- what is settled
settles_append : (pool : PoolType) (xs ys : List Entity) (es fs : List Edit) (ms ns : List Move) → SettlesAll pool xs es ms → SettlesAll pool ys fs ns → SettlesAll pool (xs ++ ys) (es ++ fs) (ms ++ ns)
settles_append pool [] ys es fs ms ns (no_edits, no_moves) q =
    subst (λ l. SettlesAll pool ys (l ++ fs) (ms ++ ns)) (sym no_edits) (subst (λ l. SettlesAll pool ys fs (l ++ ns)) (sym no_moves) q)
settles_append pool (c ∷ xs) ys es fs ms ns (own, rest, moved, more, here, there, edits, moves) q = (
  own,
  rest ++ fs,
  moved,
  more ++ ns,
  here,
  settles_append pool xs ys rest fs more ns there q,
  ap (λ l. l ++ fs) edits ∙ append_assoc own rest fs,
  ap (λ l. l ++ ns) moves ∙ append_assoc moved more ns,
)

-- entities are settled, and their edits and moves noted
pub record AllSettled (s : OptionsVisitor) (cs : List Entity) (t : OptionsVisitor) : Type 0 where
  pub edits : List Edit
  pub moves : List Move
  pub right : SettlesAll s.pool.now cs edits moves
  pub noted : t.edits.items ≡ s.edits.items ++ edits
  pub moved : MovesMore s.moved moves t.moved

-- or the fault of the first that is refused is noted
abbrev pub FirstRefused : PoolType → List Entity → Fault → Type 0
FirstRefused pool cs f = (front back : List Entity) × (c : Entity) × (es : List Edit) × (ms : List Move)
    × (cs ≡ front ++ (c ∷ back)) × SettlesAll pool front es ms × UnlessMemory (RefusesEntity pool c f.1.items) f.0

abbrev pub Ends : OptionsVisitor → List Entity → OptionsVisitor → Option Fault → Type 0
Ends s cs t o = MatchOption o (AllSettled s cs t) (FirstRefused s.pool.now cs)

abbrev pub Went : OptionsVisitor → List Entity → OptionsVisitor → Type 0
Went s cs t = Ends s cs t t.fault

-- behind entities that are settled go others
further : (a b c : OptionsVisitor) (xs ys : List Entity) → b.pool.now ≡ a.pool.now → AllSettled a xs b → (o : Option Fault) → Ends b ys c o → Ends a (xs ++ ys) c o
further a b c xs ys pool first None rest = record {
  edits = first.edits ++ rest.edits;
  moves = first.moves ++ rest.moves;
  right = settles_append a.pool.now xs ys first.edits rest.edits first.moves rest.moves first.right (subst (λ p. SettlesAll p ys rest.edits rest.moves) pool rest.right);
  noted = rest.noted ∙ ap (λ l. l ++ rest.edits) first.noted ∙ append_assoc a.edits.items first.edits rest.edits;
  moved = moves_on a.moved b.moved c.moved first.moves rest.moves first.moved rest.moved;
}
further a b c xs ys pool first (Some f) (front, back, x, es, ms, is, all, refused) = (
  xs ++ front,
  back,
  x,
  first.edits ++ es,
  first.moves ++ ms,
  ap (λ l. xs ++ l) is ∙ sym (append_assoc xs front (x ∷ back)),
  settles_append a.pool.now xs front first.edits es first.moves ms first.right (subst (λ p. SettlesAll p front es ms) pool all),
  subst (λ p. UnlessMemory (RefusesEntity p x f.1.items) f.0) pool refused,
)

-- one that is refused is the first, whatever stands behind it
sooner : (pool : PoolType) (xs ys : List Entity) (f : Fault) → FirstRefused pool xs f → FirstRefused pool (xs ++ ys) f
sooner pool xs ys f (front, back, x, es, ms, is, all, refused) =
    (front, back ++ ys, x, es, ms, ap (λ l. l ++ ys) is ∙ append_assoc front (x ∷ back) ys, all, refused)

-- both together
joined : (a b c : OptionsVisitor) (xs ys : List Entity) → b.pool.now ≡ a.pool.now → Went a xs b → (b.fault ≡ None → Went b ys c) → ((f : Fault) → b.fault ≡ Some f → c.fault ≡ Some f) → Went a (xs ++ ys) c
joined a b c xs ys pool first later kept = by b.fault refl
  where
    by : (o : Option Fault) → b.fault ≡ o → Went a (xs ++ ys) c
    by None e = further a b c xs ys pool (subst (Ends a xs b) e first) c.fault (later e)
    by (Some f) e = subst (Ends a (xs ++ ys) c) (sym (kept f e)) (sooner a.pool.now xs ys f (subst (Ends a xs b) e first))

-- ---- entities
same_on : (a b c : OptionsVisitor) → IsSame a b → IsSame b c → IsSame a c
same_on a b c p q = record { pool = q.pool ∙ p.pool; seen = q.seen ∙ p.seen }

-- a run leaves pool and what is seen, and a fault
stays : (s : OptionsVisitor) (cs : List Entity) (t : OptionsVisitor) → Runs Passes s cs t → IsSame s t
stays s [] t e = record { pool = ap (λ x. x.pool.now) e; seen = ap (λ x. x.seen) e }
stays s (c ∷ cs) t (m, (pass, run)) = same_on s m t pass.same (stays m cs t run)

keeps_fault : (f : Fault) (s : OptionsVisitor) (cs : List Entity) (t : OptionsVisitor) → s.fault ≡ Some f → Runs Passes s cs t → t.fault ≡ Some f
keeps_fault f s [] t e run = ap (λ x. x.fault) run ∙ e
keeps_fault f s (c ∷ cs) t e (m, (pass, run)) = keeps_fault f m cs t (case_some (Does s c m) (λ g. m.fault ≡ Some g) s.fault f e pass.does) run

-- one entity
passed : (s : OptionsVisitor) (c : Entity) (t : OptionsVisitor) → SeesFrom s.pool.now c.file s.seen → (o : Option Fault)
    → MatchOption o (Settled s c t) (λ f. SeesFrom s.pool.now c.file s.seen → UnlessMemory (RefusesEntity s.pool.now c f.1.items) f.0) → Ends s (c ∷ []) t o
passed s c t sees None h = record {
  edits = h.more;
  moves = h.moves;
  right = (h.more, [], h.moves, [], h.right sees, (refl, refl), sym (append-nil h.more), sym (append-nil h.moves));
  noted = h.edits;
  moved = h.moved;
}
passed s c t sees (Some f) h = ([], [], c, [], [], refl, (refl, refl), h sees)

nothing_went : (s t : OptionsVisitor) → t ≡ s → s.fault ≡ None → Went s [] t
nothing_went s t e clean = subst (λ x. Went s [] x) (sym e) (subst (Ends s [] s) (sym clean) (record {
  edits = [];
  moves = [];
  right = (refl, refl);
  noted = sym (append-nil s.edits.items);
  moved = moves_none s.moved;
}))

sees_same : (file : ℕ) (s t : OptionsVisitor) → IsSame s t → SeesFrom s.pool.now file s.seen → SeesFrom t.pool.now file t.seen
sees_same file s t same sees = subst (λ x. SeesFrom t.pool.now file x) (sym same.seen) (subst (λ p. SeesFrom p file s.seen) (sym same.pool) sees)

pub went : (file : ℕ) (s : OptionsVisitor) (cs : List Entity) (t : OptionsVisitor) → AllByRecursion (λ c. c.file ≡ file) cs → s.fault ≡ None → SeesFrom s.pool.now file s.seen → Runs Passes s cs t → Went s cs t
went file s [] t files clean sees e = nothing_went s t e clean
went file s (c ∷ cs) t files clean sees (m, (pass, run)) =
    joined s m t (c ∷ []) cs pass.same.pool
    (passed s c m (subst (λ i. SeesFrom s.pool.now i s.seen) (sym files.0) sees) m.fault (case_none (Does s c m) (λ g. m.fault ≡ Some g) s.fault clean pass.does))
    (λ e. went file m cs t files.1 e (sees_same file s m pass.same sees) run)
    (λ f e. keeps_fault f m cs t e run)

-- ---- declarations
-- the entities of a declaration are of its file
ranges_of : (d : Declaration) (k : ℕ) (rs : List ExtensionRange) → AllByRecursion (λ c. c.file ≡ d.file) (each (range_at d.file d.path d.name) k rs)
ranges_of d k [] = tt
ranges_of d k (r ∷ rs) = (refl, ranges_of d (k + 1) rs)

of_its_file : (d : Declaration) → AllByRecursion (λ c. c.file ≡ d.file) (entities d)
of_its_file d = by d.body
  where
    by : (b : Body) → AllByRecursion (λ c. c.file ≡ d.file) (entities (record d { body = b }))
    by (of_file f) = (refl, tt)
    by (of_message m) = (refl, ranges_of (record d { body = of_message m }) 0 m.extension_range)
    by (of_field f) = (refl, tt)
    by (of_oneof o) = (refl, tt)
    by (of_enum e) = (refl, tt)
    by (of_enum_value v) = (refl, tt)
    by (of_service x) = (refl, tt)
    by (of_method m) = (refl, tt)
    by (of_extension x) = (refl, tt)

-- a visitor that saw from the declaration's file still does
sees_on : (s : OptionsVisitor) (d : Declaration) (t : OptionsVisitor) → Looks s d t → SeesFrom s.pool.now d.file s.seen → SeesFrom t.pool.now d.file t.seen
sees_on s d t looks sees = subst (λ p. SeesFrom p d.file t.seen) (sym looks.pool) (by d.body looks.seen)
  where
    same : t.seen ≡ s.seen → SeesFrom s.pool.now d.file t.seen
    same e = subst (λ x. SeesFrom s.pool.now d.file x) (sym e) sees

    by : (b : Body) → SeesBehind s (record d { body = b }) t → SeesFrom s.pool.now d.file t.seen
    by (of_file f) h = h
    by (of_message m) h = same h
    by (of_field f) h = same h
    by (of_oneof o) h = same h
    by (of_enum e) h = same h
    by (of_enum_value v) h = same h
    by (of_service x) h = same h
    by (of_method m) h = same h
    by (of_extension x) h = same h

-- what goes on from where the visitor looked goes on from where it was
looked : (s : OptionsVisitor) (d : Declaration) (m : OptionsVisitor) (cs : List Entity) (t : OptionsVisitor) → Looks s d m → (o : Option Fault) → Ends m cs t o → Ends s cs t o
looked s d m cs t looks None h = record {
  edits = h.edits;
  moves = h.moves;
  right = subst (λ p. SettlesAll p cs h.edits h.moves) looks.pool h.right;
  noted = h.noted ∙ ap (λ e. e.items ++ h.edits) looks.edits;
  moved = subst (λ x. MovesMore x h.moves t.moved) looks.moved h.moved;
}
looked s d m cs t looks (Some f) h = subst (λ p. FirstRefused p cs f) looks.pool h

visit_pool : (s : OptionsVisitor) (d : Declaration) (t : OptionsVisitor) → Visits s d t → t.pool.now ≡ s.pool.now
visit_pool s d t v = (stays v.there (entities d) t v.passes).pool ∙ v.looks.pool

pub walk_pool : (s : OptionsVisitor) (ds : List Declaration) (t : OptionsVisitor) → Runs Visits s ds t → t.pool.now ≡ s.pool.now
walk_pool s [] t e = ap (λ x. x.pool.now) e
walk_pool s (d ∷ ds) t (m, (visit, run)) = walk_pool m ds t run ∙ visit_pool s d m visit

walk_keeps_fault : (f : Fault) (s : OptionsVisitor) (ds : List Declaration) (t : OptionsVisitor) → s.fault ≡ Some f → Runs Visits s ds t → t.fault ≡ Some f
walk_keeps_fault f s [] t e run = ap (λ x. x.fault) run ∙ e
walk_keeps_fault f s (d ∷ ds) t e (m, (v, run)) = walk_keeps_fault f m ds t (keeps_fault f v.there (entities d) m (v.looks.fault ∙ e) v.passes) run

-- one declaration, from where the visitor looked
visited : (s : OptionsVisitor) (d : Declaration) (t : OptionsVisitor) (v : Visits s d t) → s.fault ≡ None → SeesFrom v.there.pool.now d.file v.there.seen → Went s (entities d) t
visited s d t v clean sees = looked s d v.there (entities d) t v.looks t.fault (went d.file v.there (entities d) t (of_its_file d) (v.looks.fault ∙ clean) sees v.passes)

walked : (file : ℕ) (s : OptionsVisitor) (ds : List Declaration) (t : OptionsVisitor) → AllByRecursion (λ d. d.file ≡ file) ds → s.fault ≡ None → SeesFrom s.pool.now file s.seen
    → Runs Visits s ds t → Went s (flat_map entities ds) t
walked file s [] t files clean sees e = nothing_went s t e clean
walked file s (d ∷ ds) t files clean sees (m, (v, run)) =
    let there = sees_on s d v.there v.looks (subst (λ i. SeesFrom s.pool.now i s.seen) (sym files.0) sees) in
    let behind = sees_same d.file v.there m (stays v.there (entities d) m v.passes) there in
    joined s m t (entities d) (flat_map entities ds) (visit_pool s d m v) (visited s d m v clean there)
    (λ e. walked file m ds t files.1 e (subst (λ i. SeesFrom m.pool.now i m.seen) files.0 behind) run)
    (λ f e. walk_keeps_fault f m ds t e run)

-- ---- a file
of_file_all : (file : ℕ) (ds : List Declaration) (o p : Offsets) → AreNext file o ds p → AllByRecursion (λ d. d.file ≡ file) ds
of_file_all file [] o p h = tt
of_file_all file (d ∷ ds) o p h = (h.0, of_file_all file ds (past_one o d.body) p h.1.1)

first_went : (file : ℕ) (s : OptionsVisitor) (d : Declaration) (ds : List Declaration) (t : OptionsVisitor) → AllByRecursion (λ d. d.file ≡ file) (d ∷ ds) → s.fault ≡ None
    → ((u : OptionsVisitor) → Looks s d u → SeesFrom s.pool.now file u.seen) → Runs Visits s (d ∷ ds) t → Went s (flat_map entities (d ∷ ds)) t
first_went file s d ds t files clean sees (m, (v, run)) =
    let there : SeesFrom v.there.pool.now d.file v.there.seen = subst (λ i. SeesFrom v.there.pool.now i v.there.seen) (sym files.0) (subst (λ p. SeesFrom p file v.there.seen) (sym v.looks.pool) (sees v.there v.looks)) in
    let behind = sees_same d.file v.there m (stays v.there (entities d) m v.passes) there in
    joined s m t (entities d) (flat_map entities ds) (visit_pool s d m v) (visited s d m v clean there)
    (λ e. walked file m ds t files.1 e (subst (λ i. SeesFrom m.pool.now i m.seen) files.0 behind) run)
    (λ g e. walk_keeps_fault g m ds t e run)

pub file_went : (file : ℕ) (o : Offsets) (f : FileDescriptorProto) (s t : OptionsVisitor) → s.fault ≡ None → Runs Visits s (file_declarations o file f) t → Went s (flat_map entities (file_declarations o file f)) t
file_went file o f s t clean run =
    first_went file s (file_declaration [] file f) _ t (of_file_all file (file_declarations o file f) o (past_file o f) (file_next file o f)) clean (λ u looks. looks.seen) run

-- ---- a call for a declaration
-- one with one entity passes it
pub one_visit : (s t : OptionsVisitor) (d : Declaration) (e given : Entity) → SeesBehind s d s → entities d ≡ e ∷ [] → given ≡ e → Passes s given t → Visits s d t
one_visit s t d e given sees is same pass = record {
  there = s;
  looks = record { pool = refl; seen = sees; edits = refl; moved = refl; fault = refl };
  passes = subst (λ l. Runs Passes s l t) (sym is) (t, (subst (λ x. Passes s x t) same pass, refl));
}

-- an extension range is passed by itself
pub one_range : {A E : Type 0} (r : Result A E) (s t : OptionsVisitor) (e given : Entity) → given ≡ e → OnOk r (Passes s given t) → OnOk r (Runs Passes s (e ∷ []) t)
one_range (Ok a) s t e given same pass = (t, (subst (λ x. Passes s x t) same pass, refl))
one_range (Err x) s t e given same pass = tt
