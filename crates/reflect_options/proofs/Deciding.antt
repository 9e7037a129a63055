-- What the visitor does with an entity, by what settling its options answers.
use Rattle.std.specs.declared.alloc.Global.{Global}
use Rattle.std.proofs.Common.{◌≡◌, ◌∙◌, ◌++◌, [], ◌∷◌, ℕ, ℤ, List, Bool, MatchOption, Option, None, Some, Result, Ok, Err, OnOk, Vec, append-nil, inl, inr, is_some, false, sym, refl, subst}
use Rattle.descriptor_records.specs.Content.{options_view}
use Rattle.descriptor_records.specs.declared.options.Options.{Options}
use Rattle.option_parts.specs.declared.option_error.OptionErrorKind.{OptionErrorKind}
use Rattle.option_setter.proofs.Refusals.{unless_then}
use Rattle.option_setter.specs.OptionNames.{UnlessMemory}
use Rattle.option_setter.specs.declared.option_setter.NameScope.{NameScope}
use Rattle.reflect_growth.specs.declared.settle.Edit.{Edit}
use Rattle.reflect_growth.specs.declared.settle.Edit.TheVariants as edits
use Rattle.reflect_tables.specs.Types.{PoolType}
use Rattle.reflect_options.specs.Entities.{Entity}
use Rattle.reflect_options.specs.Settled.{RefusesOptions, Settles, StayAsTheyAre}
use Rattle.reflect_options.specs.Settling.{IsScopeOf, Move, RefusesEntity, SeesFrom, SettlesEntity, SettlesIn, fault_path, moves_from, options_path}
use Rattle.reflect_options.specs.Visiting.{Does, Fault, HasFault, IsSame, MovesMore, Passes, Settled}
use Rattle.reflect_options.specs.declared.options_visitor.OptionsVisitor.{OptionsVisitor}
use Rattle.reflect_options.proofs.Moving.{moves_none}

-- ---- without a fault before
module _ (s : OptionsVisitor) (c : Entity) (t : OptionsVisitor) (clean : s.fault ≡ None) (same : IsSame s t) where
  passes : Does s c t → Passes s c t
  passes does = record { same = same; does = subst (λ o. MatchOption o (Does s c t) (λ f. t.fault ≡ Some f)) (sym clean) does }

  settled : t.fault ≡ None → Settled s c t → Passes s c t
  settled none h = passes (subst (λ o. MatchOption o (Settled s c t) (λ f. SeesFrom s.pool.now c.file s.seen → UnlessMemory (RefusesEntity s.pool.now c f.1.items) f.0)) (sym none) h)

-- behind a fault, or where there are no options, the visitor stays as it is
pub stayed : (s : OptionsVisitor) (c : Entity) → ((s.fault ≡ None) → Settled s c s) → Passes s c s
stayed s c none = record { same = record { pool = refl; seen = refl }; does = by s.fault refl }
  where
    by : (o : Option Fault) → s.fault ≡ o → MatchOption o (Does s c s) (λ f. s.fault ≡ Some f)
    by None e = subst (λ o. MatchOption o (Settled s c s) (λ f. SeesFrom s.pool.now c.file s.seen → UnlessMemory (RefusesEntity s.pool.now c f.1.items) f.0)) (sym e) (none e)
    by (Some f) e = e

pub nothing_to_settle : (s : OptionsVisitor) (c : Entity) → c.options ≡ None → Passes s c s
nothing_to_settle s c none = stayed s c (λ clean. record {
  more = [];
  moves = [];
  right = λ sees. rw none (refl, refl);
  edits = sym (append-nil s.edits.items);
  moved = moves_none s.moved;
})

settles_some : (pool : PoolType) (c : Entity) (o : Options) (es : List Edit) (ms : List Move) → c.options ≡ Some o → ((s : NameScope) × IsScopeOf pool c s × SettlesIn c s o es ms) → SettlesEntity pool c es ms
settles_some pool c o es ms there h = subst (λ x. MatchOption x ((es ≡ []) × (ms ≡ [])) (λ o. (s : NameScope) × IsScopeOf pool c s × SettlesIn c s o es ms)) (sym there) h

-- no fault was noted
pub none_noted : (o : Option Fault) (b : Bool) → b ≡ is_some o → b ≡ false → o ≡ None
none_noted None b is e = refl
none_noted (Some f) b is e = absurd (cc (is, e))

module _ (s : OptionsVisitor) (c : Entity) (o : Options) (there : c.options ≡ Some o) (n : NameScope) (pool : n.pool.now ≡ s.pool.now) (seen : n.seen.now ≡ s.seen) (name : n.name.now ≡ c.name) where
  scope_of : SeesFrom s.pool.now c.file s.seen → IsScopeOf s.pool.now c n
  scope_of sees = record { pool = pool; seen = subst (λ x. SeesFrom s.pool.now c.file x) (sym seen) sees; name = name }

  -- the options stay as they are
  pub left : StayAsTheyAre c.scope n o → Passes s c s
  left stay = stayed s c (λ clean. record {
    more = [];
    moves = [];
    right = λ sees. settles_some s.pool.now c o [] [] there (n, scope_of sees, inr (stay, refl, refl));
    edits = sym (append-nil s.edits.items);
    moved = moves_none s.moved;
  })

  -- they are settled, and kept
  pub kept : (t : OptionsVisitor) → s.fault ≡ None → IsSame s t → t.fault ≡ s.fault → (options : Options) (paths : List (List ℤ)) → Settles c.scope n o (options_view options) paths
      → ((at : Vec ℤ Global) × (at.items ≡ c.path) × (t.edits.items ≡ s.edits.items ++ edits.Options c.file at options ∷ [])) → MovesMore s.moved (moves_from (options_path c) 0 paths) t.moved → Passes s c t
  kept t clean same fault options paths settles (at, is, edit) moves = settled s c t clean same (fault ∙ clean) (record {
    more = edits.Options c.file at options ∷ [];
    moves = moves_from (options_path c) 0 paths;
    right = λ sees. settles_some s.pool.now c o (edits.Options c.file at options ∷ []) (moves_from (options_path c) 0 paths) there (n, scope_of sees, inl (options, paths, at, settles, is, refl, refl));
    edits = edit;
    moved = moves;
  })

  pub kept_ok : {A E : Type 0} (r : Result A E) (t : OptionsVisitor) → s.fault ≡ None → (options : Options) (paths : List (List ℤ)) → Settles c.scope n o (options_view options) paths → OnOk r (IsSame s t) → OnOk r (t.fault ≡ s.fault)
      → OnOk r ((at : Vec ℤ Global) × (at.items ≡ c.path) × (t.edits.items ≡ s.edits.items ++ edits.Options c.file at options ∷ [])) → OnOk r (MovesMore s.moved (moves_from (options_path c) 0 paths) t.moved) → OnOk r (Passes s c t)
  kept_ok (Ok a) t clean options paths settles same fault edit moves = kept t clean same fault options paths settles edit moves
  kept_ok (Err e) t clean options paths settles same fault edit moves = tt

  -- they are refused, which is noted
  noted : (t : OptionsVisitor) (kind : OptionErrorKind) (at : Option ℕ) → UnlessMemory (RefusesOptions c.scope n o at) kind → (f : Option Fault) → HasFault f kind (fault_path c at)
      → MatchOption f (Settled s c t) (λ f. SeesFrom s.pool.now c.file s.seen → UnlessMemory (RefusesEntity s.pool.now c f.1.items) f.0)
  noted t kind at refused None h = absurd h
  noted t kind at refused (Some f) (same, path) = λ sees.
      subst (λ e. UnlessMemory (RefusesEntity s.pool.now c f.1.items) e) (sym same)
      (subst (λ p. UnlessMemory (RefusesEntity s.pool.now c p) kind) (sym path)
      (unless_then (RefusesOptions c.scope n o at) (RefusesEntity s.pool.now c (fault_path c at)) (λ e h. (o, n, at, there, scope_of sees, h, refl)) kind refused))

  pub refused_ok : {A E : Type 0} (r : Result A E) (t : OptionsVisitor) → s.fault ≡ None → (kind : OptionErrorKind) (at : Option ℕ) → UnlessMemory (RefusesOptions c.scope n o at) kind → OnOk r (IsSame s t)
      → OnOk r (HasFault t.fault kind (fault_path c at)) → OnOk r (Passes s c t)
  refused_ok (Ok a) t clean kind at refused same h = passes s c t clean same (noted t kind at refused t.fault h)
  refused_ok (Err e) t clean kind at refused same h = tt
