-- What the visitor of options does at a declaration.
use Rattle.std.specs.declared.alloc.Global.{Global}
use Rattle.std.specs.Prelude.{◌≡◌, ◌++◌, ℤ, List, MatchOption, Option, None, Some, Vec, option_map}
use Rattle.std.specs.BTreeMap.{BTreeMap}
use Rattle.std.specs.Option.{option_or}
use Rattle.option_parts.specs.Moves.{targets_of}
use Rattle.option_parts.specs.declared.option_error.OptionErrorKind.{OptionErrorKind}
use Rattle.option_setter.specs.OptionNames.{UnlessMemory}
use Rattle.reflect_declarations.specs.Declarations.{Declaration, Runs, of_file}
use Rattle.reflect_growth.specs.declared.settle.Edit.{Edit}
use Rattle.reflect_options.specs.Entities.{Entity, entities}
use Rattle.reflect_options.specs.Settling.{Move, RefusesEntity, SeesFrom, SettlesEntity, target_in}
use Rattle.reflect_options.specs.declared.options_visitor.Entity.{Entity as Given}
use Rattle.reflect_options.specs.declared.options_visitor.OptionsVisitor.{OptionsVisitor}

-- the entity that is given
abbrev pub entity_of : Given → Entity
entity_of c = record {
  scope = c.scope;
  file = c.file;
  path = c.path.now;
  number = c.number;
  name = c.name.now;
  options = option_map (λ o. o.now) c.options;
}

-- the second map has these moves besides
abbrev pub Moved : Type 0
Moved = BTreeMap (Vec ℤ Global) (Vec ℤ Global)

abbrev pub MovesMore : Moved → List Move → Moved → Type 0
MovesMore old ms new = (path : List ℤ)
    → targets_of new path ≡ option_or (target_in ms path) (targets_of old path)

abbrev pub MovesNothing : Moved → Type 0
MovesNothing moved = (path : List ℤ) → targets_of moved path ≡ None

-- pool and what is seen stay
pub record IsSame (s t : OptionsVisitor) : Type 0 where
  pub pool : t.pool.now ≡ s.pool.now
  pub seen : t.seen ≡ s.seen

-- as at the beginning of a file
pub record IsClean (s : OptionsVisitor) : Type 0 where
  pub fault : s.fault ≡ None
  pub moved : MovesNothing s.moved

abbrev pub Fault : Type 0
Fault = OptionErrorKind × Vec ℤ Global

-- the fault at the path is noted
abbrev pub HasFault : Option Fault → OptionErrorKind → List ℤ → Type 0
HasFault None kind path = ⊥
HasFault (Some f) kind path = (f.0 ≡ kind) × (f.1.items ≡ path)

-- the entity is settled, by what its file sees
pub record Settled (s : OptionsVisitor) (c : Entity) (t : OptionsVisitor) : Type 0 where
  pub more : List Edit
  pub moves : List Move
  pub right : SeesFrom s.pool.now c.file s.seen → SettlesEntity s.pool.now c more moves
  pub edits : t.edits.items ≡ s.edits.items ++ more
  pub moved : MovesMore s.moved moves t.moved

-- or the fault in its options is noted
abbrev pub Does : OptionsVisitor → Entity → OptionsVisitor → Type 0
Does s c t = MatchOption t.fault (Settled s c t) (λ f. SeesFrom s.pool.now c.file s.seen
    → UnlessMemory (RefusesEntity s.pool.now c f.1.items) f.0)

-- behind a fault nothing is done
abbrev pub DoesBehind : OptionsVisitor → Entity → OptionsVisitor → Type 0
DoesBehind s c t = MatchOption s.fault (Does s c t) (λ f. t.fault ≡ Some f)

pub record Passes (s : OptionsVisitor) (c : Entity) (t : OptionsVisitor) : Type 0 where
  pub same : IsSame s t
  pub does : DoesBehind s c t

-- at a file: what it sees is seen from then on; elsewhere that stays
abbrev pub SeesBehind : OptionsVisitor → Declaration → OptionsVisitor → Type 0
SeesBehind s d t =
    elim d.body [ of_file f ↦ SeesFrom s.pool.now d.file t.seen | _ ↦ t.seen ≡ s.seen ]

pub record Looks (s : OptionsVisitor) (d : Declaration) (t : OptionsVisitor) : Type 0 where
  pub pool : t.pool.now ≡ s.pool.now
  pub seen : SeesBehind s d t
  pub edits : t.edits ≡ s.edits
  pub moved : t.moved ≡ s.moved
  pub fault : t.fault ≡ s.fault

-- the declaration's entities are passed, one after another
pub record Visits (s : OptionsVisitor) (d : Declaration) (t : OptionsVisitor) : Type 0 where
  pub there : OptionsVisitor
  pub looks : Looks s d there
  pub passes : Runs Passes there (entities d) t
