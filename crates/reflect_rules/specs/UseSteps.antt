-- What the visitor of uses does at a declaration.
use Rattle.std.specs.Prelude.{◌≡◌, ℕ}
use Rattle.std.specs.BTreeMap.{get}
use Rattle.std.specs.Ordering.{nat_cmp}
use Rattle.reflect_declarations.specs.Declarations.{Declaration}
use Rattle.reflect_rules.specs.TypesSay.{TypesSay}
use Rattle.reflect_references.specs.Meanings.{rest_behind}
use Rattle.reflect_rules.specs.Uses.{users_in, use_behind}
use Rattle.reflect_rules.specs.declared.uses.UseVisitor.{UseVisitor}

pub record Notes {T : Type 0} (says : T → TypesSay) (s : UseVisitor T) (d : Declaration)
    (t : UseVisitor T) : Type 0 where
  pub uses : (i : ℕ) → get nat_cmp t.uses i
      ≡ use_behind (get nat_cmp s.uses i) (users_in (says s.types.now) i s.references.rest.now d)
  pub rest : t.references.rest.now ≡ rest_behind d s.references.rest.now
  pub types : t.types.now ≡ s.types.now
