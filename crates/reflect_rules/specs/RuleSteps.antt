-- What the visitor of the rules does at a declaration.
use Rattle.std.specs.Prelude.{◌≡◌, List}
use Rattle.std.specs.BTreeMap.{get}
use Rattle.std.specs.Ordering.{nat_cmp}
use Rattle.reflect_declarations.specs.Declarations.{Declaration}
use Rattle.reflect_faults.specs.Faults.{Fault, Adds, place_at}
use Rattle.reflect_references.specs.Meanings.{rest_behind}
use Rattle.reflect_rules.specs.TypesSay.{TypesSay}
use Rattle.reflect_rules.specs.Walks.{Facts, Place, proto3_behind, oneofs_behind}
use Rattle.reflect_rules.specs.Rules.{Values, FaultsOf}
use Rattle.reflect_rules.specs.declared.rule_visitor.RuleVisitor.{RuleVisitor}

module _ {T : Type 0} where
  abbrev pub facts_of : (T → TypesSay) → RuleVisitor T → Facts
  facts_of says s = record {
    types = says s.types.now;
    uses = λ i. get nat_cmp s.uses.now i;
    first =
        s.first_message;
  }

  abbrev pub place_of : RuleVisitor T → Place
  place_of s = record { rest = s.references.rest.now; is_proto3 = s.is_proto3; oneofs = s.oneofs }

-- types, uses and the first message are as they were
pub record SameFacts {T : Type 0} (s t : RuleVisitor T) : Type 0 where
  pub types : t.types.now ≡ s.types.now
  pub uses : t.uses.now ≡ s.uses.now
  pub first : t.first_message ≡ s.first_message

pub record Checks {T : Type 0} (says : T → TypesSay) (values : T → Values) (s : RuleVisitor T)
    (d : Declaration) (t : RuleVisitor T) : Type 0 where
  pub found : List Fault
  pub right : FaultsOf (facts_of says s) (values s.types.now) (place_of s)
      (place_at s.faults d.file) d found
  pub faults : Adds s.faults t.faults found
  pub rest : t.references.rest.now ≡ rest_behind d s.references.rest.now
  pub is_proto3 : t.is_proto3 ≡ proto3_behind d s.is_proto3
  pub oneofs : t.oneofs ≡ oneofs_behind d s.oneofs
  pub facts : SameFacts s t
