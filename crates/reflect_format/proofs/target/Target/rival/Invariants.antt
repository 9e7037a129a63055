use Rattle.std.specs.Prelude.{All, false, map}
use Rattle.reflect_numbered.specs.Called.{HasNumber, TellsMeant}
use Rattle.reflect_pool.specs.FieldsLeft.{type_in}
use Rattle.reflect_pool.specs.Parts.{members_of}
use Rattle.reflect_pool.specs.PartsLeft.{members_left}
use Rattle.reflect_format.specs.Refusals.{HoldsAmong, HoldsMember}
use Rattle.reflect_format.proofs.target.Target.rival.Given as goal

-- what the members that are left say, all do
abbrev pub invariant-members : goal.invariant-members
invariant-members l =
    (HoldsAmong l.message (map type_in (members_left l.member-iterator)) → HoldsMember l.message l.oneof)
    × (All (λ g. TellsMeant (HasNumber g.number) l.message false) (map type_in (members_left l.member-iterator))
    → All (λ g. TellsMeant (HasNumber g.number) l.message false)
    (members_of l.oneof.message.pool.now l.oneof.message.index l.oneof.index))
