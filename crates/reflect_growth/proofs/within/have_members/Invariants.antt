use Rattle.std.proofs.Common.{map, take}
use Rattle.reflect_tables.specs.Types.{HaveMembers}
use Rattle.reflect_tables.specs.Views.{oneof_of}
use Rattle.reflect_growth.proofs.within.have_members.Given as goal

abbrev pub invariant-loop-oneof : goal.invariant-loop-oneof
invariant-loop-oneof l = HaveMembers l.fields (map oneof_of (take l.oneof-index l.oneofs))
