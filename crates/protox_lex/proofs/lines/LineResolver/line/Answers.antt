use Rattle.std.proofs.Common.{◌≡◌, true, false, arith, ltb, rules, subst}
use Rattle.std.specs.List.Sorted.{IsPartitionPoint}
use Rattle.std.proofs.lemmas.Bool.{ltb-true, ltb-false}
use Rattle.std.proofs.lemmas.List.Sorted.{IsPartitionPoint-from_clause, IsPartitionedBy-ltb}
use Rattle.protox_lex.proofs.lines.LineResolver.line.Goals as goal

point : (c : goal.After-partition_point) → IsPartitionPoint (λ e. ltb e c.args.offset ≡ true) (λ e. ltb e c.args.offset ≡ false) c.args.self.now.ends.items c.partition_point.result
point c =
    subst (λ s. IsPartitionPoint (λ e. ltb e c.args.offset ≡ true) (λ e. ltb e c.args.offset ≡ false) s c.partition_point.result) c.deref.ensures.value
    (IsPartitionPoint-from_clause (λ e. ltb e c.args.offset) c.deref.result.now c.partition_point.result c.partition_point.ensures.partitioned
    (rw c.deref.ensures.value (IsPartitionedBy-ltb (λ x. x) c.args.self.now.ends.items c.args.offset c.args.self.now.ascending)) (λ a r q k. search rules))

pub returns-clause-before : goal.returns-clause-before
returns-clause-before c = λ k lt. ltb-true _ _ ((point c).0 k 0 (omega arith) lt)

pub returns-clause-behind : goal.returns-clause-behind
returns-clause-behind c = λ k le lt. ltb-false _ _ ((point c).1 k 0 le lt)
