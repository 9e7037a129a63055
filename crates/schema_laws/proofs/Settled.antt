-- A pool reads the options that it read before some were settled in it.
use Rattle.std.proofs.Common.{sym, subst}
use Rattle.option_parts.specs.OptionTypes.{CanRead, KeepsExtensions}
use Rattle.option_parts.specs.declared.option_scope.OptionScope.{OptionScope}
use Rattle.reflect_tables.specs.Types.{PoolType}
use Rattle.settled_view.specs.BuiltBut.{ChangesOptions}
use Rattle.schema_laws.proofs.Numbers.{settled_keeps}

module _ (linked new : PoolType) (s : ChangesOptions linked new) (scope : OptionScope) (can : CanRead linked scope) where
  abbrev settled : PoolType
  settled = record linked { records = new.records }

  reads : CanRead settled scope
  reads m named =
      let its = can m named in
      let lists = its.uninterpreted.2 in
      record {
        uninterpreted = (
          its.uninterpreted.0,
          its.uninterpreted.1,
          record { named = lists.named; listed = lists.listed; by_length = lists.by_length; messages = lists.messages },
        );
        extensions = subst (λ p. KeepsExtensions p m) s.settled (settled_keeps linked new s m its.extensions);
        typed = its.typed;
      }

  pub settled_reads : CanRead new scope
  settled_reads = subst (λ p. CanRead p scope) (sym s.settled) reads
