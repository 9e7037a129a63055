-- A pool as linking made it, before options were settled, differs in records alone.
use Rattle.std.proofs.Common.{ap, sym, subst}
use Rattle.linked_view.proofs.Stays.{settled_sound}
use Rattle.message_view.specs.Sound.{IsSound}
use Rattle.reflect_tables.specs.Types.{IsSettled, PoolType}
use Rattle.text_view.specs.SourceNames.{HaveOwnNames}

-- the pool that linking makes is sound, and has names of its own, where the one is and has whose
-- options were settled since
pub linked_sound : (linked new : PoolType) → IsSettled linked new → IsSound new → IsSound linked
linked_sound linked new settled = settled_sound new linked (sym (ap (λ (p : PoolType). record p { records = linked.records }) settled))

pub linked_names : (linked new : PoolType) → IsSettled linked new → HaveOwnNames new → HaveOwnNames linked
linked_names linked new settled names = by (subst HaveOwnNames settled names)
  where
    by : HaveOwnNames (record linked { records = new.records }) → HaveOwnNames linked
    by r = record { fields = r.fields; values = r.values; extensions = r.extensions }

-- and so has the pool whose options were settled
pub names_stay : (linked new : PoolType) → IsSettled linked new → HaveOwnNames linked → HaveOwnNames new
names_stay linked new settled names = subst HaveOwnNames (sym settled) (by names)
  where
    by : HaveOwnNames linked → HaveOwnNames (record linked { records = new.records })
    by r = record { fields = r.fields; values = r.values; extensions = r.extensions }
