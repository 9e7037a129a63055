use Rattle.std.proofs.Common.{rules}
use Rattle.std.proofs.lemmas.Bool.Decides.{not_from_Decides}
use Rattle.reflect_tables.specs.Types.{ServiceWithin}
use Rattle.reflect_tables.specs.Views.{service_of}
use Rattle.reflect_growth.proofs.More.{one_fails}
use Rattle.reflect_growth.proofs.within.services_within.Goals as goal

-- the service is not within
pub returns-then-not-service_within : goal.returns-then-not-service_within
returns-then-not-service_within c =
    one_fails (ServiceWithin c.args.counts) service_of c.args.items.now c.loop-service.service-index c.service-item.result (search) (search) (not_from_Decides c.service_within.result c.service_within.ensures (search rules))
