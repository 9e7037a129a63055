use Rattle.schema_laws.proofs.Alike.{read_alike, unread}
use Rattle.schema_laws.proofs.option_types.pools_that_say_the_same_read_the_same_options.Goals as goal

pub returns : goal.returns
returns c p q sound also alike keep scope can = read_alike p q sound also (alike unread) keep scope can
