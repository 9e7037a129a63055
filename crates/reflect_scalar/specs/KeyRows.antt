-- The types of what keys lend to be changed, as the logic names them.
use denote.RattleType.{RattleType}
use Rattle.std.specs.contracts.alloc.Global as global
use Rattle.std.specs.contracts.string.String as string
use Rattle.std.specs.contracts.impls.GlobalAllocator.TheImpl.{ghosts}

abbrev pub text_row : RattleType
text_row = string.the_row global.the_row ghosts
