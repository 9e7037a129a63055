-- The types of what values lend to be changed, as the logic names them.
use Rattle.std.specs.Borrow.{RattleType, u8}
use Rattle.std.specs.contracts.alloc.Global as global
use Rattle.std.specs.contracts.vec.Vec as vec
use Rattle.std.specs.contracts.collections.BTreeMap as tree
use Rattle.std.specs.contracts.impls.GlobalAllocator.TheImpl.{ghosts}
use Rattle.reflect_scalar.specs.contracts.map_key.MapKey as key
use Rattle.reflect_scalar.specs.contracts.map_key.MapKeyOrd.TheImpl as ord
use Rattle.reflect_scalar.specs.contracts.map_key.MapKeyPartialEq.TheImpl as eq
use Rattle.reflect_scalar.specs.contracts.map_key.MapKeyPartialOrd.TheImpl as partial_ord
use Rattle.reflect_message.specs.contracts.value.ValueOf as value

abbrev pub blob_row : RattleType
blob_row = vec.the_row u8 global.the_row ghosts

abbrev pub list_row : RattleType → RattleType
list_row D = vec.the_row (value.the_row D) global.the_row ghosts

abbrev pub map_row : RattleType → RattleType
map_row D = tree.the_row key.the_row (value.the_row D) global.the_row ord.ghosts eq.ghosts
    partial_ord.ghosts ghosts
