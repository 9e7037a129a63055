use Rattle.message_view.specs.Shaped.{HasShape}
use Rattle.set_view.proofs.Listed.{list_extension_in_shape}
use Rattle.set_view.proofs.lists.extended_list_extensions_leave_the_shape.Goals as goal

pub returns : goal.returns
returns c = λ exclusive levels. list_extension_in_shape (HasShape exclusive levels)
