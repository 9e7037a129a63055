-- What a buffer holds that is filled from its end.
use Rattle.std.specs.Prelude.{ℕ, List, reverse}
use Rattle.reflect_codec.specs.declared.backward.Backward.{Backward}

abbrev pub held : Backward → List ℕ
held b = reverse b.reversed.items
