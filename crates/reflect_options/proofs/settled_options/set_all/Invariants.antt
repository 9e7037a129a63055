use Rattle.std.proofs.Common.{◌≡◌, take}
use Rattle.reflect_options.specs.Settled.{SetsAll, lists_of}
use Rattle.reflect_options.proofs.settled_options.set_all.Given as goal

abbrev pub invariant-options : goal.invariant-options
invariant-options l = record {
  kind : l.message.descriptor ≡ l.initial.message.descriptor;
  set : SetsAll l.names (take l.place l.options) l.initial.message l.message (lists_of l.targets);
}
