-- Where the entries that are left fit, all do.
use Rattle.valid_view.specs.Inside.{KeysFit, ValuesFit}
use Rattle.valid_view.proofs.whole.map_fits.Given as goal

abbrev pub invariant-turns : goal.invariant-turns
invariant-turns l = record {
  keys : KeysFit l.key-iterator → KeysFit l.entries.entries;
  values : ValuesFit l.key-iterator → ValuesFit l.entries.entries;
}
