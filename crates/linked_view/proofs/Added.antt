-- Files that are lawful by themselves and agree with the others are added.
use Rattle.std.proofs.Common.{List}
use Rattle.descriptor_records.specs.Content.{FileContent}
use Rattle.schema_view.specs.Lawful.{AddsLawful}
use Rattle.linked_view.specs.Alone.{AreLawfulAlone, AreSettledAlone}

pub alone_added : (old new after : List FileContent) (l : AreLawfulAlone old new after)
    → AreSettledAlone old new l.meanings → AddsLawful old new after
alone_added old new after l s = (
  l.meanings,
  record {
    apart = l.names.apart;
    files = l.names.files;
    imports = l.names.imports;
    means = l.means;
    sound = l.sound;
    settled = s.settled;
    together = s.together;
  },
  l.stand,
)
