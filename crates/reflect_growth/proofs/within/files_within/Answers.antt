use Rattle.std.proofs.Common.{rules}
use Rattle.std.proofs.lemmas.Bool.Decides.{not_from_Decides}
use Rattle.reflect_tables.specs.Types.{FileWithin}
use Rattle.reflect_tables.specs.Views.{places_of}
use Rattle.reflect_growth.proofs.More.{one_fails}
use Rattle.reflect_growth.proofs.within.files_within.Goals as goal

-- the file is not within
pub returns-then-not-file_within : goal.returns-then-not-file_within
returns-then-not-file_within c =
    one_fails (FileWithin c.args.counts) places_of c.args.items.now c.loop-file.file-index c.file-item.result (search) (search) (not_from_Decides c.file_within.result c.file_within.ensures (search rules))
