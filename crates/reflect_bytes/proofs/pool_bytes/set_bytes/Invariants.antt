use Rattle.std.proofs.Common.{◌≡◌, ◌++◌}
use Rattle.reflect_codec.specs.Fields.{records_field}
use Rattle.reflect_codec.specs.Written.{file_bytes}
use Rattle.reflect_link.specs.FilesLeft.{records_left}
use Rattle.reflect_bytes.specs.Written.{pool_bytes}
use Rattle.reflect_bytes.proofs.pool_bytes.set_bytes.Given as goal

abbrev pub invariant-files : goal.invariant-files
invariant-files l = record { rest : l.set.items ++ records_field file_bytes 1 (records_left l.file-iterator) ≡ pool_bytes l.pool }
