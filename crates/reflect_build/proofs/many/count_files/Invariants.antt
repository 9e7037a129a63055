use Rattle.std.proofs.Common.{◌≡◌, ◌<◌, ◌+◌, ◌^◌, drop, sum_by}
use Rattle.reflect_build.specs.Many.{in_file, as_u64}
use Rattle.reflect_build.proofs.many.count_files.Given as goal

abbrev pub invariant-files : goal.invariant-files
invariant-files l = record {
  counted : as_u64 (l.count + sum_by in_file (drop l.file-index l.files)) ≡ as_u64 (sum_by in_file l.files);
  small : l.count < 2 ^ 64;
}
