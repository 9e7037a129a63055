-- What is said of texts that are not written.
use Rattle.std.specs.Prelude.{ℕ, List, codes}
use Rattle.reflect_print.specs.declared.error.WriteError.{WriteError}
use Rattle.reflect_print.specs.declared.error.WriteError.TheVariants as errors

abbrev pub said : WriteError → List ℕ
said errors.Format = codes "the writer refused the text"
said errors.Memory = codes "out of memory"
