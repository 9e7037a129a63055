-- What the program says where files are at fault.
use Rattle.std.specs.Prelude.{ℕ, List, ◌++◌, codes, string_bytes}
use Rattle.run_parts.specs.declared.files.FileFault.{FileFault}
use Rattle.run_parts.specs.declared.files.FileFault.TheVariants as files

-- a line without its end
abbrev pub said : FileFault → List ℕ
said (files.Read path) = codes "'" ++ (string_bytes path ++ codes "' cannot be read")
said (files.NotUtf8 name) = codes "'" ++ (string_bytes name ++ codes "' is not UTF-8")
said files.Memory = codes "out of memory"
