-- A file of a pool at its place.
use Rattle.std.specs.Prelude.{ℕ, [], slice_index_or}
use Rattle.reflect_tables.specs.Types.{FileType, PoolType}
use Rattle.reflect_tables.specs.declared.kind.Syntax.TheVariants.{Proto2}

-- what stands for a place that is not there
abbrev pub no_file : FileType
no_file = record {
  name = [];
  package_name = [];
  syntax = Proto2;
  imports = [];
  public_imports = [];
}

-- the file at a place
abbrev pub file_type_at : PoolType → ℕ → FileType
file_type_at pool i = slice_index_or pool.files i no_file

-- the same of a pool and a place together
abbrev pub file_in : PoolType × ℕ → FileType
file_in p = file_type_at p.0 p.1
