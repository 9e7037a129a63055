-- A pool that is cut back to its first files.
use Rattle.std.specs.Prelude.{ℕ, take, nat_lt}
use Rattle.std.specs.List.{filter}
use Rattle.reflect_tables.specs.Types.{PoolType}

-- the first files, with what is declared in them
abbrev pub cut_to : PoolType → ℕ → PoolType
cut_to p mark = record {
  files = take mark p.files;
  records = take mark p.records;
  declared = take mark p.declared;
  messages = filter (λ m. nat_lt m.file mark) p.messages;
  enums = filter (λ e. nat_lt e.file mark) p.enums;
  extensions = filter (λ x. nat_lt x.file mark) p.extensions;
  services = filter (λ s. nat_lt s.file mark) p.services;
}
