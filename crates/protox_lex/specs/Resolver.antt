-- What a `LineResolver` holds.
use Rattle.std.specs.Prelude.{ℕ, List}
use Rattle.protox_lex.specs.declared.lines.LineResolver.{LineResolver}

-- the offsets of the line feeds
abbrev pub feeds : LineResolver → List ℕ
feeds r = r.ends.items
