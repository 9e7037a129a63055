-- What lies between two places of a source.
use Rattle.protox_lex.specs.declared.span.Span.{Span}

-- from the start of the first to the end of the last
abbrev pub across : Span → Span → Span
across first last = record { start = first.start; end = last.end }
