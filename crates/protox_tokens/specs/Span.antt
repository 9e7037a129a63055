-- What lies between two places of a source.
pub use Rattle.protox_lex.specs.Span.{across}
