-- The locations of a source, as its statements and their parts come.
--
-- Source: the comments of `SourceCodeInfo` and of `Location` in protobuf's `descriptor.proto`.
use Rattle.std.specs.Prelude.{ℕ, ◌+◌, ◌-◌, ℤ, Bool, true, false, ◌&&◌, if◌then◌else◌, nat_le, List, [], ◌∷◌, ◌++◌, length, min, None, slice_range}
use Rattle.descriptor_records.specs.Content.{LocationContent}
use Rattle.protox_lex.specs.Class.{Text}
use Rattle.protox_lex.specs.Lines.{span_at}
use Rattle.protox_lex.specs.declared.span.Span.{Span}
use Rattle.protox_locate.specs.Gap.{Notes, comments_in}
use Rattle.protox_locate.specs.declared.gap.Behind.{Behind}
use Rattle.protox_locate.specs.declared.gap.Behind.TheVariants as behinds

abbrev pub Path : Type 0
Path = List ℤ

-- What is met in a source, in its order. The place of each is told by the path of a record and by
-- what leads on from there.
pub data Event : Type 0 where
  -- a part of a statement
  part : Path → Path → Span → Event
  -- a statement, and where its semicolon or its opening brace ends
  statement : Path → Path → Span → ℕ → Event
  -- what stands between a statement's braces was met
  closing : Span → Event
  -- a statement that is empty
  empty : Span → Event

-- ---- places

-- an offset, as far as an `int32` counts
abbrev pub counted : ℕ → ℕ
counted n = min n 2147483647

abbrev pub place_at : List ℕ → Span → List ℤ
place_at line_feeds span = span_at line_feeds (counted span.start) (counted span.end)

-- the place behind the opening one of these braces
abbrev pub inside : Span → ℕ
inside braces = counted braces.start + 1

-- the location of what the second path leads to from the first, without comments
abbrev pub location : List ℕ → Path → Path → Span → LocationContent
location line_feeds path tail span = record {
  path = path ++ tail;
  span = place_at line_feeds span;
  leading_comments = None;
  trailing_comments = None;
  leading_detached_comments = [];
}

-- ---- gaps

-- the bytes between two places of a text
abbrev pub between : Text → ℕ → ℕ → Text
between z from to = if nat_le from to && nat_le to (length z) then slice_range z from to else []

-- where the gap in front of these ends, in a text of this length, and what stands there
abbrev pub gap_end : ℕ → List Event → ℕ × Behind
gap_end size [] = (size, behinds.End)
gap_end size (part path tail span ∷ es) = gap_end size es
gap_end size (statement path tail span end ∷ es) = (span.start, behinds.Statement)
gap_end size (closing braces ∷ es) = (braces.end - 1, behinds.Brace)
gap_end size (empty span ∷ es) = (span.start, behinds.Statement)

-- the comments of the gap that begins here, in front of these; the first may trail what stands
-- before it, or not
abbrev pub gap_notes : Text → ℕ → Bool → List Event → Notes
gap_notes z from may_trail es =
    let end = gap_end (length z) es in
    comments_in (between z from end.0) may_trail end.1

-- ---- locations

-- a location with comments of the gap before a statement and of the gap behind it
abbrev pub commented : Notes → Notes → LocationContent → LocationContent
commented before behind l = record l {
  leading_comments = before.leading;
  trailing_comments = behind.trailing;
  leading_detached_comments = before.detached;
}

-- The locations of what is met behind a place, where a gap begins, whose first comment may trail
-- what stands before it, or not. Parts have no comments. Behind a statement's semicolon or opening
-- brace a comment may trail, behind a closing brace none. An empty statement has no location, so a
-- comment that trails it is dropped.
abbrev pub located_from : Text → List ℕ → ℕ → Bool → List Event → List LocationContent
located_from z feeds from may_trail [] = []
located_from z feeds from may_trail (part path tail span ∷ es) =
    location feeds path tail span ∷ located_from z feeds from may_trail es
located_from z feeds from may_trail (statement path tail span end ∷ es) =
    let before = gap_notes z from may_trail (statement path tail span end ∷ es) in
    let behind = gap_notes z end true es in
    commented before behind (location feeds path tail span) ∷ located_from z feeds end true es
located_from z feeds from may_trail (closing braces ∷ es) = located_from z feeds braces.end false es
located_from z feeds from may_trail (empty span ∷ es) = located_from z feeds span.end true es

-- The locations of all that is met in a source with these line feeds, in its order.
abbrev pub located : Text → List ℕ → List Event → List LocationContent
located z feeds es = located_from z feeds 0 false es
