-- The locations that are collected of a source, one by one.
use Rattle.std.specs.Prelude.{ℕ, zero, suc, ◌-◌, Bool, true, false, List, [], ◌∷◌, ◌++◌, length, map, Option}
use Rattle.std.specs.List.{fold}
use Rattle.descriptor_records.specs.Content.{LocationContent, location_view}
use Rattle.protox_lex.specs.Class.{Text}
use Rattle.protox_lex.specs.Resolver.{feeds}
use Rattle.protox_locate.specs.Gap.{Notes, comments_in}
use Rattle.protox_locate.specs.Located.{Event, between, closing, empty, location, part, statement}
use Rattle.protox_locate.specs.declared.gap.Behind.{Behind}
use Rattle.protox_locate.specs.declared.gap.Behind.TheVariants as behinds
use Rattle.protox_locate.specs.declared.locator.Front.{Front}
use Rattle.protox_locate.specs.declared.locator.Front.TheVariants as fronts
use Rattle.protox_locate.specs.declared.locator.Locator.{Locator}

-- The locations so far; where the gap begins that comes next, and what stands in front of it.
pub record State : Type 0 where
  pub source : Text
  pub line_feeds : List ℕ
  pub locations : List LocationContent
  pub gap_start : ℕ
  pub front : Front

abbrev pub start : Text → List ℕ → State
start source line_feeds = record {
  source = source;
  line_feeds = line_feeds;
  locations = [];
  gap_start = 0;
  front =
      fronts.Nothing;
}

-- ---- comments

-- Behind an opening brace and behind a semicolon, also one of an empty statement, comments can
-- trail.
abbrev pub may_trail : Front → Bool
may_trail fronts.Nothing = false
may_trail fronts.Empty = true
may_trail (fronts.Statement k) = true

-- the comments of the gap that ends here
abbrev pub notes_before : State → ℕ → Behind → Notes
notes_before s end behind = comments_in (between s.source s.gap_start end)
    (may_trail s.front) behind

-- the locations, where the one at this place has this trailing comment
abbrev pub trailed_at : ℕ → Option Text → List LocationContent → List LocationContent
trailed_at k t [] = []
trailed_at zero t (l ∷ ls) = record l { trailing_comments = t } ∷ ls
trailed_at (suc k) t (l ∷ ls) = l ∷ trailed_at k t ls

-- The trailing comment is that of the statement in front. An empty statement has no location, and
-- its comments are dropped.
abbrev pub trailed : Front → Option Text → List LocationContent → List LocationContent
trailed fronts.Nothing t ls = ls
trailed fronts.Empty t ls = ls
trailed (fronts.Statement k) t ls = trailed_at k t ls

-- the gap that ends here is read
abbrev pub behind_gap : State → ℕ → Behind → State
behind_gap s end behind = record s {
  locations = trailed s.front (notes_before s end behind).trailing s.locations;
  front = fronts.Nothing;
}

-- ---- what each event adds

-- a location with the comments before a statement
abbrev pub led_by : Notes → LocationContent → LocationContent
led_by n l = record l { leading_comments = n.leading; leading_detached_comments = n.detached }

-- one more location, of the statement in front of the gap that begins here
abbrev pub with_statement : State → LocationContent → ℕ → State
with_statement s l end = record s {
  locations = s.locations ++ l ∷ [];
  gap_start = end;
  front = fronts.Statement (length s.locations);
}

abbrev pub meet : State → Event → State
-- A part has no comments.
meet s (part path tail span) =
    record s { locations = s.locations ++ location s.line_feeds path tail span ∷ [] }
-- The comments of the gap before a statement are its own or those of what stands in front.
meet s (statement path tail span end) =
    with_statement (behind_gap s span.start behinds.Statement)
    (led_by (notes_before s span.start behinds.Statement)
    (location s.line_feeds path tail span)) end
-- Before a closing brace comments belong to what stands in front, or to nothing.
meet s (closing braces) = record (behind_gap s (braces.end - 1) behinds.Brace)
    { gap_start = braces.end }
meet s (empty span) = record (behind_gap s span.start behinds.Statement)
    { gap_start = span.end; front = fronts.Empty }

abbrev pub meets : State → List Event → State
meets s es = fold meet s es

-- ---- what the code shows

abbrev pub state : Locator → State
state l = record {
  source = l.source.now;
  line_feeds = feeds l.lines.now;
  locations = map location_view l.locations.items;
  gap_start = l.gap_start;
  front = l.front;
}
