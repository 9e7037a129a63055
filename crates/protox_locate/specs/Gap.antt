-- The comments of a gap between two tokens, and what they belong to.
--
-- Source: the comment of `Location` in `SourceCodeInfo` of protobuf's `descriptor.proto`.
use Rattle.std.specs.Prelude.{ℕ, zero, suc, ◌+◌, ◌-◌, Bool, true, false, ◌&&◌, ◌||◌, if◌then◌else◌, ◌==◌, List, [], ◌∷◌, ◌++◌, length, take, drop, slice_index, slice_get, Option, None}
use Rattle.std.specs.List.{flat_map, fold, position_or_len, prefix_len, slice_split}
use Rattle.std.specs.Str.Lossy.{utf8_lossy}
use Rattle.descriptor_records.specs.Content.{text_view, texts_view}
use Rattle.protox_lex.specs.Blocks.{Blocks, blocks, lengthened, with_block}
use Rattle.protox_lex.specs.Class.{Text}
use Rattle.protox_locate.specs.declared.gap.Behind.{Behind}
use Rattle.protox_locate.specs.declared.gap.Behind.TheVariants as behinds
use Rattle.protox_locate.specs.declared.gap.GapComments.{GapComments}
use Rattle.protox_locate.specs.declared.gap.LineEnds.{LineEnds}
use Rattle.protox_locate.specs.declared.gap.LineEnds.TheVariants as line_ends
use Rattle.protox_locate.specs.declared.gap.Mark.{Mark}
use Rattle.protox_locate.specs.declared.gap.Mark.TheVariants as marks
use Rattle.protox_locate.specs.declared.gap.Reader.{Reader}

-- ---- what stands in a gap

abbrev pub is_feed : ℕ → Bool
is_feed b = b == 10

abbrev pub begins_with : ℕ → ℕ → Text → Bool
begins_with a b z = slice_index z 0 == a && slice_index z 1 == b

-- `//`, `/*`, a line feed or another byte
abbrev pub mark_of : Text → Mark
mark_of z =
    if begins_with 47 47 z then marks.Line
    else if begins_with 47 42 z then marks.Block
    else if slice_index z 0 == 10 then marks.Feed
    else marks.Other

-- the bytes before the first `*/`, or all
abbrev pub before_close : Text → ℕ
before_close [] = 0
before_close (b ∷ z) = if begins_with 42 47 (b ∷ z) then 0 else suc (before_close z)

-- Comments, without their marks, and line ends. A line comment ends behind its line end.
pub data Piece : Type 0 where
  line_comment : Text → Piece
  block_comment : Text → Piece
  line_end : Piece
  other_byte : Piece

-- the piece that this begins
abbrev pub piece_of : Mark → Text → Piece
piece_of marks.Line z = line_comment (take (position_or_len is_feed (drop 2 z) + 1) (drop 2 z))
piece_of marks.Block z = block_comment (take (before_close (drop 2 z)) (drop 2 z))
piece_of marks.Feed z = line_end
piece_of marks.Other z = other_byte

-- how many bytes it takes, where so many are left
abbrev pub size_of : Mark → Text → ℕ
size_of marks.Line z = 2 + (position_or_len is_feed (drop 2 z) + 1)
size_of marks.Block z = 2 + (before_close (drop 2 z) + 2)
size_of marks.Feed z = 1
size_of marks.Other z = 1

-- the pieces of these bytes, of which the first ones belong to the piece before
unfoldable pub pieces_behind : ℕ → Text → List Piece
pieces_behind left [] = []
pieces_behind (suc left) (b ∷ z) = pieces_behind left z
pieces_behind zero (b ∷ z) = piece_of (mark_of (b ∷ z)) (b ∷ z)
    ∷ pieces_behind (size_of (mark_of (b ∷ z)) (b ∷ z) - 1) z

abbrev pub pieces : Text → List Piece
pieces z = pieces_behind 0 z

-- ---- what a block comment tells

-- space, tab, vertical tab, form feed or carriage return
abbrev pub is_blank : ℕ → Bool
is_blank b = b == 32 || (b == 9 || (b == 11 || (b == 12 || b == 13)))

abbrev pub without_star : Text → Text
without_star [] = []
without_star (b ∷ z) = if b == 42 then z else b ∷ z

-- a line without the white space and the one `*` in front
abbrev pub without_margin : Text → Text
without_margin line = without_star (drop (prefix_len is_blank line) line)

-- each line but the first loses its margin
abbrev pub without_margins_of : List Text → Text
without_margins_of [] = []
without_margins_of (line ∷ lines) = line ++ flat_map (λ l. 10 ∷ without_margin l) lines

abbrev pub without_margins : Text → Text
without_margins z = without_margins_of (slice_split is_feed z)

-- ---- blocks

-- What was read of a gap: its blocks, the line ends since the last comment or the start (that of a
-- line comment counts), the line ends before the first block, and whether a blank line follows this
-- one.
pub record Read : Type 0 where
  pub notes : Blocks
  pub since : LineEnds
  pub before_first : LineEnds
  pub is_first_parted : Bool

abbrev pub unread : Read
unread = record {
  notes = record { texts = []; is_open = false; is_parted = false };
  since = line_ends.None;
  before_first = line_ends.None;
  is_first_parted = false;
}

abbrev pub is_empty : List Text → Bool
is_empty [] = true
is_empty (t ∷ ts) = false

-- the line ends before the first block, once a comment was met
abbrev pub met : Read → LineEnds
met r = if is_empty r.notes.texts then r.since else r.before_first

-- A line comment joins the line comment in front of it where no blank line lies between, else it is
-- a block by itself.
abbrev pub with_line : Blocks → Text → Blocks
with_line b t = record {
  texts = if b.is_open then lengthened b.texts t else b.texts ++ t ∷ [];
  is_open = true;
  is_parted = false;
}

-- a blank line ends the last block and parts it from what follows
abbrev pub parted : Blocks → Blocks
parted b = record { texts = b.texts; is_open = false; is_parted = true }

-- The second line end since a comment ends a blank line.
abbrev pub fed : LineEnds → Read → Read
fed line_ends.None r = record r { since = line_ends.One }
fed line_ends.One r = record {
  notes = parted r.notes;
  since = line_ends.More;
  before_first = r.before_first;
  is_first_parted = r.is_first_parted || length r.notes.texts == 1;
}
fed line_ends.More r = r

-- a line comment of this text is met
abbrev pub with_line_comment : Read → Text → Read
with_line_comment r t = record {
  notes = with_line r.notes t;
  since = line_ends.One;
  before_first = met r;
  is_first_parted = r.is_first_parted;
}

abbrev pub read : Read → Piece → Read
read r (line_comment t) = with_line_comment r (utf8_lossy t)
read r (block_comment t) = record {
  notes = with_block r.notes (utf8_lossy (without_margins t));
  since = line_ends.None;
  before_first = met r;
  is_first_parted = r.is_first_parted;
}
read r line_end = fed r.since r
read r other_byte = r

abbrev pub read_all : Read → List Piece → Read
read_all r ps = fold read r ps

-- ---- what the blocks belong to

-- The comment of the statement in front, those that stand apart, and the comment of the statement
-- behind.
pub record Notes : Type 0 where
  pub trailing : Option Text
  pub detached : List Text
  pub leading : Option Text

abbrev pub is_brace : Behind → Bool
is_brace behinds.Statement = false
is_brace behinds.Brace = true
is_brace behinds.End = false

-- The first block belongs to the statement in front where it begins on that one's last line, or on
-- the next line with a blank line or the closing brace behind it.
abbrev pub trails_after : LineEnds → Bool → Bool
trails_after line_ends.None parted = true
trails_after line_ends.One parted = parted
trails_after line_ends.More parted = false

abbrev pub trails : Behind → Read → Bool
trails behind r = trails_after r.before_first
    (r.is_first_parted || (length r.notes.texts == 1 && is_brace behind))

-- The last block belongs to the statement behind, unless a blank line parts them.
abbrev pub leading_of : Bool → List Text → Option Text
leading_of true ts = None
leading_of false ts = slice_get ts (length ts - 1)

abbrev pub detached_of : Bool → List Text → List Text
detached_of true ts = ts
detached_of false ts = take (length ts - 1) ts

abbrev pub notes_behind : Option Text → Bool → List Text → Notes
notes_behind first is_parted ts =
    record {
      trailing = first;
      detached = detached_of is_parted ts;
      leading =
          leading_of is_parted ts;
    }

abbrev pub notes_of : Bool → Blocks → Notes
notes_of false b = notes_behind None b.is_parted b.texts
notes_of true b = notes_behind (slice_get b.texts 0) b.is_parted (drop 1 b.texts)

-- The comments of the gap that these bytes are. The first block can belong to what stands in front
-- where this is the semicolon or the opening brace of a statement.
abbrev pub comments_in : Text → Bool → Behind → Notes
comments_in z may_trail behind =
    let r = read_all unread (pieces z) in
    notes_of (may_trail && trails behind r) r.notes

-- ---- what the code shows

abbrev pub read_view : Reader → Read
read_view r = record {
  notes = blocks r.comments;
  since = r.line_ends;
  before_first = r.first_line;
  is_first_parted = r.is_first_parted;
}

abbrev pub notes_view : GapComments → Notes
notes_view g = record {
  trailing = text_view g.trailing;
  detached = texts_view g.detached;
  leading =
      text_view g.leading;
}
