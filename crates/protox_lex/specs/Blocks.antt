-- What a `Comments` holds.
use Rattle.std.specs.Prelude.{Bool, false, List, [], ◌∷◌, ◌++◌, map}
use Rattle.std.specs.String.{string_bytes}
use Rattle.protox_lex.specs.Class.{Text}
use Rattle.protox_lex.specs.declared.comments.Comments.{Comments}

-- The blocks, whether another line comment lengthens the last one, and whether a blank line follows
-- it.
pub record Blocks : Type 0 where
  pub texts : List Text
  pub is_open : Bool
  pub is_parted : Bool

abbrev pub blocks : Comments → Blocks
blocks c = record {
  texts = map string_bytes c.blocks.items;
  is_open = c.is_open;
  is_parted =
      c.is_detached;
}

-- a text behind the last of some texts
abbrev pub lengthened : List Text → Text → List Text
lengthened [] t = t ∷ []
lengthened (x ∷ []) t = (x ++ t) ∷ []
lengthened (x ∷ y ∷ xs) t = x ∷ lengthened (y ∷ xs) t

abbrev pub with_block : Blocks → Text → Blocks
with_block b t = record { texts = b.texts ++ t ∷ []; is_open = false; is_parted = false }
