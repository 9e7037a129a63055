-- What texts of a source say.
use Rattle.std.specs.Prelude.{Bool, if◌then◌else◌, ◌∷◌}
use Rattle.std.specs.Str.Lossy.{utf8_lossy}
use Rattle.protox_lex.specs.Class.{Text}
use Rattle.protox_tree.specs.Tree.{joined}
use Rattle.protox_tree.specs.View.{strings_view}
use Rattle.protox_tree.specs.declared.text.Strings.{Strings}

-- literals that mean one string, as text; what is not UTF-8 in them is replaced
abbrev pub text_of : Strings → Text
text_of s = utf8_lossy (joined (strings_view s))

-- a text with a minus before it, where there is one
abbrev pub signed_text : Bool → Text → Text
signed_text negative t = if negative then 45 ∷ t else t
