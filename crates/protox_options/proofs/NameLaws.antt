-- The rules of names, numbers and strings look one token ahead, and each turn of their loops takes one.
use Rattle.protox_lex.specs.Token.{sign}
use Rattle.protox_options.specs.NameGrammar.{parts_after, full_ident, type_name, an_int, strings}
use Rattle.protox_tokens.proofs.Local.{Local, Local-bind, Local-pure, Local-when, Local-word, Local-literal, Local-digits, Local-eat, Local-behind, Local-loop, of_head-string, Keeps-local, Moves, Moves-first, Moves-later, Moves-word, Moves-digits, Moves-literal, Shortens-behind, Shortens-when}
use Rattle.protox_tokens.proofs.Loops.{Shortens}
use Rattle.protox_tokens.specs.Parser.{behind, when, word, literal, is_string}
use Rattle.protox_tree.specs.Tree.{Word}
use Rattle.protox_lex.specs.declared.token.Sign.TheVariants as s

pub parts_turns : Shortens (behind (sign s.Dot) word)
parts_turns = Shortens-behind (sign s.Dot) (Keeps-local Local-word)

pub Local-parts : (w : Word) → Local (parts_after w)
unfolding parts_after
Local-parts w =
    Local-bind (Local-loop _ (Local-behind (sign s.Dot) Local-word) parts_turns) (λ ws. Local-pure _)

pub Local-full : Local full_ident
unfolding full_ident
Local-full = Local-bind Local-word Local-parts

pub Moves-full : Moves full_ident
unfolding full_ident
Moves-full = Moves-first Moves-word (λ w. Keeps-local (Local-parts w))

pub Local-type_name : Local type_name
unfolding type_name
Local-type_name = Local-bind (Local-eat _) (λ dot. Local-bind Local-full (λ ws. Local-pure _))

pub Moves-type_name : Moves type_name
unfolding type_name
Moves-type_name = Moves-later (Keeps-local (Local-eat _)) (λ dot. Moves-first Moves-full (λ ws. Keeps-local (Local-pure _)))

pub Local-int : Local an_int
unfolding an_int
Local-int = Local-bind (Local-eat _) (λ minus. Local-bind Local-digits (λ n. Local-pure _))

pub Moves-int : Moves an_int
unfolding an_int
Moves-int = Moves-later (Keeps-local (Local-eat _)) (λ minus. Moves-first Moves-digits (λ n. Keeps-local (Local-pure _)))

pub strings_turns : Shortens (when is_string literal)
strings_turns = Shortens-when is_string Moves-literal

pub Local-strings : Local strings
unfolding strings
Local-strings = Local-bind Local-literal (λ w.
    Local-bind (Local-loop _ (Local-when is_string of_head-string Local-literal) strings_turns) (λ ws. Local-pure _))

pub Moves-strings : Moves strings
unfolding strings
Moves-strings = Moves-first Moves-literal (λ w. Keeps-local
    (Local-bind (Local-loop _ (Local-when is_string of_head-string Local-literal) strings_turns) (λ ws. Local-pure _)))
