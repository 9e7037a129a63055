-- The language that the literal behind `syntax` names, as a step of its rule.
use Rattle.protox_file.specs.FileGrammar.{language, known}
use Rattle.protox_file.specs.Languages.{IsLanguage}
use Rattle.protox_tokens.specs.Parser.{Parser}
use Rattle.protox_tokens.specs.Reads.{Fails}
use Rattle.protox_tokens.specs.Stream.{Stream}
use Rattle.protox_tokens.specs.declared.fault.Stop.{Stop}
use Rattle.protox_tokens.specs.declared.fault.Stop.TheVariants.{Memory, Refused}
use Rattle.protox_tree.specs.Tree.{Word, joined, words_span}
use Rattle.protox_tree.specs.declared.types.Syntax.{Syntax}
use Rattle.std.proofs.Common.{◌≡◌, ◌∙◌, List, Ok, Err, ap, sym}

-- the rule that has the language of this literal
abbrev pub named : List Word → Parser Syntax
named value = known (words_span value) (language (joined value))

pub known_is : (value : List Word) (x : Syntax) (ts : Stream) → IsLanguage value (Ok x) → named value ts ≡ Ok (x, ts)
known_is value x ts h = ap (λ o. known (words_span value) o ts) h

pub unknown_is : (value : List Word) (e : Stop) (ts : Stream) → IsLanguage value (Err e) → Fails e (named value ts)
unknown_is value Memory ts h = tt
unknown_is value (Refused f) ts h = ap (λ o. known (words_span value) o ts) h.0 ∙ ap (λ x. Err x) (sym h.1)
