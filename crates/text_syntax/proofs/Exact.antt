-- What is read is exactly what tokens spell.
use Rattle.std.proofs.Common.{◌≡◌, ◌≤◌, ◌↔◌, List, Some, subst}
use Rattle.protox_lex.specs.Class.{Text}
use Rattle.text_lex.specs.Longest.{Lexes}
use Rattle.text_lex.specs.Token.{Lexeme}
use Rattle.text_lex.proofs.OneReading.{one_list}
use Rattle.text_model.specs.Texts.{AreTokens, IsText}
use Rattle.text_model.specs.Tokens.{fields_tokens, open_braces}
use Rattle.text_model.specs.Tree.{Fields}
use Rattle.text_syntax.specs.Syntax.{text_at}
use Rattle.text_syntax.proofs.Completeness.{text_complete}
use Rattle.text_syntax.proofs.Soundness.{text_sound}

pub exact : (ls : List Lexeme) (fs : Fields)
    → (text_at ls ≡ Some fs) ↔ (AreTokens ls (fields_tokens fs) × (open_braces fs ≤ 100))
exact ls fs = (text_sound ls fs, λ h. text_complete ls fs h.0 h.1)

pub exact_text : (z : Text) (ls : List Lexeme) (fs : Fields) → Lexes 0 z ls
    → (text_at ls ≡ Some fs) ↔ IsText z fs
exact_text z ls fs cut = (
  λ e.
      let h = text_sound ls fs e in
      record { spelled = record { lexemes = ls; cut = cut; tokens = h.0 }; shallow = h.1 },
  λ h.
      text_complete ls fs
      (subst (λ l. AreTokens l (fields_tokens fs)) (one_list 0 z h.spelled.lexemes ls h.spelled.cut cut) h.spelled.tokens)
      h.shallow,
)
