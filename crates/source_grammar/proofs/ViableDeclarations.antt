-- Enums and services tell their faults at the first token with which nothing goes on.
use Rattle.std.proofs.Common.{◌≡◌, false, ◌∷◌, refl}
use Rattle.std.specs.Prelude.{codes}
use Rattle.protox_declarations.specs.EnumGrammar.{an_enum_value, enum_item_unless, enum_item, enum_items, enumeration}
use Rattle.protox_declarations.specs.ServiceGrammar.{method_type, method_item_unless, method_item, method_items, method_end, method_body, a_method, service_item_unless, service_item, service_items, service}
use Rattle.protox_declarations.proofs.EnumLaws.{enum_turns}
use Rattle.protox_declarations.proofs.ServiceLaws.{method_turns, service_turns}
use Rattle.protox_lex.specs.Token.{ident, sign}
use Rattle.protox_lex.specs.declared.token.Sign.TheVariants as signs
use Rattle.protox_tokens.specs.Stream.{Piece, Stream, source}
use Rattle.protox_tokens.specs.Parser.{sees}
use Rattle.protox_tokens.specs.Refusal.{a_service_item}
use Rattle.protox_tokens.proofs.Local.{of_head-sees}
use Rattle.protox_tokens.proofs.Both.{Always}
use Rattle.protox_tree.specs.Tree.{enum_value, enum_option, enum_reserved, enum_empty, method_option, method_empty, service_method, service_option, service_empty}
use Rattle.source_grammar.proofs.ViableTokens.{enum_written, returns_written, rpc_written, service_written, sign_written}
use Rattle.source_grammar.proofs.Viable.{Viable, viable_then, Any, viable_end, viable_made}
use Rattle.source_grammar.proofs.ViableForms.{If, Else, viable_kinds}
use Rattle.source_grammar.proofs.ViableSteps.{Heads, made, viable_expect, viable_branch, viable_only}
use Rattle.source_grammar.proofs.ViableLoops.{Open, viable_items, viable_close}
use Rattle.source_grammar.proofs.ViableNames.{some_word, start, viable_word, any_word, viable_type_name, viable_int}
use Rattle.source_grammar.proofs.ViableRanges.{viable_reserved}
use Rattle.source_grammar.proofs.ViableOptions.{viable_option, Bare, bare_heads, bare_start, viable_options}

-- ---- enums

viable_enum_value : {W : Piece → Type 0} (H : Stream → Type 0) → Heads H → ((s : Stream) → H (made some_word ∷ s)) → Viable W H an_enum_value Any
unfolding an_enum_value
viable_enum_value H heads starts =
    viable_then (viable_word H heads start starts) (λ i name. viable_then (viable_expect (sign signs.Equals) (sign_written signs.Equals) Always (λ x t u h. h) refl (λ s. tt)) (λ j e.
    viable_then (viable_int Always (λ x t u h. h) (λ s. tt)) (λ k n. viable_then (viable_options Always (λ x t u h. h)) (λ l os.
    viable_then (viable_expect (sign signs.Semicolon) (sign_written signs.Semicolon) (Bare Always l) (bare_heads Always (λ x t u h. h) l) refl (bare_start Always (made (sign signs.Semicolon)) (λ s. tt) (λ s. refl) l)) (λ m q. viable_end _)))))

abbrev enum_open : Stream → Type 0
enum_open = Else Open (sees (sign signs.Semicolon))

viable_enum_item : {W : Piece → Type 0} → Viable W Open enum_item Any
unfolding enum_item
viable_enum_item = viable_branch _ source (sign signs.Semicolon) Open (λ x t u h. h) enum_item_unless (λ at. viable_end (enum_empty at))
    (viable_kinds (sees (ident (codes "option"))) enum_option (viable_option (If enum_open (sees (ident (codes "option")))) (λ x t u h. h) (λ s. (((tt, refl), refl), refl)))
    (viable_kinds (sees (ident (codes "reserved"))) enum_reserved
    (viable_reserved (If (Else enum_open (sees (ident (codes "option")))) (sees (ident (codes "reserved")))) (λ x t u h. h) (λ s. ((((tt, refl), refl), refl), refl)))
    (viable_made enum_value (viable_enum_value (Else (Else enum_open (sees (ident (codes "option")))) (sees (ident (codes "reserved")))) (λ x t u h. h) (λ s. ((((tt, refl), refl), refl), refl))))))

pub viable_enum : {W : Piece → Type 0} (H : Stream → Type 0) → Heads H → ((s : Stream) → H (made (ident (codes "enum")) ∷ s)) → Viable W H enumeration Any
unfolding enumeration enum_items
viable_enum H heads starts =
    viable_then (viable_expect (ident (codes "enum")) enum_written H heads refl starts) (λ i p. viable_then any_word (λ j name.
    viable_then (viable_expect (sign signs.LeftBrace) (sign_written signs.LeftBrace) Always (λ x t u h. h) refl (λ s. tt)) (λ k brace.
    viable_then (viable_items enum_turns viable_enum_item) (λ l is. viable_then viable_close (λ m q. viable_end _)))))

-- ---- services

viable_method_type : {W : Piece → Type 0} → Viable W Always method_type Any
unfolding method_type
viable_method_type = viable_then (viable_expect (sign signs.LeftParen) (sign_written signs.LeftParen) Always (λ x t u h. h) refl (λ s. tt)) (λ i p.
    viable_branch _ source (ident (codes "stream")) Always (λ x t u h. h) _
    (λ at. viable_then (viable_type_name Always (λ x t u h. h) (λ s. tt)) (λ k n. viable_then (viable_expect (sign signs.RightParen) (sign_written signs.RightParen) (λ s. sees (sign signs.Dot) s ≡ false) (λ x t u h. h) refl (λ s. refl)) (λ l q. viable_end _)))
    (viable_then (viable_type_name (Else Always (sees (ident (codes "stream")))) (λ x t u h. h) (λ s. (tt, refl))) (λ k n.
    viable_then (viable_expect (sign signs.RightParen) (sign_written signs.RightParen) (λ s. sees (sign signs.Dot) s ≡ false) (λ x t u h. h) refl (λ s. refl)) (λ l q. viable_end _))))

viable_method_item : {W : Piece → Type 0} → Viable W Open method_item Any
unfolding method_item
viable_method_item = viable_branch _ source (sign signs.Semicolon) Open (λ x t u h. h) method_item_unless (λ at. viable_end (method_empty at))
    (viable_made method_option (viable_option (Else Open (sees (sign signs.Semicolon))) (λ x t u h. h) (λ s. ((tt, refl), refl))))

viable_method_body : {W : Piece → Type 0} → Viable W Always method_body Any
unfolding method_body method_items
viable_method_body = viable_branch _ source (sign signs.LeftBrace) Always (λ x t u h. h) method_end
    (λ brace. viable_then (viable_items method_turns viable_method_item) (λ i is. viable_then viable_close (λ j q. viable_end _)))
    (viable_then (viable_expect (sign signs.Semicolon) (sign_written signs.Semicolon) (Else Always (sees (sign signs.LeftBrace))) (λ x t u h. h) refl (λ s. (tt, refl))) (λ i q. viable_end _))

viable_method : {W : Piece → Type 0} (H : Stream → Type 0) → Heads H → ((s : Stream) → H (made (ident (codes "rpc")) ∷ s)) → Viable W H a_method Any
unfolding a_method
viable_method H heads starts =
    viable_then (viable_expect (ident (codes "rpc")) rpc_written H heads refl starts) (λ i p. viable_then any_word (λ j name. viable_then viable_method_type (λ k input.
    viable_then (viable_expect (ident (codes "returns")) returns_written Always (λ x t u h. h) refl (λ s. tt)) (λ l r. viable_then viable_method_type (λ m output.
    viable_then viable_method_body (λ n b. viable_end _))))))

viable_service_item : {W : Piece → Type 0} → Viable W Open service_item Any
unfolding service_item
viable_service_item = viable_branch _ source (sign signs.Semicolon) Open (λ x t u h. h) service_item_unless (λ at. viable_end (service_empty at))
    (viable_kinds (sees (ident (codes "option"))) service_option (viable_option (If (Else Open (sees (sign signs.Semicolon))) (sees (ident (codes "option")))) (λ x t u h. h) (λ s. (((tt, refl), refl), refl)))
    (viable_only (sees (ident (codes "rpc"))) (of_head-sees (ident (codes "rpc"))) source a_service_item (Else (Else Open (sees (sign signs.Semicolon))) (sees (ident (codes "option")))) (λ x t u h. h)
    (viable_made service_method (viable_method (If (Else (Else Open (sees (sign signs.Semicolon))) (sees (ident (codes "option")))) (sees (ident (codes "rpc")))) (λ x t u h. h) (λ s. ((((tt, refl), refl), refl), refl))))))

pub viable_service : {W : Piece → Type 0} (H : Stream → Type 0) → Heads H → ((s : Stream) → H (made (ident (codes "service")) ∷ s)) → Viable W H service Any
unfolding service service_items
viable_service H heads starts =
    viable_then (viable_expect (ident (codes "service")) service_written H heads refl starts) (λ i p. viable_then any_word (λ j name.
    viable_then (viable_expect (sign signs.LeftBrace) (sign_written signs.LeftBrace) Always (λ x t u h. h) refl (λ s. tt)) (λ k brace.
    viable_then (viable_items service_turns viable_service_item) (λ l is. viable_then viable_close (λ m q. viable_end _)))))
