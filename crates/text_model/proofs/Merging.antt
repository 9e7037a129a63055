-- A text spells one tree at most, and fields are merged one behind the other.
use Rattle.std.proofs.Common.{◌≡◌, List, [], ◌∷◌, Option, None, Some, refl, sym, ap, ◌∙◌, subst, option_and_then}
use Rattle.protox_lex.specs.Class.{Text}
use Rattle.text_lex.specs.Token.{Token, Lexeme, token_at, fault}
use Rattle.text_lex.proofs.OneReading.{one_list}
use Rattle.protobuf_model.specs.Values.{Message, nothing}
use Rattle.protobuf_model.specs.Types.{Name}
use Rattle.text_model.specs.Tree.{Fields, no_fields, more_fields, append}
use Rattle.text_model.specs.Tokens.{fields_tokens}
use Rattle.text_model.specs.Schemas.{Schema, Shape, shape_of}
use Rattle.text_model.specs.Value.{value, body_value, field_value, named_value}
use Rattle.text_model.specs.Texts.{AreTokens, Spells, IsMerged}
use Rattle.text_model.proofs.Reading.{one_tree}

same_tokens : (ls : List Lexeme) (ts us : List Token) → AreTokens ls ts → AreTokens ls us → ts ≡ us
same_tokens [] ts us h k = h ∙ sym k
same_tokens (token_at a b t ∷ ls) [] us h k = absurd h
same_tokens (token_at a b t ∷ ls) (v ∷ ts) [] h k = absurd k
same_tokens (token_at a b t ∷ ls) (v ∷ ts) (u ∷ us) h k = ap (λ x. x ∷ ts) (sym h.0 ∙ k.0) ∙ ap (λ xs. u ∷ xs) (same_tokens ls ts us h.1 k.1)
same_tokens (fault e ∷ ls) ts us h k = absurd h

pub one_text : (z : Text) (a b : Fields) → Spells z a → Spells z b → a ≡ b
one_text z a b h k =
    one_tree a b (same_tokens h.lexemes (fields_tokens a) (fields_tokens b) h.tokens (subst (λ ls. AreTokens ls (fields_tokens b)) (one_list 0 z k.lexemes h.lexemes k.cut h.cut) k.tokens))

abbrev given : Option Message → Message
given (Some m) = m
given None = nothing

pub same_message : (m n : Message) → ◌≡◌ {A = Option Message} (Some m) (Some n) → m ≡ n
same_message m n e = ap given e

pub one_message : (w : Schema) (t : Name) (start : Message) (z : Text) (m n : Message) → IsMerged w t start z m → IsMerged w t start z n → m ≡ n
one_message w t start z m n h k =
    same_message m n (sym h.2 ∙ ap (λ fs. value w (shape_of w t) fs start) (one_text z h.0 k.0 h.1.spelled k.1.spelled) ∙ k.2)

then_others : (o : Option Message) (f g h : Message → Option Message) → ((m : Message) → f m ≡ option_and_then h (g m)) → option_and_then f o ≡ option_and_then h (option_and_then g o)
then_others (Some m) f g h e = e m
then_others None f g h e = refl

pub in_pieces : (w : Schema) (s : Shape) (a b : Fields) (m : Message) → value w s (append a b) m ≡ option_and_then (value w s b) (value w s a m)
in_pieces w s no_fields b m = refl
in_pieces w s (more_fields name g sep fs) b m =
    then_others (named_value w s name m (field_value w s g m) (λ t. body_value w t g)) (value w s (append fs b)) (value w s fs) (value w s b) (λ n. in_pieces w s fs b n)
