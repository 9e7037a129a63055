-- A source that is refused has the same faults each time, and these read the same.
use Rattle.std.proofs.Common.{◌≡◌, ◌∙◌, ◌++◌, ℕ, List, [], ◌∷◌, Some, String, Global, codes, inl, inr, option_and_then, slice_get, string_bytes, refl, ap, subst, sym}
use Rattle.std.specs.List.{AllZip}
use Rattle.protox_check.specs.Faults as checks
use Rattle.protox_file.proofs.Texts.{not_both, same_fault, same_tree}
use Rattle.protox_laws.specs.SameFaults.{IsSameFault, ReadSame, TellSame}
use Rattle.protox_lex.specs.Class.{Text}
use Rattle.protox_lex.specs.Printed.{token_text}
use Rattle.protox_lex.specs.Token.{Token}
use Rattle.protox_lex.specs.declared.span.Span.{Span}
use Rattle.protox_parse.specs.Answers.{AreAtFault}
use Rattle.protox_parse.specs.Refusals.{IsRefusalOf, place_in, place_text, said_first, told, told_at}
use Rattle.protox_parse.specs.declared.error.ParseError.TheVariants.{Refused}
use Rattle.protox_parse.specs.declared.error.Refusal.{Refusal}
use Rattle.protox_tokens.specs.Refusal.{Expected, Fault, a_field_name, a_field_value, a_file_item, a_message_value, a_number, a_service_item, a_string, a_type_name, an_ident, an_int, an_option_value, eof, expected_view, lexical, this, too_deep, unexpected, unknown_syntax}
use Rattle.protox_tokens.specs.Told.{IsToldAs}
use Rattle.protox_tree.specs.FaultTexts.{expected_text, help_of, label_of, said}
use Rattle.protox_tree.specs.Spans.{span_of}
use Rattle.protox_tree.specs.declared.error.ExpectedToken.{ExpectedToken}
use Rattle.protox_tree.specs.declared.error.ExpectedToken.TheVariants as expects
use Rattle.protox_tree.specs.declared.error.ParseErrorKind.{ParseErrorKind}
use Rattle.protox_tree.specs.declared.error.ParseErrorKind.TheVariants as kinds

-- ---- faults that are equal are the same

itself : (a : ParseErrorKind) → IsSameFault a a
itself (kinds.UnexpectedToken x found at) = (refl, refl, refl)
itself (kinds.UnexpectedEof x) = refl
itself a = refl

equal_same : (a b : ParseErrorKind) → a ≡ b → IsSameFault a b
equal_same a b e = subst (IsSameFault a) e (itself a)

all_itself : (faults : List ParseErrorKind) → AllZip IsSameFault faults faults
all_itself [] = tt
all_itself (a ∷ faults) = (itself a, all_itself faults)

-- ---- a fault is told as one

record IsUnexpected (expected : Expected) (found : Token) (span : Span) (a : ParseErrorKind) : Type 0 where
  what : ExpectedToken
  text : String Global
  is : a ≡ kinds.UnexpectedToken what text span
  wanted : expected_view what ≡ expected
  printed : string_bytes text ≡ token_text found

is_unexpected : (expected : Expected) (found : Token) (span : Span) (a : ParseErrorKind) → IsToldAs (unexpected expected found span) a → IsUnexpected expected found span a
is_unexpected expected found span (kinds.UnexpectedToken x text at) h = record {
  what = x;
  text = text;
  is = ap (kinds.UnexpectedToken x text) h.2;
  wanted = h.0;
  printed = h.1;
}
is_unexpected expected found span a h = absurd h

record IsEof (expected : Expected) (a : ParseErrorKind) : Type 0 where
  what : ExpectedToken
  is : a ≡ kinds.UnexpectedEof what
  wanted : expected_view what ≡ expected

is_eof : (expected : Expected) (a : ParseErrorKind) → IsToldAs (eof expected) a → IsEof expected a
is_eof expected (kinds.UnexpectedEof x) h = record { what = x; is = refl; wanted = h }
is_eof expected a h = absurd h

told_once : (f : Fault) (a b : ParseErrorKind) → IsToldAs f a → IsToldAs f b → IsSameFault a b
told_once (unexpected expected found span) a b h k =
    let x = is_unexpected expected found span a h in
    let y = is_unexpected expected found span b k in
    subst (λ c. IsSameFault c b) (sym x.is)
    (subst (IsSameFault (kinds.UnexpectedToken x.what x.text span)) (sym y.is)
    (x.wanted ∙ sym y.wanted, x.printed ∙ sym y.printed, refl))
told_once (eof expected) a b h k =
    let x = is_eof expected a h in
    let y = is_eof expected b k in
    subst (λ c. IsSameFault c b) (sym x.is) (subst (IsSameFault (kinds.UnexpectedEof x.what)) (sym y.is) (x.wanted ∙ sym y.wanted))
told_once (lexical e) a b h k = equal_same a b (h ∙ sym k)
told_once (unknown_syntax span) a b h k = equal_same a b (h ∙ sym k)
told_once (too_deep span) a b h k = equal_same a b (h ∙ sym k)

-- ---- a text has one list of faults

pub same_faults : (z : Text) (xs ys : List ParseErrorKind) → AreAtFault z xs → AreAtFault z ys → AllZip IsSameFault xs ys
same_faults z xs ys (inl h) (inl k) =
    let told = subst (λ f. IsToldAs f h.2.0) (same_fault z h.0 k.0 h.1 k.1) h.2.2 in
    subst (λ l. AllZip IsSameFault l ys) (sym h.2.1) (subst (AllZip IsSameFault (h.2.0 ∷ [])) (sym k.2.1) (told_once k.0 h.2.0 k.2.0 told k.2.2, tt))
same_faults z xs ys (inl h) (inr k) = absurd (not_both z k.0 h.0 k.1 h.1)
same_faults z xs ys (inr h) (inl k) = absurd (not_both z h.0 k.0 h.1 k.1)
same_faults z xs ys (inr h) (inr k) =
    subst (AllZip IsSameFault xs) (h.2.0 ∙ ap checks.faults_of (same_tree z h.0 k.0 h.1 k.1) ∙ sym k.2.0) (all_itself xs)

-- ---- the same faults read the same

words : Expected → List ℕ
words (this token) = codes "'" ++ (token_text token ++ codes "'")
words an_ident = expected_text expects.Ident
words an_int = expected_text expects.Int
words a_string = expected_text expects.String
words a_type_name = expected_text expects.TypeName
words an_option_value = expected_text expects.OptionValue
words a_file_item = expected_text expects.FileItem
words a_service_item = expected_text expects.ServiceItem
words a_number = expected_text expects.Number
words a_field_name = expected_text expects.FieldName
words a_field_value = expected_text expects.FieldValue
words a_message_value = expected_text expects.MessageValue

words_are : (x : ExpectedToken) → expected_text x ≡ words (expected_view x)
unfolding words
words_are (expects.Token t) = refl
words_are x = refl

same_words : (x y : ExpectedToken) → expected_view x ≡ expected_view y → expected_text x ≡ expected_text y
same_words x y e = words_are x ∙ ap words e ∙ sym (words_are y)

equal_read : (a b : ParseErrorKind) → a ≡ b → ReadSame a b
equal_read a b e = record { texts = ap said e; spans = ap span_of e; labels = ap label_of e; helps = ap help_of e }

pub read_same : (a b : ParseErrorKind) → IsSameFault a b → ReadSame a b
read_same (kinds.UnexpectedToken x found at) (kinds.UnexpectedToken y other place) h =
    let expected = same_words x y h.0 in
    record {
      texts = λ i. codes "expected " ++ (expected i ++ (codes ", but found '" ++ (h.1 i ++ codes "'")));
      spans = ap Some h.2;
      labels = refl;
      helps = refl;
    }
read_same (kinds.UnexpectedEof x) (kinds.UnexpectedEof y) h =
    let expected = same_words x y h in
    record {
      texts = λ i. codes "expected " ++ (expected i ++ codes ", but reached end of file");
      spans = refl;
      labels = refl;
      helps = refl;
    }
read_same a b h = equal_read a b h

-- ---- refusals

same_spans : (xs ys : List ParseErrorKind) → AllZip IsSameFault xs ys → option_and_then span_of (slice_get xs 0) ≡ option_and_then span_of (slice_get ys 0)
same_spans [] [] h = refl
same_spans [] (y ∷ ys) h = absurd h
same_spans (x ∷ xs) [] h = absurd h
same_spans (x ∷ xs) (y ∷ ys) h = (read_same x y h.0).spans

same_texts : (xs ys : List ParseErrorKind) → AllZip IsSameFault xs ys → said_first (slice_get xs 0) ≡ said_first (slice_get ys 0)
same_texts [] [] h = refl
same_texts [] (y ∷ ys) h = absurd h
same_texts (x ∷ xs) [] h = absurd h
same_texts (x ∷ xs) (y ∷ ys) h = (read_same x y h.0).texts

pub tell_same : (name z : Text) (r s : Refusal) → AreAtFault z r.faults.items → IsRefusalOf name z (Refused r) → AreAtFault z s.faults.items → IsRefusalOf name z (Refused s)
    → TellSame r s
tell_same name z r s h p k q =
    let faults = same_faults z r.faults.items s.faults.items h k in
    record {
      files = p.0 ∙ sym q.0;
      positions = p.1 ∙ ap (option_and_then (place_in z)) (same_spans r.faults.items s.faults.items faults) ∙ sym q.1;
      faults = faults;
    }

pub printed_same : (r s : Refusal) → TellSame r s → (told (Refused r) ≡ told (Refused s)) × (told_at (Refused r) ≡ told_at (Refused s))
printed_same r s h =
    let texts = same_texts r.faults.items s.faults.items h.faults in
    (texts, λ i. (h.files i ++ codes ":") ++ (place_text (h.positions i) ++ (codes " " ++ texts i)))
