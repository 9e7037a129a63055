-- Languages that begin with a token that is seen: the words that do not come before them do not come among tokens alone.
use Rattle.std.proofs.Common.{[], ◌≡◌, true, List, ◌∷◌, Option, Some, None, refl, sym, subst, ◌∙◌}
use Rattle.std.specs.Prelude.{is_some}
use Rattle.protox_laws.specs.Unplaced.{nowhere}
use Rattle.protox_lex.specs.Class.{Text}
use Rattle.protox_lex.specs.TextFormat.{format_fault}
use Rattle.protox_lex.specs.Token.{Token, ident, token_at, fault_at}
use Rattle.protox_lex.specs.declared.error.LexErrorKind.{LexErrorKind}
use Rattle.protox_lex.specs.declared.span.Span.{Span}
use Rattle.protox_tokens.proofs.Steps.{seen_is}
use Rattle.protox_tokens.specs.Marks.{Mark, FitsMark, spot}
use Rattle.protox_tokens.specs.Parser.{is, value_of, sees}
use Rattle.protox_tokens.specs.Stream.{piece, last, Stream, Seen, source, look, peek, unless_misplaced}
use Rattle.source_grammar.proofs.Stripped.{stripped, Strips}
use Rattle.source_grammar.specs.Languages as languages
use Rattle.source_grammar.specs.Languages.{Language, nothing, never, one, ◌▸◌, FirstIsNoneOf, unless, starts}

-- The first token is one that sources have, with no comment before it.
abbrev pub IsSeen : Stream → Type 0
IsSeen ts = is_some (peek source ts) ≡ true

pub record Shows (L : Language) : Type 0 where
  pub seen : (ts r : Stream) → L ts r → IsSeen ts

pub shows_one : (m : Mark) → Shows (one m)
shows_one m = record { seen = first } where
  first : (ts r : Stream) → one m ts r → IsSeen ts
  first [] r h = absurd h
  first (p ∷ ts) r h = by (look source p) h.0 where
    by : (x : Seen) → FitsMark m x → is_some x ≡ true
    by None f = absurd f
    by (Some x) f = refl

pub shows_token : (k : Token) {P : Span → Type 0} → Shows (languages.token_at k P)
shows_token k = record { seen = λ ts r h. (shows_one (spot h.0 k)).seen ts r h.1 }

pub shows_never : Shows never
shows_never = record { seen = λ ts r h. absurd h }

pub shows_then : {L M : Language} → Shows L → Shows (L ▸ M)
shows_then first = record { seen = λ ts r h. first.seen ts h.0 h.1 }

-- behind what takes no token
pub shows_behind : {M : Language} → Shows M → Shows (nothing ▸ M)
shows_behind later = record { seen = λ ts r h. subst IsSeen (sym h.1) (later.seen h.0 r h.2) }

pub shows_unless : (ks : List Text) {L : Language} → Shows L → Shows (unless ks L)
shows_unless ks part = record { seen = λ ts r h. part.seen ts r h.1 }

pub shows_starts : (at : Span) {L : Language} → Shows L → Shows (starts at L)
shows_starts at part = record { seen = λ ts r h. part.seen ts r h.1 }

-- ---- words that do not come

same_sees : (k : Token) (ts : Stream) → IsSeen ts → sees k (stripped ts) ≡ sees k ts
same_sees k [] g = absurd cc
same_sees k (last s ∷ ts) g = absurd cc
same_sees k (piece h (fault_at f a b) ∷ ts) g = absurd cc
same_sees k (piece (Some c) (token_at a b t) ∷ ts) g = absurd cc
same_sees k (piece None (token_at a b t) ∷ ts) g = by (format_fault t) where
  by : (o : Option LexErrorKind) → is_some (value_of (is k) (unless_misplaced o t nowhere)) ≡ is_some (value_of (is k) (unless_misplaced o t (record { start = a; end = b })))
  by None = seen_is k t nowhere ∙ sym (seen_is k t (record { start = a; end = b }))
  by (Some e) = refl

none_come : (ks : List Text) (ts : Stream) → IsSeen ts → FirstIsNoneOf ks ts → FirstIsNoneOf ks (stripped ts)
none_come [] ts g h = tt
none_come (k ∷ ks) ts g h = (same_sees (ident k) ts g ∙ h.0, none_come ks ts g h.1)

pub strips_unless : (ks : List Text) {L M : Language} → Shows L → Strips L M → Strips (unless ks L) (unless ks M)
strips_unless ks first part = record { keeps = λ ts r h. (none_come ks ts (first.seen ts r h.1) h.0, part.keeps ts r h.1) }
