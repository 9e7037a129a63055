-- Tokens alone, without places and comments: what is of a language is of another one without them.
use Rattle.std.proofs.Common.{[], ℕ, zero, suc, List, ◌∷◌, map, Option, Some, None, refl, ap, inl, inr}
use Rattle.protox_laws.specs.Unplaced.{nowhere, dot}
use Rattle.protox_lex.specs.TextFormat.{format_fault}
use Rattle.protox_lex.specs.Token.{Token, token_at, fault_at}
use Rattle.protox_lex.specs.declared.error.LexErrorKind.{LexErrorKind}
use Rattle.protox_lex.specs.declared.span.Span.{Span}
use Rattle.protox_tokens.specs.Marks.{Mark, FitsToken, FitsMark, spot}
use Rattle.protox_tokens.specs.Stream.{piece, last, Stream, source, peek, span_of, unless_misplaced}
use Rattle.source_grammar.specs.Languages as languages
use Rattle.source_grammar.specs.Languages.{Language, nothing, never, one, the, begins, ◌▸◌, if_there, each, some, some_by, ◌∪◌, times, many, given, starts}

-- The tokens of a stream, each at the one place and with no comment before it.
abbrev pub stripped : Stream → Stream
stripped [] = []
stripped (piece h (token_at a b t) ∷ ts) = piece None (token_at 0 0 t) ∷ stripped ts
stripped (piece h (fault_at k a b) ∷ ts) = stripped ts
stripped (last s ∷ ts) = stripped ts

-- What is of the first language is of the second one as tokens alone.
pub record Strips (L M : Language) : Type 0 where
  pub keeps : (ts r : Stream) → L ts r → M (stripped ts) (stripped r)

-- ---- one token

module _ (m n : Mark) (fits : (t : Token) (at : Span) → FitsToken m t at → FitsToken n t nowhere) where
  one_kept : (ts r : Stream) → one m ts r → one n (stripped ts) (stripped r)
  one_kept [] r g = absurd g
  one_kept (last s ∷ ts) r g = absurd g.0
  one_kept (piece h (fault_at k a b) ∷ ts) r g = absurd g.0
  one_kept (piece (Some c) (token_at a b t) ∷ ts) r g = absurd g.0
  one_kept (piece None (token_at a b t) ∷ ts) r g = (by (format_fault t) g.0, ap stripped g.1) where
    by : (o : Option LexErrorKind) → FitsMark m (unless_misplaced o t (record { start = a; end = b })) → FitsMark n (unless_misplaced o t nowhere)
    by None f = fits t (record { start = a; end = b }) f
    by (Some k) f = absurd f

  pub strips_one : Strips (one m) (one n)
  strips_one = record { keeps = one_kept }

-- a token whose place the tree keeps
pub strips_spot : (k : Token) (at : Span) → Strips (one (spot at k)) (one (spot nowhere k))
strips_spot k at = strips_one (spot at k) (spot nowhere k) (λ t p g. (refl, g.1))

-- a token of whose place something holds, as of the one place
pub strips_token : (k : Token) {P Q : Span → Type 0} → Q nowhere → Strips (languages.token_at k P) (languages.token_at k Q)
strips_token k q = record { keeps = λ ts r h. (nowhere, (strips_spot k h.0).keeps ts r h.1, q) }

pub strips_the : (k : Token) → Strips (the k) (the k)
strips_the k = strips_token k tt

-- ---- none, and one behind the other

pub strips_nothing : Strips nothing nothing
strips_nothing = record { keeps = λ ts r h. ap stripped h }

pub strips_never : Strips never never
strips_never = record { keeps = λ ts r h. absurd h }

pub strips_then : {L L' M M' : Language} → Strips L L' → Strips M M' → Strips (L ▸ M) (L' ▸ M')
strips_then first later = record { keeps = λ ts r h. (stripped h.0, first.keeps ts h.0 h.1, later.keeps h.0 r h.2) }

pub strips_if_there : (k : Token) (o : Option Span) → Strips (if_there k o) (if_there k (dot o))
strips_if_there k None = strips_nothing
strips_if_there k (Some at) = strips_spot k at

pub strips_given : {P Q : Type 0} {L M : Language} → (P → Q) → Strips L M → Strips (given P L) (given Q M)
strips_given holds part = record { keeps = λ ts r h. (holds h.0, part.keeps ts r h.1) }

-- ---- choices

pub strips_or : {L L' M M' : Language} → Strips L L' → Strips M M' → Strips (L ∪ M) (L' ∪ M')
strips_or {L = L} {L' = L'} {M = M} {M' = M'} first second = record { keeps = either } where
  either : (ts r : Stream) → (L ∪ M) ts r → (L' ∪ M') (stripped ts) (stripped r)
  either ts r (inl h) = inl (first.keeps ts r h)
  either ts r (inr h) = inr (second.keeps ts r h)

-- ---- lists

strips_times : {L M : Language} → Strips L M → (n : ℕ) → Strips (times L n) (times M n)
strips_times part zero = strips_nothing
strips_times part (suc n) = strips_then part (strips_times part n)

pub strips_many : {L M : Language} → Strips L M → Strips (many L) (many M)
strips_many part = record { keeps = λ ts r h. (h.0, (strips_times part h.0).keeps ts r h.1) }

-- values, each of whose language goes on to that of another value
module _ {A : Type 0} (L : A → Language) (f : A → A) (part : (a : A) → Strips (L a) (L (f a))) where
  pub strips_each : (xs : List A) → Strips (each L xs) (each L (map f xs))
  strips_each [] = strips_nothing
  strips_each (x ∷ xs) = strips_then (part x) (strips_each xs)

  pub strips_some : (xs : List A) → Strips (some L xs) (some L (map f xs))
  strips_some [] = strips_never
  strips_some (x ∷ xs) = strips_then (part x) (strips_each xs)

pub strips_some_by : {A : Type 0} (k : Token) (L : A → Language) (f : A → A) → ((a : A) → Strips (L a) (L (f a))) → (xs : List A) → Strips (some_by k L xs) (some_by k L (map f xs))
strips_some_by k L f part [] = strips_never
strips_some_by k L f part (x ∷ xs) = strips_then (part x) (strips_each (λ y. the k ▸ L y) f (λ y. strips_then (strips_the k) (part y)) xs)

-- ---- where what is seen first begins

first_nowhere : (ts : Stream) → begins nowhere (span_of (peek source (stripped ts)))
first_nowhere [] = refl
first_nowhere (last s ∷ ts) = first_nowhere ts
first_nowhere (piece h (fault_at k a b) ∷ ts) = first_nowhere ts
first_nowhere (piece h (token_at a b t) ∷ ts) = by (format_fault t) where
  by : (o : Option LexErrorKind) → begins nowhere (span_of (unless_misplaced o t nowhere))
  by None = refl
  by (Some k) = refl

pub strips_starts : (at : Span) {L M : Language} → Strips L M → Strips (starts at L) (starts nowhere M)
strips_starts at part = record { keeps = λ ts r h. (first_nowhere ts, part.keeps ts r h.1) }
