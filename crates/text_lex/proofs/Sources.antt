-- What a lexer of sources finds at the front of a text.
use Rattle.std.proofs.Common.{◌≡◌, ℕ, zero, suc, ◌+◌, ◌<◌, true, false, List, [], ◌∷◌, take, length, Ok, Err, ap, sym, subst, ◌∙◌, arith, refl}
use Rattle.std.specs.Prelude.{slice_index, ◌==◌}
use Rattle.std.specs.List.{list_all}
use Rattle.std.proofs.lemmas.Bool.{and_parts}
use Rattle.protox_lex.specs.Class.{Text, is_in}
use Rattle.protox_lex.specs.Lex as source_lex
use Rattle.protox_lex.specs.Longest as source
use Rattle.protox_lex.specs.Token as sources
use Rattle.protox_lex.specs.declared.class.Class.TheVariants as class
use Rattle.protox_lex.specs.declared.error.LexErrorKind.{LexErrorKind}
use Rattle.protox_lex.proofs.Cuts as source_cuts
use Rattle.protox_lex.proofs.Fronts as source_fronts
use Rattle.protox_lex.proofs.Lexing as source_lexing
use Rattle.protox_lex.proofs.OneReading as source_reading
use Rattle.protox_lex.proofs.PieceSpelling.{longest_of}
use Rattle.protox_lex.proofs.Pieces.{IsCut, IsFlaw}
use Rattle.protox_lex.proofs.Streams as source_streams
use Rattle.text_lex.specs.Lex.{token_in, taken, refused, as_text, front}

-- no gap begins with the byte, as a text has them or as a source has them
pub record BeginsToken (b : ℕ) : Type 0 where
  pub blank : is_in class.Blank b ≡ false
  pub hash : (b == 35) ≡ false
  pub slash : (b == 47) ≡ false

module _ (b : ℕ) (y : Text) (begins : BeginsToken b) where
  no_gap : {P : Type 0} (n : ℕ) → source.IsPiece (take n (b ∷ y)) sources.gap → P
  no_gap zero (source.white_space some all) = absurd (omega arith)
  no_gap (suc n) (source.white_space some all) =
      absurd (let wrong : true ≡ false = sym (and_parts (is_in class.Blank b) (list_all (is_in class.Blank) (take n y)) all).0 ∙ begins.blank in cc)
  no_gap zero (source.line_comment w e all) = absurd (omega (arith, ap length e))
  no_gap (suc n) (source.line_comment w e all) = absurd (let wrong : true ≡ false = ap (λ v. slice_index v 0 == 47) (sym e) ∙ begins.slash in cc)
  no_gap zero (source.block_comment w e is) = absurd (omega (arith, ap length e))
  no_gap (suc n) (source.block_comment w e is) = absurd (let wrong : true ≡ false = ap (λ v. slice_index v 0 == 47) (sym e) ∙ begins.slash in cc)

  -- a source's first lexeme, and what that makes of the piece at the front of a text
  data Found (at : ℕ) : List sources.Lexeme → Type 0 where
    a_token : (t : sources.Token) (n : ℕ) (ts : List sources.Lexeme) → IsCut (b ∷ y) (sources.token t) n → front at (b ∷ y) ≡ taken at (token_in (take n (b ∷ y)) t) n → Found at (sources.token_at 0 n t ∷ ts)
    a_fault : (kind : LexErrorKind) (start end : ℕ) → IsFlaw (b ∷ y) kind start end → front at (b ∷ y) ≡ refused at (b ∷ y) kind start end → Found at (sources.fault_at kind start end ∷ [])

  in_text : (at : ℕ) (r : source_lex.Cut) → source_lex.front (b ∷ y) ≡ r → front at (b ∷ y) ≡ as_text at (b ∷ y) r
  unfolding front
  in_text at r e = rw (begins.slash, begins.hash, e) refl

  none : (n : ℕ) → 0 + n ≡ n
  none n = omega arith

  find : (at : ℕ) (r : source_lex.Cut) → source_lex.front (b ∷ y) ≡ r → source_cuts.IsRight (b ∷ y) r → Found at (source_lex.lexemes (b ∷ y))
  find at (Ok (sources.gap, n)) e l = no_gap n (longest_of (b ∷ y) sources.gap n l.0).is
  find at (Ok (sources.token t, n)) e l = rw (source_streams.on_token 0 n t (b ∷ y) e l.0.moves l.0.within, none n) (a_token t n _ l.0 (in_text at (Ok (sources.token t, n)) e))
  find at (Err f) e l = rw (source_streams.on_fault 0 f (b ∷ y) (omega arith) e, none f.start, none f.end) (a_fault f.kind f.start f.end l (in_text at (Err f) e))

  found : (at : ℕ) (ts : List sources.Lexeme) → source.Lexes 0 (b ∷ y) ts → Found at ts
  found at ts l = subst (Found at) (source_reading.one_list 0 (b ∷ y) _ ts (source_lexing.all_longest (b ∷ y)) l) (find at (source_lex.front (b ∷ y)) refl (source_fronts.front_right b y))

  abbrev IsToken : ℕ → sources.Token → ℕ → Type 0
  IsToken at t n = IsCut (b ∷ y) (sources.token t) n × (front at (b ∷ y) ≡ taken at (token_in (take n (b ∷ y)) t) n)

  abbrev IsFaultThere : ℕ → LexErrorKind → ℕ → ℕ → Type 0
  IsFaultThere at kind start end = IsFlaw (b ∷ y) kind start end × (front at (b ∷ y) ≡ refused at (b ∷ y) kind start end)

  token_of_found : (at start end : ℕ) (t : sources.Token) (ts us : List sources.Lexeme) → us ≡ sources.token_at start end t ∷ ts → Found at us → IsToken at t end
  token_of_found at start end t ts us e (a_token u n vs l f) =
      let same : u ≡ t = cc in
      let size : n ≡ end = cc in
      subst (λ v. IsToken at v end) same (subst (IsToken at u) size (l, f))
  token_of_found at start end t ts us e (a_fault kind first last l f) = absurd (cc)

  fault_of_found : (at : ℕ) (kind : LexErrorKind) (start end : ℕ) (us : List sources.Lexeme) → us ≡ sources.fault_at kind start end ∷ [] → Found at us → IsFaultThere at kind start end
  fault_of_found at kind start end us e (a_token u n vs l f) = absurd (cc)
  fault_of_found at kind start end us e (a_fault other first last l f) =
      let k : other ≡ kind = cc in
      let s : first ≡ start = cc in
      let d : last ≡ end = cc in
      subst (λ x. IsFaultThere at x start end) k (subst (λ x. IsFaultThere at other x end) s (subst (IsFaultThere at other first) d (l, f)))

  nothing_found : (at : ℕ) (us : List sources.Lexeme) → us ≡ [] → Found at us → ⊥
  nothing_found at us e (a_token u n vs l f) = cc
  nothing_found at us e (a_fault kind first last l f) = cc

-- ---- the same of any text that is not empty

module _ (z : Text) (some : 0 < length z) (begins : BeginsToken (slice_index z 0)) (at : ℕ) (us : List sources.Lexeme) (lexes : source.Lexes 0 z us) where
  pub token_found : (start end : ℕ) (t : sources.Token) (ts : List sources.Lexeme) → us ≡ sources.token_at start end t ∷ ts
      → IsCut z (sources.token t) end × (front at z ≡ taken at (token_in (take end z) t) end)
  token_found start end t ts e = by z some begins lexes where
    by : (z : Text) → 0 < length z → BeginsToken (slice_index z 0) → source.Lexes 0 z us → IsCut z (sources.token t) end × (front at z ≡ taken at (token_in (take end z) t) end)
    by [] some begins lexes = absurd (omega arith)
    by (b ∷ y) some begins lexes = token_of_found b y begins at start end t ts us e (found b y begins at us lexes)

  pub fault_found : (kind : LexErrorKind) (start end : ℕ) → us ≡ sources.fault_at kind start end ∷ [] → IsFlaw z kind start end × (front at z ≡ refused at z kind start end)
  fault_found kind start end e = by z some begins lexes where
    by : (z : Text) → 0 < length z → BeginsToken (slice_index z 0) → source.Lexes 0 z us → IsFlaw z kind start end × (front at z ≡ refused at z kind start end)
    by [] some begins lexes = absurd (omega arith)
    by (b ∷ y) some begins lexes = fault_of_found b y begins at kind start end us e (found b y begins at us lexes)

  pub not_nothing : us ≡ [] → ⊥
  not_nothing e = by z some begins lexes where
    by : (z : Text) → 0 < length z → BeginsToken (slice_index z 0) → source.Lexes 0 z us → ⊥
    by [] some begins lexes = omega arith
    by (b ∷ y) some begins lexes = nothing_found b y begins at us e (found b y begins at us lexes)
