-- Names, word by word.
use Rattle.std.proofs.Common.{◌≡◌, List, [], ◌∷◌, ◌++◌, Bool, true, false, Option, Some, None, Result, Ok, Err, IsErrAnd, is_some, codes, refl, sym, ap, subst, ◌∙◌, append_assoc}
use Rattle.std.specs.List.{flat_map}
use Rattle.std.proofs.lemmas.List.{append-nil}
use Rattle.std.proofs.lemmas.Result.{err_from_is_err_and}
use Rattle.protox_lex.specs.Class.{Text}
use Rattle.protox_lex.specs.declared.span.Span.{Span}
use Rattle.text_lex.specs.Token.{ident, int, float, str, sign, Lexeme, token_at, fault}
use Rattle.text_error.specs.declared.error.ParseErrorKind.{ParseErrorKind}
use Rattle.text_error.specs.declared.error.ParseErrorKind.TheVariants as kinds
use Rattle.text_model.specs.Tree.{FullName}
use Rattle.text_model.specs.Value.{written}
use Rattle.text_scalars.specs.Front.{behind, is_sign, next, rest_of, sees, sign_bytes, word_in}
use Rattle.text_scalars.specs.Names.{bracketed_at, bracketed_by, dotted_at, expansion_at, full_name_at, identifiers, text_and_bytes, view_and_bytes}
use Rattle.text_scalars.specs.Reading.{Reading, ReadsLexemes, TellsStop, and_then, seen_as}

-- words behind a text, each behind a dot
abbrev pub onto : Text → Reading (List Text) → Reading Text
onto t r = seen_as (λ ws. t ++ flat_map (λ w. 46 ∷ w) ws) r

word_or : Text → Option (Text × Span) → Text
word_or w (Some p) = p.0
word_or w None = w

pub word_first : (w : Text) (s : Span) (ls : List Lexeme) → next word_in ls ≡ Some (w, s)
    → full_name_at ls ≡ seen_as (identifiers w) (dotted_at (behind ls))
unfolding word_or
word_first w s [] h = absurd (cc h)
word_first w s (fault e ∷ ls) h = absurd (cc h)
word_first w s (token_at a b (ident v) ∷ ls) h =
    let e : v ≡ w = ap (word_or w) h in ap (λ x. seen_as (identifiers x) (dotted_at ls)) e
word_first w s (token_at a b (int r d) ∷ ls) h = absurd (cc h)
word_first w s (token_at a b (float v) ∷ ls) h = absurd (cc h)
word_first w s (token_at a b (str v) ∷ ls) h = absurd (cc h)
word_first w s (token_at a b (sign v) ∷ ls) h = absurd (cc h)

pub no_word : (ls : List Lexeme) → next word_in ls ≡ None
    → full_name_at ls ≡ Err (codes "an identifier", ls)
no_word [] h = refl
no_word (fault e ∷ ls) h = refl
no_word (token_at a b (ident v) ∷ ls) h = absurd (cc h)
no_word (token_at a b (int r d) ∷ ls) h = refl
no_word (token_at a b (float v) ∷ ls) h = refl
no_word (token_at a b (str v) ∷ ls) h = refl
no_word (token_at a b (sign v) ∷ ls) h = refl

pub as_text : (w : Text) (r : Reading (List Text))
    → seen_as written (seen_as (identifiers w) r) ≡ onto w r
as_text w (Ok p) = refl
as_text w (Err stop) = refl

-- the first word is taken
pub begins : (w t : Text) (s : Span) (old new : List Lexeme) → next word_in old ≡ Some (w, s)
    → new ≡ behind old → t ≡ w → seen_as written (full_name_at old) ≡ onto t (dotted_at new)
begins w t s old new word rest same =
    ap (seen_as written) (word_first w s old word) ∙ as_text w (dotted_at (behind old))
    ∙ ap (λ x. onto x (dotted_at (behind old))) (sym same) ∙ ap (λ ls. onto t (dotted_at ls)) (sym rest)

-- a dot is there, or not
pub at_dot : (ls : List Lexeme) → sees 46 ls ≡ true
    → dotted_at ls ≡ seen_as (λ n. n.first ∷ n.others) (full_name_at (behind ls))
at_dot [] h = absurd (cc h)
at_dot (fault e ∷ ls) h = absurd (cc h)
at_dot (token_at a b t ∷ ls) h = by (is_sign 46 t) refl where
  by : (v : Bool) → is_sign 46 t ≡ v
      → dotted_at (token_at a b t ∷ ls) ≡ seen_as (λ n. n.first ∷ n.others) (full_name_at ls)
  by true e = rw e refl
  by false e = absurd (cc (rw e at h))

pub no_dot : (ls : List Lexeme) → sees 46 ls ≡ false → dotted_at ls ≡ Ok ([], ls)
no_dot [] h = refl
no_dot (fault e ∷ ls) h = refl
no_dot (token_at a b t ∷ ls) h = by (is_sign 46 t) refl where
  by : (v : Bool) → is_sign 46 t ≡ v → dotted_at (token_at a b t ∷ ls) ≡ Ok ([], token_at a b t ∷ ls)
  by true e = absurd (cc (rw e at h))
  by false e = rw e refl

longer : (t w : Text) (r : Reading (List Text))
    → onto t (seen_as (λ n. n.first ∷ n.others) (seen_as (identifiers w) r)) ≡ onto (t ++ 46 ∷ w) r
longer t w (Ok p) = ap (λ x. Ok (x, p.1)) (sym (append_assoc t (46 ∷ w) (flat_map (λ v. 46 ∷ v) p.0)))
longer t w (Err stop) = refl

behind_dot : (o : Option Span) (ls mid : List Lexeme) → is_some o ≡ true → mid ≡ rest_of o ls
    → mid ≡ behind ls
behind_dot (Some s) ls mid some rest = rest
behind_dot None ls mid some rest = absurd (cc some)

-- a word more
pub word_more : (t u v w : Text) (b : Span) (o : Option Span) (ls mid new : List Lexeme)
    → sees 46 ls ≡ true → is_some o ≡ true → mid ≡ rest_of o ls → next word_in mid ≡ Some (w, b)
    → new ≡ behind mid → u ≡ t ++ 46 ∷ [] → v ≡ u ++ w
    → onto v (dotted_at new) ≡ onto t (dotted_at ls)
word_more t u v w b o ls mid new dot some rest word last point all =
    let e : mid ≡ behind ls = behind_dot o ls mid some rest in
    let f : v ≡ t ++ 46 ∷ w = all ∙ ap (λ x. x ++ w) point ∙ append_assoc t (46 ∷ []) w in
    ap (λ x. onto x (dotted_at new)) f ∙ ap (λ x. onto (t ++ 46 ∷ w) (dotted_at x)) last
    ∙ sym (ap (onto t) (at_dot ls dot ∙ ap (λ x. seen_as (λ n. n.first ∷ n.others) (full_name_at x)) (sym e)
    ∙ ap (seen_as (λ n. n.first ∷ n.others)) (word_first w b mid word))
    ∙ longer t w (dotted_at (behind mid)))

-- no word behind a dot
pub word_missing : (t : Text) (o : Option Span) (ls mid : List Lexeme) → sees 46 ls ≡ true
    → is_some o ≡ true → mid ≡ rest_of o ls → next word_in mid ≡ None
    → onto t (dotted_at ls) ≡ Err (codes "an identifier", mid)
word_missing t o ls mid dot some rest none =
    let e : mid ≡ behind ls = behind_dot o ls mid some rest in
    ap (onto t) (at_dot ls dot ∙ ap (λ x. seen_as (λ n. n.first ∷ n.others) (full_name_at x)) (sym e)
    ∙ ap (seen_as (λ n. n.first ∷ n.others)) (no_word mid none))

behind_none : (o : Option Span) (ls mid : List Lexeme) → is_some o ≡ false → mid ≡ rest_of o ls
    → ls ≡ mid
behind_none (Some s) ls mid some rest = absurd (cc some)
behind_none None ls mid some rest = sym rest

-- no further dot
pub all_words : (t : Text) (o : Option Span) (ls mid : List Lexeme) → sees 46 ls ≡ false
    → is_some o ≡ false → mid ≡ rest_of o ls → onto t (dotted_at ls) ≡ Ok (t, mid)
all_words t o ls mid none some rest =
    ap (onto t) (no_dot ls none) ∙ ap (λ x. Ok (x, ls)) (append-nil t)
    ∙ ap (λ x. Ok (t, x)) (behind_none o ls mid some rest)

-- a refusal that is told
pub told : {A B : Type 0} (view : B → A) (r : Reading A) (k : ParseErrorKind) (rest : List Lexeme)
    → TellsStop r k → ReadsLexemes view r (Err k) rest
told view r kinds.Memory rest h = tt
told view r _ rest h = h

-- a refusal that is passed on
pub passed : {A B : Type 0} (view : B → A) (r : Reading A) (x : Result B ParseErrorKind) (rest : List Lexeme)
    (k : ParseErrorKind) → IsErrAnd x (λ e. e ≡ k) → ReadsLexemes view r (Err k) rest → ReadsLexemes view r x rest
passed view r x rest k is h = let p = err_from_is_err_and x is in rw (p.1, p.2) h

-- what is read of a part that is refused is refused
part_fails : {A B C D E F : Type 0} (view : B → A) (see : C → A) (show : E → D) (look : F → D)
    (r : Reading C) (f : C → List Lexeme → Reading F) (k : ParseErrorKind) (rest : List Lexeme)
    → ReadsLexemes view (seen_as see r) (Err k) rest → ReadsLexemes show (seen_as look (and_then r f)) (Err k) rest
part_fails view see show look (Ok p) f kinds.Memory rest h = tt
part_fails view see show look (Ok p) f _ rest h = absurd h
part_fails view see show look (Err stop) f kinds.Memory rest h = tt
part_fails view see show look (Err stop) f _ rest h = h

rest_or : {A : Type 0} → List Lexeme → Reading A → List Lexeme
rest_or ls (Ok p) = p.1
rest_or ls (Err stop) = ls

-- the second name in brackets is refused
pub second_fails : {B : Type 0} (view : B → Text) (opened : Span) (t : Text) (k : ParseErrorKind)
    (r : Reading FullName) (mid next_ls rest : List Lexeme) (o : Option Span) → seen_as written r ≡ Ok (t, mid)
    → sign_bytes 93 mid ≡ None → o ≡ sign_bytes 47 mid → is_some o ≡ true → next_ls ≡ rest_of o mid
    → ReadsLexemes view (seen_as written (full_name_at next_ls)) (Err k) rest
    → ReadsLexemes view_and_bytes (seen_as text_and_bytes (and_then r (bracketed_at opened))) (Err k) rest
unfolding rest_or
second_fails view opened t k (Err stop) mid next_ls rest o h none same_o some e read = absurd (cc h)
second_fails view opened t k (Ok p) mid next_ls rest None h none same_o some e read = absurd (cc some)
second_fails view opened t k (Ok p) mid next_ls rest (Some slash) h none same_o some e read =
    let same : p.1 ≡ mid = ap (rest_or mid) h in
    subst (λ m. ReadsLexemes view_and_bytes (seen_as text_and_bytes (bracketed_at opened p.0 m)) (Err k) rest) (sym same)
    (subst (λ o. ReadsLexemes view_and_bytes (seen_as text_and_bytes (bracketed_by opened p.0 mid o (sign_bytes 47 mid))) (Err k) rest) (sym none)
    (subst (λ o. ReadsLexemes view_and_bytes (seen_as text_and_bytes (bracketed_by opened p.0 mid None o)) (Err k) rest) same_o
    (part_fails view written view_and_bytes text_and_bytes (full_name_at (behind mid))
    (expansion_at opened p.0) k rest (subst (λ m. ReadsLexemes view (seen_as written (full_name_at m)) (Err k) rest) e read))))
