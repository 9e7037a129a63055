-- Names at the front of lexemes, and their tokens.
use Rattle.std.proofs.Common.{◌≡◌, ◌↔◌, ℕ, ◌==◌, List, [], ◌∷◌, ◌++◌, Bool, true, false, cond, Option, Some, None, Ok, Err, codes, is_some, refl, sym, ap, subst, ◌∙◌}
use Rattle.std.specs.List.{flat_map}
use Rattle.std.proofs.lemmas.Bool.Decides.{Decides-eqb}
use Rattle.protox_lex.specs.Class.{Text}
use Rattle.protox_lex.specs.declared.span.Span.{Span}
use Rattle.text_lex.specs.Token.{Token, ident, int, float, str, sign, Lexeme, token_at, fault}
use Rattle.text_model.specs.Tree.{FullName, FieldName, plain, extension, expansion}
use Rattle.text_model.specs.Tokens.{dotted, full_name_tokens, name_tokens}
use Rattle.text_scalars.specs.Front.{behind, from_to, is_sign, sees}
use Rattle.text_scalars.specs.Names.{bracketed_at, bracketed_by, dotted_at, expansion_at, full_name_at, identifiers, name_at}
use Rattle.text_scalars.specs.Reading.{Reading, and_then, seen_as}
use Rattle.text_scalars.specs.Spelled.{Begin, IsName, start_of}
use Rattle.text_scalars.proofs.Naming.{no_dot}

pub is_this : (k : ℕ) (t : Token) → is_sign k t ≡ true → t ≡ sign k
is_this k (sign b) e = ap sign ((Decides-eqb b k).0 e)
is_this k (ident w) e = absurd (cc e)
is_this k (int r d) e = absurd (cc e)
is_this k (float w) e = absurd (cc e)
is_this k (str w) e = absurd (cc e)

begin_both : (ts us : List Token) (place : ℕ) (ls : List Lexeme) (m : ℕ) (mid : List Lexeme) (stop : ℕ) (rest : List Lexeme)
    → Begin ts place ls m mid → Begin us m mid stop rest → Begin (ts ++ us) place ls stop rest
begin_both [] us place ls m mid stop rest h k =
    subst (λ l. Begin us place l stop rest) h.1 (subst (λ p. Begin us p mid stop rest) h.0 k)
begin_both (t ∷ ts) us place [] m mid stop rest h k = absurd h
begin_both (t ∷ ts) us place (fault e ∷ ls) m mid stop rest h k = absurd h
begin_both (t ∷ ts) us place (token_at a b u ∷ ls) m mid stop rest h k =
    (h.0, begin_both ts us b ls m mid stop rest h.1 k)

record Parted (ts us : List Token) (place : ℕ) (ls : List Lexeme) (stop : ℕ) (rest : List Lexeme) : Type 0 where
  m : ℕ
  mid : List Lexeme
  first : Begin ts place ls m mid
  second : Begin us m mid stop rest

begin_parts : (ts us : List Token) (place : ℕ) (ls : List Lexeme) (stop : ℕ) (rest : List Lexeme)
    → Begin (ts ++ us) place ls stop rest → Parted ts us place ls stop rest
begin_parts [] us place ls stop rest h =
    record { m = place; mid = ls; first = (refl, refl); second = h }
begin_parts (t ∷ ts) us place [] stop rest h = absurd h
begin_parts (t ∷ ts) us place (fault e ∷ ls) stop rest h = absurd h
begin_parts (t ∷ ts) us place (token_at a b u ∷ ls) stop rest h =
    let p = begin_parts ts us b ls stop rest h.1 in
    record { m = p.m; mid = p.mid; first = (h.0, p.first); second = p.second }

-- ---- from tokens

dots_found : (ws : List Text) (place : ℕ) (ls : List Lexeme) (stop : ℕ) (rest : List Lexeme)
    → Begin (flat_map dotted ws) place ls stop rest → sees 46 rest ≡ false
    → dotted_at ls ≡ Ok (ws, rest)
dots_found [] place ls stop rest h none =
    no_dot ls (subst (λ r. sees 46 r ≡ false) h.1 none)
    ∙ ap (λ r. let it : Reading (List Text) = Ok ([], r) in it) (sym h.1)
dots_found (w ∷ ws) place [] stop rest h none = absurd h
dots_found (w ∷ ws) place (fault e ∷ ls) stop rest h none = absurd h
dots_found (w ∷ ws) place (token_at a b u ∷ []) stop rest h none = absurd h.1
dots_found (w ∷ ws) place (token_at a b u ∷ fault e ∷ ls) stop rest h none = absurd h.1
dots_found (w ∷ ws) place (token_at a b u ∷ token_at c d t ∷ ls) stop rest h none =
    ap (λ x. dotted_at (token_at a b x ∷ token_at c d t ∷ ls)) h.0
    ∙ ap (λ x. dotted_at (token_at a b (sign 46) ∷ token_at c d x ∷ ls)) h.1.0
    ∙ ap (λ r. seen_as (λ n. n.first ∷ n.others) (seen_as (identifiers w) r)) (dots_found ws d ls stop rest h.1.1 none)

full_found : (n : FullName) (place : ℕ) (ls : List Lexeme) (stop : ℕ) (rest : List Lexeme)
    → Begin (full_name_tokens n) place ls stop rest → sees 46 rest ≡ false
    → full_name_at ls ≡ Ok (n, rest)
full_found n place [] stop rest h none = absurd h
full_found n place (fault e ∷ ls) stop rest h none = absurd h
full_found n place (token_at a b u ∷ ls) stop rest h none =
    ap (λ x. full_name_at (token_at a b x ∷ ls)) h.0
    ∙ ap (seen_as (identifiers n.first)) (dots_found n.others b ls stop rest h.1 none)

abbrev named : FieldName → ℕ → ℕ → List Lexeme → Reading (FieldName × Span)
named n start stop rest = Ok ((n, from_to start stop), rest)

abbrev at_sign : Bool → ℕ → ℕ → Option Span
at_sign v a b = cond v (Some (from_to a b)) None

not_dot : (k a b : ℕ) (t : Token) (ls : List Lexeme) → t ≡ sign k → is_sign 46 (sign k) ≡ false
    → sees 46 (token_at a b t ∷ ls) ≡ false
not_dot k a b t ls e f =
    ap (λ x. sees 46 (token_at a b x ∷ ls)) e ∙ ap (λ v. is_some (at_sign v a b)) f

closed : (n : FullName) (a b : ℕ) (mid : List Lexeme) (m stop : ℕ) (rest : List Lexeme)
    → Begin (sign 93 ∷ []) m mid stop rest
    → (sees 46 mid ≡ false) × (bracketed_at (from_to a b) n mid ≡ named (extension n) a stop rest)
closed n a b [] m stop rest h = absurd h
closed n a b (fault e ∷ ls) m stop rest h = absurd h
closed n a b (token_at c d t ∷ ls) m stop rest h = (
  not_dot 93 c d t ls h.0 refl,
  ap (λ x. bracketed_at (from_to a b) n (token_at c d x ∷ ls)) h.0
      ∙ ap (λ x. named (extension n) a x ls) (sym h.1.0) ∙ ap (named (extension n) a stop) (sym h.1.1),
)

closed_both : (n o : FullName) (a b : ℕ) (mid : List Lexeme) (m stop : ℕ) (rest : List Lexeme)
    → Begin (sign 93 ∷ []) m mid stop rest
    → (sees 46 mid ≡ false) × (expansion_at (from_to a b) n o mid ≡ named (expansion n o) a stop rest)
closed_both n o a b [] m stop rest h = absurd h
closed_both n o a b (fault e ∷ ls) m stop rest h = absurd h
closed_both n o a b (token_at c d t ∷ ls) m stop rest h = (
  not_dot 93 c d t ls h.0 refl,
  ap (λ x. expansion_at (from_to a b) n o (token_at c d x ∷ ls)) h.0
      ∙ ap (λ x. named (expansion n o) a x ls) (sym h.1.0) ∙ ap (named (expansion n o) a stop) (sym h.1.1),
)

slashed : (n o : FullName) (a b : ℕ) (mid : List Lexeme) (m stop : ℕ) (rest : List Lexeme)
    → Begin (sign 47 ∷ (full_name_tokens o ++ sign 93 ∷ [])) m mid stop rest
    → (sees 46 mid ≡ false) × (bracketed_at (from_to a b) n mid ≡ named (expansion n o) a stop rest)
slashed n o a b [] m stop rest h = absurd h
slashed n o a b (fault e ∷ ls) m stop rest h = absurd h
slashed n o a b (token_at c d t ∷ ls) m stop rest h =
    let p = begin_parts (full_name_tokens o) (sign 93 ∷ []) d ls stop rest h.1 in
    let q = closed_both n o a b p.mid p.m stop rest p.second in (
      not_dot 47 c d t ls h.0 refl,
      ap (λ x. bracketed_at (from_to a b) n (token_at c d x ∷ ls)) h.0
          ∙ ap (λ r. and_then r (expansion_at (from_to a b) n)) (full_found o d ls p.m p.mid p.first q.0) ∙ q.1,
    )

in_brackets : (n : FieldName) (f : FullName) (us : List Token) (a b : ℕ) (ls : List Lexeme) (stop : ℕ) (rest : List Lexeme)
    → (p : Parted (full_name_tokens f) us b ls stop rest)
    → (sees 46 p.mid ≡ false) × (bracketed_at (from_to a b) f p.mid ≡ named n a stop rest)
    → name_at (token_at a b (sign 91) ∷ ls) ≡ named n a stop rest
in_brackets n f us a b ls stop rest p q =
    ap (λ r. and_then r (bracketed_at (from_to a b))) (full_found f b ls p.m p.mid p.first q.0) ∙ q.1

name_found : (n : FieldName) (ls : List Lexeme) (start stop : ℕ) (rest : List Lexeme)
    → Begin (name_tokens n) 0 ls stop rest → start ≡ start_of ls → name_at ls ≡ named n start stop rest
name_found (plain w) [] start stop rest h e = absurd h
name_found (plain w) (fault x ∷ ls) start stop rest h e = absurd h
name_found (plain w) (token_at a b u ∷ ls) start stop rest h e =
    ap (λ x. name_at (token_at a b x ∷ ls)) h.0
    ∙ ap (λ x. named (plain w) x b ls) (sym e) ∙ ap (λ x. named (plain w) start x ls) (sym h.1.0)
    ∙ ap (named (plain w) start stop) (sym h.1.1)
name_found (extension n) [] start stop rest h e = absurd h
name_found (extension n) (fault x ∷ ls) start stop rest h e = absurd h
name_found (extension n) (token_at a b u ∷ ls) start stop rest h e =
    let p = begin_parts (full_name_tokens n) (sign 93 ∷ []) b ls stop rest h.1 in
    ap (λ x. name_at (token_at a b x ∷ ls)) h.0
    ∙ in_brackets (extension n) n (sign 93 ∷ []) a b ls stop rest p (closed n a b p.mid p.m stop rest p.second)
    ∙ ap (λ x. named (extension n) x stop rest) (sym e)
name_found (expansion n o) [] start stop rest h e = absurd h
name_found (expansion n o) (fault x ∷ ls) start stop rest h e = absurd h
name_found (expansion n o) (token_at a b u ∷ ls) start stop rest h e =
    let us = sign 47 ∷ (full_name_tokens o ++ sign 93 ∷ []) in
    let p = begin_parts (full_name_tokens n) us b ls stop rest h.1 in
    ap (λ x. name_at (token_at a b x ∷ ls)) h.0
    ∙ in_brackets (expansion n o) n us a b ls stop rest p (slashed n o a b p.mid p.m stop rest p.second)
    ∙ ap (λ x. named (expansion n o) x stop rest) (sym e)

-- ---- to tokens

abbrev HasFull : ℕ → List Lexeme → Reading FullName → Type 0
HasFull place ls (Ok p) = (stop : ℕ) × Begin (full_name_tokens p.0) place ls stop p.1
HasFull place ls (Err s) = Unit {0}

abbrev HasDots : ℕ → List Lexeme → Reading (List Text) → Type 0
HasDots place ls (Ok p) = (stop : ℕ) × Begin (flat_map dotted p.0) place ls stop p.1
HasDots place ls (Err s) = Unit {0}

full_from : (place a b : ℕ) (w : Text) (ls : List Lexeme) (r : Reading (List Text)) → HasDots b ls r
    → HasFull place (token_at a b (ident w) ∷ ls) (seen_as (identifiers w) r)
full_from place a b w ls (Ok p) h = (h.0, (refl, h.1))
full_from place a b w ls (Err s) h = tt

more_from : (place a b : ℕ) (t : Token) (ls : List Lexeme) (r : Reading FullName) → t ≡ sign 46 → HasFull b ls r
    → HasDots place (token_at a b t ∷ ls) (seen_as (λ n. n.first ∷ n.others) r)
more_from place a b t ls (Ok p) e h = (h.0, (e, h.1))
more_from place a b t ls (Err s) e h = tt

dots_from : (place a b : ℕ) (t : Token) (ls : List Lexeme) (v : Bool) → is_sign 46 t ≡ v
    → HasFull b ls (full_name_at ls)
    → HasDots place (token_at a b t ∷ ls)
    (cond v (seen_as (λ n. n.first ∷ n.others) (full_name_at ls)) (Ok ([], token_at a b t ∷ ls)))
dots_from place a b t ls true e h = more_from place a b t ls (full_name_at ls) (is_this 46 t e) h
dots_from place a b t ls false e h = (place, (refl, refl))

mutual
  full_begins : (place : ℕ) (ls : List Lexeme) → HasFull place ls (full_name_at ls)
  full_begins place [] = tt
  full_begins place (fault e ∷ ls) = tt
  full_begins place (token_at a b (ident w) ∷ ls) = full_from place a b w ls (dotted_at ls) (dots_begin b ls)
  full_begins place (token_at a b (int r d) ∷ ls) = tt
  full_begins place (token_at a b (float w) ∷ ls) = tt
  full_begins place (token_at a b (str w) ∷ ls) = tt
  full_begins place (token_at a b (sign k) ∷ ls) = tt

  dots_begin : (place : ℕ) (ls : List Lexeme) → HasDots place ls (dotted_at ls)
  dots_begin place [] = (place, (refl, refl))
  dots_begin place (fault e ∷ ls) = (place, (refl, refl))
  dots_begin place (token_at a b t ∷ ls) = dots_from place a b t ls (is_sign 46 t) refl (full_begins b ls)

abbrev HasName : List Lexeme → Reading (FieldName × Span) → Type 0
HasName ls (Ok p) = IsName ls p.0.0 p.0.1 p.1
HasName ls (Err s) = Unit {0}

module _ (n : FullName) (a b : ℕ) (u : Token) (ls : List Lexeme) (opened : u ≡ sign 91) where
  -- the second name is closed, or not
  expansion_by : (o : FullName) (m x y p c d : ℕ) (slash t : Token) (second mid : List Lexeme) → slash ≡ sign 47
      → Begin (full_name_tokens n) b ls m (token_at x y slash ∷ second)
      → Begin (full_name_tokens o) y second p (token_at c d t ∷ mid)
      → (v : Bool) → is_sign 93 t ≡ v
      → HasName (token_at a b u ∷ ls) (elim (at_sign v c d) [
        | Some close ↦ Ok ((expansion n o, from_to (from_to a b).start close.end), behind (token_at c d t ∷ mid))
        | None ↦ Err (codes "'.' or ']'", token_at c d t ∷ mid)
      ])
  expansion_by o m x y p c d slash t second mid between h k true e = record {
    begin = (
      opened,
      begin_both (full_name_tokens n) (sign 47 ∷ (full_name_tokens o ++ sign 93 ∷ [])) b ls m (token_at x y slash ∷ second) d mid h
          (between, begin_both (full_name_tokens o) (sign 93 ∷ []) y second p (token_at c d t ∷ mid) d mid k (is_this 93 t e, (refl, refl))),
    );
    start = refl;
  }
  expansion_by o m x y p c d slash t second mid between h k false e = tt

  expansion_has : (o : FullName) (m x y p : ℕ) (slash : Token) (second mid : List Lexeme) → slash ≡ sign 47
      → Begin (full_name_tokens n) b ls m (token_at x y slash ∷ second) → Begin (full_name_tokens o) y second p mid
      → HasName (token_at a b u ∷ ls) (expansion_at (from_to a b) n o mid)
  expansion_has o m x y p slash second [] between h k = tt
  expansion_has o m x y p slash second (fault z ∷ mid) between h k = tt
  expansion_has o m x y p slash second (token_at c d t ∷ mid) between h k =
      expansion_by o m x y p c d slash t second mid between h k (is_sign 93 t) refl

  second_has : (m x y : ℕ) (slash : Token) (second : List Lexeme) (r : Reading FullName) → slash ≡ sign 47
      → Begin (full_name_tokens n) b ls m (token_at x y slash ∷ second) → HasFull y second r
      → HasName (token_at a b u ∷ ls) (and_then r (expansion_at (from_to a b) n))
  second_has m x y slash second (Ok o) between h k = expansion_has o.0 m x y k.0 slash second o.1 between h k.1
  second_has m x y slash second (Err s) between h k = tt

  -- the first name is closed, or a slash stands behind it, or neither
  bracketed_has_by : (m c d : ℕ) (t : Token) (mid : List Lexeme) → Begin (full_name_tokens n) b ls m (token_at c d t ∷ mid)
      → (v w : Bool) → is_sign 93 t ≡ v → is_sign 47 t ≡ w
      → HasName (token_at a b u ∷ ls) (bracketed_by (from_to a b) n (token_at c d t ∷ mid) (at_sign v c d) (at_sign w c d))
  bracketed_has_by m c d t mid h true w e f = record {
    begin = (opened, begin_both (full_name_tokens n) (sign 93 ∷ []) b ls m (token_at c d t ∷ mid) d mid h (is_this 93 t e, (refl, refl)));
    start = refl;
  }
  bracketed_has_by m c d t mid h false true e f = second_has m c d t mid (full_name_at mid) (is_this 47 t f) h (full_begins d mid)
  bracketed_has_by m c d t mid h false false e f = tt

  bracketed_has : (m : ℕ) (mid : List Lexeme) → Begin (full_name_tokens n) b ls m mid
      → HasName (token_at a b u ∷ ls) (bracketed_at (from_to a b) n mid)
  bracketed_has m [] h = tt
  bracketed_has m (fault z ∷ mid) h = tt
  bracketed_has m (token_at c d t ∷ mid) h = bracketed_has_by m c d t mid h (is_sign 93 t) (is_sign 47 t) refl refl

brackets_have : (a b : ℕ) (u : Token) (ls : List Lexeme) (r : Reading FullName) → u ≡ sign 91 → HasFull b ls r
    → HasName (token_at a b u ∷ ls) (and_then r (bracketed_at (from_to a b)))
brackets_have a b u ls (Ok p) e h = bracketed_has p.0 a b u ls e h.0 p.1 h.1
brackets_have a b u ls (Err s) e h = tt

sign_has : (a b k : ℕ) (ls : List Lexeme) (v : Bool) → (k == 91) ≡ v
    → HasName (token_at a b (sign k) ∷ ls) (elim (at_sign v a b) [
      | Some opened ↦ and_then (full_name_at ls) (bracketed_at opened)
      | None ↦ Err (codes "a field name", token_at a b (sign k) ∷ ls)
    ])
sign_has a b k ls true e = brackets_have a b (sign k) ls (full_name_at ls) (ap sign ((Decides-eqb k 91).0 e)) (full_begins b ls)
sign_has a b k ls false e = tt

name_has : (ls : List Lexeme) → HasName ls (name_at ls)
name_has [] = tt
name_has (fault e ∷ ls) = tt
name_has (token_at a b (ident w) ∷ ls) = record { begin = (refl, (refl, refl)); start = refl }
name_has (token_at a b (int r d) ∷ ls) = tt
name_has (token_at a b (float w) ∷ ls) = tt
name_has (token_at a b (str w) ∷ ls) = tt
name_has (token_at a b (sign k) ∷ ls) = sign_has a b k ls (k == 91) refl

pub names : (ls : List Lexeme) (n : FieldName) (span : Span) (rest : List Lexeme)
    → (name_at ls ≡ Ok ((n, span), rest)) ↔ IsName ls n span rest
names ls n span rest = (
  (λ e. subst (HasName ls) e (name_has ls)),
  λ h. name_found n ls span.start span.end rest h.begin h.start,
)
