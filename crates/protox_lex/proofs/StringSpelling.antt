-- A text is a string exactly where it is spelled as one.
use Rattle.std.proofs.Common.{◌≡◌, ℕ, zero, suc, ◌+◌, ◌≤◌, Bool, true, false, eqb, ◌&&◌, ◌||◌, not, Some, [], ◌∷◌, ◌++◌, take, drop, length, Ok, Err, ap, sym, subst, ◌∙◌, arith, refl, length-take, length-drop, length-append, ◌⊎◌, inl, inr}
use Rattle.std.specs.Prelude.{slice_index, ◌==◌}
use Rattle.std.proofs.lemmas.Bool.{eqb-true, and_parts}
use Rattle.std.proofs.lemmas.List.{drop-drop}
use Rattle.std.proofs.Math.Seq.{take-append_seam, drop-append_seam, get_or-append_seam}
use Rattle.protox_lex.specs.Class.{Text}
use Rattle.protox_lex.specs.Lex.{Escaped, escape, is_plain, unit_len, contents_from, contents_len}
use Rattle.protox_lex.specs.Spelled.{is_quote, Contents, ends, plain_byte, escaped, IsString}
use Rattle.protox_lex.proofs.Pieces.{if_all, literal_of}
use Rattle.protox_lex.proofs.Contents.{contents_pass, contents_end}
use Rattle.protox_lex.proofs.EscapeForms.{escape_of, escape_spelled}
use Rattle.protox_lex.proofs.FloatSpelling.{last_byte}
use Rattle.protox_lex.proofs.StringCuts.{first_unit, one_quote, literal_is}

-- ---- contents

plain_no_slash : (q b : ℕ) → is_plain q b ≡ true → (b == 92) ≡ false
plain_no_slash q b plain = by (b == 92) refl where
  by : (v : Bool) → (b == 92) ≡ v → (b == 92) ≡ false
  by false h = h
  by true h = absurd (let f = rw h at plain in other (b == q) f) where
    other : (v : Bool) → not (v || true) ≡ true → ⊥
    other true f = absurd (cc)
    other false f = absurd (cc)

-- contents that end where no more of them begins are read up to there
pub record ReadTo (q : ℕ) (y rest : Text) : Type 0 where
  pub sum : contents_len q y + length rest ≡ length y
  pub left : drop (contents_len q y) y ≡ rest

pub contents_read : (q : ℕ) (rest y : Text) → unit_len q rest ≡ 0 → Contents q rest y → ReadTo q y rest
contents_read q rest y none (ends y' e) = subst (λ w. ReadTo q w rest) (sym e) (record { sum = omega (arith, contents_end q rest none); left = ap (λ k. drop k rest) (contents_end q rest none) })
contents_read q rest (b ∷ y) none (plain_byte b' y' plain more) =
    let r = contents_read q rest y none more in
    let e : contents_len q (b ∷ y) ≡ suc (contents_len q y) = first_unit q b y false (escape y) true (plain_no_slash q b plain) refl plain in
    record { sum = omega (arith, e, r.sum); left = ap (λ k. drop k (b ∷ y)) e ∙ r.left }
contents_read q rest (b ∷ y) none (escaped y' n m is more) =
    let r = contents_read q rest (drop n y) none more in
    let esc = escape_of y n m is in
    let within = is.0.within in
    let e : contents_len q (92 ∷ y) ≡ suc (n + contents_len q (drop n y)) = first_unit q 92 y true (Ok (m, n)) (is_plain q 92) refl esc refl ∙ ap suc (contents_pass q n y within) in
    record { sum = omega (arith, e, r.sum, length-drop n y); left = ap (λ k. drop k (92 ∷ y)) e ∙ sym (drop-drop (contents_len q (drop n y)) n y) ∙ r.left }

-- the text is contents up to where no more of them begins
pub record IsEnd (q : ℕ) (y rest : Text) : Type 0 where
  pub contents : Contents q rest y
  pub none : unit_len q rest ≡ 0

abbrev ReadsAll : ℕ → ℕ → Type 0
ReadsAll q most = (y : Text) → length y ≤ most → IsEnd q y (drop (contents_len q y) y)

end_here : (q : ℕ) (y : Text) → contents_len q y ≡ 0 → unit_len q y ≡ 0 → IsEnd q y (drop (contents_len q y) y)
end_here q y e none = subst (IsEnd q y) (sym (ap (λ k. drop k y) e)) (record { contents = ends y refl; none = none })

read_unit : (q most b : ℕ) (y : Text) → length y ≤ most → ReadsAll q most → IsEnd q (b ∷ y) (drop (contents_len q (b ∷ y)) (b ∷ y))
read_unit q most b y le later = by (b == 92) refl (escape y) refl (is_plain q b) refl where
  by : (s : Bool) → (b == 92) ≡ s → (o : Escaped) → escape y ≡ o → (p : Bool) → is_plain q b ≡ p → IsEnd q (b ∷ y) (drop (contents_len q (b ∷ y)) (b ∷ y))
  by true slash (Ok x) esc p plain =
      let is = escape_spelled y x esc in
      let within = is.0.within in
      let rest : IsEnd q (drop x.1 y) (drop (contents_len q (drop x.1 y)) (drop x.1 y)) = later (drop x.1 y) (omega (arith, length-drop x.1 y)) in
      let e : contents_len q (b ∷ y) ≡ suc (x.1 + contents_len q (drop x.1 y)) = first_unit q b y true (Ok x) p slash esc plain ∙ ap suc (contents_pass q x.1 y within) in
      let left : drop (contents_len q (b ∷ y)) (b ∷ y) ≡ drop (contents_len q (drop x.1 y)) (drop x.1 y) = ap (λ k. drop k (b ∷ y)) e ∙ sym (drop-drop (contents_len q (drop x.1 y)) x.1 y) in
      let all : Contents q (drop (contents_len q (drop x.1 y)) (drop x.1 y)) (b ∷ y) = subst (λ k. Contents q (drop (contents_len q (drop x.1 y)) (drop x.1 y)) (k ∷ y)) (sym (eqb-true b 92 slash)) (escaped y x.1 x.0 is rest.contents) in
      subst (IsEnd q (b ∷ y)) (sym left) (record { contents = all; none = rest.none })
  by true slash (Err n) esc p plain = end_here q (b ∷ y) (first_unit q b y true (Err n) p slash esc plain) (rw (slash, esc) refl)
  by false slash o esc true plain =
      let rest : IsEnd q y (drop (contents_len q y) y) = later y le in
      let e : contents_len q (b ∷ y) ≡ suc (contents_len q y) = first_unit q b y false o true slash esc plain in
      subst (IsEnd q (b ∷ y)) (sym (ap (λ k. drop k (b ∷ y)) e)) (record { contents = plain_byte b y plain rest.contents; none = rest.none })
  by false slash o esc false plain = end_here q (b ∷ y) (first_unit q b y false o false slash esc plain) (rw (plain, slash) refl)

reads_all : (q most : ℕ) → ReadsAll q most
unfolding contents_from
reads_all q most [] le = record { contents = ends [] refl; none = refl }
reads_all q zero (b ∷ y) le = absurd (omega arith)
reads_all q (suc most) (b ∷ y) le = read_unit q most b y (omega arith) (reads_all q most)

pub contents_spelled : (q : ℕ) (y : Text) → IsEnd q y (drop (contents_len q y) y)
contents_spelled q y = reads_all q (length y) y (omega arith)

-- ---- strings

quote_ends : (q : ℕ) (w : Text) → is_quote q ≡ true → unit_len q (q ∷ w) ≡ 0
quote_ends q w is = by (one_quote q is) where
  by : (q ≡ 34) ⊎ (q ≡ 39) → unit_len q (q ∷ w) ≡ 0
  by (inl e) = subst (λ k. unit_len k (k ∷ w) ≡ 0) (sym e) refl
  by (inr e) = subst (λ k. unit_len k (k ∷ w) ≡ 0) (sym e) refl

pub string_text : (q : ℕ) (y s : Text) → is_quote q ≡ true → IsString q y s → literal_of q y ≡ Some s
string_text q y s is string =
    let r = contents_read q (q ∷ []) y (quote_ends q [] is) string.contents in
    let long : length y ≡ suc (length s) = omega (arith, ap length string.closes, length-append s (q ∷ [])) in
    let n : contents_len q y ≡ length s = omega (arith, r.sum) in
    let last : slice_index y (length s) ≡ q = ap (λ w. slice_index w (length s)) string.closes ∙ get_or-append_seam s q [] 0 in
    literal_is q y (length s) n long last ∙ ap (λ w. Some w) (ap (take (length s)) string.closes ∙ take-append_seam s (q ∷ []))

string_of : (q : ℕ) (y s : Text) → contents_len q y + 1 ≡ length y → slice_index y (contents_len q y) ≡ q → take (contents_len q y) y ≡ s → IsString q y s
string_of q y s long last front = record { closes = shape; contents = subst (λ r. Contents q r y) rest (contents_spelled q y).contents } where
  shape : y ≡ s ++ (q ∷ [])
  shape = last_byte y (contents_len q y) long ∙ ap (λ w. w ++ (slice_index y (contents_len q y) ∷ [])) front ∙ ap (λ b. s ++ (b ∷ [])) last

  same : contents_len q y ≡ length s
  same = omega (arith, ap length front, length-take (contents_len q y) y)

  rest : drop (contents_len q y) y ≡ q ∷ []
  rest = ap (λ k. drop k y) same ∙ ap (drop (length s)) shape ∙ drop-append_seam s (q ∷ [])

pub string_spelled : (q : ℕ) (y s : Text) → literal_of q y ≡ Some s → IsString q y s
string_spelled q y s e = by _ refl e where
  by : (v : Bool) → (eqb (contents_len q y + 1) (length y) && eqb (slice_index y (contents_len q y)) q) ≡ v → if_all v (take (contents_len q y) y) ≡ Some s → IsString q y s
  by true h e =
      let both = and_parts (eqb (contents_len q y + 1) (length y)) (eqb (slice_index y (contents_len q y)) q) h in
      string_of q y s (eqb-true (contents_len q y + 1) (length y) both.0) (eqb-true _ q both.1) (let f : Some (take (contents_len q y) y) ≡ Some s = e in cc)
  by false h e = absurd (cc)
