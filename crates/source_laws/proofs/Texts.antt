-- Identifiers in lower case, with dots between them, and in camel case.
use Rattle.std.proofs.Common.{◌≡◌, ◌∙◌, ◌<◌, ◌==◌, ◌&&◌, ◌++◌, ℕ, Bool, true, false, not, cond, [], ◌∷◌, List, map, refl, ap, sym, subst, arith, tests, append-nil}
use Rattle.std.specs.Char.{to_ascii_lowercase, to_ascii_uppercase}
use Rattle.std.specs.Prelude.{codes, encode_utf8_all}
use Rattle.std.specs.List.{flat_map, list_all}
use Rattle.std.proofs.lemmas.Bool.{agree_below, agree_below_at, and_from, and_parts, eqb-true}
use Rattle.std.proofs.lemmas.Str.{encode_ascii}
use Rattle.protox_field_records.specs.FieldRecords.{letter, camel, entry_name_of}
use Rattle.protox_lex.specs.Class.{Text, is_in}
use Rattle.protox_lex.specs.declared.class.Class.TheVariants as class
use Rattle.protox_tokens.specs.Marks.{Each, IsSome_of}
use Rattle.protox_tree.specs.Tree.{Word, dotted}
use Rattle.source_laws.specs.TreeNames.{IsNamed}
use Rattle.text_model.specs.Identifiers.{is_full_name, is_identifier}
use Rattle.text_model.specs.Printed.{parts}
use Rattle.text_model.specs.Tree.{FullName}

-- ---- bytes

-- what is tried of the bytes below a bound holds of all bytes of a kind that lies below it
followed : (f g : ℕ → Bool) (n : ℕ) → agree_below (λ b. f b && not (g b)) (λ b. false) n ≡ true
    → (b : ℕ) → b < n → f b ≡ true → g b ≡ true
followed f g n tried b below h = by (g b) refl where
  by : (t : Bool) → g b ≡ t → t ≡ true
  by true e = refl
  by false e =
      let none = agree_below_at (λ b. f b && not (g b)) (λ b. false) n b tried below in
      let wrong : true ≡ false = sym (and_from (f b) (not (g b)) h (ap not e)) ∙ none in
      absurd cc

word_small : (b : ℕ) → is_in class.Word b ≡ true → b < 123
word_small b h = grind (arith, tests)

letter_small : (b : ℕ) → is_in class.Letter b ≡ true → b < 123
letter_small b h = grind (arith, tests)

letter_word : (b : ℕ) → is_in class.Letter b ≡ true → is_in class.Word b ≡ true
letter_word b h = followed (is_in class.Letter) (is_in class.Word) 123 refl b (letter_small b h) h

lower_letter : (b : ℕ) → is_in class.Letter b ≡ true
    → is_in class.Letter (to_ascii_lowercase b) ≡ true
lower_letter b h =
    followed (is_in class.Letter) (λ b. is_in class.Letter (to_ascii_lowercase b)) 123 refl b
    (letter_small b h) h

lower_word : (b : ℕ) → is_in class.Word b ≡ true → is_in class.Word (to_ascii_lowercase b) ≡ true
lower_word b h =
    followed (is_in class.Word) (λ b. is_in class.Word (to_ascii_lowercase b)) 123 refl b
    (word_small b h) h

pub not_dot : (b : ℕ) → is_in class.Word b ≡ true → (b == 46) ≡ false
not_dot b h = by (b == 46) refl where
  by : (t : Bool) → (b == 46) ≡ t → t ≡ false
  by false e = refl
  by true e =
      let wrong : false ≡ true = subst (λ n. is_in class.Word n ≡ true) (eqb-true b 46 e) h in
      absurd cc

-- ---- lower case

lower_words : (t : Text) → list_all (is_in class.Word) t ≡ true
    → list_all (is_in class.Word) (map to_ascii_lowercase t) ≡ true
lower_words [] h = refl
lower_words (b ∷ t) h =
    let both = and_parts (is_in class.Word b) (list_all (is_in class.Word) t) h in
    and_from _ _ (lower_word b both.0) (lower_words t both.1)

pub lower_identifier : (t : Text) → is_identifier t ≡ true
    → is_identifier (map to_ascii_lowercase t) ≡ true
lower_identifier [] h = h
lower_identifier (b ∷ t) h =
    let both = and_parts (is_in class.Letter b) (list_all (is_in class.Word) t) h in
    and_from _ _ (lower_letter b both.0) (lower_words t both.1)

-- ---- dots

pub identifier_words : (t : Text) → is_identifier t ≡ true → list_all (is_in class.Word) t ≡ true
identifier_words [] h = refl
identifier_words (b ∷ t) h =
    let both = and_parts (is_in class.Letter b) (list_all (is_in class.Word) t) h in
    and_from _ _ (letter_word b both.0) both.1

abbrev before : Text → FullName → FullName
before t n = record { first = t ++ n.first; others = n.others }

-- what has no dot lengthens the first part
parts_before : (t z : Text) → list_all (is_in class.Word) t ≡ true
    → parts (t ++ z) ≡ before t (parts z)
parts_before [] z h = refl
parts_before (b ∷ t) z h =
    let both = and_parts (is_in class.Word b) (list_all (is_in class.Word) t) h in
    let here = not_dot b both.0 in
    let behind = parts_before t z both.1 in
    λ i. cond (here i)
    (record { first = []; others = (parts (t ++ z)).first ∷ (parts (t ++ z)).others })
    (record { first = b ∷ (behind i).first; others = (behind i).others })

-- a text that begins with a dot or is empty, and has an identifier behind each dot
record IsTail (z : Text) : Type 0 where
  first : (parts z).first ≡ []
  others : list_all is_identifier (parts z).others ≡ true

joined_is : (t z : Text) → is_identifier t ≡ true → IsTail z → is_full_name (parts (t ++ z)) ≡ true
joined_is t z h tail =
    let same = parts_before t z (identifier_words t h) in
    let alone : t ++ (parts z).first ≡ t = ap (λ f. t ++ f) tail.first ∙ append-nil t in
    and_from _ _ (ap (λ (n : FullName). is_identifier n.first) same ∙ ap is_identifier alone ∙ h)
    (ap (λ (n : FullName). list_all is_identifier n.others) same ∙ tail.others)

tail_is : (ws : List Word) → Each IsNamed ws → IsTail (flat_map (λ w. 46 ∷ w.text) ws)
tail_is [] h = record { first = refl; others = refl }
tail_is (w ∷ ws) h = record {
  first = refl;
  others = joined_is w.text (flat_map (λ w. 46 ∷ w.text) ws) h.0 (tail_is ws h.1);
}

pub dotted_name : (ws : List Word) → IsSome_of IsNamed ws → is_full_name (parts (dotted ws)) ≡ true
dotted_name [] h = absurd h
dotted_name (w ∷ ws) h = joined_is w.text (flat_map (λ w. 46 ∷ w.text) ws) h.0 (tail_is ws h.1)

-- ---- what the types of maps' entries are called

upper_word : (b : ℕ) → is_in class.Word b ≡ true → is_in class.Word (to_ascii_uppercase b) ≡ true
upper_word b h =
    followed (is_in class.Word) (λ b. is_in class.Word (to_ascii_uppercase b)) 123 refl b
    (word_small b h) h

letter_is_word : (raise : Bool) (b : ℕ) → is_in class.Word b ≡ true
    → is_in class.Word (letter raise b) ≡ true
letter_is_word true b h = upper_word b h
letter_is_word false b h = h

camel_words : (raise : Bool) (t : Text) → list_all (is_in class.Word) t ≡ true
    → list_all (is_in class.Word) (camel raise t) ≡ true
camel_words raise [] h = refl
camel_words raise (b ∷ t) h =
    let both = and_parts (is_in class.Word b) (list_all (is_in class.Word) t) h in
    by (b == 95) refl both.0 (λ r. camel_words r t both.1) where
      by : (v : Bool) → (b == 95) ≡ v → is_in class.Word b ≡ true
          → ((r : Bool) → list_all (is_in class.Word) (camel r t) ≡ true)
          → list_all (is_in class.Word) (camel raise (b ∷ t)) ≡ true
      by true is here rest = rw is (rest true)
      by false is here rest = rw is (and_from _ _ (letter_is_word raise b here) (rest false))

encoded_words : (t : Text) → list_all (is_in class.Word) t ≡ true → encode_utf8_all t ≡ t
encoded_words [] h = refl
encoded_words (b ∷ t) h =
    let both = and_parts (is_in class.Word b) (list_all (is_in class.Word) t) h in
    let small = word_small b both.0 in
    ap (λ c. c ++ encode_utf8_all t) (encode_ascii b (omega (arith, small)))
    ∙ ap (λ c. b ∷ c) (encoded_words t both.1)

both_words : (s t : Text) → list_all (is_in class.Word) s ≡ true
    → list_all (is_in class.Word) t ≡ true → list_all (is_in class.Word) (s ++ t) ≡ true
both_words [] t h k = k
both_words (b ∷ s) t h k =
    let both = and_parts (is_in class.Word b) (list_all (is_in class.Word) s) h in
    and_from _ _ both.0 (both_words s t both.1 k)

pub entry_words : (t : Text) → is_identifier t ≡ true
    → list_all (is_in class.Word) (entry_name_of t) ≡ true
entry_words t h =
    let all = camel_words true t (identifier_words t h) in
    both_words (encode_utf8_all (camel true t)) (codes "Entry")
    (subst (λ c. list_all (is_in class.Word) c ≡ true) (sym (encoded_words (camel true t) all)) all)
    refl
