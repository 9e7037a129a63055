-- The tokens of a tree are read as it.
use Rattle.std.proofs.Common.{◌≡◌, ℕ, zero, suc, ◌+◌, ◌≤◌, Bool, true, false, cond, List, [], ◌∷◌, ◌++◌, map, length, refl, sym, ap, ◌∙◌, append_assoc, append-nil, arith}
use Rattle.std.specs.List.{flat_map}
use Rattle.protox_lex.specs.Class.{Text}
use Rattle.text_lex.specs.Token.{str, sign}
use Rattle.text_model.specs.Tree.{FullName, FieldName, plain, extension, expansion, integer, floating, identifier, ScalarValue, signed, strings, Brace, curly, angle, Separator, no_separator, comma, semicolon, Value, scalar, braced, Values, no_values, more_values, Given, one_scalar, one_message, listed, Fields, no_fields, more_fields}
use Rattle.text_model.specs.Tokens.{dotted, full_name_tokens, name_tokens, scalar_tokens, closing, separator_tokens, value_tokens, more_tokens, values_tokens, given_tokens, fields_tokens}
use Rattle.text_model.proofs.Front.{Stream, got, is_sign, is_string, begins_name, is_at, rest, text_at, with_text, others_front, with_first, full_front, in_expansion, in_brackets, name_front, strings_front, in_strings, scalar_front, opens, brace_at, in_braces, as_scalar, value_front, with_value, more_front, values_from, values_front, as_list, as_message, as_one, message_front, given_front, separator_front, with_fields, behind_separator, behind_given, behind_name, fields_front}

-- how deep the reading of a tree goes
abbrev name_size : FieldName → ℕ
name_size (plain w) = 0
name_size (extension n) = length n.others
name_size (expansion d n) = length d.others + length n.others

abbrev scalar_size : ScalarValue → ℕ
scalar_size (signed minus w) = 0
scalar_size (strings s ss) = length ss

abbrev mutual
  value_size : Value → ℕ
  value_size (scalar s) = scalar_size s
  value_size (braced b fs) = fields_size fs

  values_size : Values → ℕ
  values_size no_values = 0
  values_size (more_values v vs) = suc (value_size v + values_size vs)

  given_size : Given → ℕ
  given_size (one_scalar s) = scalar_size s
  given_size (one_message colon b fs) = fields_size fs
  given_size (listed vs) = values_size vs

  pub fields_size : Fields → ℕ
  fields_size no_fields = 0
  fields_size (more_fields n g s fs) = suc (name_size n + (given_size g + fields_size fs))

-- no field, no string and no separator begins there
pub record Ends (r : Stream) : Type 0 where
  pub name : is_at begins_name r ≡ false
  pub string : is_at is_string r ≡ false
  pub comma : is_at (is_sign 44) r ≡ false
  pub semicolon : is_at (is_sign 59) r ≡ false

others_back : (ws : List Text) (k : ℕ) (r : Stream) → length ws ≤ k → is_at (is_sign 46) r ≡ false → others_front k (flat_map dotted ws ++ r) ≡ got ws r
others_back [] zero r h e = refl
others_back [] (suc k) r h e = ap (λ b. cond b (with_text (text_at (rest r)) (others_front k (rest (rest r)))) (got [] r)) e
others_back (w ∷ ws) zero r h e = absurd (omega arith)
others_back (w ∷ ws) (suc k) r h e = ap (with_text w) (others_back ws k r (omega arith) e)

full_back : (n : FullName) (k : ℕ) (r : Stream) → length n.others ≤ k → is_at (is_sign 46) r ≡ false → full_front k (full_name_tokens n ++ r) ≡ got n r
full_back n k r h e = ap (with_first n.first) (others_back n.others k r h e)

name_back : (n : FieldName) (k : ℕ) (r : Stream) → name_size n ≤ k → name_front k (name_tokens n ++ r) ≡ got n r
name_back (plain w) k r h = refl
name_back (extension n) k r h =
    ap (λ ts. in_brackets k (full_front k ts)) (append_assoc (full_name_tokens n) (sign 93 ∷ []) r)
    ∙ ap (in_brackets k) (full_back n k (sign 93 ∷ r) h refl)
name_back (expansion d n) k r h =
    ap (λ ts. in_brackets k (full_front k ts)) (append_assoc (full_name_tokens d) (sign 47 ∷ (full_name_tokens n ++ sign 93 ∷ [])) r)
    ∙ ap (in_brackets k) (full_back d k (sign 47 ∷ ((full_name_tokens n ++ sign 93 ∷ []) ++ r)) (omega arith) refl)
    ∙ ap (λ ts. in_expansion d (full_front k ts)) (append_assoc (full_name_tokens n) (sign 93 ∷ []) r)
    ∙ ap (in_expansion d) (full_back n k (sign 93 ∷ r) (omega arith) refl)

name_begins : (n : FieldName) (r : Stream) → is_at begins_name (name_tokens n ++ r) ≡ true
name_begins (plain w) r = refl
name_begins (extension n) r = refl
name_begins (expansion d n) r = refl

strings_back : (ss : List Text) (k : ℕ) (r : Stream) → length ss ≤ k → is_at is_string r ≡ false → strings_front k (map str ss ++ r) ≡ got ss r
strings_back [] zero r h e = refl
strings_back [] (suc k) r h e = ap (λ b. cond b (with_text (text_at r) (strings_front k (rest r))) (got [] r)) e
strings_back (s ∷ ss) zero r h e = absurd (omega arith)
strings_back (s ∷ ss) (suc k) r h e = ap (with_text s) (strings_back ss k r (omega arith) e)

scalar_back : (s : ScalarValue) (k : ℕ) (r : Stream) → scalar_size s ≤ k → is_at is_string r ≡ false → scalar_front k (scalar_tokens s ++ r) ≡ got s r
scalar_back (signed true (integer b d)) k r h e = refl
scalar_back (signed true (floating s)) k r h e = refl
scalar_back (signed true (identifier w)) k r h e = refl
scalar_back (signed false (integer b d)) k r h e = refl
scalar_back (signed false (floating s)) k r h e = refl
scalar_back (signed false (identifier w)) k r h e = refl
scalar_back (strings s ss) k r h e = ap (in_strings s) (strings_back ss k r h e)

-- a scalar begins with no bracket and no brace
scalar_apart : (s : ScalarValue) (r : Stream) → (is_at (is_sign 91) (scalar_tokens s ++ r) ≡ false) × (is_at opens (scalar_tokens s ++ r) ≡ false) × (is_at (is_sign 93) (scalar_tokens s ++ r) ≡ false)
scalar_apart (signed true w) r = (refl, refl, refl)
scalar_apart (signed false (integer b d)) r = (refl, refl, refl)
scalar_apart (signed false (floating s)) r = (refl, refl, refl)
scalar_apart (signed false (identifier w)) r = (refl, refl, refl)
scalar_apart (strings s ss) r = (refl, refl, refl)

value_apart : (v : Value) (r : Stream) → is_at (is_sign 93) (value_tokens v ++ r) ≡ false
value_apart (scalar s) r = (scalar_apart s r).2
value_apart (braced curly fs) r = refl
value_apart (braced angle fs) r = refl

-- behind a value of a list there is no string
more_apart : (vs : Values) (r : Stream) → is_at is_string (more_tokens vs ++ (sign 93 ∷ r)) ≡ false
more_apart no_values r = refl
more_apart (more_values v vs) r = refl

separator_back : (s : Separator) (r : Stream) → is_at (is_sign 44) r ≡ false → is_at (is_sign 59) r ≡ false → separator_front (separator_tokens s ++ r) ≡ got s r
separator_back no_separator r a b =
    ap (λ t. cond t (got comma (rest r)) (cond (is_at (is_sign 59) r) (got semicolon (rest r)) (got no_separator r))) a
    ∙ ap (λ t. cond t (got semicolon (rest r)) (got no_separator r)) b
separator_back comma r a b = refl
separator_back semicolon r a b = refl

-- fields, and what ends them
fields_apart : (fs : Fields) (r : Stream) → Ends r → (is_at is_string (fields_tokens fs ++ r) ≡ false) × (is_at (is_sign 44) (fields_tokens fs ++ r) ≡ false) × (is_at (is_sign 59) (fields_tokens fs ++ r) ≡ false)
fields_apart no_fields r e = (e.string, e.comma, e.semicolon)
fields_apart (more_fields (plain w) g s fs) r e = (refl, refl, refl)
fields_apart (more_fields (extension n) g s fs) r e = (refl, refl, refl)
fields_apart (more_fields (expansion d n) g s fs) r e = (refl, refl, refl)

separator_apart : (s : Separator) (r : Stream) → is_at is_string r ≡ false → is_at is_string (separator_tokens s ++ r) ≡ false
separator_apart no_separator r e = e
separator_apart comma r e = refl
separator_apart semicolon r e = refl

closing_ends : (b : Brace) (r : Stream) → Ends (closing b ∷ r)
closing_ends curly r = record { name = refl; string = refl; comma = refl; semicolon = refl }
closing_ends angle r = record { name = refl; string = refl; comma = refl; semicolon = refl }

pub nothing_ends : Ends []
nothing_ends = record { name = refl; string = refl; comma = refl; semicolon = refl }

pub grouped : (a b c d r : Stream) → (a ++ (b ++ (c ++ d))) ++ r ≡ a ++ (b ++ (c ++ (d ++ r)))
grouped a b c d r = simp append_assoc

message_from : (colon : Bool) (b : Brace) (fs : Fields) (k : ℕ) (r : Stream) → fields_front k (fields_tokens fs ++ (closing b ∷ r)) ≡ got fs (closing b ∷ r)
    → as_message colon b (fields_front k ((fields_tokens fs ++ closing b ∷ []) ++ r)) ≡ got (one_message colon b fs) r
message_from colon b fs k r e = ap (λ ts. as_message colon b (fields_front k ts)) (append_assoc (fields_tokens fs) (closing b ∷ []) r) ∙ ap (as_message colon b) e

mutual
  value_back : (v : Value) (k : ℕ) (r : Stream) → value_size v ≤ k → is_at is_string r ≡ false → value_front (fields_front k) k (value_tokens v ++ r) ≡ got v r
  value_back (scalar s) k r h e =
      ap (λ t. cond t (in_braces (brace_at (scalar_tokens s ++ r)) (fields_front k (rest (scalar_tokens s ++ r)))) (as_scalar (scalar_front k (scalar_tokens s ++ r)))) (scalar_apart s r).1
      ∙ ap as_scalar (scalar_back s k r h e)
  value_back (braced curly fs) k r h e =
      ap (λ ts. in_braces curly (fields_front k ts)) (append_assoc (fields_tokens fs) (closing curly ∷ []) r)
      ∙ ap (in_braces curly) (fields_back fs k (closing curly ∷ r) h (closing_ends curly r))
  value_back (braced angle fs) k r h e =
      ap (λ ts. in_braces angle (fields_front k ts)) (append_assoc (fields_tokens fs) (closing angle ∷ []) r)
      ∙ ap (in_braces angle) (fields_back fs k (closing angle ∷ r) h (closing_ends angle r))

  more_back : (vs : Values) (k j : ℕ) (r : Stream) → values_size vs ≤ k → values_size vs ≤ j → more_front (fields_front k) k j (more_tokens vs ++ (sign 93 ∷ r)) ≡ got vs (sign 93 ∷ r)
  more_back no_values k zero r h g = refl
  more_back no_values k (suc j) r h g = refl
  more_back (more_values v vs) k zero r h g = absurd (omega arith)
  more_back (more_values v vs) k (suc j) r h g =
      ap (λ ts. with_value (value_front (fields_front k) k ts).0 (more_front (fields_front k) k j (value_front (fields_front k) k ts).1)) (append_assoc (value_tokens v) (more_tokens vs) (sign 93 ∷ r))
      ∙ ap (λ (p : Value × Stream). with_value p.0 (more_front (fields_front k) k j p.1)) (value_back v k (more_tokens vs ++ (sign 93 ∷ r)) (omega arith) (more_apart vs r))
      ∙ ap (with_value v) (more_back vs k j r (omega arith) (omega arith))

  values_back : (vs : Values) (k : ℕ) (r : Stream) → values_size vs ≤ k → values_front (fields_front k) k (values_tokens vs ++ (sign 93 ∷ r)) ≡ got vs (sign 93 ∷ r)
  values_back no_values k r h = refl
  values_back (more_values v vs) k r h =
      ap (values_front (fields_front k) k) (append_assoc (value_tokens v) (more_tokens vs) (sign 93 ∷ r))
      ∙ ap (λ t. cond t (got no_values (value_tokens v ++ (more_tokens vs ++ (sign 93 ∷ r)))) (values_from (fields_front k) k (value_front (fields_front k) k (value_tokens v ++ (more_tokens vs ++ (sign 93 ∷ r))))))
      (value_apart v (more_tokens vs ++ (sign 93 ∷ r)))
      ∙ ap (values_from (fields_front k) k) (value_back v k (more_tokens vs ++ (sign 93 ∷ r)) (omega arith) (more_apart vs r))
      ∙ ap (with_value v) (more_back vs k k r (omega arith) (omega arith))

  given_back : (g : Given) (k : ℕ) (r : Stream) → given_size g ≤ k → is_at is_string r ≡ false → given_front (fields_front k) k (given_tokens g ++ r) ≡ got g r
  given_back (one_scalar s) k r h e =
      let ts = scalar_tokens s ++ r in
      ap (λ t. cond t (as_list (values_front (fields_front k) k (rest ts))) (cond (is_at opens ts) (message_front (fields_front k) true ts) (as_one (scalar_front k ts)))) (scalar_apart s r).0
      ∙ ap (λ t. cond t (message_front (fields_front k) true ts) (as_one (scalar_front k ts))) (scalar_apart s r).1
      ∙ ap as_one (scalar_back s k r h e)
  given_back (one_message true curly fs) k r h e = message_from true curly fs k r (fields_back fs k (closing curly ∷ r) h (closing_ends curly r))
  given_back (one_message true angle fs) k r h e = message_from true angle fs k r (fields_back fs k (closing angle ∷ r) h (closing_ends angle r))
  given_back (one_message false curly fs) k r h e = message_from false curly fs k r (fields_back fs k (closing curly ∷ r) h (closing_ends curly r))
  given_back (one_message false angle fs) k r h e = message_from false angle fs k r (fields_back fs k (closing angle ∷ r) h (closing_ends angle r))
  given_back (listed vs) k r h e =
      ap (λ ts. as_list (values_front (fields_front k) k ts)) (append_assoc (values_tokens vs) (sign 93 ∷ []) r)
      ∙ ap as_list (values_back vs k r h)

  pub fields_back : (fs : Fields) (k : ℕ) (r : Stream) → fields_size fs ≤ k → Ends r → fields_front k (fields_tokens fs ++ r) ≡ got fs r
  fields_back no_fields zero r h e = refl
  fields_back no_fields (suc k) r h e = ap (λ t. cond t (behind_name (fields_front k) k (name_front k r)) (got no_fields r)) e.name
  fields_back (more_fields n g s fs) zero r h e = absurd (omega arith)
  fields_back (more_fields n g s fs) (suc k) r h e =
      let last = fields_tokens fs ++ r in
      let behind = given_tokens g ++ (separator_tokens s ++ last) in
      let apart = fields_apart fs r e in
      ap (fields_front (suc k)) (grouped (name_tokens n) (given_tokens g) (separator_tokens s) (fields_tokens fs) r)
      ∙ ap (λ t. cond t (behind_name (fields_front k) k (name_front k (name_tokens n ++ behind))) (got no_fields (name_tokens n ++ behind))) (name_begins n behind)
      ∙ ap (behind_name (fields_front k) k) (name_back n k behind (omega arith))
      ∙ ap (behind_given (fields_front k) n) (given_back g k (separator_tokens s ++ last) (omega arith) (separator_apart s last apart.0))
      ∙ ap (behind_separator (fields_front k) n g) (separator_back s last apart.1 apart.2)
      ∙ ap (with_fields n g s) (fields_back fs k r (omega arith) e)

-- tokens are those of one tree at most
pub one_tree : (a b : Fields) → fields_tokens a ≡ fields_tokens b → a ≡ b
one_tree a b e =
    let k = fields_size a + fields_size b in
    let back : (fs : Fields) → fields_size fs ≤ k → fs ≡ (fields_front k (fields_tokens fs)).0 =
    λ fs h. sym (ap (λ ts. (fields_front k ts).0) (sym (append-nil (fields_tokens fs))) ∙ ap (λ (p : Fields × Stream). p.0) (fields_back fs k [] h nothing_ends)) in
    back a (omega arith) ∙ ap (λ ts. (fields_front k ts).0) e ∙ sym (back b (omega arith))
