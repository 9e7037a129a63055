-- The tokens of a tree are read as it.
use Rattle.std.proofs.Common.{◌≡◌, ℕ, zero, suc, ◌≤◌, Bool, true, false, cond, option_map, List, [], ◌∷◌, ◌++◌, Option, Some, None, refl, sym, ap, subst, ◌∙◌, append_assoc, append-nil, arith}
use Rattle.std.proofs.Math.Nat.{le-max_left, le-max_right}
use Rattle.protox_lex.specs.declared.span.Span.{Span}
use Rattle.text_lex.specs.Token.{Token, ident, sign, Lexeme, token_at}
use Rattle.text_model.specs.Tree.{FieldName, plain, extension, expansion, ScalarValue, signed, strings, Brace, curly, angle, Separator, no_separator, comma, semicolon, Value, scalar, braced, Values, no_values, more_values, Given, one_scalar, one_message, listed, Fields, no_fields, more_fields}
use Rattle.text_model.specs.Texts.{AreTokens}
use Rattle.text_model.specs.Tokens.{full_name_tokens, name_tokens, scalar_tokens, opening, closing, separator_tokens, value_tokens, more_tokens, values_tokens, given_tokens, fields_tokens, value_braces, values_braces, given_braces, open_braces}
use Rattle.text_scalars.specs.declared.tokens.Brace as code
use Rattle.text_scalars.specs.declared.tokens.Brace.TheVariants as braces
use Rattle.text_scalars.specs.Braces.{opening_brace}
use Rattle.text_scalars.specs.Front.{fault_at, from_to, is_sign, literal_in, next, sees, sign_bytes}
use Rattle.text_scalars.specs.Names.{separator_at}
use Rattle.text_scalars.specs.Scalars.{Found}
use Rattle.text_scalars.specs.Spelled.{Follows, start_of}
use Rattle.text_scalars.proofs.Finding.{scalars}
use Rattle.text_scalars.proofs.Named.{names}
use Rattle.text_syntax.specs.Syntax.{Read, then, untold, Inner, OneField, alone, scalar_of, value_by, value_at, values_by, more_by, more_at, list_by, list_at, given_by, given_at, end_by, end_at, field_at, fields_by, fields_at, at_sign, at_end, message_at, text_at}
use Rattle.text_syntax.proofs.Fronts.{Front, parted, begun, last_end, to_begin, all_tokens, scalar_starts}
use Rattle.text_syntax.proofs.Unfolding.{more_is, fields_is, message_shorter}

-- ---- what stands behind

-- no literal and no fault
pub record Quiet (ls : List Lexeme) : Type 0 where
  pub literal : next literal_in ls ≡ None
  pub good : fault_at ls ≡ None

-- no sign that may end a field either
pub record Ended (ls : List Lexeme) : Type 0 where
  pub quiet : Quiet ls
  pub no_comma : sign_bytes 44 ls ≡ None
  pub no_semicolon : sign_bytes 59 ls ≡ None

no_sign : (k a b : ℕ) (t : Token) (ls : List Lexeme) → is_sign k t ≡ false → sign_bytes k (token_at a b t ∷ ls) ≡ None
no_sign k a b t ls e = ap (λ v. cond v (Some (from_to a b)) None) e

quiet_sign : (k : ℕ) (ts : List Token) (ls rest : List Lexeme) → Front (sign k ∷ ts) ls rest → Quiet ls
quiet_sign k ts ls rest h =
    let b = begun (sign k) ts ls rest h in subst Quiet (sym b.is) (record { literal = refl; good = refl })

ended_sign : (k : ℕ) (ts : List Token) (ls rest : List Lexeme) → is_sign 44 (sign k) ≡ false → is_sign 59 (sign k) ≡ false
    → Front (sign k ∷ ts) ls rest → Ended ls
ended_sign k ts ls rest e f h =
    let b = begun (sign k) ts ls rest h in
    subst Ended (sym b.is) (record {
      quiet = record { literal = refl; good = refl };
      no_comma = no_sign 44 b.start b.end (sign k) b.mid e;
      no_semicolon = no_sign 59 b.start b.end (sign k) b.mid f;
    })

-- a name begins with a word or a bracket
name_begins : (P : List Lexeme → Type 0) → ((a b : ℕ) (w : List ℕ) (ls : List Lexeme) → P (token_at a b (ident w) ∷ ls))
    → ((a b : ℕ) (ls : List Lexeme) → P (token_at a b (sign 91) ∷ ls))
    → (n : FieldName) (us : List Token) (ls rest : List Lexeme) → Front (name_tokens n ++ us) ls rest → P ls
name_begins P word bracket (plain w) us ls rest h =
    let b = begun (ident w) us ls rest h in subst P (sym b.is) (word b.start b.end w b.mid)
name_begins P word bracket (extension n) us ls rest h =
    let b = begun (sign 91) ((full_name_tokens n ++ sign 93 ∷ []) ++ us) ls rest h in subst P (sym b.is) (bracket b.start b.end b.mid)
name_begins P word bracket (expansion d n) us ls rest h =
    let b = begun (sign 91) ((full_name_tokens d ++ sign 47 ∷ (full_name_tokens n ++ sign 93 ∷ [])) ++ us) ls rest h in
    subst P (sym b.is) (bracket b.start b.end b.mid)

ended_fields : (fs : Fields) (ls mid : List Lexeme) → Front (fields_tokens fs) ls mid → Ended mid → Ended ls
ended_fields no_fields ls mid h e = subst Ended h e
ended_fields (more_fields n g s fs) ls mid h e =
    name_begins Ended (λ a b w ls. record { quiet = record { literal = refl; good = refl }; no_comma = refl; no_semicolon = refl })
    (λ a b ls. record { quiet = record { literal = refl; good = refl }; no_comma = refl; no_semicolon = refl })
    n (given_tokens g ++ (separator_tokens s ++ fields_tokens fs)) ls mid h

quiet_separator : (s : Separator) (ls mid : List Lexeme) → Front (separator_tokens s) ls mid → Ended mid → Quiet ls
quiet_separator no_separator ls mid h e = subst Quiet h e.quiet
quiet_separator comma ls mid h e = quiet_sign 44 [] ls mid h
quiet_separator semicolon ls mid h e = quiet_sign 59 [] ls mid h

quiet_more : (vs : Values) (ls rest : List Lexeme) → Front (more_tokens vs ++ sign 93 ∷ []) ls rest → Quiet ls
quiet_more no_values ls rest h = quiet_sign 93 [] ls rest h
quiet_more (more_values v vs) ls rest h = quiet_sign 44 ((value_tokens v ++ more_tokens vs) ++ sign 93 ∷ []) ls rest h

end_found : (s : Separator) (ls mid : List Lexeme) → Front (separator_tokens s) ls mid → Ended mid → end_at ls ≡ (s, mid)
end_found no_separator ls mid h e =
    subst (λ l. end_at l ≡ (no_separator, mid)) h
    (ap (λ o. end_by mid o (sign_bytes 59 mid)) e.no_comma ∙ ap (λ o. end_by mid None o) e.no_semicolon)
end_found comma ls mid h e =
    let b = begun (sign 44) [] ls mid h in
    subst (λ l. end_at l ≡ (comma, mid)) (sym b.is) (ap (λ r. let it : Separator × List Lexeme = (comma, r) in it) (sym b.others))
end_found semicolon ls mid h e =
    let b = begun (sign 59) [] ls mid h in
    subst (λ l. end_at l ≡ (semicolon, mid)) (sym b.is) (ap (λ r. let it : Separator × List Lexeme = (semicolon, r) in it) (sym b.others))

-- ---- how values begin

record NoBracket (ls : List Lexeme) : Type 0 where
  no_open : sign_bytes 91 ls ≡ None
  no_close : sign_bytes 93 ls ≡ None

no_bracket : (a b : ℕ) (t : Token) (ls : List Lexeme) → is_sign 91 t ≡ false → is_sign 93 t ≡ false → NoBracket (token_at a b t ∷ ls)
no_bracket a b t ls e f = record { no_open = no_sign 91 a b t ls e; no_close = no_sign 93 a b t ls f }

value_begins : (v : Value) (us : List Token) (ls rest : List Lexeme) → Front (value_tokens v ++ us) ls rest → NoBracket ls
value_begins (scalar s) us ls rest h =
    let t = scalar_starts s in
    let b = begun t.first (t.others ++ us) ls rest (subst (λ ts. Front (ts ++ us) ls rest) t.are h) in
    subst NoBracket (sym b.is) (no_bracket b.start b.end t.first b.mid t.no_open t.no_close)
value_begins (braced curly fs) us ls rest h =
    let b = begun (sign 123) ((fields_tokens fs ++ sign 125 ∷ []) ++ us) ls rest h in
    subst NoBracket (sym b.is) (record { no_open = refl; no_close = refl })
value_begins (braced angle fs) us ls rest h =
    let b = begun (sign 60) ((fields_tokens fs ++ sign 62 ∷ []) ++ us) ls rest h in
    subst NoBracket (sym b.is) (record { no_open = refl; no_close = refl })

value_alone : (v : Value) (ls rest : List Lexeme) → Front (value_tokens v) ls rest → NoBracket ls
value_alone v ls rest h = value_begins v [] ls rest (subst (λ ts. Front ts ls rest) (sym (append-nil (value_tokens v))) h)

abbrev sign_if : Bool → ℕ → ℕ → Option Span
sign_if v a b = cond v (Some (from_to a b)) None

no_brace : (a b : ℕ) (t : Token) (ls : List Lexeme) → is_sign 123 t ≡ false → is_sign 60 t ≡ false → opening_brace (token_at a b t ∷ ls) ≡ None
no_brace a b t ls e f =
    ap (λ v. elim (sign_if v a b) [
      | Some s ↦ Some (s, braces.Curly)
      | None ↦ elim (sign_bytes 60 (token_at a b t ∷ ls)) [ Some s ↦ Some (s, braces.Angle) | None ↦ None ]
    ]) e
    ∙ ap (λ v. elim (sign_if v a b) [ Some s ↦ Some (s, braces.Angle) | None ↦ None ]) f

scalar_found : (inner : Inner) (s : ScalarValue) (ls rest : List Lexeme) → Front (scalar_tokens s) ls rest → Quiet rest
    → value_at inner ls ≡ Some (scalar s, rest)
scalar_found inner s ls rest h q =
    let t = scalar_starts s in
    let b = begun t.first t.others ls rest (subst (λ ts. Front ts ls rest) t.are h) in
    let f : Found = record { value = s; span = from_to (start_of ls) (last_end (scalar_tokens s) 0 ls); rest = rest } in
    ap (λ o. value_by inner ls o) (subst (λ l. opening_brace l ≡ None) (sym b.is) (no_brace b.start b.end t.first b.mid t.no_curly t.no_angle))
    ∙ ap scalar_of ((scalars ls f).1 (record { begin = to_begin (scalar_tokens s) 0 ls rest h; start = refl; follows = follows s })) where
      follows : (s : ScalarValue) → Follows s rest
      follows (signed minus w) = tt
      follows (strings x xs) = (q.literal, q.good)

-- ---- messages, from how their fields are read

-- these ends do not stand where a name begins
pub record Apart (ends : List Lexeme → Option (List Lexeme)) : Type 0 where
  pub word : (a b : ℕ) (w : List ℕ) (ls : List Lexeme) → ends (token_at a b (ident w) ∷ ls) ≡ None
  pub bracket : (a b : ℕ) (ls : List Lexeme) → ends (token_at a b (sign 91) ∷ ls) ≡ None

abbrev AreFound : Fields → Type 0
AreFound fs =
    (n : ℕ) (ends : List Lexeme → Option (List Lexeme)) → Apart ends → (ls mid rest : List Lexeme)
    → Front (fields_tokens fs) ls mid → ends mid ≡ Some rest → Ended mid → open_braces fs ≤ n
    → fields_at ends (message_at n) ls ≡ Some (fs, rest)

sign_at : (k : ℕ) (ls rest : List Lexeme) → is_sign k (sign k) ≡ true → Front (sign k ∷ []) ls rest → at_sign k ls ≡ Some rest
sign_at k ls rest e h =
    let b = begun (sign k) [] ls rest h in
    subst (λ l. at_sign k l ≡ Some rest) (sym b.is)
    (ap (λ v. option_map (λ s. b.mid) (sign_if v b.start b.end)) e ∙ ap (λ r. Some r) (sym b.others))

message_found : (n : ℕ) (b : Brace) (fs : Fields) (ls rest : List Lexeme) → Front (value_tokens (braced b fs)) ls rest
    → suc (open_braces fs) ≤ n → AreFound fs → message_at n ls ≡ Some ((b, fs), rest)
unfolding message_at
message_found zero b fs ls rest h le found = absurd (omega (arith, le))
message_found (suc n) curly fs ls rest h le found =
    let s = begun (sign 123) (fields_tokens fs ++ sign 125 ∷ []) ls rest h in
    let p = parted (fields_tokens fs) (sign 125 ∷ []) s.mid rest s.others in
    subst (λ l. message_at (suc n) l ≡ Some ((curly, fs), rest)) (sym s.is)
    (ap (λ r. then r (λ fs rest. Some ((curly, fs), rest)))
    (found n (at_sign 125) (record { word = λ a b w ls. refl; bracket = λ a b ls. refl }) s.mid p.mid rest p.first
    (sign_at 125 p.mid rest refl p.second) (ended_sign 125 [] p.mid rest refl refl p.second) (omega (arith, le))))
message_found (suc n) angle fs ls rest h le found =
    let s = begun (sign 60) (fields_tokens fs ++ sign 62 ∷ []) ls rest h in
    let p = parted (fields_tokens fs) (sign 62 ∷ []) s.mid rest s.others in
    subst (λ l. message_at (suc n) l ≡ Some ((angle, fs), rest)) (sym s.is)
    (ap (λ r. then r (λ fs rest. Some ((angle, fs), rest)))
    (found n (at_sign 62) (record { word = λ a b w ls. refl; bracket = λ a b ls. refl }) s.mid p.mid rest p.first
    (sign_at 62 p.mid rest refl p.second) (ended_sign 62 [] p.mid rest refl refl p.second) (omega (arith, le))))

brace_opens : (b : Brace) (x y : ℕ) (ls : List Lexeme)
    → (s : code.Brace) × (opening_brace (token_at x y (opening b) ∷ ls) ≡ Some (from_to x y, s))
brace_opens curly x y ls = (braces.Curly, refl)
brace_opens angle x y ls = (braces.Angle, refl)

braced_found : (inner : Inner) (b : Brace) (fs : Fields) (ls rest : List Lexeme) → Front (value_tokens (braced b fs)) ls rest
    → inner ls ≡ Some ((b, fs), rest) → value_at inner ls ≡ Some (braced b fs, rest)
braced_found inner b fs ls rest h e =
    let s = begun (opening b) (fields_tokens fs ++ closing b ∷ []) ls rest h in
    let o = brace_opens b s.start s.end s.mid in
    ap (λ o. value_by inner ls o) (subst (λ l. opening_brace l ≡ Some (from_to s.start s.end, o.0)) (sym s.is) o.1)
    ∙ ap (λ r. then r (λ m rest. Some (braced m.0 m.1, rest))) e

-- ---- lists, from how their values are read

values_found : (inner : Inner) (more : List Lexeme → Read Values) (ls : List Lexeme) (v : Value) (mid : List Lexeme) (vs : Values) (rest : List Lexeme)
    → value_at inner ls ≡ Some (v, mid) → more mid ≡ Some (vs, rest) → values_by inner more ls ≡ Some (more_values v vs, rest)
values_found inner more ls v mid vs rest e f =
    ap (λ r. then r (λ v rest. then (more rest) (λ vs last. Some (more_values v vs, last)))) e
    ∙ ap (λ r. then r (λ vs last. Some (more_values v vs, last))) f

record PartedValues (v : Value) (vs : Values) (ls rest : List Lexeme) : Type 0 where
  mid : List Lexeme
  first : Front (value_tokens v) ls mid
  second : Front (more_tokens vs ++ sign 93 ∷ []) mid rest
  bracket : NoBracket ls

parted_values : (v : Value) (vs : Values) (ls rest : List Lexeme) → Front (values_tokens (more_values v vs) ++ sign 93 ∷ []) ls rest
    → PartedValues v vs ls rest
parted_values v vs ls rest h =
    let k = subst (λ ts. Front ts ls rest) (append_assoc (value_tokens v) (more_tokens vs) (sign 93 ∷ [])) h in
    let p = parted (value_tokens v) (more_tokens vs ++ sign 93 ∷ []) ls rest k in
    record {
      mid = p.mid;
      first = p.first;
      second = p.second;
      bracket = value_begins v (more_tokens vs ++ sign 93 ∷ []) ls rest k;
    }

-- ---- what is given, from how it is read behind a colon

abbrev given_next : Inner → List Lexeme → (Given → List Lexeme → Read OneField) → Read OneField
given_next inner ls f = then (untold (separator_at ls)) (λ colon parted. then (given_at inner (sees 58 ls) parted) f)

alone_found : (inner : Inner) (colon : Bool) (ls : List Lexeme) (v : Value) (rest : List Lexeme) → NoBracket ls
    → value_at inner ls ≡ Some (v, rest) → given_at inner colon ls ≡ Some (alone colon v, rest)
alone_found inner colon ls v rest none e =
    ap (λ o. given_by inner colon ls o) none.no_open ∙ ap (λ r. then r (λ v rest. Some (alone colon v, rest))) e

behind_colon : (inner : Inner) (ts : List Token) (ls : List Lexeme) (g : Given) (rest : List Lexeme) (f : Given → List Lexeme → Read OneField)
    → Front (sign 58 ∷ ts) ls rest → ((mid : List Lexeme) → Front ts mid rest → given_at inner true mid ≡ Some (g, rest))
    → given_next inner ls f ≡ f g rest
behind_colon inner ts ls g rest f h e =
    let b = begun (sign 58) ts ls rest h in
    subst (λ l. given_next inner l f ≡ f g rest) (sym b.is) (ap (λ r. then r f) (e b.mid b.others))

at_brace : (inner : Inner) (b : Brace) (ts : List Token) (ls : List Lexeme) (g : Given) (rest : List Lexeme) (f : Given → List Lexeme → Read OneField)
    → Front (opening b ∷ ts) ls rest → given_at inner false ls ≡ Some (g, rest) → given_next inner ls f ≡ f g rest
at_brace inner curly ts ls g rest f h e =
    let b = begun (sign 123) ts ls rest h in
    subst (λ l. given_at inner false l ≡ Some (g, rest) → given_next inner l f ≡ f g rest) (sym b.is) (λ e. ap (λ r. then r f) e) e
at_brace inner angle ts ls g rest f h e =
    let b = begun (sign 60) ts ls rest h in
    subst (λ l. given_at inner false l ≡ Some (g, rest) → given_next inner l f ≡ f g rest) (sym b.is) (λ e. ap (λ r. then r f) e) e

listed_found : (inner : Inner) (vs : Values) (ls rest : List Lexeme) → Front (sign 91 ∷ (values_tokens vs ++ sign 93 ∷ [])) ls rest
    → ((mid : List Lexeme) → Front (values_tokens vs ++ sign 93 ∷ []) mid rest → list_at inner mid ≡ Some (vs, rest))
    → given_at inner true ls ≡ Some (listed vs, rest)
listed_found inner vs ls rest h e =
    let b = begun (sign 91) (values_tokens vs ++ sign 93 ∷ []) ls rest h in
    subst (λ l. given_at inner true l ≡ Some (listed vs, rest)) (sym b.is)
    (ap (λ r. then r (λ vs rest. Some (listed vs, rest))) (e b.mid b.others))

field_found : (inner : Inner) (n : FieldName) (g : Given) (s : Separator) (ls named given rest : List Lexeme) → Front (name_tokens n) ls named
    → ((f : Given → List Lexeme → Read OneField) → given_next inner named f ≡ f g given) → end_at given ≡ (s, rest)
    → field_at inner ls ≡ Some (record { name = n; given = g; separator = s }, rest)
field_found inner n g s ls named given rest h e f =
    let span = from_to (start_of ls) (last_end (name_tokens n) 0 ls) in
    ap (λ r. then (untold r) named_field) ((names ls n span named).1 (record { begin = to_begin (name_tokens n) 0 ls named h; start = refl }))
    ∙ e (given_field (n, span))
    ∙ ap (λ p. let it : Read OneField = Some (record { name = n; given = g; separator = p.0 }, p.1) in it) f where
      given_field : FieldName × Span → Given → List Lexeme → Read OneField
      given_field name given rest = Some (record { name = name.0; given = given; separator = (end_at rest).0 }, (end_at rest).1)

      named_field : FieldName × Span → List Lexeme → Read OneField
      named_field name named = then (untold (separator_at named)) (λ colon parted. then (given_at inner (sees 58 named) parted) (given_field name))

-- ---- the tree

mutual
  value_found : (v : Value) (n : ℕ) (ls rest : List Lexeme) → Front (value_tokens v) ls rest → value_braces v ≤ n → Quiet rest
      → value_at (message_at n) ls ≡ Some (v, rest)
  value_found (scalar s) n ls rest h le q = scalar_found (message_at n) s ls rest h q
  value_found (braced b fs) n ls rest h le q =
      braced_found (message_at n) b fs ls rest h (message_found n b fs ls rest h le (fields_found fs))

  more_found : (vs : Values) (n : ℕ) (ls rest : List Lexeme) → Front (more_tokens vs ++ sign 93 ∷ []) ls rest → values_braces vs ≤ n
      → more_at (message_at n) ls ≡ Some (vs, rest)
  more_found no_values n ls rest h le =
      let b = begun (sign 93) [] ls rest h in
      more_is (message_at n) (message_shorter n) ls
      ∙ subst (λ l. more_by (message_at n) (more_at (message_at n)) l (sign_bytes 93 l) (sign_bytes 44 l) ≡ Some (no_values, rest)) (sym b.is)
      (ap (λ r. let it : Read Values = Some (no_values, r) in it) (sym b.others))
  more_found (more_values v vs) n ls rest h le =
      let b = begun (sign 44) (values_tokens (more_values v vs) ++ sign 93 ∷ []) ls rest h in
      let p = parted_values v vs b.mid rest b.others in
      more_is (message_at n) (message_shorter n) ls
      ∙ subst (λ l. more_by (message_at n) (more_at (message_at n)) l (sign_bytes 93 l) (sign_bytes 44 l) ≡ Some (more_values v vs, rest)) (sym b.is)
      (values_found (message_at n) (more_at (message_at n)) b.mid v p.mid vs rest
      (value_found v n b.mid p.mid p.first (omega (arith, le, le-max_left (value_braces v) (values_braces vs))) (quiet_more vs p.mid rest p.second))
      (more_found vs n p.mid rest p.second (omega (arith, le, le-max_right (value_braces v) (values_braces vs)))))

  list_found : (vs : Values) (n : ℕ) (ls rest : List Lexeme) → Front (values_tokens vs ++ sign 93 ∷ []) ls rest → values_braces vs ≤ n
      → list_at (message_at n) ls ≡ Some (vs, rest)
  list_found no_values n ls rest h le =
      let b = begun (sign 93) [] ls rest h in
      subst (λ l. list_at (message_at n) l ≡ Some (no_values, rest)) (sym b.is)
      (ap (λ r. let it : Read Values = Some (no_values, r) in it) (sym b.others))
  list_found (more_values v vs) n ls rest h le =
      let p = parted_values v vs ls rest h in
      ap (λ o. list_by (message_at n) ls o) p.bracket.no_close
      ∙ values_found (message_at n) (more_at (message_at n)) ls v p.mid vs rest
      (value_found v n ls p.mid p.first (omega (arith, le, le-max_left (value_braces v) (values_braces vs))) (quiet_more vs p.mid rest p.second))
      (more_found vs n p.mid rest p.second (omega (arith, le, le-max_right (value_braces v) (values_braces vs))))

  given_found : (g : Given) (n : ℕ) (ls rest : List Lexeme) → Front (given_tokens g) ls rest → given_braces g ≤ n → Quiet rest
      → (f : Given → List Lexeme → Read OneField) → given_next (message_at n) ls f ≡ f g rest
  given_found (one_scalar s) n ls rest h le q f =
      behind_colon (message_at n) (scalar_tokens s) ls (one_scalar s) rest f h
      (λ mid k. alone_found (message_at n) true mid (scalar s) rest (value_alone (scalar s) mid rest k) (scalar_found (message_at n) s mid rest k q))
  given_found (one_message true b fs) n ls rest h le q f =
      behind_colon (message_at n) (value_tokens (braced b fs)) ls (one_message true b fs) rest f h
      (λ mid k. alone_found (message_at n) true mid (braced b fs) rest (value_alone (braced b fs) mid rest k)
      (braced_found (message_at n) b fs mid rest k (message_found n b fs mid rest k le (fields_found fs))))
  given_found (one_message false b fs) n ls rest h le q f =
      at_brace (message_at n) b (fields_tokens fs ++ closing b ∷ []) ls (one_message false b fs) rest f h
      (alone_found (message_at n) false ls (braced b fs) rest (value_alone (braced b fs) ls rest h)
      (braced_found (message_at n) b fs ls rest h (message_found n b fs ls rest h le (fields_found fs))))
  given_found (listed vs) n ls rest h le q f =
      behind_colon (message_at n) (sign 91 ∷ (values_tokens vs ++ sign 93 ∷ [])) ls (listed vs) rest f h
      (λ mid k. listed_found (message_at n) vs mid rest k (λ last l. list_found vs n last rest l le))

  fields_found : (fs : Fields) → AreFound fs
  fields_found no_fields n ends apart ls mid rest h e ended le =
      fields_is (message_at n) (message_shorter n) ends ls
      ∙ ap (λ o. fields_by (message_at n) (fields_at ends (message_at n)) ls o) (subst (λ l. ends l ≡ Some rest) h e)
  fields_found (more_fields m g s fs) n ends apart ls mid rest h e ended le =
      let p = parted (name_tokens m) (given_tokens g ++ (separator_tokens s ++ fields_tokens fs)) ls mid h in
      let q = parted (given_tokens g) (separator_tokens s ++ fields_tokens fs) p.mid mid p.second in
      let r = parted (separator_tokens s) (fields_tokens fs) q.mid mid q.second in
      let next_ended = ended_fields fs r.mid mid r.second ended in
      fields_is (message_at n) (message_shorter n) ends ls
      ∙ ap (λ o. fields_by (message_at n) (fields_at ends (message_at n)) ls o)
      (name_begins (λ l. ends l ≡ None) apart.word apart.bracket m (given_tokens g ++ (separator_tokens s ++ fields_tokens fs)) ls mid h)
      ∙ ap (λ r. then r (λ f rest. then (fields_at ends (message_at n) rest) (λ fs last. Some (more_fields f.name f.given f.separator fs, last))))
      (field_found (message_at n) m g s ls p.mid q.mid r.mid p.first
      (given_found g n p.mid q.mid q.first (omega (arith, le, le-max_left (given_braces g) (open_braces fs))) (quiet_separator s q.mid r.mid r.first next_ended))
      (end_found s q.mid r.mid r.first next_ended))
      ∙ ap (λ r. then r (λ fs last. Some (more_fields m g s fs, last)))
      (fields_found fs n ends apart r.mid mid rest r.second e ended (omega (arith, le, le-max_right (given_braces g) (open_braces fs))))

-- all lexemes that are the tokens of a tree are read as it
pub text_complete : (ls : List Lexeme) (fs : Fields) → AreTokens ls (fields_tokens fs) → open_braces fs ≤ 100 → text_at ls ≡ Some fs
unfolding text_at
text_complete ls fs h le =
    ap (option_map (λ p. p.0))
    (fields_found fs 100 at_end (record { word = λ a b w ls. refl; bracket = λ a b ls. refl }) ls [] [] (all_tokens (fields_tokens fs) ls h) refl
    (record { quiet = record { literal = refl; good = refl }; no_comma = refl; no_semicolon = refl }) le)
