-- Parts of printed texts in which a record is told.
use Rattle.std.proofs.Common.{◌≡◌, ◌≤◌, ◌⊎◌, inl, inr, ℕ, ◌+◌, ◌-◌, ◌^◌, ◌<◌, Bool, true, false, true≢false, List, [], ◌∷◌, ◌++◌, map, Option, None, Some, codes, refl, sym, subst, append_assoc, arith}
use Rattle.std.specs.List.{AllByRecursion}
use Rattle.protox_lex.specs.Class.{Text}
use Rattle.reflect_wire.specs.Records.{Payload}
use Rattle.reflect_decode.specs.Ordered.{Ascend}
use Rattle.reflect_scalar.specs.declared.map_key.MapKey.{MapKey}
use Rattle.reflect_message.specs.Messages.{message_in}
use Rattle.reflect_message.specs.Names.{DynamicMessage, Value}
use Rattle.print_parts.specs.Entries.{Entry}
use Rattle.reflect_print.specs.MessageTexts.{before_value, key_text, value_text, IsValueText, single_text, message_text, list_text, map_text, IsListText, no_values, more_values, IsMapText, no_pairs, more_pairs, IsBracedText, braced, IsRowText, no_entries, more_entries}
use Rattle.reflect_print.specs.Named.{Named}
use Rattle.text_lines.specs.Pieces.{padding, colon, before_element, before_item, in_braces}
use Rattle.text_lines.specs.declared.options.FormatOptions.{FormatOptions}
use Rattle.protobuf_model.specs.Values as model
use Rattle.protobuf_model.specs.Values.{Content, Message, chain_of, entries_of}
use Rattle.text_model.specs.Forms.{between}
use Rattle.text_model.specs.Printed.{joined, value_in}
use Rattle.text_model.specs.Rendered.{run}
use Rattle.text_model.specs.Tokens.{name_tokens, scalar_tokens}
use Rattle.text_model.specs.Tree.{FieldName, plain, ScalarValue, curly, angle, Given, one_scalar, one_message, listed}
use Rattle.text_model.proofs.Written.{IsCleanScalar, IsNameShown, IsValueShown, IsGivenShown, AreShown}
use Rattle.message_view.specs.Singles.{single_view}
use Rattle.message_view.specs.Views.{content_view}
use Rattle.message_view.proofs.Seen.{single_seen, list_seen, map_seen, pairs_view}
use Rattle.print_view.proofs.Pieces.{Pair, word_said}
use Rattle.print_view.proofs.ToldTokens.{TellsRecord, Ends, IsPairShown, ends_behind, nothing_told, told_braces, told_colon, told_item, told_name, told_padding, told_pair}
use Rattle.print_view.proofs.Values.{key_said_one, no_message}

-- ---- what stands behind other text does not lengthen it, or is none

abbrev pub IsNoneOrEnds : Text → Type 0
IsNoneOrEnds z = (z ≡ []) ⊎ Ends z

-- no record is told in none
pub told_ends : (z : Text) → IsNoneOrEnds z → TellsRecord z → Ends z
told_ends z (inl none) t = absurd (nothing_told (subst TellsRecord none t))
told_ends z (inr ends) t = ends

pub before_ends : (z y : Text) → IsNoneOrEnds z → Ends y → Ends (z ++ y)
before_ends z y (inl none) ends = subst (λ z. Ends (z ++ y)) (sym none) ends
before_ends z y (inr here) ends = ends_behind z y here

element_ends : (p first : Bool) → first ≡ false → (z : Text) → Ends (before_element p first ++ z)
element_ends p true e z = absurd (true≢false e)
element_ends p false e z = λ w. refl

item_ends : (p braces any : Bool) (i : ℕ) → any ≡ true → (z : Text) → Ends (before_item p braces any i ++ z)
item_ends p braces false i e z = absurd (true≢false (sym e))
item_ends true braces true i e z = λ w. refl
item_ends false braces true i e z = λ w. refl

module _ (form : FormatOptions) (payloads x : ℕ) where
  pub row_ends : {i : ℕ} {braces any : Bool} {es : List Entry} {z : Text} → IsRowText form payloads x i braces any es z → any ≡ true → IsNoneOrEnds z
  row_ends no_entries e = inl refl
  row_ends {i = i} {braces = braces} {any = any} (more_entries y rest text texts) e = inr (item_ends form.pretty braces any i e (y ++ rest))

  pub list_ends : {i : ℕ} {kind : Named} {first : Bool} {vs : List Value} {z : Text} → IsListText form payloads x i kind first vs z → first ≡ false → IsNoneOrEnds z
  list_ends no_values e = inl refl
  list_ends {first = first} (more_values y rest text texts) e = inr (element_ends form.pretty first e (y ++ rest))

  pub map_ends : {i : ℕ} {kind : Named} {first : Bool} {es : List (MapKey × Value)} {z : Text} → IsMapText form payloads x i kind first es z → first ≡ false → IsNoneOrEnds z
  map_ends no_pairs e = inl refl
  map_ends {first = first} (more_pairs y rest text texts) e = inr (element_ends form.pretty first e (y ++ rest))

  pub braced_ends : {i : ℕ} {m : DynamicMessage} {z : Text} → IsBracedText form payloads x i m z → Ends (padding form.pretty ++ z)
  braced_ends {i = i} (braced any y text) = by form.pretty where
    by : (p : Bool) → Ends (padding p ++ in_braces form.pretty i any y)
    by true = λ w. refl
    by false = λ w. refl

  behind_colon : (v : Value) (c : Content) (z : Text) → content_view v ≡ c → ((m : Message) → c ≡ model.message m → ⊥) → Ends (before_value form.pretty (message_in v) ++ z)
  behind_colon v c z seen other = subst (λ o. Ends (before_value form.pretty o ++ z)) (sym (no_message v c seen other)) (λ w. refl)

  -- a value behind its name
  pub value_ends : {i : ℕ} {kind : Named} {v : Value} {z : Text} → IsValueText form payloads x i kind v z → Ends (before_value form.pretty (message_in v) ++ z)
  value_ends {v = v} {z = z} (single_text s is text) = behind_colon v (model.single (single_view s)) z (single_seen v s is) (λ m e. cc e)
  value_ends {z = z} (message_text m is text) = subst (λ o. Ends (before_value form.pretty o ++ z)) (sym is) (braced_ends text)
  value_ends {v = v} (list_text vs y is text) = behind_colon v (model.list (chain_of (map content_view vs))) (91 ∷ (y ++ 93 ∷ [])) (list_seen v vs is) (λ m e. cc e)
  value_ends {v = v} (map_text es y is text) = behind_colon v (model.dictionary (entries_of (pairs_view es))) (91 ∷ (y ++ 93 ∷ [])) (map_seen v es is) (λ m e. cc e)

-- ---- what stands before a value

pub told_behind_colon : (p : Bool) (o : Option DynamicMessage) (z : Text) → TellsRecord z → TellsRecord (before_value p o ++ z)
told_behind_colon p None z t = told_colon p z t
told_behind_colon p (Some m) z t = told_padding p z t

pub told_under : (n : FieldName) (y : Text) → run (name_tokens n) ≡ y → IsNameShown n → (z : Text) → Ends z → TellsRecord z → TellsRecord (y ++ z)
told_under n y is shown z ends t = subst (λ y. TellsRecord (y ++ z)) is (told_name n shown z ends t)

-- an entry of a map, in the value of which a record is told
pub told_entry : (p : Bool) (i : ℕ) (k : ScalarValue) (v : Value) (key value : Text) → key ≡ run (scalar_tokens k) → IsCleanScalar k → Ends (before_value p (message_in v) ++ value) → TellsRecord value
    → TellsRecord (in_braces p i true (key_text p (i + 2) key ++ value_text p (i + 2) v value))
told_entry p i k v key value said clean ends t =
    let under : Text = codes "value" ++ (before_value p (message_in v) ++ value) in
    let behind = value_text p (i + 2) v value in
    let here : Text = codes "key" ++ (colon p ++ key) in
    let second : TellsRecord behind =
    told_item p true true (i + 2) under (told_under (plain (codes "value")) (codes "value") (word_said (codes "value")) refl (before_value p (message_in v) ++ value) ends (told_behind_colon p (message_in v) value t)) in
    let first : TellsRecord (here ++ behind) =
    subst (λ y. TellsRecord (y ++ behind)) (sym (key_said_one p (i + 2) k key said)) (told_pair p (i + 2) (plain (codes "key"), one_scalar k) (refl, clean) behind (item_ends p true true (i + 2) refl under) second) in
    told_braces p true i (key_text p (i + 2) key ++ behind) (subst TellsRecord (sym (append_assoc (before_item p true false (i + 2)) here behind)) (told_item p true false (i + 2) (here ++ behind) first))

-- ---- what is shown of a tree is shown of its parts

pub shown_value : (p : Bool) (g : Given) → IsGivenShown p g → IsValueShown p (value_in g)
shown_value p (one_scalar s) h = h
shown_value p (one_message false curly fs) h = h
shown_value p (one_message false angle fs) h = absurd h
shown_value p (one_message true b fs) h = absurd h
shown_value p (listed vs) h = tt

pub shown_pairs : (p : Bool) (es : List Pair) → AreShown p (joined (between p) es) → AllByRecursion (IsPairShown p) es
shown_pairs p [] h = tt
shown_pairs p (e ∷ []) h = ((h.0, h.1), tt)
shown_pairs p (e ∷ d ∷ es) h = ((h.0, h.1), shown_pairs p (d ∷ es) h.3)

-- ---- of two texts one behind the other

pub carried : {y z : Text} {A B : Type 0} → TellsRecord y ⊎ A → (TellsRecord y → TellsRecord z) → (A → B) → TellsRecord z ⊎ B
carried (inl t) tells own = inl (tells t)
carried (inr a) tells own = inr (own a)

-- the first of them tells a record, or the second behind a first that tells none, or neither does
pub carried_two : {y rest z : Text} {A B C : Type 0} → TellsRecord y ⊎ A → TellsRecord rest ⊎ B → (TellsRecord y → TellsRecord z) → (A → TellsRecord rest → TellsRecord z) → (A → B → C) → TellsRecord z ⊎ C
carried_two (inl t) behind first second own = inl (first t)
carried_two (inr a) (inl t) first second own = inl (second a t)
carried_two (inr a) (inr b) first second own = inr (own a b)

-- ---- lists

-- records that ascend up to a number that a field may have are of such numbers
last_number : (low high : ℕ) (rs : List (ℕ × Payload)) → Ascend low high rs → low ≤ high
last_number low high [] h = h
last_number low high (r ∷ rs) h = let rest = last_number r.0 high rs h.1 in omega (arith, rest, h.0)

pub small_numbers : (low : ℕ) (rs : List (ℕ × Payload)) → Ascend low (2 ^ 29 - 1) rs → AllByRecursion (λ (r : ℕ × Payload). r.0 < 2 ^ 64) rs
small_numbers low [] h = tt
small_numbers low (r ∷ rs) h = let top = last_number r.0 (2 ^ 29 - 1) rs h.1 in (omega (arith, top), small_numbers r.0 rs h.1)

pub all_parts : {X Y : Type 0} (P : Y → Type 0) (f : X → Y) (xs ys : List X) → AllByRecursion P (map f xs ++ map f ys) → AllByRecursion (λ x. P (f x)) xs × AllByRecursion (λ x. P (f x)) ys
all_parts P f [] [] h = (tt, tt)
all_parts P f [] (y ∷ ys) h = (tt, (h.0, (all_parts P f [] ys h.1).1))
all_parts P f (x ∷ xs) ys h = let rest = all_parts P f xs ys h.1 in ((h.0, rest.0), rest.1)
