-- Records of undeclared numbers, one behind another.
use Rattle.std.proofs.Common.{◌≡◌, inl, ℕ, suc, ◌+◌, Bool, true, false, if◌then◌else◌, List, [], ◌∷◌, ◌++◌, length, subst, sym, ◌∙◌, refl, ap, append_assoc, append-nil, arith}
use Rattle.std.specs.Fmt.{decimal}
use Rattle.reflect_wire.specs.Records.{Payload, group, Records, no_records, more_records}
use Rattle.reflect_wire.specs.Views.{field_view, payload_view, records_view}
use Rattle.reflect_wire.specs.declared.unknown.UnknownField.{UnknownField}
use Rattle.text_lines.specs.Pieces.{padding, before_item, last_line}
use Rattle.text_lines.specs.UnknownTexts.{Shows, are_any, IsValueText, IsRowText, IsBraced, IsRecordText, SpellsAny, IsPayloadText}
use Rattle.text_lines.proofs.Appending.{OneBehind, adds_both}

-- So much of the records' text stands in braces that the text of those that are left makes it whole.
pub record IsFront (old : List ℕ) (pretty : Bool) (shows : Shows) (indent : ℕ) (all : Records) (now : List ℕ) (any : Bool) (rest : Records) : Type 0 where
  pub front : List ℕ
  pub written : now ≡ old ++ (123 ∷ front)
  pub whole : (text : List ℕ) → IsRowText pretty shows indent any rest text → IsRowText pretty shows indent false all (front ++ text)
  pub some : ◌≡◌ {A = Bool} (if any then true else are_any rest) (are_any all)

pub none_written : (old now : List ℕ) (pretty : Bool) (shows : Shows) (indent : ℕ) (all : Records) (any : Bool) (rest : Records) → any ≡ false → all ≡ rest → now ≡ old ++ (123 ∷ []) → IsFront old pretty shows indent all now any rest
none_written old now pretty shows indent all any rest a r w =
    subst (λ b. IsFront old pretty shows indent all now b rest) (sym a)
    (subst (λ rs. IsFront old pretty shows indent all now false rs) r
    (record { front = []; written = w; whole = λ text i. i; some = refl }))

none_more : (any b : Bool) → ◌≡◌ {A = Bool} (if any then true else false) b → any ≡ b
none_more true b e = e
none_more false b e = e

some_more : (any : Bool) (n : ℕ) (p : Payload) (rest : Records) (b : Bool) → ◌≡◌ {A = Bool} (if any then true else are_any (more_records n p rest)) b → true ≡ b
some_more true n p rest b e = e
some_more false n p rest b e = e

one_more : (old now mid next : List ℕ) (pretty : Bool) (shows : Shows) (indent : ℕ) (all : Records) (any : Bool) (n : ℕ) (p : Payload) (rest : Records)
    → IsFront old pretty shows indent all now any (more_records n p rest)
    → mid ≡ now ++ before_item pretty true any indent
    → OneBehind mid (IsRecordText pretty shows indent (n, p)) next
    → IsFront old pretty shows indent all next true rest
one_more old now mid next pretty shows indent all any n p rest f w (t, (value, is, e), v) =
    let before = before_item pretty true any indent in
    record {
      front = f.front ++ (before ++ t);
      written = adds_both old next (123 ∷ f.front) (before ++ t) f.written (adds_both now next before t w v);
      whole = λ text i.
          subst (IsRowText pretty shows indent false all)
          ((ap (λ (x : List ℕ). f.front ++ (before ++ (x ++ text))) (sym e)
          ∙ ap (λ (x : List ℕ). f.front ++ x) (sym (append_assoc before t text)))
          ∙ sym (append_assoc f.front (before ++ t) text))
          (f.whole (before ++ ((decimal n ++ value) ++ text)) (value, text, is, i, refl));
      some = some_more any n p rest (are_any all) f.some;
    }

braces_are_whole : (pretty : Bool) (shows : Shows) (indent : ℕ) (all : Records) (any : Bool) (front : List ℕ) → any ≡ are_any all → IsRowText pretty shows (indent + 2) false all (front ++ []) → IsBraced pretty shows indent all ((123 ∷ front) ++ (last_line pretty any indent ++ 125 ∷ []))
braces_are_whole pretty shows indent all any front e i = (front, subst (IsRowText pretty shows (indent + 2) false all) (append-nil front) i, ap (λ b. 123 ∷ (front ++ (last_line pretty b indent ++ 125 ∷ []))) e)

-- a record is written, in the form and at the place of the first
pub next_written : (old now mid next : List ℕ) (pretty first second : Bool) (payloads inner indent deeper : ℕ) (all : Records) (any braces some : Bool) (x : UnknownField) (xs left : List UnknownField)
    → first ≡ pretty → second ≡ pretty → inner ≡ payloads → deeper ≡ indent → braces ≡ true → some ≡ true → left ≡ x ∷ xs
    → IsFront old pretty (IsPayloadText payloads pretty) indent all now any (records_view left)
    → mid ≡ now ++ before_item first braces any deeper
    → OneBehind mid (IsRecordText second (IsPayloadText inner second) deeper (field_view x)) next
    → IsFront old pretty (IsPayloadText payloads pretty) indent all next some (records_view xs)
next_written old now mid next pretty first second payloads inner indent deeper all any braces some x xs left f s l d b a e front w v =
    let is_written : Bool → ℕ → ℕ → Type 0 = λ p k i. OneBehind mid (IsRecordText p (IsPayloadText k p) i (field_view x)) next in
    let is_begun : Bool → Bool → ℕ → Type 0 = λ p y i. mid ≡ now ++ before_item p y any i in
    subst (λ y. IsFront old pretty (IsPayloadText payloads pretty) indent all next y (records_view xs)) (sym a)
    (one_more old now mid next pretty (IsPayloadText payloads pretty) indent all any x.number (payload_view x.value) (records_view xs)
    (subst (λ ys. IsFront old pretty (IsPayloadText payloads pretty) indent all now any (records_view ys)) e front)
    (subst (λ p. is_begun p true indent) f (subst (λ y. is_begun first y indent) b (subst (λ i. is_begun first braces i) d w)))
    (subst (λ p. is_written p payloads indent) s (subst (λ k. is_written second k indent) l (subst (λ i. is_written second inner i) d v))))

none_left : (xs : List UnknownField) → length xs ≡ 0 → records_view xs ≡ no_records
none_left [] e = refl
none_left (x ∷ xs) e = absurd (omega arith)

-- all records are written, and the brace behind them
pub all_written : (old now : List ℕ) (pretty last : Bool) (shows : Shows) (indent : ℕ) (all : Records) (any : Bool) (left : List UnknownField)
    → last ≡ pretty → length left ≡ 0
    → (front : IsFront old pretty shows (indent + 2) all now any (records_view left))
    → IsBraced pretty shows indent all ((123 ∷ front.front) ++ (last_line last any indent ++ 125 ∷ []))
all_written old now pretty last shows indent all any left l e f =
    let ended = subst (λ rs. (text : List ℕ) → IsRowText pretty shows (indent + 2) any rs text → IsRowText pretty shows (indent + 2) false all (f.front ++ text)) (none_left left e) f.whole in
    let some = subst (λ rs. ◌≡◌ {A = Bool} (if any then true else are_any rs) (are_any all)) (none_left left e) f.some in
    subst (λ p. IsBraced pretty shows indent all ((123 ∷ f.front) ++ (last_line p any indent ++ 125 ∷ []))) (sym l)
    (braces_are_whole pretty shows indent all any f.front (none_more any (are_any all) some) (ended [] refl))

pub group_text : (pretty second : Bool) (payloads indent : ℕ) (rs : Records) → second ≡ pretty → (y : List ℕ) → IsBraced second (IsPayloadText payloads second) indent rs y → IsValueText pretty (IsPayloadText payloads pretty) indent (group rs) (padding pretty ++ y)
group_text pretty second payloads indent rs e y i =
    let b = subst (λ p. IsBraced p (IsPayloadText payloads p) indent rs y) e i in
    (b.0, b.1, ap (λ t. padding pretty ++ t) b.2)

-- a payload that spells records
pub payload_text : (pretty : Bool) (k payloads indent : ℕ) (bytes : List ℕ) (rs : Records) → payloads ≡ suc k → SpellsAny bytes rs → (text : List ℕ) → IsValueText pretty (IsPayloadText k pretty) indent (group rs) text → IsPayloadText payloads pretty indent bytes text
payload_text pretty k payloads indent bytes rs e s text i = subst (λ n. IsPayloadText n pretty indent bytes text) (sym e) (inl (rs, s, i))

-- a record's number, and what stands behind it
pub record_text : (pretty : Bool) (shows : Shows) (indent n : ℕ) (r : ℕ × Payload) → n ≡ r.0 → (y : List ℕ) → IsValueText pretty shows indent r.1 y → IsRecordText pretty shows indent r (decimal n ++ y)
record_text pretty shows indent n r e y i = (y, i, ap (λ m. decimal m ++ y) e)

-- a value, which is looked at through another one of the same payload
pub value_text : (pretty : Bool) (shows : Shows) (indent : ℕ) (p q : Payload) → p ≡ q → (y : List ℕ) → IsValueText pretty shows indent p y → IsValueText pretty shows indent q y
value_text pretty shows indent p q e y i = subst (λ x. IsValueText pretty shows indent x y) e i
