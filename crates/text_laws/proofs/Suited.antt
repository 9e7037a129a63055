-- A message that a text gives suits its type.
use Rattle.std.proofs.Common.{◌≡◌, ℕ, ℤ, zero, suc, ◌≤◌, Bool, List, [], ◌∷◌, ◌++◌, Option, None, Some, option_map, refl, subst, arith}
use Rattle.std.specs.List.{AllByRecursion}
use Rattle.std.proofs.lemmas.Option.{none-some, option_and_then_some}
use Rattle.protox_lex.specs.Class.{Text}
use Rattle.text_lex.specs.Token.{sign}
use Rattle.protobuf_model.specs.Values.{Content, single, message, Message, nothing}
use Rattle.protobuf_model.specs.Types.{Name, sized, Kind, scalar, nested, Part, Label, one, many, keyed, Field, Types}
use Rattle.protobuf_model.specs.Typed.{IsOf, IsTypedBy, IsTyped, HasDefaults}
use Rattle.protobuf_model.specs.Coded.{SuitsType}
use Rattle.protobuf_model.proofs.Lists.{all_map}
use Rattle.protobuf_model.proofs.Merging.{nothing_typed}
use Rattle.text_model.specs.Tree.{FieldName, plain, extension, expansion, ScalarValue, Value, scalar as one_word, braced, Values, no_values, more_values, Given, one_scalar, one_message, listed, Fields, no_fields, more_fields}
use Rattle.text_model.specs.Tokens.{name_tokens, full_name_tokens, scalar_tokens, opening, closing, colon_tokens, separator_tokens, value_tokens, more_tokens, values_tokens, given_tokens, fields_tokens, value_braces, values_braces, given_braces, open_braces}
use Rattle.text_model.specs.Schemas.{Names, Schema, shape_of}
use Rattle.text_laws.specs.SoundTypes.{HasSoundTypes, HaveSmallDefaults}
use Rattle.text_model.specs.Scalars.{scalar_in}
use Rattle.text_model.specs.Plain.{IsPlainContent, IsPlain}
use Rattle.text_model.specs.Texts.{IsMerged, Gives}
use Rattle.text_model.specs.Value.{wanted_in, wanted_of, scalar_content, message_content, add_all, add_one, with_field, written, named_value, value, value_content, values_contents, field_value, body_value}
use Rattle.text_laws.proofs.Small.{AreSmall}
use Rattle.text_laws.proofs.CutTokens.{all_parts, IsFine, AreFine, cut_fine}
use Rattle.text_laws.proofs.ScalarsSuit.{AreOf32Bits, scalar_right}
use Rattle.text_laws.proofs.Assigned.{field, nothing_plain}
use Rattle.text_laws.proofs.EntriesSuit.{entry_right}
use Rattle.text_laws.proofs.FieldsSuit.{IsAdded, Keeps, add_all_keeps, add_one_keeps, keeps_through}
use Rattle.text_laws.proofs.ExpansionsSuit.{expanded_keeps}

-- the messages one level down
abbrev Below : ℕ → Types → Name → Message → Type 0
Below zero types = λ u m. ⊥
Below (suc levels) types = IsTyped levels types

typed_in : (levels : ℕ) (types : Types) (t : Name) (m : Message) → IsTyped levels types t m → IsTypedBy (Below levels types) levels (types t) m
typed_in zero types t m h = h
typed_in (suc levels) types t m h = h

typed_out : (levels : ℕ) (types : Types) (t : Name) (m : Message) → IsTypedBy (Below levels types) levels (types t) m → IsTyped levels types t m
typed_out zero types t m h = h
typed_out (suc levels) types t m h = h

abbrev Kept : Type 0 → ℕ → Types → Name → Message → Message → Type 0
Kept P levels types t m x = Keeps P (Below levels types) levels types t m x

-- what a message that is filled from nothing has; where P holds, it is plain
abbrev IsFilled : Type 0 → ℕ → Types → Name → Message → Type 0
IsFilled P levels types t m = IsTyped levels types t m × (P → IsPlain types t m)

filled : (P : Type 0) (levels : ℕ) (types : Types) (t : Name) (m : Message) → Kept P levels types t nothing m → IsFilled P levels types t m
filled P levels types t m h = (typed_out levels types t m (h.typed (typed_in levels types t nothing (nothing_typed levels types t))), λ p. h.plain p (nothing_plain types t))

-- what is read as a content: a message stands in a field one level down, and its own fields, where
-- it is an entry of a map, are of this level
abbrev Both : ℕ → Types → Name → Message → Type 0
Both levels types u m = Below levels types u m × IsTyped levels types u m

abbrev IsRead : Type 0 → ℕ → Types → Kind → Content → Type 0
IsRead P levels types k c = IsOf (Both levels types) k c × (P → IsPlainContent types k c)

deeper : (levels : ℕ) (types : Types) (k : Kind) (c : Content) → IsOf (Both levels types) k c → IsOf (Below levels types) k c
deeper levels types (scalar k) (single v) h = h
deeper levels types (nested frame u) (message m) h = h.0
deeper levels types k c h = absurd h

fresh : (levels : ℕ) (types : Types) (t : Name) (m : Message) → Below levels types t m → (u : Name) → Below levels types u nothing
fresh zero types t m h u = absurd h
fresh (suc levels) types t m h u = nothing_typed levels types u

-- the kind of the values of a field
abbrev kind_of : Names → ℕ → Part → Label → Kind
kind_of names n part one = part.kind
kind_of names n part (many packed) = part.kind
kind_of names n part (keyed key) = nested sized (names.entry n)

wanted_is : (w : Schema) (names : Names) (n : ℕ) (part : Part) (l : Label) → wanted_of w names n part l ≡ wanted_in w (names.enum_number n) (kind_of names n part l)
wanted_is w names n part one = refl
wanted_is w names n part (many packed) = refl
wanted_is w names n part (keyed key) = refl

mapped : {X Y P : Type 0} (f : X → Y) (o : Option X) (y : Y) → option_map f o ≡ Some y → ((x : X) → o ≡ Some x → f x ≡ y → P) → P
mapped f (Some x) y e give = give x refl (let same : f x ≡ y = cc in same)
mapped f None y e give = absurd (none-some y e)

-- the tokens of a list's values behind a comma
behind_comma : (P : Type 0) (vs : Values) → AreFine P (values_tokens vs) → AreFine P (more_tokens vs)
behind_comma P no_values h = tt
behind_comma P (more_values v vs) h = (tt, h)

module _ (P : Type 0) (w : Schema) (sound : HasSoundTypes w) (small : P → HaveSmallDefaults w.types) where
  read_added : (levels : ℕ) (t : Name) (n : ℕ) (part : Part) (l : Label) (o : Option ℕ) (e : Bool) → w.types t n ≡ Some (field part l o e) → (c : Content)
      → IsRead P levels w.types (kind_of (w.names t) n part l) c → IsAdded P (Below levels w.types) w.types part l c
  read_added levels t n part one o e has c h = (deeper levels w.types part.kind c h.0, h.1)
  read_added levels t n part (many packed) o e has c h = (deeper levels w.types part.kind c h.0, h.1)
  read_added levels t n part (keyed key) o e has (message m) h =
      let entry = (w.names t).entry n in
      let holds = sound.entries t n (field part (keyed key) o e) key has refl in
      let defaults = subst HasDefaults has (sound.defaults t n) in
      entry_right P (Below levels w.types) levels w.types (fresh levels w.types entry m h.0.0) entry key part holds.0 holds.1
      defaults.0 defaults.1 (λ p. small p t n (field part (keyed key) o e) key has refl) m (typed_in levels w.types entry m h.0.1) h.1
  read_added levels t n part (keyed key) o e has c h = absurd h.0

  scalar_read : (levels : ℕ) (enum : Text → Option ℤ) → AreOf32Bits enum → (k : Kind) (s : ScalarValue) (c : Content) → AreFine P (scalar_tokens s) → scalar_content (wanted_in w enum k) s ≡ Some c → IsRead P levels w.types k c
  scalar_read levels enum few (scalar k) s c fine e = mapped single (scalar_in enum k s) c e (λ v is same. subst (IsRead P levels w.types (scalar k)) same (scalar_right P enum few k s v fine is))
  scalar_read levels enum few (nested frame u) s c fine e = absurd (none-some c e)

  -- fields in braces
  abbrev Fills : Fields → Type 0
  Fills fs = (l : ℕ) → open_braces fs ≤ l → (u : Name) (m : Message) → value w (shape_of w u) fs nothing ≡ Some m → IsFilled P l w.types u m

  braces_read : (levels : ℕ) (fs : Fields) → suc (open_braces fs) ≤ levels → Fills fs → (u : Name) (m : Message) → value w (shape_of w u) fs nothing ≡ Some m → Both levels w.types u m × (P → IsPlain w.types u m)
  braces_read zero fs h each u m e = absurd (omega arith)
  braces_read (suc l) fs h each u m e = let inside = each l (omega arith) u m e in ((inside.0, (each (suc l) (omega arith) u m e).0), inside.1)

  message_read : (levels : ℕ) (fs : Fields) → suc (open_braces fs) ≤ levels → Fills fs → (enum : Text → Option ℤ) (k : Kind) (c : Content) → message_content (wanted_in w enum k) (λ s. value w s fs nothing) ≡ Some c → IsRead P levels w.types k c
  message_read levels fs h each enum (scalar k) c e = absurd (none-some c e)
  message_read levels fs h each enum (nested frame u) c e = mapped message (value w (shape_of w u) fs nothing) c e (λ m is same. subst (IsRead P levels w.types (nested frame u)) same (braces_read levels fs h each u m is))

  -- contents that are added to a field
  one_keeps : (levels : ℕ) (t : Name) (n : ℕ) (f : Field) → w.types t n ≡ Some f → (m x : Message) (c : Content) → IsRead P levels w.types (kind_of (w.names t) n f.part f.label) c → add_one (w.types t) n f.part f.label m c ≡ Some x → Kept P levels w.types t m x
  one_keeps levels t n f has m x c h e =
      add_one_keeps P (Below levels w.types) levels w.types t n f.part f.label f.oneof f.extension has (sound.numbers t n f has) m x c (read_added levels t n f.part f.label f.oneof f.extension has c h) e

  all_keep : (levels : ℕ) (t : Name) (n : ℕ) (f : Field) → w.types t n ≡ Some f → (m x : Message) (cs : List Content) → AllByRecursion (IsRead P levels w.types (kind_of (w.names t) n f.part f.label)) cs → add_all (w.types t) n f.part f.label m cs ≡ Some x → Kept P levels w.types t m x
  all_keep levels t n f has m x cs h e =
      add_all_keeps P (Below levels w.types) levels w.types t n f.part f.label f.oneof f.extension has (sound.numbers t n f has) m x cs
      (all_map (IsRead P levels w.types (kind_of (w.names t) n f.part f.label)) (IsAdded P (Below levels w.types) w.types f.part f.label) cs (read_added levels t n f.part f.label f.oneof f.extension has) h) e

  -- a field that a name finds
  with_field_keeps : (levels : ℕ) (t : Name) (m x : Message) (o : Option ℕ) (give : ℕ → Field → Option Message) → ((n : ℕ) (f : Field) (y : Message) → w.types t n ≡ Some f → give n f ≡ Some y → Kept P levels w.types t m y)
      → with_field (shape_of w t) o give ≡ Some x → Kept P levels w.types t m x
  with_field_keeps levels t m x o give each e = option_and_then_some _ o x e (λ n here found. option_and_then_some (give n) (w.types t n) x found (λ f has given. each n f x has given))

  named_keeps : (levels : ℕ) (t : Name) (m x : Message) (name : FieldName) (give : ℕ → Field → Option Message) (fill : Name → Option Message) → AreFine P (name_tokens name)
      → ((n : ℕ) (f : Field) (y : Message) → w.types t n ≡ Some f → give n f ≡ Some y → Kept P levels w.types t m y) → ((u : Name) (b : Message) → fill u ≡ Some b → IsFilled P levels w.types u b)
      → named_value w (shape_of w t) name m give fill ≡ Some x → Kept P levels w.types t m x
  named_keeps levels t m x (plain name) give fill fine each body e = with_field_keeps levels t m x ((w.names t).field name) give each e
  named_keeps levels t m x (extension name) give fill fine each body e = with_field_keeps levels t m x ((w.names t).extension (written name)) give each e
  named_keeps levels t m x (expansion domain name) give fill fine each body e =
      let first = all_parts (IsFine P) (full_name_tokens domain) (sign 47 ∷ (full_name_tokens name ++ sign 93 ∷ [])) fine.1 in
      let second = all_parts (IsFine P) (full_name_tokens name) (sign 93 ∷ []) first.1.1 in
      expanded_keeps P w sound (Below levels w.types) levels t m x domain name first.0 second.0 fill body e

  mutual
    value_read : (v : Value) → AreFine P (value_tokens v) → (levels : ℕ) → value_braces v ≤ levels → (enum : Text → Option ℤ) → AreOf32Bits enum → (k : Kind) (c : Content) → value_content w (wanted_in w enum k) v ≡ Some c → IsRead P levels w.types k c
    value_read (one_word s) fine levels h enum few k c e = scalar_read levels enum few k s c fine e
    value_read (braced b fs) fine levels h enum few k c e =
        message_read levels fs h (λ l g u m i. filled P l w.types u m (fields_keep fs (all_parts (IsFine P) (fields_tokens fs) (closing b ∷ []) fine.1).0 l g u nothing m i)) enum k c e

    values_read : (vs : Values) → AreFine P (more_tokens vs) → (levels : ℕ) → values_braces vs ≤ levels → (enum : Text → Option ℤ) → AreOf32Bits enum → (k : Kind) (cs : List Content) → values_contents w (wanted_in w enum k) vs ≡ Some cs → AllByRecursion (IsRead P levels w.types k) cs
    values_read no_values fine levels h enum few k cs e = subst (AllByRecursion (IsRead P levels w.types k)) (let same : [] ≡ cs = cc in same) tt
    values_read (more_values v vs) fine levels h enum few k cs e =
        let parts = all_parts (IsFine P) (value_tokens v) (more_tokens vs) fine.1 in
        option_and_then_some _ (value_content w (wanted_in w enum k) v) cs e (λ c here later.
        mapped (λ cs. c ∷ cs) (values_contents w (wanted_in w enum k) vs) cs later (λ ds there same.
        subst (AllByRecursion (IsRead P levels w.types k)) same
        (value_read v parts.0 levels (omega arith) enum few k c here, values_read vs parts.1 levels (omega arith) enum few k ds there)))

    given_keeps : (g : Given) → AreFine P (given_tokens g) → (levels : ℕ) → given_braces g ≤ levels → (t : Name) (n : ℕ) (f : Field) → w.types t n ≡ Some f → (m x : Message) → field_value w (shape_of w t) g m n f ≡ Some x → Kept P levels w.types t m x
    given_keeps (one_scalar s) fine levels h t n f has m x e =
        option_and_then_some (add_one (w.types t) n f.part f.label m) (scalar_content (wanted_of w (w.names t) n f.part f.label) s) x e (λ c here there.
        let found = subst (λ k. scalar_content k s ≡ Some c) (wanted_is w (w.names t) n f.part f.label) here in
        one_keeps levels t n f has m x c (scalar_read levels ((w.names t).enum_number n) (sound.enums t n) (kind_of (w.names t) n f.part f.label) s c fine.1 found) there)
    given_keeps (one_message colon b fs) fine levels h t n f has m x e =
        let inside = all_parts (IsFine P) (fields_tokens fs) (closing b ∷ []) (all_parts (IsFine P) (colon_tokens colon) (opening b ∷ (fields_tokens fs ++ closing b ∷ [])) fine).1.1 in
        option_and_then_some (add_one (w.types t) n f.part f.label m) (message_content (wanted_of w (w.names t) n f.part f.label) (λ s. value w s fs nothing)) x e (λ c here there.
        let found = subst (λ k. message_content k (λ s. value w s fs nothing) ≡ Some c) (wanted_is w (w.names t) n f.part f.label) here in
        one_keeps levels t n f has m x c
        (message_read levels fs h (λ l g u m i. filled P l w.types u m (fields_keep fs inside.0 l g u nothing m i)) ((w.names t).enum_number n) (kind_of (w.names t) n f.part f.label) c found) there)
    given_keeps (listed vs) fine levels h t n f has m x e =
        let inside = all_parts (IsFine P) (values_tokens vs) (sign 93 ∷ []) fine.1.1 in
        option_and_then_some (add_all (w.types t) n f.part f.label m) (values_contents w (wanted_of w (w.names t) n f.part f.label) vs) x e (λ cs here there.
        let found = subst (λ k. values_contents w k vs ≡ Some cs) (wanted_is w (w.names t) n f.part f.label) here in
        all_keep levels t n f has m x cs (values_read vs (behind_comma P vs inside.0) levels h ((w.names t).enum_number n) (sound.enums t n) (kind_of (w.names t) n f.part f.label) cs found) there)

    body_right : (g : Given) → AreFine P (given_tokens g) → (levels : ℕ) → given_braces g ≤ levels → (u : Name) (m : Message) → body_value w u g ≡ Some m → IsFilled P levels w.types u m
    body_right (one_scalar s) fine levels h u m e = absurd (none-some m e)
    body_right (one_message colon b fs) fine levels h u m e =
        filled P levels w.types u m (fields_keep fs (all_parts (IsFine P) (fields_tokens fs) (closing b ∷ []) (all_parts (IsFine P) (colon_tokens colon) (opening b ∷ (fields_tokens fs ++ closing b ∷ [])) fine).1.1).0 levels (omega arith) u nothing m e)
    body_right (listed vs) fine levels h u m e = absurd (none-some m e)

    fields_keep : (fs : Fields) → AreFine P (fields_tokens fs) → (levels : ℕ) → open_braces fs ≤ levels → (t : Name) (m x : Message) → value w (shape_of w t) fs m ≡ Some x → Kept P levels w.types t m x
    fields_keep no_fields fine levels h t m x e = subst (Kept P levels w.types t m) (let same : m ≡ x = cc in same) (record { typed = λ a. a; plain = λ p b. b })
    fields_keep (more_fields name g s fs) fine levels h t m x e =
        let first = all_parts (IsFine P) (name_tokens name) (given_tokens g ++ (separator_tokens s ++ fields_tokens fs)) fine in
        let second = all_parts (IsFine P) (given_tokens g) (separator_tokens s ++ fields_tokens fs) first.1 in
        let third = all_parts (IsFine P) (separator_tokens s) (fields_tokens fs) second.1 in
        option_and_then_some (value w (shape_of w t) fs) (named_value w (shape_of w t) name m (field_value w (shape_of w t) g m) (λ u. body_value w u g)) x e (λ y here later.
        keeps_through P (Below levels w.types) levels w.types t m y x
        (named_keeps levels t m y name (field_value w (shape_of w t) g m) (λ u. body_value w u g) first.0
        (λ n f z has given. given_keeps g second.0 levels (omega arith) t n f has m z given)
        (λ u b is. body_right g second.0 levels (omega arith) u b is) here)
        (fields_keep fs third.1 levels (omega arith) t y x later))

-- a text behind a start
merged_keeps : (P : Type 0) (w : Schema) → HasSoundTypes w → (P → HaveSmallDefaults w.types) → (t : Name) (start m : Message) (z : Text) → (P → AreSmall z) → IsMerged w t start z m → Kept P 100 w.types t start m
merged_keeps P w sound defaults t start m z small h =
    fields_keep P w sound defaults h.0 (cut_fine P 0 z h.1.spelled.lexemes (fields_tokens h.0) small h.1.spelled.cut h.1.spelled.tokens) 100 h.1.shallow t start m h.2

pub merged_suits : (w : Schema) → HasSoundTypes w → (t : Name) (start m : Message) (z : Text) → SuitsType w.types t start → IsMerged w t start z m → SuitsType w.types t m
merged_suits w sound t start m z suits h = (merged_keeps ⊥ w sound (λ p. absurd p) t start m z (λ p. absurd p) h).typed suits

pub given_suits : (w : Schema) → HasSoundTypes w → (t : Name) (z : Text) (m : Message) → Gives w t z m → SuitsType w.types t m
given_suits w sound t z m h = merged_suits w sound t nothing m z (nothing_typed 100 w.types t) h

pub merged_plain : (w : Schema) → HasSoundTypes w → HaveSmallDefaults w.types → (t : Name) (start m : Message) (z : Text) → AreSmall z → IsPlain w.types t start → IsMerged w t start z m → IsPlain w.types t m
merged_plain w sound defaults t start m z small is h = (merged_keeps (Unit {0}) w sound (λ p. defaults) t start m z (λ p. small) h).plain tt is

pub given_plain : (w : Schema) → HasSoundTypes w → HaveSmallDefaults w.types → (t : Name) (z : Text) (m : Message) → AreSmall z → Gives w t z m → IsPlain w.types t m
given_plain w sound defaults t z m small h = merged_plain w sound defaults t nothing m z small (nothing_plain w.types t) h
