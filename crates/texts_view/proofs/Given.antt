-- Of a message that a text gives its type knows all.
use Rattle.std.proofs.Common.{◌≡◌, ℕ, ℤ, nat_lt, Bool, true, false, cond, List, [], ◌∷◌, length, ◌^◌, Option, None, Some, refl, subst}
use Rattle.std.specs.List.{AllByRecursion}
use Rattle.std.proofs.lemmas.Option.{same_Some, none-some, option_and_then_some}
use Rattle.protox_lex.specs.Class.{Text}
use Rattle.protobuf_model.specs.Values.{Single, text, blob, Content, single, message, Held, content, records, Message, nothing}
use Rattle.protobuf_model.specs.Types.{Name, Kind, scalar, nested, Part, Label, one, many, keyed, Field, Types}
use Rattle.protobuf_model.specs.Bytes.{bytes_of}
use Rattle.protobuf_model.specs.Meaning.{settle}
use Rattle.protobuf_model.proofs.Lists.{all_map}
use Rattle.text_model.specs.Tree.{FieldName, plain, extension, expansion, ScalarValue, Value, scalar as one_word, braced, Values, no_values, more_values, Given, one_scalar, one_message, listed, Fields, no_fields, more_fields}
use Rattle.text_model.specs.Schemas.{Schema, shape_of}
use Rattle.text_model.specs.Scalars.{scalar_in}
use Rattle.text_model.specs.Texts.{IsMerged, Gives}
use Rattle.text_model.specs.Value.{wanted_in, wanted_of, scalar_content, message_content, default_of, value_of, assign, add_all, add_one, with_field, hold, written, named_value, value, value_content, values_contents, field_value, body_value}
use Rattle.text_laws.proofs.Assigned.{field}
use Rattle.known_messages.specs.KnownMessages.{KnowsContent, KnowsHeld, KnowsAll}
use Rattle.texts_view.specs.SaysAll.{HaveEntryValues}
use Rattle.texts_view.proofs.Known.{IsKnownIn, set_known, settled_known, add_all_known, add_one_known}
use Rattle.texts_view.proofs.Wanted.{kind_of, wanted_is, mapped}

-- what a text gives as a content of the kind
abbrev IsRead : Types → Kind → Content → Type 0
IsRead types (scalar k) (single v) = Unit {0}
IsRead types (nested frame u) (message m) = KnowsAll types u m
IsRead types _ _ = ⊥

read_known : (types : Types) (k : Kind) (c : Content) → IsRead types k c → KnowsContent types k c
read_known types (scalar k) (single v) h = tt
read_known types (nested frame u) (message m) h = h
read_known types k c h = absurd h

-- the value of an entry, or its default
pub value_known : (types : Types) (part : Part) (o : Option ℕ) (e : Bool) (h : Held) → KnowsHeld types (Some (field part one o e)) h
    → KnowsContent types part.kind (value_of part h)
value_known types part o e (content c) k = k
value_known types part o e (records ps) k = by part.kind where
  by : (k : Kind) → KnowsContent types k (default_of part k)
  by (scalar k) = tt
  by (nested frame u) = λ n. refl

if_true : (b : Bool) (o : Option Message) (x : Message) → cond b o None ≡ Some x → o ≡ Some x
if_true true o x e = e
if_true false o x e = absurd (none-some x e)

module _ (w : Schema) (entries : HaveEntryValues w) where
  -- the type knows all of the one if it does of the other
  abbrev Keeps : Name → Message → Message → Type 0
  Keeps t m x = KnowsAll w.types t m → KnowsAll w.types t x

  read_in : (t : Name) (n : ℕ) (f : Field) → w.types t n ≡ Some f → (l : Label) → f.label ≡ l → (c : Content)
      → IsRead w.types (kind_of (w.names t) n f.part l) c → IsKnownIn w.types f.part l c
  read_in t n f has one is c h = read_known w.types f.part.kind c h
  read_in t n f has (many packed) is c h = read_known w.types f.part.kind c h
  read_in t n f has (keyed key) is (message m) h =
      let v = entries t n f key has is in
      value_known w.types f.part v.0 v.1 (m 2) (subst (λ o. KnowsHeld w.types o (m 2)) v.2 (h 2))
  read_in t n f has (keyed key) is c h = absurd h

  -- ---- contents that are added to a field

  scalar_read : (enum : Text → Option ℤ) (k : Kind) (s : ScalarValue) (c : Content) → scalar_content (wanted_in w enum k) s ≡ Some c → IsRead w.types k c
  scalar_read enum (scalar k) s c e = mapped single (scalar_in enum k s) c e (λ v is same. subst (IsRead w.types (scalar k)) same tt)
  scalar_read enum (nested frame u) s c e = absurd (none-some c e)

  -- fields in braces
  abbrev Fills : Fields → Type 0
  Fills fs = (u : Name) (m : Message) → value w (shape_of w u) fs nothing ≡ Some m → KnowsAll w.types u m

  message_read : (fs : Fields) → Fills fs → (enum : Text → Option ℤ) (k : Kind) (c : Content)
      → message_content (wanted_in w enum k) (λ s. value w s fs nothing) ≡ Some c → IsRead w.types k c
  message_read fs each enum (scalar k) c e = absurd (none-some c e)
  message_read fs each enum (nested frame u) c e =
      mapped message (value w (shape_of w u) fs nothing) c e (λ m is same. subst (IsRead w.types (nested frame u)) same (each u m is))

  one_keeps : (t : Name) (n : ℕ) (f : Field) → w.types t n ≡ Some f → (m x : Message) (c : Content) → IsRead w.types (kind_of (w.names t) n f.part f.label) c
      → add_one (w.types t) n f.part f.label m c ≡ Some x → Keeps t m x
  one_keeps t n f has m x c h e all = add_one_known w.types t n f has m x all f.label c (read_in t n f has f.label refl c h) e

  all_keep : (t : Name) (n : ℕ) (f : Field) → w.types t n ≡ Some f → (m x : Message) (cs : List Content)
      → AllByRecursion (IsRead w.types (kind_of (w.names t) n f.part f.label)) cs → add_all (w.types t) n f.part f.label m cs ≡ Some x → Keeps t m x
  all_keep t n f has m x cs h e all =
      add_all_known w.types t n f has m x all f.label cs
      (all_map (IsRead w.types (kind_of (w.names t) n f.part f.label)) (IsKnownIn w.types f.part f.label) cs (read_in t n f has f.label refl) h) e

  -- ---- a field that a name finds, and an expansion

  with_field_keeps : (t : Name) (m x : Message) (o : Option ℕ) (give : ℕ → Field → Option Message)
      → ((n : ℕ) (f : Field) (y : Message) → w.types t n ≡ Some f → give n f ≡ Some y → Keeps t m y)
      → with_field (shape_of w t) o give ≡ Some x → Keeps t m x
  with_field_keeps t m x o give each e =
      option_and_then_some _ o x e (λ n here found. option_and_then_some (give n) (w.types t n) x found (λ f has given. each n f x has given))

  -- the URL and the bytes of an expansion are single values
  settled_keeps : (t : Name) (n : ℕ) (f : Field) → w.types t n ≡ Some f → (m : Message) (v : Single) → Keeps t m (assign (w.types t) n (settle f.part v) m)
  settled_keeps t n f has m v all = set_known w.types t n f has m _ all (settle f.part v) (settled_known w.types f (single v) tt) refl

  hold_keeps : (t : Name) (m x : Message) (url body : Text) → hold (shape_of w t) url body m ≡ Some x → Keeps t m x
  hold_keeps t m x url body e =
      with_field_keeps t m x (Some 1) (λ n f. with_field (shape_of w t) (Some 2) (second n f)) (λ n f y has given.
      with_field_keeps t m y (Some 2) (second n f) (λ q g z also last all.
      subst (KnowsAll w.types t) (same_Some (both n f q g) z last) (settled_keeps t q g also (first n f) (blob body) (settled_keeps t n f has m (text url) all))) given) e where
        first : ℕ → Field → Message
        first n f = assign (w.types t) n (settle f.part (text url)) m

        both : ℕ → Field → ℕ → Field → Message
        both n f q g = assign (w.types t) q (settle g.part (blob body)) (first n f)

        second : ℕ → Field → ℕ → Field → Option Message
        second n f q g = Some (both n f q g)

  named_keeps : (t : Name) (m x : Message) (name : FieldName) (give : ℕ → Field → Option Message) (fill : Name → Option Message)
      → ((n : ℕ) (f : Field) (y : Message) → w.types t n ≡ Some f → give n f ≡ Some y → Keeps t m y)
      → named_value w (shape_of w t) name m give fill ≡ Some x → Keeps t m x
  named_keeps t m x (plain name) give fill each e = with_field_keeps t m x ((w.names t).field name) give each e
  named_keeps t m x (extension name) give fill each e = with_field_keeps t m x ((w.names t).extension (written name)) give each e
  named_keeps t m x (expansion domain name) give fill each e =
      option_and_then_some _ (w.message (written name)) x (if_true (w.is_any t) _ x e) (λ u found filled.
      option_and_then_some _ (fill u) x filled (λ b is held.
      hold_keeps t m x _ (bytes_of w.types u b) (if_true (nat_lt (length (bytes_of w.types u b)) (2 ^ 64)) _ x held)))

  -- ---- values and fields

  mutual
    value_read : (v : Value) (enum : Text → Option ℤ) (k : Kind) (c : Content) → value_content w (wanted_in w enum k) v ≡ Some c → IsRead w.types k c
    value_read (one_word s) enum k c e = scalar_read enum k s c e
    value_read (braced b fs) enum k c e = message_read fs (λ u m is. fields_keep fs u nothing m is (λ n. refl)) enum k c e

    values_read : (vs : Values) (enum : Text → Option ℤ) (k : Kind) (cs : List Content) → values_contents w (wanted_in w enum k) vs ≡ Some cs
        → AllByRecursion (IsRead w.types k) cs
    values_read no_values enum k cs e = subst (AllByRecursion (IsRead w.types k)) (let same : [] ≡ cs = cc in same) tt
    values_read (more_values v vs) enum k cs e =
        option_and_then_some _ (value_content w (wanted_in w enum k) v) cs e (λ c here later.
        mapped (λ cs. c ∷ cs) (values_contents w (wanted_in w enum k) vs) cs later (λ ds there same.
        subst (AllByRecursion (IsRead w.types k)) same (value_read v enum k c here, values_read vs enum k ds there)))

    given_keeps : (g : Given) (t : Name) (n : ℕ) (f : Field) → w.types t n ≡ Some f → (m x : Message) → field_value w (shape_of w t) g m n f ≡ Some x
        → Keeps t m x
    given_keeps (one_scalar s) t n f has m x e =
        option_and_then_some (add_one (w.types t) n f.part f.label m) (scalar_content (wanted_of w (w.names t) n f.part f.label) s) x e (λ c here there.
        one_keeps t n f has m x c (scalar_read ((w.names t).enum_number n) (kind_of (w.names t) n f.part f.label) s c (subst (λ k. scalar_content k s ≡ Some c) (wanted_is w (w.names t) n f.part f.label) here)) there)
    given_keeps (one_message colon b fs) t n f has m x e =
        option_and_then_some (add_one (w.types t) n f.part f.label m) (message_content (wanted_of w (w.names t) n f.part f.label) (λ s. value w s fs nothing)) x e (λ c here there.
        one_keeps t n f has m x c
        (message_read fs (λ u m is. fields_keep fs u nothing m is (λ n. refl)) ((w.names t).enum_number n) (kind_of (w.names t) n f.part f.label) c (subst (λ k. message_content k (λ s. value w s fs nothing) ≡ Some c) (wanted_is w (w.names t) n f.part f.label) here)) there)
    given_keeps (listed vs) t n f has m x e =
        option_and_then_some (add_all (w.types t) n f.part f.label m) (values_contents w (wanted_of w (w.names t) n f.part f.label) vs) x e (λ cs here there.
        all_keep t n f has m x cs (values_read vs ((w.names t).enum_number n) (kind_of (w.names t) n f.part f.label) cs (subst (λ k. values_contents w k vs ≡ Some cs) (wanted_is w (w.names t) n f.part f.label) here)) there)

    fields_keep : (fs : Fields) (t : Name) (m x : Message) → value w (shape_of w t) fs m ≡ Some x → Keeps t m x
    fields_keep no_fields t m x e all = subst (KnowsAll w.types t) (let same : m ≡ x = cc in same) all
    fields_keep (more_fields name g s fs) t m x e all =
        option_and_then_some (value w (shape_of w t) fs) (named_value w (shape_of w t) name m (field_value w (shape_of w t) g m) (λ u. body_value w u g)) x e
        (λ y here later.
        fields_keep fs t y x later (named_keeps t m y name (field_value w (shape_of w t) g m) (λ u. body_value w u g) (λ n f z has given. given_keeps g t n f has m z given) here all))

  pub body_known : (g : Given) (u : Name) (m : Message) → body_value w u g ≡ Some m → KnowsAll w.types u m
  body_known (one_message colon b fs) u m e = fields_keep fs u nothing m e (λ n. refl)
  body_known (one_scalar s) u m e = absurd (none-some m e)
  body_known (listed vs) u m e = absurd (none-some m e)

  pub merged_known : (t : Name) (start m : Message) (z : Text) → KnowsAll w.types t start → IsMerged w t start z m → KnowsAll w.types t m
  merged_known t start m z all h = fields_keep h.0 t start m h.2 all

  pub given_known : (t : Name) (z : Text) (m : Message) → Gives w t z m → KnowsAll w.types t m
  given_known t z m h = merged_known t nothing m z (λ n. refl) h
