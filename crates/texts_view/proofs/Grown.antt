-- What a text gives by the older of two schemas it gives by the newer too.
use Rattle.std.proofs.Common.{◌≡◌, ℕ, ℤ, nat_lt, Bool, true, false, cond, List, ◌∷◌, ◌++◌, length, ◌^◌, Option, None, Some, option_and_then, refl, sym, ap, ◌∙◌, subst}
use Rattle.std.proofs.lemmas.Option.{none-some}
use mathlib.Core.Path.{fun_ext}
use Rattle.protox_lex.specs.Class.{Text}
use Rattle.protobuf_model.specs.Values.{text, blob, message, Message, nothing}
use Rattle.protobuf_model.specs.Types.{Name, sized, Kind, scalar, nested, Label, one, many, keyed, Field, oneof_of, rival}
use Rattle.protobuf_model.specs.Older.{AreKinds, AnswersTo, AreOlder}
use Rattle.protobuf_model.specs.Bytes.{bytes_of}
use Rattle.protobuf_model.specs.Meaning.{settle}
use Rattle.text_model.specs.Tree.{FullName, FieldName, plain, extension, expansion, ScalarValue, Value, scalar as one_word, braced, Values, no_values, more_values, Given, one_scalar, one_message, listed, Fields, no_fields, more_fields}
use Rattle.text_model.specs.Schemas.{Schema, shape_of}
use Rattle.text_model.specs.Texts.{IsMerged, Gives}
use Rattle.text_model.specs.Value.{wanted_in, wanted_of, scalar_content, message_content, assign, add_all, add_one, with_field, hold, expanded, written, named_value, value, value_content, values_contents, field_value, body_value}
use Rattle.known_messages.specs.KnownMessages.{KnowsAll}
use Rattle.known_messages.proofs.Written.{known_alike}
use Rattle.texts_view.specs.SaysAll.{HaveEntryValues, SaysAll}
use Rattle.texts_view.proofs.Wanted.{kind_of, wanted_is, Follows, follows_then, follows_map}
use Rattle.texts_view.proofs.Given.{body_known, given_known}
use Rattle.texts_view.proofs.Adding.{rival_same, assign_same, add_all_same, add_one_same}

module _ (old new : Schema) (declared : Name → Bool) (all : SaysAll old new declared) (values : HaveEntryValues old) where
  abbrev IsThere : Name → Type 0
  IsThere t = declared t ≡ true

  -- ---- types

  oneof_same : (t : Name) → IsThere t → (n : ℕ) → oneof_of (old.types t n) ≡ oneof_of (new.types t n)
  oneof_same t there n = by (old.types t n) refl where
    by : (o : Option Field) → old.types t n ≡ o → oneof_of o ≡ oneof_of (new.types t n)
    by None e = sym (all.apart t n there e)
    by (Some f) e = sym (ap oneof_of (all.fields t n f there e))

  abbrev Pair : Name → Name → Type 0
  Pair t u = IsThere t × (t ≡ u)

  same_is_older : (t : Name) → IsThere t → (n : ℕ) (o : Option Field) → old.types t n ≡ o → AnswersTo Pair o (new.types t n)
  same_is_older t there n None e = tt
  same_is_older t there n (Some f) e =
      subst (AnswersTo Pair (Some f)) (sym (all.fields t n f there e)) (record { kind = kinds f.part.kind refl; presence = refl; default = refl; label = refl; extension = refl }) where
        kinds : (k : Kind) → f.part.kind ≡ k → AreKinds Pair k k
        kinds (scalar k) is = refl
        kinds (nested frame u) is = (refl, (all.inside t n f frame u there e is, refl))

  types_older : AreOlder old.types new.types Pair
  types_older = record {
    fields = λ t u p n. subst (λ x. AnswersTo Pair (old.types t n) (new.types x n)) p.1 (same_is_older t p.0 n (old.types t n) refl);
    oneofs = λ t u p n q. subst (λ x. rival (old.types t) n q ≡ rival (new.types x) n q) p.1 (rival_same (old.types t) (new.types t) (oneof_same t p.0) n q);
  }

  known_same : (t : Name) → IsThere t → (m : Message) → KnowsAll old.types t m → bytes_of new.types t m ≡ bytes_of old.types t m
  known_same t there m k = known_alike old.types new.types Pair types_older t t (there, refl) m k

  -- ---- what the values of a field are read as

  abbrev IsThereIn : Kind → Type 0
  IsThereIn (scalar k) = Unit {0}
  IsThereIn (nested frame u) = IsThere u

  kind_there : (t : Name) → IsThere t → (n : ℕ) (f : Field) → old.types t n ≡ Some f → (l : Label) → f.label ≡ l
      → IsThereIn (kind_of (old.names t) n f.part l)
  kind_there t there n f has (keyed key) is = (all.entries t n f key there has is).1
  kind_there t there n f has one is = by f.part.kind refl where
    by : (k : Kind) → f.part.kind ≡ k → IsThereIn k
    by (scalar k) e = tt
    by (nested frame u) e = all.inside t n f frame u there has e
  kind_there t there n f has (many packed) is = by f.part.kind refl where
    by : (k : Kind) → f.part.kind ≡ k → IsThereIn k
    by (scalar k) e = tt
    by (nested frame u) e = all.inside t n f frame u there has e

  kind_same : (t : Name) → IsThere t → (n : ℕ) (f : Field) → old.types t n ≡ Some f → (l : Label) → f.label ≡ l
      → kind_of (new.names t) n f.part l ≡ kind_of (old.names t) n f.part l
  kind_same t there n f has one is = refl
  kind_same t there n f has (many packed) is = refl
  kind_same t there n f has (keyed key) is = ap (nested sized) (all.entries t n f key there has is).0

  -- by the newer as by the older, but for what messages inside are read as
  wanted_same : (t : Name) → IsThere t → (n : ℕ) (f : Field) → old.types t n ≡ Some f
      → wanted_of new (new.names t) n f.part f.label ≡ wanted_in new ((old.names t).enum_number n) (kind_of (old.names t) n f.part f.label)
  wanted_same t there n f has =
      wanted_is new (new.names t) n f.part f.label
      ∙ ap (λ (e : Text → Option ℤ). wanted_in new e (kind_of (new.names t) n f.part f.label)) (fun_ext (λ x. all.enums t n f x there has))
      ∙ ap (wanted_in new ((old.names t).enum_number n)) (kind_same t there n f has f.label refl)

  -- ---- contents that are added to a field

  scalar_follows : (enum : Text → Option ℤ) (k : Kind) (s : ScalarValue)
      → Follows (scalar_content (wanted_in old enum k) s) (scalar_content (wanted_in new enum k) s)
  scalar_follows enum (scalar k) s x e = e
  scalar_follows enum (nested frame u) s x e = absurd (none-some x e)

  abbrev Fills : Fields → Type 0
  Fills fs = (u : Name) → IsThere u → Follows (value old (shape_of old u) fs nothing) (value new (shape_of new u) fs nothing)

  message_follows : (fs : Fields) → Fills fs → (enum : Text → Option ℤ) (k : Kind) → IsThereIn k
      → Follows (message_content (wanted_in old enum k) (λ s. value old s fs nothing)) (message_content (wanted_in new enum k) (λ s. value new s fs nothing))
  message_follows fs each enum (scalar k) there x e = absurd (none-some x e)
  message_follows fs each enum (nested frame u) there x e =
      follows_map message (value old (shape_of old u) fs nothing) (value new (shape_of new u) fs nothing) (each u there) x e

  one_follows : (t : Name) → IsThere t → (n : ℕ) (f : Field) (m : Message) (x : _)
      → Follows (add_one (old.types t) n f.part f.label m x) (add_one (new.types t) n f.part f.label m x)
  one_follows t there n f m c x e = sym (add_one_same (old.types t) (new.types t) (oneof_same t there) n f.part f.label m c) ∙ e

  all_follow : (t : Name) → IsThere t → (n : ℕ) (f : Field) (m : Message) (cs : List _)
      → Follows (add_all (old.types t) n f.part f.label m cs) (add_all (new.types t) n f.part f.label m cs)
  all_follow t there n f m cs x e = sym (add_all_same (old.types t) (new.types t) (oneof_same t there) n f.part f.label m cs) ∙ e

  -- ---- a field that a name finds, and an expansion

  abbrev Gave : Type 0
  Gave = ℕ → Field → Option Message

  with_field_follows : (t : Name) → IsThere t → (o p : Option ℕ) → Follows o p → (give after : Gave)
      → ((n : ℕ) (f : Field) → old.types t n ≡ Some f → Follows (give n f) (after n f))
      → Follows (with_field (shape_of old t) o give) (with_field (shape_of new t) p after)
  with_field_follows t there o p h give after each =
      follows_then (λ n. option_and_then (give n) (old.types t n)) (λ n. option_and_then (after n) (new.types t n)) o p h
      (λ n here. follows_then (give n) (after n) (old.types t n) (new.types t n) (λ f has. all.fields t n f there has) (each n))

  hold_follows : (t : Name) → IsThere t → (url body : Text) (m : Message) → Follows (hold (shape_of old t) url body m) (hold (shape_of new t) url body m)
  hold_follows t there url body m =
      with_field_follows t there (Some 1) (Some 1) (λ n e. e) _ _ (λ n f has.
      with_field_follows t there (Some 2) (Some 2) (λ n e. e) _ _ (λ q g also x e.
      ap Some (sym (assign_same (old.types t) (new.types t) (oneof_same t there) q (settle g.part (blob body)) (assign (old.types t) n (settle f.part (text url)) m)
      ∙ ap (assign (new.types t) q (settle g.part (blob body))) (assign_same (old.types t) (new.types t) (oneof_same t there) n (settle f.part (text url)) m))) ∙ e))

  -- the test of an expansion, by either schema
  follows_if : (b c : Bool) → (b ≡ true → c ≡ true) → (o p : Option Message) → Follows o p → Follows (cond b o None) (cond c p None)
  follows_if false c h o p k x e = absurd (none-some x e)
  follows_if true c h o p k x e = ap (λ c. cond c p None) (h refl) ∙ k x e

  expanded_follows : (t : Name) → IsThere t → (domain name : FullName) (m : Message) (fill after : Name → Option Message)
      → ((u : Name) (b : Message) → fill u ≡ Some b → KnowsAll old.types u b) → ((u : Name) → IsThere u → Follows (fill u) (after u))
      → Follows (expanded old (shape_of old t) domain name m fill) (expanded new (shape_of new t) domain name m after)
  expanded_follows t there domain name m fill after known each =
      let url = written domain ++ 47 ∷ written name in
      let by : Schema → (Name → Message → Option Message) = λ w u b. cond (nat_lt (length (bytes_of w.types u b)) (2 ^ 64)) (hold (shape_of w t) url (bytes_of w.types u b) m) None in
      follows_if (old.is_any t) (new.is_any t) (all.any t there) _ _
      (follows_then (λ u. option_and_then (by old u) (fill u)) (λ u. option_and_then (by new u) (after u)) (old.message (written name)) (new.message (written name)) (λ u found. (all.messages (written name) u found).0)
      (λ u found. let inside = (all.messages (written name) u found).1 in
      follows_then (by old u) (by new u) (fill u) (after u) (each u inside) (λ b is.
      subst (λ bytes. Follows (by old u b) (cond (nat_lt (length bytes) (2 ^ 64)) (hold (shape_of new t) url bytes m) None)) (sym (known_same u inside b (known u b is)))
      (follows_if (nat_lt (length (bytes_of old.types u b)) (2 ^ 64)) _ (λ e. e) _ _ (hold_follows t there url (bytes_of old.types u b) m)))))

  named_follows : (t : Name) → IsThere t → (name : FieldName) (m : Message) (give after : Gave) (fill then : Name → Option Message)
      → ((n : ℕ) (f : Field) → old.types t n ≡ Some f → Follows (give n f) (after n f))
      → ((u : Name) (b : Message) → fill u ≡ Some b → KnowsAll old.types u b) → ((u : Name) → IsThere u → Follows (fill u) (then u))
      → Follows (named_value old (shape_of old t) name m give fill) (named_value new (shape_of new t) name m after then)
  named_follows t there (plain name) m give after fill then each known body =
      with_field_follows t there ((old.names t).field name) ((new.names t).field name) (λ n e. all.named t name n there e) give after each
  named_follows t there (extension name) m give after fill then each known body =
      with_field_follows t there ((old.names t).extension (written name)) ((new.names t).extension (written name))
      (λ n e. all.extended t (written name) n there e) give after each
  named_follows t there (expansion domain name) m give after fill then each known body = expanded_follows t there domain name m fill then known body

  -- ---- values and fields

  mutual
    value_follows : (v : Value) (enum : Text → Option ℤ) (k : Kind) → IsThereIn k
        → Follows (value_content old (wanted_in old enum k) v) (value_content new (wanted_in new enum k) v)
    value_follows (one_word s) enum k there = scalar_follows enum k s
    value_follows (braced b fs) enum k there = message_follows fs (λ u h. fields_follow fs u h nothing) enum k there

    values_follow : (vs : Values) (enum : Text → Option ℤ) (k : Kind) → IsThereIn k
        → Follows (values_contents old (wanted_in old enum k) vs) (values_contents new (wanted_in new enum k) vs)
    values_follow no_values enum k there x e = e
    values_follow (more_values v vs) enum k there x e =
        follows_then _ _ (value_content old (wanted_in old enum k) v) (value_content new (wanted_in new enum k) v) (value_follows v enum k there) (λ c here.
        follows_map (λ cs. c ∷ cs) (values_contents old (wanted_in old enum k) vs) (values_contents new (wanted_in new enum k) vs) (values_follow vs enum k there)) x e

    given_follows : (g : Given) (t : Name) → IsThere t → (m : Message) (n : ℕ) (f : Field) → old.types t n ≡ Some f
        → Follows (field_value old (shape_of old t) g m n f) (field_value new (shape_of new t) g m n f)
    given_follows (one_scalar s) t there m n f has =
        let k = kind_of (old.names t) n f.part f.label in
        follows_then (add_one (old.types t) n f.part f.label m) (add_one (new.types t) n f.part f.label m) _ _
        (subst (λ wanted. Follows (scalar_content wanted s) (scalar_content (wanted_of new (new.names t) n f.part f.label) s)) (sym (wanted_is old (old.names t) n f.part f.label))
        (subst (λ wanted. Follows (scalar_content (wanted_in old ((old.names t).enum_number n) k) s) (scalar_content wanted s)) (sym (wanted_same t there n f has))
        (scalar_follows ((old.names t).enum_number n) k s)))
        (λ c here. one_follows t there n f m c)
    given_follows (one_message colon b fs) t there m n f has =
        let k = kind_of (old.names t) n f.part f.label in
        follows_then (add_one (old.types t) n f.part f.label m) (add_one (new.types t) n f.part f.label m) _ _
        (subst (λ wanted. Follows (message_content wanted (λ s. value old s fs nothing)) (message_content (wanted_of new (new.names t) n f.part f.label) (λ s. value new s fs nothing))) (sym (wanted_is old (old.names t) n f.part f.label))
        (subst (λ wanted. Follows (message_content (wanted_in old ((old.names t).enum_number n) k) (λ s. value old s fs nothing)) (message_content wanted (λ s. value new s fs nothing))) (sym (wanted_same t there n f has))
        (message_follows fs (λ u h. fields_follow fs u h nothing) ((old.names t).enum_number n) k (kind_there t there n f has f.label refl))))
        (λ c here. one_follows t there n f m c)
    given_follows (listed vs) t there m n f has =
        let k = kind_of (old.names t) n f.part f.label in
        follows_then (add_all (old.types t) n f.part f.label m) (add_all (new.types t) n f.part f.label m) _ _
        (subst (λ wanted. Follows (values_contents old wanted vs) (values_contents new (wanted_of new (new.names t) n f.part f.label) vs)) (sym (wanted_is old (old.names t) n f.part f.label))
        (subst (λ wanted. Follows (values_contents old (wanted_in old ((old.names t).enum_number n) k) vs) (values_contents new wanted vs)) (sym (wanted_same t there n f has))
        (values_follow vs ((old.names t).enum_number n) k (kind_there t there n f has f.label refl))))
        (λ cs here. all_follow t there n f m cs)

    body_follows : (g : Given) (u : Name) → IsThere u → Follows (body_value old u g) (body_value new u g)
    body_follows (one_message colon b fs) u there x e = fields_follow fs u there nothing x e
    body_follows (one_scalar s) u there x e = e
    body_follows (listed vs) u there x e = e

    fields_follow : (fs : Fields) (t : Name) → IsThere t → (m : Message) → Follows (value old (shape_of old t) fs m) (value new (shape_of new t) fs m)
    fields_follow no_fields t there m x e = e
    fields_follow (more_fields name g s fs) t there m x e =
        follows_then (value old (shape_of old t) fs) (value new (shape_of new t) fs) _ _
        (named_follows t there name m (field_value old (shape_of old t) g m) (field_value new (shape_of new t) g m) (λ u. body_value old u g) (λ u. body_value new u g)
        (λ n f has. given_follows g t there m n f has) (λ u b is. body_known old values g u b is) (λ u h. body_follows g u h))
        (λ y here. fields_follow fs t there y) x e

  pub merged_again : (t : Name) → IsThere t → (start m : Message) (z : Text) → IsMerged old t start z m → IsMerged new t start z m
  merged_again t there start m z h = (h.0, h.1, fields_follow h.0 t there start m h.2)

  pub given_again : (t : Name) → IsThere t → (z : Text) (m : Message) → Gives old t z m → Gives new t z m
  given_again t there z m = merged_again t there nothing m z

  pub written_again : (t : Name) → IsThere t → (z : Text) (m : Message) → Gives old t z m → bytes_of new.types t m ≡ bytes_of old.types t m
  written_again t there z m h = known_same t there m (given_known old values t z m h)
