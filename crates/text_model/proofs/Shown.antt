-- What a message is printed as is cut into its tokens again.
use Rattle.std.proofs.Common.{codes, ◌≡◌, ℕ, ℤ, suc, pos, negsuc, ◌<◌, ◌^◌, ◌&&◌, not, Bool, true, false, cond, List, [], ◌∷◌, Option, Some, None, FitsSigned, refl, sym, subst, arith}
use Rattle.std.specs.Int.{w32, w64}
use Rattle.std.specs.List.{flat_map, list_all, AllByRecursion}
use Rattle.std.proofs.lemmas.Bool.{and_parts, not-true}
use Rattle.protox_lex.specs.Class.{Text}
use Rattle.text_lex.specs.Lex.{lexemes}
use Rattle.text_lex.proofs.Lexing.{all_longest}
use Rattle.protobuf_model.specs.Values.{Single, truth, int32, int64, uint32, uint64, text, blob, enumerated, Content, single, message, list, dictionary, Contents, no_contents, more_contents, Entries, no_entries, more_entries, Held, content, records, Message, list_of, pairs_of}
use Rattle.protobuf_model.specs.Types.{Name, Scalar, Kind, scalar, nested, Part, Key, Label, one, many, keyed, Field}
use Rattle.protobuf_model.specs.Types as kinds
use Rattle.protobuf_model.specs.Scalars.{Suits}
use Rattle.protobuf_model.specs.Coded.{SuitsType}
use Rattle.protobuf_model.proofs.Arranged.{all_append}
use Rattle.protobuf_model.specs.Typed.{IsOf, IsEntryOf, IsFieldOf, IsHeldOf, IsTypedBy}
use Rattle.text_model.specs.Tree.{one_scalar, FullName, FieldName, plain, extension, no_separator, Given, Fields, no_fields}
use Rattle.text_model.specs.Tokens.{fields_tokens}
use Rattle.text_model.specs.Forms.{Form, between}
use Rattle.text_model.specs.Schemas.{Names, Schema}
use Rattle.text_model.specs.Printed.{Inner, joined, parts, field_name, lacks_presence, default_given, unset, natural, whole, named, printed_single, value_in, printed_content, printed_list, printed_entries, printed_held, printed_fields, printed_by, printed, printing_order}
use Rattle.text_model.specs.Plain.{AreBytes, IsPlain}
use Rattle.text_model.specs.Expansions.{HasOneForm, HoldsOneForm}
use Rattle.text_model.specs.Unset.{IsOfKind, HasReadDefault, HaveReadDefaults}
use Rattle.text_model.specs.Identifiers.{is_identifier, is_full_name, AreIdentifiers, HaveIdentifiers}
use Rattle.text_model.specs.Rendered.{compact, pretty, text_of}
use Rattle.text_model.specs.Texts.{Spells}
use Rattle.text_model.proofs.InBytes.{HasBytes, HaveBytes, EntriesHaveBytes, IsHeldInBytes, IsInBytes, plain_in_bytes}
use Rattle.text_model.proofs.Leaves.{IsEnd, Lexed, are_tokens}
use Rattle.text_model.proofs.Expansions.{IsExpansion, all_printed}
use Rattle.text_model.proofs.Utf8.{utf8_small}
use Rattle.text_model.proofs.Pretty.{pretty_lexed}
use Rattle.text_model.proofs.Written.{IsBetween, IsCleanScalar, IsFullNameShown, IsNameShown, IsValueShown, AreValuesShown, IsGivenShown, AreShown, shown_lexed}

-- ---- single values

natural_shown : (minus : Bool) (n : ℕ) → n < 2 ^ 64 → IsCleanScalar (natural minus n)
natural_shown minus n h = (n, h, refl)

whole_32 : (z : ℤ) → FitsSigned w32 z → IsCleanScalar (whole z)
whole_32 (pos n) h = natural_shown false n (let k : n < 2 ^ 31 = h.sfits in omega arith)
whole_32 (negsuc n) h = natural_shown true (suc n) (let k : n < 2 ^ 31 = h.sfits in omega arith)

whole_64 : (z : ℤ) → FitsSigned w64 z → IsCleanScalar (whole z)
whole_64 (pos n) h = natural_shown false n (let k : n < 2 ^ 63 = h.sfits in omega arith)
whole_64 (negsuc n) h = natural_shown true (suc n) (let k : n < 2 ^ 63 = h.sfits in omega arith)

-- names of an enum's values are identifiers
abbrev AreSpelled : (ℤ → Option Text) → Type 0
AreSpelled name = (z : ℤ) (w : Text) → name z ≡ Some w → is_identifier w ≡ true

named_shown : (name : ℤ → Option Text) (z : ℤ) → AreSpelled name → FitsSigned w32 z → IsCleanScalar (printed_single name (enumerated z))
named_shown name z spelled h = by (name z) refl where
  by : (o : Option Text) → name z ≡ o → IsCleanScalar (elim o [ None ↦ whole z | Some w ↦ named w ])
  by None e = whole_32 z h
  by (Some w) e = spelled z w e

single_shown : (name : ℤ → Option Text) (k : Scalar) (v : Single) → AreSpelled name → AreBytes v → Suits k v → IsCleanScalar (printed_single name v)
single_shown name kinds.int32 (int32 z) f b h = whole_32 z h
single_shown name kinds.sint32 (int32 z) f b h = whole_32 z h
single_shown name kinds.sfixed32 (int32 z) f b h = whole_32 z h
single_shown name kinds.int64 (int64 z) f b h = whole_64 z h
single_shown name kinds.sint64 (int64 z) f b h = whole_64 z h
single_shown name kinds.sfixed64 (int64 z) f b h = whole_64 z h
single_shown name kinds.uint32 (uint32 n) f b h = natural_shown false n (omega arith)
single_shown name kinds.fixed32 (uint32 n) f b h = natural_shown false n (omega arith)
single_shown name kinds.uint64 (uint64 n) f b h = natural_shown false n h
single_shown name kinds.fixed64 (uint64 n) f b h = natural_shown false n h
single_shown name kinds.bool (truth true) f b h = refl
single_shown name kinds.bool (truth false) f b h = refl
single_shown name kinds.string (text s) f b h = (s, utf8_small s h, refl)
single_shown name kinds.bytes (blob s) f b h = (s, b, refl)
single_shown name kinds.enumeration (enumerated z) f b h = named_shown name z f h
single_shown name k v f b h = absurd h

-- ---- names and fields

abbrev IsEntryShown : Bool → FieldName × Given → Type 0
IsEntryShown p e = IsNameShown e.0 × IsGivenShown p e.1

last_is : (p : Bool) → IsBetween p no_separator no_fields
last_is true = tt
last_is false = tt

between_is : (p : Bool) (fs : Fields) → IsBetween p (between p) fs
between_is true fs = tt
between_is false fs = tt

joined_shown : (p : Bool) (es : List (FieldName × Given)) → AllByRecursion (IsEntryShown p) es → AreShown p (joined (between p) es)
joined_shown p [] h = tt
joined_shown p (e ∷ []) h = (h.0.0, h.0.1, last_is p, tt)
joined_shown p (e ∷ d ∷ es) h = (h.0.0, h.0.1, between_is p (joined (between p) (d ∷ es)), joined_shown p (d ∷ es) h.1)

each_identifier : (ws : List Text) → list_all is_identifier ws ≡ true → AllByRecursion (λ w. is_identifier w ≡ true) ws
each_identifier [] h = tt
each_identifier (w ∷ ws) h = let p = and_parts (is_identifier w) (list_all is_identifier ws) h in (p.0, each_identifier ws p.1)

full_name_shown : (n : FullName) → is_full_name n ≡ true → IsFullNameShown n
full_name_shown n h = let p = and_parts (is_identifier n.first) (list_all is_identifier n.others) h in (p.0, each_identifier n.others p.1)

name_shown : (names : Names) (n : ℕ) (f : Field) → cond f.extension (is_full_name (parts (names.name n))) (is_identifier (names.name n)) ≡ true → IsNameShown (field_name names n f)
name_shown names n f h = by (f.extension) refl h where
  by : (b : Bool) → f.extension ≡ b → cond f.extension (is_full_name (parts (names.name n))) (is_identifier (names.name n)) ≡ true → IsNameShown (cond f.extension (extension (parts (names.name n))) (plain (names.name n)))
  by false e h =
      subst (λ b. IsNameShown (cond b (extension (parts (names.name n))) (plain (names.name n)))) (sym e)
      (subst (λ b. cond b (is_full_name (parts (names.name n))) (is_identifier (names.name n)) ≡ true) e h)
  by true e h =
      subst (λ b. IsNameShown (cond b (extension (parts (names.name n))) (plain (names.name n)))) (sym e)
      (full_name_shown (parts (names.name n)) (subst (λ b. cond b (is_full_name (parts (names.name n))) (is_identifier (names.name n)) ≡ true) e h))

all_of : (p : Bool) (f : ℕ → List (FieldName × Given)) (ns : List ℕ) → ((n : ℕ) → AllByRecursion (IsEntryShown p) (f n)) → AllByRecursion (IsEntryShown p) (flat_map f ns)
all_of p f [] h = tt
all_of p f (n ∷ ns) h = all_append (IsEntryShown p) (f n) (flat_map f ns) (h n) (all_of p f ns h)

-- ---- contents

module _ (form : Form) (w : Schema) (told : form.defaults ≡ true → HaveReadDefaults w.types) (inner : Inner) (typed : Name → Message → Type 0) (shown : (u : Name) (m : Message) → typed u m → IsInBytes m → AreShown form.pretty (printed_by form w inner u m)) where
  alone_shown : (name : ℤ → Option Text) → AreSpelled name → (k : Kind) (c : Content) → IsOf typed k c → HasBytes c → IsGivenShown form.pretty (printed_content form w inner name k c)
  alone_shown name f (scalar k) (single v) h b = single_shown name k v f b h
  alone_shown name f (nested frame u) (message m) h b = shown u m h b
  alone_shown name f k c h b = absurd h

  element_shown : (name : ℤ → Option Text) → AreSpelled name → (k : Kind) (c : Content) → IsOf typed k c → HasBytes c → IsValueShown form.pretty (value_in (printed_content form w inner name k c))
  element_shown name f (scalar k) (single v) h b = single_shown name k v f b h
  element_shown name f (nested frame u) (message m) h b = shown u m h b
  element_shown name f k c h b = absurd h

  list_shown : (name : ℤ → Option Text) → AreSpelled name → (k : Kind) (cs : Contents) → AllByRecursion (IsOf typed k) (list_of cs) → HaveBytes cs → AreValuesShown form.pretty (printed_list form w inner name k cs)
  list_shown name f k no_contents h b = tt
  list_shown name f k (more_contents c cs) h b = (element_shown name f k c h.0 b.0, list_shown name f k cs h.1 b.1)

  entries_shown : (name : ℤ → Option Text) → AreSpelled name → (key : Key) (part : Part) (es : Entries) → AllByRecursion (IsEntryOf typed key part) (pairs_of es) → EntriesHaveBytes es → AreValuesShown form.pretty (printed_entries form w inner name part.kind es)
  entries_shown name f key part no_entries h b = tt
  entries_shown name f key part (more_entries v c es) h b =
      (joined_shown form.pretty ((plain (codes "key"), one_scalar (printed_single name v)) ∷ (plain (codes "value"), printed_content form w inner name part.kind c) ∷ []) ((refl, single_shown name key.kind v f b.0 h.0.0), ((refl, alone_shown name f part.kind c h.0.1 b.1), tt)), entries_shown name f key part es h.1 b.2)

  field_shown : (name : ℤ → Option Text) → AreSpelled name → (part : Part) (l : Label) (c : Content) → IsFieldOf typed part l c → HasBytes c → IsGivenShown form.pretty (printed_content form w inner name part.kind c)
  field_shown name f part one c h b = alone_shown name f part.kind c h.0 b
  field_shown name f part (many packed) (list (more_contents c cs)) h b = list_shown name f part.kind (more_contents c cs) h b
  field_shown name f part (keyed key) (dictionary (more_entries v c es)) h b = entries_shown name f key part (more_entries v c es) h.0 b
  field_shown name f part l c h b = absurd h

  default_shown : (name : ℤ → Option Text) → AreSpelled name → (k : Kind) (d : Single) → IsOfKind k d → IsGivenShown form.pretty (one_scalar (printed_single name d))
  default_shown name f (scalar k) d h = single_shown name k d f h.1 h.0
  default_shown name f (nested frame u) d h = absurd h

  standing_shown : (name : ℤ → Option Text) → AreSpelled name → (part : Part) (l : Label) → HasReadDefault part l → IsGivenShown form.pretty (default_given name part l)
  standing_shown name f part one h = default_shown name f part.kind part.default h
  standing_shown name f part (many packed) h = tt
  standing_shown name f part (keyed key) h = tt

  module _ (t : Name) (a : AreIdentifiers (w.types t) (w.names t)) where
    unset_shown : (n : ℕ) (o : Option Field) → w.types t n ≡ o → AllByRecursion (IsEntryShown form.pretty) (unset form (w.names t) n o)
    unset_shown n None e = tt
    unset_shown n (Some f) e = by (form.defaults && (not f.extension && lacks_presence f.part f.label)) refl where
      pair : FieldName × Given
      pair = (field_name (w.names t) n f, default_given ((w.names t).enum_name n) f.part f.label)

      by : (b : Bool) → (form.defaults && (not f.extension && lacks_presence f.part f.label)) ≡ b → AllByRecursion (IsEntryShown form.pretty) (cond (form.defaults && (not f.extension && lacks_presence f.part f.label)) (pair ∷ []) [])
      by false is = subst (λ b. AllByRecursion (IsEntryShown form.pretty) (cond b (pair ∷ []) [])) (sym is) tt
      by true is =
          let both = and_parts form.defaults (not f.extension && lacks_presence f.part f.label) is in
          let field = and_parts (not f.extension) (lacks_presence f.part f.label) both.1 in
          let fit = told both.0 t n f e (not-true f.extension field.0) field.1 in
          subst (λ b. AllByRecursion (IsEntryShown form.pretty) (cond b (pair ∷ []) [])) (sym is)
          ((name_shown (w.names t) n f (a.fields n f e), standing_shown ((w.names t).enum_name n) (a.enums n) f.part f.label fit.1), tt)

    held_shown : (levels n : ℕ) (o : Option Field) → w.types t n ≡ o → (h : Held) → IsHeldOf typed levels o h → IsHeldInBytes h → AllByRecursion (IsEntryShown form.pretty) (printed_held form w inner (w.names t) n o h)
    held_shown levels n o e (records ps) h b = unset_shown n o e
    held_shown levels n None e (content c) h b = absurd h
    held_shown levels n (Some f) e (content c) h b = ((name_shown (w.names t) n f (a.fields n f e), field_shown ((w.names t).enum_name n) (a.enums n) f.part f.label c h b), tt)

    pub fields_shown : (levels : ℕ) (m : Message) → IsTypedBy typed levels (w.types t) m → IsInBytes m → AreShown form.pretty (joined (between form.pretty) (printed_fields form w inner t m))
    fields_shown levels m h b =
        joined_shown form.pretty (printed_fields form w inner t m) (all_of form.pretty (λ n. printed_held form w inner (w.names t) n (w.types t n) (m n)) (printing_order form (w.names t) (w.types t))
        (λ n. held_shown levels n (w.types t n) refl (m n) (h.contents n) (b n)))

expansion_shown : (form : Form) (w : Schema) (inner : Inner) (t : Name) (m : Message) (fs : Fields) (e : IsExpansion form w inner t m fs) → HoldsOneForm w t m e.url e.type e.held → AreShown form.pretty e.given → AreShown form.pretty fs
expansion_shown form w inner t m fs e its shown =
    subst (AreShown form.pretty) (sym e.same)
    ((full_name_shown (parts e.url.0) its.domain, full_name_shown (parts e.url.1) its.name), shown, last_is form.pretty, tt)

-- fields that are printed are cut into again
tree_lexed : (form : Form) (fs : Fields) → AreShown form.pretty fs → Lexed IsEnd (text_of form fs) (fields_tokens fs)
tree_lexed form fs = by form.pretty where
  by : (b : Bool) → AreShown b fs → Lexed IsEnd (cond b (pretty fs) (compact fs)) (fields_tokens fs)
  by true c = pretty_lexed fs c
  by false c = shown_lexed fs c

-- what is printed of a message is shown, whatever records it keeps
pub tree_shown : (form : Form) (w : Schema) → HaveIdentifiers w → (form.defaults ≡ true → HaveReadDefaults w.types) → (t : Name) (m : Message) → SuitsType w.types t m → IsInBytes m → (form.expands ≡ true → HasOneForm 100 w t m)
    → AreShown form.pretty (printed form w t m)
tree_shown form w a told t m h b forms =
    all_printed form w (λ t m. IsInBytes m) (plain_in_bytes w.types) (λ t m fs. AreShown form.pretty fs)
    (λ inner typed shown levels t m h b. fields_shown form w told inner typed shown t (a t) levels m h b)
    (λ inner t m fs e its shown. expansion_shown form w inner t m fs e its shown)
    t m h b forms

pub text_spelled : (form : Form) (w : Schema) → HaveIdentifiers w → (form.defaults ≡ true → HaveReadDefaults w.types) → (t : Name) (m : Message) → SuitsType w.types t m → IsPlain w.types t m → (form.expands ≡ true → HasOneForm 100 w t m)
    → Spells (text_of form (printed form w t m)) (printed form w t m)
text_spelled form w a told t m h b forms =
    let tree = printed form w t m in
    let z = text_of form tree in
    let cut = (tree_lexed form tree (tree_shown form w a told t m h (plain_in_bytes w.types t m b) forms)).cut 0 in
    record { lexemes = lexemes z; cut = all_longest 0 z; tokens = are_tokens (lexemes z) (fields_tokens tree) cut }
