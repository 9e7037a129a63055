-- Members of oneofs, and which records of a field stand.
use Rattle.std.proofs.Common.{◌≡◌, ◌≢◌, ℕ, ◌==◌, ◌&&◌, ◌||◌, not, Bool, true, false, true≢false, cond, List, [], ◌∷◌, map, Option, None, Some, refl, sym, ap, ◌∙◌, arith}
use Rattle.std.proofs.lemmas.Bool.{and_parts}
use Rattle.std.specs.Option.{option_and_then}
use Rattle.reflect_tables.specs.Types.{FieldType}
use Rattle.reflect_pool.specs.FieldsLeft.{field_type}
use Rattle.reflect_pool.specs.Parts.{members_of}
use Rattle.reflect_pool.specs.declared.message.MessageDescriptor.{MessageDescriptor}
use Rattle.reflect_pool.specs.declared.field.FieldDescriptor.{FieldDescriptor}
use Rattle.reflect_wire.specs.Records.{Payload}
use Rattle.reflect_entries.specs.Members.{first_number, first_member_of}
use Rattle.reflect_message.specs.Declares.{Owns}
use Rattle.reflect_message.specs.Known.{known_field, known_extension}
use Rattle.reflect_message.specs.Oneofs.{IsSibling}
use Rattle.reflect_decode.specs.Fields.{NoSibling}
use Rattle.reflect_decode.specs.Keeps as keeps
use Rattle.protobuf_model.specs.Types.{Field, oneof_of, same_oneof, rival}
use Rattle.protobuf_model.specs.Meaning.{is_in, payloads}
use Rattle.message_view.specs.Types.{either_field, field_at}
use Rattle.message_view.proofs.Fields.{owned, known}

-- the payloads of a number, by one test and by another
pub payloads_same : (n : ℕ) (rs : List (ℕ × Payload)) → keeps.payloads n rs ≡ payloads n rs
payloads_same n [] = refl
payloads_same n (r ∷ rs) = by (r.0 == n) (payloads_same n rs) where
  by : (b : Bool) → keeps.payloads n rs ≡ payloads n rs → map (λ (r : ℕ × Payload). r.1) (cond b (r ∷ keeps.numbered n rs) (keeps.numbered n rs)) ≡ cond b (r.1 ∷ payloads n rs) (payloads n rs)
  by true ih = ap (λ ps. r.1 ∷ ps) ih
  by false ih = ih

-- a number of which records are read
pub read : (n : ℕ) (r : ℕ × Payload) (rs : List (ℕ × Payload)) → keeps.numbered n (r ∷ rs) ≡ [] → (r.0 ≢ n) × (keeps.numbered n rs ≡ [])
read n r rs e = by (r.0 == n) refl where
  by : (b : Bool) → (r.0 == n) ≡ b → (r.0 ≢ n) × (keeps.numbered n rs ≡ [])
  by true is = absurd (cc (sym (ap (λ b. cond b (r ∷ keeps.numbered n rs) (keeps.numbered n rs)) is) ∙ e))
  by false is = ((λ same. absurd (grind (arith, is, same))), sym (ap (λ b. cond b (r ∷ keeps.numbered n rs) (keeps.numbered n rs)) is) ∙ e)

-- what two oneofs share
same_some : (o p : Option ℕ) → same_oneof o p ≡ true → (a : ℕ) × (o ≡ Some a) × (p ≡ Some a)
same_some (Some a) (Some b) e = (a, refl, let is : a ≡ b = grind (arith, e) in ap Some (sym is))
same_some None p e = absurd (cc e)
same_some (Some a) None e = absurd (cc e)

module _ (m : MessageDescriptor) (type : ℕ → Option Field) (told : (n : ℕ) → type n ≡ field_at m.pool.now m.index n) where
  pub oneof_told : (f : FieldDescriptor) → Owns m f → oneof_of (type (field_type f).number) ≡ first_member_of f
  oneof_told f h =
      let field = field_type f in
      ap oneof_of (told field.number)
      ∙ ap (λ o. oneof_of (either_field m.pool.now m.index o (known_extension m.pool.now m.index field.number))) (owned m f h)
      ∙ ap (λ p. option_and_then (λ k. first_number (members_of p m.index k)) field.oneof) (sym h.0.1)
      ∙ ap (λ i. option_and_then (λ k. first_number (members_of f.message.pool.now i k)) field.oneof) (sym h.0.0)

  -- a number whose field is in a oneof is that of a field
  in_oneof : (q a : ℕ) → oneof_of (type q) ≡ Some a → (g : FieldDescriptor) × Owns m g × ((field_type g).number ≡ q)
  in_oneof q a e = by (known_field m.pool.now m.index q) refl where
    whole : oneof_of (either_field m.pool.now m.index (known_field m.pool.now m.index q) (known_extension m.pool.now m.index q)) ≡ Some a
    whole = ap oneof_of (sym (told q)) ∙ e

    none : (x : Option FieldType) → oneof_of (either_field m.pool.now m.index None x) ≡ Some a → ⊥
    none None h = cc h
    none (Some x) h = cc h

    by : (o : Option FieldType) → known_field m.pool.now m.index q ≡ o → (g : FieldDescriptor) × Owns m g × ((field_type g).number ≡ q)
    by None is = absurd (none (known_extension m.pool.now m.index q) (ap (λ o. oneof_of (either_field m.pool.now m.index o (known_extension m.pool.now m.index q))) (sym is) ∙ whole))
    by (Some g) is = let found = known m q g is in (found.0, found.1, ap (λ (t : FieldType). t.number) found.2 ∙ found.3)

  -- another member of a field's oneof is a rival, and the other way round
  pub sibling_is_rival : (f : FieldDescriptor) → Owns m f → (q : ℕ) → IsSibling m f q → rival type (field_type f).number q ≡ true
  sibling_is_rival f owns q (first, g, also, is, other, mine, its) =
      let n = (field_type f).number in
      let apart : (q == n) ≡ false = grind (arith, other) in
      let a : oneof_of (type n) ≡ Some first = oneof_told f owns ∙ mine in
      let b : oneof_of (type q) ≡ Some first = ap (λ q. oneof_of (type q)) (sym is) ∙ oneof_told g also ∙ its in
      let self : (first == first) ≡ true = grind arith in
      ap (λ t. not t && same_oneof (oneof_of (type n)) (oneof_of (type q))) apart
      ∙ ap (λ o. same_oneof o (oneof_of (type q))) a ∙ ap (same_oneof (Some first)) b ∙ self

  pub rival_is_sibling : (f : FieldDescriptor) → Owns m f → (q : ℕ) → rival type (field_type f).number q ≡ true → IsSibling m f q
  rival_is_sibling f owns q e =
      let n = (field_type f).number in
      let two = and_parts (not (q == n)) (same_oneof (oneof_of (type n)) (oneof_of (type q))) e in
      let shared = same_some (oneof_of (type n)) (oneof_of (type q)) two.1 in
      let g = in_oneof q shared.0 shared.2 in
      (shared.0, g.0, g.1, g.2, apart q n two.0, sym (oneof_told f owns) ∙ shared.1, sym (oneof_told g.0 g.1) ∙ ap (λ q. oneof_of (type q)) g.2 ∙ shared.2) where
        apart : (q n : ℕ) → not (q == n) ≡ true → q ≢ n
        apart q n t is = let self : (q == n) ≡ true = grind (arith, is) in true≢false (sym t ∙ ap not self)

  -- where no record is one of another member, none is one of a rival
  pub no_rivals : (f : FieldDescriptor) → Owns m f → (rs : List (ℕ × Payload)) → NoSibling m f rs → is_in (rival type (field_type f).number) rs ≡ false
  no_rivals f owns [] none = refl
  no_rivals f owns (r ∷ rs) none = by (λ later. no_rivals f owns rs later) (rival type (field_type f).number r.0) refl where
    later : NoSibling m f rs
    later n s = (read n r rs (none n s)).1

    by : (NoSibling m f rs → is_in (rival type (field_type f).number) rs ≡ false) → (b : Bool) → rival type (field_type f).number r.0 ≡ b → (rival type (field_type f).number r.0 || is_in (rival type (field_type f).number) rs) ≡ false
    by rest true is = absurd ((read r.0 r rs (none r.0 (rival_is_sibling f owns r.0 is))).0 refl)
    by rest false is = ap (λ b. b || is_in (rival type (field_type f).number) rs) is ∙ rest later

  pub no_self : (n : ℕ) → rival type n n ≡ false
  no_self n = let self : (n == n) ≡ true = grind arith in ap (λ t. not t && same_oneof (oneof_of (type n)) (oneof_of (type n))) self

  -- a number that is in no oneof has no rivals
  pub no_oneof : (n : ℕ) → oneof_of (type n) ≡ None → (rs : List (ℕ × Payload)) → is_in (rival type n) rs ≡ false
  no_oneof n e [] = refl
  no_oneof n e (r ∷ rs) = ap (λ b. b || is_in (rival type n) rs) (ap (λ o. not (r.0 == n) && same_oneof o (oneof_of (type r.0))) e ∙ never (not (r.0 == n))) ∙ no_oneof n e rs where
    never : (b : Bool) → (b && false) ≡ false
    never true = refl
    never false = refl
