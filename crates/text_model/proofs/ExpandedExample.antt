-- A worked case: the premise of the laws of expansions is met by what an expansion gives.
use Rattle.std.proofs.Common.{◌≡◌, inl, inr, ℕ, zero, suc, pos, ◌<◌, ◌^◌, ◌==◌, length, Bool, true, false, cond, [], ◌∷◌, Option, None, Some, unwrap_or, codes, refl, sym, ap, ◌∙◌, subst, arith}
use Rattle.std.proofs.lemmas.Bool.Decides.{eqb_tells}
use mathlib.Core.Path.{fun_ext}
use Rattle.protox_lex.specs.Class.{Text}
use Rattle.protobuf_model.specs.Bytes.{bytes_of}
use Rattle.protobuf_model.specs.Typed.{IsHeldOf, IsTypedBy, IsTyped}
use Rattle.protobuf_model.specs.Types.{Name, Field, oneof_of, rival}
use Rattle.protobuf_model.specs.Values.{int32, single, content, Held, Message, absent, nothing}
use Rattle.text_model.specs.Expansions.{EachSuits, HasOneForm, HoldsMessage, HoldsOneForm}
use Rattle.text_model.specs.Plain.{IsPlain, IsPlainHeld}
use Rattle.text_model.specs.Schemas.{shape_of}
use Rattle.text_model.specs.Value.{hold}
use Rattle.text_model.proofs.Examples.{any_message, n_bytes, n_message, number, schema, type_n, types, url}
use Rattle.text_model.proofs.Unset.{no_sibling}

-- ---- message N { int32 bar = 2; } with bar: 66

abbrev n_held : Bool → Held
n_held b = cond b (content (single (int32 (pos 66)))) absent

abbrev n_field : Bool → Option Field
n_field b = cond b (number false None) None

n_alone : (n : ℕ) → oneof_of (types type_n n) ≡ None
n_alone n = by (n == 2) where
  by : (b : Bool) → oneof_of (n_field b) ≡ None
  by true = refl
  by false = refl

n_typed : (inner : Name → Message → Type 0) (levels : ℕ) → IsTypedBy inner levels (types type_n) n_message
n_typed inner levels = record {
  numbers = λ n. elim (eqb_tells n 2) [ inl e ↦ inr (let two = e.1 in (omega (arith, two), omega (arith, two))) | inr e ↦ inl (ap n_held e.0) ];
  contents = λ n. by (n == 2);
  exclusive = λ n q r. absurd (cc (sym r ∙ no_sibling (types type_n) n (n_alone n) q));
} where
  by : (b : Bool) → IsHeldOf inner levels (n_field b) (n_held b)
  by true = (record { sfits = omega arith }, refl)
  by false = tt

n_plain : IsPlain types type_n n_message
n_plain n = by (n == 2) where
  by : (b : Bool) → IsPlainHeld types (n_field b) (n_held b)
  by true = tt
  by false = refl

n_form : (more : ℕ) → HasOneForm more schema type_n n_message
n_form zero = n_typed (IsTyped 99 types) 100
n_form (suc more) =
    let EachHolds : Name → Message → Type 0 = λ u n. (url : Text × Text) (v : Name) (held : Message) → HoldsMessage schema u n url v held → HoldsOneForm schema u n url v held × HasOneForm more schema v held in
    ((λ url v held holds. absurd (cc holds.any)), n_typed (EachSuits EachHolds 99 types) 100)

-- its bytes are 16 66
n_written : bytes_of types type_n n_message ≡ 16 ∷ 66 ∷ []
n_written = ap (bytes_of types type_n) (fun_ext (λ n. by (n == 2) (rival (types type_n) 2 n))) ∙ n_bytes where
  by : (b r : Bool) → n_held b ≡ cond b (content (single (int32 (pos 66)))) (cond r absent absent)
  by true r = refl
  by false true = refl
  by false false = refl

-- ---- the Any that holds it under x.y/N

any_one : HoldsOneForm schema (codes "Any") any_message (codes "x.y", codes "N") type_n n_message
any_one = record {
  domain = refl;
  name = refl;
  plain = n_plain;
  small = subst (λ (b : Text). length b < 2 ^ 64) (sym n_written) (omega arith);
  alone = ap (λ b. hold (shape_of schema (codes "Any")) url b nothing) n_written;
}

abbrev IsAsItShould : ℕ → Text × Text → Name → Message → Type 0
IsAsItShould more u t held = HoldsOneForm schema (codes "Any") any_message u t held × HasOneForm more schema t held

pub any_form : (more : ℕ) (u : Text × Text) (t : Name) (held : Message) → HoldsMessage schema (codes "Any") any_message u t held → IsAsItShould more u t held
any_form more u t held holds =
    let its_url : (codes "x.y", codes "N") ≡ u = ap (λ o. unwrap_or o u) holds.slash in
    let its_type : type_n ≡ t = ap (λ o. unwrap_or o t) (subst (λ (u : Text × Text). schema.message u.1 ≡ Some t) (sym its_url) holds.known) in
    let its_bytes : 16 ∷ 66 ∷ [] ≡ holds.bytes = ap (λ o. unwrap_or o holds.bytes) holds.there in
    let its_message : n_message ≡ held = ap (λ o. unwrap_or o held) (subst (λ (b : Text). schema.decoded t b ≡ Some held) (sym its_bytes) holds.decoded) in
    subst (IsAsItShould more u t) its_message (subst (λ t. IsAsItShould more u t n_message) its_type (subst (λ u. IsAsItShould more u type_n n_message) its_url (any_one, n_form more)))
