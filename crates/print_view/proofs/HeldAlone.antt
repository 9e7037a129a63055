-- An Any that holds a type's URL and bytes, and nothing else, is plain.
use Rattle.std.proofs.Common.{◌≡◌, ℕ, ◌==◌, ◌||◌, not, Bool, true, false, cond, Option, None, Some, option_and_then, unwrap_or, refl, sym, ap, ap₂, ◌∙◌, subst}
use Rattle.std.proofs.lemmas.Bool.{eqb-true}
use Rattle.protox_lex.specs.Class.{Text}
use Rattle.protobuf_model.specs.Meaning.{settle}
use Rattle.protobuf_model.specs.Scalars.{same}
use Rattle.protobuf_model.specs.Types.{Field, Types, rival}
use Rattle.protobuf_model.specs.Values.{Single, text, blob, single, Held, content, Message, absent, nothing}
use Rattle.text_model.specs.Plain.{IsPlainHeld}
use Rattle.text_model.specs.Schemas.{Shape}
use Rattle.text_model.specs.Value.{assign, hold}
use Rattle.text_model.proofs.InBytes.{IsHeldInBytes, IsInBytes}

module _ (types : Types) where
  -- plain, if it is bytes where it holds any
  abbrev IsFine : Option Field → Held → Type 0
  IsFine o h = IsHeldInBytes h → IsPlainHeld types o h

  none_fine : (o : Option Field) → IsFine o absent
  none_fine None bytes = refl
  none_fine (Some f) bytes = refl

  settled_fine : (f : Field) (v : Single) → IsFine (Some f) (settle f.part v)
  settled_fine f v = by (f.part.presence || not (same v f.part.default)) where
    by : (b : Bool) → IsFine (Some f) (cond b (content (single v)) absent)
    by true = λ bytes. bytes
    by false = λ bytes. refl

  module _ (type : ℕ → Option Field) where
    assign_fine : (n : ℕ) (h : Held) (m : Message) → IsFine (type n) h → ((q : ℕ) → IsFine (type q) (m q)) → (q : ℕ) → IsFine (type q) (assign type n h m q)
    assign_fine n h m here others q = by (q == n) refl where
      either : (b : Bool) → IsFine (type q) (cond b absent (m q))
      either true = none_fine (type q)
      either false = others q

      by : (b : Bool) → (q == n) ≡ b → IsFine (type q) (cond b h (cond (rival type n q) absent (m q)))
      by true is = subst (λ k. IsFine (type k) h) (sym (eqb-true q n is)) here
      by false is = either (rival type n q)

  pub held_alone : (s : Shape) (url bytes : Text) (m : Message) → hold s url bytes nothing ≡ Some m → IsInBytes m → (n : ℕ) → IsPlainHeld types (s.fields n) (m n)
  held_alone s url bytes m is fits = by (s.fields 1) refl (s.fields 2) refl where
    -- the Any, by its two fields
    made : Field → Field → Message
    made f g = assign s.fields 2 (settle g.part (blob bytes)) (assign s.fields 1 (settle f.part (text url)) nothing)

    given : Option Field → Option Field → Option Message
    given f g = option_and_then (λ f. option_and_then (λ g. Some (made f g)) g) f

    by : (f : Option Field) → s.fields 1 ≡ f → (g : Option Field) → s.fields 2 ≡ g → (n : ℕ) → IsPlainHeld types (s.fields n) (m n)
    by None none g two n = absurd (cc (sym (ap (λ o. given o (s.fields 2)) none) ∙ is))
    by (Some f) one None none n = absurd (cc (sym (ap₂ given one none) ∙ is))
    by (Some f) one (Some g) two n =
        let whole : made f g ≡ m = ap (λ o. unwrap_or o m) (sym (ap₂ given one two) ∙ is) in
        let first = assign_fine s.fields 1 (settle f.part (text url)) nothing (subst (λ o. IsFine o (settle f.part (text url))) (sym one) (settled_fine f (text url))) (λ q. none_fine (s.fields q)) in
        let both = assign_fine s.fields 2 (settle g.part (blob bytes)) (assign s.fields 1 (settle f.part (text url)) nothing) (subst (λ o. IsFine o (settle g.part (blob bytes))) (sym two) (settled_fine g (blob bytes))) first in
        subst (λ (m : Message). IsInBytes m → IsPlainHeld types (s.fields n) (m n)) whole (λ fits. both n (fits n)) fits
