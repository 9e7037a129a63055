-- What an expansion puts into a google.protobuf.Any: a URL in UTF-8, and bytes.
use Rattle.std.proofs.Common.{◌≡◌, ℕ, zero, suc, ◌<◌, ◌^◌, nat_lt, Bool, true, false, cond, List, [], ◌∷◌, ◌++◌, length, Option, None, Some, option_and_then, IsUtf8, get_or, refl, sym, ap, ◌∙◌, subst, arith}
use Rattle.std.specs.List.{flat_map}
use Rattle.std.proofs.lemmas.Option.{none-some, option_and_then_some}
use Rattle.std.proofs.lemmas.Str.{IsUtf8-from_ascii}
use Rattle.protox_lex.specs.Class.{Text}
use Rattle.protobuf_model.specs.Values.{text, blob, single, Message}
use Rattle.protobuf_model.specs.Types.{Name, string, bytes, Field}
use Rattle.protobuf_model.specs.Typed.{IsOf, IsTyped}
use Rattle.protobuf_model.specs.Meaning.{settle}
use Rattle.protobuf_model.specs.Bytes.{bytes_of}
use Rattle.protobuf_model.proofs.Arranged.{all_append}
use Rattle.text_model.specs.Tree.{FullName}
use Rattle.text_model.specs.Tokens.{dotted, full_name_tokens}
use Rattle.text_model.specs.Schemas.{Schema, shape_of}
use Rattle.text_laws.specs.SoundTypes.{HoldsScalar, HasSoundTypes}
use Rattle.text_model.specs.Value.{assign, written, hold, expanded}
use Rattle.text_model.specs.Plain.{IsPlain}
use Rattle.text_laws.proofs.Small.{AreSmall}
use Rattle.text_laws.proofs.CutTokens.{AreAscii, AreFine}
use Rattle.text_laws.proofs.FieldsSuit.{Keeps, settled_keeps, keeps_through}
use Rattle.text_laws.proofs.SmallBytes.{bytes_small}

ascii_utf8 : (s : Text) → AreAscii s → IsUtf8 s
ascii_utf8 s h = IsUtf8-from_ascii s (λ i. at s i h) where
  at : (s : Text) (i : ℕ) → AreAscii s → get_or s i 0 < 128
  at [] zero h = omega arith
  at [] (suc i) h = omega arith
  at (b ∷ s) zero h = h.0
  at (b ∷ s) (suc i) h = at s i h.1

name_ascii : (P : Type 0) (n : FullName) → AreFine P (full_name_tokens n) → AreAscii (written n)
name_ascii P n h = all_append (λ b. b < 128) n.first (flat_map (λ w. 46 ∷ w) n.others) h.0 (others n.others h.1) where
  others : (ws : List Text) → AreFine P (flat_map dotted ws) → AreAscii (flat_map (λ w. 46 ∷ w) ws)
  others [] h = tt
  others (w ∷ ws) h = (omega arith, all_append (λ b. b < 128) w (flat_map (λ w. 46 ∷ w) ws) h.1.0 (others ws h.1.1))

url_utf8 : (P : Type 0) (domain name : FullName) → AreFine P (full_name_tokens domain) → AreFine P (full_name_tokens name) → IsUtf8 (written domain ++ 47 ∷ written name)
url_utf8 P domain name h k = ascii_utf8 (written domain ++ 47 ∷ written name) (all_append (λ b. b < 128) (written domain) (47 ∷ written name) (name_ascii P domain h) (omega arith, name_ascii P name k))

cond_then : (b : Bool) (o : Option Message) (x : Message) → cond b o None ≡ Some x → (b ≡ true) × (o ≡ Some x)
cond_then true o x e = (refl, e)
cond_then false o x e = absurd (none-some x e)

module _ (P : Type 0) (w : Schema) (sound : HasSoundTypes w) (inner : Name → Message → Type 0) (levels : ℕ) (t : Name) (m x : Message) where
  hold_keeps : (url body : Text) → IsUtf8 url → (P → AreSmall body) → HoldsScalar string (w.types t 1) → HoldsScalar bytes (w.types t 2) → hold (shape_of w t) url body m ≡ Some x → Keeps P inner levels w.types t m x
  hold_keeps url body u b f g e =
      let first = f.2 in
      let second = g.2 in
      let y = assign (w.types t) 1 (settle f.0 (text url)) m in
      let done : Some (assign (w.types t) 2 (settle g.0 (blob body)) y) ≡ Some x =
      sym (ap (option_and_then (λ (p : Field). option_and_then (λ (q : Field). Some (assign (w.types t) 2 (settle q.part (blob body)) (assign (w.types t) 1 (settle p.part (text url)) m))) (w.types t 2))) first.2
      ∙ ap (option_and_then (λ (q : Field). Some (assign (w.types t) 2 (settle q.part (blob body)) y))) second.2)
      ∙ e in
      keeps_through P inner levels w.types t m y x
      (settled_keeps P inner levels w.types t 1 f.0 first.0 first.1 first.2 (sound.numbers t 1 _ first.2) m y (single (text url)) (subst (λ k. IsOf inner k (single (text url))) (sym f.1) u) (λ p. tt) refl)
      (settled_keeps P inner levels w.types t 2 g.0 second.0 second.1 second.2 (sound.numbers t 2 _ second.2) y x (single (blob body)) (subst (λ k. IsOf inner k (single (blob body))) (sym g.1) tt) b done)

  pub expanded_keeps : (domain name : FullName) → AreFine P (full_name_tokens domain) → AreFine P (full_name_tokens name) → (fill : Name → Option Message) → ((u : Name) (b : Message) → fill u ≡ Some b → IsTyped levels w.types u b × (P → IsPlain w.types u b))
      → expanded w (shape_of w t) domain name m fill ≡ Some x → Keeps P inner levels w.types t m x
  expanded_keeps domain name h k fill right e =
      let url = written domain ++ 47 ∷ written name in
      let any = cond_then (w.is_any t) _ x e in
      let holds = sound.any t any.0 in
      option_and_then_some _ (w.message (written name)) x any.1 (λ u found filled.
      option_and_then_some _ (fill u) x filled (λ b body held.
      let r = right u b body in
      hold_keeps url (bytes_of w.types u b) (url_utf8 P domain name h k) (λ p. bytes_small levels w.types u b r.0 (r.1 p)) holds.0 holds.1
      (cond_then (nat_lt (length (bytes_of w.types u b)) (2 ^ 64)) (hold (shape_of w t) url (bytes_of w.types u b) m) x held).1))
