-- What the printer expands of an Any is what the model does.
use Rattle.std.proofs.Common.{◌≡◌, inl, inr, ℕ, suc, ◌==◌, ◌&&◌, Bool, true, false, cond, [], ◌∷◌, ◌++◌, Option, Some, None, option_map, option_and_then, refl, sym, ap, ap₂, ◌∙◌, subst, arith}
use Rattle.std.proofs.lemmas.Bool.Decides.{eqb_tells}
use Rattle.protox_lex.specs.Class.{Text}
use Rattle.reflect_tables.specs.Types.{PoolType}
use Rattle.reflect_pool.specs.declared.message.MessageDescriptor.{MessageDescriptor}
use Rattle.reflect_any.specs.Any.{IsAny}
use Rattle.reflect_message.specs.Contents.{content_of}
use Rattle.reflect_message.specs.Names.{DynamicMessage, Value}
use Rattle.print_parts.specs.Expands as any
use Rattle.print_parts.specs.Expands.{Expands, FindsByUrl, IsUnder, Lacks, holds, other, refused, without_bytes, without_type, without_url}
use Rattle.print_parts.specs.Parts.{url_in}
use Rattle.protobuf_model.specs.Types.{Name}
use Rattle.protobuf_model.specs.Values.{Message}
use Rattle.text_model.specs.Expansions.{HoldsMessage}
use Rattle.text_model.specs.Forms.{Form}
use Rattle.text_model.specs.Printed.{Inner, bytes_in, expanded_as, held_in, in_any, last_slash, text_in}
use Rattle.text_model.specs.Schemas.{Schema}
use Rattle.text_model.specs.Tree.{Fields}
use Rattle.message_view.specs.Shaped.{IsShaped, Shaped}
use Rattle.message_view.specs.Sound.{IsSound}
use Rattle.message_view.specs.Types.{name_at, place_in}
use Rattle.message_view.specs.Views.{view}
use Rattle.message_view.proofs.Recoded.{decoded_shaped}
use Rattle.message_view.proofs.Sound.{found_at as placed}
use Rattle.text_view.specs.Schemas.{is_any_at, schema_of}
use Rattle.text_view.proofs.Any.{any_told, told_any}
use Rattle.text_view.proofs.Wanted.{type_found, type_missing}
use Rattle.print_view.specs.Expansions.{DecodesIn, HasUsualAny}
use Rattle.print_view.proofs.AnyFields.{bytes_under, text_under}

-- ---- URLs

abbrev slash_behind : ℕ → Text → Option (Text × Text) → Option (Text × Text)
slash_behind b bs (Some p) = Some (b ∷ p.0, p.1)
slash_behind b bs None = cond (b == 47) (Some ([], bs)) None

slash_next : (b : ℕ) (bs : Text) → last_slash (b ∷ bs) ≡ slash_behind b bs (last_slash bs)
slash_next b bs = by (last_slash bs) where
  by : (o : Option (Text × Text)) → elim o [ Some p ↦ Some (b ∷ p.0, p.1) | None ↦ cond (b == 47) (Some ([], bs)) None ] ≡ slash_behind b bs o
  by (Some p) = refl
  by None = refl

pub no_slash : (z : Text) → Lacks 47 z → last_slash z ≡ None
no_slash [] h = refl
no_slash (b ∷ bs) h =
    slash_next b bs ∙ ap (slash_behind b bs) (no_slash bs (λ j lt e. h (suc j) (omega (arith, lt)) e))
    ∙ elim (eqb_tells b 47) [ inl e ↦ absurd (h 0 (omega arith) e.1) | inr e ↦ ap (λ t. cond t (Some ([], bs)) None) e.0 ]

pub found_slash : (front name : Text) → Lacks 47 name → last_slash (front ++ 47 ∷ name) ≡ Some (front, name)
found_slash [] name h = slash_next 47 name ∙ ap (slash_behind 47 name) (no_slash name h)
found_slash (b ∷ front) name h = slash_next b (front ++ 47 ∷ name) ∙ ap (slash_behind b (front ++ 47 ∷ name)) (found_slash front name h)

-- ---- what is expanded

off : (c : Bool) (o : Option Fields) → cond (c && false) o None ≡ None
off true o = refl
off false o = refl

never : (c : Bool) → ◌≡◌ {A = Option Fields} (cond c None None) None
never true = refl
never false = refl

-- what the model expands an Any as, whose bytes mean a message
pub expanded_in : (form : Form) (w : Schema) (inner : Inner) (t : Name) (m : Message) (url : Text × Text) (u : Name) (held : Message) → form.expands ≡ true → HoldsMessage w t m url u held
    → in_any form w inner t m ≡ option_map (expanded_as url) (inner u held)
expanded_in form w inner t m url u held expands h =
    ap (λ e. cond (e && w.is_any t) (option_and_then as_url (last_slash (text_in (m 1)))) None) expands
    ∙ ap (λ b. cond b (option_and_then as_url (last_slash (text_in (m 1)))) None) h.any
    ∙ ap (option_and_then as_url) h.slash
    ∙ ap (λ o. option_map (expanded_as url) (option_and_then (held_in w inner url.1) o)) h.there
    ∙ ap (λ o. option_map (expanded_as url) (option_and_then (λ u. option_and_then (inner u) (w.decoded u h.bytes)) o)) h.known
    ∙ ap (λ o. option_map (expanded_as url) (option_and_then (inner u) o)) h.decoded where
      as_url : Text × Text → Option Fields
      as_url url = option_map (expanded_as url) (option_and_then (held_in w inner url.1) (bytes_in (m 2)))

-- the message that an Any is expanded as
abbrev pub HeldIn : PoolType → (Name → Text → Option Message) → DynamicMessage → Text → DynamicMessage → Type 0
HeldIn pool decoded m url body = (u : Text × Text) × (u.0 ++ 47 ∷ u.1 ≡ url) × (body.descriptor.pool.now ≡ pool) × Shaped 101 body
    × HoldsMessage (schema_of pool decoded) (name_at pool m.descriptor.index) (view m) u (name_at pool body.descriptor.index) (view body)

module _ (decoded : Name → Text → Option Message) (m : DynamicMessage) (sound : IsSound m.descriptor.pool.now) (usual : HasUsualAny m.descriptor.pool.now) (decodes : DecodesIn m.descriptor.pool.now decoded)
    (levels : ℕ) (shaped : IsShaped (Shaped levels) m.descriptor (content_of m)) where
  abbrev its_pool : PoolType
  its_pool = m.descriptor.pool.now

  abbrev at : ℕ
  at = m.descriptor.index

  abbrev w : Schema
  w = schema_of m.descriptor.pool.now decoded

  abbrev t : Name
  t = name_at m.descriptor.pool.now m.descriptor.index

  here : is_any_at its_pool (place_in its_pool.messages t) ≡ is_any_at its_pool at
  here = ap (is_any_at its_pool) (placed its_pool.messages at m.descriptor.in_range (λ k less e. sound.names at k m.descriptor.in_range less e))

  url_is : IsAny m.descriptor → (u : Value) → IsUnder m 1 u → text_in (view m 1) ≡ url_in (any.text_of u)
  url_is is u under = text_under m sound.apart levels shaped u under is.1 (λ g k. usual at 1 g (any_told m.descriptor is) k)

  bytes_are : IsAny m.descriptor → (b : Value) → IsUnder m 2 b → bytes_in (view m 2) ≡ any.bytes_of b
  bytes_are is b under = bytes_under m sound.apart levels shaped b under is.2 (λ g k. usual at 2 g (any_told m.descriptor is) k)

  -- the message that the printer finds in the Any is held by it
  held_in_any : {url : Text} {body : DynamicMessage} → Expands m (Some (url, body)) → HeldIn its_pool decoded m url body
  held_in_any (holds u b url bytes d body is under told finds there beside read type spelled) = by finds where
    by : FindsByUrl its_pool url (Some d) → HeldIn its_pool decoded m url body
    by (inl none) = absurd (cc none.1)
    by (inr (front, name, whole, lacks, found)) = (
      (front, name),
      sym whole,
      ap (λ (d : MessageDescriptor). d.pool.now) type ∙ there,
      decoded_shaped d bytes body type spelled,
      subst (λ (e : MessageDescriptor). HoldsMessage w t (view m) (front, name) (name_at its_pool e.index) (view body)) (sym type) (record {
        any = here ∙ any_told m.descriptor is;
        slash = ap last_slash (url_is is u under ∙ ap url_in told ∙ whole) ∙ found_slash front name lacks;
        known = type_found its_pool name d found;
        bytes = bytes;
        there = bytes_are is b beside ∙ read;
        decoded = (decodes d there bytes).0 body type spelled;
      }),
    )

  module _ (form : Form) (inner : Inner) where
    -- by whether it is an Any, its URL, and its bytes
    abbrev under_url : Option Text → Text × Text → Option Fields
    under_url b url = option_map (expanded_as url) (option_and_then (held_in w inner url.1) b)

    abbrev of_parts : Bool → Text → Option Text → Option Fields
    of_parts is u b = cond (form.expands && is) (option_and_then (under_url b) (last_slash u)) None

    no_type : (url : Text) (b : Option Text) → FindsByUrl its_pool url None → of_parts true url b ≡ None
    no_type url b (inl none) = ap (λ o. cond (form.expands && true) (option_and_then (under_url b) o) None) (no_slash url none.0) ∙ never (form.expands && true)
    no_type url b (inr (front, name, is, lacks, missing)) =
        ap (λ o. cond (form.expands && true) (option_and_then (under_url b) o) None) (ap last_slash is ∙ found_slash front name lacks)
        ∙ ap (λ o. cond (form.expands && true) (option_map (expanded_as (front, name)) o) None) (nothing b)
        ∙ never (form.expands && true) where
          nothing : (b : Option Text) → option_and_then (held_in w inner name) b ≡ None
          nothing None = refl
          nothing (Some bytes) = ap (option_and_then (λ u. option_and_then (inner u) (decoded u bytes))) (type_missing its_pool name missing)

    no_bytes : (o : Option (Text × Text)) → option_and_then (under_url None) o ≡ None
    no_bytes None = refl
    no_bytes (Some url) = refl

    not_held : (url bytes : Text) (d : MessageDescriptor) → FindsByUrl its_pool url (Some d) → decoded (name_at its_pool d.index) bytes ≡ None → of_parts true url (Some bytes) ≡ None
    not_held url bytes d (inl none) undecoded = absurd (cc none.1)
    not_held url bytes d (inr (front, name, is, lacks, found)) undecoded =
        ap (λ o. cond (form.expands && true) (option_and_then (under_url (Some bytes)) o) None) (ap last_slash is ∙ found_slash front name lacks)
        ∙ ap (λ o. cond (form.expands && true) (option_map (expanded_as (front, name)) (option_and_then (λ u. option_and_then (inner u) (decoded u bytes)) o)) None) (type_found its_pool name d found)
        ∙ ap (λ o. cond (form.expands && true) (option_map (expanded_as (front, name)) (option_and_then (inner (name_at its_pool d.index)) o)) None) undecoded
        ∙ never (form.expands && true)

    none_of : IsAny m.descriptor → Expands m None → of_parts true (text_in (view m 1)) (bytes_in (view m 2)) ≡ None
    none_of is (other none) = absurd (none is)
    none_of is (without_url u under none) = ap (λ z. of_parts true z (bytes_in (view m 2))) (url_is is u under ∙ ap url_in none) ∙ never (form.expands && true)
    none_of is (without_type u url under told finds) = ap (λ z. of_parts true z (bytes_in (view m 2))) (url_is is u under ∙ ap url_in told) ∙ no_type url (bytes_in (view m 2)) finds
    none_of is (without_bytes b under none) =
        ap (of_parts true (text_in (view m 1))) (bytes_are is b under ∙ none)
        ∙ ap (λ o. cond (form.expands && true) o None) (no_bytes (last_slash (text_in (view m 1)))) ∙ never (form.expands && true)
    none_of is (refused u b url bytes d e under told finds there beside read fault why) =
        ap₂ (of_parts true) (url_is is u under ∙ ap url_in told) (bytes_are is b beside ∙ read)
        ∙ not_held url bytes d finds ((decodes d there bytes).1 e fault why)

    -- nothing is, where the printer finds nothing
    pub not_expanded : Expands m None → in_any form w inner t (view m) ≡ None
    not_expanded none = by (is_any_at its_pool at) refl where
      by : (b : Bool) → is_any_at its_pool at ≡ b → of_parts (is_any_at its_pool (place_in its_pool.messages t)) (text_in (view m 1)) (bytes_in (view m 2)) ≡ None
      by false e = ap (λ b. of_parts b (text_in (view m 1)) (bytes_in (view m 2))) (here ∙ e) ∙ off form.expands (option_and_then (under_url (bytes_in (view m 2))) (last_slash (text_in (view m 1))))
      by true e = ap (λ b. of_parts b (text_in (view m 1)) (bytes_in (view m 2))) (here ∙ e) ∙ none_of (told_any m.descriptor e) none

-- so it is in the pool that the message is of
pub held_at : (pool : PoolType) (decoded : Name → Text → Option Message) (levels : ℕ) (m : DynamicMessage) → m.descriptor.pool.now ≡ pool → Shaped (suc levels) m → IsSound pool → DecodesIn pool decoded × HasUsualAny pool
    → (url : Text) (body : DynamicMessage) → Expands m (Some (url, body)) → HeldIn pool decoded m url body
held_at pool decoded levels m there shaped sound expandable url body some =
    subst (λ q. IsSound q → DecodesIn q decoded × HasUsualAny q → HeldIn q decoded m url body) there (λ s e. held_in_any decoded m s e.1 e.0 levels shaped some) sound expandable
