-- What schemas encode texts to is what the model's texts give.
use Rattle.std.proofs.Common.{◌≡◌, ◌≤◌, ◌<◌, ◌^◌, ◌∙◌, ℕ, List, [], ◌∷◌, length, Option, refl, ap, sym, subst}
use Rattle.std.specs.List.{AllByRecursion}
use Rattle.protobuf_model.specs.Bytes.{bytes_of}
use Rattle.protobuf_model.specs.Coded.{Mean}
use Rattle.protobuf_model.specs.Types.{Name}
use Rattle.protobuf_model.specs.Values.{Message, nothing}
use Rattle.protobuf_model.proofs.Bytewise.{bytes_mean, merged_well, one_meaning}
use Rattle.protobuf_model.proofs.Merging.{nothing_typed}
use Rattle.reflect_pool.specs.Dots.{without_dot}
use Rattle.reflect_tables.specs.Types.{PoolType}
use Rattle.reflect_wire.specs.Written.{AreBytes}
use Rattle.reflect_format.specs.Reads.{IsCause}
use Rattle.text_error.specs.declared.error.ParseErrorKind.{ParseErrorKind}
use Rattle.text_error.specs.declared.error.ParseErrorKind.TheVariants as kinds
use Rattle.text_model.specs.Plain.{IsPlain}
use Rattle.text_model.specs.Printed.{printed}
use Rattle.text_model.specs.Rendered.{compact}
use Rattle.text_model.specs.Schemas.{Schema}
use Rattle.text_model.specs.Texts.{Gives}
use Rattle.text_model.specs.Tokens.{open_braces}
use Rattle.text_model.proofs.Back.{printed_text_back}
use Rattle.text_model.proofs.Merging.{one_message}
use Rattle.message_view.specs.Sound.{IsSound}
use Rattle.message_view.specs.Types.{name_at, types_of}
use Rattle.message_view.specs.Views.{view}
use Rattle.message_view.proofs.Decoded.{decoded_means}
use Rattle.message_view.proofs.Recoded.{found_named}
use Rattle.text_view.specs.Schemas.{schema_of}
use Rattle.text_view.specs.SourceNames.{HasSourceNames}
use Rattle.text_view.proofs.HaveNames.{have_identifiers, have_names}
use Rattle.text_laws.proofs.SmallBytes.{bytes_small}
use Rattle.text_laws.proofs.Suited.{given_plain, given_suits}
use Rattle.text_view.proofs.Made.{made_given, none_given}
use Rattle.text_view.proofs.SoundTypes.{small_defaults, sound_types}
use Rattle.print_view.specs.Forms.{own_form}
use Rattle.print_view.proofs.Printed.{decoded_printed}
use Rattle.schema_core.specs.Payloads.{Decoded, Encoded, Recoded}
use Rattle.schema_core.specs.Refusals.{IsNoText}
use Rattle.schema_laws.specs.Reprints.{IsShallow}
use Rattle.schema_laws.proofs.Recoding.{defaults, recodes}

-- the message that a text gives, and the bytes of it
abbrev pub IsGiven : PoolType → (Name → List ℕ → Option Message) → Name → (text out : List ℕ) → Type 0
IsGiven p decoded t text out = (m : Message) × Gives (schema_of p decoded) t text m × (out ≡ bytes_of (types_of p) t m)

-- what causes a refusal, but for want of memory
cause : (P : Type 0) (kind : ParseErrorKind) → (kind ≡ kinds.Memory → ⊥) → IsCause P kind → P
cause P kinds.Memory other h = absurd (other refl)
cause P kind other h = h

-- bytes, by either word
bytes_small_too : (bs : List ℕ) → AreBytes bs → AllByRecursion (λ b. b < 256) bs
bytes_small_too [] h = tt
bytes_small_too (b ∷ bs) h = (h.0, bytes_small_too bs h.1)

small_bytes : (bs : List ℕ) → AllByRecursion (λ b. b < 256) bs → AreBytes bs
small_bytes [] h = tt
small_bytes (b ∷ bs) h = (h.0, small_bytes bs h.1)

module _ (p : PoolType) (sound : IsSound p) (decoded : Name → List ℕ → Option Message) where
  abbrev w : Schema
  w = schema_of p decoded

  pub encoded : (name text out : List ℕ) → Encoded p name text out → IsGiven p decoded (without_dot name) text out
  encoded name text out (d, (there, found), (m, (fs, is_text, makes), written)) =
      let made = made_given d (subst IsSound (sym there) sound) decoded text fs is_text m makes in
      let given : IsGiven d.pool.now decoded (name_at d.pool.now d.index) text out = (view m, made.0, written ∙ made.1) in
      subst (λ t. IsGiven p decoded t text out) (found_named d p name found)
      (subst (λ (q : PoolType). IsGiven q decoded (name_at q d.index) text out) there given)

  pub refused : (name text : List ℕ) (kind : ParseErrorKind) → IsNoText p name text kind
      → (m : Message) → Gives w (without_dot name) text m → ⊥
  refused name text kind (d, (there, found), other, none, true_of, told) m gives =
      let by_name = subst (λ t. Gives w t text m) (sym (found_named d p name found)) gives in
      none_given d (subst IsSound (sym there) sound) decoded text (cause _ kind other none) m
      (subst (λ (q : PoolType). Gives (schema_of q decoded) (name_at q d.index) text m) (sym there) by_name)

  pub one_encoding : (name text a b : List ℕ) → Encoded p name text a → Encoded p name text b → a ≡ b
  one_encoding name text a b first second =
      let x = encoded name text a first in
      let y = encoded name text b second in
      x.2 ∙ ap (bytes_of (types_of p) (without_dot name)) (one_message w (without_dot name) nothing text x.0 y.0 x.1 y.1) ∙ sym y.2

  -- what is printed of bytes
  abbrev IsShown : PoolType → Name → (bytes text : List ℕ) → Type 0
  IsShown q t bytes text = (m : Message) × Mean (types_of q) t bytes m × (text ≡ compact (printed own_form (schema_of q decoded) t m))

  pub shown : (name bytes text : List ℕ) → AreBytes bytes → Decoded p name bytes text → IsShown p (without_dot name) bytes text
  shown name bytes text are (m, (d, (there, found), type, apart, spelled), printed) =
      let its_sound = subst IsSound (sym there) sound in
      let given : IsShown d.pool.now (name_at d.pool.now d.index) bytes text =
      (view m, decoded_means d its_sound bytes are m type spelled, decoded_printed d its_sound bytes m type spelled decoded text printed) in
      subst (λ t. IsShown p t bytes text) (found_named d p name found)
      (subst (λ (q : PoolType). IsShown q (name_at q d.index) bytes text) there given)

  -- what is encoded is accepted, as what the text gives
  means_given : (name text out : List ℕ) (x : IsGiven p decoded (without_dot name) text out) → length out < 2 ^ 64 → Mean (types_of p) (without_dot name) out x.0
  means_given name text out x short =
      let suits = given_suits w (sound_types p sound decoded) (without_dot name) text x.0 x.1 in
      let means = bytes_mean (types_of p) (without_dot name) x.0 suits (subst (λ b. length b < 2 ^ 64) x.2 short) in
      subst (λ b. Mean (types_of p) (without_dot name) b x.0) (sym x.2) means

  pub accepted : (name text out : List ℕ) → Encoded p name text out → length out < 2 ^ 64
      → (m : Message) × Gives w (without_dot name) text m × Mean (types_of p) (without_dot name) out m
  accepted name text out encodes short = let x = encoded name text out encodes in (x.0, x.1, means_given name text out x short)

  module _ (named : HasSourceNames p) (name bytes text : List ℕ) (are : AreBytes bytes) (reads : Decoded p name bytes text)
      (m : Message) (means : Mean (types_of p) (without_dot name) bytes m) (plain : IsPlain (types_of p) (without_dot name) m)
      (shallow : open_braces (printed own_form w (without_dot name) m) ≤ 100) where
    abbrev t : Name
    t = without_dot name

    -- what is printed gives the message again
    gives : Gives w t text m
    gives =
        let s = shown name bytes text are reads in
        let same : s.0 ≡ m = one_meaning (types_of p) t nothing bytes s.0 m s.1 means in
        let suits = merged_well (types_of p) (defaults p sound) t nothing m bytes (nothing_typed 100 (types_of p) t) means in
        subst (λ z. Gives w t z m) (sym (s.2 ∙ ap (λ x. compact (printed own_form w t x)) same))
        (printed_text_back own_form w (have_names p sound named decoded) (have_identifiers p sound named decoded) (λ e. absurd (cc e)) t m suits plain (λ e. absurd (cc e)) shallow)

    pub back : (out again : List ℕ) → Recoded p name bytes out → Encoded p name text again → again ≡ out
    back out again recoded encodes =
        let x = encoded name text again encodes in
        let y = recodes p sound name bytes out are recoded in
        x.2 ∙ ap (bytes_of (types_of p) t) (one_message w t nothing text x.0 m x.1 gives ∙ sym (one_meaning (types_of p) t nothing bytes y.0 m y.1 means)) ∙ y.2

    pub taken : (kind : ParseErrorKind) → IsNoText p name text kind → ⊥
    taken kind no_text = refused name text kind no_text m gives

  -- ---- of bytes that a text was encoded to

  module _ (named : HasSourceNames p) (name text out reprint : List ℕ) (small : AreBytes text) (encodes : Encoded p name text out) (short : length out < 2 ^ 64)
      (reads : Decoded p name out reprint) (shallow : IsShallow w (without_dot name) text) where
    abbrev u : Name
    u = without_dot name

    first : IsGiven p decoded u text out
    first = encoded name text out encodes

    plain_first : IsPlain (types_of p) u first.0
    plain_first = given_plain w (sound_types p sound decoded) (small_defaults p sound named) u text first.0 (bytes_small_too text small) first.1

    out_small : AreBytes out
    out_small =
        let suits = given_suits w (sound_types p sound decoded) u text first.0 first.1 in
        subst AreBytes (sym first.2) (small_bytes (bytes_of (types_of p) u first.0) (bytes_small 100 (types_of p) u first.0 suits plain_first))

    given_again : Gives w u reprint first.0
    given_again = gives named name out reprint out_small reads first.0 (means_given name text out first short) plain_first (shallow first.0 first.1)

    pub same_again : (again : List ℕ) → Encoded p name reprint again → again ≡ out
    same_again again encodes_again =
        let y = encoded name reprint again encodes_again in
        y.2 ∙ ap (bytes_of (types_of p) u) (one_message w u nothing reprint y.0 first.0 y.1 given_again) ∙ sym first.2

    pub taken_again : (kind : ParseErrorKind) → IsNoText p name reprint kind → ⊥
    taken_again kind no_text = refused name reprint kind no_text first.0 given_again
