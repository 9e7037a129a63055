-- What holds of printed fields holds of printed messages, with expansions or without.
use Rattle.std.proofs.Common.{◌≡◌, ℕ, zero, suc, ◌&&◌, Bool, true, false, true≢false, cond, Option, None, Some, option_map, option_and_then, unwrap_or, refl, sym, ap, ◌∙◌, subst}
use Rattle.std.proofs.lemmas.Bool.{and_parts}
use Rattle.std.proofs.lemmas.Option.{option_and_then_some}
use Rattle.protox_lex.specs.Class.{Text}
use Rattle.protobuf_model.specs.Coded.{SuitsType}
use Rattle.protobuf_model.specs.Typed.{IsTypedBy, IsTyped}
use Rattle.protobuf_model.specs.Types.{Name}
use Rattle.protobuf_model.specs.Values.{Message}
use Rattle.text_model.specs.Expansions.{EachSuits, HasOneForm, HoldsMessage, HoldsOneForm}
use Rattle.text_model.specs.Forms.{Form, between}
use Rattle.text_model.specs.Plain.{IsPlain}
use Rattle.text_model.specs.Printed.{Inner, bytes_in, expanded_as, held_in, in_any, joined, last_slash, or_fields, printed, printed_by, printed_fields, printed_within, text_in}
use Rattle.text_model.specs.Schemas.{Schema}
use Rattle.text_model.specs.Tree.{Fields}

-- the fields are the expansion of an Any
pub record IsExpansion (form : Form) (w : Schema) (inner : Inner) (t : Name) (m : Message) (fs : Fields) : Type 0 where
  pub expands : form.expands ≡ true
  pub url : Text × Text
  pub type : Name
  pub held : Message
  pub given : Fields
  pub holds : HoldsMessage w t m url type held
  pub inside : inner type held ≡ Some given
  pub same : fs ≡ expanded_as url given

mapped_some : {X Y : Type 0} (f : X → Y) (o : Option X) (y : Y) → option_map f o ≡ Some y → (x : X) × (o ≡ Some x) × (y ≡ f x)
mapped_some f None y e = absurd (cc e)
mapped_some f (Some x) y e = (x, refl, ap (λ o. unwrap_or o y) (sym e))

pub expansion_of : (form : Form) (w : Schema) (inner : Inner) (t : Name) (m : Message) (fs : Fields) → in_any form w inner t m ≡ Some fs → IsExpansion form w inner t m fs
expansion_of form w inner t m fs e = by (form.expands && w.is_any t) refl where
  as_url : Text × Text → Option Fields
  as_url url = option_map (expanded_as url) (option_and_then (held_in w inner url.1) (bytes_in (m 2)))

  found : Option Fields
  found = option_and_then as_url (last_slash (text_in (m 1)))

  by : (b : Bool) → (form.expands && w.is_any t) ≡ b → IsExpansion form w inner t m fs
  by false is = absurd (cc (sym (ap (λ b. cond b found None) is) ∙ e))
  by true is =
      let both = and_parts form.expands (w.is_any t) is in
      option_and_then_some as_url (last_slash (text_in (m 1))) fs (sym (ap (λ b. cond b found None) is) ∙ e)
      (λ url slash its.
      let given = mapped_some (expanded_as url) (option_and_then (held_in w inner url.1) (bytes_in (m 2))) fs its in
      option_and_then_some (held_in w inner url.1) (bytes_in (m 2)) given.0 given.1
      (λ bytes there of_bytes.
      option_and_then_some (λ u. option_and_then (inner u) (w.decoded u bytes)) (w.message url.1) given.0 of_bytes
      (λ u known of_type.
      option_and_then_some (inner u) (w.decoded u bytes) given.0 of_type
      (λ held decoded inside. record {
        expands = both.0;
        url = url;
        type = u;
        held = held;
        given = given.0;
        holds = record { any = both.1; slash = slash; known = known; bytes = bytes; there = there; decoded = decoded };
        inside = inside;
        same = given.2;
      }))))

-- none is, where no fields can be
pub no_expansion : (form : Form) (w : Schema) (inner : Inner) (t : Name) (m : Message) → ((fs : Fields) → IsExpansion form w inner t m fs → ⊥) → in_any form w inner t m ≡ None
no_expansion form w inner t m none = by (in_any form w inner t m) refl where
  by : (o : Option Fields) → in_any form w inner t m ≡ o → o ≡ None
  by None e = refl
  by (Some fs) e = absurd (none fs (expansion_of form w inner t m fs e))

-- a property of fields that are printed of a message of some sort, as plain ones are, where it holds of its own fields if it does of the messages in it, and of an expansion if it does of what is held
module _ (form : Form) (w : Schema) (Is : Name → Message → Type 0) (as_plain : (t : Name) (m : Message) → IsPlain w.types t m → Is t m) (Holds : Name → Message → Fields → Type 0)
    (fields : (inner : Inner) (typed : Name → Message → Type 0) → ((u : Name) (m : Message) → typed u m → Is u m → Holds u m (printed_by form w inner u m))
    → (levels : ℕ) (t : Name) (m : Message) → IsTypedBy typed levels (w.types t) m → Is t m → Holds t m (joined (between form.pretty) (printed_fields form w inner t m)))
    (expansion : (inner : Inner) (t : Name) (m : Message) (fs : Fields) (e : IsExpansion form w inner t m fs) → HoldsOneForm w t m e.url e.type e.held → Holds e.type e.held e.given → Holds t m fs) where
  module _ (inner : Inner) where
    -- as its fields, or expanded
    either : (t : Name) (m : Message) → Holds t m (joined (between form.pretty) (printed_fields form w inner t m)) → ((fs : Fields) → IsExpansion form w inner t m fs → Holds t m fs) → Holds t m (printed_by form w inner t m)
    either t m plain expanded = by (in_any form w inner t m) refl where
      own : Fields
      own = joined (between form.pretty) (printed_fields form w inner t m)

      by : (o : Option Fields) → in_any form w inner t m ≡ o → Holds t m (or_fields (in_any form w inner t m) own)
      by None e = subst (λ o. Holds t m (or_fields o own)) (sym e) plain
      by (Some fs) e = subst (λ o. Holds t m (or_fields o own)) (sym e) (expanded fs (expansion_of form w inner t m fs e))

    -- by levels, where each message is such that what is printed of it as an Any has the property
    by_levels : (P : Name → Message → Type 0) → ((t : Name) (m : Message) → P t m → (fs : Fields) → IsExpansion form w inner t m fs → Holds t m fs)
        → (levels : ℕ) (t : Name) (m : Message) → EachSuits P levels w.types t m → Is t m → Holds t m (printed_by form w inner t m)
    by_levels P any zero t m h b = either t m (fields inner (λ u m. ⊥) (λ u m h b. absurd h) zero t m h.1 b) (any t m h.0)
    by_levels P any (suc levels) t m h b = either t m (fields inner (EachSuits P levels w.types) (by_levels P any levels) (suc levels) t m h.1 b) (any t m h.0)

    -- and where nothing is expanded
    unexpanded : ((t : Name) (m : Message) (fs : Fields) → IsExpansion form w inner t m fs → ⊥) → (levels : ℕ) (t : Name) (m : Message) → IsTyped levels w.types t m → Is t m → Holds t m (printed_by form w inner t m)
    unexpanded none zero t m h b = either t m (fields inner (λ u m. ⊥) (λ u m h b. absurd h) zero t m h b) (λ fs e. absurd (none t m fs e))
    unexpanded none (suc levels) t m h b = either t m (fields inner (IsTyped levels w.types) (unexpanded none levels) (suc levels) t m h b) (λ fs e. absurd (none t m fs e))

  -- by expansions in one another
  within : (more : ℕ) (t : Name) (m : Message) → HasOneForm more w t m → Is t m → Holds t m (printed_within more form w t m)
  within zero t m h b = unexpanded (λ u m. None) (λ t m fs e. cc e.inside) 100 t m h b
  within (suc more) t m h b =
      by_levels (λ u m. Some (printed_within more form w u m))
      (λ u n. (url : Text × Text) (v : Name) (held : Message) → HoldsMessage w u n url v held → HoldsOneForm w u n url v held × HasOneForm more w v held)
      (λ t m one fs e.
      let its = one e.url e.type e.held e.holds in
      expansion (λ u m. Some (printed_within more form w u m)) t m fs e its.0
      (subst (Holds e.type e.held) (ap (λ o. unwrap_or o e.given) e.inside) (within more e.type e.held its.1 (as_plain e.type e.held its.0.plain))))
      100 t m h b

  -- of what is printed
  pub all_printed : (t : Name) (m : Message) → SuitsType w.types t m → Is t m → (form.expands ≡ true → HasOneForm 100 w t m) → Holds t m (printed form w t m)
  all_printed t m h b forms = by form.expands refl where
    by : (e : Bool) → form.expands ≡ e → Holds t m (printed form w t m)
    by true e = within 100 t m (forms e) b
    by false e = unexpanded (λ u m. Some (printed_within 99 form w u m)) (λ t m fs x. true≢false (sym x.expands ∙ e)) 100 t m h b
