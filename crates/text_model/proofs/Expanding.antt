-- An Any is given back by its expansion, and a message by what is printed of it.
use Rattle.std.proofs.Common.{◌≡◌, ◌^◌, ◌==◌, nat_lt, length, Bool, true, false, cond, [], ◌∷◌, ◌++◌, Option, None, Some, option_and_then, unwrap_or, refl, sym, ap, ap₂, ◌∙◌, subst}
use Rattle.std.proofs.lemmas.Bool.{eqb-true, lt-ltb}
use Rattle.protox_lex.specs.Class.{Text}
use Rattle.protobuf_model.specs.Bytes.{bytes_of}
use Rattle.protobuf_model.specs.Coded.{SuitsType}
use Rattle.protobuf_model.specs.Types.{Name}
use Rattle.protobuf_model.specs.Values.{Message, nothing}
use Rattle.text_model.specs.Expansions.{HasOneForm, HoldsOneForm}
use Rattle.text_model.specs.Forms.{Form}
use Rattle.text_model.specs.Plain.{IsPlain}
use Rattle.text_model.specs.Printed.{Inner, last_slash, parts, printed, text_in}
use Rattle.text_model.specs.Schemas.{Schema, Shape, shape_of, HaveNames}
use Rattle.text_model.specs.Tree.{Fields, curly, one_message}
use Rattle.text_model.specs.Unset.{HaveReadDefaults}
use Rattle.text_model.specs.Value.{body_value, hold, value, written}
use Rattle.text_model.proofs.Expansions.{IsExpansion, all_printed}
use Rattle.text_model.proofs.Printing.{fields_back, last_value, parts_written}

-- a URL is what stands before its last slash, and what stands behind it
pub slash_whole : (z : Text) (p : Text × Text) → last_slash z ≡ Some p → p.0 ++ 47 ∷ p.1 ≡ z
slash_whole [] p e = absurd (cc e)
slash_whole (b ∷ bs) p e = by (slash_whole bs) (last_slash bs) refl (b == 47) refl where
  slash_in : Option (Text × Text) → Bool → Option (Text × Text)
  slash_in o t = elim o [ Some q ↦ Some (b ∷ q.0, q.1) | None ↦ cond t (Some ([], bs)) None ]

  whole : (q : Text × Text) → q.0 ++ 47 ∷ q.1 ≡ b ∷ bs → Some q ≡ Some p → p.0 ++ 47 ∷ p.1 ≡ b ∷ bs
  whole q here same = subst (λ (p : Text × Text). p.0 ++ 47 ∷ p.1 ≡ b ∷ bs) (ap (λ o. unwrap_or o p) same) here

  by : ((q : Text × Text) → last_slash bs ≡ Some q → q.0 ++ 47 ∷ q.1 ≡ bs) → (o : Option (Text × Text)) → last_slash bs ≡ o → (t : Bool) → (b == 47) ≡ t → p.0 ++ 47 ∷ p.1 ≡ b ∷ bs
  by later (Some q) is t slash = whole (b ∷ q.0, q.1) (ap (λ z. b ∷ z) (later q is)) (sym (ap (λ o. slash_in o (b == 47)) is) ∙ e)
  by later None is true slash = whole ([], bs) (ap (λ c. c ∷ bs) (sym (eqb-true b 47 slash))) (sym (ap₂ slash_in is slash) ∙ e)
  by later None is false slash = absurd (cc (sym (ap₂ slash_in is slash) ∙ e))

-- an expansion gives the Any, if its fields give the message that is held
expansion_back : (form : Form) (w : Schema) (inner : Inner) (t : Name) (m : Message) (fs : Fields) (e : IsExpansion form w inner t m fs) → HoldsOneForm w t m e.url e.type e.held
    → value w (shape_of w e.type) e.given nothing ≡ Some e.held → value w (shape_of w t) fs nothing ≡ Some m
expansion_back form w inner t m fs e h back =
    ap (λ fs. value w s fs nothing) e.same
    ∙ last_value (cond (w.is_any t) (of_url written_domain written_name) None)
    ∙ ap (λ b. cond b (of_url written_domain written_name) None) e.holds.any
    ∙ ap₂ of_url (parts_written e.url.0) (parts_written e.url.1)
    ∙ ap (option_and_then (of_type e.url.0 e.url.1)) e.holds.known
    ∙ ap (option_and_then (of_message e.url.0 e.url.1 e.type)) back
    ∙ ap (λ b. cond b (hold s (e.url.0 ++ 47 ∷ e.url.1) (bytes_of w.types e.type e.held) nothing) None) (lt-ltb (length (bytes_of w.types e.type e.held)) (2 ^ 64) h.small)
    ∙ ap (λ z. hold s z (bytes_of w.types e.type e.held) nothing) (slash_whole (text_in (m 1)) e.url e.holds.slash)
    ∙ h.alone where
      s : Shape
      s = shape_of w t

      written_domain : Text
      written_domain = written (parts e.url.0)

      written_name : Text
      written_name = written (parts e.url.1)

      of_message : Text → Text → Name → Message → Option Message
      of_message d n u b = cond (nat_lt (length (bytes_of w.types u b)) (2 ^ 64)) (hold s (d ++ 47 ∷ n) (bytes_of w.types u b) nothing) None

      of_type : Text → Text → Name → Option Message
      of_type d n u = option_and_then (of_message d n u) (body_value w u (one_message false curly e.given))

      of_url : Text → Text → Option Message
      of_url d n = option_and_then (of_type d n) (w.message n)

pub printed_back : (form : Form) (w : Schema) → HaveNames w → (form.defaults ≡ true → HaveReadDefaults w.types) → (t : Name) (m : Message) → SuitsType w.types t m → IsPlain w.types t m → (form.expands ≡ true → HasOneForm 100 w t m)
    → value w (shape_of w t) (printed form w t m) nothing ≡ Some m
printed_back form w names told t m h b forms =
    all_printed form w (IsPlain w.types) (λ t m h. h) (λ t m fs. value w (shape_of w t) fs nothing ≡ Some m)
    (λ inner typed back levels t m h b. fields_back form w told inner t (names.each t) (names.entries t) typed levels back m h b)
    (λ inner t m fs e one back. expansion_back form w inner t m fs e one back)
    t m h b forms
