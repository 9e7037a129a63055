-- Messages and what they are printed as.
use Rattle.std.proofs.Common.{◌≤◌, true, subst, ◌≡◌, ◌↔◌, sym, ap, ◌∙◌}
use Rattle.protobuf_model.specs.Coded.{SuitsType}
use Rattle.protobuf_model.specs.Types.{Name}
use Rattle.protobuf_model.specs.Values.{Message, nothing}
use Rattle.text_model.specs.Tokens.{open_braces}
use Rattle.text_model.specs.Rendered.{text_of}
use Rattle.text_model.specs.Identifiers.{HaveIdentifiers}
use Rattle.text_model.specs.Expansions.{HasOneForm}
use Rattle.text_model.specs.Forms.{Form}
use Rattle.text_model.specs.Schemas.{Schema, shape_of, HaveNames}
use Rattle.text_model.specs.Value.{value}
use Rattle.text_model.specs.Printed.{printed}
use Rattle.text_model.specs.Plain.{IsPlain}
use Rattle.text_model.specs.Unset.{HaveReadDefaults}
use Rattle.text_model.specs.Texts.{Spells, Gives}
use Rattle.text_model.proofs.Merging.{one_text, same_message}
use Rattle.text_model.proofs.Shown.{text_spelled}
use Rattle.text_model.proofs.Expanding.{printed_back}

pub printed_text_back : (form : Form) (w : Schema) → HaveNames w → HaveIdentifiers w → (form.defaults ≡ true → HaveReadDefaults w.types) → (t : Name) (m : Message) → SuitsType w.types t m → IsPlain w.types t m → (form.expands ≡ true → HasOneForm 100 w t m) → open_braces (printed form w t m) ≤ 100 → Gives w t (text_of form (printed form w t m)) m
printed_text_back form w names spelled told t m h b forms braces =
    (printed form w t m, record { spelled = text_spelled form w spelled told t m h b forms; shallow = braces }, printed_back form w names told t m h b forms)

pub equal_texts : (form : Form) (w : Schema) → HaveNames w → HaveIdentifiers w → (form.defaults ≡ true → HaveReadDefaults w.types) → (t : Name) (m n : Message) → SuitsType w.types t m → IsPlain w.types t m → (form.expands ≡ true → HasOneForm 100 w t m)
    → SuitsType w.types t n → IsPlain w.types t n → (form.expands ≡ true → HasOneForm 100 w t n) → (text_of form (printed form w t m) ≡ text_of form (printed form w t n)) ↔ (m ≡ n)
equal_texts form w names spelled told t m n h b x i c y = (
  λ e.
      let same = one_text (text_of form (printed form w t n)) (printed form w t m) (printed form w t n) (subst (λ z. Spells z (printed form w t m)) e (text_spelled form w spelled told t m h b x)) (text_spelled form w spelled told t n i c y) in
      same_message m n (sym (printed_back form w names told t m h b x) ∙ ap (λ fs. value w (shape_of w t) fs nothing) same ∙ printed_back form w names told t n i c y),
  λ e. ap (λ m. text_of form (printed form w t m)) e,
)
