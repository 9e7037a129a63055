-- Other members of a field's oneof, where none is set.
use Rattle.std.proofs.Common.{◌≡◌, ◌&&◌, ℕ, Bool, true, false, List, [], ◌∷◌, Option, None, Some, refl, ap, ◌∙◌}
use Rattle.std.specs.List.{list_any}
use Rattle.std.proofs.lemmas.Bool.{or_from}
use Rattle.protobuf_model.specs.Bytes.{field_numbers}
use Rattle.protobuf_model.specs.Types.{Field, oneof_of, rival}
use Rattle.protobuf_model.specs.Values.{Message, absent}
use Rattle.text_model.specs.Value.{is_set, has_rival}

any_not : (test : ℕ → Bool) (ns : List ℕ) → ((q : ℕ) → test q ≡ false) → list_any test ns ≡ false
any_not test [] h = refl
any_not test (n ∷ ns) h = or_from (test n) (list_any test ns) (h n) (any_not test ns h)

-- no other member of the field's oneof is set
pub no_rival : (type : ℕ → Option Field) (n : ℕ) (x : Message) → ((q : ℕ) → rival type n q ≡ true → x q ≡ absent) → has_rival type n x ≡ false
no_rival type n x h = by (oneof_of (type n)) where
  each : (q : ℕ) (b : Bool) → rival type n q ≡ b → (rival type n q && is_set (x q)) ≡ false
  each q true e = ap (λ b. b && is_set (x q)) e ∙ ap is_set (h q e)
  each q false e = ap (λ b. b && is_set (x q)) e

  by : (o : Option ℕ) → elim o [ None ↦ false | Some k ↦ list_any (λ q. rival type n q && is_set (x q)) field_numbers ] ≡ false
  by None = refl
  by (Some k) = any_not (λ q. rival type n q && is_set (x q)) field_numbers (λ q. each q (rival type n q) refl)
