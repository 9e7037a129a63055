-- A message all of whose fields are unset.
use Rattle.std.proofs.Common.{◌≡◌, ℕ, List, [], true≢false, sym, ap, ◌∙◌, subst}
use Rattle.std.specs.Option.{IsSome}
use Rattle.reflect_entries.specs.Entries.{value_at}
use Rattle.reflect_pool.specs.FieldsLeft.{field_type}
use Rattle.reflect_pool.specs.declared.message.MessageDescriptor.{MessageDescriptor}
use Rattle.reflect_message.specs.Declares.{Owns}
use Rattle.reflect_message.specs.Held.{fields_of, choices_of}
use Rattle.reflect_message.specs.Oneofs.{IsExclusive}
use Rattle.reflect_message.specs.Names.{DynamicMessage, Value}

-- no member of a oneof is held, whatever was noted
pub none_held : (old new : DynamicMessage) → new.descriptor ≡ old.descriptor → choices_of new ≡ choices_of old → fields_of new ≡ [] → IsExclusive old → IsExclusive new
none_held old new type choices fields exclusive = record {
  member = λ first n noted.
      let m = exclusive.member first n (sym (ap (λ (cs : List (ℕ × ℕ)). value_at cs first) choices) ∙ noted) in
      (m.0, subst (λ (d : MessageDescriptor). Owns d m.0) (sym type) m.1, m.2, m.3);
  noted = λ f owns first is held.
      absurd (true≢false (sym (subst (λ (fs : List (ℕ × Value)). IsSome (value_at fs (field_type f).number)) fields held)));
}
