-- Messages of which values are put behind others: of each oneof one member at most is set.
use Rattle.std.proofs.Common.{◌≡◌, ℕ, ◌==◌, Bool, true, false, true≢false, is_some, List, Option, None, Some, refl, sym, ap, ◌∙◌, subst, arith}
use Rattle.std.specs.Option.{IsSome}
use Rattle.reflect_entries.specs.Entries.{value_at}
use Rattle.reflect_pool.specs.FieldsLeft.{field_type}
use Rattle.reflect_pool.specs.declared.field.FieldDescriptor.{FieldDescriptor}
use Rattle.reflect_pool.specs.declared.message.MessageDescriptor.{MessageDescriptor}
use Rattle.reflect_message.specs.Held.{fields_of, choices_of}
use Rattle.reflect_message.specs.Oneofs.{AreChosen, IsExclusive}
use Rattle.reflect_message.specs.Names.{DynamicMessage, Value}
use Rattle.reflect_extend.specs.Others.{StaysUnset}
use Rattle.reflect_extend.specs.Siblings.{KeepsRest}

module _ (old new : DynamicMessage) (before after : List (ℕ × ℕ)) (held put : List (ℕ × Value))
    (was : before ≡ choices_of old) (had : held ≡ fields_of old)
    (is : choices_of new ≡ after) (has : fields_of new ≡ put)
    (type : new.descriptor ≡ old.descriptor) where
  -- what was taken out of the message
  taken_out : IsExclusive old → AreChosen old.descriptor before held
  taken_out h =
      subst (λ l. AreChosen old.descriptor l held) (sym was)
      (subst (λ l. AreChosen old.descriptor (choices_of old) l) (sym had) h)

  -- and what was put back
  pub put_back : AreChosen old.descriptor after put → IsExclusive new
  put_back h =
      subst (λ m. AreChosen m (choices_of new) (fields_of new)) (sym type)
      (subst (λ l. AreChosen old.descriptor l (fields_of new)) (sym is)
      (subst (λ l. AreChosen old.descriptor after l) (sym has) h))

  pub stays_exclusive : (AreChosen old.descriptor before held → AreChosen old.descriptor after put)
      → IsExclusive old → IsExclusive new
  stays_exclusive h exclusive = put_back (h (taken_out exclusive))

-- a refusal leaves nothing under a number under which nothing stood
module _ (f : FieldDescriptor) (held put : List (ℕ × Value)) (rest : KeepsRest f held put)
    (absent : StaysUnset (value_at held (field_type f).number) (value_at put (field_type f).number)) where
  none_more : (n : ℕ) → value_at held n ≡ None → value_at put n ≡ None
  none_more n = by (n == (field_type f).number) refl where
    by : (b : Bool) → (n == (field_type f).number) ≡ b → value_at held n ≡ None → value_at put n ≡ None
    by true e none =
        let same : n ≡ (field_type f).number = grind (arith, e) in
        ap (value_at put) same ∙ absent (ap (value_at held) (sym same) ∙ none)
    by false e none = rest n (λ same. grind (arith, e, same)) ∙ none

  stood : (n : ℕ) → IsSome (value_at put n) → IsSome (value_at held n)
  stood n stands = by (value_at held n) refl where
    by : (o : Option Value) → value_at held n ≡ o → IsSome (value_at held n)
    by None at = absurd (true≢false (sym stands ∙ ap is_some (none_more n at)))
    by (Some v) at = ap is_some at

  -- so of each oneof still one member at most holds anything
  pub refused_chosen : (m : MessageDescriptor) (choices : List (ℕ × ℕ)) → AreChosen m choices held → AreChosen m choices put
  refused_chosen m choices chosen = record {
    member = chosen.member;
    noted = λ g owns first is stands. chosen.noted g owns first is (stood (field_type g).number stands);
  }
