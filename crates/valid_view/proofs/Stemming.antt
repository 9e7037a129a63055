-- Messages stay tidy, and hold what is whole, where what they hold stood there or is put so.
use Rattle.std.proofs.Common.{◌≡◌, ◌≢◌, ◌⊎◌, inl, inr, ℕ, suc, ◌==◌, Bool, true, false, List, [], Option, None, Some, unwrap_or, refl, sym, ap, ◌∙◌, subst, arith}
use Rattle.std.specs.List.{AllByRecursion}
use Rattle.reflect_wire.specs.Written.{FitsPayload}
use Rattle.protobuf_model.specs.Meaning.{payloads}
use Rattle.reflect_decode.specs.Ordered.{IsOrdered}
use Rattle.reflect_entries.specs.Entries.{value_at}
use Rattle.reflect_message.specs.Contents.{content_of}
use Rattle.reflect_message.specs.Declares.{IsDeclared}
use Rattle.reflect_message.specs.Held.{extensions_of, fields_of, unknown_of}
use Rattle.reflect_message.specs.Names.{DynamicMessage, Value}
use Rattle.reflect_message.specs.Oneofs.{IsExclusive}
use Rattle.reflect_pool.specs.declared.message.MessageDescriptor.{MessageDescriptor}
use Rattle.reflect_tables.specs.Types.{PoolType}
use Rattle.message_view.specs.Taken.{AllOrNothing}
use Rattle.message_view.proofs.Changed.{StaysOrGoes}
use Rattle.valid_view.specs.Inside.{EachMessage, IsWhole}
use Rattle.valid_view.specs.Tidy.{OfHeld, Solid, Tidy}

-- each value stood there, or is a new one
abbrev pub Stems : (Value → Type 0) → List (ℕ × Value) → List (ℕ × Value) → Type 0
Stems New old new = (n : ℕ) (w : Value) → value_at new n ≡ Some w → New w ⊎ (value_at old n ≡ Some w)

-- the value that is put, if one is
abbrev pub Given : Option Value → Value → Type 0
Given o w = o ≡ Some w

module _ (New : Value → Type 0) (old new : List (ℕ × Value)) where
  pub same_stems : new ≡ old → Stems New old new
  same_stems same n w at = inr (ap (λ es. value_at es n) (sym same) ∙ at)

  -- under one number stands what is given
  pub put_stems : (k : ℕ) (o : Option Value) → value_at new k ≡ o → ((w : Value) → Given o w → New w) → ((n : ℕ) → n ≢ k → StaysOrGoes old new n) → Stems New old new
  put_stems k o here given others n w at = by (n == k) refl where
    by : (b : Bool) → (n == k) ≡ b → New w ⊎ (value_at old n ≡ Some w)
    by true is =
        let same : n ≡ k = grind (arith, is) in
        inl (given w (sym here ∙ ap (value_at new) (sym same) ∙ at))
    by false is = left (others n (λ same. grind (arith, is, same))) where
      left : (value_at new n ≡ value_at old n) ⊎ (value_at new n ≡ None) → New w ⊎ (value_at old n ≡ Some w)
      left (inl same) = inr (sym same ∙ at)
      left (inr gone) = absurd (cc (sym gone ∙ at))

  pub left_stems : AllOrNothing old new → Stems New old new
  left_stems (inl same) n w at = same_stems same n w at
  left_stems (inr gone) n w at = absurd (cc (sym (ap (λ es. value_at es n) gone) ∙ at))

pub given_value : (R : Value → Type 0) (v : Value) → R v → (w : Value) → Given (Some v) w → R w
given_value R v holds w is = subst R (ap (λ o. unwrap_or o v) is) holds

pub given_none : (R : Value → Type 0) (w : Value) → Given None w → R w
given_none R w is = absurd (cc is)

module _ (New : Value → Type 0) (old new : DynamicMessage) (fields : Stems New (fields_of old) (fields_of new)) (extensions : Stems New (extensions_of old) (extensions_of new)) where
  -- what holds of all values
  held_stems : (R : Value → Type 0) → ((w : Value) → New w → R w) → OfHeld R old → OfHeld R new
  held_stems R given held = record {
    fields = λ n w at. by w (held.fields n w) (fields n w at);
    extensions = λ n w at. by w (held.extensions n w) (extensions n w at);
  } where
    by : {P : Type 0} (w : Value) → (P → R w) → New w ⊎ P → R w
    by w stood (inl is) = given w is
    by w stood (inr at) = stood at

  pub tidy_stems : (pool : PoolType) (levels : ℕ) → ((w : Value) → New w → EachMessage (Tidy pool levels) w) → new.descriptor ≡ old.descriptor → IsOrdered (content_of new) → IsExclusive new
      → ((n : ℕ) → payloads n (unknown_of old) ≡ [] → payloads n (unknown_of new) ≡ []) → Tidy pool (suc levels) old → Tidy pool (suc levels) new
  tidy_stems pool levels given type ordered exclusive kept tidy = (
    record {
      pooled = ap (λ (d : MessageDescriptor). d.pool.now) type ∙ tidy.0.pooled;
      ordered = ordered;
      declared = λ n is. kept n (tidy.0.declared n (subst (λ (d : MessageDescriptor). IsDeclared d n) type is));
      exclusive = exclusive;
    },
    held_stems (EachMessage (Tidy pool levels)) given tidy.1,
  )

  pub solid_stems : (levels : ℕ) → ((w : Value) → New w → IsWhole w) → ((w : Value) → New w → EachMessage (Solid levels) w)
      → ((n : ℕ) → AllByRecursion (FitsPayload levels) (payloads n (unknown_of old)) → AllByRecursion (FitsPayload levels) (payloads n (unknown_of new))) → Solid (suc levels) old → Solid (suc levels) new
  solid_stems levels whole given kept solid = (
    record {
      values = held_stems IsWhole whole solid.0.values;
      records = λ n. kept n (solid.0.records n);
    },
    held_stems (EachMessage (Solid levels)) given solid.1,
  )
