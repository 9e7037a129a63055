-- A value that goes over the one that a field was set to is what the field is set to.
use Rattle.std.proofs.Common.{◌≡◌, ◌≢◌, ◌⊎◌, inl, inr, ℕ, true≢false, is_some, List, None, Some, sym, ap, ◌∙◌, subst}
use Rattle.std.proofs.lemmas.Bool.Decides.{eqb_tells}
use Rattle.std.specs.Option.{IsSome}
use Rattle.reflect_pool.specs.FieldsLeft.{field_type}
use Rattle.reflect_pool.specs.declared.message.MessageDescriptor.{MessageDescriptor}
use Rattle.reflect_pool.specs.declared.field.FieldDescriptor.{FieldDescriptor}
use Rattle.reflect_entries.specs.Entries.{Updates, value_at}
use Rattle.reflect_entries.specs.Members.{first_member_of}
use Rattle.reflect_message.specs.Declares.{Owns}
use Rattle.reflect_message.specs.Held.{fields_of, choices_of, UpdatesField}
use Rattle.reflect_message.specs.Names.{DynamicMessage, Value}
use Rattle.reflect_message.specs.Oneofs.{AreChosen, IsExclusive, PutsField}

-- of oneofs the same is noted, and under no further number stands anything
chosen_again : (m : MessageDescriptor) (choices : List (ℕ × ℕ)) (old new : List (ℕ × Value)) (n : ℕ)
    (v w : Value) → value_at old n ≡ Some v → Updates old new n (Some w)
    → AreChosen m choices old → AreChosen m choices new
chosen_again m choices old new n v w stood over chosen =
    record { member = chosen.member; noted = noted } where
      stands : (k : ℕ) → IsSome (value_at new k) → IsSome (value_at old k)
      stands k some = by (eqb_tells k n) where
        by : {A B : Type 0} → (A × (k ≡ n)) ⊎ (B × (k ≢ n)) → IsSome (value_at old k)
        by (inl (_, same)) = ap (λ k. is_some (value_at old k)) same ∙ ap is_some stood
        by (inr (_, other)) = sym (ap is_some (over.others k other)) ∙ some

      noted : (f : FieldDescriptor) → Owns m f → (first : ℕ) → first_member_of f ≡ Some first
          → IsSome (value_at new (field_type f).number)
          → value_at choices first ≡ Some (field_type f).number
      noted f owns first member some =
          chosen.noted f owns first member (stands (field_type f).number some)

exclusive_again : (between new : DynamicMessage) (n : ℕ) (v w : Value)
    → value_at (fields_of between) n ≡ Some v → UpdatesField between new n (Some w)
    → IsExclusive between → IsExclusive new
exclusive_again between new n v w stood over exclusive =
    subst (λ m. AreChosen m (choices_of new) (fields_of new)) (sym over.same_type)
    (subst (λ l. AreChosen between.descriptor l (fields_of new)) (sym over.choices)
    (chosen_again between.descriptor (choices_of between) (fields_of between) (fields_of new) n v w
    stood over.field exclusive))

pub put_again : (f : FieldDescriptor) (old between new : DynamicMessage) (v w : Value)
    → PutsField old between f v → UpdatesField between new (field_type f).number (Some w)
    → PutsField old new f w
put_again f old between new v w put over = record {
  same_type = over.same_type ∙ put.same_type;
  set = record {
    here = over.field.here;
    changes = record {
      unset = λ n sibling. let none = put.set.changes.unset n sibling in
          over.field.others n (apart n none) ∙ none;
      others = λ n other kept. over.field.others n other ∙ put.set.changes.others n other kept;
    };
    siblings = λ owns exclusive n s. let none = put.set.siblings owns exclusive n s in
        over.field.others n (apart n none) ∙ none;
    others = λ owns exclusive n other kept. over.field.others n other
        ∙ put.set.others owns exclusive n other kept;
    extensions = over.extensions ∙ put.set.extensions;
    unknown = over.unknown ∙ put.set.unknown;
  };
  ascending = over.field.ascending;
  exclusive = λ owns exclusive. exclusive_again between new (field_type f).number v w put.set.here
      over (put.exclusive owns exclusive);
} where
  -- what stands under the field's number is not unset
  apart : (n : ℕ) → value_at (fields_of between) n ≡ None → n ≢ (field_type f).number
  apart n none same = true≢false (sym (ap is_some put.set.here)
      ∙ ap (λ k. is_some (value_at (fields_of between) k)) (sym same) ∙ ap is_some none)
