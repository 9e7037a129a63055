-- Messages in which fields are set and unset.
use Rattle.std.proofs.Common.{◌≡◌, ◌≢◌, ℕ, ◌==◌, Bool, true, false, true≢false, is_some, List, None, Some, Result, Ok, Err, OnOk, OnErr, refl, sym, ap, ◌∙◌, subst, arith}
use Rattle.std.specs.Option.{IsSome}
use Rattle.reflect_pool.specs.FieldsLeft.{field_type}
use Rattle.reflect_pool.specs.declared.message.MessageDescriptor.{MessageDescriptor}
use Rattle.reflect_pool.specs.declared.field.FieldDescriptor.{FieldDescriptor}
use Rattle.reflect_entries.specs.Entries.{Updates, value_at}
use Rattle.reflect_entries.specs.Members.{first_member_of}
use Rattle.reflect_message.specs.Declares.{Owns}
use Rattle.reflect_message.specs.Held.{fields_of, choices_of, extensions_of, unknown_of, UpdatesField}
use Rattle.reflect_message.specs.Oneofs.{AreChosen, IsExclusive, MakesRoom, Changes, Chooses, SetsField}
use Rattle.reflect_message.specs.Names.{DynamicMessage, Value}
use Rattle.reflect_message.proofs.Choosing.{room_exclusive, chosen_next, siblings_unset, other_stays}

-- where a field is unset
unset_chosen : (m : MessageDescriptor) (choices : List (ℕ × ℕ)) (old new : List (ℕ × Value)) (n : ℕ) → Updates old new n None → AreChosen m choices old → AreChosen m choices new
unset_chosen m choices old new n h chosen = record { member = chosen.member; noted = noted } where
  noted : (f : FieldDescriptor) → Owns m f → (first : ℕ) → first_member_of f ≡ Some first → IsSome (value_at new (field_type f).number) → value_at choices first ≡ Some (field_type f).number
  noted f owns first member stands = by ((field_type f).number == n) refl where
    by : (b : Bool) → ((field_type f).number == n) ≡ b → value_at choices first ≡ Some (field_type f).number
    by true e =
        let same : (field_type f).number ≡ n = grind (arith, e) in
        let none : is_some (value_at new (field_type f).number) ≡ false = ap (λ k. is_some (value_at new k)) same ∙ ap is_some h.here in
        absurd (true≢false (sym stands ∙ none))
    by false e =
        let other : (field_type f).number ≢ n = λ same. absurd (grind (arith, e, same)) in
        chosen.noted f owns first member (sym (ap is_some (h.others (field_type f).number other)) ∙ stands)

module _ (old new : DynamicMessage) where
  chosen_as : (choices : List (ℕ × ℕ)) (held : List (ℕ × Value)) → new.descriptor ≡ old.descriptor → choices_of new ≡ choices → fields_of new ≡ held → AreChosen old.descriptor choices held → IsExclusive new
  chosen_as choices held type noted fields h =
      subst (λ m. AreChosen m (choices_of new) (fields_of new)) (sym type) (subst (λ l. AreChosen old.descriptor l (fields_of new)) (sym noted) (subst (λ l. AreChosen old.descriptor choices l) (sym fields) h))

  pub exclusive_unset : (n : ℕ) → UpdatesField old new n None → IsExclusive old → IsExclusive new
  exclusive_unset n h exclusive = chosen_as (choices_of old) (fields_of new) h.same_type h.choices refl (unset_chosen old.descriptor (choices_of old) (fields_of old) (fields_of new) n h.field exclusive)

  module _ (f : FieldDescriptor) (before after : List (ℕ × ℕ)) (held put : List (ℕ × Value)) (was : before ≡ choices_of old) (had : held ≡ fields_of old) (is : choices_of new ≡ after) (has : fields_of new ≡ put) where
    changed : Changes f before held put → Changes f (choices_of old) (fields_of old) (fields_of new)
    changed h = subst (λ l. Changes f (choices_of old) (fields_of old) l) (sym has) (subst (λ l. Changes f (choices_of old) l put) had (subst (λ l. Changes f l held put) was h))

    noted : Chooses f before after → Chooses f (choices_of old) (choices_of new)
    noted h = subst (λ l. Chooses f (choices_of old) l) (sym is) (subst (λ l. Chooses f l after) was h)

    pub field_set : {A E : Type 0} (r : Result A E) (v : Value) → OnOk r (value_at put (field_type f).number ≡ Some v) → OnOk r (Changes f before held put) → OnOk r (Chooses f before after)
        → extensions_of new ≡ extensions_of old → unknown_of new ≡ unknown_of old → OnOk r (SetsField old new f v)
    field_set (Ok x) v here changes chooses extensions unknown =
        let moved = changed changes in
        let notes = noted chooses in
        record {
          here = ap (λ l. value_at l (field_type f).number) has ∙ here;
          changes = moved;
          siblings = λ owns exclusive. siblings_unset old.descriptor f owns (choices_of old) (choices_of new) (fields_of old) (fields_of new) exclusive notes moved;
          others = λ owns exclusive. other_stays old.descriptor f owns (choices_of old) (choices_of new) (fields_of old) (fields_of new) exclusive notes moved;
          extensions = extensions;
          unknown = unknown;
        }
    field_set (Err e) v here changes chooses extensions unknown = tt

    pub exclusive_set : {A E : Type 0} (r : Result A E) → OnOk r (Changes f before held put) → OnOk r (Chooses f before after) → OnErr r (put ≡ held) → OnErr r (MakesRoom f before after) → new.descriptor ≡ old.descriptor → Owns old.descriptor f → IsExclusive old → IsExclusive new
    exclusive_set (Ok x) changes chooses same room type owns exclusive =
        chosen_as (choices_of new) (fields_of new) type refl refl (chosen_next old.descriptor f owns (choices_of old) (choices_of new) (fields_of old) (fields_of new) exclusive (noted chooses) (changed changes))
    exclusive_set (Err e) changes chooses same room type owns exclusive =
        let made : MakesRoom f (choices_of old) (choices_of new) = subst (λ l. MakesRoom f (choices_of old) l) (sym is) (subst (λ l. MakesRoom f l after) was room) in
        chosen_as (choices_of new) (fields_of old) type refl (has ∙ same ∙ had) (room_exclusive old.descriptor f (choices_of old) (choices_of new) (fields_of old) owns made exclusive)
