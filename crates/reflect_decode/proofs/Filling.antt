-- What records leave in fields, run by run.
use Rattle.std.proofs.Common.{◌≡◌, ◌≢◌, ◌⊎◌, inl, inr, ℕ, ◌==◌, Bool, true, false, List, [], ◌∷◌, ◌++◌, map, Option, None, Some, refl, sym, ap, ◌∙◌, subst, append_assoc, arith}
use Rattle.std.proofs.lemmas.List.{map-append}
use Rattle.std.proofs.lemmas.List.Elements.{filter-append}
use Rattle.reflect_tables.specs.Types.{PoolType, FieldType}
use Rattle.reflect_pool.specs.FieldsLeft.{field_type}
use Rattle.reflect_pool.specs.declared.message.MessageDescriptor.{MessageDescriptor}
use Rattle.reflect_pool.specs.declared.field.FieldDescriptor.{FieldDescriptor}
use Rattle.reflect_wire.specs.Records.{Payload}
use Rattle.reflect_entries.specs.Entries.{value_at}
use Rattle.reflect_entries.specs.Members.{first_member_of}
use Rattle.reflect_scalar.specs.FieldTypes.{field_pool}
use Rattle.reflect_message.specs.Contents.{Content}
use Rattle.reflect_message.specs.Declares.{Owns}
use Rattle.reflect_decode.specs.Fields.{NoSibling, LeavesField, HoldFields}
use Rattle.reflect_decode.specs.Keeps.{numbered, payloads}
use Rattle.reflect_decode.specs.Merging.{run_records}
use Rattle.reflect_decode.specs.Messages.{Takes}
use Rattle.reflect_message.specs.Oneofs.{IsSibling, AreChosen, Changes, Chooses, Unsets}
use Rattle.reflect_message.specs.Held.{Same}
use Rattle.reflect_decode.specs.Spares.{FillsFields}
use Rattle.reflect_decode.specs.Taking.{Leaves}
use Rattle.reflect_message.specs.Names.{Value}
use Rattle.reflect_message.proofs.Choosing.{is_or_not, own_stays, unsets_changes, chosen_next, sibling_unset, other_stays}
use Rattle.reflect_decode.proofs.Joining.{Joins}
use Rattle.reflect_decode.proofs.Keeping.{not_numbered, payloads_both, payloads_own}
use Rattle.reflect_message.proofs.Owning.{same_first}
use Rattle.reflect_decode.proofs.Owning.{leaves_same}
use Rattle.reflect_decode.proofs.Taking.{leaves_both}

-- what all records leave under one number
module _ (inner : Takes) (pool : PoolType) (t : FieldType) (a b : Option Value) where
  pub under_both : Joins inner → (c : Option Value) (rs ts : List (ℕ × Payload)) → Leaves inner pool t a b (payloads t.number rs) → Leaves inner pool t b c (payloads t.number ts) → Leaves inner pool t a c (payloads t.number (rs ++ ts))
  under_both joins c rs ts h k = subst (Leaves inner pool t a c) (sym (payloads_both t.number rs ts)) (leaves_both inner pool t joins a b c (payloads t.number rs) (payloads t.number ts) h k)

  pub under_other : (n : ℕ) (run : List Payload × Payload) → n ≢ t.number → b ≡ a → Leaves inner pool t a b (payloads t.number (run_records n run))
  under_other n run other same =
      let none : payloads t.number (run_records n run) ≡ [] = ap (map (λ (r : ℕ × Payload). r.1)) (not_numbered t.number n (run.0 ++ run.1 ∷ []) other) in
      subst (Leaves inner pool t a b) (sym none) same

  pub under_own : (run : List Payload × Payload) → Leaves inner pool t a b (run.0 ++ run.1 ∷ []) → Leaves inner pool t a b (payloads t.number (run_records t.number run))
  under_own run h = subst (Leaves inner pool t a b) (sym (payloads_own t.number (run.0 ++ run.1 ∷ []))) h

module _ (inner : Takes) (m : MessageDescriptor) (f : FieldDescriptor) where
  none_both : (rs ts : List (ℕ × Payload)) → NoSibling m f rs → NoSibling m f ts → NoSibling m f (rs ++ ts)
  none_both rs ts h k = λ n s. filter-append (λ r. r.0 == n) rs ts ∙ ap (λ l. l ++ numbered n ts) (h n s) ∙ k n s

  field_both : Joins inner → (a b c : Option Value) (rs ts : List (ℕ × Payload)) → LeavesField inner m f a b rs → LeavesField inner m f b c ts → LeavesField inner m f a c (rs ++ ts)
  field_both joins a b c rs ts (inl h) (inl k) = inl (none_both rs ts h.0 k.0, under_both inner (field_pool f) (field_type f) a b joins c rs ts h.1 k.1)
  field_both joins a b c rs ts (inr h) (inl k) =
      inr (
        h.0,
        h.1 ++ ts,
        h.2,
        ap (λ l. l ++ ts) h.3 ∙ append_assoc h.0 (h.2 ∷ h.1) ts,
        h.4,
        none_both h.1 ts h.5 k.0,
        under_both inner (field_pool f) (field_type f) None b joins c h.1 ts h.6 k.1,
      )
  field_both joins a b c rs ts h (inr k) = inr (rs ++ k.0, k.1, k.2, ap (λ l. rs ++ l) k.3 ∙ sym (append_assoc rs k.0 (k.2 ∷ k.1)), k.4, k.5, k.6)

  -- records of a number that is neither the field's nor a sibling's
  field_other : (a b : Option Value) (n : ℕ) (run : List Payload × Payload) → n ≢ (field_type f).number → (IsSibling m f n → ⊥) → b ≡ a → LeavesField inner m f a b (run_records n run)
  field_other a b n run other apart same = inl (λ k s. not_numbered k n (run.0 ++ run.1 ∷ []) (λ e. apart (subst (IsSibling m f) (sym e) s)), under_other inner (field_pool f) (field_type f) a b n run other same)

  -- records of the field's own number
  field_own : (a b : Option Value) (run : List Payload × Payload) → Leaves inner (field_pool f) (field_type f) a b (run.0 ++ run.1 ∷ []) → LeavesField inner m f a b (run_records (field_type f).number run)
  field_own a b run h = inl (λ k s. not_numbered k (field_type f).number (run.0 ++ run.1 ∷ []) (λ e. s.4 (sym e)), under_own inner (field_pool f) (field_type f) a b run h)

  -- records of a sibling
  field_unset : (a b : Option Value) (n : ℕ) (run : List Payload × Payload) → IsSibling m f n → b ≡ None → LeavesField inner m f a b (run_records n run)
  field_unset a b n run s none = inr (map (λ p. (n, p)) run.0, [], (n, run.1), map-append (λ (p : Payload). (n, p)) run.0 (run.1 ∷ []), s, (λ k s. refl), none)

module _ (inner : Takes) (m : MessageDescriptor) where
  pub filled_none : (a : Content) → AreChosen m a.choices a.fields → FillsFields inner m a a []
  filled_none a chosen = record { each = λ f owns. inl ((λ k s. refl), refl); chosen = chosen }

  pub filled_both : Joins inner → (a b c : Content) (rs ts : List (ℕ × Payload)) → FillsFields inner m a b rs → FillsFields inner m b c ts → FillsFields inner m a c (rs ++ ts)
  filled_both joins a b c rs ts h k = record {
    each = λ f owns. field_both inner m f joins (value_at a.fields (field_type f).number) (value_at b.fields (field_type f).number) (value_at c.fields (field_type f).number) rs ts (h.each f owns) (k.each f owns);
    chosen = k.chosen;
  }

  -- records of a number that no field has
  pub filled_apart : (a b : Content) (n : ℕ) (run : List Payload × Payload) → ((f : FieldDescriptor) → Owns m f → (field_type f).number ≢ n) → b.fields ≡ a.fields → b.choices ≡ a.choices
      → AreChosen m a.choices a.fields → FillsFields inner m a b (run_records n run)
  filled_apart a b n run none fields choices chosen = record {
    each = λ f owns. field_other inner m f _ _ n run (λ e. none f owns (sym e)) (λ s. none s.1 s.2 s.3) (ap (λ l. value_at l (field_type f).number) fields);
    chosen = subst (λ l. AreChosen m b.choices l) (sym fields) (subst (λ l. AreChosen m l a.fields) (sym choices) chosen);
  }

  module _ (g : FieldDescriptor) (owns : Owns m g) (a b : Content) (between : List (ℕ × Value)) (chosen : AreChosen m a.choices a.fields) (chooses : Chooses g a.choices b.choices)
      (put : (k : ℕ) → k ≢ (field_type g).number → Same a.fields between k) (unsets : Unsets g a.choices between b.fields) where
    changes : Changes g a.choices a.fields b.fields
    changes = unsets_changes g a.choices a.fields between b.fields put unsets

    -- a field that is no sibling stays
    stays : (f : FieldDescriptor) → Owns m f → (field_type f).number ≢ (field_type g).number → (IsSibling m f (field_type g).number → ⊥) → value_at b.fields (field_type f).number ≡ value_at a.fields (field_type f).number
    stays f owned other apart = other_stays m g owns a.choices b.choices a.fields b.fields chosen chooses changes (field_type f).number other mine where
      mine : IsSibling m g (field_type f).number → ⊥
      mine s = apart (s.0, g, owns, refl, (λ e. other (sym e)), same_first m f s.1 owned s.2 (sym s.3) ∙ s.6, s.5)

    module _ (run : List Payload × Payload) (leaves : Leaves inner (field_pool g) (field_type g) (value_at a.fields (field_type g).number) (value_at between (field_type g).number) (run.0 ++ run.1 ∷ [])) where
      filled_field : (f : FieldDescriptor) → Owns m f → LeavesField inner m f (value_at a.fields (field_type f).number) (value_at b.fields (field_type f).number) (run_records (field_type g).number run)
      filled_field f owned = by ((field_type f).number == (field_type g).number) refl where
        result : ℕ → Type 0
        result n = LeavesField inner m f (value_at a.fields (field_type f).number) (value_at b.fields (field_type f).number) (run_records n run)

        apart : (field_type f).number ≢ (field_type g).number → (o : Option ℕ) → first_member_of f ≡ o → result (field_type g).number
        apart other None is =
            let not : IsSibling m f (field_type g).number → ⊥ = λ s. cc (is, s.5) in
            field_other inner m f _ _ (field_type g).number run (λ e. other (sym e)) not (stays f owned other not)
        apart other (Some first) is = within (is_or_not (first_member_of g) first) where
          within : (first_member_of g ≡ Some first) ⊎ (first_member_of g ≢ Some first) → result (field_type g).number
          within (inl its) = field_unset inner m f _ _ (field_type g).number run (first, g, owns, refl, λ e. other (sym e), is, its) (sibling_unset m g owns a.choices b.choices a.fields b.fields chosen chooses changes f owned other first is its)
          within (inr differs) =
              let not : IsSibling m f (field_type g).number → ⊥ = λ s. differs (same_first m g s.1 owns s.2 (sym s.3) ∙ s.6 ∙ sym s.5 ∙ is) in
              field_other inner m f _ _ (field_type g).number run (λ e. other (sym e)) not (stays f owned other not)

        by : (b : Bool) → ((field_type f).number == (field_type g).number) ≡ b → result (field_type g).number
        by true e =
            let same : (field_type f).number ≡ (field_type g).number = grind (arith, e) in
            let mine = leaves_same m f g owned owns same inner _ _ (run.0 ++ run.1 ∷ []) leaves in
            let kept : Leaves inner (field_pool f) (field_type f) (value_at a.fields (field_type g).number) (value_at b.fields (field_type g).number) (run.0 ++ run.1 ∷ []) = subst (λ o. Leaves inner (field_pool f) (field_type f) (value_at a.fields (field_type g).number) o (run.0 ++ run.1 ∷ [])) (sym (own_stays g a.choices between b.fields unsets)) mine in
            subst result same (field_own inner m f _ _ run (subst (λ n. Leaves inner (field_pool f) (field_type f) (value_at a.fields n) (value_at b.fields n) (run.0 ++ run.1 ∷ [])) (sym same) kept))
        by false e = apart (λ same. absurd (grind (arith, e, same))) (first_member_of f) refl

      pub filled_run : FillsFields inner m a b (run_records (field_type g).number run)
      filled_run = record { each = filled_field; chosen = chosen_next m g owns a.choices b.choices a.fields b.fields chosen chooses changes }

-- fields that held nothing hold what the records leave
pub filled_empty : (inner : Takes) (m : MessageDescriptor) (a b : Content) (rs : List (ℕ × Payload)) → a.fields ≡ [] → FillsFields inner m a b rs → HoldFields inner m b.fields rs
filled_empty inner m a b rs none h = λ f owns. subst (λ l. LeavesField inner m f (value_at l (field_type f).number) (value_at b.fields (field_type f).number) rs) none (h.each f owns)
