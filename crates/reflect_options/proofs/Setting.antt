-- Options that are set one after another, and the first that is forbidden.
use Rattle.std.proofs.Common.{◌≡◌, ◌∙◌, ◌++◌, ℕ, ℤ, List, [], ◌∷◌, Bool, true, false, not, Option, None, Some, IfSome, IsSome, inr, option_map, slice_get, take, ap, refl, sym, subst}
use Rattle.std.specs.Bool.{beq}
use Rattle.std.specs.Option.{option_and_then, unwrap_or}
use Rattle.descriptor_records.specs.declared.options.Options.{Options}
use Rattle.descriptor_records.specs.declared.options.UninterpretedOption.{UninterpretedOption}
use Rattle.option_parts.specs.OptionTypes.{typed_option}
use Rattle.option_parts.specs.declared.option_error.OptionErrorKind.{OptionErrorKind}
use Rattle.option_parts.specs.declared.option_error.OptionErrorKind.TheVariants as kinds
use Rattle.option_parts.specs.declared.option_scope.OptionScope.{OptionScope}
use Rattle.option_parts.specs.declared.option_scope.OptionScope.TheVariants as scopes
use Rattle.option_setter.proofs.Refusals.{unless_then}
use Rattle.option_setter.specs.OptionNames.{UnlessMemory}
use Rattle.option_setter.specs.SetOptions.{RefusesParts}
use Rattle.option_setter.specs.WrittenNames.{TellsOption}
use Rattle.descriptor_records.specs.Content.{option_view}
use Rattle.option_setter.specs.declared.option_setter.NameScope.{NameScope}
use Rattle.reflect_decode.specs.Spelled.{IsSpelled}
use Rattle.reflect_entries.specs.Entries.{value_at}
use Rattle.reflect_message.specs.Held.{fields_of}
use Rattle.reflect_message.specs.Known.{known_field}
use Rattle.reflect_message.specs.Names.{DynamicMessage}
use Rattle.reflect_message.specs.Present.{held_if_set}
use Rattle.reflect_pool.specs.FieldsLeft.{field_type}
use Rattle.reflect_pool.specs.declared.field.FieldDescriptor.{FieldDescriptor}
use Rattle.reflect_pool.specs.declared.message.MessageDescriptor.{MessageDescriptor}
use Rattle.reflect_scalar.specs.FieldTypes.{field_pool}
use Rattle.reflect_options.specs.Settled.{FindsForbidden, IsStored, IsType, IsWhole, RefusesAt, RefusesOptions, RefusesStored, RefusesTyped, RefusesWritten, SetsAll, SetsOption, truth_in, truth_said}

-- one option more is set behind others
pub set_more : (s : NameScope) (os : List UninterpretedOption) (o : UninterpretedOption) (a b c : DynamicMessage) (ps : List (List ℤ)) (p : List ℤ)
    → SetsAll s os a b ps → SetsOption s o b c p → SetsAll s (os ++ o ∷ []) a c (ps ++ p ∷ [])
set_more s [] o a b c ps p (same, none) sets = (c, p, [], subst (λ m. SetsOption s o m c p) same sets, (refl, refl), ap (λ l. l ++ p ∷ []) none)
set_more s (x ∷ os) o a b c ps p (next, path, rest, first, more, is) sets =
    (next, path, rest ++ p ∷ [], first, set_more s os o next b c rest p more sets, ap (λ l. l ++ p ∷ []) is)

-- ---- what linking reads itself
module _ (m : DynamicMessage) (n : ℕ) (d : MessageDescriptor) (is : d ≡ m.descriptor) where
  -- there is no such field
  pub truth_none : None ≡ known_field d.pool.now d.index n → None ≡ truth_said n m
  truth_none none =
      let here : known_field m.descriptor.pool.now m.descriptor.index n ≡ None = ap (λ (d : MessageDescriptor). known_field d.pool.now d.index n) (sym is) ∙ sym none in
      sym (ap (option_and_then (λ f. truth_in (held_if_set m.descriptor.pool.now f (value_at (fields_of m) n)))) here)

  -- it is this one
  pub truth_some : (f : FieldDescriptor) → f.message ≡ d → (field_type f).number ≡ n → Some (field_type f) ≡ known_field d.pool.now d.index n
      → truth_said n m ≡ truth_in (held_if_set (field_pool f) (field_type f) (value_at (fields_of m) (field_type f).number))
  truth_some f message number known =
      let here : known_field m.descriptor.pool.now m.descriptor.index n ≡ Some (field_type f) = ap (λ (d : MessageDescriptor). known_field d.pool.now d.index n) (sym is) ∙ sym known in
      ap (option_and_then (λ g. truth_in (held_if_set m.descriptor.pool.now g (value_at (fields_of m) n)))) here
      ∙ ap (λ p. truth_in (held_if_set p (field_type f) (value_at (fields_of m) n))) (ap (λ (d : MessageDescriptor). d.pool.now) (sym (message ∙ is)))
      ∙ ap (λ k. truth_in (held_if_set (field_pool f) (field_type f) (value_at (fields_of m) k))) (sym number)

-- ---- what is refused
-- the number that a message's options are asked for
pub number_is : (scope : OptionScope) → scope ≡ scopes.Message → (w : List ℕ) (n : ℕ) → Some (w, n) ≡ typed_option scope → n ≡ 7
number_is scope is w n e = ap (λ (o : Option (List ℕ × ℕ)). unwrap_or (option_map (λ p. p.1) o) n) (e ∙ ap typed_option is)

pub differ : (a b : Bool) → not (beq a b) ≡ true → a ≡ b → ⊥
differ true true e same = absurd (cc e)
differ true false e same = absurd (cc same)
differ false true e same = absurd (cc same)
differ false false e same = absurd (cc e)

-- what is stored contradicts the record
pub contradicts : (scope : OptionScope) (d : MessageDescriptor) (o : Options) (m : DynamicMessage) (kind : OptionErrorKind) → scope ≡ scopes.Message → kind ≡ kinds.UndecodableOptions None → m.descriptor ≡ d → IsSpelled d o.encoded.items m
    → (unwrap_or (truth_said 7 m) false ≡ unwrap_or o.map_entry false → ⊥) → UnlessMemory (RefusesStored scope d o) kind
contradicts scope d o m kind is told same spelled apart = rw (told, is) (m, same, spelled, apart)

module _ (scope : OptionScope) (s : NameScope) (d : MessageDescriptor) (o : Options) where
  -- one of the options that a source wrote is refused
  one_refused : (stored : DynamicMessage) → IsStored scope d o stored → (at : Option ℕ) (e : OptionErrorKind)
      → (IfSome at (λ place. RefusesAt s o.uninterpreted_option.items stored place e) × IsSome at) → RefusesTyped scope s d o at e
  one_refused stored is None e h = absurd (cc (h.1))
  one_refused stored is (Some place) e h = (stored, is, h.0)

  pub at_one : (stored : DynamicMessage) → IsStored scope d o stored → (at : Option ℕ) (e : OptionErrorKind)
      → UnlessMemory (λ kind. IfSome at (λ place. RefusesAt s o.uninterpreted_option.items stored place kind) × IsSome at) e → UnlessMemory (RefusesTyped scope s d o at) e
  at_one stored is at e h = unless_then (λ kind. IfSome at (λ place. RefusesAt s o.uninterpreted_option.items stored place kind) × IsSome at) (RefusesTyped scope s d o at) (one_refused stored is at) e h

  -- what is written is
  pub whole_refused : (whole : DynamicMessage) (paths : List (List ℤ)) → IsWhole scope s d o whole paths → (at : Option ℕ) → at ≡ None → (e : OptionErrorKind)
      → UnlessMemory (RefusesWritten whole) e → UnlessMemory (RefusesTyped scope s d o at) e
  whole_refused whole paths is at none e h = rw none (unless_then (RefusesWritten whole) (RefusesTyped scope s d o None) (λ e h. inr (whole, paths, is, h)) e h)

  -- the type refuses them
  pub typed_refused : FindsForbidden scope o None → IsType scope s d → (at : Option ℕ) (e : OptionErrorKind) → UnlessMemory (RefusesTyped scope s d o at) e → UnlessMemory (RefusesOptions scope s o at) e
  typed_refused none finds at e h = unless_then (RefusesTyped scope s d o at) (RefusesOptions scope s o at) (λ e h. inr (none, inr (d, finds, h))) e h

both : (P Q : OptionErrorKind → Type 0) (e : OptionErrorKind) → UnlessMemory P e → Q e → UnlessMemory (λ k. P k × Q k) e
both P Q kinds.Memory p q = tt
both P Q e p q = (p, q)

-- an option is refused behind those in front of it
pub refused_at : (s : NameScope) (os : List UninterpretedOption) (m front : DynamicMessage) (place : ℕ) (paths : List (List ℤ)) (x : UninterpretedOption) (e : OptionErrorKind)
    → slice_get os place ≡ Some x → SetsAll s (take place os) m front paths → UnlessMemory (RefusesParts s (option_view x) 100 x.name.items front) e → TellsOption (option_view x) e
    → UnlessMemory (λ kind. RefusesAt s os m place kind) e
refused_at s os m front place paths x e at sets refused named =
    unless_then (λ kind. RefusesParts s (option_view x) 100 x.name.items front kind × TellsOption (option_view x) kind) (λ kind. RefusesAt s os m place kind) (λ kind h. (x, front, paths, at, sets, h.0, h.1)) e
    (both (RefusesParts s (option_view x) 100 x.name.items front) (TellsOption (option_view x)) e refused named)
