-- The type that options of a scope are read by, in two pools that have types of the same names.
use Rattle.std.proofs.Common.{◌≡◌, ◌∙◌, ℕ, Option, Some, None, ap, refl, sym}
use Rattle.std.specs.List.{find}
use Rattle.std.specs.Option.{option_map}
use Rattle.std.specs.Str.{bytes_eq}
use Rattle.option_parts.specs.OptionTypes.{IsNamedType, type_name}
use Rattle.option_parts.specs.declared.option_scope.OptionScope.{OptionScope}
use Rattle.protox_lex.specs.Class.{Text}
use Rattle.reflect_tables.specs.Types.{MessageType, PoolType, type_at}
use Rattle.settled_records.proofs.Said.{no_dot}
use Rattle.settled_records.proofs.ScopeTypes.{found_named, is_named, named_found}
use Rattle.text_view.specs.Schemas.{type_called}

-- the full name of a type, if there is one
abbrev full : Option MessageType → Option Text
full o = option_map (λ (m : MessageType). m.full_name) o

module _ (scope : OptionScope) where
  -- texts find the first type of the scope's name
  called_first : (p : PoolType) → type_called p (type_name scope) ≡ full (find (is_named scope) p.messages)
  called_first p = ap (λ n. full (find (λ (m : MessageType). bytes_eq m.full_name n) p.messages)) (no_dot scope)

  -- where the one has a type of the scope's name, the other has one
  pub named_in_both : (p q : PoolType) → type_called p (type_name scope) ≡ type_called q (type_name scope) → (k : ℕ) → IsNamedType q scope k → (i : ℕ) × IsNamedType p scope i
  named_in_both p q alike k first = by (find (is_named scope) p.messages) refl where
    found : full (find (is_named scope) p.messages) ≡ Some (type_at q k).full_name
    found = sym (called_first p) ∙ alike ∙ called_first q ∙ ap full (named_found scope q k first)

    by : (o : Option MessageType) → find (is_named scope) p.messages ≡ o → (i : ℕ) × IsNamedType p scope i
    by None none = absurd (cc (none, found))
    by (Some m) some = found_named scope p m some
