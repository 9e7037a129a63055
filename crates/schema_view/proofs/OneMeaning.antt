-- A name has one meaning, also by what another set of files knows, where both want the same.
use Rattle.std.proofs.Common.{◌≡◌, ◌≤◌, ◌<◌, ℕ, [], ◌∷◌, ◌⊎◌, inl, inr, length, Bool, true, false, eqb, take, refl, sym, ap, ◌∙◌, subst, arith}
use Rattle.std.specs.Prelude.{MatchBool}
use Rattle.std.proofs.Math.Seq.{take-append_seam, take-length}
use Rattle.std.proofs.lemmas.Bool.{cases_lt}
use Rattle.descriptor_records.specs.Content.{Text}
use Rattle.schema_view.specs.Files.{join}
use Rattle.schema_view.specs.Outlines.{IsScope}
use Rattle.schema_view.specs.Means.{has_dot, first_part, MeansUndotted, MeansDotted, MeansPlain, MeansBy}

scope_take : (s p : Text) → IsScope s p → take (length p) s ≡ p
scope_take s p (inl e) = subst (λ x. take (length p) x ≡ p) e (take-length p)
scope_take s p (inr (inl e)) = subst (λ x. take (length x) s ≡ x) (sym e) refl
scope_take s p (inr (inr (rest, is))) = subst (λ x. take (length p) x ≡ p) (sym is) (take-append_seam p (46 ∷ rest))

-- scopes of one length are one scope
pub one_scope : (s p q : Text) → IsScope s p → IsScope s q → length p ≡ length q → p ≡ q
one_scope s p q u v e = sym (scope_take s p u) ∙ ap (λ n. take n s) e ∙ scope_take s q v

module _ (W H V G : Text → Type 0) (to : (n : Text) → W n → V n) (from : (n : Text) → V n → W n) where
  undotted_one : (scope name a b : Text) → MeansUndotted W H scope name a → MeansUndotted V G scope name b → a ≡ b
  undotted_one scope name a b (p, s, e, w, none) (q, t, f, v, less) = by (cases_lt (length p) (length q)) (cases_lt (length q) (length p)) where
    by : (length p < length q) ⊎ (length q ≤ length p) → (length q < length p) ⊎ (length p ≤ length q) → a ≡ b
    by (inl lt) other = absurd (none q t lt (from (join q name) (subst V f v)))
    by (inr le) (inl lt) = absurd (less p s lt (to (join p name) (subst W e w)))
    by (inr le) (inr ge) = e ∙ ap (λ x. join x name) (one_scope scope p q s t (omega arith)) ∙ sym f

  dotted_one : (scope name a b : Text) → ((p : Text) → V (join p name) → G (join p (first_part name)) → H (join p (first_part name)))
      → ((p : Text) → W (join p name) → H (join p (first_part name)) → G (join p (first_part name)))
      → MeansDotted W H scope name a → MeansDotted V G scope name b → a ≡ b
  dotted_one scope name a b hold held (p, s, e, w, h, none) (q, t, f, v, g, less) = by (cases_lt (length p) (length q)) (cases_lt (length q) (length p)) where
    by : (length p < length q) ⊎ (length q ≤ length p) → (length q < length p) ⊎ (length p ≤ length q) → a ≡ b
    by (inl lt) other = absurd (none q t lt (hold q (subst V f v) g))
    by (inr le) (inl lt) = absurd (less p s lt (held p (subst W e w) h))
    by (inr le) (inr ge) = e ∙ ap (λ x. join x name) (one_scope scope p q s t (omega arith)) ∙ sym f

  abbrev Holding : Text → Type 0
  Holding name = ((p : Text) → V (join p name) → G (join p (first_part name)) → H (join p (first_part name)))
      × ((p : Text) → W (join p name) → H (join p (first_part name)) → G (join p (first_part name)))

  plain_one : (scope name a b : Text) → (has_dot name ≡ true → Holding name) → MeansPlain W H scope name a → MeansPlain V G scope name b → a ≡ b
  plain_one scope name a b holds m n = by (has_dot name) refl m n where
    by : (d : Bool) → has_dot name ≡ d → MatchBool d (MeansDotted W H scope name a) (MeansUndotted W H scope name a) → MatchBool d (MeansDotted V G scope name b) (MeansUndotted V G scope name b) → a ≡ b
    by true is m n = let h = holds is in dotted_one scope name a b h.0 h.1 m n
    by false is m n = undotted_one scope name a b m n

  pub means_one : (scope name a b : Text) → ((c : ℕ) (rest : Text) → name ≡ c ∷ rest → eqb c 46 ≡ false → has_dot name ≡ true → Holding name) → MeansBy W H scope name a → MeansBy V G scope name b → a ≡ b
  means_one scope [] a b holds m n = plain_one scope [] a b (λ e. absurd (cc)) m n
  means_one scope (c ∷ name) a b holds m n = by (eqb c 46) refl m n where
    by : (d : Bool) → eqb c 46 ≡ d → MatchBool d ((a ≡ name) × W name) (MeansPlain W H scope (c ∷ name) a) → MatchBool d ((b ≡ name) × V name) (MeansPlain V G scope (c ∷ name) b) → a ≡ b
    by true is m n = m.0 ∙ sym n.0
    by false is m n = plain_one scope (c ∷ name) a b (holds c name refl is) m n
