-- A number that no name leads to first holds nothing behind options, if it held nothing before.
use Rattle.std.proofs.Common.{◌≡◌, ℕ, ℤ, zero, suc, ◌==◌, Bool, true, false, cond, List, [], ◌∷◌, ◌++◌, Option, unwrap_or, refl, sym, ap, ◌∙◌, subst}
use Rattle.std.specs.List.{AllByRecursion}
use Rattle.descriptor_records.specs.Content.{NameContent, OptionContent}
use Rattle.stored_options.specs.SetOptions.{Gets, Leads, SetsAll, SetsParts}
use Rattle.protobuf_model.specs.Types.{Field, Label, Name, keyed, many, one, rival}
use Rattle.protobuf_model.specs.Values.{Content, Held, Message, absent, content, message}
use Rattle.protobuf_model.specs.Meaning.{if_any, if_some, items, pairs, put_all}
use Rattle.text_model.specs.Schemas.{Schema}
use Rattle.text_model.specs.Value.{assign, entry_of, settled}
use Rattle.text_view.proofs.Puts.{is_number}

-- the first part does not lead to the number
abbrev pub Spares : Leads → Name → ℕ → List NameContent → Type 0
Spares leads t k [] = Unit {0}
Spares leads t k (part ∷ parts) = leads t part k → ⊥

assigned_elsewhere : (type : ℕ → Option Field) (n k : ℕ) (h : Held) (m : Message) → (k ≡ n → ⊥) → m k ≡ absent → assign type n h m k ≡ absent
assigned_elsewhere type n k h m other none = by (k == n) refl where
  by : (b : Bool) → (k == n) ≡ b → cond (k == n) h (cond (rival type n k) absent (m k)) ≡ absent
  by true is = absurd (other (is_number k n is))
  by false is = ap (λ b. cond b h (cond (rival type n k) absent (m k))) is ∙ ap (λ x. cond (rival type n k) absent x) none ∙ either (rival type n k) where
    either : (b : Bool) → cond b absent absent ≡ absent
    either true = refl
    either false = refl

got_elsewhere : (type : ℕ → Option Field) (n k : ℕ) (f : Field) (l : Label) (c : Content) (old new : Message) → (k ≡ n → ⊥) → old k ≡ absent
    → Gets type n f l c old new → new k ≡ absent
got_elsewhere type n k f one c old new other none gets = ap (λ (m : Message). m k) gets.1 ∙ assigned_elsewhere type n k (settled f.part c) old other none
got_elsewhere type n k f (many packed) c old new other none gets =
    ap (λ (o : Option Message). unwrap_or o new k) (sym gets) ∙ assigned_elsewhere type n k (if_any (items (old n) ++ (c ∷ []))) old other none
got_elsewhere type n k f (keyed key) c old new other none gets =
    ap (λ (o : Option Message). unwrap_or o new k) (sym gets) ∙ assigned_elsewhere type n k (if_some (put_all (pairs (old n)) (entry_of key f.part c ∷ []))) old other none

module _ (w : Schema) (leads : Leads) (t : Name) (k : ℕ) where
  other_number : (part : NameContent) (n : ℕ) → (leads t part k → ⊥) → leads t part n → k ≡ n → ⊥
  other_number part n spares led same = spares (subst (leads t part) (sym same) led)

  parts_spare : (o : OptionContent) (levels : ℕ) (parts : List NameContent) (old new : Message) (path : List ℤ) → Spares leads t k parts
      → SetsParts w leads o levels t parts old new path → old k ≡ absent → new k ≡ absent
  parts_spare o levels [] old new path spares sets none = ap (λ (m : Message). m k) sets.0 ∙ none
  parts_spare o levels (part ∷ []) old new path spares sets none =
      got_elsewhere (w.types t) sets.0 k sets.1 sets.1.label sets.2 old new (other_number part sets.0 spares sets.3) none sets.6
  parts_spare o zero (part ∷ next ∷ parts) old new path spares sets none = absurd sets
  parts_spare o (suc levels) (part ∷ next ∷ parts) old new path spares sets none =
      ap (λ (m : Message). m k) sets.6 ∙ assigned_elsewhere (w.types t) sets.0 k (content (message sets.3)) old (other_number part sets.0 spares sets.2.led) none

  pub all_spare : (os : List OptionContent) (old new : Message) (paths : List (List ℤ)) → AllByRecursion (λ (o : OptionContent). Spares leads t k o.name) os
      → SetsAll w leads t os old new paths → old k ≡ absent → new k ≡ absent
  all_spare [] old new paths spares sets none = ap (λ (m : Message). m k) sets.0 ∙ none
  all_spare (o ∷ os) old new paths spares sets none =
      all_spare os sets.0 new sets.2 spares.1 sets.4 (parts_spare o 100 o.name old sets.0 sets.1 spares.0 sets.3 none)
