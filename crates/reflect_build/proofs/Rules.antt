-- What the rules of numbers say of declarations in which they find no fault.
use Rattle.std.proofs.Common.{◌≡◌, inl, inr, ℕ, Bool, true, false, not, cond, ◌&&◌, List, [], ◌∷◌, ◌++◌, refl, sym, ap, ◌∙◌, subst}
use Rattle.reflect_declarations.specs.Tree.{MessageParts}
use Rattle.reflect_walk.specs.MapEntries.{says_entry}
use Rattle.reflect_declarations.specs.Declarations.{Declaration, of_message}
use Rattle.reflect_faults.specs.Faults.{Fault}
use Rattle.reflect_names.specs.Names.{Places}
use Rattle.reflect_references.specs.Meanings.{rest_behind}
use Rattle.reflect_rules.specs.MapEntries.{has_entry_shape}
use Rattle.reflect_rules.specs.RulePass.{FaultsAlong}
use Rattle.reflect_rules.specs.Rules.{Values, FaultsOf, entry_faults, is_one_map}
use Rattle.reflect_rules.specs.Walks.{Facts, Place, place_behind}
use Rattle.reflect_index.specs.Along.{AtHand, Met, along, met, before_files, hand_behind}
use Rattle.reflect_index.proofs.Among.{Among}

pub none_both : {X : Type 0} (a b : List X) → a ++ b ≡ [] → (a ≡ []) × (b ≡ [])
none_both [] b e = (refl, e)
none_both (x ∷ a) b e = absurd (cc e)

-- the rules find nothing wrong with any of them, where the references at hand are those of the walk
pub rules_met : (g : Facts) (values : Values) (at : ℕ → Places) (h : AtHand) (p : Place)
    (ds : List Declaration) (xs : List Fault) → FaultsAlong g values at p ds xs → xs ≡ []
    → p.rest ≡ h.rest → (m : Met) → Among m (along h ds) → (q : Place) × (q.rest ≡ m.hand.rest)
    × FaultsOf g values q (at m.declaration.file) m.declaration []
rules_met g values at h p [] xs ruled none same m k = absurd k
rules_met g values at h p (e ∷ ds) xs (ys, zs, here, rest, is) none same m (inl first) =
    subst (λ (m : Met). (q : Place) × (q.rest ≡ m.hand.rest)
    × FaultsOf g values q (at m.declaration.file) m.declaration []) first (
      p,
      same,
      subst (FaultsOf g values p (at e.file) e) (none_both ys zs (sym is ∙ none)).0 here,
    )
rules_met g values at h p (e ∷ ds) xs (ys, zs, here, rest, is) none same m (inr later) =
    rules_met g values at (hand_behind h e) (place_behind p e) ds zs rest
    (none_both ys zs (sym is ∙ none)).1 (ap (rest_behind e) same) m later

-- each is met along the walk
pub is_met : (h : AtHand) (ds : List Declaration) (d : Declaration) → Among d ds → (m : Met)
    × Among m (along h ds) × (m.declaration ≡ d)
is_met h [] d k = absurd k
is_met h (e ∷ ds) d (inl same) = (met h e, inl refl, same)
is_met h (e ∷ ds) d (inr later) = let found = is_met (hand_behind h e) ds d later in
    (found.0, inr found.1, found.2)

pub rules_at : (g : Facts) (values : Values) (at : ℕ → Places) (p : Place) (ds : List Declaration)
    (xs : List Fault) → FaultsAlong g values at p ds xs → xs ≡ [] → (d : Declaration) → Among d ds
    → (q : Place) × FaultsOf g values q (at d.file) d []
rules_at g values at p ds xs ruled none d k =
    let m = is_met (before_files p.rest) ds d k in
    let rule = rules_met g values at (before_files p.rest) p ds xs ruled none refl m.0 m.1 in
    (rule.0, subst (λ (x : Declaration). FaultsOf g values rule.0 (at x.file) x []) m.2 rule.2)

shaped : (says shape used : Bool) (x : Fault) → says ≡ true
    → cond (says && not (shape && used)) (x ∷ []) [] ≡ [] → shape ≡ true
shaped true true used x e h = refl
shaped true false used x e h = absurd (cc h)
shaped false shape used x e h = absurd (cc e)

-- a message that says that it is a map's entry has the shape of one
pub entry_shape : (g : Facts) (values : Values) (q : Place) (at : Places) (d : Declaration)
    (own : MessageParts) → FaultsOf g values q at d [] → d.body ≡ of_message own
    → says_entry own.options ≡ true → has_entry_shape own.field ≡ true
entry_shape g values q at d own h is says =
    let here : FaultsOf g values q at (record d { body = of_message own }) [] =
    subst (λ b. FaultsOf g values q at (record d { body = b }) []) is h in
    shaped (says_entry own.options) (has_entry_shape own.field) (is_one_map (g.uses d.index)) _ says
    (none_both (entry_faults at d.path d.name (g.uses d.index) own) _ (sym here)).0
