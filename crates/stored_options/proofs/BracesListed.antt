-- Options in braces that lead to a list add to it, in their order, the messages that their texts give.
use Rattle.std.proofs.Common.{◌≡◌, inl, inr, ℕ, ℤ, Bool, true, false, List, [], ◌∷◌, ◌++◌, map, refl, sym, ap, ◌∙◌, subst, append_assoc}
use Rattle.descriptor_records.specs.Content.{OptionContent}
use Rattle.print_parts.specs.Pairwise.{Pairwise}
use Rattle.protobuf_model.specs.Meaning.{items}
use Rattle.protobuf_model.specs.Types.{Name}
use Rattle.protobuf_model.specs.Values.{Content, list, message, Held, content, Message, chain_of}
use Rattle.protobuf_model.proofs.Pieces.{listed}
use Rattle.protox_lex.specs.Class.{Text}
use Rattle.stored_options.specs.Braces.{ListsAlong, ListsEach, ListsInto, held_along, with_messages}
use Rattle.stored_options.specs.SetOptions.{LeadAlike, Leads, SetsAll}
use Rattle.stored_options.proofs.BracesKept.{AreThrough, Stands, are_through, parts_kept}
use Rattle.stored_options.proofs.BracesSet.{got_listed, set_along}
use Rattle.text_model.specs.Schemas.{Schema}
use Rattle.text_model.specs.Texts.{Gives}
use Rattle.text_model.specs.Value.{is_set}

-- one message, and then others behind it
one_then : (h : Held) (x : Message) (xs : List Message) → with_messages (with_messages h (x ∷ [])) xs ≡ with_messages h (x ∷ xs)
one_then h x [] = refl
one_then h x (y ∷ ys) =
    let cs : List Content = items h ++ (message x ∷ []) in
    let more : List Content = map message (y ∷ ys) in
    ap (λ (ds : List Content). content (list (chain_of (ds ++ more)))) (listed cs)
    ∙ ap (λ (ds : List Content). content (list (chain_of ds))) (append_assoc (items h) (message x ∷ []) more)

module _ (w : Schema) (leads : Leads) (t u : Name) (ns : List ℕ) where
  -- where the options lead to a list, its numbers are those of fields that hold one message each,
  -- but for the last
  way_to : (o : OptionContent) → ListsAlong w leads t o.name ns u → AreThrough w t ns
  way_to o along = are_through w leads (λ v part n. ListsInto w leads v part n u) o.name t ns along

  -- where a text is added, the name of an option leads there
  pub one_leads : (begun : Bool) (os : List OptionContent) (z : Text) (zs : List Text) → ListsEach w leads t ns u begun os (z ∷ zs) → (o : OptionContent) × ListsAlong w leads t o.name ns u
  one_leads begun [] z zs none = let clash : z ∷ zs ≡ [] = none in absurd (cc clash)
  one_leads begun (o ∷ os) z zs (inl (clear, more)) = one_leads begun os z zs more
  one_leads begun (o ∷ os) z zs (inr (y, rest, along, has, more, is)) = (o, along)

  module _ (alike : LeadAlike leads leads) where
    all_added : (begun : Bool) (os : List OptionContent) (old m : Message) (paths : List (List ℤ)) (zs : List Text) → SetsAll w leads t os old m paths → ListsEach w leads t ns u begun os zs
        → (begun ≡ true → Stands w t ns old) → (xs : List Message) × Pairwise (Gives w u) zs xs × (held_along ns m ≡ with_messages (held_along ns old) xs)
    all_added begun [] old m paths zs sets none stands = ([], subst (λ ys. Pairwise (Gives w u) ys []) (sym none) refl, ap (held_along ns) sets.0)
    all_added begun (o ∷ os) old m paths zs (next, path, rest, set, later, is) (inl (clear, more)) stands =
        let here : held_along ns next ≡ held_along ns old = parts_kept w leads ns t o 100 o.name old next path clear.0 (λ around. stands (clear.1 around)) set in
        let further : begun ≡ true → Stands w t ns next = λ e. ((stands e).0, ap is_set here ∙ (stands e).1) in
        let r = all_added begun os next m rest zs later more further in
        (r.0, r.1, r.2 ∙ ap (λ h. with_messages h r.0) here)
    all_added begun (o ∷ os) old m paths zs (next, path, rest, set, later, is) (inr (z, others, along, has, more, texts)) stands =
        let r = set_along w leads alike o z has u (λ v part n. ListsInto w leads v part n u) (λ h x. with_messages h (x ∷ [])) (got_listed w leads alike o z has u) 100 t o.name ns along old next path set in
        let further : true ≡ true → Stands w t ns next = λ e. (way_to o along, ap is_set r.2) in
        let s = all_added true os next m rest others later more further in (
          r.0 ∷ s.0,
          subst (λ ys. Pairwise (Gives w u) ys (r.0 ∷ s.0)) (sym texts) (r.0, s.0, r.1, s.1, refl),
          s.2 ∙ ap (λ h. with_messages h s.0) r.2 ∙ one_then (held_along ns old) r.0 s.0,
        )

-- ---- behind all options

pub list_held : (w : Schema) (leads : Leads) → LeadAlike leads leads → (t u : Name) (os : List OptionContent) (old m : Message) (paths : List (List ℤ)) (ns : List ℕ) (zs : List Text)
    → SetsAll w leads t os old m paths → ListsEach w leads t ns u false os zs → (xs : List Message) × Pairwise (Gives w u) zs xs × (held_along ns m ≡ with_messages (held_along ns old) xs)
list_held w leads alike t u os old m paths ns zs sets lists = all_added w leads t u ns alike false os old m paths zs sets lists (λ e. absurd (cc e))
