-- Entries that are put into maps one behind the other, alike into maps that are alike, leave maps that are alike.
use Rattle.std.proofs.Common.{◌≡◌, List, [], ◌∷◌, string_bytes, Ordering, Less, Equal, Greater, refl, sym, ap, ◌∙◌, subst}
use Rattle.std.specs.BTreeMap.{insert_entry}
use Rattle.std.specs.Cmp.Lexicographic.{slice_cmp}
use Rattle.std.specs.Ordering.{match_ordering, nat_cmp}
use Rattle.reflect_scalar.specs.Keys.{key_view}
use Rattle.reflect_scalar.specs.declared.map_key.MapKey.{MapKey}
use Rattle.reflect_scalar.specs.declared.map_key.MapKey.TheVariants as keys
use Rattle.reflect_message.specs.Maps.{key_order}
use Rattle.reflect_message.specs.Names.{Value}
use Rattle.print_parts.specs.Pairwise.{Pairwise}
use Rattle.print_view.proofs.Alike.{AlikePairs, Likeness}

-- ---- keys that are seen alike are ordered alike
first_key : (a b c : MapKey) → key_view a ≡ key_view b → key_order a c ≡ key_order b c
first_key (keys.Bool x) (keys.Bool y) c e = let same : x ≡ y = cc e in ap (λ x. key_order (keys.Bool x) c) same
first_key (keys.I32 x) (keys.I32 y) c e = let same : x ≡ y = cc e in ap (λ x. key_order (keys.I32 x) c) same
first_key (keys.I64 x) (keys.I64 y) c e = let same : x ≡ y = cc e in ap (λ x. key_order (keys.I64 x) c) same
first_key (keys.U32 x) (keys.U32 y) c e = let same : x ≡ y = cc e in ap (λ x. key_order (keys.U32 x) c) same
first_key (keys.U64 x) (keys.U64 y) c e = let same : x ≡ y = cc e in ap (λ x. key_order (keys.U64 x) c) same
first_key (keys.String x) (keys.String y) (keys.String z) e = let same : string_bytes x ≡ string_bytes y = cc e in ap (λ l. slice_cmp nat_cmp l (string_bytes z)) same
first_key (keys.String x) (keys.String y) c e = refl
first_key a b c e = absurd (cc e)

second_key : (a b c : MapKey) → key_view b ≡ key_view c → key_order a b ≡ key_order a c
second_key a (keys.Bool x) (keys.Bool y) e = let same : x ≡ y = cc e in ap (λ x. key_order a (keys.Bool x)) same
second_key a (keys.I32 x) (keys.I32 y) e = let same : x ≡ y = cc e in ap (λ x. key_order a (keys.I32 x)) same
second_key a (keys.I64 x) (keys.I64 y) e = let same : x ≡ y = cc e in ap (λ x. key_order a (keys.I64 x)) same
second_key a (keys.U32 x) (keys.U32 y) e = let same : x ≡ y = cc e in ap (λ x. key_order a (keys.U32 x)) same
second_key a (keys.U64 x) (keys.U64 y) e = let same : x ≡ y = cc e in ap (λ x. key_order a (keys.U64 x)) same
second_key (keys.String z) (keys.String x) (keys.String y) e = let same : string_bytes x ≡ string_bytes y = cc e in ap (λ l. slice_cmp nat_cmp (string_bytes z) l) same
second_key a (keys.String x) (keys.String y) e = refl
second_key a b c e = absurd (cc e)

module _ (A : Likeness) where
  pub put_alike : (es gs : List (MapKey × Value)) (k j : MapKey) (v w : Value) → Pairwise (AlikePairs A) es gs → AlikePairs A (k, v) (j, w) → Pairwise (AlikePairs A) (insert_entry key_order es k v) (insert_entry key_order gs j w)
  put_alike [] gs k j v w none one = subst (λ l. Pairwise (AlikePairs A) ((k, v) ∷ []) (insert_entry key_order l j w)) (sym none) ((j, w), [], one, refl, refl)
  put_alike (e ∷ es) gs k j v w (g, rest, first, more, is) one =
      subst (λ l. Pairwise (AlikePairs A) (insert_entry key_order (e ∷ es) k v) (insert_entry key_order l j w)) (sym is)
      (subst (λ o. Pairwise (AlikePairs A) (put_at (key_order k e.0)) (match_ordering o ((j, w) ∷ g ∷ rest) ((g.0, w) ∷ rest) (g ∷ insert_entry key_order rest j w))) order (by (put_alike es rest k j v w more one) (key_order k e.0))) where
        put_at : Ordering → List (MapKey × Value)
        put_at o = match_ordering o ((k, v) ∷ e ∷ es) ((e.0, v) ∷ es) (e ∷ insert_entry key_order es k v)

        order : key_order k e.0 ≡ key_order j g.0
        order = first_key k j e.0 one.0 ∙ second_key j e.0 g.0 first.0

        by : Pairwise (AlikePairs A) (insert_entry key_order es k v) (insert_entry key_order rest j w) → (o : Ordering)
            → Pairwise (AlikePairs A) (put_at o) (match_ordering o ((j, w) ∷ g ∷ rest) ((g.0, w) ∷ rest) (g ∷ insert_entry key_order rest j w))
        by later Less = ((j, w), g ∷ rest, one, (g, rest, first, more, refl), refl)
        by later Equal = ((g.0, w), rest, (first.0, one.1), more, refl)
        by later Greater = (g, insert_entry key_order rest j w, first, later, refl)
