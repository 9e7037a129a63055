-- The location of the statement in front gets its trailing comment.
use Rattle.std.proofs.Common.{◌≡◌, ℕ, zero, suc, ◌<◌, ◌≤◌, List, [], ◌∷◌, Option, String, Global, map, length, get_or, ap, refl, arith}
use Rattle.std.proofs.Math.ListN.{set}
use Rattle.descriptor_records.specs.Content.{LocationContent, location_view, text_view}
use Rattle.descriptor_records.specs.declared.source_info.Location.{Location}
use Rattle.protox_lex.specs.Class.{Text}
use Rattle.protox_locate.specs.Collected.{trailed_at}

pub trailed_set : (ls : List Location) (k : ℕ) (l : Location) (t : Option (String Global)) → k < length ls → l ≡ get_or ls k l
    → map location_view (set ls k (record l { trailing_comments = t })) ≡ trailed_at k (text_view t) (map location_view ls)
trailed_set [] k l t lt e = absurd (omega (arith, lt))
trailed_set (x ∷ ls) zero l t lt e =
    let given : Location → List LocationContent = λ y. record (location_view y) { trailing_comments = text_view t } ∷ map location_view ls in
    ap given e
trailed_set (x ∷ ls) (suc k) l t lt e = ap (λ ys. location_view x ∷ ys) (trailed_set ls k l t (omega (arith, lt)) e)

pub trailed_past : (k : ℕ) (t : Option Text) (ls : List LocationContent) → length ls ≤ k → trailed_at k t ls ≡ ls
trailed_past k t [] le = refl
trailed_past zero t (l ∷ ls) le = absurd (omega (arith, le))
trailed_past (suc k) t (l ∷ ls) le = ap (λ ys. l ∷ ys) (trailed_past k t ls (omega (arith, le)))
