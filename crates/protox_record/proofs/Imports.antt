-- Places of imports, with one import more.
use Rattle.std.proofs.Common.{◌≡◌, ◌∙◌, ◌+◌, ◌++◌, ℕ, List, [], ◌∷◌, length, ap, sym, append_assoc, arith}
use Rattle.std.proofs.lemmas.List.{append-nil}
use Rattle.std.proofs.Math.Nat.{add-zero}
use Rattle.protox_record.specs.FileRecords.{place_at, places_from}
use Rattle.protox_tree.specs.declared.file.Import.{Import}
use Rattle.protox_tree.specs.declared.file.ImportKind.{ImportKind}

pub places_more : (kind : ImportKind) (n : ℕ) (xs : List Import) (x : Import) → places_from kind n (xs ++ x ∷ []) ≡ places_from kind n xs ++ place_at kind (n + length xs) x
places_more kind n [] x = append-nil (place_at kind n x) ∙ ap (λ m. place_at kind m x) (sym (add-zero n))
places_more kind n (y ∷ ys) x =
    let e : n + 1 + length ys ≡ n + length (y ∷ ys) = omega arith in
    ap (λ zs. place_at kind n y ++ zs) (places_more kind (n + 1) ys x ∙ ap (λ m. places_from kind (n + 1) ys ++ place_at kind m x) e)
    ∙ sym (append_assoc (place_at kind n y) (places_from kind (n + 1) ys) (place_at kind (n + length (y ∷ ys)) x))
