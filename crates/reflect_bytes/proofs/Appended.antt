-- Bytes that are put behind others, a key and a payload at a time.
use Rattle.std.proofs.Common.{◌≡◌, ◌∙◌, ℕ, List, ◌++◌, ap}
use Rattle.std.proofs.lemmas.List.{append_assoc}

pub one_more : (set with_key longer key payload rest whole : List ℕ) → with_key ≡ set ++ key → longer ≡ with_key ++ payload → set ++ ((key ++ payload) ++ rest) ≡ whole → longer ++ rest ≡ whole
one_more set with_key longer key payload rest whole k p is =
    ap (λ bytes. bytes ++ rest) (p ∙ ap (λ bytes. bytes ++ payload) k)
    ∙ ap (λ bytes. bytes ++ rest) (append_assoc set key payload) ∙ append_assoc set (key ++ payload) rest ∙ is
