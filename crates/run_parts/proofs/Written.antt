-- What a stream has got of bytes that are written to it piece by piece, and of a line.
use Rattle.std.proofs.Common.{◌≡◌, ℕ, ◌-◌, ◌<◌, List, [], ◌∷◌, ◌++◌, Option, None, Some, IfSome, Result, Ok, Err, OnErr, length, take, drop, refl, sym, ap, ◌∙◌, append_assoc, take-append-drop, zero-lt-suc}
use Rattle.std.proofs.lemmas.List.{take_rest}
use Rattle.std.proofs.KnownBytes.{Appends-nil}
use Rattle.run_parts.specs.Streams.{GetsPart, between, line_of}

-- so many more are gone from the rest
pub more_gone : (all done rest : List ℕ) (n : ℕ) → all ≡ done ++ rest → all ≡ (done ++ take n rest) ++ take (length rest - n) (drop n rest)
more_gone all done rest n e =
    e ∙ ap (λ l. done ++ l) (sym (take-append-drop n rest)) ∙ sym (append_assoc done (take n rest) (drop n rest)) ∙ ap (λ l. (done ++ take n rest) ++ l) (sym (take_rest rest n))

pub on_err : {X E : Type 0} (r : Result X E) (P : Type 0) → P → OnErr r P
on_err (Ok x) P p = tt
on_err (Err e) P p = p

has_end : (text : List ℕ) → 0 < length (line_of text)
has_end [] = zero-lt-suc 0
has_end (x ∷ xs) = zero-lt-suc (length (line_of xs))

-- of a line that is not begun, what is written is a part
pub not_begun : {S : Type 0} (known : S → Option (List ℕ)) (s : S) (o : Option (List ℕ)) → IfSome o (λ t. GetsPart (between known s s) (line_of t))
not_begun known s None = tt
not_begun known s (Some t) = ([], line_of t, refl, has_end t, Appends-nil (known s))
