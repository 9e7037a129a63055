-- Bytes as a type writes a message of which it knows all: what they mean, and those of nothing.
use Rattle.std.proofs.Common.{◌≡◌, ℕ, ◌<◌, ◌^◌, Bool, true, false, cond, List, [], ◌∷◌, ◌++◌, length, None, refl, sym, ap, ◌∙◌, subst}
use mathlib.Core.Path.{fun_ext}
use Rattle.reflect_wire.specs.Views.{records_of}
use Rattle.reflect_wire.specs.Encoding.{records_bytes}
use Rattle.protobuf_model.specs.Values.{Held, content, records, Message, absent, nothing}
use Rattle.protobuf_model.specs.Types.{Name, Types}
use Rattle.protobuf_model.specs.Coded.{Mean, IsRecoded}
use Rattle.protobuf_model.specs.Bytes.{field_numbers, numbered, run, is_declared, bytes_of}
use Rattle.protobuf_model.proofs.Bytewise.{bytes_mean}
use Rattle.protobuf_model.proofs.Merging.{nothing_typed}
use Rattle.known_messages.specs.KnownMessages.{KnowsHeld, AreFormOf}

pub forms_mean : (types : Types) (t : Name) (m : Message) (bytes : List ℕ) → AreFormOf types t m bytes → length bytes < 2 ^ 64 → Mean types t bytes m
forms_mean types t m bytes f short =
    subst (λ b. Mean types t b m) (sym f.written) (bytes_mean types t m f.suits (subst (λ b. length b < 2 ^ 64) f.written short))

pub forms_recoded : (types : Types) (t : Name) (m : Message) (bytes : List ℕ) → AreFormOf types t m bytes → length bytes < 2 ^ 64
    → IsRecoded types t bytes bytes
forms_recoded types t m bytes f short = (m, forms_mean types t m bytes f short, sym f.written)

-- ---- nothing

numbered_nothing : (b : Bool) (n : ℕ) → numbered n (cond b [] []) ≡ []
numbered_nothing true n = refl
numbered_nothing false n = refl

run_nothing : (test : ℕ → Bool) (ns : List ℕ) → run (λ n. cond (test n) [] []) ns ≡ []
run_nothing test [] = refl
run_nothing test (n ∷ ns) = ap (λ rs. rs ++ run (λ n. cond (test n) [] []) ns) (numbered_nothing (test n) n) ∙ run_nothing test ns

nothing_written : (types : Types) (t : Name) → bytes_of types t nothing ≡ []
nothing_written types t =
    ap (λ rs. records_bytes (records_of rs)) (ap (λ rs. rs ++ run (λ n. cond (is_declared (types t n)) [] []) field_numbers) (run_nothing (λ n. is_declared (types t n)) field_numbers)
    ∙ run_nothing (λ n. is_declared (types t n)) field_numbers)

pub nothing_formed : (types : Types) (t : Name) → AreFormOf types t nothing []
nothing_formed types t = record { suits = nothing_typed 100 types t; known = λ n. refl; written = sym (nothing_written types t) }

unknown_absent : (types : Types) (h : Held) → KnowsHeld types None h → h ≡ absent
unknown_absent types (records ps) a = ap records a
unknown_absent types (content c) a = absurd a

pub only_nothing : (types : Types) (t : Name) (m : Message) (bytes : List ℕ) → ((n : ℕ) → types t n ≡ None) → AreFormOf types t m bytes
    → (m ≡ nothing) × (bytes ≡ [])
only_nothing types t m bytes none f =
    let same : m ≡ nothing = fun_ext (λ n. unknown_absent types (m n) (subst (λ o. KnowsHeld types o (m n)) (none n) (f.known n))) in
    (same, f.written ∙ ap (bytes_of types t) same ∙ nothing_written types t)
